-- Certificates that are printed one after the other.
use Rattle.std.proofs.Common.{◌≡◌, ℕ, zero, suc, ◌+◌, ◌<◌, ◌≤◌, List, [], ◌∷◌, ◌++◌, length, take, drop, map, get_or, Option, None, Some, Ok, Err, Result, IfSome, refl, sym, ap, ◌∙◌, subst, inl, inr, arith, append_assoc, append-nil, length-append}
use Rattle.std.specs.Prelude.{⊤, ◌⊎◌, Contains, true, slice_index}
use Rattle.std.proofs.lemmas.List.Elements.{Contains-append_left, Contains-append_right}
use Rattle.std.specs.Io.KnownBytes.{Appends}
use Rattle.std.proofs.KnownBytes.{Appends-trans}
use Rattle.std.proofs.lemmas.List.{take-append-drop, take_all, take_more, get_or-map, length-map}
use Rattle.nm_base.specs.declared.letter.LetterId.{LetterId}
use Rattle.nm_base.specs.declared.letter.AcceptNote.{AcceptNote}
use Rattle.nm_outside.specs.Causes.{Rose}
use Rattle.nm_outside.specs.Files.{AppendsPart}
use Rattle.nm_outside.specs.declared.cabinet.Failed.{Failed}
use Rattle.nm_outside.proofs.Parts.{part_given}
use Rattle.c_tree.specs.declared.program.Program.{Program}
use Rattle.c_tree.specs.Play.{script_of}
use Rattle.event_list.specs.declared.Event.{Event}
use Rattle.event_list.specs.Runs.{IsRun}
use Rattle.event_list.specs.Traces.{IsLoggedName}
use Rattle.event_list.specs.Turns.{all_reached}
use Rattle.event_list.proofs.TraceFacts.{map_in}
use Rattle.trace_file.specs.Content.{Content}
use Rattle.processes.specs.Standing.{Standing}
use Rattle.replay_core.specs.Gates.{seen_trace}
use Rattle.replay_core.specs.declared.finish.Finished.{Finished}
use Rattle.replay_core.specs.declared.finish.ReplayFault.{ReplayFault}
use Rattle.replay_core.specs.declared.finish.ReplayFault.TheVariants as faults
use Rattle.replay_core.specs.Replaying.{Replaying, HasFinished, HasFailed}
use Rattle.cut_witness.specs.declared.certificates.Witness.{Witness}
use Rattle.cut_witness.specs.Certificates.{IsCertificate, IsCarriedOut}
use Rattle.cut_witness.specs.declared.comparisons.Compared.{Compared}
use Rattle.cut_witness.specs.declared.comparisons.Compared.TheVariants.{Differs}
use Rattle.cut_witness.specs.Comparisons.{Noted, Missed, HasEntries, IsCompared, letter_in, trace_entries}
use Rattle.report.specs.declared.cause.Refusal.TheVariants.{NotItsTrace}
use Rattle.report.specs.declared.cause.Refusal.TheVariants as refusals
use Rattle.report.specs.Printing.{Prints}
use Rattle.report.specs.Texts.{certificate, certificates_line}
use Rattle.nm_top.specs.declared.status.Status.{Status}
use Rattle.nm_top.specs.declared.status.Status.TheVariants as statuses
use Rattle.nm_top.specs.declared.stop.Stop.{Stop}
use Rattle.nm_top.specs.declared.stop.Stop.TheVariants as stops
use Rattle.nm_top.specs.declared.certify.Halt.{Halt}
use Rattle.nm_top.specs.declared.certify.Halt.TheVariants.{Write, Memory}
use Rattle.nm_top.specs.Certifying.{Certifies, AreCertified, none, more}
use Rattle.nm_top.specs.Finishing.{finished, entries_of}
use Rattle.nm_top.specs.private.Works.{Work, Whole, Refusing, Ending, Short, Broken, Tells, work_of}
use Rattle.nm_top.specs.private.Certifications.{Given, GivenPart, PutsCertificates}
use Rattle.nm_top.specs.private.Tellings.{Told, AreCertificates, IsCertifyWork, IsStuckStop}

-- the letters that a trace names are those of its notes and then the lost ones
pub names_are : (notes : List AcceptNote) (lost : List LetterId) → map letter_in (trace_entries notes lost) ≡ map (λ note. note.id) notes ++ lost
names_are [] lost = missed lost
  where
    missed : (ids : List LetterId) → map letter_in (map Missed ids) ≡ ids
    missed [] = refl
    missed (id ∷ ids) = ap (λ (xs : List LetterId). id ∷ xs) (missed ids)
names_are (note ∷ notes) lost = ap (λ (xs : List LetterId). note.id ∷ xs) (names_are notes lost)

-- and they are as many
pub many_names : (notes : List AcceptNote) (lost : List LetterId) → length notes + length lost ≡ length (map letter_in (trace_entries notes lost))
many_names notes lost =
    omega (arith, ap length (names_are notes lost), length-append (map (λ (note : AcceptNote). note.id) notes) lost, length-map notes (λ (note : AcceptNote). note.id))

-- ---- the letters of a trace with the entries of a run are logged there

module _ (mask : ℕ) (F : List Event) (notes : List AcceptNote) (lost : List LetterId) (entries : HasEntries mask notes lost F) where
  pub notes_logged : (k : ℕ) (xs : List AcceptNote) → k ≡ mask → xs ≡ notes → (note : AcceptNote) → Contains xs note → IsLoggedName k F note.id
  notes_logged k xs same is note has =
      let inside = Contains-append_left (map Noted notes) (map Missed lost) (Noted note) (map_in Noted notes note (subst (λ (ys : List AcceptNote). Contains ys note) is has)) in
      subst (λ j. IsLoggedName j F note.id) (sym same) ((entries (Noted note)).0 inside).logged

  pub lost_logged : (k : ℕ) (xs : List LetterId) → k ≡ mask → xs ≡ lost → (id : LetterId) → Contains xs id → IsLoggedName k F id
  lost_logged k xs same is id has =
      let inside = Contains-append_right (map Noted notes) (map Missed lost) (Missed id) (map_in Missed lost id (subst (λ (ys : List LetterId). Contains ys id) is has)) in
      subst (λ j. IsLoggedName j F id) (sym same) ((entries (Missed id)).0 inside).logged

-- a run under another word for its mask
pub same_run : (F : List Event) (k mask : ℕ) → k ≡ mask → (p : Program) × (n : ℕ) × IsRun (script_of p n) mask F → (p : Program) × (n : ℕ) × IsRun (script_of p n) k F
same_run F k mask same run = (run.0, run.1, subst (λ j. IsRun (script_of run.0 run.1) j F) (sym same) run.2)

-- the letters of the first notes, with one more
pub noted_more : (notes : List AcceptNote) (i : ℕ) (d : AcceptNote) → i < length notes
    → take (i + 1) (map (λ note. note.id) notes) ≡ take i (map (λ note. note.id) notes) ++ (get_or notes i d).id ∷ []
noted_more notes i d lt =
    take_more (map (λ note. note.id) notes) i d.id (omega (arith, lt, length-map notes (λ (note : AcceptNote). note.id)))
    ∙ ap (λ (id : LetterId). take i (map (λ note. note.id) notes) ++ id ∷ []) (get_or-map (λ (note : AcceptNote). note.id) notes i d d.id lt)

-- and those of all
pub noted_all : (notes : List AcceptNote) (i : ℕ) → length notes ≤ i → take i (map (λ note. note.id) notes) ≡ map (λ note. note.id) notes
noted_all notes i long = take_all i (map (λ note. note.id) notes) (omega (arith, long, length-map notes (λ (note : AcceptNote). note.id)))

-- the first of some letters and of one more
taken_of_one : (k : ℕ) (x : LetterId) → (take k (x ∷ []) ≡ []) ⊎ (take k (x ∷ []) ≡ x ∷ [])
taken_of_one zero x = inl refl
taken_of_one (suc k) x = inr (ap (λ (xs : List LetterId). x ∷ xs) (nothing k))
  where
    no_letters : List LetterId
    no_letters = []

    nothing : (k : ℕ) → take k no_letters ≡ []
    nothing zero = refl
    nothing (suc k) = refl

-- what is taken of the first list is taken of both
taken_of_first : (k : ℕ) (xs ys : List LetterId) → (many : ℕ) × (take many (xs ++ ys) ≡ take k xs)
taken_of_first zero xs ys = (0, refl)
taken_of_first (suc k) [] ys = (0, refl)
taken_of_first (suc k) (x ∷ xs) ys = let r = taken_of_first k xs ys in (suc r.0, ap (λ (zs : List LetterId). x ∷ zs) r.1)

-- and what is taken of the second, behind all of the first
taken_of_second : (k : ℕ) (xs ys : List LetterId) → (many : ℕ) × (take many (xs ++ ys) ≡ xs ++ take k ys)
taken_of_second k [] ys = (k, refl)
taken_of_second k (x ∷ xs) ys = let r = taken_of_second k xs ys in (suc r.0, ap (λ (zs : List LetterId). x ∷ zs) r.1)

-- nothing was given
gives_none : (a : Option (List ℕ)) → Appends a a []
gives_none None = tt
gives_none (Some xs) = sym (append-nil xs)

module _ (p : Program) (n mask : ℕ) (F : List Event) where
  -- certificates of these letters, and then of those
  certified_both : (xs ys : List LetterId) (a b : List ℕ) → AreCertified p n mask F xs a → AreCertified p n mask F ys b → AreCertified p n mask F (xs ++ ys) (a ++ b)
  certified_both xs ys a b h none =
      subst (λ (zs : List LetterId). AreCertified p n mask F zs (a ++ [])) (sym (append-nil xs)) (subst (λ (c : List ℕ). AreCertified p n mask F xs c) (sym (append-nil a)) h)
  certified_both xs ys a b h (more {letters = letters} {text = text} letter w k c) =
      subst (λ (zs : List LetterId). AreCertified p n mask F zs (a ++ (text ++ certificate w))) (append_assoc xs letters (letter ∷ []))
      (subst (λ (d : List ℕ). AreCertified p n mask F ((xs ++ letters) ++ letter ∷ []) d) (append_assoc a text (certificate w))
      (more letter w (certified_both xs letters a text h k) c))

  module _ (before mid after : Option (List ℕ)) (was at now : ℕ) where
    given_both : (xs ys : List LetterId) → Given p n mask F xs before mid was at → Given p n mask F ys mid after at now → Given p n mask F (xs ++ ys) before after was now
    given_both xs ys g h = record {
      text = g.text ++ h.text;
      certified = certified_both xs ys g.text h.text g.certified h.certified;
      given = Appends-trans before mid after g.text h.text g.given h.given;
      still = h.still ∙ g.still;
    }

    part_both : (x y : List ℕ) → Appends before mid x → AppendsPart mid after y → AppendsPart before after (x ++ y)
    part_both x y g h =
        let all : x ++ y ≡ (x ++ take h.0 y) ++ drop h.0 y = ap (λ (xs : List ℕ). x ++ xs) (sym (take-append-drop h.0 y)) ∙ sym (append_assoc x (take h.0 y) (drop h.0 y)) in
        part_given before after (x ++ y) (x ++ take h.0 y) (drop h.0 y) all (Appends-trans before mid after x (take h.0 y) g h.2)

    given_part : (xs ys : List LetterId) → Given p n mask F xs before mid was at → GivenPart p n mask F ys mid after at now → GivenPart p n mask F (xs ++ ys) before after was now
    given_part xs ys g h = record {
      text = g.text ++ h.text;
      certified = certified_both xs ys g.text h.text g.certified h.certified;
      given = part_both g.text h.text g.given h.given;
      rose = subst (λ k. Rose k now) g.still h.rose;
    }

    -- the certificates of these letters were given, and those of the next ones were tried
    pub puts_both : (xs ys : List LetterId) (r : Result ⊤ Halt) → Given p n mask F xs before mid was at → PutsCertificates p n mask F ys mid after at now r
        → PutsCertificates p n mask F (xs ++ ys) before after was now r
    puts_both xs ys (Ok done) g h = given_both xs ys g h
    puts_both xs ys (Err Write) g h =
        let many = taken_of_second h.0 xs ys in
        (many.0, subst (λ (zs : List LetterId). GivenPart p n mask F zs before after was now) (sym many.1) (given_part xs (take h.0 ys) g h.1))
    puts_both xs ys (Err Memory) g h =
        let many = taken_of_second h.0 xs ys in
        (many.0, subst (λ (zs : List LetterId). Given p n mask F zs before after was now) (sym many.1) (given_both xs (take h.0 ys) g h.1))

  -- what was found is the letter's certificate
  pub certifies : (letter : LetterId) (found : Option Witness) (w : Witness) → found ≡ Some w → IfSome found (λ w. (w.id ≡ letter) × IsCertificate mask F w)
      → IfSome found (IsCarriedOut (script_of p n) mask F) → Certifies p n mask F letter w
  certifies letter found w is told carried =
      let t = subst (λ (o : Option Witness). IfSome o (λ w. (w.id ≡ letter) × IsCertificate mask F w)) is told in
      record { names = t.0; certificate = t.1; carried = subst (λ (o : Option Witness). IfSome o (IsCarriedOut (script_of p n) mask F)) is carried }

  -- the same letters
  pub same_given : (before after : Option (List ℕ)) (was now : ℕ) (xs ys : List LetterId) → xs ≡ ys → Given p n mask F xs before after was now → Given p n mask F ys before after was now
  same_given before after was now xs ys is g = subst (λ (zs : List LetterId). Given p n mask F zs before after was now) is g

  -- no certificate
  pub given_none : (a : Option (List ℕ)) (k : ℕ) → Given p n mask F [] a a k k
  given_none a k = record { text = []; certified = none; given = gives_none a; still = refl }

  module _ (before after : Option (List ℕ)) (was now : ℕ) where
    -- those of the first letters failed, and so do those of all
    pub puts_first : (xs ys : List LetterId) (r : Result ⊤ Halt) (e : Halt) → r ≡ Err e → PutsCertificates p n mask F xs before after was now r
        → PutsCertificates p n mask F (xs ++ ys) before after was now (Err e)
    puts_first xs ys (Ok done) e is h = absurd cc
    puts_first xs ys (Err f) e is h = subst (λ (r : Result ⊤ Halt). PutsCertificates p n mask F (xs ++ ys) before after was now r) is (by f h)
      where
        by : (f : Halt) → PutsCertificates p n mask F xs before after was now (Err f) → PutsCertificates p n mask F (xs ++ ys) before after was now (Err f)
        by Write h =
            let many = taken_of_first h.0 xs ys in
            (many.0, subst (λ (zs : List LetterId). GivenPart p n mask F zs before after was now) (sym many.1) h.1)
        by Memory h =
            let many = taken_of_first h.0 xs ys in
            (many.0, subst (λ (zs : List LetterId). Given p n mask F zs before after was now) (sym many.1) h.1)

    -- one certificate
    pub gave_one : (letter : LetterId) (w : Witness) → Certifies p n mask F letter w → (r : Result ⊤ Failed) → r ≡ Ok tt → Prints before after was now (certificate w) r
        → Given p n mask F (letter ∷ []) before after was now
    gave_one letter w c (Ok done) is h = record { text = certificate w; certified = more letter w none c; given = h.ok; still = h.cause.still }
    gave_one letter w c (Err e) is h = absurd cc

    pub gave_part : (letter : LetterId) (w : Witness) → Certifies p n mask F letter w → (r : Result ⊤ Failed) (e : Failed) → r ≡ Err e → Prints before after was now (certificate w) r
        → (many : ℕ) × GivenPart p n mask F (take many (letter ∷ [])) before after was now
    gave_part letter w c (Err f) e is h = (1, record { text = certificate w; certified = more letter w none c; given = h.err; rose = h.cause.rose })
    gave_part letter w c (Ok done) e is h = absurd cc

    -- the command halted
    pub told_halted : (letters : List LetterId) (halt : Halt) (status : Status) → PutsCertificates p n mask F letters before after was now (Err halt)
        → (halt ≡ Write → status ≡ statuses.WriteFault) → (halt ≡ Memory → status ≡ statuses.WantOfMemory) → Told (AreCertificates p n mask F letters) before after was now status
    told_halted letters Write status h write memory =
        record { work = Short h.1.text; is = (h.0, h.1.certified); tells = inl (write refl, h.1.rose, h.1.given) }
    told_halted letters Memory status h write memory =
        record { work = Short h.1.text; is = (h.0, h.1.certified); tells = inr (memory refl, h.1.still, h.1.given) }

  -- of a list of letters the first were given, and one more was tried
  module _ (before mid after : Option (List ℕ)) (was at now : ℕ) (letters : List LetterId) (i : ℕ) (letter : LetterId)
      (one : take (i + 1) letters ≡ take i letters ++ letter ∷ []) (g : Given p n mask F (take i letters) before mid was at) where
    pub gave_next : (r : Result ⊤ Halt) → r ≡ Ok tt → PutsCertificates p n mask F (letter ∷ []) mid after at now r → Given p n mask F (take (i + 1) letters) before after was now
    gave_next r is h =
        subst (λ (zs : List LetterId). Given p n mask F zs before after was now) (sym one)
        (subst (λ (r : Result ⊤ Halt). PutsCertificates p n mask F (take i letters ++ letter ∷ []) before after was now r) is
        (puts_both before mid after was at now (take i letters) (letter ∷ []) r g h))

    pub halts_next : (r : Result ⊤ Halt) (e : Halt) → r ≡ Err e → PutsCertificates p n mask F (letter ∷ []) mid after at now r
        → PutsCertificates p n mask F letters before after was now (Err e)
    halts_next r e is h =
        let whole : (take i letters ++ letter ∷ []) ++ drop (i + 1) letters ≡ letters =
        ap (λ (zs : List LetterId). zs ++ drop (i + 1) letters) (sym one) ∙ take-append-drop (i + 1) letters in
        subst (λ (zs : List LetterId). PutsCertificates p n mask F zs before after was now (Err e)) whole
        (puts_first before after was now (take i letters ++ letter ∷ []) (drop (i + 1) letters) r e is
        (puts_both before mid after was at now (take i letters) (letter ∷ []) r g h))

  -- the same mask and letters
  pub same_puts : (before after : Option (List ℕ)) (was now : ℕ) (k : ℕ) (xs ys : List LetterId) (r : Result ⊤ Halt) → k ≡ mask → xs ≡ ys
      → (IsRun (script_of p n) k F → PutsCertificates p n k F xs before after was now r) → IsRun (script_of p n) mask F → PutsCertificates p n mask F ys before after was now r
  same_puts before after was now k xs ys r same is puts run =
      subst (λ (zs : List LetterId). PutsCertificates p n mask F zs before after was now r) is
      (subst (λ j. PutsCertificates p n j F xs before after was now r) same (puts (subst (λ j. IsRun (script_of p n) j F) (sym same) run)))

  -- the letters of a trace: of its notes, and then the lost ones
  module _ (notes : List AcceptNote) (lost : List LetterId) where
    abbrev noted : List LetterId
    noted = map (λ (note : AcceptNote). note.id) notes

    abbrev named : List LetterId
    named = map letter_in (trace_entries notes lost)

    -- the command halted at the notes
    pub halted_first : (before after : Option (List ℕ)) (was now : ℕ) (r : Result ⊤ Halt) (halt : Halt) (status : Status) → r ≡ Err halt
        → PutsCertificates p n mask F noted before after was now r → (halt ≡ Write → status ≡ statuses.WriteFault) → (halt ≡ Memory → status ≡ statuses.WantOfMemory)
        → Told (AreCertificates p n mask F named) before after was now status
    halted_first before after was now r halt status is h =
        told_halted before after was now named halt status
        (subst (λ (zs : List LetterId). PutsCertificates p n mask F zs before after was now (Err halt)) (sym (names_are notes lost))
        (puts_first before after was now noted lost r halt is h))

    module _ (before mid after : Option (List ℕ)) (was at now : ℕ) (r s : Result ⊤ Halt) (is : r ≡ Ok tt)
        (h : PutsCertificates p n mask F noted before mid was at r) (k : PutsCertificates p n mask F lost mid after at now s) where
      puts_named : PutsCertificates p n mask F named before after was now s
      puts_named =
          subst (λ (zs : List LetterId). PutsCertificates p n mask F zs before after was now s) (sym (names_are notes lost))
          (puts_both before mid after was at now noted lost s (subst (λ (r : Result ⊤ Halt). PutsCertificates p n mask F noted before mid was at r) is h) k)

      -- the command halted at the lost letters
      pub halted_second : (halt : Halt) (status : Status) → s ≡ Err halt → (halt ≡ Write → status ≡ statuses.WriteFault) → (halt ≡ Memory → status ≡ statuses.WantOfMemory)
          → Told (AreCertificates p n mask F named) before after was now status
      halted_second halt status e =
          told_halted before after was now named halt status (subst (λ (s : Result ⊤ Halt). PutsCertificates p n mask F named before after was now s) e puts_named)

      -- all certificates were given
      pub given_named : s ≡ Ok tt → Given p n mask F named before after was now
      given_named e = subst (λ (s : Result ⊤ Halt). PutsCertificates p n mask F named before after was now s) e puts_named

  -- all certificates were given, and their number was tried
  module _ (before mid after : Option (List ℕ)) (was at now : ℕ) (letters : List LetterId) (status : Status) (g : Given p n mask F letters before mid was at)
      (number : ℕ) (many : number ≡ length letters) where
    pub told_all : (r : Result ⊤ Failed) → r ≡ Ok tt → Prints mid after at now (certificates_line number) r → status ≡ statuses.Done
        → Told (AreCertificates p n mask F letters) before after was now status
    told_all (Ok done) is h e = record {
      work = Whole (g.text ++ certificates_line (length letters));
      is = (g.text, g.certified, refl);
      tells = inr (e, h.cause.still ∙ g.still, Appends-trans before mid after g.text (certificates_line (length letters)) g.given (subst (λ k. Appends mid after (certificates_line k)) many h.ok));
    }
    told_all (Err f) is h e = absurd cc

    pub told_part : (r : Result ⊤ Failed) (f : Failed) → r ≡ Err f → Prints mid after at now (certificates_line number) r → status ≡ statuses.WriteFault
        → Told (AreCertificates p n mask F letters) before after was now status
    told_part (Err k) f is h e = record {
      work = Whole (g.text ++ certificates_line (length letters));
      is = (g.text, g.certified, refl);
      tells = inl (e, subst (λ k. Rose k now) g.still h.cause.rose, part_both before mid after was at now g.text (certificates_line (length letters)) g.given (subst (λ k. AppendsPart mid after (certificates_line k)) many h.err));
    }
    told_part (Ok done) f is h e = absurd cc

-- ---- what is told of a finished replay

module _ (p : Program) (t : Content) where
  -- memory was refused before anything was printed
  pub nothing_told : (a : Option (List ℕ)) (k : ℕ) → Told (IsCertifyWork p t) a a k k statuses.WantOfMemory
  nothing_told a k = record { work = Short []; is = inl refl; tells = inr (refl, refl, gives_none a) }

  module _ (E : List Event) (same : E ≡ (finished p t).events) (reached : all_reached (seen_trace t) (finished p t).events ≡ true)
      (before after : Option (List ℕ)) (was now : ℕ) (status : Status) where
    -- its entries are others than those of the trace
    pub differs_told : (r : Compared) (first : LetterId) → r ≡ Differs first → IsCompared t.mask t.notes t.lost E r → Tells (Refusing (NotItsTrace first)) before after was now status
        → Told (IsCertifyWork p t) before after was now status
    differs_told r first is compared tells = record {
      work = Refusing (NotItsTrace first);
      is = (reached, subst (λ (F : List Event). IsCompared t.mask t.notes t.lost F (Differs first)) same (subst (IsCompared t.mask t.notes t.lost E) is compared));
      tells = tells;
    }

    -- they are the same, and its certificates were told
    pub certificates_told : HasEntries t.mask t.notes t.lost E → Told (AreCertificates p t.n t.mask E (entries_of t)) before after was now status
        → Told (IsCertifyWork p t) before after was now status
    certificates_told has told =
        by told.work (subst (λ (F : List Event). AreCertificates p t.n t.mask F (entries_of t) told.work) same told.is) told.tells
      where
        by : (w : Work) → AreCertificates p t.n t.mask (finished p t).events (entries_of t) w → Tells w before after was now status → Told (IsCertifyWork p t) before after was now status
        by (Whole text) is tells = record {
          work = Whole text;
          is = (reached, subst (λ (F : List Event). HasEntries t.mask t.notes t.lost F) same has, is);
          tells = tells;
        }
        by (Short text) is tells = record { work = Short text; is = inr is; tells = tells }
        by (Refusing r) is tells = absurd is
        by (Ending text r) is tells = absurd is
        by Broken is tells = absurd is

  module _ {P M : Type 0} (stands_for : P → Standing) (new : Replaying P M) where
    -- what was finished is a run
    pub finished_run : (f : Finished) (E : List Event) → E ≡ new.events → HasFinished stands_for new (script_of p t.n) (seen_trace t) [] f
        → (E ≡ (finished p t).events) × IsRun (script_of p t.n) t.mask E
    finished_run f E at h =
        let same : E ≡ (finished p t).events = at ∙ h.stands.events in
        (same, subst (λ (F : List Event). IsRun (script_of p t.n) t.mask F) (sym same) h.stands.replay.run)

    -- the replay is stuck
    pub stuck_told : (fault : ReplayFault) (made counts : List ℕ) → fault ≡ faults.Stuck made → HasFailed stands_for new (script_of p t.n) (seen_trace t) [] fault → counts ≡ made
        → (before after : Option (List ℕ)) (was now : ℕ) (status : Status) (stop : Stop) → IsStuckStop t counts stop → Tells (work_of stop) before after was now status
        → Told (IsCertifyWork p t) before after was now status
    stuck_told fault made counts is failed same before after was now status stop stuck tells =
        by stop stuck tells (subst (HasFailed stands_for new (script_of p t.n) (seen_trace t) []) is failed)
      where
        by : (stop : Stop) → IsStuckStop t counts stop → Tells (work_of stop) before after was now status
            → HasFailed stands_for new (script_of p t.n) (seen_trace t) [] (faults.Stuck made) → Told (IsCertifyWork p t) before after was now status
        by (stops.Refused (refusals.Stuck n events recorded)) stuck tells h = record {
          work = Refusing (refusals.Stuck n events recorded);
          is = record {
            below = h.below;
            n_is = stuck.0;
            events_are = λ q. ap (λ (xs : List ℕ). slice_index xs q) (stuck.1 ∙ same) ∙ h.told q;
            counts_are = stuck.2;
          };
          tells = tells;
        }
        by stops.Memory stuck tells h = absurd stuck
        by (stops.Refused refusals.Usage) stuck tells h = absurd stuck
        by (stops.Refused (refusals.Absent name)) stuck tells h = absurd stuck
        by (stops.Refused (refusals.ReadFault name)) stuck tells h = absurd stuck
        by (stops.Refused (refusals.TooLong name)) stuck tells h = absurd stuck
        by (stops.Refused (refusals.ProgramRefused kind line)) stuck tells h = absurd stuck
        by (stops.Refused (refusals.ScheduleRefused kind place)) stuck tells h = absurd stuck
        by (stops.Refused (refusals.TraceDamaged kind place)) stuck tells h = absurd stuck
        by (stops.Refused (refusals.OtherProgram of_trace of_file)) stuck tells h = absurd stuck
        by (stops.Refused (refusals.Stopped turns)) stuck tells h = absurd stuck
        by (stops.Refused (refusals.NotItsTrace letter)) stuck tells h = absurd stuck
        by (stops.Refused refusals.InputFault) stuck tells h = absurd stuck
        by (stops.Refused refusals.InputFull) stuck tells h = absurd stuck
