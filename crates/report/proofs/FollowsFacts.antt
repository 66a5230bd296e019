-- A replay does what was recorded, state by state, and prints a front of it.
use Rattle.std.proofs.Common.{◌≡◌, ℕ, ◌+◌, ◌-◌, ◌≤◌, List, ◌++◌, length, take, drop, sym, ap, ◌∙◌, subst, arith}
use Rattle.std.specs.Prelude.{Contains, filter_map}
use Rattle.std.specs.List.{flat_map, range_with_len}
use Rattle.std.proofs.lemmas.List.{take-append-drop, take-append-le}
use Rattle.std.proofs.lemmas.List.Elements.{filter_map-append, Contains-append_left}
use Rattle.nm_base.specs.declared.letter.LetterId.{LetterId}
use Rattle.nm_base.specs.Message.{Message}
use Rattle.c_tree.specs.declared.program.Program.{Program}
use Rattle.c_tree.specs.Play.{play_setting, play, script_of}
use Rattle.c_compile.specs.StmtCode.{program_code}
use Rattle.c_process.specs.Shown.{played_after, look_after, line_after, output_after}
use Rattle.c_process.proofs.Compiled.{compiled_is_code}
use Rattle.event_list.specs.declared.Event.{Event}
use Rattle.event_list.specs.Cuts.{cut_list}
use Rattle.event_list.specs.Events.{entries, count, messages, taken, taken_of, letter_named}
use Rattle.event_list.specs.Runs.{Sound}
use Rattle.event_list.specs.Sameness.{SameEntries}
use Rattle.event_list.specs.Traces.{Trace, IsReplay, Agrees}
use Rattle.event_list.specs.Laws.{IsRecorded}
use Rattle.event_list.proofs.CutRuns.{cut_runs}
use Rattle.event_list.proofs.Members.{filter_map_agree}
use Rattle.event_list.proofs.MessageFacts.{messages_part}
use Rattle.event_list.proofs.PrintFacts.{length_same, sent_same, taken_same, waiting_same, letters_same, replay_cut}
use Rattle.event_list.proofs.Projections.{IsPart, accepts_part, meaning_same, taken_in_list}
use Rattle.event_list.proofs.ReplayPrefix.{replay_prefix, replay_is_part}
use Rattle.event_list.proofs.RunsSound.{runs_sound}
use Rattle.event_list.proofs.SameFacts.{full_replay}
use Rattle.report.specs.Follows.{IsFront, letters_after, stood_after, Follows}
use Rattle.report.specs.Runs.{block_of, summary_of, blocks}
use Rattle.report.specs.Texts.{block, summary}
use Rattle.report.proofs.Growing.{output_grows}

-- the letters of p's first k entries in a part of E
pub letters_part : {M N : ℕ} {R E : List Event} → Sound M R → Sound N E → IsPart R E → Agrees E R → (p k : ℕ) → k ≤ count R p → letters_after R p k ≡ letters_after E p k
letters_part {R = R} {E = E} r g part agrees p k le =
    let front : take k (entries R p) ≡ take k (entries E p) =
    sym (take-append-le k (entries R p) (agrees p).0 le) ∙ ap (take k) (agrees p).1 in
    filter_map_agree (letter_named R) (letter_named E) (taken (take k (entries R p))) (λ id c. meaning id (among id c))
    ∙ ap (λ es. filter_map (letter_named E) (taken es)) front
  where
    among : (id : LetterId) → Contains (taken (take k (entries R p))) id → Contains (taken (entries R p)) id
    among id c =
        let all = sym (filter_map-append taken_of (take k (entries R p)) (drop k (entries R p))) ∙ ap taken (take-append-drop k (entries R p)) in
        subst (λ ids. Contains ids id) all (Contains-append_left (taken (take k (entries R p))) (taken (drop k (entries R p))) id c)

    meaning : (id : LetterId) → Contains (taken (entries R p)) id → letter_named R id ≡ letter_named E id
    meaning id c =
        let x = taken_in_list R p id c in
        meaning_same r g g part (λ a h. h) id (x.0, x.1, x.2) (x.0, x.1, accepts_part part x.0 x.1 id x.2)

module _ (program : Program) (n : ℕ) where
  stood_same : (E R : List Event) (p k : ℕ) → letters_after R p k ≡ letters_after E p k → stood_after program n R p k ≡ stood_after program n E p k
  stood_same E R p k e =
      ap (λ ms. record { played = played_after program n p ms k; look = look_after program n p ms k; line = line_after program n p ms k; output = output_after program n p ms k }) e

  -- what p printed after some events is a front of what it printed after more
  output_front : (p : ℕ) (some all later : List Message) (k m : ℕ) → some ++ later ≡ all → k ≤ m → IsFront (output_after program n p some k) (output_after program n p all m)
  output_front p some all later k m e le =
      let set = play_setting program n p in
      let code = program_code program.globals program.functions program.texts program.main in
      let grows = output_grows set code ((compiled_is_code program).stands n p) some later k (m - k) in
      let events : k + (m - k) ≡ m = omega (arith, le) in
      (grows.0, grows.1 ∙ ap (λ ms. (play set ms (k + (m - k))).state.output) e ∙ ap (λ j. (play set all j).state.output) events)

  -- ---- the same print

  block_same : {M N : ℕ} (E F : List Event) → Sound M E → Sound N F → SameEntries F E → (p : ℕ) → block_of program n F p ≡ block_of program n E p
  block_same E F g f same p =
      let events : count F p ≡ count E p = ap length (same.same p) in
      ap (λ ms. block p (look_after program n p ms (count F p)) (line_after program n p ms (count F p)) (count F p) (output_after program n p ms (count F p))) (letters_same same f g p)
      ∙ ap (λ k. block p (look_after program n p (messages E p) k) (line_after program n p (messages E p) k) k (output_after program n p (messages E p) k)) events

  mapped_same : {A : Type 0} (f g : A → List ℕ) → ((x : A) → f x ≡ g x) → (xs : List A) → flat_map f xs ≡ flat_map g xs
  mapped_same {A = A} f g same xs = ap (λ (h : A → List ℕ). flat_map h xs) (λ i x. same x i)

  -- lists with the same entries are printed alike
  pub printed_same : {M N : ℕ} (E F : List Event) → Sound M E → Sound N F → SameEntries F E → blocks program n F ≡ blocks program n E
  printed_same E F g f same =
      let each = mapped_same (block_of program n F) (block_of program n E) (block_same E F g f same) (range_with_len 0 n) in
      let events = length_same same in
      let sent = sent_same same in
      let accepted = taken_same same in
      let waits = waiting_same same f g in
      let end : summary_of F ≡ summary_of E = λ i. summary (events i) (sent i) (accepted i) (waits i) in
      λ i. each i ++ end i

  pub follows : (T : Trace) (E R : List Event) → IsRecorded (script_of program n) T E → IsReplay (script_of program n) T R → Follows program n E R
  follows T E R h replay =
      let s = script_of program n in
      let prefix = replay_prefix s h.lawful T E R h.run h.trace replay in
      let part = replay_is_part s h.lawful T E R h.run h.trace replay in
      let r = runs_sound s h.lawful replay.run in
      let g = runs_sound s h.lawful h.run in
      record {
        agrees = prefix.0;
        consistent = prefix.1;
        letters = λ p. messages_part r g part p;
        stands = λ p k le. stood_same E R p k (letters_part r g part prefix.0 p k le);
        output = λ p.
            let m = messages_part r g part p in
            output_front p (messages R p) (messages E p) m.0 (count R p) (count E p) m.1 (prefix.1.is_cut p);
        printed = printed_same (cut_list (count R) E) R (runs_sound s h.lawful (cut_runs s h.lawful T.mask (count R) h.run prefix.1.closed)) r
            (replay_cut s h.lawful T E R h.run h.trace replay);
      }

  pub full : (T : Trace) (E F : List Event) → IsRecorded (script_of program n) T E → IsReplay (script_of program n) T F → ((p : ℕ) → count F p ≡ T.counts p)
      → blocks program n F ≡ blocks program n E
  full T E F h replay counts =
      let s = script_of program n in
      let same = full_replay s h.lawful T E F h.run h.trace replay counts in
      printed_same E F (runs_sound s h.lawful h.run) (runs_sound s h.lawful replay.run) (record { same = λ p. sym (same.same p) })
