-- From the front of a trace to a longer one.
use Rattle.std.proofs.Common.{◌≡◌, ℕ, ◌+◌, ◌<◌, ◌^◌, Bool, true, false, not, ◌||◌, eqb, List, [], ◌∷◌, ◌++◌, length, get_or, drop, Result, Ok, Err, refl, sym, ap, subst, ◌∙◌, arith, append_assoc, length-append}
use Rattle.std.specs.List.{flat_map}
use Rattle.std.proofs.lemmas.Bool.{eqb-true}
use Rattle.std.proofs.lemmas.Bool.Decides.{nat_tests}
use Rattle.std.proofs.lemmas.List.{append-nil, nil_from_length, drop-drop}
use Rattle.std.proofs.lemmas.List.Concat.{flat_map-append}
use Rattle.nm_base.specs.Fitting.{EachFits}
use Rattle.nm_base.specs.Fitting.EachFits.{none, more}
use Rattle.nm_base.specs.declared.letter.LetterId.{LetterId}
use Rattle.nm_base.specs.declared.letter.AcceptNote.{AcceptNote}
use Rattle.trace_file.specs.declared.fault.TraceFault.{TraceFault}
use Rattle.trace_file.specs.declared.fault.TraceFault.TheVariants as faults
use Rattle.trace_file.specs.declared.item.Item.{Item}
use Rattle.trace_file.specs.declared.item.Item.TheVariants.{Note, Lost, End}
use Rattle.trace_file.specs.Content.{Content, begun, with_note, with_lost}
use Rattle.trace_file.specs.Bytes.{front, header, header_part, note, lost_entry}
use Rattle.trace_file.specs.Rules.{IsHeader, FitsNote, FitsLost, is_late_note, is_late_lost, is_named}
use Rattle.trace_file.specs.Reading.{Damage, shape_at, ranked, entry_at, item_at, ◌>>=◌, FailsAs}
use Rattle.trace_file.specs.Outcomes.{TellsDamage}
use Rattle.trace_file.specs.Outcomes.IsDamage.{in_entry}
use Rattle.trace_file.specs.private.Places.{with_entries, Reaches}
use Rattle.trace_file.proofs.Cells.{IsBytes, IsBytes-drop, note_back, lost_back, word_below}
use Rattle.trace_file.proofs.Shapes.{guard_ok, shape_is, IsShape, IsNoteShape, IsLostShape}
use Rattle.trace_file.proofs.Marks.{not_false}

pub bind_ok : {A B : Type 0} (r : Result A Damage) (f : A → Result B Damage) (y : B) → (r >>= f) ≡ Ok y → (x : A) × (r ≡ Ok x) × (f x ≡ Ok y)
bind_ok (Ok x) f y e = (x, refl, e)
bind_ok (Err d) f y e = absurd cc

pub neither_is : (a b : Bool) → a || b ≡ false → (a ≡ false) × (b ≡ false)
neither_is false b e = (refl, e)
neither_is true b e = absurd cc

positive : (n : ℕ) → eqb n 0 ≡ false → 0 < n
positive n e = grind (arith, nat_tests)

pub flat_more : {X : Type 0} (f : X → List ℕ) (xs : List X) (x : X) → flat_map f (xs ++ x ∷ []) ≡ flat_map f xs ++ f x
flat_more f xs x = flat_map-append f xs (x ∷ []) ∙ ap (λ (ys : List ℕ). flat_map f xs ++ ys) (append-nil (f x))

-- one note more
pub front_note : (t : Content) (a : AcceptNote) → t.lost ≡ [] → front (with_entries t (t.notes ++ a ∷ []) t.lost) ≡ front t ++ note a
unfolding front
front_note t a nothing =
    let ns = flat_map note t.notes in
    ap (λ (lost : List LetterId). header t ++ (flat_map note (t.notes ++ a ∷ []) ++ flat_map lost_entry lost)) nothing
    ∙ ap (λ (ys : List ℕ). header t ++ ys) (append-nil (flat_map note (t.notes ++ a ∷ [])) ∙ flat_more note t.notes a)
    ∙ sym (append_assoc (header t) ns (note a))
    ∙ ap (λ (ys : List ℕ). (header t ++ ys) ++ note a) (sym (append-nil ns))
    ∙ ap (λ (lost : List LetterId). (header t ++ (ns ++ flat_map lost_entry lost)) ++ note a) (sym nothing)

pub front_lost : (t : Content) (id : LetterId) → front (with_entries t t.notes (t.lost ++ id ∷ [])) ≡ front t ++ lost_entry id
unfolding front
front_lost t id =
    let ns = flat_map note t.notes in
    ap (λ (ys : List ℕ). header t ++ (ns ++ ys)) (flat_more lost_entry t.lost id)
    ∙ ap (λ (ys : List ℕ). header t ++ ys) (sym (append_assoc ns (flat_map lost_entry t.lost) (lost_entry id)))
    ∙ sym (append_assoc (header t) (ns ++ flat_map lost_entry t.lost) (lost_entry id))

pub note_front : (t : Content) (a : AcceptNote) → t.lost ≡ [] → front (with_note t a) ≡ front t ++ note a
unfolding front
note_front t a nothing = front_note t a nothing

pub lost_front : (t : Content) (id : LetterId) → front (with_lost t id) ≡ front t ++ lost_entry id
unfolding front
lost_front t id = front_lost t id

pub begun_front : (version mask n : ℕ) (digest : List ℕ) → front (begun version mask n digest) ≡ header_part version mask n digest
unfolding front
begun_front version mask n digest = append-nil (header_part version mask n digest)

-- what an entry of t's next place is
pub record NextNote (t : Content) (rest : List ℕ) (a : AcceptNote) : Type 0 where
  pub shape : IsNoteShape t.n rest a
  pub none : t.lost ≡ []
  pub rises : is_late_note t.notes a ≡ false
  pub fresh : is_named t.notes t.lost a.id ≡ false

pub record NextLost (t : Content) (rest : List ℕ) (id : LetterId) : Type 0 where
  pub shape : IsLostShape t.n rest id
  pub rises : is_late_lost t.lost id ≡ false
  pub fresh : is_named t.notes t.lost id ≡ false

abbrev pub IsNextItem : Content → List ℕ → Item → Type 0
IsNextItem t rest (Note a) = NextNote t rest a
IsNextItem t rest (Lost id) = NextLost t rest id
IsNextItem t rest End = get_or rest 0 0 ≡ 3

ranked_is : (t : Content) (place : ℕ) (rest : List ℕ) (x item : Item) → IsShape t.n rest x → ranked t.notes t.lost place x ≡ Ok item → (x ≡ item) × IsNextItem t rest x
ranked_is t place rest (Note a) item shape e =
    let order = guard_ok (not (eqb (length t.lost) 0) || is_late_note t.notes a) _ _ item e in
    let named = guard_ok (is_named t.notes t.lost a.id) _ _ item order.1 in
    let parts = neither_is _ _ order.0 in
    (cc, record { shape = shape; none = nil_from_length t.lost (eqb-true _ _ (not_false _ parts.0)); rises = parts.1; fresh = named.0 })
ranked_is t place rest (Lost id) item shape e =
    let order = guard_ok (is_late_lost t.lost id) _ _ item e in
    let named = guard_ok (is_named t.notes t.lost id) _ _ item order.1 in
    (cc, record { shape = shape; rises = order.0; fresh = named.0 })
ranked_is t place rest End item shape e = (cc, shape)

pub next_is : (t : Content) (rest : List ℕ) (item : Item) → item_at t rest ≡ Ok item → IsNextItem t rest item
next_is t rest item e =
    let place = length (front t) in
    let found = bind_ok (shape_at t.n place rest) (ranked t.notes t.lost place) item e in
    let is = ranked_is t place rest found.0 item (shape_is t.n place rest found.0 found.1) found.2 in
    subst (IsNextItem t rest) is.0 is.1

same_header : (t : Content) (notes : List AcceptNote) (lost : List LetterId) → IsHeader t → IsHeader (with_entries t notes lost)
same_header t notes lost h = record { version = h.version; some = h.some; few = h.few; digest = h.digest }

-- the bytes go on behind the item
goes_on : (before item bytes : List ℕ) (place k : ℕ) → place ≡ length before → bytes ≡ before ++ drop place bytes → drop place bytes ≡ item ++ drop k (drop place bytes)
    → bytes ≡ (before ++ item) ++ drop (place + k) bytes
goes_on before item bytes place k e split is =
    split ∙ ap (λ (xs : List ℕ). before ++ xs) (is ∙ ap (λ (xs : List ℕ). item ++ xs) (drop-drop k place bytes)) ∙ sym (append_assoc before item (drop (place + k) bytes))

pub passes_note : (t : Content) (place : ℕ) (bytes : List ℕ) (a : AcceptNote) → IsBytes bytes → Reaches t place bytes → item_at t (drop place bytes) ≡ Ok (Note a)
    → Reaches (with_entries t (t.notes ++ a ∷ []) t.lost) (place + 11) bytes
passes_note t place bytes a fits at e =
    let rest = drop place bytes in
    let rest-fits = IsBytes-drop place bytes fits in
    let next = next_is t rest (Note a) e in
    let shape = next.shape in
    let fit : FitsNote t.n t.notes a = record {
      receiver = subst (λ (b : AcceptNote). b.receiver.no < t.n) shape.is shape.receiver;
      receive = subst (λ (b : AcceptNote). b.receive < 2 ^ 32) shape.is (word_below rest 2 rest-fits);
      letter = record {
        sender = subst (λ (b : AcceptNote). b.id.sender.no < t.n) shape.is shape.sender;
        number = subst (λ (b : AcceptNote). b.id.number < 2 ^ 32) shape.is (word_below rest 7 rest-fits);
      };
      rises = next.rises;
      fresh = subst (λ (lost : List LetterId). is_named t.notes lost a.id ≡ false) next.none next.fresh;
    } in
    let more_bytes = front_note t a next.none in
    record {
      rules = record {
        header = same_header t (t.notes ++ a ∷ []) t.lost at.rules.header;
        notes = more at.rules.notes fit;
        lost = subst (λ (lost : List LetterId). EachFits (FitsLost t.n (t.notes ++ a ∷ [])) lost) (sym next.none) none;
      };
      place_is = sym (ap length more_bytes ∙ length-append (front t) (note a) ∙ ap (λ (k : ℕ). k + 11) (sym at.place_is));
      split = goes_on (front t) (note a) bytes place 11 at.place_is at.split
          (note_back rest rest-fits shape.tag shape.long ∙ ap (λ (b : AcceptNote). note b ++ drop 11 rest) shape.is)
          ∙ ap (λ (xs : List ℕ). xs ++ drop (place + 11) bytes) (sym more_bytes);
    }

pub passes_lost : (t : Content) (place : ℕ) (bytes : List ℕ) (id : LetterId) → IsBytes bytes → Reaches t place bytes → item_at t (drop place bytes) ≡ Ok (Lost id)
    → Reaches (with_entries t t.notes (t.lost ++ id ∷ [])) (place + 6) bytes
passes_lost t place bytes id fits at e =
    let rest = drop place bytes in
    let rest-fits = IsBytes-drop place bytes fits in
    let next = next_is t rest (Lost id) e in
    let shape = next.shape in
    let fit : FitsLost t.n t.notes t.lost id = record {
      letter = record {
        sender = subst (λ (b : LetterId). b.sender.no < t.n) shape.is shape.sender;
        number = subst (λ (b : LetterId). b.number < 2 ^ 32) shape.is (word_below rest 2 rest-fits);
      };
      rises = next.rises;
      fresh = next.fresh;
    } in
    let more_bytes = front_lost t id in
    record {
      rules = record {
        header = same_header t t.notes (t.lost ++ id ∷ []) at.rules.header;
        notes = at.rules.notes;
        lost = more at.rules.lost fit;
      };
      place_is = sym (ap length more_bytes ∙ length-append (front t) (lost_entry id) ∙ ap (λ (k : ℕ). k + 6) (sym at.place_is));
      split = goes_on (front t) (lost_entry id) bytes place 6 at.place_is at.split
          (lost_back rest rest-fits shape.tag shape.long ∙ ap (λ (b : LetterId). lost_entry b ++ drop 6 rest) shape.is)
          ∙ ap (λ (xs : List ℕ). xs ++ drop (place + 6) bytes) (sym more_bytes);
    }

-- an item that is there has a first byte
pub has_item : (t : Content) (rest : List ℕ) (item : Item) → item_at t rest ≡ Ok item → 0 < length rest
unfolding shape_at
has_item t rest item e =
    let place = length (front t) in
    let found = bind_ok (shape_at t.n place rest) (ranked t.notes t.lost place) item e in
    let some = guard_ok (eqb (length rest) 0) _ _ found.0 found.1 in
    positive (length rest) some.0

pub item_here : (t : Content) (place : ℕ) (bytes rest : List ℕ) (r : Result Item Damage) → rest ≡ drop place bytes → place ≡ length (front t) → entry_at t.n t.notes t.lost place rest ≡ r
    → item_at t (drop place bytes) ≡ r
item_here t place bytes rest r is at e =
    sym (ap (λ (xs : List ℕ). entry_at t.n t.notes t.lost place xs) is ∙ ap (λ (p : ℕ). entry_at t.n t.notes t.lost p (drop place bytes)) at) ∙ e

pub entry_fault : (t : Content) (place : ℕ) (bytes rest : List ℕ) (e : TraceFault) → rest ≡ drop place bytes → Reaches t place bytes
    → FailsAs e (entry_at t.n t.notes t.lost place rest) → TellsDamage bytes e
entry_fault t place bytes rest (faults.Damage kind p) is at e = in_entry t (drop place bytes) at.rules at.split (item_here t place bytes rest (Err (kind, p)) is at.place_is e)
entry_fault t place bytes rest faults.Memory is at e = tt
