-- The entries of a consistent cut are a run.
use Rattle.std.proofs.Common.{◌≡◌, ℕ, ◌≤◌, cond, List, [], ◌∷◌, ◌++◌, sym, ap, ◌∙◌, subst, inl, inr, arith}
use Rattle.std.specs.Prelude.{Contains, nat_le}
use mathlib.Core.Path.{ap₂}
use Rattle.std.proofs.lemmas.Bool.{cases_eq, cases_lt, leb-true, le-leb, lt-leb}
use Rattle.std.proofs.lemmas.List.{append-nil}
use Rattle.std.proofs.lemmas.List.Elements.{filter-append}
use Rattle.nm_base.specs.Fitting.{none, more}
use Rattle.nm_base.specs.Scripts.{Script, Next, Goes, Wants, Over, IsLawful}
use Rattle.event_list.specs.declared.Event.{Event}
use Rattle.event_list.specs.Events.{count, taken_in}
use Rattle.event_list.specs.Order.{Delivers, Cut, Within}
use Rattle.event_list.specs.Cuts.{cut_list}
use Rattle.event_list.specs.Runs.{KindFits, Fits, IsRun, Sound}
use Rattle.event_list.proofs.Members.{in_filter, filter_in}
use Rattle.event_list.proofs.Soundness.{old, new, numbers, entry_at}
use Rattle.event_list.proofs.RunsSound.{runs_sound}
use Rattle.event_list.proofs.Projections.{IsPart, messages_same, sent_part, accepts_part}
use Rattle.event_list.proofs.Parts.{part_cut, taker_is}

pub cut_part : (c : Cut) (E : List Event) → IsPart (cut_list c E) E
cut_part c E a h = (in_filter (λ e. nat_le e.number (c e.proc.no)) E a h).0

pub cut_within : (c : Cut) (E : List Event) (a : Event) → Contains (cut_list c E) a → Within c a
cut_within c E a h = leb-true a.number (c a.proc.no) (in_filter (λ e. nat_le e.number (c e.proc.no)) E a h).1

pub cut_has : (c : Cut) (E : List Event) (a : Event) → Contains E a → Within c a → Contains (cut_list c E) a
cut_has c E a h w = filter_in (λ e. nat_le e.number (c e.proc.no)) E a h (le-leb a.number (c a.proc.no) w)

-- the cut holds the send of each receive in it
abbrev pub IsClosed : List Event → Cut → Type 0
IsClosed E c = (a b : Event) → Contains E a → Contains E b → Delivers a b → Within c b → Within c a

module _ (s : ℕ → Script) (law : (p : ℕ) → IsLawful (s p)) (M : ℕ) (c : Cut) where
  module _ (E : List Event) (e : Event) (run : IsRun s M E) (f : Fits s M E e) (closed : IsClosed (E ++ e ∷ []) c) (crun : IsRun s M (cut_list c E)) (within : Within c e) where
    abbrev C : List Event
    C = cut_list c E

    abbrev p : ℕ
    p = e.proc.no

    g : Sound M E
    g = runs_sound s law run

    k : Sound M C
    k = runs_sound s law crun

    -- all entries of its process are in the cut
    pub has_own : (a : Event) → Contains E a → a.proc.no ≡ p → Contains C a
    has_own a h q = cut_has c E a h (omega (arith, (numbers g a h).1, f.next_number, within, ap (count E) q, ap c q))

    pub as_many : count C p ≡ count E p
    as_many = elim (cases_eq (count E p) 0) [
      | inl z ↦ omega (arith, z, (part_cut k g (cut_part c E)).is_cut p)
      | inr nz ↦
          let a = entry_at g p (count E p) (omega arith) (omega arith) in
          omega (arith, (numbers k a.0 (has_own a.0 a.1 a.2)).1, a.3, ap (count C) a.2, (part_cut k g (cut_part c E)).is_cut p)
    ]

    still : (n : Next) → KindFits M E e n → KindFits M C e n
    still (Goes kind) h = h
    still (Wants set) h =
        let t = h.2 in
        let a = t.sent.0 in
        let d : Delivers a e = record { letter = h.0; sent = t.sent.1.letter; taken = ap taken_in h.1 } in
        let w = closed a e (old E e a t.sent.1.in_list) (new E e) d within in (
          h.0,
          h.1,
          record {
            sent = (a, record { in_list = cut_has c E a t.sent.1.in_list w; letter = t.sent.1.letter });
            to_it = t.to_it;
            in_set = t.in_set;
            waits = λ z. t.waits (z.0, z.1, accepts_part (cut_part c E) z.0 z.1 h.0.id z.2);
            in_order = λ ordered l hl before.
                let le = sent_part (cut_part c E) l hl in
                let z = t.in_order ordered l le before in
                (z.0, z.1, record { in_list = has_own z.0 z.2.in_list (sym (taker_is g z.0 z.1 l z.2 le) ∙ before.dest ∙ t.to_it); kind = z.2.kind });
          },
        )
    still Over h = h

    pub fits_cut : Fits s M C e
    fits_cut = record {
      next_number = omega (arith, f.next_number, as_many);
      next_kind = subst (KindFits M C e) (ap₂ (s p).next (sym (messages_same k g g (cut_part c E) (λ a h. h) p as_many)) (sym as_many)) (still _ f.next_kind);
    }

  pub cut_runs : {E : List Event} → IsRun s M E → IsClosed E c → IsRun s M (cut_list c E)
  cut_runs none closed = none
  cut_runs (more {xs = E} {x = e} run f) closed =
      let crun = cut_runs run (λ a b ha hb d w. closed a b (old E e a ha) (old E e b hb) d w) in
      subst (IsRun s M) (sym (filter-append (λ e. nat_le e.number (c e.proc.no)) E (e ∷ []))) (elim (cases_lt (c e.proc.no) e.number) [
        | inl l ↦ subst (λ b. IsRun s M (cut_list c E ++ cond b (e ∷ []) [])) (sym (lt-leb e.number (c e.proc.no) l)) (subst (IsRun s M) (sym (append-nil (cut_list c E))) crun)
        | inr l ↦ subst (λ b. IsRun s M (cut_list c E ++ cond b (e ∷ []) [])) (sym (le-leb e.number (c e.proc.no) l)) (more crun (fits_cut E e run f closed crun l))
      ])

-- a cut's list has as many entries of a process as the cut
pub cut_count : {M N : ℕ} {E : List Event} (c : Cut) → Sound M E → Sound N (cut_list c E) → (p : ℕ) → c p ≤ count E p → count (cut_list c E) p ≡ c p
cut_count {E = E} c g k p l =
    let most : count (cut_list c E) p ≤ c p = elim (cases_eq (count (cut_list c E) p) 0) [
      | inl z ↦ omega (arith, z)
      | inr nz ↦ let a = entry_at k p (count (cut_list c E) p) (omega arith) (omega arith) in omega (arith, cut_within c E a.0 a.1, a.3, ap c a.2)
    ] in
    let least : c p ≤ count (cut_list c E) p = elim (cases_eq (c p) 0) [
      | inl z ↦ omega (arith, z)
      | inr nz ↦
          let a = entry_at g p (c p) (omega arith) l in
          let w = cut_has c E a.0 a.1 (omega (arith, a.3, ap c a.2)) in
          omega (arith, (numbers k a.0 w).1, a.3, ap (count (cut_list c E)) a.2)
    ] in
    omega (arith, most, least)
