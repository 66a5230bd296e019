-- What the next step makes where one event may be made.
use Rattle.std.proofs.Common.{◌≡◌, ℕ, suc, ◌+◌, true, List, [], ◌∷◌, ◌++◌, length, Option, Some, None, inl, inr, sym, ap, ◌∙◌, arith, length-append}
use Rattle.std.specs.Prelude.{slice_get}
use Rattle.nm_base.specs.declared.kind.Kind.{Kind}
use Rattle.nm_base.specs.Message.{Message}
use Rattle.c_tree.specs.State.{State, Able, Wants, Over, Outcome, Done, Stopped}
use Rattle.c_tree.proofs.Longer.{state_of, Leads, Extends}
use Rattle.stack_code.specs.Code.{Placed, Code, steps_of}
use Rattle.stack_code.specs.Laws.{more}
use Rattle.stack_code.specs.Machine.{Control, filled, blocks_of, act_if_any, shown, step}
use Rattle.stack_code.proofs.Law.{act_grows}
use Rattle.proc_machine.specs.declared.pause.Pause.{Pause}
use Rattle.proc_machine.specs.declared.pause.Pause.TheVariants as pause
use Rattle.proc_machine.specs.Pauses.{pause_of}
use Rattle.proc_machine.specs.private.Outcomes.{pause_by, newest}
use Rattle.proc_machine.specs.Standing.{goes_by_itself}
use Rattle.proc_machine.specs.Machines.{HasMade, HasCome}

-- what made no event has the events that it had
pub no_events : (made events : List Kind) (s : State) → s.events ≡ made ++ events → length made ≡ 0 → s.events ≡ events
no_events [] events s e l = e
no_events (x ∷ made) events s e l = absurd (omega (arith, l))

-- an outcome has made one event after these
record OneMore (before : List Kind) (first : Kind) (s : State) : Type 0 where
  pub events : s.events ≡ first ∷ before
  pub left : s.left ≡ 0

one_event : (made : List Kind) (first : Kind) (t s : State) (more' : List Kind) → s.events ≡ made ++ first ∷ t.events → s.events ≡ more' ++ t.events → s.left + length more' ≡ 1
    → OneMore t.events first s
one_event [] first t s more' e f l =
    let n = ap length e in
    let m = ap length f in
    record { events = e; left = omega (arith, l, n, m, length-append more' t.events) }
one_event (x ∷ made) first t s more' e f l =
    let n = ap length e in
    let m = ap length f in
    absurd (omega (arith, l, n, m, length-append more' t.events, length-append made (first ∷ t.events)))

module _ (code : Code) (count me : ℕ) (c : Control) (t s : State) (none : t.left ≡ 0) where
  abbrev at_place : Option Placed → State → Outcome Control
  at_place x = act_if_any code count me x c

  made_shown : (o : Outcome Control) (first : Kind) → OneMore t.events first (state_of o) → OneMore t.events first (state_of (shown code count me c o))
  made_shown (Done d u) first m = m
  made_shown (Stopped status u) first m = record { events = m.events; left = m.left }

  made_by : (o o' : Outcome Control) → Extends 1 [] o o' → Leads t (state_of o) → Leads (more 1 [] t) (state_of o') → shown code count me c o ≡ Stopped Able s
      → (first : Kind) × OneMore t.events first (state_of (shown code count me c o'))
  made_by (Done d u) o' x l m e = cc
  made_by (Stopped Over u) o' x l m e = cc
  made_by (Stopped (Wants set) u) o' x l m e = cc
  made_by (Stopped Able u) o' (inl x) l m e = absurd (omega (arith, x.1))
  made_by (Stopped Able u) o' (inr x) l m e =
      let w = x.1 in
      let same : u.events ≡ t.events = no_events l.made t.events u l.events (omega (arith, none, l.left)) in
      let events = w.since.events ∙ ap (λ es. w.since.made ++ w.first ∷ es) same in
      (w.first, made_shown o' w.first (one_event w.since.made w.first t (state_of o') m.made events m.events (omega (arith, none, m.left))))

  made_at : (x : Option Placed) → shown code count me c (at_place x t) ≡ Stopped Able s → (first : Kind) × OneMore t.events first (state_of (shown code count me c (at_place x (more 1 [] t))))
  made_at None e = cc
  made_at (Some x) e =
      let grows = act_grows code count me 1 [] (suc t.left) (suc (t.left + 1)) x.instr c in
      made_by (at_place (Some x) t) (at_place (Some x) (more 1 [] t)) (grows.follows t (omega arith) (omega arith)) (grows.steady.leads t) (grows.steady.leads (more 1 [] t)) e

  kind_fits : (o : Outcome Control) (n : Pause) (first : Kind) → goes_by_itself n ≡ true → pause_by o ≡ Some n → OneMore t.events first (state_of o) → pause_of first ≡ n
  kind_fits (Done d u) n first g p m = let seen = ap newest m.events in cc
  kind_fits (Stopped Able u) n first g p m = let seen = ap newest m.events in cc
  kind_fits (Stopped Over u) n first g p m = let seen = ap newest m.events in cc
  kind_fits (Stopped (Wants set) u) n first g p m =
      let same : n ≡ pause.Receive set = cc in
      let no = ap goes_by_itself same in
      cc

  has_made : (o : Outcome Control) (n : Pause) (first : Kind) → pause_of first ≡ n → OneMore t.events first (state_of o) → HasMade t.events n o
  has_made (Done d u) n first f m = record { made = first; fits = f; events_are = m.events; none_left = m.left }
  has_made (Stopped status u) n first f m = record { made = first; fits = f; events_are = m.events; none_left = m.left }

  -- where it stops for want of an event, it makes one event where it may
  pub makes_one : (n : Pause) → goes_by_itself n ≡ true → step code count me c t ≡ Stopped Able s → pause_by (step code count me c (more 1 [] t)) ≡ Some n
      → HasMade t.events n (step code count me c (more 1 [] t))
  makes_one n g e p =
      let r = made_at (slice_get (steps_of code c.function) c.pc) e in
      let o = step code count me c (more 1 [] t) in
      has_made o n r.0 (kind_fits o n r.0 g p r.1) r.1

  -- ---- a receive

  no_letter : (took : List Message) (u : State) → [] ≡ took ++ u.inputs → u.inputs ≡ []
  no_letter [] u e = sym e
  no_letter (x ∷ took) u e = cc

  stays_by : (channels : ℕ) (o o' : Outcome Control) → t.inputs ≡ [] → Extends 1 [] o o' → Leads t (state_of o) → shown code count me c o ≡ Stopped (Wants channels) s
      → HasCome t.events channels (shown code count me c o')
  stays_by channels (Done d u) o' i x l e = cc
  stays_by channels (Stopped Over u) o' i x l e = cc
  stays_by channels (Stopped Able u) o' i x l e = cc
  stays_by channels (Stopped (Wants set) u) o' i (inl x) l e =
      let set_is : set ≡ channels = cc in
      record {
        state = filled (blocks_of code count me c) (more 1 [] u);
        waits = ap (shown code count me c) x.0 ∙ ap (λ n. Stopped (Wants n) (filled (blocks_of code count me c) (more 1 [] u))) set_is;
        events_are = no_events l.made t.events u l.events (omega (arith, none, l.left));
      }
  stays_by channels (Stopped (Wants set) u) o' i (inr x) l e =
      let empty : u.inputs ≡ [] = no_letter l.took u (sym i ∙ l.inputs) in
      let comes = sym (ap (λ (ms : List Message). ms ++ []) empty) ∙ x.1.comes in
      cc

  stays_at : (channels : ℕ) (x : Option Placed) → t.inputs ≡ [] → shown code count me c (at_place x t) ≡ Stopped (Wants channels) s
      → HasCome t.events channels (shown code count me c (at_place x (more 1 [] t)))
  stays_at channels None i e = cc
  stays_at channels (Some x) i e =
      let grows = act_grows code count me 1 [] (suc t.left) (suc (t.left + 1)) x.instr c in
      stays_by channels (at_place (Some x) t) (at_place (Some x) (more 1 [] t)) i (grows.follows t (omega arith) (omega arith)) (grows.steady.leads t) e

  -- where it stops at a receive and no letter comes, it stops there with one more event, too
  pub comes_to : (channels : ℕ) → t.inputs ≡ [] → step code count me c t ≡ Stopped (Wants channels) s → HasCome t.events channels (step code count me c (more 1 [] t))
  comes_to channels i e = stays_at channels (slice_get (steps_of code c.function) c.pc) i e
