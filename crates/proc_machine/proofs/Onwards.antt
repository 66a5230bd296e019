-- An event, and the run to the next.
use Rattle.std.proofs.Common.{◌≡◌, ℕ, zero, suc, ◌<◌, Bool, true, false, List, [], ◌∷◌, ◌++◌, Some, refl, sym, ap, ◌∙◌, subst, arith}
use Rattle.std.proofs.Math.Logic.{∥∥₁_elim, ∥∥₁_map}
use Rattle.std.proofs.lemmas.List.{append-nil}
use Rattle.std.proofs.Props.{props}
use Rattle.std.specs.Prelude.{slice_index}
use Rattle.nm_base.specs.declared.kind.Kind.{Kind}
use Rattle.nm_base.specs.declared.kind.Kind.TheVariants as kind
use Rattle.nm_base.specs.declared.letter.Letter.{Letter}
use Rattle.nm_base.specs.Message.{Message, message_of}
use Rattle.stack_code.specs.declared.instr.Instr.{Instr}
use Rattle.stack_code.specs.declared.instr.Instr.TheVariants as instr
use Rattle.stack_code.specs.Code.{Code}
use Rattle.stack_code.specs.Machine.{top, below, act, shown, push, conversions, text_at}
use Rattle.c_tree.specs.Expr.{receive}
use Rattle.proc_machine.specs.declared.execution.Execution.{Execution}
use Rattle.proc_machine.specs.declared.pause.Pause.{Pause}
use Rattle.proc_machine.specs.declared.pause.Pause.TheVariants as pause
use Rattle.proc_machine.specs.private.Outcomes.{pause_by}
use Rattle.proc_machine.specs.private.Ready.{IsReady, is_addressed, has_room}
use Rattle.proc_machine.specs.View.{control_of, data_with}
use Rattle.proc_machine.specs.private.Moves.{Makes, Takes}
use Rattle.proc_machine.specs.private.Sound.{Holds}
use Rattle.proc_machine.specs.private.Run.{Reaches, StandsBefore, After, Accepts, instr_at}
use Rattle.proc_machine.specs.Standing.{ComesTo}
use Rattle.proc_machine.specs.private.Kept.{IsTooLarge, IsKept}
use Rattle.proc_machine.proofs.Sending.{send_faults, print_faults, word_bounds}
use Rattle.proc_machine.proofs.Stepping.{by_shown, step_of, holds_after}
use Rattle.proc_machine.proofs.Standings.{goes_through}

module _ (code : Code) (count me : ℕ) where
  module _ (old mid new : Execution) (i : Instr) (is : instr_at code old ≡ Some i) where
    pub after_by : (k : Kind) (next : Pause) → Makes code count me i old mid k
        → ((events : List Kind) → Reaches code count me (control_of mid) (data_with mid events 0) (control_of new) (data_with new events 0)) → StandsBefore code count me new next
        → After code count me old new k next
    after_by k next made reaches stands = record {
      middle = mid;
      makes = λ events. step_of code count me old mid i is (data_with old events 1) ∙ ap (shown code count me (control_of old)) (made.0 events);
      reaches = reaches;
      stands = stands;
    }

    pub holds_made : (k : Kind) → Makes code count me i old mid k → ∥ Holds code old ∥₁ → ∥ Holds code mid ∥₁
    holds_made k made h = holds_after code count me old mid i is (data_with old [] 1) (data_with mid (k ∷ []) 0) (made.0 []) made.1 h

  pub accepts_by : (old mid new : Execution) (set : ℕ) (letter : Letter) (next : Pause) → instr_at code old ≡ Some instr.Receive → Takes code count me old mid set letter
      → ((events : List Kind) → Reaches code count me (control_of mid) (data_with mid events 0) (control_of new) (data_with new events 0)) → StandsBefore code count me new next
      → Accepts code count me old new set letter next
  accepts_by old mid new set letter next is took reaches stands = record {
    middle = mid;
    takes = λ events. step_of code count me old mid instr.Receive is (record (data_with old events 1) { inputs = message_of letter ∷ [] }) ∙ ap (shown code count me (control_of old)) (took.0 events);
    reaches = reaches;
    stands = stands;
  }

  pub holds_taken : (old mid : Execution) (set : ℕ) (letter : Letter) → instr_at code old ≡ Some instr.Receive → Takes code count me old mid set letter → ∥ Holds code old ∥₁ → ∥ Holds code mid ∥₁
  holds_taken old mid set letter is took h =
      holds_after code count me old mid instr.Receive is (record (data_with old [] 1) { inputs = message_of letter ∷ [] }) (data_with mid (kind.Accepted set letter.id ∷ []) 0) (took.0 []) took.1 h

  -- ---- what an execution knows where it stands

  module _ (e : Execution) (i : Instr) (is : instr_at code e ≡ Some i) where
    next_by : (next : Pause) → StandsBefore code count me e next → pause_by (act code count me i (control_of e) (data_with e [] 1)) ≡ Some next
    next_by next s =
        sym (by_shown code count me (control_of e) (act code count me i (control_of e) (data_with e [] 1)))
        ∙ ap pause_by (sym (step_of code count me e e i is (data_with e [] 1)))
        ∙ s.next_is []

  pub addressed_is : (e : Execution) (words : ℕ) → instr_at code e ≡ Some (instr.Send words) → IsReady code (instr.Send words) e → StandsBefore code count me e pause.Send
      → is_addressed count words e.calls.own ≡ true
  addressed_is e words is ready s = by (is_addressed count words e.calls.own) refl
    where
      wrong : is_addressed count words e.calls.own ≡ false → ⊥
      wrong h =
          let faults = (send_faults e count words ready.some (word_bounds words ready.named).0 h).next_is [] in
          let sends = next_by e (instr.Send words) is pause.Send s in
          cc

      by : (b : Bool) → is_addressed count words e.calls.own ≡ b → is_addressed count words e.calls.own ≡ true
      by true h = h
      by false h = absurd (wrong h)

  pub has_room_is : (e : Execution) (text : ℕ) → instr_at code e ≡ Some (instr.Print text) → IsReady code (instr.Print text) e → StandsBefore code count me e pause.Print → has_room code text e ≡ true
  has_room_is e text is ready s = by (has_room code text e) refl
    where
      wrong : has_room code text e ≡ false → ⊥
      wrong h =
          let faults = (print_faults e (text_at code count me text) (conversions (text_at code count me text)) ready.some h).next_is [] in
          let prints = next_by e (instr.Print text) is pause.Print s in
          cc

      by : (b : Bool) → has_room code text e ≡ b → has_room code text e ≡ true
      by true h = h
      by false h = absurd (wrong h)

  top_is : (own : List ℕ) → top own ≡ slice_index own 0
  top_is [] = refl
  top_is (x ∷ xs) = refl

  pub set_is : (e : Execution) (set : ℕ) → instr_at code e ≡ Some instr.Receive → StandsBefore code count me e (pause.Receive set) → (slice_index e.calls.own 0 ≡ set) × (0 < set)
  set_is e set is s =
      let r = by (top e.calls.own) (next_by e instr.Receive is (pause.Receive set) s) in
      (sym (top_is e.calls.own) ∙ r.0, r.1)
    where
      by : (t : ℕ) → pause_by (push (control_of e) (below e.calls.own) (receive t) (data_with e [] 1)) ≡ Some (pause.Receive set) → (t ≡ set) × (0 < set)
      by zero h = cc
      by (suc t) h = let same : suc t ≡ set = cc in (same, omega (arith, same))

  -- ---- what a machine keeps

  abbrev pub leads : Pause → Bool
  leads (pause.Fault cause) = false
  leads pause.Done = false
  leads n = true

  pub not_over : (n : Pause) → leads n ≡ true → n ≡ pause.Done → ⊥
  not_over pause.Done h e = cc
  not_over (pause.Fault cause) h e = cc
  not_over (pause.Line line) h e = cc
  not_over pause.Send h e = cc
  not_over (pause.Receive set) h e = cc
  not_over pause.Print h e = cc
  not_over (pause.End value) h e = cc

  abbrev Kept : Execution → Bool → Pause → Type 0
  Kept e b n = ∥ IsKept code count me e b n ∥₁

  pub both_kept : (e : Execution) (n : Pause) → leads n ≡ true → IsKept code count me e true n → Holds code e × StandsBefore code count me e n
  both_kept e pause.Done h k = cc
  both_kept e n h k = k

  -- at every pause
  pub kept_holds : (e : Execution) (n : Pause) → IsKept code count me e true n → Holds code e
  kept_holds e pause.Done k = k
  kept_holds e n k = k.0

  pub kept_large : (e : Execution) (n : Pause) → IsKept code count me e false n → IsTooLarge code e
  kept_large e pause.Done k = k
  kept_large e n k = k.1

  never_large : (e : Execution) (n : Pause) → leads n ≡ true → IsKept code count me e false n → ⊥
  never_large e pause.Done h k = cc
  never_large e (pause.Fault cause) h k = cc
  never_large e n h k = let no = k.0 in cc

  no_proof : IsProp ⊥
  no_proof = hlevel props

  pub kept_both : (e : Execution) (b : Bool) (n : Pause) → leads n ≡ true → Kept e b n → ∥ (Holds code e × StandsBefore code count me e n) ∥₁
  kept_both e true n h k = ∥∥₁_map k (both_kept e n h)
  kept_both e false n h k = absurd (∥∥₁_elim k no_proof (never_large e n h))

  pub kept_new : (e : Execution) (n : Pause) → ∥ Holds code e ∥₁ → StandsBefore code count me e n → Kept e true n
  kept_new e pause.Done h s = h
  kept_new e n h s = ∥∥₁_map h (λ x. (x, s))

  pub kept_on : (e e3 : Execution) (b : Bool) (n n3 : Pause) → leads n ≡ true → Kept e b n → ∥ Holds code e3 ∥₁ → StandsBefore code count me e3 n3 → Kept e3 b n3
  kept_on e e3 true n n3 h k g s = kept_new e3 n3 g s
  kept_on e e3 false n n3 h k g s = absurd (∥∥₁_elim k no_proof (never_large e n h))

  -- the last event leaves what is kept
  pub kept_over : (e : Execution) (b : Bool) (n : Pause) → Kept e b n → Kept e b pause.Done
  kept_over e true n k = ∥∥₁_map k (kept_holds e n)
  kept_over e false n k = ∥∥₁_map k (kept_large e n)

  -- ---- runs

  pub after_comes : (e e3 : Execution) (b : Bool) (n n3 : Pause) (k : Kind) → leads n ≡ true → Kept e b n → After code count me e e3 k n3 → (inputs : List Message) (events : List Kind)
      → ComesTo code count me e b n inputs events → ComesTo code count me e3 b n3 inputs (k ∷ events)
  after_comes e e3 true n n3 k h kept a inputs events c =
      subst (λ (l : List Message). ComesTo code count me e3 true n3 l (k ∷ events)) (append-nil inputs)
      (goes_through code count me e n (not_over n h) [] inputs events c k a.middle e3 n3 (a.makes events) (a.reaches (k ∷ events)) a.stands)
  after_comes e e3 false n n3 k h kept a inputs events c = absurd (∥∥₁_elim kept no_proof (never_large e n h))

  pub accepts_comes : (e e3 : Execution) (b : Bool) (n n3 : Pause) (set : ℕ) (letter : Letter) → leads n ≡ true → Kept e b n → Accepts code count me e e3 set letter n3
      → (inputs : List Message) (events : List Kind) → ComesTo code count me e b n inputs events
      → ComesTo code count me e3 b n3 (inputs ++ message_of letter ∷ []) (kind.Accepted set letter.id ∷ events)
  accepts_comes e e3 true n n3 set letter h kept a inputs events c =
      goes_through code count me e n (not_over n h) (message_of letter ∷ []) inputs events c (kind.Accepted set letter.id) a.middle e3 n3 (a.takes events)
      (a.reaches (kind.Accepted set letter.id ∷ events)) a.stands
  accepts_comes e e3 false n n3 set letter h kept a inputs events c = absurd (∥∥₁_elim kept no_proof (never_large e n h))
