-- What a machine knows before each event, and that it is right afterwards.
use Rattle.std.proofs.Common.{◌≡◌, ℕ, ℤ, ◌<◌, Bool, true, false, List, [], ◌∷◌, Option, Some, None, refl, sym, ap, subst}
use Rattle.std.proofs.Math.Logic.{∥∥₁_elim, ∥∥₁_map}
use Rattle.std.proofs.lemmas.Bool.{eqb-true}
use Rattle.std.proofs.Props.{props}
use Rattle.std.specs.Prelude.{IsTrue, slice_get, slice_index, option_map}
use Rattle.nm_base.specs.declared.kind.Kind.{Kind}
use Rattle.nm_base.specs.declared.kind.Kind.TheVariants as kind
use Rattle.nm_base.specs.declared.kind.FaultCause.{FaultCause}
use Rattle.nm_base.specs.declared.kind.FaultCause.TheVariants.{DataFull}
use Rattle.nm_base.specs.Message.{Message}
use Rattle.nm_base.specs.Scripts.{is_last}
use Rattle.stack_code.specs.declared.instr.Instr.{Instr}
use Rattle.stack_code.specs.declared.instr.Instr.TheVariants as instr
use Rattle.c_tree.specs.State.{Over, Stopped}
use Rattle.stack_code.specs.Code.{Placed, Code, steps_of}
use Rattle.stack_code.specs.Machine.{step}
use Rattle.proc_machine.specs.View.{control_of, data_with}
use Rattle.proc_machine.specs.declared.execution.Execution.{Execution}
use Rattle.proc_machine.specs.declared.pause.Pause.{Pause}
use Rattle.proc_machine.specs.declared.pause.Pause.TheVariants as pause
use Rattle.proc_machine.specs.Pauses.{pause_of}
use Rattle.proc_machine.specs.private.Ready.{is_addressed, has_room}
use Rattle.proc_machine.specs.private.Sound.{Holds}
use Rattle.proc_machine.specs.private.Run.{StandsBefore, instr_at, waits_at}
use Rattle.proc_machine.specs.Standing.{ComesTo, shown_state}
use Rattle.proc_machine.specs.private.Kept.{IsKept}
use Rattle.proc_machine.proofs.Sets.{Outcome-set}
use Rattle.proc_machine.proofs.Stepping.{ready_by}
use Rattle.proc_machine.proofs.Standings.{ends_there, ends_large, never_later}
use Rattle.proc_machine.proofs.Onwards.{leads, kept_both, addressed_is, has_room_is, set_is}

Instr-set : IsSet (Option Instr)
Instr-set = hlevel props

line_there : (o : Option Placed) (line : ℕ) → waits_at o (pause.Line line) ≡ true → option_map (λ (x : Placed). x.instr) o ≡ Some (instr.Line line)
line_there None line h = cc
line_there (Some x) line h = by x.instr h
  where
    by : (i : Instr) → waits_at (Some (record { instr = i; entered = x.entered })) (pause.Line line) ≡ true → Some i ≡ Some (instr.Line line)
    by (instr.Line l) h = ap (λ k. Some (instr.Line k)) (eqb-true l line h)
    by i h = cc

receive_there : (o : Option Placed) (set : ℕ) → waits_at o (pause.Receive set) ≡ true → option_map (λ (x : Placed). x.instr) o ≡ Some instr.Receive
receive_there None set h = cc
receive_there (Some x) set h = by x.instr h
  where
    by : (i : Instr) → waits_at (Some (record { instr = i; entered = x.entered })) (pause.Receive set) ≡ true → Some i ≡ Some instr.Receive
    by instr.Receive h = refl
    by i h = cc

module _ (code : Code) (count me : ℕ) (e : Execution) (b : Bool) (n : Pause) (kept : ∥ IsKept code count me e b n ∥₁) where
  abbrev at_place : Option Placed
  at_place = slice_get (steps_of code e.frame.function) e.frame.place

  module _ (x : Pause) (is : n ≡ x) (h : leads code count me x ≡ true) where
    known : ∥ (Holds code e × StandsBefore code count me e x) ∥₁
    known = kept_both code count me e b x h (subst (λ (y : Pause). ∥ IsKept code count me e b y ∥₁) is kept)

    pub held : ∥ Holds code e ∥₁
    held = ∥∥₁_map known (λ k. k.0)

    pub waits_is : IsTrue (waits_at at_place x)
    waits_is = ∥∥₁_elim known (hlevel props) (λ k. k.1.waits_there)

  pub at_line : (line : ℕ) → n ≡ pause.Line line → instr_at code e ≡ Some (instr.Line line)
  at_line line is = line_there at_place line (waits_is (pause.Line line) is refl)

  pub at_receive : (set : ℕ) → n ≡ pause.Receive set → instr_at code e ≡ Some instr.Receive
  at_receive set is = receive_there at_place set (waits_is (pause.Receive set) is refl)

  pub at_send : (words : ℕ) → n ≡ pause.Send → instr_at code e ≡ Some (instr.Send words) → is_addressed count words e.calls.own ≡ true
  at_send words is there =
      ∥∥₁_elim (known pause.Send is refl) (hlevel props) (λ k. addressed_is code count me e words there (ready_by code count me e (instr.Send words) ∣ k.0 ∣₁ there) k.1)

  pub at_print : (text : ℕ) → n ≡ pause.Print → instr_at code e ≡ Some (instr.Print text) → has_room code text e ≡ true
  at_print text is there =
      ∥∥₁_elim (known pause.Print is refl) (hlevel props) (λ k. has_room_is code count me e text there (ready_by code count me e (instr.Print text) ∣ k.0 ∣₁ there) k.1)

  pub set_known : (set : ℕ) → n ≡ pause.Receive set → slice_index e.calls.own 0 ≡ set
  set_known set is = ∥∥₁_elim (known (pause.Receive set) is refl) (hlevel props) (λ k. (set_is code count me e set (at_receive set is) k.1).0)

  pub set_some : (set : ℕ) → n ≡ pause.Receive set → 0 < set
  set_some set is = ∥∥₁_elim (known (pause.Receive set) is refl) (hlevel props) (λ k. (set_is code count me e set (at_receive set is) k.1).1)

-- ---- the last event

no_proof : IsProp ⊥
no_proof = hlevel props

Cause-set : IsSet FaultCause
Cause-set = hlevel props

module _ (code : Code) (count me : ℕ) (e : Execution) where
  abbrev Comes : Bool → Pause → List Message → List Kind → Type 0
  Comes b n inputs events = ComesTo code count me e b n inputs events

  abbrev Kept : Bool → Pause → Type 0
  Kept b n = ∥ IsKept code count me e b n ∥₁

  ends_begun : (k : Kind) (n : Pause) → (n ≡ pause.Done → ⊥) → (inputs : List Message) (events : List Kind) (c : Comes true n inputs events)
      → step code count me (control_of e) (data_with e events 1) ≡ Stopped Over (shown_state code count me e true (k ∷ events)) → Comes true pause.Done inputs (k ∷ events)
  ends_begun k n not inputs events c h = ends_there code count me e n not inputs events c k h

  ends_before : (cause : FaultCause) → cause ≡ DataFull → Kept false (pause.Fault cause) → (inputs : List Message) (events : List Kind) → Comes false (pause.Fault cause) inputs events
      → Comes false pause.Done inputs (kind.Faulted cause ∷ events)
  ends_before cause is k inputs [] c =
      let c2 = subst (λ x. Comes false (pause.Fault x) inputs []) is c in
      subst (λ x. Comes false pause.Done inputs (kind.Faulted x ∷ [])) (sym is) (record { steps = 0; comes = ∥∥₁_elim k (Outcome-set _ _) (λ h. ends_large code count me e h.1 inputs c2); stays = tt })
  ends_before cause is k inputs (x ∷ events) c =
      let c2 = subst (λ y. Comes false (pause.Fault y) inputs (x ∷ events)) is c in
      absurd (∥∥₁_elim k no_proof (λ h. never_later code count me e h.1 inputs x events c2))

  fault_is : (cause : FaultCause) → pause.Fault cause ≡ pause.Fault DataFull → cause ≡ DataFull
  fault_is cause h = cc

  never_end : (value : ℤ) → IsKept code count me e false (pause.End value) → ⊥
  never_end value k = let no = k.0 in cc

  ends_at : (b : Bool) (last : Kind) → is_last last ≡ true → Kept b (pause_of last) → (inputs : List Message) (events : List Kind) → Comes b (pause_of last) inputs events
      → Comes b pause.Done inputs (last ∷ events)
  ends_at true (kind.Ended value) h k inputs events c = ends_begun (kind.Ended value) (pause.End value) (λ e. cc) inputs events c (∥∥₁_elim k (Outcome-set _ _) (λ h. h.1.last events))
  ends_at true (kind.Faulted cause) h k inputs events c = ends_begun (kind.Faulted cause) (pause.Fault cause) (λ e. cc) inputs events c (∥∥₁_elim k (Outcome-set _ _) (λ h. h.1.last events))
  ends_at false (kind.Ended value) h k inputs events c = absurd (∥∥₁_elim k no_proof (never_end value))
  ends_at false (kind.Faulted cause) h k inputs events c = ends_before cause (∥∥₁_elim k (Cause-set _ _) (λ h. fault_is cause h.0)) k inputs events c
  ends_at b (kind.Line line) h k inputs events c = cc
  ends_at b (kind.Sent number dest chan len words) h k inputs events c = cc
  ends_at b (kind.Accepted set id) h k inputs events c = cc
  ends_at b (kind.Printed bytes) h k inputs events c = cc

  pub ends_by : (b : Bool) (n : Pause) (last : Kind) → is_last last ≡ true → n ≡ pause_of last → Kept b n → (inputs : List Message) (events : List Kind) → Comes b n inputs events
      → Comes b pause.Done inputs (last ∷ events)
  ends_by b n last h is k inputs events c =
      ends_at b last h (subst (λ (x : Pause). Kept b x) is k) inputs events (subst (λ (x : Pause). Comes b x inputs events) is c)
