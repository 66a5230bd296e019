-- The line at which a process is.
use Rattle.std.proofs.Common.{◌≡◌, ℕ, suc, List, ◌∷◌, length, Option, Some, None, refl, ap, ◌∙◌}
use Rattle.nm_base.specs.declared.kind.Kind.{Kind}
use Rattle.nm_base.specs.declared.kind.Kind.TheVariants as kind
use Rattle.nm_base.specs.Message.{Message}
use Rattle.nm_base.specs.Scripts.{Next, Goes}
use Rattle.nm_base.specs.Scripts as scripts
use Rattle.c_tree.specs.declared.program.Program.{Program}
use Rattle.c_tree.specs.State.{Frame, State, Able, Wants, Over, Outcome, Done, Stopped}
use Rattle.c_tree.specs.Play.{PlaySetting, next, run_of}
use Rattle.c_tree.proofs.Longer.{state_of}
use Rattle.stack_code.specs.Machine.{Control, run_code}
use Rattle.c_compile.specs.Correct.{CodeStandsFor}
use Rattle.proc_machine.specs.declared.pause.Pause.{Pause}
use Rattle.proc_machine.specs.declared.pause.Pause.TheVariants as pause
use Rattle.proc_machine.specs.Pauses.{status_of, pause_of}
use Rattle.proc_machine.specs.Machines.{MachineSetting, HasMade, MakesNext}
use Rattle.c_process.specs.Shown.{line_in, line_of}
use Rattle.c_process.specs.Values.{line_to_come}
use Rattle.c_process.specs.private.Laws.{process_of, next_is}
use Rattle.c_process.proofs.Events.{event_next}

-- the line at a pause: that of the Line that comes next, or else of the innermost frame
abbrev pub line_at : Pause → List Frame → ℕ → ℕ
line_at (pause.Line line) frames without = line
line_at p frames without = line_in frames without

at_event : (made : Kind) (p : Pause) (frames : List Frame) (without : ℕ) → pause_of made ≡ p → line_of (Goes made) frames without ≡ line_at p frames without
at_event (kind.Line line) p frames without e = ap (λ p. line_at p frames without) e
at_event (kind.Sent number dest chan len words) p frames without e = ap (λ p. line_at p frames without) e
at_event (kind.Accepted set id) p frames without e = ap (λ p. line_at p frames without) e
at_event (kind.Printed bytes) p frames without e = ap (λ p. line_at p frames without) e
at_event (kind.Ended value) p frames without e = ap (λ p. line_at p frames without) e
at_event (kind.Faulted cause) p frames without e = ap (λ p. line_at p frames without) e

made_events : (o : Outcome Control) (events : List Kind) (p : Pause) (h : HasMade events p o) → (state_of o).events ≡ h.made ∷ events
made_events (Done c s) events p h = h.events_are
made_events (Stopped status s) events p h = h.events_are

made_left : (o : Outcome Control) (events : List Kind) (p : Pause) → HasMade events p o → (state_of o).left ≡ 0
made_left (Done c s) events p h = h.none_left
made_left (Stopped status s) events p h = h.none_left

-- what is read of the script's next is read of the pause before which the machine stands
module _ {A : Type 0} (of : Next → A) (at : Pause → A) (agrees : (made : Kind) (n : Pause) → pause_of made ≡ n → of (Goes made) ≡ at n)
    (waits : (channels : ℕ) → of (scripts.Wants channels) ≡ at (pause.Receive channels)) (over : of scripts.Over ≡ at pause.Done) where
  module _ (p : Program) (m : MachineSetting) (stands : CodeStandsFor (process_of p m) m.code) (inputs : List Message) (events : List Kind) (s : State) where
    abbrev set : PlaySetting
    set = process_of p m

    abbrev k : ℕ
    k = length events

    read_made : (n : Pause) → run_of set inputs k ≡ Stopped Able s → (steps : ℕ) × HasMade events n (run_code m.code m.count m.me.no inputs (suc k) steps) → of (next set inputs k) ≡ at n
    read_made n r h =
        let o = run_code m.code m.count m.me.no inputs (suc k) h.0 in
        let goes = event_next set m.code stands inputs k h.0 s o h.1.made events r refl (made_events o events n h.1) (made_left o events n h.1) in
        ap of goes ∙ agrees h.1.made n h.1.fits

    pub read_next : (n : Pause) → run_of set inputs k ≡ Stopped (status_of n) s → MakesNext m inputs events n → of (next set inputs k) ≡ at n
    read_next pause.Done r h = ap of (next_is set m.code stands inputs k Over s r) ∙ over
    read_next (pause.Receive channels) r h = ap of (next_is set m.code stands inputs k (Wants channels) s r) ∙ waits channels
    read_next n r h = read_made n r h

-- the line of the script's next is that of the machine's
pub line_next : (p : Program) (m : MachineSetting) (stands : CodeStandsFor (process_of p m) m.code) (inputs : List Message) (events : List Kind) (s : State) (frames : List Frame) (without : ℕ) (n : Pause)
    → run_of (process_of p m) inputs (length events) ≡ Stopped (status_of n) s → MakesNext m inputs events n → line_of (next (process_of p m) inputs (length events)) frames without ≡ line_at n frames without
line_next p m stands inputs events s frames without n r h =
    read_next (λ x. line_of x frames without) (λ y. line_at y frames without) (λ made y e. at_event made y frames without e) (λ _. refl) refl p m stands inputs events s n r h

-- ---- a Line that comes

abbrev pub line_before : Pause → Option ℕ
line_before (pause.Line line) = Some line
line_before n = None

to_come : (made : Kind) (n : Pause) → pause_of made ≡ n → line_to_come (Goes made) ≡ line_before n
to_come (kind.Line line) n e = ap line_before e
to_come (kind.Sent number dest chan len words) n e = ap line_before e
to_come (kind.Accepted channels id) n e = ap line_before e
to_come (kind.Printed bytes) n e = ap line_before e
to_come (kind.Ended value) n e = ap line_before e
to_come (kind.Faulted cause) n e = ap line_before e

pub next_line : (p : Program) (m : MachineSetting) (stands : CodeStandsFor (process_of p m) m.code) (inputs : List Message) (events : List Kind) (s : State) (n : Pause)
    → run_of (process_of p m) inputs (length events) ≡ Stopped (status_of n) s → MakesNext m inputs events n → line_to_come (next (process_of p m) inputs (length events)) ≡ line_before n
next_line p m stands inputs events s n r h = read_next line_to_come line_before to_come (λ _. refl) refl p m stands inputs events s n r h

pub no_line : (n : Pause) → ((line : ℕ) → n ≡ pause.Line line → ⊥) → line_before n ≡ None
no_line (pause.Line line) not = absurd (not line refl)
no_line pause.Send not = refl
no_line pause.Print not = refl
no_line pause.Done not = refl
no_line (pause.Receive channels) not = refl
no_line (pause.End value) not = refl
no_line (pause.Fault cause) not = refl

-- ---- the innermost frame

-- where no Line comes next it is that of the innermost frame
pub line_else : (n : Pause) (fs : List Frame) (without : ℕ) → ((line : ℕ) → n ≡ pause.Line line → ⊥) → line_at n fs without ≡ line_in fs without
line_else (pause.Line line) fs without not = absurd (not line refl)
line_else pause.Send fs without not = refl
line_else pause.Print fs without not = refl
line_else pause.Done fs without not = refl
line_else (pause.Receive channels) fs without not = refl
line_else (pause.End value) fs without not = refl
line_else (pause.Fault cause) fs without not = refl
