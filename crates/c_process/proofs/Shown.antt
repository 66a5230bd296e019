-- What is seen of a process is what the program says.
use Rattle.std.proofs.Common.{◌≡◌, ℕ, Bool, true, false, List, [], refl, sym, ap, ◌∙◌, subst}
use Rattle.nm_base.specs.declared.kind.Kind.{Kind}
use Rattle.nm_base.specs.declared.letter.ProcNo.{ProcNo}
use Rattle.nm_base.specs.Message.{Message}
use Rattle.nm_base.specs.Scripts.{Script}
use Rattle.c_tree.specs.declared.program.Program.{Program}
use Rattle.c_tree.specs.Play.{played_of, next, run_of}
use Rattle.stack_code.specs.Code.{Code}
use Rattle.stack_code.specs.View.{seen_code}
use Rattle.processes.specs.declared.proc.Look.{Look}
use Rattle.proc_machine.specs.declared.execution.Execution.{Execution}
use Rattle.proc_machine.specs.declared.machine.Machine.{Machine}
use Rattle.proc_machine.specs.Machines.{machine_setting, next_of, state_of}
use Rattle.proc_machine.specs.Pauses.{status_of}
use Rattle.proc_machine.specs.Standing.{shown_state}
use Rattle.proc_machine.proofs.Pending.{makes_of}
use Rattle.c_process.specs.declared.process.CProc.{CProc}
use Rattle.c_process.specs.Standing.{IsCodeOf, main_line, main_line_of}
use Rattle.c_process.specs.Shown.{look_of, line_of, played_after, output_after, look_after, line_after}
use Rattle.c_process.specs.Following.{IsAfter, Follows}
use Rattle.c_process.specs.private.Laws.{process_of, plays_after}
use Rattle.c_process.proofs.Standing.{state_made}
use Rattle.c_process.proofs.Lines.{line_at, line_next}

module _ (code : Code) (count me : ℕ) (e : Execution) where
  shown_output : (begun : Bool) (events : List Kind) → (shown_state code count me e begun events).output ≡ (shown_state code count me e begun []).output
  shown_output true events = refl
  shown_output false events = refl

  shown_frames : (begun : Bool) (events : List Kind) → (shown_state code count me e begun events).frames ≡ (shown_state code count me e begun []).frames
  shown_frames true events = refl
  shown_frames false events = refl

module _ (p : Program) (m : Machine) (look : Look) (letters : List Message) (k : ℕ) (is : IsCodeOf p (machine_setting m).code) (a : IsAfter m look letters k) where
  -- as its machine has it
  at_output : output_after p (machine_setting m).count (machine_setting m).me.no letters k ≡ (state_of m []).output
  at_output =
      ap (λ o. (played_of o).state.output) (plays_after p m look letters k is a) ∙ shown_output (machine_setting m).code (machine_setting m).count (machine_setting m).me.no m.execution m.begun a.events

  at_look : look ≡ look_after p (machine_setting m).count (machine_setting m).me.no letters k
  at_look =
      a.looks
      ∙ ap (look_of (status_of (next_of m))) (sym (state_made m a.events))
      ∙ sym (ap (λ o. look_of (played_of o).status (played_of o).state.events) (plays_after p m look letters k is a))

  pub at_frames : (played_after p (machine_setting m).count (machine_setting m).me.no letters k).state.frames ≡ (state_of m []).frames
  at_frames =
      ap (λ o. (played_of o).state.frames) (plays_after p m look letters k is a) ∙ shown_frames (machine_setting m).code (machine_setting m).count (machine_setting m).me.no m.execution m.begun a.events

  abbrev next_line : ℕ → ℕ
  next_line j = line_of (next (process_of p (machine_setting m)) letters j) (state_of m []).frames (main_line p)

  at_line : line_after p (machine_setting m).count (machine_setting m).me.no letters k ≡ line_at (next_of m) (state_of m []).frames (main_line_of (machine_setting m).code)
  at_line =
      let set = machine_setting m in
      let run = ap (run_of (process_of p set) letters) a.count ∙ plays_after p m look letters k is a in
      ap (λ fs. line_of (next (process_of p set) letters k) fs (main_line p)) at_frames
      ∙ ap next_line (sym a.count)
      ∙ line_next p set (is.stands set.count set.me.no) letters a.events (state_of m a.events) (state_of m []).frames (main_line p) (next_of m) run (makes_of m letters a.events a.stands)
      ∙ ap (λ n. line_at (next_of m) (state_of m []).frames n) (sym is.main)

module _ (x : CProc) (p : Program) (s : Script) (letters : List Message) (k : ℕ) (is : IsCodeOf p (seen_code x.code.now)) (h : Follows x.machine.value x.look s letters k × (k ≡ x.count)) where
  runs : IsCodeOf p (machine_setting x.machine.value).code
  runs = subst (IsCodeOf p) (sym x.runs) is

  pub output_shown : (state_of x.machine.value []).output ≡ output_after p (machine_setting x.machine.value).count x.me.no letters k
  output_shown =
      sym (at_output p x.machine.value x.look letters k runs h.0.after) ∙ ap (λ (me : ProcNo). output_after p (machine_setting x.machine.value).count me.no letters k) x.named

  pub look_shown : x.look ≡ look_after p (machine_setting x.machine.value).count x.me.no letters k
  look_shown = at_look p x.machine.value x.look letters k runs h.0.after ∙ ap (λ (me : ProcNo). look_after p (machine_setting x.machine.value).count me.no letters k) x.named

  pub line_shown : line_at (next_of x.machine.value) (state_of x.machine.value []).frames (main_line_of (seen_code x.code.now)) ≡ line_after p (machine_setting x.machine.value).count x.me.no letters k
  line_shown =
      ap (λ c. line_at (next_of x.machine.value) (state_of x.machine.value []).frames (main_line_of c)) (sym x.runs)
      ∙ sym (at_line p x.machine.value x.look letters k runs h.0.after)
      ∙ ap (λ (me : ProcNo). line_after p (machine_setting x.machine.value).count me.no letters k) x.named
