-- What a debugger reads of a process is what the program says.
use Rattle.std.proofs.Common.{◌≡◌, ℕ, Bool, true, false, List, [], length, Option, Some, None, refl, sym, ap, ◌∙◌, subst}
use Rattle.std.specs.Prelude.{slice_get}
use Rattle.nm_base.specs.declared.kind.Kind.{Kind}
use Rattle.nm_base.specs.declared.letter.ProcNo.{ProcNo}
use Rattle.nm_base.specs.Message.{Message}
use Rattle.nm_base.specs.Scripts.{Script}
use Rattle.c_tree.specs.declared.program.Program.{Program}
use Rattle.c_tree.specs.declared.program.Target.{Target}
use Rattle.c_tree.specs.declared.program.Target.TheVariants.{Global as AGlobal, Slot as ASlot}
use Rattle.c_tree.specs.State.{State}
use Rattle.c_tree.specs.Storage.{place_of, array_of}
use Rattle.c_tree.specs.Play.{PlaySetting, played_of, run_of}
use Rattle.c_tree.specs.NameLookup.{Variable, seen_at, seen_of, top_slots, variable_named, in_globals, value_named}
use Rattle.stack_code.specs.declared.seek.Found.{Found}
use Rattle.stack_code.specs.Code.{Code}
use Rattle.stack_code.specs.Seek.{IsPlaceIn, found}
use Rattle.stack_code.specs.View.{seen_code}
use Rattle.processes.specs.declared.proc.Look.{Look}
use Rattle.proc_machine.specs.declared.execution.Execution.{Execution}
use Rattle.proc_machine.specs.declared.machine.Machine.{Machine}
use Rattle.proc_machine.specs.declared.machine.MachineFrame.{MachineFrame}
use Rattle.proc_machine.specs.Machines.{machine_setting, next_of, state_of, frames_of}
use Rattle.proc_machine.specs.Standing.{shown_state}
use Rattle.proc_machine.proofs.Pending.{makes_of}
use Rattle.c_process.specs.declared.process.CProc.{CProc}
use Rattle.c_process.specs.Standing.{IsCodeOf}
use Rattle.c_process.specs.Shown.{line_after}
use Rattle.c_process.specs.Values.{answered, frames_at, frames_after, next_line_after, value_after, global_after}
use Rattle.c_process.specs.Following.{IsAfter, Follows}
use Rattle.c_process.specs.private.Laws.{process_of, plays_after}
use Rattle.c_process.specs.private.Found.{seen_by}
use Rattle.c_process.proofs.Lines.{line_before, next_line}
use Rattle.c_process.proofs.Shown.{at_frames}
use Rattle.c_process.proofs.Values.{global_is, frame_is, frameless_is}
use Rattle.c_process.proofs.Frames.{by_machine, frames_same, machine_length, machine_inner, machine_outer}

-- the events are no part of what is seen
events_apart : (set : PlaySetting) (s : State) (events : List Kind) (v : Option Variable) (index : Option ℕ) → seen_of set (record s { events = events }) v index ≡ seen_of set s v index
events_apart set s events None index = refl
events_apart set s events (Some x) index = by x.what
  where
    by : (t : Target)
        → seen_at s.words (place_of set.globals (top_slots set.functions s.frames) t (record s { events = events })) (array_of set.globals (top_slots set.functions s.frames) t (record s { events = events })) x.of index
        ≡ seen_at s.words (place_of set.globals (top_slots set.functions s.frames) t s) (array_of set.globals (top_slots set.functions s.frames) t s) x.of index
    by (AGlobal i) = refl
    by (ASlot i) = refl

module _ (set : PlaySetting) (name : List ℕ) (index : Option ℕ) (code : Code) (count me : ℕ) (e : Execution) where
  shown_value : (begun : Bool) (events : List Kind) → value_named set (shown_state code count me e begun events) name index ≡ value_named set (shown_state code count me e begun []) name index
  shown_value true events = events_apart set (shown_state code count me e true []) events (variable_named set (shown_state code count me e true []) name) index
  shown_value false events = events_apart set (shown_state code count me e false []) events (variable_named set (shown_state code count me e false []) name) index

  shown_global : (begun : Bool) (events : List Kind) → seen_of set (shown_state code count me e begun events) (in_globals name 0 set.globals) index
      ≡ seen_of set (shown_state code count me e begun []) (in_globals name 0 set.globals) index
  shown_global true events = events_apart set (shown_state code count me e true []) events (in_globals name 0 set.globals) index
  shown_global false events = events_apart set (shown_state code count me e false []) events (in_globals name 0 set.globals) index

module _ (p : Program) (m : Machine) (look : Look) (letters : List Message) (k : ℕ) (is : IsCodeOf p (machine_setting m).code) (a : IsAfter m look letters k) where
  abbrev set : PlaySetting
  set = process_of p (machine_setting m)

  abbrev code : Code
  code = (machine_setting m).code

  abbrev count : ℕ
  count = (machine_setting m).count

  abbrev me : ℕ
  me = (machine_setting m).me.no

  module _ (name : List ℕ) (index : Option ℕ) where
    at_value : value_after p count me letters k name index ≡ value_named set (state_of m []) name index
    at_value = ap (λ o. value_named set (played_of o).state name index) (plays_after p m look letters k is a) ∙ shown_value set name index code count me m.execution m.begun a.events

    pub at_global : (base : ℕ) → seen_by (state_of m []).words base (found code None name) index ≡ global_after p count me letters k name index
    at_global base =
        global_is p count me code is.names name index (state_of m []) base
        ∙ sym (shown_global set name index code count me m.execution m.begun a.events)
        ∙ sym (ap (λ o. seen_of set (played_of o).state (in_globals name 0 p.globals) index) (plays_after p m look letters k is a))

    pub at_frame : (f : MachineFrame) → slice_get (frames_of m) 0 ≡ Some f → seen_by (state_of m []).words f.base (found code (Some f.at) name) index ≡ value_after p count me letters k name index
    at_frame f h = frame_is p count me code is.names name index count me m.execution m.begun f h ∙ sym at_value

    pub at_none : length (frames_of m) ≡ 0 → global_after p count me letters k name index ≡ value_after p count me letters k name index
    at_none h =
        ap (λ o. seen_of set (played_of o).state (in_globals name 0 p.globals) index) (plays_after p m look letters k is a)
        ∙ shown_global set name index code count me m.execution m.begun a.events
        ∙ sym (frameless_is p count me code is.names name index count me m.execution m.begun h)
        ∙ sym at_value

  pub at_next_line : next_line_after p count me letters k ≡ line_before (next_of m)
  at_next_line =
      let run = ap (run_of set letters) a.count ∙ plays_after p m look letters k is a in
      ap (λ j. next_line_after p count me letters j) (sym a.count)
      ∙ next_line p (machine_setting m) (is.stands count me) letters a.events (state_of m a.events) (next_of m) run (makes_of m letters a.events a.stands)

  pub at_all_frames : frames_after p count me letters k ≡ by_machine (line_after p count me letters k) (frames_of m)
  at_all_frames =
      ap (frames_at (line_after p count me letters k)) (at_frames p m look letters k is a)
      ∙ sym (frames_same code count me m.execution m.begun (line_after p count me letters k))

module _ (x : CProc) (p : Program) (s : Script) (letters : List Message) (k : ℕ) (is : IsCodeOf p (seen_code x.code.now)) (h : Follows x.machine.value x.look s letters k × (k ≡ x.count)) where
  abbrev runs : IsCodeOf p (machine_setting x.machine.value).code
  runs = subst (IsCodeOf p) (sym x.runs) is

  abbrev n : ℕ
  n = (machine_setting x.machine.value).count

  module _ (name : List ℕ) (index : Option ℕ) where
    abbrev words : List ℕ
    words = (state_of x.machine.value []).words

    pub global_read : (base : ℕ) (o : Option Found) → o ≡ found (seen_code x.code.now) None name → answered (seen_by words base o index) ≡ answered (global_after p n x.me.no letters k name index)
    global_read base o same =
        ap (λ o. answered (seen_by words base o index)) (same ∙ ap (λ c. found c None name) (sym x.runs))
        ∙ ap answered (at_global p x.machine.value x.look letters k runs h.0.after name index base)
        ∙ ap (λ (me : ProcNo). answered (global_after p n me.no letters k name index)) x.named

    pub value_read : (f : MachineFrame) → slice_get (frames_of x.machine.value) 0 ≡ Some f → (o : Option Found) → o ≡ found (seen_code x.code.now) (Some f.at) name
        → answered (seen_by words f.base o index) ≡ answered (value_after p n x.me.no letters k name index)
    value_read f first o same =
        ap (λ o. answered (seen_by words f.base o index)) (same ∙ ap (λ c. found c (Some f.at) name) (sym x.runs))
        ∙ ap answered (at_frame p x.machine.value x.look letters k runs h.0.after name index f first)
        ∙ ap (λ (me : ProcNo). answered (value_after p n me.no letters k name index)) x.named

    pub frameless_read : length (frames_of x.machine.value) ≡ 0 → answered (global_after p n x.me.no letters k name index) ≡ answered (value_after p n x.me.no letters k name index)
    frameless_read none =
        ap (λ (me : ProcNo). answered (global_after p n me.no letters k name index)) (sym x.named)
        ∙ ap answered (at_none p x.machine.value x.look letters k runs h.0.after name index none)
        ∙ ap (λ (me : ProcNo). answered (value_after p n me.no letters k name index)) x.named

  pub next_line_read : line_before (next_of x.machine.value) ≡ next_line_after p n x.me.no letters k
  next_line_read = sym (at_next_line p x.machine.value x.look letters k runs h.0.after) ∙ ap (λ (me : ProcNo). next_line_after p n me.no letters k) x.named

  frames_read : frames_after p n x.me.no letters k ≡ by_machine (line_after p n x.me.no letters k) (frames_of x.machine.value)
  frames_read =
      ap (λ (me : ProcNo). frames_after p n me.no letters k) (sym x.named)
      ∙ at_all_frames p x.machine.value x.look letters k runs h.0.after
      ∙ ap (λ (me : ProcNo). by_machine (line_after p n me.no letters k) (frames_of x.machine.value)) x.named

  pub count_read : length (frames_after p n x.me.no letters k) ≡ length (frames_of x.machine.value)
  count_read = ap length frames_read ∙ machine_length (line_after p n x.me.no letters k) (frames_of x.machine.value)

  pub inner_read : (f : MachineFrame) (line : ℕ) → slice_get (frames_of x.machine.value) 0 ≡ Some f → line ≡ line_after p n x.me.no letters k
      → slice_get (frames_after p n x.me.no letters k) 0 ≡ Some (record { function = f.at.function; line = line })
  inner_read f line first same =
      ap (λ l. slice_get l 0) frames_read
      ∙ machine_inner (line_after p n x.me.no letters k) (frames_of x.machine.value) f first
      ∙ ap (λ l. Some (record { function = f.at.function; line = l })) (sym same)

  pub outer_read : (i : ℕ) (f : MachineFrame) → (i ≡ 0 → ⊥) → slice_get (frames_of x.machine.value) i ≡ Some f
      → slice_get (frames_after p n x.me.no letters k) i ≡ Some (record { function = f.at.function; line = f.line })
  outer_read i f not at = ap (λ l. slice_get l i) frames_read ∙ machine_outer (line_after p n x.me.no letters k) (frames_of x.machine.value) i f not at

pub place_read : (x : CProc) (f : MachineFrame) → IsPlaceIn (machine_setting x.machine.value).code (Some f.at) → IsPlaceIn (seen_code x.code.now) (Some f.at)
place_read x f h = subst (λ c. IsPlaceIn c (Some f.at)) x.runs h
