-- A process goes on through the scripts that it stands for.
use Rattle.std.proofs.Common.{◌≡◌, ℕ, suc, ◌+◌, Bool, true, false, List, [], ◌∷◌, refl, sym, ap, ◌∙◌, subst, arith, add-one}
use Rattle.nm_base.specs.declared.kind.Kind.{Kind}
use Rattle.nm_base.specs.Message.{Message}
use Rattle.nm_base.specs.Scripts.{Script, Goes}
use Rattle.c_tree.specs.declared.program.Program.{Program}
use Rattle.c_tree.specs.State.{State, Status, Able, Outcome, Stopped}
use Rattle.c_tree.specs.Play.{script_of, next, run_of}
use Rattle.stack_code.specs.Code.{Code}
use Rattle.processes.specs.declared.proc.Look.{Look}
use Rattle.proc_machine.specs.declared.machine.Machine.{Machine}
use Rattle.proc_machine.specs.Pauses.{status_of}
use Rattle.proc_machine.specs.Machines.{MachineSetting, MachineStandsFor, IsSame, machine_setting, next_of, state_of}
use Rattle.proc_machine.specs.Standing.{goes_by_itself, shown_state}
use Rattle.proc_machine.specs.declared.execution.Execution.{Execution}
use Rattle.c_process.specs.Standing.{IsCodeOf}
use Rattle.c_process.specs.Shown.{look_of}
use Rattle.c_process.specs.Following.{IsAfter, Follows}
use Rattle.c_process.specs.private.Laws.{process_of, plays_after}
use Rattle.c_process.proofs.Scripts.{next_goes}
use Rattle.c_process.proofs.Looks.{advance_able}

-- a machine that comes of another by one event
pub record Onward (old new : Machine) (look' : Look) (kind : Kind) (inputs later : List Message) (events : List Kind) : Type 0 where
  pub setting : machine_setting new ≡ machine_setting old
  pub stands : MachineStandsFor new later (kind ∷ events)
  pub looks : look' ≡ look_of (status_of (next_of new)) (kind ∷ events)

onward : (old new : Machine) (look look' : Look) (kind : Kind) (inputs later : List Message) (k : ℕ) (a : IsAfter old look inputs k) → Onward old new look' kind inputs later a.events
    → IsAfter new look' later (k + 1)
onward old new look look' kind inputs later k a o = record {
  events = kind ∷ a.events;
  count = omega (arith, a.count);
  stands = o.stands;
  looks = o.looks;
}

pub follows_onward : (old new : Machine) (look look' : Look) (kind : Kind) (inputs later : List Message) (k : ℕ) (s : Script) (f : Follows old look s inputs k)
    → Onward old new look' kind inputs later f.after.events → Follows new look' s later (k + 1)
follows_onward old new look look' kind inputs later k s f o = record {
  program = f.program;
  script = f.script ∙ ap (λ (set : MachineSetting). script_of f.program set.count set.me.no) (sym o.setting);
  code = subst (λ (set : MachineSetting). IsCodeOf f.program set.code) (sym o.setting) f.code;
  after = onward old new look look' kind inputs later k f.after o;
}

pub shown_made : (code : Code) (count me : ℕ) (e : Execution) (begun : Bool) (events : List Kind) → (shown_state code count me e begun events).events ≡ events
shown_made code count me e true events = refl
shown_made code count me e false events = refl

pub state_made : (m : Machine) (events : List Kind) → (state_of m events).events ≡ events
state_made m events = shown_made (machine_setting m).code (machine_setting m).count (machine_setting m).me.no m.execution m.begun events

abbrev stopped : Status → State → Outcome ℕ
stopped status s = Stopped status s

pub makes : (old new : Machine) (look look' : Look) (kind : Kind) (inputs : List Message) (k : ℕ) (s : Script) → goes_by_itself (next_of old) ≡ true → (f : Follows old look s inputs k)
    → Onward old new look' kind inputs inputs f.after.events → (s.next inputs k ≡ Goes kind) × Follows new look' s inputs (k + 1)
unfolding onward follows_onward
makes old new look look' kind inputs k s able f o =
    let set = process_of f.program (machine_setting old) in
    let f' = follows_onward old new look look' kind inputs inputs k s f o in
    let before : run_of set inputs k ≡ stopped Able (state_of old f.after.events) =
    plays_after f.program old look inputs k f.code f.after ∙ ap (λ (st : Status). stopped st (state_of old f.after.events)) (advance_able (next_of old) able) in
    let later : run_of set inputs (suc k) ≡ stopped (status_of (next_of new)) (state_of new (kind ∷ f.after.events)) =
    ap (run_of set inputs) (sym (add-one k))
    ∙ ap (λ (x : MachineSetting). run_of (process_of f.program x) inputs (k + 1)) (sym o.setting)
    ∙ plays_after f.program new look' inputs (k + 1) f'.code f'.after in
    let goes : next set inputs k ≡ Goes kind =
    let stands = f.code.stands (machine_setting old).count (machine_setting old).me.no in
    let events = f.after.events in
    next_goes set (machine_setting old).code stands inputs k (state_of old events) (state_of new (kind ∷ events)) (status_of (next_of new)) kind events before later (state_made new (kind ∷ events)) in
    (ap (λ (s : Script). s.next inputs k) f.script ∙ goes, f')

-- ---- the same machine

pub stays : (m m' : Machine) (look : Look) (s : Script) (letters : List Message) (k : ℕ) → IsSame m m'
    → ((inputs : List Message) (events : List Kind) → MachineStandsFor m inputs events → MachineStandsFor m' inputs events) → Follows m look s letters k → Follows m' look s letters k
stays m m' look s letters k same on f = record {
  program = f.program;
  script = f.script ∙ ap (λ (set : MachineSetting). script_of f.program set.count set.me.no) (sym same.setting);
  code = subst (λ (set : MachineSetting). IsCodeOf f.program set.code) (sym same.setting) f.code;
  after = record {
    events = f.after.events;
    count = f.after.count;
    stands = on letters f.after.events f.after.stands;
    looks = f.after.looks ∙ ap (λ p. look_of (status_of p) f.after.events) (sym same.next);
  };
}

-- ---- at the start

pub begins : (m : Machine) (look : Look) (p : Program) → MachineStandsFor m [] [] → look ≡ look_of (status_of (next_of m)) [] → IsCodeOf p (machine_setting m).code
    → Follows m look (script_of p (machine_setting m).count (machine_setting m).me.no) [] 0
begins m look p stands looks is = record {
  program = p;
  script = refl;
  code = is;
  after = record { events = []; count = refl; stands = stands; looks = looks };
}
