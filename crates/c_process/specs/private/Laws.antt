-- A process that stands for a script shows what the script does next, and the script keeps the laws of scripts.
use Rattle.std.proofs.Common.{◌≡◌, ℕ, zero, suc, ◌+◌, List, [], ◌∷◌, length, refl, sym, ap, ◌∙◌, subst, arith}
use Rattle.std.specs.Prelude.{slice_get}
use Rattle.nm_base.specs.declared.kind.Kind.{Kind}
use Rattle.nm_base.specs.declared.kind.Kind.TheVariants.{Line, Sent, Accepted, Printed, Ended, Faulted}
use Rattle.nm_base.specs.Message.{Message}
use Rattle.nm_base.specs.Scripts.{Script, IsLawful}
use Rattle.nm_base.specs.Scripts as scripts
use Rattle.c_tree.specs.State.{State, Status, Able, Wants, Over, Outcome, Done, Stopped, Run, then_on}
use Rattle.c_tree.specs.declared.program.Program.{Program}
use Rattle.c_tree.specs.Play.{PlaySetting, play_setting, played_of, next_by, next, run_of, play}
use Rattle.c_tree.proofs.Histories.{able_goes_on, scripts_are_lawful}
use Rattle.stack_code.specs.Code.{Code}
use Rattle.stack_code.specs.Machine.{Control, step, exec, started_by, first_data, run_code}
use Rattle.c_compile.specs.Correct.{CodeStandsFor}
use Rattle.processes.specs.declared.proc.Look.{Look}
use Rattle.processes.specs.Standing.{Shows}
use Rattle.proc_machine.specs.Pauses.{status_of}
use Rattle.proc_machine.specs.declared.machine.Machine.{Machine}
use Rattle.proc_machine.specs.Machines.{MachineSetting, machine_setting, next_of, state_of}
use Rattle.proc_machine.proofs.Pending.{stops_of}
use Rattle.c_process.specs.Standing.{IsCodeOf}
use Rattle.c_process.specs.Shown.{end_of, look_of}
use Rattle.c_process.specs.Following.{IsAfter, Follows}

-- ---- steps

module _ (code : Code) (count me : ℕ) where
  abbrev exec' : ℕ → Control → Run Control
  exec' n = exec code count me n

  exec_on : (n j : ℕ) (c : Control) (t : State) → exec' (n + j) c t ≡ then_on (exec' n c t) (exec' j)
  exec_on zero j c t = let e : 0 + j ≡ j = omega arith in ap (λ i. exec' i c t) e
  exec_on (suc n) j c t =
      let e : suc n + j ≡ suc (n + j) = omega arith in
      ap (λ i. exec' i c t) e ∙ by (λ d u. exec_on n j d u) (step code count me c t)
    where
      by : ((d : Control) (u : State) → exec' (n + j) d u ≡ then_on (exec' n d u) (exec' j)) → (o : Outcome Control)
          → then_on o (exec' (n + j)) ≡ then_on (then_on o (exec' n)) (exec' j)
      by k (Done d u) = k d u
      by k (Stopped status s) = refl

  then_exec_on : (n j : ℕ) (o : Outcome Control) → then_on o (exec' (n + j)) ≡ then_on (then_on o (exec' n)) (exec' j)
  then_exec_on n j (Done d u) = exec_on n j d u
  then_exec_on n j (Stopped status s) = refl

  pub run_on : (inputs : List Message) (k n j : ℕ)
      → run_code code count me inputs k (n + j) ≡ then_on (run_code code count me inputs k n) (exec' j)
  run_on inputs k n j =
      then_exec_on n j
      (started_by code count me (slice_get code.functions code.main) (first_data code count me inputs k))

  abbrev done : Control → State → Outcome Control
  done c t = Done c t

  abbrev pub stopped : Status → State → Outcome Control
  stopped status s = Stopped status s

  -- with these letters and so many events it stops in this state
  abbrev pub StopsAt : List Message → ℕ → Status → State → Type 0
  StopsAt inputs k status s = (steps : ℕ) × (run_code code count me inputs k steps ≡ Stopped status s)

  -- a run stops in one state
  pub stops_once : (inputs : List Message) (k : ℕ) (status status' : Status) (s s' : State) → StopsAt inputs k status s
      → StopsAt inputs k status' s' → stopped status s ≡ stopped status' s'
  stops_once inputs k status status' s s' a b =
      let e : a.0 + b.0 ≡ b.0 + a.0 = omega arith in
      let left : run_code code count me inputs k (a.0 + b.0) ≡ Stopped status s =
      run_on inputs k a.0 b.0 ∙ ap (λ o. then_on o (exec' b.0)) a.1 in
      let right : run_code code count me inputs k (b.0 + a.0) ≡ Stopped status' s' =
      run_on inputs k b.0 a.0 ∙ ap (λ o. then_on o (exec' a.0)) b.1 in
      sym left ∙ ap (run_code code count me inputs k) e ∙ right

-- ---- the script

end_shown : (events : List Kind) → Shows (end_of events) scripts.Over
end_shown [] = tt
end_shown (Ended value ∷ events) = tt
end_shown (Faulted cause ∷ events) = tt
end_shown (Line line ∷ events) = tt
end_shown (Sent number dest chan len words ∷ events) = tt
end_shown (Accepted set id ∷ events) = tt
end_shown (Printed bytes ∷ events) = tt

module _ (set : PlaySetting) (code : Code) (stands : CodeStandsFor set code) where
  -- the process stops where the machine does
  pub plays : (inputs : List Message) (k : ℕ) (status : Status) (s : State)
      → StopsAt code set.count set.me inputs k status s → run_of set inputs k ≡ Stopped status s
  plays inputs k status s r =
      let a = stands inputs k in
      let same = stops_once code set.count set.me inputs k a.status status a.state s (a.steps, a.machine) r in
      a.process ∙ by a.status a.state same
    where
      stopped : Status → State → Outcome Control
      stopped status s = Stopped status s

      ended : Status → State → Outcome ℕ
      ended status s = Stopped status s

      by : (status' : Status) (s' : State) → stopped status' s' ≡ stopped status s → ended status' s' ≡ ended status s
      by status' s' e =
          let a : status' ≡ status = cc in let b : s' ≡ s = cc in ap (λ x. ended x s') a ∙ ap (ended status) b

  pub next_is : (inputs : List Message) (k : ℕ) (status : Status) (s : State) → run_of set inputs k ≡ Stopped status s
      → next set inputs k ≡ next_by status (play set inputs (suc k))
  next_is inputs k status s e = ap (λ o. next_by (played_of o).status (play set inputs (suc k))) e

  -- what it shows is what the script does next
  pub script_shown : (inputs : List Message) (k : ℕ) (status : Status) (s : State) (look : Look) (events : List Kind)
      → run_of set inputs k ≡ Stopped status s → look ≡ look_of status events
      → Shows look (next set inputs k)
  script_shown inputs k Able s look events e l =
      let able : (play set inputs k).status ≡ Able = ap (λ o. (played_of o).status) e in
      let goes = able_goes_on set inputs k able in
      subst (λ x. Shows x (next set inputs k)) (sym l) (subst (λ n. Shows (look_of Able events) n) (sym goes.1) tt)
  script_shown inputs k (Wants channels) s look events e l =
      subst (λ x. Shows x (next set inputs k)) (sym l)
      (subst (λ n. Shows (look_of (Wants channels) events) n) (sym (next_is inputs k (Wants channels) s e)) refl)
  script_shown inputs k Over s look events e l =
      subst (λ x. Shows x (next set inputs k)) (sym l)
      (subst (λ n. Shows (look_of Over events) n) (sym (next_is inputs k Over s e)) (end_shown events))

-- ---- the laws of processes

-- what a process of a program runs, as its machine is set
abbrev pub process_of : Program → MachineSetting → PlaySetting
process_of p set = play_setting p set.count set.me.no

-- the process is in the machine's state
pub plays_after : (p : Program) (m : Machine) (look : Look) (letters : List Message) (k : ℕ)
    (is : IsCodeOf p (machine_setting m).code) (a : IsAfter m look letters k)
    → run_of (process_of p (machine_setting m)) letters k ≡ Stopped (status_of (next_of m)) (state_of m a.events)
plays_after p m look letters k is a =
    let set = machine_setting m in
    let stops = stops_of m letters a.events a.stands in
    ap (run_of (process_of p set) letters) (sym a.count)
    ∙ plays (process_of p set) set.code (is.stands set.count set.me.no) letters (length a.events)
    (status_of (next_of m)) (state_of m a.events) (stops.steps, stops.stops)

pub follows_lawful : (m : Machine) (look : Look) (s : Script) (letters : List Message) (k : ℕ)
    → Follows m look s letters k → IsLawful s
follows_lawful m look s letters k f =
    subst IsLawful (sym f.script) (scripts_are_lawful f.program (machine_setting m).count (machine_setting m).me.no)

pub follows_shows : (m : Machine) (look : Look) (s : Script) (letters : List Message) (k : ℕ)
    → Follows m look s letters k → Shows look (s.next letters k)
follows_shows m look s letters k f =
    let set = process_of f.program (machine_setting m) in
    let stands = f.code.stands (machine_setting m).count (machine_setting m).me.no in
    let run = plays_after f.program m look letters k f.code f.after in
    subst (λ n. Shows look n) (sym (ap (λ s. s.next letters k) f.script))
    (script_shown set (machine_setting m).code stands letters k (status_of (next_of m))
    (state_of m f.after.events) look f.after.events run f.after.looks)
