-- The event that a machine makes next is the script's.
use Rattle.std.proofs.Common.{◌≡◌, ℕ, zero, suc, ◌+◌, List, [], ◌∷◌, Option, Some, None, sym, ap, ◌∙◌, subst, arith}
use Rattle.std.specs.Prelude.{slice_get}
use Rattle.nm_base.specs.declared.kind.Kind.{Kind}
use Rattle.nm_base.specs.Message.{Message}
use Rattle.nm_base.specs.Scripts.{Goes}
use Rattle.c_tree.specs.State.{State, Status, Able, Outcome, Done, Stopped, then_on}
use Rattle.c_tree.specs.Play.{PlaySetting, next, run_of}
use Rattle.c_tree.proofs.Longer.{state_of, Leads, leads_refl, leads_trans}
use Rattle.stack_code.specs.Code.{Placed, Code, steps_of}
use Rattle.stack_code.specs.Machine.{Control, act_if_any, shown, step, exec, run_code}
use Rattle.stack_code.proofs.Law.{act_grows}
use Rattle.c_compile.specs.Correct.{CodeStandsFor}
use Rattle.proc_machine.proofs.Nexts.{no_events}
use Rattle.c_process.specs.private.Laws.{run_on, StopsAt}
use Rattle.c_process.proofs.Scripts.{next_goes}

module _ (code : Code) (count me : ℕ) where
  -- ---- a step leads on

  shown_leads : (c : Control) (o : Outcome Control) (t : State) → Leads t (state_of o) → Leads t (state_of (shown code count me c o))
  shown_leads c (Done d s) t l = l
  shown_leads c (Stopped status s) t l = record { made = l.made; took = l.took; events = l.events; left = l.left; inputs = l.inputs }

  act_leads : (x : Option Placed) (c : Control) (t : State) → Leads t (state_of (act_if_any code count me x c t))
  act_leads None c t = leads_refl t
  act_leads (Some x) c t = (act_grows code count me 0 [] 0 0 x.instr c).steady.leads t

  step_leads : (c : Control) (t : State) → Leads t (state_of (step code count me c t))
  step_leads c t =
      shown_leads c (act_if_any code count me (slice_get (steps_of code c.function) c.pc) c t) t (act_leads (slice_get (steps_of code c.function) c.pc) c t)

  exec_leads : (n : ℕ) (c : Control) (t : State) → Leads t (state_of (exec code count me n c t))
  exec_leads zero c t = leads_refl t
  exec_leads (suc n) c t = by (λ d u. exec_leads n d u) (step code count me c t) (step_leads c t)
    where
      by : ((d : Control) (u : State) → Leads u (state_of (exec code count me n d u))) → (o : Outcome Control) → Leads t (state_of o) → Leads t (state_of (then_on o (exec code count me n)))
      by k (Done d u) l = leads_trans t u _ l (k d u)
      by k (Stopped status s) l = l

  then_leads : (n : ℕ) (o : Outcome Control) → Leads (state_of o) (state_of (then_on o (exec code count me n)))
  then_leads n (Done d u) = exec_leads n d u
  then_leads n (Stopped status s) = leads_refl s

  -- where no event is left the run stops with the events made
  stops_with : (inputs : List Message) (k n : ℕ) (status : Status) (s : State) (o : Outcome Control) → run_code code count me inputs k n ≡ o → (state_of o).left ≡ 0
      → StopsAt code count me inputs k status s → s.events ≡ (state_of o).events
  stops_with inputs k n status s o e z r =
      let swap : n + r.0 ≡ r.0 + n = omega arith in
      let left : run_code code count me inputs k (n + r.0) ≡ then_on o (exec code count me r.0) = run_on code count me inputs k n r.0 ∙ ap (λ o. then_on o (exec code count me r.0)) e in
      let right : run_code code count me inputs k (r.0 + n) ≡ Stopped status s = run_on code count me inputs k r.0 n ∙ ap (λ o. then_on o (exec code count me n)) r.1 in
      let same : then_on o (exec code count me r.0) ≡ Stopped status s = sym left ∙ ap (run_code code count me inputs k) swap ∙ right in
      let l = subst (λ (x : Outcome Control). Leads (state_of o) (state_of x)) same (then_leads r.0 o) in
      no_events l.made (state_of o).events s l.events (omega (arith, z, l.left))

-- where a run with one more event has made it, it is the script's next
pub event_next : (set : PlaySetting) (code : Code) (stands : CodeStandsFor set code) (inputs : List Message) (k n : ℕ) (s : State) (o : Outcome Control) (first : Kind) (events : List Kind)
    → run_of set inputs k ≡ Stopped Able s → run_code code set.count set.me inputs (suc k) n ≡ o → (state_of o).events ≡ first ∷ events → (state_of o).left ≡ 0 → next set inputs k ≡ Goes first
event_next set code stands inputs k n s o first events e run made left =
    let a = stands inputs (suc k) in
    let same = stops_with code set.count set.me inputs (suc k) n a.status a.state o run left (a.steps, a.machine) in
    next_goes set code stands inputs k s a.state a.status first events e a.process (same ∙ made)
