use Rattle.std.proofs.Common.{◌≡◌, ◌+◌, true, ◌∷◌, sym, ap, ◌∙◌, subst, arith}
use Rattle.std.specs.Prelude.{Result, Ok, Err, OnErr}
use Rattle.proc_machine.specs.declared.machine.Machine.{Machine}
use Rattle.proc_machine.specs.Machines.{MachineSetting, machine_setting, next_of, letters_sent}
use Rattle.proc_machine.specs.Pauses.{status_of}
use Rattle.proc_machine.specs.Standing.{goes_by_itself}
use Rattle.c_process.specs.Shown.{look_of}
use Rattle.c_process.specs.Following.{Follows}
use Rattle.c_process.proofs.Looks.{able_advances, looks_again}
use Rattle.c_process.proofs.Standing.{Onward, makes, stays}
use Rattle.c_process.proofs.script.CProcProc.step.Goals as goal

pub returns-in_err-reserve_output-clause-refused :
    goal.returns-in_err-reserve_output-clause-refused
returns-in_err-reserve_output-clause-refused c =
    let old = c.deref_mut-machine.result.now in
    let look = c.args.self.now.look in
    on_err c.from_residual.result
    (λ s letters k f. (
      stays old c.reserve_output.new.self look s letters k c.reserve_output.ensures.same c.reserve_output.ensures.stands
          (subst (λ (m : Machine). Follows m look s letters k) (sym c.deref_mut-machine.ensures.value) f.0),
      f.1,
    ))
  where
    on_err : {T E P : Type 0} (r : Result T E) → P → OnErr r P
    on_err (Ok x) p = tt
    on_err (Err e) p = p

pub advance-kind-requires-clause-moves : goal.advance-kind-requires-clause-moves
advance-kind-requires-clause-moves c =
    ap goes_by_itself c.reserve_output.ensures.same.next
    ∙ ap (λ (m : Machine). goes_by_itself (next_of m)) c.deref_mut-machine.ensures.value
    ∙ able_advances c.args.self.now.look (next_of c.args.self.now.machine.value) c.args.self.now.seen c.requires.able

pub advance-kind-requires-clause-few : goal.advance-kind-requires-clause-few
advance-kind-requires-clause-few c =
    let sent = ap letters_sent c.deref_mut-machine.ensures.value in
    omega (arith, c.reserve_output.ensures.same.sent, sent, c.args.self.now.few, c.requires.room)

pub invariant_of-self-2-clause-runs : goal.invariant_of-self-2-clause-runs
invariant_of-self-2-clause-runs c =
    ap (λ (set : MachineSetting). set.code) (c.advance-kind.ensures.made.setting ∙ c.reserve_output.ensures.same.setting ∙ ap machine_setting c.deref_mut-machine.ensures.value) ∙ c.args.self.now.runs

pub invariant_of-self-2-clause-named : goal.invariant_of-self-2-clause-named
invariant_of-self-2-clause-named c =
    ap (λ (set : MachineSetting). set.me) (c.advance-kind.ensures.made.setting ∙ c.reserve_output.ensures.same.setting ∙ ap machine_setting c.deref_mut-machine.ensures.value) ∙ c.args.self.now.named

pub invariant_of-self-2-clause-few : goal.invariant_of-self-2-clause-few
invariant_of-self-2-clause-few c =
    let sent = ap letters_sent c.deref_mut-machine.ensures.value in
    omega (arith, c.advance-kind.ensures.made.sent, c.reserve_output.ensures.same.sent, sent, c.args.self.now.few)

pub invariant_of-self-2-clause-seen : goal.invariant_of-self-2-clause-seen
invariant_of-self-2-clause-seen c =
    looks_again c.look_at-self.result (next_of c.advance-kind.new.self) c.advance-kind.result.0
    (c.look_at-self.ensures.looks (c.advance-kind.result.0 ∷ _) (c.end_with.ensures _) ∙ ap (λ p. look_of (status_of p) (c.advance-kind.result.0 ∷ _)) c.pending-next.ensures.same)

pub returns-clause-next : goal.returns-clause-next
returns-clause-next c = λ s letters k f.
    let old = c.deref_mut-machine.result.now in
    let mid = c.reserve_output.new.self in
    let new = c.advance-kind.new.self in
    let kind = c.advance-kind.result.0 in
    let look = c.args.self.now.look in
    let made = c.advance-kind.ensures.made in
    let f' = stays old mid look s letters k c.reserve_output.ensures.same c.reserve_output.ensures.stands (subst (λ (m : Machine). Follows m look s letters k) (sym c.deref_mut-machine.ensures.value) f.0) in
    let able : goes_by_itself (next_of mid) ≡ true =
    ap goes_by_itself c.reserve_output.ensures.same.next
    ∙ ap (λ (m : Machine). goes_by_itself (next_of m)) c.deref_mut-machine.ensures.value
    ∙ able_advances look (next_of c.args.self.now.machine.value) c.args.self.now.seen c.requires.able in
    let looks : c.look_at-self.result ≡ look_of (status_of (next_of new)) (kind ∷ f'.after.events) =
    c.look_at-self.ensures.looks (kind ∷ f'.after.events) (c.end_with.ensures f'.after.events) ∙ ap (λ p. look_of (status_of p) (kind ∷ f'.after.events)) c.pending-next.ensures.same in
    let on : Onward mid new c.look_at-self.result kind letters letters f'.after.events =
    record { setting = made.setting; stands = made.stands letters f'.after.events f'.after.stands; looks = looks } in
    let r = makes mid new look c.look_at-self.result kind letters k s able f' on in
    (r.0, (r.1, ap (λ n. n + 1) f.1))
