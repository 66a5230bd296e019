use Rattle.std.proofs.Common.{◌≡◌, ℕ, ◌+◌, true, [], ◌∷◌, ◌++◌, sym, ap, ◌∙◌, subst, arith}
use Rattle.nm_base.specs.Channels.{has_channel}
use Rattle.nm_base.specs.Message.{message_of}
use Rattle.proc_machine.specs.declared.machine.Machine.{Machine}
use Rattle.proc_machine.specs.declared.pause.Pause.TheVariants as pause
use Rattle.proc_machine.specs.Machines.{MachineSetting, machine_setting, next_of, letters_sent}
use Rattle.proc_machine.specs.Pauses.{status_of}
use Rattle.c_process.specs.Shown.{look_of}
use Rattle.c_process.specs.Following.{Follows}
use Rattle.c_process.proofs.Looks.{takes_accepts, accepts_same, looks_again}
use Rattle.c_process.proofs.Standing.{Onward, follows_onward}
use Rattle.c_process.proofs.script.CProcProc.give.Goals as goal

pub accept-kind-requires : goal.accept-kind-requires
accept-kind-requires c =
    subst (λ (m : Machine). (set : ℕ) × (next_of m ≡ pause.Receive set) × (has_channel set c.args.letter.chan ≡ true)) (sym c.deref_mut-machine.ensures.value)
    (takes_accepts c.args.self.now.look (next_of c.args.self.now.machine.value) c.args.letter c.args.self.now.seen c.requires.waiting)

pub invariant_of-self-clause-runs : goal.invariant_of-self-clause-runs
invariant_of-self-clause-runs c =
    let t = takes_accepts c.args.self.now.look (next_of c.args.self.now.machine.value) c.args.letter c.args.self.now.seen c.requires.waiting in
    let waits = ap next_of c.deref_mut-machine.ensures.value ∙ t.1 in
    ap (λ (set : MachineSetting). set.code) ((c.accept-kind.ensures t.0 waits).setting ∙ ap machine_setting c.deref_mut-machine.ensures.value) ∙ c.args.self.now.runs

pub invariant_of-self-clause-named : goal.invariant_of-self-clause-named
invariant_of-self-clause-named c =
    let t = takes_accepts c.args.self.now.look (next_of c.args.self.now.machine.value) c.args.letter c.args.self.now.seen c.requires.waiting in
    let waits = ap next_of c.deref_mut-machine.ensures.value ∙ t.1 in
    ap (λ (set : MachineSetting). set.me) ((c.accept-kind.ensures t.0 waits).setting ∙ ap machine_setting c.deref_mut-machine.ensures.value) ∙ c.args.self.now.named

pub invariant_of-self-clause-few : goal.invariant_of-self-clause-few
invariant_of-self-clause-few c =
    let t = takes_accepts c.args.self.now.look (next_of c.args.self.now.machine.value) c.args.letter c.args.self.now.seen c.requires.waiting in
    let waits = ap next_of c.deref_mut-machine.ensures.value ∙ t.1 in
    let same = (c.accept-kind.ensures t.0 waits).sent in
    let sent = ap letters_sent c.deref_mut-machine.ensures.value in
    omega (arith, same, sent, c.args.self.now.few)

pub invariant_of-self-clause-seen : goal.invariant_of-self-clause-seen
invariant_of-self-clause-seen c =
    looks_again c.look_at-self.result (next_of c.accept-kind.new.self) c.accept-kind.result
    (c.look_at-self.ensures.looks (c.accept-kind.result ∷ _) (c.end_with.ensures _) ∙ ap (λ p. look_of (status_of p) (c.accept-kind.result ∷ _)) c.pending-next.ensures.same)

pub returns-clause-kind : goal.returns-clause-kind
returns-clause-kind c =
    let t = takes_accepts c.args.self.now.look (next_of c.args.self.now.machine.value) c.args.letter c.args.self.now.seen c.requires.waiting in
    let waits = ap next_of c.deref_mut-machine.ensures.value ∙ t.1 in
    (c.accept-kind.ensures t.0 waits).kind_is
    ∙ accepts_same c.args.self.now.look (next_of c.args.self.now.machine.value) c.args.letter t.0 c.args.self.now.seen c.requires.waiting t.1

pub returns-clause-next : goal.returns-clause-next
returns-clause-next c = λ s letters k f.
    let old = c.deref_mut-machine.result.now in
    let new = c.accept-kind.new.self in
    let kind = c.accept-kind.result in
    let look = c.args.self.now.look in
    let f' = subst (λ (m : Machine). Follows m look s letters k) (sym c.deref_mut-machine.ensures.value) f.0 in
    let events = f'.after.events in
    let t = takes_accepts look (next_of c.args.self.now.machine.value) c.args.letter c.args.self.now.seen c.requires.waiting in
    let made = c.accept-kind.ensures t.0 (ap next_of c.deref_mut-machine.ensures.value ∙ t.1) in
    let looks : c.look_at-self.result ≡ look_of (status_of (next_of new)) (kind ∷ events) =
    c.look_at-self.ensures.looks (kind ∷ events) (c.end_with.ensures events) ∙ ap (λ p. look_of (status_of p) (kind ∷ events)) c.pending-next.ensures.same in
    let on : Onward old new c.look_at-self.result kind letters (letters ++ message_of c.args.letter ∷ []) events =
    record { setting = made.setting; stands = made.stands letters events f'.after.stands; looks = looks } in
    (follows_onward old new look c.look_at-self.result kind letters (letters ++ message_of c.args.letter ∷ []) k s f' on, ap (λ n. n + 1) f.1)
