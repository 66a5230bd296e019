-- What a process shows, and what its machine may do.
use Rattle.std.proofs.Common.{◌≡◌, ℕ, true, [], ◌∷◌, refl, sym, ap, ◌∙◌, arith}
use Rattle.std.specs.Prelude.{◌==◌}
use Rattle.std.proofs.lemmas.Bool.{eqb-true, false≢true}
use Rattle.nm_base.specs.declared.kind.Kind.{Kind}
use Rattle.nm_base.specs.declared.kind.Kind.TheVariants as kind
use Rattle.nm_base.specs.declared.kind.Kind.TheVariants.{Accepted}
use Rattle.nm_base.specs.Channels.{has_channel}
use Rattle.nm_base.specs.declared.letter.Letter.{Letter}
use Rattle.c_tree.specs.State.{Able}
use Rattle.processes.specs.declared.proc.Look.{Look}
use Rattle.processes.specs.declared.proc.Look.TheVariants as look
use Rattle.processes.specs.Standing.{CanTake, accepting}
use Rattle.proc_machine.specs.declared.pause.Pause.{Pause}
use Rattle.proc_machine.specs.declared.pause.Pause.TheVariants as pause
use Rattle.proc_machine.specs.Pauses.{status_of}
use Rattle.proc_machine.specs.Standing.{goes_by_itself}
use Rattle.c_process.specs.Shown.{end_of, look_of}
use Rattle.c_process.specs.Following.{looks_at}

pub able_advances : (l : Look) (p : Pause) → looks_at l p ≡ true → l ≡ look.Able → goes_by_itself p ≡ true
able_advances l (pause.Line line) e a = refl
able_advances l pause.Send e a = refl
able_advances l pause.Print e a = refl
able_advances l (pause.End value) e a = refl
able_advances l (pause.Fault cause) e a = refl
able_advances l (pause.Receive set) e a = absurd (false≢true (sym (ap (λ l. looks_at l (pause.Receive set)) a) ∙ e))
able_advances l pause.Done e a = absurd (false≢true (sym (ap (λ l. looks_at l pause.Done) a) ∙ e))

pub advance_able : (p : Pause) → goes_by_itself p ≡ true → status_of p ≡ Able
advance_able (pause.Line line) a = refl
advance_able pause.Send a = refl
advance_able pause.Print a = refl
advance_able (pause.End value) a = refl
advance_able (pause.Fault cause) a = refl
advance_able (pause.Receive set) a = absurd (false≢true a)
advance_able pause.Done a = absurd (false≢true a)

-- the set that both name
waiting_same : (set : ℕ) (p : Pause) → looks_at (look.Waiting set) p ≡ true → p ≡ pause.Receive set
waiting_same set (pause.Line line) e = absurd (false≢true e)
waiting_same set pause.Send e = absurd (false≢true e)
waiting_same set pause.Print e = absurd (false≢true e)
waiting_same set (pause.End value) e = absurd (false≢true e)
waiting_same set (pause.Fault cause) e = absurd (false≢true e)
waiting_same set (pause.Receive other) e = ap pause.Receive (sym (eqb-true set other e))
waiting_same set pause.Done e = absurd (false≢true e)

-- a letter that the process may take its machine may accept
pub takes_accepts : (l : Look) (p : Pause) (letter : Letter) → looks_at l p ≡ true → CanTake l letter → (set : ℕ) × (p ≡ pause.Receive set) × (has_channel set letter.chan ≡ true)
takes_accepts look.Able p letter e t = absurd t
takes_accepts (look.Ended value) p letter e t = absurd t
takes_accepts (look.Faulted cause) p letter e t = absurd t
takes_accepts (look.Waiting set) p letter e t = (set, waiting_same set p e, t)

-- the event of accepting it
pub accepts_same : (l : Look) (p : Pause) (letter : Letter) (set : ℕ) → looks_at l p ≡ true → CanTake l letter → p ≡ pause.Receive set → Accepted set letter.id ≡ accepting l letter
accepts_same look.Able p letter set e t r = absurd t
accepts_same (look.Ended value) p letter set e t r = absurd t
accepts_same (look.Faulted cause) p letter set e t r = absurd t
accepts_same (look.Waiting other) p letter set e t r =
    let both : pause.Receive other ≡ pause.Receive set = sym (waiting_same other p e) ∙ r in
    let same : set ≡ other = cc in
    ap (λ n. Accepted n letter.id) same

same_set : (n : ℕ) → (n == n) ≡ true
same_set n = grind arith

end_looks : (k : Kind) → looks_at (end_of (k ∷ [])) pause.Done ≡ true
end_looks (kind.Line line) = refl
end_looks (kind.Sent number dest chan len words) = refl
end_looks (kind.Accepted set id) = refl
end_looks (kind.Printed bytes) = refl
end_looks (kind.Ended value) = refl
end_looks (kind.Faulted cause) = refl

-- what is shown after an event
pub looks_again : (l : Look) (p : Pause) (k : Kind) → l ≡ look_of (status_of p) (k ∷ []) → looks_at l p ≡ true
looks_again l p k e = ap (λ l. looks_at l p) e ∙ by p
  where
    by : (p : Pause) → looks_at (look_of (status_of p) (k ∷ [])) p ≡ true
    by (pause.Line line) = refl
    by pause.Send = refl
    by pause.Print = refl
    by (pause.End value) = refl
    by (pause.Fault cause) = refl
    by (pause.Receive set) = same_set set
    by pause.Done = end_looks k

-- what is shown before the first event
pub begins_seen : (l : Look) (p : Pause) → l ≡ look_of (status_of p) [] → looks_at l p ≡ true
begins_seen l p e = ap (λ l. looks_at l p) e ∙ by p
  where
    by : (p : Pause) → looks_at (look_of (status_of p) []) p ≡ true
    by (pause.Line line) = refl
    by pause.Send = refl
    by pause.Print = refl
    by (pause.End value) = refl
    by (pause.Fault cause) = refl
    by (pause.Receive set) = same_set set
    by pause.Done = refl
