-- Runs of many steps.
use Rattle.std.proofs.Common.{◌≡◌, ℕ, zero, suc, ◌+◌, ap, ◌∙◌, arith}
use Rattle.c_tree.specs.State.{State, Outcome, Done, Stopped, then_on}
use Rattle.stack_code.specs.Code.{Code}
use Rattle.stack_code.specs.Machine.{Control, step, exec}
use Rattle.proc_machine.specs.private.Run.{Reaches}

module _ (code : Code) (count me : ℕ) where
  pub exec_more : (n : ℕ) (c : Control) (s : State) (d : Control) (u : State) (m : ℕ) → exec code count me n c s ≡ Done d u → exec code count me (n + m) c s ≡ exec code count me m d u
  exec_more zero c s d u m e =
      let same : c ≡ d = cc in
      let same_data : s ≡ u = cc in
      let z : zero + m ≡ m = omega arith in
      ap (λ k. exec code count me k c s) z ∙ ap (λ x. exec code count me m x s) same ∙ ap (λ x. exec code count me m d x) same_data
  exec_more (suc n) c s d u m e =
      let z : suc n + m ≡ suc (n + m) = omega arith in
      ap (λ k. exec code count me k c s) z ∙ by (step code count me c s) (λ x v f. exec_more n x v d u m f) e
    where
      by : (o : Outcome Control) → ((x : Control) (v : State) → exec code count me n x v ≡ Done d u → exec code count me (n + m) x v ≡ exec code count me m d u)
          → then_on o (exec code count me n) ≡ Done d u → then_on o (exec code count me (n + m)) ≡ exec code count me m d u
      by (Done x v) k e = k x v e
      by (Stopped status v) k e = cc

  pub reaches_on : (c : Control) (s : State) (d : Control) (u : State) (x : Control) (v : State) → Reaches code count me c s d u → step code count me d u ≡ Done x v → Reaches code count me c s x v
  reaches_on c s d u x v r e = record {
    steps = r.steps + 1;
    comes = exec_more r.steps c s d u 1 r.comes ∙ ap (λ o. then_on o (exec code count me 0)) e;
  }
