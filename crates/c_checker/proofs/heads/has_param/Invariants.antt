use Rattle.std.proofs.Common.{◌≡◌, length}
use Rattle.std.specs.List.{list_any}
use Rattle.std.specs.Str.{bytes_eq}
use Rattle.c_tree.specs.declared.program.Slot.{Slot}
use Rattle.c_checker.proofs.heads.has_param.Given as goal

abbrev pub invariant-loop-params : goal.invariant-loop-params
invariant-loop-params l = list_any (λ (x : Slot). bytes_eq x.name l.name) l.params ≡ list_any (λ (x : Slot). bytes_eq x.name l.name) l.fn.params

abbrev pub decreases-loop-params : goal.decreases-loop-params
decreases-loop-params l = length l.params
