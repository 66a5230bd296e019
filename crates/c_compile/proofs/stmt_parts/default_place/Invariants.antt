use Rattle.std.proofs.Common.{◌≡◌, drop}
use Rattle.c_compile.specs.private.Emitted.{shape_of, default_place_of}
use Rattle.c_compile.proofs.stmt_parts.default_place.Given as goal

abbrev pub invariant-loop-arm : goal.invariant-loop-arm
invariant-loop-arm l = default_place_of (shape_of l.scope) (drop l.arm-index l.arms) l.start ≡ default_place_of (shape_of l.scope) l.arms l.first
