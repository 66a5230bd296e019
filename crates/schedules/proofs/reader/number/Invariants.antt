use Rattle.std.proofs.Common.{◌≡◌, ◌<◌, ◌^◌, drop}
use Rattle.schedules.specs.Texts.{value_from}
use Rattle.schedules.proofs.reader.number.Given as goal

abbrev pub invariant-loop-d : goal.invariant-loop-d
invariant-loop-d l = record {
  same : value_from l.value (drop l.d-index l.digits) ≡ value_from 0 l.digits;
  fits : l.value < 2 ^ 32;
}
