use Rattle.std.proofs.Common.{◌≡◌, ◌++◌, ◌≤◌, ◌+◌, take, replicate}
use Rattle.std.specs.Vec.{vec_len, vec_capacity}
use Rattle.nm_base.specs.declared.limits.TheConstants.{MAX_DATA_WORDS}
use Rattle.proc_machine.proofs.words.Words.open.Given as goal

abbrev pub invariant-loop-i : goal.invariant-loop-i
invariant-loop-i l = record {
  items : l.self-inside.items.items ≡ l.initial.self-inside.items.items ++ take l.i (l.first ++ replicate l.size 0);
  len : vec_len l.self-inside.items ≡ vec_len l.initial.self-inside.items + l.i;
  room : MAX_DATA_WORDS ≤ vec_capacity l.self-inside.items;
}
