use Rattle.std.proofs.Common.{◌≡◌, ◌+◌, ◌++◌, take}
use Rattle.watchers.specs.Lines.{text_in}
use Rattle.watchers.proofs.note.put.Given as goal

abbrev pub invariant-loop-byte : goal.invariant-loop-byte
invariant-loop-byte l = (l.note.len ≡ l.fn.note.len + l.byte-index)
    × (text_in l.note ≡ text_in l.fn.note ++ take l.byte-index l.text)
