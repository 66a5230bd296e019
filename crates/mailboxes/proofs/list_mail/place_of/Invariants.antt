use Rattle.std.proofs.Common.{◌≡◌, take, false}
use Rattle.std.specs.Prelude.{Contains}
use Rattle.nm_base.specs.declared.letter.Letter.{Letter}
use Rattle.mailboxes.specs.Letters.{is_named}
use Rattle.mailboxes.proofs.list_mail.place_of.Given as goal

abbrev pub invariant-loop-i : goal.invariant-loop-i
invariant-loop-i l = (w : Letter) → Contains (take l.i l.letters) w → is_named l.id w ≡ false
