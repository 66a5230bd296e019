use Rattle.std.proofs.Common.{◌≡◌, length, sym, ◌∙◌}
use Rattle.recorder.proofs.SeenLaws.{holds_more, holds_past}
use Rattle.recorder.proofs.seen.SeenChannels.see.Goals as goal

pub returns-clause-seen : goal.returns-clause-seen
returns-clause-seen c gone h =
    let l = c.args.letter.now in
    let in_it = sym c.has_place.ensures ∙ c.if-not-has_place.false in
    let a = holds_more c.args.self.now.of gone l in_it (let long : length c.args.self.now.of ≡ 1024 = search in long) h in
    search

pub returns-then-not-has_place-clause-seen : goal.returns-then-not-has_place-clause-seen
returns-then-not-has_place-clause-seen c gone h =
    let a = holds_past c.args.self.now.of gone c.args.letter.now (sym c.has_place.ensures ∙ c.if-not-has_place.true) h in
    search
