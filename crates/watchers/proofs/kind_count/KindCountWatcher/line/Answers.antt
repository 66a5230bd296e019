use Rattle.std.proofs.Common.{refl, arith}
use Rattle.watchers.proofs.LineFacts as facts
use Rattle.watchers.proofs.kind_count.KindCountWatcher.line.Goals as goal

pub returns : goal.returns
returns c =
    let nothing = facts.says_nothing c.empty.result c.empty.ensures.text in
    let lines = facts.says_more _ _ _ _ _ nothing c.with_count-note.ensures.text refl c.with_count-note.ensures.small in
    let sent = facts.says_more _ _ _ _ _ lines c.with_count-note-2.ensures.text refl
    c.with_count-note-2.ensures.small in
    let accepted = facts.says_more _ _ _ _ _ sent c.with_count-note-3.ensures.text refl
    c.with_count-note-3.ensures.small in
    let printed = facts.says_more _ _ _ _ _ accepted c.with_count-note-4.ensures.text refl
    c.with_count-note-4.ensures.small in
    let ended = facts.says_more _ _ _ _ _ printed c.with_count-note-5.ensures.text refl
    c.with_count-note-5.ensures.small in
    let faulted = facts.says_more _ _ _ _ _ ended c.with_count.ensures.text refl c.with_count.ensures.small in
    facts.is_line _ _ (omega (
      arith,
      c.empty.ensures.len,
      c.with_count-note.ensures.len,
      c.with_count-note-2.ensures.len,
      c.with_count-note-3.ensures.len,
      c.with_count-note-4.ensures.len,
      c.with_count-note-5.ensures.len,
      c.with_count.ensures.len,
    )) faulted
