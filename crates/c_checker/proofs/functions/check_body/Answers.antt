use Rattle.std.proofs.Common.{ap}
use Rattle.c_checker.specs.declared.state.File.{File}
use Rattle.c_checker.proofs.Kept.{body_done}
use Rattle.c_checker.proofs.functions.check_body.Goals as goal

pub returns-clause-yes : goal.returns-clause-yes
returns-clause-yes c =
    let begun = rw c.as_slice.ensures at c.in_ok-inside.ensures.begun in
    let headings = ap (λ (x : File). x.headings) c.in_ok-inside.ensures.left in
    let h0 = rw c.as_slice-2.ensures at c.in_ok-made.ensures in
    let h1 = rw headings at h0 in
    let h2 = rw c.len-from.ensures at h1 in
    let h3 = rw begun at h2 in
    let left = rw c.len-from.ensures at c.truncate.ensures in
    body_done c.args.file.now c.body_begin.new.file c.args.head.now c.args.params c.args.body.now c.in_ok-made.made c.function_body.new.body c.in_ok-name.name
    c.truncate.new.self h3 c.in_ok-name.ensures c.in_ok-inside.ensures.left left
