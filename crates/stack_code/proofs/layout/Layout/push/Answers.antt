use Rattle.std.proofs.Common.{◌≡◌, [], ◌∷◌, ◌++◌, length, rules}
use Rattle.stack_code.proofs.Laying.{laid_at, laid_by, seen_by}
use Rattle.stack_code.proofs.layout.Layout.push.Goals as goal

pub returns-clause-laid : goal.returns-clause-laid
returns-clause-laid c =
    let l = c.args.self.now in
    let f = c.args.function in
    let functions : c.push.new.self.items ≡ l.functions.items ++ laid_at c.in_ok-start.start c.in_ok-len.len f ∷ [] = search rules in
    let instrs : c.extend_from_slice.new.self.items ≡ l.instrs.items ++ f.instrs.items = search rules in
    let inside : c.extend_from_slice-2.new.self.items ≡ l.inside.items ++ f.inside.items = search rules in
    let starts : c.in_ok-start.start ≡ length l.instrs.items = search rules in
    let lens : c.in_ok-len.len ≡ length f.instrs.items = search rules in
    laid_by l.functions.items l.instrs.items l.inside.items c.requires.laid f c.requires.kept c.in_ok-start.start c.in_ok-len.len starts lens c.push.new.self.items c.extend_from_slice.new.self.items c.extend_from_slice-2.new.self.items functions instrs inside

pub returns-clause-same : goal.returns-clause-same
returns-clause-same c =
    let l = c.args.self.now in
    let f = c.args.function in
    let functions : c.push.new.self.items ≡ l.functions.items ++ laid_at c.in_ok-start.start c.in_ok-len.len f ∷ [] = search rules in
    let instrs : c.extend_from_slice.new.self.items ≡ l.instrs.items ++ f.instrs.items = search rules in
    let inside : c.extend_from_slice-2.new.self.items ≡ l.inside.items ++ f.inside.items = search rules in
    let starts : c.in_ok-start.start ≡ length l.instrs.items = search rules in
    let lens : c.in_ok-len.len ≡ length f.instrs.items = search rules in
    seen_by l.functions.items l.instrs.items l.inside.items c.requires.laid f c.requires.kept c.in_ok-start.start c.in_ok-len.len starts lens c.push.new.self.items c.extend_from_slice.new.self.items c.extend_from_slice-2.new.self.items functions instrs inside
