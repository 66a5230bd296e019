use Rattle.std.proofs.Common.{◌<◌, sym, ap, ◌∙◌, arith}
use Rattle.stack_code.specs.View.{seen_code}
use Rattle.stack_code.specs.Seek.{found_at}
use Rattle.stack_code.proofs.Laid.{function_in, numbered_is, steps_length, part_at, ends_within, known_is, few_at, found_there}
use Rattle.stack_code.proofs.code.Code.seek_at.Goals as goal

pub index-function-requires : goal.index-function-requires
index-function-requires c =
    let code = c.args.self.now in
    let inside = function_in code.layout code.main code.texts code.globals.items code.variables.items c.args.at c.in-Some.at c.in-Some.is c.requires in
    omega (arith, inside.0, code.layout.functions.ok.0)

pub index-requires : goal.index-requires
index-requires c =
    let code = c.args.self.now in
    let l = code.layout in
    let f = c.index-function.result.now in
    let inside = function_in l code.main code.texts code.globals.items code.variables.items c.args.at c.in-Some.at c.in-Some.is c.requires in
    let count = steps_length l.functions.items l.instrs.items l.inside.items code.laid c.in-Some.at.function f inside.0 c.index-function.ensures in
    let part = part_at l.functions.items l.instrs.items l.inside.items code.laid c.in-Some.at.function f inside.0 c.index-function.ensures in
    let end = ends_within l.instrs.items l.inside.items (numbered_is l.functions.items l.instrs.items l.inside.items code.laid) f part in
    omega (arith, inside.1, count, end, l.inside.ok.0)

pub seek-requires-clause-known : goal.seek-requires-clause-known
seek-requires-clause-known c =
    let code = c.args.self.now in
    let l = code.layout in
    let f = c.index-function.result.now in
    let inside = function_in l code.main code.texts code.globals.items code.variables.items c.args.at c.in-Some.at c.in-Some.is c.requires in
    let count = steps_length l.functions.items l.instrs.items l.inside.items code.laid c.in-Some.at.function f inside.0 c.index-function.ensures in
    let part = part_at l.functions.items l.instrs.items l.inside.items code.laid c.in-Some.at.function f inside.0 c.index-function.ensures in
    let lt : c.in-Some.at.place < f.len = omega (arith, inside.1, count) in
    known_is l.instrs.items l.inside.items (numbered_is l.functions.items l.instrs.items l.inside.items code.laid) f part c.in-Some.at.place c.index.result.now lt c.index.ensures

pub seek-requires-clause-few : goal.seek-requires-clause-few
seek-requires-clause-few c =
    let code = c.args.self.now in
    let l = code.layout in
    let inside = function_in l code.main code.texts code.globals.items code.variables.items c.args.at c.in-Some.at c.in-Some.is c.requires in
    few_at l.functions.items l.instrs.items l.inside.items code.laid c.in-Some.at.function c.index-function.result.now inside.0 c.index-function.ensures code.main code.texts code.globals.items
    code.variables.items code.within

pub returns-in-Some : goal.returns-in-Some
returns-in-Some c =
    let code = c.args.self.now in
    let l = code.layout in
    let f = c.index-function.result.now in
    let inside = function_in l code.main code.texts code.globals.items code.variables.items c.args.at c.in-Some.at c.in-Some.is c.requires in
    let count = steps_length l.functions.items l.instrs.items l.inside.items code.laid c.in-Some.at.function f inside.0 c.index-function.ensures in
    let lt : c.in-Some.at.place < f.len = omega (arith, inside.1, count) in
    c.seek.ensures
    ∙ sym (found_there l.functions.items l.instrs.items l.inside.items code.laid c.in-Some.at.function f inside.0 c.index-function.ensures c.in-Some.at.place c.index.result.now lt c.index.ensures c.args.name.now)
    ∙ ap (λ o. found_at (seen_code code) o c.args.name.now) (sym c.in-Some.is)
