use Rattle.std.proofs.Common.{ap, sym, ◌∙◌, drop}
use Rattle.std.specs.Prelude.{◌||◌}
use Rattle.c_checker.specs.Scope as spec
use Rattle.c_checker.proofs.Places.{is_from, has_name_from}
use Rattle.c_checker.proofs.entries.Entries.is_taken.Goals as goal

pub returns-in-Some : goal.returns-in-Some
returns-in-Some c =
    let name = c.args.name.now in
    let there = ap (is_from c.args.from) c.in-Some.ensures ∙ sym (has_name_from name c.args.self.now c.args.from) in
    there ∙ ap (λ b. b || spec.has_name name (drop c.args.from c.args.self.now)) c.if-is_built_in.ensures

pub returns-in-None : goal.returns-in-None
returns-in-None c =
    let name = c.args.name.now in
    let there = ap (is_from c.args.from) c.in-None.ensures ∙ sym (has_name_from name c.args.self.now c.args.from) in
    there ∙ ap (λ b. b || spec.has_name name (drop c.args.from c.args.self.now)) c.if-is_built_in.ensures
