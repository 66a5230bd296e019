use Rattle.std.proofs.Common.{Some, ap, ◌∙◌}
use Rattle.std.specs.Prelude.{take, option_map}
use Rattle.stack_code.specs.Seek.{first_named, as_local, or_else}
use Rattle.stack_code.proofs.layout.LaidFunction.seek.Goals as goal

pub returns-in-Some : goal.returns-in-Some
returns-in-Some c =
    let f = c.args.self.now in
    ap Some c.local_found.ensures ∙ ap (λ o. or_else (option_map as_local o) (option_map as_local (first_named c.args.name.now (take f.param_count f.slots.items)))) c.in-Some.ensures

pub returns-in-Some-named : goal.returns-in-Some-named
returns-in-Some-named c =
    let f = c.args.self.now in
    ap Some c.local_found-in-Some-named.ensures
    ∙ ap (option_map as_local) c.in-Some-named.ensures
    ∙ ap (λ l. option_map as_local (first_named c.args.name.now (take f.param_count l))) c.as_slice.ensures.value
    ∙ ap (λ o. or_else (option_map as_local o) (option_map as_local (first_named c.args.name.now (take f.param_count f.slots.items)))) c.in_default.ensures

pub returns-in-None : goal.returns-in-None
returns-in-None c =
    let f = c.args.self.now in
    ap (option_map as_local) c.in-None.ensures
    ∙ ap (λ l. option_map as_local (first_named c.args.name.now (take f.param_count l))) c.as_slice.ensures.value
    ∙ ap (λ o. or_else (option_map as_local o) (option_map as_local (first_named c.args.name.now (take f.param_count f.slots.items)))) c.in_default.ensures
