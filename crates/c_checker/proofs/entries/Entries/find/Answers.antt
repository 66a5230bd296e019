use Rattle.std.proofs.Common.{◌≡◌, ◌<◌, Some, length, sym, ◌∙◌, ap, subst, arith, rules}
use Rattle.std.specs.Prelude.{slice_get, option_map}
use Rattle.std.proofs.lemmas.List.{length-map}
use Rattle.std.proofs.lemmas.Option.{slice_get-map, slice_get_read}
use Rattle.c_checker.specs.declared.entries.Held.{Held}
use Rattle.c_checker.specs.Scope as spec
use Rattle.c_checker.specs.private.Places.{entries_of}
use Rattle.c_checker.proofs.Places.{latest_none, latest_some, place_within}
use Rattle.c_checker.proofs.entries.Entries.find.Goals as goal

pub returns-in-Some-get : goal.returns-in-Some-get
returns-in-Some-get c =
    let held = c.deref.result.now in
    let k = c.in-Some.place in
    let x = c.in-Some-get.held.now in
    let same : entries_of held ≡ c.args.self.now = ap entries_of c.deref.ensures.value ∙ c.self.view_is in
    let within : k < length held = omega (arith, c.in-Some-get.ensures.lookup.3.0) in
    let there : slice_get held k ≡ Some x = slice_get_read held (length held) k x (search rules) within c.in-Some-get.ensures.lookup.1 in
    let at : slice_get c.args.self.now k ≡ Some x.entry = subst (λ es. slice_get es k ≡ Some x.entry) same (slice_get-map (λ (h : Held). h.entry) held k
    ∙ ap (option_map (λ (h : Held). h.entry)) there) in
    sym (latest_some c.args.name.now (spec.built_in c.args.name.now) c.args.self.now k x.entry (sym c.in-Some.ensures) at)

pub returns-in-None-get : goal.returns-in-None-get
returns-in-None-get c =
    let held = c.deref.result.now in
    let k = c.in-Some.place in
    let same : entries_of held ≡ c.args.self.now = ap entries_of c.deref.ensures.value ∙ c.self.view_is in
    let within : k < length c.args.self.now = place_within c.args.name.now c.args.self.now k (sym c.in-Some.ensures) in
    absurd (omega (arith, c.in-None-get.ensures.lookup.3, ap length same, length-map held (λ (h : Held). h.entry)))

pub returns-in-None : goal.returns-in-None
returns-in-None c = c.built_in-in-None.ensures ∙ sym (latest_none c.args.name.now (spec.built_in c.args.name.now) c.args.self.now (sym c.in-None.ensures))
