use Rattle.std.proofs.Common.{◌≡◌, List, ℕ, Some, cond, length, subst, sym, ap, ◌∙◌, arith}
use Rattle.std.specs.Str.{bytes_eq}
use Rattle.c_checker.specs.declared.entries.Held.{Held}
use Rattle.c_checker.specs.private.Places.{place, place_in, entries_of, Keeps}
use Rattle.c_checker.proofs.Places.{keeps_push}
use Rattle.c_checker.proofs.entries.Entries.push.Goals as goal

pub invariant_of-self-in-Ok : goal.invariant_of-self-in-Ok
invariant_of-self-in-Ok c =
    let held = c.self.inside.held.items in
    let before = c.self.inside.places in
    let after = c.put_place.new.places in
    let h : Held = record { entry = c.args.entry; hides = c.place_of-hides.result } in
    let name : c.in_ok-name.name.items ≡ c.args.entry.name = c.in_ok-name.ensures.items ∙ c.as_slice.ensures in
    let spelled : c.as_slice-2.result.now ≡ c.args.entry.name = c.as_slice-2.ensures.value ∙ name in
    let hides : h.hides ≡ place h.entry.name (entries_of held) = c.place_of-hides.ensures ∙ ap (λ n. place n c.args.self.now) spelled ∙ ap (place h.entry.name) (sym c.self.view_is) in
    let count : c.len-place.result ≡ length held = omega (arith, c.len-place.ensures, c.self.inside.held.ok.0) in
    let changed : (other : List ℕ) → place_in after other ≡ cond (bytes_eq h.entry.name other) (Some (length held)) (place_in before other) =
    λ other. c.in-Ok.ensures.ok other ∙ ap (λ n. cond (bytes_eq n other) (Some c.len-place.result) (place_in before other)) name
    ∙ ap (λ l. cond (bytes_eq h.entry.name other) (Some l) (place_in before other)) count in
    subst (λ hs. Keeps hs after) (sym c.in_ok-hold.ensures.ok) (keeps_push held before after h c.self.invariant hides changed)
