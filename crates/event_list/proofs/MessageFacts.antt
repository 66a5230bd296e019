-- The letters that a process accepted, in a part of a list and in a list with the same entries.
use Rattle.std.proofs.Common.{◌≡◌, ℕ, List, ◌++◌, sym, ap, ◌∙◌}
use Rattle.std.specs.Prelude.{filter_map}
use Rattle.std.proofs.lemmas.List.Elements.{filter_map-append}
use Rattle.nm_base.specs.Message.{Message}
use Rattle.event_list.specs.declared.Event.{Event}
use Rattle.event_list.specs.Events.{entries, taken, messages, letter_named, taken_of}
use Rattle.event_list.specs.Runs.{Sound}
use Rattle.event_list.proofs.Members.{filter_map_agree}
use Rattle.event_list.proofs.Projections.{IsPart, accepts_part, meaning_same, taken_in_list, prefix_part}

-- p's letters in a part of E are its first letters in E
pub messages_part : {M N : ℕ} {R E : List Event} → Sound M R → Sound N E → IsPart R E → (p : ℕ) → (rest : List Message) × (messages R p ++ rest ≡ messages E p)
messages_part {R = R} {E = E} r g part p =
    let k = prefix_part r g part p in
    let a : filter_map (letter_named R) (taken (entries R p)) ≡ filter_map (letter_named E) (taken (entries R p)) =
    filter_map_agree (letter_named R) (letter_named E) (taken (entries R p)) (λ id c.
    let x = taken_in_list R p id c in
    meaning_same r g g part (λ a h. h) id (x.0, x.1, x.2) (x.0, x.1, accepts_part part x.0 x.1 id x.2)) in
    let b : filter_map (letter_named E) (taken (entries R p)) ++ filter_map (letter_named E) (taken k.0) ≡ filter_map (letter_named E) (taken (entries E p)) =
    sym (filter_map-append (letter_named E) (taken (entries R p)) (taken k.0))
    ∙ ap (filter_map (letter_named E)) (sym (filter_map-append taken_of (entries R p) k.0) ∙ ap taken k.1) in
    (filter_map (letter_named E) (taken k.0), ap (λ l. l ++ filter_map (letter_named E) (taken k.0)) a ∙ b)
