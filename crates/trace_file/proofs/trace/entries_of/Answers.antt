use Rattle.std.proofs.Common.{◌+◌, ◌++◌, ◌∷◌, [], List, ℕ, ap, sym, subst, ◌∙◌, arith, drop, length-drop}
use Rattle.std.proofs.lemmas.Result.{err_from_is_err_and}
use Rattle.nm_base.specs.declared.letter.LetterId.{LetterId}
use Rattle.nm_base.specs.declared.letter.AcceptNote.{AcceptNote}
use Rattle.trace_file.specs.declared.item.Item.{Item}
use Rattle.trace_file.specs.private.Headers.{content_of}
use Rattle.trace_file.specs.private.Indexed.{content, Adds}
use Rattle.trace_file.specs.private.Places.{with_entries, Reaches}
use Rattle.trace_file.specs.Reading.{header_len}
use Rattle.std.proofs.Common.{Ok}
use Rattle.trace_file.proofs.Headed.{header_takes}
use Rattle.trace_file.proofs.Passing.{passes_note, passes_lost, next_is, item_here, entry_fault}
use Rattle.trace_file.proofs.trace.entries_of.Goals as goal

pub items-init : goal.items-init
items-init c =
    let h = content_of c.args.header.now in
    let bytes = c.args.bytes.now in
    let begun = header_takes bytes h (λ i. omega (arith, c.type_inv.bytes i)) c.requires.header in
    record {
      index = c.new-entries.ensures.index;
      reaches =
          subst (λ (p : ℕ). Reaches (content c.args.header.now c.new-entries.result) p bytes) (sym c.header_len-place.ensures)
          (subst (λ (lost : List LetterId). Reaches (with_entries h c.new-entries.result.notes.items lost) (header_len c.args.header.now.version) bytes) (sym c.new-entries.ensures.lost)
          (subst (λ (notes : List AcceptNote). Reaches (with_entries h notes []) (header_len c.args.header.now.version) bytes) (sym c.new-entries.ensures.notes) begun));
    }

pub returns-in_err-take-clause-damage : goal.returns-in_err-take-clause-damage
returns-in_err-take-clause-damage c =
    let p = err_from_is_err_and c.from_residual.result c.from_residual.ensures.1 in
    rw (p.1, p.2) (entry_fault (content c.args.header.now c.items.entries) c.items.place c.args.bytes.now _ c.in_err-take.field-0.0 c.split_at.ensures.back c.items.invariant.reaches c.in_err-take.ensures.answer)

pub items-smaller-in-Note : goal.items-smaller-in-Note
items-smaller-in-Note c =
    let t = content c.args.header.now c.items.entries in
    let bytes = c.args.bytes.now in
    let item = item_here t c.items.place bytes _ _ c.split_at.ensures.back c.items.invariant.reaches.place_is (c.in_ok-take.ensures.answer ∙ ap (λ (i : Item). Ok i) c.in-Note.is) in
    let next = next_is t (drop c.items.place bytes) _ item in
    omega (arith, next.shape.long, length-drop c.items.place bytes)

pub items-preserved-in-Note : goal.items-preserved-in-Note
items-preserved-in-Note c =
    let t = content c.args.header.now c.items.entries in
    let bytes = c.args.bytes.now in
    let item = item_here t c.items.place bytes _ _ c.split_at.ensures.back c.items.invariant.reaches.place_is (c.in_ok-take.ensures.answer ∙ ap (λ (i : Item). Ok i) c.in-Note.is) in
    let adds = subst (λ (i : Item). Adds i c.items.entries c.take.new.self) c.in-Note.is c.in_ok-take.ensures.adds in
    record {
      index = c.in_ok-take.ensures.index;
      reaches =
          subst (λ (lost : List LetterId). Reaches (with_entries t c.take.new.self.notes.items lost) (c.items.place + 11) bytes) (sym adds.1)
          (subst (λ (notes : List AcceptNote). Reaches (with_entries t notes t.lost) (c.items.place + 11) bytes) (sym adds.0)
          (passes_note t c.items.place bytes c.in-Note.field-0 (λ i. omega (arith, c.type_inv.bytes i)) c.items.invariant.reaches item));
    }

pub items-smaller : goal.items-smaller
items-smaller c =
    let t = content c.args.header.now c.items.entries in
    let bytes = c.args.bytes.now in
    let item = item_here t c.items.place bytes _ _ c.split_at.ensures.back c.items.invariant.reaches.place_is (c.in_ok-take.ensures.answer ∙ ap (λ (i : Item). Ok i) c.in-Lost.is) in
    let next = next_is t (drop c.items.place bytes) _ item in
    omega (arith, next.shape.long, length-drop c.items.place bytes)

pub items-preserved : goal.items-preserved
items-preserved c =
    let t = content c.args.header.now c.items.entries in
    let bytes = c.args.bytes.now in
    let item = item_here t c.items.place bytes _ _ c.split_at.ensures.back c.items.invariant.reaches.place_is (c.in_ok-take.ensures.answer ∙ ap (λ (i : Item). Ok i) c.in-Lost.is) in
    let adds = subst (λ (i : Item). Adds i c.items.entries c.take.new.self) c.in-Lost.is c.in_ok-take.ensures.adds in
    record {
      index = c.in_ok-take.ensures.index;
      reaches =
          subst (λ (lost : List LetterId). Reaches (with_entries t c.take.new.self.notes.items lost) (c.items.place + 6) bytes) (sym adds.1)
          (subst (λ (notes : List AcceptNote). Reaches (with_entries t notes (t.lost ++ c.in-Lost.field-0 ∷ [])) (c.items.place + 6) bytes) (sym adds.0)
          (passes_lost t c.items.place bytes c.in-Lost.field-0 (λ i. omega (arith, c.type_inv.bytes i)) c.items.invariant.reaches item));
    }
