use Rattle.std.proofs.Common.{List, Some, ap, ◌∙◌}
use Rattle.std.proofs.lemmas.Bool.{eqb-true}
use Rattle.nm_outside.specs.declared.mem_cabinet.CabinetCall.TheVariants.{Append}
use Rattle.nm_outside.specs.declared.mem_cabinet.CabinetFail.{CabinetFail}
use Rattle.nm_outside.specs.Failing.{failing_call}
use Rattle.nm_outside.specs.Held.{held_by}
use Rattle.nm_outside.proofs.Kept.{appended, first_grown, first_held, some_file, told_room}
use Rattle.nm_outside.proofs.Parts.{all_put, part_put, puts_all}
use Rattle.nm_outside.proofs.mem_cabinet.MemCabinetCabinet.append.Goals as goal

pub returns-then-is_err-clause-kept : goal.returns-then-is_err-clause-kept
returns-then-is_err-clause-kept c =
    let fs = c.args.self.now.files.items in
    appended c.args.self.now.room fs c.index_mut.result.now c.extend-result.new.bytes c.args.piece.now c.failing-kept.result _
    (some_file c.args.self.now.is_open c.args.self.now.room fs c.requires c.args.self.now.has_room) c.index_mut.ensures.value
    (c.failing-kept.ensures.named ∙ ap (λ (xs : List CabinetFail). failing_call xs Append c.saturating_add-self.result) c.deref.ensures.value
    ∙ ap (failing_call c.args.self.now.fails.items Append) c.saturating_add-self.ensures)
    c.extend-result.ensures.bytes

pub returns-else-is_err-clause-kept : goal.returns-else-is_err-clause-kept
returns-else-is_err-clause-kept c =
    let fs = c.args.self.now.files.items in
    appended c.args.self.now.room fs c.index_mut.result.now c.extend-result.new.bytes c.args.piece.now c.failing-kept.result _
    (some_file c.args.self.now.is_open c.args.self.now.room fs c.requires c.args.self.now.has_room) c.index_mut.ensures.value
    (c.failing-kept.ensures.named ∙ ap (λ (xs : List CabinetFail). failing_call xs Append c.saturating_add-self.result) c.deref.ensures.value
    ∙ ap (failing_call c.args.self.now.fails.items Append) c.saturating_add-self.ensures)
    c.extend-result.ensures.bytes

pub returns-then-is_err-clause-err : goal.returns-then-is_err-clause-err
returns-then-is_err-clause-err c =
    part_put c.extend-result.result _ (Some (held_by c.args.self.now)) _ _ c.args.piece.now c.extend-result.ensures.fails
    (first_grown c.args.self.now.files.items c.index_mut.result.now c.extend-result.new.bytes _
    (some_file c.args.self.now.is_open c.args.self.now.room c.args.self.now.files.items c.requires c.args.self.now.has_room) c.index_mut.ensures.value c.extend-result.ensures.bytes)

pub returns-then-is_err-clause-sure : goal.returns-then-is_err-clause-sure
returns-then-is_err-clause-sure c fits =
    let fs = c.args.self.now.files.items in
    let some = some_file c.args.self.now.is_open c.args.self.now.room fs c.requires c.args.self.now.has_room in
    let told = told_room _ _ _ _ _ (first_held fs c.index_mut.result.now some c.index_mut.ensures.value) fits in
    puts_all c.extend-result.result c.args.self.now.room c.index_mut.result.now.1.items c.args.piece.now c.failing-kept.result c.extend-result.ensures.fails
    (c.failing-kept.ensures.none (rw c.deref.ensures.value (eqb-true _ _ told.0))) told.1

pub returns-else-is_err-clause-ok : goal.returns-else-is_err-clause-ok
returns-else-is_err-clause-ok c =
    all_put c.extend-result.result _ (Some (held_by c.args.self.now)) _ _ c.args.piece.now c.extend-result.ensures.fails
    (first_grown c.args.self.now.files.items c.index_mut.result.now c.extend-result.new.bytes _
    (some_file c.args.self.now.is_open c.args.self.now.room c.args.self.now.files.items c.requires c.args.self.now.has_room) c.index_mut.ensures.value c.extend-result.ensures.bytes)
