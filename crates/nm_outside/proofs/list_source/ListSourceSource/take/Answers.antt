use Rattle.std.proofs.Common.{drop, ap, ◌∙◌}
use Rattle.nm_outside.proofs.Taking.{taken_front, at_end}
use Rattle.nm_outside.proofs.list_source.ListSourceSource.take.Goals as goal

pub returns-clause-bytes : goal.returns-clause-bytes
returns-clause-bytes c =
    let bytes = c.args.self.now.bytes.items in
    let place = c.args.self.now.place in
    let count = c.copy_front-count.result in
    let rest = c.split_at.ensures.back ∙ ap (drop place) c.deref-2.ensures.value in (
      taken_front bytes c.copy_front-count.new.buf _ place count rest c.copy_front-count.ensures.bytes,
      λ none room. at_end bytes _ place count _ _ rest c.copy_front-count.ensures.count c.requires c.args.self.now.some none,
    )
