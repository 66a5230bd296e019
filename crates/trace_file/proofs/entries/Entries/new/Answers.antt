use Rattle.std.proofs.Common.{ap, sym, ◌∙◌, refl, List, [], replicate}
use Rattle.std.specs.List.{list_any}
use Rattle.nm_base.specs.Message.{same_name}
use Rattle.trace_file.specs.Rules.{is_named}
use Rattle.trace_file.specs.private.Indexed.{least_receive, least_send}
use Rattle.nm_base.specs.declared.letter.LetterId.{LetterId}
use Rattle.nm_base.specs.declared.letter.AcceptNote.{AcceptNote}
use Rattle.trace_file.proofs.Marks.{zero_at}
use Rattle.trace_file.proofs.entries.Entries.new.Goals as goal

pub returns-clause-index : goal.returns-clause-index
returns-clause-index c = record {
  receives_len = refl;
  sends_len = refl;
  receives = λ p lt. zero_at (replicate 32 0) refl p ∙ ap (λ (xs : List AcceptNote). least_receive xs p) (sym c.new.ensures.items);
  sends = λ p lt. zero_at (replicate 32 0) refl p ∙ ap (λ (xs : List LetterId). least_send xs p) (sym c.new-2.ensures.items);
  named = λ id. ap (list_any (same_name id)) c.new-3.ensures.empty ∙ ap (λ (xs : List LetterId). is_named [] xs id) (sym c.new-2.ensures.items)
      ∙ ap (λ (xs : List AcceptNote). is_named xs c.new-2.result.items id) (sym c.new.ensures.items);
}
