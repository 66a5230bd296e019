use Rattle.std.proofs.Common.{length, [], ap, ◌∙◌, arith, subst}
use Rattle.nm_top.specs.SoakText.{soak_text}
use Rattle.nm_top.specs.private.Unread.{IsUnread}
use Rattle.nm_top.proofs.SoakLaws.{own_stop, text_few}
use Rattle.nm_top.proofs.soak.own_program.Goals as goal

pub program_of-requires : goal.program_of-requires
program_of-requires c = omega (arith, ap length (c.as_bytes-text.ensures.value ∙ c.soak_text.ensures), text_few)

pub returns-in-Err-clause-refused : goal.returns-in-Err-clause-refused
returns-in-Err-clause-refused c =
    own_stop c.unread.result (λ held. c.unread.ensures.unmet held [] soak_text
    (subst (λ text. IsUnread text c.in-Err.fault) (c.as_bytes-text.ensures.value ∙ c.soak_text.ensures) c.in-Err.ensures.refused))
