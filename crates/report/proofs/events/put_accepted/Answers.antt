use Rattle.std.proofs.Common.{◌++◌, codes, ◌∙◌}
use Rattle.report.proofs.Pieces.{same_text}
use Rattle.report.proofs.events.put_accepted.Goals as goal

pub returns : goal.returns
returns g c =
    let sender = c.as_bytes.ensures.value ∙ c.format.ensures.text in
    let number = c.as_bytes-2.ensures.value ∙ c.format-2.ensures.text in
    let set = c.as_slice.ensures ∙ c.hex_digits.ensures in
    same_text _ _ _ _ _ _ _ (λ i. codes "accepted " ++ sender i ++ codes "." ++ number i ++ codes " set 0x" ++ set i) c.put_pieces.ensures
