use Rattle.std.proofs.Common.{◌++◌, codes, ◌∙◌}
use Rattle.report.proofs.Pieces.{same_text}
use Rattle.report.proofs.certificates.put_earlier.Goals as goal

pub returns : goal.returns
returns g c =
    let receive = c.as_bytes.ensures.value ∙ c.format.ensures.text in
    let event = c.as_bytes-2.ensures.value ∙ c.format-2.ensures.text in
    let set = c.as_slice.ensures ∙ c.hex_digits.ensures in
    same_text _ _ _ _ _ _ _ (λ i. codes "earlier receive " ++ receive i ++ codes ", event " ++ event i ++ codes ", set 0x" ++ set i ++ codes "\n") c.put_pieces.ensures
