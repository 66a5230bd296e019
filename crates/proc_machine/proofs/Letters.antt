-- The letter that was sent is the one that its event names.
use Rattle.std.proofs.Common.{◌≡◌, ℕ, Some, ap, ◌∙◌}
use Rattle.std.specs.Prelude.{replicate}
use Rattle.nm_base.specs.declared.letter.ProcNo.{ProcNo}
use Rattle.nm_base.specs.declared.letter.LetterId.{LetterId}
use Rattle.nm_base.specs.declared.letter.Letter.{Letter}
use Rattle.nm_base.specs.declared.letter.Stamp.{Stamp}
use Rattle.nm_base.specs.Scripts.{letter_made}
use Rattle.proc_machine.specs.private.Moves.{sent_by}

pub letter_is : (me : ProcNo) (number : ℕ) (l : Letter) → l.id ≡ record { sender = me; number = number } → l.posted ≡ 0 → l.stamp.parts ≡ replicate 32 0 → Some l ≡ letter_made me (sent_by l)
letter_is me number l id posted parts =
    let sender : l.id.sender ≡ me = ap (λ (i : LetterId). i.sender) id in
    let stamp : l.stamp ≡ record { parts = replicate 32 0 } = ap (λ ps. record { parts = ps }) parts in
    ap (λ (p : ProcNo). Some (record l { id = record { sender = p; number = l.id.number } })) sender
    ∙ ap (λ n. Some (record l { id = record { sender = me; number = l.id.number }; posted = n })) posted
    ∙ ap (λ (s : Stamp). Some (record l { id = record { sender = me; number = l.id.number }; posted = 0; stamp = s })) stamp
