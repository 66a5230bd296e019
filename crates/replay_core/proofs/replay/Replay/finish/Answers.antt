use Rattle.std.proofs.Common.{refl, sym, ◌∙◌, true≢false}
use Rattle.replay_core.proofs.RoundLaws.{finished, stuck, reached}
use Rattle.replay_core.proofs.replay.Replay.finish.Goals as goal

pub returns-then-is_complete-clause-finished : goal.returns-then-is_complete-clause-finished
returns-then-is_complete-clause-finished g c s T R h =
    let k = c.in-Ok.ensures.rounded s T R h in
    finished g.P.Proc.stands_for _ c.in-Ok.round s T R k _ refl refl (sym (c.is_complete.ensures s T _ k.stands) ∙ c.if-is_complete.true)

pub returns-clause-failed : goal.returns-clause-failed
returns-clause-failed g c s T R h =
    let k = c.in-Ok.ensures.rounded s T R h in
    stuck g.P.Proc.stands_for _ c.in-Ok.round s T R k c.counts.result (c.counts.ensures s T _ k.stands) (sym (c.is_complete.ensures s T _ k.stands) ∙ c.if-is_complete.false)

pub returns-clause-reaches : goal.returns-clause-reaches
returns-clause-reaches g c s T R E h e =
    let k = c.in-Ok.ensures.rounded s T R h in
    absurd (true≢false (sym (reached g.P.Proc.stands_for _ c.in-Ok.round s T R k E c.is_complete.result h.replay e (c.is_complete.ensures s T _ k.stands)) ∙ c.if-is_complete.false))
