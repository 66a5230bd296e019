use Rattle.std.proofs.Common.{[], ◌∷◌}
use Rattle.nm_top.specs.Commands.{Certify}
use Rattle.nm_top.specs.Demands.{Finishes, Matches, IsFetched}
use Rattle.nm_top.specs.Answers.{pair_demands}
use Rattle.nm_top.specs.private.Tellings.{IsCertifyWork}
use Rattle.nm_top.proofs.RunLaws.{gives_first}
use Rattle.nm_top.proofs.FinishLaws.{certify_bears}
use Rattle.nm_top.proofs.CarryLaws.{carried, command_stops, counts_more, fetched_more, stopped}
use Rattle.nm_top.proofs.certify.certify.Goals as goal

pub returns-in-Ok : goal.returns-in-Ok
returns-in-Ok g c = λ w.
    let x = c.in-Ok.pair in
    let command = Certify c.args.program.now c.args.trace.now in
    let files = g.C.Cabinet.files c.args.files.now in
    carried w _ x command _ _ c.certify_pair.result (IsCertifyWork x.program x.trace) c.certify_pair.ensures
    (certify_bears files c.args.program.now c.args.trace.now x.program x.trace c.in-Ok.ensures.gives w)
    c.in-Ok.ensures.counts c.in-Ok.ensures.files c.in-Ok.ensures.writes

pub returns-in-Err : goal.returns-in-Err
returns-in-Err g c = λ w.
    let command = Certify c.args.program.now c.args.trace.now in
    let some = pair_demands c.args.program.now c.args.trace.now in
    let more = Finishes c.args.program.now c.args.trace.now ∷ Matches c.args.program.now c.args.trace.now ∷ [] in
    stopped w command _ _ c.tell.result c.in-Err.stop
    (command_stops w command (g.C.Cabinet.files c.args.files.now) c.in-Err.stop (gives_first (g.C.Cabinet.files c.args.files.now) some more c.in-Err.stop c.in-Err.ensures.gives))
    (counts_more (IsFetched some) _ (fetched_more some more) _ _ _ _ _ c.in-Err.ensures.counts) tt c.in-Err.ensures.files c.in-Err.ensures.writes c.tell.ensures
