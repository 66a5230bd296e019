use Rattle.std.proofs.Common.{sym, ap, ◌∙◌}
use Rattle.processes.specs.Seats.{process_in}
use Rattle.event_list.specs.Events.{count, messages}
use Rattle.world.proofs.world.World.count.Goals as goal

pub returns : goal.returns
returns g c s E now =
    let p = c.args.p.no in
    let x = process_in c.seat.result.now in
    let told = g.met.P.Proc.counts x (s p) (messages E p) (count E p) (now.stands p x c.seat.ensures.process) in
    c.count.ensures ∙ ap g.P.Proc.count_of c.process.ensures.process ∙ sym told
