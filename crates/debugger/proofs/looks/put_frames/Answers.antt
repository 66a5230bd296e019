use Rattle.std.proofs.Common.{length, Some, sym, ap, ◌∙◌}
use Rattle.c_tree.specs.Play.{script_of}
use Rattle.event_list.specs.Events.{count, messages}
use Rattle.c_process.specs.Values.{frames_after}
use Rattle.c_process.specs.contracts.script.CProcProc.TheImpl as impl
use Rattle.report.proofs.Shown.{its_script, its_code, its_own}
use Rattle.debugger.proofs.looks.put_frames.Goals as goal

pub returns-clause-text : goal.returns-clause-text
returns-clause-text g c = λ program E k compiled.
    let p = c.args.p.no in
    let n = length c.args.world.now.processes in
    let x = c.process.result.now in
    let seen = sym c.process.ensures.process in
    let at = c.seat.ensures.process ∙ ap Some seen in
    let name = ap impl.name_of-value.it (sym seen) ∙ c.seat.ensures.name in
    c.put_frames_of.ensures.text program (frames_after program n p (messages E p) (count E p)) (record {
      compiled = compiled;
      own = its_code _ program E k p x at name;
      script = script_of program n p;
      letters = messages E p;
      events = count E p;
      stands = its_script _ program E k p x at name;
      is = its_own _ program E k p x at name frames_after;
    })
