use Rattle.stack_code.specs.View.{seen_code}
use Rattle.debugger.specs.Sessions.{first_session}
use Rattle.debugger.proofs.GoingBack.{begun_session}
use Rattle.debugger.proofs.session.Session.new.Goals as goal

pub invariant_of-result : goal.invariant_of-result
invariant_of-result g c =
    let p = c.requires.code.0 in (
      p,
      first_session,
      begun_session (record {
        code = seen_code c.args.code.now;
        trace = c.args.trace.now;
        replay = c.in_ok-replay.replay;
        kept = c.in_ok-kept.kept;
        breaks = c.new-3.result;
        latest = c.in_ok-latest.latest;
      })
          p c.requires.code.1 c.requires.trace (c.in_ok-replay.ensures p c.requires.code.1) c.in_ok-kept.ensures c.new-3.ensures
          c.in_ok-latest.ensures,
    )

pub returns-clause-begins : goal.returns-clause-begins
returns-clause-begins g c = λ p is_code.
    begun_session (record {
      code = seen_code c.args.code.now;
      trace = c.args.trace.now;
      replay = c.in_ok-replay.replay;
      kept = c.in_ok-kept.kept;
      breaks = c.new-3.result;
      latest = c.in_ok-latest.latest;
    })
    p is_code c.requires.trace (c.in_ok-replay.ensures p is_code) c.in_ok-kept.ensures c.new-3.ensures c.in_ok-latest.ensures
