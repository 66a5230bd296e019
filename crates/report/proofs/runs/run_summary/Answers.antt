use Rattle.std.proofs.Common.{length, arith, ◌∙◌}
use Rattle.c_tree.specs.Play.{script_of}
use Rattle.event_list.specs.Events.{letters, taken}
use Rattle.event_list.specs.Traces.{waiting}
use Rattle.event_list.proofs.RunsSound.{runs_sound}
use Rattle.report.proofs.Shown.{prints_summary}
use Rattle.report.proofs.Counts.{sent_letters}
use Rattle.report.proofs.runs.run_summary.Goals as goal

pub returns-clause-text : goal.returns-clause-text
returns-clause-text g c = λ program E k.
    let sound = sent_letters c.args.world.now.mask (runs_sound (script_of program (length c.args.world.now.processes)) k.stands.lawful k.stands.run) in
    let sent = c.sent-sent.ensures ∙ k.stands.sent in
    let accepted = c.accepted-accepted.ensures ∙ k.stands.accepted in
    prints_summary _ _ _ _ _ (length E) _ (length (letters E)) _ (length (taken E)) _ (length (waiting E)) c.summary.result
    (c.events.ensures ∙ k.stands.events) sent accepted (omega (arith, c.saturating_sub.ensures, sent, accepted, sound)) c.summary.ensures
