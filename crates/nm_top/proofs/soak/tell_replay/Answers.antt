use Rattle.std.proofs.Common.{◌∷◌, [], length, ◌∙◌}
use Rattle.report.specs.Texts.{certificates_line}
use Rattle.nm_top.specs.Finishing.{entries_of}
use Rattle.nm_top.specs.Soaking.{replayed_text, soak_finished}
use Rattle.nm_top.proofs.SoakLaws.{up_none, up_next, up_failed, soaked_run, soaked_entries, replayed_same, same_text, same_world}
use Rattle.nm_top.proofs.soak.tell_replay.Goals as goal

pub returns-in_default : goal.returns-in_default
returns-in_default g c = λ p is_code. up_none (replayed_text p c.args.trace.now c.args.seed ∷ certificates_line (length (entries_of c.args.trace.now)) ∷ []) _ _

pub tell_certificates-requires-clause-sound : goal.tell_certificates-requires-clause-sound
tell_certificates-requires-clause-sound g c =
    let t = c.args.trace.now in
    let k = c.requires.recorded in
    (k.0, t.n, soaked_run k.0 c.args.seed t k.2 c.events.result.now.events (c.events.ensures ∙ (c.in-Ok.ensures k.0 k.1).replays.replays.events))

pub tell_certificates-requires-clause-entries : goal.tell_certificates-requires-clause-entries
tell_certificates-requires-clause-entries g c =
    let t = c.args.trace.now in
    let k = c.requires.recorded in
    soaked_entries k.0 c.args.seed t k.2 c.events.result.now.events (c.events.ensures ∙ (c.in-Ok.ensures k.0 k.1).replays.replays.events)

pub returns-in-Ok-put_replayed : goal.returns-in-Ok-put_replayed
returns-in-Ok-put_replayed g c = λ p is_code.
    let t = c.args.trace.now in
    let h = c.in-Ok.ensures p is_code in
    let E = (soak_finished p t c.args.seed).events in
    up_next _ _ _ _ _ _ c.tell_certificates.result (replayed_text p t c.args.seed) (certificates_line (length (entries_of t)) ∷ []) c.put_replayed.result tt c.in-Ok-put_replayed.is
    (same_text _ _ _ _ _ _ c.put_replayed.result (replayed_same p c.args.seed t c.in-Ok.replayed.1 h.idle_are)
    (c.put_replayed.ensures p E (same_world _ _ p E c.world.ensures h.replays.runs))) c.tell_certificates.ensures

pub returns : goal.returns
returns g c = λ p is_code.
    let t = c.args.trace.now in
    let h = c.in-Ok.ensures p is_code in
    let E = (soak_finished p t c.args.seed).events in
    up_failed _ _ _ _ (replayed_text p t c.args.seed) (certificates_line (length (entries_of t)) ∷ []) c.put_replayed.result c.in-Err.field-0 c.in-Err.is
    (same_text _ _ _ _ _ _ c.put_replayed.result (replayed_same p c.args.seed t c.in-Ok.replayed.1 h.idle_are)
    (c.put_replayed.ensures p E (same_world _ _ p E c.world.ensures h.replays.runs)))
