use Rattle.std.proofs.Common.{◌≡◌, ◌∷◌, ◌+◌, ◌≤◌, [], length, sym, ap, ◌∙◌, subst}
use Rattle.sha2.specs.Sha256.{sha256}
use Rattle.nm_base.specs.declared.limits.TheConstants.{MAX_TRACE_BYTES}
use Rattle.trace_file.specs.Content.{Content}
use Rattle.trace_file.specs.Rules.{IsTrace}
use Rattle.report.specs.Texts.{certificates_line}
use Rattle.nm_top.specs.Finishing.{entries_of}
use Rattle.nm_top.specs.SoakText.{soak_text}
use Rattle.nm_top.specs.Soaking.{soak_run, recorded_text, replayed_text}
use Rattle.nm_top.specs.private.Soaked.{IsOfRecording}
use Rattle.nm_top.proofs.SoakLaws.{behind, behind_none, up_none, up_next_if, up_failed_if, soaks, rules, small, few_named, of_recording, recorded_same, same_text, told_same}
use Rattle.nm_top.proofs.soak.tell_recording.Goals as goal

pub returns-in_default-record_generated : goal.returns-in_default-record_generated
returns-in_default-record_generated g c = λ p is_code reads. behind_none c.args.seed p _ _

pub returns-then-is_err : goal.returns-then-is_err
returns-then-is_err g c = λ p is_code reads.
    let h = c.in-Ok-record_generated.ensures p is_code in
    let t = h.content in
    let is = soaks p c.args.seed t c.args.digest.now c.requires.digest h.is_trace in
    behind c.args.seed p t (record { has_program = reads; is_trace = is }) _ _ _ _ _
    (up_failed_if _ _ _ _ (recorded_text p t c.args.seed) (replayed_text p t c.args.seed ∷ certificates_line (length (entries_of t)) ∷ []) c.put_recorded.result
    (sym c.is_err.ensures.value ∙ c.if-is_err.true)
    (same_text _ _ _ _ _ _ c.put_recorded.result (recorded_same p c.args.seed t _ _ _ h.notes_are h.lost_are h.bytes_are) (c.put_recorded.ensures p (soak_run p c.args.seed) h.runs)))

pub trace_in_memory-requires : goal.trace_in_memory-requires
trace_in_memory-requires g c =
    let k = c.requires.code in
    let h = c.in-Ok-record_generated.ensures k.0 k.1 in
    let is = soaks k.0 c.args.seed h.content c.args.digest.now c.requires.digest h.is_trace in
    let long : length (sha256 soak_text) ≡ 32 = ap length (sym c.requires.digest) ∙ c.told-digest in
    (h.content, rules k.0 c.args.seed h.content is long, small k.0 c.args.seed h.content is long, h.file)

pub tell_replay-requires-clause-trace : goal.tell_replay-requires-clause-trace
tell_replay-requires-clause-trace g c =
    let k = c.requires.code in
    let h = c.in-Ok-record_generated.ensures k.0 k.1 in
    let is = soaks k.0 c.args.seed h.content c.args.digest.now c.requires.digest h.is_trace in
    let long : length (sha256 soak_text) ≡ 32 = ap length (sym c.requires.digest) ∙ c.told-digest in
    let kept = rules k.0 c.args.seed h.content is long in
    subst (λ (u : Content). IsTrace u) (sym (c.in-Ok-trace_in_memory.ensures h.content kept h.file)) kept

pub tell_replay-requires-clause-few : goal.tell_replay-requires-clause-few
tell_replay-requires-clause-few g c =
    let k = c.requires.code in
    let h = c.in-Ok-record_generated.ensures k.0 k.1 in
    let is = soaks k.0 c.args.seed h.content c.args.digest.now c.requires.digest h.is_trace in
    let long : length (sha256 soak_text) ≡ 32 = ap length (sym c.requires.digest) ∙ c.told-digest in
    let same = c.in-Ok-trace_in_memory.ensures h.content (rules k.0 c.args.seed h.content is long) h.file in
    subst (λ (u : Content). length u.notes + length u.lost ≤ MAX_TRACE_BYTES) (sym same) (few_named k.0 c.args.seed h.content is long)

pub tell_replay-requires-clause-recorded : goal.tell_replay-requires-clause-recorded
tell_replay-requires-clause-recorded g c =
    let k = c.requires.code in
    let h = c.in-Ok-record_generated.ensures k.0 k.1 in
    let is = soaks k.0 c.args.seed h.content c.args.digest.now c.requires.digest h.is_trace in
    let long : length (sha256 soak_text) ≡ 32 = ap length (sym c.requires.digest) ∙ c.told-digest in
    let same = c.in-Ok-trace_in_memory.ensures h.content (rules k.0 c.args.seed h.content is long) h.file in
    (k.0, k.1, subst (λ (u : Content). IsOfRecording k.0 u c.args.seed) (sym same) (of_recording k.0 c.args.seed h.content is))

pub returns-in-Ok-trace_in_memory : goal.returns-in-Ok-trace_in_memory
returns-in-Ok-trace_in_memory g c = λ p is_code reads.
    let h = c.in-Ok-record_generated.ensures p is_code in
    let t = h.content in
    let is = soaks p c.args.seed t c.args.digest.now c.requires.digest h.is_trace in
    let long : length (sha256 soak_text) ≡ 32 = ap length (sym c.requires.digest) ∙ c.told-digest in
    let same = c.in-Ok-trace_in_memory.ensures t (rules p c.args.seed t is long) h.file in
    behind c.args.seed p t (record { has_program = reads; is_trace = is }) _ _ _ _ _
    (up_next_if _ _ _ _ _ _ c.tell_replay.result (recorded_text p t c.args.seed) (replayed_text p t c.args.seed ∷ certificates_line (length (entries_of t)) ∷ []) c.put_recorded.result
    (sym c.is_err.ensures.value ∙ c.if-is_err.false)
    (same_text _ _ _ _ _ _ c.put_recorded.result (recorded_same p c.args.seed t _ _ _ h.notes_are h.lost_are h.bytes_are) (c.put_recorded.ensures p (soak_run p c.args.seed) h.runs))
    (told_same p c.args.seed c.in-Ok-trace_in_memory.trace t same _ _ _ _ _ (c.tell_replay.ensures p is_code)))

pub returns : goal.returns
returns g c = λ p is_code reads.
    let h = c.in-Ok-record_generated.ensures p is_code in
    let t = h.content in
    let is = soaks p c.args.seed t c.args.digest.now c.requires.digest h.is_trace in
    behind c.args.seed p t (record { has_program = reads; is_trace = is }) _ _ _ _ _
    (up_next_if _ _ _ _ _ _ _ (recorded_text p t c.args.seed) (replayed_text p t c.args.seed ∷ certificates_line (length (entries_of t)) ∷ []) c.put_recorded.result
    (sym c.is_err.ensures.value ∙ c.if-is_err.false)
    (same_text _ _ _ _ _ _ c.put_recorded.result (recorded_same p c.args.seed t _ _ _ h.notes_are h.lost_are h.bytes_are) (c.put_recorded.ensures p (soak_run p c.args.seed) h.runs))
    (up_none (replayed_text p t c.args.seed ∷ certificates_line (length (entries_of t)) ∷ []) _ _))
