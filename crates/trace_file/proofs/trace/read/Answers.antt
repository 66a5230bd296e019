use Rattle.std.proofs.Common.{sym, subst, arith, Vec, Global}
use Rattle.std.proofs.lemmas.Result.{err_from_is_err_and}
use Rattle.nm_base.specs.declared.letter.LetterId.{LetterId}
use Rattle.nm_base.specs.declared.letter.AcceptNote.{AcceptNote}
use Rattle.trace_file.specs.private.Indexed.{content}
use Rattle.trace_file.specs.Outcomes.{IsSpelling}
use Rattle.trace_file.specs.Outcomes.IsDamage.{in_header}
use Rattle.trace_file.proofs.Ending.{end_fault_here, end_here, is_whole}
use Rattle.trace_file.proofs.trace.read.Goals as goal

pub returns-in_err-header-clause-damage : goal.returns-in_err-header-clause-damage
returns-in_err-header-clause-damage c =
    let p = err_from_is_err_and c.from_residual.result c.from_residual.ensures.1 in
    rw (p.1, p.2) (in_header c.in_err-header.ensures)

pub returns-in_err-counts-clause-damage : goal.returns-in_err-counts-clause-damage
returns-in_err-counts-clause-damage c =
    let p = err_from_is_err_and c.from_residual-in_err-counts.result c.from_residual-in_err-counts.ensures.1 in
    rw (p.1, p.2) (end_fault_here (content c.in_ok-header.header c.in_ok-entries.entries) c.in_ok-entries.place c.args.bytes.now _ _ c.in_err-counts.field-0.0 c.in_ok-entries.ensures.ends c.split_at.ensures.front c.split_at.ensures.back c.in_err-counts.ensures)

pub invariant_of-result : goal.invariant_of-result
invariant_of-result c =
    let t = content c.in_ok-header.header c.in_ok-entries.entries in
    let end = end_here t c.in_ok-entries.place c.args.bytes.now _ _ _ c.in_ok-entries.ensures.ends c.split_at.ensures.front c.split_at.ensures.back c.in_ok-counts.ensures in
    (is_whole t c.in_ok-entries.place c.args.bytes.now c.in_ok-counts.counts.items (λ i. omega (arith, c.type_inv.bytes i)) c.in_ok-entries.ensures.ends end).rules.counts.each

pub returns-clause-found : goal.returns-clause-found
returns-clause-found c =
    let t = content c.in_ok-header.header c.in_ok-entries.entries in
    let end = end_here t c.in_ok-entries.place c.args.bytes.now _ _ _ c.in_ok-entries.ensures.ends c.split_at.ensures.front c.split_at.ensures.back c.in_ok-counts.ensures in
    subst (λ (r : Vec AcceptNote Global × Vec LetterId Global).
    IsSpelling (record { version = t.version; mask = t.mask; n = t.n; digest = t.digest; notes = r.0.items; lost = r.1.items; counts = c.in_ok-counts.counts.items }) c.args.bytes.now)
    (sym c.into_lists-notes.ensures)
    (is_whole t c.in_ok-entries.place c.args.bytes.now c.in_ok-counts.counts.items (λ i. omega (arith, c.type_inv.bytes i)) c.in_ok-entries.ensures.ends end)
