use Rattle.std.proofs.Common.{None, Some}
use Rattle.cut_witness.specs.Comparisons.{trace_entries}
use Rattle.cut_witness.proofs.ComparingFacts.{first_lacked, then_lacked, none_lacked, first_over, then_over}
use Rattle.cut_witness.proofs.ListingFacts.{is_none}
use Rattle.cut_witness.proofs.comparing.compare_entries.Goals as goal

pub returns-in-Some : goal.returns-in-Some
returns-in-Some c M E n l =
    let t = c.args.trace.now in
    let own = trace_entries c.args.notes.now c.args.lost.now in
    first_lacked M E t.notes c.args.notes.now t.lost c.args.lost.now n l c.in-Some.first
    (first_over own c.notes.result.now t.notes c.lost.result.now t.lost c.notes.ensures c.lost.ensures c.in_ok-missing.missing (Some c.in-Some.first) c.in-Some.is c.in_ok-missing.ensures)

pub returns-in-Some-added : goal.returns-in-Some-added
returns-in-Some-added c M E n l =
    let t = c.args.trace.now in
    let own = trace_entries c.args.notes.now c.args.lost.now in
    then_lacked M E t.notes c.args.notes.now t.lost c.args.lost.now n l
    (first_over own c.notes.result.now t.notes c.lost.result.now t.lost c.notes.ensures c.lost.ensures c.in_ok-missing.missing None (is_none c.in_ok-missing.missing c.in_default.not-Some) c.in_ok-missing.ensures)
    c.in-Some-added.first
    (then_over own c.notes-2.result.now t.notes c.lost-2.result.now t.lost c.notes-2.ensures c.lost-2.ensures c.in_ok-added.added (Some c.in-Some-added.first) c.in-Some-added.is c.in_ok-added.ensures)

pub returns-in-None : goal.returns-in-None
returns-in-None c M E n l =
    let t = c.args.trace.now in
    let own = trace_entries c.args.notes.now c.args.lost.now in
    none_lacked M E t.notes c.args.notes.now t.lost c.args.lost.now n l
    (first_over own c.notes.result.now t.notes c.lost.result.now t.lost c.notes.ensures c.lost.ensures c.in_ok-missing.missing None (is_none c.in_ok-missing.missing c.in_default.not-Some) c.in_ok-missing.ensures)
    (then_over own c.notes-2.result.now t.notes c.lost-2.result.now t.lost c.notes-2.ensures c.lost-2.ensures c.in_ok-added.added None c.in-None.is c.in_ok-added.ensures)
