use Rattle.cut_witness.proofs.EntryFacts.{same_where}
use Rattle.cut_witness.proofs.ComparingFacts.{notes_over, lost_over}
use Rattle.cut_witness.proofs.comparing.compare.Goals as goal

pub returns-clause-compared : goal.returns-clause-compared
returns-clause-compared c =
    let t = c.args.trace.now in
    let E = c.args.events.now.events in
    let n = notes_over E c.mask-mask.result t.mask c.mask-mask.ensures c.in_ok-notes.notes.items c.deref.result.now c.deref.ensures.value c.in_ok-notes.ensures in
    let l = lost_over E c.mask-mask.result t.mask c.mask-mask.ensures c.in_ok-lost.lost.items c.deref-2.result.now c.deref-2.ensures.value c.in_ok-lost.ensures in
    c.in_ok-compared.ensures t.mask E n l

pub returns-clause-same : goal.returns-clause-same
returns-clause-same c =
    let t = c.args.trace.now in
    let E = c.args.events.now.events in
    let n = notes_over E c.mask-mask.result t.mask c.mask-mask.ensures c.in_ok-notes.notes.items c.deref.result.now c.deref.ensures.value c.in_ok-notes.ensures in
    let l = lost_over E c.mask-mask.result t.mask c.mask-mask.ensures c.in_ok-lost.lost.items c.deref-2.result.now c.deref-2.ensures.value c.in_ok-lost.ensures in
    same_where t.mask t.notes t.lost E c.in_ok-compared.compared (c.in_ok-compared.ensures t.mask E n l)
