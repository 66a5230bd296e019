use Rattle.std.proofs.Common.{[], ℕ, List, length, take, get_or, sym, ap, ◌∙◌, subst, arith}
use Rattle.std.proofs.lemmas.List.{take_all}
use Rattle.replay_core.specs.private.Held.{Holds}
use Rattle.replay_core.proofs.GateLaws.{gate_of, taken_more}
use Rattle.replay_core.proofs.gate.TraceGate.new.Goals as goal

pub loop-note-init : goal.loop-note-init
loop-note-init c = record {
  held = c.without_entries-gate.ensures.held;
  counts = λ p. ap (λ (xs : List ℕ). get_or xs p 0) c.without_entries-gate.ensures.counts ∙ c.counts_of-counts.ensures p;
  total = c.without_entries-gate.ensures.total ∙ c.total_of-total.ensures;
}

pub loop-note-preserved : goal.loop-note-preserved
loop-note-preserved c =
    let i = c.loop-note.note-index in
    record {
      held = subst (λ xs. Holds c.add_note.new.self xs []) (sym (taken_more c.notes-notes.result.now c.args.trace.now.notes i _ c.notes-notes.ensures c.loop-note-test.true)) (c.in_ok-add_note.ensures.held (take i c.args.trace.now.notes) c.loop-note.invariant.held);
      counts = λ p. ap (λ (xs : List ℕ). get_or xs p 0) c.in_ok-add_note.ensures.counts ∙ c.loop-note.invariant.counts p;
      total = c.in_ok-add_note.ensures.total ∙ c.loop-note.invariant.total;
    }

pub loop-id-init : goal.loop-id-init
loop-id-init c = record {
  held = subst (λ xs. Holds c.loop-note.gate xs []) (take_all c.loop-note.note-index c.args.trace.now.notes (omega (arith, c.loop-note-test.false, ap length c.notes-notes.ensures))) c.loop-note.invariant.held;
  counts = c.loop-note.invariant.counts;
  total = c.loop-note.invariant.total;
}

pub loop-id-preserved : goal.loop-id-preserved
loop-id-preserved c =
    let i = c.loop-id.id-index in
    record {
      held = subst (Holds c.add_lost.new.self c.args.trace.now.notes) (sym (taken_more c.lost-lost.result.now c.args.trace.now.lost i _ c.lost-lost.ensures c.loop-id-test.true)) (c.in_ok-add_lost.ensures.held c.args.trace.now.notes (take i c.args.trace.now.lost) c.loop-id.invariant.held);
      counts = λ p. ap (λ (xs : List ℕ). get_or xs p 0) c.in_ok-add_lost.ensures.counts ∙ c.loop-id.invariant.counts p;
      total = c.in_ok-add_lost.ensures.total ∙ c.loop-id.invariant.total;
    }

pub returns : goal.returns
returns c =
    gate_of c.args.trace.now c.requires c.loop-id.gate
    (subst (Holds c.loop-id.gate c.args.trace.now.notes) (take_all c.loop-id.id-index c.args.trace.now.lost (omega (arith, c.loop-id-test.false, ap length c.lost-lost.ensures))) c.loop-id.invariant.held)
    c.loop-id.invariant.counts c.loop-id.invariant.total
