use Rattle.std.proofs.Common.{◌≡◌, ◌+◌, ◌≤◌, true, false, cond, not, ◌||◌, eqb, List, [], ◌∷◌, ◌++◌, length, get_or, set, ap, sym, ◌∙◌, arith}
use Rattle.std.specs.HashSet.{contains}
use Rattle.std.proofs.lemmas.Bool.{lt-ltb, le-ltb}
use Rattle.std.proofs.Math.ListN.{length-set}
use Rattle.nm_base.specs.Message.{same_name}
use Rattle.nm_base.specs.declared.letter.AcceptNote.{AcceptNote}
use Rattle.trace_file.specs.Rules.{is_named, is_late_note}
use Rattle.trace_file.specs.private.Indexed.{least_receive}
use Rattle.trace_file.proofs.Marks.{broken, passed, not_false, not_true, or_left, or_right, neither, late_below, marks_set, named_note, inserted}
use Rattle.trace_file.proofs.entries.Entries.add_note.Goals as goal
use Rattle.trace_file.proofs.entries.Entries.add_note.Goals.{then-not-is_empty-via-then-not-is_empty, then-not-is_empty-via-else-not-is_empty+then-from-self}

pub returns-then-not-is_empty-clause-answer : goal.returns-then-not-is_empty-clause-answer
returns-then-not-is_empty-clause-answer c =
    let a = c.args.note in
    let lost_is : eqb (length c.args.self.now.lost.items) 0 ≡ c.is_empty.result = ap (λ n. eqb n 0) (sym c.args.self.now.lost.ok.0) ∙ sym c.is_empty.ensures in
    rw c.fault.ensures (broken (not (eqb (length c.args.self.now.lost.items) 0) || is_late_note c.args.self.now.notes.items a) _ _ (
    elim c.then-not-is_empty.branch [
      | then-not-is_empty-via-then-not-is_empty w ↦ or_left _ _ (ap not (lost_is ∙ w.if-not-is_empty.true))
      | then-not-is_empty-via-else-not-is_empty+then-from-self w ↦ or_right _ _ (late_below (λ a. a.receiver.no) (λ a. a.receive) c.args.self.now.notes.items a
          ∙ lt-ltb _ _ (omega (arith, w.from.ensures, w.if-from-self.true, c.requires.index.receives a.receiver.no c.requires.receiver)))
    ]))

pub returns-in-Ok-false-clause-answer : goal.returns-in-Ok-false-clause-answer
returns-in-Ok-false-clause-answer c =
    let a = c.args.note in
    let lost_is : eqb (length c.args.self.now.lost.items) 0 ≡ c.is_empty.result = ap (λ n. eqb n 0) (sym c.args.self.now.lost.ok.0) ∙ sym c.is_empty.ensures in
    let in_time = neither _ _ (ap not (lost_is ∙ c.if-not-is_empty.false))
    (late_below (λ a. a.receiver.no) (λ a. a.receive) c.args.self.now.notes.items a
    ∙ le-ltb _ _ (omega (arith, c.from.ensures, c.if-from-self.false, c.requires.index.receives a.receiver.no c.requires.receiver))) in
    let known : is_named c.args.self.now.notes.items c.args.self.now.lost.items a.id ≡ true =
    sym (c.requires.index.named a.id) ∙ not_false _ (sym c.in-Ok-false.ensures.added ∙ c.in-Ok-false.field-0-test) in
    rw c.fault-in-Ok-false.ensures (passed _ _ _ in_time ∙ broken _ _ _ known)

pub returns-clause-answer : goal.returns-clause-answer
returns-clause-answer c =
    let a = c.args.note in
    let lost_is : eqb (length c.args.self.now.lost.items) 0 ≡ c.is_empty.result = ap (λ n. eqb n 0) (sym c.args.self.now.lost.ok.0) ∙ sym c.is_empty.ensures in
    let in_time = neither _ _ (ap not (lost_is ∙ c.if-not-is_empty.false))
    (late_below (λ a. a.receiver.no) (λ a. a.receive) c.args.self.now.notes.items a
    ∙ le-ltb _ _ (omega (arith, c.from.ensures, c.if-from-self.false, c.requires.index.receives a.receiver.no c.requires.receiver))) in
    let fresh : is_named c.args.self.now.notes.items c.args.self.now.lost.items a.id ≡ false =
    sym (c.requires.index.named a.id) ∙ not_true _ (sym c.in-Ok-true.ensures.added ∙ c.in-Ok-true.field-0-test) in
    passed _ _ _ in_time ∙ passed _ _ _ fresh

pub returns-clause-index : goal.returns-clause-index
returns-clause-index c =
    let a = c.args.note in
    let notes = c.args.self.now.notes.items in
    let lost = c.args.self.now.lost.items in
    let pushed : c.push.new.self.items ≡ notes ++ a ∷ [] = c.push.ensures.items ∙ ap (λ b. cond b (notes ++ a ∷ []) notes) (c.is_err.ensures.negation ∙ ap not c.if-is_err.false) in
    let in_time : least_receive notes a.receiver.no ≤ a.receive = omega (arith, c.from.ensures, c.if-from-self.false, c.requires.index.receives a.receiver.no c.requires.receiver) in
    record {
      receives_len = length-set c.args.self.now.receives a.receiver.no (c.from-2.result + 1) ∙ c.requires.index.receives_len;
      sends_len = c.requires.index.sends_len;
      receives = λ p lt.
          ap (λ n. get_or (set c.args.self.now.receives a.receiver.no (n + 1)) p 0) c.from-2.ensures
          ∙ marks_set (λ (a : AcceptNote). a.receiver.no) (λ a. a.receive) c.args.self.now.receives notes a c.requires.index.receives_len c.requires.receiver c.requires.index.receives in_time p lt
          ∙ ap (λ (xs : List AcceptNote). least_receive xs p) (sym pushed);
      sends = c.requires.index.sends;
      named = λ q.
          c.in-Ok-true.ensures.updates.0 q ∙ inserted a.id q (contains same_name c.args.self.now.named q)
          ∙ ap (λ b. b || same_name q a.id) (c.requires.index.named q) ∙ sym (named_note notes lost a q) ∙ ap (λ (xs : List AcceptNote). is_named xs lost q) (sym pushed);
    }
