use Rattle.std.proofs.Common.{◌≡◌, ◌+◌, ◌≤◌, true, false, cond, not, ◌||◌, List, [], ◌∷◌, ◌++◌, get_or, set, ap, sym, ◌∙◌, arith}
use Rattle.std.specs.HashSet.{contains}
use Rattle.std.proofs.lemmas.Bool.{lt-ltb, le-ltb}
use Rattle.std.proofs.Math.ListN.{length-set}
use Rattle.nm_base.specs.Message.{same_name}
use Rattle.nm_base.specs.declared.letter.LetterId.{LetterId}
use Rattle.trace_file.specs.Rules.{is_named, is_late_lost}
use Rattle.trace_file.specs.private.Indexed.{least_send}
use Rattle.trace_file.proofs.Marks.{broken, passed, not_false, not_true, late_below, marks_set, named_lost, inserted}
use Rattle.trace_file.proofs.entries.Entries.add_lost.Goals as goal

pub returns-then-from-self-clause-answer : goal.returns-then-from-self-clause-answer
returns-then-from-self-clause-answer c =
    let id = c.args.id in
    let late : is_late_lost c.args.self.now.lost.items id ≡ true = late_below (λ id. id.sender.no) (λ id. id.number) c.args.self.now.lost.items id
    ∙ lt-ltb _ _ (omega (arith, c.from.ensures, c.if-from-self.true, c.requires.index.sends id.sender.no c.requires.sender)) in
    rw c.fault.ensures (broken _ _ _ late)

pub returns-in-Ok-false-clause-answer : goal.returns-in-Ok-false-clause-answer
returns-in-Ok-false-clause-answer c =
    let id = c.args.id in
    let in_time : is_late_lost c.args.self.now.lost.items id ≡ false = late_below (λ id. id.sender.no) (λ id. id.number) c.args.self.now.lost.items id
    ∙ le-ltb _ _ (omega (arith, c.from.ensures, c.if-from-self.false, c.requires.index.sends id.sender.no c.requires.sender)) in
    let known : is_named c.args.self.now.notes.items c.args.self.now.lost.items id ≡ true =
    sym (c.requires.index.named id) ∙ not_false _ (sym c.in-Ok-false.ensures.added ∙ c.in-Ok-false.field-0-test) in
    rw c.fault-in-Ok-false.ensures (passed _ _ _ in_time ∙ broken _ _ _ known)

pub returns-clause-answer : goal.returns-clause-answer
returns-clause-answer c =
    let id = c.args.id in
    let in_time : is_late_lost c.args.self.now.lost.items id ≡ false = late_below (λ id. id.sender.no) (λ id. id.number) c.args.self.now.lost.items id
    ∙ le-ltb _ _ (omega (arith, c.from.ensures, c.if-from-self.false, c.requires.index.sends id.sender.no c.requires.sender)) in
    let fresh : is_named c.args.self.now.notes.items c.args.self.now.lost.items id ≡ false =
    sym (c.requires.index.named id) ∙ not_true _ (sym c.in-Ok-true.ensures.added ∙ c.in-Ok-true.field-0-test) in
    passed _ _ _ in_time ∙ passed _ _ _ fresh

pub returns-clause-index : goal.returns-clause-index
returns-clause-index c =
    let id = c.args.id in
    let notes = c.args.self.now.notes.items in
    let lost = c.args.self.now.lost.items in
    let pushed : c.push.new.self.items ≡ lost ++ id ∷ [] = c.push.ensures.items ∙ ap (λ b. cond b (lost ++ id ∷ []) lost) (c.is_err.ensures.negation ∙ ap not c.if-is_err.false) in
    let in_time : least_send lost id.sender.no ≤ id.number = omega (arith, c.from.ensures, c.if-from-self.false, c.requires.index.sends id.sender.no c.requires.sender) in
    record {
      receives_len = c.requires.index.receives_len;
      sends_len = length-set c.args.self.now.sends id.sender.no (c.from-2.result + 1) ∙ c.requires.index.sends_len;
      receives = c.requires.index.receives;
      sends = λ p lt.
          ap (λ n. get_or (set c.args.self.now.sends id.sender.no (n + 1)) p 0) c.from-2.ensures
          ∙ marks_set (λ (id : LetterId). id.sender.no) (λ id. id.number) c.args.self.now.sends lost id c.requires.index.sends_len c.requires.sender c.requires.index.sends in_time p lt
          ∙ ap (λ (xs : List LetterId). least_send xs p) (sym pushed);
      named = λ q.
          c.in-Ok-true.ensures.updates.0 q ∙ inserted id q (contains same_name c.args.self.now.named q)
          ∙ ap (λ b. b || same_name q id) (c.requires.index.named q) ∙ sym (named_lost notes lost id q) ∙ ap (λ (xs : List LetterId). is_named notes xs q) (sym pushed);
    }
