use Rattle.std.proofs.Common.{replicate, refl, ap, ◌∙◌}
use Rattle.c_tree.specs.Expr.{padded}
use Rattle.stack_code.specs.View.{seen_code}
use Rattle.nm_base.specs.declared.letter.Letter.{Letter}
use Rattle.proc_machine.proofs.Sending.{word_bounds, send_makes}
use Rattle.proc_machine.proofs.execution.Execution.send_letter.Goals as goal

pub returns-clause-made : goal.returns-clause-made
returns-clause-made c =
    let e = c.args.self.now in
    let bounds = word_bounds c.args.words c.requires.ready.named in
    let letter : Letter = record {
      id = record { sender = c.args.at.me; number = e.sent };
      dest = record { no = c.top.result };
      chan = c.top-2.result;
      len = c.args.words;
      words = c.padded.result;
      posted = 0;
      stamp = record { parts = replicate 32 0 };
    } in
    send_makes e c.args.at.count c.args.words c.requires.ready.some bounds.0
    (seen_code c.args.at.code.now) c.give-value.new.self letter bounds.1 c.requires.addressed refl c.top.ensures c.top-2.ensures refl
    (c.padded.ensures ∙ ap padded c.last.ensures) c.give-value.ensures.state
