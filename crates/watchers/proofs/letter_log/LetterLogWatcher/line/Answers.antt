use Rattle.std.proofs.Common.{rules, ◌≡◌, ◌++◌, codes, decimal, refl, arith, sym, ◌∙◌, subst, length}
use Rattle.watchers.specs.Lines.{IsLine}
use Rattle.watchers.proofs.LineFacts as facts
use Rattle.watchers.proofs.letter_log.LetterLogWatcher.line.Goals as goal

pub returns : goal.returns
returns c =
    let many : c.len.result ≡ length c.args.self.now.letters.items = search rules in
    let nothing = facts.says_nothing c.empty.result c.empty.ensures.text in
    let said = facts.says_more _ _ _ _ _ nothing c.with_count.ensures.text refl c.with_count.ensures.small in
    let line = facts.is_line _ _ (omega (arith, c.empty.ensures.len, c.with_count.ensures.len)) said in
    subst (λ n. IsLine (codes "letters " ++ decimal n) c.with_count.result)
    (many ∙ sym (facts.half_of_names c.args.self.now.letters.items)) line
