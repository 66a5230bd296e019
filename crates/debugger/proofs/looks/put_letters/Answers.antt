use Rattle.std.proofs.Common.{◌++◌, ◌∷◌, [], slice_index, refl, ap, ◌∙◌, arith}
use Rattle.std.specs.Prelude.{find}
use Rattle.std.specs.List.{flat_map}
use Rattle.report.proofs.Pieces.{prints_nothing, same_text, still_after, failed_after}
use Rattle.debugger.specs.private.Looking.{letters_to, is_from}
use Rattle.debugger.proofs.Walks.{all_from, found, found_nothing, before_all, next_from}
use Rattle.debugger.proofs.MailFacts.{one_behind, failed_behind, mine, mine_rise, line_of, prints_letter, lines_are}
use Rattle.debugger.proofs.looks.put_letters.Goals as goal

pub loop-letter-init : goal.loop-letter-init
loop-letter-init g c =
    let w = c.args.world.now in
    let q = c.args.p.no in
    record {
      before = [];
      rest = mine w q;
      place =
          all_from (mine w q) (mine_rise w q (g.M.Mail.letters c.mail-mail.result.now) c.mail-mail.ensures.letters
          (g.met.M.Mail.rises c.mail-mail.result.now));
      told = λ program E k. prints_nothing _ _;
      still = refl;
    }

pub overflow_add-from : goal.overflow_add-from
overflow_add-from g c =
    let w = c.args.world.now in
    let q = c.args.p.no in
    let i = c.loop-letter.invariant in
    let l = c.in-Some.letter.now in
    let seen = ap (λ ls. find (is_from c.loop-letter.from) (letters_to q ls)) c.mail-mail.ensures.letters in
    let z = found (mine w q) c.loop-letter.from i.before i.rest i.place l (c.in-Some.ensures ∙ seen) in
    omega (arith, z.fits)

pub loop-letter-smaller : goal.loop-letter-smaller
loop-letter-smaller g c =
    let w = c.args.world.now in
    let q = c.args.p.no in
    let i = c.loop-letter.invariant in
    let l = c.in-Some.letter.now in
    let seen = ap (λ ls. find (is_from c.loop-letter.from) (letters_to q ls)) c.mail-mail.ensures.letters in
    let z = found (mine w q) c.loop-letter.from i.before i.rest i.place l (c.in-Some.ensures ∙ seen) in
    omega (arith, z.first, z.fits)

pub loop-letter-preserved : goal.loop-letter-preserved
loop-letter-preserved g c =
    let w = c.args.world.now in
    let q = c.args.p.no in
    let i = c.loop-letter.invariant in
    let l = c.in-Some.letter.now in
    let seen = ap (λ ls. find (is_from c.loop-letter.from) (letters_to q ls)) c.mail-mail.ensures.letters in
    let z = found (mine w q) c.loop-letter.from i.before i.rest i.place l (c.in-Some.ensures ∙ seen) in
    record {
      before = i.before ++ l ∷ [];
      rest = z.more;
      place = next_from (mine w q) c.loop-letter.from i.before i.rest i.place l z.more z.is;
      told = λ program E k.
          one_behind _ _ _ _ _ _ (line_of w q program E k) i.before l (i.told program E k) c.waiting_line.result
          c.in_ok-waiting_line.was
          (prints_letter w q program E k _ _ _ _ c.n.result l c.waiting_line.result c.n.ensures z.in_it
          c.waiting_line.ensures);
      still =
          still_after c.waiting_line.result c.in_ok-waiting_line.was
          (c.waiting_line.ensures (slice_index c.in-Some.letter.now.stamp.parts) (λ p low. refl)).cause ∙ i.still;
    }

pub returns-in_err-waiting_line-clause-text : goal.returns-in_err-waiting_line-clause-text
returns-in_err-waiting_line-clause-text g c = λ program E k.
    let w = c.args.world.now in
    let q = c.args.p.no in
    let i = c.loop-letter.invariant in
    let l = c.in-Some.letter.now in
    let seen = ap (λ ls. find (is_from c.loop-letter.from) (letters_to q ls)) c.mail-mail.ensures.letters in
    let z = found (mine w q) c.loop-letter.from i.before i.rest i.place l (c.in-Some.ensures ∙ seen) in
    let split = i.place.split ∙ ap (λ ls. i.before ++ ls) z.is in
    same_text _ _ _ _ _ _ _ (lines_are w q program E k)
    (failed_behind _ _ _ _ _ _ (line_of w q program E k) i.before l (i.told program E k) (mine w q) z.more split
    c.waiting_line.result c.from_residual.result c.in_err-waiting_line.field-0.0
    c.in_err-waiting_line.was c.from_residual.ensures.0
    (prints_letter w q program E k _ _ _ _ c.n.result l c.waiting_line.result c.n.ensures z.in_it
    c.waiting_line.ensures))

pub returns-in_err-waiting_line-clause-cause : goal.returns-in_err-waiting_line-clause-cause
returns-in_err-waiting_line-clause-cause g c =
    failed_after c.waiting_line.result c.from_residual.result c.in_err-waiting_line.field-0.0 c.in_err-waiting_line.was
    c.from_residual.ensures.0 c.loop-letter.invariant.still
    (c.waiting_line.ensures (slice_index c.in-Some.letter.now.stamp.parts) (λ p low. refl)).cause

pub returns-clause-text : goal.returns-clause-text
returns-clause-text g c = λ program E k.
    let w = c.args.world.now in
    let q = c.args.p.no in
    let i = c.loop-letter.invariant in
    let seen = ap (λ ls. find (is_from c.loop-letter.from) (letters_to q ls)) c.mail-mail.ensures.letters in
    let none =
    found_nothing (mine w q) c.loop-letter.from i.before i.rest i.place (c.in_default.ensures ∙ seen) in
    let all = before_all (mine w q) c.loop-letter.from i.before i.rest i.place none in
    same_text _ _ _ _ _ _ _ (ap (λ ls. flat_map (line_of w q program E k) ls) all ∙ lines_are w q program E k)
    (i.told program E k)
