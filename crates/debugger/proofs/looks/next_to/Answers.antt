use Rattle.std.proofs.Common.{◌==◌, refl, sym, ◌∙◌, arith}
use Rattle.debugger.proofs.Walks.{found_kept, none_kept, found_fits, found_behind, equal_numbers, other_numbers}
use Rattle.debugger.specs.private.Looking.{is_from}
use Rattle.debugger.proofs.looks.next_to.Goals as goal

pub loop-letter-init : goal.loop-letter-init
loop-letter-init g c = refl

pub overflow_add-from : goal.overflow_add-from
overflow_add-from g c =
    let letters = g.M.Mail.letters c.args.mail.now in
    omega (
      arith,
      (found_fits 0 c.loop-letter.from letters c.in-Some.letter.now (g.met.M.Mail.rises c.args.mail.now)
          (sym c.in-Some.ensures)).1,
    )

pub loop-letter-smaller : goal.loop-letter-smaller
loop-letter-smaller g c =
    let letters = g.M.Mail.letters c.args.mail.now in
    let fits =
    found_fits 0 c.loop-letter.from letters c.in-Some.letter.now (g.met.M.Mail.rises c.args.mail.now)
    (sym c.in-Some.ensures) in
    omega (arith, fits.0, fits.1)

pub loop-letter-preserved : goal.loop-letter-preserved
loop-letter-preserved g c =
    let letters = g.M.Mail.letters c.args.mail.now in
    c.loop-letter.invariant
    ∙ found_behind (λ l. l.dest.no == c.args.p.no) 0 c.loop-letter.from letters c.in-Some.letter.now
    (g.met.M.Mail.rises c.args.mail.now) (sym c.in-Some.ensures)
    (other_numbers c.in-Some.letter.now.dest.no c.args.p.no c.if-letter-p.false)

pub returns-then-letter-p : goal.returns-then-letter-p
returns-then-letter-p g c =
    let letters = g.M.Mail.letters c.args.mail.now in
    let to_it = equal_numbers c.in-Some.letter.now.dest.no c.args.p.no c.if-letter-p.true in
    sym (c.loop-letter.invariant ∙ found_kept (λ l. l.dest.no == c.args.p.no) (is_from c.loop-letter.from) letters
    c.in-Some.letter.now (sym c.in-Some.ensures) to_it)

pub returns : goal.returns
returns g c =
    let letters = g.M.Mail.letters c.args.mail.now in
    sym (c.loop-letter.invariant ∙ none_kept (λ l. l.dest.no == c.args.p.no) (is_from c.loop-letter.from) letters
    (sym c.in_default.ensures))
