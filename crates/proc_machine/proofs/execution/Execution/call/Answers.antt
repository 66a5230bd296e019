use Rattle.std.proofs.Common.{◌≤◌, length, refl, sym, ap, ◌∙◌, arith}
use Rattle.c_tree.specs.State.{Done}
use Rattle.stack_code.specs.View.{seen_code}
use Rattle.proc_machine.specs.View.{control_of, data_with}
use Rattle.proc_machine.proofs.Calling.{is_deep, is_low, is_full, has_space, called_deep, called_full, called_goes, params_are, call_keeps}
use Rattle.proc_machine.proofs.execution.Execution.call.Goals as goal

pub returns-then-callers-ge256 : goal.returns-then-callers-ge256
returns-then-callers-ge256 c =
    let e = c.args.self.now in
    (refl, refl, called_deep e c.args.function c.frame-frame.result _ c.frame-frame.ensures (is_deep e (omega (arith, c.if-callers-ge256.true, c.callers.ensures.same))))

pub returns-then-len-frame-gt-WORDS_LIMIT : goal.returns-then-len-frame-gt-WORDS_LIMIT
returns-then-len-frame-gt-WORDS_LIMIT c =
    let e = c.args.self.now in (
      refl,
      refl,
      called_full e c.args.function c.frame-frame.result _ c.frame-frame.ensures (is_low e (omega (arith, c.if-callers-ge256.false, c.callers.ensures.same)))
          (is_full e c.frame-frame.result.frame_words (omega (arith, c.if-len-frame-gt-WORDS_LIMIT.true, c.len.ensures.same))),
    )

pub returns : goal.returns
returns c =
    let e = c.args.self.now in
    let f = c.frame-frame.result in
    let low = is_low e (omega (arith, c.if-callers-ge256.false, c.callers.ensures.same)) in
    let space = has_space e f.frame_words (omega (arith, c.if-len-frame-gt-WORDS_LIMIT.false, c.len.ensures.same)) in
    let few : f.param_words ≤ length e.calls.own = omega (arith, c.requires.some, params_are _ f c.frame-frame.ensures) in (
      λ events. called_goes e c.args.function f c.start.result _ c.frame-frame.ensures low space few events
          ∙ ap (λ x. Done (control_of x) (data_with x events 0)) (sym c.open_frame.ensures),
      call_keeps
          (seen_code c.args.at.code.now) c.args.function c.start.result f e c.open_frame.new.self c.start.ensures c.open_frame.ensures c.frame-frame.ensures (omega (arith, c.if-len-frame-gt-WORDS_LIMIT.false, c.len.ensures.same)),
      ap
          (λ x. x.sent) c.open_frame.ensures,
    )
