use Rattle.std.proofs.Common.{◌+◌, ap, ◌∙◌, length, refl, arith}
use Rattle.std.specs.Prelude.{string_bytes}
use Rattle.c_tree.specs.Storage.{words_of, words_of_slot}
use Rattle.stack_code.specs.declared.code.CodeFunction.{CodeFunction}
use Rattle.c_compile.specs.private.Body.{steps_of}
use Rattle.c_compile.proofs.Making.{words_both}
use Rattle.c_compile.proofs.Functions.{function_is, function_kept, frame_is}
use Rattle.c_compile.proofs.function.emit_function.Goals as goal

pub words_of_slots-param_words-requires : goal.words_of_slots-param_words-requires
words_of_slots-param_words-requires c =
    let f = c.args.function.now in
    omega (arith, words_both f.params f.locals, ap (words_of words_of_slot) c.as_slice.ensures, c.requires.frame)

pub words_of_slots-local_words-requires : goal.words_of_slots-local_words-requires
words_of_slots-local_words-requires c =
    let f = c.args.function.now in
    omega (arith, words_both f.params f.locals, ap (words_of words_of_slot) c.as_slice-2.ensures, c.requires.frame)

pub overflow_add-frame_words : goal.overflow_add-frame_words
overflow_add-frame_words c =
    let f = c.args.function.now in
    let params = c.words_of_slots-param_words.ensures ∙ ap (words_of words_of_slot) c.as_slice.ensures in
    let locals = c.words_of_slots-local_words.ensures ∙ ap (words_of words_of_slot) c.as_slice-2.ensures in
    omega (arith, words_both f.params f.locals, params, locals, c.requires.frame)

pub invariant_of-scope : goal.invariant_of-scope
invariant_of-scope c =
    let f = c.args.function.now in
    let params = c.words_of_slots-param_words.ensures ∙ ap (words_of words_of_slot) c.as_slice.ensures in
    let locals = c.words_of_slots-local_words.ensures ∙ ap (words_of words_of_slot) c.as_slice-2.ensures in
    record {
      globals_are = ∣ c.requires.globals ∣₁;
      global_words_are = c.requires.words;
      slots_are = ∣ c.as_slice-3.ensures.value ∙ c.in_ok-slots.ensures ∣₁;
      frame_words_are = frame_is f c.words_of_slots-param_words.result c.words_of_slots-local_words.result (c.words_of_slots-param_words.result + c.words_of_slots-local_words.result) params locals
          refl;
    }

pub returns : goal.returns
returns c =
    let p = c.args.program.now in
    let f = c.args.function.now in
    let b = c.in_ok-body.body in
    let params = c.words_of_slots-param_words.ensures ∙ ap (words_of words_of_slot) c.as_slice.ensures in
    let locals = c.words_of_slots-local_words.ensures ∙ ap (words_of words_of_slot) c.as_slice-2.ensures in
    let whole = frame_is f c.words_of_slots-param_words.result c.words_of_slots-local_words.result (c.words_of_slots-param_words.result + c.words_of_slots-local_words.result) params locals refl in
    let made : CodeFunction = record {
      name = c.in_ok-name.name;
      line = f.line;
      param_words = c.words_of_slots-param_words.result;
      frame_words = c.words_of_slots-param_words.result +
          c.words_of_slots-local_words.result;
      instrs = b.instrs;
      inside = b.inside;
      blocks = b.blocks;
      param_count = c.in_ok-param_count.param_count;
      slots = c.in_ok-slots.slots;
    } in
    record {
      code = function_is p.globals p.functions p.texts f (string_bytes c.in_ok-name.name) (steps_of b) c.words_of_slots-param_words.result
          (c.words_of_slots-param_words.result + c.words_of_slots-local_words.result) c.in_ok-param_count.param_count c.in_ok-slots.slots.items c.in_ok-name.ensures c.in_ok-body.ensures.steps
          params whole (c.in_ok-param_count.ensures ∙ ap length c.as_slice-4.ensures) c.in_ok-slots.ensures;
      kept = function_kept b made c.in_ok-body.ensures.fine refl refl refl;
    }
