use Rattle.std.proofs.Common.{ap, ◌∙◌, arith}
use Rattle.c_tree.specs.Storage.{first_words, words_of, words_of_global}
use Rattle.c_compile.specs.Variables.{globals_from}
use Rattle.stack_code.specs.Blocks.{view_of}
use Rattle.stack_code.specs.View.{seen_code}
use Rattle.c_compile.proofs.ProgramStacks.{sound_by, within_by}
use Rattle.c_compile.proofs.Compiled.{globals_fit, view_is, stands_by}
use Rattle.c_compile.proofs.Names.{keeps_names}
use Rattle.c_compile.proofs.program.compile.Goals as goal

pub global_variables-requires : goal.global_variables-requires
global_variables-requires c =
    let p = c.args.p.now in
    omega (arith, ap (words_of words_of_global) c.as_slice.ensures, globals_fit p.globals p.functions p.texts p.main p.checked)

pub new-requires-clause-sound : goal.new-requires-clause-sound
new-requires-clause-sound c =
    let p = c.args.p.now in
    let copies = c.in_ok-texts.ensures ∙ c.as_slice-3.ensures in
    let words = c.in_ok-words.ensures ∙ ap first_words c.as_slice-4.ensures in
    let variables = c.in_ok-variables.ensures ∙ ap (globals_from 0) c.as_slice.ensures in
    let same = view_is p.globals p.functions p.texts p.main c.in_ok-functions.functions.items c.in_ok-texts.texts c.in_ok-words.words.items c.in_ok-variables.variables.items
    c.in_ok-functions.ensures.code copies words variables in
    sound_by (view_of c.in_ok-functions.functions.items p.main c.in_ok-texts.texts c.in_ok-words.words.items c.in_ok-variables.variables.items) p.globals p.functions p.texts p.main p.checked same

pub new-requires-clause-within : goal.new-requires-clause-within
new-requires-clause-within c =
    let p = c.args.p.now in
    let copies = c.in_ok-texts.ensures ∙ c.as_slice-3.ensures in
    let words = c.in_ok-words.ensures ∙ ap first_words c.as_slice-4.ensures in
    let variables = c.in_ok-variables.ensures ∙ ap (globals_from 0) c.as_slice.ensures in
    let same = view_is p.globals p.functions p.texts p.main c.in_ok-functions.functions.items c.in_ok-texts.texts c.in_ok-words.words.items c.in_ok-variables.variables.items
    c.in_ok-functions.ensures.code copies words variables in
    within_by (view_of c.in_ok-functions.functions.items p.main c.in_ok-texts.texts c.in_ok-words.words.items c.in_ok-variables.variables.items) p.globals p.functions p.texts p.main p.checked same

pub returns : goal.returns
returns c =
    let p = c.args.p.now in
    let copies = c.in_ok-texts.ensures ∙ c.as_slice-3.ensures in
    let words = c.in_ok-words.ensures ∙ ap first_words c.as_slice-4.ensures in
    let variables = c.in_ok-variables.ensures ∙ ap (globals_from 0) c.as_slice.ensures in
    let same = c.in_ok-code.ensures ∙ view_is p.globals p.functions p.texts p.main c.in_ok-functions.functions.items c.in_ok-texts.texts c.in_ok-words.words.items c.in_ok-variables.variables.items
    c.in_ok-functions.ensures.code copies words variables in
    record {
      code = same;
      stands = stands_by p.globals p.functions p.texts p.main (seen_code c.in_ok-code.code) p.checked same;
      names = keeps_names p (seen_code c.in_ok-code.code) same;
    }
