use Rattle.std.proofs.Common.{◌≡◌, ◌≤◌, ◌+◌, ◌++◌, [], length, take, replicate, Some, IsTrue, refl, sym, ap, ◌∙◌, arith}
use Rattle.std.specs.Prelude.{slice_get, option_map}
use Rattle.std.proofs.Math.Logic.{∥∥₁_map}
use Rattle.nm_base.specs.declared.limits.TheConstants.{MAX_DATA_WORDS}
use Rattle.stack_code.specs.Frame.{frame_of}
use Rattle.stack_code.specs.Valid.{is_within}
use Rattle.stack_code.specs.View.{seen_code}
use Rattle.proc_machine.proofs.Starting.{main_is, holds_fresh, main_called}
use Rattle.proc_machine.proofs.execution.Execution.call_main.Goals as goal

pub returns : goal.returns
returns c =
    let e = c.args.self.now in
    let code = seen_code c.args.code.now in
    let f = c.frame-size.result in
    let there : option_map frame_of (slice_get code.functions code.main) ≡ Some f = ap (λ g. option_map frame_of (slice_get code.functions g)) (sym c.requires.function) ∙ c.frame-size.ensures in
    let main = main_is (slice_get code.functions code.main) f there in
    let size = main.2 in
    let words = ap (λ l. length l) c.requires.words in
    let fits : length code.globals + main.0.frame_words ≤ MAX_DATA_WORDS = omega (arith, size, words, c.if-len-size-gt-WORDS_LIMIT.false, c.len.ensures.same) in
    let opened = c.open.ensures ∙ ap (λ l. l ++ take f.frame_words ([] ++ replicate f.frame_words 0)) c.requires.words ∙ ap (λ n. code.globals ++ take n ([] ++ replicate n 0)) (sym size) in
    let within : IsTrue (is_within code) = c.args.code.now.within in (
      ∥∥₁_map c.args.code.now.sound (λ s. holds_fresh code e c.requires c.open.new.self main.0 main.1 fits s within),
      λ count me. main_called code e c.requires c.open.new.self main.0 main.1 fits count me opened,
      refl,
    )
