-- The code of calls does what the calls do.
use Rattle.std.proofs.Common.{◌≡◌, ℕ, ◌+◌, ◌-◌, ◌≤◌, ◌<◌, true, false, List, [], ◌∷◌, ◌++◌, length, Option, Some, None, refl, sym, ap, ◌∙◌, subst, arith, length-append}
use Rattle.std.specs.Prelude.{◌==◌, nat_le, slice_get, slice_index, unwrap_or}
use Rattle.std.proofs.lemmas.Bool.{eqb-true, leb-true}
use Rattle.c_tree.specs.declared.program.Function.{Function}
use Rattle.c_tree.specs.declared.program.Callee.{Callee}
use Rattle.c_tree.specs.declared.program.Callee.TheVariants.{Function as Own, BuiltIn as Built}
use Rattle.c_tree.specs.declared.program.BuiltIn.{BuiltIn}
use Rattle.c_tree.specs.declared.program.BuiltIn.TheVariants as built
use Rattle.c_tree.specs.State.{State, Outcome, Done, Stopped, Run, then_on, ◌>>=◌, ◌>>◌, pure, line_event}
use Rattle.c_tree.specs.Storage.{words_of, words_of_slot}
use Rattle.c_tree.specs.Print.{printed}
use Rattle.c_tree.specs.Expr as meaning
use Rattle.c_tree.specs.Expr.{Context, Typed, arguments, call_own_by, frame_words, slots_of, leave, receive, word_of, of_letter, send_words, print}
use Rattle.stack_code.specs.declared.instr.Instr.{Instr}
use Rattle.stack_code.specs.declared.instr.Instr.TheVariants as instr
use Rattle.stack_code.specs.Code.{Placed, Code, steps_of, steps_by, entered_by}
use Rattle.stack_code.specs.Machine as machine
use Rattle.stack_code.specs.Machine.{Caller, Control, popped, filled, outer_blocks, open_frame, conversions, text_at}
use Rattle.stack_code.proofs.Blind.{Blocks, Blind, pure_blind, of_letter_blind, word_of_blind, receive_blind, send_words_blind, print_blind, open_frame_moves}
use Rattle.stack_code.proofs.Gives.{Gives, Stands, comes_gives, gives_here, part_then, act_gives, line_then}
use Rattle.c_compile.specs.Asm.{Asm, one, ◌⨾◌, end_of}
use Rattle.c_compile.specs.Variables.{slots_from}
use Rattle.c_compile.specs.ExprCode as code_of
use Rattle.c_compile.specs.ExprCode.{Shape, TypedCode, argument_code, width_of, all_fit}
use Rattle.c_compile.proofs.Lies.{BlockAt, block_split}
use Rattle.c_compile.proofs.Parts as parts
use Rattle.c_compile.proofs.Parts.{both_true, pushed, pushed_append, popped_all, HasWidth, Runs, TypedRuns}

-- the functions that calls lead to
module _ (code : Code) (cx : Context) (limit : ℕ) where
  -- the function's code does what a call of it does after the event of its line
  pub record FunctionRuns (g : ℕ) (fn : Function) : Type 0 where
    pub steps : List Placed
    pub code_is :
        slice_get code.functions g
        ≡ Some (record {
          name = fn.name;
          steps = steps;
          line = fn.line;
          param_words = words_of words_of_slot fn.params;
          frame_words = frame_words fn;
          param_count = length fn.params;
          slots = slots_from 0 (slots_of fn);
        })
    pub first : slice_get steps 0 ≡ Some (record { instr = instr.Line fn.line; entered = [] })
    pub returns :
        (k : Caller) (ks : List Caller) (t : State) → t.left < limit
        → Gives code cx.count cx.me (Stands code cx.count cx.me (outer_blocks code cx.count cx.me (k ∷ ks))
        (λ v. record { function = k.function; pc = k.pc + 1; stack = v ∷ k.stack; callers = ks })) (then_on (cx.call g (filled ([] ∷ outer_blocks code cx.count cx.me (k ∷ ks)) t)) leave)
        (record { function = g; pc = 1; stack = []; callers = k ∷ ks }) t

  abbrev pub Functions : Type 0
  Functions = (g : ℕ) (fn : Function) → slice_get cx.functions g ≡ Some fn → FunctionRuns g fn

module _ (code : Code) (cx : Context) (f : ℕ) (callers : List Caller) (entered : List (List ℕ)) (limit : ℕ) where
  abbrev blocks : Blocks
  blocks = parts.blocks code cx f callers entered limit

  abbrev here : ℕ → List ℕ → Control
  here p stack = parts.here code cx f callers entered limit p stack

  abbrev Lie : ℕ → ℕ → List Instr → Type 0
  Lie p q is = BlockAt (steps_of code f) entered p q is

  abbrev At : {A : Type 0} → (A → Control) → A → State → Control → State → Type 0
  At to = Stands code cx.count cx.me blocks to

  abbrev It : {A : Type 0} → (A → State → Control → State → Type 0) → Outcome A → Control → State → Type 0
  It ends o c t = Gives code cx.count cx.me ends o c t

  abbrev does : Instr → Control → Run Control
  does i c = machine.act code cx.count cx.me i c

  abbrev RunsHere : {A : Type 0} → (A → List ℕ → List ℕ) → Run A → Asm → Type 0
  RunsHere put run asm = Runs code cx f callers entered limit put run asm

  abbrev Pushes : Run ℕ → Asm → Type 0
  Pushes run asm = RunsHere (λ v stack. v ∷ stack) run asm

  abbrev TypedHere : Typed → TypedCode → Type 0
  TypedHere x e = TypedRuns code cx f callers entered limit x e

  abbrev sh : Shape
  sh = record { globals = cx.globals; functions = cx.functions; texts = cx.texts; slots = cx.slots }

  -- ---- arguments

  abbrev pub AllRun : List Typed → List TypedCode → Type 0
  AllRun [] [] = Unit {0}
  AllRun [] (e ∷ es) = ⊥
  AllRun (x ∷ xs) [] = ⊥
  AllRun (x ∷ xs) (e ∷ es) = TypedHere x e × AllRun xs es

  pub arguments_run : (xs : List Typed) (es : List TypedCode) → AllRun xs es → all_fit es ≡ true → RunsHere pushed (arguments xs) (argument_code es)
  arguments_run [] [] r fits = record {
    by = λ p q stack t le h.
        subst (λ n. It (At (λ ws. here n (pushed ws stack))) (Done [] (filled blocks t)) (here p stack) t) h
        (gives_here code cx.count cx.me (At (λ ws. here p (pushed ws stack))) [] (filled blocks t) (here p stack) t (record { place = refl; state = refl }));
  }
  arguments_run [] (e ∷ es) r fits = absurd r
  arguments_run (x ∷ xs) [] r fits = absurd r
  arguments_run (x ∷ xs) (e ∷ es) r fits =
      let fit = both_true e.part.fits (all_fit es) fits in
      record {
        by = λ p q stack t le h.
            parts.seq code cx f callers entered limit (r.0.part.argument fit.0) (argument_code es) (λ first. arguments xs >>= (λ rest. pure (first ++ rest))) p q stack t le h (λ first u l h1.
            part_then code cx.count cx.me (λ rest. pure (first ++ rest)) l ((arguments_run xs es r.1 fit.1).by (end_of e.part.argument p) q (pushed first stack) u l h1) (λ rest w lw.
            gives_here code cx.count cx.me (At (λ ws. here q (pushed ws stack))) (first ++ rest) (filled blocks w) (here q (pushed rest (pushed first stack))) w
            (record { place = ap (λ st. here q st) (pushed_append first rest stack); state = refl })));
      }

  two_widths : (n m : ℕ) (first : List ℕ) → length first ≡ n → (o : Outcome (List ℕ)) → HasWidth m o → HasWidth (n + m) (then_on o (λ rest. pure (first ++ rest)))
  two_widths n m first e (Done rest s) g = omega (arith, e, g, length-append first rest)
  two_widths n m first e (Stopped status s) g = tt

  more_widths : (n m : ℕ) (o : Outcome (List ℕ)) (go : Run (List ℕ)) → HasWidth n o → ((s : State) → HasWidth m (go s)) → HasWidth (n + m) (then_on o (λ first. go >>= (λ rest. pure (first ++ rest))))
  more_widths n m (Done first s) go e k = two_widths n m first e (go s) (k s)
  more_widths n m (Stopped status s) go e k = tt

  pub arguments_width : (xs : List Typed) (es : List TypedCode) → AllRun xs es → (s : State) → HasWidth (width_of es) (arguments xs s)
  arguments_width [] [] r s = refl
  arguments_width [] (e ∷ es) r s = absurd r
  arguments_width (x ∷ xs) [] r s = absurd r
  arguments_width (x ∷ xs) (e ∷ es) r s =
      more_widths e.part.width (width_of es) (x.part.argument s) (arguments xs) (r.0.part.width s) (λ u. arguments_width xs es r.1 u)

  text_same : (xs : List Typed) (es : List TypedCode) → AllRun xs es → meaning.text_of xs ≡ code_of.text_of es
  text_same [] [] r = refl
  text_same [] (e ∷ es) r = absurd r
  text_same (x ∷ xs) [] r = absurd r
  text_same (x ∷ xs) (e ∷ es) r = r.0.part.text

  after_text_run : (xs : List Typed) (es : List TypedCode) → AllRun xs es → AllRun (meaning.after_text xs) (code_of.after_text es)
  after_text_run [] [] r = tt
  after_text_run [] (e ∷ es) r = absurd r
  after_text_run (x ∷ xs) [] r = absurd r
  after_text_run (x ∷ xs) (e ∷ es) r = r.1

  -- arguments of a known number of words, and what is done with them
  words_then :
      {B : Type 0} (ends : B → State → Control → State → Type 0) (n : ℕ) (o : Outcome (List ℕ)) (go : List ℕ → Run B) (to : List ℕ → Control) (c : Control) (t : State) → t.left ≤ limit
      → HasWidth n o → It (At to) o c t → ((ws : List ℕ) (u : State) → u.left ≤ limit → length ws ≡ n → It ends (go ws (filled blocks u)) (to ws) u) → It ends (then_on o go) c t
  words_then ends n (Done ws s) go to c t le w g k =
      let d = g.is.0 in
      let u = g.is.1 in
      let st = g.is.3 in
      let l : u.left ≤ limit = omega (arith, le, g.is.2.no_more) in
      comes_gives code cx.count cx.me g.is.2 (subst (λ x. It ends (go ws x) d u) (sym st.state) (subst (λ x. It ends (go ws (filled blocks u)) x u) (sym st.place) (k ws u l w)))
  words_then ends n (Stopped status s) go to c t le w g k = record { is = g.is }

  -- an instruction that takes all words of the arguments
  taking :
      (xs : List Typed) (es : List TypedCode) → AllRun xs es → all_fit es ≡ true → (i : Instr) (go : List ℕ → Run ℕ) → ((ws : List ℕ) → Blind (go ws))
      → ((ws : List ℕ) (p : ℕ) (stack : List ℕ) (t : State) → length ws ≡ width_of es → does i (here p (pushed ws stack)) t ≡ then_on (go ws t) (λ a. pure (here (p + 1) (a ∷ stack))))
      → Pushes (arguments xs >>= go) (argument_code es ⨾ one i)
  taking xs es r fits i go b e = record {
    by = λ p q stack t le h.
        let m = end_of (argument_code es) p in
        let s = block_split (steps_of code f) entered (argument_code es p) (i ∷ []) p q h in
        words_then (At (λ v. here q (v ∷ stack))) (width_of es) (arguments xs (filled blocks t)) go (λ ws. here m (pushed ws stack)) (here p stack) t le
        (arguments_width xs es r (filled blocks t)) ((arguments_run xs es r fits).by p m stack t le s.0) (λ ws u l w.
        parts.single code cx f callers entered limit (go ws) i m q (pushed ws stack) (λ a. a ∷ stack) u s.1 (b ws) (e ws m stack u w));
  }

  abbrev pushing : ℕ → Outcome ℕ → List ℕ → Outcome Control
  pushing p o stack = then_on o (λ a. pure (here (p + 1) (a ∷ stack)))

  -- one word
  one_word : (ws stack : List ℕ) → length ws ≡ 1 → pushed ws stack ≡ slice_index ws 0 ∷ stack
  one_word [] stack e = absurd (omega (arith, e))
  one_word (w ∷ []) stack e = refl
  one_word (w ∷ x ∷ ws) stack e = absurd (omega (arith, e))

  -- ---- built-in functions

  module _ (texts : code.texts ≡ cx.texts) where
    pub built_in_runs : (b : BuiltIn) (xs : List Typed) (es : List TypedCode) → AllRun xs es → (code_of.built_in sh b es).1 ≡ true → Pushes (meaning.built_in cx b xs) (code_of.built_in sh b es).0
    built_in_runs built.SelfNo xs es r fits =
        parts.one_runs code cx f callers entered limit (λ v stack. v ∷ stack) (pure cx.me) instr.SelfNo (pure_blind cx.me) (λ p stack t. refl)
    built_in_runs built.Nprocs xs es r fits =
        parts.one_runs code cx f callers entered limit (λ v stack. v ∷ stack) (pure cx.count) instr.Count (pure_blind cx.count) (λ p stack t. refl)
    built_in_runs built.Send xs es r fits =
        let fit = both_true (all_fit es) (nat_le 2 (width_of es)) fits in
        let least = leb-true 2 (width_of es) fit.1 in
        taking xs es r fit.0 (instr.Send (width_of es - 2)) (λ words. send_words cx.count words) (λ words. send_words_blind cx.count words) (λ ws p stack t w.
        let all : popped (width_of es - 2 + 2) (pushed ws stack) [] ≡ (ws, stack) = popped_all (width_of es - 2 + 2) ws stack (omega (arith, w, least)) in
        ap (λ z. pushing p (send_words cx.count z.0 t) z.1) all)
    built_in_runs built.Receive xs es r fits =
        let fit = both_true (all_fit es) (width_of es == 1) fits in
        taking xs es r fit.0 instr.Receive (λ words. receive (slice_index words 0)) (λ words. receive_blind (slice_index words 0)) (λ ws p stack t w.
        ap (λ st. does instr.Receive (here p st) t) (one_word ws stack (w ∙ eqb-true (width_of es) 1 fit.1)))
    built_in_runs built.Word xs es r fits =
        let fit = both_true (all_fit es) (width_of es == 1) fits in
        taking xs es r fit.0 instr.Word (λ words. word_of (slice_index words 0)) (λ words. word_of_blind (slice_index words 0)) (λ ws p stack t w.
        ap (λ st. does instr.Word (here p st) t) (one_word ws stack (w ∙ eqb-true (width_of es) 1 fit.1)))
    built_in_runs built.Words xs es r fits =
        parts.one_runs code cx f callers entered limit (λ v stack. v ∷ stack) (of_letter (λ m. pure (length m.words))) instr.Words
        (of_letter_blind (λ m. pure (length m.words)) (λ m. pure_blind (length m.words))) (λ p stack t. refl)
    built_in_runs built.From xs es r fits =
        parts.one_runs code cx f callers entered limit (λ v stack. v ∷ stack) (of_letter (λ m. pure m.id.sender.no)) instr.From
        (of_letter_blind (λ m. pure m.id.sender.no) (λ m. pure_blind m.id.sender.no)) (λ p stack t. refl)
    built_in_runs built.Via xs es r fits =
        parts.one_runs code cx f callers entered limit (λ v stack. v ∷ stack) (of_letter (λ m. pure m.chan)) instr.Via (of_letter_blind (λ m. pure m.chan) (λ m. pure_blind m.chan)) (λ p stack t. refl)
    built_in_runs built.Printf xs es r fits =
        let i = unwrap_or (code_of.text_of es) 0 in
        let values = code_of.after_text es in
        let text = unwrap_or (slice_get cx.texts i) [] in
        let fit = both_true (all_fit values) (width_of values == conversions text) fits in
        let same_text : unwrap_or (slice_get cx.texts (unwrap_or (meaning.text_of xs) 0)) [] ≡ text = ap (λ o. unwrap_or (slice_get cx.texts (unwrap_or o 0)) []) (text_same xs es r) in
        let text_is : text_at code cx.count cx.me i ≡ text = ap (λ l. unwrap_or (slice_get l i) []) texts in
        subst (λ x. Pushes (arguments (meaning.after_text xs) >>= (λ vs. print (printed x vs))) (argument_code values ⨾ one (instr.Print i))) (sym same_text)
        (taking (meaning.after_text xs) values (after_text_run xs es r) fit.0 (instr.Print i) (λ vs. print (printed text vs)) (λ vs. print_blind (printed text vs)) (λ ws p stack t w.
        let all : popped (conversions text) (pushed ws stack) [] ≡ (ws, stack) = popped_all (conversions text) ws stack (w ∙ eqb-true (width_of values) (conversions text) fit.1) in
        ap (λ x. pushing p (print (printed x (popped (conversions x) (pushed ws stack) []).0) t) (popped (conversions x) (pushed ws stack) []).1) text_is ∙ ap
        (λ z. pushing p (print (printed text z.0) t) z.1) all))

  -- ---- calls of functions

  abbrev caller : ℕ → List ℕ → Caller
  caller m stack = record { function = f; pc = m; stack = stack }

  call_single :
      (g : ℕ) (fn : Function) → FunctionRuns code cx limit g fn → (ws : List ℕ) (m q : ℕ) (stack : List ℕ) (t : State) → t.left ≤ limit → length ws ≡ words_of words_of_slot fn.params
      → Lie m q (instr.Call g ∷ []) → It (At (λ v. here q (v ∷ stack))) (call_own_by cx.call g (Some fn) ws (filled blocks t)) (here m (pushed ws stack)) t
  call_single g fn r ws m q stack t le w h =
      let k = caller m stack in
      let callee : ℕ → Control = λ pc. record { function = g; pc = pc; stack = []; callers = k ∷ callers } in
      let params = words_of words_of_slot fn.params in
      let outer : outer_blocks code cx.count cx.me (k ∷ callers) ≡ blocks = ap (λ o. entered_by o ∷ outer_blocks code cx.count cx.me callers) h.0 in
      let first : slice_get (steps_of code g) 0 ≡ Some (record { instr = instr.Line fn.line; entered = [] }) = ap (λ o. slice_get (steps_by o) 0) r.code_is ∙ r.first in
      let opens : does (instr.Call g) (here m (pushed ws stack)) t ≡ then_on (open_frame g fn.line (frame_words fn) ws t) (λ _. pure (callee 0)) =
      ap (λ o. machine.called g o (here m (pushed ws stack)) t) r.code_is
      ∙ ap (λ z. then_on (open_frame g fn.line (frame_words fn) z.0 t) (λ _. pure (record { function = g; pc = 0; stack = []; callers = caller m z.1 ∷ callers }))) (popped_all params ws stack w) in
      part_then code cx.count cx.me (λ _. line_event fn.line >> (cx.call g >>= leave)) le
      (act_gives code cx.count cx.me (open_frame g fn.line (frame_words fn) ws) (instr.Call g) entered (here m (pushed ws stack)) t (λ bs. [] ∷ bs) (λ _. callee 0) h.0
      (open_frame_moves g fn.line (frame_words fn) ws) opens) (λ _ u l.
      subst (λ bs. It (Stands code cx.count cx.me bs (λ v. here q (v ∷ stack))) ((line_event fn.line >> (cx.call g >>= leave)) (filled ([] ∷ bs) u)) (callee 0) u) outer
      (subst (λ n. It (Stands code cx.count cx.me (outer_blocks code cx.count cx.me (k ∷ callers)) (λ v. here n (v ∷ stack)))
      ((line_event fn.line >> (cx.call g >>= leave)) (filled ([] ∷ outer_blocks code cx.count cx.me (k ∷ callers)) u)) (callee 0) u) h.1
      (line_then code cx.count cx.me fn.line [] (callee 0) u (cx.call g >>= leave) first (λ s e. r.returns k callers s (omega (arith, e, l))))))

  own_by :
      Functions code cx limit → (g : ℕ) (xs : List Typed) (es : List TypedCode) → AllRun xs es → all_fit es ≡ true → (o : Option Function) → slice_get cx.functions g ≡ o
      → code_of.is_width_of o (width_of es) ≡ true → Pushes (arguments xs >>= call_own_by cx.call g o) (argument_code es ⨾ one (instr.Call g))
  own_by functions g xs es r fits None e w = absurd (false_true w)
    where
      false_true : false ≡ true → ⊥
      false_true e = cc
  own_by functions g xs es r fits (Some fn) e w = record {
    by = λ p q stack t le h.
        let m = end_of (argument_code es) p in
        let s = block_split (steps_of code f) entered (argument_code es p) (instr.Call g ∷ []) p q h in
        words_then (At (λ v. here q (v ∷ stack))) (width_of es) (arguments xs (filled blocks t)) (call_own_by cx.call g (Some fn)) (λ ws. here m (pushed ws stack)) (here p stack) t le
        (arguments_width xs es r (filled blocks t)) ((arguments_run xs es r fits).by p m stack t le s.0) (λ ws u l n.
        call_single g fn (functions g fn e) ws m q stack u l (n ∙ eqb-true (width_of es) (words_of words_of_slot fn.params) w) s.1);
  }

  pub called_runs :
      code.texts ≡ cx.texts → Functions code cx limit → (what : Callee) (xs : List Typed) (es : List TypedCode) → AllRun xs es → (code_of.called sh what es).1 ≡ true
      → Pushes (meaning.called cx what xs) (code_of.called sh what es).0
  called_runs texts functions (Own g) xs es r fits =
      let fit = both_true (all_fit es) (code_of.is_width_of (slice_get cx.functions g) (width_of es)) fits in
      own_by functions g xs es r fit.0 (slice_get cx.functions g) refl fit.1
  called_runs texts functions (Built b) xs es r fits = built_in_runs texts b xs es r fits
