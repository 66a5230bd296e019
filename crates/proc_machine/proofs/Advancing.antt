-- A step leads from where an execution stands in valid code to where it stands again.
use Rattle.std.proofs.Common.{◌≡◌, ℕ, zero, suc, ◌+◌, ◌-◌, ◌<◌, ◌≤◌, ◌^◌, ◌⊎◌, inl, ⊎_elim, Bool, true, false, List, [], ◌∷◌, length, drop, Some, refl, sym, ap, ◌∙◌, subst, arith}
use Rattle.std.specs.Prelude.{IsTrue, ◌&&◌, slice_get, nat_le, nat_lt}
use Rattle.nm_base.specs.declared.kind.Kind.TheVariants.{Ended}
use Rattle.nm_base.specs.Word.{unary, binary, as_int}
use Rattle.c_tree.specs.State.{State, Done, ◌>>=◌, pure, or_fault, line_event}
use Rattle.c_tree.specs.Print.{printed}
use Rattle.c_tree.specs.Expr.{choice, is_true, load, store, element, send_words, receive, of_letter, word_of, print, leave}
use Rattle.stack_code.specs.declared.instr.Instr.{Instr}
use Rattle.stack_code.specs.declared.instr.Instr.TheVariants as instr
use Rattle.stack_code.specs.Code.{FunctionCode, Code, params_of, steps_of, steps_by}
use Rattle.stack_code.specs.Forward.{IsLineAt}
use Rattle.stack_code.specs.Machine.{Caller, Control, top, below, popped, local_place, param_array, open_frame, conversions, text_at, next, jumped, called, returned, act}
use Rattle.stack_code.specs.Valid.{Operand, Value, Place, ArrayPlace, ArrayLength, IsSound, finds, follows, follows_if_any, names_fit}
use Rattle.stack_code.specs.Valid.{go_on, pushed, taking, twice, swapped, is_single, values, operands_by, operands_of}
use Rattle.stack_code.specs.Valid as valid
use Rattle.stack_code.proofs.Forward.{then_done, never_done}
use Rattle.proc_machine.specs.private.Ready.{param_words_by}
use Rattle.proc_machine.specs.private.Heights.{takes, pushes, high}
use Rattle.proc_machine.specs.private.Moves.{Small, gives}
use Rattle.proc_machine.specs.private.Sound.{IsOf, AreOf, Wait, IsSoundAt}
use Rattle.std.proofs.lemmas.List.{length-drop}
use Rattle.proc_machine.proofs.Calling.{popped_are}
use Rattle.proc_machine.proofs.Levels.{leads_on, on, on_test, ahead, ahead_test}
use Rattle.proc_machine.proofs.OfKinds.{both, taken, taken_are, tops_length, pushed_length, none_left, below_is, below_two, below_length}

popped_rest : (n : ℕ) (xs words : List ℕ) → n ≤ length xs → (popped n xs words).1 ≡ drop n xs
popped_rest n xs words h = ap (λ (p : List ℕ × List ℕ). p.1) (popped_are n xs words h)

pub length_values : (n : ℕ) → length (values n) ≡ n
length_values zero = refl
length_values (suc n) = ap suc (length_values n)

pub twice_is : (ks : List Operand) (go : ℕ → List Operand → Bool) → ((n : ℕ) → IsTrue (twice ks (go n))) → (k : Operand) × (s : List Operand) × (ks ≡ k ∷ s) × ((n : ℕ) → IsTrue (go n (k ∷ k ∷ s)))
twice_is [] go h = let no : false ≡ true = h 0 in cc
twice_is (k ∷ s) go h = (k, s, refl, λ n. (both (is_single k) (go n (k ∷ k ∷ s)) (h n)).1)

pub swapped_is : (ks : List Operand) (go : ℕ → List Operand → Bool) → ((n : ℕ) → IsTrue (swapped ks (go n)))
    → (a : Operand) × (b : Operand) × (s : List Operand) × (ks ≡ a ∷ b ∷ s) × ((n : ℕ) → IsTrue (go n (b ∷ a ∷ s)))
swapped_is [] go h = let no : false ≡ true = h 0 in cc
swapped_is (k ∷ []) go h = let no : false ≡ true = h 0 in cc
swapped_is (a ∷ b ∷ s) go h = (a, b, s, refl, λ n. (both (is_single a && is_single b) (go n (b ∷ a ∷ s)) (h n)).1)

dup_are : (kinds : List Operand) (stack : List ℕ) (k : Operand) (s : List Operand) → AreOf kinds stack → kinds ≡ k ∷ s → AreOf (k ∷ k ∷ s) (top stack ∷ stack)
dup_are [] stack k s a e = cc
dup_are (x ∷ kinds) [] k s a e = absurd a
dup_are (x ∷ kinds) (v ∷ stack) k s a e = let b = subst (λ (l : List Operand). AreOf l (v ∷ stack)) e a in (b.0, b)

swap_are : (kinds : List Operand) (stack : List ℕ) (a b : Operand) (s : List Operand) → AreOf kinds stack → kinds ≡ a ∷ b ∷ s → AreOf (b ∷ a ∷ s) (top (below stack) ∷ top stack ∷ below (below stack))
swap_are kinds [] a b s h e = absurd (subst (λ (l : List Operand). AreOf l []) e h)
swap_are kinds (v ∷ []) a b s h e = absurd (subst (λ (l : List Operand). AreOf l (v ∷ [])) e h).1
swap_are kinds (v ∷ w ∷ stack) a b s h e = let t = subst (λ (l : List Operand). AreOf l (v ∷ w ∷ stack)) e h in (t.1.0, (t.0, t.1.1))

module _ (code : Code) (count me : ℕ) (sound : IsSound code) (c : Control) (at : IsSoundAt code c) where
  abbrev f : FunctionCode
  f = at.here.function

  abbrev kinds : List Operand
  kinds = at.here.kinds

  abbrev goes : ℕ → ℕ → List Operand → Bool
  goes n q t = finds code f n q t

  -- ---- where it may stand afterwards

  abbrev pub IsAt : Instr → Type 0
  IsAt i = (entered : List (List ℕ)) × (slice_get (steps_of code c.function) c.pc ≡ Some (record { instr = i; entered = entered }))

  -- the next place, at which there are at most so many operands
  stands_next : (stack : List ℕ) (t : List Operand) → AreOf t stack → ((n : ℕ) → IsTrue (goes n (c.pc + 1) t)) → length stack ≤ high code c.function (c.pc + 1) → IsSoundAt code (next c stack)
  stands_next stack t are find low = record { here = record { function = f; here = at.here.here; kinds = t; are = are; find = find }; low = low; callers = at.callers }

  go_next : (i : Instr) → IsAt i → leads_on i ≡ true → (stack : List ℕ) (t : List Operand) → AreOf t stack → ((n : ℕ) → IsTrue (goes n (c.pc + 1) t))
      → length stack ≤ (length c.stack - takes code i) + pushes i → IsSoundAt code (next c stack)
  go_next i (entered, is) leads stack t are find few =
      let low = at.low in
      stands_next stack t are find (on code c.function c.pc (record { instr = i; entered = entered }) is (length stack) leads (omega (arith, few, low)))

  -- a jump ahead
  go_to : (target : ℕ) (stack : List ℕ) (t : List Operand) → AreOf t stack → ((n : ℕ) → IsTrue (goes n target t)) → length stack ≤ high code c.function target
      → IsSoundAt code (jumped c target stack)
  go_to target stack t are find low = record { here = record { function = f; here = at.here.here; kinds = t; are = are; find = find }; low = low; callers = at.callers }

  steps_are : steps_of code c.function ≡ f.steps
  steps_are = ap steps_by at.here.here

  -- at a Line there are no operands
  empty_at_line : (target : ℕ) (t : List Operand) → IsLineAt code c.function target → ((n : ℕ) → IsTrue (goes n target t)) → valid.is_empty t ≡ true
  empty_at_line target t (line, entered, is) find =
      let found : slice_get f.steps target ≡ Some (record { instr = instr.Line line; entered = entered }) = ap (λ l. slice_get l target) (sym steps_are) ∙ is in
      let one : (follows_if_any code f (slice_get f.steps target) target t (λ q r. goes 0 q r)) ≡ true = find 1 in
      let here : (names_fit code.variables f.slots (instr.Line line) && (valid.is_empty t && goes 0 (target + 1) t)) ≡ true = ap (λ o. follows_if_any code f o target t (λ q r. goes 0 q r))
      (sym found) ∙ one in
      (both (valid.is_empty t) (goes 0 (target + 1) t) (both (names_fit code.variables f.slots (instr.Line line)) (valid.is_empty t && goes 0 (target + 1) t) here).1).0

  go_line : (target : ℕ) (stack : List ℕ) (t : List Operand) → IsLineAt code c.function target → AreOf t stack → ((n : ℕ) → IsTrue (goes n target t)) → IsSoundAt code (jumped c target stack)
  go_line target stack t line are find =
      let none : stack ≡ [] = none_left t stack are (empty_at_line target t line find) in
      let zero_length : length stack ≡ 0 = ap length none in
      record { here = record { function = f; here = at.here.here; kinds = t; are = are; find = find }; low = omega (arith, zero_length); callers = at.callers }

  -- ---- what each instruction leaves

  abbrev Follows : Instr → Type 0
  Follows i = (n : ℕ) → IsTrue (follows code f i c.pc kinds (λ q t. goes n q t))

  taken_off : (ws : List Operand) (next_are : ℕ → List Operand → Bool) → ((n : ℕ) → IsTrue (go_on (valid.below ws kinds) (next_are n)))
      → (t : List Operand) × AreOf t (drop (length ws) c.stack) × ((n : ℕ) → IsTrue (next_are n t))
  taken_off ws next_are h =
      let r = taken (valid.below ws kinds) next_are h in
      (r.0, (taken_are ws kinds r.0 c.stack at.here.are r.1).0, r.2)

  -- what an instruction takes off and pushes
  abbrev Moves : Instr → ℕ → ℕ → Type 0
  Moves i taken given = (leads_on i ≡ true) × (takes code i ≡ taken) × (pushes i ≡ given)

  add_one : (i : Instr) → IsAt i → Moves i 0 1 → (k : Operand) (a : ℕ) → ((n : ℕ) → IsTrue (goes n (c.pc + 1) (k ∷ kinds))) → IsOf k a → IsSoundAt code (next c (a ∷ c.stack))
  add_one i there m k a h is = go_next i there m.0 (a ∷ c.stack) (k ∷ kinds) (is, at.here.are) h (let t = m.1 in let p = m.2 in omega (arith, t, p))

  add_array : (i : Instr) → IsAt i → Moves i 0 2 → (d : Control) (place len : ℕ) → d ≡ next c (len ∷ place ∷ c.stack) → Small 2 d.stack
      → ((n : ℕ) → IsTrue (goes n (c.pc + 1) (ArrayLength ∷ ArrayPlace ∷ kinds))) → IsSoundAt code d
  add_array i there m d place len e small h =
      let two = subst (λ (x : Control). Small 2 x.stack) e small in
      by_next d (len ∷ place ∷ c.stack) e
      (go_next i there m.0 (len ∷ place ∷ c.stack) (ArrayLength ∷ ArrayPlace ∷ kinds) (two.0, (two.1.0, at.here.are)) h (let t = m.1 in let p = m.2 in omega (arith, t, p)))
    where
      by_next : (d : Control) (stack : List ℕ) → d ≡ next c stack → IsSoundAt code (next c stack) → IsSoundAt code d
      by_next d stack e h = subst (λ (x : Control). IsSoundAt code x) (sym e) h

  -- one operand goes, and a word or a place comes
  for_one : (i : Instr) → IsAt i → Moves i 1 1 → (w k : Operand) (a : ℕ) → ((n : ℕ) → IsTrue (go_on (valid.below (w ∷ []) kinds) (λ t. goes n (c.pc + 1) (k ∷ t)))) → IsOf k a
      → IsSoundAt code (next c (a ∷ below c.stack))
  for_one i there m w k a h is =
      let r = taken_off (w ∷ []) (λ n t. goes n (c.pc + 1) (k ∷ t)) h in
      let few = below_length c.stack in
      let t = m.1 in
      let p = m.2 in
      go_next i there m.0 (a ∷ below c.stack) (k ∷ r.0) (is, subst (λ (l : List ℕ). AreOf r.0 l) (sym (below_is c.stack)) r.1) r.2 (omega (arith, few, t, p))

  for_two : (i : Instr) → IsAt i → Moves i 2 1 → (v w k : Operand) (a : ℕ) → ((n : ℕ) → IsTrue (go_on (valid.below (v ∷ w ∷ []) kinds) (λ t. goes n (c.pc + 1) (k ∷ t)))) → IsOf k a
      → IsSoundAt code (next c (a ∷ below (below c.stack)))
  for_two i there m v w k a h is =
      let r = taken_off (v ∷ w ∷ []) (λ n t. goes n (c.pc + 1) (k ∷ t)) h in
      let few = below_length c.stack in
      let few2 = below_length (below c.stack) in
      let t = m.1 in
      let p = m.2 in
      go_next i there m.0 (a ∷ below (below c.stack)) (k ∷ r.0) (is, subst (λ (l : List ℕ). AreOf r.0 l) (sym (below_two c.stack)) r.1) r.2 (omega (arith, few, few2, t, p))

  by_next : (d : Control) (stack : List ℕ) → d ≡ next c stack → IsSoundAt code (next c stack) → IsSoundAt code d
  by_next d stack e h = subst (λ (x : Control). IsSoundAt code x) (sym e) h

  -- the word on top of where it leads
  small_on : (d : Control) (a : ℕ) (rest : List ℕ) → d ≡ next c (a ∷ rest) → Small 1 d.stack → a < 2 ^ 32
  small_on d a rest e h = (subst (λ (x : Control). Small 1 x.stack) e h).0

  -- many operands go, and a word comes
  for_many : (i : Instr) → IsAt i → (leads_on i ≡ true) × (pushes i ≡ 1) → (ks : List Operand) (m a : ℕ) → takes code i ≤ m → length ks ≡ m
      → ((n : ℕ) → IsTrue (go_on (valid.below (pushed ks []) kinds) (λ t. goes n (c.pc + 1) (Value ∷ t)))) → a < 2 ^ 32
      → IsSoundAt code (next c (a ∷ (popped m c.stack []).1))
  for_many i there can ks m a takes_few len h is =
      let ws = pushed ks [] in
      let r = taken (valid.below ws kinds) (λ n t. goes n (c.pc + 1) (Value ∷ t)) h in
      let t = taken_are ws kinds r.0 c.stack at.here.are r.1 in
      let all : length ws ≡ m = let p = pushed_length ks [] in omega (arith, p, len) in
      let few : m ≤ length c.stack = let q = tops_length ws c.stack t.1 in omega (arith, q, all) in
      let rest : drop (length ws) c.stack ≡ (popped m c.stack []).1 = ap (λ k. drop k c.stack) all ∙ sym (popped_rest m c.stack [] few) in
      let shorter : length (popped m c.stack []).1 ≤ length c.stack - m =
      let l = ap (λ (x : List ℕ). length x) (popped_rest m c.stack [] few) in let q = length-drop m c.stack in omega (arith, l, q) in
      let p = can.1 in
      go_next i there can.0 (a ∷ (popped m c.stack []).1) (Value ∷ r.0) (is, subst (λ (l : List ℕ). AreOf r.0 l) rest t.0) r.2 (omega (arith, shorter, takes_few, p))

  -- ---- calls

  abbrev Params : Type 0
  Params = (g : ℕ) (f : FunctionCode) → slice_get code.functions g ≡ Some f → length (operands_of (params_of f)) ≡ f.param_words

  call_sound : Params → (g : ℕ) → IsAt (instr.Call g) → (h : FunctionCode) → slice_get code.functions g ≡ Some h → (s : State) (d : Control) (u : State) → called g (Some h) c s ≡ Done d u
      → ((n : ℕ) → IsTrue (go_on (valid.below (pushed (operands_by (Some h)) []) kinds) (λ t. goes n (c.pc + 1) (Value ∷ t)))) → IsSoundAt code d
  call_sound params g there h is s d u e find =
      let ks = operands_by (Some h) in
      let ws = pushed ks [] in
      let m = h.param_words in
      let r = taken (valid.below ws kinds) (λ n t. goes n (c.pc + 1) (Value ∷ t)) find in
      let t = taken_are ws kinds r.0 c.stack at.here.are r.1 in
      let all : length ws ≡ m = let p = pushed_length ks [] in let q = params g h is in omega (arith, p, q) in
      let few : m ≤ length c.stack = let q = tops_length ws c.stack t.1 in omega (arith, q, all) in
      let left = (popped m c.stack []).1 in
      let rest : drop (length ws) c.stack ≡ left = ap (λ k. drop k c.stack) all ∙ sym (popped_rest m c.stack [] few) in
      let shorter : length left ≤ length c.stack - m = let l = ap (λ (x : List ℕ). length x) (popped_rest m c.stack [] few) in let q = length-drop m c.stack in omega (arith, l, q) in
      let low = at.low in
      let size : param_words_by (slice_get code.functions g) ≡ m = ap param_words_by is in
      let back : length left + 1 ≤ high code c.function (c.pc + 1) =
      on code c.function c.pc (record { instr = instr.Call g; entered = there.0 }) there.1 (length left + 1) refl (omega (arith, low, shorter, size)) in
      let to = then_done (open_frame g h.line h.frame_words (popped m c.stack []).0 s)
      (λ _. record { function = g; pc = 0; stack = []; callers = record { function = c.function; pc = c.pc; stack = left } ∷ c.callers }) d u e in
      subst (λ (x : Control). IsSoundAt code x) (sym to.1)
      (record {
        here = record { function = h; here = is; kinds = []; are = tt; find = sound.operands g h is };
        low = omega arith;
        callers = (record { function = f; here = at.here.here; kinds = r.0; are = subst (λ (l : List ℕ). AreOf r.0 l) rest t.0; find = r.2 }, back, at.callers);
      })

  return_sound : (callers : List Caller) (v : ℕ) (s : State) (d : Control) (u : State) → c.callers ≡ callers → returned callers v s ≡ Done d u → Small 1 d.stack → IsSoundAt code d
  return_sound [] v s d u is e small = absurd (never_done s.left (Ended (as_int v)) s d u e)
  return_sound (k ∷ ks) v s d u is e small =
      let waits = subst (Wait code) is at.callers in
      let to = then_done (leave v s) (λ w. record { function = k.function; pc = k.pc + 1; stack = w ∷ k.stack; callers = ks }) d u e in
      let word = (subst (λ (x : Control). Small 1 x.stack) to.1 small).0 in
      let low = waits.1 in
      subst (λ (x : Control). IsSoundAt code x) (sym to.1)
      (record {
        here = record { function = waits.0.function; here = waits.0.here; kinds = Value ∷ waits.0.kinds; are = (word, waits.0.are); find = waits.0.find };
        low = omega (arith, low);
        callers = waits.2;
      })

  -- ---- jumps

  jump_sound : (target : ℕ) (stack : List ℕ) (t : List Operand) (d : Control) → d ≡ jumped c target stack → (c.pc < target) ⊎ IsLineAt code c.function target → AreOf t stack
      → ((n : ℕ) → IsTrue (goes n target t)) → (c.pc < target → length stack ≤ high code c.function target) → IsSoundAt code d
  jump_sound target stack t d e way are find low =
      subst (λ (x : Control). IsSoundAt code x) (sym e)
      (⊎_elim (λ ahead. go_to target stack t are find (low ahead)) (λ line. go_line target stack t line are find) way)

  test_sound : (b : Bool) (target : ℕ) → IsAt (instr.JumpZero target) → (s : State) (d : Control) (u : State)
      → choice b (pure (next c (below c.stack))) (pure (jumped c target (below c.stack))) s ≡ Done d u
      → c.pc < target → (t : List Operand) → AreOf t (below c.stack) → ((n : ℕ) → IsTrue (goes n (c.pc + 1) t)) → ((n : ℕ) → IsTrue (goes n target t)) → IsSoundAt code d
  test_sound true target (entered, is) s d u e lt t are find find2 =
      let same : next c (below c.stack) ≡ d = cc in
      let few = below_length c.stack in
      let low = at.low in
      let there = on_test code c.function c.pc (record { instr = instr.JumpZero target; entered = entered }) is target (length (below c.stack)) refl (omega (arith, few, low)) in
      by_next d (below c.stack) (sym same) (stands_next (below c.stack) t are find there)
  test_sound false target (entered, is) s d u e lt t are find find2 =
      let same : jumped c target (below c.stack) ≡ d = cc in
      let few = below_length c.stack in
      let low = at.low in
      let there = ahead_test code c.function c.pc target (record { instr = instr.JumpZero target; entered = entered }) is refl lt in
      jump_sound target (below c.stack) t d (sym same) (inl lt) are find2 (λ _. omega (arith, few, low, there))

  -- ---- every instruction

  pub act_sound : Params → (i : Instr) → IsAt i → Follows i → (s : State) (d : Control) (u : State) → act code count me i c s ≡ Done d u → Small (gives i) d.stack → IsSoundAt code d
  act_sound params (instr.Line line) is h s d u e small =
      let empty : valid.is_empty kinds ≡ true = (both (valid.is_empty kinds) (goes 0 (c.pc + 1) kinds) (h 0)).0 in
      let none : c.stack ≡ [] = none_left kinds c.stack at.here.are empty in
      let zero_length : length c.stack ≡ 0 = ap length none in
      by_next d c.stack (then_done (line_event line s) (λ _. next c c.stack) d u e).1
      (stands_next c.stack kinds at.here.are (λ n. (both (valid.is_empty kinds) (goes n (c.pc + 1) kinds) (h n)).1) (omega (arith, zero_length)))
  act_sound params (instr.Push bits) is h s d u e small =
      let to = then_done (pure bits s) (λ v. next c (v ∷ c.stack)) d u e in
      by_next d (to.0 ∷ c.stack) to.1 (add_one (instr.Push bits) is (refl, refl, refl) Value to.0 h (small_on d to.0 c.stack to.1 small))
  act_sound params instr.Drop is h s d u e small =
      let same : next c (below c.stack) ≡ d = cc in
      let r = taken_off (Value ∷ []) (λ n t. goes n (c.pc + 1) t) h in
      let few = below_length c.stack in
      by_next d (below c.stack) (sym same) (go_next instr.Drop is refl (below c.stack) r.0 (subst (λ (l : List ℕ). AreOf r.0 l) (sym (below_is c.stack)) r.1) r.2 (omega (arith, few)))
  act_sound params instr.Dup is h s d u e small =
      let same : next c (top c.stack ∷ c.stack) ≡ d = cc in
      let r = twice_is kinds (λ n t. goes n (c.pc + 1) t) h in
      by_next d (top c.stack ∷ c.stack) (sym same) (go_next instr.Dup is refl (top c.stack ∷ c.stack) (r.0 ∷ r.0 ∷ r.1) (dup_are kinds c.stack r.0 r.1 at.here.are r.2) r.3 (omega arith))
  act_sound params instr.Swap is h s d u e small =
      let same : next c (top (below c.stack) ∷ top c.stack ∷ below (below c.stack)) ≡ d = cc in
      let r = swapped_is kinds (λ n t. goes n (c.pc + 1) t) h in
      let few = below_length c.stack in
      let few2 = below_length (below c.stack) in
      by_next d (top (below c.stack) ∷ top c.stack ∷ below (below c.stack)) (sym same)
      (go_next instr.Swap is refl (top (below c.stack) ∷ top c.stack ∷ below (below c.stack)) (r.1 ∷ r.0 ∷ r.2) (swap_are kinds c.stack r.0 r.1 r.2 at.here.are r.3) r.4 (omega (arith, few, few2)))
  act_sound params (instr.GlobalPlace slot) is h s d u e small =
      let to = then_done (pure slot s) (λ v. next c (v ∷ c.stack)) d u e in
      by_next d (to.0 ∷ c.stack) to.1 (add_one (instr.GlobalPlace slot) is (refl, refl, refl) Place to.0 h tt)
  act_sound params (instr.LocalPlace slot) is h s d u e small =
      let to = then_done (local_place slot s) (λ v. next c (v ∷ c.stack)) d u e in
      by_next d (to.0 ∷ c.stack) to.1 (add_one (instr.LocalPlace slot) is (refl, refl, refl) Place to.0 h tt)
  act_sound params (instr.GlobalAt base len) is h s d u e small =
      let to = then_done (element (Some (base, len)) (top c.stack) s) (λ v. next c (v ∷ below c.stack)) d u e in
      by_next d (to.0 ∷ below c.stack) to.1 (for_one (instr.GlobalAt base len) is (refl, refl, refl) Value Place to.0 h tt)
  act_sound params (instr.LocalAt base len) is h s d u e small =
      let to = then_done ((local_place base >>= (λ place. element (Some (place, len)) (top c.stack))) s) (λ v. next c (v ∷ below c.stack)) d u e in
      by_next d (to.0 ∷ below c.stack) to.1 (for_one (instr.LocalAt base len) is (refl, refl, refl) Value Place to.0 h tt)
  act_sound params (instr.ParamAt slot) is h s d u e small =
      let to = then_done ((param_array slot >>= (λ array. element (Some array) (top c.stack))) s) (λ v. next c (v ∷ below c.stack)) d u e in
      by_next d (to.0 ∷ below c.stack) to.1 (for_one (instr.ParamAt slot) is (refl, refl, refl) Value Place to.0 h tt)
  act_sound params (instr.GlobalArray base len) is h s d u e small =
      let same : next c (len ∷ base ∷ c.stack) ≡ d = cc in
      add_array (instr.GlobalArray base len) is (refl, refl, refl) d base len (sym same) small h
  act_sound params (instr.LocalArray base len) is h s d u e small =
      let to = then_done (local_place base s) (λ place. next c (len ∷ place ∷ c.stack)) d u e in
      add_array (instr.LocalArray base len) is (refl, refl, refl) d to.0 len to.1 small h
  act_sound params (instr.ParamArray slot) is h s d u e small =
      let to = then_done (param_array slot s) (λ array. next c (array.1 ∷ array.0 ∷ c.stack)) d u e in
      add_array (instr.ParamArray slot) is (refl, refl, refl) d to.0.0 to.0.1 to.1 small h
  act_sound params instr.Load is h s d u e small =
      let to = then_done (load (top c.stack) s) (λ v. next c (v ∷ below c.stack)) d u e in
      by_next d (to.0 ∷ below c.stack) to.1 (for_one instr.Load is (refl, refl, refl) Place Value to.0 h (small_on d to.0 (below c.stack) to.1 small))
  act_sound params instr.Store is h s d u e small =
      let to = then_done (store (top (below c.stack)) (top c.stack) s) (λ v. next c (v ∷ below (below c.stack))) d u e in
      by_next d (to.0 ∷ below (below c.stack)) to.1 (for_two instr.Store is (refl, refl, refl) Value Place Value to.0 h (small_on d to.0 (below (below c.stack)) to.1 small))
  act_sound params (instr.Unary op of) is h s d u e small =
      let to = then_done (or_fault (unary op of (top c.stack)) s) (λ v. next c (v ∷ below c.stack)) d u e in
      by_next d (to.0 ∷ below c.stack) to.1 (for_one (instr.Unary op of) is (refl, refl, refl) Value Value to.0 h (small_on d to.0 (below c.stack) to.1 small))
  act_sound params (instr.Binary op of) is h s d u e small =
      let to = then_done (or_fault (binary op of (top (below c.stack)) (top c.stack)) s) (λ v. next c (v ∷ below (below c.stack))) d u e in
      by_next d (to.0 ∷ below (below c.stack)) to.1 (for_two (instr.Binary op of) is (refl, refl, refl) Value Value Value to.0 h (small_on d to.0 (below (below c.stack)) to.1 small))
  act_sound params (instr.Jump target) (entered, is) h s d u e small =
      let same : jumped c target c.stack ≡ d = cc in
      jump_sound target c.stack kinds d (sym same) (sound.forward.jumps c.function c.pc target entered is) at.here.are h
      (λ lt. let low = at.low in let there = ahead code c.function c.pc target (record { instr = instr.Jump target; entered = entered }) is refl lt in omega (arith, low, there))
  act_sound params (instr.JumpZero target) (entered, is) h s d u e small =
      let r = taken_off (Value ∷ []) (λ n t. goes n (c.pc + 1) t && goes n target t) h in
      test_sound (is_true (top c.stack)) target (entered, is) s d u e (sound.forward.tests c.function c.pc target entered is) r.0 (subst (λ (l : List ℕ). AreOf r.0 l) (sym (below_is c.stack)) r.1)
      (λ n. (both (goes n (c.pc + 1) r.0) (goes n target r.0) (r.2 n)).0) (λ n. (both (goes n (c.pc + 1) r.0) (goes n target r.0) (r.2 n)).1)
  act_sound params (instr.Zero base len) is h s d u e small =
      let same : next c c.stack ≡ d = cc in
      by_next d c.stack (sym same) (go_next (instr.Zero base len) is refl c.stack kinds at.here.are h (omega arith))
  act_sound params (instr.Call g) (entered, is) h s d u e small =
      let callee = sound.forward.calls c.function c.pc g entered is in
      call_sound params g (entered, is) callee.0 callee.1 s d u (subst (λ o. called g o c s ≡ Done d u) callee.1 e)
      (subst (λ o. (n : ℕ) → IsTrue (go_on (valid.below (pushed (operands_by o) []) kinds) (λ t. goes n (c.pc + 1) (Value ∷ t)))) callee.1 h)
  act_sound params instr.Return is h s d u e small = return_sound c.callers (top c.stack) s d u refl e small
  act_sound params (instr.Send words) is h s d u e small =
      let to = then_done (send_words count (popped (words + 2) c.stack []).0 s) (λ v. next c (v ∷ (popped (words + 2) c.stack []).1)) d u e in
      by_next d (to.0 ∷ (popped (words + 2) c.stack []).1) to.1
      (for_many (instr.Send words) is (refl, refl) (values (words + 2)) (words + 2) to.0 (omega arith) (length_values (words + 2))
      (λ n. (both (nat_le 1 words && nat_le words 8) (taking (values (words + 2)) kinds (λ t. goes n (c.pc + 1) (Value ∷ t))) (h n)).1)
      (small_on d to.0 (popped (words + 2) c.stack []).1 to.1 small))
  act_sound params instr.Receive is h s d u e small =
      let to = then_done (receive (top c.stack) s) (λ v. next c (v ∷ below c.stack)) d u e in
      by_next d (to.0 ∷ below c.stack) to.1 (for_one instr.Receive is (refl, refl, refl) Value Value to.0 h (small_on d to.0 (below c.stack) to.1 small))
  act_sound params instr.Word is h s d u e small =
      let to = then_done (word_of (top c.stack) s) (λ v. next c (v ∷ below c.stack)) d u e in
      by_next d (to.0 ∷ below c.stack) to.1 (for_one instr.Word is (refl, refl, refl) Value Value to.0 h (small_on d to.0 (below c.stack) to.1 small))
  act_sound params instr.Words is h s d u e small =
      let to = then_done (of_letter (λ m. pure (length m.words)) s) (λ v. next c (v ∷ c.stack)) d u e in
      by_next d (to.0 ∷ c.stack) to.1 (add_one instr.Words is (refl, refl, refl) Value to.0 h (small_on d to.0 c.stack to.1 small))
  act_sound params instr.From is h s d u e small =
      let to = then_done (of_letter (λ m. pure m.id.sender.no) s) (λ v. next c (v ∷ c.stack)) d u e in
      by_next d (to.0 ∷ c.stack) to.1 (add_one instr.From is (refl, refl, refl) Value to.0 h (small_on d to.0 c.stack to.1 small))
  act_sound params instr.Via is h s d u e small =
      let to = then_done (of_letter (λ m. pure m.chan) s) (λ v. next c (v ∷ c.stack)) d u e in
      by_next d (to.0 ∷ c.stack) to.1 (add_one instr.Via is (refl, refl, refl) Value to.0 h (small_on d to.0 c.stack to.1 small))
  act_sound params instr.SelfNo is h s d u e small =
      let to = then_done (pure me s) (λ v. next c (v ∷ c.stack)) d u e in
      by_next d (to.0 ∷ c.stack) to.1 (add_one instr.SelfNo is (refl, refl, refl) Value to.0 h (small_on d to.0 c.stack to.1 small))
  act_sound params instr.Count is h s d u e small =
      let to = then_done (pure count s) (λ v. next c (v ∷ c.stack)) d u e in
      by_next d (to.0 ∷ c.stack) to.1 (add_one instr.Count is (refl, refl, refl) Value to.0 h (small_on d to.0 c.stack to.1 small))
  act_sound params (instr.Print text) is h s d u e small =
      let bytes = text_at code count me text in
      let m = conversions bytes in
      let to = then_done (print (printed bytes (popped m c.stack []).0) s) (λ v. next c (v ∷ (popped m c.stack []).1)) d u e in
      by_next d (to.0 ∷ (popped m c.stack []).1) to.1 (for_many (instr.Print text) is (refl, refl) (values m) m to.0 (omega arith) (length_values m)
      (λ n. (both (nat_lt text (length code.texts)) (taking (values m) kinds (λ t. goes n (c.pc + 1) (Value ∷ t))) (h n)).1) (small_on d to.0 (popped m c.stack []).1 to.1 small))
