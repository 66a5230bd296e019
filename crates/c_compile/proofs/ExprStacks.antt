-- The code of a checked expression finds its operands, and leaves what the expression's sort says.
use Rattle.std.proofs.Common.{◌≡◌, ℕ, ◌+◌, ◌-◌, Bool, true, false, List, [], ◌∷◌, ◌++◌, map, length, Option, Some, None, refl, sym, ◌∙◌, subst, arith}
use Rattle.std.specs.Prelude.{◌&&◌, ◌==◌, not, nat_lt, nat_le, slice_get, unwrap_or, is_none}
use Rattle.std.specs.List.{list_any}
use Rattle.std.proofs.lemmas.Bool.{eqb-true, leb-true, le-leb}
use Rattle.nm_base.specs.declared.operator.Ctype.{Ctype}
use Rattle.nm_base.specs.declared.operator.Ctype.TheVariants.{Int}
use Rattle.nm_base.specs.declared.operator.UnaryOp.{UnaryOp}
use Rattle.nm_base.specs.declared.operator.BinaryOp.{BinaryOp}
use Rattle.nm_base.specs.declared.operator.BinaryOp.TheVariants.{Differ}
use Rattle.c_tree.specs.declared.program.Global.{Global}
use Rattle.c_tree.specs.declared.program.Slot.{Slot}
use Rattle.c_tree.specs.declared.program.Function.{Function}
use Rattle.c_tree.specs.declared.program.Target.{Target}
use Rattle.c_tree.specs.declared.program.Target.TheVariants.{Global as AGlobal, Slot as ASlot}
use Rattle.c_tree.specs.declared.program.Callee.{Callee}
use Rattle.c_tree.specs.declared.program.Callee.TheVariants.{Function as Own, BuiltIn as Built}
use Rattle.c_tree.specs.declared.program.BuiltIn.{BuiltIn}
use Rattle.c_tree.specs.declared.program.BuiltIn.TheVariants as built
use Rattle.c_tree.specs.declared.program.PExpr.{PExpr}
use Rattle.c_tree.specs.declared.program.PKind.{PKind, roll-PKind}
use Rattle.c_tree.specs.declared.program.PKind.TheOpen.{PKind-F, PExpr-F}
use Rattle.c_tree.specs.declared.program.PKind.TheFolds.{ind-PKind, map-PKind}
use Rattle.c_tree.specs.Storage.{words_of_global, words_of_slot, words_before}
use Rattle.c_tree.specs.Typing as typing
use Rattle.c_tree.specs.Typing.{Sort, Void, Array, Text, Wrong, Declarations, agreed, is_typed, is_value, is_effect, with_type, with_place, where_true, element_of, const_of, comma_of, result_of}
use Rattle.c_tree.specs.Typing.{sort_of_global, sort_of_slot, sort_of_target, sort_of_call, call_of_function, fit_params, fits_param, all_values, fits_format, fits_printf, fits_built_in}
use Rattle.c_tree.specs.Typing.{is_count, conversions_from, same_type, sort_step, sort_of}
use Rattle.stack_code.specs.declared.instr.Instr.{Instr}
use Rattle.stack_code.specs.declared.instr.Instr.TheVariants as instr
use Rattle.stack_code.specs.Code.{FunctionCode, Code}
use Rattle.stack_code.specs.Machine.{conversions}
use Rattle.stack_code.specs.Valid.{Operand, Value, Place, ArrayPlace, ArrayLength, names_fit, follows, taking, pushed, values, operands_by, is_scalar_at, is_array_at, is_array_param_at, is_whole_at}
use Rattle.c_compile.specs.Asm.{Asm, nothing, one, ◌⨾◌, choose}
use Rattle.c_compile.specs.ExprCode as code_of
use Rattle.c_compile.specs.ExprCode.{Shape, ExprCode, TypedCode, kind_code, typed_code, expr_code, width_of}
use Rattle.c_compile.proofs.Levels.{code_roll, kind_sort, sort_roll}
use Rattle.c_compile.proofs.Parts.{both_true}
use Rattle.c_compile.proofs.Sorts.{and_true}
use Rattle.c_compile.proofs.Finds as finds
use Rattle.c_compile.proofs.Finds.{Leads, pushed_append, taking_pushed}

-- what an argument pushes before others: an array's place and length, or a value
abbrev pub passed : Bool → List Operand → List Operand
passed is_array more = elim is_array [ true ↦ ArrayPlace ∷ ArrayLength ∷ more | false ↦ Value ∷ more ]

-- the operands that a function's parameters take
abbrev pub param_operands : List Slot → List Operand
param_operands [] = []
param_operands (x ∷ xs) = passed x.array_param (param_operands xs)

-- the code names the variables of a program, its functions and its texts
pub record Knows (code : Code) (f : FunctionCode) (names : Declarations) : Type 0 where
  pub texts : code.texts ≡ names.texts
  pub scalar_global : (i : ℕ) (g : Global) → slice_get names.globals i ≡ Some g → g.length ≡ None → list_any (is_scalar_at (words_before words_of_global names.globals i)) code.variables ≡ true
  pub array_global : (i n : ℕ) (g : Global) → slice_get names.globals i ≡ Some g → g.length ≡ Some n → list_any (is_array_at (words_before words_of_global names.globals i) n) code.variables ≡ true
  pub scalar_slot : (i : ℕ) (x : Slot) → slice_get names.slots i ≡ Some x → x.array_param ≡ false → x.length ≡ None → list_any (is_scalar_at (words_before words_of_slot names.slots i)) f.slots ≡ true
  pub array_slot :
      (i n : ℕ) (x : Slot) → slice_get names.slots i ≡ Some x → x.array_param ≡ false → x.length ≡ Some n → list_any (is_array_at (words_before words_of_slot names.slots i) n) f.slots ≡ true
  pub array_param : (i : ℕ) (x : Slot) → slice_get names.slots i ≡ Some x → x.array_param ≡ true → list_any (is_array_param_at (words_before words_of_slot names.slots i)) f.slots ≡ true
  pub whole_slot : (i : ℕ) (x : Slot) → slice_get names.slots i ≡ Some x → x.array_param ≡ false → list_any (is_whole_at (words_before words_of_slot names.slots i) (words_of_slot x)) f.slots ≡ true
  pub functions : (g : ℕ) (fn : Function) → slice_get names.functions g ≡ Some fn → operands_by (slice_get code.functions g) ≡ param_operands fn.params

module _ (code : Code) (f : FunctionCode) where
  -- a part pushes these operands
  pub record Pushes (asm : Asm) (ks : List Operand) : Type 0 where
    pub by : (s : List Operand) → Leads code f asm s (pushed ks s)

  pub both : {a b : Asm} {ks ls : List Operand} → Pushes a ks → Pushes b ls → Pushes (a ⨾ b) (ks ++ ls)
  both {a = a} {b = b} {ks = ks} {ls = ls} x y = record {
    by = λ s. subst (λ t. Leads code f (a ⨾ b) s t) (sym (pushed_append ks ls s)) (finds.seq code f (x.by s) (y.by (pushed ks s)));
  }

  -- ---- single instructions

  pushes_bits : (bits : ℕ) → Pushes (one (instr.Push bits)) (Value ∷ [])
  pushes_bits bits = record { by = λ s. finds.single code f (instr.Push bits) s (Value ∷ s) refl (λ p next h. h) }

  pub load : (s : List Operand) → Leads code f (one instr.Load) (Place ∷ s) (Value ∷ s)
  load s = finds.single code f instr.Load (Place ∷ s) (Value ∷ s) refl (λ p next h. h)

  pub store : (s : List Operand) → Leads code f (one instr.Store) (Value ∷ Place ∷ s) (Value ∷ s)
  store s = finds.single code f instr.Store (Value ∷ Place ∷ s) (Value ∷ s) refl (λ p next h. h)

  unary : (op : UnaryOp) (of : Ctype) (s : List Operand) → Leads code f (one (instr.Unary op of)) (Value ∷ s) (Value ∷ s)
  unary op of s = finds.single code f (instr.Unary op of) (Value ∷ s) (Value ∷ s) refl (λ p next h. h)

  binary : (op : BinaryOp) (of : Ctype) (s : List Operand) → Leads code f (one (instr.Binary op of)) (Value ∷ Value ∷ s) (Value ∷ s)
  binary op of s = finds.single code f (instr.Binary op of) (Value ∷ Value ∷ s) (Value ∷ s) refl (λ p next h. h)

  pub drop_value : (s : List Operand) → Leads code f (one instr.Drop) (Value ∷ s) s
  drop_value s = finds.single code f instr.Drop (Value ∷ s) s refl (λ p next h. h)

  dup_place : (s : List Operand) → Leads code f (one instr.Dup) (Place ∷ s) (Place ∷ Place ∷ s)
  dup_place s = finds.single code f instr.Dup (Place ∷ s) (Place ∷ Place ∷ s) refl (λ p next h. h)

  -- a value and a place change places
  value_below : (s : List Operand) → Leads code f (one instr.Swap) (Value ∷ Place ∷ s) (Place ∷ Value ∷ s)
  value_below s = finds.single code f instr.Swap (Value ∷ Place ∷ s) (Place ∷ Value ∷ s) refl (λ p next h. h)

  pub place_below : (s : List Operand) → Leads code f (one instr.Swap) (Place ∷ Value ∷ s) (Value ∷ Place ∷ s)
  place_below s = finds.single code f instr.Swap (Place ∷ Value ∷ s) (Value ∷ Place ∷ s) refl (λ p next h. h)

  values_swapped : (s : List Operand) → Leads code f (one instr.Swap) (Value ∷ Value ∷ s) (Value ∷ Value ∷ s)
  values_swapped s = finds.single code f instr.Swap (Value ∷ Value ∷ s) (Value ∷ Value ∷ s) refl (λ p next h. h)

  -- an instruction that takes operands and pushes a value
  taker :
      (i : Instr) (ks : List Operand) (s : List Operand) → names_fit code.variables f.slots i ≡ true
      → ((p : ℕ) (t : List Operand) (next : ℕ → List Operand → Bool) → taking ks t (λ u. next (p + 1) (Value ∷ u)) ≡ true → follows code f i p t next ≡ true)
      → Leads code f (one i) (pushed ks s) (Value ∷ s)
  taker i ks s fit k =
      finds.single code f i (pushed ks s) (Value ∷ s) fit (λ p next h. k p (pushed ks s) next (taking_pushed ks s (λ u. next (p + 1) (Value ∷ u)) ∙ h))

  -- ---- what the sort of an expression says of its code

  pub record ValueStacks (c : ExprCode) : Type 0 where
    pub value : Pushes c.value (Value ∷ [])
    pub argument : Pushes c.argument (Value ∷ [])
    pub width : c.width ≡ 1

  abbrev pub PlaceIf : Bool → ExprCode → Type 0
  PlaceIf true c = Pushes c.place (Place ∷ [])
  PlaceIf false c = Unit {0}

  abbrev pub SortStacks : ℕ → Sort → ExprCode → Type 0
  SortStacks texts (typing.Value of is_place) c = ValueStacks c × PlaceIf is_place c
  SortStacks texts Void c = Pushes c.value (Value ∷ [])
  SortStacks texts (Array of) c = Pushes c.argument (ArrayPlace ∷ ArrayLength ∷ [])
  SortStacks texts (Text text) c = (c.text ≡ Some text) × (nat_lt text texts ≡ true)
  SortStacks texts Wrong c = Unit {0}

  valued_stacks : (asm : Asm) (fits : Bool) → Pushes asm (Value ∷ []) → ValueStacks (code_of.valued asm fits)
  valued_stacks asm fits h = record { value = h; argument = h; width = refl }

  placed_stacks : (place argument : Asm) (fits : Bool) → Pushes place (Place ∷ []) → Pushes argument (Value ∷ []) → ValueStacks (code_of.placed place argument 1 fits)
  placed_stacks place argument fits h g = record {
    value = record { by = λ s. finds.seq code f (h.by s) (load s) };
    argument = g;
    width = refl;
  }

  pub value_facts : (n : ℕ) (s : Sort) (c : ExprCode) → SortStacks n s c → is_value s ≡ true → ValueStacks c
  value_facts n (typing.Value of is_place) c h v = h.0
  value_facts n Void c h v = cc
  value_facts n (Array of) c h v = cc
  value_facts n (Text text) c h v = cc
  value_facts n Wrong c h v = cc

  pub effect_facts : (n : ℕ) (s : Sort) (c : ExprCode) → SortStacks n s c → is_effect s ≡ true → Pushes c.value (Value ∷ [])
  effect_facts n (typing.Value of is_place) c h v = h.0.value
  effect_facts n Void c h v = h
  effect_facts n (Array of) c h v = cc
  effect_facts n (Text text) c h v = cc
  effect_facts n Wrong c h v = cc

  where_true_stacks : (n : ℕ) (b : Bool) (s : Sort) (d : ExprCode) → (b ≡ true → SortStacks n s d) → SortStacks n (where_true b s) d
  where_true_stacks n true s d k = k refl
  where_true_stacks n false s d k = tt

  agreed_stacks : (n : ℕ) (s : Sort) (written : Option Ctype) (c : ExprCode) → SortStacks n s c → SortStacks n (agreed s written) c
  agreed_stacks n (typing.Value of is_place) written c h = where_true_stacks n (is_typed written of) (typing.Value of is_place) c (λ _. h)
  agreed_stacks n (Array of) written c h = where_true_stacks n (is_typed written of) (Array of) c (λ _. h)
  agreed_stacks n Void written c h = where_true_stacks n (is_none written) Void c (λ _. h)
  agreed_stacks n (Text text) written c h = where_true_stacks n (is_none written) (Text text) c (λ _. h)
  agreed_stacks n Wrong written c h = where_true_stacks n (is_none written) Wrong c (λ _. h)

  with_type_stacks : (n : ℕ) (s : Sort) (c d : ExprCode) (go : Ctype → Sort) → SortStacks n s c → ((of : Ctype) → ValueStacks c → SortStacks n (go of) d) → SortStacks n (with_type s go) d
  with_type_stacks n (typing.Value of is_place) c d go h k = k of h.0
  with_type_stacks n Void c d go h k = tt
  with_type_stacks n (Array of) c d go h k = tt
  with_type_stacks n (Text text) c d go h k = tt
  with_type_stacks n Wrong c d go h k = tt

  with_place_stacks :
      (n : ℕ) (s : Sort) (c d : ExprCode) (go : Ctype → Sort) → SortStacks n s c → ((of : Ctype) → Pushes c.place (Place ∷ []) → SortStacks n (go of) d) → SortStacks n (with_place s go) d
  with_place_stacks n (typing.Value of true) c d go h k = k of h.1
  with_place_stacks n (typing.Value of false) c d go h k = tt
  with_place_stacks n Void c d go h k = tt
  with_place_stacks n (Array of) c d go h k = tt
  with_place_stacks n (Text text) c d go h k = tt
  with_place_stacks n Wrong c d go h k = tt

  comma_stacks : (n : ℕ) (s : Sort) (c d : ExprCode) → SortStacks n s c → (Pushes c.value (Value ∷ []) → ValueStacks d) → SortStacks n (comma_of s) d
  comma_stacks n (typing.Value of is_place) c d h k = (k h.0.value, tt)
  comma_stacks n Void c d h k = (k h).value
  comma_stacks n (Array of) c d h k = tt
  comma_stacks n (Text text) c d h k = tt
  comma_stacks n Wrong c d h k = tt

  result_stacks : (n : ℕ) (o : Option Ctype) (d : ExprCode) → ValueStacks d → SortStacks n (result_of o) d
  result_stacks n None d v = v.value
  result_stacks n (Some of) d v = (v, tt)

  const_stacks : (n : ℕ) (o : Option Ctype) (d : ExprCode) → ValueStacks d → SortStacks n (const_of o) d
  const_stacks n None d v = tt
  const_stacks n (Some of) d v = (v, tt)

  -- ---- assignments

  truth : {a : Asm} → Pushes a (Value ∷ []) → Pushes (code_of.as_truth a) (Value ∷ [])
  truth x = record { by = λ s. finds.seq code f (x.by s) (finds.seq code f ((pushes_bits 0).by (Value ∷ s)) (binary Differ Int s)) }

  chosen : {t a b : Asm} → Pushes t (Value ∷ []) → Pushes a (Value ∷ []) → Pushes b (Value ∷ []) → Pushes (choose t a b) (Value ∷ [])
  chosen x y z = record { by = λ s. finds.chosen code f (x.by s) (y.by s) (z.by s) }

  assigned : (op : Option BinaryOp) (target value : TypedCode) → Pushes target.part.place (Place ∷ []) → Pushes value.part.value (Value ∷ []) → Pushes (code_of.assigned op target value) (Value ∷ [])
  assigned None target value x y = record { by = λ s. finds.seq code f (x.by s) (finds.seq code f (y.by (Place ∷ s)) (store s)) }
  assigned (Some op) target value x y = record {
    by = λ s.
        let computed = finds.seq code f (values_swapped (Place ∷ s)) (finds.seq code f (binary _ _ (Place ∷ s)) (store s)) in
        let loaded = finds.seq code f (value_below (Place ∷ s)) (finds.seq code f (load (Value ∷ Place ∷ s)) computed) in
        finds.seq code f (x.by s) (finds.seq code f (dup_place s) (finds.seq code f (y.by (Place ∷ Place ∷ s)) loaded));
  }

  -- one is added to a value whose place is below it
  stepped : (up : Bool) (target : TypedCode) (s : List Operand) → Leads code f (code_of.stepped up target) (Value ∷ Place ∷ s) (Value ∷ s)
  stepped up target s = finds.seq code f ((pushes_bits 1).by (Value ∷ Place ∷ s)) (finds.seq code f (binary _ _ (Place ∷ s)) (store s))

  bumped : (up before : Bool) (target : TypedCode) → Pushes target.part.place (Place ∷ []) → Pushes (code_of.bumped up before target) (Value ∷ [])
  bumped up true target x = record {
    by = λ s. finds.seq code f (x.by s) (finds.seq code f (dup_place s) (finds.seq code f (load (Place ∷ s)) (stepped up target s)));
  }
  bumped up false target x = record {
    by = λ s.
        let new = finds.seq code f (load (Place ∷ Value ∷ s)) (finds.seq code f (stepped up target (Value ∷ s)) (drop_value (Value ∷ s))) in
        let old_below = finds.seq code f (value_below s) (finds.seq code f (dup_place (Value ∷ s)) new) in
        finds.seq code f (x.by s) (finds.seq code f (dup_place s) (finds.seq code f (load (Place ∷ s)) old_below));
  }

  -- ---- arguments

  abbrev pub AllStacks : ℕ → List Sort → List TypedCode → Type 0
  AllStacks n [] [] = Unit {0}
  AllStacks n [] (e ∷ es) = ⊥
  AllStacks n (s ∷ ss) [] = ⊥
  AllStacks n (s ∷ ss) (e ∷ es) = SortStacks n s e.part × AllStacks n ss es

  no_arguments : Pushes nothing []
  no_arguments = record { by = λ s. finds.no_code code f s }

  values_stack : (n : ℕ) (ss : List Sort) (es : List TypedCode) → AllStacks n ss es → all_values ss ≡ true → Pushes (code_of.argument_code es) (values (length ss)) × (width_of es ≡ length ss)
  values_stack n [] [] r h = (no_arguments, refl)
  values_stack n [] (e ∷ es) r h = absurd r
  values_stack n (s ∷ ss) [] r h = absurd r
  values_stack n (s ∷ ss) (e ∷ es) r h =
      let b = both_true (is_value s) (all_values ss) h in
      let first = value_facts n s e.part r.0 b.0 in
      let more = values_stack n ss es r.1 b.1 in
      (both first.argument more.0, omega (arith, first.width, more.1))

  param_stacks :
      (n : ℕ) (s : Sort) (x : Slot) (c : ExprCode) → SortStacks n s c → fits_param s x ≡ true
      → Pushes c.argument (passed x.array_param [])
  param_stacks n (typing.Value of is_place) x c h e = by_kind x.array_param e
    where
      by_kind : (b : Bool) → not b ≡ true → Pushes c.argument (passed b [])
      by_kind true e = cc
      by_kind false e = h.0.argument
  param_stacks n (Array of) x c h e = by_kind x.array_param (both_true x.array_param (same_type of x.of) e).0
    where
      by_kind : (b : Bool) → b ≡ true → Pushes c.argument (passed b [])
      by_kind true e = h
      by_kind false e = cc
  param_stacks n Void x c h e = cc
  param_stacks n (Text text) x c h e = cc
  param_stacks n Wrong x c h e = cc

  params_stack : (n : ℕ) (ss : List Sort) (es : List TypedCode) (xs : List Slot) → AllStacks n ss es → fit_params ss xs ≡ true → Pushes (code_of.argument_code es) (param_operands xs)
  params_stack n [] [] [] r h = no_arguments
  params_stack n [] [] (x ∷ xs) r h = cc
  params_stack n [] (e ∷ es) xs r h = absurd r
  params_stack n (s ∷ ss) [] xs r h = absurd r
  params_stack n (s ∷ ss) (e ∷ es) [] r h = cc
  params_stack n (s ∷ ss) (e ∷ es) (x ∷ xs) r h =
      let b = both_true (fits_param s x) (fit_params ss xs) h in
      subst (λ ks. Pushes (code_of.argument_code (e ∷ es)) ks) (joined x.array_param) (both (param_stacks n s x e.part r.0 b.0) (params_stack n ss es xs r.1 b.1))
    where
      joined :
          (b : Bool)
          → passed b [] ++ param_operands xs ≡ passed b (param_operands xs)
      joined true = refl
      joined false = refl

  -- ---- calls of built-in functions

  -- an instruction after its operands
  after_operands :
      {asm : Asm} {ks : List Operand} (i : Instr) → Pushes asm ks → names_fit code.variables f.slots i ≡ true
      → ((p : ℕ) (t : List Operand) (next : ℕ → List Operand → Bool) → taking ks t (λ u. next (p + 1) (Value ∷ u)) ≡ true → follows code f i p t next ≡ true)
      → Pushes (asm ⨾ one i) (Value ∷ [])
  after_operands {ks = ks} i x fit k = record { by = λ s. finds.seq code f (x.by s) (taker i ks s fit k) }

  -- an instruction that pushes a value
  giver :
      (i : Instr) → names_fit code.variables f.slots i ≡ true
      → ((p : ℕ) (t : List Operand) (next : ℕ → List Operand → Bool) → next (p + 1) (Value ∷ t) ≡ true → follows code f i p t next ≡ true) → Pushes (one i) (Value ∷ [])
  giver i fit k = record { by = λ s. finds.single code f i s (Value ∷ s) fit (λ p next h. k p s next h) }

  one_stacks :
      (n : ℕ) (i : Instr) (ss : List Sort) (es : List TypedCode) → AllStacks n ss es → (all_values ss && length ss == 1) ≡ true → names_fit code.variables f.slots i ≡ true
      → ((p : ℕ) (t : List Operand) (next : ℕ → List Operand → Bool) → taking (Value ∷ []) t (λ u. next (p + 1) (Value ∷ u)) ≡ true → follows code f i p t next ≡ true)
      → Pushes (code_of.argument_code es ⨾ one i) (Value ∷ [])
  one_stacks n i ss es r h fit k =
      let b = both_true (all_values ss) (length ss == 1) h in
      let v = values_stack n ss es r b.0 in
      after_operands i (subst (λ m. Pushes (code_of.argument_code es) (values m)) (eqb-true (length ss) 1 b.1) v.0) fit k

  -- a send of 1 to 8 words
  send_stacks :
      (n : ℕ) (ss : List Sort) (es : List TypedCode) → AllStacks n ss es → (all_values ss && nat_le 3 (length ss) && nat_le (length ss) 10) ≡ true
      → Pushes (code_of.argument_code es ⨾ one (instr.Send (width_of es - 2))) (Value ∷ [])
  send_stacks n ss es r h =
      let b = both_true (all_values ss && nat_le 3 (length ss)) (nat_le (length ss) 10) h in
      let a = both_true (all_values ss) (nat_le 3 (length ss)) b.0 in
      let v = values_stack n ss es r a.0 in
      let least = leb-true 3 (length ss) a.1 in
      let most = leb-true (length ss) 10 b.1 in
      let words = width_of es - 2 in
      let all : length ss ≡ words + 2 = omega (arith, v.1, least) in
      let some : nat_le 1 words ≡ true = le-leb 1 words (omega (arith, v.1, least)) in
      let few : nat_le words 8 ≡ true = le-leb words 8 (omega (arith, v.1, most)) in
      after_operands (instr.Send words) (subst (λ m. Pushes (code_of.argument_code es) (values m)) all v.0) refl (λ p t next k. and_true _ _ (and_true _ _ some few) k)

  count_facts : (o : Option ℕ) (n : ℕ) → is_count o n ≡ true → unwrap_or o 0 ≡ n
  count_facts None n h = cc
  count_facts (Some m) n h = eqb-true m n h

  format_stacks :
      (n : ℕ) (o : Option (List ℕ)) (ss : List Sort) (es : List TypedCode) → AllStacks n ss es → fits_format o ss ≡ true
      → Pushes (code_of.argument_code es) (values (conversions (unwrap_or o [])))
  format_stacks n None ss es r h = cc
  format_stacks n (Some text) ss es r h =
      let b = both_true (all_values ss) (is_count (conversions_from false text) (length ss)) h in
      let v = values_stack n ss es r b.0 in
      subst (λ m. Pushes (code_of.argument_code es) (values m)) (sym (count_facts (conversions_from false text) (length ss) b.1)) v.0

  printf_stacks :
      (texts : List (List ℕ)) → code.texts ≡ texts → (ss : List Sort) (es : List TypedCode) → AllStacks (length texts) ss es → fits_printf texts ss ≡ true
      → Pushes (code_of.argument_code (code_of.after_text es) ⨾ one (instr.Print (unwrap_or (code_of.text_of es) 0))) (Value ∷ [])
  printf_stacks texts is [] es r h = cc
  printf_stacks texts is (s ∷ ss) [] r h = absurd r
  printf_stacks texts is (Text text ∷ ss) (e ∷ es) r h =
      let ready = format_stacks (length texts) (slice_get texts text) ss es r.1 h in
      let there = subst (λ (l : List (List ℕ)). Pushes (code_of.argument_code es) (values (conversions (unwrap_or (slice_get l text) [])))) (sym is) ready in
      let known = subst (λ (l : List (List ℕ)). nat_lt text (length l) ≡ true) (sym is) r.0.1 in
      subst (λ o. Pushes (code_of.argument_code es ⨾ one (instr.Print (unwrap_or o 0))) (Value ∷ [])) (sym r.0.0) (after_operands (instr.Print text) there refl (λ p t next k. and_true _ _ known k))
  printf_stacks texts is (typing.Value of is_place ∷ ss) (e ∷ es) r h = cc
  printf_stacks texts is (Void ∷ ss) (e ∷ es) r h = cc
  printf_stacks texts is (Array of ∷ ss) (e ∷ es) r h = cc
  printf_stacks texts is (Wrong ∷ ss) (e ∷ es) r h = cc

module _ (code : Code) (f : FunctionCode) (names : Declarations) (knows : Knows code f names) where
  abbrev sh : Shape
  sh = record { globals = names.globals; functions = names.functions; texts = names.texts; slots = names.slots }

  abbrev known_texts : ℕ
  known_texts = length names.texts

  abbrev Stacks : Sort → ExprCode → Type 0
  Stacks s c = SortStacks code f known_texts s c

  -- ---- calls

  own_stacks :
      (g : ℕ) (fits : Bool) (o : Option Function) → slice_get names.functions g ≡ o → (ss : List Sort) (es : List TypedCode) → AllStacks code f known_texts ss es
      → Stacks (call_of_function o ss) (code_of.valued (code_of.argument_code es ⨾ one (instr.Call g)) fits)
  own_stacks g fits None e ss es r = tt
  own_stacks g fits (Some fn) e ss es r =
      where_true_stacks code f known_texts (fit_params ss fn.params) (result_of fn.result) _ (λ h.
      let ready = params_stack code f known_texts ss es fn.params r h in
      let named = sym (knows.functions g fn e) in
      let taken = subst (λ ks. Pushes code f (code_of.argument_code es) ks) named ready in
      result_stacks code f known_texts fn.result _ (valued_stacks code f _ fits (after_operands code f (instr.Call g) taken refl (λ p t next k. k))))

  built_stacks :
      (b : BuiltIn) (ss : List Sort) (es : List TypedCode) → AllStacks code f known_texts ss es → fits_built_in names.texts b ss ≡ true
      → Pushes code f (code_of.built_in sh b es).0 (Value ∷ [])
  built_stacks built.SelfNo ss es r h = giver code f instr.SelfNo refl (λ p t next k. k)
  built_stacks built.Nprocs ss es r h = giver code f instr.Count refl (λ p t next k. k)
  built_stacks built.Send ss es r h = send_stacks code f known_texts ss es r h
  built_stacks built.Receive ss es r h = one_stacks code f known_texts instr.Receive ss es r h refl (λ p t next k. k)
  built_stacks built.Word ss es r h = one_stacks code f known_texts instr.Word ss es r h refl (λ p t next k. k)
  built_stacks built.Words ss es r h = giver code f instr.Words refl (λ p t next k. k)
  built_stacks built.From ss es r h = giver code f instr.From refl (λ p t next k. k)
  built_stacks built.Via ss es r h = giver code f instr.Via refl (λ p t next k. k)
  built_stacks built.Printf ss es r h = printf_stacks code f names.texts knows.texts ss es r (both_true (nat_le (length ss) 31) (fits_printf names.texts ss) h).1

  call_stacks :
      (what : Callee) (ss : List Sort) (es : List TypedCode) → AllStacks code f known_texts ss es
      → Stacks (sort_of_call names what ss) (code_of.valued (code_of.called sh what es).0 (code_of.called sh what es).1)
  call_stacks (Own g) ss es r = own_stacks g _ (slice_get names.functions g) refl ss es r
  call_stacks (Built b) ss es r =
      where_true_stacks code f known_texts (fits_built_in names.texts b ss) (typing.Value Int false) _ (λ h. (valued_stacks code f _ _ (built_stacks b ss es r h), tt))

  -- ---- names

  abbrev global_base : ℕ → ℕ
  global_base i = words_before words_of_global names.globals i

  abbrev slot_base : ℕ → ℕ
  slot_base i = words_before words_of_slot names.slots i

  scalar_stacks : (i : Instr) (of : Ctype) → Pushes code f (one i) (Place ∷ []) → Stacks (typing.Value of true) (code_of.placed (one i) (one i ⨾ one instr.Load) 1 true)
  scalar_stacks i of x = (placed_stacks code f (one i) (one i ⨾ one instr.Load) true x (record { by = λ s. finds.seq code f (x.by s) (load code f s) }), x)

  place_pushed :
      (i : Instr) → names_fit code.variables f.slots i ≡ true
      → ((p : ℕ) (t : List Operand) (next : ℕ → List Operand → Bool) → next (p + 1) (Place ∷ t) ≡ true → follows code f i p t next ≡ true) → Pushes code f (one i) (Place ∷ [])
  place_pushed i fit k = record { by = λ s. finds.single code f i s (Place ∷ s) fit (λ p next h. k p s next h) }

  array_pushed :
      (i : Instr) → names_fit code.variables f.slots i ≡ true
      → ((p : ℕ) (t : List Operand) (next : ℕ → List Operand → Bool) → next (p + 1) (ArrayLength ∷ ArrayPlace ∷ t) ≡ true → follows code f i p t next ≡ true)
      → Pushes code f (one i) (ArrayPlace ∷ ArrayLength ∷ [])
  array_pushed i fit k = record { by = λ s. finds.single code f i s (ArrayLength ∷ ArrayPlace ∷ s) fit (λ p next h. k p s next h) }

  abbrev global_sized : ℕ → Option ℕ → Asm × ℕ
  global_sized i n = code_of.sized sh (instr.GlobalPlace (global_base i)) (λ n. instr.GlobalArray (global_base i) n) n

  abbrev changed : Slot → Bool → Option ℕ → Slot
  changed x b n = record x { array_param = b; length = n }

  global_stacks :
      (i : ℕ) (o : Option Global) → slice_get names.globals i ≡ o
      → Stacks (sort_of_global o) (code_of.placed (one (instr.GlobalPlace (global_base i))) (code_of.global_argument sh (global_base i) o).0 (code_of.global_argument sh (global_base i) o).1 true)
  global_stacks i None e = tt
  global_stacks i (Some g) e = by_length g.length refl
    where
      by_length : (n : Option ℕ) → g.length ≡ n → Stacks (typing.named g.of (not (is_none n))) (code_of.placed (one (instr.GlobalPlace (global_base i))) (global_sized i n).0 (global_sized i n).1 true)
      by_length None h = scalar_stacks (instr.GlobalPlace (global_base i)) g.of (place_pushed _ (knows.scalar_global i g e h) (λ p t next k. k))
      by_length (Some n) h = array_pushed (instr.GlobalArray (global_base i) n) (knows.array_global i n g e h) (λ p t next k. k)

  -- the code of a slot's name
  abbrev slot_code : ℕ → Option Slot → ExprCode
  slot_code i o = code_of.placed (one (instr.LocalPlace (slot_base i))) (code_of.slot_argument sh (slot_base i) o).0 (code_of.slot_argument sh (slot_base i) o).1 true

  slot_stacks :
      (i : ℕ) (o : Option Slot) → slice_get names.slots i ≡ o
      → Stacks (sort_of_slot o) (code_of.placed (one (instr.LocalPlace (slot_base i))) (code_of.slot_argument sh (slot_base i) o).0 (code_of.slot_argument sh (slot_base i) o).1 true)
  slot_stacks i None e = tt
  slot_stacks i (Some x) e = by_kind x.array_param x.length refl refl
    where
      by_kind :
          (b : Bool) (n : Option ℕ) → x.array_param ≡ b → x.length ≡ n
          → Stacks (sort_of_slot (Some (changed x b n))) (slot_code i (Some (changed x b n)))
      by_kind true n h g = array_pushed (instr.ParamArray (slot_base i)) (knows.array_param i x e h) (λ p t next k. k)
      by_kind false None h g = scalar_stacks (instr.LocalPlace (slot_base i)) x.of (place_pushed _ (knows.scalar_slot i x e h g) (λ p t next k. k))
      by_kind false (Some n) h g = array_pushed (instr.LocalArray (slot_base i) n) (knows.array_slot i n x e h g) (λ p t next k. k)

  name_stacks : (what : Target) → Stacks (sort_of_target names what) (code_of.placed (one (code_of.place_instr sh what)) (code_of.name_argument sh what).0 (code_of.name_argument sh what).1 true)
  name_stacks (AGlobal i) = global_stacks i (slice_get names.globals i) refl
  name_stacks (ASlot i) = slot_stacks i (slice_get names.slots i) refl

  -- ---- elements

  element :
      (index : TypedCode) (i : Instr) (of : Ctype) → ValueStacks code f index.part → names_fit code.variables f.slots i ≡ true
      → ((p : ℕ) (t : List Operand) (next : ℕ → List Operand → Bool) → taking (Value ∷ []) t (λ u. next (p + 1) (Place ∷ u)) ≡ true → follows code f i p t next ≡ true)
      → Stacks (typing.Value of true) (code_of.placed (index.part.value ⨾ one i) ((index.part.value ⨾ one i) ⨾ one instr.Load) 1 index.part.fits)
  element index i of x fit k =
      let last = λ (s : List Operand). finds.single code f i (Value ∷ s) (Place ∷ s) fit (λ p next h. k p (Value ∷ s) next h) in
      let place : Pushes code f (index.part.value ⨾ one i) (Place ∷ []) = record { by = λ s. finds.seq code f (x.value.by s) (last s) } in
      (placed_stacks code f (index.part.value ⨾ one i) ((index.part.value ⨾ one i) ⨾ one instr.Load) index.part.fits place (record { by = λ s. finds.seq code f (place.by s) (load code f s) }), place)

  abbrev At : TypedCode → Instr → ExprCode
  At index i = code_of.placed (index.part.value ⨾ one i) ((index.part.value ⨾ one i) ⨾ one instr.Load) 1 index.part.fits

  global_element :
      (index : TypedCode) → ValueStacks code f index.part → (i : ℕ) (o : Option Global) → slice_get names.globals i ≡ o
      → Stacks (element_of (sort_of_global o)) (At index (code_of.at_global sh (global_base i) o))
  global_element index x i None e = tt
  global_element index x i (Some g) e = by_length g.length refl
    where
      by_length : (n : Option ℕ) → g.length ≡ n → Stacks (element_of (typing.named g.of (not (is_none n)))) (At index (instr.GlobalAt (global_base i) (unwrap_or n 0)))
      by_length None h = tt
      by_length (Some n) h = element index (instr.GlobalAt (global_base i) n) g.of x (knows.array_global i n g e h) (λ p t next k. k)

  slot_element :
      (index : TypedCode) → ValueStacks code f index.part → (i : ℕ) (o : Option Slot) → slice_get names.slots i ≡ o
      → Stacks (element_of (sort_of_slot o)) (At index (code_of.at_slot sh (slot_base i) o))
  slot_element index x i None e = tt
  slot_element index x i (Some y) e = by_kind y.array_param y.length refl refl
    where
      by_kind :
          (b : Bool) (n : Option ℕ) → y.array_param ≡ b → y.length ≡ n
          → Stacks (element_of (sort_of_slot (Some (changed y b n)))) (At index (code_of.at_slot sh (slot_base i) (Some (changed y b n))))
      by_kind true n h g = element index (instr.ParamAt (slot_base i)) y.of x (knows.array_param i y e h) (λ p t next k. k)
      by_kind false None h g = tt
      by_kind false (Some n) h g = element index (instr.LocalAt (slot_base i) n) y.of x (knows.array_slot i n y e h g) (λ p t next k. k)

  element_stacks : (index : TypedCode) → ValueStacks code f index.part → (what : Target) → Stacks (element_of (sort_of_target names what)) (At index (code_of.at_instr sh what))
  element_stacks index x (AGlobal i) = global_element index x i (slice_get names.globals i) refl
  element_stacks index x (ASlot i) = slot_element index x i (slice_get names.slots i) refl

  -- ---- the induction

  abbrev KindStacks : PKind → Type 0
  KindStacks k = (written : Option Ctype) → Stacks (kind_sort names k written) (kind_code sh k)

  abbrev Child : Type 0
  Child = (e : PExpr) × KindStacks e.kind

  child_stacks : (e : Child) → Stacks (sort_of names e.0) (typed_code sh e.0).part
  child_stacks e = agreed_stacks code f known_texts (kind_sort names e.0.kind e.0.of) e.0.of (kind_code sh e.0.kind) (e.1 e.0.of)

  all_stacks : (es : List Child) → AllStacks code f known_texts (map (sort_of names) (map (λ e. e.0) es)) (map (typed_code sh) (map (λ e. e.0) es))
  all_stacks [] = tt
  all_stacks (e ∷ es) = (child_stacks e, all_stacks es)

  abbrev Layer : Type 0
  Layer = PKind-F ((k : PKind) × KindStacks k) Child

  value_of : (e : Child) → is_value (sort_of names e.0) ≡ true → ValueStacks code f (typed_code sh e.0).part
  value_of e h = value_facts code f known_texts (sort_of names e.0) (typed_code sh e.0).part (child_stacks e) h

  valued : (of : Ctype) (asm : Asm) (fits : Bool) → Pushes code f asm (Value ∷ []) → Stacks (typing.Value of false) (code_of.valued asm fits)
  valued of asm fits x = (valued_stacks code f asm fits x, tt)

  abbrev whole : Layer → PKind-F PKind PExpr
  whole y = map-PKind ((k : PKind) × KindStacks k) Child PKind PExpr (λ k. k.0) (λ e. e.0) y

  -- the sort of a kind, and its code, by those of its parts
  abbrev sort_at : PKind-F PKind PExpr → Option Ctype → Sort
  sort_at x written = sort_step names (map-PKind PKind PExpr (Option Ctype → Sort) Sort (kind_sort names) (sort_of names) x) written

  abbrev code_at : PKind-F PKind PExpr → ExprCode
  code_at x = code_of.kind_step sh (map-PKind PKind PExpr ExprCode TypedCode (kind_code sh) (typed_code sh) x)

  step_stacks : (y : Layer) (written : Option Ctype) → Stacks (sort_at (whole y) written) (code_at (whole y))
  step_stacks (PKind-F.Const bits) written = const_stacks code f known_texts written _ (valued_stacks code f _ true (pushes_bits code f bits))
  step_stacks (PKind-F.Text text) written = where_true_stacks code f known_texts _ (Text text) _ (λ h. (refl, h))
  step_stacks (PKind-F.Name what) written = name_stacks what
  step_stacks (PKind-F.At what index) written = where_true_stacks code f known_texts _ (element_of (sort_of_target names what)) _ (λ h. element_stacks (typed_code sh index.0) (value_of index h) what)
  step_stacks (PKind-F.Call what args) written = call_stacks what _ _ (all_stacks args)
  step_stacks (PKind-F.Unary op part) written =
      with_type_stacks code f known_texts _ _ _ _ (child_stacks part) (λ of v. valued Int _ _ (record { by = λ s. finds.seq code f (v.value.by s) (unary code f op _ s) }))
  step_stacks (PKind-F.Bump up before part) written = with_place_stacks code f known_texts _ _ _ _ (child_stacks part) (λ of x. valued of _ _ (bumped code f up before (typed_code sh part.0) x))
  step_stacks (PKind-F.Binary op left right) written =
      with_type_stacks code f known_texts _ _ _ _ (child_stacks left) (λ a v.
      with_type_stacks code f known_texts _ _ _ _ (child_stacks right) (λ b w.
      valued Int _ _ (record { by = λ s. finds.seq code f (v.value.by s) (finds.seq code f (w.value.by (Value ∷ s)) (binary code f op _ s)) })))
  step_stacks (PKind-F.And left right) written =
      where_true_stacks code f known_texts _ (typing.Value Int false) _ (λ h.
      let b = both_true _ _ h in
      valued Int _ _ (chosen code f (value_of left b.0).value (truth code f (value_of right b.1).value) (pushes_bits code f 0)))
  step_stacks (PKind-F.Or left right) written =
      where_true_stacks code f known_texts _ (typing.Value Int false) _ (λ h.
      let b = both_true _ _ h in
      valued Int _ _ (chosen code f (value_of left b.0).value (pushes_bits code f 1) (truth code f (value_of right b.1).value)))
  step_stacks (PKind-F.Choose test first second) written =
      where_true_stacks code f known_texts _ _ _ (λ h.
      with_type_stacks code f known_texts _ _ _ _ (child_stacks first) (λ a v.
      with_type_stacks code f known_texts _ _ _ _ (child_stacks second) (λ b w. valued Int _ _ (chosen code f (value_of test h).value v.value w.value))))
  step_stacks (PKind-F.Comma left right) written =
      where_true_stacks code f known_texts _ _ _ (λ h.
      let x = effect_facts code f known_texts _ _ (child_stacks left) h in
      comma_stacks code f known_texts _ _ _ (child_stacks right) (λ y. valued_stacks code f _ _ (record { by = λ s. finds.seq code f (x.by s) (finds.seq code f (drop_value code f s) (y.by s)) })))
  step_stacks (PKind-F.Assign op target value) written =
      with_place_stacks code f known_texts _ _ _ _ (child_stacks target) (λ of x.
      where_true_stacks code f known_texts _ (typing.Value of false) _ (λ h.
      valued of _ _ (assigned code f op (typed_code sh target.0) (typed_code sh value.0) x (value_of value h).value)))

  rolled : (y : Layer) → KindStacks (roll-PKind (whole y))
  rolled y written =
      let x = whole y in
      let coded = subst (λ c. Stacks (sort_at x written) c) (sym (code_roll sh x)) (step_stacks y written) in
      subst (λ s. Stacks (s written) (kind_code sh (roll-PKind x))) (sym (sort_roll names x)) coded

  kind_stacks : (k : PKind) → KindStacks k
  kind_stacks =
      ind-PKind KindStacks (λ e. KindStacks e.kind) (λ x y is. subst (λ z. KindStacks (roll-PKind z)) is (rolled y)) (λ x y is.
      subst (λ (z : PExpr-F PKind PExpr). KindStacks z.kind) is y.kind.1)

  pub expr_stacks : (e : PExpr) → Stacks (sort_of names e) (expr_code sh e)
  expr_stacks e = child_stacks (e, kind_stacks e.kind)
