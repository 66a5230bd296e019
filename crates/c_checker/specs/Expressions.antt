-- What expressions stand for, and the rules that they break.
use Rattle.std.specs.Prelude.{ℕ, Bool, true, false, ◌&&◌, ◌==◌, nat_le, if◌then◌else◌, List, [], ◌∷◌, ◌++◌, length, Option, Some, None, unwrap_or}
use Rattle.nm_base.specs.declared.operator.Ctype.{Ctype}
use Rattle.nm_base.specs.declared.operator.Ctype.TheVariants.{Int}
use Rattle.nm_base.specs.declared.operator.UnaryOp.{UnaryOp}
use Rattle.nm_base.specs.declared.operator.BinaryOp.{BinaryOp}
use Rattle.nm_base.specs.Word.{common_type}
use Rattle.c_tree.specs.Typing.{unary_type, binary_type, same_type, conversions_from}
use Rattle.c_tree.specs.declared.program.Slot.{Slot}
use Rattle.c_tree.specs.declared.program.Target.{Target}
use Rattle.c_tree.specs.declared.program.Target.TheVariants.{Global as AGlobal}
use Rattle.c_tree.specs.declared.program.Callee.{Callee}
use Rattle.c_tree.specs.declared.program.Callee.TheVariants.{Function as Own, BuiltIn as Built}
use Rattle.c_tree.specs.declared.program.BuiltIn.{BuiltIn}
use Rattle.c_tree.specs.declared.program.BuiltIn.TheVariants.{Send, Receive, Word, Printf}
use Rattle.c_tree.specs.declared.program.PExpr.{PExpr}
use Rattle.c_tree.specs.declared.program.PKind.{PKind}
use Rattle.c_tree.specs.declared.program.PKind.TheVariants as k
use Rattle.c_tree.specs.declared.tree.Expr.{Expr}
use Rattle.c_tree.specs.declared.tree.Expr.TheOpen.{Expr-F}
use Rattle.c_tree.specs.declared.tree.Expr.TheBlock.{laid-Expr}
use Rattle.c_tree.specs.declared.tree.Expr.TheFolds.{family, steps}
use Rattle.c_checker.specs.declared.fault.CheckFault.{CheckFault}
use Rattle.c_checker.specs.declared.fault.CheckFault.TheVariants.{Undeclared, Mismatch, NotFunction, Arity, NotArray, NotScalar, VoidValue, NotAssignable, Format, TooMany}
use Rattle.c_checker.specs.declared.entries.Thing.{Thing}
use Rattle.c_checker.specs.declared.entries.Thing.TheVariants.{Scalar, Array, Function as AFunction, BuiltIn as ABuiltIn, Unknown}
use Rattle.c_checker.specs.Scope.{ScopeNames}
use Rattle.c_checker.specs.Found.{Check, ◌>>=◌, ◌>>◌, pure, broken, unless, note}

-- the state is the list of the texts so far
abbrev pub Reads : Type 0 → Type 0
Reads A = Check (List (List ℕ)) A

abbrev pub both : {A B : Type 0} → Reads A → Reads B → Reads (A × B)
both m n = do
  x ← m
  y ← n
  pure (x, y)

abbrev pub three : {A B C : Type 0} → Reads A → Reads B → Reads C → Reads (A × B × C)
three l m n = do
  x ← l
  y ← m
  z ← n
  pure (x, y, z)

-- what an expression is checked for
pub record ExprCheck : Type 0 where
  pub line : ℕ
  -- its value, where the flag says that it is used
  pub value : Bool → Reads PExpr
  -- a place to store in, by the line of the whole target
  pub place : ℕ → Reads PExpr
  -- an argument for an array with elements of this type
  pub array : Ctype → Reads PExpr
  -- an argument for which there is no parameter: a value or an array's name
  pub loose : Reads PExpr
  pub text : Option (List ℕ)

-- ---- programs' expressions

abbrev pub typed : PKind → Ctype → ℕ → PExpr
typed kind of line = record { kind = kind; of = Some of; line = line }

abbrev pub type_of : PExpr → Ctype
type_of e = unwrap_or e.of Int

abbrev pub unary_of : UnaryOp → PExpr → ℕ → PExpr
unary_of op x line = typed (k.Unary op x) (unary_type op (type_of x)) line

abbrev pub binary_of : BinaryOp → PExpr → PExpr → ℕ → PExpr
binary_of op x y line = typed (k.Binary op x y) (binary_type op (type_of x) (type_of y)) line

abbrev pub choose_of : PExpr → PExpr → PExpr → ℕ → PExpr
choose_of test x y line = typed (k.Choose test x y) (common_type (type_of x) (type_of y)) line

abbrev pub and_of : PExpr → PExpr → ℕ → PExpr
and_of x y line = typed (k.And x y) Int line

abbrev pub or_of : PExpr → PExpr → ℕ → PExpr
or_of x y line = typed (k.Or x y) Int line

abbrev pub comma_of : PExpr → PExpr → ℕ → PExpr
comma_of x y line = record { kind = k.Comma x y; of = y.of; line = line }

abbrev pub bump_of : Bool → Bool → PExpr → ℕ → PExpr
bump_of up before x line = record { kind = k.Bump up before x; of = x.of; line = line }

abbrev pub assign_of : Option BinaryOp → PExpr → PExpr → ℕ → PExpr
assign_of op x y line = record { kind = k.Assign op x y; of = x.of; line = line }

-- stands for what breaks a rule
abbrev pub nothing : ℕ → PExpr
nothing line = typed (k.Const 0) Int line

-- ---- names

-- as a value
abbrev pub named_value : Thing → ℕ → Reads PExpr
named_value (Scalar what of) line = pure (typed (k.Name what) of line)
named_value Unknown line = broken (Undeclared line) (nothing line)
named_value other line = broken (NotScalar line) (nothing line)

-- as the target of an assignment, by the line of the whole target
abbrev pub named_place : Thing → ℕ → ℕ → Reads PExpr
named_place (Scalar what of) line target = pure (typed (k.Name what) of line)
named_place Unknown line target = note (Undeclared line ∷ NotAssignable target ∷ []) >> pure (nothing line)
named_place other line target = broken (NotAssignable target) (nothing line)

-- as an argument for an array with elements of a type
abbrev pub named_array : Thing → ℕ → Ctype → Reads PExpr
named_array (Array what of) line wanted =
    if same_type of wanted then pure (typed (k.Name what) of line) else broken (Mismatch line) (nothing line)
named_array Unknown line wanted = note (Undeclared line ∷ NotArray line ∷ []) >> pure (nothing line)
named_array other line wanted = broken (NotArray line) (nothing line)

-- as an argument for which there is no parameter
abbrev pub named_loose : Thing → ℕ → Reads PExpr
named_loose (Array what of) line = pure (nothing line)
named_loose other line = named_value other line

-- with a subscript: the array and the type of its elements
abbrev pub subscripted : Thing → ℕ → Reads (Target × Ctype)
subscripted (Array what of) line = pure (what, of)
subscripted Unknown line = note (Undeclared line ∷ NotArray line ∷ []) >> pure (AGlobal 0, Int)
subscripted other line = broken (NotArray line) (AGlobal 0, Int)

abbrev pub element : Thing → ℕ → ExprCheck → Reads PExpr
element thing line index = do
  a ← subscripted thing line
  i ← index.value true
  pure (typed (k.At a.0 i) a.1 line)

abbrev pub is_array : Thing → Bool
is_array (Array what of) = true
is_array other = false

-- as a target
abbrev pub element_place : Thing → ℕ → ExprCheck → ℕ → Reads PExpr
element_place thing line index target = do
  e ← element thing line index
  note (unless (is_array thing) (NotAssignable target))
  pure e

-- ---- calls

-- the argument for a parameter
abbrev pub argument : ExprCheck → Slot → Reads PExpr
argument a x = if x.array_param then a.array x.of else a.value true

-- the arguments for these parameters, after those before them
abbrev pub arguments : List Slot → List PExpr → List ExprCheck → Reads (List PExpr)
arguments params before [] = pure before
arguments [] before (a ∷ more) = a.loose >>= (λ e. arguments [] (before ++ e ∷ []) more)
arguments (x ∷ xs) before (a ∷ more) = argument a x >>= (λ e. arguments xs (before ++ e ∷ []) more)

-- the same of a built-in function, whose arguments are values
abbrev pub values : List PExpr → List ExprCheck → Reads (List PExpr)
values before [] = pure before
values before (a ∷ more) = a.value true >>= (λ e. values (before ++ e ∷ []) more)

-- a call without a result is no value
abbrev pub returned : Bool → Option Ctype → ℕ → PExpr → Reads PExpr
returned true None line e = broken (VoidValue line) e
returned used of line e = pure e

abbrev pub call_of : Callee → List PExpr → Option Ctype → ℕ → PExpr
call_of callee args of line = record { kind = k.Call callee args; of = of; line = line }

abbrev pub call_function : ℕ → Option Ctype → List Slot → List ExprCheck → ℕ → Bool → Reads PExpr
call_function f result params args line used = do
  note (unless (length args == length params) (Arity line))
  xs ← arguments params [] args
  returned used result line (call_of (Own f) xs result line)

abbrev pub takes : BuiltIn → ℕ → Bool
takes Send n = nat_le 3 n && nat_le n 10
takes Receive n = n == 1
takes Word n = n == 1
takes other n = n == 0

-- adds a text, and gives its number
abbrev pub add_text : List ℕ → Reads ℕ
add_text text = λ texts. record { value = length texts; state = texts ++ text ∷ []; faults = [] }

-- a text's conversions, for so many arguments, by the lines of the text and of the call
abbrev pub conversion_faults : Option ℕ → ℕ → ℕ → ℕ → List CheckFault
conversion_faults None n text line = Format text ∷ []
conversion_faults (Some m) n text line = unless (m == n) (Format line)

-- No text that is spelled has more than 509 bytes.
abbrev pub format_faults : List ℕ → ℕ → ℕ → ℕ → List CheckFault
format_faults text n at line =
    unless (nat_le (length text) 509) (TooMany line) ++ conversion_faults (conversions_from false text) n at line

abbrev pub text_argument : ℕ → ℕ → PExpr
text_argument text line = record { kind = k.Text text; of = None; line = line }

abbrev pub print_text : List ℕ → ℕ → List ExprCheck → ℕ → Reads PExpr
print_text text at more line = do
  note (format_faults text (length more) at line)
  t ← add_text text
  xs ← values (text_argument t at ∷ []) more
  pure (call_of (Built Printf) xs (Some Int) line)

-- a call of printf without a text
abbrev pub print_nothing : List ExprCheck → ℕ → Reads PExpr
print_nothing args line = broken (Format line) (nothing line) >> values [] args >> pure (nothing line)

-- a call of printf, by its first argument and the others
abbrev pub print : ExprCheck → List ExprCheck → ℕ → Reads PExpr
print first more line = elim first.text [
  | None ↦ print_nothing (first ∷ more) line
  | Some text ↦ print_text text first.line more line
]

abbrev pub call_printf : List ExprCheck → ℕ → Reads PExpr
call_printf [] line = print_nothing [] line
call_printf (a ∷ more) line = print a more line

abbrev pub call_simple : BuiltIn → List ExprCheck → ℕ → Reads PExpr
call_simple b args line = do
  note (unless (takes b (length args)) (Arity line))
  xs ← values [] args
  pure (call_of (Built b) xs (Some Int) line)

abbrev pub call_built_in : BuiltIn → List ExprCheck → ℕ → Reads PExpr
call_built_in Printf args line = call_printf args line
call_built_in b args line = call_simple b args line

-- a call of what is no function
abbrev pub call_nothing : CheckFault → List ExprCheck → ℕ → Reads PExpr
call_nothing f args line = broken f (nothing line) >> arguments [] [] args >> pure (nothing line)

abbrev pub call_thing : ScopeNames → Thing → List ExprCheck → ℕ → Bool → Reads PExpr
call_thing names (AFunction f result) args line used = call_function f result (names.params f) args line used
call_thing names (ABuiltIn b) args line used = call_built_in b args line
call_thing names Unknown args line used = call_nothing (Undeclared line) args line
call_thing names other args line used = call_nothing (NotFunction line) args line

abbrev pub call : ScopeNames → Thing → List ExprCheck → ℕ → Bool → Reads PExpr
call names thing args line used =
    note (unless (nat_le (length args) 31) (TooMany line)) >> call_thing names thing args line used

-- ---- expressions

abbrev pub target : ExprCheck → Reads PExpr
target e = e.place e.line

-- the target of an assignment and its value
abbrev pub stored : ExprCheck → ExprCheck → Reads (PExpr × PExpr)
stored place value = both (target place) (value.value true)

-- one that is neither a place nor an array
abbrev pub valued : ℕ → (Bool → Reads PExpr) → ExprCheck
valued line value = record {
  line = line;
  value = value;
  place = λ target. broken (NotAssignable target) (nothing line) >> value true;
  array = λ of. broken (NotArray line) (nothing line) >> value true;
  loose = value true;
  text = None;
}

module _ (names : ScopeNames) where
  abbrev pub part_step : Expr-F ExprCheck → ExprCheck
  part_step (Expr-F.Const bits of line) = valued line (λ used. pure (typed (k.Const bits) of line))
  part_step (Expr-F.Text bytes line) =
      record (valued line (λ used. broken (Format line) (nothing line))) { text = Some bytes }
  part_step (Expr-F.Name name line) = record {
    line = line;
    value = λ used. named_value (names.find name) line;
    place = named_place (names.find name) line;
    array = named_array (names.find name) line;
    loose = named_loose (names.find name) line;
    text = None;
  }
  part_step (Expr-F.At name index line) =
      record (valued line (λ used. element (names.find name) line index)) {
        place = element_place (names.find name) line index;
      }
  part_step (Expr-F.Call name args line) = valued line (call names (names.find name) args line)
  part_step (Expr-F.Paren part line) = record (valued line part.value) { place = part.place }
  part_step (Expr-F.Unary op part line) = valued line (λ used. do
    x ← part.value true
    pure (unary_of op x line))
  part_step (Expr-F.Bump up before part line) = valued line (λ used. do
    x ← target part
    pure (bump_of up before x line))
  part_step (Expr-F.Binary op left right line) = valued line (λ used. do
    p ← both (left.value true) (right.value true)
    pure (binary_of op p.0 p.1 line))
  part_step (Expr-F.And left right line) = valued line (λ used. do
    p ← both (left.value true) (right.value true)
    pure (and_of p.0 p.1 line))
  part_step (Expr-F.Or left right line) = valued line (λ used. do
    p ← both (left.value true) (right.value true)
    pure (or_of p.0 p.1 line))
  part_step (Expr-F.Choose test first second line) = valued line (λ used. do
    p ← three (test.value true) (first.value true) (second.value true)
    pure (choose_of p.0 p.1 p.2 line))
  part_step (Expr-F.Comma left right line) = valued line (λ used. do
    p ← both (left.value false) (right.value used)
    pure (comma_of p.0 p.1 line))
  part_step (Expr-F.Assign op place value line) = valued line (λ used. do
    p ← stored place value
    pure (assign_of op p.0 p.1 line))

  unfoldable pub part_of : Expr → ExprCheck
  part_of e = laid-Expr (family ExprCheck) (steps ExprCheck part_step) e

-- the line of an expression's first token
abbrev pub first_line : Expr → ℕ
first_line e = (part_of (record { find = λ name. Unknown; params = λ f. [] }) e).line
