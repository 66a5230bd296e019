-- Code that a machine runs with no tests of its own.
use Rattle.std.specs.Prelude.{◌≡◌, ℕ, zero, suc, ◌+◌, Bool, true, false, not, ◌&&◌, ◌==◌, nat_lt, nat_le, is_none, List, [], ◌∷◌, length, drop, replicate, Option, Some, None, slice_get, IsTrue}
use Rattle.std.specs.List.{list_all, list_any}
use Rattle.nm_base.specs.declared.limits.TheConstants.{MAX_DATA_WORDS}
use Rattle.c_tree.specs.Storage.{words_taken}
use Rattle.stack_code.specs.declared.instr.Instr.{Instr}
use Rattle.stack_code.specs.declared.instr.Instr.TheVariants as instr
use Rattle.stack_code.specs.declared.code.Variable.{Variable}
use Rattle.stack_code.specs.Code.{Placed, FunctionCode, Code, params_of}
use Rattle.stack_code.specs.Forward.{GoesForward}
use Rattle.stack_code.specs.Machine.{conversions, text_at}

-- ---- variables

abbrev pub words_of_variable : Variable → ℕ
words_of_variable x = words_taken x.array_param x.length

abbrev pub words_of_all : List Variable → ℕ
words_of_all [] = 0
words_of_all (x ∷ xs) = words_of_variable x + words_of_all xs

-- from a word on, each variable begins where the one before it ends
abbrev pub laid_out_from : ℕ → List Variable → Bool
laid_out_from place [] = true
laid_out_from place (x ∷ xs) = x.place == place && laid_out_from (place + words_of_variable x) xs

abbrev pub is_length : ℕ → Option ℕ → Bool
is_length n None = false
is_length n (Some m) = m == n

abbrev pub is_scalar_at : ℕ → Variable → Bool
is_scalar_at place x = x.place == place && not x.array_param && is_none x.length

abbrev pub is_array_at : ℕ → ℕ → Variable → Bool
is_array_at place len x = x.place == place && not x.array_param && is_length len x.length

abbrev pub is_array_param_at : ℕ → Variable → Bool
is_array_param_at place x = x.place == place && x.array_param

-- all words of a variable that is no array parameter
abbrev pub is_whole_at : ℕ → ℕ → Variable → Bool
is_whole_at place len x = x.place == place && not x.array_param && words_of_variable x == len

-- An instruction names a variable as what it is. None but ParamAt and ParamArray names an array parameter, and these
-- only read it.
abbrev pub names_fit : List Variable → List Variable → Instr → Bool
names_fit globals slots (instr.GlobalPlace place) = list_any (is_scalar_at place) globals
names_fit globals slots (instr.LocalPlace place) = list_any (is_scalar_at place) slots
names_fit globals slots (instr.GlobalAt place len) = list_any (is_array_at place len) globals
names_fit globals slots (instr.LocalAt place len) = list_any (is_array_at place len) slots
names_fit globals slots (instr.ParamAt place) = list_any (is_array_param_at place) slots
names_fit globals slots (instr.GlobalArray place len) = list_any (is_array_at place len) globals
names_fit globals slots (instr.LocalArray place len) = list_any (is_array_at place len) slots
names_fit globals slots (instr.ParamArray place) = list_any (is_array_param_at place) slots
names_fit globals slots (instr.Zero place len) = list_any (is_whole_at place len) slots
names_fit globals slots i = true

-- ---- operands

-- what an operand is: a value, the place of a word, or the place of an array's first word and the array's length
pub data Operand : Type 0 where
  Value : Operand
  Place : Operand
  ArrayPlace : Operand
  ArrayLength : Operand

abbrev pub same_operand : Operand → Operand → Bool
same_operand Value Value = true
same_operand Place Place = true
same_operand ArrayPlace ArrayPlace = true
same_operand ArrayLength ArrayLength = true
same_operand a b = false

abbrev pub is_single : Operand → Bool
is_single Value = true
is_single Place = true
is_single k = false

-- these are pushed one after the other; the topmost comes first
abbrev pub pushed : List Operand → List Operand → List Operand
pushed [] s = s
pushed (k ∷ ks) s = pushed ks (k ∷ s)

-- what is below these operands, where they are the topmost
abbrev pub below : List Operand → List Operand → Option (List Operand)
below [] s = Some s
below (k ∷ ks) [] = None
below (k ∷ ks) (x ∷ s) = elim (same_operand k x) [ true ↦ below ks s | false ↦ None ]

abbrev pub go_on : Option (List Operand) → (List Operand → Bool) → Bool
go_on None next = false
go_on (Some s) next = next s

-- these operands were pushed last, and are taken off
abbrev pub taking : List Operand → List Operand → (List Operand → Bool) → Bool
taking ks s next = go_on (below (pushed ks []) s) next

abbrev pub twice : List Operand → (List Operand → Bool) → Bool
twice [] next = false
twice (k ∷ s) next = is_single k && next (k ∷ k ∷ s)

abbrev pub swapped : List Operand → (List Operand → Bool) → Bool
swapped (a ∷ b ∷ s) next = is_single a && is_single b && next (b ∷ a ∷ s)
swapped s next = false

abbrev pub is_empty : List Operand → Bool
is_empty [] = true
is_empty (k ∷ s) = false

abbrev pub values : ℕ → List Operand
values n = replicate n Value

abbrev pub operands_of : List Variable → List Operand
operands_of [] = []
operands_of (x ∷ xs) =
    elim x.array_param [ true ↦ ArrayPlace ∷ ArrayLength ∷ operands_of xs | false ↦ Value ∷ operands_of xs ]

abbrev pub operands_by : Option FunctionCode → List Operand
operands_by None = []
operands_by (Some f) = operands_of (params_of f)

-- ---- runs over the kinds of operands

module _ (code : Code) (f : FunctionCode) where
  -- What an instruction takes and gives, and where it leads: it finds what it takes, and so does what follows. At a
  -- Line there are no operands, and at a Return there is one value.
  abbrev pub follows : Instr → ℕ → List Operand → (ℕ → List Operand → Bool) → Bool
  follows (instr.Line line) p s next = is_empty s && next (p + 1) s
  follows (instr.Push bits) p s next = next (p + 1) (Value ∷ s)
  follows instr.Drop p s next = taking (Value ∷ []) s (next (p + 1))
  follows instr.Dup p s next = twice s (next (p + 1))
  follows instr.Swap p s next = swapped s (next (p + 1))
  follows (instr.GlobalPlace place) p s next = next (p + 1) (Place ∷ s)
  follows (instr.LocalPlace place) p s next = next (p + 1) (Place ∷ s)
  follows (instr.GlobalAt base len) p s next = taking (Value ∷ []) s (λ t. next (p + 1) (Place ∷ t))
  follows (instr.LocalAt base len) p s next = taking (Value ∷ []) s (λ t. next (p + 1) (Place ∷ t))
  follows (instr.ParamAt place) p s next = taking (Value ∷ []) s (λ t. next (p + 1) (Place ∷ t))
  follows (instr.GlobalArray base len) p s next = next (p + 1) (ArrayLength ∷ ArrayPlace ∷ s)
  follows (instr.LocalArray base len) p s next = next (p + 1) (ArrayLength ∷ ArrayPlace ∷ s)
  follows (instr.ParamArray place) p s next = next (p + 1) (ArrayLength ∷ ArrayPlace ∷ s)
  follows instr.Load p s next = taking (Place ∷ []) s (λ t. next (p + 1) (Value ∷ t))
  follows instr.Store p s next = taking (Place ∷ Value ∷ []) s (λ t. next (p + 1) (Value ∷ t))
  follows (instr.Unary op of) p s next = taking (Value ∷ []) s (λ t. next (p + 1) (Value ∷ t))
  follows (instr.Binary op of) p s next = taking (Value ∷ Value ∷ []) s (λ t. next (p + 1) (Value ∷ t))
  follows (instr.Jump target) p s next = next target s
  follows (instr.JumpZero target) p s next = taking (Value ∷ []) s (λ t. next (p + 1) t && next target t)
  follows (instr.Zero base len) p s next = next (p + 1) s
  follows (instr.Call function) p s next =
      taking (operands_by (slice_get code.functions function)) s (λ t. next (p + 1) (Value ∷ t))
  follows instr.Return p s next = taking (Value ∷ []) s is_empty
  follows (instr.Send words) p s next =
      nat_le 1 words && nat_le words 8 && taking (values (words + 2)) s (λ t. next (p + 1) (Value ∷ t))
  follows instr.Receive p s next = taking (Value ∷ []) s (λ t. next (p + 1) (Value ∷ t))
  follows instr.Word p s next = taking (Value ∷ []) s (λ t. next (p + 1) (Value ∷ t))
  follows instr.Words p s next = next (p + 1) (Value ∷ s)
  follows instr.From p s next = next (p + 1) (Value ∷ s)
  follows instr.Via p s next = next (p + 1) (Value ∷ s)
  follows instr.SelfNo p s next = next (p + 1) (Value ∷ s)
  follows instr.Count p s next = next (p + 1) (Value ∷ s)
  follows (instr.Print text) p s next = nat_lt text (length code.texts)
      && taking (values (conversions (text_at code 0 0 text))) s (λ t. next (p + 1) (Value ∷ t))

  abbrev pub follows_if_any : Option Placed → ℕ → List Operand → (ℕ → List Operand → Bool) → Bool
  follows_if_any None p s next = false
  follows_if_any (Some x) p s next = names_fit code.variables f.slots x.instr && follows x.instr p s next

  -- Whatever way the tests go, so many instructions from a place on are there, and find the operands that they take.
  abbrev pub finds : ℕ → ℕ → List Operand → Bool
  finds zero p s = true
  finds (suc n) p s = follows_if_any (slice_get f.steps p) p s (λ q t. finds n q t)

-- every way through a function, from its beginning on
abbrev pub FindsOperands : Code → Type 0
FindsOperands code =
    (g : ℕ) (f : FunctionCode) → slice_get code.functions g ≡ Some f → (n : ℕ) → IsTrue (finds code f n 0 [])

-- ---- limits

abbrev pub is_fit_function : FunctionCode → Bool
is_fit_function f =
    nat_le f.param_count (length f.slots)
    && list_all (λ x. not x.array_param) (drop f.param_count f.slots)
    && laid_out_from 0 f.slots
    && f.param_words == words_of_all (params_of f)
    && f.frame_words == words_of_all f.slots
    && list_all (λ x. is_none x.length) (params_of f)

-- main has no parameters
abbrev pub is_main : Option FunctionCode → Bool
is_main None = false
is_main (Some f) = f.param_count == 0

abbrev pub is_within : Code → Bool
is_within code =
    nat_le (length code.functions) 512
    && is_main (slice_get code.functions code.main)
    && list_all (λ t. nat_le (length t) 509) code.texts
    && nat_le (length code.globals) MAX_DATA_WORDS
    && laid_out_from 0 code.variables
    && length code.globals == words_of_all code.variables
    && list_all (λ x. not x.array_param) code.variables
    && list_all is_fit_function code.functions

-- whatever way control takes: a jump back leads to a Line, each function begins with one, calls name functions, and
-- operands are found
pub record IsSound (code : Code) : Type 0 where
  pub forward : GoesForward code
  pub operands : FindsOperands code
