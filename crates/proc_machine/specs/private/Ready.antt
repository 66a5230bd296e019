-- What an instruction finds.
use Rattle.std.specs.Prelude.{ℕ, ◌+◌, ◌<◌, ◌≤◌, ◌^◌, Bool, true, false, nat_lt, nat_le, ◌&&◌, ◌==◌, List, length, take, reverse, Option, Some, None, slice_get, slice_index, IsTrue}
use Rattle.nm_base.specs.declared.limits.TheConstants.{MAX_OUTPUT_BYTES}
use Rattle.stack_code.specs.declared.instr.Instr.{Instr}
use Rattle.stack_code.specs.declared.instr.Instr.TheVariants as instr
use Rattle.stack_code.specs.Code.{FunctionCode, Code}
use Rattle.stack_code.specs.Machine.{conversions, text_at}
use Rattle.c_tree.specs.Print.{printed}
use Rattle.proc_machine.specs.declared.execution.Execution.{Execution}

abbrev pub param_words_by : Option FunctionCode → ℕ
param_words_by None = 0
param_words_by (Some f) = f.param_words

-- how many operands it needs
abbrev pub needs : Code → Instr → ℕ
needs code instr.Drop = 1
needs code instr.Dup = 1
needs code instr.Swap = 2
needs code (instr.GlobalAt base len) = 1
needs code (instr.LocalAt base len) = 1
needs code (instr.ParamAt slot) = 1
needs code instr.Load = 1
needs code instr.Store = 2
needs code (instr.Unary op of) = 1
needs code (instr.Binary op of) = 2
needs code (instr.JumpZero target) = 1
needs code (instr.Call function) = param_words_by (slice_get code.functions function)
needs code instr.Return = 1
needs code (instr.Send words) = words + 2
needs code instr.Receive = 1
needs code instr.Word = 1
needs code (instr.Print text) = conversions (text_at code 0 0 text)
needs code i = 0

-- how many more there are afterwards, at most
abbrev pub adds : Instr → ℕ
adds (instr.GlobalArray base len) = 2
adds (instr.LocalArray base len) = 2
adds (instr.ParamArray slot) = 2
adds (instr.Line line) = 0
adds instr.Drop = 0
adds instr.Swap = 0
adds instr.Load = 0
adds instr.Store = 0
adds (instr.Unary op of) = 0
adds (instr.Binary op of) = 0
adds (instr.Jump target) = 0
adds (instr.JumpZero target) = 0
adds (instr.Zero base len) = 0
adds instr.Return = 0
adds (instr.GlobalAt base len) = 0
adds (instr.LocalAt base len) = 0
adds (instr.ParamAt slot) = 0
adds instr.Receive = 0
adds instr.Word = 0
adds i = 1

-- whether that operand, 0 the topmost, is a word
abbrev pub is_word_at : Code → Instr → ℕ → Bool
is_word_at code instr.Dup j = false
is_word_at code instr.Swap j = false
is_word_at code instr.Load j = false
is_word_at code instr.Store j = j == 0
is_word_at code i j = nat_lt j (needs code i)

-- what it names is there
abbrev pub is_named : Code → Instr → Bool
is_named code (instr.Call function) = nat_lt function (length code.functions)
is_named code (instr.Send words) = nat_le 1 words && nat_le words 8
is_named code (instr.Print text) = nat_lt text (length code.texts) && nat_le (length (text_at code 0 0 text)) 509
is_named code i = true

-- the word of the frame whose place it keeps
abbrev pub reaches : Instr → ℕ
reaches (instr.LocalArray base len) = base
reaches i = 0

-- an instruction finds its operands, and room for what it pushes
pub record IsReady (code : Code) (i : Instr) (e : Execution) : Type 0 where
  pub some : needs code i ≤ length e.calls.own
  pub words : (j : ℕ) → IsTrue (is_word_at code i j) → slice_index e.calls.own j < 2 ^ 32
  pub room : length e.calls.own + adds i ≤ e.calls.height
  pub onward : e.frame.place + 1 < 2 ^ 32
  pub named : IsTrue (is_named code i)
  pub near : e.frame.base + reaches i < 2 ^ 32

-- whether there are the process and the channel that the operands of a Send name
abbrev pub is_addressed : ℕ → ℕ → List ℕ → Bool
is_addressed count words own = nat_lt (slice_index own (words + 1)) count && nat_lt (slice_index own words) 32

-- what a Print prints
abbrev pub bytes_of : Code → ℕ → List ℕ → List ℕ
bytes_of code text own = printed (text_at code 0 0 text) (reverse (take (conversions (text_at code 0 0 text)) own))

-- whether the output has room for it
abbrev pub has_room : Code → ℕ → Execution → Bool
has_room code text e = nat_le (length e.output.items + length (bytes_of code text e.calls.own)) MAX_OUTPUT_BYTES
