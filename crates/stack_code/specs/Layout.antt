-- The code of all functions in one list, each function's behind that of the function before it.
use Rattle.std.specs.Prelude.{ℕ, ◌+◌, Bool, ◌&&◌, ◌==◌, nat_le, List, [], ◌∷◌, map, length, take, drop, string_bytes}
use Rattle.std.specs.List.{list_all}
use Rattle.stack_code.specs.declared.instr.Instr.{Instr}
use Rattle.stack_code.specs.declared.layout.LaidFunction.{LaidFunction}
use Rattle.stack_code.specs.declared.layout.Layout.{Layout}
use Rattle.stack_code.specs.declared.code.Variable.{Variable}
use Rattle.stack_code.specs.Code.{FunctionCode, Code}
use Rattle.stack_code.specs.Blocks.{table_of, placed_in, blocks_nest}

-- so many items from a place on
abbrev pub slice_of : {A : Type 0} → ℕ → ℕ → List A → List A
slice_of start len xs = take len (drop start xs)

abbrev pub laid_function_of : List Instr → List ℕ → LaidFunction → FunctionCode
laid_function_of instrs inside f = record {
  name = string_bytes f.name;
  steps = placed_in (table_of f.blocks.items) (slice_of f.start f.len instrs) (slice_of f.start f.len inside);
  line = f.line;
  param_words = f.param_words;
  frame_words = f.frame_words;
  param_count = f.param_count;
  slots = f.slots.items;
}

abbrev pub functions_in : Layout → List FunctionCode
functions_in l = map (laid_function_of l.instrs.items l.inside.items) l.functions.items

-- from a place on, each function begins where the one before it ends, and the last one ends there
abbrev pub follow_from : ℕ → List LaidFunction → ℕ → Bool
follow_from place [] end = place == end
follow_from place (f ∷ fs) end = f.start == place && follow_from (place + f.len) fs end

-- each of a function's instructions stands in one of its blocks, or in none, and each block in an earlier one, or in
-- none
abbrev pub is_part : List ℕ → LaidFunction → Bool
is_part inside f =
    nat_le (f.start + f.len) (length inside) && list_all (λ n. nat_le n (length f.blocks.items))
    (slice_of f.start f.len inside) && blocks_nest 0 f.blocks.items

abbrev pub is_laid_out : List LaidFunction → List Instr → List ℕ → Bool
is_laid_out functions instrs inside =
    length inside == length instrs && follow_from 0 functions (length instrs) && list_all (is_part inside) functions

-- what the definitions of the machine see of it
abbrev pub laid_view : Layout → ℕ → List (List ℕ) → List ℕ → List Variable → Code
laid_view l main texts globals variables = record {
  functions = functions_in l;
  main = main;
  texts = texts;
  globals = globals;
  variables = variables;
}
