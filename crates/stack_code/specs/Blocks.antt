-- Which blocks are entered at each instruction, where each block is kept once.
use Rattle.std.specs.Prelude.{ℕ, ◌+◌, Bool, true, ◌&&◌, ◌==◌, nat_le, List, [], ◌∷◌, ◌++◌, map, length, unwrap_or, slice_get, string_bytes}
use Rattle.std.specs.List.{list_all}
use Rattle.stack_code.specs.declared.instr.Instr.{Instr}
use Rattle.stack_code.specs.declared.code.Block.{Block}
use Rattle.stack_code.specs.declared.code.Variable.{Variable}
use Rattle.stack_code.specs.declared.code.CodeFunction.{CodeFunction}
use Rattle.stack_code.specs.Code.{Placed, FunctionCode, Code}

-- the blocks that are entered inside a block, by its number; 0 is outside all blocks
abbrev pub entered_in : List (List (List ℕ)) → ℕ → List (List ℕ)
entered_in table number = unwrap_or (slice_get table number) []

-- a block's locals, and then those of the blocks round it, which come before it
abbrev pub table_from : List (List (List ℕ)) → List Block → List (List (List ℕ))
table_from table [] = table
table_from table (b ∷ bs) = table_from (table ++ (b.slots.items ∷ entered_in table b.outer) ∷ []) bs

abbrev pub table_of : List Block → List (List (List ℕ))
table_of blocks = table_from ([] ∷ []) blocks

abbrev pub placed_in : List (List (List ℕ)) → List Instr → List ℕ → List Placed
placed_in table [] numbers = []
placed_in table (i ∷ is) [] = []
placed_in table (i ∷ is) (n ∷ ns) = record { instr = i; entered = entered_in table n } ∷ placed_in table is ns

abbrev pub function_of : CodeFunction → FunctionCode
function_of f = record {
  name = string_bytes f.name;
  steps = placed_in (table_of f.blocks.items) f.instrs.items f.inside.items;
  line = f.line;
  param_words = f.param_words;
  frame_words = f.frame_words;
  param_count = f.param_count;
  slots = f.slots.items;
}

-- what the definitions of the machine see of code
abbrev pub view_of : List CodeFunction → ℕ → List (List ℕ) → List ℕ → List Variable → Code
view_of functions main texts globals variables = record {
  functions = map function_of functions;
  main = main;
  texts = texts;
  globals = globals;
  variables = variables;
}

-- each block stands in an earlier one, or in none
abbrev pub blocks_nest : ℕ → List Block → Bool
blocks_nest number [] = true
blocks_nest number (b ∷ bs) = nat_le b.outer number && blocks_nest (number + 1) bs

-- each instruction stands in a block, or in none
abbrev pub is_kept : CodeFunction → Bool
is_kept f =
    length f.inside.items == length f.instrs.items && list_all (λ n. nat_le n (length f.blocks.items)) f.inside.items
    && blocks_nest 0 f.blocks.items
