-- What is written of a function: its steps, and the blocks that the next one is in.
use Rattle.std.specs.Prelude.{◌≡◌, ℕ, ◌+◌, ◌<◌, IsTrue, List, ◌∷◌, ◌++◌, length, get_or}
use Rattle.stack_code.specs.declared.code.Block.{Block}
use Rattle.stack_code.specs.Code.{Placed}
use Rattle.stack_code.specs.Blocks.{entered_in, table_of, placed_in, blocks_nest}
use Rattle.c_compile.specs.Asm.{Laid}
use Rattle.c_compile.specs.StmtCode.{Blocks}
use Rattle.c_compile.specs.private.Emitted.{after}
use Rattle.c_compile.specs.declared.body.Body.{Body}

abbrev pub steps_of : Body → List Placed
steps_of b = placed_in (table_of b.blocks.items) b.instrs.items b.inside.items

abbrev pub blocks_of : Body → Blocks
blocks_of b = entered_in (table_of b.blocks.items) b.block

-- each instruction has a block, each block is known, and it stands in an earlier one
pub record IsLaidOut (b : Body) : Type 0 where
  pub long : length b.inside.items ≡ length b.instrs.items
  pub known : (k : ℕ) → k < length b.inside.items → get_or b.inside.items k 0 < length b.blocks.items + 1
  pub current : b.block < length b.blocks.items + 1
  pub nest : IsTrue (blocks_nest 0 b.blocks.items)

-- blocks were added
abbrev pub Extends : List Block → List Block → Type 0
Extends old new = (more : List Block) × (new ≡ old ++ more)

-- code was written in the blocks that are open, and these are open still
pub record Wrote (old new : Body) (code : Blocks → Laid) : Type 0 where
  pub fine : IsLaidOut new
  pub steps : steps_of new ≡ after (steps_of old) (code (blocks_of old))
  pub blocks : blocks_of new ≡ blocks_of old
  pub block : new.block ≡ old.block
  pub more : Extends old.blocks.items new.blocks.items

-- a block with these locals was opened
pub record Opened (old new : Body) (slots : List ℕ) : Type 0 where
  pub fine : IsLaidOut new
  pub steps : steps_of new ≡ steps_of old
  pub blocks : blocks_of new ≡ slots ∷ blocks_of old
  pub more : Extends old.blocks.items new.blocks.items

-- the blocks in this one are closed
pub record Closed (old new : Body) (outer : ℕ) : Type 0 where
  pub fine : IsLaidOut new
  pub steps : steps_of new ≡ steps_of old
  pub block : new.block ≡ outer
  pub same : new.blocks.items ≡ old.blocks.items
