-- What is written one part after another.
use Rattle.std.proofs.Common.{◌≡◌, ℕ, List, [], ◌∷◌, ◌++◌, length, refl, sym, ap, ◌∙◌, subst, append_assoc}
use Rattle.stack_code.specs.declared.code.Block.{Block}
use Rattle.stack_code.specs.Blocks.{entered_in, table_of}
use Rattle.c_compile.specs.Asm.{Laid, nothing, ◌⨾◌}
use Rattle.c_compile.specs.StmtCode.{Blocks}
use Rattle.c_compile.specs.private.Emitted.{after}
use Rattle.c_compile.specs.declared.body.Body.{Body}
use Rattle.c_compile.specs.private.Body.{steps_of, blocks_of, IsLaidOut, Extends, Wrote, Opened, Closed}
use Rattle.c_compile.proofs.Emit.{seq, after_nothing}
use Rattle.c_compile.proofs.Tables.{extends_keeps}

extends_both : (bs cs ds : List Block) → Extends bs cs → Extends cs ds → Extends bs ds
extends_both bs cs ds h g = (h.0 ++ g.0, g.1 ∙ ap (λ l. l ++ g.0) h.1 ∙ append_assoc bs h.0 g.0)

nothing_more : (bs : List Block) → bs ≡ bs ++ []
nothing_more [] = refl
nothing_more (b ∷ bs) = ap (λ l. b ∷ l) (nothing_more bs)

pub wrote_nothing : (b : Body) → IsLaidOut b → Wrote b b (λ blocks. nothing)
wrote_nothing b fine = record { fine = fine; steps = sym (after_nothing (steps_of b)); blocks = refl; block = refl; more = ([], nothing_more b.blocks.items) }

-- two parts
pub wrote_both : {a b c : Body} {x y : Blocks → Laid} → Wrote a b x → Wrote b c y → Wrote a c (λ blocks. x blocks ⨾ y blocks)
wrote_both {a = a} {b = b} {c = c} {x = x} {y = y} h g = record {
  fine = g.fine;
  steps = seq (steps_of a) (steps_of b) (steps_of c) (x (blocks_of a)) (y (blocks_of a)) h.steps (g.steps ∙ ap (λ blocks. after (steps_of b) (y blocks)) h.blocks);
  blocks = g.blocks ∙ h.blocks;
  block = g.block ∙ h.block;
  more = extends_both a.blocks.items b.blocks.items c.blocks.items h.more g.more;
}

-- code that is the same at the place where it is written
pub wrote_as : {a b : Body} {x : Blocks → Laid} (y : Blocks → Laid) → Wrote a b x → x (blocks_of a) (length (steps_of a)) ≡ y (blocks_of a) (length (steps_of a)) → Wrote a b y
unfolding after
wrote_as {a = a} {b = b} {x = x} y h e = record {
  fine = h.fine;
  steps = h.steps ∙ ap (λ l. steps_of a ++ l) e;
  blocks = h.blocks;
  block = h.block;
  more = h.more;
}

-- a block, with what is written in it
pub wrote_block : {a b c d : Body} {slots : List ℕ} {x : Blocks → Laid} (outer : ℕ) → IsLaidOut a → outer ≡ a.block → Opened a b slots → Wrote b c x → Closed c d outer
    → Wrote a d (λ blocks. x (slots ∷ blocks))
wrote_block {a = a} {b = b} {c = c} {d = d} {slots = slots} {x = x} outer fine is o w e =
    let more : Extends a.blocks.items d.blocks.items = subst (Extends a.blocks.items) (sym e.same) (extends_both a.blocks.items b.blocks.items c.blocks.items o.more w.more) in
    let block : d.block ≡ a.block = e.block ∙ is in
    record {
      fine = e.fine;
      steps =
          e.steps ∙ w.steps
          ∙ ap (λ l. after l (x (blocks_of b))) o.steps
          ∙ ap (λ blocks. after (steps_of a) (x blocks)) o.blocks;
      blocks = ap (λ n. entered_in (table_of d.blocks.items) n) block ∙ extends_keeps a.blocks.items d.blocks.items a.block more fine.current;
      block = block;
      more = more;
    }

-- ---- a loop that writes

-- what is left to write, from here on, makes the whole
pub record Onward (a b : Body) (rest whole : Blocks → Laid) : Type 0 where
  pub fine : IsLaidOut b
  pub on : (c : Body) → Wrote b c rest → Wrote a c whole

pub onward_start : (a : Body) (whole : Blocks → Laid) → IsLaidOut a → Onward a a whole whole
onward_start a whole fine = record { fine = fine; on = λ c h. h }

pub onward_more : {a b c : Body} {x y rest whole : Blocks → Laid} → Onward a b rest whole → Wrote b c x → rest ≡ (λ blocks. x blocks ⨾ y blocks) → Onward a c y whole
onward_more {a = a} {b = b} {c = c} {x = x} {y = y} h w e = record {
  fine = w.fine;
  on = λ d g. h.on d (subst (Wrote b d) (sym e) (wrote_both w g));
}

pub onward_end : {a b : Body} {rest whole : Blocks → Laid} → Onward a b rest whole → rest ≡ (λ blocks. nothing) → Wrote a b whole
onward_end {a = a} {b = b} h e = h.on b (subst (Wrote b b) (sym e) (wrote_nothing b h.fine))
