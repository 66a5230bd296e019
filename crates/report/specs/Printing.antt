-- What a call prints.
use Rattle.std.specs.Prelude.{ℕ, List, [], ◌++◌, fold, OnOk, OnErr, is_err, Result, Option, ⊤}
use Rattle.std.specs.Borrow.{Bor}
use Rattle.std.specs.Io.KnownBytes.{Appends}
use Rattle.nm_outside.specs.declared.cabinet.Failed.{Failed}
use Rattle.nm_outside.specs.Causes.{BelongsTo}
use Rattle.nm_outside.specs.Files.{AppendsPart}

-- The sink was given the whole text; or it failed after a part of it, and then its count of faults rose.
pub record Prints (before after : Option (List ℕ)) (was now : ℕ) (text : List ℕ)
    (result : Result ⊤ Failed) : Type 0 where
  pub ok : OnOk result (Appends before after text)
  pub err : OnErr result (AppendsPart before after text)
  pub cause : BelongsTo (is_err result) was now

-- pieces, one after the other
abbrev pub joined : List (Bor (List ℕ)) → List ℕ
joined pieces = fold (λ text piece. text ++ piece.now) [] pieces
