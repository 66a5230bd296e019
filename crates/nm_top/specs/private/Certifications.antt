-- Certificates that are printed one after the other.
use Rattle.std.specs.Prelude.{◌≡◌, ℕ, List, take, Result, Ok, Err, Option, ⊤}
use Rattle.std.specs.Io.KnownBytes.{Appends}
use Rattle.nm_base.specs.declared.letter.LetterId.{LetterId}
use Rattle.nm_outside.specs.Causes.{Rose}
use Rattle.nm_outside.specs.Files.{AppendsPart}
use Rattle.c_tree.specs.declared.program.Program.{Program}
use Rattle.event_list.specs.declared.Event.{Event}
use Rattle.nm_top.specs.Certifying.{AreCertified}
use Rattle.nm_top.specs.declared.certify.Halt.{Halt}
use Rattle.nm_top.specs.declared.certify.Halt.TheVariants.{Write, Memory}

-- The certificates of these letters were given.
pub record Given (p : Program) (n mask : ℕ) (F : List Event) (letters : List LetterId)
    (before after : Option (List ℕ)) (was now : ℕ) : Type 0 where
  pub text : List ℕ
  pub certified : AreCertified p n mask F letters text
  pub given : Appends before after text
  pub still : now ≡ was

-- The sink failed after a part of the certificates of these letters.
pub record GivenPart (p : Program) (n mask : ℕ) (F : List Event) (letters : List LetterId)
    (before after : Option (List ℕ)) (was now : ℕ) : Type 0 where
  pub text : List ℕ
  pub certified : AreCertified p n mask F letters text
  pub given : AppendsPart before after text
  pub rose : Rose was now

-- The certificates of the letters were given; or the sink failed within those of the first so many; or memory was
-- refused behind those.
abbrev pub PutsCertificates : Program → ℕ → ℕ → List Event → List LetterId → Option (List ℕ) → Option (List ℕ) → ℕ → ℕ
    → Result ⊤ Halt → Type 0
PutsCertificates p n mask F letters before after was now (Ok x) = Given p n mask F letters before after was now
PutsCertificates p n mask F letters before after was now (Err Write) =
    (many : ℕ) × GivenPart p n mask F (take many letters) before after was now
PutsCertificates p n mask F letters before after was now (Err Memory) =
    (many : ℕ) × Given p n mask F (take many letters) before after was now
