-- Replies: what a call answers, prints and leaves. What a call did, said by the replies that are allowed.
use Rattle.std.specs.Prelude.{◌≡◌, ◌≢◌, ◌⊎◌, ℕ, List, [], Option, Some, None, option_map, ⊤}
use Rattle.std.specs.FinMap.{insert}
use Rattle.std.specs.Io.KnownBytes.{Appends}
use Rattle.nm_outside.specs.Causes.{Rose}
use Rattle.nm_outside.specs.Files.{Files, AppendsPart}
use Rattle.nm_top.specs.declared.status.Status.{Status}
use Rattle.nm_top.specs.declared.status.Status.TheVariants.{ReadFault, WriteFault, WantOfMemory}

-- `left` is what the files are afterwards.
pub record Reply : Type 0 where
  pub status : Status
  pub printed : List ℕ
  pub left : Files

abbrev pub reply : Status → List ℕ → Files → Reply
reply status printed left = record { status = status; printed = printed; left = left }

-- This is answered and printed, and the files are as before.
abbrev pub Says : Files → Status → List ℕ → Reply → Type 0
Says files status printed r = r ≡ reply status printed files

-- A call gave a reply.
pub record Gave (r : Reply) (left : Option Files) (before after : Option (List ℕ)) (status : Status) : Type 0 where
  pub answered : status ≡ r.status
  pub printed : Appends before after r.printed
  pub leaves : left ≡ Some r.left

-- Where the files are told, a call gave a reply that is allowed for them, or a write failed.
abbrev pub Answers : (Files → Reply → Type 0) → Option Files → Option Files → Option (List ℕ) → Option (List ℕ) → Status
    → Type 0
Answers allowed None left before after status = ⊤
Answers allowed (Some held) left before after status =
    (status ≡ WriteFault) ⊎ ((r : Reply) × allowed held r × Gave r left before after status)

-- The sink failed at a reply that is allowed, whose status is ReadFault exactly where a read, or a take of the input,
-- failed: a part of its text was given, from its front, and the files are as it leaves them.
pub record CutShort (allowed : Files → Reply → Type 0) (was now takes takes' : ℕ) (held : Files) (left : Option Files)
    (before after : Option (List ℕ)) : Type 0 where
  pub reply : Reply
  pub is_allowed : allowed held reply
  pub part : AppendsPart before after reply.printed
  pub leaves : left ≡ Some reply.left
  pub failed : reply.status ≡ ReadFault → Rose was now ⊎ Rose takes takes'
  pub read : reply.status ≢ ReadFault → (now ≡ was) × (takes' ≡ takes)

-- A write to a file failed: nothing was printed, and the files are such as that may leave.
pub record CutOff (broken : Files → Files → Type 0) (held : Files) (left : Option Files)
    (before after : Option (List ℕ)) : Type 0 where
  pub files : Files
  pub is_broken : broken held files
  pub leaves : left ≡ Some files
  pub printed : Appends before after []

-- Where the files are told, a write failed, of the sink or of a file.
abbrev pub Breaks : (Files → Reply → Type 0) → (Files → Files → Type 0) → ℕ → ℕ → ℕ → ℕ → Option Files → Option Files
    → Option (List ℕ) → Option (List ℕ) → Type 0
Breaks allowed broken was now takes takes' None left before after = ⊤
Breaks allowed broken was now takes takes' (Some held) left before after =
    CutShort allowed was now takes takes' held left before after ⊎ CutOff broken held left before after

-- No other file than the named one changed, if one is named.
abbrev pub KeepsOthers : Option (List ℕ) → Option Files → Option Files → Type 0
KeepsOthers None old new = new ≡ old
KeepsOthers (Some name) old new =
    (new ≡ old) ⊎ ((bytes : List ℕ) × (new ≡ option_map (λ files. insert files name bytes) old))

-- Where no read, no take and no write failed, this holds of the status, or there was want of memory.
abbrev pub Owed : (Status → Type 0) → ℕ → ℕ → ℕ → ℕ → ℕ → ℕ → ℕ → ℕ → Status → Type 0
Owed due reads reads' takes takes' writes writes' faults faults' status =
    ¬ Rose reads reads' → ¬ Rose takes takes' → ¬ Rose writes writes' → ¬ Rose faults faults'
    → due status ⊎ (status ≡ WantOfMemory)
