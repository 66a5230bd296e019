-- The one spelling of a trace. Numbers are big-endian.
use Rattle.std.specs.Prelude.{ℕ, List, [], ◌∷◌, ◌++◌, ◌==◌, if◌then◌else◌}
use Rattle.std.specs.List.{flat_map}
use Rattle.std.specs.Int.{w32, to_be_bytes}
use Rattle.sha2.specs.Sha256.{sha256}
use Rattle.nm_base.specs.declared.letter.LetterId.{LetterId}
use Rattle.nm_base.specs.declared.letter.AcceptNote.{AcceptNote}
use Rattle.trace_file.specs.Content.{Content}

-- four bytes
abbrev pub number : ℕ → List ℕ
number n = to_be_bytes w32 n

-- version 2 has a mask
abbrev pub mask_bytes : ℕ → ℕ → List ℕ
mask_bytes version mask = if version == 2 then number mask else []

-- the magic is NMTR in ASCII
abbrev pub header_part : ℕ → ℕ → ℕ → List ℕ → List ℕ
header_part version mask n digest = 78 ∷ 77 ∷ 84 ∷ 82 ∷ version ∷ n ∷ (digest ++ mask_bytes version mask)

-- the bytes before the entries
abbrev pub header : Content → List ℕ
header t = header_part t.version t.mask t.n t.digest

-- sender and number
abbrev pub letter : LetterId → List ℕ
letter id = id.sender.no ∷ number id.number

-- tag 1
abbrev pub note : AcceptNote → List ℕ
note a = 1 ∷ a.receiver.no ∷ (number a.receive ++ letter a.id)

-- tag 2
abbrev pub lost_entry : LetterId → List ℕ
lost_entry id = 2 ∷ letter id

-- all that stands before the end
unfoldable pub front : Content → List ℕ
front t = header t ++ (flat_map note t.notes ++ flat_map lost_entry t.lost)

-- tag 3 and the counts
abbrev pub counts_part : List ℕ → List ℕ
counts_part counts = 3 ∷ flat_map number counts

-- the end behind these bytes: the counts, and then the digest of all bytes before it
abbrev pub end_part : List ℕ → List ℕ → List ℕ
end_part before counts = counts_part counts ++ sha256 (before ++ counts_part counts)

-- the bytes with their end
abbrev pub ended : List ℕ → List ℕ → List ℕ
ended before counts = let body = before ++ counts_part counts in body ++ sha256 body

-- the whole file
abbrev pub spelling : Content → List ℕ
spelling t = ended (front t) t.counts
