-- What one item of the file says, and else which of its rules is broken first, and at which place.
use Rattle.std.specs.Prelude.{◌≡◌, ℕ, zero, suc, ◌+◌, ◌*◌, List, [], ◌∷◌, ◌++◌, length, take, drop, sum, ◌==◌, ◌&&◌, ◌||◌, not, nat_lt, slice_index, Result, Ok, Err, if◌then◌else◌}
use Rattle.std.specs.Int.{w32, from_be_bytes}
use Rattle.std.specs.Str.{bytes_eq}
use Rattle.sha2.specs.Sha256.{sha256}
use Rattle.nm_base.specs.declared.limits.TheConstants.{MAX_EVENTS, MAX_PROCESSES}
use Rattle.nm_base.specs.declared.letter.LetterId.{LetterId}
use Rattle.nm_base.specs.declared.letter.AcceptNote.{AcceptNote}
use Rattle.trace_file.specs.declared.fault.DamageKind.{DamageKind}
use Rattle.trace_file.specs.declared.fault.DamageKind.TheVariants.{Short, Magic, Version, Count, Tag, Process, Order, Repeat, Digest, Trailing}
use Rattle.trace_file.specs.declared.fault.TraceFault.{TraceFault}
use Rattle.trace_file.specs.declared.fault.TraceFault.TheVariants as faults
use Rattle.trace_file.specs.declared.item.Item.{Item}
use Rattle.trace_file.specs.declared.item.Item.TheVariants.{Note, Lost, End}
use Rattle.trace_file.specs.Content.{Content, begun}
use Rattle.trace_file.specs.Bytes.{front}
use Rattle.trace_file.specs.Rules.{is_late_note, is_late_lost, is_named}

-- a broken rule and its place
abbrev pub Damage : Type 0
Damage = DamageKind × ℕ

-- the number in the four bytes from place i on
abbrev pub word_at : List ℕ → ℕ → ℕ
word_at bytes i =
    from_be_bytes w32
    (slice_index bytes i ∷ slice_index bytes (i + 1) ∷ slice_index bytes (i + 2) ∷ slice_index bytes (i + 3) ∷ [])

-- the letter that is named in the five bytes from place i on
abbrev pub letter_at : List ℕ → ℕ → LetterId
letter_at bytes i = record { sender = record { no = slice_index bytes i }; number = word_at bytes (i + 1) }

-- the note that the bytes begin with
abbrev pub note_at : List ℕ → AcceptNote
note_at bytes =
    record { receiver = record { no = slice_index bytes 1 }; receive = word_at bytes 2; id = letter_at bytes 6 }

-- n counts, four bytes each
abbrev pub counts_at : ℕ → List ℕ → List ℕ
counts_at zero bytes = []
counts_at (suc n) bytes = word_at bytes 0 ∷ counts_at n (drop 4 bytes)

-- the number of bytes before the entries
abbrev pub header_len : ℕ → ℕ
header_len version = if version == 2 then 42 else 38

-- the items of the header
unfoldable pub header_at : List ℕ → Result Content Damage
header_at bytes =
    let len = length bytes in
    let version = slice_index bytes 4 in
    let n = slice_index bytes 5 in
    let is_magic =
    (slice_index bytes 0 == 78) && (slice_index bytes 1 == 77) && (slice_index bytes 2 == 84)
    && (slice_index bytes 3 == 82) in
    if nat_lt len 4 then Err (Short, len)
    else if not is_magic then Err (Magic, 0)
    else if nat_lt len 5 then Err (Short, len)
    else if not ((version == 1) || (version == 2)) then Err (Version, 4)
    else if nat_lt len 6 then Err (Short, len)
    else if (n == 0) || nat_lt MAX_PROCESSES n then Err (Count, 5)
    else if nat_lt len (header_len version) then Err (Short, len)
    else Ok (begun version (if version == 2 then word_at bytes 38 else 0) n (take 32 (drop 6 bytes)))

-- a note at this place of the file, by its own bytes
abbrev pub note_shape : ℕ → ℕ → List ℕ → Result Item Damage
note_shape n place rest =
    if nat_lt (length rest) 11 then Err (Short, place + length rest)
    else if not (nat_lt (slice_index rest 1) n && nat_lt (slice_index rest 6) n) then Err (Process, place)
    else Ok (Note (note_at rest))

-- a lost letter at this place of the file, by its own bytes
abbrev pub lost_shape : ℕ → ℕ → List ℕ → Result Item Damage
lost_shape n place rest =
    if nat_lt (length rest) 6 then Err (Short, place + length rest)
    else if not (nat_lt (slice_index rest 1) n) then Err (Process, place)
    else Ok (Lost (letter_at rest 1))

-- an entry or the tag of the end
unfoldable pub shape_at : ℕ → ℕ → List ℕ → Result Item Damage
shape_at n place rest =
    let tag = slice_index rest 0 in
    if length rest == 0 then Err (Short, place)
    else if tag == 1 then note_shape n place rest
    else if tag == 2 then lost_shape n place rest
    else if tag == 3 then Ok End
    else Err (Tag, place)

-- the same behind the entries before it
abbrev pub ranked : List AcceptNote → List LetterId → ℕ → Item → Result Item Damage
ranked notes lost place (Note a) =
    if not (length lost == 0) || is_late_note notes a then Err (Order, place)
    else if is_named notes lost a.id then Err (Repeat, place)
    else Ok (Note a)
ranked notes lost place (Lost id) =
    if is_late_lost lost id then Err (Order, place)
    else if is_named notes lost id then Err (Repeat, place)
    else Ok (Lost id)
ranked notes lost place End = Ok End

-- the first damage, or what the second makes of the value
infixl 10 ◌>>=◌
abbrev pub ◌>>=◌ : {A B : Type 0} → Result A Damage → (A → Result B Damage) → Result B Damage
(Ok x) >>= f = f x
(Err e) >>= f = Err e

-- an item behind these entries, at this place of the file
abbrev pub entry_at : ℕ → List AcceptNote → List LetterId → ℕ → List ℕ → Result Item Damage
entry_at n notes lost place rest = shape_at n place rest >>= ranked notes lost place

-- the item that stands behind the front of t
abbrev pub item_at : Content → List ℕ → Result Item Damage
item_at t rest = entry_at t.n t.notes t.lost (length (front t)) rest

-- the counts of an end at this place, where these bytes stand before it
unfoldable pub end_at : ℕ → List ℕ → List ℕ → Result (List ℕ) Damage
end_at n before rest =
    let place = length before in
    let len = 1 + 4 * n in
    let counts = counts_at n (drop 1 rest) in
    if nat_lt (length rest) (len + 32) then Err (Short, place + length rest)
    else if nat_lt MAX_EVENTS (sum counts) then Err (Count, place)
    else if not (bytes_eq (take 32 (drop len rest)) (sha256 (before ++ take len rest))) then Err (Digest, place + len)
    else if nat_lt (len + 32) (length rest) then Err (Trailing, place + len + 32)
    else Ok counts

-- what a fault says of it: nothing where memory was refused
abbrev pub FailsAs : {Y : Type 0} → TraceFault → Result Y Damage → Type 0
FailsAs faults.Memory read = Unit {0}
FailsAs (faults.Damage kind place) read = read ≡ Err (kind, place)

-- What a function returned, seen by view, is what reading gives, unless memory was refused.
abbrev pub ReadsAs : {X Y : Type 0} → (X → Y) → Result X TraceFault → Result Y Damage → Type 0
ReadsAs view (Ok x) read = read ≡ Ok (view x)
ReadsAs view (Err e) read = FailsAs e read
