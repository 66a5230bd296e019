-- The text of a schedule: which words it has, at which places, and what each spells.
use Rattle.std.specs.Prelude.{
  ℕ,
  suc,
  ◌+◌,
  ◌-◌,
  ◌*◌,
  ◌^◌,
  ◌==◌,
  ◌&&◌,
  ◌||◌,
  nat_lt,
  nat_le,
  Bool,
  true,
  false,
  List,
  [],
  ◌∷◌,
  ◌++◌,
  length,
  take,
  drop,
  replicate,
  Option,
  Some,
  None,
  Result,
  Ok,
  Err,
  position,
  slice_index,
  if◌then◌else◌,
}
use Rattle.nm_base.specs.declared.limits.TheConstants.{MAX_TURNS}
use Rattle.schedules.specs.declared.schedule.Turn.{Turn}
use Rattle.schedules.specs.declared.reader.Entry.{Entry}
use Rattle.schedules.specs.declared.reader.ScheduleFault.{ScheduleFault}
use Rattle.schedules.specs.declared.reader.ScheduleFault.TheVariants.{BadWord, NoProcess, TooMany}

-- ---- words

-- spaces, tabs, carriage returns and newlines separate words
abbrev pub is_blank : ℕ → Bool
is_blank b = (b == 32) || ((b == 9) || ((b == 13) || (b == 10)))

-- a word and the place of its first byte
pub record Word : Type 0 where
  pub place : ℕ
  pub bytes : List ℕ

-- whether the text goes on with no byte of the word before it
abbrev pub ends_word : List ℕ → Bool
ends_word [] = true
ends_word (b ∷ bs) = is_blank b

-- the byte b at place i before a text with these words: a blank, a word of its own, or the first byte of the first word
abbrev pub with_byte : Bool → Bool → ℕ → ℕ → List Word → List Word
with_byte true ends i b ws = ws
with_byte false true i b ws = record { place = i; bytes = b ∷ [] } ∷ ws
with_byte false false i b [] = record { place = i; bytes = b ∷ [] } ∷ []
with_byte false false i b (w ∷ ws) = record { place = i; bytes = b ∷ w.bytes } ∷ ws

-- the words of a text that begins at place i
abbrev pub words : ℕ → List ℕ → List Word
words i [] = []
words i (b ∷ bs) = with_byte (is_blank b) (ends_word bs) i b (words (i + 1) bs)

-- how many bytes come before the first blank
abbrev pub word_length : List ℕ → ℕ
word_length [] = 0
word_length (b ∷ bs) = if is_blank b then 0 else suc (word_length bs)

-- ---- what a word spells

abbrev pub is_digit : ℕ → Bool
is_digit d = nat_le 48 d && nat_le d 57

-- the value of decimal digits that follow a number of value v
abbrev pub value_from : ℕ → List ℕ → Option ℕ
value_from v [] = Some v
value_from v (d ∷ ds) = if is_digit d then value_from (10 * v + (d - 48)) ds else None

abbrev pub in_range : Option ℕ → Option ℕ
in_range None = None
in_range (Some v) = if nat_lt v (2 ^ 32) then Some v else None

-- a number is 1 to 10 decimal digits with a value of at most 4294967295
abbrev pub number_of : List ℕ → Option ℕ
number_of ds = if nat_lt 0 (length ds) && nat_le (length ds) 10 then in_range (value_from 0 ds) else None

abbrev pub is_mark : ℕ → Bool
is_mark b = (b == 47) || (b == 42)

-- p is one turn of p with pick 0
abbrev pub plain : Option ℕ → Option Entry
plain None = None
plain (Some p) = Some record { proc = p; pick = 0; times = 1 }

-- p/k is one turn with pick k, p*r are r turns with pick 0
abbrev pub marked : Bool → Option ℕ → Option ℕ → Option Entry
marked slash None k = None
marked slash (Some p) None = None
marked true (Some p) (Some k) = Some record { proc = p; pick = k; times = 1 }
marked false (Some p) (Some r) = Some record { proc = p; pick = 0; times = r }

abbrev pub spelled_by : Option ℕ → List ℕ → Option Entry
spelled_by None w = plain (number_of w)
spelled_by (Some i) w = marked (slice_index w i == 47) (number_of (take i w)) (number_of (drop (i + 1) w))

-- what the word spells, by its first mark
abbrev pub spelled : List ℕ → Option Entry
spelled w = spelled_by (position is_mark w) w

-- ---- the schedule

-- a word with this meaning, for n processes, after so many turns
abbrev pub admitted_entry : ℕ → ℕ → ℕ → Option Entry → Result Entry ScheduleFault
admitted_entry n made place None = Err (BadWord place)
admitted_entry n made place (Some e) =
    if nat_lt e.proc n then (if nat_le (made + e.times) MAX_TURNS then Ok e else Err (TooMany place))
    else Err (NoProcess place)

abbrev pub admitted : ℕ → ℕ → Word → Result Entry ScheduleFault
admitted n made w = admitted_entry n made w.place (spelled w.bytes)

abbrev pub followed : Entry → Result (List Entry) ScheduleFault → Result (List Entry) ScheduleFault
followed e (Ok es) = Ok (e ∷ es)
followed e (Err fault) = Err fault

-- what the words spell after so many turns, or what is wrong with the first bad one
abbrev pub entries : ℕ → ℕ → List Word → Result (List Entry) ScheduleFault
entries n made [] = Ok []
entries n made (w ∷ ws) = elim (admitted n made w) as (λ r. Result (List Entry) ScheduleFault)
    [ Ok e ↦ followed e (entries n (made + e.times) ws) | Err fault ↦ Err fault ]

abbrev pub turn_of : Entry → Turn
turn_of e = record { proc = record { no = e.proc }; pick = e.pick }

abbrev pub turns_in : List Entry → List Turn
turns_in [] = []
turns_in (e ∷ es) = replicate e.times (turn_of e) ++ turns_in es

-- these turns and then those of the entries
abbrev pub after_turns : List Turn → Result (List Entry) ScheduleFault → Result (List Turn) ScheduleFault
after_turns ts (Ok es) = Ok (ts ++ turns_in es)
after_turns ts (Err fault) = Err fault

-- what a text says of n processes
abbrev pub text_entries : ℕ → List ℕ → Result (List Entry) ScheduleFault
text_entries n bytes = entries n 0 (words 0 bytes)

abbrev pub text_turns : ℕ → List ℕ → Result (List Turn) ScheduleFault
text_turns n bytes = after_turns [] (text_entries n bytes)
