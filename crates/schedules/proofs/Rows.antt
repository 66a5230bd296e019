-- Worked texts: the definitions, computed.
use Rattle.std.proofs.Common.{◌≡◌, ℕ, [], ◌∷◌, Ok, Err, refl}
use Rattle.std.specs.Prelude.{codes}
use Rattle.schedules.specs.declared.reader.Entry.{Entry}
use Rattle.schedules.specs.declared.reader.ScheduleFault.TheVariants.{BadWord, NoProcess, TooMany}
use Rattle.schedules.specs.Texts.{text_entries}

abbrev entry : ℕ → ℕ → ℕ → Entry
entry proc pick times = record { proc = proc; pick = pick; times = times }

three_words : text_entries 3 (codes "1*6 2*6 0*10") ≡ Ok (entry 1 0 6 ∷ entry 2 0 6 ∷ entry 0 0 10 ∷ [])
three_words = refl

no_words : text_entries 1 (codes "  ") ≡ Ok []
no_words = refl

picks : text_entries 2 (codes " 1/7 0 ") ≡ Ok (entry 1 7 1 ∷ entry 0 0 1 ∷ [])
picks = refl

many_turns : text_entries 1 (codes "0*1000000") ≡ Ok (entry 0 0 1000000 ∷ [])
many_turns = refl

too_many_turns : text_entries 1 (codes "0*1000001") ≡ Err (TooMany 0)
too_many_turns = refl

too_many_together : text_entries 1 (codes "0*999999 0 0") ≡ Err (TooMany 11)
too_many_together = refl

no_process : text_entries 1 (codes "0 1") ≡ Err (NoProcess 2)
no_process = refl

bad_word : text_entries 1 (codes "0 x") ≡ Err (BadWord 2)
bad_word = refl

two_marks : text_entries 9 (codes "1*2/3") ≡ Err (BadWord 0)
two_marks = refl

no_number : text_entries 9 (codes "1/") ≡ Err (BadWord 0)
no_number = refl

great_pick : text_entries 1 (codes "0/4294967295") ≡ Ok (entry 0 4294967295 1 ∷ [])
great_pick = refl

too_great_pick : text_entries 1 (codes "0/4294967296") ≡ Err (BadWord 0)
too_great_pick = refl

ten_digits : text_entries 1 (codes "0000000000") ≡ Ok (entry 0 0 1 ∷ [])
ten_digits = refl

eleven_digits : text_entries 1 (codes "00000000000") ≡ Err (BadWord 0)
eleven_digits = refl
