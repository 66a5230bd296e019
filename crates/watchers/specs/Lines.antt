-- The line that a watcher says.
use Rattle.std.specs.Prelude.{◌≡◌, ◌≢◌, ℕ, ◌≤◌, List, take, All}
use Rattle.watchers.specs.declared.note.Note.{Note}

-- the bytes of a note
abbrev pub text_in : Note → List ℕ
text_in note = take note.len note.bytes

-- the note is the line of this text, at most 192 bytes and none of them a newline
pub record IsLine (text : List ℕ) (note : Note) : Type 0 where
  pub few : note.len ≤ 192
  pub is : text_in note ≡ text
  pub one_line : All (λ b. b ≢ 10) text
