-- A part of a piece that a sink keeps.
use Rattle.std.proofs.Common.{◌≡◌, ℕ, ◌+◌, ◌≤◌, List, [], ◌++◌, length, take, drop, Option, None, Some, Result, Ok, Err, false, cond, ltb, arith, rules, ap, sym, subst, ◌∙◌, length-append}
use Rattle.std.specs.Prelude.{⊤, IsOk, OnOk, OnErr, is_err}
use Rattle.std.specs.Option.{is_some}
use Rattle.std.proofs.lemmas.Bool.{true≢false}
use Rattle.std.proofs.lemmas.Bool.Decides.{nat_tests}
use Rattle.std.specs.Io.KnownBytes.{Appends}
use Rattle.std.proofs.Math.Seq.{take-append_seam}
use Rattle.std.proofs.lemmas.List.{append-nil, length-take, take-append-drop}
use Rattle.nm_outside.specs.Files.{Files, AppendsPart, ExtendsPart, extended}
use Rattle.nm_outside.specs.Failing.{kept_within, part_of}
use Rattle.nm_outside.specs.declared.cabinet.Failed.{Failed}

-- what was given is the front of the piece
pub part_given : (a b : Option (List ℕ)) (piece front rest : List ℕ) → piece ≡ front ++ rest → Appends a b front → AppendsPart a b piece
part_given a b piece front rest e given =
    (length front, omega (arith, ap length e, length-append front rest), subst (λ (xs : List ℕ). Appends a b xs) (sym (ap (take (length front)) e ∙ take-append_seam front rest)) given)

-- the whole piece is a part of it
pub whole_part : (old new : Option Files) (name piece : List ℕ) → new ≡ extended old name piece → ExtendsPart old name piece new
whole_part old new name piece e =
    let all : take (length piece) piece ≡ piece = ap (take (length piece)) (sym (append-nil piece)) ∙ take-append_seam piece [] in
    (length piece, omega arith, e ∙ ap (extended old name) (sym all))

taken : (n : ℕ) (piece : List ℕ) → take n piece ≡ take (length (take n piece)) piece
taken n piece = sym (ap (take (length (take n piece))) (sym (take-append-drop n piece)) ∙ take-append_seam (take n piece) (drop n piece))

-- a call that fails kept a part
pub part_put : (r : Result ⊤ Failed) (kept : Option ℕ) (old new : Option Files) (name piece : List ℕ) → is_err r ≡ is_some kept → new ≡ extended old name (part_of piece kept)
    → OnErr r (ExtendsPart old name piece new)
part_put (Ok done) kept old new name piece fails e = tt
part_put (Err e') None old new name piece fails e = absurd cc
part_put (Err e') (Some n) old new name piece fails e =
    (length (take n piece), omega (arith, length-take n piece), e ∙ ap (extended old name) (taken n piece))

-- a call that succeeds put the whole piece
pub all_put : (r : Result ⊤ Failed) (kept : Option ℕ) (old new : Option Files) (name piece : List ℕ) → is_err r ≡ is_some kept → new ≡ extended old name (part_of piece kept)
    → OnOk r (new ≡ extended old name piece)
all_put (Ok done) None old new name piece fails e = e
all_put (Ok done) (Some n) old new name piece fails e = absurd cc
all_put (Err e') kept old new name piece fails e = tt

-- a call that isn't to fail succeeds within the room
pub puts_all : (r : Result ⊤ Failed) (room : ℕ) (bytes piece : List ℕ) (failing : Option ℕ) → is_err r ≡ is_some (kept_within room bytes piece failing) → failing ≡ None → length bytes + length piece ≤ room → IsOk r
puts_all (Ok done) room bytes piece failing fails none fits = search rules
puts_all (Err e') room bytes piece failing fails none fits =
    let within : ltb room (length bytes + length piece) ≡ false = grind (arith, nat_tests) in
    absurd (true≢false (fails ∙ ap (λ b. is_some (cond b (Some 0) failing)) within ∙ ap is_some none))
