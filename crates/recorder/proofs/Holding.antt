-- The file that is written, as it grows.
use Rattle.std.proofs.Common.{◌≡◌, ℕ, ◌+◌, ◌≤◌, List, [], ◌++◌, length, take, Option, None, Some, refl, sym, ap, ◌∙◌, subst, arith, length-append}
use Rattle.std.specs.Prelude.{unwrap_or, IsSome}
use Rattle.std.specs.FinMap.{insert}
use Rattle.std.proofs.lemmas.List.{take-append-le}
use Rattle.std.proofs.Math.Seq.{take-append-add}
use Rattle.nm_outside.specs.Files.{Files, file_in, extended, ExtendsPart}
use Rattle.nm_outside.proofs.Kept.{insert_twice, get_inserted}
use Rattle.recorder.specs.Recording.{holding}
use Rattle.recorder.specs.private.Stages.{Place, IsHeld, HoldsFront}

extend_held : (start : Option Files) (name opened bytes piece : List ℕ) → (IsSome (holding start name bytes) → opened ≡ name)
    → extended (holding start name bytes) opened piece ≡ holding start name (bytes ++ piece)
extend_held None name opened bytes piece named = refl
extend_held (Some fs) name opened bytes piece named =
    ap (λ (n : List ℕ). extended (Some (insert fs name bytes)) n piece) (named refl)
    ∙ ap (λ (o : Option (List ℕ)). Some (insert (insert fs name bytes) name (unwrap_or o [] ++ piece))) (get_inserted fs name bytes)
    ∙ ap Some (insert_twice fs name bytes (bytes ++ piece))

some_before : (files : Option Files) (name piece : List ℕ) → IsSome (extended files name piece) → IsSome files
some_before None name piece h = h
some_before (Some fs) name piece h = refl

module _ (at : Place) (files new : Option Files) (opened : List ℕ) (bytes piece : List ℕ) (h : IsHeld at files opened bytes) where
  grown : (part : List ℕ) → new ≡ extended files opened part → new ≡ holding at.start at.name (bytes ++ part)
  grown part is =
      is ∙ ap (λ (fs : Option Files). extended fs opened part) h.is
      ∙ extend_held at.start at.name opened bytes part (λ some. h.name_is (subst (λ (fs : Option Files). IsSome fs) (sym h.is) some))

  -- one piece more
  pub held_more : (opened' : List ℕ) → new ≡ extended files opened piece → opened' ≡ opened → IsHeld at new opened' (bytes ++ piece)
  held_more opened' is same = record {
    is = grown piece is;
    name_is = λ some. same ∙ h.name_is (some_before files opened piece (subst (λ (fs : Option Files). IsSome fs) is some));
  }

  -- a part of a piece
  pub held_part : (rest : List ℕ) → ExtendsPart files opened piece new → HoldsFront at new ((bytes ++ piece) ++ rest)
  held_part rest p =
      let n = p.0 in
      let short : n ≤ length piece = p.1 in
      let seam : take (length bytes + n) ((bytes ++ piece) ++ rest) ≡ bytes ++ take n piece =
      take-append-le (length bytes + n) (bytes ++ piece) rest (omega (arith, short, length-append bytes piece))
      ∙ take-append-add bytes piece n in
      record {
        many = length bytes + n;
        within = omega (arith, short, length-append bytes piece, length-append (bytes ++ piece) rest);
        is = grown (take n piece) p.2 ∙ ap (holding at.start at.name) (sym seam);
      }

-- what the named file holds, where files are told
pub held_file : (at : Place) (files : Option Files) (opened bytes : List ℕ) → IsHeld at files opened bytes → IsSome files → file_in files opened ≡ Some bytes
held_file at files opened bytes h some =
    ap (λ (n : List ℕ). file_in files n) (h.name_is some) ∙ ap (λ (fs : Option Files). file_in fs at.name) h.is
    ∙ by at.start (subst (λ (fs : Option Files). IsSome fs) h.is some)
  where
    by : (start : Option Files) → IsSome (holding start at.name bytes) → file_in (holding start at.name bytes) at.name ≡ Some bytes
    by None s = absurd cc
    by (Some fs) s = get_inserted fs at.name bytes

-- a file that was begun is told where the files were
pub held_told : (at : Place) (files : Option Files) (opened bytes : List ℕ) → IsHeld at files opened bytes → IsSome at.start → IsSome files
held_told at files opened bytes h some = subst (λ (fs : Option Files). IsSome fs) (sym h.is) (by at.start some)
  where
    by : (start : Option Files) → IsSome start → IsSome (holding start at.name bytes)
    by None s = s
    by (Some fs) s = refl
