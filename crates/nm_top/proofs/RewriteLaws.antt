-- The file that is written, as it grows entry by entry.
use Rattle.std.proofs.Common.{◌≡◌, ℕ, suc, ◌+◌, ◌<◌, ◌≤◌, List, [], ◌∷◌, ◌++◌, length, get_or, take, drop, Option, None, Some, refl, sym, ap, ◌∙◌, subst, arith, append_assoc, length-append, add-one}
use Rattle.std.specs.Prelude.{unwrap_or, IsSome, All}
use Rattle.std.specs.List.{flat_map}
use Rattle.std.specs.FinMap.{insert}
use Rattle.std.proofs.Math.Seq.{take-suc, drop-cons, take-append-add}
use Rattle.std.proofs.lemmas.List.{append-nil, take-append-drop, take-append-le}
use Rattle.std.proofs.lemmas.List.Concat.{flat_map-append}
use Rattle.std.proofs.lemmas.List.Elements.{All-nil, All-push}
use Rattle.nm_base.specs.Fitting.{EachFits, none, more}
use Rattle.nm_outside.specs.Files.{Files, file_in, emptied, extended, ExtendsPart, HasRoom}
use Rattle.nm_outside.proofs.Kept.{insert_twice, get_inserted}
use Rattle.trace_file.specs.declared.writer.TraceWriter.{TraceWriter}
use Rattle.trace_file.specs.Writing.{Writes}
use Rattle.nm_top.specs.private.Rewriting.{Place, holding, IsSoFar, HoldsFront}

-- what each element is, when it fits those before it
pub each_is : {X : Type 0} {Fits : List X → X → Type 0} (P : X → Type 0) → ((xs : List X) (x : X) → Fits xs x → P x) → {xs : List X} → EachFits Fits xs → All P xs
each_is P is none = All-nil P
each_is P is (more {xs = xs} {x = x} g f) = All-push P xs x (each_is P is g) (is xs x f)

-- ---- the entries, from the first on

module _ {X : Type 0} (f : X → List ℕ) (bytes : List ℕ) (xs : List X) (i : ℕ) (d : X) (within : i < length xs) where
  abbrev before : List ℕ
  before = bytes ++ flat_map f (take i xs)

  -- one entry more
  pub first_more : bytes ++ flat_map f (take (i + 1) xs) ≡ before ++ f (get_or xs i d)
  first_more =
      let x = get_or xs i d in
      ap (λ (k : ℕ). bytes ++ flat_map f (take k xs)) (add-one i)
      ∙ ap (λ (ys : List X). bytes ++ flat_map f ys) (take-suc xs i d within)
      ∙ ap (λ (zs : List ℕ). bytes ++ zs) (flat_map-append f (take i xs) (x ∷ []) ∙ ap (λ (zs : List ℕ). flat_map f (take i xs) ++ zs) (append-nil (f x)))
      ∙ sym (append_assoc bytes (flat_map f (take i xs)) (f x))

  -- all of them
  pub all_entries : bytes ++ flat_map f xs ≡ (before ++ f (get_or xs i d)) ++ flat_map f (drop (suc i) xs)
  all_entries =
      let x = get_or xs i d in
      let rest = flat_map f (drop (suc i) xs) in
      ap (λ (ys : List X). bytes ++ flat_map f ys) (sym (take-append-drop i xs) ∙ ap (λ (ys : List X). take i xs ++ ys) (drop-cons xs i d within))
      ∙ ap (λ (zs : List ℕ). bytes ++ zs) (flat_map-append f (take i xs) (x ∷ drop (suc i) xs))
      ∙ sym (append_assoc bytes (flat_map f (take i xs)) (f x ++ rest))
      ∙ sym (append_assoc before (f x) rest)

  -- what is enough for all is enough for the first ones
  pub enough : (room : ℕ) → length bytes + length (flat_map f xs) ≤ room → length before + length (f (get_or xs i d)) ≤ room
  enough room fits =
      let x = get_or xs i d in
      omega (
        arith,
        fits,
        length-append bytes (flat_map f xs),
        ap length all_entries,
        length-append (before ++ f x) (flat_map f (drop (suc i) xs)),
        length-append before (f x),
      )

-- ---- the file

-- a file that was begun holds what was put into it
pub begun_holding : (at : Place) (piece : List ℕ) → extended (emptied at.start at.name) at.name piece ≡ holding at piece
begun_holding at piece = by at.start at.name
  where
    by : (start : Option Files) (name : List ℕ) → extended (emptied start name) name piece ≡ holding (record { start = start; name = name }) piece
    by None name = refl
    by (Some fs) name =
        ap (λ (o : Option (List ℕ)). Some (insert (insert fs name []) name (unwrap_or o [] ++ piece))) (get_inserted fs name [])
        ∙ ap Some (insert_twice fs name [] piece)

extend_held : (start : Option Files) (name opened bytes piece : List ℕ) → (IsSome (holding (record { start = start; name = name }) bytes) → opened ≡ name)
    → extended (holding (record { start = start; name = name }) bytes) opened piece ≡ holding (record { start = start; name = name }) (bytes ++ piece)
extend_held None name opened bytes piece named = refl
extend_held (Some fs) name opened bytes piece named =
    ap (λ (n : List ℕ). extended (Some (insert fs name bytes)) n piece) (named refl)
    ∙ ap (λ (o : Option (List ℕ)). Some (insert (insert fs name bytes) name (unwrap_or o [] ++ piece))) (get_inserted fs name bytes)
    ∙ ap Some (insert_twice fs name bytes (bytes ++ piece))

some_before : (files : Option Files) (name piece : List ℕ) → IsSome (extended files name piece) → IsSome files
some_before None name piece h = h
some_before (Some fs) name piece h = refl

module _ (at : Place) (w : TraceWriter) (files : Option Files) (opened : List ℕ) (bytes : List ℕ) (h : IsSoFar at w files opened bytes) where
  grown : (new : Option Files) (part : List ℕ) → new ≡ extended files opened part → new ≡ holding at (bytes ++ part)
  grown new part is =
      is ∙ ap (λ (fs : Option Files). extended fs opened part) h.is
      ∙ extend_held at.start at.name opened bytes part (λ some. h.name_is (subst (λ (fs : Option Files). IsSome fs) (sym h.is) some))

  -- one piece more
  pub so_far_more : (piece : List ℕ) (w' : TraceWriter) (new : Option Files) (opened' : List ℕ) → ((b : List ℕ) → Writes w b → Writes w' (b ++ piece))
      → new ≡ extended files opened piece → opened' ≡ opened → IsSoFar at w' new opened' (bytes ++ piece)
  so_far_more piece w' new opened' writes is same = record {
    writes = writes bytes h.writes;
    is = grown new piece is;
    name_is = λ some. same ∙ h.name_is (some_before files opened piece (subst (λ (fs : Option Files). IsSome fs) is some));
  }

  -- the last piece
  pub whole_file : (piece : List ℕ) (new : Option Files) → new ≡ extended files opened piece → new ≡ holding at (bytes ++ piece)
  whole_file piece new is = grown new piece is

  -- a part of a piece: a front of all that is to come
  pub part_more : (piece rest : List ℕ) (new : Option Files) → ExtendsPart files opened piece new → HoldsFront at new ((bytes ++ piece) ++ rest)
  part_more piece rest new p =
      let n = p.0 in
      let short : n ≤ length piece = p.1 in
      let seam : take (length bytes + n) ((bytes ++ piece) ++ rest) ≡ bytes ++ take n piece =
      take-append-le (length bytes + n) (bytes ++ piece) rest (omega (arith, short, length-append bytes piece))
      ∙ take-append-add bytes piece n in
      record {
        many = length bytes + n;
        within = omega (arith, short, length-append bytes piece, length-append (bytes ++ piece) rest);
        is = grown new (take n piece) p.2 ∙ ap (holding at) (sym seam);
      }

  -- room for a piece
  pub room_for : (sure : Option ℕ) (room : ℕ) (piece : List ℕ) → IsSome at.start → sure ≡ Some room → length bytes + length piece ≤ room → HasRoom sure (file_in files opened) piece
  room_for sure room piece told is fits =
      subst (λ (s : Option ℕ). HasRoom s (file_in files opened) piece) (sym is)
      (subst (λ (o : Option (List ℕ)). HasRoom (Some room) o piece) (sym here) fits)
    where
      some_now : (start : Option Files) (name : List ℕ) → IsSome start → IsSome (holding (record { start = start; name = name }) bytes)
      some_now None name s = s
      some_now (Some fs) name s = refl

      inside : (start : Option Files) (name : List ℕ) → IsSome start → file_in (holding (record { start = start; name = name }) bytes) name ≡ Some bytes
      inside None name s = absurd cc
      inside (Some fs) name s = get_inserted fs name bytes

      here : file_in files opened ≡ Some bytes
      here =
          ap (λ (n : List ℕ). file_in files n) (h.name_is (subst (λ (fs : Option Files). IsSome fs) (sym h.is) (some_now at.start at.name told)))
          ∙ ap (λ (fs : Option Files). file_in fs at.name) h.is ∙ inside at.start at.name told
