-- A search, at one more item.
use Rattle.std.proofs.Common.{◌≡◌, ℕ, ◌+◌, ◌<◌, true, false, List, [], ◌∷◌, length, drop, get_or, Some, None, refl, sym, ap, ◌∙◌, subst}
use Rattle.std.specs.Prelude.{slice_get}
use Rattle.std.specs.Str.{bytes_eq}
use Rattle.std.proofs.lemmas.List.{drop_more}
use Rattle.stack_code.specs.declared.code.Variable.{Variable}
use Rattle.stack_code.specs.Seek.{first_named, is_named, in_block, in_blocks}

pub named_here : (name : List ℕ) (xs : List Variable) (i : ℕ) (x : Variable) → i < length xs → x ≡ get_or xs i x → bytes_eq x.name name ≡ true → first_named name (drop i xs) ≡ Some x
named_here name xs i x h is e =
    ap (first_named name) (drop_more xs i x h ∙ ap (λ y. y ∷ drop (i + 1) xs) (sym is))
    ∙ subst (λ b. elim b [ true ↦ Some x | false ↦ first_named name (drop (i + 1) xs) ] ≡ Some x) (sym e) refl

pub named_later : (name : List ℕ) (xs : List Variable) (i : ℕ) (x : Variable) → i < length xs → x ≡ get_or xs i x → bytes_eq x.name name ≡ false → first_named name (drop i xs) ≡ first_named name (drop (i + 1) xs)
named_later name xs i x h is e =
    ap (first_named name) (drop_more xs i x h ∙ ap (λ y. y ∷ drop (i + 1) xs) (sym is))
    ∙ subst (λ b. elim b [ true ↦ Some x | false ↦ first_named name (drop (i + 1) xs) ] ≡ first_named name (drop (i + 1) xs)) (sym e) refl

pub named_none : (name : List ℕ) (xs : List Variable) → first_named name (drop (length xs) xs) ≡ None
named_none name [] = refl
named_none name (x ∷ xs) = named_none name xs

local_step : (name : List ℕ) (slots : List Variable) (is : List ℕ) (k : ℕ) → k < length is → in_block name slots (drop k is) ≡ elim (is_named name (slice_get slots (get_or is k 0))) [ true ↦ slice_get slots (get_or is k 0) | false ↦ in_block name slots (drop (k + 1) is) ]
local_step name slots is k h = ap (in_block name slots) (drop_more is k 0 h)

pub local_found : (name : List ℕ) (slots : List Variable) (is : List ℕ) (k : ℕ) → k < length is → is_named name (slice_get slots (get_or is k 0)) ≡ true → in_block name slots (drop k is) ≡ slice_get slots (get_or is k 0)
local_found name slots is k h t =
    let i = get_or is k 0 in
    local_step name slots is k h
    ∙ subst (λ b. elim b [ true ↦ slice_get slots i | false ↦ in_block name slots (drop (k + 1) is) ] ≡ slice_get slots i) (sym t) refl

pub local_later : (name : List ℕ) (slots : List Variable) (is : List ℕ) (k : ℕ) → k < length is → is_named name (slice_get slots (get_or is k 0)) ≡ false → in_block name slots (drop k is) ≡ in_block name slots (drop (k + 1) is)
local_later name slots is k h t =
    let i = get_or is k 0 in
    local_step name slots is k h
    ∙ subst (λ b. elim b [ true ↦ slice_get slots i | false ↦ in_block name slots (drop (k + 1) is) ] ≡ in_block name slots (drop (k + 1) is)) (sym t) refl

pub local_none : (name : List ℕ) (slots : List Variable) (is : List ℕ) → in_block name slots (drop (length is) is) ≡ None
local_none name slots [] = refl
local_none name slots (i ∷ is) = local_none name slots is

-- ---- blocks, from the innermost

pub blocks_found : (name : List ℕ) (slots : List Variable) (b : List ℕ) (bs : List (List ℕ)) (x : Variable) → in_block name slots b ≡ Some x → in_blocks name slots (b ∷ bs) ≡ Some x
blocks_found name slots b bs x e = ap (λ o. elim o [ Some y ↦ Some y | None ↦ in_blocks name slots bs ]) e

pub blocks_later : (name : List ℕ) (slots : List Variable) (b : List ℕ) (bs : List (List ℕ)) → in_block name slots b ≡ None → in_blocks name slots (b ∷ bs) ≡ in_blocks name slots bs
blocks_later name slots b bs e = ap (λ o. elim o [ Some y ↦ Some y | None ↦ in_blocks name slots bs ]) e
