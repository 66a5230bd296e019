-- Where names were declared, by the list of the entries and by a map from names to places.
use Rattle.std.proofs.Common.{◌≡◌, ℕ, suc, ◌<◌, Bool, true, false, cond, List, [], ◌∷◌, ◌++◌, length, map, drop, Option, Some, None, refl, sym, ap, subst, ◌∙◌, ⊎_elim, arith}
use Rattle.std.specs.Prelude.{zero, IsSome, unwrap_or, slice_get, ◌||◌, nat_le}
use Rattle.std.specs.declared.alloc.Global.{Global}
use Rattle.std.specs.declared.vec.Vec.{Vec}
use Rattle.std.specs.Ordering.{nat_cmp, is_eq}
use Rattle.std.specs.Cmp.{eq_by_cmp_equiv}
use Rattle.std.specs.Cmp.Lexicographic.{slice_cmp, bytes_decides, nat_list_cmp_total, nat_list_eq_equiv}
use Rattle.std.specs.BTreeMap.{BTreeMap, UpdatesBy}
use Rattle.std.specs.Map.{lookup, IsKeyTest, AreApart, KeepsOthers}
use Rattle.std.specs.Str.{bytes_eq}
use Rattle.std.proofs.lemmas.Bool.{cases_Bool, cond-true, cond-false}
use Rattle.std.proofs.lemmas.List.{append-nil, append_assoc, map-append, length-map, same_from_push}
use Rattle.std.proofs.lemmas.Bool.Decides.{nat_tests}
use Rattle.std.proofs.lemmas.Option.{none-some, same_Some}
use Rattle.std.proofs.lemmas.Map.Text.{is_eq-slice_cmp}
use Rattle.c_checker.specs.declared.entries.Entry.{Entry}
use Rattle.c_checker.specs.declared.entries.Held.{Held}
use Rattle.c_checker.specs.declared.entries.Thing.{Thing}
use Rattle.c_checker.specs.Scope as scope
use Rattle.c_checker.specs.private.Places.{later, place, place_in, hidden_after, entries_of, Keeps}

-- ---- the map

apart : (bs cs ks : List ℕ) → bytes_eq bs cs ≡ false → bytes_eq bs ks ≡ true → bytes_eq cs ks ≡ false
apart bs cs ks n y = nat_list_eq_equiv.symm cs ks ∙ sym (nat_list_eq_equiv.congr bs ks cs y) ∙ n

apart_in_order : (bs cs ks : List ℕ) → bytes_eq bs cs ≡ false → is_eq (slice_cmp nat_cmp bs ks) ≡ true → is_eq (slice_cmp nat_cmp cs ks) ≡ false
apart_in_order bs cs ks n y = is_eq-slice_cmp cs ks ∙ apart bs cs ks n (sym (is_eq-slice_cmp bs ks) ∙ y)

module _ {K X : Type 0} (eq : K → K → Bool) (test : K → Bool) where
  other_entries : (old new : List (K × X)) → KeepsOthers eq test old new → (other : K → Bool) → IsKeyTest eq other → AreApart test other → lookup other new ≡ lookup other old
  unfolding KeepsOthers
  other_entries old new h = h

-- what a change under a name leaves under each name
pub place_changed : (bs : List ℕ) (m n : BTreeMap (Vec ℕ Global) (Option ℕ)) (w : Option ℕ)
    → UpdatesBy (λ x y. slice_cmp nat_cmp x.items y.items) (λ k. slice_cmp nat_cmp bs k.items) m n (Some w)
    → (cs : List ℕ) → place_in n cs ≡ cond (bytes_eq bs cs) w (place_in m cs)
place_changed bs m n w h cs =
    ⊎_elim
    (λ y. subst (λ l. place_in n l ≡ w) ((bytes_decides bs cs).0 y) (ap (λ o. unwrap_or o None) h.1) ∙ sym (cond-true (bytes_eq bs cs) w (place_in m cs) y))
    (λ e. ap (λ o. unwrap_or o None) (other_entries _ _ _ _ h.3 _ (λ x y. (eq_by_cmp_equiv nat_list_cmp_total).congr cs x.items y.items) (λ k. apart_in_order bs cs k.items e))
    ∙ sym (cond-false (bytes_eq bs cs) w (place_in m cs) e))
    (cases_Bool (bytes_eq bs cs))

-- ---- the list

later_cond : (b here : Bool) (n : ℕ) (o : Option ℕ) → later (cond b (Some n) o) here ≡ cond b (Some (suc n)) (later o here)
later_cond true here n o = refl
later_cond false here n o = refl

pub place_push : (name : List ℕ) (es : List Entry) (e : Entry) → place name (es ++ e ∷ []) ≡ cond (bytes_eq e.name name) (Some (length es)) (place name es)
place_push name [] e = refl
place_push name (x ∷ es) e =
    ap (λ o. later o (bytes_eq x.name name)) (place_push name es e) ∙ later_cond (bytes_eq e.name name) (bytes_eq x.name name) (length es) (place name es)

hidden_push : (before es : List Entry) (e : Entry) → hidden_after before (es ++ e ∷ []) ≡ hidden_after before es ++ place e.name (before ++ es) ∷ []
hidden_push before [] e = ap (λ xs. place e.name xs ∷ []) (sym (append-nil before))
hidden_push before (x ∷ es) e =
    ap (λ ps. place x.name before ∷ ps) (hidden_push (before ++ x ∷ []) es e ∙ ap (λ xs. hidden_after (before ++ x ∷ []) es ++ place e.name xs ∷ []) (append_assoc before (x ∷ []) es))

later_none : (o : Option ℕ) (here : Bool) → later o here ≡ None → (o ≡ None) × (here ≡ false)
later_none (Some k) here h = absurd (none-some (suc k) (sym h))
later_none None true h = absurd (none-some 0 (sym h))
later_none None false h = (refl, refl)

-- what comes of a place, by whether it is further on or here
later_some : (P : ℕ → Type 0) (o : Option ℕ) (here : Bool) (k : ℕ) → later o here ≡ Some k
    → ((j : ℕ) → o ≡ Some j → P (suc j)) → (o ≡ None → here ≡ true → P 0) → P k
later_some P (Some j) here k h further first = subst P (same_Some (suc j) k h) (further j refl)
later_some P None true k h further first = subst P (same_Some 0 k h) (first refl refl)
later_some P None false k h further first = absurd (none-some k h)

pub latest_none : (name : List ℕ) (found : Thing) (es : List Entry) → place name es ≡ None → scope.latest name found es ≡ found
latest_none name found [] h = refl
latest_none name found (x ∷ es) h =
    let none = later_none (place name es) (bytes_eq x.name name) h in
    ap (λ b. scope.latest name (cond b x.thing found) es) none.1 ∙ latest_none name found es none.0

pub latest_some : (name : List ℕ) (found : Thing) (es : List Entry) (k : ℕ) (e : Entry) → place name es ≡ Some k → slice_get es k ≡ Some e → scope.latest name found es ≡ e.thing
latest_some name found [] k e h at = absurd (none-some k h)
latest_some name found (x ∷ es) k e h at =
    later_some (λ i. slice_get (x ∷ es) i ≡ Some e → scope.latest name found (x ∷ es) ≡ e.thing) (place name es) (bytes_eq x.name name) k h
    (λ j q there. latest_some name (cond (bytes_eq x.name name) x.thing found) es j e q there)
    (λ q f there. ap (λ b. scope.latest name (cond b x.thing found) es) f ∙ latest_none name x.thing es q ∙ ap (λ (y : Entry). y.thing) (same_Some x e there))
    at

pub place_within : (name : List ℕ) (es : List Entry) (k : ℕ) → place name es ≡ Some k → k < length es
place_within name [] k h = absurd (none-some k h)
place_within name (x ∷ es) k h =
    later_some (λ i. i < suc (length es)) (place name es) (bytes_eq x.name name) k h
    (λ j q. let inner : j < length es = place_within name es j q in omega arith)
    (λ q f. omega arith)

-- a place is there, and none before this one
abbrev pub is_from : ℕ → Option ℕ → Bool
is_from from None = false
is_from from (Some k) = nat_le from k

from_start : (o : Option ℕ) (b : Bool) → (b || is_from 0 o) ≡ is_from 0 (later o b)
from_start None true = grind (arith, nat_tests)
from_start None false = refl
from_start (Some k) true = grind (arith, nat_tests)
from_start (Some k) false = grind (arith, nat_tests)

from_later : (n : ℕ) (o : Option ℕ) (b : Bool) → is_from n o ≡ is_from (suc n) (later o b)
from_later n None true = grind (arith, nat_tests)
from_later n None false = refl
from_later n (Some k) b = grind (arith, nat_tests)

pub has_name_from : (name : List ℕ) (es : List Entry) (n : ℕ) → scope.has_name name (drop n es) ≡ is_from n (place name es)
has_name_from name [] zero = refl
has_name_from name [] (suc n) = refl
has_name_from name (x ∷ es) zero = ap (λ b. bytes_eq x.name name || b) (has_name_from name es zero) ∙ from_start (place name es) (bytes_eq x.name name)
has_name_from name (x ∷ es) (suc n) = has_name_from name es n ∙ from_later n (place name es) (bytes_eq x.name name)

-- ---- both

pub keeps_push : (held : List Held) (m n : BTreeMap (Vec ℕ Global) (Option ℕ)) (h : Held) → Keeps held m → h.hides ≡ place h.entry.name (entries_of held)
    → ((name : List ℕ) → place_in n name ≡ cond (bytes_eq h.entry.name name) (Some (length held)) (place_in m name)) → Keeps (held ++ h ∷ []) n
keeps_push held m n h kept hides changed =
    let split : entries_of (held ++ h ∷ []) ≡ entries_of held ++ h.entry ∷ [] = map-append (λ (x : Held). x.entry) held (h ∷ []) in
    record {
      hides = map-append (λ (x : Held). x.hides) held (h ∷ []) ∙ ap (λ ps. ps ++ h.hides ∷ []) kept.hides ∙ ap (λ p. hidden_after [] (entries_of held) ++ p ∷ []) hides
          ∙ sym (hidden_push [] (entries_of held) h.entry) ∙ ap (hidden_after []) (sym split);
      places = λ name. changed name ∙ ap (λ o. cond (bytes_eq h.entry.name name) (Some (length held)) o) (kept.places name)
          ∙ ap (λ l. cond (bytes_eq h.entry.name name) (Some l) (place name (entries_of held))) (sym (length-map held (λ (x : Held). x.entry)))
          ∙ sym (place_push name (entries_of held) h.entry) ∙ ap (place name) (sym split);
    }

-- the last entry is under its name
last_there : (held : List Held) (m : BTreeMap (Vec ℕ Global) (Option ℕ)) (h : Held) → Keeps (held ++ h ∷ []) m
    → (name : List ℕ) → place_in m name ≡ cond (bytes_eq h.entry.name name) (Some (length (entries_of held))) (place name (entries_of held))
last_there held m h kept name = kept.places name ∙ ap (place name) (map-append (λ (x : Held). x.entry) held (h ∷ [])) ∙ place_push name (entries_of held) h.entry

pub last_is_there : (held : List Held) (m : BTreeMap (Vec ℕ Global) (Option ℕ)) (h : Held) → Keeps (held ++ h ∷ []) m → IsSome (place_in m h.entry.name)
last_is_there held m h kept =
    subst IsSome (sym (last_there held m h kept h.entry.name ∙ cond-true (bytes_eq h.entry.name h.entry.name) _ _ (nat_list_eq_equiv.refl h.entry.name))) refl

pub keeps_pop : (held : List Held) (m n : BTreeMap (Vec ℕ Global) (Option ℕ)) (h : Held) → Keeps (held ++ h ∷ []) m
    → ((name : List ℕ) → place_in n name ≡ cond (bytes_eq h.entry.name name) h.hides (place_in m name)) → Keeps held n
keeps_pop held m n h kept changed =
    let both : (map (λ (x : Held). x.hides) held ≡ hidden_after [] (entries_of held)) × (h.hides ≡ place h.entry.name (entries_of held)) =
    same_from_push _ _ _ _ (sym (map-append (λ (x : Held). x.hides) held (h ∷ [])) ∙ kept.hides ∙ ap (hidden_after []) (map-append (λ (x : Held). x.entry) held (h ∷ []))
    ∙ hidden_push [] (entries_of held) h.entry) in
    record { hides = both.0; places = λ name. changed name ∙ by name both.1 (bytes_eq h.entry.name name) refl }
  where
    by : (name : List ℕ) → h.hides ≡ place h.entry.name (entries_of held) → (b : Bool) → bytes_eq h.entry.name name ≡ b
        → cond (bytes_eq h.entry.name name) h.hides (place_in m name) ≡ place name (entries_of held)
    by name e true f = cond-true (bytes_eq h.entry.name name) _ _ f ∙ e ∙ ap (λ l. place l (entries_of held)) ((bytes_decides h.entry.name name).0 f)
    by name e false f = cond-false (bytes_eq h.entry.name name) _ _ f ∙ last_there held m h kept name ∙ cond-false (bytes_eq h.entry.name name) _ _ f
