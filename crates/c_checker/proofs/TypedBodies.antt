-- What is known in a function's body fits the whole program, where no rule is broken.
use Rattle.std.proofs.Common.{◌≡◌, ℕ, zero, suc, ◌≤◌, Bool, true, false, List, [], ◌∷◌, ◌++◌, length, take, Option, Some, None, refl, sym, ap, ◌∙◌, subst, append_assoc}
use Rattle.std.specs.Prelude.{is_none, if◌then◌else◌, codes}
use Rattle.std.specs.Str.{bytes_eq}
use Rattle.std.specs.List.{list_all}
use Rattle.c_tree.specs.declared.program.Slot.{Slot}
use Rattle.c_tree.specs.declared.program.PExpr.{PExpr}
use Rattle.c_tree.specs.declared.tree.Expr.{Expr}
use Rattle.c_tree.specs.Typing as typing
use Rattle.c_tree.specs.Checks.{blocks_fit, local_fits}
use Rattle.c_checker.specs.declared.fault.CheckFault.{CheckFault}
use Rattle.c_checker.specs.declared.headings.Heading.{Heading}
use Rattle.c_checker.specs.declared.entries.Entry.{Entry}
use Rattle.c_checker.specs.declared.entries.Thing.{Thing}
use Rattle.c_checker.specs.declared.state.Body.{Body}
use Rattle.c_checker.specs.Found.{Found, pure, lift, note, ◌>>=◌, ◌>>◌}
use Rattle.c_checker.specs.Scope.{built_in, latest, find, params_of}
use Rattle.c_checker.specs.Expressions.{part_of}
use Rattle.c_checker.specs.Statements.{Writes, get, slots, visible, value, optional}
use Rattle.c_checker.proofs.TypedLists.{Front, front_same, front_then, nil_left, nil_right}
use Rattle.c_checker.proofs.TypedSorts.{Used}
use Rattle.c_checker.proofs.TypedReads as reads
use Rattle.c_checker.proofs.TypedReads.{AllShort}
use Rattle.c_checker.proofs.TypedParts.{ThingFits, NamesFit}
use Rattle.c_checker.proofs.TypedExprs.{expr_fits}

-- ---- names

module _ (final : typing.Declarations) (params : ℕ → List Slot) where
  abbrev pub EntriesFit : List Entry → Type 0
  EntriesFit [] = Unit {0}
  EntriesFit (e ∷ es) = ThingFits final params e.thing × EntriesFit es

  if_fits : (c : Bool) (x y : Thing) → ThingFits final params x → ThingFits final params y → ThingFits final params (if c then x else y)
  if_fits true x y h g = h
  if_fits false x y h g = g

  built_in_fits : (name : List ℕ) → ThingFits final params (built_in name)
  built_in_fits name =
      if_fits (bytes_eq name (codes "self")) _ _ tt (
      if_fits (bytes_eq name (codes "nprocs")) _ _ tt (
      if_fits (bytes_eq name (codes "send")) _ _ tt (
      if_fits (bytes_eq name (codes "receive")) _ _ tt (
      if_fits (bytes_eq name (codes "word")) _ _ tt (
      if_fits (bytes_eq name (codes "words")) _ _ tt (
      if_fits (bytes_eq name (codes "from")) _ _ tt (
      if_fits (bytes_eq name (codes "via")) _ _ tt (
      if_fits (bytes_eq name (codes "printf")) _ _ tt tt))))))))

  latest_fits : (name : List ℕ) (found : Thing) (es : List Entry) → ThingFits final params found → EntriesFit es → ThingFits final params (latest name found es)
  latest_fits name found [] h fits = h
  latest_fits name found (e ∷ es) h fits = latest_fits name (if bytes_eq e.name name then e.thing else found) es (if_fits (bytes_eq e.name name) e.thing found fits.0 h) fits.1

  pub find_fits : (es : List Entry) (name : List ℕ) → EntriesFit es → ThingFits final params (find es name)
  find_fits es name fits = latest_fits name (built_in name) es (built_in_fits name) fits

  pub take_fits : (n : ℕ) (es : List Entry) → EntriesFit es → EntriesFit (take n es)
  take_fits zero es fits = tt
  take_fits (suc n) [] fits = tt
  take_fits (suc n) (e ∷ es) fits = (fits.0, take_fits n es fits.1)

  pub append_fits : (es fs : List Entry) → EntriesFit es → EntriesFit fs → EntriesFit (es ++ fs)
  append_fits [] fs h g = g
  append_fits (e ∷ es) fs h g = (h.0, append_fits es fs h.1 g)

-- ---- from one state to a later one

pub record Grows (s t : Body) : Type 0 where
  pub texts : Front s.texts t.texts
  pub locals : Front s.locals t.locals
  pub params : t.params ≡ s.params

pub grows_same : (s : Body) → Grows s s
grows_same s = record { texts = front_same s.texts; locals = front_same s.locals; params = refl }

pub grows_then : {s t u : Body} → Grows s t → Grows t u → Grows s u
grows_then a b = record { texts = front_then a.texts b.texts; locals = front_then a.locals b.locals; params = b.params ∙ a.params }

front_after : (ps : List Slot) {a b : List Slot} → Front a b → Front (ps ++ a) (ps ++ b)
front_after ps {a = a} f = record { rest = f.rest; is = ap (λ l. ps ++ l) f.is ∙ sym (append_assoc ps a f.rest) }

module _ (final : typing.Declarations) (functions : List Heading) (ps : List Slot) where
  -- the whole function's texts and slots begin with these
  pub record Ended (s : Body) : Type 0 where
    pub texts : Front s.texts final.texts
    pub slots : Front (ps ++ s.locals) final.slots

  pub ended_before : {s t : Body} → Grows s t → Ended t → Ended s
  ended_before g e = record { texts = front_then g.texts e.texts; slots = front_then (front_after ps g.locals) e.slots }

  -- what is known of a state where no rule was broken
  pub record Known (s : Body) : Type 0 where
    pub entries : EntriesFit final (params_of functions) s.entries
    pub params : s.params ≡ length ps
    pub short : AllShort s.texts
    pub locals : list_all local_fits s.locals ≡ true
    pub room : slots s ≤ 256

  -- The state grows, and where no rule is broken and the whole begins with what is after it, what is known stays known and Q holds.
  pub record Good {A : Type 0} (m : Writes A) (Q : Body → A → Body → Type 0) : Type 0 where
    pub grows : (s : Body) → Grows s (m s).state
    pub keeps : (s : Body) → (m s).faults ≡ [] → Ended (m s).state → Known s → Known (m s).state
    pub holds : (s : Body) → (m s).faults ≡ [] → Ended (m s).state → Known s → Q s (m s).value (m s).state

  pub good_pure : {A : Type 0} {Q : Body → A → Body → Type 0} (x : A) → ((s : Body) → Q s x s) → Good (pure x) Q
  good_pure x p = record { grows = λ s. grows_same s; keeps = λ s h e k. k; holds = λ s h e k. p s }

  pub good_bind : {A B : Type 0} {P : Body → A → Body → Type 0} {Q : Body → B → Body → Type 0} {m : Writes A} {f : A → Writes B} → Good m P
      → ((x : A) → Good (f x) (λ t y u. (s : Body) → P s x t → Q s y u)) → Good (m >>= f) Q
  good_bind {m = m} {f = f} a b = record {
    grows = λ s. grows_then (a.grows s) ((b (m s).value).grows (m s).state);
    keeps = λ s h e k.
        let after = b (m s).value in
        after.keeps (m s).state (nil_right (m s).faults (f (m s).value (m s).state).faults h) e
        (a.keeps s (nil_left (m s).faults (f (m s).value (m s).state).faults h) (ended_before (after.grows (m s).state) e) k);
    holds = λ s h e k.
        let after = b (m s).value in
        let first = nil_left (m s).faults (f (m s).value (m s).state).faults h in
        let mid = ended_before (after.grows (m s).state) e in
        after.holds (m s).state (nil_right (m s).faults (f (m s).value (m s).state).faults h) e (a.keeps s first mid k) s (a.holds s first mid k);
  }

  pub good_weak : {A : Type 0} {P Q : Body → A → Body → Type 0} {m : Writes A} → Good m P → ((s : Body) (x : A) (t : Body) → P s x t → Q s x t) → Good m Q
  good_weak {m = m} a k = record { grows = a.grows; keeps = a.keeps; holds = λ s h e w. k s (m s).value (m s).state (a.holds s h e w) }

  pub good_map : {A B : Type 0} {P : Body → A → Body → Type 0} {Q : Body → B → Body → Type 0} {m : Writes A} (f : A → B) → Good m P
      → ((s : Body) (x : A) (t : Body) → P s x t → Q s (f x) t) → Good (m >>= (λ x. pure (f x))) Q
  good_map f a k = good_bind {f = λ x. pure (f x)} a (λ x. good_pure (f x) (λ t s p. k s x t p))

  pub good_noted : {B : Type 0} {Q : Body → B → Body → Type 0} (faults : List CheckFault) {m : Writes B} → Good m (λ s y t. faults ≡ [] → Q s y t) → Good (note faults >> m) Q
  good_noted faults {m = m} a = record {
    grows = a.grows;
    keeps = λ s h e k. a.keeps s (nil_right faults (m s).faults h) e k;
    holds = λ s h e k. a.holds s (nil_right faults (m s).faults h) e k (nil_left faults (m s).faults h);
  }

  pub good_lift : {A : Type 0} {Q : Body → A → Body → Type 0} (found : Found (Unit {0}) A) → (found.faults ≡ [] → (s : Body) → Q s found.value s) → Good (lift found) Q
  good_lift found k = record { grows = λ s. grows_same s; keeps = λ s h e w. w; holds = λ s h e w. k h s }

  pub good_get : {A : Type 0} {Q : Body → A → Body → Type 0} {f : Body → Writes A} → ((x : Body) → Good (f x) (λ s y t. x ≡ s → Q s y t)) → Good (get >>= f) Q
  good_get {f = f} k = record {
    grows = λ s. (k s).grows s;
    keeps = λ s h e w. (k s).keeps s h e w;
    holds = λ s h e w. (k s).holds s h e w refl;
  }

  -- ---- blocks

  -- these are the blocks that were begun from one state to the other, with their locals
  abbrev pub Laid : Body → Body → List (List ℕ) → Type 0
  Laid s t bs = (rest : List (List ℕ)) → blocks_fit final.slots (slots t) t.blocks rest ≡ true → blocks_fit final.slots (slots s) s.blocks (bs ++ rest) ≡ true

  pub laid_then : (s t u : Body) (cs bs : List (List ℕ)) → Laid s t cs → Laid t u bs → Laid s u (cs ++ bs)
  laid_then s t u cs bs a b rest h = subst (λ l. blocks_fit final.slots (slots s) s.blocks l ≡ true) (sym (append_assoc cs bs rest)) (a (bs ++ rest) (b rest h))

  -- no block and no local was begun
  pub record Still (s t : Body) : Type 0 where
    pub slots : slots t ≡ slots s
    pub blocks : t.blocks ≡ s.blocks

  pub still_same : (s : Body) → Still s s
  still_same s = record { slots = refl; blocks = refl }

  pub still_laid : {s t : Body} → Still s t → Laid s t []
  still_laid {s = s} {t = t} e rest h = ap (λ n. blocks_fit final.slots n s.blocks rest) (sym e.slots) ∙ ap (λ n. blocks_fit final.slots (slots t) n rest) (sym e.blocks) ∙ h

  -- ---- expressions

  pub record HasValue (used : Bool) (s : Body) (e : PExpr) (t : Body) : Type 0 where
    pub fits : Used final used e
    pub still : Still s t

  names_fit : (s : Body) → Known s → NamesFit final (visible functions s)
  names_fit s k = record { things = λ name. find_fits final (params_of functions) s.entries name k.entries }

  pub value_good : (used : Bool) (e : Expr) → Good (value functions used e) (HasValue used)
  value_good used e =
      let part : (s : Body) → reads.Good final.texts (NamesFit final (visible functions s)) ((part_of (visible functions s) e).value used) (Used final used) =
      λ s. (expr_fits final (NamesFit final (visible functions s)) (visible functions s) (λ w. w) e).value used in
      record {
        grows = λ s. record { texts = (part s).grows s.texts; locals = front_same s.locals; params = refl };
        keeps = λ s h e k. record { entries = k.entries; params = k.params; short = (part s).short s.texts h k.short; locals = k.locals; room = k.room };
        holds = λ s h e k. record { fits = (part s).holds s.texts h e.texts (names_fit s k); still = record { slots = refl; blocks = refl } };
      }

  abbrev pub UsedIfAny : Bool → Option PExpr → Type 0
  UsedIfAny used None = Unit {0}
  UsedIfAny used (Some e) = Used final used e

  pub record HasValueIfAny (used : Bool) (o : Option Expr) (s : Body) (x : Option PExpr) (t : Body) : Type 0 where
    pub fits : UsedIfAny used x
    pub still : Still s t
    pub alike : is_none x ≡ is_none o

  pub optional_good : (used : Bool) (e : Option Expr) → Good (optional functions used e) (HasValueIfAny used e)
  optional_good used None = good_pure None (λ s. record { fits = tt; still = still_same s; alike = refl })
  optional_good used (Some e) = good_map Some (value_good used e) (λ s x t h. record { fits = h.fits; still = h.still; alike = refl })
