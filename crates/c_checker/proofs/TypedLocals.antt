-- A block's locals fit the whole program, where no rule is broken.
use Rattle.std.proofs.Common.{◌≡◌, ℕ, ◌+◌, ◌<◌, Bool, true, false, List, [], ◌∷◌, ◌++◌, map, length, Option, Some, None, refl, sym, ap, ◌∙◌, subst, arith, append_assoc}
use Rattle.std.proofs.Common.{length-append, drop}
use Rattle.std.specs.Prelude.{◌&&◌, ◌||◌, ◌==◌, not, nat_le, nat_lt, slice_get, is_some, is_none, unwrap_or}
use Rattle.std.specs.List.{list_all}
use Rattle.std.proofs.lemmas.List.{append-nil, length-map, map-append}
use Rattle.std.proofs.lemmas.List.Folds.{list_all-append}
use Rattle.std.proofs.lemmas.Bool.{leb-true, eq-eqb, ltb-true, lt-ltb}
use Rattle.nm_base.specs.declared.operator.Ctype.{Ctype}
use Rattle.nm_base.specs.declared.limits.TheConstants.{MAX_DATA_WORDS}
use Rattle.c_tree.specs.declared.program.Slot.{Slot}
use Rattle.c_tree.specs.declared.program.Start.{Start}
use Rattle.c_tree.specs.declared.program.PExpr.{PExpr}
use Rattle.c_tree.specs.declared.program.Target.TheVariants.{Slot as ASlot}
use Rattle.c_tree.specs.declared.tree.Expr.{Expr}
use Rattle.c_tree.specs.declared.tree.Declr.{Declr}
use Rattle.c_tree.specs.declared.tree.Vars.{Vars}
use Rattle.c_tree.specs.Typing as typing
use Rattle.c_tree.specs.Checks.{local_fits, is_name, is_size, is_scalar, is_block_slot, in_order, start_fits}
use Rattle.c_checker.specs.declared.fault.CheckFault.{CheckFault}
use Rattle.c_checker.specs.declared.fault.CheckFault.TheVariants.{NotScalar, NotConstant, BadSize, Twice, TooMany}
use Rattle.c_checker.specs.declared.headings.Heading.{Heading}
use Rattle.c_checker.specs.declared.state.Body.{Body}
use Rattle.c_checker.specs.Constants.{constant_of}
use Rattle.c_checker.specs.Found.{Found, pure, unless, ◌>>=◌}
use Rattle.c_checker.specs.Scope.{ScopeNames, variable, params_of, is_taken}
use Rattle.c_checker.specs.Expressions.{first_line}
use Rattle.c_checker.specs.Statements.{bits_of, inner_faults, constant_bits, constant_pattern, size_faults, size, declr_faults, slot_of, entry_of, slots, visible, optional}
use Rattle.c_checker.specs.Statements.{add_local, declare, declares, locals, begin_block}
use Rattle.c_checker.proofs.TypedLists.{front_same, front_more, front_get, get_next, nil_left, nil_right, unless_none, and_true, both_true, not_nil}
use Rattle.c_checker.proofs.TypedSorts.{is_value_true}
use Rattle.c_checker.proofs.TypedParts.{ThingFits}
use Rattle.c_checker.proofs.TypedBodies as bodies
use Rattle.c_checker.proofs.TypedBodies.{append_fits, Ended, Known, Good, good_pure, good_bind, good_weak, good_map}
use Rattle.c_checker.proofs.TypedBodies.{HasValueIfAny, optional_good}

-- ---- sizes

-- a constant that breaks no rule has a pattern
pub record HasPattern (found : Found (Unit {0}) (Option ℕ)) : Type 0 where
  pub bits : ℕ
  pub is : found.value ≡ Some bits

bits_are : (o : Option ℕ) (f : CheckFault) (fs : List CheckFault) → (constant_bits o (f ∷ fs)).faults ≡ [] → HasPattern (constant_bits o (f ∷ fs))
bits_are None f fs h = absurd (not_nil f fs [] (append-nil (f ∷ fs) ∙ h))
bits_are (Some n) f fs h = record { bits = n; is = refl }

pub pattern_is : (names : ScopeNames) (e : Expr) → (constant_pattern names e).faults ≡ [] → HasPattern (constant_pattern names e)
pattern_is names e h = bits_are (bits_of (constant_of e)) (NotConstant (first_line e)) (inner_faults names e) h

is_size_of : (n : ℕ) → (nat_le 1 n && nat_le n MAX_DATA_WORDS) ≡ true → is_size (Some n) ≡ true
is_size_of n h = let b = both_true (nat_le 1 n) (nat_le n MAX_DATA_WORDS) h in and_true (lt-ltb 0 n (omega (arith, leb-true 1 n b.0))) b.1

size_by : (o : Option ℕ) (fs : List CheckFault) (line : ℕ) → (o' : ℕ) → o ≡ Some o' → fs ++ (size_faults o line ++ []) ≡ [] → is_size (Some (unwrap_or o 1)) ≡ true
size_by None fs line n e h = cc
size_by (Some m) fs line n e h = is_size_of m (unless_none (nat_le 1 m && nat_le m MAX_DATA_WORDS) (BadSize line) (nil_left _ [] (nil_right fs _ h)))

-- a size that breaks no rule is one
pub size_is : (names : ScopeNames) (e : Option Expr) (line : ℕ) → (size names e line).faults ≡ [] → is_size (size names e line).value ≡ true
size_is names None line h = refl
size_is names (Some e) line h =
    let found = constant_pattern names e in
    let p = pattern_is names e (nil_left found.faults (size_faults found.value line ++ []) h) in
    size_by found.value found.faults line p.bits p.is h

pub no_size : (names : ScopeNames) (e : Option Expr) (line : ℕ) → is_none e ≡ true → (size names e line).value ≡ None
no_size names None line h = refl
no_size names (Some e) line h = cc

-- ---- one local

pub variable_fits : (final : typing.Declarations) (params : ℕ → List Slot) (number : ℕ) (x : Slot) → slice_get final.slots number ≡ Some x → x.array_param ≡ false
    → ThingFits final params (variable (ASlot number) x.of (is_some x.length))
variable_fits final params number x h g = by_length x.length h
  where
    by_length : (o : Option ℕ) → slice_get final.slots number ≡ Some (record x { length = o }) → ThingFits final params (variable (ASlot number) x.of (is_some o))
    by_length None e = ap typing.sort_of_slot e ∙ ap (λ b. typing.named x.of (b || not true)) g
    by_length (Some n) e = ap typing.sort_of_slot e ∙ ap (λ b. typing.named x.of (b || not false)) g

pub declr_is : (d : Declr) → declr_faults d ≡ [] → (is_name d.name ≡ true) × ((is_none d.size || is_none d.start) ≡ true)
declr_is d h =
    let name = unless (is_name d.name) (TooMany d.line) in
    let array = unless (is_none d.size || is_none d.start) (NotScalar d.line) in
    (unless_none (is_name d.name) (TooMany d.line) (nil_left name array h), unless_none (is_none d.size || is_none d.start) (NotScalar d.line) (nil_right name array h))

module _ (final : typing.Declarations) (functions : List Heading) (ps : List Slot) (result : Option Ctype) where
  -- a local with this number was added
  pub record Added (b : ℕ) (d : Declr) (s : Body) (n : ℕ) (t : Body) : Type 0 where
    pub number : n ≡ slots s
    pub slot : Slot
    pub is : slice_get final.slots n ≡ Some slot
    pub block : slot.block ≡ b
    pub array : (is_none d.size || is_none d.start) ≡ true
    pub scalar : is_none d.size ≡ true → is_scalar final result (Some slot) ≡ true
    pub count : slots t ≡ slots s + 1
    pub blocks : t.blocks ≡ s.blocks

  module _ (of : Ctype) (from block : ℕ) (d : Declr) where
    abbrev sized : Body → Found (Unit {0}) (Option ℕ)
    sized s = size (visible functions s) d.size d.line

    abbrev made : Body → Slot
    made s = slot_of of block d (sized s).value

    abbrev after : Body → Body
    after s = (add_local functions of from block d s).state

    abbrev faults_of : Body → List CheckFault
    faults_of s = (add_local functions of from block d s).faults

    -- each rule of a local holds
    record Fine (s : Body) : Type 0 where
      name : is_name d.name ≡ true
      array : (is_none d.size || is_none d.start) ≡ true
      room : slots s < 256
      length : is_size (sized s).value ≡ true

    fine_is : (s : Body) → faults_of s ≡ [] → Fine s
    fine_is s h =
        let own = declr_faults d in
        let twice = unless (not (is_taken d.name (drop from s.entries))) (Twice d.line) in
        let many = unless (nat_lt (slots s) 256) (TooMany d.line) in
        let local = nil_left (own ++ twice ++ many) ((sized s).faults ++ []) h in
        let declared = declr_is d (nil_left own twice (nil_left (own ++ twice) many local)) in
        record {
          name = declared.0;
          array = declared.1;
          room = ltb-true (slots s) 256 (unless_none (nat_lt (slots s) 256) (TooMany d.line) (nil_right (own ++ twice) many local));
          length = size_is (visible functions s) d.size d.line (nil_left (sized s).faults [] (nil_right (own ++ twice ++ many) ((sized s).faults ++ []) h));
        }

    slot_at : (s : Body) → s.params ≡ length ps → Ended final functions ps (after s) → slice_get final.slots (slots s) ≡ Some (made s)
    slot_at s p e =
        let place : length (ps ++ s.locals) ≡ slots s = length-append ps s.locals ∙ ap (λ n. n + length s.locals) (sym p) in
        subst (λ i. slice_get final.slots i ≡ Some (made s)) place
        (front_get (length (ps ++ s.locals)) (made s) e.slots
        (subst (λ l. slice_get l (length (ps ++ s.locals)) ≡ Some (made s)) (append_assoc ps s.locals (made s ∷ [])) (get_next (ps ++ s.locals) (made s) [])))

    more_slots : (s : Body) → slots (after s) ≡ slots s + 1
    more_slots s = omega (arith, length-append s.locals (made s ∷ []))

    known_after : (s : Body) → Fine s → Ended final functions ps (after s) → Known final functions ps s → Known final functions ps (after s)
    known_after s f e k = record {
      entries = append_fits final (params_of functions) s.entries (entry_of of d (sized s).value (slots s) ∷ []) k.entries
          (variable_fits final (params_of functions) (slots s) (made s) (slot_at s k.params e) refl, tt);
      params = k.params;
      short = k.short;
      locals = list_all-append local_fits s.locals (made s ∷ []) ∙ and_true k.locals (and_true (and_true (and_true f.name f.length) refl) refl);
      room = omega (arith, f.room, more_slots s);
    }

    scalar_if : (s : Body) → is_none d.size ≡ true → is_scalar final result (Some (made s)) ≡ true
    scalar_if s h = ap is_none (no_size (visible functions s) d.size d.line h)

    pub add_good : Good final functions ps (add_local functions of from block d) (Added block d)
    add_good = record {
      grows = λ s. record { texts = front_same s.texts; locals = front_more s.locals (made s ∷ []); params = refl };
      keeps = λ s h e k. known_after s (fine_is s h) e k;
      holds = λ s h e k. record {
        number = refl;
        slot = made s;
        is = slot_at s k.params e;
        block = refl;
        array = (fine_is s h).array;
        scalar = scalar_if s;
        count = more_slots s;
        blocks = refl;
      };
    }

  -- ---- several

  -- these locals were added, each with its number
  pub record Starts (b : ℕ) (s : Body) (xs : List Start) (t : Body) : Type 0 where
    pub order : in_order (slots s) (map (λ x. x.slot) xs) ≡ true
    pub count : slots t ≡ slots s + length xs
    pub block : list_all (is_block_slot final.slots b) (map (λ x. x.slot) xs) ≡ true
    pub fine : list_all (start_fits final result) xs ≡ true
    pub blocks : t.blocks ≡ s.blocks

  pub starts_none : (b : ℕ) (s : Body) → Starts b s [] s
  starts_none b s = record { order = refl; count = omega arith; block = refl; fine = refl; blocks = refl }

  orders : (n : ℕ) (xs ys : List ℕ) → in_order n xs ≡ true → in_order (n + length xs) ys ≡ true → in_order n (xs ++ ys) ≡ true
  orders n [] ys h g = let e : n + length {A = ℕ} [] ≡ n = omega arith in subst (λ m. in_order m ys ≡ true) e g
  orders n (x ∷ xs) ys h g =
      let b = both_true (x == n) (in_order (n + 1) xs) h in
      let e : n + length (x ∷ xs) ≡ (n + 1) + length xs = omega arith in
      and_true b.0 (orders (n + 1) xs ys b.1 (subst (λ m. in_order m ys ≡ true) e g))

  pub starts_then : (b : ℕ) (s t u : Body) (xs ys : List Start) → Starts b s xs t → Starts b t ys u → Starts b s (xs ++ ys) u
  starts_then b s t u xs ys h g =
      let number : Start → ℕ = λ x. x.slot in
      record {
        order = ap (in_order (slots s)) (map-append number xs ys)
            ∙ orders (slots s) (map number xs) (map number ys) h.order
            (subst (λ n. in_order n (map number ys) ≡ true) (h.count ∙ ap (λ n. slots s + n) (sym (length-map xs number))) g.order);
        count = omega (arith, h.count, g.count, length-append xs ys);
        block = ap (list_all (is_block_slot final.slots b)) (map-append number xs ys) ∙ list_all-append (is_block_slot final.slots b) (map number xs) (map number ys) ∙ and_true h.block g.block;
        fine = list_all-append (start_fits final result) xs ys ∙ and_true h.fine g.fine;
        blocks = g.blocks ∙ h.blocks;
      }

  value_scalar : (d : Declr) (o : Option Expr) (x : Option PExpr) (slot : Slot) (n : ℕ) (line : ℕ) → (is_none d.size || is_none o) ≡ true → is_none x ≡ is_none o
      → slice_get final.slots n ≡ Some slot → (is_none d.size ≡ true → is_scalar final result (Some slot) ≡ true) → bodies.UsedIfAny final functions ps true x
      → start_fits final result (record { slot = n; value = x; line = line }) ≡ true
  value_scalar d o None slot n line h e g k v = refl
  value_scalar d None (Some y) slot n line h e g k v = cc
  value_scalar d (Some a) (Some y) slot n line h e g k v = and_true (is_value_true final y v) (ap (is_scalar final result) g ∙ k (no_start (is_none d.size) h))
    where
      no_start : (b : Bool) → (b || is_none (Some a)) ≡ true → b ≡ true
      no_start true h = refl
      no_start false h = h

  one_start : (b : ℕ) (d : Declr) (s t u : Body) (n : ℕ) (x : Option PExpr) → Added b d s n t → HasValueIfAny final functions ps true d.start t x u
      → Starts b s (record { slot = n; value = x; line = d.line } ∷ []) u
  one_start b d s t u n x a v = record {
    order = and_true (eq-eqb n (slots s) a.number) refl;
    count = omega (arith, v.still.slots, a.count);
    block = and_true (ap (λ o. elim o [ None ↦ false | Some y ↦ y.block == b ]) a.is ∙ eq-eqb a.slot.block b a.block) refl;
    fine = and_true (value_scalar d d.start x a.slot n d.line a.array v.alike a.is a.scalar v.fits) refl;
    blocks = v.still.blocks ∙ a.blocks;
  }

  pub declare_good : (of : Ctype) (from b : ℕ) (d : Declr) → Good final functions ps (declare functions of from b d) (λ s x t. Starts b s (x ∷ []) t)
  declare_good of from b d =
      good_bind final functions ps {f = λ slot. optional functions true d.start >>= (λ x. pure (record { slot = slot; value = x; line = d.line }))} (add_good of from b d) (λ slot.
      good_map final functions ps (λ x. record { slot = slot; value = x; line = d.line }) (optional_good final functions ps true d.start) (λ t x u v s a. one_start b d s t u slot x a v))

  -- the locals after those before them
  pub record StartsAfter (b : ℕ) (before : List Start) (s : Body) (all : List Start) (t : Body) : Type 0 where
    pub more : List Start
    pub is : all ≡ before ++ more
    pub starts : Starts b s more t

  after_none : (b : ℕ) (before : List Start) (s : Body) → StartsAfter b before s before s
  after_none b before s = record { more = []; is = sym (append-nil before); starts = starts_none b s }

  after_then : (b : ℕ) (before : List Start) (s t u : Body) (xs ys all : List Start) → Starts b s xs t → ys ≡ before ++ xs → StartsAfter b ys t all u → StartsAfter b before s all u
  after_then b before s t u xs ys all h e g = record {
    more = xs ++ g.more;
    is = g.is ∙ ap (λ l. l ++ g.more) e ∙ append_assoc before xs g.more;
    starts = starts_then b s t u xs g.more h g.starts;
  }

  pub declares_good : (of : Ctype) (from b : ℕ) (before : List Start) (ds : List Declr) → Good final functions ps (declares functions of from b before ds) (StartsAfter b before)
  declares_good of from b before [] = good_pure final functions ps before (λ s. after_none b before s)
  declares_good of from b before (d ∷ more) =
      good_bind final functions ps {f = λ x. declares functions of from b (before ++ x ∷ []) more} (declare_good of from b d) (λ x.
      good_weak final functions ps (declares_good of from b (before ++ x ∷ []) more) (λ t all u g s h. after_then b before s t u (x ∷ []) (before ++ x ∷ []) all h refl g))

  pub locals_good : (from b : ℕ) (before : List Start) (vs : List Vars) → Good final functions ps (locals functions from b before vs) (StartsAfter b before)
  locals_good from b before [] = good_pure final functions ps before (λ s. after_none b before s)
  locals_good from b before (v ∷ more) =
      good_bind final functions ps {f = λ xs. locals functions from b xs more} (declares_good v.of from b before v.list) (λ xs.
      good_weak final functions ps (locals_good from b xs more) (λ t all u g s h. after_then b before s t u h.more xs all h.starts h.is g))

  -- a block was begun with these locals
  pub record Begun (s : Body) (xs : List Start) (t : Body) : Type 0 where
    pub order : in_order (slots s) (map (λ x. x.slot) xs) ≡ true
    pub count : slots t ≡ slots s + length (map (λ (x : Start). x.slot) xs)
    pub block : list_all (is_block_slot final.slots s.blocks) (map (λ x. x.slot) xs) ≡ true
    pub fine : list_all (start_fits final result) xs ≡ true
    pub blocks : t.blocks ≡ s.blocks + 1

  abbrev next_block : Body → Body
  next_block s = record s { blocks = s.blocks + 1 }

  begun : (s : Body) (all : List Start) (t : Body) → StartsAfter s.blocks [] (next_block s) all t → Begun s all t
  begun s all t h = subst (λ l. Begun s l t) (sym h.is) (record {
    order = h.starts.order;
    count = h.starts.count ∙ ap (λ n. slots s + n) (sym (length-map h.more (λ (x : Start). x.slot)));
    block = h.starts.block;
    fine = h.starts.fine;
    blocks = h.starts.blocks;
  })

  pub begin_good : (from : ℕ) (vs : List Vars) → Good final functions ps (begin_block functions from vs) Begun
  begin_good from vs = record {
    grows = λ s. let g = (locals_good from s.blocks [] vs).grows (next_block s) in record { texts = g.texts; locals = g.locals; params = g.params };
    keeps = λ s h e k. (locals_good from s.blocks [] vs).keeps (next_block s) h e (record { entries = k.entries; params = k.params; short = k.short; locals = k.locals; room = k.room });
    holds = λ s h e k. begun s _ _ ((locals_good from s.blocks [] vs).holds (next_block s) h e (record { entries = k.entries; params = k.params; short = k.short; locals = k.locals; room = k.room }));
  }
