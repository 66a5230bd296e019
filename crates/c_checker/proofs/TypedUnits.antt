-- What is declared fits the whole program, where no rule is broken.
use Rattle.std.proofs.Common.{◌≡◌, ℕ, zero, suc, ◌+◌, ◌≤◌, ◌<◌, Bool, true, false, List, [], ◌∷◌, ◌++◌, length, Option, Some, None, refl, sym, ap, ◌∙◌, subst, arith, length-append}
use Rattle.std.specs.Prelude.{◌||◌, ◌==◌, not, nat_le, nat_lt, slice_get, is_some, is_none, if◌then◌else◌, codes}
use Rattle.std.specs.Str.{bytes_eq}
use Rattle.std.specs.List.{list_all}
use Rattle.std.proofs.lemmas.List.Folds.{list_all-append}
use Rattle.std.proofs.lemmas.Bool.{leb-true, ltb-true}
use Rattle.std.proofs.lemmas.Slice.Eq.{bytes_eq-Decides}
use Rattle.nm_base.specs.declared.operator.Ctype.{Ctype}
use Rattle.nm_base.specs.declared.limits.TheConstants.{MAX_DATA_WORDS}
use Rattle.c_tree.specs.declared.program.Global.{Global}
use Rattle.c_tree.specs.declared.program.Function.{Function}
use Rattle.c_tree.specs.declared.program.Slot.{Slot}
use Rattle.c_tree.specs.declared.program.Target.{Target}
use Rattle.c_tree.specs.declared.program.Target.TheVariants.{Global as AGlobal, Slot as ASlot}
use Rattle.c_tree.specs.declared.tree.Head.{Head}
use Rattle.c_tree.specs.declared.tree.Param.{Param}
use Rattle.c_tree.specs.declared.tree.Declr.{Declr}
use Rattle.c_tree.specs.declared.tree.Expr.{Expr}
use Rattle.c_tree.specs.Storage.{words_of, words_of_global}
use Rattle.c_tree.specs.Typing as typing
use Rattle.c_tree.specs.Typing.{Sort, Value, Array, sort_of_global, named}
use Rattle.c_tree.specs.Checks.{is_name, is_size, global_fits, param_fits, function_fits}
use Rattle.c_checker.specs.declared.fault.CheckFault.TheVariants.{Twice, TooMany, BadSize}
use Rattle.c_checker.specs.declared.headings.Heading.{Heading}
use Rattle.c_checker.specs.declared.entries.Entry.{Entry}
use Rattle.c_checker.specs.declared.entries.Thing.{Thing}
use Rattle.c_checker.specs.declared.entries.Thing.TheVariants as t
use Rattle.c_checker.specs.declared.state.File.{File}
use Rattle.c_checker.specs.Found.{Found, unless}
use Rattle.c_checker.specs.Scope.{ScopeNames, variable, built_in, latest, find, params_of, params_of_heading, is_taken}
use Rattle.c_checker.specs.Statements.{declr_faults, size}
use Rattle.c_checker.specs.Units.{visible, visible_params, initial, global_of, global_entry, enter_global, global, globals, slot_of_param, param_name_faults, params, heading_of, first_head, head_of}
use Rattle.c_checker.specs.Units.{head}
use Rattle.c_checker.proofs.TypedLists.{Front, front_then, front_last, get_next, nil_left, nil_right, unless_none, and_true, both_true, not_true, not_nil}
use Rattle.c_checker.proofs.TypedReads.{AllShort}
use Rattle.c_checker.proofs.TypedParts.{ThingFits, SameParams}
use Rattle.c_checker.proofs.TypedBodies.{EntriesFit}
use Rattle.c_checker.proofs.TypedLocals.{size_is, declr_is}
use Rattle.c_checker.proofs.TypedHeads.{FunctionsFit, functions_before, function_at, GrowsFile, globals_grow}

-- ---- names

module _ (name : List ℕ) where
  -- where this is a function, the name is one
  abbrev IsNamed : Thing → Type 0
  IsNamed x = (f : ℕ) (result : Option Ctype) → x ≡ t.Function f result → is_name name ≡ true

  if_named : (c : Bool) (x y : Thing) → (c ≡ true → IsNamed x) → IsNamed y → IsNamed (if c then x else y)
  if_named true x y h g = h refl
  if_named false x y h g = g

  built_in_named : IsNamed (built_in name)
  built_in_named =
      if_named (bytes_eq name (codes "self")) _ _ (λ e f r is. cc) (
      if_named (bytes_eq name (codes "nprocs")) _ _ (λ e f r is. cc) (
      if_named (bytes_eq name (codes "send")) _ _ (λ e f r is. cc) (
      if_named (bytes_eq name (codes "receive")) _ _ (λ e f r is. cc) (
      if_named (bytes_eq name (codes "word")) _ _ (λ e f r is. cc) (
      if_named (bytes_eq name (codes "words")) _ _ (λ e f r is. cc) (
      if_named (bytes_eq name (codes "from")) _ _ (λ e f r is. cc) (
      if_named (bytes_eq name (codes "via")) _ _ (λ e f r is. cc) (
      if_named (bytes_eq name (codes "printf")) _ _ (λ e f r is. cc) (λ f r is. cc)))))))))

  latest_named : (found : Thing) (es : List Entry) → list_all (λ (e : Entry). is_name e.name) es ≡ true → IsNamed found → IsNamed (latest name found es)
  latest_named found [] h g = g
  latest_named found (e ∷ es) h g =
      let b = both_true (is_name e.name) (list_all (λ (e : Entry). is_name e.name) es) h in
      latest_named (if bytes_eq e.name name then e.thing else found) es b.1
      (if_named (bytes_eq e.name name) e.thing found (λ same f r is. ap is_name (sym ((bytes_eq-Decides e.name name).0 same)) ∙ b.0) g)

  pub found_named : (es : List Entry) → list_all (λ (e : Entry). is_name e.name) es ≡ true → IsNamed (find es name)
  found_named es h = latest_named (built_in name) es h built_in_named

-- ---- what is known of a unit

module _ (G : List Global) (F : List Function) (T : List (List ℕ)) where
  -- the whole program begins with what is declared
  pub record FileEnd (s : File) : Type 0 where
    pub texts : Front s.texts T
    pub globals : Front s.globals G
    pub heads : FunctionsFit s.headings F

  pub end_before : {s t : File} → GrowsFile s t → FileEnd t → FileEnd s
  end_before {s = s} {t = t} g e = record {
    texts = front_then g.texts e.texts;
    globals = front_then g.globals e.globals;
    heads = functions_before s.headings t.headings F g.heads e.heads;
  }

  abbrev TargetIs : Target → Sort → Type 0
  TargetIs (AGlobal k) sort = sort_of_global (slice_get G k) ≡ sort
  TargetIs (ASlot k) sort = ⊥

  -- one of the functions that were declared so far
  pub record FunctionIn (n f : ℕ) (result : Option Ctype) : Type 0 where
    pub below : f < n
    pub function : Function
    pub is : slice_get F f ≡ Some function
    pub gives : function.result ≡ result

  abbrev pub FileThing : ℕ → Thing → Type 0
  FileThing n (t.Scalar what of) = TargetIs what (Value of true)
  FileThing n (t.Array what of) = TargetIs what (Array of)
  FileThing n (t.Function f result) = FunctionIn n f result
  FileThing n (t.BuiltIn b) = Unit {0}
  FileThing n t.Unknown = Unit {0}

  abbrev pub FileEntries : ℕ → List Entry → Type 0
  FileEntries n [] = Unit {0}
  FileEntries n (e ∷ es) = FileThing n e.thing × FileEntries n es

  thing_more : (n m : ℕ) (x : Thing) → n ≤ m → FileThing n x → FileThing m x
  thing_more n m (t.Scalar what of) h a = a
  thing_more n m (t.Array what of) h a = a
  thing_more n m (t.Function f result) h a = record { below = omega (arith, a.below, h); function = a.function; is = a.is; gives = a.gives }
  thing_more n m (t.BuiltIn b) h a = tt
  thing_more n m t.Unknown h a = tt

  pub entries_more : (n m : ℕ) (es : List Entry) → n ≤ m → FileEntries n es → FileEntries m es
  entries_more n m [] h a = tt
  entries_more n m (e ∷ es) h a = (thing_more n m e.thing h a.0, entries_more n m es h a.1)

  pub entries_and : (n : ℕ) (es fs : List Entry) → FileEntries n es → FileEntries n fs → FileEntries n (es ++ fs)
  entries_and n [] fs a b = b
  entries_and n (e ∷ es) fs a b = (a.0, entries_and n es fs a.1 b)

  -- in a function with these slots
  abbrev pub names_with : List Slot → typing.Declarations
  names_with slots = record { globals = G; functions = F; texts = T; slots = slots }

  heading_below : (hs : List Heading) (f : ℕ) → f < length hs → (h : Heading) × (slice_get hs f ≡ Some h)
  heading_below [] f l = absurd (omega (arith, l))
  heading_below (h ∷ hs) zero l = (h, refl)
  heading_below (h ∷ hs) (suc f) l = heading_below hs f (omega (arith, l))

  function_thing : (slots : List Slot) (hs : List Heading) (f : ℕ) (result : Option Ctype) → FunctionsFit hs F → FunctionIn (length hs) f result
      → ThingFits (names_with slots) (params_of hs) (t.Function f result)
  function_thing slots hs f result fit a =
      let h = heading_below hs f a.below in
      let r = function_at hs F f h.0 fit h.1 in
      let is : r.function ≡ a.function = cc (r.is, a.is) in
      record {
        function = a.function;
        is = a.is;
        gives = a.gives;
        same = subst (λ l. SameParams l a.function.params) (sym (ap params_of_heading h.1)) (subst (λ (g : Function). SameParams h.0.params g.params) is r.same);
      }

  thing_in : (slots : List Slot) (hs : List Heading) (x : Thing) → FunctionsFit hs F → FileThing (length hs) x → ThingFits (names_with slots) (params_of hs) x
  thing_in slots hs (t.Scalar (AGlobal k) of) fit a = a
  thing_in slots hs (t.Scalar (ASlot k) of) fit a = absurd a
  thing_in slots hs (t.Array (AGlobal k) of) fit a = a
  thing_in slots hs (t.Array (ASlot k) of) fit a = absurd a
  thing_in slots hs (t.Function f result) fit a = function_thing slots hs f result fit a
  thing_in slots hs (t.BuiltIn b) fit a = tt
  thing_in slots hs t.Unknown fit a = tt

  -- what is visible in a unit is visible in its functions
  pub entries_in : (slots : List Slot) (hs : List Heading) (es : List Entry) → FunctionsFit hs F → FileEntries (length hs) es → EntriesFit (names_with slots) (params_of hs) es
  entries_in slots hs [] fit a = tt
  entries_in slots hs (e ∷ es) fit a = (thing_in slots hs e.thing fit a.0, entries_in slots hs es fit a.1)

  abbrev pub BodyFits : Option Function → Type 0
  BodyFits None = Unit {0}
  BodyFits (Some g) = function_fits G F T g ≡ true

  abbrev pub BodiesFit : List Heading → Type 0
  BodiesFit [] = Unit {0}
  BodiesFit (h ∷ hs) = BodyFits h.body × BodiesFit hs

  -- what is known of a unit where no rule was broken
  pub record KnownFile (s : File) : Type 0 where
    pub entries : FileEntries (length s.headings) s.entries
    pub named : list_all (λ (e : Entry). is_name e.name) s.entries ≡ true
    pub globals : list_all global_fits s.globals ≡ true
    pub many : length s.globals ≤ 1024
    pub words : words_of words_of_global s.globals ≡ s.words
    pub room : s.words ≤ MAX_DATA_WORDS
    pub heads : length s.headings ≤ 512
    pub short : AllShort s.texts
    pub bodies : BodiesFit s.headings

  -- ---- globals

  words_more : (xs : List Global) (g : Global) → words_of words_of_global (xs ++ g ∷ []) ≡ words_of words_of_global xs + words_of_global g
  words_more [] g = omega arith
  words_more (x ∷ xs) g = omega (arith, words_more xs g)

  start_is : (names after : ScopeNames) (n o : Option Expr) (line : ℕ) → (is_none n || is_none o) ≡ true → (is_none (size names n line).value || (initial after o).value == 0) ≡ true
  start_is names after None o line h = refl
  start_is names after (Some e) None line h = refl
  start_is names after (Some e) (Some x) line h = cc

  entry_fits : (n k : ℕ) (g : Global) → slice_get G k ≡ Some g → FileThing n (variable (AGlobal k) g.of (is_some g.length))
  entry_fits n k g h = by g.length h
    where
      by : (o : Option ℕ) → slice_get G k ≡ Some (record g { length = o }) → FileThing n (variable (AGlobal k) g.of (is_some o))
      by None e = ap sort_of_global e
      by (Some m) e = ap sort_of_global e

  size_some : (names : ScopeNames) (o : Option Expr) (line : ℕ) → is_some (size names o line).value ≡ is_some o
  size_some names None line = refl
  size_some names (Some e) line = refl

  module _ (of : Ctype) (d : Declr) (s : File) where
    abbrev entry : Entry
    entry = global_entry of d (length s.globals)

    abbrev entered : Found File (Unit {0})
    entered = enter_global entry d.line s

    abbrev sized : Found (Unit {0}) (Option ℕ)
    sized = size (visible entered.state) d.size d.line

    abbrev begun : Found (Unit {0}) ℕ
    begun = initial (visible entered.state) d.start

    abbrev made : Global
    made = global_of of d sized.value begun.value

    abbrev fits : Bool
    fits = nat_le (s.words + words_of_global made) MAX_DATA_WORDS

    record GlobalFine : Type 0 where
      name : is_name d.name ≡ true
      array : (is_none d.size || is_none d.start) ≡ true
      free : is_taken d.name s.entries ≡ false
      few : length s.globals < 1024
      length : is_size sized.value ≡ true
      words : fits ≡ true

    global_fine : (global of d s).faults ≡ [] → GlobalFine
    global_fine h =
        let own = declr_faults d in
        let many = unless (nat_lt (length s.globals) 1024) (TooMany d.line) in
        let last = unless fits (BadSize d.line) in
        let measured = sized.faults ++ (begun.faults ++ (last ++ [])) in
        let first = nil_left (own ++ many) (entered.faults ++ measured) h in
        let after = nil_right (own ++ many) (entered.faults ++ measured) h in
        let rest = nil_right entered.faults measured after in
        let declared = declr_is d (nil_left own many first) in
        record {
          name = declared.0;
          array = declared.1;
          free = not_true (is_taken d.name s.entries) (unless_none (not (is_taken d.name s.entries)) (Twice d.line) (nil_left entered.faults measured after));
          few = ltb-true (length s.globals) 1024 (unless_none (nat_lt (length s.globals) 1024) (TooMany d.line) (nil_right own many first));
          length = size_is (visible entered.state) d.size d.line (nil_left sized.faults (begun.faults ++ (last ++ [])) rest);
          words = unless_none fits (BadSize d.line) (nil_left last [] (nil_right begun.faults (last ++ []) (nil_right sized.faults (begun.faults ++ (last ++ [])) rest)));
        }

    global_keeps : (global of d s).faults ≡ [] → FileEnd (global of d s).state → KnownFile s → KnownFile (global of d s).state
    global_keeps h e k =
        let f = global_fine h in
        let words : (global of d s).state.words ≡ s.words + words_of_global made = ap (λ b. if b then s.words + words_of_global made else s.words) f.words in
        let entries : (global of d s).state.entries ≡ s.entries ++ entry ∷ [] = ap (λ b. if b then s.entries else s.entries ++ entry ∷ []) f.free in
        let fitting = entry_fits (length s.headings) (length s.globals) made (front_last s.globals made e.globals) in
        let thing : FileThing (length s.headings) entry.thing
        = subst (λ b. FileThing (length s.headings) (variable (AGlobal (length s.globals)) of b)) (size_some (visible entered.state) d.size d.line) fitting in
        record {
          entries = subst (FileEntries (length s.headings)) (sym entries) (entries_and (length s.headings) s.entries (entry ∷ []) k.entries (thing, tt));
          named = ap (list_all (λ (e : Entry). is_name e.name)) entries
              ∙ list_all-append (λ (e : Entry). is_name e.name) s.entries (entry ∷ []) ∙ and_true k.named (and_true f.name refl);
          globals = list_all-append global_fits s.globals (made ∷ [])
              ∙ and_true k.globals (and_true (and_true (and_true f.name f.length) (start_is (visible entered.state) (visible entered.state) d.size d.start d.line f.array)) refl);
          many = omega (arith, f.few, length-append s.globals (made ∷ []));
          words = words_more s.globals made ∙ ap (λ n. n + words_of_global made) k.words ∙ sym words;
          room = omega (arith, words, leb-true (s.words + words_of_global made) MAX_DATA_WORDS f.words);
          heads = k.heads;
          short = k.short;
          bodies = k.bodies;
        }

  pub globals_keep : (of : Ctype) (ds : List Declr) (s : File) → (globals of ds s).faults ≡ [] → FileEnd (globals of ds s).state → KnownFile s → KnownFile (globals of ds s).state
  globals_keep of [] s h e k = k
  globals_keep of (d ∷ more) s h e k =
      let a = global of d s in
      let rest = globals of more a.state in
      globals_keep of more a.state (nil_right a.faults rest.faults h) e (global_keeps of d s (nil_left a.faults rest.faults h) (end_before (globals_grow of more a.state) e) k)

  -- ---- heads

  -- the parameters of a definition
  pub record ParamsFit (xs : List Slot) : Type 0 where
    pub fit : list_all param_fits xs ≡ true
    pub few : length xs ≤ 31

  param_fit : (x : Param) (o : Option (List ℕ)) (before : List Slot) → param_name_faults true before o x.line ≡ [] → param_fits (slot_of_param (record x { name = o })) ≡ true
  param_fit x None before h = absurd (not_nil (TooMany x.line) [] [] h)
  param_fit x (Some name) before h = and_true (and_true (unless_none (is_name name) (TooMany x.line) (nil_left (unless (is_name name) (TooMany x.line)) _ h)) refl) refl

  pub params_fit : (names : List Slot → ScopeNames) (before : List Slot) (more : List Param) → ParamsFit before → (params names true before more).faults ≡ []
      → ParamsFit (params names true before more).value
  params_fit names before [] a h = a
  params_fit names before (x ∷ more) a h =
      let own = param_name_faults true before x.name x.line in
      let many = unless (nat_lt (length before) 31) (TooMany x.line) in
      let n = size (names before) x.size x.line in
      let rest = params names true (before ++ slot_of_param x ∷ []) more in
      let first = nil_left (own ++ many) (n.faults ++ rest.faults) h in
      params_fit names (before ++ slot_of_param x ∷ []) more
      (record {
        fit = list_all-append param_fits before (slot_of_param x ∷ []) ∙ and_true a.fit (and_true (param_fit x x.name before (nil_left own many first)) refl);
        few = omega (arith, ltb-true (length before) 31 (unless_none (nat_lt (length before) 31) (TooMany x.line) (nil_right own many first)), length-append before (slot_of_param x ∷ []));
      })
      (nil_right n.faults rest.faults (nil_right (own ++ many) (n.faults ++ rest.faults) h))

  bodies_more : (hs : List Heading) (h : Heading) → BodiesFit hs → BodyFits h.body → BodiesFit (hs ++ h ∷ [])
  bodies_more [] h a b = (b, tt)
  bodies_more (x ∷ hs) h a b = (a.0, bodies_more hs h a.1 b)

  -- what is known after a head
  pub record AfterHead (h : Head) (t : File) : Type 0 where
    pub known : KnownFile t
    pub name : is_name h.name ≡ true

  first_keeps : (h : Head) (xs : List Slot) (s : File) → (first_head h xs s).faults ≡ [] → FileEnd (first_head h xs s).state → KnownFile s → AfterHead h (first_head h xs s).state
  first_keeps h xs s n e k =
      let name = unless (is_name h.name) (TooMany h.line) in
      let twice = unless (not (is_taken h.name s.entries)) (Twice h.line) in
      let many = unless (nat_lt (length s.headings) 512) (TooMany h.line) in
      let named = unless_none (is_name h.name) (TooMany h.line) (nil_left name twice (nil_left (name ++ twice) many n)) in
      let few = ltb-true (length s.headings) 512 (unless_none (nat_lt (length s.headings) 512) (TooMany h.line) (nil_right (name ++ twice) many n)) in
      let hs = s.headings ++ heading_of h xs ∷ [] in
      let count = length-append s.headings (heading_of h xs ∷ []) in
      let at = function_at hs F (length s.headings) (heading_of h xs) e.heads (get_next s.headings (heading_of h xs) []) in
      let entry : Entry = record { name = h.name; thing = t.Function (length s.headings) h.result } in
      let fits : FunctionIn (length hs) (length s.headings) h.result = record { below = omega (arith, count); function = at.function; is = at.is; gives = at.gives } in
      record {
        known = record {
          entries = entries_and (length hs) s.entries (entry ∷ []) (entries_more (length s.headings) (length hs) s.entries (omega (arith, count)) k.entries) (fits, tt);
          named = list_all-append (λ (e : Entry). is_name e.name) s.entries (entry ∷ []) ∙ and_true k.named (and_true named refl);
          globals = k.globals;
          many = k.many;
          words = k.words;
          room = k.room;
          heads = omega (arith, few, count);
          short = k.short;
          bodies = bodies_more s.headings (heading_of h xs) k.bodies tt;
        };
        name = named;
      }

  head_by : (x : Thing) (h : Head) (xs : List Slot) (defines : Bool) (s : File) → find s.entries h.name ≡ x → (head_of x h xs defines s).faults ≡ []
      → FileEnd (head_of x h xs defines s).state → KnownFile s → AfterHead h (head_of x h xs defines s).state
  head_by (t.Function f result) h xs defines s is n e k = record { known = k; name = found_named h.name s.entries k.named f result is }
  head_by (t.Scalar what of) h xs defines s is n e k = first_keeps h xs s n e k
  head_by (t.Array what of) h xs defines s is n e k = first_keeps h xs s n e k
  head_by (t.BuiltIn b) h xs defines s is n e k = first_keeps h xs s n e k
  head_by t.Unknown h xs defines s is n e k = first_keeps h xs s n e k

  pub head_keeps : (h : Head) (defines : Bool) (s : File) → (head h defines s).faults ≡ [] → FileEnd (head h defines s).state → KnownFile s → AfterHead h (head h defines s).state
  head_keeps h defines s n e k =
      let xs = params (visible_params s) defines [] h.params in
      let found = head_of (find s.entries h.name) h xs.value defines s in
      head_by (find s.entries h.name) h xs.value defines s refl (nil_left found.faults [] (nil_right xs.faults (found.faults ++ []) n)) e k

  pub head_params : (h : Head) (s : File) → (head h true s).faults ≡ [] → ParamsFit (head h true s).value.1
  head_params h s n =
      let xs = params (visible_params s) true [] h.params in
      let found = head_of (find s.entries h.name) h xs.value true s in
      params_fit (visible_params s) [] h.params (record { fit = refl; few = omega arith }) (nil_left xs.faults (found.faults ++ []) n)
