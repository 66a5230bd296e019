-- What is shown of a variable that the code finds is what the program says.
use Rattle.std.proofs.Common.{◌≡◌, ℕ, ◌+◌, Bool, true, false, List, [], ◌∷◌, length, Option, Some, None, refl, sym, ap, ◌∙◌, subst, arith}
use Rattle.std.specs.Prelude.{slice_get, slice_index, option_map, if◌then◌else◌}
use Rattle.nm_base.specs.declared.operator.Ctype.{Ctype}
use Rattle.c_tree.specs.declared.program.Global.{Global}
use Rattle.c_tree.specs.declared.program.Slot.{Slot}
use Rattle.c_tree.specs.declared.program.Program.{Program}
use Rattle.c_tree.specs.declared.program.Target.{Target}
use Rattle.c_tree.specs.declared.program.Target.TheVariants.{Global as AGlobal, Slot as ASlot}
use Rattle.c_tree.specs.State.{Frame, State}
use Rattle.c_tree.specs.Storage.{words_of_global, words_of_slot, words_before, base_of, place_of, array_of, array_of_global, array_of_slot}
use Rattle.c_tree.specs.NameLookup.{Variable, seen_at, seen_of, top_slots, or_else, in_globals, in_function, value_named}
use Rattle.c_tree.specs.Play.{PlaySetting, play_setting}
use Rattle.stack_code.specs.declared.seek.Home.TheVariants as home
use Rattle.stack_code.specs.Code.{Code, entered_at}
use Rattle.stack_code.specs.Seek.{found}
use Rattle.c_compile.specs.KeptNames.{KeepsNames, as_global, as_slot, found_of, found_by}
use Rattle.proc_machine.specs.declared.execution.Execution.{Execution}
use Rattle.proc_machine.specs.declared.machine.MachineFrame.{MachineFrame}
use Rattle.proc_machine.specs.View.{control_of}
use Rattle.proc_machine.specs.Standing.{shown_state}
use Rattle.proc_machine.specs.Machines.{frame_seen, places_seen}
use Rattle.c_process.specs.private.Found.{seen_found, seen_by}
use Rattle.c_process.proofs.Known.{GlobalAt, IsGlobal, KnownAt, IsKnown, global_known, name_known}

-- ---- one variable

module _ (globals : List Global) (slots : List Slot) (s : State) (index : Option ℕ) where
  abbrev Means : ℕ → Target → Ctype → Type 0
  Means base t of = seen_by s.words base (found_of globals slots t of) index ≡ seen_at s.words (place_of globals slots t s) (array_of globals slots t s) of index

  global_seen : (base i : ℕ) (of : Ctype) (g : Global) → slice_get globals i ≡ Some g → Means base (AGlobal i) of
  global_seen base i of g h =
      ap (λ o. seen_by s.words base (option_map (as_global (words_before words_of_global globals i) of) o) index) h
      ∙ by g.length
      ∙ ap (λ o. seen_at s.words (words_before words_of_global globals i) (array_of_global o (words_before words_of_global globals i)) of index) (sym h)
    where
      by : (n : Option ℕ) → seen_found s.words base (record { home = home.Global; slot = words_before words_of_global globals i; of = of; length = n }) index
          ≡ seen_at s.words (words_before words_of_global globals i) (elim n [ None ↦ None | Some m ↦ Some (words_before words_of_global globals i, m) ]) of index
      by None = refl
      by (Some n) = refl

  slot_seen : (i : ℕ) (of : Ctype) (x : Slot) → slice_get slots i ≡ Some x → Means (base_of s.frames) (ASlot i) of
  slot_seen i of x h =
      ap (λ o. seen_by s.words (base_of s.frames) (option_map (as_slot (words_before words_of_slot slots i) of) o) index) h
      ∙ by x.array_param x.length
      ∙ ap (λ o. seen_at s.words (base_of s.frames + words_before words_of_slot slots i) (array_of_slot o (base_of s.frames + words_before words_of_slot slots i) s.words) of index) (sym h)
    where
      by : (a : Bool) (n : Option ℕ) → seen_found s.words (base_of s.frames)
          (if a then record { home = home.ArrayParam; slot = words_before words_of_slot slots i; of = of; length = None }
          else record { home = home.Local; slot = words_before words_of_slot slots i; of = of; length = n }) index
          ≡ seen_at s.words (base_of s.frames + words_before words_of_slot slots i)
          (if a then Some (slice_index s.words (base_of s.frames + words_before words_of_slot slots i), slice_index s.words (base_of s.frames + words_before words_of_slot slots i + 1))
          else elim n [ None ↦ None | Some m ↦ Some (base_of s.frames + words_before words_of_slot slots i, m) ]) of index
      by true n = refl
      by false None = refl
      by false (Some n) = refl

  target_seen : (t : Target) (of : Ctype) → KnownAt globals slots t → Means (base_of s.frames) t of
  target_seen (AGlobal i) of k = global_seen (base_of s.frames) i of k.0 k.1
  target_seen (ASlot i) of k = slot_seen i of k.0 k.1

-- ---- a name

module _ (set : PlaySetting) (s : State) (index : Option ℕ) where
  abbrev slots : List Slot
  slots = top_slots set.functions s.frames

  variable_seen : (v : Option Variable) → IsKnown set.globals slots v → seen_by s.words (base_of s.frames) (found_by set.globals slots v) index ≡ seen_of set s v index
  variable_seen None k = refl
  variable_seen (Some x) k = target_seen set.globals slots s index x.what x.of k

  -- a global lies where it lies whatever the frame
  by_target : (base : ℕ) (t : Target) (of : Ctype) → GlobalAt set.globals t
      → seen_by s.words base (found_of set.globals [] t of) index ≡ seen_at s.words (place_of set.globals slots t s) (array_of set.globals slots t s) of index
  by_target base (AGlobal i) of k = global_seen set.globals slots s index base i of k.0 k.1
  by_target base (ASlot i) of k = absurd k

  global_variable_seen : (base : ℕ) (v : Option Variable) → IsGlobal set.globals v → seen_by s.words base (found_by set.globals [] v) index ≡ seen_of set s v index
  global_variable_seen base None k = refl
  global_variable_seen base (Some x) k = by_target base x.what x.of k

module _ (p : Program) (n me : ℕ) (code : Code) (names : KeepsNames p code) (name : List ℕ) (index : Option ℕ) where
  abbrev set : PlaySetting
  set = play_setting p n me

  pub global_is : (s : State) (base : ℕ) → seen_by s.words base (found code None name) index ≡ seen_of set s (in_globals name 0 p.globals) index
  global_is s base =
      ap (λ o. seen_by s.words base o index) (names.globals name)
      ∙ global_variable_seen set s index base (in_globals name 0 p.globals) (global_known p.globals name)

  -- in a frame that stands at a place, with the blocks that are entered there
  in_frame_is : (t : State) (place line base function : ℕ) (rest : List Frame)
      → seen_by t.words base (found code (Some (record { function = function; place = place })) name) index
      ≡ value_named set (record t { frames = record { function = function; line = line; base = base; entered = entered_at code function place } ∷ rest }) name index
  in_frame_is t place line base function rest =
      let s = record t { frames = record { function = function; line = line; base = base; entered = entered_at code function place } ∷ rest } in
      let f = slice_get p.functions function in
      ap (λ o. seen_by t.words base o index) (names.locals (record { function = function; place = place }) name)
      ∙ variable_seen set s index (or_else (in_function name (entered_at code function place) f) (in_globals name 0 p.globals)) (name_known p.globals name (entered_at code function place) f)

  module _ (count number : ℕ) (e : Execution) where
    abbrev shown : Bool → State
    shown b = shown_state code count number e b []

    -- by the machine's innermost frame
    pub frame_is : (b : Bool) (f : MachineFrame) → slice_get (places_seen (control_of e) (shown b).frames) 0 ≡ Some f
        → seen_by (shown b).words f.base (found code (Some f.at) name) index ≡ value_named set (shown b) name index
    frame_is false f h = cc
    frame_is true f h =
        let here = frame_seen e.frame.function e.frame.place (record { function = e.frame.function; line = e.frame.line; base = e.frame.base; entered = [] }) in
        let same : here ≡ f = cc in
        subst (λ (x : MachineFrame). seen_by e.words x.base (found code (Some x.at) name) index ≡ value_named set (shown true) name index) same
        (in_frame_is (shown true) e.frame.place e.frame.line e.frame.base e.frame.function _)

    -- without a frame
    pub frameless_is : (b : Bool) → length (places_seen (control_of e) (shown b).frames) ≡ 0
        → value_named set (shown b) name index ≡ seen_of set (shown b) (in_globals name 0 p.globals) index
    frameless_is true h = absurd (omega (arith, h))
    frameless_is false h = refl
