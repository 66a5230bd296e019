-- The histories of a script of a process are what it plays, and they keep the laws of scripts.
use Rattle.std.proofs.Common.{◌≡◌, ℕ, zero, suc, ◌+◌, ◌<◌, Bool, true, false, List, [], ◌∷◌, ◌++◌, length, map, reverse, inl, inr, refl, sym, ap, ◌∙◌, subst, arith, add-one}
use Rattle.std.specs.Prelude.{◌||◌, cond, filter, filter_map, slice_index_or}
use Rattle.std.specs.List.{list_any}
use Rattle.std.proofs.lemmas.List.{reverse-append, reverse-reverse, length-append, append-nil, map-append}
use Rattle.std.proofs.lemmas.List.Elements.{filter_map-append}
use Rattle.std.proofs.lemmas.List.Folds.{list_any-append}
use Rattle.nm_base.specs.declared.kind.Kind.{Kind}
use Rattle.nm_base.specs.declared.kind.Kind.TheVariants.{Sent, Accepted}
use Rattle.nm_base.specs.Fitting.{none, more}
use Rattle.nm_base.specs.Message.{Message}
use Rattle.nm_base.specs.Scripts.{Goes, Step, Made, Took, kind_in, message_in, next_after, StepFits, IsHistory, is_send, is_last, IsLawful}
use Rattle.nm_base.specs.Scripts as scripts
use Rattle.c_tree.specs.State.{State, Able, Wants, Over, Outcome, Done, Stopped}
use Rattle.c_tree.specs.Laws.{AbleGoesOn, HistoriesArePlayed, ScriptsAreLawful}
use Rattle.c_tree.specs.Play.{PlaySetting, play_setting, Played, played_of, next_made, next_by, next, script_in, run_of, play}
use Rattle.c_tree.proofs.Longer.{state_of, sends_in, Counted, CountedAfter, Fits, Extends, Went}
use Rattle.c_tree.proofs.Plays.{played_events, played_state, run_leads, run_counts, run_extends}

-- ---- lists

ends_empty : {A : Type 0} (xs ys : List A) → [] ≡ xs ++ ys → ys ≡ []
ends_empty [] ys e = sym e
ends_empty (x ∷ xs) ys e = cc

sends_append : (xs ys : List Kind) → sends_in (xs ++ ys) ≡ sends_in xs + sends_in ys
sends_append [] ys = omega arith
sends_append (x ∷ xs) ys = by (is_send x) (sends_append xs ys)
  where
    by : (b : Bool) → sends_in (xs ++ ys) ≡ sends_in xs + sends_in ys → elim b [ true ↦ suc (sends_in (xs ++ ys)) | false ↦ sends_in (xs ++ ys) ] ≡ elim b [ true ↦ suc (sends_in xs) | false ↦ sends_in xs ] + sends_in ys
    by true e = omega (arith, e)
    by false e = e

reverse_first : {A : Type 0} (x : A) (xs : List A) → reverse (x ∷ xs) ≡ reverse xs ++ x ∷ []
reverse_first x xs = reverse-append (x ∷ []) xs

reverse_last : (h : List Step) (x : Step) → reverse (map kind_in (h ++ x ∷ [])) ≡ kind_in x ∷ reverse (map kind_in h)
reverse_last h x = ap reverse (map-append kind_in h (x ∷ [])) ∙ reverse-append (map kind_in h) (kind_in x ∷ [])

sends_one : (b : Bool) (n : ℕ) (x : Step) (xs : List Step) → n ≡ length xs → n + elim b [ true ↦ suc zero | false ↦ zero ] ≡ length (cond b (x ∷ xs) xs)
sends_one true n x xs e = omega (arith, e)
sends_one false n x xs e = omega (arith, e)

sends_of_history : (h : List Step) → sends_in (reverse (map kind_in h)) ≡ length (filter (λ step. is_send (kind_in step)) h)
sends_of_history [] = refl
sends_of_history (x ∷ xs) =
    ap sends_in (reverse_first (kind_in x) (map kind_in xs))
    ∙ sends_append (reverse (map kind_in xs)) (kind_in x ∷ [])
    ∙ sends_one (is_send (kind_in x)) _ x (filter (λ step. is_send (kind_in step)) xs) (sends_of_history xs)

true_right : (b : Bool) → (b || true) ≡ true
true_right true = refl
true_right false = refl

last_within : (h : List Step) (k : ℕ) (step : Step) → k < length h → slice_index_or h k step ≡ step → is_last (kind_in step) ≡ true → list_any is_last (reverse (map kind_in h)) ≡ true
last_within [] k step lt e l = absurd (omega (arith, lt))
last_within (x ∷ xs) zero step lt e l =
    let here : is_last (kind_in x) ≡ true = ap (λ y. is_last (kind_in y)) e ∙ l in
    ap (list_any is_last) (reverse_first (kind_in x) (map kind_in xs))
    ∙ list_any-append is_last (reverse (map kind_in xs)) (kind_in x ∷ [])
    ∙ ap (λ b. list_any is_last (reverse (map kind_in xs)) || (b || false)) here
    ∙ true_right (list_any is_last (reverse (map kind_in xs)))
last_within (x ∷ xs) (suc k) step lt e l =
    ap (list_any is_last) (reverse_first (kind_in x) (map kind_in xs))
    ∙ list_any-append is_last (reverse (map kind_in xs)) (kind_in x ∷ [])
    ∙ ap (λ b. b || list_any is_last (kind_in x ∷ [])) (last_within xs k step (omega (arith, lt)) e l)

-- ---- one event more

-- the second outcome made one event more than the first and has taken all letters
pub record Onward (kind : Kind) (o o' : Outcome ℕ) : Type 0 where
  pub events : (state_of o').events ≡ kind ∷ (state_of o).events
  pub left : (state_of o').left ≡ 0
  pub inputs : (state_of o').inputs ≡ []

one_made : (kind first : Kind) (made : List Kind) (k : ℕ) (s t : State) → t.events ≡ made ++ first ∷ s.events → length s.events ≡ k → length t.events + t.left ≡ suc k → (t.events ≡ first ∷ s.events) × (t.left ≡ 0)
one_made kind first [] k s t e n m = (e, omega (arith, ap length e, n, m))
one_made kind first (x ∷ xs) k s t e n m =
    absurd (omega (arith, ap length e, length-append xs (first ∷ s.events), n, m))

-- an event that comes by itself, and the letters counted before it
pub record ByItself (kind : Kind) (o o' : Outcome ℕ) : Type 0 where
  pub fits : Fits (state_of o).sent kind
  pub counted : Counted (state_of o)
  pub onward : Onward kind o o'

went_by : (kind : Kind) (k : ℕ) (s : State) (o' : Outcome ℕ) → next_made (state_of o').events ≡ Goes kind → Counted s → Went 1 [] s (state_of o') → s.inputs ≡ [] → length s.events ≡ k → length (state_of o').events + (state_of o').left ≡ suc k → ByItself kind (Stopped Able s) o'
went_by kind k s o' e c w i n m =
    let one = one_made kind w.first w.since.made k s (state_of o') w.since.events n m in
    let goes : Goes w.first ≡ Goes kind = ap next_made (sym one.0) ∙ e in
    let same : w.first ≡ kind = cc in
    let none_left : [] ≡ w.since.took ++ (state_of o').inputs = ap (λ ls. ls ++ []) (sym i) ∙ w.since.inputs in
    record {
      fits = subst (Fits s.sent) same w.fits;
      counted = c;
      onward = record {
        events = one.0 ∙ ap (λ kind. kind ∷ s.events) same;
        left = one.1;
        inputs = ends_empty w.since.took (state_of o').inputs none_left;
      };
    }

goes_by : (kind : Kind) (k : ℕ) (o o' : Outcome ℕ) → next_by (played_of o).status (played_of o') ≡ Goes kind → CountedAfter o → Extends 1 [] o o' → (state_of o).inputs ≡ [] → length (state_of o).events ≡ k → length (state_of o').events + (state_of o').left ≡ suc k → ByItself kind o o'
goes_by kind k (Done v s) o' e c x i n m = cc
goes_by kind k (Stopped Over s) o' e c x i n m = cc
goes_by kind k (Stopped (Wants set) s) o' e c x i n m = cc
goes_by kind k (Stopped Able s) o' e c (inl x) i n m = absurd (omega (arith, x.1))
goes_by kind k (Stopped Able s) o' e c (inr x) i n m =
    went_by kind k s o' (sym (ap (λ t. next_made t.events) (played_state o')) ∙ e) c x.1 i n m

made_wants_none : (kinds : List Kind) (set : ℕ) → next_made kinds ≡ scripts.Wants set → ⊥
made_wants_none [] set e = cc
made_wants_none (kind ∷ kinds) set e = cc

wants_by : (set k : ℕ) (m : Message) (later : Played) (o o' : Outcome ℕ) → next_by (played_of o).status later ≡ scripts.Wants set → Extends 1 (m ∷ []) o o' → (state_of o).inputs ≡ [] → length (state_of o).events ≡ k → length (state_of o').events + (state_of o').left ≡ suc k → Onward (Accepted set m.id) o o'
wants_by set k m later (Done v s) o' e x i n l = cc
wants_by set k m later (Stopped Over s) o' e x i n l = cc
wants_by set k m later (Stopped Able s) o' e x i n l = absurd (made_wants_none later.state.events set e)
wants_by set k m later (Stopped (Wants channels) s) o' e (inl (same, inl none_more)) i n l = absurd (omega (arith, none_more))
wants_by set k m later (Stopped (Wants channels) s) o' e (inl (same, inr no_letter)) i n l =
    absurd (omega (arith, ap length no_letter, length-append s.inputs (m ∷ [])))
wants_by set k m later (Stopped (Wants channels) s) o' e (inr (short, t)) i n l =
    let comes : m ∷ [] ≡ t.letter ∷ t.later = sym (ap (λ ls. ls ++ m ∷ []) i) ∙ t.comes in
    let is_m : t.letter ≡ m = cc in
    let no_more : [] ≡ t.later = cc in
    let same : channels ≡ set = cc in
    let one = one_made (Accepted set m.id) (Accepted channels t.letter.id) t.since.made k s (state_of o') t.since.events n l in
    record {
      events = one.0 ∙ ap (λ c. Accepted c t.letter.id ∷ s.events) same ∙ ap (λ letter. Accepted set letter.id ∷ s.events) is_m;
      left = one.1;
      inputs = ends_empty t.since.took (state_of o').inputs (no_more ∙ t.since.inputs);
    }

goes_first : (first : Kind) (made kinds : List Kind) (events : List Kind) → events ≡ made ++ first ∷ kinds → (kind : Kind) × (next_made events ≡ Goes kind)
goes_first first [] kinds events e = (first, ap next_made e)
goes_first first (x ∷ xs) kinds events e = (x, ap next_made e)

able_by : (o o' : Outcome ℕ) → (played_of o).status ≡ Able → Extends 1 [] o o' → (kind : Kind) × (next_by (played_of o).status (played_of o') ≡ Goes kind)
able_by (Done v s) o' e x = cc
able_by (Stopped Over s) o' e x = cc
able_by (Stopped (Wants set) s) o' e x = cc
able_by (Stopped Able s) o' e (inl x) = absurd (omega (arith, x.1))
able_by (Stopped Able s) o' e (inr x) =
    let w = x.1 in
    let goes = goes_first w.first w.since.made s.events (state_of o').events w.since.events in
    (goes.0, ap (λ t. next_made t.events) (played_state o') ∙ goes.1)

over_by : (later : Played) (o : Outcome ℕ) → CountedAfter o → list_any is_last (state_of o).events ≡ true → next_by (played_of o).status later ≡ scripts.Over
over_by later (Done v s) c l = refl
over_by later (Stopped Over s) c l = refl
over_by later (Stopped Able s) c l = let quiet = c.quiet in cc
over_by later (Stopped (Wants set) s) c l = let quiet = c.quiet in cc

-- ---- histories

module _ (set : PlaySetting) where
  abbrev taken : List Step → List Message
  taken h = filter_map message_in h

  -- after these letters and so many events the process has made these events, the last one first, and taken all letters
  pub record Stands (letters : List Message) (k : ℕ) (kinds : List Kind) : Type 0 where
    pub events : (state_of (run_of set letters k)).events ≡ kinds
    pub left : (state_of (run_of set letters k)).left ≡ 0
    pub inputs : (state_of (run_of set letters k)).inputs ≡ []

  counted : (letters : List Message) (k : ℕ) → length (state_of (run_of set letters k)).events + (state_of (run_of set letters k)).left ≡ k
  counted letters k =
      let l = run_leads 0 [] set letters k in
      omega (arith, l.left, ap length l.events, length-append l.made [])

  at_start : Stands [] 0 []
  at_start =
      let l = run_leads 0 [] set [] 0 in
      let n = counted [] 0 in
      record {
        events = no_events (state_of (run_of set [] 0)).events (omega (arith, n));
        left = omega (arith, n);
        inputs = ends_empty l.took (state_of (run_of set [] 0)).inputs l.inputs;
      }
    where
      no_events : (kinds : List Kind) → length kinds ≡ 0 → kinds ≡ []
      no_events [] e = refl
      no_events (x ∷ xs) e = absurd (omega (arith, e))

  onward : (letters later : List Message) (k : ℕ) (kind : Kind) (kinds : List Kind) → Stands letters k kinds → Onward kind (run_of set letters k) (run_of set later (suc k)) → Stands later (suc k) (kind ∷ kinds)
  onward letters later k kind kinds st w = record {
    events = w.events ∙ ap (λ ks. kind ∷ ks) st.events;
    left = w.left;
    inputs = w.inputs;
  }

  extended : (letters extra : List Message) (k : ℕ) → Extends 1 extra (run_of set letters k) (run_of set (letters ++ extra) (suc k))
  extended letters extra k =
      subst (λ n. Extends 1 extra (run_of set letters k) (run_of set (letters ++ extra) n)) (add-one k) (run_extends 1 extra set letters k)

  events_made : (letters : List Message) (k : ℕ) (kinds : List Kind) → Stands letters k kinds → length (state_of (run_of set letters k)).events ≡ k
  events_made letters k kinds st = omega (arith, counted letters k, st.left)

  by_itself : (letters : List Message) (k : ℕ) (kind : Kind) (kinds : List Kind) → Stands letters k kinds → next set letters k ≡ Goes kind → ByItself kind (run_of set letters k) (run_of set letters (suc k))
  by_itself letters k kind kinds st e =
      goes_by kind k (run_of set letters k) (run_of set letters (suc k)) e (run_counts set letters k) (subst (λ ls. Extends 1 [] (run_of set letters k) (run_of set ls (suc k))) (append-nil letters) (extended letters [] k)) st.inputs (events_made letters k kinds st) (counted letters (suc k))

  by_letter : (letters : List Message) (k channels : ℕ) (m : Message) (kinds : List Kind) → Stands letters k kinds → next set letters k ≡ scripts.Wants channels → Onward (Accepted channels m.id) (run_of set letters k) (run_of set (letters ++ m ∷ []) (suc k))
  by_letter letters k channels m kinds st e =
      wants_by channels k m (play set letters (suc k)) (run_of set letters k) (run_of set (letters ++ m ∷ []) (suc k)) e (extended letters (m ∷ []) k) st.inputs (events_made letters k kinds st) (counted (letters ++ m ∷ []) (suc k))

  grown : (h : List Step) (step : Step) (letters : List Message) → taken h ++ filter_map message_in (step ∷ []) ≡ letters → Stands letters (suc (length h)) (kind_in step ∷ reverse (map kind_in h)) → Stands (taken (h ++ step ∷ [])) (length (h ++ step ∷ [])) (reverse (map kind_in (h ++ step ∷ [])))
  grown h step letters e st =
      let n : suc (length h) ≡ length (h ++ step ∷ []) = omega (arith, length-append h (step ∷ [])) in
      let same : letters ≡ taken (h ++ step ∷ []) = sym e ∙ sym (filter_map-append message_in h (step ∷ [])) in
      let a = subst (λ ls. Stands ls (suc (length h)) (kind_in step ∷ reverse (map kind_in h))) same st in
      let b = subst (λ k. Stands (taken (h ++ step ∷ [])) k (kind_in step ∷ reverse (map kind_in h))) n a in
      subst (Stands (taken (h ++ step ∷ [])) (length (h ++ step ∷ []))) (sym (reverse_last h step)) b

  one_more_step : (h : List Step) (step : Step) → Stands (taken h) (length h) (reverse (map kind_in h)) → StepFits (script_in set) h step → Stands (taken (h ++ step ∷ [])) (length (h ++ step ∷ [])) (reverse (map kind_in (h ++ step ∷ [])))
  one_more_step h (Made kind) st fits =
      let w = by_itself (taken h) (length h) kind (reverse (map kind_in h)) st fits in
      grown h (Made kind) (taken h) (append-nil (taken h)) (onward (taken h) (taken h) (length h) kind (reverse (map kind_in h)) st w.onward)
  one_more_step h (Took channels m) st fits =
      let w = by_letter (taken h) (length h) channels m (reverse (map kind_in h)) st fits.0 in
      grown h (Took channels m) (taken h ++ m ∷ []) refl (onward (taken h) (taken h ++ m ∷ []) (length h) (Accepted channels m.id) (reverse (map kind_in h)) st w)

  pub history_stands : {h : List Step} → IsHistory (script_in set) h → Stands (taken h) (length h) (reverse (map kind_in h))
  history_stands none = at_start
  history_stands (more {xs = h} {x = step} hs fits) = one_more_step h step (history_stands hs) fits

  next_itself : (h : List Step) (kind : Kind) → IsHistory (script_in set) h → next_after (script_in set) h ≡ Goes kind → Fits (length (filter (λ step. is_send (kind_in step)) h)) kind
  next_itself h kind hs e =
      let st = history_stands hs in
      let w = by_itself (taken h) (length h) kind (reverse (map kind_in h)) st e in
      subst (λ n. Fits n kind) (w.counted.sent ∙ ap sends_in st.events ∙ sends_of_history h) w.fits

  pub lawful : IsLawful (script_in set)
  lawful = record {
    no_receive = λ h channels id hs e. next_itself h (Accepted channels id) hs e;
    numbered = λ h number dest chan len words hs e. (next_itself h (Sent number dest chan len words) hs e).0;
    sized = λ h number dest chan len words hs e. let f = next_itself h (Sent number dest chan len words) hs e in (f.1, f.2, f.3);
    ends = λ h step hs c l.
        let st = history_stands hs in
        let any = last_within h c.0 step c.1 c.2 l in
        over_by (play set (taken h) (suc (length h))) (run_of set (taken h) (length h)) (run_counts set (taken h) (length h)) (ap (list_any is_last) st.events ∙ any);
  }

pub histories_are_played : HistoriesArePlayed
histories_are_played set h hs =
    let o = run_of set (taken set h) (length h) in
    let st = history_stands set hs in
    played_events o ∙ ap reverse st.events ∙ reverse-reverse (map kind_in h)

pub able_goes_on : AbleGoesOn
able_goes_on set inputs k e =
    let x = subst (λ ls. Extends 1 [] (run_of set inputs k) (run_of set ls (suc k))) (append-nil inputs) (extended set inputs [] k) in
    able_by (run_of set inputs k) (run_of set inputs (suc k)) e x

pub scripts_are_lawful : ScriptsAreLawful
scripts_are_lawful program count me = lawful (play_setting program count me)
