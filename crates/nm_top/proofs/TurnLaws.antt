-- The run of a schedule, turn by turn.
use Rattle.std.proofs.Common.{◌≡◌, ℕ, zero, suc, ◌+◌, ◌≤◌, List, [], ◌∷◌, ◌++◌, length, take, None, Some, refl, sym, ap, ◌∙◌, subst, arith, length-append, add-one}
use Rattle.std.specs.Prelude.{map, fold, slice_get}
use Rattle.std.proofs.Math.Seq.{take-suc}
use Rattle.std.proofs.lemmas.List.Sums.{fold_push}
use Rattle.std.proofs.lemmas.Option.{slice_get_within, get_or_from_slice_get}
use Rattle.nm_base.specs.Scripts.{Script}
use Rattle.schedules.specs.declared.schedule.Turn.{Turn}
use Rattle.event_list.specs.declared.Event.{Event}
use Rattle.event_list.specs.Turns as turns
use Rattle.event_list.specs.Traces.{Trace}
use Rattle.event_list.specs.Turns.{Turned, Stays, Went, go, after, run_of, replay_of}
use Rattle.event_list.specs.Rules.{rule_of, go_under}
use Rattle.event_list.proofs.RuleFacts.{turn_rule}
use Rattle.processes.specs.Standing.{Standing}
use Rattle.world.specs.declared.world.Turned as outcomes
use Rattle.world.specs.Worlds.{Parts, IsWorldOf}
use Rattle.world.specs.Outcomes.{HasTurned, outcome}
use Rattle.nm_top.specs.Schedules.{seen_turn}

after_length : (E : List Event) (t : Turned) → length (after E t) ≤ length E + 1
after_length E (Stays why) = omega arith
after_length E (Went e) = omega (arith, length-append E (e ∷ []))

from_length : (s : ℕ → Script) (M : ℕ) (E : List Event) (ts : List turns.Turn) → length (fold (λ E t. after E (go s M None E t)) E ts) ≤ length E + length ts
from_length s M E [] = omega arith
from_length s M E (t ∷ ts) = omega (arith, from_length s M (after E (go s M None E t)) ts, after_length E (go s M None E t))

map_length : {X Y : Type 0} (f : X → Y) (xs : List X) → length (map f xs) ≡ length xs
map_length f [] = refl
map_length f (x ∷ xs) = ap suc (map_length f xs)

map_append : {X Y : Type 0} (f : X → Y) (xs ys : List X) → map f (xs ++ ys) ≡ map f xs ++ map f ys
map_append f [] ys = refl
map_append f (x ∷ xs) ys = ap (λ zs. f x ∷ zs) (map_append f xs ys)

take_length : {X : Type 0} (i : ℕ) (xs : List X) → length (take i xs) ≤ i
take_length zero xs = omega arith
take_length (suc i) [] = omega arith
take_length (suc i) (x ∷ xs) = omega (arith, take_length i xs)

-- a run has at most one event a turn
pub run_length : (s : ℕ → Script) (M : ℕ) (ts : List Turn) (i : ℕ) → length (run_of s M (map seen_turn (take i ts))) ≤ i
run_length s M ts i = omega (arith, from_length s M [] (map seen_turn (take i ts)), map_length seen_turn (take i ts), take_length i ts)

-- the first turns, with one more
one_more : (ts : List Turn) (i : ℕ) (t : Turn) → slice_get ts i ≡ Some t → take (i + 1) ts ≡ take i ts ++ t ∷ []
one_more ts i t at =
    ap (λ k. take k ts) (add-one i) ∙ take-suc ts i t (slice_get_within ts i t at) ∙ ap (λ u. take i ts ++ u ∷ []) (get_or_from_slice_get ts i t t at)

pub replay_more : (s : ℕ → Script) (T : Trace) (ts : List Turn) (i : ℕ) (t : Turn) → slice_get ts i ≡ Some t
    → replay_of s T (map seen_turn (take (i + 1) ts))
    ≡ after (replay_of s T (map seen_turn (take i ts))) (go s T.mask (Some T) (replay_of s T (map seen_turn (take i ts))) (seen_turn t))
replay_more s T ts i t at =
    ap (λ us. replay_of s T (map seen_turn us)) (one_more ts i t at) ∙ ap (replay_of s T) (map_append seen_turn (take i ts) (t ∷ []))
    ∙ fold_push (λ R u. after R (go s T.mask (Some T) R u)) [] (map seen_turn (take i ts)) (seen_turn t)

-- one turn more
pub run_more : (s : ℕ → Script) (M : ℕ) (ts : List Turn) (i : ℕ) (t : Turn) → slice_get ts i ≡ Some t
    → run_of s M (map seen_turn (take (i + 1) ts)) ≡ after (run_of s M (map seen_turn (take i ts))) (go s M None (run_of s M (map seen_turn (take i ts))) (seen_turn t))
run_more s M ts i t at =
    ap (λ us. run_of s M (map seen_turn us)) (one_more ts i t at) ∙ ap (run_of s M) (map_append seen_turn (take i ts) (t ∷ []))
    ∙ fold_push (λ E u. after E (go s M None E u)) [] (map seen_turn (take i ts)) (seen_turn t)

-- What a world keeps while the turns of a schedule are made: it stands for the run of the first i turns.
pub record AfterTurns {P M O : Type 0} (stands_for : P → Standing) (origin_of : P → O) (start now : Parts P M) (ts : List Turn) (i : ℕ) : Type 0 where
  pub run : (s : ℕ → Script) → IsWorldOf stands_for start s [] → IsWorldOf stands_for now s (run_of s start.mask (map seen_turn (take i ts)))
  pub mask : now.mask ≡ start.mask
  pub size : length now.processes ≡ length start.processes
  pub origins : map origin_of now.processes ≡ map origin_of start.processes

module _ {P M O : Type 0} (stands_for : P → Standing) (origin_of : P → O) (start : Parts P M) (ts : List Turn) where
  -- fewer events happened than turns were made
  pub few_events : (now : Parts P M) (i : ℕ) → (s : ℕ → Script) × IsWorldOf stands_for start s [] → AfterTurns stands_for origin_of start now ts i → now.events ≤ i
  few_events now i b a = omega (arith, (a.run b.0 b.1).events, run_length b.0 start.mask ts i)

  -- one turn more
  pub next_turn : (now new : Parts P M) (i : ℕ) (t : Turn) (what : outcomes.Turned) → AfterTurns stands_for origin_of start now ts i → slice_get ts i ≡ Some t
      → ((s : ℕ → Script) (E : List Event) → IsWorldOf stands_for now s E → HasTurned stands_for now.mask (rule_of None) new s E (seen_turn t) what)
      → new.mask ≡ now.mask → length new.processes ≡ length now.processes → map origin_of new.processes ≡ map origin_of now.processes
      → AfterTurns stands_for origin_of start new ts (i + 1)
  next_turn now new i t what a at turned mask size origins = record {
    run = λ s h.
        let E = run_of s start.mask (map seen_turn (take i ts)) in
        let k = turned s E (a.run s h) in
        let went : go s start.mask None E (seen_turn t) ≡ outcome what =
        turn_rule s start.mask None E (seen_turn t) ∙ subst (λ m. go_under s m (rule_of None) E (seen_turn t) ≡ outcome what) a.mask k.is in
        subst (λ F. IsWorldOf stands_for new s F) (sym (run_more s start.mask ts i t at ∙ ap (after E) went)) k.stands;
    mask = mask ∙ a.mask;
    size = size ∙ a.size;
    origins = origins ∙ a.origins;
  }
