-- A turn, by what the process shows.
use Rattle.std.proofs.Common.{◌≡◌, ℕ, zero, suc, ◌%◌, true, false, Option, Some, None, cond, List, [], length, replicate, get_or, refl, ap, ◌∙◌, subst}
use Rattle.std.specs.Prelude.{slice_get, map, Contains}
use Rattle.std.proofs.lemmas.Option.{same_Some, none-some}
use Rattle.nm_base.specs.declared.letter.Stamp.{Stamp}
use Rattle.nm_base.specs.declared.letter.Letter.{Letter}
use Rattle.nm_base.specs.declared.kind.Kind.{Kind}
use Rattle.nm_base.specs.Fitting.{none}
use Rattle.processes.specs.declared.proc.Look.{Look}
use Rattle.processes.specs.declared.proc.Look.TheVariants.{Able, Waiting, Ended, Faulted}
use Rattle.nm_base.specs.Message.{Message, message_of}
use Rattle.nm_base.specs.Scripts.{Script, Next, Goes, Wants, Over, IsLawful}
use Rattle.processes.specs.Listed.{listed}
use Rattle.processes.specs.ListedFacts.{listed_lawful}
use Rattle.processes.specs.Standing.{Standing, Shows, IsOver}
use Rattle.vector_clocks.specs.Parts.{part_of}
use Rattle.event_list.specs.declared.Event.{Event}
use Rattle.event_list.specs.Events.{count}
use Rattle.event_list.specs.Rules.{Rule, allowed_under, next_under}
use Rattle.event_list.specs.Turns as turns
use Rattle.event_list.proofs.Members.{empty}
use Rattle.world.specs.Worlds.{IsWorldOf}
use Rattle.world.specs.Outcomes.{Begins}

-- a process that is over
pub over_shown : (look : Look) (n : Next) → IsOver look → Shows look n → n ≡ Over
over_shown look Over o h = refl
over_shown (Ended value) (Goes kind) o h = absurd h
over_shown (Faulted cause) (Goes kind) o h = absurd h
over_shown (Ended value) (Wants set) o h = absurd h
over_shown (Faulted cause) (Wants set) o h = absurd h
over_shown Able (Goes kind) o h = absurd o
over_shown (Waiting set) (Goes kind) o h = absurd o
over_shown Able (Wants set) o h = absurd o
over_shown (Waiting set) (Wants other) o h = absurd o

pub over_turn : (M : ℕ) (rule : Rule) (E : List Event) (p pick : ℕ) (n : Next) → n ≡ Over → next_under M rule E p pick n ≡ turns.Stays turns.IsOver
over_turn M rule E p pick n h = ap (next_under M rule E p pick) h

-- a process that the gate stops
pub stopped_turn : (M : ℕ) (rule : Rule) (E : List Event) (p pick : ℕ) (look : Look) (n : Next) → (IsOver look → ⊥) → Shows look n → rule.lets_go p (count E p) ≡ false → next_under M rule E p pick n ≡ turns.Stays turns.AtCount
stopped_turn M rule E p pick look (Goes kind) o h stop = ap (λ b. cond b (turns.Went (turns.next_event E p kind)) (turns.Stays turns.AtCount)) stop
stopped_turn M rule E p pick look (Wants set) o h stop = ap (λ b. cond b (turns.taking E p set (slice_get (allowed_under M rule E p set) (pick % length (allowed_under M rule E p set)))) (turns.Stays turns.AtCount)) stop
stopped_turn M rule E p pick Able Over o h stop = absurd h
stopped_turn M rule E p pick (Waiting set) Over o h stop = absurd h
stopped_turn M rule E p pick (Ended value) Over o h stop = absurd (o tt)
stopped_turn M rule E p pick (Faulted cause) Over o h stop = absurd (o tt)

-- a process that goes
pub made_turn : (M : ℕ) (rule : Rule) (E : List Event) (p pick : ℕ) (n : Next) (kind : Kind) → n ≡ Goes kind → rule.lets_go p (count E p) ≡ true → next_under M rule E p pick n ≡ turns.Went (turns.next_event E p kind)
made_turn M rule E p pick n kind h may = ap (next_under M rule E p pick) h ∙ ap (λ b. cond b (turns.Went (turns.next_event E p kind)) (turns.Stays turns.AtCount)) may

pub took_turn : (M : ℕ) (rule : Rule) (E : List Event) (p pick : ℕ) (n : Next) (set : ℕ) → n ≡ Wants set → rule.lets_go p (count E p) ≡ true → next_under M rule E p pick n ≡ turns.taking E p set (slice_get (allowed_under M rule E p set) (pick % length (allowed_under M rule E p set)))
took_turn M rule E p pick n set h may = ap (next_under M rule E p pick) h ∙ ap (λ b. cond b (turns.taking E p set (slice_get (allowed_under M rule E p set) (pick % length (allowed_under M rule E p set)))) (turns.Stays turns.AtCount)) may

no_parts : (n p : ℕ) → get_or (let z : ℕ = 0 in replicate n z) p 0 ≡ 0
no_parts zero p = nothing p
  where
    nothing : (p : ℕ) → get_or (let none : List ℕ = [] in none) p 0 ≡ 0
    nothing p = refl
no_parts (suc n) zero = refl
no_parts (suc n) (suc p) = no_parts n p

-- scripts for processes each of which begins one
module _ {P : Type 0} (stands_for : P → Standing) (lawful : (x : P) (s : Script) (letters : List Message) (k : ℕ) → stands_for x s letters k → IsLawful s) (ps : List P) (begins : (p : ℕ) (x : P) → slice_get ps p ≡ Some x → (s : Script) × stands_for x s [] 0) where
  script_by : (p : ℕ) (o : Option P) → slice_get ps p ≡ o → Script
  script_by p None e = listed []
  script_by p (Some x) e = (begins p x e).0

  lawful_by : (p : ℕ) (o : Option P) (e : slice_get ps p ≡ o) → IsLawful (script_by p o e)
  unfolding script_by
  lawful_by p None e = listed_lawful [] refl
  lawful_by p (Some x) e = lawful x (begins p x e).0 [] 0 (begins p x e).1

  stands_by : (p : ℕ) (x : P) (o : Option P) (e : slice_get ps p ≡ o) → o ≡ Some x → stands_for x (script_by p o e) [] 0
  unfolding script_by
  stands_by p x None e h = absurd (none-some x h)
  stands_by p x (Some y) e h = subst (λ z. stands_for z (begins p y e).0 [] 0) (same_Some y x h) (begins p y e).1

  pub some_scripts : (s : ℕ → Script) × Begins stands_for ps s
  some_scripts = (
    (λ p. script_by p (slice_get ps p) refl),
    record { lawful = λ p. lawful_by p (slice_get ps p) refl; stands = λ p x at. stands_by p x (slice_get ps p) refl at },
  )

-- a world before its first event
pub begun : {P M : Type 0} (stands_for : P → Standing) (ps : List P) (m : M) (ls : List Letter) (mask : ℕ) (cs : List Stamp) (s : ℕ → Script)
    → Begins stands_for ps s → ls ≡ [] → ((p q : ℕ) → part_of cs p q ≡ 0)
    → IsWorldOf stands_for (record { processes = ps; mail = m; letters = ls; mask = mask; clocks = cs; receives = replicate 32 0; sent = 0; accepted = 0; events = 0 }) s []
begun stands_for ps m ls mask cs s b no_letters no_clock = record {
  lawful = b.lawful;
  run = none;
  below = λ e c. absurd (empty e c);
  stands = b.stands;
  mail = ap (map message_of) no_letters;
  posted = λ l c. absurd (empty l (subst (λ ls. Contains ls l) no_letters c));
  clock = no_clock;
  receives = no_parts 32;
  sent = refl;
  accepted = refl;
  events = refl;
}
