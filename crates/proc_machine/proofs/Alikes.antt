-- Executions that differ at most in their memory.
use Rattle.std.proofs.Common.{◌≡◌, ℕ, Bool, true, false, List, [], ◌∷◌, Vec, Global, sym, ap, ◌∙◌}
use Rattle.std.proofs.Math.Logic.{∥∥₁_map}
use Rattle.nm_base.specs.declared.kind.Kind.{Kind}
use Rattle.nm_base.specs.declared.kind.Kind.TheVariants as kind
use Rattle.nm_base.specs.Message.{Message}
use Rattle.c_tree.specs.State.{State, Able, Over, Done, Stopped}
use Rattle.stack_code.specs.Code.{Code}
use Rattle.stack_code.specs.Machine.{filled, blocks_of, step}
use Rattle.proc_machine.specs.declared.execution.Execution.{Execution}
use Rattle.proc_machine.specs.declared.pause.Pause.{Pause}
use Rattle.proc_machine.specs.declared.pause.Pause.TheVariants as pause
use Rattle.proc_machine.specs.Pauses.{status_of}
use Rattle.proc_machine.specs.private.Outcomes.{pause_by}
use Rattle.proc_machine.specs.View.{control_of, data_with}
use Rattle.proc_machine.specs.private.Sound.{Holds}
use Rattle.proc_machine.specs.private.Run.{StandsBefore, IsLastThere}
use Rattle.proc_machine.specs.Standing.{EndsThere, StaysThere, shown_state, stand, ComesTo}
use Rattle.proc_machine.specs.private.Kept.{IsFresh, IsTooLarge, IsKept}

module _ (code : Code) (count me : ℕ) (a : Execution) (o : Vec ℕ Global) (same : o.items ≡ a.output.items) where
  abbrev b : Execution
  b = record a { output = o }

  data_same : (events : List Kind) (left : ℕ) → data_with b events left ≡ data_with a events left
  data_same events left = ap (λ l. record (data_with a events left) { output = l }) same

  abbrev shows : State → State
  shows s = filled (blocks_of code count me (control_of a)) s

  last_alike : (n : Pause) → IsLastThere code count me a n → IsLastThere code count me b n
  last_alike (pause.Fault cause) h = λ events. ap (step code count me (control_of a)) (data_same events 1) ∙ h events
      ∙ ap (λ s. Stopped Over (shows s)) (sym (data_same (kind.Faulted cause ∷ events) 0))
  last_alike (pause.End value) h = λ events. ap (step code count me (control_of a)) (data_same events 1) ∙ h events ∙ ap (λ s. Stopped Over (shows s)) (sym (data_same (kind.Ended value ∷ events) 0))
  last_alike n h = tt

  stands_alike : (n : Pause) → StandsBefore code count me a n → StandsBefore code count me b n
  stands_alike n s = record {
    stops = λ events. ap (step code count me (control_of a)) (data_same events 0) ∙ s.stops events ∙ ap (λ x. Stopped (status_of n) (shows x)) (sym (data_same events 0));
    next_is = λ events. ap (λ x. pause_by (step code count me (control_of a) x)) (data_same events 1) ∙ s.next_is events;
    last = last_alike n s.last;
    waits_there = s.waits_there;
  }

  holds_alike : Holds code a → Holds code b
  holds_alike h = record { sound = h.sound; within = h.within; control = h.control; frames = h.frames; room = h.room; short = h.short }

  fresh_alike : IsFresh code a → IsFresh code b
  fresh_alike f = record {
    function = f.function;
    start = f.start;
    place = f.place;
    line = f.line;
    base = f.base;
    own = f.own;
    outer = f.outer;
    callers = f.callers;
    words = f.words;
    letter = f.letter;
    output = same
        ∙ f.output;
    sent = f.sent;
    room = f.room;
    short = f.short;
  }

  large_alike : IsTooLarge code a → IsTooLarge code b
  large_alike k = record { fresh = fresh_alike k.fresh; main = k.main; is = k.is; full = k.full }

  kept_plainly : (g : Bool) (n : Pause) → IsKept code count me a g n → IsKept code count me b g n
  kept_plainly true pause.Done k = holds_alike k
  kept_plainly false pause.Done k = large_alike k
  kept_plainly true n k = (holds_alike k.0, stands_alike n k.1)
  kept_plainly false n k = (k.0, large_alike k.1)

  pub kept_alike : (g : Bool) (n : Pause) → ∥ IsKept code count me a g n ∥₁ → ∥ IsKept code count me b g n ∥₁
  kept_alike g n k = ∥∥₁_map k (kept_plainly g n)

  shown_same : (g : Bool) (events : List Kind) → shown_state code count me b g events ≡ shown_state code count me a g events
  shown_same true events = ap shows (data_same events 0)
  shown_same false events = ap (λ (s : State). record s { frames = [] }) (data_same events 0)

  stand_same : (g : Bool) (n : Pause) (events : List Kind) → stand code count me b g n events ≡ stand code count me a g n events
  stand_same g pause.Done events = ap (λ s. Stopped Over s) (shown_same g events)
  stand_same true n events = ap (λ s. Done (control_of a) s) (data_same events 0)
  stand_same false n events = ap (λ s. Stopped Able s) (shown_same false events)

  ends_alike : (inputs : List Message) (events : List Kind) → EndsThere code count me a inputs events → EndsThere code count me b inputs events
  ends_alike inputs events h = record {
    last = h.last;
    before = h.before;
    made = h.made;
    steps = h.steps;
    comes = h.comes ∙ ap (λ s. Done (control_of a) s) (sym (data_same h.before 0));
    ends = ap (step code count me (control_of a)) (data_same h.before 1) ∙ h.ends ∙ ap (λ s. Stopped Over (shows s)) (sym (data_same events 0));
  }

  stays_alike : (g : Bool) (n : Pause) (inputs : List Message) (events : List Kind) → StaysThere code count me a g n inputs events → StaysThere code count me b g n inputs events
  stays_alike true pause.Done inputs events h = ends_alike inputs events h
  stays_alike true n inputs events h = tt
  stays_alike false n inputs events h = tt

  pub comes_alike : (g : Bool) (n : Pause) (inputs : List Message) (events : List Kind) → ComesTo code count me a g n inputs events → ComesTo code count me b g n inputs events
  comes_alike g n inputs events c =
      record { steps = c.steps; comes = c.comes ∙ sym (stand_same g n events); stays = stays_alike g n inputs events c.stays }
