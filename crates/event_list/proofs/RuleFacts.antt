-- A turn under a trace's rule is a turn under the trace.
use Rattle.std.proofs.Common.{◌≡◌, ℕ, ◌%◌, Bool, true, false, cond, List, length, Option, Some, None, refl}
use Rattle.std.specs.Prelude.{nat_le, not, slice_get}
use Rattle.nm_base.specs.Scripts.{Script, Next, Goes, Wants, Over}
use Rattle.event_list.specs.declared.Event.{Event}
use Rattle.event_list.specs.Events.{count, messages}
use Rattle.event_list.specs.Traces.{Trace}
use Rattle.event_list.specs.Turns.{AtCount, Turned, Stays, Went, Turn, allowed, next_event, taking, by_next, go}
use Rattle.event_list.specs.Rules.{rule_of, next_under, go_under}

if_not : (b : Bool) (x y : Turned) → cond b x y ≡ cond (not b) y x
if_not true x y = refl
if_not false x y = refl

next_rule : (M : ℕ) (T : Option Trace) (E : List Event) (p pick : ℕ) (n : Next) → by_next M T E p pick n ≡ next_under M (rule_of T) E p pick n
next_rule M None E p pick Over = refl
next_rule M None E p pick (Goes kind) = refl
next_rule M None E p pick (Wants set) = refl
next_rule M (Some T) E p pick Over = refl
next_rule M (Some T) E p pick (Goes kind) = if_not (nat_le (T.counts p) (count E p)) (Stays AtCount) (Went (next_event E p kind))
next_rule M (Some T) E p pick (Wants set) =
    if_not (nat_le (T.counts p) (count E p)) (Stays AtCount) (taking E p set (slice_get (allowed M (Some T) E p set) (pick % length (allowed M (Some T) E p set))))

pub turn_rule : (s : ℕ → Script) (M : ℕ) (T : Option Trace) (E : List Event) (t : Turn) → go s M T E t ≡ go_under s M (rule_of T) E t
turn_rule s M T E t = next_rule M T E t.proc t.pick ((s t.proc).next (messages E t.proc) (count E t.proc))
