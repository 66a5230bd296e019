use Rattle.std.proofs.Common.{◌≡◌, ℕ, ◌<◌, ◌≤◌, List, get_or, length}
use Rattle.nm_base.specs.Scripts.{Script}
use Rattle.event_list.specs.declared.Event.{Event}
use Rattle.event_list.specs.Events.{count}
use Rattle.world.specs.Worlds.{IsWorldOf}
use Rattle.recorder.proofs.ending.counts_of.Given as goal

abbrev pub invariant-loop-p : goal.invariant-loop-p
invariant-loop-p g l = record {
  long : length l.counts ≡ 32;
  done : (s : ℕ → Script) (E : List Event) → IsWorldOf g.P.Proc.stands_for l.world s E → (q : ℕ) → q < l.p → get_or l.counts q 0 ≡ count E q;
  rest : (q : ℕ) → l.p ≤ q → get_or l.counts q 0 ≡ 0;
}
