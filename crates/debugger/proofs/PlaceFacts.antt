-- What taking and freeing places for breakpoints makes of a session.
use Rattle.std.proofs.Common.{◌≡◌, ℕ, ◌<◌, ◌≤◌, ◌++◌, take, drop, inl, inr, List, Option, Some, length, sym, ap, ◌∙◌, subst, arith, add-one}
use Rattle.std.specs.Prelude.{slice_get, remove}
use Rattle.std.proofs.lemmas.Option.{slice_get_past, slice_get_cases}
use Rattle.c_tree.specs.declared.program.Program.{Program}
use Rattle.watchers.specs.Watched.{Watched}
use Rattle.report.specs.declared.replies.Notice.TheVariants as notice
use Rattle.report.specs.Replies.{detached_line, notice_line}
use Rattle.debugger.specs.declared.breakpoints.Break.{Break}
use Rattle.debugger.specs.Sessions.{Session}
use Rattle.debugger.specs.Sittings.{Sitting, IsSessionOf, IsSomeSession}
use Rattle.debugger.specs.private.Making.{with_breaks, detach_text, detached_from}

-- the sitting with these places
abbrev pub with_places : {M : Type 0} → Sitting M → List (Option Break) → Sitting M
with_places x breaks =
    record { code = x.code; trace = x.trace; replay = x.replay; kept = x.kept; breaks = breaks; latest = x.latest }

module _ {M : Type 0} (x : Sitting M) (breaks : List (Option Break)) (change : List (Option Break) → List (Option Break))
    (is : breaks ≡ change x.breaks) where
  pub changed : (p : Program) (s : Session) → IsSessionOf x p s
      → IsSessionOf (with_places x breaks) p (with_breaks s (change s.breaks))
  changed p s h = record {
    compiled = h.compiled;
    trace = h.trace;
    replays = h.replays;
    picked = h.picked;
    kept = h.kept;
    breaks = is ∙ ap change h.breaks;
    latest = h.latest;
  }

  pub some_changed : IsSomeSession x → IsSomeSession (with_places x breaks)
  some_changed h = (h.0, with_breaks h.1 (change h.1.breaks), changed h.0 h.1 h.2)

  pub all_changed : (v : Sitting M) → x ≡ v → (p : Program) (s : Session) → IsSessionOf v p s
      → IsSessionOf (with_places x breaks) p (with_breaks s (change s.breaks))
  all_changed v same p s h = changed p s (subst (λ y. IsSessionOf y p s) (sym same) h)

-- whether there is a watcher of this number
module _ (watch : List Watched) (k : ℕ) where
  there : k < length watch → (w : Watched) × (slice_get watch k ≡ Some w)
  there l = elim (slice_get_cases watch k).1 [ inl f ↦ (f.0, f.2) | inr f ↦ absurd (omega (arith, l, f.0)) ]

  pub detach_there : k < length watch → detached_line k ≡ detach_text k (slice_get watch k)
  detach_there l = let w = there l in ap (detach_text k) (sym w.1)

  pub detach_none : length watch ≤ k → notice_line notice.NoWatcher ≡ detach_text k (slice_get watch k)
  detach_none l = ap (detach_text k) (sym (slice_get_past watch k l))

  pub left_there : k < length watch → remove watch k ≡ detached_from watch k (slice_get watch k)
  left_there l =
      let w = there l in
      ap (λ j. take k watch ++ drop j watch) (sym (add-one k)) ∙ ap (detached_from watch k) (sym w.1)

  pub left_none : length watch ≤ k → watch ≡ detached_from watch k (slice_get watch k)
  left_none l = ap (detached_from watch k) (sym (slice_get_past watch k l))
