-- A session's run is a replay, whatever its lines were.
use Rattle.std.proofs.Common.{◌≡◌, ℕ, Bool, true, false, cond, List, [], ◌∷◌, ◌++◌, length, Option, Some, None, refl, sym, ap, ◌∙◌, subst, append-nil, append_assoc}
use Rattle.std.specs.Prelude.{◌-◌, map, take, drop, nat_le}
use Rattle.std.proofs.lemmas.List.{take-append-drop}
use Rattle.std.proofs.lemmas.Option.{same_Some, none-some}
use Rattle.nm_base.specs.Fitting.{none, more}
use Rattle.nm_base.specs.Scripts.{Script}
use Rattle.c_tree.specs.declared.program.Program.{Program}
use Rattle.c_tree.specs.Play.{script_of}
use Rattle.c_tree.proofs.Histories.{scripts_are_lawful}
use Rattle.event_list.specs.declared.Event.{Event}
use Rattle.event_list.specs.Events.{count, messages}
use Rattle.event_list.specs.Cuts.{cut_list}
use Rattle.event_list.specs.FirstPicks.{first_turn, IsFirstPicked}
use Rattle.event_list.specs.Laws.{AreLawful}
use Rattle.event_list.specs.Order.{Cut, IsConsistent}
use Rattle.event_list.specs.Traces.{Trace, IsReplay}
use Rattle.event_list.specs.Turns.{Went}
use Rattle.event_list.proofs.FinishFacts.{came}
use Rattle.event_list.proofs.FirstPickFacts.{first_cut, first_turns}
use Rattle.event_list.proofs.Splits.{prefix}
use Rattle.event_list.proofs.TurnFacts.{replay_of_replays}
use Rattle.trace_file.specs.Content.{Content}
use Rattle.watchers.specs.Watched.{Watched}
use Rattle.report.specs.declared.replies.Notice.TheVariants as notice
use Rattle.report.specs.Replies.{at_line}
use Rattle.replay_core.specs.Gates.{seen_trace}
use Rattle.replay_core.specs.Stepping.{turned_by, step_of, full_run}
use Rattle.debugger.specs.declared.breakpoints.Break.{Break}
use Rattle.debugger.specs.Lines.{Asked}
use Rattle.debugger.specs.Lines as lines
use Rattle.debugger.specs.Sessions.{Session, Reply, Makes, MakesAll, Runs, GoesTo, Answers, first_session, set_at, clear_at, back_by, quiet}
use Rattle.debugger.specs.Sessions as sessions
use Rattle.debugger.proofs.Growing.{step_went}
use Rattle.debugger.proofs.GoingTo.{full_picked}
use Rattle.nm_top.specs.Debugging.{LineReplies, Talks}
use Rattle.nm_top.specs.Debugging as debugging

module _ (p : Program) (t : Content) where
  abbrev T : Trace
  T = seen_trace t

  abbrev scripts : ℕ → Script
  scripts = script_of p t.n

  lawful : AreLawful scripts
  lawful = scripts_are_lawful p t.n

  abbrev Picked : List Event → Type 0
  Picked R = IsFirstPicked scripts T R

  -- one event more, by a turn
  picked_more : (R : List Event) (e : Event) (q : ℕ) → Picked R → turned_by scripts T R q ≡ Went e → Picked (R ++ e ∷ [])
  picked_more R e q h went =
      let of_q = (came t.mask T R q 0 e ((scripts q).next (messages R q) (count R q)) went).of_p in
      more h (record { made = ap (turned_by scripts T R) of_q ∙ went })

  made_run : {s s' : Session} {watch watch' : List Watched} (e : Event) → Makes p T s watch e s' watch' → s'.run ≡ s.run ++ e ∷ []
  made_run e m = ap (λ (s : Session). s.run) m.is

  made : {s s' : Session} {watch watch' : List Watched} (e : Event) (q : ℕ) → Picked s.run → turned_by scripts T s.run q ≡ Went e
      → Makes p T s watch e s' watch' → Picked s'.run
  made {s} e q h went m = subst Picked (sym (made_run e m)) (picked_more s.run e q h went)

  stepped : {s s' : Session} {watch watch' : List Watched} (e : Event) → Picked s.run → step_of scripts T s.run ≡ Some e
      → Makes p T s watch e s' watch' → Picked s'.run
  stepped {s} e h is m = let went = step_went scripts T s.run e is in made e went.0 h went.1 m

  ran : {s s' : Session} {watch watch' : List Watched} {text : List ℕ} → Picked s.run → Runs p T s watch text s' watch' → Picked s'.run
  ran h (sessions.ends is) = h
  ran h (sessions.halts e is m halt) = stepped e h is m
  ran h (sessions.goes_on e is m halt rest) = ran (stepped e h is m) rest

  -- many events more
  all_run : {s s' : Session} {watch watch' : List Watched} (events : List Event) → MakesAll p T events s watch s' watch' → s'.run ≡ s.run ++ events
  all_run {s} [] sessions.nothing = sym (append-nil s.run)
  all_run {s} (e ∷ events) (sessions.more m rest) =
      all_run events rest ∙ ap (λ (R : List Event). R ++ events) (made_run e m) ∙ append_assoc s.run (e ∷ []) events

  gone : {s s' : Session} {watch watch' : List Watched} {text : List ℕ} (c : Cut) → IsConsistent (full_run scripts T) c
      → GoesTo p T c s watch text s' watch' → Picked s'.run
  gone c consistent goes =
      subst Picked (sym (all_run (cut_list c (full_run scripts T)) goes.makes))
      (first_cut scripts lawful T c (full_picked scripts T) consistent.closed)

  -- ---- lines that make no event

  set_run : (s : Session) (b : Break) (o : Option ℕ) → (set_at s b o).session.run ≡ s.run
  set_run s b None = refl
  set_run s b (Some k) = refl

  clear_run : (s : Session) (k : ℕ) (o : Option (Option Break)) → (clear_at s k o).session.run ≡ s.run
  clear_run s k None = refl
  clear_run s k (Some None) = refl
  clear_run s k (Some (Some b)) = refl

  back_picked : (s : Session) (k : ℕ) → Picked s.run → Picked (back_by s k).session.run
  back_picked s k h = by (nat_le k (length s.run))
    where
      front : Picked (take (length s.run - k) s.run)
      front =
          prefix (take (length s.run - k) s.run) (drop (length s.run - k) s.run)
          (subst Picked (sym (take-append-drop (length s.run - k) s.run)) h)

      by : (b : Bool) → Picked (cond b (record {
        text = at_line (length s.run - k);
        session = record { run = take (length s.run - k) s.run; breaks = s.breaks; made = s.made };
      }) (sessions.notices s notice.NoEvent)).session.run
      by true = front
      by false = h

  -- the session of a reply that leaves the run
  left : (s : Session) (given r : Reply) → Some given ≡ Some r → given.session.run ≡ s.run → Picked s.run → Picked r.session.run
  left s given r is same h = subst Picked (sym same ∙ ap (λ (r : Reply). r.session.run) (same_Some given r is)) h

  quiet_picked : (s : Session) (asked : Asked) (r : Reply) → quiet p T s asked ≡ Some r → Picked s.run → Picked r.session.run
  quiet_picked s lines.Nothing r is h = left s _ r is refl h
  quiet_picked s lines.Quit r is h = left s _ r is refl h
  quiet_picked s lines.NotALine r is h = left s _ r is refl h
  quiet_picked s lines.NotAProcess r is h = left s _ r is refl h
  quiet_picked s (lines.SetBreak q at) r is h = left s _ r is (set_run s _ _) h
  quiet_picked s (lines.Clear k) r is h = left s _ r is (clear_run s k _) h
  quiet_picked s (lines.Back k) r is h = subst (λ (r : Reply). Picked r.session.run) (same_Some _ r is) (back_picked s k h)
  quiet_picked s (lines.Print q name index) r is h = left s _ r is refl h
  quiet_picked s (lines.Frames q) r is h = left s _ r is refl h
  quiet_picked s lines.Where r is h = left s _ r is refl h
  quiet_picked s (lines.Output q) r is h = left s _ r is refl h
  quiet_picked s (lines.Mail q) r is h = left s _ r is refl h
  quiet_picked s (lines.Clock q) r is h = left s _ r is refl h
  quiet_picked s lines.Last r is h = left s _ r is refl h
  quiet_picked s lines.Step r is h = absurd (none-some r is)
  quiet_picked s (lines.StepOf q) r is h = absurd (none-some r is)
  quiet_picked s lines.Run r is h = absurd (none-some r is)
  quiet_picked s lines.Watch r is h = absurd (none-some r is)
  quiet_picked s (lines.Detach k) r is h = absurd (none-some r is)
  quiet_picked s (lines.Stop q k) r is h = absurd (none-some r is)
  quiet_picked s (lines.Avoid q k) r is h = absurd (none-some r is)
  quiet_picked s (lines.Compare q k r' j) r is h = absurd (none-some r is)

  -- ---- all lines

  answered : {asked : Asked} {s s' : Session} {watch watch' : List Watched} {text : List ℕ} → Picked s.run
      → Answers p T asked s watch text s' watch' → Picked s'.run
  answered h (sessions.quietly {asked} {s} {watch} {r} is) = quiet_picked s asked r is h
  answered h (sessions.step_ends is) = h
  answered h (sessions.steps e is m) = stepped e h is m
  answered h (sessions.idles q why is) = h
  answered h (sessions.steps_one q e is m) = made e q h is m
  answered h (sessions.runs runs) = ran h runs
  answered h sessions.watches = h
  answered h (sessions.detaches k w is) = h
  answered h (sessions.has_none k is) = h
  answered h (sessions.stops q k c recorded least goes) = gone c least.consistent goes
  answered h (sessions.avoids q k c recorded greatest goes) = gone c greatest.consistent goes
  answered h (sessions.stop_refused q k why is) = h
  answered h (sessions.avoid_refused q k why is) = h
  answered h (sessions.compares q k r j a b o recorded is_a is_b stands) = h
  answered h (sessions.compare_refused q k r j why is) = h

  replied : {line : List ℕ} {s s' : Session} {watch watch' : List Watched} {text : List ℕ} → Picked s.run
      → LineReplies p T line s watch text s' watch' → Picked s'.run
  replied h (debugging.too_long long) = h
  replied h (debugging.answers short a) = answered h a

  talked : (watch : List Watched) (some : List (List ℕ)) (text : List ℕ) (s : Session) (watch' : List Watched)
      → Talks p T first_session watch some text s watch' → Picked s.run
  talked watch some text s watch' debugging.silent = none
  talked watch some text s watch' (debugging.talks_on talks reply) = replied (talked watch _ _ _ _ talks) reply

  -- after any lines
  pub talked_replays : (watch : List Watched) (some : List (List ℕ)) (text : List ℕ) (s : Session) (watch' : List Watched)
      → Talks p T first_session watch some text s watch' → IsReplay scripts T s.run
  talked_replays watch some text s watch' talks =
      subst (IsReplay scripts T) (first_turns scripts T (talked watch some text s watch' talks))
      (replay_of_replays scripts lawful T (map first_turn s.run))
