-- What the commands on a trace say of the run that was recorded.
use Rattle.std.proofs.Common.{◌≡◌, ◌≢◌, ℕ, List, [], ◌∷◌, ◌++◌, length, map, true, Option, None, Some, IfSome, MatchOption, inl, inr, sym, ap, ◌∙◌, subst, arith}
use Rattle.std.specs.Prelude.{IsSomeAnd, nat_le, ◌⊎◌}
use Rattle.std.specs.Io.KnownBytes.{Appends}
use Rattle.std.proofs.lemmas.Bool.{le-leb, false≢true}
use Rattle.nm_base.specs.declared.letter.LetterId.{LetterId}
use Rattle.nm_base.specs.Scripts.{Script}
use Rattle.nm_outside.specs.Files.{Files}
use Rattle.c_tree.specs.declared.program.Program.{Program}
use Rattle.c_tree.specs.Play.{script_of}
use Rattle.c_tree.proofs.Histories.{scripts_are_lawful}
use Rattle.schedules.specs.declared.schedule.Turn.{Turn}
use Rattle.event_list.specs.Events.{count}
use Rattle.event_list.specs.Laws.{IsRecorded, AreLawful}
use Rattle.event_list.specs.Traces.{Trace, IsReplay}
use Rattle.event_list.specs.Turns.{all_reached}
use Rattle.event_list.proofs.TurnFacts.{run_of_runs, replay_of_replays, empty_replay}
use Rattle.event_list.proofs.FinishFacts.{finish_replays, finish_reaches}
use Rattle.event_list.proofs.RunsSound.{runs_sound}
use Rattle.event_list.proofs.WitnessFacts.{witness_real}
use Rattle.trace_file.specs.Content.{Content}
use Rattle.cut_witness.specs.declared.certificates.Witness.{Witness}
use Rattle.cut_witness.specs.Comparisons.{HasEntries}
use Rattle.cut_witness.specs.Laws.{IsFullReplay}
use Rattle.cut_witness.proofs.LawFacts.{same_entries_of, witness_both, named_once}
use Rattle.replay_core.specs.Gates.{seen_trace}
use Rattle.replay_core.proofs.ReplayLaws.{all_from}
use Rattle.report.specs.Texts.{usage_line, turns_line, certificates_line}
use Rattle.report.proofs.FollowsFacts.{follows, full}
use Rattle.nm_top.specs.declared.status.Status.{Status}
use Rattle.nm_top.specs.declared.status.Status.TheVariants.{Done, Usage, ReadFault, InputFull, WantOfMemory}
use Rattle.nm_top.specs.Commands.{Command, Run, Record, Replay, Finish, Certify, Debug, Upgrade, Soak, command_of}
use Rattle.nm_top.specs.Statuses.{is_of_files}
use Rattle.nm_top.specs.Schedules.{IsSchedule, seen_turn}
use Rattle.nm_top.specs.Demands.{Demand, TraceSchedule, Finishes, Matches, HoldsIn, schedule_file, IsMet, AreMet, Admits, FailsAs}
use Rattle.nm_top.specs.Finishing.{replayed, finished, replay_text, finish_text, entries_of}
use Rattle.nm_top.specs.Replies.{Reply, Says, Answers, Owed}
use Rattle.nm_top.specs.Watches.{Call, Given, Hear, watch_lines}
use Rattle.nm_top.specs.Replays.{ReplayPrints, FinishPrints}
use Rattle.nm_top.specs.Certifying.{Certifies, AreCertified, CertifyPrints}
use Rattle.nm_top.specs.Certifying as certifying
use Rattle.nm_top.specs.Answers.{Answer, CommandAnswer, Demanding, IsDone, Carried, Ready, IsEnd, EndsWith, demands_of, pair_demands}
use Rattle.nm_top.specs.Headline.{IsRecording, recorded, IsWitnessed, AreWitnessed, ShowsReplay, ShowsRun, ShowsSession, SessionsFollow, ShowsRaces, Shows, HoldsRecording, Headline}
use Rattle.nm_top.specs.Headline as headline
use Rattle.nm_top.proofs.FileLaws.{held_more, one_replay}
use Rattle.nm_top.proofs.DueLaws.{fails, fails_of_files, read_status, short_ends, ended_status}
use Rattle.nm_top.proofs.PairLaws.{pair_met}
use Rattle.nm_top.proofs.SessionLaws.{talked_replays}
use Rattle.debugger.specs.Sessions.{first_session}
use Rattle.nm_top.specs.Debugging.{Talks}
use Rattle.nm_top.specs.Debugs.{Debugs}
use Rattle.nm_top.specs.declared.talk.End.TheVariants.{Over}

-- ---- a recorded run and its replays

module _ (held : Files) (program trace : List ℕ) (h : IsRecording held program trace) where
  abbrev p : Program
  p = h.of_program

  abbrev t : Content
  t = h.content

  abbrev s : ℕ → Script
  s = script_of p t.n

  abbrev T : Trace
  T = seen_trace t

  lawful : AreLawful s
  lawful = scripts_are_lawful p t.n

  is_recorded : IsRecorded s T (recorded h)
  is_recorded = record { lawful = lawful; run = run_of_runs s lawful t.mask (map seen_turn h.turns); trace = h.is_trace }

  finish_is_replay : IsReplay s T (finished p t).events
  finish_is_replay = finish_replays s T lawful [] (empty_replay s lawful T)

  counts_reached : (q : ℕ) → count (finished p t).events q ≡ T.counts q
  counts_reached q = finish_reaches s T lawful (recorded h) [] is_recorded.run h.is_trace (empty_replay s lawful T) q

  full_replay : IsFullReplay s T (recorded h) (finished p t).events
  full_replay = record { recorded = is_recorded; replay = finish_is_replay; reached = counts_reached }

  reached : all_reached T (finished p t).events ≡ true
  reached = all_from T.n (λ q. nat_le (T.counts q) (count (finished p t).events q)) (λ q. le-leb (T.counts q) (count (finished p t).events q) (omega (arith, counts_reached q)))

  entries : HasEntries t.mask t.notes t.lost (finished p t).events
  entries = same_entries_of s T (recorded h) (finished p t).events full_replay

  -- what was printed of the files' program and trace is said of the recording's
  shows_replay : (x : Given) (schedule printed : List ℕ) → ReplayPrints x program trace schedule held printed → ShowsReplay x h schedule printed
  shows_replay x schedule printed k =
      let same = one_replay held program trace k.of_program p k.content t k.has h.has in
      record {
        turns = k.turns;
        has_schedule = subst (λ (u : Content). HoldsIn held (λ text. IsSchedule u.n text k.turns) (schedule_file schedule)) same.1 k.has_schedule;
        follows = follows p t.n T (recorded h) (replayed p t k.turns) is_recorded (replay_of_replays s lawful T (map seen_turn k.turns));
        hear = subst (λ (u : Content). Hear (replayed p u k.turns) x) same.1 (subst (λ (q : Program). Hear (replayed q k.content k.turns) x) same.0 k.hear);
        is = k.is ∙ ap (λ (q : Program). replay_text q k.content k.turns ++ watch_lines 0 x.told) same.0 ∙ ap (λ (u : Content). replay_text p u k.turns ++ watch_lines 0 x.told) same.1;
      }

  -- a session's replies to lines were printed
  shows_session : (x : Call) (printed : List ℕ) → Debugs x program trace Over held printed → ShowsSession x h printed
  shows_session x printed k =
      let same = one_replay held program trace k.of_program p k.content t k.has h.has in
      record {
        lines = k.session.lines;
        last = k.session.last;
        talks = subst (λ (u : Content). Talks p (seen_trace u) first_session x.watchers.watch k.session.lines printed k.session.last x.watchers.told) same.1
            (subst (λ (q : Program). Talks q (seen_trace k.content) first_session x.watchers.watch k.session.lines printed k.session.last x.watchers.told) same.0 k.session.talks);
      }

  sessions_follow : (x : Call) → SessionsFollow x h
  sessions_follow x = λ some text s watch talks. follows p t.n T (recorded h) s.run is_recorded (talked_replays p t x.watchers.watch some text s watch talks)

  shows_run : (x : Given) (printed : List ℕ) → FinishPrints x program trace held printed → ShowsRun x h printed
  shows_run x printed k =
      let same = one_replay held program trace k.of_program p k.content t k.has h.has in
      record {
        turns = (finished p t).turns;
        idle = (finished p t).idle;
        made = (finished p t).events;
        follows = follows p t.n T (recorded h) (finished p t).events is_recorded finish_is_replay;
        whole = λ q. counts_reached q ∙ h.is_trace.counts q;
        hear = subst (λ (u : Content). Hear (finished p u).events x) same.1 (subst (λ (q : Program). Hear (finished q k.content).events x) same.0 k.hear);
        is = k.is ∙ ap (λ (q : Program). finish_text q k.content ++ watch_lines 0 x.told) same.0 ∙ ap (λ (u : Content). finish_text p u ++ watch_lines 0 x.told) same.1
            ∙ ap (λ (text : List ℕ). text ++ turns_line (finished p t).turns (finished p t).idle ++ watch_lines 0 x.told)
            (full p t.n T (recorded h) (finished p t).events is_recorded finish_is_replay counts_reached);
      }

  witnessed : (letter : LetterId) (w : Witness) → Certifies p t.n t.mask (finished p t).events letter w → IsWitnessed p t.n t.mask (recorded h) letter w
  witnessed letter w c =
      let k = c.carried in
      let is = witness_both s T (recorded h) (finished p t).events full_replay k.letter k.run k.witness in
      record {
        message = k.letter;
        named = k.named ∙ c.names;
        of = c.names;
        logged = witness_real s t.mask (recorded h) k.letter k.run lawful is_recorded.run is;
        run = k.run;
        made = k.made;
        witness = is;
      }

  all_witnessed : (letters : List LetterId) (text : List ℕ) → AreCertified p t.n t.mask (finished p t).events letters text → AreWitnessed p t.n t.mask (recorded h) letters text
  all_witnessed letters text certifying.none = headline.none
  all_witnessed letters text (certifying.more letter w k c) = headline.more letter w (all_witnessed _ _ k) (witnessed letter w c)

  shows_races : (printed : List ℕ) → CertifyPrints program trace held printed → ShowsRaces h printed
  shows_races printed k =
      let same = one_replay held program trace k.of_program p k.content t k.has h.has in
      let certified = subst (λ (u : Content). AreCertified p u.n u.mask (finished p u).events (entries_of u) k.text) same.1
      (subst (λ (q : Program). AreCertified q k.content.n k.content.mask (finished q k.content).events (entries_of k.content) k.text) same.0 k.certified) in
      record {
        certificates = k.text;
        witnessed = all_witnessed (entries_of t) k.text certified;
        each = λ m l. named_once (recorded h) T m (runs_sound s lawful is_recorded.run) h.is_trace l;
        is = k.is ∙ ap (λ (u : Content). k.text ++ certificates_line (length (entries_of u))) same.1;
      }

  -- all that a command on a recording demands is met
  met_behind : (demands : List Demand) → AreMet demands held → AreMet (pair_demands program trace ++ demands) held
  met_behind demands k = pair_met held program trace p t h.has demands k

  finishes : IsMet (Finishes program trace) held
  finishes = (p, t, h.has, reached)

  matches : IsMet (Matches program trace) held
  matches = (p, t, h.has, entries)

  scheduled : (schedule : List ℕ) (turns : List Turn) → HoldsIn held (λ text. IsSchedule t.n text turns) (schedule_file schedule) → IsMet (TraceSchedule trace schedule) held
  scheduled schedule turns k =
      held_more held (schedule_file schedule) (λ text. IsSchedule t.n text turns) (Admits (TraceSchedule trace schedule) held) (λ text r. (t, turns, h.has.has_trace, r)) k

module _ (x : Call) (held : Files) where
  shown : (command : Command) (printed : List ℕ) (left : Files) → Carried x command held printed left → Shows x command held printed
  shown (Run program n schedule mask) printed left k = tt
  shown (Record program n schedule trace version mask) printed left k = tt
  shown (Replay program trace schedule) printed left k = λ h. shows_replay held program trace h x.watchers schedule printed k.0
  shown (Finish program trace) printed left k = λ h. shows_run held program trace h x.watchers printed k.0
  shown (Certify program trace) printed left k = λ h. shows_races held program trace h printed k.0
  shown (Debug program trace) printed left k = λ h. shows_session held program trace h x printed k.0
  shown (Upgrade trace new) printed left k = tt
  shown (Soak seed) printed left k = tt

  ready : (command : Command) → HoldsRecording command held → AreMet (demands_of command) held
  ready (Run program n schedule mask) k = absurd k
  ready (Record program n schedule trace version mask) k = absurd k
  ready (Replay program trace schedule) k =
      met_behind held program trace k.0 (TraceSchedule trace schedule ∷ []) (scheduled held program trace k.0 schedule k.1 k.2, tt)
  ready (Finish program trace) k = met_behind held program trace k (Finishes program trace ∷ []) (finishes held program trace k, tt)
  ready (Certify program trace) k =
      met_behind held program trace k (Finishes program trace ∷ Matches program trace ∷ []) (finishes held program trace k, (matches held program trace k, tt))
  ready (Debug program trace) k = met_behind held program trace k [] tt
  ready (Upgrade trace new) k = absurd k
  ready (Soak seed) k = absurd k

  -- a reply that is done is that of a command that was carried out
  refused_no_done : (demand : Demand) (status : Status) → FailsAs status demand held → status ≢ Done
  refused_no_done demand status k e = false≢true (ap is_of_files (sym e) ∙ fails_of_files held demand status k)

  is_done : (demands : List Demand) (done : Reply → Type 0) (r : Reply) → Demanding demands done held r → r.status ≡ Done → done r
  is_done [] done r h e = h
  is_done (demand ∷ demands) done r (inl h) e = let k = sym (read_status held r demand h) ∙ e in absurd cc
  is_done (demand ∷ demands) done r (inr (inl h)) e = absurd (refused_no_done demand r.status (fails held demand r h) e)
  is_done (demand ∷ demands) done r (inr (inr h)) e = is_done demands done r h.1 e

  shown_by : (command : Command) (r : Reply) → CommandAnswer x command held r → r.status ≡ Done → Shows x command held r.printed
  shown_by command r (inl h) e =
      let k = is_done (demands_of command) (IsDone x command held) r h e in
      subst (Shows x command held) (sym (ap (λ (r : Reply). r.printed) k.3)) (shown command k.0 k.1 k.2)
  shown_by command r (inr (inl h)) e = let k = sym (short_ends x command held r h) ∙ e in absurd cc
  shown_by command r (inr (inr h)) e = absurd (not_done (ended_status x command held r h))
    where
      not_done : (r.status ≡ ReadFault) ⊎ (r.status ≡ InputFull) → ⊥
      not_done (inl k) = let a = sym k ∙ e in absurd cc
      not_done (inr k) = let a = sym k ∙ e in absurd cc

  module _ (words : List (List ℕ)) (left : Option Files) (reads reads' takes takes' writes writes' faults faults' : ℕ) (before after : Option (List ℕ)) (status : Status) where
    shows : Answers (Answer x words) (Some held) left before after status → (command : Command) → command_of words ≡ Some command → status ≡ Done
        → (text : List ℕ) × Shows x command held text × Appends before after text
    shows (inl k) command is e = let a = sym k ∙ e in absurd cc
    shows (inr a) command is e = (
      a.0.printed,
      shown_by command a.0 (subst (λ (o : Option Command). MatchOption o (Says held Usage usage_line a.0) (λ c. CommandAnswer x c held a.0)) is a.1) (sym a.2.answered ∙ e),
      a.2.printed,
    )

    pub says : Answers (Answer x words) (Some held) left before after status → (Ready words held → Owed (EndsWith x words held) reads reads' takes takes' writes writes' faults faults' status)
        → Headline x words held reads reads' takes takes' writes writes' faults faults' before after status
    says answer complete = record {
      done = λ command is k. ended command is (complete (subst (λ (o : Option Command). IsSomeAnd o (λ c. AreMet (demands_of c) held)) (sym is) (ready command k)));
      shows = shows answer;
      sessions = λ program trace is h. sessions_follow held program trace h x;
    }
      where
        ended : (command : Command) → command_of words ≡ Some command → Owed (EndsWith x words held) reads reads' takes takes' writes writes' faults faults' status
            → Owed (IsEnd x held command) reads reads' takes takes' writes writes' faults faults' status
        ended command is f r t w m = by (f r t w m)
          where
            by : EndsWith x words held status ⊎ (status ≡ WantOfMemory) → IsEnd x held command status ⊎ (status ≡ WantOfMemory)
            by (inl k) = inl (subst (λ (o : Option Command). IsSomeAnd o (λ c. IsEnd x held c status)) is k)
            by (inr k) = inr k

-- where the files are told
pub says_all : (x : Call) (words : List (List ℕ)) (told left : Option Files) (reads reads' takes takes' writes writes' faults faults' : ℕ) (before after : Option (List ℕ)) (status : Status)
    → Answers (Answer x words) told left before after status → IfSome told (λ held. Ready words held → Owed (EndsWith x words held) reads reads' takes takes' writes writes' faults faults' status)
    → IfSome told (λ held. Headline x words held reads reads' takes takes' writes writes' faults faults' before after status)
says_all x words None left reads reads' takes takes' writes writes' faults faults' before after status answer complete = tt
says_all x words (Some held) left reads reads' takes takes' writes writes' faults faults' before after status answer complete =
    says x held words left reads reads' takes takes' writes writes' faults faults' before after status answer complete
