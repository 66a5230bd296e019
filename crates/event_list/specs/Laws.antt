-- The theorems on runs, each for all scripts and all lists of events.
use Rattle.std.specs.Prelude.{◌≡◌, ℕ, ◌+◌, ◌*◌, ◌<◌, ◌≤◌, ◌↔◌, Bool, true, false, List, [], ◌∷◌, ◌++◌, length, map, Option, Some, None, Contains}
use Rattle.nm_base.specs.Message.{Message}
use Rattle.nm_base.specs.Channels.{has_channel}
use Rattle.nm_base.specs.Scripts.{Script, IsLawful}
use Rattle.event_list.specs.declared.Event.{Event}
use Rattle.nm_base.specs.declared.letter.LetterId.{LetterId}
use Rattle.nm_base.specs.declared.limits.TheConstants.{MAX_EVENTS}
use Rattle.nm_base.specs.declared.letter.AcceptNote.{AcceptNote}
use Rattle.nm_base.specs.declared.kind.Kind.TheVariants.{Accepted}
use Rattle.event_list.specs.Events.{entries, count, messages, receives, letters, taken, IsSent, IsTaken, Sends, Accepts, Precedes}
use Rattle.event_list.specs.Runs.{IsRun, Sound}
use Rattle.event_list.specs.Order.{Delivers, Before, IsPast, Cut, Within, IsConsistent}
use Rattle.event_list.specs.Races.{CouldTake, Race, IsEarlier, IsLogged}
use Rattle.event_list.specs.Predecessors.{IsReceived, IsLastPredecessor, AreReceivedBy}
use Rattle.event_list.specs.Clocks.{IsCounts, clocks}
use Rattle.event_list.specs.Traces.{Keeps, Trace, IsLoggedName, AreNotesOf, IsTraceOf, IsReplay, Agrees, waiting, note_for, receive_number}
use Rattle.event_list.specs.TraceRules.{IsOrderly, IsFormed}
use Rattle.event_list.specs.Turns.{Turn, Went, go, run_of, replay_of, sum_below, is_finished, finish_of, enough_turns, CanGo, is_first, IsRival}
use Rattle.event_list.specs.FirstPicks.{first_turn, IsFirstPicked}
use Rattle.event_list.specs.Rules.{rule_of, go_under}
use Rattle.event_list.specs.Witnesses.{KeptCut, kept_counts, taking_instead, IsWitness, IsWitnessOf}
use Rattle.event_list.specs.Cuts.{IsLeastCut, IsGreatestCut, IsAvoiding, meet, join, cut_list, MeetsEach, IsWithinAll, raised}
use Rattle.event_list.specs.Needs.{without}
use Rattle.event_list.specs.Carrying.{Move, carried_out, moves_of}
use Rattle.event_list.specs.Sameness.{SameEntries, SameMeaning, SameRecord}

-- the scripts of all processes keep the laws
abbrev pub AreLawful : (ℕ → Script) → Type 0
AreLawful s = (p : ℕ) → IsLawful (s p)

-- E is a run of lawful scripts, and T its trace
pub record IsRecorded (s : ℕ → Script) (T : Trace) (E : List Event) : Type 0 where
  pub lawful : AreLawful s
  pub run : IsRun s T.mask E
  pub trace : IsTraceOf E T

-- each channel that N orders, M orders
abbrev pub IsFewer : ℕ → ℕ → Type 0
IsFewer N M = (chan : ℕ) → has_channel N chan ≡ true → has_channel M chan ≡ true

-- every run of lawful scripts is sound
abbrev pub SoundLaw : Type 0
SoundLaw = (s : ℕ → Script) (M : ℕ) (E : List Event) → AreLawful s → IsRun s M E → Sound M E

-- a receive that could have taken a letter races with it exactly where it did not happen before the letter's send
abbrev pub RaceLaw : Type 0
RaceLaw =
    (M : ℕ) (E : List Event) (q s : Event) (m : Message) → Sound M E → CouldTake M E q m → Sends E s m
    → Race M E q m ↔ (Before E q s → ⊥)

-- under the trace of a run, each process makes a prefix of its recorded entries, and the replay's counts are a
-- consistent cut of the run
abbrev pub PrefixLaw : Type 0
PrefixLaw =
    (s : ℕ → Script) (T : Trace) (E R : List Event) → IsRecorded s T E → IsReplay s T R
    → Agrees E R × IsConsistent E (count R)

-- the clock of a process counts the past of its last entry, and the timestamp of a letter that of its send
pub record ClockLaw : Type 0 where
  pub clock : (M : ℕ) (E : List Event) (a : Event) → Sound M E → Contains E a → a.number ≡ count E a.proc.no
      → IsCounts E a ((clocks E).clock a.proc.no)
  pub at_rest : (M : ℕ) (E : List Event) (p q : ℕ) → Sound M E → count E p ≡ 0 → (clocks E).clock p q ≡ 0
  pub stamp : (M : ℕ) (E : List Event) (a : Event) (m : Message) → Sound M E → Sends E a m
      → IsCounts E a ((clocks E).stamp m.id)
  -- the clock at each entry counts its past in the whole list, not only in the list so far
  pub entry : (M : ℕ) (E : List Event) (a : Event) (rest : List Event) → Sound M (E ++ (a ∷ rest))
      → IsCounts (E ++ (a ∷ rest)) a ((clocks (E ++ a ∷ [])).clock a.proc.no)
  -- what counts the past has as part q the number of q's entries in it
  pub number : (M : ℕ) (E : List Event) (a : Event) (v : ℕ → ℕ) (q : ℕ) (past : List Event) → Sound M E → IsCounts E a v
      → Keeps (IsPast E a) (entries E q) past → length past ≡ v q

-- a receive happened before a letter's send exactly where its number is at most the timestamp's part of its process
abbrev pub StampLaw : Type 0
StampLaw =
    (M : ℕ) (E : List Event) (q s : Event) (set : ℕ) (id : LetterId) (m : Message) → Sound M E → Accepts E q set id
    → Sends E s m → Before E q s ↔ (q.number ≤ (clocks E).stamp m.id q.proc.no)

-- a schedule makes a run, and under a trace a replay, which stays one when it is finished; and each run, and each
-- replay, is made by a schedule
pub record TurnLaw : Type 0 where
  pub run : (s : ℕ → Script) (M : ℕ) (turns : List Turn) → AreLawful s → IsRun s M (run_of s M turns)
  pub replay : (s : ℕ → Script) (T : Trace) (turns : List Turn) → AreLawful s → IsReplay s T (replay_of s T turns)
  pub finish : (s : ℕ → Script) (T : Trace) (R : List Event) → AreLawful s → IsReplay s T R
      → IsReplay s T (finish_of s T R).events
  pub each_run : (s : ℕ → Script) (M : ℕ) (E : List Event) → IsRun s M E → (turns : List Turn) × (run_of s M turns ≡ E)
  pub each_replay : (s : ℕ → Script) (T : Trace) (R : List Event) → IsReplay s T R
      → (turns : List Turn) × (replay_of s T turns ≡ R)

-- under any trace, finishing ends within n * (C + 1) turns: all counts are reached, or n turns in succession were idle
pub record FinishLaw : Type 0 where
  pub ends : (s : ℕ → Script) (T : Trace) (R : List Event) → is_finished T (finish_of s T R) ≡ true
  pub turns : (s : ℕ → Script) (T : Trace) (R : List Event) → (finish_of s T R).turns ≤ enough_turns T

-- while a replay of a run's trace has a count below the recorded one, some process can go, and finishing reaches all
-- recorded counts
pub record ProgressLaw : Type 0 where
  pub can_go : (s : ℕ → Script) (T : Trace) (E R : List Event) (p : ℕ) → IsRecorded s T E → IsReplay s T R
      → count R p < T.counts p → CanGo s T R
  pub reaches : (s : ℕ → Script) (T : Trace) (E R : List Event) (p : ℕ) → IsRecorded s T E → IsReplay s T R
      → count (finish_of s T R).events p ≡ T.counts p

-- for a logged letter with its send and the last receive that could have taken it: their pasts without the receive are
-- a consistent cut, there is one witness in the run's order, and no other letter has a witness
pub record WitnessLaw : Type 0 where
  pub cut : (M : ℕ) (E : List Event) (m : Message) (q a : Event) → Sound M E → IsEarlier M E m q → Race M E q m
      → Sends E a m → KeptCut E a q
  pub witness : (s : ℕ → Script) (M : ℕ) (E : List Event) (m : Message) → AreLawful s → IsRun s M E → IsLogged M E m
      → (W : List Event) × IsWitnessOf s M E m W
  pub one : (s : ℕ → Script) (M : ℕ) (E : List Event) (m : Message) (V W : List Event) → AreLawful s → IsRun s M E
      → IsWitnessOf s M E m V → IsWitnessOf s M E m W → V ≡ W
  pub real : (s : ℕ → Script) (M : ℕ) (E : List Event) (m : Message) (W : List Event) → AreLawful s → IsRun s M E
      → IsWitness s M E m W → IsLogged M E m

-- what is said of a list depends on each process's entries alone
abbrev pub ProjectionLaw : Type 0
ProjectionLaw = (E F : List Event) → SameEntries E F → SameMeaning E F

-- a replay with all recorded counts has the recorded entries of each process, and a trace with the same notes and lost
-- entries
pub record FullReplayLaw : Type 0 where
  pub entries : (s : ℕ → Script) (T : Trace) (E F : List Event) → IsRecorded s T E → IsReplay s T F
      → ((p : ℕ) → count F p ≡ T.counts p) → SameEntries E F
  pub trace : (E F : List Event) (T U : Trace) → SameEntries E F → T.mask ≡ U.mask → IsTraceOf E T → IsTraceOf F U
      → SameRecord T U

-- with the last receive that could have taken a letter, the letter is logged exactly where its timestamp does not count
-- that receive; once it is received, this does not change
pub record LoggedLaw : Type 0 where
  pub stamp : (M : ℕ) (E : List Event) (m : Message) (q : Event) → Sound M E → IsEarlier M E m q
      → IsLogged M E m ↔ ((clocks E).stamp m.id q.proc.no < q.number)
  pub stays : (M : ℕ) (E rest : List Event) (m : Message) → Sound M (E ++ rest) → IsSent E m → IsTaken E m.id
      → IsLogged M E m ↔ IsLogged M (E ++ rest) m

-- each sound list has its trace, which is one and keeps the rules of a trace. Each note takes two events and each lost
-- entry one, and the counts are of all events
pub record TraceLaw : Type 0 where
  pub exists : (version M n : ℕ) (E : List Event) → Sound M E → ((a : Event) → Contains E a → a.proc.no < n)
      → (T : Trace) × (T.version ≡ version) × (T.mask ≡ M) × (T.n ≡ n) × IsTraceOf E T
  pub one : (E : List Event) (T U : Trace) → T.mask ≡ U.mask → IsTraceOf E T → IsTraceOf E U
      → (T.notes ≡ U.notes) × (T.lost ≡ U.lost) × ((p : ℕ) → T.counts p ≡ U.counts p)
  pub orderly : (E : List Event) (T : Trace) → Sound T.mask E → IsTraceOf E T → IsOrderly T
  pub size : (E : List Event) (T : Trace) → Sound T.mask E → IsTraceOf E T
      → 2 * length T.notes + length T.lost ≤ length E
  pub sum : (E : List Event) (T : Trace) → IsTraceOf E T → sum_below T.n T.counts ≡ length E

-- in a replay, each process has accepted the first of the letters that it accepted in the recorded run
abbrev pub MessageLaw : Type 0
MessageLaw =
    (s : ℕ → Script) (T : Trace) (E R : List Event) (p : ℕ) → IsRecorded s T E → IsReplay s T R
    → (rest : List Message) × (messages R p ++ rest ≡ messages E p)

-- in a run of lawful scripts each letter is on a channel from 0 to 31
abbrev pub ChannelLaw : Type 0
ChannelLaw =
    (s : ℕ → Script) (M : ℕ) (E : List Event) (a : Event) (m : Message) → AreLawful s → IsRun s M E → Sends E a m
    → m.chan < 32

-- a waiting letter has no earlier rival exactly where no rival waits before it
abbrev pub FirstLaw : Type 0
FirstLaw =
    (M : ℕ) (E : List Event) (xs : List Message) (m : Message) (ys : List Message) → Sound M E
    → waiting E ≡ xs ++ (m ∷ ys) → (is_first E m ≡ true) ↔ ((l : Message) → Contains xs l → IsRival l m → ⊥)

-- the past of an entry is the least cut that holds it; what is neither the entry nor after it is the greatest cut
-- without it
pub record CutLaw : Type 0 where
  pub least : (M : ℕ) (E : List Event) (a : Event) (v : ℕ → ℕ) → Sound M E → Contains E a → IsCounts E a v
      → IsLeastCut E (λ c. Within c a) v
  pub greatest : (M : ℕ) (E : List Event) (a : Event) (c : Cut) → Sound M E → Contains E a → IsAvoiding E a c
      → IsGreatestCut E (λ d. Within d a → ⊥) c
  pub past : (M : ℕ) (E : List Event) (a : Event) → Sound M E → Contains E a → (v : ℕ → ℕ) × IsCounts E a v
  pub avoiding : (M : ℕ) (E : List Event) (a : Event) → Sound M E → Contains E a → (c : Cut) × IsAvoiding E a c
  pub lesser : (E : List Event) (c d : Cut) → IsConsistent E c → IsConsistent E d → IsConsistent E (meet c d)
  pub greater : (E : List Event) (c d : Cut) → IsConsistent E c → IsConsistent E d → IsConsistent E (join c d)

-- a list that is sound, or a run, under a mask is so under each mask with fewer ordered channels, and so without any
pub record MaskLaw : Type 0 where
  pub fewer : (M N : ℕ) (E : List Event) → IsFewer N M → Sound M E → Sound N E
  pub fewer_run : (s : ℕ → Script) (M N : ℕ) (E : List Event) → IsFewer N M → IsRun s M E → IsRun s N E
  pub none : (M : ℕ) (E : List Event) → Sound M E → Sound 0 E
  -- in one list, no more letters are logged where more channels are ordered
  pub fewer_logged : (M N : ℕ) (E : List Event) (m : Message) → IsFewer N M → IsLogged M E m → IsLogged N E m

-- a replay that is made with pick 0 is made by such turns of its events' processes; finishing it makes one, and so are
-- the entries of each of its consistent cuts
pub record FirstPickLaw : Type 0 where
  pub turns : (s : ℕ → Script) (T : Trace) (R : List Event) → IsFirstPicked s T R → replay_of s T (map first_turn R) ≡ R
  pub finish : (s : ℕ → Script) (T : Trace) (R : List Event) → IsFirstPicked s T R
      → IsFirstPicked s T (finish_of s T R).events
  pub cut : (s : ℕ → Script) (T : Trace) (R : List Event) (c : Cut) → AreLawful s → IsFirstPicked s T R
      → IsConsistent R c → IsFirstPicked s T (cut_list c R)

-- the entries of a consistent cut of a run are a run, with the cut's counts
pub record CutRunLaw : Type 0 where
  pub run : (s : ℕ → Script) (M : ℕ) (E : List Event) (c : Cut) → AreLawful s → IsRun s M E → IsConsistent E c
      → IsRun s M (cut_list c E)
  pub counts : (s : ℕ → Script) (M : ℕ) (E : List Event) (c : Cut) (p : ℕ) → AreLawful s → IsRun s M E
      → IsConsistent E c → count (cut_list c E) p ≡ c p

-- where the trace has no note for the last receive that could have taken a letter, each of the letter's witnesses is a
-- replay under the trace without the letter's entry, and does not agree with the run
pub record NeedLaw : Type 0 where
  pub replays : (s : ℕ → Script) (T : Trace) (E W : List Event) (m : Message) (w : IsWitness s T.mask E m W)
      → IsRecorded s T E → note_for T w.earlier.proc.no (receive_number E w.earlier) ≡ None
      → IsReplay s (without T m.id) W
  pub differs : (s : ℕ → Script) (T : Trace) (E W : List Event) (m : Message) (w : IsWitness s T.mask E m W)
      → AreLawful s → IsRun s T.mask E → Agrees E W → ⊥

-- a turn under the rule of a trace is a turn under the trace
abbrev pub RuleLaw : Type 0
RuleLaw =
    (s : ℕ → Script) (M : ℕ) (T : Option Trace) (E : List Event) (t : Turn)
    → go s M T E t ≡ go_under s M (rule_of T) E t

-- on an ordered channel letters of one sender are received in the order of their sends. So a receive could have taken
-- a letter where it could have without a mask and comes after the receive of the letter's last predecessor
pub record OrderLaw : Type 0 where
  pub in_order : (M : ℕ) (E : List Event) (l m : Message) (b : Event) (set : ℕ) → Sound M E
      → has_channel M m.chan ≡ true
      → IsSent E l → IsSent E m → Precedes l m → Accepts E b set m.id → IsReceived E l (λ a. a.number < b.number)
  pub last : (M : ℕ) (E : List Event) (l m : Message) (a : Event) (set : ℕ) → Sound M E → has_channel M m.chan ≡ true
      → IsLastPredecessor E l m → Accepts E a set l.id → AreReceivedBy E m a.number
  pub could_take : (M : ℕ) (E : List Event) (q : Event) (m : Message) (k : ℕ) → Sound M E → has_channel M m.chan ≡ true
      → AreReceivedBy E m k → CouldTake M E q m ↔ (CouldTake 0 E q m × (k < q.number))
  pub waits : (M : ℕ) (E : List Event) (q : Event) (l m : Message) → has_channel M m.chan ≡ true
      → IsSent E l → Precedes l m → (IsTaken E l.id → ⊥) → CouldTake M E q m → ⊥

-- the first turns make a front of what all turns make, of no more events than turns, in a run and under a trace
pub record FrontLaw : Type 0 where
  pub run : (s : ℕ → Script) (M : ℕ) (turns more : List Turn)
      → (rest : List Event) × (run_of s M turns ++ rest ≡ run_of s M (turns ++ more))
  pub run_length : (s : ℕ → Script) (M : ℕ) (turns : List Turn) → length (run_of s M turns) ≤ length turns
  pub replay : (s : ℕ → Script) (T : Trace) (turns more : List Turn)
      → (rest : List Event) × (replay_of s T turns ++ rest ≡ replay_of s T (turns ++ more))
  pub replay_length : (s : ℕ → Script) (T : Trace) (turns : List Turn) → length (replay_of s T turns) ≤ length turns

-- a replay with the event of one more turn is a replay, and so is a front of one
pub record StepLaw : Type 0 where
  pub step : (s : ℕ → Script) (T : Trace) (R : List Event) (t : Turn) (e : Event) → AreLawful s → IsReplay s T R
      → go s T.mask (Some T) R t ≡ Went e → IsReplay s T (R ++ e ∷ [])
  pub front : (s : ℕ → Script) (T : Trace) (R rest : List Event) → IsReplay s T (R ++ rest) → IsReplay s T R

-- as a list grows its notes stay, and an event adds its note exactly where it accepts a logged letter
pub record NotesLaw : Type 0 where
  pub front : (M : ℕ) (E rest : List Event) (notes all : List AcceptNote) → Sound M (E ++ rest)
      → AreNotesOf M E notes → AreNotesOf M (E ++ rest) all → (more : List AcceptNote) × (notes ++ more ≡ all)
  pub added : (M : ℕ) (E : List Event) (e : Event) (notes : List AcceptNote) (set : ℕ) (id : LetterId)
      → Sound M (E ++ e ∷ []) → AreNotesOf M E notes → e.kind ≡ Accepted set id → IsLoggedName M (E ++ e ∷ []) id
      → AreNotesOf M (E ++ e ∷ []) (notes ++ record { receiver = e.proc; receive = receives E e.proc.no; id = id } ∷ [])
  pub same : (M : ℕ) (E : List Event) (e : Event) (notes : List AcceptNote)
      → Sound M (E ++ e ∷ []) → AreNotesOf M E notes
      → ((set : ℕ) (id : LetterId) → e.kind ≡ Accepted set id → IsLoggedName M (E ++ e ∷ []) id → ⊥)
      → AreNotesOf M (E ++ e ∷ []) notes

-- lists with the same entries show the same: the letters that each process accepted, and how many events there are,
-- and letters sent, accepted and waiting. A replay has the entries of the recorded run that is cut at its counts
pub record PrintLaw : Type 0 where
  pub messages : (M N : ℕ) (E F : List Event) (p : ℕ) → Sound M E → Sound N F → SameEntries E F
      → messages E p ≡ messages F p
  pub events : (E F : List Event) → SameEntries E F → length E ≡ length F
  pub sent : (E F : List Event) → SameEntries E F → length (letters E) ≡ length (letters F)
  pub accepted : (E F : List Event) → SameEntries E F → length (taken E) ≡ length (taken F)
  pub waiting : (M N : ℕ) (E F : List Event) → Sound M E → Sound N F → SameEntries E F
      → length (waiting E) ≡ length (waiting F)
  pub replay : (s : ℕ → Script) (T : Trace) (E R : List Event) → IsRecorded s T E → IsReplay s T R
      → SameEntries R (cut_list (count R) E)

-- while a process of a replay is below its count, the replay has fewer events than the counts sum up to
abbrev pub RoomLaw : Type 0
RoomLaw = (s : ℕ → Script) (T : Trace) (R : List Event) (p : ℕ) → AreLawful s → IsReplay s T R
    → ((q : ℕ) → T.n ≤ q → T.counts q ≡ 0) → count R p < T.counts p → length R < sum_below T.n T.counts

-- a run's own moves make it again, and what is carried out is a run with these moves
pub record CarryLaw : Type 0 where
  pub again : (s : ℕ → Script) (M : ℕ) (E : List Event) → AreLawful s → IsRun s M E
      → carried_out s M (moves_of E) ≡ Some E
  pub run : (s : ℕ → Script) (M : ℕ) (moves : List Move) (W : List Event) → AreLawful s
      → carried_out s M moves ≡ Some W → IsRun s M W × (moves_of W ≡ moves)

-- a schedule of few turns makes few events of the processes that it names, and the trace of a list of few events is
-- well formed
pub record FormedLaw : Type 0 where
  pub run : (s : ℕ → Script) (M n : ℕ) (turns : List Turn) (e : Event) → AreLawful s
      → ((t : Turn) → Contains turns t → t.proc < n) → Contains (run_of s M turns) e → e.proc.no < n
  pub trace : (E : List Event) (T : Trace) → Sound T.mask E → IsTraceOf E T → length E ≤ MAX_EVENTS → IsFormed T

-- the least cut that meets a condition on each process alone is reached from the empty cut: a process that fails its
-- condition is moved on, and so is the sender of a letter whose receive the cut holds; where nothing is left to do, the
-- cut is the least
pub record LeastLaw : Type 0 where
  pub lesser : (test : ℕ → ℕ → Bool) (c d : Cut) → MeetsEach test c → MeetsEach test d → MeetsEach test (meet c d)
  pub begins : (E : List Event) (test : ℕ → ℕ → Bool) → IsWithinAll E test (λ p. 0)
  pub moves_on : (E : List Event) (test : ℕ → ℕ → Bool) (c : Cut) (p : ℕ) → IsWithinAll E test c → test p (c p) ≡ false
      → IsWithinAll E test (raised c p (c p + 1))
  pub brings : (E : List Event) (test : ℕ → ℕ → Bool) (c : Cut) (a b : Event) → IsWithinAll E test c
      → Contains E a → Contains E b → Delivers a b → Within c b → IsWithinAll E test (raised c a.proc.no a.number)
  pub reached : (E : List Event) (test : ℕ → ℕ → Bool) (c : Cut) → IsWithinAll E test c
      → IsConsistent E c → MeetsEach test c → IsLeastCut E (MeetsEach test) c

-- with vectors v and w that count the pasts of a logged letter's send and of the last receive that could have taken it
pub record WitnessGiven (s : ℕ → Script) (M : ℕ) (E : List Event) (m : Message) (q : Event) (v w : ℕ → ℕ) (set : ℕ)
    : Type 0 where
  pub lawful : AreLawful s
  pub run : IsRun s M E
  pub earlier : IsEarlier M E m q
  pub race : Race M E q m
  pub send : Event
  pub sends : Sends E send m
  pub took : LetterId
  pub receive : q.kind ≡ Accepted set took
  pub counts_send : IsCounts E send v
  pub counts_receive : IsCounts E q w

-- the witness in the run's order is the entries that these counts keep, and then the receive with the letter; and each
-- run of such a receive and of as many first entries of each process is a witness
pub record CheckLaw : Type 0 where
  pub made : (s : ℕ → Script) (M : ℕ) (E : List Event) (m : Message) (q : Event) (v w : ℕ → ℕ) (set : ℕ)
      → WitnessGiven s M E m q v w set
      → IsWitnessOf s M E m (cut_list (kept_counts q v w) E ++ taking_instead q set m.id ∷ [])
  pub checked : (s : ℕ → Script) (M : ℕ) (E : List Event) (m : Message) (q : Event) (v w : ℕ → ℕ) (set : ℕ)
      (front : List Event) → WitnessGiven s M E m q v w set → IsRun s M (front ++ taking_instead q set m.id ∷ [])
      → Agrees E front → ((p : ℕ) → count front p ≡ kept_counts q v w p)
      → IsWitness s M E m (front ++ taking_instead q set m.id ∷ [])
