-- What the commands on a trace give, for a program and a trace that were read.
use Rattle.std.specs.Prelude.{◌≡◌, ◌⊎◌, ℕ, List, [], ◌++◌, length, take, slice_index, true, false, Option}
use Rattle.nm_base.specs.declared.letter.LetterId.{LetterId}
use Rattle.c_tree.specs.declared.program.Program.{Program}
use Rattle.c_tree.specs.Play.{script_of}
use Rattle.schedules.specs.declared.schedule.Turn.{Turn}
use Rattle.event_list.specs.declared.Event.{Event}
use Rattle.event_list.specs.Events.{count}
use Rattle.event_list.specs.Turns.{all_reached, finish_within, to_finish}
use Rattle.trace_file.specs.Content.{Content, count_of}
use Rattle.replay_core.specs.Gates.{seen_trace}
use Rattle.cut_witness.specs.declared.comparisons.Compared.TheVariants.{Differs}
use Rattle.cut_witness.specs.Comparisons.{HasEntries, IsCompared}
use Rattle.report.specs.declared.cause.Refusal.TheVariants.{Stuck, NotItsTrace}
use Rattle.report.specs.Texts.{certificates_line}
use Rattle.nm_top.specs.declared.status.Status.{Status}
use Rattle.nm_top.specs.declared.status.Status.TheVariants as statuses
use Rattle.nm_top.specs.declared.stop.Stop.{Stop}
use Rattle.nm_top.specs.declared.stop.Stop.TheVariants.{Refused}
use Rattle.nm_top.specs.Finishing.{replayed, replay_text, finished, finish_text, entries_of}
use Rattle.nm_top.specs.Certifying.{AreCertified}
use Rattle.nm_top.specs.Watches.{Given, Hear, watch_lines}
use Rattle.nm_top.specs.private.Works.{Work, Whole, Refusing, Short, Tells}

-- Work of which this holds was told.
pub record Told (P : Work → Type 0) (before after : Option (List ℕ)) (was now : ℕ) (status : Status) : Type 0 where
  pub work : Work
  pub is : P work
  pub tells : Tells work before after was now status

-- the text was told, or there was want of memory
abbrev pub IsText : List ℕ → Work → Type 0
IsText text (Whole t) = t ≡ text
IsText text (Short t) = t ≡ []
IsText text work = ⊥

-- the finished replay leaves a process below its recorded count, and these are the numbers of events
pub record IsStuckWork (p : Program) (t : Content) (n : ℕ) (events counts : List ℕ) : Type 0 where
  pub below : all_reached (seen_trace t) (finished p t).events ≡ false
  pub n_is : n ≡ t.n
  pub events_are : (q : ℕ) → slice_index events q ≡ count (finished p t).events q
  pub counts_are : (q : ℕ) → slice_index counts q ≡ count_of t q

-- what stops a command whose replay is stuck after these events
abbrev pub IsStuckStop : Content → List ℕ → Stop → Type 0
IsStuckStop t events (Refused (Stuck n made counts)) =
    (n ≡ t.n) × (made ≡ events) × ((q : ℕ) → slice_index counts q ≡ count_of t q)
IsStuckStop t events stop = ⊥

-- the replay by the turns of a schedule was told, and the lines of the watchers, which were told of its events
abbrev pub IsReplayWork : Program → Content → List Turn → Given → Work → Type 0
IsReplayWork p t turns x (Whole text) =
    Hear (replayed p t turns) x × (text ≡ replay_text p t turns ++ watch_lines 0 x.told)
IsReplayWork p t turns x (Short text) = text ≡ []
IsReplayWork p t turns x work = ⊥

-- what the watchers were told of it, by the status
abbrev pub HearsReplay : Program → Content → List Turn → Given → Status → Type 0
HearsReplay p t turns x statuses.Done = Hear (replayed p t turns) x
HearsReplay p t turns x statuses.WriteFault = Hear (replayed p t turns) x
HearsReplay p t turns x statuses.WantOfMemory = (many : ℕ) × Hear (replayed p t (take many turns)) x
HearsReplay p t turns x status = ⊥

-- the finished replay was told, and the lines of the watchers, which were told of its events
abbrev pub IsFinishWork : Program → Content → Given → Work → Type 0
IsFinishWork p t x (Whole text) =
    (all_reached (seen_trace t) (finished p t).events ≡ true)
    × Hear (finished p t).events x
    × (text ≡ finish_text p t ++ watch_lines 0 x.told)
IsFinishWork p t x (Refusing (Stuck n events counts)) = IsStuckWork p t n events counts
IsFinishWork p t x (Short text) = text ≡ []
IsFinishWork p t x work = ⊥

-- the replay after at most so many turns of finishing
abbrev pub finished_within : ℕ → Program → Content → List Event
finished_within many p t = (finish_within many (script_of p t.n) (seen_trace t) (to_finish [])).events

-- what the watchers were told of it, by the status
abbrev pub HearsFinish : Program → Content → Given → Status → Type 0
HearsFinish p t x statuses.Done = Hear (finished p t).events x
HearsFinish p t x statuses.Stuck = Hear (finished p t).events x
HearsFinish p t x statuses.WriteFault = Hear (finished p t).events x
HearsFinish p t x statuses.WantOfMemory = (many : ℕ) × Hear (finished_within many p t) x
HearsFinish p t x status = ⊥

-- the certificates of these letters were told, and their number; or those of the first so many, and there was want of
-- memory
abbrev pub AreCertificates : Program → ℕ → ℕ → List Event → List LetterId → Work → Type 0
AreCertificates p n mask F letters (Whole text) =
    (all : List ℕ) × AreCertified p n mask F letters all × (text ≡ all ++ certificates_line (length letters))
AreCertificates p n mask F letters (Short text) = (many : ℕ) × AreCertified p n mask F (take many letters) text
AreCertificates p n mask F letters work = ⊥

-- the certificates of the letters that the trace names were told
abbrev pub IsCertifyWork : Program → Content → Work → Type 0
IsCertifyWork p t (Whole text) =
    (all_reached (seen_trace t) (finished p t).events ≡ true)
    × HasEntries t.mask t.notes t.lost (finished p t).events
    × AreCertificates p t.n t.mask (finished p t).events (entries_of t) (Whole text)
IsCertifyWork p t (Refusing (Stuck n events counts)) = IsStuckWork p t n events counts
IsCertifyWork p t (Refusing (NotItsTrace first)) =
    (all_reached (seen_trace t) (finished p t).events ≡ true)
    × IsCompared t.mask t.notes t.lost (finished p t).events (Differs first)
IsCertifyWork p t (Short text) =
    (text ≡ []) ⊎ AreCertificates p t.n t.mask (finished p t).events (entries_of t) (Short text)
IsCertifyWork p t work = ⊥
