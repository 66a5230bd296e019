-- The laws of Play.
use Rattle.std.specs.Prelude.{◌≡◌, ℕ, suc, ◌⊎◌, List, ◌++◌, take, map, length, filter_map}
use Rattle.nm_base.specs.declared.kind.Kind.{Kind}
use Rattle.nm_base.specs.Message.{Message}
use Rattle.nm_base.specs.Scripts.{Goes, Step, kind_in, message_in, IsHistory, IsLawful}
use Rattle.c_tree.specs.declared.program.Program.{Program}
use Rattle.c_tree.specs.State.{Able, Over}
use Rattle.c_tree.specs.Play.{PlaySetting, Played, play, script_in, script_of}

-- The events that are made with at most k events are the first k of those made with at most k + 1.
abbrev pub FirstEventsAgree : Type 0
FirstEventsAgree = (set : PlaySetting) (inputs : List Message) (k : ℕ)
    → (play set inputs k).events ≡ take k (play set inputs (suc k)).events

-- the second is the first, with more letters to come
pub record SameBut (later : List Message) (a b : Played) : Type 0 where
  pub events : b.events ≡ a.events
  pub state : b.state ≡ record a.state { inputs = a.state.inputs ++ later }
  pub status : b.status ≡ a.status

-- Where all events are made, or no more can come, letters that come later change nothing.
abbrev pub LaterLettersChangeNothing : Type 0
LaterLettersChangeNothing =
    (set : PlaySetting) (inputs later : List Message) (k : ℕ) →
    ((play set inputs k).state.left ≡ 0) ⊎ ((play set inputs k).status ≡ Over) →
    SameBut later (play set inputs k) (play set (inputs ++ later) k)

-- A history of a process is what it plays with the letters that it accepted.
abbrev pub HistoriesArePlayed : Type 0
HistoriesArePlayed =
    (set : PlaySetting) (h : List Step) → IsHistory (script_in set) h
    → (play set (filter_map message_in h) (length h)).events ≡ map kind_in h

-- A process that is able goes on with an event.
abbrev pub AbleGoesOn : Type 0
AbleGoesOn =
    (set : PlaySetting) (inputs : List Message) (k : ℕ) → (play set inputs k).status ≡ Able
    → (kind : Kind) × ((script_in set).next inputs k ≡ Goes kind)

-- The script of every process of a program keeps the laws of scripts.
abbrev pub ScriptsAreLawful : Type 0
ScriptsAreLawful = (program : Program) (count me : ℕ) → IsLawful (script_of program count me)
