-- What a process stands for, and what it shows of its script.
use Rattle.std.specs.Prelude.{◌≡◌, ℕ, ◌+◌, true, List, [], ◌∷◌, ◌++◌}
use Rattle.nm_base.specs.declared.letter.Letter.{Letter}
use Rattle.nm_base.specs.declared.kind.Kind.{Kind}
use Rattle.nm_base.specs.declared.kind.Kind.TheVariants.{Accepted}
use Rattle.processes.specs.declared.proc.Look.{Look}
use Rattle.processes.specs.declared.proc.Look.TheVariants.{Able, Waiting, Ended, Faulted}
use Rattle.nm_base.specs.Message.{Message}
use Rattle.nm_base.specs.Scripts.{Script, Next, Goes, Wants, Over}
use Rattle.nm_base.specs.Channels.{has_channel}

-- which script, with which letters accepted and how many events made
abbrev pub Standing : Type 1
Standing = Script → List Message → ℕ → Type 0

-- each script of the first standing makes this event next, and then is of the second
abbrev pub Makes : Standing → Standing → Kind → Type 0
Makes old new kind = (s : Script) (letters : List Message) (k : ℕ) → old s letters k
    → (s.next letters k ≡ Goes kind) × new s letters (k + 1)

-- each script of the first standing is of the second once it accepted the letter
abbrev pub Takes : Standing → Standing → Message → Type 0
Takes old new m = (s : Script) (letters : List Message) (k : ℕ) → old s letters k → new s (letters ++ m ∷ []) (k + 1)

-- each script of the first standing is of the second
abbrev pub Stays : Standing → Standing → Type 0
Stays old new = (s : Script) (letters : List Message) (k : ℕ) → old s letters k → new s letters k

-- a process shows what its script does next
abbrev pub Shows : Look → Next → Type 0
Shows Able (Goes kind) = Unit {0}
Shows (Waiting set) (Wants other) = set ≡ other
Shows (Ended value) Over = Unit {0}
Shows (Faulted cause) Over = Unit {0}
Shows _ _ = ⊥

abbrev pub IsWaiting : Look → Type 0
IsWaiting (Waiting set) = Unit {0}
IsWaiting _ = ⊥

abbrev pub IsOver : Look → Type 0
IsOver (Ended value) = Unit {0}
IsOver (Faulted cause) = Unit {0}
IsOver _ = ⊥

-- a process that shows this may accept the letter
abbrev pub CanTake : Look → Letter → Type 0
CanTake (Waiting set) l = has_channel set l.chan ≡ true
CanTake _ l = ⊥

-- the event of accepting it
abbrev pub accepting : Look → Letter → Kind
accepting (Waiting set) l = Accepted set l.id
accepting _ l = Accepted 0 l.id
