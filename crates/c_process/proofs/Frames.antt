-- The frames that a machine shows are those of its state.
use Rattle.std.proofs.Common.{◌≡◌, ℕ, zero, suc, Bool, true, false, List, [], ◌∷◌, map, length, Some, refl, ap}
use Rattle.std.specs.Prelude.{slice_get}
use Rattle.stack_code.specs.Code.{Code}
use Rattle.stack_code.specs.Machine.{with_blocks, later_blocks, outer_blocks}
use Rattle.proc_machine.specs.declared.callers.Caller.{Caller as KeptCaller}
use Rattle.proc_machine.specs.declared.execution.Execution.{Execution}
use Rattle.proc_machine.specs.declared.machine.MachineFrame.{MachineFrame}
use Rattle.proc_machine.specs.Divided.{lower}
use Rattle.proc_machine.specs.View.{callers_of, control_of, frames_in}
use Rattle.proc_machine.specs.Standing.{shown_state}
use Rattle.proc_machine.specs.Machines.{callers_seen, places_seen}
use Rattle.c_process.specs.declared.answers.FrameSeen.{FrameSeen}
use Rattle.c_process.specs.Values.{outer_seen, frames_at}

abbrev seen : MachineFrame → FrameSeen
seen f = record { function = f.at.function; line = f.line }

-- the frames by those of the machine, the innermost at this line
abbrev pub by_machine : ℕ → List MachineFrame → List FrameSeen
by_machine line [] = []
by_machine line (f ∷ fs) = record { function = f.at.function; line = line } ∷ map seen fs

outer_same : (ks : List KeptCaller) (outer : List ℕ) (bs : List (List (List ℕ)))
    → map seen (callers_seen (callers_of ks outer) (with_blocks bs (frames_in ks))) ≡ map outer_seen (with_blocks bs (frames_in ks))
outer_same [] outer bs = refl
outer_same (k ∷ ks) outer bs = ap (λ l. record { function = k.frame.function; line = k.frame.line } ∷ l) (outer_same ks (lower k.below outer) (later_blocks bs))

module _ (code : Code) (count me : ℕ) (e : Execution) where
  pub frames_same : (b : Bool) (line : ℕ) → by_machine line (places_seen (control_of e) (shown_state code count me e b []).frames) ≡ frames_at line (shown_state code count me e b []).frames
  frames_same true line =
      ap (λ l. record { function = e.frame.function; line = line } ∷ l)
      (outer_same e.calls.callers e.calls.outer (outer_blocks code count me (callers_of e.calls.callers e.calls.outer)))
  frames_same false line = refl

map_length : (fs : List MachineFrame) → length (map seen fs) ≡ length fs
map_length [] = refl
map_length (f ∷ fs) = ap suc (map_length fs)

pub machine_length : (line : ℕ) (fs : List MachineFrame) → length (by_machine line fs) ≡ length fs
machine_length line [] = refl
machine_length line (f ∷ fs) = ap suc (map_length fs)

outer_at : (fs : List MachineFrame) (i : ℕ) (f : MachineFrame) → slice_get fs i ≡ Some f → slice_get (map seen fs) i ≡ Some (seen f)
outer_at [] i f h = cc
outer_at (g ∷ fs) zero f h = let same : g ≡ f = cc in ap (λ x. Some (seen x)) same
outer_at (g ∷ fs) (suc i) f h = outer_at fs i f h

-- the frame of a number
pub machine_inner : (line : ℕ) (fs : List MachineFrame) (f : MachineFrame) → slice_get fs 0 ≡ Some f → slice_get (by_machine line fs) 0 ≡ Some (record { function = f.at.function; line = line })
machine_inner line [] f h = cc
machine_inner line (g ∷ fs) f h = let same : g ≡ f = cc in ap (λ (x : MachineFrame). Some (record { function = x.at.function; line = line })) same

pub machine_outer : (line : ℕ) (fs : List MachineFrame) (i : ℕ) (f : MachineFrame) → (i ≡ 0 → ⊥) → slice_get fs i ≡ Some f → slice_get (by_machine line fs) i ≡ Some (seen f)
machine_outer line [] i f not h = cc
machine_outer line (g ∷ fs) zero f not h = absurd (not refl)
machine_outer line (g ∷ fs) (suc i) f not h = outer_at fs i f h
