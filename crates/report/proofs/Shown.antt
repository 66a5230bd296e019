-- What a process of the world shows is what the program says.
use Rattle.std.proofs.Common.{◌≡◌, ℕ, List, length, Option, Some, Result, sym, ap, ◌∙◌, subst}
use Rattle.std.specs.Prelude.{slice_get, ⊤}
use Rattle.nm_outside.specs.declared.cabinet.Failed.{Failed}
use Rattle.processes.specs.declared.proc.Look.{Look}
use Rattle.report.specs.Printing.{Prints}
use Rattle.report.specs.Texts.{block, summary}
use Rattle.nm_base.specs.declared.letter.ProcNo.{ProcNo}
use Rattle.nm_base.specs.Message.{Message}
use Rattle.c_tree.specs.declared.program.Program.{Program}
use Rattle.c_tree.specs.Play.{script_of}
use Rattle.stack_code.specs.Code.{Code}
use Rattle.event_list.specs.declared.Event.{Event}
use Rattle.event_list.specs.Events.{count, messages}
use Rattle.world.specs.Worlds.{Parts}
use Rattle.c_process.specs.Standing.{IsCodeOf}
use Rattle.c_process.specs.contracts.script.CProcProc.TheImpl as process
use Rattle.c_process.specs.declared.process.CProc.{CProc}
use Rattle.report.specs.Runs.{RunsProgram}

module _ {M : Type 0} (w : Parts CProc M) (program : Program) (E : List Event) (k : RunsProgram w program E) (p : ℕ) (x : CProc) (at : slice_get w.processes p ≡ Some x)
    (name : process.name_of-value.it x ≡ record { no = p })
  where
    -- it stands for its script
    pub its_script : process.stands_for-value.it x (script_of program (length w.processes) p) (messages E p) (count E p)
    its_script = k.stands.stands p x at

    -- its code is that of the program
    pub its_code : IsCodeOf program (process.origin_of-value.it x).0
    its_code = subst (λ (o : Code × ℕ). IsCodeOf program o.0) (sym (k.runs p x at)) k.compiled

    -- what is said of it by its own number and count of processes
    pub its_own : {A : Type 0} (f : Program → ℕ → ℕ → List Message → ℕ → A)
        → f program (process.origin_of-value.it x).1 (process.name_of-value.it x).no (messages E p) (count E p) ≡ f program (length w.processes) p (messages E p) (count E p)
    its_own f =
        ap (λ (o : Code × ℕ). f program o.1 (process.name_of-value.it x).no (messages E p) (count E p)) (k.runs p x at)
        ∙ ap (λ (me : ProcNo). f program (length w.processes) me.no (messages E p) (count E p)) name

pub prints_block : (a b : Option (List ℕ)) (f g p : ℕ) (look look' : Look) (line line' events events' : ℕ) (output output' : List ℕ) (r : Result ⊤ Failed)
    → look ≡ look' → line ≡ line' → events ≡ events' → output ≡ output' → Prints a b f g (block p look line events output) r → Prints a b f g (block p look' line' events' output') r
prints_block a b f g p look look' line line' events events' output output' r k l e o h =
    let same : block p look line events output ≡ block p look' line' events' output' = λ i. block p (k i) (l i) (e i) (o i) in
    subst (λ t. Prints a b f g t r) same h

pub prints_summary : (a b : Option (List ℕ)) (f g events events' sent sent' taken taken' waits waits' : ℕ) (r : Result ⊤ Failed)
    → events ≡ events' → sent ≡ sent' → taken ≡ taken' → waits ≡ waits' → Prints a b f g (summary events sent taken waits) r → Prints a b f g (summary events' sent' taken' waits') r
prints_summary a b f g events events' sent sent' taken taken' waits waits' r e s t w h =
    let same : summary events sent taken waits ≡ summary events' sent' taken' waits' = λ i. summary (e i) (s i) (t i) (w i) in
    subst (λ text. Prints a b f g text r) same h
