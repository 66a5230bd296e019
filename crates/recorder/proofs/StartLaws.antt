-- A recording before its first turn.
use Rattle.std.proofs.Common.{◌≡◌, ℕ, ◌≤◌, Bool, true, false, cond, eqb, List, [], ◌++◌, length, Option, None, Some, Err, refl, sym, ap, ◌∙◌, subst, inl, inr, arith, length-append}
use Rattle.std.specs.Prelude.{unwrap_or, IsSome, ◌⊎◌}
use Rattle.nm_base.specs.Scripts.{Script}
use Rattle.schedules.specs.declared.schedule.Turn.{Turn}
use Rattle.trace_file.specs.Content.{begun}
use Rattle.recorder.specs.Outcomes.{IsCutOff}
use Rattle.std.specs.FinMap.{insert}
use Rattle.nm_base.specs.Fitting.EachFits.{none}
use Rattle.nm_outside.specs.Begun.{has_failed}
use Rattle.nm_outside.specs.declared.cabinet.BeginFault.{BeginFault}
use Rattle.nm_outside.specs.declared.cabinet.BeginFault.TheVariants.{Failed, Memory}
use Rattle.nm_outside.specs.Files.{Files, emptied, extended, ExtendsPart}
use Rattle.nm_outside.proofs.Kept.{insert_twice, get_inserted}
use Rattle.event_list.specs.Traces.{nothing}
use Rattle.event_list.proofs.Members.{empty}
use Rattle.race_tracer.specs.Tracing.{Tables, IsTracerOf}
use Rattle.trace_file.specs.declared.writer.TraceWriter.{TraceWriter}
use Rattle.trace_file.specs.Bytes.{front, header_part, mask_bytes, number}
use Rattle.trace_file.specs.Reading.{header_len}
use Rattle.trace_file.specs.Writing.{Writes}
use Rattle.trace_file.proofs.Passing.{begun_front}
use Rattle.recorder.specs.Recording.{Form, IsFrontOf, holding}
use Rattle.recorder.specs.private.Stages.{Place, IsNoted, HoldsFront, content_in}
use Rattle.recorder.proofs.Contents.{front_of_notes}

-- a file that was begun holds what was put into it
begun_holding : (start : Option Files) (name piece : List ℕ) → extended (emptied start name) name piece ≡ holding start name piece
begun_holding None name piece = refl
begun_holding (Some fs) name piece =
    ap (λ (o : Option (List ℕ)). Some (insert (insert fs name []) name (unwrap_or o [] ++ piece))) (get_inserted fs name [])
    ∙ ap Some (insert_twice fs name [] piece)

header_is : (f : Form) → front (content_in f [] []) ≡ header_part f.version f.mask f.n f.digest
header_is f = begun_front f.version f.mask f.n f.digest

module _ (f : Form) (at : Place) (files : Option Files) where
  pub noted_start : (t : Tables) (w : TraceWriter) (opened : List ℕ) → IsTracerOf t [] → Writes w (front (content_in f [] []))
      → files ≡ extended (emptied at.start at.name) at.name (header_part f.version f.mask f.n f.digest) → (IsSome files → opened ≡ at.name) → IsNoted f at t w files opened 0 []
  noted_start t w opened tracer writes is named = record {
    tracer = tracer;
    list = [];
    are_notes = nothing;
    count = refl;
    writes = writes;
    held = record { is = is ∙ begun_holding at.start at.name _ ∙ ap (holding at.start at.name) (sym (header_is f)); name_is = named };
  }

  -- a header that was not written whole
  pub cut_start : ExtendsPart (emptied at.start at.name) at.name (header_part f.version f.mask f.n f.digest) files → IsFrontOf f [] at.name at.start files
  cut_start p = front_of_notes f at files [] (λ e c. absurd (empty e c)) none (record {
    list = [];
    are_notes = nothing;
    front_is = subst (HoldsFront at files) (sym (header_is f)) (record { many = p.0; within = p.1; is = p.2 ∙ begun_holding at.start at.name _ });
  })

-- the header has at most 42 bytes
pub header_few : (version mask n : ℕ) (digest : List ℕ) → length digest ≡ 32 → length (header_part version mask n digest) ≤ 42
header_few version mask n digest long =
    let rest : length (mask_bytes version mask) ≤ 4 = by (eqb version 2) in
    omega (arith, long, rest, length-append digest (mask_bytes version mask))
  where
    by : (b : Bool) → length (cond b (number mask) []) ≤ 4
    by true = let four : length (number mask) ≡ 4 = refl in omega (arith, four)
    by false = omega arith

pub header_len_few : (version : ℕ) → header_len version ≤ 42
header_len_few version = by (eqb version 2)
  where
    by : (b : Bool) → cond b 42 38 ≤ 42
    by true = omega arith
    by false = omega arith

-- what was begun by the number of seats
pub noted_begun : (f : Form) (at : Place) (files : Option Files) (t : Tables) (w : TraceWriter) (opened : List ℕ) (n : ℕ) → n ≡ f.n → IsTracerOf t [] → Writes w (front (begun f.version f.mask n f.digest))
    → files ≡ extended (emptied at.start at.name) at.name (header_part f.version f.mask n f.digest) → (IsSome files → opened ≡ at.name) → IsNoted f at t w files opened 0 []
noted_begun f at files t w opened n same tracer writes is named =
    noted_start f at files t w opened tracer (subst (λ (k : ℕ). Writes w (front (begun f.version f.mask k f.digest))) same writes)
    (is ∙ ap (λ (k : ℕ). extended (emptied at.start at.name) at.name (header_part f.version f.mask k f.digest)) same) named

-- a file that was not begun, or whose header was not written whole
pub cut_begun : {Q : (ℕ → Script) → Type 0} → (f : Form) (at : Place) (files : Option Files) (ts : List Turn) (n : ℕ) → n ≡ f.n
    → (files ≡ at.start) ⊎ ExtendsPart (emptied at.start at.name) at.name (header_part f.version f.mask n f.digest) files
    → (files ≡ at.start) ⊎ ((s : ℕ → Script) → Q s → IsCutOff s f ts at.name at.start files)
cut_begun f at files ts n same (inl e) = inl e
cut_begun f at files ts n same (inr p) = inr (λ s b. record {
  turns = 0;
  within = omega arith;
  front = cut_start f at files (subst (λ (k : ℕ). ExtendsPart (emptied at.start at.name) at.name (header_part f.version f.mask k f.digest) files) same p);
})

-- a begin that failed was not sure
pub failed_not : (T : Type 0) (e : BeginFault) → e ≡ Failed → has_failed {T = T} (Err e) ≡ false → true ≡ false
failed_not T Failed is h = h
failed_not T Memory is h = absurd cc
