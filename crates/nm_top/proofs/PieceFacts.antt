-- A piece of the input, byte by byte.
use Rattle.std.proofs.Common.{◌≡◌, ℕ, ◌+◌, ◌<◌, ◌≤◌, List, [], ◌∷◌, ◌++◌, length, take, drop, get_or, sym, ap, ◌∙◌, subst, append_assoc, Option, Ok, Err}
use Rattle.std.proofs.lemmas.List.{take_more, take_all, take-append-drop}
use Rattle.watchers.specs.Watched.{Watched}
use Rattle.debugger.specs.declared.fault.SessionFault.{SessionFault}
use Rattle.debugger.specs.declared.dispatch.Next.{Next}
use Rattle.debugger.specs.declared.dispatch.Next.TheVariants as nexts
use Rattle.debugger.specs.Sittings.{Sitting}
use Rattle.nm_top.specs.private.LineFronts.{Front}
use Rattle.nm_top.specs.private.Talking.{Origin, Going, Came}
use Rattle.nm_top.proofs.TalkFacts.{quit_stays, fault_stays}

pub next_bytes : (read piece : List ℕ) (i d : ℕ) → i < length piece → (read ++ take i piece) ++ get_or piece i d ∷ [] ≡ read ++ take (i + 1) piece
next_bytes read piece i d within = append_assoc read (take i piece) (get_or piece i d ∷ []) ∙ ap (λ xs. read ++ xs) (sym (take_more piece i d within))

all_bytes : (read piece : List ℕ) (i : ℕ) → (read ++ take i piece) ++ drop i piece ≡ read ++ piece
all_bytes read piece i = append_assoc read (take i piece) (drop i piece) ∙ ap (λ xs. read ++ xs) (take-append-drop i piece)

module _ {M : Type 0} (o : Origin) (read piece : List ℕ) (i d : ℕ) (within : i < length piece) (kept : Front) (new : Sitting M)
    (after : List Watched) (given : Option (List ℕ)) where
  pub piece_more : (next : Next) → next ≡ nexts.More → Came o ((read ++ take i piece) ++ get_or piece i d ∷ []) kept new after given (Ok next)
      → Going o (read ++ take (i + 1) piece) kept new after given
  piece_more next is h =
      subst (λ xs. Going o xs kept new after given) (next_bytes read piece i d within)
      (subst (λ n. Came o ((read ++ take i piece) ++ get_or piece i d ∷ []) kept new after given (Ok n)) is h)

  pub piece_quit : (next : Next) → next ≡ nexts.Quit → Came o ((read ++ take i piece) ++ get_or piece i d ∷ []) kept new after given (Ok next)
      → Came o (read ++ piece) kept new after given (Ok nexts.Quit)
  piece_quit next is h =
      subst (λ xs. Came o xs kept new after given (Ok nexts.Quit)) (all_bytes read piece (i + 1))
      (quit_stays o (read ++ take (i + 1) piece) (drop (i + 1) piece) kept new after given
      (subst (λ xs. Came o xs kept new after given (Ok nexts.Quit)) (next_bytes read piece i d within)
      (subst (λ n. Came o ((read ++ take i piece) ++ get_or piece i d ∷ []) kept new after given (Ok n)) is h)))

  pub piece_fault : (e : SessionFault) → Came o ((read ++ take i piece) ++ get_or piece i d ∷ []) kept new after given (Err e) → Came o (read ++ piece) kept new after given (Err e)
  piece_fault e h =
      subst (λ xs. Came o xs kept new after given (Err e)) (all_bytes read piece (i + 1))
      (fault_stays o (read ++ take (i + 1) piece) (drop (i + 1) piece) kept new after given e
      (subst (λ xs. Came o xs kept new after given (Err e)) (next_bytes read piece i d within) h))

pub piece_end : {M : Type 0} (o : Origin) (read piece : List ℕ) (i : ℕ) (kept : Front) (new : Sitting M) (after : List Watched) (given : Option (List ℕ))
    → length piece ≤ i → Going o (read ++ take i piece) kept new after given → Going o (read ++ piece) kept new after given
piece_end o read piece i kept new after given all h = subst (λ xs. Going o (read ++ xs) kept new after given) (take_all i piece all) h
