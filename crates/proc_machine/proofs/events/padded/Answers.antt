use Rattle.std.proofs.Common.{◌≡◌, ℕ, List, [], ◌∷◌, map, refl, ◌∙◌, rules}
use Rattle.std.specs.Prelude.{slice_index}
use Rattle.std.specs.List.{range_with_len}
use Rattle.std.proofs.lemmas.List.FromFn.{fill_by_all}
use Rattle.c_tree.specs.Expr.{padded}
use Rattle.proc_machine.proofs.events.padded.Goals as goal

padded_is : (words : List ℕ) → map (λ k. slice_index words k) (range_with_len 0 8) ≡ padded words
padded_is [] = refl
padded_is (a ∷ []) = refl
padded_is (a ∷ b ∷ []) = refl
padded_is (a ∷ b ∷ c ∷ []) = refl
padded_is (a ∷ b ∷ c ∷ d ∷ []) = refl
padded_is (a ∷ b ∷ c ∷ d ∷ e ∷ []) = refl
padded_is (a ∷ b ∷ c ∷ d ∷ e ∷ f ∷ []) = refl
padded_is (a ∷ b ∷ c ∷ d ∷ e ∷ f ∷ g ∷ []) = refl
padded_is (a ∷ b ∷ c ∷ d ∷ e ∷ f ∷ g ∷ h ∷ rest) = refl

pub returns : goal.returns
returns c = fill_by_all (λ k. slice_index c.args.words.now k) c.loop-i.padded 8 0 c.loop-i.invariant.0 (search rules) ∙ padded_is c.args.words.now
