use Rattle.event_list.proofs.FirstPickFacts.{first_turns, first_finish, first_cut}
use Rattle.event_list.specs.Turns.{enough_turns, to_finish}
use Rattle.event_list.proofs.laws.first_pick_law.Goals as goal

pub returns : goal.returns
returns c = record {
  turns = λ s T R h. first_turns s T h;
  finish = λ s T R h. first_finish s T (enough_turns T) (to_finish R) h;
  cut = λ s T R c law h k. first_cut s law T c h k.closed;
}
