-- The worked runs, computed.
use Rattle.std.proofs.Common.{◌≡◌, ℕ, zero, suc, [], ◌∷◌, ◌++◌, refl}
use Rattle.nm_base.specs.Channels.{has_channel}
use Rattle.nm_base.specs.Scripts.{IsLawful}
use Rattle.processes.specs.ListedFacts.{listed_lawful}
use Rattle.event_list.specs.Events.{entries}
use Rattle.event_list.specs.Clocks.{clocks}
use Rattle.event_list.specs.Turns.{run_of, replay_of, finish_of}
use Rattle.event_list.specs.Worked.{name, gatherer, teller, gathering, talker, talking, turns_of, parts_below, trace, recorded, replayed, talked, WorkedLaw}

lawful : (p : ℕ) → IsLawful (gathering p)
lawful zero = listed_lawful gatherer refl
lawful (suc p) = listed_lawful (teller (suc p)) refl

run : run_of gathering 0 (turns_of 1 6 ++ (turns_of 2 6 ++ turns_of 0 10)) ≡ recorded
unfolding has_channel
run = refl

clock_0 : parts_below 3 ((clocks recorded).clock 0) ≡ 10 ∷ 4 ∷ 4 ∷ []
clock_0 = refl

clock_1 : parts_below 3 ((clocks recorded).clock 1) ≡ 0 ∷ 6 ∷ 0 ∷ []
clock_1 = refl

clock_2 : parts_below 3 ((clocks recorded).clock 2) ≡ 0 ∷ 0 ∷ 6 ∷ []
clock_2 = refl

stamp_1 : parts_below 3 ((clocks recorded).stamp (name 1 0)) ≡ 0 ∷ 4 ∷ 0 ∷ []
stamp_1 = refl

stamp_2 : parts_below 3 ((clocks recorded).stamp (name 2 0)) ≡ 0 ∷ 0 ∷ 4 ∷ []
stamp_2 = refl

replay : replay_of gathering trace (turns_of 2 6 ++ (turns_of 0 4 ++ (turns_of 1 6 ++ turns_of 0 10))) ≡ replayed
unfolding has_channel
replay = refl

same_0 : entries replayed 0 ≡ entries recorded 0
same_0 = refl

same_1 : entries replayed 1 ≡ entries recorded 1
same_1 = refl

same_2 : entries replayed 2 ≡ entries recorded 2
same_2 = refl

turns : (finish_of gathering trace []).turns ≡ 31
unfolding has_channel
turns = refl

idle : (finish_of gathering trace []).idle ≡ 9
unfolding has_channel
idle = refl

talk : run_of talking 0 (turns_of 0 15) ≡ talked
unfolding has_channel
talk = refl

stamp_of_second : (clocks talked).stamp (name 0 1) 0 ≡ 5
stamp_of_second = refl

stamp_of_third : (clocks talked).stamp (name 0 2) 0 ≡ 11
stamp_of_third = refl

pub worked : WorkedLaw
worked = record {
  lawful = lawful;
  lawful_talker = λ p. listed_lawful talker refl;
  run = run;
  clock_0 = clock_0;
  clock_1 = clock_1;
  clock_2 = clock_2;
  stamp_1 = stamp_1;
  stamp_2 = stamp_2;
  replay = replay;
  same_0 = same_0;
  same_1 = same_1;
  same_2 = same_2;
  turns = turns;
  idle = idle;
  talk = talk;
  stamp_of_second = stamp_of_second;
  stamp_of_third = stamp_of_third;
}
