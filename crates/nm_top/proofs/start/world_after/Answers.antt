use Rattle.std.proofs.Common.{length, sym, ap, subst, ◌∙◌}
use Rattle.std.specs.Prelude.{map}
use Rattle.c_tree.specs.Play.{script_of}
use Rattle.c_tree.proofs.Histories.{scripts_are_lawful}
use Rattle.stack_code.specs.View.{seen_code}
use Rattle.processes.specs.Seats.{process_in}
use Rattle.schedules.specs.Bounds.{AreFewTurns}
use Rattle.event_list.specs.Turns.{run_of}
use Rattle.world.specs.Worlds.{IsWorldOf}
use Rattle.world.proofs.Places.{map_length}
use Rattle.c_process.specs.contracts.script.CProcProc.TheImpl as process
use Rattle.nm_top.specs.Runs.{run_of_program}
use Rattle.nm_top.specs.Schedules.{seen_turn}
use Rattle.nm_top.proofs.StartLaws.{begins, runs_program}
use Rattle.nm_top.proofs.start.world_after.Goals as goal

pub new-requires-clause-names : goal.new-requires-clause-names
new-requires-clause-names c = λ p x at. (c.in_ok-seats.ensures.each p x at).name

pub new-requires-clause-begins : goal.new-requires-clause-begins
new-requires-clause-begins c = λ p x at. (script_of c.requires.code.0 c.args.n p, (c.in_ok-seats.ensures.each p x at).stands c.requires.code.0 c.requires.code.1)

pub make_turns-requires-clause-begins : goal.make_turns-requires-clause-begins
make_turns-requires-clause-begins c =
    let program = c.requires.code.0 in (
      script_of program c.args.n,
      c.in_ok-world.ensures.stands (script_of program c.args.n)
          (begins (seen_code c.args.code.now) c.args.n program c.in_ok-seats.seats.items (scripts_are_lawful program c.args.n) c.requires.code.1 c.in_ok-seats.ensures),
    )

pub make_turns-requires-clause-turns : goal.make_turns-requires-clause-turns
make_turns-requires-clause-turns c =
    let many = ap length c.in_ok-world.ensures.processes ∙ map_length process_in c.in_ok-seats.seats.items ∙ c.in_ok-seats.ensures.count in
    subst (λ k. AreFewTurns k c.args.schedule.now) (sym many) c.requires.turns

pub returns-clause-runs : goal.returns-clause-runs
returns-clause-runs c = λ program is_code.
    let s = script_of program c.args.n in
    let first = c.in_ok-world.ensures.stands s
    (begins (seen_code c.args.code.now) c.args.n program c.in_ok-seats.seats.items (scripts_are_lawful program c.args.n) is_code c.in_ok-seats.ensures) in
    runs_program (seen_code c.args.code.now) c.args.n c.in_ok-world.world c.make_turns.new.world program
    (run_of_program program c.args.n c.args.mask c.args.schedule.now) c.in_ok-seats.seats.items c.in_ok-seats.ensures c.in_ok-world.ensures.processes c.in_ok-make_turns.ensures.origins
    c.in_ok-make_turns.ensures.size is_code
    (subst (λ m. IsWorldOf process.stands_for-value.it c.make_turns.new.world s (run_of s m (map seen_turn c.args.schedule.now))) c.in_ok-world.ensures.mask
    (c.in_ok-make_turns.ensures.run s first))
