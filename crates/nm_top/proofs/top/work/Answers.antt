use Rattle.std.proofs.Common.{◌≡◌, Some, refl, sym, ap, ◌∙◌, subst}
use Rattle.std.specs.Prelude.{IsSomeAnd, Option}
use Rattle.std.specs.Option.{option_map}
use Rattle.nm_top.specs.declared.status.Status.TheVariants as statuses
use Rattle.nm_top.specs.Commands.{Command, TakesInput, command_of, texts}
use Rattle.report.specs.declared.cause.Refusal.TheVariants as refusals
use Rattle.nm_top.specs.private.Named.{named}
use Rattle.nm_top.specs.private.Works.{Refusing}
use Rattle.nm_top.proofs.CarryLaws.{does_command, does_usage, told_other}
use Rattle.nm_top.proofs.top.work.Goals as goal

pub returns-in-None-clause-does : goal.returns-in-None-clause-does
returns-in-None-clause-does g c = does_usage _ (texts c.args.words.now) _ _ _ _ _ _ _ _ _ _ c.tell.result (sym c.command_in.ensures.command ∙ ap (option_map named) c.in-None.is) c.tell.ensures refl

pub returns-in-None-clause-full : goal.returns-in-None-clause-full
returns-in-None-clause-full g c = λ e.
    absurd (told_other (Refusing refusals.Usage) statuses.InputFull (λ k. absurd cc) (λ k. absurd cc) _ _ _ _ c.tell.result c.tell.ensures e)

pub returns-in-Some-clause-does : goal.returns-in-Some-clause-does
returns-in-Some-clause-does g c =
    does_command _ (texts c.args.words.now) _ _ _ _ c.carry_out.result (named c.in-Some.command) (sym c.command_in.ensures.command ∙ ap (option_map named) c.in-Some.is) c.carry_out.ensures.carries c.carry_out.ensures.told c.carry_out.ensures.own

pub returns-in-Some-clause-input : goal.returns-in-Some-clause-input
returns-in-Some-clause-input g c =
    let is : command_of (texts c.args.words.now) ≡ Some (named c.in-Some.command) = sym c.command_in.ensures.command ∙ ap (option_map named) c.in-Some.is in
    λ n. c.carry_out.ensures.input (λ takes. n (subst (λ (o : Option Command). IsSomeAnd o TakesInput) (sym is) takes))
