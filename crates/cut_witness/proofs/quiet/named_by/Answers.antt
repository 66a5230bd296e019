use Rattle.std.proofs.Common.{arith}
use Rattle.causal_stop.proofs.NumberFacts.{no_number}
use Rattle.cut_witness.proofs.quiet.named_by.Goals as goal

pub loop-chan-init : goal.loop-chan-init
loop-chan-init c = record { long = omega arith; done = λ q l. absurd (omega (arith, l)); rest = λ q l. no_number 32 q }
