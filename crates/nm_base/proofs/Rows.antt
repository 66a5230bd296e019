-- The definitions of arithmetic, computed on examples.
use Rattle.std.proofs.Common.{◌≡◌, refl}
use Rattle.std.specs.Prelude.{pos, negsuc, Ok, Err, true}
use Rattle.nm_base.specs.Word.{exact, quotient, remainder, shifted_left, shifted_right, unary, binary}
use Rattle.nm_base.specs.Channels.{has_channel}
use Rattle.nm_base.specs.declared.operator.Ctype.TheVariants.{Int, Unsigned}
use Rattle.nm_base.specs.declared.operator.UnaryOp.TheVariants.{Minus}
use Rattle.nm_base.specs.declared.operator.BinaryOp.TheVariants.{Less, More}
use Rattle.nm_base.specs.declared.kind.FaultCause.TheVariants.{Overflow, DivideByZero, Shift}

greatest : exact (pos 2147483647) ≡ Ok (pos 2147483647)
greatest = refl

past_greatest : exact (pos 2147483648) ≡ Err Overflow
past_greatest = refl

past_least : exact (negsuc 2147483648) ≡ Err Overflow
past_least = refl

halves : quotient (negsuc 6) (pos 2) ≡ Ok (negsuc 2)
halves = refl

rests : remainder (negsuc 6) (pos 2) ≡ Ok (negsuc 0)
rests = refl

least_by_minus_one : quotient (negsuc 2147483647) (negsuc 0) ≡ Err Overflow
least_by_minus_one = refl

rest_by_minus_one : remainder (negsuc 2147483647) (negsuc 0) ≡ Err Overflow
rest_by_minus_one = refl

by_zero : remainder (pos 5) (pos 0) ≡ Err DivideByZero
by_zero = refl

rounds_down : shifted_right (negsuc 6) 1 ≡ Ok (negsuc 3)
rounds_down = refl

top_bit : shifted_left (pos 1) 31 ≡ Ok (negsuc 2147483647)
top_bit = refl

past_width : shifted_left (pos 1) 32 ≡ Err Shift
past_width = refl

minus_least : unary Minus Int 2147483648 ≡ Err Overflow
minus_least = refl

minus_one_below_zero : binary Less Int 4294967295 0 ≡ Ok 1
minus_one_below_zero = refl

-- an unsigned comparison takes both operands as unsigned
all_ones_not_below_zero : binary Less Unsigned 4294967295 0 ≡ Ok 0
all_ones_not_below_zero = refl

high_above_zero : binary More Unsigned 2147483648 0 ≡ Ok 1
high_above_zero = refl

channel_of_bit : has_channel 4 2 ≡ true
unfolding has_channel
channel_of_bit = refl
