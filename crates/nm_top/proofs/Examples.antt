-- Examples of lines, and of ends.
use Rattle.std.specs.Prelude.{◌≡◌, true, false, [], ◌∷◌, ◌++◌, codes, replicate, Some, None}
use Rattle.std.proofs.Common.{refl}
use Rattle.nm_top.specs.Debugging.{lines_of, ended_lines, without_return, before_quit, quits, is_quit}
use Rattle.nm_top.specs.private.LineFronts.{short}

-- no line, and empty ones
no_input : lines_of [] ≡ []
no_input = refl

empty_lines : lines_of (codes "\n\n") ≡ [] ∷ [] ∷ []
empty_lines = refl

-- a carriage return is dropped before a newline, only one, and nowhere else
return_newline : lines_of (codes "a\r\nb\n") ≡ codes "a" ∷ codes "b" ∷ []
return_newline = refl

two_returns : lines_of (codes "a\r\r\n") ≡ codes "a\r" ∷ []
two_returns = refl

return_alone : lines_of (codes "\r\n") ≡ [] ∷ []
return_alone = refl

return_inside : lines_of (codes "a\rb\n") ≡ codes "a\rb" ∷ []
return_inside = refl

return_last : lines_of (codes "a\nb\r") ≡ codes "a" ∷ codes "b\r" ∷ []
return_last = refl

-- a last line without newline is one, but no newline ended it
last_line_is : lines_of (codes "a\nb") ≡ codes "a" ∷ codes "b" ∷ []
last_line_is = refl

last_line_unended : ended_lines (codes "a\nb") ≡ codes "a" ∷ []
last_line_unended = refl

-- 255 bytes and a carriage return are a line, 256 bytes are too long
longest : short (without_return (replicate 255 120 ++ codes "\r")) ≡ Some (replicate 255 120)
longest = refl

too_long_one : short (without_return (replicate 256 120)) ≡ None
too_long_one = refl

too_long_return : short (without_return (replicate 256 120 ++ codes "\r")) ≡ None
too_long_return = refl

-- `quit` alone, with blanks; one that is too long isn't one
quit_blanks : is_quit 3 (codes " quit\t") ≡ true
quit_blanks = refl

quit_more : is_quit 3 (codes "quit now") ≡ false
quit_more = refl

quit_longest : is_quit 3 (replicate 251 32 ++ codes "quit") ≡ true
quit_longest = refl

quit_too_long : is_quit 3 (replicate 252 32 ++ codes "quit") ≡ false
quit_too_long = refl

-- what is behind `quit` isn't answered
behind_quit : before_quit 3 (lines_of (codes "step\nquit\r\nrun\n")) ≡ codes "step" ∷ []
behind_quit = refl

quit_ended : quits 3 (codes "step\nquit\r\nrun") ≡ true
quit_ended = refl

quit_unended : quits 3 (codes "step\nquit") ≡ false
quit_unended = refl

pub quit_last : before_quit 3 (lines_of (codes "step\nquit")) ≡ codes "step" ∷ []
quit_last = refl
