use Rattle.c_lexer.proofs.CommentLaws.{comment_law, open_comment_law}
use Rattle.c_lexer.proofs.laws.comment_law.Goals as goal

pub returns : goal.returns
returns c = record { end = comment_law; none = open_comment_law }
