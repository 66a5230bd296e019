-- An expression is too deep only where there are as many nesting tokens as the limit.
use Rattle.std.proofs.Common.{◌≡◌, ℕ, zero, suc, ◌+◌, ◌-◌, ◌<◌, ◌≤◌, max, Bool, true, false, ◌&&◌, List, [], ◌∷◌, ◌++◌, length, Option, Some, None, Result, Ok, Err, refl, ap, arith, lit≤}
use Rattle.std.specs.Prelude.{nat_lt, if◌then◌else◌, ◌==◌}
use Rattle.std.proofs.lemmas.Bool.{ltb-true, ltb-false, eqb-true}
use Rattle.c_lexer.specs.declared.token.Token.{Token}
use Rattle.c_lexer.specs.declared.token.Tok.{Tok}
use Rattle.c_lexer.specs.declared.token.Tok.TheVariants as tok
use Rattle.c_lexer.specs.declared.token.Mark.{Mark}
use Rattle.c_lexer.specs.declared.token.Mark.TheVariants as m
use Rattle.c_tree.specs.declared.tree.Expr.{Expr}
use denote.Bor.{Bor}
use Rattle.c_parser.specs.declared.fault.TokenFault.{TokenFault}
use Rattle.c_parser.specs.declared.fault.TokenFault.TheVariants.{Syntax, Deep, Memory}
use Rattle.c_parser.specs.declared.expr.Operand.{Operand}
use Rattle.nm_base.specs.declared.operator.BinaryOp.{BinaryOp}
use Rattle.c_parser.specs.declared.operators.Prefix.{Prefix}
use Rattle.c_parser.specs.Tokens.{nesting, is_nesting_mark, assign_mark, mark_level}
use Rattle.c_parser.proofs.Follow.{assign_level}
use Rattle.c_parser.specs.private.Operators.{suffix_of, prefix_of}
use Rattle.c_parser.specs.Walk.{is_text, mark}
use Rattle.c_parser.specs.Expr.{part_of}
use Rattle.c_lexer.specs.Lexemes.{◌>>=◌}
use Rattle.c_parser.specs.private.Reader.{ParseGives, OnDeep, Failure, Wrong, TooDeep, Reader, if_found, at_mark, expected, expect}
use Rattle.c_parser.specs.private.ReadExpr as read
use Rattle.c_parser.specs.private.ReadExpr.{is_separator, join_at, assignment_at, suffixes, suffixed, parenthesized, element, argument, arguments_from, call, named_by, primary_by, primary, postfix}
use Rattle.c_parser.specs.private.ReadExpr.{unary, unary_of, joins, choice, choices, assignment, value_of, more, at_level, read_expr}
use Rattle.c_parser.proofs.Steps.{mark_takes, mark_is, at_mark_some}
use Rattle.c_parser.proofs.Sound.{Sound, Lower, argument_sound, primary_sound, suffixed_sound, joined_sound, join_found, join_mark, at_level_sound, expr_sound, assignment_found}
use Rattle.c_parser.proofs.Nesting.{costs_token, costs_any, costs_mark, join_nests, expr_nests, costs_expr}

-- what follows where a reading fails as too deep
pub record Deeps {A : Type 0} (P : Type 0) (r : Result A Failure) : Type 0 where
  pub of : r ≡ Err TooDeep → P

module _ {A : Type 0} (P : Type 0) where
  pub deeps_ok : (x : A) → Deeps P (Ok x)
  deeps_ok x = record { of = λ e. let bad : ⊥ = cc in absurd bad }

  pub deeps_wrong : Deeps {A = A} P (Err Wrong)
  deeps_wrong = record { of = λ e. let bad : ⊥ = cc in absurd bad }

  pub deeps_all : (r : Result A Failure) → P → Deeps P r
  deeps_all r p = record { of = λ e. p }

  pub deeps_bind : {B : Type 0} (r : Result B Failure) (f : B → Result A Failure) → Deeps P r → ((x : B) → r ≡ Ok x → Deeps P (f x)) → Deeps P (r >>= f)
  deeps_bind (Ok x) f d k = k x refl
  deeps_bind (Err e) f d k = record { of = λ h. d.of (let g : e ≡ TooDeep = cc in ap Err g) }

  pub deeps_expected : (o : Option (List Token)) (f : List Token → Result A Failure) → ((rest : List Token) → o ≡ Some rest → Deeps P (f rest)) → Deeps P (expected o >>= f)
  deeps_expected None f k = deeps_wrong
  deeps_expected (Some rest) f k = k rest refl

  pub deeps_expect : (n : Mark) (ts : List Token) (f : List Token → Result A Failure) → ((rest : List Token) → mark n ts ≡ Some rest → Deeps P (f rest)) → Deeps P (expect n ts >>= f)
  deeps_expect n ts f k = deeps_expected (mark n ts) f k

  pub deeps_found : {B : Type 0} (o : Option B) (none : Result A Failure) (some : B → Result A Failure) → Deeps P none → ((x : B) → o ≡ Some x → Deeps P (some x)) → Deeps P (if_found o none some)
  deeps_found None none some d k = d
  deeps_found (Some x) none some d k = k x refl

  pub deeps_if : (b : Bool) (x y : Result A Failure) → (b ≡ true → Deeps P x) → (b ≡ false → Deeps P y) → Deeps P (if b then x else y)
  deeps_if true x y d k = d refl
  deeps_if false x y d k = k refl

-- a part that was read, with the tokens before it and after it
nests : (limit level : ℕ) (ts rest : List Token) (x : Operand) → Sound limit level ts x rest → nesting rest + x.height ≤ nesting ts + 1
nests limit level ts rest x s = let f = expr_nests x.expr ts rest s.spells.walk in let l = s.spells.height_is in omega (arith, f, l)

pub fewer : (n : Mark) (ts rest : List Token) → mark n ts ≡ Some rest → nesting rest ≤ nesting ts
fewer n ts rest e = let f = (costs_any n).of ts rest e in omega (arith, f)

one_fewer : (n : Mark) (ts rest : List Token) → is_nesting_mark n ≡ true → mark n ts ≡ Some rest → nesting rest + 1 ≤ nesting ts
one_fewer n ts rest is e = (costs_mark n is).of ts rest e

argument_falls : (ts rest : List Token) (x : Expr) → (part_of x).walk ts ≡ Some rest → nesting rest ≤ nesting ts
argument_falls ts rest x e = let f = (costs_expr x).of ts rest e in omega (arith, f)

suffix_nests : (n : Mark) (up : Bool) → suffix_of n ≡ Some up → is_nesting_mark n ≡ true
suffix_nests m.PlusPlus up e = refl
suffix_nests m.MinusMinus up e = refl
suffix_nests _ up e = cc

prefix_of_nests : (n : Mark) (x : Prefix) → prefix_of n ≡ Some x → is_nesting_mark n ≡ true
prefix_of_nests m.Plus x e = refl
prefix_of_nests m.Minus x e = refl
prefix_of_nests m.Tilde x e = refl
prefix_of_nests m.Not x e = refl
prefix_of_nests m.PlusPlus x e = refl
prefix_of_nests m.MinusMinus x e = refl
prefix_of_nests _ x e = cc

not_assign : (o : Option BinaryOp) (n : Mark) → assign_mark o ≡ Some n → (mark_level n ≡ 13 → ⊥) → ⊥
not_assign o n e h = h (assign_level o n e)

assign_nests : (n : Mark) (o : Option BinaryOp) → assign_mark o ≡ Some n → is_nesting_mark n ≡ true
assign_nests m.RightParen o e = absurd (not_assign o m.RightParen e (λ k. let f : mark_level m.RightParen ≡ 13 = k in omega (arith, f)))
assign_nests m.RightBracket o e = absurd (not_assign o m.RightBracket e (λ k. let f : mark_level m.RightBracket ≡ 13 = k in omega (arith, f)))
assign_nests m.RightBrace o e = absurd (not_assign o m.RightBrace e (λ k. let f : mark_level m.RightBrace ≡ 13 = k in omega (arith, f)))
assign_nests m.Semicolon o e = absurd (not_assign o m.Semicolon e (λ k. let f : mark_level m.Semicolon ≡ 13 = k in omega (arith, f)))
assign_nests m.Colon o e = absurd (not_assign o m.Colon e (λ k. let f : mark_level m.Colon ≡ 13 = k in omega (arith, f)))
assign_nests _ o e = refl

-- each suffix is a nesting token
suffixes_deeps : (below n k : ℕ) (start ts : List Token) (part : Operand) → below + 1 < n + part.height → nesting start ≤ k → Sound (suc below) 0 start part ts
    → Deeps (suc below ≤ k) (suffixes below n part ts)
unfolding suffixes
suffixes_deeps below zero k start ts part enough le s = absurd (omega (arith, enough, s.low))
suffixes_deeps below (suc n) k start ts part enough le s =
    let P : Type 0 = suc below ≤ k in
    let c = nests (suc below) 0 start ts part s in
    deeps_found P (at_mark suffix_of ts) (Ok (part, ts)) _ (deeps_ok P (part, ts)) (λ x found.
    let f = at_mark_some suffix_of ts x.0 x.1 found in
    let g = one_fewer f.0 ts x.1 (suffix_nests f.0 x.0 f.2) (mark_is f.0 ts x.1 f.1) in
    deeps_if P (nat_lt below part.height) (Err TooDeep) _
    (λ high. deeps_all P (Err TooDeep) (let h = ltb-true below part.height high in omega (arith, c, g, h, le)))
    (λ low. let l = ltb-false below part.height low in suffixes_deeps below n k start x.1 (suffixed x.0 part) (omega (arith, enough)) le (suffixed_sound below start ts x.1 part x.0 l s found)))

module _ (below : ℕ) (lower : ℕ → Reader Operand) (reads : Lower below lower)
    (deep : (n : ℕ) (ts : List Token) → n ≤ 14 → Deeps (below ≤ nesting ts) (lower n ts)) where
  -- a part after a nesting token
  part_deeps : (n k : ℕ) (ts : List Token) → n ≤ 14 → nesting ts + 1 ≤ k → Deeps (suc below ≤ k) (lower n ts)
  part_deeps n k ts top le = record { of = λ e. let d = (deep n ts top).of e in omega (arith, d, le) }

  paren_deeps : (line k : ℕ) (ts : List Token) → nesting ts + 1 ≤ k → Deeps (suc below ≤ k) (parenthesized below lower line ts)
  unfolding parenthesized
  paren_deeps line k ts le = let P : Type 0 = suc below ≤ k in
      deeps_bind P (lower 14 ts) _ (part_deeps 14 k ts (lit≤ tt) le) (λ part r. deeps_expect P m.RightParen part.1 _ (λ rest close. deeps_ok P _))

  element_deeps : (name : List ℕ) (line k : ℕ) (ts : List Token) → nesting ts + 1 ≤ k → Deeps (suc below ≤ k) (element below lower name line ts)
  unfolding element
  element_deeps name line k ts le = let P : Type 0 = suc below ≤ k in
      deeps_bind P (lower 14 ts) _ (part_deeps 14 k ts (lit≤ tt) le) (λ part r. deeps_expect P m.RightBracket part.1 _ (λ rest close. deeps_ok P _))

  argument_deeps : (k : ℕ) (ts : List Token) → nesting ts + 1 ≤ k → Deeps (suc below ≤ k) (argument below lower ts)
  unfolding argument
  argument_deeps k [] le = part_deeps 13 k [] (lit≤ tt) le
  argument_deeps k (t ∷ ts) le = let P : Type 0 = suc below ≤ k in
      deeps_if P (is_text t.kind && nat_lt 0 below) _ (lower 13 (t ∷ ts)) (λ _. deeps_ok P _) (λ _. part_deeps 13 k (t ∷ ts) (lit≤ tt) le)

  arguments_from_deeps : (n k : ℕ) (before : List Expr) (height : ℕ) (ts : List Token) → nesting ts + 1 ≤ k → Deeps (suc below ≤ k) (arguments_from below lower n before height ts)
  unfolding arguments_from
  arguments_from_deeps zero k before height ts le = deeps_wrong (suc below ≤ k)
  arguments_from_deeps (suc n) k before height ts le = let P : Type 0 = suc below ≤ k in
      deeps_bind P (argument below lower ts) _ (argument_deeps k ts le) (λ x r.
      let a = (argument_sound below lower reads ts).of x r in
      deeps_found P (at_mark is_separator x.1) (Err Wrong) _ (deeps_wrong P) (λ y found.
      let f = at_mark_some is_separator x.1 y.0 y.1 found in
      let g = fewer f.0 x.1 y.1 (mark_is f.0 x.1 y.1 f.1) in
      deeps_if P y.0 _ _ (λ _. arguments_from_deeps n k (before ++ x.0.expr ∷ []) (max height x.0.height) y.1 (omega (arith, le, g, argument_falls ts x.1 x.0.expr a.spells.walk)))
      (λ _. deeps_ok P _)))

  arguments_deeps : (k : ℕ) (ts : List Token) → nesting ts + 1 ≤ k → Deeps (suc below ≤ k) (read.arguments below lower ts)
  unfolding read.arguments
  arguments_deeps k ts le = let P : Type 0 = suc below ≤ k in
      deeps_found P (mark m.RightParen ts) _ _ (arguments_from_deeps (length ts + 1) k [] 0 ts le) (λ rest close. deeps_ok P _)

  call_deeps : (name : List ℕ) (line k : ℕ) (ts : List Token) → nesting ts + 1 ≤ k → Deeps (suc below ≤ k) (call below lower name line ts)
  unfolding call
  call_deeps name line k ts le = let P : Type 0 = suc below ≤ k in deeps_bind P (read.arguments below lower ts) _ (arguments_deeps k ts le) (λ y r. deeps_ok P _)

  named_mark_deeps : (n : Mark) (name : List ℕ) (line k : ℕ) (u : Token) (us : List Token) → u.kind ≡ tok.Mark n → nesting (u ∷ us) ≤ k
      → Deeps (suc below ≤ k) (named_by below lower (tok.Mark n) name line us (u ∷ us))
  named_mark_deeps m.LeftBracket name line k u us e le = let f = one_fewer m.LeftBracket (u ∷ us) us refl (mark_takes m.LeftBracket u us e) in element_deeps name line k us (omega (arith, f, le))
  named_mark_deeps m.LeftParen name line k u us e le = let f = one_fewer m.LeftParen (u ∷ us) us refl (mark_takes m.LeftParen u us e) in call_deeps name line k us (omega (arith, f, le))
  named_mark_deeps _ name line k u us e le = deeps_ok (suc below ≤ k) _

  named_by_deeps : (o : Tok) (name : List ℕ) (line k : ℕ) (u : Token) (us : List Token) → u.kind ≡ o → nesting (u ∷ us) ≤ k → Deeps (suc below ≤ k) (named_by below lower o name line us (u ∷ us))
  named_by_deeps (tok.Mark n) name line k u us e le = named_mark_deeps n name line k u us e le
  named_by_deeps tok.Name name line k u us e le = deeps_ok (suc below ≤ k) _
  named_by_deeps tok.Text name line k u us e le = deeps_ok (suc below ≤ k) _
  named_by_deeps (tok.Keyword l) name line k u us e le = deeps_ok (suc below ≤ k) _
  named_by_deeps (tok.Const bits of) name line k u us e le = deeps_ok (suc below ≤ k) _

  named_deeps : (name : List ℕ) (line k : ℕ) (ts : List Token) → nesting ts ≤ k → Deeps (suc below ≤ k) (read.named below lower name line ts)
  unfolding read.named
  named_deeps name line k [] le = deeps_ok (suc below ≤ k) _
  named_deeps name line k (u ∷ us) le = named_by_deeps u.kind name line k u us refl le

  primary_mark_deeps : (n : Mark) (t : Token) (ts : List Token) → t.kind ≡ tok.Mark n → Deeps (suc below ≤ nesting (t ∷ ts)) (primary_by below lower (tok.Mark n) t ts)
  primary_mark_deeps m.LeftParen t ts e = paren_deeps t.line (nesting (t ∷ ts)) ts (one_fewer m.LeftParen (t ∷ ts) ts refl (mark_takes m.LeftParen t ts e))
  primary_mark_deeps _ t ts e = deeps_wrong (suc below ≤ nesting (t ∷ ts))

  primary_by_deeps : (o : Tok) (t : Token) (ts : List Token) → t.kind ≡ o → Deeps (suc below ≤ nesting (t ∷ ts)) (primary_by below lower o t ts)
  primary_by_deeps (tok.Mark n) t ts e = primary_mark_deeps n t ts e
  primary_by_deeps tok.Name t ts e = named_deeps t.bytes t.line (nesting (t ∷ ts)) ts (costs_token t ts)
  primary_by_deeps tok.Text t ts e = deeps_wrong (suc below ≤ nesting (t ∷ ts))
  primary_by_deeps (tok.Keyword l) t ts e = deeps_wrong (suc below ≤ nesting (t ∷ ts))
  primary_by_deeps (tok.Const bits of) t ts e = deeps_ok (suc below ≤ nesting (t ∷ ts)) _

  postfix_deeps : (ts : List Token) → Deeps (suc below ≤ nesting ts) (postfix below lower ts)
  unfolding postfix primary
  postfix_deeps [] = deeps_wrong (suc below ≤ nesting [])
  postfix_deeps (t ∷ ts) = let P : Type 0 = suc below ≤ nesting (t ∷ ts) in
      deeps_bind P (primary_by below lower t.kind t ts) _ (primary_by_deeps t.kind t ts refl) (λ x r.
      suffixes_deeps below (below + 2) (nesting (t ∷ ts)) (t ∷ ts) x.1 x.0 (omega arith) (omega arith) ((primary_sound below lower reads (t ∷ ts)).of x r))

  unary_deeps : (ts : List Token) → Deeps (suc below ≤ nesting ts) (unary below lower ts)
  unfolding unary unary_of
  unary_deeps ts = let P : Type 0 = suc below ≤ nesting ts in
      deeps_found P (at_mark prefix_of ts) (postfix below lower ts) _ (postfix_deeps ts) (λ x found.
      let f = at_mark_some prefix_of ts x.0 x.1 found in
      let g = one_fewer f.0 ts x.1 (prefix_of_nests f.0 x.0 f.2) (mark_is f.0 ts x.1 f.1) in
      deeps_bind P (lower 1 x.1) _ (part_deeps 1 (nesting ts) x.1 (lit≤ tt) g) (λ part r. deeps_ok P _))

  joins_deeps : (n level : ℕ) (start ts : List Token) (left : Operand) → level ≤ 14 → below + 1 < n + left.height → Sound (suc below) level start left ts
      → Deeps (suc below ≤ nesting start) (joins below lower n level left ts)
  unfolding joins
  joins_deeps zero level start ts left top enough s = absurd (omega (arith, enough, s.low))
  joins_deeps (suc n) level start ts left top enough s =
      let P : Type 0 = suc below ≤ nesting start in
      let c = nests (suc below) level start ts left s in
      let d = argument_falls start ts left.expr s.spells.walk in
      deeps_found P (join_at level ts) (Ok (left, ts)) _ (deeps_ok P (left, ts)) (λ x found.
      let f = join_found level ts x.1 x.0 found in
      let g = one_fewer (join_mark x.0) ts x.1 (join_nests x.0) f.0 in
      deeps_if P (nat_lt below left.height) (Err TooDeep) _
      (λ high. deeps_all P (Err TooDeep) (let h = ltb-true below left.height high in omega (arith, c, g, h)))
      (λ low. let l = ltb-false below left.height low in
      deeps_bind P (lower (level - 1) x.1) _ (part_deeps (level - 1) (nesting start) x.1 (omega (arith, top)) (omega (arith, g, d))) (λ right r.
      let t = (reads (level - 1) x.1 (omega (arith, top))).of right r in
      joins_deeps n level start right.1 (read.joined level x.0 left right.0) top (omega (arith, enough)) (joined_sound below level start ts x.1 right.1 x.0 left right.0 l s f.0 f.1 t))))

  choice_deeps : (start ts : List Token) (test : Operand) → Sound (suc below) 11 start test ts → Deeps (suc below ≤ nesting start) (choice below lower test ts)
  unfolding choice choices
  choice_deeps start ts test s =
      let P : Type 0 = suc below ≤ nesting start in
      let c = nests (suc below) 11 start ts test s in
      let d = argument_falls start ts test.expr s.spells.walk in
      deeps_found P (mark m.Question ts) (Ok (test, ts)) _ (deeps_ok P (test, ts)) (λ us found.
      let g = one_fewer m.Question ts us refl found in
      deeps_if P (nat_lt below test.height) (Err TooDeep) _
      (λ high. deeps_all P (Err TooDeep) (let h = ltb-true below test.height high in omega (arith, c, g, h)))
      (λ low. deeps_bind P (lower 14 us) _ (part_deeps 14 (nesting start) us (lit≤ tt) (omega (arith, g, d))) (λ first r.
      let t = (reads 14 us (lit≤ tt)).of first r in
      let i = argument_falls us first.1 first.0.expr t.spells.walk in
      deeps_expect P m.Colon first.1 _ (λ vs colon. let j = fewer m.Colon first.1 vs colon in
      deeps_bind P (lower 12 vs) _ (part_deeps 12 (nesting start) vs (lit≤ tt) (omega (arith, g, d, i, j))) (λ second q. deeps_ok P _)))))

  assignment_deeps : (start ts : List Token) (place : Operand) → Sound (suc below) 12 start place ts → Deeps (suc below ≤ nesting start) (assignment below lower place ts)
  unfolding assignment value_of
  assignment_deeps start ts place s =
      let P : Type 0 = suc below ≤ nesting start in
      let c = nests (suc below) 12 start ts place s in
      let d = argument_falls start ts place.expr s.spells.walk in
      deeps_found P (assignment_at place.level ts) (Ok (place, ts)) _ (deeps_ok P (place, ts)) (λ x found.
      let f = assignment_found place.level ts x.1 x.0 found in
      let g = one_fewer f.0.0 ts x.1 (assign_nests f.0.0 x.0 f.0.1) f.0.2 in
      deeps_if P (nat_lt below place.height) (Err TooDeep) _
      (λ high. deeps_all P (Err TooDeep) (let h = ltb-true below place.height high in omega (arith, c, g, h)))
      (λ low. deeps_bind P (lower 13 x.1) _ (part_deeps 13 (nesting start) x.1 (lit≤ tt) (omega (arith, g, d))) (λ value r. deeps_ok P _)))

  more_deeps : (level : ℕ) (start ts : List Token) (left : Operand) → 0 < level → level ≤ 14 → Sound (suc below) (level - 1) start left ts
      → Deeps (suc below ≤ nesting start) (more below lower level left ts)
  unfolding more
  more_deeps level start ts left lt top s = let P : Type 0 = suc below ≤ nesting start in
      deeps_if P (level == 12) (choice below lower left ts) _
      (λ is. let e = eqb-true level 12 is in choice_deeps start ts left (record { spells = s.spells; at = omega (arith, s.at, e); low = s.low }))
      (λ _. deeps_if P (level == 13) (assignment below lower left ts) (joins below lower (below + 2) level left ts)
      (λ is. let e = eqb-true level 13 is in assignment_deeps start ts left (record { spells = s.spells; at = omega (arith, s.at, e); low = s.low }))
      (λ _. joins_deeps (below + 2) level start ts left top (omega arith) (record { spells = s.spells; at = omega (arith, s.at); low = s.low })))

  level_deeps : (level : ℕ) (ts : List Token) → level ≤ 14 → Deeps (suc below ≤ nesting ts) (at_level below lower level ts)
  unfolding at_level
  level_deeps zero ts top = postfix_deeps ts
  level_deeps (suc zero) ts top = unary_deeps ts
  level_deeps (suc (suc n)) ts top = let P : Type 0 = suc below ≤ nesting ts in
      deeps_bind P (at_level below lower (suc n) ts) _ (level_deeps (suc n) ts (omega (arith, top))) (λ x r.
      let s = (at_level_sound below lower reads (suc n) ts (omega (arith, top))).of x r in
      more_deeps (suc (suc n)) ts x.1 x.0 (omega arith) top (record { spells = s.spells; at = omega (arith, s.at); low = s.low }))

pub expr_deeps : (limit level : ℕ) (ts : List Token) → level ≤ 14 → Deeps (limit ≤ nesting ts) (read_expr limit level ts)
unfolding read_expr
expr_deeps zero level ts top = record { of = λ e. omega arith }
expr_deeps (suc below) level ts top = level_deeps below (read_expr below) (λ n us h. expr_sound below n us h) (λ n us h. expr_deeps below n us h) level ts top

-- the same, of what a function gives
pub expr_deep : (limit level : ℕ) (ts : List Token) (r : Result (Operand × Bor (List Token)) TokenFault) → level ≤ 14 → ParseGives (λ y. (y.0, y.1.now)) r (read_expr limit level ts)
    → OnDeep r (limit ≤ nesting ts)
expr_deep limit level ts (Ok y) top g = tt
expr_deep limit level ts (Err (Syntax k)) top g = tt
expr_deep limit level ts (Err (Deep k)) top g = (expr_deeps limit level ts top).of g
expr_deep limit level ts (Err Memory) top g = tt
