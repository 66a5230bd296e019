-- What statements and local declarations stand for, and the rules that they break.
use Rattle.std.specs.Prelude.{ℕ, ◌+◌, Bool, true, false, not, ◌==◌, nat_lt, nat_le, ◌&&◌, ◌||◌, List, [], ◌∷◌, ◌++◌, length, take, drop, Option, Some, None, is_some, is_none, unwrap_or, option_map}
use Rattle.std.specs.List.{list_any}
use Rattle.nm_base.specs.declared.operator.Ctype.{Ctype}
use Rattle.nm_base.specs.declared.limits.TheConstants.{MAX_DATA_WORDS}
use Rattle.c_tree.specs.declared.program.Slot.{Slot}
use Rattle.c_tree.specs.declared.program.Start.{Start}
use Rattle.c_tree.specs.declared.program.Target.TheVariants.{Slot as ASlot}
use Rattle.c_tree.specs.declared.program.PExpr.{PExpr}
use Rattle.c_tree.specs.declared.program.PLabel.{PLabel}
use Rattle.c_tree.specs.declared.program.PArm.{PArm}
use Rattle.c_tree.specs.declared.program.PStmt.{PStmt}
use Rattle.c_tree.specs.declared.program.PStmt.TheVariants as p
use Rattle.c_tree.specs.Checks.{is_name}
use Rattle.c_tree.specs.declared.tree.Expr.{Expr}
use Rattle.c_tree.specs.declared.tree.Declr.{Declr}
use Rattle.c_tree.specs.declared.tree.Vars.{Vars}
use Rattle.c_tree.specs.declared.tree.Label.{Label}
use Rattle.c_tree.specs.declared.tree.Arm.{Arm}
use Rattle.c_tree.specs.declared.tree.Stmt.{Stmt}
use Rattle.c_tree.specs.declared.tree.Stmt.TheOpen.{Stmt-F, Arm-F}
use Rattle.c_tree.specs.declared.tree.Stmt.TheBlock.{laid-Stmt, laid-Arm}
use Rattle.c_tree.specs.declared.tree.Stmt.TheFolds.{family, steps}
use Rattle.c_checker.specs.declared.constants.Constant.{Constant}
use Rattle.c_checker.specs.declared.fault.CheckFault.{CheckFault}
use Rattle.c_checker.specs.declared.fault.CheckFault.TheVariants.{Twice, NotScalar, NotConstant, BadSize, VoidValue, BreakOutside, ContinueOutside, DoubleCase, DoubleDefault, TooMany}
use Rattle.c_checker.specs.declared.headings.Heading.{Heading}
use Rattle.c_checker.specs.declared.entries.Entry.{Entry}
use Rattle.c_checker.specs.declared.state.Body.{Body}
use Rattle.c_checker.specs.declared.state.Around.{Around}
use Rattle.c_checker.specs.Constants.{constant_of}
use Rattle.c_checker.specs.Scope.{ScopeNames, names_of, variable, is_taken}
use Rattle.c_checker.specs.Found.{Found, Check, fine, ◌>>=◌, ◌>>◌, pure, lift, unless, note}
use Rattle.c_checker.specs.Expressions.{part_of, first_line}

abbrev pub Writes : Type 0 → Type 0
Writes A = Check Body A

abbrev pub get : Writes Body
get = λ s. fine s s

abbrev pub put : Body → Writes (Unit {0})
put t = λ s. fine tt t

-- ---- constants and sizes

abbrev pub bits_of : Option Constant → Option ℕ
bits_of None = None
bits_of (Some c) = c.bits

-- the rules that the parts of an expression break
abbrev pub inner_faults : ScopeNames → Expr → List CheckFault
inner_faults names e = ((part_of names e).value true []).faults

abbrev pub constant_bits : Option ℕ → List CheckFault → Found (Unit {0}) (Option ℕ)
constant_bits None faults = record { value = None; state = tt; faults = faults }
constant_bits (Some n) faults = fine (Some n) tt

-- a constant expression's pattern, if it is one
abbrev pub constant_pattern : ScopeNames → Expr → Found (Unit {0}) (Option ℕ)
constant_pattern names e = constant_bits (bits_of (constant_of e)) (NotConstant (first_line e) ∷ inner_faults names e)

abbrev pub size_faults : Option ℕ → ℕ → List CheckFault
size_faults None line = []
size_faults (Some n) line = unless (nat_le 1 n && nat_le n MAX_DATA_WORDS) (BadSize line)

-- a size, by the line of its array's name
abbrev pub size_of : ScopeNames → Expr → ℕ → Found (Unit {0}) (Option ℕ)
size_of names e line =
    ((λ s. constant_pattern names e) >>= (λ n. note (size_faults n line) >> pure (Some (unwrap_or n 1)))) tt

abbrev pub size : ScopeNames → Option Expr → ℕ → Found (Unit {0}) (Option ℕ)
size names None line = fine None tt
size names (Some e) line = size_of names e line

-- ---- declarators

-- No name that is spelled has another length, and no array has an initialiser.
abbrev pub declr_faults : Declr → List CheckFault
declr_faults d =
    unless (is_name d.name) (TooMany d.line) ++ unless (is_none d.size || is_none d.start) (NotScalar d.line)

-- ---- locals

abbrev pub slot_of : Ctype → ℕ → Declr → Option ℕ → Slot
slot_of of block d n = record { name = d.name; of = of; length = n; array_param = false; block = block }

abbrev pub entry_of : Ctype → Declr → Option ℕ → ℕ → Entry
entry_of of d n slot = record { name = d.name; thing = variable (ASlot slot) of (is_some n) }

-- how many slots there are
abbrev pub slots : Body → ℕ
slots s = s.params + length s.locals

-- of a local in a block whose names begin at this entry
abbrev pub local_faults : ℕ → Declr → Body → List CheckFault
local_faults from d s =
    declr_faults d ++ unless (not (is_taken d.name (drop from s.entries))) (Twice d.line)
    ++ unless (nat_lt (slots s) 256) (TooMany d.line)

abbrev pub new_local : Ctype → ℕ → Declr → Option ℕ → Writes ℕ
new_local of block d n = λ s. fine (slots s) (record s {
  locals = s.locals ++ slot_of of block d n ∷ [];
  entries = s.entries ++ entry_of of d n (slots s) ∷ [];
})

-- ---- labels

abbrev pub has_default : List PLabel → Bool
has_default labels = list_any (λ l. is_none l.value) labels

-- a case with this pattern
abbrev pub has_case : List PLabel → ℕ → Bool
has_case labels n = list_any (λ l. unwrap_or (option_map (λ m. m == n) l.value) false) labels

-- the labels before it, and the pattern of a case
abbrev pub label_faults : List PLabel → Option ℕ → ℕ → List CheckFault
label_faults before None line = unless (not (has_default before)) (DoubleDefault line)
label_faults before (Some n) line = unless (not (has_case before n)) (DoubleCase line)

-- a label after those of the switch before it
abbrev pub new_label : {S : Type 0} → List PLabel → Option ℕ → ℕ → Check S (List PLabel)
new_label before value line = note (label_faults before value line) >> pure (record { value = value; line = line } ∷ [])

abbrev pub case_label : {S : Type 0} → List PLabel → Option ℕ → ℕ → Check S (List PLabel)
case_label before None line = pure []
case_label before (Some n) line = new_label before (Some n) line

-- a label without a constant breaks no other rule
abbrev pub label : {S : Type 0} → ScopeNames → List PLabel → Option Expr → ℕ → Check S (List PLabel)
label names before None line = new_label before None line
label names before (Some e) line = lift (constant_pattern names e) >>= (λ n. case_label before n line)

-- labels of one arm, after those of the switch before them
abbrev pub labels : {S : Type 0} → ScopeNames → List PLabel → List PLabel → List Label → Check S (List PLabel)
labels names before these [] = pure these
labels names before these (l ∷ more) =
    label names (before ++ these) l.value l.line >>= (λ xs. labels names before (these ++ xs) more)

-- ---- statements

abbrev pub outside : Around
outside = record { in_loop = false; breaks = false }

abbrev pub inside_loop : Around
inside_loop = record { in_loop = true; breaks = true }

abbrev pub inside_switch : Around → Around
inside_switch around = record { in_loop = around.in_loop; breaks = true }

pub record StmtPart : Type 0 where
  pub check : Around → Writes PStmt
  -- as a function's body: its block also has the names from this entry on
  pub body : ℕ → Writes PStmt

pub record ArmPart : Type 0 where
  -- after these labels of the switch, by its line
  pub check : List PLabel → ℕ → Around → Writes PArm

abbrev pub sequence : List PStmt → List StmtPart → Around → Writes (List PStmt)
sequence before [] around = pure before
sequence before (x ∷ more) around = x.check around >>= (λ y. sequence (before ++ y ∷ []) more around)

abbrev pub else_part : Option StmtPart → Around → Writes (Option PStmt)
else_part None around = pure None
else_part (Some x) around = x.check around >>= (λ y. pure (Some y))

abbrev pub return_faults : Option Ctype → Option Expr → ℕ → List CheckFault
return_faults result None line = []
return_faults result (Some e) line = unless (is_some result) (VoidValue line)

abbrev pub arms : List ArmPart → List PLabel → List PArm → ℕ → Around → Writes (List PArm)
arms [] before these line around = pure these
arms (x ∷ more) before these line around =
    x.check before line around >>= (λ y. arms more (before ++ y.labels) (these ++ y ∷ []) line around)

module _ (functions : List Heading) where
  -- with the names that are visible now
  abbrev pub visible : Body → ScopeNames
  visible s = names_of s.entries functions

  abbrev pub value : Bool → Expr → Writes PExpr
  value used e = λ s.
      let r = (part_of (visible s) e).value used s.texts in
      record { value = r.value; state = record s { texts = r.state }; faults = r.faults }

  abbrev pub optional : Bool → Option Expr → Writes (Option PExpr)
  optional used None = pure None
  optional used (Some e) = value used e >>= (λ x. pure (Some x))

  -- the slot of a new local
  abbrev pub add_local : Ctype → ℕ → ℕ → Declr → Writes ℕ
  add_local of from block d = do
    s ← get
    note (local_faults from d s)
    n ← lift (size (visible s) d.size d.line)
    new_local of block d n

  -- A local of this type, in a block whose names begin at this entry. It is visible in its own initialiser.
  abbrev pub declare : Ctype → ℕ → ℕ → Declr → Writes Start
  declare of from block d = do
    slot ← add_local of from block d
    x ← optional true d.start
    pure (record { slot = slot; value = x; line = d.line })

  -- after those before them
  abbrev pub declares : Ctype → ℕ → ℕ → List Start → List Declr → Writes (List Start)
  declares of from block before [] = pure before
  declares of from block before (d ∷ more) =
      declare of from block d >>= (λ x. declares of from block (before ++ x ∷ []) more)

  abbrev pub locals : ℕ → ℕ → List Start → List Vars → Writes (List Start)
  locals from block before [] = pure before
  locals from block before (v ∷ more) = declares v.of from block before v.list >>= (λ xs. locals from block xs more)

  -- its number, and then its locals
  abbrev pub begin_block : ℕ → List Vars → Writes (List Start)
  begin_block from vars = do
    s ← get
    put (record s { blocks = s.blocks + 1 })
    locals from s.blocks [] vars

  -- The names of a block are visible to its end.
  abbrev pub end_block : ℕ → Writes (Unit {0})
  end_block visible = get >>= (λ s. put (record s { entries = take visible s.entries }))

  abbrev pub block_from : ℕ → List Vars → List StmtPart → ℕ → Around → Writes PStmt
  block_from from vars list line around = do
    s ← get
    xs ← begin_block from vars
    ys ← sequence [] list around
    end_block (length s.entries)
    pure (p.Block xs ys line)

  abbrev pub block : List Vars → List StmtPart → ℕ → Around → Writes PStmt
  block vars list line around = get >>= (λ s. block_from (length s.entries) vars list line around)

  abbrev pub run : Expr → ℕ → Writes PStmt
  run e line = value false e >>= (λ x. pure (p.Run x line))

  abbrev pub if_stmt : Expr → StmtPart → Option StmtPart → ℕ → Around → Writes PStmt
  if_stmt test first second line around = do
    x ← value true test
    y ← first.check around
    z ← else_part second around
    pure (p.If x y z line)

  abbrev pub while_stmt : Expr → StmtPart → ℕ → Writes PStmt
  while_stmt test body line = do
    x ← value true test
    y ← body.check inside_loop
    pure (p.While x y line)

  abbrev pub do_stmt : StmtPart → Expr → ℕ → Writes PStmt
  do_stmt body test line = do
    y ← body.check inside_loop
    x ← value true test
    pure (p.Do y x line)

  -- the first, the test and the third part of a `for`
  abbrev pub controls : Option Expr → Option Expr → Option Expr → Writes (Option PExpr × Option PExpr × Option PExpr)
  controls first test third = do
    x ← optional false first
    y ← optional true test
    z ← optional false third
    pure (x, y, z)

  abbrev pub for_stmt : Option Expr → Option Expr → Option Expr → StmtPart → ℕ → Writes PStmt
  for_stmt first test third body line = do
    c ← controls first test third
    b ← body.check inside_loop
    pure (p.For c.0 c.1 c.2 b line)

  abbrev pub break_stmt : ℕ → Around → Writes PStmt
  break_stmt line around = note (unless around.breaks (BreakOutside line)) >> pure (p.Break line)

  abbrev pub continue_stmt : ℕ → Around → Writes PStmt
  continue_stmt line around = note (unless around.in_loop (ContinueOutside line)) >> pure (p.Continue line)

  abbrev pub return_stmt : Option Ctype → Option Expr → ℕ → Writes PStmt
  return_stmt result e line = do
    note (return_faults result e line)
    x ← optional true e
    pure (p.Return x line)

  abbrev pub switch_stmt : Expr → List ArmPart → ℕ → Around → Writes PStmt
  switch_stmt on list line around = do
    x ← value true on
    xs ← arms list [] [] line (inside_switch around)
    pure (p.Switch x xs line)

  -- Every arm that is spelled has a label.
  abbrev pub arm : List Label → List StmtPart → List PLabel → ℕ → Around → Writes PArm
  arm these list before line around = do
    s ← get
    note (unless (nat_lt 0 (length these)) (NotConstant line))
    ls ← labels (visible s) before [] these
    xs ← sequence [] list around
    pure (record { labels = ls; list = xs })

  -- A statement as a function's body. One that isn't a block, which none that is spelled is, stands for a block of it
  -- alone.
  abbrev pub alone : (Around → Writes PStmt) → ℕ → ℕ → Writes PStmt
  alone check line from = block_from from [] (record { check = check; body = λ _. check outside } ∷ []) line outside

  abbrev pub plain : ℕ → (Around → Writes PStmt) → StmtPart
  plain line check = record { check = check; body = alone check line }

module _ (functions : List Heading) (result : Option Ctype) where
  abbrev pub stmt_step : Stmt-F StmtPart ArmPart → StmtPart
  stmt_step (Stmt-F.Block vars list line) = record {
    check = block functions vars list line;
    body = λ from. block_from functions from vars list line outside;
  }
  stmt_step (Stmt-F.Empty line) = plain functions line (λ around. pure (p.Empty line))
  stmt_step (Stmt-F.Run e line) = plain functions line (λ around. run functions e line)
  stmt_step (Stmt-F.If test first second line) = plain functions line (if_stmt functions test first second line)
  stmt_step (Stmt-F.While test body line) = plain functions line (λ around. while_stmt functions test body line)
  stmt_step (Stmt-F.Do body test line) = plain functions line (λ around. do_stmt functions body test line)
  stmt_step (Stmt-F.For first test third body line) =
      plain functions line (λ around. for_stmt functions first test third body line)
  stmt_step (Stmt-F.Break line) = plain functions line (break_stmt functions line)
  stmt_step (Stmt-F.Continue line) = plain functions line (continue_stmt functions line)
  stmt_step (Stmt-F.Return e line) = plain functions line (λ around. return_stmt functions result e line)
  stmt_step (Stmt-F.Switch on list line) = plain functions line (switch_stmt functions on list line)

  abbrev pub arm_step : Arm-F StmtPart ArmPart → ArmPart
  arm_step x = record { check = arm functions x.labels x.list }

  unfoldable pub stmt_of : Stmt → StmtPart
  stmt_of x = laid-Stmt (family StmtPart ArmPart) (steps StmtPart ArmPart stmt_step arm_step) x

  unfoldable pub arm_of : Arm → ArmPart
  arm_of x = laid-Arm (family StmtPart ArmPart) (steps StmtPart ArmPart stmt_step arm_step) x
