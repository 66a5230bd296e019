-- The output of a process grows: more events and more letters only add to it.
use Rattle.std.proofs.Common.{◌≡◌, ℕ, zero, suc, ◌+◌, Bool, true, false, List, [], ◌∷◌, ◌++◌, length, take, Option, Some, None, Result, Ok, Err, refl, sym, ap, ◌∙◌, subst, arith, append_assoc, append-nil}
use Rattle.std.specs.Prelude.{◌&&◌, nat_lt, nat_le, slice_get, slice_index}
use Rattle.nm_base.specs.declared.kind.Kind.{Kind}
use Rattle.nm_base.specs.declared.kind.Kind.TheVariants.{Line, Sent, Printed, Ended, Faulted}
use Rattle.nm_base.specs.declared.kind.FaultCause.{FaultCause}
use Rattle.nm_base.specs.declared.kind.FaultCause.TheVariants.{Index, Address, EmptySet, NoLetter, DepthFull, DataFull, OutputFull}
use Rattle.nm_base.specs.Message.{Message}
use Rattle.nm_base.specs.Word.{unary, binary, as_int}
use Rattle.nm_base.specs.declared.limits.TheConstants.{MAX_DATA_WORDS, MAX_OUTPUT_BYTES}
use Rattle.c_tree.specs.State.{Frame, State, Status, Outcome, Done, Stopped, Run, then_on, ◌>>=◌, ◌>>◌, pure, read, change, happen_by, happen, stop_over, end_with, fault, or_fault, with_line, line_event}
use Rattle.c_tree.specs.Storage.{base_of, stored, zeroed}
use Rattle.c_tree.specs.Print.{printed}
use Rattle.c_tree.specs.Expr.{is_true, choice, demand, load, store, element, padded, send, send_words, accept_by, receive, of_letter_by, of_letter, word_of, print, frame_limit, without_frame_by, leave}
use Rattle.c_tree.specs.Play.{PlaySetting, played_of, play}
use Rattle.c_tree.proofs.Longer.{Extends, Follows, state_of, bind_follows, read_follows, change_follows, demand_follows}
use Rattle.stack_code.specs.declared.instr.Instr.{Instr}
use Rattle.stack_code.specs.declared.instr.Instr.TheVariants as instr
use Rattle.stack_code.specs.Code.{Placed, FunctionCode, Code, steps_of}
use Rattle.stack_code.specs.Laws.{more}
use Rattle.stack_code.specs.Machine.{Caller, Control, top, below, popped, next, push, local_place, param_array, new_frame, open_frame, called, returned, conversions, text_at, act, act_if_any, shown, step, exec, started_by, first_data}
use Rattle.stack_code.proofs.Law.{stopped_stays, runs_on}
use Rattle.c_compile.specs.Correct.{CodeStandsFor}
use Rattle.report.specs.Follows.{IsFront}

-- the output stays as it is
abbrev Keeps : {A : Type 0} → List ℕ → Outcome A → Type 0
Keeps old (Done a s) = s.output ≡ old
Keeps old (Stopped status s) = s.output ≡ old

-- a stop leaves the output, and an end may add to it
abbrev Adds : {A : Type 0} → List ℕ → Outcome A → Type 0
Adds old (Done a s) = IsFront old s.output
Adds old (Stopped status s) = s.output ≡ old

record Quiet {A : Type 0} (run : Run A) : Type 0 where
  keeps : (s : State) → Keeps s.output (run s)

record Prints {A : Type 0} (run : Run A) : Type 0 where
  adds : (s : State) → Adds s.output (run s)

-- ---- fronts

front_same : {A : Type 0} (xs ys : List A) → ys ≡ xs → IsFront xs ys
front_same xs ys e = ([], append-nil xs ∙ sym e)

front_trans : {A : Type 0} (xs ys zs : List A) → IsFront xs ys → IsFront ys zs → IsFront xs zs
front_trans xs ys zs f g = (f.0 ++ g.0, sym (append_assoc xs f.0 g.0) ∙ ap (λ l. l ++ g.0) f.1 ∙ g.1)

-- ---- composition

keeps_then : {A B : Type 0} (old : List ℕ) (o : Outcome A) (go : A → Run B) → Keeps old o → ((a : A) → Quiet (go a)) → Keeps old (then_on o go)
keeps_then old (Done a s) go e k = subst (λ l. Keeps l (go a s)) e ((k a).keeps s)
keeps_then old (Stopped status s) go e k = e

then_quiet : {A B : Type 0} {run : Run A} {go : A → Run B} → Quiet run → ((a : A) → Quiet (go a)) → Quiet (run >>= go)
then_quiet {run = run} {go = go} q k = record { keeps = λ s. keeps_then s.output (run s) go (q.keeps s) k }

adds_then : {A B : Type 0} (old : List ℕ) (o : Outcome A) (go : A → Run B) → Keeps old o → ((a : A) → Prints (go a)) → Adds old (then_on o go)
adds_then old (Done a s) go e k = subst (λ l. Adds l (go a s)) e ((k a).adds s)
adds_then old (Stopped status s) go e k = e

then_prints : {A B : Type 0} {run : Run A} {go : A → Run B} → Quiet run → ((a : A) → Prints (go a)) → Prints (run >>= go)
then_prints {run = run} {go = go} q k = record { adds = λ s. adds_then s.output (run s) go (q.keeps s) k }

kept_adds : {A : Type 0} (old : List ℕ) (o : Outcome A) → Keeps old o → Adds old o
kept_adds old (Done a s) e = front_same old s.output e
kept_adds old (Stopped status s) e = e

quiet_prints : {A : Type 0} {run : Run A} → Quiet run → Prints run
quiet_prints {run = run} q = record { adds = λ s. kept_adds s.output (run s) (q.keeps s) }

-- what comes behind makes a value alone
adds_value : {A B : Type 0} (old : List ℕ) (o : Outcome A) (value : A → B) → Adds old o → Adds old (then_on o (λ a. pure (value a)))
adds_value old (Done a s) value f = f
adds_value old (Stopped status s) value e = e

value_prints : {A B : Type 0} {run : Run A} (value : A → B) → Prints run → Prints (run >>= (λ a. pure (value a)))
value_prints {run = run} value p = record { adds = λ s. adds_value s.output (run s) value (p.adds s) }

-- ---- single steps

pure_quiet : {A : Type 0} (a : A) → Quiet (pure a)
pure_quiet a = record { keeps = λ s. refl }

read_quiet : {A : Type 0} (look : State → A) → Quiet (read look)
read_quiet look = record { keeps = λ s. refl }

change_quiet : (to : State → State) → ((s : State) → (to s).output ≡ s.output) → Quiet (change to)
change_quiet to e = record { keeps = λ s. e s }

stop_quiet : {A : Type 0} → Quiet (stop_over {A = A})
stop_quiet = record { keeps = λ s. refl }

happen_keeps : (n : ℕ) (kind : Kind) (s : State) → Keeps s.output (happen_by n kind s)
happen_keeps zero kind s = refl
happen_keeps (suc n) kind s = refl

happen_quiet : (kind : Kind) → Quiet (happen kind)
happen_quiet kind = record { keeps = λ s. happen_keeps s.left kind s }

end_with_quiet : {A : Type 0} (kind : Kind) → Quiet (end_with {A = A} kind)
end_with_quiet kind = then_quiet (happen_quiet kind) (λ _. stop_quiet)

fault_quiet : {A : Type 0} (cause : FaultCause) → Quiet (fault {A = A} cause)
fault_quiet cause = end_with_quiet (Faulted cause)

or_fault_quiet : {A : Type 0} (r : Result A FaultCause) → Quiet (or_fault r)
or_fault_quiet (Ok a) = pure_quiet a
or_fault_quiet (Err cause) = fault_quiet cause

choice_quiet : {A : Type 0} {a b : Run A} (t : Bool) → Quiet a → Quiet b → Quiet (choice t a b)
choice_quiet true f g = f
choice_quiet false f g = g

demand_quiet : (t : Bool) (cause : FaultCause) → Quiet (demand t cause)
demand_quiet true cause = pure_quiet tt
demand_quiet false cause = fault_quiet cause

line_quiet : (line : ℕ) → Quiet (line_event line)
line_quiet line = then_quiet (happen_quiet (Line line)) (λ _. change_quiet (λ s. record s { frames = with_line line s.frames }) (λ s. refl))

local_quiet : (i : ℕ) → Quiet (local_place i)
local_quiet i = read_quiet (λ s. base_of s.frames + i)

param_quiet : (i : ℕ) → Quiet (param_array i)
param_quiet i = read_quiet (λ s. (slice_index s.words (base_of s.frames + i), slice_index s.words (base_of s.frames + i + 1)))

load_quiet : (place : ℕ) → Quiet (load place)
load_quiet place = read_quiet (λ s. slice_index s.words place)

store_quiet : (place v : ℕ) → Quiet (store place v)
store_quiet place v = then_quiet (change_quiet (λ s. stored s place v) (λ s. refl)) (λ _. pure_quiet v)

element_quiet : (array : Option (ℕ × ℕ)) (i : ℕ) → Quiet (element array i)
element_quiet None i = fault_quiet Index
element_quiet (Some a) i = then_quiet (demand_quiet (nat_lt i a.1) Index) (λ _. pure_quiet (a.0 + i))

-- ---- messages and output

send_quiet : (count dest chan : ℕ) (words : List ℕ) → Quiet (send count dest chan words)
send_quiet count dest chan words =
    then_quiet (demand_quiet (nat_lt dest count && nat_lt chan 32) Address) (λ _.
    then_quiet (read_quiet (λ s. s.sent)) (λ number.
    then_quiet (happen_quiet (Sent number (record { no = dest }) chan (length words) (padded words))) (λ _.
    then_quiet (change_quiet (λ s. record s { sent = s.sent + 1 }) (λ s. refl)) (λ _. pure_quiet 0))))

send_words_quiet : (count : ℕ) (words : List ℕ) → Quiet (send_words count words)
send_words_quiet count [] = pure_quiet 0
send_words_quiet count (dest ∷ []) = pure_quiet 0
send_words_quiet count (dest ∷ chan ∷ []) = pure_quiet 0
send_words_quiet count (dest ∷ chan ∷ word ∷ words) = send_quiet count dest chan (take 8 (word ∷ words))

accept_keeps : (set n : ℕ) (inputs : List Message) (s : State) → Keeps s.output (accept_by set n inputs s)
accept_keeps set zero inputs s = refl
accept_keeps set (suc n) [] s = refl
accept_keeps set (suc n) (m ∷ ms) s = refl

receive_quiet : (set : ℕ) → Quiet (receive set)
receive_quiet zero = fault_quiet EmptySet
receive_quiet (suc set) = record { keeps = λ s. accept_keeps (suc set) s.left s.inputs s }

of_letter_by_quiet : (go : Message → Run ℕ) (letter : Option Message) → ((m : Message) → Quiet (go m)) → Quiet (of_letter_by go letter)
of_letter_by_quiet go None f = fault_quiet NoLetter
of_letter_by_quiet go (Some m) f = f m

of_letter_quiet : (go : Message → Run ℕ) → ((m : Message) → Quiet (go m)) → Quiet (of_letter go)
of_letter_quiet go f = then_quiet (read_quiet (λ s. s.letter)) (λ letter. of_letter_by_quiet go letter f)

letter_quiet : (go : Message → ℕ) → Quiet (of_letter (λ m. pure (go m)))
letter_quiet go = of_letter_quiet (λ m. pure (go m)) (λ m. pure_quiet (go m))

word_of_quiet : (i : ℕ) → Quiet (word_of i)
word_of_quiet i =
    of_letter_quiet (λ m. demand (nat_lt i (length m.words)) NoLetter >> pure (slice_index m.words i)) (λ m.
    then_quiet (demand_quiet (nat_lt i (length m.words)) NoLetter) (λ _. pure_quiet (slice_index m.words i)))

-- the bytes come behind the output
put_prints : (bytes : List ℕ) → Prints (change (λ s. record s { output = s.output ++ bytes }) >>= (λ _. pure (length bytes)))
put_prints bytes = record { adds = λ s. (bytes, refl) }

print_prints : (bytes : List ℕ) → Prints (print bytes)
print_prints bytes =
    then_prints (read_quiet (λ s. length s.output)) (λ before.
    then_prints (demand_quiet (nat_le (before + length bytes) MAX_OUTPUT_BYTES) OutputFull) (λ _.
    then_prints (happen_quiet (Printed (length bytes))) (λ _. put_prints bytes)))

-- ---- calls

open_frame_quiet : (number line size : ℕ) (words : List ℕ) → Quiet (open_frame number line size words)
open_frame_quiet number line size words =
    then_quiet (read_quiet (λ s. length s.frames)) (λ depth.
    then_quiet (demand_quiet (nat_lt depth frame_limit) DepthFull) (λ _.
    then_quiet (read_quiet (λ s. length s.words)) (λ before.
    then_quiet (demand_quiet (nat_le (before + size) MAX_DATA_WORDS) DataFull) (λ _. change_quiet (new_frame number line size words) (λ s. refl)))))

called_quiet : (number : ℕ) (f : Option FunctionCode) (c : Control) → Quiet (called number f c)
called_quiet number None c = pure_quiet c
called_quiet number (Some f) c = then_quiet (open_frame_quiet number f.line f.frame_words (popped f.param_words c.stack []).0) (λ _. pure_quiet _)

without_output : (fs : List Frame) (s : State) → (without_frame_by fs s).output ≡ s.output
without_output [] s = refl
without_output (f ∷ fs) s = refl

leave_quiet : (v : ℕ) → Quiet (leave v)
leave_quiet v = then_quiet (change_quiet (λ s. without_frame_by s.frames s) (λ s. without_output s.frames s)) (λ _. pure_quiet v)

returned_quiet : (callers : List Caller) (v : ℕ) → Quiet (returned callers v)
returned_quiet [] v = end_with_quiet (Ended (as_int v))
returned_quiet (k ∷ ks) v = then_quiet (leave_quiet v) (λ v. pure_quiet (record { function = k.function; pc = k.pc + 1; stack = v ∷ k.stack; callers = ks }))

-- ---- instructions

push_quiet : (c : Control) (stack : List ℕ) (run : Run ℕ) → Quiet run → Prints (push c stack run)
push_quiet c stack run q = quiet_prints (then_quiet q (λ v. pure_quiet (next c (v ∷ stack))))

module _ (code : Code) (count me : ℕ) where
  act_prints : (i : Instr) (c : Control) → Prints (act code count me i c)
  act_prints (instr.Line line) c = quiet_prints (then_quiet (line_quiet line) (λ _. pure_quiet _))
  act_prints (instr.Push bits) c = push_quiet c _ _ (pure_quiet bits)
  act_prints instr.Drop c = quiet_prints (pure_quiet _)
  act_prints instr.Dup c = quiet_prints (pure_quiet _)
  act_prints instr.Swap c = quiet_prints (pure_quiet _)
  act_prints (instr.GlobalPlace slot) c = push_quiet c _ _ (pure_quiet slot)
  act_prints (instr.LocalPlace slot) c = push_quiet c _ _ (local_quiet slot)
  act_prints (instr.GlobalAt base len) c = push_quiet c _ _ (element_quiet (Some (base, len)) (top c.stack))
  act_prints (instr.LocalAt base len) c = push_quiet c _ _ (then_quiet (local_quiet base) (λ place. element_quiet (Some (place, len)) (top c.stack)))
  act_prints (instr.ParamAt slot) c = push_quiet c _ _ (then_quiet (param_quiet slot) (λ array. element_quiet (Some array) (top c.stack)))
  act_prints (instr.GlobalArray base len) c = quiet_prints (pure_quiet _)
  act_prints (instr.LocalArray base len) c = quiet_prints (then_quiet (local_quiet base) (λ place. pure_quiet (next c (len ∷ place ∷ c.stack))))
  act_prints (instr.ParamArray slot) c = quiet_prints (then_quiet (param_quiet slot) (λ array. pure_quiet (next c (array.1 ∷ array.0 ∷ c.stack))))
  act_prints instr.Load c = push_quiet c _ _ (load_quiet (top c.stack))
  act_prints instr.Store c = push_quiet c _ _ (store_quiet (top (below c.stack)) (top c.stack))
  act_prints (instr.Unary op of) c = push_quiet c _ _ (or_fault_quiet (unary op of (top c.stack)))
  act_prints (instr.Binary op of) c = push_quiet c _ _ (or_fault_quiet (binary op of (top (below c.stack)) (top c.stack)))
  act_prints (instr.Jump target) c = quiet_prints (pure_quiet _)
  act_prints (instr.JumpZero target) c = quiet_prints (choice_quiet (is_true (top c.stack)) (pure_quiet _) (pure_quiet _))
  act_prints (instr.Zero base len) c =
      quiet_prints (then_quiet (change_quiet (λ s. record s { words = zeroed len (base_of s.frames + base) s.words }) (λ s. refl)) (λ _. pure_quiet (next c c.stack)))
  act_prints (instr.Call function) c = quiet_prints (called_quiet function (slice_get code.functions function) c)
  act_prints instr.Return c = quiet_prints (returned_quiet c.callers (top c.stack))
  act_prints (instr.Send words) c = push_quiet c _ _ (send_words_quiet count (popped (words + 2) c.stack []).0)
  act_prints instr.Receive c = push_quiet c _ _ (receive_quiet (top c.stack))
  act_prints instr.Word c = push_quiet c _ _ (word_of_quiet (top c.stack))
  act_prints instr.Words c = push_quiet c _ _ (letter_quiet (λ m. length m.words))
  act_prints instr.From c = push_quiet c _ _ (letter_quiet (λ m. m.id.sender.no))
  act_prints instr.Via c = push_quiet c _ _ (letter_quiet (λ m. m.chan))
  act_prints instr.SelfNo c = push_quiet c _ _ (pure_quiet me)
  act_prints instr.Count c = push_quiet c _ _ (pure_quiet count)
  act_prints (instr.Print text) c =
      value_prints (λ v. next c (v ∷ (popped (conversions (text_at code count me text)) c.stack []).1))
      (print_prints (printed (text_at code count me text) (popped (conversions (text_at code count me text)) c.stack []).0))

  act_if_any_prints : (x : Option Placed) (c : Control) → Prints (act_if_any code count me x c)
  act_if_any_prints None c = quiet_prints (pure_quiet c)
  act_if_any_prints (Some x) c = act_prints x.instr c

  shown_adds : (c : Control) (old : List ℕ) (o : Outcome Control) → Adds old o → Adds old (shown code count me c o)
  shown_adds c old (Done d s) f = f
  shown_adds c old (Stopped status s) e = e

  step_adds : (c : Control) (s : State) → Adds s.output (step code count me c s)
  step_adds c s =
      let x = slice_get (steps_of code c.function) c.pc in
      shown_adds c s.output (act_if_any code count me x c s) ((act_if_any_prints x c).adds s)

  -- ---- runs

  stop_keeps : (old : List ℕ) (o : Outcome Control) (status : Status) (s : State) → Adds old o → o ≡ Stopped status s → s.output ≡ old
  stop_keeps old (Done d u) status s f e = cc
  stop_keeps old (Stopped status' s') status s f e = let same : s' ≡ s = cc in ap (λ t. t.output) (sym same) ∙ f

  exec_front : (n : ℕ) (c : Control) (t : State) → IsFront t.output (state_of (exec code count me n c t)).output
  exec_front zero c t = front_same t.output t.output refl
  exec_front (suc n) c t = by_step (λ d u. exec_front n d u) (step code count me c t) (step_adds c t)
    where
      by_step : ((d : Control) (u : State) → IsFront u.output (state_of (exec code count me n d u)).output) → (o : Outcome Control) → Adds t.output o
          → IsFront t.output (state_of (then_on o (exec code count me n))).output
      by_step k (Done d u) f = front_trans t.output u.output (state_of (exec code count me n d u)).output f (k d u)
      by_step k (Stopped status s) e = front_same t.output s.output e

  module _ (extra : ℕ) (letters : List Message) where
    -- a run that stopped and a longer one, from the same place
    grown_from : (c : Control) (t : State) (n n' : ℕ) (status status' : Status) (s s' : State) → exec code count me n c t ≡ Stopped status s
        → exec code count me n' c (more extra letters t) ≡ Stopped status' s' → IsFront s.output s'.output
    grown_from c t n n' status status' s s' e e' =
        let r = runs_on code count me extra letters n c t status s e in
        let stays = stopped_stays code count me n' r.steps c (more extra letters t) status' s' e' in
        let same : r.steps + n' ≡ n' + r.steps = omega arith in
        let ends = sym (r.goes_on n') ∙ ap (λ i. exec code count me i c (more extra letters t)) same ∙ stays in
        let kept = stop_keeps r.before.output (step code count me r.place r.before) status s (step_adds r.place r.before) r.stops in
        let front = exec_front n' r.place (more extra letters r.before) in
        (front.0, ap (λ l. l ++ front.0) kept ∙ front.1 ∙ ap (λ o. (state_of o).output) ends)

    open_frame_follows : (b b' number line size : ℕ) (words : List ℕ) → Follows extra letters b b' (open_frame number line size words) (open_frame number line size words)
    open_frame_follows b b' number line size words =
        bind_follows extra letters (read_follows extra letters b b' (λ s. length s.frames) (λ s. refl)) (λ depth.
        bind_follows extra letters (demand_follows extra letters b b' (nat_lt depth frame_limit) DepthFull) (λ _.
        bind_follows extra letters (read_follows extra letters b b' (λ s. length s.words) (λ s. refl)) (λ before.
        bind_follows extra letters (demand_follows extra letters b b' (nat_le (before + size) MAX_DATA_WORDS) DataFull) (λ _.
        change_follows extra letters b b' (new_frame number line size words) (λ s. refl) (λ s. refl) (λ s. refl)))))

    abbrev main_place : Control
    main_place = record { function = code.main; pc = 0; stack = []; callers = [] }

    abbrev begun : Outcome (Unit {0}) → Outcome Control
    begun o = then_on o (λ _ t. Done main_place t)

    -- the same once main's frame was opened, or was to be
    grown_opened : (o o' : Outcome (Unit {0})) → Extends extra letters o o' → Keeps [] o → (n n' : ℕ) (status status' : Status) (s s' : State)
        → then_on (begun o) (exec code count me n) ≡ Stopped status s → then_on (begun o') (exec code count me n') ≡ Stopped status' s' → IsFront s.output s'.output
    grown_opened (Done u t) o' e q n n' status status' s s' f f' =
        grown_from main_place t n n' status status' s s' f (sym (ap (λ x. then_on (begun x) (exec code count me n')) e) ∙ f')
    grown_opened (Stopped status'' s'') o' e q n n' status status' s s' f f' =
        let same : s'' ≡ s = cc in
        (s'.output, ap (λ l. l ++ s'.output) (ap (λ t. t.output) (sym same) ∙ q))

    grown_started : (m : Option FunctionCode) (inputs : List Message) (k n n' : ℕ) (status status' : Status) (s s' : State)
        → then_on (started_by code count me m (first_data code count me inputs k)) (exec code count me n) ≡ Stopped status s
        → then_on (started_by code count me m (first_data code count me (inputs ++ letters) (k + extra))) (exec code count me n') ≡ Stopped status' s'
        → IsFront s.output s'.output
    grown_started None inputs k n n' status status' s s' f f' = grown_from main_place (first_data code count me inputs k) n n' status status' s s' f f'
    grown_started (Some m) inputs k n n' status status' s s' f f' =
        let t = first_data code count me inputs k in
        let opened = open_frame code.main m.line m.frame_words [] in
        let grows = (open_frame_follows (suc k) (suc (k + extra)) code.main m.line m.frame_words []).follows t (omega arith) (omega arith) in
        grown_opened (opened t) (opened (more extra letters t)) grows ((open_frame_quiet code.main m.line m.frame_words []).keeps t) n n' status status' s s' f f'

-- ---- processes

-- what a process printed is a front of what it printed after more events and letters
pub output_grows : (set : PlaySetting) (code : Code) → CodeStandsFor set code → (inputs later : List Message) (k extra : ℕ)
    → IsFront (play set inputs k).state.output (play set (inputs ++ later) (k + extra)).state.output
output_grows set code stands inputs later k extra =
    let a = stands inputs k in
    let b = stands (inputs ++ later) (k + extra) in
    let front =
    grown_started code set.count set.me extra later (slice_get code.functions code.main) inputs k a.steps b.steps a.status b.status a.state b.state a.machine b.machine in
    (front.0, ap (λ o. (played_of o).state.output ++ front.0) a.process ∙ front.1 ∙ sym (ap (λ o. (played_of o).state.output) b.process))
