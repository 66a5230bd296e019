-- Single actions do the same whatever blocks the frames keep, and leave no more events than before.
use Rattle.std.proofs.Common.{◌≡◌, ℕ, zero, suc, ◌+◌, ◌≤◌, Bool, true, false, List, [], ◌∷◌, ◌++◌, length, take, Option, Some, None, Result, Ok, Err, refl, sym, ap, ◌∙◌, arith}
use Rattle.std.specs.Prelude.{◌&&◌, nat_lt, nat_le, slice_index}
use Rattle.nm_base.specs.declared.kind.Kind.{Kind}
use Rattle.nm_base.specs.declared.kind.Kind.TheVariants.{Line, Sent, Printed, Faulted}
use Rattle.nm_base.specs.declared.kind.FaultCause.{FaultCause}
use Rattle.nm_base.specs.declared.kind.FaultCause.TheVariants.{Index, Address, EmptySet, NoLetter, DepthFull, DataFull, OutputFull}
use Rattle.nm_base.specs.Message.{Message}
use Rattle.nm_base.specs.declared.limits.TheConstants.{MAX_DATA_WORDS, MAX_OUTPUT_BYTES}
use Rattle.c_tree.specs.State.{Frame, State, Outcome, Done, Stopped, Run, then_on, ◌>>=◌, ◌>>◌, pure, read, change, happen_by, happen, stop_over, end_with, fault, or_fault, with_line, line_event}
use Rattle.c_tree.specs.Storage.{base_of, stored}
use Rattle.c_tree.specs.Expr.{demand, load, store, element, padded, send, send_words, accept_by, receive, of_letter_by, of_letter, word_of, print, frame_limit, without_frame_by, leave}
use Rattle.stack_code.specs.Machine.{with_blocks, filled, later_blocks, local_place, param_array, new_frame, open_frame}

abbrev pub Blocks : Type 0
Blocks = List (List (List ℕ))

abbrev pub over : {A : Type 0} → Blocks → Outcome A → Outcome A
over blocks (Done a s) = Done a (filled blocks s)
over blocks (Stopped status s) = Stopped status (filled blocks s)

abbrev pub NoMore : {A : Type 0} → ℕ → Outcome A → Type 0
NoMore n (Done a s) = s.left ≤ n
NoMore n (Stopped status s) = Unit {0}

pub record Blind {A : Type 0} (run : Run A) : Type 0 where
  pub same : (blocks : Blocks) (s : State) → run (filled blocks s) ≡ over blocks (run s)
  pub no_more : (s : State) → NoMore s.left (run s)

-- ---- frames

pub base_same : (blocks : Blocks) (fs : List Frame) → base_of (with_blocks blocks fs) ≡ base_of fs
base_same blocks [] = refl
base_same blocks (f ∷ fs) = refl

pub length_same : (blocks : Blocks) (fs : List Frame) → length (with_blocks blocks fs) ≡ length fs
length_same blocks [] = refl
length_same blocks (f ∷ fs) = ap suc (length_same (later_blocks blocks) fs)

pub line_same : (line : ℕ) (blocks : Blocks) (fs : List Frame) → with_line line (with_blocks blocks fs) ≡ with_blocks blocks (with_line line fs)
line_same line blocks [] = refl
line_same line blocks (f ∷ fs) = refl

-- ---- composition

over_then : {A B : Type 0} (blocks : Blocks) (o : Outcome A) (go : A → Run B) → ((a : A) → Blind (go a)) → then_on (over blocks o) go ≡ over blocks (then_on o go)
over_then blocks (Done a s) go k = (k a).same blocks s
over_then blocks (Stopped status s) go k = refl

no_more_up : {A : Type 0} (m n : ℕ) (o : Outcome A) → m ≤ n → NoMore m o → NoMore n o
no_more_up m n (Done a s) le l = omega (arith, l)
no_more_up m n (Stopped status s) le l = tt

no_more_then : {A B : Type 0} (n : ℕ) (o : Outcome A) (go : A → Run B) → NoMore n o → ((a : A) → Blind (go a)) → NoMore n (then_on o go)
no_more_then n (Done a s) go l k = no_more_up s.left n (go a s) l ((k a).no_more s)
no_more_then n (Stopped status s) go l k = tt

pub bind_blind : {A B : Type 0} {run : Run A} {go : A → Run B} → Blind run → ((a : A) → Blind (go a)) → Blind (run >>= go)
bind_blind {run = run} {go = go} m k = record {
  same = λ blocks s. ap (λ o. then_on o go) (m.same blocks s) ∙ over_then blocks (run s) go k;
  no_more = λ s. no_more_then s.left (run s) go (m.no_more s) k;
}

-- ---- single steps

le_self : (n : ℕ) → n ≤ n
le_self n = omega arith

pub pure_blind : {A : Type 0} (a : A) → Blind (pure a)
pure_blind a = record { same = λ blocks s. refl; no_more = λ s. le_self s.left }

pub read_blind : {A : Type 0} (look : State → A) → ((blocks : Blocks) (s : State) → look (filled blocks s) ≡ look s) → Blind (read look)
read_blind look e = record { same = λ blocks s. ap (λ a. Done a (filled blocks s)) (e blocks s); no_more = λ s. le_self s.left }

pub change_blind : (to : State → State) → ((blocks : Blocks) (s : State) → to (filled blocks s) ≡ filled blocks (to s)) → ((s : State) → (to s).left ≡ s.left) → Blind (change to)
change_blind to e left = record { same = λ blocks s. ap (λ t. Done tt t) (e blocks s); no_more = λ s. omega (arith, left s) }

stop_blind : {A : Type 0} → Blind (stop_over {A = A})
stop_blind = record { same = λ blocks s. refl; no_more = λ s. tt }

happen_same : (n : ℕ) (kind : Kind) (blocks : Blocks) (s : State) → happen_by n kind (filled blocks s) ≡ over blocks (happen_by n kind s)
happen_same zero kind blocks s = refl
happen_same (suc n) kind blocks s = refl

happen_less : (n : ℕ) (kind : Kind) (s : State) → NoMore n (happen_by n kind s)
happen_less zero kind s = tt
happen_less (suc n) kind s = omega arith

pub happen_blind : (kind : Kind) → Blind (happen kind)
happen_blind kind = record { same = λ blocks s. happen_same s.left kind blocks s; no_more = λ s. happen_less s.left kind s }

pub end_with_blind : {A : Type 0} (kind : Kind) → Blind (end_with {A = A} kind)
end_with_blind kind = bind_blind (happen_blind kind) (λ _. stop_blind)

pub fault_blind : {A : Type 0} (cause : FaultCause) → Blind (fault {A = A} cause)
fault_blind cause = end_with_blind (Faulted cause)

pub or_fault_blind : {A : Type 0} (r : Result A FaultCause) → Blind (or_fault r)
or_fault_blind (Ok a) = pure_blind a
or_fault_blind (Err cause) = fault_blind cause

pub demand_blind : (t : Bool) (cause : FaultCause) → Blind (demand t cause)
demand_blind true cause = pure_blind tt
demand_blind false cause = fault_blind cause

pub line_blind : (line : ℕ) → Blind (line_event line)
line_blind line =
    bind_blind (happen_blind (Line line)) (λ _.
    change_blind (λ s. record s { frames = with_line line s.frames }) (λ blocks s. ap (λ fs. record s { frames = fs }) (line_same line blocks s.frames)) (λ s. refl))

-- ---- variables

pub local_blind : (i : ℕ) → Blind (local_place i)
local_blind i = read_blind (λ s. base_of s.frames + i) (λ blocks s. ap (λ n. n + i) (base_same blocks s.frames))

pub param_blind : (i : ℕ) → Blind (param_array i)
param_blind i =
    read_blind (λ s. (slice_index s.words (base_of s.frames + i), slice_index s.words (base_of s.frames + i + 1))) (λ blocks s. ap (λ n. (slice_index s.words (n + i), slice_index s.words (n + i + 1))) (base_same blocks s.frames))

pub load_blind : (place : ℕ) → Blind (load place)
load_blind place = read_blind (λ s. slice_index s.words place) (λ blocks s. refl)

pub store_blind : (place v : ℕ) → Blind (store place v)
store_blind place v = bind_blind (change_blind (λ s. stored s place v) (λ blocks s. refl) (λ s. refl)) (λ _. pure_blind v)

pub element_blind : (array : Option (ℕ × ℕ)) (i : ℕ) → Blind (element array i)
element_blind None i = fault_blind Index
element_blind (Some a) i = bind_blind (demand_blind (nat_lt i a.1) Index) (λ _. pure_blind (a.0 + i))

-- ---- messages and output

send_blind : (count dest chan : ℕ) (words : List ℕ) → Blind (send count dest chan words)
send_blind count dest chan words =
    bind_blind (demand_blind (nat_lt dest count && nat_lt chan 32) Address) (λ _.
    bind_blind (read_blind (λ s. s.sent) (λ blocks s. refl)) (λ number.
    bind_blind (happen_blind (Sent number (record { no = dest }) chan (length words) (padded words))) (λ _.
    bind_blind (change_blind (λ s. record s { sent = s.sent + 1 }) (λ blocks s. refl) (λ s. refl)) (λ _. pure_blind 0))))

pub send_words_blind : (count : ℕ) (words : List ℕ) → Blind (send_words count words)
send_words_blind count [] = pure_blind 0
send_words_blind count (dest ∷ []) = pure_blind 0
send_words_blind count (dest ∷ chan ∷ []) = pure_blind 0
send_words_blind count (dest ∷ chan ∷ word ∷ words) = send_blind count dest chan (take 8 (word ∷ words))

accept_same : (set n : ℕ) (inputs : List Message) (blocks : Blocks) (s : State) → accept_by set n inputs (filled blocks s) ≡ over blocks (accept_by set n inputs s)
accept_same set zero inputs blocks s = refl
accept_same set (suc n) [] blocks s = refl
accept_same set (suc n) (m ∷ ms) blocks s = refl

accept_less : (set n : ℕ) (inputs : List Message) (s : State) → NoMore n (accept_by set n inputs s)
accept_less set zero inputs s = tt
accept_less set (suc n) [] s = tt
accept_less set (suc n) (m ∷ ms) s = omega arith

pub receive_blind : (set : ℕ) → Blind (receive set)
receive_blind zero = fault_blind EmptySet
receive_blind (suc set) = record {
  same = λ blocks s. accept_same (suc set) s.left s.inputs blocks s;
  no_more = λ s. accept_less (suc set) s.left s.inputs s;
}

of_letter_by_blind : (go : Message → Run ℕ) (letter : Option Message) → ((m : Message) → Blind (go m)) → Blind (of_letter_by go letter)
of_letter_by_blind go None f = fault_blind NoLetter
of_letter_by_blind go (Some m) f = f m

pub of_letter_blind : (go : Message → Run ℕ) → ((m : Message) → Blind (go m)) → Blind (of_letter go)
of_letter_blind go f = bind_blind (read_blind (λ s. s.letter) (λ blocks s. refl)) (λ letter. of_letter_by_blind go letter f)

pub word_of_blind : (i : ℕ) → Blind (word_of i)
word_of_blind i =
    of_letter_blind (λ m. demand (nat_lt i (length m.words)) NoLetter >> pure (slice_index m.words i)) (λ m. bind_blind (demand_blind (nat_lt i (length m.words)) NoLetter) (λ _. pure_blind (slice_index m.words i)))

pub print_blind : (bytes : List ℕ) → Blind (print bytes)
print_blind bytes =
    bind_blind (read_blind (λ s. length s.output) (λ blocks s. refl)) (λ before.
    bind_blind (demand_blind (nat_le (before + length bytes) MAX_OUTPUT_BYTES) OutputFull) (λ _.
    bind_blind (happen_blind (Printed (length bytes))) (λ _.
    bind_blind (change_blind (λ s. record s { output = s.output ++ bytes }) (λ blocks s. refl) (λ s. refl)) (λ _. pure_blind (length bytes)))))

-- ---- changes of frames

abbrev pub over_to : {A : Type 0} → (Blocks → Blocks) → Blocks → Outcome A → Outcome A
over_to after blocks (Done a s) = Done a (filled (after blocks) s)
over_to after blocks (Stopped status s) = Stopped status (filled blocks s)

-- a run that changes the frames, and whose end has other blocks
pub record Moves {A : Type 0} (after : Blocks → Blocks) (run : Run A) : Type 0 where
  pub same : (blocks : Blocks) (s : State) → run (filled blocks s) ≡ over_to after blocks (run s)
  pub no_more : (s : State) → NoMore s.left (run s)

over_is : {A : Type 0} (blocks : Blocks) (o : Outcome A) → over blocks o ≡ over_to (λ b. b) blocks o
over_is blocks (Done a s) = refl
over_is blocks (Stopped status s) = refl

pub blind_moves : {A : Type 0} {run : Run A} → Blind run → Moves (λ b. b) run
blind_moves {run = run} b = record { same = λ blocks s. b.same blocks s ∙ over_is blocks (run s); no_more = b.no_more }

moves_then : {A B : Type 0} (after : Blocks → Blocks) (blocks : Blocks) (o : Outcome A) (go : A → Run B) → ((a : A) → Moves after (go a)) → then_on (over blocks o) go ≡ over_to after blocks (then_on o go)
moves_then after blocks (Done a s) go k = (k a).same blocks s
moves_then after blocks (Stopped status s) go k = refl

moves_no_more : {A B : Type 0} (after : Blocks → Blocks) (n : ℕ) (o : Outcome A) (go : A → Run B) → NoMore n o → ((a : A) → Moves after (go a)) → NoMore n (then_on o go)
moves_no_more after n (Done a s) go l k = no_more_up s.left n (go a s) l ((k a).no_more s)
moves_no_more after n (Stopped status s) go l k = tt

pub bind_moves : {A B : Type 0} {after : Blocks → Blocks} {run : Run A} {go : A → Run B} → Blind run → ((a : A) → Moves after (go a)) → Moves after (run >>= go)
bind_moves {after = after} {run = run} {go = go} m k = record {
  same = λ blocks s. ap (λ o. then_on o go) (m.same blocks s) ∙ moves_then after blocks (run s) go k;
  no_more = λ s. moves_no_more after s.left (run s) go (m.no_more s) k;
}

new_frame_moves : (number line size : ℕ) (words : List ℕ) → Moves (λ bs. [] ∷ bs) (change (new_frame number line size words))
new_frame_moves number line size words = record { same = λ blocks s. refl; no_more = λ s. le_self s.left }

-- a new frame has no blocks yet
pub open_frame_moves : (number line size : ℕ) (words : List ℕ) → Moves (λ bs. [] ∷ bs) (open_frame number line size words)
open_frame_moves number line size words =
    bind_moves (read_blind (λ s. length s.frames) (λ blocks s. length_same blocks s.frames)) (λ depth.
    bind_moves (demand_blind (nat_lt depth frame_limit) DepthFull) (λ _.
    bind_moves (read_blind (λ s. length s.words) (λ blocks s. refl)) (λ before.
    bind_moves (demand_blind (nat_le (before + size) MAX_DATA_WORDS) DataFull) (λ _.
    new_frame_moves number line size words))))

without_same : (fs : List Frame) (blocks : Blocks) (s : State) → s.frames ≡ fs → without_frame_by (with_blocks blocks fs) (filled blocks s) ≡ filled (later_blocks blocks) (without_frame_by fs s)
without_same [] blocks s e = ap (λ fs. record s { frames = with_blocks blocks fs }) e ∙ sym (ap (λ fs. record s { frames = with_blocks (later_blocks blocks) fs }) e)
without_same (f ∷ fs) blocks s e = refl

without_left : (fs : List Frame) (s : State) → (without_frame_by fs s).left ≤ s.left
without_left [] s = le_self s.left
without_left (f ∷ fs) s = le_self s.left

-- a frame goes, and its blocks
pub leave_moves : (v : ℕ) → Moves later_blocks (leave v)
leave_moves v = record {
  same = λ blocks s. ap (Done v) (without_same s.frames blocks s refl);
  no_more = λ s. without_left s.frames s;
}
