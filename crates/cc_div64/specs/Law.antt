-- What a division in pieces has come to between them, and what each piece does.
use Rattle.std.specs.Prelude.{◌≡◌, ◌<◌, ◌≤◌, ℕ, ◌-◌, ◌*◌, ◌/◌, ◌%◌, [], ℤ, pos, ◌+ℤ◌, Some, Bool, false, if◌then◌else◌}
use Rattle.std.specs.Prelude.{codes}
use Rattle.std.specs.Int.{w32, w64, cast_signed}
use Rattle.mc_nbt.specs.declared.value.Value.TheVariants as values
use Rattle.mc_cmd.specs.Command.{exactly}
use Rattle.mc_cmd.specs.World.{wrapped, some_is_in}
use Rattle.wm_ast.specs.declared.answer.Answer.{Answer}
use Rattle.wm_ast.specs.declared.answer.Answer.TheVariants as answers
use Rattle.wm_ast.specs.declared.operator.BinaryOp.{BinaryOp}
use Rattle.wm_ast.specs.declared.operator.BinaryOp.TheVariants.{DivS, DivU, RemS, RemU}
use Rattle.cc_line.specs.State.{State}
use Rattle.cc_line.specs.Step.{flow}
use Rattle.cc_line.specs.Core.{Replaced}
use Rattle.cc_line.specs.Item.{Items, run_items, ItemsReady}
use Rattle.cc_line.specs.Routine.{trap_number, Traps}
use Rattle.cc_div64.specs.Turn.{Turn, After}
use Rattle.cc_div64.specs.Division.{least, score_left, begin_items}

-- the words of a number below 2^64, as scores
abbrev pub low_word : ℕ → ℤ
low_word n = cast_signed w32 (n % 4294967296)

abbrev pub high_word : ℕ → ℤ
high_word n = cast_signed w32 (n / 4294967296)

-- the number whose order with sign is that of a word without
abbrev pub for_order : ℤ → ℤ
for_order z = wrapped (z +ℤ least)

-- the scores of a division by v between two turns
pub record BetweenTurns (v : ℕ) (t : Turn) (s : State) : Type 0 where
  pub dividend_low : s.scores (codes "#d") ≡ Some (low_word t.dividend)
  pub dividend_high : s.scores (codes "#e") ≡ Some (high_word t.dividend)
  pub remainder_low : s.scores (codes "#p") ≡ Some (low_word t.remainder)
  pub remainder_high : s.scores (codes "#r") ≡ Some (high_word t.remainder)
  pub divisor_low : s.scores (codes "#m") ≡ Some (low_word v)
  pub divisor_high : s.scores (codes "#n") ≡ Some (high_word v)
  pub order_low : s.scores (codes "#u") ≡ Some (for_order (low_word v))
  pub order_high : s.scores (codes "#v") ≡ Some (for_order (high_word v))
  pub least : s.scores (codes "#k") ≡ Some least

-- a number below 2^64 negated, modulo 2^64
abbrev pub minus : ℕ → ℕ
minus i = (18446744073709551616 - i) % 18446744073709551616

abbrev pub signed_by : Bool → ℕ → ℕ
signed_by b i = if b then minus i else i

-- whether the result is to be negated, where operands have signs
abbrev pub Signed : BinaryOp → Bool → State → Type 0
Signed DivS b s = some_is_in (exactly (pos 1)) (s.scores (codes "#s")) ≡ b
Signed RemS b s = some_is_in (exactly (pos 1)) (s.scores (codes "#s")) ≡ b
Signed _ b s = b ≡ false

-- the quotient, or the remainder
abbrev pub result_of : BinaryOp → ℕ → ℕ → ℕ
result_of DivS n v = n / v
result_of DivU n v = n / v
result_of RemS n v = n % v
result_of RemU n v = n % v
result_of _ n v = 0

-- The turns are to be run so many times more before the division is done whose answer is z. Only scratch scores of
-- routines tell it.
pub record Dividing (op : BinaryOp) (z : ℤ) (left : ℕ) (s : State) : Type 0 where
  pub number : ℕ
  pub divisor : ℕ
  pub negated : Bool
  pub turn : Turn
  pub told : s.scores score_left ≡ Some (pos left)
  pub few : left ≤ 8
  pub after : After number divisor (8 * left) (64 - 8 * left) turn
  pub bounded : divisor < 18446744073709551616
  pub wide : turn.dividend < 18446744073709551616
  pub standing : BetweenTurns divisor turn s
  pub signed : Signed op negated s
  pub answer : cast_signed w64 (signed_by negated (result_of op number divisor)) ≡ z

-- items that lead on, to where the turns are to be run so many times more, and leave all places as they were
pub record Divides (xs : Items) (s : State) (op : BinaryOp) (z : ℤ) (left : ℕ) : Type 0 where
  pub ready : ItemsReady xs s
  pub state : State
  pub used : ℕ
  pub ends : run_items xs s ≡ flow false state used
  pub dividing : Dividing op z left state
  pub replaced : Replaced s state 0 []

-- the beginning, by what the operation answers: its trap, or a division with this answer
abbrev pub Begins : BinaryOp → ℕ → State → Answer → Type 0
Begins op a s (answers.Trap k) = Traps (begin_items op a) s (trap_number k)
Begins op a s (answers.Value (values.I64 z)) = (left : ℕ) × Divides (begin_items op a) s op z left
Begins op a s (answers.Value (values.I32 z)) = ⊥
