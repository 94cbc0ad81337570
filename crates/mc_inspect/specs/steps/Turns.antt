-- What the scores of a division tell between two turns, and the answer to which it comes.
use Rattle.std.specs.Prelude.{◌≡◌, ◌<◌, ◌-◌, ◌+◌, ◌*◌, ◌/◌, ◌%◌, ◌^◌, ℕ, ℤ, pos, Option, Some, option_map}
use Rattle.std.specs.Int.{w64, cast_signed}
use Rattle.mc_cmd.specs.Command.{exactly}
use Rattle.mc_cmd.specs.World.{some_is_in}
use Rattle.wm_ast.specs.declared.operator.BinaryOp.{BinaryOp}
use Rattle.wm_ast.specs.declared.operator.BinaryOp.TheVariants.{DivS, DivU, RemS, RemU}
use Rattle.cc_div64.specs.Division.{least}
use Rattle.cc_div64.specs.Law.{BetweenTurns, for_order, high_word, low_word, signed_by}
use Rattle.cc_div64.specs.Turn.{Turn}
use Rattle.cc_line.specs.State.{State}
use Rattle.mc_inspect.specs.declared.reading.Scores.{Scores}

abbrev pub turn_of : ℕ → ℕ → Turn
turn_of dividend remainder = record { dividend = dividend; remainder = remainder }

-- the scores have these numbers, which are below 2^64
pub record AreTurns (dividend remainder divisor : ℕ) (p : State) : Type 0 where
  pub standing : BetweenTurns divisor (turn_of dividend remainder) p
  pub below : remainder < divisor
  pub bounded : divisor < 18446744073709551616
  pub wide : dividend < 18446744073709551616

-- the scores have none such
abbrev pub NoTurns : State → Type 0
NoTurns p = (dividend remainder divisor : ℕ) → AreTurns dividend remainder divisor p → ⊥

-- the words of a number
abbrev pub AreWords : ℕ → Option ℤ → Option ℤ → Type 0
AreWords n low high = (low ≡ Some (low_word n)) × (high ≡ Some (high_word n))

-- with what the turns compare: the divisor's words, as the order with sign has them, and the least number
abbrev pub HasOrders : Scores → Type 0
HasOrders x = (x.u ≡ option_map for_order x.m) × (x.v ≡ option_map for_order x.n) × (x.k ≡ Some least)

-- the number that is divided, with so many times eight turns left: the quotient so far tells its upper bits with the
-- remainder, and the others stand above the quotient
abbrev pub whole_number : ℕ → ℕ → ℕ → ℕ → ℕ
whole_number dividend remainder divisor left =
    (dividend % 2 ^ (64 - 8 * left) * divisor + remainder) * 2 ^ (8 * left) + dividend / 2 ^ (64 - 8 * left)

-- which of these two numbers the operation gives, and with which sign
abbrev pub signed_answer : BinaryOp → ℕ → ℕ → Option ℤ → ℤ
signed_answer DivS q r s = cast_signed w64 (signed_by (some_is_in (exactly (pos 1)) s) q)
signed_answer DivU q r s = cast_signed w64 q
signed_answer RemS q r s = cast_signed w64 (signed_by (some_is_in (exactly (pos 1)) s) r)
signed_answer RemU q r s = cast_signed w64 r
signed_answer _ q r s = cast_signed w64 0
