-- Readers of numbers from 0 up, and of ranges by the numbers round the dots.
use Rattle.std.specs.Prelude.{ℤ, [], ◌∷◌, if◌then◌else◌, Option, Some, None, option_map, option_and_then}
use Rattle.mc_cmd.specs.Form.{Text, strip, cut_at}
use Rattle.mc_cmd.specs.Word.{number, is_natural, is_at_most}
use Rattle.mc_cmd.specs.Command.{Range, exactly, from, up_to, between}

-- a number where it isn't below 0
abbrev pub natural_in : Option ℤ → Option ℤ
natural_in None = None
natural_in (Some z) = if is_natural z then Some z else None

abbrev pub between_read : ℤ → Option ℤ → Option Range
between_read n None = None
between_read n (Some m) = if is_at_most n m then Some (between n m) else None

-- behind the dots of a range that begins with a number
abbrev pub last_read : ℤ → Text → Option Range
last_read n [] = Some (from n)
last_read n (c ∷ b) = between_read n (number.read (c ∷ b))

abbrev pub from_read : Text → Text → Option Range
from_read a b = option_and_then (λ n. last_read n b) (number.read a)

-- what stands before the dots, and what stands behind them
abbrev pub ends_read : Text → Text → Option Range
ends_read [] b = option_map up_to (number.read b)
ends_read (d ∷ a) b = from_read (d ∷ a) b

abbrev pub second_dot : Text → Option Text → Option Range
second_dot a None = None
second_dot a (Some b) = ends_read a b

abbrev pub range_in : Text → Option (Text × Text) → Option Range
range_in w None = option_map exactly (number.read w)
range_in w (Some p) = second_dot p.0 (strip (46 ∷ []) p.1)

abbrev pub range_read : Text → Option Range
range_read w = range_in w (cut_at 46 w)
