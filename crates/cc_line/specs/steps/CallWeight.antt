-- What the line of a call weighs.
use Rattle.std.specs.Prelude.{ℕ, Option, Some, None}
use Rattle.cc_line.specs.declared.step.Conds.{Conds}

abbrev pub call_weight : Option Conds → ℕ
call_weight None = 1
call_weight (Some cs) = 2
