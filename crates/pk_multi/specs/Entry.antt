-- The functions that each program has, and what it gets to run one.
use Rattle.std.specs.Prelude.{◌≤◌, ℕ, codes}
use Rattle.mc_cmd.specs.Form.{Text}
use Rattle.mc_together.specs.Share.{share_of}
use Rattle.pk_multi.specs.declared.program.Entry.{Entry}
use Rattle.pk_multi.specs.declared.program.Entry.TheVariants as entry
use Rattle.pk_multi.specs.declared.sharing.Shares.{Shares}
use Rattle.pk_multi.specs.declared.sharing.Shares.TheVariants as shares

-- the name of the function in its namespace
abbrev pub function_of : Entry → Text
function_of entry.Load = codes "load"
function_of entry.Tick = codes "tick"

-- what the program at a place gets, by the number of programs and of ticks
abbrev pub share_by : Shares → ℕ → ℕ → ℕ → ℕ
share_by (shares.Each b) n t i = b
share_by (shares.Of b) n t i = share_of b n t i

-- what is given can be the rule of a world
abbrev pub AreSmall : Shares → Type 0
AreSmall (shares.Each b) = b ≤ 2147483647
AreSmall (shares.Of b) = b ≤ 2147483647
