-- The number of a running pack's state.
use Rattle.std.specs.Prelude.{ℤ, Option, Some, None, codes}
use Rattle.mc_nbt.specs.Tree.{Tree, int}
use Rattle.mc_cmd.specs.Form.{Text}
use Rattle.mc_cmd.specs.World.{World}
use Rattle.mc_cmd.specs.Layout.{io_value}

-- the number of an int
abbrev pub int_in : Option Tree → Option ℤ
int_in (Some (int z)) = Some z
int_in o = None

-- the state of the pack of a namespace, where it is an int: 0 new, 1 running, 2 done, 3 trapped, 4 dead
abbrev pub state_in : Text → World → Option ℤ
state_in ns w = int_in (io_value ns w (codes "state"))
