-- What a change says of the tree that it leaves.
use Rattle.std.specs.Prelude.{◌≡◌, Option, Some, None, Result, Ok, Err}
use Rattle.mc_nbt.specs.Tree.{Tree}
use Rattle.mc_nbt.specs.declared.memory.Memory.{Memory}
use Rattle.mc_nbt.specs.declared.edit.Changed.{Changed}
use Rattle.mc_nbt.specs.declared.edit.Changed.TheVariants as changed

-- a change: it is made, and this tree stands; or it fails, and this tree still stands
abbrev pub IsChanged : Changed → Tree → Tree → Option Tree → Type 0
IsChanged changed.Yes old new target = target ≡ Some new
IsChanged changed.No old new target = (target ≡ None) × (new ≡ old)

-- a change that may want memory: without it the tree is as it was
abbrev pub Changes : Result Changed Memory → Tree → Tree → Option Tree → Type 0
Changes (Ok c) old new target = IsChanged c old new target
Changes (Err m) old new target = new ≡ old
