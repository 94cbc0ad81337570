-- The answer of a pack, by what stands under the three keys of the public layout.
use Rattle.std.specs.Prelude.{ℕ, zero, suc, ℤ, pos, negsuc, Option, Some, None, option_map, nat_lt, ◌&&◌}
use Rattle.std.specs.Prelude.{Bool, true, false, if◌then◌else◌}
use Rattle.mc_nbt.specs.Tree.{Tree, Items, no_items, item}
use Rattle.mc_cmd.specs.Layout.{Answer, new, running, trap, dead, result_in}

-- the number of a trap, where it is one: from 1 to 8
abbrev pub trap_numbered : ℤ → Option ℕ
trap_numbered (pos k) = if nat_lt 0 k && nat_lt k 9 then Some k else None
trap_numbered (negsuc k) = None

abbrev pub trap_of : (ℕ → Answer) → Option ℤ → Option Answer
trap_of how None = None
trap_of how (Some z) = option_map how (trap_numbered z)

abbrev pub lacks_items : Items → Bool
lacks_items no_items = true
lacks_items (item t ts) = false

abbrev pub answer_from : Option ℤ → Option Tree → Option ℤ → Option Answer
answer_from (Some (pos zero)) r t = Some new
answer_from (Some (pos (suc zero))) r t = Some running
answer_from (Some (pos (suc (suc zero)))) r t = result_in r
answer_from (Some (pos (suc (suc (suc zero))))) r t = trap_of trap t
answer_from (Some (pos (suc (suc (suc (suc zero)))))) r t = trap_of dead t
answer_from s r t = None
