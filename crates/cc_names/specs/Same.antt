-- When two lists of conditions are surely the same: a test of a path counts as none of the other's.
use Rattle.std.specs.Prelude.{List, [], ◌∷◌, Bool, true, false, ◌&&◌, nat_eq}
use Rattle.std.specs.Ordering.{int_eq}
use Rattle.std.specs.Str.{bytes_eq}
use Rattle.mc_cmd.specs.Command.{Cmp, less, less_equal, equal, greater_equal, greater}
use Rattle.mc_cmd.specs.Command.{Range, exactly, from, up_to, between}
use Rattle.cc_line.specs.Place.{Spot, scratch, placed}
use Rattle.cc_line.specs.Step.{Check, in_range, compare, Cond, holds, fails}

abbrev pub same_spot : Spot → Spot → Bool
same_spot (scratch h) (scratch g) = bytes_eq h g
same_spot (placed i) (placed j) = nat_eq i j
same_spot x y = false

abbrev pub same_range : Range → Range → Bool
same_range (exactly y) (exactly z) = int_eq y z
same_range (from y) (from z) = int_eq y z
same_range (up_to y) (up_to z) = int_eq y z
same_range (between y z) (between u v) = int_eq y u && int_eq z v
same_range q r = false

abbrev pub same_comparison : Cmp → Cmp → Bool
same_comparison less less = true
same_comparison less_equal less_equal = true
same_comparison equal equal = true
same_comparison greater_equal greater_equal = true
same_comparison greater greater = true
same_comparison c d = false

abbrev pub same_check : Check → Check → Bool
same_check (in_range x q) (in_range y r) = same_spot x y && same_range q r
same_check (compare x c y) (compare u d v) = same_spot x u && (same_comparison c d && same_spot y v)
same_check c d = false

abbrev pub same_cond : Cond → Cond → Bool
same_cond (holds c) (holds d) = same_check c d
same_cond (fails c) (fails d) = same_check c d
same_cond c d = false

abbrev pub same_conds : List Cond → List Cond → Bool
same_conds [] [] = true
same_conds (c ∷ cs) (d ∷ ds) = same_conds cs ds && same_cond c d
same_conds cs ds = false
