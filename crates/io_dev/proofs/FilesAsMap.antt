-- The files' `BTreeMap` as the finite map that contracts see.
use Rattle.std.proofs.Common.{◌≡◌, ℕ, List, Some}
use Rattle.std.specs.Ordering.{nat_cmp}
use Rattle.std.specs.Cmp.Lexicographic.{slice_cmp, nat_list_cmp_total}
use Rattle.std.specs.FinMap.{get, insert, slice_cmp-IsAntisymmetric, nat_cmp-IsAntisymmetric}
use Rattle.std.specs.BTreeMap.{BTreeMap, Updates}
use Rattle.std.specs.BTreeMap as tree
use Rattle.mc_nbt.specs.Finite.{as_map, get-as_map, as_map-insert}

-- the bytes that a look-up finds
pub get_file : (files : BTreeMap (List ℕ) (List ℕ)) (path : List ℕ) → get (as_map (slice_cmp nat_cmp) files) path ≡ tree.get (slice_cmp nat_cmp) files path
get_file = get-as_map nat_list_cmp_total

-- what an insertion leaves
pub insert_file : (old new : BTreeMap (List ℕ) (List ℕ)) (path bytes : List ℕ) → Updates (slice_cmp nat_cmp) old new path (Some bytes) → as_map (slice_cmp nat_cmp) new ≡ insert (as_map (slice_cmp nat_cmp) old) path bytes
insert_file = as_map-insert nat_list_cmp_total (slice_cmp-IsAntisymmetric nat_cmp-IsAntisymmetric)
