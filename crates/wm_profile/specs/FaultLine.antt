-- The line that tells of a fault.
use Rattle.std.specs.Prelude.{ℕ, List, ◌∷◌, ◌++◌, codes}
use Rattle.std.specs.Fmt.{decimal}
use Rattle.wm_ast.specs.declared.item.Item.{Item}
use Rattle.wm_ast.specs.ItemWord.{item_word}
use Rattle.wm_profile.specs.declared.fault.ProfileFault.{ProfileFault}
use Rattle.wm_profile.specs.declared.fault.ProfileFault.TheVariants as faults

-- an item by its kind and its index
abbrev item_at : Item → ℕ → List ℕ
item_at item index = item_word item ++ (32 ∷ decimal index)

abbrev pub fault_line : ProfileFault → List ℕ
fault_line (faults.Import index) = codes "import " ++ decimal index
fault_line (faults.Float item index) = codes "float in " ++ item_at item index
fault_line (faults.Mul64 item index) = codes "i64.mul in " ++ item_at item index
fault_line (faults.Limit which found limit) =
    codes "limit " ++ (decimal which ++ (codes ", " ++ (decimal found ++ (codes " over " ++ decimal limit))))
fault_line (faults.SegmentOutside item index) = codes "segment " ++ (item_at item index ++ codes " outside")
