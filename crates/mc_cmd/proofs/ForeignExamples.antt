-- Which commands are of somebody else, for some names.
use Rattle.std.proofs.Common.{◌≡◌, [], ◌∷◌, Some, None, refl}
use Rattle.std.specs.Prelude.{pos, codes}
use Rattle.mc_nbt.specs.Tree.{key}
use Rattle.mc_cmd.specs.Form.{Text}
use Rattle.mc_cmd.specs.Word.{is_objective, is_holder}
use Rattle.mc_cmd.specs.Command.{plain, swap, score_set, score_op, set_from}
use Rattle.mc_cmd.specs.Foreign.{first_own}
use Rattle.mc_cmd.specs.Pack.{IsForeign}

abbrev wk : Text
wk = codes "wk"

-- a score of another objective
set_elsewhere : IsForeign wk (plain (score_set (codes "#a") (codes "o") (pos 5)))
unfolding is_objective is_holder
set_elsewhere = record { fits = refl; foreign = refl; apart = refl }

-- a swap that names the pack's objective, and a copy that only reads one of its storages
swapped_with_own : first_own wk (plain (score_op (codes "#a") (codes "o") swap (codes "#b") wk)) ≡ Some wk
swapped_with_own = refl

read_from_own : first_own wk (plain (set_from (codes "other:x") (key (codes "a") ∷ []) (codes "wk:c") (key (codes "b") ∷ []))) ≡ Some (codes "wk:c")
read_from_own = refl

-- another storage of the same namespace is nobody's own
free_storage : first_own wk (plain (set_from (codes "wk:x") (key (codes "a") ∷ []) (codes "wk:y") (key (codes "b") ∷ []))) ≡ None
free_storage = refl
