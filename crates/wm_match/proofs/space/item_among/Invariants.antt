use Rattle.std.proofs.Common.{◌≡◌, ◌++◌, drop}
use Rattle.std.specs.Prelude.{slice_get}
use Rattle.wm_match.specs.Space.{imported_items, own_items}
use Rattle.wm_match.proofs.space.item_among.Given as goal

abbrev pub invariant-loop-n : goal.invariant-loop-n
invariant-loop-n l =
    slice_get (imported_items l.space (drop l.n l.imports) (drop l.n l.part) ++ own_items l.k 0 l.own) l.left
    ≡ slice_get (imported_items l.space l.imports l.part ++ own_items l.k 0 l.own) l.index
