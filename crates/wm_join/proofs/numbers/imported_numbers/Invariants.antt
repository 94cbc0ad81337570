use Rattle.std.proofs.Common.{◌≡◌, ◌++◌, map, drop}
use Rattle.wm_match.specs.Space.{imported_items}
use Rattle.wm_join.specs.steps.Places.{binding_number}
use Rattle.wm_join.proofs.NumberLaws.{Left}
use Rattle.wm_join.proofs.numbers.imported_numbers.Given as goal

abbrev pub invariant-loop-n : goal.invariant-loop-n
invariant-loop-n l =
    l.found.items ++ Left (binding_number l.counts) l.space (drop l.n l.imports) (drop l.n l.part)
    ≡ map (binding_number l.counts) (imported_items l.space l.imports l.part)
