-- The stores of an `execute`, one after another.
use Rattle.std.specs.Prelude.{◌≡◌, ◌<◌, ℕ, ℤ, List, length, take, Bool, true}
use Rattle.mc_cmd.specs.Command.{Sub, if_test, unless_test, store_score, store_data}
use Rattle.mc_cmd.specs.Grammar.{any_stores}
use Rattle.mc_cmd.specs.World.{World, store_all}

-- whether the objective that a store writes to stands
abbrev pub store_stands : World → Sub → Bool
store_stands w (if_test c) = true
store_stands w (unless_test c) = true
store_stands w (store_score h o) = w.objectives o
store_stands w (store_data i ps) = true

-- there are stores among the sub-commands, and those before some place are made
abbrev pub AreStoredInPart : List Sub → ℤ → World → World → Type 0
AreStoredInPart ss z w v = (any_stores ss ≡ true) × ((n : ℕ) × (n < length ss) × (v ≡ store_all (take n ss) z w))
