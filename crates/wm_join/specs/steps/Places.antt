-- Where the items of one list stand among those of all lists, one list after the other.
use Rattle.std.specs.Prelude.{◌≡◌, ℕ, ◌+◌, List, take, nat_lt, if◌then◌else◌, Some, slice_get}
use Rattle.wm_match.specs.declared.library.Binding.{Binding}
use Rattle.wm_join.specs.declared.place.Place.{Place}
use Rattle.wm_join.specs.Numbering.{number, total}

-- the place is that of list k, by the lengths of the lists
pub record IsPlace (sizes : List ℕ) (k : ℕ) (p : Place) : Type 0 where
  pub first : p.first ≡ total (take k sizes)
  pub count : slice_get sizes k ≡ Some p.count
  pub all : p.all ≡ total sizes

-- the number of an item at that place; one that isn't there has the length of the whole
abbrev pub number_in : Place → ℕ → ℕ
number_in p n = if nat_lt n p.count then p.first + n else p.all

-- the number of the item that a binding tells, by the lengths of the lists
abbrev pub binding_number : List ℕ → Binding → ℕ
binding_number sizes b = number sizes b.module b.index
