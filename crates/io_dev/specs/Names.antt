-- What stands in a folder, by the paths of the files.
use Rattle.std.specs.Prelude.{◌≡◌, ◌==◌, ◌++◌, ◌↔◌, ℕ, List, [], ◌∷◌, Option, Some, None, IsSome, Contains}
use Rattle.std.specs.Prelude.{if◌then◌else◌}
use Rattle.std.specs.Ordering.{nat_cmp}
use Rattle.std.specs.Cmp.Lexicographic.{slice_cmp}
use Rattle.std.specs.List.Sorted.{IsStrictlySortedBy}
use Rattle.std.specs.FinMap.{get}
use Rattle.io_dev.specs.Folder.{Folder}

-- a text up to and including its first `/` (47), and the whole of it where it has none
abbrev pub first_part : List ℕ → List ℕ
first_part [] = []
first_part (c ∷ rest) = c ∷ (if c == 47 then [] else first_part rest)

-- the path shows this name in the folder `dir`: it is `dir`, `/` and more, and the name is the first part of that
pub record Shows (dir path name : List ℕ) : Type 0 where
  pub rest : List ℕ
  pub is_below : path ≡ dir ++ 47 ∷ rest
  pub has_rest : ¬ (rest ≡ [])
  pub is_first : name ≡ first_part rest

-- some file's path shows the name in `dir`
abbrev pub IsShown : Folder → List ℕ → List ℕ → Type 0
IsShown folder dir name = (path : List ℕ) × IsSome (get folder path) × Shows dir path name

-- these are the names that are shown in `dir`
abbrev pub IsListing : Folder → List ℕ → List (List ℕ) → Type 0
IsListing folder dir names = (name : List ℕ) → Contains names name ↔ IsShown folder dir name

-- the same, as far as the content is told
abbrev pub IsListingOf : Option Folder → List ℕ → List (List ℕ) → Type 0
IsListingOf None dir names = Unit {0}
IsListingOf (Some folder) dir names = IsListing folder dir names

-- each name is below those after it, in the order of bytes
abbrev pub IsRising : List (List ℕ) → Type 0
IsRising names = IsStrictlySortedBy (slice_cmp nat_cmp) names
