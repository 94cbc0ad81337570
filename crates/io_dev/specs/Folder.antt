-- What files hold, and what is read of them and written to them.
use Rattle.std.specs.Prelude.{◌≡◌, ◌⊎◌, ◌<◌, ◌≤◌, ℕ, List, length, take, Option, Some, None, IsSomeAnd}
use Rattle.std.specs.Option.{option_map}
use Rattle.std.specs.Ordering.{nat_cmp}
use Rattle.std.specs.Cmp.Lexicographic.{slice_cmp}
use Rattle.std.specs.FinMap.{FinMap, get, insert}

-- the bytes at each path
abbrev pub Folder : Type 0
Folder = FinMap (slice_cmp nat_cmp) (List ℕ)

-- a file with these bytes stands at the path, as far as the content is told
abbrev pub IsFile : Option Folder → List ℕ → List ℕ → Type 0
IsFile None path bytes = Unit {0}
IsFile (Some folder) path bytes = get folder path ≡ Some bytes

-- these are the bytes of the file at the path, and at most `cap` of them, whether or not the content is told
pub record Reads (content : Option Folder) (path : List ℕ) (cap : ℕ) (bytes : List ℕ) : Type 0 where
  pub is_file : IsFile content path bytes
  pub within : length bytes ≤ cap

-- the file at the path has more than `cap` bytes, as far as the content is told
abbrev pub IsLonger : Option Folder → List ℕ → ℕ → Type 0
IsLonger None path cap = Unit {0}
IsLonger (Some folder) path cap = IsSomeAnd (get folder path) (λ bytes. cap < length bytes)

-- the content with these bytes at this path
abbrev pub with_file : Option Folder → List ℕ → List ℕ → Option Folder
with_file content path bytes = option_map (λ folder. insert folder path bytes) content

-- the path holds what it held, or a prefix of the bytes, and no other path changed
abbrev pub LeavesPrefix : Option Folder → Option Folder → List ℕ → List ℕ → Type 0
LeavesPrefix before after path bytes =
    (after ≡ before) ⊎ ((n : ℕ) × (after ≡ with_file before path (take n bytes)))
