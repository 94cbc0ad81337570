-- The heights of cuts as they are found on the way through a body.
use Rattle.std.specs.Prelude.{◌≡◌, ℕ, ◌+◌, List, [], ◌∷◌, ◌++◌, if◌then◌else◌}
use Rattle.wm_place.specs.Visit.{Visit}
use Rattle.cc_cut.specs.Law.{widths}
use Rattle.cc_cut.specs.Piece.{place_cost, is_cut}

-- what the piece has come to behind a place
abbrev pub spent_behind : ℕ → Visit → ℕ
spent_behind spent v = if is_cut spent v then place_cost v else spent + place_cost v

-- the heights with that of a place, where it is a cut and the locals take so many places
abbrev pub heights_behind : ℕ → ℕ → List ℕ → Visit → List ℕ
heights_behind locals spent heights v =
    if is_cut spent v then heights ++ (locals + widths v.kinds) ∷ [] else heights

-- a place is passed
pub record IsMeasured (locals spent : ℕ) (old : List ℕ) (v : Visit) (locals_then spent_then : ℕ) (new : List ℕ)
    : Type 0 where
  pub locals_are : locals_then ≡ locals
  pub spent_is : spent_then ≡ spent_behind spent v
  pub heights_are : new ≡ heights_behind locals spent old v
