-- Laws of places, which the contracts of public functions cite.
use Rattle.std.specs.Prelude.{◌≡◌, ℕ, ◌≤◌, max, suc, List, [], ◌∷◌, ◌++◌, length}
use Rattle.std.specs.Prelude.{reverse, ◌↔◌, Option, Some, option_map, slice_get}
use Rattle.std.specs.List.{AllPairs, Contains}
use Rattle.wm_ast.specs.declared.module.ValType.{ValType}
use Rattle.wm_ast.specs.declared.module.Func.{Func}
use Rattle.wm_ast.specs.declared.module.Module.{Module}
use Rattle.wm_ast.specs.Code.{Op, block, loop, if_else, Code, nil, cons}
use Rattle.wm_ast.specs.Profile.{HasNoFloat, NoItem, is_float}
use Rattle.wm_ast.specs.declared.module.FuncType.{FuncType}
use Rattle.wm_ast.specs.Types.{function_type}
use Rattle.wm_valid.specs.Typing.{body_context, Scope}
use Rattle.wm_valid.specs.Height.{IsHeight}
use Rattle.wm_valid.specs.Place.{AreKinds}
use Rattle.wm_valid.specs.Valid.{Valid}
use Rattle.wm_valid.specs.Arrows.{◌>>=◌, changed, change}
use Rattle.wm_place.specs.Place.{Place, lead, next, inside, inside_arm, places, path_of, place_of, IsBefore}
use Rattle.wm_place.specs.Spot.{Level, level, Sequence, body_sequence, Spot, spot, followed_by, spot_at, AllStand}
use Rattle.wm_place.specs.SpotTyping.{IsTypedSpot}
use Rattle.wm_place.specs.Kinds.{own_kinds, spot_kinds, body_of, function_kinds, path_kinds, IsPlaceOf}

-- ---- places that a place leads to

-- behind an instruction
abbrev pub NextIsFound : Type 0
NextIsFound = (body : Sequence) (p : Place) (lvs : List Level) (before : Code) (i : Op) (is : Code)
    → spot_at body p ≡ Some (spot lvs before (cons i is))
    → spot_at body (next p) ≡ Some (spot lvs (followed_by before i) is)

-- the first place in a block
abbrev pub BlockIsFound : Type 0
BlockIsFound = (body : Sequence) (p : Place) (lvs : List Level) (before : Code) (ty : Option ValType) (c is : Code)
    → spot_at body p ≡ Some (spot lvs before (cons (block ty c) is))
    → spot_at body (inside p) ≡ Some (spot (level (Some p) before (block ty c) is ∷ lvs) nil c)

-- the first place in a loop
abbrev pub LoopIsFound : Type 0
LoopIsFound = (body : Sequence) (p : Place) (lvs : List Level) (before : Code) (ty : Option ValType) (c is : Code)
    → spot_at body p ≡ Some (spot lvs before (cons (loop ty c) is))
    → spot_at body (inside p) ≡ Some (spot (level (Some p) before (loop ty c) is ∷ lvs) nil c)

-- the first place of the first arm of an `if`
abbrev pub FirstArmIsFound : Type 0
FirstArmIsFound = (body : Sequence) (p : Place) (lvs : List Level) (before : Code) (ty : Option ValType)
    (c d is : Code)
    → spot_at body p ≡ Some (spot lvs before (cons (if_else ty c d) is))
    → spot_at body (inside_arm 0 p) ≡ Some (spot (level (Some p) before (if_else ty c d) is ∷ lvs) nil c)

-- the first place of the second arm
abbrev pub SecondArmIsFound : Type 0
SecondArmIsFound = (body : Sequence) (p : Place) (lvs : List Level) (before : Code) (ty : Option ValType)
    (c d is : Code)
    → spot_at body p ≡ Some (spot lvs before (cons (if_else ty c d) is))
    → spot_at body (inside_arm 1 p) ≡ Some (spot (level (Some p) before (if_else ty c d) is ∷ lvs) nil d)

-- the places of the blocks round a place
abbrev pub LevelsAreFound : Type 0
LevelsAreFound = (gives : Option ValType) (c : Code) (p : Place) (x : Spot)
    → spot_at (body_sequence gives c) p ≡ Some x → AllStand (body_sequence gives c) x.levels

-- ---- all places, and their paths

-- a place of the body
abbrev pub IsPlace : Sequence → Place → Type 0
IsPlace body p = (x : Spot) × (spot_at body p ≡ Some x)

-- the places are those at which something stands
abbrev pub PlacesAreListed : Type 0
PlacesAreListed = (body : Sequence) (p : Place) → Contains (places body.code) p ↔ IsPlace body p

-- each of them stands before those that follow it in the list, so it stands there once
abbrev pub PlacesRise : Type 0
PlacesRise = (body : Code) → AllPairs (λ p q. IsBefore (path_of p) (path_of q)) (places body)

-- the path of a place tells it
abbrev pub PathsTell : Type 0
PathsTell = (body : Sequence) (p : Place) → IsPlace body p → place_of body.code (path_of p) ≡ Some p

-- a path tells a place of the body, and is its path
abbrev pub PathsAreOfPlaces : Type 0
PathsAreOfPlaces = (body : Sequence) (path : List ℕ) (p : Place)
    → place_of body.code path ≡ Some p → (path_of p ≡ path) × IsPlace body p

-- the paths of the places that a place leads to
pub record PathLeadsOn (p : Place) : Type 0 where
  pub here : path_of p ≡ lead p.steps [] ++ p.position ∷ []
  pub behind : path_of (next p) ≡ lead p.steps [] ++ suc p.position ∷ []
  pub in_block : path_of (inside p) ≡ path_of p ++ 0 ∷ []
  pub in_arm : (k : ℕ) → path_of (inside_arm k p) ≡ path_of p ++ k ∷ 0 ∷ []

-- ---- kinds

-- behind an instruction the place's own operands are those that the instruction leaves
abbrev pub NextKinds : Type 0
NextKinds = (S : Scope) (lvs : List Level) (before : Code) (i : Op) (is : Code)
    → own_kinds S (spot lvs (followed_by before i) is)
    ≡ (own_kinds S (spot lvs before (cons i is)) >>= λ ts. change i S >>= λ e. Some (changed e ts))

-- the kinds at the place that a path tells are what the typing says of it
abbrev pub KindsAreByPath : Type 0
KindsAreByPath = (m : Module) → Valid m → (n : ℕ) (path : List ℕ) → AreKinds m n path (path_kinds m n path)

-- it says that of no others
abbrev pub KindsAreDetermined : Type 0
KindsAreDetermined = (m : Module) → Valid m → (n : ℕ) (path : List ℕ) (found : Option (List ValType))
    → AreKinds m n path found → found ≡ path_kinds m n path

-- the kinds at a place are what the typing says of its path
abbrev pub KindsAreByPlace : Type 0
KindsAreByPlace = (m : Module) → Valid m → (n : ℕ) (p : Place)
    → IsPlaceOf m n p → AreKinds m n (path_of p) (option_map reverse (function_kinds m n p))

-- at a place no more operands stand than the height of the function, or than one
abbrev pub KindsAreFew : Type 0
KindsAreFew = (m : Module) → Valid m → (n : ℕ) (f : Func) (height : ℕ)
    → slice_get m.funcs n ≡ Some f → IsHeight m f height
    → (p : Place) (ts : List ValType) → function_kinds m n p ≡ Some ts → length ts ≤ max height 1

-- no operand is a float: each is an i32 or an i64
abbrev pub KindsAreInts : Type 0
KindsAreInts = (m : Module) → Valid m → HasNoFloat m → (n : ℕ) (p : Place) (ts : List ValType)
    → function_kinds m n p ≡ Some ts → NoItem is_float ts

-- what follows at a place that is reached is typed
abbrev pub SpotsAreTyped : Type 0
SpotsAreTyped = (m : Module) → Valid m → (n : ℕ) (f : Func) (t : FuncType)
    → slice_get m.funcs n ≡ Some f → function_type m f ≡ Some t → (p : Place) (x : Spot) (ts : List ValType)
    → spot_at (body_of m f t).sequence p ≡ Some x → spot_kinds (body_of m f t).scope x ≡ Some ts
    → IsTypedSpot (body_context m f t) x
