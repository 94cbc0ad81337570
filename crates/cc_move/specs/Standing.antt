-- Where an activation of the machine stands among the places of its function's body.
use Rattle.std.specs.Prelude.{◌≡◌, ℕ, List, [], ◌∷◌, reverse, Option, Some, None}
use Rattle.wm_ast.specs.declared.module.Func.{Func}
use Rattle.wm_ast.specs.declared.module.FuncType.{FuncType}
use Rattle.wm_ast.specs.declared.module.Module.{Module}
use Rattle.wm_ast.specs.Step.{arity}
use Rattle.wm_ast.specs.Store.{Store}
use Rattle.wm_valid.specs.Typing.{Scope}
use Rattle.wm_flat.specs.Flat.{Level, Activation, running}
use Rattle.wm_flat.specs.FlatTyping.{types_of, IsFunction}
use Rattle.wm_flat.specs.Runs.{State}
use Rattle.wm_place.specs.Place.{Place, path_of}
use Rattle.wm_place.specs.Spot.{Spot, spot_at}
use Rattle.wm_place.specs.Kinds.{level_kinds, own_kinds, first_of, body_of}
use Rattle.wm_place.specs.Visit.{Visit, visit_spot}
use Rattle.wm_place.specs.Spot as places
use Rattle.cc_cut.specs.Way.{Way}

-- the state of the machine with this activation and these callers
abbrev pub at : Store → List Activation → Activation → State
at s cs a = record { store = s; flat = running cs a }

-- the path of a block's place; a function's body has none
abbrev pub level_path : Option Place → List ℕ
level_path None = []
level_path (Some p) = path_of p

-- a block of the machine is this block round a place, over operands of the kinds that stand there
pub record IsLevel (S : Scope) (lv : Level) (b : places.Level) : Type 0 where
  pub place : lv.block.place ≡ level_path b.place
  pub before : lv.block.before ≡ b.before
  pub op : lv.block.op ≡ b.op
  pub rest : lv.block.rest ≡ b.rest
  pub kinds : level_kinds S b ≡ Some (types_of lv.values)

abbrev pub AreLevels : Scope → List Level → List places.Level → Type 0
AreLevels S [] [] = Unit {0}
AreLevels S (lv ∷ lvs) (b ∷ bs) = IsLevel S lv b × AreLevels S lvs bs
AreLevels S lvs bs = ⊥

-- An activation stands at a place of its function's body, which is visited so: the code, the blocks and the kinds of
-- the operands are those of the place.
pub record StandsAt (m : Module) (a : Activation) (v : Visit) : Type 0 where
  pub func : Func
  pub type : FuncType
  pub is_function : IsFunction m a.func func type
  pub place : Place
  pub spot : Spot
  pub there : spot_at (body_of m func type).sequence place ≡ Some spot
  pub visited : visit_spot (body_of m func type).scope place spot ≡ Some v
  pub path : a.place ≡ path_of place
  pub before : a.before ≡ spot.before
  pub code : a.code ≡ spot.code
  pub levels : AreLevels (body_of m func type).scope a.levels spot.levels
  pub kinds : own_kinds (body_of m func type).scope spot ≡ Some (types_of a.values)
  pub locals : types_of a.locals ≡ (body_of m func type).scope.locals
  pub results : a.results ≡ arity (first_of type.results)

-- an activation has come by a way: it stands at the place of the way's path, over operands of the way's kinds
pub record Comes (m : Module) (a : Activation) (w : Way) : Type 0 where
  pub visit : Visit
  pub stands : StandsAt m a visit
  pub path : visit.path ≡ w.to
  pub kinds : visit.kinds ≡ reverse w.kinds

-- another activation of the same call, with the same locals
pub record IsSameCall (a b : Activation) : Type 0 where
  pub func : b.func ≡ a.func
  pub results : b.results ≡ a.results
  pub locals : b.locals ≡ a.locals
