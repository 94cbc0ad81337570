-- Laws of cuts, which the contracts of public functions cite.
use Rattle.std.specs.Prelude.{◌≡◌, ℕ, suc, ◌+◌, ◌*◌, ◌/◌, ◌-◌, ◌≤◌, ◌<◌, ◌⊎◌, max, List, [], ◌∷◌, ◌++◌, length, reverse}
use Rattle.std.specs.Prelude.{Option, Some, true, slice_get}
use Rattle.std.specs.List.{Contains}
use Rattle.wm_ast.specs.declared.module.ValType.{ValType}
use Rattle.wm_ast.specs.declared.module.ValType.TheVariants.{I64, F64}
use Rattle.wm_ast.specs.declared.module.Func.{Func}
use Rattle.wm_ast.specs.declared.module.FuncType.{FuncType}
use Rattle.wm_ast.specs.declared.module.Module.{Module}
use Rattle.wm_ast.specs.Code.{Op, loop, if_else, const, Code, cons}
use Rattle.wm_ast.specs.Types.{run_types, function_type}
use Rattle.wm_valid.specs.Height.{IsHeight, Low}
use Rattle.wm_valid.specs.Place.{AreKinds, IsReached}
use Rattle.wm_valid.specs.Valid.{Valid}
use Rattle.wm_valid.specs.Typing.{Scope}
use Rattle.wm_place.specs.Kinds.{Body, function_body}
use Rattle.wm_place.specs.Visit.{Visit, function_visits}
use Rattle.cc_line.specs.Key.{PieceId, body_piece}
use Rattle.cc_line.specs.Place.{score_places}
use Rattle.cc_cut.specs.declared.table.Cut.{Cut}
use Rattle.cc_cut.specs.Cost.{full, cost, constant_cost, ends_piece, is_repeated, most_cost}
use Rattle.cc_cut.specs.Way.{Way, path_behind, ways, all_ways}
use Rattle.cc_cut.specs.Piece.{place_cost, Piece, places_in, function_pieces, index_of}
use Rattle.cc_cut.specs.Cuts.{exits_from, cut_for, function_cuts}

-- the piece that begins at a cut; the piece 0 of a function makes the first frame of a call from outside
abbrev pub piece_of : Cut → PieceId
piece_of c = body_piece c.func c.index

-- ---- operands

-- the operands at a cut are what the typing of the module says of its place, so the place is reached
abbrev pub LayoutsAreKinds : Type 0
LayoutsAreKinds = (m : Module) → Valid m → (n : ℕ) (c : Cut)
    → Contains (function_cuts m n) c → AreKinds m n c.place (Some c.layout)

-- ---- the rules

-- the function has a cut at the place of this path
abbrev pub HasCutAt : Module → ℕ → List ℕ → Type 0
HasCutAt m n path = (c : Cut) × Contains (function_cuts m n) c × (c.place ≡ path)

-- where a function has cuts in any case
pub record HasRules (m : Module) (n : ℕ) (f : Func) : Type 0 where
  -- its first place is the first cut
  pub first : (c : Cut) × (slice_get (function_cuts m n) 0 ≡ Some c) × (c.place ≡ 0 ∷ []) × (c.index ≡ 1)
  -- the first place inside each loop that is reached
  pub loops : (path : List ℕ) (ty : Option ValType) (body is : Code) (ts : List ValType)
      → IsReached m f path (cons (loop ty body) is) ts → HasCutAt m n (path ++ 0 ∷ [])
  -- the first place of the second arm of each `if` that is reached
  pub second_arms : (path : List ℕ) (ty : Option ValType) (one other is : Code) (ts : List ValType)
      → IsReached m f path (cons (if_else ty one other) is) ts → HasCutAt m n (path ++ 1 ∷ 0 ∷ [])
  -- the place behind each block, each call and each routine of several pieces that is reached
  pub ends : (path : List ℕ) (i : Op) (is : Code) (ts : List ValType)
      → IsReached m f path (cons i is) ts → ends_piece i ≡ true → HasCutAt m n (path_behind path)
  -- the place of each instruction that may be repeated that is reached
  pub here : (path : List ℕ) (i : Op) (is : Code) (ts : List ValType)
      → IsReached m f path (cons i is) ts → is_repeated i ≡ true → HasCutAt m n path

abbrev pub CutsHaveRules : Type 0
CutsHaveRules = (m : Module) → Valid m → (n : ℕ) (f : Func) → slice_get m.funcs n ≡ Some f → HasRules m n f

-- ---- indices

-- the cuts of a function are those of its pieces, in their order, and count from 1
abbrev pub CutsAreOfPieces : Type 0
CutsAreOfPieces = (m : Module) (n : ℕ) (b : Body) → function_body m n ≡ Some b → (i : ℕ)
    → ((p : Piece) → slice_get (function_pieces m n) i ≡ Some p
    → slice_get (function_cuts m n) i ≡ Some (cut_for n b.scope (function_pieces m n) (suc i) p))
    × ((c : Cut) → slice_get (function_cuts m n) i ≡ Some c
    → (p : Piece) × (slice_get (function_pieces m n) i ≡ Some p)
    × (c ≡ cut_for n b.scope (function_pieces m n) (suc i) p))

-- the index of a cut is found by its place
abbrev pub PlacesTellCuts : Type 0
PlacesTellCuts = (m : Module) (n i : ℕ) (c : Cut)
    → slice_get (function_cuts m n) i ≡ Some c → index_of (function_pieces m n) c.place ≡ Some (suc i)

-- each exit of a cut is the index of a cut of the same function
abbrev pub ExitsAreCuts : Type 0
ExitsAreCuts = (m : Module) (n : ℕ) (c : Cut) → Contains (function_cuts m n) c → (j : ℕ)
    → Contains c.exits j → (d : Cut) × Contains (function_cuts m n) d × (d.index ≡ j)

-- ---- where pieces lead

-- a way on leads to a cut of the function that is one of these exits, and brings the operands that stand there
pub record IsExit (m : Module) (n : ℕ) (exits : List ℕ) (w : Way) : Type 0 where
  pub cut : Cut
  pub is_cut : Contains (function_cuts m n) cut
  pub there : cut.place ≡ w.to
  pub met : cut.layout ≡ reverse w.kinds
  pub named : Contains exits cut.index

-- a way on leads to the first of these places, and brings the operands that stand there
abbrev pub IsNext : List Visit → Way → Type 0
IsNext [] w = ⊥
IsNext (v ∷ vs) w = (v.path ≡ w.to) × (v.kinds ≡ reverse w.kinds)

-- each way on from these places of a piece is one of the piece's exits, or leads to the next of the places
abbrev pub AllLead : Module → ℕ → Scope → List ℕ → List Visit → Type 0
AllLead m n S exits [] = Unit {0}
AllLead m n S exits (v ∷ vs) =
    ((w : Way) → Contains (ways S v) w → IsExit m n exits w ⊎ IsNext vs w) × AllLead m n S exits vs

-- a piece leads to its exits and nowhere else, and each is a cut whose operands it brings
abbrev pub PiecesLead : Type 0
PiecesLead = (m : Module) → Valid m → (n : ℕ) (b : Body) → function_body m n ≡ Some b → (p : Piece)
    → Contains (function_pieces m n) p
    → AllLead m n b.scope (exits_from b.scope (function_pieces m n) (places_in p)) (places_in p)

-- ---- weights

-- what these places add to their piece
abbrev pub weight_of : List Visit → ℕ
weight_of [] = 0
weight_of (v ∷ vs) = place_cost v + weight_of vs

-- no piece is too full
abbrev pub PiecesFit : Type 0
PiecesFit = (m : Module) (n : ℕ) (p : Piece) → Contains (function_pieces m n) p → weight_of (places_in p) ≤ full

-- ---- ranks

-- constants alone stand at these places: a piece of them makes no step of the reduction
abbrev pub IsConstantAt : Code → Type 0
IsConstantAt (cons (const v) is) = Unit {0}
IsConstantAt _ = ⊥

abbrev pub AreConstant : List Visit → Type 0
AreConstant [] = Unit {0}
AreConstant (v ∷ vs) = IsConstantAt v.rest × AreConstant vs

-- so many operands more, at least, stand at the next piece that begins with a constant, behind
-- a piece of constants alone
abbrev pub rank_height : ℕ
rank_height = (full - constant_cost) / constant_cost

-- the rank of a cut that doesn't begin with a constant
abbrev pub top_rank : ℕ
top_rank = 5

abbrev pub rank_by : Code → ℕ → ℕ
rank_by (cons (const v) is) height = height / rank_height
rank_by _ height = top_rank

-- the rank of a cut where the places of a piece begin so
abbrev pub rank : Visit → ℕ
rank v = rank_by v.rest (length v.kinds)

-- a place to which a piece of constants alone leads has a higher rank, where a piece begins there
abbrev pub RanksRise : Type 0
RanksRise = (m : Module) → Valid m → Low m → (n : ℕ) (b : Body) → function_body m n ≡ Some b → (p : Piece)
    → Contains (function_pieces m n) p → AreConstant (places_in p) → (w : Way)
    → Contains (all_ways b.scope (places_in p)) w → (q : Piece) → Contains (function_pieces m n) q
    → q.cut.path ≡ w.to → rank p.cut < rank q.cut

-- so no more than 5 such pieces follow one another
abbrev pub RanksAreLow : Type 0
RanksAreLow =
    (m : Module) → Valid m → Low m → (n : ℕ) (v : Visit) → Contains (function_visits m n) v → rank v ≤ top_rank

-- ---- room

-- the places of a value in a frame
abbrev pub width : ValType → ℕ
width I64 = 2
width F64 = 2
width _ = 1

abbrev pub widths : List ValType → ℕ
widths [] = 0
widths (t ∷ ts) = width t + widths ts

-- the places of a frame with so many locals, where so many operands stand at most; those that are scores are in each
abbrev pub frame_places : ℕ → ℕ → ℕ
frame_places locals operands = max score_places (2 * locals + 2 * operands)

-- at each place the locals and the operands have room in the frame
abbrev pub FramesHaveRoom : Type 0
FramesHaveRoom = (m : Module) → Valid m → (n : ℕ) (f : Func) (t : FuncType) (height : ℕ)
    → slice_get m.funcs n ≡ Some f → function_type m f ≡ Some t → IsHeight m f height → (v : Visit)
    → Contains (function_visits m n) v
    → widths (t.params ++ run_types f.locals) + widths v.kinds
    ≤ frame_places (length (t.params ++ run_types f.locals)) (max height 1)

-- ---- costs

-- no instruction costs more than the most, and no constant more than its share
pub record CostsAreBounded : Type 0 where
  pub all : (i : Op) → cost i ≤ most_cost
  pub constants : (i : Op) (is : Code) → IsConstantAt (cons i is) → cost i ≤ constant_cost
