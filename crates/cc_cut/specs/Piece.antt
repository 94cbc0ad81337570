-- Where the body of a function is cut. Its places that are reached follow one another in the order of the text. A piece
-- begins at a cut, and has the places up to the next cut.
use Rattle.std.specs.Prelude.{ℕ, suc, ◌+◌, List, [], ◌∷◌, Option, Some, None, Bool, true, false, ◌||◌, nat_eq, nat_lt}
use Rattle.std.specs.Prelude.{if◌then◌else◌, slice_get}
use Rattle.std.specs.Cmp.Lexicographic.{pointwise}
use Rattle.wm_ast.specs.declared.module.Module.{Module}
use Rattle.wm_ast.specs.Code.{Op, loop, if_else, Code, nil, cons}
use Rattle.wm_place.specs.Visit.{Around, Visit, function_visits}
use Rattle.cc_cut.specs.Cost.{full, code_cost, ends_piece, is_repeated}
use Rattle.cc_cut.specs.Way.{labelled}

-- ---- where a piece begins in any case

-- at the first place inside a loop, and in the second arm of an `if`, which has the number 1
abbrev pub begins_inside : Op → Option ℕ → Bool
begins_inside (loop ty body) arm = true
begins_inside (if_else ty first second) (Some k) = nat_eq k 1
begins_inside _ arm = false

-- at the first place of this path in this block; that of the body isn't in one
abbrev pub begins_first : List ℕ → Option Around → Bool
begins_first path None = true
begins_first path (Some b) = begins_inside b.op (slice_get path (suc b.lead))

-- behind the last instruction of a sequence
abbrev pub begins_behind : Code → Bool
begins_behind nil = false
begins_behind (cons i nil) = ends_piece i
begins_behind (cons i (cons j is)) = begins_behind (cons j is)

abbrev pub begins_at : Code → List ℕ → List Around → Bool
begins_at nil path blocks = begins_first path (labelled blocks 0)
begins_at (cons i is) path blocks = begins_behind (cons i is)

-- before an instruction that may be repeated
abbrev pub begins_before : Code → Bool
begins_before nil = false
begins_before (cons i is) = is_repeated i

-- a piece begins at the place in any case
abbrev pub begins : Visit → Bool
begins v = begins_at v.before v.path v.blocks || begins_before v.rest

-- ---- cuts by weight

-- what a place adds to its piece
abbrev pub place_cost : Visit → ℕ
place_cost v = code_cost v.rest

-- A place is a cut, to which the last piece has come with so much weight: where a piece begins in any case, and where
-- the piece would be too full.
abbrev pub is_cut : ℕ → Visit → Bool
is_cut spent v = begins v || nat_lt full (spent + place_cost v)

-- ---- pieces

-- a piece: the place of its cut, and the other places that it has
pub record Piece : Type 0 where
  pub cut : Visit
  pub others : List Visit

abbrev pub piece : Visit → List Visit → Piece
piece cut others = record { cut = cut; others = others }

-- the places of a piece
abbrev pub places_in : Piece → List Visit
places_in p = p.cut ∷ p.others

-- the first of these places, up to the next cut, where a piece has come to them with so much weight
abbrev pub up_to_cut : ℕ → List Visit → List Visit
up_to_cut spent [] = []
up_to_cut spent (v ∷ vs) = if is_cut spent v then [] else v ∷ up_to_cut (spent + place_cost v) vs

-- the pieces that begin at these places, to which a piece has come with so much weight
abbrev pub pieces_from : ℕ → List Visit → List Piece
pieces_from spent [] = []
pieces_from spent (v ∷ vs) =
    if is_cut spent v
    then piece v (up_to_cut (place_cost v) vs) ∷ pieces_from (place_cost v) vs
    else pieces_from (spent + place_cost v) vs

-- the pieces of a body
abbrev pub pieces : List Visit → List Piece
pieces vs = pieces_from 0 vs

-- the pieces of the body of the function of this index
abbrev pub function_pieces : Module → ℕ → List Piece
function_pieces m n = pieces (function_visits m n)

-- ---- indices

abbrev pub or_else : Option ℕ → Option ℕ → Option ℕ
or_else None b = b
or_else (Some a) b = Some a

-- the index of the piece that begins at this path, where they count from k on
abbrev pub index_from : ℕ → List Piece → List ℕ → Option ℕ
index_from k [] path = None
index_from k (p ∷ ps) path =
    or_else (index_from (suc k) ps path) (if pointwise nat_eq p.cut.path path then Some k else None)

-- the index of the piece that begins at this path, if one does: pieces count from 1
abbrev pub index_of : List Piece → List ℕ → Option ℕ
index_of ps path = index_from 1 ps path
