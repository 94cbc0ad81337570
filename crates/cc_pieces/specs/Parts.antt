-- Pieces with their charges, and lists of those that know no body.
use Rattle.std.specs.Prelude.{ℕ, zero, suc, List, [], ◌∷◌, ◌++◌, map, Option, Some, None}
use Rattle.wm_ast.specs.declared.module.Limits.{Limits}
use Rattle.cc_line.specs.BlockView.{block_items}
use Rattle.cc_line.specs.Item.{Items}
use Rattle.cc_line.specs.Key.{PieceId}
use Rattle.cc_line.specs.View.{piece_view}
use Rattle.cc_sched.specs.Charge.{charge, round_weight}
use Rattle.cc_sched.specs.Pieces.{piece_of}
use Rattle.cc_call.specs.Frames.{done_piece}
use Rattle.cc_bulk.specs.Grow.{grower_items}
use Rattle.cc_pieces.specs.declared.part.Part.{Part as Made}
use Rattle.cc_pieces.specs.Fetching.{fetch_piece, fetching_items}
use Rattle.cc_pieces.specs.Entry.{taker, taker_items, done_items}
use Rattle.cc_pieces.specs.Growing.{grower_piece}
use Rattle.cc_pieces.specs.Placing.{placer, placer_items}

-- a piece by its name, with what is run for it and the charges
pub record Part : Type 0 where
  pub id : PieceId
  pub items : Items

-- the piece of these items, which are run themselves, or by a call of the function that has their lines
abbrev pub part : PieceId → Items → Part
part id xs = record { id = id; items = charge round_weight (piece_of id xs) }

-- ---- pieces before a cut

-- the first so many of the pieces before a cut that fetch so many places of arguments, where so many are below these
abbrev pub fetching_parts : ℕ → ℕ → ℕ → ℕ → ℕ → List Part
fetching_parts below params func index zero = []
fetching_parts below params func index (suc k) =
    fetching_parts below params func index k
    ++ part (fetch_piece func index k) (fetching_items below params func index k) ∷ []

-- ---- shared pieces

-- the first so many of the shared pieces that take arguments
abbrev pub taker_parts : ℕ → List Part
taker_parts zero = []
taker_parts (suc k) = taker_parts k ++ part (taker k) (taker_items k) ∷ []

-- the first so many of the shared pieces that put a value of so many ints to its places
abbrev pub placer_parts : ℕ → ℕ → List Part
placer_parts ints zero = []
placer_parts ints (suc k) = placer_parts ints k ++ part (placer ints k) (placer_items ints k) ∷ []

-- the pieces that end a job, with no results, with one int, and with the two of an i64
abbrev pub done_parts : List Part
done_parts =
    part (done_piece 0) (done_items 0)
    ∷ (part (done_piece 1) (done_items 1)
    ∷ (part (done_piece 2) (done_items 2)
    ∷ []))

-- the shared piece that appends pages, where there is a memory
abbrev pub grower_parts : Option Limits → List Part
grower_parts None = []
grower_parts (Some l) = part grower_piece grower_items ∷ []

-- ---- what the code makes

abbrev pub part_view : Made → Part
part_view p = record { id = piece_view p.id; items = block_items p.block }

abbrev pub parts_view : List Made → List Part
parts_view ps = map part_view ps
