-- The piece that appends pages, and the acts by which it is next, fit and weigh little.
use Rattle.std.proofs.Common.{◌≡◌, ℕ, ◌≤◌, ◌<◌, Option, Some, None, refl, arith}
use Rattle.cc_bulk.specs.Grow.{grower_items}
use Rattle.cc_mem.specs.Law.{AreLines}
use Rattle.cc_bulk.proofs.GrowLines.{grower_lines}
use Rattle.cc_line.specs.Key.{id_tree}
use Rattle.cc_pieces.specs.Growing.{grower_piece, cut_behind, append_next_acts}
use Rattle.cc_pieces.proofs.Weights.{Sound, meek_sound, SoundActs}
use Rattle.cc_pieces.proofs.Fits.{NamePlain, body_plain, shared_plain, name_fits, follows_sound}
use Rattle.cc_pieces.proofs.CallWeights.{to_piece_sound}

-- ---- weights

pub grower_sound : Sound 70 grower_items
grower_sound =
    let x : AreLines grower_items 70 = grower_lines in
    meek_sound 0 70 70 grower_items x.fits (record { avoids = refl; few = omega arith }) x.weigh (omega arith)

-- ---- places

-- the piece behind an instruction that grows the memory
behind_plain : (func : ℕ) (o : Option ℕ) → func < 2147483648 → ((j : ℕ) → o ≡ Some j → j ≤ 1000000) → NamePlain (cut_behind func o)
behind_plain func None h l = body_plain func 0 h (omega arith)
behind_plain func (Some j) h l = let k : j ≤ 1000000 = l j refl in body_plain func j h (omega arith)

pub append_next_sound : (func : ℕ) (o : Option ℕ) → func < 2147483648 → ((j : ℕ) → o ≡ Some j → j ≤ 1000000) → SoundActs (append_next_acts func o)
append_next_sound func o h l = (follows_sound (id_tree (cut_behind func o)) (name_fits (cut_behind func o) (behind_plain func o h l)), to_piece_sound grower_piece (shared_plain 30000 (omega arith)))
