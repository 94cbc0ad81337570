-- The cut at a position.
use Rattle.std.proofs.Common.{◌≡◌, ◌≤◌, ℕ, suc, ◌-◌, List, map, Option, Some, None, Bor, sym, ap, ◌∙◌, arith}
use Rattle.std.specs.Prelude.{option_map, slice_get}
use Rattle.std.specs.Slice.{IsItemAt}
use Rattle.std.proofs.lemmas.Option.{slice_get-get_or, slice_get-map, slice_get_past}
use Rattle.cc_line.specs.declared.block.Block.{Block}
use Rattle.cc_line.specs.BlockView.{block_items}
use Rattle.cc_tails.specs.Tails.{items_at}

-- what is got there
got : (cuts : List Block) (position : ℕ) (r : Option (Bor Block)) → IsItemAt cuts position r → option_map (λ (b : Bor Block). block_items b.now) r ≡ option_map block_items (slice_get cuts position)
got cuts position None h = sym (ap (option_map block_items) (slice_get_past cuts position h.3))
got cuts position (Some b) h = ap (λ (c : Block). Some (block_items c)) h.1 ∙ sym (ap (option_map block_items) (slice_get-get_or cuts position b.now h.3.0))

-- cuts count from 1
pub cut_at_is : (cuts : List Block) (index position : ℕ) (r : Option (Bor Block)) → 1 ≤ index → position ≡ index - 1 → IsItemAt cuts position r → option_map (λ (b : Bor Block). block_items b.now) r ≡ items_at (map block_items cuts) index
cut_at_is cuts index position r l e h =
    let behind : suc position ≡ index = omega arith in
    got cuts position r h ∙ sym (slice_get-map block_items cuts position) ∙ ap (items_at (map block_items cuts)) behind
