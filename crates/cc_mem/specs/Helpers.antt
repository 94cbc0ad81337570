-- The helpers that accesses call, by their names, and how these begin.
use Rattle.std.specs.Prelude.{ℕ, pos, List, [], ◌∷◌, ◌++◌, codes}
use Rattle.std.specs.Fmt.{decimal}
use Rattle.mc_cmd.specs.Command.{exactly}
use Rattle.mc_cmd.specs.Form.{Text}
use Rattle.cc_line.specs.Item.{steps_items}
use Rattle.cc_line.specs.OpenStep.{open_act, open_keep_site, open_load_site, open_when}
use Rattle.cc_line.specs.Step.{holds, in_range}
use Rattle.cc_text.specs.Tables.{NamedHelper, numbered, of_items, of_steps}
use Rattle.cc_mem.specs.Address.{at_r, move_items, there_steps, told_word, window_word}
use Rattle.cc_mem.specs.Load.{byte_s_steps, byte_u_steps, glue_steps, glued_items, half_over_items, half_over_s_items}
use Rattle.cc_mem.specs.Load.{half_s_steps, half_u_steps, next_items, over_steps}
use Rattle.cc_mem.specs.Store.{across_items, change_steps, half_across_items, half_items, is_calm, spread_steps}

abbrev pub beginning : Text
beginning = codes "h_mem_"

-- those of all offsets
abbrev pub shared_helpers : List NamedHelper
shared_helpers =
    of_steps (codes "h_mem_word") (open_act (open_load_site (codes "#u") window_word) ∷ [])
    ∷ of_items (codes "h_mem_over") (steps_items over_steps)
    ∷ of_steps (codes "h_mem_there") there_steps
    ∷ of_steps (codes "h_mem_told") (open_act (open_load_site (codes "#d") told_word) ∷ [])
    ∷ of_items (codes "h_mem_next") next_items
    ∷ of_steps (codes "h_mem_glue") glue_steps
    ∷ of_items (codes "h_mem_load32") glued_items
    ∷ of_steps (codes "h_mem_byte_u") byte_u_steps
    ∷ of_steps (codes "h_mem_byte_s") byte_s_steps
    ∷ of_steps (codes "h_mem_half_u") half_u_steps
    ∷ of_steps (codes "h_mem_half_s") half_s_steps
    ∷ of_items (codes "h_mem_load16u") half_over_items
    ∷ of_items (codes "h_mem_load16s") half_over_s_items
    ∷ of_steps (codes "h_mem_put")
    (open_when (is_calm ∷ (holds (in_range at_r (exactly (pos 0))) ∷ []))
    (open_keep_site window_word (codes "#s")) ∷ [])
    ∷ of_steps (codes "h_mem_spread") spread_steps
    ∷ of_steps (codes "h_mem_put_told") (open_act (open_keep_site told_word (codes "#d")) ∷ [])
    ∷ of_steps (codes "h_mem_put_word") (open_act (open_keep_site window_word (codes "#u")) ∷ [])
    ∷ of_items (codes "h_mem_store32") across_items
    ∷ of_steps (codes "h_mem_change8") (change_steps 1)
    ∷ of_steps (codes "h_mem_change16") (change_steps 2)
    ∷ of_items (codes "h_mem_store16") half_items
    ∷ of_items (codes "h_mem_store16_over") half_across_items
    ∷ of_items (codes "h_mem_move") (move_items 0) ∷ []

-- that of a near offset, whose number is in its name
abbrev pub offset_helper : ℕ → NamedHelper
offset_helper offset = of_items (codes "h_mem_move_" ++ decimal offset) (move_items offset)

-- offsets below this one are near
unfoldable pub near_offsets : ℕ
near_offsets = 8193

abbrev pub helpers : List NamedHelper
helpers = shared_helpers ++ numbered offset_helper near_offsets
