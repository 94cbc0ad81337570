-- Stores of up to four bytes: into the word at the address, and where they lie over two, into the next one too. Where
-- an access traps nothing is written: each write asks for that.
use Rattle.std.specs.Prelude.{ℕ, List, [], ◌∷◌, pos, Bool, codes}
use Rattle.mc_cmd.specs.Command.{assign, subtract, add, multiply, divide, remainder, exactly}
use Rattle.wm_ast.specs.declared.operation.StoreOp.{StoreOp}
use Rattle.wm_ast.specs.declared.operation.StoreOp.TheVariants.{I32Store, I32Store8, I32Store16}
use Rattle.cc_line.specs.Key.{score_trap}
use Rattle.cc_line.specs.Place.{Spot, scratch}
use Rattle.cc_line.specs.Step.{combine, load_place, in_range, Cond, holds, fails, Step, run_act}
use Rattle.cc_line.specs.OpenStep.{OpenStep, closed_step, open_act, open_when, open_load_site, open_keep_site}
use Rattle.cc_line.specs.OpenStep.{open_combine}
use Rattle.cc_line.specs.Item.{Item, step_item, call_when, fill_item, fill_when, Items, no_more, first, join}
use Rattle.cc_line.specs.Item.{steps_items}
use Rattle.cc_mem.specs.Standing.{stem_byte, stem_rest}
use Rattle.cc_mem.specs.Address.{filling_site, choice_site, window_word, told_word, at_r, stop_step, address_items}
use Rattle.cc_mem.specs.Load.{at_u, at_d, scale, word_item, next_item, is_unaligned, is_last, byte_step}

abbrev pub at_s : Spot
at_s = scratch (codes "#s")

abbrev pub at_y : Spot
at_y = scratch (codes "#y")

abbrev pub at_z : Spot
at_z = scratch (codes "#z")

abbrev pub is_calm : Cond
is_calm = holds (in_range (scratch score_trap) (exactly (pos 0)))

-- ---- four bytes

-- a whole word
abbrev pub put_item : Item
put_item =
    fill_item (codes "h_mem_put") filling_site
    (open_when (is_calm ∷ (holds (in_range at_r (exactly (pos 0))) ∷ [])) (open_keep_site window_word (codes "#s"))
    ∷ [])

-- Over two words: `#u` becomes the first one, whose low bytes stay, and `#d` the second one, whose high bytes do.
abbrev pub spread_steps : List OpenStep
spread_steps =
    open_act (open_combine at_u remainder stem_byte (codes "r"))
    ∷ (closed_step (run_act (combine at_y assign at_s))
    ∷ (open_act (open_combine at_y multiply stem_byte (codes "r"))
    ∷ (closed_step (run_act (combine at_u add at_y))
    ∷ (closed_step (run_act (combine at_y assign at_d))
    ∷ (open_act (open_combine at_y remainder stem_byte (codes "r"))
    ∷ (closed_step (run_act (combine at_d subtract at_y))
    ∷ (open_act (open_combine at_s divide stem_rest (codes "r"))
    ∷ (open_act (open_combine at_s remainder stem_byte (codes "r"))
    ∷ (closed_step (run_act (combine at_d add at_s)) ∷ [])))))))))

-- the words are written, the second one first
abbrev pub write_second : Item
write_second =
    fill_when (is_calm ∷ []) (codes "h_mem_put_told") choice_site
    (open_act (open_keep_site told_word (codes "#d")) ∷ [])

abbrev pub write_first : Item
write_first =
    fill_when (is_calm ∷ []) (codes "h_mem_put_word") filling_site
    (open_act (open_keep_site window_word (codes "#u")) ∷ [])

abbrev pub across_items : Items
across_items =
    first word_item
    (first next_item
    (first (step_item byte_step)
    (first (fill_item (codes "h_mem_spread") filling_site spread_steps)
    (first write_second
    (first write_first
    no_more)))))

abbrev pub store32_items : Items
store32_items = first put_item (first (call_when is_unaligned (codes "h_mem_store32") across_items) no_more)

-- ---- one byte, and two

-- the low bytes of the value, less those that stand there, as often as their place says, are added to the word
abbrev pub change_steps : ℕ → List OpenStep
change_steps width =
    open_act (open_load_site (codes "#u") window_word)
    ∷ (closed_step (run_act (combine at_y assign at_u))
    ∷ (open_act (open_combine at_y divide stem_byte (codes "r"))
    ∷ (closed_step (run_act (combine at_y remainder (scale width)))
    ∷ (closed_step (run_act (combine at_z assign at_s))
    ∷ (closed_step (run_act (combine at_z remainder (scale width)))
    ∷ (closed_step (run_act (combine at_z subtract at_y))
    ∷ (open_act (open_combine at_z multiply stem_byte (codes "r"))
    ∷ (closed_step (run_act (combine at_u add at_z))
    ∷ []))))))))

abbrev pub store8_items : Items
store8_items =
    first (step_item byte_step)
    (first (fill_item (codes "h_mem_change8") filling_site (change_steps 1)) (first write_first no_more))

-- from the last byte of a word on: that byte, and the first one of the next word
abbrev pub half_over_steps : List Step
half_over_steps =
    run_act (combine at_y assign at_u)
    ∷ (run_act (combine at_y divide (scale 3))
    ∷ (run_act (combine at_y remainder (scale 1))
    ∷ (run_act (combine at_z assign at_s)
    ∷ (run_act (combine at_z remainder (scale 1))
    ∷ (run_act (combine at_z subtract at_y)
    ∷ (run_act (combine at_z multiply (scale 3))
    ∷ (run_act (combine at_u add at_z)
    ∷ (run_act (combine at_y assign at_d)
    ∷ (run_act (combine at_y remainder (scale 1))
    ∷ (run_act (combine at_d subtract at_y)
    ∷ (run_act (combine at_s divide (scale 1))
    ∷ (run_act (combine at_s remainder (scale 1)) ∷ (run_act (combine at_d add at_s) ∷ [])))))))))))))

abbrev pub half_across_items : Items
half_across_items =
    first word_item
    (first next_item (join (steps_items half_over_steps) (first write_second (first write_first no_more))))

-- within a word
abbrev pub half_items : Items
half_items =
    first (fill_item (codes "h_mem_change16") filling_site (change_steps 2)) (first write_first no_more)

abbrev pub not_last : List Cond
not_last = fails (in_range at_r (exactly (pos 3))) ∷ []

abbrev pub store16_items : Items
store16_items =
    first (step_item byte_step)
    (first (call_when not_last (codes "h_mem_store16") half_items)
    (first (call_when is_last (codes "h_mem_store16_over") half_across_items) no_more))

-- ---- a store

abbrev pub write_items : StoreOp → Items
write_items I32Store = store32_items
write_items I32Store8 = store8_items
write_items I32Store16 = store16_items
write_items _ = no_more

-- of the value in the place v to the address in the place a, with this offset
abbrev pub store_items : Bool → StoreOp → ℕ → ℕ → ℕ → Items
store_items sure op a offset v =
    join (address_items sure a offset)
    (first (step_item (run_act (load_place (codes "#s") v)))
    (join (write_items op) (first (step_item stop_step) no_more)))
