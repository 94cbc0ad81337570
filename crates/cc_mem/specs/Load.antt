-- Loads of up to four bytes: of the word at the address, and where they lie over two, of the next one too.
use Rattle.std.specs.Prelude.{ℕ, List, [], ◌∷◌, pos, Bool, codes}
use Rattle.mc_nbt.specs.Tree.{compound, int, no_fields}
use Rattle.mc_cmd.specs.Form.{Text}
use Rattle.mc_cmd.specs.Command.{Op, assign, subtract, add, multiply, divide, remainder, exactly, from}
use Rattle.wm_ast.specs.declared.operation.LoadOp.{LoadOp}
use Rattle.wm_ast.specs.declared.operation.LoadOp.TheVariants.{I32Load, I32Load8S, I32Load8U, I32Load16S, I32Load16U}
use Rattle.cc_line.specs.Key.{scale_of}
use Rattle.cc_line.specs.Place.{Spot, scratch}
use Rattle.cc_line.specs.Step.{increase, combine, load_site, keep_site, set_site, copy_site, keep_place, in_range}
use Rattle.cc_line.specs.Step.{Cond, holds, fails, Step, run_act, when}
use Rattle.cc_line.specs.OpenStep.{OpenStep, closed_step, open_act, open_load_site, open_combine}
use Rattle.cc_line.specs.Item.{Item, step_item, call_item, call_when, fill_item, Items, no_more, first, join}
use Rattle.cc_line.specs.Item.{steps_items}
use Rattle.cc_mem.specs.Standing.{stem_byte, stem_top, stem_half, stem_rest}
use Rattle.cc_mem.specs.Address.{filling_site, filling_at, choice_site, choice_at, window_word, told_word, at_i, at_r}
use Rattle.cc_mem.specs.Address.{at_p}
use Rattle.cc_mem.specs.Address.{stop_step, there_item, missing_step, address_items}

abbrev pub at_u : Spot
at_u = scratch (codes "#u")

abbrev pub at_d : Spot
at_d = scratch (codes "#d")

abbrev pub at_k : Spot
at_k = scratch (codes "#k")

-- 256 to the power of a number below 4
abbrev pub scale : ℕ → Spot
scale r = scratch (scale_of stem_byte r)

-- ---- the word

abbrev pub word_item : Item
word_item = fill_item (codes "h_mem_word") filling_site (open_act (open_load_site (codes "#u") window_word) ∷ [])

-- ---- the next word

-- its page and its place, which may be the first one of the next page
abbrev pub next_steps : List Step
next_steps =
    run_act (combine at_k assign at_i)
    ∷ (run_act (increase at_k 1)
    ∷ (run_act (set_site choice_site (compound no_fields))
    ∷ (run_act (copy_site (choice_at (codes "a0")) (filling_at (codes "p")))
    ∷ (run_act (keep_site (choice_at (codes "a1")) (codes "#k")) ∷ []))))

abbrev pub is_over : List Cond
is_over = holds (in_range at_k (exactly (pos 16384))) ∷ []

abbrev pub over_steps : List Step
over_steps =
    run_act (load_site (codes "#p") (filling_at (codes "p")))
    ∷ (run_act (increase at_p 1)
    ∷ (run_act (keep_site (choice_at (codes "a0")) (codes "#p"))
    ∷ (run_act (set_site (choice_at (codes "a1")) (int (pos 0))) ∷ [])))

abbrev pub over_item : Item
over_item = call_when is_over (codes "h_mem_over") (steps_items over_steps)

abbrev pub told_item : Item
told_item = fill_item (codes "h_mem_told") choice_site (open_act (open_load_site (codes "#d") told_word) ∷ [])

-- it comes to `#d`; where its page doesn't stand the access traps
abbrev pub next_items : Items
next_items =
    join (steps_items next_steps)
    (first over_item (first there_item (first (step_item missing_step) (first told_item no_more))))

abbrev pub next_item : Item
next_item = call_item (codes "h_mem_next") next_items

-- ---- four bytes

abbrev pub is_unaligned : List Cond
is_unaligned = fails (in_range at_r (exactly (pos 0))) ∷ []

abbrev pub byte_step : Step
byte_step = run_act (keep_site (filling_at (codes "r")) (codes "#r"))

-- what stands from the byte on, with the lowest bytes of the next word
abbrev pub glue_steps : List OpenStep
glue_steps =
    open_act (open_combine at_u divide stem_byte (codes "r"))
    ∷ (open_act (open_combine at_u remainder stem_rest (codes "r"))
    ∷ (open_act (open_combine at_d multiply stem_rest (codes "r"))
    ∷ (closed_step (run_act (combine at_u add at_d))
    ∷ [])))

abbrev pub glued_items : Items
glued_items =
    first next_item
    (first (step_item byte_step)
    (first (fill_item (codes "h_mem_glue") filling_site glue_steps)
    no_more))

abbrev pub load32_items : Items
load32_items = first word_item (first (call_when is_unaligned (codes "h_mem_load32") glued_items) no_more)

-- ---- one byte

-- of the word, by the scale of its byte, and then by that of so many bytes
abbrev pub part_steps : Op → Text → Op → ℕ → List OpenStep
part_steps op stem last n =
    open_act (open_load_site (codes "#u") window_word)
    ∷ (open_act (open_combine at_u op stem (codes "r")) ∷ (closed_step (run_act (combine at_u last (scale n))) ∷ []))

abbrev pub byte_u_steps : List OpenStep
byte_u_steps = part_steps divide stem_byte remainder 1

abbrev pub byte_s_steps : List OpenStep
byte_s_steps = part_steps multiply stem_top divide 3

abbrev pub load8u_items : Items
load8u_items = first (step_item byte_step) (first (fill_item (codes "h_mem_byte_u") filling_site byte_u_steps) no_more)

abbrev pub load8s_items : Items
load8s_items = first (step_item byte_step) (first (fill_item (codes "h_mem_byte_s") filling_site byte_s_steps) no_more)

-- ---- two bytes

abbrev pub half_u_steps : List OpenStep
half_u_steps = part_steps divide stem_byte remainder 2

-- by a scale that there isn't for the last byte, where the word stays
abbrev pub half_s_steps : List OpenStep
half_s_steps = part_steps multiply stem_half divide 2

abbrev pub is_last : List Cond
is_last = holds (in_range at_r (exactly (pos 3))) ∷ []

-- from the last byte of a word on: that byte, and the first one of the next word
abbrev pub pair_steps : List Step
pair_steps =
    run_act (combine at_u divide (scale 3))
    ∷ (run_act (combine at_u remainder (scale 1))
    ∷ (run_act (combine at_d remainder (scale 1))
    ∷ (run_act (combine at_d multiply (scale 1)) ∷ (run_act (combine at_u add at_d) ∷ []))))

abbrev pub half_over_items : Items
half_over_items = first word_item (first next_item (steps_items pair_steps))

-- with its sign
abbrev pub sign_step : Step
sign_step = when (holds (in_range at_u (from (pos 32768))) ∷ []) (combine at_u subtract (scale 2))

abbrev pub half_over_s_items : Items
half_over_s_items = join half_over_items (steps_items (sign_step ∷ []))

abbrev pub load16u_items : Items
load16u_items =
    first (step_item byte_step)
    (first (fill_item (codes "h_mem_half_u") filling_site half_u_steps)
    (first (call_when is_last (codes "h_mem_load16u") half_over_items) no_more))

abbrev pub load16s_items : Items
load16s_items =
    first (step_item byte_step)
    (first (fill_item (codes "h_mem_half_s") filling_site half_s_steps)
    (first (call_when is_last (codes "h_mem_load16s") half_over_s_items) no_more))

-- ---- a load

abbrev pub access_items : LoadOp → Items
access_items I32Load = load32_items
access_items I32Load8S = load8s_items
access_items I32Load8U = load8u_items
access_items I32Load16S = load16s_items
access_items I32Load16U = load16u_items
access_items _ = no_more

-- of the address in the place a, with this offset, into the place r
abbrev pub load_items : Bool → LoadOp → ℕ → ℕ → ℕ → Items
load_items sure op a offset r =
    join (address_items sure a offset)
    (join (access_items op)
    (first (step_item stop_step)
    (first (step_item (run_act (keep_place r (codes "#u"))))
    no_more)))
