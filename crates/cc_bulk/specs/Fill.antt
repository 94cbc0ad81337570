-- Filling the memory, byte by byte: the test of whether all bytes lie within the memory, and
-- what one byte is written by.
use Rattle.std.specs.Prelude.{ℕ, List, [], ◌∷◌, ◌++◌, negsuc, Bool, codes}
use Rattle.mc_cmd.specs.Command.{subtract, multiply, greater, up_to}
use Rattle.wm_ast.specs.declared.operation.StoreOp.TheVariants.{I32Store8}
use Rattle.cc_line.specs.Place.{Spot, scratch}
use Rattle.cc_line.specs.Step.{increase, decrease, combine, load_place, keep_place, load_site, in_range, compare}
use Rattle.cc_line.specs.Step.{Cond, holds, Step, run_act, when}
use Rattle.cc_line.specs.Item.{Items, join, steps_items}
use Rattle.cc_mem.specs.Address.{at_c, record_trap, stop_step}
use Rattle.cc_mem.specs.Load.{at_d, scale}
use Rattle.cc_mem.specs.Size.{memory_site}
use Rattle.cc_mem.specs.Store.{store_items}

abbrev pub at_a : Spot
at_a = scratch (codes "#a")

-- ---- where bytes reach to

abbrev pub has_sign : Spot → List Cond
has_sign x = holds (in_range x (up_to (negsuc 0))) ∷ []

abbrev pub is_too_much : List Cond
is_too_much = holds (compare at_d greater at_c) ∷ []

-- The place a has the address of the first byte, and the place n how many bytes there are, both without sign.
-- Where they reach beyond the end of the memory the trap is recorded, and the list ends. The memory has
-- 65,536 bytes for each page.
abbrev pub reach_steps : ℕ → ℕ → List Step
reach_steps a n =
    run_act (load_place (codes "#a") a)
    ∷ (run_act (load_place (codes "#d") n)
    ∷ (run_act (load_site (codes "#c") memory_site)
    ∷ (run_act (combine at_c multiply (scale 2))
    ∷ (when (has_sign at_a) record_trap
    ∷ (when (has_sign at_d) record_trap
    ∷ (run_act (combine at_c subtract at_a) ∷ (when is_too_much record_trap ∷ (stop_step ∷ []))))))))

abbrev pub reach_items : ℕ → ℕ → Items
reach_items a n = steps_items (reach_steps a n)

-- ---- a byte

-- a place's number is one more, and one less
abbrev pub more_steps : ℕ → List Step
more_steps i =
    run_act (load_place (codes "#a") i) ∷ (run_act (increase at_a 1) ∷ (run_act (keep_place i (codes "#a")) ∷ []))

abbrev pub less_steps : ℕ → List Step
less_steps i =
    run_act (load_place (codes "#a") i) ∷ (run_act (decrease at_a 1) ∷ (run_act (keep_place i (codes "#a")) ∷ []))

-- The place p has an address within the memory, the place q a number, and the place r how many bytes are still to
-- be written, at least one: the number's low byte is written to the address, which is one more then, and one byte
-- less is still to be written.
abbrev pub fill_byte_items : Bool → ℕ → ℕ → ℕ → Items
fill_byte_items sure p q r = join (store_items sure I32Store8 p 0 q) (steps_items (more_steps p ++ less_steps r))
