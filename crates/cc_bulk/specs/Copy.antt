-- Copying within the memory, byte by byte: what one byte is copied by.
use Rattle.std.specs.Prelude.{ℕ, List, [], ◌∷◌, Bool, codes}
use Rattle.mc_cmd.specs.Command.{subtract, add, greater}
use Rattle.wm_ast.specs.declared.operation.LoadOp.TheVariants.{I32Load8U}
use Rattle.wm_ast.specs.declared.operation.StoreOp.TheVariants.{I32Store8}
use Rattle.cc_line.specs.Sight.{in_rest}
use Rattle.cc_line.specs.Key.{key_entry}
use Rattle.cc_line.specs.State.{Site, at_key}
use Rattle.cc_line.specs.Step.{increase, decrease, combine, load_place, keep_place, load_site, keep_site, compare}
use Rattle.cc_line.specs.Step.{Cond, holds, fails, Step, run_act, when}
use Rattle.cc_line.specs.Item.{Items, join, steps_items}
use Rattle.cc_mem.specs.Address.{at_c}
use Rattle.cc_mem.specs.Load.{at_d, load_items}
use Rattle.cc_mem.specs.Store.{store_items}
use Rattle.cc_bulk.specs.Fill.{at_a}

-- where the count stands while the byte is in its place
abbrev pub count_site : Site
count_site = at_key in_rest key_entry

-- the bytes go up, so the last one is copied first; and they don't
abbrev pub goes_up : List Cond
goes_up = holds (compare at_c greater at_d) ∷ []

abbrev pub goes_down : List Cond
goes_down = fails (compare at_c greater at_d) ∷ []

-- One byte less is still to be copied, and as many stand behind the address of the byte that is copied next, where
-- bytes go up. Such an address stays above one that it was above.
abbrev pub toward_steps : ℕ → ℕ → ℕ → List Step
toward_steps p q r =
    run_act (load_place (codes "#a") r)
    ∷ (run_act (decrease at_a 1)
    ∷ (run_act (keep_site count_site (codes "#a"))
    ∷ (run_act (load_place (codes "#c") p)
    ∷ (run_act (load_place (codes "#d") q)
    ∷ (when goes_up (combine at_c add at_a)
    ∷ (when goes_up (combine at_d add at_a)
    ∷ (run_act (keep_place p (codes "#c")) ∷ (run_act (keep_place q (codes "#d")) ∷ []))))))))

-- the addresses again, or, where bytes don't go up, the next ones
abbrev pub onward_steps : ℕ → ℕ → ℕ → List Step
onward_steps p q r =
    run_act (load_site (codes "#a") count_site)
    ∷ (run_act (load_place (codes "#c") p)
    ∷ (run_act (load_place (codes "#d") q)
    ∷ (when goes_up (combine at_d subtract at_a)
    ∷ (when goes_up (combine at_c subtract at_a)
    ∷ (when goes_down (increase at_d 1)
    ∷ (when goes_down (increase at_c 1)
    ∷ (run_act (keep_place p (codes "#c"))
    ∷ (run_act (keep_place q (codes "#d")) ∷ (run_act (keep_place r (codes "#a")) ∷ [])))))))))

-- The place p has the address to which bytes are copied, the place q that from which they are, and the place r how many
-- are still to be copied, at least one: one of them is, and the places have what is said of the others.
abbrev pub copy_byte_items : Bool → ℕ → ℕ → ℕ → Items
copy_byte_items sure p q r =
    join (steps_items (toward_steps p q r))
    (join (load_items sure I32Load8U q 0 r)
    (join (store_items sure I32Store8 p 0 r) (steps_items (onward_steps p q r))))
