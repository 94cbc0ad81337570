-- The items of accesses are short.
use Rattle.std.proofs.Common.{◌≡◌, ℕ, List, [], ◌∷◌, ◌++◌, Bool, true, false, refl, arith}
use Rattle.std.specs.Prelude.{codes, negsuc, pos, if◌then◌else◌, nat_le, nat_eq}
use Rattle.mc_cmd.specs.Command.{add, multiply, subtract}
use Rattle.mc_cmd.proofs.FormLemmas.{and_both}
use Rattle.wm_ast.specs.declared.operation.LoadOp.{LoadOp}
use Rattle.wm_ast.specs.declared.operation.LoadOp.TheVariants.{I32Load, I32Load8S, I32Load8U, I32Load16S, I32Load16U}
use Rattle.wm_ast.specs.declared.operation.StoreOp.{StoreOp}
use Rattle.wm_ast.specs.declared.operation.StoreOp.TheVariants.{I32Store, I32Store8, I32Store16}
use Rattle.cc_line.specs.Place.{scratch}
use Rattle.cc_line.specs.Key.{score_four, score_window}
use Rattle.cc_line.specs.Step.{combine, decrease, increase, keep_place, keep_site, load_place, Step, run_act}
use Rattle.cc_line.specs.Item.{Items, step_item, call_when, no_more, first, join, steps_items}
use Rattle.cc_text.specs.Short.{items_short, steps_short}
use Rattle.cc_text.proofs.ShortItems.{short_both, short_steps, short_join}
use Rattle.cc_text.proofs.ShortTrees.{int_short, no_fields_short}
use Rattle.cc_mem.specs.Address.{add_steps, address_items, again_steps, at_i, at_r, beside_window, empty_steps, far_steps, filling_at, find_items, is_told, locate_steps, lost_steps, most_near}
use Rattle.cc_mem.specs.Address.{move_items, move_name, move_steps, no_offset, page_steps, split_steps, start_steps, stop_step, there_item, unless_inside}
use Rattle.cc_mem.specs.Load.{access_items, load_items}
use Rattle.cc_mem.specs.Size.{size_items}
use Rattle.cc_mem.specs.Store.{store_items, write_items}

add_short : (offset : ℕ) → steps_short (add_steps offset) ≡ true
add_short offset = go (nat_eq offset 0)
  where
    go : (b : Bool) → steps_short (if b then [] else run_act (increase at_i offset) ∷ []) ≡ true
    go true = refl
    go false = refl

empty_short : (sure : Bool) → steps_short (empty_steps sure) ≡ true
empty_short true = refl
empty_short false = refl

far_short : (offset : ℕ) → steps_short (far_steps offset) ≡ true
far_short offset = go (nat_le offset most_near)
  where
    go : (b : Bool) → steps_short (if b then [] else unless_inside (negsuc 33554431) ∷ []) ≡ true
    go true = refl
    go false = refl

start_short : (a offset : ℕ) → steps_short (start_steps a offset) ≡ true
start_short a offset =
    let added : List Step = add_steps offset ++ split_steps in
    short_both (far_steps offset) (run_act (combine at_i subtract (scratch score_window)) ∷ added) (far_short offset)
    (short_both (add_steps offset) split_steps (add_short offset) refl)

-- the helper of an offset
again_short : (offset : ℕ) → steps_short (again_steps offset) ≡ true
again_short offset = go (is_told offset)
  where
    go : (b : Bool)
        → steps_short
        (run_act (combine at_i multiply (scratch score_four))
        ∷ (run_act (combine at_i add at_r)
        ∷ (run_act (combine at_i add (scratch score_window))
        ∷ ((if b then run_act (decrease at_i offset) ∷ [] else [])
        ++ (unless_inside (pos no_offset) ∷ (if b then run_act (increase at_i offset) ∷ [] else [])))))) ≡ true
    go true = refl
    go false = refl

move_short : (offset : ℕ) → items_short (move_items offset) ≡ true
move_short offset =
    let located : List Step = split_steps ++ page_steps in
    let moved : Items = first there_item (steps_items move_steps) in
    short_join (steps_items (locate_steps offset)) moved
    (short_steps (locate_steps offset) (short_both (again_steps offset) located (again_short offset) (rw no_fields_short refl))) refl

address_short : (sure : Bool) (a offset : ℕ) → items_short (address_items sure a offset) ≡ true
address_short sure a offset = go (nat_le no_offset offset)
  where
    moved : Items
    moved = first (call_when (beside_window offset) (move_name offset) (move_items offset)) (first (step_item (run_act (keep_site (filling_at (codes "i")) (codes "#i")))) no_more)

    go : (b : Bool) → items_short (if b then steps_items lost_steps else find_items sure a offset) ≡ true
    go true = refl
    go false =
        short_join (steps_items (empty_steps sure)) (join (steps_items (start_steps a offset)) moved) (short_steps (empty_steps sure) (empty_short sure))
        (short_join (steps_items (start_steps a offset)) moved (short_steps (start_steps a offset) (start_short a offset)) (and_both (items_short (move_items offset)) true (move_short offset) refl))

read_short : (op : LoadOp) → items_short (access_items op) ≡ true
read_short I32Load = rw (no_fields_short, int_short 0 (omega arith)) refl
read_short I32Load8S = refl
read_short I32Load8U = refl
read_short I32Load16S = rw (no_fields_short, int_short 0 (omega arith)) refl
read_short I32Load16U = rw (no_fields_short, int_short 0 (omega arith)) refl
read_short _ = refl

pub load_short : (sure : Bool) (op : LoadOp) (a offset r : ℕ) → items_short (load_items sure op a offset r) ≡ true
load_short sure op a offset r =
    let kept : Items = first (step_item stop_step) (first (step_item (run_act (keep_place r (codes "#u")))) no_more) in
    short_join (address_items sure a offset) (join (access_items op) kept) (address_short sure a offset) (short_join (access_items op) kept (read_short op) refl)

write_short : (op : StoreOp) → items_short (write_items op) ≡ true
write_short I32Store = rw (no_fields_short, int_short 0 (omega arith)) refl
write_short I32Store8 = refl
write_short I32Store16 = rw (no_fields_short, int_short 0 (omega arith)) refl
write_short _ = refl

pub store_short : (sure : Bool) (op : StoreOp) (a offset v : ℕ) → items_short (store_items sure op a offset v) ≡ true
store_short sure op a offset v =
    let stop : Items = first (step_item stop_step) no_more in
    short_join (address_items sure a offset) (first (step_item (run_act (load_place (codes "#s") v))) (join (write_items op) stop)) (address_short sure a offset) (short_join (write_items op) stop (write_short op) refl)

pub size_short : (r : ℕ) → items_short (size_items r) ≡ true
size_short r = refl
