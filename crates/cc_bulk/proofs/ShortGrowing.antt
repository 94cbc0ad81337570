-- The items of what grows, fills and copies are short: beside names of pieces, a page of zeros is all that is laid down.
use Rattle.std.proofs.Common.{◌≡◌, ◌∙◌, ℕ, ◌++◌, Bool, true, refl, sym, ap, arith}
use Rattle.mc_cmd.proofs.FormLemmas.{and_both}
use Rattle.mc_cmd.specs.Layout.{page_words}
use Rattle.wm_ast.specs.declared.operation.LoadOp.TheVariants.{I32Load8U}
use Rattle.wm_ast.specs.declared.operation.StoreOp.TheVariants.{I32Store8}
use Rattle.cc_line.specs.Item.{Items, join, steps_items}
use Rattle.cc_text.specs.Short.{items_short, tree_short}
use Rattle.cc_text.proofs.ShortItems.{short_join}
use Rattle.cc_text.proofs.ShortTrees.{zeros_short}
use Rattle.cc_bulk.specs.Copy.{copy_byte_items, onward_steps, toward_steps}
use Rattle.cc_bulk.specs.Fill.{fill_byte_items, less_steps, more_steps, reach_items}
use Rattle.cc_bulk.specs.Grow.{zero_tree, grow_items, grower_items}
use Rattle.cc_mem.specs.Load.{load_items}
use Rattle.cc_mem.specs.Store.{store_items}
use Rattle.cc_bulk.proofs.GrowCode.{zero_leaf}
use Rattle.cc_mem.proofs.ShortAccesses.{load_short, store_short}

-- ---- growing

pub grow_short : (most a : ℕ) → items_short (grow_items most a) ≡ true
grow_short most a = refl

page_short : tree_short zero_tree ≡ true
page_short = ap tree_short (sym zero_leaf) ∙ zeros_short page_words (omega arith)

pub grower_short : items_short grower_items ≡ true
grower_short = and_both _ _ page_short refl

-- ---- bytes

pub reach_short : (a n : ℕ) → items_short (reach_items a n) ≡ true
reach_short a n = refl

pub fill_byte_short : (sure : Bool) (p q r : ℕ) → items_short (fill_byte_items sure p q r) ≡ true
fill_byte_short sure p q r = short_join (store_items sure I32Store8 p 0 q) (steps_items (more_steps p ++ less_steps r)) (store_short sure I32Store8 p 0 q) refl

pub copy_byte_short : (sure : Bool) (p q r : ℕ) → items_short (copy_byte_items sure p q r) ≡ true
copy_byte_short sure p q r =
    let stored : Items = join (store_items sure I32Store8 p 0 r) (steps_items (onward_steps p q r)) in
    short_join (steps_items (toward_steps p q r)) (join (load_items sure I32Load8U q 0 r) stored) refl
    (short_join (load_items sure I32Load8U q 0 r) stored (load_short sure I32Load8U q 0 r) (short_join (store_items sure I32Store8 p 0 r) (steps_items (onward_steps p q r)) (store_short sure I32Store8 p 0 r) refl))
