-- The helpers that fills and copies call have names of the list of accesses.
use Rattle.std.proofs.Common.{ℕ, List, ◌++◌, Bool}
use Rattle.wm_ast.specs.declared.operation.LoadOp.TheVariants.{I32Load8U}
use Rattle.wm_ast.specs.declared.operation.StoreOp.TheVariants.{I32Store8}
use Rattle.cc_line.specs.Item.{Items, join, steps_items}
use Rattle.cc_text.specs.Tables.{IsWithin, ItemsNamed, NamedHelper}
use Rattle.cc_text.proofs.NamedItems.{named_both, named_steps}
use Rattle.cc_bulk.specs.Copy.{copy_byte_items, onward_steps, toward_steps}
use Rattle.cc_bulk.specs.Fill.{fill_byte_items, less_steps, more_steps}
use Rattle.cc_mem.specs.Helpers.{helpers}
use Rattle.cc_mem.specs.Load.{load_items}
use Rattle.cc_mem.specs.Store.{store_items}
use Rattle.cc_mem.proofs.HelperLemmas.{load_named, store_named}

module _ (all : List NamedHelper) (w : IsWithin helpers all) where
  pub fill_named : (sure : Bool) (p q r : ℕ) → ItemsNamed all (fill_byte_items sure p q r)
  fill_named sure p q r = named_both all (store_items sure I32Store8 p 0 q) (steps_items (more_steps p ++ less_steps r)) (store_named all w sure I32Store8 p 0 q) (named_steps all (more_steps p ++ less_steps r))

  pub copy_named : (sure : Bool) (p q r : ℕ) → ItemsNamed all (copy_byte_items sure p q r)
  copy_named sure p q r =
      let stored : Items = join (store_items sure I32Store8 p 0 r) (steps_items (onward_steps p q r)) in
      named_both all (steps_items (toward_steps p q r)) (join (load_items sure I32Load8U q 0 r) stored) (named_steps all (toward_steps p q r))
      (named_both all (load_items sure I32Load8U q 0 r) stored (load_named all w sure I32Load8U q 0 r)
      (named_both all (store_items sure I32Store8 p 0 r) (steps_items (onward_steps p q r)) (store_named all w sure I32Store8 p 0 r) (named_steps all (onward_steps p q r))))
