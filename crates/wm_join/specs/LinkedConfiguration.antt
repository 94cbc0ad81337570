-- Configurations of linked modules: as `Configuration` of `wm_ast`, but that a frame tells its function by the module
-- that defines it, and that one more item is there.
use Rattle.std.specs.Prelude.{ℕ, List, [], ◌∷◌}
use Rattle.mc_nbt.specs.declared.value.Value.{Value}
use Rattle.wm_ast.specs.Code.{Op, const, Code, nil, cons}
use Rattle.wm_match.specs.declared.library.Binding.{Binding}
use Rattle.wm_join.specs.LinkedStore.{Store}

mutual
  -- an item of a term
  pub data Item : Type 0 where
    value : Value → Item
    instruction : Op → Item
    -- the call of this function, whatever module the innermost frame is of
    invoke : Binding → Item
    -- how many values a branch to the label takes along, what the branch goes on with, and the body
    label : ℕ → Code → Items → Item
    -- how many results the function has, which it is, its locals, and the body
    frame : ℕ → Binding → List Value → Items → Item

  -- a term, and what stands in a label or frame
  pub data Items : Type 0 where
    empty : Items
    more : Item → Items → Items

-- a store and a term
pub record Config : Type 0 where
  pub store : Store
  pub term : Items

-- a constant is a value
abbrev pub item_of : Op → Item
item_of (const v) = value v
item_of i = instruction i

-- instructions as items
abbrev pub items_of : Code → Items
items_of nil = empty
items_of (cons i is) = more (item_of i) (items_of is)

-- items, and others behind them
abbrev pub append : Items → Items → Items
append empty js = js
append (more i is) js = more i (append is js)

-- operands, of which the last one stands first in the list, and items behind them
abbrev pub after_values : List Value → Items → Items
after_values [] is = is
after_values (v ∷ vs) is = after_values vs (more (value v) is)
