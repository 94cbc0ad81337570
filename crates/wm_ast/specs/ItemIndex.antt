-- An item of a module, by its kind and its index among the items of its kind.
use Rattle.std.specs.Prelude.{ℕ}
use Rattle.wm_ast.specs.declared.item.Item.{Item}

pub record ItemIndex : Type 0 where
  pub item : Item
  pub index : ℕ
