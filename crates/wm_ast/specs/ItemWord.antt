-- The word for a kind of items.
use Rattle.std.specs.Prelude.{ℕ, List, codes}
use Rattle.wm_ast.specs.declared.item.Item.{Item}
use Rattle.wm_ast.specs.declared.item.Item.TheVariants.{Types, Imports, Functions, Tables, Memories, Globals, Elements}
use Rattle.wm_ast.specs.declared.item.Item.TheVariants.{Datas, Start, Exports}

abbrev pub item_word : Item → List ℕ
item_word Types = codes "type"
item_word Imports = codes "import"
item_word Functions = codes "function"
item_word Tables = codes "table"
item_word Memories = codes "memory"
item_word Globals = codes "global"
item_word Elements = codes "element"
item_word Datas = codes "data"
item_word Start = codes "start"
item_word Exports = codes "export"
