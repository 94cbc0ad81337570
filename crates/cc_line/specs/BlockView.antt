-- What blocks, functions and pieces show.
use Rattle.std.specs.Prelude.{List, map}
use Rattle.cc_line.specs.declared.block.Block.{Block}
use Rattle.cc_line.specs.declared.block.Function.{Function}
use Rattle.cc_line.specs.Item.{Items, Helper}
use Rattle.cc_line.specs.View.{items_view}

-- the items of a block
abbrev pub block_items : Block → Items
block_items b = items_view b.items.items

-- a function as a helper
abbrev pub function_view : Function → Helper
function_view f = record { name = f.name; lines = f.lines }

abbrev pub functions_view : List Function → List Helper
functions_view fs = map function_view fs
