-- What the code's lists of items show.
use Rattle.std.specs.Prelude.{List, map}
use Rattle.cc_line.specs.declared.item.Item.{Item}
use Rattle.cc_line.specs.Item as item
use Rattle.cc_line.specs.View.{item_view}

-- items as a list
abbrev pub list_view : List Item → List item.Item
list_view xs = map item_view xs
