-- What is left to print of a list or a compound, of which some has been printed or nothing yet.
use Rattle.std.proofs.Common.{ℕ, List, Bool, true, false}
use Rattle.mc_nbt.specs.Tree.{Items, Fields}
use Rattle.mc_nbt.specs.Spelling.{first_item_text, more_items_text, first_field_text, more_fields_text}

abbrev pub items_left : Bool → Items → List ℕ
items_left false ts = first_item_text ts
items_left true ts = more_items_text ts

abbrev pub fields_left : Bool → Fields → List ℕ
fields_left false fs = first_field_text fs
fields_left true fs = more_fields_text fs
