use Rattle.std.proofs.Common.{ap, ◌∙◌, rules}
use Rattle.mc_nbt.specs.Tree as tree
use Rattle.mc_nbt.specs.Tree.{Tree, index_of, of_items, items, of_fields, fields, find, put, is_of_kind, kind}
use Rattle.mc_nbt.proofs.EditLemmas.{map_set}
use Rattle.mc_nbt.proofs.edit.put.put_number.Goals as goal

pub returns : goal.returns
returns c = c.ints_of.ensures ∙ ap tree.list_of (map_set tree.int c.args.items.items c.args.i _) ∙ search rules
