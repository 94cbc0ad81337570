use Rattle.std.proofs.Common.{ap, ◌∙◌, rules}
use Rattle.mc_nbt.specs.Tree as tree
use Rattle.mc_nbt.specs.Tree.{Tree, index_of, of_items, items, of_fields, fields, find, put, is_of_kind, kind}
use Rattle.mc_nbt.proofs.EditLemmas.{added}
use Rattle.mc_nbt.proofs.edit.open.add_field.Goals as goal

pub returns-in-Ok-add_entry : goal.returns-in-Ok-add_entry
returns-in-Ok-add_entry c =
    c.compound.ensures
    ∙ ap tree.compound_of (added c.args.name.now c.in-Ok.name c.args.v c.args.entries.items c.in-Ok-add_entry.entries.items c.rank_of_key-at.result c.requires (search rules) c.in-Ok.ensures.cases c.in-Ok-add_entry.ensures)
