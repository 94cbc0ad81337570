use Rattle.std.proofs.Common.{sym, ap, ◌∙◌, map}
use Rattle.std.proofs.lemmas.List.{length-map}
use Rattle.mc_nbt.specs.Tree.{fields, tree_same, fields_same, compound_of}
use Rattle.mc_nbt.specs.View.{view, entry}
use Rattle.mc_nbt.proofs.SameLemmas.{items_differ, fields_differ}
use Rattle.mc_nbt.proofs.ViewLemmas.{view-Map}
use Rattle.mc_nbt.proofs.same.+same.Goals as goal

pub entries_same-returns-then-left-right : goal.entries_same-returns-then-left-right
entries_same-returns-then-left-right t c = fields_differ (map entry c.args.left.now) (map entry c.args.right.now) (λ e. c.if-left-right.true (sym (length-map _ _) ∙ e ∙ length-map _ _))

pub trees_same-returns-then-left-right : goal.trees_same-returns-then-left-right
trees_same-returns-then-left-right t c = items_differ (map view c.args.left.now) (map view c.args.right.now) (λ e. c.if-left-right.true (sym (length-map _ _) ∙ e ∙ length-map _ _))

pub is_same-returns-in-Compound-right : goal.is_same-returns-in-Compound-right
is_same-returns-in-Compound-right t c =
    c.entries_same.ensures ∙ ap (λ es. fields_same (fields (map entry es)) (fields (map entry c.entries-in-Compound-right.result.now))) c.entries.ensures
    ∙ ap (λ es. fields_same (fields (map entry c.in-Compound.a.entries.items)) (fields (map entry es))) c.entries-in-Compound-right.ensures
    ∙ ap (λ u. tree_same (compound_of (map entry c.in-Compound.a.entries.items)) u) (sym (ap view c.in-Compound-right.is ∙ view-Map c.in-Compound-right.b))
    ∙ ap (λ u. tree_same u (view c.args.right.now)) (sym (ap view c.in-Compound.is ∙ view-Map c.in-Compound.a))
