use Rattle.std.proofs.Common.{◌∙◌, sym, ap, Some}
use Rattle.std.specs.Int.{w32}
use Rattle.std.proofs.lemmas.Int.{to_z-of_z}
use Rattle.mc_nbt.specs.Tree.{int}
use Rattle.app_report.proofs.PagesLemmas.{ints_within, trees_within, ints_got, trees_got}
use Rattle.app_report.proofs.pages.word_at.Goals as goal

pub word_of_ints-requires : goal.word_of_ints-requires
word_of_ints-requires c = rw c.as_slice.ensures.value (ints_within c.args.list.now c.in-Ints.ints c.args.i c.in-Ints.is c.requires)

pub word_of_trees-requires-clause-within : goal.word_of_trees-requires-clause-within
word_of_trees-requires-clause-within c = rw c.as_slice-in-Trees.ensures.value (trees_within c.args.list.now c.in-Trees.trees c.args.i c.in-Trees.is c.requires)

pub returns-in-Ints : goal.returns-in-Ints
returns-in-Ints c =
    ints_got c.args.list.now c.in-Ints.ints c.args.i (Some (int c.word_of_ints.result)) c.in-Ints.is (rw c.as_slice.ensures.value at c.word_of_ints.ensures)
    ∙ ap (λ z. Some (int z)) (sym (to_z-of_z w32 c.word_of_ints.result record { sfits = c.word_of_ints.type_inv }))

pub returns-in-Trees : goal.returns-in-Trees
returns-in-Trees c =
    trees_got c.args.list.now c.in-Trees.trees c.args.i (Some (int c.word_of_trees.result)) c.in-Trees.is (rw c.as_slice-in-Trees.ensures.value at c.word_of_trees.ensures)
    ∙ ap (λ z. Some (int z)) (sym (to_z-of_z w32 c.word_of_trees.result record { sfits = c.word_of_trees.type_inv }))
