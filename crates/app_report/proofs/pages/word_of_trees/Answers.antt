use Rattle.std.proofs.Common.{◌∙◌, ap, sym, Some}
use Rattle.std.specs.Prelude.{option_map}
use Rattle.std.specs.Int.{w32}
use Rattle.std.proofs.lemmas.Int.{to_z-of_z}
use Rattle.std.proofs.lemmas.Option.{slice_get-map}
use Rattle.mc_nbt.specs.Tree.{int}
use Rattle.mc_nbt.specs.View.{view}
use Rattle.app_report.proofs.PagesLemmas.{got_here, word_stands}
use Rattle.app_report.proofs.pages.word_of_trees.Goals as goal

pub int_of-requires : goal.int_of-requires
int_of-requires c =
    let t = c.index-trees-i.result in
    word_stands c.args.trees.now c.args.i t c.requires.words (got_here c.args.trees.now c.args.i t c.requires.within c.index-trees-i.is)

pub returns : goal.returns
returns c =
    let t = c.index-trees-i.result in
    slice_get-map view c.args.trees.now c.args.i ∙ ap (option_map view) (got_here c.args.trees.now c.args.i t c.requires.within c.index-trees-i.is) ∙ ap Some c.int_of.ensures ∙ ap (λ z. Some (int z)) (sym (to_z-of_z w32 c.int_of.result record { sfits = c.int_of.type_inv }))
