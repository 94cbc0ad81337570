use Rattle.std.proofs.Common.{◌≡◌, ◌∙◌, sym, ap, length, rules}
use Rattle.std.specs.Prelude.{vec_len}
use Rattle.std.specs.Int.{w32}
use Rattle.std.proofs.lemmas.Int.{to_z-of_z}
use Rattle.std.proofs.lemmas.List.{length-map}
use mir.Val.{SFits}
use Rattle.mc_nbt.specs.Tree.{int, of_items}
use Rattle.mc_nbt.specs.View.{list_view, view}
use Rattle.mc_nbt.proofs.ViewLemmas.{of_items-Ints, of_items-Trees}
use Rattle.mc_cmd.specs.World.{count}
use Rattle.mc_world.proofs.count.count_items.Goals as goal

pub returns-in-Ints : goal.returns-in-Ints
returns-in-Ints c =
    let v = c.in-Ints.items in
    let sized : vec_len v ≡ length v.items = search rules in
    let fits : SFits w32 c.count.result = search rules in
    to_z-of_z w32 c.count.result fits ∙ c.count.ensures ∙ ap count (c.len.ensures ∙ sized)
    ∙ sym (ap (λ l. count (length (of_items (list_view l)))) c.in-Ints.is ∙ ap (λ ts. count (length ts)) (of_items-Ints v) ∙ ap count (length-map v.items int))

pub returns-in-Trees : goal.returns-in-Trees
returns-in-Trees c =
    let v = c.in-Trees.items in
    let sized : vec_len v ≡ length v.items = search rules in
    let fits : SFits w32 c.count-in-Trees.result = search rules in
    to_z-of_z w32 c.count-in-Trees.result fits ∙ c.count-in-Trees.ensures ∙ ap count (c.len-in-Trees.ensures ∙ sized)
    ∙ sym (ap (λ l. count (length (of_items (list_view l)))) c.in-Trees.is ∙ ap (λ ts. count (length ts)) (of_items-Trees v) ∙ ap count (length-map v.items view))
