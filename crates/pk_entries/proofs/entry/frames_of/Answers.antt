use Rattle.std.proofs.Common.{◌≡◌, length, map, sym, ap, ◌∙◌, arith, rules}
use Rattle.std.proofs.lemmas.Grind.{common_steps}
use Rattle.mc_nbt.specs.Tree.{items}
use Rattle.mc_nbt.specs.View.{view, list_view}
use Rattle.mc_nbt.proofs.ViewLemmas.{list_view-Ints, list_view-Trees}
use Rattle.pk_entries.proofs.Frames.{frames_are, no_frames}
use Rattle.pk_entries.proofs.entry.frames_of.Goals as goal

pub returns-in_ok-entries-in-Trees : goal.returns-in_ok-entries-in-Trees
returns-in_ok-entries-in-Trees c =
    frames_are (list_view c.args.list.now) (map view c.as_slice.result.now) c.in_ok-entries-in-Trees.entries
    (ap list_view c.in-Trees.is ∙ list_view-Trees c.in-Trees.trees ∙ ap (λ l. items (map view l)) (sym c.as_slice.ensures.value))
    c.in_ok-entries-in-Trees.ensures

pub returns-else-is_empty : goal.returns-else-is_empty
returns-else-is_empty c =
    let some : length c.in-Ints.ints.items ≡ 0 → ⊥ = first_of (search rules, grind (arith, common_steps, rules)) in
    no_frames (list_view c.args.list.now) c.in-Ints.ints.items
    (ap list_view c.in-Ints.is ∙ list_view-Ints c.in-Ints.ints) some
