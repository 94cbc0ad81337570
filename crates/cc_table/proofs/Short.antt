-- The items of what looks numbers up are short, where the tables are.
use Rattle.std.proofs.Common.{◌≡◌, ℕ, zero, suc, ◌+◌, ◌*◌, List, [], ◌∷◌, ◌++◌, length, None, true, refl}
use Rattle.std.specs.Prelude.{All, ℤ}
use Rattle.std.specs.List.{AllByRecursion}
use Rattle.std.proofs.lemmas.List.Elements.{All-head, All-tail}
use Rattle.mc_cmd.proofs.FormLemmas.{and_both}
use Rattle.mc_cmd.proofs.PieceLemmas.{number_piece}
use Rattle.wm_ast.specs.declared.module.Module.{Module}
use Rattle.wm_flat.specs.Program.{IsProgram}
use Rattle.cc_line.specs.Item.{fill_item, first, no_more, steps_items}
use Rattle.cc_line.specs.State.{ints}
use Rattle.cc_line.specs.View.{look_up_steps}
use Rattle.cc_text.specs.Short.{items_short, tree_bare, tree_short}
use Rattle.cc_text.proofs.ShortItems.{piece_bare, short_join}
use Rattle.cc_text.proofs.ShortTrees.{NumberPiece, ints_piece, no_fields_short}
use Rattle.cc_table.specs.Law.{IsInt}
use Rattle.cc_table.specs.Look.{choice_site, index_steps, element_steps, find_items, look_items, look_by}
use Rattle.cc_table.specs.Target.{element_number, call_numbers, call_helper, refuse_steps, target_items}
use Rattle.cc_table.proofs.Elements.{numbers_ints}

ints_bare : (zs : List ℤ) → All IsInt zs → tree_bare (ints zs) ≡ true
ints_bare zs h = piece_bare (ints zs) (2 + length zs * 12) (ints_piece 11 zs (each zs h))
  where
    each : (zs : List ℤ) → All IsInt zs → AllByRecursion (NumberPiece 11) zs
    each [] h = tt
    each (z ∷ zs) h = (number_piece z (All-head IsInt z zs h), each zs (All-tail IsInt z zs h))

index_short : (n : ℕ) → items_short (steps_items (index_steps n)) ≡ true
index_short zero = rw no_fields_short refl
index_short (suc n) = rw no_fields_short refl

pub find_short : (zs : List ℤ) → tree_short (ints zs) ≡ true → items_short (find_items zs) ≡ true
find_short zs h = and_both _ _ h refl

pub look_short : (zs : List ℤ) (z : ℤ) → tree_short (ints (zs ++ z ∷ [])) ≡ true → items_short (look_items zs z) ≡ true
look_short zs z h = short_join (steps_items (index_steps (length zs))) (find_items (zs ++ z ∷ [])) (index_short (length zs)) (find_short (zs ++ z ∷ []) h)

pub target_short : (m : Module) → IsProgram m → (n i : ℕ) → items_short (target_items m n i) ≡ true
target_short m program n i =
    let numbers : List ℤ = call_numbers m n in
    let none : ℤ = element_number m n None in
    short_join (look_by (call_helper n) numbers none) (steps_items refuse_steps)
    (short_join (steps_items (index_steps (length numbers))) (first (fill_item (call_helper n) choice_site (look_up_steps (numbers ++ none ∷ []) element_steps)) no_more) (index_short (length numbers))
    (rw (ints_bare (call_numbers m n ++ element_number m n None ∷ []) (numbers_ints m program n)) refl)) refl
