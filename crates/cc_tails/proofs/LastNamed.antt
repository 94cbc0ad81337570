-- The last of a list of items.
use Rattle.std.proofs.Common.{◌≡◌, ℕ, suc, ◌-◌, List, [], ◌∷◌, length, Option, Some, sym, ap, ◌∙◌, arith}
use Rattle.std.specs.Prelude.{slice_get}
use Rattle.cc_line.specs.declared.item.Item.{Item}
use Rattle.cc_line.specs.View.{item_view, items_view}
use Rattle.cc_tails.specs.Tails.{cut_named, last_named}

pub last_is : (func : ℕ) (xs : List Item) (x : Item) (o : Option ℕ) → slice_get xs (length xs - 1) ≡ Some x → o ≡ cut_named func (item_view x) → o ≡ last_named func (items_view xs)
last_is func [] x o e f = absurd cc
last_is func (y ∷ []) x o e f = let same : x ≡ y = cc in f ∙ ap (λ (z : Item). cut_named func (item_view z)) same
last_is func (y ∷ (z ∷ zs)) x o e f =
    let same : length (y ∷ (z ∷ zs)) - 1 ≡ suc (length (z ∷ zs) - 1) = omega arith in
    last_is func (z ∷ zs) x o (sym (ap (slice_get (y ∷ (z ∷ zs))) same) ∙ e) f
