-- Calls of a turn, one after the other.
use Rattle.std.proofs.Common.{◌≡◌, ℕ, zero, suc, ◌+◌, refl, ap, ap₂, ◌∙◌, arith, codes}
use Rattle.cc_line.specs.Item.{Item, Items, no_more, first, call_item, join}
use Rattle.cc_div64.specs.Division.{turn, turn_calls}

one_behind : (k : ℕ) → join (turn_calls k no_more) (first (call_item (codes "h_cc_div_turn") turn) no_more) ≡ turn_calls (suc k) no_more
one_behind zero = refl
one_behind (suc k) = ap (first (call_item (codes "h_cc_div_turn") turn)) (one_behind k)

pub call_pushed : (k : ℕ) (xs ys : Items) (x : Item) → xs ≡ turn_calls k no_more → x ≡ call_item (codes "h_cc_div_turn") turn → ys ≡ join xs (first x no_more) → ys ≡ turn_calls (k + 1) no_more
call_pushed k xs ys x e f g =
    g ∙ ap₂ (λ zs z. join zs (first z no_more)) e f ∙ one_behind k ∙ (let n : suc k ≡ k + 1 = omega arith in ap (λ m. turn_calls m no_more) n)
