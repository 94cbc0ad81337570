-- The turns of a piece, one after the other.
use Rattle.std.proofs.Common.{◌≡◌, ℕ, suc, ◌+◌, ◌-◌, ◌<◌, ◌≤◌, List, ◌++◌, sym, ap, ◌∙◌, append_assoc, arith}
use Rattle.wm_place.specs.Visit.{Visit}
use Rattle.cc_line.specs.Item.{Item, Items}
use Rattle.cc_pieces.specs.Lists.{listed}
use Rattle.cc_body.specs.steps.Emission.{Ground, lead_list, ask_list, turn_list}

module _ (g : Ground) (v : Visit) (turn : Items) (n : ℕ) where
  -- one turn more, of so many
  pub turn_more : (k : ℕ) (old now asked whole : List Item) → k < n → asked ≡ old ++ ask_list g v → now ≡ asked ++ listed turn → old ++ turn_list g v turn (n - k) ≡ whole → now ++ turn_list g v turn (n - (k + 1)) ≡ whole
  turn_more k old now asked whole l e f so_far =
      let m : ℕ = n - (k + 1) in
      let left : n - k ≡ suc (n - (k + 1)) = omega arith in
      ap (λ (xs : List Item). xs ++ turn_list g v turn m) (f ∙ ap (λ (xs : List Item). xs ++ listed turn) e)
      ∙ (append_assoc (old ++ ask_list g v) (listed turn) (turn_list g v turn m)
      ∙ (append_assoc old (ask_list g v) (listed turn ++ turn_list g v turn m)
      ∙ (ap (λ (j : ℕ). old ++ turn_list g v turn j) (sym left) ∙ so_far)))

  -- where there have been so many
  pub turns_done : (k : ℕ) (old now whole : List Item) → n ≤ k → now ≡ old ++ lead_list g v.path → old ++ turn_list g v turn (n - k) ≡ whole → now ≡ whole
  turns_done k old now whole l e so_far =
      let none : n - k ≡ 0 = omega arith in
      e ∙ (ap (λ (j : ℕ). old ++ turn_list g v turn j) (sym none) ∙ so_far)
