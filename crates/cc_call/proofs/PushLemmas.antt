-- Acts that the code adds one after the other.
use Rattle.std.proofs.Common.{◌≡◌, ℕ, suc, ◌+◌, ◌-◌, ◌<◌, ◌≤◌, List, [], ◌∷◌, ◌++◌, sym, ap, ◌∙◌, arith, append_assoc, append-nil}
use Rattle.std.proofs.lemmas.List.{map-append}
use Rattle.cc_line.specs.declared.step.Act.{Act}
use Rattle.cc_line.specs.Step as step
use Rattle.cc_line.specs.View.{act_view}
use Rattle.cc_call.specs.View.{acts_view}

-- one act more, where it is the first of those that are left
pub act_more : (acts now : List Act) (x : Act) (y : step.Act) (left after whole : List step.Act) → now ≡ acts ++ (x ∷ []) → act_view x ≡ y → left ≡ y ∷ after → acts_view acts ++ left ≡ whole → acts_view now ++ after ≡ whole
act_more acts now x y left after whole n e k h =
    ap (λ (l : List Act). acts_view l ++ after) n
    ∙ (ap (λ (l : List step.Act). l ++ after) (map-append act_view acts (x ∷ []))
    ∙ (append_assoc (acts_view acts) (act_view x ∷ []) after
    ∙ (ap (λ (z : step.Act). acts_view acts ++ (z ∷ after)) e ∙ (ap (λ (l : List step.Act). acts_view acts ++ l) (sym k) ∙ h))))

pub acts_done : (acts : List Act) (left whole : List step.Act) → left ≡ [] → acts_view acts ++ left ≡ whole → acts_view acts ≡ whole
acts_done acts left whole e h = sym (append-nil (acts_view acts)) ∙ (ap (λ (l : List step.Act). acts_view acts ++ l) (sym e) ∙ h)

-- from so many on: the first of those that are left, and none
module _ (F : ℕ → ℕ → List step.Act) (one : ℕ → step.Act) (next : (k p : ℕ) → F (suc k) p ≡ one p ∷ F k (suc p)) (none : (p : ℕ) → F 0 p ≡ []) where
  pub run_more : (n i p q : ℕ) → i < n → q ≡ p + i → F (n - i) (p + i) ≡ one q ∷ F (n - (i + 1)) (p + (i + 1))
  run_more n i p q h e =
      let k : n - i ≡ suc (n - (i + 1)) = omega arith in
      let behind : suc (p + i) ≡ p + (i + 1) = omega arith in
      ap (λ (j : ℕ). F j (p + i)) k
      ∙ (next (n - (i + 1)) (p + i)
      ∙ (ap (λ (j : ℕ). one j ∷ F (n - (i + 1)) (suc (p + i))) (sym e) ∙ ap (λ (j : ℕ). one q ∷ F (n - (i + 1)) j) behind))

  pub run_none : (n i p : ℕ) → n ≤ i → F (n - i) (p + i) ≡ []
  run_none n i p h = let k : n - i ≡ 0 = omega arith in ap (λ (j : ℕ). F j (p + i)) k ∙ none (p + i)

  pub run_starts : (xs : List step.Act) (n p : ℕ) → xs ++ F (n - 0) (p + 0) ≡ xs ++ F n p
  run_starts xs n p =
      let k : n - 0 ≡ n = omega arith in
      let e : p + 0 ≡ p = omega arith in
      ap (λ (j : ℕ). xs ++ F j (p + 0)) k ∙ ap (λ (j : ℕ). xs ++ F n j) e

-- the same with two that count on
module _ (F : ℕ → ℕ → ℕ → List step.Act) (one : ℕ → ℕ → step.Act) (next : (k p q : ℕ) → F (suc k) p q ≡ one p q ∷ F k (suc p) (suc q)) (none : (p q : ℕ) → F 0 p q ≡ []) where
  pub pair_more : (n i p q a b : ℕ) → i < n → a ≡ p + i → b ≡ q + i → F (n - i) (p + i) (q + i) ≡ one a b ∷ F (n - (i + 1)) (p + (i + 1)) (q + (i + 1))
  pair_more n i p q a b h e f =
      let k : n - i ≡ suc (n - (i + 1)) = omega arith in
      let behind : suc (p + i) ≡ p + (i + 1) = omega arith in
      let behind_too : suc (q + i) ≡ q + (i + 1) = omega arith in
      ap (λ (j : ℕ). F j (p + i) (q + i)) k
      ∙ (next (n - (i + 1)) (p + i) (q + i)
      ∙ (ap (λ (j : ℕ). one j (q + i) ∷ F (n - (i + 1)) (suc (p + i)) (suc (q + i))) (sym e)
      ∙ (ap (λ (j : ℕ). one a j ∷ F (n - (i + 1)) (suc (p + i)) (suc (q + i))) (sym f)
      ∙ (ap (λ (j : ℕ). one a b ∷ F (n - (i + 1)) j (suc (q + i))) behind
      ∙ ap (λ (j : ℕ). one a b ∷ F (n - (i + 1)) (p + (i + 1)) j) behind_too))))

  pub pair_none : (n i p q : ℕ) → n ≤ i → F (n - i) p q ≡ []
  pair_none n i p q h = let k : n - i ≡ 0 = omega arith in ap (λ (j : ℕ). F j p q) k ∙ none p q

  pub pair_starts : (xs : List step.Act) (n p q : ℕ) → xs ++ F (n - 0) (p + 0) (q + 0) ≡ xs ++ F n p q
  pair_starts xs n p q =
      let k : n - 0 ≡ n = omega arith in
      let e : p + 0 ≡ p = omega arith in
      let f : q + 0 ≡ q = omega arith in
      ap (λ (j : ℕ). xs ++ F j (p + 0) (q + 0)) k ∙ (ap (λ (j : ℕ). xs ++ F n j (q + 0)) e ∙ ap (λ (j : ℕ). xs ++ F n p j) f)
