-- The grower as code: the leaf that is a page of zeros, and the steps that append, one after the other.
use Rattle.std.proofs.Common.{◌≡◌, ℕ, zero, suc, ◌+◌, List, [], ◌∷◌, ◌++◌, map, replicate, refl, sym, ap, ap₂, ◌∙◌, append_assoc, arith}
use Rattle.std.specs.Prelude.{pos}
use Rattle.std.proofs.lemmas.List.{map-append}
use Rattle.mc_nbt.specs.Tree.{int, list_of}
use Rattle.mc_cmd.specs.Layout.{page_words}
use Rattle.cc_line.specs.declared.step.Step as code
use Rattle.cc_line.specs.Step.{Step}
use Rattle.cc_line.specs.View.{zeros, step_view, steps_view}
use Rattle.cc_page.specs.Pages.{signed_word}
use Rattle.cc_bulk.specs.Grow.{zero_tree, append_step, append_steps}

zeros_ints : (n : ℕ) → map int (replicate n (pos 0)) ≡ map (λ m. int (signed_word m)) (replicate n 0)
zeros_ints zero = refl
zeros_ints (suc n) = ap (λ l. int (pos 0) ∷ l) (zeros_ints n)

-- a list of so many zeros is that page
pub zero_leaf : zeros page_words ≡ zero_tree
unfolding zero_tree
zero_leaf = ap list_of (zeros_ints page_words)

-- ---- one step more that appends

append_last : (n k : ℕ) → append_steps n (suc k) ≡ append_steps n k ++ (append_step (n + k) ∷ [])
append_last n zero = let e : n ≡ n + 0 = omega arith in ap (λ m. append_step m ∷ []) e
append_last n (suc k) =
    let e : suc n + k ≡ n + suc k = omega arith in
    ap (λ l. append_step n ∷ l) (append_last (suc n) k ∙ ap (λ m. append_steps (suc n) k ++ (append_step m ∷ [])) e)

pub appends_pushed : (old : List Step) (xs ys : List code.Step) (x : code.Step) (k : ℕ) → steps_view xs ≡ old ++ append_steps 1 k → ys ≡ xs ++ (x ∷ []) → step_view x ≡ append_step (k + 1)
    → steps_view ys ≡ old ++ append_steps 1 (k + 1)
appends_pushed old xs ys x k e f g =
    let last : k + 1 ≡ 1 + k = omega arith in
    let next : suc k ≡ k + 1 = omega arith in
    ap steps_view f ∙ map-append step_view xs (x ∷ []) ∙ ap₂ (λ l s. l ++ (s ∷ [])) e (g ∙ ap append_step last) ∙ append_assoc old (append_steps 1 k) (append_step (1 + k) ∷ [])
    ∙ ap (λ l. old ++ l) (sym (append_last 1 k) ∙ ap (append_steps 1) next)
