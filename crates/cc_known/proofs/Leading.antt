-- Steps on `#a` by computation, put together: that they find what they read, and what they leave in `#a`.
use Rattle.std.proofs.Common.{◌≡◌, List, [], ◌∷◌, ◌++◌, Some, true, refl, ap, ◌∙◌, subst}
use Rattle.std.specs.Prelude.{ℤ, codes}
use Rattle.mc_nbt.proofs.TestLemmas.{and_first, and_second, and_both}
use Rattle.mc_cmd.specs.Command.{assign}
use Rattle.cc_line.specs.State.{State, with_score}
use Rattle.cc_line.specs.Step.{Step}
use Rattle.cc_line.proofs.SettleLemmas.{pinned, settled, settled_step, with_one, score_kept}
use Rattle.cc_bits.specs.Line.{makes}
use Rattle.cc_known.specs.Mask.{after_copy}

-- ---- what steps leave

pub record Leaves (xs : List Step) (s : State) (z : ℤ) : Type 0 where
  pub finds : pinned xs s ≡ true
  pub left : (settled xs s).scores (codes "#a") ≡ Some z

settled_append : (xs ys : List Step) (s : State) → settled (xs ++ ys) s ≡ settled ys (settled xs s)
settled_append [] ys s = refl
settled_append (x ∷ xs) ys s = settled_append xs ys (settled_step x s)

pinned_append : (xs ys : List Step) (s : State) → pinned xs s ≡ true → pinned ys (settled xs s) ≡ true → pinned (xs ++ ys) s ≡ true
pinned_append [] ys s p q = q
pinned_append (x ∷ xs) ys s p q = and_both _ _ (and_first _ (pinned xs (settled_step x s)) p) (pinned_append xs ys (settled_step x s) (and_second _ (pinned xs (settled_step x s)) p) q)

pub leaves_then : (xs ys : List Step) (s : State) (z : ℤ) → pinned xs s ≡ true → Leaves ys (settled xs s) z → Leaves (xs ++ ys) s z
leaves_then xs ys s z p f = record { finds = pinned_append xs ys s p f.finds; left = ap (λ (t : State). t.scores (codes "#a")) (settled_append xs ys s) ∙ f.left }

pub leaves_none : (s : State) (z : ℤ) → s.scores (codes "#a") ≡ Some z → Leaves [] s z
leaves_none s z e = record { finds = refl; left = e }

-- ---- the state with these in `#a` and `#c`

abbrev pub with_both : State → ℤ → ℤ → State
with_both s a c = with_score (with_score s (codes "#a") a) (codes "#c") c

pub both_kept : (s : State) (a c : ℤ) → s.scores (codes "#a") ≡ Some a → s.scores (codes "#c") ≡ Some c → with_both s a c ≡ s
both_kept s a c ea ec = score_kept (with_score s (codes "#a") a) (codes "#c") c ec ∙ score_kept s (codes "#a") a ea

pub one_kept : (s : State) (a : ℤ) → s.scores (codes "#a") ≡ Some a → with_one s a ≡ s
one_kept s a e = score_kept s (codes "#a") a e

-- where nothing follows a copy it may be left out
pub copied : (xs : List Step) (s : State) (a z : ℤ) → ((t : State) → Leaves xs (with_both t a a) z) → Leaves (after_copy xs) (with_one s a) z
copied [] s a z f = record { finds = refl; left = (f s).left }
copied (x ∷ xs) s a z f =
    let t : State = settled_step (makes (codes "#c") assign (codes "#a")) (with_one s a) in
    let e : with_both t a a ≡ t = both_kept t a a refl refl in
    let g : Leaves (x ∷ xs) t z = subst (λ t. Leaves (x ∷ xs) t z) e (f t) in
    leaves_then (makes (codes "#c") assign (codes "#a") ∷ []) (x ∷ xs) (with_one s a) z refl g
