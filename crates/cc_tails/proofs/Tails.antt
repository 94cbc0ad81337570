-- What holds of items that run on.
use Rattle.std.proofs.Common.{◌≡◌, ◌≤◌, ℕ, zero, suc, ◌+◌, List, Option, Some, None, Bool, true, false, refl, arith}
use Rattle.std.specs.Prelude.{if◌then◌else◌, max, nat_le, nat_lt}
use Rattle.std.proofs.lemmas.Bool.{leb-true}
use Rattle.cc_line.specs.Item.{Items, join, items_most}
use Rattle.cc_sched.specs.Charge.{exits}
use Rattle.cc_tails.specs.Law.{HoldsBehindCuts, TailsAreLight}
use Rattle.cc_tails.specs.Tails.{behind_cut, guarded, items_at, last_named, most_cuts, most_weight, running_on, tailed, to_cut, with_cut}

abbrev whole : Items → ℕ
whole xs = items_most xs + exits xs

-- what holds of items, and of those with a cut's behind them
abbrev Steps : ℕ → List Items → (Items → Type 0) → Type 0
Steps func cuts P = (xs ys : Items) (j : ℕ) → P xs → last_named func xs ≡ Some j → items_at cuts j ≡ Some ys → nat_le (whole (join (guarded xs) ys)) most_weight ≡ true → P (join (guarded xs) ys)

module _ (func : ℕ) (cuts : List Items) (P : Items → Type 0) (step : Steps func cuts P) where
  abbrev All : (ℕ → Items → Items) → Type 0
  All again = (at : ℕ) (xs : Items) → P xs → P (again at xs)

  in_light : (again : ℕ → Items → Items) (j : ℕ) (xs ys : Items) → All again → P xs → last_named func xs ≡ Some j → items_at cuts j ≡ Some ys → (b : Bool) → nat_le (whole (join (guarded xs) ys)) most_weight ≡ b
      → P (behind_cut again j xs (if b then Some (join (guarded xs) ys) else None))
  in_light again j xs ys all p e f true g = all j (join (guarded xs) ys) (step xs ys j p e f g)
  in_light again j xs ys all p e f false g = p

  in_cut : (again : ℕ → Items → Items) (j : ℕ) (xs : Items) → All again → P xs → last_named func xs ≡ Some j → (o : Option Items) → items_at cuts j ≡ o → P (behind_cut again j xs (with_cut xs o))
  in_cut again j xs all p e None f = p
  in_cut again j xs all p e (Some ys) f = in_light again j xs ys all p e f (nat_le (whole (join (guarded xs) ys)) most_weight) refl

  in_named : (again : ℕ → Items → Items) (at : ℕ) (xs : Items) → All again → P xs → (o : Option ℕ) → last_named func xs ≡ o → P (to_cut cuts again at xs o)
  in_named again at xs all p None e = p
  in_named again at xs all p (Some j) e = go (nat_lt at j)
    where
      go : (b : Bool) → P (if b then behind_cut again j xs (with_cut xs (items_at cuts j)) else xs)
      go true = in_cut again j xs all p e (items_at cuts j) refl
      go false = p

  in_all : (k : ℕ) → All (λ at xs. running_on func cuts k at xs)
  in_all zero at xs p = p
  in_all (suc k) at xs p = in_named (λ j ys. running_on func cuts k j ys) at xs (in_all k) p (last_named func xs) refl

pub holds : HoldsBehindCuts
unfolding tailed
holds func cuts P step xs p = in_all func cuts P (λ xs ys j p e f g. step xs ys j p e f) most_cuts 0 xs p

pub light : TailsAreLight
unfolding tailed
light func cuts xs =
    let n : ℕ = max (whole xs) most_weight in
    in_all func cuts (λ ys. whole ys ≤ n) (λ ys zs j p e f g. (let a : whole (join (guarded ys) zs) ≤ 200 = leb-true _ _ g in omega arith)) most_cuts 0 xs (omega arith)
