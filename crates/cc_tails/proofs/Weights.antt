-- What items weigh that run on, with a line for each way out.
use Rattle.std.proofs.Common.{◌≡◌, ℕ, suc, ◌+◌, Bool, true, false, arith}
use Rattle.std.specs.Prelude.{if◌then◌else◌, nat_le}
use Rattle.cc_line.specs.Step.{run_act, when, stop_when}
use Rattle.cc_line.specs.Item.{Item, step_item, call_item, call_when, fill_item, fill_when, Items, no_more, first, join, items_most}
use Rattle.cc_line.proofs.RunLemmas.{join_most}
use Rattle.cc_sched.specs.Charge.{exits}
use Rattle.cc_stops.specs.Stops.{has_trapped}
use Rattle.cc_tails.specs.Tails.{ends_trapped, guarded, most_weight}
use Rattle.cc_tails.specs.steps.Ways.{guard_weight, item_exits}

none_more : (n : ℕ) → n ≡ 0 + n
none_more n = omega arith

one_more : (n : ℕ) → suc n ≡ 1 + n
one_more n = omega arith

pub exits_first : (x : Item) (xs : Items) → exits (first x xs) ≡ item_exits x + exits xs
exits_first (step_item (run_act a)) xs = none_more (exits xs)
exits_first (step_item (when cs a)) xs = none_more (exits xs)
exits_first (step_item (stop_when cs)) xs = one_more (exits xs)
exits_first (call_item f ys) xs = none_more (exits xs)
exits_first (call_when cs f ys) xs = none_more (exits xs)
exits_first (fill_item f p ys) xs = none_more (exits xs)
exits_first (fill_when cs f p ys) xs = none_more (exits xs)

-- the end of the first ones is no way out any more
pub join_exits : (xs ys : Items) → suc (exits (join xs ys)) ≡ exits xs + exits ys
join_exits no_more ys = one_more (exits ys)
join_exits (first x xs) ys =
    let i : suc (exits (join xs ys)) ≡ exits xs + exits ys = join_exits xs ys in
    let a : exits (first x (join xs ys)) ≡ item_exits x + exits (join xs ys) = exits_first x (join xs ys) in
    let b : exits (first x xs) ≡ item_exits x + exits xs = exits_first x xs in
    omega arith

abbrev whole : Items → ℕ
whole xs = items_most xs + exits xs

join_whole : (xs ys : Items) → suc (whole (join xs ys)) ≡ whole xs + whole ys
join_whole xs ys =
    let a : items_most (join xs ys) ≡ items_most xs + items_most ys = join_most xs ys in
    let b : suc (exits (join xs ys)) ≡ exits xs + exits ys = join_exits xs ys in
    omega arith

guarded_whole : (xs : Items) → whole (guarded xs) ≡ whole xs + guard_weight xs
guarded_whole xs = go (ends_trapped false xs)
  where
    go : (b : Bool) → whole (if b then join xs (first (step_item (stop_when has_trapped)) no_more) else xs) ≡ whole xs + (if b then 3 else 0)
    go true =
        let j : suc (whole (join xs (first (step_item (stop_when has_trapped)) no_more))) ≡ whole xs + 4 = join_whole xs (first (step_item (stop_when has_trapped)) no_more) in
        omega arith
    go false = omega arith

pub both_whole : (xs ys : Items) → suc (whole (join (guarded xs) ys)) ≡ (whole xs + whole ys) + guard_weight xs
both_whole xs ys =
    let a : suc (whole (join (guarded xs) ys)) ≡ whole (guarded xs) + whole ys = join_whole (guarded xs) ys in
    let b : whole (guarded xs) ≡ whole xs + guard_weight xs = guarded_whole xs in
    omega arith

as_light : (m n : ℕ) → suc m ≡ n → nat_le m 200 ≡ nat_le n 201
as_light m n e = grind arith

pub both_light : (xs ys : Items) → nat_le (whole (join (guarded xs) ys)) most_weight ≡ nat_le ((whole xs + whole ys) + guard_weight xs) 201
both_light xs ys = as_light (whole (join (guarded xs) ys)) _ (both_whole xs ys)
