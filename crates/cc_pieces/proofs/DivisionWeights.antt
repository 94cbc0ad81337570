-- What the pieces of a division weigh at most.
use Rattle.std.proofs.Common.{ℕ, ◌+◌, ◌≤◌, refl, arith, codes}
use Rattle.std.proofs.lemmas.Bool.{leb-true}
use Rattle.mc_cmd.specs.Form.{Text}
use Rattle.wm_ast.specs.declared.operator.BinaryOp.{BinaryOp}
use Rattle.wm_ast.specs.declared.operator.BinaryOp.TheVariants.{DivS, DivU, RemS, RemU}
use Rattle.cc_line.specs.Item.{Items, join, steps_items, items_most}
use Rattle.cc_line.proofs.OnPlacesLemmas.{load_most, keep_most}
use Rattle.cc_line.proofs.RunLemmas.{join_most}
use Rattle.cc_div64.specs.Division.{load_steps, loaded_items, begin_items, turns_items, minus_dividend, is_negated, take_remainder, keep_steps, end_items}

loads_weigh : (a : ℕ) (xs : Items) → items_most xs ≤ 79 → items_most (join (steps_items (load_steps a)) xs) ≤ 87
loads_weigh a xs l =
    let j = join_most (steps_items (load_steps a)) xs in
    let d = load_most (codes "#d") a in
    let e = load_most (codes "#e") (a + 1) in
    let m = load_most (codes "#m") (a + 2) in
    let n = load_most (codes "#n") (a + 3) in
    omega arith

pub begin_weighs : (d : BinaryOp) (a : ℕ) → items_most (begin_items d a) ≤ 87
begin_weighs DivS a = loads_weigh a (loaded_items DivS) (leb-true (items_most (loaded_items DivS)) 79 refl)
begin_weighs DivU a = loads_weigh a (loaded_items DivU) (leb-true (items_most (loaded_items DivU)) 79 refl)
begin_weighs RemS a = loads_weigh a (loaded_items RemS) (leb-true (items_most (loaded_items RemS)) 79 refl)
begin_weighs RemU a = loads_weigh a (loaded_items RemU) (leb-true (items_most (loaded_items RemU)) 79 refl)
begin_weighs _ a = omega arith

pub turns_weigh : items_most turns_items ≤ 233
turns_weigh = leb-true (items_most turns_items) 233 refl

keeps_weigh : (a : ℕ) (l h : Text) → items_most (steps_items (keep_steps a l h)) ≤ 4
keeps_weigh a l h = let x = keep_most a l in let y = keep_most (a + 1) h in omega arith

pub end_weighs : (d : BinaryOp) (a : ℕ) → items_most (end_items d a) ≤ 13
end_weighs DivS a =
    let k = keeps_weigh a (codes "#d") (codes "#e") in
    let j = join_most (minus_dividend is_negated) (steps_items (keep_steps a (codes "#d") (codes "#e"))) in
    let m : items_most (minus_dividend is_negated) ≤ 7 = leb-true (items_most (minus_dividend is_negated)) 7 refl in
    omega arith
end_weighs DivU a = let k = keeps_weigh a (codes "#d") (codes "#e") in omega arith
end_weighs RemS a =
    let k = keeps_weigh a (codes "#d") (codes "#e") in
    let j = join_most (minus_dividend is_negated) (steps_items (keep_steps a (codes "#d") (codes "#e"))) in
    let i = join_most (steps_items take_remainder) (join (minus_dividend is_negated) (steps_items (keep_steps a (codes "#d") (codes "#e")))) in
    let m : items_most (minus_dividend is_negated) ≤ 7 = leb-true (items_most (minus_dividend is_negated)) 7 refl in
    let t : items_most (steps_items take_remainder) ≤ 2 = leb-true (items_most (steps_items take_remainder)) 2 refl in
    omega arith
end_weighs RemU a = let k = keeps_weigh a (codes "#p") (codes "#r") in omega arith
end_weighs _ a = omega arith
