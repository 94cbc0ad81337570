-- Operations that are done on each half of an i64 by itself: and, or and xor; and counts of bits, whose result has the
-- high half 0. The low half stands in the place a, the high one in the place behind it.
use Rattle.std.specs.Prelude.{ℕ, suc, pos, List, [], ◌∷◌, codes}
use Rattle.mc_cmd.specs.Form.{Text}
use Rattle.mc_cmd.specs.Command.{assign, add, exactly}
use Rattle.wm_ast.specs.declared.operation.NumOp.{NumOp}
use Rattle.wm_ast.specs.declared.operation.NumOp.TheVariants.{I32Popcnt}
use Rattle.cc_line.specs.Place.{scratch}
use Rattle.cc_line.specs.Step.{increase, combine, set_place, in_range, fails, Step, run_act, when}
use Rattle.cc_line.specs.Item.{Items, no_more, join, steps_items}
use Rattle.cc_bits.specs.Line.{makes, where_in, loads, keeps, one_step}
use Rattle.cc_bits.specs.Operation as words

-- an operation of i32 on the low halves, and then on the high ones
abbrev pub halves_items : NumOp → ℕ → Items
halves_items op a =
    join (words.op_items op a (suc (suc a)) a) (words.op_items op (suc a) (suc (suc (suc a))) (suc a))

-- a number from a score to the place a, and 0 behind it
abbrev pub small_result : ℕ → Text → Items
small_result a h = one_step (keeps a h) (one_step (run_act (set_place (suc a) (pos 0))) no_more)

-- two places come to `#a` and `#b`
abbrev pub two_loads : ℕ → ℕ → Items → Items
two_loads p q xs = one_step (loads (codes "#a") p) (one_step (loads (codes "#b") q) xs)

-- the steps between, and a result from `#a`
abbrev pub sum_items : ℕ → List Step → Items
sum_items a xs = two_loads a (suc a) (join (steps_items xs) (small_result a (codes "#a")))

-- ---- ones

abbrev pub sum_steps : List Step
sum_steps = makes (codes "#a") add (codes "#b") ∷ []

-- those of both halves
abbrev pub popcnt_items : ℕ → Items
popcnt_items a =
    join (words.op_items I32Popcnt a a a)
    (join (words.op_items I32Popcnt (suc a) (suc a) (suc a)) (sum_items a sum_steps))

-- ---- zeros

-- where the first half isn't 0, it decides
abbrev pub choose_steps : List Step
choose_steps =
    when (fails (in_range (scratch (codes "#a")) (exactly (pos 0))) ∷ [])
    (combine (scratch (codes "#b")) assign (scratch (codes "#a"))) ∷ []

-- the half that decides comes to the place a, and the first half behind it
abbrev pub choose_items : ℕ → ℕ → ℕ → Items
choose_items a p q =
    two_loads p q (join (steps_items choose_steps)
    (one_step (keeps a (codes "#b")) (one_step (keeps (suc a) (codes "#a")) no_more)))

-- where the first half is 0, all its 32 bits count
abbrev pub whole_half : List Step
whole_half = where_in (exactly (pos 0)) (codes "#b") (increase (scratch (codes "#a")) 32) ∷ []

-- the zeros of the half that decides: for the leading ones the first half is the high one, for
-- the trailing ones the low
abbrev pub zeros_items : NumOp → ℕ → ℕ → ℕ → Items
zeros_items op a p q = join (choose_items a p q) (join (words.op_items op a a a) (sum_items a whole_half))
