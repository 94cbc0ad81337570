-- The lines of the operations on numbers of 64 bits in two spots each, the low half first, and where they stand: one
-- behind the other from a place on.
use Rattle.std.specs.Prelude.{ℕ, suc, List, [], ◌∷◌, ◌++◌, ℤ, pos, negsuc, codes}
use Rattle.mc_cmd.specs.Command.{Op, assign, add, subtract, remainder, Cmp, less, equal, exactly, from, up_to}
use Rattle.cc_line.specs.Place.{Spot, scratch}
use Rattle.cc_line.specs.Step.{set_spot, increase, decrease, combine, set_place, in_range, compare, Cond, holds, fails}
use Rattle.cc_line.specs.Step.{Step, run_act, when}
use Rattle.cc_line.specs.Core.{spot_of, fetch, bring_back}

-- four spots, the halves of two numbers
abbrev pub Core : Type 0
Core = Spot → Spot → Spot → Spot → List Step

abbrev pub least : ℤ
least = negsuc 2147483647

-- ---- single lines

abbrev pub combines : Spot → Op → Spot → Step
combines x op y = run_act (combine x op y)

abbrev pub sets : Spot → ℤ → Step
sets x z = run_act (set_spot x z)

abbrev pub so : Spot → Cmp → Spot → Cond
so x c y = holds (compare x c y)

-- scores that the operands are never in
abbrev pub spare_e : Spot
spare_e = scratch (codes "#e")

abbrev pub spare_f : Spot
spare_f = scratch (codes "#f")

abbrev pub spare_g : Spot
spare_g = scratch (codes "#g")

abbrev pub spare_h : Spot
spare_h = scratch (codes "#h")

-- ---- on spots

-- the sum, in the first two spots: 1 is carried where the sum of the low halves is below the second of them without
-- sign. With the least number added to both, they compare so with their signs.
abbrev pub sum : Core
sum al ah bl bh =
    combines al add bl
    ∷ (combines ah add bh
    ∷ (sets spare_e least
    ∷ (combines spare_f assign bl
    ∷ (combines spare_f add spare_e
    ∷ (combines spare_e add al
    ∷ (when (so spare_e less spare_f ∷ []) (increase ah 1)
    ∷ []))))))

-- the difference: 1 is borrowed where the first low half is below the second one without sign
abbrev pub difference : Core
difference al ah bl bh =
    sets spare_e least
    ∷ (combines spare_f assign bl
    ∷ (combines spare_f add spare_e
    ∷ (combines spare_e add al
    ∷ (when (so spare_e less spare_f ∷ []) (decrease ah 1)
    ∷ (combines al subtract bl
    ∷ (combines ah subtract bh
    ∷ []))))))

-- the first number, in the first spot, where both halves are the same, else the second one
abbrev pub agree : ℤ → ℤ → Core
agree y n al ah bl bh =
    sets spare_f n
    ∷ (when (so al equal bl ∷ (so ah equal bh ∷ [])) (set_spot spare_f y)
    ∷ (combines al assign spare_f
    ∷ []))

-- 1, in a spot, where the one conditions hold or the other ones, else 0
abbrev pub either : List Cond → List Cond → Spot → List Step
either cs ds x =
    sets spare_f (pos 0)
    ∷ (when cs (set_spot spare_f (pos 1))
    ∷ (when ds (set_spot spare_f (pos 1))
    ∷ (combines x assign spare_f
    ∷ [])))

-- the high halves are the same, and a condition holds
abbrev pub same_high : Spot → Spot → Cond → List Cond
same_high ah bh c = so ah equal bh ∷ (c ∷ [])

-- The order of two numbers with their signs: the high halves compare so with their signs, or are the same and the low
-- ones compare so without sign
abbrev pub signed_order : Cmp → Cmp → Core
signed_order high low al ah bl bh =
    sets spare_e least
    ∷ (combines al add spare_e
    ∷ (combines spare_e add bl
    ∷ either (so ah high bh ∷ []) (same_high ah bh (so al low spare_e)) al))

-- and without sign
abbrev pub unsigned_order : Cmp → Cmp → Core
unsigned_order high low al ah bl bh =
    sets spare_e least
    ∷ (combines spare_g assign ah
    ∷ (combines spare_g add spare_e
    ∷ (combines spare_h assign bh
    ∷ (combines spare_h add spare_e
    ∷ (combines al add spare_e
    ∷ (combines spare_e add bl
    ∷ either (so spare_g high spare_h ∷ []) (same_high ah bh (so al low spare_e)) al))))))

-- whether both halves of one number are 0, in the first spot: where one isn't it becomes -1, and
-- then each becomes one more
abbrev pub both_zero : Spot → Spot → List Step
both_zero low high =
    when (fails (in_range low (exactly (pos 0))) ∷ []) (set_spot low (negsuc 0))
    ∷ (when (fails (in_range high (exactly (pos 0))) ∷ []) (set_spot low (negsuc 0))
    ∷ (run_act (increase low 1)
    ∷ []))

-- a number's rest by a power of 2, as a signed number of so many bits: from half the power on it is less by the power
abbrev pub signed_part : ℤ → ℤ → Spot → List Step
signed_part power half x =
    sets spare_e power
    ∷ (combines x remainder spare_e
    ∷ (when (holds (in_range x (from half)) ∷ []) (combine x subtract spare_e)
    ∷ []))

-- ---- on places

-- the halves of two numbers from a place on to their spots
abbrev pub operands : ℕ → List Step
operands a =
    fetch a (codes "#a")
    ++ (fetch (suc a) (codes "#b")
    ++ (fetch (suc (suc a)) (codes "#c")
    ++ fetch (suc (suc (suc a))) (codes "#d")))

-- lines on their spots
abbrev pub on_spots : ℕ → Core → List Step
on_spots a core = core
    (spot_of a (codes "#a"))
    (spot_of (suc a) (codes "#b"))
    (spot_of (suc (suc a)) (codes "#c"))
    (spot_of (suc (suc (suc a))) (codes "#d"))

-- both, and then other lines
abbrev pub on_pairs : ℕ → Core → List Step → List Step
on_pairs a core after = operands a ++ (on_spots a core ++ after)

-- from the first spot back to its place; from the first two
abbrev pub word_back : ℕ → List Step
word_back a = bring_back a (spot_of a (codes "#a"))

abbrev pub pair_back : ℕ → List Step
pair_back a = word_back a ++ bring_back (suc a) (spot_of (suc a) (codes "#b"))

-- the high half behind a number of 32 bits, without its sign; and with it
abbrev pub zero_behind : ℕ → List Step
zero_behind a = run_act (set_place (suc a) (pos 0)) ∷ []

abbrev pub negative : Spot → Cond
negative x = holds (in_range x (up_to (negsuc 0)))

abbrev pub sign_lines : ℕ → List Step
sign_lines a =
    run_act (set_place (suc a) (pos 0))
    ∷ (when (negative (spot_of a (codes "#a")) ∷ []) (set_place (suc a) (negsuc 0))
    ∷ [])

abbrev pub sign_behind : ℕ → List Step
sign_behind a = fetch a (codes "#a") ++ sign_lines a
