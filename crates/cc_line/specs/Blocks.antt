-- The steps of the first blocks, on places wherever they are.
use Rattle.std.specs.Prelude.{ℕ, List, [], ◌∷◌, ℤ, pos, negsuc, int_lt, if◌then◌else◌, codes}
use Rattle.mc_cmd.specs.Command.{less, from, up_to}
use Rattle.mc_cmd.specs.Layout.{unsigned_half}
use Rattle.cc_line.specs.Place.{scratch}
use Rattle.cc_line.specs.Step.{set_spot, set_place, copy_place, load_place, keep_place, in_range, compare, holds, Step}
use Rattle.cc_line.specs.Step.{run_act, when}

-- a place gets a number
abbrev pub constant_steps : ℕ → ℤ → List Step
constant_steps i z = run_act (set_place i z) ∷ []

-- a place gets what another one has
abbrev pub copy_steps : ℕ → ℕ → List Step
copy_steps i j = run_act (copy_place j i) ∷ []

-- a place gets whether one number is below another one, both without sign: that of `#a` and `#b` with their signs, but
-- where the signs differ, the negative one is the greater
abbrev pub less_unsigned_steps : ℕ → ℕ → ℕ → List Step
less_unsigned_steps a b r =
    run_act (load_place (codes "#a") a)
    ∷ (run_act (load_place (codes "#b") b)
    ∷ (run_act (set_spot (scratch (codes "#c")) (pos 0))
    ∷ (when
    (holds (compare (scratch (codes "#a")) less (scratch (codes "#b"))) ∷ [])
    (set_spot (scratch (codes "#c")) (pos 1))
    ∷ (when
    (holds (in_range (scratch (codes "#a")) (up_to (negsuc 0)))
    ∷ (holds (in_range (scratch (codes "#b")) (from (pos 0))) ∷ []))
    (set_spot (scratch (codes "#c")) (pos 0))
    ∷ (when
    (holds (in_range (scratch (codes "#a")) (from (pos 0)))
    ∷ (holds (in_range (scratch (codes "#b")) (up_to (negsuc 0))) ∷ []))
    (set_spot (scratch (codes "#c")) (pos 1))
    ∷ (run_act (keep_place r (codes "#c")) ∷ []))))))

-- 1 where the one is below the other without sign, else 0
abbrev pub less_unsigned : ℤ → ℤ → ℤ
less_unsigned a b = if int_lt (unsigned_half a) (unsigned_half b) then pos 1 else pos 0
