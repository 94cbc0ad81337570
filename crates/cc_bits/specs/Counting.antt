-- Leading zeros and trailing zeros, and copies of a sign: of the number in `#a`, which becomes the result.
use Rattle.std.specs.Prelude.{ℕ, ℤ, pos, List, [], ◌∷◌, ◌++◌, codes}
use Rattle.mc_cmd.specs.Form.{Text}
use Rattle.mc_cmd.specs.Command.{Range, assign, subtract, multiply, divide, remainder, exactly, from, between}
use Rattle.cc_line.specs.Place.{scratch}
use Rattle.cc_line.specs.Step.{set_spot, increase, Step}
use Rattle.cc_bits.specs.Line.{sets, makes, where_in, makes_in}

-- the rest by k as a signed number: from h on, which is half of k, it is k less
abbrev pub extend_steps : ℤ → ℤ → List Step
extend_steps k h =
    sets (codes "#m") k
    ∷ makes (codes "#a") remainder (codes "#m")
    ∷ makes_in (from h) (codes "#a") (codes "#a") subtract (codes "#m") ∷ []

-- so many more are counted in `#c`, where a score is in a range
abbrev pub counts : Range → Text → ℕ → Step
counts r h k = where_in r h (increase (scratch (codes "#c")) k)

-- where the number is at most b, so that it has k leading zeros or more, k are counted and it goes up by p = 2^k
abbrev pub lead : ℕ → ℤ → ℤ → List Step
lead k p b =
    sets (codes "#m") p
    ∷ counts (between (pos 0) b) (codes "#a") k
    ∷ makes_in (between (pos 0) b) (codes "#a") (codes "#a") multiply (codes "#m") ∷ []

-- zero has one more than any other number can have
abbrev pub begin_count : List Step
begin_count =
    sets (codes "#c") (pos 0)
    ∷ where_in (exactly (pos 0)) (codes "#a") (set_spot (scratch (codes "#c")) (pos 1)) ∷ []

-- the count becomes the result
abbrev pub end_count : List Step
end_count = makes (codes "#a") assign (codes "#c") ∷ []

-- the leading zeros
abbrev pub clz_steps : List Step
clz_steps =
    begin_count ++ (lead 16 (pos 65536) (pos 65535) ++ (lead 8 (pos 256) (pos 16777215)
    ++ (lead 4 (pos 16) (pos 268435455) ++ (lead 2 (pos 4) (pos 1073741823)
    ++ (counts (between (pos 0) (pos 2147483647)) (codes "#a") 1 ∷ end_count)))))

-- where the number is divisible by p = 2^k, k trailing zeros are counted, and it goes down by p
abbrev pub trail : ℕ → ℤ → List Step
trail k p =
    sets (codes "#m") p
    ∷ makes (codes "#d") assign (codes "#a")
    ∷ makes (codes "#d") remainder (codes "#m")
    ∷ counts (exactly (pos 0)) (codes "#d") k
    ∷ makes_in (exactly (pos 0)) (codes "#d") (codes "#a") divide (codes "#m") ∷ []

-- the trailing zeros
abbrev pub ctz_steps : List Step
ctz_steps =
    begin_count ++ (trail 16 (pos 65536) ++ (trail 8 (pos 256) ++ (trail 4 (pos 16) ++ (trail 2 (pos 4)
    ++ (sets (codes "#m") (pos 2)
    ∷ makes (codes "#a") remainder (codes "#m")
    ∷ counts (exactly (pos 0)) (codes "#a") 1 ∷ end_count)))))
