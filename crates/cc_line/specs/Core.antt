-- Cores of routines: steps over scores alone, written on fixed scratch scores and run on any spots.
use Rattle.std.specs.Prelude.{◌≡◌, ℕ, List, [], ◌∷◌, ◌++◌, map, ℤ, Some, Bool, true, false, not, ◌&&◌}
use Rattle.std.specs.Prelude.{if◌then◌else◌, nat_lt, nat_eq, codes}
use Rattle.std.specs.List.{list_all}
use Rattle.std.specs.Str.{bytes_eq}
use Rattle.mc_cmd.specs.Form.{Text}
use Rattle.cc_line.specs.Place.{score_places, is_scratch, Spot, scratch, placed}
use Rattle.cc_line.specs.Sight.{Store}
use Rattle.cc_line.specs.Key.{is_work, is_work_key}
use Rattle.cc_line.specs.State.{State, read, with_spot, set_places}
use Rattle.cc_line.specs.Step.{Act, set_spot, increase, decrease, combine, copy_place, load_place, keep_place, Check}
use Rattle.cc_line.specs.Step.{in_range, compare, stands, Cond, holds, fails, Step, run_act, when, stop_when, flow}
use Rattle.cc_line.specs.Step.{run_steps, steps_weight, SpotReady, Ready}
use Rattle.cc_line.specs.Fit.{spot_fits, steps_fit}

-- two spots
abbrev pub Differ : Spot → Spot → Type 0
Differ (scratch h) (scratch g) = bytes_eq h g ≡ false
Differ (placed i) (placed j) = i ≡ j → ⊥
Differ (scratch h) (placed j) = Unit {0}
Differ (placed i) (scratch g) = Unit {0}

-- steps that lead from this state to that one, with the weight of all of them, and don't end their list
pub record Straight (xs : List Step) (s t : State) : Type 0 where
  pub ready : Ready xs s
  pub ends : run_steps xs s ≡ flow false t (steps_weight xs)

-- an operand is in a place, or in that scratch score
abbrev pub IsAt : Text → Spot → Type 0
IsAt h (scratch g) = g ≡ h
IsAt h (placed i) = Unit {0}

-- a number in a spot, and nothing else differs but scratch scores of routines
pub record Left (s t : State) (x : Spot) (z : ℤ) : Type 0 where
  pub result : read t x ≡ Some z
  pub places : t.places ≡ (with_spot s x z).places
  pub keys : t.keys ≡ s.keys
  pub scores : (h : Text) → is_scratch h ≡ true → is_work h ≡ false → t.scores h ≡ s.scores h

-- The contract of a core with two operands, the first of which becomes the result, wherever the two are: in two places
-- that are scores, or in the scratch scores `#a` and `#b`.
pub record Makes (core : Spot → Spot → List Step) (a b z : ℤ) : Type 0 where
  pub fits : (x y : Spot) → spot_fits x ≡ true → spot_fits y ≡ true → steps_fit (core x y) ≡ true
  pub on : (x y : Spot) (s : State) → Differ x y → IsAt (codes "#a") x → IsAt (codes "#b") y → SpotReady x s
      → SpotReady y s → read s x ≡ Some a → read s y ≡ Some b
      → (t : State) × Straight (core x y) s t × Left s t x z

-- ---- renaming of scratch scores

abbrev pub rename_spot : (Text → Spot) → Spot → Spot
rename_spot r (scratch h) = r h
rename_spot r (placed i) = placed i

abbrev pub rename_act : (Text → Spot) → Act → Act
rename_act r (set_spot x z) = set_spot (rename_spot r x) z
rename_act r (increase x n) = increase (rename_spot r x) n
rename_act r (decrease x n) = decrease (rename_spot r x) n
rename_act r (combine x op y) = combine (rename_spot r x) op (rename_spot r y)
rename_act r a = a

abbrev pub rename_check : (Text → Spot) → Check → Check
rename_check r (in_range x g) = in_range (rename_spot r x) g
rename_check r (compare x c y) = compare (rename_spot r x) c (rename_spot r y)
rename_check r (stands p) = stands p

abbrev pub rename_cond : (Text → Spot) → Cond → Cond
rename_cond r (holds c) = holds (rename_check r c)
rename_cond r (fails c) = fails (rename_check r c)

abbrev pub rename_step : (Text → Spot) → Step → Step
rename_step r (run_act a) = run_act (rename_act r a)
rename_step r (when cs a) = when (map (rename_cond r) cs) (rename_act r a)
rename_step r (stop_when cs) = stop_when (map (rename_cond r) cs)

abbrev pub renamed : (Text → Spot) → List Step → List Step
renamed r xs = map (rename_step r) xs

-- steps over scratch scores alone
abbrev pub spot_on_scratch : Spot → Bool
spot_on_scratch (scratch h) = is_scratch h
spot_on_scratch (placed i) = false

abbrev pub act_on_scratch : Act → Bool
act_on_scratch (set_spot x z) = spot_on_scratch x
act_on_scratch (increase x n) = spot_on_scratch x
act_on_scratch (decrease x n) = spot_on_scratch x
act_on_scratch (combine x op y) = spot_on_scratch x && spot_on_scratch y
act_on_scratch _ = false

abbrev pub check_on_scratch : Check → Bool
check_on_scratch (in_range x r) = spot_on_scratch x
check_on_scratch (compare x c y) = spot_on_scratch x && spot_on_scratch y
check_on_scratch (stands p) = false

abbrev pub cond_on_scratch : Cond → Bool
cond_on_scratch (holds c) = check_on_scratch c
cond_on_scratch (fails c) = check_on_scratch c

abbrev pub step_on_scratch : Step → Bool
step_on_scratch (run_act a) = act_on_scratch a
step_on_scratch (when cs a) = list_all cond_on_scratch cs && act_on_scratch a
step_on_scratch (stop_when cs) = list_all cond_on_scratch cs

abbrev pub all_on_scratch : List Step → Bool
all_on_scratch xs = list_all step_on_scratch xs

-- no two scratch scores get one spot
pub record Injective (r : Text → Spot) : Type 0 where
  pub apart : (g h : Text) → is_scratch g ≡ true → is_scratch h ≡ true → bytes_eq g h ≡ false → Differ (r g) (r h)

-- the operands' scores get these spots, all others stay
abbrev pub bind : Text → Spot → Text → Spot → Text → Spot
bind a x b y h = if bytes_eq a h then x else if bytes_eq b h then y else scratch h

-- The theorem of a core on its own scratch scores `#a` and `#b`: what it makes of two numbers. It may leave anything in
-- the other scratch scores of routines.
pub record CoreMakes (xs : List Step) (a b z : ℤ) : Type 0 where
  pub plain : all_on_scratch xs ≡ true
  pub fits : steps_fit xs ≡ true
  pub on : (s : State) → s.scores (codes "#a") ≡ Some a → s.scores (codes "#b") ≡ Some b
      → (t : State) × Straight xs s t × (t.scores (codes "#a") ≡ Some z) × (t.scores (codes "#b") ≡ Some b)
      × ((h : Text) → is_scratch h ≡ true → is_work h ≡ false → t.scores h ≡ s.scores h)

-- the core on spots
abbrev pub core_on : List Step → Spot → Spot → List Step
core_on xs x y = renamed (bind (codes "#a") x (codes "#b") y) xs

-- ---- cores with one operand

pub record MakesOne (core : Spot → List Step) (a z : ℤ) : Type 0 where
  pub fits : (x : Spot) → spot_fits x ≡ true → steps_fit (core x) ≡ true
  pub on : (x : Spot) (s : State) → IsAt (codes "#a") x → SpotReady x s → read s x ≡ Some a
      → (t : State) × Straight (core x) s t × Left s t x z

-- the same on the core's own scratch score `#a`
pub record CoreMakesOne (xs : List Step) (a z : ℤ) : Type 0 where
  pub plain : all_on_scratch xs ≡ true
  pub fits : steps_fit xs ≡ true
  pub on : (s : State) → s.scores (codes "#a") ≡ Some a
      → (t : State) × Straight xs s t × (t.scores (codes "#a") ≡ Some z)
      × ((h : Text) → is_scratch h ≡ true → is_work h ≡ false → t.scores h ≡ s.scores h)

abbrev pub core_on_one : List Step → Spot → List Step
core_on_one xs x = renamed (λ h. if bytes_eq (codes "#a") h then x else scratch h) xs

-- ---- operands in places

-- where a line takes an operand: its place, if that is a score, or else this scratch score
abbrev pub spot_of : ℕ → Text → Spot
spot_of i h = if nat_lt i score_places then placed i else scratch h

-- to that scratch score, if the place is no score
abbrev pub fetch : ℕ → Text → List Step
fetch i h = if nat_lt i score_places then [] else run_act (load_place h i) ∷ []

-- where a core has its first operand, and its result: the result's place, if that is a score and isn't the second
-- operand's, or else `#a`
abbrev pub work_spot : ℕ → ℕ → Spot
work_spot b r = if nat_lt r score_places && not (nat_eq b r) then placed r else scratch (codes "#a")

-- the first operand to there; the result from there to its place
abbrev pub bring : ℕ → Spot → List Step
bring a (placed r) = if nat_eq a r then [] else run_act (copy_place r a) ∷ []
bring a (scratch h) = run_act (load_place h a) ∷ []

abbrev pub bring_back : ℕ → Spot → List Step
bring_back r (placed i) = []
bring_back r (scratch h) = run_act (keep_place r h) ∷ []

-- a core on the places of two operands and of the result, any of which may be one
abbrev pub on_two : ℕ → ℕ → ℕ → (Spot → Spot → List Step) → List Step
on_two a b r core =
    bring a (work_spot b r)
    ++ (fetch b (codes "#b") ++ (core (work_spot b r) (spot_of b (codes "#b")) ++ bring_back r (work_spot b r)))

-- the same with one operand
abbrev pub on_one : ℕ → ℕ → (Spot → List Step) → List Step
on_one a r core =
    bring a (spot_of r (codes "#a"))
    ++ (core (spot_of r (codes "#a")) ++ bring_back r (spot_of r (codes "#a")))

-- numbers in places from one on; nothing else differs but the scratch scores and the scratch keys of routines
pub record Replaced (s t : State) (i : ℕ) (zs : List ℤ) : Type 0 where
  pub places : t.places ≡ set_places s.places i zs
  pub keys : (r : Store) (k : Text) → is_work_key r k ≡ false → t.keys r k ≡ s.keys r k
  pub scores : (h : Text) → is_scratch h ≡ true → is_work h ≡ false → t.scores h ≡ s.scores h
