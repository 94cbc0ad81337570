-- Steps that write to working scores and read no others: what follows from that, on `#a` and on any spot.
use Rattle.std.proofs.Common.{◌≡◌, ◌+◌, List, [], ◌∷◌, ◌++◌, true, false, refl, ap₂, ◌∙◌, arith}
use Rattle.std.specs.Prelude.{ℤ, ◌&&◌, codes, if◌then◌else◌}
use Rattle.std.specs.List.{list_all}
use Rattle.std.specs.Str.{bytes_eq}
use Rattle.std.proofs.lemmas.List.Folds.{list_all-append}
use Rattle.mc_nbt.proofs.TestLemmas.{and_first, and_second, and_both}
use Rattle.mc_cmd.specs.Form.{Text}
use Rattle.cc_line.specs.Core.{CoreMakesOne, all_on_scratch, act_on_scratch, cond_on_scratch, spot_on_scratch, core_on_one, renamed, rename_step}
use Rattle.cc_line.specs.Fit.{steps_fit}
use Rattle.cc_line.specs.Key.{is_work}
use Rattle.cc_line.specs.Place.{Spot, scratch, placed, is_scratch}
use Rattle.cc_line.specs.State.{State}
use Rattle.cc_line.specs.Step.{Act, combine, decrease, increase, set_spot, in_range, Cond, fails, holds, Step, run_act, stop_when, when, step_weight, steps_weight}
use Rattle.cc_line.specs.Within.{steps_within, act_within, cond_within, spot_within}
use Rattle.cc_line.proofs.SettleLemmas.{core_by_one, works, with_one}
use Rattle.cc_text.specs.Short.{steps_short}
use Rattle.cc_known.specs.Work.{steps_work, step_works, act_works, cond_works, works_on}
use Rattle.cc_known.proofs.Leading.{Leaves}

pub work_append : (xs ys : List Step) → steps_work xs ≡ true → steps_work ys ≡ true → steps_work (xs ++ ys) ≡ true
work_append xs ys f g = list_all-append step_works xs ys ∙ and_both _ _ f g

-- ---- they are on scratch scores

work_is_scratch : (h : Text) → is_work h ≡ true → is_scratch h ≡ true
work_is_scratch [] e = absurd cc
work_is_scratch (a ∷ []) e = absurd cc
work_is_scratch (a ∷ b ∷ c ∷ t) e = absurd cc
work_is_scratch (a ∷ b ∷ []) e = grind arith

spot_scratch : (x : Spot) → works_on x ≡ true → spot_on_scratch x ≡ true
spot_scratch (scratch h) e = work_is_scratch h e
spot_scratch (placed i) e = absurd cc

act_scratch : (a : Act) → act_works a ≡ true → act_on_scratch a ≡ true
act_scratch (set_spot x z) e = spot_scratch x e
act_scratch (increase x n) e = spot_scratch x e
act_scratch (decrease x n) e = spot_scratch x e
act_scratch (combine x op y) e = and_both _ _ (spot_scratch x (and_first _ (works_on y) e)) (spot_scratch y (and_second (works_on x) _ e))
act_scratch _ e = absurd cc

cond_scratch : (c : Cond) → cond_works c ≡ true → cond_on_scratch c ≡ true
cond_scratch (holds (in_range x r)) e = spot_scratch x e
cond_scratch (fails (in_range x r)) e = spot_scratch x e
cond_scratch _ e = absurd cc

conds_scratch : (cs : List Cond) → list_all cond_works cs ≡ true → list_all cond_on_scratch cs ≡ true
conds_scratch [] e = refl
conds_scratch (c ∷ cs) e = and_both _ _ (cond_scratch c (and_first _ (list_all cond_works cs) e)) (conds_scratch cs (and_second (cond_works c) _ e))

pub all_scratch : (xs : List Step) → steps_work xs ≡ true → all_on_scratch xs ≡ true
all_scratch [] e = refl
all_scratch (run_act a ∷ xs) e = and_both _ _ (act_scratch a (and_first _ (steps_work xs) e)) (all_scratch xs (and_second (act_works a) _ e))
all_scratch (when cs a ∷ xs) e =
    let f : list_all cond_works cs && act_works a ≡ true = and_first _ (steps_work xs) e in
    and_both _ _ (and_both _ _ (conds_scratch cs (and_first _ (act_works a) f)) (act_scratch a (and_second (list_all cond_works cs) _ f))) (all_scratch xs (and_second (step_works (when cs a)) _ e))
all_scratch (stop_when cs ∷ xs) e = absurd cc

-- ---- they write to working scores

pub all_work : (xs : List Step) → steps_work xs ≡ true → works xs ≡ true
all_work [] e = refl
all_work (run_act a ∷ xs) e = go a (and_first _ (steps_work xs) e) (all_work xs (and_second (act_works a) _ e))
  where
    go : (a : Act) → act_works a ≡ true → works xs ≡ true → works (run_act a ∷ xs) ≡ true
    go (set_spot (scratch h) z) f rest = and_both _ _ f rest
    go (increase (scratch h) n) f rest = and_both _ _ f rest
    go (decrease (scratch h) n) f rest = and_both _ _ f rest
    go (combine (scratch h) op (scratch g)) f rest = and_both _ _ (and_first _ (is_work g) f) rest
    go (combine (scratch h) op (placed i)) f rest = absurd (let z : false ≡ true = and_second (is_work h) false f in cc)
    go _ f rest = absurd cc
all_work (when cs a ∷ xs) e = go a (and_second (list_all cond_works cs) _ (and_first _ (steps_work xs) e)) (all_work xs (and_second (step_works (when cs a)) _ e))
  where
    go : (a : Act) → act_works a ≡ true → works xs ≡ true → works (when cs a ∷ xs) ≡ true
    go (set_spot (scratch h) z) f rest = and_both _ _ f rest
    go (increase (scratch h) n) f rest = and_both _ _ f rest
    go (decrease (scratch h) n) f rest = and_both _ _ f rest
    go (combine (scratch h) op (scratch g)) f rest = and_both _ _ (and_first _ (is_work g) f) rest
    go (combine (scratch h) op (placed i)) f rest = absurd (let z : false ≡ true = and_second (is_work h) false f in cc)
    go _ f rest = absurd cc
all_work (stop_when cs ∷ xs) e = absurd cc

-- ---- they name no place

spot_here : (x : Spot) → works_on x ≡ true → spot_within 0 x ≡ true
spot_here (scratch h) e = refl
spot_here (placed i) e = absurd cc

act_here : (a : Act) → act_works a ≡ true → act_within 0 a ≡ true
act_here (set_spot x z) e = spot_here x e
act_here (increase x n) e = spot_here x e
act_here (decrease x n) e = spot_here x e
act_here (combine x op y) e = and_both _ _ (spot_here x (and_first _ (works_on y) e)) (spot_here y (and_second (works_on x) _ e))
act_here _ e = absurd cc

cond_here : (c : Cond) → cond_works c ≡ true → cond_within 0 c ≡ true
cond_here (holds (in_range x r)) e = spot_here x e
cond_here (fails (in_range x r)) e = spot_here x e
cond_here _ e = absurd cc

conds_here : (cs : List Cond) → list_all cond_works cs ≡ true → list_all (cond_within 0) cs ≡ true
conds_here [] e = refl
conds_here (c ∷ cs) e = and_both _ _ (cond_here c (and_first _ (list_all cond_works cs) e)) (conds_here cs (and_second (cond_works c) _ e))

pub all_here : (xs : List Step) → steps_work xs ≡ true → steps_within 0 xs ≡ true
all_here [] e = refl
all_here (run_act a ∷ xs) e = and_both _ _ (act_here a (and_first _ (steps_work xs) e)) (all_here xs (and_second (act_works a) _ e))
all_here (when cs a ∷ xs) e =
    let f : list_all cond_works cs && act_works a ≡ true = and_first _ (steps_work xs) e in
    and_both _ _ (and_both _ _ (conds_here cs (and_first _ (act_works a) f)) (act_here a (and_second (list_all cond_works cs) _ f))) (all_here xs (and_second (step_works (when cs a)) _ e))
all_here (stop_when cs ∷ xs) e = absurd cc

-- ---- the theorem of a core

pub core_of : (xs : List Step) (a z : ℤ) → steps_work xs ≡ true → steps_fit xs ≡ true → ((s : State) → Leaves xs (with_one s a) z) → CoreMakesOne xs a z
core_of xs a z w f leaves = core_by_one xs a z (all_scratch xs w) f (all_work xs w) (all_here xs w) (λ s. (leaves s).finds) (λ s. (leaves s).left)

-- ---- on any spot

step_weighs : (r : Text → Spot) (x : Step) → step_works x ≡ true → step_weight (rename_step r x) ≡ step_weight x
step_weighs r (run_act (set_spot x z)) e = refl
step_weighs r (run_act (increase x n)) e = refl
step_weighs r (run_act (decrease x n)) e = refl
step_weighs r (run_act (combine x op y)) e = refl
step_weighs r (run_act _) e = absurd cc
step_weighs r (when cs a) e = refl
step_weighs r (stop_when cs) e = absurd cc

renamed_weigh : (r : Text → Spot) (xs : List Step) → steps_work xs ≡ true → steps_weight (renamed r xs) ≡ steps_weight xs
renamed_weigh r [] e = refl
renamed_weigh r (x ∷ xs) e = ap₂ (λ m n. m + n) (step_weighs r x (and_first _ (steps_work xs) e)) (renamed_weigh r xs (and_second (step_works x) _ e))

pub core_weighs : (xs : List Step) → steps_work xs ≡ true → (x : Spot) → steps_weight (core_on_one xs x) ≡ steps_weight xs
core_weighs xs e x = renamed_weigh (λ h. if bytes_eq (codes "#a") h then x else scratch h) xs e

renamed_short : (r : Text → Spot) (xs : List Step) → steps_work xs ≡ true → steps_short (renamed r xs) ≡ true
renamed_short r [] e = refl
renamed_short r (run_act a ∷ xs) e = go a (and_first _ (steps_work xs) e) (renamed_short r xs (and_second (act_works a) _ e))
  where
    go : (a : Act) → act_works a ≡ true → steps_short (renamed r xs) ≡ true → steps_short (renamed r (run_act a ∷ xs)) ≡ true
    go (set_spot x z) f rest = rest
    go (increase x n) f rest = rest
    go (decrease x n) f rest = rest
    go (combine x op y) f rest = rest
    go _ f rest = absurd cc
renamed_short r (when cs a ∷ xs) e = go a (and_second (list_all cond_works cs) _ (and_first _ (steps_work xs) e)) (renamed_short r xs (and_second (step_works (when cs a)) _ e))
  where
    go : (a : Act) → act_works a ≡ true → steps_short (renamed r xs) ≡ true → steps_short (renamed r (when cs a ∷ xs)) ≡ true
    go (set_spot x z) f rest = rest
    go (increase x n) f rest = rest
    go (decrease x n) f rest = rest
    go (combine x op y) f rest = rest
    go _ f rest = absurd cc
renamed_short r (stop_when cs ∷ xs) e = absurd cc

pub core_short : (xs : List Step) → steps_work xs ≡ true → (x : Spot) → steps_short (core_on_one xs x) ≡ true
core_short xs e x = renamed_short (λ h. if bytes_eq (codes "#a") h then x else scratch h) xs e
