-- Items that are lines under every namespace, leave the scheduler's scores alone, and are light with their charges.
use Rattle.std.proofs.Common.{◌≡◌, ℕ, suc, ◌+◌, ◌*◌, ◌<◌, ◌≤◌, List, [], ◌∷◌, ◌++◌, length, Bool, true, false, refl, arith}
use Rattle.std.specs.Prelude.{◌&&◌}
use Rattle.std.specs.List.{list_all}
use Rattle.mc_nbt.proofs.TestLemmas.{and_first, and_second, and_both}
use Rattle.mc_cmd.specs.Command.{Cmd, plain, execute}
use Rattle.mc_cmd.specs.Chain.{cmd_weight}
use Rattle.mc_cmd.specs.declared.TheConstants.{PIECE}
use Rattle.cc_line.specs.Step.{Act, Cond, Step, run_act, when, stop_when, step_command, step_weight}
use Rattle.cc_line.specs.Fit.{act_fits, conds_fit, steps_fit}
use Rattle.cc_line.specs.Item.{Item, step_item, Items, no_more, first, join, steps_items, item_most, items_most, item_fits, items_fit}
use Rattle.cc_line.proofs.RunLemmas.{steps_all_fit}
use Rattle.cc_sched.specs.Charge.{charge, round_weight, act_avoids_sched, cond_avoids_sched, item_avoids_sched, items_avoid_sched}
use Rattle.cc_call.specs.Acts.{acts_then}
use Rattle.cc_pieces.specs.Law.{IsLight}

-- ---- weights with charges

-- a way out adds its charge
abbrev pub charged_item : Item → ℕ
charged_item (step_item (stop_when cs)) = 3
charged_item x = item_most x

abbrev pub charged : Items → ℕ
charged no_more = 0
charged (first x xs) = charged_item x + charged xs

pub charge_weighs : (n : ℕ) (xs : Items) → items_most (charge n xs) ≡ charged xs + 1
charge_weighs n no_more = refl
charge_weighs n (first (step_item (stop_when cs)) xs) =
    let e : items_most (charge 0 xs) ≡ charged xs + 1 = charge_weighs 0 xs in
    let r : 1 + (2 + items_most (charge 0 xs)) ≡ (3 + charged xs) + 1 = omega arith in
    r
charge_weighs n (first x xs) =
    let e : items_most (charge (n + item_most x) xs) ≡ charged xs + 1 = charge_weighs (n + item_most x) xs in
    let r : item_most x + items_most (charge (n + item_most x) xs) ≡ (item_most x + charged xs) + 1 = omega arith in
    r

command_weighs : (c : Cmd) → cmd_weight c ≤ 2
command_weighs (plain s) = omega arith
command_weighs (execute us s) = omega arith

pub act_weighs : (a : Act) → step_weight (run_act a) ≤ 2
act_weighs a = command_weighs (step_command [] (run_act a))

-- ---- sound items

pub record Sound (w : ℕ) (xs : Items) : Type 0 where
  pub fits : items_fit xs ≡ true
  pub avoids : items_avoid_sched xs ≡ true
  pub light : charged xs ≤ w

pub sound_none : (w : ℕ) → Sound w no_more
sound_none w = record { fits = refl; avoids = refl; light = omega arith }

pub wider : (v w : ℕ) (xs : Items) → v ≤ w → Sound v xs → Sound w xs
wider v w xs h s = let l = s.light in record { fits = s.fits; avoids = s.avoids; light = omega arith }

-- with what ends a piece
pub sound_light : (xs : Items) → Sound 442 xs → IsLight xs
sound_light xs s =
    let e : items_most (charge round_weight xs) ≡ charged xs + 1 = charge_weighs round_weight xs in
    let l : charged xs ≤ 442 = s.light in
    let r : items_most (charge round_weight xs) + 20 < PIECE = omega arith in
    record { fits = s.fits; avoids = s.avoids; light = r }

join_charged : (xs ys : Items) → charged (join xs ys) ≡ charged xs + charged ys
join_charged no_more ys = let e : charged ys ≡ 0 + charged ys = omega arith in e
join_charged (first x xs) ys = let i : charged (join xs ys) ≡ charged xs + charged ys = join_charged xs ys in omega arith

join_fits : (xs ys : Items) → items_fit xs ≡ true → items_fit ys ≡ true → items_fit (join xs ys) ≡ true
join_fits no_more ys f g = g
join_fits (first x xs) ys f g = and_both _ _ (and_first _ _ f) (join_fits xs ys (and_second (item_fits x) _ f) g)

pub join_avoids : (xs ys : Items) → items_avoid_sched xs ≡ true → items_avoid_sched ys ≡ true → items_avoid_sched (join xs ys) ≡ true
join_avoids no_more ys f g = g
join_avoids (first x xs) ys f g = and_both _ _ (and_first _ _ f) (join_avoids xs ys (and_second (item_avoids_sched x) _ f) g)

pub join_sound : (v w : ℕ) (xs ys : Items) → Sound v xs → Sound w ys → Sound (v + w) (join xs ys)
join_sound v w xs ys s r =
    let e : charged (join xs ys) ≡ charged xs + charged ys = join_charged xs ys in
    let k : charged xs ≤ v = s.light in
    let l : charged ys ≤ w = r.light in
    record { fits = join_fits xs ys s.fits r.fits; avoids = join_avoids xs ys s.avoids r.avoids; light = omega arith }

-- ---- acts

pub record SoundAct (a : Act) : Type 0 where
  pub fits : act_fits a ≡ true
  pub avoids : act_avoids_sched a ≡ true

abbrev pub SoundActs : List Act → Type 0
SoundActs [] = Unit {0}
SoundActs (a ∷ acts) = SoundAct a × SoundActs acts

pub append_sound : (acts more : List Act) → SoundActs acts → SoundActs more → SoundActs (acts ++ more)
append_sound [] more s r = r
append_sound (a ∷ acts) more s r = (s.0, append_sound acts more s.1 r)

-- what acts weigh
abbrev pub acts_weight : List Act → ℕ
acts_weight [] = 0
acts_weight (a ∷ acts) = step_weight (run_act a) + acts_weight acts

pub append_weighs : (acts more : List Act) → acts_weight (acts ++ more) ≡ acts_weight acts + acts_weight more
append_weighs [] more = let e : acts_weight more ≡ 0 + acts_weight more = omega arith in e
append_weighs (a ∷ acts) more = let e : acts_weight (acts ++ more) ≡ acts_weight acts + acts_weight more = append_weighs acts more in omega arith

pub acts_weigh : (acts : List Act) → acts_weight acts ≤ 2 * length acts
acts_weigh [] = omega arith
acts_weigh (a ∷ acts) =
    let k : step_weight (run_act a) ≤ 2 = act_weighs a in
    let i : acts_weight acts ≤ 2 * length acts = acts_weigh acts in
    let r : step_weight (run_act a) + acts_weight acts ≤ 2 * suc (length acts) = omega arith in
    r

pub weighed_sound : (w : ℕ) (acts : List Act) (rest : Items) → SoundActs acts → Sound w rest → Sound (acts_weight acts + w) (acts_then acts rest)
weighed_sound w [] rest s r = wider w (0 + w) rest (omega arith) r
weighed_sound w (a ∷ acts) rest s r =
    let i : Sound (acts_weight acts + w) (acts_then acts rest) = weighed_sound w acts rest s.1 r in
    let l : charged (acts_then acts rest) ≤ acts_weight acts + w = i.light in
    let n : step_weight (run_act a) + charged (acts_then acts rest) ≤ (step_weight (run_act a) + acts_weight acts) + w = omega arith in
    record { fits = and_both _ _ s.0.fits i.fits; avoids = and_both _ _ s.0.avoids i.avoids; light = n }

pub acts_sound : (w : ℕ) (acts : List Act) (rest : Items) → SoundActs acts → Sound w rest → Sound (2 * length acts + w) (acts_then acts rest)
acts_sound w acts rest s r =
    let k : acts_weight acts ≤ 2 * length acts = acts_weigh acts in
    wider (acts_weight acts + w) (2 * length acts + w) (acts_then acts rest) (omega arith) (weighed_sound w acts rest s r)

pub record SoundConds (cs : List Cond) : Type 0 where
  pub fits : conds_fit cs ≡ true
  pub avoids : list_all cond_avoids_sched cs ≡ true

-- ---- steps without ways out

-- the step is no way out, and leaves the scheduler's scores alone
abbrev pub is_meek : Step → Bool
is_meek (run_act a) = act_avoids_sched a
is_meek (when cs a) = list_all cond_avoids_sched cs && act_avoids_sched a
is_meek (stop_when cs) = false

-- how many ways out there are, without those in helpers
abbrev pub ways_out : Items → ℕ
ways_out no_more = 0
ways_out (first (step_item (stop_when cs)) xs) = 1 + ways_out xs
ways_out (first x xs) = ways_out xs

pub charged_is : (xs : Items) → charged xs ≡ items_most xs + ways_out xs
charged_is no_more = refl
charged_is (first (step_item (stop_when cs)) xs) =
    let e : charged xs ≡ items_most xs + ways_out xs = charged_is xs in
    let r : 3 + charged xs ≡ (2 + items_most xs) + (1 + ways_out xs) = omega arith in
    r
charged_is (first x xs) =
    let e : charged xs ≡ items_most xs + ways_out xs = charged_is xs in
    let r : item_most x + charged xs ≡ (item_most x + items_most xs) + ways_out xs = omega arith in
    r

-- items without ways out but so many
pub record Meek (k : ℕ) (xs : Items) : Type 0 where
  pub avoids : items_avoid_sched xs ≡ true
  pub few : ways_out xs ≤ k

pub meek_sound : (k n w : ℕ) (xs : Items) → items_fit xs ≡ true → Meek k xs → items_most xs ≤ n → n + k ≤ w → Sound w xs
meek_sound k n w xs f m h g =
    let e : charged xs ≡ items_most xs + ways_out xs = charged_is xs in
    let l : ways_out xs ≤ k = m.few in
    record { fits = f; avoids = m.avoids; light = omega arith }

pub steps_meek : (xs : List Step) → list_all is_meek xs ≡ true → Meek 0 (steps_items xs)
steps_meek [] h = record { avoids = refl; few = omega arith }
steps_meek (run_act a ∷ xs) h =
    let i : Meek 0 (steps_items xs) = steps_meek xs (and_second (is_meek (run_act a)) _ h) in
    record { avoids = and_both _ _ (and_first _ (list_all is_meek xs) h) i.avoids; few = i.few }
steps_meek (when cs a ∷ xs) h =
    let i : Meek 0 (steps_items xs) = steps_meek xs (and_second (is_meek (when cs a)) _ h) in
    record { avoids = and_both _ _ (and_first _ (list_all is_meek xs) h) i.avoids; few = i.few }
steps_meek (stop_when cs ∷ xs) h = absurd cc

join_ways : (xs ys : Items) → ways_out (join xs ys) ≡ ways_out xs + ways_out ys
join_ways no_more ys = let e : ways_out ys ≡ 0 + ways_out ys = omega arith in e
join_ways (first (step_item (stop_when cs)) xs) ys =
    let i : ways_out (join xs ys) ≡ ways_out xs + ways_out ys = join_ways xs ys in
    let r : 1 + ways_out (join xs ys) ≡ (1 + ways_out xs) + ways_out ys = omega arith in
    r
join_ways (first x xs) ys = join_ways xs ys

pub join_meek : (j k : ℕ) (xs ys : Items) → Meek j xs → Meek k ys → Meek (j + k) (join xs ys)
join_meek j k xs ys m n =
    let e : ways_out (join xs ys) ≡ ways_out xs + ways_out ys = join_ways xs ys in
    let a : ways_out xs ≤ j = m.few in
    let b : ways_out ys ≤ k = n.few in
    record { avoids = join_avoids xs ys m.avoids n.avoids; few = omega arith }

-- steps without ways out
step_weighs : (x : Step) → step_weight x ≤ 2
step_weighs x = command_weighs (step_command [] x)

steps_most : (xs : List Step) → items_most (steps_items xs) ≤ 2 * length xs
steps_most [] = omega arith
steps_most (x ∷ xs) =
    let k : step_weight x ≤ 2 = step_weighs x in
    let l : items_most (steps_items xs) ≤ 2 * length xs = steps_most xs in
    let r : step_weight x + items_most (steps_items xs) ≤ 2 * suc (length xs) = omega arith in
    r

pub steps_sound : (k : ℕ) (xs : List Step) → steps_fit xs ≡ true → list_all is_meek xs ≡ true → length xs ≤ k → Sound (2 * k) (steps_items xs)
steps_sound k xs f m l = meek_sound 0 (2 * length xs) (2 * k) (steps_items xs) (steps_all_fit xs f) (steps_meek xs m) (steps_most xs) (omega arith)

-- ---- arithmetic

pub none_meek : (k : ℕ) → Meek k no_more
none_meek k = record { avoids = refl; few = omega arith }
