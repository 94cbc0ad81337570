-- Conditions that acts leave as they are: ways out under them that are taken or passed.
use Rattle.std.proofs.Common.{◌≡◌, ℕ, suc, ◌≤◌, ◌<◌, List, [], ◌∷◌, length, Bool, true, false, refl, sym, ap, ◌∙◌, subst, arith, not, ◌&&◌, if◌then◌else◌}
use Rattle.mc_cmd.specs.World.{both_compare, some_is_in}
use Rattle.cc_line.specs.State.{State, read}
use Rattle.cc_line.specs.Step.{Act, Check, in_range, compare, stands, Cond, holds, fails, stop_when, after_act, check_holds, cond_holds, conds_hold, step_weight, Flow, flow, more, CheckReady, CondReady, CondsReady}
use Rattle.cc_line.specs.Item.{Items, run_items, ItemsReady}
use Rattle.cc_body.specs.Conditions.{against}
use Rattle.cc_body.specs.Emit.{exit_then, tested}
use Rattle.cc_simulate.specs.Law.{Enters}
use Rattle.cc_simulate.proofs.Acts.{after_acts, ActsReady, ActsEnter, IsQuietBelow, QuietBelow, quiet_read, quiet_long, Above, tested_above, Tests, tests_ready, tests_same, enters_at}
use Rattle.cc_simulate.proofs.Proceeding.{Proceeds, proceeds_at}

-- conditions for which so many places are enough, and which no act changes that is quiet below a place
pub record Steady (h n : ℕ) (cs : List Cond) : Type 0 where
  pub ready : (s : State) → n ≤ length s.places → CondsReady cs s
  pub stays : (a : Act) (s : State) → IsQuietBelow h a → conds_hold cs (after_act a s) ≡ conds_hold cs s

-- a test of one place
pub test_steady : (i : ℕ) (cs : List Cond) → Tests i cs → Steady i (suc i) cs
test_steady i cs t = record {
  ready = λ s l. tests_ready i cs s t (let x : i < length s.places = omega arith in x);
  stays = λ a s q. tests_same i cs s (after_act a s) t (quiet_read i a s (tested i) q (tested_above i));
}

-- ---- one condition

pub record SteadyOne (h n : ℕ) (c : Cond) : Type 0 where
  pub ready : (s : State) → n ≤ length s.places → CondReady c s
  pub stays : (a : Act) (s : State) → IsQuietBelow h a → cond_holds c (after_act a s) ≡ cond_holds c s

abbrev pub CheckAbove : ℕ → Check → Type 0
CheckAbove h (in_range x r) = Above h x
CheckAbove h (compare x c y) = Above h x × Above h y
CheckAbove h (stands p) = ⊥

check_stays : (h : ℕ) (c : Check) (a : Act) (s : State) → CheckAbove h c → IsQuietBelow h a → check_holds c (after_act a s) ≡ check_holds c s
check_stays h (in_range x r) a s k q = ap (some_is_in r) (quiet_read h a s x q k)
check_stays h (compare x c y) a s k q =
    ap (λ o. both_compare c o (read (after_act a s) y)) (quiet_read h a s x q k.0) ∙ ap (both_compare c (read s x)) (quiet_read h a s y q k.1)
check_stays h (stands p) a s k q = absurd k

pub holds_steady : (h n : ℕ) (c : Check) → CheckAbove h c → ((s : State) → n ≤ length s.places → CheckReady c s) → SteadyOne h n (holds c)
holds_steady h n c k r = record { ready = r; stays = λ a s q. check_stays h c a s k q }

pub fails_steady : (h n : ℕ) (c : Check) → CheckAbove h c → ((s : State) → n ≤ length s.places → CheckReady c s) → SteadyOne h n (fails c)
fails_steady h n c k r = record { ready = r; stays = λ a s q. ap not (check_stays h c a s k q) }

turned_twice : (b : Bool) → b ≡ not (not b)
turned_twice true = refl
turned_twice false = refl

pub against_holds : (c : Cond) (s : State) → cond_holds (against c) s ≡ not (cond_holds c s)
against_holds (holds c) s = refl
against_holds (fails c) s = turned_twice (check_holds c s)

against_ready : (c : Cond) (s : State) → CondReady c s → CondReady (against c) s
against_ready (holds c) s r = r
against_ready (fails c) s r = r

pub against_steady : (h n : ℕ) (c : Cond) → SteadyOne h n c → SteadyOne h n (against c)
against_steady h n c k = record {
  ready = λ s l. against_ready c s (k.ready s l);
  stays = λ a s q. against_holds c (after_act a s) ∙ (ap not (k.stays a s q) ∙ sym (against_holds c s));
}

pub alone_steady : (h n : ℕ) (c : Cond) → SteadyOne h n c → Steady h n (c ∷ [])
alone_steady h n c k = record { ready = λ s l. (k.ready s l, tt); stays = λ a s q. ap (λ b. b && true) (k.stays a s q) }

-- ---- ways out

module _ (h n : ℕ) (cs : List Cond) (k : Steady h n cs) where
  exit_runs : (acts : List Act) (rest : Items) (s : State) → n ≤ length s.places → QuietBelow h acts → conds_hold cs s ≡ true → ActsReady acts s
      → ItemsReady (exit_then cs acts rest) s × ((run_items (exit_then cs acts rest) s).state ≡ after_acts acts s)
  exit_runs [] rest s l q e r =
      ((k.ready s l, λ f. absurd (let y : true ≡ false = sym e ∙ f in cc)), ap (λ b. (let f : Flow = (if b then flow b s (step_weight (stop_when cs)) else more (step_weight (stop_when cs)) (run_items rest s)) in f.state)) e)
  exit_runs (a ∷ acts) rest s l q e r =
      let same : (if conds_hold cs s then after_act a s else s) ≡ after_act a s = ap (λ b. if b then after_act a s else s) e in
      let m = exit_runs acts rest (after_act a s) (subst (λ j. n ≤ j) (sym (quiet_long h a s q.0)) l) q.1 (k.stays a s q.0 ∙ e) r.1 in
      (((k.ready s l, λ f. r.0), λ f. subst (ItemsReady (exit_then cs acts rest)) (sym same) m.0), ap (λ u. (run_items (exit_then cs acts rest) u).state) same ∙ m.1)

  exit_goes : (acts : List Act) (rest : Items) (s : State) → n ≤ length s.places → conds_hold cs s ≡ false → ItemsReady rest s
      → ItemsReady (exit_then cs acts rest) s × ((run_items (exit_then cs acts rest) s).state ≡ (run_items rest s).state)
  exit_goes [] rest s l e w =
      ((k.ready s l, λ f. w), ap (λ b. (let f : Flow = (if b then flow b s (step_weight (stop_when cs)) else more (step_weight (stop_when cs)) (run_items rest s)) in f.state)) e)
  exit_goes (a ∷ acts) rest s l e w =
      let same : (if conds_hold cs s then after_act a s else s) ≡ s = ap (λ b. if b then after_act a s else s) e in
      let m = exit_goes acts rest s l e w in
      (((k.ready s l, λ f. absurd (let y : false ≡ true = sym e ∙ f in cc)), λ f. subst (ItemsReady (exit_then cs acts rest)) (sym same) m.0), ap (λ u. (run_items (exit_then cs acts rest) u).state) same ∙ m.1)

  -- it is taken, and it is passed
  pub way_taken : (P : State → Type 0) (acts : List Act) (rest : Items) (s : State) → n ≤ length s.places → QuietBelow h acts → conds_hold cs s ≡ true → ActsEnter acts s P → Enters (exit_then cs acts rest) s P
  way_taken P acts rest s l q e f = let m = exit_runs acts rest s l q e f.ready in enters_at P (exit_then cs acts rest) s (after_acts acts s) m.0 m.1 f.there f.keeps

  pub way_passed : (P : State → Type 0) (acts : List Act) (rest : Items) (s : State) → n ≤ length s.places → conds_hold cs s ≡ false → Proceeds rest s P → Proceeds (exit_then cs acts rest) s P
  way_passed P acts rest s l e f =
      let m = exit_goes acts rest s l e f.ready in
      proceeds_at P (exit_then cs acts rest) s (run_items rest s).state m.0 m.1 f.there f.spares
