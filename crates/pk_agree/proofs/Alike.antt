-- States that differ in nothing that a job's standing speaks of: in the scheduler's scores, and in the arguments that are
-- handed in.
use Rattle.std.proofs.Common.{◌≡◌, ℕ, zero, suc, List, [], ◌∷◌, length, Option, Some, Bool, true, false, refl, sym, ap, ◌∙◌, subst, arith}
use Rattle.std.specs.Prelude.{ℤ, pos, ◌+ℤ◌, ◌-ℤ◌, codes, ◌&&◌, ◌||◌, if◌then◌else◌, option_and_then}
use Rattle.std.specs.Str.{bytes_eq}
use Rattle.std.proofs.lemmas.Slice.Eq.{bytes_eq-Decides}
use Rattle.mc_nbt.specs.Tree.{Tree, int, select}
use Rattle.mc_cmd.specs.Form.{Text}
use Rattle.mc_cmd.specs.Command.{from}
use Rattle.mc_cmd.specs.World.{or_zero, some_is_in, wrapped}
use Rattle.cc_line.specs.Sight.{Store, in_io, in_memory, in_rest, with_key}
use Rattle.cc_line.specs.Key.{key_state, key_trap, key_fail, key_filling, score_trap, score_charge, score_two, score_thirty_two, score_half_word, score_least, is_work}
use Rattle.cc_line.specs.Standing.{Standing}
use Rattle.cc_line.proofs.StandingLemmas.{SameKeys, keys_same, keys_stay, keys_then, standing_kept}
use Rattle.cc_line.specs.State.{State, number_at, selected, with_copy, with_score}
use Rattle.cc_line.specs.Step.{after_step, conds_hold, flow}
use Rattle.cc_line.specs.Item.{called, run_items, steps_items}
use Rattle.cc_call.specs.Frames.{result_score}
use Rattle.cc_call.specs.Law.{AreHanded}
use Rattle.cc_sched.specs.Charge.{with_scores, IsLike}
use Rattle.cc_sched.specs.Names.{is_sched_score, score_budget, score_state}
use Rattle.cc_sched.specs.Pieces.{guarded, told, tick_start}
use Rattle.cc_sched.specs.Sched.{give_back, state_site, reserve, trap_conds, trap_steps}

-- the key under which arguments are handed in
abbrev pub is_given : Store → Text → Bool
is_given in_io k = bytes_eq (codes "args") k
is_given in_memory k = false
is_given in_rest k = false

pub record Alike (s u : State) : Type 0 where
  pub places : u.places ≡ s.places
  pub scores : IsLike u.scores s.scores
  pub keys : (r : Store) (k : Text) → is_given r k ≡ false → u.keys r k ≡ s.keys r k

pub alike_self : (s : State) → Alike s s
alike_self s = record { places = refl; scores = λ h e. refl; keys = λ r k e. refl }

pub alike_then : (s t u : State) → Alike s t → Alike t u → Alike s u
alike_then s t u h g = record {
  places = g.places ∙ h.places;
  scores = λ j e. g.scores j e ∙ h.scores j e;
  keys = λ r k e. g.keys r k e ∙ h.keys r k e;
}

result_kept : (s u : State) → Alike s u → (k : ℕ) → u.scores (result_score k) ≡ s.scores (result_score k)
result_kept s u h zero = h.scores (result_score 0) refl
result_kept s u h (suc k) = h.scores (result_score 1) refl

-- results that are handed over stay so
pub results_kept : (k : ℕ) (zs : List ℤ) (s u : State) → Alike s u → AreHanded k zs s → AreHanded k zs u
results_kept k [] s u h a = tt
results_kept k (z ∷ zs) s u h a = (result_kept s u h k ∙ a.0, results_kept (suc k) zs s u h a.1)

-- texts that aren't the same differ
differs : (w h : Text) → (w ≡ h → ⊥) → bytes_eq w h ≡ false
differs w h never = go (bytes_eq w h) refl
  where
    go : (b : Bool) → bytes_eq w h ≡ b → b ≡ false
    go false f = refl
    go true f = absurd (never ((bytes_eq-Decides w h).0 f))

neither : (p q : Bool) → p ≡ false → q ≡ false → p || q ≡ false
neither false q e f = f
neither true q e f = absurd cc

-- a scratch score of routines is none of the scheduler
pub work_is_own : (h : Text) → is_work h ≡ true → is_sched_score h ≡ false
work_is_own (a ∷ (b ∷ [])) e =
    neither _ _ (differs (codes "#h_") (a ∷ (b ∷ [])) (λ f. absurd (let x : 3 ≡ 2 = ap length f in omega arith)))
    (differs score_charge (a ∷ (b ∷ [])) (λ f. absurd (let x : false ≡ true = ap is_work f ∙ e in cc)))
work_is_own _ e = absurd cc

-- a score of the scheduler is no other one
own_score : (j h : Text) → is_sched_score j ≡ true → is_sched_score h ≡ false → bytes_eq j h ≡ false
own_score j h own e = go (bytes_eq j h) refl
  where
    go : (b : Bool) → bytes_eq j h ≡ b → b ≡ false
    go false f = refl
    go true f =
        let same : j ≡ h = (bytes_eq-Decides j h).0 f in
        absurd (let x : true ≡ false = sym own ∙ ap is_sched_score same ∙ e in cc)

-- it is written
scored_alike : (s : State) (j : Text) (z : ℤ) → is_sched_score j ≡ true → Alike s (with_score s j z)
scored_alike s j z own =
    record { places = refl; scores = λ h e. ap (λ b. if b then Some z else s.scores h) (own_score j h own e); keys = λ r k e. refl }

-- the state is read
pub guarded_alike : (s : State) → Alike s (guarded s)
guarded_alike s = scored_alike s score_state (number_at (selected s state_site)) refl

-- a tick begins
pub start_alike : (piece b : ℕ) (s : State) → Alike s (tick_start piece b s)
start_alike piece b s =
    let t : State = with_score (guarded s) score_budget (pos b) in
    alike_then s (guarded s) (tick_start piece b s) (guarded_alike s)
    (alike_then (guarded s) t (tick_start piece b s) (scored_alike (guarded s) score_budget (pos b) refl)
    (scored_alike t score_budget (wrapped (or_zero (t.scores score_budget) -ℤ pos (reserve piece))) refl))

-- arguments are handed in
abbrev pub handed : State → Tree → State
handed s t = record s { keys = with_key s.keys in_io (codes "args") t }

pub handed_alike : (s : State) (t : Tree) → Alike s (handed s t)
handed_alike s t = record { places = refl; scores = λ h e. refl; keys = go }
  where
    go : (r : Store) (k : Text) → is_given r k ≡ false → (handed s t).keys r k ≡ s.keys r k
    go in_io k e = ap (λ b. if b then Some t else s.keys in_io k) e
    go in_memory k e = refl
    go in_rest k e = refl

-- something is given back to the budget
pub gave_alike : (s : State) → Alike s (after_step give_back s)
gave_alike s = scored_alike s score_budget (wrapped (or_zero (s.scores score_budget) +ℤ pos 13)) refl

-- ---- what a state has of a store

-- It is as it was: the public storage, what fills the lines of accesses, and all scores but the scheduler's and the trap.
pub record Remains (s u : State) : Type 0 where
  pub memory : (k : Text) → u.keys in_memory k ≡ s.keys in_memory k
  pub filling : u.keys in_rest key_filling ≡ s.keys in_rest key_filling
  pub scores : (h : Text) → is_sched_score h ≡ false → bytes_eq score_trap h ≡ false → u.scores h ≡ s.scores h
  -- and the standing tables
  pub tables : SameKeys s u

pub remains_then : (s t u : State) → Remains s t → Remains t u → Remains s u
remains_then s t u h g = record {
  memory = λ k. g.memory k ∙ h.memory k;
  filling = g.filling ∙ h.filling;
  scores = λ j e f. g.scores j e f ∙ h.scores j e f;
  tables = keys_then s t u h.tables g.tables;
}

pub alike_remains : (s u : State) → Alike s u → Remains s u
alike_remains s u h = record {
  memory = λ k. h.keys in_memory k refl;
  filling = h.keys in_rest key_filling refl;
  scores = λ j e f. h.scores j e;
  tables = keys_same s u (is_given in_rest) (refl, (refl, (refl, (refl, (refl, (refl, (refl, (refl, (refl, tt))))))))) (λ k e. h.keys in_rest k e);
}

-- constants and tables stand
pub stands_still : {bytes : Bool} (s u : State) → Remains s u → Standing bytes s → Standing bytes u
stands_still s u r p =
    standing_kept s u (r.scores score_two refl refl, (r.scores score_thirty_two refl refl, (r.scores score_half_word refl refl, (r.scores score_least refl refl, tt)))) r.tables p

-- ---- what is told without a trap

untold : (u : State) → conds_hold trap_conds u ≡ false → told u ≡ u
untold u e = ap (λ b. (if b then called 2 (run_items (steps_items trap_steps) u) else flow false u 2).state) e

abbrev pub recorded : Option ℤ → Bool
recorded o = some_is_in (from (pos 1)) o && true

quiet_told : (v : State) (f : Text → Option ℤ) (z : ℤ) → v.scores score_trap ≡ Some z → recorded (Some z) ≡ false
    → f score_trap ≡ v.scores score_trap → conds_hold trap_conds (with_scores v f) ≡ false
quiet_told v f z e r g = ap recorded (g ∙ e) ∙ r

-- the scheduler's scores are changed
pub scores_alike : (v : State) (f : Text → Option ℤ) → IsLike f v.scores → Alike v (with_scores v f)
scores_alike v f g = record { places = refl; scores = g; keys = λ r k e. refl }

-- nothing is told where no trap is recorded
pub quiet_turn : (v : State) (f : Text → Option ℤ) (z : ℤ) → v.scores score_trap ≡ Some z → recorded (Some z) ≡ false
    → IsLike f v.scores → Alike v (told (with_scores v f))
quiet_turn v f z e r g =
    subst (Alike v) (sym (untold (with_scores v f) (quiet_told v f z e r (g score_trap refl)))) (scores_alike v f g)

-- ---- what is told with a trap

-- the trap of this number is told, and the job has ended in this state
pub record Trapped (v : State) (n end : ℕ) (u : State) : Type 0 where
  pub places : u.places ≡ v.places
  pub told : u.keys in_io key_trap ≡ Some (int (pos n))
  pub state : u.keys in_io key_state ≡ Some (int (pos end))
  pub remains : Remains v u

abbrev ended : State → (Text → Option ℤ) → Option ℤ → ℕ → State
ended v f o end =
    record v { scores = f; keys = with_key (with_key v.keys in_io key_trap (int (or_zero o))) in_io key_state (int (pos end)) }

abbrev named_trap : State → (Text → Option ℤ) → State
named_trap v f = record v { scores = f; keys = with_key v.keys in_io key_trap (int (or_zero (f score_trap))) }

trapped_told : (v : State) (f : Text → Option ℤ) (n : ℕ) → v.scores score_trap ≡ Some (pos (suc n))
    → IsLike f v.scores → conds_hold trap_conds (with_scores v f) ≡ true
trapped_told v f n e g = ap recorded (g score_trap refl ∙ e) ∙ (let x : some_is_in (from (pos 1)) (Some (pos (suc n))) ≡ true = grind arith in ap (λ b. b && true) x)

told_is : (v : State) (f : Text → Option ℤ) (n end : ℕ) → v.scores score_trap ≡ Some (pos (suc n))
    → IsLike f v.scores → v.keys in_rest key_fail ≡ Some (int (pos end))
    → told (with_scores v f) ≡ ended v f (f score_trap) end
told_is v f n end e g h =
    ap (λ b. (if b then called 2 (run_items (steps_items trap_steps) (with_scores v f)) else flow false (with_scores v f) 2).state) (trapped_told v f n e g)
    ∙ ap (λ o. with_copy (named_trap v f) state_site (option_and_then (λ u. select u []) o)) h

pub trap_turn : (v : State) (f : Text → Option ℤ) (n end : ℕ) → v.scores score_trap ≡ Some (pos (suc n))
    → IsLike f v.scores → v.keys in_rest key_fail ≡ Some (int (pos end)) → Trapped v (suc n) end (told (with_scores v f))
trap_turn v f n end e g h =
    let t : State = ended v f (f score_trap) end in
    let known : ended v f (f score_trap) end ≡ ended v f (Some (pos (suc n))) end = ap (λ o. ended v f o end) (g score_trap refl ∙ e) in
    let x : Trapped v (suc n) end t = record {
      places = refl;
      told = ap (λ (u : State). u.keys in_io key_trap) known;
      state = refl;
      remains = record { memory = λ k. refl; filling = refl; scores = λ j q r. g j q; tables = keys_stay v };
    } in
    subst (λ u. Trapped v (suc n) end u) (sym (told_is v f n end e g h)) x
