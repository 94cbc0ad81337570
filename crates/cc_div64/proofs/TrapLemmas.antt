-- Items behind the tests for traps, and the operands' words loaded.
use Rattle.std.proofs.Common.{◌≡◌, ℕ, ◌+◌, ◌<◌, List, length, Some, true, false, refl, ap, ◌∙◌, pos, codes, if◌then◌else◌}
use Rattle.wm_ast.specs.declared.answer.TrapKind.{TrapKind}
use Rattle.cc_line.specs.Key.{score_trap}
use Rattle.cc_line.specs.Place.{scratch}
use Rattle.cc_line.specs.State.{State, place_at, with_score}
use Rattle.cc_line.specs.Step.{set_spot, load_place, Cond, run_act, when, stop_when, conds_hold, flow, step_weight, CondsReady}
use Rattle.cc_line.specs.Item.{Items, first, step_item, join, steps_items}
use Rattle.cc_line.specs.Routine.{trap_number, Traps, trap_when}
use Rattle.cc_line.proofs.RunLemmas.{Halts, leads_first, halts_first, halts_here, halts_join}
use Rattle.cc_line.proofs.SettleLemmas.{score_beside}
use Rattle.cc_div64.specs.Division.{load_steps}
use Rattle.cc_div64.proofs.Passing.{Beside, beside_both, beside_none, Goes}

abbrev pub trap_state : State → TrapKind → State
trap_state s k = with_score s score_trap (pos (trap_number k))

-- items that end by this trap, from where nothing else differs but scratch scores of routines
pub record Springs (xs : Items) (s : State) (k : TrapKind) : Type 0 where
  pub state : State
  pub halts : Halts xs s (trap_state state k)
  pub beside : Beside s state

pub springs_traps : (xs : Items) (s : State) (k : TrapKind) → Springs xs s k → Traps xs s (trap_number k)
springs_traps xs s k f = record {
  ready = f.halts.ready;
  state = trap_state f.state k;
  used = f.halts.used;
  ends = f.halts.ends;
  recorded = refl;
  places = f.beside.places;
  keys = λ i j n. ap (λ m. m i j) f.beside.keys;
  scores = λ g n w e. ap (λ b. if b then Some (pos (trap_number k)) else f.state.scores g) e ∙ f.beside.scores g w;
}

pub springs_join : (xs ys : Items) (s : State) (P : State → Type 0) (k : TrapKind) → Goes xs s P → ((t : State) → P t → Springs ys t k) → Springs (join xs ys) s k
springs_join xs ys s P k f g =
    let h : Springs ys f.state k = g f.state f.holds in
    record { state = h.state; halts = halts_join xs ys s f.state (trap_state h.state k) f.leads h.halts; beside = beside_both s f.state h.state f.beside h.beside }

-- ---- a test that fails, and one that holds

pub goes_past : (cs : List Cond) (k : TrapKind) (xs : Items) (s : State) (P : State → Type 0) → CondsReady cs s → conds_hold cs s ≡ false → Goes xs s P → Goes (trap_when cs k xs) s P
goes_past cs k xs s P r e f = record {
  state = f.state;
  leads =
      leads_first (step_item (when cs (set_spot (scratch score_trap) (pos (trap_number k))))) s (first (step_item (stop_when cs)) xs) s f.state 2 (r, λ q. tt) (ap (λ b. flow false (if b then trap_state s k else s) 2) e)
      (leads_first (step_item (stop_when cs)) s xs s f.state 2 r (ap (λ b. flow b s 2) e) f.leads);
  beside = f.beside;
  holds = f.holds;
}

pub springs_past : (cs : List Cond) (k l : TrapKind) (xs : Items) (s : State) → CondsReady cs s → conds_hold cs s ≡ false → Springs xs s l → Springs (trap_when cs k xs) s l
springs_past cs k l xs s r e f = record {
  state = f.state;
  halts =
      halts_first (step_item (when cs (set_spot (scratch score_trap) (pos (trap_number k))))) s (first (step_item (stop_when cs)) xs) s (trap_state f.state l) 2 (r, λ q. tt) (ap (λ b. flow false (if b then trap_state s k else s) 2) e)
      (halts_first (step_item (stop_when cs)) s xs s (trap_state f.state l) 2 r (ap (λ b. flow b s 2) e) f.halts);
  beside = f.beside;
}

pub springs_here : (cs : List Cond) (k : TrapKind) (xs : Items) (s : State) → CondsReady cs s → conds_hold cs s ≡ true → CondsReady cs (trap_state s k) → conds_hold cs (trap_state s k) ≡ true → Springs (trap_when cs k xs) s k
springs_here cs k xs s r e r' e' = record {
  state = s;
  halts =
      halts_first (step_item (when cs (set_spot (scratch score_trap) (pos (trap_number k))))) s (first (step_item (stop_when cs)) xs) (trap_state s k) (trap_state s k) 2 (r, λ q. tt) (ap (λ b. flow false (if b then trap_state s k else s) 2) e)
      (halts_here (step_item (stop_when cs)) (trap_state s k) xs (trap_state s k) 2 r' (ap (λ b. flow b (trap_state s k) 2) e'));
  beside = beside_none s;
}

-- ---- the operands loaded

module _ (a : ℕ) (s : State) (la : a < length s.places) (lb : a + 1 < length s.places) (lc : a + 2 < length s.places) (ld : a + 3 < length s.places) where
  abbrev s1 : State
  s1 = with_score s (codes "#d") (place_at s a)

  abbrev s2 : State
  s2 = with_score s1 (codes "#e") (place_at s (a + 1))

  abbrev s3 : State
  s3 = with_score s2 (codes "#m") (place_at s (a + 2))

  abbrev pub loaded : State
  loaded = with_score s3 (codes "#n") (place_at s (a + 3))

  loaded_beside : Beside s loaded
  loaded_beside = record {
    places = refl;
    keys = refl;
    scores = λ h w. score_beside s3 (codes "#n") h (place_at s (a + 3)) refl w ∙ score_beside s2 (codes "#m") h (place_at s (a + 2)) refl w ∙ score_beside s1 (codes "#e") h (place_at s (a + 1)) refl w ∙ score_beside s (codes "#d") h (place_at s a) refl w;
  }

  pub loads_go : (xs : Items) (P : State → Type 0) → Goes xs loaded P → Goes (join (steps_items (load_steps a)) xs) s P
  loads_go xs P f = record {
    state = f.state;
    leads =
        leads_first (step_item (run_act (load_place (codes "#d") a))) s _ s1 f.state (step_weight (run_act (load_place (codes "#d") a))) la refl
        (leads_first (step_item (run_act (load_place (codes "#e") (a + 1)))) s1 _ s2 f.state (step_weight (run_act (load_place (codes "#e") (a + 1)))) lb refl
        (leads_first (step_item (run_act (load_place (codes "#m") (a + 2)))) s2 _ s3 f.state (step_weight (run_act (load_place (codes "#m") (a + 2)))) lc refl
        (leads_first (step_item (run_act (load_place (codes "#n") (a + 3)))) s3 _ loaded f.state (step_weight (run_act (load_place (codes "#n") (a + 3)))) ld refl f.leads)));
    beside = beside_both s loaded f.state loaded_beside f.beside;
    holds = f.holds;
  }

  pub loads_spring : (xs : Items) (k : TrapKind) → Springs xs loaded k → Springs (join (steps_items (load_steps a)) xs) s k
  loads_spring xs k f = record {
    state = f.state;
    halts =
        halts_first (step_item (run_act (load_place (codes "#d") a))) s _ s1 (trap_state f.state k) (step_weight (run_act (load_place (codes "#d") a))) la refl
        (halts_first (step_item (run_act (load_place (codes "#e") (a + 1)))) s1 _ s2 (trap_state f.state k) (step_weight (run_act (load_place (codes "#e") (a + 1)))) lb refl
        (halts_first (step_item (run_act (load_place (codes "#m") (a + 2)))) s2 _ s3 (trap_state f.state k) (step_weight (run_act (load_place (codes "#m") (a + 2)))) lc refl
        (halts_first (step_item (run_act (load_place (codes "#n") (a + 3)))) s3 _ loaded (trap_state f.state k) (step_weight (run_act (load_place (codes "#n") (a + 3)))) ld refl f.halts)));
    beside = beside_both s loaded f.state loaded_beside f.beside;
  }
