-- What a state stands for, another one stands for that agrees with it: two states that one world shows do so.
use Rattle.std.proofs.Common.{◌≡◌, Bool, true, ℕ, zero, suc, ◌≤◌, List, [], ◌∷◌, length, refl, ap, ◌∙◌, arith}
use Rattle.std.specs.Prelude.{ℤ}
use Rattle.mc_nbt.specs.declared.value.Value.{Value}
use Rattle.mc_cmd.specs.Form.{Text}
use Rattle.wm_ast.specs.declared.module.Module.{Module}
use Rattle.wm_flat.specs.Flat.{Activation}
use Rattle.wm_flat.specs.Operands.{operands}
use Rattle.cc_line.specs.Sight.{in_io, in_rest}
use Rattle.cc_line.specs.Key.{key_state, key_next, key_end, key_below, key_args, key_follows, score_trap, is_work}
use Rattle.cc_line.specs.Key.{score_two, score_thirty_two, score_half_word, score_least}
use Rattle.cc_line.specs.Key.{key_low, key_high, key_and, key_raised, key_left, key_right_signed, key_right, key_turn_left, key_turn_right}
use Rattle.cc_line.specs.Place.{is_scratch, score_places}
use Rattle.cc_line.specs.Routine.{value_ints}
use Rattle.cc_line.specs.Running.{Kept}
use Rattle.cc_line.specs.State.{State}
use Rattle.cc_line.proofs.StandingLemmas.{standing_kept as stands_still}
use Rattle.cc_bulk.specs.Grow.{score_missing}
use Rattle.cc_call.specs.Frames.{result_score}
use Rattle.cc_call.specs.Law.{AreHanded}
use Rattle.cc_div64.proofs.EndLemmas.{divisions_stay}
use Rattle.cc_body.specs.Layout.{frame_size}
use Rattle.cc_simulate.specs.Frame.{stack_ints, Frame}
use Rattle.cc_simulate.specs.Stands.{Running, RunsOver, At, Opening, Restoring, Passing, Making, Fetching, Placing, Growing, Dividing, Standing}
use Rattle.cc_simulate.specs.Stands.{at_cut, opening, making, fetching, restoring, placing, growing, dividing}
use Rattle.cc_simulate.specs.Stands.{Entering, Taking}
use Rattle.pk_sight.specs.Law.{Agree}

-- ---- parts

-- a scratch score of routines is no place's
work_scratch : (h : Text) → is_work h ≡ true → is_scratch h ≡ true
work_scratch [] e = absurd cc
work_scratch (a ∷ []) e = absurd cc
work_scratch (a ∷ b ∷ c ∷ t) e = absurd cc
work_scratch (a ∷ b ∷ []) e = grind arith

wide_kept : (s u : State) → Agree u s → score_places ≤ length s.places → score_places ≤ length u.places
wide_kept s u h w = let e : length u.places ≡ length s.places = ap length h.places in omega arith

result_kept : (s u : State) → Agree u s → (k : ℕ) → u.scores (result_score k) ≡ s.scores (result_score k)
result_kept s u h zero = h.scores (result_score 0) refl
result_kept s u h (suc k) = h.scores (result_score 1) refl

-- results that are handed over stay so
results_kept : (k : ℕ) (zs : List ℤ) (s u : State) → Agree u s → AreHanded k zs s → AreHanded k zs u
results_kept k [] s u h a = tt
results_kept k (z ∷ zs) s u h a = (result_kept s u h k ∙ a.0, results_kept (suc k) zs s u h a.1)

pub running_kept : {bytes : Bool} (s u : State) → Agree u s → Running bytes s → Running bytes u
running_kept s u h r = record {
  trap = h.scores score_trap refl ∙ r.trap;
  state = h.keys in_io key_state refl ∙ r.state;
  ending = (r.ending.0, h.keys in_rest key_end refl ∙ r.ending.1, r.ending.2);
  standing =
      stands_still s u
      (h.scores score_two refl, (h.scores score_thirty_two refl, (h.scores score_half_word refl, (h.scores score_least refl, tt))))
      (h.keys in_rest key_low refl, (h.keys in_rest key_high refl, (h.keys in_rest key_and refl, (h.keys in_rest key_raised refl, (h.keys in_rest key_left refl, (h.keys in_rest key_right_signed refl, (h.keys in_rest key_right refl, (h.keys in_rest key_turn_left refl, (h.keys in_rest key_turn_right refl, tt)))))))))
      r.standing;
}

calm_kept : {bytes : Bool} (bs : List Kept) (s u : State) → Agree u s → RunsOver bytes bs s → RunsOver bytes bs u
calm_kept bs s u h c =
    let r = running_kept s u h (record { trap = c.trap; state = c.state; ending = c.ending; standing = c.standing }) in
    record { trap = r.trap; state = r.state; ending = r.ending; standing = r.standing; below = h.keys in_rest key_below refl ∙ c.below }

frame_kept : (size : ℕ) (locals stack : List Value) (s u : State) → Agree u s → Frame size locals stack s.places
    → Frame size locals stack u.places
frame_kept size locals stack s u h f =
    record { junk = f.junk; held = h.places ∙ f.held; sized = ap length h.places ∙ f.sized }

-- ---- cases

module _ (m : Module) where
  pub entering_kept : (n : ℕ) (args : List Value) (s u : State) → Agree u s → Entering m n args s → Entering m n args u
  entering_kept n args s u h p = record {
    named = h.keys in_rest key_next refl ∙ p.named;
    given = h.keys in_rest key_args refl ∙ p.given;
    has_scores = wide_kept s u h p.has_scores;
    runs = running_kept s u h p.runs;
  }

  pub taking_kept : (n : ℕ) (args : List Value) (blank i : ℕ) (s u : State) → Agree u s → Taking m n args blank i s
      → Taking m n args blank i u
  taking_kept n args blank i s u h p = record {
    named = h.keys in_rest key_next refl ∙ p.named;
    follows = h.keys in_rest key_follows refl ∙ p.follows;
    given = h.keys in_rest key_args refl ∙ p.given;
    whole = p.whole;
    front = p.front;
    junk = p.junk;
    made = h.places ∙ p.made;
    front_length = p.front_length;
    sized = ap length h.places ∙ p.sized;
    calm = calm_kept _ s u h p.calm;
  }

  at_kept : (cs : List Activation) (a : Activation) (s u : State) → Agree u s → At m cs a s → At m cs a u
  at_kept cs a s u h p = record {
    cut = p.cut;
    is_cut = p.is_cut;
    visit = p.visit;
    stands = p.stands;
    place = p.place;
    named = h.keys in_rest key_next refl ∙ p.named;
    frame = frame_kept (frame_size m a.func) a.locals (operands a) s u h p.frame;
    below = p.below;
    waiting = p.waiting;
    calm = calm_kept p.below s u h p.calm;
  }

  opening_kept : (cs : List Activation) (a : Activation) (s u : State) → Agree u s → Opening m cs a s → Opening m cs a u
  opening_kept cs a s u h p = record {
    callee = p.callee;
    is_callee = p.is_callee;
    args = p.args;
    types = p.types;
    is_opened = p.is_opened;
    named = h.keys in_rest key_next refl ∙ p.named;
    junk = p.junk;
    places = h.places ∙ p.places;
    few = p.few;
    has_scores = wide_kept s u h p.has_scores;
    below = p.below;
    waiting = p.waiting;
    calm = calm_kept p.below s u h p.calm;
  }

  restoring_kept : (cs : List Activation) (c : Activation) (us : List Value) (s u : State) → Agree u s
      → Restoring m cs c us s → Restoring m cs c us u
  restoring_kept cs c us s u h p = record {
    callee = p.callee;
    types = p.types;
    few = p.few;
    entry = p.entry;
    waits = p.waits;
    named = h.keys in_rest key_next refl ∙ p.named;
    results = results_kept 0 (stack_ints us) s u h p.results;
    has_scores = wide_kept s u h p.has_scores;
    below = p.below;
    waiting = p.waiting;
    calm = calm_kept _ s u h p.calm;
  }

  abbrev passing_kept : (cs : List Activation) (c a : Activation) (s u : State) → Agree u s → Passing m cs c a s
      → Passing m cs c a u
  passing_kept cs c a s u h p = record {
    callee = p.callee;
    is_callee = p.is_callee;
    args = p.args;
    types = p.types;
    is_opened = p.is_opened;
    entry = p.entry;
    waits = p.waits;
    takes = p.takes;
    many = p.many;
    given = p.given;
    has_scores = wide_kept s u h p.has_scores;
    below = p.below;
    waiting = p.waiting;
    calm = calm_kept _ s u h p.calm;
  }

  making_kept : (cs : List Activation) (c a : Activation) (s u : State) → Agree u s → Making m cs c a s
      → Making m cs c a u
  making_kept cs c a s u h p = record {
    passing = passing_kept cs c a s u h p.passing;
    named = h.keys in_rest key_next refl ∙ p.named;
    follows = h.keys in_rest key_follows refl ∙ p.follows;
  }

  fetching_kept : (cs : List Activation) (c a : Activation) (k : ℕ) (s u : State) → Agree u s → Fetching m cs c a k s
      → Fetching m cs c a k u
  fetching_kept cs c a k s u h p = record {
    passing = passing_kept cs c a s u h p.passing;
    named = h.keys in_rest key_next refl ∙ p.named;
    follows = h.keys in_rest key_follows refl ∙ p.follows;
    some_left = p.some_left;
    missing = p.missing;
    junk = p.junk;
    places = h.places ∙ p.places;
    counted = p.counted;
    sized = ap length h.places ∙ p.sized;
  }

  placing_kept : (cs : List Activation) (a : Activation) (s u : State) → Agree u s → Placing m cs a s → Placing m cs a u
  placing_kept cs a s u h p = record {
    cut = p.cut;
    is_cut = p.is_cut;
    visit = p.visit;
    stands = p.stands;
    place = p.place;
    value = p.value;
    others = p.others;
    parts = p.parts;
    spot = p.spot;
    is_next = p.is_next;
    in_frame = p.in_frame;
    named = h.keys in_rest key_next refl ∙ p.named;
    follows = h.keys in_rest key_follows refl ∙ p.follows;
    handed = results_kept 0 (value_ints p.value) s u h p.handed;
    frame = frame_kept (frame_size m a.func) a.locals p.others s u h p.frame;
    below = p.below;
    waiting = p.waiting;
    calm = calm_kept p.below s u h p.calm;
  }

  growing_kept : (cs : List Activation) (a : Activation) (s u : State) → Agree u s → Growing m cs a s → Growing m cs a u
  growing_kept cs a s u h p = record {
    has_memory = p.has_memory;
    cut = p.cut;
    is_cut = p.is_cut;
    visit = p.visit;
    stands = p.stands;
    place = p.place;
    missing = p.missing;
    told = h.scores score_missing refl ∙ p.told;
    named = h.keys in_rest key_next refl ∙ p.named;
    follows = h.keys in_rest key_follows refl ∙ p.follows;
    frame = frame_kept (frame_size m a.func) a.locals (operands a) s u h p.frame;
    below = p.below;
    waiting = p.waiting;
    calm = calm_kept p.below s u h p.calm;
  }

  dividing_kept : (cs : List Activation) (a : Activation) (s u : State) → Agree u s → Dividing m cs a s → Dividing m cs a u
  dividing_kept cs a s u h p = record {
    cut = p.cut;
    is_cut = p.is_cut;
    piece = p.piece;
    is_piece = p.is_piece;
    op = p.op;
    behind = p.behind;
    visit = p.visit;
    stands = p.stands;
    place = p.place;
    answer = p.answer;
    others = p.others;
    parts = p.parts;
    left = p.left;
    few = p.few;
    division = divisions_stay p.op p.answer p.left s u (λ j w. h.scores j (work_scratch j w)) p.division;
    named = h.keys in_rest key_next refl ∙ p.named;
    frame = frame_kept (frame_size m a.func) a.locals p.others s u h p.frame;
    below = p.below;
    waiting = p.waiting;
    calm = calm_kept p.below s u h p.calm;
  }

  module _ (cs : List Activation) (a : Activation) where
    pub standing_kept : (s u : State) → Agree u s → Standing m cs a s → Standing m cs a u
    standing_kept s u h (at_cut p) = at_cut (at_kept cs a s u h p)
    standing_kept s u h (opening p) = opening (opening_kept cs a s u h p)
    standing_kept s u h (making c ds p e) = making c ds (making_kept ds c a s u h p) e
    standing_kept s u h (fetching c ds k p e) = fetching c ds k (fetching_kept ds c a k s u h p) e
    standing_kept s u h (restoring c us p e) = restoring c us (restoring_kept cs c us s u h p) e
    standing_kept s u h (placing p) = placing (placing_kept cs a s u h p)
    standing_kept s u h (growing p) = growing (growing_kept cs a s u h p)
    standing_kept s u h (dividing p) = dividing (dividing_kept cs a s u h p)
