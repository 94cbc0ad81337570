-- States that stand for an activation, or for the end of a call: what each shows, and that alike ones stand for the same.
use Rattle.std.proofs.Common.{◌≡◌, Bool, false, ℕ, zero, suc, ◌≤◌, ◌<◌, List, length, Option, Some, None, refl, ap, ◌∙◌, arith}
use Rattle.std.proofs.Math.Nat.{le-max_left}
use Rattle.mc_nbt.specs.declared.value.Value.{Value}
use Rattle.wm_ast.specs.declared.module.Module.{Module}
use Rattle.wm_ast.specs.Store.{Store}
use Rattle.wm_valid.specs.Height.{Low}
use Rattle.wm_place.specs.Kinds.{Body, function_body}
use Rattle.wm_flat.specs.Flat.{Activation}
use Rattle.wm_flat.specs.Operands.{operands}
use Rattle.wm_flat.specs.Program.{IsProgram}
use Rattle.cc_line.specs.Sight.{in_io, in_rest}
use Rattle.cc_line.specs.Key.{key_state, key_next, key_end, key_below, key_args, key_follows, score_trap, id_tree}
use Rattle.cc_line.specs.Place.{score_places}
use Rattle.cc_line.specs.Running.{Kept}
use Rattle.cc_line.specs.Routine.{value_ints}
use Rattle.cc_line.specs.State.{State}
use Rattle.cc_bulk.specs.Grow.{score_missing}
use Rattle.cc_div64.proofs.EndLemmas.{divisions_stay}
use Rattle.cc_cut.specs.Law.{rank, widths}
use Rattle.cc_cut.proofs.RankLemmas.{ranks_low}
use Rattle.cc_move.proofs.StandLemmas.{standings_show}
use Rattle.cc_sched.specs.Names.{is_end}
use Rattle.cc_pieces.specs.Dividing.{dividing_piece}
use Rattle.cc_pieces.specs.Fetching.{fetches, most_fetches}
use Rattle.cc_body.specs.Law.{FetchesAreFew}
use Rattle.cc_simulate.specs.Frame.{stack_ints, Frame}
use Rattle.cc_body.specs.Layout.{body_size, frame_size}
use Rattle.cc_simulate.specs.Stands.{Running, RunsOver, Ending, At, Opening, Restoring, Passing, Making, Fetching, Placing, Growing, Dividing, Standing}
use Rattle.cc_simulate.specs.Stands.{at_cut, opening, making, fetching, restoring, placing, growing, dividing, name_of, rank_of, HasStore}
use Rattle.cc_simulate.specs.Stands.{Entering, Taking}
use Rattle.cc_simulate.specs.Uses.{uses_bytes}
use Rattle.pk_agree.proofs.Indices.{fetch_within}
use Rattle.pk_agree.proofs.Alike.{Alike, results_kept, alike_remains, stands_still, work_is_own}
use Rattle.pk_agree.proofs.Answers.{stored_by, but_by}
use Rattle.cc_stops.proofs.Wide.{IsWide}

-- ---- alike states

running_kept : {bytes : Bool} (s u : State) → Alike s u → Running bytes s → Running bytes u
running_kept s u h r = record {
  trap = h.scores score_trap refl ∙ r.trap;
  state = h.keys in_io key_state refl ∙ r.state;
  ending = (r.ending.0, h.keys in_rest key_end refl ∙ r.ending.1, r.ending.2);
  standing = stands_still s u (alike_remains s u h) r.standing;
}

calm_kept : {bytes : Bool} (bs : List Kept) (s u : State) → Alike s u → RunsOver bytes bs s → RunsOver bytes bs u
calm_kept bs s u h c = record {
  trap = h.scores score_trap refl ∙ c.trap;
  state = h.keys in_io key_state refl ∙ c.state;
  ending = (c.ending.0, h.keys in_rest key_end refl ∙ c.ending.1, c.ending.2);
  standing = stands_still s u (alike_remains s u h) c.standing;
  below = h.keys in_rest key_below refl ∙ c.below;
}

pub wide_kept : (s u : State) → Alike s u → IsWide s → IsWide u
wide_kept s u h w = let e : length u.places ≡ length s.places = ap length h.places in omega arith

-- ---- frames

frame_kept : (size : ℕ) (locals stack : List Value) (s u : State) → Alike s u → Frame size locals stack s.places
    → Frame size locals stack u.places
frame_kept size locals stack s u h f =
    record { junk = f.junk; held = h.places ∙ f.held; sized = ap length h.places ∙ f.sized }

pub frames_wide : (o : Option Body) → score_places ≤ body_size o
frames_wide None = omega arith
frames_wide (Some b) = le-max_left score_places _

module _ (m : Module) where
  pub ending_kept : (vs : List Value) (s u : State) → Alike s u → Ending m vs s → Ending m vs u
  ending_kept vs s u h p = record {
    named = h.keys in_rest key_next refl ∙ p.named;
    results = results_kept 0 (stack_ints vs) s u h p.results;
    few = p.few;
    has_scores = wide_kept s u h p.has_scores;
    calm = calm_kept _ s u h p.calm;
  }

  pub entering_kept : (n : ℕ) (args : List Value) (s u : State) → Alike s u → Entering m n args s → Entering m n args u
  entering_kept n args s u h p = record {
    named = h.keys in_rest key_next refl ∙ p.named;
    given = h.keys in_rest key_args refl ∙ p.given;
    has_scores = wide_kept s u h p.has_scores;
    runs = running_kept s u h p.runs;
  }

  pub taking_kept : (n : ℕ) (args : List Value) (blank i : ℕ) (s u : State) → Alike s u → Taking m n args blank i s
      → Taking m n args blank i u
  taking_kept n args blank i s u h p = record {
    named = h.keys in_rest key_next refl ∙ p.named;
    follows = h.keys in_rest key_follows refl ∙ p.follows;
    given = h.keys in_rest key_args refl ∙ p.given;
    whole = p.whole;
    front = p.front;
    junk = p.junk;
    made = h.places ∙ p.made;
    front_length = p.front_length;
    sized = ap length h.places ∙ p.sized;
    calm = calm_kept _ s u h p.calm;
  }

  abbrev at_kept : (cs : List Activation) (a : Activation) (s u : State) → Alike s u → At m cs a s → At m cs a u
  at_kept cs a s u h p = record {
    cut = p.cut;
    is_cut = p.is_cut;
    visit = p.visit;
    stands = p.stands;
    place = p.place;
    named = h.keys in_rest key_next refl ∙ p.named;
    frame = frame_kept (frame_size m a.func) a.locals (operands a) s u h p.frame;
    below = p.below;
    waiting = p.waiting;
    calm = calm_kept p.below s u h p.calm;
  }

  opening_kept : (cs : List Activation) (a : Activation) (s u : State) → Alike s u → Opening m cs a s → Opening m cs a u
  opening_kept cs a s u h p = record {
    callee = p.callee;
    is_callee = p.is_callee;
    args = p.args;
    types = p.types;
    is_opened = p.is_opened;
    named = h.keys in_rest key_next refl ∙ p.named;
    junk = p.junk;
    places = h.places ∙ p.places;
    few = p.few;
    has_scores = wide_kept s u h p.has_scores;
    below = p.below;
    waiting = p.waiting;
    calm = calm_kept p.below s u h p.calm;
  }

  restoring_kept : (cs : List Activation) (c : Activation) (us : List Value) (s u : State) → Alike s u
      → Restoring m cs c us s → Restoring m cs c us u
  restoring_kept cs c us s u h p = record {
    callee = p.callee;
    types = p.types;
    few = p.few;
    entry = p.entry;
    waits = p.waits;
    named = h.keys in_rest key_next refl ∙ p.named;
    results = results_kept 0 (stack_ints us) s u h p.results;
    has_scores = wide_kept s u h p.has_scores;
    below = p.below;
    waiting = p.waiting;
    calm = calm_kept _ s u h p.calm;
  }

  abbrev passing_kept : (cs : List Activation) (c a : Activation) (s u : State) → Alike s u → Passing m cs c a s
      → Passing m cs c a u
  passing_kept cs c a s u h p = record {
    callee = p.callee;
    is_callee = p.is_callee;
    args = p.args;
    types = p.types;
    is_opened = p.is_opened;
    entry = p.entry;
    waits = p.waits;
    takes = p.takes;
    many = p.many;
    given = p.given;
    has_scores = wide_kept s u h p.has_scores;
    below = p.below;
    waiting = p.waiting;
    calm = calm_kept _ s u h p.calm;
  }

  making_kept : (cs : List Activation) (c a : Activation) (s u : State) → Alike s u → Making m cs c a s
      → Making m cs c a u
  making_kept cs c a s u h p = record {
    passing = passing_kept cs c a s u h p.passing;
    named = h.keys in_rest key_next refl ∙ p.named;
    follows = h.keys in_rest key_follows refl ∙ p.follows;
  }

  fetching_kept : (cs : List Activation) (c a : Activation) (k : ℕ) (s u : State) → Alike s u → Fetching m cs c a k s
      → Fetching m cs c a k u
  fetching_kept cs c a k s u h p = record {
    passing = passing_kept cs c a s u h p.passing;
    named = h.keys in_rest key_next refl ∙ p.named;
    follows = h.keys in_rest key_follows refl ∙ p.follows;
    some_left = p.some_left;
    missing = p.missing;
    junk = p.junk;
    places = h.places ∙ p.places;
    counted = p.counted;
    sized = ap length h.places ∙ p.sized;
  }

  placing_kept : (cs : List Activation) (a : Activation) (s u : State) → Alike s u → Placing m cs a s → Placing m cs a u
  placing_kept cs a s u h p = record {
    cut = p.cut;
    is_cut = p.is_cut;
    visit = p.visit;
    stands = p.stands;
    place = p.place;
    value = p.value;
    others = p.others;
    parts = p.parts;
    spot = p.spot;
    is_next = p.is_next;
    in_frame = p.in_frame;
    named = h.keys in_rest key_next refl ∙ p.named;
    follows = h.keys in_rest key_follows refl ∙ p.follows;
    handed = results_kept 0 (value_ints p.value) s u h p.handed;
    frame = frame_kept (frame_size m a.func) a.locals p.others s u h p.frame;
    below = p.below;
    waiting = p.waiting;
    calm = calm_kept p.below s u h p.calm;
  }

  abbrev growing_kept : (cs : List Activation) (a : Activation) (s u : State) → Alike s u → Growing m cs a s → Growing m cs a u
  growing_kept cs a s u h p = record {
    has_memory = p.has_memory;
    cut = p.cut;
    is_cut = p.is_cut;
    visit = p.visit;
    stands = p.stands;
    place = p.place;
    missing = p.missing;
    told = h.scores score_missing refl ∙ p.told;
    named = h.keys in_rest key_next refl ∙ p.named;
    follows = h.keys in_rest key_follows refl ∙ p.follows;
    frame = frame_kept (frame_size m a.func) a.locals (operands a) s u h p.frame;
    below = p.below;
    waiting = p.waiting;
    calm = calm_kept p.below s u h p.calm;
  }

  abbrev dividing_kept : (cs : List Activation) (a : Activation) (s u : State) → Alike s u → Dividing m cs a s → Dividing m cs a u
  dividing_kept cs a s u h p = record {
    cut = p.cut;
    is_cut = p.is_cut;
    piece = p.piece;
    is_piece = p.is_piece;
    op = p.op;
    behind = p.behind;
    visit = p.visit;
    stands = p.stands;
    place = p.place;
    answer = p.answer;
    others = p.others;
    parts = p.parts;
    left = p.left;
    few = p.few;
    division = divisions_stay p.op p.answer p.left s u (λ j w. h.scores j (work_is_own j w)) p.division;
    named = h.keys in_rest key_next refl ∙ p.named;
    frame = frame_kept (frame_size m a.func) a.locals p.others s u h p.frame;
    below = p.below;
    waiting = p.waiting;
    calm = calm_kept p.below s u h p.calm;
  }

  module _ (cs : List Activation) (a : Activation) where
    pub standing_kept : (s u : State) → Alike s u → Standing m cs a s → Standing m cs a u
    standing_kept s u h (at_cut p) = at_cut (at_kept cs a s u h p)
    standing_kept s u h (opening p) = opening (opening_kept cs a s u h p)
    standing_kept s u h (making c ds p e) = making c ds (making_kept ds c a s u h p) e
    standing_kept s u h (fetching c ds k p e) = fetching c ds k (fetching_kept ds c a k s u h p) e
    standing_kept s u h (restoring c us p e) = restoring c us (restoring_kept cs c us s u h p) e
    standing_kept s u h (placing p) = placing (placing_kept cs a s u h p)
    standing_kept s u h (growing p) = growing (growing_kept cs a s u h p)
    standing_kept s u h (dividing p) = dividing (dividing_kept cs a s u h p)

    pub rank_kept : (s u : State) (h : Alike s u) (x : Standing m cs a s)
        → rank_of m (standing_kept s u h x) ≡ rank_of m x
    unfolding standing_kept
    rank_kept s u h (at_cut p) = refl
    rank_kept s u h (opening p) = refl
    rank_kept s u h (making c ds p e) = refl
    rank_kept s u h (fetching c ds k p e) = refl
    rank_kept s u h (restoring c us p e) = refl
    rank_kept s u h (placing p) = refl
    rank_kept s u h (growing p) = refl
    rank_kept s u h (dividing p) = refl

    -- what it has of a store stays
    pub has_kept : (st : Store) (s u : State) (h : Alike s u) (x : Standing m cs a s) → HasStore m st s x
        → HasStore m st u (standing_kept s u h x)
    unfolding standing_kept
    has_kept st s u h (at_cut p) e = stored_by m st s u (alike_remains s u h) e
    has_kept st s u h (opening p) e = stored_by m st s u (alike_remains s u h) e
    has_kept st s u h (making c ds p q) e = stored_by m st s u (alike_remains s u h) e
    has_kept st s u h (fetching c ds k p q) e = stored_by m st s u (alike_remains s u h) e
    has_kept st s u h (restoring c us p q) e = stored_by m st s u (alike_remains s u h) e
    has_kept st s u h (placing p) e = stored_by m st s u (alike_remains s u h) e
    has_kept st s u h (growing p) e = but_by m p.missing st s u (alike_remains s u h) e
    has_kept st s u h (dividing p) e = stored_by m st s u (alike_remains s u h) e

    -- ---- what a standing shows

    pub standing_named : (s : State) (x : Standing m cs a s) → s.keys in_rest key_next ≡ Some (id_tree (name_of m x))
    standing_named s (at_cut p) = p.named
    standing_named s (opening p) = p.named
    standing_named s (making c ds p e) = p.named
    standing_named s (fetching c ds k p e) = p.named
    standing_named s (restoring c us p e) = p.named
    standing_named s (placing p) = p.named
    standing_named s (growing p) = p.named
    standing_named s (dividing p) = p.named

    -- the piece that it names doesn't end the job
    pub standing_goes : (s : State) (x : Standing m cs a s) → is_end (name_of m x) ≡ false
    standing_goes s (at_cut p) = refl
    standing_goes s (opening p) = refl
    standing_goes s (making c ds p e) = refl
    standing_goes s (fetching c ds k p e) = refl
    standing_goes s (restoring c us p e) = refl
    standing_goes s (placing p) = refl
    standing_goes s (growing p) = refl
    standing_goes s (dividing p) = by_left p.left
      where
        by_left : (left : ℕ) → is_end (dividing_piece a.func p.cut.index left) ≡ false
        by_left zero = refl
        by_left (suc left) = refl

    pub standing_runs : (s : State) → Standing m cs a s → Running (uses_bytes m) s
    standing_runs s (at_cut p) = record { trap = p.calm.trap; state = p.calm.state; ending = p.calm.ending; standing = p.calm.standing }
    standing_runs s (opening p) = record { trap = p.calm.trap; state = p.calm.state; ending = p.calm.ending; standing = p.calm.standing }
    standing_runs s (making c ds p e) =
        record { trap = p.passing.calm.trap; state = p.passing.calm.state; ending = p.passing.calm.ending; standing = p.passing.calm.standing }
    standing_runs s (fetching c ds k p e) =
        record { trap = p.passing.calm.trap; state = p.passing.calm.state; ending = p.passing.calm.ending; standing = p.passing.calm.standing }
    standing_runs s (restoring c us p e) = record { trap = p.calm.trap; state = p.calm.state; ending = p.calm.ending; standing = p.calm.standing }
    standing_runs s (placing p) = record { trap = p.calm.trap; state = p.calm.state; ending = p.calm.ending; standing = p.calm.standing }
    standing_runs s (growing p) = record { trap = p.calm.trap; state = p.calm.state; ending = p.calm.ending; standing = p.calm.standing }
    standing_runs s (dividing p) = record { trap = p.calm.trap; state = p.calm.state; ending = p.calm.ending; standing = p.calm.standing }

    own_wide : (s : State) → length s.places ≡ frame_size m a.func → IsWide s
    own_wide s e = let z : score_places ≤ frame_size m a.func = frames_wide (function_body m a.func) in omega arith

    pub standing_wide : (s : State) → Standing m cs a s → IsWide s
    standing_wide s (at_cut p) = own_wide s p.frame.sized
    standing_wide s (opening p) = p.has_scores
    standing_wide s (making c ds p e) = p.passing.has_scores
    standing_wide s (fetching c ds k p e) = p.passing.has_scores
    standing_wide s (restoring c us p e) = p.has_scores
    standing_wide s (placing p) = own_wide s p.frame.sized
    standing_wide s (growing p) = own_wide s p.frame.sized
    standing_wide s (dividing p) = own_wide s p.frame.sized

    -- no more than 14 pieces of the next step are gone by
    pub standing_low : FetchesAreFew → IsProgram m → Low m → (s : State) (x : Standing m cs a s) → rank_of m x ≤ 14
    standing_low few p low s (at_cut q) =
        let r : rank q.visit ≤ 5 = ranks_low m p.valid low a.func q.visit (standings_show m a q.visit q.stands).listed in
        omega arith
    standing_low few p low s (opening q) = omega arith
    standing_low few p low s (making c ds q e) = omega arith
    standing_low few p low s (fetching c ds k q e) =
        let w = q.passing.waits in
        let most : fetches (widths w.type.params) ≤ most_fetches =
        few m p low c.func w.is_piece.position w.piece w.type w.is_piece.is_piece w.behind in
        let own : k < fetches (widths w.type.params) =
        fetch_within k (widths w.type.params) (length (stack_ints q.passing.args)) q.passing.many q.passing.takes q.some_left in
        omega arith
    standing_low few p low s (restoring c us q e) = omega arith
    standing_low few p low s (placing q) = omega arith
    standing_low few p low s (growing q) = omega arith
    standing_low few p low s (dividing q) = omega arith
