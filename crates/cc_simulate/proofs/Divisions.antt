-- Which operators divide, where their places are, and the test whether turns are left.
use Rattle.std.proofs.Common.{◌≡◌, ℕ, zero, suc, ◌+◌, ◌<◌, List, [], ◌∷◌, ◌++◌, length, Bool, true, false, ◌&&◌, Option, Some, None, refl, sym, ap, ◌∙◌, arith, ℤ, pos, if◌then◌else◌, nat_le, slice_index_or, append_assoc, length-append}
use Rattle.std.proofs.lemmas.Bool.{le-leb, lt-leb}
use Rattle.std.proofs.Math.Seq.{get_or-append_seam}
use Rattle.mc_nbt.specs.declared.value.Kind.TheVariants as kinds
use Rattle.mc_nbt.specs.declared.value.Value.{Value}
use Rattle.mc_cmd.specs.Command.{exactly}
use Rattle.mc_cmd.specs.World.{some_is_in}
use Rattle.wm_ast.specs.declared.module.Module.{Module}
use Rattle.wm_ast.specs.declared.operator.BinaryOp.{BinaryOp}
use Rattle.wm_ast.specs.declared.operator.Operator.{Operator}
use Rattle.wm_ast.specs.declared.operator.Operator.TheVariants.{Binary}
use Rattle.wm_ast.specs.Code.{Op, num}
use Rattle.wm_ast.specs.Operator.{divides, operator_of}
use Rattle.wm_valid.specs.Arrows.{◌>>=◌}
use Rattle.wm_place.specs.Visit.{Visit}
use Rattle.cc_line.specs.Sight.{in_rest}
use Rattle.cc_line.specs.Key.{key_next, PieceId, id_tree}
use Rattle.cc_line.specs.Routine.{AreAt}
use Rattle.cc_line.specs.Running.{Kept}
use Rattle.cc_line.specs.State.{State, with_tree}
use Rattle.cc_line.specs.Step.{set_site, when, flow, step_weight, conds_hold}
use Rattle.cc_line.specs.Item.{steps_items}
use Rattle.cc_call.specs.Frames.{next_site}
use Rattle.cc_cut.specs.Cost.{goes_on_behind}
use Rattle.cc_div64.specs.Division.{score_left}
use Rattle.cc_pieces.specs.Dividing.{turning_piece, answering_piece, dividing_piece, none_left, none_left_step}
use Rattle.cc_body.specs.Behind.{call_type, last_op, call_before, division_of, op_division, division_before}
use Rattle.cc_simulate.specs.Frame.{local_ints, stack_ints, Frame}
use Rattle.cc_simulate.specs.Stands.{RunsOver}
use Rattle.cc_simulate.proofs.Acts.{keeps_none, keeps_tree, Passes}
use Rattle.cc_simulate.proofs.Frames.{stack_append, top_of, held_length}

-- ---- operators

pub record IsDivision (o : Operator) (d : BinaryOp) : Type 0 where
  pub shape : o ≡ Binary kinds.I64 d
  pub divides : divides d ≡ true

pub is_division : (o : Operator) (d : BinaryOp) → division_of o ≡ Some d → IsDivision o d
is_division (Binary kinds.I64 op) d e = by_test (divides op) refl e
  where
    by_test : (b : Bool) → divides op ≡ b → (if b then Some op else None) ≡ Some d → IsDivision (Binary kinds.I64 op) d
    by_test true q k = let same : op ≡ d = cc in record { shape = ap (λ (x : BinaryOp). Binary kinds.I64 x) same; divides = ap divides (sym same) ∙ q }
    by_test false q k = absurd cc
is_division _ d e = absurd cc

pub division_ends : (o : Operator) (d : BinaryOp) → division_of o ≡ Some d → goes_on_behind o ≡ true
division_ends o d e = let i : IsDivision o d = is_division o d e in ap goes_on_behind i.shape ∙ i.divides

-- ---- places behind divisions

op_divides : (i : Op) (d : BinaryOp) → op_division i ≡ Some d → divides d ≡ true
op_divides (num op) d e = (is_division (operator_of op) d e).divides
op_divides _ d e = absurd cc

op_no_call : (m : Module) (i : Op) (d : BinaryOp) → op_division i ≡ Some d → call_type m i ≡ None
op_no_call m (num op) d e = refl
op_no_call m _ d e = absurd cc

pub before_divides : (v : Visit) (d : BinaryOp) → division_before v ≡ Some d → divides d ≡ true
before_divides v d e = by_last (last_op v.before) e
  where
    by_last : (o : Option Op) → o >>= op_division ≡ Some d → divides d ≡ true
    by_last None k = absurd cc
    by_last (Some i) k = op_divides i d k

-- no call is there
pub before_no_call : (m : Module) (v : Visit) (d : BinaryOp) → division_before v ≡ Some d → call_before m v ≡ None
before_no_call m v d e = by_last (last_op v.before) e
  where
    by_last : (o : Option Op) → o >>= op_division ≡ Some d → o >>= call_type m ≡ None
    by_last None k = absurd cc
    by_last (Some i) k = op_no_call m i d k

-- ---- operands in their places

pub are_at : (us pre junk : List ℤ) (s : State) (k : ℕ) → s.places ≡ pre ++ (us ++ junk) → k ≡ length pre → AreAt s k us
are_at [] pre junk s k e f = tt
are_at (u ∷ us) pre junk s k e f =
    let long : length s.places ≡ length (pre ++ (u ∷ (us ++ junk))) = ap length e in
    let parts = length-append pre (u ∷ (us ++ junk)) in
    let more : length (pre ++ (u ∷ [])) ≡ length pre + 1 = length-append pre (u ∷ []) in
    let next : s.places ≡ (pre ++ (u ∷ [])) ++ (us ++ junk) = e ∙ sym (append_assoc pre (u ∷ []) (us ++ junk)) in (
      let l : k < length s.places = omega arith in l,
      ap (λ zs. slice_index_or zs k (pos 0)) e ∙ (ap (λ j. slice_index_or (pre ++ (u ∷ (us ++ junk))) j (pos 0)) f ∙ get_or-append_seam pre u (us ++ junk) (pos 0)),
      are_at us (pre ++ (u ∷ [])) junk s (suc k) next (omega arith),
    )

-- the upper operands, the lowest first
pub frame_are_at : (size : ℕ) (ls us os : List Value) (s : State) → Frame size ls (us ++ os) s.places → AreAt s (top_of ls os) (stack_ints us)
frame_are_at size ls us os s f =
    let pre : List ℤ = local_ints ls ++ stack_ints os in
    are_at (stack_ints us) pre f.junk s (top_of ls os)
    (f.held
    ∙ (ap (λ l. (local_ints ls ++ l) ++ f.junk) (stack_append us os)
    ∙ (ap (λ l. l ++ f.junk) (sym (append_assoc (local_ints ls) (stack_ints os) (stack_ints us))) ∙ append_assoc pre (stack_ints us) f.junk)))
    (sym (held_length ls os))

-- ---- whether turns are left

-- the piece is next that goes on with a division
pub record GoesOn (n index left : ℕ) (s : State) : Type 0 where
  pub state : State
  pub passes : Passes (steps_items (none_left_step (answering_piece n index) ∷ [])) s state
  pub named : state.keys in_rest key_next ≡ Some (id_tree (dividing_piece n index left))
  pub places : state.places ≡ s.places
  pub scores : state.scores ≡ s.scores
  pub calm : {bytes : Bool} (bs : List Kept) → RunsOver bytes bs s → RunsOver bytes bs state

pub goes_on : (n index left : ℕ) (s : State) → s.scores score_left ≡ Some (pos left) → s.keys in_rest key_next ≡ Some (id_tree (turning_piece n index)) → GoesOn n index left s
goes_on n index zero s told named =
    let p : PieceId = answering_piece n index in
    let t : State = with_tree s next_site (Some (id_tree p)) in
    let holds : conds_hold none_left s ≡ true = ap (λ o. some_is_in (exactly (pos 0)) o && true) told in
    record {
      state = t;
      passes = record {
        ready = (((tt, tt), λ f. tt), λ f. tt);
        used = _;
        ends = ap (λ b. flow false (if b then t else s) (step_weight (when none_left (set_site next_site (id_tree p))) + 0)) holds;
        keeps = keeps_tree s next_site (Some (id_tree p)) refl;
      };
      named = refl;
      places = refl;
      scores = refl;
      calm = λ bs c. record { trap = c.trap; state = c.state; ending = c.ending; standing = c.standing; below = c.below };
    }
goes_on n index (suc k) s told named =
    let p : PieceId = answering_piece n index in
    let t : State = with_tree s next_site (Some (id_tree p)) in
    let up : nat_le 0 (suc k) ≡ true = le-leb 0 (suc k) (omega arith) in
    let down : nat_le (suc k) 0 ≡ false = lt-leb (suc k) 0 (omega arith) in
    let fails : conds_hold none_left s ≡ false =
    ap (λ o. some_is_in (exactly (pos 0)) o && true) told ∙ (ap (λ b. (b && nat_le (suc k) 0) && true) up ∙ ap (λ b. b && true) down)
    in
    record {
      state = s;
      passes = record {
        ready = (((tt, tt), λ f. tt), λ f. tt);
        used = _;
        ends = ap (λ b. flow false (if b then t else s) (step_weight (when none_left (set_site next_site (id_tree p))) + 0)) fails;
        keeps = keeps_none s;
      };
      named = named;
      places = refl;
      scores = refl;
      calm = λ bs c. c;
    }
