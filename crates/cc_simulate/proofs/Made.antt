-- The piece that makes the frame of a function in a call from inside: over its arguments, where these have been passed;
-- else the first of the pieces that fetch them is next.
use Rattle.std.proofs.Common.{◌≡◌, ℕ, ◌+◌, ◌*◌, ◌<◌, ◌≤◌, List, [], ◌∷◌, ◌++◌, length, replicate, Bool, true, false, ◌||◌, if◌then◌else◌, Some, refl, sym, ap, ◌∙◌, subst, arith, ℤ, pos, bytes_eq}
use Rattle.std.proofs.lemmas.Bool.{ltb-true, ltb-false}
use Rattle.mc_nbt.specs.declared.value.Value.{Value}
use Rattle.mc_cmd.specs.Form.{Text}
use Rattle.wm_ast.specs.declared.module.Func.{Func}
use Rattle.wm_ast.specs.declared.module.FuncType.{FuncType}
use Rattle.wm_ast.specs.declared.module.Module.{Module}
use Rattle.wm_ast.specs.Store.{Callee, callee_of}
use Rattle.wm_ast.specs.Types.{run_types}
use Rattle.wm_flat.specs.Flat.{Activation, opened}
use Rattle.wm_flat.specs.FlatTyping.{types_of, IsFunction}
use Rattle.wm_flat.specs.Program.{IsProgram}
use Rattle.cc_line.specs.Sight.{Store, in_io, in_memory, in_rest}
use Rattle.cc_line.specs.Key.{key_state, key_end, key_next, key_follows, key_below, key_entry, is_work_key, score_trap, PieceId, body_piece}
use Rattle.cc_line.specs.Place.{score_places}
use Rattle.cc_line.specs.Running.{Kept}
use Rattle.cc_line.specs.State.{State}
use Rattle.cc_line.specs.Step.{Act}
use Rattle.cc_call.specs.Fetch.{making_acts}
use Rattle.cc_call.specs.Frames.{opening_acts}
use Rattle.cc_call.specs.Law.{is_making_key, Made, CallsWork}
use Rattle.cc_cut.specs.Law.{widths}
use Rattle.cc_move.specs.Law.{MovesFollow}
use Rattle.cc_pieces.specs.Fetching.{are_many, fetch_piece, opened_acts}
use Rattle.cc_body.specs.Pieces.{opening_items}
use Rattle.cc_body.specs.Layout.{frame_size}
use Rattle.cc_simulate.specs.Callers.{Waiting}
use Rattle.cc_simulate.specs.Law.{Enters}
use Rattle.cc_simulate.specs.Frame.{local_ints, stack_ints}
use Rattle.cc_simulate.specs.Stands.{RunsOver, is_written, At, Passing, Making, Fetching, Standing, rank_of}
use Rattle.cc_simulate.specs.Stands as stands
use Rattle.cc_simulate.specs.Uses.{uses_bytes}
use Rattle.cc_simulate.proofs.Acts.{after_acts, ActsEnter, acts_end}
use Rattle.cc_simulate.proofs.Frames.{widths_append}
use Rattle.cc_simulate.proofs.Opened.{zeros_are, args_wide, locals_fit, opening_enters}
use Rattle.cc_simulate.proofs.Whole.{IsWhole}
use Rattle.cc_simulate.proofs.Lasting.{lasts_made}

-- a state that stands for the activation, with a higher rank
abbrev pub Higher : Module → ℕ → List Activation → Activation → State → Type 0
Higher m r cs a s = (x : Standing m cs a s) × (r < rank_of m x) × IsWhole m cs a s x

-- ---- by the number of arguments

opened_few : (params locals size : ℕ) (first : PieceId) → are_many params ≡ false → opened_acts params locals size first ≡ opening_acts params locals size first
opened_few params locals size first e = ap (λ b. if b then making_acts params locals size first else opening_acts params locals size first) e

opened_many : (params locals size : ℕ) (first : PieceId) → are_many params ≡ true → opened_acts params locals size first ≡ making_acts params locals size first
opened_many params locals size first e = ap (λ b. if b then making_acts params locals size first else opening_acts params locals size first) e

-- ---- what is kept

first_two : (a b c : Bool) → a || (b || c) ≡ false → a || b ≡ false
first_two false false c e = refl
first_two false true c e = e
first_two true b c e = e

unwritten_is_not_made : (r : Store) (k : Text) → is_written r k ≡ false → is_making_key r k ≡ false
unwritten_is_not_made in_io k e = refl
unwritten_is_not_made in_memory k e = refl
unwritten_is_not_made in_rest k e = first_two (bytes_eq key_next k) (bytes_eq key_follows k) (bytes_eq key_below k || (bytes_eq key_entry k || is_work_key in_rest k)) e

-- the arguments stay in the caller's entry
abbrev pub passing_on : (m : Module) (cs : List Activation) (c a : Activation) (s t : State) (p : Passing m cs c a s) → score_places ≤ length t.places → RunsOver (uses_bytes m) (p.below ++ p.entry ∷ []) t → Passing m cs c a t
passing_on m cs c a s t p has calm = record {
  callee = p.callee;
  is_callee = p.is_callee;
  args = p.args;
  types = p.types;
  is_opened = p.is_opened;
  entry = p.entry;
  waits = p.waits;
  takes = p.takes;
  many = p.many;
  given = p.given;
  has_scores = has;
  below = p.below;
  waiting = p.waiting;
  calm = calm;
}

-- ---- the piece

module _ (moves : MovesFollow) (works : CallsWork) (m : Module) (program : IsProgram m) where
  -- over arguments that have been passed
  pub opened_enters : (n : ℕ) (f : Func) (t : FuncType) (k : Callee) → IsFunction m n f t → callee_of m n ≡ Some k → (us : List Value) → types_of us ≡ k.takes → (cs : List Activation) (bs : List Kept) → Waiting m n cs bs → (s : State) (junk : List ℤ)
      → s.places ≡ stack_ints us ++ junk → are_many (length (stack_ints us)) ≡ false → score_places ≤ length s.places → RunsOver (uses_bytes m) bs s → Enters (opening_items n t (run_types f.locals) (frame_size m n)) s (At m cs (opened n k us))
  opened_enters n f t k is found us types cs bs waiting s junk places few has calm =
      let goal : State → Type 0 = At m cs (opened n k us) in
      let l : length (stack_ints us) ≤ 17 = ltb-false 17 (length (stack_ints us)) few in
      let short : length (stack_ints us) ≤ score_places = omega arith in
      let none : are_many (widths t.params) ≡ false = ap are_many (sym (args_wide moves m program n f t k is found us types)) ∙ few in
      let made = opening_enters moves m program n f t k is found works us types cs bs waiting s junk places short has calm in
      acts_end goal _ s
      (subst (λ acts. ActsEnter acts s goal) (sym (opened_few (widths t.params) (widths (t.params ++ run_types f.locals)) (frame_size m n) (body_piece n 1) none)) made)

  -- the arguments are to be fetched
  module _ (ds : List Activation) (c a : Activation) (s : State) (x : Making m ds c a s) (f : Func) (t : FuncType) (is : IsFunction m a.func f t) where
    abbrev p : Passing m ds c a s
    p = x.passing

    abbrev zs : List ℤ
    zs = stack_ints p.args

    abbrev zeros : ℕ
    zeros = widths (run_types f.locals)

    abbrev size : ℕ
    size = frame_size m a.func

    abbrev goal : State → Type 0
    goal = Higher m 0 (c ∷ ds) a

    -- the first of the pieces that fetch them
    abbrev next : PieceId
    next = fetch_piece c.func p.waits.cut.index 0

    abbrev acts : List Act
    acts = making_acts (widths t.params) (widths t.params + zeros) size (body_piece a.func 1)

    wide : length zs ≡ widths t.params
    wide = args_wide moves m program a.func f t p.callee is p.is_callee p.args p.types

    many : are_many (widths t.params) ≡ true
    many = ap are_many (sym wide ∙ p.takes) ∙ p.many

    makes : ActsEnter acts s goal
    makes =
        let room = locals_fit moves m program a.func f t p.callee is p.is_callee in
        let w = works.making (widths t.params) zeros size next (body_piece a.func 1) s x.follows p.has_scores room.0 room.1 in
        let u : State = after_acts acts s in
        let made : Made (widths t.params) zeros size next (body_piece a.func 1) s u = w.there in
        let scores : score_places ≤ size = room.0 in
        let sized : length u.places ≡ size = made.sized in
        let calm : RunsOver (uses_bytes m) (p.below ++ p.entry ∷ []) u = record {
          trap = ap (λ g. g score_trap) made.scores ∙ p.calm.trap;
          state = made.keys in_io key_state refl ∙ p.calm.state;
          ending = (p.calm.ending.0, made.keys in_rest key_end refl ∙ p.calm.ending.1, p.calm.ending.2);
          standing = lasts_made s u made.keys made.scores p.calm.standing;
          below = made.keys in_rest key_below refl ∙ p.calm.below;
        } in
        let l : 17 < widths t.params = ltb-true 17 (widths t.params) many in
        let long : length zs ≡ widths t.params = wide in
        let front : length made.front ≡ widths t.params = made.front_length in
        let others : replicate zeros (pos 0) ≡ local_ints p.callee.zeros = sym (zeros_are moves m program a.func f t p.callee is p.is_callee) in
        let fetches : Fetching m ds c a 0 u = record {
          passing = passing_on m ds c a s u p (omega arith) calm;
          named = made.named;
          follows = made.follows;
          some_left = (let r : 304 * 0 < length zs = omega arith in r);
          missing = made.front;
          junk = made.junk;
          places = made.places ∙ ap (λ l. made.front ++ (l ++ made.junk)) others;
          counted = (let r : 304 * 0 + length made.front ≡ length zs = omega arith in r);
          sized = made.sized;
        } in
        record {
          ready = w.ready;
          there = (stands.fetching c ds 0 fetches refl, (let r : 0 < 1 = omega arith in r), λ st h. h);
          keeps = record { keys = λ r k e. made.keys r k (unwritten_is_not_made r k e); scores = λ h b q e. ap (λ g. g h) made.scores };
        }

    pub made_enters : Enters (opening_items a.func t (run_types f.locals) (frame_size m a.func)) s (Higher m 0 (c ∷ ds) a)
    made_enters =
        acts_end goal _ s
        (subst (λ ys. ActsEnter ys s goal) (sym (opened_many (widths t.params) (widths (t.params ++ run_types f.locals)) size (body_piece a.func 1) many))
        (subst (λ l. ActsEnter (making_acts (widths t.params) l size (body_piece a.func 1)) s goal) (sym (widths_append t.params (run_types f.locals))) makes))
