-- A call of few arguments: the caller's frame goes below, they become the first places, and the state stands for the
-- activation that is called, at its first place or before its frame is made.
use Rattle.std.proofs.Common.{◌≡◌, ℕ, suc, ◌+◌, ◌-◌, ◌<◌, ◌≤◌, List, [], ◌∷◌, ◌++◌, length, take, drop, Bool, true, false, Some, refl, sym, ap, ◌∙◌, subst, arith, ℤ, pos, codes, if◌then◌else◌, length-append, length-drop}
use Rattle.std.specs.Prelude.{nat_lt}
use Rattle.std.proofs.lemmas.Bool.{ltb-true, ltb-false}
use Rattle.std.proofs.lemmas.List.{length-take-le, take-take}
use Rattle.mc_nbt.specs.Tree.{int}
use Rattle.mc_nbt.specs.declared.value.Value.{Value}
use Rattle.wm_ast.specs.declared.limit.TheConstants.{MAX_FRAMES}
use Rattle.wm_ast.specs.declared.module.Func.{Func}
use Rattle.wm_ast.specs.declared.module.FuncType.{FuncType}
use Rattle.wm_ast.specs.declared.module.Module.{Module}
use Rattle.wm_ast.specs.Store.{Callee, callee_of}
use Rattle.wm_ast.specs.Types.{run_types}
use Rattle.wm_flat.specs.Flat.{Activation, opened}
use Rattle.wm_flat.specs.FlatTyping.{types_of, IsFunction}
use Rattle.wm_flat.specs.Program.{IsProgram}
use Rattle.cc_line.specs.Sight.{in_io, in_rest}
use Rattle.cc_line.specs.Key.{key_state, key_next, score_trap, PieceId, body_piece, shared_piece, id_tree}
use Rattle.cc_line.specs.Place.{score_places}
use Rattle.cc_line.specs.Running.{Kept}
use Rattle.cc_line.specs.State.{State, at_key, with_tree, with_score}
use Rattle.cc_line.specs.Step.{Act}
use Rattle.cc_line.specs.Item.{Items, steps_items}
use Rattle.cc_line.proofs.CoreLemmas.{work_apart}
use Rattle.cc_line.proofs.RunLemmas.{steps_run, steps_ready}
use Rattle.cc_call.specs.Frames.{first_opening, opening_piece, opening_acts, next_acts, depth_steps, deep_trap, kept_places, kept, push_acts, pass_acts}
use Rattle.cc_call.specs.Law.{Pushed, Passed, IsKept, CallsWork}
use Rattle.cc_cut.specs.Law.{widths}
use Rattle.cc_move.specs.Law.{MovesFollow}
use Rattle.cc_pieces.specs.Fetching.{most_passed, are_many}
use Rattle.cc_body.specs.Emit.{opens_here, enter_acts, enter_found_acts, steps_then}
use Rattle.cc_body.specs.Layout.{frame_size}
use Rattle.cc_simulate.specs.Callers.{IsHeld, Waiting}
use Rattle.cc_simulate.specs.Frame.{stack_ints, Frame}
use Rattle.cc_simulate.specs.Stands.{RunsOver, ChangesFrameAlone, Opening}
use Rattle.cc_simulate.specs.Stands as stands
use Rattle.cc_simulate.specs.Law.{Enters}
use Rattle.cc_simulate.specs.Uses.{uses_bytes}
use Rattle.cc_simulate.proofs.Acts.{keeps_both, keeps_places, keeps_tree, keeps_calls, calm_places, calm_calls, Passes, Halts, join_passes, join_halts, after_acts, ActsEnter, append_enters}
use Rattle.cc_simulate.proofs.Frames.{stack_length, widths_reverse, widths_append, types_append, top_of, frame_top, frame_upper}
use Rattle.cc_simulate.proofs.Finding.{name_leaves, next_shared}
use Rattle.cc_simulate.proofs.Opened.{takes_are, opening_enters}
use Rattle.cc_simulate.proofs.Whole.{Whole}

-- ---- the limit of frames

-- under each caller stands another one, or the base
pub depth_of : (m : Module) (n : ℕ) (cs : List Activation) (bs : List Kept) → Waiting m n cs bs → length bs ≡ suc (length cs)
depth_of m n [] bs e = ap length e
depth_of m n (c ∷ cs) bs (rest, b, is, waits, others) =
    let l : length bs ≡ length (rest ++ b ∷ []) = ap length is in
    let k : length (rest ++ b ∷ []) ≡ length rest + 1 = length-append rest (b ∷ []) in
    let h : length rest ≡ suc (length cs) = depth_of m c.func cs rest others in
    omega arith

module _ {bytes : Bool} (works : CallsWork) (bs : List Kept) (s : State) (calm : RunsOver bytes bs s) where
  keeps_depth : (z : ℤ) → ChangesFrameAlone s (with_score s (codes "#d") z)
  keeps_depth z = record { keys = λ r k e. refl; scores = λ h a b c. ap (λ p. if p then Some z else s.scores h) (work_apart (codes "#d") h refl b) }

  -- a further frame may stand
  pub not_deep : (P : State → Type 0) (rest : Items) → length bs < MAX_FRAMES → ((z : ℤ) → RunsOver bytes bs (with_score s (codes "#d") z) → Enters rest (with_score s (codes "#d") z) P) → Enters (steps_then depth_steps rest) s P
  not_deep P rest l next =
      let w = works.depth bs s calm.below in
      let (z, k, e) = w.1 l in
      let t : State = with_score s (codes "#d") z in
      let passes : Passes (steps_items depth_steps) s t = record { ready = steps_ready depth_steps s w.0; used = k; ends = steps_run depth_steps s ∙ e; keeps = keeps_depth z } in
      join_passes P (steps_items depth_steps) rest s t passes (next z (record { trap = calm.trap; state = calm.state; ending = calm.ending; standing = calm.standing; below = calm.below }))

  -- none may
  pub too_deep : (P : State → Type 0) (rest : Items) → MAX_FRAMES ≤ length bs
      → ((t : State) → t.scores score_trap ≡ Some (pos deep_trap) → t.keys in_io key_state ≡ Some (int (pos 1)) → P t) → Enters (steps_then depth_steps rest) s P
  too_deep P rest l ends =
      let w = works.depth bs s calm.below in
      let (z, k, e) = w.2 l in
      let t : State = with_score s (codes "#d") z in
      let u : State = with_score t score_trap (pos deep_trap) in
      let keeps : ChangesFrameAlone t u = record { keys = λ r j e. refl; scores = λ h a b c. ap (λ p. if p then Some (pos deep_trap) else t.scores h) c } in
      let halts : Halts (steps_items depth_steps) s u = record { ready = steps_ready depth_steps s w.0; used = k; ends = steps_run depth_steps s ∙ e; keeps = keeps_both s t u (keeps_depth z) keeps } in
      join_halts P (steps_items depth_steps) rest s u halts (ends u refl calm.state)

-- ---- the caller's entry

-- an entry of the first places, as many as these numbers or more, keeps them
pub is_held : (size z top : ℕ) (zs places : List ℤ) → z ≤ top → top ≤ length places → length zs ≡ z → length places ≡ size → take z places ≡ zs → IsHeld size zs (kept_places top places)
is_held size z top zs places below within long sized first = by_high (nat_lt score_places top) refl
  where
    is_kept : (b : Bool) → nat_lt score_places top ≡ b → IsKept z size (if b then places else take top places)
    is_kept true e = record { low = λ k. let r : z ≤ length places = omega arith in r; high = λ k. sized }
    is_kept false e = record {
      low = λ k. let l = length-take-le top places within in let r : z ≤ length (take top places) = omega arith in r;
      high = λ k. let a = ltb-true score_places z k in let b = ltb-false score_places top e in absurd (omega arith);
    }

    starts : (b : Bool) → take z (if b then places else take top places) ≡ zs
    starts true = first
    starts false = take-take z top places below ∙ first

    by_high : (b : Bool) → nat_lt score_places top ≡ b → IsHeld size zs (if b then places else take top places)
    by_high b e = record {
      kept = subst (λ k. IsKept k size (if b then places else take top places)) (sym long) (is_kept b e);
      held = ap (λ k. take k (if b then places else take top places)) long ∙ starts b;
    }

-- ---- the acts of a call

-- the caller's frame goes below, the arguments become the first places, and then further acts lead on
module _ (bytes : Bool) (works : CallsWork) (params size : ℕ) (ls us os : List Value) (wide : widths (types_of us) ≡ params) (room : score_places ≤ size) (P : State → Type 0) (acts : List Act) where
  -- they do, over these frames, where no score has changed
  abbrev pub GoOn : List Kept → State → Type 0
  GoOn bs s = (u : State) (junk : List ℤ) → u.places ≡ stack_ints us ++ junk → score_places ≤ length u.places → u.scores ≡ s.scores → RunsOver bytes bs u → ActsEnter acts u P

  -- the arguments
  passes : (bs : List Kept) (s : State) → Frame size ls (us ++ os) s.places → RunsOver bytes bs s → GoOn bs s → ActsEnter (pass_acts (top_of ls os) 0 params ++ acts) s P
  passes bs s frame calm go =
      let z : ℕ = top_of ls os in
      let a = ap widths (types_append us os) in
      let b = widths_append (types_of us) (types_of os) in
      let e = wide in
      let top = frame_top size ls (us ++ os) s.places frame in
      let sized : length s.places ≡ size = frame.sized in
      let low : z + params ≤ length s.places = omega arith in
      let w = works.pass z params s low in
      let u : State = after_acts (pass_acts z 0 params) s in
      let passed : Passed z params s u = w.there in
      let first : take params (drop z s.places) ≡ stack_ints us = ap (λ j. take j (drop z s.places)) (sym wide) ∙ frame_upper size ls us os s.places frame in
      let places : u.places ≡ stack_ints us ++ drop params s.places = passed.places ∙ ap (λ l. l ++ drop params s.places) first in
      let l1 : length u.places ≡ length (stack_ints us ++ drop params s.places) = ap length places in
      let l2 : length (stack_ints us ++ drop params s.places) ≡ length (stack_ints us) + length (drop params s.places) = length-append (stack_ints us) (drop params s.places) in
      let l3 : length (stack_ints us) ≡ widths (types_of us) = stack_length us in
      let l4 : length (drop params s.places) ≡ length s.places - params = length-drop params s.places in
      let has : score_places ≤ length u.places = omega arith in
      append_enters P (pass_acts z 0 params) acts s w.ready (keeps_places s u passed.keys passed.scores)
      (go u (drop params s.places) places has passed.scores (calm_places bs s u passed.keys passed.scores calm))

  -- the caller's frame, and then the arguments
  pub call_leads : (follows : PieceId) (bs : List Kept) (s : State) → Frame size ls (us ++ os) s.places → RunsOver bytes bs s → GoOn (bs ++ kept (top_of ls os) follows s.places ∷ []) s
      → ActsEnter (push_acts (top_of ls os) follows ++ (pass_acts (top_of ls os) 0 params ++ acts)) s P
  call_leads follows bs s frame calm go =
      let z : ℕ = top_of ls os in
      let a = ap widths (types_append us os) in
      let b = widths_append (types_of us) (types_of os) in
      let top = frame_top size ls (us ++ os) s.places frame in
      let sized : length s.places ≡ size = frame.sized in
      let low : z ≤ length s.places = omega arith in
      let w = works.push z follows bs s low (let r : score_places ≤ length s.places = omega arith in r) calm.below in
      let u : State = after_acts (push_acts z follows) s in
      let pushed : Pushed z follows bs s u = w.there in
      let framed : Frame size ls (us ++ os) u.places = subst (λ (zs : List ℤ). Frame size ls (us ++ os) zs) (sym pushed.places) frame in
      append_enters P (push_acts z follows) (pass_acts z 0 params ++ acts) s w.ready (keeps_calls s u pushed.keys (λ h b. ap (λ g. g h) pushed.scores))
      (passes (bs ++ kept z follows s.places ∷ []) u framed (calm_calls bs (bs ++ kept z follows s.places ∷ []) s u pushed.keys (λ h q. ap (λ g. g h) pushed.scores) pushed.below calm)
      (λ t junk places has scores calm. go t junk places has (scores ∙ pushed.scores) calm))

-- ---- the new frame

module _ (moves : MovesFollow) (works : CallsWork) (m : Module) (program : IsProgram m) (n : ℕ) (f : Func) (t : FuncType) (k : Callee) (is : IsFunction m n f t) (found : callee_of m n ≡ Some k)
    (few : are_many (widths t.params) ≡ false) (size : ℕ) (ls us os : List Value) (cs : List Activation) (c : Activation) (types : types_of us ≡ k.takes) (room : score_places ≤ size) where
  abbrev own : ℕ
  own = widths (t.params ++ run_types f.locals)

  abbrev params : ℕ
  params = widths t.params

  abbrev goal : State → Type 0
  goal = Whole m (c ∷ cs) (opened n k us)

  wide : widths (types_of us) ≡ widths t.params
  wide = ap widths (types ∙ takes_are moves m program n f t k is found) ∙ widths_reverse t.params

  long : length (stack_ints us) ≡ widths t.params
  long = stack_length us ∙ wide

  short : length (stack_ints us) ≤ score_places
  short = let l = long in let most : widths t.params ≤ most_passed = ltb-false most_passed (widths t.params) few in omega arith

  -- over these frames, the arguments are the first places
  module _ (bs : List Kept) (waiting : Waiting m n (c ∷ cs) bs) (s : State) (junk : List ℤ) (places : s.places ≡ stack_ints us ++ junk) (has : score_places ≤ length s.places) (calm : RunsOver (uses_bytes m) bs s) where
    -- the frame's own piece is next
    opens : (u : State) → u.places ≡ s.places → u.keys in_rest key_next ≡ Some (id_tree (opening_piece n)) → RunsOver (uses_bytes m) bs u → goal u
    opens u same named quiet =
        let its : Opening m (c ∷ cs) (opened n k us) u = record {
          callee = k;
          is_callee = found;
          args = us;
          types = types;
          is_opened = refl;
          named = named;
          junk = junk;
          places = same ∙ places;
          few = ap are_many long ∙ few;
          has_scores = subst (λ (zs : List ℤ). score_places ≤ length zs) (sym same) has;
          below = bs;
          waiting = waiting;
          calm = quiet;
        } in
        (stands.opening its, λ st h. h)

    -- the new frame, or the piece that makes it
    enters : ActsEnter (enter_acts n params own (frame_size m n)) s goal
    enters = by_light (opens_here params own)
      where
        by_light : (b : Bool) → ActsEnter (if b then opening_acts params own (frame_size m n) (body_piece n 1) else next_acts (opening_piece n)) s goal
        by_light true =
            let w = opening_enters moves m program n f t k is found works us types (c ∷ cs) bs waiting s junk places short has calm in
            record { ready = w.ready; there = (stands.at_cut w.there, λ st h. h); keeps = w.keeps }
        by_light false =
            let u : State = with_tree s (at_key in_rest key_next) (Some (id_tree (opening_piece n))) in
            record {
              ready = (tt, tt);
              there = opens u refl refl (record { trap = calm.trap; state = calm.state; ending = calm.ending; standing = calm.standing; below = calm.below });
              keeps = keeps_tree s (at_key in_rest key_next) (Some (id_tree (opening_piece n))) refl;
            }

    -- the piece that makes it, by its number
    enters_found : s.scores (codes "#c") ≡ Some (pos (first_opening + n)) → ActsEnter enter_found_acts s goal
    enters_found number =
        let named = name_leaves bs key_next (shared_piece 0) s refl refl refl in
        record { ready = (tt, (tt, tt)); there = opens (after_acts enter_found_acts s) named.places (next_shared (first_opening + n) s number) (named.calm calm); keeps = named.keeps }

  -- the function is known
  pub call_stands : (follows : PieceId) (bs : List Kept) (s : State) → Frame size ls (us ++ os) s.places → Waiting m n (c ∷ cs) (bs ++ kept (top_of ls os) follows s.places ∷ []) → RunsOver (uses_bytes m) bs s
      → ActsEnter (push_acts (top_of ls os) follows ++ (pass_acts (top_of ls os) 0 params ++ enter_acts n params own (frame_size m n))) s goal
  call_stands follows bs s frame waiting calm =
      call_leads (uses_bytes m) works params size ls us os wide room goal (enter_acts n params own (frame_size m n)) follows bs s frame calm
      (λ u junk places has scores quiet. enters (bs ++ kept (top_of ls os) follows s.places ∷ []) waiting u junk places has quiet)

  -- it is known by the number of the piece with which it opens
  pub found_stands : (follows : PieceId) (bs : List Kept) (s : State) → s.scores (codes "#c") ≡ Some (pos (first_opening + n)) → Frame size ls (us ++ os) s.places
      → Waiting m n (c ∷ cs) (bs ++ kept (top_of ls os) follows s.places ∷ []) → RunsOver (uses_bytes m) bs s → ActsEnter (push_acts (top_of ls os) follows ++ (pass_acts (top_of ls os) 0 params ++ enter_found_acts)) s goal
  found_stands follows bs s number frame waiting calm =
      call_leads (uses_bytes m) works params size ls us os wide room goal enter_found_acts follows bs s frame calm
      (λ u junk places has scores quiet. enters_found (bs ++ kept (top_of ls os) follows s.places ∷ []) waiting u junk places has quiet (ap (λ g. g (codes "#c")) scores ∙ number))
