-- A call of many arguments: the caller's frame goes below with them, and the state stands for the activation that is called,
-- whose frame is still to be made and whose arguments are to be fetched.
use Rattle.std.proofs.Common.{◌≡◌, ℕ, ◌+◌, ◌≤◌, List, [], ◌∷◌, ◌++◌, length, take, drop, Bool, true, false, Some, refl, sym, ap, ◌∙◌, subst, arith, ℤ, pos, codes, if◌then◌else◌}
use Rattle.std.specs.Prelude.{nat_lt}
use Rattle.std.proofs.lemmas.List.{drop-take, take-take}
use Rattle.mc_nbt.specs.declared.value.Value.{Value}
use Rattle.wm_ast.specs.declared.module.FuncType.{FuncType}
use Rattle.wm_ast.specs.declared.module.Module.{Module}
use Rattle.wm_ast.specs.Store.{Callee, callee_of}
use Rattle.wm_flat.specs.Flat.{Activation, opened}
use Rattle.wm_flat.specs.FlatTyping.{types_of}
use Rattle.wm_flat.specs.Operands.{operands}
use Rattle.cc_line.specs.Sight.{in_rest}
use Rattle.cc_line.specs.Key.{key_next, key_follows, PieceId, shared_piece, id_tree}
use Rattle.cc_line.specs.Place.{score_places}
use Rattle.cc_line.specs.Running.{Kept}
use Rattle.cc_line.specs.State.{State, with_tree}
use Rattle.cc_line.specs.Step.{Act, set_site}
use Rattle.cc_call.specs.Fetch.{follows_site}
use Rattle.cc_call.specs.Frames.{next_site, first_opening, opening_piece, next_acts, kept_places, kept, push_acts}
use Rattle.cc_call.specs.Law.{Pushed, CallsWork}
use Rattle.cc_cut.specs.Law.{widths}
use Rattle.cc_pieces.specs.Fetching.{are_many, fetch_piece}
use Rattle.cc_body.specs.Emit.{enter_found_acts}
use Rattle.cc_simulate.specs.Callers.{Waits, Waiting}
use Rattle.cc_simulate.specs.Frame.{local_ints, stack_ints, Frame}
use Rattle.cc_simulate.specs.Stands.{RunsOver, Passing}
use Rattle.cc_simulate.specs.Stands as stands
use Rattle.cc_simulate.specs.Uses.{uses_bytes}
use Rattle.cc_simulate.proofs.Acts.{keeps_tree, keeps_calls, calm_calls, after_acts, ActsEnter, append_enters}
use Rattle.cc_simulate.proofs.Finding.{name_leaves, next_shared}
use Rattle.cc_simulate.proofs.Frames.{stack_length, widths_append, types_append, top_of, frame_top, frame_upper}
use Rattle.cc_simulate.proofs.Whole.{Whole}

-- upper operands stand over the lower ones
pub top_split : (ls us os : List Value) → top_of ls (us ++ os) ≡ top_of ls os + widths (types_of us)
top_split ls us os =
    let a = ap widths (types_append us os) in
    let b = widths_append (types_of us) (types_of os) in
    omega arith

-- an entry of all places in use has them there
pub given_there : (size : ℕ) (ls us os : List Value) (places : List ℤ) → Frame size ls (us ++ os) places → take (length (stack_ints us)) (drop (top_of ls os) (kept_places (top_of ls (us ++ os)) places)) ≡ stack_ints us
given_there size ls us os places frame = ap (λ k. take k (drop (top_of ls os) (kept_places (top_of ls (us ++ os)) places))) (stack_length us) ∙ by_high (nat_lt score_places (top_of ls (us ++ os)))
  where
    upper : take (widths (types_of us)) (drop (top_of ls os) places) ≡ stack_ints us
    upper = frame_upper size ls us os places frame

    by_high : (b : Bool) → take (widths (types_of us)) (drop (top_of ls os) (if b then places else take (top_of ls (us ++ os)) places)) ≡ stack_ints us
    by_high true = upper
    by_high false =
        ap (λ k. take (widths (types_of us)) (drop (top_of ls os) (take k places))) (top_split ls us os)
        ∙ (ap (λ (l : List ℤ). take (widths (types_of us)) l) (drop-take (top_of ls os) (widths (types_of us)) places)
        ∙ (take-take (widths (types_of us)) (widths (types_of us)) (drop (top_of ls os) places) (omega arith) ∙ upper))

-- a call of this function, of this type, by this activation, over the operands os that stay
module _ (works : CallsWork) (m : Module) (n : ℕ) (k : Callee) (found : callee_of m n ≡ Some k) (t : FuncType) (many : are_many (widths t.params) ≡ true) (size : ℕ) (ls us os : List Value) (types : types_of us ≡ k.takes)
    (wide : widths (types_of us) ≡ widths t.params) (room : score_places ≤ size) (cs : List Activation) (c : Activation) (stays : length (local_ints c.locals ++ stack_ints (operands c)) ≡ top_of ls os) where
  abbrev goal : State → Type 0
  goal = Whole m (c ∷ cs) (opened n k us)

  abbrev top : ℕ
  top = top_of ls (us ++ os)

  -- over these frames it waits, and the arguments are fetched by the pieces before the cut of this index
  module _ (bs : List Kept) (waiting : Waiting m c.func cs bs) (s : State) (frame : Frame size ls (us ++ os) s.places) (calm : RunsOver (uses_bytes m) bs s) (follows : PieceId) (func index : ℕ) (w : Waits m n c (kept (top_of ls (us ++ os)) follows s.places)) (its_type : w.type ≡ t)
      (its_piece : fetch_piece func index 0 ≡ fetch_piece c.func w.cut.index 0) where
    abbrev fetches : PieceId
    fetches = fetch_piece func index 0

    abbrev entry : Kept
    entry = kept (top_of ls (us ++ os)) follows s.places

    has : score_places ≤ length s.places
    has = let sized = frame.sized in omega arith

    abbrev passing : (u : State) → u.places ≡ s.places → RunsOver (uses_bytes m) (bs ++ entry ∷ []) u → Passing m cs c (opened n k us) u
    passing u same quiet = record {
      callee = k;
      is_callee = found;
      args = us;
      types = types;
      is_opened = refl;
      entry = entry;
      waits = w;
      takes = stack_length us ∙ (wide ∙ ap (λ (f : FuncType). widths f.params) (sym its_type));
      many = ap (λ (f : FuncType). are_many (widths f.params)) its_type ∙ many;
      given = ap (λ j. take (length (stack_ints us)) (drop j entry.places)) stays ∙ given_there size ls us os s.places frame;
      has_scores = subst (λ (zs : List ℤ). score_places ≤ length zs) (sym same) has;
      below = bs;
      waiting = waiting;
      calm = quiet;
    }

    -- the frame is made next
    makes : (u : State) → u.places ≡ s.places → u.keys in_rest key_next ≡ Some (id_tree (opening_piece n)) → u.keys in_rest key_follows ≡ Some (id_tree fetches) → RunsOver (uses_bytes m) (bs ++ entry ∷ []) u → goal u
    makes u same named next quiet = (stands.making c cs (record { passing = passing u same quiet; named = named; follows = next ∙ ap (λ p. Some (id_tree p)) its_piece }) refl, λ st h. h)

    -- the frame goes below, its arguments are fetched later, and then further acts lead on
    keeps_then : (acts : List Act)
        → ((u : State) → u.places ≡ s.places → u.scores ≡ s.scores → u.keys in_rest key_follows ≡ Some (id_tree fetches) → RunsOver (uses_bytes m) (bs ++ entry ∷ []) u → ActsEnter acts u goal)
        → ActsEnter (push_acts top follows ++ (set_site follows_site (id_tree fetches) ∷ acts)) s goal
    keeps_then acts go =
        let pushes = works.push top follows bs s (frame_top size ls (us ++ os) s.places frame) has calm.below in
        let u : State = after_acts (push_acts top follows) s in
        let pushed : Pushed top follows bs s u = pushes.there in
        let quiet : RunsOver (uses_bytes m) (bs ++ entry ∷ []) u = calm_calls bs (bs ++ entry ∷ []) s u pushed.keys (λ h q. ap (λ g. g h) pushed.scores) pushed.below calm in
        let v : State = with_tree u follows_site (Some (id_tree fetches)) in
        append_enters goal (push_acts top follows) (set_site follows_site (id_tree fetches) ∷ acts) s pushes.ready (keeps_calls s u pushed.keys (λ h b. ap (λ g. g h) pushed.scores))
        (append_enters goal (set_site follows_site (id_tree fetches) ∷ []) acts u (tt, tt) (keeps_tree u follows_site (Some (id_tree fetches)) refl)
        (go v pushed.places pushed.scores refl (record { trap = quiet.trap; state = quiet.state; ending = quiet.ending; standing = quiet.standing; below = quiet.below })))

    -- the function is known
    pub kept_stands : ActsEnter (push_acts top follows ++ (set_site follows_site (id_tree fetches) ∷ next_acts (opening_piece n))) s goal
    kept_stands =
        keeps_then (next_acts (opening_piece n))
        (λ u same scores next quiet.
        let v : State = with_tree u next_site (Some (id_tree (opening_piece n))) in
        let still : RunsOver (uses_bytes m) (bs ++ entry ∷ []) v = record { trap = quiet.trap; state = quiet.state; ending = quiet.ending; standing = quiet.standing; below = quiet.below } in
        record { ready = (tt, tt); there = makes v same refl next still; keeps = keeps_tree u next_site (Some (id_tree (opening_piece n))) refl })

    -- it is known by the number of the piece with which it opens
    pub kept_found : s.scores (codes "#c") ≡ Some (pos (first_opening + n)) → ActsEnter (push_acts top follows ++ (set_site follows_site (id_tree fetches) ∷ enter_found_acts)) s goal
    kept_found number =
        keeps_then enter_found_acts
        (λ u same scores next quiet.
        let named = name_leaves (bs ++ entry ∷ []) key_next (shared_piece 0) u refl refl refl in
        record {
          ready = (tt, (tt, tt));
          there = makes (after_acts enter_found_acts u) (named.places ∙ same) (next_shared (first_opening + n) u (ap (λ g. g (codes "#c")) scores ∙ number)) (named.others key_follows refl ∙ next) (named.calm quiet);
          keeps = named.keeps;
        })
