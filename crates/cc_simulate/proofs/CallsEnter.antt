-- The first pieces of a call from outside lead to the first cut of the function's body, with the frame of its activation.
use Rattle.std.proofs.Common.{◌≡◌, ℕ, zero, suc, ◌+◌, ◌*◌, ◌-◌, ◌/◌, ◌%◌, ◌≤◌, min, List, [], ◌∷◌, ◌++◌, length, replicate, reverse, Some, refl, sym, ap, ◌∙◌, subst, arith, ℤ, pos, append_assoc}
use Rattle.std.specs.Prelude.{option_and_then, Bool}
use Rattle.std.proofs.lemmas.List.{reverse-reverse}
use Rattle.mc_nbt.specs.Tree.{Tree, select}
use Rattle.mc_nbt.specs.declared.value.Value.{Value}
use Rattle.wm_ast.specs.declared.module.Func.{Func}
use Rattle.wm_ast.specs.declared.module.FuncType.{FuncType}
use Rattle.wm_ast.specs.declared.module.Module.{Module}
use Rattle.wm_ast.specs.Store.{Callee, callee_of}
use Rattle.wm_ast.specs.Types.{run_types}
use Rattle.wm_flat.specs.FlatTyping.{types_of, Are, IsFunction}
use Rattle.wm_flat.specs.Program.{IsProgram}
use Rattle.wm_flat.proofs.ValueLaws.{are_reverse}
use Rattle.cc_line.specs.Sight.{in_io, in_rest}
use Rattle.cc_line.specs.Key.{key_state, key_next, key_follows, key_args, key_end, score_trap, PieceId, body_piece, id_tree}
use Rattle.cc_line.specs.Place.{score_places}
use Rattle.cc_line.specs.Running.{Kept}
use Rattle.cc_line.specs.State.{State, ints, at_key, with_tree, with_copy, selected}
use Rattle.cc_line.specs.Step.{Act, copy_site, make_list, after_act}
use Rattle.cc_call.specs.Frames.{base, base_acts, zero_acts, next_acts}
use Rattle.cc_call.specs.Law.{IsBelow, Based, CallsWork}
use Rattle.cc_call.proofs.ActLemmas.{with_places}
use Rattle.cc_cut.specs.Law.{widths}
use Rattle.cc_move.specs.Calls.{gives_of}
use Rattle.cc_move.specs.Law.{MovesFollow}
use Rattle.cc_pieces.specs.Entry.{args_of_piece, take_args, taker, go_acts, entry_acts, taker_acts}
use Rattle.cc_body.specs.Layout.{frame_size}
use Rattle.cc_body.specs.Pieces.{function_entry}
use Rattle.cc_simulate.specs.Frame.{local_ints, stack_ints}
use Rattle.cc_simulate.specs.Law.{Enters, HasEntered, HasBegun, CallsEnter}
use Rattle.cc_simulate.specs.Stands.{RunsOver, ChangesFrameAlone, Entering, Taking}
use Rattle.cc_simulate.specs.Uses.{uses_bytes}
use Rattle.cc_simulate.proofs.Acts.{keeps_places, keeps_both, keeps_tree, keeps_calls, calm_places, after_acts, ActsEnter, acts_end, append_enters}
use Rattle.cc_simulate.proofs.Frames.{local_length, widths_append, widths_reverse}
use Rattle.cc_simulate.proofs.Entering.{Made, Taken, take_more, begin_frame}
use Rattle.cc_simulate.proofs.Opened.{local_reverse, takes_are, locals_fit, gives_are, at_first}
use Rattle.cc_simulate.proofs.Lasting.{lasts_calls}

-- ---- the piece that is next

abbrev led : State → PieceId → State
led s p = with_tree s (at_key in_rest key_next) (Some (id_tree p))

abbrev followed : State → PieceId → State
followed s p = with_tree s (at_key in_rest key_follows) (Some (id_tree p))

calm_led : {bytes : Bool} (bs : List Kept) (s : State) (p : PieceId) → RunsOver bytes bs s → RunsOver bytes bs (led s p)
calm_led bs s p c = record { trap = c.trap; state = c.state; ending = c.ending; standing = c.standing; below = c.below }

calm_followed : {bytes : Bool} (bs : List Kept) (s : State) (p : PieceId) → RunsOver bytes bs s → RunsOver bytes bs (followed s p)
calm_followed bs s p c = record { trap = c.trap; state = c.state; ending = c.ending; standing = c.standing; below = c.below }

keeps_led : (s : State) (p : PieceId) → ChangesFrameAlone s (led s p)
keeps_led s p = keeps_tree s (at_key in_rest key_next) (Some (id_tree p)) refl

keeps_followed : (s : State) (p : PieceId) → ChangesFrameAlone s (followed s p)
keeps_followed s p = keeps_tree s (at_key in_rest key_follows) (Some (id_tree p)) refl

-- ---- a call

nothing_before : (front : List ℤ) → length front ≡ 0 → front ≡ []
nothing_before [] e = refl
nothing_before (z ∷ zs) e = absurd (omega arith)

module _ (moves : MovesFollow) (works : CallsWork) (m : Module) (program : IsProgram m) (n : ℕ) (f : Func) (t : FuncType) (c : Callee) (args : List Value)
    (is : IsFunction m n f t) (found : callee_of m n ≡ Some c) (are : Are t.params args) where
  abbrev zs : List ℤ
  zs = local_ints args

  abbrev w : ℕ
  w = widths (run_types f.locals)

  abbrev size : ℕ
  size = frame_size m n

  -- the frames below
  abbrev bs : List Kept
  bs = base (widths (gives_of m n)) ∷ []

  long : length zs ≡ widths t.params
  long = local_length args ∙ ap widths are.types

  -- the frame is made
  entered : (s : State) → Made zs w size 0 s.places → s.keys in_rest key_next ≡ Some (id_tree (body_piece n 1)) → RunsOver (uses_bytes m) bs s → HasEntered m n c args s
  entered s made named calm =
      let none : made.front ≡ [] = nothing_before made.front made.front_length in
      let turned : zs ≡ stack_ints (reverse args) = ap local_ints (sym (reverse-reverse args)) ∙ local_reverse (reverse args) in
      let held : s.places ≡ (stack_ints (reverse args) ++ replicate w (pos 0)) ++ made.junk =
      made.made ∙ (ap (λ l. l ++ (zs ++ (replicate w (pos 0) ++ made.junk))) none
      ∙ (sym (append_assoc zs (replicate w (pos 0)) made.junk) ∙ ap (λ l. (l ++ replicate w (pos 0)) ++ made.junk) turned)) in
      let types : types_of (reverse args) ≡ c.takes = (are_reverse t.params args are).types ∙ sym (takes_are moves m program n f t c is found) in
      at_first moves m program n f t c is found (reverse args) types [] bs refl s made.junk held made.sized named calm

  -- arguments are still to come
  taking : (k : ℕ) (s : State) → Made zs w size (192 * suc k) s.places → s.keys in_rest key_next ≡ Some (id_tree (taker k)) → s.keys in_rest key_follows ≡ Some (id_tree (body_piece n 1))
      → s.keys in_rest key_args ≡ Some (ints zs) → 192 * suc k ≤ length zs → RunsOver (uses_bytes m) bs s → Taking m n args w k s
  taking k s made named follows given low calm =
      let one : 192 * suc k ≡ 192 * (k + 1) = omega arith in
      let there : Made zs w size (192 * (k + 1)) s.places = subst (λ i. Made zs w size i s.places) one made in
      record {
        named = named;
        follows = follows;
        given = given;
        whole = omega arith;
        front = there.front;
        junk = there.junk;
        made = there.made;
        front_length = there.front_length;
        sized = there.sized;
        calm = calm;
      }

  -- where the first piece goes
  go_enters : (k : ℕ) (s : State) → Made zs w size (192 * k) s.places → s.keys in_rest key_args ≡ Some (ints zs) → 192 * k ≤ length zs → RunsOver (uses_bytes m) bs s → ActsEnter (go_acts n k) s (HasBegun m n f c args k)
  go_enters zero s made given low calm = record {
    ready = (tt, tt);
    there = entered (led s (body_piece n 1)) made refl (calm_led bs s (body_piece n 1) calm);
    keeps = keeps_led s (body_piece n 1);
  }
  go_enters (suc k) s made given low calm =
      let u : State = followed s (body_piece n 1) in
      record {
        ready = (tt, (tt, tt));
        there = taking k (led u (taker k)) made refl refl given low (calm_led bs u (taker k) (calm_followed bs s (body_piece n 1) calm));
        keeps = keeps_both s u (led u (taker k)) (keeps_followed s (body_piece n 1)) (keeps_led u (taker k));
      }

  -- acts that lead to a state with other places, and then others
  then_enters : (xs ys : List Act) (s : State) (i : ℕ) (P : State → Type 0) (x : Taken zs w size i xs s) → ActsEnter ys (with_places s x.places) P → ActsEnter (xs ++ ys) s P
  then_enters xs ys s i P x later =
      append_enters P xs ys s x.ready (subst (ChangesFrameAlone s) (sym x.leads) (keeps_places s (with_places s x.places) (refl {a = s.keys}) (refl {a = s.scores}))) (subst (λ u. ActsEnter ys u P) (sym x.leads) later)

  -- the frame, and the arguments that are no whole piece
  frame_enters : (s : State) → score_places ≤ length s.places → s.keys in_rest key_args ≡ Some (ints zs) → RunsOver (uses_bytes m) bs s
      → ActsEnter ((make_list (replicate (size - score_places) (pos 0)) ∷ zero_acts (length zs) (min (length zs + w) score_places - length zs)) ++ (take_args (192 * (length zs / 192)) (length zs % 192) ++ go_acts n (length zs / 192))) s
      (HasBegun m n f c args (length zs / 192))
  frame_enters s has given calm =
      let i : ℕ = 192 * (length zs / 192) in
      let r : ℕ = length zs % 192 in
      let room = locals_fit moves m program n f t c is found in
      let scores : score_places ≤ size = room.0 in
      let both : widths t.params + w ≤ size = room.1 in
      let len : length zs ≡ widths t.params = long in
      let fits : length zs + w ≤ size = omega arith in
      let x : Taken zs w size (length zs) (make_list (replicate (size - score_places) (pos 0)) ∷ zero_acts (length zs) (min (length zs + w) score_places - length zs)) s = begin_frame zs w size s has scores fits in
      let u : State = with_places s x.places in
      let whole : length zs ≡ 192 * (length zs / 192) + length zs % 192 = omega arith in
      let made : Made zs w size (i + r) u.places = subst (λ j. Made zs w size j x.places) whole x.made in
      let y : Taken zs w size i (take_args i r) u = take_more zs w size i r u given (omega arith) made in
      let v : State = with_places u y.places in
      let after : RunsOver (uses_bytes m) bs v = calm_places bs s v (refl {a = s.keys}) (refl {a = s.scores}) calm in
      then_enters (make_list (replicate (size - score_places) (pos 0)) ∷ zero_acts (length zs) (min (length zs + w) score_places - length zs)) (take_args i r ++ go_acts n (length zs / 192)) s (length zs)
      (HasBegun m n f c args (length zs / 192)) x
      (then_enters (take_args i r) (go_acts n (length zs / 192)) u i (HasBegun m n f c args (length zs / 192)) y (go_enters (length zs / 192) v y.made given (omega arith) after))

  first_enters : (s : State) → Entering m n args s → ActsEnter (entry_acts n (length zs) (length zs + w) (widths t.results) size) s (HasBegun m n f c args (length zs / 192))
  first_enters s h =
      let gives : widths (gives_of m n) ≡ widths t.results = ap widths (gives_are m n f t is) ∙ widths_reverse t.results in
      let b = works.base (widths t.results) s in
      let u : State = after_acts (base_acts (widths t.results)) s in
      let based : Based (widths t.results) s u = b.there in
      let calm : RunsOver (uses_bytes m) bs u = record {
        trap = ap (λ g. g score_trap) based.scores ∙ h.runs.trap;
        state = based.keys in_io key_state refl ∙ h.runs.state;
        ending = (h.runs.ending.0, based.keys in_rest key_end refl ∙ h.runs.ending.1, h.runs.ending.2);
        standing = lasts_calls s u based.keys (λ g k. ap (λ q. q g) based.scores) h.runs.standing;
        below = subst (λ k. IsBelow (base k ∷ []) u) (sym gives) based.below;
      } in
      let has : score_places ≤ length u.places = subst (λ (ps : List ℤ). score_places ≤ length ps) (sym based.places) h.has_scores in
      append_enters (HasBegun m n f c args (length zs / 192)) (base_acts (widths t.results)) _ s b.ready (keeps_calls s u based.keys (λ g k. ap (λ q. q g) based.scores))
      (frame_enters u has (based.keys in_rest key_args refl ∙ h.given) calm)

  entry_enters : (s : State) → Entering m n args s → Enters (function_entry m n f t) s (HasBegun m n f c args (widths t.params / args_of_piece))
  entry_enters s h =
      let both : length zs + w ≡ widths (t.params ++ run_types f.locals) = ap (λ k. k + w) long ∙ sym (widths_append t.params (run_types f.locals)) in
      acts_end (HasBegun m n f c args (widths t.params / args_of_piece)) (entry_acts n (widths t.params) (widths (t.params ++ run_types f.locals)) (widths t.results) size) s
      (subst (λ l. ActsEnter (entry_acts n (widths t.params) l (widths t.results) size) s (HasBegun m n f c args (widths t.params / args_of_piece))) both
      (subst (λ k. ActsEnter (entry_acts n k (length zs + w) (widths t.results) size) s (HasBegun m n f c args (k / 192))) long (first_enters s h)))

  -- a piece of arguments
  taker_enters : (k : ℕ) (s : State) → HasBegun m n f c args (suc k) s → ActsEnter (taker_acts k) s (HasBegun m n f c args k)
  taker_enters zero s h =
      let made : Made zs w size (0 + 192) s.places = record { front = h.front; junk = h.junk; made = h.made; front_length = h.front_length; sized = h.sized } in
      let y : Taken zs w size 0 (take_args 0 192) s = take_more zs w size 0 192 s h.given h.whole made in
      let u : State = with_places s y.places in
      let last : Act = copy_site (at_key in_rest key_next) (at_key in_rest key_follows) in
      let same : led u (body_piece n 1) ≡ after_act last u = ap (λ o. with_copy u (at_key in_rest key_next) o) {x = Some (id_tree (body_piece n 1))} {y = selected u (at_key in_rest key_follows)} (sym (ap (option_and_then (λ (x : Tree). select x [])) h.follows)) in
      then_enters (take_args 0 192) (last ∷ []) s 0 (HasEntered m n c args) y
      (record {
        ready = (tt, tt);
        there = subst (HasEntered m n c args) same (entered (led u (body_piece n 1)) y.made refl (calm_led bs u (body_piece n 1) (calm_places bs s u (refl {a = s.keys}) (refl {a = s.scores}) h.calm)));
        keeps = subst (ChangesFrameAlone u) same (keeps_led u (body_piece n 1));
      })
  taker_enters (suc k) s h =
      let low : 192 * (suc k + 1) ≤ length zs = h.whole in
      let there : Made zs w size (192 * (suc k + 1)) s.places = record { front = h.front; junk = h.junk; made = h.made; front_length = h.front_length; sized = h.sized } in
      let sum : 192 * (suc k + 1) ≡ 192 * suc k + 192 = omega arith in
      let made : Made zs w size (192 * suc k + 192) s.places = subst (λ j. Made zs w size j s.places) sum there in
      let y : Taken zs w size (192 * suc k) (take_args (192 * suc k) 192) s = take_more zs w size (192 * suc k) 192 s h.given (omega arith) made in
      let u : State = with_places s y.places in
      then_enters (take_args (192 * suc k) 192) (next_acts (taker k)) s (192 * suc k) (HasBegun m n f c args (suc k)) y
      (record {
        ready = (tt, tt);
        there = taking k (led u (taker k)) y.made refl h.follows h.given (omega arith) (calm_led bs u (taker k) (calm_places bs s u (refl {a = s.keys}) (refl {a = s.scores}) h.calm));
        keeps = keeps_led u (taker k);
      })

pub calls_enter : MovesFollow → CallsWork → CallsEnter
calls_enter moves works m program n f t c args is found are = (
  entry_enters moves works m program n f t c args is found are,
  (λ s k h. acts_end (HasBegun m n f c args k) (taker_acts k) s (taker_enters moves works m program n f t c args is found are k s h)),
)
