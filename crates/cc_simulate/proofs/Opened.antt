-- The first place of a function's body, over the frame of its activation; and the piece that makes this frame.
use Rattle.std.proofs.Common.{◌≡◌, ℕ, suc, ◌+◌, ◌≤◌, List, [], ◌∷◌, ◌++◌, length, replicate, reverse, true, false, Some, refl, sym, ap, ◌∙◌, subst, arith, ℤ, pos, append_assoc, append-nil}
use Rattle.std.specs.Prelude.{option_and_then}
use Rattle.std.specs.Int.{w32, int_wrap}
use Rattle.std.specs.List.{filter_map}
use Rattle.std.proofs.lemmas.List.{reverse-append}
use Rattle.mc_nbt.specs.declared.value.Value.{Value}
use Rattle.wm_ast.specs.declared.module.Func.{Func}
use Rattle.wm_ast.specs.declared.module.FuncType.{FuncType}
use Rattle.wm_ast.specs.declared.module.Module.{Module}
use Rattle.wm_ast.specs.declared.module.ValType.{ValType}
use Rattle.wm_ast.specs.declared.module.ValType.TheVariants.{I32, I64, F32, F64}
use Rattle.wm_ast.specs.Store.{Callee, callee_of, callee, zero_of}
use Rattle.wm_ast.specs.Types.{run_types, function_type}
use Rattle.wm_flat.specs.Flat.{Activation, opened}
use Rattle.wm_flat.specs.FlatTyping.{types_of, IsFunction}
use Rattle.wm_flat.specs.Program.{IsProgram}
use Rattle.wm_flat.proofs.CalleeLaws.{Entry, entry}
use Rattle.wm_place.proofs.IntLemmas.{NoFloats}
use Rattle.wm_place.proofs.KindLemmas.{Typed, typed_function}
use Rattle.cc_line.specs.Sight.{in_rest}
use Rattle.cc_line.specs.Key.{key_next, body_piece, id_tree}
use Rattle.cc_line.specs.Place.{score_places}
use Rattle.cc_line.specs.Running.{Kept}
use Rattle.cc_line.specs.State.{State}
use Rattle.cc_line.specs.Routine.{value_ints}
use Rattle.cc_line.proofs.Words.{unwrapped_pos}
use Rattle.cc_call.specs.Frames.{opening_acts}
use Rattle.cc_call.specs.Law.{Opened, CallsWork}
use Rattle.cc_cut.specs.declared.table.Cut.{Cut}
use Rattle.cc_cut.specs.Cuts.{function_cuts}
use Rattle.cc_cut.specs.Law.{widths, HasRules}
use Rattle.cc_cut.specs.Way.{way}
use Rattle.cc_cut.proofs.ListLemmas.{contains, in_get, some_of}
use Rattle.cc_cut.proofs.RuleLemmas.{cuts_have_rules}
use Rattle.cc_move.specs.Calls.{gives_by, gives_of}
use Rattle.cc_move.specs.Law.{MovesFollow}
use Rattle.cc_move.specs.Standing.{Comes}
use Rattle.cc_body.specs.Layout.{frame_size}
use Rattle.cc_body.proofs.Bounds.{locals_room, scores_room}
use Rattle.cc_simulate.specs.Callers.{Waiting}
use Rattle.cc_simulate.specs.Frame.{local_ints, stack_ints}
use Rattle.cc_simulate.specs.Stands.{RunsOver, At}
use Rattle.cc_simulate.specs.Uses.{uses_bytes}
use Rattle.cc_simulate.proofs.Acts.{keeps_calls, calm_calls, after_acts, ActsEnter}
use Rattle.cc_simulate.proofs.FloatLemmas.{locals_free}
use Rattle.cc_simulate.proofs.Frames.{stack_length, widths_append, widths_reverse}

-- ---- values

pub local_append : (us vs : List Value) → local_ints (us ++ vs) ≡ local_ints us ++ local_ints vs
local_append [] vs = refl
local_append (v ∷ us) vs = ap (λ l. value_ints v ++ l) (local_append us vs) ∙ sym (append_assoc (value_ints v) (local_ints us) (local_ints vs))

-- arguments, of which the last one stands first, as locals
pub local_reverse : (us : List Value) → local_ints (reverse us) ≡ stack_ints us
local_reverse [] = refl
local_reverse (u ∷ us) =
    ap local_ints (reverse-append (u ∷ []) us)
    ∙ (local_append (reverse us) (u ∷ []) ∙ (ap (λ l. l ++ (value_ints u ++ [])) (local_reverse us) ∙ ap (λ l. stack_ints us ++ l) (append-nil (value_ints u))))

-- zeros of all types
zeros_ints : (ts : List ValType) → NoFloats ts → local_ints (filter_map zero_of ts) ≡ replicate (widths ts) (pos 0)
zeros_ints [] h = refl
zeros_ints (I32 ∷ ts) h =
    let n : suc (widths ts) ≡ 1 + widths ts = omega arith in
    ap (λ l. pos 0 ∷ l) (zeros_ints ts h) ∙ ap (λ k. replicate k (pos 0)) n
zeros_ints (I64 ∷ ts) h =
    let low : int_wrap w32 (pos 0) ≡ pos 0 = unwrapped_pos 0 (omega arith) in
    let n : suc (suc (widths ts)) ≡ 2 + widths ts = omega arith in
    ap (λ z. z ∷ (pos 0 ∷ local_ints (filter_map zero_of ts))) low ∙ (ap (λ l. pos 0 ∷ (pos 0 ∷ l)) (zeros_ints ts h) ∙ ap (λ k. replicate k (pos 0)) n)
zeros_ints (F32 ∷ ts) h = absurd (let e : true ≡ false = h in cc)
zeros_ints (F64 ∷ ts) h = absurd (let e : true ≡ false = h in cc)

-- ---- a function

-- what it gives
pub gives_are : (m : Module) (n : ℕ) (f : Func) (t : FuncType) → IsFunction m n f t → gives_of m n ≡ reverse t.results
gives_are m n f t is = ap (λ o. gives_by (option_and_then (function_type m) o)) is.there ∙ ap gives_by is.has_type

module _ (moves : MovesFollow) (m : Module) (program : IsProgram m) (n : ℕ) (f : Func) (t : FuncType) (c : Callee) (is : IsFunction m n f t) (found : callee_of m n ≡ Some c) where
  abbrev pub zeros : ℕ
  zeros = widths (run_types f.locals)

  abbrev size : ℕ
  size = frame_size m n

  e : Entry m n f t
  e = entry m n f t program is

  callee_is : callee f t e.result ≡ c
  callee_is = some_of (callee f t e.result) c (sym e.found ∙ found)

  pub takes_are : c.takes ≡ reverse t.params
  takes_are = ap (λ (x : Callee). x.takes) (sym callee_is)

  -- the scores and the locals have room in the frame
  pub locals_fit : (score_places ≤ size) × (widths t.params + zeros ≤ size)
  locals_fit =
      let typed : Typed m n f = typed_function m n f program.valid is.there in
      let same : typed.type ≡ t = some_of typed.type t (sym typed.named ∙ is.has_type) in
      let room : widths (t.params ++ run_types f.locals) ≤ size = subst (λ (u : FuncType). widths (u.params ++ run_types f.locals) ≤ size) same (locals_room m program n f is.there typed) in
      let both = widths_append t.params (run_types f.locals) in
      let scores : score_places ≤ size = scores_room m program n f is.there typed in
      (scores, omega arith)

  -- its other locals are zeros
  pub zeros_are : local_ints c.zeros ≡ replicate zeros (pos 0)
  zeros_are =
      let all : c.zeros ≡ filter_map zero_of (run_types f.locals) = ap (λ (x : Callee). x.zeros) (sym callee_is) in
      ap local_ints all ∙ zeros_ints (run_types f.locals) (locals_free m program n f is.there)

  locals_ints : (us : List Value) → local_ints (reverse us ++ c.zeros) ≡ stack_ints us ++ replicate zeros (pos 0)
  locals_ints us =
      local_append (reverse us) c.zeros ∙ (ap (λ l. l ++ local_ints c.zeros) (local_reverse us) ∙ ap (λ l. stack_ints us ++ l) zeros_are)

  -- what its arguments take
  pub args_wide : (us : List Value) → types_of us ≡ c.takes → length (stack_ints us) ≡ widths t.params
  args_wide us types = stack_length us ∙ (ap widths (types ∙ takes_are) ∙ widths_reverse t.params)

  -- the frame is made
  pub at_first : (us : List Value) → types_of us ≡ c.takes → (cs : List Activation) (bs : List Kept) → Waiting m n cs bs → (s : State) (junk : List ℤ) → s.places ≡ (stack_ints us ++ replicate zeros (pos 0)) ++ junk → length s.places ≡ size
      → s.keys in_rest key_next ≡ Some (id_tree (body_piece n 1)) → RunsOver (uses_bytes m) bs s → At m cs (opened n c us) s
  at_first us types cs bs waiting s junk made sized named calm =
      let rules : HasRules m n f = cuts_have_rules m program.valid n f is.there in
      let cut : Cut = rules.first.0 in
      let comes : Comes m (opened n c us) (way (0 ∷ []) []) = moves.calls m program.profile.no_floats n c us found types in
      let held : s.places ≡ (local_ints (reverse us ++ c.zeros) ++ []) ++ junk =
      made ∙ ap (λ l. l ++ junk) (sym (locals_ints us) ∙ sym (append-nil (local_ints (reverse us ++ c.zeros)))) in
      record {
        cut = cut;
        is_cut = contains (function_cuts m n) cut (in_get (function_cuts m n) 0 cut rules.first.1);
        visit = comes.visit;
        stands = comes.stands;
        place = comes.path ∙ sym rules.first.2;
        named = named ∙ ap (λ i. Some (id_tree (body_piece n i))) (sym rules.first.3);
        frame = record { junk = junk; held = held; sized = sized };
        below = bs;
        waiting = waiting;
        calm = calm;
      }

  -- the acts that make it
  pub opening_enters : CallsWork → (us : List Value) → types_of us ≡ c.takes → (cs : List Activation) (bs : List Kept) → Waiting m n cs bs → (s : State) (junk : List ℤ) → s.places ≡ stack_ints us ++ junk → length (stack_ints us) ≤ score_places
      → score_places ≤ length s.places → RunsOver (uses_bytes m) bs s → ActsEnter (opening_acts (widths t.params) (widths (t.params ++ run_types f.locals)) size (body_piece n 1)) s (At m cs (opened n c us))
  opening_enters works us types cs bs waiting s junk places few has calm =
      let zs : List ℤ = stack_ints us in
      let wide : length zs ≡ widths t.params = args_wide us types in
      let both : length zs + zeros ≡ widths (t.params ++ run_types f.locals) = ap (λ k. k + zeros) wide ∙ sym (widths_append t.params (run_types f.locals)) in
      let fits : length zs + zeros ≤ size = subst (λ k. k + zeros ≤ size) (sym wide) locals_fit.1 in
      let w = works.opening zs junk zeros size (body_piece n 1) s places few has locals_fit.0 fits in
      let u : State = after_acts (opening_acts (length zs) (length zs + zeros) size (body_piece n 1)) s in
      let made : Opened zs zeros size (body_piece n 1) s u = w.there in
      let after : RunsOver (uses_bytes m) bs u = calm_calls bs bs s u made.keys (λ h q. ap (λ g. g h) made.scores) (made.below ∙ calm.below) calm in
      let done : ActsEnter (opening_acts (length zs) (length zs + zeros) size (body_piece n 1)) s (At m cs (opened n c us)) = record {
        ready = w.ready;
        there = at_first us types cs bs waiting u made.junk made.places made.sized made.named after;
        keeps = keeps_calls s u made.keys (λ h b. ap (λ g. g h) made.scores);
      } in
      subst (λ k. ActsEnter (opening_acts k (widths (t.params ++ run_types f.locals)) size (body_piece n 1)) s (At m cs (opened n c us))) wide
      (subst (λ k. ActsEnter (opening_acts (length zs) k size (body_piece n 1)) s (At m cs (opened n c us))) both done)
