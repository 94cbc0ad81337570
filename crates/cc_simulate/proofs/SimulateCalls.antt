-- The items of a call do what the machine does: the caller waits, and the function that is called begins.
use Rattle.std.proofs.Common.{◌≡◌, ℕ, ◌-◌, ◌≤◌, List, ◌∷◌, ◌++◌, Bool, true, false, Option, refl, sym, ap, ◌∙◌, subst, append_assoc, ℤ, if◌then◌else◌}
use Rattle.std.specs.Prelude.{slice_get}
use Rattle.mc_nbt.specs.declared.value.Value.{Value}
use Rattle.wm_ast.specs.declared.module.Func.{Func}
use Rattle.wm_ast.specs.declared.module.FuncType.{FuncType}
use Rattle.wm_ast.specs.Code.{call, Code, cons}
use Rattle.wm_ast.specs.Store.{Callee}
use Rattle.wm_ast.specs.Types.{run_types, function_type}
use Rattle.wm_valid.specs.Arrows.{◌>>=◌}
use Rattle.wm_flat.specs.Flat.{Activation, running, past, opened, move}
use Rattle.wm_flat.specs.FlatTyping.{types_of}
use Rattle.wm_flat.specs.Operands.{under, operands}
use Rattle.wm_place.specs.Visit.{Visit}
use Rattle.cc_line.specs.State.{State}
use Rattle.cc_line.specs.Step.{Act}
use Rattle.cc_call.specs.Frames.{next_acts, opening_piece}
use Rattle.cc_cut.specs.Law.{widths}
use Rattle.cc_move.specs.Calls.{Invoked, DirectCall}
use Rattle.cc_pieces.specs.Fetching.{are_many}
use Rattle.cc_body.specs.Emit.{enter_acts, passing_acts, keeping_acts, call_acts, call_items, function_items}
use Rattle.cc_body.specs.Layout.{top_place, frame_size}
use Rattle.cc_simulate.specs.Frame.{Frame}
use Rattle.cc_simulate.specs.Stands.{RunsOver}
use Rattle.cc_simulate.specs.Law.{Enters}
use Rattle.cc_simulate.specs.Uses.{uses_bytes}
use Rattle.cc_simulate.proofs.Acts.{ActsEnter}
use Rattle.cc_simulate.proofs.CallDoing.{call_stands}
use Rattle.cc_simulate.proofs.CallKeeping.{kept_stands}
use Rattle.cc_simulate.proofs.CallerWaits.{under_arguments, Calling, caller, stay, next, follows, callers, waiting, waits_with, emitted, emitted_kept, depth_enters}
use Rattle.cc_simulate.proofs.Frames.{widths_reverse, top_of, held_length}
use Rattle.cc_simulate.proofs.SimulateReach.{Setting, L, R, size, all, Reach, has_scores, Seen, seen, Here}
use Rattle.cc_simulate.proofs.Whole.{Whole}

-- an activation stands before a call
module _ (c : Setting) (v : Visit) (d : ℕ) (low : d ≤ 16) (a : Activation) (s : State) (h : Here c v a s) (f : ℕ) (is : Code) (e : a.code ≡ cons (call f) is) where
  sees : Seen c v a
  sees = seen c v a h.stands h.func

  -- the move of the machine
  direct : DirectCall c.m c.st c.cs a f is
  direct = c.moves.opens c.m c.program c.results c.st c.cs a h.typed f is e

  abbrev t : FuncType
  t = direct.type

  abbrev us : List Value
  us = direct.over.args

  abbrev invoked : Invoked c.m 0 c.st c.cs (past a (call f) is a.locals direct.over.rest) f t us (move c.m c.st (running c.cs a))
  invoked = direct.invoked

  abbrev g : Func
  g = direct.invoked.func

  abbrev k : Callee
  k = direct.invoked.callee

  abbrev calling : Calling c v a h.stands
  calling = record {
    op = call f;
    is = is;
    code = e;
    ends = refl;
    type = t;
    has_type = ap (λ o. o >>= function_type c.m) direct.invoked.is_function.there ∙ direct.invoked.is_function.has_type;
    callee = f;
    gives = direct.invoked.gives;
    rest = direct.over.rest;
    resumes = λ ws types. (c.moves.resumes c.m c.program.valid a v h.stands is t ws).0 f g e direct.invoked.is_function direct.over types;
  }

  abbrev os : List Value
  os = stay calling

  parts : operands a ≡ us ++ os
  parts = ap (λ (l : List Value). l ++ under a.levels) direct.over.parts ∙ append_assoc us direct.over.rest (under a.levels)

  framed : Frame (size c) a.locals (us ++ os) s.places
  framed = subst (λ (l : List Value). Frame (size c) a.locals l s.places) parts h.frame

  -- the place above the arguments, and the one above what stays
  top_is : top_place (L c) v ≡ top_of a.locals (us ++ os)
  top_is = sees.top ∙ ap (top_of a.locals) parts

  top_is_under : top_place (L c) v - widths t.params ≡ top_of a.locals os
  top_is_under = under_arguments a.locals us os t.params direct.over.are.types (top_place (L c) v) top_is

  -- ---- the items

  abbrev own : ℕ
  own = widths (t.params ++ run_types g.locals)

  abbrev acts : List Act
  acts = call_acts c.m c.n (R c) (L c) (all c) v f (widths t.params) own (frame_size c.m f)

  abbrev goal : State → Type 0
  goal = Whole c.m (caller calling ∷ c.cs) (opened f k us)

  wide : widths (types_of us) ≡ widths t.params
  wide = ap widths direct.over.are.types ∙ widths_reverse t.params

  enters : (u : State) → u.places ≡ s.places → RunsOver (uses_bytes c.m) c.bs u → ActsEnter acts u goal
  enters u same calm = by_many (are_many (widths t.params)) refl
    where
      frame : Frame (size c) a.locals (us ++ os) u.places
      frame = subst (λ (zs : List ℤ). Frame (size c) a.locals (us ++ os) zs) (sym same) framed

      by_many : (b : Bool) → are_many (widths t.params) ≡ b
          → ActsEnter (if b then keeping_acts c.m c.n (R c) (L c) (all c) v (top_place (L c) v) (next_acts (opening_piece f)) else passing_acts c.m c.n (R c) (L c) (all c) v (top_place (L c) v) (widths t.params) (enter_acts f (widths t.params) own (frame_size c.m f))) u goal
      by_many true many =
          let over = waits_with c v a s h calling us u.places frame in
          let w = kept_stands c.works c.m f k invoked.found t many (size c) a.locals us os invoked.takes wide (has_scores c) c.cs (caller calling) (held_length a.locals os) c.bs (callers c v a s h calling) u frame calm (follows c v a s h calling) c.n (next c v a s h calling).index
          over.0 over.1 over.2 in
          emitted_kept c v a s h calling goal u (top_place (L c) v) (top_of a.locals (us ++ os)) (next_acts (opening_piece f)) top_is w
      by_many false few =
          let w = call_stands c.moves c.works c.m c.program f g t k invoked.is_function invoked.found few (size c) a.locals us os c.cs (caller calling) invoked.takes (has_scores c) (follows c v a s h calling) c.bs u frame
          (waiting c v a s h calling us u.places frame) calm in
          emitted c v a s h calling goal u (top_place (L c) v - widths t.params) (widths t.params) (enter_acts f (widths t.params) own (frame_size c.m f)) top_is_under w

  pub call_on : Enters (function_items c.m c.n (R c) (L c) (all c) v f (slice_get c.m.funcs f)) s (Reach c d a)
  call_on =
      subst (λ (o : Option Func). Enters (function_items c.m c.n (R c) (L c) (all c) v f o) s (Reach c d a)) (sym invoked.is_function.there)
      (subst (λ (o : Option FuncType). Enters (call_items c.m c.n (R c) (L c) (all c) v f g o) s (Reach c d a)) (sym invoked.is_function.has_type)
      (depth_enters c v a s h calling d low k us acts s h.calm 0 invoked.opens (λ z calm. enters _ refl calm)))
