-- The items of a call through the table do what the machine does: the caller waits, and the function that the element has
-- begins; or the element's trap is recorded.
use Rattle.std.proofs.Common.{◌≡◌, ℕ, ◌+◌, ◌-◌, ◌≤◌, ◌<◌, List, ◌∷◌, ◌++◌, length, Bool, true, false, Option, Some, refl, sym, ap, ◌∙◌, subst, append_assoc, ℤ, pos, codes, if◌then◌else◌}
use Rattle.std.specs.Prelude.{slice_get}
use Rattle.mc_nbt.specs.declared.value.Value.{Value}
use Rattle.mc_nbt.specs.declared.value.Value.TheVariants.{I32}
use Rattle.wm_ast.specs.declared.answer.TrapKind.{TrapKind}
use Rattle.wm_ast.specs.declared.module.FuncType.{FuncType}
use Rattle.wm_ast.specs.Code.{call_indirect, Code, cons}
use Rattle.wm_ast.specs.Instance.{first_store}
use Rattle.wm_ast.specs.Step.{function, refused, target}
use Rattle.wm_ast.specs.Store.{Callee}
use Rattle.wm_flat.specs.Flat.{Activation, running, fails, past, opened, move}
use Rattle.wm_flat.specs.FlatTyping.{types_of}
use Rattle.wm_flat.specs.Operands.{under, operands}
use Rattle.wm_flat.proofs.Consequences.{leads_nowhere}
use Rattle.wm_place.specs.Visit.{Visit}
use Rattle.cc_line.specs.Item.{Items, no_more, join}
use Rattle.cc_line.specs.State.{State, place_at, with_score}
use Rattle.cc_line.specs.Step.{Act}
use Rattle.cc_call.specs.Frames.{first_opening, depth_steps}
use Rattle.cc_table.specs.Law.{Finds, TargetIsFound, TargetsAreFound}
use Rattle.cc_table.specs.Target.{target_items}
use Rattle.cc_cut.specs.Law.{widths}
use Rattle.cc_move.specs.Calls.{gives_by, gives_of, Invoked, Reached, refuses, invokes, IndirectCall}
use Rattle.cc_move.specs.Law.{at}
use Rattle.cc_pieces.specs.Fetching.{are_many}
use Rattle.cc_body.specs.Emit.{enter_found_acts, passing_acts, keeping_acts, indirect_acts, indirect_items, steps_then}
use Rattle.cc_body.specs.Layout.{top_place}
use Rattle.cc_simulate.specs.Frame.{Frame}
use Rattle.cc_simulate.specs.Stands.{RunsOver}
use Rattle.cc_simulate.specs.Law.{Enters}
use Rattle.cc_simulate.specs.Uses.{uses_bytes}
use Rattle.cc_simulate.proofs.Acts.{acts_then, join_passes, ActsEnter}
use Rattle.cc_simulate.proofs.CallDoing.{found_stands}
use Rattle.cc_simulate.proofs.CallKeeping.{kept_found}
use Rattle.cc_simulate.proofs.CallerWaits.{under_arguments, Calling, caller, next, follows, callers, waiting, waits_with, emitted, emitted_kept, depth_enters}
use Rattle.cc_simulate.proofs.Doing.{Fails, fails_enters, traps_fail}
use Rattle.cc_simulate.proofs.Frames.{widths_reverse, top_of, held_length, one_below, frame_pop, frame_last}
use Rattle.cc_simulate.proofs.Finding.{near_calm, finds_pass}
use Rattle.cc_simulate.proofs.SimulateReach.{reaches_trap, Setting, L, R, size, all, Reach, has_scores, Seen, seen, Here}
use Rattle.cc_simulate.proofs.Whole.{Whole}

-- an activation stands before a call through the table
module _ (c : Setting) (targets : TargetsAreFound) (table : c.st.table ≡ (first_store c.m).table) (v : Visit) (d : ℕ) (low : d ≤ 16) (a : Activation) (s : State) (h : Here c v a s) (n : ℕ) (is : Code) (e : a.code ≡ cons (call_indirect n) is) where
  sees : Seen c v a
  sees = seen c v a h.stands h.func

  -- the move of the machine
  indirect : IndirectCall c.m c.st c.cs a n is
  indirect = c.moves.opens_indirect c.m c.program c.results c.st c.cs a h.typed n is e

  abbrev t : FuncType
  t = indirect.type

  abbrev z : ℤ
  z = indirect.index

  abbrev us : List Value
  us = indirect.over.args

  abbrev os : List Value
  os = indirect.over.rest ++ under a.levels

  -- where the index stands, above the arguments
  abbrev place : ℕ
  place = top_place (L c) v - 1

  wide : widths (types_of us) ≡ widths t.params
  wide = ap widths indirect.over.are.types ∙ widths_reverse t.params

  parts : operands a ≡ I32 z ∷ (us ++ os)
  parts =
      ap (λ (l : List Value). l ++ under a.levels) (indirect.parts ∙ ap (λ (l : List Value). I32 z ∷ l) indirect.over.parts)
      ∙ ap (λ (l : List Value). I32 z ∷ l) (append_assoc us indirect.over.rest (under a.levels))

  whole : Frame (size c) a.locals (I32 z ∷ (us ++ os)) s.places
  whole = subst (λ (l : List Value). Frame (size c) a.locals l s.places) parts h.frame

  framed : Frame (size c) a.locals (us ++ os) s.places
  framed = frame_pop (size c) a.locals (I32 z) (us ++ os) s.places whole

  place_is : place ≡ top_of a.locals (us ++ os)
  place_is = ap (λ (j : ℕ). j - 1) (sees.top ∙ ap (top_of a.locals) parts) ∙ one_below a.locals (us ++ os) z

  -- the place above what stays
  top_is_under : place - widths t.params ≡ top_of a.locals os
  top_is_under = under_arguments a.locals us os t.params indirect.over.are.types place place_is

  looked : TargetIsFound c.m c.st n place z s
  looked =
      let last = frame_last (size c) a.locals z (us ++ os) s.places whole in
      targets c.m c.program c.st table n place z s indirect.in_range (subst (λ (j : ℕ). j < length s.places) (sym place_is) last.1) (ap (λ (j : ℕ). place_at s j) place_is ∙ last.0) h.calm.trap

  -- ---- the items

  abbrev acts : List Act
  acts = indirect_acts c.m c.n (R c) (L c) (all c) v (widths t.params)

  abbrev rest : Items
  rest = steps_then depth_steps (acts_then acts no_more)

  abbrev result : Type 0
  result = Enters (join (target_items c.m n place) rest) s (Reach c d a)

  -- the element leads to a trap
  trapped : (k : TrapKind) → target c.m c.st n z ≡ refused k → move c.m c.st (running c.cs a) ≡ fails 0 k → result
  trapped k to moves =
      let w : Fails k (target_items c.m n place) s = traps_fail c.bs k (target_items c.m n place) s h.calm (looked.traps k to) in
      fails_enters (Reach c d a) k (target_items c.m n place) rest s w (reaches_trap 0 0 c.cs a k (leads_nowhere c.m (at c.st c.cs a)) moves w.recorded w.running)

  -- it has a function
  module _ (f : ℕ) (to : target c.m c.st n z ≡ function f) (gives : gives_of c.m f ≡ gives_by (slice_get c.m.types n))
      (invoked : Invoked c.m 1 c.st c.cs (past a (call_indirect n) is a.locals indirect.over.rest) f t us (move c.m c.st (running c.cs a))) where
    abbrev k : Callee
    k = invoked.callee

    abbrev calling : Calling c v a h.stands
    calling = record {
      op = call_indirect n;
      is = is;
      code = e;
      ends = refl;
      type = t;
      has_type = indirect.named;
      callee = f;
      gives = invoked.gives;
      rest = indirect.over.rest;
      resumes = λ ws types. (c.moves.resumes c.m c.program.valid a v h.stands is t ws).1 n z indirect.values e indirect.named indirect.parts indirect.over (types ∙ gives);
    }

    finds : Finds (target_items c.m n place) s (pos (first_opening + f))
    finds = looked.finds f to

    abbrev goal : State → Type 0
    goal = Whole c.m (caller calling ∷ c.cs) (opened f k us)

    enters : (u : State) → u.places ≡ s.places → u.scores (codes "#c") ≡ Some (pos (first_opening + f)) → RunsOver (uses_bytes c.m) c.bs u → ActsEnter acts u goal
    enters u same number calm = by_many (are_many (widths t.params)) refl
      where
        frame : Frame (size c) a.locals (us ++ os) u.places
        frame = subst (λ (zs : List ℤ). Frame (size c) a.locals (us ++ os) zs) (sym same) framed

        by_many : (b : Bool) → are_many (widths t.params) ≡ b
            → ActsEnter (if b then keeping_acts c.m c.n (R c) (L c) (all c) v place enter_found_acts else passing_acts c.m c.n (R c) (L c) (all c) v place (widths t.params) enter_found_acts) u goal
        by_many true many =
            let over = waits_with c v a s h calling us u.places frame in
            let w = kept_found c.works c.m f k invoked.found t many (size c) a.locals us os invoked.takes wide (has_scores c) c.cs (caller calling) (held_length a.locals os) c.bs (callers c v a s h calling) u frame calm (follows c v a s h calling) c.n (next c v a s h calling).index
            over.0 over.1 over.2 number in
            emitted_kept c v a s h calling goal u place (top_of a.locals (us ++ os)) enter_found_acts place_is w
        by_many false few =
            let w = found_stands c.moves c.works c.m c.program f invoked.func t k invoked.is_function invoked.found few (size c) a.locals us os c.cs (caller calling) invoked.takes (has_scores c) (follows c v a s h calling) c.bs u number frame
            (waiting c v a s h calling us u.places frame) calm in
            emitted c v a s h calling goal u (place - widths t.params) (widths t.params) enter_found_acts top_is_under w

    called : result
    called =
        let u : State = finds.state in
        join_passes (Reach c d a) (target_items c.m n place) rest s u (finds_pass (target_items c.m n place) s (pos (first_opening + f)) finds)
        (depth_enters c v a s h calling d low k us acts u (near_calm c.bs s u finds.near h.calm) 1 invoked.opens (λ y calm. enters (with_score u (codes "#d") y) finds.near.places finds.found calm))

  by_reached : Reached c.m c.st c.cs a n is t z us indirect.over.rest → result
  by_reached (refuses k to moves) = trapped k to moves
  by_reached (invokes f to gives invoked) = called f to gives invoked

  pub indirect_on : Enters (indirect_items c.m c.n (R c) (L c) (all c) v n (slice_get c.m.types n)) s (Reach c d a)
  indirect_on = subst (λ (o : Option FuncType). Enters (indirect_items c.m c.n (R c) (L c) (all c) v n o) s (Reach c d a)) (sym indirect.named) (by_reached indirect.reached)
