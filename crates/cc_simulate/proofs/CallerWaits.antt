-- An activation at a call: its frame is saved as one that waits for the function, and where as many frames stand as may the
-- call traps.
use Rattle.std.proofs.Common.{◌≡◌, ℕ, suc, ◌+◌, ◌*◌, ◌-◌, ◌≤◌, ◌<◌, List, [], ◌∷◌, ◌++◌, length, reverse, true, Option, Some, refl, sym, ap, ◌∙◌, subst, arith, ℤ, codes}
use Rattle.std.specs.List.{Contains}
use Rattle.mc_nbt.specs.declared.value.Value.{Value}
use Rattle.wm_ast.specs.declared.answer.TrapKind.TheVariants.{StackExhausted}
use Rattle.wm_ast.specs.declared.limit.TheConstants.{MAX_FRAMES}
use Rattle.wm_ast.specs.declared.module.FuncType.{FuncType}
use Rattle.wm_ast.specs.declared.module.ValType.{ValType}
use Rattle.wm_ast.specs.Code.{Op, Code, cons}
use Rattle.wm_ast.specs.Store.{Callee}
use Rattle.wm_valid.specs.Arrows.{◌>>=◌}
use Rattle.wm_flat.specs.Flat.{Activation, running, past, opened, move}
use Rattle.wm_flat.specs.FlatTyping.{types_of}
use Rattle.wm_flat.specs.Operands.{under}
use Rattle.wm_flat.specs.Runs.{Leads}
use Rattle.wm_flat.proofs.Consequences.{makes_one, leads_nowhere}
use Rattle.wm_place.specs.Visit.{Visit}
use Rattle.cc_line.specs.Item.{no_more}
use Rattle.cc_line.specs.Key.{PieceId, id_tree}
use Rattle.cc_line.specs.State.{State, with_score}
use Rattle.cc_line.specs.Step.{Act, set_site}
use Rattle.cc_call.specs.Fetch.{follows_site}
use Rattle.cc_call.specs.Frames.{kept_places, kept, push_acts, pass_acts, depth_steps}
use Rattle.cc_cut.specs.Cost.{ends_piece}
use Rattle.cc_cut.specs.Cuts.{function_cuts}
use Rattle.cc_cut.specs.Law.{widths}
use Rattle.cc_cut.specs.Piece.{function_pieces, index_of}
use Rattle.cc_cut.specs.Way.{path_behind}
use Rattle.cc_cut.proofs.CutLemmas.{all_visits}
use Rattle.cc_cut.proofs.IndexLemmas.{Named, index_tells}
use Rattle.cc_cut.proofs.ListLemmas.{In, in_get}
use Rattle.cc_move.specs.Calls.{with_results, gives_of, Opens, into_body, too_deep as traps, Resumed}
use Rattle.cc_move.specs.Law.{at}
use Rattle.cc_move.specs.Standing.{StandsAt}
use Rattle.cc_pieces.specs.Restoring.{restore_piece, restore_by}
use Rattle.cc_pieces.specs.Fetching.{fetch_piece, fetch_next_acts}
use Rattle.cc_body.specs.Behind.{call_type, call_before}
use Rattle.cc_body.specs.Emit.{steps_then}
use Rattle.cc_body.specs.Layout.{frame_size}
use Rattle.cc_simulate.specs.Callers.{IsPieceOf, IsHeld, Waits, Waiting}
use Rattle.cc_simulate.specs.Frame.{local_ints, stack_ints, Frame}
use Rattle.cc_simulate.specs.Stands.{RunsOver, rank_of}
use Rattle.cc_simulate.specs.Law.{Enters}
use Rattle.cc_simulate.specs.Uses.{uses_bytes}
use Rattle.cc_simulate.proofs.Acts.{acts_then, ActsEnter, acts_end}
use Rattle.cc_simulate.proofs.CallDoing.{depth_of, not_deep, too_deep, is_held}
use Rattle.cc_simulate.proofs.CallKeeping.{top_split}
use Rattle.cc_simulate.proofs.Frames.{top_of, held_length, types_append, widths_append, widths_reverse, frame_top, frame_lower}
use Rattle.cc_simulate.proofs.SimulateReach.{reaches_standing, reaches_trap, acts_as, Setting, size, all, Reach, Here, Seen, seen}
use Rattle.cc_simulate.proofs.Ways.{cut_listed, CutAt, cut_at, Next, behind_index}
use Rattle.cc_simulate.proofs.Whole.{Whole}

-- the place under arguments, which are the upper operands
pub under_arguments : (ls us low : List Value) (ts : List ValType) → types_of us ≡ reverse ts → (top : ℕ) → top ≡ top_of ls (us ++ low) → top - widths ts ≡ top_of ls low
under_arguments ls us low ts types top whole =
    let x = ap widths (types_append us low) in
    let y = widths_append (types_of us) (types_of low) in
    let z : widths (types_of us) ≡ widths ts = ap widths types ∙ widths_reverse ts in
    omega arith

-- a call of this function, over these operands of the caller's innermost block that stay
pub record Calling (c : Setting) (v : Visit) (a : Activation) (stands : StandsAt c.m a v) : Type 0 where
  pub op : Op
  pub is : Code
  pub code : a.code ≡ cons op is
  pub ends : ends_piece op ≡ true
  pub type : FuncType
  pub has_type : call_type c.m op ≡ Some type
  pub callee : ℕ
  pub gives : gives_of c.m callee ≡ reverse type.results
  pub rest : List Value
  pub resumes : (ws : List Value) → types_of ws ≡ gives_of c.m callee → Resumed c.m a v stands op is rest ws

-- it waits so, over these operands
abbrev pub caller : {c : Setting} {v : Visit} {a : Activation} {stands : StandsAt c.m a v} → Calling c v a stands → Activation
caller {a = a} x = past a x.op x.is a.locals x.rest

abbrev pub stay : {c : Setting} {v : Visit} {a : Activation} {stands : StandsAt c.m a v} → Calling c v a stands → List Value
stay {a = a} x = x.rest ++ under a.levels

module _ (c : Setting) (v : Visit) (a : Activation) (s : State) (h : Here c v a s) (x : Calling c v a h.stands) where
  sees : Seen c v a
  sees = seen c v a h.stands h.func

  -- ---- where the call comes back

  pub next : Next c.m c.n c.f c.t v x.op
  next = behind_index c.m c.n c.f c.t v sees.listed x.op x.is (sees.rest ∙ x.code) x.ends

  cut : CutAt c.m c.n next.index (path_behind v.path)
  cut = cut_at c.m c.n c.f c.t next.index (path_behind v.path) next.found

  piece : Named (function_pieces c.m c.n) 1 (path_behind v.path) next.index
  piece = index_tells (function_pieces c.m c.n) 1 (path_behind v.path) next.index next.found

  its_piece : IsPieceOf c.m c.n cut.cut piece.piece
  its_piece =
      let i : next.index ≡ 1 + piece.at = piece.is in
      let j : suc piece.at ≡ next.index = omega arith in
      record { position = piece.at; is_index = cut.index ∙ sym j; is_piece = piece.there }

  listed : In piece.piece.cut (all_visits c.m c.n c.f c.t)
  listed = cut_listed c.m c.n c.f c.t piece.piece (in_get (function_pieces c.m c.n) piece.at piece.piece piece.there)

  behind_call : call_before c.m piece.piece.cut ≡ Some x.type
  behind_call = ap (λ o. o >>= call_type c.m) (next.before piece.piece.cut listed piece.same) ∙ x.has_type

  -- with the results
  resumes : (ws : List Value) → types_of ws ≡ gives_of c.m x.callee → (y : Visit) × StandsAt c.m (with_results (caller x) ws) y × (y.path ≡ cut.cut.place)
  resumes ws types =
      let back : Resumed c.m a v h.stands x.op x.is x.rest ws = x.resumes ws types in
      (back.comes.visit, back.comes.stands, back.comes.path ∙ sym cut.place)

  abbrev pub follows : PieceId
  follows = restore_piece c.n next.index

  -- the piece that fetches the first arguments, where these are many
  abbrev pub fetches : PieceId
  fetches = fetch_piece c.n next.index 0

  pub callers : Waiting c.m a.func c.cs c.bs
  callers = subst (λ (i : ℕ). Waiting c.m i c.cs c.bs) (sym h.func) c.waiting

  -- over the arguments, which are the upper operands
  module _ (us : List Value) (places : List ℤ) (frame : Frame (size c) a.locals (us ++ stay x) places) where
    -- in an entry of what stays, or of more places
    waits_over : (top : ℕ) → top_of a.locals (stay x) ≤ top → top ≤ length places
        → (w : Waits c.m x.callee (caller x) (kept top follows places)) × (w.type ≡ x.type) × (fetches ≡ fetch_piece a.func w.cut.index 0)
    waits_over top below within = (
      record {
        cut = cut.cut;
        is_cut = subst (λ (i : ℕ). Contains (function_cuts c.m i) cut.cut) (sym h.func) cut.is_cut;
        piece = piece.piece;
        is_piece = subst (λ (i : ℕ). IsPieceOf c.m i cut.cut piece.piece) (sym h.func) its_piece;
        type = x.type;
        behind = behind_call;
        gives = sym x.gives;
        follows = ap (λ (i : ℕ). restore_piece c.n i) (sym cut.index) ∙ ap (λ (i : ℕ). restore_piece i cut.cut.index) (sym h.func);
        held = subst (λ (i : ℕ). IsHeld (frame_size c.m i) (local_ints a.locals ++ stack_ints (stay x)) (kept_places top places)) (sym h.func)
            (is_held (size c) (top_of a.locals (stay x)) top (local_ints a.locals ++ stack_ints (stay x)) places below within (held_length a.locals (stay x)) frame.sized (frame_lower (size c) a.locals us (stay x) places frame));
        stands = resumes;
      },
      refl,
      ap (λ (i : ℕ). fetch_piece c.n i 0) (sym cut.index) ∙ ap (λ (i : ℕ). fetch_piece i cut.cut.index 0) (sym h.func),
    )

    pub waiting : Waiting c.m x.callee (caller x ∷ c.cs) (c.bs ++ kept (top_of a.locals (stay x)) follows places ∷ [])
    waiting =
        let whole = frame_top (size c) a.locals (us ++ stay x) places frame in
        let split = top_split a.locals us (stay x) in
        let w = waits_over (top_of a.locals (stay x)) (omega arith) (omega arith) in
        (c.bs, kept (top_of a.locals (stay x)) follows places, refl, w.0, callers)

    -- in an entry of the arguments too
    pub waits_with : (w : Waits c.m x.callee (caller x) (kept (top_of a.locals (us ++ stay x)) follows places)) × (w.type ≡ x.type) × (fetches ≡ fetch_piece a.func w.cut.index 0)
    waits_with =
        let split = top_split a.locals us (stay x) in
        waits_over (top_of a.locals (us ++ stay x)) (omega arith) (frame_top (size c) a.locals (us ++ stay x) places frame)

  -- ---- the items

  -- the acts of a call, as they are emitted, of few arguments
  pub emitted : (P : State → Type 0) (u : State) (top params : ℕ) (acts : List Act) → top ≡ top_of a.locals (stay x) → ActsEnter (push_acts (top_of a.locals (stay x)) follows ++ (pass_acts (top_of a.locals (stay x)) 0 params ++ acts)) u P
      → ActsEnter (push_acts top (restore_by c.n (index_of (all c) (path_behind v.path))) ++ (pass_acts top 0 params ++ acts)) u P
  emitted P u top params acts e w =
      subst (λ (j : ℕ). ActsEnter (push_acts j (restore_by c.n (index_of (all c) (path_behind v.path))) ++ (pass_acts j 0 params ++ acts)) u P) (sym e)
      (subst (λ (o : Option ℕ). ActsEnter (push_acts (top_of a.locals (stay x)) (restore_by c.n o) ++ (pass_acts (top_of a.locals (stay x)) 0 params ++ acts)) u P) (sym next.found) w)

  -- and of many
  pub emitted_kept : (P : State → Type 0) (u : State) (top all_places : ℕ) (acts : List Act) → top ≡ all_places → ActsEnter (push_acts all_places follows ++ (set_site follows_site (id_tree fetches) ∷ acts)) u P
      → ActsEnter (push_acts top (restore_by c.n (index_of (all c) (path_behind v.path))) ++ (fetch_next_acts c.n (index_of (all c) (path_behind v.path)) ++ acts)) u P
  emitted_kept P u top all_places acts e w =
      subst (λ (j : ℕ). ActsEnter (push_acts j (restore_by c.n (index_of (all c) (path_behind v.path))) ++ (fetch_next_acts c.n (index_of (all c) (path_behind v.path)) ++ acts)) u P) (sym e)
      (subst (λ (o : Option ℕ). ActsEnter (push_acts all_places (restore_by c.n o) ++ (fetch_next_acts c.n o ++ acts)) u P) (sym next.found) w)

  -- behind the test of the depth
  module _ (d : ℕ) (low : d ≤ 16) (k : Callee) (us : List Value) (acts : List Act) (u : State) (calm : RunsOver (uses_bytes c.m) c.bs u) where
    abbrev callee : Activation
    callee = opened x.callee k us

    deep : length c.bs ≡ suc (length c.cs)
    deep = depth_of c.m c.n c.cs c.bs c.waiting

    pub depth_enters : (n : ℕ) → Opens n c.st c.cs (caller x) x.callee k us (move c.m c.st (running c.cs a))
        → ((z : ℤ) → RunsOver (uses_bytes c.m) c.bs (with_score u (codes "#d") z) → ActsEnter acts (with_score u (codes "#d") z) (Whole c.m (caller x ∷ c.cs) callee))
        → Enters (steps_then depth_steps (acts_then acts no_more)) u (Reach c d a)
    depth_enters n (into_body l moves) leads =
        let steps : Leads c.m (suc n) (at c.st c.cs a) (at c.st (caller x ∷ c.cs) callee) = record { moves = 1; made = makes_one c.m (suc n) (at c.st c.cs a) (at c.st (caller x ∷ c.cs) callee) moves } in
        not_deep c.works c.bs u calm (Reach c d a) (acts_then acts no_more) (subst (λ (j : ℕ). j < MAX_FRAMES) (sym deep) l)
        (λ z quiet. acts_end (Reach c d a) acts _
        (acts_as (Whole c.m (caller x ∷ c.cs) callee) (Reach c d a) acts (with_score u (codes "#d") z)
        (λ t y. reaches_standing (suc n) (caller x ∷ c.cs) callee steps y.0 y.1 (let p : d ≤ 16 * suc n + rank_of c.m y.0 = omega arith in p))
        (leads z quiet)))
    depth_enters n (traps l moves) leads =
        too_deep c.works c.bs u calm (Reach c d a) (acts_then acts no_more) (subst (λ (j : ℕ). MAX_FRAMES ≤ j) (sym deep) l)
        (λ t trap state. reaches_trap 0 n c.cs a StackExhausted (leads_nowhere c.m (at c.st c.cs a)) moves trap state)
