-- From a state that stands for an activation, over any callers, the piece that it names does what the machine does.
use Rattle.std.proofs.Common.{◌≡◌, ℕ, zero, suc, ◌+◌, ◌-◌, ◌*◌, ◌<◌, ◌≤◌, ◌⊎◌, inl, inr, List, [], ◌∷◌, length, Option, Some, None, refl, sym, ap, ◌∙◌, subst, arith}
use Rattle.std.proofs.lemmas.Option.{slice_get_within}
use Rattle.mc_nbt.specs.declared.value.Value.{Value}
use Rattle.mc_nbt.specs.declared.value.Value.TheVariants as values
use Rattle.wm_ast.specs.declared.module.Func.{Func}
use Rattle.wm_ast.specs.declared.module.Module.{Module}
use Rattle.wm_ast.specs.declared.module.ValType.{ValType}
use Rattle.wm_ast.specs.declared.operator.Operator.{Operator}
use Rattle.wm_ast.specs.Store.{Store}
use Rattle.wm_valid.specs.Height.{Low}
use Rattle.wm_flat.specs.Operands.{operands}
use Rattle.wm_flat.specs.Flat.{Activation}
use Rattle.wm_flat.specs.FlatTyping.{IsFunction, TypedState}
use Rattle.wm_flat.specs.Program.{IsProgram}
use Rattle.wm_flat.proofs.Consequences.{leads_nowhere}
use Rattle.wm_place.specs.Kinds.{Body, body_of, function_body}
use Rattle.wm_place.specs.Visit.{Visit}
use Rattle.wm_place.proofs.KindLemmas.{Typed, typed_function, scope_in, body_in}
use Rattle.cc_line.specs.Item.{Items}
use Rattle.cc_line.specs.Key.{body_piece}
use Rattle.cc_line.specs.Place.{score_places}
use Rattle.cc_line.specs.Routine.{value_ints}
use Rattle.cc_line.specs.State.{State}
use Rattle.cc_call.specs.Law.{CallsWork}
use Rattle.cc_table.specs.Law.{NumbersAreFound, TargetsAreFound}
use Rattle.cc_tails.specs.Law.{EndsAreNamed, GuardedItemsRunOn, HoldsBehindCuts}
use Rattle.cc_cut.specs.Piece.{Piece, places_in, function_pieces}
use Rattle.cc_cut.specs.Law.{rank}
use Rattle.cc_cut.proofs.VisitLemmas.{same_visit}
use Rattle.cc_move.specs.Calls.{with_results}
use Rattle.cc_move.specs.Standing.{StandsAt}
use Rattle.cc_move.specs.Law.{MovesFollow, at}
use Rattle.cc_pieces.specs.Restoring.{first_restore, restore_piece}
use Rattle.cc_pieces.specs.Dividing.{turning_piece, answering_piece, dividing_piece, turning_items, most_left}
use Rattle.cc_pieces.specs.Fetching.{most_fetches}
use Rattle.cc_pieces.specs.Placing.{placer, placer_items}
use Rattle.cc_pieces.specs.Law.{most_placers}
use Rattle.cc_body.specs.Layout.{frame_size}
use Rattle.cc_body.specs.Emit.{compared, place_items, places_items}
use Rattle.cc_body.specs.KnownConstants.{Knowns, knowns_at, nothing_known}
use Rattle.cc_body.specs.Placers.{function_placers}
use Rattle.cc_body.specs.Pieces.{answer_in, answer_items, cut_items, items_in, lean_cut, plain_items, restore_in}
use Rattle.cc_body.proofs.Bounds.{pieces_few, scores_room}
use Rattle.cc_body.proofs.LightPieces.{placers_few}
use Rattle.cc_simulate.specs.Callers.{IsPieceOf}
use Rattle.cc_simulate.specs.Frame.{Frame}
use Rattle.cc_simulate.specs.Stands.{At, Restoring, Placing, Dividing, Standing, name_of, rank_of, HasStore}
use Rattle.cc_simulate.specs.Stands as stands
use Rattle.cc_simulate.specs.Stored.{Stored}
use Rattle.cc_simulate.specs.Law.{Enters, Simulates, PiecesSimulate}
use Rattle.cc_simulate.specs.Named.{items_named}
use Rattle.cc_simulate.proofs.Appended.{appended}
use Rattle.cc_simulate.proofs.Begins.{opening_simulates, making_simulates, fetching_simulates}
use Rattle.cc_simulate.proofs.Divided.{turns_enter, answer_enters, turns_simulate, answer_simulates}
use Rattle.cc_simulate.proofs.Globals.{stored_kept}
use Rattle.cc_simulate.proofs.LeanSimulates as lean
use Rattle.cc_simulate.proofs.Named.{named_cut, named_placer, named_grower, named_restore, named_answer, named_turning}
use Rattle.cc_simulate.proofs.NumbersWork.{DivisionsWork, NumbersWork}
use Rattle.cc_simulate.proofs.Placed.{placed}
use Rattle.cc_simulate.proofs.Proceeding.{Proceeds, keeps_spares}
use Rattle.cc_simulate.proofs.Restored.{restored}
use Rattle.cc_simulate.proofs.RunningOn.{further_simulates, FurtherSimulates}
use Rattle.cc_simulate.proofs.SimulateMemory.{MemoryWorks}
use Rattle.cc_simulate.proofs.SimulateOps.{do_place}
use Rattle.cc_simulate.proofs.SimulateTests.{do_test, do_comparison}
use Rattle.cc_simulate.proofs.Knowns.{nothing_is_known}
use Rattle.cc_simulate.proofs.SimulateReach.{arrives, Setting, L, R, all, Attain, Seen, seen, Here, GoOn}
use Rattle.cc_simulate.proofs.Ways.{cuts_have_pieces, Begins, begins, Rest, whole}

-- a value has one int, or two
one_or_two : (v : Value) → (length (value_ints v) ≡ 1) ⊎ (length (value_ints v) ≡ 2)
one_or_two (values.I32 z) = inl refl
one_or_two (values.I64 z) = inr refl

-- the places of a piece, one after the other
places_simulate : (c : Setting) → NumbersAreFound → TargetsAreFound → MemoryWorks → NumbersWork → (ks : Knowns) (o : Option Operator) (vs : List Visit) (d : ℕ) → Rest c.m c.n c.f c.t c.q d vs → GoOn c d ks o vs
places_simulate c numbers targets works sums ks o [] d rest a s h known = absurd h
places_simulate c numbers targets works sums ks (Some q) (v ∷ vs) d rest a s h known =
    do_test c numbers targets works sums ks v vs d rest q a s h known (λ now i r b t. places_simulate (record c { st = now }) numbers targets works sums (knowns_at ks v.rest) None vs i r b t)
places_simulate c numbers targets works sums ks None (v ∷ vs) d rest a s h known =
    by_left (compared c.m c.n (R c) (L c) (all c) v) refl (λ now i r b t. places_simulate (record c { st = now }) numbers targets works sums (knowns_at ks v.rest) None vs i r b t)
    (λ q r b t. places_simulate c numbers targets works sums (knowns_at ks v.rest) (Some q) vs 0 r b t)
  where
    by_left : (left : Option Operator) → compared c.m c.n (R c) (L c) (all c) v ≡ left → ((now : Store) (i : ℕ) → Rest c.m c.n c.f c.t c.q i vs → GoOn (record c { st = now }) i (knowns_at ks v.rest) None vs)
        → ((q : Operator) → Rest c.m c.n c.f c.t c.q 0 vs → GoOn c 0 (knowns_at ks v.rest) (Some q) vs)
        → Proceeds (place_items c.m c.n (R c) (L c) (all c) ks None left v (places_items c.m c.n (R c) (L c) (all c) (knowns_at ks v.rest) left vs)) s (Attain c d a)
    by_left None e go next = do_place c numbers targets works sums ks v vs d rest a s h known go
    by_left (Some q) e go next = do_comparison c numbers targets works sums ks v vs d rest a s h known go q e (next q)

-- what leads to a cut
enters_simulates : (m : Module) (st : Store) (cs : List Activation) (a : Activation) (xs : Items) (s : State) → Stored m st s → Enters xs s (At m cs a) → Simulates m 0 st cs a xs s
enters_simulates m st cs a xs s h e = record {
  ready = e.ready;
  arrives = stands.to_standing 0 st cs a (leads_nowhere m (at st cs a)) (stands.at_cut e.there) (stored_kept m st s _ e.keeps h) (let x : 0 < 16 * 0 + (most_fetches + suc (rank e.there.visit)) = omega arith in x);
  spares = keeps_spares s _ e.keeps;
}

module _ (moves : MovesFollow) (works : CallsWork) (m : Module) (program : IsProgram m) (results : List ValType) (st : Store) (cs : List Activation) (a : Activation) (s : State)
    (stored : Stored m st s) (typed : TypedState m results (at st cs a)) where
  abbrev f : Func
  f = typed.flat.0

  is : IsFunction m a.func f typed.flat.1
  is = typed.flat.2.is_function

  t : Typed m a.func f
  t = typed_function m a.func f program.valid is.there

  -- in a frame of the activation all places stand that are scores
  wide : {os : List Value} → Frame (frame_size m a.func) a.locals os s.places → score_places ≤ length s.places
  wide frame =
      let room : score_places ≤ frame_size m a.func = scores_room m program a.func f is.there t in
      let sized : length s.places ≡ frame_size m a.func = frame.sized in
      omega arith

  -- at a cut, by its lean items
  cut_simulates : NumbersAreFound → TargetsAreFound → MemoryWorks → NumbersWork → Low m → (p : At m cs a s) (q : Piece) → IsPieceOf m a.func p.cut q → Simulates m (most_fetches + suc (rank p.visit)) st cs a (lean_cut m a.func q) s
  cut_simulates numbers targets memory sums low p q is_piece =
      let begun : Begins m a.func (body_of m f t.type) p.cut q = begins m a.func (body_of m f t.type) t.body p.cut p.is_cut q is_piece in
      let c : Setting = record {
        moves = moves;
        works = works;
        m = m;
        program = program;
        results = results;
        st = st;
        cs = cs;
        bs = p.below;
        n = a.func;
        waiting = p.waiting;
        f = f;
        there = is.there;
        t = t;
        q = q;
        is_piece = begun.piece;
      } in
      let d : ℕ = suc (most_fetches + suc (rank q.cut)) in
      let rest : Rest m a.func f t q d (places_in q) = whole m a.func f t program low q begun.piece in
      let sees : Seen c p.visit a = seen c p.visit a p.stands refl in
      let same : p.visit ≡ q.cut = same_visit (scope_in m a.func f t) (body_in m a.func f t) p.visit q.cut sees.listed (rest.within q.cut (inl refl)) (p.place ∙ begun.place) in
      let here : Here c q.cut a s = record { func = refl; stands = subst (StandsAt m a) same p.stands; frame = p.frame; calm = p.calm; typed = typed; stored = stored } in
      let g : Proceeds (places_items m a.func (R c) (L c) (all c) nothing_known None (places_in q)) s (Attain c d a) = places_simulate c numbers targets memory sums nothing_known None (places_in q) d rest a s here (nothing_is_known a.locals (operands a)) in
      let done : Simulates m (most_fetches + suc (rank q.cut)) st cs a (places_items m a.func (R c) (L c) (all c) nothing_known None (places_in q)) s =
      record { ready = g.ready; arrives = arrives m st cs (most_fetches + suc (rank q.cut)) a _ g.there; spares = g.spares } in
      let plain : Simulates m (most_fetches + suc (rank q.cut)) st cs a (plain_items m a.func q) s =
      subst (λ (o : Option Body). Simulates m (most_fetches + suc (rank q.cut)) st cs a (items_in m a.func (function_pieces m a.func) o q) s) (sym t.body) done in
      let body : Simulates m (most_fetches + suc (rank q.cut)) st cs a (lean_cut m a.func q) s =
      lean.cut_simulates moves m program a.func f is.there t (most_fetches + suc (rank q.cut)) st cs a s p.cut q is_piece p.named (wide p.frame) plain in
      subst (λ (v : Visit). Simulates m (most_fetches + suc (rank v)) st cs a (lean_cut m a.func q) s) (sym same) body

  -- by its items, running on
  at_cut_simulates : NumbersAreFound → TargetsAreFound → MemoryWorks → NumbersWork → Low m → FurtherSimulates m → (p : At m cs a s) → Simulates m (most_fetches + suc (rank p.visit)) st cs a (items_named m (body_piece a.func p.cut.index)) s
  at_cut_simulates numbers targets memory sums low further p =
      let (q, is_piece) = cuts_have_pieces m a.func p.cut p.is_cut in
      let few : length (function_pieces m a.func) ≤ 900000 = pieces_few m program a.func in
      let within : is_piece.position < length (function_pieces m a.func) = slice_get_within (function_pieces m a.func) is_piece.position q is_piece.is_piece in
      let named : items_named m (body_piece a.func p.cut.index) ≡ cut_items m a.func q =
      ap (λ j. items_named m (body_piece a.func j)) is_piece.is_index ∙ named_cut m a.func is_piece.position q (let l : is_piece.position < first_restore = omega arith in l) is_piece.is_piece in
      subst (λ (xs : Items). Simulates m (most_fetches + suc (rank p.visit)) st cs a xs s) (sym named)
      (further a.func f is.there results (most_fetches + suc (rank p.visit)) st cs a s typed p.calm.trap (wide p.frame) (lean_cut m a.func q) (cut_simulates numbers targets memory sums low p q is_piece))

  -- before a cut whose value is on its way
  placing_simulates : Low m → (p : Placing m cs a s) → Simulates m 0 st cs a (items_named m (placer (length (value_ints p.value)) p.spot)) s
  placing_simulates low p =
      let within : p.spot < function_placers m a.func = p.in_frame in
      let few : function_placers m a.func ≤ most_placers = placers_few m program low a.func in
      subst (λ (xs : Items). Simulates m 0 st cs a xs s) (sym (named_placer m (length (value_ints p.value)) p.spot (one_or_two p.value) (omega arith)))
      (enters_simulates m st cs a (placer_items (length (value_ints p.value)) p.spot) s stored (placed moves works m program results st cs a s p f is.there t))

  -- behind a division that goes on
  dividing_simulates : DivisionsWork → FurtherSimulates m → (p : Dividing m cs a s) → Simulates m (most_left - p.left) st cs a (items_named m (dividing_piece a.func p.cut.index p.left)) s
  dividing_simulates divisions further p = by_left p.left refl
    where
      q : IsPieceOf m a.func p.cut p.piece
      q = p.is_piece

      low : q.position < first_restore
      low =
          let few : length (function_pieces m a.func) ≤ 900000 = pieces_few m program a.func in
          let within : q.position < length (function_pieces m a.func) = slice_get_within (function_pieces m a.func) q.position p.piece q.is_piece in
          let l : q.position < first_restore = omega arith in
          l

      turning : items_named m (turning_piece a.func p.cut.index) ≡ turning_items a.func p.cut.index
      turning =
          subst (λ (i : ℕ). items_named m (turning_piece a.func i) ≡ turning_items a.func i) (sym q.is_index) (named_turning m a.func q.position p.piece p.op q.is_piece p.behind)

      answering : items_named m (answering_piece a.func p.cut.index) ≡ answer_items m a.func (suc q.position) p.piece p.op
      answering = ap (λ (i : ℕ). items_named m (answering_piece a.func i)) q.is_index ∙ named_answer m a.func q.position p.piece p.op low q.is_piece p.behind

      by_left : (n : ℕ) → p.left ≡ n → Simulates m (most_left - p.left) st cs a (items_named m (dividing_piece a.func p.cut.index n)) s
      by_left zero e =
          let xs : Items = answer_in a.func (suc q.position) p.piece.cut p.op (function_body m a.func) in
          let own : Simulates m (most_left - p.left) st cs a xs s = answer_simulates m st cs a s p stored xs (answer_enters divisions moves works m program results st cs a s p e f is.there t) in
          subst (λ (ys : Items). Simulates m (most_left - p.left) st cs a ys s) (sym answering) (further a.func f is.there results (most_left - p.left) st cs a s typed p.calm.trap (wide p.frame) xs own)
      by_left (suc k) e =
          subst (λ (xs : Items). Simulates m (most_left - p.left) st cs a xs s) (sym turning)
          (turns_simulate m st cs a s p stored k e (turning_items a.func p.cut.index) (turns_enter divisions m cs a s p k e))

-- behind a call
restoring_simulates : (moves : MovesFollow) (works : CallsWork) (m : Module) (program : IsProgram m) → FurtherSimulates m → (results : List ValType) (st : Store) (cs : List Activation) (c : Activation) (us : List Value) (s : State)
    → Stored m st s → TypedState m results (at st cs (with_results c us)) → (p : Restoring m cs c us s) → Simulates m 0 st cs (with_results c us) (items_named m (restore_piece c.func p.waits.cut.index)) s
restoring_simulates moves works m program further results st cs c us s stored typed p =
    let is : IsFunction m c.func typed.flat.0 typed.flat.1 = typed.flat.2.is_function in
    let t : Typed m c.func typed.flat.0 = typed_function m c.func typed.flat.0 program.valid is.there in
    let q : IsPieceOf m c.func p.waits.cut p.waits.piece = p.waits.is_piece in
    let few : length (function_pieces m c.func) ≤ 900000 = pieces_few m program c.func in
    let within : q.position < length (function_pieces m c.func) = slice_get_within (function_pieces m c.func) q.position p.waits.piece q.is_piece in
    let named = ap (λ j. items_named m (restore_piece c.func j)) q.is_index ∙ named_restore m c.func q.position p.waits.piece p.waits.type (let l : q.position < first_restore = omega arith in l) q.is_piece p.waits.behind in
    let xs : Items = restore_in m c.func (suc q.position) p.waits.piece.cut p.waits.type (function_body m c.func) in
    let own : Simulates m 0 st cs (with_results c us) xs s = enters_simulates m st cs (with_results c us) xs s stored (restored moves works m program results st cs c us s p typed.flat.0 is.there t) in
    subst (λ (ys : Items). Simulates m 0 st cs (with_results c us) ys s) (sym named) (further c.func typed.flat.0 is.there results 0 st cs (with_results c us) s typed p.calm.trap p.has_scores xs own)

pub pieces_simulate : HoldsBehindCuts → EndsAreNamed → GuardedItemsRunOn → MovesFollow → CallsWork → NumbersAreFound → TargetsAreFound → MemoryWorks → NumbersWork → PiecesSimulate
pieces_simulate holds ends guards moves works numbers targets memory sums m program low results st cs a s typed x stored = by_standing x stored
  where
    further : FurtherSimulates m
    further =
        further_simulates holds ends guards moves m program
        (λ results st cs a s typed stored p q is. cut_simulates moves works m program results st cs a s stored typed numbers targets memory sums low p q is)

    by_standing : (x : Standing m cs a s) → HasStore m st s x → Simulates m (rank_of m x) st cs a (items_named m (name_of m x)) s
    by_standing (stands.at_cut p) stored = at_cut_simulates moves works m program results st cs a s stored typed numbers targets memory sums low further p
    by_standing (stands.opening p) stored = opening_simulates moves works m program further results st cs a s stored typed p
    by_standing (stands.making c ds p e) stored = making_simulates moves works m program further results st cs a s stored typed c ds p e
    by_standing (stands.fetching c ds k p e) stored = fetching_simulates moves works m program further results st cs a s stored typed c ds k p e
    by_standing (stands.placing p) stored = placing_simulates moves works m program results st cs a s stored typed low p
    by_standing (stands.dividing p) stored = dividing_simulates moves works m program results st cs a s stored typed sums.divisions further p
    by_standing (stands.growing p) stored =
        subst (λ (xs : Items). Simulates m (rank_of m (stands.growing p)) st cs a xs s) (sym (named_grower m)) (appended memory.appends m results st cs a s typed p stored)
    by_standing (stands.restoring c us p e) stored =
        subst (λ (b : Activation). Simulates m 0 st cs b (items_named m (restore_piece c.func p.waits.cut.index)) s) (sym e)
        (restoring_simulates moves works m program further results st cs c us s stored (subst (λ (b : Activation). TypedState m results (at st cs b)) e typed) p)
