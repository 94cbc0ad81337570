-- A linked pack has the piece that a state names, and each is light.
use Rattle.std.proofs.Common.{◌≡◌, ℕ, zero, suc, ◌+◌, ◌*◌, ◌<◌, ◌≤◌, List, ◌∷◌, length, Some, Bool, true, false, refl, sym, ap, subst, arith}
use Rattle.std.specs.Prelude.{slice_get, nat_lt, if◌then◌else◌}
use Rattle.std.specs.List.{Contains}
use Rattle.std.proofs.lemmas.Option.{slice_get_within, get_or_from_slice_get}
use Rattle.mc_cmd.specs.Pack.{Pack}
use Rattle.wm_ast.specs.declared.module.Func.{Func}
use Rattle.wm_ast.specs.declared.module.FuncType.{FuncType}
use Rattle.wm_ast.specs.declared.module.Module.{Module}
use Rattle.wm_ast.specs.declared.operator.BinaryOp.{BinaryOp}
use Rattle.mc_nbt.specs.declared.value.Value.{Value}
use Rattle.mc_nbt.specs.declared.value.Value.TheVariants as values
use Rattle.wm_ast.specs.declared.module.ValType.{ValType}
use Rattle.wm_valid.specs.Height.{Low}
use Rattle.wm_valid.specs.Typing.{HasFirst}
use Rattle.wm_flat.specs.Flat.{Activation}
use Rattle.wm_flat.specs.FlatTyping.{IsFunction, TypedCallers}
use Rattle.wm_flat.specs.Program.{IsProgram}
use Rattle.cc_line.specs.Item.{Items}
use Rattle.cc_line.specs.Key.{PieceId, body_piece, group_shared}
use Rattle.cc_line.specs.Routine.{value_ints}
use Rattle.cc_line.specs.State.{State}
use Rattle.cc_call.specs.Frames.{first_opening, done_piece, opening_piece}
use Rattle.cc_cut.specs.declared.table.Cut.{Cut}
use Rattle.cc_cut.specs.Law.{widths}
use Rattle.cc_cut.specs.Piece.{Piece, function_pieces}
use Rattle.cc_cut.proofs.MakingLemmas.{few_functions}
use Rattle.cc_sched.specs.Names.{PieceFits}
use Rattle.cc_body.specs.Behind.{call_before}
use Rattle.cc_pieces.specs.Restoring.{first_restore, restore_piece}
use Rattle.cc_simulate.specs.Callers.{IsPieceOf}
use Rattle.cc_body.specs.Behind.{division_before}
use Rattle.cc_pieces.specs.Dividing.{turning_piece, turning_items, answering_piece, dividing_piece}
use Rattle.cc_pieces.specs.Entry.{done_items}
use Rattle.cc_pieces.specs.Fetching.{fetches, most_fetches, first_fetch, fetch_piece}
use Rattle.cc_body.specs.Pieces.{cut_items, function_opening, restore_items, fetch_items, answer_items}
use Rattle.cc_simulate.specs.Named.{items_named}
use Rattle.cc_pieces.specs.Law.{IsLight, most_placers}
use Rattle.cc_simulate.specs.Frame.{stack_ints}
use Rattle.cc_bulk.specs.Grow.{grower_items}
use Rattle.cc_pieces.specs.Growing.{grower_piece}
use Rattle.cc_pieces.specs.Placing.{first_placer, first_pair_placer, placers_from, placer, placer_items}
use Rattle.cc_body.specs.Placers.{function_placers}
use Rattle.cc_simulate.specs.Stands.{Standing, at_cut, opening, making, fetching, restoring, placing, growing, dividing, name_of}
use Rattle.pk_agree.specs.Linked.{HasPiece, Linked}
use Rattle.pk_agree.proofs.Indices.{index_few, fetch_within}
use Rattle.pk_agree.proofs.Pieces.{PiecesAreRight}
use Rattle.cc_init.proofs.Appending.{few_ints}
use Rattle.pk_agree.proofs.Programs.{piece_items, cut_items_are, restore_items_are, fetch_items_are, turning_items_are, answering_items_are, opening_items_are, placer_items_are, grower_items_are}

listed : {A : Type 0} (xs : List A) (k : ℕ) (x : A) → slice_get xs k ≡ Some x → Contains xs x
listed xs k x e = (k, slice_get_within xs k x e, get_or_from_slice_get xs k x x e)

-- the index of a function is small
pub function_few : (m : Module) → IsProgram m → (n : ℕ) (f : Func) → slice_get m.funcs n ≡ Some f → n < 8192
function_few m p n f e =
    let a : length m.funcs ≤ 8192 = few_functions m p.profile in
    let b : n < length m.funcs = slice_get_within m.funcs n f e in
    omega arith

placers_low : (ints : ℕ) → placers_from ints ≤ first_pair_placer
placers_low ints = by (nat_lt 1 ints)
  where
    by : (b : Bool) → (if b then first_pair_placer else first_placer) ≤ first_pair_placer
    by true = omega arith
    by false = omega arith

some_ints : (v : Value) → 1 ≤ length (value_ints v)
some_ints (values.I32 z) = omega arith
some_ints (values.I64 z) = omega arith

module _ (m : Module) (p : IsProgram m) (low : Low m) (pack : Pack) (l : Linked m pack) (d : PiecesAreRight) where
  -- the name fits, and the pack has the piece, which is light
  pub record Held (i : PieceId) : Type 0 where
    pub fits : PieceFits i
    pub is : piece_items m i ≡ items_named m i
    pub has : HasPiece m pack i (items_named m i)
    pub light : IsLight (items_named m i)

  held : (i : PieceId) (xs : Items) → PieceFits i → piece_items m i ≡ items_named m i → items_named m i ≡ xs
      → HasPiece m pack i xs → IsLight xs → Held i
  held i xs f e same h g =
      record { fits = f; is = e; has = subst (HasPiece m pack i) (sym same) h; light = subst IsLight (sym same) g }

  module _ (n : ℕ) (f : Func) (t : FuncType) (is : IsFunction m n f t) where
    small : n < 2147483648
    small = let a : n < 8192 = function_few m p n f is.there in omega arith

    named : n < group_shared
    named = let a : n < 8192 = function_few m p n f is.there in omega arith

    cut_held : (c : Cut) (q : Piece) → IsPieceOf m n c q → Held (body_piece n c.index)
    cut_held c q o =
        let j : suc o.position < first_restore = index_few m p n f is.there o.position q o.is_piece in
        subst (λ y. Held (body_piece n y)) (sym o.is_index)
        (held (body_piece n (suc o.position)) (cut_items m n q) (named, omega arith) refl
        (cut_items_are m n o.position q (omega arith) o.is_piece) (l.bodies n o.position q o.is_piece)
        ((d.light m p low n small).0 q (listed (function_pieces m n) o.position q o.is_piece)))

    restore_held : (c : Cut) (q : Piece) (u : FuncType) → IsPieceOf m n c q → call_before m q.cut ≡ Some u
        → Held (restore_piece n c.index)
    restore_held c q u o e =
        let j : suc o.position < first_restore = index_few m p n f is.there o.position q o.is_piece in
        subst (λ y. Held (restore_piece n y)) (sym o.is_index)
        (held (restore_piece n (suc o.position)) (restore_items m n (suc o.position) q u) (named, omega arith) refl
        (restore_items_are m n o.position q u (omega arith) o.is_piece e) (l.restores n o.position q u o.is_piece e)
        ((d.light m p low n small).3 o.position q u o.is_piece e))

    fetch_held : (c : Cut) (q : Piece) (u : FuncType) (k : ℕ) → IsPieceOf m n c q → call_before m q.cut ≡ Some u
        → k < fetches (widths u.params) → Held (fetch_piece n c.index k)
    fetch_held c q u k o e h =
        let j : suc o.position < first_restore = index_few m p n f is.there o.position q o.is_piece in
        let few : fetches (widths u.params) ≤ most_fetches = d.fetches_few m p low n o.position q u o.is_piece e in
        let i : ℕ = first_fetch + (most_fetches * suc o.position + k) in
        let fits : i < 2147483648 = omega arith in
        subst (λ y. Held (fetch_piece n y k)) (sym o.is_index)
        (held (fetch_piece n (suc o.position) k) (fetch_items m n (suc o.position) k q u) (named, fits) refl
        (fetch_items_are m n o.position k q u (omega arith) o.is_piece e) (l.fetches n o.position k q u o.is_piece e h)
        ((d.light m p low n small).4 o.position k q u o.is_piece e h))

    opening_held : Held (opening_piece n)
    opening_held =
        let a : n < 8192 = function_few m p n f is.there in
        held (opening_piece n) (function_opening m n f t) (let b : first_opening + n < 2147483648 = omega arith in b) refl
        (opening_items_are m n f t (omega arith) is) (l.openings n f t is) ((d.light m p low n small).2 f t is)

    -- the pieces of the division before a cut
    turning_held : (c : Cut) (q : Piece) (op : BinaryOp) → IsPieceOf m n c q → division_before q.cut ≡ Some op
        → Held (turning_piece n c.index)
    turning_held c q op o e =
        let j : suc o.position < first_restore = index_few m p n f is.there o.position q o.is_piece in
        let i : ℕ = first_fetch + (most_fetches * suc o.position + 0) in
        let fits : i < 2147483648 = omega arith in
        subst (λ y. Held (turning_piece n y)) (sym o.is_index)
        (held (turning_piece n (suc o.position)) (turning_items n (suc o.position)) (named, fits) refl
        (turning_items_are m n o.position q op (omega arith) o.is_piece e) (l.divisions n o.position q op o.is_piece e).0
        ((d.light m p low n small).5 o.position q op o.is_piece e).0)

    answering_held : (c : Cut) (q : Piece) (op : BinaryOp) → IsPieceOf m n c q → division_before q.cut ≡ Some op
        → Held (answering_piece n c.index)
    answering_held c q op o e =
        let j : suc o.position < first_restore = index_few m p n f is.there o.position q o.is_piece in
        subst (λ y. Held (answering_piece n y)) (sym o.is_index)
        (held (answering_piece n (suc o.position)) (answer_items m n (suc o.position) q op) (named, omega arith) refl
        (answering_items_are m n o.position q op (omega arith) o.is_piece e) (l.divisions n o.position q op o.is_piece e).1
        ((d.light m p low n small).5 o.position q op o.is_piece e).1)

    dividing_held : (c : Cut) (q : Piece) (op : BinaryOp) (left : ℕ) → IsPieceOf m n c q → division_before q.cut ≡ Some op
        → Held (dividing_piece n c.index left)
    dividing_held c q op zero o e = answering_held c q op o e
    dividing_held c q op (suc left) o e = turning_held c q op o e

  placer_held : (n ints i : ℕ) → 1 ≤ ints → ints ≤ 2 → i < function_placers m n → Held (placer ints i)
  placer_held n ints i some few h =
      let all : function_placers m n ≤ most_placers = d.placers_few m p low n in
      let from : placers_from ints ≤ first_pair_placer = placers_low ints in
      held (placer ints i) (placer_items ints i) (let b : placers_from ints + i < 2147483648 = omega arith in b) refl
      (placer_items_are m ints i some few (omega arith)) (l.placers n ints i some few h) (d.placers_light ints i few (omega arith))

  grower_held : HasFirst m.mems → Held grower_piece
  grower_held h = held grower_piece grower_items (omega arith) refl (grower_items_are m) (l.grower h) d.grower_light

  pub done_held : (w : ℕ) → w ≤ 2 → Held (done_piece w)
  done_held w h =
      held (done_piece w) (done_items w) (omega arith) refl refl (l.dones w h)
      (d.dones_light w (omega arith))

  -- the first of these callers has a function
  caller_typed : (gives results : List ValType) (cs : List Activation) → TypedCallers m gives cs results → (c : Activation)
      (ds : List Activation) → cs ≡ c ∷ ds → (f : Func) × (t : FuncType) × IsFunction m c.func f t
  caller_typed gives results cs typed c ds e =
      let own : TypedCallers m gives (c ∷ ds) results = subst (λ (bs : List Activation). TypedCallers m gives bs results) e typed in
      (own.0, own.1, own.2.is_function)

  -- the piece that a standing names
  pub standing_held : (cs : List Activation) (a : Activation) (s : State) (f : Func) (t : FuncType)
      → IsFunction m a.func f t → (gives results : List ValType) → TypedCallers m gives cs results → (x : Standing m cs a s)
      → Held (name_of m x)
  standing_held cs a s f t i gives results typed (at_cut q) =
      let c = d.cuts m a.func q.cut q.is_cut in cut_held a.func f t i q.cut c.0 c.1
  standing_held cs a s f t i gives results typed (opening q) = opening_held a.func f t i
  standing_held cs a s f t i gives results typed (making c ds q e) = opening_held a.func f t i
  standing_held cs a s f t i gives results typed (fetching c ds k q e) =
      let own = caller_typed gives results cs typed c ds e in
      let w = q.passing.waits in
      fetch_held c.func own.0 own.1 own.2 w.cut w.piece w.type k w.is_piece w.behind
      (fetch_within k (widths w.type.params) (length (stack_ints q.passing.args)) q.passing.many q.passing.takes q.some_left)
  standing_held cs a s f t i gives results typed (restoring c us q e) =
      let own : IsFunction m c.func f t = subst (λ n. IsFunction m n f t) (ap (λ (y : Activation). y.func) e) i in
      restore_held c.func f t own q.waits.cut q.waits.piece q.waits.type q.waits.is_piece q.waits.behind
  standing_held cs a s f t i gives results typed (placing q) =
      placer_held a.func (length (value_ints q.value)) q.spot (some_ints q.value) (few_ints q.value) q.in_frame
  standing_held cs a s f t i gives results typed (growing q) = grower_held q.has_memory
  standing_held cs a s f t i gives results typed (dividing q) =
      dividing_held a.func f t i q.cut q.piece q.op q.left q.is_piece q.behind
