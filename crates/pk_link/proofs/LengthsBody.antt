-- The items of bodies and of calls are short.
use Rattle.std.proofs.Common.{◌≡◌, ℕ, zero, suc, ◌+◌, ◌*◌, ◌-◌, ◌/◌, ◌%◌, ◌≤◌, ◌<◌, min, List, [], ◌∷◌, ◌++◌, length, map, take, drop, reverse, replicate, Option, Some, None, Bool, true, false, refl, ap, arith}
use Rattle.std.specs.Prelude.{ℤ, codes, pos, if◌then◌else◌, nat_le, nat_lt, nat_eq, unwrap_or, slice_get}
use Rattle.std.specs.Cmp.Lexicographic.{pointwise}
use Rattle.std.specs.List.{AllByRecursion, Contains}
use Rattle.std.proofs.lemmas.List.{length-append, length-map}
use Rattle.std.proofs.lemmas.List.Elements.{All-head}
use Rattle.std.proofs.lemmas.Option.{slice_get_within}
use Rattle.mc_cmd.specs.Form.{Text}
use Rattle.mc_cmd.proofs.FormLemmas.{and_first, and_second, and_both}
use Rattle.wm_ast.specs.declared.limit.TheConstants.{MAX_LABELS}
use Rattle.wm_ast.specs.declared.module.Func.{Func}
use Rattle.wm_ast.specs.declared.module.FuncType.{FuncType}
use Rattle.wm_ast.specs.declared.module.Module.{Module}
use Rattle.wm_ast.specs.declared.module.ValType.{ValType}
use Rattle.wm_ast.specs.Operation.{store_type}
use Rattle.wm_ast.specs.Operator.{operator_of}
use Rattle.wm_ast.specs.declared.operator.BinaryOp.{BinaryOp}
use Rattle.wm_ast.specs.declared.operator.CompareOp.{CompareOp}
use Rattle.wm_ast.specs.declared.operator.CompareOp.TheVariants.{Eq, Ne, LtS, LtU, GtS, GtU, LeS, LeU, GeS, GeU}
use Rattle.wm_ast.specs.declared.operator.Operator.{Operator}
use Rattle.wm_ast.specs.declared.operator.Operator.TheVariants.{Comparison}
use Rattle.wm_ast.specs.Code.{Op, unreachable, nop, block, loop, if_else, br, br_if, br_table, return, drop_one, select}
use Rattle.wm_ast.specs.Code.{local_get, local_set, local_tee, global_get, global_set, load, store, memory_size, memory_grow, memory_copy, memory_fill, const, num, call, call_indirect, Code, nil, cons}
use Rattle.wm_ast.specs.Store.{most_pages}
use Rattle.wm_ast.specs.Types.{run_types, function_type}
use Rattle.wm_valid.specs.Height.{Low}
use Rattle.wm_flat.specs.FlatTyping.{IsFunction}
use Rattle.wm_flat.specs.Program.{IsProgram}
use Rattle.wm_place.specs.Kinds.{Body, function_body}
use Rattle.wm_place.specs.Spot.{arity_of}
use Rattle.wm_place.specs.Visit.{Around, Visit}
use Rattle.cc_line.specs.Place.{score_places}
use Rattle.cc_line.specs.Key.{key_next, key_follows, PieceId, body_piece, shared_piece, id_tree}
use Rattle.cc_line.specs.Sight.{in_rest}
use Rattle.cc_line.specs.State.{at_key, ints}
use Rattle.cc_line.specs.Step.{Act, set_site, copy_site, make_list, Cond, Step, run_act}
use Rattle.cc_line.specs.Item.{Items, step_item, no_more, first, join, steps_items, items_fit}
use Rattle.cc_line.proofs.RunLemmas.{join_fits}
use Rattle.cc_line.specs.Core.{fetch}
use Rattle.cc_cut.specs.Cost.{most_tested}
use Rattle.cc_cut.specs.Law.{width, widths}
use Rattle.cc_cut.specs.Piece.{Piece, places_in, or_else, index_from, index_of, function_pieces}
use Rattle.cc_cut.specs.Way.{path_behind, block_path, labelled, landing}
use Rattle.cc_call.specs.Acts.{acts_then}
use Rattle.cc_call.specs.Fetch.{fetch_acts, follows_site, making_acts}
use Rattle.cc_call.specs.Frames.{opening_piece, next_site, next_acts, depth_steps, push_acts, pass_acts, zero_acts, opening_acts}
use Rattle.cc_sched.specs.Sched.{end_rounds}
use Rattle.cc_call.specs.Frames.{hand_acts, return_acts, take_acts, restore_acts, base_acts, done_acts}
use Rattle.cc_bulk.specs.Copy.{copy_byte_items}
use Rattle.cc_bulk.specs.Fill.{fill_byte_items, reach_items}
use Rattle.cc_bulk.specs.Grow.{grow_items}
use Rattle.cc_access.specs.Known.{loads_by, stores_by}
use Rattle.cc_mem.specs.Size.{size_items}
use Rattle.cc_table.specs.Look.{find_items, look_items}
use Rattle.cc_table.specs.Target.{target_items}
use Rattle.cc_body.specs.Layout.{local_place, place_above, top_place, frame_size}
use Rattle.cc_body.specs.Emit.{exit_then, steps_then, is_zero, not_zero, is_index, num_by, value_acts, constant_acts, places_of, carry_acts, carry_steps, global_get_acts, global_set_acts, name_acts, cut_number, end_step, opens_here, enter_acts, goto_acts, acts_to, cut_acts, leads_by, leads_to, enter_found_acts, passing_acts, keeping_acts}
use Rattle.cc_body.specs.Emit.{branch_by, branch_acts, table_items, number_by, label_number, placer_by, label_placer, looked_by, looked_items, choice_items, indirect_acts, indirect_items, call_acts, call_items, function_items, grown_items, turn_items, onward, get_acts, set_acts, number_items, op_items, leave_by, code_items, compared, test_items, place_items, places_items}
use Rattle.cc_pieces.specs.Entry.{args_of_piece, take_args, taker, go_acts, entry_acts, taker_acts, taker_items, done_items, ending_acts}
use Rattle.cc_pieces.specs.Fetching.{args_of_fetch, are_many, fetch_from, fetch_piece, fetch_next_acts, fetched_acts, fetching_acts, opened_acts}
use Rattle.cc_pieces.specs.Growing.{append_next_acts}
use Rattle.cc_pieces.specs.Restoring.{restore_by}
use Rattle.cc_pieces.specs.Dividing.{answering_piece, divided_items, none_left_step, turning_items}
use Rattle.cc_body.specs.Behind.{call_before, division_of}
use Rattle.cc_body.specs.Conditions.{left_to_next, first_operand, sign_steps, condition_steps, is_so, is_not_so}
use Rattle.cc_body.specs.KnownConstants.{Knowns, known_last, known_next, knowns_at, nothing_known}
use Rattle.cc_passes.specs.Lean.{lean_items}
use Rattle.cc_passes.proofs.Laws.{lean_fits, lean_short}
use Rattle.cc_body.specs.Pieces.{answer_in, answer_items, body_results, items_in, lean_cut, opening_items, plain_items, cut_items, restore_in, restore_items, fetch_in, fetch_items, function_entry, function_opening, run_on}
use Rattle.cc_body.specs.Placers.{label_count}
use Rattle.cc_pieces.specs.Placing.{placer_items, placers_from}
use Rattle.cc_body.specs.Storage.{least_memory, has_page, type_of_global}
use Rattle.cc_div64.specs.Division.{begin_items, end_items, turns_items}
use Rattle.cc_line.specs.Routine.{value_ints}
use Rattle.cc_body.proofs.Bounds.{one_result, sizes_low}
use Rattle.cc_body.proofs.LeanPieces.{lean_keeps, run_on_keeps, stop_fits}
use Rattle.cc_body.proofs.LightPieces.{answer_light, opening_light, plain_light, restore_light}
use Rattle.cc_body.proofs.NumbersLaws.{numbers_are_lines}
use Rattle.cc_body.proofs.TableLabels.{FewLabels, OpFewLabels, labels_of}
use Rattle.cc_pieces.proofs.LightPieces.{placers_low}
use Rattle.cc_text.specs.Short.{act_short, acts_short, id_short, items_short, steps_short, tree_short}
use Rattle.cc_text.proofs.ShortItems.{short_both, short_join, short_steps}
use Rattle.cc_text.proofs.ShortSpots.{fetch_short}
use Rattle.cc_text.proofs.ShortTrees.{NumberPiece, index_piece, refusal_piece, ints_short, zeros_short, body_named, shared_named, name_short, body_short, shared_short}
use Rattle.cc_access.proofs.Short.{loads_short, stores_short}
use Rattle.cc_call.proofs.Short.{base_short, done_acts_short, fetch_acts_short, hand_short, making_short, next_short, opening_short, pass_short, push_short, restore_short, return_short, short_acts, short_then, take_results_short, zero_short}
use Rattle.cc_div64.proofs.Short.{begin_short, end_short, turns_short}
use Rattle.cc_bulk.proofs.ShortGrowing.{copy_byte_short, fill_byte_short}
use Rattle.cc_table.proofs.Short.{find_short, look_short, target_short}
use Rattle.pk_link.proofs.LengthsNumbers.{by_short}
use Rattle.pk_link.proofs.Counts.{functions_are_few, pieces_few}
use Rattle.pk_link.proofs.Placed.{AllPlaced, low_above, pieces_placed}

-- ---- acts and items

short_exit : (cs : List Cond) (acts : List Act) (rest : Items) → acts_short acts ≡ true → items_short rest ≡ true → items_short (exit_then cs acts rest) ≡ true
short_exit cs [] rest h g = g
short_exit cs (a ∷ acts) rest h g = and_both _ _ (and_first _ _ h) (short_exit cs acts rest (and_second (act_short a) _ h) g)

-- ---- acts

carry_short : (n from to : ℕ) → acts_short (carry_acts n from to) ≡ true
carry_short zero from to = refl
carry_short (suc n) from to = carry_short n (suc from) (suc to)

values_short : (zs : List ℤ) (i : ℕ) → acts_short (value_acts zs i) ≡ true
values_short [] i = refl
values_short (z ∷ zs) i = values_short zs (suc i)

-- what the condition of a comparison needs
sign_short : (op : CompareOp) (i : ℕ) → steps_short (sign_steps op i) ≡ true
sign_short Eq i = refl
sign_short Ne i = refl
sign_short LtS i = refl
sign_short LtU i = refl
sign_short GtS i = refl
sign_short GtU i = refl
sign_short LeS i = refl
sign_short LeU i = refl
sign_short GeS i = refl
sign_short GeU i = refl

condition_short : (q : Operator) (i : ℕ) → steps_short (condition_steps q i) ≡ true
condition_short (Comparison k op) i =
    short_both (fetch i (codes "#a")) (fetch (suc i) (codes "#b") ++ sign_steps op i) (fetch_short i (codes "#a")) (short_both (fetch (suc i) (codes "#b")) (sign_steps op i) (fetch_short (suc i) (codes "#b")) (sign_short op i))
condition_short _ i = fetch_short i (codes "#a")

carried_short : (cs : List Cond) (n from to : ℕ) → steps_short (carry_steps cs n from to) ≡ true
carried_short cs zero from to = refl
carried_short cs (suc n) from to = carried_short cs n (suc from) (suc to)

global_get_short : (n x k i : ℕ) → acts_short (global_get_acts x k n i) ≡ true
global_get_short zero x k i = refl
global_get_short (suc n) x k i = global_get_short n x (suc k) (suc i)

global_set_short : (n x k i : ℕ) → acts_short (global_set_acts x k n i) ≡ true
global_set_short zero x k i = refl
global_set_short (suc n) x k i = global_set_short n x (suc k) (suc i)

-- of arguments passed, or of many that are still to be fetched
pub opened_short : (params locals size : ℕ) (next : PieceId) → size ≤ 8000 → id_short next ≡ true → acts_short (opened_acts params locals size next) ≡ true
opened_short params locals size next h p = go (are_many params)
  where
    go : (b : Bool) → acts_short (if b then making_acts params locals size next else opening_acts params locals size next) ≡ true
    go true = making_short params locals size next h p
    go false = opening_short params locals size next h p

-- arguments that are fetched
fetch_named : (n index k : ℕ) → n < 2147483648 → index ≤ 1000000 → k ≤ 8 → id_short (fetch_piece n index k) ≡ true
fetch_named n index k named h l = body_named n (2097152 + (8 * index + k)) named (omega arith)

fetched_short : (params n index k : ℕ) → id_short (fetch_piece n index (suc k)) ≡ true → acts_short (fetched_acts params n index k) ≡ true
fetched_short params n index k p = go (nat_lt (args_of_fetch * suc k) params)
  where
    go : (b : Bool) → acts_short (if b then next_acts (fetch_piece n index (suc k)) else copy_site next_site follows_site ∷ []) ≡ true
    go true = next_short (fetch_piece n index (suc k)) p
    go false = refl

fetching_short : (z params n index k : ℕ) → id_short (fetch_piece n index (suc k)) ≡ true → acts_short (fetching_acts z params n index k) ≡ true
fetching_short z params n index k p =
    let some : ℕ = min args_of_fetch (params - args_of_fetch * k) in
    short_acts (fetch_acts (z + args_of_fetch * k) (args_of_fetch * k) some) (fetched_acts params n index k) (fetch_acts_short some (z + args_of_fetch * k) (args_of_fetch * k)) (fetched_short params n index k p)

-- the acts that make the piece the next one that appends pages
append_next_short : (func : ℕ) (o : Option ℕ) → func < 2147483648 → ((j : ℕ) → o ≡ Some j → j ≤ 1000000) → acts_short (append_next_acts func o) ≡ true
append_next_short func None named h = and_both _ _ (body_short func 0 named (omega arith)) (and_both _ _ (shared_short 30000 (omega arith)) refl)
append_next_short func (Some j) named h =
    let l : j ≤ 1000000 = h j refl in
    and_both _ _ (body_short func j named (omega arith)) (and_both _ _ (shared_short 30000 (omega arith)) refl)

name_acts_short : (k : Text) (p : PieceId) → id_short p ≡ true → acts_short (name_acts k p) ≡ true
name_acts_short k p h = and_both _ _ (name_short p h) refl

-- ---- looking numbers up

-- the table of so many labels
labels_short : (f : ℕ → ℤ) → ((l : ℕ) → NumberPiece 7 (f l)) → (ls : List ℕ) (last : ℕ) → length ls ≤ 4096 → tree_short (ints (map f ls ++ f last ∷ [])) ≡ true
labels_short f h ls last few =
    let a : length (map f ls ++ f last ∷ []) ≡ length (map f ls) + 1 = length-append (map f ls) (f last ∷ []) in
    let b : length (map f ls) ≡ length ls = length-map ls f in
    ints_short (map f ls ++ f last ∷ []) (each ls) (omega arith)
  where
    each : (ls : List ℕ) → AllByRecursion (NumberPiece 7) (map f ls ++ f last ∷ [])
    each [] = (h last, tt)
    each (l ∷ ls) = (h l, each ls)

-- ---- a body

module _ (m : Module) (func results : ℕ) (locals : List ValType) (all : List Piece) (named : func < 2147483648)
    (indices : (path : List ℕ) (j : ℕ) → index_of all path ≡ Some j → j ≤ 1000000) (sizes : (f : ℕ) → frame_size m f ≤ 8000) (funcs : length m.funcs ≤ 8192) (program : IsProgram m) where
  goto_short : (j : ℕ) → j ≤ 1000000 → acts_short (goto_acts m func results locals all j) ≡ true
  goto_short j h = and_both _ _ (body_short func j named (omega arith)) refl

  cut_acts_short : (path : List ℕ) → acts_short (cut_acts m func results locals all path) ≡ true
  cut_acts_short path = go (index_of all path) refl
    where
      go : (o : Option ℕ) → index_of all path ≡ o → acts_short (acts_to m func results locals all o) ≡ true
      go None e = refl
      go (Some j) e = goto_short j (indices path j e)

  leads_short : (path : List ℕ) (rest : Items) → items_short rest ≡ true → items_short (leads_to m func results locals all path rest) ≡ true
  leads_short path rest s = go (index_of all path) refl
    where
      go : (o : Option ℕ) → index_of all path ≡ o → items_short (leads_by m func results locals all o rest) ≡ true
      go None e = s
      go (Some j) e = short_then (goto_acts m func results locals all j) no_more (goto_short j (indices path j e)) refl

  branch_short : (v : Visit) (ts : List ValType) (l : ℕ) → acts_short (branch_acts m func results locals all v ts l) ≡ true
  branch_short v ts l = go (labelled v.blocks l)
    where
      go : (o : Option Around) → acts_short (branch_by m func results locals all v ts o) ≡ true
      go None = return_short (widths (take results ts)) (widths locals + widths ts)
      go (Some x) = short_acts (carry_acts (widths (take (arity_of x.op) ts)) (widths locals + widths ts - widths (take (arity_of x.op) ts)) (place_above locals v.kinds x.under)) (cut_acts m func results locals all (landing x.op (block_path v.path x) x.under ts).to)
          (carry_short (widths (take (arity_of x.op) ts)) (widths locals + widths ts - widths (take (arity_of x.op) ts)) (place_above locals v.kinds x.under))
          (cut_acts_short (landing x.op (block_path v.path x) x.under ts).to)

  alone : (acts : List Act) → acts_short acts ≡ true → items_short (acts_then acts no_more) ≡ true
  alone acts h = short_then acts no_more h refl

  table_items_short : (v : Visit) (ts : List ValType) (i k : ℕ) (ls : List ℕ) (last : ℕ) → items_short (table_items m func results locals all v ts i k ls last) ≡ true
  table_items_short v ts i k [] last = alone (branch_acts m func results locals all v ts last) (branch_short v ts last)
  table_items_short v ts i k (l ∷ ls) last =
      short_exit (is_index i k) (branch_acts m func results locals all v ts l) (table_items m func results locals all v ts i (suc k) ls last) (branch_short v ts l) (table_items_short v ts i (suc k) ls last)

  -- labels that are looked up
  number_short : (v : Visit) (ts : List ValType) (l : ℕ) → NumberPiece 7 (label_number m func results locals all v ts l)
  number_short v ts l = go (labelled v.blocks l)
    where
      cut : (o : Option ℕ) → ((j : ℕ) → o ≡ Some j → j ≤ 1000000) → NumberPiece 7 (cut_number o)
      cut None h = refusal_piece
      cut (Some j) h = index_piece j (h j refl)

      go : (o : Option Around) → NumberPiece 7 (number_by m func results locals all v ts o)
      go None = refusal_piece
      go (Some x) = let path : List ℕ = (landing x.op (block_path v.path x) x.under ts).to in cut (index_of all path) (indices path)

  placer_short : (ints : ℕ) (v : Visit) → top_place locals v ≤ 8000 → (l : ℕ) → NumberPiece 7 (label_placer m func results locals all ints v l)
  placer_short ints v room l = go (labelled v.blocks l)
    where
      go : (o : Option Around) → NumberPiece 7 (placer_by m func results locals all ints v o)
      go None = refusal_piece
      go (Some x) =
          let a : place_above locals v.kinds x.under ≤ 8000 = low_above locals v x.under room in
          let b : placers_from ints ≤ 25000 = placers_low ints in
          index_piece (placers_from ints + place_above locals v.kinds x.under) (omega arith)

  module _ (v : Visit) (ts : List ValType) (ls : List ℕ) (last : ℕ) (few : length ls ≤ 4096) (room : top_place locals v ≤ 8000) where
    numbers_short : items_short (look_items (map (label_number m func results locals all v ts) ls) (label_number m func results locals all v ts last)) ≡ true
    numbers_short =
        let f : ℕ → ℤ = label_number m func results locals all v ts in
        look_short (map f ls) (f last) (labels_short f (number_short v ts) ls last few)

    placers_short : (ints : ℕ) → items_short (find_items (map (label_placer m func results locals all ints v) ls ++ label_placer m func results locals all ints v last ∷ [])) ≡ true
    placers_short ints =
        let f : ℕ → ℤ = label_placer m func results locals all ints v in
        find_short (map f ls ++ f last ∷ []) (labels_short f (placer_short ints v room) ls last few)

    looked_short : (i n : ℕ) → items_short (looked_by m func results locals all v ts i ls last n) ≡ true
    looked_short i zero =
        let acts : List Act = name_acts key_next (body_piece func 0) in
        short_join (look_items (map (label_number m func results locals all v ts) ls) (label_number m func results locals all v ts last)) (acts_then acts (first (step_item end_step) no_more)) numbers_short
        (short_then acts (first (step_item end_step) no_more) (name_acts_short key_next (body_piece func 0) (body_named func 0 named (omega arith))) refl)
    looked_short i (suc n) =
        let end : Items = first (step_item end_step) no_more in
        let follows : List Act = name_acts key_follows (body_piece func 0) in
        let next : List Act = name_acts key_next (shared_piece 0) in
        let hand : List Act = hand_acts (suc n) (i - suc n) 0 in
        let found : Items = find_items (map (label_placer m func results locals all (suc n) v) ls ++ label_placer m func results locals all (suc n) v last ∷ []) in
        short_join (look_items (map (label_number m func results locals all v ts) ls) (label_number m func results locals all v ts last)) (acts_then follows (join found (acts_then (hand ++ next) end))) numbers_short
        (short_then follows (join found (acts_then (hand ++ next) end)) (name_acts_short key_follows (body_piece func 0) (body_named func 0 named (omega arith)))
        (short_join found (acts_then (hand ++ next) end) (placers_short (suc n))
        (short_then (hand ++ next) end (short_acts hand next (hand_short (suc n) (i - suc n) 0) (name_acts_short key_next (shared_piece 0) (shared_named 0 (omega arith)))) refl)))

    -- to a label, by tests or by a look-up
    choice_short : (i : ℕ) → items_short (choice_items m func results locals all v ts i ls last) ≡ true
    choice_short i = go (nat_le (length ls) most_tested)
      where
        tested : Items
        tested = steps_then (fetch i (codes "#a")) (table_items m func results locals all v ts i 0 ls last)

        go : (b : Bool) → items_short (if b then tested else looked_items m func results locals all v ts i ls last) ≡ true
        go true = short_join (steps_items (fetch i (codes "#a"))) (table_items m func results locals all v ts i 0 ls last) (short_steps (fetch i (codes "#a")) (fetch_short i (codes "#a"))) (table_items_short v ts i 0 ls last)
        go false = looked_short i (widths (take (label_count results v last) ts))

  -- a call
  restore_named : (o : Option ℕ) → ((j : ℕ) → o ≡ Some j → j ≤ 1000000) → id_short (restore_by func o) ≡ true
  restore_named None h = body_named func (1048576 + 0) named (omega arith)
  restore_named (Some j) h = let l : j ≤ 1000000 = h j refl in body_named func (1048576 + j) named (omega arith)

  enter_short : (f params own : ℕ) → f < 8192 → acts_short (enter_acts f params own (frame_size m f)) ≡ true
  enter_short f params own h = go (opens_here params own)
    where
      go : (b : Bool) → acts_short (if b then opening_acts params own (frame_size m f) (body_piece f 1) else next_acts (opening_piece f)) ≡ true
      go true = opening_short params own (frame_size m f) (body_piece f 1) (sizes f) (body_named f 1 (omega arith) (omega arith))
      go false = next_short (opening_piece f) (shared_named (10016 + f) (omega arith))

  fetch_from_short : (o : Option ℕ) → ((j : ℕ) → o ≡ Some j → j ≤ 1000000) → tree_short (id_tree (fetch_from func o)) ≡ true
  fetch_from_short None h = name_short (fetch_piece func 0 0) (fetch_named func 0 0 named (omega arith) (omega arith))
  fetch_from_short (Some j) h = name_short (fetch_piece func j 0) (fetch_named func j 0 named (h j refl) (omega arith))

  fetch_next_short : (o : Option ℕ) → ((j : ℕ) → o ≡ Some j → j ≤ 1000000) → acts_short (fetch_next_acts func o) ≡ true
  fetch_next_short o h = and_both _ _ (fetch_from_short o h) refl

  passing_short : (v : Visit) (top params : ℕ) (enter : List Act) → acts_short enter ≡ true → acts_short (passing_acts m func results locals all v top params enter) ≡ true
  passing_short v top params enter s =
      let z : ℕ = top - params in
      let follows : PieceId = restore_by func (index_of all (path_behind v.path)) in
      short_acts (push_acts z follows) (pass_acts z 0 params ++ enter) (push_short z follows (restore_named (index_of all (path_behind v.path)) (indices (path_behind v.path))))
      (short_acts (pass_acts z 0 params) enter (pass_short z params 0) s)

  keeping_short : (v : Visit) (top : ℕ) (enter : List Act) → acts_short enter ≡ true → acts_short (keeping_acts m func results locals all v top enter) ≡ true
  keeping_short v top enter s =
      let o : Option ℕ = index_of all (path_behind v.path) in
      short_acts (push_acts top (restore_by func o)) (fetch_next_acts func o ++ enter) (push_short top (restore_by func o) (restore_named o (indices (path_behind v.path))))
      (short_acts (fetch_next_acts func o) enter (fetch_next_short o (indices (path_behind v.path))) s)

  call_short : (v : Visit) (f params own : ℕ) → f < 8192 → acts_short (call_acts m func results locals all v f params own (frame_size m f)) ≡ true
  call_short v f params own h = go (are_many params)
    where
      go : (b : Bool) → acts_short (if b then keeping_acts m func results locals all v (top_place locals v) (next_acts (opening_piece f)) else passing_acts m func results locals all v (top_place locals v) params (enter_acts f params own (frame_size m f))) ≡ true
      go true = keeping_short v (top_place locals v) (next_acts (opening_piece f)) (next_short (opening_piece f) (shared_named (10016 + f) (omega arith)))
      go false = passing_short v (top_place locals v) params (enter_acts f params own (frame_size m f)) (enter_short f params own h)

  typed_short : (v : Visit) (f : ℕ) (g : Func) (o : Option FuncType) → f < 8192 → items_short (call_items m func results locals all v f g o) ≡ true
  typed_short v f g None h = refl
  typed_short v f g (Some t) h =
      let acts : List Act = call_acts m func results locals all v f (widths t.params) (widths (t.params ++ run_types g.locals)) (frame_size m f) in
      short_join (steps_items depth_steps) (acts_then acts no_more) refl (alone acts (call_short v f (widths t.params) (widths (t.params ++ run_types g.locals)) h))

  function_short : (v : Visit) (f : ℕ) (o : Option Func) → slice_get m.funcs f ≡ o → items_short (function_items m func results locals all v f o) ≡ true
  function_short v f None e = refl
  function_short v f (Some g) e = let l : f < length m.funcs = slice_get_within m.funcs f g e in typed_short v f g (function_type m g) (omega arith)

  -- a call through the table
  indirect_acts_short : (v : Visit) (params : ℕ) → acts_short (indirect_acts m func results locals all v params) ≡ true
  indirect_acts_short v params = go (are_many params)
    where
      enter : acts_short enter_found_acts ≡ true
      enter = name_acts_short key_next (shared_piece 0) (shared_named 0 (omega arith))

      go : (b : Bool) → acts_short (if b then keeping_acts m func results locals all v (top_place locals v - 1) enter_found_acts else passing_acts m func results locals all v (top_place locals v - 1) params enter_found_acts) ≡ true
      go true = keeping_short v (top_place locals v - 1) enter_found_acts enter
      go false = passing_short v (top_place locals v - 1) params enter_found_acts enter

  indirect_short : (v : Visit) (n : ℕ) (o : Option FuncType) → items_short (indirect_items m func results locals all v n o) ≡ true
  indirect_short v n None = refl
  indirect_short v n (Some t) =
      let acts : List Act = indirect_acts m func results locals all v (widths t.params) in
      short_join (target_items m n (top_place locals v - 1)) (join (steps_items depth_steps) (acts_then acts no_more)) (target_short m program n (top_place locals v - 1))
      (short_join (steps_items depth_steps) (acts_then acts no_more) refl (alone acts (indirect_acts_short v (widths t.params))))

  -- a division of i64
  divided_short : (op : BinaryOp) (h : ℕ) (o : Option ℕ) → ((j : ℕ) → o ≡ Some j → j ≤ 1000000) → items_short (divided_items op h func o) ≡ true
  divided_short op h o low =
      let last : List Step = run_act (set_site next_site (id_tree (fetch_from func o))) ∷ (none_left_step (restore_by func o) ∷ []) in
      short_join (begin_items op (h - 4)) (steps_items last) (begin_short op (h - 4))
      (and_both _ _ (fetch_from_short o low) (and_both _ _ (name_short (restore_by func o) (restore_named o low)) refl))

  -- growing
  grown_short : (v : Visit) → items_short (grown_items m func results locals all v) ≡ true
  grown_short v =
      let acts : List Act = append_next_acts func (index_of all (path_behind v.path)) in
      short_join (grow_items (most_pages m) (top_place locals v - 1)) (acts_then acts no_more) refl (alone acts (append_next_short func (index_of all (path_behind v.path)) named (indices (path_behind v.path))))

  onward_short : (v : Visit) (xs rest : Items) → items_short xs ≡ true → items_short rest ≡ true → items_short (onward m func results locals all v xs rest) ≡ true
  onward_short v xs rest s r = short_join xs (leads_to m func results locals all (path_behind v.path) rest) s (leads_short (path_behind v.path) rest r)

  module _ (v : Visit) (rest : Items) (later : items_short rest ≡ true) (room : top_place locals v ≤ 8000) where
    behind : items_short (leads_to m func results locals all (path_behind v.path) rest) ≡ true
    behind = leads_short (path_behind v.path) rest later

    fetched : (i : ℕ) (ys : Items) → items_short ys ≡ true → items_short (steps_then (fetch i (codes "#a")) ys) ≡ true
    fetched i ys h = short_join (steps_items (fetch i (codes "#a"))) ys (short_steps (fetch i (codes "#a")) (fetch_short i (codes "#a"))) h

    bytes_short : (turn : Items) → items_short turn ≡ true → (n : ℕ) → items_short (turn_items m func results locals all v turn n) ≡ true
    bytes_short turn h zero = alone (cut_acts m func results locals all v.path) (cut_acts_short v.path)
    bytes_short turn h (suc n) =
        let more : Items = join turn (turn_items m func results locals all v turn n) in
        fetched (top_place locals v - 1) _
        (short_exit (is_zero (top_place locals v - 1)) (cut_acts m func results locals all (path_behind v.path)) more (cut_acts_short (path_behind v.path)) (short_join turn (turn_items m func results locals all v turn n) h (bytes_short turn h n)))

    set_short : (x : ℕ) → items_short (onward m func results locals all v (acts_then (set_acts m func results locals all x (places_of (slice_get locals x)) (top_place locals v)) no_more) rest) ≡ true
    set_short x =
        let n : ℕ = places_of (slice_get locals x) in
        let acts : List Act = set_acts m func results locals all x n (top_place locals v) in
        onward_short v (acts_then acts no_more) rest (alone acts (carry_short n (top_place locals v - n) (local_place locals x))) later

    op_short : (ks : Knowns) (i : Op) → OpFewLabels i → items_short (op_items m func results locals all ks v i rest) ≡ true
    op_short ks nop h = onward_short v no_more rest refl later
    op_short ks drop_one h = onward_short v no_more rest refl later
    op_short ks (const z) h = onward_short v (acts_then (constant_acts z (top_place locals v)) no_more) rest (alone (constant_acts z (top_place locals v)) (values_short (value_ints z) (top_place locals v))) later
    op_short ks (local_get x) h =
        let n : ℕ = places_of (slice_get locals x) in
        let acts : List Act = get_acts m func results locals all x n (top_place locals v) in
        onward_short v (acts_then acts no_more) rest (alone acts (carry_short n (local_place locals x) (top_place locals v))) later
    op_short ks (local_set x) h = set_short x
    op_short ks (local_tee x) h = set_short x
    op_short ks (global_get x) h =
        let n : ℕ = places_of (type_of_global m x) in
        let acts : List Act = global_get_acts x 0 n (top_place locals v) in
        onward_short v (acts_then acts no_more) rest (alone acts (global_get_short n x 0 (top_place locals v))) later
    op_short ks (global_set x) h =
        let n : ℕ = places_of (type_of_global m x) in
        let acts : List Act = global_set_acts x 0 n (top_place locals v - n) in
        onward_short v (acts_then acts no_more) rest (alone acts (global_set_short n x 0 (top_place locals v - n))) later
    op_short ks (load op align offset) h =
        let a : ℕ = top_place locals v - 1 in
        onward_short v (loads_by (least_memory m) (known_last ks) (has_page m) op a offset) rest (loads_short (least_memory m) (known_last ks) (has_page m) op a offset) later
    op_short ks (store op align offset) h =
        let a : ℕ = top_place locals v - suc (width (store_type op)) in
        onward_short v (stores_by (least_memory m) (known_next ks) (has_page m) op a offset) rest (stores_short (least_memory m) (known_next ks) (has_page m) op a offset) later
    op_short ks memory_size h = onward_short v (size_items (top_place locals v)) rest refl later
    op_short ks memory_grow h = grown_short v
    op_short ks memory_fill h =
        let turn : Items = fill_byte_items (has_page m) (top_place locals v - 3) (top_place locals v - 2) (top_place locals v - 1) in
        short_join (reach_items (top_place locals v - 3) (top_place locals v - 1)) (turn_items m func results locals all v turn 3) refl
        (bytes_short turn (fill_byte_short (has_page m) (top_place locals v - 3) (top_place locals v - 2) (top_place locals v - 1)) 3)
    op_short ks memory_copy h =
        let turn : Items = copy_byte_items (has_page m) (top_place locals v - 3) (top_place locals v - 2) (top_place locals v - 1) in
        short_join (reach_items (top_place locals v - 3) (top_place locals v - 1)) (join (reach_items (top_place locals v - 2) (top_place locals v - 1)) (turn_items m func results locals all v turn 1)) refl
        (short_join (reach_items (top_place locals v - 2) (top_place locals v - 1)) (turn_items m func results locals all v turn 1) refl
        (bytes_short turn (copy_byte_short (has_page m) (top_place locals v - 3) (top_place locals v - 2) (top_place locals v - 1)) 1))
    op_short ks select h =
        let n : ℕ = places_of (slice_get (reverse v.kinds) 1) in
        let top : ℕ = top_place locals v in
        let chosen : List Step = carry_steps (is_zero (top - 1)) n (top - 1 - n) (top - 1 - n - n) in
        onward_short v (steps_items (fetch (top - 1) (codes "#a") ++ chosen)) rest
        (short_steps (fetch (top - 1) (codes "#a") ++ chosen)
        (short_both (fetch (top - 1) (codes "#a")) chosen (fetch_short (top - 1) (codes "#a")) (carried_short (is_zero (top - 1)) n (top - 1 - n) (top - 1 - n - n))))
        later
    op_short ks (num op) h = go (division_of (operator_of op))
      where
        go : (o : Option BinaryOp) → items_short (number_items m func results locals all ks v op o rest) ≡ true
        go None = onward_short v (num_by (known_next ks) (known_last ks) op (top_place locals v)) rest (by_short (known_next ks) (known_last ks) op (top_place locals v)) later
        go (Some d) = divided_short d (top_place locals v) (index_of all (path_behind v.path)) (indices (path_behind v.path))
    op_short ks (block ty body) h = leads_short (v.path ++ 0 ∷ []) rest later
    op_short ks (loop ty body) h = leads_short (v.path ++ 0 ∷ []) rest later
    op_short ks (if_else ty one other) h =
        fetched (top_place locals v - 1) _
        (short_exit (is_zero (top_place locals v - 1)) (cut_acts m func results locals all (v.path ++ 1 ∷ 0 ∷ [])) (leads_to m func results locals all (v.path ++ 0 ∷ 0 ∷ []) rest) (cut_acts_short (v.path ++ 1 ∷ 0 ∷ [])) (leads_short (v.path ++ 0 ∷ 0 ∷ []) rest later))
    op_short ks (br l) h = alone (branch_acts m func results locals all v (reverse v.kinds) l) (branch_short v (reverse v.kinds) l)
    op_short ks (br_if l) h =
        fetched (top_place locals v - 1) _
        (short_exit (not_zero (top_place locals v - 1)) (branch_acts m func results locals all v (drop 1 (reverse v.kinds)) l) (leads_to m func results locals all (path_behind v.path) rest) (branch_short v (drop 1 (reverse v.kinds)) l) behind)
    op_short ks (br_table ls last) h =
        let few : length ls ≤ 4096 = All-head (λ n. n ≤ MAX_LABELS) (length ls) [] h in
        choice_short v (drop 1 (reverse v.kinds)) ls last few room (top_place locals v - 1)
    op_short ks return h = alone (return_acts (widths (take results (reverse v.kinds))) (top_place locals v)) (return_short (widths (take results (reverse v.kinds))) (top_place locals v))
    op_short ks (call f) h = function_short v f (slice_get m.funcs f) refl
    op_short ks (call_indirect n) h = indirect_short v n (slice_get m.types n)
    op_short ks unreachable h = refl
    op_short ks _ h = refl

    leave_short : (o : Option Around) → items_short (leave_by m func results locals all v o rest) ≡ true
    leave_short None = alone (return_acts (widths (take results (reverse v.kinds))) (top_place locals v)) (return_short (widths (take results (reverse v.kinds))) (top_place locals v))
    leave_short (Some x) = leads_short (path_behind (block_path v.path x)) rest later

    code_short : (ks : Knowns) (c : Code) → FewLabels c → items_short (code_items m func results locals all ks v c rest) ≡ true
    code_short ks nil h = leave_short (labelled v.blocks 0)
    code_short ks (cons i is) h = op_short ks i (labels_of i is h).0

    -- a comparison that is tested, and a place that leaves one to the next
    test_short : (q : Operator) (c : Code) → items_short (test_items m func results locals all q v c rest) ≡ true
    test_short q (cons (if_else ty one other) is) =
        short_exit (is_not_so q (top_place locals v - 1)) (cut_acts m func results locals all (v.path ++ 1 ∷ 0 ∷ [])) (leads_to m func results locals all (v.path ++ 0 ∷ 0 ∷ []) rest) (cut_acts_short (v.path ++ 1 ∷ 0 ∷ [])) (leads_short (v.path ++ 0 ∷ 0 ∷ []) rest later)
    test_short q (cons (br_if l) is) =
        short_exit (is_so q (top_place locals v - 1)) (branch_acts m func results locals all v (drop 1 (reverse v.kinds)) l) (leads_to m func results locals all (path_behind v.path) rest) (branch_short v (drop 1 (reverse v.kinds)) l) behind
    test_short q _ = refl

    place_short : (ks : Knowns) (o compared : Option Operator) → FewLabels v.rest → items_short (place_items m func results locals all ks o compared v rest) ≡ true
    place_short ks (Some q) compared h = test_short q v.rest
    place_short ks None (Some q) h =
        let needs : List Step = condition_steps q (first_operand q (top_place locals v)) in
        short_join (steps_items needs) rest (short_steps needs (condition_short q (first_operand q (top_place locals v)))) later
    place_short ks None None h = code_short ks v.rest h

  pub places_short : (ks : Knowns) (o : Option Operator) (vs : List Visit) → AllPlaced locals vs → items_short (places_items m func results locals all ks o vs) ≡ true
  places_short ks o [] p = refl
  places_short ks o (v ∷ vs) p =
      let next : Knowns = knowns_at ks v.rest in
      let here : Option Operator = compared m func results locals all v in
      place_short v (places_items m func results locals all next (left_to_next o here) vs) (places_short next (left_to_next o here) vs p.1) p.0.room ks o here p.0.labels

-- ---- the pieces of a module

index_low : (k : ℕ) (ps : List Piece) (path : List ℕ) (j : ℕ) → index_from k ps path ≡ Some j → j < k + length ps
index_low k [] path j e = absurd cc
index_low k (p ∷ ps) path j e = go (index_from (suc k) ps path) (λ a f. index_low (suc k) ps path a f) e
  where
    here : (b : Bool) → (if b then Some k else None) ≡ Some j → j < k + suc (length ps)
    here true e = let x : k ≡ j = ap (λ o. unwrap_or o 0) e in omega arith
    here false e = absurd cc

    go : (o : Option ℕ) → ((a : ℕ) → o ≡ Some a → a < suc k + length ps) → or_else o (if pointwise nat_eq p.cut.path path then Some k else None) ≡ Some j → j < k + suc (length ps)
    go None f e = here (pointwise nat_eq p.cut.path path) e
    go (Some a) f e =
        let x : a ≡ j = ap (λ o. unwrap_or o 0) e in
        let h : a < suc k + length ps = f a refl in
        omega arith

-- what the lengths of a module's pieces rest on
pub record IsSmall (m : Module) : Type 0 where
  pub sizes : (f : ℕ) → frame_size m f ≤ 8000
  pub functions : length m.funcs ≤ 8192
  pub indices : (n : ℕ) (path : List ℕ) (j : ℕ) → index_of (function_pieces m n) path ≡ Some j → j ≤ 1000000

pub module_small : (m : Module) → IsProgram m → Low m → IsSmall m
module_small m p low = record {
  sizes = sizes_low m p low;
  functions = functions_are_few m p;
  indices = λ n path j e.
      let a : j < 1 + length (function_pieces m n) = index_low 1 (function_pieces m n) path j e in
      let b : length (function_pieces m n) ≤ 900000 = pieces_few m p n in
      omega arith;
}

pub turning_items_short : (n index : ℕ) → n < 2147483648 → index ≤ 1000000 → items_short (turning_items n index) ≡ true
turning_items_short n index named low =
    short_join turns_items (steps_items (none_left_step (answering_piece n index) ∷ [])) turns_short
    (and_both _ _ (name_short (answering_piece n index) (body_named n (1048576 + index) named (omega arith))) refl)

module _ (m : Module) (is : IsSmall m) where
  -- a piece of the function of this index, as it is emitted
  plain_short : IsProgram m → Low m → (n : ℕ) → n < 2147483648 → (q : Piece) → Contains (function_pieces m n) q → items_short (plain_items m n q) ≡ true
  plain_short program low n named q h = go (function_body m n) refl
    where
      go : (o : Option Body) → function_body m n ≡ o → items_short (items_in m n (function_pieces m n) o q) ≡ true
      go None e = refl
      go (Some b) e = places_short m n (body_results b) b.scope.locals (function_pieces m n) named (is.indices n) is.sizes is.functions program nothing_known None (places_in q) (pieces_placed m program low n b e q h)

  -- lines that are short
  abbrev AreShort : Items → Type 0
  AreShort xs = (items_fit xs ≡ true) × (items_short xs ≡ true)

  lean_shorter : (func : ℕ) (heights : List ℕ) (own : Option ℕ) (xs : Items) → AreShort xs → AreShort (lean_items func heights own xs)
  lean_shorter func heights own xs k = (lean_fits func heights own xs k.0, lean_short func heights own xs k.0 k.1)

  -- made lean
  lean_cut_short : IsProgram m → Low m → (n : ℕ) → n < 2147483648 → (q : Piece) → Contains (function_pieces m n) q → AreShort (lean_cut m n q)
  lean_cut_short program low n named q h =
      lean_keeps AreShort lean_shorter n (function_pieces m n) (function_body m n) (Some q) (plain_items m n q)
      ((plain_light numbers_are_lines m program low n named q h).fits, plain_short program low n named q h)

  -- items that run on
  run_on_short : IsProgram m → Low m → (n : ℕ) → n < 2147483648 → (xs : Items) → items_fit xs ≡ true → items_short xs ≡ true → items_short (run_on m n xs) ≡ true
  run_on_short program low n named xs f h =
      (run_on_keeps m n AreShort lean_shorter (λ xs ys a b. (join_fits xs ys a.0 b.0, short_join xs ys a.1 b.1)) (stop_fits, refl) (lean_cut_short program low n named) xs (f, h)).1

  -- and as the piece is
  pub cut_short : IsProgram m → Low m → (n : ℕ) → n < 2147483648 → (q : Piece) → Contains (function_pieces m n) q → items_short (cut_items m n q) ≡ true
  cut_short program low n named q h =
      let lean : AreShort (lean_cut m n q) = lean_cut_short program low n named q h in
      run_on_short program low n named (lean_cut m n q) lean.0 lean.1

  -- a piece that restores its frame, and one that makes it
  pub restore_items_short : IsProgram m → Low m → (n position : ℕ) → n < 2147483648 → suc position < 2147483648 → (q : Piece) (t : FuncType) → slice_get (function_pieces m n) position ≡ Some q → call_before m q.cut ≡ Some t → items_short (restore_items m n (suc position) q t) ≡ true
  restore_items_short program lowly n position named low q t at behind =
      run_on_short program lowly n named (restore_in m n (suc position) q.cut t (function_body m n)) (restore_light numbers_are_lines m program lowly n named position q t at behind).fits (go (function_body m n))
    where
      go : (o : Option Body) → items_short (restore_in m n (suc position) q.cut t o) ≡ true
      go None = refl
      go (Some b) =
          let z : ℕ = top_place b.scope.locals q.cut - widths t.results in
          short_then (restore_acts z (widths t.results) (frame_size m n) (body_piece n (suc position))) no_more (restore_short z (widths t.results) (frame_size m n) (body_piece n (suc position)) (is.sizes n) (body_named n (suc position) named low)) refl

  -- one that fetches arguments
  pub fetch_items_short : (n index k : ℕ) → n < 2147483648 → index ≤ 1000000 → k < 8 → (q : Piece) (t : FuncType) → items_short (fetch_items m n index k q t) ≡ true
  fetch_items_short n index k named low few q t = go (function_body m n)
    where
      go : (o : Option Body) → items_short (fetch_in m n index k q.cut t o) ≡ true
      go None = refl
      go (Some b) =
          let z : ℕ = top_place b.scope.locals q.cut - widths t.results in
          short_then (fetching_acts z (widths t.params) n index k) no_more (fetching_short z (widths t.params) n index k (fetch_named n index (suc k) named low (omega arith))) refl

  -- those of a division
  pub answer_items_short : IsProgram m → Low m → (n position : ℕ) → n < 2147483648 → suc position < 2147483648 → (q : Piece) (op : BinaryOp) → slice_get (function_pieces m n) position ≡ Some q → items_short (answer_items m n (suc position) q op) ≡ true
  answer_items_short program lowly n position named low q op at =
      run_on_short program lowly n named (answer_in n (suc position) q.cut op (function_body m n)) (answer_light numbers_are_lines m program lowly n named position q op at).fits (go (function_body m n))
    where
      go : (o : Option Body) → items_short (answer_in n (suc position) q.cut op o) ≡ true
      go None = refl
      go (Some b) =
          let last : Items = acts_then (next_acts (body_piece n (suc position))) no_more in
          short_join (end_items op (top_place b.scope.locals q.cut - 2)) last (end_short op (top_place b.scope.locals q.cut - 2))
          (short_then (next_acts (body_piece n (suc position))) no_more (next_short (body_piece n (suc position)) (body_named n (suc position) named low)) refl)

  pub function_opening_short : IsProgram m → Low m → (n : ℕ) → n < 2147483648 → (f : Func) (t : FuncType) → IsFunction m n f t → items_short (function_opening m n f t) ≡ true
  function_opening_short program low n named f t at =
      run_on_short program low n named (opening_items n t (run_types f.locals) (frame_size m n)) (opening_light m program low n named f t at).fits
      (short_then (opened_acts (widths t.params) (widths (t.params ++ run_types f.locals)) (frame_size m n) (body_piece n 1)) no_more
      (opened_short (widths t.params) (widths (t.params ++ run_types f.locals)) (frame_size m n) (body_piece n 1) (is.sizes n) (body_named n 1 named (omega arith))) refl)

-- ---- calls from outside

take_short : (n i : ℕ) → acts_short (take_args i n) ≡ true
take_short zero i = refl
take_short (suc n) i = take_short n (suc i)

go_short : (func k : ℕ) → func < 2147483648 → k ≤ 1000 → acts_short (go_acts func k) ≡ true
go_short func zero h l = and_both _ _ (body_short func 1 h (omega arith)) refl
go_short func (suc k) h l = and_both _ _ (body_short func 1 h (omega arith)) (and_both _ _ (shared_short (5000 + k) (omega arith)) refl)

pub entry_acts_short : (func params locals results size : ℕ) → func < 2147483648 → params / 192 ≤ 1000 → results ≤ 1000 → size ≤ 8000 → acts_short (entry_acts func params locals results size) ≡ true
entry_acts_short func params locals results size h l r s =
    let args : List Act = take_args (args_of_piece * (params / args_of_piece)) (params % args_of_piece) in
    let go : List Act = go_acts func (params / args_of_piece) in
    short_acts (base_acts results) (make_list (replicate (size - score_places) (pos 0)) ∷ (zero_acts params (min locals score_places - params) ++ (args ++ go)))
    (base_short results r)
    (and_both _ _ (zeros_short (size - score_places) (omega arith))
    (short_acts (zero_acts params (min locals score_places - params)) (args ++ go) (zero_short (min locals score_places - params) params)
    (short_acts args go (take_short (params % args_of_piece) (args_of_piece * (params / args_of_piece))) (go_short func (params / args_of_piece) h l))))

pub entry_items_short : (m : Module) → IsSmall m → IsProgram m → (n : ℕ) (f : Func) (t : FuncType) → IsFunction m n f t → n < 2147483648 → widths t.params / 192 ≤ 1000 → items_short (function_entry m n f t) ≡ true
entry_items_short m is p n f t at named few =
    let narrow : widths t.results ≤ 2 = one_result m p f t at.has_type in
    let acts : List Act = entry_acts n (widths t.params) (widths (t.params ++ run_types f.locals)) (widths t.results) (frame_size m n) in
    short_then acts no_more (entry_acts_short n (widths t.params) (widths (t.params ++ run_types f.locals)) (widths t.results) (frame_size m n) named few (omega arith) (is.sizes n)) refl

pub done_short : (w : ℕ) → w ≤ 1000 → items_short (done_items w) ≡ true
done_short w h = short_then (ending_acts w) no_more (short_acts (done_acts w) (end_rounds ∷ []) (done_acts_short w h) refl) refl

pub taker_short : (k : ℕ) → k ≤ 1000 → items_short (taker_items k) ≡ true
taker_short zero h =
    short_then (taker_acts zero) no_more
    (short_acts (take_args 0 args_of_piece) (copy_site (at_key in_rest key_next) (at_key in_rest key_follows) ∷ []) (take_short args_of_piece 0) refl) refl
taker_short (suc k) h =
    short_then (taker_acts (suc k)) no_more
    (short_acts (take_args (args_of_piece * suc k) args_of_piece) (next_acts (taker k)) (take_short args_of_piece (args_of_piece * suc k)) (and_both _ _ (shared_short (5000 + k) (omega arith)) refl)) refl

pub placer_items_short : (ints i : ℕ) → items_short (placer_items ints i) ≡ true
placer_items_short ints i =
    short_then (take_acts ints i 0 ++ copy_site (at_key in_rest key_next) (at_key in_rest key_follows) ∷ []) no_more
    (short_acts (take_acts ints i 0) (copy_site (at_key in_rest key_next) (at_key in_rest key_follows) ∷ []) (take_results_short ints i 0) refl) refl
