-- The helpers that a pack's pieces call: where the lists of the crates of routines are within a list, each has a name of it.
use Rattle.std.proofs.Common.{◌≡◌, ◌∙◌, ap, refl, ℕ, zero, suc, ◌+◌, ◌-◌, ◌<◌, ◌≤◌, List, [], ◌∷◌, ◌++◌, length, map, Option, Some, None, arith}
use Rattle.std.specs.Prelude.{ℤ, codes, drop, nat_le, pos, reverse, slice_get, take, unwrap_or, if◌then◌else◌}
use Rattle.std.specs.Fmt.{decimal}
use Rattle.std.proofs.lemmas.Option.{slice_get_within}
use Rattle.mc_cmd.specs.Form.{Text}
use Rattle.wm_ast.specs.declared.module.Limits.{Limits}
use Rattle.wm_ast.specs.declared.module.Module.{Module}
use Rattle.wm_ast.specs.declared.module.Func.{Func}
use Rattle.wm_ast.specs.declared.module.FuncType.{FuncType}
use Rattle.wm_ast.specs.declared.module.ValType.{ValType}
use Rattle.wm_ast.specs.declared.operation.NumOp.{NumOp}
use Rattle.wm_ast.specs.declared.operator.BinaryOp.{BinaryOp}
use Rattle.wm_ast.specs.declared.operator.Operator.{Operator}
use Rattle.wm_ast.specs.Operation.{num_type, store_type}
use Rattle.wm_ast.specs.Operator.{operator_of}
use Rattle.wm_ast.specs.Code.{Op, unreachable, nop, block, loop, if_else, br, br_if, br_table, return, drop_one, select, local_get, local_set, local_tee, global_get, global_set, load, store, memory_size, memory_grow, memory_copy, memory_fill, const, num, call, call_indirect, Code, nil, cons}
use Rattle.wm_ast.specs.declared.limit.TheConstants.{PAGES}
use Rattle.wm_valid.specs.Height.{Low}
use Rattle.wm_flat.specs.FlatTyping.{IsFunction}
use Rattle.wm_flat.specs.Program.{IsProgram}
use Rattle.wm_place.specs.Kinds.{Body, function_body}
use Rattle.wm_place.specs.Visit.{Around, Visit}
use Rattle.cc_line.specs.Key.{body_piece, id_tree, init_piece, key_follows, key_next, score_trap, shared_piece}
use Rattle.cc_line.specs.Sight.{in_rest}
use Rattle.cc_line.specs.State.{at_key}
use Rattle.cc_line.specs.Place.{scratch}
use Rattle.cc_line.specs.Step.{Act, Cond, copy_site, Step, run_act, set_site, set_spot, when, stop_when}
use Rattle.cc_line.specs.Core.{fetch}
use Rattle.cc_line.specs.Item.{step_item, call_item, call_when, fill_item, fill_when, Items, items_texts, no_more, first, join, steps_items}
use Rattle.cc_cut.specs.Cost.{most_tested}
use Rattle.cc_cut.specs.Law.{width, widths}
use Rattle.cc_cut.specs.Piece.{function_pieces, index_of, Piece, places_in}
use Rattle.cc_cut.specs.Way.{block_path, labelled, path_behind}
use Rattle.cc_i32.specs.Operation as arithmetic
use Rattle.cc_bits.specs.Operation as bits
use Rattle.cc_bulk.specs.Copy.{copy_byte_items}
use Rattle.cc_bulk.specs.Fill.{fill_byte_items, reach_items, reach_steps}
use Rattle.cc_bulk.specs.Grow.{grow_steps, grow_items, grower_steps, grower_items}
use Rattle.cc_mem.specs.Size.{size_items}
use Rattle.cc_access.specs.Known.{loads_by, stores_by}
use Rattle.cc_i64.specs.Operation as pairs
use Rattle.cc_bits64.specs.Operation as long_bits
use Rattle.cc_div64.specs.Division.{begin_items, end_items}
use Rattle.cc_div64.specs.Division.{turn, turns_items}
use Rattle.cc_text.specs.Tables.{IsWithin, ItemsNamed, lines_named, NamedHelper}
use Rattle.cc_text.proofs.NamedItems.{helpers_named, named_both, named_either, named_steps, no_helper}
use Rattle.cc_i32.specs.Helpers as word_list
use Rattle.cc_i32.proofs.HelperLemmas as i32_helpers
use Rattle.cc_bits.specs.Helpers as bit_list
use Rattle.cc_bits.proofs.HelperLemmas as bit_helpers
use Rattle.cc_bits64.specs.Helpers as long_list
use Rattle.cc_bits64.proofs.HelperLemmas as long_helpers
use Rattle.cc_i64.proofs.HelperLemmas as pair_helpers
use Rattle.cc_div64.specs.Helpers as division_list
use Rattle.cc_div64.proofs.HelperLemmas.{begin_named, end_named, turns_named}
use Rattle.cc_mem.specs.Helpers as memory_list
use Rattle.cc_bulk.proofs.HelperLemmas.{copy_named, fill_named}
use Rattle.cc_access.proofs.HelperLemmas.{loads_named, stores_named}
use Rattle.cc_table.specs.Helpers.{call_helpers, look_helpers}
use Rattle.cc_table.proofs.HelperLemmas.{find_named, look_named, target_named}
use Rattle.cc_sched.specs.Charge.{charge, round_weight}
use Rattle.cc_sched.specs.Names.{first_end}
use Rattle.cc_call.specs.Acts.{acts_then}
use Rattle.cc_call.specs.Frames.{depth_steps, done_piece, first_opening, hand_acts, next_acts, next_site, restore_acts, return_acts, take_acts}
use Rattle.cc_table.specs.Look.{find_items, look_items}
use Rattle.cc_table.specs.Target.{target_items}
use Rattle.cc_body.specs.Behind.{call_before}
use Rattle.cc_pieces.specs.Restoring.{restore_by}
use Rattle.cc_pieces.specs.Dividing.{answering_piece, divided_items, none_left_step, turning_items}
use Rattle.cc_body.specs.Behind.{division_before, division_of}
use Rattle.cc_body.specs.Conditions.{left_to_next, first_operand, condition_steps, is_so, is_not_so}
use Rattle.cc_body.specs.Emit.{branch_acts, call_acts, call_items, carry_items, choice_items, code_items, cut_acts, exit_then, end_step, function_items, indirect_acts, indirect_items, label_number, label_placer, leads_by, leads_to, leave_by, looked_by, looked_items, name_acts, num_below, num_by, num_items, has_one_operand, op_items, compared, place_items, places_items, test_items, table_items, turn_items, constant_acts, goto_acts, is_index, is_zero, not_zero}
use Rattle.cc_body.specs.Emit.{get_acts, global_get_acts, global_set_acts, is_of_i32, long_items, number_items, onward, places_of, select_steps, set_acts, short_below}
use Rattle.cc_pieces.specs.Entry.{done_items, ending_acts, entry_acts, first_taker, taker, taker_acts, taker_items}
use Rattle.cc_pieces.specs.Fetching.{fetch_from, fetch_piece, fetches, fetching_acts, opened_acts}
use Rattle.cc_pieces.specs.Growing.{append_next_acts, grower_index}
use Rattle.cc_known.specs.Choice.{chosen_items}
use Rattle.cc_known.proofs.Choices.{chosen_named}
use Rattle.cc_body.specs.KnownConstants.{Knowns, known_last, known_next, knowns_at, nothing_known}
use Rattle.cc_passes.proofs.Laws.{lean_named}
use Rattle.cc_body.specs.Pieces.{answer_in, answer_items, body_results, cut_items, fetch_in, fetch_items, function_entry, function_opening, items_in, lean_cut, opening_items, plain_items, restore_in, restore_items, run_on}
use Rattle.cc_body.proofs.LeanPieces.{lean_keeps, run_on_keeps}
use Rattle.cc_body.specs.Parts.{cut_parts, division_parts, fetch_parts, function_parts, module_parts, most_takers_of, parts_by, parts_of_type, restore_parts, shared_parts}
use Rattle.cc_pieces.specs.Parts.{done_parts, Part, part, placer_parts, taker_parts, grower_parts}
use Rattle.cc_body.specs.Placers.{label_count, most_placers_of}
use Rattle.cc_pieces.specs.Placing.{placer, placer_items, placers_from}
use Rattle.cc_pieces.proofs.LightPieces.{placers_low}
use Rattle.cc_body.specs.Layout.{frame_size, top_place}
use Rattle.cc_body.specs.Storage.{least_memory, has_page, type_of_global}
use Rattle.wm_ast.specs.Store.{most_pages}
use Rattle.wm_ast.specs.Types.{function_type, run_types}
use Rattle.cc_init.specs.Init.{later_pieces, init_acts, init_items, init_parts}
use Rattle.pk_agree.specs.Heaviest.{pack_parts}
use Rattle.pk_link.proofs.Counts.{all_in, first_in, FollowIn, functions_are_few, later_pieces_few, others_in, placers_are_few, takers_are_few}
use Rattle.pk_link.proofs.Routines.{done_routine, grower_routine, init_found, init_routines, opening_routine, placer_routine, routine_items, shared_found, shared_routines, taker_routine}

-- the lists of the crates of routines are within a list
pub record HasRooms (m : Module) (names : List NamedHelper) : Type 0 where
  pub few : length m.types ≤ 2147483648
  pub words : IsWithin word_list.helpers names
  pub bits : IsWithin bit_list.helpers names
  pub long_bits : IsWithin long_list.helpers names
  pub divisions : IsWithin division_list.helpers names
  pub memory : IsWithin memory_list.helpers names
  pub looks : IsWithin look_helpers names
  pub types : IsWithin (call_helpers m) names
  pub inits : IsWithin (init_routines m) names
  pub shared : IsWithin (shared_routines m) names

-- the helpers of the pieces have names of a list
abbrev pub PartsNamed : List NamedHelper → List Part → Type 0
PartsNamed names [] = Unit {0}
PartsNamed names (p ∷ ps) = ItemsNamed names p.items × PartsNamed names ps

module _ (m : Module) (names : List NamedHelper) (rooms : HasRooms m names) where
  known_acts : (acts : List Act) (rest : Items) → ItemsNamed names rest → ItemsNamed names (acts_then acts rest)
  known_acts [] rest k = k
  known_acts (a ∷ acts) rest k = (no_helper, known_acts acts rest k)

  known_exit : (cs : List Cond) (acts : List Act) (rest : Items) → ItemsNamed names rest → ItemsNamed names (exit_then cs acts rest)
  known_exit cs [] rest k = (no_helper, k)
  known_exit cs (a ∷ acts) rest k = (no_helper, known_exit cs acts rest k)

  num_known : (op : NumOp) (a b r : ℕ) → ItemsNamed names (num_items op a b r)
  num_known op a b r = named_either names (arithmetic.is_own (operator_of op)) (arithmetic.op_items op a b r) (bits.op_items op a b r) (i32_helpers.operation_named names rooms.words op a b r) (bit_helpers.operation_named names rooms.bits op a b r)

  short_known : (op : NumOp) (h : ℕ) → ItemsNamed names (short_below op h)
  short_known op h = named_either names (has_one_operand op) (num_items op (h - 1) (h - 1) (h - 1)) (num_items op (h - 2) (h - 1) (h - 2)) (num_known op (h - 1) (h - 1) (h - 1)) (num_known op (h - 2) (h - 1) (h - 2))

  long_known : (op : NumOp) (a : ℕ) → ItemsNamed names (long_items op a)
  long_known op a = named_either names (pairs.is_own (operator_of op)) (pairs.op_items op a) (long_bits.op_items op a) (pair_helpers.operation_named names op a) (long_helpers.operation_named names rooms.bits rooms.long_bits op a)

  below_known : (op : NumOp) (h : ℕ) → ItemsNamed names (num_below op h)
  below_known op h = named_either names (is_of_i32 op) (short_below op h) (long_items op (h - widths (num_type op).takes)) (short_known op h) (long_known op (h - widths (num_type op).takes))

  by_known : (lower upper : Option ℕ) (op : NumOp) (h : ℕ) → ItemsNamed names (num_by lower upper op h)
  by_known lower upper op h = go (chosen_items op lower upper (h - 2) (h - 1) (h - 2)) refl
    where
      go : (o : Option Items) → chosen_items op lower upper (h - 2) (h - 1) (h - 2) ≡ o → ItemsNamed names (unwrap_or o (num_below op h))
      go None e = below_known op h
      go (Some xs) e = chosen_named names op lower upper (h - 2) (h - 1) (h - 2) xs e

  -- ---- division of i64

  divided_known : (op : BinaryOp) (h func : ℕ) (o : Option ℕ) → ItemsNamed names (divided_items op h func o)
  divided_known op h func o =
      let last : List Step = run_act (set_site next_site (id_tree (fetch_from func o))) ∷ (none_left_step (restore_by func o) ∷ []) in
      named_both names (begin_items op (h - 4)) (steps_items last) (begin_named names rooms.divisions op (h - 4)) (named_steps names last)

  turning_known : (n index : ℕ) → ItemsNamed names (turning_items n index)
  turning_known n index =
      let last : List Step = none_left_step (answering_piece n index) ∷ [] in
      named_both names turns_items (steps_items last) (turns_named names rooms.divisions) (named_steps names last)

  -- ---- places

  module _ (func results : ℕ) (locals : List ValType) (all : List Piece) where
    leads_known : (o : Option ℕ) (rest : Items) → ItemsNamed names rest → ItemsNamed names (leads_by m func results locals all o rest)
    leads_known None rest k = k
    leads_known (Some j) rest k = known_acts (goto_acts m func results locals all j) no_more tt

    table_known : (v : Visit) (ts : List ValType) (i k : ℕ) (ls : List ℕ) (last : ℕ) → ItemsNamed names (table_items m func results locals all v ts i k ls last)
    table_known v ts i k [] last = known_acts (branch_acts m func results locals all v ts last) no_more tt
    table_known v ts i k (l ∷ ls) last = known_exit (is_index i k) (branch_acts m func results locals all v ts l) (table_items m func results locals all v ts i (suc k) ls last) (table_known v ts i (suc k) ls last)

    ended : ItemsNamed names (first (step_item end_step) no_more)
    ended = (no_helper, tt)

    carry_known : (v : Visit) (ts : List ValType) (i : ℕ) (ls : List ℕ) (last n : ℕ) → ItemsNamed names (carry_items m func results locals all v ts i ls last n)
    carry_known v ts i ls last n =
        let end : Items = first (step_item end_step) no_more in
        let numbers : List ℤ = map (label_number m func results locals all v ts) ls in
        let placers : List ℤ = map (label_placer m func results locals all n v) ls ++ label_placer m func results locals all n v last ∷ [] in
        let handed : Items = acts_then (hand_acts n (i - n) 0 ++ name_acts key_next (shared_piece 0)) end in
        named_both names (look_items numbers (label_number m func results locals all v ts last)) (acts_then (name_acts key_follows (body_piece func 0)) (join (find_items placers) handed))
        (look_named names rooms.looks numbers (label_number m func results locals all v ts last))
        (known_acts (name_acts key_follows (body_piece func 0)) (join (find_items placers) handed)
        (named_both names (find_items placers) handed (find_named names rooms.looks placers) (known_acts (hand_acts n (i - n) 0 ++ name_acts key_next (shared_piece 0)) end ended)))

    looked_known : (v : Visit) (ts : List ValType) (i : ℕ) (ls : List ℕ) (last n : ℕ) → ItemsNamed names (looked_by m func results locals all v ts i ls last n)
    looked_known v ts i ls last zero =
        let numbers : List ℤ = map (label_number m func results locals all v ts) ls in
        named_both names (look_items numbers (label_number m func results locals all v ts last)) (acts_then (name_acts key_next (body_piece func 0)) (first (step_item end_step) no_more))
        (look_named names rooms.looks numbers (label_number m func results locals all v ts last)) (known_acts (name_acts key_next (body_piece func 0)) (first (step_item end_step) no_more) ended)
    looked_known v ts i ls last (suc n) = carry_known v ts i ls last (suc n)

    choice_known : (v : Visit) (ts : List ValType) (i : ℕ) (ls : List ℕ) (last : ℕ) → ItemsNamed names (choice_items m func results locals all v ts i ls last)
    choice_known v ts i ls last =
        named_either names (nat_le (length ls) most_tested) (join (steps_items (fetch i (codes "#a"))) (table_items m func results locals all v ts i 0 ls last)) (looked_items m func results locals all v ts i ls last)
        (named_both names (steps_items (fetch i (codes "#a"))) (table_items m func results locals all v ts i 0 ls last) (named_steps names (fetch i (codes "#a"))) (table_known v ts i 0 ls last))
        (no_helper, looked_known v ts i ls last (widths (take (label_count results v last) ts)))

    call_known : (v : Visit) (f : ℕ) (g : Func) (o : Option FuncType) → ItemsNamed names (call_items m func results locals all v f g o)
    call_known v f g None = tt
    call_known v f g (Some t) =
        named_both names (steps_items depth_steps) (acts_then (call_acts m func results locals all v f (widths t.params) (widths (t.params ++ run_types g.locals)) (frame_size m f)) no_more) (named_steps names depth_steps)
        (known_acts (call_acts m func results locals all v f (widths t.params) (widths (t.params ++ run_types g.locals)) (frame_size m f)) no_more tt)

    indirect_known : (v : Visit) (n : ℕ) (o : Option FuncType) → slice_get m.types n ≡ o → ItemsNamed names (indirect_items m func results locals all v n o)
    indirect_known v n None e = tt
    indirect_known v n (Some t) e =
        let acts : List Act = indirect_acts m func results locals all v (widths t.params) in
        named_both names (target_items m n (top_place locals v - 1)) (join (steps_items depth_steps) (acts_then acts no_more)) (target_named m rooms.few names rooms.types n (top_place locals v - 1) (slice_get_within m.types n t e))
        (named_both names (steps_items depth_steps) (acts_then acts no_more) (named_steps names depth_steps) (known_acts acts no_more tt))

    function_known : (v : Visit) (f : ℕ) (o : Option Func) → ItemsNamed names (function_items m func results locals all v f o)
    function_known v f None = tt
    function_known v f (Some g) = call_known v f g (function_type m g)

    turn_known : (v : Visit) (round : Items) (n : ℕ) → ItemsNamed names round → ItemsNamed names (turn_items m func results locals all v round n)
    turn_known v round zero k = known_acts (cut_acts m func results locals all v.path) no_more tt
    turn_known v round (suc n) k =
        let later : Items = join round (turn_items m func results locals all v round n) in
        named_both names (steps_items (fetch (top_place locals v - 1) (codes "#a"))) (exit_then (is_zero (top_place locals v - 1)) (cut_acts m func results locals all (path_behind v.path)) later) (named_steps names (fetch (top_place locals v - 1) (codes "#a")))
        (known_exit (is_zero (top_place locals v - 1)) (cut_acts m func results locals all (path_behind v.path)) later (named_both names round (turn_items m func results locals all v round n) k (turn_known v round n k)))

    on_known : (path : List ℕ) (xs rest : Items) → ItemsNamed names xs → ItemsNamed names rest → ItemsNamed names (join xs (leads_to m func results locals all path rest))
    on_known path xs rest a b = named_both names xs _ a (leads_known (index_of all path) rest b)

    set_known : (v : Visit) (x : ℕ) (rest : Items) → ItemsNamed names rest → ItemsNamed names (onward m func results locals all v (acts_then (set_acts m func results locals all x (places_of (slice_get locals x)) (top_place locals v)) no_more) rest)
    set_known v x rest k =
        let acts : List Act = set_acts m func results locals all x (places_of (slice_get locals x)) (top_place locals v) in
        on_known (path_behind v.path) (acts_then acts no_more) rest (known_acts acts no_more tt) k

    number_known : (ks : Knowns) (v : Visit) (op : NumOp) (o : Option BinaryOp) (rest : Items) → ItemsNamed names rest → ItemsNamed names (number_items m func results locals all ks v op o rest)
    number_known ks v op None rest k = on_known (path_behind v.path) (num_by (known_next ks) (known_last ks) op (top_place locals v)) rest (by_known (known_next ks) (known_last ks) op (top_place locals v)) k
    number_known ks v op (Some d) rest k = divided_known d (top_place locals v) func (index_of all (path_behind v.path))

    op_known : (ks : Knowns) (v : Visit) (i : Op) (rest : Items) → ItemsNamed names rest → ItemsNamed names (op_items m func results locals all ks v i rest)
    op_known ks v nop rest k = on_known (path_behind v.path) no_more rest tt k
    op_known ks v drop_one rest k = on_known (path_behind v.path) no_more rest tt k
    op_known ks v (const z) rest k = on_known (path_behind v.path) (acts_then (constant_acts z (top_place locals v)) no_more) rest (known_acts (constant_acts z (top_place locals v)) no_more tt) k
    op_known ks v (local_get x) rest k =
        let acts : List Act = get_acts m func results locals all x (places_of (slice_get locals x)) (top_place locals v) in
        on_known (path_behind v.path) (acts_then acts no_more) rest (known_acts acts no_more tt) k
    op_known ks v (local_set x) rest k = set_known v x rest k
    op_known ks v (local_tee x) rest k = set_known v x rest k
    op_known ks v (global_get x) rest k =
        let acts : List Act = global_get_acts x 0 (places_of (type_of_global m x)) (top_place locals v) in
        on_known (path_behind v.path) (acts_then acts no_more) rest (known_acts acts no_more tt) k
    op_known ks v (global_set x) rest k =
        let n : ℕ = places_of (type_of_global m x) in
        let acts : List Act = global_set_acts x 0 n (top_place locals v - n) in
        on_known (path_behind v.path) (acts_then acts no_more) rest (known_acts acts no_more tt) k
    op_known ks v (load op align offset) rest k =
        let a : ℕ = top_place locals v - 1 in
        on_known (path_behind v.path) (loads_by (least_memory m) (known_last ks) (has_page m) op a offset) rest (loads_named names rooms.memory (least_memory m) (known_last ks) (has_page m) op a offset) k
    op_known ks v (store op align offset) rest k =
        let a : ℕ = top_place locals v - suc (width (store_type op)) in
        on_known (path_behind v.path) (stores_by (least_memory m) (known_next ks) (has_page m) op a offset) rest (stores_named names rooms.memory (least_memory m) (known_next ks) (has_page m) op a offset) k
    op_known ks v memory_size rest k = on_known (path_behind v.path) (size_items (top_place locals v)) rest (no_helper, (no_helper, tt)) k
    op_known ks v memory_grow rest k =
        let acts : List Act = append_next_acts func (index_of all (path_behind v.path)) in
        named_both names (grow_items (most_pages m) (top_place locals v - 1)) (acts_then acts no_more) (named_steps names (grow_steps (most_pages m) (top_place locals v - 1))) (known_acts acts no_more tt)
    op_known ks v memory_fill rest k =
        let turn : Items = fill_byte_items (has_page m) (top_place locals v - 3) (top_place locals v - 2) (top_place locals v - 1) in
        named_both names (reach_items (top_place locals v - 3) (top_place locals v - 1)) (turn_items m func results locals all v turn 3) (named_steps names (reach_steps (top_place locals v - 3) (top_place locals v - 1)))
        (turn_known v turn 3 (fill_named names rooms.memory (has_page m) (top_place locals v - 3) (top_place locals v - 2) (top_place locals v - 1)))
    op_known ks v memory_copy rest k =
        let turn : Items = copy_byte_items (has_page m) (top_place locals v - 3) (top_place locals v - 2) (top_place locals v - 1) in
        let later : Items = join (reach_items (top_place locals v - 2) (top_place locals v - 1)) (turn_items m func results locals all v turn 1) in
        named_both names (reach_items (top_place locals v - 3) (top_place locals v - 1)) later (named_steps names (reach_steps (top_place locals v - 3) (top_place locals v - 1)))
        (named_both names (reach_items (top_place locals v - 2) (top_place locals v - 1)) (turn_items m func results locals all v turn 1) (named_steps names (reach_steps (top_place locals v - 2) (top_place locals v - 1)))
        (turn_known v turn 1 (copy_named names rooms.memory (has_page m) (top_place locals v - 3) (top_place locals v - 2) (top_place locals v - 1))))
    op_known ks v select rest k =
        let chosen : List Step = select_steps (places_of (slice_get (reverse v.kinds) 1)) (top_place locals v) in
        on_known (path_behind v.path) (steps_items chosen) rest (named_steps names chosen) k
    op_known ks v (num op) rest k = number_known ks v op (division_of (operator_of op)) rest k
    op_known ks v (block ty body) rest k = leads_known (index_of all (v.path ++ 0 ∷ [])) rest k
    op_known ks v (loop ty body) rest k = leads_known (index_of all (v.path ++ 0 ∷ [])) rest k
    op_known ks v (if_else ty one other) rest k =
        named_both names (steps_items (fetch (top_place locals v - 1) (codes "#a"))) (exit_then (is_zero (top_place locals v - 1)) (cut_acts m func results locals all (v.path ++ 1 ∷ 0 ∷ [])) (leads_to m func results locals all (v.path ++ 0 ∷ 0 ∷ []) rest)) (named_steps names (fetch (top_place locals v - 1) (codes "#a")))
        (known_exit (is_zero (top_place locals v - 1)) (cut_acts m func results locals all (v.path ++ 1 ∷ 0 ∷ [])) (leads_to m func results locals all (v.path ++ 0 ∷ 0 ∷ []) rest) (leads_known (index_of all (v.path ++ 0 ∷ 0 ∷ [])) rest k))
    op_known ks v (br l) rest k = known_acts (branch_acts m func results locals all v (reverse v.kinds) l) no_more tt
    op_known ks v (br_if l) rest k =
        named_both names (steps_items (fetch (top_place locals v - 1) (codes "#a"))) (exit_then (not_zero (top_place locals v - 1)) (branch_acts m func results locals all v (drop 1 (reverse v.kinds)) l) (leads_to m func results locals all (path_behind v.path) rest)) (named_steps names (fetch (top_place locals v - 1) (codes "#a")))
        (known_exit (not_zero (top_place locals v - 1)) (branch_acts m func results locals all v (drop 1 (reverse v.kinds)) l) (leads_to m func results locals all (path_behind v.path) rest) (leads_known (index_of all (path_behind v.path)) rest k))
    op_known ks v (br_table ls last) rest k = choice_known v (drop 1 (reverse v.kinds)) (top_place locals v - 1) ls last
    op_known ks v return rest k = known_acts (return_acts (widths (take results (reverse v.kinds))) (top_place locals v)) no_more tt
    op_known ks v (call f) rest k = function_known v f (slice_get m.funcs f)
    op_known ks v (call_indirect n) rest k = indirect_known v n (slice_get m.types n) refl
    op_known ks v unreachable rest k = known_acts (set_spot (scratch score_trap) (pos 1) ∷ []) no_more tt
    op_known ks v i rest k = tt

    leave_known : (v : Visit) (o : Option Around) (rest : Items) → ItemsNamed names rest → ItemsNamed names (leave_by m func results locals all v o rest)
    leave_known v None rest k = known_acts (return_acts (widths (take results (reverse v.kinds))) (top_place locals v)) no_more tt
    leave_known v (Some x) rest k = leads_known (index_of all (path_behind (block_path v.path x))) rest k

    code_known : (ks : Knowns) (v : Visit) (c : Code) (rest : Items) → ItemsNamed names rest → ItemsNamed names (code_items m func results locals all ks v c rest)
    code_known ks v nil rest k = leave_known v (labelled v.blocks 0) rest k
    code_known ks v (cons i is) rest k = op_known ks v i rest k

    -- a comparison that is tested, and a place that leaves one to the next
    test_known : (q : Operator) (v : Visit) (c : Code) (rest : Items) → ItemsNamed names rest → ItemsNamed names (test_items m func results locals all q v c rest)
    test_known q v (cons (if_else ty one other) is) rest k =
        known_exit (is_not_so q (top_place locals v - 1)) (cut_acts m func results locals all (v.path ++ 1 ∷ 0 ∷ [])) (leads_to m func results locals all (v.path ++ 0 ∷ 0 ∷ []) rest) (leads_known (index_of all (v.path ++ 0 ∷ 0 ∷ [])) rest k)
    test_known q v (cons (br_if l) is) rest k =
        known_exit (is_so q (top_place locals v - 1)) (branch_acts m func results locals all v (drop 1 (reverse v.kinds)) l) (leads_to m func results locals all (path_behind v.path) rest) (leads_known (index_of all (path_behind v.path)) rest k)
    test_known q v _ rest k = tt

    place_known : (ks : Knowns) (o compared : Option Operator) (v : Visit) (rest : Items) → ItemsNamed names rest → ItemsNamed names (place_items m func results locals all ks o compared v rest)
    place_known ks (Some q) compared v rest k = test_known q v v.rest rest k
    place_known ks None (Some q) v rest k =
        let needs : List Step = condition_steps q (first_operand q (top_place locals v)) in
        named_both names (steps_items needs) rest (named_steps names needs) k
    place_known ks None None v rest k = code_known ks v v.rest rest k

    places_known : (ks : Knowns) (o : Option Operator) (vs : List Visit) → ItemsNamed names (places_items m func results locals all ks o vs)
    places_known ks o [] = tt
    places_known ks o (v ∷ vs) =
        let next : Knowns = knowns_at ks v.rest in
        let here : Option Operator = compared m func results locals all v in
        place_known ks o here v (places_items m func results locals all next (left_to_next o here) vs) (places_known next (left_to_next o here) vs)

  -- ---- pieces

  charge_known : (n : ℕ) (xs : Items) → ItemsNamed names xs → ItemsNamed names (charge n xs)
  charge_known n no_more k = (no_helper, tt)
  charge_known n (first (step_item (stop_when cs)) xs) k = (no_helper, (no_helper, charge_known 0 xs k.1))
  charge_known n (first (step_item (run_act a)) xs) k = (k.0, charge_known _ xs k.1)
  charge_known n (first (step_item (when cs a)) xs) k = (k.0, charge_known _ xs k.1)
  charge_known n (first (call_item f ys) xs) k = (k.0, charge_known _ xs k.1)
  charge_known n (first (call_when cs f ys) xs) k = (k.0, charge_known _ xs k.1)
  charge_known n (first (fill_item f p ys) xs) k = (k.0, charge_known _ xs k.1)
  charge_known n (first (fill_when cs f p ys) xs) k = (k.0, charge_known _ xs k.1)

  -- a call of a function that has the lines of these items
  called_known : (f : Text) (xs : Items) → ((ns : Text) → lines_named names ns f ≡ Some (items_texts ns xs)) → ItemsNamed names xs → ItemsNamed names (charge round_weight (first (call_item f xs) no_more))
  called_known f xs e k = ((λ ns. (e ns, helpers_named names ns xs k)), (no_helper, tt))

  routine_known : (j : ℕ) (xs : Items) → j ≤ 30000 → routine_items m j ≡ xs → ItemsNamed names xs → ItemsNamed names (charge round_weight (first (call_item (codes "s" ++ decimal j) xs) no_more))
  routine_known j xs h e k =
      called_known (codes "s" ++ decimal j) xs (λ ns. rooms.shared ns (codes "s" ++ decimal j) (items_texts ns xs) (shared_found m ns j h ∙ ap (λ ys. Some (items_texts ns ys)) e)) k

  items_in_known : (n : ℕ) (all : List Piece) (o : Option Body) (p : Piece) → ItemsNamed names (items_in m n all o p)
  items_in_known n all None p = tt
  items_in_known n all (Some b) p = places_known n (body_results b) b.scope.locals all nothing_known None (places_in p)

  lean_cut_known : (n : ℕ) (p : Piece) → ItemsNamed names (lean_cut m n p)
  lean_cut_known n p =
      lean_keeps (ItemsNamed names) (λ func heights own xs k. lean_named names func heights own xs k) n (function_pieces m n) (function_body m n) (Some p) (plain_items m n p)
      (items_in_known n (function_pieces m n) (function_body m n) p)

  run_on_known : (n : ℕ) (xs : Items) → ItemsNamed names xs → ItemsNamed names (run_on m n xs)
  run_on_known n =
      run_on_keeps m n (ItemsNamed names) (λ func heights own xs k. lean_named names func heights own xs k) (named_both names) (no_helper, tt) (λ q h. lean_cut_known n q)

  cut_known : (n : ℕ) (p : Piece) → ItemsNamed names (cut_items m n p)
  cut_known n p = run_on_known n (lean_cut m n p) (lean_cut_known n p)

  restore_in_known : (n index : ℕ) (v : Visit) (t : FuncType) (o : Option Body) → ItemsNamed names (restore_in m n index v t o)
  restore_in_known n index v t None = tt
  restore_in_known n index v t (Some b) = known_acts (restore_acts (top_place b.scope.locals v - widths t.results) (widths t.results) (frame_size m n) (body_piece n index)) no_more tt

  fetch_in_known : (n index k : ℕ) (v : Visit) (t : FuncType) (o : Option Body) → ItemsNamed names (fetch_in m n index k v t o)
  fetch_in_known n index k v t None = tt
  fetch_in_known n index k v t (Some b) = known_acts (fetching_acts (top_place b.scope.locals v - widths t.results) (widths t.params) n index k) no_more tt

  parts_both : (ps qs : List Part) → PartsNamed names ps → PartsNamed names qs → PartsNamed names (ps ++ qs)
  parts_both [] qs a b = b
  parts_both (p ∷ ps) qs a b = (a.0, parts_both ps qs a.1 b)

  fetches_known : (n index : ℕ) (p : Piece) (t : FuncType) (k : ℕ) → PartsNamed names (fetch_parts m n index p t k)
  fetches_known n index p t zero = tt
  fetches_known n index p t (suc k) =
      parts_both (fetch_parts m n index p t k) (part (fetch_piece n index k) (fetch_items m n index k p t) ∷ []) (fetches_known n index p t k)
      (charge_known round_weight (fetch_items m n index k p t) (fetch_in_known n index k p.cut t (function_body m n)), tt)

  answer_in_known : (n index : ℕ) (v : Visit) (op : BinaryOp) (o : Option Body) → ItemsNamed names (answer_in n index v op o)
  answer_in_known n index v op None = tt
  answer_in_known n index v op (Some b) =
      let last : Items = acts_then (next_acts (body_piece n index)) no_more in
      let a : ℕ = top_place b.scope.locals v - 2 in
      named_both names (end_items op a) last (end_named names rooms.divisions op a) (known_acts (next_acts (body_piece n index)) no_more tt)

  divisions_known : (n index : ℕ) (p : Piece) (o : Option BinaryOp) → PartsNamed names (division_parts m n index p o)
  divisions_known n index p None = tt
  divisions_known n index p (Some op) = (
    charge_known round_weight (answer_items m n index p op) (run_on_known n (answer_in n index p.cut op (function_body m n)) (answer_in_known n index p.cut op (function_body m n))),
    (charge_known round_weight (turning_items n index) (turning_known n index), tt),
  )

  restores_known : (n index : ℕ) (p : Piece) (o : Option FuncType) → PartsNamed names (restore_parts m n index p o)
  restores_known n index p None = divisions_known n index p (division_before p.cut)
  restores_known n index p (Some t) = (charge_known round_weight (restore_items m n index p t) (run_on_known n (restore_in m n index p.cut t (function_body m n)) (restore_in_known n index p.cut t (function_body m n))), fetches_known n index p t (fetches (widths t.params)))

  cuts_known : (n index : ℕ) (ps : List Piece) → PartsNamed names (cut_parts m n index ps)
  cuts_known n index [] = tt
  cuts_known n index (p ∷ ps) =
      parts_both (restore_parts m n index p (call_before m p.cut)) (part (body_piece n index) (cut_items m n p) ∷ cut_parts m n (suc index) ps) (restores_known n index p (call_before m p.cut))
      (charge_known round_weight (cut_items m n p) (cut_known n p), cuts_known n (suc index) ps)

  module _ (program : IsProgram m) (low : Low m) where
    type_known : (n : ℕ) (f : Func) (o : Option FuncType) → slice_get m.funcs n ≡ Some f → function_type m f ≡ o → PartsNamed names (parts_of_type m n f o)
    type_known n f None at e = tt
    type_known n f (Some t) at e =
        let all : length m.funcs ≤ 8192 = functions_are_few m program in
        let within : n < length m.funcs = slice_get_within m.funcs n f at in
        let is : IsFunction m n f t = record { there = at; has_type = e } in
        let acts : List Act = opened_acts (widths t.params) (widths (t.params ++ run_types f.locals)) (frame_size m n) (body_piece n 1) in (
          charge_known round_weight (function_entry m n f t) (known_acts (entry_acts n (widths t.params) (widths (t.params ++ run_types f.locals)) (widths t.results) (frame_size m n)) no_more tt),
          (
            routine_known (first_opening + n) (function_opening m n f t) (omega arith) (opening_routine m n f t (omega arith) is) (run_on_known n (opening_items n t (run_types f.locals) (frame_size m n)) (known_acts acts no_more tt)),
            cuts_known n 1 (function_pieces m n),
          ),
        )

    functions_known : (n : ℕ) (fs : List Func) → FollowIn m.funcs n fs → PartsNamed names (parts_by m n fs)
    functions_known n [] h = tt
    functions_known n (f ∷ fs) h =
        parts_both (function_parts m n f) (parts_by m (suc n) fs) (type_known n f (function_type m f) (first_in m.funcs n f fs h) refl) (functions_known (suc n) fs (others_in m.funcs n f fs h))

    takers_known : (k : ℕ) → k ≤ 11 → PartsNamed names (taker_parts k)
    takers_known zero h = tt
    takers_known (suc k) h =
        parts_both (taker_parts k) (part (taker k) (taker_items k) ∷ []) (takers_known k (omega arith))
        (routine_known (first_taker + k) (taker_items k) (omega arith) (taker_routine m k (omega arith)) (known_acts (taker_acts k) no_more tt), tt)

    dones_known : PartsNamed names done_parts
    dones_known = (each 0 (omega arith), (each 1 (omega arith), (each 2 (omega arith), tt)))
      where
        each : (w : ℕ) → w ≤ 2 → ItemsNamed names (part (done_piece w) (done_items w)).items
        each w h = routine_known (first_end + w) (done_items w) (omega arith) (done_routine m w h) (known_acts (ending_acts w) no_more tt)

    placers_known : (ints k : ℕ) → 1 ≤ ints → ints ≤ 2 → k ≤ 4096 → PartsNamed names (placer_parts ints k)
    placers_known ints zero some few h = tt
    placers_known ints (suc k) some few h =
        let acts : List Act = take_acts ints k 0 ++ copy_site (at_key in_rest key_next) (at_key in_rest key_follows) ∷ [] in
        let least : placers_from ints ≤ 25000 = placers_low ints in
        parts_both (placer_parts ints k) (part (placer ints k) (placer_items ints k) ∷ []) (placers_known ints k some few (omega arith))
        (routine_known (placers_from ints + k) (placer_items ints k) (omega arith) (placer_routine m ints k some few (omega arith)) (known_acts acts no_more tt), tt)

    growers_known : (o : Option Limits) → PartsNamed names (grower_parts o)
    growers_known None = tt
    growers_known (Some l) = (routine_known grower_index grower_items (omega arith) (grower_routine m) (named_steps names grower_steps), tt)

    shared_known : PartsNamed names (shared_parts m)
    shared_known =
        let most : ℕ = most_placers_of m 0 m.funcs in
        let few : most_placers_of m 0 m.funcs ≤ 4096 = placers_are_few m program low in
        let growers : List Part = grower_parts (slice_get m.mems 0) in
        let last : List Part = placer_parts 2 most ++ growers in
        parts_both (taker_parts (most_takers_of m m.funcs)) (done_parts ++ (placer_parts 1 most ++ last)) (takers_known (most_takers_of m m.funcs) (takers_are_few m program))
        (parts_both done_parts (placer_parts 1 most ++ last) dones_known
        (parts_both (placer_parts 1 most) last (placers_known 1 most (omega arith) (omega arith) few) (parts_both (placer_parts 2 most) growers (placers_known 2 most (omega arith) (omega arith) few) (growers_known (slice_get m.mems 0)))))

    inits_known : (k : ℕ) → k ≤ suc (later_pieces m) → PartsNamed names (init_parts m k)
    inits_known zero h = tt
    inits_known (suc k) h =
        let few : later_pieces m ≤ 30 + PAGES = later_pieces_few m program in
        parts_both (init_parts m k) (part (init_piece k) (init_items m k) ∷ []) (inits_known k (omega arith))
        (called_known (codes "i" ++ decimal k) (init_items m k) (λ ns. rooms.inits ns (codes "i" ++ decimal k) (items_texts ns (init_items m k)) (init_found m ns k (omega arith) (omega arith))) (known_acts (init_acts m k) no_more tt), tt)

    -- the helpers of a pack's pieces have names of the list
    pub pack_known : PartsNamed names (pack_parts m)
    pack_known =
        parts_both (init_parts m (suc (later_pieces m))) (module_parts m) (inits_known (suc (later_pieces m)) (omega arith))
        (parts_both (parts_by m 0 m.funcs) (shared_parts m) (functions_known 0 m.funcs (all_in m.funcs)) shared_known)
