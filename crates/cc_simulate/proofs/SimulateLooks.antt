-- A br_table whose label is looked up does what the machine does: the label's cut is next, or the piece that puts the value
-- to its place and then leads there, or the call ends.
use Rattle.std.proofs.Common.{◌≡◌, ℕ, zero, suc, ◌+◌, ◌*◌, ◌-◌, ◌≤◌, ◌<◌, inl, inr, List, [], ◌∷◌, ◌++◌, length, map, take, drop, reverse, Bool, true, false, Option, Some, None, refl, sym, ap, ◌∙◌, subst, arith, ℤ, pos, negsuc, ◌||◌, ◌&&◌, if◌then◌else◌, codes, take-append-drop}
use Rattle.std.specs.Prelude.{slice_get, nat_lt}
use Rattle.std.specs.Int.{w32, cast_unsigned}
use Rattle.std.specs.List.{Contains}
use Rattle.std.proofs.lemmas.Bool.{lt-ltb}
use Rattle.std.proofs.lemmas.List.{length-append, length-map, take-append-le}
use Rattle.std.proofs.lemmas.List.Elements.{All-head}
use Rattle.mc_nbt.specs.Word.{is_int}
use Rattle.mc_nbt.specs.declared.value.Value.{Value}
use Rattle.mc_nbt.specs.declared.value.Value.TheVariants as values
use Rattle.wm_ast.specs.declared.module.ValType.{ValType}
use Rattle.wm_ast.specs.declared.module.Module.{Module}
use Rattle.wm_ast.specs.Code.{Op, block, if_else, br_table, Code, cons}
use Rattle.wm_ast.specs.Step.{or_last, chosen, top}
use Rattle.wm_ast.specs.Types.{const_type, results_of}
use Rattle.wm_ast.specs.View.{code_of}
use Rattle.wm_valid.specs.Valid.{Valid}
use Rattle.wm_flat.specs.Flat.{Activation, running, goes, handed, jump, move}
use Rattle.wm_flat.specs.FlatTyping.{types_of}
use Rattle.wm_flat.specs.Operands.{under, operands}
use Rattle.wm_flat.specs.Runs.{Leads}
use Rattle.wm_flat.proofs.CalleeLaws.{arity_is}
use Rattle.wm_flat.proofs.Consequences.{leads_on}
use Rattle.wm_flat.proofs.Operands.{top_taken}
use Rattle.wm_place.specs.Kinds.{first_of}
use Rattle.wm_place.specs.Spot.{label_of, arity_of, labels_at}
use Rattle.wm_place.specs.Visit.{Around, Visit}
use Rattle.wm_place.proofs.KindLemmas.{scope_in, body_in}
use Rattle.cc_line.specs.Sight.{in_io, in_rest}
use Rattle.cc_line.specs.Key.{key_state, key_end, key_below, key_next, key_follows, key_choice, score_trap, body_piece, shared_piece, id_tree}
use Rattle.cc_line.specs.Routine.{value_ints}
use Rattle.cc_line.specs.Running.{Kept}
use Rattle.cc_line.specs.State.{State, place_at, with_score, selected}
use Rattle.cc_line.specs.Step.{Act, run_act, load_place, copy_site, after_act}
use Rattle.cc_line.specs.Item.{step_item, Items, no_more, first, join}
use Rattle.cc_line.proofs.CoreLemmas.{work_apart}
use Rattle.cc_call.specs.Frames.{next_site, last_at, hand_acts}
use Rattle.cc_call.specs.Law.{IsBelow, AreHanded, Handed}
use Rattle.cc_call.proofs.ActLemmas.{acts_append, ready_append}
use Rattle.cc_cut.specs.Cost.{most_tested}
use Rattle.cc_cut.specs.Cuts.{function_cuts}
use Rattle.cc_cut.specs.Law.{rank, width, widths}
use Rattle.cc_cut.specs.Way.{Way, block_path, landing, labelled}
use Rattle.cc_cut.proofs.CutLemmas.{all_visits}
use Rattle.cc_cut.proofs.ListLemmas.{In, in_left, in_right, among, contains, in_get, some_of}
use Rattle.cc_cut.proofs.VisitLemmas.{Visited, visited}
use Rattle.cc_move.specs.Calls.{Results}
use Rattle.cc_move.specs.Standing.{StandsAt, Comes, IsSameCall}
use Rattle.cc_move.specs.Law.{at, lowest_values, Branched, to_block, to_end, by_br_table}
use Rattle.cc_move.proofs.BranchLemmas.{Labelled, at_block, Outermost, at_body}
use Rattle.cc_move.proofs.LevelLemmas.{first_label, body_level, typed_here}
use Rattle.cc_table.specs.Look.{element_or, look_items, find_items}
use Rattle.cc_table.specs.Law.{Finds, Looks, NumbersAreFound}
use Rattle.cc_pieces.specs.Fetching.{most_fetches}
use Rattle.cc_pieces.specs.Placing.{placers_from, placer}
use Rattle.cc_body.specs.Emit.{name_acts, cut_number, end_step, number_by, label_number, placer_by, label_placer, jump_items, carry_items, looked_by, looked_items}
use Rattle.cc_body.specs.Layout.{place_above, top_place, frame_size}
use Rattle.cc_body.specs.Placers.{count_by, label_count, code_places, some_place, body_placers, function_placers}
use Rattle.cc_body.proofs.Bounds.{spot_has}
use Rattle.cc_body.proofs.TableLabels.{FewLabels, labels_of, labels_behind, labels_inner, labels_few}
use Rattle.cc_simulate.specs.Callers.{Waiting}
use Rattle.cc_simulate.specs.Frame.{local_ints, stack_ints, Frame}
use Rattle.cc_simulate.specs.Stands.{RunsOver, ChangesFrameAlone, Placing}
use Rattle.cc_simulate.specs.Stands as stands
use Rattle.cc_simulate.specs.Law.{Enters}
use Rattle.cc_simulate.specs.Uses.{uses_bytes}
use Rattle.cc_simulate.proofs.Acts.{acts_then, keeps_both, keeps_calls, join_passes, acts_enter, after_acts, ActsReady, copy_leaves}
use Rattle.cc_simulate.proofs.Frames.{value_length, top_of, held_length, above_is, one_below, frame_same, frame_drop, frame_pop, frame_last}
use Rattle.cc_simulate.proofs.HandedLemmas.{still_handed, Handing, value_handed}
use Rattle.cc_simulate.proofs.Finding.{near_calm, finds_pass, chosen_element, Renamed, name_leaves, next_body, follows_body, next_shared, end_passed, end_taken}
use Rattle.cc_simulate.proofs.SimulateReach.{reaches_standing, moved_once, move_is, last_below, handed_reaches, top_enough, one_most, Setting, L, R, size, all, Reach, Seen, seen, Here, at_index, has_scores, results_on}
use Rattle.cc_simulate.proofs.Ways.{each_at, CutAt, cut_at, HasIndex, branch_index}
use Rattle.cc_simulate.proofs.Lasting.{lasts_calls}

-- ---- labels

-- the label that is chosen is one of them
pub chosen_among : (ls : List ℕ) (last : ℕ) (z : ℤ) → Contains (ls ++ last ∷ []) (chosen ls last z)
chosen_among ls last z = by_found (slice_get ls (cast_unsigned w32 z)) refl
  where
    by_found : (o : Option ℕ) → slice_get ls (cast_unsigned w32 z) ≡ o → Contains (ls ++ last ∷ []) (or_last last o)
    by_found None e = contains (ls ++ last ∷ []) last (in_right last ls (last ∷ []) (inl refl))
    by_found (Some l) e = contains (ls ++ last ∷ []) l (in_left l ls (last ∷ []) (in_get ls (cast_unsigned w32 z) l e))

arity_few : (op : Op) → arity_of op ≤ 1
arity_few (block ty body) = one_most ty
arity_few (if_else ty one other) = one_most ty
arity_few _ = omega arith

-- a branch takes along what its label says
module _ (m : Module) (valid : Valid m) (a : Activation) (v : Visit) (st : StandsAt m a v) where
  count_is : (l : ℕ) (label : List ValType) → slice_get (labels_at st.spot.levels) l ≡ Some label → label_count a.results v l ≡ length label
  count_is l label here = by_label (labelled v.blocks l) refl
    where
      by_label : (o : Option Around) → labelled v.blocks l ≡ o → count_by a.results o ≡ length label
      by_label None h =
          let gives : Option ValType = first_of st.type.results in
          let k : Outermost m a v st l = at_body m a v st l label h here in
          let own : slice_get (labels_at st.spot.levels) l ≡ Some (results_of gives) = first_label l st.spot.levels (body_level gives (code_of st.func.body)) [] k.spot_drops in
          st.results ∙ (sym (arity_is gives) ∙ ap (λ (ts : List ValType). length ts) (some_of (results_of gives) label (sym own ∙ here)))
      by_label (Some x) h =
          let k : Labelled m a v st l x = at_block m a v st l x h in
          ap (λ (y : Around). arity_of y.op) k.is ∙ ap (λ (ts : List ValType). length ts) (some_of (label_of k.op) label (sym k.label ∙ here))

  -- all labels of a br_table say the same
  counts_same : (ls : List ℕ) (last : ℕ) (is : Code) → a.code ≡ cons (br_table ls last) is → (l : ℕ) → Contains (ls ++ last ∷ []) l → label_count a.results v l ≡ label_count a.results v last
  counts_same ls last is e l h =
      let (takes, gives, below, (label, z, here, each, whole), k, others) = typed_here m valid a v st (cons (br_table ls last) is) e in
      count_is l label (each_at ls last l (labels_at st.spot.levels) label each here (among (ls ++ last ∷ []) l h)) ∙ sym (count_is last label here)

-- ---- where values are put

or_right : (b : Bool) → (b || true) ≡ true
or_right true = refl
or_right false = refl

some_placed : (results : ℕ) (v : Visit) (vs : List Visit) → In v vs → code_places results v v.rest ≡ true → some_place results vs ≡ true
some_placed results v [] h e = absurd h
some_placed results v (x ∷ xs) (inl same) e = ap (λ (y : Visit). code_places results y y.rest || some_place results xs) same ∙ ap (λ b. b || some_place results xs) e
some_placed results v (x ∷ xs) (inr h) e = ap (λ b. code_places results x x.rest || b) (some_placed results v xs h e) ∙ or_right (code_places results x x.rest)

-- ---- values

first_one : (vs : List Value) → 1 ≤ length vs → (y : Value) × (rest : List Value) × (vs ≡ y ∷ rest)
first_one [] l = absurd (omega arith)
first_one (y ∷ rest) l = (y, rest, refl)

-- so many places less than with the value
below_value : (ls os : List Value) (y : Value) → top_of ls (y ∷ os) - length (value_ints y) ≡ top_of ls os
below_value ls os y = let wide : length (value_ints y) ≡ width (const_type y) = value_length y in omega arith

value_wide : (y : Value) → 1 ≤ width (const_type y)
value_wide (values.I32 z) = omega arith
value_wide (values.I64 z) = omega arith

one_wide : (y : Value) (ts : List ValType) → widths (take 1 (const_type y ∷ ts)) ≡ length (value_ints y)
one_wide y ts =
    let wide : length (value_ints y) ≡ width (const_type y) = value_length y in
    let r : width (const_type y) + 0 ≡ length (value_ints y) = omega arith in
    r

-- the lowest of some operands
frame_lowest : (size n : ℕ) (ls os : List Value) (zs : List ℤ) → Frame size ls os zs → Frame size ls (lowest_values n os) zs
frame_lowest size n ls os zs f =
    frame_drop size ls (take (length os - n) os) (drop (length os - n) os) zs (subst (λ (vs : List Value). Frame size ls vs zs) (sym (take-append-drop (length os - n) os)) f)

-- an activation stands before a br_table of many labels, over this index
module _ (found : NumbersAreFound) (c : Setting) (v : Visit) (d : ℕ) (low : d ≤ 16) (a : Activation) (s : State) (h : Here c v a s) (ls : List ℕ) (last : ℕ) (is : Code) (e : a.code ≡ cons (br_table ls last) is)
    (long : most_tested < length ls) (z : ℤ) (others : List Value) (parts : a.values ≡ values.I32 z ∷ others) (range : is_int z ≡ true) where
  abbrev P : State → Type 0
  P = Reach c d a

  abbrev os : List Value
  os = others ++ under a.levels

  abbrev ts : List ValType
  ts = types_of (others ++ under a.levels)

  abbrev l : ℕ
  l = chosen ls last z

  -- the place of the index
  abbrev i : ℕ
  i = top_of a.locals (others ++ under a.levels)

  sees : Seen c v a
  sees = seen c v a h.stands h.func

  whole : operands a ≡ values.I32 z ∷ os
  whole = ap (λ (vs : List Value). vs ++ under a.levels) parts

  kinds : v.kinds ≡ reverse (types_of ((values.I32 z ∷ []) ++ os))
  kinds = sees.kinds ∙ ap (λ (vs : List Value). reverse (types_of vs)) whole

  types : drop 1 (reverse v.kinds) ≡ ts
  types = ap (λ (us : List ValType). drop 1 us) (sees.back ∙ ap types_of whole)

  index_is : top_place (L c) v - 1 ≡ i
  index_is = ap (λ j. j - 1) (sees.top ∙ ap (top_of a.locals) whole) ∙ one_below a.locals os z

  framed : Frame (size c) a.locals (values.I32 z ∷ os) s.places
  framed = subst (λ (vs : List Value). Frame (size c) a.locals vs s.places) whole h.frame

  frame : Frame (size c) a.locals os s.places
  frame = frame_pop (size c) a.locals (values.I32 z) os s.places framed

  few : length ls < 2147483648
  few =
      let x : Visited (scope_in c.m c.n c.f c.t) (body_in c.m c.n c.f c.t) v = visited (scope_in c.m c.n c.f c.t) (body_in c.m c.n c.f c.t) v sees.listed in
      let there : FewLabels x.spot.code = spot_has FewLabels labels_behind labels_inner (first_of c.t.type.results) (code_of c.f.body) (labels_few c.m c.n c.f c.program.profile c.there) x.place x.spot x.there in
      let here : FewLabels (cons (br_table ls last) is) = subst FewLabels (ap (λ (y : Visit). y.rest) x.is ∙ (sees.rest ∙ e)) there in
      let own : length ls ≤ 4096 = All-head (λ n. n ≤ 4096) (length ls) [] (labels_of (br_table ls last) is here).0 in
      omega arith

  -- ---- the move of the machine

  among_them : Contains (ls ++ last ∷ []) l
  among_them = chosen_among ls last z

  moved : move c.m c.st (running c.cs a) ≡ jump c.m c.st c.cs a 2 l others a.levels
  moved = move_is c.m c.st c.cs a (br_table ls last) is (values.I32 z ∷ others) e parts

  branched : Branched c.m c.st c.cs a v 2 l others
  branched = subst (Branched c.m c.st c.cs a v 2 l) (ap (λ (vs : List Value). drop 1 vs) parts) (c.moves.branch c.m c.program.valid c.st c.cs a v 2 h.stands (br_table ls last) is l 1 e (by_br_table ls last l among_them))

  count : (k : ℕ) → label_count (R c) v last ≡ k → label_count (R c) v l ≡ k
  count k n =
      let same : label_count a.results v l ≡ label_count a.results v last = counts_same c.m c.program.valid a v h.stands ls last is e l among_them in
      subst (λ r. label_count r v l ≡ label_count r v last) sees.results same ∙ n

  steps : (b t : Activation) (j : ℕ) → jump c.m c.st c.cs a 2 l others a.levels ≡ goes 2 c.st (running c.cs b) → Leads c.m j (at c.st c.cs b) (at c.st c.cs t) → Leads c.m (2 + j) (at c.st c.cs a) (at c.st c.cs t)
  steps b t j jumps leads = leads_on c.m 2 j (at c.st c.cs a) (at c.st c.cs b) (at c.st c.cs t) (moved_once c.m c.st c.cs 2 a b (moved ∙ jumps)) leads

  -- the cut of a block's label
  abbrev lands : Around → Way
  lands x = landing x.op (block_path v.path x) x.under ts

  index_at : (x : Around) → labelled v.blocks l ≡ Some x → HasIndex c.m c.n (lands x).to
  index_at x lab = branch_index c.m c.n c.f c.t v sees.listed (br_table ls last) is l 1 x ts (sees.rest ∙ e) (by_br_table ls last l among_them) lab

  -- ---- what is looked up

  abbrev number : ℕ → ℤ
  number = label_number c.m c.n (R c) (L c) (all c) v ts

  number_some : (x : Around) (lab : labelled v.blocks l ≡ Some x) → number l ≡ pos (index_at x lab).0
  number_some x lab = ap (number_by c.m c.n (R c) (L c) (all c) v ts) lab ∙ ap cut_number (index_at x lab).1

  number_none : labelled v.blocks l ≡ None → number l ≡ negsuc 0
  number_none lab = ap (number_by c.m c.n (R c) (L c) (all c) v ts) lab

  -- the index is in `#a`
  abbrev indexed : State
  indexed = with_score s (codes "#a") (place_at s i)

  keeps_indexed : ChangesFrameAlone s indexed
  keeps_indexed = record { keys = λ r k q. refl; scores = λ g q w t. ap (λ b. if b then Some (place_at s i) else s.scores g) (work_apart (codes "#a") g refl w) }

  calm_indexed : RunsOver (uses_bytes c.m) c.bs indexed
  calm_indexed = record { trap = h.calm.trap; state = h.calm.state; ending = h.calm.ending; standing = h.calm.standing; below = h.calm.below }

  looks : Looks (map number ls) (number last) z indexed
  looks =
      let same : length (map number ls) ≡ length ls = length-map ls number in
      let few_labels : length ls < 2147483648 = few in
      found (map number ls) (number last) z indexed (omega arith) (ap Some (frame_last (size c) a.locals z os s.places framed).0) range

  -- the number of the cut is in `#c`
  abbrev looked : State
  looked = looks.finds.state

  its_number : looked.scores (codes "#c") ≡ Some (number l)
  its_number = looks.finds.found ∙ ap Some (chosen_element number ls last z)

  calm_looked : RunsOver (uses_bytes c.m) c.bs looked
  calm_looked = near_calm c.bs indexed looked looks.finds.near calm_indexed

  -- what follows the look-up of the cut
  looks_enter : (rest : Items) → Enters rest looked P → Enters (first (step_item (run_act (load_place (codes "#a") i))) (join (look_items (map number ls) (number last)) rest)) s P
  looks_enter rest f =
      acts_enter P (load_place (codes "#a") i ∷ []) (join (look_items (map number ls) (number last)) rest) s ((frame_last (size c) a.locals z os s.places framed).1, tt) keeps_indexed
      (join_passes P (look_items (map number ls) (number last)) rest indexed looked (finds_pass (look_items (map number ls) (number last)) indexed _ looks.finds) f)

  -- ---- the end of the call

  -- the results are handed over
  ends_on : (u : State) → u.places ≡ s.places → RunsOver (uses_bytes c.m) c.bs u → u.scores (codes "#c") ≡ Some (negsuc 0) → AreHanded 0 (stack_ints (take (R c) os)) u → (b : Activation) (us : List Value)
      → jump c.m c.st c.cs a 2 l others a.levels ≡ goes 2 c.st (running c.cs b) → top a.results others ≡ Some us → move c.m c.st (running c.cs b) ≡ handed c.st c.cs us → Enters (first (step_item end_step) no_more) u P
  ends_on u places calm none given b us jumps taken hand =
      let t : State = after_act (copy_site next_site (last_at (codes "p"))) u in
      let enough : R c ≤ length others = subst (λ (j : ℕ). j ≤ length others) sees.results (top_enough a.results others us taken) in
      let is_us : us ≡ take (R c) os = top_taken a.results others us taken ∙ (ap (λ (j : ℕ). take j others) sees.results ∙ sym (take-append-le (R c) others (under a.levels) enough)) in
      let leads : Leads c.m 2 (at c.st c.cs a) (at c.st c.cs b) = moved_once c.m c.st c.cs 2 a b (moved ∙ jumps) in
      let results : Results c.m c.n (take (R c) os) = results_on c a b 2 os us ((c.moves.functions c.m c.st c.cs a 2 c.st b (moved ∙ jumps)).0 ∙ h.func) h.typed leads hand is_us in
      let its_frame : Frame (size c) a.locals os u.places = frame_same (size c) a.locals os s.places u.places places frame in
      let hands : (rest : List Kept) (entry : Kept) → c.bs ≡ rest ++ entry ∷ [] → Handed (stack_ints (take (R c) os)) entry.follows u t =
      λ rest entry last.
      let w = c.works.hand 0 0 rest entry u (omega arith) (omega arith) (omega arith) (subst (λ (xs : List Kept). IsBelow xs u) last calm.below) in
      record {
        places = w.there.places;
        results = still_handed 0 (stack_ints (take (R c) os)) u t (copy_leaves u next_site (selected u (last_at (codes "p")))).1 given;
        named = w.there.named;
        below = w.there.below;
        keys = w.there.keys;
        trap = w.there.trap;
        scores = w.there.scores;
      } in
      let (rest, entry, last) = last_below c.m c.n c.cs c.bs c.waiting in
      end_taken P u none (handed_reaches c.m c.st c.n d 2 (R c) (size c) a b a.locals os u results (has_scores c) low its_frame c.cs c.bs c.waiting calm leads (hand ∙ ap (handed c.st c.cs) is_us) t hands)
      (keeps_calls u t (hands rest entry last).keys (hands rest entry last).scores)

  -- ---- no value is taken along

  abbrev jumped : State
  jumped = after_acts (name_acts key_next (body_piece c.n 0)) looked

  jump_on : label_count (R c) v last ≡ 0 → Enters (first (step_item (run_act (load_place (codes "#a") i))) (jump_items c.m c.n (R c) (L c) (all c) v ts i ls last)) s P
  jump_on none =
      looks_enter (acts_then (name_acts key_next (body_piece c.n 0)) (first (step_item end_step) no_more))
      (acts_enter P (name_acts key_next (body_piece c.n 0)) (first (step_item end_step) no_more) looked (tt, (tt, tt)) renamed.keeps (by branched))
    where
      renamed : Renamed c.bs key_next looked jumped
      renamed = name_leaves c.bs key_next (body_piece c.n 0) looked refl refl refl

      places : jumped.places ≡ s.places
      places = renamed.places ∙ looks.finds.near.places

      told : jumped.scores (codes "#c") ≡ Some (number l)
      told = ap (λ m. m (codes "#c")) renamed.scores ∙ its_number

      by : Branched c.m c.st c.cs a v 2 l others → Enters (first (step_item end_step) no_more) jumped P
      by (to_block x b t j lab jumps leads same comes left enough within) =
          let idx : HasIndex c.m c.n (lands x).to = index_at x lab in
          let cut : CutAt c.m c.n idx.0 (lands x).to = cut_at c.m c.n c.f c.t idx.0 (lands x).to idx.1 in
          let arity : arity_of x.op ≡ 0 = sym (ap (count_by (R c)) lab) ∙ count 0 none in
          let lowest : operands t ≡ lowest_values x.under os = left ∙ ap (λ k. take k os ++ lowest_values x.under os) arity in
          let landed : Frame (size c) t.locals (operands t) jumped.places =
          subst (λ (vs : List Value). Frame (size c) vs (operands t) jumped.places) (sym same.locals)
          (subst (λ (vs : List Value). Frame (size c) a.locals vs jumped.places) (sym lowest)
          (frame_same (size c) a.locals (lowest_values x.under os) s.places jumped.places places (frame_lowest (size c) x.under a.locals os s.places frame))) in
          let named : jumped.keys in_rest key_next ≡ Some (id_tree (body_piece c.n idx.0)) = next_body idx.0 looked (its_number ∙ ap Some (number_some x lab)) c.n in
          let p = at_index c t (lands x) jumped idx.0 cut (same.func ∙ h.func) comes landed named (renamed.calm calm_looked) in
          let paid : d ≤ 16 * (2 + j) + (most_fetches + suc (rank p.0.visit)) = omega arith in
          end_passed P jumped idx.0 (told ∙ ap Some (number_some x lab)) (reaches_standing (2 + j) c.cs t (steps b t j jumps leads) (stands.at_cut p.0) (λ now h. h) paid)
      by (to_end b us lab jumps taken hand) =
          let no_results : R c ≡ 0 = sym (ap (count_by (R c)) lab) ∙ count 0 none in
          ends_on jumped places (renamed.calm calm_looked) (told ∙ ap Some (number_none lab)) (subst (λ k. AreHanded 0 (stack_ints (take k os)) jumped) (sym no_results) tt) b us jumps taken hand

  -- ---- a value is taken along

  -- the value y stands under the index, over these operands of the innermost sequence
  module _ (y : Value) (rest : List Value) (is_first : others ≡ y ∷ rest) (one : label_count (R c) v last ≡ 1) where
    abbrev lower : List Value
    lower = rest ++ under a.levels

    -- how many places it has
    abbrev n : ℕ
    n = length (value_ints y)

    abbrev place : ℕ → ℤ
    place = label_placer c.m c.n (R c) (L c) (all c) (length (value_ints y)) v

    over : os ≡ y ∷ lower
    over = ap (λ (vs : List Value). vs ++ under a.levels) is_first

    value_framed : Frame (size c) a.locals (y ∷ lower) s.places
    value_framed = subst (λ (vs : List Value). Frame (size c) a.locals vs s.places) over frame

    value_at : i - n ≡ top_of a.locals lower
    value_at = ap (λ (vs : List Value). top_of a.locals vs - n) over ∙ below_value a.locals lower y

    -- the cut follows
    abbrev followed : State
    followed = after_acts (name_acts key_follows (body_piece c.n 0)) looked

    follows_renamed : Renamed c.bs key_follows looked followed
    follows_renamed = name_leaves c.bs key_follows (body_piece c.n 0) looked refl refl refl

    -- the number of the placer is in `#c`
    finds : Finds (find_items (map place ls ++ place last ∷ [])) followed (element_or (map place ls) (place last) (cast_unsigned w32 z))
    finds = looks.again (map place ls) (place last) followed (length-map ls place ∙ sym (length-map ls number)) (follows_renamed.others key_choice refl)

    abbrev chosen_state : State
    chosen_state = finds.state

    its_place : chosen_state.scores (codes "#c") ≡ Some (place l)
    its_place = finds.found ∙ ap Some (chosen_element place ls last z)

    chosen_places : chosen_state.places ≡ s.places
    chosen_places = finds.near.places ∙ (follows_renamed.places ∙ looks.finds.near.places)

    calm_chosen : RunsOver (uses_bytes c.m) c.bs chosen_state
    calm_chosen = near_calm c.bs followed chosen_state finds.near (follows_renamed.calm calm_looked)

    -- the value is handed over
    abbrev hand_over : List Act
    hand_over = hand_acts n (i - n) 0

    abbrev given : State
    given = after_acts hand_over chosen_state

    hands : ActsReady hand_over chosen_state × Handing (value_ints y) chosen_state given
    hands =
        let framed_there : Frame (size c) a.locals (y ∷ lower) chosen_state.places = frame_same (size c) a.locals (y ∷ lower) s.places chosen_state.places chosen_places value_framed in
        subst (λ k. ActsReady (hand_acts n k 0) chosen_state × Handing (value_ints y) chosen_state (after_acts (hand_acts n k 0) chosen_state)) (sym value_at)
        (value_handed (size c) a.locals y lower chosen_state framed_there)

    handing : Handing (value_ints y) chosen_state given
    handing = hands.1

    given_keeps : ChangesFrameAlone chosen_state given
    given_keeps = record { keys = λ r k q. ap (λ m. m r k) handing.keys; scores = λ g q w t. handing.others g w }

    given_calm : RunsOver (uses_bytes c.m) c.bs given
    given_calm = record {
      trap = handing.others score_trap refl ∙ calm_chosen.trap;
      state = ap (λ m. m in_io key_state) handing.keys ∙ calm_chosen.state;
      ending = (calm_chosen.ending.0, ap (λ m. m in_rest key_end) handing.keys ∙ calm_chosen.ending.1, calm_chosen.ending.2);
      standing = lasts_calls chosen_state given (λ r k q. ap (λ m. m r k) handing.keys) handing.others calm_chosen.standing;
      below = ap (λ m. m in_rest key_below) handing.keys ∙ calm_chosen.below;
    }

    abbrev carried : State
    carried = after_acts (name_acts key_next (shared_piece 0)) given

    next_renamed : Renamed c.bs key_next given carried
    next_renamed = name_leaves c.bs key_next (shared_piece 0) given refl refl refl

    carried_keeps : ChangesFrameAlone chosen_state carried
    carried_keeps = keeps_both chosen_state given carried given_keeps next_renamed.keeps

    carried_calm : RunsOver (uses_bytes c.m) c.bs carried
    carried_calm = next_renamed.calm given_calm

    carried_places : carried.places ≡ s.places
    carried_places = next_renamed.places ∙ (handing.places ∙ chosen_places)

    told : carried.scores (codes "#c") ≡ Some (place l)
    told = ap (λ m. m (codes "#c")) next_renamed.scores ∙ (handing.number ∙ its_place)

    value_given : AreHanded 0 (value_ints y) carried
    value_given = still_handed 0 (value_ints y) given carried next_renamed.scores handing.results

    follows_is : (j : ℕ) → number l ≡ pos j → carried.keys in_rest key_follows ≡ Some (id_tree (body_piece c.n j))
    follows_is j q =
        next_renamed.others key_follows refl
        ∙ (ap (λ m. m in_rest key_follows) handing.keys ∙ (finds.near.keys in_rest key_follows refl ∙ follows_body j looked (its_number ∙ ap Some q) c.n))

    -- the places to which values are put are those of the frame
    placers_are : function_placers c.m c.n ≡ size c
    placers_are =
        let here : code_places (R c) v (cons (br_table ls last) is) ≡ true = ap (λ b. b && nat_lt 0 (label_count (R c) v last)) (lt-ltb most_tested (length ls) long) ∙ ap (λ k. nat_lt 0 k) one in
        let mine : code_places (R c) v v.rest ≡ true = ap (code_places (R c) v) (sees.rest ∙ e) ∙ here in
        ap (body_placers (size c)) c.t.body ∙ ap (λ b. if b then size c else 0) (some_placed (R c) v (all_visits c.m c.n c.f c.t) sees.listed mine)

    -- before the cut, with the value on its way
    placing_on : (x : Around) (t : Activation) → (lab : labelled v.blocks l ≡ Some x) → IsSameCall a t → Comes c.m t (lands x) → operands t ≡ take (arity_of x.op) os ++ lowest_values x.under os → x.under ≤ length (under a.levels)
        → carried.keys in_rest key_next ≡ Some (id_tree (placer n (place_above (L c) v.kinds x.under))) → Placing c.m c.cs t carried
    placing_on x t lab same comes left within named =
        let idx : HasIndex c.m c.n (lands x).to = index_at x lab in
        let cut : CutAt c.m c.n idx.0 (lands x).to = cut_at c.m c.n c.f c.t idx.0 (lands x).to idx.1 in
        let func : t.func ≡ c.n = same.func ∙ h.func in
        let arity : arity_of x.op ≡ 1 = sym (ap (count_by (R c)) lab) ∙ count 1 one in
        let lowest : List Value = lowest_values x.under os in
        let split : operands t ≡ y ∷ lowest = left ∙ (ap (λ k. take k os ++ lowest) arity ∙ ap (λ (vs : List Value). take 1 vs ++ lowest) over) in
        let under_all : x.under ≤ length os = let w = length-append others (under a.levels) in omega arith in
        let at_top : place_above (L c) v.kinds x.under ≡ top_of a.locals lowest = above_is (L c) v.kinds x.under a.locals (values.I32 z ∷ []) os sees.locals kinds under_all in
        let room : top_of t.locals (operands t) ≤ size c = (seen c comes.visit t comes.stands func).room in
        let all_room : top_of a.locals (y ∷ lowest) ≤ size c = subst (λ (vs : List Value). top_of a.locals vs ≤ size c) split (subst (λ (vs : List Value). top_of vs (operands t) ≤ size c) same.locals room) in
        let wide : 1 ≤ width (const_type y) = value_wide y in
        let in_frame : place_above (L c) v.kinds x.under < size c = omega arith in
        record {
          cut = cut.cut;
          is_cut = subst (λ (k : ℕ). Contains (function_cuts c.m k) cut.cut) (sym func) cut.is_cut;
          visit = comes.visit;
          stands = comes.stands;
          place = comes.path ∙ sym cut.place;
          value = y;
          others = lowest;
          parts = split;
          spot = place_above (L c) v.kinds x.under;
          is_next = at_top ∙ (sym (held_length a.locals lowest) ∙ ap (λ (vs : List Value). length (local_ints vs ++ stack_ints lowest)) (sym same.locals));
          in_frame = subst (λ k. place_above (L c) v.kinds x.under < k) (sym placers_are ∙ ap (function_placers c.m) (sym func)) in_frame;
          named = named;
          follows = follows_is idx.0 (number_some x lab) ∙ (ap (λ k. Some (id_tree (body_piece c.n k))) (sym cut.index) ∙ ap (λ k. Some (id_tree (body_piece k cut.cut.index))) (sym func));
          handed = value_given;
          frame = subst (λ (k : ℕ). Frame (frame_size c.m k) t.locals lowest carried.places) (sym func)
              (subst (λ (vs : List Value). Frame (size c) vs lowest carried.places) (sym same.locals) (frame_same (size c) a.locals lowest s.places carried.places carried_places (frame_lowest (size c) x.under a.locals os s.places frame)));
          below = c.bs;
          waiting = subst (λ (k : ℕ). Waiting c.m k c.cs c.bs) (sym func) c.waiting;
          calm = carried_calm;
        }

    carry_on : Enters (first (step_item (run_act (load_place (codes "#a") i))) (carry_items c.m c.n (R c) (L c) (all c) v ts i ls last n)) s P
    carry_on =
        looks_enter (acts_then (name_acts key_follows (body_piece c.n 0)) (join (find_items (map place ls ++ place last ∷ [])) (acts_then (hand_over ++ names) end)))
        (acts_enter P (name_acts key_follows (body_piece c.n 0)) (join (find_items (map place ls ++ place last ∷ [])) (acts_then (hand_over ++ names) end)) looked (tt, (tt, tt)) follows_renamed.keeps
        (join_passes P (find_items (map place ls ++ place last ∷ [])) (acts_then (hand_over ++ names) end) followed chosen_state (finds_pass (find_items (map place ls ++ place last ∷ [])) followed _ finds)
        (acts_enter P (hand_over ++ names) end chosen_state (ready_append hand_over names chosen_state hands.0 (tt, (tt, tt))) (subst (ChangesFrameAlone chosen_state) (sym both) carried_keeps)
        (subst (λ (u : State). Enters end u P) (sym both) (by branched)))))
      where
        names : List Act
        names = name_acts key_next (shared_piece 0)

        end : Items
        end = first (step_item end_step) no_more

        both : after_acts (hand_over ++ names) chosen_state ≡ carried
        both = acts_append hand_over names chosen_state

        by : Branched c.m c.st c.cs a v 2 l others → Enters (first (step_item end_step) no_more) carried P
        by (to_block x b t j lab jumps leads same comes left enough within) =
            let its : place l ≡ pos (placers_from n + place_above (L c) v.kinds x.under) = ap (placer_by c.m c.n (R c) (L c) (all c) n v) lab in
            let named : carried.keys in_rest key_next ≡ Some (id_tree (placer n (place_above (L c) v.kinds x.under))) = next_shared (placers_from n + place_above (L c) v.kinds x.under) given (handing.number ∙ (its_place ∙ ap Some its)) in
            let paid : d ≤ 16 * (2 + j) + 0 = omega arith in
            end_passed P carried (placers_from n + place_above (L c) v.kinds x.under) (told ∙ ap Some its) (reaches_standing (2 + j) c.cs t (steps b t j jumps leads) (stands.placing (placing_on x t lab same comes left within named)) (λ now h. h) paid)
        by (to_end b us lab jumps taken hand) =
            let none : place l ≡ negsuc 0 = ap (placer_by c.m c.n (R c) (L c) (all c) n v) lab in
            let one_result : R c ≡ 1 = sym (ap (count_by (R c)) lab) ∙ count 1 one in
            let results : take (R c) os ≡ y ∷ [] = ap (λ k. take k os) one_result ∙ ap (λ (vs : List Value). take 1 vs) over in
            ends_on carried carried_places carried_calm (told ∙ ap Some none) (subst (λ (vs : List Value). AreHanded 0 (stack_ints vs) carried) (sym results) value_given) b us jumps taken hand

  -- ---- both

  -- a value that is taken along stands
  taken_along : label_count (R c) v last ≡ 1 → 1 ≤ length others
  taken_along one = by branched
    where
      by : Branched c.m c.st c.cs a v 2 l others → 1 ≤ length others
      by (to_block x b t j lab jumps leads same comes left enough within) =
          let arity : arity_of x.op ≡ 1 = sym (ap (count_by (R c)) lab) ∙ count 1 one in
          omega arith
      by (to_end b us lab jumps taken hand) =
          let one_result : R c ≡ 1 = sym (ap (count_by (R c)) lab) ∙ count 1 one in
          let same : a.results ≡ R c = sees.results in
          let enough : a.results ≤ length others = top_enough a.results others us taken in
          omega arith

  count_few : label_count (R c) v last ≤ 1
  count_few = by_label (labelled v.blocks last)
    where
      by_label : (o : Option Around) → count_by (R c) o ≤ 1
      by_label None = one_most (first_of c.t.type.results)
      by_label (Some x) = arity_few x.op

  abbrev looks_so : ℕ → Type 0
  looks_so n = Enters (first (step_item (run_act (load_place (codes "#a") i))) (looked_by c.m c.n (R c) (L c) (all c) v ts i ls last n)) s P

  by_value : (y : Value) (rest : List Value) → others ≡ y ∷ rest → label_count (R c) v last ≡ 1 → looks_so (length (value_ints y))
  by_value (values.I32 x) rest is_first one = carry_on (values.I32 x) rest is_first one
  by_value (values.I64 x) rest is_first one = carry_on (values.I64 x) rest is_first one

  by_count : (k : ℕ) → label_count (R c) v last ≡ k → looks_so (widths (take k ts))
  by_count zero n = jump_on n
  by_count (suc zero) n =
      let (y, rest, is_first) = first_one others (taken_along n) in
      let wide : widths (take 1 ts) ≡ length (value_ints y) = ap (λ (vs : List Value). widths (take 1 (types_of (vs ++ under a.levels)))) is_first ∙ one_wide y (types_of (rest ++ under a.levels)) in
      subst looks_so (sym wide) (by_value y rest is_first n)
  by_count (suc (suc k)) n = let few : label_count (R c) v last ≤ 1 = count_few in absurd (omega arith)

  pub look_on : Enters (looked_items c.m c.n (R c) (L c) (all c) v (drop 1 (reverse v.kinds)) (top_place (L c) v - 1) ls last) s P
  look_on =
      subst (λ (us : List ValType). Enters (looked_items c.m c.n (R c) (L c) (all c) v us (top_place (L c) v - 1) ls last) s P) (sym types)
      (subst (λ j. Enters (looked_items c.m c.n (R c) (L c) (all c) v ts j ls last) s P) (sym index_is) (by_count (label_count (R c) v last) refl))
