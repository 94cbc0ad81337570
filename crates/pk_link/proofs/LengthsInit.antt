-- The files of instantiation are short: the lines of tables and of pages are the longest ones.
use Rattle.std.proofs.Common.{◌≡◌, ℕ, zero, suc, ◌+◌, ◌-◌, ◌*◌, ◌≤◌, ◌<◌, List, [], ◌∷◌, ◌++◌, drop, length, replicate, take, Option, Some, None, Bool, true, false, refl, ap, subst, sym, arith, length-append}
use Rattle.std.specs.Prelude.{ℤ, pos, nat_lt, slice_get, if◌then◌else◌}
use Rattle.std.specs.List.{AllByRecursion}
use Rattle.std.proofs.lemmas.List.{append_assoc}
use Rattle.std.proofs.lemmas.Option.{slice_get_within}
use Rattle.mc_nbt.specs.Shape.{is_tree}
use Rattle.mc_nbt.specs.Tree.{int}
use Rattle.mc_nbt.specs.Word.{is_int}
use Rattle.mc_nbt.specs.declared.value.Value.{Value}
use Rattle.mc_nbt.specs.declared.value.Value.TheVariants as values
use Rattle.mc_cmd.specs.Form.{Text}
use Rattle.mc_cmd.specs.Word.{is_function_name, is_namespace}
use Rattle.mc_cmd.proofs.FormLemmas.{and_both, and_first, and_second}
use Rattle.mc_cmd.proofs.PieceLemmas.{number_piece}
use Rattle.wm_ast.specs.declared.item.Item.TheVariants as items
use Rattle.wm_ast.specs.declared.module.Limits.{Limits}
use Rattle.wm_ast.specs.declared.module.Module.{Module}
use Rattle.wm_ast.specs.Instance.{first_store}
use Rattle.wm_ast.specs.declared.limit.TheConstants.{PAGES}
use Rattle.wm_valid.specs.Valid.{IsValidStart}
use Rattle.wm_flat.specs.Program.{IsProgram}
use Rattle.cc_line.specs.declared.table.Table.{Table}
use Rattle.cc_line.specs.Fit.{act_fits, site_fits, tree_fits}
use Rattle.cc_line.specs.Item.{items_fit, no_more}
use Rattle.cc_line.specs.Key.{id_tree, init_piece, key_globals, key_memory, key_next, key_table}
use Rattle.cc_line.specs.Place.{score_places}
use Rattle.cc_line.specs.Sight.{in_memory, in_rest}
use Rattle.cc_line.specs.Routine.{value_ints}
use Rattle.cc_line.specs.State.{at_key, ints}
use Rattle.cc_line.specs.Step.{Act, append_site, append_value_to, set_site}
use Rattle.cc_call.specs.Acts.{acts_then}
use Rattle.cc_page.specs.Pages.{page_tree}
use Rattle.cc_pieces.specs.Law.{IsLight}
use Rattle.cc_pieces.specs.Parts.{part}
use Rattle.cc_body.specs.Storage.{global_site}
use Rattle.cc_simulate.specs.Uses.{uses_bytes}
use Rattle.cc_init.specs.Init.{append_page, is_repeated, first_pages, global_pieces, globals_acts, globals_of_piece, init_acts, init_items, ints_acts, later_pieces, leave_acts, list_acts, number_acts, standing_tables, table_acts, memory_acts, onward_acts, open_acts, page_acts, init_parts}
use Rattle.cc_init.proofs.Furnishing.{memory_length}
use Rattle.cc_init.proofs.Light.{init_light}
use Rattle.pk_link.proofs.Counts.{functions_are_few, later_pieces_few}
use Rattle.cc_text.specs.Short.{act_bare, act_short, AllShort, items_short, tree_short}
use Rattle.cc_text.proofs.ShortItems.{piece_short, short_bare}
use Rattle.cc_text.proofs.ShortTrees.{body_short, init_short, int_short, no_fields_short, no_items_short, table_bare, zeros_short}
use Rattle.cc_sched.specs.Names.{routine_name}
use Rattle.cc_sched.proofs.PieceItems.{routine_fits}
use Rattle.pk_link.proofs.LengthsItems.{acts_bare, acts_room, bare_acts_are_short, Kinds, kinds_bare, kinds_both, kinds_short, mixed_acts_are_short, no_helpers, room_bare, room_both, room_short}
use Rattle.pk_link.proofs.LengthsParts.{called_part, light_called, PartIsShort, parts_append, PartsAreShort}
use Rattle.pk_link.proofs.LengthsTrees.{page_bare}

abbrev ActsShort : List Act → Type 0
ActsShort acts = AllByRecursion (λ a. act_short a ≡ true) acts

then_short : (acts : List Act) → ActsShort acts → items_short (acts_then acts no_more) ≡ true
then_short [] a = refl
then_short (x ∷ acts) a = and_both (act_short x) _ a.0 (then_short acts a.1)

both_short : (xs ys : List Act) → ActsShort xs → ActsShort ys → ActsShort (xs ++ ys)
both_short [] ys a b = b
both_short (x ∷ xs) ys a b = (a.0, both_short xs ys a.1 b)

all_bare : (acts : List Act) → ActsShort acts → acts_bare acts ≡ true
all_bare [] a = refl
all_bare (x ∷ acts) a = and_both (act_bare x) _ (short_bare x a.0) (all_bare acts a.1)

-- ---- the first piece

opens_short : (i n : ℕ) → ActsShort (open_acts i n)
opens_short i zero = tt
opens_short i (suc n) = (refl, opens_short (suc i) n)

-- what accesses need
standing_short : (ls : List Limits) → ActsShort (memory_acts ls)
standing_short [] = tt
standing_short (l ∷ ls) = (
  refl,
  (refl, (refl, (refl, (refl, (refl, (refl, (refl, (refl, (refl, (refl, (refl, (refl, (refl, (refl, (refl, (refl, (no_fields_short, (zero_short, (zero_short, (zero_short, tt)))))))))))))))))))),
)
  where
    zero_short : tree_short (int (pos 0)) ≡ true
    zero_short = int_short 0 (omega arith)

-- the start function has a low index
start_low : (m : Module) → IsProgram m → (f : ℕ) → m.start ≡ Some f → f < 2147483648
start_low m p f e =
    let valid : IsValidStart m f = p.valid.items items.Start 0 f refl e in
    let a : f < length m.funcs = slice_get_within m.funcs f valid.function valid.there in
    let b : length m.funcs ≤ 8192 = functions_are_few m p in
    omega arith

leave_short : (o : Option ℕ) → ((f : ℕ) → o ≡ Some f → f < 2147483648) → ActsShort (leave_acts o)
leave_short None h = (refl, (refl, tt))
leave_short (Some f) h = (no_items_short, (body_short f 0 (h f refl) (omega arith), tt))

onward_short : (m : Module) → IsProgram m → (k : ℕ) → k ≤ later_pieces m → ActsShort (onward_acts m k)
onward_short m p k h = by (nat_lt k (later_pieces m))
  where
    by : (b : Bool) → ActsShort (if b then set_site (at_key in_rest key_next) (id_tree (init_piece (suc k))) ∷ [] else leave_acts m.start)
    by true = let few : later_pieces m ≤ 30 + PAGES = later_pieces_few m p in (init_short (suc k) (omega arith), tt)
    by false = leave_short m.start (start_low m p)

leave_few : (o : Option ℕ) → length (leave_acts o) ≤ 2
leave_few None = omega arith
leave_few (Some f) = omega arith

onward_few : (m : Module) (k : ℕ) → length (onward_acts m k) ≤ 2
onward_few m k = by (nat_lt k (later_pieces m))
  where
    by : (b : Bool) → length (if b then set_site (at_key in_rest key_next) (id_tree (init_piece (suc k))) ∷ [] else leave_acts m.start) ≤ 2
    by true = omega arith
    by false = leave_few m.start

-- the tables that stand
tables_bare : (ps : List (Text × Table)) → acts_bare (table_acts ps) ≡ true
tables_bare [] = refl
tables_bare (p ∷ ps) = and_both _ _ (table_bare p.1) (tables_bare ps)

tables_few : (bytes : Bool) → length (table_acts (standing_tables bytes)) ≤ 9
tables_few true = omega arith
tables_few false = omega arith

first_kinds : (m : Module) → IsProgram m → (ks : Kinds (init_acts m 0)) × (acts_room (init_acts m 0) ks ≤ 16000000)
first_kinds m p =
    let opens : List Act = open_acts 0 score_places in
    let onward : List Act = onward_acts m 0 in
    let tables : List Act = table_acts (standing_tables (uses_bytes m)) in
    let tail : List Act = memory_acts m.mems ++ onward in
    let front : List Act = list_acts ++ (number_acts ++ tables) in
    let so : ActsShort opens = opens_short 0 score_places in
    let sl : ActsShort list_acts = (no_items_short, (no_items_short, (no_items_short, tt))) in
    let sn : ActsShort number_acts = (refl, (refl, (refl, (refl, tt)))) in
    let st : ActsShort tail = both_short (memory_acts m.mems) onward (standing_short m.mems) (onward_short m p 0 (omega arith)) in
    let tb : acts_bare tables ≡ true = tables_bare (standing_tables (uses_bytes m)) in
    let ko : Kinds opens = kinds_short opens so in
    let kl : Kinds list_acts = kinds_short list_acts sl in
    let kn : Kinds number_acts = kinds_short number_acts sn in
    let kt : Kinds tables = kinds_bare tables tb in
    let kr : Kinds tail = kinds_short tail st in
    let k3 : Kinds (number_acts ++ tables) = kinds_both number_acts tables kn kt in
    let k2 : Kinds front = kinds_both list_acts (number_acts ++ tables) kl k3 in
    let k1 : Kinds (front ++ tail) = kinds_both front tail k2 kr in
    let r0 = room_both opens (front ++ tail) ko k1 in
    let r1 = room_both front tail k2 kr in
    let r2 = room_both list_acts (number_acts ++ tables) kl k3 in
    let r3 = room_both number_acts tables kn kt in
    let eo = room_short opens so in
    let el = room_short list_acts sl in
    let en = room_short number_acts sn in
    let et = room_bare tables tb in
    let er = room_short tail st in
    let lo : length opens ≡ 128 = opens_many 128 0 in
    let lm : length (memory_acts m.mems) ≤ 21 = memory_length m.mems in
    let lw : length onward ≤ 2 = onward_few m 0 in
    let lb : length tables ≤ 9 = tables_few (uses_bytes m) in
    let lt : length tail ≡ length (memory_acts m.mems) + length onward = length-append (memory_acts m.mems) onward in
    (kinds_both opens (front ++ tail) ko k1, omega arith)
  where
    opens_many : (n i : ℕ) → length (open_acts i n) ≡ n
    opens_many zero i = refl
    opens_many (suc n) i = ap suc (opens_many n (suc i))

-- ---- globals

-- an int that fits is short
fitting_short : (z : ℤ) → tree_fits (int z) ≡ true → tree_short (int z) ≡ true
fitting_short z h = piece_short (int z) 11 (number_piece z (and_first (is_int z) _ (and_first (is_tree (int z)) _ h))) (omega arith)

-- ints that fit, with what comes behind them
ints_short : (x k : ℕ) (zs : List ℤ) (rest : List Act) → items_fit (acts_then (ints_acts x k zs ++ rest) no_more) ≡ true → ActsShort (ints_acts x k zs)
ints_short x k [] rest f = tt
ints_short x k (z ∷ zs) rest f =
    let set : Act = set_site (global_site x k) (int z) in
    (fitting_short z (and_second (site_fits (global_site x k)) _ (and_first (act_fits set) _ f)), ints_short x (suc k) zs rest (and_second (act_fits set) _ f))

ints_behind : (x k : ℕ) (zs : List ℤ) (rest : List Act) → items_fit (acts_then (ints_acts x k zs ++ rest) no_more) ≡ true → items_fit (acts_then rest no_more) ≡ true
ints_behind x k [] rest f = f
ints_behind x k (z ∷ zs) rest f = ints_behind x (suc k) zs rest (and_second (act_fits (set_site (global_site x k) (int z))) _ f)

value_short : (v : Value) → length (value_ints v) ≤ 16384
value_short (values.I32 z) = omega arith
value_short (values.I64 z) = omega arith

-- globals that fit, with what comes behind them
globals_short : (x : ℕ) (vs : List Value) (rest : List Act) → items_fit (acts_then (globals_acts x vs ++ rest) no_more) ≡ true → ActsShort (globals_acts x vs)
globals_short x [] rest f = tt
globals_short x (v ∷ vs) rest f =
    let append : Act = append_value_to (at_key in_memory key_globals) (ints (replicate (length (value_ints v)) (pos 0))) in
    let set : List Act = ints_acts x 0 (value_ints v) in
    let later : List Act = globals_acts (suc x) vs in
    let e : (set ++ later) ++ rest ≡ set ++ (later ++ rest) = append_assoc set later rest in
    let g : items_fit (acts_then (set ++ (later ++ rest)) no_more) ≡ true = subst (λ acts. items_fit (acts_then acts no_more) ≡ true) e (and_second (act_fits append) _ f) in
    (zeros_short (length (value_ints v)) (value_short v), both_short set later (ints_short x 0 (value_ints v) (later ++ rest) g) (globals_short (suc x) vs rest (ints_behind x 0 (value_ints v) (later ++ rest) g)))

-- ---- all of them

module _ (ns : Text) (n : is_namespace ns ≡ true) (m : Module) (p : IsProgram m) where
  module _ (k : ℕ) (h : suc k ≤ later_pieces m) where
    abbrev onward : List Act
    onward = onward_acts m (suc k)

    abbrev vs : List Value
    vs = take globals_of_piece (drop (globals_of_piece * k) (first_store m).globals)

    abbrev globals : List Act
    globals = globals_acts (globals_of_piece * k) vs

    abbrev page : Option (List ℕ)
    page = slice_get (first_pages m) (k - global_pieces m)

    abbrev repeated : Bool
    repeated = is_repeated (first_store m).memory (k - global_pieces m)

    named : is_function_name (routine_name (init_piece (suc k))) ≡ true
    named = routine_fits (init_piece (suc k)) (let few : later_pieces m ≤ 30 + PAGES = later_pieces_few m p in let i : suc k < 2147483648 = omega arith in i)

    last_short : ActsShort onward
    last_short = onward_short m p (suc k) h

    page_short : (b : Bool) (o : Option (List ℕ)) → IsLight (acts_then (page_acts b o ++ onward) no_more) → PartIsShort ns (part (init_piece (suc k)) (acts_then (page_acts b o ++ onward) no_more))
    page_short b None l = light_called ns n (init_piece (suc k)) (routine_name (init_piece (suc k))) (acts_then onward no_more) named l (then_short onward last_short)
    page_short true (Some ms) l =
        let acts : List Act = append_page ∷ onward in
        light_called ns n (init_piece (suc k)) (routine_name (init_piece (suc k))) (acts_then acts no_more) named l (then_short acts (refl, last_short))
    page_short false (Some ms) l =
        let table : Act = set_site (at_key in_rest key_table) (page_tree ms) in
        let append : Act = append_site (at_key in_memory key_memory) (at_key in_rest key_table) in
        let acts : List Act = table ∷ (append ∷ onward) in
        let fits : tree_fits (page_tree ms) ≡ true = and_second (site_fits (at_key in_rest key_table)) _ (and_first (act_fits table) _ l.fits) in
        let less : length (onward_acts m (suc k)) ≤ 2 = onward_few m (suc k) in
        let few : suc (suc (length (onward_acts m (suc k)))) ≤ 30 = omega arith in
        called_part ns n (init_piece (suc k)) (routine_name (init_piece (suc k))) (acts_then acts no_more) named l
        (bare_acts_are_short ns n acts few l.fits (and_both _ _ (page_bare ms (and_first _ _ fits)) (all_bare onward last_short))) (subst AllShort (sym (no_helpers ns acts)) tt)

    later_is_short : PartIsShort ns (part (init_piece (suc k)) (init_items m (suc k)))
    later_is_short = by (nat_lt k (global_pieces m)) (init_light m p (suc k) h)
      where
        by : (b : Bool) → IsLight (acts_then ((if b then globals else page_acts repeated page) ++ onward) no_more) → PartIsShort ns (part (init_piece (suc k)) (acts_then ((if b then globals else page_acts repeated page) ++ onward) no_more))
        by true l = light_called ns n (init_piece (suc k)) (routine_name (init_piece (suc k))) (acts_then (globals ++ onward) no_more) named l (then_short (globals ++ onward) (both_short globals onward (globals_short (globals_of_piece * k) vs onward l.fits) last_short))
        by false l = page_short repeated page l

  init_is_short : (k : ℕ) → k ≤ later_pieces m → PartIsShort ns (part (init_piece k) (init_items m k))
  init_is_short zero h =
      let k = first_kinds m p in
      let l : IsLight (init_items m 0) = init_light m p 0 h in
      called_part ns n (init_piece 0) (routine_name (init_piece 0)) (init_items m 0) (routine_fits (init_piece 0) (let i : 0 < 2147483648 = omega arith in i)) l
      (mixed_acts_are_short ns n (init_acts m 0) k.0 l.fits k.1) (subst AllShort (sym (no_helpers ns (init_acts m 0))) tt)
  init_is_short (suc k) h = later_is_short k h

  pub inits_are_short : (k : ℕ) → k ≤ suc (later_pieces m) → PartsAreShort ns (init_parts m k)
  inits_are_short zero h = tt
  inits_are_short (suc k) h = parts_append ns (init_parts m k) (part (init_piece k) (init_items m k) ∷ []) (inits_are_short k (omega arith)) (init_is_short k (omega arith), tt)
