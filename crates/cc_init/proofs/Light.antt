-- The pieces of instantiation are lines under every namespace, and light; and they are few.
use Rattle.std.proofs.Common.{◌≡◌, ℕ, zero, suc, min, ◌+◌, ◌-◌, ◌*◌, ◌/◌, ◌<◌, ◌≤◌, List, [], ◌∷◌, ◌++◌, length, take, drop, map, Some, Bool, true, false, refl, sym, ap, ◌∙◌, subst, arith, length-append}
use Rattle.std.specs.Prelude.{nat_lt, slice_get, if◌then◌else◌, All, Option, None}
use Rattle.std.specs.List.{list_all}
use Rattle.std.proofs.lemmas.Bool.{lt-ltb, ltb-false}
use Rattle.std.proofs.lemmas.List.{length-map, length-take}
use Rattle.std.proofs.lemmas.List.Elements.{All-take, All-drop}
use Rattle.std.proofs.lemmas.Option.{slice_get_within}
use Rattle.mc_nbt.specs.Tree.{list, no_items}
use Rattle.mc_nbt.specs.Path.{is_path}
use Rattle.mc_nbt.specs.Word.{is_key}
use Rattle.mc_cmd.specs.Word.{is_holder}
use Rattle.mc_nbt.specs.declared.value.Value.{Value}
use Rattle.mc_cmd.specs.Command.{Cmd, plain, execute}
use Rattle.mc_cmd.specs.Chain.{cmd_weight}
use Rattle.mc_cmd.proofs.FormLemmas.{and_both, and_first, and_second}
use Rattle.mc_cmd.specs.declared.TheConstants.{PIECE}
use Rattle.wm_ast.specs.declared.module.Func.{Func}
use Rattle.wm_ast.specs.declared.module.Module.{Module}
use Rattle.wm_ast.specs.Instance.{first_store}
use Rattle.wm_ast.specs.declared.item.Item.TheVariants as items
use Rattle.wm_ast.specs.Store.{most_pages_of}
use Rattle.wm_ast.proofs.LimitLaws.{most_few}
use Rattle.wm_valid.specs.Valid.{IsValidStart}
use Rattle.wm_flat.specs.FlatTyping.{held_type, least_pages, TypedMemory}
use Rattle.wm_valid.specs.InRange.{IsInRange}
use Rattle.wm_flat.specs.Program.{IsProgram}
use Rattle.wm_flat.proofs.FirstStore.{first_memory_length}
use Rattle.wm_flat.proofs.Soundness.{first_is_typed}
use Rattle.wm_flat.proofs.ValueLaws.{length_are}
use Rattle.cc_line.specs.Sight.{in_rest}
use Rattle.cc_line.specs.Key.{key_next, key_args, init_piece, id_tree}
use Rattle.cc_line.specs.Place.{score_places}
use Rattle.cc_line.specs.State.{at_key}
use Rattle.cc_line.specs.Step.{Act, set_site, run_act, step_command, step_weight}
use Rattle.cc_line.specs.Fit.{act_fits, site_fits}
use Rattle.cc_line.specs.declared.table.Table.{Table}
use Rattle.cc_line.proofs.TableLemmas.{table_fits}
use Rattle.mc_cmd.specs.Form.{Text}
use Rattle.cc_line.specs.Item.{no_more, items_fit, items_most}
use Rattle.cc_call.specs.Acts.{acts_then}
use Rattle.cc_sched.specs.Charge.{charge, round_weight, act_avoids_sched, items_avoid_sched}
use Rattle.cc_sched.specs.Pieces.{turn_weight}
use Rattle.cc_page.specs.Pages.{IsPage, ArePages, pages_bytes}
use Rattle.cc_page.proofs.OfBytes.{bytes_make_pages}
use Rattle.cc_mem.proofs.PageTrees.{page_there}
use Rattle.cc_pieces.specs.Law.{IsLight}
use Rattle.cc_body.proofs.Bounds.{functions_are_few}
use Rattle.cc_pieces.proofs.Fits.{NamePlain, body_plain, name_fits, next_fits, body_fits}
use Rattle.cc_body.proofs.LowGlobals.{globals_are_few}
use Rattle.cc_simulate.specs.Uses.{uses_bytes}
use Rattle.cc_init.specs.Init.{list_acts, number_acts, standing_tables, table_acts, open_acts, settle_acts, finish_acts, start_acts, leave_acts, globals_acts, globals_of_piece, global_pieces}
use Rattle.cc_init.specs.Init.{memory_acts, first_pages, is_repeated, page_acts, later_pieces, onward_acts, later_acts, init_items}
use Rattle.cc_init.proofs.Appending.{parts_all, globals_fit, globals_avoid, AreSimple, simple_both, globals_simple, globals_length}
use Rattle.cc_init.proofs.Furnishing.{memory_fits, memory_avoids, memory_length}
use Rattle.cc_init.proofs.Paging.{page_acts_fit}

-- ---- acts as items

acts_fit : (acts : List Act) → list_all act_fits acts ≡ true → items_fit (acts_then acts no_more) ≡ true
acts_fit [] h = refl
acts_fit (a ∷ acts) h = and_both _ _ (and_first _ _ h) (acts_fit acts (and_second (act_fits a) _ h))

acts_avoid : (acts : List Act) → list_all act_avoids_sched acts ≡ true
    → items_avoid_sched (acts_then acts no_more) ≡ true
acts_avoid [] h = refl
acts_avoid (a ∷ acts) h = and_both _ _ (and_first _ _ h) (acts_avoid acts (and_second (act_avoids_sched a) _ h))

cmd_light : (x : Cmd) → cmd_weight x ≤ 2
cmd_light (plain s) = omega arith
cmd_light (execute us s) = omega arith

acts_weigh : (acts : List Act) (n : ℕ) → items_most (charge n (acts_then acts no_more)) ≤ 2 * length acts + 1
acts_weigh [] n = omega arith
acts_weigh (a ∷ acts) n =
    let x = acts_weigh acts (n + step_weight (run_act a)) in
    let y : step_weight (run_act a) ≤ 2 = cmd_light (step_command [] (run_act a)) in
    omega arith

simple_weigh : (acts : List Act) (n : ℕ) → AreSimple acts
    → items_most (charge n (acts_then acts no_more)) ≤ length acts + 1
simple_weigh [] n h = omega arith
simple_weigh (a ∷ acts) n h =
    let x = simple_weigh acts (n + step_weight (run_act a)) h.1 in
    let y : step_weight (run_act a) ≡ 1 = h.0 in
    omega arith

first_length : (xs ys zs us : List Act) → length xs ≡ 128 → length ys ≤ 16 → length zs ≤ 21 → length us ≤ 2
    → length (xs ++ (ys ++ (zs ++ us))) ≤ 167
first_length xs ys zs us e f l k =
    let a : length (xs ++ (ys ++ (zs ++ us))) ≡ length xs + length (ys ++ (zs ++ us)) = length-append xs (ys ++ (zs ++ us)) in
    let b : length (ys ++ (zs ++ us)) ≡ length ys + length (zs ++ us) = length-append ys (zs ++ us) in
    let c : length (zs ++ us) ≡ length zs + length us = length-append zs us in
    omega arith

first_light : (acts : List Act) → length acts ≤ 167 → items_most (charge round_weight (acts_then acts no_more)) + turn_weight < PIECE
first_light acts l = let a = acts_weigh acts round_weight in omega arith

part_length : (xs ys : List Act) → length xs ≤ 420 → length ys ≤ 2 → length (xs ++ ys) ≤ 422
part_length xs ys l k = let a : length (xs ++ ys) ≡ length xs + length ys = length-append xs ys in omega arith

part_light : (acts : List Act) → AreSimple acts → length acts ≤ 422
    → items_most (charge round_weight (acts_then acts no_more)) + turn_weight < PIECE
part_light acts h l = let a = simple_weigh acts round_weight h in omega arith

-- ---- the places that are scores

opens_fit : (n i : ℕ) → i + n ≤ score_places → list_all act_fits (open_acts i n) ≡ true
opens_fit zero i h = refl
opens_fit (suc n) i h = and_both _ _ (lt-ltb i score_places (omega arith)) (opens_fit n (suc i) (omega arith))

opens_avoid : (n i : ℕ) → list_all act_avoids_sched (open_acts i n) ≡ true
opens_avoid zero i = refl
opens_avoid (suc n) i = opens_avoid n (suc i)

opens_length : (n i : ℕ) → length (open_acts i n) ≡ n
opens_length zero i = refl
opens_length (suc n) i = ap suc (opens_length n (suc i))

-- ---- the lists

lists_fit : list_all act_fits list_acts ≡ true
unfolding is_path is_key
lists_fit = refl

numbers_fit : list_all act_fits number_acts ≡ true
unfolding is_holder
numbers_fit = refl

-- the keys of the standing tables
abbrev KeysFit : List (Text × Table) → Type 0
KeysFit [] = Unit {0}
KeysFit (p ∷ ps) = (site_fits (at_key in_rest p.0) ≡ true) × KeysFit ps

keys_fit : (bytes : Bool) → KeysFit (standing_tables bytes)
unfolding is_path is_key
keys_fit true = (refl, (refl, (refl, (refl, (refl, (refl, (refl, (refl, (refl, tt)))))))))
keys_fit false = (refl, (refl, (refl, (refl, (refl, tt)))))

tables_fit : (ps : List (Text × Table)) → KeysFit ps → list_all act_fits (table_acts ps) ≡ true
tables_fit [] k = refl
tables_fit (p ∷ ps) k = and_both _ _ (and_both _ _ k.0 (table_fits p.1).0) (tables_fit ps k.1)

settle_fits : (bytes : Bool) → list_all act_fits (settle_acts bytes) ≡ true
settle_fits bytes =
    parts_all act_fits list_acts (number_acts ++ table_acts (standing_tables bytes)) lists_fit
    (parts_all act_fits number_acts (table_acts (standing_tables bytes)) numbers_fit (tables_fit (standing_tables bytes) (keys_fit bytes)))

settle_avoids : (bytes : Bool) → list_all act_avoids_sched (settle_acts bytes) ≡ true
settle_avoids true = refl
settle_avoids false = refl

settle_length : (bytes : Bool) → length (settle_acts bytes) ≤ 16
settle_length true = omega arith
settle_length false = omega arith

-- ---- the next piece, and the end

name_plain : (j : ℕ) → j < 2147483648 → NamePlain (init_piece j)
name_plain j k = body_plain 100001 j (omega arith) k

finish_fits : list_all act_fits finish_acts ≡ true
unfolding is_path is_key is_holder
finish_fits = refl

abbrev pub next_acts : ℕ → List Act
next_acts k = set_site (at_key in_rest key_next) (id_tree (init_piece (suc k))) ∷ []

next_is : (k : ℕ) → k ≤ 286 → list_all act_fits (next_acts k) ≡ true
next_is k l = and_both _ _ (and_both _ _ next_fits (name_fits (init_piece (suc k)) (name_plain (suc k) (omega arith)))) refl

args_fit : act_fits (set_site (at_key in_rest key_args) (list no_items)) ≡ true
unfolding is_path is_key
args_fit = refl

start_fits : (f : ℕ) → f < 2147483648 → list_all act_fits (start_acts f) ≡ true
start_fits f l = and_both _ _ args_fit (and_both _ _ (and_both _ _ next_fits (body_fits f 0 l (omega arith))) refl)

-- what acts need to be a part of a piece, of which there are so many at most
record Sound (n : ℕ) (acts : List Act) : Type 0 where
  fits : list_all act_fits acts ≡ true
  avoids : list_all act_avoids_sched acts ≡ true
  simple : AreSimple acts
  few : length acts ≤ n

-- ---- how many pieces there are

abbrev pub least : Module → ℕ
least m = least_pages (slice_get m.mems 0)

module _ (m : Module) (p : IsProgram m) where
  pub globals_in_few : global_pieces m ≤ 30
  globals_in_few =
      let few : length m.globals ≤ 4096 = globals_are_few m p.profile in
      let r : (length m.globals + 139) / 140 ≤ 30 = omega arith in
      r

  pub first_memory : TypedMemory m (first_store m).memory
  first_memory = (first_is_typed m p).store.memory

  pub pages_few : least m ≤ 256
  pages_few =
      let some : least m ≤ first_memory.count = first_memory.at_least in
      let most : first_memory.count ≤ most_pages_of (slice_get m.mems 0) = first_memory.at_most in
      let all : most_pages_of (slice_get m.mems 0) ≤ 256 = most_few (slice_get m.mems 0) in
      omega arith

  pub pieces_few : later_pieces m ≤ 286
  pieces_few = let a : global_pieces m ≤ 30 = globals_in_few in let b : least m ≤ 256 = pages_few in omega arith

-- ---- the pieces

module _ (m : Module) (p : IsProgram m) where
  abbrev pub all_globals : List Value
  all_globals = (first_store m).globals

  pub counted : length all_globals ≡ length m.globals
  counted =
      length_are (map held_type m.globals) all_globals (first_is_typed m p).store.globals ∙ length-map m.globals held_type

  all_in : All IsInRange all_globals
  all_in = (first_is_typed m p).store.globals.range

  -- the pages have the bytes of the memory
  pub made : ArePages (first_pages m) × (pages_bytes (first_pages m) ≡ (first_store m).memory) × (length (first_pages m) ≡ least m)
  made = bytes_make_pages (first_store m).memory (least m) (first_memory m p).bytes (first_memory_length m p)

  -- the start function is there
  pub started : (f : ℕ) → m.start ≡ Some f → IsValidStart m f
  started f e = p.valid.items items.Start 0 f refl e

  -- the index of a function is small
  function_few : (n : ℕ) (f : Func) → slice_get m.funcs n ≡ Some f → n < 8192
  function_few n f e =
      let a : length m.funcs ≤ 8192 = functions_are_few m p in
      let b : n < length m.funcs = slice_get_within m.funcs n f e in
      omega arith

  -- ---- that they are light

  leave_sound : (o : Option ℕ) → m.start ≡ o → Sound 2 (leave_acts o)
  leave_sound None e = record { fits = finish_fits; avoids = refl; simple = (refl, (refl, tt)); few = omega arith }
  leave_sound (Some f) e =
      let small : f < 8192 = function_few f (started f e).function (started f e).there in
      record { fits = start_fits f (omega arith); avoids = refl; simple = (refl, (refl, tt)); few = omega arith }

  onward_sound : (k : ℕ) → k ≤ 286 → Sound 2 (onward_acts m k)
  onward_sound k l = by_order (nat_lt k (later_pieces m))
    where
      by_order : (b : Bool) → Sound 2 (if b then next_acts k else leave_acts m.start)
      by_order true = record { fits = next_is k l; avoids = refl; simple = (refl, tt); few = omega arith }
      by_order false = leave_sound m.start refl

  -- the globals of a piece
  abbrev pub part : ℕ → List Value
  part k = take globals_of_piece (drop (globals_of_piece * k) all_globals)

  part_in : (k : ℕ) → All IsInRange (part k)
  part_in k = All-take IsInRange globals_of_piece (drop (globals_of_piece * k) all_globals) (All-drop IsInRange (globals_of_piece * k) all_globals all_in)

  part_sound : (k : ℕ) → k ≤ 286 → Sound 420 (globals_acts (globals_of_piece * k) (part k))
  part_sound k l =
      let x : ℕ = globals_of_piece * k in
      let e : length (part k) ≡ min 140 (length (drop x all_globals)) = length-take globals_of_piece (drop x all_globals) in
      let bound : 140 * k + length (part k) ≤ 2147483647 = omega arith in
      record {
        fits = globals_fit (part k) x bound (part_in k);
        avoids = globals_avoid (part k) x;
        simple = globals_simple (part k) x;
        few = (let n = globals_length (part k) x in omega arith);
      }

  -- the page of a piece
  pub page_of : (i : ℕ) → i < least m → (ms : List ℕ) × (slice_get (first_pages m) i ≡ Some ms) × IsPage ms
  page_of i l = let e = made.2 in page_there (first_pages m) i made.0 (omega arith)

  page_sound : (b : Bool) (o : Option (List ℕ)) (ms : List ℕ) → o ≡ Some ms → IsPage ms → Sound 420 (page_acts b o)
  page_sound b o ms e i = subst (λ q. Sound 420 (page_acts b q)) (sym e) (by b)
    where
      by : (b : Bool) → Sound 420 (page_acts b (Some ms))
      by true = record { fits = page_acts_fit true ms i; avoids = refl; simple = (refl, tt); few = omega arith }
      by false = record { fits = page_acts_fit false ms i; avoids = refl; simple = (refl, (refl, tt)); few = omega arith }

  later_sound : (k : ℕ) → k < later_pieces m → Sound 420 (later_acts m k)
  later_sound k l = by_order (nat_lt k (global_pieces m)) refl
    where
      by_order : (b : Bool) → nat_lt k (global_pieces m) ≡ b
          → Sound 420 (if b then globals_acts (globals_of_piece * k) (part k) else page_acts (is_repeated (first_store m).memory (k - global_pieces m)) (slice_get (first_pages m) (k - global_pieces m)))
      by_order true e = part_sound k (let most : later_pieces m ≤ 286 = pieces_few m p in omega arith)
      by_order false e =
          let behind : global_pieces m ≤ k = ltb-false k (global_pieces m) e in
          let few : k < global_pieces m + least m = l in
          let g = page_of (k - global_pieces m) (omega arith) in
          page_sound (is_repeated (first_store m).memory (k - global_pieces m)) (slice_get (first_pages m) (k - global_pieces m)) g.0 g.1 g.2

  pub init_light : (k : ℕ) → k ≤ later_pieces m → IsLight (init_items m k)
  init_light zero l =
      let o : Sound 2 (onward_acts m 0) = onward_sound 0 (omega arith) in
      let readied : List Act = memory_acts m.mems ++ onward_acts m 0 in
      let settle : List Act = settle_acts (uses_bytes m) in
      let behind : List Act = settle ++ readied in
      let all : List Act = open_acts 0 score_places ++ behind in
      record {
        fits = acts_fit all
            (parts_all act_fits (open_acts 0 score_places) behind (opens_fit score_places 0 (let x : 0 + score_places ≤ score_places = omega arith in x))
            (parts_all act_fits settle readied (settle_fits (uses_bytes m)) (parts_all act_fits (memory_acts m.mems) (onward_acts m 0) (memory_fits m.mems) o.fits)));
        avoids = acts_avoid all
            (parts_all act_avoids_sched (open_acts 0 score_places) behind (opens_avoid score_places 0)
            (parts_all act_avoids_sched settle readied (settle_avoids (uses_bytes m)) (parts_all act_avoids_sched (memory_acts m.mems) (onward_acts m 0) (memory_avoids m.mems) o.avoids)));
        light = first_light all
            (first_length (open_acts 0 score_places) settle (memory_acts m.mems) (onward_acts m 0) (opens_length score_places 0) (settle_length (uses_bytes m)) (memory_length m.mems) o.few);
      }
  init_light (suc k) l =
      let most : later_pieces m ≤ 286 = pieces_few m p in
      let acts : List Act = later_acts m k in
      let all : List Act = acts ++ onward_acts m (suc k) in
      let a : Sound 420 acts = later_sound k (omega arith) in
      let o : Sound 2 (onward_acts m (suc k)) = onward_sound (suc k) (omega arith) in
      record {
        fits = acts_fit all (parts_all act_fits acts (onward_acts m (suc k)) a.fits o.fits);
        avoids = acts_avoid all (parts_all act_avoids_sched acts (onward_acts m (suc k)) a.avoids o.avoids);
        light = part_light all (simple_both acts (onward_acts m (suc k)) a.simple o.simple) (part_length acts (onward_acts m (suc k)) a.few o.few);
      }
