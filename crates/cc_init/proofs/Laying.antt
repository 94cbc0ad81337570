-- Where the pieces of instantiation lead: the first makes the places that are scores, the empty lists, and what accesses to a
-- memory need; the others append the globals, and then the pages; and behind the last one the first store stands.
use Rattle.std.proofs.Common.{◌≡◌, ℕ, zero, suc, ◌+◌, ◌-◌, ◌*◌, ◌/◌, ◌<◌, ◌≤◌, List, [], ◌∷◌, ◌++◌, length, take, drop, Some, Bool, true, false, refl, sym, ap, ◌∙◌, subst, arith, length-append, append_assoc}
use Rattle.std.specs.Prelude.{ℤ, pos, negsuc, nat_lt, slice_get, option_and_then, if◌then◌else◌, Option, None}
use Rattle.std.proofs.Math.Seq.{take-add, take-suc}
use Rattle.std.proofs.lemmas.Bool.{ltb-true, ltb-false}
use Rattle.std.proofs.lemmas.List.{length-take-le, take_all}
use Rattle.std.proofs.lemmas.Option.{get_or_from_slice_get}
use Rattle.std.proofs.lemmas.Slice.Eq.{bytes_eq-Decides}
use Rattle.mc_nbt.specs.Tree.{int, list, no_items, select}
use Rattle.mc_nbt.specs.declared.value.Value.{Value}
use Rattle.mc_cmd.specs.Form.{Text}
use Rattle.wm_ast.specs.declared.module.Limits.{Limits}
use Rattle.wm_ast.specs.declared.module.Module.{Module}
use Rattle.wm_ast.specs.Instance.{first_store}
use Rattle.wm_ast.specs.Store as reduction
use Rattle.wm_flat.specs.Program.{IsProgram}
use Rattle.cc_line.specs.Sight.{in_io, in_memory, in_rest, with_holder, with_key}
use Rattle.cc_line.specs.Key.{key_state, key_memory, key_globals, key_below, key_end, key_fail, key_filling, key_next, key_args, key_table, body_piece, init_piece, id_tree, score_trap}
use Rattle.cc_line.specs.Place.{score_places}
use Rattle.cc_line.specs.Item.{Items, ItemsReady, no_more, run_items}
use Rattle.cc_line.specs.declared.table.Table.{Table}
use Rattle.cc_line.specs.Key.{score_two, score_thirty_two, score_half_word, score_least}
use Rattle.cc_line.specs.Standing.{Standing}
use Rattle.cc_line.specs.State.{State, at_key, with_copy, with_score, with_tree}
use Rattle.cc_line.specs.Table.{table_tree}
use Rattle.cc_line.proofs.StandingLemmas.{SameKeys, keys_same, keys_stay, scores_same, standing_kept}
use Rattle.cc_line.proofs.TableLemmas.{table_fits}
use Rattle.cc_line.specs.Step.{Act, open_place, after_act}
use Rattle.std.specs.Str.{bytes_eq}
use Rattle.cc_sched.specs.Sched.{end_rounds}
use Rattle.cc_call.specs.Acts.{acts_then, after_acts, ActsReady}
use Rattle.cc_call.proofs.ActLemmas.{acts_append, ready_append, acts_run}
use Rattle.cc_page.specs.Pages.{IsPage, page_tree, words_of}
use Rattle.cc_simulate.specs.Stored.{globals_tree, HasPages, Stored}
use Rattle.cc_simulate.specs.Uses.{uses_bytes}
use Rattle.cc_simulate.proofs.MemoryLemmas.{pages_stay}
use Rattle.cc_init.specs.Init.{standing_tables, table_act, table_acts, open_acts, settle_acts, finish_acts, leave_acts, globals_acts, globals_of_piece, global_pieces}
use Rattle.cc_init.specs.Init.{memory_acts, first_pages, is_repeated, page_acts, page_bytes, later_pieces, onward_acts, init_items}
use Rattle.cc_init.specs.Laid.{Instantiated, Instantiating, Leaves, Settled}
use Rattle.cc_init.specs.Law.{behind, InstantiationLaysDownTheFirstStore, LaysDown, LeadsOn}
use Rattle.cc_init.proofs.Appending.{globals_ready, Grown, grown_pages, grows}
use Rattle.cc_init.proofs.Furnishing.{furnishes}
use Rattle.cc_init.proofs.Light.{counted, globals_in_few, init_light, least, made, next_acts, page_of, pages_few, pieces_few}
use Rattle.cc_init.proofs.PageLemmas.{page_found}
use Rattle.cc_init.proofs.Paging.{one_page_again, one_page_more, page_again, page_appended, pages_there, with_again, with_page}

-- ---- the places that are scores

record Opened (s t : State) (n : ℕ) : Type 0 where
  long : length t.places ≡ n
  keys : t.keys ≡ s.keys
  scores : t.scores ≡ s.scores

opens : (n i : ℕ) (s : State) → length s.places ≡ i
    → ActsReady (open_acts i n) s × Opened s (after_acts (open_acts i n) s) (i + n)
opens zero i s e = (tt, record { long = e ∙ (let x : i ≡ i + 0 = omega arith in x); keys = refl; scores = refl })
opens (suc n) i s e =
    let t : State = after_act (open_place i) s in
    let l : length t.places ≡ suc i = length-append s.places (pos 0 ∷ []) ∙ (let x : length s.places + 1 ≡ suc i = omega arith in x) in
    let g = opens n (suc i) t l in
    ((e, g.0), record { long = g.1.long ∙ (let x : suc i + n ≡ i + suc n = omega arith in x); keys = g.1.keys; scores = g.1.scores })

-- ---- the lists

abbrev listed : State → State
listed v = record v {
  keys = with_key (with_key (with_key v.keys in_memory key_globals (list no_items)) in_memory key_memory (list no_items)) in_rest key_below (list no_items);
}

abbrev numbered : State → State
numbered v = with_score (with_score (with_score (with_score v score_two (pos 2)) score_thirty_two (pos 32)) score_half_word (pos 65536)) score_least (negsuc 2147483647)

-- each table under its key
abbrev tabled : List (Text × Table) → State → State
tabled [] v = v
tabled (p ∷ ps) v = tabled ps (with_tree v (at_key in_rest p.0) (Some (table_tree p.1)))

abbrev settled : Bool → State → State
settled bytes v = tabled (standing_tables bytes) (numbered (listed v))

tables_laid : (ps : List (Text × Table)) (v : State) → after_acts (table_acts ps) v ≡ tabled ps v
tables_laid [] v = refl
tables_laid (p ∷ ps) v = ap (λ o. after_acts (table_acts ps) (with_tree v (at_key in_rest p.0) o)) (table_fits p.1).1 ∙ tables_laid ps (with_tree v (at_key in_rest p.0) (Some (table_tree p.1)))

tables_ready : (ps : List (Text × Table)) (v : State) → ActsReady (table_acts ps) v
tables_ready [] v = tt
tables_ready (p ∷ ps) v = (tt, tables_ready ps (after_act (table_act p.0 p.1) v))

settles : (bytes : Bool) (v : State) → after_acts (settle_acts bytes) v ≡ settled bytes v
settles bytes v = tables_laid (standing_tables bytes) (numbered (listed v))

settle_ready : (bytes : Bool) (v : State) → ActsReady (settle_acts bytes) v
settle_ready bytes v = (tt, (tt, (tt, (tt, (tt, (tt, (tt, tables_ready (standing_tables bytes) (numbered (listed v)))))))))

-- what routines use stands then
settled_stands : (bytes : Bool) (v : State) → Standing bytes (settled bytes v)
settled_stands true v = record {
  two = refl;
  thirty_two = refl;
  half_word = refl;
  least = refl;
  low = λ e. refl;
  high = λ e. refl;
  ands = λ e. refl;
  raised = λ e. refl;
  left = refl;
  right_signed = refl;
  right = refl;
  turn_left = refl;
  turn_right = refl;
}
settled_stands false v = record {
  two = refl;
  thirty_two = refl;
  half_word = refl;
  least = refl;
  low = λ e. absurd cc;
  high = λ e. absurd cc;
  ands = λ e. absurd cc;
  raised = λ e. absurd cc;
  left = refl;
  right_signed = refl;
  right = refl;
  turn_left = refl;
  turn_right = refl;
}

-- the lists are empty then, and all else is as it was
record Settling (v t : State) : Type 0 where
  places : t.places ≡ v.places
  trap : t.scores score_trap ≡ v.scores score_trap
  state : t.keys in_io key_state ≡ v.keys in_io key_state
  ending : t.keys in_rest key_end ≡ v.keys in_rest key_end
  failing : t.keys in_rest key_fail ≡ v.keys in_rest key_fail
  globals : t.keys in_memory key_globals ≡ Some (list no_items)
  memory : t.keys in_memory key_memory ≡ Some (list no_items)

settling : (bytes : Bool) (v : State) → Settling v (settled bytes v)
settling true v = record { places = refl; trap = refl; state = refl; ending = refl; failing = refl; globals = refl; memory = refl }
settling false v = record { places = refl; trap = refl; state = refl; ending = refl; failing = refl; globals = refl; memory = refl }

-- ---- the way on

-- the state names the next piece; or the start function is called; or the job has ended
abbrev onto : State → ℕ → State
onto v k = record v { keys = with_key v.keys in_rest key_next (id_tree (init_piece (suc k))) }

abbrev started_so : State → ℕ → State
started_so v f = record v {
  keys = with_key (with_key v.keys in_rest key_args (list no_items)) in_rest key_next (id_tree (body_piece f 0));
}

abbrev finished_so : State → State
finished_so v = record v { scores = with_holder v.scores score_trap (negsuc 0); keys = with_key v.keys in_io key_state (int (pos 0)) }

finishes : (v : State) → v.keys in_rest key_end ≡ Some (int (pos 0)) → after_acts finish_acts v ≡ finished_so v
finishes v e = ap (λ o. after_act end_rounds (with_copy v (at_key in_io key_state) (option_and_then (λ u. select u []) o))) e

-- ---- states that have the same of a store

record Same (v u : State) : Type 0 where
  memory : (k : Text) → u.keys in_memory k ≡ v.keys in_memory k
  filling : u.keys in_rest key_filling ≡ v.keys in_rest key_filling
  scores : (h : Text) → bytes_eq score_trap h ≡ false → u.scores h ≡ v.scores h

pages_same : (ls : List Limits) (ps : List (List ℕ)) (v u : State) → Same v u → HasPages ls ps v → HasPages ls ps u
pages_same ls ps v u r h =
    pages_stay ps v u (r.memory key_memory) r.filling (λ j a b c d. r.scores j c) ls h

stored_same : (m : Module) (st : reduction.Store) (v u : State) → Same v u → Stored m st v → Stored m st u
stored_same m st v u r h = record {
  globals = r.memory key_globals ∙ h.globals;
  pages = h.pages;
  bytes = h.bytes;
  memory = pages_same m.mems h.pages v u r h.memory;
  table = h.table;
}

-- ---- where they lead

some_page : (ms ks : List ℕ) → Some ms ≡ Some ks → ms ≡ ks
some_page ms ks e = cc

module _ (m : Module) (p : IsProgram m) where
  abbrev all_globals : List Value
  all_globals = (first_store m).globals

  -- the globals of a piece
  abbrev part : ℕ → List Value
  part k = take globals_of_piece (drop (globals_of_piece * k) all_globals)

  -- a piece has done its part: so many globals and pages stand, and instantiation goes on
  record Done (v : State) (k : ℕ) : Type 0 where
    settled : Settled m v k
    trap : v.scores score_trap ≡ Some (pos 0)
    state : v.keys in_io key_state ≡ Some (int (pos 1))
    ending : v.keys in_rest key_end ≡ Some (int (pos 0))
    failing : v.keys in_rest key_fail ≡ Some (int (pos 4))

  -- all of them
  all_stored : (v : State) (k : ℕ) → Settled m v k → later_pieces m ≤ k → Stored m (first_store m) v
  all_stored v k d last =
      let count : length all_globals ≡ length m.globals = counted m p in
      let pieces : (length m.globals + 139) / 140 + least m ≤ k = last in
      let enough : length all_globals ≤ 140 * k = omega arith in
      let all = made m p in
      let long = all.2 in
      let whole : take (k - global_pieces m) (first_pages m) ≡ first_pages m = take_all (k - global_pieces m) (first_pages m) (omega arith) in
      record {
        globals = d.globals ∙ ap (λ us. Some (globals_tree us)) (take_all (globals_of_piece * k) all_globals enough);
        pages = first_pages m;
        bytes = sym all.1;
        memory = subst (λ (ps : List (List ℕ)). HasPages m.mems ps v) whole d.memory;
        table = refl;
      }

  -- where the piece of this number leads
  record On (k : ℕ) (u : State) : Type 0 where
    on : k < later_pieces m → Instantiating m u (suc k)
    out : k ≡ later_pieces m → Instantiated m u

  leave : (k : ℕ) (v : State) → Done v k → later_pieces m ≤ k → (o : Option ℕ) → m.start ≡ o
      → ActsReady (leave_acts o) v × Instantiated m (after_acts (leave_acts o) v)
  leave k v d last None e =
      let u : State = finished_so v in
      let there : Instantiated m u = record {
        wide = d.settled.wide;
        standing = d.settled.standing;
        stored = stored_same m (first_store m) v u (record { memory = λ q. refl; filling = refl; scores = λ h c. ap (λ (b : Bool). if b then Some (negsuc 0) else v.scores h) c }) (all_stored v k d.settled last);
        leaves = subst (λ (o : Option ℕ). Leaves m o u) (sym e) (refl, refl);
        ending = d.ending;
        failing = d.failing;
      } in
      ((tt, (tt, tt)), subst (Instantiated m) (sym (finishes v d.ending)) there)
  leave k v d last (Some f) e =
      let u : State = started_so v f in (
        (tt, (tt, tt)),
        record {
          wide = d.settled.wide;
          standing = d.settled.standing;
          stored = stored_same m (first_store m) v u (record { memory = λ q. refl; filling = refl; scores = λ h c. refl }) (all_stored v k d.settled last);
          leaves = subst (λ (o : Option ℕ). Leaves m o u) (sym e) (record {
            named = refl;
            given = refl;
            has_scores = d.settled.wide;
            runs = record { trap = d.trap; state = d.state; ending = (int (pos 0), d.ending, omega arith); standing = d.settled.standing };
          });
          ending = d.ending;
          failing = d.failing;
        },
      )

  onward : (k : ℕ) (v : State) → Done v k → k ≤ later_pieces m
      → ActsReady (onward_acts m k) v × On k (after_acts (onward_acts m k) v)
  onward k v d few = by_order (nat_lt k (later_pieces m)) refl
    where
      by_order : (b : Bool) → nat_lt k (later_pieces m) ≡ b → ActsReady (if b then next_acts k else leave_acts m.start) v
          × On k (after_acts (if b then next_acts k else leave_acts m.start) v)
      by_order true e =
          let before : k < later_pieces m = ltb-true k (later_pieces m) e in
          let next : Instantiating m (onto v k) (suc k) = record {
            laid = record {
              wide = d.settled.wide;
              standing = d.settled.standing;
              globals = d.settled.globals;
              memory = pages_same m.mems (take (k - global_pieces m) (first_pages m)) v (onto v k)
                  (record { memory = λ q. refl; filling = refl; scores = λ h c. refl }) d.settled.memory;
              table = d.settled.table;
            };
            few = (let r : suc k ≤ later_pieces m = omega arith in r);
            named = refl;
            trap = d.trap;
            state = d.state;
            ending = d.ending;
            failing = d.failing;
          } in
          let leads : On k (onto v k) = record { on = λ q. next; out = λ q. absurd (omega arith) } in
          ((tt, tt), leads)
      by_order false e =
          let last : later_pieces m ≤ k = ltb-false k (later_pieces m) e in
          let g = leave k v d last m.start refl in
          (g.0, record { on = λ q. absurd (omega arith); out = λ q. g.1 })

  -- items that find what they need, and lead so
  record Goes (k : ℕ) (xs : Items) (s : State) : Type 0 where
    ready : ItemsReady xs s
    on : On k (run_items xs s).state

  -- a piece of two parts, of which the first leads to this state
  in_parts : (k : ℕ) (s v : State) (acts : List Act) → Instantiating m s k
      → init_items m k ≡ acts_then (acts ++ onward_acts m k) no_more → ActsReady acts s → after_acts acts s ≡ v → Done v k
      → LeadsOn m k s
  in_parts k s v acts b is ready e d =
      let next = onward k v d b.few in
      let run = acts_run (acts ++ onward_acts m k) no_more s (ready_append acts (onward_acts m k) s ready (subst (ActsReady (onward_acts m k)) (sym e) next.0)) tt in
      let there : after_acts (acts ++ onward_acts m k) s ≡ after_acts (onward_acts m k) v = acts_append acts (onward_acts m k) s ∙ ap (after_acts (onward_acts m k)) e in
      let g : Goes k (init_items m k) s = subst (λ (xs : Items). Goes k xs s) (sym is) (record { ready = run.0; on = subst (On k) (sym (run.1 ∙ there)) next.1 }) in
      record { ready = g.ready; on = g.on.on; out = g.on.out }

  -- ---- the first piece

  begin_leads : (s : State) → Instantiating m s 0 → LeadsOn m 0 s
  begin_leads s b =
      let g = opens score_places 0 s b.laid in
      let u : State = after_acts (open_acts 0 score_places) s in
      let settle : List Act = settle_acts (uses_bytes m) in
      let w : State = settled (uses_bytes m) u in
      let h : Settling u w = settling (uses_bytes m) u in
      let v : State = after_acts (memory_acts m.mems) w in
      let f = furnishes m.mems w h.memory in
      let long : length u.places ≡ score_places = g.1.long in
      let front : List Act = open_acts 0 score_places ++ settle in
      let lists : after_acts front s ≡ w = acts_append (open_acts 0 score_places) settle s ∙ settles (uses_bytes m) u in
      let acts : List Act = front ++ memory_acts m.mems in
      let none : take (0 - global_pieces m) (first_pages m) ≡ [] = ap (λ (i : ℕ). take i (first_pages m)) (let z : 0 - global_pieces m ≡ 0 = omega arith in z) in
      let wide : length v.places ≡ score_places = ap length (f.1.places ∙ h.places) ∙ long in
      let d : Done v 0 = record {
        settled = record {
          wide = (let y : score_places ≤ length v.places = omega arith in y);
          standing = standing_kept w v f.1.numbers f.1.tables (settled_stands (uses_bytes m) u);
          globals = f.1.public key_globals ∙ h.globals;
          memory = subst (λ (ps : List (List ℕ)). HasPages m.mems ps v) (sym none) f.1.pages;
          table = λ i ms e g. absurd (let z : 0 - global_pieces m ≡ suc i = e in omega arith);
        };
        trap = f.1.trap ∙ h.trap ∙ ap (λ q. q score_trap) g.1.scores ∙ b.trap;
        state = f.1.io key_state ∙ h.state ∙ ap (λ q. q in_io key_state) g.1.keys ∙ b.state;
        ending = f.1.ending ∙ h.ending ∙ ap (λ q. q in_rest key_end) g.1.keys ∙ b.ending;
        failing = f.1.failing ∙ h.failing ∙ ap (λ q. q in_rest key_fail) g.1.keys ∙ b.failing;
      } in
      in_parts 0 s v acts b
      (ap (λ all. acts_then all no_more)
      (sym (append_assoc front (memory_acts m.mems) (onward_acts m 0) ∙ append_assoc (open_acts 0 score_places) settle (memory_acts m.mems ++ onward_acts m 0))))
      (ready_append front (memory_acts m.mems) s
      (ready_append (open_acts 0 score_places) settle s g.0 (settle_ready (uses_bytes m) (after_acts (open_acts 0 score_places) s)))
      (subst (ActsReady (memory_acts m.mems)) (sym lists) f.0))
      (acts_append front (memory_acts m.mems) s ∙ ap (after_acts (memory_acts m.mems)) lists) d

  -- ---- the pieces that append globals

  abbrev Order : ℕ → Bool → Type 0
  Order k b = nat_lt k (global_pieces m) ≡ b

  globals_lead : (k : ℕ) (s : State) → Instantiating m s (suc k) → Order k true → LeadsOn m (suc k) s
  globals_lead k s b e =
      let x : ℕ = globals_of_piece * k in
      let count : length all_globals ≡ length m.globals = counted m p in
      let few : k < (length m.globals + 139) / 140 = ltb-true k (global_pieces m) e in
      let within : 140 * k ≤ length all_globals = omega arith in
      let before : length (take x all_globals) ≡ x = length-take-le x all_globals within in
      let acts : List Act = globals_acts x (part k) in
      let v : State = after_acts acts s in
      let none : take (k - global_pieces m) (first_pages m) ≡ [] = ap (λ (i : ℕ). take i (first_pages m)) (let z : k - global_pieces m ≡ 0 = omega arith in z) in
      let none_then : take (suc k - global_pieces m) (first_pages m) ≡ [] = ap (λ (i : ℕ). take i (first_pages m)) (let z : suc k - global_pieces m ≡ 0 = omega arith in z) in
      let no_pages : HasPages m.mems [] s = subst (λ (ps : List (List ℕ)). HasPages m.mems ps s) none b.laid.memory in
      let g : Grown s v (take x all_globals ++ part k) = grows m (part k) x (take x all_globals) s before b.laid.globals no_pages in
      let upto : take x all_globals ++ part k ≡ take (globals_of_piece * suc k) all_globals = sym (take-add x globals_of_piece all_globals) ∙ ap (λ (i : ℕ). take i all_globals) (let r : 140 * k + 140 ≡ 140 * suc k = omega arith in r) in
      let d : Done v (suc k) = record {
        settled = record {
          wide = subst (λ (zs : List ℤ). score_places ≤ length zs) (sym g.places) b.laid.wide;
          standing = standing_kept s v (scores_same s v (λ h a c e i. ap (λ q. q h) g.scores)) (keys_same s v (λ q. false) (refl, (refl, (refl, (refl, (refl, (refl, (refl, (refl, (refl, tt))))))))) (λ q e. g.rest q)) b.laid.standing;
          globals = g.globals ∙ ap (λ us. Some (globals_tree us)) upto;
          memory = subst (λ (ps : List (List ℕ)). HasPages m.mems ps v) (sym none_then) (grown_pages m.mems s v _ g no_pages);
          table = λ i ms n h. absurd (let z : suc k - global_pieces m ≡ suc i = n in omega arith);
        };
        trap = ap (λ f. f score_trap) g.scores ∙ b.trap;
        state = g.io key_state ∙ b.state;
        ending = g.rest key_end ∙ b.ending;
        failing = g.rest key_fail ∙ b.failing;
      } in
      in_parts (suc k) s v acts b
      (ap (λ c. acts_then ((if c then acts else page_acts (is_repeated (first_store m).memory (k - global_pieces m)) (slice_get (first_pages m) (k - global_pieces m))) ++ onward_acts m (suc k)) no_more) e)
      (globals_ready (part k) x s) refl d

  -- ---- those that append pages

  -- what a page is appended to, and what stands then
  record Paged (i : ℕ) (s v : State) (ms : List ℕ) : Type 0 where
    places : v.places ≡ s.places
    scores : v.scores ≡ s.scores
    globals : v.keys in_memory key_globals ≡ s.keys in_memory key_globals
    io : (q : Text) → v.keys in_io q ≡ s.keys in_io q
    ending : v.keys in_rest key_end ≡ s.keys in_rest key_end
    failing : v.keys in_rest key_fail ≡ s.keys in_rest key_fail
    tables : SameKeys s v
    table : v.keys in_rest key_table ≡ Some (page_tree ms)
    pages : HasPages m.mems (take i (first_pages m) ++ (ms ∷ [])) v

  -- the last page that was appended has the bytes of this one
  same_page : (i : ℕ) (ms : List ℕ) (s : State) → slice_get (first_pages m) i ≡ Some ms → i < least m
      → is_repeated (first_store m).memory i ≡ true
      → ((j : ℕ) (ks : List ℕ) → i ≡ suc j → slice_get (first_pages m) j ≡ Some ks → s.keys in_rest key_table ≡ Some (page_tree ks))
      → s.keys in_rest key_table ≡ Some (page_tree ms)
  same_page zero ms s at low e h = absurd cc
  same_page (suc j) ms s at low e h =
      let bytes : List ℕ = (first_store m).memory in
      let one : page_bytes bytes j ≡ page_bytes bytes (suc j) = (bytes_eq-Decides (page_bytes bytes j) (page_bytes bytes (suc j))).0 e in
      let here : slice_get (first_pages m) (suc j) ≡ Some (words_of (page_bytes bytes (suc j))) = page_found (least m) (suc j) bytes low in
      let before : slice_get (first_pages m) j ≡ Some (words_of (page_bytes bytes j)) = page_found (least m) j bytes (omega arith) in
      let is : ms ≡ words_of (page_bytes bytes j) = some_page ms (words_of (page_bytes bytes j)) (sym at ∙ here ∙ ap (λ bs. Some (words_of bs)) (sym one)) in
      h j (words_of (page_bytes bytes j)) refl before ∙ ap (λ ks. Some (page_tree ks)) (sym is)

  paged : (i : ℕ) (s : State) (ms : List ℕ) (b : Bool) → is_repeated (first_store m).memory i ≡ b → i < least m
      → slice_get (first_pages m) i ≡ Some ms → IsPage ms → length (take i (first_pages m)) < 256
      → HasPages m.mems (take i (first_pages m)) s
      → ((j : ℕ) (ks : List ℕ) → i ≡ suc j → slice_get (first_pages m) j ≡ Some ks → s.keys in_rest key_table ≡ Some (page_tree ks))
      → ActsReady (page_acts b (Some ms)) s × (v : State) × (after_acts (page_acts b (Some ms)) s ≡ v) × Paged i s v ms
  paged i s ms true e low at is few has table =
      let ps : List (List ℕ) = take i (first_pages m) in
      let there = pages_there m.mems ps s has in
      let again : s.keys in_rest key_table ≡ Some (page_tree ms) = same_page i ms s at low e table in (
        (tt, tt),
        with_again s ps ms,
        page_again ps ms s there.1 is there.0 again,
        record {
          places = refl;
          scores = refl;
          globals = refl;
          io = λ q. refl;
          ending = refl;
          failing = refl;
          tables = keys_stay s;
          table = again;
          pages = one_page_again m.mems ps ms s (omega arith) is few has;
        },
      )
  paged i s ms false e low at is few has table =
      let ps : List (List ℕ) = take i (first_pages m) in
      let there = pages_there m.mems ps s has in (
        (tt, (tt, tt)),
        with_page s ps ms,
        page_appended ps ms s there.1 is there.0,
        record {
          places = refl;
          scores = refl;
          globals = refl;
          io = λ q. refl;
          ending = refl;
          failing = refl;
          tables = keys_stay s;
          table = refl;
          pages = one_page_more m.mems ps ms s (omega arith) is few has;
        },
      )

  page_leads : (k : ℕ) (s : State) → Instantiating m s (suc k) → Order k false → LeadsOn m (suc k) s
  page_leads k s b e =
      let behind : global_pieces m ≤ k = ltb-false k (global_pieces m) e in
      let few : suc k ≤ global_pieces m + least m = b.few in
      let i : ℕ = k - global_pieces m in
      let low : i < least m = omega arith in
      let g = page_of m p i low in
      let ps : List (List ℕ) = take i (first_pages m) in
      let all = made m p in
      let long = all.2 in
      let size : length ps ≡ i = length-take-le i (first_pages m) (omega arith) in
      let most : least m ≤ 256 = pages_few m p in
      let repeated : Bool = is_repeated (first_store m).memory i in
      let acts : List Act = page_acts repeated (slice_get (first_pages m) i) in
      let named : acts ≡ page_acts repeated (Some g.0) = ap (page_acts repeated) g.1 in
      let (ready, v, comes, d) = paged i s g.0 repeated refl low g.1 g.2 (omega arith) b.laid.memory b.laid.table in
      let next : take (suc i) (first_pages m) ≡ ps ++ (g.0 ∷ []) = take-suc (first_pages m) i g.0 (omega arith) ∙ ap (λ y. ps ++ (y ∷ [])) (get_or_from_slice_get (first_pages m) i g.0 g.0 g.1) in
      let onto_it : ps ++ (g.0 ∷ []) ≡ take (suc k - global_pieces m) (first_pages m) = sym next ∙ ap (λ (n : ℕ). take n (first_pages m)) (let z : suc i ≡ suc k - global_pieces m = omega arith in z) in
      let count : length all_globals ≡ length m.globals = counted m p in
      let pieces : (length m.globals + 139) / 140 ≤ k = behind in
      let enough : length all_globals ≤ 140 * k = omega arith in
      let enough_then : length all_globals ≤ 140 * suc k = omega arith in
      let there : Done v (suc k) = record {
        settled = record {
          wide = subst (λ (zs : List ℤ). score_places ≤ length zs) (sym d.places) b.laid.wide;
          standing = standing_kept s v (scores_same s v (λ h a c e i. ap (λ q. q h) d.scores)) d.tables b.laid.standing;
          globals = d.globals ∙ b.laid.globals
              ∙ ap (λ us. Some (globals_tree us)) (take_all (globals_of_piece * k) all_globals enough ∙ sym (take_all (globals_of_piece * suc k) all_globals enough_then));
          memory = subst (λ (qs : List (List ℕ)). HasPages m.mems qs v) onto_it d.pages;
          table = λ j ms n at.
              let z : suc k - global_pieces m ≡ suc j = n in
              let same : j ≡ i = omega arith in
              d.table ∙ ap (λ ks. Some (page_tree ks)) (some_page g.0 ms (sym g.1 ∙ ap (slice_get (first_pages m)) (sym same) ∙ at));
        };
        trap = ap (λ f. f score_trap) d.scores ∙ b.trap;
        state = d.io key_state ∙ b.state;
        ending = d.ending ∙ b.ending;
        failing = d.failing ∙ b.failing;
      } in
      in_parts (suc k) s v acts b
      (ap (λ c. acts_then ((if c then globals_acts (globals_of_piece * k) (part k) else acts) ++ onward_acts m (suc k)) no_more) e)
      (subst (λ q. ActsReady q s) (sym named) ready)
      (ap (λ q. after_acts q s) named ∙ comes) there

  leads_on : (k : ℕ) (s : State) → Instantiating m s k → LeadsOn m k s
  leads_on zero s b = begin_leads s b
  leads_on (suc k) s b = by_order (nat_lt k (global_pieces m)) refl
    where
      by_order : (c : Bool) → Order k c → LeadsOn m (suc k) s
      by_order true e = globals_lead k s b e
      by_order false e = page_leads k s b e

  -- ---- all of them

  come : (k : ℕ) (s : State) → Instantiating m s 0 → k ≤ later_pieces m → Instantiating m (behind m k s) k
  come zero s b h = b
  come (suc k) s b h =
      let before : k < later_pieces m = omega arith in
      (leads_on k (behind m k s) (come k s b (omega arith))).on before

  all_laid : (s : State) → Instantiating m s 0 → Instantiated m (behind m (suc (later_pieces m)) s)
  all_laid s b =
      let n : ℕ = later_pieces m in
      (leads_on n (behind m n s) (come n s b (let x : n ≤ n = omega arith in x))).out refl

  lays_down : LaysDown m
  lays_down = record {
    light = init_light m p;
    steps = leads_on;
    whole = all_laid;
    few = (let a : global_pieces m ≤ 30 = globals_in_few m p in let r : global_pieces m + least m ≤ least m + 30 = omega arith in r);
    most = pieces_few m p;
  }

pub instantiation_lays_down : InstantiationLaysDownTheFirstStore
instantiation_lays_down m p = lays_down m p
