-- The globals in the public storage: the ints of one are read and written, and what a state has of a store then.
use Rattle.std.proofs.Common.{◌≡◌, ◌≤◌, ◌<◌, ℕ, zero, suc, ◌+◌, List, [], ◌∷◌, length, map, Some, option_map, option_and_then, Bool, refl, sym, ap, ◌∙◌, subst, arith, ℤ, pos, slice_get, slice_set, length-set}
use Rattle.std.specs.Int.{w32, int_wrap}
use Rattle.std.proofs.lemmas.Option.{slice_get-map}
use Rattle.mc_nbt.specs.Tree.{int, place, select}
use Rattle.mc_nbt.specs.declared.value.Value.{Value}
use Rattle.mc_nbt.specs.declared.value.Value.TheVariants as values
use Rattle.mc_nbt.proofs.EditLemmas.{map_set, set_twice}
use Rattle.mc_cmd.specs.Pack.{high_half}
use Rattle.wm_ast.specs.declared.module.Module.{Module}
use Rattle.wm_ast.specs.Store.{Store}
use Rattle.wm_ast.specs.Types.{const_type}
use Rattle.cc_line.specs.Sight.{in_memory, in_rest}
use Rattle.cc_line.specs.Key.{key_globals, key_memory, key_filling}
use Rattle.cc_line.specs.Running.{Kept}
use Rattle.cc_line.specs.Routine.{value_ints}
use Rattle.cc_line.specs.State.{State, selected, set_places, with_place, with_set}
use Rattle.cc_line.specs.Step.{Act, place_to_site, site_to_place, with_taken, after_act}
use Rattle.cc_line.specs.Item.{no_more}
use Rattle.cc_cut.specs.Law.{width}
use Rattle.cc_body.specs.Emit.{value_acts, global_get_acts, global_set_acts}
use Rattle.cc_body.specs.Storage.{global_site}
use Rattle.cc_simulate.specs.Frame.{Frame}
use Rattle.cc_simulate.specs.Stands.{RunsOver, ChangesFrameAlone, ChangesStoreAlone}
use Rattle.cc_simulate.specs.Stored.{globals_tree, Stored, StoredBut}
use Rattle.cc_simulate.proofs.Acts.{acts_then, after_acts, ActsReady}
use Rattle.cc_simulate.proofs.Doing.{Makes, values_leave, pushes}
use Rattle.cc_simulate.proofs.Frames.{value_length, top_of, Stand}
use Rattle.cc_simulate.proofs.GlobalInts.{lists_tree, with_lists, lists_are, int_read, int_written}
use Rattle.cc_simulate.proofs.Knowns.{get_set}
use Rattle.cc_simulate.proofs.MemoryLemmas.{pages_stay}
use Rattle.cc_simulate.proofs.Proceeding.{spares_both, spares_public}

-- ---- what a state has of a store

pub stored_kept : (m : Module) (st : Store) (s t : State) → ChangesFrameAlone s t → Stored m st s → Stored m st t
stored_kept m st s t k h = record {
  globals = k.keys in_memory key_globals refl ∙ h.globals;
  pages = h.pages;
  bytes = h.bytes;
  memory = pages_stay h.pages s t (k.keys in_memory key_memory refl) (k.keys in_rest key_filling refl) (λ j a b c d. k.scores j a b c) m.mems h.memory;
  table = h.table;
}

-- also where pages are still to be appended
pub but_kept : (m : Module) (missing : ℕ) (st : Store) (s t : State) → ChangesFrameAlone s t → StoredBut m missing st s → StoredBut m missing st t
but_kept m missing st s t k h = record {
  globals = k.keys in_memory key_globals refl ∙ h.globals;
  pages = h.pages;
  bytes = h.bytes;
  memory = pages_stay h.pages s t (k.keys in_memory key_memory refl) (k.keys in_rest key_filling refl) (λ j a b c d. k.scores j a b c) m.mems h.memory;
  table = h.table;
}

-- ---- a global that is read

-- these stand in a global from the k-th int on
abbrev Selects : ℕ → ℕ → List ℤ → State → Type 0
Selects x k [] s = Unit {0}
Selects x k (z ∷ zs) s = (selected s (global_site x k) ≡ Some (int z)) × Selects x (suc k) zs s

-- they come to places as constants do
gets_do : (zs : List ℤ) (x k i : ℕ) (s t : State) → t.keys ≡ s.keys → Selects x k zs s → i + length zs ≤ length t.places
    → ActsReady (global_get_acts x k (length zs) i) t × (after_acts (global_get_acts x k (length zs) i) t ≡ after_acts (value_acts zs i) t)
gets_do [] x k i s t e h l = (tt, refl)
gets_do (z ∷ zs) x k i s t e (here, h) l =
    let same : selected t (global_site x k) ≡ selected s (global_site x k) = ap (λ keys. option_and_then (λ u. select u (place (pos x) ∷ (place (pos k) ∷ []))) (keys in_memory key_globals)) e in
    let taken : after_act (site_to_place i (global_site x k)) t ≡ with_place t i z = ap (with_taken t i) (same ∙ here) in
    let long : length (slice_set t.places i z) ≡ length t.places = length-set t.places i z in
    let room : suc i + length zs ≤ length (slice_set t.places i z) = omega arith in
    let within : i < length t.places = omega arith in
    let n = gets_do zs x (suc k) (suc i) s (with_place t i z) e h room in
    ((within, subst (ActsReady (global_get_acts x (suc k) (length zs) (suc i))) (sym taken) n.0), ap (λ (u : State). after_acts (global_get_acts x (suc k) (length zs) (suc i)) u) taken ∙ n.1)

-- where the ints of all are
module _ (m : Module) (st : Store) (s : State) (h : Stored m st s) where
  abbrev all_ints : List (List ℤ)
  all_ints = map value_ints st.globals

  has : s.keys in_memory key_globals ≡ Some (lists_tree all_ints)
  has = h.globals ∙ ap Some (lists_are st.globals)

  there : (x : ℕ) (v : Value) → slice_get st.globals x ≡ Some v → slice_get all_ints x ≡ Some (value_ints v)
  there x v e = slice_get-map value_ints st.globals x ∙ ap (option_map value_ints) e

  all_selected : (x : ℕ) (v : Value) → slice_get st.globals x ≡ Some v → Selects x 0 (value_ints v) s
  all_selected x (values.I32 z) e = (int_read s all_ints x 0 (z ∷ []) has (there x (values.I32 z) e) z refl, tt)
  all_selected x (values.I64 z) e =
      let low : ℤ = int_wrap w32 z in
      let zs : List ℤ = low ∷ (high_half z ∷ []) in
      (int_read s all_ints x 0 zs has (there x (values.I64 z) e) low refl, (int_read s all_ints x 1 zs has (there x (values.I64 z) e) (high_half z) refl, tt))

  -- the ints of a global come to the places above the operands
  pub global_get_does : {bytes : Bool} (bs : List Kept) (size : ℕ) (ls : List Value) → RunsOver bytes bs s → (x : ℕ) (v : Value) (os : List Value) (n : ℕ) → slice_get st.globals x ≡ Some v → n ≡ width (const_type v) → Frame size ls os s.places → top_of ls (v ∷ os) ≤ size
      → Makes bytes bs size ls (v ∷ os) (acts_then (global_get_acts x 0 n (top_of ls os)) no_more) s
  global_get_does {bytes = bytes} bs size ls calm x v os n e is f l =
      let zs : List ℤ = value_ints v in
      let sized = f.sized in
      let wide = value_length v in
      let room : top_of ls os + length zs ≤ length s.places = omega arith in
      let y = gets_do zs x 0 (top_of ls os) s s refl (all_selected x v e) room in
      let leaves = values_leave zs (top_of ls os) s in
      let same : after_acts (global_get_acts x 0 (length zs) (top_of ls os)) s ≡ after_acts (value_acts zs (top_of ls os)) s = y.1 in
      subst (λ j. Makes bytes bs size ls (v ∷ os) (acts_then (global_get_acts x 0 j (top_of ls os)) no_more) s) (wide ∙ sym is)
      (pushes bs size ls s calm v os (global_get_acts x 0 (length zs) (top_of ls os)) y.0
      (subst (λ (t : State). (t.places ≡ set_places s.places (top_of ls os) zs) × (t.keys ≡ s.keys) × (t.scores ≡ s.scores)) (sym same) leaves) f l)

-- ---- a global that is written

calm_lists : {bytes : Bool} (bs : List Kept) (s : State) (zss : List (List ℤ)) → RunsOver bytes bs s → RunsOver bytes bs (with_lists s zss)
calm_lists bs s zss c = record { trap = c.trap; state = c.state; ending = c.ending; standing = c.standing; below = c.below }

spares_lists : (s : State) (zss : List (List ℤ)) → ChangesStoreAlone s (with_lists s zss)
spares_lists s zss = spares_public s key_globals (lists_tree zss)

-- these acts find what they need, and the state has other globals then
pub record Regained (m : Module) (st : Store) (gs : List Value) (acts : List Act) (s : State) : Type 0 where
  pub ready : ActsReady acts s
  pub state : State
  pub leads : after_acts acts s ≡ state
  pub places : state.places ≡ s.places
  pub spares : ChangesStoreAlone s state
  pub calm : {bytes : Bool} (bs : List Kept) → RunsOver bytes bs s → RunsOver bytes bs state
  pub stored : Stored m (record st { globals = gs }) state

module _ (m : Module) (st : Store) (s : State) (h : Stored m st s) where
  -- the lists, where a global is another one
  now_lists : (x : ℕ) (v : Value) → lists_tree (slice_set (all_ints m st s h) x (value_ints v)) ≡ globals_tree (slice_set st.globals x v)
  now_lists x v = ap lists_tree (sym (map_set value_ints st.globals x v)) ∙ sym (lists_are (slice_set st.globals x v))

  -- the ints of a value that stand in places become those of a global of its type
  pub global_put : (x i n : ℕ) (u v : Value) → slice_get st.globals x ≡ Some u → const_type v ≡ const_type u → n ≡ width (const_type v) → Stand s.places i (value_ints v)
      → Regained m st (slice_set st.globals x v) (global_set_acts x 0 n i) s
  global_put x i n (values.I32 y) (values.I32 z) e k is (l, at, _) =
      let zs : List (List ℤ) = slice_set (all_ints m st s h) x (z ∷ []) in
      let act : Act = place_to_site (global_site x 0) i in
      let leads : after_act act s ≡ with_lists s zs =
      ap (λ (w : ℤ). with_set s (global_site x 0) (int w)) at ∙ int_written s (all_ints m st s h) x 0 (y ∷ []) (has m st s h) (there m st s h x (values.I32 y) e) y z refl
      in
      subst (λ j. Regained m st (slice_set st.globals x (values.I32 z)) (global_set_acts x 0 j i) s) (sym is)
      (record {
        ready = (l, tt);
        state = with_lists s zs;
        leads = leads;
        places = refl;
        spares = spares_lists s zs;
        calm = λ bs c. calm_lists bs s zs c;
        stored = record { globals = ap Some (now_lists x (values.I32 z)); pages = h.pages; bytes = h.bytes; memory = pages_stay h.pages s (with_lists s zs) refl refl (λ j a b c d. refl) m.mems h.memory; table = h.table };
      })
  global_put x i n (values.I64 y) (values.I64 z) e k is (l, at, (more, next, _)) =
      let low : ℤ = int_wrap w32 z in
      let part : List ℤ = low ∷ (high_half y ∷ []) in
      let whole : List ℤ = low ∷ (high_half z ∷ []) in
      let old : List (List ℤ) = all_ints m st s h in
      let half : List (List ℤ) = slice_set old x part in
      let zs : List (List ℤ) = slice_set half x whole in
      let s1 : State = with_lists s half in
      let t : State = with_lists s1 zs in
      let was = there m st s h x (values.I64 y) e in
      let first : after_act (place_to_site (global_site x 0) i) s ≡ s1 =
      ap (λ (w : ℤ). with_set s (global_site x 0) (int w)) at ∙ int_written s old x 0 (value_ints (values.I64 y)) (has m st s h) was (int_wrap w32 y) low refl
      in
      let second : after_act (place_to_site (global_site x 1) (suc i)) s1 ≡ t =
      ap (λ (w : ℤ). with_set s1 (global_site x 1) (int w)) next ∙ int_written s1 half x 1 part refl (get_set old x (value_ints (values.I64 y)) part was) (high_half y) (high_half z) refl
      in
      let told : lists_tree zs ≡ globals_tree (slice_set st.globals x (values.I64 z)) = ap lists_tree (set_twice old x part whole) ∙ now_lists x (values.I64 z) in
      subst (λ j. Regained m st (slice_set st.globals x (values.I64 z)) (global_set_acts x 0 j i) s) (sym is)
      (record {
        ready = (l, subst (λ (q : State). (suc i < length q.places) × Unit {0}) (sym first) (more, tt));
        state = t;
        leads = ap (λ (q : State). after_act (place_to_site (global_site x 1) (suc i)) q) first ∙ second;
        places = refl;
        spares = spares_both s s1 t (spares_lists s half) (spares_lists s1 zs);
        calm = λ bs c. calm_lists bs s1 zs (calm_lists bs s half c);
        stored = record { globals = ap Some told; pages = h.pages; bytes = h.bytes; memory = pages_stay h.pages s t refl refl (λ j a b c d. refl) m.mems h.memory; table = h.table };
      })
  global_put x i n (values.I32 y) (values.I64 z) e k is stands = absurd cc
  global_put x i n (values.I64 y) (values.I32 z) e k is stands = absurd cc
