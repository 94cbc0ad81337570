-- Acts one after the other, items that lead on, ways out that are taken or passed, and what a piece keeps.
use Rattle.std.proofs.Common.{◌≡◌, ℕ, zero, suc, ◌+◌, ◌<◌, ◌≤◌, List, [], ◌∷◌, ◌++◌, length, map, Option, Some, None, Bool, true, false, refl, sym, ap, ◌∙◌, subst, arith, ℤ, pos, negsuc, not, ◌&&◌, ◌||◌, if◌then◌else◌, codes, bytes_eq, slice_index_or, nat_lt, nat_le, length-set, le_refl}
use Rattle.std.proofs.lemmas.Bool.{le-leb, leb-true}
use Rattle.std.proofs.lemmas.Slice.Eq.{bytes_eq-Decides}
use Rattle.mc_nbt.specs.Tree.{Tree}
use Rattle.mc_nbt.proofs.TestLemmas.{and_first, and_second}
use Rattle.mc_cmd.specs.Form.{Text}
use Rattle.mc_cmd.specs.Command.{exactly}
use Rattle.mc_cmd.specs.World.{some_is_in}
use Rattle.wm_ast.specs.Simple.{if_nonzero}
use Rattle.cc_line.specs.Sight.{Store, in_io, in_memory, in_rest, same_store}
use Rattle.cc_line.specs.Key.{key_state, key_end, key_next, key_follows, key_below, key_entry, is_work_key, is_work, score_trap}
use Rattle.cc_line.specs.Place.{score_places, Spot, scratch, placed}
use Rattle.cc_line.specs.State.{State, read, place_at, with_place, with_score, Site, with_tree, with_copy, selected}
use Rattle.cc_line.specs.Running.{Kept}
use Rattle.cc_line.specs.Step.{Act, set_place, copy_place, load_place, place_to_site, set_site, copy_site, in_range, Cond, holds, fails, when, stop_when, after_act, conds_hold, step_weight, Flow, flow, more, SpotReady, CondsReady}
use Rattle.cc_line.specs.Core.{fetch, Replaced}
use Rattle.cc_line.specs.Item.{Items, no_more, join, steps_items, run_items, ItemsReady}
use Rattle.cc_line.proofs.CoreLemmas.{fetched, get_other, work_apart}
use Rattle.cc_line.proofs.SightLemmas.{store_same}
use Rattle.cc_line.proofs.RunLemmas.{steps_run, steps_ready, items_then, halts_before}
use Rattle.cc_call.specs.Law.{IsBelow, is_call_key, SameKeys}
use Rattle.cc_call.proofs.ActLemmas.{acts_append, ready_append, acts_run, acts_end_so}
pub use Rattle.cc_call.specs.Acts.{acts_then, after_acts, ActsReady}
use Rattle.cc_body.specs.Emit.{exit_then, steps_then, tested, is_zero, not_zero, is_index}
use Rattle.cc_simulate.specs.Stands.{RunsOver, is_written, ChangesFrameAlone}
use Rattle.cc_simulate.specs.Law.{Enters}
use Rattle.cc_line.proofs.StandingLemmas.{standing_replaced}
use Rattle.cc_simulate.proofs.Lasting.{lasts_equal, lasts_calls}

-- ---- what is kept

pub keeps_none : (s : State) → ChangesFrameAlone s s
keeps_none s = record { keys = λ r k e. refl; scores = λ h a b c. refl }

pub keeps_both : (s t u : State) → ChangesFrameAlone s t → ChangesFrameAlone t u → ChangesFrameAlone s u
keeps_both s t u f g = record { keys = λ r k e. g.keys r k e ∙ f.keys r k e; scores = λ h a b c. g.scores h a b c ∙ f.scores h a b c }

-- only places differ
pub keeps_places : (s t : State) → t.keys ≡ s.keys → t.scores ≡ s.scores → ChangesFrameAlone s t
keeps_places s t k h = record { keys = λ r j e. ap (λ m. m r j) k; scores = λ g a b c. ap (λ m. m g) h }

pub calm_places : {bytes : Bool} (bs : List Kept) (s t : State) → t.keys ≡ s.keys → t.scores ≡ s.scores → RunsOver bytes bs s → RunsOver bytes bs t
calm_places bs s t k h c = record {
  trap = ap (λ m. m score_trap) h ∙ c.trap;
  state = ap (λ m. m in_io key_state) k ∙ c.state;
  ending = (c.ending.0, ap (λ m. m in_rest key_end) k ∙ c.ending.1, c.ending.2);
  standing = lasts_equal s t k h c.standing;
  below = ap (λ m. m in_rest key_below) k ∙ c.below;
}

-- the keys of calls are among those that a piece may write
no_others : (a b c d e : Bool) → a || (b || (c || (d || e))) ≡ false → (c || (d || a) ≡ false) × (e ≡ false)
no_others false false false false e f = (refl, f)
no_others false false false true e f = absurd (let y : true ≡ false = f in cc)
no_others false false true d e f = absurd (let y : true ≡ false = f in cc)
no_others false true c d e f = absurd (let y : true ≡ false = f in cc)
no_others true b c d e f = absurd (let y : true ≡ false = f in cc)

pub unwritten_is_no_call : (r : Store) (k : Text) → is_written r k ≡ false → is_call_key r k ≡ false
unwritten_is_no_call in_io k e = refl
unwritten_is_no_call in_memory k e = refl
unwritten_is_no_call in_rest k e = (no_others (bytes_eq key_next k) (bytes_eq key_follows k) (bytes_eq key_below k) (bytes_eq key_entry k) (is_work_key in_rest k) e).0

-- only the keys of calls differ, and no score but those of routines
pub keeps_calls : (s t : State) → SameKeys s t → ((h : Text) → is_work h ≡ false → t.scores h ≡ s.scores h) → ChangesFrameAlone s t
keeps_calls s t k g = record { keys = λ r j e. k r j (unwritten_is_no_call r j e); scores = λ h a b c. g h b }

pub calm_calls : {bytes : Bool} (bs cs : List Kept) (s t : State) → SameKeys s t → ((h : Text) → is_work h ≡ false → t.scores h ≡ s.scores h) → IsBelow cs t → RunsOver bytes bs s → RunsOver bytes cs t
calm_calls bs cs s t k g b c = record {
  trap = g score_trap refl ∙ c.trap;
  state = k in_io key_state refl ∙ c.state;
  ending = (c.ending.0, k in_rest key_end refl ∙ c.ending.1, c.ending.2);
  standing = lasts_calls s t k g c.standing;
  below = b;
}

-- numbers in places, by a routine
pub unwritten_is_no_work : (r : Store) (k : Text) → is_written r k ≡ false → is_work_key r k ≡ false
unwritten_is_no_work in_io k e = refl
unwritten_is_no_work in_memory k e = refl
unwritten_is_no_work in_rest k e = (no_others (bytes_eq key_next k) (bytes_eq key_follows k) (bytes_eq key_below k) (bytes_eq key_entry k) (is_work_key in_rest k) e).1

pub keeps_replaced : (s t : State) (i : ℕ) (zs : List ℤ) → Replaced s t i zs → ChangesFrameAlone s t
keeps_replaced s t i zs r = record { keys = λ q k e. r.keys q k (unwritten_is_no_work q k e); scores = λ h a b c. r.scores h a b }

pub calm_replaced : {bytes : Bool} (bs : List Kept) (s t : State) (i : ℕ) (zs : List ℤ) → Replaced s t i zs → RunsOver bytes bs s → RunsOver bytes bs t
calm_replaced bs s t i zs r c = record {
  trap = r.scores score_trap refl refl ∙ c.trap;
  state = r.keys in_io key_state refl ∙ c.state;
  ending = (c.ending.0, r.keys in_rest key_end refl ∙ c.ending.1, c.ending.2);
  standing = standing_replaced s t i zs r c.standing;
  below = r.keys in_rest key_below refl ∙ c.below;
}

-- a key that a piece may write
pub keeps_tree : (s : State) (p : Site) (o : Option Tree) → is_written p.store p.name ≡ true → ChangesFrameAlone s (with_tree s p o)
keeps_tree s p None w = keeps_none s
keeps_tree s p (Some t) w = record { keys = λ q j e. at q j e (same_store p.store q && bytes_eq p.name j) refl; scores = λ h a b c. refl }
  where
    at : (q : Store) (j : Text) → is_written q j ≡ false → (b : Bool) → same_store p.store q && bytes_eq p.name j ≡ b → (if b then Some t else s.keys q j) ≡ s.keys q j
    at q j e true f =
        let x : p.store ≡ q = store_same p.store q (and_first _ _ f) in
        let y : p.name ≡ j = (bytes_eq-Decides p.name j).0 (and_second (same_store p.store q) _ f) in
        absurd (let v : true ≡ false = sym w ∙ ap (λ r. is_written r p.name) x ∙ ap (is_written q) y ∙ e in cc)
    at q j e false f = refl

-- ---- items that lead on, and items that end their list

pub record Passes (xs : Items) (s t : State) : Type 0 where
  pub ready : ItemsReady xs s
  pub used : ℕ
  pub ends : run_items xs s ≡ flow false t used
  pub keeps : ChangesFrameAlone s t

pub record Halts (xs : Items) (s t : State) : Type 0 where
  pub ready : ItemsReady xs s
  pub used : ℕ
  pub ends : run_items xs s ≡ flow true t used
  pub keeps : ChangesFrameAlone s t

pub passes_none : (s : State) → Passes no_more s s
passes_none s = record { ready = tt; used = 0; ends = refl; keeps = keeps_none s }

pub passes_join : (xs ys : Items) (s t u : State) → Passes xs s t → Passes ys t u → Passes (join xs ys) s u
passes_join xs ys s t u f g =
    let n = items_then xs ys s t f.used f.ends f.ready g.ready in
    record { ready = n.0; used = _; ends = n.1 ∙ ap (more f.used) g.ends; keeps = keeps_both s t u f.keeps g.keeps }

module _ (P : State → Type 0) where
  -- items that lead to a state of which this holds
  pub enters_at : (xs : Items) (s t : State) → ItemsReady xs s → (run_items xs s).state ≡ t → P t → ChangesFrameAlone s t → Enters xs s P
  enters_at xs s t r e p k = record { ready = r; there = subst P (sym e) p; keeps = subst (ChangesFrameAlone s) (sym e) k }

  -- the end of a piece
  pub end_enters : (s : State) → P s → Enters no_more s P
  end_enters s p = record { ready = tt; there = p; keeps = keeps_none s }

  -- what follows items that lead on, and what follows items that end their list
  pub join_passes : (xs ys : Items) (s t : State) → Passes xs s t → Enters ys t P → Enters (join xs ys) s P
  join_passes xs ys s t f g =
      let n = items_then xs ys s t f.used f.ends f.ready g.ready in
      enters_at (join xs ys) s (run_items ys t).state n.0 (ap (λ (q : Flow). q.state) n.1) g.there (keeps_both s t (run_items ys t).state f.keeps g.keeps)

  pub join_halts : (xs ys : Items) (s t : State) → Halts xs s t → P t → Enters (join xs ys) s P
  join_halts xs ys s t f p =
      let n = halts_before xs ys s t (record { ready = f.ready; used = f.used; ends = f.ends }) in
      enters_at (join xs ys) s t n.ready (ap (λ (q : Flow). q.state) n.ends) p f.keeps

-- ---- acts

pub acts_pass : (acts : List Act) (s : State) → ActsReady acts s → ChangesFrameAlone s (after_acts acts s) → Passes (acts_then acts no_more) s (after_acts acts s)
acts_pass acts s r k = let n = acts_end_so acts s in record { ready = (acts_run acts no_more s r tt).0; used = n.0; ends = n.1; keeps = k }

-- acts that find what they need, and lead to a state as it has to be
pub record ActsEnter (acts : List Act) (s : State) (P : State → Type 0) : Type 0 where
  pub ready : ActsReady acts s
  pub there : P (after_acts acts s)
  pub keeps : ChangesFrameAlone s (after_acts acts s)

module _ (P : State → Type 0) where
  pub acts_enter : (acts : List Act) (rest : Items) (s : State) → ActsReady acts s → ChangesFrameAlone s (after_acts acts s) → Enters rest (after_acts acts s) P → Enters (acts_then acts rest) s P
  acts_enter acts rest s r k f =
      let n = acts_run acts rest s r f.ready in
      enters_at P (acts_then acts rest) s (run_items rest (after_acts acts s)).state n.0 n.1 f.there (keeps_both s (after_acts acts s) (run_items rest (after_acts acts s)).state k f.keeps)

  pub acts_end : (acts : List Act) (s : State) → ActsEnter acts s P → Enters (acts_then acts no_more) s P
  acts_end acts s f = acts_enter acts no_more s f.ready f.keeps (end_enters P (after_acts acts s) f.there)

  pub append_enters : (xs ys : List Act) (s : State) → ActsReady xs s → ChangesFrameAlone s (after_acts xs s) → ActsEnter ys (after_acts xs s) P → ActsEnter (xs ++ ys) s P
  append_enters xs ys s r k f =
      let e = acts_append xs ys s in
      record {
        ready = ready_append xs ys s r f.ready;
        there = subst P (sym e) f.there;
        keeps = subst (ChangesFrameAlone s) (sym e) (keeps_both s (after_acts xs s) (after_acts ys (after_acts xs s)) k f.keeps);
      }

-- ---- acts that write no scratch score that is tested, and of the places only those below one

-- those to which operands that are tested are loaded, or with the least number added
abbrev pub is_tested_score : Text → Bool
is_tested_score h = bytes_eq h (codes "#a") || (bytes_eq h (codes "#b") || bytes_eq h (codes "#d"))

abbrev pub IsQuietBelow : ℕ → Act → Type 0
IsQuietBelow h (set_place i z) = i < h
IsQuietBelow h (copy_place i j) = i < h
IsQuietBelow h (load_place g i) = is_tested_score g ≡ false
IsQuietBelow h (place_to_site p i) = Unit {0}
IsQuietBelow h (set_site p t) = Unit {0}
IsQuietBelow h (copy_site p q) = Unit {0}
IsQuietBelow h _ = ⊥

abbrev pub QuietBelow : ℕ → List Act → Type 0
QuietBelow h [] = Unit {0}
QuietBelow h (a ∷ acts) = IsQuietBelow h a × QuietBelow h acts

pub quiet_append : (h : ℕ) (xs ys : List Act) → QuietBelow h xs → QuietBelow h ys → QuietBelow h (xs ++ ys)
quiet_append h [] ys f g = g
quiet_append h (x ∷ xs) ys f g = (f.0, quiet_append h xs ys f.1 g)

quiet_act_more : (h k : ℕ) (a : Act) → h ≤ k → IsQuietBelow h a → IsQuietBelow k a
quiet_act_more h k (set_place i z) l q = let x : i < k = omega arith in x
quiet_act_more h k (copy_place i j) l q = let x : i < k = omega arith in x
quiet_act_more h k (load_place g i) l q = q
quiet_act_more h k (place_to_site p i) l q = tt
quiet_act_more h k (set_site p t) l q = tt
quiet_act_more h k (copy_site p q) l r = tt
quiet_act_more h k _ l q = absurd q

pub quiet_more : (h k : ℕ) (acts : List Act) → h ≤ k → QuietBelow h acts → QuietBelow k acts
quiet_more h k [] l q = tt
quiet_more h k (a ∷ acts) l q = (quiet_act_more h k a l q.0, quiet_more h k acts l q.1)

-- ---- what they leave of a spot

-- the places and the scores of a state whose keys are written
pub tree_leaves : (s : State) (p : Site) (o : Option Tree) → ((with_tree s p o).places ≡ s.places) × ((with_tree s p o).scores ≡ s.scores)
tree_leaves s p None = (refl, refl)
tree_leaves s p (Some t) = (refl, refl)

pub copy_leaves : (s : State) (p : Site) (o : Option Tree) → ((with_copy s p o).places ≡ s.places) × ((with_copy s p o).scores ≡ s.scores)
copy_leaves s p None = (refl, refl)
copy_leaves s p (Some t) = tree_leaves s p _

read_same : (s t : State) (x : Spot) → t.places ≡ s.places → t.scores ≡ s.scores → read t x ≡ read s x
read_same s t (scratch h) e f = ap (λ m. m h) f
read_same s t (placed i) e f = ap (λ zs. Some (slice_index_or zs i (pos 0))) e

abbrev pub Above : ℕ → Spot → Type 0
Above h (scratch g) = is_tested_score g ≡ true
Above h (placed i) = h ≤ i

place_leaves : (h : ℕ) (s : State) (i : ℕ) (z : ℤ) (x : Spot) → i < h → Above h x → read (with_place s i z) x ≡ read s x
place_leaves h s i z (scratch g) l a = refl
place_leaves h s i z (placed j) l a = ap Some (get_other s.places i j z (λ e. omega arith))

score_leaves : (h : ℕ) (s : State) (g : Text) (z : ℤ) (x : Spot) → is_tested_score g ≡ false → Above h x → read (with_score s g z) x ≡ read s x
score_leaves h s g z (scratch k) q a = go (bytes_eq g k) refl
  where
    go : (b : Bool) → bytes_eq g k ≡ b → (if b then Some z else s.scores k) ≡ s.scores k
    go true e = absurd (let y : true ≡ false = sym a ∙ ap is_tested_score (sym ((bytes_eq-Decides g k).0 e)) ∙ q in cc)
    go false e = refl
score_leaves h s g z (placed j) q a = refl

pub quiet_read : (h : ℕ) (a : Act) (s : State) (x : Spot) → IsQuietBelow h a → Above h x → read (after_act a s) x ≡ read s x
quiet_read h (set_place i z) s x q l = place_leaves h s i z x q l
quiet_read h (copy_place i j) s x q l = place_leaves h s i (place_at s j) x q l
quiet_read h (load_place g i) s x q l = score_leaves h s g (place_at s i) x q l
quiet_read h (place_to_site p i) s x q l = let n = tree_leaves s p _ in read_same s (after_act (place_to_site p i) s) x n.0 n.1
quiet_read h (set_site p t) s x q l = let n = tree_leaves s p _ in read_same s (after_act (set_site p t) s) x n.0 n.1
quiet_read h (copy_site p r) s x q l = let n = copy_leaves s p (selected s r) in read_same s (after_act (copy_site p r) s) x n.0 n.1
quiet_read h _ s x q l = absurd q

pub quiet_long : (h : ℕ) (a : Act) (s : State) → IsQuietBelow h a → length (after_act a s).places ≡ length s.places
quiet_long h (set_place i z) s q = length-set s.places i z
quiet_long h (copy_place i j) s q = length-set s.places i (place_at s j)
quiet_long h (load_place g i) s q = refl
quiet_long h (place_to_site p i) s q = ap length (tree_leaves s p _).0
quiet_long h (set_site p t) s q = ap length (tree_leaves s p _).0
quiet_long h (copy_site p r) s q = ap length (copy_leaves s p (selected s r)).0
quiet_long h _ s q = absurd q

-- ---- tests of a place

pub tested_above : (i : ℕ) → Above i (tested i)
tested_above i = go (nat_lt i score_places)
  where
    go : (b : Bool) → Above i (if b then placed i else scratch (codes "#a"))
    go true = le_refl i
    go false = refl

pub tested_ready : (i : ℕ) (s : State) → i < length s.places → SpotReady (tested i) s
tested_ready i s l = go (nat_lt i score_places)
  where
    go : (b : Bool) → SpotReady (if b then placed i else scratch (codes "#a")) s
    go true = l
    go false = tt

-- conditions on a tested place alone: those of `is_zero`, `not_zero` and `is_index` are by (refl, tt)
abbrev pub Tests : ℕ → List Cond → Type 0
Tests i [] = Unit {0}
Tests i (holds (in_range x r) ∷ cs) = (x ≡ tested i) × Tests i cs
Tests i (fails (in_range x r) ∷ cs) = (x ≡ tested i) × Tests i cs
Tests i (c ∷ cs) = ⊥

pub tests_ready : (i : ℕ) (cs : List Cond) (s : State) → Tests i cs → i < length s.places → CondsReady cs s
tests_ready i [] s t l = tt
tests_ready i (holds (in_range x r) ∷ cs) s t l = (subst (λ y. SpotReady y s) (sym t.0) (tested_ready i s l), tests_ready i cs s t.1 l)
tests_ready i (fails (in_range x r) ∷ cs) s t l = (subst (λ y. SpotReady y s) (sym t.0) (tested_ready i s l), tests_ready i cs s t.1 l)
tests_ready i (c ∷ cs) s t l = absurd t

pub tests_same : (i : ℕ) (cs : List Cond) (s u : State) → Tests i cs → read u (tested i) ≡ read s (tested i) → conds_hold cs u ≡ conds_hold cs s
tests_same i [] s u t e = refl
tests_same i (holds (in_range x r) ∷ cs) s u t e =
    let same : read u x ≡ read s x = ap (read u) t.0 ∙ e ∙ ap (read s) (sym t.0) in
    ap (λ o. some_is_in r o && conds_hold cs u) same ∙ ap (λ b. some_is_in r (read s x) && b) (tests_same i cs s u t.1 e)
tests_same i (fails (in_range x r) ∷ cs) s u t e =
    let same : read u x ≡ read s x = ap (read u) t.0 ∙ e ∙ ap (read s) (sym t.0) in
    ap (λ o. not (some_is_in r o) && conds_hold cs u) same ∙ ap (λ b. not (some_is_in r (read s x)) && b) (tests_same i cs s u t.1 e)
tests_same i (c ∷ cs) s u t e = absurd t

-- the place is where its test looks for it, after it is fetched
pub record Tested (i : ℕ) (s t : State) : Type 0 where
  pub passes : Passes (steps_items (fetch i (codes "#a"))) s t
  pub reads : read t (tested i) ≡ Some (place_at s i)
  pub within : i < length t.places
  pub places : t.places ≡ s.places
  pub keys : t.keys ≡ s.keys
  pub calm : {bytes : Bool} (bs : List Kept) → RunsOver bytes bs s → RunsOver bytes bs t

pub is_tested : (i : ℕ) (s : State) → i < length s.places → (t : State) × Tested i s t
is_tested i s l =
    let f = fetched i (codes "#a") s refl l in (
      f.0,
      record {
        passes = record {
          ready = steps_ready (fetch i (codes "#a")) s f.1.straight.ready;
          used = _;
          ends = steps_run (fetch i (codes "#a")) s ∙ f.1.straight.ends;
          keeps = record { keys = λ r k e. ap (λ m. m r k) f.1.keys; scores = λ h a b c. f.1.scores h (work_apart (codes "#a") h refl b) };
        };
        reads = f.1.reads;
        within = subst (λ zs. i < length zs) (sym f.1.places) l;
        places = f.1.places;
        keys = f.1.keys;
        calm = λ bs c. record {
          trap = f.1.scores score_trap refl ∙ c.trap;
          state = ap (λ m. m in_io key_state) f.1.keys ∙ c.state;
          ending = (c.ending.0, ap (λ m. m in_rest key_end) f.1.keys ∙ c.ending.1, c.ending.2);
          standing = lasts_calls s f.0 (λ r k e. ap (λ m. m r k) f.1.keys) (λ h q. f.1.scores h (work_apart (codes "#a") h refl q)) c.standing;
          below = ap (λ m. m in_rest key_below) f.1.keys ∙ c.below;
        };
      },
    )

-- a test, and what follows it
pub fetch_enters : (P : State → Type 0) (i : ℕ) (rest : Items) (s t : State) → Tested i s t → Enters rest t P → Enters (steps_then (fetch i (codes "#a")) rest) s P
fetch_enters P i rest s t f g = join_passes P (steps_items (fetch i (codes "#a"))) rest s t f.passes g

-- ---- numbers in tests

exactly_same : (k : ℕ) (z : ℤ) → z ≡ pos k → some_is_in (exactly (pos k)) (Some z) ≡ true
exactly_same k z e = ap (λ y. some_is_in (exactly (pos k)) (Some y)) e ∙ ap (λ b. b && b) (le-leb k k (le_refl k))

exactly_other : (k : ℕ) (z : ℤ) → (z ≡ pos k → ⊥) → some_is_in (exactly (pos k)) (Some z) ≡ false
exactly_other k (negsuc n) e = refl
exactly_other k (pos n) e = go (nat_le k n) refl (nat_le n k) refl
  where
    go : (p : Bool) → nat_le k n ≡ p → (q : Bool) → nat_le n k ≡ q → nat_le k n && nat_le n k ≡ false
    go false f q g = ap (λ b. b && nat_le n k) f
    go true f false g = ap (λ b. b && nat_le n k) f ∙ g
    go true f true g =
        let a = leb-true k n f in
        let b = leb-true n k g in
        let same : n ≡ k = omega arith in
        absurd (e (ap pos same))

-- what the tests say of the number
module _ (i : ℕ) (s : State) (z : ℤ) (e : read s (tested i) ≡ Some z) where
  pub index_holds : (k : ℕ) → z ≡ pos k → conds_hold (is_index i k) s ≡ true
  index_holds k n = ap (λ o. some_is_in (exactly (pos k)) o && true) e ∙ ap (λ b. b && true) (exactly_same k z n)

  pub index_fails : (k : ℕ) → (z ≡ pos k → ⊥) → conds_hold (is_index i k) s ≡ false
  index_fails k n = ap (λ o. some_is_in (exactly (pos k)) o && true) e ∙ ap (λ b. b && true) (exactly_other k z n)

  pub zero_holds : z ≡ pos 0 → conds_hold (is_zero i) s ≡ true
  zero_holds n = index_holds 0 n

  pub zero_fails : (z ≡ pos 0 → ⊥) → conds_hold (is_zero i) s ≡ false
  zero_fails n = index_fails 0 n

  pub not_zero_holds : (z ≡ pos 0 → ⊥) → conds_hold (not_zero i) s ≡ true
  not_zero_holds n = ap (λ o. not (some_is_in (exactly (pos 0)) o) && true) e ∙ ap (λ b. not b && true) (exactly_other 0 z n)

  pub not_zero_fails : z ≡ pos 0 → conds_hold (not_zero i) s ≡ false
  not_zero_fails n = ap (λ o. not (some_is_in (exactly (pos 0)) o) && true) e ∙ ap (λ b. not b && true) (exactly_same 0 z n)

-- a number is 0 or not, and what is chosen by it
pub data ZeroCase (z : ℤ) : Type 1 where
  zero_is : z ≡ pos 0 → ((A : Type 0) (a b : A) → if_nonzero z a b ≡ b) → ZeroCase z
  zero_isnt : (z ≡ pos 0 → ⊥) → ((A : Type 0) (a b : A) → if_nonzero z a b ≡ a) → ZeroCase z

pub zero_case : (z : ℤ) → ZeroCase z
zero_case (pos zero) = zero_is refl (λ A a b. refl)
zero_case (pos (suc n)) = zero_isnt (λ e. absurd cc) (λ A a b. refl)
zero_case (negsuc n) = zero_isnt (λ e. absurd cc) (λ A a b. refl)

-- ---- ways out

exit_runs : (i : ℕ) (cs : List Cond) (acts : List Act) (rest : Items) (s : State) → Tests i cs → i < length s.places → QuietBelow i acts → conds_hold cs s ≡ true → ActsReady acts s
    → ItemsReady (exit_then cs acts rest) s × ((run_items (exit_then cs acts rest) s).state ≡ after_acts acts s)
exit_runs i cs [] rest s t l q e r =
    ((tests_ready i cs s t l, λ f. absurd (let y : true ≡ false = sym e ∙ f in cc)), ap (λ b. (let f : Flow = (if b then flow b s (step_weight (stop_when cs)) else more (step_weight (stop_when cs)) (run_items rest s)) in f.state)) e)
exit_runs i cs (a ∷ acts) rest s t l q e r =
    let same : (if conds_hold cs s then after_act a s else s) ≡ after_act a s = ap (λ b. if b then after_act a s else s) e in
    let stays = tests_same i cs s (after_act a s) t (quiet_read i a s (tested i) q.0 (tested_above i)) ∙ e in
    let n = exit_runs i cs acts rest (after_act a s) t (subst (λ k. i < k) (sym (quiet_long i a s q.0)) l) q.1 stays r.1 in
    (((tests_ready i cs s t l, λ f. r.0), λ f. subst (ItemsReady (exit_then cs acts rest)) (sym same) n.0), ap (λ u. (run_items (exit_then cs acts rest) u).state) same ∙ n.1)

pub exit_goes : (i : ℕ) (cs : List Cond) (acts : List Act) (rest : Items) (s : State) → Tests i cs → i < length s.places → conds_hold cs s ≡ false → ItemsReady rest s
    → ItemsReady (exit_then cs acts rest) s × ((run_items (exit_then cs acts rest) s).state ≡ (run_items rest s).state)
exit_goes i cs [] rest s t l e w =
    ((tests_ready i cs s t l, λ f. w), ap (λ b. (let f : Flow = (if b then flow b s (step_weight (stop_when cs)) else more (step_weight (stop_when cs)) (run_items rest s)) in f.state)) e)
exit_goes i cs (a ∷ acts) rest s t l e w =
    let same : (if conds_hold cs s then after_act a s else s) ≡ s = ap (λ b. if b then after_act a s else s) e in
    let n = exit_goes i cs acts rest s t l e w in
    (((tests_ready i cs s t l, λ f. absurd (let y : false ≡ true = sym e ∙ f in cc)), λ f. subst (ItemsReady (exit_then cs acts rest)) (sym same) n.0), ap (λ u. (run_items (exit_then cs acts rest) u).state) same ∙ n.1)

module _ (P : State → Type 0) where
  pub exit_taken : (i : ℕ) (cs : List Cond) (acts : List Act) (rest : Items) (s : State) → Tests i cs → i < length s.places → QuietBelow i acts → conds_hold cs s ≡ true → ActsEnter acts s P → Enters (exit_then cs acts rest) s P
  exit_taken i cs acts rest s t l q e f = let n = exit_runs i cs acts rest s t l q e f.ready in enters_at P (exit_then cs acts rest) s (after_acts acts s) n.0 n.1 f.there f.keeps

  pub exit_passed : (i : ℕ) (cs : List Cond) (acts : List Act) (rest : Items) (s : State) → Tests i cs → i < length s.places → conds_hold cs s ≡ false → Enters rest s P → Enters (exit_then cs acts rest) s P
  exit_passed i cs acts rest s t l e f = let n = exit_goes i cs acts rest s t l e f.ready in enters_at P (exit_then cs acts rest) s (run_items rest s).state n.0 n.1 f.there f.keeps

-- ---- acts where a test holds

tested_acts_run : (i : ℕ) (cs : List Cond) (acts : List Act) (s : State) → Tests i cs → i < length s.places → QuietBelow i acts → conds_hold cs s ≡ true → ActsReady acts s
    → ItemsReady (steps_items (map (when cs) acts)) s × (k : ℕ) × (run_items (steps_items (map (when cs) acts)) s ≡ flow false (after_acts acts s) k)
tested_acts_run i cs [] s t l q e r = (tt, 0, refl)
tested_acts_run i cs (a ∷ acts) s t l q e r =
    let same : (if conds_hold cs s then after_act a s else s) ≡ after_act a s = ap (λ b. if b then after_act a s else s) e in
    let stays = tests_same i cs s (after_act a s) t (quiet_read i a s (tested i) q.0 (tested_above i)) ∙ e in
    let n = tested_acts_run i cs acts (after_act a s) t (subst (λ k. i < k) (sym (quiet_long i a s q.0)) l) q.1 stays r.1 in (
      ((tests_ready i cs s t l, λ f. r.0), λ f. subst (ItemsReady (steps_items (map (when cs) acts))) (sym same) n.0),
      step_weight (when cs a) + n.1,
      ap (λ u. more (step_weight (when cs a)) (run_items (steps_items (map (when cs) acts)) u)) same ∙ ap (more (step_weight (when cs a))) n.2,
    )

tested_acts_skip : (i : ℕ) (cs : List Cond) (acts : List Act) (s : State) → Tests i cs → i < length s.places → conds_hold cs s ≡ false
    → ItemsReady (steps_items (map (when cs) acts)) s × (k : ℕ) × (run_items (steps_items (map (when cs) acts)) s ≡ flow false s k)
tested_acts_skip i cs [] s t l e = (tt, 0, refl)
tested_acts_skip i cs (a ∷ acts) s t l e =
    let same : (if conds_hold cs s then after_act a s else s) ≡ s = ap (λ b. if b then after_act a s else s) e in
    let n = tested_acts_skip i cs acts s t l e in (
      ((tests_ready i cs s t l, λ f. absurd (let y : false ≡ true = sym e ∙ f in cc)), λ f. subst (ItemsReady (steps_items (map (when cs) acts))) (sym same) n.0),
      step_weight (when cs a) + n.1,
      ap (λ u. more (step_weight (when cs a)) (run_items (steps_items (map (when cs) acts)) u)) same ∙ ap (more (step_weight (when cs a))) n.2,
    )

pub tested_acts_pass : (i : ℕ) (cs : List Cond) (acts : List Act) (s : State) → Tests i cs → i < length s.places → QuietBelow i acts → conds_hold cs s ≡ true → ActsReady acts s → ChangesFrameAlone s (after_acts acts s)
    → Passes (steps_items (map (when cs) acts)) s (after_acts acts s)
tested_acts_pass i cs acts s t l q e r k = let n = tested_acts_run i cs acts s t l q e r in record { ready = n.0; used = n.1; ends = n.2; keeps = k }

-- and where none is done, as it fails
pub tested_acts_skipped : (i : ℕ) (cs : List Cond) (acts : List Act) (s : State) → Tests i cs → i < length s.places → conds_hold cs s ≡ false → Passes (steps_items (map (when cs) acts)) s s
tested_acts_skipped i cs acts s t l e = let n = tested_acts_skip i cs acts s t l e in record { ready = n.0; used = n.1; ends = n.2; keeps = keeps_none s }
