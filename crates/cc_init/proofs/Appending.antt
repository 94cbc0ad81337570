-- The acts that append globals: they fit, each weighs one, and the globals stand behind them.
use Rattle.std.proofs.Common.{◌≡◌, ℕ, suc, ◌+◌, ◌*◌, ◌/◌, ◌≤◌, ◌<◌, List, [], ◌∷◌, ◌++◌, length, map, replicate, Option, Some, Bool, true, false, refl, sym, ap, ◌∙◌, subst, arith, append_assoc, length-append, ℤ, pos, negsuc, slice_get, slice_set}
use Rattle.std.specs.Prelude.{option_and_then, All, ◌&&◌, if◌then◌else◌}
use Rattle.std.specs.Str.{bytes_eq}
use Rattle.std.specs.Int.{w32, int_wrap}
use Rattle.std.specs.List.{list_all}
use Rattle.std.proofs.lemmas.Bool.{lt-ltb, ltb-true}
use Rattle.std.proofs.lemmas.Int.{SFits-int_wrap}
use Rattle.std.proofs.lemmas.List.{append-nil, map-append, length-map}
use Rattle.std.proofs.lemmas.List.Elements.{All-head, All-tail}
use lib.Signed.{mag}
use Rattle.mc_nbt.specs.Path.{is_path}
use Rattle.mc_nbt.specs.Tree.{Tree, int, list_of, add_to}
use Rattle.mc_nbt.specs.Word.{is_int, is_long, is_key}
use Rattle.mc_nbt.specs.declared.value.Value.{Value}
use Rattle.mc_nbt.specs.declared.value.Value.TheVariants as values
use Rattle.mc_nbt.proofs.TreeLemmas.{of_items-items}
use Rattle.mc_cmd.specs.Form.{Text}
use Rattle.mc_cmd.specs.Pack.{high_half}
use Rattle.mc_cmd.proofs.FormLemmas.{and_both, and_first, and_second}
use Rattle.wm_ast.specs.declared.module.Limits.{Limits}
use Rattle.wm_ast.specs.declared.module.Module.{Module}
use Rattle.wm_valid.specs.InRange.{IsInRange}
use Rattle.cc_line.specs.Sight.{Store, in_io, in_memory, in_rest, same_store}
use Rattle.cc_line.specs.Key.{key_memory, key_globals, key_filling}
use Rattle.cc_line.specs.Fit.{site_fits, tree_fits, act_fits}
use Rattle.cc_line.specs.State.{State, at_key, ints, with_append, with_set, with_tree, append_under, within_key}
use Rattle.cc_line.specs.Step.{Act, run_act, append_value_to, step_weight}
use Rattle.cc_line.proofs.TableLemmas.{int_plain, plain_fits}
use Rattle.cc_line.specs.Routine.{value_ints}
use Rattle.cc_call.specs.Acts.{after_acts, ActsReady}
use Rattle.cc_sched.specs.Charge.{act_avoids_sched}
use Rattle.cc_simulate.specs.Stored.{globals_tree, HasPages}
use Rattle.cc_body.specs.Storage.{global_site}
use Rattle.cc_pieces.proofs.Fits.{int_is, zeros_fit}
use Rattle.cc_simulate.proofs.GlobalInts.{lists_tree, with_lists, lists_are, lists_within, int_written}
use Rattle.cc_simulate.proofs.MemoryLemmas.{pages_stay}
use Rattle.cc_init.specs.Init.{ints_acts, globals_acts}

-- ---- the values

-- zeros, as many as a value has ints
abbrev pub zeros_for : Value → List ℤ
zeros_for v = replicate (length (value_ints v)) (pos 0)

pub few_ints : (v : Value) → length (value_ints v) ≤ 2
few_ints (values.I32 z) = omega arith
few_ints (values.I64 z) = omega arith

-- ints in their range
abbrev AreInts : List ℤ → Type 0
AreInts [] = Unit {0}
AreInts (z ∷ zs) = (is_int z ≡ true) × AreInts zs

low_is : (z : ℤ) → is_int (int_wrap w32 z) ≡ true
low_is z = lt-ltb (mag (int_wrap w32 z)) 2147483648 (SFits-int_wrap w32 z).sfits

high_is : (z : ℤ) → is_long z ≡ true → is_int (high_half z) ≡ true
high_is (pos n) r = let l = ltb-true n 9223372036854775808 r in lt-ltb (n / 4294967296) 2147483648 (omega arith)
high_is (negsuc n) r = let l = ltb-true n 9223372036854775808 r in lt-ltb (n / 4294967296) 2147483648 (omega arith)

value_in : (v : Value) → IsInRange v → AreInts (value_ints v)
value_in (values.I32 z) r = (r, tt)
value_in (values.I64 z) r = (low_is z, (high_is z r, tt))

-- ---- that they fit

pub parts_all : (p : Act → Bool) (xs ys : List Act) → list_all p xs ≡ true → list_all p ys ≡ true → list_all p (xs ++ ys) ≡ true
parts_all p [] ys h g = g
parts_all p (x ∷ xs) ys h g = and_both _ _ (and_first _ _ h) (parts_all p xs ys (and_second (p x) _ h) g)

append_fits : (v : Value) → act_fits (append_value_to (at_key in_memory key_globals) (ints (zeros_for v))) ≡ true
unfolding is_path is_key
append_fits (values.I32 z) = and_both _ _ refl (zeros_fit 1 (omega arith))
append_fits (values.I64 z) = and_both _ _ refl (zeros_fit 2 (omega arith))

site_is : (x k : ℕ) → x < 2147483648 → k < 2147483648 → site_fits (global_site x k) ≡ true
unfolding is_path is_key
site_is x k h l = and_both _ _ (and_both _ _ (int_is x h) (and_both _ _ (int_is k l) refl)) refl

int_fits : (z : ℤ) → is_int z ≡ true → tree_fits (int z) ≡ true
int_fits z h = (plain_fits 0 1 11 (int z) (int_plain z h) (omega arith) (omega arith)).0

ints_fit : (zs : List ℤ) (x k : ℕ) → x < 2147483648 → k + length zs ≤ 2147483647 → AreInts zs → list_all act_fits (ints_acts x k zs) ≡ true
ints_fit [] x k h l a = refl
ints_fit (z ∷ zs) x k h l a = and_both _ _ (and_both _ _ (site_is x k h (omega arith)) (int_fits z a.0)) (ints_fit zs x (suc k) h (omega arith) a.1)

pub globals_fit : (vs : List Value) (x : ℕ) → x + length vs ≤ 2147483647 → All IsInRange vs
    → list_all act_fits (globals_acts x vs) ≡ true
globals_fit [] x l h = refl
globals_fit (v ∷ vs) x l h =
    let short : length (value_ints v) ≤ 2 = few_ints v in
    and_both _ _ (append_fits v)
    (parts_all act_fits (ints_acts x 0 (value_ints v)) (globals_acts (suc x) vs)
    (ints_fit (value_ints v) x 0 (omega arith) (omega arith) (value_in v (All-head IsInRange v vs h)))
    (globals_fit vs (suc x) (omega arith) (All-tail IsInRange v vs h)))

ints_avoid : (zs : List ℤ) (x k : ℕ) → list_all act_avoids_sched (ints_acts x k zs) ≡ true
ints_avoid [] x k = refl
ints_avoid (z ∷ zs) x k = ints_avoid zs x (suc k)

pub globals_avoid : (vs : List Value) (x : ℕ) → list_all act_avoids_sched (globals_acts x vs) ≡ true
globals_avoid [] x = refl
globals_avoid (v ∷ vs) x = parts_all act_avoids_sched (ints_acts x 0 (value_ints v)) (globals_acts (suc x) vs) (ints_avoid (value_ints v) x 0) (globals_avoid vs (suc x))

-- acts that weigh one each
abbrev pub AreSimple : List Act → Type 0
AreSimple [] = Unit {0}
AreSimple (a ∷ acts) = (step_weight (run_act a) ≡ 1) × AreSimple acts

pub simple_both : (xs ys : List Act) → AreSimple xs → AreSimple ys → AreSimple (xs ++ ys)
simple_both [] ys f g = g
simple_both (x ∷ xs) ys f g = (f.0, simple_both xs ys f.1 g)

ints_simple : (zs : List ℤ) (x k : ℕ) → AreSimple (ints_acts x k zs)
ints_simple [] x k = tt
ints_simple (z ∷ zs) x k = (refl, ints_simple zs x (suc k))

pub globals_simple : (vs : List Value) (x : ℕ) → AreSimple (globals_acts x vs)
globals_simple [] x = tt
globals_simple (v ∷ vs) x = (refl, simple_both (ints_acts x 0 (value_ints v)) (globals_acts (suc x) vs) (ints_simple (value_ints v) x 0) (globals_simple vs (suc x)))

ints_length : (zs : List ℤ) (x k : ℕ) → length (ints_acts x k zs) ≡ length zs
ints_length [] x k = refl
ints_length (z ∷ zs) x k = ap suc (ints_length zs x (suc k))

pub globals_length : (vs : List Value) (x : ℕ) → length (globals_acts x vs) ≤ 3 * length vs
globals_length [] x = omega arith
globals_length (v ∷ vs) x =
    let e : length (globals_acts (suc x) vs) ≤ 3 * length vs = globals_length vs (suc x) in
    let a : length (ints_acts x 0 (value_ints v)) ≡ length (value_ints v) = ints_length (value_ints v) x 0 in
    let b : length (value_ints v) ≤ 2 = few_ints v in
    let c : length (ints_acts x 0 (value_ints v) ++ globals_acts (suc x) vs) ≡ length (ints_acts x 0 (value_ints v)) + length (globals_acts (suc x) vs) = length-append (ints_acts x 0 (value_ints v)) (globals_acts (suc x) vs) in
    let r : suc (length (ints_acts x 0 (value_ints v) ++ globals_acts (suc x) vs)) ≤ 3 * suc (length vs) = omega arith in
    r

-- ---- what they do

ints_ready : (zs : List ℤ) (x k : ℕ) (rest : List Act) (s : State) → ((t : State) → ActsReady rest t) → ActsReady (ints_acts x k zs ++ rest) s
ints_ready [] x k rest s h = h s
ints_ready (z ∷ zs) x k rest s h = (tt, ints_ready zs x (suc k) rest _ h)

pub globals_ready : (vs : List Value) (x : ℕ) (s : State) → ActsReady (globals_acts x vs) s
globals_ready [] x s = tt
globals_ready (v ∷ vs) x s = (tt, ints_ready (value_ints v) x 0 (globals_acts (suc x) vs) _ (λ t. globals_ready vs (suc x) t))

-- a list of ints more
adds : (zss : List (List ℤ)) (zs : List ℤ) → add_to (ints zs) (lists_tree zss) ≡ Some (lists_tree (zss ++ (zs ∷ [])))
adds [] zs = refl
adds (ys ∷ zss) zs =
    ap (λ (us : List Tree). Some (list_of (ints ys ∷ (us ++ (ints zs ∷ []))))) (of_items-items (map ints zss))
    ∙ ap (λ (us : List Tree). Some (list_of (ints ys ∷ us))) (sym (map-append ints zss (zs ∷ [])))

appended : (s : State) (zss : List (List ℤ)) (zs : List ℤ) → s.keys in_memory key_globals ≡ Some (lists_tree zss)
    → with_append s (at_key in_memory key_globals) (ints zs) ≡ with_lists s (zss ++ (zs ∷ []))
appended s zss zs h =
    ap (λ (o : Option Tree). with_tree s (at_key in_memory key_globals) (option_and_then within_key (append_under o [] (ints zs)))) h
    ∙ (ap (λ (o : Option Tree). with_tree s (at_key in_memory key_globals) (option_and_then within_key o)) (adds zss zs)
    ∙ ap (λ (o : Option Tree). with_tree s (at_key in_memory key_globals) o) (lists_within (zss ++ (zs ∷ []))))

last_is : {A : Type 0} (xs : List A) (x : A) → slice_get (xs ++ (x ∷ [])) (length xs) ≡ Some x
last_is [] x = refl
last_is (y ∷ xs) x = last_is xs x

last_set : {A : Type 0} (xs : List A) (x y : A) → slice_set (xs ++ (x ∷ [])) (length xs) y ≡ xs ++ (y ∷ [])
last_set [] x y = refl
last_set {A} (z ∷ xs) x y = ap (λ (l : List A). z ∷ l) (last_set xs x y)

-- an element behind others
seam_is : (pre : List ℤ) (y : ℤ) (rest : List ℤ) → slice_get (pre ++ (y ∷ rest)) (length pre) ≡ Some y
seam_is [] y rest = refl
seam_is (p ∷ pre) y rest = seam_is pre y rest

seam_set : (pre : List ℤ) (y z : ℤ) (rest : List ℤ) → slice_set (pre ++ (y ∷ rest)) (length pre) z ≡ (pre ++ (z ∷ [])) ++ rest
seam_set [] y z rest = refl
seam_set (p ∷ pre) y z rest = ap (λ (l : List ℤ). p ∷ l) (seam_set pre y z rest)

-- the globals are these, and nothing else has changed
pub record Grown (s t : State) (gs : List Value) : Type 0 where
  pub places : t.places ≡ s.places
  pub scores : t.scores ≡ s.scores
  pub globals : t.keys in_memory key_globals ≡ Some (globals_tree gs)
  pub memory : t.keys in_memory key_memory ≡ s.keys in_memory key_memory
  pub io : (k : Text) → t.keys in_io k ≡ s.keys in_io k
  pub rest : (k : Text) → t.keys in_rest k ≡ s.keys in_rest k

-- with no pages as before
pub grown_pages : (ls : List Limits) (s t : State) (gs : List Value) → Grown s t gs → HasPages ls [] s → HasPages ls [] t
grown_pages ls s t gs g h = pages_stay [] s t g.memory (g.rest key_filling) (λ j a b c d. ap (λ (f : Text → Option ℤ). f j) g.scores) ls h

-- lists that replace others
replaced : (s : State) (yss zss : List (List ℤ)) → with_lists (with_lists s yss) zss ≡ with_lists s zss
replaced s yss zss = λ i. record s { keys = λ r j. over r j (same_store in_memory r && bytes_eq key_globals j) i }
  where
    over : (r : Store) (j : Text) (b : Bool)
        → (if b then Some (lists_tree zss) else (if b then Some (lists_tree yss) else s.keys r j))
        ≡ (if b then Some (lists_tree zss) else s.keys r j)
    over r j true = refl
    over r j false = refl

-- The ints of the last list, the first ones of which are set, are set one after the other.
ints_set : (us pre : List ℤ) (zss : List (List ℤ)) (s : State) (rest : List Act)
    → after_acts (ints_acts (length zss) (length pre) us ++ rest) (with_lists s (zss ++ ((pre ++ replicate (length us) (pos 0)) ∷ [])))
    ≡ after_acts rest (with_lists s (zss ++ ((pre ++ us) ∷ [])))
ints_set [] pre zss s rest = refl
ints_set (u ∷ us) pre zss s rest =
    let zeros : List ℤ = replicate (length us) (pos 0) in
    let old : List ℤ = pre ++ (pos 0 ∷ zeros) in
    let t : State = with_lists s (zss ++ (old ∷ [])) in
    let one : with_set t (global_site (length zss) (length pre)) (int u) ≡ with_lists s (zss ++ (((pre ++ (u ∷ [])) ++ zeros) ∷ [])) =
    int_written t (zss ++ (old ∷ [])) (length zss) (length pre) old refl (last_is zss old) (pos 0) u (seam_is pre (pos 0) zeros)
    ∙ (ap (λ (zs : List ℤ). with_lists t (slice_set (zss ++ (old ∷ [])) (length zss) zs)) (seam_set pre (pos 0) u zeros)
    ∙ (ap (with_lists t) (last_set zss old ((pre ++ (u ∷ [])) ++ zeros))
    ∙ replaced s (zss ++ (old ∷ [])) (zss ++ (((pre ++ (u ∷ [])) ++ zeros) ∷ []))))
    in
    let long : length (pre ++ (u ∷ [])) ≡ suc (length pre) = (let e = length-append pre (u ∷ []) in omega arith) in
    ap (after_acts (ints_acts (length zss) (suc (length pre)) us ++ rest)) one
    ∙ (ap (λ (k : ℕ). after_acts (ints_acts (length zss) k us ++ rest) (with_lists s (zss ++ (((pre ++ (u ∷ [])) ++ zeros) ∷ [])))) (sym long)
    ∙ (ints_set us (pre ++ (u ∷ [])) zss s rest
    ∙ ap (λ (zs : List ℤ). after_acts rest (with_lists s (zss ++ (zs ∷ [])))) (append_assoc pre (u ∷ []) us)))

-- a global is appended
one_more : (v : Value) (gs : List Value) (x : ℕ) (s : State) (rest : List Act) → length gs ≡ x → s.keys in_memory key_globals ≡ Some (globals_tree gs)
    → after_acts (append_value_to (at_key in_memory key_globals) (ints (zeros_for v)) ∷ (ints_acts x 0 (value_ints v) ++ rest)) s
    ≡ after_acts rest (with_lists s (map value_ints (gs ++ (v ∷ []))))
one_more v gs x s rest l h =
    let zss : List (List ℤ) = map value_ints gs in
    let here : s.keys in_memory key_globals ≡ Some (lists_tree zss) = h ∙ ap (λ (t : Tree). Some t) (lists_are gs) in
    let at : x ≡ length zss = sym l ∙ sym (length-map gs value_ints) in
    ap (after_acts (ints_acts x 0 (value_ints v) ++ rest)) (appended s zss (zeros_for v) here)
    ∙ (ap (λ (i : ℕ). after_acts (ints_acts i 0 (value_ints v) ++ rest) (with_lists s (zss ++ (zeros_for v ∷ [])))) at
    ∙ (ints_set (value_ints v) [] zss s rest
    ∙ ap (λ (l : List (List ℤ)). after_acts rest (with_lists s l)) (sym (map-append value_ints gs (v ∷ [])))))

module _ (m : Module) where
  -- while no page stands
  pub grows : (vs : List Value) (x : ℕ) (gs : List Value) (s : State) → length gs ≡ x
      → s.keys in_memory key_globals ≡ Some (globals_tree gs) → HasPages m.mems [] s
      → Grown s (after_acts (globals_acts x vs) s) (gs ++ vs)
  grows [] x gs s l h k = record {
    places = refl;
    scores = refl;
    globals = h ∙ ap (λ us. Some (globals_tree us)) (sym (append-nil gs));
    memory = refl;
    io = λ q. refl;
    rest = λ q. refl;
  }
  grows (v ∷ vs) x gs s l h k =
      let t : State = with_lists s (map value_ints (gs ++ (v ∷ []))) in
      let long : length (gs ++ (v ∷ [])) ≡ length gs + 1 = length-append gs (v ∷ []) in
      let next : length (gs ++ (v ∷ [])) ≡ suc x = omega arith in
      let here : t.keys in_memory key_globals ≡ Some (globals_tree (gs ++ (v ∷ []))) = ap (λ (u : Tree). Some u) (sym (lists_are (gs ++ (v ∷ [])))) in
      let g : Grown t (after_acts (globals_acts (suc x) vs) t) ((gs ++ (v ∷ [])) ++ vs) = grows vs (suc x) (gs ++ (v ∷ [])) t next here (pages_stay [] s t refl refl (λ j b c d e. refl) m.mems k) in
      subst (λ (u : State). Grown s u (gs ++ (v ∷ vs))) (sym (one_more v gs x s (globals_acts (suc x) vs) l h)) (record {
        places = g.places;
        scores = g.scores;
        globals = g.globals ∙ ap (λ us. Some (globals_tree us)) (append_assoc gs (v ∷ []) vs);
        memory = g.memory;
        io = g.io;
        rest = g.rest;
      })
