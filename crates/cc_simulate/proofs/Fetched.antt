-- The pieces that fetch the arguments of a call: each leads to the next one, and the last to the first cut of the function.
use Rattle.std.proofs.Common.{◌≡◌, ℕ, suc, ◌+◌, ◌*◌, ◌-◌, ◌<◌, ◌≤◌, min, List, [], ◌∷◌, ◌++◌, length, take, drop, replicate, reverse, Bool, true, false, if◌then◌else◌, nat_lt, Option, Some, option_and_then, refl, sym, ap, ◌∙◌, subst, arith, ℤ, pos, append_assoc, append-nil, length-append, drop-drop}
use Rattle.std.specs.Prelude.{slice_get}
use Rattle.std.proofs.lemmas.Bool.{ltb-true, ltb-false}
use Rattle.std.proofs.lemmas.List.{reverse-append, length-take, length-take-le, length-drop, take-append-drop, take-take, drop-take, take_at, take_all, drop_at, drop_all, drop-append-le}
use Rattle.mc_nbt.specs.Tree.{Tree, select}
use Rattle.mc_nbt.specs.declared.value.Value.{Value}
use Rattle.mc_nbt.specs.declared.value.Value.TheVariants as values
use Rattle.wm_ast.specs.declared.module.Func.{Func}
use Rattle.wm_ast.specs.declared.module.FuncType.{FuncType}
use Rattle.wm_ast.specs.declared.module.Module.{Module}
use Rattle.wm_ast.specs.declared.module.ValType.{ValType}
use Rattle.wm_ast.specs.declared.module.ValType.TheVariants.{I32, I64, F32, F64}
use Rattle.wm_ast.specs.Store.{Store}
use Rattle.wm_ast.specs.Types.{const_type, run_types}
use Rattle.wm_flat.specs.Flat.{Activation}
use Rattle.wm_flat.specs.FlatTyping.{types_of, IsFunction}
use Rattle.wm_flat.specs.Program.{IsProgram}
use Rattle.wm_place.specs.Kinds.{Body}
use Rattle.wm_place.proofs.IntLemmas.{NoFloats}
use Rattle.wm_place.proofs.KindLemmas.{Typed}
use Rattle.cc_line.specs.Sight.{in_rest}
use Rattle.cc_line.specs.Key.{key_next, key_follows, PieceId, body_piece, id_tree}
use Rattle.cc_line.specs.Place.{score_places}
use Rattle.cc_line.specs.State.{State, at_key, with_tree, with_copy, selected}
use Rattle.cc_line.specs.Step.{Act, copy_site, after_act}
use Rattle.cc_call.specs.Fetch.{fetch_acts}
use Rattle.cc_call.specs.Frames.{next_acts}
use Rattle.cc_call.specs.Law.{Fetched, CallsWork}
use Rattle.cc_cut.specs.Law.{rank, widths}
use Rattle.cc_move.specs.Calls.{gives_of}
use Rattle.cc_move.specs.Law.{MovesFollow}
use Rattle.cc_pieces.specs.Fetching.{fetch_piece, fetched_acts, fetching_acts, fetching_items}
use Rattle.cc_body.specs.Pieces.{fetch_in, fetch_items}
use Rattle.cc_body.specs.Layout.{frame_size}
use Rattle.cc_body.proofs.Bounds.{locals_narrow}
use Rattle.cc_simulate.specs.Callers.{Waits, Waiting}
use Rattle.cc_simulate.specs.Law.{Enters}
use Rattle.cc_simulate.specs.Frame.{local_ints, stack_ints}
use Rattle.cc_simulate.specs.Stands.{RunsOver, ChangesFrameAlone, At, Passing, Fetching}
use Rattle.cc_simulate.specs.Stands as stands
use Rattle.cc_simulate.specs.Uses.{uses_bytes}
use Rattle.cc_simulate.proofs.Acts.{keeps_places, keeps_tree, calm_places, after_acts, ActsReady, ActsEnter, acts_end, append_enters}
use Rattle.cc_simulate.proofs.Behind.{kept_of, BehindCall, behind}
use Rattle.cc_simulate.proofs.FloatLemmas.{results_free}
use Rattle.cc_simulate.proofs.Frames.{types_append, widths_append}
use Rattle.cc_simulate.proofs.Made.{Higher, passing_on}
use Rattle.cc_simulate.proofs.Opened.{zeros_are, args_wide, gives_are, at_first}

-- values of these types, of which the last one stands first
one_more : (v : Value) (ts : List ValType) → (us : List Value) × (types_of us ≡ reverse ts) → (us : List Value) × (types_of us ≡ reverse (const_type v ∷ ts))
one_more v ts (us, types) = (us ++ v ∷ [], types_append us (v ∷ []) ∙ (ap (λ (l : List ValType). l ++ const_type v ∷ []) types ∙ sym (reverse-append (const_type v ∷ []) ts)))

some_values : (ts : List ValType) → NoFloats ts → (us : List Value) × (types_of us ≡ reverse ts)
some_values [] h = ([], refl)
some_values (I32 ∷ ts) h = one_more (values.I32 (pos 0)) ts (some_values ts h)
some_values (I64 ∷ ts) h = one_more (values.I64 (pos 0)) ts (some_values ts h)
some_values (F32 ∷ ts) h = absurd (let e : true ≡ false = h in cc)
some_values (F64 ∷ ts) h = absurd (let e : true ≡ false = h in cc)

-- ---- numbers

-- a part of the numbers that stand in an entry from one place on
part_is : (zs b : List ℤ) (z j n : ℕ) → take (length zs) (drop z b) ≡ zs → j + n ≤ length zs → take n (drop (z + j) b) ≡ take n (drop j zs)
part_is zs b z j n given l =
    let r : ℕ = length zs - j in
    let e : length zs ≡ j + r = omega arith in
    let few : n ≤ r = omega arith in
    let parts : take n (drop j zs) ≡ take n (drop j (drop z b)) =
    ap (λ (l : List ℤ). take n (drop j l)) (sym given)
    ∙ (ap (λ k. take n (drop j (take k (drop z b)))) e
    ∙ (ap (λ (l : List ℤ). take n l) (drop-take j r (drop z b)) ∙ take-take n r (drop j (drop z b)) few)) in
    ap (λ (l : List ℤ). take n l) (sym (drop-drop j z b)) ∙ sym parts

-- they stand there
part_within : (zs b : List ℤ) (z : ℕ) → take (length zs) (drop z b) ≡ zs → 0 < length zs → z + length zs ≤ length b
part_within zs b z given l =
    let e : length (take (length zs) (drop z b)) ≡ length zs = ap length given in
    let f = length-take (length zs) (drop z b) in
    let g = length-drop z b in
    omega arith

take_both : (zs : List ℤ) (j n : ℕ) → take j zs ++ take n (drop j zs) ≡ take (j + n) zs
take_both zs j n =
    let l : j ≤ j + n = omega arith in
    ap (λ (x : List ℤ). x ++ take n (drop j zs)) (sym (take-take j (j + n) zs l))
    ∙ (ap (λ (x : List ℤ). take j (take (j + n) zs) ++ x) (sym (drop-take j n zs)) ∙ take-append-drop j (take (j + n) zs))

-- some more of them are in their places
more_places : (zs missing rest : List ℤ) (j n : ℕ) → j + length missing ≡ length zs → n ≤ length missing
    → take j ((take j zs ++ missing) ++ rest) ++ (take n (drop j zs) ++ drop (j + n) ((take j zs ++ missing) ++ rest)) ≡ (take (j + n) zs ++ drop n missing) ++ rest
more_places zs missing rest j n e l =
    let s : List ℤ = (take j zs ++ missing) ++ rest in
    let parts : s ≡ take j zs ++ (missing ++ rest) = append_assoc (take j zs) missing rest in
    let long : length (take j zs) ≡ j = length-take-le j zs (omega arith) in
    let front : take j s ≡ take j zs = ap (λ (x : List ℤ). take j x) parts ∙ take_at (take j zs) (missing ++ rest) j long in
    let back : drop (j + n) s ≡ drop n missing ++ rest =
    sym (drop-drop n j s) ∙ (ap (λ (x : List ℤ). drop n (drop j x)) parts ∙ (ap (λ (x : List ℤ). drop n x) (drop_at (take j zs) (missing ++ rest) j long) ∙ drop-append-le n missing rest l)) in
    ap (λ (x : List ℤ). x ++ (take n (drop j zs) ++ drop (j + n) s)) front
    ∙ (ap (λ (x : List ℤ). take j zs ++ (take n (drop j zs) ++ x)) back
    ∙ (sym (append_assoc (take j zs) (take n (drop j zs)) (drop n missing ++ rest))
    ∙ (ap (λ (x : List ℤ). x ++ (drop n missing ++ rest)) (take_both zs j n) ∙ sym (append_assoc (take (j + n) zs) (drop n missing) rest))))

more_length : (zs missing rest : List ℤ) (j n : ℕ) → j + length missing ≡ length zs → n ≤ length missing → length ((take (j + n) zs ++ drop n missing) ++ rest) ≡ length ((take j zs ++ missing) ++ rest)
more_length zs missing rest j n e l =
    let a = length-append (take (j + n) zs ++ drop n missing) rest in
    let b = length-append (take (j + n) zs) (drop n missing) in
    let c : length (take (j + n) zs) ≡ j + n = length-take-le (j + n) zs (omega arith) in
    let d = length-drop n missing in
    let f = length-append (take j zs ++ missing) rest in
    let g = length-append (take j zs) missing in
    let h : length (take j zs) ≡ j = length-take-le j zs (omega arith) in
    omega arith

-- ---- the piece that is next

abbrev led : State → PieceId → State
led s p = with_tree s (at_key in_rest key_next) (Some (id_tree p))

-- ---- a piece that fetches

module _ (moves : MovesFollow) (works : CallsWork) (m : Module) (program : IsProgram m) (results : List ValType) (st : Store) (ds : List Activation) (c a : Activation) (k : ℕ) (s : State) (x : Fetching m ds c a k s)
    (f : Func) (t : FuncType) (is : IsFunction m a.func f t) (g : Func) (there : slice_get m.funcs c.func ≡ Some g) (caller : Typed m c.func g) where
  abbrev p : Passing m ds c a s
  p = x.passing

  abbrev w : Waits m a.func c p.entry
  w = p.waits

  abbrev zs : List ℤ
  zs = stack_ints p.args

  -- what stands behind the arguments
  abbrev rest : List ℤ
  rest = local_ints p.callee.zeros ++ x.junk

  abbrev z : ℕ
  z = length (kept_of c)

  -- so many are fetched
  abbrev n : ℕ
  n = min 304 (length zs - 304 * k)

  abbrev goal : State → Type 0
  goal = Higher m (suc k) (c ∷ ds) a

  abbrev acts : List Act
  acts = fetch_acts (z + 304 * k) (304 * k) n

  abbrev u : State
  u = after_acts acts s

  left : 304 * k < length zs
  left = x.some_left

  counted : 304 * k + length x.missing ≡ length zs
  counted = x.counted

  -- no function has more parameters, so the rank of its first cut is higher
  pub fetches_few : k < 8
  fetches_few =
      let wide : length zs ≡ widths t.params = args_wide moves m program a.func f t p.callee is p.is_callee p.args p.types in
      let narrow : widths (t.params ++ run_types f.locals) ≤ 2048 = locals_narrow m a.func f t program.profile is.there is.has_type in
      let both = widths_append t.params (run_types f.locals) in
      let l : 304 * k < length zs = left in
      omega arith

  -- ---- what is fetched

  record Has : Type 0 where
    ready : ActsReady acts s
    held : u.places ≡ (take (304 * k + n) zs ++ drop n x.missing) ++ rest
    sized : length u.places ≡ frame_size m a.func
    calm : RunsOver (uses_bytes m) (p.below ++ p.entry ∷ []) u
    scored : score_places ≤ length u.places
    keeps : ChangesFrameAlone s u
    follows : u.keys in_rest key_follows ≡ Some (id_tree (body_piece a.func 1))

  has : Has
  has =
      let l : 304 * k < length zs = left in
      let e : 304 * k + length x.missing ≡ length zs = counted in
      let given : take (length zs) (drop z p.entry.places) ≡ zs = p.given in
      let room : z + length zs ≤ length p.entry.places = part_within zs p.entry.places z given (omega arith) in
      let whole : length ((take (304 * k) zs ++ x.missing) ++ rest) ≡ length s.places = ap length (sym x.places) in
      let front = length-append (take (304 * k) zs ++ x.missing) rest in
      let both = length-append (take (304 * k) zs) x.missing in
      let long : length (take (304 * k) zs) ≡ 304 * k = length-take-le (304 * k) zs (omega arith) in
      let r = works.fetch (z + 304 * k) (304 * k) n p.below p.entry s p.calm.below (omega arith) (omega arith) in
      let done : Fetched (z + 304 * k) (304 * k) n p.entry s u = r.there in
      let part : take n (drop (z + 304 * k) p.entry.places) ≡ take n (drop (304 * k) zs) = part_is zs p.entry.places z (304 * k) n given (omega arith) in
      let held : u.places ≡ (take (304 * k + n) zs ++ drop n x.missing) ++ rest =
      done.places
      ∙ (ap (λ (y : List ℤ). take (304 * k) s.places ++ (y ++ drop (304 * k + n) s.places)) part
      ∙ (ap (λ (y : List ℤ). take (304 * k) y ++ (take n (drop (304 * k) zs) ++ drop (304 * k + n) y)) x.places ∙ more_places zs x.missing rest (304 * k) n e (omega arith))) in
      let same : length u.places ≡ length s.places = ap length held ∙ (more_length zs x.missing rest (304 * k) n e (omega arith) ∙ ap length (sym x.places)) in
      let scores : score_places ≤ length s.places = p.has_scores in
      record {
        ready = r.ready;
        held = held;
        sized = same ∙ x.sized;
        calm = calm_places (p.below ++ p.entry ∷ []) s u done.keys done.scores p.calm;
        scored = omega arith;
        keeps = keeps_places s u done.keys done.scores;
        follows = ap (λ q. q in_rest key_follows) done.keys ∙ x.follows;
      }

  calm_led : (q : PieceId) → RunsOver (uses_bytes m) (p.below ++ p.entry ∷ []) (led u q)
  calm_led q = record { trap = has.calm.trap; state = has.calm.state; ending = has.calm.ending; standing = has.calm.standing; below = has.calm.below }

  -- ---- what follows

  -- the next piece
  goes_on : 304 * suc k < length zs → ActsEnter (next_acts (fetch_piece c.func w.cut.index (suc k))) u goal
  goes_on more =
      let q : PieceId = fetch_piece c.func w.cut.index (suc k) in
      let e : 304 * k + length x.missing ≡ length zs = counted in
      let so_many : n ≡ 304 = omega arith in
      let up : 304 * k + n ≡ 304 * suc k = omega arith in
      let long = length-drop 304 x.missing in
      let fetches : Fetching m ds c a (suc k) (led u q) = record {
        passing = passing_on m ds c a s (led u q) p has.scored (calm_led q);
        named = refl;
        follows = has.follows;
        some_left = more;
        missing = drop 304 x.missing;
        junk = x.junk;
        places = has.held ∙ (ap (λ i. (take i zs ++ drop n x.missing) ++ rest) up ∙ ap (λ i. (take (304 * suc k) zs ++ drop i x.missing) ++ rest) so_many);
        counted = (let r : 304 * suc k + length (drop 304 x.missing) ≡ length zs = omega arith in r);
        sized = has.sized;
      } in
      record {
        ready = (tt, tt);
        there = (stands.fetching c ds (suc k) fetches refl, (let r : suc k < suc (suc k) = omega arith in r), λ st h. h);
        keeps = keeps_tree u (at_key in_rest key_next) (Some (id_tree q)) refl;
      }

  -- the frame is complete
  abbrev last : Act
  last = copy_site (at_key in_rest key_next) (at_key in_rest key_follows)

  complete : length zs ≤ 304 * suc k → At m (c ∷ ds) a (led u (body_piece a.func 1))
  complete all =
      let e : 304 * k + length x.missing ≡ length zs = counted in
      let l : 304 * k < length zs = left in
      let front : take (304 * k + n) zs ≡ zs = take_all (304 * k + n) zs (omega arith) in
      let none : drop n x.missing ≡ [] = drop_all n x.missing (omega arith) in
      let zeros : local_ints p.callee.zeros ≡ replicate (widths (run_types f.locals)) (pos 0) = zeros_are moves m program a.func f t p.callee is p.is_callee in
      let held : u.places ≡ (zs ++ replicate (widths (run_types f.locals)) (pos 0)) ++ x.junk =
      has.held
      ∙ (ap (λ (y : List ℤ). (y ++ drop n x.missing) ++ rest) front
      ∙ (ap (λ (y : List ℤ). (zs ++ y) ++ rest) none
      ∙ (ap (λ (y : List ℤ). y ++ rest) (append-nil zs)
      ∙ (sym (append_assoc zs (local_ints p.callee.zeros) x.junk) ∙ ap (λ (y : List ℤ). (zs ++ y) ++ x.junk) zeros)))) in
      let waiting : Waiting m a.func (c ∷ ds) (p.below ++ p.entry ∷ []) = (p.below, p.entry, refl, w, p.waiting) in
      subst (λ (b : Activation). At m (c ∷ ds) b (led u (body_piece a.func 1))) (sym p.is_opened)
      (at_first moves m program a.func f t p.callee is p.is_callee p.args p.types (c ∷ ds) (p.below ++ p.entry ∷ []) waiting (led u (body_piece a.func 1)) x.junk held has.sized refl (calm_led (body_piece a.func 1)))

  begins : length zs ≤ 304 * suc k → ActsEnter (last ∷ []) u goal
  begins all =
      let same : led u (body_piece a.func 1) ≡ after_act last u = ap (λ o. with_copy u (at_key in_rest key_next) o) {x = Some (id_tree (body_piece a.func 1))} {y = selected u (at_key in_rest key_follows)} (sym (ap (option_and_then (λ (y : Tree). select y [])) has.follows)) in
      let at : At m (c ∷ ds) a (led u (body_piece a.func 1)) = complete all in
      let low : k < 8 = fetches_few in
      let higher : goal (led u (body_piece a.func 1)) = (stands.at_cut at, (let r : suc k < 8 + suc (rank at.visit) = omega arith in r), λ st h. h) in
      record {
        ready = (tt, tt);
        there = subst goal same higher;
        keeps = subst (ChangesFrameAlone u) same (keeps_tree u (at_key in_rest key_next) (Some (id_tree (body_piece a.func 1))) refl);
      }

  follow : ActsEnter (fetched_acts (length zs) c.func w.cut.index k) u goal
  follow = by_test (nat_lt (304 * suc k) (length zs)) refl
    where
      by_test : (b : Bool) → nat_lt (304 * suc k) (length zs) ≡ b → ActsEnter (if b then next_acts (fetch_piece c.func w.cut.index (suc k)) else last ∷ []) u goal
      by_test true e = goes_on (ltb-true (304 * suc k) (length zs) e)
      by_test false e = begins (ltb-false (304 * suc k) (length zs) e)

  fetches : ActsEnter (fetching_acts z (length zs) c.func w.cut.index k) s goal
  fetches = append_enters goal acts (fetched_acts (length zs) c.func w.cut.index k) s has.ready has.keeps follow

  -- ---- the piece's items

  pub fetched_enters : Enters (fetch_items m c.func (suc w.is_piece.position) k w.piece w.type) s (Higher m (suc k) (c ∷ ds) a)
  fetched_enters =
      let gives : gives_of m a.func ≡ reverse t.results = gives_are m a.func f t is in
      let (vs, types) = some_values t.results (results_free m program f t is.has_type) in
      let back : BehindCall moves works m program results st ds p.below c p.waiting a.func p.entry w g there caller vs =
      behind moves works m program results st ds p.below c p.waiting a.func p.entry w g there caller vs (types ∙ sym gives) in
      subst (λ (o : Option Body). Enters (fetch_in m c.func (suc w.is_piece.position) k w.piece.cut w.type o) s goal) (sym caller.body)
      (subst (λ i. Enters (fetching_items i (widths w.type.params) c.func (suc w.is_piece.position) k) s goal) (sym back.under)
      (subst (λ i. Enters (fetching_items z i c.func (suc w.is_piece.position) k) s goal) p.takes
      (subst (λ i. Enters (fetching_items z (length zs) c.func i k) s goal) w.is_piece.is_index
      (acts_end goal (fetching_acts z (length zs) c.func w.cut.index k) s fetches))))
