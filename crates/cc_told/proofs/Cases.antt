-- Which cases of standing the name of a piece leaves.
use Rattle.std.proofs.Common.{◌≡◌, ℕ, zero, suc, ◌+◌, ◌*◌, ◌/◌, ◌<◌, ◌≤◌, ◌⊎◌, inl, inr, ⊎_elim, List, ◌∷◌, length, Bool, true, Some, refl, sym, ap, ◌∙◌, subst, arith}
use Rattle.std.specs.Prelude.{if◌then◌else◌}
use Rattle.std.proofs.lemmas.Option.{slice_get_within}
use Rattle.mc_nbt.specs.declared.value.Value.{Value}
use Rattle.mc_nbt.specs.declared.value.Value.TheVariants as values
use Rattle.wm_ast.specs.declared.module.Module.{Module}
use Rattle.wm_ast.specs.Store.{Callee, callee_of}
use Rattle.wm_valid.specs.Height.{Low}
use Rattle.wm_flat.specs.Flat.{Activation}
use Rattle.wm_flat.specs.Program.{IsProgram}
use Rattle.wm_place.proofs.LevelLemmas.{some_of}
use Rattle.cc_line.specs.Key.{PieceId, body_piece, init_piece, shared_piece, end_piece, id_tree}
use Rattle.cc_line.specs.Routine.{value_ints}
use Rattle.cc_line.specs.State.{State}
use Rattle.cc_call.specs.Frames.{first_opening, opening_piece}
use Rattle.cc_entries.specs.Law.{NameTells}
use Rattle.cc_entries.proofs.Telling.{names_tell}
use Rattle.cc_move.proofs.CallLemmas.{called}
use Rattle.cc_pieces.specs.Dividing.{dividing_piece}
use Rattle.cc_pieces.specs.Fetching.{are_many, args_of_fetch, fetches, most_fetches, first_fetch, fetch_piece}
use Rattle.cc_pieces.specs.Growing.{grower_index, grower_piece}
use Rattle.cc_pieces.specs.Law.{most_placers}
use Rattle.cc_pieces.specs.Placing.{first_placer, first_pair_placer, placers_from, placer}
use Rattle.cc_pieces.specs.Restoring.{first_restore, restore_piece}
use Rattle.cc_cut.specs.Law.{widths}
use Rattle.cc_body.specs.Placers.{function_placers}
use Rattle.cc_body.proofs.Arguments.{fetches_few}
use Rattle.cc_body.proofs.Bounds.{functions_are_few}
use Rattle.cc_body.proofs.LightPieces.{placers_few}
use Rattle.cc_simulate.specs.Frame.{stack_ints}
use Rattle.cc_simulate.specs.Stands.{Opening, Making, Fetching, Placing, Growing, Dividing, Standing, name_of}
use Rattle.cc_simulate.specs.Stands.{at_cut, opening, making, fetching, restoring, placing, growing, dividing}
use Rattle.cc_told.specs.Cases.{AtCut, BeforeCut, call_ended, division_done, OnTheWay, args_missing, turns_missing}
use Rattle.cc_told.specs.Cases.{AtOpening, few_passed, many_passed, AtPlacer, Names, IsOther}
use Rattle.cc_told.specs.Cases.{CutsAreNamed, RestoresAreNamed, FetchesAreNamed, OpeningsAreNamed, PlacersAreNamed, GrowersAreNamed, OthersAreNone}
use Rattle.cc_told.proofs.Cuts.{func_low, index_low}
use Rattle.cc_told.proofs.Names.{func_same, index_same, shared_same, dividing_same, dividing_no_shared}

-- ---- bounds

-- where arguments are left to fetch, few pieces have fetched others
count_low : (k params count : ℕ) → are_many params ≡ true → count ≡ params → args_of_fetch * k < count → fetches params ≤ most_fetches → k < most_fetches
count_low k params count many same left few =
    let e : fetches params ≡ (params + 303) / args_of_fetch = ap (λ (b : Bool). if b then (params + 303) / args_of_fetch else 0) many in
    let most : (params + 303) / args_of_fetch ≤ most_fetches = subst (λ (n : ℕ). n ≤ most_fetches) e few in
    omega arith

pub fetched_low : (m : Module) → IsProgram m → Low m → (ds : List Activation) (c a : Activation) (k : ℕ) (s : State) → Fetching m ds c a k s → k < most_fetches
fetched_low m program low ds c a k s x =
    let w = x.passing.waits in
    count_low k (widths w.type.params) (length (stack_ints x.passing.args)) x.passing.many x.passing.takes x.some_left
    (fetches_few m program low c.func w.is_piece.position w.piece w.type w.is_piece.is_piece w.behind)

-- a function that is called is there
pub callee_low : (m : Module) → IsProgram m → (n : ℕ) (c : Callee) → callee_of m n ≡ Some c → n < 8192
callee_low m program n c e =
    let w = called m n c e in
    let low : n < length m.funcs = slice_get_within m.funcs n w.func w.is_function.there in
    let few : length m.funcs ≤ 8192 = functions_are_few m program in
    omega arith

pub spot_low : (m : Module) → IsProgram m → Low m → (cs : List Activation) (a : Activation) (s : State) (x : Placing m cs a s) → x.spot < most_placers
spot_low m program low cs a s x =
    let most : function_placers m a.func ≤ most_placers = placers_few m program low a.func in
    let here : x.spot < function_placers m a.func = x.in_frame in
    omega arith

-- ---- indices of pieces that put values to places

pub one_or_two : (v : Value) → (length (value_ints v) ≡ 1) ⊎ (length (value_ints v) ≡ 2)
one_or_two (values.I32 z) = inl refl
one_or_two (values.I64 z) = inr refl

-- they count from one of two numbers
placer_between : (ints i j : ℕ) → (ints ≡ 1) ⊎ (ints ≡ 2) → placers_from ints + i ≡ j → (first_placer + i ≤ j) × (j ≤ first_pair_placer + i)
placer_between ints i j (inl e) h = let g : first_placer + i ≡ j = ap (λ (n : ℕ). placers_from n + i) (sym e) ∙ h in (omega arith, omega arith)
placer_between ints i j (inr e) h = let g : first_pair_placer + i ≡ j = ap (λ (n : ℕ). placers_from n + i) (sym e) ∙ h in (omega arith, omega arith)

placer_told : (n k i j : ℕ) → (n ≡ 1) ⊎ (n ≡ 2) → (k ≡ 1) ⊎ (k ≡ 2) → first_placer + i < first_pair_placer → first_placer + j < first_pair_placer
    → placers_from n + i ≡ placers_from k + j → (n ≡ k) × (i ≡ j)
placer_told n k i j (inl e) (inl f) x y h =
    let g : first_placer + i ≡ first_placer + j = ap (λ (z : ℕ). placers_from z + i) (sym e) ∙ h ∙ ap (λ (z : ℕ). placers_from z + j) f in
    (omega arith, omega arith)
placer_told n k i j (inl e) (inr f) x y h =
    let g : first_placer + i ≡ first_pair_placer + j = ap (λ (z : ℕ). placers_from z + i) (sym e) ∙ h ∙ ap (λ (z : ℕ). placers_from z + j) f in
    absurd (omega arith)
placer_told n k i j (inr e) (inl f) x y h =
    let g : first_pair_placer + i ≡ first_placer + j = ap (λ (z : ℕ). placers_from z + i) (sym e) ∙ h ∙ ap (λ (z : ℕ). placers_from z + j) f in
    absurd (omega arith)
placer_told n k i j (inr e) (inr f) x y h =
    let g : first_pair_placer + i ≡ first_pair_placer + j = ap (λ (z : ℕ). placers_from z + i) (sym e) ∙ h ∙ ap (λ (z : ℕ). placers_from z + j) f in
    (omega arith, omega arith)

no_lower : (ints i : ℕ) → (ints ≡ 1) ⊎ (ints ≡ 2) → placers_from ints + i < first_placer → ⊥
no_lower ints i (inl e) h = let g : first_placer + i < first_placer = subst (λ (n : ℕ). placers_from n + i < first_placer) e h in omega arith
no_lower ints i (inr e) h = let g : first_pair_placer + i < first_placer = subst (λ (n : ℕ). placers_from n + i < first_placer) e h in omega arith

within : (j : ℕ) → first_opening ≤ j → j ≤ grower_index → (j < first_opening) ⊎ (grower_index < j) → ⊥
within j least most (inl l) = omega arith
within j least most (inr g) = omega arith

-- ---- the name

module _ (m : Module) (program : IsProgram m) (low : Low m) (cs : List Activation) (a : Activation) (s : State) where
  standing_named : (x : Standing m cs a s) → Names (name_of m x) s
  standing_named (at_cut x) = x.named
  standing_named (opening x) = x.named
  standing_named (making c ds x e) = x.named
  standing_named (fetching c ds k x e) = x.named
  standing_named (restoring c us x e) = x.named
  standing_named (placing x) = x.named
  standing_named (growing x) = x.named
  standing_named (dividing x) = x.named

  name_tells : (x : Standing m cs a s) → NameTells (name_of m x)
  name_tells (at_cut x) = func_low m program a.func x.cut x.is_cut
  name_tells (opening x) = tt
  name_tells (making c ds x e) = tt
  name_tells (fetching c ds k x e) = func_low m program c.func x.passing.waits.cut x.passing.waits.is_cut
  name_tells (restoring c us x e) = func_low m program c.func x.waits.cut x.waits.is_cut
  name_tells (placing x) = tt
  name_tells (growing x) = tt
  name_tells (dividing x) = by_left x.left
    where
      by_left : (left : ℕ) → NameTells (dividing_piece a.func x.cut.index left)
      by_left zero = func_low m program a.func x.cut x.is_cut
      by_left (suc left) = func_low m program a.func x.cut x.is_cut

  name_is : (x : Standing m cs a s) (i : PieceId) → NameTells i → Names i s → name_of m x ≡ i
  name_is x i t e = names_tell (name_of m x) i (name_tells x) t (some_of (id_tree (name_of m x)) (id_tree i) (sym (standing_named x) ∙ e))

  -- ---- pieces of functions

  cut_case : (n j : ℕ) (x : Standing m cs a s) → j < first_restore → name_of m x ≡ body_piece n j → (0 < j) × AtCut m cs a s n j
  cut_case n j (at_cut x) l e =
      let i : x.cut.index ≡ j = index_same a.func n x.cut.index j e in
      let some : 0 < x.cut.index = (index_low m program a.func x.cut x.is_cut).0 in
      (omega arith, record { standing = x; in_func = func_same a.func n x.cut.index j e; is_index = i })
  cut_case n j (fetching c ds k x f) l e =
      let own : ℕ = first_fetch + (most_fetches * x.passing.waits.cut.index + k) in
      let i : first_fetch + (most_fetches * x.passing.waits.cut.index + k) ≡ j = index_same c.func n own j e in
      absurd (omega arith)
  cut_case n j (restoring c us x f) l e =
      let i : first_restore + x.waits.cut.index ≡ j = index_same c.func n (first_restore + x.waits.cut.index) j e in
      absurd (omega arith)
  cut_case n j (dividing x) l e =
      ⊎_elim
      (λ (h : (x.left ≡ 0) × (first_restore + x.cut.index ≡ j)). let i : first_restore + x.cut.index ≡ j = h.1 in absurd (omega arith))
      (λ (h : (0 < x.left) × (first_fetch + most_fetches * x.cut.index ≡ j)). let i : first_fetch + most_fetches * x.cut.index ≡ j = h.1 in absurd (omega arith))
      (dividing_same a.func n x.cut.index x.left j e).1
  cut_case n j _ l e = absurd cc

  before_case : (n j : ℕ) (x : Standing m cs a s) → j < first_restore → name_of m x ≡ restore_piece n j → BeforeCut m cs a s n j
  before_case n j (at_cut x) l e =
      let i : x.cut.index ≡ first_restore + j = index_same a.func n x.cut.index (first_restore + j) e in
      let most : x.cut.index < first_restore = (index_low m program a.func x.cut x.is_cut).1 in
      absurd (omega arith)
  before_case n j (fetching c ds k x f) l e =
      let own : ℕ = first_fetch + (most_fetches * x.passing.waits.cut.index + k) in
      let i : first_fetch + (most_fetches * x.passing.waits.cut.index + k) ≡ first_restore + j = index_same c.func n own (first_restore + j) e in
      absurd (omega arith)
  before_case n j (restoring c us x f) l e =
      let i : first_restore + x.waits.cut.index ≡ first_restore + j = index_same c.func n (first_restore + x.waits.cut.index) (first_restore + j) e in
      call_ended c us x f (func_same c.func n (first_restore + x.waits.cut.index) (first_restore + j) e) (omega arith)
  before_case n j (dividing x) l e =
      let w = dividing_same a.func n x.cut.index x.left (first_restore + j) e in
      ⊎_elim
      (λ (h : (x.left ≡ 0) × (first_restore + x.cut.index ≡ first_restore + j)).
      let i : first_restore + x.cut.index ≡ first_restore + j = h.1 in
      division_done x w.0 (omega arith) h.0)
      (λ (h : (0 < x.left) × (first_fetch + most_fetches * x.cut.index ≡ first_restore + j)).
      let i : first_fetch + most_fetches * x.cut.index ≡ first_restore + j = h.1 in
      absurd (omega arith))
      w.1
  before_case n j _ l e = absurd cc

  way_case : (n j k : ℕ) (x : Standing m cs a s) → k < most_fetches → name_of m x ≡ fetch_piece n j k → OnTheWay m cs a s n j k
  way_case n j k (at_cut x) l e =
      let i : x.cut.index ≡ first_fetch + (most_fetches * j + k) = index_same a.func n x.cut.index (first_fetch + (most_fetches * j + k)) e in
      let most : x.cut.index < first_restore = (index_low m program a.func x.cut x.is_cut).1 in
      absurd (omega arith)
  way_case n j k (fetching c ds h x f) l e =
      let own : ℕ = first_fetch + (most_fetches * x.passing.waits.cut.index + h) in
      let i : first_fetch + (most_fetches * x.passing.waits.cut.index + h) ≡ first_fetch + (most_fetches * j + k) =
      index_same c.func n own (first_fetch + (most_fetches * j + k)) e in
      let few : h < most_fetches = fetched_low m program low ds c a h s x in
      let same : h ≡ k = omega arith in
      subst (OnTheWay m cs a s n j) same
      (args_missing c ds x f (func_same c.func n own (first_fetch + (most_fetches * j + k)) e) (omega arith))
  way_case n j k (restoring c us x f) l e =
      let i : first_restore + x.waits.cut.index ≡ first_fetch + (most_fetches * j + k) =
      index_same c.func n (first_restore + x.waits.cut.index) (first_fetch + (most_fetches * j + k)) e in
      let most : x.waits.cut.index < first_restore = (index_low m program c.func x.waits.cut x.waits.is_cut).1 in
      absurd (omega arith)
  way_case n j k (dividing x) l e =
      let w = dividing_same a.func n x.cut.index x.left (first_fetch + (most_fetches * j + k)) e in
      let most : x.cut.index < first_restore = (index_low m program a.func x.cut x.is_cut).1 in
      ⊎_elim
      (λ (h : (x.left ≡ 0) × (first_restore + x.cut.index ≡ first_fetch + (most_fetches * j + k))).
      let i : first_restore + x.cut.index ≡ first_fetch + (most_fetches * j + k) = h.1 in
      absurd (omega arith))
      (λ (h : (0 < x.left) × (first_fetch + most_fetches * x.cut.index ≡ first_fetch + (most_fetches * j + k))).
      let i : first_fetch + most_fetches * x.cut.index ≡ first_fetch + (most_fetches * j + k) = h.1 in
      turns_missing x w.0 (omega arith) h.0 (omega arith))
      w.1
  way_case n j k _ l e = absurd cc

  -- ---- shared pieces

  -- the index of one that makes a frame, and of one that puts a value to its place
  opening_low : (c : Callee) (j : ℕ) → callee_of m a.func ≡ Some c → opening_piece a.func ≡ shared_piece j → (first_opening + a.func ≡ j) × (j < first_placer)
  opening_low c j found e =
      let i : first_opening + a.func ≡ j = shared_same (first_opening + a.func) j e in
      let few : a.func < 8192 = callee_low m program a.func c found in
      (i, omega arith)

  placing_between : (x : Placing m cs a s) (j : ℕ) → placer (length (value_ints x.value)) x.spot ≡ shared_piece j → (first_placer ≤ j) × (j < grower_index)
  placing_between x j e =
      let b = placer_between (length (value_ints x.value)) x.spot j (one_or_two x.value) (shared_same (placers_from (length (value_ints x.value)) + x.spot) j e) in
      let least : first_placer + x.spot ≤ j = b.0 in
      let most : j ≤ first_pair_placer + x.spot = b.1 in
      let few : x.spot < most_placers = spot_low m program low cs a s x in
      (omega arith, omega arith)

  opening_case : (n : ℕ) (x : Standing m cs a s) → first_opening + n < first_placer → name_of m x ≡ opening_piece n → AtOpening m cs a s n
  opening_case n (opening x) l e =
      let i : first_opening + a.func ≡ first_opening + n = shared_same (first_opening + a.func) (first_opening + n) e in
      few_passed x (omega arith)
  opening_case n (making c ds x f) l e =
      let i : first_opening + a.func ≡ first_opening + n = shared_same (first_opening + a.func) (first_opening + n) e in
      many_passed c ds x f (omega arith)
  opening_case n (placing x) l e = absurd (let least : first_placer ≤ first_opening + n = (placing_between x (first_opening + n) e).0 in omega arith)
  opening_case n (growing x) l e = absurd (let i : grower_index ≡ first_opening + n = shared_same grower_index (first_opening + n) e in omega arith)
  opening_case n (dividing x) l e = absurd (dividing_no_shared a.func x.cut.index x.left (first_opening + n) e)
  opening_case n _ l e = absurd cc

  placer_case : (ints i : ℕ) (x : Standing m cs a s) → (ints ≡ 1) ⊎ (ints ≡ 2) → first_placer + i < first_pair_placer → name_of m x ≡ placer ints i → AtPlacer m cs a s ints i
  placer_case ints i (opening x) w l e = absurd (no_lower ints i w (opening_low x.callee (placers_from ints + i) x.is_callee e).1)
  placer_case ints i (making c ds x f) w l e = absurd (no_lower ints i w (opening_low x.passing.callee (placers_from ints + i) x.passing.is_callee e).1)
  placer_case ints i (placing x) w l e =
      let few : x.spot < most_placers = spot_low m program low cs a s x in
      let same = placer_told (length (value_ints x.value)) ints x.spot i (one_or_two x.value) w (omega arith) l
      (shared_same (placers_from (length (value_ints x.value)) + x.spot) (placers_from ints + i) e) in
      record { standing = x; is_wide = same.0; is_spot = same.1 }
  placer_case ints i (growing x) w l e =
      let most : grower_index ≤ first_pair_placer + i =
      (placer_between ints i grower_index w (sym (shared_same grower_index (placers_from ints + i) e))).1 in
      absurd (omega arith)
  placer_case ints i (dividing x) w l e = absurd (dividing_no_shared a.func x.cut.index x.left (placers_from ints + i) e)
  placer_case ints i _ w l e = absurd cc

  grower_case : (x : Standing m cs a s) → name_of m x ≡ grower_piece → Growing m cs a s
  grower_case (growing x) e = x
  grower_case (opening x) e = absurd (let most : grower_index < first_placer = (opening_low x.callee grower_index x.is_callee e).1 in omega arith)
  grower_case (making c ds x f) e =
      absurd (let most : grower_index < first_placer = (opening_low x.passing.callee grower_index x.passing.is_callee e).1 in omega arith)
  grower_case (placing x) e = absurd (let most : grower_index < grower_index = (placing_between x grower_index e).1 in omega arith)
  grower_case (dividing x) e = absurd (dividing_no_shared a.func x.cut.index x.left grower_index e)
  grower_case _ e = absurd cc

  -- ---- none of these

  shared_case : (j : ℕ) (x : Standing m cs a s) → (j < first_opening) ⊎ (grower_index < j) → name_of m x ≡ shared_piece j → ⊥
  shared_case j (opening x) h e =
      let o = opening_low x.callee j x.is_callee e in
      let i : first_opening + a.func ≡ j = o.0 in
      let most : j < first_placer = o.1 in
      within j (omega arith) (omega arith) h
  shared_case j (making c ds x f) h e =
      let o = opening_low x.passing.callee j x.passing.is_callee e in
      let i : first_opening + a.func ≡ j = o.0 in
      let most : j < first_placer = o.1 in
      within j (omega arith) (omega arith) h
  shared_case j (placing x) h e =
      let o = placing_between x j e in
      let least : first_placer ≤ j = o.0 in
      let most : j < grower_index = o.1 in
      within j (omega arith) (omega arith) h
  shared_case j (growing x) h e = let i : grower_index ≡ j = shared_same grower_index j e in within j (omega arith) (omega arith) h
  shared_case j (dividing x) h e = dividing_no_shared a.func x.cut.index x.left j e
  shared_case j _ h e = cc

  init_case : (j : ℕ) (x : Standing m cs a s) → name_of m x ≡ init_piece j → ⊥
  init_case j (dividing x) e = by_left x.left e
    where
      by_left : (left : ℕ) → dividing_piece a.func x.cut.index left ≡ init_piece j → ⊥
      by_left zero f = cc
      by_left (suc left) f = cc
  init_case j _ e = cc

  end_case : (w : ℕ) (x : Standing m cs a s) → name_of m x ≡ end_piece w → ⊥
  end_case w (dividing x) e = by_left x.left e
    where
      by_left : (left : ℕ) → dividing_piece a.func x.cut.index left ≡ end_piece w → ⊥
      by_left zero f = cc
      by_left (suc left) f = cc
  end_case w _ e = cc

  other_case : (i : PieceId) (x : Standing m cs a s) → IsOther i → Names i s → ⊥
  other_case (body_piece n j) x h e =
      let none : j ≡ 0 = h.1 in
      let some : 0 < j = (cut_case n j x (omega arith) (name_is x (body_piece n j) h.0 e)).0 in
      omega arith
  other_case (init_piece j) x h e = init_case j x (name_is x (init_piece j) tt e)
  other_case (shared_piece j) x h e = shared_case j x h (name_is x (shared_piece j) tt e)
  other_case (end_piece w) x h e = end_case w x (name_is x (end_piece w) tt e)

-- ---- laws

pub cuts_are_named : CutsAreNamed
cuts_are_named m program low cs a s x n j f l e = cut_case m program low cs a s n j x l (name_is m program low cs a s x (body_piece n j) f e)

pub restores_are_named : RestoresAreNamed
restores_are_named m program low cs a s x n j f l e =
    before_case m program low cs a s n j x l (name_is m program low cs a s x (restore_piece n j) f e)

pub fetches_are_named : FetchesAreNamed
fetches_are_named m program low cs a s x n j k f l e =
    way_case m program low cs a s n j k x l (name_is m program low cs a s x (fetch_piece n j k) f e)

pub openings_are_named : OpeningsAreNamed
openings_are_named m program low cs a s x n l e = opening_case m program low cs a s n x l (name_is m program low cs a s x (opening_piece n) tt e)

pub placers_are_named : PlacersAreNamed
placers_are_named m program low cs a s x ints i w l e =
    placer_case m program low cs a s ints i x w l (name_is m program low cs a s x (placer ints i) tt e)

pub growers_are_named : GrowersAreNamed
growers_are_named m program low cs a s x e = grower_case m program low cs a s x (name_is m program low cs a s x grower_piece tt e)

pub others_are_none : OthersAreNone
others_are_none m program low cs a s x i h e = other_case m program low cs a s i x h e
