-- In a module without floats no operand is a float.
use Rattle.std.proofs.Common.{◌≡◌, ℕ, zero, suc, ◌^◌, ◌<◌, List, [], ◌∷◌, ◌++◌, length, drop, get_or, reverse, replicate, nat_le, Bool, true, false, ◌||◌, Option, Some, None, option_map, refl, sym, ap, ◌∙◌, subst, arith}
use Rattle.std.specs.Prelude.{slice_get}
use Rattle.std.specs.List.{list_any}
use Rattle.std.proofs.lemmas.List.{reverse-append}
use Rattle.std.proofs.lemmas.List.Folds.{list_any-append}
use Rattle.std.proofs.lemmas.Option.{slice_get-map, get_or_from_slice_get, slice_get_within}
use Rattle.mc_nbt.specs.declared.value.Value.{Value}
use Rattle.mc_nbt.specs.declared.value.Value.TheVariants as values
use Rattle.wm_ast.specs.declared.module.ValType.{ValType}
use Rattle.wm_ast.specs.declared.module.ValType.TheVariants.{I32}
use Rattle.wm_ast.specs.declared.module.FuncType.{FuncType}
use Rattle.wm_ast.specs.declared.module.Func.{Func}
use Rattle.wm_ast.specs.declared.module.Global.{Global}
use Rattle.wm_ast.specs.declared.module.Limits.{Limits}
use Rattle.wm_ast.specs.declared.module.Module.{Module}
use Rattle.wm_ast.specs.declared.module.Run.{Run}
use Rattle.wm_ast.specs.declared.operation.NumOp.{NumOp}
use Rattle.wm_ast.specs.declared.operation.NumOp.TheVariants.{I32Eqz}
use Rattle.wm_ast.specs.declared.operation.LoadOp.{LoadOp}
use Rattle.wm_ast.specs.declared.operation.LoadOp.TheVariants.{I32Load}
use Rattle.wm_ast.specs.Code.{Op, nop, block, loop, if_else, br_if, call, call_indirect, drop_one, select, local_get, local_set, local_tee, global_get, global_set, load, store, memory_size, memory_grow, memory_copy, memory_fill, const, num, Code, nil, cons}
use Rattle.wm_ast.specs.Operation.{Arrow, num_type, load_type, load_width, store_type, store_width}
use Rattle.wm_ast.specs.Profile.{HasNoFloat, is_float, is_float_result, is_float_op, is_float_run, has_float_type, has_float_code, has_float_global, has_float_function, op_and_inside, all_ops, global_code, function_code}
use Rattle.wm_ast.specs.Types.{results_of, const_type, run_types, function_type}
use Rattle.wm_valid.specs.Typing.{GlobalType, global_type, Scope, body_scope}
use Rattle.wm_valid.specs.Place.{front, after_front}
use Rattle.wm_valid.specs.Arrows.{has_first, arrow, on_memory, access, call_type, indirect, placed, set_type, arrow_of, Change, changes, changed, by_arrow, change}
use Rattle.wm_valid.specs.PlaceReading.{run}
use Rattle.wm_valid.proofs.OperandLaws.{bind_some, if_some, some_is}
use Rattle.wm_valid.proofs.ArrowLaws.{call_some, call_arrow}
use Rattle.wm_valid.proofs.PlaceLaws.{of_arm}
use Rattle.wm_place.specs.Place.{Step, in_block, in_arm, Place}
use Rattle.wm_place.specs.Spot.{Level, Sequence, body_sequence, Spot, position_of, sequence_at, spot_at}
use Rattle.wm_place.specs.Kinds.{stays_under, level_kinds, under, own_kinds, spot_kinds}
use Rattle.wm_place.proofs.SpotLemmas.{found}
use Rattle.wm_place.proofs.LevelLemmas.{some_of, map_some, IsInner, last_step}
use Rattle.wm_place.proofs.HeldLemmas.{Over, over_some}

-- ---- lists no item of which passes a test

pub or_false : (a b : Bool) → (a || b) ≡ false → (a ≡ false) × (b ≡ false)
or_false true b e = absurd cc
or_false false b e = (refl, e)

both_false : (a b : Bool) → a ≡ false → b ≡ false → (a || b) ≡ false
both_false a b e f = ap (λ (x : Bool). x || b) e ∙ f

module _ {A : Type 0} (test : A → Bool) where
  item_at : (xs : List A) (n : ℕ) (d : A) → n < length xs → list_any test xs ≡ false → test (get_or xs n d) ≡ false
  item_at [] n d short e = absurd (omega arith)
  item_at (x ∷ xs) zero d short e = (or_false (test x) (list_any test xs) e).0
  item_at (x ∷ xs) (suc n) d short e = item_at xs n d (omega arith) (or_false (test x) (list_any test xs) e).1

  pub none_of : (xs : List A) (n : ℕ) (x : A) → list_any test xs ≡ false → slice_get xs n ≡ Some x → test x ≡ false
  none_of xs n x e at = subst (λ (y : A). test y ≡ false) (get_or_from_slice_get xs n x x at) (item_at xs n x (slice_get_within xs n x at) e)

  pub none_append : (xs ys : List A) → list_any test xs ≡ false → list_any test ys ≡ false → list_any test (xs ++ ys) ≡ false
  none_append xs ys e f = list_any-append test xs ys ∙ both_false (list_any test xs) (list_any test ys) e f

  pub none_drop : (n : ℕ) (xs : List A) → list_any test xs ≡ false → list_any test (drop n xs) ≡ false
  none_drop zero xs e = e
  none_drop (suc n) [] e = e
  none_drop (suc n) (x ∷ xs) e = none_drop n xs (or_false (test x) (list_any test xs) e).1

  pub none_reverse : (xs : List A) → list_any test xs ≡ false → list_any test (reverse xs) ≡ false
  none_reverse [] e = refl
  none_reverse (x ∷ xs) e =
      let w = or_false (test x) (list_any test xs) e in
      ap (λ (l : List A). list_any test l) (reverse-append (x ∷ []) xs)
      ∙ none_append (reverse xs) (x ∷ []) (none_reverse xs w.1) (both_false (test x) false w.0 refl)

  none_replicate : (n : ℕ) (x : A) → test x ≡ false → list_any test (replicate n x) ≡ false
  none_replicate zero x e = refl
  none_replicate (suc n) x e = both_false (test x) (list_any test (replicate n x)) e (none_replicate n x e)

-- no float among these
abbrev pub NoFloats : List ValType → Type 0
NoFloats ts = list_any is_float ts ≡ false

one : (t : ValType) → is_float t ≡ false → NoFloats (t ∷ [])
one t e = both_false (is_float t) false e refl

of_result : (ty : Option ValType) → is_float_result ty ≡ false → NoFloats (results_of ty)
of_result None e = refl
of_result (Some t) e = one t e

of_runs : (rs : List Run) → list_any is_float_run rs ≡ false → NoFloats (run_types rs)
of_runs [] e = refl
of_runs (r ∷ rs) e =
    let w = or_false (is_float_run r) (list_any is_float_run rs) e in
    none_append is_float (replicate r.count r.ty) (run_types rs) (none_replicate is_float r.count r.ty w.0) (of_runs rs w.1)

-- ---- what a body may name

pub record Free (S : Scope) : Type 0 where
  pub types : (n : ℕ) (t : FuncType) → slice_get S.types n ≡ Some t → has_float_type t ≡ false
  pub functions : (n : ℕ) (t : FuncType) → slice_get S.functions n ≡ Some (Some t) → has_float_type t ≡ false
  pub globals : (n : ℕ) (g : GlobalType) → slice_get S.globals n ≡ Some g → is_float g.holds ≡ false
  pub locals : (n : ℕ) (t : ValType) → slice_get S.locals n ≡ Some t → is_float t ≡ false

results_free : (t : FuncType) → has_float_type t ≡ false → NoFloats t.results
results_free t e = (or_false (list_any is_float t.params) (list_any is_float t.results) e).1

pub scope_free : (m : Module) (n : ℕ) (f : Func) (t : FuncType) → HasNoFloat m → slice_get m.funcs n ≡ Some f → function_type m f ≡ Some t → Free (body_scope m (t.params ++ run_types f.locals))
scope_free m n f t h at named = record {
  types = λ k u e. none_of has_float_type m.types k u h.types e;
  functions = λ k u e.
      let w = map_some (function_type m) (slice_get m.funcs k) (Some u) (sym (slice_get-map (function_type m) m.funcs k) ∙ e) in
      none_of has_float_type m.types w.0.kind u h.types w.2;
  globals = λ k g e.
      let w = map_some global_type (slice_get m.globals k) g (sym (slice_get-map global_type m.globals k) ∙ e) in
      let x : Global = w.0 in
      let free : has_float_global x ≡ false = none_of has_float_global m.globals k x h.globals w.1 in
      subst (λ (y : GlobalType). is_float y.holds ≡ false) w.2 (or_false (is_float x.ty) (has_float_code (global_code x)) free).0;
  locals = λ k u e.
      let types : has_float_type t ≡ false = none_of has_float_type m.types f.kind t h.types named in
      let params : NoFloats t.params = (or_false (list_any is_float t.params) (list_any is_float t.results) types).0 in
      let own : has_float_function f ≡ false = none_of has_float_function m.funcs n f h.functions at in
      let runs : NoFloats (run_types f.locals) = of_runs f.locals (or_false (list_any is_float_run f.locals) (has_float_code (function_code f)) own).0 in
      none_of is_float (t.params ++ run_types f.locals) k u (none_append is_float t.params (run_types f.locals) params runs) e;
}

-- ---- what instructions give

along : (h g : Arrow) → h ≡ g → NoFloats h.gives → NoFloats g.gives
along h g e free = subst (λ (x : Arrow). NoFloats x.gives) e free

by_memory : (ms : List Limits) (h g : Arrow) → on_memory ms h ≡ Some g → NoFloats h.gives → NoFloats g.gives
by_memory ms h g e free = along h g (some_is h g (if_some (has_first ms) (Some h) g e).1) free

by_access : (ms : List Limits) (align width : ℕ) (h g : Arrow) → access ms align width h ≡ Some g → NoFloats h.gives → NoFloats g.gives
by_access ms align width h g e free = by_memory ms h g (if_some (nat_le (2 ^ align) width) (on_memory ms h) g e).1 free

by_call : (o : Option FuncType) (g : Arrow) → ((t : FuncType) → o ≡ Some t → has_float_type t ≡ false) → call_type o ≡ Some g → NoFloats g.gives
by_call o g h e =
    let c = call_some o g e in
    along (call_arrow c.0) g c.2 (none_reverse is_float c.0.results (results_free c.0 (h c.0 c.1)))

of_constant : (v : Value) → is_float (const_type v) ≡ false
of_constant (values.I32 n) = refl
of_constant (values.I64 n) = refl

of_load : (op : LoadOp) → is_float (load_type op) ≡ false
of_load I32Load = refl
of_load _ = refl

of_num : (op : NumOp) → NoFloats (num_type op).gives
of_num I32Eqz = refl
of_num _ = refl

by_type : (i : Op) (S : Scope) (g : Arrow) → Free S → arrow_of i S ≡ Some g → NoFloats g.gives
by_type nop S g h e = along (arrow [] []) g (some_is (arrow [] []) g e) refl
by_type (call f) S g h e =
    let a = bind_some (slice_get S.functions f) call_type g e in
    by_call a.0 g (λ t is. h.functions f t (a.1 ∙ ap (λ (o : Option FuncType). Some o) is)) a.2
by_type (local_get x) S g h e =
    let a = bind_some (slice_get S.locals x) (λ t. Some (arrow [] (t ∷ []))) g e in
    along (arrow [] (a.0 ∷ [])) g (some_is (arrow [] (a.0 ∷ [])) g a.2) (one a.0 (h.locals x a.0 a.1))
by_type (local_set x) S g h e =
    let a = bind_some (slice_get S.locals x) (λ t. Some (arrow (t ∷ []) [])) g e in
    along (arrow (a.0 ∷ []) []) g (some_is (arrow (a.0 ∷ []) []) g a.2) refl
by_type (local_tee x) S g h e =
    let a = bind_some (slice_get S.locals x) (λ t. Some (arrow (t ∷ []) (t ∷ []))) g e in
    along (arrow (a.0 ∷ []) (a.0 ∷ [])) g (some_is (arrow (a.0 ∷ []) (a.0 ∷ [])) g a.2) (one a.0 (h.locals x a.0 a.1))
by_type (global_get x) S g h e =
    let a = bind_some (slice_get S.globals x) (λ v. Some (arrow [] (v.holds ∷ []))) g e in
    along (arrow [] (a.0.holds ∷ [])) g (some_is (arrow [] (a.0.holds ∷ [])) g a.2) (one a.0.holds (h.globals x a.0 a.1))
by_type (global_set x) S g h e =
    let a = bind_some (slice_get S.globals x) set_type g e in
    let l : Arrow = arrow (a.0.holds ∷ []) [] in
    along l g (some_is l g (if_some a.0.mutable (Some l) g a.2).1) refl
by_type (load op align offset) S g h e = by_access S.memories align (load_width op) (arrow (I32 ∷ []) (load_type op ∷ [])) g e (one (load_type op) (of_load op))
by_type (store op align offset) S g h e = by_access S.memories align (store_width op) (arrow (store_type op ∷ I32 ∷ []) []) g e refl
by_type memory_size S g h e = by_memory S.memories (arrow [] (I32 ∷ [])) g e refl
by_type memory_grow S g h e = by_memory S.memories (arrow (I32 ∷ []) (I32 ∷ [])) g e refl
by_type memory_copy S g h e = by_memory S.memories (arrow (I32 ∷ I32 ∷ I32 ∷ []) []) g e refl
by_type memory_fill S g h e = by_memory S.memories (arrow (I32 ∷ I32 ∷ I32 ∷ []) []) g e refl
by_type (const v) S g h e = along (arrow [] (const_type v ∷ [])) g (some_is (arrow [] (const_type v ∷ [])) g e) (one (const_type v) (of_constant v))
by_type (num op) S g h e = along (num_type op) g (some_is (num_type op) g e) (of_num op)
by_type _ S g h e = absurd (cc)

given : (e f : Change) → Some e ≡ Some f → NoFloats e.gives → NoFloats f.gives
given e f is free = subst (λ (z : Change). NoFloats z.gives) (some_is e f is) free

by_arrows : (o : Option Arrow) (view : Arrow → Arrow) (e : Change) → ((g : Arrow) → o ≡ Some g → NoFloats (view g).gives) → option_map (λ g. by_arrow (view g)) o ≡ Some e → NoFloats e.gives
by_arrows None view e free is = absurd (cc)
by_arrows (Some g) view e free is = given (by_arrow (view g)) e is (free g refl)

by_change : (i : Op) (S : Scope) (e : Change) → Free S → is_float_op i ≡ false → change i S ≡ Some e → NoFloats e.gives
by_change (block ty c) S e h n is = given (changes 0 (results_of ty)) e is (of_result ty n)
by_change (loop ty c) S e h n is = given (changes 0 (results_of ty)) e is (of_result ty n)
by_change (if_else ty a b) S e h n is = given (changes 1 (results_of ty)) e is (of_result ty n)
by_change (br_if l) S e h n is = given (changes 1 []) e is refl
by_change drop_one S e h n is = given (changes 1 []) e is refl
by_change select S e h n is = given (changes 2 []) e is refl
by_change (call_indirect f) S e h n is =
    by_arrows (indirect S.tables S.types f) placed e
    (λ g at. by_call (slice_get S.types f) g (λ t there. h.types f t there) (if_some (has_first S.tables) (call_type (slice_get S.types f)) g at).1) is
by_change i S e h n is = by_arrows (arrow_of i S) (λ g. g) e (λ g at. by_type i S g h at) is

-- ---- code without floats

abbrev mutual
  pub FreeInside : Op → Type 0
  FreeInside (block ty c) = FreeCode c
  FreeInside (loop ty c) = FreeCode c
  FreeInside (if_else ty a b) = FreeCode a × FreeCode b
  FreeInside _ = Unit {0}

  pub FreeCode : Code → Type 0
  FreeCode nil = Unit {0}
  FreeCode (cons i is) = (is_float_op i ≡ false) × FreeInside i × FreeCode is

first_op : (i : Op) (is : List Op) → list_any is_float_op (i ∷ is) ≡ false → (is_float_op i ≡ false) × (list_any is_float_op is ≡ false)
first_op i is e = or_false (is_float_op i) (list_any is_float_op is) e

two_parts : (xs ys : List Op) → list_any is_float_op (xs ++ ys) ≡ false → (list_any is_float_op xs ≡ false) × (list_any is_float_op ys ≡ false)
two_parts xs ys e = or_false (list_any is_float_op xs) (list_any is_float_op ys) (sym (list_any-append is_float_op xs ys) ∙ e)

mutual
  free_op : (i : Op) → list_any is_float_op (op_and_inside i) ≡ false → (is_float_op i ≡ false) × FreeInside i
  free_op (block ty c) e = let w = first_op (block ty c) (all_ops c) e in (w.0, free_code c w.1)
  free_op (loop ty c) e = let w = first_op (loop ty c) (all_ops c) e in (w.0, free_code c w.1)
  free_op (if_else ty a b) e =
      let w = first_op (if_else ty a b) (all_ops a ++ all_ops b) e in
      let v = two_parts (all_ops a) (all_ops b) w.1 in
      (w.0, (free_code a v.0, free_code b v.1))
  free_op i e = ((first_op i [] e).0, tt)

  pub free_code : (c : Code) → list_any is_float_op (all_ops c) ≡ false → FreeCode c
  free_code nil e = tt
  free_code (cons i is) e =
      let w = two_parts (op_and_inside i) (all_ops is) e in
      let v = free_op i w.0 in
      (v.0, v.1, free_code is w.1)

free_front : (n : ℕ) (c : Code) → FreeCode c → FreeCode (front n c)
free_front zero c h = tt
free_front (suc n) nil h = tt
free_front (suc n) (cons i is) h = (h.0, h.1, free_front n is h.2)

free_after : (n : ℕ) (c d : Code) → after_front n c ≡ Some d → FreeCode c → FreeCode d
free_after zero c d e h = subst (λ (x : Code). FreeCode x) (some_of c d e) h
free_after (suc n) nil d e h = absurd cc
free_after (suc n) (cons i is) d e h = free_after n is d e h.2

free_inner : (s : Step) (i : Op) (d : Code) → IsInner s i d → FreeInside i → FreeCode d
free_inner (in_block n) (block ty c) d e h = subst (λ (x : Code). FreeCode x) e h
free_inner (in_block n) (loop ty c) d e h = subst (λ (x : Code). FreeCode x) e h
free_inner (in_block n) _ d e h = absurd e
free_inner (in_arm n k) (if_else ty a b) d e h = of_arm k a b d (λ (x : Code). FreeCode x) e h.0 h.1
free_inner (in_arm n k) _ d e h = absurd e

run_free : (p : Code) (S : Scope) (ts us : List ValType) → Free S → FreeCode p → NoFloats ts → run p S ts ≡ Some us → NoFloats us
run_free nil S ts us h c n e = subst (λ (l : List ValType). NoFloats l) (some_of ts us e) n
run_free (cons i is) S ts us h c n e =
    let w = bind_some (change i S) (λ x. run is S (changed x ts)) us e in
    let x : Change = w.0 in
    run_free is S (changed x ts) us h c.2 (none_append is_float x.gives (drop x.takes ts) (by_change i S x h c.0 w.1) (none_drop is_float x.takes ts n)) w.2

-- ---- places

abbrev pub EachFree : List Level → Type 0
EachFree [] = Unit {0}
EachFree (lv ∷ lvs) = FreeCode lv.before × EachFree lvs

stays_free : (i : Op) (ts : List ValType) → NoFloats ts → NoFloats (stays_under i ts)
stays_free (if_else ty a b) ts n = none_drop is_float 1 ts n
stays_free _ ts n = n

module _ (S : Scope) (h : Free S) where
  under_free : (lvs : List Level) (ts : List ValType) → EachFree lvs → under S lvs ≡ Some ts → NoFloats ts
  under_free [] ts f e = subst (λ (l : List ValType). NoFloats l) (some_of [] ts e) refl
  under_free (lv ∷ lvs) ts f e =
      let v : Over (level_kinds S lv) (under S lvs) ts = over_some (level_kinds S lv) (under S lvs) ts e in
      let w = map_some (stays_under lv.op) (run lv.before S []) v.own_kinds v.own_is in
      let own : NoFloats v.own_kinds = subst (λ (l : List ValType). NoFloats l) w.2 (stays_free lv.op w.0 (run_free lv.before S [] w.0 h f.0 refl w.1)) in
      subst (λ (l : List ValType). NoFloats l) (sym v.both) (none_append is_float v.own_kinds v.below_kinds own (under_free lvs v.below_kinds f.1 v.below_is))

  module _ (gives : Option ValType) (c : Code) (free : FreeCode c) where
    sequence_free : (steps : List Step) (q : Sequence) → sequence_at (body_sequence gives c) steps ≡ Some q → FreeCode q.code × EachFree q.levels
    sequence_free [] q e = subst (λ (y : Sequence). FreeCode y.code × EachFree y.levels) (some_of (body_sequence gives c) q e) (free, (tt, tt))
    sequence_free (s ∷ steps) q e =
        let w = last_step (body_sequence gives c) s steps q e in
        let n : ℕ = position_of s in
        let o : Sequence = w.sequence.sequence in
        let outer = sequence_free steps o w.sequence.there in
        let rest : FreeCode (cons w.entered.op w.entered.rest) = free_after n o.code (cons w.entered.op w.entered.rest) (w.sequence.part.after ∙ ap (λ (x : Code). Some x) w.entered.is_code) outer.0 in
        let before : FreeCode w.outer.before = subst (λ (x : Code). FreeCode x) w.sequence.part.front (free_front n o.code outer.0) in (
          free_inner s w.entered.op q.code w.entered.inner rest.1,
          subst (λ (l : List Level). EachFree l) (sym w.entered.levels) (before, subst (λ (l : List Level). EachFree l) w.sequence.part.levels outer.1),
        )

    pub spot_free : (p : Place) (x : Spot) (ts : List ValType) → spot_at (body_sequence gives c) p ≡ Some x → spot_kinds S x ≡ Some ts → NoFloats ts
    spot_free p x ts e u =
        let f = found (body_sequence gives c) p x e in
        let q : Sequence = f.sequence in
        let w = sequence_free p.steps q f.there in
        let v : Over (own_kinds S x) (under S x.levels) ts = over_some (own_kinds S x) (under S x.levels) ts u in
        let before : FreeCode x.before = subst (λ (y : Code). FreeCode y) f.part.front (free_front p.position q.code w.0) in
        let own : NoFloats v.own_kinds = run_free x.before S [] v.own_kinds h before refl v.own_is in
        let below : NoFloats v.below_kinds = under_free x.levels v.below_kinds (subst (λ (l : List Level). EachFree l) f.part.levels w.1) v.below_is in
        subst (λ (l : List ValType). NoFloats l) (sym v.both) (none_append is_float v.own_kinds v.below_kinds own below)
