-- Items of a module that are gone over one by one.
use Rattle.std.proofs.Common.{◌≡◌, ℕ, zero, suc, ◌+◌, ◌-◌, ◌<◌, ◌≤◌, List, [], ◌∷◌, ◌++◌, length, map, filter, take, drop, get_or, Bool, true, false, Option, Some, None, refl, sym, ap, subst, ◌∙◌, arith}
use Rattle.std.specs.Prelude.{slice_get, All}
use Rattle.std.proofs.lemmas.Bool.{ltb-false}
use Rattle.std.proofs.lemmas.List.{drop_more, drop_all, take_all, take_more, get_or-map, length-map}
use Rattle.std.proofs.lemmas.List.Elements.{All-append, All-cons, All-nil}
use Rattle.mc_nbt.specs.declared.value.Value.{Value}
use Rattle.wm_ast.specs.declared.module.Data.{Data}
use Rattle.wm_ast.specs.declared.module.Elem.{Elem}
use Rattle.wm_ast.specs.declared.module.Export.{Export}
use Rattle.wm_ast.specs.declared.module.ValType.{ValType}
use Rattle.wm_ast.specs.Instance.{exported_index, is_function, placed, with_datas, with_elements}
use Rattle.wm_ast.specs.Profile.{constant_offset, data_code, element_code, is_beyond}
use Rattle.wm_ast.specs.Types.{const_type}
use Rattle.wm_flat.specs.FlatTyping.{types_of}
use Rattle.wm_valid.specs.InRange.{IsInRange}
use Rattle.wm_flat.proofs.MemoryLaws.{overwritten_length}

-- Segments.

pub fits_at : (o p : Option ℕ) (offset count size : ℕ) → o ≡ Some offset → o ≡ p → is_beyond p count (Some size) ≡ false → offset + count ≤ size
fits_at o p offset count size e k h = ltb-false size (offset + count) (subst (λ (x : Option ℕ). is_beyond x count (Some size) ≡ false) (sym k ∙ e) h)

placed_length : {A : Type 0} (offset : Option ℕ) (xs all : List A) (size : ℕ) → length all ≡ size → is_beyond offset (length xs) (Some size) ≡ false → length (placed offset xs all) ≡ size
placed_length None xs all size e h = e
placed_length (Some offset) xs all size e h = let l = ltb-false size (offset + length xs) h in overwritten_length all offset xs (omega arith) ∙ e

pub data_more : (ds : List Data) (old new first : List ℕ) (i : ℕ) (d : Data) (o : Option ℕ) → i < length ds → d ≡ get_or ds i d → o ≡ constant_offset (data_code d)
    → new ≡ placed o d.bytes old → with_datas (drop i ds) old ≡ with_datas ds first → with_datas (drop (i + 1) ds) new ≡ with_datas ds first
data_more ds old new first i d o lt is e n h =
    ap (with_datas (drop (i + 1) ds)) (n ∙ ap (λ (x : Option ℕ). placed x d.bytes old) e)
    ∙ ap (λ (x : Data). with_datas (x ∷ drop (i + 1) ds) old) is
    ∙ ap (λ (l : List Data). with_datas l old) (sym (drop_more ds i d lt)) ∙ h

pub data_size : (d : Data) (old new : List ℕ) (o : Option ℕ) (size : ℕ) → o ≡ constant_offset (data_code d) → new ≡ placed o d.bytes old → length old ≡ size
    → is_beyond (constant_offset (data_code d)) (length d.bytes) (Some size) ≡ false → length new ≡ size
data_size d old new o size e n l h = ap length (n ∙ ap (λ (x : Option ℕ). placed x d.bytes old) e) ∙ placed_length (constant_offset (data_code d)) d.bytes old size l h

abbrev pub some_index : ℕ → Option ℕ
some_index f = Some f

pub element_more : (es : List Elem) (old new first : List (Option ℕ)) (i : ℕ) (e : Elem) (o : Option ℕ) → i < length es → e ≡ get_or es i e → o ≡ constant_offset (element_code e)
    → new ≡ placed o (map (λ f. Some f) e.funcs) old → with_elements (drop i es) old ≡ with_elements es first → with_elements (drop (i + 1) es) new ≡ with_elements es first
element_more es old new first i e o lt is q n h =
    ap (with_elements (drop (i + 1) es)) (n ∙ ap (λ (x : Option ℕ). placed x (map some_index e.funcs) old) q)
    ∙ ap (λ (x : Elem). with_elements (x ∷ drop (i + 1) es) old) is
    ∙ ap (λ (l : List Elem). with_elements l old) (sym (drop_more es i e lt)) ∙ h

pub element_size : (e : Elem) (old new : List (Option ℕ)) (o : Option ℕ) (size : ℕ) → o ≡ constant_offset (element_code e) → new ≡ placed o (map (λ f. Some f) e.funcs) old → length old ≡ size
    → is_beyond (constant_offset (element_code e)) (length e.funcs) (Some size) ≡ false → length new ≡ size
element_size e old new o size q n l h =
    ap length (n ∙ ap (λ (x : Option ℕ). placed x (map some_index e.funcs) old) q)
    ∙ placed_length (constant_offset (element_code e)) (map some_index e.funcs) old size l
    (subst (λ (k : ℕ). is_beyond (constant_offset (element_code e)) k (Some size) ≡ false) (sym (length-map e.funcs some_index)) h)

-- Exports.

abbrev is_export : Export → Bool
is_export e = is_function e.space

-- the functions among these exports
abbrev pub functions_of : List Export → List ℕ
functions_of es = map exported_index (filter (λ e. is_function e.space) es)

export_kept : (e : Export) (es : List Export) → is_function e.space ≡ true → functions_of (e ∷ es) ≡ e.index ∷ functions_of es
export_kept e es h = rw h refl

export_left_out : (e : Export) (es : List Export) → is_function e.space ≡ false → functions_of (e ∷ es) ≡ functions_of es
export_left_out e es h = rw h refl

module _ (es : List Export) (i : ℕ) (e : Export) (lt : i < length es) (is : e ≡ get_or es i e) where
  parts : e ∷ drop (i + 1) es ≡ drop i es
  parts = ap (λ (x : Export). x ∷ drop (i + 1) es) is ∙ sym (drop_more es i e lt)

  pub export_here : (found : Option ℕ) (left : ℕ) (test : Bool) → test ≡ is_function e.space → test ≡ true → left ≡ 0
      → slice_get (functions_of (drop i es)) left ≡ found → Some e.index ≡ found
  export_here found left test t k z h =
      ap (λ (l : List ℕ). slice_get l 0) (sym (export_kept e (drop (i + 1) es) (sym t ∙ k)) ∙ ap functions_of parts)
      ∙ ap (slice_get (functions_of (drop i es))) (sym z) ∙ h

  pub export_passed : (found : Option ℕ) (left : ℕ) (test : Bool) → test ≡ is_function e.space → test ≡ true → 0 < left
      → slice_get (functions_of (drop i es)) left ≡ found → slice_get (functions_of (drop (i + 1) es)) (left - 1) ≡ found
  export_passed found zero test t k p h = absurd (omega arith)
  export_passed found (suc left) test t k p h =
      let less : suc left - 1 ≡ left = omega arith in
      ap (slice_get (functions_of (drop (i + 1) es))) less
      ∙ ap (λ (l : List ℕ). slice_get l (suc left)) (sym (export_kept e (drop (i + 1) es) (sym t ∙ k)) ∙ ap functions_of parts) ∙ h

  pub export_other : (found : Option ℕ) (left : ℕ) (test : Bool) → test ≡ is_function e.space → test ≡ false
      → slice_get (functions_of (drop i es)) left ≡ found → slice_get (functions_of (drop (i + 1) es)) left ≡ found
  export_other found left test t k h =
      ap (λ (l : List ℕ). slice_get l left) (sym (export_left_out e (drop (i + 1) es) (sym t ∙ k)) ∙ ap functions_of parts) ∙ h

pub no_export : (es : List Export) (i : ℕ) (found : Option ℕ) (left : ℕ) → length es ≤ i → slice_get (functions_of (drop i es)) left ≡ found → None ≡ found
no_export es i found left h k = ap (λ (l : List Export). slice_get (functions_of l) left) (sym (drop_all i es h)) ∙ k

-- Arguments.

pub types_more : (types : List ValType) (vs : List Value) (i : ℕ) (v : Value) (t : ValType) → i < length vs → length vs ≡ length types
    → const_type (get_or vs i v) ≡ get_or types i t → take i (types_of vs) ≡ take i types → take (i + 1) (types_of vs) ≡ take (i + 1) types
types_more types vs i v t lt l e h =
    let n = length-map vs const_type in
    take_more (types_of vs) i t (omega arith)
    ∙ ap (λ (x : ValType). take i (types_of vs) ++ x ∷ []) (get_or-map const_type vs i v t lt ∙ e)
    ∙ ap (λ (x : List ValType). x ++ get_or types i t ∷ []) h
    ∙ sym (take_more types i t (omega arith))

pub ranges_more : (vs : List Value) (i : ℕ) (v : Value) → i < length vs → IsInRange (get_or vs i v) → All IsInRange (take i vs) → All IsInRange (take (i + 1) vs)
ranges_more vs i v lt r h =
    subst (All IsInRange) (sym (take_more vs i v lt)) (All-append IsInRange (take i vs) (get_or vs i v ∷ []) h (All-cons IsInRange (get_or vs i v) [] r (All-nil IsInRange)))

pub all_types : (types : List ValType) (vs : List Value) (i : ℕ) → length vs ≤ i → length vs ≡ length types → take i (types_of vs) ≡ take i types → types_of vs ≡ types
all_types types vs i h l e =
    let n = length-map vs const_type in
    sym (take_all i (types_of vs) (omega arith)) ∙ e ∙ take_all i types (omega arith)

pub all_ranges : (vs : List Value) (i : ℕ) → length vs ≤ i → All IsInRange (take i vs) → All IsInRange vs
all_ranges vs i h r = subst (All IsInRange) (take_all i vs h) r
