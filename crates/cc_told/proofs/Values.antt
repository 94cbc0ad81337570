-- The ints of values tell them, where their types are known.
use Rattle.std.proofs.Common.{◌≡◌, ℕ, zero, suc, ◌+◌, ◌-◌, ◌/◌, ◌%◌, ◌<◌, List, [], ◌∷◌, ◌++◌, length, ℤ, pos, negsuc, refl, sym, ap, ap₂, ◌∙◌, append_assoc, arith}
use Rattle.std.specs.Int.{w32, int_wrap, cast_signed, cast_unsigned}
use Rattle.std.specs.Prelude.{unsigned_abs}
use Rattle.std.proofs.lemmas.Int.{of_z-to_z}
use Rattle.mc_nbt.specs.declared.value.Value.{Value}
use Rattle.mc_nbt.specs.declared.value.Value.TheVariants as values
use Rattle.mc_cmd.specs.Pack.{high_half}
use Rattle.wm_ast.specs.Types.{const_type}
use Rattle.wm_flat.specs.FlatTyping.{types_of}
use Rattle.wm_place.proofs.LevelLemmas.{some_of}
use Rattle.cc_line.specs.Routine.{value_ints}
use Rattle.cc_line.specs.State.{State}
use Rattle.cc_call.specs.Law.{AreHanded}
use Rattle.cc_simulate.specs.Frame.{local_ints, stack_ints}
use Rattle.cc_simulate.proofs.Frames.{value_length, stack_length}
use Rattle.cc_cut.specs.Law.{width, widths}

-- ---- halves

pub low_told : (i j : ℕ) → i < 4294967296 → j < 4294967296 → cast_signed w32 i ≡ cast_signed w32 j → i ≡ j
low_told i j a b e = sym (of_z-to_z w32 i a) ∙ ap (cast_unsigned w32) e ∙ of_z-to_z w32 j b

halves_tell : (y z : ℤ) → int_wrap w32 y ≡ int_wrap w32 z → high_half y ≡ high_half z → y ≡ z
unfolding int_wrap
halves_tell (pos i) (pos j) l h =
    let a : i % 4294967296 ≡ j % 4294967296 = low_told (i % 4294967296) (j % 4294967296) (omega arith) (omega arith) l in
    let b : i / 4294967296 ≡ j / 4294967296 = ap unsigned_abs h in
    let c : i ≡ j = omega arith in
    ap pos c
halves_tell (pos i) (negsuc j) l h = absurd cc
halves_tell (negsuc i) (pos j) l h = absurd cc
halves_tell (negsuc i) (negsuc j) l h =
    let a : 4294967296 - 1 - i % 4294967296 ≡ 4294967296 - 1 - j % 4294967296 =
    low_told (4294967296 - 1 - i % 4294967296) (4294967296 - 1 - j % 4294967296) (omega arith) (omega arith) l in
    let b : suc (i / 4294967296) ≡ suc (j / 4294967296) = ap unsigned_abs h in
    let c : i ≡ j = omega arith in
    ap negsuc c

-- ---- one value

pub first_same : {A : Type 0} (x y : A) (xs ys : List A) → x ∷ xs ≡ y ∷ ys → x ≡ y
first_same x y xs ys e = cc

pub rest_same : {A : Type 0} (x y : A) (xs ys : List A) → x ∷ xs ≡ y ∷ ys → xs ≡ ys
rest_same x y xs ys e = cc

pub value_told : (v w : Value) (xs ys : List ℤ) → const_type v ≡ const_type w → value_ints v ++ xs ≡ value_ints w ++ ys
    → (v ≡ w) × (xs ≡ ys)
value_told (values.I32 y) (values.I32 z) xs ys t e = (ap values.I32 (first_same y z xs ys e), rest_same y z xs ys e)
value_told (values.I32 y) (values.I64 z) xs ys t e = absurd cc
value_told (values.I64 y) (values.I32 z) xs ys t e = absurd cc
value_told (values.I64 y) (values.I64 z) xs ys t e =
    let l : int_wrap w32 y ≡ int_wrap w32 z =
    first_same (int_wrap w32 y) (int_wrap w32 z) (high_half y ∷ xs) (high_half z ∷ ys) e in
    let r : high_half y ∷ xs ≡ high_half z ∷ ys =
    rest_same (int_wrap w32 y) (int_wrap w32 z) (high_half y ∷ xs) (high_half z ∷ ys) e in
    let h : high_half y ≡ high_half z = first_same (high_half y) (high_half z) xs ys r in
    (ap values.I64 (halves_tell y z l h), rest_same (high_half y) (high_half z) xs ys r)

-- ---- many

pub locals_told : (vs ws : List Value) (xs ys : List ℤ) → types_of vs ≡ types_of ws
    → local_ints vs ++ xs ≡ local_ints ws ++ ys → (vs ≡ ws) × (xs ≡ ys)
locals_told [] [] xs ys t e = (refl, e)
locals_told [] (w ∷ ws) xs ys t e = absurd cc
locals_told (v ∷ vs) [] xs ys t e = absurd cc
locals_told (v ∷ vs) (w ∷ ws) xs ys t e =
    let one = value_told v w (local_ints vs ++ xs) (local_ints ws ++ ys)
    (first_same (const_type v) (const_type w) (types_of vs) (types_of ws) t)
    (sym (append_assoc (value_ints v) (local_ints vs) xs) ∙ e ∙ append_assoc (value_ints w) (local_ints ws) ys) in
    let more = locals_told vs ws xs ys (rest_same (const_type v) (const_type w) (types_of vs) (types_of ws) t) one.1 in
    (ap₂ (λ x l. x ∷ l) one.0 more.0, more.1)

pub stack_told : (vs ws : List Value) (xs ys : List ℤ) → types_of vs ≡ types_of ws
    → stack_ints vs ++ xs ≡ stack_ints ws ++ ys → (vs ≡ ws) × (xs ≡ ys)
stack_told [] [] xs ys t e = (refl, e)
stack_told [] (w ∷ ws) xs ys t e = absurd cc
stack_told (v ∷ vs) [] xs ys t e = absurd cc
stack_told (v ∷ vs) (w ∷ ws) xs ys t e =
    let more = stack_told vs ws (value_ints v ++ xs) (value_ints w ++ ys)
    (rest_same (const_type v) (const_type w) (types_of vs) (types_of ws) t)
    (sym (append_assoc (stack_ints vs) (value_ints v) xs) ∙ e ∙ append_assoc (stack_ints ws) (value_ints w) ys) in
    let one = value_told v w xs ys (first_same (const_type v) (const_type w) (types_of vs) (types_of ws) t) more.1 in
    (ap₂ (λ x l. x ∷ l) one.0 more.0, one.1)

-- values over others, by their types
pub split_told : (vs ws xs ys : List Value) → types_of vs ≡ types_of ws → vs ++ xs ≡ ws ++ ys → (vs ≡ ws) × (xs ≡ ys)
split_told [] [] xs ys t e = (refl, e)
split_told [] (w ∷ ws) xs ys t e = absurd cc
split_told (v ∷ vs) [] xs ys t e = absurd cc
split_told (v ∷ vs) (w ∷ ws) xs ys t e =
    let more = split_told vs ws xs ys (rest_same (const_type v) (const_type w) (types_of vs) (types_of ws) t)
    (rest_same v w (vs ++ xs) (ws ++ ys) e) in
    (ap₂ (λ x l. x ∷ l) (first_same v w (vs ++ xs) (ws ++ ys) e) more.0, more.1)

-- locals and operands in the places of a frame
pub parts_told : (ls ks os ps : List Value) (xs ys : List ℤ) → types_of ls ≡ types_of ks → types_of os ≡ types_of ps
    → (local_ints ls ++ stack_ints os) ++ xs ≡ (local_ints ks ++ stack_ints ps) ++ ys → (ls ≡ ks) × (os ≡ ps)
parts_told ls ks os ps xs ys t u e =
    let one = locals_told ls ks (stack_ints os ++ xs) (stack_ints ps ++ ys) t
    (sym (append_assoc (local_ints ls) (stack_ints os) xs) ∙ e ∙ append_assoc (local_ints ks) (stack_ints ps) ys) in
    (one.0, (stack_told os ps xs ys u one.1).0)

-- ---- their number, and results in their scores

pub one_width : (v w : Value) → const_type v ≡ const_type w → length (value_ints v) ≡ length (value_ints w)
one_width v w t = value_length v ∙ ap width t ∙ sym (value_length w)

pub many_ints : (vs ws : List Value) → types_of vs ≡ types_of ws → length (stack_ints vs) ≡ length (stack_ints ws)
many_ints vs ws t = stack_length vs ∙ ap widths t ∙ sym (stack_length ws)

pub handed_told : (k : ℕ) (zs ws : List ℤ) (s : State) → length zs ≡ length ws → AreHanded k zs s → AreHanded k ws s → zs ≡ ws
handed_told k [] [] s e x y = refl
handed_told k [] (w ∷ ws) s e x y = absurd (omega arith)
handed_told k (z ∷ zs) [] s e x y = absurd (omega arith)
handed_told k (z ∷ zs) (w ∷ ws) s e x y =
    ap₂ (λ a l. a ∷ l) (some_of z w (sym x.0 ∙ y.0)) (handed_told (suc k) zs ws s (omega arith) x.1 y.1)
