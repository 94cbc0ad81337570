-- The export that a name means, and numbers that are taken modulo a power of 2.
use Rattle.std.proofs.Common.{◌≡◌, ◌∙◌, refl, ap, ap₂, sym, subst, ℕ, zero, suc, ◌+◌, ◌<◌, ◌≤◌, ◌%◌, ◌^◌, List, [], ◌∷◌, ◌++◌, append_assoc, length, map, drop, get_or, Bool, true, false, cond, Option, Some, None, ℤ, arith}
use Rattle.std.specs.Prelude.{pos, negsuc, option_map, slice_get, position, not, nat_lt, if◌then◌else◌, FitsSigned}
use Rattle.std.specs.Int.{Width, w32, w64, int_wrap}
use Rattle.std.specs.List.{list_all, prefix_len}
use Rattle.std.specs.Str.{bytes_eq}
use Rattle.std.proofs.lemmas.Bool.{leb-true, lt-ltb}
use Rattle.std.proofs.lemmas.Int.{SFits-int_wrap, to_z-of_z}
use Rattle.std.proofs.lemmas.List.{length-map}
use Rattle.std.proofs.lemmas.List.Quantifiers.{position-Some}
use Rattle.std.proofs.lemmas.Option.{slice_get-map, slice_get-get_or}
use mir.Val.{to_z, of_z, bits}
use mir.Syntax.{w128}
use lib.IntN.{nat_abs}
use lib.Signed.{lt_z, le_z}
use Rattle.mc_nbt.specs.declared.value.Kind.{Kind}
use Rattle.mc_nbt.specs.declared.value.Kind.TheVariants as kind
use Rattle.mc_nbt.specs.declared.value.Value.{Value}
use Rattle.mc_nbt.specs.declared.value.Value.TheVariants as value
use Rattle.mc_nbt.specs.Value.{kind_of, is_value}
use Rattle.mc_nbt.proofs.TestLemmas.{and_both}
use Rattle.mc_cmd.specs.Form.{Text}
use Rattle.mc_cmd.specs.Packing.{export_view}
use Rattle.mc_cmd.specs.declared.pack.ExportType.{ExportType}
use Rattle.app_words.specs.Arguments.{is_within, wrapped_within, value_of_arg, value_before, values_of_args, export_at, export_named}

prefix_len-map : {A B : Type 0} (f : A → B) (p : B → Bool) (xs : List A) → prefix_len p (map f xs) ≡ prefix_len (λ x. p (f x)) xs
prefix_len-map f p [] = refl
prefix_len-map f p (x ∷ xs) = ap (λ n. cond (p (f x)) (1 + n) 0) (prefix_len-map f p xs)

position-map : {A B : Type 0} (f : A → B) (p : B → Bool) (xs : List A) → position p (map f xs) ≡ position (λ x. p (f x)) xs
position-map f p xs = ap₂ (λ k n. cond (nat_lt k n) (Some k) None) (prefix_len-map f (λ x. not (p x)) xs) (length-map xs f)

-- the export that was found by its name
pub export_found : (name : Text) (es : List ExportType) (k : ℕ) (e : ExportType) → position (λ e. bytes_eq e.name name) es ≡ Some k → e ≡ get_or es k e → Some (k, export_view e) ≡ export_named name (map export_view es)
export_found name es k e h g =
    let within : k < length es = (position-Some (λ e. bytes_eq e.name name) es k e h).0 in
    let here : slice_get (map export_view es) k ≡ Some (export_view e) =
    slice_get-map export_view es k ∙ ap (option_map export_view) (slice_get-get_or es k e within) ∙ ap (λ x. Some (export_view x)) (sym g) in
    sym (ap (export_at (map export_view es)) (position-map export_view (λ e. bytes_eq e.name name) es ∙ h) ∙ ap (option_map (λ x. (k, x))) here)

pub export_missing : (name : Text) (es : List ExportType) → position (λ e. bytes_eq e.name name) es ≡ None → None ≡ export_named name (map export_view es)
export_missing name es h = sym (ap (export_at (map export_view es)) (position-map export_view (λ e. bytes_eq e.name name) es ∙ h))

-- a number of the unsigned range, as the signed number of the same bits
pub wrapped_above : (w : Width) (half top : ℕ) (z r : ℤ) → ((n : ℕ) → n ≤ top → n % 2 ^ bits w ≡ n) → FitsSigned w r → FitsSigned w128 z → lt_z (to_z w128 (of_z w128 z)) (pos 0) ≡ false → le_z (to_z w128 (of_z w128 z)) (pos top) ≡ true → r ≡ to_z w (nat_abs (to_z w128 (of_z w128 z))) → Some (to_z w (of_z w r)) ≡ wrapped_within w half (suc top) z
unfolding int_wrap
wrapped_above w half top z r small fits wide low high is =
    let back : to_z w128 (of_z w128 z) ≡ z = to_z-of_z w128 z wide in
    let l : lt_z z (pos 0) ≡ false = ap (λ x. lt_z x (pos 0)) (sym back) ∙ low in
    let h : le_z z (pos top) ≡ true = ap (λ x. le_z x (pos top)) (sym back) ∙ high in
    ap Some (to_z-of_z w r fits ∙ is ∙ ap (λ x. to_z w (nat_abs x)) back) ∙ go z l h
  where
    go : (z : ℤ) → lt_z z (pos 0) ≡ false → le_z z (pos top) ≡ true → Some (to_z w (nat_abs z)) ≡ wrapped_within w half (suc top) z
    go (pos n) l h =
        let within : n ≤ top = leb-true n top h in
        ap (λ m. Some (to_z w m)) (sym (small n within)) ∙ sym (ap (λ b. if b then Some (to_z w (n % 2 ^ bits w)) else None) (lt-ltb n (suc top) (omega arith)))
    go (negsuc n) l h = absurd cc

-- other counts of arguments than of parameters
pub values_of_others : (ks : List Kind) (zs : List ℤ) → (length ks ≡ length zs → ⊥) → None ≡ values_of_args ks zs
values_of_others [] [] h = absurd (h refl)
values_of_others [] (z ∷ zs) h = refl
values_of_others (k ∷ ks) [] h = refl
values_of_others (k ∷ ks) (z ∷ zs) h = sym (no_values (value_of_arg k z)) ∙ ap (value_before (value_of_arg k z)) (values_of_others ks zs (λ e. h (ap suc e)))
  where
    no_values : (o : Option Value) → value_before o None ≡ None
    no_values (Some v) = refl
    no_values None = refl

-- the values from a place on
pub values_from : (ks : List Kind) (zs : List ℤ) (i : ℕ) (k : Kind) (z : ℤ) → i < length ks → length ks ≡ length zs → values_of_args (drop i ks) (drop i zs) ≡ value_before (value_of_arg (get_or ks i k) (get_or zs i z)) (values_of_args (drop (i + 1) ks) (drop (i + 1) zs))
values_from [] zs i k z h e = absurd (omega arith)
values_from (a ∷ ks) [] i k z h e = absurd (omega arith)
values_from (a ∷ ks) (b ∷ zs) zero k z h e = refl
values_from (a ∷ ks) (b ∷ zs) (suc i) k z h e =
    let next : suc i + 1 ≡ suc (i + 1) = omega arith in
    values_from ks zs i k z (omega arith) (omega arith)
    ∙ ap (λ n. value_before (value_of_arg (get_or ks i k) (get_or zs i z)) (values_of_args (drop n (a ∷ ks)) (drop n (b ∷ zs)))) (sym next)

-- the number that the code reads of an argument
abbrev pub read_of : List ℤ → ℕ → ℤ
read_of zs i = to_z w128 (of_z w128 (get_or zs i (pos 0)))

read_here : (ks : List Kind) (zs : List ℤ) (i : ℕ) (o : Option Value) → FitsSigned w128 (get_or zs i (pos 0)) → o ≡ value_of_arg (get_or ks i kind.I32) (read_of zs i) → value_of_arg (get_or ks i kind.I32) (get_or zs i (pos 0)) ≡ o
read_here ks zs i o fits e = sym (e ∙ ap (value_of_arg (get_or ks i kind.I32)) (to_z-of_z w128 (get_or zs i (pos 0)) fits))

-- an argument out of its range
pub no_value_at : (ks : List Kind) (zs : List ℤ) (i : ℕ) (vs : List Value) → i < length ks → length ks ≡ length zs → FitsSigned w128 (get_or zs i (pos 0)) → values_of_args ks zs ≡ option_map (λ r. vs ++ r) (values_of_args (drop i ks) (drop i zs)) → None ≡ value_of_arg (get_or ks i kind.I32) (read_of zs i) → None ≡ values_of_args ks zs
no_value_at ks zs i vs lt same fits so_far none =
    sym (so_far ∙ ap (option_map (λ r. vs ++ r)) (values_from ks zs i kind.I32 (pos 0) lt same ∙ ap (λ o. value_before o (values_of_args (drop (i + 1) ks) (drop (i + 1) zs))) (read_here ks zs i None fits none)))

-- one more value
pub value_at : (ks : List Kind) (zs : List ℤ) (i : ℕ) (vs ws : List Value) (v : Value) → i < length ks → length ks ≡ length zs → FitsSigned w128 (get_or zs i (pos 0)) → values_of_args ks zs ≡ option_map (λ r. vs ++ r) (values_of_args (drop i ks) (drop i zs)) → Some v ≡ value_of_arg (get_or ks i kind.I32) (read_of zs i) → ws ≡ vs ++ v ∷ [] → values_of_args ks zs ≡ option_map (λ r. ws ++ r) (values_of_args (drop (i + 1) ks) (drop (i + 1) zs))
value_at ks zs i vs ws v lt same fits so_far some more =
    so_far
    ∙ ap (option_map (λ r. vs ++ r)) (values_from ks zs i kind.I32 (pos 0) lt same ∙ ap (λ o. value_before o (values_of_args (drop (i + 1) ks) (drop (i + 1) zs))) (read_here ks zs i (Some v) fits some))
    ∙ behind (values_of_args (drop (i + 1) ks) (drop (i + 1) zs))
    ∙ ap (λ l. option_map (λ r. l ++ r) (values_of_args (drop (i + 1) ks) (drop (i + 1) zs))) (sym more)
  where
    behind : (o : Option (List Value)) → option_map (λ r. vs ++ r) (value_before (Some v) o) ≡ option_map (λ r. (vs ++ v ∷ []) ++ r) o
    behind (Some rest) = ap Some (sym (append_assoc vs (v ∷ []) rest))
    behind None = refl

-- the values have the kinds of the parameters
value_kind : (k : Kind) (z : ℤ) (v : Value) → value_of_arg k z ≡ Some v → kind_of v ≡ k
value_kind kind.I32 z v h = go (wrapped_within w32 (2 ^ 31) (2 ^ 32) z) h
  where
    go : (o : Option ℤ) → option_map (λ n. value.I32 n) o ≡ Some v → kind_of v ≡ kind.I32
    go (Some n) h = let same : value.I32 n ≡ v = cc in ap kind_of (sym same)
    go None h = absurd cc
value_kind kind.I64 z v h = go (wrapped_within w64 (2 ^ 63) (2 ^ 64) z) h
  where
    go : (o : Option ℤ) → option_map (λ n. value.I64 n) o ≡ Some v → kind_of v ≡ kind.I64
    go (Some n) h = let same : value.I64 n ≡ v = cc in ap kind_of (sym same)
    go None h = absurd cc

both_values : (o : Option Value) (p : Option (List Value)) (vs : List Value) → value_before o p ≡ Some vs → (x : Value) × (xs : List Value) × (o ≡ Some x) × (p ≡ Some xs) × (x ∷ xs ≡ vs)
both_values (Some x) (Some xs) vs h = (x, xs, refl, refl, cc)
both_values (Some x) None vs h = absurd cc
both_values None p vs h = absurd cc

pub kinds-values : (ks : List Kind) (zs : List ℤ) (vs : List Value) → values_of_args ks zs ≡ Some vs → map kind_of vs ≡ ks
kinds-values [] [] vs h = let e : [] ≡ vs = cc in ap (map kind_of) (sym e)
kinds-values [] (z ∷ zs) vs h = absurd cc
kinds-values (k ∷ ks) [] vs h = absurd cc
kinds-values (k ∷ ks) (z ∷ zs) vs h =
    let q = both_values (value_of_arg k z) (values_of_args ks zs) vs h in
    ap (map kind_of) (sym q.4) ∙ ap₂ (λ a as'. a ∷ as') (value_kind k z q.0 q.2) (kinds-values ks zs q.1 q.3)

-- and each lies in the signed range of its kind
wrapped_fits : (w : Width) (half whole : ℕ) (z n : ℤ) → wrapped_within w half whole z ≡ Some n → FitsSigned w n
wrapped_fits w half whole z n h = go (is_within half whole z) h
  where
    go : (b : Bool) → (if b then Some (int_wrap w z) else None) ≡ Some n → FitsSigned w n
    go true h = let same : int_wrap w z ≡ n = cc in let P : ℤ → Type 0 = λ x. FitsSigned w x in subst P same (SFits-int_wrap w z)
    go false h = absurd cc

value_fits : (k : Kind) (z : ℤ) (v : Value) → value_of_arg k z ≡ Some v → is_value v ≡ true
value_fits kind.I32 z v h = go (wrapped_within w32 (2 ^ 31) (2 ^ 32) z) refl h
  where
    go : (o : Option ℤ) → wrapped_within w32 (2 ^ 31) (2 ^ 32) z ≡ o → option_map (λ n. value.I32 n) o ≡ Some v → is_value v ≡ true
    go (Some n) e h = let same : value.I32 n ≡ v = cc in ap is_value (sym same) ∙ lt-ltb _ _ (wrapped_fits w32 (2 ^ 31) (2 ^ 32) z n e).sfits
    go None e h = absurd cc
value_fits kind.I64 z v h = go (wrapped_within w64 (2 ^ 63) (2 ^ 64) z) refl h
  where
    go : (o : Option ℤ) → wrapped_within w64 (2 ^ 63) (2 ^ 64) z ≡ o → option_map (λ n. value.I64 n) o ≡ Some v → is_value v ≡ true
    go (Some n) e h = let same : value.I64 n ≡ v = cc in ap is_value (sym same) ∙ lt-ltb _ _ (wrapped_fits w64 (2 ^ 63) (2 ^ 64) z n e).sfits
    go None e h = absurd cc

pub values_fit : (ks : List Kind) (zs : List ℤ) (vs : List Value) → values_of_args ks zs ≡ Some vs → list_all is_value vs ≡ true
values_fit [] [] vs h = let e : [] ≡ vs = cc in ap (list_all is_value) (sym e)
values_fit [] (z ∷ zs) vs h = absurd cc
values_fit (k ∷ ks) [] vs h = absurd cc
values_fit (k ∷ ks) (z ∷ zs) vs h =
    let q = both_values (value_of_arg k z) (values_of_args ks zs) vs h in
    ap (list_all is_value) (sym q.4) ∙ and_both _ _ (value_fits k z q.0 q.2) (values_fit ks zs q.1 q.3)
