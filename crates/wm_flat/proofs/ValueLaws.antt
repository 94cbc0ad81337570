-- Lists of values of given types.
use Rattle.std.proofs.Common.{◌≡◌, ℕ, zero, suc, ◌^◌, ◌<◌, List, [], ◌∷◌, ◌++◌, length, take, drop, reverse, Bool, true, false, ltb, Some, refl, sym, ap, subst, ◌∙◌, arith, ℤ, pos, negsuc}
use Rattle.std.specs.Prelude.{slice_get, slice_set, All}
use Rattle.std.specs.Int.{Width, cast_signed, w32, w64}
use Rattle.std.proofs.lemmas.Bool.{le-ltb, lt-ltb, ltb-true, ltb-false}
use Rattle.std.proofs.lemmas.List.{length-append, length-map, map-append}
use Rattle.std.proofs.lemmas.List.Elements.{All-nil, All-cons, All-head, All-tail, All-append, All-take, All-drop}
use Rattle.std.proofs.lemmas.Nat.{pow_pos}
use mathlib.Core.List.{reverse_aux}
use mir.Val.{hbits}
use mir.ValLaws.{pow-bits}
use lib.Signed.{mag}
use Rattle.mc_nbt.specs.declared.value.Kind.{Kind}
use Rattle.mc_nbt.specs.declared.value.Kind.TheVariants as kinds
use Rattle.mc_nbt.specs.declared.value.Value.{Value}
use Rattle.mc_nbt.specs.declared.value.Value.TheVariants as values
use Rattle.wm_ast.specs.declared.module.ValType.{ValType}
use Rattle.wm_ast.specs.declared.module.ValType.TheVariants.{I32}
use Rattle.wm_ast.specs.Operand.{value_of}
use Rattle.wm_ast.specs.Operation.{kind_type}
use Rattle.wm_ast.specs.Simple.{if_nonzero}
use Rattle.wm_ast.specs.Step.{top}
use Rattle.wm_ast.specs.Types.{const_type}
use Rattle.wm_flat.specs.FlatTyping.{types_of, Are}
use Rattle.wm_valid.specs.InRange.{IsInRange}

pub head_of : {A : Type 0} (x y : A) (xs ys : List A) → x ∷ xs ≡ y ∷ ys → x ≡ y
head_of x y xs ys e = cc

pub tail_of : {A : Type 0} (x y : A) (xs ys : List A) → x ∷ xs ≡ y ∷ ys → xs ≡ ys
tail_of x y xs ys e = cc

-- a value of this type, in its range
pub record Is (t : ValType) (v : Value) : Type 0 where
  pub type : const_type v ≡ t
  pub range : IsInRange v

pub are_none : Are [] []
are_none = record { types = refl; range = All-nil IsInRange }

pub are_more : (t : ValType) (ts : List ValType) (v : Value) (vs : List Value) → Is t v → Are ts vs → Are (t ∷ ts) (v ∷ vs)
are_more t ts v vs i a = record {
  types = ap (λ u. u ∷ types_of vs) i.type ∙ ap (λ (l : List ValType). t ∷ l) a.types;
  range = All-cons IsInRange v vs i.range a.range;
}

pub are_join : (ts us : List ValType) (vs ws : List Value) → Are ts vs → Are us ws → Are (ts ++ us) (vs ++ ws)
are_join ts us vs ws a b = record {
  types = map-append const_type vs ws ∙ ap (λ (l : List ValType). l ++ types_of ws) a.types ∙ ap (λ (l : List ValType). ts ++ l) b.types;
  range = All-append IsInRange vs ws a.range b.range;
}

-- with other words for the types
pub are_as : (ts us : List ValType) (vs : List Value) → ts ≡ us → Are ts vs → Are us vs
are_as ts us vs e a = record { types = a.types ∙ e; range = a.range }

pub own_types : (vs : List Value) → All IsInRange vs → Are (types_of vs) vs
own_types vs r = record { types = refl; range = r }

pub length_are : (ts : List ValType) (vs : List Value) → Are ts vs → length vs ≡ length ts
length_are ts vs a = sym (length-map vs const_type) ∙ ap (λ (l : List ValType). length l) a.types

types-reverse_aux : (us vs : List Value) → types_of (reverse_aux us vs) ≡ reverse_aux (types_of us) (types_of vs)
types-reverse_aux [] vs = refl
types-reverse_aux (u ∷ us) vs = types-reverse_aux us (u ∷ vs)

range-reverse_aux : (us vs : List Value) → All IsInRange us → All IsInRange vs → All IsInRange (reverse_aux us vs)
range-reverse_aux [] vs r q = q
range-reverse_aux (u ∷ us) vs r q = range-reverse_aux us (u ∷ vs) (All-tail IsInRange u us r) (All-cons IsInRange u vs (All-head IsInRange u us r) q)

pub are_reverse : (ts : List ValType) (vs : List Value) → Are ts vs → Are (reverse ts) (reverse vs)
are_reverse ts vs a = record {
  types = types-reverse_aux vs [] ∙ ap (λ (l : List ValType). reverse l) a.types;
  range = range-reverse_aux vs [] a.range (All-nil IsInRange);
}

take_types : (ts below : List ValType) (vs : List Value) → types_of vs ≡ ts ++ below → types_of (take (length ts) vs) ≡ ts
take_types [] below vs e = refl
take_types (t ∷ ts) below [] e = absurd cc
take_types (t ∷ ts) below (v ∷ vs) e =
    ap (λ k. k ∷ types_of (take (length ts) vs)) (head_of (const_type v) t (types_of vs) (ts ++ below) e)
    ∙ ap (λ (l : List ValType). t ∷ l) (take_types ts below vs (tail_of (const_type v) t (types_of vs) (ts ++ below) e))

drop_types : (ts below : List ValType) (vs : List Value) → types_of vs ≡ ts ++ below → types_of (drop (length ts) vs) ≡ below
drop_types [] below vs e = e
drop_types (t ∷ ts) below [] e = absurd cc
drop_types (t ∷ ts) below (v ∷ vs) e = drop_types ts below vs (tail_of (const_type v) t (types_of vs) (ts ++ below) e)

pub take_are : (n : ℕ) (ts below : List ValType) (vs : List Value) → length ts ≡ n → Are (ts ++ below) vs → Are ts (take n vs)
take_are n ts below vs e a = record {
  types = ap (λ i. types_of (take i vs)) (sym e) ∙ take_types ts below vs a.types;
  range = All-take IsInRange n vs a.range;
}

pub drop_are : (n : ℕ) (ts below : List ValType) (vs : List Value) → length ts ≡ n → Are (ts ++ below) vs → Are below (drop n vs)
drop_are n ts below vs e a = record {
  types = ap (λ i. types_of (drop i vs)) (sym e) ∙ drop_types ts below vs a.types;
  range = All-drop IsInRange n vs a.range;
}

-- enough values for a label
pub top_is : (n : ℕ) (ts below : List ValType) (vs : List Value) → length ts ≡ n → Are (ts ++ below) vs → top n vs ≡ Some (take n vs)
top_is n ts below vs e a =
    let l = length_are (ts ++ below) vs a in
    let k = length-append ts below in
    rw (le-ltb (length vs) n (omega arith)) refl

-- The first value.

pub record First (t : ValType) (ts : List ValType) (vs : List Value) : Type 0 where
  pub value : Value
  pub others : List Value
  pub parts : vs ≡ value ∷ others
  pub is : Is t value
  pub rest : Are ts others

pub first_of_all : (t : ValType) (ts : List ValType) (vs : List Value) → Are (t ∷ ts) vs → First t ts vs
first_of_all t ts [] a = absurd (let e = a.types in cc)
first_of_all t ts (v ∷ vs) a = record {
  value = v;
  others = vs;
  parts = refl;
  is = record { type = head_of (const_type v) t (types_of vs) ts a.types; range = All-head IsInRange v vs a.range };
  rest = record { types = tail_of (const_type v) t (types_of vs) ts a.types; range = All-tail IsInRange v vs a.range };
}

is_i32 : (v : Value) → const_type v ≡ I32 → (n : ℤ) × (v ≡ values.I32 n)
is_i32 (values.I32 n) e = (n, refl)
is_i32 (values.I64 n) e = absurd cc

pub record FirstI32 (ts : List ValType) (vs : List Value) : Type 0 where
  pub number : ℤ
  pub others : List Value
  pub parts : vs ≡ values.I32 number ∷ others
  pub range : IsInRange (values.I32 number)
  pub rest : Are ts others

pub first_i32 : (ts : List ValType) (vs : List Value) → Are (I32 ∷ ts) vs → FirstI32 ts vs
first_i32 ts vs a =
    let f = first_of_all I32 ts vs a in
    let n = is_i32 f.value f.is.type in
    record {
      number = n.0;
      others = f.others;
      parts = f.parts ∙ ap (λ v. v ∷ f.others) n.1;
      rest = f.rest;
      range = subst IsInRange n.1 f.is.range;
    }

-- By position.

pub at_position : (vs : List Value) (ts : List ValType) (x : ℕ) (t : ValType) → Are ts vs → slice_get ts x ≡ Some t → (v : Value) × (slice_get vs x ≡ Some v) × Is t v
at_position [] ts x t a e = absurd (let w : slice_get [] x ≡ Some t = ap (λ (l : List ValType). slice_get l x) a.types ∙ e in cc)
at_position (v ∷ vs) ts zero t a e =
    let w : slice_get (types_of (v ∷ vs)) 0 ≡ Some t = ap (λ (l : List ValType). slice_get l 0) a.types ∙ e in
    (v, refl, record { type = cc; range = All-head IsInRange v vs a.range })
at_position (v ∷ vs) ts (suc x) t a e =
    let w : slice_get (types_of vs) x ≡ Some t = ap (λ (l : List ValType). slice_get l (suc x)) a.types ∙ e in
    at_position vs (types_of vs) x t (own_types vs (All-tail IsInRange v vs a.range)) w

pub set_position : (vs : List Value) (ts : List ValType) (x : ℕ) (v : Value) (t : ValType) → Are ts vs → slice_get ts x ≡ Some t → Is t v → (ltb x (length vs) ≡ true) × Are ts (slice_set vs x v)
set_position [] ts x v t a e i = absurd (let w : slice_get [] x ≡ Some t = ap (λ (l : List ValType). slice_get l x) a.types ∙ e in cc)
set_position (u ∷ vs) ts zero v t a e i =
    let w : slice_get (types_of (u ∷ vs)) 0 ≡ Some t = ap (λ (l : List ValType). slice_get l 0) a.types ∙ e in
    let same : t ≡ const_type u = cc in (
      lt-ltb 0 (length (u ∷ vs)) (omega arith),
      are_as (t ∷ types_of vs) ts (v ∷ vs) (ap (λ k. k ∷ types_of vs) same ∙ a.types) (are_more t (types_of vs) v vs i (own_types vs (All-tail IsInRange u vs a.range))),
    )
set_position (u ∷ vs) ts (suc x) v t a e i =
    let w : slice_get (types_of vs) x ≡ Some t = ap (λ (l : List ValType). slice_get l (suc x)) a.types ∙ e in
    let r = set_position vs (types_of vs) x v t (own_types vs (All-tail IsInRange u vs a.range)) w i in (
      lt-ltb (suc x) (length (u ∷ vs)) (let l : x < length vs = ltb-true x (length vs) r.0 in omega arith),
      are_as (const_type u ∷ types_of vs) ts (u ∷ slice_set vs x v) a.types
          (are_more (const_type u) (types_of vs) u (slice_set vs x v) (record { type = refl; range = All-head IsInRange u vs a.range }) r.1),
    )

-- One of two values by a condition.

pub one_of : (n : ℤ) (a b : Value) (t : ValType) → Is t a → Is t b → Is t (if_nonzero n a b)
one_of (pos zero) a b t p q = q
one_of (pos (suc n)) a b t p q = p
one_of (negsuc n) a b t p q = p

-- Integers as values.

signed_fits : (w : Width) (n : ℕ) → mag (cast_signed w n) < 2 ^ hbits w
signed_fits w n = by_sign (ltb n (2 ^ hbits w)) refl
  where
    by_sign : (b : Bool) → ltb n (2 ^ hbits w) ≡ b → mag (cast_signed w n) < 2 ^ hbits w
    by_sign true e = let l = ltb-true n (2 ^ hbits w) e in rw e l
    by_sign false e = let l = ltb-false n (2 ^ hbits w) e in let p = pow-bits w in let o = pow_pos (hbits w) in rw e (omega arith)

pub value_is : (k : Kind) (n : ℕ) → Is (kind_type k) (value_of k n)
value_is kinds.I32 n = record { type = refl; range = lt-ltb (mag (cast_signed w32 n)) (2 ^ 31) (signed_fits w32 n) }
value_is kinds.I64 n = record { type = refl; range = lt-ltb (mag (cast_signed w64 n)) (2 ^ 63) (signed_fits w64 n) }
