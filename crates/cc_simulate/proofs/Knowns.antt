-- What it means that operands and locals are what is known of them.
use Rattle.std.proofs.Common.{◌≡◌, ℕ, zero, suc, List, [], ◌∷◌, ◌++◌, length, drop, Option, Some, None, Bool, true, false, refl, sym, ap, ◌∙◌, subst, append_assoc, ℤ}
use Rattle.std.specs.Prelude.{filter, if◌then◌else◌, nat_eq, not, slice_get, slice_set, unwrap_or}
use Rattle.std.proofs.lemmas.Bool.{eqb-true, eqb-false}
use Rattle.mc_nbt.specs.declared.value.Value.{Value}
use Rattle.mc_nbt.specs.declared.value.Value.TheVariants as values
use Rattle.cc_access.specs.KnownLaw.{IsOperand}
use Rattle.cc_body.specs.KnownConstants.{Knowns, KnownLocal, last_of, known_last, known_next, known_value, known_local, local_among, is_other, with_local}
use Rattle.cc_body.specs.KnownConstants.{fewer_known, more_known, nothing_known, set_known}

-- an operand is what is known of it; of an i64 nothing is said
abbrev pub IsKnown : Option ℕ → Value → Type 0
IsKnown k (values.I32 z) = IsOperand k z
IsKnown k (values.I64 z) = Unit {0}

-- these are so, of which the last one stands first
abbrev pub OperandsKnown : List (Option ℕ) → List Value → Type 0
OperandsKnown [] vs = Unit {0}
OperandsKnown (k ∷ ks) [] = ⊥
OperandsKnown (k ∷ ks) (v ∷ vs) = IsKnown k v × OperandsKnown ks vs

-- a local has its number
abbrev pub HasNumber : KnownLocal → List Value → Type 0
HasNumber l ls = (v : Value) → slice_get ls l.0 ≡ Some v → IsKnown (Some l.1) v

abbrev pub LocalsKnown : List KnownLocal → List Value → Type 0
LocalsKnown [] ls = Unit {0}
LocalsKnown (k ∷ ks) ls = HasNumber k ls × LocalsKnown ks ls

-- the locals, and the operands, the last one first
abbrev pub AreKnown : Knowns → List Value → List Value → Type 0
AreKnown ks ls vs = OperandsKnown ks.operands vs × LocalsKnown ks.locals ls

pub nothing_is_known : (ls vs : List Value) → AreKnown nothing_known ls vs
nothing_is_known ls vs = (tt, tt)

-- ---- operands

pub value_known : (v : Value) → IsKnown (known_value v) v
value_known (values.I32 z) = refl
value_known (values.I64 z) = tt

none_known : (v : Value) → IsKnown None v
none_known (values.I32 z) = tt
none_known (values.I64 z) = tt

-- another operand, of which nothing is known
pub one_more : (v : Value) (ks : Knowns) (ls vs : List Value) → AreKnown ks ls vs → AreKnown (more_known None ks) ls (v ∷ vs)
one_more v ks ls vs k = ((none_known v, k.0), k.1)

-- where the first ones are gone
fewer : (us vs : List Value) (ks : List (Option ℕ)) → OperandsKnown ks (us ++ vs) → OperandsKnown (drop (length us) ks) vs
fewer [] vs ks k = k
fewer (u ∷ us) vs [] k = tt
fewer (u ∷ us) vs (x ∷ ks) k = fewer us vs ks k.1

pub left_known : (ks : Knowns) (n : ℕ) (ls us left below vs : List Value) → vs ≡ us ++ left → length us ≡ n → AreKnown ks ls (vs ++ below) → AreKnown (fewer_known n ks) ls (left ++ below)
left_known ks n ls us left below vs parts long k = (
  subst (λ (j : ℕ). OperandsKnown (drop j ks.operands) (left ++ below)) long
      (fewer us (left ++ below) ks.operands (subst (OperandsKnown ks.operands) (ap (λ (l : List Value). l ++ below) parts ∙ append_assoc us left below) k.0)),
  k.1,
)

-- the last operand, and as an address it and the one under it
last_is : (v : Value) (ks : List (Option ℕ)) (vs : List Value) → OperandsKnown ks (v ∷ vs) → IsKnown (last_of ks) v
last_is v [] vs k = none_known v
last_is v (x ∷ ks) vs k = k.0

pub last_known : (z : ℤ) (ks : Knowns) (ls vs : List Value) → AreKnown ks ls (values.I32 z ∷ vs) → IsOperand (known_last ks) z
last_known z ks ls vs k = last_is (values.I32 z) ks.operands vs k.0

pub next_known : (u : Value) (z : ℤ) (ks : Knowns) (ls vs : List Value) → AreKnown ks ls (u ∷ values.I32 z ∷ vs) → IsOperand (known_next ks) z
next_known u z ks ls vs k = last_is (values.I32 z) (drop 1 ks.operands) vs (fewer (u ∷ []) (values.I32 z ∷ vs) ks.operands k.0)

-- ---- locals

local_is : (x : ℕ) (v : Value) (ks : List KnownLocal) (ls : List Value) → slice_get ls x ≡ Some v → LocalsKnown ks ls → IsKnown (local_among ks x) v
local_is x v [] ls e k = none_known v
local_is x v (l ∷ ks) ls e k = go (nat_eq l.0 x) refl (local_is x v ks ls e k.1)
  where
    go : (b : Bool) → nat_eq l.0 x ≡ b → IsKnown (local_among ks x) v → IsKnown (if b then Some l.1 else local_among ks x) v
    go true same rest = k.0 v (ap (slice_get ls) (eqb-true l.0 x same) ∙ e)
    go false apart rest = rest

-- another operand, which is that of a local
pub local_known : (x : ℕ) (v : Value) (ks : Knowns) (ls vs : List Value) → slice_get ls x ≡ Some v → AreKnown ks ls vs → AreKnown (more_known (known_local ks x) ks) ls (v ∷ vs)
local_known x v ks ls vs e k = ((local_is x v ks.locals ls e k.1, k.0), k.1)

-- where a local is set
pub get_set : {A : Type 0} (xs : List A) (x : ℕ) (old new : A) → slice_get xs x ≡ Some old → slice_get (slice_set xs x new) x ≡ Some new
get_set [] x old new e = absurd cc
get_set (y ∷ xs) zero old new e = refl
get_set (y ∷ xs) (suc x) old new e = get_set xs x old new e

get_other : (ls : List Value) (x y : ℕ) (v : Value) → (y ≡ x → ⊥) → slice_get (slice_set ls x v) y ≡ slice_get ls y
get_other [] x y v n = refl
get_other (l ∷ ls) zero zero v n = absurd (n refl)
get_other (l ∷ ls) zero (suc y) v n = refl
get_other (l ∷ ls) (suc x) zero v n = refl
get_other (l ∷ ls) (suc x) (suc y) v n = get_other ls x y v (λ e. n (ap suc e))

others_known : (x : ℕ) (v : Value) (ks : List KnownLocal) (ls : List Value) → LocalsKnown ks ls → LocalsKnown (filter (is_other x) ks) (slice_set ls x v)
others_known x v [] ls k = tt
others_known x v (l ∷ ks) ls k = go (nat_eq l.0 x) refl (others_known x v ks ls k.1)
  where
    go : (b : Bool) → nat_eq l.0 x ≡ b → LocalsKnown (filter (is_other x) ks) (slice_set ls x v) → LocalsKnown (if not b then l ∷ filter (is_other x) ks else filter (is_other x) ks) (slice_set ls x v)
    go true same rest = rest
    go false apart rest = (λ u e. k.0 u (sym (get_other ls x l.0 v (eqb-false l.0 x apart)) ∙ e), rest)

one_behind : (l : KnownLocal) (ks : List KnownLocal) (ls : List Value) → HasNumber l ls → LocalsKnown ks ls → LocalsKnown (ks ++ l ∷ []) ls
one_behind l [] ls h k = (h, tt)
one_behind l (j ∷ ks) ls h k = (k.0, one_behind l ks ls h k.1)

set_among : (x : ℕ) (old v : Value) (n : Option ℕ) (ks : List KnownLocal) (ls : List Value) → slice_get ls x ≡ Some old → IsKnown n v → LocalsKnown ks ls → LocalsKnown (with_local x n ks) (slice_set ls x v)
set_among x old v None ks ls e h k = others_known x v ks ls k
set_among x old v (Some n) ks ls e h k = one_behind (x, n) (filter (is_other x) ks) (slice_set ls x v) has (others_known x v ks ls k)
  where
    has : HasNumber (x, n) (slice_set ls x v)
    has u at = subst (IsKnown (Some n)) (ap (λ o. unwrap_or o v) (sym (get_set ls x old v e) ∙ at)) h

-- the last operand set to a local
pub set_is_known : (x : ℕ) (old v : Value) (ks : Knowns) (ls vs : List Value) → slice_get ls x ≡ Some old → AreKnown ks ls (v ∷ vs) → AreKnown (set_known x ks) (slice_set ls x v) (v ∷ vs)
set_is_known x old v ks ls vs e k = (k.0, set_among x old v (known_last ks) ks.locals ls e (last_is v ks.operands vs k.0) k.1)
