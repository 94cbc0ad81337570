-- The shortest spellings spell.
use Rattle.std.proofs.Common.{◌≡◌, ℕ, zero, suc, ◌+◌, ◌-◌, ◌*◌, ◌/◌, ◌%◌, ◌^◌, ◌<◌, ◌≤◌, List, [], ◌∷◌, ◌++◌, length, refl, sym, ◌∙◌, ap, subst, inl, arith, pos}
use Rattle.std.specs.Prelude.{All}
use Rattle.std.specs.List.{flat_map}
use Rattle.std.proofs.Math.Pow.{pow_mono}
use Rattle.std.proofs.lemmas.Bool.{cases_lt}
use Rattle.std.proofs.lemmas.Int.{ints}
use Rattle.std.proofs.lemmas.List.Elements.{All-head, All-tail}
use Rattle.std.proofs.lemmas.Nat.{pow-add}
use mathlib.Core.Logic.{⊎_elim}
use Rattle.mc_nbt.specs.declared.value.Value.TheVariants.{I32, I64}
use Rattle.wm_ast.specs.Code.{Op, loop, br_if, call, local_get, local_set, local_tee, load, store, const, num, Code, nil, cons}
use Rattle.wm_ast.specs.Instruction.{SpellsOp, SpellsCode}
use Rattle.wm_ast.specs.Number.{IsUnsigned, IsSigned}
use Rattle.wm_ast.specs.Vector.{SpellsEach, SpellsVector}
use Rattle.wm_gen.specs.Shortest.{sevens, unsigned, signed, vector, op_bytes, code_bytes}
use Rattle.wm_gen.proofs.NumberLaws.{ends, goes_on, length_sevens}

-- ---- numbers

split : (bits : ℕ) → 7 < bits → 2 ^ bits ≡ 128 * 2 ^ (bits - 7)
split bits more =
    let e : bits ≡ 7 + (bits - 7) = omega arith in
    ap (λ k. 2 ^ k) e ∙ pow-add 2 7 (bits - 7)

-- seven bits before the spelling of the others
longer : (bits n : ℕ) (front : List ℕ) → 7 < bits → IsUnsigned (bits - 7) front (n / 128) → IsUnsigned bits ((n % 128 + 128) ∷ front) n
longer bits n [] more h = absurd h
longer bits n (c ∷ front) more h = (omega arith, omega arith, more, (n / 128, omega arith, h))

unsigned_sevens : (k bits n : ℕ) → bits ≤ 7 * k + 7 → n < 2 ^ bits → IsUnsigned bits (sevens 128 k n) n
unfolding sevens
unsigned_sevens zero bits n few low = let le : bits ≤ 7 = omega arith in let most : 2 ^ bits ≤ 2 ^ 7 = pow_mono le in (omega arith, low, refl)
unsigned_sevens (suc k) bits n few low = ⊎_elim
    (λ (h : n < 128). subst (λ (l : List ℕ). IsUnsigned bits l n) (sym (ends 128 (suc k) n h)) (h, low, refl))
    (λ (h : 128 ≤ n). subst (λ (l : List ℕ). IsUnsigned bits l n) (sym (goes_on 128 k n h))
    (let more : 7 < bits = wide bits n h low in
    let half : 2 ^ bits ≡ 128 * 2 ^ (bits - 7) = split bits more in
    longer bits n (sevens 128 k (n / 128)) more (unsigned_sevens k (bits - 7) (n / 128) (omega arith) (omega arith))))
    (cases_lt n 128)
  where
    wide : (bits n : ℕ) → 128 ≤ n → n < 2 ^ bits → 7 < bits
    wide bits n h low = ⊎_elim (λ (l : 7 < bits). l) (λ (l : bits ≤ 7). let most : 2 ^ bits ≤ 2 ^ 7 = pow_mono l in absurd (omega arith)) (cases_lt 7 bits)

pub unsigned_spelled : (n : ℕ) → n < 2 ^ 32 → IsUnsigned 32 (unsigned n) n
unfolding unsigned
unsigned_spelled n h = unsigned_sevens 9 32 n (omega arith) h

signed_longer : (bits n : ℕ) (front : List ℕ) → 7 < bits → IsSigned (bits - 7) front (pos (n / 128)) → IsSigned bits ((n % 128 + 128) ∷ front) (pos n)
signed_longer bits n [] more h = absurd h
signed_longer bits n (c ∷ front) more h = (omega arith, omega arith, more, (pos (n / 128), omega (arith, ints), h))

signed_sevens : (k bits n : ℕ) → 0 < bits → bits ≤ 7 * k + 7 → n < 2 ^ (bits - 1) → IsSigned bits (sevens 64 k n) (pos n)
unfolding sevens
signed_sevens zero bits n some few low = let le : bits - 1 ≤ 6 = omega arith in let most : 2 ^ (bits - 1) ≤ 2 ^ 6 = pow_mono le in inl (omega arith, low, refl)
signed_sevens (suc k) bits n some few low = ⊎_elim
    (λ (h : n < 64). subst (λ (l : List ℕ). IsSigned bits l (pos n)) (sym (ends 64 (suc k) n h)) (inl (h, low, refl)))
    (λ (h : 64 ≤ n). subst (λ (l : List ℕ). IsSigned bits l (pos n)) (sym (goes_on 64 k n h))
    (let more : 7 < bits = wide bits n h low in
    let e : bits - 1 ≡ 7 + (bits - 7 - 1) = omega arith in
    let half : 2 ^ (bits - 1) ≡ 128 * 2 ^ (bits - 7 - 1) = ap (λ k. 2 ^ k) e ∙ pow-add 2 7 (bits - 7 - 1) in
    signed_longer bits n (sevens 64 k (n / 128)) more (signed_sevens k (bits - 7) (n / 128) (omega arith) (omega arith) (omega arith))))
    (cases_lt n 64)
  where
    wide : (bits n : ℕ) → 64 ≤ n → n < 2 ^ (bits - 1) → 7 < bits
    wide bits n h low = ⊎_elim (λ (l : 7 < bits). l) (λ (l : bits ≤ 7). let le : bits - 1 ≤ 6 = omega arith in let most : 2 ^ (bits - 1) ≤ 2 ^ 6 = pow_mono le in absurd (omega arith)) (cases_lt 7 bits)

signed_32 : (n : ℕ) → n < 2 ^ 31 → IsSigned 32 (signed n) (pos n)
unfolding signed
signed_32 n h = signed_sevens 9 32 n (omega arith) (omega arith) h

signed_64 : (n : ℕ) → n < 2 ^ 63 → IsSigned 64 (signed n) (pos n)
unfolding signed
signed_64 n h = signed_sevens 9 64 n (omega arith) (omega arith) h

-- ---- vectors

pub each_spelled : {A : Type 0} (Spells' : A → List ℕ → Type 0) (spelling : A → List ℕ) (xs : List A) → All (λ x. Spells' x (spelling x)) xs → SpellsEach Spells' xs (flat_map spelling xs)
each_spelled Spells' spelling [] h = refl
each_spelled Spells' spelling (x ∷ xs) h =
    (spelling x, flat_map spelling xs, All-head (λ x. Spells' x (spelling x)) x xs h, each_spelled Spells' spelling xs (All-tail (λ x. Spells' x (spelling x)) x xs h), refl)

pub vector_spelled : {A : Type 0} (Spells' : A → List ℕ → Type 0) (spelling : A → List ℕ) (xs : List A) → length xs < 2 ^ 32 → All (λ x. Spells' x (spelling x)) xs → SpellsVector Spells' xs (vector spelling xs)
vector_spelled Spells' spelling xs few h = (unsigned (length xs), flat_map spelling xs, unsigned_spelled (length xs) few, each_spelled Spells' spelling xs h, refl)

-- ---- instructions

abbrev mutual
  -- the instruction is one of those that have a shortest spelling, and its numbers lie in their ranges
  pub OpFits : Op → Type 0
  OpFits (loop ty body) = CodeFits body
  OpFits (br_if l) = l < 2 ^ 32
  OpFits (call f) = f < 2 ^ 32
  OpFits (local_get x) = x < 2 ^ 32
  OpFits (local_set x) = x < 2 ^ 32
  OpFits (local_tee x) = x < 2 ^ 32
  OpFits (load op align offset) = (align < 2 ^ 32) × (offset < 2 ^ 32)
  OpFits (store op align offset) = (align < 2 ^ 32) × (offset < 2 ^ 32)
  OpFits (const (I32 (pos n))) = n < 2 ^ 31
  OpFits (const (I64 (pos n))) = n < 2 ^ 63
  OpFits (num op) = Unit {0}
  OpFits _ = ⊥

  pub CodeFits : Code → Type 0
  CodeFits nil = Unit {0}
  CodeFits (cons i is) = OpFits i × CodeFits is

mutual
  pub op_spelled : (i : Op) → OpFits i → SpellsOp i (op_bytes i)
  op_spelled (loop ty body) h = (code_bytes body, code_spelled body h, refl)
  op_spelled (br_if l) h = (unsigned l, unsigned_spelled l h, refl)
  op_spelled (call f) h = (unsigned f, unsigned_spelled f h, refl)
  op_spelled (local_get x) h = (unsigned x, unsigned_spelled x h, refl)
  op_spelled (local_set x) h = (unsigned x, unsigned_spelled x h, refl)
  op_spelled (local_tee x) h = (unsigned x, unsigned_spelled x h, refl)
  op_spelled (load op align offset) h = (unsigned align ++ unsigned offset, (unsigned align, unsigned offset, unsigned_spelled align h.0, unsigned_spelled offset h.1, refl), refl)
  op_spelled (store op align offset) h = (unsigned align ++ unsigned offset, (unsigned align, unsigned offset, unsigned_spelled align h.0, unsigned_spelled offset h.1, refl), refl)
  op_spelled (const (I32 (pos n))) h = (signed n, signed_32 n h, refl)
  op_spelled (const (I64 (pos n))) h = (signed n, signed_64 n h, refl)
  op_spelled (num op) h = refl
  op_spelled _ h = absurd h

  pub code_spelled : (c : Code) → CodeFits c → SpellsCode c (code_bytes c)
  code_spelled nil h = refl
  code_spelled (cons i is) h = (op_bytes i, code_bytes is, op_spelled i h.0, code_spelled is h.1, refl)

-- ---- lengths

pub length_unsigned : (n : ℕ) → length (unsigned n) ≤ 10
unfolding unsigned
length_unsigned n = length_sevens 128 9 n

pub length_signed : (n : ℕ) → length (signed n) ≤ 10
unfolding signed
length_signed n = length_sevens 64 9 n
