-- Sequences of instructions are no longer than their bytes, since no instruction has an empty spelling.
use Rattle.std.proofs.Common.{◌≡◌, ℕ, ◌<◌, ◌≤◌, List, [], ◌∷◌, ◌++◌, length, inl, inr, refl, ap, arith}
use Rattle.std.proofs.lemmas.List.{length-append}
use Rattle.mc_nbt.specs.declared.value.Value.TheVariants as values
use Rattle.wm_ast.specs.Code.{Op, unreachable, nop, block, loop, if_else, br, br_if, br_table, return, call}
use Rattle.wm_ast.specs.Code.{call_indirect, drop_one, select, local_get, local_set, local_tee, global_get, global_set}
use Rattle.wm_ast.specs.Code.{load, store, memory_size, memory_grow, memory_copy, memory_fill, const, num, float, mul64}
use Rattle.wm_ast.specs.Code.{Code, nil, cons}
use Rattle.wm_ast.specs.Instruction.{SpellsOp, SpellsCode, SpellsExpr}
use Rattle.wm_ast.specs.Number.{IsUnsigned}
use Rattle.wm_ast.specs.Vector.{SpellsEach, SpellsVector, SpellsIndex}
use Rattle.wm_vectors.specs.Vectors.{code_length, OpWithin, EachOpWithin, CodeWithin}

-- Parts of bytes.

pub front_within : (n : ℕ) (xs ys zs : List ℕ) → zs ≡ xs ++ ys → length zs ≤ n → length xs ≤ n
front_within n xs ys zs e le = let a = length-append xs ys in let b = ap length e in omega arith

pub behind_within : (n : ℕ) (xs ys zs : List ℕ) → zs ≡ xs ++ ys → length zs ≤ n → length ys ≤ n
behind_within n xs ys zs e le = let a = length-append xs ys in let b = ap length e in omega arith

pub tail_within : (n x : ℕ) (xs zs : List ℕ) → zs ≡ x ∷ xs → length zs ≤ n → length xs ≤ n
tail_within n x xs zs e le = let b = ap length e in omega arith

pub cons_long : (x : ℕ) (xs zs : List ℕ) → zs ≡ x ∷ xs → 0 < length zs
cons_long x xs zs e = let b = ap length e in omega arith

pub front_long : (xs ys zs : List ℕ) → zs ≡ xs ++ ys → 0 < length xs → 0 < length zs
front_long xs ys zs e h = let a = length-append xs ys in let b = ap length e in omega arith

pub unsigned_long : (bits : ℕ) (bs : List ℕ) (n : ℕ) → IsUnsigned bits bs n → 0 < length bs
unsigned_long bits [] n h = absurd h
unsigned_long bits (b ∷ bs) n h = omega arith

pub index_long : (n : ℕ) (bytes : List ℕ) → SpellsIndex n bytes → 0 < length bytes
index_long n bytes h = unsigned_long 32 bytes n h

-- Vectors.

pub each_short : {A : Type 0} (Spells' : A → List ℕ → Type 0) → ((x : A) (bytes : List ℕ) → Spells' x bytes → 0 < length bytes) → (xs : List A) (bytes : List ℕ)
    → SpellsEach Spells' xs bytes → length xs ≤ length bytes
each_short Spells' long [] bytes h = omega arith
each_short Spells' long (x ∷ xs) bytes h =
    let a = long x h.0 h.2 in
    let b = each_short Spells' long xs h.1 h.3 in
    let c = length-append h.0 h.1 in
    let d = ap length h.4 in
    omega arith

pub vector_short : {A : Type 0} (Spells' : A → List ℕ → Type 0) → ((x : A) (bytes : List ℕ) → Spells' x bytes → 0 < length bytes) → (xs : List A) (bytes : List ℕ) (n : ℕ)
    → SpellsVector Spells' xs bytes → length bytes ≤ n → length xs ≤ n
vector_short Spells' long xs bytes n h le =
    let a = each_short Spells' long xs h.1 h.3 in
    let b = behind_within n h.0 h.1 bytes h.4 le in
    omega arith

-- Instructions.

op_long : (i : Op) (bytes : List ℕ) → SpellsOp i bytes → 0 < length bytes
op_long unreachable bytes h = cons_long _ _ bytes h
op_long nop bytes h = cons_long _ _ bytes h
op_long (block ty body) bytes h = cons_long _ _ bytes h.2
op_long (loop ty body) bytes h = cons_long _ _ bytes h.2
op_long (if_else ty first second) bytes (inl h) = cons_long _ _ bytes h.4
op_long (if_else ty first second) bytes (inr h) = cons_long _ _ bytes h.1.2
op_long (br l) bytes h = cons_long _ _ bytes h.2
op_long (br_if l) bytes h = cons_long _ _ bytes h.2
op_long (br_table ls l) bytes h = cons_long _ _ bytes h.4
op_long return bytes h = cons_long _ _ bytes h
op_long (call f) bytes h = cons_long _ _ bytes h.2
op_long (call_indirect t) bytes h = cons_long _ _ bytes h.4
op_long drop_one bytes h = cons_long _ _ bytes h
op_long select bytes h = cons_long _ _ bytes h
op_long (local_get x) bytes h = cons_long _ _ bytes h.2
op_long (local_set x) bytes h = cons_long _ _ bytes h.2
op_long (local_tee x) bytes h = cons_long _ _ bytes h.2
op_long (global_get x) bytes h = cons_long _ _ bytes h.2
op_long (global_set x) bytes h = cons_long _ _ bytes h.2
op_long (load op align offset) bytes h = cons_long _ _ bytes h.2
op_long (store op align offset) bytes h = cons_long _ _ bytes h.2
op_long memory_size bytes h = cons_long _ _ bytes h
op_long memory_grow bytes h = cons_long _ _ bytes h
op_long memory_copy bytes h = cons_long _ _ bytes h.2
op_long memory_fill bytes h = cons_long _ _ bytes h.2
op_long (const (values.I32 n)) bytes h = cons_long _ _ bytes h.2
op_long (const (values.I64 n)) bytes h = cons_long _ _ bytes h.2
op_long (num op) bytes h = cons_long _ _ bytes h
op_long (float byte) bytes h = cons_long _ _ bytes h.2
op_long mul64 bytes h = cons_long _ _ bytes h

code_short : (n : ℕ) (is : Code) (bytes : List ℕ) → SpellsCode is bytes → length bytes ≤ n → code_length is ≤ n
code_short n nil bytes h le = omega arith
code_short n (cons i is) bytes h le =
    let a = op_long i h.0 h.2 in
    let b = code_short (length h.1) is h.1 h.3 (omega arith) in
    let c = length-append h.0 h.1 in
    let d = ap length h.4 in
    omega arith

-- what stands between an opcode with a block type and an end
body_short : (n x y : ℕ) (body more bytes : List ℕ) → bytes ≡ x ∷ (y ∷ (body ++ more)) → length bytes ≤ n → length body ≤ n
body_short n x y body more bytes e le = let a = length-append body more in let b = ap length e in omega arith

second_short : (n x y z : ℕ) (first second more bytes : List ℕ) → bytes ≡ x ∷ (y ∷ (first ++ z ∷ (second ++ more))) → length bytes ≤ n → length second ≤ n
second_short n x y z first second more bytes e le =
    let a = length-append first (z ∷ (second ++ more)) in
    let c = length-append second more in
    let b = ap length e in
    omega arith

mutual
  op_within : (n : ℕ) (i : Op) (bytes : List ℕ) → SpellsOp i bytes → length bytes ≤ n → OpWithin n i
  op_within n (block ty body) bytes h le =
      let l = body_short n _ _ h.0 _ bytes h.2 le in
      (code_short n body h.0 h.1 l, each_within n body h.0 h.1 l)
  op_within n (loop ty body) bytes h le =
      let l = body_short n _ _ h.0 _ bytes h.2 le in
      (code_short n body h.0 h.1 l, each_within n body h.0 h.1 l)
  op_within n (if_else ty first second) bytes (inl h) le =
      let l = body_short n _ _ h.0 _ bytes h.4 le in
      let k = second_short n _ _ _ h.0 h.1 _ bytes h.4 le in
      ((code_short n first h.0 h.2 l, each_within n first h.0 h.2 l), (code_short n second h.1 h.3 k, each_within n second h.1 h.3 k))
  op_within n (if_else ty first nil) bytes (inr h) le =
      let l = body_short n _ _ h.1.0 _ bytes h.1.2 le in
      ((code_short n first h.1.0 h.1.1 l, each_within n first h.1.0 h.1.1 l), (omega arith, tt))
  op_within n (if_else ty first (cons i is)) bytes (inr h) le = absurd h.0
  op_within n (br_table ls l) bytes h le =
      vector_short SpellsIndex index_long ls h.0 n h.2 (front_within n h.0 h.1 (h.0 ++ h.1) refl (tail_within n _ (h.0 ++ h.1) bytes h.4 le))
  op_within n _ bytes h le = tt

  each_within : (n : ℕ) (is : Code) (bytes : List ℕ) → SpellsCode is bytes → length bytes ≤ n → EachOpWithin n is
  each_within n nil bytes h le = tt
  each_within n (cons i is) bytes h le =
      (op_within n i h.0 h.2 (front_within n h.0 h.1 bytes h.4 le), each_within n is h.1 h.3 (behind_within n h.0 h.1 bytes h.4 le))

pub expr_within : (n : ℕ) (is : Code) (bytes : List ℕ) → SpellsExpr is bytes → length bytes ≤ n → CodeWithin n is
expr_within n is bytes h le =
    let l = front_within n h.inside _ bytes h.whole le in
    (code_short n is h.inside h.spells l, each_within n is h.inside h.spells l)
