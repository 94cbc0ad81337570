-- What is spelled is read, whatever follows.
use Rattle.std.proofs.Common.{◌≡◌, ℕ, zero, suc, ◌<◌, ◌≤◌, Bool, true, false, eqb, eqb-true, List, [], ◌∷◌, ◌++◌, length, Option, Some, None, refl, sym, ap, ◌∙◌, arith, inl, inr, ◌⊎◌}
use Rattle.std.proofs.lemmas.Bool.{le-ltb}
use Rattle.std.proofs.lemmas.List.{append_assoc, length-append, drop_at}
use Rattle.mc_nbt.specs.declared.value.Value.TheVariants as values
use Rattle.wm_ast.specs.declared.module.ValType.{ValType}
use Rattle.wm_ast.specs.declared.module.ValType.TheVariants.{I32, I64, F32, F64}
use Rattle.wm_ast.specs.Code.{Op, unreachable, nop, block, loop, if_else, br, br_if, br_table, return, call, call_indirect, drop_one, select, local_get, local_set, local_tee, global_get, global_set, load, store, memory_size, memory_grow, memory_copy, memory_fill, const, num, float, mul64, Code, nil, cons}
use Rattle.wm_ast.specs.Instruction.{block_byte, SpellsMemoryArgument, SpellsFloatOperand, SpellsOp, SpellsCode, op_depth, code_depth}
use Rattle.wm_ast.specs.Number.{IsUnsigned}
use Rattle.wm_ast.specs.Opcode.{FloatOperand, no_operand, memory_argument, constant, float_operand}
use Rattle.wm_ast.specs.Vector.{SpellsVector, SpellsIndex}
use Rattle.wm_frame.specs.Reading.{Reader, unsigned_at}
use Rattle.wm_frame.proofs.NumberLaws.{unsigned_reads, signed_reads}
use Rattle.wm_decode.specs.steps.Instruction.{block_type_at, index_at, access_at, table_at, indirect_at, const32_at, const64_at, zero_at, prefixed_by, prefixed_at, skip_at, float_or, simple_op, simple_by, access_by, operand_by, index_by, plain_by, nested_at, arms_at, choice_at, op_by, op_at, inner, code_step, code_at}
use Rattle.wm_decode.specs.steps.Listing.{byte_at}
use Rattle.wm_decode.proofs.Listings.{regrouped, list_reads, index_reads}
use Rattle.wm_decode.proofs.OpcodeLaws.{num_again, load_again, store_again}

block_type_again : (ty : Option ValType) (bs : List ℕ) → block_type_at (block_byte ty ∷ bs) ≡ Some (ty, bs)
unfolding block_type_at
block_type_again None bs = refl
block_type_again (Some I32) bs = refl
block_type_again (Some I64) bs = refl
block_type_again (Some F32) bs = refl
block_type_again (Some F64) bs = refl

index_again : (make : ℕ → Op) (n : ℕ) (index rest : List ℕ) → SpellsIndex n index → index_at make (index ++ rest) ≡ Some (make n, rest)
unfolding index_at
index_again make n index rest s = rw ((unsigned_reads 32).again index n rest s) refl

access_again : (make : ℕ → ℕ → Op) (align offset : ℕ) (argument rest : List ℕ) → SpellsMemoryArgument align offset argument → access_at make (argument ++ rest) ≡ Some (make align offset, rest)
unfolding access_at
access_again make align offset argument rest s =
    let flat : argument ++ rest ≡ s.0 ++ (s.1 ++ rest) = regrouped argument s.0 s.1 rest s.4 in
    rw (flat, (unsigned_reads 32).again s.0 align (s.1 ++ rest) s.2, (unsigned_reads 32).again s.1 offset rest s.3) refl

table_again : (labels : List ℕ) (last : ℕ) (first second rest : List ℕ) → SpellsVector SpellsIndex labels first → SpellsIndex last second → table_at ((first ++ second) ++ rest) ≡ Some (br_table labels last, rest)
unfolding table_at
table_again labels last first second rest s t =
    let flat : (first ++ second) ++ rest ≡ first ++ (second ++ rest) = append_assoc first second rest in
    rw (flat, (list_reads SpellsIndex (unsigned_at 32) index_reads).again first labels (second ++ rest) s, (unsigned_reads 32).again second last rest t) refl

indirect_again : (n : ℕ) (index table rest : List ℕ) → SpellsIndex n index → SpellsIndex 0 table → indirect_at ((index ++ table) ++ rest) ≡ Some (call_indirect n, rest)
unfolding indirect_at
indirect_again n index table rest s t =
    let flat : (index ++ table) ++ rest ≡ index ++ (table ++ rest) = append_assoc index table rest in
    rw (flat, (unsigned_reads 32).again index n (table ++ rest) s, (unsigned_reads 32).again table 0 rest t) refl

prefixed_again : (n : ℕ) (number zeros rest : List ℕ) → IsUnsigned 32 number n → prefixed_at ((number ++ zeros) ++ rest) ≡ prefixed_by n (zeros ++ rest)
unfolding prefixed_at
prefixed_again n number zeros rest s =
    let flat : (number ++ zeros) ++ rest ≡ number ++ (zeros ++ rest) = append_assoc number zeros rest in
    rw (flat, (unsigned_reads 32).again number n (zeros ++ rest) s) refl

-- an opcode of an instruction on floats is no other opcode
other : (opcode k : ℕ) (x : FloatOperand) → float_operand opcode ≡ Some x → float_operand k ≡ None → eqb opcode k ≡ false
other opcode k x e none = go (eqb opcode k) refl
  where
    go : (t : Bool) → eqb opcode k ≡ t → t ≡ false
    go true is = let same : Some x ≡ None = sym e ∙ ap float_operand (eqb-true opcode k is) ∙ none in absurd cc
    go false is = refl

skip_again : (width : ℕ) (operand rest : List ℕ) → length operand ≡ width → skip_at width (operand ++ rest) ≡ Some rest
unfolding skip_at
skip_again width operand rest e =
    rw (le-ltb (length (operand ++ rest)) width (omega (arith, length-append operand rest)), drop_at operand rest width e) refl

float_by : (code : Reader Code) (opcode : ℕ) (x : FloatOperand) (bs : List ℕ) → float_operand opcode ≡ Some x → op_by code opcode bs ≡ float_or opcode (Some x) (index_by opcode) bs
unfolding op_by plain_by
float_by code opcode x bs e =
    let plain : op_by code opcode bs ≡ float_or opcode (float_operand opcode) (index_by opcode) bs = rw (other opcode 0x02 x e refl, other opcode 0x03 x e refl, other opcode 0x04 x e refl) refl in
    plain ∙ ap (λ o. float_or opcode o (index_by opcode) bs) e

float_again : (code : Reader Code) (opcode : ℕ) (operand rest : List ℕ) → SpellsFloatOperand (float_operand opcode) operand → op_by code opcode (operand ++ rest) ≡ Some (float opcode, rest)
float_again code opcode operand rest s = go (float_operand opcode) refl s
  where
    go : (o : Option FloatOperand) → float_operand opcode ≡ o → SpellsFloatOperand o operand → op_by code opcode (operand ++ rest) ≡ Some (float opcode, rest)
    go None e s = absurd s
    go (Some no_operand) e s = float_by code opcode no_operand (operand ++ rest) e ∙ ap (λ (t : List ℕ). Some (float opcode, t ++ rest)) s
    go (Some memory_argument) e s = float_by code opcode memory_argument (operand ++ rest) e ∙ access_again (λ align offset. float opcode) s.0 s.1 operand rest s.2
    go (Some (constant width)) e s = float_by code opcode (constant width) (operand ++ rest) e ∙ rw (skip_again width operand rest s) refl

nested_again : (make : Option ValType → Code → Op) (read : Reader Code) (ty : Option ValType) (code : Code) (body rest : List ℕ) → read (body ++ 0x0B ∷ rest) ≡ Some (code, 0x0B ∷ rest)
    → nested_at make read (block_byte ty ∷ ((body ++ 0x0B ∷ []) ++ rest)) ≡ Some (make ty code, rest)
unfolding nested_at byte_at
nested_again make read ty code body rest e =
    let flat : (body ++ 0x0B ∷ []) ++ rest ≡ body ++ 0x0B ∷ rest = append_assoc body (0x0B ∷ []) rest in
    rw (block_type_again ty ((body ++ 0x0B ∷ []) ++ rest), flat, e) refl

-- an `if` with one arm
one_arm_again : (read : Reader Code) (ty : Option ValType) (code : Code) (body rest : List ℕ) → read (body ++ 0x0B ∷ rest) ≡ Some (code, 0x0B ∷ rest)
    → choice_at read (block_byte ty ∷ ((body ++ 0x0B ∷ []) ++ rest)) ≡ Some (if_else ty code nil, rest)
unfolding choice_at arms_at
one_arm_again read ty code body rest e =
    let flat : (body ++ 0x0B ∷ []) ++ rest ≡ body ++ 0x0B ∷ rest = append_assoc body (0x0B ∷ []) rest in
    rw (block_type_again ty ((body ++ 0x0B ∷ []) ++ rest), flat, e) refl

two_arms_again : (read : Reader Code) (ty : Option ValType) (c1 c2 : Code) (first second rest : List ℕ)
    → read (first ++ 0x05 ∷ (second ++ 0x0B ∷ rest)) ≡ Some (c1, 0x05 ∷ (second ++ 0x0B ∷ rest)) → read (second ++ 0x0B ∷ rest) ≡ Some (c2, 0x0B ∷ rest)
    → choice_at read (block_byte ty ∷ ((first ++ 0x05 ∷ (second ++ 0x0B ∷ [])) ++ rest)) ≡ Some (if_else ty c1 c2, rest)
unfolding choice_at arms_at byte_at
two_arms_again read ty c1 c2 first second rest e1 e2 =
    let flat : (first ++ 0x05 ∷ (second ++ 0x0B ∷ [])) ++ rest ≡ first ++ 0x05 ∷ (second ++ 0x0B ∷ rest) = simp append_assoc in
    rw (block_type_again ty ((first ++ 0x05 ∷ (second ++ 0x0B ∷ [])) ++ rest), flat, e1, e2) refl

-- a byte that ends a sequence
abbrev pub EndsSequence : ℕ → Type 0
EndsSequence t = (t ≡ 0x0B) ⊎ (t ≡ 0x05)

code_ends : (n d t : ℕ) (rest : List ℕ) → EndsSequence t → code_at (suc n) d (t ∷ rest) ≡ Some (nil, t ∷ rest)
unfolding code_at
code_ends n d t rest (inl e) = rw e refl
code_ends n d t rest (inr e) = rw e refl

-- a byte by which no instruction is read begins none
goes_on : (code : Reader Code) (b k : ℕ) (bs : List ℕ) (y : Op × List ℕ) → op_by code b bs ≡ Some y → op_by code k bs ≡ None → eqb b k ≡ false
goes_on code b k bs y e none = go (eqb b k) refl
  where
    go : (t : Bool) → eqb b k ≡ t → t ≡ false
    go true is = let same : Some y ≡ None = sym e ∙ ap (λ c. op_by code c bs) (eqb-true b k is) ∙ none in absurd cc
    go false is = refl

-- what begins with an instruction goes on
code_goes : (n d : ℕ) (bytes : List ℕ) (y : Op × List ℕ) → op_at (inner (code_at n) d) bytes ≡ Some y → code_at (suc n) d bytes ≡ code_step (op_at (inner (code_at n) d)) (code_at n d) bytes
unfolding code_at op_at op_by plain_by index_by operand_by access_by simple_by simple_op
code_goes n d [] y e = absurd cc
code_goes n d (b ∷ bs) y e = rw (goes_on (inner (code_at n) d) b 0x0B bs y e refl, goes_on (inner (code_at n) d) b 0x05 bs y e refl) refl

-- an instruction has a byte
has_byte : (i : Op) (a : List ℕ) → SpellsOp i a → 1 ≤ length a
has_byte unreachable a s = omega (arith, ap length s)
has_byte nop a s = omega (arith, ap length s)
has_byte (block ty body) a s = omega (arith, ap length s.2)
has_byte (loop ty body) a s = omega (arith, ap length s.2)
has_byte (if_else ty first second) a (inl s) = omega (arith, ap length s.4)
has_byte (if_else ty first second) a (inr s) = omega (arith, ap length s.1.2)
has_byte (br l) a s = omega (arith, ap length s.2)
has_byte (br_if l) a s = omega (arith, ap length s.2)
has_byte (br_table ls l) a s = omega (arith, ap length s.4)
has_byte return a s = omega (arith, ap length s)
has_byte (call f) a s = omega (arith, ap length s.2)
has_byte (call_indirect t) a s = omega (arith, ap length s.4)
has_byte drop_one a s = omega (arith, ap length s)
has_byte select a s = omega (arith, ap length s)
has_byte (local_get x) a s = omega (arith, ap length s.2)
has_byte (local_set x) a s = omega (arith, ap length s.2)
has_byte (local_tee x) a s = omega (arith, ap length s.2)
has_byte (global_get x) a s = omega (arith, ap length s.2)
has_byte (global_set x) a s = omega (arith, ap length s.2)
has_byte (load op align offset) a s = omega (arith, ap length s.2)
has_byte (store op align offset) a s = omega (arith, ap length s.2)
has_byte memory_size a s = omega (arith, ap length s)
has_byte memory_grow a s = omega (arith, ap length s)
has_byte memory_copy a s = omega (arith, ap length s.2)
has_byte memory_fill a s = omega (arith, ap length s.2)
has_byte (const (values.I32 n)) a s = omega (arith, ap length s.2)
has_byte (const (values.I64 n)) a s = omega (arith, ap length s.2)
has_byte (num op) a s = omega (arith, ap length s)
has_byte (float opcode) a s = omega (arith, ap length s.2)
has_byte mul64 a s = omega (arith, ap length s)

mutual
  unfolding op_at op_by plain_by index_by operand_by access_by simple_by simple_op const32_at const64_at zero_at prefixed_by byte_at

  op_again : (i : Op) (n d : ℕ) (a rest : List ℕ) → SpellsOp i a → op_depth i ≤ d → length a ≤ n → op_at (inner (code_at n) d) (a ++ rest) ≡ Some (i, rest)
  op_again unreachable n d a rest s deep fuel = rw s refl
  op_again nop n d a rest s deep fuel = rw s refl
  op_again (block ty body) n zero a rest s deep fuel = absurd (omega arith)
  op_again (block ty body) n (suc d) a rest s deep fuel =
      let l = ap length s.2 in
      let short : length s.0 < n = omega (arith, length-append s.0 (0x0B ∷ [])) in
      rw s.2 (nested_again block (code_at n d) ty body s.0 rest (code_again body n d s.0 rest 0x0B (inl refl) s.1 (omega arith) short))
  op_again (loop ty body) n zero a rest s deep fuel = absurd (omega arith)
  op_again (loop ty body) n (suc d) a rest s deep fuel =
      let l = ap length s.2 in
      let short : length s.0 < n = omega (arith, length-append s.0 (0x0B ∷ [])) in
      rw s.2 (nested_again loop (code_at n d) ty body s.0 rest (code_again body n d s.0 rest 0x0B (inl refl) s.1 (omega arith) short))
  op_again (if_else ty first second) n zero a rest s deep fuel = absurd (omega arith)
  op_again (if_else ty first second) n (suc d) a rest (inl s) deep fuel =
      let l = ap length s.4 in
      let m = length-append s.0 (0x05 ∷ (s.1 ++ 0x0B ∷ [])) in
      let m2 = length-append s.1 (0x0B ∷ []) in
      let e2 = code_again second n d s.1 rest 0x0B (inl refl) s.3 (omega arith) (omega arith) in
      let e1 = code_again first n d s.0 (s.1 ++ 0x0B ∷ rest) 0x05 (inr refl) s.2 (omega arith) (omega arith) in
      rw s.4 (two_arms_again (code_at n d) ty first second s.0 s.1 rest e1 e2)
  op_again (if_else ty first nil) n (suc d) a rest (inr s) deep fuel =
      let l = ap length s.1.2 in
      let short : length s.1.0 < n = omega (arith, length-append s.1.0 (0x0B ∷ [])) in
      rw s.1.2 (one_arm_again (code_at n d) ty first s.1.0 rest (code_again first n d s.1.0 rest 0x0B (inl refl) s.1.1 (omega arith) short))
  op_again (if_else ty first (cons i is)) n (suc d) a rest (inr s) deep fuel = absurd s.0
  op_again (br l) n d a rest s deep fuel = rw s.2 (index_again br l s.0 rest s.1)
  op_again (br_if l) n d a rest s deep fuel = rw s.2 (index_again br_if l s.0 rest s.1)
  op_again (br_table ls l) n d a rest s deep fuel = rw s.4 (table_again ls l s.0 s.1 rest s.2 s.3)
  op_again return n d a rest s deep fuel = rw s refl
  op_again (call f) n d a rest s deep fuel = rw s.2 (index_again call f s.0 rest s.1)
  op_again (call_indirect t) n d a rest s deep fuel = rw s.4 (indirect_again t s.0 s.1 rest s.2 s.3)
  op_again drop_one n d a rest s deep fuel = rw s refl
  op_again select n d a rest s deep fuel = rw s refl
  op_again (local_get x) n d a rest s deep fuel = rw s.2 (index_again local_get x s.0 rest s.1)
  op_again (local_set x) n d a rest s deep fuel = rw s.2 (index_again local_set x s.0 rest s.1)
  op_again (local_tee x) n d a rest s deep fuel = rw s.2 (index_again local_tee x s.0 rest s.1)
  op_again (global_get x) n d a rest s deep fuel = rw s.2 (index_again global_get x s.0 rest s.1)
  op_again (global_set x) n d a rest s deep fuel = rw s.2 (index_again global_set x s.0 rest s.1)
  op_again (load op align offset) n d a rest s deep fuel = rw s.2 (load_again (inner (code_at n) d) op (s.0 ++ rest) ∙ access_again (load op) align offset s.0 rest s.1)
  op_again (store op align offset) n d a rest s deep fuel = rw s.2 (store_again (inner (code_at n) d) op (s.0 ++ rest) ∙ access_again (store op) align offset s.0 rest s.1)
  op_again memory_size n d a rest s deep fuel = rw s refl
  op_again memory_grow n d a rest s deep fuel = rw s refl
  op_again memory_copy n d a rest s deep fuel = rw s.2 (prefixed_again 10 s.0 (0x00 ∷ 0x00 ∷ []) rest s.1)
  op_again memory_fill n d a rest s deep fuel = rw s.2 (prefixed_again 11 s.0 (0x00 ∷ []) rest s.1)
  op_again (const (values.I32 x)) n d a rest s deep fuel = rw (s.2, (signed_reads 32).again s.0 x rest s.1) refl
  op_again (const (values.I64 x)) n d a rest s deep fuel = rw (s.2, (signed_reads 64).again s.0 x rest s.1) refl
  op_again (num op) n d a rest s deep fuel = rw s (num_again (inner (code_at n) d) op rest)
  op_again (float opcode) n d a rest s deep fuel = rw s.2 (float_again (inner (code_at n) d) opcode s.0 rest s.1)
  op_again mul64 n d a rest s deep fuel = rw s refl

  pub code_again : (c : Code) (n d : ℕ) (a rest : List ℕ) (t : ℕ) → EndsSequence t → SpellsCode c a → code_depth c ≤ d → length a < n → code_at n d (a ++ t ∷ rest) ≡ Some (c, t ∷ rest)
  code_again c zero d a rest t ends s deep fuel = absurd (omega arith)
  code_again nil (suc n) d a rest t ends s deep fuel = rw s (code_ends n d t rest ends)
  code_again (cons i is) (suc n) d a rest t ends s deep fuel =
      let l = ap length s.4 in
      let m = length-append s.0 s.1 in
      let lb = has_byte i s.0 s.2 in
      let e1 = op_again i n d s.0 (s.1 ++ t ∷ rest) s.2 (omega arith) (omega arith) in
      let e2 = code_again is n d s.1 rest t ends s.3 (omega arith) (omega arith) in
      let flat : a ++ t ∷ rest ≡ s.0 ++ (s.1 ++ t ∷ rest) = regrouped a s.0 s.1 (t ∷ rest) s.4 in
      ap (code_at (suc n) d) flat ∙ code_goes n d (s.0 ++ (s.1 ++ t ∷ rest)) (i, s.1 ++ t ∷ rest) e1 ∙ rw (e1, e2) refl
