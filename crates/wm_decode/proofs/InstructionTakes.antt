-- What is read is spelled so.
use Rattle.std.proofs.Common.{◌≡◌, ℕ, zero, suc, ◌≤◌, Bool, true, false, cond, eqb, ltb, List, [], ◌∷◌, ◌++◌, length, take, drop, Option, Some, None, refl, sym, ap, subst, ◌∙◌, arith, inl, inr, option_map}
use Rattle.std.proofs.lemmas.Bool.{eqb-true, ltb-false}
use Rattle.std.proofs.lemmas.List.{append_assoc, take-append-drop, length-take-le}
use Rattle.mc_nbt.specs.declared.value.Value.TheVariants as values
use Rattle.wm_ast.specs.declared.module.ValType.{ValType}
use Rattle.wm_ast.specs.declared.module.ValType.TheVariants.{I32, I64, F32, F64}
use Rattle.wm_ast.specs.declared.operation.LoadOp.{LoadOp}
use Rattle.wm_ast.specs.declared.operation.StoreOp.{StoreOp}
use Rattle.wm_ast.specs.Code.{Op, unreachable, nop, block, loop, if_else, br, br_if, br_table, return, call, call_indirect, drop_one, select, local_get, local_set, local_tee, global_get, global_set, load, store, memory_size, memory_grow, memory_copy, memory_fill, const, num, float, mul64, Code, nil, cons}
use Rattle.wm_ast.specs.Instruction.{type_byte, block_byte, SpellsIndexed, SpellsAccess, SpellsMemoryArgument, SpellsBlock, SpellsFloatOperand, SpellsOp, SpellsCode, op_depth, code_depth}
use Rattle.wm_ast.specs.Number.{IsUnsigned}
use Rattle.wm_ast.specs.Opcode.{FloatOperand, no_operand, memory_argument, constant, float_operand, num_byte, load_byte, store_byte}
use Rattle.wm_ast.specs.Vector.{SpellsIndex}
use Rattle.wm_frame.specs.Reading.{Reader, ◌>>=◌, unsigned_at, signed_at}
use Rattle.wm_frame.proofs.NumberLaws.{unsigned_reads, signed_reads}
use Rattle.wm_frame.proofs.Readers.{IsBytes, IsBytes-rest, IsBytes-after, some_is, if_some, if_none, bind_some}
use Rattle.wm_decode.specs.steps.Instruction.{block_type, block_type_at, index_at, access_at, table_at, indirect_at, const32_at, const64_at, zero_at, prefixed_by, prefixed_at, skip_at, float_or, load_or, store_or, simple_op, simple_by, access_by, operand_by, index_by, plain_by, nested_at, arms_at, choice_at, op_by, op_at, inner, code_step, code_at}
use Rattle.wm_decode.specs.steps.Listing.{list_at, byte_at}
use Rattle.wm_decode.specs.steps.Opcodes.{num_at, load_at, store_at}
use Rattle.wm_decode.specs.steps.ValueType.{val_type}
use Rattle.wm_decode.proofs.Listings.{joined, list_reads, index_reads}
use Rattle.wm_decode.proofs.OpcodeLaws.{num_takes, load_takes, store_takes}

-- by the outcome of a test of a byte
pub test : {A : Type 0} {P : Type 0} (b k : ℕ) (x z : Option A) (y : A) → cond (eqb b k) x z ≡ Some y → (b ≡ k → x ≡ Some y → P) → (z ≡ Some y → P) → P
test {A} {P} b k x z y e yes' no' = go (eqb b k) refl e
  where
    go : (t : Bool) → eqb b k ≡ t → cond t x z ≡ Some y → P
    go true is h = yes' (eqb-true b k is) h
    go false is h = no' h

pub byte_takes : (k : ℕ) (bs rest : List ℕ) → byte_at k bs ≡ Some rest → bs ≡ k ∷ rest
unfolding byte_at
byte_takes k [] rest e = absurd cc
byte_takes k (b ∷ bs) rest e = test b k _ _ rest e (λ is w. ap (λ n. n ∷ bs) is ∙ ap (λ (l : List ℕ). k ∷ l) (some_is bs rest w)) λ h. absurd cc

pub val_type_takes : (b : ℕ) (t : ValType) → val_type b ≡ Some t → b ≡ type_byte t
val_type_takes b t e =
    test b 0x7F _ _ t e (λ k w. k ∙ ap type_byte (some_is I32 t w)) λ e.
    test b 0x7E _ _ t e (λ k w. k ∙ ap type_byte (some_is I64 t w)) λ e.
    test b 0x7D _ _ t e (λ k w. k ∙ ap type_byte (some_is F32 t w)) λ e.
    test b 0x7C _ _ t e (λ k w. k ∙ ap type_byte (some_is F64 t w)) λ e. absurd cc

map_some : {A B : Type 0} (f : A → B) (r : Option A) (y : B) → option_map f r ≡ Some y → (x : A) × (r ≡ Some x) × (f x ≡ y)
map_some f None y e = absurd cc
map_some f (Some x) y e = (x, refl, some_is (f x) y e)

block_type_takes : (bs : List ℕ) (y : Option ValType × List ℕ) → block_type_at bs ≡ Some y → bs ≡ block_byte y.0 ∷ y.1
unfolding block_type_at
block_type_takes [] y e = absurd cc
block_type_takes (b ∷ bs) y e =
    let a = bind_some (block_type b) (λ t. Some (t, bs)) y e in
    subst (λ (z : Option ValType × List ℕ). (b ∷ bs) ≡ block_byte z.0 ∷ z.1) (some_is (a.0, bs) y a.2) (ap (λ k. k ∷ bs) (is a.0 a.1))
  where
    is : (t : Option ValType) → block_type b ≡ Some t → b ≡ block_byte t
    is t h =
        test b 0x40 _ _ t h (λ k w. k ∙ ap block_byte (some_is None t w)) λ h.
        let m = map_some Some (val_type b) t h in
        val_type_takes b m.0 m.1 ∙ ap block_byte m.2

-- an instruction at the front of bytes
record TakesOp (d : ℕ) (bytes : List ℕ) (y : Op × List ℕ) : Type 0 where
  text : List ℕ
  parts : bytes ≡ text ++ y.1
  spells : SpellsOp y.0 text
  depth : op_depth y.0 ≤ d

-- instructions at the front of bytes
pub record TakesCode (d : ℕ) (bytes : List ℕ) (y : Code × List ℕ) : Type 0 where
  pub text : List ℕ
  pub parts : bytes ≡ text ++ y.1
  pub spells : SpellsCode y.0 text
  pub depth : code_depth y.0 ≤ d

-- an instruction that is no block: an opcode and what follows it
plain_op : (d b k : ℕ) (bs front rest : List ℕ) (i : Op) (y : Op × List ℕ) → b ≡ k → bs ≡ front ++ rest → SpellsOp i (k ∷ front) → op_depth i ≡ 0 → Some (i, rest) ≡ Some y → TakesOp d (b ∷ bs) y
plain_op d b k bs front rest i y is parts s flat e =
    subst (λ (w : Op × List ℕ). TakesOp d (b ∷ bs) w) (some_is (i, rest) y e)
    (record { text = k ∷ front; parts = ap (λ n. n ∷ bs) is ∙ ap (λ (l : List ℕ). k ∷ l) parts; spells = s; depth = omega arith })

-- an opcode and an index
index_takes : (d b k : ℕ) (bs : List ℕ) (make : ℕ → Op) (y : Op × List ℕ) → IsBytes bs → b ≡ k → ((n : ℕ) (t : List ℕ) → SpellsIndexed k n t → SpellsOp (make n) t) → ((n : ℕ) → op_depth (make n) ≡ 0)
    → index_at make bs ≡ Some y → TakesOp d (b ∷ bs) y
unfolding index_at
index_takes d b k bs make y fits is spells flat e =
    let a = bind_some (unsigned_at 32 bs) (λ n. Some (make n.0, n.1)) y e in
    let s = (unsigned_reads 32).takes bs a.0 fits a.1 in
    plain_op d b k bs s.front a.0.1 (make a.0.0) y is s.parts (spells a.0.0 (k ∷ s.front) (s.front, s.spells, refl)) (flat a.0.0) a.2

-- an alignment and an offset at the front of bytes
record TakesAccess (make : ℕ → ℕ → Op) (bytes : List ℕ) (y : Op × List ℕ) : Type 0 where
  align : ℕ
  offset : ℕ
  rest : List ℕ
  front : List ℕ
  parts : bytes ≡ front ++ rest
  spells : SpellsMemoryArgument align offset front
  made : Some (make align offset, rest) ≡ Some y

argument_takes : (make : ℕ → ℕ → Op) (bs : List ℕ) (y : Op × List ℕ) → IsBytes bs → access_at make bs ≡ Some y → TakesAccess make bs y
unfolding access_at
argument_takes make bs y fits e =
    let a = bind_some (unsigned_at 32 bs) (λ align. unsigned_at 32 align.1 >>= λ offset. Some (make align.0 offset.0, offset.1)) y e in
    let s = (unsigned_reads 32).takes bs a.0 fits a.1 in
    let c = bind_some (unsigned_at 32 a.0.1) (λ offset. Some (make a.0.0 offset.0, offset.1)) y a.2 in
    let t = (unsigned_reads 32).takes a.0.1 c.0 (IsBytes-after bs s.front a.0.1 s.parts fits) c.1 in
    record {
      align = a.0.0;
      offset = c.0.0;
      rest = c.0.1;
      front = s.front ++ t.front;
      parts = joined bs s.front t.front a.0.1 c.0.1 s.parts t.parts;
      spells = (s.front, t.front, s.spells, t.spells, refl);
      made = c.2;
    }

-- an opcode, an alignment and an offset
access_takes : (d b k : ℕ) (bs : List ℕ) (make : ℕ → ℕ → Op) (y : Op × List ℕ) → IsBytes bs → b ≡ k → ((align offset : ℕ) (t : List ℕ) → SpellsAccess k align offset t → SpellsOp (make align offset) t) → ((align offset : ℕ) → op_depth (make align offset) ≡ 0)
    → access_at make bs ≡ Some y → TakesOp d (b ∷ bs) y
access_takes d b k bs make y fits is spells flat e =
    let a = argument_takes make bs y fits e in
    plain_op d b k bs a.front a.rest (make a.align a.offset) y is a.parts (spells a.align a.offset (k ∷ a.front) (a.front, a.spells, refl)) (flat a.align a.offset) a.made

table_takes : (d b : ℕ) (bs : List ℕ) (y : Op × List ℕ) → IsBytes bs → b ≡ 0x0E → table_at bs ≡ Some y → TakesOp d (b ∷ bs) y
unfolding table_at
table_takes d b bs y fits is e =
    let labels = list_reads SpellsIndex (unsigned_at 32) index_reads in
    let a = bind_some (list_at (unsigned_at 32) bs) (λ labels. unsigned_at 32 labels.1 >>= λ last. Some (br_table labels.0 last.0, last.1)) y e in
    let s = labels.takes bs a.0 fits a.1 in
    let c = bind_some (unsigned_at 32 a.0.1) (λ last. Some (br_table a.0.0 last.0, last.1)) y a.2 in
    let t = (unsigned_reads 32).takes a.0.1 c.0 (IsBytes-after bs s.front a.0.1 s.parts fits) c.1 in
    plain_op d b 0x0E bs (s.front ++ t.front) c.0.1 (br_table a.0.0 c.0.0) y is (joined bs s.front t.front a.0.1 c.0.1 s.parts t.parts) (s.front, t.front, s.spells, t.spells, refl) refl c.2

indirect_takes : (d b : ℕ) (bs : List ℕ) (y : Op × List ℕ) → IsBytes bs → b ≡ 0x11 → indirect_at bs ≡ Some y → TakesOp d (b ∷ bs) y
unfolding indirect_at
indirect_takes d b bs y fits is e =
    let a = bind_some (unsigned_at 32 bs) (λ n. unsigned_at 32 n.1 >>= λ table. cond (eqb table.0 0) (Some (call_indirect n.0, table.1)) None) y e in
    let s = (unsigned_reads 32).takes bs a.0 fits a.1 in
    let c = bind_some (unsigned_at 32 a.0.1) (λ table. cond (eqb table.0 0) (Some (call_indirect a.0.0, table.1)) None) y a.2 in
    let t = (unsigned_reads 32).takes a.0.1 c.0 (IsBytes-after bs s.front a.0.1 s.parts fits) c.1 in
    let zero' = if_some (eqb c.0.0 0) (call_indirect a.0.0, c.0.1) y c.2 in
    let none : IsUnsigned 32 t.front 0 = subst (λ n. IsUnsigned 32 t.front n) (eqb-true c.0.0 0 zero'.0) t.spells in
    plain_op d b 0x11 bs (s.front ++ t.front) c.0.1 (call_indirect a.0.0) y is (joined bs s.front t.front a.0.1 c.0.1 s.parts t.parts) (s.front, t.front, s.spells, none, refl) refl (ap Some zero'.1)

const32_takes : (d b : ℕ) (bs : List ℕ) (y : Op × List ℕ) → IsBytes bs → b ≡ 0x41 → const32_at bs ≡ Some y → TakesOp d (b ∷ bs) y
unfolding const32_at
const32_takes d b bs y fits is e =
    let a = bind_some (signed_at 32 bs) (λ n. Some (const (values.I32 n.0), n.1)) y e in
    let s = (signed_reads 32).takes bs a.0 fits a.1 in
    plain_op d b 0x41 bs s.front a.0.1 (const (values.I32 a.0.0)) y is s.parts (s.front, s.spells, refl) refl a.2

const64_takes : (d b : ℕ) (bs : List ℕ) (y : Op × List ℕ) → IsBytes bs → b ≡ 0x42 → const64_at bs ≡ Some y → TakesOp d (b ∷ bs) y
unfolding const64_at
const64_takes d b bs y fits is e =
    let a = bind_some (signed_at 64 bs) (λ n. Some (const (values.I64 n.0), n.1)) y e in
    let s = (signed_reads 64).takes bs a.0 fits a.1 in
    plain_op d b 0x42 bs s.front a.0.1 (const (values.I64 a.0.0)) y is s.parts (s.front, s.spells, refl) refl a.2

-- a byte 00
zero_takes : (op : Op) (bs : List ℕ) (y : Op × List ℕ) → zero_at op bs ≡ Some y → (rest : List ℕ) × (bs ≡ 0x00 ∷ rest) × (Some (op, rest) ≡ Some y)
unfolding zero_at
zero_takes op bs y e =
    let a = bind_some (byte_at 0x00 bs) (λ rest. Some (op, rest)) y e in
    (a.0, byte_takes 0x00 bs a.0 a.1, a.2)

prefixed_takes : (d b : ℕ) (bs : List ℕ) (y : Op × List ℕ) → IsBytes bs → b ≡ 0xFC → prefixed_at bs ≡ Some y → TakesOp d (b ∷ bs) y
unfolding prefixed_at prefixed_by
prefixed_takes d b bs y fits is e =
    let a = bind_some (unsigned_at 32 bs) (λ n. prefixed_by n.0 n.1) y e in
    let s = (unsigned_reads 32).takes bs a.0 fits a.1 in
    test a.0.0 10 _ _ y a.2 (λ k w.
    let c = bind_some (byte_at 0x00 a.0.1) (λ rest. zero_at memory_copy rest) y w in
    let z = zero_takes memory_copy c.0 y c.2 in
    let zeros : a.0.1 ≡ (0x00 ∷ 0x00 ∷ []) ++ z.0 = byte_takes 0x00 a.0.1 c.0 c.1 ∙ ap (λ (l : List ℕ). 0x00 ∷ l) z.1 in
    plain_op d b 0xFC bs (s.front ++ 0x00 ∷ 0x00 ∷ []) z.0 memory_copy y is (joined bs s.front (0x00 ∷ 0x00 ∷ []) a.0.1 z.0 s.parts zeros) (s.front, subst (λ n. IsUnsigned 32 s.front n) k s.spells, refl) refl z.2) λ e.
    test a.0.0 11 _ _ y e (λ k w.
    let z = zero_takes memory_fill a.0.1 y w in
    plain_op d b 0xFC bs (s.front ++ 0x00 ∷ []) z.0 memory_fill y is (joined bs s.front (0x00 ∷ []) a.0.1 z.0 s.parts z.1) (s.front, subst (λ n. IsUnsigned 32 s.front n) k s.spells, refl) refl z.2) λ e. absurd cc

-- an instruction without operands
one_byte : (d b k : ℕ) (bs : List ℕ) (i : Op) (y : Op × List ℕ) → b ≡ k → SpellsOp i (k ∷ []) → op_depth i ≡ 0 → Some (i, bs) ≡ Some y → TakesOp d (b ∷ bs) y
one_byte d b k bs i y is s flat e = plain_op d b k bs [] bs i y is refl s flat e

simple_takes : (d b : ℕ) (bs : List ℕ) (y : Op × List ℕ) → simple_by b bs ≡ Some y → TakesOp d (b ∷ bs) y
unfolding simple_by simple_op
simple_takes d b bs y e =
    let a = bind_some (simple_op b) (λ op. Some (op, bs)) y e in
    let made : (i : Op) → Some i ≡ Some a.0 → Some (i, bs) ≡ Some y = λ i w. ap (λ i. Some (i, bs)) (some_is i a.0 w) ∙ a.2 in
    test b 0x00 _ _ a.0 a.1 (λ k w. one_byte d b 0x00 bs unreachable y k refl refl (made unreachable w)) λ e.
    test b 0x01 _ _ a.0 e (λ k w. one_byte d b 0x01 bs nop y k refl refl (made nop w)) λ e.
    test b 0x0F _ _ a.0 e (λ k w. one_byte d b 0x0F bs return y k refl refl (made return w)) λ e.
    test b 0x1A _ _ a.0 e (λ k w. one_byte d b 0x1A bs drop_one y k refl refl (made drop_one w)) λ e.
    test b 0x1B _ _ a.0 e (λ k w. one_byte d b 0x1B bs select y k refl refl (made select w)) λ e.
    test b 0x7E _ _ a.0 e (λ k w. one_byte d b 0x7E bs mul64 y k refl refl (made mul64 w)) λ e.
    let m = map_some num (num_at b) a.0 e in
    one_byte d b (num_byte m.0) bs (num m.0) y (num_takes b m.0 m.1) refl refl (made (num m.0) (ap Some m.2))

access_by_takes : (d b : ℕ) (bs : List ℕ) (y : Op × List ℕ) → IsBytes bs → access_by b bs ≡ Some y → TakesOp d (b ∷ bs) y
unfolding access_by
access_by_takes d b bs y fits e = loads (load_at b) refl e
  where
    stores : (o : Option StoreOp) → store_at b ≡ o → store_or o (simple_by b) bs ≡ Some y → TakesOp d (b ∷ bs) y
    stores None is e = simple_takes d b bs y e
    stores (Some op) is e = access_takes d b (store_byte op) bs (store op) y fits (store_takes b op is) (λ align offset t s. s) (λ align offset. refl) e

    loads : (o : Option LoadOp) → load_at b ≡ o → load_or o (store_or (store_at b) (simple_by b)) bs ≡ Some y → TakesOp d (b ∷ bs) y
    loads None is e = stores (store_at b) refl e
    loads (Some op) is e = access_takes d b (load_byte op) bs (load op) y fits (load_takes b op is) (λ align offset t s. s) (λ align offset. refl) e

operand_takes : (d b : ℕ) (bs : List ℕ) (y : Op × List ℕ) → IsBytes bs → operand_by b bs ≡ Some y → TakesOp d (b ∷ bs) y
unfolding operand_by
operand_takes d b bs y fits e =
    test b 0x0E _ _ y e (λ k w. table_takes d b bs y fits k w) λ e.
    test b 0x11 _ _ y e (λ k w. indirect_takes d b bs y fits k w) λ e.
    test b 0x3F _ _ y e (λ k w. let z = zero_takes memory_size bs y w in plain_op d b 0x3F bs (0x00 ∷ []) z.0 memory_size y k z.1 refl refl z.2) λ e.
    test b 0x40 _ _ y e (λ k w. let z = zero_takes memory_grow bs y w in plain_op d b 0x40 bs (0x00 ∷ []) z.0 memory_grow y k z.1 refl refl z.2) λ e.
    test b 0x41 _ _ y e (λ k w. const32_takes d b bs y fits k w) λ e.
    test b 0x42 _ _ y e (λ k w. const64_takes d b bs y fits k w) λ e.
    test b 0xFC _ _ y e (λ k w. prefixed_takes d b bs y fits k w) λ e. access_by_takes d b bs y fits e

index_by_takes : (d b : ℕ) (bs : List ℕ) (y : Op × List ℕ) → IsBytes bs → index_by b bs ≡ Some y → TakesOp d (b ∷ bs) y
unfolding index_by
index_by_takes d b bs y fits e =
    test b 0x0C _ _ y e (λ k w. index_takes d b 0x0C bs br y fits k (λ n t s. s) (λ n. refl) w) λ e.
    test b 0x0D _ _ y e (λ k w. index_takes d b 0x0D bs br_if y fits k (λ n t s. s) (λ n. refl) w) λ e.
    test b 0x10 _ _ y e (λ k w. index_takes d b 0x10 bs call y fits k (λ n t s. s) (λ n. refl) w) λ e.
    test b 0x20 _ _ y e (λ k w. index_takes d b 0x20 bs local_get y fits k (λ n t s. s) (λ n. refl) w) λ e.
    test b 0x21 _ _ y e (λ k w. index_takes d b 0x21 bs local_set y fits k (λ n t s. s) (λ n. refl) w) λ e.
    test b 0x22 _ _ y e (λ k w. index_takes d b 0x22 bs local_tee y fits k (λ n t s. s) (λ n. refl) w) λ e.
    test b 0x23 _ _ y e (λ k w. index_takes d b 0x23 bs global_get y fits k (λ n t s. s) (λ n. refl) w) λ e.
    test b 0x24 _ _ y e (λ k w. index_takes d b 0x24 bs global_set y fits k (λ n t s. s) (λ n. refl) w) λ e. operand_takes d b bs y fits e

skip_takes : (n : ℕ) (bs rest : List ℕ) → skip_at n bs ≡ Some rest → (length (take n bs) ≡ n) × (bs ≡ take n bs ++ rest)
unfolding skip_at
skip_takes n bs rest e =
    let g = if_none (ltb (length bs) n) (drop n bs) rest e in
    (length-take-le n bs (ltb-false (length bs) n g.0), sym (take-append-drop n bs) ∙ ap (λ (l : List ℕ). take n bs ++ l) g.1)

plain_takes : (d b : ℕ) (bs : List ℕ) (y : Op × List ℕ) → IsBytes bs → plain_by b bs ≡ Some y → TakesOp d (b ∷ bs) y
unfolding plain_by
plain_takes d b bs y fits e = go (float_operand b) refl e
  where
    -- an instruction on floats with this operand
    spelled : (o : FloatOperand) (operand : List ℕ) → float_operand b ≡ Some o → SpellsFloatOperand (Some o) operand → SpellsOp (float b) (b ∷ operand)
    spelled o operand is s = (operand, subst (λ (x : Option FloatOperand). SpellsFloatOperand x operand) (sym is) s, refl)

    go : (o : Option FloatOperand) → float_operand b ≡ o → float_or b o (index_by b) bs ≡ Some y → TakesOp d (b ∷ bs) y
    go None is e = index_by_takes d b bs y fits e
    go (Some no_operand) is e = plain_op d b b bs [] bs (float b) y refl refl (spelled no_operand [] is refl) refl e
    go (Some memory_argument) is e =
        let a = argument_takes (λ align offset. float b) bs y fits e in
        plain_op d b b bs a.front a.rest (float b) y refl a.parts (spelled memory_argument a.front is (a.align, a.offset, a.spells)) refl a.made
    go (Some (constant width)) is e =
        let a = bind_some (skip_at width bs) (λ rest. Some (float b, rest)) y e in
        let s = skip_takes width bs a.0 a.1 in
        plain_op d b b bs (take width bs) a.0 (float b) y refl s.1 (spelled (constant width) (take width bs) is s.0) refl a.2

-- a reader of what stands inside a block
abbrev IsSound : ℕ → Reader Code → Type 0
IsSound d read = (bytes : List ℕ) (y : Code × List ℕ) → IsBytes bytes → read bytes ≡ Some y → (e : ℕ) × (suc e ≤ d) × TakesCode e bytes y

nested_takes : (d : ℕ) (read : Reader Code) (b k : ℕ) (bs : List ℕ) (make : Option ValType → Code → Op) (y : Op × List ℕ) → IsSound d read → IsBytes bs → b ≡ k
    → ((ty : Option ValType) (c : Code) (t : List ℕ) → SpellsBlock k ty (SpellsCode c) t → SpellsOp (make ty c) t) → ((ty : Option ValType) (c : Code) → op_depth (make ty c) ≡ suc (code_depth c))
    → nested_at make read bs ≡ Some y → TakesOp d (b ∷ bs) y
unfolding nested_at
nested_takes d read b k bs make y sound fits is spells deep e =
    let a = bind_some (block_type_at bs) (λ t. read t.1 >>= λ body. byte_at 0x0B body.1 >>= λ rest. Some (make t.0 body.0, rest)) y e in
    let t = block_type_takes bs a.0 a.1 in
    let c = bind_some (read a.0.1) (λ body. byte_at 0x0B body.1 >>= λ rest. Some (make a.0.0 body.0, rest)) y a.2 in
    let s = sound a.0.1 c.0 (IsBytes-rest (block_byte a.0.0) a.0.1 (subst IsBytes t fits)) c.1 in
    let m = s.2 in
    let r = bind_some (byte_at 0x0B c.0.1) (λ rest. Some (make a.0.0 c.0.0, rest)) y c.2 in
    let f = byte_takes 0x0B c.0.1 r.0 r.1 in
    let dd = deep a.0.0 c.0.0 in
    let whole : b ∷ bs ≡ k ∷ (block_byte a.0.0 ∷ ((m.text ++ 0x0B ∷ []) ++ r.0)) =
    ap (λ n. n ∷ bs) is ∙ ap (λ (l : List ℕ). k ∷ l) (t ∙ ap (λ (l : List ℕ). block_byte a.0.0 ∷ l) (m.parts ∙ ap (λ (l : List ℕ). m.text ++ l) f ∙ sym (append_assoc m.text (0x0B ∷ []) r.0))) in
    subst (λ (w : Op × List ℕ). TakesOp d (b ∷ bs) w) (some_is (make a.0.0 c.0.0, r.0) y r.2)
    (record { text = k ∷ (block_byte a.0.0 ∷ (m.text ++ 0x0B ∷ [])); parts = whole; spells = spells a.0.0 c.0.0 _ (m.text, m.spells, refl); depth = omega (arith, s.1, m.depth) })

choice_takes : (d : ℕ) (read : Reader Code) (b : ℕ) (bs : List ℕ) (y : Op × List ℕ) → IsSound d read → IsBytes bs → b ≡ 0x04 → choice_at read bs ≡ Some y → TakesOp d (b ∷ bs) y
unfolding choice_at arms_at
choice_takes d read b bs y sound fits is e =
    let a = bind_some (block_type_at bs) (λ t. read t.1 >>= λ first. arms_at t.0 read first.0 first.1) y e in
    let t = block_type_takes bs a.0 a.1 in
    let fits1 = IsBytes-rest (block_byte a.0.0) a.0.1 (subst IsBytes t fits) in
    let c = bind_some (read a.0.1) (λ first. arms_at a.0.0 read first.0 first.1) y a.2 in
    let s = sound a.0.1 c.0 fits1 c.1 in
    let head : b ∷ bs ≡ 0x04 ∷ (block_byte a.0.0 ∷ (s.2.text ++ c.0.1)) = ap (λ n. n ∷ bs) is ∙ ap (λ (l : List ℕ). 0x04 ∷ l) (t ∙ ap (λ (l : List ℕ). block_byte a.0.0 ∷ l) s.2.parts) in
    subst (λ (w : List ℕ). TakesOp d w y) (sym head) (arms a.0.0 c.0.0 c.0.1 s.0 s.2.text s.1 s.2.depth s.2.spells (IsBytes-after a.0.1 s.2.text c.0.1 s.2.parts fits1) c.2)
  where
    arms : (ty : Option ValType) (first : Code) (l : List ℕ) (e1 : ℕ) (text : List ℕ) → suc e1 ≤ d → code_depth first ≤ e1 → SpellsCode first text → IsBytes l → arms_at ty read first l ≡ Some y → TakesOp d (0x04 ∷ (block_byte ty ∷ (text ++ l))) y
    arms ty first [] e1 text le deep spells bytes h = absurd cc
    arms ty first (u ∷ l) e1 text le deep spells bytes h =
        test u 0x05 _ _ y h (λ k w.
        let c2 = bind_some (read l) (λ second. byte_at 0x0B second.1 >>= λ rest. Some (if_else ty first second.0, rest)) y w in
        let s2 = sound l c2.0 (IsBytes-rest u l bytes) c2.1 in
        let r = bind_some (byte_at 0x0B c2.0.1) (λ rest. Some (if_else ty first c2.0.0, rest)) y c2.2 in
        let f = byte_takes 0x0B c2.0.1 r.0 r.1 in
        let flat : (text ++ 0x05 ∷ (s2.2.text ++ 0x0B ∷ [])) ++ r.0 ≡ text ++ 0x05 ∷ (s2.2.text ++ 0x0B ∷ r.0) = simp append_assoc in
        let tail : u ∷ l ≡ 0x05 ∷ (s2.2.text ++ 0x0B ∷ r.0) = ap (λ n. n ∷ l) k ∙ ap (λ (x : List ℕ). 0x05 ∷ x) (s2.2.parts ∙ ap (λ (x : List ℕ). s2.2.text ++ x) f) in
        let whole : 0x04 ∷ (block_byte ty ∷ (text ++ u ∷ l)) ≡ (0x04 ∷ (block_byte ty ∷ (text ++ 0x05 ∷ (s2.2.text ++ 0x0B ∷ [])))) ++ r.0 = ap (λ (x : List ℕ). 0x04 ∷ (block_byte ty ∷ x)) (ap (λ (x : List ℕ). text ++ x) tail ∙ sym flat) in
        subst (λ (w : Op × List ℕ). TakesOp d (0x04 ∷ (block_byte ty ∷ (text ++ u ∷ l))) w) (some_is (if_else ty first c2.0.0, r.0) y r.2)
        (record { text = 0x04 ∷ (block_byte ty ∷ (text ++ 0x05 ∷ (s2.2.text ++ 0x0B ∷ []))); parts = whole; spells = inl (text, s2.2.text, spells, s2.2.spells, refl); depth = omega (arith, s2.1, s2.2.depth) })) λ h2.
        test u 0x0B _ _ y h2 (λ k w.
        let flat : (text ++ 0x0B ∷ []) ++ l ≡ text ++ 0x0B ∷ l = append_assoc text (0x0B ∷ []) l in
        let whole : 0x04 ∷ (block_byte ty ∷ (text ++ u ∷ l)) ≡ (0x04 ∷ (block_byte ty ∷ (text ++ 0x0B ∷ []))) ++ l = ap (λ (x : List ℕ). 0x04 ∷ (block_byte ty ∷ x)) (ap (λ n. text ++ n ∷ l) k ∙ sym flat) in
        subst (λ (w : Op × List ℕ). TakesOp d (0x04 ∷ (block_byte ty ∷ (text ++ u ∷ l))) w) (some_is (if_else ty first nil, l) y w)
        (record { text = 0x04 ∷ (block_byte ty ∷ (text ++ 0x0B ∷ [])); parts = whole; spells = inr (tt, (text, spells, refl)); depth = omega arith })) λ h3. absurd cc

op_takes : (d : ℕ) (read : Reader Code) (bytes : List ℕ) (y : Op × List ℕ) → IsSound d read → IsBytes bytes → op_at read bytes ≡ Some y → TakesOp d bytes y
unfolding op_at op_by
op_takes d read [] y sound fits e = absurd cc
op_takes d read (b ∷ bs) y sound fits e =
    let after = IsBytes-rest b bs fits in
    test b 0x02 _ _ y e (λ k w. nested_takes d read b 0x02 bs block y sound after k (λ ty c t s. s) (λ ty c. refl) w) λ e.
    test b 0x03 _ _ y e (λ k w. nested_takes d read b 0x03 bs loop y sound after k (λ ty c t s. s) (λ ty c. refl) w) λ e.
    test b 0x04 _ _ y e (λ k w. choice_takes d read b bs y sound after k w) λ e. plain_takes d b bs y after e

nothing : (d : ℕ) (bytes : List ℕ) (y : Code × List ℕ) → Some (nil, bytes) ≡ Some y → TakesCode d bytes y
nothing d bytes y e = subst (λ (w : Code × List ℕ). TakesCode d bytes w) (some_is (nil, bytes) y e) (record { text = []; parts = refl; spells = refl; depth = omega arith })

step_takes : (d : ℕ) (op : Reader Op) (code : Reader Code) (bytes : List ℕ) (y : Code × List ℕ)
    → ((l : List ℕ) (z : Op × List ℕ) → IsBytes l → op l ≡ Some z → TakesOp d l z) → ((l : List ℕ) (z : Code × List ℕ) → IsBytes l → code l ≡ Some z → TakesCode d l z)
    → IsBytes bytes → code_step op code bytes ≡ Some y → TakesCode d bytes y
step_takes d op code bytes y first others fits e =
    let a = bind_some (op bytes) (λ i. code i.1 >>= λ is. Some (cons i.0 is.0, is.1)) y e in
    let s = first bytes a.0 fits a.1 in
    let c = bind_some (code a.0.1) (λ is. Some (cons a.0.0 is.0, is.1)) y a.2 in
    let m = others a.0.1 c.0 (IsBytes-after bytes s.text a.0.1 s.parts fits) c.1 in
    subst (λ (w : Code × List ℕ). TakesCode d bytes w) (some_is (cons a.0.0 c.0.0, c.0.1) y c.2)
    (record { text = s.text ++ m.text; parts = joined bytes s.text m.text a.0.1 c.0.1 s.parts m.parts; spells = (s.text, m.text, s.spells, m.spells, refl); depth = omega (arith, s.depth, m.depth) })

inner_sound : (read : ℕ → Reader Code) (d : ℕ) → ((d : ℕ) (l : List ℕ) (z : Code × List ℕ) → IsBytes l → read d l ≡ Some z → TakesCode d l z) → IsSound d (inner read d)
inner_sound read zero h bytes y fits e = absurd cc
inner_sound read (suc d) h bytes y fits e = (d, omega arith, h d bytes y fits e)

pub code_takes : (n d : ℕ) (bytes : List ℕ) (y : Code × List ℕ) → IsBytes bytes → code_at n d bytes ≡ Some y → TakesCode d bytes y
unfolding code_at
code_takes zero d bytes y fits e = absurd cc
code_takes (suc n) d [] y fits e = absurd cc
code_takes (suc n) d (b ∷ bs) y fits e =
    test b 0x0B _ _ y e (λ k w. nothing d (b ∷ bs) y w) λ e.
    test b 0x05 _ _ y e (λ k w. nothing d (b ∷ bs) y w) λ e.
    step_takes d (op_at (inner (code_at n) d)) (code_at n d) (b ∷ bs) y
    (λ l z f h. op_takes d (inner (code_at n) d) l z (inner_sound (code_at n) d (λ d' l' z' f' h'. code_takes n d' l' z' f' h')) f h) (λ l z f h. code_takes n d l z f h) fits e
