-- An instruction without a body that goes to no other place: over operands of the types that it takes it does
-- something, and gives operands of the types that it gives.
use Rattle.std.proofs.Common.{◌≡◌, ℕ, zero, suc, ◌+◌, ◌*◌, ◌%◌, List, [], ◌∷◌, ◌++◌, length, take, drop, replicate, reverse, map, Bool, true, false, cond, ltb, leb, Option, Some, None, option_map, refl, sym, ap, subst, ◌∙◌, ℤ, negsuc}
use Rattle.std.specs.Prelude.{slice_get, slice_set, slice_index}
use Rattle.std.specs.Int.{w32, cast_unsigned}
use Rattle.std.proofs.lemmas.Bool.{ltb-false}
use Rattle.mc_nbt.specs.declared.value.Kind.{Kind}
use Rattle.mc_nbt.specs.declared.value.Kind.TheVariants as kinds
use Rattle.mc_nbt.specs.declared.value.Value.{Value}
use Rattle.mc_nbt.specs.declared.value.Value.TheVariants as values
use Rattle.mc_nbt.specs.Value.{kind_of}
use Rattle.wm_ast.specs.declared.answer.Answer.{Answer}
use Rattle.wm_ast.specs.declared.answer.Answer.TheVariants as answers
use Rattle.wm_ast.specs.declared.answer.TrapKind.TheVariants.{OutOfBounds}
use Rattle.wm_ast.specs.declared.module.ValType.{ValType}
use Rattle.wm_ast.specs.declared.module.ValType.TheVariants.{I32, I64}
use Rattle.wm_ast.specs.declared.module.FuncType.{FuncType}
use Rattle.wm_ast.specs.declared.module.Func.{Func}
use Rattle.wm_ast.specs.declared.module.Global.{Global}
use Rattle.wm_ast.specs.declared.module.Module.{Module}
use Rattle.wm_ast.specs.declared.operation.StoreOp.{StoreOp}
use Rattle.wm_ast.specs.declared.operator.Operator.{Operator}
use Rattle.wm_ast.specs.declared.operator.Operator.TheVariants.{Test, Unary, Binary, Comparison, Wrap, ExtendS, ExtendU}
use Rattle.wm_ast.specs.Apply.{unary_op, binary_op, compare_op, gives, truth, outcome, with_one, with_two, operate}
use Rattle.wm_ast.specs.Code.{Op, unreachable, nop, block, loop, if_else, br, br_if, br_table, return, call, call_indirect, drop_one, select, local_get, local_set, local_tee, global_get, global_set, load, store, memory_size, memory_grow, memory_copy, memory_fill, const, num, float, mul64}
use Rattle.wm_ast.specs.Integer.{Outcome, number, divides_by_zero, overflows, ieqz}
use Rattle.wm_ast.specs.Operand.{width_of, integer_of, operand}
use Rattle.wm_ast.specs.Operation.{operator_type, kind_type, num_type, load_kind, load_type, load_width, store_kind, store_type, store_width}
use Rattle.wm_ast.specs.Operator.{operator_of}
use Rattle.wm_ast.specs.Simple.{Executed, done, repeats, fault, unfit, if_nonzero, unsigned, address, answered, operated, got, set_local, set_global, with_memory, reads, writes, grows, fills, with_copy, copies, inside, simple}
use Rattle.wm_ast.specs.Storage.{bytes_of, loaded, stored}
use Rattle.wm_ast.specs.Store.{Store, items_at, overwritten, page_size, page_count, most_pages}
use Rattle.wm_ast.specs.Types.{const_type, run_types}
use Rattle.wm_ast.proofs.ApplyLaws.{one_applies, two_apply}
use Rattle.wm_valid.specs.Typing.{GlobalType, Context, Rule, global_type, body_context}
use Rattle.wm_flat.specs.FlatTyping.{Are, held_type, with_labels, TypedMemory, TypedStore}
use Rattle.wm_flat.proofs.MemoryLaws.{rest_is_byte, bytes_are, read_byte, memory_written, memory_set, memory_grown}
use Rattle.wm_flat.proofs.ValueLaws.{Is, are_more, are_as, first_of_all, first_i32, at_position, set_position, one_of, value_is}

-- what an instruction comes to that takes operands of the types a, gives those of the types b, and keeps the types of
-- the locals
abbrev pub IsExecuted : Module → List ValType → List ValType → List ValType → Executed → Type 0
IsExecuted m ls a b (done s own vs) = TypedStore m s × Are ls own × Are b vs
IsExecuted m ls a b (repeats s vs) = TypedStore m s × Are a vs
IsExecuted m ls a b (fault k) = Unit {0}
IsExecuted m ls a b unfit = ⊥

-- by a condition, with the case that holds
by_test : (m : Module) (ls a b : List ValType) (test : Bool) (x y : Executed) → (test ≡ true → IsExecuted m ls a b x) → (test ≡ false → IsExecuted m ls a b y) → IsExecuted m ls a b (cond test x y)
by_test m ls a b true x y p q = p refl
by_test m ls a b false x y p q = q refl

-- Kinds.

kind_is : (k : Kind) (v : Value) → const_type v ≡ kind_type k → kind_of v ≡ k
kind_is kinds.I32 (values.I32 z) e = refl
kind_is kinds.I32 (values.I64 z) e = absurd cc
kind_is kinds.I64 (values.I32 z) e = absurd cc
kind_is kinds.I64 (values.I64 z) e = refl

operand_is : (k : Kind) (v : Value) → const_type v ≡ kind_type k → operand k v ≡ Some (integer_of v)
operand_is kinds.I32 (values.I32 z) e = refl
operand_is kinds.I32 (values.I64 z) e = absurd cc
operand_is kinds.I64 (values.I32 z) e = absurd cc
operand_is kinds.I64 (values.I64 z) e = refl

-- an answer of this type, or a trap
abbrev IsAnswer : ValType → Answer → Type 0
IsAnswer t (answers.Value v) = Is t v
IsAnswer t (answers.Trap k) = Unit {0}

truth_is : (b : Bool) → IsAnswer I32 (truth b)
truth_is b = value_is kinds.I32 (cond b 1 0)

outcome_is : (k : Kind) (o : Outcome) → IsAnswer (kind_type k) (outcome k o)
outcome_is k (number i) = value_is k i
outcome_is k divides_by_zero = tt
outcome_is k overflows = tt

held : (gs : List Global) (x : ℕ) (g : GlobalType) → slice_get (map global_type gs) x ≡ Some g → slice_get (map held_type gs) x ≡ Some g.holds
held [] x g e = absurd cc
held (y ∷ gs) zero g e = let w : global_type y ≡ g = cc in ap (λ (z : GlobalType). Some z.holds) w
held (y ∷ gs) (suc x) g e = held gs x g e

-- a module, its store, the types of the locals, and the locals
module _ (m : Module) (s : Store) (ls : List ValType) (own : List Value) (typed : TypedStore m s) (o : Are ls own) where
  -- Numbers.

  answer_typed : (t : ValType) (a : List ValType) (below : List ValType) (vs : List Value) (r : Answer) → IsAnswer t r → Are below vs → IsExecuted m ls a (t ∷ below) (answered m s own vs (Some r))
  answer_typed t a below vs (answers.Value v) i k = (typed, o, are_more t below v vs i k)
  answer_typed t a below vs (answers.Trap c) i k = tt

  one_typed : (k : Kind) (t : ValType) (f : ℕ → Answer) (a below : List ValType) (vs : List Value) → ((i : ℕ) → IsAnswer t (f i)) → Are (kind_type k ∷ below) vs
      → IsExecuted m ls a (t ∷ below) (answered m s own (drop 1 vs) (with_one k f (reverse (take 1 vs))))
  one_typed k t f a below vs h are =
      let v = first_of_all (kind_type k) below vs are in
      subst (λ (l : List Value). IsExecuted m ls a (t ∷ below) (answered m s own (drop 1 l) (with_one k f (reverse (take 1 l))))) (sym v.parts)
      (subst (λ (r : Option Answer). IsExecuted m ls a (t ∷ below) (answered m s own v.others r)) (sym (one_applies k f v.value (kind_is k v.value v.is.type)))
      (answer_typed t a below v.others (f (integer_of v.value)) (h (integer_of v.value)) v.rest))

  two_typed : (k : Kind) (t : ValType) (f : ℕ → ℕ → Answer) (a below : List ValType) (vs : List Value) → ((i j : ℕ) → IsAnswer t (f i j)) → Are (kind_type k ∷ kind_type k ∷ below) vs
      → IsExecuted m ls a (t ∷ below) (answered m s own (drop 2 vs) (with_two k f (reverse (take 2 vs))))
  two_typed k t f a below vs h are =
      let v = first_of_all (kind_type k) (kind_type k ∷ below) vs are in
      let u = first_of_all (kind_type k) below v.others v.rest in
      let parts : vs ≡ v.value ∷ u.value ∷ u.others = v.parts ∙ ap (λ (l : List Value). v.value ∷ l) u.parts in
      subst (λ (l : List Value). IsExecuted m ls a (t ∷ below) (answered m s own (drop 2 l) (with_two k f (reverse (take 2 l))))) (sym parts)
      (subst (λ (r : Option Answer). IsExecuted m ls a (t ∷ below) (answered m s own u.others r)) (sym (two_apply k f u.value v.value (kind_is k u.value u.is.type) (kind_is k v.value v.is.type)))
      (answer_typed t a below u.others (f (integer_of u.value) (integer_of v.value)) (h (integer_of u.value) (integer_of v.value)) u.rest))

  operator_typed : (p : Operator) (a below : List ValType) (vs : List Value) → Are ((operator_type p).takes ++ below) vs
      → IsExecuted m ls a ((operator_type p).gives ++ below) (answered m s own (drop (length (operator_type p).takes) vs) (operate p (reverse (take (length (operator_type p).takes) vs))))
  operator_typed (Test k) a below vs are = one_typed k I32 (λ i. truth (ieqz (width_of k) i)) a below vs (λ i. truth_is (ieqz (width_of k) i)) are
  operator_typed (Unary k op) a below vs are = one_typed k (kind_type k) (λ i. gives k (unary_op op (width_of k) i)) a below vs (λ i. value_is k (unary_op op (width_of k) i)) are
  operator_typed (Binary k op) a below vs are = two_typed k (kind_type k) (λ i j. outcome k (binary_op op (width_of k) i j)) a below vs (λ i j. outcome_is k (binary_op op (width_of k) i j)) are
  operator_typed (Comparison k op) a below vs are = two_typed k I32 (λ i j. truth (compare_op op (width_of k) i j)) a below vs (λ i j. truth_is (compare_op op (width_of k) i j)) are
  operator_typed Wrap a below vs are = one_typed kinds.I64 I32 _ a below vs (λ i. value_is kinds.I32 _) are
  operator_typed ExtendS a below vs are = one_typed kinds.I32 I64 _ a below vs (λ i. value_is kinds.I64 _) are
  operator_typed ExtendU a below vs are = one_typed kinds.I32 I64 _ a below vs (λ i. value_is kinds.I64 _) are

  -- Variables.

  got_typed : (a below : List ValType) (vs : List Value) (from : List Value) (ts : List ValType) (x : ℕ) (t : ValType) → Are below vs → Are ts from → slice_get ts x ≡ Some t → IsExecuted m ls a (t ∷ below) (got m s own vs (slice_get from x))
  got_typed a below vs from ts x t k f e =
      let v = at_position from ts x t f e in
      subst (λ (r : Option Value). IsExecuted m ls a (t ∷ below) (got m s own vs r)) (sym v.1) (typed, o, are_more t below v.0 vs v.2 k)

  local_typed : (a b : List ValType) (x : ℕ) (v : Value) (vs : List Value) (t : ValType) → slice_get ls x ≡ Some t → Is t v → Are b vs → IsExecuted m ls a b (set_local m s own x v vs)
  local_typed a b x v vs t e i k =
      let f = set_position own ls x v t o e i in
      subst (λ (c : Bool). IsExecuted m ls a b (cond c (done s (slice_set own x v) vs) unfit)) (sym f.0) (typed, f.1, k)

  global_typed : (a b : List ValType) (x : ℕ) (v : Value) (vs : List Value) (t : ValType) → slice_get (map held_type m.globals) x ≡ Some t → Is t v → Are b vs → IsExecuted m ls a b (set_global m s own x v vs)
  global_typed a b x v vs t e i k =
      let f = set_position s.globals (map held_type m.globals) x v t typed.globals e i in
      subst (λ (c : Bool). IsExecuted m ls a b (cond c (done (record s { globals = slice_set s.globals x v }) own vs) unfit)) (sym f.0)
      (record { globals = f.1; memory = typed.memory; table = typed.table }, o, k)

  select_typed : (a below : List ValType) (vs : List Value) (t : ValType) → Are (I32 ∷ t ∷ t ∷ below) vs → IsExecuted m ls a (t ∷ below) (simple m s own select vs)
  select_typed a below vs t are =
      let c = first_i32 (t ∷ t ∷ below) vs are in
      let y = first_of_all t (t ∷ below) c.others c.rest in
      let x = first_of_all t below y.others y.rest in
      let parts : vs ≡ values.I32 c.number ∷ y.value ∷ x.value ∷ x.others = c.parts ∙ ap (λ (l : List Value). values.I32 c.number ∷ l) (y.parts ∙ ap (λ (l : List Value). y.value ∷ l) x.parts) in
      subst (λ (l : List Value). IsExecuted m ls a (t ∷ below) (simple m s own select l)) (sym parts)
      (typed, o, are_more t below (if_nonzero c.number x.value y.value) x.others (one_of c.number x.value y.value t x.is y.is) x.rest)

  -- Memory.

  with_memory_typed : (memory : List ℕ) → TypedMemory m memory → TypedStore m (record s { memory = memory })
  with_memory_typed memory t = record { globals = typed.globals; memory = t; table = typed.table }

  reads_typed : (op : _) (a below : List ValType) (vs : List Value) (bytes : Option (List ℕ)) → Are below vs → IsExecuted m ls a (load_type op ∷ below) (reads m s own op vs bytes)
  reads_typed op a below vs None k = tt
  reads_typed op a below vs (Some bytes) k = (typed, o, are_more (load_type op) below (loaded op bytes) vs (value_is (load_kind op) _) k)

  writes_typed : (op : StoreOp) (at : ℕ) (a below : List ValType) (v : Value) (vs : List Value) → Is (store_type op) v → Are below vs → IsExecuted m ls a below (writes m s own at vs (stored op v))
  writes_typed op at a below v vs i k =
      let bytes : List ℕ = bytes_of (store_width op) (integer_of v) in
      subst (λ (r : Option (List ℕ)). IsExecuted m ls a below (writes m s own at vs r)) (sym (ap (λ r. option_map (bytes_of (store_width op)) r) (operand_is (store_kind op) v i.type)))
      (by_test m ls a below (ltb (length s.memory) (at + length bytes)) (fault OutOfBounds) (with_memory m s own (overwritten s.memory at bytes) vs) (λ e. tt)
      (λ e. (with_memory_typed (overwritten s.memory at bytes) (memory_written m s.memory at bytes typed.memory (ltb-false (length s.memory) (at + length bytes) e) (bytes_are (store_width op) (integer_of v))), o, k)))

  grows_typed : (count : ℕ) (a below : List ValType) (vs : List Value) → Are below vs → IsExecuted m ls a (I32 ∷ below) (grows m s own count vs)
  grows_typed count a below vs k =
      by_test m ls a (I32 ∷ below) (ltb (most_pages m) (page_count s.memory + count)) (done s own (values.I32 (negsuc 0) ∷ vs))
      (with_memory m s own (s.memory ++ replicate (page_size * count) 0) (unsigned (page_count s.memory) ∷ vs))
      (λ e. (typed, o, are_more I32 below (values.I32 (negsuc 0)) vs (record { type = refl; range = refl }) k))
      (λ e. (
        with_memory_typed (s.memory ++ replicate (page_size * count) 0) (memory_grown m s.memory count typed.memory (ltb-false (most_pages m) (page_count s.memory + count) e)),
        o,
        are_more I32 below (unsigned (page_count s.memory)) vs (value_is kinds.I32 (page_count s.memory)) k,
      ))

  -- three operands of i32
  three : (a below : List ValType) (x y z : Value) (vs : List Value) → a ≡ I32 ∷ I32 ∷ I32 ∷ below → Is I32 x → Is I32 y → Is I32 z → Are below vs → Are a (x ∷ y ∷ z ∷ vs)
  three a below x y z vs e i j k are =
      are_as (I32 ∷ I32 ∷ I32 ∷ below) a (x ∷ y ∷ z ∷ vs) (sym e) (are_more I32 (I32 ∷ I32 ∷ below) x (y ∷ z ∷ vs) i (are_more I32 (I32 ∷ below) y (z ∷ vs) j (are_more I32 below z vs k are)))

  within_typed : (a b : List ValType) (at : ℤ) (count : ℕ) (e : Executed) → IsExecuted m ls a b e → IsExecuted m ls a b (inside m s own at count e)
  within_typed a b at count e h = by_test m ls a b (ltb (length s.memory) (cast_unsigned w32 at + count)) (fault OutOfBounds) e (λ w. tt) (λ w. h)

  fills_typed : (to byte : ℤ) (count : ℕ) (a below : List ValType) (vs : List Value) → a ≡ I32 ∷ I32 ∷ I32 ∷ below → Is I32 (values.I32 byte) → Are below vs → IsExecuted m ls a below (fills m s own to byte count vs)
  fills_typed to byte zero a below vs e i k = (typed, o, k)
  fills_typed to byte (suc count) a below vs e i k = (
    with_memory_typed (slice_set s.memory (cast_unsigned w32 to) (cast_unsigned w32 byte % 256)) (memory_set m s.memory (cast_unsigned w32 to) (cast_unsigned w32 byte % 256) typed.memory (rest_is_byte (cast_unsigned w32 byte))),
    three a below (unsigned count) (values.I32 byte) (unsigned (cast_unsigned w32 to + 1)) vs e (value_is kinds.I32 count) i (value_is kinds.I32 (cast_unsigned w32 to + 1)) k,
  )

  with_copy_typed : (to from : ℕ) → TypedStore m (with_copy m s own to from)
  with_copy_typed to from = with_memory_typed (slice_set s.memory to (slice_index s.memory from)) (memory_set m s.memory to (slice_index s.memory from) typed.memory (read_byte s.memory from typed.memory.bytes))

  copies_typed : (to from : ℤ) (count : ℕ) (a below : List ValType) (vs : List Value) → a ≡ I32 ∷ I32 ∷ I32 ∷ below → Is I32 (values.I32 to) → Is I32 (values.I32 from) → Are below vs → IsExecuted m ls a below (copies m s own to from count vs)
  copies_typed to from zero a below vs e i j k = (typed, o, k)
  copies_typed to from (suc count) a below vs e i j k =
      by_test m ls a below (leb (cast_unsigned w32 to) (cast_unsigned w32 from)) _ _
      (λ w. (
        with_copy_typed (cast_unsigned w32 to) (cast_unsigned w32 from),
        three a below (unsigned count) (unsigned (cast_unsigned w32 from + 1)) (unsigned (cast_unsigned w32 to + 1)) vs e (value_is kinds.I32 count) (value_is kinds.I32 _) (value_is kinds.I32 _) k,
      ))
      (λ w. (
        with_copy_typed (cast_unsigned w32 to + count) (cast_unsigned w32 from + count),
        three a below (unsigned count) (values.I32 from) (values.I32 to) vs e (value_is kinds.I32 count) j i k,
      ))

-- an instruction that `simple` tells of
abbrev pub IsSimple : Op → Type 0
IsSimple (block ty body) = ⊥
IsSimple (loop ty body) = ⊥
IsSimple (if_else ty first second) = ⊥
IsSimple (br l) = ⊥
IsSimple (br_if l) = ⊥
IsSimple (br_table ls l) = ⊥
IsSimple return = ⊥
IsSimple (call f) = ⊥
IsSimple (call_indirect n) = ⊥
IsSimple (const v) = ⊥
IsSimple _ = Unit {0}

-- in the body of a function, inside these labels
module _ (m : Module) (s : Store) (f : Func) (t : FuncType) (own : List Value) (labels : List (List ValType)) (typed : TypedStore m s) (o : Are (t.params ++ run_types f.locals) own) where
  abbrev C : Context
  C = with_labels labels (body_context m f t)

  abbrev ls : List ValType
  ls = t.params ++ run_types f.locals

  -- with the types that the rule tells
  given : (us gives below a : List ValType) (e : Executed) → us ≡ gives → IsExecuted m ls a (gives ++ below) e → IsExecuted m ls a (us ++ below) e
  given us gives below a e q h = subst (λ (l : List ValType). IsExecuted m ls a (l ++ below) e) (sym q) h

  taken : (ts takes below : List ValType) (vs : List Value) → ts ≡ takes → Are (ts ++ below) vs → Are (takes ++ below) vs
  taken ts takes below vs q are = are_as (ts ++ below) (takes ++ below) vs (ap (λ (l : List ValType). l ++ below) q) are

  -- with the first operand apart
  by_first : (i : Op) (a b below : List ValType) (x : ValType) (vs : List Value) → Are (x ∷ below) vs → ((v : Value) (us : List Value) → Is x v → Are below us → IsExecuted m ls a b (simple m s own i (v ∷ us))) → IsExecuted m ls a b (simple m s own i vs)
  by_first i a b below x vs are h =
      let v = first_of_all x below vs are in
      subst (λ (l : List Value). IsExecuted m ls a b (simple m s own i l)) (sym v.parts) (h v.value v.others v.is v.rest)

  by_i32 : (i : Op) (a b below : List ValType) (vs : List Value) → Are (I32 ∷ below) vs → ((n : ℤ) (us : List Value) → Is I32 (values.I32 n) → Are below us → IsExecuted m ls a b (simple m s own i (values.I32 n ∷ us))) → IsExecuted m ls a b (simple m s own i vs)
  by_i32 i a b below vs are h =
      let v = first_i32 below vs are in
      subst (λ (l : List Value). IsExecuted m ls a b (simple m s own i l)) (sym v.parts) (h v.number v.others (record { type = refl; range = v.range }) v.rest)

  -- three operands of i32
  by_three : (i : Op) (a b below : List ValType) (vs : List Value) → Are (I32 ∷ I32 ∷ I32 ∷ below) vs
      → ((x y z : ℤ) (us : List Value) → Is I32 (values.I32 x) → Is I32 (values.I32 y) → Is I32 (values.I32 z) → Are below us → IsExecuted m ls a b (simple m s own i (values.I32 x ∷ values.I32 y ∷ values.I32 z ∷ us)))
      → IsExecuted m ls a b (simple m s own i vs)
  by_three i a b below vs are h =
      let x = first_i32 (I32 ∷ I32 ∷ below) vs are in
      let y = first_i32 (I32 ∷ below) x.others x.rest in
      let z = first_i32 below y.others y.rest in
      let parts : vs ≡ values.I32 x.number ∷ values.I32 y.number ∷ values.I32 z.number ∷ z.others =
      x.parts ∙ ap (λ (l : List Value). values.I32 x.number ∷ l) (y.parts ∙ ap (λ (l : List Value). values.I32 y.number ∷ l) z.parts) in
      subst (λ (l : List Value). IsExecuted m ls a b (simple m s own i l)) (sym parts)
      (h x.number y.number z.number z.others (record { type = refl; range = x.range }) (record { type = refl; range = y.range }) (record { type = refl; range = z.range }) z.rest)

  pub simple_typed : (i : Op) (ts us below : List ValType) (vs : List Value) → IsSimple i → Rule i C ts us → Are (ts ++ below) vs → IsExecuted m ls (ts ++ below) (us ++ below) (simple m s own i vs)
  simple_typed unreachable ts us below vs h r k = tt
  simple_typed nop ts us below vs h r k = given us [] below (ts ++ below) (done s own vs) r.1 (typed, o, taken ts [] below vs r.0 k)
  simple_typed drop_one ts us below vs h r k =
      by_first drop_one (ts ++ below) (us ++ below) below r.0 vs (taken ts (r.0 ∷ []) below vs r.1.0 k)
      (λ v ws i w. given us [] below (ts ++ below) (done s own ws) r.1.1 (typed, o, w))
  simple_typed select ts us below vs h r k =
      given us (r.0 ∷ []) below (ts ++ below) (simple m s own select vs) r.1.1 (select_typed m s ls own typed o (ts ++ below) below vs r.0 (taken ts (I32 ∷ r.0 ∷ r.0 ∷ []) below vs r.1.0 k))
  simple_typed (local_get x) ts us below vs h r k =
      given us (r.0 ∷ []) below (ts ++ below) (got m s own vs (slice_get own x)) r.2.1 (got_typed m s ls own typed o (ts ++ below) below vs own ls x r.0 (taken ts [] below vs r.2.0 k) o r.1)
  simple_typed (local_set x) ts us below vs h r k =
      by_first (local_set x) (ts ++ below) (us ++ below) below r.0 vs (taken ts (r.0 ∷ []) below vs r.2.0 k)
      (λ v ws i w. given us [] below (ts ++ below) (set_local m s own x v ws) r.2.1 (local_typed m s ls own typed o (ts ++ below) below x v ws r.0 r.1 i w))
  simple_typed (local_tee x) ts us below vs h r k =
      by_first (local_tee x) (ts ++ below) (us ++ below) below r.0 vs (taken ts (r.0 ∷ []) below vs r.2.0 k)
      (λ v ws i w. given us (r.0 ∷ []) below (ts ++ below) (set_local m s own x v (v ∷ ws)) r.2.1 (local_typed m s ls own typed o (ts ++ below) (r.0 ∷ below) x v (v ∷ ws) r.0 r.1 i (are_more r.0 below v ws i w)))
  simple_typed (global_get x) ts us below vs h r k =
      given us (r.0.holds ∷ []) below (ts ++ below) (got m s own vs (slice_get s.globals x)) r.2.1
      (got_typed m s ls own typed o (ts ++ below) below vs s.globals (map held_type m.globals) x r.0.holds (taken ts [] below vs r.2.0 k) typed.globals (held m.globals x r.0 r.1))
  simple_typed (global_set x) ts us below vs h r k =
      by_first (global_set x) (ts ++ below) (us ++ below) below r.0.holds vs (taken ts (r.0.holds ∷ []) below vs r.3.0 k)
      (λ v ws i w. given us [] below (ts ++ below) (set_global m s own x v ws) r.3.1 (global_typed m s ls own typed o (ts ++ below) below x v ws r.0.holds (held m.globals x r.0 r.1) i w))
  simple_typed (load op align offset) ts us below vs h r k =
      by_i32 (load op align offset) (ts ++ below) (us ++ below) below vs (taken ts (I32 ∷ []) below vs r.2.0 k)
      (λ n ws i w. given us (load_type op ∷ []) below (ts ++ below) _ r.2.1 (reads_typed m s ls own typed o op (ts ++ below) below ws (items_at s.memory (address n offset) (load_width op)) w))
  simple_typed (store op align offset) ts us below vs h r k =
      let v = first_of_all (store_type op) (I32 ∷ below) vs (taken ts (store_type op ∷ I32 ∷ []) below vs r.2.0 k) in
      let n = first_i32 below v.others v.rest in
      subst (λ (l : List Value). IsExecuted m ls (ts ++ below) (us ++ below) (simple m s own (store op align offset) l)) (sym (v.parts ∙ ap (λ (l : List Value). v.value ∷ l) n.parts))
      (given us [] below (ts ++ below) (writes m s own (address n.number offset) n.others (stored op v.value)) r.2.1 (writes_typed m s ls own typed o op (address n.number offset) (ts ++ below) below v.value n.others v.is n.rest))
  simple_typed memory_size ts us below vs h r k =
      given us (I32 ∷ []) below (ts ++ below) (done s own (unsigned (page_count s.memory) ∷ vs)) r.1.1
      (typed, o, are_more I32 below (unsigned (page_count s.memory)) vs (value_is kinds.I32 (page_count s.memory)) (taken ts [] below vs r.1.0 k))
  simple_typed memory_grow ts us below vs h r k =
      by_i32 memory_grow (ts ++ below) (us ++ below) below vs (taken ts (I32 ∷ []) below vs r.1.0 k)
      (λ n ws i w. given us (I32 ∷ []) below (ts ++ below) (grows m s own (cast_unsigned w32 n) ws) r.1.1 (grows_typed m s ls own typed o (cast_unsigned w32 n) (ts ++ below) below ws w))
  simple_typed memory_fill ts us below vs h r k =
      by_three memory_fill (ts ++ below) (us ++ below) below vs (taken ts (I32 ∷ I32 ∷ I32 ∷ []) below vs r.1.0 k)
      (λ n byte to ws i j l w. given us [] below (ts ++ below) (inside m s own to (cast_unsigned w32 n) (fills m s own to byte (cast_unsigned w32 n) ws)) r.1.1
      (within_typed m s ls own typed o (ts ++ below) below to (cast_unsigned w32 n) (fills m s own to byte (cast_unsigned w32 n) ws)
      (fills_typed m s ls own typed o to byte (cast_unsigned w32 n) (ts ++ below) below ws (ap (λ (x : List ValType). x ++ below) r.1.0) j w)))
  simple_typed memory_copy ts us below vs h r k =
      by_three memory_copy (ts ++ below) (us ++ below) below vs (taken ts (I32 ∷ I32 ∷ I32 ∷ []) below vs r.1.0 k)
      (λ n from to ws i j l w. given us [] below (ts ++ below) (inside m s own to (cast_unsigned w32 n) (inside m s own from (cast_unsigned w32 n) (copies m s own to from (cast_unsigned w32 n) ws))) r.1.1
      (within_typed m s ls own typed o (ts ++ below) below to (cast_unsigned w32 n) (inside m s own from (cast_unsigned w32 n) (copies m s own to from (cast_unsigned w32 n) ws))
      (within_typed m s ls own typed o (ts ++ below) below from (cast_unsigned w32 n) (copies m s own to from (cast_unsigned w32 n) ws)
      (copies_typed m s ls own typed o to from (cast_unsigned w32 n) (ts ++ below) below ws (ap (λ (x : List ValType). x ++ below) r.1.0) l j w))))
  simple_typed (num op) ts us below vs h r k =
      given us (num_type op).gives below (ts ++ below) (operated m s own op (length (num_type op).takes) vs) r.1
      (operator_typed m s ls own typed o (operator_of op) (ts ++ below) below vs (taken ts (num_type op).takes below vs r.0 k))
  simple_typed (float opcode) ts us below vs h r k = absurd r
  simple_typed mul64 ts us below vs h r k = absurd r
  simple_typed i ts us below vs h r k = absurd h
