-- What an instruction does that has no body and goes to no other place: sections 4.4.1 to 4.4.4 of the WebAssembly Core
-- Specification 1.0, with `nop` and `unreachable` of 4.4.5, and `memory.fill` and `memory.copy` of edition 2.0.
use Rattle.std.specs.Prelude.{ℕ, zero, suc, ◌+◌, ◌*◌, ◌%◌, List, ◌∷◌, ◌++◌, length, take, drop, reverse}
use Rattle.std.specs.Prelude.{replicate, slice_get, slice_set, slice_index, Option, Some, None, nat_lt, nat_le}
use Rattle.std.specs.Prelude.{if◌then◌else◌, ℤ, pos, negsuc}
use Rattle.std.specs.Int.{w32, cast_unsigned}
use Rattle.mc_nbt.specs.declared.value.Kind.TheVariants as kinds
use Rattle.mc_nbt.specs.declared.value.Value.{Value}
use Rattle.mc_nbt.specs.declared.value.Value.TheVariants.{I32}
use Rattle.wm_ast.specs.declared.answer.Answer.{Answer}
use Rattle.wm_ast.specs.declared.answer.Answer.TheVariants as answers
use Rattle.wm_ast.specs.declared.answer.TrapKind.{TrapKind}
use Rattle.wm_ast.specs.declared.answer.TrapKind.TheVariants.{Unreachable, OutOfBounds}
use Rattle.wm_ast.specs.declared.module.Module.{Module}
use Rattle.wm_ast.specs.declared.operation.NumOp.{NumOp}
use Rattle.wm_ast.specs.declared.operation.LoadOp.{LoadOp}
use Rattle.wm_ast.specs.Apply.{apply}
use Rattle.wm_ast.specs.Code.{Op, unreachable, nop, drop_one, select, local_get, local_set, local_tee, global_get}
use Rattle.wm_ast.specs.Code.{global_set, load, store, memory_size, memory_grow, memory_copy, memory_fill, num}
use Rattle.wm_ast.specs.Operand.{value_of}
use Rattle.wm_ast.specs.Operation.{num_type, load_width}
use Rattle.wm_ast.specs.Storage.{loaded, stored}
use Rattle.wm_ast.specs.Store.{Store, items_at, overwritten, page_size, page_count, most_pages}

-- what such an instruction comes to
pub data Executed : Type 0 where
  -- the store, the locals and the operands after it
  done : Store → List Value → List Value → Executed
  -- it stands again, with the store and the operands after its step
  repeats : Store → List Value → Executed
  fault : TrapKind → Executed
  -- no rule fits
  unfit : Executed

-- the one where the number isn't 0, and else the other
abbrev pub if_nonzero : {A : Type 0} → ℤ → A → A → A
if_nonzero (pos zero) a b = b
if_nonzero _ a b = a

-- a number without sign as a value
abbrev pub unsigned : ℕ → Value
unsigned n = value_of kinds.I32 n

-- the effective address: the operand, without sign, and the offset (4.4.4.1)
abbrev pub address : ℤ → ℕ → ℕ
address i offset = cast_unsigned w32 i + offset

-- the module, the store and the locals; a list of operands has the last one first
module _ (m : Module) (s : Store) (locals : List Value) where
  -- with this memory, and over these operands
  abbrev pub with_memory : List ℕ → List Value → Executed
  with_memory memory vs = done (record s { memory = memory }) locals vs

  -- Numeric instructions (4.4.1).

  -- the answer of an operation over these operands
  abbrev pub answered : List Value → Option Answer → Executed
  answered vs None = unfit
  answered vs (Some (answers.Value v)) = done s locals (v ∷ vs)
  answered vs (Some (answers.Trap k)) = fault k

  -- an operation that takes so many operands
  abbrev pub operated : NumOp → ℕ → List Value → Executed
  operated op count vs = answered (drop count vs) (apply op (reverse (take count vs)))

  -- Variable instructions (4.4.3).

  -- the value of a local or a global
  abbrev pub got : List Value → Option Value → Executed
  got vs None = unfit
  got vs (Some v) = done s locals (v ∷ vs)

  -- the local of this index is the value
  abbrev pub set_local : ℕ → Value → List Value → Executed
  set_local x v vs = if nat_lt x (length locals) then done s (slice_set locals x v) vs else unfit

  -- the global of this index is the value
  abbrev pub set_global : ℕ → Value → List Value → Executed
  set_global x v vs =
      if nat_lt x (length s.globals) then done (record s { globals = slice_set s.globals x v }) locals vs else unfit

  -- Memory instructions (4.4.4).

  -- the bytes of a load
  abbrev pub reads : LoadOp → List Value → Option (List ℕ) → Executed
  reads op vs None = fault OutOfBounds
  reads op vs (Some bytes) = done s locals (loaded op bytes ∷ vs)

  -- the bytes of a store; there are none where the operand isn't of its type
  abbrev pub writes : ℕ → List Value → Option (List ℕ) → Executed
  writes at vs None = unfit
  writes at vs (Some bytes) =
      if nat_lt (length s.memory) (at + length bytes) then fault OutOfBounds
      else with_memory (overwritten s.memory at bytes) vs

  -- So many pages more, and the old number of pages; or -1, where these are more than the memory may have (4.4.4.4).
  abbrev pub grows : ℕ → List Value → Executed
  grows count vs =
      if nat_lt (most_pages m) (page_count s.memory + count) then done s locals (I32 (negsuc 0) ∷ vs)
      else with_memory (s.memory ++ replicate (page_size * count) 0) (unsigned (page_count s.memory) ∷ vs)

  -- `memory.fill` (4.4.7 of edition 2.0): the byte is written at the first place, and then at those behind it
  abbrev pub fills : ℤ → ℤ → ℕ → List Value → Executed
  fills to byte zero vs = done s locals vs
  fills to byte (suc count) vs =
      repeats
      (record s { memory = slice_set s.memory (cast_unsigned w32 to) (cast_unsigned w32 byte % 256) })
      (unsigned count ∷ I32 byte ∷ unsigned (cast_unsigned w32 to + 1) ∷ vs)

  -- the memory with the byte of one place at another place
  abbrev pub with_copy : ℕ → ℕ → Store
  with_copy to from = record s { memory = slice_set s.memory to (slice_index s.memory from) }

  -- the first byte of a copy, and then the others
  abbrev pub copies_first : ℤ → ℤ → ℕ → List Value → Executed
  copies_first to from others vs =
      repeats
      (with_copy (cast_unsigned w32 to) (cast_unsigned w32 from))
      (unsigned others ∷ unsigned (cast_unsigned w32 from + 1) ∷ unsigned (cast_unsigned w32 to + 1) ∷ vs)

  -- the last byte of a copy, and then the others
  abbrev pub copies_last : ℤ → ℤ → ℕ → List Value → Executed
  copies_last to from others vs =
      repeats
      (with_copy (cast_unsigned w32 to + others) (cast_unsigned w32 from + others))
      (unsigned others ∷ I32 from ∷ I32 to ∷ vs)

  -- `memory.copy` (4.4.7 of edition 2.0): from the first byte on where it goes down or stays, and else from the last
  -- one on, so that each byte is read before it is written
  abbrev pub copies : ℤ → ℤ → ℕ → List Value → Executed
  copies to from zero vs = done s locals vs
  copies to from (suc others) vs =
      if nat_le (cast_unsigned w32 to) (cast_unsigned w32 from) then copies_first to from others vs
      else copies_last to from others vs

  -- where so many bytes from this place on reach beyond the end of the memory, the trap
  abbrev pub inside : ℤ → ℕ → Executed → Executed
  inside at count e = if nat_lt (length s.memory) (cast_unsigned w32 at + count) then fault OutOfBounds else e

  -- an instruction over these operands
  abbrev pub simple : Op → List Value → Executed
  -- 4.4.1
  simple (num op) vs = operated op (length (num_type op).takes) vs
  -- 4.4.2
  simple drop_one (v ∷ vs) = done s locals vs
  simple select (I32 c ∷ b ∷ a ∷ vs) = done s locals (if_nonzero c a b ∷ vs)
  -- 4.4.3
  simple (local_get x) vs = got vs (slice_get locals x)
  simple (local_set x) (v ∷ vs) = set_local x v vs
  simple (local_tee x) (v ∷ vs) = set_local x v (v ∷ vs)
  simple (global_get x) vs = got vs (slice_get s.globals x)
  simple (global_set x) (v ∷ vs) = set_global x v vs
  -- 4.4.4
  simple (load op align offset) (I32 i ∷ vs) = reads op vs (items_at s.memory (address i offset) (load_width op))
  simple (store op align offset) (v ∷ I32 i ∷ vs) = writes (address i offset) vs (stored op v)
  simple memory_size vs = done s locals (unsigned (page_count s.memory) ∷ vs)
  simple memory_grow (I32 k ∷ vs) = grows (cast_unsigned w32 k) vs
  -- 4.4.7 of edition 2.0
  simple memory_fill (I32 n ∷ I32 byte ∷ I32 to ∷ vs) =
      inside to (cast_unsigned w32 n) (fills to byte (cast_unsigned w32 n) vs)
  simple memory_copy (I32 n ∷ I32 from ∷ I32 to ∷ vs) =
      inside to (cast_unsigned w32 n) (inside from (cast_unsigned w32 n) (copies to from (cast_unsigned w32 n) vs))
  -- 4.4.5
  simple nop vs = done s locals vs
  simple unreachable vs = fault Unreachable
  simple _ _ = unfit
