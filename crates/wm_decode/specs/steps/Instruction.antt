-- Instructions, read from the left: what stands at the front of the bytes, and the bytes after it.
use Rattle.std.specs.Prelude.{ℕ, zero, suc, List, [], ◌∷◌, length, drop, Option, Some, None, nat_lt, ◌==◌}
use Rattle.std.specs.Prelude.{if◌then◌else◌, option_map}
use Rattle.mc_nbt.specs.declared.value.Value.TheVariants as values
use Rattle.wm_ast.specs.declared.module.TheConstants.{MAX_DEPTH}
use Rattle.wm_ast.specs.declared.module.ValType.{ValType}
use Rattle.wm_ast.specs.declared.operation.LoadOp.{LoadOp}
use Rattle.wm_ast.specs.declared.operation.StoreOp.{StoreOp}
use Rattle.wm_ast.specs.Code.{Op, unreachable, nop, block, loop, if_else, br, br_if, br_table, return, call}
use Rattle.wm_ast.specs.Code.{call_indirect, drop_one, select, local_get, local_set, local_tee, global_get, global_set}
use Rattle.wm_ast.specs.Code.{load, store, memory_size, memory_grow, memory_copy, memory_fill, const, num, float, mul64}
use Rattle.wm_ast.specs.Code.{Code, nil, cons}
use Rattle.wm_ast.specs.Opcode.{FloatOperand, no_operand, memory_argument, constant, float_operand}
use Rattle.wm_frame.specs.Reading.{Reader, ◌>>=◌, unsigned_at, signed_at}
use Rattle.wm_decode.specs.steps.Listing.{list_at, byte_at}
use Rattle.wm_decode.specs.steps.Opcodes.{num_at, load_at, store_at}
use Rattle.wm_decode.specs.steps.ValueType.{val_type}

-- the block type of a byte
abbrev pub block_type : ℕ → Option (Option ValType)
block_type b = if b == 0x40 then Some None else option_map Some (val_type b)

unfoldable pub block_type_at : Reader (Option ValType)
block_type_at [] = None
block_type_at (b ∷ bs) = block_type b >>= λ t. Some (t, bs)

-- the end of a block or an expression
abbrev pub end_at : List ℕ → Option (List ℕ)
end_at = byte_at 0x0B

-- an index
unfoldable pub index_at : (ℕ → Op) → Reader Op
index_at make bs = unsigned_at 32 bs >>= λ n. Some (make n.0, n.1)

-- an alignment and an offset
unfoldable pub access_at : (ℕ → ℕ → Op) → Reader Op
access_at make bs = do
  align ← unsigned_at 32 bs
  offset ← unsigned_at 32 align.1
  Some (make align.0 offset.0, offset.1)

-- labels and a default label
unfoldable pub table_at : Reader Op
table_at bs = do
  labels ← list_at (unsigned_at 32) bs
  last ← unsigned_at 32 labels.1
  Some (br_table labels.0 last.0, last.1)

-- the index of a type, and a zero
unfoldable pub indirect_at : Reader Op
indirect_at bs = do
  n ← unsigned_at 32 bs
  table ← unsigned_at 32 n.1
  if table.0 == 0 then Some (call_indirect n.0, table.1) else None

unfoldable pub const32_at : Reader Op
const32_at bs = signed_at 32 bs >>= λ n. Some (const (values.I32 n.0), n.1)

unfoldable pub const64_at : Reader Op
const64_at bs = signed_at 64 bs >>= λ n. Some (const (values.I64 n.0), n.1)

-- an instruction that is followed by a byte 00
unfoldable pub zero_at : Op → Reader Op
zero_at op bs = byte_at 0x00 bs >>= λ rest. Some (op, rest)

-- an instruction by its number behind the prefix
unfoldable pub prefixed_by : ℕ → Reader Op
prefixed_by n bs =
    if n == 10 then (byte_at 0x00 bs >>= λ rest. zero_at memory_copy rest)
    else (if n == 11 then zero_at memory_fill bs else None)

unfoldable pub prefixed_at : Reader Op
prefixed_at bs = unsigned_at 32 bs >>= λ n. prefixed_by n.0 n.1

-- the bytes after so many
unfoldable pub skip_at : ℕ → List ℕ → Option (List ℕ)
skip_at n bs = if nat_lt (length bs) n then None else Some (drop n bs)

-- an instruction without operands, by its opcode
unfoldable pub simple_op : ℕ → Option Op
simple_op b =
    if b == 0x00 then Some unreachable
    else (if b == 0x01 then Some nop
    else (if b == 0x0F then Some return
    else (if b == 0x1A then Some drop_one
    else (if b == 0x1B then Some select
    else (if b == 0x7E then Some mul64 else option_map num (num_at b))))))

unfoldable pub simple_by : ℕ → Reader Op
simple_by b bs = simple_op b >>= λ op. Some (op, bs)

-- a store, or what is read otherwise
abbrev pub store_or : Option StoreOp → Reader Op → Reader Op
store_or (Some op) others bs = access_at (store op) bs
store_or None others bs = others bs

-- a load, or what is read otherwise
abbrev pub load_or : Option LoadOp → Reader Op → Reader Op
load_or (Some op) others bs = access_at (load op) bs
load_or None others bs = others bs

-- an access to memory, or an instruction without operands, by its opcode
unfoldable pub access_by : ℕ → Reader Op
access_by b bs = load_or (load_at b) (store_or (store_at b) (simple_by b)) bs

-- an instruction with other operands, by its opcode
unfoldable pub operand_by : ℕ → Reader Op
operand_by b bs =
    if b == 0x0E then table_at bs
    else (if b == 0x11 then indirect_at bs
    else (if b == 0x3F then zero_at memory_size bs
    else (if b == 0x40 then zero_at memory_grow bs
    else (if b == 0x41 then const32_at bs
    else (if b == 0x42 then const64_at bs
    else (if b == 0xFC then prefixed_at bs else access_by b bs))))))

-- an instruction with an index, or with other operands, by its opcode
unfoldable pub index_by : ℕ → Reader Op
index_by b bs =
    if b == 0x0C then index_at br bs
    else (if b == 0x0D then index_at br_if bs
    else (if b == 0x10 then index_at call bs
    else (if b == 0x20 then index_at local_get bs
    else (if b == 0x21 then index_at local_set bs
    else (if b == 0x22 then index_at local_tee bs
    else (if b == 0x23 then index_at global_get bs
    else (if b == 0x24 then index_at global_set bs else operand_by b bs)))))))

-- an instruction on floats, by what follows its opcode, or what is read otherwise
abbrev pub float_or : ℕ → Option FloatOperand → Reader Op → Reader Op
float_or b (Some no_operand) others bs = Some (float b, bs)
float_or b (Some memory_argument) others bs = access_at (λ align offset. float b) bs
float_or b (Some (constant width)) others bs = skip_at width bs >>= λ rest. Some (float b, rest)
float_or b None others bs = others bs

-- an instruction that is no block, by its opcode
unfoldable pub plain_by : ℕ → Reader Op
plain_by b bs = float_or b (float_operand b) (index_by b) bs

-- a block's type, its instructions and the end
unfoldable pub nested_at : (Option ValType → Code → Op) → Reader Code → Reader Op
nested_at make code bs = do
  t ← block_type_at bs
  body ← code t.1
  rest ← end_at body.1
  Some (make t.0 body.0, rest)

-- what follows the first arm
unfoldable pub arms_at : Option ValType → Reader Code → Code → Reader Op
arms_at ty code first [] = None
arms_at ty code first (b ∷ bs) =
    if b == 0x05 then (code bs >>= λ second. end_at second.1 >>= λ rest. Some (if_else ty first second.0, rest))
    else (if b == 0x0B then Some (if_else ty first nil, bs) else None)

unfoldable pub choice_at : Reader Code → Reader Op
choice_at code bs = do
  t ← block_type_at bs
  first ← code t.1
  arms_at t.0 code first.0 first.1

-- an instruction by its opcode
unfoldable pub op_by : Reader Code → ℕ → Reader Op
op_by code b bs =
    if b == 0x02 then nested_at block code bs
    else (if b == 0x03 then nested_at loop code bs
    else (if b == 0x04 then choice_at code bs else plain_by b bs))

unfoldable pub op_at : Reader Code → Reader Op
op_at code [] = None
op_at code (b ∷ bs) = op_by code b bs

-- what stands inside a block, where so many more may open
abbrev pub inner : (ℕ → Reader Code) → ℕ → Reader Code
inner code zero bs = None
inner code (suc d) bs = code d bs

-- one more instruction, where the sequence goes on
abbrev pub code_step : Reader Op → Reader Code → Reader Code
code_step op code bs = do
  i ← op bs
  is ← code i.1
  Some (cons i.0 is.0, is.1)

-- Instructions up to an `end` or an `else`, which stays. The first number bounds the turns: more than the count of
-- the bytes is enough.
unfoldable pub code_at : ℕ → ℕ → Reader Code
code_at zero d bs = None
code_at (suc n) d [] = None
code_at (suc n) d (b ∷ bs) =
    if b == 0x0B then Some (nil, b ∷ bs)
    else (if b == 0x05 then Some (nil, b ∷ bs) else code_step (op_at (inner (code_at n) d)) (code_at n d) (b ∷ bs))

-- an expression: instructions and the end
unfoldable pub expr_at : Reader Code
expr_at bs = code_at (suc (length bs)) MAX_DEPTH bs >>= λ c. end_at c.1 >>= λ rest. Some (c.0, rest)
