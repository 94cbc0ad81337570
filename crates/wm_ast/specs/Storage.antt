-- Integers in memory: their bytes, and what loads and stores make of them (4.3.1.3, 4.4.4).
use Rattle.std.specs.Prelude.{ℕ, zero, suc, ◌+◌, ◌*◌, ◌/◌, ◌%◌, List, [], ◌∷◌, Option, option_map}
use Rattle.std.specs.Int.{w8, w16, w32, w64}
use Rattle.mc_nbt.specs.declared.value.Value.{Value}
use Rattle.wm_ast.specs.declared.operation.LoadOp.{LoadOp}
use Rattle.wm_ast.specs.declared.operation.LoadOp.TheVariants.{I32Load, I64Load, I32Load8S, I32Load8U, I32Load16S}
use Rattle.wm_ast.specs.declared.operation.LoadOp.TheVariants.{I32Load16U, I64Load8S, I64Load8U, I64Load16S}
use Rattle.wm_ast.specs.declared.operation.LoadOp.TheVariants.{I64Load16U, I64Load32S, I64Load32U}
use Rattle.wm_ast.specs.declared.operation.StoreOp.{StoreOp}
use Rattle.wm_ast.specs.Integer.{extend_s, extend_u}
use Rattle.wm_ast.specs.Operand.{operand, value_of}
use Rattle.wm_ast.specs.Operation.{load_kind, store_kind, store_width}

-- the low bytes of an integer, as many as are wanted, the lowest first
abbrev pub bytes_of : ℕ → ℕ → List ℕ
bytes_of zero n = []
bytes_of (suc k) n = (n % 256) ∷ bytes_of k (n / 256)

-- the integer that has these bytes, the lowest first
abbrev pub number_of : List ℕ → ℕ
number_of [] = 0
number_of (b ∷ bs) = b + 256 * number_of bs

-- the integer of its type to which a load extends the one that it reads (4.4.4.1)
abbrev pub extension : LoadOp → ℕ → ℕ
extension I32Load n = n
extension I64Load n = n
extension I32Load8S n = extend_s w8 w32 n
extension I32Load8U n = extend_u w8 w32 n
extension I32Load16S n = extend_s w16 w32 n
extension I32Load16U n = extend_u w16 w32 n
extension I64Load8S n = extend_s w8 w64 n
extension I64Load8U n = extend_u w8 w64 n
extension I64Load16S n = extend_s w16 w64 n
extension I64Load16U n = extend_u w16 w64 n
extension I64Load32S n = extend_s w32 w64 n
extension I64Load32U n = extend_u w32 w64 n

-- what a load makes of the bytes that it reads, `load_width` many (4.4.4.1)
abbrev pub loaded : LoadOp → List ℕ → Value
loaded op bytes = value_of (load_kind op) (extension op (number_of bytes))

-- the bytes that a store writes: the low ones of a value of its type (4.4.4.2)
abbrev pub stored : StoreOp → Value → Option (List ℕ)
stored op v = option_map (bytes_of (store_width op)) (operand (store_kind op) v)
