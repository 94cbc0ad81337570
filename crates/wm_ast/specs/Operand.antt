-- Values as integers of their types (4.2.1). An integer of the type iN is a whole number from 0 to below 2^N. A value
-- tells its signed reading.
use Rattle.std.specs.Prelude.{ℕ, Option, Some, None}
use Rattle.std.specs.Int.{Width, w32, w64, cast_signed, cast_unsigned}
use Rattle.mc_nbt.specs.declared.value.Kind.{Kind}
use Rattle.mc_nbt.specs.declared.value.Kind.TheVariants as kinds
use Rattle.mc_nbt.specs.declared.value.Value.{Value}
use Rattle.mc_nbt.specs.declared.value.Value.TheVariants.{I32, I64}

-- how many bits the integers of a type have
abbrev pub width_of : Kind → Width
width_of kinds.I32 = w32
width_of kinds.I64 = w64

-- the integer that a value is
abbrev pub integer_of : Value → ℕ
integer_of (I32 z) = cast_unsigned w32 z
integer_of (I64 z) = cast_unsigned w64 z

-- the value that an integer of a type is
abbrev pub value_of : Kind → ℕ → Value
value_of kinds.I32 i = I32 (cast_signed w32 i)
value_of kinds.I64 i = I64 (cast_signed w64 i)

-- the integer that a value of the wanted type is
abbrev pub operand : Kind → Value → Option ℕ
operand kinds.I32 (I32 z) = Some (integer_of (I32 z))
operand kinds.I32 (I64 z) = None
operand kinds.I64 (I32 z) = None
operand kinds.I64 (I64 z) = Some (integer_of (I64 z))
