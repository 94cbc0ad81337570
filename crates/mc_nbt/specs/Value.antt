-- Values of WebAssembly's integers.
use Rattle.std.specs.Prelude.{Bool}
use Rattle.mc_nbt.specs.Word.{is_int, is_long}
use Rattle.mc_nbt.specs.declared.value.Kind.{Kind}
use Rattle.mc_nbt.specs.declared.value.Kind.TheVariants as kind
use Rattle.mc_nbt.specs.declared.value.Value.{Value}
use Rattle.mc_nbt.specs.declared.value.Value.TheVariants as value

-- the kind of a value (WebAssembly Core Specification 1.0, 4.2.1)
abbrev pub kind_of : Value → Kind
kind_of (value.I32 n) = kind.I32
kind_of (value.I64 n) = kind.I64

-- whether its number lies in the signed range of its kind: from -2^31 to 2^31 - 1, or from -2^63 to 2^63 - 1
abbrev pub is_value : Value → Bool
is_value (value.I32 n) = is_int n
is_value (value.I64 n) = is_long n
