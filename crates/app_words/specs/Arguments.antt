-- The values that the numbers of a call stand for, and the export that a name means.
use Rattle.std.specs.Prelude.{ℕ, ◌^◌, ℤ, pos, negsuc, List, [], ◌∷◌, Bool, nat_lt, if◌then◌else◌}
use Rattle.std.specs.Prelude.{Option, Some, None, option_map, slice_get, position}
use Rattle.std.specs.Str.{bytes_eq}
use Rattle.std.specs.Int.{Width, w32, w64, int_wrap}
use Rattle.mc_nbt.specs.declared.value.Kind.{Kind}
use Rattle.mc_nbt.specs.declared.value.Kind.TheVariants as kind
use Rattle.mc_nbt.specs.declared.value.Value.{Value}
use Rattle.mc_nbt.specs.declared.value.Value.TheVariants as value
use Rattle.mc_cmd.specs.Form.{Text}
use Rattle.mc_cmd.specs.Pack.{ExportType}

-- whether a number lies from -2^(N-1) to 2^N - 1, by 2^(N-1) and 2^N
abbrev pub is_within : ℕ → ℕ → ℤ → Bool
is_within half whole (pos n) = nat_lt n whole
is_within half whole (negsuc n) = nat_lt n half

-- a number of N bits where it lies so, taken modulo 2^N as a signed one
abbrev pub wrapped_within : Width → ℕ → ℕ → ℤ → Option ℤ
wrapped_within w half whole z = if is_within half whole z then Some (int_wrap w z) else None

-- the value of a kind that a number stands for: a parameter of N bits takes the numbers from -2^(N-1) to 2^N - 1,
-- modulo 2^N
abbrev pub value_of_arg : Kind → ℤ → Option Value
value_of_arg kind.I32 z = option_map (λ n. value.I32 n) (wrapped_within w32 (2 ^ 31) (2 ^ 32) z)
value_of_arg kind.I64 z = option_map (λ n. value.I64 n) (wrapped_within w64 (2 ^ 63) (2 ^ 64) z)

abbrev pub value_before : Option Value → Option (List Value) → Option (List Value)
value_before (Some v) (Some vs) = Some (v ∷ vs)
value_before o p = None

-- the values of these kinds that the numbers stand for, where there are as many and each lies in its range
abbrev pub values_of_args : List Kind → List ℤ → Option (List Value)
values_of_args [] [] = Some []
values_of_args [] (z ∷ zs) = None
values_of_args (k ∷ ks) [] = None
values_of_args (k ∷ ks) (z ∷ zs) = value_before (value_of_arg k z) (values_of_args ks zs)

-- the place of the first export of a name, and its type
abbrev pub export_at : List ExportType → Option ℕ → Option (ℕ × ExportType)
export_at exports None = None
export_at exports (Some k) = option_map (λ e. (k, e)) (slice_get exports k)

abbrev pub export_named : Text → List ExportType → Option (ℕ × ExportType)
export_named name exports = export_at exports (position (λ e. bytes_eq e.name name) exports)
