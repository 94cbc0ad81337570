-- The words of command lines.
use Rattle.std.specs.Prelude.{ℕ, ◌^◌, ℤ, pos, negsuc, [], ◌∷◌, ◌++◌, Bool, true, false, ◌&&◌, ◌||◌, nat_eq, nat_lt}
use Rattle.std.specs.Prelude.{nat_le, if◌then◌else◌, Option, Some, None, option_map, codes}
use Rattle.std.specs.List.{list_all}
use Rattle.std.specs.Fmt.{signed_decimal}
use Rattle.std.specs.Str.Parse.{signed_digits_value}
use Rattle.mc_nbt.specs.Word.{is_name_byte, is_within, is_int}
use Rattle.mc_cmd.specs.Form.{Text, Last, word, guessed, cut_at}
use Rattle.mc_cmd.specs.Command.{Op, assign, add, subtract, multiply, divide, remainder, lower, raise, swap, Cmp, less}
use Rattle.mc_cmd.specs.Command.{less_equal, equal, greater_equal, greater, Range, exactly, from, up_to, between}

-- a letter, a digit, `_` or `.`
abbrev pub is_holder_byte : ℕ → Bool
is_holder_byte b = is_name_byte b || nat_eq b 46

-- a small letter, a digit or `_`
abbrev pub is_small_byte : ℕ → Bool
is_small_byte b = (nat_le 48 b && nat_le b 57) || (nat_le 97 b && nat_le b 122) || nat_eq b 95

-- an objective: 1 to 16 letters, digits, `_`
unfoldable pub is_objective : Text → Bool
is_objective w = list_all is_name_byte w && is_within 1 16 w

abbrev pub is_holder_rest : Text → Bool
is_holder_rest w = list_all is_holder_byte w && is_within 1 40 w

abbrev pub is_holder_text : Text → Bool
is_holder_text [] = false
is_holder_text (b ∷ w) = if nat_eq b 35 then is_holder_rest w else is_holder_rest (b ∷ w)

-- a score's holder: optionally `#`, then 1 to 40 letters, digits, `_`, `.`
unfoldable pub is_holder : Text → Bool
is_holder w = is_holder_text w

-- a namespace: 1 to 16 small letters, digits, `_`
unfoldable pub is_namespace : Text → Bool
is_namespace w = list_all is_small_byte w && is_within 1 16 w

abbrev pub is_id_name : Text → Bool
is_id_name w = list_all is_small_byte w && is_within 1 32 w

abbrev pub is_id_cut : Option (Text × Text) → Bool
is_id_cut None = false
is_id_cut (Some p) = is_namespace p.0 && is_id_name p.1

-- a storage's name: a namespace, `:` and 1 to 32 small letters, digits, `_`
unfoldable pub is_id : Text → Bool
is_id w = is_id_cut (cut_at 58 w)

abbrev pub is_function_name : Text → Bool
is_function_name w = list_all is_small_byte w && is_within 1 64 w

abbrev pub is_function_cut : Option (Text × Text) → Bool
is_function_cut None = false
is_function_cut (Some p) = is_namespace p.0 && is_function_name p.1

-- a function's name: a namespace, `:` and 1 to 64 small letters, digits, `_`
unfoldable pub is_function : Text → Bool
is_function w = is_function_cut (cut_at 58 w)

abbrev pub objective : Last Text
objective = word is_objective

abbrev pub holder : Last Text
holder = word is_holder

abbrev pub id : Last Text
id = word is_id

abbrev pub function : Last Text
function = word is_function

-- a number from -2147483648 to 2147483647 in decimal, in its one spelling
unfoldable pub int_value : Text → ℤ
int_value w = signed_digits_value 10 w

abbrev pub number : Last ℤ
number = guessed signed_decimal is_int int_value

-- the same from 0 up
abbrev pub is_natural : ℤ → Bool
is_natural (pos n) = nat_lt n (2 ^ 31)
is_natural (negsuc n) = false

abbrev pub natural : Last ℤ
natural = guessed signed_decimal is_natural int_value

-- the operations
abbrev pub op_text : Op → Text
op_text assign = codes "="
op_text add = codes "+="
op_text subtract = codes "-="
op_text multiply = codes "*="
op_text divide = codes "/="
op_text remainder = codes "%="
op_text lower = codes "<"
op_text raise = codes ">"
op_text swap = codes "><"

abbrev pub any_op : Op → Bool
any_op o = true

abbrev pub op_by : ℕ → Op
op_by b =
    if nat_eq b 61 then assign
    else if nat_eq b 43 then add
    else if nat_eq b 45 then subtract
    else if nat_eq b 42 then multiply
    else if nat_eq b 47 then divide
    else if nat_eq b 37 then remainder
    else if nat_eq b 60 then lower
    else raise

abbrev pub op_value : Text → Op
op_value [] = assign
op_value (b ∷ []) = op_by b
op_value (b ∷ c ∷ w) = if nat_eq b 62 then swap else op_by b

abbrev pub op : Last Op
op = guessed op_text any_op op_value

-- the comparisons
abbrev pub cmp_text : Cmp → Text
cmp_text less = codes "<"
cmp_text less_equal = codes "<="
cmp_text equal = codes "="
cmp_text greater_equal = codes ">="
cmp_text greater = codes ">"

abbrev pub any_cmp : Cmp → Bool
any_cmp c = true

abbrev pub cmp_value : Text → Cmp
cmp_value [] = equal
cmp_value (b ∷ []) = if nat_eq b 60 then less else if nat_eq b 62 then greater else equal
cmp_value (b ∷ c ∷ w) = if nat_eq b 60 then less_equal else greater_equal

abbrev pub cmp : Last Cmp
cmp = guessed cmp_text any_cmp cmp_value

-- the ranges
abbrev pub is_at_most : ℤ → ℤ → Bool
is_at_most (pos a) (pos b) = nat_le a b
is_at_most (pos a) (negsuc b) = false
is_at_most (negsuc a) (pos b) = true
is_at_most (negsuc a) (negsuc b) = nat_le b a

abbrev pub range_text : Range → Text
range_text (exactly n) = signed_decimal n
range_text (from n) = signed_decimal n ++ codes ".."
range_text (up_to n) = codes ".." ++ signed_decimal n
range_text (between n m) = signed_decimal n ++ (codes ".." ++ signed_decimal m)

abbrev pub range_fits : Range → Bool
range_fits (exactly n) = is_int n
range_fits (from n) = is_int n
range_fits (up_to n) = is_int n
range_fits (between n m) = is_int n && (is_int m && is_at_most n m)

-- the bytes before the first dot, and those behind the one after it
abbrev pub dots_here : Bool → ℕ → Text → Option (Text × Text) → Option (Text × Text)
dots_here true b [] o = None
dots_here true b (c ∷ t) o = Some ([], t)
dots_here false b t o = option_map (λ p. (b ∷ p.0, p.1)) o

abbrev pub cut_at_dots : Text → Option (Text × Text)
cut_at_dots [] = None
cut_at_dots (b ∷ t) = dots_here (nat_eq b 46) b t (cut_at_dots t)

abbrev pub range_by : Text → Text → Range
range_by a [] = from (int_value a)
range_by [] (c ∷ b) = up_to (int_value (c ∷ b))
range_by (d ∷ a) (c ∷ b) = between (int_value (d ∷ a)) (int_value (c ∷ b))

abbrev pub range_in : Text → Option (Text × Text) → Range
range_in w None = exactly (int_value w)
range_in w (Some p) = range_by p.0 p.1

abbrev pub range_value : Text → Range
range_value w = range_in w (cut_at_dots w)

abbrev pub range : Last Range
range = guessed range_text range_fits range_value
