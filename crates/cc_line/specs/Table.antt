-- Tables in which routines look numbers up: lists of the values of a function, as plain lists or as lists of rows.
use Rattle.std.specs.Prelude.{ℕ, zero, suc, ◌-◌, ◌*◌, ◌/◌, ◌%◌, ◌^◌, min, List, [], ◌∷◌, ◌++◌, bit_and}
use Rattle.std.specs.Prelude.{count_ones}
use Rattle.std.specs.Int.{w32, cast_signed}
use Rattle.mc_nbt.specs.Tree.{Tree, list_of}
use Rattle.cc_line.specs.declared.table.Table.{Table}
use Rattle.cc_line.specs.declared.table.Table.TheVariants as tables
use Rattle.cc_line.specs.State.{ints}

-- the values of a function at 0, 1, .. , so many of them
unfoldable pub values_below : {A : Type 0} → (ℕ → A) → ℕ → List A
values_below f zero = []
values_below f (suc n) = values_below f n ++ (f n ∷ [])

-- the signed readings of the words of a function, so many of them; and so many rows of so many
abbrev pub words_tree : (ℕ → ℕ) → ℕ → Tree
words_tree f n = ints (values_below (λ i. cast_signed w32 (f i)) n)

abbrev pub rows_tree : (ℕ → ℕ → ℕ) → ℕ → ℕ → Tree
rows_tree f n m = list_of (values_below (λ i. words_tree (f i) m) n)

-- 2^k, k modulo 32
abbrev pub power : ℕ → ℕ
power k = 2 ^ (k % 32)

-- a rotation by k to the left goes by these two: 2^k, and 2^(31 - k) for the bits that come in
abbrev pub rotation_word : ℕ → ℕ → ℕ
rotation_word k zero = power k
rotation_word k (suc j) = power (31 - k)

-- the word of a table in a row and a column; a table of one row has all in the row 0
abbrev pub table_word : Table → ℕ → ℕ → ℕ
table_word tables.LowByte i k = k % 256
table_word tables.HighByte i k = k / 256
table_word tables.ByteAnd i j = bit_and i j
table_word tables.RaisedAnd i j = bit_and i j % 256 * 256
table_word tables.Ones i k = count_ones k
table_word tables.ShiftLeft i k = power k
table_word tables.ShiftRightSigned i k = power (min k 30)
table_word tables.ShiftRight i k = power (k - 1)
table_word tables.RotateLeft k j = rotation_word k j
table_word tables.RotateRight k j = rotation_word ((32 - k) % 32) j

-- the tree of a table: a byte for 16 bits; a number for two bytes; one for each byte; one for each count of a shift;
-- two for each of a rotation
unfoldable pub table_tree : Table → Tree
table_tree tables.LowByte = words_tree (table_word tables.LowByte 0) 65536
table_tree tables.HighByte = words_tree (table_word tables.HighByte 0) 65536
table_tree tables.ByteAnd = rows_tree (table_word tables.ByteAnd) 256 256
table_tree tables.RaisedAnd = rows_tree (table_word tables.RaisedAnd) 256 256
table_tree tables.Ones = words_tree (table_word tables.Ones 0) 256
table_tree tables.ShiftLeft = words_tree (table_word tables.ShiftLeft 0) 32
table_tree tables.ShiftRightSigned = words_tree (table_word tables.ShiftRightSigned 0) 32
table_tree tables.ShiftRight = words_tree (table_word tables.ShiftRight 0) 32
table_tree tables.RotateLeft = rows_tree (table_word tables.RotateLeft) 32 2
table_tree tables.RotateRight = rows_tree (table_word tables.RotateRight) 32 2
