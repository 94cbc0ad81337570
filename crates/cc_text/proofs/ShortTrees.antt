-- The trees that lines lay down are short.
use Rattle.std.proofs.Common.{◌≡◌, ℕ, zero, suc, ◌+◌, ◌-◌, ◌*◌, ◌/◌, ◌%◌, ◌<◌, ◌≤◌, min, List, [], ◌∷◌, length, map, replicate, Bool, true, false, refl, sym, subst, arith, mod-lt}
use Rattle.std.specs.Prelude.{nat_le, ℤ, pos, negsuc, codes, bit_and, count_ones}
use Rattle.std.specs.Int.{w32, cast_signed}
use Rattle.std.specs.Fmt.{signed_decimal}
use Rattle.std.proofs.lemmas.Bool.{le-leb, leb-true, lt-ltb}
use Rattle.std.specs.List.{AllByRecursion}
use Rattle.std.proofs.lemmas.Fmt.{length-decimal-le, length_signed_le}
use Rattle.std.proofs.lemmas.List.{length-map}
use Rattle.std.proofs.lemmas.Nat.{and_le_l, pow_below, ones_le_self}
use Rattle.std.proofs.lemmas.Int.{to_z_pos}
use Rattle.mc_nbt.specs.Tree.{Tree, int, compound, no_fields, list, no_items, list_of, items}
use Rattle.mc_nbt.specs.Spelling.{tree_text, more_items_text}
use Rattle.mc_nbt.specs.Word.{is_int}
use Rattle.mc_cmd.proofs.FormLemmas.{and_both, and_first, and_second}
use Rattle.mc_cmd.proofs.PieceLemmas.{IsPiece, joined, number_piece}
use Rattle.cc_line.specs.State.{ints}
use Rattle.cc_line.specs.Key.{PieceId, body_piece, end_piece, init_piece, shared_piece, id_tree}
use Rattle.cc_line.specs.Key.{group_end, group_init, group_shared}
use Rattle.cc_line.specs.Running.{bare_entry}
use Rattle.cc_line.specs.declared.table.Table.{Table}
use Rattle.cc_line.specs.declared.table.Table.TheVariants as tables
use Rattle.cc_line.specs.Table.{values_below, words_tree, rows_tree, power, rotation_word, table_word, table_tree}
use Rattle.cc_line.proofs.TableLemmas.{Each, each_value, values_long, words_as_list, word_int}
use Rattle.cc_text.proofs.ShortSteps.{wide, word}
use Rattle.cc_text.proofs.ShortItems.{short_piece, piece_short, piece_bare}
use Rattle.cc_text.specs.Short.{tree_bare, tree_short, id_short}

int_is : (n : ℕ) → n < 2147483648 → is_int (pos n) ≡ true
int_is n h = lt-ltb n 2147483648 h

-- ---- lists

-- the text of a tree
abbrev pub TreePiece : ℕ → Tree → Type 0
TreePiece w t = IsPiece w (tree_text t)

module _ (w : ℕ) where
  more_piece : (ts : List Tree) → Each (TreePiece w) ts → IsPiece (1 + length ts * (1 + w)) (more_items_text (items ts))
  more_piece [] e = wide (word (93 ∷ []) refl) (omega arith)
  more_piece (t ∷ ts) e = wide (joined (word (44 ∷ []) refl) (joined e.0 (more_piece ts e.1))) (omega arith)

  pub list_piece : (ts : List Tree) → Each (TreePiece w) ts → TreePiece (2 + length ts * (1 + w)) (list_of ts)
  list_piece [] e = wide (word (91 ∷ (93 ∷ [])) refl) (omega arith)
  list_piece (t ∷ ts) e = wide (joined (word (91 ∷ []) refl) (joined e.0 (more_piece ts e.1))) (omega arith)

-- ---- lists of ints

-- the text of a number
abbrev pub NumberPiece : ℕ → ℤ → Type 0
NumberPiece w z = IsPiece w (signed_decimal z)

each_number : (w : ℕ) (zs : List ℤ) → AllByRecursion (NumberPiece w) zs → Each (TreePiece w) (map int zs)
each_number w [] a = tt
each_number w (z ∷ zs) a = (a.0, each_number w zs a.1)

pub ints_piece : (w : ℕ) (zs : List ℤ) → AllByRecursion (NumberPiece w) zs → TreePiece (2 + length zs * (1 + w)) (ints zs)
ints_piece w zs a = subst (λ n. TreePiece (2 + n * (1 + w)) (ints zs)) (length-map zs int) (list_piece w (map int zs) (each_number w zs a))

-- as long as the table of a br_table may be, with short numbers
pub ints_short : (zs : List ℤ) → AllByRecursion (NumberPiece 7) zs → length zs ≤ 4097 → tree_short (ints zs) ≡ true
ints_short zs a h = piece_short (ints zs) (2 + length zs * 8) (ints_piece 7 zs a) (omega arith)

-- ---- numbers of pieces

-- the index of a cut or of a shared piece, and -1
pub index_piece : (n : ℕ) → n ≤ 1000000 → NumberPiece 7 (pos n)
index_piece n h = record { short = length-decimal-le 7 n (omega arith) (omega arith) (omega arith); bare = (number_piece (pos n) (int_is n (omega arith))).bare }

pub refusal_piece : NumberPiece 7 (negsuc 0)
refusal_piece = wide (record { short = length_signed_le 1 (negsuc 0) (omega arith) (omega arith); bare = (number_piece (negsuc 0) refl).bare }) (omega arith)

-- ---- a list of zeros

zero_piece : TreePiece 1 (int (pos 0))
zero_piece = record { short = length-decimal-le 1 0 (omega arith) (omega arith) (omega arith); bare = (number_piece (pos 0) refl).bare }

each_zero : (n : ℕ) → Each (TreePiece 1) (map int (replicate n (pos 0)))
each_zero zero = tt
each_zero (suc n) = (zero_piece, each_zero n)

zeros_long : (n : ℕ) → length (map int (replicate n (pos 0))) ≡ n
zeros_long zero = refl
zeros_long (suc n) = let e : length (map int (replicate n (pos 0))) ≡ n = zeros_long n in let r : suc (length (map int (replicate n (pos 0)))) ≡ suc n = omega arith in r

zeros_piece : (n : ℕ) → TreePiece (2 + n * 2) (ints (replicate n (pos 0)))
zeros_piece n =
    let e : length (map int (replicate n (pos 0))) ≡ n = zeros_long n in
    wide (list_piece 1 (map int (replicate n (pos 0))) (each_zero n)) (omega arith)

pub zeros_short : (n : ℕ) → n ≤ 16384 → tree_short (ints (replicate n (pos 0))) ≡ true
zeros_short n h = piece_short (ints (replicate n (pos 0))) (2 + n * 2) (zeros_piece n) (omega arith)

-- ---- names of pieces

-- the text of a piece's name
abbrev NamePiece : PieceId → Type 0
NamePiece i = TreePiece 60 (id_tree i)

named : (i : PieceId) → NamePiece i → id_short i ≡ true
unfolding id_short
named i p = and_both _ _ (le-leb (length (tree_text (id_tree i))) 60 p.short) p.bare

name_piece : (i : PieceId) → id_short i ≡ true → NamePiece i
unfolding id_short
name_piece i h = record {
  short = leb-true (length (tree_text (id_tree i))) 60 (and_first _ _ h);
  bare = and_second (nat_le (length (tree_text (id_tree i))) 60) _ h;
}

-- where its numbers are ints
pub body_named : (f j : ℕ) → f < 2147483648 → j < 2147483648 → id_short (body_piece f j) ≡ true
body_named f j h k =
    named (body_piece f j)
    (wide (joined (word (codes "{i:") refl) (joined (number_piece (pos f) (int_is f h)) (joined (word (codes ",j:") refl) (joined (number_piece (pos j) (int_is j k)) (word (codes "}") refl))))) (omega arith))

pub shared_named : (j : ℕ) → j < 2147483648 → id_short (shared_piece j) ≡ true
shared_named j k =
    named (shared_piece j)
    (wide (joined (word (codes "{i:") refl) (joined (number_piece (pos group_shared) refl) (joined (word (codes ",j:") refl) (joined (number_piece (pos j) (int_is j k)) (word (codes "}") refl))))) (omega arith))

init_named : (j : ℕ) → j < 2147483648 → id_short (init_piece j) ≡ true
init_named j k =
    named (init_piece j)
    (wide (joined (word (codes "{i:") refl) (joined (number_piece (pos group_init) refl) (joined (word (codes ",j:") refl) (joined (number_piece (pos j) (int_is j k)) (word (codes "}") refl))))) (omega arith))

pub end_named : (w : ℕ) → w < 2147483648 → id_short (end_piece w) ≡ true
end_named w k =
    named (end_piece w)
    (wide (joined (word (codes "{e:") refl) (joined (number_piece (pos 1) refl) (joined (word (codes ",i:") refl) (joined (number_piece (pos group_end) refl) (joined (word (codes ",j:") refl) (joined (number_piece (pos w) (int_is w k)) (word (codes "}") refl))))))) (omega arith))

pub name_short : (i : PieceId) → id_short i ≡ true → tree_short (id_tree i) ≡ true
name_short i h = piece_short (id_tree i) 60 (name_piece i h) (omega arith)

pub body_short : (f j : ℕ) → f < 2147483648 → j < 2147483648 → tree_short (id_tree (body_piece f j)) ≡ true
body_short f j h k = name_short (body_piece f j) (body_named f j h k)

pub shared_short : (j : ℕ) → j < 2147483648 → tree_short (id_tree (shared_piece j)) ≡ true
shared_short j k = name_short (shared_piece j) (shared_named j k)

pub init_short : (j : ℕ) → j < 2147483648 → tree_short (id_tree (init_piece j)) ≡ true
init_short j k = name_short (init_piece j) (init_named j k)

pub end_short : (w : ℕ) → w < 2147483648 → tree_short (id_tree (end_piece w)) ≡ true
end_short w k = name_short (end_piece w) (end_named w k)

-- a frame's entry, before its places are put in
pub entry_short : (i : PieceId) (z : ℕ) → id_short i ≡ true → z < 2147483648 → tree_short (bare_entry i z) ≡ true
entry_short i z p h =
    piece_short (bare_entry i z) 100
    (wide (joined (word (codes "{p:") refl) (joined (name_piece i p) (joined (word (codes ",z:") refl) (joined (number_piece (pos z) (int_is z h)) (word (codes "}") refl))))) (omega arith))
    (omega arith)

pub no_fields_short : tree_short (compound no_fields) ≡ true
no_fields_short = piece_short (compound no_fields) 2 (word (codes "{}") refl) (omega arith)

pub no_items_short : tree_short (list no_items) ≡ true
no_items_short = piece_short (list no_items) 2 (word (codes "[]") refl) (omega arith)

pub int_short : (n : ℕ) → n < 2147483648 → tree_short (int (pos n)) ≡ true
int_short n h = piece_short (int (pos n)) 11 (number_piece (pos n) (int_is n h)) (omega arith)

-- ---- tables

words_piece : (w : ℕ) (f : ℕ → ℕ) (n : ℕ) → ((i : ℕ) → i < n → IsPiece w (signed_decimal (cast_signed w32 (f i)))) → TreePiece (2 + n * (1 + w)) (words_tree f n)
words_piece w f n h =
    subst (TreePiece (2 + n * (1 + w))) (sym (words_as_list f n))
    (subst (λ m. TreePiece (2 + m * (1 + w)) (list_of (values_below (λ i. int (cast_signed w32 (f i))) n))) (values_long (λ i. int (cast_signed w32 (f i))) n)
    (list_piece w (values_below (λ i. int (cast_signed w32 (f i))) n) (each_value (TreePiece w) (λ i. int (cast_signed w32 (f i))) n h)))

rows_piece : (w : ℕ) (f : ℕ → ℕ → ℕ) (n m : ℕ) → ((i j : ℕ) → i < n → j < m → IsPiece w (signed_decimal (cast_signed w32 (f i j)))) → TreePiece (2 + n * (1 + (2 + m * (1 + w)))) (rows_tree f n m)
rows_piece w f n m h =
    subst (λ k. TreePiece (2 + k * (1 + (2 + m * (1 + w)))) (rows_tree f n m)) (values_long (λ i. words_tree (f i) m) n)
    (list_piece (2 + m * (1 + w)) (values_below (λ i. words_tree (f i) m) n) (each_value (TreePiece (2 + m * (1 + w))) (λ i. words_tree (f i) m) n (λ i l. words_piece w (f i) m (λ j g. h i j l g))))

-- a word
word_piece : (m : ℕ) → m < 4294967296 → IsPiece 11 (signed_decimal (cast_signed w32 m))
word_piece m h = number_piece (cast_signed w32 m) (word_int m h)

power_word : (k : ℕ) → power k < 4294967296
power_word k = pow_below (k % 32) 32 (mod-lt k (omega arith))

rotation_is_word : (k j : ℕ) → rotation_word k j < 4294967296
rotation_is_word k zero = power_word k
rotation_is_word k (suc j) = power_word (31 - k)

ones_word : (i : ℕ) → i < 256 → count_ones i < 4294967296
ones_word i h = omega (arith, ones_le_self i)

half_piece : (m : ℕ) → m < 65536 → IsPiece 5 (signed_decimal (cast_signed w32 m))
half_piece m h =
    let e : cast_signed w32 m ≡ pos m = to_z_pos w32 m (omega arith) in
    subst (λ z. IsPiece 5 (signed_decimal z)) (sym e) (record { short = length-decimal-le 5 m (omega arith) (omega arith) (omega arith); bare = (number_piece (pos m) (int_is m (omega arith))).bare })

-- the standing tables of bytes are longer
abbrev pub is_long_table : Table → Bool
is_long_table tables.LowByte = true
is_long_table tables.HighByte = true
is_long_table tables.ByteAnd = true
is_long_table tables.RaisedAnd = true
is_long_table _ = false

pub table_short : (t : Table) → is_long_table t ≡ false → tree_short (table_tree t) ≡ true
unfolding table_tree
table_short tables.Ones l = piece_short _ _ (words_piece 11 (table_word tables.Ones 0) 256 (λ i h. word_piece (count_ones i) (ones_word i h))) (omega arith)
table_short tables.ShiftLeft l = piece_short _ _ (words_piece 11 (table_word tables.ShiftLeft 0) 32 (λ i h. word_piece (power i) (power_word i))) (omega arith)
table_short tables.ShiftRightSigned l = piece_short _ _ (words_piece 11 (table_word tables.ShiftRightSigned 0) 32 (λ i h. word_piece (power (min i 30)) (power_word (min i 30)))) (omega arith)
table_short tables.ShiftRight l = piece_short _ _ (words_piece 11 (table_word tables.ShiftRight 0) 32 (λ i h. word_piece (power (i - 1)) (power_word (i - 1)))) (omega arith)
table_short tables.RotateLeft l = piece_short _ _ (rows_piece 11 (table_word tables.RotateLeft) 32 2 (λ i j h g. word_piece (rotation_word i j) (rotation_is_word i j))) (omega arith)
table_short tables.RotateRight l = piece_short _ _ (rows_piece 11 (table_word tables.RotateRight) 32 2 (λ i j h g. word_piece (rotation_word ((32 - i) % 32) j) (rotation_is_word ((32 - i) % 32) j))) (omega arith)
table_short _ l = absurd cc

long_piece : (t : Table) → is_long_table t ≡ true → TreePiece 400000 (table_tree t)
unfolding table_tree
long_piece tables.LowByte l = wide (words_piece 5 (table_word tables.LowByte 0) 65536 (λ i h. half_piece (i % 256) (let m : i % 256 < 256 = mod-lt i (omega arith) in omega arith))) (omega arith)
long_piece tables.HighByte l = wide (words_piece 5 (table_word tables.HighByte 0) 65536 (λ i h. half_piece (i / 256) (omega arith))) (omega arith)
long_piece tables.ByteAnd l = wide (rows_piece 5 bit_and 256 256 (λ i j h g. half_piece (bit_and i j) (omega (arith, and_le_l i j)))) (omega arith)
long_piece tables.RaisedAnd l = wide (rows_piece 5 (table_word tables.RaisedAnd) 256 256 (λ i j h g. half_piece (bit_and i j % 256 * 256) (let m : bit_and i j % 256 < 256 = mod-lt (bit_and i j) (omega arith) in omega arith))) (omega arith)
long_piece _ l = absurd cc

-- no table is longer than this
pub table_piece : (t : Table) → TreePiece 400000 (table_tree t)
table_piece t = go (is_long_table t) refl
  where
    go : (b : Bool) → is_long_table t ≡ b → TreePiece 400000 (table_tree t)
    go true l = long_piece t l
    go false l = wide (short_piece (table_tree t) (table_short t l)) (omega arith)

pub table_bare : (t : Table) → tree_bare (table_tree t) ≡ true
table_bare t = piece_bare (table_tree t) 400000 (table_piece t)
