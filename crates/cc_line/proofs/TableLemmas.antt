-- Tables: what stands at their places, and that they may stand in a storage.
use Rattle.std.proofs.Common.{◌≡◌, ℕ, zero, suc, ◌+◌, ◌-◌, ◌*◌, ◌/◌, ◌%◌, ◌<◌, ◌≤◌, min, List, [], ◌∷◌, ◌++◌, length, map, Some, None, true, refl, sym, ap, ◌∙◌, subst, arith, ⊎_elim, mod-lt, mod-eq_of_lt, add-one}
use Rattle.std.specs.Prelude.{ℤ, pos, negsuc, if◌then◌else◌, nat_eq, option_and_then, slice_get, bit_and, count_ones}
use Rattle.std.specs.Int.{w32, cast_signed}
use Rattle.std.proofs.Math.ListN.{length-append}
use Rattle.std.proofs.lemmas.Bool.{cases_lt, le-leb, lt-ltb, le-ltb}
use Rattle.std.proofs.lemmas.Nat.{and_le_l, pow_below, ones_le_self}
use Rattle.std.proofs.lemmas.Int.{to_z_pos}
use Rattle.std.proofs.lemmas.Fmt.{length-decimal-le}
use Rattle.std.proofs.lemmas.List.{map-append}
use Rattle.mc_nbt.specs.Tree.{Tree, int, list_of, items, kind, depth, items_depth, index_of, item_at, Part, place, select}
use Rattle.mc_nbt.specs.Shape.{all_of_kind, is_one_kind, is_shaped, items_shaped}
use Rattle.mc_nbt.specs.Spelling.{tree_text, more_items_text}
use Rattle.mc_nbt.specs.Word.{is_int}
use Rattle.mc_nbt.proofs.TreeLemmas.{of_items-items}
use Rattle.mc_cmd.proofs.FormLemmas.{and_both, and_second}
use Rattle.cc_line.specs.State.{within_key}
use Rattle.cc_line.specs.Fit.{tree_fits}
use Rattle.cc_line.specs.declared.table.Table.{Table}
use Rattle.cc_line.specs.declared.table.Table.TheVariants as tables
use Rattle.cc_line.specs.Table.{values_below, words_tree, rows_tree, power, rotation_word, table_word, table_tree}
use Rattle.cc_line.proofs.FitLemmas.{Clean, word, joined, wide, number_clean}

-- ---- the values of a function

pub values_none : {A : Type 0} (f : ℕ → A) → values_below f 0 ≡ []
unfolding values_below
values_none f = refl

pub values_next : {A : Type 0} (f : ℕ → A) (n : ℕ) → values_below f (suc n) ≡ values_below f n ++ (f n ∷ [])
unfolding values_below
values_next f n = refl

-- one more value behind those that are there
pub values_pushed : {A B : Type 0} (g : A → B) (f : ℕ → B) (n : ℕ) (xs ys : List A) (x : A) → map g xs ≡ values_below f n → ys ≡ xs ++ (x ∷ []) → g x ≡ f n → map g ys ≡ values_below f (n + 1)
values_pushed g f n xs ys x e k h = ap (map g) k ∙ map-append g xs (x ∷ []) ∙ ap (λ l. l ++ (g x ∷ [])) e ∙ ap (λ y. values_below f n ++ (y ∷ [])) h ∙ sym (values_next f n) ∙ ap (values_below f) (sym (add-one n))

same_map : {A : Type 0} (xs : List A) → map (λ x. x) xs ≡ xs
same_map [] = refl
same_map (x ∷ xs) = ap (λ l. x ∷ l) (same_map xs)

pub values_put : {A : Type 0} (f : ℕ → A) (n : ℕ) (xs ys : List A) (x : A) → xs ≡ values_below f n → ys ≡ xs ++ (x ∷ []) → x ≡ f n → ys ≡ values_below f (n + 1)
values_put f n xs ys x e k h = sym (same_map ys) ∙ values_pushed (λ y. y) f n xs ys x (same_map xs ∙ e) k h

pub values_long : {A : Type 0} (f : ℕ → A) (n : ℕ) → length (values_below f n) ≡ n
unfolding values_below
values_long f zero = refl
values_long f (suc n) = let i = values_long f n in let e = length-append (values_below f n) (f n ∷ []) in omega arith

got_before : {A : Type 0} (xs : List A) (x : A) (i : ℕ) → i < length xs → slice_get (xs ++ (x ∷ [])) i ≡ slice_get xs i
got_before [] x i h = absurd (omega arith)
got_before (y ∷ xs) x zero h = refl
got_before (y ∷ xs) x (suc i) h = got_before xs x i (omega arith)

got_last : {A : Type 0} (xs : List A) (x : A) → slice_get (xs ++ (x ∷ [])) (length xs) ≡ Some x
got_last [] x = refl
got_last (y ∷ xs) x = got_last xs x

pub value_got : {A : Type 0} (f : ℕ → A) (n i : ℕ) → i < n → slice_get (values_below f n) i ≡ Some (f i)
unfolding values_below
value_got f zero i h = absurd (omega arith)
value_got f (suc n) i h =
    let long = values_long f n in
    ⊎_elim
    (λ l. got_before (values_below f n) (f n) i (let x : i < length (values_below f n) = omega arith in x) ∙ value_got f n i l)
    (λ g. let e : i ≡ length (values_below f n) = omega arith in let e' : n ≡ i = omega arith in
    ap (slice_get (values_below f n ++ (f n ∷ []))) e ∙ got_last (values_below f n) (f n) ∙ ap (λ j. Some (f j)) e')
    (cases_lt i n)

-- what each of them is
abbrev pub Each : {A : Type 0} → (A → Type 0) → List A → Type 0
Each P [] = Unit {0}
Each P (x ∷ xs) = P x × Each P xs

each_append : {A : Type 0} (P : A → Type 0) (xs : List A) (x : A) → Each P xs → P x → Each P (xs ++ (x ∷ []))
each_append P [] x e p = (p, tt)
each_append P (y ∷ xs) x e p = (e.0, each_append P xs x e.1 p)

pub each_value : {A : Type 0} (P : A → Type 0) (f : ℕ → A) (n : ℕ) → ((i : ℕ) → i < n → P (f i)) → Each P (values_below f n)
unfolding values_below
each_value P f zero h = tt
each_value P f (suc n) h = each_append P (values_below f n) (f n) (each_value P f n (λ i l. h i (omega arith))) (h n (omega arith))

-- ---- what stands in a list at a place, counted from the front or from the end

-- the index of a place in a list of so many
abbrev pub index_in : ℕ → ℤ → ℕ
index_in n (pos i) = i
index_in n (negsuc k) = n - suc k

abbrev pub IsPlace : ℕ → ℤ → Type 0
IsPlace n (pos i) = i < n
IsPlace n (negsuc k) = k < n

index_is : (n : ℕ) (z : ℤ) → IsPlace n z → (index_of n z ≡ Some (index_in n z)) × (index_in n z < n)
index_is n (pos i) h = (ap (λ b. if b then Some i else None) (lt-ltb i n h), h)
index_is n (negsuc k) h = (ap (λ b. if b then Some (n - suc k) else None) (lt-ltb k n h), omega arith)

pub listed : (f : ℕ → Tree) (n : ℕ) (z : ℤ) (ps : List Part) → IsPlace n z → select (list_of (values_below f n)) (place z ∷ ps) ≡ select (f (index_in n z)) ps
listed f n z ps h =
    let i = index_is n z h in
    ap (λ ts. option_and_then (λ u. select u ps) (item_at ts z)) (of_items-items (values_below f n))
    ∙ ap (λ m. option_and_then (λ u. select u ps) (option_and_then (slice_get (values_below f n)) (index_of m z))) (values_long f n)
    ∙ ap (λ o. option_and_then (λ u. select u ps) (option_and_then (slice_get (values_below f n)) o)) i.0
    ∙ ap (option_and_then (λ u. select u ps)) (value_got f n (index_in n z) i.1)

-- numbers as trees
mapped_append : (xs : List ℤ) (x : ℤ) → map int (xs ++ (x ∷ [])) ≡ map int xs ++ (int x ∷ [])
mapped_append [] x = refl
mapped_append (y ∷ xs) x = ap (λ l. int y ∷ l) (mapped_append xs x)

pub mapped_values : (f : ℕ → ℤ) (n : ℕ) → map int (values_below f n) ≡ values_below (λ i. int (f i)) n
unfolding values_below
mapped_values f zero = refl
mapped_values f (suc n) = mapped_append (values_below f n) (f n) ∙ ap (λ l. l ++ (int (f n) ∷ [])) (mapped_values f n)

pub words_as_list : (f : ℕ → ℕ) (n : ℕ) → words_tree f n ≡ list_of (values_below (λ i. int (cast_signed w32 (f i))) n)
words_as_list f n = ap list_of (mapped_values (λ i. cast_signed w32 (f i)) n)

pub word_listed : (f : ℕ → ℕ) (n : ℕ) (z : ℤ) → IsPlace n z → select (words_tree f n) (place z ∷ []) ≡ Some (int (cast_signed w32 (f (index_in n z))))
word_listed f n z h = ap (λ t. select t (place z ∷ [])) (words_as_list f n) ∙ listed (λ i. int (cast_signed w32 (f i))) n z [] h

pub row_listed : (f : ℕ → ℕ → ℕ) (n m : ℕ) (y z : ℤ) → IsPlace n y → IsPlace m z
    → select (rows_tree f n m) (place y ∷ (place z ∷ [])) ≡ Some (int (cast_signed w32 (f (index_in n y) (index_in m z))))
row_listed f n m y z h g = listed (λ i. words_tree (f i) m) n y (place z ∷ []) h ∙ word_listed (f (index_in n y)) m z g

-- ---- that a list may stand in a storage

-- a tree of a kind that may stand within others: so deep, and its text so long
pub record Plain (k d w : ℕ) (t : Tree) : Type 0 where
  pub shaped : is_shaped t ≡ true
  pub kinds : kind t ≡ k
  pub deep : depth t ≤ d
  pub text : Clean w (tree_text t)

pub int_plain : (z : ℤ) → is_int z ≡ true → Plain 0 1 11 (int z)
int_plain z h = record { shaped = h; kinds = refl; deep = omega arith; text = number_clean z h }

module _ (k d w : ℕ) where
  items_plain : (ts : List Tree) → Each (Plain k d w) ts → (items_shaped (items ts) ≡ true) × (all_of_kind k ts ≡ true) × (items_depth (items ts) ≤ d) × Clean (1 + length ts * (1 + w)) (more_items_text (items ts))
  items_plain [] e = (refl, refl, omega arith, wide (word (93 ∷ []) refl) (omega arith))
  items_plain (t ∷ ts) e =
      let r = items_plain ts e.1 in
      let p = e.0 in (
        and_both _ _ p.shaped r.0,
        and_both _ _ (ap (nat_eq k) p.kinds ∙ same k) r.1,
        (let x = p.deep in let y = r.2 in omega arith),
        wide (joined (word (44 ∷ []) refl) (joined p.text r.3)) (omega arith),
      )
    where
      same : (n : ℕ) → nat_eq n n ≡ true
      same n = grind arith

  one_kind : (ts : List Tree) → Each (Plain k d w) ts → all_of_kind k ts ≡ true → is_one_kind ts ≡ true
  one_kind [] e h = refl
  one_kind (t ∷ ts) e h = ap (λ n. all_of_kind n ts) e.0.kinds ∙ and_second (nat_eq k (kind t)) (all_of_kind k ts) h

  list_text : (ts : List Tree) → Each (Plain k d w) ts → Clean (2 + length ts * (1 + w)) (tree_text (list_of ts))
  list_text [] e = wide (word (91 ∷ (93 ∷ [])) refl) (omega arith)
  list_text (t ∷ ts) e = wide (joined (word (91 ∷ []) refl) (joined e.0.text (items_plain ts e.1).3)) (omega arith)

  pub list_plain : (ts : List Tree) → Each (Plain k d w) ts → Plain 2 (1 + d) (2 + length ts * (1 + w)) (list_of ts)
  list_plain ts e =
      let r = items_plain ts e in
      record {
        shaped = and_both _ _ r.0 (ap is_one_kind (of_items-items ts) ∙ one_kind ts e r.1);
        kinds = refl;
        deep = (let x = r.2 in omega arith);
        text = list_text ts e;
      }

pub plain_fits : (k d w : ℕ) (t : Tree) → Plain k d w t → d ≤ 63 → w ≤ 400000 → (tree_fits t ≡ true) × (within_key t ≡ Some t)
plain_fits k d w t p h g =
    let x = p.deep in
    let y = p.text.short in (
      and_both _ _ (and_both _ _ p.shaped (le-leb (depth t) 64 (omega arith))) (and_both _ _ (le-leb (length (tree_text t)) 400000 (omega arith)) p.text.bare),
      ap (λ b. if b then Some t else None) (le-leb (depth t) 63 (omega arith)),
    )

-- numbers of which each has so many bytes at most
words_of : (w : ℕ) (f : ℕ → ℕ) (n : ℕ) → ((i : ℕ) → i < n → Plain 0 1 w (int (cast_signed w32 (f i)))) → Plain 2 2 (2 + n * (1 + w)) (words_tree f n)
words_of w f n h =
    subst (Plain 2 2 (2 + n * (1 + w))) (sym (words_as_list f n))
    (subst (λ m. Plain 2 2 (2 + m * (1 + w)) (list_of (values_below (λ i. int (cast_signed w32 (f i))) n))) (values_long (λ i. int (cast_signed w32 (f i))) n)
    (list_plain 0 1 w (values_below (λ i. int (cast_signed w32 (f i))) n) (each_value (Plain 0 1 w) (λ i. int (cast_signed w32 (f i))) n h)))

rows_of : (w : ℕ) (f : ℕ → ℕ → ℕ) (n m : ℕ) → ((i j : ℕ) → i < n → j < m → Plain 0 1 w (int (cast_signed w32 (f i j)))) → Plain 2 3 (2 + n * (1 + (2 + m * (1 + w)))) (rows_tree f n m)
rows_of w f n m h =
    subst (λ k. Plain 2 3 (2 + k * (1 + (2 + m * (1 + w)))) (rows_tree f n m)) (values_long (λ i. words_tree (f i) m) n)
    (list_plain 2 2 (2 + m * (1 + w)) (values_below (λ i. words_tree (f i) m) n) (each_value (Plain 2 2 (2 + m * (1 + w))) (λ i. words_tree (f i) m) n (λ i l. words_of w (f i) m (λ j g. h i j l g))))

words_plain : (f : ℕ → ℕ) (n : ℕ) → ((i : ℕ) → i < n → is_int (cast_signed w32 (f i)) ≡ true) → Plain 2 2 (2 + n * 12) (words_tree f n)
words_plain f n h = words_of 11 f n (λ i l. int_plain (cast_signed w32 (f i)) (h i l))

rows_plain : (f : ℕ → ℕ → ℕ) (n m : ℕ) → ((i j : ℕ) → i < n → j < m → is_int (cast_signed w32 (f i j)) ≡ true) → Plain 2 3 (2 + n * (1 + (2 + m * 12))) (rows_tree f n m)
rows_plain f n m h = rows_of 11 f n m (λ i j l g. int_plain (cast_signed w32 (f i j)) (h i j l g))

-- ---- the tables

pub word_int : (m : ℕ) → m < 4294967296 → is_int (cast_signed w32 m) ≡ true
word_int m h =
    ⊎_elim
    (λ l. ap (λ b. is_int (if b then pos m else negsuc (4294967296 - suc m))) (lt-ltb m 2147483648 l) ∙ lt-ltb m 2147483648 l)
    (λ g. ap (λ b. is_int (if b then pos m else negsuc (4294967296 - suc m))) (le-ltb m 2147483648 g) ∙ lt-ltb (4294967296 - suc m) 2147483648 (omega arith))
    (cases_lt m 2147483648)

-- a number of at most three digits, and one of at most five
byte_plain : (m : ℕ) → m < 256 → Plain 0 1 3 (int (cast_signed w32 m))
byte_plain m h =
    let e : cast_signed w32 m ≡ pos m = to_z_pos w32 m (omega arith) in
    subst (λ z. Plain 0 1 3 (int z)) (sym e) (record {
      shaped = lt-ltb m 2147483648 (omega arith);
      kinds = refl;
      deep = omega arith;
      text = record { short = length-decimal-le 3 m (omega arith) (omega arith) (omega arith); bare = (number_clean (pos m) (lt-ltb m 2147483648 (omega arith))).bare };
    })

half_plain : (m : ℕ) → m < 65536 → Plain 0 1 5 (int (cast_signed w32 m))
half_plain m h =
    let e : cast_signed w32 m ≡ pos m = to_z_pos w32 m (omega arith) in
    subst (λ z. Plain 0 1 5 (int z)) (sym e) (record {
      shaped = lt-ltb m 2147483648 (omega arith);
      kinds = refl;
      deep = omega arith;
      text = record { short = length-decimal-le 5 m (omega arith) (omega arith) (omega arith); bare = (number_clean (pos m) (lt-ltb m 2147483648 (omega arith))).bare };
    })

power_word : (k : ℕ) → power k < 4294967296
power_word k = pow_below (k % 32) 32 (mod-lt k (omega arith))

ones_word : (i : ℕ) → i < 256 → count_ones i < 4294967296
ones_word i h = omega (arith, ones_le_self i)

rotation_is_word : (k j : ℕ) → rotation_word k j < 4294967296
rotation_is_word k zero = power_word k
rotation_is_word k (suc j) = power_word (31 - k)

-- every table may stand in a storage, and under a key
pub table_fits : (t : Table) → (tree_fits (table_tree t) ≡ true) × (within_key (table_tree t) ≡ Some (table_tree t))
unfolding table_tree
table_fits tables.LowByte = plain_fits 2 2 _ _ (words_of 3 (table_word tables.LowByte 0) 65536 (λ i h. byte_plain (i % 256) (mod-lt i (omega arith)))) (omega arith) (omega arith)
table_fits tables.HighByte = plain_fits 2 2 _ _ (words_of 3 (table_word tables.HighByte 0) 65536 (λ i h. byte_plain (i / 256) (omega arith))) (omega arith) (omega arith)
table_fits tables.ByteAnd = plain_fits 2 3 _ _ (rows_of 3 bit_and 256 256 (λ i j h g. byte_plain (bit_and i j) (omega (arith, and_le_l i j)))) (omega arith) (omega arith)
table_fits tables.RaisedAnd = plain_fits 2 3 _ _ (rows_of 5 (table_word tables.RaisedAnd) 256 256 (λ i j h g. half_plain (bit_and i j % 256 * 256) (omega (arith, mod-lt (bit_and i j) (let h : 0 < 256 = omega arith in h))))) (omega arith) (omega arith)
table_fits tables.Ones = plain_fits 2 2 _ _ (words_plain (table_word tables.Ones 0) 256 (λ i h. word_int (count_ones i) (ones_word i h))) (omega arith) (omega arith)
table_fits tables.ShiftLeft = plain_fits 2 2 _ _ (words_plain (table_word tables.ShiftLeft 0) 32 (λ i h. word_int (power i) (power_word i))) (omega arith) (omega arith)
table_fits tables.ShiftRightSigned = plain_fits 2 2 _ _ (words_plain (table_word tables.ShiftRightSigned 0) 32 (λ i h. word_int (power (min i 30)) (power_word (min i 30)))) (omega arith) (omega arith)
table_fits tables.ShiftRight = plain_fits 2 2 _ _ (words_plain (table_word tables.ShiftRight 0) 32 (λ i h. word_int (power (i - 1)) (power_word (i - 1)))) (omega arith) (omega arith)
table_fits tables.RotateLeft = plain_fits 2 3 _ _ (rows_plain (table_word tables.RotateLeft) 32 2 (λ i j h g. word_int (rotation_word i j) (rotation_is_word i j))) (omega arith) (omega arith)
table_fits tables.RotateRight = plain_fits 2 3 _ _ (rows_plain (table_word tables.RotateRight) 32 2 (λ i j h g. word_int (rotation_word ((32 - i) % 32) j) (rotation_is_word ((32 - i) % 32) j))) (omega arith) (omega arith)

-- what the lines of routines find in them: the bytes of 16 bits
pub low_table : (z : ℤ) → IsPlace 65536 z → select (table_tree tables.LowByte) (place z ∷ []) ≡ Some (int (pos (index_in 65536 z % 256)))
unfolding table_tree
low_table z h =
    let few : index_in 65536 z % 256 < 256 = mod-lt (index_in 65536 z) (omega arith) in
    word_listed (table_word tables.LowByte 0) 65536 z h ∙ ap (λ n. Some (int n)) (to_z_pos w32 (index_in 65536 z % 256) (omega arith))

pub high_table : (z : ℤ) → IsPlace 65536 z → select (table_tree tables.HighByte) (place z ∷ []) ≡ Some (int (pos (index_in 65536 z / 256)))
unfolding table_tree
high_table z h =
    let few : index_in 65536 z < 65536 = (index_is 65536 z h).1 in
    word_listed (table_word tables.HighByte 0) 65536 z h ∙ ap (λ n. Some (int n)) (to_z_pos w32 (index_in 65536 z / 256) (omega arith))

-- two bytes
pub byte_and_table : (i j : ℕ) → i < 256 → j < 256 → select (table_tree tables.ByteAnd) (place (pos i) ∷ (place (pos j) ∷ [])) ≡ Some (int (pos (bit_and i j)))
unfolding table_tree
byte_and_table i j h g =
    let few = and_le_l i j in
    row_listed bit_and 256 256 (pos i) (pos j) h g ∙ ap (λ n. Some (int n)) (to_z_pos w32 (bit_and i j) (omega arith))

pub raised_and_table : (i j : ℕ) → i < 256 → j < 256 → select (table_tree tables.RaisedAnd) (place (pos i) ∷ (place (pos j) ∷ [])) ≡ Some (int (pos (bit_and i j * 256)))
unfolding table_tree
raised_and_table i j h g =
    let few = and_le_l i j in
    row_listed (table_word tables.RaisedAnd) 256 256 (pos i) (pos j) h g ∙ ap (λ n. Some (int n)) (to_z_pos w32 (bit_and i j % 256 * 256) (omega (arith, mod-lt (bit_and i j) (let h : 0 < 256 = omega arith in h))) ∙ ap (λ n. pos (n * 256)) (mod-eq_of_lt (omega arith)))

pub ones_table : (z : ℤ) → IsPlace 256 z → select (table_tree tables.Ones) (place z ∷ []) ≡ Some (int (pos (count_ones (index_in 256 z))))
unfolding table_tree
ones_table z h =
    let i : index_in 256 z < 256 = (index_is 256 z h).1 in
    let few = ones_le_self (index_in 256 z) in
    word_listed (table_word tables.Ones 0) 256 z h ∙ ap (λ n. Some (int n)) (to_z_pos w32 (count_ones (index_in 256 z)) (omega arith))

pub shift_left_table : (k : ℕ) → k < 32 → select (table_tree tables.ShiftLeft) (place (pos k) ∷ []) ≡ Some (int (cast_signed w32 (power k)))
unfolding table_tree
shift_left_table k h = word_listed (table_word tables.ShiftLeft 0) 32 (pos k) h

pub shift_signed_table : (k : ℕ) → k < 32 → select (table_tree tables.ShiftRightSigned) (place (pos k) ∷ []) ≡ Some (int (cast_signed w32 (power (min k 30))))
unfolding table_tree
shift_signed_table k h = word_listed (table_word tables.ShiftRightSigned 0) 32 (pos k) h

pub shift_right_table : (k : ℕ) → k < 32 → select (table_tree tables.ShiftRight) (place (pos k) ∷ []) ≡ Some (int (cast_signed w32 (power (k - 1))))
unfolding table_tree
shift_right_table k h = word_listed (table_word tables.ShiftRight 0) 32 (pos k) h

pub rotate_left_table : (k j : ℕ) → k < 32 → j < 2 → select (table_tree tables.RotateLeft) (place (pos k) ∷ (place (pos j) ∷ [])) ≡ Some (int (cast_signed w32 (rotation_word k j)))
unfolding table_tree
rotate_left_table k j h g = row_listed (table_word tables.RotateLeft) 32 2 (pos k) (pos j) h g

pub rotate_right_table : (k j : ℕ) → k < 32 → j < 2 → select (table_tree tables.RotateRight) (place (pos k) ∷ (place (pos j) ∷ [])) ≡ Some (int (cast_signed w32 (rotation_word ((32 - k) % 32) j)))
unfolding table_tree
rotate_right_table k j h g = row_listed (table_word tables.RotateRight) 32 2 (pos k) (pos j) h g
