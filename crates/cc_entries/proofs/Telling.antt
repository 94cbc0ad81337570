-- The trees of frames below tell them, and the names of pieces tell these.
use Rattle.std.proofs.Common.{◌≡◌, ℕ, zero, suc, ◌+◌, ◌<◌, ◌≤◌, List, [], ◌∷◌, ◌++◌, length, take, drop, min, Option, Some, None, Bool, true, false, refl, sym, ap, ap₂, ◌∙◌, arith}
use Rattle.std.specs.Prelude.{ℤ, pos, if◌then◌else◌, codes, map, nat_eq, nat_lt, slice_index_or, unsigned_abs}
use Rattle.std.specs.Fmt.{decimal}
use Rattle.std.specs.Str.{bytes_eq}
use Rattle.std.proofs.lemmas.Bool.{ltb-false, ne_eqb}
use Rattle.std.proofs.lemmas.List.{ext_get_or, take-append-drop, drop_all}
use Rattle.mc_nbt.specs.Tree.{Tree, int, string, list, compound, of_items, list_of, key, child}
use Rattle.mc_nbt.proofs.TreeLemmas.{of_items-items}
use Rattle.mc_cmd.specs.Form.{Text}
use Rattle.cc_line.specs.Place.{score_places}
use Rattle.cc_line.specs.Key.{key_list, key_ends, PieceId, body_piece, init_piece, shared_piece, end_piece, id_tree}
use Rattle.cc_line.specs.Key.{group_shared, group_init}
use Rattle.cc_line.specs.State.{ints}
use Rattle.cc_line.specs.Running.{Kept, with_field, with_places, with_rest, bare_entry, entry_tree}
use Rattle.cc_line.proofs.PlaceLemmas.{name_apart, take_most, take_get}
use Rattle.cc_call.proofs.EntryLemmas.{IsEntry, bare_is, field_is, field_child, places_are, entry_place, entry_follows}
use Rattle.cc_call.proofs.EntryLemmas.{entry_list}
use Rattle.cc_entries.specs.Law.{NameTells, NamesTell, AllTell, EntriesTell}

some_same : {A : Type 0} (x y : A) → Some x ≡ Some y → x ≡ y
some_same x y e = cc

-- ---- names

abbrev natural : Option Tree → ℕ
natural (Some (int (pos n))) = n
natural o = 0

abbrev told : Tree → Text → ℕ
told t k = natural (child t (key k))

abbrev by_numbers : ℕ → ℕ → PieceId
by_numbers i j =
    if nat_eq i group_shared then shared_piece j else (if nat_eq i group_init then init_piece j else body_piece i j)

abbrev named_by : Tree → PieceId
named_by t = if nat_eq (told t key_ends) 1 then end_piece (told t (codes "j")) else by_numbers (told t (codes "i")) (told t (codes "j"))

read_back : (i : PieceId) → NameTells i → named_by (id_tree i) ≡ i
read_back (body_piece f j) h =
    ap (λ b. if b then shared_piece j else (if nat_eq f group_init then init_piece j else body_piece f j))
    (ne_eqb f group_shared (λ e. omega arith))
    ∙ ap (λ b. if b then init_piece j else body_piece f j) (ne_eqb f group_init (λ e. omega arith))
read_back (init_piece j) h = refl
read_back (shared_piece j) h = refl
read_back (end_piece w) h = refl

pub names_tell : NamesTell
names_tell i j g h e = sym (read_back i g) ∙ ap named_by e ∙ read_back j h

-- ---- numbers in trees

abbrev number : Option Tree → ℤ
number (Some (int z)) = z
number o = pos 0

abbrev elements : Option Tree → List Tree
elements (Some (list ts)) = of_items ts
elements o = []

abbrev number_in : Tree → ℤ
number_in (int z) = z
number_in (string b) = pos 0
number_in (list ts) = pos 0
number_in (compound fs) = pos 0

numbers_back : (zs : List ℤ) → map number_in (map int zs) ≡ zs
numbers_back [] = refl
numbers_back (z ∷ zs) = ap (λ l. z ∷ l) (numbers_back zs)

list_back : (zs : List ℤ) → map number_in (elements (Some (ints zs))) ≡ zs
list_back zs = ap (map number_in) (of_items-items (map int zs)) ∙ numbers_back zs

-- ---- keys of entries

-- a key that is no place's
places_other : (zs : List ℤ) (i : ℕ) (t : Tree) (k : Text) → IsEntry t
    → ((j : ℕ) → i ≤ j → j < i + length zs → bytes_eq (decimal j) k ≡ false)
    → child (with_places i zs t) (key k) ≡ child t (key k)
places_other [] i t k e n = refl
places_other (z ∷ zs) i t k e n =
    places_other zs (1 + i) (with_field t (decimal i) (int z)) k (field_is t (decimal i) (int z) (omega arith) e)
    (λ j f g. n j (omega arith) (omega arith))
    ∙ field_child t (decimal i) (int z) k e
    ∙ ap (λ b. if b then Some (int z) else child t (key k)) (n i (omega arith) (omega arith))

-- a key that isn't the list's
rest_other : (zs : List ℤ) (t : Tree) (k : Text) → IsEntry t → bytes_eq key_list k ≡ false
    → child (with_rest zs t) (key k) ≡ child t (key k)
rest_other zs t k e n = go (nat_lt score_places (length zs))
  where
    go : (b : Bool)
        → child (if b then with_field t key_list (ints (drop score_places zs)) else t) (key k) ≡ child t (key k)
    go true =
        field_child t key_list (ints (drop score_places zs)) k e
        ∙ ap (λ b. if b then Some (ints (drop score_places zs)) else child t (key k)) n
    go false = refl

-- ---- one entry

abbrev bare : Kept → Tree
bare b = bare_entry b.follows (min (length b.places) score_places)

-- without its list
firsts_are : (b : Kept) → IsEntry (with_places 0 (take score_places b.places) (bare b))
firsts_are b = places_are (take score_places b.places) 0 (bare b) (bare_is b.follows (min (length b.places) score_places))

-- how many places stand under their numbers
entry_count : (b : Kept) → child (entry_tree b) (key (codes "z")) ≡ Some (int (pos (min (length b.places) score_places)))
entry_count b =
    let most : length (take score_places b.places) ≤ 128 = take_most score_places b.places in
    rest_other b.places (with_places 0 (take score_places b.places) (bare b)) (codes "z") (firsts_are b) refl
    ∙ places_other (take score_places b.places) 0 (bare b) (codes "z") (bare_is b.follows (min (length b.places) score_places)) (λ j f g. name_apart j (codes "#z") (omega arith) refl)

-- no list stands where there are no further places
entry_short : (b : Kept) → nat_lt score_places (length b.places) ≡ false → child (entry_tree b) (key key_list) ≡ None
entry_short b e =
    let most : length (take score_places b.places) ≤ 128 = take_most score_places b.places in
    let t : Tree = with_places 0 (take score_places b.places) (bare b) in
    ap (λ c. child (if c then with_field t key_list (ints (drop score_places b.places)) else t) (key key_list)) e
    ∙ places_other (take score_places b.places) 0 (bare b) key_list (bare_is b.follows (min (length b.places) score_places)) (λ j f g. name_apart j (codes "#f") (omega arith) refl)

module _ (b c : Kept) (g : NameTells b.follows) (h : NameTells c.follows) (e : entry_tree b ≡ entry_tree c) where
  follows : b.follows ≡ c.follows
  follows =
      names_tell b.follows c.follows g h
      (some_same (id_tree b.follows) (id_tree c.follows) (sym (entry_follows b) ∙ ap (λ t. child t (key (codes "p"))) e ∙ entry_follows c))

  counts : min (length b.places) score_places ≡ min (length c.places) score_places
  counts =
      let s : Some (int (pos (min (length b.places) score_places))) ≡ Some (int (pos (min (length c.places) score_places))) =
      sym (entry_count b) ∙ ap (λ t. child t (key (codes "z"))) e ∙ entry_count c in
      ap (λ o. unsigned_abs (number o)) s

  one_place : (j : ℕ) → j < score_places → j < length b.places → j < length c.places → slice_index_or b.places j (pos 0) ≡ slice_index_or c.places j (pos 0)
  one_place j l x y =
      ap number (sym (entry_place b j l x) ∙ ap (λ t. child t (key (decimal j))) e ∙ entry_place c j l y)

  take_size : (n : ℕ) (zs : List ℤ) → length (take n zs) ≡ min (length zs) n
  take_size zero zs = omega arith
  take_size (suc n) [] = omega arith
  take_size (suc n) (z ∷ zs) = let r : length (take n zs) ≡ min (length zs) n = take_size n zs in omega arith

  fronts : take score_places b.places ≡ take score_places c.places
  fronts =
      let p : length (take score_places b.places) ≡ min (length b.places) score_places = take_size score_places b.places in
      let q : length (take score_places c.places) ≡ min (length c.places) score_places = take_size score_places c.places in
      let r : min (length b.places) score_places ≡ min (length c.places) score_places = counts in
      ext_get_or (pos 0) (take score_places b.places) (take score_places c.places) (p ∙ r ∙ sym q)
      (λ i h.
      let l : i < score_places = omega arith in
      let x : i < length b.places = omega arith in
      let y : i < length c.places = omega arith in
      take_get score_places b.places i l ∙ one_place i l x y ∙ sym (take_get score_places c.places i l))

  rests : drop score_places b.places ≡ drop score_places c.places
  rests = by (nat_lt score_places (length b.places)) refl (nat_lt score_places (length c.places)) refl
    where
      here : child (entry_tree b) (key key_list) ≡ child (entry_tree c) (key key_list)
      here = ap (λ t. child t (key key_list)) e

      none : (zs : List ℤ) → nat_lt score_places (length zs) ≡ false → drop score_places zs ≡ []
      none zs f = drop_all score_places zs (ltb-false score_places (length zs) f)

      by : (f : Bool) → nat_lt score_places (length b.places) ≡ f → (g : Bool) → nat_lt score_places (length c.places) ≡ g → drop score_places b.places ≡ drop score_places c.places
      by true f true g =
          sym (list_back (drop score_places b.places))
          ∙ ap (λ o. map number_in (elements o)) (sym (entry_list b f) ∙ here ∙ entry_list c g)
          ∙ list_back (drop score_places c.places)
      by true f false g = absurd (let x : Some (ints (drop score_places b.places)) ≡ None = sym (entry_list b f) ∙ here ∙ entry_short c g in cc)
      by false f true g = absurd (let x : None ≡ Some (ints (drop score_places c.places)) = sym (entry_short b f) ∙ here ∙ entry_list c g in cc)
      by false f false g = none b.places f ∙ sym (none c.places g)

  places : b.places ≡ c.places
  places = sym (take-append-drop score_places b.places) ∙ ap₂ (λ xs ys. xs ++ ys) fronts rests ∙ take-append-drop score_places c.places

  pub one_told : b ≡ c
  one_told = ap₂ (λ zs i. record { places = zs; follows = i }) places follows

-- ---- all of them

trees_back : (ts us : List Tree) → list_of ts ≡ list_of us → ts ≡ us
trees_back ts us e =
    sym (of_items-items ts) ∙ ap (λ (t : Tree). elements (Some t)) e ∙ of_items-items us

all_told : (bs cs : List Kept) → AllTell bs → AllTell cs → map entry_tree bs ≡ map entry_tree cs → bs ≡ cs
all_told [] [] g h e = refl
all_told [] (c ∷ cs) g h e = absurd cc
all_told (b ∷ bs) [] g h e = absurd cc
all_told (b ∷ bs) (c ∷ cs) g h e =
    let first : entry_tree b ≡ entry_tree c = cc in
    let rest : map entry_tree bs ≡ map entry_tree cs = cc in
    ap₂ (λ x l. x ∷ l)
    (one_told b c (g 0 b (omega arith)) (h 0 c (omega arith)) first)
    (all_told bs cs (λ k d l. g (suc k) d (omega arith)) (λ k d l. h (suc k) d (omega arith)) rest)

pub entries_tell : EntriesTell
entries_tell bs cs g h e = all_told bs cs g h (trees_back (map entry_tree bs) (map entry_tree cs) e)
