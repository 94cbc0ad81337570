-- What stands under the keys of an entry.
use Rattle.std.proofs.Common.{◌≡◌, ℕ, ◌+◌, ◌<◌, ◌≤◌, List, [], ◌∷◌, ◌++◌, length, take, drop, min, Option, Some, None, Bool, true, false, refl, sym, ap, ap₂, ◌∙◌, arith}
use Rattle.std.specs.Prelude.{ℤ, pos, if◌then◌else◌, codes, nat_lt, slice_index_or, MatchOption}
use Rattle.std.specs.Fmt.{decimal}
use Rattle.std.specs.Str.{bytes_eq}
use Rattle.std.proofs.lemmas.Bool.{ltb-false}
use Rattle.std.proofs.lemmas.List.{take-append-drop, take_min, drop_all}
use Rattle.std.proofs.Math.Numerals.{add-one}
use Rattle.std.proofs.Math.Seq.{take-suc}
use Rattle.mc_nbt.specs.Tree.{Tree, int, key, child, tree_same}
use Rattle.mc_nbt.proofs.TreeLemmas.{tree_same_sound, tree_same_refl}
use Rattle.cc_line.specs.Place.{score_places}
use Rattle.cc_line.specs.Key.{key_list, PieceId, id_tree}
use Rattle.cc_line.specs.State.{ints}
use Rattle.cc_line.specs.Running.{Kept, with_field, with_places, with_rest, bare_entry, entry_tree}
use Rattle.cc_line.specs.View.{piece_view}
use Rattle.cc_line.specs.declared.leaf.PieceId as code
use Rattle.cc_line.proofs.PlaceLemmas.{name_apart, take_most}
use Rattle.cc_call.proofs.EntryLemmas.{IsEntry, bare_is, field_is, field_child, places_are, entry_place, entry_follows}
use Rattle.cc_call.proofs.EntryLemmas.{entry_list}
use Rattle.cc_entries.specs.Law.{NameTells}
use Rattle.cc_entries.proofs.Telling.{names_tell}
use Rattle.pk_entries.specs.Told.{NamesPiece, KeepsFrame}
use Rattle.pk_entries.specs.View.{entry_view}
use Rattle.pk_entries.specs.declared.entry.Entry.{Entry}
use Rattle.pk_entries.specs.steps.Reading.{int_in, ints_in, natural}
use Rattle.pk_entries.proofs.Numbers.{list_back}

-- ---- keys of entries

-- a key that is no place's
places_other : (zs : List ℤ) (i : ℕ) (t : Tree) (k : List ℕ) → IsEntry t
    → ((j : ℕ) → i ≤ j → j < i + length zs → bytes_eq (decimal j) k ≡ false)
    → child (with_places i zs t) (key k) ≡ child t (key k)
places_other [] i t k e n = refl
places_other (z ∷ zs) i t k e n =
    places_other zs (1 + i) (with_field t (decimal i) (int z)) k (field_is t (decimal i) (int z) (omega arith) e)
    (λ j f g. n j (omega arith) (omega arith))
    ∙ field_child t (decimal i) (int z) k e
    ∙ ap (λ b. if b then Some (int z) else child t (key k)) (n i (omega arith) (omega arith))

-- a key that isn't the list's
rest_other : (zs : List ℤ) (t : Tree) (k : List ℕ) → IsEntry t → bytes_eq key_list k ≡ false
    → child (with_rest zs t) (key k) ≡ child t (key k)
rest_other zs t k e n = go (nat_lt score_places (length zs))
  where
    go : (b : Bool)
        → child (if b then with_field t key_list (ints (drop score_places zs)) else t) (key k) ≡ child t (key k)
    go true =
        field_child t key_list (ints (drop score_places zs)) k e
        ∙ ap (λ b. if b then Some (ints (drop score_places zs)) else child t (key k)) n
    go false = refl

abbrev bare : Kept → Tree
bare b = bare_entry b.follows (min (length b.places) score_places)

-- an entry without its list
firsts_are : (b : Kept) → IsEntry (with_places 0 (take score_places b.places) (bare b))
firsts_are b = places_are (take score_places b.places) 0 (bare b) (bare_is b.follows (min (length b.places) score_places))

-- how many places stand under their numbers
entry_count : (b : Kept) → child (entry_tree b) (key (codes "z")) ≡ Some (int (pos (min (length b.places) score_places)))
entry_count b =
    let most : length (take score_places b.places) ≤ 128 = take_most score_places b.places in
    rest_other b.places (with_places 0 (take score_places b.places) (bare b)) (codes "z") (firsts_are b) refl
    ∙ places_other (take score_places b.places) 0 (bare b) (codes "z") (bare_is b.follows (min (length b.places) score_places)) (λ j f g. name_apart j (codes "#z") (omega arith) refl)

-- no list stands where there are no further places
entry_short : (b : Kept) → nat_lt score_places (length b.places) ≡ false → child (entry_tree b) (key key_list) ≡ None
entry_short b e =
    let most : length (take score_places b.places) ≤ 128 = take_most score_places b.places in
    let t : Tree = with_places 0 (take score_places b.places) (bare b) in
    ap (λ c. child (if c then with_field t key_list (ints (drop score_places b.places)) else t) (key key_list)) e
    ∙ places_other (take score_places b.places) 0 (bare b) key_list (bare_is b.follows (min (length b.places) score_places)) (λ j f g. name_apart j (codes "#f") (omega arith) refl)

-- ---- the first places

-- so many ints are read under numbers
abbrev saved_in : Tree → ℕ
saved_in t = min (natural (int_in (child t (key (codes "z"))))) score_places

saved_is : (t : Tree) (b : Kept) → t ≡ entry_tree b → saved_in t ≡ min (min (length b.places) score_places) score_places
saved_is t b e = ap (λ u. saved_in u) e ∙ ap (λ o. min (natural (int_in o)) score_places) (entry_count b)

-- one more of them
pub one_more : (t : Tree) (saved place : ℕ) (k : List ℕ) (z : ℤ) (xs ys : List ℤ) → place < saved → saved ≡ saved_in t → k ≡ decimal place
    → z ≡ int_in (child t (key k)) → ys ≡ xs ++ (z ∷ [])
    → ((b : Kept) → t ≡ entry_tree b → xs ≡ take place b.places)
    → (b : Kept) → t ≡ entry_tree b → ys ≡ take (place + 1) b.places
one_more t saved place k z xs ys l s n r p h b e =
    let q : saved ≡ min (min (length b.places) score_places) score_places = s ∙ saved_is t b e in
    let low : place < score_places = omega arith in
    let there : place < length b.places = omega arith in
    let x : z ≡ slice_index_or b.places place (pos 0) = r ∙ ap (λ d. int_in (child t (key d))) n
    ∙ ap (λ u. int_in (child u (key (decimal place)))) e ∙ ap (λ o. int_in o) (entry_place b place low there) in
    p ∙ ap₂ (λ as' y. as' ++ (y ∷ [])) (h b e) x ∙ sym (take-suc b.places place (pos 0) there) ∙ ap (λ m. take m b.places) (sym (add-one place))

-- all of them
pub all_first : (t : Tree) (saved place : ℕ) (xs : List ℤ) → place ≤ saved → saved ≤ place → saved ≡ saved_in t
    → ((b : Kept) → t ≡ entry_tree b → xs ≡ take place b.places)
    → (b : Kept) → t ≡ entry_tree b → xs ≡ take score_places b.places
all_first t saved place xs l m s h b e =
    let q : saved ≡ min (min (length b.places) score_places) score_places = s ∙ saved_is t b e in
    let r : place ≡ min score_places (length b.places) = omega arith in
    h b e ∙ ap (λ n. take n b.places) r ∙ take_min score_places b.places

-- ---- the further ones

further : (b : Kept) → ints_in (child (entry_tree b) (key key_list)) ≡ drop score_places b.places
further b = by (nat_lt score_places (length b.places)) refl
  where
    by : (c : Bool) → nat_lt score_places (length b.places) ≡ c → ints_in (child (entry_tree b) (key key_list)) ≡ drop score_places b.places
    by true e = ap (λ o. ints_in o) (entry_list b e) ∙ list_back (drop score_places b.places)
    by false e = ap (λ o. ints_in o) (entry_short b e) ∙ sym (drop_all score_places b.places (ltb-false score_places (length b.places) e))

pub all_places : (t : Tree) (xs ys : List ℤ) → ys ≡ xs ++ ints_in (child t (key key_list))
    → ((b : Kept) → t ≡ entry_tree b → xs ≡ take score_places b.places) → (b : Kept) → t ≡ entry_tree b → ys ≡ b.places
all_places t xs ys p h b e =
    p ∙ ap₂ (λ as' bs. as' ++ bs) (h b e) (ap (λ u. ints_in (child u (key key_list))) e ∙ further b)
    ∙ take-append-drop score_places b.places

-- ---- the piece that follows

some_same : {A : Type 0} (x y : A) → Some x ≡ Some y → x ≡ y
some_same x y e = cc

name_is : (t n : Tree) (b : Kept) → Some n ≡ child t (key (codes "p")) → KeepsFrame t b → n ≡ id_tree b.follows
name_is t n b e k = some_same n (id_tree b.follows) (e ∙ ap (λ u. child u (key (codes "p"))) k.1 ∙ entry_follows b)

-- its name stands there, or the tree is no entry
pub followed : (t n : Tree) (o : Option code.PieceId) → Some n ≡ child t (key (codes "p"))
    → MatchOption o ((i : PieceId) → NamesPiece n i → ⊥) (λ i. NamesPiece n (piece_view i))
    → MatchOption o ((b : Kept) → KeepsFrame t b → ⊥)
    (λ i. NameTells (piece_view i) × ((b : Kept) → KeepsFrame t b → piece_view i ≡ b.follows))
followed t n None e h = λ b k. h b.follows (k.0, name_is t n b e k)
followed t n (Some i) e h =
    (h.0, λ b k. names_tell (piece_view i) b.follows h.0 k.0 (sym h.1 ∙ name_is t n b e k))

pub not_followed : (t : Tree) → None ≡ child t (key (codes "p")) → (b : Kept) → KeepsFrame t b → ⊥
not_followed t e b k =
    let x : None ≡ Some (id_tree b.follows) = e ∙ ap (λ u. child u (key (codes "p"))) k.1 ∙ entry_follows b in
    cc

-- ---- a frame

pub frame_is : (t : Tree) (e : Entry) (i : PieceId) (zs : List ℤ) → piece_view e.follows ≡ i → e.places.items ≡ zs
    → ((b : Kept) → KeepsFrame t b → i ≡ b.follows) → ((b : Kept) → t ≡ entry_tree b → zs ≡ b.places)
    → (b : Kept) → KeepsFrame t b → entry_view e ≡ b
frame_is t e i zs x y f g b k = ap₂ (λ ps p. record { places = ps; follows = p }) (y ∙ g b k.1) (x ∙ f b k)

-- the entry of the only frame that the tree may keep is the tree, or it isn't
pub kept : (t n : Tree) (b : Kept) → NameTells b.follows → n ≡ entry_tree b → tree_same t n ≡ true → KeepsFrame t b
kept t n b h e s = (h, tree_same_sound t n s ∙ e)

pub not_kept : (t n : Tree) (b : Kept) → ((c : Kept) → KeepsFrame t c → b ≡ c) → n ≡ entry_tree b → tree_same t n ≡ false
    → (c : Kept) → KeepsFrame t c → ⊥
not_kept t n b f e s c k =
    let u : n ≡ t = e ∙ ap (λ (x : Kept). entry_tree x) (f c k) ∙ sym k.1 in
    let v : tree_same t n ≡ true = ap (λ w. tree_same t w) u ∙ tree_same_refl t in
    cc
