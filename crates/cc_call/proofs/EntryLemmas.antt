-- Entries as trees: what stands under their keys; and the list of the frames below, one more, the last one, and one less.
use Rattle.std.proofs.Common.{◌≡◌, ℕ, zero, suc, ◌+◌, ◌<◌, ◌≤◌, ◌^◌, List, [], ◌∷◌, ◌++◌, length, take, drop, max, min, Option, Some, None, Bool, true, false, refl, sym, ap, ◌∙◌, subst, arith, length-append}
use Rattle.std.specs.Prelude.{ℤ, pos, negsuc, if◌then◌else◌, codes, map, nat_eq, nat_lt, option_map, option_and_then, slice_get, slice_index_or}
use Rattle.std.specs.List.{remove as remove_item}
use Rattle.std.specs.Str.{bytes_eq}
use Rattle.std.specs.Fmt.{decimal}
use Rattle.std.proofs.lemmas.Slice.Eq.{bytes_eq-Decides}
use Rattle.std.proofs.lemmas.List.{map_push}
use Rattle.mc_nbt.specs.Tree.{Tree, int, items, compound, compound_of, Fields, of_fields, put, list_of, key, place, child, select, depth, items_depth, kind, index_of, item_at, add_to, add_item, leave_out, without_at}
use Rattle.mc_nbt.proofs.TreeLemmas.{bytes_refl, of_items-items}
use Rattle.mc_nbt.proofs.SelectLaws.{last_index, select_after_set, select_apart}
use Rattle.mc_nbt.proofs.BelowLaws.{keys_apart}
use Rattle.mc_nbt.proofs.DepthLaws.{set_depth_most}
use Rattle.mc_cmd.specs.Form.{Text}
use Rattle.cc_line.specs.Place.{score_places}
use Rattle.cc_line.specs.Key.{key_list, PieceId, body_piece, init_piece, shared_piece, end_piece, id_tree}
use Rattle.cc_line.specs.State.{ints}
use Rattle.cc_line.specs.Running.{Kept, with_field, with_places, with_rest, bare_entry, entry_tree, below_tree}
use Rattle.cc_line.proofs.ActLemmas.{depth_ints}
use Rattle.cc_line.proofs.PlaceLemmas.{name_apart, apart_name, names_differ, take_most, take_get, take_length}

-- ---- one field more

-- a path of one part selects a child
pub select_one : (t : Tree) (k : Text) → select t (key k ∷ []) ≡ child t (key k)
select_one t k = go (child t (key k))
  where
    go : (o : Option Tree) → option_and_then (λ u. select u []) o ≡ o
    go None = refl
    go (Some u) = refl

child_put : (fs : Fields) (k : Text) (u : Tree) (j : Text) → child (compound_of (put k u (of_fields fs))) (key j) ≡ (if bytes_eq k j then Some u else child (compound fs) (key j))
child_put fs k u j = at (bytes_eq k j) refl
  where
    at : (b : Bool) → bytes_eq k j ≡ b → child (compound_of (put k u (of_fields fs))) (key j) ≡ (if b then Some u else child (compound fs) (key j))
    at true e =
        sym (select_one (compound_of (put k u (of_fields fs))) j)
        ∙ ap (λ x. select (compound_of (put k u (of_fields fs))) (key x ∷ [])) (sym ((bytes_eq-Decides k j).0 e))
        ∙ select_after_set (key k) [] u (compound fs) (compound_of (put k u (of_fields fs))) refl
    at false e =
        sym (select_one (compound_of (put k u (of_fields fs))) j)
        ∙ select_apart (key k) [] (key j) [] u (compound fs) (compound_of (put k u (of_fields fs))) (keys_apart k j [] [] e) refl
        ∙ select_one (compound fs) j

-- a compound that isn't deep
pub record IsEntry (t : Tree) : Type 0 where
  pub fields : Fields
  pub is : t ≡ compound fields
  pub low : depth t ≤ 4

pub depth_id : (i : PieceId) → depth (id_tree i) ≡ 2
depth_id (body_piece f j) = refl
depth_id (init_piece j) = refl
depth_id (shared_piece j) = refl
depth_id (end_piece w) = refl

pub bare_is : (i : PieceId) (n : ℕ) → IsEntry (bare_entry i n)
bare_is i n = record { fields = _; is = refl; low = below (depth (id_tree i)) (depth_id i) }
  where
    below : (a : ℕ) → a ≡ 2 → suc (max a (max 1 0)) ≤ 4
    below a h = omega arith

pub field_is : (t : Tree) (k : Text) (u : Tree) → depth u ≤ 3 → IsEntry t → IsEntry (with_field t k u)
field_is t k u h e =
    subst (λ x. IsEntry (with_field x k u)) (sym e.is)
    (record {
      fields = _;
      is = refl;
      low = below (depth (compound e.fields)) (depth u) (depth (compound_of (put k u (of_fields e.fields)))) (set_depth_most (key k) [] u (compound e.fields) (compound_of (put k u (of_fields e.fields))) refl)
          (subst (λ x. depth x ≤ 4) e.is e.low) h;
    })
  where
    below : (a b n : ℕ) → n ≤ max a (1 + b) → a ≤ 4 → b ≤ 3 → n ≤ 4
    below a b n f g l = omega arith

pub ints_low : (zs : List ℤ) → depth (ints zs) ≤ 3
ints_low zs = below (items_depth (items (map int zs))) (depth_ints zs)
  where
    below : (a : ℕ) → a ≤ 1 → suc a ≤ 3
    below a h = omega arith

pub field_child : (t : Tree) (k : Text) (u : Tree) (j : Text) → IsEntry t → child (with_field t k u) (key j) ≡ (if bytes_eq k j then Some u else child t (key j))
field_child t k u j e = subst (λ x. child (with_field x k u) (key j) ≡ (if bytes_eq k j then Some u else child x (key j))) (sym e.is) (child_put e.fields k u j)

field_here : (t : Tree) (k : Text) (u : Tree) → IsEntry t → child (with_field t k u) (key k) ≡ Some u
field_here t k u e = field_child t k u k e ∙ ap (λ b. if b then Some u else child t (key k)) (bytes_refl k)

field_other : (t : Tree) (k : Text) (u : Tree) (j : Text) → IsEntry t → bytes_eq k j ≡ false → child (with_field t k u) (key j) ≡ child t (key j)
field_other t k u j e n = field_child t k u j e ∙ ap (λ b. if b then Some u else child t (key j)) n

-- ---- the places

pub places_are : (zs : List ℤ) (i : ℕ) (t : Tree) → IsEntry t → IsEntry (with_places i zs t)
places_are [] i t e = e
places_are (z ∷ zs) i t e = places_are zs (1 + i) (with_field t (decimal i) (int z)) (field_is t (decimal i) (int z) (omega arith) e)

-- a key that is no place's
places_other : (zs : List ℤ) (i : ℕ) (t : Tree) (k : Text) → IsEntry t → ((j : ℕ) → i ≤ j → j < i + length zs → bytes_eq (decimal j) k ≡ false) → child (with_places i zs t) (key k) ≡ child t (key k)
places_other [] i t k e n = refl
places_other (z ∷ zs) i t k e n =
    places_other zs (1 + i) (with_field t (decimal i) (int z)) k (field_is t (decimal i) (int z) (omega arith) e) (λ j f g. n j (omega arith) (omega arith))
    ∙ field_other t (decimal i) (int z) k e (n i (omega arith) (omega arith))

places_at : (zs : List ℤ) (i j : ℕ) (t : Tree) → IsEntry t → i + length zs ≤ 2 ^ 31 → j < length zs → child (with_places i zs t) (key (decimal (i + j))) ≡ Some (int (slice_index_or zs j (pos 0)))
places_at [] i j t e l h = absurd (omega arith)
places_at (z ∷ zs) i zero t e l h =
    let u : Tree = with_field t (decimal i) (int z) in
    let is : IsEntry (with_field t (decimal i) (int z)) = field_is t (decimal i) (int z) (omega arith) e in
    let x : i + 0 ≡ i = omega arith in
    ap (λ n. child (with_places (1 + i) zs u) (key (decimal n))) x
    ∙ places_other zs (1 + i) u (decimal i) is (λ j f g. names_differ j i (omega arith) (omega arith) (λ q. omega arith))
    ∙ field_here t (decimal i) (int z) e
places_at (z ∷ zs) i (suc j) t e l h =
    let u : Tree = with_field t (decimal i) (int z) in
    let is : IsEntry (with_field t (decimal i) (int z)) = field_is t (decimal i) (int z) (omega arith) e in
    let x : i + suc j ≡ (1 + i) + j = omega arith in
    ap (λ n. child (with_places (1 + i) zs u) (key (decimal n))) x ∙ places_at zs (1 + i) j u is (omega arith) (omega arith)

rest_is : (zs : List ℤ) (t : Tree) → IsEntry t → IsEntry (with_rest zs t)
rest_is zs t e = go (nat_lt score_places (length zs))
  where
    go : (b : Bool) → IsEntry (if b then with_field t key_list (ints (drop score_places zs)) else t)
    go true = field_is t key_list (ints (drop score_places zs)) (ints_low (drop score_places zs)) e
    go false = e

rest_other : (zs : List ℤ) (t : Tree) (k : Text) → IsEntry t → bytes_eq key_list k ≡ false → child (with_rest zs t) (key k) ≡ child t (key k)
rest_other zs t k e n = go (nat_lt score_places (length zs))
  where
    go : (b : Bool) → child (if b then with_field t key_list (ints (drop score_places zs)) else t) (key k) ≡ child t (key k)
    go true = field_other t key_list (ints (drop score_places zs)) k e n
    go false = refl

-- ---- an entry

-- without its list
firsts_are : (b : Kept) → IsEntry (with_places 0 (take score_places b.places) (bare_entry b.follows (min (length b.places) score_places)))
firsts_are b = places_are (take score_places b.places) 0 (bare_entry b.follows (min (length b.places) score_places)) (bare_is b.follows (min (length b.places) score_places))

pub entry_is : (b : Kept) → IsEntry (entry_tree b)
entry_is b = rest_is b.places (with_places 0 (take score_places b.places) (bare_entry b.follows (min (length b.places) score_places))) (firsts_are b)

pub entry_place : (b : Kept) (j : ℕ) → j < score_places → j < length b.places → child (entry_tree b) (key (decimal j)) ≡ Some (int (slice_index_or b.places j (pos 0)))
entry_place b j l h =
    let bare : Tree = bare_entry b.follows (min (length b.places) score_places) in
    let t : Tree = with_places 0 (take score_places b.places) bare in
    let most : length (take score_places b.places) ≤ 128 = take_most score_places b.places in
    let x : j ≡ 0 + j = omega arith in
    rest_other b.places t (decimal j) (firsts_are b) (apart_name j (codes "#f") (omega arith) refl)
    ∙ ap (λ n. child t (key (decimal n))) x
    ∙ places_at (take score_places b.places) 0 j bare (bare_is b.follows (min (length b.places) score_places)) (omega arith) (take_length score_places b.places j l h)
    ∙ ap (λ z. Some (int z)) (take_get score_places b.places j l)

pub entry_follows : (b : Kept) → child (entry_tree b) (key (codes "p")) ≡ Some (id_tree b.follows)
entry_follows b =
    let bare : Tree = bare_entry b.follows (min (length b.places) score_places) in
    let t : Tree = with_places 0 (take score_places b.places) bare in
    let most : length (take score_places b.places) ≤ 128 = take_most score_places b.places in
    rest_other b.places t (codes "p") (firsts_are b) refl
    ∙ places_other (take score_places b.places) 0 bare (codes "p") (bare_is b.follows (min (length b.places) score_places)) (λ j f g. name_apart j (codes "#p") (omega arith) refl)

pub entry_list : (b : Kept) → nat_lt score_places (length b.places) ≡ true → child (entry_tree b) (key key_list) ≡ Some (ints (drop score_places b.places))
entry_list b e =
    let t : Tree = with_places 0 (take score_places b.places) (bare_entry b.follows (min (length b.places) score_places)) in
    ap (λ c. child (if c then with_field t key_list (ints (drop score_places b.places)) else t) (key key_list)) e ∙ field_here t key_list (ints (drop score_places b.places)) (firsts_are b)

-- ---- the frames below

entry_kind : (b : Kept) → kind (entry_tree b) ≡ 3
entry_kind b = ap kind (entry_is b).is

added : (bs : List Kept) (b : Kept) → add_item (map entry_tree bs) (entry_tree b) ≡ Some (list_of (map entry_tree bs ++ (entry_tree b ∷ [])))
added [] b = refl
added (x ∷ bs) b =
    ap (λ k. if nat_eq k (kind (entry_tree b)) then Some (list_of ((entry_tree x ∷ map entry_tree bs) ++ (entry_tree b ∷ []))) else None) (entry_kind x)
    ∙ ap (λ k. if nat_eq 3 k then Some (list_of ((entry_tree x ∷ map entry_tree bs) ++ (entry_tree b ∷ []))) else None) (entry_kind b)

pub below_added : (bs : List Kept) (b : Kept) → add_to (entry_tree b) (below_tree bs) ≡ Some (below_tree (bs ++ (b ∷ [])))
below_added bs b = ap (λ l. add_item l (entry_tree b)) (of_items-items (map entry_tree bs)) ∙ added bs b ∙ ap (λ l. Some (list_of l)) (sym (map_push entry_tree bs b))

-- the last of several
end_index : (ts : List Tree) (t : Tree) → index_of (length (ts ++ (t ∷ []))) (negsuc 0) ≡ Some (length ts)
end_index ts t = let a : length (ts ++ (t ∷ [])) ≡ length ts + 1 = length-append ts (t ∷ []) in last_index (length (ts ++ (t ∷ []))) (length ts) (omega arith)

end_got : (ts : List Tree) (t : Tree) → slice_get (ts ++ (t ∷ [])) (length ts) ≡ Some t
end_got [] t = refl
end_got (x ∷ ts) t = end_got ts t

end_removed : (ts : List Tree) (t : Tree) → remove_item (ts ++ (t ∷ [])) (length ts) ≡ ts
end_removed [] t = refl
end_removed (x ∷ ts) t = ap (λ l. x ∷ l) (end_removed ts t)

pub below_last : (bs : List Kept) (b : Kept) → child (below_tree (bs ++ (b ∷ []))) (place (negsuc 0)) ≡ Some (entry_tree b)
below_last bs b =
    ap (λ l. item_at l (negsuc 0)) (of_items-items (map entry_tree (bs ++ (b ∷ []))) ∙ map_push entry_tree bs b)
    ∙ ap (option_and_then (slice_get (map entry_tree bs ++ (entry_tree b ∷ [])))) (end_index (map entry_tree bs) (entry_tree b))
    ∙ end_got (map entry_tree bs) (entry_tree b)

pub below_dropped : (bs : List Kept) (b : Kept) → leave_out (below_tree (bs ++ (b ∷ []))) (place (negsuc 0)) ≡ Some (below_tree bs)
below_dropped bs b =
    ap (λ l. without_at l (negsuc 0)) (of_items-items (map entry_tree (bs ++ (b ∷ []))) ∙ map_push entry_tree bs b)
    ∙ ap (option_map (λ k. list_of (remove_item (map entry_tree bs ++ (entry_tree b ∷ [])) k))) (end_index (map entry_tree bs) (entry_tree b))
    ∙ ap (λ l. Some (list_of l)) (end_removed (map entry_tree bs) (entry_tree b))

entries_low : (bs : List Kept) → items_depth (items (map entry_tree bs)) ≤ 4
entries_low [] = omega arith
entries_low (b ∷ bs) = below (depth (entry_tree b)) (items_depth (items (map entry_tree bs))) (entry_is b).low (entries_low bs)
  where
    below : (a n : ℕ) → a ≤ 4 → n ≤ 4 → max a n ≤ 4
    below a n f g = omega arith

pub below_low : (bs : List Kept) → depth (below_tree bs) ≤ 63
below_low bs = below (items_depth (items (map entry_tree bs))) (entries_low bs)
  where
    below : (a : ℕ) → a ≤ 4 → suc a ≤ 63
    below a h = omega arith
