-- Pages in a storage: what is selected and set by a page and a place.
use Rattle.std.proofs.Common.{◌≡◌, ℕ, zero, suc, List, [], ◌∷◌, length, map, Option, Some, None}
use Rattle.std.proofs.Common.{Bool, true, false, refl, sym, ap, ◌∙◌}
use Rattle.std.specs.Prelude.{pos, nat_lt, nat_eq, if◌then◌else◌, option_map, option_and_then, slice_get, slice_set}
use Rattle.std.proofs.lemmas.Bool.{lt-ltb, ltb-false}
use Rattle.std.proofs.lemmas.Option.{slice_get-map, slice_get_past, slice_get_within}
use Rattle.mc_nbt.specs.Tree.{Tree, int, items, of_items, list_of, Part, place, item_at, child, select, exchange, put_item}
use Rattle.mc_nbt.specs.Tree.{kind, is_of_kind, through, set_at}
use Rattle.mc_nbt.proofs.TreeLemmas.{of_items-items, below_child}
use Rattle.mc_nbt.proofs.EditLemmas.{map_set}
use Rattle.cc_page.specs.Pages.{signed_word, page_tree, pages_tree, word_at, with_word}
use Rattle.cc_page.specs.Law.{word_path, WordsAreSelected, WordsAreSet}

-- ---- elements counted from the front

item_front : (ts : List Tree) (i : ℕ) → item_at ts (pos i) ≡ slice_get ts i
item_front ts i = go (nat_lt i (length ts)) refl
  where
    go : (b : Bool) → nat_lt i (length ts) ≡ b
        → option_and_then (slice_get ts) (if b then Some i else None) ≡ slice_get ts i
    go true e = refl
    go false e = sym (slice_get_past ts i (ltb-false i (length ts) e))

child_list : (ts : List Tree) (i : ℕ) → child (list_of ts) (place (pos i)) ≡ slice_get ts i
child_list ts i = ap (λ l. item_at l (pos i)) (of_items-items ts) ∙ item_front ts i

exchange_list : (ts : List Tree) (i : ℕ) (u v : Tree) → slice_get ts i ≡ Some u
    → exchange (list_of ts) (place (pos i)) v ≡ Some (list_of (slice_set ts i v))
exchange_list ts i u v h =
    ap (λ l. put_item l (pos i) v) (of_items-items ts)
    ∙ ap (λ b. option_map (λ k. list_of (slice_set ts k v)) (if b then Some i else None))
    (lt-ltb i (length ts) (slice_get_within ts i u h))

-- ---- what is selected

whole : (o : Option Tree) → option_and_then (λ u. select u []) o ≡ o
whole None = refl
whole (Some t) = refl

select_item : (ts : List Tree) (i : ℕ) → select (list_of ts) (place (pos i) ∷ []) ≡ slice_get ts i
select_item ts i = whole (child (list_of ts) (place (pos i))) ∙ child_list ts i

abbrev word_tree : ℕ → Tree
word_tree m = int (signed_word m)

select_page : (ps : List (List ℕ)) (p : ℕ)
    → select (pages_tree ps) (place (pos p) ∷ []) ≡ option_map page_tree (slice_get ps p)
select_page ps p = select_item (map page_tree ps) p ∙ slice_get-map page_tree ps p

select_word : (ps : List (List ℕ)) (p i : ℕ)
    → select (pages_tree ps) (word_path p i) ≡ option_map word_tree (word_at ps p i)
select_word ps p i =
    ap (option_and_then (λ u. select u (place (pos i) ∷ [])))
    (child_list (map page_tree ps) p ∙ slice_get-map page_tree ps p)
    ∙ go (slice_get ps p)
  where
    go : (o : Option (List ℕ)) → option_and_then (λ u. select u (place (pos i) ∷ [])) (option_map page_tree o)
        ≡ option_map word_tree (option_and_then (λ (g : List ℕ). slice_get g i) o)
    go None = refl
    go (Some g) =
        select_item (map word_tree g) i ∙ slice_get-map word_tree g i

pub words_are_selected : WordsAreSelected
words_are_selected ps h p i = (
  λ m e. select_word ps p i ∙ ap (option_map word_tree) e,
  λ e. select_word ps p i ∙ ap (option_map word_tree) e,
  λ l. select_page ps p ∙ ap (option_map page_tree) (slice_get_past ps p l),
)

-- ---- what is set

-- an element of a list
set_item : (ts : List Tree) (i : ℕ) (u v : Tree) → slice_get ts i ≡ Some u → nat_eq (kind u) (kind v) ≡ true
    → set_at (place (pos i)) [] v (list_of ts) ≡ Some (list_of (slice_set ts i v))
set_item ts i u v h k =
    ap (λ o. if is_of_kind o v then put_item (of_items (items ts)) (pos i) v else None) (child_list ts i ∙ h)
    ∙ ap (λ b. if b then put_item (of_items (items ts)) (pos i) v else None) k
    ∙ exchange_list ts i u v h

-- something below an element
set_below : (ts : List Tree) (i : ℕ) (q : Part) (qs : List Part) (v u u' : Tree) → slice_get ts i ≡ Some u
    → set_at q qs v u ≡ Some u' → set_at (place (pos i)) (q ∷ qs) v (list_of ts) ≡ Some (list_of (slice_set ts i u'))
set_below ts i q qs v u u' h e =
    ap (through (list_of ts) (place (pos i)) (set_at q qs v))
    (below_child (list_of ts) u (place (pos i)) (child_list ts i ∙ h))
    ∙ ap (option_and_then (exchange (list_of ts) (place (pos i)))) e
    ∙ exchange_list ts i u u' h

-- a word of a page
set_in_page : (g : List ℕ) (i m x : ℕ) → slice_get g i ≡ Some m
    → set_at (place (pos i)) [] (int (signed_word x)) (page_tree g) ≡ Some (page_tree (slice_set g i x))
set_in_page g i m x h =
    set_item (map word_tree g) i (int (signed_word m)) (int (signed_word x))
    (slice_get-map word_tree g i ∙ ap (option_map word_tree) h) refl
    ∙ ap (λ l. Some (list_of l)) (sym (map_set word_tree g i x))

-- pages with another word, by the page that has it
with_word_is : (ps : List (List ℕ)) (p i x : ℕ) (g : List ℕ) → slice_get ps p ≡ Some g
    → with_word ps p i x ≡ slice_set ps p (slice_set g i x)
with_word_is [] p i x g h = absurd cc
with_word_is (f ∷ ps) zero i x g h = let e : f ≡ g = cc in ap (λ k. slice_set k i x ∷ ps) e
with_word_is (f ∷ ps) (suc p) i x g h = ap (λ l. f ∷ l) (with_word_is ps p i x g h)

pub words_are_set : WordsAreSet
words_are_set ps h p i m x e = go (slice_get ps p) refl e
  where
    go : (o : Option (List ℕ)) → slice_get ps p ≡ o → option_and_then (λ (g : List ℕ). slice_get g i) o ≡ Some m
        → set_at (place (pos p)) (place (pos i) ∷ []) (int (signed_word x)) (pages_tree ps)
        ≡ Some (pages_tree (with_word ps p i x))
    go None a b = absurd cc
    go (Some g) a b =
        set_below (map page_tree ps) p (place (pos i)) [] (int (signed_word x)) (page_tree g)
        (page_tree (slice_set g i x)) (slice_get-map page_tree ps p ∙ ap (option_map page_tree) a)
        (set_in_page g i m x b)
        ∙ ap (λ l. Some (list_of l)) (sym (map_set page_tree ps p (slice_set g i x)))
        ∙ ap (λ l. Some (pages_tree l)) (sym (with_word_is ps p i x g a))
