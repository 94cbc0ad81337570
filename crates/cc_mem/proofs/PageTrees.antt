-- Pages and words in the memory's tree: what a `get` of a page gives, and of a word.
use Rattle.std.proofs.Common.{◌≡◌, ℕ, zero, suc, ◌<◌, ◌≤◌, List, [], ◌∷◌, length, map, Option, Some, None, Bool, true, false, refl, sym, ap, ◌∙◌, arith}
use Rattle.std.specs.Prelude.{pos, min, nat_lt, is_some, if◌then◌else◌, option_map, option_and_then, slice_get}
use Rattle.std.proofs.lemmas.Bool.{ltb-false}
use Rattle.std.proofs.lemmas.List.{length-map}
use Rattle.std.proofs.lemmas.Option.{slice_get-map, slice_get_past}
use Rattle.mc_nbt.specs.Tree.{Tree, int, place, item_at, child, select}
use Rattle.mc_nbt.proofs.TreeLemmas.{of_items-items}
use Rattle.mc_cmd.specs.World.{number_of, count}
use Rattle.cc_line.specs.State.{number_at}
use Rattle.cc_page.specs.Pages.{IsPage, ArePages, signed_word, page_tree, pages_tree}

item_front : (ts : List Tree) (i : ℕ) → item_at ts (pos i) ≡ slice_get ts i
item_front ts i = go (nat_lt i (length ts)) refl
  where
    go : (b : Bool) → nat_lt i (length ts) ≡ b → option_and_then (slice_get ts) (if b then Some i else None) ≡ slice_get ts i
    go true e = refl
    go false e = sym (slice_get_past ts i (ltb-false i (length ts) e))

itself : (o : Option Tree) → option_and_then (λ u. select u []) o ≡ o
itself None = refl
itself (Some t) = refl

pub select_page : (ps : List (List ℕ)) (p : ℕ) → select (pages_tree ps) (place (pos p) ∷ []) ≡ option_map page_tree (slice_get ps p)
select_page ps p =
    itself (child (pages_tree ps) (place (pos p)))
    ∙ ap (λ l. item_at l (pos p)) (of_items-items (map page_tree ps)) ∙ item_front (map page_tree ps) p ∙ slice_get-map page_tree ps p

-- a page of the memory
pub page_there : (ps : List (List ℕ)) (p : ℕ) → ArePages ps → p < length ps → (g : List ℕ) × (slice_get ps p ≡ Some g) × IsPage g
page_there [] p a l = absurd (omega arith)
page_there (g ∷ ps) zero a l = (g, refl, a.0)
page_there (g ∷ ps) (suc p) a l = page_there ps p a.1 (omega arith)

page_number : (g : List ℕ) → IsPage g → number_of (page_tree g) ≡ pos 16384
page_number g i =
    ap (λ l. count (length l)) (of_items-items (map (λ m. int (signed_word m)) g))
    ∙ ap count (length-map g (λ m. int (signed_word m)) ∙ i.0)

-- the words of a page that stands, and 0 of one that doesn't
pub page_stands : (ps : List (List ℕ)) (p : ℕ) → ArePages ps → p < length ps → number_at (select (pages_tree ps) (place (pos p) ∷ [])) ≡ pos 16384
page_stands ps p a l =
    let g = page_there ps p a l in
    ap number_at (select_page ps p ∙ ap (option_map page_tree) g.1) ∙ page_number g.0 g.2

pub page_misses : (ps : List (List ℕ)) (p : ℕ) → length ps ≤ p → number_at (select (pages_tree ps) (place (pos p) ∷ [])) ≡ pos 0
page_misses ps p l = ap number_at (select_page ps p ∙ ap (option_map page_tree) (slice_get_past ps p l))

-- whether the first page stands
pub first_stands : (ps : List (List ℕ)) → ArePages ps → 1 ≤ length ps → is_some (select (pages_tree ps) (place (pos 0) ∷ [])) ≡ true
first_stands ps a l =
    let g = page_there ps 0 a (omega arith) in
    ap is_some (select_page ps 0 ∙ ap (option_map page_tree) g.1)

pub first_misses : is_some (select (pages_tree []) (place (pos 0) ∷ [])) ≡ false
first_misses = refl

-- the pages
pub pages_number : (ps : List (List ℕ)) → length ps ≤ 256 → number_of (pages_tree ps) ≡ pos (length ps)
pages_number ps f =
    let few : min (length ps) 2147483647 ≡ length ps = omega arith in
    ap (λ l. count (length l)) (of_items-items (map page_tree ps)) ∙ ap count (length-map ps page_tree) ∙ ap pos few
