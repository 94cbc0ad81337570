-- Entries made key by key.
use Rattle.std.proofs.Common.{◌≡◌, ℕ, ◌+◌, ◌<◌, ◌≤◌, List, length, take, drop, get_or, min, sym, ap, ◌∙◌, arith}
use Rattle.std.specs.Prelude.{ℤ, pos, if◌then◌else◌}
use Rattle.std.specs.Fmt.{decimal}
use Rattle.std.proofs.lemmas.Bool.{lt-ltb, le-ltb}
use Rattle.std.proofs.lemmas.List.{drop_more, take_min}
use Rattle.mc_nbt.specs.Tree.{Tree, int, compound_of, put}
use Rattle.mc_nbt.proofs.TreeLemmas.{of_fields-fields}
use Rattle.cc_line.specs.Place.{score_places}
use Rattle.cc_line.specs.Key.{key_list}
use Rattle.cc_line.specs.State.{ints}
use Rattle.cc_line.specs.Running.{Kept, with_field, with_places, with_rest, bare_entry, entry_tree}

-- one field more
field_put : (es gs : List (List ℕ × Tree)) (k l : List ℕ) (u : Tree) → k ≡ l → gs ≡ put k u es
    → compound_of gs ≡ with_field (compound_of es) l u
field_put es gs k l u n e =
    ap (λ x. compound_of x) (e ∙ ap (λ j. put j u es) n ∙ ap (λ x. put l u x) (sym (of_fields-fields es)))

-- ---- a place each

-- in a loop that puts them: those from i on are left
pub place_put : (zs : List ℤ) (i : ℕ) (z : ℤ) (k : List ℕ) (es gs : List (List ℕ × Tree)) (u v : Tree) → i < length zs
    → z ≡ get_or zs i (pos 0) → k ≡ decimal i → u ≡ int z → gs ≡ put k u es
    → with_places i (drop i zs) (compound_of es) ≡ v → with_places (i + 1) (drop (i + 1) zs) (compound_of gs) ≡ v
place_put zs i z k es gs u v l r n w e h =
    let x : i + 1 ≡ 1 + i = omega arith in
    ap (λ j. with_places j (drop (i + 1) zs) (compound_of gs)) x
    ∙ ap (λ t. with_places (1 + i) (drop (i + 1) zs) t) (field_put es gs k (decimal i) u n e)
    ∙ ap (λ t. with_places (1 + i) (drop (i + 1) zs) (with_field (compound_of es) (decimal i) t)) (w ∙ ap int r)
    ∙ ap (λ l. with_places i l (compound_of es)) (sym (drop_more zs i (pos 0) l))
    ∙ h

-- ---- the list

pub no_rest : (zs : List ℤ) (t : Tree) → length zs ≤ 128 → t ≡ with_rest zs t
no_rest zs t l = ap (λ b. if b then with_field t key_list (ints (drop score_places zs)) else t) (sym (le-ltb score_places (length zs) l))

pub rest_put : (zs xs : List ℤ) (k : List ℕ) (u : Tree) (es gs : List (List ℕ × Tree)) → 128 < length zs → xs ≡ drop 128 zs → k ≡ key_list
    → u ≡ ints xs → gs ≡ put k u es → compound_of gs ≡ with_rest zs (compound_of es)
rest_put zs xs k u es gs l d n w e =
    field_put es gs k key_list u n e
    ∙ ap (λ t. with_field (compound_of es) key_list t) (w ∙ ap (λ ys. ints ys) d)
    ∙ ap (λ b. if b then with_field (compound_of es) key_list (ints (drop score_places zs)) else compound_of es) (sym (lt-ltb score_places (length zs) l))

-- ---- an entry

pub entry_made : (b : Kept) (xs : List ℤ) (saved : ℕ) (es fs gs : List (List ℕ × Tree)) (n : ℕ) → saved ≡ min (length b.places) 128 → xs ≡ take saved b.places
    → n ≡ saved → compound_of es ≡ bare_entry b.follows n → compound_of fs ≡ with_places 0 xs (compound_of es)
    → compound_of gs ≡ with_rest b.places (compound_of fs) → compound_of gs ≡ entry_tree b
entry_made b xs saved es fs gs n s x m e f g =
    let r : saved ≡ min score_places (length b.places) = omega arith in
    g ∙ ap (λ t. with_rest b.places t)
    (f ∙ ap (λ l. with_places 0 l (compound_of es)) (x ∙ ap (λ j. take j b.places) r ∙ take_min score_places b.places)
    ∙ ap (λ t. with_places 0 (take score_places b.places) t) (e ∙ ap (λ j. bare_entry b.follows j) (m ∙ s)))
