-- The order of keys, and the fields of a compound in it.
use Rattle.std.proofs.Common.{◌≡◌, ℕ, List, [], ◌∷◌, Option, Some, None, Bool, true, false, refl, sym, ap, ◌∙◌}
use Rattle.std.specs.Prelude.{◌&&◌, if◌then◌else◌}
use Rattle.std.specs.Str.{bytes_eq}
use Rattle.std.specs.declared.cmp.Ordering.{Ordering}
use Rattle.std.specs.declared.cmp.Ordering.TheVariants.{Less, Equal, Greater}
use Rattle.std.specs.Ordering.{nat_cmp, is_lt, is_eq, ordering_reverse}
use Rattle.std.specs.Cmp.Lexicographic.{slice_cmp}
use Rattle.std.proofs.lemmas.Cmp.{nat_list_cmp_total}
use Rattle.std.proofs.lemmas.Map.Text.{is_eq-slice_cmp}
use Rattle.std.proofs.lemmas.Slice.Eq.{bytes_eq-Decides}
use Rattle.std.proofs.lemmas.Bool.{and_parts, and_from}
use Rattle.mc_nbt.specs.Word.{comes_before}
use Rattle.mc_nbt.specs.Shape.{rise_after, is_rising}
use Rattle.mc_nbt.specs.Tree.{Tree, find, replace, insert, put, put_found, without}

lt_is_less : (o : Ordering) → is_lt o ≡ true → o ≡ Less
lt_is_less Less h = refl
lt_is_less Equal h = absurd cc
lt_is_less Greater h = absurd cc

pub comes_before_trans : (a b c : List ℕ) → comes_before a b ≡ true → comes_before b c ≡ true → comes_before a c ≡ true
comes_before_trans a b c h g = ap is_lt (nat_list_cmp_total.trans a b c (lt_is_less _ h) (lt_is_less _ g))

-- of two keys that differ one comes first
pub comes_before_other : (a b : List ℕ) → bytes_eq a b ≡ false → comes_before a b ≡ false → comes_before b a ≡ true
comes_before_other a b h g = ap is_lt (nat_list_cmp_total.antisymm b a) ∙ go (slice_cmp nat_cmp a b) (is_eq-slice_cmp a b ∙ h) g
  where
    go : (o : Ordering) → is_eq o ≡ false → is_lt o ≡ false → is_lt (ordering_reverse o) ≡ true
    go Less h g = absurd cc
    go Equal h g = absurd cc
    go Greater h g = refl

pub comes_before_differs : (a b : List ℕ) → comes_before a b ≡ true → bytes_eq a b ≡ false
comes_before_differs a b h = sym (is_eq-slice_cmp a b) ∙ ap is_eq (lt_is_less _ h)

-- what comes first still does with other values or fewer fields
pub rise_after_earlier : (a b : List ℕ) (es : List (List ℕ × Tree)) → comes_before a b ≡ true → rise_after b es ≡ true → rise_after a es ≡ true
rise_after_earlier a b [] h g = refl
rise_after_earlier a b (e ∷ es) h g =
    let r = and_parts (comes_before b e.0) (rise_after e.0 es) g in
    and_from _ _ (comes_before_trans a b e.0 h r.0) r.1

is_rising_after : (a : List ℕ) (es : List (List ℕ × Tree)) → rise_after a es ≡ true → is_rising es ≡ true
is_rising_after a [] h = refl
is_rising_after a (e ∷ es) h = (and_parts (comes_before a e.0) (rise_after e.0 es) h).1

rise_after_replace : (a k : List ℕ) (v : Tree) (es : List (List ℕ × Tree)) → rise_after a (replace k v es) ≡ rise_after a es
rise_after_replace a k v [] = refl
rise_after_replace a k v (e ∷ es) = go (bytes_eq k e.0) (rise_after_replace e.0 k v es)
  where
    go : (b : Bool) → rise_after e.0 (replace k v es) ≡ rise_after e.0 es → rise_after a (if b then (e.0, v) ∷ es else e ∷ replace k v es) ≡ comes_before a e.0 && rise_after e.0 es
    go true ih = refl
    go false ih = ap (λ b. comes_before a e.0 && b) ih

is_rising_replace : (k : List ℕ) (v : Tree) (es : List (List ℕ × Tree)) → is_rising (replace k v es) ≡ is_rising es
is_rising_replace k v [] = refl
is_rising_replace k v (e ∷ es) = go (bytes_eq k e.0)
  where
    go : (b : Bool) → is_rising (if b then (e.0, v) ∷ es else e ∷ replace k v es) ≡ rise_after e.0 es
    go true = refl
    go false = rise_after_replace e.0 k v es

-- a new key before the first greater one
not_first : {A : Type 0} (b : Bool) (x y : Option A) (z : A) → y ≡ Some z → (if b then y else x) ≡ None → (b ≡ false) × (x ≡ None)
not_first true x y z e h = absurd cc
not_first false x y z e h = (refl, h)

find_none_parts : (k : List ℕ) (e : List ℕ × Tree) (es : List (List ℕ × Tree)) → find k (e ∷ es) ≡ None → (bytes_eq k e.0 ≡ false) × (find k es ≡ None)
find_none_parts k e es h = not_first (bytes_eq k e.0) (find k es) (Some e.1) e.1 refl h

rise_after_insert : (a k : List ℕ) (v : Tree) (es : List (List ℕ × Tree)) → comes_before a k ≡ true → find k es ≡ None → rise_after a es ≡ true → rise_after a (insert k v es) ≡ true
rise_after_insert a k v [] h f r = and_from _ _ h refl
rise_after_insert a k v (e ∷ es) h f r = go (comes_before k e.0) refl (λ c. rise_after_insert e.0 k v es c (find_none_parts k e es f).1 (and_parts (comes_before a e.0) (rise_after e.0 es) r).1)
  where
    go : (b : Bool) → comes_before k e.0 ≡ b → (comes_before e.0 k ≡ true → rise_after e.0 (insert k v es) ≡ true) → rise_after a (if b then (k, v) ∷ e ∷ es else e ∷ insert k v es) ≡ true
    go true c ih = and_from _ _ h (and_from _ _ c (and_parts (comes_before a e.0) (rise_after e.0 es) r).1)
    go false c ih = and_from _ _ (and_parts (comes_before a e.0) (rise_after e.0 es) r).0 (ih (comes_before_other k e.0 (find_none_parts k e es f).0 c))

is_rising_insert : (k : List ℕ) (v : Tree) (es : List (List ℕ × Tree)) → find k es ≡ None → is_rising es ≡ true → is_rising (insert k v es) ≡ true
is_rising_insert k v [] f r = refl
is_rising_insert k v (e ∷ es) f r = go (comes_before k e.0) refl
  where
    go : (b : Bool) → comes_before k e.0 ≡ b → is_rising (if b then (k, v) ∷ e ∷ es else e ∷ insert k v es) ≡ true
    go true c = and_from _ _ c r
    go false c = rise_after_insert e.0 k v es (comes_before_other k e.0 (find_none_parts k e es f).0 c) (find_none_parts k e es f).1 r

pub is_rising_put : (k : List ℕ) (v : Tree) (es : List (List ℕ × Tree)) → is_rising es ≡ true → is_rising (put k v es) ≡ true
is_rising_put k v es r = go (find k es) refl
  where
    go : (o : Option Tree) → find k es ≡ o → is_rising (put_found o k v es) ≡ true
    go None f = is_rising_insert k v es f r
    go (Some u) f = is_rising_replace k v es ∙ r

-- a key before all others is none of them
pub find_rise_after : (k : List ℕ) (es : List (List ℕ × Tree)) → rise_after k es ≡ true → find k es ≡ None
find_rise_after k [] r = refl
find_rise_after k (e ∷ es) r =
    let g = and_parts (comes_before k e.0) (rise_after e.0 es) r in
    ap (λ b. if b then Some e.1 else find k es) (comes_before_differs k e.0 g.0) ∙ find_rise_after k es (rise_after_earlier k e.0 es g.0 g.1)

-- a field left out
rise_after_without : (a k : List ℕ) (es : List (List ℕ × Tree)) → rise_after a es ≡ true → rise_after a (without k es) ≡ true
rise_after_without a k [] r = refl
rise_after_without a k (e ∷ es) r = go (bytes_eq k e.0) (and_parts (comes_before a e.0) (rise_after e.0 es) r) (λ g. rise_after_without e.0 k es g)
  where
    go : (b : Bool) → (comes_before a e.0 ≡ true) × (rise_after e.0 es ≡ true) → (rise_after e.0 es ≡ true → rise_after e.0 (without k es) ≡ true) → rise_after a (if b then es else e ∷ without k es) ≡ true
    go true g ih = rise_after_earlier a e.0 es g.0 g.1
    go false g ih = and_from _ _ g.0 (ih g.1)

pub is_rising_without : (k : List ℕ) (es : List (List ℕ × Tree)) → is_rising es ≡ true → is_rising (without k es) ≡ true
is_rising_without k [] r = refl
is_rising_without k (e ∷ es) r = go (bytes_eq k e.0)
  where
    go : (b : Bool) → is_rising (if b then es else e ∷ without k es) ≡ true
    go true = is_rising_after e.0 es r
    go false = rise_after_without e.0 k es r

pub find_without : (k : List ℕ) (es : List (List ℕ × Tree)) → is_rising es ≡ true → find k (without k es) ≡ None
find_without k [] r = refl
find_without k (e ∷ es) r = go (bytes_eq k e.0) refl (find_without k es (is_rising_after e.0 es r))
  where
    go : (b : Bool) → bytes_eq k e.0 ≡ b → find k (without k es) ≡ None → find k (if b then es else e ∷ without k es) ≡ None
    go true q ih = find_rise_after k es (ap (λ a. rise_after a es) ((bytes_eq-Decides k e.0).0 q) ∙ r)
    go false q ih = ap (λ b. if b then Some e.1 else find k (without k es)) q ∙ ih
