-- Maps from names, after an entry is written.
use Rattle.std.proofs.Common.{◌≡◌, List, [], ◌∷◌, Option, Some, None, Bool, true, false, cond, refl, sym, ap, ◌∙◌}
use Rattle.std.specs.Prelude.{if◌then◌else◌, is_some, string_bytes, String}
use Rattle.std.specs.Map.{lookup, set_value}
use Rattle.std.specs.Str.{bytes_eq}
use Rattle.std.specs.String.{string_eq}
use Rattle.std.proofs.lemmas.Slice.Eq.{bytes_eq-Decides}
use Rattle.indexmap.specs.IndexMap.{IndexMap, insert_entry}
use Rattle.mc_cmd.specs.Form.{Text}
use Rattle.mc_world.specs.NamedMap.{name_get}

abbrev pub is_named : {A : Type 0} → Text → String A → Bool
is_named i k = bytes_eq i (string_bytes k)

abbrev pub under : {A X : Type 0} → List (String A × X) → Text → Option X
under es i = lookup (is_named i) es

same_as : {A : Type 0} (i : Text) (k : String A) → is_named i k ≡ true → i ≡ string_bytes k
same_as i k e = (bytes_eq-Decides i (string_bytes k)).0 e

differs : {B : Type 0} (i j : Text) → i ≡ j → bytes_eq i j ≡ false → B
differs i j e g = let yes : bytes_eq i j ≡ true = (bytes_eq-Decides i j).1 e in absurd cc

module _ {A X : Type 0} where
  -- a value written where a name stands
  pub value_set : (es : List (String A × X)) (i : Text) (w : X) → is_some (under es i) ≡ true → (j : Text) → under (set_value (is_named i) es w) j ≡ (if bytes_eq i j then Some w else under es j)
  value_set [] i w h j = absurd cc
  value_set (e ∷ es) i w h j = go (is_named i e.0) refl h (is_named j e.0) refl (bytes_eq i j) refl (λ g. value_set es i w g j)
    where
      go : (x : Bool) → is_named i e.0 ≡ x → is_some (cond x (Some e.1) (under es i)) ≡ true → (y : Bool) → is_named j e.0 ≡ y → (z : Bool) → bytes_eq i j ≡ z
          → (is_some (under es i) ≡ true → under (set_value (is_named i) es w) j ≡ (if z then Some w else under es j))
          → under (cond x ((e.0, w) ∷ es) (e ∷ set_value (is_named i) es w)) j ≡ (if z then Some w else cond y (Some e.1) (under es j))
      go true d g true f true h ih = ap (λ q. cond q (Some w) (under es j)) f
      go true d g true f false h ih = differs i j (same_as i e.0 d ∙ sym (same_as j e.0 f)) h
      go true d g false f true h ih = differs j (string_bytes e.0) (sym ((bytes_eq-Decides i j).0 h) ∙ same_as i e.0 d) f
      go true d g false f false h ih = ap (λ q. cond q (Some w) (under es j)) f
      go false d g true f true h ih = differs i (string_bytes e.0) ((bytes_eq-Decides i j).0 h ∙ same_as j e.0 f) d
      go false d g true f false h ih = ap (λ q. cond q (Some e.1) (under (set_value (is_named i) es w) j)) f
      go false d g false f z h ih = ap (λ q. cond q (Some e.1) (under (set_value (is_named i) es w) j)) f ∙ ih g

  -- a value put under a name
  pub value_put : (es : List (String A × X)) (k : String A) (w : X) (j : Text) → under (insert_entry string_eq es k w) j ≡ (if bytes_eq (string_bytes k) j then Some w else under es j)
  value_put [] k w j = go (is_named j k) refl (bytes_eq (string_bytes k) j) refl
    where
      go : (x : Bool) → is_named j k ≡ x → (y : Bool) → bytes_eq (string_bytes k) j ≡ y → cond (is_named j k) (Some w) None ≡ (if y then Some w else None)
      go true d true f = ap (λ q. cond q (Some w) None) d
      go true d false f = differs (string_bytes k) j (sym (same_as j k d)) f
      go false d true f = differs j (string_bytes k) (sym ((bytes_eq-Decides (string_bytes k) j).0 f)) d
      go false d false f = ap (λ q. cond q (Some w) None) d
  value_put (e ∷ es) k w j = go (string_eq k e.0) refl (is_named j e.0) refl (bytes_eq (string_bytes k) j) refl (value_put es k w j)
    where
      is : (l : Text) → bytes_eq (string_bytes k) l ≡ true → string_bytes k ≡ l
      is l e = (bytes_eq-Decides (string_bytes k) l).0 e

      go : (x : Bool) → string_eq k e.0 ≡ x → (y : Bool) → is_named j e.0 ≡ y → (z : Bool) → bytes_eq (string_bytes k) j ≡ z
          → under (insert_entry string_eq es k w) j ≡ (if z then Some w else under es j)
          → under (if x then (e.0, w) ∷ es else e ∷ insert_entry string_eq es k w) j ≡ (if z then Some w else cond y (Some e.1) (under es j))
      go true d true f true h ih = ap (λ q. cond q (Some w) (under es j)) f
      go true d true f false h ih = differs (string_bytes k) j (is (string_bytes e.0) d ∙ sym (same_as j e.0 f)) h
      go true d false f true h ih = differs j (string_bytes e.0) (sym (is j h) ∙ is (string_bytes e.0) d) f
      go true d false f false h ih = ap (λ q. cond q (Some w) (under es j)) f
      go false d true f true h ih = differs (string_bytes k) (string_bytes e.0) (is j h ∙ same_as j e.0 f) d
      go false d true f false h ih = ap (λ q. cond q (Some e.1) (under (insert_entry string_eq es k w) j)) f
      go false d false f z h ih = ap (λ q. cond q (Some e.1) (under (insert_entry string_eq es k w) j)) f ∙ ih

-- a map with a value at a name, and all else as before
abbrev pub IsWritten : {A X S : Type 0} → IndexMap (String A) X S → IndexMap (String A) X S → Text → X → Type 0
IsWritten m n i x = (j : Text) → name_get n j ≡ (if bytes_eq i j then Some x else name_get m j)

module _ {A X S : Type 0} (m n : IndexMap (String A) X S) (i : Text) (x : X) where
  -- written where the name stands
  pub set_written : (q : Text) (y : X) → q ≡ i → Some y ≡ under m.entries q → n.entries ≡ set_value (is_named q) m.entries x → IsWritten m n i x
  set_written q y same found e j =
      ap (λ es. under es j) e ∙ ap (λ r. under (set_value (is_named r) m.entries x) j) same
      ∙ value_set m.entries i x (sym (ap is_some (found ∙ ap (under m.entries) same))) j

  -- put where none stands
  pub put_written : (k : String A) → string_bytes k ≡ i → n.entries ≡ insert_entry string_eq m.entries k x → IsWritten m n i x
  put_written k same e j =
      ap (λ es. under es j) e ∙ value_put m.entries k x j ∙ ap (λ r. if bytes_eq r j then Some x else under m.entries j) same
