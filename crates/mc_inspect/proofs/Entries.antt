-- The last of the frames below, as it is read.
use Rattle.std.proofs.Common.{◌≡◌, ◌+◌, ◌-◌, ◌≤◌, ℕ, zero, suc, List, [], ◌∷◌, ◌++◌, length, get_or, map, take, Some, refl, sym, ap, ap₂, ◌∙◌, arith}
use Rattle.std.proofs.lemmas.List.{same_from_push}
use Rattle.cc_line.specs.Key.{PieceId}
use Rattle.cc_line.specs.Running.{Kept}
use Rattle.cc_line.specs.View.{piece_view}
use Rattle.cc_told.proofs.Names.{not_empty}
use Rattle.pk_entries.specs.declared.entry.Entry.{Entry}
use Rattle.pk_entries.specs.View.{entry_view}
use Rattle.mc_inspect.specs.steps.Openings.{last_places_of}
use Rattle.mc_inspect.specs.steps.Ways.{IsFollowedBy}

-- ---- the last of a list

parted_at : {A : Type 0} (xs : List A) (i : ℕ) (x : A) → i + 1 ≡ length xs → x ≡ get_or xs i x → xs ≡ take i xs ++ x ∷ []
parted_at [] i x e s = absurd (omega arith)
parted_at (y ∷ []) zero x e s = ap (λ z. z ∷ []) (sym s)
parted_at (y ∷ (z ∷ ys)) zero x e s = absurd (omega arith)
parted_at (y ∷ ys) (suc i) x e s = ap (λ zs. y ∷ zs) (parted_at ys i x (omega arith) s)

pub parted_last : {A : Type 0} (xs : List A) (x : A) → 1 ≤ length xs → x ≡ get_or xs (length xs - 1) x → xs ≡ take (length xs - 1) xs ++ x ∷ []
parted_last xs x some s = parted_at xs (length xs - 1) x (omega arith) s

last_places_at : (es : List Entry) (e : Entry) → last_places_of (es ++ e ∷ []) ≡ e.places.items
last_places_at [] e = refl
last_places_at (x ∷ []) e = refl
last_places_at (x ∷ y ∷ es) e = last_places_at (y ∷ es) e

pub last_read : (es : List Entry) (e : Entry) → 1 ≤ length es → e ≡ get_or es (length es - 1) e → last_places_of es ≡ e.places.items
last_read es e some s = ap last_places_of (parted_last es e some s) ∙ last_places_at (take (length es - 1) es) e

-- ---- among others

-- the last one of a list, from the last one of what a function makes of it
record Last {A B : Type 0} (f : A → B) (xs : List A) (ys : List B) (y : B) : Type 0 where
  others : List A
  last : A
  parts : xs ≡ others ++ last ∷ []
  others_are : map f others ≡ ys
  last_is : f last ≡ y

last_of : {A B : Type 0} (f : A → B) (xs : List A) (ys : List B) (y : B) → map f xs ≡ ys ++ y ∷ [] → Last f xs ys y
last_of f [] ys y e = absurd (not_empty ys y e)
last_of f (x ∷ []) [] y e = let is : f x ≡ y = cc in record { others = []; last = x; parts = refl; others_are = refl; last_is = is }
last_of f (x ∷ z ∷ xs) [] y e = absurd cc
last_of f (x ∷ xs) (w ∷ ys) y e =
    let first : f x ≡ w = cc in
    let more : map f xs ≡ ys ++ y ∷ [] = cc in
    let l = last_of f xs ys y more in
    record {
      others = x ∷ l.others;
      last = l.last;
      parts = ap (λ zs. x ∷ zs) l.parts;
      others_are = ap₂ (λ z zs. z ∷ zs) first l.others_are;
      last_is = l.last_is;
    }

module _ (es : List Entry) (rest : List Kept) (k : Kept) (are : map entry_view es ≡ rest ++ k ∷ []) where
  abbrev it : Last entry_view es rest k
  it = last_of entry_view es rest k are

  pub its_places : last_places_of es ≡ k.places
  its_places = ap last_places_of it.parts ∙ last_places_at it.others it.last ∙ ap (λ (b : Kept). b.places) it.last_is

  -- there is another one under it
  pub followed_there : (rest ≡ [] → ⊥) → (i : PieceId) → k.follows ≡ i → IsFollowedBy (Some es) i
  followed_there some i follows = go it.others it.parts it.others_are
    where
      go : (os : List Entry) → es ≡ os ++ it.last ∷ [] → map entry_view os ≡ rest → IsFollowedBy (Some es) i
      go [] parts none = absurd (some (sym none))
      go (first ∷ os) parts others = (first, os, it.last, parts, ap (λ (b : Kept). b.follows) it.last_is ∙ follows)

  pub followed_by : (i : PieceId) → IsFollowedBy (Some es) i → k.follows ≡ i
  followed_by i (first, os, last, parts, is) =
      let same = same_from_push (first ∷ os) it.others last it.last (sym parts ∙ it.parts) in
      sym (ap (λ (b : Kept). b.follows) it.last_is) ∙ ap (λ (e : Entry). piece_view e.follows) (sym same.1) ∙ is
