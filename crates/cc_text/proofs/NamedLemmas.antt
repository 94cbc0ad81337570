-- Lists of helpers by their names, joined: names that begin otherwise are other names.
use Rattle.std.proofs.Common.{◌≡◌, ◌∙◌, ap, refl, sym, ℕ, zero, suc, ◌<◌, List, [], ◌∷◌, ◌++◌, length, Bool, true, false, Option, Some, None, arith, ⊎_elim}
use Rattle.std.specs.Prelude.{◌&&◌, if◌then◌else◌, nat_eq}
use Rattle.std.specs.Str.{bytes_eq}
use Rattle.std.proofs.lemmas.Bool.{cases_lt, eqb-true}
use Rattle.std.proofs.lemmas.Slice.Eq.{bytes_eq-Decides}
use Rattle.mc_nbt.proofs.TreeLemmas.{bytes_refl}
use Rattle.mc_cmd.specs.Form.{Text}
use Rattle.mc_cmd.specs.Chain.{Texts}
use Rattle.mc_cmd.proofs.FormLemmas.{and_both, and_first, and_second}
use Rattle.cc_text.specs.Tables.{all_begin, begins, IsWithin, lines_named, NamedHelper, numbered, unlike}

-- ---- beginnings

pub begins_other : (p q f : Text) → unlike p q ≡ true → begins q f ≡ true → begins p f ≡ false
begins_other [] q f u b = absurd cc
begins_other (x ∷ p) [] f u b = absurd cc
begins_other (x ∷ p) (y ∷ q) [] u b = absurd cc
begins_other (x ∷ p) (y ∷ q) (z ∷ f) u b = go (nat_eq x z) refl (begins_other p q f)
  where
    go : (d : Bool) → nat_eq x z ≡ d → (unlike p q ≡ true → begins q f ≡ true → begins p f ≡ false) → d && begins p f ≡ false
    go false e more = refl
    go true e more =
        let xz : x ≡ z = eqb-true x z e in
        let yz : y ≡ z = eqb-true y z (and_first (nat_eq y z) _ b) in
        let same : nat_eq x y ≡ true = ap (λ n. nat_eq x n) (yz ∙ sym xz) ∙ ap (λ n. nat_eq x n) xz ∙ e in
        more (sym (ap (λ c. if c then unlike p q else true) same) ∙ u) (and_second (nat_eq y z) _ b)

-- a name that is found begins as all do
pub found_begins : (q : Text) (hs : List NamedHelper) (ns f : Text) (ts : Texts) → all_begin q hs ≡ true → lines_named hs ns f ≡ Some ts → begins q f ≡ true
found_begins q [] ns f ts b e = absurd cc
found_begins q (h ∷ hs) ns f ts b e = go (bytes_eq h.name f) refl e (found_begins q hs ns f ts)
  where
    go : (d : Bool) → bytes_eq h.name f ≡ d → (if d then Some (h.lines ns) else lines_named hs ns f) ≡ Some ts → (all_begin q hs ≡ true → lines_named hs ns f ≡ Some ts → begins q f ≡ true) → begins q f ≡ true
    go true k e more = ap (begins q) (sym ((bytes_eq-Decides h.name f).0 k)) ∙ and_first (begins q h.name) _ b
    go false k e more = more (and_second (begins q h.name) _ b) e

-- and one that begins otherwise isn't found
not_found : (p : Text) (hs : List NamedHelper) (ns f : Text) → all_begin p hs ≡ true → begins p f ≡ false → lines_named hs ns f ≡ None
not_found p [] ns f b o = refl
not_found p (h ∷ hs) ns f b o = go (bytes_eq h.name f) refl (not_found p hs ns f (and_second (begins p h.name) _ b) o)
  where
    go : (d : Bool) → bytes_eq h.name f ≡ d → lines_named hs ns f ≡ None → (if d then Some (h.lines ns) else lines_named hs ns f) ≡ None
    go false k more = more
    go true k more = absurd (let e : true ≡ false = sym (and_first (begins p h.name) _ b) ∙ ap (begins p) ((bytes_eq-Decides h.name f).0 k) ∙ o in cc)

pub both_begin : (p : Text) (hs gs : List NamedHelper) → all_begin p hs ≡ true → all_begin p gs ≡ true → all_begin p (hs ++ gs) ≡ true
both_begin p [] gs a b = b
both_begin p (h ∷ hs) gs a b = and_both (begins p h.name) _ (and_first (begins p h.name) _ a) (both_begin p hs gs (and_second (begins p h.name) _ a) b)

-- ---- lists within others

pub all_within : (all : List NamedHelper) → IsWithin all all
all_within all ns f ts e = e

pub within_front : (hs gs : List NamedHelper) → IsWithin hs (hs ++ gs)
within_front [] gs ns f ts e = absurd cc
within_front (h ∷ hs) gs ns f ts e = go (bytes_eq h.name f) e (within_front hs gs ns f ts)
  where
    go : (d : Bool) → (if d then Some (h.lines ns) else lines_named hs ns f) ≡ Some ts → (lines_named hs ns f ≡ Some ts → lines_named (hs ++ gs) ns f ≡ Some ts) → (if d then Some (h.lines ns) else lines_named (hs ++ gs) ns f) ≡ Some ts
    go true e more = e
    go false e more = more e

behind : (hs gs : List NamedHelper) (ns f : Text) → lines_named hs ns f ≡ None → lines_named (hs ++ gs) ns f ≡ lines_named gs ns f
behind [] gs ns f e = refl
behind (h ∷ hs) gs ns f e = go (bytes_eq h.name f) e (behind hs gs ns f)
  where
    go : (d : Bool) → (if d then Some (h.lines ns) else lines_named hs ns f) ≡ None → (lines_named hs ns f ≡ None → lines_named (hs ++ gs) ns f ≡ lines_named gs ns f) → (if d then Some (h.lines ns) else lines_named (hs ++ gs) ns f) ≡ lines_named gs ns f
    go true e more = absurd cc
    go false e more = more e

-- behind helpers whose names begin otherwise
pub within_behind : (p q : Text) (hs own gs : List NamedHelper) → unlike p q ≡ true → all_begin p hs ≡ true → all_begin q own ≡ true → IsWithin own gs → IsWithin own (hs ++ gs)
within_behind p q hs own gs u a b w ns f ts e =
    behind hs gs ns f (not_found p hs ns f a (begins_other p q f u (found_begins q own ns f ts b e))) ∙ w ns f ts e

-- ---- those of numbers

-- where the names of numbers differ
pub numbered_found : (f : ℕ → NamedHelper) (k n : ℕ) (ns : Text) → ((j : ℕ) → j < k → (f j).name ≡ (f n).name → j ≡ n) → n < k → lines_named (numbered f k) ns (f n).name ≡ Some ((f n).lines ns)
numbered_found f zero n ns other h = absurd (omega arith)
numbered_found f (suc k) n ns other h = go (bytes_eq (f k).name (f n).name) refl (numbered_found f k n ns (λ j l. other j (omega arith)))
  where
    less : (k n : ℕ) → n < suc k → (k ≡ n → ⊥) → n < k
    less k n h o = ⊎_elim (λ l. l) (λ g. absurd (o (let e : k ≡ n = omega arith in e))) (cases_lt n k)

    go : (d : Bool) → bytes_eq (f k).name (f n).name ≡ d → (n < k → lines_named (numbered f k) ns (f n).name ≡ Some ((f n).lines ns)) → (if d then Some ((f k).lines ns) else lines_named (numbered f k) ns (f n).name) ≡ Some ((f n).lines ns)
    go true e more = ap (λ j. Some ((f j).lines ns)) (other k (omega arith) ((bytes_eq-Decides (f k).name (f n).name).0 e))
    go false e more = more (less k n h (λ s. absurd (let q : true ≡ false = sym (bytes_refl (f n).name) ∙ ap (λ j. bytes_eq (f j).name (f n).name) (sym s) ∙ e in cc)))

pub numbered_begin : (p : Text) (f : ℕ → NamedHelper) (k : ℕ) → ((n : ℕ) → begins p (f n).name ≡ true) → all_begin p (numbered f k) ≡ true
numbered_begin p f zero b = refl
numbered_begin p f (suc k) b = and_both (begins p (f k).name) _ (b k) (numbered_begin p f k b)

pub numbered_long : (f : ℕ → NamedHelper) (k : ℕ) → length (numbered f k) ≡ k
numbered_long f zero = refl
numbered_long f (suc k) = ap suc (numbered_long f k)
