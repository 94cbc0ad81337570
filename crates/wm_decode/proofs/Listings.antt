-- Vectors, bytes and names: what is read is spelled, and what is spelled is read, whatever follows.
use Rattle.std.proofs.Common.{◌≡◌, ℕ, zero, suc, ◌<◌, false, ltb, List, [], ◌∷◌, ◌++◌, length, take, drop, Option, Some, refl, sym, ap, subst, ◌∙◌, append_assoc, length-append, arith}
use Rattle.std.specs.Str.{is_utf8}
use Rattle.std.proofs.lemmas.Bool.{ltb-false, le-ltb}
use Rattle.std.proofs.lemmas.List.{append-nil, take_at, drop_at, take-append-drop, length-take-le}
use Rattle.std.proofs.lemmas.Str.{IsUtf8-from_is_utf8, is_utf8-from_IsUtf8}
use Rattle.wm_ast.specs.Number.{IsUnsigned}
use Rattle.wm_ast.specs.Vector.{SpellsEach, SpellsVector, SpellsIndex, SpellsBytes, SpellsName}
use Rattle.wm_frame.specs.Front.{AtFront}
use Rattle.wm_frame.specs.Reading.{Reader, unsigned_at}
use Rattle.wm_frame.proofs.NumberLaws.{unsigned_reads}
use Rattle.wm_frame.proofs.Readers.{IsBytes, IsBytes-after, Reads, some_is, if_some, if_none, bind_some}
use Rattle.wm_decode.specs.steps.Listing.{times_at, three_at, list_at, bytes_at, name_at, with_rest, whole}

-- what two readers read, one after the other
pub joined : (bytes a b mid rest : List ℕ) → bytes ≡ a ++ mid → mid ≡ b ++ rest → bytes ≡ (a ++ b) ++ rest
joined bytes a b mid rest p q = p ∙ ap (λ (l : List ℕ). a ++ l) q ∙ sym (append_assoc a b rest)

-- a byte before them
pub prefixed : (k : ℕ) (bytes mid front rest : List ℕ) → bytes ≡ k ∷ mid → mid ≡ front ++ rest → bytes ≡ (k ∷ front) ++ rest
prefixed k bytes mid front rest p q = p ∙ ap (λ (l : List ℕ). k ∷ l) q

pub begun : (b k : ℕ) (bytes front rest : List ℕ) → b ≡ k → bytes ≡ front ++ rest → (b ∷ bytes) ≡ (k ∷ front) ++ rest
begun b k bytes front rest p q = ap (λ n. n ∷ bytes) p ∙ ap (λ (l : List ℕ). k ∷ l) q

pub regrouped : (front a b rest : List ℕ) → front ≡ a ++ b → front ++ rest ≡ a ++ (b ++ rest)
regrouped front a b rest e = ap (λ (l : List ℕ). l ++ rest) e ∙ append_assoc a b rest

-- A value of three parts, spelled one after the other.
abbrev pub OfThree : {A B C D : Type 0} → (A → List ℕ → Type 0) → (B → List ℕ → Type 0) → (C → List ℕ → Type 0) → (D → A) → (D → B) → (D → C) → D → List ℕ → Type 0
OfThree G H I p q w d bytes = (x : List ℕ) × (y : List ℕ) × (z : List ℕ) × G (p d) x × H (q d) y × I (w d) z × (bytes ≡ x ++ (y ++ z))

-- where each part is read, the value is
pub three_reads : {A B C D : Type 0} {G : A → List ℕ → Type 0} {H : B → List ℕ → Type 0} {I : C → List ℕ → Type 0} {r : Reader A} {s : Reader B} {t : Reader C} (p : D → A) (q : D → B) (w : D → C) (make : A → B → C → D)
    → ((d : D) → make (p d) (q d) (w d) ≡ d) → ((a : A) (b : B) (c : C) → (p (make a b c) ≡ a) × (q (make a b c) ≡ b) × (w (make a b c) ≡ c))
    → Reads G r → Reads H s → Reads I t → Reads (OfThree G H I p q w) (three_at r s t make)
three_reads {A} {B} {C} {D} {G} {H} {I} {r} {s} {t} p q w make back parts of_a of_b of_c = record { again = again; takes = takes }
  where
    again : (front : List ℕ) (d : D) (rest : List ℕ) → OfThree G H I p q w d front → three_at r s t make (front ++ rest) ≡ Some (d, rest)
    again front d rest h =
        let e : front ++ rest ≡ h.0 ++ (h.1 ++ (h.2 ++ rest)) = regrouped front h.0 (h.1 ++ h.2) rest h.6 ∙ ap (λ (l : List ℕ). h.0 ++ l) (append_assoc h.1 h.2 rest) in
        ap (three_at r s t make) e
        ∙ rw (of_a.again h.0 (p d) (h.1 ++ (h.2 ++ rest)) h.3, of_b.again h.1 (q d) (h.2 ++ rest) h.4, of_c.again h.2 (w d) rest h.5) (ap (λ (z : D). Some (z, rest)) (back d))

    takes : (bytes : List ℕ) (y : D × List ℕ) → IsBytes bytes → three_at r s t make bytes ≡ Some y → AtFront (OfThree G H I p q w) bytes y.0 y.1
    takes bytes y fits e =
        let a = bind_some (r bytes) _ y e in
        let b = bind_some (s a.0.1) _ y a.2 in
        let c = bind_some (t b.0.1) _ y b.2 in
        let i = of_a.takes bytes a.0 fits a.1 in
        let fits1 = IsBytes-after bytes i.front a.0.1 i.parts fits in
        let j = of_b.takes a.0.1 b.0 fits1 b.1 in
        let k = of_c.takes b.0.1 c.0 (IsBytes-after a.0.1 j.front b.0.1 j.parts fits1) c.1 in
        let m = parts a.0.0 b.0.0 c.0.0 in
        subst (λ (z : D × List ℕ). AtFront (OfThree G H I p q w) bytes z.0 z.1) (some_is (make a.0.0 b.0.0 c.0.0, c.0.1) y c.2)
        (record {
          front = i.front ++ (j.front ++ k.front);
          parts = joined bytes i.front (j.front ++ k.front) a.0.1 c.0.1 i.parts (joined a.0.1 j.front k.front b.0.1 c.0.1 j.parts k.parts);
          spells = (i.front, j.front, k.front, subst (λ v. G v i.front) (sym m.0) i.spells, subst (λ v. H v j.front) (sym m.1) j.spells, subst (λ v. I v k.front) (sym m.2) k.spells, refl {a = i.front ++ (j.front ++ k.front)});
        })

pub index_reads : Reads SpellsIndex (unsigned_at 32)
index_reads = unsigned_reads 32

times_again : {A : Type 0} (G : A → List ℕ → Type 0) (r : Reader A) → Reads G r → (xs : List A) (front rest : List ℕ) → SpellsEach G xs front → times_at r (length xs) (front ++ rest) ≡ Some (xs, rest)
unfolding times_at
times_again {A} G r p [] front rest h = ap (λ (l : List ℕ). Some ([], l ++ rest)) h
times_again G r p (x ∷ xs) front rest h =
    let e = regrouped front h.0 h.1 rest h.4 in
    let a = p.again h.0 x (h.1 ++ rest) h.2 in
    let ih = times_again G r p xs h.1 rest h.3 in
    ap (times_at r (suc (length xs))) e ∙ rw (a, ih) refl

-- so many values at the front
record Each {A : Type 0} (G : A → List ℕ → Type 0) (n : ℕ) (bytes : List ℕ) (xs : List A) (rest : List ℕ) : Type 0 where
  front : List ℕ
  parts : bytes ≡ front ++ rest
  spells : SpellsEach G xs front
  count : length xs ≡ n

times_takes : {A : Type 0} (G : A → List ℕ → Type 0) (r : Reader A) → Reads G r → (n : ℕ) (bytes : List ℕ) (y : List A × List ℕ) → IsBytes bytes → times_at r n bytes ≡ Some y → Each G n bytes y.0 y.1
unfolding times_at
times_takes {A} G r p zero bytes y fits e =
    subst (λ (z : List A × List ℕ). Each G 0 bytes z.0 z.1) (some_is ([], bytes) y e) (record { front = []; parts = refl; spells = refl; count = refl })
times_takes {A} G r p (suc n) bytes y fits e =
    let a = bind_some (r bytes) _ y e in
    let b = bind_some (times_at r n a.0.1) _ y a.2 in
    let t = p.takes bytes a.0 fits a.1 in
    let ih = times_takes G r p n a.0.1 b.0 (IsBytes-after bytes t.front a.0.1 t.parts fits) b.1 in
    subst (λ (z : List A × List ℕ). Each G (suc n) bytes z.0 z.1) (some_is (a.0.0 ∷ b.0.0, b.0.1) y b.2)
    (record {
      front = t.front ++ ih.front;
      parts = joined bytes t.front ih.front a.0.1 b.0.1 t.parts ih.parts;
      spells = (t.front, ih.front, t.spells, ih.spells, refl);
      count = ap suc ih.count;
    })

list_again : {A : Type 0} (G : A → List ℕ → Type 0) (r : Reader A) → Reads G r → (front : List ℕ) (xs : List A) (rest : List ℕ) → SpellsVector G xs front → list_at r (front ++ rest) ≡ Some (xs, rest)
unfolding list_at
list_again G r p front xs rest h =
    let a = index_reads.again h.0 (length xs) (h.1 ++ rest) h.2 in
    let b = times_again G r p xs h.1 rest h.3 in
    ap (list_at r) (regrouped front h.0 h.1 rest h.4) ∙ rw (a, b) refl

list_takes : {A : Type 0} (G : A → List ℕ → Type 0) (r : Reader A) → Reads G r → (bytes : List ℕ) (y : List A × List ℕ) → IsBytes bytes → list_at r bytes ≡ Some y → AtFront (SpellsVector G) bytes y.0 y.1
unfolding list_at
list_takes G r p bytes y fits e =
    let a = bind_some (unsigned_at 32 bytes) _ y e in
    let t = index_reads.takes bytes a.0 fits a.1 in
    let w = times_takes G r p a.0.0 a.0.1 y (IsBytes-after bytes t.front a.0.1 t.parts fits) a.2 in
    record {
      front = t.front ++ w.front;
      parts = joined bytes t.front w.front a.0.1 y.1 t.parts w.parts;
      spells = (t.front, w.front, subst (IsUnsigned 32 t.front) (sym w.count) t.spells, w.spells, refl);
    }

-- a vector of what a reader reads
pub list_reads : {A : Type 0} (G : A → List ℕ → Type 0) (r : Reader A) → Reads G r → Reads (SpellsVector G) (list_at r)
list_reads G r p = record { again = list_again G r p; takes = list_takes G r p }

bytes_again : (front : List ℕ) (xs : List ℕ) (rest : List ℕ) → SpellsBytes xs front → bytes_at (front ++ rest) ≡ Some (xs, rest)
unfolding bytes_at
bytes_again front xs rest h =
    let a = index_reads.again h.0 (length xs) (xs ++ rest) h.1 in
    let l : ltb (length (xs ++ rest)) (length xs) ≡ false = le-ltb (length (xs ++ rest)) (length xs) (omega (arith, length-append xs rest)) in
    let t = take_at xs rest (length xs) refl in
    let d = drop_at xs rest (length xs) refl in
    ap bytes_at (regrouped front h.0 xs rest h.2) ∙ rw (a, l, t, d) refl

bytes_takes : (bytes : List ℕ) (y : List ℕ × List ℕ) → IsBytes bytes → bytes_at bytes ≡ Some y → AtFront SpellsBytes bytes y.0 y.1
unfolding bytes_at
bytes_takes bytes y fits e =
    let a = bind_some (unsigned_at 32 bytes) _ y e in
    let t = index_reads.takes bytes a.0 fits a.1 in
    let n = a.0.0 in
    let rest = a.0.1 in
    let g = if_none (ltb (length rest) n) (take n rest, drop n rest) y a.2 in
    let l : length (take n rest) ≡ n = length-take-le n rest (ltb-false (length rest) n g.0) in
    subst (λ (z : List ℕ × List ℕ). AtFront SpellsBytes bytes z.0 z.1) g.1
    (record {
      front = t.front ++ take n rest;
      parts = joined bytes t.front (take n rest) rest (drop n rest) t.parts (sym (take-append-drop n rest));
      spells = (t.front, subst (IsUnsigned 32 t.front) (sym l) t.spells, refl);
    })

pub bytes_reads : Reads SpellsBytes bytes_at
bytes_reads = record { again = bytes_again; takes = bytes_takes }

name_again : (front : List ℕ) (xs : List ℕ) (rest : List ℕ) → SpellsName xs front → name_at (front ++ rest) ≡ Some (xs, rest)
unfolding name_at
name_again front xs rest h = rw (bytes_reads.again front xs rest h.1, is_utf8-from_IsUtf8 xs h.0) refl

name_takes : (bytes : List ℕ) (y : List ℕ × List ℕ) → IsBytes bytes → name_at bytes ≡ Some y → AtFront SpellsName bytes y.0 y.1
unfolding name_at
name_takes bytes y fits e =
    let a = bind_some (bytes_at bytes) _ y e in
    let g = if_some (is_utf8 a.0.0) a.0 y a.2 in
    let t = bytes_reads.takes bytes a.0 fits a.1 in
    subst (λ (z : List ℕ × List ℕ). AtFront SpellsName bytes z.0 z.1) g.1
    (record { front = t.front; parts = t.parts; spells = (IsUtf8-from_is_utf8 a.0.0 g.0, t.spells) })

pub name_reads : Reads SpellsName name_at
name_reads = record { again = name_again; takes = name_takes }

-- what is read and leaves nothing
whole_is : {A : Type 0} (r : Option (A × List ℕ)) (x : A) → whole r ≡ Some x → r ≡ Some (x, [])
whole_is {A} r x e =
    let a = bind_some r (λ y. with_rest y.0 y.1) x e in
    a.1 ∙ ap Some (of a.0 a.2)
  where
    rested : (y : A) (l : List ℕ) → with_rest y l ≡ Some x → (let z : A × List ℕ = (y, l) in z) ≡ (x, [])
    rested y [] h = ap (λ (z : A). (z, [])) (some_is y x h)
    rested y (b ∷ bs) h = absurd cc

    of : (y : A × List ℕ) → with_rest y.0 y.1 ≡ Some x → y ≡ (x, [])
    of y h = rested y.0 y.1 h

pub whole_takes : {A : Type 0} (G : A → List ℕ → Type 0) (r : Reader A) → Reads G r → (bytes : List ℕ) (x : A) → IsBytes bytes → whole (r bytes) ≡ Some x → G x bytes
whole_takes G r p bytes x fits e =
    let t = p.takes bytes (x, []) fits (whole_is (r bytes) x e) in
    subst (G x) (sym (t.parts ∙ append-nil t.front)) t.spells

pub whole_again : {A : Type 0} (G : A → List ℕ → Type 0) (r : Reader A) → Reads G r → (bytes : List ℕ) (x : A) → G x bytes → whole (r bytes) ≡ Some x
whole_again G r p bytes x g =
    let a : r bytes ≡ Some (x, []) = ap r (sym (append-nil bytes)) ∙ p.again bytes x [] g in
    ap whole a

-- a number takes up at least a byte, and so does a vector
not_empty : (n : ℕ) (front : List ℕ) → IsUnsigned 32 front n → 0 < length front
not_empty n [] h = absurd h
not_empty n (b ∷ bs) h = omega arith

pub index_shorter : (bytes : List ℕ) (y : ℕ × List ℕ) → IsBytes bytes → unsigned_at 32 bytes ≡ Some y → length y.1 < length bytes
index_shorter bytes y fits e =
    let t = index_reads.takes bytes y fits e in
    let l = ap length t.parts ∙ length-append t.front y.1 in
    let n = not_empty y.0 t.front t.spells in
    omega arith

pub list_shorter : {A : Type 0} (G : A → List ℕ → Type 0) (r : Reader A) → Reads G r → (bytes : List ℕ) (y : List A × List ℕ) → IsBytes bytes → list_at r bytes ≡ Some y → length y.1 < length bytes
list_shorter G r p bytes y fits e =
    let t = (list_reads G r p).takes bytes y fits e in
    let l = ap length t.parts ∙ length-append t.front y.1 in
    let k = ap length t.spells.4 ∙ length-append t.spells.0 t.spells.1 in
    let n = not_empty (length y.0) t.spells.0 t.spells.2 in
    omega arith
