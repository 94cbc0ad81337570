-- Readers and the grammars that they read.
use Rattle.std.proofs.Common.{◌≡◌, ℕ, suc, ◌+◌, ◌-◌, ◌<◌, ◌≤◌, Bool, true, false, cond, List, ◌∷◌, ◌++◌, length, get_or, take, drop, Option, Some, None, refl, sym, ap, subst, ◌∙◌, arith, inl, inr, ◌⊎◌}
use Rattle.std.proofs.lemmas.Bool.{cases_lt}
use Rattle.std.proofs.lemmas.List.{take_at, drop_at, length-append, length-take, get_or-drop, get_or-take, get_or_past}
use Rattle.wm_frame.specs.Front.{AtFront, NoneAtFront}
use Rattle.wm_frame.specs.Reading.{Reader, ◌>>=◌}

-- every one of them is a byte
abbrev pub IsBytes : List ℕ → Type 0
IsBytes bytes = (i : ℕ) → get_or bytes i 0 < 256

pub IsBytes-rest : (b : ℕ) (bytes : List ℕ) → IsBytes (b ∷ bytes) → IsBytes bytes
IsBytes-rest b bytes h i = h (suc i)

pub IsBytes-drop : (n : ℕ) (bytes : List ℕ) → IsBytes bytes → IsBytes (drop n bytes)
IsBytes-drop n bytes h i = rw get_or-drop (h (n + i))

pub IsBytes-take : (n : ℕ) (bytes : List ℕ) → IsBytes bytes → IsBytes (take n bytes)
IsBytes-take n bytes h i =
    elim (cases_lt i n) [
      | inl lt ↦ rw (get_or-take n bytes i 0 lt) (h i)
      | inr le ↦ rw (get_or_past (take n bytes) i 0 (omega (arith, length-take n bytes))) (omega arith)
    ]

-- what follows the front of bytes are bytes
pub IsBytes-after : (bytes front rest : List ℕ) → bytes ≡ front ++ rest → IsBytes bytes → IsBytes rest
IsBytes-after bytes front rest e h =
    let d : drop (length front) bytes ≡ rest = ap (drop (length front)) e ∙ drop_at front rest (length front) refl in
    subst IsBytes d (IsBytes-drop (length front) bytes h)

pub IsBytes-front : (front rest : List ℕ) → IsBytes (front ++ rest) → IsBytes front
IsBytes-front front rest h = subst IsBytes (take_at front rest (length front) refl) (IsBytes-take (length front) (front ++ rest) h)

pub some_is : {A : Type 0} (x y : A) → Some x ≡ Some y → x ≡ y
some_is x y e = cc

-- a choice that gives something
pub if_some : {A : Type 0} (t : Bool) (x y : A) → cond t (Some x) None ≡ Some y → (t ≡ true) × (x ≡ y)
if_some true x y e = (refl, cc)
if_some false x y e = absurd cc

pub if_none : {A : Type 0} (t : Bool) (x y : A) → cond t None (Some x) ≡ Some y → (t ≡ false) × (x ≡ y)
if_none true x y e = absurd cc
if_none false x y e = (refl, cc)

-- which way a test went
pub chosen : {A : Type 0} (t : Bool) (x y z : A) → cond t x y ≡ z → ((t ≡ true) × (x ≡ z)) ⊎ ((t ≡ false) × (y ≡ z))
chosen true x y z e = inl (refl, e)
chosen false x y z e = inr (refl, e)

-- a step that gave something stands on one that did
pub bind_some : {A B : Type 0} (r : Option A) (f : A → Option B) (y : B) → (r >>= f) ≡ Some y → (x : A) × (r ≡ Some x) × (f x ≡ Some y)
bind_some None f y e = absurd cc
bind_some (Some x) f y e = (x, refl, e)

-- A reader reads a grammar: what is spelled is read whatever follows, and what is read is spelled.
pub record Reads {A : Type 0} (G : A → List ℕ → Type 0) (r : Reader A) : Type 0 where
  pub again : (front : List ℕ) (x : A) (rest : List ℕ) → G x front → r (front ++ rest) ≡ Some (x, rest)
  pub takes : (bytes : List ℕ) (y : A × List ℕ) → IsBytes bytes → r bytes ≡ Some y → AtFront G bytes y.0 y.1

-- where two fronts are followed by the same, they are the same
pub same_front : (a b rest : List ℕ) → a ++ rest ≡ b ++ rest → a ≡ b
same_front a b rest e =
    let l : length a + length rest ≡ length b + length rest = sym (length-append a rest) ∙ ap length e ∙ length-append b rest in
    let k : length a ≡ length b = omega arith in
    sym (take_at a rest (length a) refl) ∙ ap (take (length a)) e ∙ take_at b rest (length a) (sym k)

-- a text begins with one value at most, spelled in one way
pub record Same {A : Type 0} (x y : A) (a b c d : List ℕ) : Type 0 where
  pub value : x ≡ y
  pub front : a ≡ b
  pub rest : c ≡ d

pub one_front : {A : Type 0} (G : A → List ℕ → Type 0) (r : Reader A) → Reads G r → (x y : A) (a b rest more : List ℕ) → G x a → G y b → a ++ rest ≡ b ++ more → Same x y a b rest more
one_front G r reads x y a b rest more g h e =
    let p : Some (x, rest) ≡ Some (y, more) = sym (reads.again a x rest g) ∙ ap r e ∙ reads.again b y more h in
    let q = some_is (x, rest) (y, more) p in
    let s : rest ≡ more = ap (λ z. z.1) q in
    record { value = ap (λ z. z.0) q; front = same_front a b more (subst (λ l. a ++ l ≡ b ++ more) s e); rest = s }

-- where nothing is read, no front is a spelling
pub no_front : {A : Type 0} (G : A → List ℕ → Type 0) (r : Reader A) → Reads G r → (bytes : List ℕ) → r bytes ≡ None → NoneAtFront G bytes
no_front G r reads bytes e x front rest g parts =
    let s : r bytes ≡ Some (x, rest) = ap r parts ∙ reads.again front x rest g in
    cc

-- what was read, by the lengths alone
pub record Front {A : Type 0} (G : A → List ℕ → Type 0) (bytes : List ℕ) (x : A) (rest : List ℕ) : Type 0 where
  pub within : length rest ≤ length bytes
  pub spells : G x (take (length bytes - length rest) bytes)
  pub after : rest ≡ drop (length bytes - length rest) bytes

pub front_of : {A : Type 0} (G : A → List ℕ → Type 0) (bytes : List ℕ) (x : A) (rest : List ℕ) → AtFront G bytes x rest → Front G bytes x rest
front_of G bytes x rest s =
    let l : length bytes ≡ length s.front + length rest = ap length s.parts ∙ length-append s.front rest in
    let k : length bytes - length rest ≡ length s.front = omega arith in
    let t : take (length bytes - length rest) bytes ≡ s.front = ap (λ i. take i bytes) k ∙ ap (take (length s.front)) s.parts ∙ take_at s.front rest (length s.front) refl in
    let d : drop (length bytes - length rest) bytes ≡ rest = ap (λ i. drop i bytes) k ∙ ap (drop (length s.front)) s.parts ∙ drop_at s.front rest (length s.front) refl in
    record { within = omega (arith, l); spells = rw t s.spells; after = sym d }
