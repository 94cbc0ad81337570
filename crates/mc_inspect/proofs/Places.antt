-- The first of some places, and zeros among them.
use Rattle.std.proofs.Common.{◌≡◌, ◌≤◌, ◌+◌, ℕ, ℤ, pos, List, ◌++◌, length, take, drop, replicate, Bool, refl, sym, ap, ◌∙◌, arith}
use Rattle.std.specs.Bool.{Decides}
use Rattle.std.specs.Cmp.Lexicographic.{pointwise}
use Rattle.std.specs.Ordering.{int_eq}
use Rattle.std.proofs.lemmas.Bool.Decides.{Decides-int_eq}
use Rattle.std.proofs.lemmas.List.{length-append, length-replicate, take-append-drop, take_at, drop_at, length-take-le, take-append-le}
use Rattle.std.proofs.lemmas.Slice.Eq.{slice_eq-Decides}
use Rattle.mc_inspect.specs.steps.Openings.{HasFront, HasZeros}

-- ---- the first ones

pub front_found : (zs front : List ℤ) → take (length front) zs ≡ front → HasFront zs front
front_found zs front e = (drop (length front) zs, sym (take-append-drop (length front) zs) ∙ ap (λ l. l ++ drop (length front) zs) e)

pub front_told : (zs front : List ℤ) → HasFront zs front → take (length front) zs ≡ front
front_told zs front h = ap (take (length front)) h.1 ∙ take_at front h.0 (length front) refl

pub front_fits : (zs front : List ℤ) → HasFront zs front → length front ≤ length zs
front_fits zs front h = let e = ap length h.1 in let f = length-append front h.0 in omega arith

pub front_answer : (zs front first : List ℤ) (b : Bool) → first ≡ take (length front) zs → b ≡ pointwise int_eq first front → Decides b (HasFront zs front)
front_answer zs front first b is e =
    let d = slice_eq-Decides Decides-int_eq first front b e in
    (λ y. front_found zs front (sym is ∙ d.0 y), λ h. d.1 (is ∙ front_told zs front h))

-- ---- zeros

pub zeros_found : (from count : ℕ) (zs : List ℤ) → from ≤ length zs → take count (drop from zs) ≡ replicate count (pos 0) → HasZeros from count zs
zeros_found from count zs fits e = record {
  front = take from zs;
  rest = drop count (drop from zs);
  parts =
      sym (take-append-drop from zs)
      ∙ ap (λ l. take from zs ++ l) (sym (take-append-drop count (drop from zs)) ∙ ap (λ l. l ++ drop count (drop from zs)) e);
  front_length = length-take-le from zs fits;
}

pub zeros_told : (from count : ℕ) (zs : List ℤ) → HasZeros from count zs → take count (drop from zs) ≡ replicate count (pos 0)
zeros_told from count zs h =
    ap (λ l. take count (drop from l)) h.parts
    ∙ ap (take count) (drop_at h.front (replicate count (pos 0) ++ h.rest) from h.front_length)
    ∙ take_at (replicate count (pos 0)) h.rest count (length-replicate count (pos 0))

pub zeros_fit : (from count : ℕ) (zs : List ℤ) → HasZeros from count zs → from + count ≤ length zs
zeros_fit from count zs h =
    let e = ap length h.parts in
    let f = length-append h.front (replicate count (pos 0) ++ h.rest) in
    let g = length-append (replicate count (pos 0)) h.rest in
    let n = length-replicate count (pos 0) in
    let k = h.front_length in
    omega arith

pub zeros_answer : (from count : ℕ) (zs others ints : List ℤ) (b : Bool) → from ≤ length zs → others ≡ drop from zs → ints ≡ take count others → length ints ≡ count
    → Decides b (ints ≡ replicate (length ints) (pos 0)) → Decides b (HasZeros from count zs)
zeros_answer from count zs others ints b fits is are wide d =
    let taken : ints ≡ take count (drop from zs) = are ∙ ap (take count) is in (
      λ y. zeros_found from count zs fits (sym taken ∙ d.0 y ∙ ap (λ n. replicate n (pos 0)) wide),
      λ h. d.1 (taken ∙ zeros_told from count zs h ∙ ap (λ n. replicate n (pos 0)) (sym wide)),
    )

-- ---- two fronts of one list

-- the longer one has the shorter one as its own
pub front_parts : (zs xs ys r t : List ℤ) (j : ℕ) → zs ≡ take j xs ++ r → zs ≡ ys ++ t → j ≤ length xs → j ≤ length ys → ys ≡ take j xs ++ drop j ys
front_parts zs xs ys r t j e f short within =
    let first : take j ys ≡ take j xs =
    sym (take-append-le j ys t within) ∙ ap (take j) (sym f ∙ e) ∙ take_at (take j xs) r j (length-take-le j xs short) in
    sym (take-append-drop j ys) ∙ ap (λ l. l ++ drop j ys) first
