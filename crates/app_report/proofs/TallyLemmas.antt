-- How many pieces there are of a group, and what the heaviest weighs, piece by piece; and pieces, name by name.
use Rattle.std.proofs.Common.{◌≡◌, ◌∙◌, sym, ap, refl, ℕ, suc, ◌+◌, ◌<◌, ◌≤◌, List, [], ◌∷◌, ◌++◌, Bool, true, false, length, get_or, take, arith}
use Rattle.std.proofs.lemmas.Grind.{common_steps}
use Rattle.std.specs.Prelude.{max, if◌then◌else◌}
use Rattle.app_report.specs.Costs.{tally, with_piece}
use Rattle.app_report.specs.declared.pieces.Group.{Group}
use Rattle.app_report.specs.declared.pieces.Piece.{Piece}
use Rattle.app_report.specs.declared.tally.Tally.{Tally}

-- two pieces count the same in either order
swapped : (t : Tally) (a b : ℕ) → with_piece (with_piece t a) b ≡ with_piece (with_piece t b) a
swapped t a b =
    let same : max (max t.heaviest a) b ≡ max (max t.heaviest b) a = omega arith in
    ap (λ (n : ℕ). let r : Tally = record { pieces = t.pieces + 1 + 1; heaviest = n } in r) same

-- a piece behind others
tally_more : (test : Group → Bool) (qs : List Piece) (q : Piece) → tally test (qs ++ q ∷ []) ≡ (if test q.group then with_piece (tally test qs) q.weight else tally test qs)
tally_more test [] q = refl
tally_more test (p ∷ qs) q =
    ap (λ (t : Tally). if test p.group then with_piece t p.weight else t) (tally_more test qs q) ∙ both (test p.group) (test q.group)
  where
    both : (b c : Bool) → (if b then with_piece (if c then with_piece (tally test qs) q.weight else tally test qs) p.weight else (if c then with_piece (tally test qs) q.weight else tally test qs))
        ≡ (if c then with_piece (if b then with_piece (tally test qs) p.weight else tally test qs) q.weight else (if b then with_piece (tally test qs) p.weight else tally test qs))
    both true true = swapped (tally test qs) q.weight p.weight
    both true false = refl
    both false true = refl
    both false false = refl

take_more : (qs : List Piece) (i : ℕ) (d : Piece) → i < length qs → take (i + 1) qs ≡ take i qs ++ get_or qs i d ∷ []
take_more qs i d lt = grind (arith, common_steps)

tally_step : (test : Group → Bool) (qs : List Piece) (i : ℕ) (d : Piece) → i < length qs
    → tally test (take (i + 1) qs) ≡ (if test (get_or qs i d).group then with_piece (tally test (take i qs)) (get_or qs i d).weight else tally test (take i qs))
tally_step test qs i d lt = ap (tally test) (take_more qs i d lt) ∙ tally_more test (take i qs) (get_or qs i d)

-- a piece that passes, and one that doesn't
pub passes : (test : Group → Bool) (qs : List Piece) (i : ℕ) (d : Piece) (t n : Tally) → i < length qs → t ≡ tally test (take i qs) → test (get_or qs i d).group ≡ true → n ≡ with_piece t (get_or qs i d).weight → n ≡ tally test (take (i + 1) qs)
passes test qs i d t n lt so_far test-is e =
    e ∙ ap (λ (u : Tally). with_piece u (get_or qs i d).weight) so_far
    ∙ sym (tally_step test qs i d lt ∙ ap (λ b. if b then with_piece (tally test (take i qs)) (get_or qs i d).weight else tally test (take i qs)) test-is)

pub passed_over : (test : Group → Bool) (qs : List Piece) (i : ℕ) (d : Piece) (t : Tally) → i < length qs → t ≡ tally test (take i qs) → test (get_or qs i d).group ≡ false → t ≡ tally test (take (i + 1) qs)
passed_over test qs i d t lt so_far test-is =
    so_far ∙ sym (tally_step test qs i d lt ∙ ap (λ b. if b then with_piece (tally test (take i qs)) (get_or qs i d).weight else tally test (take i qs)) test-is)

-- there are no more pieces of a group than pieces
few : (test : Group → Bool) (qs : List Piece) → (tally test qs).pieces ≤ length qs
few test [] = omega arith
few test (q ∷ qs) = go (test q.group) (few test qs)
  where
    go : (b : Bool) → (tally test qs).pieces ≤ length qs → (if b then with_piece (tally test qs) q.weight else tally test qs).pieces ≤ suc (length qs)
    go true h = omega arith
    go false h = omega arith

pub few_at : (test : Group → Bool) (qs : List Piece) (i : ℕ) → (tally test (take i qs)).pieces ≤ i
few_at test qs i =
    let short : length (take i qs) ≤ i = grind (arith, common_steps) in
    omega (arith, few test (take i qs), short)
