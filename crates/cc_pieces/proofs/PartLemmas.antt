-- What is added to a list of pieces.
use Rattle.std.proofs.Common.{◌≡◌, ℕ, suc, ◌+◌, List, [], ◌∷◌, ◌++◌, refl, sym, ap, ◌∙◌, append_assoc, add-one}
use Rattle.std.proofs.lemmas.List.{map-append}
use Rattle.cc_call.specs.Frames.{done_piece}
use Rattle.cc_pieces.specs.declared.part.Part.{Part as Code}
use Rattle.cc_pieces.specs.Entry.{done_items, taker, taker_items}
use Rattle.cc_pieces.specs.Fetching.{fetch_piece, fetching_items}
use Rattle.cc_pieces.specs.Parts.{Part, part, done_parts, taker_parts, placer_parts, part_view, parts_view, fetching_parts}
use Rattle.cc_pieces.specs.Placing.{placer, placer_items}

-- ---- shared pieces, and those that fetch arguments

-- one more of some that are told by numbers
more_of : (all : ℕ → List Part) (one : ℕ → Part) → ((k : ℕ) → all k ++ one k ∷ [] ≡ all (suc k)) → (old now : List Code) (p : Code) (before : List Part) (k : ℕ) → now ≡ old ++ p ∷ [] → part_view p ≡ one k
    → parts_view old ≡ before ++ all k → parts_view now ≡ before ++ all (k + 1)
more_of all one next old now p before k e is h =
    ap parts_view e
    ∙ (map-append part_view old (p ∷ [])
    ∙ (ap (λ (l : List Part). l ++ part_view p ∷ []) h
    ∙ (ap (λ (x : Part). (before ++ all k) ++ x ∷ []) is
    ∙ (append_assoc before (all k) (one k ∷ []) ∙ (ap (λ (l : List Part). before ++ l) (next k) ∙ ap (λ (j : ℕ). before ++ all j) (sym (add-one k)))))))

pub taker_more : (old now : List Code) (p : Code) (before : List Part) (k : ℕ) → now ≡ old ++ p ∷ [] → part_view p ≡ part (taker k) (taker_items k) → parts_view old ≡ before ++ taker_parts k
    → parts_view now ≡ before ++ taker_parts (k + 1)
taker_more old now p before k e is h = more_of taker_parts (λ k. part (taker k) (taker_items k)) (λ k. refl) old now p before k e is h

pub placer_more : (ints : ℕ) (old now : List Code) (p : Code) (before : List Part) (k : ℕ) → now ≡ old ++ p ∷ [] → part_view p ≡ part (placer ints k) (placer_items ints k)
    → parts_view old ≡ before ++ placer_parts ints k → parts_view now ≡ before ++ placer_parts ints (k + 1)
placer_more ints old now p before k e is h = more_of (placer_parts ints) (λ k. part (placer ints k) (placer_items ints k)) (λ k. refl) old now p before k e is h

pub fetch_more : (below params func index : ℕ) (old now : List Code) (p : Code) (before : List Part) (k : ℕ) → now ≡ old ++ p ∷ []
    → part_view p ≡ part (fetch_piece func index k) (fetching_items below params func index k) → parts_view old ≡ before ++ fetching_parts below params func index k
    → parts_view now ≡ before ++ fetching_parts below params func index (k + 1)
fetch_more below params func index old now p before k e is h =
    more_of (fetching_parts below params func index) (λ k. part (fetch_piece func index k) (fetching_items below params func index k)) (λ k. refl) old now p before k e is h

-- two and three pieces more
pub two_more : (old one now : List Code) (p q : Code) (x y : Part) → one ≡ old ++ p ∷ [] → now ≡ one ++ q ∷ [] → part_view p ≡ x → part_view q ≡ y
    → parts_view now ≡ parts_view old ++ (x ∷ (y ∷ []))
two_more old one now p q x y one_is now_is p_is q_is =
    ap parts_view now_is
    ∙ (map-append part_view one (q ∷ [])
    ∙ (ap (λ (l : List Part). l ++ part_view q ∷ []) (ap parts_view one_is ∙ map-append part_view old (p ∷ []))
    ∙ (append_assoc (parts_view old) (part_view p ∷ []) (part_view q ∷ [])
    ∙ (ap (λ (z : Part). parts_view old ++ z ∷ part_view q ∷ []) p_is ∙ ap (λ (z : Part). parts_view old ++ x ∷ z ∷ []) q_is))))

pub dones_made : (old one two now : List Code) (p q r : Code) → one ≡ old ++ p ∷ [] → two ≡ one ++ q ∷ [] → now ≡ two ++ r ∷ [] → part_view p ≡ part (done_piece 0) (done_items 0)
    → part_view q ≡ part (done_piece 1) (done_items 1) → part_view r ≡ part (done_piece 2) (done_items 2) → parts_view now ≡ parts_view old ++ done_parts
dones_made old one two now p q r one_is two_is now_is p_is q_is r_is =
    let none : Part = part (done_piece 0) (done_items 0) in
    let int : Part = part (done_piece 1) (done_items 1) in
    ap parts_view now_is
    ∙ (map-append part_view two (r ∷ [])
    ∙ (ap (λ (l : List Part). l ++ part_view r ∷ []) (two_more old one two p q none int one_is two_is p_is q_is)
    ∙ (append_assoc (parts_view old) (none ∷ (int ∷ [])) (part_view r ∷ []) ∙ ap (λ (z : Part). parts_view old ++ (none ∷ (int ∷ (z ∷ [])))) r_is)))
