-- Different pieces have different names.
use Rattle.std.proofs.Common.{◌≡◌, ◌∙◌, ap, refl, sym, ℕ, ◌<◌, ◌^◌, [], ◌∷◌, ◌++◌, Some, true, arith}
use Rattle.std.specs.Prelude.{pos, codes}
use Rattle.std.specs.Fmt.{decimal}
use Rattle.std.proofs.lemmas.Fmt.{decimal_injective}
use Rattle.mc_cmd.specs.Form.{Text, cut_at, lacks}
use Rattle.mc_cmd.proofs.FormLemmas.{cut_at_text, some_same}
use Rattle.mc_cmd.proofs.WordLemmas.{all_lack, int_bytes, is_number_byte}
use Rattle.cc_line.specs.Key.{body_piece, end_piece, group_end, group_init, group_shared, init_piece, PieceId, shared_piece}
use Rattle.cc_sched.specs.Names.{piece_name, PieceFits}

digits_lack : (n : ℕ) → n < 2 ^ 31 → lacks 95 (decimal n) ≡ true
digits_lack n h = all_lack is_number_byte 95 refl (decimal n) (int_bytes (pos n) h)

pub digits_same : (n k : ℕ) → n < 2 ^ 31 → k < 2 ^ 31 → decimal n ≡ decimal k → n ≡ k
digits_same n k h g e = decimal_injective n k (omega arith) (omega arith) e

abbrev tail_of : Text → Text
tail_of [] = []
tail_of (b ∷ t) = t

pub same_tail : (a b : ℕ) (v w : Text) → a ∷ v ≡ b ∷ w → v ≡ w
same_tail a b v w e = ap tail_of e

-- the numbers in a name
abbrev numbered : ℕ → ℕ → Text
numbered f a = codes "f" ++ (decimal f ++ (codes "_" ++ decimal a))

numbers_same : (f a g b : ℕ) → f < 2 ^ 31 → a < 2 ^ 31 → g < 2 ^ 31 → b < 2 ^ 31 → numbered f a ≡ numbered g b → (f ≡ g) × (a ≡ b)
numbers_same f a g b hf ha hg hb e =
    let t : decimal f ++ (codes "_" ++ decimal a) ≡ decimal g ++ (codes "_" ++ decimal b) = same_tail 102 102 _ _ e in
    let c : Some (decimal f, decimal a) ≡ Some (decimal g, decimal b) = sym (cut_at_text 95 (decimal f) (decimal a) (digits_lack f hf)) ∙ ap (cut_at 95) t ∙ cut_at_text 95 (decimal g) (decimal b) (digits_lack g hg) in
    let p : (decimal f, decimal a) ≡ (decimal g, decimal b) = some_same _ _ c in
    (digits_same f g hf hg (ap (λ (q : Text × Text). q.0) p), digits_same a b ha hb (ap (λ (q : Text × Text). q.1) p))

-- the first numbers, of which those of bodies are lower than the three others
low : (f : ℕ) → f < 100000 → f < 2 ^ 31
low f h = omega arith

shared_low : 100000 < 2 ^ 31
shared_low = omega arith

init_low : 100001 < 2 ^ 31
init_low = omega arith

end_low : 100002 < 2 ^ 31
end_low = omega arith

pub piece_name_same : (i j : PieceId) → PieceFits i → PieceFits j → piece_name i ≡ piece_name j → i ≡ j
piece_name_same (body_piece f a) (body_piece g b) h k e =
    let (x, y) = numbers_same f a g b (low f h.0) h.1 (low g k.0) k.1 e in
    ap (λ q. body_piece q a) x ∙ ap (body_piece g) y
piece_name_same (init_piece a) (init_piece b) h k e = ap init_piece (numbers_same group_init a group_init b init_low h init_low k e).1
piece_name_same (shared_piece a) (shared_piece b) h k e = ap shared_piece (numbers_same group_shared a group_shared b shared_low h shared_low k e).1
piece_name_same (end_piece a) (end_piece b) h k e = ap end_piece (numbers_same group_end a group_end b end_low h end_low k e).1
piece_name_same (body_piece f a) (init_piece b) h k e = absurd (let few : f < 100000 = h.0 in let q : f ≡ 100001 = (numbers_same f a group_init b (low f h.0) h.1 init_low k e).0 in omega arith)
piece_name_same (body_piece f a) (shared_piece b) h k e = absurd (let few : f < 100000 = h.0 in let q : f ≡ 100000 = (numbers_same f a group_shared b (low f h.0) h.1 shared_low k e).0 in omega arith)
piece_name_same (body_piece f a) (end_piece b) h k e = absurd (let few : f < 100000 = h.0 in let q : f ≡ 100002 = (numbers_same f a group_end b (low f h.0) h.1 end_low k e).0 in omega arith)
piece_name_same (init_piece a) (body_piece g b) h k e = absurd (let few : g < 100000 = k.0 in let q : 100001 ≡ g = (numbers_same group_init a g b init_low h (low g k.0) k.1 e).0 in omega arith)
piece_name_same (init_piece a) (shared_piece b) h k e = absurd (let q : 100001 ≡ 100000 = (numbers_same group_init a group_shared b init_low h shared_low k e).0 in omega arith)
piece_name_same (init_piece a) (end_piece b) h k e = absurd (let q : 100001 ≡ 100002 = (numbers_same group_init a group_end b init_low h end_low k e).0 in omega arith)
piece_name_same (shared_piece a) (body_piece g b) h k e = absurd (let few : g < 100000 = k.0 in let q : 100000 ≡ g = (numbers_same group_shared a g b shared_low h (low g k.0) k.1 e).0 in omega arith)
piece_name_same (shared_piece a) (init_piece b) h k e = absurd (let q : 100000 ≡ 100001 = (numbers_same group_shared a group_init b shared_low h init_low k e).0 in omega arith)
piece_name_same (shared_piece a) (end_piece b) h k e = absurd (let q : 100000 ≡ 100002 = (numbers_same group_shared a group_end b shared_low h end_low k e).0 in omega arith)
piece_name_same (end_piece a) (body_piece g b) h k e = absurd (let few : g < 100000 = k.0 in let q : 100002 ≡ g = (numbers_same group_end a g b end_low h (low g k.0) k.1 e).0 in omega arith)
piece_name_same (end_piece a) (init_piece b) h k e = absurd (let q : 100002 ≡ 100001 = (numbers_same group_end a group_init b end_low h init_low k e).0 in omega arith)
piece_name_same (end_piece a) (shared_piece b) h k e = absurd (let q : 100002 ≡ 100000 = (numbers_same group_end a group_shared b end_low h shared_low k e).0 in omega arith)
