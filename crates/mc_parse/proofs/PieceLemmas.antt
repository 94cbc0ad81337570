-- Macro lines are read part by part as the grammar reads them.
use Rattle.std.proofs.Common.{◌≡◌, ◌≤◌, ℕ, zero, suc, List, [], ◌∷◌, ◌++◌, length, Bool, true, false, Option, Some, None, refl, sym, ap, ◌∙◌, subst, arith, length-append}
use Rattle.std.specs.Prelude.{if◌then◌else◌, option_map, option_and_then}
use Rattle.mc_nbt.specs.Word.{is_name_byte, is_key}
use Rattle.mc_nbt.proofs.TestLemmas.{and_first, and_second, some_same}
use Rattle.mc_cmd.specs.Form.{Text, strip, cut_at, word}
use Rattle.mc_cmd.specs.Command.{PatternPart, literal, hole}
use Rattle.mc_cmd.specs.Pattern.{parts_text, is_literal_byte, is_literal, begins_with_hole, parts_fit, has_word, pattern_fits, pattern_text, patterns}
use Rattle.mc_cmd.proofs.FormLemmas.{IsLast, word_is, cut_at_text, cut_at_spells, strip_spells, and_then_some, map_some}
use Rattle.mc_cmd.proofs.WordLemmas.{all_lack, key_bytes}
use Rattle.mc_cmd.proofs.PatternLemmas.{patterns_is}
use Rattle.mc_parse.specs.steps.Many.{span, many_then, many}
use Rattle.mc_parse.specs.steps.Pieces.{name_in, piece_by, piece_read, fitting, pieces_read, pattern_read}
use Rattle.mc_parse.proofs.ManyLemmas.{span_text, span_spells, all_text, no_more, one_more, many_spells}
use Rattle.mc_parse.proofs.FormLemmas.{same_reads}

-- a part before a text
abbrev piece_text : PatternPart → Text → Text
piece_text (literal l) t = l ++ t
piece_text (hole n) t = 36 ∷ 40 ∷ (n ++ (41 ∷ t))

all_pieces : (ps : List PatternPart) → all_text piece_text ps ≡ parts_text ps
all_pieces [] = refl
all_pieces (literal l ∷ ps) = ap (λ t. l ++ t) (all_pieces ps)
all_pieces (hole n ∷ ps) = ap (λ t. 36 ∷ 40 ∷ (n ++ (41 ∷ t))) (all_pieces ps)

span_hole : (ps : List PatternPart) → begins_with_hole ps ≡ true → span is_literal_byte (parts_text ps) ≡ ([], parts_text ps)
span_hole [] h = refl
span_hole (literal l ∷ ps) h = absurd cc
span_hole (hole n ∷ ps) h = refl

literal_reads : (l t : Text) → is_literal l ≡ true → span is_literal_byte t ≡ ([], t) → piece_read (l ++ t) ≡ Some (literal l, t)
literal_reads [] t h e = absurd cc
literal_reads (b ∷ l) t h e = ap (λ q. piece_by q.0 q.1 ((b ∷ l) ++ t)) (span_text is_literal_byte (b ∷ l) t h e)

hole_reads : (n t : Text) → is_key n ≡ true → piece_read (piece_text (hole n) t) ≡ Some (hole n, t)
hole_reads n t h =
    ap name_in (cut_at_text 41 n t (all_lack is_name_byte 41 refl n (key_bytes n h)))
    ∙ ap (λ b. option_map (λ k. (hole k, t)) (if b then Some n else None)) h

piece_spells : (t : Text) (p : PatternPart × Text) → piece_read t ≡ Some p → (t ≡ piece_text p.0 p.1) × (true ≡ true)
piece_spells t p h = go (span is_literal_byte t).0 (span is_literal_byte t).1 (span_spells is_literal_byte t).0 h
  where
    named : (r : Text) (o : Option (Text × Text)) → cut_at 41 r ≡ o → name_in o ≡ Some p → 36 ∷ 40 ∷ r ≡ piece_text p.0 p.1
    named r None e h = absurd cc
    named r (Some q) e h =
        let m = map_some (λ n. (hole n, q.1)) ((word is_key).read q.0) p h in
        let s = (word_is is_key).spells q.0 m.0 m.1 in
        let P : PatternPart × Text → Type 0 = λ p. 36 ∷ 40 ∷ r ≡ piece_text p.0 p.1 in
        subst P m.2 (ap (λ w. 36 ∷ 40 ∷ w) (cut_at_spells 41 r q.0 q.1 e ∙ ap (λ w. w ++ (41 ∷ q.1)) s.0))

    go : (l r : Text) → t ≡ l ++ r → piece_by l r t ≡ Some p → (t ≡ piece_text p.0 p.1) × (true ≡ true)
    go [] r e h =
        let q = and_then_some (λ r. name_in (cut_at 41 r)) (strip (36 ∷ 40 ∷ []) t) p h in
        (strip_spells (36 ∷ 40 ∷ []) t q.0 q.1 ∙ named q.0 (cut_at 41 q.0) refl q.2, refl)
    go (b ∷ l) r e h =
        let P : PatternPart × Text → Type 0 = λ p. t ≡ piece_text p.0 p.1 in
        (subst P (some_same (literal (b ∷ l), r) p h) e, refl)

-- parts to the end
literal_longer : (l t : Text) → is_literal l ≡ true → suc (length t) ≤ length (l ++ t)
literal_longer [] t h = absurd cc
literal_longer (b ∷ l) t h = omega (arith, length-append l t)

pieces_reads : (n : ℕ) (ps : List PatternPart) → parts_fit ps ≡ true → length (parts_text ps) ≤ n → many piece_read n (parts_text ps) ≡ Some ps
pieces_reads n [] h l = no_more piece_read n
pieces_reads zero (literal w ∷ ps) h l = let a = literal_longer w (parts_text ps) (and_first _ _ h) in absurd (omega arith)
pieces_reads zero (hole n ∷ ps) h l = absurd (omega arith)
pieces_reads (suc m) (literal w ∷ ps) h l =
    let g = and_second (is_literal w) _ h in
    let a = literal_longer w (parts_text ps) (and_first _ _ h) in
    one_more piece_read m (w ++ parts_text ps) (omega arith)
    ∙ ap (λ o. many_then o (many piece_read m)) (literal_reads w (parts_text ps) (and_first _ _ h) (span_hole ps (and_first _ _ g)))
    ∙ ap (option_map (λ qs. literal w ∷ qs)) (pieces_reads m ps (and_second (begins_with_hole ps) _ g) (omega arith))
pieces_reads (suc m) (hole n ∷ ps) h l =
    one_more piece_read m (parts_text (hole n ∷ ps)) (omega arith)
    ∙ ap (λ o. many_then o (many piece_read m)) (hole_reads n (parts_text ps) (and_first _ _ h))
    ∙ ap (option_map (λ qs. hole n ∷ qs)) (pieces_reads m ps (and_second (is_key n) _ h) (omega (arith, length-append n (41 ∷ parts_text ps))))

fits_parts : (ps : List PatternPart) → pattern_fits ps ≡ true → parts_fit ps ≡ true
fits_parts [] h = absurd cc
fits_parts (hole n ∷ ps) h = absurd cc
fits_parts (literal l ∷ []) h = absurd cc
fits_parts (literal l ∷ p ∷ ps) h = and_second (has_word l) _ h

by_pieces_reads : (ps : List PatternPart) → pattern_fits ps ≡ true → pattern_read (pattern_text ps) ≡ Some ps
by_pieces_reads ps h =
    ap (option_and_then fitting) (pieces_reads (length (parts_text ps)) ps (fits_parts ps h) (omega arith))
    ∙ ap (λ b. if b then Some ps else None) h

by_pieces_spells : (t : Text) (ps : List PatternPart) → pattern_read t ≡ Some ps → (t ≡ pattern_text ps) × (pattern_fits ps ≡ true)
by_pieces_spells t ps h =
    let q = and_then_some (λ r. option_and_then fitting (pieces_read r)) (strip (36 ∷ []) t) ps h in
    let m = and_then_some fitting (pieces_read q.0) ps q.2 in
    let s = many_spells piece_text (λ p. true) piece_read piece_spells (length q.0) q.0 m.0 m.1 in
    go m.0 (strip_spells (36 ∷ []) t q.0 q.1 ∙ ap (λ w. 36 ∷ w) (s.spelled ∙ all_pieces m.0)) (pattern_fits m.0) refl m.2
  where
    go : (qs : List PatternPart) → t ≡ pattern_text qs → (b : Bool) → pattern_fits qs ≡ b → (if b then Some qs else None) ≡ Some ps → (t ≡ pattern_text ps) × (pattern_fits ps ≡ true)
    go qs e true f h =
        let x : qs ≡ ps = some_same qs ps h in
        (e ∙ ap pattern_text x, ap pattern_fits (sym x) ∙ f)
    go qs e false f h = absurd cc

by_pieces_is : IsLast (record { text = pattern_text; fits = pattern_fits; read = pattern_read })
by_pieces_is = record { reads = by_pieces_reads; spells = by_pieces_spells }

pub pattern_by_pieces : (t : Text) → pattern_read t ≡ patterns.read t
pattern_by_pieces = same_reads (record { text = pattern_text; fits = pattern_fits; read = pattern_read }) patterns by_pieces_is patterns_is (λ ps. refl) (λ ps. refl)
