-- The names of standing scores: holders, no place's names, and no scratch scores of routines.
use Rattle.std.proofs.Common.{◌≡◌, ◌∙◌, ap, refl, ℕ, ◌^◌, ◌<◌, ◌≤◌, [], ◌∷◌, ◌++◌, length, length-append, Bool, true, false, arith, subst, append-nil}
use Rattle.std.specs.Prelude.{ℤ, pos, negsuc, ◌&&◌, not, nat_eq, if◌then◌else◌}
use Rattle.std.specs.List.{list_all}
use Rattle.std.specs.Fmt.{signed_decimal, decimal}
use Rattle.std.proofs.lemmas.Bool.{le-leb, leb-true, ltb-true}
use Rattle.std.proofs.lemmas.Bool.Decides.{nat_tests}
use Rattle.std.proofs.lemmas.Fmt.{length-decimal-le, decimal_nonempty}
use Rattle.mc_nbt.specs.Word.{is_int}
use Rattle.mc_cmd.specs.Form.{Text}
use Rattle.mc_cmd.specs.Word.{is_holder, is_holder_byte, is_holder_rest, is_natural}
use Rattle.mc_cmd.proofs.FormLemmas.{and_first, and_second, and_both}
use Rattle.mc_cmd.proofs.NameLemmas.{all_pass, decimal_holder}
use Rattle.mc_cmd.proofs.OpenLemmas.{all_append}
use Rattle.cc_line.specs.Place.{is_digit, is_scratch}
use Rattle.cc_line.specs.Key.{score_window, score_four, score_page_words, scale_of, is_letter, is_stem, is_work}
use Rattle.cc_line.specs.Fit.{scratch_fits}

pub natural_is_int : (z : ℤ) → is_natural z ≡ true → is_int z ≡ true
natural_is_int (pos n) f = f
natural_is_int (negsuc n) f = absurd cc

letter_holder : (b : ℕ) → is_letter b ≡ true → is_holder_byte b ≡ true
letter_holder b h = grind (arith, nat_tests)

letter_no_digit : (b : ℕ) → is_letter b ≡ true → is_digit b ≡ false
letter_no_digit b h = grind (arith, nat_tests)

-- a stem with a few more bytes of a holder
stem_before : (h d : Text) → is_stem h ≡ true → list_all is_holder_byte d ≡ true → length d ≤ 20 → is_holder (h ++ d) ≡ true
unfolding is_holder
stem_before [] d f g l = absurd cc
stem_before (a ∷ []) d f g l = absurd cc
stem_before (a ∷ (b ∷ t)) d f g l =
    let e = and_second (nat_eq a 35) _ f in
    let few : length t ≤ 15 = leb-true (length t) 15 (and_second (list_all is_letter (b ∷ t)) _ e) in
    let whole = length-append t d in
    let rest : is_holder_rest (b ∷ (t ++ d)) ≡ true = and_both _ _
    (all_append is_holder_byte (b ∷ t) d (all_pass is_letter is_holder_byte letter_holder (b ∷ t) (and_first _ _ e)) g)
    (and_both _ _ (le-leb 1 (length (b ∷ (t ++ d))) (omega arith)) (le-leb (length (b ∷ (t ++ d))) 40 (omega arith))) in
    ap (λ c. if c then is_holder_rest (b ∷ (t ++ d)) else is_holder_rest (a ∷ (b ∷ (t ++ d)))) (and_first _ _ f) ∙ rest

stem_scratch : (h d : Text) → is_stem h ≡ true → is_scratch (h ++ d) ≡ true
stem_scratch [] d f = absurd cc
stem_scratch (a ∷ []) d f = absurd cc
stem_scratch (a ∷ (b ∷ t)) d f =
    let e = and_second (nat_eq a 35) _ f in
    let letters : list_all is_letter (b ∷ t) ≡ true = and_first _ _ e in
    ap (λ c. not (nat_eq a 35 && c)) (letter_no_digit b (and_first _ _ letters)) ∙ none (nat_eq a 35)
  where
    none : (x : Bool) → not (x && false) ≡ true
    none true = refl
    none false = refl

-- a stem is a holder
pub stem_holder : (h : Text) → is_stem h ≡ true → is_holder h ≡ true
stem_holder h f = subst (λ t. is_holder t ≡ true) (append-nil h) (stem_before h [] f refl (omega arith))

-- a stem and a number from 0 up
pub scale_fits : (h : Text) (z : ℤ) → is_stem h ≡ true → is_natural z ≡ true → scratch_fits (h ++ signed_decimal z) ≡ true
scale_fits h (negsuc n) f g = absurd cc
scale_fits h (pos n) f g =
    let lt : n < 2 ^ 31 = ltb-true n (2 ^ 31) g in
    let l : length (decimal n) ≤ 10 = length-decimal-le 10 n (omega arith) (omega arith) (omega arith) in
    and_both _ _ (stem_scratch h (decimal n) f) (stem_before h (decimal n) f (decimal_holder n (omega arith)) (omega arith))

-- ---- which names they aren't

pub scale_scratch : (h : Text) (n : ℕ) → is_stem h ≡ true → is_scratch (scale_of h n) ≡ true
scale_scratch h n f = stem_scratch h (decimal n) f

pub scale_no_work : (h : Text) (n : ℕ) → is_stem h ≡ true → n < 2 ^ 64 → is_work (scale_of h n) ≡ false
scale_no_work [] n f l = absurd cc
scale_no_work (a ∷ []) n f l = absurd cc
scale_no_work (a ∷ (b ∷ t)) n f l =
    let m = decimal_nonempty n l in
    let whole = length-append t (decimal n) in
    longer (t ++ decimal n) (omega arith)
  where
    longer : (ds : Text) → 0 < length ds → is_work (a ∷ (b ∷ ds)) ≡ false
    longer [] k = absurd (omega arith)
    longer (d ∷ ds) k = refl

pub window_stands : (is_work score_window ≡ false) × (is_scratch score_window ≡ true)
window_stands = (refl, refl)

pub four_stands : (is_work score_four ≡ false) × (is_scratch score_four ≡ true)
four_stands = (refl, refl)

pub page_words_stand : (is_work score_page_words ≡ false) × (is_scratch score_page_words ≡ true)
page_words_stand = (refl, refl)
