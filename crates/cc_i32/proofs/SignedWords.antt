-- Signed division of words: the lines give the operators' words.
use Rattle.std.proofs.Common.{◌≡◌, ℕ, zero, suc, ◌<◌, ℤ, pos, Option, Some, int_div, int_rem, FitsSigned, arith, refl, sym, ap, ◌∙◌, subst}
use Rattle.std.specs.Int.{w32, cast_unsigned}
use Rattle.std.proofs.lemmas.Int.{to_z-of_z, of_z-to_z}
use lib.Signed.{mag_rem}
use Rattle.wm_ast.specs.Integer.{Outcome, number, idiv_s, irem_s}
use Rattle.wm_ast.proofs.IntegerLaws.{quotient_fits, div_s_is as quotient_is}
use Rattle.cc_line.proofs.Words.{score, fits_score}
use Rattle.cc_i32.proofs.Dividing.{div_s_lines, div_s_is, rem_s_lines, rem_s_is}

-- a number of the type as a score
abbrev pub scored : Outcome → Option ℤ → Type 0
scored (number q) o = o ≡ Some (score q)
scored other o = ⊥

not_zero : (n : ℕ) → n < 4294967296 → (n ≡ 0 → ⊥) → score n ≡ pos 0 → ⊥
not_zero n h nz e = nz (sym (of_z-to_z w32 n h) ∙ ap (cast_unsigned w32) e)

pub div_s_word : (m n : ℕ) → m < 4294967296 → n < 4294967296 → (n ≡ 0 → ⊥) → (n ≡ 4294967295 → m ≡ 2147483648 → ⊥) → scored (idiv_s w32 m n) (div_s_lines (score m) (score n))
div_s_word m n hm hn nz not_so =
    let fits : FitsSigned w32 (int_div (score m) (score n)) =
    quotient_fits w32 (score m) (score n) (fits_score m hm) (fits_score n hn) (λ p q. not_so (sym (of_z-to_z w32 n hn) ∙ p) (sym (of_z-to_z w32 m hm) ∙ q)) in
    let is : idiv_s w32 m n ≡ number (cast_unsigned w32 (int_div (score m) (score n))) =
    quotient_is w32 m n (score m) (score n) refl refl refl refl (λ z. nz (sym (of_z-to_z w32 n hn) ∙ z)) fits in
    subst (λ o. scored o (div_s_lines (score m) (score n))) (sym is)
    (div_s_is (score m) (score n) (fits_score m hm) fits (not_zero n hn nz) ∙ ap Some (sym (to_z-of_z w32 (int_div (score m) (score n)) fits)))

rem_nonzero : (m n : ℕ) → (n ≡ 0 → ⊥) → irem_s w32 m n ≡ number (cast_unsigned w32 (int_rem (score m) (score n)))
rem_nonzero m zero nz = absurd (nz refl)
rem_nonzero m (suc n) nz = refl

pub rem_s_word : (m n : ℕ) → m < 4294967296 → n < 4294967296 → (n ≡ 0 → ⊥) → scored (irem_s w32 m n) (rem_s_lines (score m) (score n))
rem_s_word m n hm hn nz =
    let fm : FitsSigned w32 (score m) = fits_score m hm in
    let fits : FitsSigned w32 (int_rem (score m) (score n)) = record { sfits = omega (arith, mag_rem (score m) (score n), fm.sfits) } in
    subst (λ o. scored o (rem_s_lines (score m) (score n))) (sym (rem_nonzero m n nz))
    (rem_s_is (score m) (score n) fm (fits_score n hn) (not_zero n hn nz) ∙ ap Some (sym (to_z-of_z w32 (int_rem (score m) (score n)) fits)))
