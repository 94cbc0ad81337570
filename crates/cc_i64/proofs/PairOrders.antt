-- The order of numbers of 64 bits by their words: the high ones tell it, or, where they are the same, the low ones without sign.
use Rattle.std.proofs.Common.{◌≡◌, ℕ, ◌-◌, ◌<◌, pos, negsuc, ◌&&◌, ◌||◌, nat_lt, nat_le, ◌==◌, int_lt, int_le, arith, ap, ap₂, ◌∙◌}
use Rattle.std.specs.Int.{w64, cast_signed}
use Rattle.mc_cmd.specs.Command.{equal}
use Rattle.mc_cmd.specs.World.{compares}
use Rattle.wm_ast.specs.Integer.{ieqz, ieq, ilt_u, ilt_s, ile_u, ile_s}
use Rattle.cc_line.proofs.Words.{score, by_signs}
use Rattle.cc_line.proofs.Longs.{low_64, high_64}
use Rattle.cc_i64.proofs.PairSums.{pair}

pub equal_words : (m n : ℕ) → m < 4294967296 → n < 4294967296 → compares equal (score m) (score n) ≡ (m == n)
equal_words = by_signs (λ m a n b. compares equal a b ≡ (m == n))
    (λ m n hm hn. grind arith)
    (λ m k hm hk. grind arith)
    (λ k n hk hn. grind arith)
    (λ k l hk hl. grind arith)

-- the same the other way round
pub equal_back : (m n : ℕ) → m < 4294967296 → n < 4294967296 → compares equal (score m) (score n) ≡ (n == m)
equal_back = by_signs (λ m a n b. compares equal a b ≡ (n == m))
    (λ m n hm hn. grind arith)
    (λ m k hm hk. grind arith)
    (λ k n hk hn. grind arith)
    (λ k l hk hl. grind arith)

pub pair_eqz : (h l : ℕ) → l < 4294967296 → ieqz w64 (pair h l) ≡ ((l == 0) && (h == 0))
pair_eqz h l p = grind arith

pub pair_eq : (ah al bh bl : ℕ) → al < 4294967296 → bl < 4294967296 → ieq w64 (pair ah al) (pair bh bl) ≡ ((al == bl) && (ah == bh))
pair_eq ah al bh bl p q = grind arith

pub pair_lt_u : (ah al bh bl : ℕ) → al < 4294967296 → bl < 4294967296 → ilt_u w64 (pair ah al) (pair bh bl) ≡ (((ah == bh) && nat_lt al bl) || nat_lt ah bh)
pair_lt_u ah al bh bl p q = grind arith

pub pair_le_u : (ah al bh bl : ℕ) → al < 4294967296 → bl < 4294967296 → ile_u w64 (pair ah al) (pair bh bl) ≡ (((ah == bh) && nat_le al bl) || nat_lt ah bh)
pair_le_u ah al bh bl p q = grind arith

-- the signed reading of a pair
pair_low : (h l : ℕ) → h < 2147483648 → l < 4294967296 → cast_signed w64 (pair h l) ≡ pos (pair h l)
pair_low h l p q = low_64 (pair h l) (omega arith)

pair_high : (k l : ℕ) → k < 2147483648 → l < 4294967296 → cast_signed w64 (pair (4294967295 - k) l) ≡ negsuc (pair k (4294967295 - l))
pair_high k l p q =
    let e : pair (4294967295 - k) l ≡ 18446744073709551615 - pair k (4294967295 - l) = omega arith in
    ap (cast_signed w64) e ∙ high_64 (pair k (4294967295 - l)) (omega arith)

pub pair_lt_s : (al bl : ℕ) → al < 4294967296 → bl < 4294967296 → (ah bh : ℕ) → ah < 4294967296 → bh < 4294967296
    → ilt_s w64 (pair ah al) (pair bh bl) ≡ (((ah == bh) && nat_lt al bl) || int_lt (score ah) (score bh))
pair_lt_s al bl p q = by_signs (λ m a n b. int_lt (cast_signed w64 (pair m al)) (cast_signed w64 (pair n bl)) ≡ (((m == n) && nat_lt al bl) || int_lt a b))
    (λ m n hm hn. ap₂ int_lt (pair_low m al hm p) (pair_low n bl hn q) ∙ grind arith)
    (λ m k hm hk. ap₂ int_lt (pair_low m al hm p) (pair_high k bl hk q) ∙ grind arith)
    (λ k n hk hn. ap₂ int_lt (pair_high k al hk p) (pair_low n bl hn q) ∙ grind arith)
    (λ k l hk hl. ap₂ int_lt (pair_high k al hk p) (pair_high l bl hl q) ∙ grind arith)

pub pair_le_s : (al bl : ℕ) → al < 4294967296 → bl < 4294967296 → (ah bh : ℕ) → ah < 4294967296 → bh < 4294967296
    → ile_s w64 (pair ah al) (pair bh bl) ≡ (((ah == bh) && nat_le al bl) || int_lt (score ah) (score bh))
pair_le_s al bl p q = by_signs (λ m a n b. int_le (cast_signed w64 (pair m al)) (cast_signed w64 (pair n bl)) ≡ (((m == n) && nat_le al bl) || int_lt a b))
    (λ m n hm hn. ap₂ int_le (pair_low m al hm p) (pair_low n bl hn q) ∙ grind arith)
    (λ m k hm hk. ap₂ int_le (pair_low m al hm p) (pair_high k bl hk q) ∙ grind arith)
    (λ k n hk hn. ap₂ int_le (pair_high k al hk p) (pair_low n bl hn q) ∙ grind arith)
    (λ k l hk hl. ap₂ int_le (pair_high k al hk p) (pair_high l bl hl q) ∙ grind arith)
