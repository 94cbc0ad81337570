-- The scoreboard's remainders by a positive number, and the low byte and the low half of a word with copies of their sign.
use Rattle.std.proofs.Common.{◌≡◌, ℕ, suc, ◌-◌, ◌/◌, ◌%◌, ◌<◌, ℤ, pos, negsuc, ◌-ℤ◌, Some, nat_lt, int_le, FitsSigned, arith, sym, ap, ◌∙◌, subst, ⊎_elim, if◌then◌else◌, div-add-mod', mod-lt, zero-lt-suc}
use Rattle.std.proofs.lemmas.Bool.{cases_lt, lt-leb, le-leb, lt-ltb, le-ltb, cond-true, cond-false}
use Rattle.std.proofs.lemmas.Int.{ints}
use Rattle.std.specs.Int.{w8, w16, w32, cast_signed}
use Rattle.mc_cmd.specs.World.{wrapped, rest_by}
use Rattle.cc_line.proofs.Words.{score, by_sign, unwrapped_neg}

pub rest_pp : (x y : ℕ) → rest_by (pos x) (pos (suc y)) ≡ Some (pos (x % suc y))
rest_pp x y = ap Some (omega (arith, ints, div-add-mod' x (suc y)))

pub rest_np : (x y : ℕ) → rest_by (negsuc x) (pos (suc y)) ≡ Some (pos (y - x % suc y))
rest_np x y = ap Some (omega (arith, ints, div-add-mod' x (suc y), mod-lt x (zero-lt-suc y)))

pub low_byte : (m : ℕ) → m < 4294967296 → rest_by (score m) (pos 256) ≡ Some (pos (m % 256))
low_byte = by_sign (λ m a. rest_by a (pos 256) ≡ Some (pos (m % 256)))
    (λ m h. rest_pp m 255) (λ k h. rest_np k 255 ∙ ap (λ n. Some (pos n)) (omega arith))

pub low_half : (m : ℕ) → m < 4294967296 → rest_by (score m) (pos 65536) ≡ Some (pos (m % 65536))
low_half = by_sign (λ m a. rest_by a (pos 65536) ≡ Some (pos (m % 65536)))
    (λ m h. rest_pp m 65535) (λ k h. rest_np k 65535 ∙ ap (λ n. Some (pos n)) (omega arith))

-- from half the power on, the power less
abbrev pub lessened : ℕ → ℕ → ℤ
lessened k x = if int_le (pos (k / 2)) (pos x) then wrapped (pos x -ℤ pos k) else pos x

pub lessened_is : (k x : ℕ) → x < k → k < 2147483648 → lessened k x ≡ (if nat_lt x (k / 2) then pos x else negsuc (k - suc x))
lessened_is k x h g =
    ⊎_elim
    (λ l. ap (λ b. if b then wrapped (pos x -ℤ pos k) else pos x) (lt-leb (k / 2) x l) ∙ ap (λ b. if b then pos x else negsuc (k - suc x)) (sym (lt-ltb x (k / 2) l)))
    (λ ge.
    let e : pos x -ℤ pos k ≡ negsuc (k - suc x) = omega (arith, ints) in
    ap (λ b. if b then wrapped (pos x -ℤ pos k) else pos x) (le-leb (k / 2) x ge)
    ∙ ap wrapped e ∙ unwrapped_neg (k - suc x) (omega arith)
    ∙ ap (λ b. if b then pos x else negsuc (k - suc x)) (sym (le-ltb x (k / 2) ge)))
    (cases_lt x (k / 2))

pub byte_fits : (x : ℕ) → x < 256 → FitsSigned w32 (cast_signed w8 x)
byte_fits x h = ⊎_elim
    (λ l. subst (FitsSigned w32) (sym (cond-true (nat_lt x 128) (pos x) (negsuc (256 - suc x)) (lt-ltb x 128 l))) (record { sfits = omega arith }))
    (λ g. subst (FitsSigned w32) (sym (cond-false (nat_lt x 128) (pos x) (negsuc (256 - suc x)) (le-ltb x 128 g))) (record { sfits = omega arith }))
    (cases_lt x 128)

pub half_fits : (x : ℕ) → x < 65536 → FitsSigned w32 (cast_signed w16 x)
half_fits x h = ⊎_elim
    (λ l. subst (FitsSigned w32) (sym (cond-true (nat_lt x 32768) (pos x) (negsuc (65536 - suc x)) (lt-ltb x 32768 l))) (record { sfits = omega arith }))
    (λ g. subst (FitsSigned w32) (sym (cond-false (nat_lt x 32768) (pos x) (negsuc (65536 - suc x)) (le-ltb x 32768 g))) (record { sfits = omega arith }))
    (cases_lt x 32768)
