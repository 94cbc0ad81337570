-- Numbers below 2^64 as two words, the high one and the low one; and the ints of their signed readings.
use Rattle.std.proofs.Common.{◌≡◌, ℕ, ◌+◌, ◌*◌, ◌/◌, ◌%◌, ◌<◌, [], ◌∷◌, ℤ, true, arith, ap, ap₂, ◌∙◌, subst}
use Rattle.std.specs.Int.{w32, w64, cast_signed, cast_unsigned, int_wrap}
use Rattle.mc_nbt.specs.Word.{is_long}
use Rattle.mc_nbt.specs.declared.value.Value.TheVariants as values
use Rattle.mc_cmd.specs.Pack.{high_half}
use Rattle.cc_line.specs.Routine.{value_ints}
use Rattle.cc_line.proofs.Longs.{low_word, high_word}
use Rattle.cc_line.proofs.Longs as longs
use Rattle.cc_line.proofs.Words.{score}

abbrev pub pair : ℕ → ℕ → ℕ
pair h l = h * 4294967296 + l

pub low_of_pair : (h l : ℕ) → h < 4294967296 → l < 4294967296 → int_wrap w32 (cast_signed w64 (pair h l)) ≡ score l
low_of_pair h l p q = low_word (pair h l) (omega arith) ∙ ap score (omega arith)

pub high_of_pair : (h l : ℕ) → h < 4294967296 → l < 4294967296 → high_half (cast_signed w64 (pair h l)) ≡ score h
high_of_pair h l p q = high_word (pair h l) (omega arith) ∙ ap score (omega arith)

pub ints_of_pair : (h l : ℕ) → h < 4294967296 → l < 4294967296 → value_ints (values.I64 (cast_signed w64 (pair h l))) ≡ score l ∷ (score h ∷ [])
ints_of_pair h l p q = ap₂ (λ x y. x ∷ (y ∷ [])) (low_of_pair h l p q) (high_of_pair h l p q)

-- what holds of each pair of words and its signed reading holds of each long and its number
pub by_long : (P : ℕ → ℤ → Type 0) → ((h l : ℕ) → h < 4294967296 → l < 4294967296 → P (pair h l) (cast_signed w64 (pair h l))) → (z : ℤ) → is_long z ≡ true → P (cast_unsigned w64 z) z
by_long P f =
    longs.by_long P (λ n m.
    let e : pair (n / 4294967296) (n % 4294967296) ≡ n = omega arith in
    subst (λ i. P i (cast_signed w64 i)) e (f (n / 4294967296) (n % 4294967296) (omega arith) (omega arith)))
