-- The light operations make what the operators do.
use Rattle.std.proofs.Common.{◌≡◌, ℕ, ◌<◌, ℤ, pos, negsuc, ◌+ℤ◌, Some, Bool, true, false, not, ◌==◌, int_le, int_lt, nat_le, nat_lt, refl, sym, ap, ap₂, ◌∙◌, arith, subst, codes, if◌then◌else◌}
use Rattle.std.proofs.lemmas.Int.{ints, to_z-of_z, wrapping_add_is, wrapping_sub_is, wrapping_mul_is}
use Rattle.std.specs.Int.{w32, cast_unsigned}
use Rattle.mc_nbt.specs.Word.{is_int}
use Rattle.mc_cmd.specs.Word.{is_holder}
use Rattle.mc_cmd.specs.Command.{Cmp, less, less_equal, equal, greater_equal, greater, exactly}
use Rattle.mc_cmd.specs.World.{wrapped, is_in, compares as compare_so}
use Rattle.wm_ast.specs.Integer.{iadd, isub, imul, ieqz, ieq, ine, ilt_s, ilt_u, igt_s, igt_u, ile_s, ile_u, ige_s, ige_u}
use Rattle.cc_line.specs.Place.{scratch}
use Rattle.cc_line.specs.Core.{Makes, MakesOne}
use Rattle.cc_line.proofs.RenameLemmas.{core_makes, core_makes_one}
use Rattle.cc_line.proofs.SettleLemmas.{core_by, core_by_one}
use Rattle.cc_line.proofs.Words.{score, by_sign, by_signs, by_word, int_fits, flipped, flipped_lt, flipped_le, unwrapped_pos}
use Rattle.cc_i32.specs.Light.{sum, difference, product, is_zero, compares, differ, least, compares_unsigned}

-- the word of a score
abbrev pub word : ℤ → ℕ
word z = cast_unsigned w32 z

pub score_word : (z : ℤ) → is_int z ≡ true → score (word z) ≡ z
score_word z f = to_z-of_z w32 z (int_fits z f)

pub by_words : (P : ℕ → ℤ → ℕ → ℤ → Type 0) → ((m n : ℕ) → m < 4294967296 → n < 4294967296 → P m (score m) n (score n)) → (x y : ℤ) → is_int x ≡ true → is_int y ≡ true → P (word x) x (word y) y
by_words P f x y fx fy = by_word (λ m z. P m z (word y) y) (λ m hm. by_word (λ n w. P m (score m) n w) (λ n hn. f m n hm hn) y fy) x fx

-- ---- arithmetic

pub sum_makes : (x y : ℤ) → is_int x ≡ true → is_int y ≡ true → Makes sum x y (score (iadd w32 (word x) (word y)))
unfolding is_holder
sum_makes x y fx fy =
    core_makes (sum (scratch (codes "#a")) (scratch (codes "#b"))) x y (score (iadd w32 (word x) (word y)))
    (core_by (sum (scratch (codes "#a")) (scratch (codes "#b"))) x y (score (iadd w32 (word x) (word y))) refl refl refl refl (λ s. refl) (λ s. ap Some (sym (wrapping_add_is w32 x y (int_fits x fx) (int_fits y fy)))) (λ s. refl))

pub difference_makes : (x y : ℤ) → is_int x ≡ true → is_int y ≡ true → Makes difference x y (score (isub w32 (word x) (word y)))
unfolding is_holder
difference_makes x y fx fy =
    core_makes (difference (scratch (codes "#a")) (scratch (codes "#b"))) x y (score (isub w32 (word x) (word y)))
    (core_by (difference (scratch (codes "#a")) (scratch (codes "#b"))) x y (score (isub w32 (word x) (word y))) refl refl refl refl (λ s. refl) (λ s. ap Some (sym (wrapping_sub_is w32 x y (int_fits x fx) (int_fits y fy)))) (λ s. refl))

pub product_makes : (x y : ℤ) → is_int x ≡ true → is_int y ≡ true → Makes product x y (score (imul w32 (word x) (word y)))
unfolding is_holder
product_makes x y fx fy =
    core_makes (product (scratch (codes "#a")) (scratch (codes "#b"))) x y (score (imul w32 (word x) (word y)))
    (core_by (product (scratch (codes "#a")) (scratch (codes "#b"))) x y (score (imul w32 (word x) (word y))) refl refl refl refl (λ s. refl) (λ s. ap Some (sym (wrapping_mul_is w32 x y (int_fits x fx) (int_fits y fy)))) (λ s. refl))

-- ---- truth values

abbrev pub truth_of : Bool → ℤ
truth_of b = score (if b then 1 else 0)

chosen : (b : Bool) → (if b then pos 1 else pos 0) ≡ truth_of b
chosen true = refl
chosen false = refl

turned : (b : Bool) → (if not b then pos 1 else pos 0) ≡ truth_of (not b)
turned true = refl
turned false = refl

zero_is : (m : ℕ) → m < 4294967296 → is_in (exactly (pos 0)) (score m) ≡ ieqz w32 m
zero_is = by_sign (λ m a. is_in (exactly (pos 0)) a ≡ (m == 0)) (λ m h. grind arith) (λ k h. grind arith)

zero_only : (z : ℤ) → is_in (exactly (pos 0)) z ≡ true → z ≡ pos 0
zero_only (pos n) e = grind arith
zero_only (negsuc n) e = absurd cc

one_up : (x : ℤ) (b : Bool) → is_in (exactly (pos 0)) x ≡ b → wrapped ((if not b then negsuc 0 else x) +ℤ pos 1) ≡ truth_of b
one_up x true e = ap (λ z. wrapped (z +ℤ pos 1)) (zero_only x e) ∙ unwrapped_pos 1 (omega arith)
one_up x false e = unwrapped_pos 0 (omega arith)

pub is_zero_makes : (x : ℤ) → is_int x ≡ true → MakesOne is_zero x (truth_of (ieqz w32 (word x)))
unfolding is_holder
is_zero_makes x fx =
    core_makes_one (is_zero (scratch (codes "#a"))) x (truth_of (ieqz w32 (word x)))
    (core_by_one (is_zero (scratch (codes "#a"))) x (truth_of (ieqz w32 (word x))) refl refl refl refl (λ s. refl) (λ s. ap Some (one_up x (is_in (exactly (pos 0)) x) refl ∙ ap truth_of (by_word (λ m a. is_in (exactly (pos 0)) a ≡ ieqz w32 m) zero_is x fx))))

pub compares_makes : (c : Cmp) (x y : ℤ) → Makes (compares c) x y (truth_of (compare_so c x y))
unfolding is_holder
compares_makes c x y =
    core_makes (compares c (scratch (codes "#a")) (scratch (codes "#b"))) x y (truth_of (compare_so c x y))
    (core_by (compares c (scratch (codes "#a")) (scratch (codes "#b"))) x y (truth_of (compare_so c x y)) refl refl refl refl (λ s. refl) (λ s. ap Some (chosen (compare_so c x y))) (λ s. refl))

differ_so : (x y : ℤ) → Makes differ x y (truth_of (not (compare_so equal x y)))
unfolding is_holder
differ_so x y =
    core_makes (differ (scratch (codes "#a")) (scratch (codes "#b"))) x y (truth_of (not (compare_so equal x y)))
    (core_by (differ (scratch (codes "#a")) (scratch (codes "#b"))) x y (truth_of (not (compare_so equal x y))) refl refl refl refl (λ s. refl) (λ s. ap Some (turned (compare_so equal x y))) (λ s. refl))

unsigned_so : (c : Cmp) (x y : ℤ) → Makes (compares_unsigned c) x y (truth_of (compare_so c (flipped x) (flipped y)))
unfolding is_holder
unsigned_so c x y =
    core_makes (compares_unsigned c (scratch (codes "#a")) (scratch (codes "#b"))) x y (truth_of (compare_so c (flipped x) (flipped y)))
    (core_by (compares_unsigned c (scratch (codes "#a")) (scratch (codes "#b"))) x y (truth_of (compare_so c (flipped x) (flipped y))) refl refl refl refl (λ s. refl)
    (λ s. ap (λ z. Some (if compare_so c (flipped x) (wrapped z) then pos 1 else pos 0)) both ∙ ap Some (chosen (compare_so c (flipped x) (flipped y))))
    (λ s. refl))
  where
    both : least +ℤ y ≡ y +ℤ least
    both = omega (arith, ints)

-- ---- the comparisons of words

equal_words : (m n : ℕ) → m < 4294967296 → n < 4294967296 → compare_so equal (score m) (score n) ≡ (m == n)
equal_words = by_signs (λ m a n b. compare_so equal a b ≡ (m == n)) (λ m n hm hn. grind arith) (λ m k hm hk. grind arith) (λ k n hk hn. grind arith) (λ k l hk hl. grind arith)

pub eq_makes : (x y : ℤ) → is_int x ≡ true → is_int y ≡ true → Makes (compares equal) x y (truth_of (ieq w32 (word x) (word y)))
eq_makes x y fx fy = subst (Makes (compares equal) x y) (ap truth_of (by_words (λ m a n b. compare_so equal a b ≡ (m == n)) equal_words x y fx fy)) (compares_makes equal x y)

pub ne_makes : (x y : ℤ) → is_int x ≡ true → is_int y ≡ true → Makes differ x y (truth_of (ine w32 (word x) (word y)))
ne_makes x y fx fy = subst (Makes differ x y) (ap (λ b. truth_of (not b)) (by_words (λ m a n b. compare_so equal a b ≡ (m == n)) equal_words x y fx fy)) (differ_so x y)

pub lt_s_makes : (x y : ℤ) → is_int x ≡ true → is_int y ≡ true → Makes (compares less) x y (truth_of (ilt_s w32 (word x) (word y)))
lt_s_makes x y fx fy = subst (Makes (compares less) x y) (ap truth_of (sym (ap₂ int_lt (score_word x fx) (score_word y fy)))) (compares_makes less x y)

pub gt_s_makes : (x y : ℤ) → is_int x ≡ true → is_int y ≡ true → Makes (compares greater) x y (truth_of (igt_s w32 (word x) (word y)))
gt_s_makes x y fx fy = subst (Makes (compares greater) x y) (ap truth_of (sym (ap₂ int_lt (score_word y fy) (score_word x fx)))) (compares_makes greater x y)

pub le_s_makes : (x y : ℤ) → is_int x ≡ true → is_int y ≡ true → Makes (compares less_equal) x y (truth_of (ile_s w32 (word x) (word y)))
le_s_makes x y fx fy = subst (Makes (compares less_equal) x y) (ap truth_of (sym (ap₂ int_le (score_word x fx) (score_word y fy)))) (compares_makes less_equal x y)

pub ge_s_makes : (x y : ℤ) → is_int x ≡ true → is_int y ≡ true → Makes (compares greater_equal) x y (truth_of (ige_s w32 (word x) (word y)))
ge_s_makes x y fx fy = subst (Makes (compares greater_equal) x y) (ap truth_of (sym (ap₂ int_le (score_word y fy) (score_word x fx)))) (compares_makes greater_equal x y)

pub lt_u_makes : (x y : ℤ) → is_int x ≡ true → is_int y ≡ true → Makes (compares_unsigned less) x y (truth_of (ilt_u w32 (word x) (word y)))
lt_u_makes x y fx fy = subst (Makes (compares_unsigned less) x y) (ap truth_of (by_words (λ m a n b. int_lt (flipped a) (flipped b) ≡ nat_lt m n) flipped_lt x y fx fy)) (unsigned_so less x y)

pub gt_u_makes : (x y : ℤ) → is_int x ≡ true → is_int y ≡ true → Makes (compares_unsigned greater) x y (truth_of (igt_u w32 (word x) (word y)))
gt_u_makes x y fx fy = subst (Makes (compares_unsigned greater) x y) (ap truth_of (by_words (λ n b m a. int_lt (flipped b) (flipped a) ≡ nat_lt n m) flipped_lt y x fy fx)) (unsigned_so greater x y)

pub le_u_makes : (x y : ℤ) → is_int x ≡ true → is_int y ≡ true → Makes (compares_unsigned less_equal) x y (truth_of (ile_u w32 (word x) (word y)))
le_u_makes x y fx fy = subst (Makes (compares_unsigned less_equal) x y) (ap truth_of (by_words (λ m a n b. int_le (flipped a) (flipped b) ≡ nat_le m n) flipped_le x y fx fy)) (unsigned_so less_equal x y)

pub ge_u_makes : (x y : ℤ) → is_int x ≡ true → is_int y ≡ true → Makes (compares_unsigned greater_equal) x y (truth_of (ige_u w32 (word x) (word y)))
ge_u_makes x y fx fy = subst (Makes (compares_unsigned greater_equal) x y) (ap truth_of (by_words (λ n b m a. int_le (flipped b) (flipped a) ≡ nat_le n m) flipped_le y x fy fx)) (unsigned_so greater_equal x y)
