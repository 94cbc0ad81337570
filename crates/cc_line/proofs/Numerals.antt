-- The text of a number is made of small bytes.
use Rattle.std.proofs.Common.{◌≡◌, ℕ, ◌+◌, ◌%◌, ◌<◌, ◌^◌, [], ◌∷◌, true, refl, arith}
use Rattle.std.specs.Fmt.{decimal}
use Rattle.std.specs.List.{list_all}
use Rattle.std.proofs.lemmas.Bool.{le-leb}
use Rattle.std.proofs.lemmas.Fmt.{decimal_by_steps}
use Rattle.std.proofs.lemmas.List.Folds.{list_all-append}
use Rattle.mc_nbt.proofs.TestLemmas.{and_both}
use Rattle.mc_cmd.specs.Word.{is_small_byte}

digit_small : (n : ℕ) → n < 10 → list_all is_small_byte ((48 + n) ∷ []) ≡ true
digit_small n lt = rw (le-leb 48 (48 + n) (omega arith), le-leb (48 + n) 57 (omega arith)) refl

pub decimal_small : (n : ℕ) → n < 2 ^ 64 → list_all is_small_byte (decimal n) ≡ true
decimal_small n lt = decimal_by_steps (λ k ds. list_all is_small_byte ds ≡ true) digit_small
    (λ k ds big h. rw (list_all-append is_small_byte ds ((48 + k % 10) ∷ [])) (and_both _ _ h (digit_small (k % 10) (omega arith)))) n lt
