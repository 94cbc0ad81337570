-- The scores of a division that goes on tell its answer.
use Rattle.std.proofs.Common.{◌≡◌, ℕ, ◌+◌, ◌-◌, ◌*◌, ◌/◌, ◌%◌, ◌^◌, ◌<◌, ℤ, pos, Some, Bool, sym, ap, ap₂, subst, ◌∙◌, codes, arith}
use Rattle.std.specs.Prelude.{unsigned_abs}
use Rattle.std.specs.Int.{w64, cast_signed}
use Rattle.std.proofs.lemmas.Nat.{div-mul-add, mod-mul-add, div-add-mod'}
use Rattle.mc_cmd.specs.Form.{Text}
use Rattle.wm_ast.specs.declared.operator.BinaryOp.{BinaryOp}
use Rattle.wm_ast.specs.declared.operator.BinaryOp.TheVariants.{DivS, RemS}
use Rattle.wm_place.proofs.LevelLemmas.{some_of}
use Rattle.cc_line.specs.State.{State}
use Rattle.cc_div64.specs.Law.{low_word, high_word, signed_by, Signed, result_of, Dividing}
use Rattle.cc_div64.specs.Turn.{Turn, After}
use Rattle.cc_told.proofs.Values.{low_told}

-- its words tell a number
number_told : (n k : ℕ) (l h : Text) (s : State) → n < 18446744073709551616 → k < 18446744073709551616
    → s.scores l ≡ Some (low_word n) → s.scores h ≡ Some (high_word n) → s.scores l ≡ Some (low_word k) → s.scores h ≡ Some (high_word k) → n ≡ k
number_told n k l h s x y nl nh kl kh =
    let low : n % 4294967296 ≡ k % 4294967296 =
    low_told (n % 4294967296) (k % 4294967296) (omega arith) (omega arith) (some_of (low_word n) (low_word k) (sym nl ∙ kl)) in
    let high : n / 4294967296 ≡ k / 4294967296 =
    low_told (n / 4294967296) (k / 4294967296) (omega arith) (omega arith) (some_of (high_word n) (high_word k) (sym nh ∙ kh)) in
    omega arith

-- the dividend has the quotient and the bits to come, and the remainder with the quotient the bits that are gone
after_told : (n k v j w : ℕ) (t : Turn) → After n v j w t → After k v j w t → n ≡ k
after_told n k v j w t a b =
    let rest : (n % 2 ^ j) * 2 ^ w + a.quotient ≡ (k % 2 ^ j) * 2 ^ w + b.quotient = sym a.rest ∙ b.rest in
    let quotient : a.quotient ≡ b.quotient =
    sym (mod-mul-add (n % 2 ^ j) (2 ^ w) a.quotient a.small) ∙ ap (λ (d : ℕ). d % 2 ^ w) rest ∙ mod-mul-add (k % 2 ^ j) (2 ^ w) b.quotient b.small in
    let low : n % 2 ^ j ≡ k % 2 ^ j =
    sym (div-mul-add (n % 2 ^ j) (2 ^ w) a.quotient a.small) ∙ ap (λ (d : ℕ). d / 2 ^ w) rest ∙ div-mul-add (k % 2 ^ j) (2 ^ w) b.quotient b.small in
    let top : n / 2 ^ j ≡ k / 2 ^ j = a.top ∙ ap (λ (q : ℕ). q * v + t.remainder) quotient ∙ sym b.top in
    sym (div-add-mod' n (2 ^ j)) ∙ ap₂ (λ (x y : ℕ). x * 2 ^ j + y) top low ∙ div-add-mod' k (2 ^ j)

sign_told : (op : BinaryOp) (b c : Bool) (s : State) → Signed op b s → Signed op c s → b ≡ c
sign_told DivS b c s x y = sym x ∙ y
sign_told RemS b c s x y = sym x ∙ y
sign_told _ b c s x y = x ∙ sym y

module _ (op : BinaryOp) (y z : ℤ) (left : ℕ) (s : State) (d : Dividing op y left s) (e : Dividing op z left s) where
  divisor : d.divisor ≡ e.divisor
  divisor =
      number_told d.divisor e.divisor (codes "#m") (codes "#n") s d.bounded e.bounded
      d.standing.divisor_low d.standing.divisor_high e.standing.divisor_low e.standing.divisor_high

  turn : d.turn ≡ e.turn
  turn =
      ap₂ (λ (x y : ℕ). record { dividend = x; remainder = y })
      (number_told d.turn.dividend e.turn.dividend (codes "#d") (codes "#e") s d.wide e.wide
      d.standing.dividend_low d.standing.dividend_high e.standing.dividend_low e.standing.dividend_high)
      (number_told d.turn.remainder e.turn.remainder (codes "#p") (codes "#r") s
      (omega (arith, d.after.below, d.bounded)) (omega (arith, e.after.below, e.bounded))
      d.standing.remainder_low d.standing.remainder_high e.standing.remainder_low e.standing.remainder_high)

  number : d.number ≡ e.number
  number =
      after_told d.number e.number e.divisor (8 * left) (64 - 8 * left) e.turn
      (subst (λ (v : ℕ). After d.number v (8 * left) (64 - 8 * left) e.turn) divisor
      (subst (λ (t : Turn). After d.number d.divisor (8 * left) (64 - 8 * left) t) turn d.after)) e.after

  answer_same : y ≡ z
  answer_same =
      sym d.answer
      ∙ ap (λ (b : Bool). cast_signed w64 (signed_by b (result_of op d.number d.divisor))) (sign_told op d.negated e.negated s d.signed e.signed)
      ∙ ap₂ (λ (n v : ℕ). cast_signed w64 (signed_by e.negated (result_of op n v))) number divisor
      ∙ e.answer

-- so do two that have as many turns left, since a score tells how many these are
pub answer_told : (op o : BinaryOp) (y z : ℤ) (left k : ℕ) (s : State) → op ≡ o → Dividing op y left s → Dividing o z k s → y ≡ z
answer_told op o y z left k s same d e =
    let count : k ≡ left = ap unsigned_abs (some_of (pos k) (pos left) (sym e.told ∙ d.told)) in
    answer_same op y z left s d
    (subst (λ (i : ℕ). Dividing op z i s) count (subst (λ (i : BinaryOp). Dividing i z k s) (sym same) e))
