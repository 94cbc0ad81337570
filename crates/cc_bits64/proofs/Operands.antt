-- The operands and the answer of an operation of one i64, or of two, by their words.
use Rattle.std.proofs.Common.{◌≡◌, ℕ, suc, ◌+◌, ◌<◌, ◌≤◌, List, [], ◌∷◌, length, Some, Bool, true, sym, ◌∙◌, subst}
use Rattle.std.specs.List.{list_all}
use Rattle.std.specs.Int.{w32, w64, int_wrap, cast_signed, cast_unsigned}
use Rattle.std.proofs.lemmas.Option.{same_Some}
use Rattle.mc_nbt.proofs.TestLemmas.{and_first, and_second}
use Rattle.mc_nbt.specs.Value.{is_value}
use Rattle.mc_nbt.specs.Word.{is_long}
use Rattle.mc_nbt.specs.declared.value.Kind.TheVariants as kinds
use Rattle.mc_nbt.specs.declared.value.Value.{Value}
use Rattle.mc_nbt.specs.declared.value.Value.TheVariants as values
use Rattle.mc_cmd.specs.Pack.{high_half}
use Rattle.wm_ast.specs.declared.answer.Answer.{Answer}
use Rattle.wm_ast.specs.Integer.{number}
use Rattle.wm_ast.specs.Apply.{gives, outcome, with_one, with_two}
use Rattle.cc_line.specs.Standing.{Standing}
use Rattle.cc_line.specs.State.{State, place_at}
use Rattle.cc_line.specs.Item.{Items}
use Rattle.cc_line.specs.Routine.{Gives, Performs, value_ints, values_ints, outcome_of, answer_places, AreAt}
use Rattle.cc_line.proofs.Words.{score}
use Rattle.cc_bits64.proofs.Pairs.{pair, low_of_pair, high_of_pair, ints_of_pair, by_long}

-- a number stands in two places
pub record StandsAt (s : State) (a h l : ℕ) : Type 0 where
  pub high : h < 4294967296
  pub low : l < 4294967296
  pub low_at : place_at s a ≡ score l
  pub high_at : place_at s (suc a) ≡ score h
  pub room : suc a < length s.places

-- items put a number into two places
pub record Makes (xs : Items) (s : State) (a i : ℕ) : Type 0 where
  pub high : ℕ
  pub low : ℕ
  pub high_small : high < 4294967296
  pub low_small : low < 4294967296
  pub is : i ≡ pair high low
  pub gives : Gives xs s a (score low ∷ (score high ∷ []))

made : (xs : Items) (s : State) (a i : ℕ) → Makes xs s a i → Gives xs s a (value_ints (values.I64 (cast_signed w64 i)))
made xs s a i m =
    subst (λ j. Gives xs s a (value_ints (values.I64 (cast_signed w64 j)))) (sym m.is)
    (subst (Gives xs s a) (sym (ints_of_pair m.high m.low m.high_small m.low_small)) m.gives)

-- the ints of a long in two places are its words
stood : (s : State) (a h l : ℕ) → h < 4294967296 → l < 4294967296 → place_at s a ≡ int_wrap w32 (cast_signed w64 (pair h l)) → place_at s (suc a) ≡ high_half (cast_signed w64 (pair h l)) → suc a < length s.places → StandsAt s a h l
stood s a h l p q e d r = record { high = p; low = q; low_at = e ∙ low_of_pair h l p q; high_at = d ∙ high_of_pair h l p q; room = r }

module _ {bytes : Bool} (xs : Items) (a : ℕ) where
  pub one_from : (f : ℕ → ℕ) → ((s : State) (h l : ℕ) → StandsAt s a h l → Makes xs s a (f (pair h l)))
      → (s : State) (vs : List Value) (o : Answer) → Standing bytes s → list_all is_value vs ≡ true → AreAt s a (values_ints vs) → a + answer_places o ≤ length s.places
      → with_one kinds.I64 (λ i. gives kinds.I64 (f i)) vs ≡ Some o → Performs xs s a (outcome_of o)
  one_from f makes s (values.I64 z ∷ []) o st iv at room e =
      subst (λ q. Performs xs s a (outcome_of q)) (same_Some _ _ e)
      (by_long (λ i y. place_at s a ≡ int_wrap w32 y → place_at s (suc a) ≡ high_half y → Gives xs s a (value_ints (values.I64 (cast_signed w64 (f i)))))
      (λ h l p q b d. made xs s a (f (pair h l)) (makes s h l (stood s a h l p q b d at.2.0)))
      z (and_first _ _ iv) at.1 at.2.1)
  one_from f makes s (values.I32 z ∷ []) o st iv at room e = absurd cc
  one_from f makes s [] o st iv at room e = absurd cc
  one_from f makes s (v ∷ (u ∷ vs)) o st iv at room e = absurd cc

  pub two_from : (f : ℕ → ℕ → ℕ) → ((s : State) (h l n m : ℕ) → Standing bytes s → StandsAt s a h l → StandsAt s (suc (suc a)) n m → Makes xs s a (f (pair h l) (pair n m)))
      → (s : State) (vs : List Value) (o : Answer) → Standing bytes s → list_all is_value vs ≡ true → AreAt s a (values_ints vs) → a + answer_places o ≤ length s.places
      → with_two kinds.I64 (λ i j. outcome kinds.I64 (number (f i j))) vs ≡ Some o → Performs xs s a (outcome_of o)
  two_from f makes s (values.I64 z ∷ (values.I64 w ∷ [])) o st iv at room e =
      let long : is_long w ≡ true = and_first _ _ (and_second (is_long z) _ iv) in
      subst (λ q. Performs xs s a (outcome_of q)) (same_Some _ _ e)
      (by_long (λ i y. place_at s a ≡ int_wrap w32 y → place_at s (suc a) ≡ high_half y → Gives xs s a (value_ints (values.I64 (cast_signed w64 (f i (cast_unsigned w64 w))))))
      (λ h l p q b d. by_long (λ j y. place_at s (suc (suc a)) ≡ int_wrap w32 y → place_at s (suc (suc (suc a))) ≡ high_half y → Gives xs s a (value_ints (values.I64 (cast_signed w64 (f (pair h l) j)))))
      (λ n m p' q' b' d'. made xs s a (f (pair h l) (pair n m)) (makes s h l n m st (stood s a h l p q b d at.2.0) (stood s (suc (suc a)) n m p' q' b' d' at.2.2.2.0)))
      w long at.2.2.1 at.2.2.2.1)
      z (and_first _ _ iv) at.1 at.2.1)
  two_from f makes s (values.I64 z ∷ (values.I32 w ∷ [])) o st iv at room e = absurd cc
  two_from f makes s (values.I32 z ∷ (w ∷ [])) o st iv at room e = absurd cc
  two_from f makes s [] o st iv at room e = absurd cc
  two_from f makes s (v ∷ []) o st iv at room e = absurd cc
  two_from f makes s (v ∷ (u ∷ (w ∷ vs))) o st iv at room e = absurd cc
