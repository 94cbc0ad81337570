-- Leading zeros, trailing zeros and extensions are what they are to be.
use Rattle.std.proofs.Common.{◌≡◌, ℕ, ◌<◌, List, length, Option, Some, unwrap_or, true, refl, sym, ap, ◌∙◌, subst, arith}
use Rattle.std.specs.Prelude.{ℤ, pos, ◌-ℤ◌, if◌then◌else◌}
use Rattle.std.specs.Int.{w8, w16, w32, cast_unsigned}
use Rattle.std.proofs.lemmas.Option.{same_Some}
use lib.Count.{leading_le, trailing_le}
use Rattle.mc_nbt.specs.declared.value.Value.TheVariants as values
use Rattle.mc_nbt.specs.Word.{is_int}
use Rattle.mc_cmd.specs.Command.{from}
use Rattle.mc_cmd.specs.Word.{is_holder}
use Rattle.mc_cmd.specs.World.{wrapped, is_in, rest_by}
use Rattle.wm_ast.specs.declared.answer.Answer.{Answer}
use Rattle.wm_ast.specs.declared.answer.Answer.TheVariants as answers
use Rattle.wm_ast.specs.Integer.{iclz, ictz, iextend_s}
use Rattle.cc_line.specs.State.{State, place_at}
use Rattle.cc_line.specs.Step.{Step}
use Rattle.cc_line.specs.Fit.{steps_fit}
use Rattle.cc_line.specs.Core.{CoreMakesOne, core_on_one}
use Rattle.cc_line.specs.Routine.{Performs, outcome_of}
use Rattle.cc_line.proofs.Words.{score, low_score, by_word}
use Rattle.cc_line.proofs.SettleLemmas.{core_by_one}
use Rattle.cc_line.proofs.RenameLemmas.{core_makes_one}
use Rattle.cc_line.proofs.OnPlacesLemmas.{one_gives}
use Rattle.cc_line.proofs.Rests.{low_byte, low_half}
use Rattle.cc_bits.specs.Counting.{extend_steps, clz_steps, ctz_steps}
use Rattle.cc_bits.specs.Operation.{one_items}
use Rattle.cc_bits.proofs.Signs.{extend8_is, extend16_is}
use Rattle.cc_bits.proofs.Zeros.{clz_lines, clz_is}
use Rattle.cc_bits.proofs.Trailing.{ctz_lines, ctz_is}

-- a core that makes of each word's score that of another word, on places
pub core_performs : (core : List Step) (f : ℕ → ℕ) → ((m : ℕ) → m < 4294967296 → CoreMakesOne core (score m) (score (f m)))
    → (a r : ℕ) (s : State) (x : ℤ) (o : Answer) → a < length s.places → r < length s.places → place_at s a ≡ x → is_int x ≡ true
    → Some (answers.Value (values.I32 (score (f (cast_unsigned w32 x))))) ≡ Some o → Performs (one_items a r core) s r (outcome_of o)
core_performs core f makes a r s x o la lr ex ix e =
    let c : CoreMakesOne core x (score (f (cast_unsigned w32 x))) = by_word (λ m z. CoreMakesOne core z (score (f m))) makes x ix in
    subst (λ q. Performs (one_items a r core) s r (outcome_of q)) (same_Some _ _ e)
    (one_gives (core_on_one core) x (score (f (cast_unsigned w32 x))) a r s (core_makes_one core x (score (f (cast_unsigned w32 x))) c) la lr ex)

-- ---- the cores

pub clz_fits : steps_fit clz_steps ≡ true
unfolding is_holder
clz_fits = refl

pub ctz_fits : steps_fit ctz_steps ≡ true
unfolding is_holder
ctz_fits = refl

pub extend8_fits : steps_fit (extend_steps (pos 256) (pos 128)) ≡ true
unfolding is_holder
extend8_fits = refl

pub extend16_fits : steps_fit (extend_steps (pos 65536) (pos 32768)) ≡ true
unfolding is_holder
extend16_fits = refl

pub clz_makes : (m : ℕ) → m < 4294967296 → CoreMakesOne clz_steps (score m) (score (iclz w32 m))
clz_makes m h =
    let few = leading_le 32 m in
    let e : clz_lines (score m) ≡ score (iclz w32 m) = clz_is m h ∙ sym (low_score (iclz w32 m) (omega arith)) in
    core_by_one clz_steps (score m) (score (iclz w32 m)) refl clz_fits refl refl (λ s. refl) (λ s. ap Some e)

pub ctz_makes : (m : ℕ) → m < 4294967296 → CoreMakesOne ctz_steps (score m) (score (ictz w32 m))
ctz_makes m h =
    let few = trailing_le 32 m in
    let e : ctz_lines (score m) ≡ score (ictz w32 m) = ctz_is m h ∙ sym (low_score (ictz w32 m) (omega arith)) in
    core_by_one ctz_steps (score m) (score (ictz w32 m)) refl ctz_fits refl refl (λ s. refl) (λ s. ap Some e)

abbrev extended : ℕ → ℕ → ℤ → Option ℤ → ℤ
extended k h a o = if is_in (from (pos h)) (unwrap_or o a) then wrapped (unwrap_or o a -ℤ pos k) else unwrap_or o a

pub extend8_makes : (m : ℕ) → m < 4294967296 → CoreMakesOne (extend_steps (pos 256) (pos 128)) (score m) (score (iextend_s w8 w32 m))
extend8_makes m h =
    let e : extended 256 128 (score m) (rest_by (score m) (pos 256)) ≡ score (iextend_s w8 w32 m) = ap (extended 256 128 (score m)) (low_byte m h) ∙ extend8_is m in
    core_by_one (extend_steps (pos 256) (pos 128)) (score m) (score (iextend_s w8 w32 m)) refl extend8_fits refl refl (λ s. refl) (λ s. ap Some e)

pub extend16_makes : (m : ℕ) → m < 4294967296 → CoreMakesOne (extend_steps (pos 65536) (pos 32768)) (score m) (score (iextend_s w16 w32 m))
extend16_makes m h =
    let e : extended 65536 32768 (score m) (rest_by (score m) (pos 65536)) ≡ score (iextend_s w16 w32 m) = ap (extended 65536 32768 (score m)) (low_half m h) ∙ extend16_is m in
    core_by_one (extend_steps (pos 65536) (pos 32768)) (score m) (score (iextend_s w16 w32 m)) refl extend16_fits refl refl (λ s. refl) (λ s. ap Some e)
