-- The helpers that divisions call have names of the crate's list.
use Rattle.std.proofs.Common.{refl, ℕ, zero, suc, List, [], ◌∷◌, arith}
use Rattle.std.specs.Prelude.{codes}
use Rattle.wm_ast.specs.declared.answer.TrapKind.TheVariants.{Overflow}
use Rattle.wm_ast.specs.declared.operator.BinaryOp.{BinaryOp}
use Rattle.wm_ast.specs.declared.operator.BinaryOp.TheVariants.{DivS, DivU, RemS, RemU}
use Rattle.cc_line.specs.Item.{call_item, call_when, first, Items, join, no_more, step_item, steps_items}
use Rattle.cc_line.specs.Place.{scratch}
use Rattle.cc_line.specs.Routine.{trap_when}
use Rattle.cc_line.specs.Step.{Cond, decrease, run_act, Step}
use Rattle.cc_text.specs.Tables.{IsOwn, IsWithin, ItemNamed, ItemsNamed, NamedHelper}
use Rattle.cc_text.proofs.NamedItems.{named_both, named_call, named_call_when, named_steps, no_helper}
use Rattle.cc_div64.specs.Division.{begin_items, by_small, chosen, count_greatest, dividend_high, dividend_low, divisor_high, divisor_low, double, end_items, is_negated, keep_steps, load_steps, loaded_items, magnitudes}
use Rattle.cc_div64.specs.Division.{minus_dividend, minus_divisor, minus_steps, negative, of_short, prepare, quotient_sign, remainder_sign, score_left, short_steps, small_steps, take_remainder, take_steps, too_great}
use Rattle.cc_div64.specs.Division.{turn, turn_calls, turn_scores, turns_items}
use Rattle.cc_div64.specs.Helpers.{beginning, helpers}

pub helpers_own : IsOwn beginning helpers 100
helpers_own = record { names = refl; few = omega arith }

module _ (all : List NamedHelper) (w : IsWithin helpers all) where
  minus_named : (cs : List Cond) → ItemsNamed all (minus_dividend cs)
  minus_named cs = (named_call_when all helpers w cs (codes "h_cc_div_minus") (steps_items (minus_steps dividend_low dividend_high)) (λ ns. refl) (named_steps all (minus_steps dividend_low dividend_high)), tt)

  minus_by_named : (cs : List Cond) → ItemsNamed all (minus_divisor cs)
  minus_by_named cs = (named_call_when all helpers w cs (codes "h_cc_div_minus_by") (steps_items (minus_steps divisor_low divisor_high)) (λ ns. refl) (named_steps all (minus_steps divisor_low divisor_high)), tt)

  small_named : ItemNamed all (call_when by_small (codes "h_cc_div_small") (steps_items small_steps))
  small_named = named_call_when all helpers w by_small (codes "h_cc_div_small") (steps_items small_steps) (λ ns. refl) (named_steps all small_steps)

  short_named : ItemNamed all (call_when of_short (codes "h_cc_div_short") (steps_items short_steps))
  short_named = named_call_when all helpers w of_short (codes "h_cc_div_short") (steps_items short_steps) (λ ns. refl) (named_steps all short_steps)

  turn_named : ItemNamed all (call_item (codes "h_cc_div_turn") turn)
  turn_named =
      named_call all helpers w (codes "h_cc_div_turn") turn (λ ns. refl)
      (named_both all (steps_items double) (first (call_when chosen (codes "h_cc_div_take") (steps_items take_steps)) no_more) (named_steps all double)
      (named_call_when all helpers w chosen (codes "h_cc_div_take") (steps_items take_steps) (λ ns. refl) (named_steps all take_steps), tt))

  prepare_named : ItemsNamed all prepare
  prepare_named =
      named_both all (steps_items turn_scores) (first (call_when by_small (codes "h_cc_div_small") (steps_items small_steps)) (first (call_when of_short (codes "h_cc_div_short") (steps_items short_steps)) no_more)) (named_steps all turn_scores)
      (small_named, (short_named, tt))

  magnitudes_named : (xs : List Step) → ItemsNamed all (magnitudes xs)
  magnitudes_named xs =
      let signs : Items = join (minus_dividend (negative dividend_high ∷ [])) (minus_divisor (negative divisor_high ∷ [])) in
      named_both all (steps_items xs) signs (named_steps all xs)
      (named_both all (minus_dividend (negative dividend_high ∷ [])) (minus_divisor (negative divisor_high ∷ [])) (minus_named (negative dividend_high ∷ [])) (minus_by_named (negative divisor_high ∷ [])))

  signed_named : (xs : List Step) → ItemsNamed all (join (magnitudes xs) prepare)
  signed_named xs = named_both all (magnitudes xs) prepare (magnitudes_named xs) prepare_named

  loaded_named : (op : BinaryOp) → ItemsNamed all (loaded_items op)
  loaded_named DivS =
      let later : Items = trap_when too_great Overflow (join (magnitudes quotient_sign) prepare) in
      (no_helper, (no_helper, named_both all (steps_items count_greatest) later (named_steps all count_greatest) (no_helper, (no_helper, signed_named quotient_sign))))
  loaded_named DivU = (no_helper, (no_helper, prepare_named))
  loaded_named RemS = (no_helper, (no_helper, signed_named remainder_sign))
  loaded_named RemU = (no_helper, (no_helper, prepare_named))
  loaded_named _ = tt

  pub begin_named : (op : BinaryOp) (a : ℕ) → ItemsNamed all (begin_items op a)
  begin_named DivS a = named_both all (steps_items (load_steps a)) (loaded_items DivS) (named_steps all (load_steps a)) (loaded_named DivS)
  begin_named DivU a = named_both all (steps_items (load_steps a)) (loaded_items DivU) (named_steps all (load_steps a)) (loaded_named DivU)
  begin_named RemS a = named_both all (steps_items (load_steps a)) (loaded_items RemS) (named_steps all (load_steps a)) (loaded_named RemS)
  begin_named RemU a = named_both all (steps_items (load_steps a)) (loaded_items RemU) (named_steps all (load_steps a)) (loaded_named RemU)
  begin_named _ a = tt

  calls_named : (k : ℕ) (xs : Items) → ItemsNamed all xs → ItemsNamed all (turn_calls k xs)
  calls_named zero xs h = h
  calls_named (suc k) xs h = (turn_named, calls_named k xs h)

  pub turns_named : ItemsNamed all turns_items
  turns_named = calls_named 8 (first (step_item (run_act (decrease (scratch score_left) 1))) no_more) (no_helper, tt)

  pub end_named : (op : BinaryOp) (a : ℕ) → ItemsNamed all (end_items op a)
  end_named DivS a =
      named_both all (minus_dividend is_negated) (steps_items (keep_steps a (codes "#d") (codes "#e"))) (minus_named is_negated) (named_steps all (keep_steps a (codes "#d") (codes "#e")))
  end_named DivU a = named_steps all (keep_steps a (codes "#d") (codes "#e"))
  end_named RemS a =
      let kept : Items = steps_items (keep_steps a (codes "#d") (codes "#e")) in
      named_both all (steps_items take_remainder) (join (minus_dividend is_negated) kept) (named_steps all take_remainder)
      (named_both all (minus_dividend is_negated) kept (minus_named is_negated) (named_steps all (keep_steps a (codes "#d") (codes "#e"))))
  end_named RemU a = named_steps all (keep_steps a (codes "#p") (codes "#r"))
  end_named _ a = tt
