-- What is run for a piece that is of no function's body: a call of the function that has its lines, and the charge.
use Rattle.std.proofs.Common.{◌≡◌, refl, suc, ◌+◌, ◌<◌, ◌≤◌, [], true, arith}
use Rattle.std.specs.Prelude.{◌&&◌}
use Rattle.mc_cmd.specs.Form.{Text}
use Rattle.mc_cmd.specs.Lines.{IsShort}
use Rattle.mc_cmd.specs.Word.{is_function_name, is_namespace}
use Rattle.mc_cmd.specs.declared.TheConstants.{PIECE}
use Rattle.mc_cmd.proofs.FormLemmas.{and_both, and_first, and_second}
use Rattle.cc_line.specs.Item.{call_item, first, Items, items_fit, items_helpers, items_most, items_texts, no_more, step_item}
use Rattle.cc_line.specs.Place.{scratch}
use Rattle.cc_line.specs.Step.{decrease, stop_when}
use Rattle.cc_text.specs.Short.{AllShort, items_short}
use Rattle.cc_text.proofs.ShortItems.{AllPieces, call_piece, few_lines, items_file_short, items_helped, short_append}
use Rattle.cc_text.proofs.ShortSteps.{act_piece, wide}
use Rattle.cc_sched.specs.Charge.{charge, exits, round_weight}
use Rattle.cc_sched.specs.Names.{score_budget}
use Rattle.cc_sched.specs.Pieces.{turn_weight}
use Rattle.cc_sched.proofs.ChargeLemmas.{charge_most}
use Rattle.cc_pieces.specs.Law.{IsLight}
use Rattle.pk_link.proofs.LengthsItems.{charge_fits}

-- the call of a function of these items, with its charge
abbrev pub calling : Text → Items → Items
calling f xs = charge round_weight (first (call_item f xs) no_more)

some_exit : (xs : Items) → 1 ≤ exits xs
some_exit no_more = omega arith
some_exit (first (step_item (stop_when cs)) xs) = let r : 1 ≤ suc (exits xs) = omega arith in r
some_exit (first x xs) = some_exit xs

-- what light items weigh without a charge
most_of : (xs : Items) → IsLight xs → items_most xs + 21 < PIECE
most_of xs l =
    let e : items_most (charge round_weight xs) ≡ items_most xs + exits xs = charge_most round_weight xs in
    let s : 1 ≤ exits xs = some_exit xs in
    let h : items_most (charge round_weight xs) + turn_weight < PIECE = l.light in
    omega arith

pub calling_light : (f : Text) (xs : Items) → IsLight xs → items_most (calling f xs) + turn_weight ≤ PIECE
calling_light f xs l =
    let h : items_most xs + 21 < PIECE = most_of xs l in
    let r : ((1 + items_most xs) + (1 + 0)) + 20 ≤ PIECE = omega arith in
    r

pub calling_fits : (f : Text) (xs : Items) → is_function_name f ≡ true → IsLight xs → items_fit (calling f xs) ≡ true
calling_fits f xs g l =
    let h : items_most xs + 21 < PIECE = most_of xs l in
    let few : 5 + ((1 + items_most xs) + (1 + 0)) ≤ 1000000 = omega arith in
    charge_fits round_weight (first (call_item f xs) no_more) (and_both _ _ (and_both _ _ g l.fits) refl) few

module _ (ns : Text) (n : is_namespace ns ≡ true) where
  -- the file of the call
  pub calling_short : (f : Text) (xs : Items) → items_fit (calling f xs) ≡ true → IsShort (items_texts ns (calling f xs))
  calling_short f xs e =
      let call : is_function_name f && items_fit xs ≡ true = and_first (is_function_name f && items_fit xs) _ e in
      let lines : AllPieces (items_texts ns (calling f xs)) = (
        wide (call_piece ns n f (and_first (is_function_name f) (items_fit xs) call)) (omega arith),
        (wide (act_piece ns n 0 (decrease (scratch score_budget) (round_weight + (1 + items_most xs) + 1)) (and_first _ _ (and_second (is_function_name f && items_fit xs) _ e)) tt) (omega arith), tt),
      ) in
      let two : 2 ≤ 40 = omega arith in
      few_lines (items_texts ns (calling f xs)) lines two

  -- those of the functions that it runs
  pub calling_helped : (f : Text) (xs : Items) → IsShort (items_texts ns xs) → AllShort (items_helpers ns xs) → AllShort (items_helpers ns (calling f xs))
  calling_helped f xs a b = (a, short_append (items_helpers ns xs) [] b tt)

  -- where the items are short themselves
  pub called_short : (xs : Items) → IsLight xs → items_short xs ≡ true → IsShort (items_texts ns xs)
  called_short xs l s = let h : items_most xs + 21 < PIECE = most_of xs l in items_file_short ns n xs l.fits s (omega arith)

  pub called_helped : (xs : Items) → IsLight xs → items_short xs ≡ true → AllShort (items_helpers ns xs)
  called_helped xs l s = let h : items_most xs + 21 < PIECE = most_of xs l in items_helped ns n xs l.fits s (omega arith)
