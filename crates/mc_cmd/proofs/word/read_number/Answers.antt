use Rattle.std.proofs.Common.{◌≡◌, ◌∙◌, sym, ap, true, false, ltb, ◌^◌, Ok, Some, arith, ◌<◌}
use Rattle.std.specs.Str.{bytes_eq}
use Rattle.std.specs.Str.Parse.{signed_digits_value}
use Rattle.std.specs.Fmt.{signed_decimal}
use Rattle.std.specs.Int.{w32}
use Rattle.std.proofs.lemmas.Int.{to_z-of_z}
use Rattle.std.proofs.lemmas.Bool.{lt-ltb, ltb-true}
use Rattle.std.proofs.lemmas.Fmt.{parse-signed_decimal}
use Rattle.std.proofs.lemmas.Slice.Eq.{bytes_eq-Decides}
use mir.Val.{to_z, of_z, SFits}
use lib.Signed.{mag}
use Rattle.mc_cmd.proofs.TextLemmas.{number_none, number_some, number_utf8}
use Rattle.mc_cmd.proofs.word.read_number.Goals as goal

pub returns-in_default : goal.returns-in_default
returns-in_default c = sym (number_none c.args.w.now (λ z f e. c.in_default.ensures.cases.0 (number_utf8 z c.args.w.now f e)))

pub returns-in_default-parse : goal.returns-in_default-parse
returns-in_default-parse c = sym (number_none c.args.w.now (λ z f e.
    let lt : mag z < 2 ^ 31 = ltb-true _ _ f in
    let r : c.parse.result ≡ Ok z = parse-signed_decimal w32 z c.in-Ok.s.now c.parse.result record { sfits = lt } (omega arith) (c.in-Ok.ensures.cases.0 ∙ sym e) c.parse.ensures.value.0 in
    cc))

pub returns-then-eq : goal.returns-then-eq
returns-then-eq c =
    let h = c.in-Ok-parse.ensures.value in
    let text-is = c.in-Ok.ensures.cases.0 in
    let b = c.args.w.now in
    let fits : SFits w32 (signed_digits_value 10 b) = rw (← text-is) h.0.0.1 in
    let value : c.in-Ok-parse.n ≡ signed_digits_value 10 b = rw (← text-is) h.0.1 in
    let back : to_z w32 (of_z w32 c.in-Ok-parse.n) ≡ signed_digits_value 10 b = rw value (to_z-of_z w32 (signed_digits_value 10 b) fits) in
    let again : c.as_str.result.now ≡ signed_decimal (signed_digits_value 10 b) = c.as_str.ensures.value ∙ c.in_ok-again.ensures.ok ∙ ap signed_decimal back in
    let same : bytes_eq (signed_decimal (signed_digits_value 10 b)) b ≡ true = rw (← again, ← text-is) (sym c.if-eq.ensures) in
    let small : ltb (mag (signed_digits_value 10 b)) (2 ^ 31) ≡ true = lt-ltb _ _ fits.sfits in
    ap Some back ∙ sym (number_some b (signed_digits_value 10 b) small ((bytes_eq-Decides (signed_decimal (signed_digits_value 10 b)) b).0 same))

pub returns : goal.returns
returns c = sym (number_none c.args.w.now (λ z f e.
    let lt : mag z < 2 ^ 31 = ltb-true _ _ f in
    let text-is = c.in-Ok.ensures.cases.0 in
    let fits : SFits w32 z = record { sfits = lt } in
    let r : c.parse.result ≡ Ok z = parse-signed_decimal w32 z c.in-Ok.s.now c.parse.result fits (omega arith) (text-is ∙ sym e) c.parse.ensures.value.0 in
    let n : c.in-Ok-parse.n ≡ z = cc in
    let back : to_z w32 (of_z w32 c.in-Ok-parse.n) ≡ z = rw n (to_z-of_z w32 z fits) in
    let again : c.as_str.result.now ≡ c.in-Ok.s.now = c.as_str.ensures.value ∙ c.in_ok-again.ensures.ok ∙ ap signed_decimal back ∙ e ∙ sym text-is in
    let same : bytes_eq c.as_str.result.now c.in-Ok.s.now ≡ true = (bytes_eq-Decides c.as_str.result.now c.in-Ok.s.now).1 again in
    let q : true ≡ false = sym same ∙ sym c.if-eq.ensures in
    cc))
