use Rattle.std.proofs.Common.{◌≡◌, ◌∙◌, sym, ap, subst, true, false, Ok, arith}
use Rattle.std.specs.Str.{IsUtf8, bytes_eq}
use Rattle.std.specs.Fmt.{decimal}
use Rattle.std.proofs.lemmas.Slice.Eq.{bytes_eq-Decides}
use Rattle.app_words.proofs.NumberLemmas.{decimal_utf8, digits_none, digits_some, parsed}
use Rattle.app_words.proofs.number.read_digits.Goals as goal

pub returns-in_default : goal.returns-in_default
returns-in_default c = sym (digits_none c.args.w.now (λ n few is. c.in_default.ensures.cases.0 (subst IsUtf8 (sym is) (decimal_utf8 n few))))

pub returns-in_default-parse : goal.returns-in_default-parse
returns-in_default-parse c = sym (digits_none c.args.w.now (λ n few is.
    let r : c.parse.result ≡ Ok n = parsed n c.in-Ok.text.now c.parse.result few (c.in-Ok.ensures.cases.0 ∙ is) c.parse.ensures.value.0 in
    cc))

pub returns-then-number-ge-TOO_LONG : goal.returns-then-number-ge-TOO_LONG
returns-then-number-ge-TOO_LONG c = sym (digits_none c.args.w.now (λ n few is.
    let r : c.parse.result ≡ Ok n = parsed n c.in-Ok.text.now c.parse.result few (c.in-Ok.ensures.cases.0 ∙ is) c.parse.ensures.value.0 in
    let same : c.in-Ok-parse.number ≡ n = cc in
    omega arith))

pub returns-then-eq : goal.returns-then-eq
returns-then-eq c =
    let same : c.format.result.now ≡ c.in-Ok.text.now = (bytes_eq-Decides c.format.result.now c.in-Ok.text.now).0 (sym c.if-eq.ensures) in
    sym (digits_some c.args.w.now c.in-Ok-parse.number (omega arith) (sym (c.in-Ok.ensures.cases.0) ∙ sym same ∙ c.format.ensures.text))

pub returns-else-eq : goal.returns-else-eq
returns-else-eq c = sym (digits_none c.args.w.now (λ n few is.
    let text-is = c.in-Ok.ensures.cases.0 ∙ is in
    let r : c.parse.result ≡ Ok n = parsed n c.in-Ok.text.now c.parse.result few text-is c.parse.ensures.value.0 in
    let number : c.in-Ok-parse.number ≡ n = cc in
    let again : c.format.result.now ≡ c.in-Ok.text.now = c.format.ensures.text ∙ ap decimal number ∙ sym text-is in
    let same : bytes_eq c.format.result.now c.in-Ok.text.now ≡ true = (bytes_eq-Decides c.format.result.now c.in-Ok.text.now).1 again in
    let never : true ≡ false = sym same ∙ sym c.if-eq.ensures in
    cc))
