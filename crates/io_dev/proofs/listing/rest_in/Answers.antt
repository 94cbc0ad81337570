use Rattle.std.proofs.Common.{◌≡◌, ◌∙◌, ◌++◌, sym, ap, lit<, None}
use Rattle.std.proofs.lemmas.Str.Pattern.{strip_prefix_char}
use Rattle.io_dev.proofs.Listed.{no_rest}
use Rattle.io_dev.proofs.listing.rest_in.Goals as goal

pub returns-in_err-rest-clause-none : goal.returns-in_err-rest-clause-none
returns-in_err-rest-clause-none c =
    let stripped = c.in_ok-strip_prefix.ensures.cases in
    let is_text : c.args.path.now ≡ c.args.dir.now ++ c.in_ok-strip_prefix.field-0.now = stripped.1.1 ∙ ap (λ rest. c.args.dir.now ++ rest) (sym stripped.2) in
    rw c.from_residual-in_err-rest.ensures (no_rest _ _ c.in_ok-strip_prefix.field-0.now is_text (strip_prefix_char 47 c.in_ok-strip_prefix.field-0.now None c.in_err-rest.ensures.cases (lit< tt)))
