use Rattle.std.proofs.Common.{◌∙◌, sym, ap, lit<, None, Some}
use Rattle.std.proofs.lemmas.Str.Pattern.{split_parts}
use Rattle.io_dev.specs.Names.{first_part}
use Rattle.io_dev.proofs.Listed.{first_part-folder, first_part-whole}
use Rattle.io_dev.proofs.listing.name_in.Goals as goal

pub returns-in_ok-folder_name-in-Some-split_once-clause-some :
    goal.returns-in_ok-folder_name-in-Some-split_once-clause-some
returns-in_ok-folder_name-in-Some-split_once-clause-some c =
    let parts = split_parts 47 c.in-Some.rest.now (Some (c.in-Some-split_once.folder, c.in-Some-split_once.field-0-1)) c.in-Some-split_once.ensures.cases (lit< tt) in
    record { rest = c.in-Some.rest.now; is_below = c.in-Some.ensures.some; has_rest = c.in-Some.ensures.has_rest; is_first = c.in_ok-folder_name-in-Some-split_once.ensures ∙ sym (ap first_part parts.0 ∙ first_part-folder _ _ parts.1) }

pub returns-in_ok-new-in-None-clause-some : goal.returns-in_ok-new-in-None-clause-some
returns-in_ok-new-in-None-clause-some c =
    record { rest = c.in-Some.rest.now; is_below = c.in-Some.ensures.some; has_rest = c.in-Some.ensures.has_rest; is_first = c.in_ok-new-in-None.ensures ∙ sym (first_part-whole _ (split_parts 47 c.in-Some.rest.now None c.in-None.ensures.cases (lit< tt))) }
