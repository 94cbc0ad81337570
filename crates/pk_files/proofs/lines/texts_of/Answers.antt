use Rattle.std.proofs.Common.{rules, ◌≡◌, eqb, map}
use Rattle.std.specs.List.{slice_split}
use Rattle.std.proofs.lemmas.Result.{IfOk-at_ok}
use Rattle.std.proofs.lemmas.Iterator.Consumers.{map_from_collect}
use Rattle.std.proofs.lemmas.Iterator.Splits.{YieldsList-from_slice_split}
use Rattle.pk_files.proofs.lines.texts_of.Goals as goal

pub returns : goal.returns
returns c =
    IfOk-at_ok (λ w. map (λ x. x.now) w.items ≡ slice_split (λ b. eqb b 10) c.args.bytes.now) c.in_ok-collect.was
    (map_from_collect _ c.collect.ensures.ran (YieldsList-from_slice_split _ (λ b. eqb b 10) c.args.bytes.now c.split.ensures.rest c.split.ensures.done c.split.ensures.closure (λ x b q h. search rules)))
