use Rattle.std.proofs.Common.{◌++◌, ◌∙◌, ap, string_bytes}
use Rattle.std.specs.Fmt.{signed_decimal}
use Rattle.std.specs.Int.{w32}
use Rattle.std.proofs.lemmas.Int.{to_z-of_z}
use Rattle.mc_cmd.specs.Grammar.{score_after}
use Rattle.mc_cmd.proofs.spelling.print_score_number.Goals as goal

pub returns : goal.returns
returns c = c.in_ok-write.ensures.bytes ∙ ap (λ z. string_bytes c.args.out.now ++ (score_after c.args.front.now).text (c.args.holder.now, c.args.obj.now) (signed_decimal z)) (to_z-of_z w32 c.args.value c.ranges.value)
