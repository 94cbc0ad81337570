use Rattle.std.proofs.Common.{◌++◌, ◌∷◌, ◌∙◌, ap, string_bytes}
use Rattle.std.specs.Prelude.{codes}
use Rattle.mc_cmd.proofs.spelling.print_score_op.Goals as goal

pub returns : goal.returns
returns c = c.in_ok-write.ensures.bytes ∙ ap (λ w. string_bytes c.args.out.now ++ (codes "scoreboard players operation " ++ (c.args.holder.now ++ (32 ∷ (c.args.obj.now ++ (32 ∷ (w ++ (32 ∷ (c.args.from_holder.now ++ (32 ∷ c.args.from_obj.now)))))))))) c.op_word-op.ensures
