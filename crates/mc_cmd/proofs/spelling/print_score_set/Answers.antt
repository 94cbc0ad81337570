use Rattle.std.proofs.Common.{◌≡◌, ◌++◌, subst, string_bytes}
use Rattle.std.specs.Prelude.{OnOk}
use Rattle.std.specs.Int.{w32}
use Rattle.std.proofs.lemmas.Int.{to_z-of_z}
use Rattle.mc_cmd.specs.Grammar.{score_set_form}
use Rattle.mc_cmd.proofs.spelling.print_score_set.Goals as goal

pub returns : goal.returns
returns c = subst (λ z. OnOk c.print_score_number.result (string_bytes c.print_score_number.new.out ≡ string_bytes c.args.out.now ++ score_set_form.text ((c.args.holder.now, c.args.obj.now), z))) (to_z-of_z w32 c.args.value c.ranges.value) c.print_score_number.ensures
