use Rattle.std.proofs.Common.{◌∙◌, sym, ap, length, rules}
use Rattle.std.specs.Int.{w32}
use Rattle.std.proofs.lemmas.Int.{to_z-of_z}
use Rattle.std.proofs.lemmas.List.{length-map}
use mir.Val.{SFits}
use Rattle.mc_nbt.specs.View.{entry}
use Rattle.mc_nbt.proofs.ViewLemmas.{of_fields-map}
use Rattle.mc_cmd.specs.World.{count}
use Rattle.mc_world.proofs.count.count_fields.Goals as goal

pub returns : goal.returns
returns c =
    let m = c.args.map.now in
    let fits : SFits w32 c.count.result = search rules in
    to_z-of_z w32 c.count.result fits ∙ c.count.ensures ∙ ap (λ es. count (length es)) c.entries.ensures
    ∙ sym (ap (λ es. count (length es)) (of_fields-map m) ∙ ap count (length-map m.entries.items entry))
