use Rattle.std.proofs.Common.{◌≡◌, ◌∙◌, ap, rules, string_bytes, sym}
use Rattle.mc_world.proofs.NamedMapLemmas.{under}
use Rattle.mc_world.proofs.world.World.storage_at.Goals as goal

pub returns-then-eq : goal.returns-then-eq
returns-then-eq c =
    let es = c.args.self.now.storages.entries in
    let same : string_bytes c.in_ok-name.name.now ≡ c.args.id.now = search rules in
    ap (under es) (sym same) ∙ c.in_ok-name.ensures.value
