use Rattle.std.proofs.Common.{◌≡◌, rules}
use Rattle.mc_nbt.proofs.ViewLemmas.{view-Ints}
use Rattle.mc_cmd.specs.Layout.{io_of}
use Rattle.mc_tick.proofs.ArgumentLemmas.{args_command}
use Rattle.mc_tick.proofs.arguments.set_args.Goals as goal

pub unreachable-requires : goal.unreachable-requires
unreachable-requires c =
    let names = c.args.names.now in
    let io : c.in_ok-clone.field-0 ≡ io_of names.ns = search rules in
    let fits = args_command names.ns _ _ _ c.args.ints.items names.namespace_is c.requires io c.in_ok-to_key.ensures (view-Ints c.args.ints) in
    let clash = c.in-None.ensures in
    cc
