use Rattle.std.proofs.Common.{◌∙◌, ap, sym}
use Rattle.std.specs.Prelude.{find}
use Rattle.mc_cmd.specs.Foreign.{simple_names, is_own}
use Rattle.mc_cmd.specs.View.{cmd_view}
use Rattle.mc_tick.proofs.NameLemmas.{first_own-run, first_of_two}
use Rattle.mc_tick.proofs.foreign.first_own.Goals as goal

pub returns : goal.returns
returns c =
    let own = is_own c.args.names.now.ns in
    first_of_two (λ n. n.now) own _ _ _ _ _ c.or.ensures c.own.ensures c.own-2.ensures
    ∙ ap (find own) c.names_of.ensures ∙ ap (λ s. find own (simple_names s)) c.run_of.ensures
    ∙ sym (first_own-run c.args.names.now.ns (cmd_view c.args.cmd.now))
