use Rattle.std.proofs.Common.{◌∙◌, ap}
use Rattle.std.specs.Prelude.{find}
use Rattle.mc_cmd.specs.Foreign.{simple_names}
use Rattle.mc_tick.proofs.NameLemmas.{first_of_two}
use Rattle.pk_multi.specs.Counting.{spaces}
use Rattle.pk_multi.specs.Own.{is_own_under}
use Rattle.pk_multi.proofs.naming.first_own.Goals as goal

pub returns : goal.returns
returns c =
    let own = is_own_under (spaces c.args.programs.now) in
    first_of_two (λ n. n.now) own _ _ _ _ _ c.or.ensures c.own.ensures c.own-2.ensures
    ∙ ap (find own) c.names_of.ensures ∙ ap (λ s. find own (simple_names s)) c.run_of.ensures
