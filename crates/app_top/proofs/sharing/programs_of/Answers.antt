use Rattle.std.proofs.Common.{subst, arith}
use Rattle.pk_multi.specs.Making.{IsRefused}
use Rattle.pk_multi.specs.declared.fault.MultiFault.{MultiFault}
use Rattle.app_top.proofs.SharedLemmas.{untidy_told, untidy_within}
use Rattle.app_top.proofs.sharing.programs_of.Goals as goal

pub untidy_at-requires : goal.untidy_at-requires
untidy_at-requires c =
    let refused = subst (λ (f : MultiFault). IsRefused c.args.packs.items f) c.in-Err-Untidy.field-0-is c.in-Err-Untidy.ensures in
    let within = untidy_within c.args.packs.items c.in-Err-Untidy.index c.in-Err-Untidy.name c.in-Err-Untidy.line refused in
    let same = c.requires.same in
    omega arith

pub returns-in-Err-Untidy : goal.returns-in-Err-Untidy
returns-in-Err-Untidy c =
    untidy_told c.args.packs.items c.args.dirs.now c.in-Err-Untidy.index c.in-Err-Untidy.name c.in-Err-Untidy.line c.untidy_at.result
    (subst (λ (f : MultiFault). IsRefused c.args.packs.items f) c.in-Err-Untidy.field-0-is c.in-Err-Untidy.ensures) c.untidy_at.ensures
