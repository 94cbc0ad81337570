use Rattle.std.proofs.Common.{◌∙◌, sym, ap, subst, length, List, Result, Err}
use Rattle.mc_cmd.specs.Form.{Text}
use Rattle.wm_ast.specs.declared.module.Module.{Module}
use Rattle.app_top.specs.declared.refusal.Refusal.{Refusal}
use Rattle.app_top.specs.steps.JoinRun.{AreLibrariesDecoded, IsDecodedAt, IsSourceJoined}
use Rattle.app_top.proofs.JoinLemmas.{libraries_count, libraries_unjoined, main_unjoined, modules_short, short_many, source_joined}
use Rattle.app_top.proofs.ProgramLemmas.{err_is}
use Rattle.app_top.proofs.linking.joined_source.Goals as goal

pub libraries_of-requires : goal.libraries_of-requires
libraries_of-requires c = ap length c.as_slice.ensures ∙ short_many c.args.named.now c.args.sources.now.libraries c.requires.short.0

pub returns-in_err-libraries : goal.returns-in_err-libraries
returns-in_err-libraries c =
    subst (λ (r : Result Module Refusal). IsSourceJoined c.args.named.now c.args.main.now c.args.sources.now r)
    (sym (err_is c.from_residual.result c.in_err-libraries.field-0.0 c.from_residual.ensures))
    (libraries_unjoined c.args.named.now c.args.main.now c.args.sources.now c.in_err-libraries.field-0.0 (subst (λ (bytes : List Text). AreLibrariesDecoded c.args.named.now bytes (Err c.in_err-libraries.field-0.0)) c.as_slice.ensures c.in_err-libraries.ensures))

pub returns-in_err-main : goal.returns-in_err-main
returns-in_err-main c =
    subst (λ (r : Result Module Refusal). IsSourceJoined c.args.named.now c.args.main.now c.args.sources.now r)
    (sym (err_is c.from_residual-in_err-main.result c.in_err-main.field-0.0 c.from_residual-in_err-main.ensures))
    (main_unjoined c.args.named.now c.args.main.now c.args.sources.now c.in_ok-libraries.libraries c.in_err-main.field-0.0 (rw c.as_slice.ensures at c.in_ok-libraries.ensures) (subst (λ (bytes : Text). IsDecodedAt c.args.main.now bytes (Err c.in_err-main.field-0.0)) c.as_slice-2.ensures c.in_err-main.ensures))

pub joined_of-requires-clause-count : goal.joined_of-requires-clause-count
joined_of-requires-clause-count c = libraries_count c.args.named.now c.args.sources.now.libraries c.in_ok-libraries.libraries c.requires.count (rw c.as_slice.ensures at c.in_ok-libraries.ensures)

pub joined_of-requires-clause-short : goal.joined_of-requires-clause-short
joined_of-requires-clause-short c = modules_short c.args.named.now c.args.sources.now c.in_ok-libraries.libraries c.in_ok-main.main c.requires.short (rw c.as_slice.ensures at c.in_ok-libraries.ensures) (rw c.as_slice-2.ensures at c.in_ok-main.ensures)

pub returns : goal.returns
returns c = source_joined c.args.named.now c.args.main.now c.args.sources.now c.in_ok-libraries.libraries c.in_ok-main.main c.joined_of.result (rw c.as_slice.ensures at c.in_ok-libraries.ensures) (rw c.as_slice-2.ensures at c.in_ok-main.ensures) c.joined_of.ensures
