use Rattle.std.proofs.Common.{◌≡◌, ◌∙◌, sym, ap, subst, List, [], Err, true, inl, map}
use Rattle.io_dev.specs.Files.{FilesState}
use Rattle.io_dev.specs.Names.{IsListingOf}
use Rattle.mc_cmd.specs.Form.{Text}
use Rattle.mc_cmd.specs.Packing.{Written, is_written}
use Rattle.wm_ast.specs.declared.module.Module.{Module}
use Rattle.wm_join.specs.Joined.{joined}
use Rattle.pk_link.specs.Linked.{IsPackFor}
use Rattle.app_words.specs.Script.{script_read}
use Rattle.app_words.specs.View.{line_view}
use Rattle.app_words.specs.declared.act.ScriptLine.{ScriptLine}
use Rattle.app_top.specs.Jobs.{End}
use Rattle.app_top.specs.Joining.{IsJoinAnswered}
use Rattle.app_top.specs.Outside.{outside}
use Rattle.app_top.specs.Refusal.{of_put}
use Rattle.app_top.specs.declared.refusal.Refusal.TheVariants as refusals
use Rattle.app_top.specs.steps.Run.{AreLinesRead, IsPackPlayed}
use Rattle.app_top.proofs.JoinLemmas.{join_done, join_no_lines, join_unread, join_unseen, join_untaken, sources_short}
use Rattle.app_top.proofs.ProgramLemmas.{err_is}
use Rattle.app_top.proofs.joining.join_modules.Goals as goal

pub returns-in_err-inputs : goal.returns-in_err-inputs
returns-in_err-inputs g c =
    let before = g.F.Files.state c.args.files.now in
    let after = g.F.Files.state c.read_sources.new.files in
    let out = g.O.Sink.state c.args.out.now in
    subst (λ (r : End). IsJoinAnswered c.args.main.now c.args.dir.now c.args.ns.now c.args.script.now c.args.libraries.now (outside before out) (outside after out) r)
    (sym (err_is c.from_residual.result c.in_err-inputs.field-0.0 c.from_residual.ensures))
    (inl (join_unread c.args.script.now c.args.main.now c.args.libraries.now before after out c.in_err-inputs.field-0.0 c.in_err-inputs.ensures))

pub returns-in_err-lines : goal.returns-in_err-lines
returns-in_err-lines g c =
    let before = g.F.Files.state c.args.files.now in
    let after = g.F.Files.state c.read_sources.new.files in
    let out = g.O.Sink.state c.args.out.now in
    subst (λ (r : End). IsJoinAnswered c.args.main.now c.args.dir.now c.args.ns.now c.args.script.now c.args.libraries.now (outside before out) (outside after out) r)
    (sym (err_is c.from_residual-in_err-lines.result c.in_err-lines.field-0.0 c.from_residual-in_err-lines.ensures))
    (inl (join_no_lines c.args.script.now c.args.main.now c.args.libraries.now before after out c.in_ok-inputs.inputs c.in_err-lines.field-0.0 c.in_ok-inputs.ensures
    (subst (λ (t : Text). AreLinesRead (script_read t) (Err c.in_err-lines.field-0.0)) c.as_slice.ensures c.in_err-lines.ensures)))

pub joined_typed-requires-clause-short : goal.joined_typed-requires-clause-short
joined_typed-requires-clause-short g c =
    sources_short c.args.script.now c.args.main.now c.args.libraries.now (g.F.Files.state c.args.files.now) (g.F.Files.state c.read_sources.new.files) c.in_ok-inputs.inputs c.in_ok-inputs.ensures

pub returns-in_err-typed : goal.returns-in_err-typed
returns-in_err-typed g c =
    let before = g.F.Files.state c.args.files.now in
    let after = g.F.Files.state c.read_sources.new.files in
    let out = g.O.Sink.state c.args.out.now in
    subst (λ (r : End). IsJoinAnswered c.args.main.now c.args.dir.now c.args.ns.now c.args.script.now c.args.libraries.now (outside before out) (outside after out) r)
    (sym (err_is c.from_residual-in_err-typed.result c.in_err-typed.field-0.0 c.from_residual-in_err-typed.ensures))
    (inl (join_untaken c.args.script.now c.args.main.now c.args.libraries.now before after out c.in_ok-inputs.inputs (map line_view c.in_ok-lines.lines.items) c.in_err-typed.field-0.0 c.in_ok-inputs.ensures
    (rw c.as_slice.ensures at c.in_ok-lines.ensures) c.in_err-typed.ensures))

pub returns-in_err-see_empty : goal.returns-in_err-see_empty
returns-in_err-see_empty g c =
    let before = g.F.Files.state c.args.files.now in
    let between = g.F.Files.state c.read_sources.new.files in
    let after = g.F.Files.state c.see_empty.new.files in
    let out = g.O.Sink.state c.args.out.now in
    let fault = c.in_err-see_empty.field-0.0 in
    let typed = c.in_ok-typed.ensures in
    subst (λ (r : End). IsJoinAnswered c.args.main.now c.args.dir.now c.args.ns.now c.args.script.now c.args.libraries.now (outside before out) (outside after out) r)
    (sym (err_is c.from_residual-in_err-see_empty.result (of_put fault) c.from_residual-in_err-see_empty.ensures))
    (join_unseen c.args.script.now c.args.main.now c.args.dir.now c.args.ns.now c.args.libraries.now before between after out c.in_ok-inputs.inputs typed.0 (map line_view c.in_ok-lines.lines.items) fault c.in_ok-inputs.ensures
    (rw c.as_slice.ensures at c.in_ok-lines.ensures) typed.1 c.in_err-see_empty.ensures)

pub returns-in_err-pack : goal.returns-in_err-pack
returns-in_err-pack g c =
    let before = g.F.Files.state c.args.files.now in
    let after = g.F.Files.state c.see_empty.new.files in
    let out = g.O.Sink.state c.args.out.now in
    subst (λ (r : End). IsJoinAnswered c.args.main.now c.args.dir.now c.args.ns.now c.args.script.now c.args.libraries.now (outside before out) (outside after out) r)
    (sym (err_is c.from_residual-in_err-pack.result refusals.Memory c.from_residual-in_err-pack.ensures))
    (inl (ap (λ (f : FilesState). outside f out) (c.in_ok-see_empty.ensures.1 ∙ c.in_ok-inputs.ensures.0)))

pub play_pack-requires : goal.play_pack-requires
play_pack-requires g c =
    subst (λ (f : FilesState). IsListingOf f.content c.args.dir.now []) (sym c.in_ok-see_empty.ensures.1) c.in_ok-see_empty.ensures.0

pub returns : goal.returns
returns g c =
    let before = g.F.Files.state c.args.files.now in
    let between = g.F.Files.state c.read_sources.new.files in
    let out = g.O.Sink.state c.args.out.now in
    let after = outside (g.F.Files.state c.play_pack.new.files) (g.O.Sink.state c.play_pack.new.out) in
    let ls = map line_view c.in_ok-lines.lines.items in
    let is_script = rw c.as_slice.ensures at c.in_ok-lines.ensures in
    let typed = c.in_ok-typed.ensures in
    let pack = c.in_ok-pack.pack in
    let written : is_written pack ≡ true = subst (λ (w : Written). is_written w ≡ true) c.pack.view_is c.pack.invariant in
    let is_pack : IsPackFor c.args.ns.now (joined typed.0) pack = subst (λ (m : Module). IsPackFor c.args.ns.now m pack) typed.2 c.in_ok-pack.ensures in
    let of_lines = subst (λ (items : List ScriptLine). IsPackPlayed (outside (g.F.Files.state c.see_empty.new.files) out) after c.args.dir.now pack (map line_view items) c.play_pack.result) c.deref.ensures.value c.play_pack.ensures in
    let played = subst (λ (f : FilesState). IsPackPlayed (outside f out) after c.args.dir.now pack ls c.play_pack.result) c.in_ok-see_empty.ensures.1 of_lines in
    join_done c.args.script.now c.args.main.now c.args.dir.now c.args.ns.now c.args.libraries.now before between out after c.in_ok-inputs.inputs typed.0 pack ls c.play_pack.result
    c.in_ok-inputs.ensures is_script typed.1 is_pack written
    (played c.args.ns.now c.in_ok-inputs.inputs.script (joined typed.0) written is_pack is_script)
