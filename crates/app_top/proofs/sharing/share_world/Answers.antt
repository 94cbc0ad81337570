use Rattle.std.proofs.Common.{◌≡◌, ◌∙◌, sym, ap, subst, refl, List, Err, Ok, inl, length, map, true, arith}
use Rattle.std.specs.List.{list_all}
use Rattle.mc_cmd.specs.Form.{Text}
use Rattle.mc_cmd.specs.Pack.{Pack}
use Rattle.mc_together.specs.Together.{loaded}
use Rattle.app_words.specs.SharedReport.{shared_report}
use Rattle.app_words.specs.View.{shared_line_view}
use Rattle.app_words.specs.declared.act.SharedLine.{SharedLine}
use Rattle.app_play.specs.Play.{IsPlayed}
use Rattle.app_words.specs.SharedScript.{shared_fits}
use Rattle.pk_multi.specs.State.{State, made_of, state_of}
use Rattle.app_top.specs.Jobs.{End}
use Rattle.app_top.specs.Outside.{outside}
use Rattle.app_top.specs.Refusal.{of_play}
use Rattle.app_top.specs.Sharing.{IsSharedAnswered}
use Rattle.app_top.specs.steps.ShareRun.{AreSharedLinesRead}
use Rattle.app_top.proofs.ProgramLemmas.{err_is}
use Rattle.app_top.proofs.SharedLemmas.{few_folders, folder_refused, lines_fit_packs, no_shared_lines, packs_many, packs_refused, script_unread, shared_played, some_folders}
use Rattle.app_top.proofs.sharing.share_world.Goals as goal

pub returns-in_err-bytes : goal.returns-in_err-bytes
returns-in_err-bytes g c =
    let before = g.F.Files.state c.args.files.now in
    let after = g.F.Files.state c.read.new.files in
    let out = g.O.Sink.state c.args.out.now in
    subst (λ (r : End). IsSharedAnswered c.args.script.now c.args.dirs.now (outside before out) (outside after out) r)
    (sym (err_is c.from_residual.result c.in_err-bytes.field-0.0 c.from_residual.ensures))
    (inl (script_unread c.args.script.now c.args.dirs.now before after out c.in_err-bytes.field-0.0 c.in_err-bytes.ensures))

pub read_shared_lines-requires-clause-least : goal.read_shared_lines-requires-clause-least
read_shared_lines-requires-clause-least g c = omega (arith, some_folders (length c.args.dirs.now) c.requires)

pub read_shared_lines-requires-clause-most : goal.read_shared_lines-requires-clause-most
read_shared_lines-requires-clause-most g c = omega (arith, few_folders (length c.args.dirs.now) c.requires)

pub returns-in_err-lines : goal.returns-in_err-lines
returns-in_err-lines g c =
    let before = g.F.Files.state c.args.files.now in
    let after = g.F.Files.state c.read.new.files in
    let out = g.O.Sink.state c.args.out.now in
    subst (λ (r : End). IsSharedAnswered c.args.script.now c.args.dirs.now (outside before out) (outside after out) r)
    (sym (err_is c.from_residual-in_err-lines.result c.in_err-lines.field-0.0 c.from_residual-in_err-lines.ensures))
    (inl (no_shared_lines c.args.script.now c.in_ok-bytes.bytes c.args.dirs.now before after out c.in_err-lines.field-0.0 c.in_ok-bytes.ensures
    (subst (λ (t : Text). AreSharedLinesRead (length c.args.dirs.now) t (Err c.in_err-lines.field-0.0)) c.as_slice.ensures c.in_err-lines.ensures)))

pub returns-in_err-packs : goal.returns-in_err-packs
returns-in_err-packs g c =
    let before = g.F.Files.state c.args.files.now in
    let between = g.F.Files.state c.read.new.files in
    let after = g.F.Files.state c.read_packs.new.files in
    let out = g.O.Sink.state c.args.out.now in
    subst (λ (r : End). IsSharedAnswered c.args.script.now c.args.dirs.now (outside before out) (outside after out) r)
    (sym (err_is c.from_residual-in_err-packs.result c.in_err-packs.field-0.0 c.from_residual-in_err-packs.ensures))
    (folder_refused c.args.script.now c.in_ok-bytes.bytes c.args.dirs.now before between out (map shared_line_view c.in_ok-lines.lines.items) c.in_ok-bytes.ensures (rw c.as_slice.ensures at c.in_ok-lines.ensures)
    after c.in_err-packs.field-0.0 c.in_err-packs.ensures)

pub programs_of-requires-clause-some : goal.programs_of-requires-clause-some
programs_of-requires-clause-some g c =
    omega (arith, packs_many (g.F.Files.state c.read.new.files).content c.args.dirs.now c.in_ok-packs.packs.items c.in_ok-packs.ensures.0, some_folders (length c.args.dirs.now) c.requires)

pub programs_of-requires-clause-few : goal.programs_of-requires-clause-few
programs_of-requires-clause-few g c =
    omega (arith, packs_many (g.F.Files.state c.read.new.files).content c.args.dirs.now c.in_ok-packs.packs.items c.in_ok-packs.ensures.0, few_folders (length c.args.dirs.now) c.requires)

pub programs_of-requires-clause-same : goal.programs_of-requires-clause-same
programs_of-requires-clause-same g c = packs_many (g.F.Files.state c.read.new.files).content c.args.dirs.now c.in_ok-packs.packs.items c.in_ok-packs.ensures.0

pub returns-in_err-programs : goal.returns-in_err-programs
returns-in_err-programs g c =
    let before = g.F.Files.state c.args.files.now in
    let between = g.F.Files.state c.read.new.files in
    let after = g.F.Files.state c.read_packs.new.files in
    let out = g.O.Sink.state c.args.out.now in
    subst (λ (r : End). IsSharedAnswered c.args.script.now c.args.dirs.now (outside before out) (outside after out) r)
    (sym (err_is c.from_residual-in_err-programs.result c.in_err-programs.field-0.0 c.from_residual-in_err-programs.ensures))
    (packs_refused c.args.script.now c.in_ok-bytes.bytes c.args.dirs.now before between out (map shared_line_view c.in_ok-lines.lines.items) c.in_ok-bytes.ensures (rw c.as_slice.ensures at c.in_ok-lines.ensures)
    after c.in_ok-packs.packs.items c.in_ok-packs.ensures.0 c.in_ok-packs.ensures.1 c.in_err-programs.field-0.0 c.in_err-programs.ensures)

pub play_together-requires-clause-made : goal.play_together-requires-clause-made
play_together-requires-clause-made g c =
    c.in_ok-programs.ensures.1 ∙ ap made_of (sym (ap (λ (s : State). s.packs) c.in_ok-programs.ensures.1))

pub play_together-requires-clause-fit : goal.play_together-requires-clause-fit
play_together-requires-clause-fit g c =
    let said = rw c.as_slice.ensures at c.in_ok-lines.ensures in
    let many = packs_many (g.F.Files.state c.read.new.files).content c.args.dirs.now c.in_ok-packs.packs.items c.in_ok-packs.ensures.0 in
    let fit = lines_fit_packs c.in_ok-bytes.bytes (length c.args.dirs.now) (map shared_line_view c.in_ok-lines.lines.items) c.in_ok-packs.packs.items said many in
    subst (λ (items : List SharedLine). list_all (λ l. shared_fits (length (state_of c.in_ok-programs.programs).packs) l.act) (map shared_line_view items) ≡ true) (sym c.deref.ensures.value)
    (subst (λ (ps : List Pack). list_all (λ l. shared_fits (length ps) l.act) (map shared_line_view c.in_ok-lines.lines.items) ≡ true) (sym (ap (λ (s : State). s.packs) c.in_ok-programs.ensures.1)) fit)

pub returns-in_err-play_together : goal.returns-in_err-play_together
returns-in_err-play_together g c =
    let before = g.F.Files.state c.args.files.now in
    let between = g.F.Files.state c.read.new.files in
    let after = g.F.Files.state c.read_packs.new.files in
    let out = g.O.Sink.state c.args.out.now in
    let played = g.O.Sink.state c.play_together.new.out in
    let ls = map shared_line_view c.in_ok-lines.lines.items in
    let packs = ap (λ (s : State). s.packs) c.in_ok-programs.ensures.1 in
    let over = subst (λ (ps : List Pack). IsPlayed (shared_report ps ls (loaded ps)) (Err c.in_err-play_together.field-0.0) out played) packs
    (subst (λ (items : List SharedLine). IsPlayed (shared_report (state_of c.in_ok-programs.programs).packs (map shared_line_view items) (loaded (state_of c.in_ok-programs.programs).packs)) (Err c.in_err-play_together.field-0.0) out played) c.deref.ensures.value c.in_err-play_together.ensures) in
    shared_played c.args.script.now c.in_ok-bytes.bytes c.args.dirs.now before between out ls c.in_ok-bytes.ensures (rw c.as_slice.ensures at c.in_ok-lines.ensures)
    after c.in_ok-packs.packs.items c.in_ok-packs.ensures.0 c.in_ok-packs.ensures.1 played (Err c.in_err-play_together.field-0.0) c.from_residual-in_err-play_together.result c.in_ok-programs.ensures.0 over
    (err_is c.from_residual-in_err-play_together.result (of_play c.in_err-play_together.field-0.0) c.from_residual-in_err-play_together.ensures)

pub returns : goal.returns
returns g c =
    let before = g.F.Files.state c.args.files.now in
    let between = g.F.Files.state c.read.new.files in
    let after = g.F.Files.state c.read_packs.new.files in
    let out = g.O.Sink.state c.args.out.now in
    let played = g.O.Sink.state c.play_together.new.out in
    let ls = map shared_line_view c.in_ok-lines.lines.items in
    let packs = ap (λ (s : State). s.packs) c.in_ok-programs.ensures.1 in
    let over = subst (λ (ps : List Pack). IsPlayed (shared_report ps ls (loaded ps)) (Ok tt) out played) packs
    (subst (λ (items : List SharedLine). IsPlayed (shared_report (state_of c.in_ok-programs.programs).packs (map shared_line_view items) (loaded (state_of c.in_ok-programs.programs).packs)) (Ok tt) out played) c.deref.ensures.value c.in_ok-play_together.ensures) in
    shared_played c.args.script.now c.in_ok-bytes.bytes c.args.dirs.now before between out ls c.in_ok-bytes.ensures (rw c.as_slice.ensures at c.in_ok-lines.ensures)
    after c.in_ok-packs.packs.items c.in_ok-packs.ensures.0 c.in_ok-packs.ensures.1 played (Ok tt) (Ok tt) c.in_ok-programs.ensures.0 over refl
