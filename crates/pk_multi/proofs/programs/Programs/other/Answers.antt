use Rattle.std.proofs.Common.{◌≡◌, ap, ◌∙◌, sym, refl, List, None}
use Rattle.std.specs.Prelude.{find, option_map}
use Rattle.mc_cmd.specs.Command.{Cmd}
use Rattle.mc_cmd.specs.Foreign.{simple_names}
use Rattle.mc_cmd.specs.View.{cmd_view}
use Rattle.mc_engine.specs.EngineView.{Shown, shown}
use Rattle.mc_together.specs.Together.{other}
use Rattle.mc_world.specs.WorldView.{run_of}
use Rattle.pk_multi.specs.Counting.{spaces}
use Rattle.pk_multi.specs.Own.{first_own_of, is_own_under}
use Rattle.pk_multi.specs.Standing.{packs_in}
use Rattle.pk_multi.specs.State.{state_of}
use Rattle.pk_multi.specs.declared.program.Program.{Program}
use Rattle.pk_multi.specs.declared.programs.Programs.{Programs}
use Rattle.pk_multi.proofs.OwnLemmas.{foreign_to_all, own_left, spaces_written}
use Rattle.pk_multi.proofs.StateLemmas.{applied, happened}
use Rattle.pk_multi.proofs.programs.Programs.other.Goals as goal

-- the first name that is told of the programs is that of the packs
told_of_packs : (p : Programs) (ps : List Program) (c : Cmd) → ps ≡ p.programs.items → first_own_of (packs_in (shown p.engine)) c ≡ find (is_own_under (spaces ps)) (simple_names (run_of c))
told_of_packs p ps c e = ap (λ nss. find (is_own_under nss) (simple_names (run_of c))) (spaces_written (shown p.engine).packs ∙ sym p.named ∙ ap spaces (sym e))

pub returns-in-Some : goal.returns-in-Some
returns-in-Some c =
    let p = c.args.self.now in
    let cmd = cmd_view c.args.cmd.now in
    own_left (state_of p) (state_of c.own_told.new.self) cmd c.in-Some.name.now _ c.if-self.false (sym c.is_foreign.ensures.foreign ∙ c.if-not-is_foreign.false)
    (told_of_packs p _ cmd c.as_slice.ensures.value ∙ sym c.first_own-own.ensures ∙ ap (option_map (λ m. m.now)) c.in-Some.is) c.own_told.ensures

pub returns : goal.returns
returns c =
    let p = c.args.self.now in
    let n = c.apply.new.self in
    let cmd = cmd_view c.args.cmd.now in
    let none : first_own_of (packs_in (shown p.engine)) cmd ≡ None = told_of_packs p _ cmd c.as_slice.ensures.value ∙ sym c.first_own-own.ensures ∙ ap (option_map (λ m. m.now)) c.in_default.is in
    let same : packs_in (shown n) ≡ packs_in (shown p.engine) = ap (λ (e : Shown). packs_in e) c.apply.ensures.others in (
      c.if-self.false,
      none,
      foreign_to_all (packs_in (shown p.engine)) cmd c.is_foreign.ensures.fits (sym c.is_foreign.ensures.foreign ∙ c.if-not-is_foreign.false) none,
      happened (state_of p) (shown n) p.programs.items p.ticks p.booted same (other cmd) refl c.if-self.false
          (applied (shown p.engine).world (shown n).world p.ticks p.programs.items cmd (ap (λ e. e.world) c.in_ok-apply.ensures.effect)),
    )
