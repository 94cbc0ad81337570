use Rattle.std.proofs.Common.{arith, ◌≡◌, ◌≤◌, ◌∙◌, ap, refl, length}
use Rattle.mc_cmd.specs.Pack.{functions_of}
use Rattle.mc_engine.specs.EngineView.{shown}
use Rattle.mc_together.specs.Together.{run_shares}
use Rattle.pk_multi.specs.Entry.{function_of, share_by}
use Rattle.pk_multi.specs.Standing.{packs_in}
use Rattle.pk_multi.specs.State.{state_of}
use Rattle.pk_multi.proofs.LoopLemmas.{named_count, drop_none, step, ended}
use Rattle.pk_multi.proofs.programs.Programs.run_all.Goals as goal

pub loop-who-init : goal.loop-who-init
loop-who-init c =
    let ps = packs_in (shown c.args.self.now.engine) in
    let f = share_by c.args.shares (length ps) c.args.self.now.ticks in
    record {
      packs = refl;
      ticks = refl;
      booted = refl;
      failed = c.requires.failed;
      run = ap (λ qs. run_shares (functions_of ps) (function_of c.args.entry) f 0 qs (state_of c.args.self.now).standing) (drop_none ps);
    }

pub loop-who-preserved : goal.loop-who-preserved
loop-who-preserved c =
    let ps = packs_in (shown c.args.self.now.engine) in
    let name = function_of c.args.entry in
    let f = share_by c.args.shares (length ps) c.args.self.now.ticks in
    let n : length ps ≡ length c.args.self.now.programs.items = named_count c.args.self.now.programs.items (shown c.args.self.now.engine).packs c.args.self.now.named in
    let count : c.len-count.result ≡ length ps = omega (arith, n, c.len-count.ensures) in
    let r = run_shares (functions_of ps) name f 0 ps (state_of c.args.self.now).standing in
    record {
      packs = c.run.ensures.packs ∙ c.loop-who.invariant.packs;
      ticks = c.run.ensures.same.0 ∙ c.loop-who.invariant.ticks;
      booted = c.run.ensures.same.1 ∙ c.loop-who.invariant.booted;
      failed = c.run.ensures.same.2;
      run = step ps name f c.loop-who.who (state_of c.loop-who.self).standing (state_of c.run.new.self).standing r (packs_in (shown c.loop-who.self.engine)) c.share_by-share.result
          (omega (arith, n, c.len-count.ensures, c.loop-who-test.true)) c.loop-who.invariant.packs
          (c.share_by-share.ensures.share ∙ ap (λ k. share_by c.args.shares k c.args.self.now.ticks c.loop-who.who) count) c.in_ok-run.ensures.event c.loop-who.invariant.run;
    }

pub returns-clause-event : goal.returns-clause-event
returns-clause-event c =
    let ps = packs_in (shown c.args.self.now.engine) in
    let name = function_of c.args.entry in
    let f = share_by c.args.shares (length ps) c.args.self.now.ticks in
    let n : length ps ≡ length c.args.self.now.programs.items = named_count c.args.self.now.programs.items (shown c.args.self.now.engine).packs c.args.self.now.named in
    let r = run_shares (functions_of ps) name f 0 ps (state_of c.args.self.now).standing in
    let out : length ps ≤ c.loop-who.who = omega (arith, n, c.len-count.ensures, c.loop-who-test.false) in
    ended ps name f c.loop-who.who (state_of c.loop-who.self).standing r out c.loop-who.invariant.run
