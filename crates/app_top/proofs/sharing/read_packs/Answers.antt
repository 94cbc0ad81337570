use Rattle.std.proofs.Common.{◌∙◌, sym, subst, Result}
use Rattle.std.specs.declared.vec.Vec.{Vec}
use Rattle.std.specs.declared.alloc.Global.{Global}
use Rattle.mc_cmd.specs.Packing.{Written}
use Rattle.app_top.specs.declared.refusal.Refusal.{Refusal}
use Rattle.app_top.specs.declared.refusal.Refusal.TheVariants as refusals
use Rattle.app_top.specs.steps.ShareRun.{ArePacksRead}
use Rattle.app_top.proofs.ProgramLemmas.{err_is}
use Rattle.app_top.proofs.SharedLemmas.{pack_unread, packs_full, packs_more, packs_read}
use Rattle.app_top.proofs.sharing.read_packs.Goals as goal

pub returns-in_err-pack : goal.returns-in_err-pack
returns-in_err-pack g c =
    let before = g.F.Files.state c.args.files.now in
    let after = g.F.Files.state c.read_pack_at.new.files in
    subst (λ (r : Result (Vec Written Global) Refusal). ArePacksRead before after c.args.dirs.now r)
    (sym (err_is c.from_residual.result c.in_err-pack.field-0.0 c.from_residual.ensures))
    (pack_unread before (g.F.Files.state c.loop-dir.files) after c.args.dirs.now c.loop-dir.dir-index c.dir-item.result c.loop-dir.packs.items c.in_err-pack.field-0.0
    c.loop-dir-test.true c.dir-item.is c.loop-dir.invariant.same c.loop-dir.invariant.reads c.in_err-pack.ensures)

pub returns-in_err-push : goal.returns-in_err-push
returns-in_err-push g c =
    let before = g.F.Files.state c.args.files.now in
    let after = g.F.Files.state c.read_pack_at.new.files in
    subst (λ (r : Result (Vec Written Global) Refusal). ArePacksRead before after c.args.dirs.now r)
    (sym (err_is c.from_residual-in_err-push.result refusals.Memory c.from_residual-in_err-push.ensures))
    (packs_full before (g.F.Files.state c.loop-dir.files) after c.args.dirs.now c.loop-dir.dir-index c.dir-item.result c.in_ok-pack.pack c.loop-dir.packs.items
    c.loop-dir-test.true c.dir-item.is c.loop-dir.invariant.same c.loop-dir.invariant.reads c.in_ok-pack.ensures)

pub loop-dir-preserved : goal.loop-dir-preserved
loop-dir-preserved g c = record {
  same = c.in_ok-pack.ensures.1 ∙ c.loop-dir.invariant.same;
  reads = packs_more (g.F.Files.state c.args.files.now) (g.F.Files.state c.loop-dir.files) (g.F.Files.state c.read_pack_at.new.files) c.args.dirs.now c.loop-dir.dir-index c.dir-item.result c.in_ok-pack.pack c.loop-dir.packs.items c.push.new.self.items
      c.loop-dir-test.true c.dir-item.is c.loop-dir.invariant.same c.loop-dir.invariant.reads c.in_ok-pack.ensures c.in_ok-push.ensures.items;
}

pub returns : goal.returns
returns g c =
    (packs_read (g.F.Files.state c.args.files.now) c.args.dirs.now c.loop-dir.dir-index c.loop-dir.packs.items c.loop-dir-test.false c.loop-dir.invariant.reads, c.loop-dir.invariant.same)
