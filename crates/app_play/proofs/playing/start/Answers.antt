use Rattle.std.proofs.Common.{sym, subst, List, Option, Some}
use Rattle.std.specs.Prelude.{slice_get}
use Rattle.mc_nbt.specs.declared.value.Value.{Value}
use Rattle.mc_cmd.specs.Pack.{ExportType}
use Rattle.app_words.proofs.CallingLemmas.{kinds-values}
use Rattle.mc_tick.specs.StateView.{resting_state}
use Rattle.app_play.specs.steps.Playing.{FitsExport}
use Rattle.app_play.proofs.playing.start.Goals as goal

pub begin-requires : goal.begin-requires
begin-requires c =
    let h = c.in-Ok.ensures in
    let fits : FitsExport (Some h.0) c.in-Ok.values.items = kinds-values h.0.params c.args.args.now c.in-Ok.values.items h.2 in
    subst (λ (vs : List Value). FitsExport (slice_get (resting_state c.args.resting).pack.index.exports c.in-Ok.place) vs) (sym c.deref.ensures.value)
    (subst (λ (o : Option ExportType). FitsExport o c.in-Ok.values.items) (sym h.3) fits)
