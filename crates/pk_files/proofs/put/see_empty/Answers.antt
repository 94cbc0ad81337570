use Rattle.std.proofs.Common.{◌∙◌, sym, subst}
use Rattle.io_dev.specs.Names.{IsListingOf}
use Rattle.mc_cmd.specs.Chain.{Texts}
use Rattle.pk_files.proofs.PutLemmas.{none_first}
use Rattle.pk_files.proofs.put.see_empty.Goals as goal

pub returns : goal.returns
returns g c = (
  subst (λ (names : Texts). IsListingOf (g.F.Files.state c.args.files.now).content c.args.dir.now names)
      (sym c.as_slice.ensures ∙ none_first _ c.first.result c.first.ensures.value c.in_default.is) c.in_ok-names.ensures.0,
  c.in_ok-names.ensures.2,
)
