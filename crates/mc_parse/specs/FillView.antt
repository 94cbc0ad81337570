-- What a filled pattern stands for.
use Rattle.mc_cmd.specs.Fill as fill
use Rattle.mc_parse.specs.declared.filling.Filled.{Filled}
use Rattle.mc_parse.specs.declared.filling.Filled.TheVariants as filleds

abbrev pub filled_view : Filled → fill.Filled
filled_view (filleds.Text t) = fill.filled t
filled_view (filleds.Missing k) = fill.missing k
