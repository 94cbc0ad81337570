-- Maps from texts, by the order of their bytes.
use Rattle.std.specs.Prelude.{Option}
use Rattle.std.specs.Ordering.{nat_cmp}
use Rattle.std.specs.Cmp.Lexicographic.{slice_cmp}
use Rattle.std.specs.BTreeMap.{BTreeMap, get}
use Rattle.mc_cmd.specs.Form.{Text}

-- what stands under a text
abbrev pub text_get : {X : Type 0} → BTreeMap Text X → Text → Option X
text_get m k = get (slice_cmp nat_cmp) m k
