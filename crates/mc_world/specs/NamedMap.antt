-- Maps from names, which are strings, by the bytes of the names.
use Rattle.std.specs.Prelude.{Option, String, string_bytes}
use Rattle.std.specs.Map.{lookup}
use Rattle.std.specs.Str.{bytes_eq}
use Rattle.indexmap.specs.IndexMap.{IndexMap}
use Rattle.mc_cmd.specs.Form.{Text}

-- what stands under a name
abbrev pub name_get : {A X S : Type 0} → IndexMap (String A) X S → Text → Option X
name_get m i = lookup (λ k. bytes_eq i (string_bytes k)) m.entries
