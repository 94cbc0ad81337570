-- A helper by its parts, and the lines of the one that an item calls.
use Rattle.std.specs.Prelude.{List, []}
use Rattle.mc_cmd.specs.Form.{Text}
use Rattle.mc_cmd.specs.Chain.{Texts}
use Rattle.cc_line.specs.OpenStep.{open_texts}
use Rattle.cc_line.specs.Item.{Item, step_item, call_item, call_when, fill_item, fill_when, items_texts, Helper}

abbrev pub helper : Text → List Text → Helper
helper f ts = record { name = f; lines = ts }

abbrev pub called_lines : Text → Item → Texts
called_lines ns (step_item x) = []
called_lines ns (call_item f xs) = items_texts ns xs
called_lines ns (call_when cs f xs) = items_texts ns xs
called_lines ns (fill_item f p xs) = open_texts ns xs
called_lines ns (fill_when cs f p xs) = open_texts ns xs
