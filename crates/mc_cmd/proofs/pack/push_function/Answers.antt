use Rattle.std.proofs.Common.{◌≡◌, [], ◌∷◌, ◌++◌, None, ◌∙◌, sym, ap, string_bytes}
use Rattle.std.specs.Map.{lookup}
use Rattle.std.specs.Str.{bytes_eq}
use Rattle.std.specs.String.{string_eq}
use Rattle.std.proofs.lemmas.List.{map-append}
use Rattle.indexmap.specs.IndexMap.{get}
use Rattle.indexmap.proofs.CallerLemmas.{insert_entry-new}
use Rattle.mc_cmd.specs.Packing.{named}
use Rattle.mc_cmd.proofs.PackLemmas.{lookup_named}
use Rattle.mc_cmd.proofs.pack.push_function.Goals as goal

pub returns-clause-ok : goal.returns-clause-ok
returns-clause-ok c =
    let m = c.args.functions.now in
    let key = c.in_ok-key.key in
    let bytes : string_bytes key ≡ c.args.name.now = c.in_ok-key.ensures.ok ∙ c.as_str.ensures in
    let absent : get string_eq m key ≡ None = sym (lookup_named (string_bytes key) m.entries) ∙ ap (λ n. lookup (bytes_eq n) (named m.entries)) bytes ∙ c.requires in
    ap named (c.in_ok-insert.ensures.entries ∙ insert_entry-new string_eq m key c.args.lines absent) ∙ map-append _ m.entries _ ∙ ap (λ n. named m.entries ++ ((n, c.args.lines) ∷ [])) bytes
