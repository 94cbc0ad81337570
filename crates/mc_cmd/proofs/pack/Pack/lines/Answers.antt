use Rattle.std.proofs.Common.{◌∙◌, sym, ap, string_bytes}
use Rattle.std.specs.Map.{lookup}
use Rattle.std.specs.Str.{bytes_eq}
use Rattle.mc_cmd.proofs.PackLemmas.{lookup_named}
use Rattle.mc_cmd.proofs.pack.Pack.lines.Goals as goal

pub returns : goal.returns
returns c =
    let es = c.self.inside.functions.entries in
    rw (← c.self.view_is) (c.get.ensures.value ∙ ap (λ q. lookup (λ k. bytes_eq q (string_bytes k)) es) c.as_str.ensures ∙ sym (lookup_named c.args.name.now es))
