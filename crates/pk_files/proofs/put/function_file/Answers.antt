use Rattle.std.proofs.Common.{◌∙◌, sym, ap}
use Rattle.std.specs.Prelude.{option_map}
use Rattle.pk_files.specs.Paths.{at, function_file as file_name}
use Rattle.pk_files.proofs.PutLemmas.{file_is, no_lines}
use Rattle.pk_files.proofs.put.function_file.Goals as goal

pub unreachable-requires : goal.unreachable-requires
unreachable-requires c =
    no_lines c.args.pack.now c.args.at c.name.result.now c.in_ok-name.name c.requires.written c.name.ensures c.in_ok-name.ensures (ap (option_map (λ t. t.now)) (sym c.in-None.is) ∙ c.lines.ensures)

pub returns : goal.returns
returns c =
    file_is c.args.pack.now c.args.folder.now c.args.at c.name.result.now c.in_ok-name.name c.in-Some.lines.now c.in_ok-function_path-in-Some.field-0 c.in_ok-file_of-in-Some.field-0.items
    c.requires.written c.name.ensures c.in_ok-name.ensures (ap (option_map (λ t. t.now)) (sym c.in-Some.is) ∙ c.lines.ensures)
    (c.in_ok-function_path-in-Some.ensures ∙ ap (λ n. at c.args.folder.now (file_name n)) c.as_str.ensures) c.in_ok-file_of-in-Some.ensures
