use Rattle.mc_cmd.specs.Packing.{index_view}
use Rattle.pk_files.proofs.JsonLemmas.{index_bytes_say}
use Rattle.pk_files.proofs.put.index_file.Goals as goal

pub returns-clause-said : goal.returns-clause-said
returns-clause-said c = index_bytes_say (index_view c.args.index.now) c.in_ok-bytes.bytes.items c.requires c.in_ok-bytes.ensures.text c.in_ok-bytes.ensures.said
