use Rattle.mc_cmd.specs.Packing.{index_view}
use Rattle.pk_files.proofs.JsonLemmas.{index_whole, index_shallow}
use Rattle.pk_files.proofs.encode.index_bytes.Goals as goal

pub bytes_of-requires-clause-whole : goal.bytes_of-requires-clause-whole
bytes_of-requires-clause-whole c = rw c.in_ok-value.ensures (index_whole (index_view c.args.index.now))

pub bytes_of-requires-clause-shallow : goal.bytes_of-requires-clause-shallow
bytes_of-requires-clause-shallow c = rw c.in_ok-value.ensures (index_shallow (index_view c.args.index.now))
