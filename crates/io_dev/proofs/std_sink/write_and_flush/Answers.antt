use Rattle.std.proofs.Common.{Result, Ok, Err, OnErr}
use Rattle.std.proofs.KnownBytes.{Appends-kept}
use Rattle.io_dev.proofs.Streams.{whole_prefix}
use Rattle.io_dev.proofs.std_sink.write_and_flush.Goals as goal

-- what always holds, holds on an error
at_error : {T E P : Type 0} (r : Result T E) → P → OnErr r P
at_error (Ok x) holds = tt
at_error (Err e) holds = holds

pub returns-clause-err : goal.returns-clause-err
returns-clause-err g c =
    at_error c.flush-flushed.result (whole_prefix _ _ _ (Appends-kept _ _ _ _ c.in_ok-written.ensures.ok c.flush-flushed.ensures.bytes))
