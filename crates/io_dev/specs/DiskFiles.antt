-- Files over the real system.
use Rattle.std.specs.Prelude.{ℕ, List, Option, None}
use Rattle.io_dev.specs.Files.{FilesState}

-- files that don't tell what they hold, with so many faults of reads and of writes, and the path that failed last
abbrev pub untold : ℕ → ℕ → Option (List ℕ) → FilesState
untold reads writes last =
    record { content = None; read_faults = reads; write_faults = writes; last_failed = last }
