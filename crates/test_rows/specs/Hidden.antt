-- Files in memory, seen as files that don't tell what they hold.
use Rattle.std.specs.Prelude.{None}
use Rattle.io_dev.specs.Files.{FilesState}
use Rattle.io_dev.specs.MemFiles.{files_of}
use Rattle.io_dev.specs.declared.mem_files.MemFiles.{MemFiles}

-- the counts of faults and the path of the last one, and no content
abbrev pub hidden : MemFiles → FilesState
hidden files = record (files_of files) { content = None }
