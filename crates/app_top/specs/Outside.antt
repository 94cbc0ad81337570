-- What is outside of the program: the files, and the output.
use Rattle.io_dev.specs.Files.{FilesState}
use Rattle.io_dev.specs.Sink.{SinkState}

pub record Outside : Type 0 where
  pub files : FilesState
  pub out : SinkState

abbrev pub outside : FilesState → SinkState → Outside
outside files out = record { files = files; out = out }
