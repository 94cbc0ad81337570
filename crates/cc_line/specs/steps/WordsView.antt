-- What the code's words show.
use Rattle.cc_line.specs.declared.macro_line.Words.{Words}
use Rattle.cc_line.specs.steps.OpenWords as spec

abbrev pub words_view : Words → spec.Words
words_view w = record { store = w.store; simple = w.simple }
