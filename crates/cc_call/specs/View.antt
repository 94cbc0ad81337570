-- What lists of the code's acts show.
use Rattle.std.specs.Prelude.{List, map}
use Rattle.cc_line.specs.declared.step.Act.{Act}
use Rattle.cc_line.specs.Step as step
use Rattle.cc_line.specs.View.{act_view}

abbrev pub acts_view : List Act → List step.Act
acts_view acts = map act_view acts
