-- How the macro line of the dispatch is spelled.
use Rattle.std.proofs.Common.{◌≡◌, ◌++◌, append_assoc}
use Rattle.std.specs.Prelude.{codes}
use Rattle.mc_cmd.specs.Form.{Text}
use Rattle.mc_cmd.specs.Command.{pattern}
use Rattle.mc_cmd.specs.Grammar.{line_text}
use Rattle.cc_sched.specs.Sched.{run_pattern}

pub run_spelled : (ns : Text) → line_text (pattern (run_pattern ns)) ≡ codes "$function " ++ (ns ++ codes ":f$(i)_$(j)")
run_spelled ns = simp append_assoc
