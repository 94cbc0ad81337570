-- What is told of a workload.
use Rattle.std.specs.Prelude.{◌≡◌, ℕ}
use Rattle.mc_cmd.specs.Form.{Text}
use Rattle.mc_cmd.specs.Pack.{Pack, Standing}
use Rattle.wm_ast.specs.declared.module.Module.{Module}
use Rattle.app_words.specs.Report.{answer_of}
use Rattle.app_words.specs.Workload.{EndsAt, workload_text}
use Rattle.app_workload.specs.Reduced.{reduced}

-- The text is the five lines of a module of so many bytes and functions, and of a pack: where the play of the pack
-- ends, and what comes of the module's reduction.
abbrev pub IsWorkloadText : ℕ → ℕ → Module → Pack → Text → Type 0
IsWorkloadText bytes functions m pack text =
    (s : Standing)
    × EndsAt pack s
    × (text ≡ workload_text bytes functions (answer_of pack s) (reduced m) s)
