-- What is told of the play of a pack.
use Rattle.std.specs.Prelude.{◌≡◌}
use Rattle.mc_cmd.specs.Pack.{Pack, Standing}
use Rattle.app_words.specs.Lines.{last_line, shown}
use Rattle.app_words.specs.Report.{answer_of}
use Rattle.app_words.specs.Workload.{EndsAt}
use Rattle.app_workload.specs.declared.lines.Played.{Played}

-- where its play stands so
abbrev pub TellsStanding : Pack → Standing → Played → Type 0
TellsStanding pack s l = (l.answer ≡ shown (answer_of pack s)) × (l.counts ≡ last_line s.ticks s.used)

-- where its play ends
abbrev pub TellsPlay : Pack → Played → Type 0
TellsPlay pack l = (s : Standing) × EndsAt pack s × TellsStanding pack s l
