-- What is told of a workload: how many bytes and functions it has, how the play of its pack and its reduction ended,
-- and what the play took.
use Rattle.std.specs.Prelude.{◌≡◌, ◌⊎◌, ℕ, zero, suc, [], ◌++◌, Bool, true, false, if◌then◌else◌, Option, Some}
use Rattle.std.specs.Prelude.{codes, slice_get}
use Rattle.std.specs.Fmt.{decimal}
use Rattle.mc_cmd.specs.Form.{Text}
use Rattle.mc_cmd.specs.Layout.{Answer, running}
use Rattle.mc_cmd.specs.Pack.{Pack, Standing, IsCallOf, call, tick, happen, loaded}
use Rattle.app_words.specs.Lines.{ended_line, shown, last_line}
use Rattle.app_words.specs.Report.{answer_of, is_dead}

-- the budget of each tick of the play, and how many ticks are waited for at most, each time
abbrev pub tick_budget : ℕ
tick_budget = 65536

abbrev pub most_ticks : ℕ
most_ticks = 1000000

abbrev pub is_running : Option Answer → Bool
is_running (Some running) = true
is_running o = false

-- ticks as long as the pack runs, at most so many
unfoldable pub waited : Pack → ℕ → Standing → Standing
waited pack zero s = s
waited pack (suc n) s = if is_running (answer_of pack s) then waited pack n (happen pack s (tick tick_budget)) else s

-- once instantiation is over, or was waited for long enough
abbrev pub started : Pack → Standing
started pack = waited pack most_ticks (loaded pack)

-- `main` can be called: it is the export 0, takes nothing, and the start function hasn't trapped
abbrev pub CanCallMain : Pack → Standing → Type 0
CanCallMain pack s = IsCallOf (slice_get pack.index.exports 0) [] × (is_dead pack s ≡ false)

-- `main` is called, and waited for as long; a call that is refused is left out
abbrev pub CallsMain : Pack → Standing → Standing → Type 0
CallsMain pack s t =
    (CanCallMain pack s × (t ≡ waited pack most_ticks (happen pack s (call 0 []))))
    ⊎ ((¬ CanCallMain pack s) × (t ≡ s))

-- where the play of a workload's pack ends: while it still runs `main` isn't called
abbrev pub EndsAt : Pack → Standing → Type 0
EndsAt pack t =
    ((is_running (answer_of pack (started pack)) ≡ true) × (t ≡ started pack))
    ⊎ ((is_running (answer_of pack (started pack)) ≡ false) × CallsMain pack (started pack) t)

-- The five lines: so many bytes and functions, what the pack answers in the end, what came of the reduction, and the
-- ticks and the weight that the play took.
abbrev pub workload_text : ℕ → ℕ → Option Answer → Option Answer → Standing → Text
workload_text bytes functions played reduced s =
    (codes "bytes " ++ ended_line (decimal bytes))
    ++ ((codes "functions " ++ ended_line (decimal functions))
    ++ ((codes "pack " ++ shown played)
    ++ ((codes "reduction " ++ shown reduced)
    ++ last_line s.ticks s.used)))
