-- The five lines, from what they are made of.
use Rattle.std.proofs.Common.{◌≡◌, ◌∙◌, ap, subst, ℕ, ◌++◌, length, codes, Result, Option}
use Rattle.std.specs.Prelude.{IfOk}
use Rattle.std.specs.Fmt.{decimal}
use Rattle.mc_cmd.specs.Form.{Text}
use Rattle.mc_cmd.specs.Layout.{Answer}
use Rattle.mc_cmd.specs.Pack.{Pack}
use Rattle.wm_ast.specs.declared.module.Module.{Module}
use Rattle.mc_tick.specs.State.{State, booted}
use Rattle.mc_tick.specs.StateView.{state_of}
use Rattle.mc_tick.specs.declared.resumed.Resumed.{Resumed}
use Rattle.app_words.specs.Lines.{ended_line, shown}
use Rattle.app_words.specs.Report.{answer_of}
use Rattle.app_workload.specs.Reduced.{reduced}
use Rattle.app_workload.specs.Told.{IsWorkloadText}
use Rattle.app_workload.specs.declared.lines.Played.{Played}
use Rattle.app_workload.specs.steps.Playing.{EndsFrom, IsPlayedOut}
use Rattle.app_workload.specs.steps.Telling.{TellsPlay, TellsStanding}
use Rattle.app_workload.proofs.PlayingLemmas.{if_ok}

-- the play of a pack that came to this state
plays : (p : Pack) (b : State) (r : Resumed) (l : Played) → b ≡ booted p → IsPlayedOut b.pack (EndsFrom b.pack b.standing) r → TellsStanding (state_of r).pack (state_of r).standing l → TellsPlay p l
plays p b r l e h t =
    let pack : (state_of r).pack ≡ p = h.same ∙ ap (λ (z : State). z.pack) e in (
      (state_of r).standing,
      subst (λ (z : State). EndsFrom z.pack z.standing (state_of r).standing) e h.ends,
      subst (λ (q : Pack). TellsStanding q (state_of r).standing l) pack t,
    )

pub all_plays : {E : Type 0} (p : Pack) (b : State) (r : Resumed) (t : Result Played E) → b ≡ booted p → IsPlayedOut b.pack (EndsFrom b.pack b.standing) r
    → IfOk t (TellsStanding (state_of r).pack (state_of r).standing) → IfOk t (TellsPlay p)
all_plays p b r t e h f = if_ok (TellsStanding (state_of r).pack (state_of r).standing) (TellsPlay p) t (λ l g. plays p b r l e h g) f

abbrev pub five : ℕ → ℕ → Text → Text → Text → Text
five bytes functions played reduction counts =
    (codes "bytes " ++ ended_line (decimal bytes))
    ++ ((codes "functions " ++ ended_line (decimal functions))
    ++ ((codes "pack " ++ played)
    ++ ((codes "reduction " ++ reduction)
    ++ counts)))

-- the text of a module and of a pack, by what is told of both
tells : (bytes functions : ℕ) (m : Module) (p : Pack) (l : Played) (told : Option Answer) (reduction t : Text)
    → TellsPlay p l → functions ≡ length m.funcs → told ≡ reduced m → reduction ≡ shown told → t ≡ five bytes functions l.answer reduction l.counts → IsWorkloadText bytes (length m.funcs) m p t
tells bytes functions m p l told reduction t play count reduces line is = (
  play.0,
  play.1,
  is
      ∙ ap (λ n. five bytes n l.answer reduction l.counts) count
      ∙ ap (λ x. five bytes (length m.funcs) x reduction l.counts) play.2.0
      ∙ ap (λ x. five bytes (length m.funcs) (shown (answer_of p play.0)) x l.counts) (line ∙ ap shown reduces)
      ∙ ap (five bytes (length m.funcs) (shown (answer_of p play.0)) (shown (reduced m))) play.2.1,
)

pub all_told : {E : Type 0} (bytes functions : ℕ) (m : Module) (p : Pack) (l : Played) (told : Option Answer) (reduction : Text) (t : Result Text E)
    → TellsPlay p l → functions ≡ length m.funcs → told ≡ reduced m → reduction ≡ shown told → IfOk t (λ x. x ≡ five bytes functions l.answer reduction l.counts) → IfOk t (λ x. IsWorkloadText bytes (length m.funcs) m p x)
all_told bytes functions m p l told reduction t play count reduces line f =
    if_ok (λ x. x ≡ five bytes functions l.answer reduction l.counts) (λ x. IsWorkloadText bytes (length m.funcs) m p x) t
    (λ x is. tells bytes functions m p l told reduction x play count reduces line is) f
