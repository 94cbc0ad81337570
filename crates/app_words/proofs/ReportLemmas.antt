-- The report of a script, line by line.
use Rattle.std.proofs.Common.{◌≡◌, ℕ, suc, List, [], ◌∷◌, ◌++◌, refl, ap}
use Rattle.std.specs.Prelude.{replicate}
use Rattle.mc_cmd.specs.Form.{Text}
use Rattle.mc_cmd.specs.Pack.{Pack, tick, Standing, happen, after_events}
use Rattle.app_words.specs.Act.{ScriptLine}
use Rattle.app_words.specs.Lines.{last_line}
use Rattle.app_words.specs.Report.{Cause, finished, refused, goes, stops, acted, and_then, report}

-- the report of a line that isn't refused is what it prints, and then the report of the lines after it,
-- from the standing that it leaves
pub report-goes : (pack : Pack) (l : ScriptLine) (ls : List ScriptLine) (s r : Standing) (t : Text) → acted pack l.act s ≡ goes t r → report pack (l ∷ ls) s ≡ record { text = t ++ (report pack ls r).text; end = (report pack ls r).end }
report-goes pack l ls s r t e = ap (λ a. and_then l.line a (report pack ls)) e

-- at a refused line nothing more is printed, and the script ends there
pub report-stops : (pack : Pack) (l : ScriptLine) (ls : List ScriptLine) (s : Standing) (c : Cause) → acted pack l.act s ≡ stops c → report pack (l ∷ ls) s ≡ record { text = []; end = refused l.line c }
report-stops pack l ls s c e = ap (λ a. and_then l.line a (report pack ls)) e

-- after the last line both counts are printed
pub report-finished : (pack : Pack) (s : Standing) → report pack [] s ≡ record { text = last_line s.ticks s.used; end = finished }
report-finished pack s = refl

-- a tick of several is the first one and then the others
pub ticks-suc : (pack : Pack) (b n : ℕ) (s : Standing) → after_events pack (replicate (suc n) (tick b)) s ≡ after_events pack (replicate n (tick b)) (happen pack s (tick b))
ticks-suc pack b n s = refl
