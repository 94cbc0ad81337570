-- The report of a script that may ask where the program is. What is printed then is no matter of the pack alone, so it
-- is told which texts may be printed, and the report is a relation. It is told also how a report begins that was left
-- before its end.
use Rattle.std.specs.Prelude.{◌≡◌, ◌⊎◌, ℕ, List, [], ◌∷◌, ◌++◌, Option, Some, None}
use Rattle.mc_cmd.specs.Form.{Text}
use Rattle.mc_cmd.specs.Pack.{Pack, Standing}
use Rattle.mc_cmd.specs.World.{World}
use Rattle.app_words.specs.Act.{Act, ScriptLine}
use Rattle.app_words.specs.Act as act
use Rattle.app_words.specs.Lines.{last_line}
use Rattle.app_words.specs.Report.{Acted, End, acted, finished, goes, refused, stops}

-- what a report prints, up to its end or up to where it was left
pub record Begun : Type 0 where
  pub text : Text
  pub end : Option End

-- it was left before more was printed
abbrev pub IsLeft : Begun → Type 0
IsLeft r = r ≡ record { text = []; end = None }

-- a text stands before what is reported then
abbrev pub IsBefore : Text → Begun → Begun → Type 0
IsBefore t rest r = r ≡ record { text = t ++ rest.text; end = rest.end }

-- What an act does to a pack, by the texts that may be printed where the program is asked after: these are told by the
-- namespace of the pack and by the world.
abbrev pub IsActed : (Text → World → Text → Type 0) → Pack → Act → Standing → Acted → Type 0
IsActed May pack act.inspect s x = (t : Text) × May pack.index.ns s.world t × (x ≡ goes t s)
IsActed May pack a s x = x ≡ acted pack a s

-- what a line of this number does, and then what is reported from the standing that it leaves; at a refused line nothing
-- more is printed
abbrev pub GoesOn : ℕ → Acted → (Standing → Begun → Type 0) → Begun → Type 0
GoesOn n (goes t s) Rest r = (rest : Begun) × Rest s rest × IsBefore t rest r
GoesOn n (stops c) Rest r = r ≡ record { text = []; end = Some (refused n c) }

-- what is reported of a script over a pack, from a standing on
abbrev pub IsReport : (Text → World → Text → Type 0) → Pack → List ScriptLine → Standing → Begun → Type 0
IsReport May pack [] s r = IsLeft r ⊎ (r ≡ record { text = last_line s.ticks s.used; end = Some finished })
IsReport May pack (l ∷ ls) s r =
    IsLeft r ⊎ ((x : Acted) × IsActed May pack l.act s x × GoesOn l.line x (IsReport May pack ls) r)
