-- Each line that tells the reduction of the joined module tells that of the linked modules, one after the other.
use Rattle.std.proofs.Common.{◌≡◌, List, [], ◌∷◌, ◌++◌, Option, Some, None, refl, ap, subst, ◌∙◌, inl, inr}
use Rattle.std.specs.Option.{option_to_list}
use Rattle.mc_cmd.specs.Form.{Text}
use Rattle.mc_cmd.specs.Layout.{Answer, new, running, done, trap, dead}
use Rattle.mc_cmd.specs.Pack.{Pack, Event, play}
use Rattle.mc_cmd.specs.World.{World}
use Rattle.wm_ast.specs.Store as one_store
use Rattle.wm_valid.specs.Valid.{Valid}
use Rattle.wm_match.specs.Program.{Program}
use Rattle.wm_join.specs.Image.{HasGlobals}
use Rattle.wm_join.specs.Joined.{joined}
use Rattle.wm_join.specs.LinkedStore.{Store}
use Rattle.app_words.specs.Act.{Act, ScriptLine}
use Rattle.app_words.specs.Report.{Reported}
use Rattle.app_tell.specs.Tell as one_tell
use Rattle.app_tell.specs.Tell.{globals_of, memory_of, text_of, TellsReduction}
use Rattle.app_linked.specs.Job.{Job, image_job}
use Rattle.app_linked.specs.Tell.{ComesTo, LineTells, TellsFrom, TellsLinked, shown_store}
use Rattle.app_linked.proofs.JobLemmas.{jobs_linked}
use Rattle.app_linked.proofs.OutcomeLemmas.{ends_linked, traps_linked, over_is}

module _ (p : Program) where
  -- what a job of linked modules came to, where its image came to this
  record Came (j : Job) (a : Answer) (o : Option one_store.Store) : Type 0 where
    left : Option Store
    image : o ≡ shown_store p left
    comes : ComesTo p j a left

  came : (j : Job) (a : Answer) (o : Option one_store.Store) → HasGlobals p j.config.store → one_tell.ComesTo (joined p) (image_job p j) a o → Came j a o
  came j new (Some s) fits h =
      let l = ends_linked p j.config fits h.1 s h.2 in
      record { left = Some l.store; image = ap Some l.image; comes = (h.0, h.1, l.has) }
  came j (done v) (Some s) fits h =
      let l = ends_linked p j.config fits (option_to_list v) s h.1 in
      record { left = Some l.store; image = ap Some l.image; comes = (h.0, l.has) }
  came j (trap n) (Some s) fits h =
      let l = traps_linked p j.config fits h.1 s h.3 in
      record { left = Some l.store; image = ap Some l.image; comes = (h.0, h.1, h.2, l.has) }
  came j (dead n) (Some s) fits h =
      let l = traps_linked p j.config fits h.1 s h.3 in
      record { left = Some l.store; image = ap Some l.image; comes = (h.0, h.1, h.2, l.has) }
  came j running None fits h =
      record { left = None; image = refl; comes = λ n over. h n (over_is p j n fits over) }
  came j new None fits h = absurd h
  came j (done v) None fits h = absurd h
  came j (trap n) None fits h = absurd h
  came j (dead n) None fits h = absurd h
  came j running (Some s) fits h = absurd h

  module _ (v : Valid (joined p)) (pack : Pack) where
    line : (es : List Event) (a : Act) (text : Text) (made : List Event) → one_tell.LineTells (joined p) pack es a text made → LineTells p pack es a text made
    line es a text made h =
        let i = jobs_linked p pack es h.now.job v h.now.is_present in
        let c = came i.job h.now.answer h.now.left i.globals (subst (λ j. one_tell.ComesTo (joined p) j h.now.answer h.now.left) i.image h.now.comes) in
        let ns : Text = pack.index.ns in
        let w : World = (play pack es).world in
        record {
          now = record { lawful = h.now.lawful; job = i.job; is_present = i.is_present; answer = h.now.answer; left = c.left; comes = c.comes };
          prints = h.prints ∙ ap (λ o. text_of h.now.answer (globals_of ns w o) (memory_of ns w o) a) c.image;
          makes = h.makes;
        }

    tells_from : (es : List Event) (ls : List ScriptLine) (r : Reported) → one_tell.TellsFrom (joined p) pack es ls r → TellsFrom p pack es ls r
    tells_from es [] r h = h
    tells_from es (l ∷ ls) r (inl h) = inl h
    tells_from es (l ∷ ls) r (inr h) =
        inr (h.0, h.1, h.2, line es l.act h.0 h.1 h.3, tells_from (es ++ h.1) ls h.2 h.4, h.5)

pub lines_tell : (p : Program) (pack : Pack) (ls : List ScriptLine) (r : Reported) → Valid (joined p) → TellsReduction (joined p) pack ls r → TellsLinked p pack ls r
lines_tell p pack ls r v h = tells_from p v pack [] ls r h
