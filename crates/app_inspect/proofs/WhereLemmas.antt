-- Each line of a script that may ask where the program is, over a pack that agrees with a module and can be resumed.
use Rattle.std.proofs.Common.{◌≡◌, ◌∙◌, ◌⊎◌, inl, inr, refl, sym, ap, subst, ℕ, zero, suc, List, [], ◌∷◌, ◌++◌, append-nil, true, Option, Some, None, Ok, Err, Result, ℤ, pos, negsuc, codes}
use Rattle.std.specs.Prelude.{IfOk, nat_lt, option_map, Bool, false, ◌&&◌, ◌+◌, ◌*◌, ◌≤◌, if◌then◌else◌}
use Rattle.std.specs.List.{list_all}
use Rattle.mc_nbt.specs.declared.memory.Memory.{Memory}
use Rattle.mc_nbt.specs.declared.value.Value.{Value}
use Rattle.mc_nbt.specs.Tree.{Tree, int, string, list, compound, no_items, item}
use Rattle.mc_cmd.specs.declared.TheConstants.{BMIN}
use Rattle.mc_cmd.specs.Form.{Text}
use Rattle.mc_cmd.specs.Layout.{Answer, new, running, done, trap, dead, answer, answer_in, io_value, result_in, trap_in, value_in}
use Rattle.mc_cmd.specs.Pack.{Pack, Event, IsLawful, Lawful, Standing, after_events, loaded, play}
use Rattle.mc_cmd.specs.World.{World}
use Rattle.mc_cmd.proofs.FormLemmas.{and_first, and_second, some_same}
use Rattle.wm_ast.specs.declared.module.Module.{Module}
use Rattle.wm_ast.specs.After.{after}
use Rattle.wm_ast.specs.Configuration.{Config}
use Rattle.wm_ast.specs.Step.{Next}
use Rattle.wm_valid.specs.Height.{Low}
use Rattle.wm_flat.specs.Program.{IsProgram}
use Rattle.wm_view.specs.declared.view.Inspection.{Inspection}
use Rattle.wm_view.specs.View.{view}
use Rattle.cc_line.specs.Key.{init_piece}
use Rattle.cc_line.specs.Running.{NextPiece}
use Rattle.pk_agree.specs.Agree.{Agrees}
use Rattle.pk_agree.specs.Job.{Job, IsPresent}
use Rattle.pk_agree.specs.Resume.{Resumable, Resumes, StandsFor, in_instantiation, in_configuration}
use Rattle.pk_agree.proofs.OneJob.{only_one}
use Rattle.mc_inspect.specs.declared.fault.InspectFault.{InspectFault}
use Rattle.mc_inspect.specs.declared.fault.InspectFault.TheVariants as faults
use Rattle.mc_inspect.specs.Inspect.{IsAnswer, IsRunning, IsSeen, IsStarting}
use Rattle.mc_inspect.proofs.OneView.{views_are_one}
use Rattle.mc_inspect.proofs.Somewhere.{somewhere, started}
use Rattle.app_words.specs.Act.{Act, ScriptLine}
use Rattle.app_words.specs.Act as act
use Rattle.app_words.specs.Lines.{show_text, shown}
use Rattle.app_words.specs.Report.{Acted, Cause, acted, goes, stops}
use Rattle.app_words.specs.Script.{act_fits, lines}
use Rattle.app_words.specs.WhereReport.{Begun, GoesOn, IsActed, IsReport}
use Rattle.app_words.specs.WhereScript.{where_fits, where_script_read}
use Rattle.app_words.proofs.WhereLemmas.{where_script_fits}
use Rattle.app_report.specs.Where.{where_lines}
use Rattle.app_tell.specs.Tell.{LineTells, Now}
use Rattle.app_tell.proofs.TellLemmas.{LineSays, Seen, all_both, behind_line, line_says, seen}
use Rattle.app_inspect.specs.Law.{LinesTellWhere}
use Rattle.app_inspect.specs.Tell.{IsAtPlace, IsAtStart, IsTextOf, LineTellsToo, MayTell, TellsFrom, TellsPlace, WhereTells}

-- ---- a pack that runs

trap_not_running : (how : ℕ → Answer) → ((k : ℕ) → how k ≡ running → ⊥) → (o : Option Tree) → trap_in how o ≡ Some running → ⊥
trap_not_running how never None h = absurd cc
trap_not_running how never (Some (string s)) h = absurd cc
trap_not_running how never (Some (list ts)) h = absurd cc
trap_not_running how never (Some (compound fs)) h = absurd cc
trap_not_running how never (Some (int (negsuc n))) h = absurd cc
trap_not_running how never (Some (int (pos k))) h = go (nat_lt 0 k && nat_lt k 9) h
  where
    go : (b : Bool) → (if b then Some (how k) else None) ≡ Some running → ⊥
    go true e = never k (some_same (how k) running e)
    go false e = absurd cc

result_not_running : (o : Option Tree) → result_in o ≡ Some running → ⊥
result_not_running None h = absurd cc
result_not_running (Some (int z)) h = absurd cc
result_not_running (Some (string s)) h = absurd cc
result_not_running (Some (compound fs)) h = absurd cc
result_not_running (Some (list no_items)) h = absurd cc
result_not_running (Some (list (item t ts))) h = go (value_in (list (item t ts))) h
  where
    go : (o : Option Value) → option_map (λ v. done (Some v)) o ≡ Some running → ⊥
    go None e = absurd cc
    go (Some v) e = absurd cc

-- the state of a pack that answers that it runs
state_of_running : (ns : Text) (w : World) (o : Option Tree) → answer_in ns w o ≡ Some running → o ≡ Some (int (pos 1))
state_of_running ns w None h = absurd cc
state_of_running ns w (Some (string s)) h = absurd cc
state_of_running ns w (Some (list ts)) h = absurd cc
state_of_running ns w (Some (compound fs)) h = absurd cc
state_of_running ns w (Some (int (negsuc n))) h = absurd cc
state_of_running ns w (Some (int (pos zero))) h = absurd cc
state_of_running ns w (Some (int (pos (suc zero)))) h = refl
state_of_running ns w (Some (int (pos (suc (suc zero))))) h = absurd (result_not_running (io_value ns w (codes "result")) h)
state_of_running ns w (Some (int (pos (suc (suc (suc zero)))))) h =
    absurd (trap_not_running trap (λ k e. cc) (io_value ns w (codes "trap")) h)
state_of_running ns w (Some (int (pos (suc (suc (suc (suc zero))))))) h =
    absurd (trap_not_running dead (λ k e. cc) (io_value ns w (codes "trap")) h)
state_of_running ns w (Some (int (pos (suc (suc (suc (suc (suc n)))))))) h = absurd cc

-- ---- what may be printed

module _ (m : Module) (ns : Text) (w : World) (t : Text) where
  -- of a pack that doesn't run
  unrunning_text : (IsRunning ns w → ⊥) → MayTell m ns w t → t ≡ show_text ns w
  unrunning_text never (Ok v, a, e) = absurd (never a.0)
  unrunning_text never (Err faults.NotRunning, a, e) = e
  unrunning_text never (Err faults.Starting, a, e) = absurd (never a.0)
  unrunning_text never (Err (faults.NoPlace piece), a, e) = absurd (never a.0)
  unrunning_text never (Err faults.Memory, a, e) = absurd e

  -- of one that runs, where its job is
  module _ (program : IsProgram m) (low : Low m) (j : Job) (runs : IsRunning ns w) where
    in_start : (i : ℕ) → NextPiece w ns (init_piece i) → j.credit ≤ 16 * (j.offset + 1) → MayTell m ns w t → TellsPlace m ns w j running t
    in_start i next paid (Ok v, a, e) = absurd (a.1 (i, next))
    in_start i next paid (Err faults.NotRunning, a, e) = absurd (a runs)
    in_start i next paid (Err faults.Starting, a, e) = inl (record { starting = (i, next); paid = paid; prints = e })
    in_start i next paid (Err (faults.NoPlace piece), a, e) = absurd (a.1 (i, next))
    in_start i next paid (Err faults.Memory, a, e) = absurd e

    module _ (n : ℕ) (c : Config) (comes : after m j.config n ≡ Next c) (stands : StandsFor m ns w c)
        (paid : j.credit ≤ 16 * (n + 1 + j.offset)) where
      begun : IsStarting ns w → ⊥
      begun = started m ns w (somewhere m program ns w c stands)

      in_place : MayTell m ns w t → TellsPlace m ns w j running t
      in_place (Ok v, a, e) =
          inr (record {
            started = begun;
            n = n;
            config = c;
            comes = comes;
            stands = stands;
            paid = paid;
            prints = e ∙ ap where_lines (sym a.2.shown ∙ views_are_one m program low ns w a.2.config c a.2.stands stands);
          })
      in_place (Err faults.NotRunning, a, e) = absurd (a runs)
      in_place (Err faults.Starting, a, e) = absurd (begun a.1)
      in_place (Err (faults.NoPlace piece), a, e) = absurd (a.2 c stands)
      in_place (Err faults.Memory, a, e) = absurd e

    resumed_text : Resumes m ns w j → MayTell m ns w t → TellsPlace m ns w j running t
    resumed_text (in_instantiation i next paid) h = in_start i next paid h
    resumed_text (in_configuration n c comes stands paid) h = in_place n c comes stands paid h

-- ---- a line

module _ (m : Module) (pack : Pack) (program : IsProgram m) (low : Low m) (agrees : Agrees m pack) (resumable : Resumable m pack) where
  abbrev ns : Text
  ns = pack.index.ns

  abbrev world_after : List Event → World
  world_after es = (play pack es).world

  -- a pack that answers something else doesn't run
  answers_else : (w : World) (a : Answer) → answer ns w ≡ Some a → (a ≡ running → ⊥) → IsRunning ns w → ⊥
  answers_else w a e never runs = never (some_same a running (sym e ∙ ap (answer_in ns w) runs))

  -- where the program is, after lawful events
  place_told : (es : List Event) → Lawful pack.index es → (t : Text) → MayTell m ns (world_after es) t → WhereTells m pack es t
  place_told es lawful t may = record { now = s.now; answers = s.answers; tells = go s.now.answer s.answers }
    where
      s : Seen m pack es
      s = seen m pack agrees es lawful

      resumes : answer ns (world_after es) ≡ Some running → Resumes m ns (world_after es) s.now.job
      resumes e =
          let r = resumable.always es lawful in
          subst (λ (j : Job). Resumes m ns (world_after es) j) (only_one m pack es r.0 s.now.job r.1 s.now.is_present) (r.2 e)

      still : (a : Answer) → answer ns (world_after es) ≡ Some a → (a ≡ running → ⊥) → t ≡ shown (Some a)
      still a e never = unrunning_text m ns (world_after es) t (answers_else (world_after es) a e never) may ∙ ap shown e

      go : (a : Answer) → answer ns (world_after es) ≡ Some a → TellsPlace m ns (world_after es) s.now.job a t
      go running e =
          resumed_text m ns (world_after es) t program low s.now.job (state_of_running ns (world_after es) (io_value ns (world_after es) (codes "state")) e)
          (resumes e) may
      go new e = still new e (λ f. cc)
      go (done v) e = still (done v) e (λ f. cc)
      go (trap k) e = still (trap k) e (λ f. cc)
      go (dead k) e = still (dead k) e (λ f. cc)

  -- a line that doesn't ask is as in a script that may not
  record IsAlone (a : Act) : Type 0 where
    fits : where_fits BMIN a ≡ true → act_fits BMIN a ≡ true
    acts : (s : Standing) (x : Acted) → IsActed (MayTell m) pack a s x → x ≡ acted pack a s
    tells : (es : List Event) (t : Text) (made : List Event) → LineTells m pack es a t made → LineTellsToo m pack es a t made

  asks_or_alone : (a : Act) → (a ≡ act.inspect) ⊎ IsAlone a
  asks_or_alone act.inspect = inl refl
  asks_or_alone (act.call name args) = inr (record { fits = λ f. f; acts = λ s x h. h; tells = λ es t made h. h })
  asks_or_alone (act.tick b) = inr (record { fits = λ f. f; acts = λ s x h. h; tells = λ es t made h. h })
  asks_or_alone (act.ticks n b) = inr (record { fits = λ f. f; acts = λ s x h. h; tells = λ es t made h. h })
  asks_or_alone (act.reload b) = inr (record { fits = λ f. f; acts = λ s x h. h; tells = λ es t made h. h })
  asks_or_alone (act.other c) = inr (record { fits = λ f. f; acts = λ s x h. h; tells = λ es t made h. h })
  asks_or_alone act.show = inr (record { fits = λ f. f; acts = λ s x h. h; tells = λ es t made h. h })
  asks_or_alone act.globals = inr (record { fits = λ f. f; acts = λ s x h. h; tells = λ es t made h. h })
  asks_or_alone (act.memory at len) = inr (record { fits = λ f. f; acts = λ s x h. h; tells = λ es t made h. h })
  asks_or_alone act.dump = inr (record { fits = λ f. f; acts = λ s x h. h; tells = λ es t made h. h })

  -- ---- a whole script

  abbrev Tells : List ScriptLine → Type 0
  Tells ls = (es : List Event) → Lawful pack.index es → list_all (λ l. where_fits BMIN l.act) ls ≡ true
      → (r : Begun) → IsReport (MayTell m) pack ls (play pack es) r → TellsFrom m pack es ls r

  module _ (l : ScriptLine) (ls : List ScriptLine) (es : List Event) (lawful : Lawful pack.index es)
      (fit : list_all (λ k. where_fits BMIN k.act) (l ∷ ls) ≡ true) (more : Tells ls) (r : Begun) where
    -- the lines behind it, once it has made these events
    abbrev Goes : Acted → Type 0
    Goes x = GoesOn l.line x (IsReport (MayTell m) pack ls) r

    fit_more : list_all (λ k. where_fits BMIN k.act) ls ≡ true
    fit_more = and_second (where_fits BMIN l.act) _ fit

    line_asks : l.act ≡ act.inspect → (t : Text) → MayTell m ns (world_after es) t → Goes (goes t (play pack es)) → TellsFrom m pack es (l ∷ ls) r
    line_asks e t may g =
        inr (inr (
          t,
          [],
          g.0,
          subst (λ (a : Act). LineTellsToo m pack es a t []) (sym e) (place_told es lawful t may, refl),
          subst (λ (fs : List Event). TellsFrom m pack fs ls g.0) (sym (append-nil es)) (more es lawful fit_more g.0 g.1),
          g.2,
        ))

    line_asking : l.act ≡ act.inspect → (x : Acted) → IsActed (MayTell m) pack act.inspect (play pack es) x → Goes x → TellsFrom m pack es (l ∷ ls) r
    line_asking e x a g = line_asks e a.0 a.1 (subst Goes a.2 g)

    line_alone : IsAlone l.act → (x : Acted) → IsActed (MayTell m) pack l.act (play pack es) x → Goes x → TellsFrom m pack es (l ∷ ls) r
    line_alone k x a g = go (line_says m pack agrees es lawful l.act (k.fits (and_first _ _ fit)))
      where
        go : LineSays m pack es l.act → TellsFrom m pack es (l ∷ ls) r
        go (inl (c, e)) = inr (inl (c, e, subst Goes (k.acts (play pack es) x a ∙ e) g))
        go (inr (t, made, fair, e, tells)) =
            let h = subst Goes (k.acts (play pack es) x a ∙ e ∙ ap (goes t) (behind_line m pack es made)) g in
            inr (inr (
              t,
              made,
              h.0,
              k.tells es t made tells,
              more (es ++ made) (all_both (IsLawful pack.index) es made lawful fair) fit_more h.0 h.1,
              h.2,
            ))

    line_by : (l.act ≡ act.inspect) ⊎ IsAlone l.act → (x : Acted) → IsActed (MayTell m) pack l.act (play pack es) x → Goes x → TellsFrom m pack es (l ∷ ls) r
    line_by (inl e) x a g = line_asking e x (subst (λ (b : Act). IsActed (MayTell m) pack b (play pack es) x) e a) g
    line_by (inr k) x a g = line_alone k x a g

  tells_from : (ls : List ScriptLine) → Tells ls
  tells_from [] es lawful fit r h = h
  tells_from (l ∷ ls) es lawful fit r (inl e) = inl e
  tells_from (l ∷ ls) es lawful fit r (inr (x, a, g)) = line_by l ls es lawful fit (tells_from ls) r (asks_or_alone l.act) x a g

pub lines_tell_where : LinesTellWhere
lines_tell_where m pack script ls r program low agrees resumable e h =
    tells_from m pack program low agrees resumable ls [] tt (where_script_fits script ls e) r h

-- the text of an answer may be printed
pub may_tell : (m : Module) (ns : Text) (w : World) (a : Result Inspection InspectFault) (r : Result Text Memory) → IsAnswer m ns w a → IfOk r (λ t. IsTextOf ns w a t)
    → IfOk r (λ t. MayTell m ns w t)
may_tell m ns w a (Ok t) i h = (a, i, h)
may_tell m ns w a (Err e) i h = tt
