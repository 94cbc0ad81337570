-- Each line of a script over a pack that agrees with a module, one after the other.
use Rattle.std.proofs.Common.{◌≡◌, ◌∙◌, ◌⊎◌, refl, sym, ap, subst, ℕ, zero, suc, List, [], ◌∷◌, ◌++◌, Bool, true, false, Option, Some, None, ℤ, inl, inr}
use Rattle.std.specs.Prelude.{codes, nat_le, option_map, position, replicate, slice_get}
use Rattle.std.specs.List.{AllByRecursion, list_all}
use Rattle.std.specs.Str.{bytes_eq}
use Rattle.std.proofs.lemmas.Bool.{leb-true}
use Rattle.mc_nbt.specs.declared.value.Value.{Value}
use Rattle.mc_cmd.specs.declared.TheConstants.{BMIN}
use Rattle.mc_cmd.specs.Command.{Cmd}
use Rattle.mc_cmd.specs.Foreign.{is_foreign, first_own}
use Rattle.mc_cmd.specs.Form.{Text}
use Rattle.mc_cmd.specs.Grammar.{cmd_fits}
use Rattle.mc_cmd.specs.Layout.{Answer, new, running, done, trap, dead, answer, globals, memory}
use Rattle.mc_cmd.specs.Pack.{ExportType, Pack, Event, call, tick, reload, other, IsBudget, IsCallOf, IsForeign, IsLawful, Lawful, Standing, happen, loaded, after_events, play}
use Rattle.mc_cmd.specs.World.{World}
use Rattle.mc_cmd.proofs.FormLemmas.{and_first, and_second, some_same}
use Rattle.wm_ast.specs.declared.module.Module.{Module}
use Rattle.pk_agree.specs.Agree.{Agrees, TellsOfJob}
use Rattle.pk_agree.specs.Job.{Job, IsPresent}
use Rattle.app_words.specs.Act.{Act, ScriptLine}
use Rattle.app_words.specs.Act as act
use Rattle.app_words.specs.Arguments.{values_of_args, export_at, export_named}
use Rattle.app_words.specs.Lines.{ended_line, shown, shown_globals, shown_bytes, shown_rows, busy_line}
use Rattle.app_words.specs.Report.{Acted, Cause, no_such_export, wrong_arguments, instance_is_dead, names, goes, stops, acted, and_then, is_dead, called, called_found, called_with, other_done, report}
use Rattle.app_words.specs.Script.{act_fits, budget, count, has_few_digits, script_read, lines}
use Rattle.app_words.proofs.CallingLemmas.{kinds-values, values_fit}
use Rattle.app_words.proofs.ScriptLemmas.{script_fits}
use Rattle.app_tell.specs.Tell.{Calls, IsCall, IsUnpaid, LineTells, Makes, Now, TellsFrom, TellsReduction, call_text, globals_of, memory_of, text_of}

-- ---- lists of events

after_both : (pack : Pack) (es fs : List Event) (s : Standing)
    → after_events pack (es ++ fs) s ≡ after_events pack fs (after_events pack es s)
after_both pack [] fs s = refl
after_both pack (e ∷ es) fs s = after_both pack es fs (happen pack s e)

pub all_both : (P : Event → Type 0) (es fs : List Event) → AllByRecursion P es → AllByRecursion P fs
    → AllByRecursion P (es ++ fs)
all_both P [] fs h g = g
all_both P (e ∷ es) fs h g = (h.0, all_both P es fs h.1 g)

all_alike : (P : Event → Type 0) (n : ℕ) (e : Event) → P e → AllByRecursion P (replicate n e)
all_alike P zero e h = tt
all_alike P (suc n) e h = (h, all_alike P n e h)

-- ---- the events of a script are lawful

budget_lawful : (b : ℕ) → (budget BMIN).fits b ≡ true → IsBudget b
budget_lawful b h =
    let both = and_second (has_few_digits b) _ h in
    (leb-true BMIN b (and_first _ _ both), leb-true b 2147483647 (and_second (nat_le BMIN b) _ both))

foreign_lawful : (ns : Text) (c : Cmd) → act_fits BMIN (act.other c) ≡ true → first_own ns c ≡ None → IsForeign ns c
foreign_lawful ns c h apart =
    record { fits = and_first (cmd_fits c) _ (and_second (is_foreign c) _ h); foreign = and_first _ _ h; apart = apart }

-- the place of an export that was found by its name
export_here : (exports : List ExportType) (o : Option ℕ) (p : ℕ × ExportType) → export_at exports o ≡ Some p
    → slice_get exports p.0 ≡ Some p.1
export_here exports None p h = absurd cc
export_here exports (Some k) p h = go (slice_get exports k) refl h
  where
    go : (o : Option ExportType) → slice_get exports k ≡ o → option_map (λ (e : ExportType). (k, e)) o ≡ Some p
        → slice_get exports p.0 ≡ Some p.1
    go None e q = absurd cc
    go (Some x) e q = subst (λ (r : ℕ × ExportType). slice_get exports r.0 ≡ Some r.1) (some_same (k, x) p q) e

call_lawful : (exports : List ExportType) (o : Option ℕ) (p : ℕ × ExportType) (args : List ℤ) (vs : List Value)
    → export_at exports o ≡ Some p → values_of_args p.1.params args ≡ Some vs → IsCallOf (slice_get exports p.0) vs
call_lawful exports o p args vs h e =
    subst (λ (x : Option ExportType). IsCallOf x vs) (sym (export_here exports o p h))
    (kinds-values p.1.params args vs e, values_fit p.1.params args vs e)

module _ (m : Module) (pack : Pack) where
  abbrev pub ns : Text
  ns = pack.index.ns

  abbrev pub world_after : List Event → World
  world_after es = (play pack es).world

  -- ---- where the pack is after lawful events

  -- what the world shows then
  pub record Seen (es : List Event) : Type 0 where
    pub now : Now m pack es
    pub answers : answer ns (world_after es) ≡ Some now.answer
    pub globals_are : globals ns (world_after es) ≡ globals_of ns (world_after es) now.left
    pub memory_is : memory ns (world_after es) ≡ memory_of ns (world_after es) now.left

  seen_by : (es : List Event) (j : Job) → Lawful pack.index es → IsPresent m pack es j → (o : Option Answer) → answer ns (world_after es) ≡ o
      → TellsOfJob m ns (world_after es) j o → (o ≡ Some running → IsUnpaid m j) → Seen es
  seen_by es j g p None e t late = absurd t
  seen_by es j g p (Some running) e t late =
      record {
        now = record { lawful = g; job = j; is_present = p; answer = running; left = None; comes = late refl };
        answers = e;
        globals_are = refl;
        memory_is = refl;
      }
  seen_by es j g p (Some new) e t late =
      record {
        now = record { lawful = g; job = j; is_present = p; answer = new; left = Some t.2; comes = (t.0, t.1, t.3.outcome) };
        answers = e;
        globals_are = t.3.public.globals_are;
        memory_is = t.3.public.memory_is;
      }
  seen_by es j g p (Some (done v)) e t late =
      record {
        now = record { lawful = g; job = j; is_present = p; answer = done v; left = Some t.1; comes = (t.0, t.2.outcome) };
        answers = e;
        globals_are = t.2.public.globals_are;
        memory_is = t.2.public.memory_is;
      }
  seen_by es j g p (Some (trap n)) e t late =
      record {
        now = record { lawful = g; job = j; is_present = p; answer = trap n; left = Some t.2; comes = (t.0, t.1, t.3, t.4.outcome) };
        answers = e;
        globals_are = t.4.public.globals_are;
        memory_is = t.4.public.memory_is;
      }
  seen_by es j g p (Some (dead n)) e t late =
      record {
        now = record { lawful = g; job = j; is_present = p; answer = dead n; left = Some t.2; comes = (t.0, t.1, t.3, t.4.outcome) };
        answers = e;
        globals_are = t.4.public.globals_are;
        memory_is = t.4.public.memory_is;
      }

  pub seen : Agrees m pack → (es : List Event) → Lawful pack.index es → Seen es
  seen agrees es lawful =
      let a = agrees.always es lawful in
      seen_by es a.0 lawful a.1 (answer ns (world_after es)) refl a.2.tells (λ running n over paid. a.2.in_time n over paid running)

  -- ---- one line by its act

  -- A line is refused after these events. Or it makes lawful events and goes on, and tells what the reduction gives.
  abbrev pub LineSays : List Event → Act → Type 0
  LineSays es a =
      ((c : Cause) × (acted pack a (play pack es) ≡ stops c))
      ⊎ ((t : Text) × (made : List Event) × Lawful pack.index made
      × (acted pack a (play pack es) ≡ goes t (after_events pack made (play pack es))) × LineTells m pack es a t made)

  module _ (es : List Event) (s : Seen es) where
    -- a line that prints, or whose events don't hang on the answer
    line_told : (a : Act) (made : List Event) → Lawful pack.index made
        → acted pack a (play pack es)
        ≡ goes (text_of s.now.answer (globals_of ns (world_after es) s.now.left) (memory_of ns (world_after es) s.now.left) a)
        (after_events pack made (play pack es))
        → Makes pack.index s.now.answer a made → LineSays es a
    line_told a made lawful e makes = inr (_, made, lawful, e, record { now = s.now; prints = refl; makes = makes })

    -- a call, by the answer
    is_called : (name : Text) (args : List ℤ) (a : Answer) → s.now.answer ≡ a
        → acted pack (act.call name args) (play pack es) ≡ called pack (play pack es) name args (Some a)
    is_called name args a e = ap (called pack (play pack es) name args) (s.answers ∙ ap (λ (x : Answer). Some x) e)

    makes_by : (name : Text) (args : List ℤ) (a : Answer) → s.now.answer ≡ a → (made : List Event)
        → Calls pack.index name args a made → Calls pack.index name args s.now.answer made
    makes_by name args a e made h = subst (λ (x : Answer). Calls pack.index name args x made) (sym e) h

    -- a call that isn't left out, of an export that was found and whose arguments stand for values
    module _ (name : Text) (args : List ℤ)
        (is : acted pack (act.call name args) (play pack es) ≡ called_found pack (play pack es) args (export_named name pack.index.exports))
        (silent : call_text s.now.answer ≡ [])
        (calls : (made : List Event) → (e : Event) × IsCall pack.index name args e × (made ≡ e ∷ [])
        → Calls pack.index name args s.now.answer made) where
      abbrev SaysCall : Type 0
      SaysCall = LineSays es (act.call name args)

      call_valued : (p : ℕ × ExportType) → export_named name pack.index.exports ≡ Some p → (vs : List Value)
          → values_of_args p.1.params args ≡ Some vs → (b : Bool) → is_dead pack (play pack es) ≡ b → SaysCall
      call_valued p named vs stood_for true state =
          inl (
            instance_is_dead,
            is ∙ ap (called_found pack (play pack es) args) named
                ∙ ap (λ (o : Option (List Value)). called_with pack (play pack es) p.0 o (is_dead pack (play pack es))) stood_for
                ∙ ap (called_with pack (play pack es) p.0 (Some vs)) state,
          )
      call_valued p named vs stood_for false state =
          let e : Event = call p.0 vs in
          let k : IsCall pack.index name args e =
          record { place = p.0; type = p.1; values = vs; named = named; stood_for = stood_for; is_event = refl }
          in
          inr (
            [],
            e ∷ [],
            (call_lawful pack.index.exports (position (λ x. bytes_eq x.name name) pack.index.exports) p args vs named stood_for, tt),
            is ∙ ap (called_found pack (play pack es) args) named
                ∙ ap (λ (o : Option (List Value)). called_with pack (play pack es) p.0 o (is_dead pack (play pack es))) stood_for
                ∙ ap (called_with pack (play pack es) p.0 (Some vs)) state,
            record { now = s.now; prints = sym silent; makes = calls (e ∷ []) (e, k, refl) },
          )

      call_found : (p : ℕ × ExportType) → export_named name pack.index.exports ≡ Some p → (o : Option (List Value))
          → values_of_args p.1.params args ≡ o → SaysCall
      call_found p named None stood_for =
          inl (
            wrong_arguments,
            is ∙ ap (called_found pack (play pack es) args) named
                ∙ ap (λ (o : Option (List Value)). called_with pack (play pack es) p.0 o (is_dead pack (play pack es))) stood_for,
          )
      call_found p named (Some vs) stood_for =
          call_valued p named vs stood_for (is_dead pack (play pack es)) refl

      call_named : (o : Option (ℕ × ExportType)) → export_named name pack.index.exports ≡ o → SaysCall
      call_named None named = inl (no_such_export, is ∙ ap (called_found pack (play pack es) args) named)
      call_named (Some p) named = call_found p named (values_of_args p.1.params args) refl

      call_taken : SaysCall
      call_taken = call_named (export_named name pack.index.exports) refl

    line_calls : (name : Text) (args : List ℤ) (a : Answer) → s.now.answer ≡ a → LineSays es (act.call name args)
    line_calls name args running e =
        inr (
          busy_line,
          [],
          tt,
          is_called name args running e,
          record { now = s.now; prints = sym (ap call_text e); makes = makes_by name args running e [] refl },
        )
    line_calls name args new e = call_taken name args (is_called name args new e) (ap call_text e) (makes_by name args new e)
    line_calls name args (done v) e =
        call_taken name args (is_called name args (done v) e) (ap call_text e) (makes_by name args (done v) e)
    line_calls name args (trap k) e =
        call_taken name args (is_called name args (trap k) e) (ap call_text e) (makes_by name args (trap k) e)
    line_calls name args (dead k) e =
        call_taken name args (is_called name args (dead k) e) (ap call_text e) (makes_by name args (dead k) e)

    line_others : (c : Cmd) → act_fits BMIN (act.other c) ≡ true → (o : Option Text) → first_own ns c ≡ o → LineSays es (act.other c)
    line_others c fit None apart =
        line_told (act.other c) (other c ∷ []) (foreign_lawful ns c fit apart, tt) (ap (other_done pack (play pack es) c) apart) refl
    line_others c fit (Some name) apart = inl (names name, ap (other_done pack (play pack es) c) apart)

    line_by : (a : Act) → act_fits BMIN a ≡ true → LineSays es a
    line_by (act.call name args) fit = line_calls name args s.now.answer refl
    line_by (act.tick b) fit = line_told (act.tick b) (tick b ∷ []) (budget_lawful b fit, tt) refl refl
    line_by (act.ticks k b) fit =
        line_told (act.ticks k b) (replicate k (tick b))
        (all_alike (IsLawful pack.index) k (tick b) (budget_lawful b (and_second (count.fits k) _ fit))) refl refl
    line_by (act.reload b) fit = line_told (act.reload b) (reload b ∷ []) (budget_lawful b fit, tt) refl refl
    line_by (act.other c) fit = line_others c fit (first_own ns c) refl
    line_by act.show fit = line_told act.show [] tt (ap (λ o. goes (shown o) (play pack es)) s.answers) refl
    line_by act.globals fit =
        line_told act.globals [] tt (ap (λ o. goes (shown_globals o) (play pack es)) s.globals_are) refl
    line_by (act.memory at len) fit =
        line_told (act.memory at len) [] tt (ap (λ o. goes (shown_bytes at len o) (play pack es)) s.memory_is) refl
    line_by act.dump fit = line_told act.dump [] tt (dumped s.answers s.globals_are s.memory_is) refl
      where
        dumped : {o p : Option Answer} {g h : Option (List Value)} {b c : Option (List ℕ)} → o ≡ p → g ≡ h → b ≡ c
            → goes (shown o ++ (shown_globals g ++ (shown_rows b ++ ended_line (codes "end")))) (play pack es)
            ≡ goes (shown p ++ (shown_globals h ++ (shown_rows c ++ ended_line (codes "end")))) (play pack es)
        dumped e f g = cc
    line_by act.inspect fit = absurd cc

  pub line_says : Agrees m pack → (es : List Event) → Lawful pack.index es → (a : Act) → act_fits BMIN a ≡ true → LineSays es a
  line_says agrees es lawful a fit = line_by es (seen agrees es lawful) a fit

  -- ---- a whole script

  -- the standing behind a line
  pub behind_line : (es made : List Event) → after_events pack made (play pack es) ≡ play pack (es ++ made)
  behind_line es made = sym (after_both pack es made (loaded pack))

  tells_from : Agrees m pack → (ls : List ScriptLine) (es : List Event) → Lawful pack.index es
      → list_all (λ l. act_fits BMIN l.act) ls ≡ true → TellsFrom m pack es ls (report pack ls (play pack es))
  tells_from agrees [] es lawful fit = refl
  tells_from agrees (l ∷ ls) es lawful fit =
      go (λ made g. tells_from agrees ls (es ++ made) (all_both (IsLawful pack.index) es made lawful g) (and_second (act_fits BMIN l.act) _ fit))
      (line_says agrees es lawful l.act (and_first _ _ fit))
    where
      go : ((made : List Event) → Lawful pack.index made → TellsFrom m pack (es ++ made) ls (report pack ls (play pack (es ++ made)))) → LineSays es l.act
          → TellsFrom m pack es (l ∷ ls) (report pack (l ∷ ls) (play pack es))
      go more (inl (c, e)) = inl (c, e, ap (λ (a : Acted). and_then l.line a (report pack ls)) e)
      go more (inr (t, made, g, e, tells)) =
          inr (
            t,
            made,
            report pack ls (play pack (es ++ made)),
            tells,
            more made g,
            ap (λ (a : Acted). and_then l.line a (report pack ls)) (e ∙ ap (goes t) (behind_line es made)),
          )

-- what is reported of a script over a pack that agrees with a module tells the reduction
pub lines_tell : (m : Module) (pack : Pack) (script : Text) (ls : List ScriptLine) → Agrees m pack
    → script_read script ≡ lines ls → TellsReduction m pack ls (report pack ls (loaded pack))
lines_tell m pack script ls agrees e =
    tells_from m pack agrees ls [] tt (script_fits script ls e)
