-- What lines that are filled say: a line says the step's command, or, where a number told for a holder is below 0, no
-- call at least.
use Rattle.std.proofs.Common.{◌≡◌, ◌∙◌, ap, refl, sym, subst, List, [], ◌∷◌, ◌++◌, drop, Bool, true, false, Option, Some, None, ◌⊎◌, inl, inr}
use Rattle.std.specs.Prelude.{◌&&◌, codes}
use Rattle.std.specs.Fmt.{signed_decimal}
use Rattle.mc_nbt.specs.Word.{is_int}
use Rattle.mc_cmd.specs.Form.{Text, strip}
use Rattle.mc_cmd.specs.Word.{is_namespace}
use Rattle.mc_cmd.specs.Command.{Op, Simple, score_op, call, call_with, Sub, if_test, unless_test, store_score, store_data, Cmd, plain, execute, command}
use Rattle.mc_cmd.specs.Grammar.{simple_text, simple_fits, sub_text, sub_fits, sub_read, subs_text, subs_fit, may_run, cmd_text, cmd_fits, line_said}
use Rattle.mc_cmd.specs.steps.OpenText.{Ints, OpenPart, step, place_of}
use Rattle.mc_cmd.proofs.FormLemmas.{and_first, and_second, and_both, strip_text}
use Rattle.mc_cmd.proofs.SubLemmas.{sub_is}
use Rattle.mc_cmd.proofs.SaidLemmas.{said_command as command_read}
use Rattle.mc_cmd.proofs.GrammarLemmas.{commands_is}
use Rattle.cc_line.specs.Step.{Cond, Step, run_act, when, cond_subs, step_command, step_text}
use Rattle.cc_line.specs.Fit.{conds_fit, step_fits}
use Rattle.cc_line.specs.OpenStep.{OpenAct, open_set_spot, open_combine, open_load_site, open_keep_site, open_place_to_site, open_site_to_place, open_set_site, open_copy_site, OpenStep, closed_step, open_act, open_when, act_with, step_with, NamedInt, part_names, act_names, open_act_fits, open_step_fits}
use Rattle.cc_line.specs.Place.{Spot, spot_name}
use Rattle.cc_line.proofs.FitLemmas.{subs_said, step_speaks}
use Rattle.cc_line.proofs.OpenStepLemmas.{AllIn, step_with_fits}

-- whether a command is a call
abbrev pub simple_calls : Simple → Bool
simple_calls (call f) = true
simple_calls (call_with f i ps) = true
simple_calls _ = false

abbrev pub calls : Cmd → Bool
calls (plain s) = simple_calls s
calls (execute us s) = simple_calls s

-- ---- an operation is no call, whatever its text names

-- a text doesn't begin so
apart : (w t u : Text) → strip w t ≡ None → t ≡ w ++ u → ⊥
apart w t u n e = let z : Some u ≡ None = sym (strip_text w u) ∙ ap (strip w) (sym e) ∙ n in absurd cc

no_run : (c : Sub) (w : Text) → strip (codes "run ") (sub_text c w) ≡ None
no_run (if_test c) w = refl
no_run (unless_test c) w = refl
no_run (store_score h o) w = refl
no_run (store_data i ps) w = refl

abbrev behind_sub : Option (Sub × Text) → Text
behind_sub None = []
behind_sub (Some p) = p.1

-- what stands behind sub-commands that fit
same_behind : (us cs : List Sub) (t u : Text) → subs_fit us ≡ true → subs_fit cs ≡ true → subs_text us t ≡ subs_text cs u → t ≡ u
same_behind [] [] t u f g e = ap (drop 4) e
same_behind [] (c ∷ cs) t u f g e = absurd (apart (codes "run ") (sub_text c (subs_text cs u)) t (no_run c (subs_text cs u)) (sym e))
same_behind (v ∷ us) [] t u f g e = absurd (apart (codes "run ") (sub_text v (subs_text us t)) u (no_run v (subs_text us t)) e)
same_behind (v ∷ us) (c ∷ cs) t u f g e =
    let x : Some (v, subs_text us t) ≡ Some (c, subs_text cs u) =
    sym (sub_is.reads v (subs_text us t) (and_first _ _ f)) ∙ ap sub_read e ∙ sub_is.reads c (subs_text cs u) (and_first _ _ g) in
    same_behind us cs t u (and_second (sub_fits v) _ f) (and_second (sub_fits c) _ g) (ap behind_sub x)

module _ (h o : Text) (op : Op) (g q : Text) where
  abbrev operation : Simple
  operation = score_op h o op g q

  op_no_call : (s : Simple) → simple_text operation ≡ simple_text s → simple_calls s ≡ false
  op_no_call (call f) e = absurd (apart (codes "function ") (simple_text operation) _ refl e)
  op_no_call (call_with f i ps) e = absurd (apart (codes "function ") (simple_text operation) _ refl e)
  op_no_call _ e = refl

  execute_no_call : (w : Text) (s : Simple) → codes "execute " ++ w ≡ simple_text s → simple_calls s ≡ false
  execute_no_call w (call f) e = absurd (apart (codes "function ") (codes "execute " ++ w) _ refl e)
  execute_no_call w (call_with f i ps) e = absurd (apart (codes "function ") (codes "execute " ++ w) _ refl e)
  execute_no_call w _ e = refl

  spelled : (t : Text) (c : Cmd) → line_said t ≡ Some (command c) → (t ≡ cmd_text c) × (cmd_fits c ≡ true)
  spelled t c s = commands_is.spells t c (command_read t c s)

  plainly : (c : Cmd) → line_said (cmd_text (plain operation)) ≡ Some (command c) → calls c ≡ false
  plainly c s = go c (spelled (cmd_text (plain operation)) c s).0
    where
      go : (c : Cmd) → cmd_text (plain operation) ≡ cmd_text c → calls c ≡ false
      go (plain s) e = op_no_call s e
      go (execute us s) e = absurd (apart (codes "execute ") (simple_text operation) (subs_text us (simple_text s)) refl e)

  behind : (cs : List Sub) (c : Cmd) → subs_fit cs ≡ true → line_said (cmd_text (execute cs operation)) ≡ Some (command c) → calls c ≡ false
  behind cs c f s = let e = spelled (cmd_text (execute cs operation)) c s in go c e.0 e.1
    where
      go : (c : Cmd) → cmd_text (execute cs operation) ≡ cmd_text c → cmd_fits c ≡ true → calls c ≡ false
      go (plain s) e k = execute_no_call (subs_text cs (simple_text operation)) s e
      go (execute us s) e k =
          op_no_call s (same_behind cs us (simple_text operation) (simple_text s) f (and_first _ _ (and_second (may_run us s) (subs_fit us && simple_fits s) k)) (ap (drop 8) e))

-- ---- what the line of an open step says, whatever ints it is filled with

abbrev IsCombine : OpenAct → Type 0
IsCombine a = (x : Spot) × (op : Op) × (h : Text) × (n : Text) × (a ≡ open_combine x op h n)

module _ (ns : Text) (h : is_namespace ns ≡ true) (r : Ints) (all : (n : Text) → is_int (r n) ≡ true) where
  parts_in : (ps : List OpenPart) → AllIn r (part_names ps)
  parts_in [] = tt
  parts_in (step p ∷ ps) = parts_in ps
  parts_in (place_of n ∷ ps) = (all n, parts_in ps)

  in_both : (ms ks : List NamedInt) → AllIn r ms → AllIn r ks → AllIn r (ms ++ ks)
  in_both [] ks f g = g
  in_both (m ∷ ms) ks f g = (f.0, in_both ms ks f.1 g)

  -- each act but one has ints alone
  names_in : (a : OpenAct) → IsCombine a ⊎ AllIn r (act_names a)
  names_in (open_set_spot x n) = inr (all n, tt)
  names_in (open_combine x op w n) = inl (x, op, w, n, refl)
  names_in (open_load_site w p) = inr (parts_in p.parts)
  names_in (open_keep_site p w) = inr (parts_in p.parts)
  names_in (open_place_to_site p i) = inr (parts_in p.parts)
  names_in (open_site_to_place i p) = inr (parts_in p.parts)
  names_in (open_set_site p t) = inr (parts_in p.parts)
  names_in (open_copy_site p q) = inr (in_both (part_names p.parts) (part_names q.parts) (parts_in p.parts) (parts_in q.parts))

  -- a command is another one, or at least no call
  abbrev pub Says : Cmd → Cmd → Type 0
  Says c d = (c ≡ d) ⊎ (calls c ≡ false)

  one_command : (c d : Cmd) → Some (command c) ≡ Some (command d) → c ≡ d
  one_command c d e = cc

  fits_says : (y : Step) (c : Cmd) → step_fits y ≡ true → line_said (step_text ns y) ≡ Some (command c) → Says c (step_command ns y)
  fits_says y c f s = inl (one_command c (step_command ns y) (sym s ∙ step_speaks ns h y f))

  abbrev SaysOf : Step → Cmd → Type 0
  SaysOf y c = line_said (step_text ns y) ≡ Some (command c) → Says c (step_command ns y)

  abbrev scale : Text → Text → Text
  scale w n = w ++ signed_decimal (r n)

  act_says : (a : OpenAct) (c : Cmd) → open_act_fits a ≡ true → SaysOf (run_act (act_with r a)) c
  act_says a c f = by (names_in a)
    where
      by : IsCombine a ⊎ AllIn r (act_names a) → SaysOf (run_act (act_with r a)) c
      by (inr g) = λ s. fits_says (run_act (act_with r a)) c (step_with_fits ns h r (open_act a) f g) s
      by (inl (x, op, w, n, e)) = subst (λ b. SaysOf (run_act (act_with r b)) c) (sym e) (λ s. inr (plainly (spot_name x) ns op (scale w n) ns c s))

  when_says : (cs : List Cond) (a : OpenAct) (c : Cmd) → conds_fit cs ≡ true → open_act_fits a ≡ true → SaysOf (when cs (act_with r a)) c
  when_says cs a c k f = by (names_in a)
    where
      by : IsCombine a ⊎ AllIn r (act_names a) → SaysOf (when cs (act_with r a)) c
      by (inr g) = λ s. fits_says (when cs (act_with r a)) c (step_with_fits ns h r (open_when cs a) (and_both _ _ k f) g) s
      by (inl (x, op, w, n, e)) = subst (λ b. SaysOf (when cs (act_with r b)) c) (sym e)
          (λ s. inr (behind (spot_name x) ns op (scale w n) ns (cond_subs ns cs ++ []) c (subs_said ns h cs [] (and_first _ _ k) refl) s))

  pub open_says : (x : OpenStep) (c : Cmd) → open_step_fits x ≡ true → SaysOf (step_with r x) c
  open_says (closed_step x) c f = fits_says x c f
  open_says (open_act a) c f = act_says a c f
  open_says (open_when cs a) c f = when_says cs a c (and_first _ _ f) (and_second (conds_fit cs) _ f)
