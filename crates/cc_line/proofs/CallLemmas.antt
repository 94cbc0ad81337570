-- What calls of helpers say, weigh and call, whether conditions stand before them or not.
use Rattle.std.proofs.Common.{◌≡◌, List, [], ◌∷◌, ◌+◌, Result, refl, sym, subst}
use Rattle.std.specs.Prelude.{Option, Some, None, pos, IfOk}
use Rattle.mc_cmd.specs.Form.{Text}
use Rattle.mc_cmd.specs.Command.{call, Cmd}
use Rattle.mc_cmd.specs.Grammar.{cmd_text}
use Rattle.mc_cmd.specs.View.{cmd_view}
use Rattle.mc_cmd.specs.declared.line.CmdKind.{CmdKind}
use Rattle.mc_cmd.specs.Layout.{full_name}
use Rattle.cc_line.specs.declared.step.Conds.{Conds}
use Rattle.cc_line.specs.State.{Site}
use Rattle.cc_line.specs.Step.{steps_weight}
use Rattle.cc_line.specs.OpenStep.{OpenStep, steps_with, open_texts}
use Rattle.cc_line.specs.Item.{Items, item_command, item_most, items_most, items_texts, item_helpers, items_helpers}
use Rattle.cc_line.specs.View.{call_from, fill_from}
use Rattle.cc_line.specs.steps.SaidView.{behind_some, filling}
use Rattle.cc_line.specs.steps.CallWeight.{call_weight}
use Rattle.cc_line.specs.steps.Called.{called_lines, helper}

pub call_command : (ns : Text) (cs : Option Conds) (f : Text) (xs : Items) → item_command ns (call_from cs f xs) ≡ behind_some ns cs (call (full_name ns f))
call_command ns None f xs = refl
call_command ns (Some cs) f xs = refl

pub fill_command : (ns : Text) (cs : Option Conds) (f : Text) (p : Site) (xs : List OpenStep) → item_command ns (fill_from cs f p xs) ≡ behind_some ns cs (filling ns f p)
fill_command ns None f p xs = refl
fill_command ns (Some cs) f p xs = refl

pub fill_said : {E : Type 0} (r : Result CmdKind E) (ns : Text) (cs : Option Conds) (f : Text) (p : Site) (xs : List OpenStep) → IfOk r (λ k. cmd_view k ≡ behind_some ns cs (filling ns f p)) → IfOk r (λ k. cmd_view k ≡ item_command ns (fill_from cs f p xs))
fill_said r ns cs f p xs h = subst (λ c. IfOk r (λ k. cmd_view k ≡ c)) (sym (fill_command ns cs f p xs)) h

-- the text of a command that is another
pub printed : {E : Type 0} (r : Result Text E) (a b : Cmd) → a ≡ b → IfOk r (λ t. t ≡ cmd_text a) → IfOk r (λ t. t ≡ cmd_text b)
printed r a b e h = subst (λ c. IfOk r (λ t. t ≡ cmd_text c)) e h

pub call_most : (cs : Option Conds) (f : Text) (xs : Items) → item_most (call_from cs f xs) ≡ call_weight cs + items_most xs
call_most None f xs = refl
call_most (Some cs) f xs = refl

pub fill_most : (cs : Option Conds) (f : Text) (p : Site) (xs : List OpenStep) → item_most (fill_from cs f p xs) ≡ call_weight cs + steps_weight (steps_with (λ k. pos 0) xs)
fill_most None f p xs = refl
fill_most (Some cs) f p xs = refl

pub call_helpers : (ns : Text) (cs : Option Conds) (f : Text) (xs : Items) → item_helpers ns (call_from cs f xs) ≡ helper f (items_texts ns xs) ∷ items_helpers ns xs
call_helpers ns None f xs = refl
call_helpers ns (Some cs) f xs = refl

pub fill_helpers : (ns : Text) (cs : Option Conds) (f : Text) (p : Site) (xs : List OpenStep) → item_helpers ns (fill_from cs f p xs) ≡ helper f (open_texts ns xs) ∷ []
fill_helpers ns None f p xs = refl
fill_helpers ns (Some cs) f p xs = refl

pub call_lines : (ns : Text) (cs : Option Conds) (f : Text) (xs : Items) → called_lines ns (call_from cs f xs) ≡ items_texts ns xs
call_lines ns None f xs = refl
call_lines ns (Some cs) f xs = refl

pub fill_lines : (ns : Text) (cs : Option Conds) (f : Text) (p : Site) (xs : List OpenStep) → called_lines ns (fill_from cs f p xs) ≡ open_texts ns xs
fill_lines ns None f p xs = refl
fill_lines ns (Some cs) f p xs = refl
