-- The pieces of a linked pack are light, as what tells their weights asks.
use Rattle.std.proofs.Common.{◌≡◌, ◌∙◌, sym, ap, refl, subst, ℕ, zero, suc, ◌+◌, ◌≤◌, [], ◌∷◌, length, Option, Some, None, inl, inr, arith}
use Rattle.std.specs.Prelude.{option_and_then}
use Rattle.mc_cmd.specs.declared.TheConstants.{PIECE}
use Rattle.mc_cmd.specs.Form.{Text}
use Rattle.mc_cmd.specs.Command.{Simple, call, call_with, Cmd, plain, execute, Line, nothing, command, pattern}
use Rattle.mc_cmd.specs.Chain.{Texts, Functions, cmd_weight, line_of, line_weight}
use Rattle.mc_cmd.specs.Layout.{full_name}
use Rattle.mc_cmd.specs.Packing.{Written, pack_view}
use Rattle.mc_cmd.proofs.PackLemmas.{function_at}
use Rattle.wm_ast.specs.declared.module.Module.{Module}
use Rattle.wm_ast.specs.Profile.{InProfile}
use Rattle.app_report.specs.Costs.{ArePiecesLight, IsLight, line_runs, lines_weight, plus, run_weight, weight_to}
use Rattle.app_report.proofs.NamesLemmas.{IsPieceText, piece_text}
use Rattle.cc_line.specs.Key.{PieceId, body_piece, init_piece, shared_piece}
use Rattle.cc_sched.specs.Names.{routine_name}
use Rattle.pk_link.specs.Linked.{IsPackFor}
use Rattle.mc_cmd.specs.Weight.{RunsNothing, Weighs, command_runs, line_alone, line_that_runs, no_line, simple_runs}

-- ---- weights

-- what a command runs is one thing by both definitions
same_simple : (s : Simple) → simple_runs s ≡ command_runs (plain s)
same_simple (call f) = refl
same_simple (call_with f i ps) = refl
same_simple s = refl

same_runs : (c : Cmd) → line_runs (command c) ≡ command_runs c
same_runs (plain s) = same_simple s
same_runs (execute ss s) = same_simple s

runs_none : (l : Line) → RunsNothing l → line_runs l ≡ None
runs_none nothing h = refl
runs_none (command c) h = same_runs c ∙ h
runs_none (pattern ps) h = refl

command_weighs : (c : Cmd) → 1 ≤ cmd_weight c
command_weighs (plain s) = omega arith
command_weighs (execute ss s) = omega arith

-- lines that weigh so much have this static weight, at a depth of as much
alone : (weights : Text → Option ℕ) (t : Text) (ts : Texts) (j : ℕ) → RunsNothing (line_of t) → lines_weight weights ts ≡ Some j → lines_weight weights (t ∷ ts) ≡ Some (line_weight (line_of t) + j)
alone weights t ts j r h =
    ap (λ o. plus (Some (line_weight (line_of t))) (plus (run_weight weights o) (lines_weight weights ts))) (runs_none (line_of t) r)
    ∙ ap (λ o. plus (Some (line_weight (line_of t))) (plus (Some 0) o)) h
    ∙ ap Some (omega arith)

with_call : (weights : Text → Option ℕ) (t f : Text) (ts : Texts) (c : Cmd) (i j : ℕ) → line_of t ≡ command c → command_runs c ≡ Some f → weights f ≡ Some i → lines_weight weights ts ≡ Some j
    → lines_weight weights (t ∷ ts) ≡ Some (line_weight (line_of t) + (i + j))
with_call weights t f ts c i j e r g h =
    ap (λ o. plus (Some (line_weight (line_of t))) (plus (run_weight weights o) (lines_weight weights ts))) (ap line_runs e ∙ same_runs c ∙ r)
    ∙ ap (λ o. plus (Some (line_weight (line_of t))) (plus o (lines_weight weights ts))) g
    ∙ ap (λ o. plus (Some (line_weight (line_of t))) (plus (Some i) o)) h

call_weighs : (t : Text) (c : Cmd) → line_of t ≡ command c → 1 ≤ line_weight (line_of t)
call_weighs t c e = subst (λ (l : Line). 1 ≤ line_weight l) (sym e) (command_weighs c)

lines_weigh : (functions : Functions) (ts : Texts) (k n : ℕ) → Weighs functions ts k → k ≤ n → lines_weight (weight_to n functions) ts ≡ Some k
unfolding weight_to
lines_weigh functions [] k n no_line le = refl
lines_weigh functions (t ∷ ts) k n (line_alone _ _ j r h) le =
    alone (weight_to n functions) t ts j r (lines_weigh functions ts j n h (omega arith))
lines_weigh functions (t ∷ ts) k zero (line_that_runs _ f us _ c i j e r found called rest) le =
    let one : 1 ≤ line_weight (line_of t) = call_weighs t c e in
    absurd (omega arith)
lines_weigh functions (t ∷ ts) k (suc n) (line_that_runs _ f us _ c i j e r found called rest) le =
    let one : 1 ≤ line_weight (line_of t) = call_weighs t c e in
    with_call (weight_to (suc n) functions) t f ts c i j e r
    (ap (option_and_then (lines_weight (weight_to n functions))) found ∙ lines_weigh functions us i n called (omega arith))
    (lines_weigh functions ts j (suc n) rest (omega arith))

light_at : (n : ℕ) (functions : Functions) (f : Text) (ts : Texts) (k : ℕ) → functions f ≡ Some ts → Weighs functions ts k → k ≤ n → IsLight n functions f
unfolding weight_to
light_at n functions f ts k found w le = record {
  weight = k;
  weighs = ap (option_and_then (lines_weight (weight_to n functions))) found ∙ lines_weigh functions ts k n w le;
  light = le;
}

-- ---- names

-- a name that is read as that of a piece is that of a function that has the lines of one
routine_named : (name : Text) → IsPieceText name → (id : PieceId) × (name ≡ routine_name id)
routine_named name (inl p) = (body_piece p.0 p.1, p.2)
routine_named name (inr (inl p)) = (init_piece p.0, p.1)
routine_named name (inr (inr p)) = (shared_piece p.0, p.1)

-- ---- linked packs

pub pieces_are_light : (ns : Text) (m : Module) (pack : Written) → IsPackFor ns m pack → ArePiecesLight pack
pieces_are_light ns m pack h name ts is_piece at =
    let functions = (pack_view pack).functions in
    let p = routine_named name (piece_text name is_piece) in
    let here : functions (full_name pack.index.ns name) ≡ Some ts = function_at pack name ∙ at in
    let there : functions (full_name ns (routine_name p.0)) ≡ Some ts = ap (λ u. functions (full_name u (routine_name p.0))) (sym h.namespace) ∙ ap (λ v. functions (full_name pack.index.ns v)) (sym p.1) ∙ here in
    let light = h.routines p.0 ts there in
    light_at PIECE functions (full_name pack.index.ns name) ts light.0 here light.1 (omega (arith, light.2))

-- the functions of a module of the profile are few
pub few_functions : (m : Module) → InProfile m → length m.funcs ≤ 8192
few_functions m p = p.within_limits.functions
