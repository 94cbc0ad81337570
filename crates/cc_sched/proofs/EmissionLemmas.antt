-- Functions are added one after the other.
use Rattle.std.proofs.Common.{◌≡◌, ◌∙◌, ◌+◌, ℕ, suc, List, [], ◌∷◌, ◌++◌, ap, append_assoc, arith, refl, sym}
use Rattle.std.specs.Prelude.{codes}
use Rattle.mc_nbt.specs.Tree.{key}
use Rattle.mc_cmd.specs.Form.{Text}
use Rattle.mc_cmd.specs.Command.{data_get, execute, Simple, store_score, Sub}
use Rattle.mc_cmd.specs.Grammar.{cmd_text}
use Rattle.mc_cmd.specs.Layout.{full_name}
use Rattle.cc_line.specs.Step.{step_text}
use Rattle.cc_line.specs.declared.block.Function.{Function}
use Rattle.cc_line.specs.BlockView.{function_view, functions_view}
use Rattle.cc_line.specs.Item.{Helper}
use Rattle.cc_sched.specs.Functions.{call_functions, chain_functions, function}
use Rattle.cc_sched.specs.Names.{call_name, go_name, group_name, load_name, next_name, score_state, tick_name}
use Rattle.cc_sched.specs.Sched.{call_texts, go_texts, group_texts, load_texts, next_texts, read_state, round_command, rounds_texts, tick_texts}

pub view_pushed : (fs : List Function) (f : Function) → functions_view (fs ++ (f ∷ [])) ≡ functions_view fs ++ (function_view f ∷ [])
view_pushed [] f = refl
view_pushed (g ∷ fs) f = ap (λ hs. function_view g ∷ hs) (view_pushed fs f)

-- those that begin chains, and rounds
pub chains_added : (f0 f1 f2 f3 f4 f5 : List Helper) (ns : Text) (piece : ℕ) (l t g e n : List Text)
    → f0 ≡ [] → f1 ≡ f0 ++ (function (codes "load") l ∷ []) → f2 ≡ f1 ++ (function (codes "tick") t ∷ []) → f3 ≡ f2 ++ (function (codes "go") g ∷ []) → f4 ≡ f3 ++ (function (codes "go8") e ∷ []) → f5 ≡ f4 ++ (function (codes "h_next") n ∷ [])
    → l ≡ load_texts ns → t ≡ tick_texts ns piece → g ≡ go_texts ns → e ≡ group_texts ns piece → n ≡ next_texts ns → f5 ≡ chain_functions ns piece
chains_added f0 f1 f2 f3 f4 f5 ns piece l t g e n a b c d h i el et eg ee en =
    i
    ∙ ap (λ x. x ++ (function next_name n ∷ [])) (h ∙ ap (λ x. x ++ (function group_name e ∷ [])) (d ∙ ap (λ x. x ++ (function go_name g ∷ [])) (c ∙ ap (λ x. x ++ (function tick_name t ∷ [])) (b ∙ ap (λ x. x ++ (function load_name l ∷ [])) a))))
    ∙ ap (λ x. function load_name x ∷ (function tick_name t ∷ (function go_name g ∷ (function group_name e ∷ (function next_name n ∷ []))))) el
    ∙ ap (λ x. function load_name (load_texts ns) ∷ (function tick_name x ∷ (function go_name g ∷ (function group_name e ∷ (function next_name n ∷ []))))) et
    ∙ ap (λ x. function load_name (load_texts ns) ∷ (function tick_name (tick_texts ns piece) ∷ (function go_name x ∷ (function group_name e ∷ (function next_name n ∷ []))))) eg
    ∙ ap (λ x. function load_name (load_texts ns) ∷ (function tick_name (tick_texts ns piece) ∷ (function go_name (go_texts ns) ∷ (function group_name x ∷ (function next_name n ∷ []))))) ee
    ∙ ap (λ x. function load_name (load_texts ns) ∷ (function tick_name (tick_texts ns piece) ∷ (function go_name (go_texts ns) ∷ (function group_name (group_texts ns piece) ∷ (function next_name x ∷ []))))) en

-- ---- lines by hand

-- two lines are added
pub two_added : (ts now : List Text) (a b : Text) → now ≡ ts ++ (a ∷ []) → now ++ (b ∷ []) ≡ ts ++ (a ∷ (b ∷ []))
two_added ts now a b e = ap (λ x. x ++ (b ∷ [])) e ∙ append_assoc ts (a ∷ []) (b ∷ [])

pub read_is : (u : Sub) (s : Simple) (ns : Text) → u ≡ store_score score_state ns → s ≡ data_get (full_name ns (codes "io")) (key (codes "state") ∷ []) → cmd_text (execute (u ∷ []) s) ≡ step_text ns read_state
read_is u s ns e f = ap (λ x. cmd_text (execute (x ∷ []) s)) e ∙ ap (λ x. cmd_text (execute (store_score score_state ns ∷ []) x)) f

-- so many rounds are added one after the other
pub one_round_less : (ts now all : List Text) (t : Text) (ns : Text) (k : ℕ) → now ≡ ts ++ (t ∷ []) → t ≡ cmd_text (round_command ns) → ts ++ rounds_texts ns (suc k) ≡ all → now ++ rounds_texts ns k ≡ all
one_round_less ts now all t ns k e f h =
    ap (λ x. x ++ rounds_texts ns k) (e ∙ ap (λ x. ts ++ (x ∷ [])) f)
    ∙ append_assoc ts (cmd_text (round_command ns) ∷ []) (rounds_texts ns k) ∙ h

-- ---- calls

-- the call of the first export is added, and then the others
pub calls_go_on : (hs now : List Helper) (ns : Text) (k f : ℕ) (es fs : List ℕ) (whole : List Helper) → es ≡ f ∷ fs → now ≡ hs ++ (function (call_name k) (call_texts ns f) ∷ []) → hs ++ call_functions ns k es ≡ whole → now ++ call_functions ns (k + 1) fs ≡ whole
calls_go_on hs now ns k f es fs whole e n h =
    ap (λ t. t ++ call_functions ns (k + 1) fs) n
    ∙ append_assoc hs (function (call_name k) (call_texts ns f) ∷ []) (call_functions ns (k + 1) fs)
    ∙ ap (λ j. hs ++ (function (call_name k) (call_texts ns f) ∷ call_functions ns j fs)) (one_more k)
    ∙ ap (λ t. hs ++ call_functions ns k t) (sym e) ∙ h
  where
    one_more : (k : ℕ) → k + 1 ≡ suc k
    one_more k = omega arith
