-- A pack that has the functions of the scheduler has the scheduler.
use Rattle.std.proofs.Common.{◌≡◌, ℕ, zero, suc, ◌+◌, List, [], ◌∷◌, Some, ◌∙◌, ap, arith}
use Rattle.std.specs.Prelude.{option_map, slice_get}
use Rattle.mc_cmd.specs.Form.{Text}
use Rattle.mc_cmd.specs.Chain.{Functions}
use Rattle.mc_cmd.specs.Layout.{full_name}
use Rattle.cc_line.specs.Item.{HasAll}
use Rattle.cc_sched.specs.Functions.{call_functions, sched_functions}
use Rattle.cc_sched.specs.Names.{call_name}
use Rattle.cc_sched.specs.Sched.{call_texts, HasSched}

pub has_sched : (functions : Functions) (ns : Text) (piece : ℕ) (exports : List ℕ) → HasAll functions ns (sched_functions ns piece exports) → HasSched functions ns piece
has_sched functions ns piece exports h = record {
  loads = h.0;
  ticks = h.1.0;
  goes = h.1.1.0;
  groups = h.1.1.1.0;
  next = h.1.1.1.1.0;
  runs = h.1.1.1.1.1.0;
  traps = h.1.1.1.1.1.1.0;
}

called_from : (functions : Functions) (ns : Text) (j : ℕ) (fs : List ℕ) → HasAll functions ns (call_functions ns j fs) → (k f : ℕ) → slice_get fs k ≡ Some f → functions (full_name ns (call_name (j + k))) ≡ Some (call_texts ns f)
called_from functions ns j [] h k f e = absurd cc
called_from functions ns j (g ∷ fs) h zero f e = ap (λ i. functions (full_name ns (call_name i))) (zero_more j) ∙ h.0 ∙ ap (option_map (call_texts ns)) e
  where
    zero_more : (j : ℕ) → j + 0 ≡ j
    zero_more j = omega arith
called_from functions ns j (g ∷ fs) h (suc k) f e = ap (λ i. functions (full_name ns (call_name i))) (later j k) ∙ called_from functions ns (suc j) fs h.1 k f e
  where
    later : (j k : ℕ) → j + suc k ≡ suc j + k
    later j k = omega arith

pub has_calls : (functions : Functions) (ns : Text) (piece : ℕ) (exports : List ℕ) → HasAll functions ns (sched_functions ns piece exports) → (k f : ℕ) → slice_get exports k ≡ Some f → functions (full_name ns (call_name k)) ≡ Some (call_texts ns f)
has_calls functions ns piece exports h k f e = ap (λ i. functions (full_name ns (call_name i))) (let z : k ≡ 0 + k = omega arith in z) ∙ called_from functions ns 0 exports h.1.1.1.1.1.1.1 k f e
