-- What the code's functions come to, by the machine's configurations that their values stand for.
use Rattle.std.specs.Borrow.{Bor}
use Rattle.wm_ast.specs.declared.instruction.Instr.{Instr}
use Rattle.std.specs.Prelude.{◌≡◌, ℕ, List, [], ◌∷◌, length, filter_map, option_to_list}
use Rattle.std.specs.Prelude.{Option, Some, None}
use Rattle.mc_nbt.specs.declared.value.Value.{Value}
use Rattle.wm_ast.specs.declared.module.Module.{Module}
use Rattle.wm_ast.specs.Code.{Op, block, Code, nil, cons}
use Rattle.wm_ast.specs.Step.{step, Next, Ended, Trapped}
use Rattle.wm_reduce.specs.declared.step.Advance.{Advance}
use Rattle.wm_reduce.specs.declared.step.Advance.TheVariants as advances
use Rattle.wm_ast.specs.Step as reduction
use Rattle.wm_ast.specs.Store.{Store, Callee, zero_of}
use Rattle.wm_ast.specs.Types.{run_types}
use Rattle.wm_ast.specs.View.{code_of}
use Rattle.wm_flat.specs.Flat.{Flat, running, config_of, move, none}
use Rattle.wm_flat.specs.Flat as flat
use Rattle.wm_flat.specs.Steps.{IsStuck}
use Rattle.wm_ast.specs.Configuration.{Config}
use Rattle.wm_reduce.specs.declared.function.Function.{Function}
use Rattle.wm_reduce.specs.declared.function.Target.{Target}
use Rattle.wm_reduce.specs.declared.function.Target.TheVariants as targets
use Rattle.wm_reduce.specs.declared.calls.Label.{Label}
use Rattle.wm_reduce.specs.declared.calls.Activation.{Activation}
use Rattle.wm_reduce.specs.declared.calls.Calls.{Calls}
use Rattle.wm_reduce.specs.declared.calls.Outcome.{Outcome}
use Rattle.wm_reduce.specs.declared.calls.Outcome.TheVariants as outcomes
use Rattle.wm_reduce.specs.TermView.{label_op, seen, seen_calls, flat_of}

-- Functions.

-- what a call needs of a function
pub record Shows (f : Function) (c : Callee) : Type 0 where
  pub takes : length c.takes ≡ f.takes
  pub gives : c.gives ≡ f.gives
  pub zeros : c.zeros ≡ filter_map zero_of (run_types f.locals.now)
  pub body : c.body ≡ code_of f.body.now

abbrev pub IsFunction : Option Function → Option Callee → Type 0
IsFunction None found = found ≡ None
IsFunction (Some f) found = (c : Callee) × (found ≡ Some c) × Shows f c

abbrev pub seen_target : Target → reduction.Target
seen_target (targets.Function f) = reduction.function f
seen_target (targets.Refused k) = reduction.refused k
seen_target targets.Unknown = reduction.unknown

-- Terms.

-- with this instruction next, and then these
abbrev pub ready : Calls → Op → Code → Flat
ready c i is = running (seen_calls c.callers) (record (seen c.current) { code = cons i is })

-- with nothing left of the sequence
abbrev pub at_end : Calls → Flat
at_end c = running (seen_calls c.callers) (record (seen c.current) { code = nil })

-- the calls inside a block with this label
pub record IsEntered (c : Calls) (label : Label) (body rest : Bor (List Instr)) (d : Calls) : Type 0 where
  pub callers : d.callers ≡ c.callers
  pub inside : seen d.current ≡ record (seen c.current) {
    code = code_of body.now;
    levels = record {
      block = record { place = []; before = nil; op = label_op label; rest = code_of rest.now };
      values = c.current.values;
    } ∷ (seen c.current).levels;
    values = [];
  }

-- the activation of a function over these arguments
abbrev pub begun : ℕ → Callee → List Value → flat.Activation
begun f c us = record (flat.opened f c us) {
  place = [];
  levels = record {
    block = record { place = []; before = nil; op = block c.gives nil; rest = nil };
    values = [];
  } ∷ [];
}

-- what one step comes to, with the store after it
abbrev pub StepsTo : Module → Store → Flat → Outcome → Store → Type 0
StepsTo m s c (outcomes.Next t) s' = step m (config_of s c) ≡ Next (config_of s' (flat_of t))
StepsTo m s c (outcomes.Trapped k) s' = (step m (config_of s c) ≡ Trapped k s) × (s' ≡ s)
StepsTo m s c outcomes.Stuck s' = move m s c ≡ none

-- the same of a configuration of the reduction
abbrev pub Comes : Module → Config → Outcome → Store → Type 0
Comes m c (outcomes.Next t) s' = step m c ≡ Next (config_of s' (flat_of t))
Comes m c (outcomes.Trapped k) s' = (step m c ≡ Trapped k c.store) × (s' ≡ c.store)
Comes m c outcomes.Stuck s' = IsStuck m c

-- what a step of a term that is kept comes to
abbrev pub Advances : Module → Config → Advance → Store → Type 0
Advances m c (advances.Next t) s' = step m c ≡ Next (config_of s' (flat_of t))
Advances m c (advances.Ended v) s' = step m c ≡ Ended (option_to_list v) s'
Advances m c (advances.Trapped k) s' = step m c ≡ Trapped k s'
