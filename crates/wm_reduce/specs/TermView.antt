-- What contracts see of the code's storage, terms and tasks: the configurations of the machine that they stand for,
-- with places left out, of which a term tells nothing.
use Rattle.std.specs.Prelude.{List, [], map, Bool, true, false, Option, Some, None}
use Rattle.wm_ast.specs.Code.{Op, br, call, block, loop, Code, nil, cons}
use Rattle.wm_ast.specs.Configuration.{Items}
use Rattle.wm_ast.specs.Step.{arity}
use Rattle.wm_ast.specs.Store.{Store}
use Rattle.wm_ast.specs.View.{code_of}
use Rattle.wm_flat.specs.Flat.{Level, Flat, starting, running, finished, term_of}
use Rattle.wm_flat.specs.Flat as flat
use Rattle.wm_reduce.specs.declared.calls.Activation.{Activation}
use Rattle.wm_reduce.specs.declared.calls.Block.{Block}
use Rattle.wm_reduce.specs.declared.calls.Label.{Label}
use Rattle.wm_reduce.specs.declared.calls.Label.TheVariants.{Behind, Again}
use Rattle.wm_reduce.specs.declared.calls.Pending.{Pending}
use Rattle.wm_reduce.specs.declared.calls.Pending.TheVariants as pendings
use Rattle.wm_reduce.specs.declared.calls.Term.{Term}
use Rattle.wm_reduce.specs.declared.calls.Term.TheVariants as terms
use Rattle.wm_reduce.specs.declared.simple.Storage.{Storage}
use Rattle.wm_reduce.specs.declared.task.Moved.{Moved}
use Rattle.wm_reduce.specs.declared.task.Moved.TheVariants as moves
use Rattle.wm_reduce.specs.declared.task.Task.{Task}
use Rattle.wm_reduce.specs.declared.task.Task.TheVariants.{Resting, Calling, Reducing, Failed}

-- the store that the storage holds
abbrev pub store_of : Storage → Store
store_of s = record { globals = s.globals.items; memory = s.memory; table = s.table.items }

-- a block whose label does the same
abbrev pub label_op : Label → Op
label_op (Behind ty) = block ty nil
label_op (Again start) = loop start.ty (code_of start.body.now)

-- a block of the machine
abbrev pub seen_block : Block → Level
seen_block b = record {
  block = record { place = []; before = nil; op = label_op b.label; rest = code_of b.rest.now };
  values = b.values;
}

-- with the instruction that stands before it
abbrev pub pending_code : Option Pending → Code → Code
pending_code None is = is
pending_code (Some (pendings.Branch l)) is = cons (br l) is
pending_code (Some (pendings.Call f)) is = cons (call f) is
pending_code (Some (pendings.Again start)) is = cons (loop start.ty (code_of start.body.now)) is

-- an activation of the machine
abbrev pub seen : Activation → flat.Activation
seen a = record {
  func = a.func;
  results = arity a.gives;
  place = [];
  before = nil;
  code = pending_code a.pending (code_of a.code.now);
  locals = a.locals.items;
  levels = map seen_block a.blocks;
  values = a.values;
}

-- several of them
abbrev pub seen_calls : List Activation → List flat.Activation
seen_calls cs = map seen cs

-- a configuration of the machine
abbrev pub flat_of : Term → Flat
flat_of (terms.Running c) = running (seen_calls c.callers) (seen c.current)
flat_of (terms.Finished vs) = finished vs

-- the term under reduction, where there is one
abbrev pub task_term : Task → Option Items
task_term (Resting last) = None
task_term (Calling f arguments) = Some (term_of (starting f arguments))
task_term (Reducing t) = Some (term_of (flat_of t))
task_term Failed = None

-- how the last one ended
abbrev pub task_last : Task → Moved
task_last (Resting last) = last
task_last _ = moves.Ended None

-- memory was wanting
abbrev pub has_failed : Task → Bool
has_failed Failed = true
has_failed _ = false
