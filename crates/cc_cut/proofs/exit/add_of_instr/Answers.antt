use Rattle.std.proofs.Common.{ℕ, List, [], ◌∷◌, ◌++◌, ap, ◌∙◌, map}
use Rattle.wm_ast.specs.declared.instruction.Instr.{Instr}
use Rattle.wm_ast.specs.View.{op_of}
use Rattle.wm_place.specs.Stop.{level_told}
use Rattle.wm_place.specs.Visit.{Around}
use Rattle.cc_cut.specs.Way.{path_behind}
use Rattle.cc_cut.specs.steps.Exits.{branch_paths, branches_paths, op_paths, indices_in}
use Rattle.cc_cut.proofs.ExitLemmas.{both_ok, table_leads, branch_leads}
use Rattle.cc_cut.proofs.exit.add_of_instr.Goals as goal

pub returns-in_ok-add_branches-in-BrTable : goal.returns-in_ok-add_branches-in-BrTable
returns-in_ok-add_branches-in-BrTable c =
    let path : List ℕ = c.args.path.now in
    let blocks : List Around = map level_told c.args.levels.now in
    both_ok c.args.indices.now c.add_branch-in-BrTable.result (op_paths (op_of c.args.instr.now) path blocks) (branches_paths path blocks c.in-BrTable.labels) (branch_paths path blocks c.in-BrTable.last)
    c.args.exits.now.items c.add_branches.new.exits.items c.add_branch-in-BrTable.new.exits.items
    (ap (λ (i : Instr). op_paths (op_of i) path blocks) c.in-BrTable.is ∙ table_leads c.in-BrTable.labels c.in-BrTable.last path blocks)
    (c.in_ok-add_branches-in-BrTable.ensures ∙ ap (λ (ls : List ℕ). c.args.exits.now.items ++ indices_in c.args.indices.now (branches_paths path blocks ls)) c.as_slice.ensures)
    c.add_branch-in-BrTable.ensures

pub returns-in_ok-add_branch-in-BrIf : goal.returns-in_ok-add_branch-in-BrIf
returns-in_ok-add_branch-in-BrIf c =
    let path : List ℕ = c.args.path.now in
    let blocks : List Around = map level_told c.args.levels.now in
    both_ok c.args.indices.now c.add_behind.result (op_paths (op_of c.args.instr.now) path blocks) (branch_paths path blocks c.in-BrIf.label) (path_behind path ∷ [])
    c.args.exits.now.items c.add_branch-in-BrIf.new.exits.items c.add_behind.new.exits.items
    (ap (λ (i : Instr). op_paths (op_of i) path blocks) c.in-BrIf.is ∙ branch_leads c.in-BrIf.label path blocks)
    c.in_ok-add_branch-in-BrIf.ensures c.add_behind.ensures
