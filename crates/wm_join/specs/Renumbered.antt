-- Instructions with other indices of types, functions and globals. Indices of locals and labels stay.
use Rattle.std.specs.Prelude.{ℕ}
use Rattle.wm_ast.specs.declared.module.Func.{Func}
use Rattle.wm_ast.specs.Code.{Op, block, loop, if_else, call, call_indirect, global_get, global_set, Code, nil, cons}
use Rattle.wm_ast.specs.View.{code_of, instrs_of}

-- for each index the new one
pub record Renumbering : Type 0 where
  pub type : ℕ → ℕ
  pub function : ℕ → ℕ
  pub global : ℕ → ℕ

abbrev mutual
  -- an instruction with other indices, and those inside it
  pub renumbered_op : Renumbering → Op → Op
  renumbered_op r (block ty body) = block ty (renumbered r body)
  renumbered_op r (loop ty body) = loop ty (renumbered r body)
  renumbered_op r (if_else ty first second) = if_else ty (renumbered r first) (renumbered r second)
  renumbered_op r (call f) = call (r.function f)
  renumbered_op r (call_indirect t) = call_indirect (r.type t)
  renumbered_op r (global_get x) = global_get (r.global x)
  renumbered_op r (global_set x) = global_set (r.global x)
  renumbered_op r i = i

  -- a sequence of instructions with other indices
  pub renumbered : Renumbering → Code → Code
  renumbered r nil = nil
  renumbered r (cons i is) = cons (renumbered_op r i) (renumbered r is)

-- a function with other indices
abbrev pub renumbered_function : Renumbering → Func → Func
renumbered_function r f = record f { kind = r.type f.kind; body = instrs_of (renumbered r (code_of f.body)) }
