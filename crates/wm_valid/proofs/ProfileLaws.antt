-- The bodies of a module of the profile are short.
use Rattle.std.proofs.Common.{◌≡◌, ℕ, ◌≤◌, length, get_or, map, sum, Some, ap, arith}
use Rattle.std.specs.Prelude.{slice_get}
use Rattle.std.specs.List.{sum_by}
use Rattle.std.proofs.lemmas.List.Sums.{sum-map, get_or-le-sum_by}
use Rattle.std.proofs.lemmas.Option.{slice_get_within, get_or_from_slice_get}
use Rattle.wm_ast.specs.declared.module.Func.{Func}
use Rattle.wm_ast.specs.declared.module.Module.{Module}
use Rattle.wm_ast.specs.Profile.{all_ops, function_size, InProfile}
use Rattle.wm_ast.specs.View.{code_of}

-- a body has at most as many instructions as all bodies together
pub is_short : (m : Module) (n : ℕ) (f : Func) → InProfile m → slice_get m.funcs n ≡ Some f → length (all_ops (code_of f.body)) ≤ 262144
is_short m n f p at =
    let all : sum (map function_size m.funcs) ≤ 262144 = p.within_limits.instructions in
    let one : function_size (get_or m.funcs n f) ≤ sum_by function_size m.funcs = get_or-le-sum_by function_size m.funcs n f (slice_get_within m.funcs n f at) in
    let here : function_size (get_or m.funcs n f) ≡ function_size f = ap function_size (get_or_from_slice_get m.funcs n f f at) in
    omega (arith, sum-map function_size m.funcs)
