use Rattle.std.proofs.Common.{◌≤◌, ◌-◌, ap, ℕ, List, arith, length, take, drop}
use Rattle.std.proofs.lemmas.List.{length-drop, take_rest}
use Rattle.wm_reduce.proofs.ListLaws.{seven_bytes}
use Rattle.wm_reduce.proofs.memory.+number.Goals as goal

few : (bytes : List ℕ) → length bytes ≤ 8 → length (take (length bytes - 1) (drop 1 bytes)) ≤ 7
few bytes h = let e = ap length (take_rest bytes 1) in let k = length-drop 1 bytes in omega arith

pub overflow_mul-result : goal.overflow_mul-result
overflow_mul-result t c = let b = seven_bytes _ c.number.result (few c.args.bytes.now c.requires) c.number.ensures.bound in omega arith

pub overflow_add-result : goal.overflow_add-result
overflow_add-result t c =
    let b = seven_bytes _ c.number.result (few c.args.bytes.now c.requires) c.number.ensures.bound in
    let f = c.from.ensures in let r = c.type_inv.bytes 0 in omega arith
