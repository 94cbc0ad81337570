-- The values of lists, and the lines of globals.
use Rattle.std.proofs.Common.{◌≡◌, ◌∙◌, refl, ap, sym, ℕ, zero, suc, ◌+◌, ◌<◌, ◌≤◌, List, [], ◌∷◌, ◌++◌, length, map, drop, get_or, None, ℤ, arith}
use Rattle.mc_nbt.specs.Tree.{int, items}
use Rattle.mc_nbt.specs.declared.value.Value.{Value}
use Rattle.mc_cmd.specs.Layout.{values_in}
use Rattle.app_words.specs.Lines.{global_line, global_lines}

-- an int is no value
pub ints_tell_no_values : (zs : List ℤ) → 1 ≤ length zs → values_in (items (map int zs)) ≡ None
ints_tell_no_values [] h = absurd (omega arith)
ints_tell_no_values (z ∷ zs) h = refl

-- the line of a global, and those behind it
pub lines_from : (vs : List Value) (i n : ℕ) (v : Value) → i < length vs → global_lines n (drop i vs) ≡ global_line n (get_or vs i v) ++ global_lines (n + 1) (drop (i + 1) vs)
lines_from [] i n v h = absurd (omega arith)
lines_from (x ∷ vs) zero n v h = refl
lines_from (x ∷ vs) (suc i) n v h =
    let next : suc i + 1 ≡ suc (i + 1) = omega arith in
    lines_from vs i n v (omega arith) ∙ ap (λ k. global_line n (get_or vs i v) ++ global_lines (n + 1) (drop k (x ∷ vs))) (sym next)
