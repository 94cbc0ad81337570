-- The items of divisions are short.
use Rattle.std.proofs.Common.{◌≡◌, ℕ, true, refl}
use Rattle.wm_ast.specs.declared.operator.BinaryOp.{BinaryOp}
use Rattle.wm_ast.specs.declared.operator.BinaryOp.TheVariants.{DivS, DivU, RemS, RemU}
use Rattle.cc_text.specs.Short.{items_short}
use Rattle.cc_div64.specs.Division.{begin_items, end_items, turns_items}

pub begin_short : (op : BinaryOp) (a : ℕ) → items_short (begin_items op a) ≡ true
begin_short DivS a = refl
begin_short DivU a = refl
begin_short RemS a = refl
begin_short RemU a = refl
begin_short _ a = refl

pub turns_short : items_short turns_items ≡ true
turns_short = refl

pub end_short : (op : BinaryOp) (a : ℕ) → items_short (end_items op a) ≡ true
end_short DivS a = refl
end_short DivU a = refl
end_short RemS a = refl
end_short RemU a = refl
end_short _ a = refl
