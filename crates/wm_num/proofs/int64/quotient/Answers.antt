use Rattle.std.proofs.Common.{ℤ, FitsSigned, int_div, refl, sym, ap, ◌∙◌, ⊎_elim}
use Rattle.std.proofs.lemmas.Int.{quot_is}
use Rattle.std.specs.Int.{w64, cast_unsigned}
use Rattle.mc_nbt.specs.declared.value.Kind.TheVariants.{I64}
use Rattle.wm_ast.specs.Apply.{gives, outcome}
use Rattle.wm_ast.proofs.IntegerLaws.{div_s_is, quotient_fits}
use Rattle.wm_num.proofs.int64.quotient.Goals as goal

-- the least number isn't divided by -1 here, so the quotient is a number of the type
pub returns-else-a : goal.returns-else-a
returns-else-a c =
    let a : ℤ = c.cast_signed-a.result in
    let b : ℤ = c.cast_signed-b.result in
    let fa : FitsSigned w64 a = record { sfits = c.cast_signed-a.type_inv } in
    let fb : FitsSigned w64 b = record { sfits = c.cast_signed-b.type_inv } in
    let fits : FitsSigned w64 (int_div a b) = quotient_fits w64 a b fa fb (λ y x. ⊎_elim (λ p. p.1 y) (λ q. q x) c.else-a.either) in
    c.value.ensures
    ∙ ap (gives I64) (c.cast_unsigned.ensures ∙ ap (cast_unsigned w64) (quot_is w64 a b fa fb fits))
    ∙ ap (outcome I64) (sym (div_s_is w64 c.args.i c.args.j a b refl refl c.cast_signed-a.ensures c.cast_signed-b.ensures c.if-b-eq0.false fits))
