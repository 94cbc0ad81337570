use Rattle.std.proofs.Common.{refl, sym}
use Rattle.wm_ast.specs.declared.module.ValType.TheVariants.{I32, I64, F32, F64}
use Rattle.std.proofs.lemmas.List.{append-nil as whole}
use Rattle.wm_reduce.proofs.ListLaws.{zeros_of, no_zeros}
use Rattle.wm_reduce.proofs.function.add_run.Goals as goal

pub returns-in-I32 : goal.returns-in-I32
returns-in-I32 c = rw (c.in-I32.is, zeros_of I32 _ c.args.run.count refl) c.add_values.ensures

pub returns-in-I64 : goal.returns-in-I64
returns-in-I64 c = rw (c.in-I64.is, zeros_of I64 _ c.args.run.count refl) c.add_values-in-I64.ensures

pub returns-in-F32 : goal.returns-in-F32
returns-in-F32 c = rw (c.in-F32.is, no_zeros F32 c.args.run.count refl) (sym (whole c.args.locals.now.items))

pub returns-in-F64 : goal.returns-in-F64
returns-in-F64 c = rw (c.in-F64.is, no_zeros F64 c.args.run.count refl) (sym (whole c.args.locals.now.items))
