use Rattle.std.proofs.Common.{◌≡◌, length, Some, refl, sym, arith}
use Rattle.std.specs.Prelude.{slice_get}
use Rattle.std.proofs.lemmas.Option.{slice_get_read}
use Rattle.wm_match.proofs.NamingLaws.{earlier_name, no_earlier_name}
use Rattle.wm_match.proofs.naming.has_earlier_name.Goals as goal

pub returns-in-Some : goal.returns-in-Some
returns-in-Some c =
    let at : slice_get c.args.libs.now c.args.k ≡ Some c.index-libs-k.result = slice_get_read c.args.libs.now (length c.args.libs.now) c.args.k c.index-libs-k.result refl (omega arith) c.index-libs-k.is in
    earlier_name c.args.libs.now c.args.k c.index-libs-k.result at c.in-Some.j (sym c.in-Some.ensures)

pub returns-in-None : goal.returns-in-None
returns-in-None c =
    let at : slice_get c.args.libs.now c.args.k ≡ Some c.index-libs-k.result = slice_get_read c.args.libs.now (length c.args.libs.now) c.args.k c.index-libs-k.result refl (omega arith) c.index-libs-k.is in
    no_earlier_name c.args.libs.now c.args.k c.index-libs-k.result at (sym c.in-None.ensures)
