use Rattle.std.proofs.Common.{◌≡◌, refl, sym, ap, ◌∙◌, arith}
use Rattle.std.specs.Prelude.{codes}
use Rattle.std.specs.Fmt.{digits}
use Rattle.cc_line.specs.Place.{scratch}
use Rattle.cc_mem.specs.Load.{scale}
use Rattle.cc_mem.proofs.line.scale_of.Goals as goal

zero : scale 0 ≡ scratch (codes "#b0")
unfolding digits
zero = refl

one : scale 1 ≡ scratch (codes "#b1")
unfolding digits
one = refl

two : scale 2 ≡ scratch (codes "#b2")
unfolding digits
two = refl

three : scale 3 ≡ scratch (codes "#b3")
unfolding digits
three = refl

pub returns-in-0 : goal.returns-in-0
returns-in-0 c = let e : c.args.bytes ≡ 0 = omega arith in sym (ap scale e ∙ zero)

pub returns-in-1 : goal.returns-in-1
returns-in-1 c = let e : c.args.bytes ≡ 1 = omega arith in sym (ap scale e ∙ one)

pub returns-in-2 : goal.returns-in-2
returns-in-2 c = let e : c.args.bytes ≡ 2 = omega arith in sym (ap scale e ∙ two)

pub returns-in_default : goal.returns-in_default
returns-in_default c = let e : c.args.bytes ≡ 3 = omega arith in sym (ap scale e ∙ three)
