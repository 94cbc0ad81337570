use Rattle.std.proofs.Common.{◌≤◌, length, arith}
use Rattle.pk_files.proofs.JsonLemmas.{not_one}
use Rattle.pk_files.proofs.forms.is_only.Goals as goal

pub returns-in_default-as_slice-2 : goal.returns-in_default-as_slice-2
returns-in_default-as_slice-2 c =
    let several : 2 ≤ length c.in-Some.items.now.items = grind arith in
    rw (← c.in-Some.ensures) (not_one c.args.text.now c.in-Some.items.now.items (λ e. omega arith))
