use Rattle.std.proofs.Common.{map}
use Rattle.wm_ast.specs.Profile.{global_code, element_code, data_code, function_code}
use Rattle.wm_profile.proofs.Finding.{labels_in_four}
use Rattle.wm_profile.proofs.limits.labels_above.Goals as goal

pub returns : goal.returns
returns c =
    let m = c.args.m.now in
    let all = labels_in_four (map global_code m.globals) (map element_code m.elems) (map data_code m.datas) (map function_code m.funcs) in
    cc all
