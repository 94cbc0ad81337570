-- Lists of modules that are short enough.
use Rattle.std.proofs.Common.{◌≡◌, ℕ, List, [], ◌∷◌, ◌++◌, ◌≤◌, length, map, All, arith}
use Rattle.std.proofs.lemmas.List.Elements.{All-append, All-cons, All-head, All-nil, All-push, All-same, All-tail}
use Rattle.wm_ast.specs.declared.module.Module.{Module}
use Rattle.wm_ast.specs.Spelling.{Spells}
use Rattle.wm_match.specs.Lists.{HasListsWithin}
use Rattle.wm_match.specs.Program.{modules_of, module_of}
use Rattle.wm_match.specs.declared.library.Library.{Library}
use Rattle.wm_match.proofs.ListLaws.{lists_short}
use Rattle.test_links.specs.Libraries.{HasShortLists}

pub short_lists : (bytes : List ℕ) (m : Module) → Spells bytes m → length bytes ≤ 1048576 → HasListsWithin 1048576 m
short_lists bytes m spells few =
    let h = lists_short bytes m spells in
    let types = h.types in
    let imports = h.imports in
    let funcs = h.funcs in
    let tables = h.tables in
    let mems = h.mems in
    let globals = h.globals in
    let exports = h.exports in
    let elems = h.elems in
    let datas = h.datas in
    record {
      types = omega arith;
      imports = omega arith;
      funcs = omega arith;
      tables = omega arith;
      mems = omega arith;
      globals = omega arith;
      exports = omega arith;
      elems = omega arith;
      datas = omega arith;
    }

modules_short : (libs : List Library) → All HasShortLists libs → All (HasListsWithin 1048576) (map module_of libs)
modules_short [] all = All-nil (HasListsWithin 1048576)
modules_short (l ∷ ls) all =
    All-cons (HasListsWithin 1048576) l.module (map module_of ls) (All-head HasShortLists l ls all) (modules_short ls (All-tail HasShortLists l ls all))

pub all_short : (libs : List Library) (main : Module) → All HasShortLists libs → HasListsWithin 1048576 main
    → All (HasListsWithin 1048576) (modules_of libs main)
all_short libs main all short =
    All-append (HasListsWithin 1048576) (map module_of libs) (main ∷ []) (modules_short libs all)
    (All-cons (HasListsWithin 1048576) main [] short (All-nil (HasListsWithin 1048576)))

pub one_more_short : (libs new : List Library) (l : Library) → new ≡ libs ++ l ∷ [] → HasShortLists l → All HasShortLists libs → All HasShortLists new
one_more_short libs new l e short all = All-same HasShortLists new (libs ++ l ∷ []) e (All-push HasShortLists libs l all short)
