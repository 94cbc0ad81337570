-- Tests that tell whether a module is closed.
use Rattle.std.proofs.Common.{◌≡◌, AllPairs, Bool, true, false, ◌||◌, refl}
use Rattle.std.specs.List.{list_any}
use Rattle.wm_ast.specs.declared.module.Module.{Module}
use Rattle.wm_match.specs.Closed.{Closed, HaveOtherNames, sizes_of, is_open_import, is_open_function, is_open_global, is_open_export, is_open_element, is_open_data, is_open_start}
use Rattle.wm_match.specs.steps.Checking.{has_open_code, has_open_name, IsClosedButForNames}

both : (b c : Bool) → (b || c) ≡ false → (b ≡ false) × (c ≡ false)
both true c h = absurd cc
both false c h = (refl, h)

neither : (b c : Bool) → b ≡ false → c ≡ false → (b || c) ≡ false
neither true c h k = absurd cc
neither false c h k = k

-- closed but for names, and the names differ
pub closed_is : (m : Module) → IsClosedButForNames m → AllPairs HaveOtherNames m.exports → Closed m
closed_is m h names =
    let s = sizes_of m in
    let all = both (has_open_code s m) (has_open_name s m) h.0 in
    let c = both _ (list_any (is_open_data s) m.datas) all.0 in
    let d = both _ (list_any (is_open_element s) m.elems) c.0 in
    let e = both (list_any (is_open_function s) m.funcs) (list_any (is_open_global s) m.globals) d.0 in
    let n = both _ (is_open_start s m.start) all.1 in
    let o = both (list_any (is_open_import s) m.imports) (list_any (is_open_export s) m.exports) n.0 in
    record {
      imports = o.0;
      functions = e.0;
      globals = e.1;
      exports = o.1;
      start = n.1;
      elements = d.1;
      datas = c.1;
      one_table = h.1.0;
      one_memory = h.1.1;
      names = names;
    }

pub closed_then : (m : Module) → Closed m → IsClosedButForNames m
closed_then m c =
    let s = sizes_of m in (
      neither (has_open_code s m) (has_open_name s m)
          (neither _ (list_any (is_open_data s) m.datas)
          (neither _ (list_any (is_open_element s) m.elems) (neither (list_any (is_open_function s) m.funcs) (list_any (is_open_global s) m.globals) c.functions c.globals) c.elements) c.datas)
          (neither _ (is_open_start s m.start) (neither (list_any (is_open_import s) m.imports) (list_any (is_open_export s) m.exports) c.imports c.exports) c.start),
      (c.one_table, c.one_memory),
    )
