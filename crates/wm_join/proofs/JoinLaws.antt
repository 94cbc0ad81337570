-- Modules that are joined one by one.
use Rattle.std.proofs.Common.{◌≡◌, ℕ, zero, suc, ◌+◌, List, [], ◌∷◌, ◌++◌, map, take, Some, Option, option_map, refl, sym, ap, ◌∙◌, arith}
use Rattle.std.specs.Prelude.{slice_get}
use Rattle.std.proofs.lemmas.List.{append-nil, append_assoc, take_all}
use Rattle.wm_ast.specs.declared.module.Data.{Data}
use Rattle.wm_ast.specs.declared.module.Elem.{Elem}
use Rattle.wm_ast.specs.declared.module.Export.{Export}
use Rattle.wm_ast.specs.declared.module.Func.{Func}
use Rattle.wm_ast.specs.declared.module.Global.{Global}
use Rattle.wm_ast.specs.declared.module.Module.{Module}
use Rattle.wm_ast.specs.declared.module.Space.TheVariants as spaces
use Rattle.wm_ast.specs.View.{code_of, instrs_of}
use Rattle.wm_match.specs.Program.{Program, modules, module_at}
use Rattle.wm_match.proofs.ModuleLaws.{module_count, main_module}
use Rattle.wm_join.specs.declared.numbers.Numbers.{Numbers}
use Rattle.wm_join.specs.Joined.{joined, main_number, joined_function, joined_global, joined_element, joined_data, joined_export, index_number}
use Rattle.wm_join.specs.Numbering.{joined_lists, numbered}
use Rattle.wm_join.specs.Renumbered.{renumbered, renumbered_function}
use Rattle.wm_join.specs.steps.Numbers.{AreNumbers, space_number}
use Rattle.wm_join.specs.steps.Parts.{function_with, global_with, element_with, data_with, export_with, with_module, items_before, joined_before, empty_module}

-- Lists, one more.

more_lists : {A B : Type 0} (items : ℕ → A → List B) (from k : ℕ) (xs : List A) (x : A) → slice_get xs k ≡ Some x
    → joined_lists (numbered items from (take k xs)) ++ items (from + k) x ≡ joined_lists (numbered items from (take (k + 1) xs))
more_lists items from k [] x e = absurd cc
more_lists items from zero (y ∷ xs) x e =
    let w : Some y ≡ Some x = e in
    let s : y ≡ x = cc in
    let n : from + 0 ≡ from = omega arith in
    ap (λ (j : ℕ). items j x) n ∙ ap (items from) (sym s) ∙ sym (append-nil (items from y))
more_lists items from (suc k) (y ∷ xs) x e =
    let n : from + suc k ≡ suc from + k = omega arith in
    let l : suc (k + 1) ≡ suc k + 1 = omega arith in
    append_assoc (items from y) (joined_lists (numbered items (suc from) (take k xs))) (items (from + suc k) x)
    ∙ ap (λ (j : ℕ). items from y ++ (joined_lists (numbered items (suc from) (take k xs)) ++ items j x)) n
    ∙ ap (λ (l : List _). items from y ++ l) (more_lists items (suc from) k xs x e)
    ∙ ap (λ (j : ℕ). joined_lists (numbered items from (take j (y ∷ xs)))) l

module _ (p : Program) (k : ℕ) (m : Module) (at : module_at p k ≡ Some m) where
  more : {B : Type 0} (items : ℕ → Module → List B) → items_before p k items ++ items k m ≡ items_before p (k + 1) items
  more items = let e : k ≡ 0 + k = omega arith in ap (λ (j : ℕ). items_before p k items ++ items j m) e ∙ more_lists items 0 k (modules p) m at

  module _ (x : Numbers) (h : AreNumbers p k x) where
    function_is : function_with x ≡ joined_function p k
    function_is = λ i f. renumbered_function (h.renumbering i) f

    global_is : global_with x ≡ joined_global p k
    global_is = λ i g. record g { init = instrs_of (renumbered (h.renumbering i) (code_of g.init)) }

    element_is : element_with x ≡ joined_element p k
    element_is = λ i e. record {
      table = h.indices spaces.Table i e.table;
      offset = instrs_of (renumbered (h.renumbering i) (code_of e.offset));
      funcs = map (h.indices spaces.Func i) e.funcs;
    }

    data_is : data_with x ≡ joined_data p k
    data_is = λ i d. record d { memory = h.indices spaces.Memory i d.memory; offset = instrs_of (renumbered (h.renumbering i) (code_of d.offset)) }

    -- one module more
    pub joined_more : with_module x m (joined_before p k) ≡ joined_before p (k + 1)
    joined_more =
        let functions = ap (λ (g : Func → Func). items_before p k (λ j n. map (joined_function p j) n.funcs) ++ map g m.funcs) function_is ∙ more (λ j n. map (joined_function p j) n.funcs) in
        let globals = ap (λ (g : Global → Global). items_before p k (λ j n. map (joined_global p j) n.globals) ++ map g m.globals) global_is ∙ more (λ j n. map (joined_global p j) n.globals) in
        let elements = ap (λ (g : Elem → Elem). items_before p k (λ j n. map (joined_element p j) n.elems) ++ map g m.elems) element_is ∙ more (λ j n. map (joined_element p j) n.elems) in
        let segments = ap (λ (g : Data → Data). items_before p k (λ j n. map (joined_data p j) n.datas) ++ map g m.datas) data_is ∙ more (λ j n. map (joined_data p j) n.datas) in
        let types = more (λ j n. n.types) in
        let tables = more (λ j n. n.tables) in
        let memories = more (λ j n. n.mems) in
        λ i. record (joined_before p k) {
          types = types i;
          funcs = functions i;
          tables = tables i;
          mems = memories i;
          globals = globals i;
          elems = elements i;
          datas = segments i;
        }

    export_is : export_with x ≡ joined_export p k
    export_is = λ i e. record e { index = h.indices e.space i e.index }

    exports_are : (es : List Export) → map (export_with x) es ≡ map (joined_export p k) es
    exports_are es = ap (λ (g : Export → Export). map g es) export_is

    start_is : (o : Option ℕ) → option_map (space_number x spaces.Func) o ≡ option_map (index_number p spaces.Func k) o
    start_is o = ap (λ (g : ℕ → ℕ). option_map g o) (h.indices spaces.Func)

-- no module yet
pub none_joined : (p : Program) → empty_module ≡ joined_before p 0
none_joined p = refl

-- All modules.

-- the lists of these modules, with exports and a start function
abbrev lists_of : Program → List Module → List Export → Option ℕ → Module
lists_of p ms es f = record {
  types = joined_lists (numbered (λ k m. m.types) 0 ms);
  funcs = joined_lists (numbered (λ k m. map (joined_function p k) m.funcs) 0 ms);
  tables = joined_lists (numbered (λ k m. m.tables) 0 ms);
  mems = joined_lists (numbered (λ k m. m.mems) 0 ms);
  globals = joined_lists (numbered (λ k m. map (joined_global p k) m.globals) 0 ms);
  exports = es;
  start = f;
  elems = joined_lists (numbered (λ k m. map (joined_element p k) m.elems) 0 ms);
  datas = joined_lists (numbered (λ k m. map (joined_data p k) m.datas) 0 ms);
  imports = [];
}

module _ (p : Program) (x : Numbers) (h : AreNumbers p (main_number p) x) where
  main_there : module_at p (main_number p) ≡ Some p.main
  main_there = main_module p.libraries p.main (main_number p) (omega arith) (omega arith)

  all_taken : take (main_number p + 1) (modules p) ≡ modules p
  all_taken = let n = module_count p.libraries p.main in take_all (main_number p + 1) (modules p) (omega arith)

  -- the main module behind the libraries, with its exports and its start function
  pub joined_is : (libraries whole : Module) (es : List Export) (f : Option ℕ) → libraries ≡ joined_before p (main_number p) → whole ≡ with_module x p.main libraries
      → es ≡ whole.exports ++ map (export_with x) p.main.exports → f ≡ option_map (space_number x spaces.Func) p.main.start → record whole { exports = es; start = f } ≡ joined p
  joined_is libraries whole es f before more exported started =
      let n = main_number p in
      let w : whole ≡ joined_before p (n + 1) = more ∙ ap (with_module x p.main) before ∙ joined_more p n p.main main_there x h in
      let e : es ≡ map (joined_export p n) p.main.exports =
      exported ∙ ap (λ (m : Module). m.exports ++ map (export_with x) p.main.exports) w ∙ exports_are p n p.main main_there x h p.main.exports in
      let s : f ≡ option_map (index_number p spaces.Func n) p.main.start = started ∙ start_is p n p.main main_there x h p.main.start in
      let a : record whole { exports = es; start = f } ≡ lists_of p (take (n + 1) (modules p)) (map (joined_export p n) p.main.exports) (option_map (index_number p spaces.Func n) p.main.start) =
      λ i. record (w i) { exports = e i; start = s i } in
      a ∙ ap (λ (ms : List Module). lists_of p ms (map (joined_export p n) p.main.exports) (option_map (index_number p spaces.Func n) p.main.start)) all_taken
