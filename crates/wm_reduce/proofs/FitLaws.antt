-- The segments of a valid module of the profile fit.
use Rattle.std.proofs.Common.{◌≡◌, ℕ, length, map, false, Some, sym, subst}
use Rattle.std.specs.Prelude.{slice_get}
use Rattle.std.proofs.lemmas.List.{length-map}
use Rattle.wm_ast.specs.declared.module.Module.{Module}
use Rattle.wm_ast.specs.Instance.{empty_elements}
use Rattle.wm_ast.specs.Profile.{constant_offset, element_code, is_beyond}
use Rattle.wm_flat.specs.Program.{IsProgram}
use Rattle.wm_flat.proofs.FirstStore.{data_fits, element_fits, elements_size, pages_kept, some_index}
use Rattle.wm_reduce.specs.steps.Fitting.{ElementsFit, Fits}

module _ (m : Module) (p : IsProgram m) where
  elements_fit : ElementsFit m.elems (length (empty_elements (slice_get m.tables 0)))
  elements_fit n e q =
      subst (λ (k : ℕ). is_beyond (constant_offset (element_code e)) k (Some (length (empty_elements (slice_get m.tables 0)))) ≡ false) (length-map e.funcs some_index)
      (subst (λ (s : ℕ). is_beyond (constant_offset (element_code e)) (length (map some_index e.funcs)) (Some s) ≡ false) (sym (elements_size m p (slice_get m.tables 0))) (element_fits m p n e q))

  pub fits : Fits m
  fits = record { few_pages = pages_kept m p; datas = data_fits m p; elements = elements_fit }
