-- Several steps.
use Rattle.std.proofs.Common.{◌≡◌, ℕ, zero, suc, List, [], ◌∷◌, map, reverse, filter, cond, Option, Some, None, option_map, refl, sym, ap, ◌∙◌}
use Rattle.std.specs.Prelude.{slice_get}
use Rattle.std.proofs.lemmas.Option.{slice_get-map}
use Rattle.mc_nbt.specs.declared.value.Value.{Value}
use Rattle.wm_ast.specs.declared.module.Export.{Export}
use Rattle.wm_ast.specs.declared.module.Space.{Space}
use Rattle.wm_ast.specs.declared.module.Space.TheVariants as spaces
use Rattle.wm_ast.specs.After as one_after
use Rattle.wm_ast.specs.Code.{call}
use Rattle.wm_ast.specs.Configuration as one
use Rattle.wm_ast.specs.Instance as one_instance
use Rattle.wm_ast.specs.Instance.{exported_index, exported_functions, is_function}
use Rattle.wm_match.specs.Program.{Program}
use Rattle.wm_join.specs.Agree.{Fits, RunsAlike}
use Rattle.wm_join.specs.Image.{HasGlobals, image_store, image_config, image_progress}
use Rattle.wm_join.specs.Joined.{joined, index_number, joined_export, main_number}
use Rattle.wm_join.specs.LinkedAfter.{settled_by, settled, one_more, after}
use Rattle.wm_join.specs.LinkedConfiguration.{Config as LinkedConfig, instruction, more, empty}
use Rattle.wm_join.specs.LinkedInstance.{call_config, export_config}
use Rattle.wm_join.specs.LinkedStep.{Progress, Next, Ended, Trapped, Stuck, progress, reduct, step, Reduct, values, rewritten, branching, returning, trapping, irreducible}
use Rattle.wm_join.specs.LinkedStore.{Store as LinkedStore}
use Rattle.wm_join.proofs.ImageLaws.{after_is}
use Rattle.wm_join.proofs.KeepsLaws.{KeptReduct, items_keep}
use Rattle.wm_join.proofs.StepLaws.{image_reduct, reduct_is, step_is}

module _ (p : Program) where
  -- what a step leaves

  step_keeps : (c : LinkedConfig) → HasGlobals p c.store → Fits p (step p c)
  step_keeps c has = by_reduct (reduct p c) (items_keep p c.term (main_number p) 0 c.store [] [] has)
    where
      by_reduct : (r : Reduct) → KeptReduct p r → Fits p (progress c.store r)
      by_reduct (values vs) h = has
      by_reduct (rewritten s locals is) h = h
      by_reduct (branching l vs) h = tt
      by_reduct (returning vs) h = tt
      by_reduct (trapping k) h = has
      by_reduct irreducible h = tt

  settled_keeps : (x : Progress) → Fits p x → Fits p (settled p x)
  settled_keeps (Next c) has = by_reduct (reduct p c)
    where
      by_reduct : (r : Reduct) → Fits p (settled_by c r)
      by_reduct (values vs) = has
      by_reduct (rewritten s locals is) = has
      by_reduct (branching l vs) = has
      by_reduct (returning vs) = has
      by_reduct (trapping k) = has
      by_reduct irreducible = has
  settled_keeps (Ended vs s) has = has
  settled_keeps (Trapped k s) has = has
  settled_keeps Stuck has = tt

  more_keeps : (x : Progress) → Fits p x → Fits p (one_more p x)
  more_keeps (Next c) has = settled_keeps (step p c) (step_keeps c has)
  more_keeps (Ended vs s) has = has
  more_keeps (Trapped k s) has = has
  more_keeps Stuck has = tt

  pub after_keeps : (c : LinkedConfig) (n : ℕ) → HasGlobals p c.store → Fits p (after p c n)
  after_keeps c zero has = settled_keeps (Next c) has
  after_keeps c (suc n) has = more_keeps (after p c n) (after_keeps c n has)

  -- that it is the image

  settled_is : (x : Progress) → Fits p x → one_after.settled (joined p) (image_progress p x) ≡ image_progress p (settled p x)
  settled_is (Next c) has = ap (one_after.settled_by (image_config p c)) (reduct_is p c has) ∙ by_reduct (reduct p c)
    where
      by_reduct : (r : Reduct) → one_after.settled_by (image_config p c) (image_reduct p (main_number p) r) ≡ image_progress p (settled_by c r)
      by_reduct (values vs) = refl
      by_reduct (rewritten s locals is) = refl
      by_reduct (branching l vs) = refl
      by_reduct (returning vs) = refl
      by_reduct (trapping k) = refl
      by_reduct irreducible = refl
  settled_is (Ended vs s) has = refl
  settled_is (Trapped k s) has = refl
  settled_is Stuck has = refl

  more_is : (x : Progress) → Fits p x → one_after.one_more (joined p) (image_progress p x) ≡ image_progress p (one_more p x)
  more_is (Next c) has = ap (one_after.settled (joined p)) (step_is p c has) ∙ settled_is (step p c) (step_keeps c has)
  more_is (Ended vs s) has = refl
  more_is (Trapped k s) has = refl
  more_is Stuck has = refl

  pub after_is_image : (c : LinkedConfig) (n : ℕ) → HasGlobals p c.store → one_after.after (joined p) (image_config p c) n ≡ image_progress p (after p c n)
  after_is_image c zero has = settled_is (Next c) has
  after_is_image c (suc n) has = ap (one_after.one_more (joined p)) (after_is_image c n has) ∙ more_is (after p c n) (after_keeps c n has)

  -- Calls of exports.

  export_is : (e : Export) (es : List Export) (x : Space)
      → map exported_index (filter (λ e. is_function e.space) (map (joined_export p (main_number p)) es))
      ≡ map (index_number p spaces.Func (main_number p)) (map exported_index (filter (λ e. is_function e.space) es))
      → map exported_index (cond (is_function x) (record e { space = x; index = index_number p x (main_number p) e.index } ∷ filter (λ e. is_function e.space) (map (joined_export p (main_number p)) es)) (filter (λ e. is_function e.space) (map (joined_export p (main_number p)) es)))
      ≡ map (index_number p spaces.Func (main_number p)) (map exported_index (cond (is_function x) (record e { space = x } ∷ filter (λ e. is_function e.space) es) (filter (λ e. is_function e.space) es)))
  export_is e es spaces.Func h = ap (λ (l : List ℕ). index_number p spaces.Func (main_number p) e.index ∷ l) h
  export_is e es spaces.Table h = h
  export_is e es spaces.Memory h = h
  export_is e es spaces.Global h = h

  exports_are : (es : List Export)
      → map exported_index (filter (λ e. is_function e.space) (map (joined_export p (main_number p)) es))
      ≡ map (index_number p spaces.Func (main_number p)) (map exported_index (filter (λ e. is_function e.space) es))
  exports_are [] = refl
  exports_are (e ∷ es) = export_is e es e.space (exports_are es)

  call_is : (s : LinkedStore) (f : ℕ) (arguments : List Value)
      → one_instance.call_config (image_store p s) (index_number p spaces.Func (main_number p) f) arguments ≡ image_config p (call_config p s f arguments)
  call_is s f arguments =
      ap (λ (is : one.Items). record { store = image_store p s; term = is })
      (sym (after_is p (main_number p) (reverse arguments) (more (instruction (call f)) empty)))

  pub calls_are : (s : LinkedStore) (k : ℕ) (arguments : List Value)
      → one_instance.export_config (joined p) (image_store p s) k arguments ≡ option_map (image_config p) (export_config p s k arguments)
  calls_are s k arguments =
      ap (λ (l : List ℕ). option_map (λ f. one_instance.call_config (image_store p s) f arguments) (slice_get l k)) (exports_are p.main.exports)
      ∙ ap (option_map (λ (f : ℕ). one_instance.call_config (image_store p s) f arguments)) (slice_get-map (index_number p spaces.Func (main_number p)) (exported_functions p.main) k)
      ∙ by_export (slice_get (exported_functions p.main) k)
    where
      by_export : (o : Option ℕ)
          → option_map (λ f. one_instance.call_config (image_store p s) f arguments) (option_map (index_number p spaces.Func (main_number p)) o)
          ≡ option_map (image_config p) (option_map (λ f. call_config p s f arguments) o)
      by_export None = refl
      by_export (Some f) = ap Some (call_is s f arguments)

  pub runs_alike : RunsAlike p
  runs_alike = record { calls = calls_are; runs = after_is_image; keeps = after_keeps }
