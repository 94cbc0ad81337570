-- What the passes over the modules find.
use Rattle.std.proofs.Common.{◌≡◌, ◌≢◌, ℕ, zero, suc, ◌+◌, ◌<◌, ◌≤◌, List, [], ◌∷◌, length, take, get_or, All, true, false, Some, None, sym, ap, subst, ◌∙◌, below_more, arith}
use Rattle.std.specs.Prelude.{slice_get}
use Rattle.std.proofs.lemmas.Option.{slice_get-get_or}
use Rattle.wm_ast.specs.declared.module.Import.{Import}
use Rattle.wm_ast.specs.declared.module.Module.{Module}
use Rattle.wm_ast.specs.declared.module.Space.{Space}
use Rattle.wm_ast.specs.declared.module.Space.TheVariants as spaces
use Rattle.wm_match.specs.declared.fault.MatchFault.TheVariants as faults
use Rattle.wm_match.specs.declared.library.Binding.{Binding}
use Rattle.wm_match.specs.declared.library.Library.{Library}
use Rattle.wm_match.specs.Binds.{NamesDiffer, IsNoGlobal, ImportsNoGlobal, HasNoStart, AreBound, CanBeBound, defined, Binds}
use Rattle.wm_match.specs.Cause.{program, IsFirst, DefinesSecond, IsCause}
use Rattle.wm_match.specs.Closed.{Closed}
use Rattle.wm_match.specs.Program.{modules_of}
use Rattle.wm_match.specs.Space.{space_of, same_space, is_in, own_count}
use Rattle.wm_match.specs.steps.Checking.{Before, IsGlobalAt, DefinesOneAtMost}
use Rattle.wm_match.proofs.ModuleLaws.{module_count, short_module, one_at_most}
use Rattle.wm_match.proofs.OneLaws.{at_place}
use Rattle.wm_match.proofs.SpaceLaws.{same_is}

-- one item more
pub before_more : {A : Type 0} (P : A → Type 0) (xs : List A) (k : ℕ) (x : A) → slice_get xs k ≡ Some x → P x → Before P xs k → Before P xs (k + 1)
before_more P xs k x at here before j y lt =
    below_more (λ (i : ℕ). (z : _) → slice_get xs i ≡ Some z → P z) k
    (λ i earlier z there. before i z earlier there)
    (λ z there. let w : Some x ≡ Some z = sym at ∙ there in let s : x ≡ z = cc in subst P s here)
    j lt y

-- all items
pub before_all : {A : Type 0} (P : A → Type 0) (xs : List A) (k : ℕ) → length xs ≤ k → Before P xs k → All P xs
before_all P xs k le before j d lt = before j (get_or xs j d) (omega arith) (slice_get-get_or xs j d lt)

module _ (libs : List Library) (main : Module) where
  -- an import that is a global
  pub global_cause : (k n : ℕ) (m : Module) → NamesDiffer libs → slice_get (modules_of libs main) k ≡ Some m → Before ImportsNoGlobal (modules_of libs main) k
      → IsFirst (IsGlobalAt m) n → IsCause libs main (faults.GlobalImport k n)
  global_cause k n m names at before first = (
    names,
    (
      record { importer = m; item = first.0.0; imports = record { there = at; imported = first.0.1 }; global = first.0.2 },
      λ j i lt h. at_place IsNoGlobal h.importer.imports i h.item (before j h.importer lt h.imports.there) h.imports.imported h.global,
      λ i lt h.
          let w : Some h.importer ≡ Some m = sym h.imports.there ∙ at in
          let s : h.importer ≡ m = cc in
          first.1 i lt (h.item, subst (λ (z : Module). slice_get z.imports i ≡ Some h.item) s h.imports.imported, h.global),
    ),
  )

  -- a module that isn't closed
  pub closed_cause : (k : ℕ) (m : Module) → NamesDiffer libs → All ImportsNoGlobal (modules_of libs main) → slice_get (modules_of libs main) k ≡ Some m
      → Before Closed (modules_of libs main) k → (Closed m → ⊥) → IsCause libs main (faults.NotClosed k)
  closed_cause k m names no_global at before not_closed = (
    names,
    no_global,
    (
      record { found = m; there = at; not_closed = not_closed },
      λ j lt h. h.not_closed (before j h.found lt h.there),
    ),
  )

  -- a library with a start function
  pub start_cause : (k : ℕ) (l : Library) → NamesDiffer libs → All ImportsNoGlobal (modules_of libs main) → All Closed (modules_of libs main) → slice_get libs k ≡ Some l
      → Before HasNoStart libs k → l.module.start ≢ None → IsCause libs main (faults.Start k)
  start_cause k l names no_global closed at before start = (
    names,
    no_global,
    closed,
    (
      record { library = l; there = at; start = start },
      λ j lt h. h.start (before j h.library lt h.there),
    ),
  )

-- an import that is a global, and one that isn't
pub is_global : (i : Import) → true ≡ is_in spaces.Global i → space_of i.what ≡ spaces.Global
is_global i e = sym (same_is spaces.Global (space_of i.what) (sym e))

pub is_no_global : (i : Import) → false ≡ is_in spaces.Global i → IsNoGlobal i
is_no_global i e h =
    let t : true ≡ is_in spaces.Global i = ap (same_space spaces.Global) (sym h) in
    absurd (let w : false ≡ true = e ∙ sym t in cc)

-- the answer where all passes found nothing
pub links : (libs : List Library) (main : Module) (bs : List (List Binding)) → CanBeBound libs main → length bs ≡ length (modules_of libs main)
    → AreBound (program libs main bs) (length (modules_of libs main)) → defined spaces.Memory (modules_of libs main) ≤ 1 → defined spaces.Table (modules_of libs main) ≤ 1
    → Binds (program libs main bs)
links libs main bs can parts bound memory table = record { can = can; parts = parts; bound = bound; one_memory = memory; one_table = table }

-- Items of a space that several modules define.

pub one_memory_each : (libs : List Library) (main : Module) → CanBeBound libs main → All (DefinesOneAtMost spaces.Memory) (modules_of libs main)
one_memory_each libs main can k d lt = let h = (can.closed k d lt).one_memory in omega arith

pub one_table_each : (libs : List Library) (main : Module) → CanBeBound libs main → All (DefinesOneAtMost spaces.Table) (modules_of libs main)
one_table_each libs main can k d lt = let h = (can.closed k d lt).one_table in omega arith

pub defined_more : (s : Space) (ms : List Module) (k : ℕ) (m : Module) → slice_get ms k ≡ Some m → defined s (take (k + 1) ms) ≡ defined s (take k ms) + own_count s m
defined_more s [] k m e = absurd cc
defined_more s (x ∷ ms) zero m e = let w : Some x ≡ Some m = e in let y : x ≡ m = cc in let z = ap (own_count s) y in omega arith
defined_more s (x ∷ ms) (suc k) m e =
    let q : suc k + 1 ≡ suc (k + 1) = omega arith in
    let i = defined_more s ms k m e in
    ap (λ (n : ℕ). defined s (take n (x ∷ ms))) q ∙ ap (λ (n : ℕ). own_count s x + n) i ∙ omega arith

pub second_here : (libs : List Library) (main : Module) (s : Space) (k : ℕ) (m : Module) → slice_get (modules_of libs main) k ≡ Some m → 0 < own_count s m
    → 0 < defined s (take k (modules_of libs main)) → DefinesSecond libs main s k
second_here libs main s k m at own earlier = record { found = m; there = at; own = omega arith; earlier = omega arith }

pub no_second_here : (libs : List Library) (main : Module) (s : Space) (k : ℕ) (m : Module) → slice_get (modules_of libs main) k ≡ Some m
    → defined s (take k (modules_of libs main)) + own_count s m ≤ 1 → DefinesSecond libs main s k → ⊥
no_second_here libs main s k m at le h =
    let w : Some h.found ≡ Some m = sym h.there ∙ at in
    let e : h.found ≡ m = cc in
    let c = ap (own_count s) e in
    let a = h.own in
    let b = h.earlier in
    absurd (omega arith)

-- Steps over modules and imports.

pub ruleset module_steps = (before_more, before_all, module_count, short_module)

pub ruleset global_steps = (before_more, before_all, is_global, is_no_global)

pub ruleset second_steps = (defined_more, second_here, no_second_here, module_count, one_at_most)
