-- One import more, and one module more, whose imports are bound.
use Rattle.std.proofs.Common.{◌≡◌, ◌⊎◌, inl, inr, ℕ, zero, suc, ◌+◌, ◌<◌, List, [], ◌∷◌, ◌++◌, length, Option, Some, refl, sym, ap, subst, ◌∙◌, arith}
use Rattle.std.specs.Prelude.{slice_get, unwrap_or}
use Rattle.std.proofs.lemmas.Bool.{cases_order}
use Rattle.std.proofs.lemmas.List.{length-append}
use Rattle.std.proofs.lemmas.Option.{slice_get_within}
use Rattle.wm_ast.specs.declared.module.Import.{Import}
use Rattle.wm_ast.specs.declared.module.Module.{Module}
use Rattle.wm_match.specs.declared.library.Binding.{Binding}
use Rattle.wm_match.specs.declared.library.Library.{Library}
use Rattle.wm_match.specs.Binds.{IsBound, AreBound, CanBeBound}
use Rattle.wm_match.specs.Cause.{program, AreBoundTo}
use Rattle.wm_match.specs.Program.{Program, modules_of, bindings_at}
use Rattle.wm_match.proofs.ModuleLaws.{module_count}
use Rattle.wm_match.proofs.OneLaws.{bound_too}

-- a list with one item more

left : {A : Type 0} (xs : List A) (y : A) (n : ℕ) → n < length xs → slice_get (xs ++ y ∷ []) n ≡ slice_get xs n
left [] y n h = absurd (omega arith)
left (x ∷ xs) y zero h = refl
left (x ∷ xs) y (suc n) h = left xs y n (omega arith)

last : {A : Type 0} (xs : List A) (y : A) (n : ℕ) → n ≡ length xs → slice_get (xs ++ y ∷ []) n ≡ Some y
last [] y zero e = refl
last [] y (suc n) e = absurd (omega arith)
last (x ∷ xs) y zero e = absurd (omega arith)
last (x ∷ xs) y (suc n) e = last xs y n (omega arith)

-- what is found in it: one of the items before, or the last one
pub found_in : {A : Type 0} (xs : List A) (y z : A) (n : ℕ) → slice_get (xs ++ y ∷ []) n ≡ Some z → ((n < length xs) × (slice_get xs n ≡ Some z)) ⊎ ((n ≡ length xs) × (y ≡ z))
found_in xs y z n e = by_order (cases_order n (length xs))
  where
    by_order : (n ≡ length xs) ⊎ ((n < length xs) ⊎ (length xs < n)) → ((n < length xs) × (slice_get xs n ≡ Some z)) ⊎ ((n ≡ length xs) × (y ≡ z))
    by_order (inl h) = inr (h, (let w : Some y ≡ Some z = sym (last xs y n h) ∙ e in cc))
    by_order (inr (inl h)) = inl (h, sym (left xs y n h) ∙ e)
    by_order (inr (inr h)) =
        let l = length-append xs (y ∷ []) in
        let w = slice_get_within (xs ++ y ∷ []) n z e in
        absurd (omega arith)

module _ (libs : List Library) (main : Module) where
  -- one import more
  pub bound_more : (p : Program) (k n : ℕ) (m : Module) (part : List Binding) (x : Import) (b : Binding) → slice_get m.imports n ≡ Some x → IsBound p k m x b
      → AreBoundTo libs main p k n m part → AreBoundTo libs main p k (n + 1) m (part ++ b ∷ [])
  bound_more p k n m part x b at is h = record {
    count = length-append part (b ∷ []) ∙ ap (λ (l : ℕ). l + 1) h.count;
    bound = λ i y c there found. by_place i y c there (found_in part b c i found);
  }
    where
      by_place : (i : ℕ) (y : Import) (c : Binding) → slice_get m.imports i ≡ Some y → ((i < length part) × (slice_get part i ≡ Some c)) ⊎ ((i ≡ length part) × (b ≡ c)) → IsBound p k m y c
      by_place i y c there (inl f) = h.bound i y c there f.1
      by_place i y c there (inr f) =
          let j : n ≡ i = sym h.count ∙ sym f.0 in
          let w : Some x ≡ Some y = sym at ∙ ap (slice_get m.imports) j ∙ there in
          let e : x ≡ y = cc in
          subst (λ (z : Binding). IsBound p k m y z) f.1 (subst (λ (z : Import). IsBound p k m z b) e is)

  -- no import is bound yet
  pub none_bound : (p : Program) (k : ℕ) (m : Module) → AreBoundTo libs main p k 0 m []
  none_bound p k m = record { count = refl; bound = λ i x b there found. absurd cc }

  pub no_module_bound : (bs : List (List Binding)) → AreBound (program libs main bs) 0
  no_module_bound bs = record { counts = λ j m lt e. absurd (omega arith); bound = λ j n m i b lt e f g. absurd (omega arith) }

  -- one module more
  module _ (can : CanBeBound libs main) (done : List (List Binding)) (k : ℕ) (m : Module) (part : List Binding) (count : length done ≡ k)
      (at : slice_get (modules_of libs main) k ≡ Some m) (below : AreBound (program libs main done) k)
      (here : AreBoundTo libs main (program libs main done) k (length m.imports) m part) where
    abbrev new : List (List Binding)
    new = done ++ part ∷ []

    before : (j : ℕ) → j < k → bindings_at (program libs main done) j ≡ bindings_at (program libs main new) j
    before j lt = ap (λ (o : Option (List Binding)). unwrap_or o []) (sym (left done part j (omega arith)))

    at_k : bindings_at (program libs main new) k ≡ part
    at_k = ap (λ (o : Option (List Binding)). unwrap_or o []) (last done part k (sym count))

    is_m : (o : Module) → slice_get (modules_of libs main) k ≡ Some o → m ≡ o
    is_m o e = let w : Some m ≡ Some o = sym at ∙ e in cc

    counts_at : (j : ℕ) (o : Module) → slice_get (modules_of libs main) j ≡ Some o → (j ≡ k) ⊎ ((j < k) ⊎ (k < j)) → j < k + 1 → length (bindings_at (program libs main new) j) ≡ length o.imports
    counts_at j o e (inl s) lt =
        ap (λ (i : ℕ). length (bindings_at (program libs main new) i)) s ∙ ap (length {A = Binding}) at_k ∙ here.count
        ∙ ap (λ (z : Module). length z.imports) (is_m o (ap (slice_get (modules_of libs main)) (sym s) ∙ e))
    counts_at j o e (inr (inl s)) lt = ap (length {A = Binding}) (sym (before j s)) ∙ below.counts j o s e
    counts_at j o e (inr (inr s)) lt = absurd (omega arith)

    bound_here : (n : ℕ) (o : Module) (i : Import) (b : Binding) → m ≡ o → slice_get o.imports n ≡ Some i → slice_get (bindings_at (program libs main new) k) n ≡ Some b
        → IsBound (program libs main new) k o i b
    bound_here n o i b s f g =
        subst (λ (z : Module). IsBound (program libs main new) k z i b) s
        (bound_too libs main can.names can.closed done new k m i b before
        (here.bound n i b (ap (λ (z : Module). slice_get z.imports n) s ∙ f) (ap (λ (l : List Binding). slice_get l n) (sym at_k) ∙ g)))

    bound_at : (j n : ℕ) (o : Module) (i : Import) (b : Binding) → slice_get (modules_of libs main) j ≡ Some o → slice_get o.imports n ≡ Some i → slice_get (bindings_at (program libs main new) j) n ≡ Some b
        → (j ≡ k) ⊎ ((j < k) ⊎ (k < j)) → j < k + 1 → IsBound (program libs main new) j o i b
    bound_at j n o i b e f g (inl s) lt =
        subst (λ (z : ℕ). IsBound (program libs main new) z o i b) (sym s)
        (bound_here n o i b (is_m o (ap (slice_get (modules_of libs main)) (sym s) ∙ e)) f (ap (λ (z : ℕ). slice_get (bindings_at (program libs main new) z) n) (sym s) ∙ g))
    bound_at j n o i b e f g (inr (inl s)) lt =
        bound_too libs main can.names can.closed done new j o i b (λ l less. before l (omega arith))
        (below.bound j n o i b s e f (ap (λ (l : List Binding). slice_get l n) (before j s) ∙ g))
    bound_at j n o i b e f g (inr (inr s)) lt = absurd (omega arith)

    pub module_more : AreBound (program libs main new) (k + 1)
    module_more = record {
      counts = λ j o lt e. counts_at j o e (cases_order j k) lt;
      bound = λ j n o i b lt e f g. bound_at j n o i b e f g (cases_order j k) lt;
    }

pub ruleset module_steps = (module_more, no_module_bound, module_count)
