-- Of the answers of `resolve`, one at most is true of the same modules.
use Rattle.std.proofs.Common.{◌≡◌, ◌≢◌, ◌⊎◌, inl, inr, ℕ, zero, suc, ◌+◌, ◌<◌, ◌≤◌, List, [], ◌∷◌, length, take, All, Some, Result, Ok, Err, refl, sym, ap, ap₂, subst, ◌∙◌, arith}
use Rattle.std.specs.Prelude.{slice_get, IfErr}
use Rattle.std.proofs.lemmas.Bool.{cases_order}
use Rattle.std.proofs.lemmas.Option.{get_or_from_slice_get, slice_get_within}
use Rattle.wm_ast.specs.declared.module.Import.{Import}
use Rattle.wm_ast.specs.declared.module.Module.{Module}
use Rattle.wm_ast.specs.declared.module.Space.{Space}
use Rattle.wm_ast.specs.declared.module.Space.TheVariants as spaces
use Rattle.wm_match.specs.declared.fault.MatchFault.{MatchFault}
use Rattle.wm_match.specs.declared.fault.MatchFault.TheVariants as faults
use Rattle.wm_match.specs.declared.fault.Single.{Single}
use Rattle.wm_match.specs.declared.fault.Single.TheVariants as singles
use Rattle.wm_match.specs.declared.library.Binding.{Binding}
use Rattle.wm_match.specs.declared.library.Library.{Library}
use Rattle.wm_match.specs.Binds.{IsFound, IsBound, AreBound, NamesDiffer, IsNoGlobal, ImportsNoGlobal, HasNoStart, CanBeBound, defined}
use Rattle.wm_match.specs.Cause.{IsFirst, IsFirstPlace, program, HasSameName, HasStart, IsImport, ImportsGlobal, IsNotClosed, AreBoundTo, IsUnknown, IsMismatch, DefinesSecond, IsSecond, IsCause, IsResolved}
use Rattle.wm_match.specs.Closed.{Closed}
use Rattle.wm_match.specs.Program.{modules_of, bindings_at}
use Rattle.wm_match.specs.Space.{own_count}
use Rattle.wm_match.proofs.OneLaws.{at_place, found_below, fewer, bound_too, parts_alike, one_way}

-- first ones are one
one_first : (P : ℕ → Type 0) (j k : ℕ) → IsFirst P j → IsFirst P k → j ≡ k
one_first P j k p q = by_order (cases_order j k)
  where
    by_order : (j ≡ k) ⊎ ((j < k) ⊎ (k < j)) → j ≡ k
    by_order (inl h) = h
    by_order (inr (inl h)) = absurd (q.1 j h p.0)
    by_order (inr (inr h)) = absurd (p.1 k h q.0)

one_second : (P : ℕ → ℕ → Type 0) (j i k n : ℕ) → j ≡ k → IsFirstPlace P j i → IsFirstPlace P k n → i ≡ n
one_second P j i k n e p q = by_order (cases_order i n)
  where
    by_order : (i ≡ n) ⊎ ((i < n) ⊎ (n < i)) → i ≡ n
    by_order (inl h) = h
    by_order (inr (inl h)) = absurd (q.2 i h (subst (λ (z : ℕ). P z i) e p.0))
    by_order (inr (inr h)) = absurd (p.2 n h (subst (λ (z : ℕ). P z n) (sym e) q.0))

one_first_place : (P : ℕ → ℕ → Type 0) (j i k n : ℕ) → IsFirstPlace P j i → IsFirstPlace P k n → j ≡ k
one_first_place P j i k n p q = by_order (cases_order j k)
  where
    by_order : (j ≡ k) ⊎ ((j < k) ⊎ (k < j)) → j ≡ k
    by_order (inl h) = h
    by_order (inr (inl h)) = absurd (q.1 j i h p.0)
    by_order (inr (inr h)) = absurd (p.1 k n h q.0)

module _ (libraries : List Library) (main : Module) where
  -- Where a pass found nothing, its cause isn't there.

  no_same_name : NamesDiffer libraries → (k : ℕ) → HasSameName libraries k → ⊥
  no_same_name names k h =
      let a = get_or_from_slice_get libraries k h.library h.library h.there in
      let b = get_or_from_slice_get libraries h.number h.other h.library h.other_there in
      names h.number k h.library h.earlier (slice_get_within libraries k h.library h.there)
      (ap (λ (l : Library). l.name) b ∙ h.same ∙ sym (ap (λ (l : Library). l.name) a))

  no_global : All ImportsNoGlobal (modules_of libraries main) → (k n : ℕ) → ImportsGlobal libraries main k n → ⊥
  no_global none k n h =
      at_place IsNoGlobal h.importer.imports n h.item
      (at_place ImportsNoGlobal (modules_of libraries main) k h.importer none h.imports.there) h.imports.imported h.global

  no_open : All Closed (modules_of libraries main) → (k : ℕ) → IsNotClosed libraries main k → ⊥
  no_open closed k h = h.not_closed (at_place Closed (modules_of libraries main) k h.found closed h.there)

  no_start : All HasNoStart libraries → (k : ℕ) → HasStart libraries k → ⊥
  no_start none k h = h.start (at_place HasNoStart libraries k h.library none h.there)

  -- Imports that are bound.

  -- the binding that an import has
  its_binding : (cs : List (List Binding)) (j k n : ℕ) (m : Module) (i : Import) → k < j → AreBound (program libraries main cs) j → IsImport libraries main k n m i
      → (b : Binding) × IsBound (program libraries main cs) k m i b
  its_binding cs j k n m i lt c at =
      let l = c.counts k m lt at.there in
      let w = slice_get_within m.imports n i at.imported in
      let b = found_below (bindings_at (program libraries main cs) k) n (omega arith) in
      (b.0, c.bound k n m i b.0 lt at.there at.imported b.1)

  no_unknown : (cs : List (List Binding)) (j k n : ℕ) → k < j → AreBound (program libraries main cs) j → IsUnknown libraries main k n → ⊥
  no_unknown cs j k n lt c h = let b = its_binding cs j k n h.importer h.item lt c h.imports in h.unknown b.1.found

  -- the parts of modules below both
  alike : CanBeBound libraries main → (cs bs : List (List Binding)) (j k : ℕ) → k ≤ j → k ≤ length (modules_of libraries main)
      → AreBound (program libraries main cs) j → AreBound (program libraries main bs) k
      → (l : ℕ) → l < k → bindings_at (program libraries main cs) l ≡ bindings_at (program libraries main bs) l
  alike can cs bs j k le within c b = parts_alike libraries main can.names can.closed cs bs k (fewer (program libraries main cs) k j le c) b within

  no_mismatch : CanBeBound libraries main → (cs : List (List Binding)) (j k n : ℕ) → k < j → AreBound (program libraries main cs) j → IsMismatch libraries main k n → ⊥
  no_mismatch can cs j k n lt c h =
      let b = its_binding cs j k n h.importer h.item lt c h.imports in
      let within = slice_get_within (modules_of libraries main) k h.importer h.imports.there in
      h.unbound b.0
      (bound_too libraries main can.names can.closed cs h.bindings k h.importer h.item b.0
      (alike can cs h.bindings j k (omega arith) (omega arith) c h.below) b.1)

  -- an import of the same module, at an earlier place

  one_module : (k : ℕ) (m o : Module) → slice_get (modules_of libraries main) k ≡ Some m → slice_get (modules_of libraries main) k ≡ Some o → m ≡ o
  one_module k m o e f = let w : Some m ≡ Some o = sym e ∙ f in cc

  bound_before : (cs : List (List Binding)) (part : List Binding) (k n l : ℕ) (m o : Module) (i : Import) → n < l → AreBoundTo libraries main (program libraries main cs) k l o part
      → slice_get (modules_of libraries main) k ≡ Some o → IsImport libraries main k n m i → (b : Binding) × IsBound (program libraries main cs) k m i b
  bound_before cs part k n l m o i lt before e at =
      let w = before.count in
      let b = found_below part n (omega arith) in
      let s : m ≡ o = one_module k m o at.there e in (
        b.0,
        subst (λ (z : Module). IsBound (program libraries main cs) k z i b.0) (sym s)
            (before.bound n i b.0 (subst (λ (z : Module). slice_get z.imports n ≡ Some i) s at.imported) b.1),
      )

  unknown_before : (cs : List (List Binding)) (part : List Binding) (k n l : ℕ) (o : Module) → n < l → AreBoundTo libraries main (program libraries main cs) k l o part
      → slice_get (modules_of libraries main) k ≡ Some o → IsUnknown libraries main k n → ⊥
  unknown_before cs part k n l o lt before e h = let b = bound_before cs part k n l h.importer o h.item lt before e h.imports in h.unknown b.1.found

  mismatch_before : CanBeBound libraries main → (cs : List (List Binding)) (part : List Binding) (k n l : ℕ) (o : Module) → n < l → AreBound (program libraries main cs) k
      → AreBoundTo libraries main (program libraries main cs) k l o part → slice_get (modules_of libraries main) k ≡ Some o → IsMismatch libraries main k n → ⊥
  mismatch_before can cs part k n l o lt below before e h =
      let b = bound_before cs part k n l h.importer o h.item lt before e h.imports in
      let within = slice_get_within (modules_of libraries main) k o e in
      h.unbound b.0
      (bound_too libraries main can.names can.closed cs h.bindings k h.importer h.item b.0
      (alike can cs h.bindings k k (omega arith) (omega arith) below h.below) b.1)

  -- Imports that aren't bound.

  -- what is known of the place of such an import
  record Place (k n : ℕ) : Type 0 where
    importer : Module
    there : slice_get (modules_of libraries main) k ≡ Some importer
    bindings : List (List Binding)
    below : AreBound (program libraries main bindings) k
    part : List Binding
    before : AreBoundTo libraries main (program libraries main bindings) k n importer part

  place_unknown : (k n : ℕ) → IsUnknown libraries main k n → Place k n
  place_unknown k n h = record { importer = h.importer; there = h.imports.there; bindings = h.bindings; below = h.below; part = h.part; before = h.before }

  place_mismatch : (k n : ℕ) → IsMismatch libraries main k n → Place k n
  place_mismatch k n h = record { importer = h.importer; there = h.imports.there; bindings = h.bindings; below = h.below; part = h.part; before = h.before }

  -- an import before such a place isn't one
  unknown_comes_first : (j i k n : ℕ) → (j < k) ⊎ ((j ≡ k) × (i < n)) → IsUnknown libraries main j i → Place k n → ⊥
  unknown_comes_first j i k n (inl lt) h p = no_unknown p.bindings k j i lt p.below h
  unknown_comes_first j i k n (inr s) h p =
      unknown_before p.bindings p.part k i n p.importer s.1 p.before p.there (subst (λ (z : ℕ). IsUnknown libraries main z i) s.0 h)

  mismatch_comes_first : CanBeBound libraries main → (j i k n : ℕ) → (j < k) ⊎ ((j ≡ k) × (i < n)) → IsMismatch libraries main j i → Place k n → ⊥
  mismatch_comes_first can j i k n (inl lt) h p = no_mismatch can p.bindings k j i lt p.below h
  mismatch_comes_first can j i k n (inr s) h p =
      mismatch_before can p.bindings p.part k i n p.importer s.1 p.below p.before p.there (subst (λ (z : ℕ). IsMismatch libraries main z i) s.0 h)

  -- two places: one is before the other one, or they are one
  places : (j i k n : ℕ) → ((j ≡ k) × (i ≡ n)) ⊎ (((j < k) ⊎ ((j ≡ k) × (i < n))) ⊎ ((k < j) ⊎ ((k ≡ j) × (n < i))))
  places j i k n = by_module (cases_order j k)
    where
      by_import : j ≡ k → (i ≡ n) ⊎ ((i < n) ⊎ (n < i)) → ((j ≡ k) × (i ≡ n)) ⊎ (((j < k) ⊎ ((j ≡ k) × (i < n))) ⊎ ((k < j) ⊎ ((k ≡ j) × (n < i))))
      by_import e (inl h) = inl (e, h)
      by_import e (inr (inl h)) = inr (inl (inr (e, h)))
      by_import e (inr (inr h)) = inr (inr (inr (sym e, h)))

      by_module : (j ≡ k) ⊎ ((j < k) ⊎ (k < j)) → ((j ≡ k) × (i ≡ n)) ⊎ (((j < k) ⊎ ((j ≡ k) × (i < n))) ⊎ ((k < j) ⊎ ((k ≡ j) × (n < i))))
      by_module (inl e) = by_import e (cases_order i n)
      by_module (inr (inl h)) = inr (inl (inl h))
      by_module (inr (inr h)) = inr (inr (inl h))

  -- Second ones.

  sum_take : (s : Space) (ms : List Module) (k : ℕ) (m : Module) → slice_get ms k ≡ Some m → defined s (take k ms) + own_count s m ≤ defined s ms
  sum_take s [] k m e = absurd cc
  sum_take s (x ∷ ms) zero m e = let w : Some x ≡ Some m = e in let y : x ≡ m = cc in let z = ap (own_count s) y in omega arith
  sum_take s (x ∷ ms) (suc k) m e = let i = sum_take s ms k m e in omega arith

  no_second : (s : Space) → defined s (modules_of libraries main) ≤ 1 → (k : ℕ) → DefinesSecond libraries main s k → ⊥
  no_second s le k h =
      let i = sum_take s (modules_of libraries main) k h.found h.there in
      let a = h.own in
      let b = h.earlier in
      absurd (omega arith)

  -- The answers.

  -- want of memory aside
  abbrev pub IsTold : MatchFault → Type 0
  IsTold faults.Memory = ⊥
  IsTold _ = Unit {0}

  second_alike : (k j : ℕ) (s o : Single) → IsSecond libraries main s k → IsSecond libraries main o j → faults.Second k s ≡ faults.Second j o
  second_alike k j singles.Memory singles.Memory h g = ap (λ (z : ℕ). faults.Second z singles.Memory) (one_first (DefinesSecond libraries main spaces.Memory) k j h g)
  second_alike k j singles.Table singles.Table h g = ap (λ (z : ℕ). faults.Second z singles.Table) (one_first (DefinesSecond libraries main spaces.Table) k j h.1 g.1)
  second_alike k j singles.Memory singles.Table h g = absurd (no_second spaces.Memory g.0 k h.0)
  second_alike k j singles.Table singles.Memory h g = absurd (no_second spaces.Memory h.0 j g.0)

  none_second : (s : Single) (k : ℕ) → defined spaces.Memory (modules_of libraries main) ≤ 1 → defined spaces.Table (modules_of libraries main) ≤ 1 → IsSecond libraries main s k → ⊥
  none_second singles.Memory k a b h = no_second spaces.Memory a k h.0
  none_second singles.Table k a b h = no_second spaces.Table b k h.1.0

  -- the number of a module is below the number of modules
  within : (k n : ℕ) → Place k n → k < length (modules_of libraries main)
  within k n p = slice_get_within (modules_of libraries main) k p.importer p.there

  -- two imports that aren't bound are one
  unknown_alike : CanBeBound libraries main → (k n j i : ℕ) → IsUnknown libraries main k n → IsUnknown libraries main j i → faults.Unknown k n ≡ faults.Unknown j i
  unknown_alike can k n j i h g = by_place (places k n j i)
    where
      by_place : ((k ≡ j) × (n ≡ i)) ⊎ (((k < j) ⊎ ((k ≡ j) × (n < i))) ⊎ ((j < k) ⊎ ((j ≡ k) × (i < n)))) → faults.Unknown k n ≡ faults.Unknown j i
      by_place (inl e) = ap₂ (λ (x y : ℕ). faults.Unknown x y) e.0 e.1
      by_place (inr (inl b)) = absurd (unknown_comes_first k n j i b h (place_unknown j i g))
      by_place (inr (inr b)) = absurd (unknown_comes_first j i k n b g (place_unknown k n h))

  mismatch_alike : CanBeBound libraries main → (k n j i : ℕ) → IsMismatch libraries main k n → IsMismatch libraries main j i → faults.Mismatch k n ≡ faults.Mismatch j i
  mismatch_alike can k n j i h g = by_place (places k n j i)
    where
      by_place : ((k ≡ j) × (n ≡ i)) ⊎ (((k < j) ⊎ ((k ≡ j) × (n < i))) ⊎ ((j < k) ⊎ ((j ≡ k) × (i < n)))) → faults.Mismatch k n ≡ faults.Mismatch j i
      by_place (inl e) = ap₂ (λ (x y : ℕ). faults.Mismatch x y) e.0 e.1
      by_place (inr (inl b)) = absurd (mismatch_comes_first can k n j i b h (place_mismatch j i g))
      by_place (inr (inr b)) = absurd (mismatch_comes_first can j i k n b g (place_mismatch k n h))

  same_import : (k n : ℕ) (m o : Module) (x y : Import) → IsImport libraries main k n m x → IsImport libraries main k n o y → x ≡ y
  same_import k n m o x y a b =
      let s = one_module k m o a.there b.there in
      let w : Some x ≡ Some y = sym a.imported ∙ ap (λ (z : Module). slice_get z.imports n) s ∙ b.imported in
      cc

  unknown_or_mismatch : CanBeBound libraries main → (k n j i : ℕ) → IsUnknown libraries main k n → IsMismatch libraries main j i → ⊥
  unknown_or_mismatch can k n j i h g = by_place (places k n j i)
    where
      by_place : ((k ≡ j) × (n ≡ i)) ⊎ (((k < j) ⊎ ((k ≡ j) × (n < i))) ⊎ ((j < k) ⊎ ((j ≡ k) × (i < n)))) → ⊥
      by_place (inl e) =
          let at : IsImport libraries main k n g.importer g.item = subst (λ (z : ℕ). IsImport libraries main z n g.importer g.item) (sym e.0) (subst (λ (z : ℕ). IsImport libraries main j z g.importer g.item) (sym e.1) g.imports) in
          let s = same_import k n h.importer g.importer h.item g.item h.imports at in
          h.unknown (subst (λ (z : Import). IsFound libraries k z) (sym s) (subst (λ (z : ℕ). IsFound libraries z g.item) (sym e.0) g.found))
      by_place (inr (inl b)) = unknown_comes_first k n j i b h (place_mismatch j i g)
      by_place (inr (inr b)) = mismatch_comes_first can j i k n b g (place_unknown k n h)

  -- a cause and any other answer
  by_cause : (f : MatchFault) (r : Result (List (List Binding)) MatchFault) → IsCause libraries main f → IsTold f → IsResolved libraries main r → IfErr r IsTold → Err f ≡ r
  by_cause (faults.SameName k) (Err (faults.SameName j)) c t h u = ap (λ (z : ℕ). Err (faults.SameName z)) (one_first (HasSameName libraries) k j c h)
  by_cause (faults.SameName k) (Err (faults.GlobalImport j i)) c t h u = absurd (no_same_name h.0 k c.0)
  by_cause (faults.SameName k) (Err (faults.NotClosed j)) c t h u = absurd (no_same_name h.0 k c.0)
  by_cause (faults.SameName k) (Err (faults.Start j)) c t h u = absurd (no_same_name h.0 k c.0)
  by_cause (faults.SameName k) (Err (faults.Unknown j i)) c t h u = absurd (no_same_name h.0.names k c.0)
  by_cause (faults.SameName k) (Err (faults.Mismatch j i)) c t h u = absurd (no_same_name h.0.names k c.0)
  by_cause (faults.SameName k) (Err (faults.Second j other)) c t h u = absurd (no_same_name h.0.names k c.0)
  by_cause (faults.SameName k) (Ok bs) c t h u = absurd (no_same_name h.can.names k c.0)
  by_cause (faults.SameName k) (Err faults.Memory) c t h u = absurd u
  by_cause (faults.GlobalImport k n) (Err (faults.SameName j)) c t h u = absurd (no_same_name c.0 j h.0)
  by_cause (faults.GlobalImport k n) (Err (faults.GlobalImport j i)) c t h u = let e = one_first_place (ImportsGlobal libraries main) k n j i c.1 h.1 in ap₂ (λ (x y : ℕ). Err (faults.GlobalImport x y)) e (one_second (ImportsGlobal libraries main) k n j i e c.1 h.1)
  by_cause (faults.GlobalImport k n) (Err (faults.NotClosed j)) c t h u = absurd (no_global h.1 k n c.1.0)
  by_cause (faults.GlobalImport k n) (Err (faults.Start j)) c t h u = absurd (no_global h.1 k n c.1.0)
  by_cause (faults.GlobalImport k n) (Err (faults.Unknown j i)) c t h u = absurd (no_global h.0.no_global k n c.1.0)
  by_cause (faults.GlobalImport k n) (Err (faults.Mismatch j i)) c t h u = absurd (no_global h.0.no_global k n c.1.0)
  by_cause (faults.GlobalImport k n) (Err (faults.Second j other)) c t h u = absurd (no_global h.0.no_global k n c.1.0)
  by_cause (faults.GlobalImport k n) (Ok bs) c t h u = absurd (no_global h.can.no_global k n c.1.0)
  by_cause (faults.GlobalImport k n) (Err faults.Memory) c t h u = absurd u
  by_cause (faults.NotClosed k) (Err (faults.SameName j)) c t h u = absurd (no_same_name c.0 j h.0)
  by_cause (faults.NotClosed k) (Err (faults.GlobalImport j i)) c t h u = absurd (no_global c.1 j i h.1.0)
  by_cause (faults.NotClosed k) (Err (faults.NotClosed j)) c t h u = ap (λ (z : ℕ). Err (faults.NotClosed z)) (one_first (IsNotClosed libraries main) k j c.2 h.2)
  by_cause (faults.NotClosed k) (Err (faults.Start j)) c t h u = absurd (no_open h.2 k c.2.0)
  by_cause (faults.NotClosed k) (Err (faults.Unknown j i)) c t h u = absurd (no_open h.0.closed k c.2.0)
  by_cause (faults.NotClosed k) (Err (faults.Mismatch j i)) c t h u = absurd (no_open h.0.closed k c.2.0)
  by_cause (faults.NotClosed k) (Err (faults.Second j other)) c t h u = absurd (no_open h.0.closed k c.2.0)
  by_cause (faults.NotClosed k) (Ok bs) c t h u = absurd (no_open h.can.closed k c.2.0)
  by_cause (faults.NotClosed k) (Err faults.Memory) c t h u = absurd u
  by_cause (faults.Start k) (Err (faults.SameName j)) c t h u = absurd (no_same_name c.0 j h.0)
  by_cause (faults.Start k) (Err (faults.GlobalImport j i)) c t h u = absurd (no_global c.1 j i h.1.0)
  by_cause (faults.Start k) (Err (faults.NotClosed j)) c t h u = absurd (no_open c.2 j h.2.0)
  by_cause (faults.Start k) (Err (faults.Start j)) c t h u = ap (λ (z : ℕ). Err (faults.Start z)) (one_first (HasStart libraries) k j c.3 h.3)
  by_cause (faults.Start k) (Err (faults.Unknown j i)) c t h u = absurd (no_start h.0.no_start k c.3.0)
  by_cause (faults.Start k) (Err (faults.Mismatch j i)) c t h u = absurd (no_start h.0.no_start k c.3.0)
  by_cause (faults.Start k) (Err (faults.Second j other)) c t h u = absurd (no_start h.0.no_start k c.3.0)
  by_cause (faults.Start k) (Ok bs) c t h u = absurd (no_start h.can.no_start k c.3.0)
  by_cause (faults.Start k) (Err faults.Memory) c t h u = absurd u
  by_cause (faults.Unknown k n) (Err (faults.SameName j)) c t h u = absurd (no_same_name c.0.names j h.0)
  by_cause (faults.Unknown k n) (Err (faults.GlobalImport j i)) c t h u = absurd (no_global c.0.no_global j i h.1.0)
  by_cause (faults.Unknown k n) (Err (faults.NotClosed j)) c t h u = absurd (no_open c.0.closed j h.2.0)
  by_cause (faults.Unknown k n) (Err (faults.Start j)) c t h u = absurd (no_start c.0.no_start j h.3.0)
  by_cause (faults.Unknown k n) (Err (faults.Unknown j i)) c t h u = ap (λ (z : MatchFault). Err z) (unknown_alike c.0 k n j i c.1 h.1)
  by_cause (faults.Unknown k n) (Err (faults.Mismatch j i)) c t h u = absurd (unknown_or_mismatch c.0 k n j i c.1 h.1)
  by_cause (faults.Unknown k n) (Err (faults.Second j other)) c t h u = absurd (no_unknown h.1.0 (length (modules_of libraries main)) k n (within k n (place_unknown k n c.1)) h.1.1 c.1)
  by_cause (faults.Unknown k n) (Ok bs) c t h u = absurd (no_unknown bs (length (modules_of libraries main)) k n (within k n (place_unknown k n c.1)) h.bound c.1)
  by_cause (faults.Unknown k n) (Err faults.Memory) c t h u = absurd u
  by_cause (faults.Mismatch k n) (Err (faults.SameName j)) c t h u = absurd (no_same_name c.0.names j h.0)
  by_cause (faults.Mismatch k n) (Err (faults.GlobalImport j i)) c t h u = absurd (no_global c.0.no_global j i h.1.0)
  by_cause (faults.Mismatch k n) (Err (faults.NotClosed j)) c t h u = absurd (no_open c.0.closed j h.2.0)
  by_cause (faults.Mismatch k n) (Err (faults.Start j)) c t h u = absurd (no_start c.0.no_start j h.3.0)
  by_cause (faults.Mismatch k n) (Err (faults.Unknown j i)) c t h u = absurd (unknown_or_mismatch c.0 j i k n h.1 c.1)
  by_cause (faults.Mismatch k n) (Err (faults.Mismatch j i)) c t h u = ap (λ (z : MatchFault). Err z) (mismatch_alike c.0 k n j i c.1 h.1)
  by_cause (faults.Mismatch k n) (Err (faults.Second j other)) c t h u = absurd (no_mismatch c.0 h.1.0 (length (modules_of libraries main)) k n (within k n (place_mismatch k n c.1)) h.1.1 c.1)
  by_cause (faults.Mismatch k n) (Ok bs) c t h u = absurd (no_mismatch c.0 bs (length (modules_of libraries main)) k n (within k n (place_mismatch k n c.1)) h.bound c.1)
  by_cause (faults.Mismatch k n) (Err faults.Memory) c t h u = absurd u
  by_cause (faults.Second k space) (Err (faults.SameName j)) c t h u = absurd (no_same_name c.0.names j h.0)
  by_cause (faults.Second k space) (Err (faults.GlobalImport j i)) c t h u = absurd (no_global c.0.no_global j i h.1.0)
  by_cause (faults.Second k space) (Err (faults.NotClosed j)) c t h u = absurd (no_open c.0.closed j h.2.0)
  by_cause (faults.Second k space) (Err (faults.Start j)) c t h u = absurd (no_start c.0.no_start j h.3.0)
  by_cause (faults.Second k space) (Err (faults.Unknown j i)) c t h u = absurd (no_unknown c.1.0 (length (modules_of libraries main)) j i (within j i (place_unknown j i h.1)) c.1.1 h.1)
  by_cause (faults.Second k space) (Err (faults.Mismatch j i)) c t h u = absurd (no_mismatch c.0 c.1.0 (length (modules_of libraries main)) j i (within j i (place_mismatch j i h.1)) c.1.1 h.1)
  by_cause (faults.Second k space) (Err (faults.Second j other)) c t h u = ap (λ (z : MatchFault). Err z) (second_alike k j space other c.2 h.2)
  by_cause (faults.Second k space) (Ok bs) c t h u = absurd (none_second space k h.one_memory h.one_table c.2)
  by_cause (faults.Second k space) (Err faults.Memory) c t h u = absurd u
  by_cause faults.Memory r c t h u = absurd t

  pub one_answer : (r s : Result (List (List Binding)) MatchFault) → IsResolved libraries main r → IsResolved libraries main s → IfErr r IsTold → IfErr s IsTold → r ≡ s
  one_answer (Err f) s h g t u = by_cause f s h t g u
  one_answer (Ok bs) (Err f) h g t u = sym (by_cause f (Ok bs) g u h t)
  one_answer (Ok bs) (Ok cs) h g t u = ap (λ (z : List (List Binding)). Ok z) (one_way libraries main bs cs h g)

  pub told : (r : Result (List (List Binding)) MatchFault) → IfErr r (λ f. f ≢ faults.Memory) → IfErr r IsTold
  told (Ok bs) h = tt
  told (Err f) h = by_fault f h
    where
      by_fault : (f : MatchFault) → f ≢ faults.Memory → IsTold f
      by_fault (faults.SameName k) h = tt
      by_fault (faults.GlobalImport k n) h = tt
      by_fault (faults.NotClosed k) h = tt
      by_fault (faults.Start k) h = tt
      by_fault (faults.Unknown k n) h = tt
      by_fault (faults.Mismatch k n) h = tt
      by_fault (faults.Second k space) h = tt
      by_fault faults.Memory h = h refl
