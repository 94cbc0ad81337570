-- Directories: exports by their names, and what imports of functions are bound to.
use Rattle.std.proofs.Common.{◌≡◌, ◌⊎◌, inl, inr, ℕ, zero, suc, ◌+◌, ◌-◌, ◌<◌, ◌≤◌, List, [], ◌∷◌, ◌++◌, length, get_or, drop, Bool, true, false, cond, Some, refl, sym, ap, subst, ◌∙◌, arith}
use Rattle.std.specs.Prelude.{slice_get}
use Rattle.std.specs.BTreeMap.{BTreeMap, UpdatesBy, is_at}
use Rattle.std.specs.Cmp.Lexicographic.{slice_cmp}
use Rattle.std.specs.List.{position_from}
use Rattle.std.specs.Map.{lookup}
use Rattle.std.specs.Ordering.{nat_cmp}
use Rattle.std.specs.Str.{bytes_eq}
use Rattle.std.proofs.lemmas.Iterator.Adapters.{position_from-zero}
use Rattle.std.proofs.lemmas.List.{append_assoc, append-nil, drop_more, drop_all, length-append}
use Rattle.std.proofs.lemmas.Map.Text.{is_eq-slice_cmp}
use Rattle.wm_ast.specs.declared.module.Export.{Export}
use Rattle.wm_ast.specs.declared.module.Import.{Import}
use Rattle.wm_ast.specs.declared.module.Module.{Module}
use Rattle.wm_ast.specs.declared.module.Space.TheVariants as spaces
use Rattle.wm_match.specs.declared.directory.Directory.{Directory}
use Rattle.wm_match.specs.declared.library.Binding.{Binding}
use Rattle.wm_match.specs.declared.library.Library.{Library}
use Rattle.wm_match.specs.Program.{modules_of}
use Rattle.wm_match.specs.Space.{is_in, imported_items, own_items}
use Rattle.wm_match.specs.steps.Directories.{named_place, AreNamed, IsDirectory, AreDirectories}
use Rattle.wm_match.proofs.BindLaws.{found_in}
use Rattle.wm_match.proofs.SpaceLaws.{at_import}

-- Names.

-- the exports from this place on are named
abbrev pub NamedFrom : List Export → ℕ → BTreeMap (List ℕ) ℕ → Type 0
NamedFrom es at names = (name : List ℕ) → named_place names name ≡ position_from (λ (e : Export). bytes_eq e.name name) at (drop at es)

pub none_named_yet : (es : List Export) (at : ℕ) (names : BTreeMap (List ℕ) ℕ) → names.entries ≡ [] → length es ≤ at → NamedFrom es at names
none_named_yet es at names e le name =
    ap (lookup (is_at (slice_cmp nat_cmp name))) e ∙ ap (position_from (λ (x : Export). bytes_eq x.name name) at) (sym (drop_all at es le))

pub one_named_more : (es : List Export) (at : ℕ) (e : Export) (k : List ℕ) (old new : BTreeMap (List ℕ) ℕ) → at < length es → e ≡ get_or es at e → k ≡ e.name
    → UpdatesBy (slice_cmp nat_cmp) (slice_cmp nat_cmp k) old new (Some at) → NamedFrom es (at + 1) old → NamedFrom es at new
one_named_more es at e k old new lt is same u h name =
    u.0 name ∙ ap (λ (b : Bool). cond b (Some at) (named_place old name)) (is_eq-slice_cmp k name)
    ∙ ap (λ (t : List ℕ). cond (bytes_eq t name) (Some at) (named_place old name)) same
    ∙ ap (cond (bytes_eq e.name name) (Some at)) (h name)
    ∙ sym (ap (position_from (λ (x : Export). bytes_eq x.name name) at) (drop_more es at e lt ∙ ap (λ (z : Export). z ∷ drop (at + 1) es) (sym is)))

pub all_named : (es : List Export) (names : BTreeMap (List ℕ) ℕ) → NamedFrom es 0 names → AreNamed es names
all_named es names h name = h name ∙ sym (position_from-zero (λ (e : Export). bytes_eq e.name name) es)

-- Functions.

-- what the imports from this place on are bound to stands behind what was found
abbrev pub FunctionsFrom : List Import → List Binding → ℕ → List Binding → Type 0
FunctionsFrom is bs n found = found ++ imported_items spaces.Func (drop n is) (drop n bs) ≡ imported_items spaces.Func is bs

pub function_more : (is : List Import) (bs : List Binding) (n : ℕ) (i : Import) (x : Binding) (found : List Binding) → n < length is → n < length bs → i ≡ get_or is n i → x ≡ get_or bs n x
    → true ≡ is_in spaces.Func i → FunctionsFrom is bs n found → FunctionsFrom is bs (n + 1) (found ++ x ∷ [])
function_more is bs n i x found l m f g e h =
    append_assoc found (x ∷ []) (imported_items spaces.Func (drop (n + 1) is) (drop (n + 1) bs))
    ∙ ap (λ (xs : List Binding). found ++ xs) (sym (at_import spaces.Func [] is bs n i x true l m f g e)) ∙ h

pub function_passed : (is : List Import) (bs : List Binding) (n : ℕ) (i : Import) (x : Binding) (found : List Binding) → n < length is → n < length bs → i ≡ get_or is n i → x ≡ get_or bs n x
    → false ≡ is_in spaces.Func i → FunctionsFrom is bs n found → FunctionsFrom is bs (n + 1) found
function_passed is bs n i x found l m f g e h = ap (λ (xs : List Binding). found ++ xs) (sym (at_import spaces.Func [] is bs n i x false l m f g e)) ∙ h

no_bindings : (is : List Import) → imported_items spaces.Func is [] ≡ []
no_bindings [] = refl
no_bindings (i ∷ is) = refl

pub functions_all : (is : List Import) (bs : List Binding) (n : ℕ) (found : List Binding) → length is ≤ n → FunctionsFrom is bs n found → found ≡ imported_items spaces.Func is bs
functions_all is bs n found le h =
    sym (append-nil found) ∙ ap (λ (xs : List Import). found ++ imported_items spaces.Func xs (drop n bs)) (sym (drop_all n is le)) ∙ h

pub functions_bound : (is : List Import) (bs : List Binding) (n : ℕ) (found : List Binding) → length bs ≤ n → FunctionsFrom is bs n found → found ≡ imported_items spaces.Func is bs
functions_bound is bs n found le h =
    sym (append-nil found) ∙ ap (λ (xs : List Binding). found ++ xs) (sym (no_bindings (drop n is)))
    ∙ ap (λ (xs : List Binding). found ++ imported_items spaces.Func (drop n is) xs) (sym (drop_all n bs le)) ∙ h

-- What an index stands for.

in_first : {A : Type 0} (xs ys : List A) (n : ℕ) → n < length xs → slice_get (xs ++ ys) n ≡ slice_get xs n
in_first [] ys n lt = absurd (omega arith)
in_first (x ∷ xs) ys zero lt = refl
in_first (x ∷ xs) ys (suc n) lt = in_first xs ys n (omega arith)

in_second : {A : Type 0} (xs ys : List A) (n : ℕ) → length xs ≤ n → slice_get (xs ++ ys) n ≡ slice_get ys (n - length xs)
in_second [] ys n le = let e : n ≡ n - 0 = omega arith in ap (slice_get ys) e
in_second (x ∷ xs) ys zero le = absurd (omega arith)
in_second (x ∷ xs) ys (suc n) le = let e : n - length xs ≡ suc n - suc (length xs) = omega arith in in_second xs ys n (omega arith) ∙ ap (slice_get ys) e

there : {A : Type 0} (xs : List A) (n : ℕ) (x : A) → n < length xs → x ≡ get_or xs n x → slice_get xs n ≡ Some x
there [] n x lt e = absurd (omega arith)
there (y ∷ xs) zero x lt e = ap Some (sym e)
there (y ∷ xs) (suc n) x lt e = there xs n x (omega arith) e

pub imported_one : (functions : List Binding) (k own n : ℕ) (b : Binding) → n < length functions → b ≡ get_or functions n b → Some b ≡ slice_get (functions ++ own_items k 0 own) n
imported_one functions k own n b lt e = sym (in_first functions (own_items k 0 own) n lt ∙ there functions n b lt e)

pub own_one : (functions : List Binding) (k own n : ℕ) → length functions ≤ n → slice_get (own_items k 0 own) (n - length functions) ≡ slice_get (functions ++ own_items k 0 own) n
own_one functions k own n le = sym (in_second functions (own_items k 0 own) n le)

-- Directories of all modules.

module _ (libs : List Library) (main : Module) where
  pub no_directories : AreDirectories libs main [] []
  no_directories = record { count = refl; each = λ j m part d at e f. absurd cc }

  pub directories_more : (done : List (List Binding)) (ds : List Directory) (k : ℕ) (m : Module) (part : List Binding) (d : Directory) → length done ≡ k → slice_get (modules_of libs main) k ≡ Some m
      → IsDirectory m part d → AreDirectories libs main done ds → AreDirectories libs main (done ++ part ∷ []) (ds ++ d ∷ [])
  directories_more done ds k m part d count at is h = record {
    count = length-append ds (d ∷ []) ∙ ap (λ (n : ℕ). n + 1) h.count ∙ sym (length-append done (part ∷ []));
    each = λ j n p e there f g. by_place j n p e there (found_in done part p j f) (found_in ds d e j g);
  }
    where
      by_place : (j : ℕ) (n : Module) (p : List Binding) (e : Directory) → slice_get (modules_of libs main) j ≡ Some n
          → ((j < length done) × (slice_get done j ≡ Some p)) ⊎ ((j ≡ length done) × (part ≡ p)) → ((j < length ds) × (slice_get ds j ≡ Some e)) ⊎ ((j ≡ length ds) × (d ≡ e)) → IsDirectory n p e
      by_place j n p e at' (inl f) (inl g) = h.each j n p e at' f.1 g.1
      by_place j n p e at' (inl f) (inr g) = let c = h.count in let a = f.0 in let b = g.0 in absurd (omega arith)
      by_place j n p e at' (inr f) (inl g) = let c = h.count in let a = f.0 in let b = g.0 in absurd (omega arith)
      by_place j n p e at' (inr f) (inr g) =
          let w : Some m ≡ Some n = sym at ∙ ap (slice_get (modules_of libs main)) (sym count ∙ sym f.0) ∙ at' in
          let s : m ≡ n = cc in
          subst (λ (z : Module). IsDirectory z p e) s (subst (λ (z : List Binding). IsDirectory m z e) f.1 (subst (λ (z : Directory). IsDirectory m part z) g.1 is))

  -- the directory that is read
  pub directory_read : (done : List (List Binding)) (ds : List Directory) (j : ℕ) (m : Module) (part : List Binding) (d : Directory) → AreDirectories libs main done ds → j < length done
      → slice_get (modules_of libs main) j ≡ Some m → part ≡ get_or done j part → d ≡ get_or ds j d → IsDirectory m part d
  directory_read done ds j m part d h lt at e f =
      let c = h.count in
      h.each j m part d at (there done j part lt e) (there ds j d (omega arith) f)

pub ruleset named_steps = (none_named_yet, all_named)

pub ruleset function_steps = (functions_all, functions_bound)

pub ruleset directory_steps = (no_directories, directories_more)
