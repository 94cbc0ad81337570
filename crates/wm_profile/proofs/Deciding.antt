-- A module is in the profile exactly where there is no cause against it.
use Rattle.std.proofs.Common.{◌≡◌, ◌↔◌, ℕ, suc, ◌+◌, ◌≤◌, List, [], ◌∷◌, All, position, find, nat_lt, cond, Bool, true, false, ◌||◌, Option, Some, None, option_map, Result, Ok, Err, refl, sym, ◌∙◌}
use Rattle.std.specs.List.{list_any, position_from}
use Rattle.std.specs.Option.{option_or}
use Rattle.std.specs.Result.{result_err, IsOk}
use Rattle.std.proofs.lemmas.Bool.{ltb-false, le-ltb}
use Rattle.std.proofs.lemmas.Iterator.Adapters.{position_from-zero}
use Rattle.std.proofs.lemmas.List.Elements.{All-nil, All-cons, All-head, All-tail}
use Rattle.wm_ast.specs.declared.item.Item.{Item}
use Rattle.wm_ast.specs.declared.item.Item.TheVariants.{Types, Imports, Functions, Globals, Elements, Datas}
use Rattle.wm_ast.specs.declared.module.Import.{Import}
use Rattle.wm_ast.specs.declared.module.Module.{Module}
use Rattle.wm_ast.specs.Profile.{NoItem, has_float_type, has_float_import, has_float_global, has_float_element, has_float_data, has_float_function, HasNoFloat, has_mul64_global, has_mul64_element, has_mul64_data, has_mul64_function, HasNoMul64, Limit, limits, IsKept, is_element_beyond, is_data_beyond, InProfile}
use Rattle.wm_ast.proofs.LimitLaws.{by_name, in_list}
use Rattle.wm_profile.specs.declared.fault.ProfileFault.{ProfileFault}
use Rattle.wm_profile.specs.Cause.{at, first_float, first_mul64, excess_of, first_excess, first_beyond, import_fault, float_at, mul64_at, beyond_at, over, first_fault}

-- nothing is found in either of two ways exactly where nothing is in each
both_none : {A : Type 0} (a b : Option A) → option_or a b ≡ None → (a ≡ None) × (b ≡ None)
both_none None b h = (refl, h)
both_none (Some x) b h = cc

none_then : {A : Type 0} (a b : Option A) → a ≡ None → b ≡ None → option_or a b ≡ None
none_then None b h k = k
none_then (Some x) b h k = cc

none_of_map : {A B : Type 0} (f : A → B) (o : Option A) → option_map f o ≡ None → o ≡ None
none_of_map f None h = refl
none_of_map f (Some x) h = cc

none_at : {A B : Type 0} (f : A → B) (o : Option A) → o ≡ None → option_map f o ≡ None
none_at f None h = refl
none_at f (Some x) h = cc

-- no first item passes the test exactly where none does
skipped : {A : Type 0} (b : Bool) (x : A) (o : Option A) → cond b (Some x) o ≡ None → (b ≡ false) × (o ≡ None)
skipped true x o h = cc
skipped false x o h = (refl, h)

skips : {A : Type 0} (b : Bool) (x : A) (o : Option A) → b ≡ false → o ≡ None → cond b (Some x) o ≡ None
skips true x o h k = cc
skips false x o h k = k

neither : (b c : Bool) → b ≡ false → c ≡ false → (b || c) ≡ false
neither true c h k = cc
neither false c h k = k

each_not : (b c : Bool) → (b || c) ≡ false → (b ≡ false) × (c ≡ false)
each_not true c h = cc
each_not false c h = (refl, h)

none_from : {A : Type 0} (p : A → Bool) (k : ℕ) (xs : List A) → position_from p k xs ≡ None → NoItem p xs
none_from p k [] h = refl
none_from p k (x ∷ xs) h =
    let s = skipped (p x) k (position_from p (k + 1) xs) h in
    neither (p x) (list_any p xs) s.0 (none_from p (k + 1) xs s.1)

from_none : {A : Type 0} (p : A → Bool) (k : ℕ) (xs : List A) → NoItem p xs → position_from p k xs ≡ None
from_none p k [] h = refl
from_none p k (x ∷ xs) h =
    let s = each_not (p x) (list_any p xs) h in
    skips (p x) k (position_from p (k + 1) xs) s.0 (from_none p (k + 1) xs s.1)

no_item : {A : Type 0} (p : A → Bool) (kind : Item) (xs : List A) → at kind (position p xs) ≡ None → NoItem p xs
no_item p kind xs h = none_from p 0 xs (sym (position_from-zero p xs) ∙ none_of_map _ (position p xs) h)

no_first : {A : Type 0} (p : A → Bool) (kind : Item) (xs : List A) → NoItem p xs → at kind (position p xs) ≡ None
no_first p kind xs h = none_at _ (position p xs) (position_from-zero p xs ∙ from_none p 0 xs h)

-- no limit is exceeded exactly where each is kept
kept : (most : ℕ) (counts : List ℕ) → find (nat_lt most) counts ≡ None → All (λ c. c ≤ most) counts
kept most [] h = All-nil (λ c. c ≤ most)
kept most (c ∷ cs) h =
    let s = skipped (nat_lt most c) c (find (nat_lt most) cs) h in
    All-cons (λ n. n ≤ most) c cs (ltb-false most c s.0) (kept most cs s.1)

not_exceeded : (most : ℕ) (counts : List ℕ) → All (λ c. c ≤ most) counts → find (nat_lt most) counts ≡ None
not_exceeded most [] h = refl
not_exceeded most (c ∷ cs) h =
    skips (nat_lt most c) c (find (nat_lt most) cs) (le-ltb most c (All-head (λ n. n ≤ most) c cs h)) (not_exceeded most cs (All-tail (λ n. n ≤ most) c cs h))

all_kept : (n : ℕ) (ls : List Limit) → first_excess n ls ≡ None → All IsKept ls
all_kept n [] h = All-nil IsKept
all_kept n (l ∷ ls) h =
    let s = both_none (excess_of n l) (first_excess (suc n) ls) h in
    All-cons IsKept l ls (kept l.most l.counts (none_of_map _ (find (nat_lt l.most) l.counts) s.0)) (all_kept (suc n) ls s.1)

none_exceeded : (n : ℕ) (ls : List Limit) → All IsKept ls → first_excess n ls ≡ None
none_exceeded n [] h = refl
none_exceeded n (l ∷ ls) h =
    none_then (excess_of n l) (first_excess (suc n) ls) (none_at _ (find (nat_lt l.most) l.counts) (not_exceeded l.most l.counts (All-head IsKept l ls h))) (none_exceeded (suc n) ls (All-tail IsKept l ls h))

-- floats
no_floats : (m : Module) → first_float m ≡ None → HasNoFloat m
no_floats m h =
    let types = both_none (at Types (position has_float_type m.types)) _ h in
    let imports = both_none (at Imports (position has_float_import m.imports)) _ types.1 in
    let globals = both_none (at Globals (position has_float_global m.globals)) _ imports.1 in
    let elements = both_none (at Elements (position has_float_element m.elems)) _ globals.1 in
    let rest = both_none (at Datas (position has_float_data m.datas)) _ elements.1 in
    record {
      types = no_item has_float_type Types m.types types.0;
      imports = no_item has_float_import Imports m.imports imports.0;
      globals = no_item has_float_global Globals m.globals globals.0;
      elements = no_item has_float_element Elements m.elems elements.0;
      datas = no_item has_float_data Datas m.datas rest.0;
      functions = no_item has_float_function Functions m.funcs rest.1;
    }

no_first_float : (m : Module) → HasNoFloat m → first_float m ≡ None
no_first_float m p =
    none_then _ _ (no_first has_float_type Types m.types p.types)
    (none_then _ _ (no_first has_float_import Imports m.imports p.imports)
    (none_then _ _ (no_first has_float_global Globals m.globals p.globals)
    (none_then _ _ (no_first has_float_element Elements m.elems p.elements)
    (none_then _ _ (no_first has_float_data Datas m.datas p.datas) (no_first has_float_function Functions m.funcs p.functions)))))

-- products
no_mul64 : (m : Module) → first_mul64 m ≡ None → HasNoMul64 m
no_mul64 m h =
    let globals = both_none (at Globals (position has_mul64_global m.globals)) _ h in
    let elements = both_none (at Elements (position has_mul64_element m.elems)) _ globals.1 in
    let rest = both_none (at Datas (position has_mul64_data m.datas)) _ elements.1 in
    record {
      globals = no_item has_mul64_global Globals m.globals globals.0;
      elements = no_item has_mul64_element Elements m.elems elements.0;
      datas = no_item has_mul64_data Datas m.datas rest.0;
      functions = no_item has_mul64_function Functions m.funcs rest.1;
    }

no_first_mul64 : (m : Module) → HasNoMul64 m → first_mul64 m ≡ None
no_first_mul64 m p =
    none_then _ _ (no_first has_mul64_global Globals m.globals p.globals)
    (none_then _ _ (no_first has_mul64_element Elements m.elems p.elements)
    (none_then _ _ (no_first has_mul64_data Datas m.datas p.datas) (no_first has_mul64_function Functions m.funcs p.functions)))

-- imports
no_import : (is : List Import) → import_fault is ≡ None → is ≡ []
no_import [] h = refl
no_import (i ∷ is) h = cc

no_import_fault : (is : List Import) → is ≡ [] → import_fault is ≡ None
no_import_fault [] h = refl
no_import_fault (i ∷ is) h = cc

-- the whole
pub in_profile : (m : Module) → first_fault m ≡ None → InProfile m
in_profile m h =
    let imports = both_none (import_fault m.imports) _ h in
    let floats = both_none (option_map float_at (first_float m)) _ imports.1 in
    let products = both_none (option_map mul64_at (first_mul64 m)) _ floats.1 in
    let rest = both_none (option_map over (first_excess 1 (limits m))) _ products.1 in
    let segments = both_none (at Elements (position (is_element_beyond m) m.elems)) _ (none_of_map beyond_at (first_beyond m) rest.1) in
    record {
      no_imports = no_import m.imports imports.0;
      no_floats = no_floats m (none_of_map float_at (first_float m) floats.0);
      no_mul64 = no_mul64 m (none_of_map mul64_at (first_mul64 m) products.0);
      within_limits = by_name m (all_kept 1 (limits m) (none_of_map over (first_excess 1 (limits m)) rest.0));
      no_element_beyond = no_item (is_element_beyond m) Elements m.elems segments.0;
      no_data_beyond = no_item (is_data_beyond m) Datas m.datas segments.1;
    }

pub no_fault : (m : Module) → InProfile m → first_fault m ≡ None
no_fault m p =
    let segments = none_then _ _ (no_first (is_element_beyond m) Elements m.elems p.no_element_beyond) (no_first (is_data_beyond m) Datas m.datas p.no_data_beyond) in
    none_then _ _ (no_import_fault m.imports p.no_imports)
    (none_then _ _ (none_at float_at (first_float m) (no_first_float m p.no_floats))
    (none_then _ _ (none_at mul64_at (first_mul64 m) (no_first_mul64 m p.no_mul64))
    (none_then _ _ (none_at over (first_excess 1 (limits m)) (none_exceeded 1 (limits m) (in_list m p.within_limits))) (none_at beyond_at (first_beyond m) segments))))

-- what tells the first cause is Ok exactly where the module is in the profile
pub decided : {T : Type 0} (m : Module) (r : Result T ProfileFault) → result_err r ≡ first_fault m → IsOk r ↔ InProfile m
decided m (Ok x) e = (λ h. in_profile m (sym e), λ p. refl)
decided m (Err f) e = (λ h. absurd (let t : false ≡ true = h in cc), λ p. absurd (let n : first_fault m ≡ None = no_fault m p in cc))
