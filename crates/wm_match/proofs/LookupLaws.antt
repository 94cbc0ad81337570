-- The look-up of an import.
use Rattle.std.proofs.Common.{◌≡◌, ◌≢◌, ℕ, ◌<◌, ◌≤◌, List, [], length, get_or, true, false, Option, Some, None, sym, ap, ap₂, subst, ◌∙◌, arith}
use Rattle.std.specs.Prelude.{slice_get, unwrap_or, option_and_then, Contains, position}
use Rattle.std.specs.Str.{bytes_eq}
use Rattle.std.proofs.lemmas.Option.{slice_get_within, get_or_from_slice_get, slice_get-get_or}
use Rattle.wm_ast.specs.declared.module.Export.{Export}
use Rattle.wm_ast.specs.declared.module.Import.{Import}
use Rattle.wm_ast.specs.declared.module.Imported.{Imported}
use Rattle.wm_ast.specs.declared.module.Imported.TheVariants as imported
use Rattle.wm_ast.specs.declared.module.Module.{Module}
use Rattle.wm_match.specs.declared.library.Binding.{Binding}
use Rattle.wm_match.specs.declared.library.Library.{Library}
use Rattle.wm_match.specs.declared.lookup.Lookup.{Lookup}
use Rattle.wm_match.specs.declared.lookup.Lookup.TheVariants as lookups
use Rattle.wm_match.specs.Binds.{IsFound, Matches, CanBeBound}
use Rattle.wm_match.specs.Cause.{program}
use Rattle.wm_match.specs.Program.{Program, bindings_at}
use Rattle.wm_match.specs.Space.{space_of, same_space, is_in, items_of, stands_for}
use Rattle.wm_match.specs.steps.Checking.{IsLookup, IsLookupIn}
use Rattle.wm_match.proofs.NamingLaws.{first_named, before_named, none_named}
use Rattle.wm_match.proofs.SpaceLaws.{same_is, same_self}
use Rattle.wm_match.proofs.OneLaws.{library_there, one_place, item_at, one_number, one_item}

module _ (libs : List Library) (main : Module) (bs : List (List Binding)) (k : ℕ) (m : Module) (i : Import) where
  -- no library has the name, or none that is early enough
  pub no_library : position (λ (l : Library). bytes_eq l.name i.module) libs ≡ None → IsFound libs k i → ⊥
  no_library e f = none_named (λ (l : Library). l.name) i.module libs f.number f.library e f.there f.name

  pub late_library : (j : ℕ) → position (λ (l : Library). bytes_eq l.name i.module) libs ≡ Some j → k ≤ j → IsFound libs k i → ⊥
  late_library j e le f =
      let early = f.earlier in
      before_named (λ (l : Library). l.name) i.module libs j f.number f.library e (omega arith) f.there f.name

  module _ (can : CanBeBound libs main) (j : ℕ) (l : Library) (there : slice_get libs j ≡ Some l) (earlier : j < k) (name : l.name ≡ i.module) where
    contained : (xs : List Export) (n : ℕ) (e : Export) → slice_get xs n ≡ Some e → Contains xs e
    contained xs n e at = (n, slice_get_within xs n e at, get_or_from_slice_get xs n e e at)

    found_at : (n : ℕ) (e : Export) → slice_get l.module.exports n ≡ Some e → e.name ≡ i.name → IsFound libs k i
    found_at n e at is = record {
      number = j;
      library = l;
      there = there;
      earlier = earlier;
      name = name;
      item = e;
      exported = contained l.module.exports n e at;
      item_name = is;
    }

    -- the part of library j
    module _ (part : List Binding) (is_part : bindings_at (program libs main bs) j ≡ part) where
      stands_is : (e : Export) → stands_for (program libs main bs) e.space j e.index ≡ slice_get (items_of e.space j l.module part) e.index
      stands_is e =
          ap (λ (o : _). option_and_then (λ (z : Module). slice_get (items_of e.space j z (bindings_at (program libs main bs) j)) e.index) o) (library_there libs main can.names can.closed j l there)
          ∙ ap (λ (p : List Binding). slice_get (items_of e.space j l.module p) e.index) is_part

      -- the library that is found is this one
      same_library : (f : IsFound libs k i) → f.library ≡ l
      same_library f =
          let n = one_place (λ (x : Library). x.name) libs f.number j f.library l can.names f.there there (f.name ∙ sym name) in
          let w : Some f.library ≡ Some l = sym f.there ∙ ap (slice_get libs) n ∙ there in
          cc

      unknown_in : ((n : ℕ) (e : Export) → slice_get l.module.exports n ≡ Some e → e.name ≢ i.name) → IsFound libs k i → ⊥
      unknown_in none f =
          none f.exported.0 f.item
          (ap (λ (x : Library). slice_get x.module.exports f.exported.0) (sym (same_library f)) ∙ item_at f.library.module.exports f.item f.exported)
          f.item_name

      pub lookup_is : (r : Lookup) → IsLookupIn (program libs main []) k m i j l part r → IsLookup (program libs main bs) k m i r
      unfolding found_at
      lookup_is (lookups.Bound b) h = record { found = found_at h.0 h.1 h.2 h.3; kind = h.4; stands = stands_is h.1 ∙ h.5; type = matches i.what h.6 }
        where
          matches : (w : Imported) → Matches (program libs main []) m w b → Matches (program libs main bs) m w b
          matches (imported.Func t) x = x
          matches (imported.Table x) y = y
          matches (imported.Memory x) y = y
          matches (imported.Global ty is_mutable) y = y
      lookup_is lookups.Unknown h = unknown_in h
      lookup_is lookups.Mismatch h = (
        found_at h.0 h.1 h.2 h.3,
        λ b q.
            let f = found_at h.0 h.1 h.2 h.3 in
            let e : q.found.item ≡ h.1 = one_item libs main can.names can.closed k i q.found f in
            let n : q.found.number ≡ j = one_number libs main can.names can.closed k i q.found f in
            h.4 b (ap (λ (z : Export). z.space) (sym e) ∙ q.kind)
            (sym (stands_is h.1) ∙ ap₂ (λ (z : Export) (w : ℕ). stands_for (program libs main bs) z.space w z.index) (sym e) (sym n) ∙ q.stands)
            (matches b i.what q.type),
      )
        where
          matches : (b : Binding) (w : Imported) → Matches (program libs main bs) m w b → Matches (program libs main []) m w b
          matches b (imported.Func t) x = x
          matches b (imported.Table x) y = y
          matches b (imported.Memory x) y = y
          matches b (imported.Global ty is_mutable) y = y

-- What the code has read.

-- the library that a name is found at
pub library_read : (libs : List Library) (name : List ℕ) (j : ℕ) (l : Library) → Some j ≡ position (λ (x : Library). bytes_eq x.name name) libs → l ≡ get_or libs j l
    → (slice_get libs j ≡ Some l) × (l.name ≡ name)
library_read libs name j l f at =
    let x = first_named (λ (z : Library). z.name) name libs j (sym f) in
    let s : l ≡ x.0 = at ∙ get_or_from_slice_get libs j x.0 l x.1 in
    (x.1 ∙ ap Some (sym s), ap (λ (z : Library). z.name) s ∙ x.2)

-- what a module's imports are bound to
pub part_read : (done : List (List Binding)) (j : ℕ) (part : List Binding) → j < length done → part ≡ get_or done j part → unwrap_or (slice_get done j) [] ≡ part
part_read done j part lt at = ap (λ (o : Option (List Binding)). unwrap_or o []) (slice_get-get_or done j part lt) ∙ sym at

-- the exports of library j
module _ (p : Program) (k : ℕ) (m : Module) (i : Import) (j : ℕ) (l : Library) (part : List Binding) (xs : List Export) (is : xs ≡ l.module.exports) where
  pub none_in : None ≡ position (λ (x : Export). bytes_eq x.name i.name) xs → IsLookupIn p k m i j l part lookups.Unknown
  none_in e n x at same = none_named (λ (z : Export). z.name) i.name xs n x (sym e) (ap (λ (z : List Export). slice_get z n) is ∙ at) same

  module _ (n : ℕ) (e : Export) (f : Some n ≡ position (λ (x : Export). bytes_eq x.name i.name) xs) (at : e ≡ get_or xs n e) where
    export_read : (slice_get l.module.exports n ≡ Some e) × (e.name ≡ i.name)
    export_read =
        let x = first_named (λ (z : Export). z.name) i.name xs n (sym f) in
        let s : e ≡ x.0 = at ∙ get_or_from_slice_get xs n x.0 e x.1 in
        (ap (λ (z : List Export). slice_get z n) (sym is) ∙ x.1 ∙ ap Some (sym s), ap (λ (z : Export). z.name) s ∙ x.2)

    -- it isn't of the import's space
    pub other_space : false ≡ is_in e.space i → IsLookupIn p k m i j l part lookups.Mismatch
    other_space differs = (n, e, export_read.0, export_read.1, λ b space there matches. apart space)
      where
        apart : e.space ≡ space_of i.what → ⊥
        apart space =
            let h : same_space e.space (space_of i.what) ≡ true = ap (same_space e.space) (sym space) ∙ same_self e.space in
            let w : false ≡ true = differs ∙ h in
            cc

    -- its index names nothing
    pub no_item : None ≡ slice_get (items_of e.space j l.module part) e.index → IsLookupIn p k m i j l part lookups.Mismatch
    no_item none = (n, e, export_read.0, export_read.1, λ b space there matches. apart b there)
      where
        apart : (b : Binding) → slice_get (items_of e.space j l.module part) e.index ≡ Some b → ⊥
        apart b there = let w : None ≡ Some b = none ∙ there in cc

    -- what it stands for
    module _ (b : Binding) (there : Some b ≡ slice_get (items_of e.space j l.module part) e.index) where
      pub no_match : (Matches p m i.what b → ⊥) → IsLookupIn p k m i j l part lookups.Mismatch
      no_match differs = (n, e, export_read.0, export_read.1, λ c space found matches. apart c found matches)
        where
          apart : (c : Binding) → slice_get (items_of e.space j l.module part) e.index ≡ Some c → Matches p m i.what c → ⊥
          apart c found matches =
              let w : Some c ≡ Some b = sym found ∙ sym there in
              let s : c ≡ b = cc in
              differs (subst (λ (z : Binding). Matches p m i.what z) s matches)

      pub bound_in : true ≡ is_in e.space i → Matches p m i.what b → IsLookupIn p k m i j l part (lookups.Bound b)
      bound_in space matches = (n, e, export_read.0, export_read.1, same_is e.space (space_of i.what) (sym space), sym there, matches)
