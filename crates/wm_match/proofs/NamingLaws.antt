-- What is found by its name.
use Rattle.std.proofs.Common.{◌≡◌, ℕ, zero, suc, ◌+◌, ◌<◌, ◌≤◌, List, [], ◌∷◌, length, get_or, AllPairs, Bool, true, false, cond, ltb, Option, Some, None, refl, sym, ap, subst, ◌∙◌, below_more, arith, ◌↔◌}
use Rattle.std.specs.Prelude.{slice_get, position, IsTrue}
use Rattle.std.specs.List.{position_from}
use Rattle.std.specs.Str.{bytes_eq}
use Rattle.std.proofs.lemmas.Bool.{ltb-true, ltb-false, lt-ltb}
use Rattle.std.proofs.lemmas.Iterator.Adapters.{position_from-zero}
use Rattle.std.proofs.lemmas.List.Quantifiers.{position-Some}
use Rattle.std.proofs.lemmas.Option.{slice_get_within, get_or_from_slice_get, slice_get-get_or}
use Rattle.std.proofs.lemmas.Slice.Eq.{bytes_eq-Decides}
use Rattle.wm_ast.specs.declared.module.Export.{Export}
use Rattle.wm_match.specs.declared.library.Library.{Library}
use Rattle.wm_match.specs.Binds.{NamesDiffer}
use Rattle.wm_match.specs.Cause.{HasSameName}
use Rattle.wm_match.specs.Closed.{HaveOtherNames}
use Rattle.wm_valid.specs.steps.Names.{Earlier}

skipped : {A : Type 0} (b : Bool) (x : A) (o : Option A) → cond b (Some x) o ≡ None → (b ≡ false) × (o ≡ None)
skipped true x o h = absurd cc
skipped false x o h = (refl, h)

not_at : {A : Type 0} (p : A → Bool) (k : ℕ) (xs : List A) (i : ℕ) (y : A) → position_from p k xs ≡ None → slice_get xs i ≡ Some y → p y ≡ false
not_at p k [] i y h e = absurd cc
not_at p k (x ∷ xs) zero y h e =
    let s = skipped (p x) k (position_from p (k + 1) xs) h in
    let w : Some x ≡ Some y = e in
    let z : x ≡ y = cc in
    subst (λ (v : _). p v ≡ false) z s.0
not_at p k (x ∷ xs) (suc i) y h e = not_at p (k + 1) xs i y (skipped (p x) k (position_from p (k + 1) xs) h).1 e

module _ {A : Type 0} (name : A → List ℕ) (n : List ℕ) where
  abbrev test : A → Bool
  test x = bytes_eq (name x) n

  -- the first one of the name
  pub first_named : (xs : List A) (j : ℕ) → position test xs ≡ Some j → (x : A) × (slice_get xs j ≡ Some x) × (name x ≡ n)
  first_named [] j e = absurd cc
  first_named (x ∷ xs) j e =
      let p = position-Some test (x ∷ xs) j x e in
      (get_or (x ∷ xs) j x, slice_get-get_or (x ∷ xs) j x p.0, (bytes_eq-Decides (name (get_or (x ∷ xs) j x)) n).0 p.1)

  apart : (y : A) → test y ≡ false → name y ≡ n → ⊥
  apart y h same = let t : test y ≡ true = (bytes_eq-Decides (name y) n).1 same in absurd cc

  -- none before it has the name
  pub before_named : (xs : List A) (j i : ℕ) (y : A) → position test xs ≡ Some j → i < j → slice_get xs i ≡ Some y → name y ≡ n → ⊥
  before_named [] j i y e lt at = absurd cc
  before_named (x ∷ xs) j i y e lt at =
      let p = position-Some test (x ∷ xs) j x e in
      apart y (subst (λ (v : A). test v ≡ false) (get_or_from_slice_get (x ∷ xs) i y x at) (p.2 i lt))

  -- none has the name
  pub none_named : (xs : List A) (i : ℕ) (y : A) → position test xs ≡ None → slice_get xs i ≡ Some y → name y ≡ n → ⊥
  none_named xs i y e at = apart y (not_at test 0 xs i y (sym (position_from-zero test xs) ∙ e) at)

-- Libraries.

module _ (libs : List Library) (k : ℕ) (l : Library) (at : slice_get libs k ≡ Some l) where
  pub earlier_name : (j : ℕ) → position (λ x. bytes_eq x.name l.name) libs ≡ Some j → IsTrue (ltb j k) ↔ HasSameName libs k
  earlier_name j e = (forth, back)
    where
      forth : IsTrue (ltb j k) → HasSameName libs k
      forth t =
          let f = first_named (λ (x : Library). x.name) l.name libs j e in
          record { library = l; there = at; number = j; other = f.0; earlier = ltb-true j k t; other_there = f.1; same = f.2 }

      back : HasSameName libs k → IsTrue (ltb j k)
      back h = lt-ltb j k (by_order h (ltb h.number j) refl)
        where
          by_order : (h : HasSameName libs k) (b : Bool) → ltb h.number j ≡ b → j < k
          by_order h true t =
              let w : Some h.library ≡ Some l = sym h.there ∙ at in
              let s : h.library ≡ l = cc in
              absurd (before_named (λ (x : Library). x.name) l.name libs j h.number h.other e (ltb-true h.number j t) h.other_there (h.same ∙ ap (λ (x : Library). x.name) s))
          by_order h false t = let x = ltb-false h.number j t in let y = h.earlier in omega arith

  pub no_earlier_name : position (λ x. bytes_eq x.name l.name) libs ≡ None → IsTrue false ↔ HasSameName libs k
  no_earlier_name e = (λ h. absurd (let t : false ≡ true = h in cc), λ h. absurd (none_named (λ (x : Library). x.name) l.name libs k l e at refl))

pub names_apart : (libs : List Library) (n : ℕ) → length libs ≤ n → ((j : ℕ) → j < n → HasSameName libs j → ⊥) → NamesDiffer libs
names_apart libs n le none i j d lt within same =
    none j (omega arith)
    (record {
      library = get_or libs j d;
      there = slice_get-get_or libs j d within;
      number = i;
      other = get_or libs i d;
      earlier = lt;
      other_there = slice_get-get_or libs i d (omega arith);
      same = same;
    })

-- Exports.

-- the names of the exports before an index differ
abbrev pub NamesApart : List Export → ℕ → Type 0
NamesApart es index = (j : ℕ) (e : Export) → j < index → slice_get es j ≡ Some e → Earlier es j e.name → ⊥

pub apart_more : (es : List Export) (index : ℕ) (e : Export) → slice_get es index ≡ Some e → (Earlier es index e.name → ⊥) → NamesApart es index → NamesApart es (index + 1)
apart_more es index e at new before j o lt =
    below_more (λ (i : ℕ). (x : Export) → slice_get es i ≡ Some x → Earlier es i x.name → ⊥) index
    (λ i earlier x there. before i x earlier there)
    (λ x there h. let w : Some x ≡ Some e = sym there ∙ at in let s : x ≡ e = cc in new (subst (λ (z : Export). Earlier es index z.name) s h))
    j lt o

pub apart_all : (es : List Export) (n : ℕ) → length es ≤ n → NamesApart es n → AllPairs HaveOtherNames es
apart_all es n le apart i j d lt within same =
    apart j (get_or es j d) (omega arith) (slice_get-get_or es j d within)
    (record { place = i; export = get_or es i d; before = lt; there = slice_get-get_or es i d (omega arith); same = same })

pub named_twice : (es : List Export) (index : ℕ) (e : Export) → slice_get es index ≡ Some e → Earlier es index e.name → AllPairs HaveOtherNames es → ⊥
named_twice es index e at h all =
    let a = get_or_from_slice_get es index e e at in
    let b = get_or_from_slice_get es h.place h.export e h.there in
    all h.place index e h.before (slice_get_within es index e at)
    (ap (λ (x : Export). x.name) b ∙ h.same ∙ sym (ap (λ (x : Export). x.name) a))
