-- Helpers whose names are in a list, each once: no two have one name, one name has one list of lines, and there are no
-- more of them than names.
use Rattle.std.proofs.Common.{◌≡◌, ◌∙◌, ap, refl, sym, ℕ, suc, ◌≤◌, List, [], ◌∷◌, ◌++◌, length, Bool, true, false, Option, Some, None, arith}
use Rattle.std.specs.Prelude.{◌||◌, if◌then◌else◌}
use Rattle.std.specs.Str.{bytes_eq}
use Rattle.std.proofs.lemmas.Slice.Eq.{bytes_eq-Decides}
use Rattle.mc_cmd.specs.Form.{Text}
use Rattle.mc_cmd.specs.Chain.{Texts}
use Rattle.cc_line.specs.Helpers.{AreOne, each_once, HasLines, has_helper, with_helper, with_helpers}
use Rattle.cc_line.specs.Item.{Helper}
use Rattle.cc_text.specs.Tables.{AreNamed, lines_named, NamedHelper}

-- ---- no two of one name

-- none of these functions has the name
abbrev pub NoneNamed : Text → List Helper → Type 0
NoneNamed n [] = Unit {0}
NoneNamed n (h ∷ hs) = (bytes_eq n h.name ≡ false) × NoneNamed n hs

abbrev pub Distinct : List Helper → Type 0
Distinct [] = Unit {0}
Distinct (h ∷ hs) = NoneNamed h.name hs × Distinct hs

-- no name of the one list is one of the other
abbrev pub Apart : List Helper → List Helper → Type 0
Apart [] ys = Unit {0}
Apart (h ∷ hs) ys = NoneNamed h.name ys × Apart hs ys

pub none_both : (n : Text) (xs ys : List Helper) → NoneNamed n xs → NoneNamed n ys → NoneNamed n (xs ++ ys)
none_both n [] ys a b = b
none_both n (x ∷ xs) ys a b = (a.0, none_both n xs ys a.1 b)

pub apart_both : (xs ys zs : List Helper) → Apart xs ys → Apart xs zs → Apart xs (ys ++ zs)
apart_both [] ys zs a b = tt
apart_both (x ∷ xs) ys zs a b = (none_both x.name ys zs a.0 b.0, apart_both xs ys zs a.1 b.1)

pub distinct_both : (xs ys : List Helper) → Distinct xs → Distinct ys → Apart xs ys → Distinct (xs ++ ys)
distinct_both [] ys a b c = b
distinct_both (x ∷ xs) ys a b c = (none_both x.name xs ys a.0 c.0, distinct_both xs ys a.1 b c.1)

-- ---- each once

module _ (P : Helper → Type 0) where
  abbrev pub Every : List Helper → Type 0
  Every [] = Unit {0}
  Every (h ∷ hs) = P h × Every hs

  pub every_both : (xs ys : List Helper) → Every xs → Every ys → Every (xs ++ ys)
  every_both [] ys a b = b
  every_both (x ∷ xs) ys a b = (a.0, every_both xs ys a.1 b)

  every_more : (hs xs : List Helper) → Every hs → Every xs → Every (with_helpers hs xs)
  every_more hs [] a b = a
  every_more hs (x ∷ xs) a b = every_more (with_helper hs x) xs (go (has_helper x.name hs)) b.1
    where
      go : (c : Bool) → Every (if c then hs else hs ++ (x ∷ []))
      go true = a
      go false = every_both hs (x ∷ []) a (b.0, tt)

  pub every_once : (hs : List Helper) → Every hs → Every (each_once hs)
  every_once hs a = every_more [] hs tt a

-- where no helper has the name, each name is another one
none_has : (x : Helper) (hs : List Helper) → has_helper x.name hs ≡ false → Apart hs (x ∷ [])
none_has x [] e = tt
none_has x (h ∷ hs) e = go (bytes_eq h.name x.name) refl e (none_has x hs)
  where
    go : (b : Bool) → bytes_eq h.name x.name ≡ b → b || has_helper x.name hs ≡ false → (has_helper x.name hs ≡ false → Apart hs (x ∷ [])) → ((bytes_eq h.name x.name ≡ false) × Unit {0}) × Apart hs (x ∷ [])
    go true k e more = absurd cc
    go false k e more = ((k, tt), more e)

distinct_more : (hs xs : List Helper) → Distinct hs → Distinct (with_helpers hs xs)
distinct_more hs [] d = d
distinct_more hs (x ∷ xs) d = distinct_more (with_helper hs x) xs (go (has_helper x.name hs) refl)
  where
    go : (c : Bool) → has_helper x.name hs ≡ c → Distinct (if c then hs else hs ++ (x ∷ []))
    go true e = d
    go false e = distinct_both hs (x ∷ []) d (tt, tt) (none_has x hs e)

pub once_distinct : (hs : List Helper) → Distinct (each_once hs)
once_distinct hs = distinct_more [] hs tt

-- ---- as many names at most

-- one of the names is this one
abbrev has_name : Text → List NamedHelper → Bool
has_name f [] = false
has_name f (n ∷ ns) = bytes_eq n.name f || has_name f ns

abbrev without : Text → List NamedHelper → List NamedHelper
without f [] = []
without f (n ∷ ns) = if bytes_eq n.name f then ns else n ∷ without f ns

without_one : (f : Text) (ns : List NamedHelper) → has_name f ns ≡ true → suc (length (without f ns)) ≡ length ns
without_one f [] e = absurd cc
without_one f (n ∷ ns) e = go (bytes_eq n.name f) e (without_one f ns)
  where
    go : (b : Bool) → b || has_name f ns ≡ true → (has_name f ns ≡ true → suc (length (without f ns)) ≡ length ns) → suc (length (if b then ns else n ∷ without f ns)) ≡ suc (length ns)
    go true e more = refl
    go false e more = ap suc (more e)

without_keeps : (f g : Text) (ns : List NamedHelper) → bytes_eq f g ≡ false → has_name g ns ≡ true → has_name g (without f ns) ≡ true
without_keeps f g [] o e = absurd cc
without_keeps f g (n ∷ ns) o e = go (bytes_eq n.name f) refl (bytes_eq n.name g) refl e (without_keeps f g ns o)
  where
    go : (b : Bool) → bytes_eq n.name f ≡ b → (c : Bool) → bytes_eq n.name g ≡ c → c || has_name g ns ≡ true → (has_name g ns ≡ true → has_name g (without f ns) ≡ true) → has_name g (if b then ns else n ∷ without f ns) ≡ true
    go true k true l e more = absurd (let q : f ≡ n.name = sym ((bytes_eq-Decides n.name f).0 k) in let r : true ≡ false = sym l ∙ ap (λ t. bytes_eq t g) (sym q) ∙ o in cc)
    go true k false l e more = e
    go false k true l e more = ap (λ d. d || has_name g (without f ns)) l
    go false k false l e more = ap (λ d. d || has_name g (without f ns)) l ∙ more e

abbrev Listed : List NamedHelper → List Helper → Type 0
Listed ns hs = Every (λ h. has_name h.name ns ≡ true) hs

listed_without : (f : Text) (ns : List NamedHelper) (hs : List Helper) → NoneNamed f hs → Listed ns hs → Listed (without f ns) hs
listed_without f ns [] d l = tt
listed_without f ns (h ∷ hs) d l = (without_keeps f h.name ns d.0 l.0, listed_without f ns hs d.1 l.1)

no_more_than : (ns : List NamedHelper) (hs : List Helper) → Distinct hs → Listed ns hs → length hs ≤ length ns
no_more_than ns [] d l = omega arith
no_more_than ns (h ∷ hs) d l =
    let a : length hs ≤ length (without h.name ns) = no_more_than (without h.name ns) hs d.1 (listed_without h.name ns hs d.0 l.1) in
    let b : suc (length (without h.name ns)) ≡ length ns = without_one h.name ns l.0 in
    let c : suc (length hs) ≤ length ns = omega arith in
    c

-- a helper whose name is found has one of the names
found_has : (all : List NamedHelper) (ns f : Text) (ts : Texts) → lines_named all ns f ≡ Some ts → has_name f all ≡ true
found_has [] ns f ts e = absurd cc
found_has (h ∷ all) ns f ts e = go (bytes_eq h.name f) e (found_has all ns f ts)
  where
    go : (b : Bool) → (if b then Some (h.lines ns) else lines_named all ns f) ≡ Some ts → (lines_named all ns f ≡ Some ts → has_name f all ≡ true) → b || has_name f all ≡ true
    go true e more = refl
    go false e more = more e

all_listed : (all : List NamedHelper) (ns : Text) (hs : List Helper) → AreNamed all ns hs → Listed all hs
all_listed all ns [] a = tt
all_listed all ns (h ∷ hs) a = (found_has all ns h.name h.lines a.0, all_listed all ns hs a.1)

pub once_few : (all : List NamedHelper) (ns : Text) (hs : List Helper) → AreNamed all ns hs → length (each_once hs) ≤ length all
once_few all ns hs a = no_more_than all (each_once hs) (once_distinct hs) (every_once (λ h. has_name h.name all ≡ true) hs (all_listed all ns hs a))

-- ---- one name, one list of lines

same_some : (o p : Option Texts) (ts us : Texts) → o ≡ Some ts → p ≡ Some us → o ≡ p → ts ≡ us
same_some o p ts us a b e = cc

have_lines : (all : List NamedHelper) (ns : Text) (x : Helper) (hs : List Helper) → lines_named all ns x.name ≡ Some x.lines → AreNamed all ns hs → HasLines x hs
have_lines all ns x [] e a = tt
have_lines all ns x (h ∷ hs) e a = (
  (λ k. same_some (lines_named all ns h.name) (lines_named all ns x.name) h.lines x.lines a.0 e (ap (lines_named all ns) ((bytes_eq-Decides h.name x.name).0 k))),
  have_lines all ns x hs e a.1,
)

pub helpers_are_one : (all : List NamedHelper) (ns : Text) (hs : List Helper) → AreNamed all ns hs → AreOne hs
helpers_are_one all ns [] a = tt
helpers_are_one all ns (h ∷ hs) a = (have_lines all ns h hs a.0 a.1, helpers_are_one all ns hs a.1)
