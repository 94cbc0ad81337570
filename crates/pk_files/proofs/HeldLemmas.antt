-- The files of a folder give one answer.
use Rattle.std.proofs.Common.{◌≡◌, ◌∙◌, sym, ap, subst, refl, inl, inr, ◌⊎◌, suc, zero, ◌<◌, List, [], ◌∷◌, Bool, true, false, Option, Some, Result, Ok, Err, length, arith, codes}
use Rattle.std.specs.Prelude.{Contains, IsSomeAnd}
use Rattle.std.specs.List.{AllByRecursion}
use Rattle.std.specs.List.Sorted.{IsStrictlySortedBy}
use Rattle.std.specs.Ordering.{nat_cmp, ordering_reverse}
use Rattle.std.specs.declared.cmp.Ordering.TheVariants.{Less, Equal, Greater}
use Rattle.std.specs.Cmp.Lexicographic.{slice_cmp, nat_list_cmp_total}
use Rattle.std.proofs.lemmas.Cmp.{tied_itself}
use Rattle.io_dev.specs.Folder.{Folder, Reads, IsLonger}
use Rattle.io_dev.specs.Names.{IsRising}
use Rattle.mc_cmd.specs.Chain.{Texts}
use Rattle.mc_cmd.specs.Form.{Text}
use Rattle.mc_cmd.specs.Lines.{file_lines}
use Rattle.mc_cmd.proofs.FormLemmas.{some_same}
use Rattle.pk_files.specs.Held.{ListsFolder, ReadsFile, ReadsForm, ReadsIndex, ReadsTag, ReadsTags, ReadsLines, ReadsEach, ReadsFunctions, ReadsPack, Holds, IsRefused, few_enough, is_told, listed, said_lines, said_or}
use Rattle.pk_files.specs.Json.{index_said, meta_said}
use Rattle.pk_files.specs.Paths.{at, function_file, function_names, functions_of, pack_cap, tags_of}
use Rattle.pk_files.specs.Step.{Step, Gives, ◌>>=◌}
use Rattle.pk_files.specs.Told.{Told}
use Rattle.pk_files.specs.declared.fault.GetFault.{GetFault}
use Rattle.pk_files.specs.declared.fault.GetFault.TheVariants as faults

-- ---- lists that rise

-- an element is the first, or one of the others
pub contains_cases : {X : Type 0} (x : X) (xs : List X) (n : X) → Contains (x ∷ xs) n → (x ≡ n) ⊎ Contains xs n
contains_cases x xs n (zero, lt, e) = inl e
contains_cases x xs n (suc i, lt, e) = inr (i, omega (arith, lt), e)

pub contains_first : {X : Type 0} (x : X) (xs : List X) → Contains (x ∷ xs) x
contains_first x xs = (0, omega arith, refl)

pub contains_later : {X : Type 0} (x : X) (xs : List X) (n : X) → Contains xs n → Contains (x ∷ xs) n
contains_later x xs n c = (suc c.0, omega (arith, c.1), c.2)

pub contains_none : {X : Type 0} (n : X) → Contains [] n → ⊥
contains_none n c = omega (arith, c.1)

pub all_at : {X : Type 0} (P : X → Type 0) (xs : List X) (n : X) → AllByRecursion P xs → Contains xs n → P n
all_at P [] n h c = absurd (contains_none n c)
all_at P (x ∷ xs) n h c = elim (contains_cases x xs n c) [ inl e ↦ subst P e h.0 | inr d ↦ all_at P xs n h.1 d ]

below_itself : (t : Text) → slice_cmp nat_cmp t t ≡ Less → ⊥
below_itself t e = let f : Less ≡ Equal = sym e ∙ tied_itself nat_list_cmp_total t in absurd cc

below_both : (s t : Text) → slice_cmp nat_cmp s t ≡ Less → slice_cmp nat_cmp t s ≡ Less → ⊥
below_both s t e f = let g : Less ≡ Greater = sym f ∙ nat_list_cmp_total.antisymm t s ∙ ap ordering_reverse e in absurd cc

-- two rising lists with the same elements are one
pub same_rising : (xs ys : Texts) → IsRising xs → IsRising ys → ((n : Text) → Contains xs n → Contains ys n) → ((n : Text) → Contains ys n → Contains xs n) → xs ≡ ys
unfolding IsStrictlySortedBy
same_rising [] [] r s to from = refl
same_rising [] (y ∷ ys) r s to from = absurd (contains_none y (from y (contains_first y ys)))
same_rising (x ∷ xs) [] r s to from = absurd (contains_none x (to x (contains_first x xs)))
same_rising (x ∷ xs) (y ∷ ys) r s to from =
    let first = heads in
    ap (λ n. n ∷ xs) first ∙ ap (λ ns. y ∷ ns) (same_rising xs ys r.1 s.1 (later x xs y ys first r.0 to) (later y ys x xs (sym first) s.0 from))
  where
    heads : x ≡ y
    heads = elim (contains_cases y ys x (to x (contains_first x xs))) [
      | inl e ↦ sym e
      | inr c ↦ elim (contains_cases x xs y (from y (contains_first y ys))) [
        | inl e ↦ e
        | inr d ↦ absurd (below_both x y (all_at (λ n. slice_cmp nat_cmp x n ≡ Less) xs y r.0 d) (all_at (λ n. slice_cmp nat_cmp y n ≡ Less) ys x s.0 c))
      ]
    ]

    later : (a : Text) (rest : Texts) (b : Text) (bs : Texts) → a ≡ b → AllByRecursion (λ n. slice_cmp nat_cmp a n ≡ Less) rest → ((n : Text) → Contains (a ∷ rest) n → Contains (b ∷ bs) n) → (n : Text) → Contains rest n → Contains bs n
    later a rest b bs e below f n c =
        elim (contains_cases b bs n (f n (contains_later a rest n c))) [
          | inl g ↦ absurd (below_itself a (subst (λ m. slice_cmp nat_cmp a m ≡ Less) (sym (e ∙ g)) (all_at (λ m. slice_cmp nat_cmp a m ≡ Less) rest n below c)))
          | inr d ↦ d
        ]

-- ---- steps with one answer

abbrev pub told : {A : Type 0} → Result A GetFault → Bool
told (Ok a) = true
told (Err fault) = is_told fault

-- of the answers that the content tells, a step has one
abbrev pub IsOne : {A : Type 0} → Step A → Type 0
IsOne {A} step = (r s : Result A GetFault) → told r ≡ true → told s ≡ true → step r → step s → r ≡ s

one_gives : {A : Type 0} (answer : Result A GetFault) → IsOne (Gives answer)
one_gives answer r s a b e f = e ∙ sym f

ok_same : {A : Type 0} (a b : A) → ◌≡◌ {A = Result A GetFault} (Ok a) (Ok b) → a ≡ b
ok_same a b e = cc

not_both : {A B : Type 0} (a : A) (fault : GetFault) → ◌≡◌ {A = Result A GetFault} (Ok a) (Err fault) → B
not_both a fault e = absurd cc

err_same : {A B : Type 0} (e f : GetFault) → ◌≡◌ {A = Result A GetFault} (Err e) (Err f) → ◌≡◌ {A = Result B GetFault} (Err e) (Err f)
err_same e f h = let g : e ≡ f = cc in ap Err g

one_then : {A B : Type 0} (step : Step A) (next : A → Step B) → IsOne step → ((a : A) → IsOne (next a)) → IsOne (step >>= next)
one_then {A = A} step next one ones (Ok b) (Ok c) h k (a, p, q) (d, t, u) =
    ones a (Ok b) (Ok c) h k q (subst (λ x. next x (Ok c)) (sym (ok_same a d (one (Ok a) (Ok d) refl refl p t))) u)
one_then {A = A} step next one ones (Ok b) (Err f) h k (a, p, q) (inl t) = not_both a f (one (Ok a) (Err f) refl k p t)
one_then {A = A} step next one ones (Ok b) (Err f) h k (a, p, q) (inr (d, t, u)) =
    ones a (Ok b) (Err f) h k q (subst (λ x. next x (Err f)) (sym (ok_same a d (one (Ok a) (Ok d) refl refl p t))) u)
one_then {A = A} step next one ones (Err e) (Ok c) h k (inl p) (d, t, u) = not_both d e (one (Ok d) (Err e) refl h t p)
one_then {A = A} step next one ones (Err e) (Ok c) h k (inr (a, p, q)) (d, t, u) =
    ones a (Err e) (Ok c) h k q (subst (λ x. next x (Ok c)) (sym (ok_same a d (one (Ok a) (Ok d) refl refl p t))) u)
one_then {A = A} {B = B} step next one ones (Err e) (Err f) h k (inl p) (inl t) = err_same {A = A} {B = B} e f (one (Err e) (Err f) h k p t)
one_then {A = A} step next one ones (Err e) (Err f) h k (inl p) (inr (d, t, u)) = not_both d e (one (Ok d) (Err e) refl h t p)
one_then {A = A} step next one ones (Err e) (Err f) h k (inr (a, p, q)) (inl t) = not_both a f (one (Ok a) (Err f) refl k p t)
one_then {A = A} step next one ones (Err e) (Err f) h k (inr (a, p, q)) (inr (d, t, u)) =
    ones a (Err e) (Err f) h k q (subst (λ x. next x (Err f)) (sym (ok_same a d (one (Ok a) (Ok d) refl refl p t))) u)

untold : {B : Type 0} (e f : GetFault) → e ≡ f → is_told f ≡ false → is_told e ≡ true → B
untold e f alike not_so is_so = let h : false ≡ true = sym not_so ∙ sym (ap is_told alike) ∙ is_so in absurd cc

one_listing : (folder : Folder) (dir : Text) → IsOne (ListsFolder (Some folder) dir)
one_listing folder dir (Ok names) (Ok others) h k p q =
    ap Ok (same_rising names others p.1 q.1 (λ n c. (q.0 n).1 ((p.0 n).0 c)) (λ n c. (p.0 n).1 ((q.0 n).0 c)))
one_listing folder dir (Ok names) (Err f) h k p q = untold f (faults.ListFailed dir) q refl k
one_listing folder dir (Err e) s h k p q = untold e (faults.ListFailed dir) p refl h

too_short : {B : Type 0} (folder : Folder) (path bytes : Text) → Reads (Some folder) path pack_cap bytes → IsLonger (Some folder) path pack_cap → B
too_short folder path bytes r long =
    let h : pack_cap < length bytes = subst (λ (o : Option Text). IsSomeAnd o (λ b. pack_cap < length b)) r.is_file long in
    absurd (omega (arith, h, r.within))

one_reads : (folder : Folder) (path : Text) → IsOne (ReadsFile (Some folder) path)
one_reads folder path (Ok b) (Ok c) h k p q = ap Ok (some_same b c (sym p.is_file ∙ q.is_file))
one_reads folder path (Ok b) (Err f) h k p (inl q) = untold f (faults.Failed path) q refl k
one_reads folder path (Ok b) (Err f) h k p (inr q) = too_short folder path b p q.1
one_reads folder path (Err e) s h k (inl p) q = untold e (faults.Failed path) p refl h
one_reads folder path (Err e) (Ok c) h k (inr p) q = too_short folder path c q p.1
one_reads folder path (Err e) (Err f) h k (inr p) (inl q) = untold f (faults.Failed path) q refl k
one_reads folder path (Err e) (Err f) h k (inr p) (inr q) = ap Err (p.0 ∙ sym q.0)

one_form : {A : Type 0} (folder : Folder) (dir : Text) (names : Texts) (name : Text) (fault : GetFault) (said : Text → Option A) → IsOne (ReadsForm (Some folder) dir names name fault said)
one_form folder dir names name fault said =
    one_then (Gives (listed names name fault)) _ (one_gives (listed names name fault)) (λ _.
    one_then (ReadsFile (Some folder) (at dir name)) _ (one_reads folder (at dir name)) (λ bytes. one_gives (said_or fault (said bytes))))

one_index : (folder : Folder) (dir : Text) → IsOne (ReadsIndex (Some folder) dir)
one_index folder dir =
    one_then (ListsFolder (Some folder) dir) _ (one_listing folder dir) (λ names.
    one_then (ReadsForm (Some folder) dir names (codes "pack.mcmeta") faults.NoMeta meta_said) _ (one_form folder dir names (codes "pack.mcmeta") faults.NoMeta meta_said) (λ _.
    one_form folder dir names (codes "dpwasm.json") faults.BadIndex index_said))

one_tag : (folder : Folder) (dir ns : Text) (names : Texts) (name : Text) → IsOne (ReadsTag (Some folder) dir ns names name)
one_tag folder dir ns names name = one_form folder (tags_of dir) names _ (faults.BadTag name) _

one_tags : (folder : Folder) (dir ns : Text) → IsOne (ReadsTags (Some folder) dir ns)
one_tags folder dir ns =
    one_then (ListsFolder (Some folder) (tags_of dir)) _ (one_listing folder (tags_of dir)) (λ names.
    one_then (ReadsTag (Some folder) dir ns names (codes "load")) _ (one_tag folder dir ns names (codes "load")) (λ _. one_tag folder dir ns names (codes "tick")))

one_each : (folder : Folder) (dir : Text) (names : Texts) → IsOne (ReadsEach (Some folder) dir names)
one_each folder dir [] = one_gives (Ok [])
one_each folder dir (n ∷ names) =
    one_then (ReadsLines (Some folder) dir n) _
    (one_then (ReadsFile (Some folder) (at dir (function_file n))) _ (one_reads folder (at dir (function_file n))) (λ bytes. one_gives (said_lines n (file_lines bytes)))) (λ lines.
    one_then (ReadsEach (Some folder) dir names) _ (one_each folder dir names) (λ rest. one_gives (Ok ((n, lines) ∷ rest))))

one_functions : (folder : Folder) (dir : Text) → IsOne (ReadsFunctions (Some folder) dir)
one_functions folder dir =
    one_then (ListsFolder (Some folder) dir) _ (one_listing folder dir) (λ files.
    one_then (Gives (few_enough (function_names files))) _ (one_gives (few_enough (function_names files))) (λ names. one_each folder dir names))

pub one_pack : (folder : Folder) (dir : Text) → IsOne (ReadsPack (Some folder) dir)
one_pack folder dir =
    one_then (ReadsIndex (Some folder) dir) _ (one_index folder dir) (λ i.
    one_then (ReadsTags (Some folder) dir i.ns) _ (one_tags folder dir i.ns) (λ _.
    one_then (ReadsFunctions (Some folder) (functions_of dir i.ns)) _ (one_functions folder (functions_of dir i.ns)) (λ functions. one_gives (Ok (record { index = i; functions = functions })))))

pub holds_one : (folder : Folder) (dir : Text) (p q : Told) → Holds (Some folder) dir p → Holds (Some folder) dir q → p ≡ q
holds_one folder dir p q h k = ok_same p q (one_pack folder dir (Ok p) (Ok q) refl refl h k)

pub not_refused : (folder : Folder) (dir : Text) (p : Told) (fault : GetFault) → Holds (Some folder) dir p → IsRefused (Some folder) dir fault → is_told fault ≡ false
not_refused folder dir p fault h k = go (is_told fault) refl
  where
    go : (b : Bool) → is_told fault ≡ b → is_told fault ≡ false
    go false e = e
    go true e = not_both p fault (one_pack folder dir (Ok p) (Err fault) refl e h k)

pub one_refusal : (folder : Folder) (dir : Text) (e f : GetFault) → is_told e ≡ true → is_told f ≡ true → IsRefused (Some folder) dir e → IsRefused (Some folder) dir f → e ≡ f
one_refusal folder dir e f h k p q = let g : ◌≡◌ {A = Result Told GetFault} (Err e) (Err f) = one_pack folder dir (Err e) (Err f) h k p q in cc
