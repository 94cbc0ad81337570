-- The bytes of memory, by pages and words.
use Rattle.std.proofs.Common.{◌≡◌, ◌∙◌, refl, ap, sym, ℕ, zero, suc, ◌+◌, ◌*◌, ◌<◌, ◌≤◌, List, [], ◌∷◌, ◌++◌, length, map, take, drop, get_or, Bool, true, false, Option, Some, None, ℤ, arith, length-append}
use Rattle.std.specs.Prelude.{◌/◌, ◌%◌, Vec, FitsSigned, codes, pos, negsuc, is_some, slice_get, nat_eq, ◌&&◌, if◌then◌else◌}
use Rattle.std.specs.List.{list_all}
use Rattle.std.proofs.lemmas.Bool.{lt-leb, le-leb}
use Rattle.std.proofs.lemmas.Bool.Decides.{Decides-eqb}
use Rattle.hex.specs.Hex.{encode_lower}
use Rattle.std.proofs.lemmas.Int.{to_z-of_z}
use Rattle.std.proofs.lemmas.List.{length-map}
use Rattle.std.proofs.lemmas.Option.{slice_get-get_or}
use Rattle.std.specs.Int.{w32}
use Rattle.std.specs.declared.alloc.Global.{Global}
use mir.Val.{to_z, of_z}
use Rattle.mc_nbt.proofs.TestLemmas.{and_first, and_second, and_both}
use Rattle.mc_nbt.proofs.TreeLemmas.{of_items-items}
use Rattle.mc_nbt.specs.Tree.{Tree, Items, int, string, list, compound, no_items, item, items, of_items}
use Rattle.mc_nbt.proofs.ViewLemmas.{of_items-Ints, of_items-Trees, view-List}
use Rattle.mc_nbt.specs.View.{list_view, view}
use Rattle.mc_nbt.specs.declared.tree.Nbt.{Nbt}
use Rattle.mc_nbt.specs.declared.tree.Nbt.TheVariants.{List as ListOf}
use Rattle.mc_nbt.specs.declared.tree.NbtList.{NbtList}
use Rattle.mc_nbt.specs.declared.tree.NbtList.TheVariants.{Ints, Trees}
use Rattle.mc_cmd.specs.Layout.{joined, four_bytes, word_in, words_in, page_words, page_in, pages_in}
use Rattle.app_words.specs.Lines.{ended_line, shown_bytes}
use Rattle.app_report.specs.steps.Pages.{word_number, bytes_of, ArePages, HasWord, IsPage}

-- lists that are joined stand where both do
is_some-joined : {A : Type 0} (o p : Option (List A)) → is_some (joined o p) ≡ is_some o && is_some p
is_some-joined (Some x) (Some y) = refl
is_some-joined (Some x) None = refl
is_some-joined None p = refl

-- the two lists that were joined
pub joined_some : {A : Type 0} (o p : Option (List A)) (r : List A) → joined o p ≡ Some r → (x : List A) × (y : List A) × (o ≡ Some x) × (p ≡ Some y) × (r ≡ x ++ y)
joined_some (Some x) (Some y) r h = (x, y, refl, refl, cc)
joined_some (Some x) None r h = absurd cc
joined_some None p r h = absurd cc

-- each int is a word
word-int : (z : ℤ) → word_in (int z) ≡ Some (four_bytes (word_number z))
word-int (pos n) = refl
word-int (negsuc n) = refl

pub int_is_word : (z : ℤ) → is_some (word_in (int z)) ≡ true
int_is_word z = ap is_some (word-int z)

ints_are_words : (zs : List ℤ) → is_some (words_in (items (map int zs))) ≡ true
ints_are_words [] = refl
ints_are_words (z ∷ zs) = is_some-joined (word_in (int z)) (words_in (items (map int zs))) ∙ and_both _ _ (int_is_word z) (ints_are_words zs)

pub words_all : (ts : List Nbt) → list_all (λ t. is_some (word_in (view t))) ts ≡ is_some (words_in (items (map view ts)))
words_all [] = refl
words_all (t ∷ ts) = ap (λ b. is_some (word_in (view t)) && b) (words_all ts) ∙ sym (is_some-joined (word_in (view t)) (words_in (items (map view ts))))

pub pages_all : (ts : List Nbt) → list_all (λ t. is_some (page_in (view t))) ts ≡ is_some (bytes_of ts)
pages_all [] = refl
pages_all (t ∷ ts) = ap (λ b. is_some (page_in (view t)) && b) (pages_all ts) ∙ sym (is_some-joined (page_in (view t)) (bytes_of ts))

-- an int is no page
pub ints_are_no_pages : (zs : List ℤ) → 1 ≤ length zs → pages_in (items (map int zs)) ≡ None
ints_are_no_pages [] h = absurd (omega arith)
ints_are_no_pages (z ∷ zs) h = refl

-- a page is a list of its number of words
is_some-if : {A : Type 0} (b : Bool) (o : Option A) → is_some (if b then o else None) ≡ b && is_some o
is_some-if true o = refl
is_some-if false o = refl

and-true : (b : Bool) → b ≡ b && true
and-true true = refl
and-true false = refl

page_of : (ts : List Tree) → is_some (page_in (list (items ts))) ≡ nat_eq (length ts) page_words && is_some (words_in (items ts))
page_of ts = is_some-if (nat_eq (length (of_items (items ts))) page_words) (words_in (items ts)) ∙ ap (λ us. nat_eq (length us) page_words && is_some (words_in (items ts))) (of_items-items ts)

pub page_of_ints : (zs : List ℤ) → nat_eq (length zs) page_words ≡ is_some (page_in (list (items (map int zs))))
page_of_ints zs =
    and-true (nat_eq (length zs) page_words)
    ∙ ap (λ n. nat_eq n page_words && true) (sym (length-map zs int))
    ∙ ap (λ b. nat_eq (length (map int zs)) page_words && b) (sym (ints_are_words zs))
    ∙ sym (page_of (map int zs))

pub page_of_trees : (ts : List Nbt) → nat_eq (length ts) page_words && is_some (words_in (items (map view ts))) ≡ is_some (page_in (list (items (map view ts))))
page_of_trees ts =
    ap (λ n. nat_eq n page_words && is_some (words_in (items (map view ts)))) (sym (length-map ts view)) ∙ sym (page_of (map view ts))

pub page_of_trees_then : (ts : List Nbt) → length ts ≡ page_words → is_some (words_in (items (map view ts))) ≡ is_some (page_in (list (items (map view ts))))
page_of_trees_then ts n = ap (λ b. b && is_some (words_in (items (map view ts)))) (sym ((Decides-eqb (length ts) page_words).1 n)) ∙ page_of_trees ts

pub page_of_trees_else : (ts : List Nbt) → (length ts ≡ page_words → ⊥) → nat_eq (length ts) page_words ≡ is_some (page_in (list (items (map view ts))))
page_of_trees_else ts n = go (nat_eq (length ts) page_words) refl
  where
    go : (b : Bool) → nat_eq (length ts) page_words ≡ b → nat_eq (length ts) page_words ≡ is_some (page_in (list (items (map view ts))))
    go true e = absurd (n ((Decides-eqb (length ts) page_words).0 e))
    go false e = e ∙ sym (ap (λ b. b && is_some (words_in (items (map view ts)))) e) ∙ page_of_trees ts

-- of a page: its words, and how many there are
pub page_has_words : (ts : Items) → is_some (page_in (list ts)) ≡ true → (is_some (words_in ts) ≡ true) × (length (of_items ts) ≡ page_words)
page_has_words ts h =
    let both = sym (is_some-if (nat_eq (length (of_items ts)) page_words) (words_in ts)) ∙ h in
    (and_second (nat_eq (length (of_items ts)) page_words) _ both, (Decides-eqb (length (of_items ts)) page_words).0 (and_first _ _ both))

page_is : (t : Tree) (bs : List ℕ) → page_in t ≡ Some bs → (ts : Items) × (t ≡ list ts) × (length (of_items ts) ≡ page_words) × (words_in ts ≡ Some bs)
page_is (int z) bs h = absurd cc
page_is (string s) bs h = absurd cc
page_is (compound fs) bs h = absurd cc
page_is (list ts) bs h = go (nat_eq (length (of_items ts)) page_words) refl h
  where
    go : (b : Bool) → nat_eq (length (of_items ts)) page_words ≡ b → (if b then words_in ts else None) ≡ Some bs → (us : Items) × (list ts ≡ list us) × (length (of_items us) ≡ page_words) × (words_in us ≡ Some bs)
    go true e h = (ts, refl, (Decides-eqb (length (of_items ts)) page_words).0 e, h)
    go false e h = absurd cc

-- how many bytes
word_length : (t : Tree) (bs : List ℕ) → word_in t ≡ Some bs → length bs ≡ 4
word_length (int z) bs h =
    let e : four_bytes (word_number z) ≡ bs = let f = sym (word-int z) ∙ h in cc in
    ap length (sym e)
word_length (string s) bs h = absurd cc
word_length (list ts) bs h = absurd cc
word_length (compound fs) bs h = absurd cc

words_length : (ts : Items) (bs : List ℕ) → words_in ts ≡ Some bs → length bs ≡ 4 * length (of_items ts)
words_length no_items bs h = let e : [] ≡ bs = cc in ap length (sym e)
words_length (item t ts) bs h =
    let j = joined_some (word_in t) (words_in ts) bs h in
    let a = word_length t j.0 j.2 in
    let b = words_length ts j.1 j.3 in
    let c : length bs ≡ length j.0 + length j.1 = ap length j.4 ∙ length-append j.0 j.1 in
    omega arith

pub page_length : (t : Tree) (bs : List ℕ) → page_in t ≡ Some bs → length bs ≡ 65536
page_length t bs h =
    let p = page_is t bs h in
    let n : length (of_items p.0) ≡ 16384 = p.2 in
    let m = words_length p.0 bs p.3 in
    omega arith

pub pages_length : (ts : List Nbt) (bs : List ℕ) → bytes_of ts ≡ Some bs → length bs ≡ 65536 * length ts
pages_length [] bs h = let e : [] ≡ bs = cc in ap length (sym e)
pages_length (t ∷ ts) bs h =
    let j = joined_some (page_in (view t)) (bytes_of ts) bs h in
    let a = page_length (view t) j.0 j.2 in
    let b = pages_length ts j.1 j.3 in
    let c : length bs ≡ length j.0 + length j.1 = ap length j.4 ∙ length-append j.0 j.1 in
    omega arith

-- a place of a list behind another one, and of the front one
get_behind : {A : Type 0} (xs ys : List A) (n i : ℕ) → length xs ≡ n → slice_get (xs ++ ys) (n + i) ≡ slice_get ys i
get_behind [] ys zero i h = ap (slice_get ys) (omega arith)
get_behind [] ys (suc n) i h = absurd (omega arith)
get_behind (x ∷ xs) ys zero i h = absurd (omega arith)
get_behind (x ∷ xs) ys (suc n) i h =
    let e : suc n + i ≡ suc (n + i) = omega arith in
    ap (slice_get (x ∷ (xs ++ ys))) e ∙ get_behind xs ys n i (omega arith)

get_front : {A : Type 0} (xs ys : List A) (i : ℕ) → i < length xs → slice_get (xs ++ ys) i ≡ slice_get xs i
get_front [] ys i h = absurd (omega arith)
get_front (x ∷ xs) ys zero h = refl
get_front (x ∷ xs) ys (suc i) h = get_front xs ys i (omega arith)

-- a byte of a word
words_at : (ts : Items) (bs : List ℕ) (k i : ℕ) (z : ℤ) → words_in ts ≡ Some bs → i < 4 → slice_get (of_items ts) k ≡ Some (int z) → slice_get bs (4 * k + i) ≡ slice_get (four_bytes (word_number z)) i
words_at no_items bs k i z h lt g = absurd cc
words_at (item t ts) bs zero i z h lt g =
    let j = joined_some (word_in t) (words_in ts) bs h in
    let t-is : t ≡ int z = cc in
    let front : j.0 ≡ four_bytes (word_number z) = let f = sym j.2 ∙ ap word_in t-is ∙ word-int z in cc in
    let short : i < length j.0 = omega (arith, word_length t j.0 j.2) in
    let at : 4 * zero + i ≡ i = omega arith in
    ap (slice_get bs) at ∙ ap (λ l. slice_get l i) j.4 ∙ get_front j.0 j.1 i short ∙ ap (λ l. slice_get l i) front
words_at (item t ts) bs (suc k) i z h lt g =
    let j = joined_some (word_in t) (words_in ts) bs h in
    let at : 4 * suc k + i ≡ 4 + (4 * k + i) = omega arith in
    ap (slice_get bs) at ∙ ap (λ l. slice_get l (4 + (4 * k + i))) j.4 ∙ get_behind j.0 j.1 4 (4 * k + i) (word_length t j.0 j.2) ∙ words_at ts j.1 k i z j.3 lt g

pub page_at : (ts : Items) (bs : List ℕ) (i k j : ℕ) (z : ℤ) (b : ℕ) → page_in (list ts) ≡ Some bs → j < 4 → i ≡ 4 * k + j → slice_get (of_items ts) k ≡ Some (int z) → slice_get (four_bytes (word_number z)) j ≡ Some b → slice_get bs i ≡ Some b
page_at ts bs i k j z b h lt at word byte =
    let p = page_is (list ts) bs h in
    let same : ts ≡ p.0 = cc in
    ap (slice_get bs) at ∙ words_at ts bs k j z (ap words_in same ∙ p.3) lt word ∙ byte

-- a byte of a page
pub pages_at : (ts : List Nbt) (bs : List ℕ) (k i : ℕ) (t : Nbt) → bytes_of ts ≡ Some bs → slice_get ts k ≡ Some t → i < 65536 → (pb : List ℕ) × (page_in (view t) ≡ Some pb) × (slice_get bs (65536 * k + i) ≡ slice_get pb i)
pages_at [] bs k i t h g lt = absurd cc
pages_at (u ∷ ts) bs zero i t h g lt =
    let j = joined_some (page_in (view u)) (bytes_of ts) bs h in
    let same : u ≡ t = cc in
    let short : i < length j.0 = omega (arith, page_length (view u) j.0 j.2) in
    let at : 65536 * zero + i ≡ i = omega arith in
    (j.0, ap (λ x. page_in (view x)) (sym same) ∙ j.2, ap (slice_get bs) at ∙ ap (λ l. slice_get l i) j.4 ∙ get_front j.0 j.1 i short)
pages_at (u ∷ ts) bs (suc k) i t h g lt =
    let j = joined_some (page_in (view u)) (bytes_of ts) bs h in
    let r = pages_at ts j.1 k i t j.3 g lt in
    let at : 65536 * suc k + i ≡ 65536 + (65536 * k + i) = omega arith in
    (r.0, r.1, ap (slice_get bs) at ∙ ap (λ l. slice_get l (65536 + (65536 * k + i))) j.4 ∙ get_behind j.0 j.1 65536 (65536 * k + i) (page_length (view u) j.0 j.2) ∙ r.2)

-- each of the words is one
pub word_stands : (ts : List Nbt) (k : ℕ) (t : Nbt) → is_some (words_in (items (map view ts))) ≡ true → slice_get ts k ≡ Some t → is_some (word_in (view t)) ≡ true
word_stands [] k t h g = absurd cc
word_stands (u ∷ ts) zero t h g =
    let same : u ≡ t = cc in
    ap (λ x. is_some (word_in (view x))) (sym same) ∙ and_first _ _ (sym (is_some-joined (word_in (view u)) (words_in (items (map view ts)))) ∙ h)
word_stands (u ∷ ts) (suc k) t h g = word_stands ts k t (and_second (is_some (word_in (view u))) _ (sym (is_some-joined (word_in (view u)) (words_in (items (map view ts)))) ∙ h)) g

-- what stands at a place
pub got_here : {A : Type 0} (xs : List A) (k : ℕ) (x : A) → k < length xs → x ≡ get_or xs k x → slice_get xs k ≡ Some x
got_here xs k x lt is = slice_get-get_or xs k x lt ∙ ap Some (sym is)

-- a list of words, as it is kept
pub ints_within : (l : NbtList) (v : Vec ℤ Global) (i : ℕ) → l ≡ Ints v → HasWord (list_view l) i → i < length v.items
ints_within l v i is h =
    let n : length (of_items (list_view l)) ≡ length v.items = ap (λ k. length (of_items (list_view k))) is ∙ ap length (of_items-Ints v) ∙ length-map v.items int in
    let w = h.within in
    omega arith

pub trees_within : (l : NbtList) (v : Vec Nbt Global) (i : ℕ) → l ≡ Trees v → HasWord (list_view l) i → i < length v.items
trees_within l v i is h =
    let n : length (of_items (list_view l)) ≡ length v.items = ap (λ k. length (of_items (list_view k))) is ∙ ap length (of_items-Trees v) ∙ length-map v.items view in
    let w = h.within in
    omega arith

pub ints_got : (l : NbtList) (v : Vec ℤ Global) (i : ℕ) (o : Option Tree) → l ≡ Ints v → slice_get (map int v.items) i ≡ o → slice_get (of_items (list_view l)) i ≡ o
ints_got l v i o is h = ap (λ k. slice_get (of_items (list_view k)) i) is ∙ ap (λ ts. slice_get ts i) (of_items-Ints v) ∙ h

pub trees_got : (l : NbtList) (v : Vec Nbt Global) (i : ℕ) (o : Option Tree) → l ≡ Trees v → slice_get (map view v.items) i ≡ o → slice_get (of_items (list_view l)) i ≡ o
trees_got l v i o is h = ap (λ k. slice_get (of_items (list_view k)) i) is ∙ ap (λ ts. slice_get ts i) (of_items-Trees v) ∙ h

-- each of the pages is one
pub page_stands : (ts : List Nbt) (k : ℕ) (t : Nbt) → ArePages ts → slice_get ts k ≡ Some t → IsPage t
page_stands [] k t h g = absurd cc
page_stands (u ∷ ts) zero t h g =
    let same : u ≡ t = cc in
    ap (λ x. is_some (page_in (view x))) (sym same) ∙ and_first _ _ (sym (is_some-joined (page_in (view u)) (bytes_of ts)) ∙ h)
page_stands (u ∷ ts) (suc k) t h g = page_stands ts k t (and_second (is_some (page_in (view u))) _ (sym (is_some-joined (page_in (view u)) (bytes_of ts)) ∙ h)) g

-- one more element of the front
pub take_one : {A : Type 0} (xs : List A) (n : ℕ) (x : A) → slice_get xs n ≡ Some x → take (n + 1) xs ≡ take n xs ++ x ∷ []
take_one [] n x h = absurd cc
take_one (y ∷ xs) zero x h = let same : y ≡ x = cc in ap (λ z. z ∷ []) same
take_one (y ∷ xs) (suc n) x h =
    let e : suc n + 1 ≡ suc (n + 1) = omega arith in
    ap (λ m. take m (y ∷ xs)) e ∙ ap (λ l. y ∷ l) (take_one xs n x h)

pub get-drop : {A : Type 0} (xs : List A) (n i : ℕ) → slice_get (drop n xs) i ≡ slice_get xs (n + i)
get-drop [] zero i = refl
get-drop [] (suc n) i = refl
get-drop (x ∷ xs) zero i = ap (slice_get (x ∷ xs)) (omega arith)
get-drop (x ∷ xs) (suc n) i =
    let e : suc n + i ≡ suc (n + i) = omega arith in
    get-drop xs n i ∙ ap (slice_get (x ∷ xs)) (sym e)

-- a list of words has the word of each of its bytes
words_within : (ts : Items) (i k : ℕ) → is_some (page_in (list ts)) ≡ true → i < 65536 → k ≡ i / 4 → HasWord ts k
words_within ts i k h lt at =
    let p = page_has_words ts h in
    let n : length (of_items ts) ≡ 16384 = p.1 in
    record { words = p.0; within = omega arith }

-- a page has the word of each of its bytes
pub has_word : (t : Nbt) (l : NbtList) (i : ℕ) → IsPage t → t ≡ ListOf l → i < 65536 → HasWord (list_view l) (i / 4)
has_word t l i h same lt = words_within (list_view l) i (i / 4) (ap (λ u. is_some (page_in u)) (sym (ap view same ∙ view-List l)) ∙ h) lt refl

-- and the byte is one of that word
pub byte_here : (t : Nbt) (l : NbtList) (bs : List ℕ) (i : ℕ) (z : ℤ) (b : ℕ) → t ≡ ListOf l → page_in (view t) ≡ Some bs → FitsSigned w32 z → slice_get (of_items (list_view l)) (i / 4) ≡ Some (int z) → slice_get (four_bytes (word_number (to_z w32 (of_z w32 z)))) (i % 4) ≡ Some b → slice_get bs i ≡ Some b
byte_here t l bs i z b same h fits word byte =
    page_at (list_view l) bs i (i / 4) (i % 4) z b (sym (ap (λ u. page_in u) (ap view same ∙ view-List l)) ∙ h) (omega arith) (omega arith) word (ap (λ n. slice_get (four_bytes (word_number n)) (i % 4)) (sym (to_z-of_z w32 z fits)) ∙ byte)

-- what is printed of bytes that are in the memory, or not
pub shown_outside : (ts : List Nbt) (at len : ℕ) → ArePages ts → 65536 * length ts < at + len → shown_bytes at len (bytes_of ts) ≡ ended_line (codes "outside")
shown_outside ts at len h past = go (bytes_of ts) refl h
  where
    go : (o : Option (List ℕ)) → bytes_of ts ≡ o → is_some o ≡ true → shown_bytes at len o ≡ ended_line (codes "outside")
    go None e h = absurd cc
    go (Some bs) e h =
        let n = pages_length ts bs e in
        ap (λ b. ended_line (if b then encode_lower (take len (drop at bs)) else codes "outside")) (lt-leb (at + len) (length bs) (omega arith))

pub shown_inside : (ts : List Nbt) (at len : ℕ) (v : List ℕ) → ArePages ts → at + len ≤ 65536 * length ts → ((bytes : List ℕ) → bytes_of ts ≡ Some bytes → v ≡ take len (drop at bytes)) → shown_bytes at len (bytes_of ts) ≡ ended_line (encode_lower v)
shown_inside ts at len v h within is = go (bytes_of ts) refl h
  where
    go : (o : Option (List ℕ)) → bytes_of ts ≡ o → is_some o ≡ true → shown_bytes at len o ≡ ended_line (encode_lower v)
    go None e h = absurd cc
    go (Some bs) e h =
        let n = pages_length ts bs e in
        ap (λ b. ended_line (if b then encode_lower (take len (drop at bs)) else codes "outside")) (le-leb (at + len) (length bs) (omega arith))
        ∙ ap (λ l. ended_line (encode_lower l)) (sym (is bs e))
