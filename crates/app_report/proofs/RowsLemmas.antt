-- The lines of rows of memory, page by page.
use Rattle.std.proofs.Common.{◌≡◌, ◌∙◌, refl, ap, ap₂, sym, ℕ, zero, suc, ◌+◌, ◌-◌, ◌*◌, ◌/◌, ◌^◌, ◌<◌, ◌≤◌, List, [], ◌∷◌, ◌++◌, length, take, drop, get_or, replicate, true, false, Option, Some, None, arith, append_assoc, append-nil, length-append, length-drop}
use Rattle.std.specs.Prelude.{codes, is_some, nat_eq, if◌then◌else◌}
use Rattle.std.specs.List.{list_all}
use Rattle.hex.specs.Hex.{encode_lower}
use Rattle.std.specs.Fmt.{digits, padded_integral, format_spec, char_count}
use Rattle.std.proofs.lemmas.List.{drop-drop}
use Rattle.mc_cmd.specs.Form.{Text}
use Rattle.mc_cmd.specs.Layout.{joined, memory, page_in}
use Rattle.mc_cmd.specs.World.{World}
use Rattle.mc_nbt.specs.View.{view}
use Rattle.mc_nbt.specs.declared.tree.Nbt.{Nbt}
use Rattle.app_words.specs.Lines.{ended_line, address_text, row_line, row_lines, shown_rows, show_text, globals_text, dump_text}
use Rattle.app_report.specs.steps.Pages.{bytes_of, ArePages, IsPage, rows_from}
use Rattle.app_report.proofs.PagesLemmas.{page_length, pages_length}

-- the padding of an address
pub padded_address : (n : ℕ) → padded_integral (format_spec 32 0 4 8 (2 ^ 64 - 1)) false [] (digits 16 false n) ≡ address_text n
unfolding padded_integral char_count
padded_address n =
    let short : 8 - length (digits 16 false n) - 0 - 0 ≡ 8 - length (digits 16 false n) = omega arith in
    ap₂ (λ k t. replicate k 48 ++ t) short (append-nil (digits 16 false n))

-- the rows of a list whose front has just so many
take_within : {A : Type 0} (n : ℕ) (xs ys : List A) → n ≤ length xs → take n (xs ++ ys) ≡ take n xs
take_within zero xs ys h = refl
take_within (suc n) [] ys h = absurd (omega arith)
take_within (suc n) (x ∷ xs) ys h = ap (λ l. x ∷ l) (take_within n xs ys (omega arith))

drop_within : {A : Type 0} (n : ℕ) (xs ys : List A) → n ≤ length xs → drop n (xs ++ ys) ≡ drop n xs ++ ys
drop_within zero xs ys h = refl
drop_within (suc n) [] ys h = absurd (omega arith)
drop_within (suc n) (x ∷ xs) ys h = drop_within n xs ys (omega arith)

empty : {A : Type 0} (xs : List A) → length xs ≡ 0 → xs ≡ []
empty [] h = refl
empty (x ∷ xs) h = absurd (omega arith)

rows_apart : (m n at : ℕ) (xs ys : List ℕ) → length xs ≡ 16 * m → row_lines (m + n) at (xs ++ ys) ≡ row_lines m at xs ++ row_lines n (at + 16 * m) ys
rows_apart zero n at xs ys h =
    let none : xs ≡ [] = empty xs (omega arith) in
    let same : at + 16 * zero ≡ at = omega arith in
    let count : zero + n ≡ n = omega arith in
    ap (λ k. row_lines k at (xs ++ ys)) count ∙ ap (λ l. row_lines n at (l ++ ys)) none ∙ ap (λ a. row_lines n a ys) (sym same)
rows_apart (suc m) n at xs ys h =
    let long : 16 ≤ length xs = omega arith in
    let left : length (drop 16 xs) ≡ 16 * m = omega (arith, length-drop 16 xs) in
    let count : suc m + n ≡ suc (m + n) = omega arith in
    let there : at + 16 + 16 * m ≡ at + 16 * suc m = omega arith in
    ap (λ k. row_lines k at (xs ++ ys)) count
    ∙ ap₂ (λ r l. row_line at r ++ row_lines (m + n) (at + 16) l) (take_within 16 xs ys long) (drop_within 16 xs ys long)
    ∙ ap (λ t. row_line at (take 16 xs) ++ t) (rows_apart m n (at + 16) (drop 16 xs) ys left)
    ∙ sym (append_assoc (row_line at (take 16 xs)) (row_lines m (at + 16) (drop 16 xs)) (row_lines n (at + 16 + 16 * m) ys))
    ∙ ap (λ a. (row_line at (take 16 xs) ++ row_lines m (at + 16) (drop 16 xs)) ++ row_lines n a ys) there

-- the rows of the first page, and those of the others
both_rows : (at : ℕ) (t : Nbt) (ts : List Nbt) (o p : Option (List ℕ)) → page_in (view t) ≡ o → bytes_of ts ≡ p → is_some (joined o p) ≡ true → rows_from at (joined o p) ≡ rows_from at o ++ rows_from (at + 65536) p
both_rows at t ts None p e f h = absurd cc
both_rows at t ts (Some x) None e f h = absurd cc
both_rows at t ts (Some x) (Some y) e f h =
    let n = page_length (view t) x e in
    let m = pages_length ts y f in
    let whole = length-append x y in
    let rows : length (x ++ y) / 16 ≡ length x / 16 + length y / 16 = omega arith in
    let here : length x ≡ 16 * (length x / 16) = omega arith in
    let there : at + 16 * (length x / 16) ≡ at + 65536 = omega arith in
    ap (λ k. row_lines k at (x ++ y)) rows
    ∙ rows_apart (length x / 16) (length y / 16) at x y here
    ∙ ap (λ a. row_lines (length x / 16) at x ++ row_lines (length y / 16) a y) there

pub rows_from-cons : (at : ℕ) (t : Nbt) (ts : List Nbt) → ArePages (t ∷ ts) → rows_from at (bytes_of (t ∷ ts)) ≡ rows_from at (page_in (view t)) ++ rows_from (at + 65536) (bytes_of ts)
rows_from-cons at t ts h = both_rows at t ts (page_in (view t)) (bytes_of ts) refl refl h

pages_behind : (t : Nbt) (ts : List Nbt) → ArePages (t ∷ ts) → IsPage t × ArePages ts
pages_behind t ts h = go (page_in (view t)) (bytes_of ts) h
  where
    go : (o p : Option (List ℕ)) → is_some (joined o p) ≡ true → (is_some o ≡ true) × (is_some p ≡ true)
    go (Some x) (Some y) h = (refl, refl)
    go (Some x) None h = absurd cc
    go None p h = absurd cc

-- the page at a place, and what is behind it
drop_here : (ts : List Nbt) (i : ℕ) (t : Nbt) → i < length ts → t ≡ get_or ts i t → drop i ts ≡ t ∷ drop (i + 1) ts
drop_here [] i t lt is = absurd (omega arith)
drop_here (u ∷ ts) zero t lt is = ap (λ x. x ∷ ts) (sym is)
drop_here (u ∷ ts) (suc i) t lt is =
    let e : suc i + 1 ≡ suc (i + 1) = omega arith in
    drop_here ts i t (omega arith) is ∙ ap (λ n. t ∷ drop n (u ∷ ts)) (sym e)

pub page_here : (ts : List Nbt) (i : ℕ) (t : Nbt) → i < length ts → t ≡ get_or ts i t → ArePages (drop i ts) → IsPage t
page_here ts i t lt is h = (pages_behind t (drop (i + 1) ts) (ap (λ l. is_some (bytes_of l)) (sym (drop_here ts i t lt is)) ∙ h)).0

pub pages_left : (ts : List Nbt) (i : ℕ) (t : Nbt) → i < length ts → t ≡ get_or ts i t → ArePages (drop i ts) → ArePages (drop (i + 1) ts)
pages_left ts i t lt is h = (pages_behind t (drop (i + 1) ts) (ap (λ l. is_some (bytes_of l)) (sym (drop_here ts i t lt is)) ∙ h)).1

-- the rows of one more page
pub page_step : (ts : List Nbt) (i at : ℕ) (t : Nbt) (text lines new whole : Text) → i < length ts → t ≡ get_or ts i t → ArePages (drop i ts) → at ≡ 65536 * i → lines ≡ rows_from at (page_in (view t)) → new ≡ text ++ lines → text ++ rows_from (65536 * i) (bytes_of (drop i ts)) ≡ whole → new ++ rows_from (65536 * (i + 1)) (bytes_of (drop (i + 1) ts)) ≡ whole
page_step ts i at t text lines new whole lt is h place line-is new-is so_far =
    let rest = drop (i + 1) ts in
    let here = drop_here ts i t lt is in
    let are : ArePages (t ∷ rest) = ap (λ l. is_some (bytes_of l)) (sym here) ∙ h in
    let next : 65536 * i + 65536 ≡ 65536 * (i + 1) = omega arith in
    let these : lines ≡ rows_from (65536 * i) (page_in (view t)) = line-is ∙ ap (λ a. rows_from a (page_in (view t))) place in
    ap (λ l. l ++ rows_from (65536 * (i + 1)) (bytes_of rest)) new-is
    ∙ append_assoc text lines (rows_from (65536 * (i + 1)) (bytes_of rest))
    ∙ ap₂ (λ l a. text ++ (l ++ rows_from a (bytes_of rest))) these (sym next)
    ∙ ap (λ l. text ++ l) (sym (rows_from-cons (65536 * i) t rest are))
    ∙ ap (λ l. text ++ rows_from (65536 * i) (bytes_of l)) (sym here)
    ∙ so_far

-- pages show their rows
pub shown-rows : (ts : List Nbt) → ArePages ts → rows_from 0 (bytes_of ts) ≡ shown_rows (bytes_of ts)
shown-rows ts h = go (bytes_of ts) h
  where
    go : (o : Option (List ℕ)) → is_some o ≡ true → rows_from 0 o ≡ shown_rows o
    go (Some bs) h = refl
    go None h = absurd cc

-- the rows that are left of a page from a place on
abbrev pub rows_left : ℕ → ℕ → List ℕ → Text
rows_left at i bytes = row_lines (length bytes / 16 - i) (at + 16 * i) (drop (16 * i) bytes)

pub rows_first : (at : ℕ) (bytes : List ℕ) → rows_left at 0 bytes ≡ row_lines (length bytes / 16) at bytes
rows_first at bytes =
    let n : length bytes / 16 - 0 ≡ length bytes / 16 = omega arith in
    let a : at + 16 * 0 ≡ at = omega arith in
    ap₂ (λ k b. row_lines k b bytes) n a

pub rows_last : (at i : ℕ) (bytes : List ℕ) → length bytes ≡ 65536 → 4096 ≤ i → rows_left at i bytes ≡ []
rows_last at i bytes n h =
    let none : length bytes / 16 - i ≡ 0 = omega arith in
    ap (λ k. row_lines k (at + 16 * i) (drop (16 * i) bytes)) none

-- a row, and those behind it
pub row_step : (i at place : ℕ) (bytes row : List ℕ) (text line new whole : Text) → length bytes ≡ 65536 → i < 4096 → row ≡ take 16 (drop (16 * i) bytes) → place ≡ at + 16 * i → line ≡ row_line place row → new ≡ text ++ line → text ++ rows_left at i bytes ≡ whole → new ++ rows_left at (i + 1) bytes ≡ whole
row_step i at place bytes row text line new whole n lt row-is place-is line-is new-is h =
    let count : length bytes / 16 - i ≡ suc (length bytes / 16 - (i + 1)) = omega arith in
    let there : at + 16 * i + 16 ≡ at + 16 * (i + 1) = omega arith in
    let more : 16 * i + 16 ≡ 16 * (i + 1) = omega arith in
    let behind : drop 16 (drop (16 * i) bytes) ≡ drop (16 * (i + 1)) bytes = drop-drop 16 (16 * i) bytes ∙ ap (λ n. drop n bytes) more in
    let first : line ≡ row_line (at + 16 * i) (take 16 (drop (16 * i) bytes)) = line-is ∙ ap₂ row_line place-is row-is in
    let left = length bytes / 16 - (i + 1) in
    ap (λ l. l ++ rows_left at (i + 1) bytes) new-is
    ∙ append_assoc text line (rows_left at (i + 1) bytes)
    ∙ ap₂ (λ a l. text ++ (line ++ row_lines left a l)) (sym there) (sym behind)
    ∙ ap (λ l. text ++ (l ++ row_lines left (at + 16 * i + 16) (drop 16 (drop (16 * i) bytes)))) first
    ∙ ap (λ k. text ++ row_lines k (at + 16 * i) (drop (16 * i) bytes)) (sym count)
    ∙ h

-- all rows of a page
pub page_end : (t : Nbt) (at i : ℕ) (text : Text) → IsPage t → 4096 ≤ i → ((bytes : List ℕ) → page_in (view t) ≡ Some bytes → text ++ rows_left at i bytes ≡ row_lines (length bytes / 16) at bytes) → text ≡ rows_from at (page_in (view t))
page_end t at i text h last so_far = go (page_in (view t)) refl h
  where
    go : (o : Option (List ℕ)) → page_in (view t) ≡ o → is_some o ≡ true → text ≡ rows_from at o
    go None e h = absurd cc
    go (Some bytes) e h = sym (append-nil text) ∙ ap (λ l. text ++ l) (sym (rows_last at i bytes (page_length (view t) bytes e) last)) ∙ so_far bytes e

-- all rows of all pages
pub pages_end : (ts : List Nbt) (i at : ℕ) (text : Text) → ArePages ts → length ts ≤ i → text ++ rows_from at (bytes_of (drop i ts)) ≡ rows_from 0 (bytes_of ts) → text ≡ shown_rows (bytes_of ts)
pages_end ts i at text h last so_far =
    let none : drop i ts ≡ [] = empty (drop i ts) (omega (arith, length-drop i ts)) in
    sym (append-nil text) ∙ ap (λ l. text ++ rows_from at (bytes_of l)) (sym none) ∙ so_far ∙ shown-rows ts h

-- a row that isn't all zero
pub row_line-shown : (at : ℕ) (row : List ℕ) → false ≡ list_all (λ b. nat_eq b 0) row → address_text at ++ (32 ∷ ended_line (encode_lower row)) ≡ row_line at row
row_line-shown at row h = ap (λ b. if b then [] else (address_text at ++ (32 ∷ ended_line (encode_lower row)))) h

-- what is printed piece by piece
pub in_pieces : (a b c d t u v : Text) → t ≡ a ++ b → u ≡ t ++ c → v ≡ u ++ d → v ≡ a ++ (b ++ (c ++ d))
in_pieces a b c d t u v e f g =
    g ∙ ap (λ x. x ++ d) (f ∙ ap (λ x. x ++ c) e) ∙ append_assoc (a ++ b) c d ∙ append_assoc a b (c ++ d)

pub dump_is : (ns : Text) (w : World) (n a g r x y t : Text) → n ≡ ns → a ≡ show_text n w → g ≡ globals_text n w → r ≡ shown_rows (memory n w) → x ≡ g → y ≡ r → t ≡ a ++ (x ++ (y ++ ended_line (codes "end"))) → t ≡ dump_text ns w
dump_is ns w n a g r x y t same a-is g-is r-is x-is y-is h =
    h
    ∙ ap (λ v. v ++ (x ++ (y ++ ended_line (codes "end")))) (a-is ∙ ap (λ m. show_text m w) same)
    ∙ ap (λ v. show_text ns w ++ (v ++ (y ++ ended_line (codes "end")))) (x-is ∙ g-is ∙ ap (λ m. globals_text m w) same)
    ∙ ap (λ v. show_text ns w ++ (globals_text ns w ++ (v ++ ended_line (codes "end")))) (y-is ∙ r-is ∙ ap (λ m. shown_rows (memory m w)) same)
