-- The text of a macro line filled by different numbers: it is read alike, as far as words without numbers tell. This
-- speaks of lines alone, and would stand as well in `mc_cmd`.
use Rattle.std.proofs.Common.{◌≡◌, ℕ, zero, suc, ◌<◌, ◌%◌, ◌/◌, List, [], ◌∷◌, ◌++◌, Option, Some, None, Bool, true, false, refl, sym, ap, ap₂, ◌∙◌, subst, arith, append-nil}
use Rattle.std.specs.Prelude.{ℤ, pos, negsuc, ◌+◌, ◌==◌, nat_eq, not, ◌&&◌, ◌||◌, if◌then◌else◌, option_map, option_and_then, codes}
use Rattle.std.specs.List.{list_all}
use Rattle.std.specs.Str.{bytes_eq}
use Rattle.std.specs.Fmt.{signed_decimal, decimal, digits, digits_onto, digit_glyph}
use Rattle.std.proofs.lemmas.Bool.{and_from, lt-ltb, ne_eqb}
use Rattle.std.proofs.lemmas.Slice.Eq.{bytes_eq-Decides}
use Rattle.mc_nbt.proofs.TestLemmas.{other}
use Rattle.mc_nbt.proofs.TreeLemmas.{bytes_refl}
use Rattle.mc_nbt.specs.Tree.{Tree, int, string, list, compound, Fields, of_fields, find}
use Rattle.mc_cmd.specs.Form.{Text, only_if, strip, cut_here, cut_at}
use Rattle.mc_cmd.specs.Command.{PatternPart, literal, hole}
use Rattle.mc_cmd.specs.Fill.{Filled, filled, missing, plain_text, behind, fill_hole, fill_from}
use Rattle.mc_cmd.specs.Layout.{io_of, memory_of, rest_of}
use Rattle.mc_cmd.specs.Tidy.{own_objective, own_storage, own_function, is_before, parts_by}
use Rattle.mc_cmd.proofs.WordLemmas.{is_number_byte}
use Rattle.mc_together.specs.Bare.{is_bare}
use Rattle.mc_together.proofs.BareLemmas.{find_bare}
use Rattle.mc_together.proofs.BareLemmas as bare
use Rattle.mc_together.proofs.EffectLemmas.{first, second}

-- a byte as it stands, or a number that is filled in
pub data Mark : Type 0 where
  byte : ℕ → Mark
  number : Text → Mark

abbrev begins : Text → Bool
begins [] = false
begins (b ∷ t) = true

-- the text of a number
abbrev pub is_numeric : Text → Bool
is_numeric d = begins d && list_all is_number_byte d

abbrev pub marks_fit : List Mark → Bool
marks_fit [] = true
marks_fit (byte b ∷ ms) = marks_fit ms
marks_fit (number d ∷ ms) = is_numeric d && marks_fit ms

-- the text with these texts for the numbers
abbrev pub text_with : (Text → Text) → List Mark → Text
text_with f [] = []
text_with f (byte b ∷ ms) = b ∷ text_with f ms
text_with f (number d ∷ ms) = f d ++ text_with f ms

abbrev pub Good : (Text → Text) → Type 0
Good f = (d : Text) → is_numeric d ≡ true → is_numeric (f d) ≡ true

abbrev pub zeros : Text → Text
zeros d = 48 ∷ []

abbrev pub ones : Text → Text
ones d = 49 ∷ []

abbrev pub itself : Text → Text
itself d = d

pub zeros_good : Good zeros
zeros_good d h = refl

pub ones_good : Good ones
ones_good d h = refl

pub itself_good : Good itself
itself_good d h = h

-- no byte of a number
abbrev pub is_other : ℕ → Bool
is_other b = not (is_number_byte b)

not_number : (b : ℕ) → is_other b ≡ true → is_number_byte b ≡ false
not_number b h = go (is_number_byte b) h
  where
    go : (c : Bool) → not c ≡ true → c ≡ false
    go true h = absurd cc
    go false h = refl

unlike : (a b : ℕ) → is_number_byte a ≡ false → is_number_byte b ≡ true → nat_eq a b ≡ false
unlike a b n h = ne_eqb a b (λ e. let f : is_number_byte a ≡ true = subst (λ x. is_number_byte x ≡ true) (sym e) h in cc)

-- ---- a fixed text in front

number_stops : (a : ℕ) (k d t : Text) → is_number_byte a ≡ false → is_numeric d ≡ true → strip (a ∷ k) (d ++ t) ≡ None
number_stops a k [] t n h = absurd cc
number_stops a k (b ∷ d) t n h = ap (λ c. only_if c (strip k (d ++ t))) (unlike a b n (first (is_number_byte b) (list_all is_number_byte d) h))

pub data Stripped (k : Text) (ms : List Mark) : Type 0 where
  stops : ((f : Text → Text) → Good f → strip k (text_with f ms) ≡ None) → Stripped k ms
  leaves : (rs : List Mark) → marks_fit rs ≡ true → ((f : Text → Text) → Good f → strip k (text_with f ms) ≡ Some (text_with f rs)) → Stripped k ms

pub strip_marks : (k : Text) → list_all is_other k ≡ true → (ms : List Mark) → marks_fit ms ≡ true → Stripped k ms
strip_marks [] h ms g = leaves ms g (λ f y. refl)
strip_marks (a ∷ k) h [] g = stops (λ f y. refl)
strip_marks (a ∷ k) h (byte b ∷ ms) g = go (nat_eq a b) refl (strip_marks k (second (is_other a) (list_all is_other k) h) ms g)
  where
    go : (c : Bool) → nat_eq a b ≡ c → Stripped k ms → Stripped (a ∷ k) (byte b ∷ ms)
    go true e (stops n) = stops (λ f y. ap (λ c. only_if c (strip k (text_with f ms))) e ∙ n f y)
    go true e (leaves rs q r) = leaves rs q (λ f y. ap (λ c. only_if c (strip k (text_with f ms))) e ∙ r f y)
    go false e s = stops (λ f y. ap (λ c. only_if c (strip k (text_with f ms))) e)
strip_marks (a ∷ k) h (number d ∷ ms) g =
    stops (λ f y. number_stops a k (f d) (text_with f ms) (not_number a (first (is_other a) (list_all is_other k) h)) (y d (first (is_numeric d) (marks_fit ms) g)))

-- ---- a separator

-- a text in front of the first part of a cut
abbrev fronted : Text → Text × Text → Text × Text
fronted d p = (d ++ p.0, p.1)

same_cut : (o : Option (Text × Text)) → o ≡ option_map (fronted []) o
same_cut None = refl
same_cut (Some p) = refl

twice_cut : (b : ℕ) (d : Text) (o : Option (Text × Text)) → option_map (fronted (b ∷ [])) (option_map (fronted d) o) ≡ option_map (fronted (b ∷ d)) o
twice_cut b d None = refl
twice_cut b d (Some p) = refl

cut_over : (c : ℕ) (d t : Text) → is_number_byte c ≡ false → list_all is_number_byte d ≡ true → cut_at c (d ++ t) ≡ option_map (fronted d) (cut_at c t)
cut_over c [] t n h = same_cut (cut_at c t)
cut_over c (b ∷ d) t n h =
    ap (λ x. cut_here x b (d ++ t) (cut_at c (d ++ t))) (other is_number_byte c b n (first (is_number_byte b) (list_all is_number_byte d) h))
    ∙ ap (option_map (fronted (b ∷ []))) (cut_over c d t n (second (is_number_byte b) (list_all is_number_byte d) h))
    ∙ twice_cut b d (cut_at c t)

pub data Cut (c : ℕ) (ms : List Mark) : Type 0 where
  whole : ((f : Text → Text) → Good f → cut_at c (text_with f ms) ≡ None) → Cut c ms
  parts : (ws rs : List Mark) → marks_fit ws ≡ true → marks_fit rs ≡ true → ((f : Text → Text) → Good f → cut_at c (text_with f ms) ≡ Some (text_with f ws, text_with f rs)) → Cut c ms

numeric_bytes : (d : Text) → is_numeric d ≡ true → list_all is_number_byte d ≡ true
numeric_bytes d h = second (begins d) (list_all is_number_byte d) h

pub cut_marks : (c : ℕ) → is_number_byte c ≡ false → (ms : List Mark) → marks_fit ms ≡ true → Cut c ms
cut_marks c n [] g = whole (λ f y. refl)
cut_marks c n (byte b ∷ ms) g = go (nat_eq b c) refl (cut_marks c n ms g)
  where
    go : (d : Bool) → nat_eq b c ≡ d → Cut c ms → Cut c (byte b ∷ ms)
    go true e x = parts [] ms refl g (λ f y. ap (λ d. cut_here d b (text_with f ms) (cut_at c (text_with f ms))) e)
    go false e (whole m) = whole (λ f y. ap (λ d. cut_here d b (text_with f ms) (cut_at c (text_with f ms))) e ∙ ap (option_map (fronted (b ∷ []))) (m f y))
    go false e (parts ws rs u v r) = parts (byte b ∷ ws) rs u v (λ f y. ap (λ d. cut_here d b (text_with f ms) (cut_at c (text_with f ms))) e ∙ ap (option_map (fronted (b ∷ []))) (r f y))
cut_marks c n (number d ∷ ms) g = go (cut_marks c n ms (second (is_numeric d) (marks_fit ms) g))
  where
    over : (f : Text → Text) → Good f → cut_at c (f d ++ text_with f ms) ≡ option_map (fronted (f d)) (cut_at c (text_with f ms))
    over f y = cut_over c (f d) (text_with f ms) n (numeric_bytes (f d) (y d (first (is_numeric d) (marks_fit ms) g)))

    go : Cut c ms → Cut c (number d ∷ ms)
    go (whole m) = whole (λ f y. over f y ∙ ap (option_map (fronted (f d))) (m f y))
    go (parts ws rs u v r) = parts (number d ∷ ws) rs (and_from (is_numeric d) (marks_fit ws) (first (is_numeric d) (marks_fit ms) g) u) v (λ f y. over f y ∙ ap (option_map (fronted (f d))) (r f y))

-- ---- tests that are steady: true with 0 and with 1 for each number, they are true with the numbers

pub record Steady (P : Text → Bool) : Type 0 where
  pub by : (ms : List Mark) → marks_fit ms ≡ true → P (text_with zeros ms) ≡ true → P (text_with ones ms) ≡ true → P (text_with itself ms) ≡ true

pub steady_true : Steady (λ t. true)
steady_true = record { by = λ ms g h k. refl }

abbrev pub stripped : Option Text → (Text → Bool) → Bool → Bool
stripped None A b = b
stripped (Some r) A b = A r

abbrev pub with_strip : Text → (Text → Bool) → (Text → Bool) → Text → Bool
with_strip k A B t = stripped (strip k t) A (B t)

pub steady_strip : (k : Text) → list_all is_other k ≡ true → (A B : Text → Bool) → Steady A → Steady B → Steady (with_strip k A B)
steady_strip k n A B a b = record { by = λ ms g h i. go ms g h i (strip_marks k n ms g) }
  where
    go : (ms : List Mark) → marks_fit ms ≡ true → with_strip k A B (text_with zeros ms) ≡ true → with_strip k A B (text_with ones ms) ≡ true → Stripped k ms → with_strip k A B (text_with itself ms) ≡ true
    go ms g h i (stops s) =
        let at : (f : Text → Text) → Good f → with_strip k A B (text_with f ms) ≡ B (text_with f ms) = λ f y. ap (λ o. stripped o A (B (text_with f ms))) (s f y) in
        at itself itself_good ∙ b.by ms g (sym (at zeros zeros_good) ∙ h) (sym (at ones ones_good) ∙ i)
    go ms g h i (leaves rs q s) =
        let at : (f : Text → Text) → Good f → with_strip k A B (text_with f ms) ≡ A (text_with f rs) = λ f y. ap (λ o. stripped o A (B (text_with f ms))) (s f y) in
        at itself itself_good ∙ a.by rs q (sym (at zeros zeros_good) ∙ h) (sym (at ones ones_good) ∙ i)

-- the first word, and what is behind it
abbrev pub cut_test : Option (Text × Text) → Bool → (Text → Bool) → (Text → Bool) → Bool
cut_test None b W R = b
cut_test (Some p) b W R = W p.0 && R p.1

abbrev pub word : (Text → Bool) → (Text → Bool) → Text → Bool
word W R t = cut_test (cut_at 32 t) (W t) W R

pub steady_word : (W R : Text → Bool) → Steady W → Steady R → Steady (word W R)
steady_word W R a b = record { by = λ ms g h i. go ms g h i (cut_marks 32 refl ms g) }
  where
    go : (ms : List Mark) → marks_fit ms ≡ true → word W R (text_with zeros ms) ≡ true → word W R (text_with ones ms) ≡ true → Cut 32 ms → word W R (text_with itself ms) ≡ true
    go ms g h i (whole s) =
        let at : (f : Text → Text) → Good f → word W R (text_with f ms) ≡ W (text_with f ms) = λ f y. ap (λ o. cut_test o (W (text_with f ms)) W R) (s f y) in
        at itself itself_good ∙ a.by ms g (sym (at zeros zeros_good) ∙ h) (sym (at ones ones_good) ∙ i)
    go ms g h i (parts ws rs u v s) =
        let at : (f : Text → Text) → Good f → word W R (text_with f ms) ≡ W (text_with f ws) && R (text_with f rs) = λ f y. ap (λ o. cut_test o (W (text_with f ms)) W R) (s f y) in
        let h' = sym (at zeros zeros_good) ∙ h in
        let i' = sym (at ones ones_good) ∙ i in
        at itself itself_good
        ∙ and_from _ _ (a.by ws u (first (W (text_with zeros ws)) _ h') (first (W (text_with ones ws)) _ i')) (b.by rs v (second (W (text_with zeros ws)) (R (text_with zeros rs)) h') (second (W (text_with ones ws)) (R (text_with ones rs)) i'))

-- ---- names

-- a text without numbers is the same with any
whole_same : (x : Text) → list_all is_other x ≡ true → (ms : List Mark) → text_with zeros ms ≡ x → text_with itself ms ≡ x
whole_same x n [] h = h
whole_same [] n (byte b ∷ ms) h = absurd cc
whole_same (a ∷ x) n (byte b ∷ ms) h =
    let e : text_with zeros ms ≡ x = cc in
    let d : b ≡ a = cc in
    ap₂ (λ c l. c ∷ l) d (whole_same x (second (is_other a) (list_all is_other x) n) ms e)
whole_same [] n (number d ∷ ms) h = absurd cc
whole_same (a ∷ x) n (number d ∷ ms) h =
    let e : 48 ≡ a = cc in
    let f : is_other 48 ≡ true = subst (λ c. is_other c ≡ true) (sym e) (first (is_other a) (list_all is_other x) n) in
    absurd cc

own_same : (a x y : Text) → list_all is_other x ≡ true → (ms : List Mark) → text_with zeros ms ≡ a ++ x → text_with ones ms ≡ a ++ y → text_with itself ms ≡ a ++ x
own_same [] x y n ms h k = whole_same x n ms h
own_same (b ∷ a) x y n [] h k = h
own_same (b ∷ a) x y n (byte c ∷ ms) h k =
    let e : text_with zeros ms ≡ a ++ x = cc in
    let f : text_with ones ms ≡ a ++ y = cc in
    let d : c ≡ b = cc in
    ap₂ (λ c l. c ∷ l) d (own_same a x y n ms e f)
own_same (b ∷ a) x y n (number d ∷ ms) h k =
    let e : 48 ≡ b = cc in
    let f : 49 ≡ b = cc in
    absurd (omega arith)

module _ (ns : Text) where
  pub steady_objective : Steady (own_objective ns)
  steady_objective = record {
    by = λ ms g h k.
        let e : text_with zeros ms ≡ ns = (bytes_eq-Decides (text_with zeros ms) ns).0 h in
        let f : text_with ones ms ≡ ns = (bytes_eq-Decides (text_with ones ms) ns).0 k in
        let same : text_with itself ms ≡ ns ++ [] = own_same ns [] [] refl ms (e ∙ sym (append-nil ns)) (f ∙ sym (append-nil ns)) in
        ap (λ t. bytes_eq t ns) (same ∙ append-nil ns) ∙ bytes_refl ns;
  }

  record Storage (i : Text) : Type 0 where
    tail : Text
    plain : list_all is_other tail ≡ true
    is : i ≡ ns ++ tail

  storage_of : (i : Text) → own_storage ns i ≡ true → Storage i
  storage_of i h = go (bytes_eq i (io_of ns)) refl (bytes_eq i (memory_of ns)) refl (bytes_eq i (rest_of ns)) refl h
    where
      go : (a : Bool) → bytes_eq i (io_of ns) ≡ a → (b : Bool) → bytes_eq i (memory_of ns) ≡ b → (c : Bool) → bytes_eq i (rest_of ns) ≡ c → a || (b || c) ≡ true → Storage i
      go true e b f c g h = record { tail = 58 ∷ codes "io"; plain = refl; is = (bytes_eq-Decides i (io_of ns)).0 e }
      go false e true f c g h = record { tail = 58 ∷ codes "m"; plain = refl; is = (bytes_eq-Decides i (memory_of ns)).0 f }
      go false e false f true g h = record { tail = 58 ∷ codes "c"; plain = refl; is = (bytes_eq-Decides i (rest_of ns)).0 g }
      go false e false f false g h = absurd cc

  pub steady_storage : Steady (own_storage ns)
  steady_storage = record {
    by = λ ms g h k.
        let a = storage_of (text_with zeros ms) h in
        let b = storage_of (text_with ones ms) k in
        let same : text_with itself ms ≡ ns ++ a.tail = own_same ns a.tail b.tail a.plain ms a.is b.is in
        ap (own_storage ns) (same ∙ sym a.is) ∙ h;
  }

  pub steady_function : Steady (own_function ns)
  steady_function = record { by = λ ms g h k. go ms g h k (cut_marks 58 refl ms g) }
    where
      go : (ms : List Mark) → marks_fit ms ≡ true → own_function ns (text_with zeros ms) ≡ true → own_function ns (text_with ones ms) ≡ true → Cut 58 ms → own_function ns (text_with itself ms) ≡ true
      go ms g h k (whole s) = absurd (let f : false ≡ true = sym (ap (is_before ns) (s zeros zeros_good)) ∙ h in cc)
      go ms g h k (parts ws rs u v s) =
          ap (is_before ns) (s itself itself_good)
          ∙ steady_objective.by ws u (sym (ap (is_before ns) (s zeros zeros_good)) ∙ h) (sym (ap (is_before ns) (s ones ones_good)) ∙ k)

-- ---- what a compound of whole numbers fills in

digit_byte : (m : ℕ) → m < 10 → is_number_byte (digit_glyph false m) ≡ true
digit_byte m lt = ap (λ b. is_number_byte (if b then 48 + m else 87 + m)) (lt-ltb m 10 lt) ∙ rw (lt-ltb 46 (48 + m) (omega arith), lt-ltb (48 + m) 58 (omega arith)) refl

onto_bytes : (k n : ℕ) (acc : Text) → list_all is_number_byte acc ≡ true → list_all is_number_byte (digits_onto k 10 false n acc) ≡ true
onto_bytes zero n acc h = h
onto_bytes (suc k) n acc h = go (n / 10 == 0) (onto_bytes k (n / 10) (digit_glyph false (n % 10) ∷ acc) front)
  where
    front : list_all is_number_byte (digit_glyph false (n % 10) ∷ acc) ≡ true
    front = and_from (is_number_byte (digit_glyph false (n % 10))) _ (digit_byte (n % 10) (omega arith)) h

    go : (b : Bool) → list_all is_number_byte (digits_onto k 10 false (n / 10) (digit_glyph false (n % 10) ∷ acc)) ≡ true
        → list_all is_number_byte (if b then digit_glyph false (n % 10) ∷ acc else digits_onto k 10 false (n / 10) (digit_glyph false (n % 10) ∷ acc)) ≡ true
    go true ih = front
    go false ih = ih

onto_begins : (k n : ℕ) (acc : Text) → begins acc ≡ true → begins (digits_onto k 10 false n acc) ≡ true
onto_begins zero n acc h = h
onto_begins (suc k) n acc h = go (n / 10 == 0) (onto_begins k (n / 10) (digit_glyph false (n % 10) ∷ acc) refl)
  where
    go : (b : Bool) → begins (digits_onto k 10 false (n / 10) (digit_glyph false (n % 10) ∷ acc)) ≡ true
        → begins (if b then digit_glyph false (n % 10) ∷ acc else digits_onto k 10 false (n / 10) (digit_glyph false (n % 10) ∷ acc)) ≡ true
    go true ih = refl
    go false ih = ih

step_begins : (k n : ℕ) → begins (digits_onto (suc k) 10 false n []) ≡ true
step_begins k n = go (n / 10 == 0) (onto_begins k (n / 10) (digit_glyph false (n % 10) ∷ []) refl)
  where
    go : (b : Bool) → begins (digits_onto k 10 false (n / 10) (digit_glyph false (n % 10) ∷ [])) ≡ true
        → begins (if b then digit_glyph false (n % 10) ∷ [] else digits_onto k 10 false (n / 10) (digit_glyph false (n % 10) ∷ [])) ≡ true
    go true ih = refl
    go false ih = ih

decimal_numeric : (n : ℕ) → is_numeric (decimal n) ≡ true
unfolding digits
decimal_numeric n = and_from (begins (digits_onto 64 10 false n [])) _ (step_begins 63 n) (onto_bytes 64 n [] refl)

pub signed_numeric : (z : ℤ) → is_numeric (signed_decimal z) ≡ true
signed_numeric (pos n) = decimal_numeric n
signed_numeric (negsuc n) = numeric_bytes (decimal (suc n)) (decimal_numeric (suc n))

-- the marks of a text
abbrev bytes : Text → List Mark → List Mark
bytes [] ms = ms
bytes (b ∷ l) ms = byte b ∷ bytes l ms

bytes_text : (f : Text → Text) (l : Text) (ms : List Mark) → text_with f (bytes l ms) ≡ l ++ text_with f ms
bytes_text f [] ms = refl
bytes_text f (b ∷ l) ms = ap (λ t. b ∷ t) (bytes_text f l ms)

bytes_fit : (l : Text) (ms : List Mark) → marks_fit ms ≡ true → marks_fit (bytes l ms) ≡ true
bytes_fit [] ms g = g
bytes_fit (b ∷ l) ms g = bytes_fit l ms g

-- a pattern and what it is filled to are the same marks
pub record Marked (ps : List PatternPart) (u : Text) : Type 0 where
  pub marks : List Mark
  pub fit : marks_fit marks ≡ true
  pub by_zero : text_with zeros marks ≡ parts_by (48 ∷ []) ps
  pub by_one : text_with ones marks ≡ parts_by (49 ∷ []) ps
  pub filled : text_with itself marks ≡ u

pub marked : (k : ℕ) (ps : List PatternPart) (fs : Fields) (u : Text) → is_bare (compound fs) ≡ true → fill_from k ps (compound fs) ≡ filled u → Marked ps u
marked k [] fs u b h = let e : [] ≡ u = cc in record { marks = []; fit = refl; by_zero = refl; by_one = refl; filled = e }
marked k (literal l ∷ ps) fs u b h = go (fill_from k ps (compound fs)) refl h (λ v g. marked k ps fs v b g)
  where
    go : (r : Filled) → fill_from k ps (compound fs) ≡ r → behind l r ≡ filled u → ((v : Text) → fill_from k ps (compound fs) ≡ filled v → Marked ps v) → Marked (literal l ∷ ps) u
    go (missing n) e h ih = absurd cc
    go (filled v) e h ih =
        let m = ih v e in
        let s : l ++ v ≡ u = cc in
        record {
          marks = bytes l m.marks;
          fit = bytes_fit l m.marks m.fit;
          by_zero = bytes_text zeros l m.marks ∙ ap (λ t. l ++ t) m.by_zero;
          by_one = bytes_text ones l m.marks ∙ ap (λ t. l ++ t) m.by_one;
          filled = bytes_text itself l m.marks ∙ ap (λ t. l ++ t) m.filled ∙ s;
        }
marked k (hole n ∷ ps) fs u b h = go (find n (of_fields fs)) refl (fill_from (suc k) ps (compound fs)) refl h (λ v g. marked (suc k) ps fs v b g)
  where
    go : (o : Option Tree) → find n (of_fields fs) ≡ o → (r : Filled) → fill_from (suc k) ps (compound fs) ≡ r → fill_hole (option_and_then plain_text o) k r ≡ filled u
        → ((v : Text) → fill_from (suc k) ps (compound fs) ≡ filled v → Marked ps v) → Marked (hole n ∷ ps) u
    go None e r s h ih = absurd cc
    go (Some (string w)) e r s h ih = absurd (let f = find_bare n (of_fields fs) (string w) (bare.fields_of fs b) e in cc)
    go (Some (list ts)) e r s h ih = absurd cc
    go (Some (compound gs)) e r s h ih = absurd cc
    go (Some (int z)) e (missing j) s h ih = absurd cc
    go (Some (int z)) e (filled v) s h ih =
        let m = ih v s in
        let same : signed_decimal z ++ v ≡ u = cc in
        record {
          marks = number (signed_decimal z) ∷ m.marks;
          fit = and_from (is_numeric (signed_decimal z)) (marks_fit m.marks) (signed_numeric z) m.fit;
          by_zero = ap (λ t. 48 ∷ t) m.by_zero;
          by_one = ap (λ t. 49 ∷ t) m.by_one;
          filled = ap (λ t. signed_decimal z ++ t) m.filled ∙ same;
        }
