-- Each state of the reader has read the beginning of a spelling.
use Rattle.std.proofs.Common.{◌≡◌, ℕ, suc, ◌+◌, ◌-◌, ◌*◌, ◌/◌, ◌%◌, ◌<◌, ◌≤◌, ◌^◌, List, [], ◌∷◌, ◌++◌, length, Bool, true, Some, refl, sym, ap, ◌∙◌, append_assoc, append-nil, arith, subst, inl, inr}
use Rattle.std.specs.Prelude.{pos, negsuc, ◌&&◌, nat_eq, nat_lt, nat_le}
use Rattle.std.specs.List.{list_all}
use Rattle.std.specs.Fmt.{decimal}
use Rattle.std.proofs.lemmas.Fmt.{decimal_digit, decimal_step}
use Rattle.std.proofs.lemmas.List.Folds.{list_all-append}
use Rattle.std.proofs.lemmas.Bool.{lt-ltb, ltb-true, leb-true, and_from, eqb-true}
use Rattle.mc_nbt.specs.Word.{is_key, is_string_byte, comes_before}
use Rattle.mc_nbt.specs.Tree.{Tree, int, string, list, compound, no_items, no_fields, items, fields, list_of, compound_of, kind}
use Rattle.mc_nbt.specs.Shape.{is_shaped, items_shaped, fields_shaped, all_of_kind, is_one_kind, rise_after, is_rising}
use Rattle.mc_nbt.specs.Spelling.{tree_text, more_items_text, more_fields_text}
use Rattle.mc_nbt.specs.steps.Reading.{Frame, in_list, in_compound, Open, State, start, minus, digits, negative, quoted, behind, keyed, wanted, allows, last_key, comes_after, greatest, begins_key, is_digit, close_empty, begin, after, is_bare, in_key, step}
use Rattle.mc_nbt.specs.Beginning.{Begins}
use Rattle.mc_nbt.proofs.TestLemmas.{and_first, and_second, some_same, if_some, given_some}
use Rattle.mc_nbt.proofs.TreeLemmas.{of_items-items, of_fields-fields}
use Rattle.mc_nbt.proofs.KeyLemmas.{sample_key, sample_key-is_key, sample_key-comes_after}
use Rattle.mc_nbt.proofs.ReadingComplete.{last_key-more}

-- what has been read in a state
abbrev pub items_before : List Tree → List ℕ
items_before [] = []
items_before (t ∷ ts) = tree_text t ++ (44 ∷ items_before ts)

abbrev pub fields_before : List (List ℕ × Tree) → List ℕ
fields_before [] = []
fields_before (e ∷ es) = e.0 ++ (58 ∷ (tree_text e.1 ++ (44 ∷ fields_before es)))

abbrev pub frame_text : Frame → List ℕ
frame_text (in_list ts) = 91 ∷ items_before ts
frame_text (in_compound es k) = 123 ∷ (fields_before es ++ (k ++ (58 ∷ [])))

abbrev pub open_text : Open → List ℕ
open_text [] = []
open_text (f ∷ fs) = open_text fs ++ frame_text f

abbrev pub text_of : State → List ℕ
text_of (start fs) = open_text fs
text_of (minus fs) = open_text fs ++ (45 ∷ [])
text_of (digits fs m) = open_text fs ++ decimal m
text_of (negative fs k) = open_text fs ++ (45 ∷ decimal (suc k))
text_of (quoted fs s) = open_text fs ++ (34 ∷ s)
text_of (behind fs t) = open_text fs ++ tree_text t
text_of (keyed fs es k) = open_text fs ++ (123 ∷ (fields_before es ++ k))

-- the states that the reader comes to
abbrev pub frame_kind : Frame → ℕ
frame_kind (in_list ts) = 2
frame_kind (in_compound es k) = 3

abbrev pub items_good : List Tree → Bool
items_good ts = items_shaped (items ts) && is_one_kind ts

abbrev pub fields_good : List (List ℕ × Tree) → Bool
fields_good es = fields_shaped (fields es) && is_rising es

abbrev pub frame_good : Frame → Bool
frame_good (in_list ts) = items_good ts
frame_good (in_compound es k) = fields_good es && (is_key k && comes_after (last_key es) k)

abbrev pub open_good : Open → Bool
open_good [] = true
open_good (f ∷ fs) = frame_good f && (allows (wanted fs) (frame_kind f) && open_good fs)

abbrev pub good : State → Bool
good (start fs) = open_good fs
good (minus fs) = open_good fs && allows (wanted fs) 0
good (digits fs m) = open_good fs && (allows (wanted fs) 0 && nat_lt m (2 ^ 31))
good (negative fs k) = open_good fs && (allows (wanted fs) 0 && nat_lt k (2 ^ 31))
good (quoted fs s) = open_good fs && (allows (wanted fs) 1 && list_all is_string_byte s)
good (behind fs t) = open_good fs && (allows (wanted fs) (kind t) && is_shaped t)
good (keyed fs es k) = open_good fs && (allows (wanted fs) 3 && (fields_good es && begins_key (last_key es) k))

list_shaped : (ts : List Tree) → items_good ts ≡ true → is_shaped (list_of ts) ≡ true
list_shaped ts h = ap (λ l. items_shaped (items ts) && is_one_kind l) (of_items-items ts) ∙ h

compound_shaped : (es : List (List ℕ × Tree)) → fields_good es ≡ true → is_shaped (compound_of es) ≡ true
compound_shaped es h = ap (λ l. fields_shaped (fields es) && is_rising l) (of_fields-fields es) ∙ h

-- one more element
items_before_more : (ts : List Tree) (t : Tree) → items_before (ts ++ (t ∷ [])) ≡ items_before ts ++ (tree_text t ++ (44 ∷ []))
items_before_more [] t = refl
items_before_more (x ∷ ts) t = ap (λ w. tree_text x ++ (44 ∷ w)) (items_before_more ts t) ∙ sym (append_assoc (tree_text x) (44 ∷ items_before ts) (tree_text t ++ (44 ∷ [])))

more_items_text_more : (ts : List Tree) (t : Tree) → more_items_text (items (ts ++ (t ∷ []))) ≡ 44 ∷ (items_before ts ++ (tree_text t ++ (93 ∷ [])))
more_items_text_more [] t = refl
more_items_text_more (x ∷ ts) t = ap (λ w. 44 ∷ (tree_text x ++ w)) (more_items_text_more ts t) ∙ ap (λ w. 44 ∷ w) (sym (append_assoc (tree_text x) (44 ∷ items_before ts) (tree_text t ++ (93 ∷ []))))

list_text_more : (ts : List Tree) (t : Tree) → tree_text (list_of (ts ++ (t ∷ []))) ≡ 91 ∷ (items_before ts ++ (tree_text t ++ (93 ∷ [])))
list_text_more [] t = refl
list_text_more (x ∷ ts) t = ap (λ w. 91 ∷ (tree_text x ++ w)) (more_items_text_more ts t) ∙ ap (λ w. 91 ∷ w) (sym (append_assoc (tree_text x) (44 ∷ items_before ts) (tree_text t ++ (93 ∷ []))))

items_shaped_more : (ts : List Tree) (t : Tree) → items_shaped (items ts) ≡ true → is_shaped t ≡ true → items_shaped (items (ts ++ (t ∷ []))) ≡ true
items_shaped_more [] t h s = and_from _ _ s refl
items_shaped_more (x ∷ ts) t h s = and_from _ _ (and_first (is_shaped x) _ h) (items_shaped_more ts t (and_second (is_shaped x) _ h) s)

all_of_kind_more : (k : ℕ) (ts : List Tree) (t : Tree) → all_of_kind k ts ≡ true → nat_eq k (kind t) ≡ true → all_of_kind k (ts ++ (t ∷ [])) ≡ true
all_of_kind_more k [] t h e = and_from _ _ e refl
all_of_kind_more k (x ∷ ts) t h e = and_from _ _ (and_first (nat_eq k (kind x)) _ h) (all_of_kind_more k ts t (and_second (nat_eq k (kind x)) _ h) e)

items_good_more : (ts : List Tree) (fs : Open) (t : Tree) → items_good ts ≡ true → allows (wanted (in_list ts ∷ fs)) (kind t) ≡ true → is_shaped t ≡ true → items_good (ts ++ (t ∷ [])) ≡ true
items_good_more [] fs t h a s = and_from _ _ (and_from _ _ s refl) refl
items_good_more (x ∷ ts) fs t h a s =
    and_from _ _ (items_shaped_more (x ∷ ts) t (and_first (items_shaped (items (x ∷ ts))) _ h) s) (all_of_kind_more (kind x) ts t (and_second (items_shaped (items (x ∷ ts))) _ h) a)

-- one more field
field_text : List ℕ → Tree → ℕ → List ℕ
field_text k t c = k ++ (58 ∷ (tree_text t ++ (c ∷ [])))

-- what stands behind one field of several
behind_field : (k w v u : List ℕ) → k ++ (58 ∷ (w ++ (44 ∷ (v ++ u)))) ≡ (k ++ (58 ∷ (w ++ (44 ∷ v)))) ++ u
behind_field k w v u = ap (λ z. k ++ (58 ∷ z)) (sym (append_assoc w (44 ∷ v) u)) ∙ sym (append_assoc k (58 ∷ (w ++ (44 ∷ v))) u)

fields_before_more : (es : List (List ℕ × Tree)) (k : List ℕ) (t : Tree) → fields_before (es ++ ((k, t) ∷ [])) ≡ fields_before es ++ field_text k t 44
unfolding field_text
fields_before_more [] k t = refl
fields_before_more (e ∷ es) k t = ap (λ w. e.0 ++ (58 ∷ (tree_text e.1 ++ (44 ∷ w)))) (fields_before_more es k t) ∙ behind_field e.0 (tree_text e.1) (fields_before es) (field_text k t 44)

more_fields_text_more : (es : List (List ℕ × Tree)) (k : List ℕ) (t : Tree) → more_fields_text (fields (es ++ ((k, t) ∷ []))) ≡ 44 ∷ (fields_before es ++ field_text k t 125)
unfolding field_text
more_fields_text_more [] k t = refl
more_fields_text_more (e ∷ es) k t = ap (λ w. 44 ∷ (e.0 ++ (58 ∷ (tree_text e.1 ++ w)))) (more_fields_text_more es k t) ∙ ap (λ w. 44 ∷ w) (behind_field e.0 (tree_text e.1) (fields_before es) (field_text k t 125))

compound_text_more : (es : List (List ℕ × Tree)) (k : List ℕ) (t : Tree) → tree_text (compound_of (es ++ ((k, t) ∷ []))) ≡ 123 ∷ (fields_before es ++ field_text k t 125)
unfolding field_text
compound_text_more [] k t = refl
compound_text_more (e ∷ es) k t = ap (λ w. 123 ∷ (e.0 ++ (58 ∷ (tree_text e.1 ++ w)))) (more_fields_text_more es k t) ∙ ap (λ w. 123 ∷ w) (behind_field e.0 (tree_text e.1) (fields_before es) (field_text k t 125))

fields_shaped_more : (es : List (List ℕ × Tree)) (k : List ℕ) (t : Tree) → fields_shaped (fields es) ≡ true → is_key k ≡ true → is_shaped t ≡ true → fields_shaped (fields (es ++ ((k, t) ∷ []))) ≡ true
fields_shaped_more [] k t h n s = and_from _ _ n (and_from _ _ s refl)
fields_shaped_more (e ∷ es) k t h n s =
    let g = and_second (is_key e.0) _ h in
    and_from _ _ (and_first (is_key e.0) _ h) (and_from _ _ (and_first (is_shaped e.1) _ g) (fields_shaped_more es k t (and_second (is_shaped e.1) _ g) n s))

rise_after_more : (e : List ℕ × Tree) (es : List (List ℕ × Tree)) (k : List ℕ) (t : Tree) → rise_after e.0 es ≡ true → comes_after (last_key (e ∷ es)) k ≡ true → rise_after e.0 (es ++ ((k, t) ∷ [])) ≡ true
rise_after_more e [] k t h a = and_from _ _ a refl
rise_after_more e (f ∷ es) k t h a = and_from _ _ (and_first (comes_before e.0 f.0) _ h) (rise_after_more f es k t (and_second (comes_before e.0 f.0) _ h) a)

is_rising_more : (es : List (List ℕ × Tree)) (k : List ℕ) (t : Tree) → is_rising es ≡ true → comes_after (last_key es) k ≡ true → is_rising (es ++ ((k, t) ∷ [])) ≡ true
is_rising_more [] k t h a = refl
is_rising_more (e ∷ es) k t h a = rise_after_more e es k t h a

fields_good_more : (es : List (List ℕ × Tree)) (k : List ℕ) (t : Tree) → frame_good (in_compound es k) ≡ true → is_shaped t ≡ true → fields_good (es ++ ((k, t) ∷ [])) ≡ true
fields_good_more es k t h s =
    let g = and_first (fields_good es) _ h in
    let a = and_second (fields_good es) _ h in
    and_from _ _ (fields_shaped_more es k t (and_first (fields_shaped (fields es)) _ g) (and_first (is_key k) _ a) s)
    (is_rising_more es k t (and_second (fields_shaped (fields es)) _ g) (and_second (is_key k) _ a))

-- a frame closed behind a value
abbrev close : Frame → Tree → Tree
close (in_list ts) t = list_of (ts ++ (t ∷ []))
close (in_compound es k) t = compound_of (es ++ ((k, t) ∷ []))

abbrev closer : Frame → ℕ
closer (in_list ts) = 93
closer (in_compound es k) = 125

close_kind : (f : Frame) (t : Tree) → kind (close f t) ≡ frame_kind f
close_kind (in_list ts) t = refl
close_kind (in_compound es k) t = refl

-- a field behind other fields of an open compound
behind_fields : (es : List (List ℕ × Tree)) (k w : List ℕ) → (fields_before es ++ (k ++ (58 ∷ []))) ++ w ≡ fields_before es ++ (k ++ (58 ∷ w))
behind_fields es k w = append_assoc (fields_before es) (k ++ (58 ∷ [])) w ∙ ap (λ z. fields_before es ++ z) (append_assoc k (58 ∷ []) w)

close_text : (f : Frame) (t : Tree) → tree_text (close f t) ≡ frame_text f ++ (tree_text t ++ (closer f ∷ []))
unfolding field_text
close_text (in_list ts) t = list_text_more ts t
close_text (in_compound es k) t = compound_text_more es k t ∙ ap (λ w. 123 ∷ w) (sym (behind_fields es k (tree_text t ++ (125 ∷ []))))

close_shaped : (f : Frame) (fs : Open) (t : Tree) → frame_good f ≡ true → allows (wanted (f ∷ fs)) (kind t) ≡ true → is_shaped t ≡ true → is_shaped (close f t) ≡ true
close_shaped (in_list ts) fs t g a h = list_shaped (ts ++ (t ∷ [])) (items_good_more ts fs t g a h)
close_shaped (in_compound es k) fs t g a h = compound_shaped (es ++ ((k, t) ∷ [])) (fields_good_more es k t g h)

-- a step adds its byte, and keeps to good states
abbrev pub Adds : State → List ℕ → ℕ → Type 0
Adds u t c = (text_of u ≡ t ++ (c ∷ [])) × (good u ≡ true)

closes_well : (f : Frame) (fs : Open) (t : Tree) → open_good (f ∷ fs) ≡ true → allows (wanted (f ∷ fs)) (kind t) ≡ true → is_shaped t ≡ true → Adds (behind fs (close f t)) (open_text (f ∷ fs) ++ tree_text t) (closer f)
closes_well f fs t g a h =
    let o = and_second (frame_good f) _ g in (
      ap (λ w. open_text fs ++ w) (close_text f t)
          ∙ sym (append_assoc (open_text fs) (frame_text f) (tree_text t ++ (closer f ∷ [])))
          ∙ sym (append_assoc (open_text (f ∷ fs)) (tree_text t) (closer f ∷ [])),
      and_from _ _ (and_second (allows (wanted fs) (frame_kind f)) _ o)
          (and_from _ _ (ap (allows (wanted fs)) (close_kind f t) ∙ and_first (allows (wanted fs) (frame_kind f)) _ o)
          (close_shaped f fs t (and_first (frame_good f) _ g) a h)),
    )

after_adds : (fs : Open) (t : Tree) (c : ℕ) (u : State) → open_good fs ≡ true → allows (wanted fs) (kind t) ≡ true → is_shaped t ≡ true → after fs t c ≡ Some u → Adds u (open_text fs ++ tree_text t) c
unfolding field_text
after_adds [] t c u g a h e = absurd cc
after_adds (in_list ts ∷ fs) t c u g a h e =
    let o = and_second (items_good ts) _ g in
    let before : List ℕ = open_text (in_list ts ∷ fs) in
    let P : State → Type 0 = λ v. Adds v (before ++ tree_text t) c in
    elim (if_some (nat_eq c 44) _ _ u e) [
      | inl p ↦
          subst P (some_same _ u p.1) (
            ap (λ w. open_text fs ++ (91 ∷ w)) (items_before_more ts t)
                ∙ sym (append_assoc (open_text fs) (91 ∷ items_before ts) (tree_text t ++ (44 ∷ [])))
                ∙ sym (append_assoc before (tree_text t) (44 ∷ []))
                ∙ ap (λ b. (before ++ tree_text t) ++ (b ∷ [])) (sym (eqb-true c 44 p.0)),
            and_from _ _ (items_good_more ts fs t (and_first (items_good ts) _ g) a h) o,
          )
      | inr p ↦
          let q = given_some (nat_eq c 93) _ u p.1 in
          let w = closes_well (in_list ts) fs t g a h in
          subst P q.1 (w.0 ∙ ap (λ b. (before ++ tree_text t) ++ (b ∷ [])) (sym (eqb-true c 93 q.0)), w.1)
    ]
after_adds (in_compound es k ∷ fs) t c u g a h e =
    let o = and_second (frame_good (in_compound es k)) _ g in
    let before : List ℕ = open_text (in_compound es k ∷ fs) in
    let P : State → Type 0 = λ v. Adds v (before ++ tree_text t) c in
    elim (if_some (nat_eq c 44) _ _ u e) [
      | inl p ↦
          let q = given_some (begins_key (Some k) []) _ u p.1 in
          subst P q.1 (
            ap (λ w. open_text fs ++ (123 ∷ w)) (append-nil (fields_before (es ++ ((k, t) ∷ []))) ∙ fields_before_more es k t ∙ sym (behind_fields es k (tree_text t ++ (44 ∷ []))))
                ∙ sym (append_assoc (open_text fs) (frame_text (in_compound es k)) (tree_text t ++ (44 ∷ [])))
                ∙ sym (append_assoc before (tree_text t) (44 ∷ []))
                ∙ ap (λ b. (before ++ tree_text t) ++ (b ∷ [])) (sym (eqb-true c 44 p.0)),
            and_from _ _ (and_second (allows (wanted fs) 3) _ o)
                (and_from _ _ (and_first (allows (wanted fs) 3) _ o)
                (and_from _ _ (fields_good_more es k t (and_first (frame_good (in_compound es k)) _ g) h)
                (ap (λ l. begins_key l []) (last_key-more es k t) ∙ q.0))),
          )
      | inr p ↦
          let q = given_some (nat_eq c 125) _ u p.1 in
          let w = closes_well (in_compound es k) fs t g a h in
          subst P q.1 (w.0 ∙ ap (λ b. (before ++ tree_text t) ++ (b ∷ [])) (sym (eqb-true c 125 q.0)), w.1)
    ]

close_empty_adds : (fs : Open) (c : ℕ) (u : State) → open_good fs ≡ true → c ≡ 93 → close_empty fs ≡ Some u → Adds u (open_text fs) c
close_empty_adds [] c u g b e = absurd cc
close_empty_adds (in_list [] ∷ fs) c u g b e =
    let P : State → Type 0 = λ v. Adds v (open_text (in_list [] ∷ fs)) c in
    subst P (some_same _ u e) (
      sym (append_assoc (open_text fs) (91 ∷ []) (93 ∷ [])) ∙ ap (λ b. open_text (in_list [] ∷ fs) ++ (b ∷ [])) (sym b),
      and_from _ _ (and_second (allows (wanted fs) 2) _ g) (and_from _ _ (and_first (allows (wanted fs) 2) _ g) refl),
    )
close_empty_adds (in_list (t ∷ ts) ∷ fs) c u g b e = absurd cc
close_empty_adds (in_compound es k ∷ fs) c u g b e = absurd cc

begin_adds : (fs : Open) (c : ℕ) (u : State) → open_good fs ≡ true → begin fs (wanted fs) c ≡ Some u → Adds u (open_text fs) c
begin_adds fs c u g e =
    let P : State → Type 0 = λ v. Adds v (open_text fs) c in
    let byte : (b : ℕ) → nat_eq c b ≡ true → open_text fs ++ (b ∷ []) ≡ open_text fs ++ (c ∷ []) = λ b h. ap (λ x. open_text fs ++ (x ∷ [])) (sym (eqb-true c b h)) in
    elim (if_some (nat_eq c 45) _ _ u e) [
      | inl p ↦ (let q = given_some (allows (wanted fs) 0) _ u p.1 in subst P q.1 (byte 45 p.0, and_from _ _ g q.0))
      | inr p1 ↦ elim (if_some (nat_eq c 34) _ _ u p1.1) [
        | inl p ↦ (let q = given_some (allows (wanted fs) 1) _ u p.1 in subst P q.1 (byte 34 p.0, and_from _ _ g (and_from _ _ q.0 refl)))
        | inr p2 ↦ elim (if_some (nat_eq c 91) _ _ u p2.1) [
          | inl p ↦ (let q = given_some (allows (wanted fs) 2) _ u p.1 in subst P q.1 (byte 91 p.0, and_from _ _ q.0 g))
          | inr p3 ↦ elim (if_some (nat_eq c 123) _ _ u p3.1) [
            | inl p ↦ (let q = given_some (allows (wanted fs) 3) _ u p.1 in subst P q.1 (byte 123 p.0, and_from _ _ g (and_from _ _ q.0 refl)))
            | inr p4 ↦ elim (if_some (nat_eq c 93) _ _ u p4.1) [
              | inl p ↦ close_empty_adds fs c u g (eqb-true c 93 p.0) p.1
              | inr p5 ↦
                  (let q = given_some (is_digit c && allows (wanted fs) 0) _ u p5.1 in
                  let d = and_first (is_digit c) _ q.0 in
                  let l : 48 ≤ c = leb-true 48 c (and_first (nat_le 48 c) _ d) in
                  let h : c ≤ 57 = leb-true c 57 (and_second (nat_le 48 c) _ d) in
                  let v : 48 + (c - 48) ≡ c = omega arith in
                  subst P q.1 (
                    ap (λ w. open_text fs ++ w) (decimal_digit (c - 48) (omega arith)) ∙ ap (λ x. open_text fs ++ (x ∷ [])) v,
                    and_from _ _ g (and_from _ _ (and_second (is_digit c) _ q.0) (lt-ltb (c - 48) (2 ^ 31) (omega arith))),
                  ))
            ]
          ]
        ]
      ]
    ]

in_key_adds : (fs : Open) (es : List (List ℕ × Tree)) (k : List ℕ) (c : ℕ) (u : State) → good (keyed fs es k) ≡ true → in_key fs es k c ≡ Some u → Adds u (text_of (keyed fs es k)) c
in_key_adds fs es k c u g e =
    let before : List ℕ = text_of (keyed fs es k) in
    let P : State → Type 0 = λ v. Adds v before c in
    let o = and_first (open_good fs) _ g in
    let a = and_second (open_good fs) _ g in
    let b = and_second (allows (wanted fs) 3) _ a in
    elim (if_some (nat_eq c 58) _ _ u e) [
      | inl p ↦
          let q = given_some (is_key k && comes_after (last_key es) k) _ u p.1 in
          subst P q.1 (
            ap (λ w. open_text fs ++ (123 ∷ w)) (sym (append_assoc (fields_before es) k (58 ∷ [])))
                ∙ sym (append_assoc (open_text fs) (123 ∷ (fields_before es ++ k)) (58 ∷ []))
                ∙ ap (λ x. before ++ (x ∷ [])) (sym (eqb-true c 58 p.0)),
            and_from _ _ (and_from _ _ (and_first (fields_good es) _ b) q.0) (and_from _ _ (and_first (allows (wanted fs) 3) _ a) o),
          )
      | inr p1 ↦ elim (if_some (nat_eq c 125) _ _ u p1.1) [
        | inl p ↦
            let q = given_some (is_bare es k) _ u p.1 in
            subst P q.1 (
              bare_text es k q.0 ∙ ap (λ x. before ++ (x ∷ [])) (sym (eqb-true c 125 p.0)),
              and_from _ _ o (and_from _ _ (and_first (allows (wanted fs) 3) _ a) refl),
            )
        | inr p ↦
            let q = given_some (begins_key (last_key es) (k ++ (c ∷ []))) _ u p.1 in
            subst P q.1 (
              ap (λ w. open_text fs ++ (123 ∷ w)) (sym (append_assoc (fields_before es) k (c ∷ [])))
                  ∙ sym (append_assoc (open_text fs) (123 ∷ (fields_before es ++ k)) (c ∷ [])),
              and_from _ _ o (and_from _ _ (and_first (allows (wanted fs) 3) _ a) (and_from _ _ (and_first (fields_good es) _ b) q.0)),
            )
      ]
    ]
  where
    bare_text : (es : List (List ℕ × Tree)) (k : List ℕ) → is_bare es k ≡ true → open_text fs ++ (123 ∷ (125 ∷ [])) ≡ text_of (keyed fs es k) ++ (125 ∷ [])
    bare_text [] [] h = sym (append_assoc (open_text fs) (123 ∷ []) (125 ∷ []))
    bare_text [] (x ∷ k) h = absurd cc
    bare_text (e ∷ es) k h = absurd cc

digit_range : (c : ℕ) → is_digit c ≡ true → (48 ≤ c) × (c ≤ 57)
digit_range c d = (leb-true 48 c (and_first (nat_le 48 c) _ d), leb-true c 57 (and_second (nat_le 48 c) _ d))

decimal_more : (m c n : ℕ) → 0 < m → 48 ≤ c → c ≤ 57 → n ≡ 10 * m + (c - 48) → n < 2 ^ 32 → decimal n ≡ decimal m ++ (c ∷ [])
decimal_more m c n p l h e b =
    let q : n / 10 ≡ m = omega arith in
    let r : 48 + n % 10 ≡ c = omega arith in
    decimal_step n (omega arith) (omega arith) ∙ ap (λ k. decimal k ++ ((48 + n % 10) ∷ [])) q ∙ ap (λ d. decimal m ++ (d ∷ [])) r

pub step_adds : (s : State) (c : ℕ) (u : State) → good s ≡ true → step s c ≡ Some u → Adds u (text_of s) c
step_adds (start fs) c u g e = begin_adds fs c u g e
step_adds (minus fs) c u g e =
    let P : State → Type 0 = λ v. Adds v (text_of (minus fs)) c in
    let q = given_some (nat_le 49 c && nat_le c 57) _ u e in
    let l : 49 ≤ c = leb-true 49 c (and_first (nat_le 49 c) _ q.0) in
    let h : c ≤ 57 = leb-true c 57 (and_second (nat_le 49 c) _ q.0) in
    let v : suc (c - 49) ≡ c - 48 = omega arith in
    let w : 48 + (c - 48) ≡ c = omega arith in
    subst P q.1 (
      ap (λ k. open_text fs ++ (45 ∷ decimal k)) v ∙ ap (λ d. open_text fs ++ (45 ∷ d)) (decimal_digit (c - 48) (omega arith)) ∙ ap (λ d. open_text fs ++ (45 ∷ (d ∷ []))) w
          ∙ sym (append_assoc (open_text fs) (45 ∷ []) (c ∷ [])),
      and_from _ _ (and_first (open_good fs) _ g) (and_from _ _ (and_second (open_good fs) _ g) (lt-ltb (c - 49) (2 ^ 31) (omega arith))),
    )
step_adds (digits fs m) c u g e =
    let P : State → Type 0 = λ v. Adds v (text_of (digits fs m)) c in
    let o = and_first (open_good fs) _ g in
    let a = and_second (open_good fs) _ g in
    elim (if_some (is_digit c) _ _ u e) [
      | inl p ↦
          (let q = given_some (nat_lt 0 m && nat_lt (10 * m + (c - 48)) (2 ^ 31)) _ u p.1 in
          let d = digit_range c p.0 in
          let z : 0 < m = ltb-true 0 m (and_first (nat_lt 0 m) _ q.0) in
          let b : 10 * m + (c - 48) < 2 ^ 31 = ltb-true (10 * m + (c - 48)) (2 ^ 31) (and_second (nat_lt 0 m) _ q.0) in
          subst P q.1 (
            ap (λ w. open_text fs ++ w) (decimal_more m c (10 * m + (c - 48)) z d.0 d.1 refl (omega arith)) ∙ sym (append_assoc (open_text fs) (decimal m) (c ∷ [])),
            and_from _ _ o (and_from _ _ (and_first (allows (wanted fs) 0) _ a) (and_second (nat_lt 0 m) _ q.0)),
          ))
      | inr p ↦ after_adds fs (int (pos m)) c u o (and_first (allows (wanted fs) 0) _ a) (and_second (allows (wanted fs) 0) _ a) p.1
    ]
step_adds (negative fs k) c u g e =
    let P : State → Type 0 = λ v. Adds v (text_of (negative fs k)) c in
    let o = and_first (open_good fs) _ g in
    let a = and_second (open_good fs) _ g in
    elim (if_some (is_digit c) _ _ u e) [
      | inl p ↦
          (let q = given_some (nat_lt (10 * k + 9 + (c - 48)) (2 ^ 31)) _ u p.1 in
          let d = digit_range c p.0 in
          let b : 10 * k + 9 + (c - 48) < 2 ^ 31 = ltb-true _ _ q.0 in
          let v : suc (10 * k + 9 + (c - 48)) ≡ 10 * suc k + (c - 48) = omega arith in
          subst P q.1 (
            ap (λ w. open_text fs ++ (45 ∷ w)) (decimal_more (suc k) c (suc (10 * k + 9 + (c - 48))) (omega arith) d.0 d.1 v (omega arith)) ∙ sym (append_assoc (open_text fs) (45 ∷ decimal (suc k)) (c ∷ [])),
            and_from _ _ o (and_from _ _ (and_first (allows (wanted fs) 0) _ a) q.0),
          ))
      | inr p ↦ after_adds fs (int (negsuc k)) c u o (and_first (allows (wanted fs) 0) _ a) (and_second (allows (wanted fs) 0) _ a) p.1
    ]
step_adds (quoted fs s) c u g e =
    let P : State → Type 0 = λ v. Adds v (text_of (quoted fs s)) c in
    let o = and_first (open_good fs) _ g in
    let a = and_second (open_good fs) _ g in
    elim (if_some (nat_eq c 34) _ _ u e) [
      | inl p ↦
          subst P (some_same _ u p.1) (
            sym (append_assoc (open_text fs) (34 ∷ s) (34 ∷ [])) ∙ ap (λ b. (open_text fs ++ (34 ∷ s)) ++ (b ∷ [])) (sym (eqb-true c 34 p.0)),
            g,
          )
      | inr p ↦
          (let q = given_some (is_string_byte c) _ u p.1 in
          subst P q.1 (
            sym (append_assoc (open_text fs) (34 ∷ s) (c ∷ [])),
            and_from _ _ o (and_from _ _ (and_first (allows (wanted fs) 1) _ a) (list_all-append is_string_byte s (c ∷ []) ∙ and_from _ _ (and_second (allows (wanted fs) 1) _ a) (and_from _ _ q.0 refl))),
          ))
    ]
step_adds (behind fs t) c u g e =
    let a = and_second (open_good fs) _ g in
    after_adds fs t c u (and_first (open_good fs) _ g) (and_first (allows (wanted fs) (kind t)) _ a) (and_second (allows (wanted fs) (kind t)) _ a) e
step_adds (keyed fs es k) c u g e = in_key_adds fs es k c u g e

-- all that is open closed behind a value
finish : Open → Tree → Tree
finish [] t = t
finish (f ∷ fs) t = finish fs (close f t)

closers : Open → List ℕ
closers [] = []
closers (f ∷ fs) = closer f ∷ closers fs

finish_text : (fs : Open) (t : Tree) → tree_text (finish fs t) ≡ open_text fs ++ (tree_text t ++ closers fs)
unfolding finish closers
finish_text [] t = sym (append-nil (tree_text t))
finish_text (f ∷ fs) t =
    finish_text fs (close f t)
    ∙ ap (λ w. open_text fs ++ (w ++ closers fs)) (close_text f t)
    ∙ ap (λ w. open_text fs ++ w) (append_assoc (frame_text f) (tree_text t ++ (closer f ∷ [])) (closers fs) ∙ ap (λ w. frame_text f ++ w) (append_assoc (tree_text t) (closer f ∷ []) (closers fs)))
    ∙ sym (append_assoc (open_text fs) (frame_text f) (tree_text t ++ (closer f ∷ closers fs)))

finish_shaped : (fs : Open) (t : Tree) → open_good fs ≡ true → allows (wanted fs) (kind t) ≡ true → is_shaped t ≡ true → is_shaped (finish fs t) ≡ true
unfolding finish
finish_shaped [] t g a h = h
finish_shaped (f ∷ fs) t g a h =
    let o = and_second (frame_good f) _ g in
    finish_shaped fs (close f t) (and_second (allows (wanted fs) (frame_kind f)) _ o) (ap (allows (wanted fs)) (close_kind f t) ∙ and_first (allows (wanted fs) (frame_kind f)) _ o) (close_shaped f fs t (and_first (frame_good f) _ g) a h)

-- a beginning of a value that may stand there is, behind what is open, a beginning of a spelling
begins : (fs : Open) (t : Tree) (p r : List ℕ) → open_good fs ≡ true → allows (wanted fs) (kind t) ≡ true → is_shaped t ≡ true → tree_text t ≡ p ++ r → Begins (open_text fs ++ p)
begins fs t p r g a h e = record {
  tree = finish fs t;
  rest = r ++ closers fs;
  spells = record {
    shaped = finish_shaped fs t g a h;
    spelled =
        append_assoc (open_text fs) p (r ++ closers fs)
        ∙ ap (λ w. open_text fs ++ w) (sym (append_assoc p r (closers fs)) ∙ ap (λ w. w ++ closers fs) (sym e))
        ∙ sym (finish_text fs t);
  };
}

-- some value that may stand there
sample : (fs : Open) → (t : Tree) × (allows (wanted fs) (kind t) ≡ true) × (is_shaped t ≡ true)
sample [] = (int (pos 0), refl, refl)
sample (in_list [] ∷ fs) = (int (pos 0), refl, refl)
sample (in_list (int z ∷ ts) ∷ fs) = (int (pos 0), refl, refl)
sample (in_list (string s ∷ ts) ∷ fs) = (string [], refl, refl)
sample (in_list (list us ∷ ts) ∷ fs) = (list no_items, refl, refl)
sample (in_list (compound es ∷ ts) ∷ fs) = (compound no_fields, refl, refl)
sample (in_compound es k ∷ fs) = (int (pos 0), refl, refl)

-- what the key with the greatest end has behind k, with a value and the end of the compound
sample_rest : List ℕ → List ℕ
sample_rest k = greatest (32 - length k) ++ (58 ∷ (tree_text (int (pos 0)) ++ (125 ∷ [])))

sample_field : (k : List ℕ) → field_text (sample_key k) (int (pos 0)) 125 ≡ k ++ sample_rest k
unfolding field_text sample_rest
sample_field k = append_assoc k (greatest (32 - length k)) (58 ∷ (tree_text (int (pos 0)) ++ (125 ∷ [])))

pub state_begins : (s : State) → good s ≡ true → Begins (text_of s)
state_begins (start fs) g =
    let t = sample fs in
    subst Begins (append-nil (open_text fs)) (begins fs t.0 [] (tree_text t.0) g t.1 t.2 refl)
state_begins (minus fs) g =
    begins fs (int (negsuc 0)) (45 ∷ []) (49 ∷ []) (and_first (open_good fs) _ g) (and_second (open_good fs) _ g) refl (ap (λ w. 45 ∷ w) (decimal_digit 1 (omega arith)))
state_begins (digits fs m) g =
    let a = and_second (open_good fs) _ g in
    begins fs (int (pos m)) (decimal m) [] (and_first (open_good fs) _ g) (and_first (allows (wanted fs) 0) _ a) (and_second (allows (wanted fs) 0) _ a) (sym (append-nil (decimal m)))
state_begins (negative fs k) g =
    let a = and_second (open_good fs) _ g in
    begins fs (int (negsuc k)) (45 ∷ decimal (suc k)) [] (and_first (open_good fs) _ g) (and_first (allows (wanted fs) 0) _ a) (and_second (allows (wanted fs) 0) _ a) (sym (append-nil (45 ∷ decimal (suc k))))
state_begins (quoted fs s) g =
    let a = and_second (open_good fs) _ g in
    begins fs (string s) (34 ∷ s) (34 ∷ []) (and_first (open_good fs) _ g) (and_first (allows (wanted fs) 1) _ a) (and_second (allows (wanted fs) 1) _ a) refl
state_begins (behind fs t) g =
    let a = and_second (open_good fs) _ g in
    begins fs t (tree_text t) [] (and_first (open_good fs) _ g) (and_first (allows (wanted fs) (kind t)) _ a) (and_second (allows (wanted fs) (kind t)) _ a) (sym (append-nil (tree_text t)))
state_begins (keyed fs es k) g =
    let a = and_second (open_good fs) _ g in
    let b = and_second (allows (wanted fs) 3) _ a in
    let last = and_second (fields_good es) _ b in
    let named = and_from (is_key (sample_key k)) _ (sample_key-is_key (last_key es) k last) (sample_key-comes_after (last_key es) k last) in
    let whole = fields_good_more es (sample_key k) (int (pos 0)) (and_from _ _ (and_first (fields_good es) _ b) named) refl in
    begins fs (compound_of (es ++ ((sample_key k, int (pos 0)) ∷ []))) (123 ∷ (fields_before es ++ k)) (sample_rest k)
    (and_first (open_good fs) _ g) (and_first (allows (wanted fs) 3) _ a) (compound_shaped _ whole)
    (compound_text_more es (sample_key k) (int (pos 0)) ∙ ap (λ w. 123 ∷ (fields_before es ++ w)) (sample_field k) ∙ ap (λ w. 123 ∷ w) (sym (append_assoc (fields_before es) k (sample_rest k))))
