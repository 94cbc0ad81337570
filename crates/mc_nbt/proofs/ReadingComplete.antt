-- Each spelling is read, with its depth.
use Rattle.std.proofs.Common.{◌≡◌, ℕ, suc, ◌+◌, ◌-◌, ◌*◌, ◌/◌, ◌%◌, ◌<◌, ◌≤◌, ◌^◌, max, List, [], ◌∷◌, ◌++◌, length, true, false, Option, Some, refl, sym, ap, ◌∙◌, append_assoc, append-nil, length-append, arith, subst}
use Rattle.std.specs.Prelude.{pos, negsuc, nat_eq, if◌then◌else◌}
use Rattle.std.specs.List.{list_all}
use Rattle.std.specs.Fmt.{decimal}
use Rattle.std.proofs.lemmas.Fmt.{decimal_by_steps}
use Rattle.std.proofs.lemmas.Bool.{lt-ltb, ltb-true, le-leb, and_from, ne_eqb}
use Rattle.mc_nbt.specs.Word.{is_name_byte, is_key, is_string_byte, comes_before}
use Rattle.mc_nbt.specs.Tree.{Tree, int, string, list, compound, Items, no_items, item, Fields, no_fields, field, of_items, of_fields, list_of, compound_of, kind, depth, items_depth, fields_depth}
use Rattle.mc_nbt.specs.Shape.{is_shaped, items_shaped, fields_shaped, all_of_kind, rise_after}
use Rattle.mc_nbt.specs.Spelling.{tree_text, more_items_text, more_fields_text, Spells}
use Rattle.mc_nbt.specs.Beginning.{spelled}
use Rattle.mc_nbt.specs.steps.Reading.{in_list, in_compound, Open, State, start, minus, digits, negative, quoted, behind, keyed, given, wanted, allows, last_key, comes_after, is_digit, begin, after, step, ended, level, answer_at, read_on, read_from, read_text}
use Rattle.mc_nbt.proofs.TestLemmas.{and_first, and_second, other}
use Rattle.mc_nbt.proofs.TreeLemmas.{items-of_items, fields-of_fields}
use Rattle.mc_nbt.proofs.KeyLemmas.{begins_key-of}

-- from a state the reader takes this text to another state, at most so many levels deep
abbrev Takes : State → List ℕ → State → ℕ → Type 0
Takes s t u e = (n d : ℕ) (rest : List ℕ) → read_from s n d (t ++ rest) ≡ read_from u (n + length t) (max d e) rest

takes_byte : (s : State) (c : ℕ) (u : State) → step s c ≡ Some u → Takes s (c ∷ []) u (level u)
takes_byte s c u h n d rest =
    let e : suc n ≡ n + 1 = omega arith in
    ap (λ o. read_on o n (λ v. read_from v (suc n) (max d (level v)) rest)) h ∙ ap (λ k. read_from u k (max d (level u)) rest) e

takes_both : (s : State) (p : List ℕ) (u : State) (q : List ℕ) (v : State) (e f g : ℕ) → Takes s p u e → Takes u q v f → max e f ≡ g → Takes s (p ++ q) v g
takes_both s p u q v e f g h k m n d rest =
    let deepest : max (max d e) f ≡ max d g = omega (arith, m) in
    let taken : n + length p + length q ≡ n + length (p ++ q) = omega (arith, length-append p q) in
    ap (read_from s n d) (append_assoc p q rest) ∙ h n d (q ++ rest) ∙ k (n + length p) (max d e) rest
    ∙ ap (λ j. read_from v j (max (max d e) f) rest) taken ∙ ap (λ j. read_from v (n + length (p ++ q)) j rest) deepest

-- ints
digit_is : (c : ℕ) → 48 ≤ c → c ≤ 57 → is_digit c ≡ true
digit_is c a b = and_from _ _ (le-leb 48 c a) (le-leb c 57 b)

first_digit : (fs : Open) (w : Option ℕ) (n : ℕ) → n < 10 → allows w 0 ≡ true → begin fs w (48 + n) ≡ Some (digits fs n)
first_digit fs w n l a =
    rw (ne_eqb (48 + n) 45 (omega arith), ne_eqb (48 + n) 34 (omega arith), ne_eqb (48 + n) 91 (omega arith), ne_eqb (48 + n) 123 (omega arith), ne_eqb (48 + n) 93 (omega arith), digit_is (48 + n) (omega arith) (omega arith), a)
    (let e : 48 + n - 48 ≡ n = omega arith in ap (λ m. Some (digits fs m)) e)

next_digit : (fs : Open) (m d : ℕ) → 0 < m → d < 10 → 10 * m + d < 2 ^ 31 → step (digits fs m) (48 + d) ≡ Some (digits fs (10 * m + d))
next_digit fs m d p l b =
    let e : 48 + d - 48 ≡ d = omega arith in
    rw (digit_is (48 + d) (omega arith) (omega arith), e, lt-ltb 0 m p, lt-ltb (10 * m + d) (2 ^ 31) b) refl

first_negative : (fs : Open) (k : ℕ) → k < 9 → step (minus fs) (49 + k) ≡ Some (negative fs k)
first_negative fs k l =
    let e : 49 + k - 49 ≡ k = omega arith in
    rw (le-leb 49 (49 + k) (omega arith), le-leb (49 + k) 57 (omega arith), e) refl

next_negative : (fs : Open) (k d : ℕ) → d < 10 → 10 * k + 9 + d < 2 ^ 31 → step (negative fs k) (48 + d) ≡ Some (negative fs (10 * k + 9 + d))
next_negative fs k d l b =
    let e : 48 + d - 48 ≡ d = omega arith in
    rw (digit_is (48 + d) (omega arith) (omega arith), e, lt-ltb (10 * k + 9 + d) (2 ^ 31) b) refl

takes_digits : (fs : Open) → allows (wanted fs) 0 ≡ true → (n : ℕ) → n < 2 ^ 31 → Takes (start fs) (decimal n) (digits fs n) (suc (length fs))
takes_digits fs a n small =
    decimal_by_steps (λ n ds. n < 2 ^ 31 → Takes (start fs) ds (digits fs n) (suc (length fs)))
    (λ n l s. takes_byte (start fs) (48 + n) (digits fs n) (first_digit fs (wanted fs) n l a))
    (λ n ds big h s.
    let q : n / 10 < 2 ^ 31 = omega arith in
    let e : 10 * (n / 10) + n % 10 ≡ n = omega arith in
    takes_both (start fs) ds (digits fs (n / 10)) ((48 + n % 10) ∷ []) (digits fs n) _ (suc (length fs)) _ (h q)
    (takes_byte (digits fs (n / 10)) (48 + n % 10) (digits fs n) (next_digit fs (n / 10) (n % 10) (omega arith) (omega arith) (omega arith) ∙ ap (λ m. Some (digits fs m)) e)) (omega arith))
    n (omega arith) small

takes_negative : (fs : Open) (k : ℕ) → k < 2 ^ 31 → Takes (minus fs) (decimal (suc k)) (negative fs k) (suc (length fs))
takes_negative fs k small =
    decimal_by_steps (λ n ds. (k : ℕ) → n ≡ suc k → k < 2 ^ 31 → Takes (minus fs) ds (negative fs k) (suc (length fs)))
    (λ n l k e s.
    let f : 48 + n ≡ 49 + k = omega arith in
    takes_byte (minus fs) (48 + n) (negative fs k) (ap (step (minus fs)) f ∙ first_negative fs k (omega arith)))
    (λ n ds big h k e s.
    let j : n / 10 ≡ suc (n / 10 - 1) = omega arith in
    let b : n / 10 - 1 < 2 ^ 31 = omega arith in
    let v : 10 * (n / 10 - 1) + 9 + n % 10 ≡ k = omega arith in
    takes_both (minus fs) ds (negative fs (n / 10 - 1)) ((48 + n % 10) ∷ []) (negative fs k) _ (suc (length fs)) _ (h (n / 10 - 1) j b)
    (takes_byte (negative fs (n / 10 - 1)) (48 + n % 10) (negative fs k) (next_negative fs (n / 10 - 1) (n % 10) (omega arith) (omega arith) ∙ ap (λ m. Some (negative fs m)) v)) (omega arith))
    (suc k) (omega arith) k refl small

-- strings
takes_string : (fs : Open) (p s : List ℕ) → list_all is_string_byte s ≡ true → Takes (quoted fs p) (s ++ (34 ∷ [])) (behind fs (string (p ++ s))) (suc (length fs))
takes_string fs p [] h = takes_byte (quoted fs p) 34 (behind fs (string (p ++ []))) (ap (λ w. Some (behind fs (string w))) (sym (append-nil p)))
takes_string fs p (b ∷ s) h =
    let fits = and_first (is_string_byte b) _ h in
    let one : step (quoted fs p) b ≡ Some (quoted fs (p ++ (b ∷ []))) =
    ap (λ c. if c then Some (behind fs (string p)) else given (is_string_byte b) (quoted fs (p ++ (b ∷ [])))) (other is_string_byte 34 b refl fits)
    ∙ ap (λ c. given c (quoted fs (p ++ (b ∷ [])))) fits in
    let more = takes_string fs (p ++ (b ∷ [])) s (and_second (is_string_byte b) _ h) in
    takes_both (quoted fs p) (b ∷ []) (quoted fs (p ++ (b ∷ []))) (s ++ (34 ∷ [])) (behind fs (string (p ++ (b ∷ s)))) (suc (length fs)) (suc (length fs)) _
    (takes_byte (quoted fs p) b (quoted fs (p ++ (b ∷ []))) one)
    (subst (λ w. Takes (quoted fs (p ++ (b ∷ []))) (s ++ (34 ∷ [])) (behind fs (string w)) (suc (length fs))) (append_assoc p (b ∷ []) s) more)
    (omega arith)

-- keys
takes_key : (fs : Open) (es : List (List ℕ × Tree)) (p k : List ℕ) → list_all is_name_byte k ≡ true → is_key (p ++ k) ≡ true → comes_after (last_key es) (p ++ k) ≡ true → Takes (keyed fs es p) (k ++ (58 ∷ [])) (start (in_compound es (p ++ k) ∷ fs)) (suc (length fs))
takes_key fs es p [] names h a =
    let whole : is_key p ≡ true = ap is_key (sym (append-nil p)) ∙ h in
    let next : comes_after (last_key es) p ≡ true = ap (comes_after (last_key es)) (sym (append-nil p)) ∙ a in
    takes_byte (keyed fs es p) 58 (start (in_compound es (p ++ []) ∷ fs))
    (ap (λ b. given b (start (in_compound es p ∷ fs))) (and_from _ _ whole next) ∙ ap (λ w. Some (start (in_compound es w ∷ fs))) (sym (append-nil p)))
takes_key fs es p (b ∷ k) names h a =
    let name = and_first (is_name_byte b) _ names in
    let same : (p ++ (b ∷ [])) ++ k ≡ p ++ (b ∷ k) = append_assoc p (b ∷ []) k in
    let h' : is_key ((p ++ (b ∷ [])) ++ k) ≡ true = ap is_key same ∙ h in
    let a' : comes_after (last_key es) ((p ++ (b ∷ [])) ++ k) ≡ true = ap (comes_after (last_key es)) same ∙ a in
    let one : step (keyed fs es p) b ≡ Some (keyed fs es (p ++ (b ∷ []))) =
    rw (other is_name_byte 58 b refl name, other is_name_byte 125 b refl name, begins_key-of (last_key es) (p ++ (b ∷ [])) k h' a') refl in
    takes_both (keyed fs es p) (b ∷ []) (keyed fs es (p ++ (b ∷ []))) (k ++ (58 ∷ [])) (start (in_compound es (p ++ (b ∷ k)) ∷ fs)) (suc (length fs)) (suc (length fs)) _
    (takes_byte (keyed fs es p) b (keyed fs es (p ++ (b ∷ []))) one)
    (subst (λ w. Takes (keyed fs es (p ++ (b ∷ []))) (k ++ (58 ∷ [])) (start (in_compound es w ∷ fs)) (suc (length fs))) same (takes_key fs es (p ++ (b ∷ [])) k (and_second (is_name_byte b) _ names) h' a'))
    (omega arith)

key_names : (k : List ℕ) → is_key k ≡ true → list_all is_name_byte k ≡ true
unfolding is_key
key_names k h = and_first (list_all is_name_byte k) _ h

-- the state behind a tree
abbrev pub done : Open → Tree → State
done fs (int (pos m)) = digits fs m
done fs (int (negsuc k)) = negative fs k
done fs (string s) = behind fs (string s)
done fs (list ts) = behind fs (list ts)
done fs (compound es) = behind fs (compound es)

-- behind a tree no byte but a digit asks what the tree is
step_done : (fs : Open) (t : Tree) (c : ℕ) → is_digit c ≡ false → step (done fs t) c ≡ after fs t c
step_done fs (int (pos m)) c n = rw n refl
step_done fs (int (negsuc k)) c n = rw n refl
step_done fs (string s) c n = refl
step_done fs (list ts) c n = refl
step_done fs (compound es) c n = refl

ended_done : (t : Tree) → ended (done [] t) ≡ Some t
ended_done (int (pos m)) = refl
ended_done (int (negsuc k)) = refl
ended_done (string s) = refl
ended_done (list ts) = refl
ended_done (compound es) = refl

wanted_more : (ts : List Tree) (t u : Tree) (fs : Open) (k : ℕ) → wanted (in_list (ts ++ (t ∷ [])) ∷ fs) ≡ Some k → wanted (in_list ((ts ++ (t ∷ [])) ++ (u ∷ [])) ∷ fs) ≡ Some k
wanted_more [] t u fs k h = h
wanted_more (x ∷ ts) t u fs k h = h

pub last_key-more : (es : List (List ℕ × Tree)) (k : List ℕ) (t : Tree) → last_key (es ++ ((k, t) ∷ [])) ≡ Some k
last_key-more [] k t = refl
last_key-more (e ∷ []) k t = refl
last_key-more (e ∷ f ∷ es) k t = last_key-more (f ∷ es) k t

-- a field's key and value
takes_field : (fs : Open) (es : List (List ℕ × Tree)) (k : List ℕ) (t : Tree) (w : List ℕ) (u : State) (e : ℕ)
    → is_key k ≡ true → comes_after (last_key es) k ≡ true
    → Takes (start (in_compound es k ∷ fs)) (tree_text t) (done (in_compound es k ∷ fs) t) (suc (length fs) + depth t)
    → Takes (done (in_compound es k ∷ fs) t) w u (suc (length fs) + e)
    → Takes (keyed fs es []) (k ++ (58 ∷ (tree_text t ++ w))) u (suc (length fs) + max (depth t) e)
takes_field fs es k t w u e h a value more =
    let value_and_more = takes_both (start (in_compound es k ∷ fs)) (tree_text t) (done (in_compound es k ∷ fs) t) w u (suc (length fs) + depth t) (suc (length fs) + e) (suc (length fs) + max (depth t) e) value more (omega arith) in
    subst (λ v. Takes (keyed fs es []) v u (suc (length fs) + max (depth t) e)) (append_assoc k (58 ∷ []) (tree_text t ++ w))
    (takes_both (keyed fs es []) (k ++ (58 ∷ [])) (start (in_compound es k ∷ fs)) (tree_text t ++ w) u (suc (length fs)) _ _ (takes_key fs es [] k (key_names k h) h a) value_and_more (omega arith))

mutual
  takes_tree : (t : Tree) → is_shaped t ≡ true → (fs : Open) → allows (wanted fs) (kind t) ≡ true → Takes (start fs) (tree_text t) (done fs t) (length fs + depth t)
  takes_tree (int (pos n)) h fs a =
      let e : suc (length fs) ≡ length fs + 1 = omega arith in
      subst (Takes (start fs) (decimal n) (digits fs n)) e (takes_digits fs a n (ltb-true _ _ h))
  takes_tree (int (negsuc k)) h fs a =
      takes_both (start fs) (45 ∷ []) (minus fs) (decimal (suc k)) (negative fs k) (suc (length fs)) (suc (length fs)) _
      (takes_byte (start fs) 45 (minus fs) (ap (λ b. given b (minus fs)) a)) (takes_negative fs k (ltb-true _ _ h)) (omega arith)
  takes_tree (string s) h fs a =
      takes_both (start fs) (34 ∷ []) (quoted fs []) (s ++ (34 ∷ [])) (behind fs (string s)) (suc (length fs)) (suc (length fs)) _
      (takes_byte (start fs) 34 (quoted fs []) (ap (λ b. given b (quoted fs [])) a)) (takes_string fs [] s h) (omega arith)
  takes_tree (list no_items) h fs a =
      takes_both (start fs) (91 ∷ []) (start (in_list [] ∷ fs)) (93 ∷ []) (behind fs (list no_items)) (suc (length fs)) (suc (length fs)) _
      (takes_byte (start fs) 91 (start (in_list [] ∷ fs)) (ap (λ b. given b (start (in_list [] ∷ fs))) a)) (takes_byte (start (in_list [] ∷ fs)) 93 (behind fs (list no_items)) refl) (omega arith)
  takes_tree (list (item t ts)) h fs a =
      let g = and_first (items_shaped (item t ts)) _ h in
      let first = takes_tree t (and_first _ _ g) (in_list [] ∷ fs) refl in
      let others = takes_items ts (and_second (is_shaped t) _ g) [] t fs (kind t) refl (and_second (items_shaped (item t ts)) _ h) in
      takes_both (start fs) (91 ∷ []) (start (in_list [] ∷ fs)) (tree_text t ++ more_items_text ts) (behind fs (list (item t ts))) (suc (length fs)) (suc (length fs) + max (depth t) (items_depth ts)) _
      (takes_byte (start fs) 91 (start (in_list [] ∷ fs)) (ap (λ b. given b (start (in_list [] ∷ fs))) a))
      (takes_both (start (in_list [] ∷ fs)) (tree_text t) (done (in_list [] ∷ fs) t) (more_items_text ts) (behind fs (list (item t ts))) (suc (length fs) + depth t) (suc (length fs) + items_depth ts) _ first
      (subst (λ us. Takes (done (in_list [] ∷ fs) t) (more_items_text ts) (behind fs (list (item t us))) (suc (length fs) + items_depth ts)) (items-of_items ts) others)
      (omega arith))
      (omega arith)
  takes_tree (compound no_fields) h fs a =
      takes_both (start fs) (123 ∷ []) (keyed fs [] []) (125 ∷ []) (behind fs (compound no_fields)) (suc (length fs)) (suc (length fs)) _
      (takes_byte (start fs) 123 (keyed fs [] []) (ap (λ b. given b (keyed fs [] [])) a)) (takes_byte (keyed fs [] []) 125 (behind fs (compound no_fields)) refl) (omega arith)
  takes_tree (compound (field k t es)) h fs a =
      let g = and_first (fields_shaped (field k t es)) _ h in
      let key = and_first (is_key k) _ g in
      let more = and_second (is_key k) _ g in
      let value = takes_tree t (and_first _ _ more) (in_compound [] k ∷ fs) refl in
      let others = takes_fields es (and_second (is_shaped t) _ more) [] k t fs (and_second (fields_shaped (field k t es)) _ h) in
      takes_both (start fs) (123 ∷ []) (keyed fs [] []) (k ++ (58 ∷ (tree_text t ++ more_fields_text es))) (behind fs (compound (field k t es))) (suc (length fs)) (suc (length fs) + max (depth t) (fields_depth es)) _
      (takes_byte (start fs) 123 (keyed fs [] []) (ap (λ b. given b (keyed fs [] [])) a))
      (takes_field fs [] k t (more_fields_text es) (behind fs (compound (field k t es))) (fields_depth es) key refl value
      (subst (λ us. Takes (done (in_compound [] k ∷ fs) t) (more_fields_text es) (behind fs (compound (field k t us))) (suc (length fs) + fields_depth es)) (fields-of_fields es) others))
      (omega arith)

  takes_items : (us : Items) → items_shaped us ≡ true → (ts : List Tree) (t : Tree) (fs : Open) (k : ℕ) → wanted (in_list (ts ++ (t ∷ [])) ∷ fs) ≡ Some k → all_of_kind k (of_items us) ≡ true → Takes (done (in_list ts ∷ fs) t) (more_items_text us) (behind fs (list_of (ts ++ (t ∷ of_items us)))) (suc (length fs) + items_depth us)
  takes_items no_items h ts t fs k w a =
      let e : suc (length fs) ≡ suc (length fs) + 0 = omega arith in
      subst (Takes (done (in_list ts ∷ fs) t) (93 ∷ []) (behind fs (list_of (ts ++ (t ∷ []))))) e
      (takes_byte (done (in_list ts ∷ fs) t) 93 (behind fs (list_of (ts ++ (t ∷ [])))) (step_done (in_list ts ∷ fs) t 93 refl))
  takes_items (item u us) h ts t fs k w a =
      let fs' : Open = in_list (ts ++ (t ∷ [])) ∷ fs in
      let first = takes_tree u (and_first _ _ h) fs' (ap (λ o. allows o (kind u)) w ∙ and_first _ _ a) in
      let others = takes_items us (and_second (is_shaped u) _ h) (ts ++ (t ∷ [])) u fs k (wanted_more ts t u fs k w) (and_second (nat_eq k (kind u)) _ a) in
      let end : State = behind fs (list_of (ts ++ (t ∷ (u ∷ of_items us)))) in
      takes_both (done (in_list ts ∷ fs) t) (44 ∷ []) (start fs') (tree_text u ++ more_items_text us) end (suc (length fs)) (suc (length fs) + max (depth u) (items_depth us)) _
      (takes_byte (done (in_list ts ∷ fs) t) 44 (start fs') (step_done (in_list ts ∷ fs) t 44 refl))
      (takes_both (start fs') (tree_text u) (done fs' u) (more_items_text us) end (suc (length fs) + depth u) (suc (length fs) + items_depth us) _ first
      (subst (λ l. Takes (done fs' u) (more_items_text us) (behind fs (list_of l)) (suc (length fs) + items_depth us)) (append_assoc ts (t ∷ []) (u ∷ of_items us)) others)
      (omega arith))
      (omega arith)

  takes_fields : (us : Fields) → fields_shaped us ≡ true → (es : List (List ℕ × Tree)) (k : List ℕ) (t : Tree) (fs : Open) → rise_after k (of_fields us) ≡ true → Takes (done (in_compound es k ∷ fs) t) (more_fields_text us) (behind fs (compound_of (es ++ ((k, t) ∷ of_fields us)))) (suc (length fs) + fields_depth us)
  takes_fields no_fields h es k t fs r =
      let e : suc (length fs) ≡ suc (length fs) + 0 = omega arith in
      subst (Takes (done (in_compound es k ∷ fs) t) (125 ∷ []) (behind fs (compound_of (es ++ ((k, t) ∷ []))))) e
      (takes_byte (done (in_compound es k ∷ fs) t) 125 (behind fs (compound_of (es ++ ((k, t) ∷ [])))) (step_done (in_compound es k ∷ fs) t 125 refl))
  takes_fields (field l u us) h es k t fs r =
      let es' : List (List ℕ × Tree) = es ++ ((k, t) ∷ []) in
      let key = and_first (is_key l) _ h in
      let more = and_second (is_key l) _ h in
      let rises = and_first (comes_before k l) _ r in
      let value = takes_tree u (and_first _ _ more) (in_compound es' l ∷ fs) refl in
      let others = takes_fields us (and_second (is_shaped u) _ more) es' l u fs (and_second (comes_before k l) _ r) in
      let end : State = behind fs (compound_of (es ++ ((k, t) ∷ ((l, u) ∷ of_fields us)))) in
      takes_both (done (in_compound es k ∷ fs) t) (44 ∷ []) (keyed fs es' []) (l ++ (58 ∷ (tree_text u ++ more_fields_text us))) end (suc (length fs)) (suc (length fs) + max (depth u) (fields_depth us)) _
      (takes_byte (done (in_compound es k ∷ fs) t) 44 (keyed fs es' []) (step_done (in_compound es k ∷ fs) t 44 refl ∙ ap (λ b. given b (keyed fs es' [])) (begins_key-of (Some k) [] l key rises)))
      (takes_field fs es' l u (more_fields_text us) end (fields_depth us) key (ap (λ o. comes_after o l) (last_key-more es k t) ∙ rises) value
      (subst (λ l'. Takes (done (in_compound es' l ∷ fs) u) (more_fields_text us) (behind fs (compound_of l')) (suc (length fs) + fields_depth us)) (append_assoc es ((k, t) ∷ []) ((l, u) ∷ of_fields us)) others))
      (omega arith)

-- a spelling is read
pub reads_spelling : (t : Tree) → is_shaped t ≡ true → read_text (tree_text t) ≡ spelled t (depth t)
reads_spelling t h =
    let deepest : max 0 (0 + depth t) ≡ depth t = omega arith in
    ap (read_from (start []) 0 0) (sym (append-nil (tree_text t))) ∙ takes_tree t h [] refl 0 0 []
    ∙ ap (λ o. answer_at o (0 + length (tree_text t)) (max 0 (0 + depth t))) (ended_done t)
    ∙ ap (spelled t) deepest

-- a text spells at most one tree
pub one_tree : (text : List ℕ) (t u : Tree) → Spells text t → Spells text u → t ≡ u
one_tree text t u a b =
    let e : spelled t (depth t) ≡ spelled u (depth u) = sym (reads_spelling t a.shaped) ∙ ap read_text (sym a.spelled ∙ b.spelled) ∙ reads_spelling u b.shaped in
    cc
