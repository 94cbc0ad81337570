-- The reader with kinds and last keys alone answers the same.
use Rattle.std.proofs.Common.{◌≡◌, ℕ, suc, ◌+◌, ◌-◌, ◌*◌, max, List, [], ◌∷◌, ◌++◌, Bool, true, false, Option, Some, None, refl, sym, ap, ◌∙◌, subst}
use Rattle.std.specs.Prelude.{nat_eq, if◌then◌else◌, option_map, pos, negsuc}
use Rattle.std.proofs.lemmas.List.{length-map}
use Rattle.mc_nbt.specs.Beginning.{Answer, spelled, broken, IsAnswered}
use Rattle.mc_nbt.specs.Tree.{Tree, int, compound, no_fields, list_of, compound_of, kind}
use Rattle.mc_nbt.specs.steps.Reading.{in_list, in_compound, Open, State, given, last_key, begins_key, is_digit, read_from, read_text}
use Rattle.mc_nbt.specs.steps.Reading as reading
use Rattle.mc_nbt.specs.steps.Scanning.{of_list, item_kind, first_kind, mark, marks, scan_of, verdict_at, verdict_of, scan_on, scan_from, scan_text, has_ended, step, level, wanted, close_empty, begin, after, is_bare, in_key, start, behind, keyed, IsVerdict}
use Rattle.mc_nbt.proofs.ReadingComplete.{last_key-more}
use Rattle.mc_nbt.proofs.ReadingSound.{answers}

given-map : {A B : Type 0} (f : A → B) (b : Bool) (a : A) → given b (f a) ≡ option_map f (given b a)
given-map f true a = refl
given-map f false a = refl

if-map : {A B : Type 0} (f : A → B) (b : Bool) (x y : Option A) (u v : Option B) → u ≡ option_map f x → v ≡ option_map f y → (if b then u else v) ≡ option_map f (if b then x else y)
if-map f true x y u v g h = g
if-map f false x y u v g h = h

wanted_same : (fs : Open) → wanted (marks fs) ≡ reading.wanted fs
wanted_same [] = refl
wanted_same (in_list [] ∷ fs) = refl
wanted_same (in_list (t ∷ ts) ∷ fs) = refl
wanted_same (in_compound es k ∷ fs) = refl

item_kind-more : (ts : List Tree) (t : Tree) → item_kind (ts ++ (t ∷ [])) ≡ Some (first_kind (item_kind ts) (kind t))
item_kind-more [] t = refl
item_kind-more (x ∷ ts) t = refl

close_empty_same : (fs : Open) → close_empty (marks fs) ≡ option_map scan_of (reading.close_empty fs)
close_empty_same [] = refl
close_empty_same (in_list [] ∷ fs) = refl
close_empty_same (in_list (t ∷ ts) ∷ fs) = refl
close_empty_same (in_compound es k ∷ fs) = refl

after_same : (fs : Open) (t : Tree) (c : ℕ) → after (marks fs) (kind t) c ≡ option_map scan_of (reading.after fs t c)
after_same [] t c = refl
after_same (in_list ts ∷ fs) t c =
    if-map scan_of (nat_eq c 44) _ _ _ _ (ap (λ o. Some (start (of_list o ∷ marks fs))) (sym (item_kind-more ts t))) (given-map scan_of (nat_eq c 93) (reading.behind fs (list_of (ts ++ (t ∷ [])))))
after_same (in_compound es k ∷ fs) t c =
    if-map scan_of (nat_eq c 44) _ _ _ _
    (ap (λ o. given (begins_key (Some k) []) (keyed (marks fs) o [])) (sym (last_key-more es k t)) ∙ given-map scan_of (begins_key (Some k) []) (reading.keyed fs (es ++ ((k, t) ∷ [])) []))
    (given-map scan_of (nat_eq c 125) (reading.behind fs (compound_of (es ++ ((k, t) ∷ [])))))

begin_same : (fs : Open) (w : Option ℕ) (c : ℕ) → begin (marks fs) w c ≡ option_map scan_of (reading.begin fs w c)
begin_same fs w c =
    if-map scan_of (nat_eq c 45) _ _ _ _ (given-map scan_of _ (reading.minus fs))
    (if-map scan_of (nat_eq c 34) _ _ _ _ (given-map scan_of _ (reading.quoted fs []))
    (if-map scan_of (nat_eq c 91) _ _ _ _ (given-map scan_of _ (reading.start (in_list [] ∷ fs)))
    (if-map scan_of (nat_eq c 123) _ _ _ _ (given-map scan_of _ (reading.keyed fs [] []))
    (if-map scan_of (nat_eq c 93) _ _ _ _ (close_empty_same fs) (given-map scan_of _ (reading.digits fs (c - 48)))))))

is_bare_some : (e : List ℕ × Tree) (es : List (List ℕ × Tree)) (k : List ℕ) → is_bare (last_key (e ∷ es)) k ≡ false
is_bare_some e [] k = refl
is_bare_some e (f ∷ es) k = is_bare_some f es k

is_bare_same : (es : List (List ℕ × Tree)) (k : List ℕ) → is_bare (last_key es) k ≡ reading.is_bare es k
is_bare_same [] [] = refl
is_bare_same [] (c ∷ k) = refl
is_bare_same (e ∷ es) k = is_bare_some e es k

in_key_same : (fs : Open) (es : List (List ℕ × Tree)) (k : List ℕ) (c : ℕ) → in_key (marks fs) (last_key es) k c ≡ option_map scan_of (reading.in_key fs es k c)
in_key_same fs es k c =
    if-map scan_of (nat_eq c 58) _ _ _ _ (given-map scan_of _ (reading.start (in_compound es k ∷ fs)))
    (if-map scan_of (nat_eq c 125) _ _ _ _
    (ap (λ b. given b (behind (marks fs) 3)) (is_bare_same es k) ∙ given-map scan_of _ (reading.behind fs (compound no_fields)))
    (given-map scan_of _ (reading.keyed fs es (k ++ (c ∷ [])))))

step_same : (s : State) (c : ℕ) → step (scan_of s) c ≡ option_map scan_of (reading.step s c)
step_same (reading.start fs) c = ap (λ w. begin (marks fs) w c) (wanted_same fs) ∙ begin_same fs (reading.wanted fs) c
step_same (reading.minus fs) c = given-map scan_of _ (reading.negative fs (c - 49))
step_same (reading.digits fs m) c = if-map scan_of (is_digit c) _ _ _ _ (given-map scan_of _ (reading.digits fs (10 * m + (c - 48)))) (after_same fs (int (pos m)) c)
step_same (reading.negative fs k) c = if-map scan_of (is_digit c) _ _ _ _ (given-map scan_of _ (reading.negative fs (10 * k + 9 + (c - 48)))) (after_same fs (int (negsuc k)) c)
step_same (reading.quoted fs s) c = if-map scan_of (nat_eq c 34) _ _ _ _ refl (given-map scan_of _ (reading.quoted fs (s ++ (c ∷ []))))
step_same (reading.behind fs t) c = after_same fs t c
step_same (reading.keyed fs es k) c = in_key_same fs es k c

level_same : (s : State) → level (scan_of s) ≡ reading.level s
level_same (reading.start fs) = length-map fs mark
level_same (reading.minus fs) = ap suc (length-map fs mark)
level_same (reading.digits fs m) = ap suc (length-map fs mark)
level_same (reading.negative fs k) = ap suc (length-map fs mark)
level_same (reading.quoted fs s) = ap suc (length-map fs mark)
level_same (reading.behind fs t) = ap suc (length-map fs mark)
level_same (reading.keyed fs es k) = ap suc (length-map fs mark)

ended_same : (s : State) (n d : ℕ) → verdict_at (has_ended (scan_of s)) n d ≡ verdict_of (reading.answer_at (reading.ended s) n d)
ended_same (reading.start fs) n d = refl
ended_same (reading.minus fs) n d = refl
ended_same (reading.digits [] m) n d = refl
ended_same (reading.digits (f ∷ fs) m) n d = refl
ended_same (reading.negative [] k) n d = refl
ended_same (reading.negative (f ∷ fs) k) n d = refl
ended_same (reading.quoted fs s) n d = refl
ended_same (reading.behind [] t) n d = refl
ended_same (reading.behind (f ∷ fs) t) n d = refl
ended_same (reading.keyed fs es k) n d = refl

scan_from_same : (t : List ℕ) (s : State) (n d : ℕ) → scan_from (scan_of s) n d t ≡ verdict_of (read_from s n d t)
scan_from_same [] s n d = ended_same s n d
scan_from_same (c ∷ t) s n d = ap (λ o. scan_on o n (λ u. scan_from u (suc n) (max d (level u)) t)) (step_same s c) ∙ go (reading.step s c) (λ u. scan_from_same t u (suc n))
  where
    go : (o : Option State) → ((u : State) (e : ℕ) → scan_from (scan_of u) (suc n) e t ≡ verdict_of (read_from u (suc n) e t))
        → scan_on (option_map scan_of o) n (λ u. scan_from u (suc n) (max d (level u)) t) ≡ verdict_of (reading.read_on o n (λ u. read_from u (suc n) (max d (reading.level u)) t))
    go None ih = refl
    go (Some u) ih = ap (λ l. scan_from (scan_of u) (suc n) (max d l) t) (level_same u) ∙ ih u (max d (reading.level u))

pub scan_same : (t : List ℕ) → scan_text t ≡ verdict_of (read_text t)
scan_same t = scan_from_same t (reading.start []) 0 0

-- what the scanner answers is right, whatever the text
pub scanned : (text : List ℕ) → IsVerdict text (scan_text text)
scanned text = subst (IsVerdict text) (sym (scan_same text)) (go (read_text text) (answers text))
  where
    go : (a : Answer) → IsAnswered text a → IsVerdict text (verdict_of a)
    go (spelled t d) h = (t, h.0, h.1)
    go (broken n) h = h
