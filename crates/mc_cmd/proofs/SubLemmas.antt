-- Tests and sub-commands are read as they are spelled, and what is read is spelled so.
use Rattle.std.proofs.Common.{◌≡◌, ◌<◌, ◌≤◌, ℕ, zero, suc, List, [], ◌∷◌, ◌++◌, length, true, Option, Some, None, refl, ap, ◌∙◌, subst, arith, length-append}
use Rattle.std.specs.Prelude.{codes, option_map, ◌&&◌}
use Rattle.mc_nbt.proofs.TestLemmas.{and_first, and_second, and_both}
use Rattle.mc_cmd.specs.Form.{Text, strip, spaced, both}
use Rattle.mc_cmd.specs.Word.{cmp, is_holder, is_objective, range_text}
use Rattle.mc_cmd.specs.Value.{path}
use Rattle.mc_cmd.specs.Command.{Simple, Test, scores_compare, score_matches, path_selects, Sub, if_test, unless_test, store_score, store_data}
use Rattle.mc_cmd.specs.Grammar.{score_front, score_after, compare_form, matches_form, selects_form, compare_of, matches_of, selects_of, test_text, test_fits, test_read, test, if_form, unless_form, store_score_form, store_data_form, store_score_of, store_data_of, sub_text, sub_fits, sub_read, sub, subs_text, subs_fit, subs_by, subs_read, simple_text, simple_fits, simple_read}
use Rattle.mc_cmd.proofs.FormLemmas.{IsFront, before_is, both_is, both_none, ToldFront, told_front_some, told_front_or, or_some, or_none, strip_spells, map_some}
use Rattle.mc_cmd.proofs.WordLemmas.{cmp_front, range_front}
use Rattle.mc_cmd.proofs.SimpleLemmas.{score_front_is, place_front_is, score_after_is, place_within_is, simple_is}

-- tests
compare_is : IsFront compare_form
compare_is = both_is _ _ (score_after_is (codes "score ")) (both_is _ _ cmp_front score_front_is)

matches_is : IsFront matches_form
matches_is = both_is _ _ (score_after_is (codes "score ")) (before_is (codes "matches ") _ range_front)

selects_is : IsFront selects_form
selects_is = before_is (codes "data storage ") _ place_front_is

test_told : (t : Text) → ToldFront test_text test_fits t (test_read t)
test_told t =
    told_front_or test_text test_fits compare_form compare_is compare_of t _ (λ x r. refl) (λ x. refl)
    (told_front_or test_text test_fits matches_form matches_is matches_of t _ (λ x r. refl) (λ x. refl)
    (told_front_or test_text test_fits selects_form selects_is selects_of t None (λ x r. refl) (λ x. refl) tt))

-- `matches` is no comparison
compare_none : (h o t : Text) → is_holder h ≡ true → is_objective o ≡ true → compare_form.read (codes "score " ++ (h ++ (32 ∷ (o ++ (32 ∷ (codes "matches " ++ t)))))) ≡ None
compare_none h o t f g =
    both_none (score_after (codes "score ")) (both (spaced cmp) score_front) (score_after_is (codes "score ")) (h, o) (codes "matches " ++ t) (and_both _ _ f g) refl

test_reads : (c : Test) (t : Text) → test_fits c ≡ true → test_read (test_text c t) ≡ Some (c, t)
test_reads (scores_compare h o c i q) t e = or_some _ (λ p. (compare_of p.0, p.1)) (((h, o), (c, (i, q))), t) _ (compare_is.reads ((h, o), (c, (i, q))) t e)
test_reads (score_matches h o r) t e =
    let score = and_first (is_holder h && is_objective o) _ e in
    or_none _ (λ p. (compare_of p.0, p.1)) _ (compare_none h o (range_text r ++ (32 ∷ t)) (and_first (is_holder h) _ score) (and_second (is_holder h) _ score))
    ∙ or_some _ (λ p. (matches_of p.0, p.1)) (((h, o), r), t) _ (matches_is.reads ((h, o), r) t e)
test_reads (path_selects i ps) t e = or_some _ (λ p. (selects_of p.0, p.1)) ((i, ps), t) _ (selects_is.reads (i, ps) t e)

pub test_is : IsFront test
test_is = record { reads = test_reads; spells = λ t a rest h. told_front_some test_text test_fits t (a, rest) _ h (test_told t) }

-- sub-commands
if_is : IsFront if_form
if_is = before_is (codes "if ") test test_is

unless_is : IsFront unless_form
unless_is = before_is (codes "unless ") test test_is

store_score_is : IsFront store_score_form
store_score_is = score_after_is (codes "store result score ")

store_data_is : IsFront store_data_form
store_data_is = place_within_is (codes "store result storage ") (codes "int 1 ")

sub_told : (t : Text) → ToldFront sub_text sub_fits t (sub_read t)
sub_told t =
    told_front_or sub_text sub_fits if_form if_is if_test t _ (λ x r. refl) (λ x. refl)
    (told_front_or sub_text sub_fits unless_form unless_is unless_test t _ (λ x r. refl) (λ x. refl)
    (told_front_or sub_text sub_fits store_score_form store_score_is store_score_of t _ (λ x r. refl) (λ x. refl)
    (told_front_or sub_text sub_fits store_data_form store_data_is store_data_of t None (λ x r. refl) (λ x. refl) tt)))

sub_reads : (s : Sub) (t : Text) → sub_fits s ≡ true → sub_read (sub_text s t) ≡ Some (s, t)
sub_reads (if_test c) t e = or_some _ (λ p. (if_test p.0, p.1)) (c, t) _ (if_is.reads c t e)
sub_reads (unless_test c) t e = or_some _ (λ p. (unless_test p.0, p.1)) (c, t) _ (unless_is.reads c t e)
sub_reads (store_score h o) t e = or_some _ (λ p. (store_score_of p.0, p.1)) ((h, o), t) _ (store_score_is.reads (h, o) t e)
sub_reads (store_data i ps) t e = or_some _ (λ p. (store_data_of p.0, p.1)) ((i, ps), t) _ (store_data_is.reads (i, ps) t e)

pub sub_is : IsFront sub
sub_is = record { reads = sub_reads; spells = λ t a rest h. told_front_some sub_text sub_fits t (a, rest) _ h (sub_told t) }

-- a sub-command isn't `run`, and makes a text longer
not_run : (s : Sub) (t : Text) → strip (codes "run ") (sub_text s t) ≡ None
not_run (if_test c) t = refl
not_run (unless_test c) t = refl
not_run (store_score h o) t = refl
not_run (store_data i ps) t = refl

word_longer : (w t : Text) → suc (length t) ≤ length (w ++ (32 ∷ t))
word_longer w t = omega (arith, length-append w (32 ∷ t))

test_longer : (c : Test) (t : Text) → length t ≤ length (test_text c t)
test_longer (scores_compare h o c i q) t =
    let a = word_longer h (o ++ (32 ∷ (cmp.text c ++ (32 ∷ (i ++ (32 ∷ (q ++ (32 ∷ t)))))))) in
    let b = word_longer o (cmp.text c ++ (32 ∷ (i ++ (32 ∷ (q ++ (32 ∷ t)))))) in
    let d = word_longer (cmp.text c) (i ++ (32 ∷ (q ++ (32 ∷ t)))) in
    let e = word_longer i (q ++ (32 ∷ t)) in
    let f = word_longer q t in
    omega arith
test_longer (score_matches h o r) t =
    let a = word_longer h (o ++ (32 ∷ (codes "matches " ++ (range_text r ++ (32 ∷ t))))) in
    let b = word_longer o (codes "matches " ++ (range_text r ++ (32 ∷ t))) in
    let d = word_longer (range_text r) t in
    omega arith
test_longer (path_selects i ps) t =
    let a = word_longer i (path.text ps ++ (32 ∷ t)) in
    let b = word_longer (path.text ps) t in
    omega arith

sub_longer : (s : Sub) (t : Text) → length t < length (sub_text s t)
sub_longer (if_test c) t = let a = test_longer c t in omega arith
sub_longer (unless_test c) t = let a = test_longer c t in omega arith
sub_longer (store_score h o) t =
    let a = word_longer h (o ++ (32 ∷ t)) in
    let b = word_longer o t in
    omega arith
sub_longer (store_data i ps) t =
    let a = word_longer i (path.text ps ++ (32 ∷ (codes "int 1 " ++ t))) in
    let b = word_longer (path.text ps) (codes "int 1 " ++ t) in
    omega arith

pub subs_longer : (ss : List Sub) (t : Text) → length ss ≤ length (subs_text ss t)
subs_longer [] t = omega arith
subs_longer (s ∷ ss) t = let a = subs_longer ss t in let b = sub_longer s (subs_text ss t) in omega arith

-- the sub-commands and the command that they run
pub subs_reads : (n : ℕ) (ss : List Sub) (c : Simple) → subs_fit ss ≡ true → simple_fits c ≡ true → length ss < n → subs_read n (subs_text ss (simple_text c)) ≡ Some (ss, c)
unfolding subs_read
subs_reads zero ss c a f l = absurd (omega arith)
subs_reads (suc n) [] c a f l = ap (option_map (λ c. ([], c))) (simple_is.reads c f)
subs_reads (suc n) (s ∷ ss) c a f l =
    let t = subs_text ss (simple_text c) in
    ap (λ o. subs_by o (sub_read (sub_text s t)) (subs_read n)) (not_run s t)
    ∙ ap (λ o. subs_by None o (subs_read n)) (sub_reads s t (and_first _ _ a))
    ∙ ap (option_map (λ q. (s ∷ q.0, q.1))) (subs_reads n ss c (and_second (sub_fits s) _ a) f (omega arith))

abbrev pub SubsSpelled : Text → List Sub × Simple → Type 0
SubsSpelled t p = (t ≡ subs_text p.0 (simple_text p.1)) × (subs_fit p.0 ≡ true) × (simple_fits p.1 ≡ true)

pub subs_spells : (n : ℕ) (t : Text) (p : List Sub × Simple) → subs_read n t ≡ Some p → SubsSpelled t p
unfolding subs_read
subs_spells zero t p h = absurd cc
subs_spells (suc n) t p h = go (strip (codes "run ") t) (sub_read t) refl refl h (subs_spells n)
  where
    go : (o : Option Text) (q : Option (Sub × Text)) → strip (codes "run ") t ≡ o → sub_read t ≡ q → subs_by o q (subs_read n) ≡ Some p → ((t : Text) (p : List Sub × Simple) → subs_read n t ≡ Some p → SubsSpelled t p) → SubsSpelled t p
    go (Some r) q e g h ih =
        let m = map_some (λ c. ([], c)) (simple_read r) p h in
        let s = simple_is.spells r m.0 m.1 in
        subst (SubsSpelled t) m.2 (strip_spells (codes "run ") t r e ∙ ap (λ w. codes "run " ++ w) s.0, refl, s.1)
    go None None e g h ih = absurd cc
    go None (Some q) e g h ih =
        let m = map_some (λ p. (q.0 ∷ p.0, p.1)) (subs_read n q.1) p h in
        let s = sub_is.spells t q.0 q.1 g in
        let u = ih q.1 m.0 m.1 in
        subst (SubsSpelled t) m.2 (s.0 ∙ ap (sub_text q.0) u.0, and_both _ _ s.1 u.1, u.2)
