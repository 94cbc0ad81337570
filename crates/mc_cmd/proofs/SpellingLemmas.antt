-- How texts are joined.
use Rattle.std.proofs.Common.{◌≡◌, List, [], ◌∷◌, ◌++◌, Result, refl, sym, ap, ◌∙◌, subst, append_assoc}
use Rattle.std.specs.Prelude.{OnOk, codes}
use Rattle.mc_cmd.specs.Form.{Text}
use Rattle.mc_cmd.specs.Command.{Test, scores_compare, score_matches, path_selects, Sub, if_test, unless_test, store_score, store_data}
use Rattle.mc_cmd.specs.Grammar.{test_text, sub_text, subs_text}

-- what stands behind a test or a sub-command makes no difference to its own text
test_then : (c : Test) (t : Text) → test_text c t ≡ test_text c [] ++ t
test_then (scores_compare h o c i q) t = simp append_assoc
test_then (score_matches h o r) t = simp append_assoc
test_then (path_selects i ps) t = simp append_assoc

sub_text_then : (s : Sub) (t : Text) → sub_text s t ≡ sub_text s [] ++ t
sub_text_then (if_test c) t = ap (λ w. codes "if " ++ w) (test_then c t)
sub_text_then (unless_test c) t = ap (λ w. codes "unless " ++ w) (test_then c t)
sub_text_then (store_score h o) t = simp append_assoc
sub_text_then (store_data i ps) t = simp append_assoc

sub_then : (out : Text) (s : Sub) (t : Text) → (out ++ sub_text s []) ++ t ≡ out ++ sub_text s t
sub_then out s t = append_assoc out (sub_text s []) t ∙ ap (λ w. out ++ w) (sym (sub_text_then s t))

-- a sub-command is written behind the ones before it
pub subs_go_on : (out written whole : Text) (s : Sub) (ss rest : List Sub) (t : Text) → ss ≡ s ∷ rest → written ≡ out ++ sub_text s [] → out ++ subs_text ss t ≡ whole → written ++ subs_text rest t ≡ whole
subs_go_on out written whole s ss rest t e w h = rw w (sub_then out s (subs_text rest t) ∙ ap (λ r. out ++ subs_text r t) (sym e) ∙ h)

pub subs_then : (ss : List Sub) (t : Text) → subs_text ss t ≡ subs_text ss [] ++ t
subs_then [] t = refl
subs_then (s ∷ ss) t = ap (sub_text s) (subs_then ss t) ∙ sub_text_then s (subs_text ss [] ++ t) ∙ sym (append_assoc (sub_text s []) (subs_text ss []) t) ∙ ap (λ w. w ++ t) (sym (sub_text_then s (subs_text ss [])))

-- a text that was written is this one
pub wrote : {A E : Type 0} (r : Result A E) (written t u : Text) → t ≡ u → OnOk r (written ≡ t) → OnOk r (written ≡ u)
wrote r written t u e h = subst (λ v. OnOk r (written ≡ v)) e h
