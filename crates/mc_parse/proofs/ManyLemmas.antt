-- Items that are read one behind another are spelled so.
use Rattle.std.proofs.Common.{◌≡◌, ◌≤◌, ◌<◌, ◌+◌, ℕ, zero, suc, List, [], ◌∷◌, ◌++◌, length, take, drop, Bool, true, false, cond, Option, Some, None, refl, sym, ap, ◌∙◌, subst, arith, append_assoc, append-nil, eqb}
use Rattle.std.specs.Prelude.{not, option_map}
use Rattle.std.specs.List.{list_all, position, position_from}
use Rattle.std.proofs.lemmas.Bool.{eqb-true}
use Rattle.std.proofs.lemmas.Iterator.Adapters.{position_from-zero}
use Rattle.mc_nbt.proofs.TestLemmas.{and_first, and_second, and_both, some_same}
use Rattle.mc_cmd.specs.Form.{Text}
use Rattle.mc_cmd.proofs.FormLemmas.{map_some}
use Rattle.mc_parse.specs.steps.Many.{span_here, span, many_then, many}

-- spans
pub span_text : (p : ℕ → Bool) (w t : Text) → list_all p w ≡ true → span p t ≡ ([], t) → span p (w ++ t) ≡ (w, t)
span_text p [] t h e = e
span_text p (b ∷ w) t h e =
    ap (λ c. span_here c b (w ++ t) (span p (w ++ t))) (and_first _ _ h)
    ∙ ap (λ q. (b ∷ q.0, q.1)) (span_text p w t (and_second (p b) _ h) e)

pub span_spells : (p : ℕ → Bool) (t : Text) → (t ≡ (span p t).0 ++ (span p t).1) × (list_all p (span p t).0 ≡ true)
span_spells p [] = (refl, refl)
span_spells p (b ∷ t) = go (p b) refl (span_spells p t)
  where
    go : (c : Bool) → p b ≡ c → (t ≡ (span p t).0 ++ (span p t).1) × (list_all p (span p t).0 ≡ true) → (b ∷ t ≡ (span_here c b t (span p t)).0 ++ (span_here c b t (span p t)).1) × (list_all p (span_here c b t (span p t)).0 ≡ true)
    go true e ih = (ap (λ w. b ∷ w) ih.0, and_both _ _ e ih.1)
    go false e ih = (refl, refl)

-- a span ends at the position of the first byte that fails the test
abbrev pub span_by : Text → Option ℕ → Text × Text
span_by t None = (t, [])
span_by t (Some i) = (take i t, drop i t)

abbrev end_here : Bool → Option ℕ → Option ℕ
end_here true o = option_map suc o
end_here false o = Some 0

abbrev end_of : (ℕ → Bool) → Text → Option ℕ
end_of p [] = None
end_of p (b ∷ t) = end_here (p b) (end_of p t)

from_end : (p : ℕ → Bool) (i : ℕ) (t : Text) → position_from (λ b. not (p b)) i t ≡ option_map (λ k. i + k) (end_of p t)
from_end p i [] = refl
from_end p i (b ∷ t) = go (p b) (end_of p t) (from_end p (i + 1) t)
  where
    go : (d : Bool) (o : Option ℕ) → position_from (λ b. not (p b)) (i + 1) t ≡ option_map (λ k. (i + 1) + k) o → cond (not d) (Some i) (position_from (λ b. not (p b)) (i + 1) t) ≡ option_map (λ k. i + k) (end_here d o)
    go false o ih = ap Some (omega arith)
    go true None ih = ih
    go true (Some k) ih = ih ∙ ap Some (omega arith)

same_end : (o : Option ℕ) → option_map (λ k. 0 + k) o ≡ o
same_end None = refl
same_end (Some k) = ap Some (omega arith)

span_end : (p : ℕ → Bool) (t : Text) → span p t ≡ span_by t (end_of p t)
span_end p [] = refl
span_end p (b ∷ t) = go (p b) (end_of p t) (span_end p t)
  where
    go : (d : Bool) (o : Option ℕ) → span p t ≡ span_by t o → span_here d b t (span p t) ≡ span_by (b ∷ t) (end_here d o)
    go false o e = refl
    go true None e = ap (λ q. (b ∷ q.0, q.1)) e
    go true (Some i) e = ap (λ q. (b ∷ q.0, q.1)) e

pub span-position : (p : ℕ → Bool) (t : Text) → span p t ≡ span_by t (position (λ b. not (p b)) t)
span-position p t = span_end p t ∙ ap (span_by t) (sym (position_from-zero (λ b. not (p b)) t ∙ from_end p 0 t ∙ same_end (end_of p t)))

-- items
abbrev pub all_text : {A : Type 0} → (A → Text → Text) → List A → Text
all_text text [] = []
all_text text (a ∷ l) = text a (all_text text l)

pub no_more : {A : Type 0} (one : Text → Option (A × Text)) (n : ℕ) → many one n [] ≡ Some []
unfolding many
no_more one zero = refl
no_more one (suc n) = refl

pub one_more : {A : Type 0} (one : Text → Option (A × Text)) (n : ℕ) (t : Text) → 0 < length t → many one (suc n) t ≡ many_then (one t) (many one n)
unfolding many
one_more one n [] h = absurd (omega arith)
one_more one n (b ∷ t) h = refl

-- where none may follow
pub too_many : {A : Type 0} (one : Text → Option (A × Text)) (n : ℕ) (t : Text) → n ≡ 0 → 0 < length t → many one n t ≡ None
unfolding many
too_many one zero [] e h = absurd (omega arith)
too_many one zero (b ∷ t) e h = refl
too_many one (suc n) t e h = absurd cc

pub record ManySpelled {A : Type 0} (text : A → Text → Text) (fits : A → Bool) (n : ℕ) (t : Text) (l : List A) : Type 0 where
  pub spelled : t ≡ all_text text l
  pub fit : list_all fits l ≡ true
  pub few : length l ≤ n

pub many_spells : {A : Type 0} (text : A → Text → Text) (fits : A → Bool) (one : Text → Option (A × Text)) → ((t : Text) (p : A × Text) → one t ≡ Some p → (t ≡ text p.0 p.1) × (fits p.0 ≡ true)) → (n : ℕ) (t : Text) (l : List A) → many one n t ≡ Some l → ManySpelled text fits n t l
unfolding many
many_spells text fits one s zero [] l h = subst (ManySpelled text fits zero []) (some_same [] l h) record { spelled = refl; fit = refl; few = omega arith }
many_spells text fits one s (suc n) [] l h = subst (ManySpelled text fits (suc n) []) (some_same [] l h) record { spelled = refl; fit = refl; few = omega arith }
many_spells text fits one s zero (b ∷ t) l h = absurd cc
many_spells {A = A} text fits one s (suc n) (b ∷ t) l h = go (one (b ∷ t)) refl h (many_spells text fits one s n)
  where
    go : (o : Option (A × Text)) → one (b ∷ t) ≡ o → many_then o (many one n) ≡ Some l → ((t : Text) (l : List A) → many one n t ≡ Some l → ManySpelled text fits n t l) → ManySpelled text fits (suc n) (b ∷ t) l
    go None e h ih = absurd cc
    go (Some p) e h ih =
        let m = map_some (λ k. p.0 ∷ k) (many one n p.1) l h in
        let q = s (b ∷ t) p e in
        let u = ih p.1 m.0 m.1 in
        let few = u.few in
        subst (ManySpelled text fits (suc n) (b ∷ t)) m.2 record {
          spelled = q.0 ∙ ap (text p.0) u.spelled;
          fit = and_both _ _ q.1 u.fit;
          few = omega arith;
        }

nonempty : (t : Text) → eqb (length t) 0 ≡ false → 0 < length t
nonempty [] h = absurd cc
nonempty (b ∷ t) h = omega arith

-- what is read so far, and one more
pub goes_on : {A : Type 0} (one : Text → Option (A × Text)) (front : List A) (n m : ℕ) (t : Text) (p : A × Text) (whole : Option (List A)) → n ≡ suc m → eqb (length t) 0 ≡ false → one t ≡ Some p → option_map (λ l. front ++ l) (many one n t) ≡ whole → option_map (λ l. (front ++ (p.0 ∷ [])) ++ l) (many one m p.1) ≡ whole
goes_on {A = A} one front n m t p whole x u e h =
    go (many one m p.1) ∙ sym (ap (option_map (λ l. front ++ l)) (ap (λ k. many one k t) x ∙ one_more one m t (nonempty t u) ∙ ap (λ o. many_then o (many one m)) e)) ∙ h
  where
    go : (o : Option (List A)) → option_map (λ l. (front ++ (p.0 ∷ [])) ++ l) o ≡ option_map (λ l. front ++ l) (option_map (λ l. p.0 ∷ l) o)
    go None = refl
    go (Some l) = ap Some (append_assoc front (p.0 ∷ []) l)

-- nothing is read where no item stands, and where none may follow
pub stops : {A : Type 0} (one : Text → Option (A × Text)) (front : List A) (n : ℕ) (t : Text) (whole : Option (List A)) → eqb (length t) 0 ≡ false → one t ≡ None → option_map (λ l. front ++ l) (many one n t) ≡ whole → None ≡ whole
stops one front zero t whole u e h = ap (option_map (λ l. front ++ l)) (sym (too_many one zero t refl (nonempty t u))) ∙ h
stops one front (suc n) t whole u e h = ap (option_map (λ l. front ++ l)) (sym (one_more one n t (nonempty t u) ∙ ap (λ o. many_then o (many one n)) e)) ∙ h

pub ends : {A : Type 0} (one : Text → Option (A × Text)) (front : List A) (n : ℕ) (t : Text) (whole : Option (List A)) → n ≡ 0 → eqb (length t) 0 ≡ false → option_map (λ l. front ++ l) (many one n t) ≡ whole → None ≡ whole
ends one front n t whole e u h = ap (option_map (λ l. front ++ l)) (sym (too_many one n t e (nonempty t u))) ∙ h

-- all is read at the end
pub whole_is : {A : Type 0} (one : Text → Option (A × Text)) (front : List A) (n : ℕ) (t : Text) (whole : Option (List A)) → eqb (length t) 0 ≡ true → option_map (λ l. front ++ l) (many one n t) ≡ whole → Some front ≡ whole
whole_is one front n [] whole e h = ap Some (sym (append-nil front)) ∙ ap (option_map (λ l. front ++ l)) (sym (no_more one n)) ∙ h
whole_is one front n (b ∷ t) whole e h = let none = eqb-true (length (b ∷ t)) 0 e in absurd (omega (arith, none))
