-- A filled line weighs at most what its pattern does.
use Rattle.std.proofs.Common.{◌≡◌, ℕ, ◌≤◌, List, [], ◌∷◌, ◌++◌, Bool, true, false, Option, Some, None, refl, sym, ap, ◌∙◌, arith}
use Rattle.std.specs.Prelude.{unwrap_or, not, nat_eq, if◌then◌else◌, codes}
use Rattle.std.specs.List.{list_all}
use Rattle.std.specs.Str.{bytes_eq}
use Rattle.mc_nbt.specs.Tree.{Tree}
use Rattle.mc_cmd.specs.Form.{Text, lacks, cut_here, cut_at}
use Rattle.mc_cmd.specs.Command.{plain, execute, PatternPart, literal, hole, Line, nothing, command, pattern}
use Rattle.mc_cmd.specs.Pattern.{is_literal_byte, is_literal, has_word, pattern_fits}
use Rattle.mc_cmd.specs.Grammar.{line_said}
use Rattle.mc_cmd.specs.Fill.{Filled, filled, missing, behind, fill_from, fill}
use Rattle.mc_cmd.specs.Chain.{Texts, word_weight, pattern_weight, line_weight, line_of, is_pattern, has_pattern, said_text, filled_text, fill_line, with_line, fill_lines}
use Rattle.mc_cmd.proofs.FormLemmas.{and_first, and_second}
use Rattle.mc_cmd.proofs.SaidLemmas.{said_execute, said_pattern}

-- a pattern begins with a text that has a whole first word and no byte that isn't a literal one
abbrev BeginsWith : List PatternPart → Text → Type 0
BeginsWith ps t = (l : Text) × (u : Text) × (qs : List PatternPart) × (ps ≡ literal l ∷ qs) × (t ≡ l ++ u) × (has_word l ≡ true) × (is_literal l ≡ true)

begins : (ps : List PatternPart) (v : Tree) (t : Text) → pattern_fits ps ≡ true → fill ps v ≡ filled t → BeginsWith ps t
begins [] v t p f = absurd cc
begins (hole n ∷ ps) v t p f = absurd cc
begins (literal l ∷ []) v t p f = absurd cc
begins (literal l ∷ q ∷ qs) v t p f = go (fill_from 0 (q ∷ qs) v) f
  where
    go : (r : Filled) → behind l r ≡ filled t → BeginsWith (literal l ∷ q ∷ qs) t
    go (missing k) f = absurd cc
    go (filled u) f =
        let e : l ++ u ≡ t = cc in
        (l, u, q ∷ qs, refl, sym e, and_first _ _ p, and_first _ _ (and_second (has_word l) _ p))

-- a text with a space is cut at the first one, whatever follows
cut_before : (c : ℕ) (l u : Text) → lacks c l ≡ false → (p : Text × Text) × (cut_at c l ≡ Some p) × (cut_at c (l ++ u) ≡ Some (p.0, p.1 ++ u))
cut_before c [] u h = absurd cc
cut_before c (b ∷ l) u h = go (nat_eq b c) h (cut_before c l u)
  where
    go : (d : Bool) → (if d then false else lacks c l) ≡ false → (lacks c l ≡ false → (p : Text × Text) × (cut_at c l ≡ Some p) × (cut_at c (l ++ u) ≡ Some (p.0, p.1 ++ u)))
        → (p : Text × Text) × (cut_here d b l (cut_at c l) ≡ Some p) × (cut_here d b (l ++ u) (cut_at c (l ++ u)) ≡ Some (p.0, p.1 ++ u))
    go true h ih = (([], l), refl, refl)
    go false h ih =
        let q = ih h in
        ((b ∷ q.0.0, q.0.1), ap (cut_here false b l) q.1, ap (cut_here false b (l ++ u)) q.2)

has_space : (l : Text) → has_word l ≡ true → lacks 32 l ≡ false
has_space [] h = absurd cc
has_space (b ∷ l) h = go (nat_eq b 32) (lacks 32 l) h
  where
    go : (c d : Bool) → (if c then false else not d) ≡ true → (if c then false else d) ≡ false
    go true d h = absurd cc
    go false true h = absurd cc
    go false false h = refl

first_same : (p q : Text × Text) → Some p ≡ Some q → p.0 ≡ q.0
first_same p q h = let e : p ≡ q = cc in ap (λ r. r.0) e

-- a pattern whose filled text begins with `execute ` weighs 2
execute_weighs : (ps : List PatternPart) (t r : Text) → BeginsWith ps t → t ≡ codes "execute " ++ r → pattern_weight ps ≡ 2
execute_weighs ps t r (l, u, qs, e, f, h, g) x =
    let c = cut_before 32 l u (has_space l h) in
    let y : Some (c.0.0, c.0.1 ++ u) ≡ Some (codes "execute", r) = sym c.2 ∙ ap (cut_at 32) (sym f ∙ x) in
    let z : c.0.0 ≡ codes "execute" = first_same (c.0.0, c.0.1 ++ u) (codes "execute", r) y in
    ap pattern_weight e ∙ ap word_weight c.1 ∙ ap (λ a. if bytes_eq a (codes "execute") then 2 else 1) z

weighs_one : (ps : List PatternPart) → 1 ≤ pattern_weight ps
weighs_one [] = omega arith
weighs_one (hole n ∷ ps) = omega arith
weighs_one (literal l ∷ ps) = go (cut_at 32 l)
  where
    either : (b : Bool) → 1 ≤ (if b then 2 else 1)
    either true = omega arith
    either false = omega arith

    go : (o : Option (Text × Text)) → 1 ≤ word_weight o
    go None = omega arith
    go (Some p) = either (bytes_eq p.0 (codes "execute"))

-- no literal part begins as a pattern does
pattern_apart : (l u rest : Text) → is_literal l ≡ true → l ++ u ≡ 36 ∷ rest → ⊥
pattern_apart [] u rest h e = absurd cc
pattern_apart (b ∷ l) u rest h e =
    let x : b ≡ 36 = cc in
    let y : is_literal_byte 36 ≡ true = ap is_literal_byte (sym x) ∙ and_first (is_literal_byte b) (list_all is_literal_byte l) h in
    absurd cc

-- a filled text is no pattern
pub filled_apart : (ps : List PatternPart) (v : Tree) (t : Text) (l : Line) → pattern_fits ps ≡ true → fill ps v ≡ filled t → line_said t ≡ Some l → is_pattern l ≡ false
filled_apart ps v t nothing p f h = refl
filled_apart ps v t (command c) p f h = refl
filled_apart ps v t (pattern qs) p f h = go (begins ps v t p f)
  where
    go : BeginsWith ps t → true ≡ false
    go (l, u, rs, e, g, w, k) = elim (pattern_apart l u _ k (sym g ∙ (said_pattern t qs h).0)) [ ]

pub filled_weight : (ps : List PatternPart) (v : Tree) (t : Text) (l : Line) → pattern_fits ps ≡ true → fill ps v ≡ filled t → line_said t ≡ Some l → line_weight l ≤ pattern_weight ps
filled_weight ps v t nothing p f h = omega arith
filled_weight ps v t (command (plain s)) p f h = weighs_one ps
filled_weight ps v t (command (execute ss s)) p f h =
    let x = said_execute t ss s h in
    let y : pattern_weight ps ≡ 2 = execute_weighs ps t x.0 (begins ps v t p f) x.1 in
    omega (arith, y)
filled_weight ps v t (pattern qs) p f h = let x : true ≡ false = filled_apart ps v t (pattern qs) p f h in absurd cc

-- a text that weighs at most what another does, and is no pattern
abbrev Plainer : Text → Text → Type 0
Plainer t u = (line_weight (line_of u) ≤ line_weight (line_of t)) × (is_pattern (line_of u) ≡ false)

plainer_same : (t u : Text) → t ≡ u → is_pattern (line_of t) ≡ false → Plainer t u
plainer_same t u e p = (le_of (line_weight (line_of u)) (line_weight (line_of t)) (ap (λ x. line_weight (line_of x)) (sym e)), ap (λ x. is_pattern (line_of x)) (sym e) ∙ p)
  where
    le_of : (a b : ℕ) → a ≡ b → a ≤ b
    le_of a b e = omega (arith, e)

-- so is a line of a function that is filled, whatever it says
fill_line_plainer : (v : Tree) (t u : Text) → fill_line v t (line_of t) ≡ Some u → Plainer t u
fill_line_plainer v t u h = go (line_said t) refl h
  where
    said : (ps : List PatternPart) (x : Text) (o : Option Line) → line_said t ≡ Some (pattern ps) → fill ps v ≡ filled x → line_said x ≡ o → said_text x o ≡ Some u → Plainer t u
    said ps x None e f g h = absurd cc
    said ps x (Some l) e f g h =
        let same : x ≡ u = cc in
        let g' : line_said u ≡ Some l = ap line_said (sym same) ∙ g in
        let f' : fill ps v ≡ filled u = f ∙ ap filled same in
        let fits = (said_pattern t ps e).1 in
        let here : line_of u ≡ l = ap (λ o. unwrap_or o nothing) g' in
        let there : line_of t ≡ pattern ps = ap (λ o. unwrap_or o nothing) e in
        let a : line_weight (line_of u) ≡ line_weight l = ap line_weight here in
        let b : line_weight (line_of t) ≡ pattern_weight ps = ap line_weight there in
        let c = filled_weight ps v u l fits f' g' in
        (omega (arith, a, b, c), ap is_pattern here ∙ filled_apart ps v u l fits f' g')

    fill_it : (ps : List PatternPart) (r : Filled) → line_said t ≡ Some (pattern ps) → fill ps v ≡ r → filled_text r ≡ Some u → Plainer t u
    fill_it ps (missing k) e f h = absurd cc
    fill_it ps (filled x) e f h = said ps x (line_said x) e f refl h

    some_same : (x : Text) → Some x ≡ Some u → x ≡ u
    some_same x h = cc

    go : (o : Option Line) → line_said t ≡ o → fill_line v t (unwrap_or o nothing) ≡ Some u → Plainer t u
    go None e h = plainer_same t u (some_same t h) (ap (λ o. is_pattern (unwrap_or o nothing)) e)
    go (Some nothing) e h = plainer_same t u (some_same t h) (ap (λ o. is_pattern (unwrap_or o nothing)) e)
    go (Some (command c)) e h = plainer_same t u (some_same t h) (ap (λ o. is_pattern (unwrap_or o nothing)) e)
    go (Some (pattern ps)) e h = fill_it ps (fill ps v) e refl h

pub fill_line_weight : (v : Tree) (t u : Text) → fill_line v t (line_of t) ≡ Some u → line_weight (line_of u) ≤ line_weight (line_of t)
fill_line_weight v t u h = (fill_line_plainer v t u h).0

-- the filled lines of a function hold no pattern
pub fill_lines_plain : (v : Tree) (ts us : Texts) → fill_lines v ts ≡ Some us → has_pattern us ≡ false
fill_lines_plain v [] us h = let e : [] ≡ us = cc in ap has_pattern (sym e)
fill_lines_plain v (t ∷ ts) us h = go (fill_line v t (line_of t)) (fill_lines v ts) refl h (fill_lines_plain v ts)
  where
    go : (o : Option Text) (p : Option Texts) → fill_line v t (line_of t) ≡ o → with_line o p ≡ Some us → ((xs : Texts) → p ≡ Some xs → has_pattern xs ≡ false) → has_pattern us ≡ false
    go None p e h ih = absurd cc
    go (Some u) None e h ih = absurd cc
    go (Some u) (Some xs) e h ih =
        let same : u ∷ xs ≡ us = cc in
        ap has_pattern (sym same) ∙ ap (λ b. if b then true else has_pattern xs) (fill_line_plainer v t u e).1 ∙ ih xs refl
