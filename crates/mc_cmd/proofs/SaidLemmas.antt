-- What a text is that says a command, an `execute` or a pattern.
use Rattle.std.proofs.Common.{◌≡◌, suc, List, [], ◌∷◌, ◌++◌, length, Bool, true, false, Option, Some, None, refl, sym, ap, ◌∙◌}
use Rattle.std.specs.Prelude.{nat_eq, nat_le, if◌then◌else◌, option_map, codes, ◌&&◌}
use Rattle.std.specs.Str.{bytes_eq}
use Rattle.mc_cmd.specs.Form.{Text, strip}
use Rattle.mc_cmd.specs.Pattern.{pattern_text, pattern_fits, pattern_value, patterns}
use Rattle.mc_cmd.specs.Command.{Sub, Simple, Cmd, plain, execute, PatternPart, Line, nothing, command, pattern}
use Rattle.mc_cmd.specs.Grammar.{may_run, any_stores, has_result, simple_read, subs_read, execute_of, cmd_by, cmd_read, is_comment, most, said_in, line_said}
use Rattle.std.proofs.lemmas.Slice.Eq.{bytes_eq-Decides}
use Rattle.mc_cmd.proofs.FormLemmas.{and_first, and_second, strip_spells, and_then_some}

-- a text that says a line isn't too long
said_within : (t : Text) (l : Line) → line_said t ≡ Some l → said_in t ≡ Some l
unfolding line_said
said_within t l h = go (nat_le (length t) most) (said_in t) h
  where
    go : (b : Bool) (o : Option Line) → (if b then o else None) ≡ Some l → o ≡ Some l
    go true o h = h
    go false o h = absurd cc

-- the reader of commands or of patterns is what told the line
abbrev ToldBy : Line → Option (List PatternPart) → Option Cmd → Type 0
ToldBy nothing p o = Unit {0}
ToldBy (command c) p o = o ≡ Some c
ToldBy (pattern ps) p o = p ≡ Some ps

told_by : (l : Line) (a b d : Bool) (p : Option (List PatternPart)) (o : Option Cmd) → (if a then (if d then Some nothing else None) else if b then option_map pattern p else option_map command o) ≡ Some l → ToldBy l p o
told_by nothing a b d p o h = tt
told_by (command c) true b true p o h = absurd cc
told_by (command c) true b false p o h = absurd cc
told_by (command c) false true d None o h = absurd cc
told_by (command c) false true d (Some q) o h = absurd cc
told_by (command c) false false d p None h = absurd cc
told_by (command c) false false d p (Some e) h = let f : command e ≡ command c = cc in cc
told_by (pattern ps) true b true p o h = absurd cc
told_by (pattern ps) true b false p o h = absurd cc
told_by (pattern ps) false true d None o h = absurd cc
told_by (pattern ps) false true d (Some q) o h = let f : pattern q ≡ pattern ps = cc in cc
told_by (pattern ps) false false d p None h = absurd cc
told_by (pattern ps) false false d p (Some e) h = absurd cc

-- a text that says a command is read as that one
pub said_command : (t : Text) (c : Cmd) → line_said t ≡ Some (command c) → cmd_read t ≡ Some c
said_command t c h = by t (said_within t (command c) h)
  where
    by : (t : Text) → said_in t ≡ Some (command c) → cmd_read t ≡ Some c
    by [] h = absurd cc
    by (b ∷ t) h = told_by (command c) (nat_eq b 35) (nat_eq b 36) (is_comment t) (patterns.read (b ∷ t)) (cmd_read (b ∷ t)) h

-- a text that says an `execute` begins with that word, and the sub-commands may stand before the command
pub said_execute : (t : Text) (ss : List Sub) (s : Simple) → line_said t ≡ Some (command (execute ss s)) → (r : Text) × (t ≡ codes "execute " ++ r) × (may_run ss s ≡ true)
said_execute t ss s h = go (strip (codes "execute ") t) refl (said_command t (execute ss s) h)
  where
    runs : (p : List Sub × Simple) (b : Bool) → may_run p.0 p.1 ≡ b → (if b then Some (execute p.0 p.1) else None) ≡ Some (execute ss s) → may_run ss s ≡ true
    runs p true e h =
        let f : p.0 ≡ ss = cc in
        let g : p.1 ≡ s = cc in
        ap (λ x. may_run x s) (sym f) ∙ ap (λ x. may_run p.0 x) (sym g) ∙ e
    runs p false e h = absurd cc

    plainly : (o : Option Simple) → option_map plain o ≡ Some (execute ss s) → ⊥
    plainly None h = absurd cc
    plainly (Some u) h = absurd cc

    go : (o : Option Text) → strip (codes "execute ") t ≡ o → cmd_by o t ≡ Some (execute ss s) → (r : Text) × (t ≡ codes "execute " ++ r) × (may_run ss s ≡ true)
    go None e h = elim (plainly (simple_read t) h) [ ]
    go (Some r) e h =
        let q = and_then_some execute_of (subs_read (suc (length r)) r) (execute ss s) h in
        (r, strip_spells (codes "execute ") t r e, runs q.0 (may_run q.0.0 q.0.1) refl q.2)

-- a command without a result stands behind no store
pub stores_nothing : (t : Text) (ss : List Sub) (s : Simple) → line_said t ≡ Some (command (execute ss s)) → has_result s ≡ false → any_stores ss ≡ false
stores_nothing t ss s h n = go ss (said_execute t ss s h).2
  where
    last : (b : Bool) → (if b then has_result s else true) ≡ true → b ≡ false
    last true h = absurd cc
    last false h = refl

    go : (ss : List Sub) → may_run ss s ≡ true → any_stores ss ≡ false
    go [] m = absurd cc
    go (c ∷ cs) m = last (any_stores (c ∷ cs)) m

-- a text that says a pattern is its text, and the pattern fits
pub said_pattern : (t : Text) (ps : List PatternPart) → line_said t ≡ Some (pattern ps) → (t ≡ pattern_text ps) × (pattern_fits ps ≡ true)
said_pattern t ps h = by t (said_within t (pattern ps) h)
  where
    compares : (t : Text) (g : List PatternPart) (b : Bool) → pattern_fits g && bytes_eq (pattern_text g) t ≡ b → (if b then Some g else None) ≡ Some ps → (t ≡ pattern_text ps) × (pattern_fits ps ≡ true)
    compares t g true e h =
        let x : g ≡ ps = cc in
        (sym ((bytes_eq-Decides (pattern_text g) t).0 (and_second (pattern_fits g) _ e)) ∙ ap pattern_text x, ap pattern_fits (sym x) ∙ and_first _ _ e)
    compares t g false e h = absurd cc

    by : (t : Text) → said_in t ≡ Some (pattern ps) → (t ≡ pattern_text ps) × (pattern_fits ps ≡ true)
    by [] h = absurd cc
    by (b ∷ t) h =
        let g = pattern_value (b ∷ t) in
        compares (b ∷ t) g (pattern_fits g && bytes_eq (pattern_text g) (b ∷ t)) refl (told_by (pattern ps) (nat_eq b 35) (nat_eq b 36) (is_comment t) (patterns.read (b ∷ t)) (cmd_read (b ∷ t)) h)
