-- The lines of a function's file.
use Rattle.std.proofs.Common.{◌≡◌, sym, ap, refl, ℕ, suc, zero, ◌≤◌, ◌<◌, ◌+◌, ◌-◌, nat_eq, List, [], ◌∷◌, Bool, true, false, length, take, map, get_or, arith, Option, Some, None, ◌∙◌}
use Rattle.std.specs.Prelude.{if◌then◌else◌, is_some, option_map, nat_le}
use Rattle.std.proofs.lemmas.Bool.{eqb-true, leb-true}
use Rattle.mc_cmd.specs.Form.{Text}
use Rattle.mc_cmd.specs.Chain.{Texts}
use Rattle.mc_cmd.specs.Lines.{without_empty_end}
use Rattle.mc_cmd.specs.Command.{Line}
use Rattle.mc_cmd.specs.Grammar.{line_said, most, said_in}
use Rattle.mc_cmd.specs.Packing.{are_lines}
use Rattle.mc_cmd.proofs.FormLemmas.{and_both, and_first, and_second}
use Rattle.pk_files.specs.Held.{bad_from}

-- a text that is too long says no line
too_long : (t : Text) → most < length t → line_said t ≡ None
unfolding line_said
too_long t h = go (nat_le (length t) most) refl
  where
    go : (b : Bool) → nat_le (length t) most ≡ b → (if b then said_in t else None) ≡ None
    go true e = let few : length t ≤ most = leb-true _ _ e in absurd (omega arith)
    go false e = refl

empty_is : (t : Text) → length t ≡ 0 → t ≡ []
empty_is [] e = refl
empty_is (b ∷ t) e = absurd (omega arith)

dropped_at : {X : Type 0} (f : X → Text) (x : X) (xs : List X) (k : ℕ) (d : X) → length xs ≡ k → nat_eq (length (f (get_or (x ∷ xs) k d))) 0 ≡ true → map f (take k (x ∷ xs)) ≡ without_empty_end (map f (x ∷ xs))
dropped_at f x [] zero d len e = ap (λ t. without_empty_end (t ∷ [])) (sym (empty_is (f x) (eqb-true _ _ e)))
dropped_at f x [] (suc k) d len e = absurd (omega arith)
dropped_at f x (y ∷ xs) zero d len e = absurd (omega arith)
dropped_at f x (y ∷ xs) (suc k) d len e = ap (λ ts. f x ∷ ts) (dropped_at f y xs k d (omega arith) e)

-- the last of some texts is left out where it is empty
pub end_dropped : {X : Type 0} (f : X → Text) (xs : List X) (d : X) → 1 ≤ length xs → nat_eq (length (f (get_or xs (length xs - 1) d))) 0 ≡ true → map f (take (length xs - 1) xs) ≡ without_empty_end (map f xs)
end_dropped f [] d le e = absurd (omega arith)
end_dropped f (x ∷ xs) d le e = dropped_at f x xs (length (x ∷ xs) - 1) d (omega arith) e

one_kept : (t : Text) → nat_eq (length t) 0 ≡ false → t ∷ [] ≡ without_empty_end (t ∷ [])
one_kept [] e = absurd cc
one_kept (b ∷ t) e = refl

kept_at : {X : Type 0} (f : X → Text) (x : X) (xs : List X) (k : ℕ) (d : X) → length xs ≡ k → nat_eq (length (f (get_or (x ∷ xs) k d))) 0 ≡ false → map f (x ∷ xs) ≡ without_empty_end (map f (x ∷ xs))
kept_at f x [] zero d len e = one_kept (f x) e
kept_at f x [] (suc k) d len e = absurd (omega arith)
kept_at f x (y ∷ xs) zero d len e = absurd (omega arith)
kept_at f x (y ∷ xs) (suc k) d len e = ap (λ ts. f x ∷ ts) (kept_at f y xs k d (omega arith) e)

-- and else all stay
pub end_kept : {X : Type 0} (f : X → Text) (xs : List X) (d : X) → 1 ≤ length xs → nat_eq (length (f (get_or xs (length xs - 1) d))) 0 ≡ false → map f xs ≡ without_empty_end (map f xs)
end_kept f [] d le e = absurd (omega arith)
end_kept f (x ∷ xs) d le e = kept_at f x xs (length (x ∷ xs) - 1) d (omega arith) e

-- lines of which none is bad are lines
line_first : (n : ℕ) (t : Text) (ts : Texts) (b : Bool) → is_some (line_said t) ≡ b → (if b then bad_from (n + 1) ts else Some n) ≡ None → (bad_from (n + 1) ts ≡ None → are_lines ts ≡ true) → are_lines (t ∷ ts) ≡ true
line_first n t ts true e h more = and_both (is_some (line_said t)) _ e (more h)
line_first n t ts false e h more = absurd cc

pub lines_from : (n : ℕ) (ts : Texts) → bad_from n ts ≡ None → are_lines ts ≡ true
lines_from n [] h = refl
lines_from n (t ∷ ts) h = line_first n t ts (is_some (line_said t)) refl h (lines_from (n + 1) ts)

-- whether a text says a line, and the text itself where it does
pub none_too_long : (t : Text) → most < length t → false ≡ is_some (line_said t)
none_too_long t h = sym (ap is_some (too_long t h))

pub some_line : (t u : Text) → u ≡ t → is_some (line_said t) ≡ true → Some u ≡ option_map (λ (l : Line). t) (line_said t)
some_line t u e h = ap Some e ∙ go (line_said t) h
  where
    go : (o : Option Line) → is_some o ≡ true → Some t ≡ option_map (λ (l : Line). t) o
    go None h = absurd cc
    go (Some l) h = refl

pub no_line : (t : Text) → is_some (line_said t) ≡ false → None ≡ option_map (λ (l : Line). t) (line_said t)
no_line t h = go (line_said t) h
  where
    go : (o : Option Line) → is_some o ≡ false → None ≡ option_map (λ (l : Line). t) o
    go None h = refl
    go (Some l) h = absurd cc

-- of lines none is bad
pub none_from : (n : ℕ) (ts : Texts) → are_lines ts ≡ true → bad_from n ts ≡ None
none_from n [] h = refl
none_from n (t ∷ ts) h = rw (and_first (is_some (line_said t)) _ h) (none_from (n + 1) ts (and_second (is_some (line_said t)) _ h))
