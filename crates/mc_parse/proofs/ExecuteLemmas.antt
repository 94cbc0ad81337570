-- Sub-commands are read one after another, and what is read fits.
use Rattle.std.proofs.Common.{◌≡◌, ◌++◌, ℕ, zero, suc, List, [], ◌∷◌, Bool, true, false, Option, Some, None, refl, sym, ap, ◌∙◌, append_assoc}
use Rattle.std.specs.Prelude.{codes, ◌&&◌, if◌then◌else◌, option_map}
use Rattle.mc_nbt.proofs.TestLemmas.{and_first, and_both}
use Rattle.mc_cmd.specs.Form.{Text, strip}
use Rattle.mc_cmd.specs.Command.{Simple, Sub, plain, execute}
use Rattle.mc_cmd.specs.Grammar.{simple_read, simple_fits, sub_read, subs_fit, subs_by, subs_read, may_run, cmd_fits, execute_of}
use Rattle.mc_cmd.proofs.SimpleLemmas.{simple_is}
use Rattle.mc_cmd.proofs.SubLemmas.{subs_spells}

-- what is read so far, and one more
abbrev pub behind : List Sub → Option (List Sub × Simple) → Option (List Sub × Simple)
behind front o = option_map (λ q. (front ++ q.0, q.1)) o

behind_one : (front : List Sub) (s : Sub) (o : Option (List Sub × Simple)) → behind (front ++ (s ∷ [])) o ≡ behind front (option_map (λ q. (s ∷ q.0, q.1)) o)
behind_one front s None = refl
behind_one front s (Some q) = ap (λ l. Some (l, q.1)) (append_assoc front (s ∷ []) q.0)

one_more : (m : ℕ) (t : Text) → subs_read (suc m) t ≡ subs_by (strip (codes "run ") t) (sub_read t) (subs_read m)
unfolding subs_read
one_more m t = refl

next : (n m : ℕ) (t : Text) → n ≡ suc m → subs_read n t ≡ subs_by (strip (codes "run ") t) (sub_read t) (subs_read m)
next n m t x = ap (λ k. subs_read k t) x ∙ one_more m t

pub goes_on : (front : List Sub) (n m : ℕ) (t : Text) (p : Sub × Text) (whole : Option (List Sub × Simple)) → n ≡ suc m → strip (codes "run ") t ≡ None → sub_read t ≡ Some p → behind front (subs_read n t) ≡ whole → behind (front ++ (p.0 ∷ [])) (subs_read m p.1) ≡ whole
goes_on front n m t p whole x r e h =
    behind_one front p.0 (subs_read m p.1)
    ∙ ap (behind front) (sym (next n m t x ∙ ap (λ o. subs_by o (sub_read t) (subs_read m)) r ∙ ap (λ o. subs_by None o (subs_read m)) e)) ∙ h

pub stops : (front : List Sub) (n m : ℕ) (t : Text) (whole : Option (List Sub × Simple)) → n ≡ suc m → strip (codes "run ") t ≡ None → sub_read t ≡ None → behind front (subs_read n t) ≡ whole → None ≡ whole
stops front n m t whole x r e h =
    ap (behind front) (sym (next n m t x ∙ ap (λ o. subs_by o (sub_read t) (subs_read m)) r ∙ ap (λ o. subs_by None o (subs_read m)) e)) ∙ h

pub ends : (front : List Sub) (n : ℕ) (t : Text) (whole : Option (List Sub × Simple)) → n ≡ 0 → behind front (subs_read n t) ≡ whole → None ≡ whole
unfolding subs_read
ends front zero t whole z h = h
ends front (suc n) t whole z h = absurd cc

-- what `run` begins is read with what is read so far
pub runs : (front : List Sub) (n m : ℕ) (t r : Text) (whole : Option (List Sub × Simple)) → n ≡ suc m → strip (codes "run ") t ≡ Some r → behind front (subs_read n t) ≡ whole → behind front (option_map (λ s. ([], s)) (simple_read r)) ≡ whole
runs front n m t r whole x e h = ap (behind front) (sym (next n m t x ∙ ap (λ o. subs_by o (sub_read t) (subs_read m)) e)) ∙ h

-- what is read fits
pub plain_fits : (t : Text) (s : Simple) → simple_read t ≡ Some s → cmd_fits (plain s) ≡ true
plain_fits t s h = (simple_is.spells t s h).1

read_fits : (n : ℕ) (t : Text) (ss : List Sub) (s : Simple) → subs_read n t ≡ Some (ss, s) → subs_fit ss && simple_fits s ≡ true
read_fits n t ss s h = let u = subs_spells n t (ss, s) h in and_both _ _ u.1 u.2

pub execute_fits : (ss : List Sub) (s : Simple) → cmd_fits (execute ss s) ≡ true → execute_of (ss, s) ≡ Some (execute ss s)
execute_fits ss s h = ap (λ b. if b then Some (execute ss s) else None) (and_first (may_run ss s) _ h)

pub execute_fails : (n : ℕ) (t : Text) (ss : List Sub) (s : Simple) → subs_read n t ≡ Some (ss, s) → cmd_fits (execute ss s) ≡ false → execute_of (ss, s) ≡ None
execute_fails n t ss s h f = go (may_run ss s) refl
  where
    go : (b : Bool) → may_run ss s ≡ b → (if b then Some (execute ss s) else None) ≡ None
    go true e = let g : cmd_fits (execute ss s) ≡ true = and_both _ _ e (read_fits n t ss s h) in absurd cc
    go false e = refl
