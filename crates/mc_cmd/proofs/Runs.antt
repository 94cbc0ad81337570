-- A calculus of straight runs: what a list of lines does, whatever follows it, whatever is pending and
-- whatever weight is left.
use Rattle.std.proofs.Common.{◌≡◌, ℕ, suc, ◌+◌, ◌-◌, ◌≤◌, List, [], ◌∷◌, ◌++◌, Option, Some, None, true, false, refl, sym, ap, ◌∙◌, subst, arith, append_assoc, append-nil}
use Rattle.std.specs.Prelude.{ℤ, unwrap_or, if◌then◌else◌}
use Rattle.mc_nbt.specs.Tree.{Tree, Fields, compound, Part, select}
use Rattle.mc_cmd.specs.Form.{Text}
use Rattle.mc_cmd.specs.Command.{Sub, Simple, call, call_with, return_value, plain, execute, nothing, command}
use Rattle.mc_cmd.specs.Grammar.{has_result, line_said}
use Rattle.mc_cmd.specs.World.{World, tree_in, effect, is_direct, all_go_on, store_all}
use Rattle.mc_cmd.specs.Chain.{Texts, Functions, State, Ended, has_pattern, callable, filled_by, filled_call, fill_lines, in_front, act_simple, act_stored, act, next_line, next_in, next, run, chain, chain_from}
use Rattle.mc_cmd.proofs.SaidLemmas.{stores_nothing}
use Rattle.mc_cmd.proofs.ActLemmas.{direct, store_all_none}
pub use Rattle.mc_cmd.specs.steps.Straight.{Falls, Returns, Runs}

module _ (functions : Functions) where
  -- a chain from what a command left of its world and of what is pending
  abbrev onward : ℕ → State → Ended
  onward q a = chain functions q a.world a.pending

  -- one line with a command
  one_plain : (t : Text) (s : Simple) (w : World) (rest : Texts) (ps : List Texts) (n q : ℕ) → line_said t ≡ Some (command (plain s)) → n ≡ 1 + q → chain functions n w ((t ∷ rest) ∷ ps) ≡ onward q (act_simple functions w s rest ps)
  unfolding chain run
  one_plain t s w rest ps n q r e =
      let e' : n ≡ suc q = omega arith in
      ap (λ m. chain functions m w ((t ∷ rest) ∷ ps)) e'
      ∙ ap (λ o. run functions (suc q) w (next_line (unwrap_or o nothing) rest ps (next_in rest ps (next ps)))) r

  one_execute : (t : Text) (ss : List Sub) (s : Simple) (w : World) (rest : Texts) (ps : List Texts) (n q : ℕ) → line_said t ≡ Some (command (execute ss s)) → n ≡ 2 + q → chain functions n w ((t ∷ rest) ∷ ps) ≡ onward q (act functions w (execute ss s) rest ps)
  unfolding chain run
  one_execute t ss s w rest ps n q r e =
      let e' : n ≡ suc (suc q) = omega arith in
      ap (λ m. chain functions m w ((t ∷ rest) ∷ ps)) e'
      ∙ ap (λ o. run functions (suc (suc q)) w (next_line (unwrap_or o nothing) rest ps (next_in rest ps (next ps)))) r

  -- an execute whose conditions hold
  one_held : (t : Text) (ss : List Sub) (s : Simple) (w : World) (rest : Texts) (ps : List Texts) (n q : ℕ) → line_said t ≡ Some (command (execute ss s)) → all_go_on ss w ≡ true → n ≡ 2 + q → chain functions n w ((t ∷ rest) ∷ ps) ≡ onward q (act_stored functions w ss s rest ps)
  one_held t ss s w rest ps n q r c e =
      one_execute t ss s w rest ps n q r e
      ∙ ap (λ b. onward q (if b then act_stored functions w ss s rest ps else record { world = w; pending = rest ∷ ps })) c

  -- a list that is empty is dropped
  empty_dropped : (q : ℕ) (w : World) (ps : List Texts) → chain functions q w ([] ∷ ps) ≡ chain functions q w ps
  unfolding chain
  empty_dropped q w ps = refl

  -- no line
  pub falls_none : (w : World) → Falls functions [] w 0 w
  falls_none w = record {
    by = λ rest ps n q e. let f : n ≡ q = omega arith in ap (λ m. chain functions m w (rest ∷ ps)) f;
  }

  -- an empty line or a comment
  passed : (t : Text) (w : World) (rest : Texts) (ps : List Texts) (q : ℕ) → line_said t ≡ Some nothing → chain functions q w ((t ∷ rest) ∷ ps) ≡ chain functions q w (rest ∷ ps)
  unfolding chain
  passed t w rest ps q r = ap (λ o. run functions q w (next_line (unwrap_or o nothing) rest ps (next_in rest ps (next ps)))) r

  pub falls_nothing : (t : Text) (w : World) → line_said t ≡ Some nothing → Falls functions (t ∷ []) w 0 w
  falls_nothing t w r = record {
    by = λ rest ps n q e.
        let f : n ≡ q = omega arith in
        ap (λ m. chain functions m w ((t ∷ rest) ∷ ps)) f ∙ passed t w rest ps q r;
  }

  -- one list of lines after another
  pub falls_append : (a b : Texts) (w w1 w2 : World) (j k : ℕ) → Falls functions a w j w1 → Falls functions b w1 k w2 → Falls functions (a ++ b) w (j + k) w2
  falls_append a b w w1 w2 j k fa fb = record {
    by = λ rest ps n q e.
        ap (λ l. chain functions n w (l ∷ ps)) (append_assoc a b rest)
        ∙ fa.by (b ++ rest) ps n (k + q) (omega arith)
        ∙ fb.by rest ps (k + q) q refl;
  }

  pub falls_then : (a b : Texts) (w w1 w2 : World) (j k n : ℕ) → Falls functions a w j w1 → Falls functions b w1 k w2 → n ≡ j + k → Falls functions (a ++ b) w n w2
  falls_then a b w w1 w2 j k n fa fb e = subst (λ m. Falls functions (a ++ b) w m w2) (sym e) (falls_append a b w w1 w2 j k fa fb)

  pub returns_append : (a b : Texts) (w w1 w2 : World) (j k : ℕ) → Falls functions a w j w1 → Returns functions b w1 k w2 → Returns functions (a ++ b) w (j + k) w2
  returns_append a b w w1 w2 j k fa fb = record {
    by = λ rest ps n q e.
        ap (λ l. chain functions n w (l ∷ ps)) (append_assoc a b rest)
        ∙ fa.by (b ++ rest) ps n (k + q) (omega arith)
        ∙ fb.by rest ps (k + q) q refl;
  }

  -- what follows a return is never run
  pub returns_before : (a b : Texts) (w w' : World) (k : ℕ) → Returns functions a w k w' → Returns functions (a ++ b) w k w'
  returns_before a b w w' k fa = record {
    by = λ rest ps n q e. ap (λ l. chain functions n w (l ∷ ps)) (append_assoc a b rest) ∙ fa.by (b ++ rest) ps n q e;
  }

  -- a whole list
  pub runs_falls : (ts : Texts) (w w' : World) (k : ℕ) → Falls functions ts w k w' → Runs functions ts w k w'
  runs_falls ts w w' k f = record {
    by = λ ps n q e. ap (λ l. chain functions n w (l ∷ ps)) (sym (append-nil ts)) ∙ f.by [] ps n q e ∙ empty_dropped q w' ps;
  }

  pub runs_returns : (ts : Texts) (w w' : World) (k : ℕ) → Returns functions ts w k w' → Runs functions ts w k w'
  runs_returns ts w w' k f = record {
    by = λ ps n q e. ap (λ l. chain functions n w (l ∷ ps)) (sym (append-nil ts)) ∙ f.by [] ps n q e;
  }

  -- a command other than `function` and `return`
  pub falls_plain : (t : Text) (s : Simple) (w : World) → line_said t ≡ Some (command (plain s)) → is_direct s ≡ true → Falls functions (t ∷ []) w 1 (effect s w).world
  falls_plain t s w r d = record {
    by = λ rest ps n q e. one_plain t s w rest ps n q r e ∙ ap (onward q) (direct functions w s rest ps d);
  }

  -- one behind an `execute` that goes on past all its sub-commands
  pub falls_execute : (t : Text) (ss : List Sub) (s : Simple) (w : World) → line_said t ≡ Some (command (execute ss s)) → all_go_on ss w ≡ true → is_direct s ≡ true → Falls functions (t ∷ []) w 2 (store_all ss (effect s w).result (effect s w).world)
  falls_execute t ss s w r c d = record {
    by = λ rest ps n q e.
        one_held t ss s w rest ps n q r c e
        ∙ ap (λ a. onward q (record a { world = store_all ss (effect s w).result a.world })) (direct functions w s rest ps d);
  }

  -- an `execute` that doesn't go on past all of them
  pub falls_skip : (t : Text) (ss : List Sub) (s : Simple) (w : World) → line_said t ≡ Some (command (execute ss s)) → all_go_on ss w ≡ false → Falls functions (t ∷ []) w 2 w
  falls_skip t ss s w r c = record {
    by = λ rest ps n q e.
        one_execute t ss s w rest ps n q r e
        ∙ ap (λ b. onward q (if b then act_stored functions w ss s rest ps else record { world = w; pending = rest ∷ ps })) c;
  }

  -- an `execute` of a command without a result stores nothing
  world_kept : (t : Text) (ss : List Sub) (s : Simple) (w : World) → line_said t ≡ Some (command (execute ss s)) → has_result s ≡ false → store_all ss (effect s w).result w ≡ w
  world_kept t ss s w r n = store_all_none ss (effect s w).result w (stores_nothing t ss s r n)

  -- `return`
  pub returns_return : (t : Text) (z : ℤ) (w : World) → line_said t ≡ Some (command (plain (return_value z))) → Returns functions (t ∷ []) w 1 w
  returns_return t z w r = record { by = λ rest ps n q e. one_plain t (return_value z) w rest ps n q r e }

  pub returns_execute : (t : Text) (ss : List Sub) (z : ℤ) (w : World) → line_said t ≡ Some (command (execute ss (return_value z))) → all_go_on ss w ≡ true → Returns functions (t ∷ []) w 2 w
  returns_execute t ss z w r c = record {
    by = λ rest ps n q e.
        one_held t ss (return_value z) w rest ps n q r c e ∙ ap (λ v. chain functions q v ps) (world_kept t ss (return_value z) w r refl);
  }

  -- a function without patterns runs as it stands
  callable_held : (f : Text) (body : Texts) → functions f ≡ Some body → has_pattern body ≡ false → callable (functions f) ≡ Some body
  callable_held f body h m = ap callable h ∙ ap (λ b. if b then None else Some body) m

  filled_held : (f : Text) (body ts : Texts) (o : Option Tree) (fs : Fields) → functions f ≡ Some body → o ≡ Some (compound fs) → fill_lines (compound fs) body ≡ Some ts → filled_call (functions f) o ≡ Some ts
  filled_held f body ts o fs h s l = ap (λ x. filled_call x o) h ∙ ap (filled_by body) s ∙ l

  -- `function`
  pub falls_call : (t : Text) (f : Text) (body : Texts) (w w' : World) (k : ℕ) → line_said t ≡ Some (command (plain (call f))) → functions f ≡ Some body → has_pattern body ≡ false → Runs functions body w k w' → Falls functions (t ∷ []) w (1 + k) w'
  falls_call t f body w w' k r h m b = record {
    by = λ rest ps n q e.
        one_plain t (call f) w rest ps n (k + q) r (omega arith)
        ∙ ap (λ o. chain functions (k + q) w (in_front o (rest ∷ ps))) (callable_held f body h m)
        ∙ b.by (rest ∷ ps) (k + q) q refl;
  }

  -- `function .. with`, by its filled lines
  pub falls_with : (t : Text) (f i : Text) (qs : List Part) (body ts : Texts) (fs : Fields) (w w' : World) (k : ℕ) → line_said t ≡ Some (command (plain (call_with f i qs))) → functions f ≡ Some body → select (tree_in w i) qs ≡ Some (compound fs) → fill_lines (compound fs) body ≡ Some ts → Runs functions ts w k w' → Falls functions (t ∷ []) w (1 + k) w'
  falls_with t f i qs body ts fs w w' k r h s l b = record {
    by = λ rest ps n q e.
        one_plain t (call_with f i qs) w rest ps n (k + q) r (omega arith)
        ∙ ap (λ o. chain functions (k + q) w (in_front o (rest ∷ ps))) (filled_held f body ts (select (tree_in w i) qs) fs h s l)
        ∙ b.by (rest ∷ ps) (k + q) q refl;
  }

  -- both behind an `execute` that goes on past all its sub-commands
  pub falls_call_if : (t : Text) (ss : List Sub) (f : Text) (body : Texts) (w w' : World) (k : ℕ) → line_said t ≡ Some (command (execute ss (call f))) → all_go_on ss w ≡ true → functions f ≡ Some body → has_pattern body ≡ false → Runs functions body w k w' → Falls functions (t ∷ []) w (2 + k) w'
  falls_call_if t ss f body w w' k r c h m b = record {
    by = λ rest ps n q e.
        one_held t ss (call f) w rest ps n (k + q) r c (omega arith)
        ∙ ap (λ v. chain functions (k + q) v (in_front (callable (functions f)) (rest ∷ ps))) (world_kept t ss (call f) w r refl)
        ∙ ap (λ o. chain functions (k + q) w (in_front o (rest ∷ ps))) (callable_held f body h m)
        ∙ b.by (rest ∷ ps) (k + q) q refl;
  }

  pub falls_with_if : (t : Text) (ss : List Sub) (f i : Text) (qs : List Part) (body ts : Texts) (fs : Fields) (w w' : World) (k : ℕ) → line_said t ≡ Some (command (execute ss (call_with f i qs))) → all_go_on ss w ≡ true → functions f ≡ Some body → select (tree_in w i) qs ≡ Some (compound fs) → fill_lines (compound fs) body ≡ Some ts → Runs functions ts w k w' → Falls functions (t ∷ []) w (2 + k) w'
  falls_with_if t ss f i qs body ts fs w w' k r c h s l b = record {
    by = λ rest ps n q e.
        one_held t ss (call_with f i qs) w rest ps n (k + q) r c (omega arith)
        ∙ ap (λ v. chain functions (k + q) v (in_front (filled_call (functions f) (select (tree_in w i) qs)) (rest ∷ ps))) (world_kept t ss (call_with f i qs) w r refl)
        ∙ ap (λ o. chain functions (k + q) w (in_front o (rest ∷ ps))) (filled_held f body ts (select (tree_in w i) qs) fs h s l)
        ∙ b.by (rest ∷ ps) (k + q) q refl;
  }

  -- a call that fails does nothing
  pub falls_call_missing : (t : Text) (f : Text) (w : World) → line_said t ≡ Some (command (plain (call f))) → callable (functions f) ≡ None → Falls functions (t ∷ []) w 1 w
  falls_call_missing t f w r h = record {
    by = λ rest ps n q e.
        one_plain t (call f) w rest ps n q r e ∙ ap (λ o. chain functions q w (in_front o (rest ∷ ps))) h;
  }

  pub falls_with_missing : (t : Text) (f i : Text) (qs : List Part) (w : World) → line_said t ≡ Some (command (plain (call_with f i qs))) → filled_call (functions f) (select (tree_in w i) qs) ≡ None → Falls functions (t ∷ []) w 1 w
  falls_with_missing t f i qs w r h = record {
    by = λ rest ps n q e.
        one_plain t (call_with f i qs) w rest ps n q r e ∙ ap (λ o. chain functions q w (in_front o (rest ∷ ps))) h;
  }

  over_here : (q : ℕ) (w : World) → chain functions q w [] ≡ record { world = w; left = q; cut = false }
  unfolding chain run
  over_here q w = refl

  -- a whole chain isn't cut where its quota is at least the weight of its lines
  pub whole : (ts : Texts) (w w' : World) (k n : ℕ) → k ≤ n → Runs functions ts w k w' → chain functions n w (ts ∷ []) ≡ record { world = w'; left = n - k; cut = false }
  whole ts w w' k n le b = b.by [] n (n - k) (omega arith) ∙ over_here (n - k) w'

  pub chain-falls : (ts : Texts) (w w' : World) (k n : ℕ) → k ≤ n → Falls functions ts w k w' → chain functions n w (ts ∷ []) ≡ record { world = w'; left = n - k; cut = false }
  chain-falls ts w w' k n le f = whole ts w w' k n le (runs_falls ts w w' k f)

  -- the same of a chain that begins with a function
  pub whole_from : (f : Text) (body : Texts) (w w' : World) (k n : ℕ) → k ≤ n → functions f ≡ Some body → has_pattern body ≡ false → Runs functions body w k w' → chain_from functions f n w ≡ record { world = w'; left = n - k; cut = false }
  whole_from f body w w' k n le h m b = ap (λ o. chain functions n w (in_front o [])) (callable_held f body h m) ∙ whole body w w' k n le b
