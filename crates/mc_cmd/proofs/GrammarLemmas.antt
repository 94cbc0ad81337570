-- Commands are read as they are spelled, and a text says a line exactly where the reader reads it.
use Rattle.std.proofs.Common.{◌≡◌, ℕ, suc, List, [], ◌∷◌, ◌++◌, length, Bool, true, false, Option, Some, None, refl, sym, ap, ◌∙◌, subst, arith}
use Rattle.std.specs.Prelude.{codes, nat_eq, nat_le, if◌then◌else◌, option_map, option_and_then}
use Rattle.mc_nbt.proofs.TestLemmas.{and_first, and_second, and_both, eq_same, some_same}
use Rattle.mc_cmd.specs.Form.{Text, strip}
use Rattle.mc_cmd.specs.Command.{Simple, objective_add, score_set, score_add, score_remove, score_get, score_op, score_reset, data_get, set_value, set_from, append_value, append_from, data_remove, call, call_with, return_value, chain_length, Sub, Cmd, plain, execute, Line, nothing, command, pattern}
use Rattle.mc_cmd.specs.Pattern.{patterns}
use Rattle.mc_cmd.specs.Grammar.{simple_text, simple_read, subs_text, subs_fit, subs_read, may_run, cmd_text, cmd_fits, execute_of, cmd_by, cmd_read, commands, line_text, line_fits, is_comment, most, Says, says_nothing, says_comment, says_command, says_pattern, said_in, line_said, IsReader}
use Rattle.mc_cmd.proofs.FormLemmas.{IsLast, strip_spells, and_then_some, map_some}
use Rattle.mc_cmd.proofs.SimpleLemmas.{simple_is}
use Rattle.mc_cmd.proofs.SubLemmas.{subs_longer, subs_reads, SubsSpelled, subs_spells}
use Rattle.mc_cmd.proofs.PatternLemmas.{patterns_is}

-- commands
not_execute : (c : Simple) → strip (codes "execute ") (simple_text c) ≡ None
not_execute (objective_add o) = refl
not_execute (score_set h o z) = refl
not_execute (score_add h o z) = refl
not_execute (score_remove h o z) = refl
not_execute (score_get h o) = refl
not_execute (score_op h o f i q) = refl
not_execute (score_reset h o) = refl
not_execute (data_get i ps) = refl
not_execute (set_value i ps v) = refl
not_execute (set_from i ps j qs) = refl
not_execute (append_value i ps v) = refl
not_execute (append_from i ps j qs) = refl
not_execute (data_remove i ps) = refl
not_execute (call f) = refl
not_execute (call_with f i ps) = refl
not_execute (return_value z) = refl
not_execute chain_length = refl

cmd_reads : (c : Cmd) → cmd_fits c ≡ true → cmd_read (cmd_text c) ≡ Some c
cmd_reads (plain c) f = ap (λ o. cmd_by o (simple_text c)) (not_execute c) ∙ ap (option_map plain) (simple_is.reads c f)
cmd_reads (execute ss c) f =
    let r = subs_text ss (simple_text c) in
    let g = and_second (may_run ss c) _ f in
    let l = subs_longer ss (simple_text c) in
    ap (option_and_then execute_of) (subs_reads (suc (length r)) ss c (and_first _ _ g) (and_second (subs_fit ss) _ g) (omega arith))
    ∙ ap (λ b. if b then Some (execute ss c) else None) (and_first _ _ f)

abbrev CmdSpelled : Text → Cmd → Type 0
CmdSpelled t c = (t ≡ cmd_text c) × (cmd_fits c ≡ true)

execute_spells : (t r : Text) (p : List Sub × Simple) (c : Cmd) → t ≡ codes "execute " ++ r → SubsSpelled r p → execute_of p ≡ Some c → CmdSpelled t c
execute_spells t r p c e s h = go (may_run p.0 p.1) refl h
  where
    go : (b : Bool) → may_run p.0 p.1 ≡ b → (if b then Some (execute p.0 p.1) else None) ≡ Some c → CmdSpelled t c
    go true g h =
        subst (CmdSpelled t) (some_same (execute p.0 p.1) c h)
        (e ∙ ap (λ w. codes "execute " ++ w) s.0, and_both _ _ g (and_both _ _ s.1 s.2))
    go false g h = absurd cc

cmd_spells : (t : Text) (c : Cmd) → cmd_read t ≡ Some c → CmdSpelled t c
cmd_spells t c h = go (strip (codes "execute ") t) refl h
  where
    go : (o : Option Text) → strip (codes "execute ") t ≡ o → cmd_by o t ≡ Some c → CmdSpelled t c
    go None e h =
        let m = map_some plain (simple_read t) c h in
        let s = simple_is.spells t m.0 m.1 in
        subst (CmdSpelled t) m.2 (s.0, s.1)
    go (Some r) e h =
        let m = and_then_some execute_of (subs_read (suc (length r)) r) c h in
        execute_spells t r m.0 c (strip_spells (codes "execute ") t r e) (subs_spells (suc (length r)) r m.0 m.1) m.2

pub commands_is : IsLast commands
commands_is = record { reads = cmd_reads; spells = cmd_spells }

-- a command's text begins like no comment and no macro line
command_in : (c : Cmd) → said_in (cmd_text c) ≡ option_map command (cmd_read (cmd_text c))
command_in (plain (objective_add o)) = refl
command_in (plain (score_set h o z)) = refl
command_in (plain (score_add h o z)) = refl
command_in (plain (score_remove h o z)) = refl
command_in (plain (score_get h o)) = refl
command_in (plain (score_op h o f i q)) = refl
command_in (plain (score_reset h o)) = refl
command_in (plain (data_get i ps)) = refl
command_in (plain (set_value i ps v)) = refl
command_in (plain (set_from i ps j qs)) = refl
command_in (plain (append_value i ps v)) = refl
command_in (plain (append_from i ps j qs)) = refl
command_in (plain (data_remove i ps)) = refl
command_in (plain (call f)) = refl
command_in (plain (call_with f i ps)) = refl
command_in (plain (return_value z)) = refl
command_in (plain chain_length) = refl
command_in (execute ss s) = refl

-- what is said is read
pub reads_said : (t : Text) (l : Line) → Says t l → line_said t ≡ Some l
unfolding line_said
reads_said _ _ says_nothing = refl
reads_said _ _ (says_comment t c n) = ap (λ b. if b then said_in (35 ∷ t) else None) n ∙ ap (λ b. if b then Some nothing else None) c
reads_said _ _ (says_command t c e f n) =
    ap (λ b. if b then said_in t else None) n ∙ ap said_in e ∙ command_in c ∙ ap (option_map command) (cmd_reads c f)
reads_said _ _ (says_pattern t ps e f n) =
    ap (λ b. if b then said_in t else None) n ∙ ap said_in e ∙ ap (option_map pattern) (patterns_is.reads ps f)

in_says : (t : Text) (l : Line) → nat_le (length t) most ≡ true → said_in t ≡ Some l → Says t l
in_says [] l n h = subst (Says []) (some_same nothing l h) says_nothing
in_says (b ∷ t) l n h = go (nat_eq b 35) refl (is_comment t) refl (nat_eq b 36) h
  where
    go : (x : Bool) → nat_eq b 35 ≡ x → (y : Bool) → is_comment t ≡ y → (z : Bool) → (if x then (if y then Some nothing else None) else if z then option_map pattern (patterns.read (b ∷ t)) else option_map command (cmd_read (b ∷ t))) ≡ Some l → Says (b ∷ t) l
    go true e true f z h =
        let q : 35 ≡ b = sym (eq_same b 35 e) in
        let P : ℕ → Type 0 = λ b. nat_le (length (b ∷ t)) most ≡ true → Says (b ∷ t) nothing in
        subst (Says (b ∷ t)) (some_same nothing l h) (subst P q (λ n. says_comment t f n) n)
    go true e false f z h = absurd cc
    go false e y f true h =
        let m = map_some pattern (patterns.read (b ∷ t)) l h in
        let k = patterns_is.spells (b ∷ t) m.0 m.1 in
        subst (Says (b ∷ t)) m.2 (says_pattern (b ∷ t) m.0 k.0 k.1 n)
    go false e y f false h =
        let m = map_some command (cmd_read (b ∷ t)) l h in
        let k = cmd_spells (b ∷ t) m.0 m.1 in
        subst (Says (b ∷ t)) m.2 (says_command (b ∷ t) m.0 k.0 k.1 n)

-- what is read is said
pub said_read : (t : Text) (l : Line) → line_said t ≡ Some l → Says t l
unfolding line_said
said_read t l h = go (nat_le (length t) most) refl h
  where
    go : (b : Bool) → nat_le (length t) most ≡ b → (if b then said_in t else None) ≡ Some l → Says t l
    go true e h = in_says t l e h
    go false e h = absurd cc

pub line_reader : IsReader line_said
line_reader = record { reads = reads_said; says = said_read }

-- a text says at most one line
pub one_line : (t : Text) (k l : Line) → Says t k → Says t l → k ≡ l
one_line t k l a b = some_same k l (sym (reads_said t k a) ∙ reads_said t l b)

-- a line other than nothing is said by one text alone, which is its own
text_of : (t : Text) (l : Line) → (l ≡ nothing → ⊥) → Says t l → t ≡ line_text l
text_of _ _ other says_nothing = absurd (other refl)
text_of _ _ other (says_comment t c n) = absurd (other refl)
text_of _ _ other (says_command t c e f n) = e
text_of _ _ other (says_pattern t ps e f n) = e

pub one_text : (t u : Text) (l : Line) → (l ≡ nothing → ⊥) → Says t l → Says u l → t ≡ u
one_text t u l other a b = text_of t l other a ∙ sym (text_of u l other b)

-- a line that fits is said by its text, where that isn't too long
pub text_says : (l : Line) → line_fits l ≡ true → nat_le (length (line_text l)) most ≡ true → Says (line_text l) l
text_says nothing f n = says_nothing
text_says (command c) f n = says_command (cmd_text c) c refl f n
text_says (pattern ps) f n = says_pattern (patterns.text ps) ps refl f n
