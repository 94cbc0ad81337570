-- The dispatch runs the piece that the world names.
use Rattle.std.proofs.Common.{◌≡◌, ℕ, ◌+◌, ◌<◌, ◌≤◌, List, [], ◌∷◌, ◌++◌, length, length-append, append_assoc, append-nil, Some, Bool, true, false, refl, ap, ◌∙◌, subst, arith}
use Rattle.std.specs.Prelude.{pos, codes, ◌&&◌, ◌||◌, not, nat_le, nat_eq, option_and_then, unwrap_or}
use Rattle.std.specs.List.{list_all}
use Rattle.std.specs.Fmt.{decimal}
use Rattle.std.proofs.lemmas.Fmt.{length_signed_le}
use Rattle.std.proofs.lemmas.Bool.{le-leb, leb-true}
use Rattle.std.proofs.lemmas.List.Folds.{list_all-append}
use Rattle.mc_nbt.specs.Tree.{Tree, Fields, compound, key, select}
use Rattle.mc_nbt.specs.Word.{is_key}
use Rattle.mc_cmd.specs.Form.{Text}
use Rattle.mc_cmd.specs.Command.{Sub, call, call_with, Cmd, plain, execute, PatternPart, Line, pattern, nothing}
use Rattle.mc_cmd.specs.Pattern.{pattern_fits, pattern_text, is_literal, is_literal_byte}
use Rattle.mc_cmd.specs.Grammar.{cmd_text, line_text, line_said, most}
use Rattle.mc_cmd.specs.Word.{is_namespace, is_small_byte, is_function_name, is_holder}
use Rattle.mc_cmd.specs.World.{World, all_go_on}
use Rattle.mc_cmd.specs.Fill.{filled, fill}
use Rattle.mc_cmd.specs.Chain.{Texts, Functions, fill_line, fill_lines, filled_text, said_text, with_line, has_pattern}
use Rattle.mc_cmd.specs.Layout.{full_name}
use Rattle.mc_cmd.specs.steps.Straight.{Runs}
use Rattle.mc_cmd.proofs.FormLemmas.{and_first, and_second, and_both}
use Rattle.mc_cmd.proofs.NameLemmas.{namespace_short}
use Rattle.mc_cmd.proofs.WordLemmas.{namespace_bytes}
use Rattle.mc_cmd.proofs.GrammarLemmas.{reads_said, text_says}
use Rattle.mc_cmd.proofs.Runs.{runs_falls, runs_returns, falls_call, falls_with, falls_with_if, falls_call_if}
use Rattle.cc_line.specs.Sight.{Store, in_rest, store_id, Sight, Shows, SameOutside, Done, Does}
use Rattle.cc_line.specs.Key.{PieceId, body_piece, init_piece, shared_piece, end_piece, group_shared, id_tree, key_next}
use Rattle.cc_line.specs.State.{State, at_key, seen}
use Rattle.cc_line.specs.Item.{Item, call_item, fill_item, fill_when, item_fits, no_more}
use Rattle.cc_line.specs.Step.{Cond, cond_subs, conds_hold, holds, stands}
use Rattle.cc_line.specs.Fit.{cond_fits, conds_fit, site_fits}
use Rattle.cc_line.proofs.ActLemmas.{conds_shown}
use Rattle.cc_line.proofs.DoesLemmas.{does_skip}
use Rattle.cc_line.proofs.Numerals.{decimal_small}
use Rattle.cc_line.proofs.Speaking.{Speaks}
use Rattle.cc_line.proofs.SightLemmas.{key_selects}
use Rattle.cc_line.proofs.ItemLemmas.{item_speaks}
use Rattle.cc_sched.specs.Names.{PieceFits, piece_group, piece_number, piece_name, run_name}
use Rattle.cc_sched.specs.Sched.{ends_site, finish_command, finish_conds, is_quiet, round_command, run_call, run_command, run_pattern, run_texts, HasSched}

-- ---- whole lists of lines

-- what a whole list of lines does
pub record Body (functions : Functions) (ns : Text) (ts : Texts) (v : Sight) (k : ℕ) (u : Sight) : Type 0 where
  pub by : (w : World) → Shows ns w v → (w' : World) × (j : ℕ) × (j ≤ k) × Runs functions ts w j w' × Shows ns w' u × SameOutside ns w w'

module _ (functions : Functions) (ns : Text) where
  pub body_of : (b : Bool) (ts : Texts) (v u : Sight) (k : ℕ) → Does functions ns ts v k b u → Body functions ns ts v k u
  body_of b ts v u k f = record { by = λ w h. go b w (f.by w h) }
    where
      go : (b : Bool) (w : World) → Done functions ns ts w k b u → (w' : World) × (j : ℕ) × (j ≤ k) × Runs functions ts w j w' × Shows ns w' u × SameOutside ns w w'
      go true w d = (d.world, d.weight, d.light, runs_returns functions ts w d.world d.weight d.leaves, d.shows, d.outside)
      go false w d = (d.world, d.weight, d.light, runs_falls functions ts w d.world d.weight d.leaves, d.shows, d.outside)

  pub does_call : (f : Text) (body : Texts) (v u : Sight) (k : ℕ) → Speaks (plain (call f)) → functions f ≡ Some body → has_pattern body ≡ false → Body functions ns body v k u → Does functions ns (cmd_text (plain (call f)) ∷ []) v (1 + k) false u
  does_call f body v u k r h p b = record { by = λ w s. go w (b.by w s) }
    where
      go : (w : World) → (w' : World) × (j : ℕ) × (j ≤ k) × Runs functions body w j w' × Shows ns w' u × SameOutside ns w w' → Done functions ns (cmd_text (plain (call f)) ∷ []) w (1 + k) false u
      go w d = record { world = d.0; weight = 1 + d.1; light = (let x = d.2 in let y : 1 + d.1 ≤ 1 + k = omega arith in y); leaves = falls_call functions (cmd_text (plain (call f))) f body w d.0 d.1 r h p d.3; shows = d.4; outside = d.5 }

  pub does_call_if : (ss : List Sub) (f : Text) (body : Texts) (v u : Sight) (k : ℕ) → Speaks (execute ss (call f)) → ((w : World) → Shows ns w v → all_go_on ss w ≡ true) → functions f ≡ Some body → has_pattern body ≡ false → Body functions ns body v k u → Does functions ns (cmd_text (execute ss (call f)) ∷ []) v (2 + k) false u
  does_call_if ss f body v u k r e h p b = record { by = λ w s. go w s (b.by w s) }
    where
      go : (w : World) → Shows ns w v → (w' : World) × (j : ℕ) × (j ≤ k) × Runs functions body w j w' × Shows ns w' u × SameOutside ns w w' → Done functions ns (cmd_text (execute ss (call f)) ∷ []) w (2 + k) false u
      go w s d = record { world = d.0; weight = 2 + d.1; light = (let x = d.2 in let y : 2 + d.1 ≤ 2 + k = omega arith in y); leaves = falls_call_if functions (cmd_text (execute ss (call f))) ss f body w d.0 d.1 r (e w s) h p d.3; shows = d.4; outside = d.5 }

  does_with : (f : Text) (s : Store) (k : Text) (body ts : Texts) (fs : Fields) (v u : Sight) (n : ℕ) → Speaks (plain (call_with f (store_id ns s) (key k ∷ []))) → functions f ≡ Some body → v.keys s k ≡ Some (compound fs) → fill_lines (compound fs) body ≡ Some ts → Body functions ns ts v n u
      → Does functions ns (cmd_text (plain (call_with f (store_id ns s) (key k ∷ []))) ∷ []) v (1 + n) false u
  does_with f s k body ts fs v u n r h e l b = record { by = λ w x. go w x (b.by w x) }
    where
      go : (w : World) → Shows ns w v → (w' : World) × (j : ℕ) × (j ≤ n) × Runs functions ts w j w' × Shows ns w' u × SameOutside ns w w' → Done functions ns (cmd_text (plain (call_with f (store_id ns s) (key k ∷ []))) ∷ []) w (1 + n) false u
      go w x d = record {
        world = d.0;
        weight = 1 + d.1;
        light = (let y = d.2 in let z : 1 + d.1 ≤ 1 + n = omega arith in z);
        leaves = falls_with functions (cmd_text (plain (call_with f (store_id ns s) (key k ∷ [])))) f (store_id ns s) (key k ∷ []) body ts fs w d.0 d.1 r h (key_selects ns w v s k [] x ∙ ap (option_and_then (λ t. select t [])) e) l d.3;
        shows = d.4;
        outside = d.5;
      }

  does_with_if : (ss : List Sub) (f : Text) (s : Store) (k : Text) (body ts : Texts) (fs : Fields) (v u : Sight) (n : ℕ) → Speaks (execute ss (call_with f (store_id ns s) (key k ∷ []))) → ((w : World) → Shows ns w v → all_go_on ss w ≡ true) → functions f ≡ Some body → v.keys s k ≡ Some (compound fs) → fill_lines (compound fs) body ≡ Some ts → Body functions ns ts v n u
      → Does functions ns (cmd_text (execute ss (call_with f (store_id ns s) (key k ∷ []))) ∷ []) v (2 + n) false u
  does_with_if ss f s k body ts fs v u n r c h e l b = record { by = λ w x. go w x (b.by w x) }
    where
      go : (w : World) → Shows ns w v → (w' : World) × (j : ℕ) × (j ≤ n) × Runs functions ts w j w' × Shows ns w' u × SameOutside ns w w' → Done functions ns (cmd_text (execute ss (call_with f (store_id ns s) (key k ∷ []))) ∷ []) w (2 + n) false u
      go w x d = record {
        world = d.0;
        weight = 2 + d.1;
        light = (let y = d.2 in let z : 2 + d.1 ≤ 2 + n = omega arith in z);
        leaves = falls_with_if functions (cmd_text (execute ss (call_with f (store_id ns s) (key k ∷ [])))) ss f (store_id ns s) (key k ∷ []) body ts fs w d.0 d.1 r (c w x) h (key_selects ns w v s k [] x ∙ ap (option_and_then (λ t. select t [])) e) l d.3;
        shows = d.4;
        outside = d.5;
      }

-- ---- macro lines

-- a macro line that is filled
fill_one : (t : Tree) (ps : List PatternPart) (x : Text) (l : Line) → line_said (line_text (pattern ps)) ≡ Some (pattern ps) → fill ps t ≡ filled x → line_said x ≡ Some l → fill_lines t (line_text (pattern ps) ∷ []) ≡ Some (x ∷ [])
fill_one t ps x l r f s =
    ap (λ o. with_line (fill_line t (line_text (pattern ps)) (unwrap_or o nothing)) (Some [])) r
    ∙ ap (λ y. with_line (filled_text y) (Some [])) f
    ∙ ap (λ o. with_line (said_text x o) (Some [])) s

literal_byte : (b : ℕ) → is_small_byte b ≡ true → is_literal_byte b ≡ true
literal_byte b h = go (nat_le 48 b && nat_le b 57) refl (nat_le 97 b && nat_le b 122) refl h
  where
    fits : (b : ℕ) → 48 ≤ b → b ≤ 122 → is_literal_byte b ≡ true
    fits b l u = and_both _ _ (le-leb 32 b (omega arith)) (and_both _ _ (le-leb b 126 (omega arith)) (ap not (other b (omega arith))))
      where
        other : (b : ℕ) → 36 < b → nat_eq b 36 ≡ false
        other b h = grind arith

    go : (d : Bool) → nat_le 48 b && nat_le b 57 ≡ d → (l : Bool) → nat_le 97 b && nat_le b 122 ≡ l → d || l || nat_eq b 95 ≡ true → is_literal_byte b ≡ true
    go true e l f h = fits b (leb-true 48 b (and_first _ _ e)) (let x = leb-true b 57 (and_second (nat_le 48 b) _ e) in omega arith)
    go false e true f h = fits b (let x = leb-true 97 b (and_first _ _ f) in omega arith) (leb-true b 122 (and_second (nat_le 97 b) _ f))
    go false e false f h = let x : b ≡ 95 = Rattle.mc_nbt.proofs.TestLemmas.eq_same b 95 h in fits b (omega arith) (omega arith)

all_literal : (w : Text) → list_all is_small_byte w ≡ true → list_all is_literal_byte w ≡ true
all_literal [] h = refl
all_literal (b ∷ w) h = and_both _ _ (literal_byte b (and_first _ _ h)) (all_literal w (and_second (is_small_byte b) _ h))

-- "function NS:" and more is a literal part
front_literal : (ns rest : Text) → is_namespace ns ≡ true → list_all is_literal_byte rest ≡ true → is_literal (codes "function " ++ (ns ++ rest)) ≡ true
front_literal ns rest n h = list_all-append is_literal_byte ns rest ∙ and_both _ _ (all_literal ns (namespace_bytes ns n)) h

-- ---- names

-- a number's digits are few
digits_short : (n : ℕ) → n < 4000000000 → length (decimal n) ≤ 11
digits_short n h = length_signed_le 10 (pos n) (omega arith) (omega arith)

-- a name of small bytes
pub record IsName (k : ℕ) (w : Text) : Type 0 where
  pub small : list_all is_small_byte w ≡ true
  pub short : length w ≤ k

pub name_of : (w : Text) → list_all is_small_byte w ≡ true → IsName (length w) w
name_of w h = record { small = h; short = omega arith }

pub long_digits_name : (n : ℕ) → n < 4000000000 → IsName 11 (decimal n)
long_digits_name n h = record { small = decimal_small n (omega arith); short = digits_short n h }

pub digits_name : (n : ℕ) → n < 2147483648 → IsName 11 (decimal n)
digits_name n h = long_digits_name n (omega arith)

pub both_names : {j k : ℕ} {v w : Text} → IsName j v → IsName k w → IsName (j + k) (v ++ w)
both_names {v = v} {w = w} a b = record { small = list_all-append is_small_byte v w ∙ and_both _ _ a.small b.small; short = let x = length-append v w in let y = a.short in let z = b.short in omega arith }

pub name_fits : (b : ℕ) (w : Text) (k : ℕ) → IsName k (b ∷ w) → k ≤ 64 → is_function_name (b ∷ w) ≡ true
name_fits b w k h l = and_both _ _ h.small (and_both _ _ (le-leb 1 (length (b ∷ w)) (omega arith)) (le-leb (length (b ∷ w)) 64 (let x = h.short in omega arith)))

group_low : (i : PieceId) → PieceFits i → piece_group i < 2147483648
group_low (body_piece f j) h = let x : f < group_shared = h.0 in omega arith
group_low (init_piece j) h = omega arith
group_low (shared_piece j) h = omega arith
group_low (end_piece w) h = omega arith

number_low : (i : PieceId) → PieceFits i → piece_number i < 2147483648
number_low (body_piece f j) h = h.1
number_low (init_piece j) h = h
number_low (shared_piece j) h = h
number_low (end_piece w) h = h

pub piece_fits : (i : PieceId) → PieceFits i → is_function_name (piece_name i) ≡ true
piece_fits i h = name_fits _ _ 24 (both_names (name_of (codes "f") refl) (both_names (digits_name (piece_group i) (group_low i h)) (both_names (name_of (codes "_") refl) (digits_name (piece_number i) (number_low i h))))) (omega arith)

pub call_speaks : (ns f : Text) → is_namespace ns ≡ true → is_function_name f ≡ true → Speaks (plain (call (full_name ns f)))
call_speaks ns f n h = item_speaks ns n (call_item f no_more) (and_both _ _ h refl)

pub key_n : Rattle.mc_nbt.specs.Path.is_path (key (codes "n") ∷ []) ≡ true
unfolding Rattle.mc_nbt.specs.Path.is_path Rattle.mc_nbt.specs.Word.is_key
key_n = refl

pub run_speaks : (ns : Text) → is_namespace ns ≡ true → Speaks (run_command ns)
run_speaks ns n = item_speaks ns n (fill_item run_name (at_key in_rest key_next) []) (and_both _ _ refl (and_both _ _ (and_both _ _ key_n refl) refl))

-- ---- what the macro line says, and what it is filled to

pattern_says : (ps : List PatternPart) (k : ℕ) → pattern_fits ps ≡ true → length (pattern_text ps) ≤ k → k ≤ 524288 → line_said (line_text (pattern ps)) ≡ Some (pattern ps)
pattern_says ps k f l e = reads_said _ _ (text_says (pattern ps) f (le-leb (length (pattern_text ps)) most (omega arith)))

key_i : is_key (codes "i") ≡ true
unfolding is_key
key_i = refl

key_j : is_key (codes "j") ≡ true
unfolding is_key
key_j = refl

name_length : (ns w : Text) (k : ℕ) → is_namespace ns ≡ true → length w ≤ k → length (full_name ns w) ≤ 17 + k
name_length ns w k n h = let x = length-append ns (58 ∷ w) in let y = namespace_short ns n in omega arith

front_length : (ns w : Text) (k : ℕ) → is_namespace ns ≡ true → length w ≤ k → length (codes "function " ++ full_name ns w) ≤ 26 + k
front_length ns w k n h = let x = name_length ns w k n h in let y = length-append (codes "function ") (full_name ns w) in omega arith

pub run_says : (ns : Text) → is_namespace ns ≡ true → line_said (line_text (pattern (run_pattern ns))) ≡ Some (pattern (run_pattern ns))
run_says ns n = pattern_says (run_pattern ns) 100
    (and_both _ _ (front_literal ns (58 ∷ codes "f") n refl) (and_both _ _ key_i (and_both _ _ key_j refl)))
    (let x = front_length ns (codes "f") 1 n (omega arith) in
    let z = length-append (codes "function " ++ full_name ns (codes "f")) (codes "$(i)_$(j)") in
    omega arith) (omega arith)

run_filled : (ns : Text) (i : PieceId) → fill (run_pattern ns) (id_tree i) ≡ filled (cmd_text (plain (call (full_name ns (piece_name i)))))
run_filled ns i = whole i ∙ ap filled (spelled ns (decimal (piece_group i)) (decimal (piece_number i)))
  where
    whole : (i : PieceId) → fill (run_pattern ns) (id_tree i) ≡ filled ((codes "function " ++ full_name ns (codes "f")) ++ (decimal (piece_group i) ++ (codes "_" ++ (decimal (piece_number i) ++ []))))
    whole (body_piece f j) = refl
    whole (init_piece j) = refl
    whole (shared_piece j) = refl
    whole (end_piece w) = refl

    spelled : (ns d e : Text) → (codes "function " ++ full_name ns (codes "f")) ++ (d ++ (codes "_" ++ (e ++ []))) ≡ codes "function " ++ full_name ns (codes "f" ++ (d ++ (codes "_" ++ e)))
    spelled ns d e = simp (append_assoc, append-nil)

-- an identity's tree is a compound
id_fields : (i : PieceId) → (fs : Fields) × (id_tree i ≡ compound fs)
id_fields (body_piece f j) = (_, refl)
id_fields (init_piece j) = (_, refl)
id_fields (shared_piece j) = (_, refl)
id_fields (end_piece w) = (_, refl)

-- THE DISPATCH: the line of `h_run` runs the piece that is named
record Dispatched (functions : Functions) (ns : Text) (v u : Sight) (k : ℕ) : Type 0 where
  fields : Fields
  lines : Texts
  named : v.keys in_rest key_next ≡ Some (compound fields)
  filled : fill_lines (compound fields) (run_texts ns) ≡ Some lines
  does : Body functions ns lines v (1 + k) u

dispatched : (functions : Functions) (ns : Text) (piece : ℕ) (i : PieceId) (ts : Texts) (v u : Sight) (k : ℕ) → is_namespace ns ≡ true → HasSched functions ns piece → PieceFits i → v.keys in_rest key_next ≡ Some (id_tree i)
    → functions (full_name ns (piece_name i)) ≡ Some ts → has_pattern ts ≡ false → Body functions ns ts v k u → Dispatched functions ns v u k
dispatched functions ns piece i ts v u k n d f e h p b =
    let fs = id_fields i in
    let run : Cmd = plain (call (full_name ns (piece_name i))) in
    let speaks : Speaks (plain (call (full_name ns (piece_name i)))) = call_speaks ns (piece_name i) n (piece_fits i f) in
    let inner : Does functions ns (cmd_text run ∷ []) v (1 + k) false u = does_call functions ns (full_name ns (piece_name i)) ts v u k speaks h p b in
    let lines : fill_lines (compound fs.0) (run_texts ns) ≡ Some (cmd_text run ∷ []) =
    subst (λ t. fill_lines t (run_texts ns) ≡ Some (cmd_text run ∷ [])) fs.1
    (fill_one (id_tree i) (run_pattern ns) _ _ (run_says ns n) (run_filled ns i) speaks) in
    record { fields = fs.0; lines = cmd_text run ∷ []; named = e ∙ ap Some fs.1; filled = lines; does = body_of functions ns false _ v u (1 + k) inner }

-- the line of a turn
pub dispatch : (functions : Functions) (ns : Text) (piece : ℕ) (i : PieceId) (ts : Texts) (v u : Sight) (k : ℕ) → is_namespace ns ≡ true → HasSched functions ns piece → PieceFits i → v.keys in_rest key_next ≡ Some (id_tree i)
    → functions (full_name ns (piece_name i)) ≡ Some ts → has_pattern ts ≡ false → Body functions ns ts v k u → Does functions ns (cmd_text (run_command ns) ∷ []) v (2 + k) false u
dispatch functions ns piece i ts v u k n d f e h p b =
    let r : Dispatched functions ns v u k = dispatched functions ns piece i ts v u k n d f e h p b in
    let z : 1 + (1 + k) ≡ 2 + k = omega arith in
    subst (λ q. Does functions ns (cmd_text (run_command ns) ∷ []) v q false u) z
    (does_with functions ns (full_name ns run_name) in_rest key_next (run_texts ns) r.lines r.fields v u (1 + k) (run_speaks ns n) d.runs r.named r.filled r.does)

-- ---- where conditions hold: in a round of a tick, and at the end of a turn and of a tick

abbrev run_when : Text → List Cond → Cmd
run_when ns cs = execute (cond_subs ns cs) (run_call ns)

abbrev pub run_item_when : List Cond → Item
run_item_when cs = fill_when cs run_name (at_key in_rest key_next) []

next_site_fits : site_fits (at_key in_rest key_next) ≡ true
unfolding Rattle.mc_nbt.specs.Path.is_path Rattle.mc_nbt.specs.Word.is_key
next_site_fits = refl

pub run_item_fits : (cs : List Cond) → conds_fit cs ≡ true → item_fits (run_item_when cs) ≡ true
run_item_fits cs c = and_both (conds_fit cs) _ c (and_both (is_function_name run_name) _ refl (and_both (site_fits (at_key in_rest key_next)) _ next_site_fits refl))

when_speaks : (ns : Text) (c : Cond) (cs : List Cond) → is_namespace ns ≡ true → conds_fit (c ∷ cs) ≡ true → Speaks (run_when ns (c ∷ cs))
when_speaks ns c cs n f = item_speaks ns n (run_item_when (c ∷ cs)) (run_item_fits (c ∷ cs) f)

dispatch_when : (functions : Functions) (ns : Text) (piece : ℕ) (i : PieceId) (ts : Texts) (v u : Sight) (k : ℕ) (c : Cond) (cs : List Cond) → is_namespace ns ≡ true → HasSched functions ns piece → PieceFits i → v.keys in_rest key_next ≡ Some (id_tree i)
    → functions (full_name ns (piece_name i)) ≡ Some ts → has_pattern ts ≡ false → Body functions ns ts v k u → conds_fit (c ∷ cs) ≡ true → ((w : World) → Shows ns w v → all_go_on (cond_subs ns (c ∷ cs)) w ≡ true) → Does functions ns (cmd_text (run_when ns (c ∷ cs)) ∷ []) v (3 + k) false u
dispatch_when functions ns piece i ts v u k c cs n d f e h p b fits q =
    let r : Dispatched functions ns v u k = dispatched functions ns piece i ts v u k n d f e h p b in
    let z : 2 + (1 + k) ≡ 3 + k = omega arith in
    subst (λ q. Does functions ns (cmd_text (run_when ns (c ∷ cs)) ∷ []) v q false u) z
    (does_with_if functions ns (cond_subs ns (c ∷ cs)) (full_name ns run_name) in_rest key_next (run_texts ns) r.lines r.fields v u (1 + k) (when_speaks ns c cs n fits) q d.runs r.named r.filled r.does)

-- ---- a round, where nothing has trapped

quiet_fits : list_all cond_fits (is_quiet ∷ []) ≡ true
unfolding is_holder
quiet_fits = refl

pub round_conds_fit : conds_fit (is_quiet ∷ []) ≡ true
round_conds_fit = and_both (list_all cond_fits (is_quiet ∷ [])) _ quiet_fits refl

pub round_speaks : (ns : Text) → is_namespace ns ≡ true → Speaks (round_command ns)
round_speaks ns n = when_speaks ns is_quiet [] n round_conds_fit

pub dispatch_quiet : (functions : Functions) (ns : Text) (piece : ℕ) (i : PieceId) (ts : Texts) (s : State) (u : Sight) (k : ℕ) → is_namespace ns ≡ true → HasSched functions ns piece → PieceFits i → s.keys in_rest key_next ≡ Some (id_tree i)
    → functions (full_name ns (piece_name i)) ≡ Some ts → has_pattern ts ≡ false → Body functions ns ts (seen s) k u → conds_hold (is_quiet ∷ []) s ≡ true → Does functions ns (cmd_text (round_command ns) ∷ []) (seen s) (3 + k) false u
dispatch_quiet functions ns piece i ts s u k n d f e h p b q =
    dispatch_when functions ns piece i ts (seen s) u k is_quiet [] n d f e h p b round_conds_fit (λ w h. conds_shown ns w s h (is_quiet ∷ []) quiet_fits (tt, tt) ∙ q)

-- and elsewhere it does nothing
pub round_skips : (functions : Functions) (ns : Text) (s : State) → is_namespace ns ≡ true → conds_hold (is_quiet ∷ []) s ≡ false → Does functions ns (cmd_text (round_command ns) ∷ []) (seen s) 2 false (seen s)
round_skips functions ns s n q =
    does_skip functions ns (cond_subs ns (is_quiet ∷ [])) (run_call ns) (seen s) (round_speaks ns n)
    (λ w h. conds_shown ns w s h (is_quiet ∷ []) quiet_fits (tt, tt) ∙ q)

-- ---- the end of a turn and of a tick, where the piece that is next ends the job

finish_fits : list_all cond_fits finish_conds ≡ true
unfolding is_holder Rattle.mc_nbt.specs.Path.is_path Rattle.mc_nbt.specs.Word.is_key
finish_fits = refl

pub finish_conds_fit : conds_fit finish_conds ≡ true
finish_conds_fit = and_both (list_all cond_fits finish_conds) _ finish_fits refl

pub finish_speaks : (ns : Text) → is_namespace ns ≡ true → Speaks (finish_command ns)
finish_speaks ns n = when_speaks ns is_quiet (holds (stands ends_site) ∷ []) n finish_conds_fit

pub dispatch_end : (functions : Functions) (ns : Text) (piece : ℕ) (i : PieceId) (ts : Texts) (s : State) (u : Sight) (k : ℕ) → is_namespace ns ≡ true → HasSched functions ns piece → PieceFits i → s.keys in_rest key_next ≡ Some (id_tree i)
    → functions (full_name ns (piece_name i)) ≡ Some ts → has_pattern ts ≡ false → Body functions ns ts (seen s) k u → conds_hold finish_conds s ≡ true → Does functions ns (cmd_text (finish_command ns) ∷ []) (seen s) (3 + k) false u
dispatch_end functions ns piece i ts s u k n d f e h p b q =
    dispatch_when functions ns piece i ts (seen s) u k is_quiet (holds (stands ends_site) ∷ []) n d f e h p b finish_conds_fit (λ w h. conds_shown ns w s h finish_conds finish_fits (tt, (tt, tt)) ∙ q)

pub finish_skips : (functions : Functions) (ns : Text) (s : State) → is_namespace ns ≡ true → conds_hold finish_conds s ≡ false → Does functions ns (cmd_text (finish_command ns) ∷ []) (seen s) 2 false (seen s)
finish_skips functions ns s n q =
    does_skip functions ns (cond_subs ns finish_conds) (run_call ns) (seen s) (finish_speaks ns n)
    (λ w h. conds_shown ns w s h finish_conds finish_fits (tt, (tt, tt)) ∙ q)
