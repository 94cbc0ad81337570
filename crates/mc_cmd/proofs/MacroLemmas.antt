-- What the call of a function with macro lines runs.
use Rattle.std.proofs.Common.{◌≡◌, ℕ, ◌+◌, ◌≤◌, suc, List, [], ◌∷◌, ◌++◌, length, true, Some, refl, ap, ◌∙◌, arith, length-append}
use Rattle.std.specs.Prelude.{ℤ, nat_le, unwrap_or}
use Rattle.std.specs.List.{list_all}
use Rattle.std.specs.Fmt.{signed_decimal}
use Rattle.std.proofs.lemmas.Fmt.{length_signed_le}
use Rattle.std.proofs.lemmas.Bool.{le-leb, leb-true, ltb-true}
use Rattle.mc_nbt.specs.Word.{is_key, is_int}
use Rattle.mc_nbt.specs.Tree.{Tree, Fields, compound, Part, select}
use Rattle.mc_cmd.specs.Form.{Text}
use Rattle.mc_cmd.specs.Command.{PatternPart, hole, call_with, plain, nothing, command, pattern}
use Rattle.mc_cmd.specs.Pattern.{is_literal_byte, has_word, parts_text}
use Rattle.mc_cmd.specs.Grammar.{commands, cmd_text, most, line_said}
use Rattle.mc_cmd.specs.World.{World, tree_in}
use Rattle.mc_cmd.specs.Chain.{Functions, said_text, filled_text, fill_line, with_line, fill_lines, line_of}
use Rattle.mc_cmd.proofs.FormLemmas.{and_first, and_second, and_both}
use Rattle.mc_cmd.proofs.Runs.{Falls, Runs, falls_with}
use Rattle.mc_cmd.specs.steps.OpenText.{Chunk, still, named, Ints, chunks_text, ends, pattern_from, pattern_of, macro_text, chunks_fit, Open}
use Rattle.mc_cmd.specs.steps.MacroBody.{macro_fits, room, in_range, BodyLine, opened, closed, line_with, body_line, body_text, body_with, cmds_text, Fillable, LineReady, AllReady}
use Rattle.mc_cmd.proofs.OpenLemmas.{macro_said, macro_fills, command_said}

-- lengths
int_short : (z : ℤ) → is_int z ≡ true → length (signed_decimal z) ≤ 11
int_short z h = let lt = ltb-true _ _ h in length_signed_le 10 z (omega arith) (omega arith)

filled_short : (r : Ints) (ps : List Chunk) → in_range r ps ≡ true → length (chunks_text r ps) ≤ room ps
filled_short r [] h = omega arith
filled_short r (still l ∷ ps) h = let a = filled_short r ps h in let b = length-append l (chunks_text r ps) in omega arith
filled_short r (named n ∷ ps) h =
    let a = filled_short r ps (and_second (is_int (r n)) _ h) in
    let b = length-append (signed_decimal (r n)) (chunks_text r ps) in
    let c = int_short (r n) (and_first _ _ h) in
    omega arith

key_short : (n : Text) → is_key n ≡ true → length n ≤ 32
unfolding is_key
key_short n h = leb-true _ _ (and_second (nat_le 1 (length n)) _ (and_second (list_all Rattle.mc_nbt.specs.Word.is_name_byte n) _ h))

ends_length : (l : Text) (qs : List PatternPart) → length (parts_text (ends l qs)) ≡ length l + length (parts_text qs)
ends_length [] qs = omega arith
ends_length (b ∷ l) qs = length-append (b ∷ l) (parts_text qs)

pattern_short : (ps : List Chunk) (l : Text) → chunks_fit ps ≡ true → suc (length (parts_text (pattern_from l ps))) ≤ length l + room ps
pattern_short [] l h = let a = ends_length l [] in omega arith
pattern_short (still m ∷ ps) l h =
    let a = pattern_short ps (l ++ m) (and_second (list_all is_literal_byte m) _ h) in
    let b = length-append l m in
    omega arith
pattern_short (named n ∷ ps) l h =
    let a = pattern_short ps [] (and_second (is_key n) _ h) in
    let b = ends_length l (hole n ∷ pattern_from [] ps) in
    let c = length-append n (41 ∷ parts_text (pattern_from [] ps)) in
    let d = key_short n (and_first _ _ h) in
    omega arith

-- a macro line is a pattern
pub open_said : (ps : List Chunk) → macro_fits ps ≡ true → nat_le (room ps) most ≡ true → line_said (macro_text ps) ≡ Some (pattern (pattern_of ps))
open_said [] f s = absurd cc
open_said (named n ∷ ps) f s = absurd cc
open_said (still [] ∷ ps) f s = absurd cc
open_said (still (b ∷ w) ∷ ps) f s =
    let g = and_second (has_word (b ∷ w)) _ f in
    let h = and_second (list_all is_literal_byte (b ∷ w)) _ g in
    let fit : chunks_fit ps ≡ true = and_first _ _ h in
    let a = pattern_short ps (b ∷ w) fit in
    let n = leb-true _ _ s in
    macro_said b w ps (and_first _ _ f) (and_both _ _ (and_first _ _ g) fit) (and_second (chunks_fit ps) _ h)
    (le-leb _ most (omega arith))

pub value_said : (v : Tree) (r : Ints) (o : Open commands) → Fillable v r o → line_said (cmd_text (o.value r)) ≡ Some (command (o.value r))
value_said v r o f =
    let a = filled_short r o.chunks f.ints in
    let b = ap length (o.spelled r) in
    let n = leb-true _ _ f.short in
    command_said (o.value r) f.command (le-leb _ most (omega arith))

-- one line filled
filled_line : (v : Tree) (r : Ints) (l : BodyLine) → LineReady v r l → fill_line v (body_line l) (line_of (body_line l)) ≡ Some (cmd_text (line_with r l))
filled_line v r (opened o) f =
    ap (λ q. fill_line v (macro_text o.chunks) (unwrap_or q nothing)) (open_said o.chunks f.fits f.short)
    ∙ ap filled_text (macro_fills o v r f.gives)
    ∙ ap (said_text (cmd_text (o.value r))) (value_said v r o f)
filled_line v r (closed c) f = ap (λ q. fill_line v (cmd_text c) (unwrap_or q nothing)) (command_said c f.0 f.1)

pub filled_lines : (v : Tree) (r : Ints) (ls : List BodyLine) → AllReady v r ls → fill_lines v (body_text ls) ≡ Some (cmds_text (body_with r ls))
filled_lines v r [] a = refl
filled_lines v r (l ∷ ls) a =
    ap (λ o. with_line o (fill_lines v (body_text ls))) (filled_line v r l a.0)
    ∙ ap (with_line (Some (cmd_text (line_with r l)))) (filled_lines v r ls a.1)

-- the call of a function with macro lines runs the commands with the ints of the compound
pub falls_macro : (functions : Functions) (t : Text) (f i : Text) (qs : List Part) (ls : List BodyLine) (fs : Fields) (r : Ints) (w w' : World) (k : ℕ)
    → line_said t ≡ Some (command (plain (call_with f i qs)))
    → functions f ≡ Some (body_text ls)
    → select (tree_in w i) qs ≡ Some (compound fs)
    → AllReady (compound fs) r ls
    → Runs functions (cmds_text (body_with r ls)) w k w'
    → Falls functions (t ∷ []) w (1 + k) w'
falls_macro functions t f i qs ls fs r w w' k s h g a b =
    falls_with functions t f i qs (body_text ls) (cmds_text (body_with r ls)) fs w w' k s h g (filled_lines (compound fs) r ls a) b
