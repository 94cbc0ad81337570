-- A macro line that is an open command is filled to the text of the command with the ints of the compound.
use Rattle.std.proofs.Common.{◌≡◌, ℕ, suc, List, [], ◌∷◌, ◌++◌, length, Bool, true, false, Some, refl, sym, ap, ◌∙◌, append_assoc, append-nil}
use Rattle.std.specs.Prelude.{not, nat_eq, nat_le, if◌then◌else◌, codes}
use Rattle.std.specs.List.{list_all}
use Rattle.std.specs.Fmt.{signed_decimal}
use Rattle.mc_nbt.specs.Word.{is_key}
use Rattle.mc_nbt.specs.Tree.{Tree, Part, key, place}
use Rattle.mc_cmd.specs.Form.{Text, Last, Front, lacks, word, spaced, after, ended, before, closed, both, follow}
use Rattle.mc_cmd.specs.Word.{number}
use Rattle.mc_cmd.specs.Value.{path, parts_text}
use Rattle.mc_cmd.specs.Command.{PatternPart, hole, Simple, Sub, Cmd, plain, execute, command, pattern}
use Rattle.mc_cmd.specs.Pattern.{is_literal_byte, is_literal, begins_with_hole, parts_fit, has_word, pattern_fits}
use Rattle.mc_cmd.specs.Fill.{Filled, filled, missing, behind, fill_hole, fill_from, fill}
use Rattle.mc_cmd.specs.Grammar.{simple, simple_text, sub, subs_text, commands, cmd_text, cmd_fits, most, line_said, says_command, says_pattern}
use Rattle.mc_cmd.proofs.FormLemmas.{and_first, and_second, and_both}
use Rattle.mc_cmd.proofs.GrammarLemmas.{reads_said}
use Rattle.mc_cmd.specs.steps.OpenText.{Chunk, still, named, Ints, chunks_text, ends, pattern_from, pattern_of, macro_text, Gives, chunks_fit, has_name, Open, OpenFront, OpenPart, step, place_of, path_with}

-- filling
behind_nothing : (x : Filled) → behind [] x ≡ x
behind_nothing (filled t) = refl
behind_nothing (missing k) = refl

fill_ends : (l : Text) (qs : List PatternPart) (k : ℕ) (v : Tree) → fill_from k (ends l qs) v ≡ behind l (fill_from k qs v)
fill_ends [] qs k v = sym (behind_nothing (fill_from k qs v))
fill_ends (b ∷ l) qs k v = refl

pub fill_chunks : (ps : List Chunk) (l : Text) (k : ℕ) (v : Tree) (r : Ints) → Gives v r ps → fill_from k (pattern_from l ps) v ≡ filled (l ++ chunks_text r ps)
fill_chunks [] l k v r g = fill_ends l [] k v
fill_chunks (still m ∷ ps) l k v r g = fill_chunks ps (l ++ m) k v r g ∙ ap filled (append_assoc l m (chunks_text r ps))
fill_chunks (named n ∷ ps) l k v r g =
    fill_ends l (hole n ∷ pattern_from [] ps) k v
    ∙ ap (λ o. behind l (fill_hole o k (fill_from (suc k) (pattern_from [] ps) v))) g.0
    ∙ ap (λ x. behind l (behind (signed_decimal (r n)) x)) (fill_chunks ps [] (suc k) v r g.1)

-- the pattern of an open text fits
literal_of : (b : ℕ) (l : Text) → list_all is_literal_byte (b ∷ l) ≡ true → is_literal (b ∷ l) ≡ true
literal_of b l h = h

ends_fit : (l : Text) (qs : List PatternPart) → list_all is_literal_byte l ≡ true → begins_with_hole qs ≡ true → parts_fit qs ≡ true → parts_fit (ends l qs) ≡ true
ends_fit [] qs h b f = f
ends_fit (c ∷ l) qs h b f = and_both _ _ h (and_both _ _ b f)

pub all_append : (p : ℕ → Bool) (l m : Text) → list_all p l ≡ true → list_all p m ≡ true → list_all p (l ++ m) ≡ true
all_append p [] m g h = h
all_append p (b ∷ l) m g h = and_both _ _ (and_first _ _ g) (all_append p l m (and_second (p b) _ g) h)

parts_fit_from : (ps : List Chunk) (l : Text) → list_all is_literal_byte l ≡ true → chunks_fit ps ≡ true → parts_fit (pattern_from l ps) ≡ true
parts_fit_from [] l h f = ends_fit l [] h refl refl
parts_fit_from (still m ∷ ps) l h f = parts_fit_from ps (l ++ m) (all_append is_literal_byte l m h (and_first _ _ f)) (and_second (list_all is_literal_byte m) _ f)
parts_fit_from (named n ∷ ps) l h f = ends_fit l (hole n ∷ pattern_from [] ps) h refl (and_both _ _ (and_first _ _ f) (parts_fit_from ps [] refl (and_second (is_key n) _ f)))

lacks_less : (c : ℕ) (l m : Text) → lacks c l ≡ false → lacks c (l ++ m) ≡ false
lacks_less c [] m h = absurd cc
lacks_less c (b ∷ l) m h = go (nat_eq b c) h (lacks_less c l m)
  where
    go : (d : Bool) → (if d then false else lacks c l) ≡ false → (lacks c l ≡ false → lacks c (l ++ m) ≡ false) → (if d then false else lacks c (l ++ m)) ≡ false
    go true h ih = refl
    go false h ih = ih h

has_word-append : (l m : Text) → has_word l ≡ true → has_word (l ++ m) ≡ true
has_word-append [] m h = absurd cc
has_word-append (b ∷ l) m h = go (nat_eq b 32) (lacks 32 l) refl h
  where
    go : (d e : Bool) → lacks 32 l ≡ e → (if d then false else not e) ≡ true → (if d then false else not (lacks 32 (l ++ m))) ≡ true
    go true e f h = absurd cc
    go false true f h = absurd cc
    go false false f h = ap not (lacks_less 32 l m f)

named_fits : (l : Text) (n : Text) (qs : List PatternPart) → has_word l ≡ true → parts_fit (ends l (hole n ∷ qs)) ≡ true → pattern_fits (ends l (hole n ∷ qs)) ≡ true
named_fits [] n qs w f = absurd cc
named_fits (b ∷ l) n qs w f = and_both _ _ w f

pub pattern_fits_from : (ps : List Chunk) (l : Text) → has_word l ≡ true → list_all is_literal_byte l ≡ true → chunks_fit ps ≡ true → has_name ps ≡ true → pattern_fits (pattern_from l ps) ≡ true
pattern_fits_from [] l w h f n = absurd cc
pattern_fits_from (still m ∷ ps) l w h f n =
    pattern_fits_from ps (l ++ m) (has_word-append l m w) (all_append is_literal_byte l m h (and_first _ _ f)) (and_second (list_all is_literal_byte m) _ f) n
pattern_fits_from (named m ∷ ps) l w h f n = named_fits l m (pattern_from [] ps) w (parts_fit_from (named m ∷ ps) l h f)

-- open texts one after another
pub chunks-append : (r : Ints) (ps qs : List Chunk) → chunks_text r (ps ++ qs) ≡ chunks_text r ps ++ chunks_text r qs
chunks-append r [] qs = refl
chunks-append r (still l ∷ ps) qs = ap (λ t. l ++ t) (chunks-append r ps qs) ∙ sym (append_assoc l (chunks_text r ps) (chunks_text r qs))
chunks-append r (named n ∷ ps) qs = ap (λ t. signed_decimal (r n) ++ t) (chunks-append r ps qs) ∙ sym (append_assoc (signed_decimal (r n)) (chunks_text r ps) (chunks_text r qs))

-- a value as it stands, in any form
abbrev pub as_it_is : {A : Type 0} (l : Last A) → A → Open l
as_it_is l a = record { chunks = still (l.text a) ∷ []; value = λ r. a; spelled = λ r. append-nil (l.text a) }

-- a word with ints in it; an int
abbrev pub open_word : (p : Text → Bool) → List Chunk → Open (word p)
open_word p ps = record { chunks = ps; value = λ r. chunks_text r ps; spelled = λ r. refl }

abbrev pub open_number : Text → Open number
open_number n = record { chunks = named n ∷ []; value = λ r. r n; spelled = λ r. append-nil (signed_decimal (r n)) }

-- each way to put forms together
abbrev pub open_after : {A : Type 0} (w : Text) (l : Last A) → Open l → Open (after w l)
open_after w l o = record { chunks = still w ∷ o.chunks; value = o.value; spelled = λ r. ap (λ t. w ++ t) (o.spelled r) }

abbrev pub open_ended : {A : Type 0} (l : Last A) (w : Text) → Open l → Open (ended l w)
open_ended l w o = record {
  chunks = o.chunks ++ still w ∷ [];
  value = o.value;
  spelled = λ r. chunks-append r o.chunks (still w ∷ []) ∙ ap (λ t. chunks_text r o.chunks ++ t) (append-nil w) ∙ ap (λ t. t ++ w) (o.spelled r);
}

abbrev pub open_spaced : {A : Type 0} (l : Last A) → Open l → OpenFront (spaced l)
open_spaced l o = record {
  chunks = o.chunks ++ still (32 ∷ []) ∷ [];
  value = o.value;
  spelled = λ r t.
      ap (λ u. u ++ t) (chunks-append r o.chunks (still (32 ∷ []) ∷ []))
      ∙ append_assoc (chunks_text r o.chunks) (32 ∷ []) t
      ∙ ap (λ u. u ++ (32 ∷ t)) (o.spelled r);
}

abbrev pub open_before : {A : Type 0} (w : Text) (f : Front A) → OpenFront f → OpenFront (before w f)
open_before w f o = record {
  chunks = still w ∷ o.chunks;
  value = o.value;
  spelled = λ r t. append_assoc w (chunks_text r o.chunks) t ∙ ap (λ u. w ++ u) (o.spelled r t);
}

abbrev pub open_closed : {A : Type 0} (f : Front A) (w : Text) → OpenFront f → OpenFront (closed f w)
open_closed f w o = record {
  chunks = o.chunks ++ still w ∷ [];
  value = o.value;
  spelled = λ r t.
      ap (λ u. u ++ t) (chunks-append r o.chunks (still w ∷ []))
      ∙ append_assoc (chunks_text r o.chunks) (w ++ []) t
      ∙ ap (λ u. chunks_text r o.chunks ++ (u ++ t)) (append-nil w)
      ∙ o.spelled r (w ++ t);
}

abbrev pub open_both : {A B : Type 0} (f : Front A) (g : Front B) → OpenFront f → OpenFront g → OpenFront (both f g)
open_both f g o p = record {
  chunks = o.chunks ++ p.chunks;
  value = λ r. (o.value r, p.value r);
  spelled = λ r t.
      ap (λ u. u ++ t) (chunks-append r o.chunks p.chunks)
      ∙ append_assoc (chunks_text r o.chunks) (chunks_text r p.chunks) t
      ∙ o.spelled r (chunks_text r p.chunks ++ t)
      ∙ ap (f.text (o.value r)) (p.spelled r t);
}

abbrev pub open_follow : {A B : Type 0} (f : Front A) (l : Last B) → OpenFront f → Open l → Open (follow f l)
open_follow f l o p = record {
  chunks = o.chunks ++ p.chunks;
  value = λ r. (o.value r, p.value r);
  spelled = λ r. chunks-append r o.chunks p.chunks ∙ o.spelled r (chunks_text r p.chunks) ∙ ap (f.text (o.value r)) (p.spelled r);
}

-- paths
abbrev pub open_parts : List OpenPart → List Chunk
open_parts [] = []
open_parts (step p ∷ ps) = still (parts_text (p ∷ [])) ∷ open_parts ps
open_parts (place_of n ∷ ps) = still (91 ∷ []) ∷ named n ∷ still (93 ∷ []) ∷ open_parts ps

parts-append : (p : Part) (ps : List Part) → parts_text (p ∷ []) ++ parts_text ps ≡ parts_text (p ∷ ps)
parts-append (key k) ps = ap (λ t. 46 ∷ t) (append_assoc k [] (parts_text ps))
parts-append (place i) ps = ap (λ t. 91 ∷ t) (append_assoc (signed_decimal i) (93 ∷ []) (parts_text ps))

pub open_parts_spelled : (r : Ints) (ps : List OpenPart) → chunks_text r (open_parts ps) ≡ parts_text (path_with r ps)
open_parts_spelled r [] = refl
open_parts_spelled r (step p ∷ ps) = ap (λ t. parts_text (p ∷ []) ++ t) (open_parts_spelled r ps) ∙ parts-append p (path_with r ps)
open_parts_spelled r (place_of n ∷ ps) = ap (λ t. 91 ∷ (signed_decimal (r n) ++ (93 ∷ t))) (open_parts_spelled r ps)

-- a path begins with a key
abbrev pub open_path : Text → List OpenPart → Open path
open_path k ps = record {
  chunks = still k ∷ open_parts ps;
  value = λ r. key k ∷ path_with r ps;
  spelled = λ r. ap (λ t. k ++ t) (open_parts_spelled r ps);
}

-- commands: by their form; plain; behind `execute`
abbrev pub open_simple : {T : Type 0} (f : Last T) (mk : T → Simple) → ((x : T) → f.text x ≡ simple_text (mk x)) → Open f → Open simple
open_simple f mk same o = record { chunks = o.chunks; value = λ r. mk (o.value r); spelled = λ r. o.spelled r ∙ same (o.value r) }

abbrev pub open_sub : {T : Type 0} (f : Front T) (mk : T → Sub) → ((x : T) (t : Text) → f.text x t ≡ sub.text (mk x) t) → OpenFront f → OpenFront sub
open_sub f mk same o = record { chunks = o.chunks; value = λ r. mk (o.value r); spelled = λ r t. o.spelled r t ∙ same (o.value r) t }

abbrev pub open_plain : Open simple → Open commands
open_plain o = record { chunks = o.chunks; value = λ r. plain (o.value r); spelled = o.spelled }

abbrev pub subs_chunks : List (OpenFront sub) → List Chunk → List Chunk
subs_chunks [] qs = still (codes "run ") ∷ qs
subs_chunks (s ∷ ss) qs = s.chunks ++ subs_chunks ss qs

abbrev pub subs_with : Ints → List (OpenFront sub) → List Sub
subs_with r [] = []
subs_with r (s ∷ ss) = s.value r ∷ subs_with r ss

pub subs_spelled : (r : Ints) (ss : List (OpenFront sub)) (qs : List Chunk) → chunks_text r (subs_chunks ss qs) ≡ subs_text (subs_with r ss) (chunks_text r qs)
subs_spelled r [] qs = refl
subs_spelled r (s ∷ ss) qs =
    chunks-append r s.chunks (subs_chunks ss qs)
    ∙ ap (λ t. chunks_text r s.chunks ++ t) (subs_spelled r ss qs)
    ∙ s.spelled r (subs_text (subs_with r ss) (chunks_text r qs))

abbrev pub open_execute : List (OpenFront sub) → Open simple → Open commands
open_execute ss o = record {
  chunks = still (codes "execute ") ∷ subs_chunks ss o.chunks;
  value = λ r. execute (subs_with r ss) (o.value r);
  spelled = λ r. ap (λ t. codes "execute " ++ t) (subs_spelled r ss o.chunks ∙ ap (subs_text (subs_with r ss)) (o.spelled r));
}

-- THE LAW: the macro line of an open command is a line, and is filled to the text of the command with the ints
-- that the compound gives
pub macro_said : (b : ℕ) (w : Text) (ps : List Chunk) → has_word (b ∷ w) ≡ true → chunks_fit (still (b ∷ w) ∷ ps) ≡ true → has_name ps ≡ true → nat_le (length (macro_text (still (b ∷ w) ∷ ps))) most ≡ true → line_said (macro_text (still (b ∷ w) ∷ ps)) ≡ Some (pattern (pattern_of (still (b ∷ w) ∷ ps)))
macro_said b w ps h f n l =
    reads_said _ _ (says_pattern _ (pattern_of (still (b ∷ w) ∷ ps)) refl
    (pattern_fits_from ps (b ∷ w) h (and_first _ _ f) (and_second (list_all is_literal_byte (b ∷ w)) _ f) n) l)

pub macro_fills : (o : Open commands) (v : Tree) (r : Ints) → Gives v r o.chunks → fill (pattern_of o.chunks) v ≡ filled (cmd_text (o.value r))
macro_fills o v r g = fill_chunks o.chunks [] 0 v r g ∙ ap filled (o.spelled r)

pub command_said : (c : Cmd) → cmd_fits c ≡ true → nat_le (length (cmd_text c)) most ≡ true → line_said (cmd_text c) ≡ Some (command c)
command_said c f n = reads_said _ _ (says_command (cmd_text c) c refl f n)

pub chunks_filled : (ps : List Chunk) (v : Tree) (r : Ints) → Gives v r ps → fill (pattern_of ps) v ≡ filled (chunks_text r ps)
chunks_filled ps v r g = fill_chunks ps [] 0 v r g
