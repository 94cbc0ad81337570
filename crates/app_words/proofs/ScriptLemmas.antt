-- The lines of scripts are read as they are spelled, and what is read is spelled so.
use Rattle.std.proofs.Common.{◌≡◌, ℕ, ◌+◌, ◌<◌, List, [], ◌∷◌, ◌++◌, length, map, Bool, true, false, Option, Some, None, refl, sym, ap, ◌∙◌, cond, ℤ, append_assoc}
use Rattle.std.specs.Prelude.{codes, nat_eq, nat_le, ◌&&◌, if◌then◌else◌, option_and_then, option_map}
use Rattle.std.specs.Option.{option_or}
use Rattle.std.specs.List.{list_all, slice_split, onto_first, join_with_byte}
use Rattle.std.specs.Fmt.{signed_decimal}
use Rattle.std.specs.Str.{IsUtf8, is_utf8}
use Rattle.std.proofs.lemmas.Bool.{lt-leb}
use Rattle.std.proofs.lemmas.List.Splits.{join_with_byte-slice_split}
use Rattle.std.proofs.lemmas.Str.{is_utf8-from_IsUtf8, IsUtf8-from_is_utf8}
use Rattle.mc_cmd.specs.declared.TheConstants.{BMIN}
use Rattle.mc_cmd.specs.Form.{Text, lacks}
use Rattle.mc_cmd.specs.Command.{Cmd, Line, nothing, command, pattern}
use Rattle.mc_cmd.specs.Foreign.{is_foreign}
use Rattle.mc_cmd.specs.Grammar.{Says, says_nothing, says_comment, says_command, says_pattern, cmd_text, cmd_fits, line_said, said_in, most}
use Rattle.mc_cmd.proofs.FormLemmas.{IsLast, word_is, after_is, follow_is, Told, told_some, told_or, or_some, and_first, and_second, and_both, and_then_some, map_some}
use Rattle.mc_cmd.proofs.GrammarLemmas.{reads_said, said_read}
use Rattle.mc_cmd.proofs.WordLemmas.{all_lack}
use Rattle.app_words.specs.Act.{Act, LineOf}
use Rattle.app_words.specs.Act as act
use Rattle.app_words.specs.Script.{IsReadAsSpelled, only, is_argument, argument, digits, budget, is_budget, byte_count, is_byte_count, is_visible, is_export_name, export_name, argument_before, arguments_read, called_words, called, foreign_said, foreign, call_form, tick_form, ticks_form, reload_form, other_form, show_form, globals_form, memory_form, dump_form, call_of, ticks_of, memory_of, act_text, act_fits, turn_read, event_read, print_read, act_read, acts, is_low, does_nothing, ScriptRead, lines, bad, line_before, act_before, lines_read, texts_of, script_read}
use Rattle.app_words.proofs.NumberLemmas.{limited_is, fixed_is, digits_is, argument_is, argument_bare, count_front, address_front}

-- names
pub name-utf8 : (w : Text) → IsUtf8 w → is_export_name w ≡ is_visible w
unfolding is_export_name
name-utf8 w h = ap (λ b. b && is_visible w) (is_utf8-from_IsUtf8 w h)

pub name-no_utf8 : (w : Text) → (IsUtf8 w → ⊥) → is_export_name w ≡ false
unfolding is_export_name
name-no_utf8 w h = go (is_utf8 w) refl
  where
    go : (b : Bool) → is_utf8 w ≡ b → b && is_visible w ≡ false
    go true e = absurd (h (IsUtf8-from_is_utf8 w e))
    go false e = refl

name_bare : (w : Text) → is_export_name w ≡ true → lacks 32 w ≡ true
unfolding is_export_name
name_bare w h = all_lack (λ b. nat_le 33 b) 32 refl w (and_second (nat_le 1 (length w)) _ (and_second (is_utf8 w) _ h))

-- words that have no space, and one space between each two, are divided at the spaces
divided : (w rest : Text) → lacks 32 w ≡ true → slice_split (λ b. nat_eq b 32) (w ++ (32 ∷ rest)) ≡ w ∷ slice_split (λ b. nat_eq b 32) rest
divided [] rest h = refl
divided (b ∷ w) rest h = go (nat_eq b 32) h (divided w rest)
  where
    go : (c : Bool) → (if c then false else lacks 32 w) ≡ true → (lacks 32 w ≡ true → slice_split (λ b. nat_eq b 32) (w ++ (32 ∷ rest)) ≡ w ∷ slice_split (λ b. nat_eq b 32) rest)
        → cond c ([] ∷ slice_split (λ b. nat_eq b 32) (w ++ (32 ∷ rest))) (onto_first b (slice_split (λ b. nat_eq b 32) (w ++ (32 ∷ rest)))) ≡ (b ∷ w) ∷ slice_split (λ b. nat_eq b 32) rest
    go true h ih = absurd cc
    go false h ih = ap (onto_first b) (ih h)

undivided : (w : Text) → lacks 32 w ≡ true → slice_split (λ b. nat_eq b 32) w ≡ w ∷ []
undivided [] h = refl
undivided (b ∷ w) h = go (nat_eq b 32) h (undivided w)
  where
    go : (c : Bool) → (if c then false else lacks 32 w) ≡ true → (lacks 32 w ≡ true → slice_split (λ b. nat_eq b 32) w ≡ w ∷ [])
        → cond c ([] ∷ slice_split (λ b. nat_eq b 32) w) (onto_first b (slice_split (λ b. nat_eq b 32) w)) ≡ (b ∷ w) ∷ []
    go true h ih = absurd cc
    go false h ih = ap (onto_first b) (ih h)

words_divided : (w : Text) (ws : List Text) → lacks 32 w ≡ true → list_all (lacks 32) ws ≡ true → slice_split (λ b. nat_eq b 32) (join_with_byte 32 (w ∷ ws)) ≡ w ∷ ws
words_divided w [] h g = undivided w h
words_divided w (v ∷ ws) h g = divided w (join_with_byte 32 (v ∷ ws)) h ∙ ap (λ r. w ∷ r) (words_divided v ws (and_first _ _ g) (and_second (lacks 32 v) _ g))

-- arguments
arguments_bare : (zs : List ℤ) → list_all is_argument zs ≡ true → list_all (lacks 32) (map signed_decimal zs) ≡ true
arguments_bare [] h = refl
arguments_bare (z ∷ zs) h = and_both _ _ (argument_bare z (and_first _ _ h)) (arguments_bare zs (and_second (is_argument z) _ h))

arguments_reads : (zs : List ℤ) → list_all is_argument zs ≡ true → arguments_read (map signed_decimal zs) ≡ Some zs
arguments_reads [] h = refl
arguments_reads (z ∷ zs) h =
    ap (λ o. argument_before o (arguments_read (map signed_decimal zs))) (argument_is.reads z (and_first _ _ h))
    ∙ ap (argument_before (Some z)) (arguments_reads zs (and_second (is_argument z) _ h))

-- the arguments of words are those of the first one and those of the others
both_arguments : (o : Option ℤ) (p : Option (List ℤ)) (zs : List ℤ) → argument_before o p ≡ Some zs → (x : ℤ) × (xs : List ℤ) × (o ≡ Some x) × (p ≡ Some xs) × (x ∷ xs ≡ zs)
both_arguments (Some x) (Some xs) zs h = (x, xs, refl, refl, cc)
both_arguments (Some x) None zs h = absurd cc
both_arguments None p zs h = absurd cc

arguments_spell : (ws : List Text) (zs : List ℤ) → arguments_read ws ≡ Some zs → (ws ≡ map signed_decimal zs) × (list_all is_argument zs ≡ true)
arguments_spell [] zs h = let e : [] ≡ zs = cc in (ap (map signed_decimal) e, ap (list_all is_argument) (sym e))
arguments_spell (w ∷ ws) zs h =
    let q = both_arguments (argument.read w) (arguments_read ws) zs h in
    let s = argument_is.spells w q.0 q.2 in
    let r = arguments_spell ws q.1 q.3 in
    (ap (λ a. a ∷ ws) s.0 ∙ ap (λ r. signed_decimal q.0 ∷ r) r.0 ∙ ap (map signed_decimal) q.4, ap (list_all is_argument) (sym q.4) ∙ and_both _ _ s.1 r.1)

called_reads : (p : Text × List ℤ) → called.fits p ≡ true → called.read (called.text p) ≡ Some p
called_reads p h =
    let name = and_first _ _ h in
    let args = and_second (is_export_name p.0) _ h in
    ap called_words (words_divided p.0 (map signed_decimal p.1) (name_bare p.0 name) (arguments_bare p.1 args))
    ∙ ap (option_and_then (λ n. option_map (λ zs. (n, zs)) (arguments_read (map signed_decimal p.1)))) ((word_is is_export_name).reads p.0 name)
    ∙ ap (option_map (λ zs. (p.0, zs))) (arguments_reads p.1 args)

called_spells : (t : Text) (p : Text × List ℤ) → called.read t ≡ Some p → (t ≡ called.text p) × (called.fits p ≡ true)
called_spells t p h = go (slice_split (λ b. nat_eq b 32) t) refl h
  where
    go : (ws : List Text) → slice_split (λ b. nat_eq b 32) t ≡ ws → called_words ws ≡ Some p → (t ≡ called.text p) × (called.fits p ≡ true)
    go [] e h = absurd cc
    go (w ∷ ws) e h =
        let q = and_then_some (λ n. option_map (λ zs. (n, zs)) (arguments_read ws)) (export_name.read w) p h in
        let r = map_some (λ zs. (q.0, zs)) (arguments_read ws) p q.2 in
        let s = (word_is is_export_name).spells w q.0 q.1 in
        let u = arguments_spell ws r.0 r.1 in
        let words : w ∷ ws ≡ q.0 ∷ map signed_decimal r.0 = ap (λ v. v ∷ ws) s.0 ∙ ap (λ vs. q.0 ∷ vs) u.0 in
        (sym (join_with_byte-slice_split 32 t) ∙ ap (join_with_byte 32) (e ∙ words) ∙ ap called.text r.2, ap called.fits (sym r.2) ∙ and_both _ _ s.1 u.1)

called_is : IsLast called
called_is = record { reads = called_reads; spells = called_spells }

-- commands of somebody else
only_some : {A : Type 0} (p : A → Bool) (a b : A) → only p a ≡ Some b → (a ≡ b) × (p b ≡ true)
only_some p a b h = go (p a) refl h
  where
    go : (c : Bool) → p a ≡ c → (if c then Some a else None) ≡ Some b → (a ≡ b) × (p b ≡ true)
    go true e h = let same : a ≡ b = cc in (same, ap p (sym same) ∙ e)
    go false e h = absurd cc

foreign_reads : (c : Cmd) → foreign.fits c ≡ true → foreign.read (foreign.text c) ≡ Some c
foreign_reads c h =
    let fits = and_second (is_foreign c) _ h in
    ap foreign_said (reads_said (cmd_text c) (command c) (says_command (cmd_text c) c refl (and_first _ _ fits) (and_second (cmd_fits c) _ fits)))
    ∙ ap (λ b. if b then Some c else None) (and_first _ _ h)

-- a text that is too long for a line says none
pub said_too_long : (t : Text) → most < length t → line_said t ≡ None
unfolding line_said
said_too_long t h = ap (λ b. if b then said_in t else None) (lt-leb (length t) most h)

-- what says a command is its text
command_said : (t : Text) (d : Cmd) (l : Line) → Says t l → l ≡ command d → (t ≡ cmd_text d) × (cmd_fits d && nat_le (length (cmd_text d)) most ≡ true)
command_said t d l says_nothing e = absurd cc
command_said t d l (says_comment u g n) e = absurd cc
command_said t d l (says_command u k same g n) e =
    let x : k ≡ d = cc in
    let text : u ≡ cmd_text d = same ∙ ap cmd_text x in
    (text, and_both _ _ (ap cmd_fits (sym x) ∙ g) (ap (λ v. nat_le (length v) most) (sym text) ∙ n))
command_said t d l (says_pattern u ps same g n) e = absurd cc

foreign_spells : (t : Text) (c : Cmd) → foreign.read t ≡ Some c → (t ≡ foreign.text c) × (foreign.fits c ≡ true)
foreign_spells t c h = go (line_said t) refl h
  where
    go : (o : Option Line) → line_said t ≡ o → foreign_said o ≡ Some c → (t ≡ foreign.text c) × (foreign.fits c ≡ true)
    go None e h = absurd cc
    go (Some nothing) e h = absurd cc
    go (Some (pattern ps)) e h = absurd cc
    go (Some (command d)) e h =
        let q = only_some is_foreign d c h in
        let s = command_said t c (command d) (said_read t (command d) e) (ap command q.0) in
        (s.0, and_both _ _ q.1 s.1)

foreign_is : IsLast foreign
foreign_is = record { reads = foreign_reads; spells = foreign_spells }

-- one law a form
pub call_is : IsLast call_form
call_is = after_is (codes "call ") called called_is

budget_is : (least : ℕ) → IsLast (budget least)
budget_is least = limited_is digits (is_budget least) digits_is

pub tick_is : (least : ℕ) → IsLast (tick_form (budget least))
tick_is least = after_is (codes "tick ") (budget least) (budget_is least)

pub ticks_is : (least : ℕ) → IsLast (ticks_form (budget least))
ticks_is least = after_is (codes "ticks ") _ (follow_is _ (budget least) count_front (budget_is least))

pub reload_is : (least : ℕ) → IsLast (reload_form (budget least))
reload_is least = after_is (codes "reload ") (budget least) (budget_is least)

pub other_is : IsLast other_form
other_is = after_is (codes "other ") foreign foreign_is

pub memory_is : IsLast memory_form
memory_is = after_is (codes "memory ") _ (follow_is _ byte_count address_front (limited_is digits is_byte_count digits_is))

-- what is read of a text fits, and has that text
turn_told : (least : ℕ) (t : Text) → Told act_text (act_fits least) t (turn_read least t)
turn_told least t =
    told_or act_text (act_fits least) (tick_form (budget least)) (tick_is least) (λ b. act.tick b) t _ (λ x. refl) (λ x. refl)
    (told_or act_text (act_fits least) (ticks_form (budget least)) (ticks_is least) ticks_of t _ (λ x. refl) (λ x. refl)
    (told_or act_text (act_fits least) (reload_form (budget least)) (reload_is least) (λ b. act.reload b) t _ (λ x. refl) (λ x. refl)
    (told_or act_text (act_fits least) other_form other_is (λ c. act.other c) t None (λ x. refl) (λ x. refl) tt)))

event_told : (least : ℕ) (t : Text) → Told act_text (act_fits least) t (event_read least t)
event_told least t = told_or act_text (act_fits least) call_form call_is call_of t _ (λ x. refl) (λ x. refl) (turn_told least t)

print_told : (least : ℕ) (t : Text) → Told act_text (act_fits least) t (print_read t)
print_told least t =
    told_or act_text (act_fits least) show_form (fixed_is (codes "show")) (λ u. act.show) t _ (λ x. refl) (λ x. refl)
    (told_or act_text (act_fits least) globals_form (fixed_is (codes "globals")) (λ u. act.globals) t _ (λ x. refl) (λ x. refl)
    (told_or act_text (act_fits least) memory_form memory_is memory_of t _ (λ x. refl) (λ x. refl)
    (told_or act_text (act_fits least) dump_form (fixed_is (codes "dump")) (λ u. act.dump) t None (λ x. refl) (λ x. refl) tt)))

pub act_told : (least : ℕ) (t : Text) → Told act_text (act_fits least) t (act_read least t)
act_told least t = go (event_read least t) (event_told least t)
  where
    go : (o : Option Act) → Told act_text (act_fits least) t o → Told act_text (act_fits least) t (option_or o (print_read t))
    go None h = print_told least t
    go (Some a) h = h

event_reads : (least : ℕ) (t : Text) (a : Act) → event_read least t ≡ Some a → act_read least t ≡ Some a
event_reads least t a h = ap (λ o. option_or o (print_read t)) h

pub act_reads : (least : ℕ) (a : Act) → act_fits least a ≡ true → act_read least (act_text a) ≡ Some a
act_reads least (act.call name args) f = event_reads least (act_text (act.call name args)) (act.call name args) (or_some _ call_of (name, args) _ (call_is.reads (name, args) f))
act_reads least (act.tick b) f = event_reads least (act_text (act.tick b)) (act.tick b) (or_some _ (λ b. act.tick b) b _ ((tick_is least).reads b f))
act_reads least (act.ticks n b) f = event_reads least (act_text (act.ticks n b)) (act.ticks n b) (or_some _ ticks_of (n, b) _ ((ticks_is least).reads (n, b) f))
act_reads least (act.reload b) f = event_reads least (act_text (act.reload b)) (act.reload b) (or_some _ (λ b. act.reload b) b _ ((reload_is least).reads b f))
act_reads least (act.other c) f = event_reads least (act_text (act.other c)) (act.other c) (or_some _ (λ c. act.other c) c _ (other_is.reads c f))
act_reads least act.show f = refl
act_reads least act.globals f = refl
act_reads least (act.memory at len) f = or_some _ memory_of (at, len) _ (memory_is.reads (at, len) f)
act_reads least act.dump f = refl
act_reads least act.inspect f = absurd cc

-- what is read of a line is spelled so and fits, and what is spelled is read
pub acts_are_spelled : (least : ℕ) → IsReadAsSpelled (acts least)
acts_are_spelled least = record { reads = act_reads least; spells = λ t a h. told_some act_text (act_fits least) t a _ h (act_told least t) }

-- lines that were read, and then what follows
abbrev pub lines_before : {A : Type 0} → List (LineOf A) → ScriptRead A → ScriptRead A
lines_before ls (lines ms) = lines (ls ++ ms)
lines_before ls (bad n low) = bad n low

before_step : {A : Type 0} (ls : List (LineOf A)) (l : LineOf A) (r : ScriptRead A) → lines_before ls (line_before l r) ≡ lines_before (ls ++ l ∷ []) r
before_step ls l (lines ms) = ap lines (sym (append_assoc ls (l ∷ []) ms))
before_step ls l (bad n low) = refl

module _ {A : Type 0} (read : Text → Option A) (low : Text → Bool) where
  -- a line that does nothing
  pub read_nothing : (ls : List (LineOf A)) (n : ℕ) (t : Text) (ts : List Text) → does_nothing t ≡ true → lines_before ls (lines_read read low n (t ∷ ts)) ≡ lines_before ls (lines_read read low (n + 1) ts)
  read_nothing ls n t ts e = ap (λ b. lines_before ls (if b then lines_read read low (n + 1) ts else act_before n (read t) (low t) (lines_read read low (n + 1) ts))) e

  -- a line that does something
  pub read_does : (ls : List (LineOf A)) (n : ℕ) (t : Text) (ts : List Text) (a : A) → does_nothing t ≡ false → read t ≡ Some a → lines_before ls (lines_read read low n (t ∷ ts)) ≡ lines_before (ls ++ record { line = n; act = a } ∷ []) (lines_read read low (n + 1) ts)
  read_does ls n t ts a e f =
      ap (λ b. lines_before ls (if b then lines_read read low (n + 1) ts else act_before n (read t) (low t) (lines_read read low (n + 1) ts))) e
      ∙ ap (λ o. lines_before ls (act_before n o (low t) (lines_read read low (n + 1) ts))) f
      ∙ before_step ls (record { line = n; act = a }) (lines_read read low (n + 1) ts)

  -- a line that is no script line
  pub read_bad : (ls : List (LineOf A)) (n : ℕ) (t : Text) (ts : List Text) (l : Bool) → does_nothing t ≡ false → read t ≡ None → low t ≡ l → lines_before ls (lines_read read low n (t ∷ ts)) ≡ bad n l
  read_bad ls n t ts l e f g =
      ap (λ b. lines_before ls (if b then lines_read read low (n + 1) ts else act_before n (read t) (low t) (lines_read read low (n + 1) ts))) e
      ∙ ap (λ o. lines_before ls (act_before n o (low t) (lines_read read low (n + 1) ts))) f
      ∙ ap (λ b. bad n b) g

  map_more : {X : Type 0} (view : X → LineOf A) (xs : List X) (x : X) → map view (xs ++ x ∷ []) ≡ map view xs ++ view x ∷ []
  map_more view [] x = refl
  map_more view (y ∷ xs) x = ap (λ ls. view y ∷ ls) (map_more view xs x)

  -- one more line, as it is kept
  pub read_more : {X : Type 0} (view : X → LineOf A) (new items : List X) (x : X) (n : ℕ) (a : A) (t : Text) (left rest : List Text) (r : ScriptRead A)
      → new ≡ items ++ x ∷ [] → view x ≡ record { line = n; act = a } → does_nothing t ≡ false → read t ≡ Some a
      → lines_before (map view items) (lines_read read low n left) ≡ r → left ≡ t ∷ rest → lines_before (map view new) (lines_read read low (n + 1) rest) ≡ r
  read_more view new items x n a t left rest r push is silent told so_far at =
      ap (λ ls. lines_before ls (lines_read read low (n + 1) rest)) (ap (map view) push ∙ map_more view items x ∙ ap (λ (l : LineOf A). map view items ++ l ∷ []) is)
      ∙ sym (read_does (map view items) n t rest a silent told)
      ∙ ap (λ ts. lines_before (map view items) (lines_read read low n ts)) (sym at) ∙ so_far

  -- the acts of the lines that a script says fit, where what is read fits
  pub lines_fit : (fits : A → Bool) → ((t : Text) (a : A) → read t ≡ Some a → fits a ≡ true) → (n : ℕ) (ts : List Text) (ls : List (LineOf A)) → lines_read read low n ts ≡ lines ls → list_all (λ l. fits l.act) ls ≡ true
  lines_fit fits told n [] ls h = let e : [] ≡ ls = cc in ap (list_all (λ l. fits l.act)) (sym e)
  lines_fit fits told n (t ∷ ts) ls h = go (λ ms. lines_fit fits told (n + 1) ts ms) (does_nothing t) h
    where
      behind : (a : A) (r : ScriptRead A) (ls : List (LineOf A)) → fits a ≡ true → ((ms : List (LineOf A)) → r ≡ lines ms → list_all (λ l. fits l.act) ms ≡ true) → line_before (record { line = n; act = a }) r ≡ lines ls → list_all (λ l. fits l.act) ls ≡ true
      behind a (lines ms) ls fit more e =
          let l : LineOf A = record { line = n; act = a } in
          let same : l ∷ ms ≡ ls = cc in
          ap (list_all (λ l. fits l.act)) (sym same) ∙ and_both _ _ fit (more ms refl)
      behind a (bad m low) ls fit more e = absurd cc

      does : ((ms : List (LineOf A)) → lines_read read low (n + 1) ts ≡ lines ms → list_all (λ l. fits l.act) ms ≡ true) → (o : Option A) → read t ≡ o → act_before n o (low t) (lines_read read low (n + 1) ts) ≡ lines ls → list_all (λ l. fits l.act) ls ≡ true
      does more None e h = absurd cc
      does more (Some a) e h = behind a (lines_read read low (n + 1) ts) ls (told t a e) more h

      go : ((ms : List (LineOf A)) → lines_read read low (n + 1) ts ≡ lines ms → list_all (λ l. fits l.act) ms ≡ true) → (b : Bool) → (if b then lines_read read low (n + 1) ts else act_before n (read t) (low t) (lines_read read low (n + 1) ts)) ≡ lines ls → list_all (λ l. fits l.act) ls ≡ true
      go more true h = more ls h
      go more false h = does more (read t) refl h

-- the acts of a script over one pack fit
pub script_fits : (t : Text) (ls : List (LineOf Act)) → script_read t ≡ lines ls → list_all (λ l. act_fits BMIN l.act) ls ≡ true
script_fits t ls h = lines_fit (act_read BMIN) (is_low BMIN) (act_fits BMIN) (λ t a e. ((acts_are_spelled BMIN).spells t a e).1) 1 (texts_of t) ls h
