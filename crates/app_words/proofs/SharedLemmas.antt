-- The lines of scripts over several programs are read as they are spelled, and what is read is spelled so.
use Rattle.std.proofs.Common.{◌≡◌, ◌∙◌, ℕ, ◌+◌, ◌<◌, List, [], ◌∷◌, ◌++◌, length, map, drop, drop-cons, get_or, add-one, true, false, Option, Some, None, refl, sym, ap, arith}
use Rattle.std.specs.Prelude.{codes, option_map}
use Rattle.std.specs.List.{list_all}
use Rattle.std.specs.Str.{IsUtf8}
use Rattle.std.proofs.lemmas.Bool.Decides.{nat_tests}
use Rattle.std.proofs.lemmas.Str.{IsUtf8-from_ascii}
use Rattle.mc_cmd.specs.Form.{Text, word, lacks}
use Rattle.mc_cmd.specs.Word.{is_small_byte, is_namespace}
use Rattle.mc_cmd.proofs.FormLemmas.{IsLast, word_is, after_is, follow_is, spaced_is, Told, told_some, told_or, or_some, and_first}
use Rattle.mc_cmd.proofs.TextLemmas.{all_low, low_ascii, is_low as is_ascii}
use Rattle.mc_cmd.proofs.WordLemmas.{all_lack}
use Rattle.app_words.specs.Act.{Act, LineOf}
use Rattle.app_words.specs.Act as act
use Rattle.app_words.specs.Script.{IsReadAsSpelled, budget, act_text, call_form, tick_form, ticks_form, reload_form, other_form, show_form, globals_form, memory_form, dump_form, call_of, ticks_of, memory_of, turn_read, is_low, does_nothing, ScriptRead, lines_read, texts_of, lines}
use Rattle.app_words.specs.SharedScript.{SharedAct, for_all, within, least_of, all_fits, all_form, own_fits, own_read, own_form, in_form, within_of, shared_text, shared_fits, shared_read, shared_acts, shared_script_read}
use Rattle.app_words.specs.View.{shared_act_view, shared_line_view}
use Rattle.app_words.specs.declared.act.SharedAct as code
use Rattle.app_words.specs.declared.act.SharedLine as read
use Rattle.app_words.proofs.NumberLemmas.{fixed_is}
use Rattle.app_words.proofs.ScriptLemmas.{call_is, tick_is, ticks_is, reload_is, other_is, memory_is, lines_before, lines_fit, read_does}

-- a namespace is ASCII, and has no space
small_ascii : (b : ℕ) → is_small_byte b ≡ true → is_ascii b ≡ true
small_ascii b h = grind (arith, nat_tests)

pub namespace_utf8 : (w : Text) → is_namespace w ≡ true → IsUtf8 w
unfolding is_namespace
namespace_utf8 w h = IsUtf8-from_ascii w (low_ascii w (all_low is_small_byte small_ascii w (and_first _ _ h)))

namespace_bare : (w : Text) → is_namespace w ≡ true → lacks 32 w ≡ true
unfolding is_namespace
namespace_bare w h = all_lack is_small_byte 32 refl w (and_first _ _ h)

-- acts of one program: calls, and what prints
own_told : (t : Text) → Told act_text own_fits t (own_read t)
own_told t =
    told_or act_text own_fits call_form call_is call_of t _ (λ x. refl) (λ x. refl)
    (told_or act_text own_fits show_form (fixed_is (codes "show")) (λ u. act.show) t _ (λ x. refl) (λ x. refl)
    (told_or act_text own_fits globals_form (fixed_is (codes "globals")) (λ u. act.globals) t _ (λ x. refl) (λ x. refl)
    (told_or act_text own_fits memory_form memory_is memory_of t _ (λ x. refl) (λ x. refl)
    (told_or act_text own_fits dump_form (fixed_is (codes "dump")) (λ u. act.dump) t None (λ x. refl) (λ x. refl) tt))))

own_reads : (a : Act) → own_fits a ≡ true → own_read (act_text a) ≡ Some a
own_reads (act.call name args) f = or_some _ call_of (name, args) _ (call_is.reads (name, args) f)
own_reads (act.tick b) f = absurd cc
own_reads (act.ticks n b) f = absurd cc
own_reads (act.reload b) f = absurd cc
own_reads (act.other c) f = absurd cc
own_reads act.show f = refl
own_reads act.globals f = refl
own_reads (act.memory at len) f = or_some _ memory_of (at, len) _ (memory_is.reads (at, len) f)
own_reads act.dump f = refl
own_reads act.inspect f = absurd cc

own_is : IsLast own_form
own_is = record { reads = own_reads; spells = λ t a h. told_some act_text own_fits t a _ h (own_told t) }

in_is : IsLast in_form
in_is = after_is (codes "in ") _ (follow_is _ own_form (spaced_is (word is_namespace) (word_is is_namespace) namespace_bare) own_is)

-- acts for all
all_told : (n : ℕ) (t : Text) → Told act_text (all_fits n) t (turn_read (least_of n) t)
all_told n t =
    told_or act_text (all_fits n) (tick_form (budget (least_of n))) (tick_is (least_of n)) (λ b. act.tick b) t _ (λ x. refl) (λ x. refl)
    (told_or act_text (all_fits n) (ticks_form (budget (least_of n))) (ticks_is (least_of n)) ticks_of t _ (λ x. refl) (λ x. refl)
    (told_or act_text (all_fits n) (reload_form (budget (least_of n))) (reload_is (least_of n)) (λ b. act.reload b) t _ (λ x. refl) (λ x. refl)
    (told_or act_text (all_fits n) other_form other_is (λ c. act.other c) t None (λ x. refl) (λ x. refl) tt)))

all_reads : (n : ℕ) (a : Act) → all_fits n a ≡ true → turn_read (least_of n) (act_text a) ≡ Some a
all_reads n (act.call name args) f = absurd cc
all_reads n (act.tick b) f = or_some _ (λ b. act.tick b) b _ ((tick_is (least_of n)).reads b f)
all_reads n (act.ticks k b) f = or_some _ ticks_of (k, b) _ ((ticks_is (least_of n)).reads (k, b) f)
all_reads n (act.reload b) f = or_some _ (λ b. act.reload b) b _ ((reload_is (least_of n)).reads b f)
all_reads n (act.other c) f = or_some _ (λ c. act.other c) c _ (other_is.reads c f)
all_reads n act.show f = absurd cc
all_reads n act.globals f = absurd cc
all_reads n (act.memory at len) f = absurd cc
all_reads n act.dump f = absurd cc
all_reads n act.inspect f = absurd cc

all_is : (n : ℕ) → IsLast (all_form n)
all_is n = record { reads = all_reads n; spells = λ t a h. told_some act_text (all_fits n) t a _ h (all_told n t) }

-- the acts of a script over several programs
shared_told : (n : ℕ) (t : Text) → Told shared_text (shared_fits n) t (shared_read n t)
shared_told n t =
    told_or shared_text (shared_fits n) (all_form n) (all_is n) (λ a. for_all a) t _ (λ x. refl) (λ x. refl)
    (told_or shared_text (shared_fits n) in_form in_is within_of t None (λ x. refl) (λ x. refl) tt)

shared_reads : (n : ℕ) (a : SharedAct) → shared_fits n a ≡ true → shared_read n (shared_text a) ≡ Some a
shared_reads n (for_all a) f = or_some _ (λ a. for_all a) a _ ((all_is n).reads a f)
shared_reads n (within ns a) f = or_some _ within_of (ns, a) _ (in_is.reads (ns, a) f)

pub shared_are_spelled : (n : ℕ) → IsReadAsSpelled (shared_acts n)
shared_are_spelled n = record { reads = shared_reads n; spells = λ t a h. told_some shared_text (shared_fits n) t a _ h (shared_told n t) }

-- the acts of a script over several programs fit
pub shared_script_fits : (n : ℕ) (t : Text) (ls : List (LineOf SharedAct)) → shared_script_read n t ≡ lines ls → list_all (λ l. shared_fits n l.act) ls ≡ true
shared_script_fits n t ls h = lines_fit (shared_read n) (is_low (least_of n)) (shared_fits n) (λ t a e. ((shared_are_spelled n).spells t a e).1) 1 (texts_of t) ls h

-- one more line of a script
map_push : (xs : List read.SharedLine) (x : read.SharedLine) → map shared_line_view (xs ++ x ∷ []) ≡ map shared_line_view xs ++ shared_line_view x ∷ []
map_push [] x = refl
map_push (y ∷ xs) x = ap (λ ls. shared_line_view y ∷ ls) (map_push xs x)

pub from_here : {X : Type 0} (xs : List X) (i : ℕ) (d : X) → i < length xs → drop i xs ≡ get_or xs i d ∷ drop (i + 1) xs
from_here xs i d lt = rw add-one (drop-cons xs i d lt)

pub pushed : (n : ℕ) (new items : List read.SharedLine) (i : ℕ) (b : code.SharedAct) (t : Text) (left rest : List Text) (o : Option code.SharedAct) (r : ScriptRead SharedAct)
    → new ≡ items ++ record { line = i + 1; act = b } ∷ [] → does_nothing t ≡ false → option_map shared_act_view o ≡ shared_read n t → o ≡ Some b
    → lines_before (map shared_line_view items) (lines_read (shared_read n) (is_low (least_of n)) (i + 1) left) ≡ r → left ≡ t ∷ rest
    → lines_before (map shared_line_view new) (lines_read (shared_read n) (is_low (least_of n)) (i + 1 + 1) rest) ≡ r
pushed n new items i b t left rest o r push silent told is so_far at =
    ap (λ ls. lines_before ls (lines_read (shared_read n) (is_low (least_of n)) (i + 1 + 1) rest)) (ap (map shared_line_view) push ∙ map_push items (record { line = i + 1; act = b }))
    ∙ sym (read_does (shared_read n) (is_low (least_of n)) (map shared_line_view items) (i + 1) t rest (shared_act_view b) silent (sym told ∙ ap (option_map shared_act_view) is))
    ∙ ap (λ ts. lines_before (map shared_line_view items) (lines_read (shared_read n) (is_low (least_of n)) (i + 1) ts)) (sym at) ∙ so_far
