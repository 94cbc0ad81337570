-- The lines of items weigh what the items do at most, and run no function but their helpers.
use Rattle.std.proofs.Common.{◌≡◌, ◌∙◌, ap, refl, sym, subst, ℕ, suc, ◌+◌, ◌≤◌, List, [], ◌∷◌, ◌++◌, append_assoc, Bool, true, false, Option, Some, None, arith, ⊎_elim}
use Rattle.std.specs.Prelude.{ℤ, pos, codes, map, unwrap_or, if◌then◌else◌}
use Rattle.std.specs.Fmt.{signed_decimal}
use Rattle.std.specs.Str.{bytes_eq}
use Rattle.mc_nbt.specs.Tree.{compound, field, Fields, find, int, no_fields, of_fields, Tree}
use Rattle.mc_nbt.specs.Word.{is_int}
use Rattle.mc_nbt.proofs.TreeLemmas.{bytes_refl}
use Rattle.mc_cmd.specs.Form.{cut_at, Text}
use Rattle.mc_cmd.specs.Word.{is_function_name, is_namespace}
use Rattle.mc_cmd.specs.Command.{call, call_with, Cmd, command, execute, hole, Line, nothing, pattern, PatternPart, plain, Simple, Sub}
use Rattle.mc_cmd.specs.Grammar.{cmd_text, commands, line_said}
use Rattle.mc_cmd.specs.Fill.{behind, fill, fill_from, fill_hole, Filled, filled, missing, value_of}
use Rattle.mc_cmd.specs.steps.OpenText.{Chunk, chunks_text, ends, Gives, Ints, macro_text, named, Open, pattern_from, pattern_of, still}
use Rattle.mc_cmd.specs.steps.MacroBody.{AllReady, Fillable, LineReady}
use Rattle.mc_cmd.specs.Layout.{full_name}
use Rattle.mc_cmd.specs.Chain.{cmd_weight, Functions, line_of, line_weight, pattern_weight, Texts, word_weight}
use Rattle.mc_cmd.proofs.FormLemmas.{and_first, and_second}
use Rattle.mc_cmd.proofs.OpenLemmas.{fill_chunks}
use Rattle.mc_cmd.proofs.MacroLemmas.{open_said as open_is_said}
use Rattle.cc_line.specs.Place.{Home, home, in_list, in_score}
use Rattle.cc_line.specs.State.{Site}
use Rattle.cc_line.specs.Step.{Act, append_site, append_value_to, combine, copy_place, copy_site, decrease, erase_site, increase, keep_place, keep_site, load_place, load_site, make_list, open_place, place_to_site, restore_list, save_list, set_place, set_site, set_spot, site_to_place, act_said, copy_home, home_to_site, keep_home, load_home, run_act, Said, said_command, set_home, site_to_home, Step, step_command, step_text, step_weight, steps_weight, stop_when, under_subs, when}
use Rattle.cc_line.specs.Fit.{conds_fit, site_fits, step_fits}
use Rattle.cc_line.specs.OpenStep.{closed_step, HasInts, ints_in, open_act, open_combine, open_copy_site, open_home_to_site, open_keep_site, open_load_site, open_place_to_site, open_said, open_set_site, open_set_spot, open_site_to_home, open_site_to_place, open_step_fits, open_steps_fit, open_text, open_texts, open_when, OpenAct, OpenSite, OpenStep, said_chunks, site_with, step_with, steps_names, steps_with, NamedInt, told_fits, told_name, when_chunks}
use Rattle.cc_line.specs.Item.{call_item, call_when, fill_item, fill_when, first, HasAll, Helper, Item, item_command, item_fits, item_helpers, item_most, item_text, Items, items_fit, items_helpers, items_most, items_texts, no_more, step_item}
use Rattle.cc_line.proofs.FitLemmas.{step_speaks}
use Rattle.cc_line.proofs.StepLemmas.{weight_is}
use Rattle.cc_line.proofs.OpenStepLemmas.{all_ready, names_given, natural_told, open_line}
use Rattle.cc_line.proofs.FilledLemmas.{calls, open_says, simple_calls}
use Rattle.cc_line.proofs.ItemLemmas.{item_speaks}
use Rattle.cc_text.proofs.OnceLemmas.{Every, every_both}
use Rattle.pk_link.proofs.PartsIn.{all_back, all_front}
use Rattle.mc_cmd.specs.Weight.{command_runs, HasIntsAlone, line_alone, line_that_runs, no_line, RunsNothing, simple_runs, Weighs}

-- the lines of a helper weigh so much at most
abbrev pub IsNoHeavier : Functions → ℕ → Helper → Type 0
IsNoHeavier functions most x = (k : ℕ) × Weighs functions x.lines k × (k ≤ most)

as_heavy : (functions : Functions) (j k : ℕ) (hs : List Helper) → j ≤ k → Every (IsNoHeavier functions j) hs → Every (IsNoHeavier functions k) hs
as_heavy functions j k [] l a = tt
as_heavy functions j k (x ∷ hs) l a = ((a.0.0, a.0.1, (let le : a.0.0 ≤ j = a.0.2 in omega arith)), as_heavy functions j k hs l a.1)

-- ---- no step runs a function

module _ (ns : Text) where
  abbrev IsQuiet : Said → Type 0
  IsQuiet d = simple_runs d.simple ≡ None

  set_quiet : (q : Home) (z : ℤ) → IsQuiet (set_home ns q z)
  set_quiet (in_score i) z = refl
  set_quiet (in_list k) z = refl

  load_quiet : (t : Text) (q : Home) → IsQuiet (load_home ns t q)
  load_quiet t (in_score i) = refl
  load_quiet t (in_list k) = refl

  keep_quiet : (q : Home) (t : Text) → IsQuiet (keep_home ns q t)
  keep_quiet (in_score i) t = refl
  keep_quiet (in_list k) t = refl

  copy_quiet : (p q : Home) → IsQuiet (copy_home ns p q)
  copy_quiet (in_score i) (in_score j) = refl
  copy_quiet (in_list k) (in_score j) = refl
  copy_quiet (in_score i) (in_list k) = refl
  copy_quiet (in_list i) (in_list k) = refl

  to_site_quiet : (p : Site) (q : Home) → IsQuiet (home_to_site ns p q)
  to_site_quiet p (in_score i) = refl
  to_site_quiet p (in_list k) = refl

  from_site_quiet : (q : Home) (p : Site) → IsQuiet (site_to_home ns q p)
  from_site_quiet (in_score i) p = refl
  from_site_quiet (in_list k) p = refl

  act_quiet : (a : Act) → IsQuiet (act_said ns a)
  act_quiet (set_spot x z) = refl
  act_quiet (increase x n) = refl
  act_quiet (decrease x n) = refl
  act_quiet (combine x op y) = refl
  act_quiet (set_place i z) = set_quiet (home i) z
  act_quiet (copy_place i j) = copy_quiet (home i) (home j)
  act_quiet (load_place t i) = load_quiet t (home i)
  act_quiet (keep_place i t) = keep_quiet (home i) t
  act_quiet (load_site t p) = refl
  act_quiet (keep_site p t) = refl
  act_quiet (place_to_site p i) = to_site_quiet p (home i)
  act_quiet (site_to_place i p) = from_site_quiet (home i) p
  act_quiet (set_site p t) = refl
  act_quiet (copy_site p q) = refl
  act_quiet (append_value_to p t) = refl
  act_quiet (append_site p q) = refl
  act_quiet (erase_site p) = refl
  act_quiet (open_place i) = refl
  act_quiet (make_list zs) = refl
  act_quiet (save_list p) = refl
  act_quiet (restore_list p) = refl

  under_runs : (us : List Sub) (s : Simple) → command_runs (under_subs us s) ≡ simple_runs s
  under_runs [] s = refl
  under_runs (u ∷ us) s = refl

  step_quiet : (x : Step) → command_runs (step_command ns x) ≡ None
  step_quiet (run_act a) = under_runs (act_said ns a).stores (act_said ns a).simple ∙ act_quiet a
  step_quiet (when cs a) = act_quiet a
  step_quiet (stop_when cs) = refl

-- the line of a text that says one
said_line : (t : Text) (l : Line) → line_said t ≡ Some l → line_of t ≡ l
said_line t l e = ap (λ o. unwrap_or o nothing) e

-- ---- what fills a macro line to which text

-- a text that is there is that of an int
abbrev IsOfInt : Option Text → Type 0
IsOfInt o = (t : Text) → o ≡ Some t → (z : ℤ) × (t ≡ signed_decimal z) × (is_int z ≡ true)

abbrev int_of : (o : Option Text) → IsOfInt o → ℤ
int_of None a = pos 0
int_of (Some t) a = (a t refl).0

int_fits : (o : Option Text) (a : IsOfInt o) → is_int (int_of o a) ≡ true
int_fits None a = refl
int_fits (Some t) a = (a t refl).2

int_text : (o : Option Text) (a : IsOfInt o) (t : Text) → o ≡ Some t → o ≡ Some (signed_decimal (int_of o a))
int_text None a t e = absurd cc
int_text (Some u) a t e = ap Some (a u refl).1

module _ (v : Tree) (a : HasIntsAlone v) where
  abbrev ints : Ints
  ints n = int_of (value_of v n) (a n)

  behind_filled : (l : Text) (x : Filled) (t : Text) → behind l x ≡ filled t → (u : Text) × (x ≡ filled u)
  behind_filled l (missing k) t e = absurd cc
  behind_filled l (filled u) t e = (u, refl)

  hole_filled : (o : Option Text) (k : ℕ) (x : Filled) (t : Text) → fill_hole o k x ≡ filled t → (u w : Text) × (o ≡ Some u) × (x ≡ filled w)
  hole_filled None k x t e = absurd cc
  hole_filled (Some u) k x t e = let r = behind_filled u x t e in (u, r.0, refl, r.1)

  ends_filled : (l : Text) (n : Text) (qs : List PatternPart) (k : ℕ) (t : Text) → fill_from k (ends l (hole n ∷ qs)) v ≡ filled t → (u : Text) × (fill_hole (value_of v n) k (fill_from (suc k) qs v) ≡ filled u)
  ends_filled [] n qs k t e = (t, e)
  ends_filled (b ∷ l) n qs k t e = behind_filled (b ∷ l) (fill_hole (value_of v n) k (fill_from (suc k) qs v)) t e

  gives_ints : (cs : List Chunk) (l : Text) (k : ℕ) (t : Text) → fill_from k (pattern_from l cs) v ≡ filled t → Gives v ints cs
  gives_ints [] l k t e = tt
  gives_ints (still m ∷ cs) l k t e = gives_ints cs (l ++ m) k t e
  gives_ints (named n ∷ cs) l k t e =
      let r = ends_filled l n (pattern_from [] cs) k t e in
      let q = hole_filled (value_of v n) k (fill_from (suc k) (pattern_from [] cs) v) r.0 r.1 in
      (int_text (value_of v n) (a n) q.0 q.2, gives_ints cs [] (suc k) q.1 q.3)

  filled_with : (cs : List Chunk) (t : Text) → fill (pattern_of cs) v ≡ filled t → t ≡ chunks_text ints cs
  filled_with cs t e = same t (chunks_text ints cs) (sym e ∙ fill_chunks cs [] 0 v ints (gives_ints cs [] 0 t e))
    where
      same : (t u : Text) → filled t ≡ filled u → t ≡ u
      same t u e = cc

-- an open command that is no call with any ints
pattern_quiet : (o : Open commands) → ((r : Ints) → ((n : Text) → is_int (r n) ≡ true) → (c : Cmd) → line_said (cmd_text (o.value r)) ≡ Some (command c) → command_runs c ≡ None) → RunsNothing (pattern (pattern_of o.chunks))
pattern_quiet o by v t c a f s =
    let r : Ints = ints v a in
    let same : t ≡ cmd_text (o.value r) = filled_with v a o.chunks t f ∙ o.spelled r in
    by r (λ n. int_fits (value_of v n) (a n)) c (sym (ap line_said same) ∙ s)

-- ---- what a macro line weighs

-- a pattern by its first word, whatever follows
first_weighs : (b : ℕ) (w : Text) (n : ℕ) → ((l : Text) → word_weight (cut_at 32 ((b ∷ w) ++ l)) ≡ n) → (l : Text) (cs : List Chunk) → pattern_weight (pattern_from ((b ∷ w) ++ l) cs) ≡ n
first_weighs b w n f l [] = f l
first_weighs b w n f l (named m ∷ cs) = f l
first_weighs b w n f l (still m ∷ cs) = subst (λ t. pattern_weight (pattern_from (b ∷ t) cs) ≡ n) (sym (append_assoc w l m)) (first_weighs b w n f (l ++ m) cs)

execute_weighs : (qs cs : List Chunk) → qs ≡ still (codes "execute ") ∷ cs → pattern_weight (pattern_of qs) ≡ 2
execute_weighs qs cs e = ap (λ x. pattern_weight (pattern_of x)) e ∙ first_weighs 101 (codes "xecute ") 2 (λ l. refl) [] cs

data_weighs : (qs : List Chunk) (l : Text) (cs : List Chunk) → qs ≡ still (codes "data " ++ l) ∷ cs → pattern_weight (pattern_of qs) ≡ 1
data_weighs qs l cs e = ap (λ x. pattern_weight (pattern_of x)) e ∙ first_weighs 100 (codes "ata ") 1 (λ l. refl) l cs

score_weighs : (qs : List Chunk) (l : Text) (cs : List Chunk) → qs ≡ still (codes "scoreboard " ++ l) ∷ cs → pattern_weight (pattern_of qs) ≡ 1
score_weighs qs l cs e = ap (λ x. pattern_weight (pattern_of x)) e ∙ first_weighs 115 (codes "coreboard ") 1 (λ l. refl) l cs

module _ (ns : Text) (r : Ints) where
  abbrev chunks_of : OpenAct → List Chunk
  chunks_of a = said_chunks (open_said ns a)

  to_site_weighs : (p : OpenSite) (q : Site) (x : Home) → pattern_weight (pattern_of (said_chunks (open_home_to_site ns p x))) ≡ cmd_weight (said_command (home_to_site [] q x))
  to_site_weighs p q (in_score i) = execute_weighs (said_chunks (open_home_to_site ns p (in_score i))) _ refl
  to_site_weighs p q (in_list k) = data_weighs (said_chunks (open_home_to_site ns p (in_list k))) _ _ refl

  from_site_weighs : (x : Home) (p : OpenSite) (q : Site) → pattern_weight (pattern_of (said_chunks (open_site_to_home ns x p))) ≡ cmd_weight (said_command (site_to_home [] x q))
  from_site_weighs (in_score i) p q = execute_weighs (said_chunks (open_site_to_home ns (in_score i) p)) _ refl
  from_site_weighs (in_list k) p q = data_weighs (said_chunks (open_site_to_home ns (in_list k) p)) _ _ refl

  act_weighs : (a : OpenAct) → pattern_weight (pattern_of (chunks_of a)) ≡ step_weight (step_with r (open_act a))
  act_weighs (open_set_spot x n) = score_weighs (chunks_of (open_set_spot x n)) _ _ refl
  act_weighs (open_combine x op t n) = score_weighs (chunks_of (open_combine x op t n)) _ _ refl
  act_weighs (open_load_site t p) = execute_weighs (chunks_of (open_load_site t p)) _ refl
  act_weighs (open_keep_site p t) = execute_weighs (chunks_of (open_keep_site p t)) _ refl
  act_weighs (open_place_to_site p i) = to_site_weighs p (site_with r p) (home i)
  act_weighs (open_site_to_place i p) = from_site_weighs (home i) p (site_with r p)
  act_weighs (open_set_site p t) = data_weighs (chunks_of (open_set_site p t)) _ _ refl
  act_weighs (open_copy_site p q) = data_weighs (chunks_of (open_copy_site p q)) _ _ refl

-- ---- the lines of a helper that is filled

-- a compound in which each of some names is 0
abbrev zeros : List NamedInt → Fields
zeros [] = no_fields
zeros (m ∷ ms) = field (told_name m) (int (pos 0)) (zeros ms)

more_zeros : (m : Text) (fs : Fields) (ms : List NamedInt) → HasInts fs ms → HasInts (field m (int (pos 0)) fs) ms
more_zeros m fs [] g = tt
more_zeros m fs (n ∷ ms) g =
    let r = by (bytes_eq (told_name n) m) in
    (r.0, r.1, r.2, more_zeros m fs ms g.3)
  where
    by : (b : Bool) → (z : ℤ) × ((if b then Some (int (pos 0)) else find (told_name n) (of_fields fs)) ≡ Some (int z)) × (told_fits n z ≡ true)
    by true = (pos 0, refl, natural_told n (pos 0) refl)
    by false = (g.0, g.1, g.2)

has_zeros : (ms : List NamedInt) → HasInts (zeros ms) ms
has_zeros [] = tt
has_zeros (m ∷ ms) = (
  pos 0,
  ap (λ b. if b then Some (int (pos 0)) else find (told_name m) (of_fields (zeros ms))) (bytes_refl (told_name m)),
  natural_told m (pos 0) refl,
  more_zeros (told_name m) (zeros ms) ms (has_zeros ms),
)

-- a command that is no call runs no function
no_simple_runs : (s : Simple) → simple_calls s ≡ false → simple_runs s ≡ None
no_simple_runs (call f) e = absurd cc
no_simple_runs (call_with f i ps) e = absurd cc
no_simple_runs _ e = refl

no_call_runs : (c : Cmd) → calls c ≡ false → command_runs c ≡ None
no_call_runs (plain s) e = no_simple_runs s e
no_call_runs (execute us s) e = no_simple_runs s e

module _ (ns : Text) (h : is_namespace ns ≡ true) where
  -- 0 for each name
  abbrev all_zero : Ints
  all_zero = λ n. pos 0

  -- the line of an open step runs no function, and weighs what the step does
  record Alone (t : Text) (k : ℕ) : Type 0 where
    quiet : RunsNothing (line_of t)
    weighs : line_weight (line_of t) ≡ k

  alone_as : (t : Text) (l : Line) (k : ℕ) → line_said t ≡ Some l → RunsNothing l → line_weight l ≡ k → Alone t k
  alone_as t l k e q w = record { quiet = subst RunsNothing (sym (said_line t l e)) q; weighs = ap line_weight (said_line t l e) ∙ w }

  step_alone : (x : Step) → step_fits x ≡ true → Alone (step_text ns x) (step_weight x)
  step_alone x f = alone_as (step_text ns x) (command (step_command ns x)) (step_weight x) (step_speaks ns h x f) (step_quiet ns x) (weight_is ns x)

  -- with ints in their range the line of an open step says no call
  said_with : (x : OpenStep) → open_step_fits x ≡ true → (r : Ints) → ((n : Text) → is_int (r n) ≡ true) → (c : Cmd) → line_said (step_text ns (step_with r x)) ≡ Some (command c) → command_runs c ≡ None
  said_with x f r a c s = ⊎_elim (λ e. ap command_runs e ∙ step_quiet ns (step_with r x)) (λ e. no_call_runs c e) (open_says ns h r a x c f s)

  opened_alone : (o : Open commands) (v : Tree) (r : Ints) (k : ℕ) → Fillable v r o → ((r : Ints) → ((n : Text) → is_int (r n) ≡ true) → (c : Cmd) → line_said (cmd_text (o.value r)) ≡ Some (command c) → command_runs c ≡ None) → pattern_weight (pattern_of o.chunks) ≡ k → Alone (macro_text o.chunks) k
  opened_alone o v r k f by w = alone_as (macro_text o.chunks) (pattern (pattern_of o.chunks)) k (open_is_said o.chunks f.fits f.short) (pattern_quiet o by) w

  open_alone : (v : Tree) (r : Ints) (x : OpenStep) → open_step_fits x ≡ true → LineReady v r (open_line ns h x) → Alone (open_text ns x) (step_weight (step_with all_zero x))
  open_alone v r (closed_step x) f l = step_alone x f
  open_alone v r (open_act a) f l = opened_alone _ v r (step_weight (step_with all_zero (open_act a))) l (said_with (open_act a) f) (act_weighs ns all_zero a)
  open_alone v r (open_when cs a) f l = opened_alone _ v r 2 l (said_with (open_when cs a) f) (execute_weighs (when_chunks ns cs (open_said ns a)) _ refl)

  module _ (functions : Functions) where
    with_alone : (t : Text) (j : ℕ) (ts : Texts) (k : ℕ) → Alone t j → Weighs functions ts k → Weighs functions (t ∷ ts) (j + k)
    with_alone t j ts k a w = subst (λ n. Weighs functions (t ∷ ts) (n + k)) a.weighs (line_alone t ts k a.quiet w)

    opens_weigh : (v : Tree) (r : Ints) (xs : List OpenStep) → open_steps_fit xs ≡ true → AllReady v r (map (open_line ns h) xs) → Weighs functions (open_texts ns xs) (steps_weight (steps_with all_zero xs))
    opens_weigh v r [] f a = no_line
    opens_weigh v r (x ∷ xs) f a = with_alone (open_text ns x) (step_weight (step_with all_zero x)) (open_texts ns xs) (steps_weight (steps_with all_zero xs)) (open_alone v r x (and_first _ _ f) a.0) (opens_weigh v r xs (and_second (open_step_fits x) _ f) a.1)

    fill_weighs : (xs : List OpenStep) → open_steps_fit xs ≡ true → Weighs functions (open_texts ns xs) (steps_weight (steps_with all_zero xs))
    fill_weighs xs f =
        let fs : Fields = zeros (steps_names xs) in
        let g = names_given fs (steps_names xs) (has_zeros (steps_names xs)) in
        opens_weigh (compound fs) (ints_in (Some (compound fs))) xs f (all_ready ns h (compound fs) (ints_in (Some (compound fs))) xs f g)

    -- ---- items

    -- a line that runs a function that weighs so much
    with_run : (c : Cmd) (f : Text) (us ts : Texts) (n j k : ℕ) → line_said (cmd_text c) ≡ Some (command c) → command_runs c ≡ Some f → cmd_weight c ≡ n → functions f ≡ Some us → Weighs functions us j → Weighs functions ts k → Weighs functions (cmd_text c ∷ ts) ((n + j) + k)
    with_run c f us ts n j k e r w there a b =
        let l : line_of (cmd_text c) ≡ command c = said_line (cmd_text c) (command c) e in
        let m : line_weight (line_of (cmd_text c)) ≡ n = ap line_weight l ∙ w in
        subst (Weighs functions (cmd_text c ∷ ts)) (omega (arith, m)) (line_that_runs (cmd_text c) f us ts c j k l r there a b)

    mutual
      item_weighs : (x : Item) (ts : Texts) (k : ℕ) → item_fits x ≡ true → HasAll functions ns (item_helpers ns x) → Weighs functions ts k → Weighs functions (item_text ns x ∷ ts) (item_most x + k)
      item_weighs (step_item x) ts k f there w = with_alone (step_text ns x) (step_weight x) ts k (step_alone x f) w
      item_weighs (call_item g xs) ts k f there w =
          with_run (item_command ns (call_item g xs)) (full_name ns g) (items_texts ns xs) ts 1 (items_most xs) k (item_speaks ns h (call_item g xs) f) refl refl there.0 (items_weigh xs (and_second (is_function_name g) _ f) there.1) w
      item_weighs (call_when cs g xs) ts k f there w =
          with_run (item_command ns (call_when cs g xs)) (full_name ns g) (items_texts ns xs) ts 2 (items_most xs) k (item_speaks ns h (call_when cs g xs) f) refl refl there.0 (items_weigh xs (and_second (is_function_name g) _ (and_second (conds_fit cs) _ f)) there.1) w
      item_weighs (fill_item g p xs) ts k f there w =
          with_run (item_command ns (fill_item g p xs)) (full_name ns g) (open_texts ns xs) ts 1 (steps_weight (steps_with all_zero xs)) k (item_speaks ns h (fill_item g p xs) f) refl refl there.0 (fill_weighs xs (and_second (site_fits p) _ (and_second (is_function_name g) _ f))) w
      item_weighs (fill_when cs g p xs) ts k f there w =
          with_run (item_command ns (fill_when cs g p xs)) (full_name ns g) (open_texts ns xs) ts 2 (steps_weight (steps_with all_zero xs)) k (item_speaks ns h (fill_when cs g p xs) f) refl refl there.0 (fill_weighs xs (and_second (site_fits p) _ (and_second (is_function_name g) _ (and_second (conds_fit cs) _ f)))) w

      pub items_weigh : (xs : Items) → items_fit xs ≡ true → HasAll functions ns (items_helpers ns xs) → Weighs functions (items_texts ns xs) (items_most xs)
      items_weigh no_more f there = no_line
      items_weigh (first x xs) f there =
          item_weighs x (items_texts ns xs) (items_most xs) (and_first _ _ f) (all_front functions ns (item_helpers ns x) (items_helpers ns xs) there)
          (items_weigh xs (and_second (item_fits x) _ f) (all_back functions ns (item_helpers ns x) (items_helpers ns xs) there))

    -- ---- helpers, none of which weighs more than the items that call it

    -- one of items, which is called by so much, and those that it calls
    run_weighs : (n : ℕ) (xs : Items) → items_fit xs ≡ true → HasAll functions ns (items_helpers ns xs) → Every (IsNoHeavier functions (items_most xs)) (items_helpers ns xs)
        → ((k : ℕ) × Weighs functions (items_texts ns xs) k × (k ≤ n + items_most xs)) × Every (IsNoHeavier functions (n + items_most xs)) (items_helpers ns xs)
    run_weighs n xs f there a = ((items_most xs, items_weigh xs f there, omega arith), as_heavy functions (items_most xs) (n + items_most xs) (items_helpers ns xs) (omega arith) a)

    -- one that is filled
    filled_weighs : (n : ℕ) (xs : List OpenStep) → open_steps_fit xs ≡ true → ((k : ℕ) × Weighs functions (open_texts ns xs) k × (k ≤ n + steps_weight (steps_with all_zero xs))) × Unit {0}
    filled_weighs n xs f = ((steps_weight (steps_with all_zero xs), fill_weighs xs f, omega arith), tt)

    mutual
      item_helpers_weigh : (x : Item) → item_fits x ≡ true → HasAll functions ns (item_helpers ns x) → Every (IsNoHeavier functions (item_most x)) (item_helpers ns x)
      item_helpers_weigh (step_item x) f there = tt
      item_helpers_weigh (call_item g xs) f there =
          let own : items_fit xs ≡ true = and_second (is_function_name g) _ f in
          run_weighs 1 xs own there.1 (helpers_weigh xs own there.1)
      item_helpers_weigh (call_when cs g xs) f there =
          let own : items_fit xs ≡ true = and_second (is_function_name g) _ (and_second (conds_fit cs) _ f) in
          run_weighs 2 xs own there.1 (helpers_weigh xs own there.1)
      item_helpers_weigh (fill_item g p xs) f there = filled_weighs 1 xs (and_second (site_fits p) _ (and_second (is_function_name g) _ f))
      item_helpers_weigh (fill_when cs g p xs) f there = filled_weighs 2 xs (and_second (site_fits p) _ (and_second (is_function_name g) _ (and_second (conds_fit cs) _ f)))

      pub helpers_weigh : (xs : Items) → items_fit xs ≡ true → HasAll functions ns (items_helpers ns xs) → Every (IsNoHeavier functions (items_most xs)) (items_helpers ns xs)
      helpers_weigh no_more f there = tt
      helpers_weigh (first x xs) f there =
          every_both (IsNoHeavier functions (item_most x + items_most xs)) (item_helpers ns x) (items_helpers ns xs)
          (as_heavy functions (item_most x) (item_most x + items_most xs) (item_helpers ns x) (omega arith) (item_helpers_weigh x (and_first _ _ f) (all_front functions ns (item_helpers ns x) (items_helpers ns xs) there)))
          (as_heavy functions (items_most xs) (item_most x + items_most xs) (items_helpers ns xs) (omega arith) (helpers_weigh xs (and_second (item_fits x) _ f) (all_back functions ns (item_helpers ns x) (items_helpers ns xs) there)))
