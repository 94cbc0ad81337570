-- The static weights of functions, and of the lines of one, line by line.
use Rattle.std.proofs.Common.{◌≡◌, ◌∙◌, sym, ap, refl, subst, ℕ, zero, suc, ◌+◌, ◌-◌, ◌<◌, ◌≤◌, List, [], ◌∷◌, ◌++◌, Bool, true, false, cond, Option, Some, None, length, get_or, drop, arith}
use Rattle.std.proofs.lemmas.Grind.{common_steps}
use Rattle.std.proofs.lemmas.List.{append_cancel_left}
use Rattle.std.proofs.lemmas.Slice.Eq.{bytes_eq-Decides}
use Rattle.std.specs.Borrow.{Bor}
use Rattle.std.specs.Prelude.{IfNone, option_and_then, if◌then◌else◌, MatchOption}
use Rattle.std.specs.BTreeMap.{BTreeMap}
use Rattle.std.specs.Map.{lookup}
use Rattle.std.specs.Str.{bytes_eq}
use Rattle.mc_cmd.specs.declared.TheConstants.{PIECE}
use Rattle.mc_cmd.specs.Form.{Text}
use Rattle.mc_cmd.specs.Command.{Cmd, plain, execute, Line, nothing, command, pattern}
use Rattle.mc_cmd.specs.Chain.{Texts, Functions, cmd_weight, line_of, line_weight}
use Rattle.mc_cmd.specs.Layout.{full_name}
use Rattle.mc_cmd.specs.Packing.{Written, lines_at, pack_view}
use Rattle.mc_cmd.proofs.FormLemmas.{some_same}
use Rattle.mc_cmd.proofs.PackLemmas.{function_at}
use Rattle.mc_world.specs.TextMap.{text_get}
use Rattle.app_report.specs.Costs.{IsLight, line_runs, lines_weight, plus, run_weight, static_weight, weight_to}
use Rattle.app_report.specs.steps.Weighing.{AreKnown}

-- ---- the lines of a function

pub no_name : (ns full rest : Text) (r : Option (Bor Text)) → full ≡ ns ++ rest → MatchOption r ((name : Text) → (rest ≡ 58 ∷ name) → ⊥) (λ name. rest ≡ 58 ∷ name.now)
    → IfNone r ((name : Text) → (full ≡ full_name ns name) → ⊥)
no_name ns full rest None e h = λ name f. h name (append_cancel_left ns rest (58 ∷ name) (sym e ∙ f))
no_name ns full rest (Some name) e h = tt

pub named_lines : (p : Written) (full name : Text) → full ≡ full_name p.index.ns name → lines_at p name ≡ (pack_view p).functions full
named_lines p full name e = sym (ap (pack_view p).functions e ∙ function_at p name)

nowhere : (ns f : Text) (es : List (Text × Texts)) → ((name : Text) → (f ≡ full_name ns name) → ⊥) → None ≡ lookup (λ name. bytes_eq f (full_name ns name)) es
nowhere ns f [] apart = refl
nowhere ns f (e ∷ es) apart = go (bytes_eq f (full_name ns e.0)) refl (nowhere ns f es apart)
  where
    go : (b : Bool) → bytes_eq f (full_name ns e.0) ≡ b → None ≡ lookup (λ name. bytes_eq f (full_name ns name)) es → None ≡ cond b (Some e.1) (lookup (λ name. bytes_eq f (full_name ns name)) es)
    go true t ih = absurd (apart e.0 ((bytes_eq-Decides f (full_name ns e.0)).0 t))
    go false t ih = ih

pub nameless : (p : Written) (full : Text) → ((name : Text) → (full ≡ full_name p.index.ns name) → ⊥) → None ≡ (pack_view p).functions full
nameless p full apart = nowhere p.index.ns full p.functions apart

-- ---- sums

record AreParts (a : ℕ) (o q : Option ℕ) (k : ℕ) : Type 0 where
  call : ℕ
  rest : ℕ
  has_call : o ≡ Some call
  has_rest : q ≡ Some rest
  is_sum : a + (call + rest) ≡ k

parts : (a : ℕ) (o q : Option ℕ) (k : ℕ) → plus (Some a) (plus o q) ≡ Some k → AreParts a o q k
parts a None q k h = absurd cc
parts a (Some j) None k h = absurd cc
parts a (Some j) (Some r) k h = record { call = j; rest = r; has_call = refl; has_rest = refl; is_sum = some_same (a + (j + r)) k h }

whole : (a : ℕ) (o q : Option ℕ) (j r : ℕ) → o ≡ Some j → q ≡ Some r → plus (Some a) (plus o q) ≡ Some (a + (j + r))
whole a o q j r e f = ap (λ o. plus (Some a) (plus o q)) e ∙ ap (λ q. plus (Some a) (plus (Some j) q)) f

-- what weighs something by some weights weighs as much by others that have these
module _ (v w : Text → Option ℕ) (more : (f : Text) (k : ℕ) → v f ≡ Some k → w f ≡ Some k) where
  run_more : (o : Option Text) (j : ℕ) → run_weight v o ≡ Some j → run_weight w o ≡ Some j
  run_more None j h = h
  run_more (Some f) j h = more f j h

  lines_more : (ts : Texts) (k : ℕ) → lines_weight v ts ≡ Some k → lines_weight w ts ≡ Some k
  lines_more [] k h = h
  lines_more (t ∷ ts) k h =
      let p = parts (line_weight (line_of t)) (run_weight v (line_runs (line_of t))) (lines_weight v ts) k h in
      whole (line_weight (line_of t)) (run_weight w (line_runs (line_of t))) (lines_weight w ts) p.call p.rest (run_more (line_runs (line_of t)) p.call p.has_call) (lines_more ts p.rest p.has_rest)
      ∙ ap Some p.is_sum

-- ---- depths

function_more : (v w : Text → Option ℕ) → ((f : Text) (k : ℕ) → v f ≡ Some k → w f ≡ Some k) → (o : Option Texts) (k : ℕ) → option_and_then (lines_weight v) o ≡ Some k → option_and_then (lines_weight w) o ≡ Some k
function_more v w more None k h = h
function_more v w more (Some ts) k h = lines_more v w more ts k h

-- what has a weight at one depth has it at greater ones
one_deeper : (n : ℕ) (functions : Functions) (f : Text) (k : ℕ) → weight_to n functions f ≡ Some k → weight_to (suc n) functions f ≡ Some k
unfolding weight_to
one_deeper zero functions f k h = absurd cc
one_deeper (suc n) functions f k h = function_more (weight_to n functions) (weight_to (suc n) functions) (λ g j. one_deeper n functions g j) (functions f) k h

deeper_by : (d n : ℕ) (functions : Functions) (f : Text) (k : ℕ) → weight_to n functions f ≡ Some k → weight_to (d + n) functions f ≡ Some k
deeper_by zero n functions f k h = subst (λ (m : ℕ). weight_to m functions f ≡ Some k) (omega arith) h
deeper_by (suc d) n functions f k h =
    subst (λ (m : ℕ). weight_to m functions f ≡ Some k) (omega arith) (one_deeper (d + n) functions f k (deeper_by d n functions f k h))

pub is_static : (n : ℕ) (functions : Functions) (f : Text) (k : ℕ) → n ≤ suc PIECE → weight_to n functions f ≡ Some k → static_weight functions f ≡ Some k
unfolding static_weight
is_static n functions f k le h =
    subst (λ (m : ℕ). weight_to m functions f ≡ Some k) (omega arith) (deeper_by (suc PIECE - n) n functions f k h)

lines_of : (n : ℕ) (functions : Functions) (f : Text) (ts : Texts) → functions f ≡ Some ts → weight_to (suc n) functions f ≡ lines_weight (weight_to n functions) ts
unfolding weight_to
lines_of n functions f ts e = ap (option_and_then (lines_weight (weight_to n functions))) e

-- a function that weighs something is there
pub light_stands : (n : ℕ) (functions : Functions) (f : Text) → functions f ≡ None → IsLight n functions f → ⊥
unfolding weight_to
light_stands n functions f e l =
    let none : None ≡ Some l.weight = sym (ap (option_and_then (lines_weight (weight_to n functions))) e) ∙ l.weighs in
    cc

-- a weight that is noted beside those that are known
pub known_noted : (functions : Functions) (m n : BTreeMap Text ℕ) (full : Text) (k : ℕ) → ((f : Text) → text_get n f ≡ (if bytes_eq full f then Some k else text_get m f)) → static_weight functions full ≡ Some k
    → AreKnown functions m → AreKnown functions n
known_noted functions m n full k written weighs known f weight h = go (bytes_eq full f) refl (sym (written f) ∙ h)
  where
    go : (b : Bool) → bytes_eq full f ≡ b → (if b then Some k else text_get m f) ≡ Some weight → static_weight functions f ≡ Some weight
    go true e g = ap (static_weight functions) (sym ((bytes_eq-Decides full f).0 e)) ∙ weighs ∙ g
    go false e g = known f weight g

-- ---- line by line

-- lines that are left of a function which weighs at most so much, where those before them weigh so much
pub record IsLeft (most : ℕ) (functions : Functions) (f : Text) (ts : Texts) (sum : ℕ) : Type 0 where
  pub rest : ℕ
  pub has_rest : lines_weight (weight_to most functions) ts ≡ Some rest
  pub is_whole : weight_to (suc most) functions f ≡ Some (sum + rest)
  pub light : sum + rest ≤ most

pub left_all : (most : ℕ) (functions : Functions) (f : Text) (ts : Texts) → functions f ≡ Some ts → IsLight most functions f → IsLeft most functions f ts 0
left_all most functions f ts e l = record {
  rest = l.weight;
  has_rest = sym (lines_of most functions f ts e) ∙ l.weighs;
  is_whole = l.weighs ∙ ap Some (omega arith);
  light = omega (arith, l.light);
}

pub left_none : (most : ℕ) (functions : Functions) (f : Text) (sum : ℕ) → most ≤ PIECE → IsLeft most functions f [] sum → static_weight functions f ≡ Some sum
left_none most functions f sum le h =
    let none : 0 ≡ h.rest = some_same 0 h.rest h.has_rest in
    is_static (suc most) functions f sum (omega arith) (h.is_whole ∙ ap Some (omega arith))

-- the first of these lines, with what it runs
pub record IsFirst (most : ℕ) (functions : Functions) (f t : Text) (ts : Texts) (sum : ℕ) : Type 0 where
  pub call : ℕ
  pub has_call : run_weight (weight_to most functions) (line_runs (line_of t)) ≡ Some call
  pub light : sum + line_weight (line_of t) + call ≤ most
  pub others : IsLeft most functions f ts (sum + line_weight (line_of t) + call)

pub first_of : (most : ℕ) (functions : Functions) (f t : Text) (ts : Texts) (sum : ℕ) → IsLeft most functions f (t ∷ ts) sum → IsFirst most functions f t ts sum
first_of most functions f t ts sum h =
    let p = parts (line_weight (line_of t)) (run_weight (weight_to most functions) (line_runs (line_of t))) (lines_weight (weight_to most functions) ts) h.rest h.has_rest in
    let total : sum + h.rest ≡ sum + line_weight (line_of t) + p.call + p.rest = omega (arith, p.is_sum) in
    record {
      call = p.call;
      has_call = p.has_call;
      light = omega (arith, h.light);
      others = record {
        rest = p.rest;
        has_rest = p.has_rest;
        is_whole = h.is_whole ∙ ap Some total;
        light = omega (arith, h.light);
      };
    }

drop_first : (ts : Texts) (i : ℕ) (t : Text) → i < length ts → t ≡ get_or ts i t → drop i ts ≡ t ∷ drop (i + 1) ts
drop_first ts i t lt e = grind (arith, common_steps, e)

pub first_at : (most : ℕ) (functions : Functions) (f : Text) (ts : Texts) (i : ℕ) (t : Text) (sum : ℕ) → i < length ts → t ≡ get_or ts i t → IsLeft most functions f (drop i ts) sum → IsFirst most functions f t (drop (i + 1) ts) sum
first_at most functions f ts i t sum lt e h =
    first_of most functions f t (drop (i + 1) ts) sum (subst (λ (us : Texts). IsLeft most functions f us sum) (drop_first ts i t lt e) h)

pub left_end : (most : ℕ) (functions : Functions) (f : Text) (ts : Texts) (i sum : ℕ) → most ≤ PIECE → length ts ≤ i → IsLeft most functions f (drop i ts) sum → static_weight functions f ≡ Some sum
left_end most functions f ts i sum le past h =
    let none : drop i ts ≡ [] = grind (arith, common_steps) in
    left_none most functions f sum le (subst (λ (us : Texts). IsLeft most functions f us sum) none h)

command_weighs : (c : Cmd) → 1 ≤ cmd_weight c
command_weighs (plain s) = omega arith
command_weighs (execute ss s) = omega arith

pub call_weighs : (l : Line) (g : Text) → line_runs l ≡ Some g → 1 ≤ line_weight l
call_weighs nothing g h = absurd cc
call_weighs (command c) g h = command_weighs c
call_weighs (pattern ps) g h = absurd cc

-- a line that runs nothing
pub first_alone : (most : ℕ) (functions : Functions) (f t : Text) (ts : Texts) (sum : ℕ) → line_runs (line_of t) ≡ None → IsFirst most functions f t ts sum → IsLeft most functions f ts (sum + line_weight (line_of t))
first_alone most functions f t ts sum e h =
    let none : 0 ≡ h.call = some_same 0 h.call (sym (ap (run_weight (weight_to most functions)) e) ∙ h.has_call) in
    subst (IsLeft most functions f ts) (omega arith) h.others

-- a line that runs a function
pub called_light : (most : ℕ) (functions : Functions) (f t g : Text) (ts : Texts) (sum : ℕ) → line_runs (line_of t) ≡ Some g → IsFirst most functions f t ts sum → IsLight (most - 1) functions g
called_light most functions f t g ts sum e h =
    let one = call_weighs (line_of t) g e in
    let called : weight_to most functions g ≡ Some h.call = sym (ap (run_weight (weight_to most functions)) e) ∙ h.has_call in
    record {
      weight = h.call;
      weighs = subst (λ (n : ℕ). weight_to n functions g ≡ Some h.call) (omega (arith, h.light)) called;
      light = omega (arith, h.light);
    }

pub called_weighs : (most : ℕ) (functions : Functions) (f t g : Text) (ts : Texts) (sum k : ℕ) → most ≤ PIECE → line_runs (line_of t) ≡ Some g → (h : IsFirst most functions f t ts sum) → static_weight functions g ≡ Some k → h.call ≡ k
called_weighs most functions f t g ts sum k le e h w =
    let called : weight_to most functions g ≡ Some h.call = sym (ap (run_weight (weight_to most functions)) e) ∙ h.has_call in
    some_same h.call k (sym (is_static most functions g h.call (omega arith) called) ∙ w)

pub first_called : (most : ℕ) (functions : Functions) (f t g : Text) (ts : Texts) (sum k : ℕ) → most ≤ PIECE → line_runs (line_of t) ≡ Some g → IsFirst most functions f t ts sum → static_weight functions g ≡ Some k
    → IsLeft most functions f ts (sum + line_weight (line_of t) + k)
first_called most functions f t g ts sum k le e h w =
    subst (λ (j : ℕ). IsLeft most functions f ts (sum + line_weight (line_of t) + j)) (called_weighs most functions f t g ts sum k le e h w) h.others
