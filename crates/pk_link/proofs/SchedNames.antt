-- The names of the scheduler's functions differ, and from those of pieces and of helpers.
use Rattle.std.proofs.Common.{◌≡◌, ◌∙◌, ap, refl, sym, ℕ, zero, suc, ◌+◌, ◌<◌, ◌≤◌, ◌^◌, List, [], ◌∷◌, ◌++◌, length, arith}
use Rattle.std.specs.Prelude.{nat_eq, ◌&&◌, ◌||◌, if◌then◌else◌}
use Rattle.std.proofs.lemmas.Fmt.{decimal_injective}
use Rattle.mc_cmd.specs.Form.{Text}
use Rattle.cc_line.specs.Item.{Helper}
use Rattle.cc_sched.specs.Functions.{call_functions, function, sched_functions}
use Rattle.cc_sched.specs.Names.{call_name, go_name, group_name, load_name, next_name, run_name, tick_name, trap_name}
use Rattle.cc_sched.specs.Sched.{go_texts, group_texts, load_texts, next_texts, run_texts, tick_texts, trap_texts}
use Rattle.cc_text.proofs.OnceLemmas.{Apart, Distinct, NoneNamed}
use Rattle.pk_link.proofs.Distinct.{differ}
use Rattle.pk_link.proofs.PieceNames.{same_tail}

-- ---- four sorts of names: calls, what is run for pieces, helpers of items, and the scheduler's other ones

abbrev pub byte_at : ℕ → Text → ℕ
byte_at n [] = 0
byte_at zero (b ∷ t) = b
byte_at (suc n) (b ∷ t) = byte_at n t

abbrev pub sort : Text → ℕ
sort t =
    if nat_eq (byte_at 0 t) 99 then 1
    else if nat_eq (byte_at 0 t) 102 then 2
    else if nat_eq (byte_at 0 t) 105 || nat_eq (byte_at 0 t) 115 then 3
    else if nat_eq (byte_at 0 t) 104 && (nat_eq (byte_at 2 t) 99 || nat_eq (byte_at 2 t) 109) then 3
    else 0

abbrev pub AllSorted : ℕ → List Helper → Type 0
AllSorted k [] = Unit {0}
AllSorted k (h ∷ hs) = (sort h.name ≡ k) × AllSorted k hs

pub other_sort : (j k : ℕ) → (j ≡ k → ⊥) → (n : Text) (hs : List Helper) → sort n ≡ j → AllSorted k hs → NoneNamed n hs
other_sort j k other n [] e s = tt
other_sort j k other n (h ∷ hs) e s = (differ n h.name (λ q. other (sym e ∙ ap sort q ∙ s.0)), other_sort j k other n hs e s.1)

pub sorts_apart : (j k : ℕ) → (j ≡ k → ⊥) → (xs ys : List Helper) → AllSorted j xs → AllSorted k ys → Apart xs ys
sorts_apart j k other [] ys a b = tt
sorts_apart j k other (x ∷ xs) ys a b = (other_sort j k other x.name ys a.0 b, sorts_apart j k other xs ys a.1 b)

-- ---- the scheduler's

module _ (ns : Text) (piece : ℕ) where
  -- all but the calls
  abbrev pub fixed_functions : List Helper
  fixed_functions =
      function load_name (load_texts ns)
      ∷ (function tick_name (tick_texts ns piece)
      ∷ (function go_name (go_texts ns)
      ∷ (function group_name (group_texts ns piece)
      ∷ (function next_name (next_texts ns) ∷ (function run_name (run_texts ns) ∷ (function trap_name (trap_texts ns) ∷ []))))))

  pub sched_is : (exports : List ℕ) → sched_functions ns piece exports ≡ fixed_functions ++ call_functions ns 0 exports
  sched_is exports = refl

  pub fixed_sorted : AllSorted 0 fixed_functions
  fixed_sorted = (refl, (refl, (refl, (refl, (refl, (refl, (refl, tt)))))))

  pub fixed_distinct : Distinct fixed_functions
  fixed_distinct =
      ((refl, (refl, (refl, (refl, (refl, (refl, tt)))))), ((refl, (refl, (refl, (refl, (refl, tt))))), ((refl, (refl, (refl, (refl, tt)))), ((refl, (refl, (refl, tt))), ((refl, (refl, tt)), ((refl, tt), (tt, tt)))))))

-- ---- calls

pub calls_sorted : (ns : Text) (k : ℕ) (fs : List ℕ) → AllSorted 1 (call_functions ns k fs)
calls_sorted ns k [] = tt
calls_sorted ns k (f ∷ fs) = (refl, calls_sorted ns (suc k) fs)

none_called : (ns : Text) (j k : ℕ) (fs : List ℕ) → j < k → k + length fs ≤ 2 ^ 31 → NoneNamed (call_name j) (call_functions ns k fs)
none_called ns j k [] h l = tt
none_called ns j k (f ∷ fs) h l =
    (differ (call_name j) (call_name k) (λ e. other e), none_called ns j (suc k) fs (omega arith) (omega arith))
  where
    other : call_name j ≡ call_name k → ⊥
    other e = let q : j ≡ k = decimal_injective j k (omega arith) (omega arith) (same_tail 99 99 _ _ e) in omega arith

pub calls_distinct : (ns : Text) (k : ℕ) (fs : List ℕ) → k + length fs ≤ 2 ^ 31 → Distinct (call_functions ns k fs)
calls_distinct ns k [] l = tt
calls_distinct ns k (f ∷ fs) l = (none_called ns k (suc k) fs (omega arith) (omega arith), calls_distinct ns (suc k) fs (omega arith))
