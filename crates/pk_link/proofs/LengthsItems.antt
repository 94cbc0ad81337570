-- The files of a piece with its charges, and of its helpers, are short.
use Rattle.std.proofs.Common.{◌≡◌, refl, ap, ℕ, suc, ◌+◌, ◌-◌, ◌*◌, ◌<◌, ◌≤◌, ◌⊎◌, inl, inr, List, [], ◌∷◌, ◌++◌, length, length-append, Bool, true, arith}
use Rattle.std.specs.List.{AllByRecursion, list_all}
use Rattle.mc_cmd.specs.Form.{Text, lacks}
use Rattle.mc_cmd.specs.Word.{is_namespace}
use Rattle.mc_cmd.proofs.FormLemmas.{and_both, and_first, and_second}
use Rattle.mc_cmd.proofs.PieceLemmas.{IsPiece}
use Rattle.mc_cmd.specs.declared.TheConstants.{PIECE}
use Rattle.mc_cmd.specs.Lines.{file_text, IsShort}
use Rattle.cc_line.specs.Fit.{act_fits}
use Rattle.cc_line.specs.Item.{Items, no_more, items_most, items_texts, items_helpers, items_fit}
use Rattle.cc_line.specs.Step.{Act, run_act, step_text}
use Rattle.cc_text.specs.Short.{act_bare, act_short, AllShort, items_short}
use Rattle.cc_text.proofs.ShortItems.{act_fitting, act_within, AllPieces, few_lines, items_file_short, items_helped}
use Rattle.cc_text.proofs.ShortSteps.{wide, act_piece}
use Rattle.cc_call.specs.Acts.{acts_then}
use Rattle.cc_sched.specs.Charge.{charge, exits, round_weight}
use Rattle.cc_sched.proofs.ChargeLemmas.{charge_fits as charges_fit, charge_most}
use Rattle.cc_sched.proofs.Short.{charge_short}
use Rattle.cc_pieces.specs.Law.{IsLight}

-- ---- acts alone

abbrev pub acts_bare : List Act → Bool
acts_bare acts = list_all act_bare acts

-- acts whose trees may be long
acts_pieces : (ns : Text) (n : is_namespace ns ≡ true) (acts : List Act) → items_fit (acts_then acts no_more) ≡ true → acts_bare acts ≡ true → AllPieces (items_texts ns (acts_then acts no_more))
acts_pieces ns n [] f s = tt
acts_pieces ns n (a ∷ acts) f s = (
  wide (act_piece ns n 400000 a (and_first _ _ f) (act_fitting a (and_first _ _ f) (and_first _ _ s))) (omega arith),
  acts_pieces ns n acts (and_second (act_fits a) _ f) (and_second (act_bare a) _ s),
)

-- ---- acts of which a few may be long

-- an act is short, or its tree may be long
abbrev pub Kind : Act → Type 0
Kind a = (act_short a ≡ true) ⊎ (act_bare a ≡ true)

abbrev pub Kinds : List Act → Type 0
Kinds acts = AllByRecursion Kind acts

abbrev pub kind_room : (a : Act) → Kind a → ℕ
kind_room a (inl s) = 36001
kind_room a (inr b) = 414001

-- the bytes of their lines at most
abbrev pub acts_room : (acts : List Act) → Kinds acts → ℕ
acts_room [] k = 0
acts_room (a ∷ acts) k = kind_room a k.0 + acts_room acts k.1

abbrev pub kinds_both : (xs ys : List Act) → Kinds xs → Kinds ys → Kinds (xs ++ ys)
kinds_both [] ys a b = b
kinds_both (x ∷ xs) ys a b = (a.0, kinds_both xs ys a.1 b)

pub room_both : (xs ys : List Act) (a : Kinds xs) (b : Kinds ys) → acts_room (xs ++ ys) (kinds_both xs ys a b) ≡ acts_room xs a + acts_room ys b
room_both [] ys a b = omega arith
room_both (x ∷ xs) ys a b = let i = room_both xs ys a.1 b in omega arith

abbrev pub kinds_short : (acts : List Act) → AllByRecursion (λ a. act_short a ≡ true) acts → Kinds acts
kinds_short [] s = tt
kinds_short (a ∷ acts) s = (inl s.0, kinds_short acts s.1)

pub room_short : (acts : List Act) (s : AllByRecursion (λ a. act_short a ≡ true) acts) → acts_room acts (kinds_short acts s) ≡ 36001 * length acts
room_short [] s = refl
room_short (a ∷ acts) s = let i = room_short acts s.1 in omega arith

abbrev pub kinds_bare : (acts : List Act) → acts_bare acts ≡ true → Kinds acts
kinds_bare [] s = tt
kinds_bare (a ∷ acts) s = (inr (and_first _ _ s), kinds_bare acts (and_second (act_bare a) _ s))

pub room_bare : (acts : List Act) (s : acts_bare acts ≡ true) → acts_room acts (kinds_bare acts s) ≡ 414001 * length acts
room_bare [] s = refl
room_bare (a ∷ acts) s = let i = room_bare acts (and_second (act_bare a) _ s) in omega arith

act_in_room : (ns : Text) (n : is_namespace ns ≡ true) (a : Act) (k : Kind a) → act_fits a ≡ true → IsPiece (kind_room a k - 1) (step_text ns (run_act a))
act_in_room ns n a (inl s) f = wide (act_piece ns n 34000 a f (act_within a s)) (omega arith)
act_in_room ns n a (inr b) f = wide (act_piece ns n 400000 a f (act_fitting a f b)) (omega arith)

-- the file of such acts
in_room : (ns : Text) (n : is_namespace ns ≡ true) (acts : List Act) (ks : Kinds acts) → items_fit (acts_then acts no_more) ≡ true
    → (list_all (lacks 10) (items_texts ns (acts_then acts no_more)) ≡ true) × (length (file_text (items_texts ns (acts_then acts no_more))) ≤ acts_room acts ks)
in_room ns n [] ks f = (refl, omega arith)
in_room ns n (a ∷ acts) ks f =
    let p : IsPiece (kind_room a ks.0 - 1) (step_text ns (run_act a)) = act_in_room ns n a ks.0 (and_first _ _ f) in
    let i = in_room ns n acts ks.1 (and_second (act_fits a) _ f) in
    let t : Text = step_text ns (run_act a) in
    let us : Text = file_text (items_texts ns (acts_then acts no_more)) in
    let e : length (t ++ (10 ∷ us)) ≡ length t + suc (length us) = length-append t (10 ∷ us) in
    let some : 1 ≤ kind_room a ks.0 = by ks.0 in
    (and_both (lacks 10 t) _ p.bare i.0, (let s = p.short in let l = i.1 in omega arith))
  where
    by : (q : Kind a) → 1 ≤ kind_room a q
    by (inl s) = omega arith
    by (inr b) = omega arith

-- ---- charges

pub charge_fits : (k : ℕ) (xs : Items) → items_fit xs ≡ true → k + items_most (charge k xs) ≤ 1000000 → items_fit (charge k xs) ≡ true
charge_fits k xs f m =
    let e : items_most (charge k xs) ≡ items_most xs + exits xs = charge_most k xs in
    charges_fit k xs f (omega arith)

acts_long : (ns : Text) (acts : List Act) → length (items_texts ns (acts_then acts no_more)) ≡ length acts
acts_long ns [] = refl
acts_long ns (a ∷ acts) = ap suc (acts_long ns acts)

-- a piece with its charges
pub piece_is_short : (ns : Text) → is_namespace ns ≡ true → (xs : Items) → IsLight xs → items_short xs ≡ true → IsShort (items_texts ns (charge round_weight xs))
piece_is_short ns n xs l s =
    let m : items_most (charge round_weight xs) + 20 < PIECE = l.light in
    items_file_short ns n (charge round_weight xs) (charge_fits round_weight xs l.fits (omega arith)) (charge_short round_weight xs s) (omega arith)

-- few acts whose trees may be long
pub bare_acts_are_short : (ns : Text) → is_namespace ns ≡ true → (acts : List Act) → length acts ≤ 30 → items_fit (acts_then acts no_more) ≡ true → acts_bare acts ≡ true → IsShort (items_texts ns (acts_then acts no_more))
bare_acts_are_short ns n acts few f s =
    let long : length (items_texts ns (acts_then acts no_more)) ≡ length acts = acts_long ns acts in
    few_lines (items_texts ns (acts_then acts no_more)) (acts_pieces ns n acts f s) (omega arith)

-- acts of which a few may be long
pub mixed_acts_are_short : (ns : Text) → is_namespace ns ≡ true → (acts : List Act) (ks : Kinds acts) → items_fit (acts_then acts no_more) ≡ true → acts_room acts ks ≤ 16000000 → IsShort (items_texts ns (acts_then acts no_more))
mixed_acts_are_short ns n acts ks f few = let i = in_room ns n acts ks f in record { unbroken = i.0; short = (let r = i.1 in omega arith) }

-- they have no helpers
pub no_helpers : (ns : Text) (acts : List Act) → items_helpers ns (acts_then acts no_more) ≡ []
no_helpers ns [] = refl
no_helpers ns (a ∷ acts) = no_helpers ns acts

-- the helpers of a piece
pub helpers_are_short : (ns : Text) → is_namespace ns ≡ true → (xs : Items) → IsLight xs → items_short xs ≡ true → AllShort (items_helpers ns (charge round_weight xs))
helpers_are_short ns n xs l s =
    let m : items_most (charge round_weight xs) + 20 < PIECE = l.light in
    items_helped ns n (charge round_weight xs) (charge_fits round_weight xs l.fits (omega arith)) (charge_short round_weight xs s) (omega arith)
