-- The functions that have the lines of pieces which are of no function's body, by their names: of instantiation, and of
-- routines and of the ends of jobs.
use Rattle.std.proofs.Common.{◌≡◌, ◌∙◌, ap, refl, ℕ, suc, ◌+◌, ◌-◌, ◌<◌, ◌≤◌, List, ◌∷◌, ◌++◌, length, Some, arith}
use Rattle.std.specs.Prelude.{codes, drop, if◌then◌else◌, nat_lt}
use Rattle.std.specs.Fmt.{decimal}
use Rattle.std.proofs.lemmas.Bool.{le-ltb, lt-ltb}
use Rattle.std.proofs.lemmas.Fmt.{decimal_injective}
use Rattle.mc_cmd.specs.Form.{Text}
use Rattle.wm_ast.specs.declared.module.Func.{Func}
use Rattle.wm_ast.specs.declared.module.FuncType.{FuncType}
use Rattle.wm_ast.specs.declared.module.Module.{Module}
use Rattle.wm_flat.specs.FlatTyping.{IsFunction}
use Rattle.cc_line.specs.Item.{Items, items_texts}
use Rattle.cc_text.specs.Tables.{IsOwn, lines_named, NamedHelper, numbered, of_items}
use Rattle.cc_text.proofs.NamedLemmas.{numbered_begin, numbered_found, numbered_long}
use Rattle.cc_sched.specs.Names.{first_end}
use Rattle.cc_call.specs.Frames.{first_opening}
use Rattle.cc_bulk.specs.Grow.{grower_items}
use Rattle.cc_pieces.specs.Entry.{done_items, first_taker, taker_items}
use Rattle.cc_pieces.specs.Growing.{grower_index}
use Rattle.cc_pieces.specs.Law.{most_placers, most_takers}
use Rattle.cc_pieces.specs.Placing.{first_placer, placer_items, placers_from}
use Rattle.cc_body.specs.Pieces.{function_opening}
use Rattle.cc_simulate.specs.Named.{shared_items}
use Rattle.cc_init.specs.Init.{init_items, later_pieces}
use Rattle.pk_agree.proofs.Programs.{opening_items_are, placer_items_are, taker_items_are}
use Rattle.pk_link.proofs.Counts.{by_test}

-- ---- by their numbers

-- the items of the routine of this number, or of the one that ends a job
abbrev pub routine_items : Module → ℕ → Items
routine_items m j =
    if nat_lt j first_end
    then shared_items m j
    else (if nat_lt j first_opening then done_items (j - first_end) else shared_items m j)

abbrev init_helper : Module → ℕ → NamedHelper
init_helper m k = of_items (codes "i" ++ decimal k) (init_items m k)

abbrev shared_helper : Module → ℕ → NamedHelper
shared_helper m j = of_items (codes "s" ++ decimal j) (routine_items m j)

-- no routine has this number, or a higher one
pub most_routines : ℕ
most_routines = 30001

pub most_is : most_routines ≡ 30001
unfolding most_routines
most_is = refl

pub init_routines : Module → List NamedHelper
init_routines m = numbered (init_helper m) (suc (later_pieces m))

pub shared_routines : Module → List NamedHelper
shared_routines m = numbered (shared_helper m) most_routines

pub inits_own : (m : Module) → IsOwn (codes "i") (init_routines m) (suc (later_pieces m))
unfolding init_routines
inits_own m = record {
  names = numbered_begin (codes "i") (init_helper m) (suc (later_pieces m)) (λ n. refl);
  few = let e : length (init_routines m) ≡ suc (later_pieces m) = numbered_long (init_helper m) (suc (later_pieces m)) in omega arith;
}

pub shared_own : (m : Module) → IsOwn (codes "s") (shared_routines m) most_routines
unfolding shared_routines
shared_own m = record {
  names = numbered_begin (codes "s") (shared_helper m) most_routines (λ n. refl);
  few = let e : length (shared_routines m) ≡ most_routines = numbered_long (shared_helper m) most_routines in omega arith;
}

numbers_same : (b j n : ℕ) → j < 2147483648 → n < 2147483648 → b ∷ decimal j ≡ b ∷ decimal n → j ≡ n
numbers_same b j n l h e = decimal_injective j n (omega arith) (omega arith) (ap (drop 1) e)

pub init_found : (m : Module) (ns : Text) (k : ℕ) → later_pieces m ≤ 1000000 → k ≤ later_pieces m → lines_named (init_routines m) ns (codes "i" ++ decimal k) ≡ Some (items_texts ns (init_items m k))
unfolding init_routines
init_found m ns k few h = numbered_found (init_helper m) (suc (later_pieces m)) k ns (λ j l e. numbers_same 105 j k (omega arith) (omega arith) e) (omega arith)

pub shared_found : (m : Module) (ns : Text) (j : ℕ) → j ≤ 30000 → lines_named (shared_routines m) ns (codes "s" ++ decimal j) ≡ Some (items_texts ns (routine_items m j))
unfolding shared_routines
shared_found m ns j h =
    let most : most_routines ≡ 30001 = most_is in
    numbered_found (shared_helper m) most_routines j ns (λ i l e. numbers_same 115 i j (omega arith) (omega arith) e) (omega arith)

-- ---- the items of each

-- below the ends of jobs, and above them
low_routine : (m : Module) (j : ℕ) → j < first_end → routine_items m j ≡ shared_items m j
low_routine m j h = ap (λ b. if b then shared_items m j else (if nat_lt j first_opening then done_items (j - first_end) else shared_items m j)) (lt-ltb j first_end h)

high_routine : (m : Module) (j : ℕ) → first_opening ≤ j → routine_items m j ≡ shared_items m j
high_routine m j h =
    ap (λ b. if b then shared_items m j else (if nat_lt j first_opening then done_items (j - first_end) else shared_items m j)) (le-ltb j first_end (omega arith))
    ∙ ap (λ b. if b then done_items (j - first_end) else shared_items m j) (le-ltb j first_opening h)

pub taker_routine : (m : Module) (k : ℕ) → k < most_takers → routine_items m (first_taker + k) ≡ taker_items k
taker_routine m k h = low_routine m (first_taker + k) (omega arith) ∙ taker_items_are m k h

pub done_routine : (m : Module) (w : ℕ) → w ≤ 2 → routine_items m (first_end + w) ≡ done_items w
done_routine m w h =
    let j : ℕ = first_end + w in
    ap (λ b. if b then shared_items m j else (if nat_lt j first_opening then done_items (j - first_end) else shared_items m j)) (le-ltb j first_end (omega arith))
    ∙ ap (λ b. if b then done_items (j - first_end) else shared_items m j) (lt-ltb j first_opening (omega arith))
    ∙ ap done_items (let e : first_end + w - first_end ≡ w = omega arith in e)

pub opening_routine : (m : Module) (n : ℕ) (f : Func) (t : FuncType) → n < 9000 → IsFunction m n f t → routine_items m (first_opening + n) ≡ function_opening m n f t
opening_routine m n f t h is = high_routine m (first_opening + n) (omega arith) ∙ opening_items_are m n f t (omega arith) is

-- where those are that put a value to its place
placers_high : (ints : ℕ) → first_placer ≤ placers_from ints
placers_high ints = by_test (nat_lt 1 ints) 25000 20000 (λ n. first_placer ≤ n) (let l : 20000 ≤ 25000 = omega arith in l) (let l : 20000 ≤ 20000 = omega arith in l)

pub placer_routine : (m : Module) (ints i : ℕ) → 1 ≤ ints → ints ≤ 2 → i ≤ most_placers → routine_items m (placers_from ints + i) ≡ placer_items ints i
placer_routine m ints i some few h =
    let high : first_placer ≤ placers_from ints = placers_high ints in
    high_routine m (placers_from ints + i) (omega arith) ∙ placer_items_are m ints i some few h

pub grower_routine : (m : Module) → routine_items m grower_index ≡ grower_items
grower_routine m = refl
