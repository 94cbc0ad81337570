-- What a world that shows a state answers, and which public places it shows.
use Rattle.std.proofs.Common.{◌≡◌, ◌∙◌, ap, refl, sym, subst, ℕ, suc, ◌+◌, ◌-◌, ◌*◌, ◌/◌, ◌%◌, ◌<◌, ◌≤◌, List, [], ◌∷◌, length, map, reverse, Option, Some, None, arith, ⊎_elim, ℤ, pos, negsuc, ◌+ℤ◌, ◌*ℤ◌}
use Rattle.std.specs.Prelude.{nat_lt, option_and_then}
use Rattle.std.specs.Int.{w32, int_wrap, cast_signed}
use Rattle.std.specs.Option.{option_to_list}
use Rattle.std.proofs.lemmas.Int.{ints, to_z_pos}
use Rattle.std.proofs.lemmas.Bool.{cases_lt, cond-false, le-ltb}
use Rattle.mc_nbt.specs.Tree.{Tree, int, items, key, select}
use Rattle.mc_nbt.specs.declared.value.Value.{Value}
use Rattle.mc_nbt.specs.declared.value.Value.TheVariants as values
use Rattle.mc_cmd.specs.Form.{Text}
use Rattle.mc_cmd.specs.World.{World, tree_in}
use Rattle.mc_cmd.specs.Layout.{memory_of, unsigned_half, joined_halves, Answer, new, running, done, trap, dead, io_value, answer, answer_in, result_in, trap_in, joined, values_in, globals_in, memory_in}
use Rattle.mc_cmd.specs.Pack.{high_half}
use Rattle.wm_ast.specs.declared.answer.TrapKind.{TrapKind}
use Rattle.wm_ast.specs.declared.answer.TrapKind.TheVariants.{Unreachable, DivideByZero, Overflow, OutOfBounds, UndefinedElement, UninitializedElement, TypeMismatch, StackExhausted}
use Rattle.wm_ast.specs.declared.module.Limits.{Limits}
use Rattle.wm_ast.specs.declared.module.Module.{Module}
use Rattle.wm_ast.specs.Store as reduction
use Rattle.cc_line.specs.Sight.{in_io, in_memory, Shows}
use Rattle.cc_line.specs.Key.{key_state, key_result, key_trap, key_memory, key_globals}
use Rattle.cc_line.specs.Routine.{trap_number}
use Rattle.cc_line.specs.State.{State, seen}
use Rattle.cc_line.specs.State as states
use Rattle.cc_line.proofs.SightLemmas.{key_selects}
use Rattle.cc_simulate.specs.Frame.{stack_ints}
use Rattle.cc_simulate.specs.Stored.{global_tree, HasPages, Stored, StoredBut}
use Rattle.cc_simulate.proofs.MemoryLemmas.{pages_stay}
use Rattle.cc_page.proofs.ShownLemmas.{pages_shown}
use Rattle.pk_agree.specs.Agree.{IsPublic, public_places}
use Rattle.cc_init.proofs.Paging.{pages_there}
use Rattle.pk_agree.proofs.Alike.{Alike, Remains}

-- ---- halves of a number

word_back : (n : ℕ) → n < 4294967296 → unsigned_half (cast_signed w32 n) ≡ pos n
word_back n h =
    ⊎_elim (λ l. ap unsigned_half (to_z_pos w32 n l))
    (λ g. ap unsigned_half (cond-false (nat_lt n 2147483648) (pos n) (negsuc (4294967296 - suc n)) (le-ltb n 2147483648 g)) ∙ ap pos (let x : 4294967296 - suc (4294967296 - suc n) ≡ n = omega arith in x))
    (cases_lt n 2147483648)

halves_back : (z : ℤ) → joined_halves (int_wrap w32 z) (high_half z) ≡ z
unfolding int_wrap
halves_back (pos n) =
    ap (λ (u : ℤ). (pos (n / 4294967296) *ℤ pos 4294967296) +ℤ u) (word_back (n % 4294967296) (omega arith))
    ∙ ap pos (let x : n / 4294967296 * 4294967296 + n % 4294967296 ≡ n = omega arith in x)
halves_back (negsuc n) =
    ap (λ (u : ℤ). (negsuc (n / 4294967296) *ℤ pos 4294967296) +ℤ u) (word_back (4294967296 - 1 - n % 4294967296) (omega arith))
    ∙ omega (arith, ints)

-- ---- keys

pub some_back : {A : Type 0} (o : Option A) → option_and_then (λ (x : A). Some x) o ≡ o
some_back None = refl
some_back (Some x) = refl

io_is : (ns : Text) (w : World) (s : State) (k : Text) → Shows ns w (seen s) → io_value ns w k ≡ s.keys in_io k
io_is ns w s k h = key_selects ns w (seen s) in_io k [] h ∙ some_back (s.keys in_io k)

memory_is : (ns : Text) (w : World) (s : State) (k : Text) → Shows ns w (seen s)
    → select (tree_in w (memory_of ns)) (key k ∷ []) ≡ s.keys in_memory k
memory_is ns w s k h = key_selects ns w (seen s) in_memory k [] h ∙ some_back (s.keys in_memory k)

-- ---- public places

abbrev pub public_keys : State → List (Option Tree)
public_keys s =
    s.keys in_io key_state ∷ s.keys in_io key_result ∷ s.keys in_io key_trap
    ∷ s.keys in_memory key_memory ∷ s.keys in_memory key_globals ∷ []

five : {A : Type 0} (a b c d e a' b' c' d' e' : A) → a ≡ a' → b ≡ b' → c ≡ c' → d ≡ d' → e ≡ e'
    → (a ∷ b ∷ c ∷ d ∷ e ∷ []) ≡ (a' ∷ b' ∷ c' ∷ d' ∷ e' ∷ [])
five a b c d e a' b' c' d' e' p q r s t = cc

places_are : (ns : Text) (w : World) (s : State) → Shows ns w (seen s) → public_places ns w ≡ public_keys s
places_are ns w s h =
    five _ _ _ _ _ _ _ _ _ _ (io_is ns w s key_state h) (io_is ns w s key_result h) (io_is ns w s key_trap h)
    (memory_is ns w s key_memory h) (memory_is ns w s key_globals h)

keys_kept : (s u : State) → Alike s u → public_keys u ≡ public_keys s
keys_kept s u a =
    five _ _ _ _ _ _ _ _ _ _ (a.keys in_io key_state refl) (a.keys in_io key_result refl) (a.keys in_io key_trap refl)
    (a.keys in_memory key_memory refl) (a.keys in_memory key_globals refl)

-- worlds that show like states have the same public places
pub unchanged : (ns : Text) (w v : World) (s u : State) → Shows ns w (seen s) → Shows ns v (seen u) → Alike s u
    → public_places ns v ≡ public_places ns w
unchanged ns w v s u h g a = places_are ns v u g ∙ keys_kept s u a ∙ sym (places_are ns w s h)

-- ---- the store

values_back : (vs : List Value) → values_in (items (map global_tree vs)) ≡ Some vs
values_back [] = refl
values_back (values.I32 z ∷ vs) = ap (joined (Some (values.I32 z ∷ []))) (values_back vs)
values_back (values.I64 z ∷ vs) =
    ap (joined (Some (values.I64 (joined_halves (int_wrap w32 z) (high_half z)) ∷ []))) (values_back vs)
    ∙ ap (λ (y : ℤ). Some (values.I64 y ∷ vs)) (halves_back z)

pub public_store : (m : Module) (ns : Text) (w : World) (s : State) (st : reduction.Store) → Stored m st s
    → Shows ns w (seen s) → IsPublic ns w st
public_store m ns w s st h sh = record {
  globals_are = ap globals_in (memory_is ns w s key_globals sh ∙ h.globals) ∙ values_back st.globals;
  memory_is =
      let there = pages_there m.mems h.pages s h.memory in
      ap memory_in (memory_is ns w s key_memory sh ∙ there.0) ∙ pages_shown h.pages there.1 ∙ ap Some (sym h.bytes);
}

pub pages_kept : (ls : List Limits) (ps : List (List ℕ)) (s u : State) → Remains s u → HasPages ls ps s → HasPages ls ps u
pages_kept ls ps s u r h = pages_stay ps s u (r.memory key_memory) r.filling (λ j a b c d. r.scores j d c) ls h

pub stored_by : (m : Module) (st : reduction.Store) (s u : State) → Remains s u → Stored m st s → Stored m st u
stored_by m st s u r h = record {
  globals = r.memory key_globals ∙ h.globals;
  pages = h.pages;
  bytes = h.bytes;
  memory = pages_kept m.mems h.pages s u r h.memory;
  table = h.table;
}

-- also where pages are still to be appended
pub but_by : (m : Module) (missing : ℕ) (st : reduction.Store) (s u : State) → Remains s u → StoredBut m missing st s
    → StoredBut m missing st u
but_by m missing st s u r h = record {
  globals = r.memory key_globals ∙ h.globals;
  pages = h.pages;
  bytes = h.bytes;
  memory = pages_kept m.mems h.pages s u r h.memory;
  table = h.table;
}

-- ---- answers

answers_by : (ns : Text) (w : World) (s : State) (t : Tree) → Shows ns w (seen s) → s.keys in_io key_state ≡ Some t
    → answer ns w ≡ answer_in ns w (Some t)
answers_by ns w s t h e = ap (answer_in ns w) (io_is ns w s key_state h ∙ e)

pub answers_running : (ns : Text) (w : World) (s : State) → Shows ns w (seen s)
    → s.keys in_io key_state ≡ Some (int (pos 1)) → answer ns w ≡ Some running
answers_running ns w s h e = answers_by ns w s (int (pos 1)) h e

pub answers_new : (ns : Text) (w : World) (s : State) → Shows ns w (seen s)
    → s.keys in_io key_state ≡ Some (int (pos 0)) → answer ns w ≡ Some new
answers_new ns w s h e = answers_by ns w s (int (pos 0)) h e

-- the value of a result
abbrev pub result_of : List Value → Option Value
result_of [] = None
result_of (v ∷ vs) = Some v

pub one_result : (vs : List Value) → length vs ≤ 1 → reverse vs ≡ option_to_list (result_of vs)
one_result [] h = refl
one_result (v ∷ []) h = refl
one_result (v ∷ w ∷ vs) h = absurd (omega arith)

told_result : (vs : List Value) → length vs ≤ 1
    → result_in (Some (states.ints (stack_ints vs))) ≡ Some (done (result_of vs))
told_result [] h = refl
told_result (values.I32 z ∷ []) h = refl
told_result (values.I64 z ∷ []) h = ap (λ (y : ℤ). Some (done (Some (values.I64 y)))) (halves_back z)
told_result (v ∷ w ∷ vs) h = absurd (omega arith)

pub answers_done : (ns : Text) (w : World) (s : State) (vs : List Value) → Shows ns w (seen s)
    → s.keys in_io key_state ≡ Some (int (pos 2)) → s.keys in_io key_result ≡ Some (states.ints (stack_ints vs))
    → length vs ≤ 1 → answer ns w ≡ Some (done (result_of vs))
answers_done ns w s vs h e r few =
    answers_by ns w s (int (pos 2)) h e ∙ ap result_in (io_is ns w s key_result h ∙ r) ∙ told_result vs few

told_trap : (how : ℕ → Answer) (k : TrapKind) → trap_in how (Some (int (pos (trap_number k)))) ≡ Some (how (trap_number k))
told_trap how Unreachable = refl
told_trap how DivideByZero = refl
told_trap how Overflow = refl
told_trap how OutOfBounds = refl
told_trap how UndefinedElement = refl
told_trap how UninitializedElement = refl
told_trap how TypeMismatch = refl
told_trap how StackExhausted = refl

pub not_zero : (k : TrapKind) → trap_number k ≡ suc (trap_number k - 1)
not_zero Unreachable = refl
not_zero DivideByZero = refl
not_zero Overflow = refl
not_zero OutOfBounds = refl
not_zero UndefinedElement = refl
not_zero UninitializedElement = refl
not_zero TypeMismatch = refl
not_zero StackExhausted = refl

pub answers_trap : (ns : Text) (w : World) (s : State) (k : TrapKind) → Shows ns w (seen s)
    → s.keys in_io key_state ≡ Some (int (pos 3)) → s.keys in_io key_trap ≡ Some (int (pos (trap_number k)))
    → answer ns w ≡ Some (trap (trap_number k))
answers_trap ns w s k h e r =
    answers_by ns w s (int (pos 3)) h e ∙ ap (trap_in trap) (io_is ns w s key_trap h ∙ r) ∙ told_trap trap k

pub answers_dead : (ns : Text) (w : World) (s : State) (k : TrapKind) → Shows ns w (seen s)
    → s.keys in_io key_state ≡ Some (int (pos 4)) → s.keys in_io key_trap ≡ Some (int (pos (trap_number k)))
    → answer ns w ≡ Some (dead (trap_number k))
answers_dead ns w s k h e r =
    answers_by ns w s (int (pos 4)) h e ∙ ap (trap_in dead) (io_is ns w s key_trap h ∙ r) ∙ told_trap dead k
