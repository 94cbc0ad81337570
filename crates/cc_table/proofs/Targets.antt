-- An element of the module's table is looked up: it leads to a function, or its trap is recorded.
use Rattle.std.proofs.Common.{◌≡◌, ℕ, ◌+◌, ◌<◌, length, Option, Some, None, Bool, true, false, refl, sym, ap, ◌∙◌, arith}
use Rattle.std.specs.Prelude.{ℤ, pos, negsuc, ◌-ℤ◌, ◌&&◌, if◌then◌else◌, codes, slice_get}
use Rattle.std.specs.Int.{w32, cast_unsigned}
use Rattle.mc_nbt.specs.Word.{is_int}
use Rattle.mc_cmd.specs.Command.{subtract, up_to}
use Rattle.mc_cmd.specs.World.{wrapped, or_zero, is_in, some_is_in}
use Rattle.wm_ast.specs.declared.answer.TrapKind.{TrapKind}
use Rattle.wm_ast.specs.declared.answer.TrapKind.TheVariants as trap_kinds
use Rattle.wm_ast.specs.declared.module.Module.{Module}
use Rattle.wm_ast.specs.Instance.{first_store}
use Rattle.wm_ast.specs.Step.{function, refused, target}
use Rattle.wm_ast.specs.Store as stores
use Rattle.wm_flat.specs.Program.{IsProgram}
use Rattle.cc_line.specs.Key.{score_trap}
use Rattle.cc_line.specs.Place.{scratch}
use Rattle.cc_line.specs.Routine.{Traps, trap_number}
use Rattle.cc_line.specs.State.{State, place_at, with_score}
use Rattle.cc_line.specs.Step.{flow, combined}
use Rattle.cc_line.specs.Item.{no_more, steps_items}
use Rattle.cc_line.proofs.RunLemmas.{Leads, Halts, leads_none, leads_first, leads_join, halts_first, halts_here, halts_join}
use Rattle.cc_line.proofs.Words.{unwrapped_pos}
use Rattle.cc_call.specs.Frames.{first_opening}
use Rattle.cc_table.specs.Look.{look_by}
use Rattle.cc_table.specs.Target.{target_number, element_number, call_numbers, call_helper, refuse_steps, target_items}
use Rattle.cc_table.specs.Law.{Nearby, Finds, TargetsAreFound}
use Rattle.cc_table.proofs.Elements.{number_is, numbers_few}
use Rattle.cc_table.proofs.Found.{looked, looked_near, look_by_leads, finds_so}
use Rattle.cc_table.proofs.Nearby.{near_then, near_score}

-- ---- what follows the look-up

-- a function: nothing
passed : (t : State) (k : ℕ) → t.scores (codes "#c") ≡ Some (pos k) → Leads (steps_items refuse_steps) t t
passed t k e =
    let tests : Option ℤ → Bool = λ o. some_is_in (up_to (negsuc 0)) o && true in
    let after : State = combined t (scratch score_trap) subtract (t.scores (codes "#c")) in
    leads_first _ t _ t t 2 ((tt, tt), λ q. (tt, tt)) (ap (λ o. flow false (if tests o then after else t) 2) e)
    (leads_first _ t no_more t t 2 (tt, tt) (ap (λ o. flow (tests o) t 2) e) (leads_none t))

-- the state in which a trap is recorded
abbrev trapped : State → ℕ → State
trapped t n = with_score t score_trap (pos n)

risen : (k : TrapKind) → wrapped (pos 0 -ℤ (pos 0 -ℤ pos (trap_number k))) ≡ pos (trap_number k)
risen trap_kinds.Unreachable = unwrapped_pos 1 (omega arith)
risen trap_kinds.DivideByZero = unwrapped_pos 2 (omega arith)
risen trap_kinds.Overflow = unwrapped_pos 3 (omega arith)
risen trap_kinds.OutOfBounds = unwrapped_pos 4 (omega arith)
risen trap_kinds.UndefinedElement = unwrapped_pos 5 (omega arith)
risen trap_kinds.UninitializedElement = unwrapped_pos 6 (omega arith)
risen trap_kinds.TypeMismatch = unwrapped_pos 7 (omega arith)
risen trap_kinds.StackExhausted = unwrapped_pos 8 (omega arith)

below_zero : (k : TrapKind) → is_in (up_to (negsuc 0)) (pos 0 -ℤ pos (trap_number k)) ≡ true
below_zero trap_kinds.Unreachable = refl
below_zero trap_kinds.DivideByZero = refl
below_zero trap_kinds.Overflow = refl
below_zero trap_kinds.OutOfBounds = refl
below_zero trap_kinds.UndefinedElement = refl
below_zero trap_kinds.UninitializedElement = refl
below_zero trap_kinds.TypeMismatch = refl
below_zero trap_kinds.StackExhausted = refl

-- a trap: it is recorded, and the items end
stopped : (t : State) (k : TrapKind) → t.scores (codes "#c") ≡ Some (pos 0 -ℤ pos (trap_number k)) → t.scores score_trap ≡ Some (pos 0) → Halts (steps_items refuse_steps) t (trapped t (trap_number k))
stopped t k e z =
    let c : ℤ = pos 0 -ℤ pos (trap_number k) in
    let tests : Option ℤ → Bool = λ o. some_is_in (up_to (negsuc 0)) o && true in
    let holds : tests (t.scores (codes "#c")) ≡ true = ap tests e ∙ ap (λ b. b && true) (below_zero k) in
    let u : State = trapped t (trap_number k) in
    let recorded : combined t (scratch score_trap) subtract (t.scores (codes "#c")) ≡ u =
    ap (combined t (scratch score_trap) subtract) e ∙ ap (λ o. with_score t score_trap (wrapped (or_zero o -ℤ c))) z ∙ ap (with_score t score_trap) (risen k) in
    halts_first _ t _ u u 2 ((tt, tt), λ q. (tt, tt))
    (ap (λ b. flow false (if b then combined t (scratch score_trap) subtract (t.scores (codes "#c")) else t) 2) holds ∙ ap (λ v. flow false v 2) recorded)
    (halts_here _ u no_more u 2 (tt, tt) (ap (λ b. flow b u 2) holds))

-- ---- the look-up

module _ (m : Module) (program : IsProgram m) (n i : ℕ) (z : ℤ) (s : State) (int : is_int z ≡ true) (l : i < length s.places) (at : place_at s i ≡ z) where
  abbrev begun : State
  begun = with_score s (codes "#a") (place_at s i)

  abbrev there : State
  there = looked (call_numbers m n) (element_number m n None) z begun

  there_near : Nearby s there
  there_near = near_then s begun there (near_score s (codes "#a") (place_at s i) refl) (looked_near (call_numbers m n) (element_number m n None) z begun)

  there_leads : Leads (look_by (call_helper n) (call_numbers m n) (element_number m n None)) begun there
  there_leads =
      let few = numbers_few m program n in
      look_by_leads (call_numbers m n) (element_number m n None) z begun (omega arith) int (ap (λ x. Some x) at) (call_helper n)

  module _ (st : stores.Store) (same : st.table ≡ (first_store m).table) where
    there_number : there.scores (codes "#c") ≡ Some (target_number (target m st n z))
    there_number = ap (λ x. Some x) (number_is m n (cast_unsigned w32 z) ∙ ap (λ t. element_number m n (slice_get t (cast_unsigned w32 z))) (sym same))

    is_found : (f : ℕ) → target m st n z ≡ function f → Finds (target_items m n i) s (pos (first_opening + f))
    is_found f e =
        let found : there.scores (codes "#c") ≡ Some (pos (first_opening + f)) = there_number ∙ ap (λ t. Some (target_number t)) e in
        finds_so (target_items m n i) s there (pos (first_opening + f))
        (leads_first _ s _ begun there _ l refl
        (leads_join (look_by (call_helper n) (call_numbers m n) (element_number m n None)) (steps_items refuse_steps) begun there there there_leads (passed there (first_opening + f) found)))
        found there_near

    is_trapped : s.scores score_trap ≡ Some (pos 0) → (k : TrapKind) → target m st n z ≡ refused k → Traps (target_items m n i) s (trap_number k)
    is_trapped none k e =
        let u : State = trapped there (trap_number k) in
        let all : Halts (target_items m n i) s u =
        halts_first _ s _ begun u _ l refl
        (halts_join (look_by (call_helper n) (call_numbers m n) (element_number m n None)) (steps_items refuse_steps) begun there u there_leads
        (stopped there k (there_number ∙ ap (λ t. Some (target_number t)) e) (there_near.scores score_trap refl ∙ none))) in
        record {
          ready = all.ready;
          state = u;
          used = all.used;
          ends = all.ends;
          recorded = refl;
          places = there_near.places;
          keys = there_near.keys;
          scores = λ h q w d. ap (λ b. if b then Some (pos (trap_number k)) else there.scores h) d ∙ there_near.scores h w;
        }

pub targets_are_found : TargetsAreFound
targets_are_found m program st same n i z s int l at none = record {
  finds = is_found m program n i z s int l at st same;
  traps = is_trapped m program n i z s int l at st same none;
}
