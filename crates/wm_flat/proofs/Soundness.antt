-- A program that has a typing is never stuck.
use Rattle.std.proofs.Common.{◌≡◌, ℕ, zero, suc, ◌+◌, ◌-◌, ◌<◌, List, [], length, reverse, true, Option, Some, None, refl, sym, ap, subst, ◌∙◌, arith}
use Rattle.std.specs.Prelude.{slice_get}
use Rattle.std.proofs.lemmas.List.{reverse-reverse}
use Rattle.mc_nbt.specs.declared.value.Value.{Value}
use Rattle.wm_ast.specs.declared.item.Item.TheVariants as items
use Rattle.wm_ast.specs.declared.module.ValType.{ValType}
use Rattle.wm_ast.specs.declared.module.FuncType.{FuncType}
use Rattle.wm_ast.specs.declared.module.Func.{Func}
use Rattle.wm_ast.specs.declared.module.Export.{Export}
use Rattle.wm_ast.specs.declared.module.Module.{Module}
use Rattle.wm_ast.specs.declared.module.Space.{Space}
use Rattle.wm_ast.specs.declared.module.Space.TheVariants as spaces
use Rattle.wm_ast.specs.After.{after, IsNext}
use Rattle.wm_ast.specs.Configuration.{Config}
use Rattle.wm_ast.specs.Instance.{first_store, first_config, call_config, is_function, exported_index, exported_functions}
use Rattle.wm_ast.specs.Step.{Progress, Next, Ended, Trapped, Stuck}
use Rattle.wm_ast.specs.Store.{Store}
use Rattle.wm_valid.specs.Valid.{IsThere}
use Rattle.wm_flat.specs.Flat.{Moved, goes, fails, over, none, first_flat, call_flat}
use Rattle.wm_flat.specs.FlatTyping.{Are, TypedStore, IsFunction, TypedFlat, TypedState, IsMoved}
use Rattle.wm_flat.specs.Program.{IsProgram}
use Rattle.wm_flat.specs.Runs.{State, config, moved, IsWithin, Stage}
use Rattle.wm_flat.specs.Sound.{IsSound}
use Rattle.wm_flat.proofs.Consequences.{open_before, leads_reach, further_on, ends_with, trap_after, trap_open}
use Rattle.wm_flat.proofs.EachCount.{stage}
use Rattle.wm_flat.proofs.FirstStore.{first_store_typed}
use Rattle.wm_flat.proofs.ItemLaws.{found_below, kept}
use Rattle.wm_flat.proofs.Keeps.{keeps, leads_typed}
use Rattle.wm_flat.proofs.Outcomes.{first_is}
use Rattle.wm_flat.proofs.ValueLaws.{are_none, are_reverse}

open_is_sound : (m : Module) (ts : List ValType) (p : Progress) → IsNext p → IsSound m ts p
open_is_sound m ts (Next c) h = tt
open_is_sound m ts (Ended vs s) h = absurd h
open_is_sound m ts (Trapped k s) h = absurd h
open_is_sound m ts Stuck h = absurd h

-- up to the next move of a state that it leads to
module _ (m : Module) (results : List ValType) (c : State) (n : ℕ) (g : Stage m c n) (d : TypedState m results g.state) where
  by_move : (x : Moved) → moved m g.state ≡ x → IsWithin n g.steps x → IsMoved m results x → IsSound m (reverse results) (after m (config c) n)
  by_move (goes j s f) e w t =
      let b : State = record { store = s; flat = f } in
      open_is_sound m (reverse results) (after m (config c) n)
      (open_before m (g.steps + j) (config c) (config b) n w.0 (leads_reach m (g.steps + j) c b (further_on m g.steps j c g.state b g.leads e)))
  by_move (fails i k) e w t = by_rest (n - (g.steps + i)) refl
    where
      by_rest : (r : ℕ) → n - (g.steps + i) ≡ r → IsSound m (reverse results) (after m (config c) n)
      by_rest zero h = open_is_sound m (reverse results) (after m (config c) n) (trap_open m g.steps i n k c g.state g.leads e (omega arith))
      by_rest (suc r) h =
          let z : n ≡ g.steps + i + suc r = omega arith in
          subst (IsSound m (reverse results)) (sym (ap (after m (config c)) z ∙ trap_after m g.steps i r k c g.state g.leads e)) d.store
  by_move (over vs) e w t =
      let l = g.done in
      let z : n ≡ g.steps + (n - g.steps) = omega arith in
      subst (IsSound m (reverse results)) (sym (ap (after m (config c)) z ∙ ends_with m g.steps (n - g.steps) c g.state vs g.leads e)) (d.store, are_reverse results vs t)
  by_move none e w t = absurd t

pub sound : (m : Module) (results : List ValType) (c : State) (n : ℕ) → IsProgram m → TypedState m results c → IsSound m (reverse results) (after m (config c) n)
sound m results c n p t =
    let g = stage m c n in
    let d = leads_typed m results g.steps c g.state p t g.leads in
    by_move m results c n g d (moved m g.state) refl g.within (keeps m results g.state.store g.state.flat p d.store d.flat)

-- The calls of functions.

pub call_is_typed : (m : Module) (s : Store) (n : ℕ) (f : Func) (t : FuncType) (arguments : List Value) → TypedStore m s → IsFunction m n f t → Are t.params arguments
    → TypedState m (reverse t.results) (record { store = s; flat = call_flat n arguments })
call_is_typed m s n f t arguments st i a = record { store = st; flat = (f, t, i, are_reverse t.params arguments a, refl) }

pub call_is_sound : (m : Module) (s : Store) (n : ℕ) (f : Func) (t : FuncType) (arguments : List Value) (k : ℕ) → IsProgram m → TypedStore m s → IsFunction m n f t → Are t.params arguments
    → IsSound m t.results (after m (call_config s n arguments) k)
call_is_sound m s n f t arguments k p st i a =
    subst (λ (l : List ValType). IsSound m l (after m (call_config s n arguments) k)) (reverse-reverse t.results)
    (sound m (reverse t.results) (record { store = s; flat = call_flat n arguments }) k p (call_is_typed m s n f t arguments st i a))

-- a function that is there has its type
pub is_function_at : (m : Module) (n : ℕ) → IsProgram m → n < length m.funcs → (f : Func) × (t : FuncType) × IsFunction m n f t
is_function_at m n p h =
    let f = found_below m.funcs n h in
    let t = p.valid.bodies n f.0 f.1 in
    (f.0, t.0, record { there = f.1; has_type = t.1 })

-- so has each that is exported
pub exported : (m : Module) (k index : ℕ) → IsProgram m → slice_get (exported_functions m) k ≡ Some index → (f : Func) × (t : FuncType) × IsFunction m index f t
exported m k index p e =
    let x = kept exported_index (λ (e : Export). is_function e.space) m.exports k index e in
    let v = p.valid.items items.Exports x.place x.item x.there in
    is_function_at m index p (subst (λ i. i < length m.funcs) x.seen (there x.item.space x.item.index v.there x.passes))
  where
    there : (space : Space) (n : ℕ) → IsThere m space n → is_function space ≡ true → n < length m.funcs
    there spaces.Func n h q = h
    there spaces.Table n h q = absurd cc
    there spaces.Memory n h q = absurd cc
    there spaces.Global n h q = absurd cc

-- The start of a program.

start_is_typed : (m : Module) (o : Option ℕ) → IsProgram m → m.start ≡ o → TypedFlat m [] (first_flat o)
start_is_typed m None p e = are_none
start_is_typed m (Some n) p e =
    let v = p.valid.items items.Start 0 n refl e in (
      v.function,
      v.plain.type,
      record { there = v.there; has_type = v.plain.named },
      subst (λ (l : List ValType). Are (reverse l) []) (sym v.plain.params) are_none,
      ap (λ (l : List ValType). reverse l) v.plain.results,
    )

pub first_is_typed : (m : Module) → IsProgram m → TypedState m [] (record { store = first_store m; flat = first_flat m.start })
first_is_typed m p = record { store = first_store_typed m p; flat = start_is_typed m m.start p refl }

pub first_is_sound : (m : Module) (k : ℕ) → IsProgram m → IsSound m [] (after m (first_config m) k)
first_is_sound m k p = subst (λ (c : Config). IsSound m [] (after m c k)) (first_is m) (sound m [] (record { store = first_store m; flat = first_flat m.start }) k p (first_is_typed m p))
