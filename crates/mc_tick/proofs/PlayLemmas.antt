-- One pack that runs alone in a world.
use Rattle.std.proofs.Common.{◌≡◌, ◌∙◌, ap, sym, refl, ℕ, List, [], ◌∷◌, map, Option, Some, None, subst}
use Rattle.std.specs.Prelude.{ℤ, is_none, option_map, slice_get, true, false, Bool}
use Rattle.std.specs.List.{list_all}
use Rattle.std.specs.Option.{option_eq}
use Rattle.std.specs.Ordering.{int_eq}
use Rattle.std.proofs.lemmas.Bool.Decides.{Decides-int_eq}
use Rattle.std.proofs.lemmas.Option.{slice_get-map}
use Rattle.mc_nbt.specs.Value.{kind_of, is_value}
use Rattle.mc_nbt.specs.declared.value.Value.{Value}
use Rattle.mc_cmd.specs.Chain.{Functions}
use Rattle.mc_cmd.specs.Layout.{running}
use Rattle.mc_cmd.specs.Packing.{Written, export_view, index_view, pack_view}
use Rattle.mc_cmd.specs.Pack as spec
use Rattle.mc_cmd.specs.Pack.{IsCallOf}
use Rattle.mc_cmd.specs.World.{World, empty_world}
use Rattle.mc_cmd.specs.declared.pack.Index.{Index}
use Rattle.mc_cmd.specs.declared.pack.ExportType.{ExportType}
use Rattle.mc_cmd.proofs.PackLemmas.{functions_of-one}
use Rattle.mc_engine.specs.EngineView.{shown}
use Rattle.mc_layout.specs.State.{state_in}
use Rattle.mc_layout.specs.AnswerView.{answer_view}
use Rattle.mc_layout.specs.declared.answers.Answer.{Answer}
use Rattle.mc_layout.specs.declared.answers.Answer.TheVariants.{New, Running, Done, Trap, Dead}
use Rattle.mc_tick.specs.Answers.{AreOfKinds}
use Rattle.mc_tick.specs.PlayView.{play_state}
use Rattle.mc_tick.specs.declared.play.Play.{Play}
use Rattle.mc_tick.specs.Packs.{as_one}
use Rattle.mc_tick.specs.steps.Untouched.{IsEmpty}

pub alone : (p : Written) → as_one (p ∷ []) ≡ pack_view p
alone p = ap (λ (f : Functions). record (pack_view p) { functions = f }) (functions_of-one (pack_view p))

-- the empty world has nothing anywhere
pub is_empty : (w : World) → w ≡ empty_world → IsEmpty w
is_empty w e = record {
  objectives = λ o. ap (λ (v : World). v.objectives o) e;
  scores = λ h. λ o. ap (λ (v : World). v.scores h o) e;
  storages = λ i. ap (λ (v : World). is_none (v.storages i)) e;
  rule = ap (λ (v : World). v.rule) e;
}

no_storage : {A : Type 0} (o : Option A) → is_none o ≡ true → o ≡ None
no_storage None h = refl
no_storage (Some a) h = absurd cc

-- and is the one that has
pub empty_is : (w : World) → IsEmpty w → w ≡ empty_world
empty_is w e = λ z. record {
  objectives = λ o. e.objectives o z;
  scores = λ h. λ o. e.scores h o z;
  storages = λ i. no_storage (w.storages i) (e.storages i) z;
  rule = e.rule z;
}

-- only the answer that it is running is told so
pub told_running : (o : Option Answer) → option_map answer_view o ≡ Some running → o ≡ Some Running
told_running None h = absurd cc
told_running (Some New) h = absurd cc
told_running (Some Running) h = refl
told_running (Some (Done v)) h = absurd cc
told_running (Some (Trap k)) h = absurd cc
told_running (Some (Dead k)) h = absurd cc

-- an export of the pack
pub export_found : (i : Index) (s : spec.Index) (k : ℕ) (o : Option ExportType) → index_view i ≡ s → o ≡ slice_get i.exports.items k → slice_get s.exports k ≡ option_map export_view o
export_found i s k o e f = ap (λ (j : spec.Index). slice_get j.exports k) (sym e) ∙ slice_get-map export_view i.exports.items k ∙ ap (option_map export_view) (sym f)

pub of_kinds : (o : Option spec.ExportType) (e : ExportType) (args : List Value) → o ≡ Some (export_view e) → map kind_of args ≡ e.params.items → AreOfKinds o args
of_kinds o e args f h = let P : Option spec.ExportType → Type 0 = λ p. AreOfKinds p args in subst P (sym f) h

pub call_of : (o : Option spec.ExportType) (args : List Value) → AreOfKinds o args → list_all is_value args ≡ true → IsCallOf o args
call_of None args h v = h
call_of (Some e) args h v = (h, v)

pub clash : (b : Bool) → b ≡ true → b ≡ false → ⊥
clash b h g = cc

-- the test of an optional number
pub is_number : (b : Bool) (o : Option ℤ) (z : ℤ) → b ≡ option_eq int_eq o (Some z) → b ≡ true → o ≡ Some z
is_number b None z e h = absurd cc
is_number b (Some y) z e h = ap Some ((Decides-int_eq y z).0 (sym e ∙ h))

pub is_other_number : (b : Bool) (o : Option ℤ) (z : ℤ) → b ≡ option_eq int_eq o (Some z) → b ≡ false → o ≡ Some z → ⊥
is_other_number b o z e h g =
    clash b (e ∙ ap (λ p. option_eq int_eq p (Some z)) g ∙ (Decides-int_eq z z).1 refl) h

-- what a play's names say of its state
pub state_of_play : (p : Play) → state_in p.names.ns (shown p.engine).world ≡ state_in (play_state p).pack.index.ns (play_state p).standing.world
state_of_play p = ap (λ ns. state_in ns (shown p.engine).world) p.named
