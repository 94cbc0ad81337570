-- The operands that a branch leaves.
use Rattle.std.proofs.Common.{◌≡◌, ℕ, zero, suc, List, [], ◌∷◌, ◌++◌, length, take, Bool, true, false, cond}
use Rattle.std.proofs.Common.{Option, Some, None, refl, sym, ap, ◌∙◌, append_assoc}
use Rattle.std.specs.Prelude.{nat_lt}
use Rattle.mc_nbt.specs.declared.value.Value.{Value}
use Rattle.wm_ast.specs.declared.module.Module.{Module}
use Rattle.wm_ast.specs.Step.{top}
use Rattle.wm_ast.specs.Store.{Store}
use Rattle.wm_flat.specs.Flat.{Level, Activation, starting, running, finished, Moved, goes, fails, over, none, count_of}
use Rattle.wm_flat.specs.Flat.{carried, jump}
use Rattle.wm_flat.specs.Operands.{under, IsCarried}

-- one block further out
outward : (vs : List Value) (lv : Level) (lvs : List Level) (x : Moved) → IsCarried vs lvs x → IsCarried vs (lv ∷ lvs) x
outward vs lv lvs (goes n s (running cs b)) t = record {
  target = t.target;
  outer = t.outer;
  front = lv.values ++ t.front;
  parts =
      ap (λ (l : List Value). lv.values ++ l) t.parts
      ∙ sym (append_assoc lv.values t.front (under (t.target ∷ t.outer)));
  after_it = t.after_it;
}
outward vs lv lvs (goes n s (starting f us)) t = tt
outward vs lv lvs (goes n s (finished us)) t = tt
outward vs lv lvs (fails i k) t = tt
outward vs lv lvs (over us) t = tt
outward vs lv lvs none t = tt

pub top_taken : (n : ℕ) (vs us : List Value) → top n vs ≡ Some us → us ≡ take n vs
top_taken n vs us e = by_test (nat_lt (length vs) n) e
  where
    by_test : (b : Bool) → cond b None (Some (take n vs)) ≡ Some us → us ≡ take n vs
    by_test true w = absurd cc
    by_test false w = cc

module _ (m : Module) (s : Store) (cs : List Activation) (a : Activation) where
  carried_operands : (n : ℕ) (vs : List Value) (lv : Level) (lvs : List Level) (o : Option (List Value))
      → ((us : List Value) → o ≡ Some us → us ≡ take (count_of lv.block.op) vs)
      → IsCarried vs (lv ∷ lvs) (carried m s cs a n lv lvs o)
  carried_operands n vs lv lvs None h = tt
  carried_operands n vs lv lvs (Some us) h = record {
    target = lv;
    outer = lvs;
    front = [];
    parts = refl;
    after_it =
        append_assoc us lv.values (under lvs)
        ∙ ap (λ (l : List Value). l ++ (lv.values ++ under lvs)) (h us refl);
  }

  pub jump_operands : (n l : ℕ) (vs : List Value) (lvs : List Level) → IsCarried vs lvs (jump m s cs a n l vs lvs)
  jump_operands n l vs [] = tt
  jump_operands n zero vs (lv ∷ lvs) =
      carried_operands n vs lv lvs (top (count_of lv.block.op) vs) (λ us e. top_taken (count_of lv.block.op) vs us e)
  jump_operands n (suc l) vs (lv ∷ lvs) = outward vs lv lvs (jump m s cs a n l vs lvs) (jump_operands n l vs lvs)
