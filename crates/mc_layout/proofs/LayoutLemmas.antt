-- The public layout, as the program's world shows it.
use Rattle.std.proofs.Common.{◌≡◌, ◌≤◌, zero, suc, ℕ, List, [], ◌∷◌, length, map, Option, Some, None, refl, sym, arith}
use Rattle.std.specs.Prelude.{pos, negsuc, nat_eq, nat_lt, ◌&&◌, Bool, true, false, if◌then◌else◌, option_map, codes}
use Rattle.std.proofs.lemmas.Bool.Decides.{nat_tests}
use Rattle.mc_nbt.specs.Tree.{Tree, int, string, list, compound, Items, no_items, item, items, list_of}
use Rattle.mc_cmd.specs.Form.{Text}
use Rattle.mc_cmd.specs.World.{World}
use Rattle.mc_cmd.specs.Layout.{io_value, Answer, done, trap, dead, answer, answer_in, result_in, trap_in, value_in}
use Rattle.mc_layout.specs.State.{int_in}
use Rattle.mc_layout.specs.steps.Numbers.{answer_from, lacks_items, trap_of}

-- a trap by its number
trap-of : (how : ℕ → Answer) (o : Option Tree) → trap_in how o ≡ trap_of how (int_in o)
trap-of how None = refl
trap-of how (Some (string s)) = refl
trap-of how (Some (list ts)) = refl
trap-of how (Some (compound fs)) = refl
trap-of how (Some (int (negsuc n))) = refl
trap-of how (Some (int (pos k))) = go (nat_lt 0 k && nat_lt k 9)
  where
    go : (b : Bool) → (if b then Some (how k) else None) ≡ option_map how (if b then Some k else None)
    go true = refl
    go false = refl

-- the answer is that of the three keys
pub answer-from : (ns : Text) (w : World) → answer ns w ≡ answer_from (int_in (io_value ns w (codes "state"))) (io_value ns w (codes "result")) (int_in (io_value ns w (codes "trap")))
answer-from ns w = go (io_value ns w (codes "state"))
  where
    go : (o : Option Tree) → answer_in ns w o ≡ answer_from (int_in o) (io_value ns w (codes "result")) (int_in (io_value ns w (codes "trap")))
    go None = refl
    go (Some (string s)) = refl
    go (Some (list ts)) = refl
    go (Some (compound fs)) = refl
    go (Some (int (negsuc n))) = refl
    go (Some (int (pos zero))) = refl
    go (Some (int (pos (suc zero)))) = refl
    go (Some (int (pos (suc (suc zero))))) = refl
    go (Some (int (pos (suc (suc (suc zero)))))) = trap-of trap (io_value ns w (codes "trap"))
    go (Some (int (pos (suc (suc (suc (suc zero))))))) = trap-of dead (io_value ns w (codes "trap"))
    go (Some (int (pos (suc (suc (suc (suc (suc n)))))))) = refl

-- a list that isn't empty is a result where it is a value
pub result_in-list : (ts : Items) → result_in (Some (list ts)) ≡ (if lacks_items ts then Some (done None) else option_map (λ v. done (Some v)) (value_in (list ts)))
result_in-list no_items = refl
result_in-list (item t ts) = refl

pub lacks_items-items : (ts : List Tree) → lacks_items (items ts) ≡ nat_eq (length ts) 0
lacks_items-items [] = refl
lacks_items-items (t ∷ ts) =
    let some : nat_eq (suc (length ts)) 0 ≡ false = grind (arith, nat_tests) in
    sym some

-- a list of more than two elements is no value
pub no_value : {A : Type 0} (f : A → Tree) (xs : List A) → 3 ≤ length xs → None ≡ value_in (list_of (map f xs))
no_value f [] h = absurd (omega arith)
no_value f (x ∷ []) h = absurd (omega arith)
no_value f (x ∷ y ∷ []) h = absurd (omega arith)
no_value f (x ∷ y ∷ z ∷ xs) h = go (f x) (f y)
  where
    go : (t u : Tree) → None ≡ value_in (list_of (t ∷ u ∷ map f (z ∷ xs)))
    go (int a) (int b) = refl
    go (int a) (string s) = refl
    go (int a) (list ts) = refl
    go (int a) (compound fs) = refl
    go (string s) u = refl
    go (list ts) u = refl
    go (compound fs) u = refl
