-- A running pack, by the parts that are looked at one behind the other.
use Rattle.std.proofs.Common.{◌≡◌, Bool, true, Option, Some, None, refl, sym, ◌∙◌, rules}
use Rattle.std.specs.Prelude.{ℤ, is_some, option_map, pos}
use Rattle.mc_nbt.specs.Tree.{Tree, int}
use Rattle.mc_nbt.specs.View.{view}
use Rattle.mc_nbt.specs.declared.tree.Nbt.TheVariants.{Int}
use Rattle.mc_nbt.specs.declared.tree.NbtList.{the_lemmas}
use Rattle.mc_cmd.specs.Form.{Text}
use Rattle.mc_cmd.specs.World.{World}
use Rattle.cc_line.specs.Key.{key_end, key_state, score_trap}
use Rattle.cc_line.specs.Sight.{in_io, in_rest}
use Rattle.cc_line.specs.State.{State}
use Rattle.cc_simulate.specs.Stands.{Running}
use Rattle.pk_sight.specs.Shown.{IsStateOf}
use Rattle.pk_sight.specs.steps.Parts.{IsUnderWay, HasConstants, HasTables, HasByteTables}
use Rattle.pk_sight.proofs.ShownLemmas.{key_shallow}

-- an int is seen as one
pub int_seen : (z : ℤ) → view (Int z) ≡ int z
int_seen z = search (rules, the_lemmas)

pub way_of : (bytes : Bool) (s : State) → Running bytes s → IsUnderWay s
way_of bytes s r = record { trap = r.trap; state = r.state; ending = r.ending }

pub constants_of : (bytes : Bool) (s : State) → Running bytes s → HasConstants s
constants_of bytes s r = record {
  two = r.standing.two;
  thirty_two = r.standing.thirty_two;
  half_word = r.standing.half_word;
  least = r.standing.least;
}

pub tables_of : (bytes : Bool) (s : State) → Running bytes s → HasTables s
tables_of bytes s r = record {
  left = r.standing.left;
  right_signed = r.standing.right_signed;
  right = r.standing.right;
  turn_left = r.standing.turn_left;
  turn_right = r.standing.turn_right;
}

pub byte_tables_of : (s : State) → Running true s → HasByteTables s
byte_tables_of s r = record {
  low = r.standing.low refl;
  high = r.standing.high refl;
  ands = r.standing.ands refl;
  raised = r.standing.raised refl;
}

-- all of them together
pub running_from : (bytes : Bool) (s : State) → IsUnderWay s → HasConstants s → HasTables s → (bytes ≡ true → HasByteTables s) → Running bytes s
running_from bytes s w c t b = record {
  trap = w.trap;
  state = w.state;
  ending = w.ending;
  standing = record {
    two = c.two;
    thirty_two = c.thirty_two;
    half_word = c.half_word;
    least = c.least;
    low = λ e. (b e).low;
    high = λ e. (b e).high;
    ands = λ e. (b e).ands;
    raised = λ e. (b e).raised;
    left = t.left;
    right_signed = t.right_signed;
    right = t.right;
    turn_left = t.turn_left;
    turn_right = t.turn_right;
  };
}

-- the last part of what is under way: whether the state is told in which the job ends
pub way_by_end : (ns : Text) (w : World) (s : State) → IsStateOf ns w s → s.scores score_trap ≡ Some (pos 0) → s.keys in_io key_state ≡ Some (int (pos 1))
    → {A : Type 0} (f : A → Tree) (o : Option A) → option_map f o ≡ s.keys in_rest key_end → (is_some o ≡ true → IsUnderWay s) × (IsUnderWay s → is_some o ≡ true)
way_by_end ns w s h trap state f None e =
    (λ b. absurd cc, λ r. let (t, there, low) = r.ending in let none : None ≡ Some t = e ∙ there in absurd cc)
way_by_end ns w s h trap state f (Some a) e =
    (λ b. record { trap = trap; state = state; ending = (f a, sym e, key_shallow ns w s h in_rest key_end (f a) refl (sym e)) }, λ r. refl)
