-- The numbers of the profile are enough for turns, ticks, reloads and calls.
use Rattle.std.proofs.Common.{◌≡◌, ℕ, ◌<◌, ◌≤◌, Some, true, arith}
use Rattle.std.specs.Prelude.{pos}
use Rattle.mc_nbt.specs.Tree.{Tree, int}
use Rattle.mc_cmd.specs.declared.TheConstants.{BMIN, PIECE}
use Rattle.mc_cmd.specs.Form.{Text}
use Rattle.mc_cmd.specs.Chain.{Functions}
use Rattle.mc_cmd.specs.Layout.{full_name}
use Rattle.mc_cmd.specs.Pack.{IsBudget}
use Rattle.mc_cmd.specs.Word.{is_namespace}
use Rattle.mc_cmd.specs.World.{World}
use Rattle.cc_line.specs.Item.{Items, run_items}
use Rattle.cc_line.specs.Key.{key_state, PieceId}
use Rattle.cc_line.specs.Sight.{in_io, Shows}
use Rattle.cc_line.specs.State.{seen, State}
use Rattle.cc_sched.specs.Names.{call_name, load_name, next_name, tick_name}
use Rattle.cc_sched.specs.Pieces.{guarded, Idle, IsPieceWeight, Named, Stands, Steady, tick_start, turn_weight}
use Rattle.cc_sched.specs.Sched.{call_texts, HasSched}
use Rattle.cc_sched.specs.Turn.{called_state, Ticked, Turned, Whole}
use Rattle.cc_sched.proofs.Calls.{call_does}
use Rattle.cc_sched.proofs.Reloads.{reload}
use Rattle.cc_sched.proofs.Ticks.{tick, tick_idle}
use Rattle.cc_sched.proofs.Turns.{idle, turn}

from_budget : (b k : ℕ) → IsBudget b → k ≤ BMIN → k ≤ b
from_budget b k h l = let x = h.0 in omega arith

below : (b : ℕ) → IsBudget b → b < 2147483648
below b h = let x : b ≤ 2147483647 = h.1 in omega arith

module _ (functions : Functions) (ns : Text) (n : is_namespace ns ≡ true) (piece : ℕ) (weighs : IsPieceWeight piece) (d : HasSched functions ns piece) where
  some : turn_weight ≤ piece
  some = weighs.0

  most : piece ≤ PIECE
  most = weighs.1

  pub turn_enough : (program : PieceId → Items) (s : State) → s.keys in_io key_state ≡ Some (int (pos 1)) → (p : Named functions ns program piece (guarded s)) → Stands functions ns program piece (run_items (program p.id) (guarded s)).state → (w : World) → Shows ns w (seen s) → Turned functions ns program piece PIECE w (run_items (program p.id) (guarded s)).state
  turn_enough program s e p q = turn functions ns piece n d program s e p q PIECE most

  pub tick_enough : (program : PieceId → Items) (s : State) (b : ℕ) → s.keys in_io key_state ≡ Some (int (pos 1)) → Steady functions ns program piece (tick_start piece b s) → IsBudget b → (w : World) → Shows ns w (seen s) → w.rule ≡ pos b → Ticked functions ns program piece BMIN b w s
  tick_enough program s b e y h w sh r =
      let low : turn_weight ≤ piece = some in
      let high : piece ≤ PIECE = most in
      tick functions ns program piece n d BMIN low (omega arith) (omega arith) s b e y h.0 (below b h) w sh r

  pub turn_rests : (s : State) → Idle s → (w : World) → Shows ns w (seen s) → Whole functions ns next_name PIECE w (seen (guarded s))
  turn_rests s i w sh = idle functions ns piece n d s i PIECE (omega arith) w sh

  pub idle_enough : (s : State) → Idle s → (b : ℕ) → IsBudget b → (w : World) → Shows ns w (seen s) → Whole functions ns tick_name b w (seen (guarded s))
  idle_enough s i b h w sh =
      let high : piece ≤ PIECE = most in
      tick_idle functions ns piece n d (omega arith) s i b (from_budget b 4 h (omega arith)) w sh

  pub reload_enough : (s : State) (t : Tree) → s.keys in_io key_state ≡ Some t → (b : ℕ) → IsBudget b → (w : World) → Shows ns w (seen s) → Whole functions ns load_name b w (seen s)
  reload_enough s t e b h w sh = reload functions ns piece n d s t e b (from_budget b 2 h (omega arith)) w sh

pub call_enough : (functions : Functions) (ns : Text) → is_namespace ns ≡ true → (k f : ℕ) → f < 2147483648 → functions (full_name ns (call_name k)) ≡ Some (call_texts ns f) → (s : State) (w : World) → Shows ns w (seen s) → Whole functions ns (call_name k) BMIN w (seen (called_state f s))
call_enough functions ns n k f l there s w sh = call_does functions ns n k f l there s BMIN (omega arith) w sh
