-- What stands while a pack runs, for routines to use: constants and tables that no line writes once they are laid down.
use Rattle.std.specs.Prelude.{◌≡◌, ℤ, pos, negsuc, Option, Some, Bool, true, false}
use Rattle.mc_nbt.specs.Tree.{Tree}
use Rattle.wm_ast.specs.declared.operation.NumOp.{NumOp}
use Rattle.wm_ast.specs.declared.operator.Operator.{Operator}
use Rattle.wm_ast.specs.declared.operator.Operator.TheVariants.{Binary}
use Rattle.wm_ast.specs.declared.operator.BinaryOp.TheVariants.{And, Or, Xor}
use Rattle.wm_ast.specs.Operator.{operator_of}
use Rattle.cc_line.specs.declared.table.Table.TheVariants as tables
use Rattle.cc_line.specs.Sight.{in_rest}
use Rattle.cc_line.specs.Key.{score_two, score_thirty_two, score_half_word, score_least}
use Rattle.cc_line.specs.Key.{key_low, key_high, key_and, key_raised, key_left, key_right_signed, key_right}
use Rattle.cc_line.specs.Key.{key_turn_left, key_turn_right}
use Rattle.cc_line.specs.State.{State}
use Rattle.cc_line.specs.Table.{table_tree}

-- and, or, xor look bytes up; nothing else does
abbrev pub looks_bytes_up : Operator → Bool
looks_bytes_up (Binary k And) = true
looks_bytes_up (Binary k Or) = true
looks_bytes_up (Binary k Xor) = true
looks_bytes_up _ = false

abbrev pub takes_bytes : NumOp → Bool
takes_bytes op = looks_bytes_up (operator_of op)

-- the scores that stand have these numbers, and the keys these tables; those of bytes only where they are needed
pub record Stand (bytes : Bool) (e1 e5 e16 e31 : Option ℤ) (k1 k2 k3 k4 k5 k6 k7 k8 k9 : Option Tree) : Type 0 where
  pub two : e1 ≡ Some (pos 2)
  pub thirty_two : e5 ≡ Some (pos 32)
  pub half_word : e16 ≡ Some (pos 65536)
  pub least : e31 ≡ Some (negsuc 2147483647)
  pub low : bytes ≡ true → k1 ≡ Some (table_tree tables.LowByte)
  pub high : bytes ≡ true → k2 ≡ Some (table_tree tables.HighByte)
  pub ands : bytes ≡ true → k3 ≡ Some (table_tree tables.ByteAnd)
  pub raised : bytes ≡ true → k4 ≡ Some (table_tree tables.RaisedAnd)
  pub left : k5 ≡ Some (table_tree tables.ShiftLeft)
  pub right_signed : k6 ≡ Some (table_tree tables.ShiftRightSigned)
  pub right : k7 ≡ Some (table_tree tables.ShiftRight)
  pub turn_left : k8 ≡ Some (table_tree tables.RotateLeft)
  pub turn_right : k9 ≡ Some (table_tree tables.RotateRight)

-- in a state; the tables of bytes where they are needed
abbrev pub Standing : Bool → State → Type 0
Standing bytes s =
    Stand bytes (s.scores score_two) (s.scores score_thirty_two) (s.scores score_half_word) (s.scores score_least)
    (s.keys in_rest key_low) (s.keys in_rest key_high) (s.keys in_rest key_and) (s.keys in_rest key_raised)
    (s.keys in_rest key_left) (s.keys in_rest key_right_signed) (s.keys in_rest key_right)
    (s.keys in_rest key_turn_left) (s.keys in_rest key_turn_right)
