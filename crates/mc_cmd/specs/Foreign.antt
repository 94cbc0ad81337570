-- Commands of somebody else: which kinds of commands they are, and what of a namespace they name.
use Rattle.std.specs.Prelude.{◌≡◌, List, [], ◌∷◌, Bool, true, false, ◌||◌, Option}
use Rattle.std.specs.Prelude.{find}
use Rattle.std.specs.Str.{bytes_eq}
use Rattle.mc_cmd.specs.Form.{Text}
use Rattle.mc_cmd.specs.Command.{Cmd, Simple, plain, execute}
use Rattle.mc_cmd.specs.Command.{objective_add, score_set, score_add, score_remove, score_get, score_op, score_reset}
use Rattle.mc_cmd.specs.Command.{data_get, set_value, set_from, append_value, append_from, data_remove}
use Rattle.mc_cmd.specs.Command.{call, call_with, return_value, chain_length}
use Rattle.mc_cmd.specs.World.{World}
use Rattle.mc_cmd.specs.Layout.{io_of, memory_of, rest_of}

-- the names in a command that isn't `execute`: its objectives and its storages, from left to right; a holder, a
-- function and a key of a path are none
abbrev pub simple_names : Simple → List Text
simple_names (objective_add o) = o ∷ []
simple_names (score_set h o z) = o ∷ []
simple_names (score_add h o z) = o ∷ []
simple_names (score_remove h o z) = o ∷ []
simple_names (score_get h o) = o ∷ []
simple_names (score_op h o f g p) = o ∷ p ∷ []
simple_names (score_reset h o) = o ∷ []
simple_names (data_get i ps) = i ∷ []
simple_names (set_value i ps t) = i ∷ []
simple_names (set_from i ps j qs) = i ∷ j ∷ []
simple_names (append_value i ps t) = i ∷ []
simple_names (append_from i ps j qs) = i ∷ j ∷ []
simple_names (data_remove i ps) = i ∷ []
simple_names (call f) = []
simple_names (call_with f i ps) = i ∷ []
simple_names (return_value z) = []
simple_names chain_length = []

-- whether the command is one of `scoreboard` or of `data`
abbrev pub is_foreign_kind : Simple → Bool
is_foreign_kind (call f) = false
is_foreign_kind (call_with f i ps) = false
is_foreign_kind (return_value z) = false
is_foreign_kind chain_length = false
is_foreign_kind s = true

abbrev pub is_foreign : Cmd → Bool
is_foreign (plain s) = is_foreign_kind s
is_foreign (execute ss s) = false

-- whether a name is a namespace's own: its objective, or one of its three storages
abbrev pub is_own : Text → Text → Bool
is_own ns name =
    bytes_eq name ns || (bytes_eq name (io_of ns) || (bytes_eq name (memory_of ns) || bytes_eq name (rest_of ns)))

-- the first name in a command that is the namespace's own; no command of somebody else has sub-commands
abbrev pub first_own : Text → Cmd → Option Text
first_own ns (plain s) = find (is_own ns) (simple_names s)
first_own ns (execute ss s) = find (is_own ns) (simple_names s)

-- what stands under a name is as it was: its objective with its scores, and its storage
pub record IsKept (name : Text) (before after : World) : Type 0 where
  pub objective : after.objectives name ≡ before.objectives name
  pub scores : (h : Text) → after.scores h name ≡ before.scores h name
  pub storage : after.storages name ≡ before.storages name
