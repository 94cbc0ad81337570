-- What some short functions do: comments, calls, `return`, patterns and cuts.
use Rattle.std.proofs.Common.{◌≡◌, ℕ, [], ◌∷◌, Option, Some, None, Bool, true, false, refl}
use Rattle.std.specs.Prelude.{ℤ, pos, codes, if◌then◌else◌}
use Rattle.std.specs.Str.{bytes_eq, is_utf8, chars}
use Rattle.std.specs.Fmt.{digits}
use Rattle.std.specs.Int.{int_wrap}
use lib.Utf8.{encode}
use Rattle.mc_nbt.specs.Path.{is_path}
use Rattle.mc_nbt.specs.Word.{is_key}
use Rattle.mc_cmd.specs.Word.{is_objective, is_holder, is_function, is_namespace, is_id, int_value}
use Rattle.mc_cmd.specs.Grammar.{is_comment, subs_read, line_said}
use Rattle.mc_cmd.specs.World.{empty_world}
use Rattle.mc_cmd.specs.Chain.{Texts, Functions, Ended, run, chain, chain_from}

abbrev calling : Texts
calling = codes "scoreboard objectives add o dummy" ∷ codes "# a comment" ∷ codes "scoreboard players set a o 5" ∷ codes "function x:returning" ∷ codes "scoreboard players add a o 1" ∷ []

abbrev returning : Texts
returning = codes "execute if score a o matches 5.. run return 1" ∷ codes "scoreboard players set a o 0" ∷ []

abbrev filling : Texts
filling = codes "scoreboard objectives add o dummy" ∷ codes "data modify storage x:s v set value {n:7,w:\"o\"}" ∷ codes "function x:pattern with storage x:s v" ∷ codes "function x:pattern" ∷ codes "function x:pattern with storage x:s v.n" ∷ []

abbrev pattern : Texts
pattern = codes "$scoreboard players set a $(w) $(n)" ∷ []

abbrev functions : Functions
functions f =
    if bytes_eq f (codes "x:calling") then Some calling
    else if bytes_eq f (codes "x:returning") then Some returning
    else if bytes_eq f (codes "x:filling") then Some filling
    else if bytes_eq f (codes "x:pattern") then Some pattern
    else None

-- the score of `a`, the weight that is left, and whether the chain was cut
abbrev told : Ended → Option ℤ × (ℕ × Bool)
told e = (e.world.scores (codes "a") (codes "o"), (e.left, e.cut))

-- `return` ends its own function alone; a comment weighs nothing, an `execute` 2
returned : told (chain_from functions (codes "x:calling") 10 empty_world) ≡ (Some (pos 6), (4, false))
unfolding chain run line_said subs_read is_comment is_objective is_holder is_function is_namespace is_id is_path is_key int_value is_utf8 chars digits encode int_wrap
returned = refl

-- an `execute` isn't run with a weight of 1
cut_before_execute : told (chain_from functions (codes "x:calling") 4 empty_world) ≡ (Some (pos 5), (1, true))
unfolding chain run line_said subs_read is_comment is_objective is_holder is_function is_namespace is_id is_path is_key int_value is_utf8 chars digits encode int_wrap
cut_before_execute = refl

-- a pattern is filled by a compound; a call without one, or with what is none, fails and weighs 1
filled_by_compound : told (chain_from functions (codes "x:filling") 10 empty_world) ≡ (Some (pos 7), (4, false))
unfolding chain run line_said subs_read is_comment is_objective is_holder is_function is_namespace is_id is_path is_key int_value is_utf8 chars digits encode int_wrap
filled_by_compound = refl

-- a chain that begins with a function that has a pattern, or isn't there, has nothing to run
not_begun : told (chain_from functions (codes "x:pattern") 10 empty_world) ≡ (None, (10, false))
unfolding chain run line_said subs_read is_comment is_objective is_holder is_function is_namespace is_id is_path is_key int_value is_utf8 chars digits encode int_wrap
not_begun = refl

not_there : told (chain_from functions (codes "x:none") 10 empty_world) ≡ (None, (10, false))
unfolding chain run
not_there = refl
