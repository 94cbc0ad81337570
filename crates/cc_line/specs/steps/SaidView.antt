-- What the code says before a command, and the command, as plain data.
use Rattle.std.specs.Prelude.{ℕ, pos, List, [], ◌∷◌, ◌++◌, Option, Some, None}
use Rattle.mc_nbt.specs.Tree.{key, place}
use Rattle.mc_cmd.specs.Form.{Text}
use Rattle.mc_cmd.specs.Layout.{full_name}
use Rattle.mc_cmd.specs.View.{sub_view, simple_view}
use Rattle.mc_cmd.specs.Command as spec
use Rattle.mc_cmd.specs.declared.line.Sub.{Sub}
use Rattle.cc_line.specs.declared.said.Said.{Said}
use Rattle.cc_line.specs.declared.said.End.{End}
use Rattle.cc_line.specs.declared.said.End.TheVariants as ends
use Rattle.cc_line.specs.declared.step.Conds.{Conds}
use Rattle.cc_line.specs.Sight.{in_rest}
use Rattle.cc_line.specs.Place.{place_name, Home, in_score, in_list, spot_name}
use Rattle.cc_line.specs.Key.{key_frame, key_list}
use Rattle.cc_line.specs.State.{Site, site_path}
use Rattle.cc_line.specs.Step as step
use Rattle.cc_line.specs.View.{conds_view, site_view, spot_view}

abbrev pub stores_view : Option Sub → List spec.Sub
stores_view None = []
stores_view (Some u) = sub_view u ∷ []

abbrev pub said_view : Said → step.Said
said_view d = record { stores = stores_view d.store; simple = simple_view d.simple }

-- the list of the innermost frame, and an element of it
abbrev pub list_site : Site
list_site = record { store = in_rest; name = key_frame; parts = key key_list ∷ [] }

abbrev pub slot_site : ℕ → Site
slot_site k = record { store = in_rest; name = key_frame; parts = key key_list ∷ (place (pos k) ∷ []) }

-- where a number stands: in the score of a holder, or at a path
pub data Stand : Type 0 where
  at_score : Text → Stand
  at_path : Site → Stand

abbrev pub end_view : End → Stand
end_view (ends.Score x) = at_score (spot_name (spot_view x))
end_view (ends.Path p) = at_path (site_view p)

abbrev pub home_end : Home → Stand
home_end (in_score i) = at_score (place_name i)
home_end (in_list k) = at_path (slot_site k)

-- the number at a path to a score, and a score to a path
abbrev pub getting : Text → Text → Site → step.Said
getting ns h p = step.storing (spec.store_score h ns) (spec.data_get (step.site_id ns p) (site_path p))

abbrev pub putting : Text → Site → Text → step.Said
putting ns p h = step.storing (spec.store_data (step.site_id ns p) (site_path p)) (spec.score_get h ns)

-- to where the first stands what stands at the second
abbrev pub copied : Text → Stand → Stand → step.Said
copied ns (at_score h) (at_score g) = step.says (spec.score_op h ns spec.assign g ns)
copied ns (at_score h) (at_path p) = getting ns h p
copied ns (at_path p) (at_score h) = putting ns p h
copied ns (at_path p) (at_path q) = step.act_said ns (step.copy_site p q)

-- a command behind further sub-commands
abbrev pub behind : List spec.Sub → step.Said → spec.Cmd
behind us d = spec.execute (us ++ d.stores) d.simple

-- a command behind conditions, if there are some
abbrev pub behind_some : Text → Option Conds → spec.Simple → spec.Cmd
behind_some ns None s = spec.plain s
behind_some ns (Some cs) s = spec.execute (step.cond_subs ns (conds_view cs)) s

-- a call of a helper that is filled
abbrev pub filling : Text → Text → Site → spec.Simple
filling ns f p = spec.call_with (full_name ns f) (step.site_id ns p) (site_path p)
