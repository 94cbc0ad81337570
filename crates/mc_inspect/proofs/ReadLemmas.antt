-- What each state has that a world shows, from what was read of the world.
use Rattle.std.proofs.Common.{◌≡◌, ◌≤◌, ℤ, List, length, map, Option, Some, None, Vec, Global, refl, sym, ap, subst, ◌∙◌}
use Rattle.std.specs.Prelude.{IfOk, MatchOption, Result, Ok, Err, option_map}
use Rattle.mc_nbt.specs.Tree.{Tree}
use Rattle.mc_nbt.specs.declared.memory.Memory.{Memory}
use Rattle.mc_cmd.specs.Form.{Text}
use Rattle.mc_cmd.specs.World.{World}
use Rattle.wm_place.proofs.LevelLemmas.{some_of}
use Rattle.cc_line.specs.declared.leaf.PieceId as programs
use Rattle.cc_line.specs.Key.{key_below, key_follows}
use Rattle.cc_line.specs.Place.{score_places}
use Rattle.cc_line.specs.Running.{Kept, below_tree}
use Rattle.cc_line.specs.Sight.{in_rest}
use Rattle.cc_line.specs.State.{State}
use Rattle.pk_entries.specs.declared.entry.Entry.{Entry}
use Rattle.pk_entries.specs.Told.{KeepsFrames}
use Rattle.pk_entries.specs.View.{entry_view}
use Rattle.pk_sight.specs.Shown.{HasPlaces, IsStateOf}
use Rattle.pk_sight.proofs.ShownLemmas.{key_is}
use Rattle.mc_inspect.specs.declared.reading.Reading.{Reading}
use Rattle.mc_inspect.specs.steps.Read.{Follows, HasArgs, HasEntries, HasScores, IsRead, NamesAt}

module _ (ns : Text) (w : World) where
  -- the tree of the frames below is what each state has
  pub entries_read : (t : Tree) (r : Result (Option (Vec Entry Global)) Memory)
      → ((p : State) → IsStateOf ns w p → Some t ≡ p.keys in_rest key_below)
      → IfOk r (λ o. MatchOption o ((bs : List Kept) → KeepsFrames t bs → ⊥) (λ es. KeepsFrames t (map entry_view es.items)))
      → IfOk r (λ o. (p : State) → IsStateOf ns w p → HasEntries (option_map (λ v. v.items) o) p)
  entries_read t (Err e) k h = tt
  entries_read t (Ok None) k h = λ p s bs all below. h bs (all, some_of t (below_tree bs) (k p s ∙ below))
  entries_read t (Ok (Some v)) k h = λ p s. (h.0, sym (k p s) ∙ ap Some h.1)

  follows_read : (o : Option programs.PieceId) → NamesAt w ns key_follows o → (p : State) → IsStateOf ns w p → Follows o p
  follows_read None h p s = λ i told is. h i told (key_is ns w p s in_rest key_follows refl ∙ is)
  follows_read (Some i) h p s = (h.0, sym (key_is ns w p s in_rest key_follows refl) ∙ h.1)

  pub all_read : (x : Reading) → HasPlaces ns w x.places.items → NamesAt w ns key_follows x.follows
      → ((p : State) → IsStateOf ns w p → HasEntries (option_map (λ v. v.items) x.entries) p)
      → ((p : State) → IsStateOf ns w p → HasArgs (option_map (λ v. v.items) x.args) p)
      → ((p : State) → IsStateOf ns w p → HasScores x.scores p) → IsRead ns w x
  all_read x places follows entries args scores = record {
    state = places.state;
    is_shown = places.is_shown;
    each = λ p s. record {
      places = places.places p s;
      has_scores = subst (λ (zs : List ℤ). score_places ≤ length zs) (places.places p s) s.has_scores;
      follows = follows_read x.follows follows p s;
      entries = entries p s;
      args = args p s;
      scores = scores p s;
    };
  }
