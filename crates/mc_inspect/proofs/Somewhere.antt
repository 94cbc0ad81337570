-- What is so of a world that stands for a configuration; and one for which it stands, from what was found of a state.
use Rattle.std.proofs.Common.{◌≡◌, ℕ, zero, suc, List, [], Some, None, refl, sym, ◌∙◌}
use Rattle.mc_cmd.specs.Form.{Text}
use Rattle.mc_cmd.specs.World.{World}
use Rattle.wm_ast.specs.declared.module.Module.{Module}
use Rattle.wm_ast.specs.Configuration.{Config}
use Rattle.wm_ast.specs.Instance.{call_config}
use Rattle.wm_ast.specs.Store.{Store}
use Rattle.wm_valid.specs.Height.{Low}
use Rattle.wm_flat.specs.Flat.{Activation, running, config_of}
use Rattle.wm_flat.specs.Program.{IsProgram}
use Rattle.wm_view.specs.declared.view.Inspection.{Inspection}
use Rattle.wm_view.proofs.Views.{views_agree}
use Rattle.cc_line.specs.Key.{PieceId, body_piece, init_piece, key_next, key_state, id_tree}
use Rattle.cc_line.specs.Running.{NextPiece}
use Rattle.cc_line.specs.Sight.{in_io, in_rest}
use Rattle.cc_line.specs.State.{State}
use Rattle.cc_entries.specs.Law.{NameTells}
use Rattle.cc_entries.proofs.Telling.{names_tell}
use Rattle.cc_pieces.specs.Dividing.{dividing_piece}
use Rattle.cc_pieces.specs.Entry.{taker}
use Rattle.wm_place.proofs.LevelLemmas.{some_of}
use Rattle.cc_simulate.specs.Stands.{Running, Standing, name_of}
use Rattle.cc_simulate.specs.Stands.{at_cut, opening, making, fetching, restoring, placing, growing, dividing}
use Rattle.cc_simulate.specs.Uses.{uses_bytes}
use Rattle.cc_told.specs.Cases.{Names}
use Rattle.cc_told.proofs.Cuts.{func_low}
use Rattle.pk_sight.specs.Shown.{IsStateOf, ShowsNone}
use Rattle.pk_sight.proofs.ShownLemmas.{key_is}
use Rattle.pk_agree.specs.Resume.{StandsFor, at_standing, at_entry, at_taker}
use Rattle.pk_agree.proofs.Standings.{standing_named, standing_runs}
use Rattle.mc_inspect.specs.declared.reading.Reading.{Reading}
use Rattle.mc_inspect.specs.Inspect.{IsNowhere, IsRunning, IsSeen, IsStarting}
use Rattle.mc_inspect.specs.steps.Found.{IsPlaced, IsUnplaced, Places, enters, stands, takes}
use Rattle.mc_inspect.specs.steps.Read.{IsRead}
use Rattle.mc_inspect.proofs.OneView.{call_view, entering_state, function_low, standing_state, taking_state}

-- ---- a world that stands for something

-- it shows a state that runs and names a piece that its name tells, and that stands for something
pub record IsSomewhere (m : Module) (ns : Text) (w : World) : Type 0 where
  pub state : State
  pub is_shown : IsStateOf ns w state
  pub runs : Running (uses_bytes m) state
  pub piece : PieceId
  pub tells : NameTells piece
  pub named : Names piece state
  pub starts_not : (j : ℕ) → piece ≡ init_piece j → ⊥
  pub placed : IsUnplaced m state → ⊥

module _ (m : Module) (program : IsProgram m) where
  name_tells : (cs : List Activation) (a : Activation) (p : State) (x : Standing m cs a p) → NameTells (name_of m x)
  name_tells cs a p (at_cut x) = func_low m program a.func x.cut x.is_cut
  name_tells cs a p (opening x) = tt
  name_tells cs a p (making c ds x e) = tt
  name_tells cs a p (fetching c ds k x e) = func_low m program c.func x.passing.waits.cut x.passing.waits.is_cut
  name_tells cs a p (restoring c us x e) = func_low m program c.func x.waits.cut x.waits.is_cut
  name_tells cs a p (placing x) = tt
  name_tells cs a p (growing x) = tt
  name_tells cs a p (dividing x) = by_left x.left
    where
      by_left : (left : ℕ) → NameTells (dividing_piece a.func x.cut.index left)
      by_left zero = func_low m program a.func x.cut x.is_cut
      by_left (suc left) = func_low m program a.func x.cut x.is_cut

  never_init : (cs : List Activation) (a : Activation) (p : State) (x : Standing m cs a p) (j : ℕ) → name_of m x ≡ init_piece j → ⊥
  never_init cs a p (at_cut x) j e = cc
  never_init cs a p (opening x) j e = cc
  never_init cs a p (making c ds x f) j e = cc
  never_init cs a p (fetching c ds k x f) j e = cc
  never_init cs a p (restoring c us x f) j e = cc
  never_init cs a p (placing x) j e = cc
  never_init cs a p (growing x) j e = cc
  never_init cs a p (dividing x) j e = by_left x.left e
    where
      by_left : (left : ℕ) → dividing_piece a.func x.cut.index left ≡ init_piece j → ⊥
      by_left zero f = cc
      by_left (suc left) f = cc

  pub somewhere : (ns : Text) (w : World) (c : Config) → StandsFor m ns w c → IsSomewhere m ns w
  somewhere ns w c (at_standing s cs a p g x e) = record {
    state = p;
    is_shown = standing_state m ns w cs a p g x;
    runs = standing_runs m cs a p x;
    piece = name_of m x;
    tells = name_tells cs a p x;
    named = standing_named m cs a p x;
    starts_not = never_init cs a p x;
    placed = λ u. u.stands cs a x;
  }
  somewhere ns w c (at_entry s n f t args p g i x e) = record {
    state = p;
    is_shown = entering_state m ns w n args p g x;
    runs = x.runs;
    piece = body_piece n 0;
    tells = function_low m program n f t i;
    named = x.named;
    starts_not = λ j e. cc;
    placed = λ u. u.enters (record { index = n; func = f; type = t; is_function = i; args = args; entering = x });
  }
  somewhere ns w c (at_taker s n f t args blank k p g i l x e) = record {
    state = p;
    is_shown = taking_state m ns w n args blank k p g x;
    runs = record { trap = x.calm.trap; state = x.calm.state; ending = x.calm.ending; standing = x.calm.standing };
    piece = taker k;
    tells = tt;
    named = x.named;
    starts_not = λ j e. cc;
    placed = λ u.
        u.takes (record { index = n; func = f; type = t; is_function = i; args = args; zeros = blank; number = k; few = l; taking = x });
  }

-- ---- what its state names, the world does

module _ (m : Module) (ns : Text) (w : World) (s : IsSomewhere m ns w) where
  pub next_of : NextPiece w ns s.piece
  next_of = key_is ns w s.state s.is_shown in_rest key_next refl ∙ s.named

  pub running_of : IsRunning ns w
  running_of = key_is ns w s.state s.is_shown in_io key_state refl ∙ s.runs.state

  -- and it is no piece of instantiation
  pub started : IsStarting ns w → ⊥
  started z =
      s.starts_not z.0
      (names_tell s.piece (init_piece z.0) s.tells tt (some_of (id_tree s.piece) (id_tree (init_piece z.0)) (sym next_of ∙ z.1)))

-- ---- nowhere

module _ (m : Module) (program : IsProgram m) (ns : Text) (w : World) where
  pub nowhere_unshown : ShowsNone ns w → IsNowhere m ns w
  nowhere_unshown none c x = let s = somewhere m program ns w c x in none s.state s.is_shown

  pub nowhere_still : ((p : State) → IsStateOf ns w p → Running (uses_bytes m) p → ⊥) → IsNowhere m ns w
  nowhere_still still c x = let s = somewhere m program ns w c x in still s.state s.is_shown s.runs

  pub nowhere_unnamed : ((i : PieceId) → NameTells i → NextPiece w ns i → ⊥) → IsNowhere m ns w
  nowhere_unnamed none c x = let s = somewhere m program ns w c x in none s.piece s.tells (next_of m ns w s)

  module _ (low : Low m) (r : Reading) (read : IsRead ns w r) (i : PieceId) (told : NameTells i) (next : NextPiece w ns i) where
    names_it : (p : State) → IsStateOf ns w p → Names i p
    names_it p s = sym (key_is ns w p s in_rest key_next refl) ∙ next

    pub nowhere_unplaced : Places m r i None → IsNowhere m ns w
    nowhere_unplaced none c x =
        let s = somewhere m program ns w c x in
        s.placed (none program low s.state told (read.each s.state s.is_shown) s.runs (names_it s.state s.is_shown))

    -- ---- somewhere

    empty_store : Store
    empty_store = record { globals = []; memory = []; table = [] }

    placed_seen : (p : State) → IsStateOf ns w p → (v : Inspection) → IsPlaced m p v → IsSeen m ns w v
    placed_seen p s v (stands x) = record {
      config = config_of empty_store (running x.callers x.activation);
      stands = at_standing empty_store x.callers x.activation p s.shows x.standing refl;
      shown = views_agree empty_store (running x.callers x.activation) ∙ x.shown;
    }
    placed_seen p s v (enters x e) = record {
      config = call_config empty_store x.index x.args;
      stands = at_entry empty_store x.index x.func x.type x.args p s.shows x.is_function x.entering refl;
      shown = call_view empty_store x.index x.args ∙ sym e;
    }
    placed_seen p s v (takes x e) = record {
      config = call_config empty_store x.index x.args;
      stands = at_taker empty_store x.index x.func x.type x.args x.zeros x.number p s.shows x.is_function x.few x.taking refl;
      shown = call_view empty_store x.index x.args ∙ sym e;
    }

    pub seen_placed : ((p : State) → IsStateOf ns w p → Running (uses_bytes m) p) → (v : Inspection) → Places m r i (Some v) → IsSeen m ns w v
    seen_placed runs v found =
        let p = read.state in
        placed_seen p read.is_shown v (found program low p told (read.each p read.is_shown) (runs p read.is_shown) (names_it p read.is_shown))
