-- The cases that the name of a piece leaves, put together.
use Rattle.std.proofs.Common.{◌≡◌, ◌<◌, ◌≤◌, inl, inr, ℕ, zero, suc, Bool, true, false, Option, Some, None, sym, ap, subst, ◌∙◌, arith}
use Rattle.std.specs.Prelude.{IfOk, Result, Ok, Err, pos}
use Rattle.std.specs.Bool.{MatchBool}
use Rattle.std.specs.List.{Contains}
use Rattle.mc_nbt.specs.declared.memory.Memory.{Memory}
use Rattle.wm_ast.specs.declared.module.FuncType.{FuncType}
use Rattle.wm_ast.specs.declared.module.Module.{Module}
use Rattle.wm_ast.specs.declared.operator.BinaryOp.{BinaryOp}
use Rattle.wm_view.specs.declared.view.Inspection.{Inspection}
use Rattle.cc_line.specs.Key.{PieceId, body_piece, shared_piece}
use Rattle.cc_line.specs.State.{State}
use Rattle.cc_cut.specs.declared.table.Cut.{Cut}
use Rattle.cc_cut.specs.Cuts.{function_cuts}
use Rattle.cc_cut.specs.Piece.{Piece}
use Rattle.cc_body.specs.Behind.{call_before, division_before}
use Rattle.cc_pieces.specs.Dividing.{dividing_piece}
use Rattle.cc_pieces.specs.Fetching.{fetch_piece, most_fetches}
use Rattle.cc_pieces.specs.Restoring.{first_restore, restore_piece}
use Rattle.cc_simulate.specs.Callers.{IsPieceOf}
use Rattle.cc_div64.specs.Division.{score_left}
use Rattle.cc_spots.specs.declared.spot.CutSpot.{CutSpot}
use Rattle.cc_spots.specs.Spot.{CutAt, IsSpot}
use Rattle.cc_told.specs.Cases.{call_ended, division_done, args_missing, turns_missing, IsOther}
use Rattle.cc_told.specs.Cases.{BeforeCut, OnTheWay}
use Rattle.cc_told.proofs.Cases.{fetches_are_named, others_are_none, restores_are_named}
use Rattle.cc_told.proofs.Cuts.{index_low, never_both, piece_told}
use Rattle.mc_inspect.specs.declared.reading.Reading.{Reading}
use Rattle.mc_inspect.specs.steps.Found.{IsOutside, IsPlaced, Places, Tells, TellsOfCall, call_seen, stands, enters, takes}
use Rattle.mc_inspect.specs.steps.Read.{IsReading}

-- what leads from one to the other
pub mapped : {A E : Type 0} (r : Result A E) (P Q : A → Type 0) → ((a : A) → P a → Q a) → IfOk r P → IfOk r Q
mapped (Ok a) P Q f h = f a h
mapped (Err e) P Q f h = tt

-- two names of one piece
pub body_tells : (m : Module) (x : Reading) (func j k : ℕ) (o : Option Inspection) → j ≡ k → Tells m x (body_piece func j) o → Tells m x (body_piece func k) o
body_tells m x func j k o e h = subst (λ (i : ℕ). Tells m x (body_piece func i) o) e h

pub shared_tells : (m : Module) (x : Reading) (j k : ℕ) (o : Option Inspection) → j ≡ k → Tells m x (shared_piece j) o → Tells m x (shared_piece k) o
shared_tells m x j k o e h = subst (λ (i : ℕ). Tells m x (shared_piece i) o) e h

-- where a premise is known
pub tells_where : (m : Module) (x : Reading) (i : PieceId) (A : Type 0) → A → (r : Result (Option Inspection) Memory) → IfOk r (λ o. A → Tells m x i o) → IfOk r (Tells m x i)
tells_where m x i A a (Err e) h = tt
tells_where m x i A a (Ok o) h = h a

-- a piece of another kind stands for nothing
pub other_tells_none : (m : Module) (x : Reading) (i : PieceId) → IsOther i → Tells m x i None
other_tells_none m x i other program low p told read runs named cs a standing = others_are_none m program low cs a p standing i other named

-- ---- before a cut

module _ (m : Module) (x : Reading) (func index : ℕ) where
  abbrev NoCut : Type 0
  NoCut = (c : Cut) → Contains (function_cuts m func) c → c.index ≡ index → ⊥

  pub no_cut_before : index < first_restore → NoCut → Tells m x (restore_piece func index) None
  no_cut_before l none program low p told read runs named cs a standing = go (restores_are_named m program low cs a p standing func index told l named)
    where
      go : BeforeCut m cs a p func index → ⊥
      go (call_ended c us w e f i) = none w.waits.cut (subst (λ (k : ℕ). Contains (function_cuts m k) w.waits.cut) f w.waits.is_cut) i
      go (division_done w f i z) = none w.cut (subst (λ (k : ℕ). Contains (function_cuts m k) w.cut) f w.is_cut) i

  pub no_cut_on_way : (k : ℕ) → k < most_fetches → NoCut → Tells m x (fetch_piece func index k) None
  no_cut_on_way k l none program low p told read runs named cs a standing = go (fetches_are_named m program low cs a p standing func index k told l named)
    where
      go : OnTheWay m cs a p func index k → ⊥
      go (args_missing c ds w e f i) =
          none w.passing.waits.cut (subst (λ (j : ℕ). Contains (function_cuts m j) w.passing.waits.cut) f w.passing.waits.is_cut) i
      go (turns_missing w f i s z) = none w.cut (subst (λ (j : ℕ). Contains (function_cuts m j) w.cut) f w.is_cut) i

  -- an index that no cut has
  pub too_high : (k : ℕ) → k < most_fetches → first_restore ≤ index → Tells m x (fetch_piece func index k) None
  too_high k l high program low p told read runs named cs a standing = go (fetches_are_named m program low cs a p standing func index k told l named)
    where
      go : OnTheWay m cs a p func index k → ⊥
      go (args_missing c ds w e f i) =
          let few : w.passing.waits.cut.index < first_restore = (index_low m program c.func w.passing.waits.cut w.passing.waits.is_cut).1 in
          let same : w.passing.waits.cut.index ≡ index = i in
          omega arith
      go (turns_missing w f i s z) =
          let few : w.cut.index < first_restore = (index_low m program a.func w.cut w.is_cut).1 in
          let same : w.cut.index ≡ index = i in
          omega arith

  -- ---- at a spot

  module _ (spot : CutSpot) (s : IsSpot m func index spot) where
    abbrev here : CutAt m func index
    here = s.at

    pub its_piece : IsPieceOf m func here.cut here.piece
    its_piece = record { position = here.position; is_index = here.is_position; is_piece = here.is_piece }

    same_piece : (n : ℕ) (c : Cut) (q : Piece) → IsPieceOf m n c q → n ≡ func → c.index ≡ index → q ≡ here.piece
    same_piece n c q w e i = piece_told m n func c here.cut q here.piece w its_piece e (i ∙ sym here.is_index)

    pub behind_call_is : (n : ℕ) (c : Cut) (q : Piece) (t : FuncType) → IsPieceOf m n c q → n ≡ func → c.index ≡ index → call_before m q.cut ≡ Some t → spot.call ≡ Some t
    behind_call_is n c q t w e i b =
        ap (λ (y : CutSpot). y.call) s.shown ∙ ap (λ (p : Piece). call_before m p.cut) (sym (same_piece n c q w e i)) ∙ b

    pub behind_division_is : (n : ℕ) (c : Cut) (q : Piece) (op : BinaryOp) → IsPieceOf m n c q → n ≡ func → c.index ≡ index → division_before q.cut ≡ Some op → spot.division ≡ Some op
    behind_division_is n c q op w e i b =
        ap (λ (y : CutSpot). y.division) s.shown ∙ ap (λ (p : Piece). division_before p.cut) (sym (same_piece n c q w e i)) ∙ b

    pub neither_before : index < first_restore → spot.division ≡ None → spot.call ≡ None → Tells m x (restore_piece func index) None
    neither_before l no_division no_call program low p told read runs named cs a standing = go (restores_are_named m program low cs a p standing func index told l named)
      where
        go : BeforeCut m cs a p func index → ⊥
        go (call_ended c us w e f i) =
            let is = behind_call_is c.func w.waits.cut w.waits.piece w.waits.type w.waits.is_piece f i w.waits.behind in
            let none : None ≡ Some w.waits.type = sym no_call ∙ is in
            cc
        go (division_done w f i z) =
            let is = behind_division_is a.func w.cut w.piece w.op w.is_piece f i w.behind in
            let none : None ≡ Some w.op = sym no_division ∙ is in
            cc

    pub no_turns : (k : ℕ) (op : BinaryOp) → k < most_fetches → spot.division ≡ Some op
        → ((p : State) → IsReading x p → (n : ℕ) → 0 < n → n ≤ 8 → k ≡ 0 → p.scores score_left ≡ Some (pos n) → ⊥) → Tells m x (fetch_piece func index k) None
    no_turns k op l division none program low p told read runs named cs a standing = go (fetches_are_named m program low cs a p standing func index k told l named)
      where
        own : division_before here.piece.cut ≡ Some op
        own = sym (ap (λ (y : CutSpot). y.division) s.shown) ∙ division

        go : OnTheWay m cs a p func index k → ⊥
        go (args_missing c ds w e f i) =
            let v = w.passing.waits in
            never_both m c.func func v.cut here.cut v.piece here.piece v.type op v.is_piece its_piece f (i ∙ sym here.is_index) v.behind own
        go (turns_missing w f i some z) = none p read w.left some w.few z w.division.told

-- some turns are left, and no arguments were fetched
pub turns_tell : (m : Module) (x : Reading) (func index left k : ℕ) (o : Option Inspection) → 0 < left → k ≡ 0 → Tells m x (dividing_piece func index left) o
    → Tells m x (fetch_piece func index k) o
turns_tell m x func index zero k o some none h = absurd (omega arith)
turns_tell m x func index (suc n) k o some none h = subst (λ (j : ℕ). Tells m x (fetch_piece func index j) o) (sym none) h

-- ---- whichever it is

by_flag : (b c : Bool) (P Q : Type 0) → b ≡ c → MatchBool b P Q → MatchBool c P Q
by_flag b c P Q e h = subst (λ (d : Bool). MatchBool d P Q) e h

pub outside_placed : (m : Module) (x : Reading) (i : PieceId) (b : Bool) (v : Inspection) → b ≡ true → v ≡ call_seen → TellsOfCall m x i (IsOutside m) b
    → Places m x i (Some v)
outside_placed m x i b v flag is h program low p told read runs named =
    go (by_flag b true (IsOutside m p) (IsOutside m p → ⊥) flag (h program low p told read runs named))
  where
    go : IsOutside m p → IsPlaced m p v
    go (inl e) = enters e is
    go (inr t) = takes t is

pub inside_placed : (m : Module) (x : Reading) (i : PieceId) (b : Bool) → b ≡ false → TellsOfCall m x i (IsOutside m) b → (r : Result (Option Inspection) Memory)
    → IfOk r (Tells m x i) → IfOk r (Places m x i)
inside_placed m x i b flag out (Err e) h = tt
inside_placed m x i b flag out (Ok None) h = λ program low p told read runs named.
    let never = by_flag b false (IsOutside m p) (IsOutside m p → ⊥) flag (out program low p told read runs named) in
    record { stands = h program low p told read runs named; enters = λ e. never (inl e); takes = λ t. never (inr t) }
inside_placed m x i b flag out (Ok (Some v)) h = λ program low p told read runs named. stands (h program low p told read runs named)
