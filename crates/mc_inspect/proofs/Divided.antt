-- Before a cut behind a division that goes on: whether the state stands for an activation there.
use Rattle.std.proofs.Common.{◌≡◌, ◌<◌, ◌≤◌, ℕ, zero, suc, ℤ, pos, List, [], ◌∷◌, ◌++◌, reverse, Option, Some, None, refl, sym, ap, ap₂, subst, ◌∙◌, arith}
use Rattle.std.specs.Prelude.{IfOk, MatchOption, Result, Ok, Err, slice_get, unsigned_abs}
use Rattle.std.specs.List.{Contains}
use Rattle.std.proofs.lemmas.List.{reverse-append, reverse-reverse}
use Rattle.mc_nbt.specs.declared.memory.Memory.{Memory}
use Rattle.mc_nbt.specs.declared.value.Value.TheVariants as values
use Rattle.wm_ast.specs.declared.module.Module.{Module}
use Rattle.wm_ast.specs.declared.module.ValType.{ValType}
use Rattle.wm_ast.specs.declared.module.ValType.TheVariants as types
use Rattle.wm_ast.specs.declared.operator.BinaryOp.{BinaryOp}
use Rattle.wm_valid.specs.Height.{Low}
use Rattle.wm_flat.specs.Flat.{Activation}
use Rattle.wm_flat.specs.FlatTyping.{types_of}
use Rattle.wm_flat.specs.Program.{IsProgram}
use Rattle.wm_place.specs.Kinds.{function_body}
use Rattle.wm_place.specs.Visit.{Visit, function_visits}
use Rattle.wm_place.proofs.LevelLemmas.{some_of}
use Rattle.wm_view.specs.declared.view.Inspection.{Inspection}
use Rattle.cc_line.specs.Key.{id_tree}
use Rattle.cc_line.specs.State.{State}
use Rattle.cc_entries.specs.Law.{NameTells}
use Rattle.cc_cut.specs.declared.table.Cut.{Cut}
use Rattle.cc_cut.specs.Cuts.{function_cuts}
use Rattle.cc_cut.specs.Piece.{Piece, function_pieces}
use Rattle.cc_div64.specs.Law as divisions
use Rattle.cc_pieces.specs.Dividing.{dividing_piece}
use Rattle.cc_pieces.specs.Restoring.{first_restore}
use Rattle.cc_body.specs.Behind.{division_before}
use Rattle.cc_simulate.specs.Callers.{IsPieceOf}
use Rattle.cc_simulate.specs.Stands.{Dividing, Standing, dividing}
use Rattle.cc_spots.specs.declared.spot.CutSpot.{CutSpot}
use Rattle.cc_spots.specs.Law.{Fits, IsTold}
use Rattle.cc_spots.specs.Spot.{CutAt, IsSpot}
use Rattle.cc_spots.proofs.CutLaws.{cuts_are_told}
use Rattle.cc_spots.proofs.StandingLaws.{standings_fit}
use Rattle.cc_told.specs.Cases.{BeforeCut, Names, OnTheWay, call_ended, division_done, args_missing, turns_missing}
use Rattle.cc_told.proofs.Cases.{fetches_are_named, restores_are_named}
use Rattle.cc_told.proofs.Cuts.{never_both, piece_told}
use Rattle.cc_told.proofs.Divisions.{answer_told}
use Rattle.mc_inspect.specs.declared.reading.Reading.{Reading}
use Rattle.mc_inspect.specs.steps.Found.{Holds, HoldsNone, Tells}
use Rattle.mc_inspect.specs.steps.Read.{HasScores, IsReading}
use Rattle.mc_inspect.proofs.AtCuts.{calm_of}

module _ (m : Module) (x : Reading) (func index : ℕ) (low : index < first_restore) (spot : CutSpot) (s : IsSpot m func index spot) (op : BinaryOp)
    (division : spot.division ≡ Some op) where
  abbrev here : CutAt m func index
  here = s.at

  own : division_before here.piece.cut ≡ Some op
  own = sym (ap (λ (y : CutSpot). y.division) s.shown) ∙ division

  its_piece : IsPieceOf m func here.cut here.piece
  its_piece = record { position = here.position; is_index = here.is_position; is_piece = here.is_piece }

  op_is : (n : ℕ) (c : Cut) (q : Piece) (d : BinaryOp) → IsPieceOf m n c q → n ≡ func → c.index ≡ index → division_before q.cut ≡ Some d → d ≡ op
  op_is n c q d w e i b =
      let same : q ≡ here.piece = piece_told m n func c here.cut q here.piece w its_piece e (i ∙ sym here.is_index) in
      some_of d op (sym b ∙ ap (λ (r : Piece). division_before r.cut) same ∙ own)

  -- ---- a standing that has such a name is of a division with so many turns left

  pub record IsDivided (p : State) (cs : List Activation) (a : Activation) (n : ℕ) : Type 0 where
    pub standing : Dividing m cs a p
    pub in_func : a.func ≡ func
    pub is_index : standing.cut.index ≡ index
    pub is_left : standing.left ≡ n

  done : (p : State) (cs : List Activation) (a : Activation) → BeforeCut m cs a p func index → IsDivided p cs a 0
  done p cs a (call_ended c us w e f i) =
      absurd (never_both m c.func func w.waits.cut here.cut w.waits.piece here.piece w.waits.type op w.waits.is_piece its_piece f (i ∙ sym here.is_index) w.waits.behind own)
  done p cs a (division_done w f i z) = record { standing = w; in_func = f; is_index = i; is_left = z }

  going : (n : ℕ) (p : State) (cs : List Activation) (a : Activation) → IsReading x p → x.scores.g ≡ Some (pos n) → OnTheWay m cs a p func index 0 → IsDivided p cs a n
  going n p cs a read told (args_missing c ds w e f i) =
      let v = w.passing.waits in
      absurd (never_both m c.func func v.cut here.cut v.piece here.piece v.type op v.is_piece its_piece f (i ∙ sym here.is_index) v.behind own)
  going n p cs a read told (turns_missing w f i some z) = record {
    standing = w;
    in_func = f;
    is_index = i;
    is_left = ap unsigned_abs (some_of (pos w.left) (pos n) (sym w.division.told ∙ read.scores.g ∙ told));
  }

  divided : (n : ℕ) → (0 < n → x.scores.g ≡ Some (pos n)) → IsProgram m → Low m → (p : State) (cs : List Activation) (a : Activation) → Standing m cs a p
      → IsReading x p → NameTells (dividing_piece func index n) → Names (dividing_piece func index n) p → IsDivided p cs a n
  divided zero told program few p cs a standing read tells named = done p cs a (restores_are_named m program few cs a p standing func index tells low named)
  divided (suc n) told program few p cs a standing read tells named =
      going (suc n) p cs a read (told (omega arith)) (fetches_are_named m program few cs a p standing func index 0 tells (omega arith) named)

  -- its answer is that of the scores
  answered : (n : ℕ) (p : State) (cs : List Activation) (a : Activation) (d : IsDivided p cs a n) → divisions.Dividing op d.standing.answer n p
  answered n p cs a d =
      let w = d.standing in
      subst (λ (k : ℕ). divisions.Dividing op w.answer k p) d.is_left
      (subst (λ (o : BinaryOp). divisions.Dividing o w.answer w.left p) (op_is a.func w.cut w.piece w.op w.is_piece d.in_func d.is_index w.behind) w.division)

  module _ (left : ℕ) (told : 0 < left → x.scores.g ≡ Some (pos left)) where
    -- no operand is an i64
    pub no_long : ((ts : List ValType) → spot.kinds ≡ ts ++ types.I64 ∷ [] → ⊥) → Tells m x (dividing_piece func index left) None
    no_long none program few p tells read runs named cs a standing =
        let d = divided left told program few p cs a standing read tells named in
        let w = d.standing in
        let is : IsTold m func index here w.cut =
        cuts_are_told m func index here w.cut (subst (λ (k : ℕ). Contains (function_cuts m k) w.cut) d.in_func w.is_cut) d.is_index in
        let fits : Fits m a w.visit here.body = standings_fit m a w.visit w.stands here.body (ap (function_body m) d.in_func ∙ here.is_body) in
        let visit : w.visit ≡ here.piece.cut = is.visit w.visit (subst (λ (k : ℕ). Contains (function_visits m k) w.visit) d.in_func fits.is_visit) w.place in
        let turned : reverse here.piece.cut.kinds ≡ types.I64 ∷ types_of w.others =
        sym (ap (λ (v : Visit). reverse v.kinds) visit) ∙ sym fits.operands ∙ ap types_of w.parts in
        none (reverse (types_of w.others))
        (ap (λ (y : CutSpot). y.kinds) s.shown ∙ sym (reverse-reverse here.piece.cut.kinds) ∙ ap reverse turned ∙ reverse-append (types.I64 ∷ []) (types_of w.others))

    -- the scores tell no answer
    pub no_answer : ((p : State) → HasScores x.scores p → (z : ℤ) → divisions.Dividing op z left p → ⊥) → Tells m x (dividing_piece func index left) None
    no_answer none program few p tells read runs named cs a standing =
        let d = divided left told program few p cs a standing read tells named in
        none p read.scores d.standing.answer (answered left p cs a d)

    -- they tell one
    module _ (few_left : left ≤ 8) (z : ℤ) (answer : (p : State) → HasScores x.scores p → divisions.Dividing op z left p) where
      pub divided_answer : (r : Result (Option Inspection) Memory)
          → IfOk r (λ o. (i : ℕ) → IsSpot m func i spot → MatchOption o (HoldsNone m x func i (values.I64 z ∷ [])) (λ v. Holds m x func i (values.I64 z ∷ []) v))
          → IfOk r (Tells m x (dividing_piece func index left))
      divided_answer (Err e) h = tt
      divided_answer (Ok None) h = λ program few p tells read runs named cs a standing.
          let d = divided left told program few p cs a standing read tells named in
          let w = d.standing in
          let same : w.answer ≡ z = answer_told op op w.answer z left left p refl (answered left p cs a d) (answer p read.scores) in
          h index s program p cs a read (record {
            in_func = d.in_func;
            cut = w.cut;
            is_cut = w.is_cut;
            is_index = d.is_index;
            visit = w.visit;
            stands = w.stands;
            place = w.place;
            others = w.others;
            parts = w.parts ∙ ap (λ (y : ℤ). values.I64 y ∷ w.others) same;
            frame = w.frame;
            below = w.below;
            waiting = w.waiting;
            is_below = w.calm.below;
          })
      divided_answer (Ok (Some v)) h = λ program few p tells read runs named.
          let k = h index s p read in
          let a : Activation = k.activation in
          let c = k.held in
          record {
            callers = k.callers;
            activation = a;
            standing = dividing (record {
              cut = c.cut;
              is_cut = c.is_cut;
              piece = here.piece;
              is_piece = record {
                position = here.position;
                is_index = c.is_index ∙ sym here.is_index ∙ here.is_position;
                is_piece = ap (λ (j : ℕ). slice_get (function_pieces m j) here.position) c.in_func ∙ here.is_piece;
              };
              op = op;
              behind = own;
              visit = c.visit;
              stands = c.stands;
              place = c.place;
              answer = z;
              others = c.others;
              parts = c.parts;
              left = left;
              few = few_left;
              division = answer p read.scores;
              named = named ∙ ap₂ (λ (f j : ℕ). Some (id_tree (dividing_piece f j left))) (sym c.in_func) (sym c.is_index);
              frame = c.frame;
              below = c.below;
              waiting = c.waiting;
              calm = calm_of m p c.below runs c.is_below;
            });
            shown = k.shown;
          }
