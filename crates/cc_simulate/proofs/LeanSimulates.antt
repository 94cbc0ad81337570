-- Where the items of a piece do what the machine does, lean ones do: what they leave in other numbers is in places that
-- the next piece doesn't read, or, behind a trap, in nothing that is seen.
use Rattle.std.proofs.Common.{◌≡◌, ◌≤◌, ◌<◌, ℕ, zero, suc, ◌+◌, ◌*◌, ◌⊎◌, inl, inr, List, [], ◌∷◌, ◌++◌, length, Option, Some, None, Bool, true, false, refl, sym, ap, ◌∙◌, subst, arith}
use Rattle.std.specs.Prelude.{ℤ, pos, nat_lt, not, ◌&&◌, ◌||◌, option_map, slice_get, slice_index_or, codes}
use Rattle.std.specs.Str.{bytes_eq}
use Rattle.std.specs.List.{Contains}
use Rattle.std.proofs.lemmas.Bool.{lt-ltb}
use Rattle.std.proofs.lemmas.List.{length-map}
use Rattle.std.proofs.lemmas.Option.{slice_get-map, slice_get_within}
use Rattle.mc_nbt.specs.Tree.{Tree}
use Rattle.mc_nbt.specs.declared.value.Value.{Value}
use Rattle.mc_cmd.specs.Command.{from}
use Rattle.mc_cmd.specs.Form.{Text}
use Rattle.mc_cmd.specs.World.{some_is_in}
use Rattle.wm_ast.specs.declared.module.Func.{Func}
use Rattle.wm_ast.specs.declared.module.FuncType.{FuncType}
use Rattle.wm_ast.specs.declared.module.Module.{Module}
use Rattle.wm_ast.specs.declared.module.ValType.{ValType}
use Rattle.wm_ast.specs.Store.{Store}
use Rattle.wm_ast.specs.Types.{function_type}
use Rattle.wm_flat.specs.Flat.{Activation}
use Rattle.wm_flat.specs.FlatTyping.{types_of}
use Rattle.wm_flat.specs.Operands.{operands}
use Rattle.wm_flat.specs.Program.{IsProgram}
use Rattle.wm_place.specs.Kinds.{Body, body_of, function_body}
use Rattle.wm_place.specs.Visit.{function_visits}
use Rattle.wm_place.proofs.KindLemmas.{Typed}
use Rattle.cc_line.specs.Sight as sights
use Rattle.cc_line.specs.Sight.{in_io, in_memory, in_rest}
use Rattle.cc_line.specs.Key.{key_state, key_next, key_follows, key_below, key_entry, key_ends, is_work_key, score_trap, body_piece, shared_piece, end_piece, id_tree}
use Rattle.cc_line.specs.Item.{Items, run_items}
use Rattle.cc_line.specs.OpenStep.{ints_in}
use Rattle.cc_line.specs.Place.{score_places}
use Rattle.cc_line.specs.State.{State, place_at}
use Rattle.cc_cut.specs.declared.table.Cut.{Cut}
use Rattle.cc_cut.specs.Cuts.{function_cuts}
use Rattle.cc_cut.specs.Piece.{Piece, function_pieces}
use Rattle.cc_cut.proofs.ListLemmas.{among, contains, some_of}
use Rattle.cc_move.specs.Law.{MovesFollow, Shown}
use Rattle.cc_unread.specs.Law.{is_read_behind, with_places}
use Rattle.cc_passes.specs.Bound.{height_at, natural_of}
use Rattle.cc_passes.specs.Law.{AgreesAhead, LeadsLean, LeadsOn, leads_lean, leads_to_trap, NamesCut}
use Rattle.cc_stops.specs.Harmless.{is_unseen}
use Rattle.cc_stops.specs.Law.{DifferUnseen, is_trapped}
use Rattle.cc_passes.specs.Lean.{lean_items}
use Rattle.cc_passes.proofs.Laws.{lean_lead}
use Rattle.cc_pieces.specs.Dividing.{dividing_piece}
use Rattle.cc_pieces.specs.Fetching.{first_fetch, most_fetches}
use Rattle.cc_pieces.specs.Restoring.{first_restore}
use Rattle.cc_body.specs.Layout.{cut_heights, frame_size, top_place}
use Rattle.cc_body.specs.Pieces.{lean_cut, lean_in, plain_items}
use Rattle.cc_body.proofs.Bounds.{functions_are_few, pieces_few, places_among}
use Rattle.cc_simulate.specs.Callers.{IsPieceOf}
use Rattle.cc_simulate.specs.Frame.{Frame, local_ints, stack_ints}
use Rattle.cc_simulate.specs.Law.{Simulates}
use Rattle.cc_simulate.specs.Stands.{Arrives, At, ChangesFrameAlone, ChangesStoreAlone, HasStore, is_written, name_of, rank_of, Standing}
use Rattle.cc_simulate.specs.Stands as stands
use Rattle.cc_simulate.proofs.Acts.{calm_places, keeps_places}
use Rattle.cc_simulate.proofs.Frames.{held_length, top_is, top_of}
use Rattle.cc_simulate.proofs.Globals.{stored_kept}
use Rattle.cc_simulate.proofs.Ways.{Begins, begins, cuts_have_pieces}

-- ---- numbers that agree

-- the first numbers of a list are those with which they agree
front_held : (held junk ps : List ℤ) → length ps ≡ length (held ++ junk) → ((i : ℕ) → i < length held → slice_index_or ps i (pos 0) ≡ slice_index_or (held ++ junk) i (pos 0)) → (rest : List ℤ) × (ps ≡ held ++ rest)
front_held [] junk ps e f = (ps, refl)
front_held (z ∷ held) junk [] e f = absurd (omega arith)
front_held (z ∷ held) junk (p ∷ ps) e f =
    let here : p ≡ z = f 0 (omega arith) in
    let (rest, is) = front_held held junk ps (omega arith) (λ i l. f (suc i) (omega arith)) in
    (rest, ap (λ (x : ℤ). x ∷ ps) here ∙ ap (λ (l : List ℤ). z ∷ l) is)

frame_agrees : (size : ℕ) (ls os : List Value) (zs ps : List ℤ) → Frame size ls os zs → length ps ≡ length zs → ((i : ℕ) → i < top_of ls os → slice_index_or ps i (pos 0) ≡ slice_index_or zs i (pos 0)) → Frame size ls os ps
frame_agrees size ls os zs ps fr e f =
    let held : List ℤ = local_ints ls ++ stack_ints os in
    let long : length held ≡ top_of ls os = held_length ls os in
    let (rest, is) =
    front_held held fr.junk ps (e ∙ ap (λ (l : List ℤ). length l) fr.held) (λ i l. f i (omega arith) ∙ ap (λ (l : List ℤ). slice_index_or l i (pos 0)) fr.held) in
    record { junk = rest; held = is; sized = e ∙ fr.sized }

-- ---- names of pieces

-- a number that a tree tells under a key
abbrev told : Text → Tree → ℕ
told k t = natural_of (ints_in (Some t) k)

pub same_body : (f j g k : ℕ) → id_tree (body_piece f j) ≡ id_tree (body_piece g k) → (f ≡ g) × (j ≡ k)
same_body f j g k e = (ap (told (codes "i")) e, ap (told (codes "j")) e)

pub not_shared : {A : Type 0} (j g k : ℕ) → g < 100000 → id_tree (shared_piece j) ≡ id_tree (body_piece g k) → A
not_shared j g k few e = absurd (let same : 100000 ≡ g = ap (told (codes "i")) e in omega arith)

pub not_end : {A : Type 0} (w g k : ℕ) → id_tree (end_piece w) ≡ id_tree (body_piece g k) → A
not_end w g k e = absurd (let one : 1 ≡ 0 = ap (told key_ends) e in omega arith)

-- ---- what stands in the places of a cut

module _ (moves : MovesFollow) (m : Module) (program : IsProgram m) (n : ℕ) (f : Func) (there : slice_get m.funcs n ≡ Some f) (t : Typed m n f) where
  abbrev locals : List ValType
  locals = (body_of m f t.type).scope.locals

  abbrev pub heights : List ℕ
  heights = cut_heights locals (function_pieces m n)

  -- the height of a piece's cut
  pub piece_height : (position : ℕ) (q : Piece) → slice_get (function_pieces m n) position ≡ Some q → height_at heights (suc position) ≡ Some (top_place locals q.cut)
  piece_height position q is = slice_get-map (λ (p : Piece). top_place locals p.cut) (function_pieces m n) position ∙ ap (option_map (λ (p : Piece). top_place locals p.cut)) is

  -- no function has the number of the routines
  func_few : n < 100000
  func_few =
      let few : length m.funcs ≤ 8192 = functions_are_few m program in
      let within : n < length m.funcs = slice_get_within m.funcs n f there in
      omega arith

  -- what is no cut has none
  no_height : {A : Type 0} (j h : ℕ) → first_restore ≤ j → height_at heights j ≡ Some h → A
  no_height zero h low e = absurd cc
  no_height (suc i) h low e =
      absurd
      (let within : i < length heights = slice_get_within heights i h e in
      let all : length heights ≡ length (function_pieces m n) = length-map (function_pieces m n) (λ (p : Piece). top_place locals p.cut) in
      let few : length (function_pieces m n) ≤ 900000 = pieces_few m program n in
      omega arith)

  module _ (u : State) (j h : ℕ) (named : u.keys in_rest key_next ≡ Some (id_tree (body_piece n j))) (is_height : height_at heights j ≡ Some h) where
    -- the activation that stands at the next cut has its locals and operands in as many places
    cut_height : (ds : List Activation) (b : Activation) → At m ds b u → top_of b.locals (operands b) ≡ h
    cut_height ds b p =
        let same : (b.func ≡ n) × (p.cut.index ≡ j) = same_body b.func p.cut.index n j (some_of _ _ (sym p.named ∙ named)) in
        let is_cut : Contains (function_cuts m n) p.cut = subst (λ (x : ℕ). Contains (function_cuts m x) p.cut) same.0 p.is_cut in
        let (q, is_piece) = cuts_have_pieces m n p.cut is_cut in
        let begun : Begins m n (body_of m f t.type) p.cut q = begins m n (body_of m f t.type) t.body p.cut is_cut q is_piece in
        let told_height : h ≡ top_place locals q.cut =
        some_of h (top_place locals q.cut) (sym is_height ∙ (ap (height_at heights) (sym same.1 ∙ is_piece.is_index) ∙ piece_height is_piece.position q is_piece.is_piece)) in
        let shown : Shown m b p.visit = moves.shown m b p.visit p.stands in
        let listed : Contains (function_visits m n) p.visit = subst (λ (x : ℕ). Contains (function_visits m x) p.visit) same.0 shown.listed in
        let cut_listed : Contains (function_visits m n) q.cut =
        contains (function_visits m n) q.cut (places_among (function_visits m n) 0 q q.cut (among (function_pieces m n) q begun.piece) (inl refl)) in
        let one : p.visit ≡ q.cut = moves.one m n p.visit q.cut listed cut_listed (p.place ∙ begun.place) in
        let func : p.stands.func ≡ f = some_of p.stands.func f (sym p.stands.is_function.there ∙ (ap (slice_get m.funcs) same.0 ∙ there)) in
        let type : p.stands.type ≡ t.type = some_of p.stands.type t.type (sym p.stands.is_function.has_type ∙ (ap (function_type m) func ∙ t.named)) in
        let own : types_of b.locals ≡ locals =
        p.stands.locals ∙ (ap (λ (g : Func). (body_of m g p.stands.type).scope.locals) func ∙ ap (λ (y : FuncType). (body_of m f y).scope.locals) type) in
        sym (top_is locals p.visit b.locals (operands b) own shown.kinds) ∙ (ap (top_place locals) one ∙ sym told_height)

    module _ (ps : List ℤ) (count : length ps ≡ length u.places) (same : (i : ℕ) → is_read_behind h i ≡ true → slice_index_or ps i (pos 0) ≡ slice_index_or u.places i (pos 0)) where
      abbrev v : State
      v = with_places u ps

      below : (i : ℕ) → i < h → slice_index_or ps i (pos 0) ≡ slice_index_or u.places i (pos 0)
      below i l = same i (ap (λ b. b || not (nat_lt i score_places)) (lt-ltb i h l))

      kept : ChangesFrameAlone u v
      kept = keeps_places u v refl refl

      -- it stands there with these numbers too
      abbrev still_at : (ds : List Activation) (b : Activation) → At m ds b u → At m ds b v
      still_at ds b p =
          let top : top_of b.locals (operands b) ≡ h = cut_height ds b p in
          record {
            cut = p.cut;
            is_cut = p.is_cut;
            visit = p.visit;
            stands = p.stands;
            place = p.place;
            named = p.named;
            frame = frame_agrees (frame_size m b.func) b.locals (operands b) u.places ps p.frame count (λ i l. below i (omega arith));
            below = p.below;
            waiting = p.waiting;
            calm = calm_places p.below u v refl refl p.calm;
          }

      -- no other standing names a cut
      pub still_arrives : (r : ℕ) (st : Store) (cs : List Activation) (a : Activation) → Arrives m r st cs a u → Arrives m r st cs a v
      still_arrives r st cs a (stands.to_standing k now ds b leads x has higher) = by_standing x has higher
        where
          no_name : {A : Type 0} (g i : ℕ) → first_restore ≤ i → u.keys in_rest key_next ≡ Some (id_tree (body_piece g i)) → A
          no_name g i low e =
              let same_name : (g ≡ n) × (i ≡ j) = same_body g i n j (some_of _ _ (sym e ∙ named)) in
              no_height j h (subst (λ (x : ℕ). first_restore ≤ x) same_name.1 low) is_height

          no_share : {A : Type 0} (i : ℕ) → u.keys in_rest key_next ≡ Some (id_tree (shared_piece i)) → A
          no_share i e = not_shared i n j func_few (some_of _ _ (sym e ∙ named))

          by_left : {A : Type 0} (g i left : ℕ) → u.keys in_rest key_next ≡ Some (id_tree (dividing_piece g i left)) → A
          by_left g i zero e = no_name g (first_restore + i) (omega arith) e
          by_left g i (suc l) e = no_name g (first_fetch + (most_fetches * i + 0)) (omega arith) e

          by_standing : (x : Standing m ds b u) → HasStore m now u x → r < 16 * k + rank_of m x → Arrives m r st cs a v
          by_standing (stands.at_cut p) has higher = stands.to_standing k now ds b leads (stands.at_cut (still_at ds b p)) (stored_kept m now u v kept has) higher
          by_standing (stands.opening p) has higher = no_share _ p.named
          by_standing (stands.making c es p e) has higher = no_share _ p.named
          by_standing (stands.fetching c es i p e) has higher = no_name c.func (first_fetch + (most_fetches * p.passing.waits.cut.index + i)) (omega arith) p.named
          by_standing (stands.restoring c us p e) has higher = no_name c.func (first_restore + p.waits.cut.index) (omega arith) p.named
          by_standing (stands.placing p) has higher = no_share _ p.named
          by_standing (stands.growing p) has higher = no_share _ p.named
          by_standing (stands.dividing p) has higher = by_left b.func p.cut.index p.left p.named
      still_arrives r st cs a (stands.to_end k now b vs leads stored ends e) = not_end _ n j (some_of _ _ (sym e.named ∙ named))
      still_arrives r st cs a (stands.to_trap k i now ds b kind leads stored fails recorded state) = stands.to_trap k i now ds b kind leads (stored_kept m now u v kept stored) fails recorded state

  -- ---- behind a trap

  -- no trap is recorded where the state stands for an activation
  stands_calm : (ds : List Activation) (b : Activation) (u : State) → Standing m ds b u → u.scores score_trap ≡ Some (pos 0)
  stands_calm ds b u (stands.at_cut p) = p.calm.trap
  stands_calm ds b u (stands.opening p) = p.calm.trap
  stands_calm ds b u (stands.making c es p e) = p.passing.calm.trap
  stands_calm ds b u (stands.fetching c es i p e) = p.passing.calm.trap
  stands_calm ds b u (stands.restoring c us p e) = p.calm.trap
  stands_calm ds b u (stands.placing p) = p.calm.trap
  stands_calm ds b u (stands.growing p) = p.calm.trap
  stands_calm ds b u (stands.dividing p) = p.calm.trap

  not_calm : {A : Type 0} (u : State) → is_trapped u ≡ true → u.scores score_trap ≡ Some (pos 0) → A
  not_calm u e f = absurd (let y : false ≡ true = sym (ap (λ o. some_is_in (from (pos 1)) o && true) f) ∙ e in cc)

  -- what isn't written by a piece is seen
  seen_unwritten : (r : sights.Store) (k : Text) → is_written r k ≡ false → is_unseen r k ≡ false
  seen_unwritten in_io k e = refl
  seen_unwritten in_memory k e = refl
  seen_unwritten in_rest k e = few (bytes_eq key_next k) (bytes_eq key_follows k) (bytes_eq key_below k) (bytes_eq key_entry k) (is_work_key in_rest k) e
    where
      few : (a b c d f : Bool) → a || (b || (c || (d || f))) ≡ false → a || (b || f) ≡ false
      few false false false false f e = e
      few false false false true f e = absurd cc
      few false false true d f e = absurd cc
      few false true c d f e = absurd cc
      few true b c d f e = absurd cc

  kept_unseen : (u v : State) → DifferUnseen u v → ChangesFrameAlone u v
  kept_unseen u v d = record { keys = λ r k e. d.keys r k (seen_unwritten r k e); scores = λ h a b c. d.scores h b }

  still_trapped : (u v : State) → is_trapped u ≡ true → DifferUnseen u v → (r : ℕ) (st : Store) (cs : List Activation) (a : Activation) → Arrives m r st cs a u → Arrives m r st cs a v
  still_trapped u v e d r st cs a (stands.to_standing k now ds b leads x has higher) = not_calm u e (stands_calm ds b u x)
  still_trapped u v e d r st cs a (stands.to_end k now b vs leads stored ends f) = not_calm u e f.calm.trap
  still_trapped u v e d r st cs a (stands.to_trap k i now ds b kind leads stored fails recorded state) =
      stands.to_trap k i now ds b kind leads (stored_kept m now u v (kept_unseen u v d) stored) fails (d.scores score_trap refl ∙ recorded) (d.keys in_io key_state refl ∙ state)

  still_spared : (s u v : State) → DifferUnseen u v → ChangesStoreAlone s u → ChangesStoreAlone s v
  still_spared s u v d c = record {
    keys = λ r k e f. d.keys r k (seen_unwritten r k e) ∙ c.keys r k e f;
    scores = λ h e f g i. d.scores h f ∙ c.scores h e f g i;
  }

  -- ---- what lean items do

  module _ (r : ℕ) (st : Store) (cs : List Activation) (a : Activation) (xs ys : Items) (s : State) where
    led_simulates : LeadsLean n heights xs ys s → Simulates m r st cs a xs s → Simulates m r st cs a ys s
    led_simulates l d =
        let u : State = (run_items xs s).state in
        let is : with_places u l.places ≡ (run_items ys s).state = sym l.state in
        record {
          ready = l.ready;
          arrives = subst (Arrives m r st cs a) is (there_with l.same);
          spares = subst (ChangesStoreAlone s) is (record { keys = d.spares.keys; scores = d.spares.scores });
        }
      where
        there_with : ((l.places ≡ (run_items xs s).state.places) ⊎ AgreesAhead n heights (run_items xs s).state (run_items ys s).state) → Arrives m r st cs a (with_places (run_items xs s).state l.places)
        there_with (inl e) = subst (λ (ps : List ℤ). Arrives m r st cs a (with_places (run_items xs s).state ps)) (sym e) d.arrives
        there_with (inr g) =
            still_arrives (run_items xs s).state g.next.index g.height g.next.named g.next.is_height l.places l.count
            (λ i h. ap (λ (w : State). place_at w i) (sym l.state) ∙ g.same i h) r st cs a d.arrives

    pub lean_simulates : LeadsOn n heights xs ys s → Simulates m r st cs a xs s → Simulates m r st cs a ys s
    lean_simulates (leads_lean l) d = led_simulates l d
    lean_simulates (leads_to_trap ready trapped differs) d =
        let u : State = (run_items xs s).state in
        let v : State = (run_items ys s).state in
        record { ready = ready; arrives = still_trapped u v trapped differs r st cs a d.arrives; spares = still_spared s u v differs d.spares }

  -- the lean items of the piece of a cut, where its items do so as they are emitted
  pub cut_simulates : (r : ℕ) (st : Store) (cs : List Activation) (a : Activation) (s : State) (c : Cut) (q : Piece) → IsPieceOf m n c q → s.keys in_rest key_next ≡ Some (id_tree (body_piece n c.index)) → score_places ≤ length s.places → Simulates m r st cs a (plain_items m n q) s → Simulates m r st cs a (lean_cut m n q) s
  cut_simulates r st cs a s c q is named wide d =
      let xs : Items = plain_items m n q in
      let own : ℕ = top_place locals q.cut in
      let start : NamesCut n heights own s = record { index = c.index; named = named; is_height = ap (height_at heights) is.is_index ∙ piece_height is.position q is.is_piece } in
      subst (λ (o : Option Body). Simulates m r st cs a (lean_in n (function_pieces m n) o (Some q) xs) s) (sym t.body)
      (lean_simulates r st cs a xs (lean_items n heights (Some own) xs) s (lean_lead n heights (Some own) xs s start wide d.ready) d)

  -- lean items of the function, of any of its pieces
  pub further_lean : (r : ℕ) (st : Store) (cs : List Activation) (a : Activation) (s : State) → score_places ≤ length s.places → (xs : Items) → Simulates m r st cs a xs s → Simulates m r st cs a (lean_in n (function_pieces m n) (function_body m n) None xs) s
  further_lean r st cs a s wide xs d =
      subst (λ (o : Option Body). Simulates m r st cs a (lean_in n (function_pieces m n) o None xs) s) (sym t.body)
      (lean_simulates r st cs a xs (lean_items n heights None xs) s (lean_lead n heights None xs s tt wide d.ready) d)
