-- Where an activation begins, the piece that is next leads to a state that stands for it with a higher rank.
use Rattle.std.proofs.Common.{◌≡◌, ℕ, suc, ◌+◌, ◌*◌, ◌<◌, List, ◌∷◌, sym, ap, ◌∙◌, subst, arith}
use Rattle.wm_ast.specs.declared.module.Func.{Func}
use Rattle.wm_ast.specs.declared.module.FuncType.{FuncType}
use Rattle.wm_ast.specs.declared.module.Module.{Module}
use Rattle.wm_ast.specs.declared.module.ValType.{ValType}
use Rattle.wm_ast.specs.Store.{Store}
use Rattle.wm_ast.specs.Types.{run_types}
use Rattle.wm_flat.specs.Flat.{Activation, opened}
use Rattle.wm_flat.specs.FlatTyping.{IsFunction, TypedState}
use Rattle.wm_flat.specs.Program.{IsProgram}
use Rattle.wm_flat.proofs.Consequences.{leads_nowhere}
use Rattle.wm_place.proofs.KindLemmas.{Typed, typed_function}
use Rattle.cc_line.specs.Item.{Items}
use Rattle.cc_line.specs.State.{State}
use Rattle.cc_call.specs.Frames.{opening_piece}
use Rattle.cc_call.specs.Law.{CallsWork}
use Rattle.cc_cut.specs.Law.{rank}
use Rattle.cc_move.specs.Law.{MovesFollow, at}
use Rattle.cc_pieces.specs.Fetching.{fetch_piece}
use Rattle.cc_body.specs.Layout.{frame_size}
use Rattle.cc_body.specs.Pieces.{fetch_items, opening_items}
use Rattle.cc_simulate.specs.Callers.{IsPieceOf}
use Rattle.cc_simulate.specs.Stands.{At, Opening, Making, Fetching, rank_of}
use Rattle.cc_simulate.specs.Stands as stands
use Rattle.cc_simulate.specs.Stored.{Stored}
use Rattle.cc_simulate.specs.Law.{Enters, Simulates}
use Rattle.cc_simulate.specs.Named.{items_named}
use Rattle.cc_simulate.proofs.Fetched.{fetches_few, fetched_enters}
use Rattle.cc_simulate.proofs.Globals.{stored_kept}
use Rattle.cc_simulate.proofs.Made.{Higher, opened_enters, made_enters}
use Rattle.cc_simulate.proofs.Named.{named_opening, named_fetch}
use Rattle.cc_simulate.proofs.Proceeding.{keeps_spares}
use Rattle.cc_simulate.proofs.RunningOn.{FurtherSimulates}

higher_simulates : (m : Module) (r : ℕ) (st : Store) (cs : List Activation) (a : Activation) (xs : Items) (s : State) → Stored m st s → Enters xs s (Higher m r cs a) → Simulates m r st cs a xs s
higher_simulates m r st cs a xs s h e =
    let l : r < rank_of m e.there.0 = e.there.1 in
    record {
      ready = e.ready;
      arrives = stands.to_standing 0 st cs a (leads_nowhere m (at st cs a)) e.there.0 (e.there.2 st (stored_kept m st s _ e.keeps h)) (let x : r < 16 * 0 + rank_of m e.there.0 = omega arith in x);
      spares = keeps_spares s _ e.keeps;
    }

module _ (moves : MovesFollow) (works : CallsWork) (m : Module) (program : IsProgram m) (further : FurtherSimulates m) (results : List ValType) (st : Store) where
  module _ (cs : List Activation) (a : Activation) (s : State) (stored : Stored m st s) (typed : TypedState m results (at st cs a)) where
    -- the arguments have been passed
    pub opening_simulates : (p : Opening m cs a s) → Simulates m 0 st cs a (items_named m (opening_piece a.func)) s
    opening_simulates p =
        let f : Func = typed.flat.0 in
        let u : FuncType = typed.flat.1 in
        let is : IsFunction m a.func f u = typed.flat.2.is_function in
        let xs : Items = opening_items a.func u (run_types f.locals) (frame_size m a.func) in
        let made : Enters xs s (At m cs (opened a.func p.callee p.args)) =
        opened_enters moves works m program a.func f u p.callee is p.is_callee p.args p.types cs p.below p.waiting s p.junk p.places p.few p.has_scores p.calm in
        let there : Enters xs s (At m cs a) = subst (λ (b : Activation). Enters xs s (At m cs b)) (sym p.is_opened) made in
        let own : Simulates m 0 st cs a xs s =
        higher_simulates m 0 st cs a xs s stored
        (record { ready = there.ready; there = (stands.at_cut there.there, (let r : 0 < 8 + suc (rank there.there.visit) = omega arith in r), λ now h. h); keeps = there.keeps }) in
        subst (λ (ys : Items). Simulates m 0 st cs a ys s) (sym (named_opening m program a.func f u is)) (further a.func f is.there results 0 st cs a s typed p.calm.trap p.has_scores xs own)

  -- they are to be fetched
  module _ (ds : List Activation) (c a : Activation) (s : State) (stored : Stored m st s) (typed : TypedState m results (at st (c ∷ ds) a)) where
    abbrev f : Func
    f = typed.flat.0

    is : IsFunction m a.func f typed.flat.1
    is = typed.flat.2.is_function

    made_simulates : (p : Making m ds c a s) → Simulates m 0 st (c ∷ ds) a (items_named m (opening_piece a.func)) s
    made_simulates p =
        let xs : Items = opening_items a.func typed.flat.1 (run_types f.locals) (frame_size m a.func) in
        let own : Simulates m 0 st (c ∷ ds) a xs s = higher_simulates m 0 st (c ∷ ds) a xs s stored (made_enters moves works m program ds c a s p f typed.flat.1 is) in
        subst (λ (ys : Items). Simulates m 0 st (c ∷ ds) a ys s) (sym (named_opening m program a.func f typed.flat.1 is))
        (further a.func f is.there results 0 st (c ∷ ds) a s typed p.passing.calm.trap p.passing.has_scores xs own)

    fetched_simulates : (k : ℕ) (p : Fetching m ds c a k s) → Simulates m (suc k) st (c ∷ ds) a (items_named m (fetch_piece c.func p.passing.waits.cut.index k)) s
    fetched_simulates k p =
        let w = p.passing.waits in
        let q : IsPieceOf m c.func w.cut w.piece = w.is_piece in
        let there = typed.flat.3.2.is_function.there in
        let caller : Typed m c.func typed.flat.3.0 = typed_function m c.func typed.flat.3.0 program.valid there in
        let named = ap (λ i. items_named m (fetch_piece c.func i k)) q.is_index ∙ named_fetch m c.func q.position k w.piece w.type (fetches_few moves works m program results st ds c a k s p f typed.flat.1 is typed.flat.3.0 there caller) q.is_piece w.behind in
        subst (λ (xs : Items). Simulates m (suc k) st (c ∷ ds) a xs s) (sym named)
        (higher_simulates m (suc k) st (c ∷ ds) a (fetch_items m c.func (suc q.position) k w.piece w.type) s stored (fetched_enters moves works m program results st ds c a k s p f typed.flat.1 is typed.flat.3.0 there caller))

  module _ (cs : List Activation) (a : Activation) (s : State) (stored : Stored m st s) (typed : TypedState m results (at st cs a)) (c : Activation) (ds : List Activation) where
    pub making_simulates : Making m ds c a s → cs ≡ c ∷ ds → Simulates m 0 st cs a (items_named m (opening_piece a.func)) s
    making_simulates p e =
        subst (λ (xs : List Activation). Simulates m 0 st xs a (items_named m (opening_piece a.func)) s) (sym e)
        (made_simulates ds c a s stored (subst (λ (xs : List Activation). TypedState m results (at st xs a)) e typed) p)

    pub fetching_simulates : (k : ℕ) (p : Fetching m ds c a k s) → cs ≡ c ∷ ds → Simulates m (suc k) st cs a (items_named m (fetch_piece c.func p.passing.waits.cut.index k)) s
    fetching_simulates k p e =
        subst (λ (xs : List Activation). Simulates m (suc k) st xs a (items_named m (fetch_piece c.func p.passing.waits.cut.index k)) s) (sym e)
        (fetched_simulates ds c a s stored (subst (λ (xs : List Activation). TypedState m results (at st xs a)) e typed) k p)
