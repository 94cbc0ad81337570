-- A run of the piece that appends pages: the cut behind is next, or the piece itself, with fewer pages missing.
use Rattle.std.proofs.Common.{◌≡◌, ℕ, suc, ◌+◌, ◌-◌, ◌*◌, ◌<◌, ◌≤◌, List, ◌++◌, length, replicate, Bool, true, false, ◌||◌, Some, refl, sym, ap, ◌∙◌, subst, arith, append-nil, length-append, bytes_eq}
use Rattle.std.specs.Prelude.{if◌then◌else◌, min, nat_le}
use Rattle.std.proofs.lemmas.Bool.{le-leb, lt-leb, leb-true, leb-false}
use Rattle.std.proofs.lemmas.List.{length-replicate}
use Rattle.mc_cmd.specs.Form.{Text}
use Rattle.wm_ast.specs.declared.module.Module.{Module}
use Rattle.wm_ast.specs.declared.module.ValType.{ValType}
use Rattle.wm_ast.specs.Store.{Store, most_pages}
use Rattle.wm_ast.specs.declared.limit.TheConstants.{PAGES}
use Rattle.wm_ast.proofs.LimitLaws.{most_few}
use Rattle.wm_flat.specs.Flat.{Activation}
use Rattle.wm_flat.specs.FlatTyping.{TypedMemory, TypedState}
use Rattle.wm_flat.specs.Operands.{operands}
use Rattle.wm_flat.proofs.Consequences.{leads_nowhere}
use Rattle.wm_place.proofs.IntLemmas.{or_false}
use Rattle.cc_line.specs.Sight.{in_io, in_memory, in_rest}
use Rattle.cc_line.specs.Sight as sights
use Rattle.cc_line.specs.Key.{key_state, key_globals, key_next, key_follows, key_below, key_entry, key_end, score_trap, is_work_key, body_piece, id_tree}
use Rattle.cc_line.specs.State.{State}
use Rattle.cc_line.specs.Step.{Flow}
use Rattle.cc_page.specs.Pages.{ArePages, zero_page, pages_bytes}
use Rattle.cc_page.proofs.ShownLemmas.{pages_grown}
use Rattle.cc_bulk.specs.Grow.{pages_of_run, grower_items}
use Rattle.cc_bulk.specs.GrowLaw.{is_grower_key, Appends, PagesAreAppended}
use Rattle.cc_mem.specs.Standing.{HasMemory}
use Rattle.cc_bulk.proofs.Appended.{all_appended}
use Rattle.cc_cut.specs.Law.{rank}
use Rattle.cc_move.specs.Law.{at}
use Rattle.cc_pieces.specs.Fetching.{most_fetches}
use Rattle.cc_pieces.specs.Growing.{most_runs, runs_for}
use Rattle.cc_body.specs.Layout.{frame_size}
use Rattle.cc_simulate.specs.Frame.{Frame}
use Rattle.cc_simulate.specs.Stands.{RunsOver, is_written, is_stored, ChangesStoreAlone, At, Growing, Arrives}
use Rattle.cc_simulate.specs.Stands as stands
use Rattle.cc_simulate.specs.Stored.{globals_tree, HasPages, Stored, StoredBut}
use Rattle.cc_simulate.specs.Law.{Simulates}
use Rattle.cc_simulate.specs.Uses.{uses_bytes}
use Rattle.cc_simulate.proofs.Acts.{unwritten_is_no_work}
use Rattle.cc_simulate.proofs.Frames.{frame_same}
use Rattle.cc_simulate.proofs.MemoryLemmas.{memory_of, pages_of, pages_counted, either_false}
use Rattle.cc_simulate.proofs.Lasting.{lasts_grown}

-- what the piece may write, a piece of a body may
no_grower : (r : sights.Store) (k : Text) → is_written r k ≡ false → is_stored r k ≡ false → is_grower_key r k ≡ false
no_grower in_io k w p = refl
no_grower in_memory k w p = absurd (let y : true ≡ false = p in cc)
no_grower in_rest k w p =
    let first = or_false (bytes_eq key_next k) (bytes_eq key_follows k || (bytes_eq key_below k || (bytes_eq key_entry k || is_work_key in_rest k))) w in
    either_false (bytes_eq key_next k) (is_work_key in_rest k) first.0 (unwritten_is_no_work in_rest k w)

module _ (appends : PagesAreAppended) (m : Module) (results : List ValType) (st : Store) (cs : List Activation) (a : Activation) (s : State) (typed : TypedState m results (at st cs a)) (p : Growing m cs a s) (h : StoredBut m p.missing st s) where
  abbrev ps : List (List ℕ)
  ps = h.pages

  has : HasMemory ps s
  has = memory_of m.mems ps s p.has_memory h.memory

  -- with those that are missing there are no more than the memory may have
  few : length ps + p.missing ≤ PAGES
  few =
      let t : TypedMemory m st.memory = typed.store.memory in
      let all : ArePages (ps ++ replicate p.missing zero_page) = (pages_grown ps p.missing has.are_pages).0 in
      let many : length (ps ++ replicate p.missing zero_page) ≡ t.count = pages_counted m (ps ++ replicate p.missing zero_page) st.memory all h.bytes t in
      let parts : length (ps ++ replicate p.missing zero_page) ≡ length ps + length (replicate p.missing zero_page) = length-append ps (replicate p.missing zero_page) in
      let more : length (replicate p.missing zero_page) ≡ p.missing = length-replicate p.missing zero_page in
      let most : t.count ≤ most_pages m = t.at_most in
      let least : most_pages m ≤ PAGES = most_few _ in
      omega arith

  y : Appends p.missing (body_piece a.func p.cut.index) ps s
  y = appends p.missing (body_piece a.func p.cut.index) ps s has p.told (let l : length ps + p.missing ≤ PAGES = few in omega arith) p.follows

  abbrev qs : List (List ℕ)
  qs = ps ++ replicate (min p.missing pages_of_run) zero_page

  -- ---- what stays

  spares : ChangesStoreAlone s y.state
  spares = record { keys = λ r k w q. y.keys r k (no_grower r k w q); scores = λ g b w t i. y.scores g w }

  calm : RunsOver (uses_bytes m) p.below y.state
  calm = record {
    trap = y.scores score_trap refl ∙ p.calm.trap;
    state = y.keys in_io key_state refl ∙ p.calm.state;
    ending = (p.calm.ending.0, y.keys in_rest key_end refl ∙ p.calm.ending.1, p.calm.ending.2);
    standing = lasts_grown s y.state y.keys y.scores p.calm.standing;
    below = y.keys in_rest key_below refl ∙ p.calm.below;
  }

  frame : Frame (frame_size m a.func) a.locals (operands a) y.state.places
  frame = frame_same (frame_size m a.func) a.locals (operands a) s.places y.state.places y.places p.frame

  globals : y.state.keys in_memory key_globals ≡ Some (globals_tree st.globals)
  globals = y.keys in_memory key_globals refl ∙ h.globals

  memory : HasPages m.mems qs y.state
  memory = pages_of m.mems qs y.state p.has_memory y.memory

  bytes : st.memory ≡ pages_bytes (qs ++ replicate (p.missing - pages_of_run) zero_page)
  bytes = h.bytes ∙ ap pages_bytes (sym (all_appended ps p.missing zero_page))

  -- ---- what is next

  -- none is missing any more
  complete : p.missing ≤ 32 → At m cs a y.state × Stored m st y.state
  complete l =
      let none : p.missing - 32 ≡ 0 = omega arith in
      let last : nat_le p.missing 32 ≡ true = le-leb p.missing 32 l in (
        record {
          cut = p.cut;
          is_cut = p.is_cut;
          visit = p.visit;
          stands = p.stands;
          place = p.place;
          named = y.next ∙ ap (λ b. if b then Some (id_tree (body_piece a.func p.cut.index)) else s.keys in_rest key_next) last;
          frame = frame;
          below = p.below;
          waiting = p.waiting;
          calm = calm;
        },
        record {
          globals = globals;
          pages = qs;
          bytes = bytes ∙ ap (λ n. pages_bytes (qs ++ replicate n zero_page)) none ∙ ap pages_bytes (append-nil qs);
          memory = memory;
          table = h.table;
        },
      )

  -- some are
  further : 32 < p.missing → (x : Growing m cs a y.state) × (x.missing ≡ p.missing - 32) × StoredBut m x.missing st y.state
  further l =
      let more : nat_le p.missing 32 ≡ false = lt-leb p.missing 32 l in (
        record {
          has_memory = p.has_memory;
          cut = p.cut;
          is_cut = p.is_cut;
          visit = p.visit;
          stands = p.stands;
          place = p.place;
          missing = p.missing - pages_of_run;
          told = y.told;
          named = y.next ∙ ap (λ b. if b then Some (id_tree (body_piece a.func p.cut.index)) else s.keys in_rest key_next) more ∙ p.named;
          follows = y.keys in_rest key_follows refl ∙ p.follows;
          frame = frame;
          below = p.below;
          waiting = p.waiting;
          calm = calm;
        },
        refl,
        record { globals = globals; pages = qs; bytes = bytes; memory = memory; table = h.table },
      )

  arrives : Arrives m (most_runs - runs_for p.missing) st cs a y.state
  arrives = by_test (nat_le p.missing 32) refl
    where
      by_test : (b : Bool) → nat_le p.missing 32 ≡ b → Arrives m (most_runs - runs_for p.missing) st cs a y.state
      by_test true q =
          let w = complete (leb-true p.missing 32 q) in
          let paid : most_runs - runs_for p.missing < 16 * 0 + (most_fetches + suc (rank w.0.visit)) = omega arith in
          stands.to_standing 0 st cs a (leads_nowhere m (at st cs a)) (stands.at_cut w.0) w.1 paid
      by_test false q =
          let l : 32 < p.missing = leb-false p.missing 32 q in
          let w = further l in
          let most : length ps + p.missing ≤ PAGES = few in
          let paid : most_runs - runs_for p.missing < 16 * 0 + (most_runs - runs_for w.0.missing) = omega arith in
          stands.to_standing 0 st cs a (leads_nowhere m (at st cs a)) (stands.growing w.0) w.2 paid

  pub appended : Simulates m (most_runs - runs_for p.missing) st cs a grower_items s
  appended = record {
    ready = y.ready;
    arrives = subst (Arrives m (most_runs - runs_for p.missing) st cs a) (sym (ap (λ (f : Flow). f.state) y.ends)) arrives;
    spares = subst (ChangesStoreAlone s) (sym (ap (λ (f : Flow). f.state) y.ends)) spares;
  }
