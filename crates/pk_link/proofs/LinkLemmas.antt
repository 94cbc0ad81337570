-- The pack of a module is linked of it. So it agrees with the module, and can be resumed.
use Rattle.std.proofs.Common.{◌≡◌, ◌∙◌, ap, refl, sym, subst, suc, ◌≤◌, List, ◌++◌, length, map, Some, true}
use Rattle.std.specs.Prelude.{sum}
use Rattle.mc_cmd.specs.declared.pack.Index.{Index}
use Rattle.mc_cmd.specs.Form.{Text}
use Rattle.mc_cmd.specs.Chain.{Functions, Texts}
use Rattle.mc_cmd.specs.Layout.{full_name}
use Rattle.mc_cmd.specs.Pack as packs
use Rattle.mc_cmd.specs.Packing.{index_view, is_pack_namespace, pack_view, Written}
use Rattle.mc_cmd.specs.Word.{is_namespace}
use Rattle.mc_cmd.proofs.NameLemmas.{namespace_of}
use Rattle.wm_ast.specs.declared.module.Module.{Module}
use Rattle.wm_ast.specs.Instance.{exported_functions}
use Rattle.wm_valid.specs.Checked.{IsTyped}
use Rattle.wm_valid.specs.Height.{Low}
use Rattle.wm_flat.specs.Program.{IsProgram}
use Rattle.cc_line.specs.Helpers.{each_once}
use Rattle.cc_line.specs.Item.{HasAll, Helper, Items}
use Rattle.cc_line.specs.Key.{body_piece, end_piece, init_piece, PieceId, shared_piece}
use Rattle.cc_line.proofs.HelperLemmas.{once_is_all}
use Rattle.cc_sched.specs.Functions.{sched_functions}
use Rattle.cc_sched.specs.Names.{piece_name, routine_name}
use Rattle.cc_call.specs.Frames.{done_piece, opening_piece}
use Rattle.cc_bulk.specs.Grow.{grower_items}
use Rattle.cc_pieces.specs.Restoring.{restore_piece}
use Rattle.cc_pieces.specs.Dividing.{turning_piece, turning_items, answering_piece}
use Rattle.cc_pieces.specs.Entry.{done_items, taker, taker_items}
use Rattle.cc_pieces.specs.Fetching.{fetch_piece}
use Rattle.cc_body.specs.Pieces.{answer_items, cut_items, fetch_items, function_entry, function_opening, restore_items}
use Rattle.cc_pieces.specs.Parts.{part}
use Rattle.cc_body.specs.Parts.{parts_helpers}
use Rattle.cc_pieces.specs.Growing.{grower_piece}
use Rattle.cc_pieces.specs.Placing.{placer, placer_items}
use Rattle.pk_agree.specs.Agree.{AreExports, function_exports}
use Rattle.cc_init.specs.Init.{init_items}
use Rattle.pk_agree.specs.Linked.{HasPiece, Linked}
use Rattle.cc_sched.proofs.HasLemmas.{has_calls, has_sched}
use Rattle.pk_agree.proofs.Agreeing.{linked_agree, linked_agree_stepwise}
use Rattle.pk_agree.proofs.Pieces.{pieces_are_right}
use Rattle.pk_agree.proofs.Resuming.{linked_resumable}
use Rattle.pk_link.specs.Functions.{entry, pack_functions, pack_index, piece_function}
use Rattle.pk_agree.specs.Heaviest.{heaviest, pack_parts}
use Rattle.mc_cmd.specs.Pack.{export_weight}
use Rattle.pk_link.specs.Linked.{IsPackFor, PieceIsLight}
use Rattle.pk_link.specs.steps.Adding.{AreTaken}
use Rattle.cc_text.proofs.OnceLemmas.{Distinct, every_once, helpers_are_one}
use Rattle.pk_link.proofs.Distinct.{has, has_all, in_back, in_front, packed}
use Rattle.pk_link.proofs.HeaviestLemmas.{heaviest_weighs, weighs_at_most}
use Rattle.pk_link.proofs.IndexLemmas.{exports_few, exports_light, exports_listed}
use Rattle.pk_link.proofs.KnownHelpers.{pack_names}
use Rattle.pk_link.proofs.LightLemmas.{helpers_are_light, pieces_are_light}
use Rattle.pk_link.proofs.Lines.{fits as parts_fit, pack_tidy}
use Rattle.pk_link.proofs.PackFunctions.{helpers_are_other, known_helpers, no_piece, no_scheduler, pack_distinct, pack_storable, pack_taken, sched_is_other}
use Rattle.pk_link.proofs.SchedNames.{sort}
use Rattle.pk_link.proofs.PartsIn.{body_in, done_in, entry_in, fetched_in, grower_in, init_in, opening_in, part_helped, part_named, PartIn, placer_in, restored_in, taker_in, turning_in, answering_in}

pub program_of : (m : Module) → IsTyped m → IsProgram m
program_of m t = record { valid = t.valid; profile = t.profile; numbers = t.numbers }

module _ (m : Module) (program : IsProgram m) (low : Low m) (index : Index) (n : is_namespace index.ns ≡ true) (listed : index_view index ≡ pack_index m index.ns) where
  abbrev ns : Text
  ns = index.ns

  abbrev all : List Helper
  all = pack_functions m ns

  abbrev written : Written
  written = packed index all

  abbrev functions : Functions
  functions = (pack_view written).functions

  abbrev sched : List Helper
  sched = sched_functions ns (heaviest m) (exported_functions m)

  abbrev named_pieces : List Helper
  named_pieces = map (piece_function ns) (pack_parts m)

  abbrev called : List Helper
  called = parts_helpers ns (pack_parts m)

  distinct : Distinct all
  distinct = pack_distinct m program low ns

  has_functions : HasAll functions ns sched
  has_functions = has_all index all distinct sched (λ h i. in_front h sched (named_pieces ++ each_once called) i)

  has_helpers : HasAll functions ns called
  has_helpers =
      once_is_all functions ns called (helpers_are_one (pack_names m) ns called (known_helpers m program low ns))
      (has_all index all distinct (each_once called) (λ h i. in_back h sched (named_pieces ++ each_once called) (in_back h named_pieces (each_once called) i)))

  has_piece : (i : PieceId) (xs : Items) → PartIn (part i xs) (pack_parts m) → HasPiece m (pack_view written) i xs
  has_piece i xs p = record {
    lines = has index all distinct (piece_function ns (part i xs)) (in_back (piece_function ns (part i xs)) sched (named_pieces ++ each_once called) (in_front (piece_function ns (part i xs)) named_pieces (each_once called) (part_named ns (part i xs) (pack_parts m) p)));
    helpers = part_helped functions ns (part i xs) (pack_parts m) p has_helpers;
    weighs = weighs_at_most m (part i xs) p;
  }

  is_linked : Linked m (pack_view written)
  is_linked = record {
    exports = subst (λ (i : packs.Index). AreExports m (function_exports m) i.exports) (sym listed) (exports_listed m program);
    weighs = heaviest_weighs m program low;
    scheduler = has_sched functions ns (heaviest m) (exported_functions m) has_functions;
    instantiation = λ k h. has_piece (init_piece k) (init_items m k) (init_in m k h);
    calls = λ k f e. has_calls functions ns (heaviest m) (exported_functions m) has_functions k f e;
    entries = λ k f t is. has_piece (body_piece k 0) (function_entry m k f t) (entry_in m k f t is);
    takers = λ k f t is j l. has_piece (taker j) (taker_items j) (taker_in m k f t is j l);
    openings = λ k f t is. has_piece (opening_piece k) (function_opening m k f t) (opening_in m k f t is);
    bodies = λ k position q e. has_piece (body_piece k (suc position)) (cut_items m k q) (body_in m k position q e);
    restores = λ k position q t e b. has_piece (restore_piece k (suc position)) (restore_items m k (suc position) q t) (restored_in m k position q t e b);
    fetches = λ k position j q t e b l. has_piece (fetch_piece k (suc position) j) (fetch_items m k (suc position) j q t) (fetched_in m k position j q t e b l);
    divisions = λ k position q op e b. (
      has_piece (turning_piece k (suc position)) (turning_items k (suc position)) (turning_in m k position q op e b),
      has_piece (answering_piece k (suc position)) (answer_items m k (suc position) q op) (answering_in m k position q op e b),
    );
    placers = λ k ints i some few h. has_piece (placer ints i) (placer_items ints i) (placer_in m k ints i some few h);
    grower = λ h. has_piece grower_piece grower_items (grower_in m h);
    dones = λ w h. has_piece (done_piece w) (done_items w) (done_in m w h);
  }

  piece_light : (id : PieceId) (ts : Texts) → functions (full_name ns (piece_name id)) ≡ Some ts → PieceIsLight functions ts
  piece_light = pieces_are_light index n sched (pack_parts m) (each_once called) (sched_is_other m program low ns) (helpers_are_other m program low ns) (parts_fit ns n m program low) has_helpers

  helper_light : (f : Text) → sort f ≡ 3 → (ts : Texts) → functions (full_name ns f) ≡ Some ts → PieceIsLight functions ts
  helper_light f e =
      helpers_are_light index n sched (pack_parts m) (each_once called) (parts_fit ns n m program low) has_helpers
      (λ P a. every_once P called a) f (no_scheduler m program low ns f e) (no_piece m program low ns f e)

  routine_light : (id : PieceId) (ts : Texts) → functions (full_name ns (routine_name id)) ≡ Some ts → PieceIsLight functions ts
  routine_light (body_piece f j) ts e = piece_light (body_piece f j) ts e
  routine_light (init_piece j) ts e = helper_light (routine_name (init_piece j)) refl ts e
  routine_light (shared_piece j) ts e = helper_light (routine_name (shared_piece j)) refl ts e
  routine_light (end_piece w) ts e = helper_light (routine_name (end_piece w)) refl ts e

  pub is_pack : IsPackFor ns m written
  is_pack = record {
    namespace = refl;
    agrees = linked_agree pieces_are_right m (pack_view written) program low is_linked n;
    stepwise = linked_agree_stepwise pieces_are_right m (pack_view written) program low is_linked n;
    resumable = linked_resumable pieces_are_right m (pack_view written) program low is_linked n;
    tidy = pack_tidy ns n m program low;
    pieces = piece_light;
    routines = routine_light;
    functions = pack_storable m program low ns n;
    few = subst (λ (i : packs.Index). length i.exports ≤ 4096) (sym listed) (exports_few m program);
    light = subst (λ (i : packs.Index). sum (map export_weight i.exports) ≤ 2097152) (sym listed) (exports_light m program);
  }

-- ---- as the code puts them together

pub functions_taken : (m : Module) (ns : Text) (fs : List Helper) → IsTyped m → is_pack_namespace ns ≡ true → fs ≡ pack_functions m ns → AreTaken fs
functions_taken m ns fs t h e = subst AreTaken (sym e) (pack_taken m (program_of m t) t.low ns (namespace_of ns h))

pub pack_linked : (m : Module) (ns : Text) (index : Index) (fs : List Helper) (pack : Written) → IsTyped m → is_pack_namespace ns ≡ true → fs ≡ pack_functions m ns
    → index_view index ≡ pack_index m ns → pack ≡ record { index = index; functions = map entry fs } → IsPackFor ns m pack
pack_linked m ns index fs pack t h e i p =
    let same : index.ns ≡ ns = ap (λ (x : packs.Index). x.ns) i in
    let at : IsPackFor index.ns m (packed index (pack_functions m index.ns)) =
    is_pack m (program_of m t) t.low index (subst (λ (x : Text). is_namespace x ≡ true) (sym same) (namespace_of ns h)) (i ∙ ap (pack_index m) (sym same)) in
    subst (IsPackFor ns m) (sym (p ∙ ap (packed index) e)) (subst (λ (x : Text). IsPackFor x m (packed index (pack_functions m x))) same at)
