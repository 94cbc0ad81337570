-- The functions of the pack of a module: each can be stored in a file, and there are few of them.
use Rattle.std.proofs.Common.{◌≡◌, ℕ, suc, ◌+◌, ◌≤◌, List, [], ◌∷◌, ◌++◌, length, map, true, refl, arith, length-append}
use Rattle.std.proofs.lemmas.List.{length-map}
use Rattle.mc_cmd.specs.declared.TheConstants.{PIECE}
use Rattle.mc_cmd.specs.Form.{Text}
use Rattle.mc_cmd.specs.Word.{is_namespace}
use Rattle.wm_ast.specs.declared.module.Module.{Module}
use Rattle.wm_ast.specs.Instance.{exported_functions}
use Rattle.wm_ast.specs.declared.limit.TheConstants.{PAGES}
use Rattle.wm_valid.specs.Height.{Low}
use Rattle.wm_flat.specs.Program.{IsProgram}
use Rattle.cc_line.specs.Helpers.{each_once}
use Rattle.cc_line.specs.Item.{Helper, items_texts}
use Rattle.cc_sched.specs.Functions.{call_functions, sched_functions}
use Rattle.cc_sched.specs.Names.{piece_name}
use Rattle.cc_pieces.specs.Law.{DonesAreLight, PlacersAreLight, GrowerIsLight, TakersAreLight}
use Rattle.cc_body.specs.Law.{PiecesAreLight}
use Rattle.cc_pieces.specs.Parts.{Part}
use Rattle.cc_body.specs.Parts.{module_parts, parts_helpers}
use Rattle.cc_init.specs.Init.{later_pieces, init_parts}
use Rattle.pk_link.proofs.Counts.{later_pieces_few, inits_long, parts_are_few, exports_are_few, types_are_few}
use Rattle.pk_link.proofs.KnownHelpers.{helpers_few, pack_helpers}
use Rattle.pk_link.proofs.LengthsInit.{inits_are_short}
use Rattle.cc_text.specs.Short.{AllShort}
use Rattle.cc_text.proofs.ShortItems.{short_append}
use Rattle.pk_link.proofs.LengthsParts.{PartsAreShort, parts_append, parts_are_short, parts_helped, once_helped}
use Rattle.cc_sched.proofs.Short.{functions_short}
use Rattle.pk_link.proofs.LengthsSched.{exports_are_low}
use Rattle.pk_link.proofs.HeaviestLemmas.{heaviest_weighs}
use Rattle.pk_agree.specs.Heaviest.{heaviest}

-- the pieces of a module with those of instantiation
abbrev pub all_parts : Module → List Part
all_parts m = init_parts m (suc (later_pieces m)) ++ module_parts m

-- the function of a piece
abbrev pub part_function : Text → Part → Helper
part_function ns p = record { name = piece_name p.id; lines = items_texts ns p.items }

parts_short : (ns : Text) (ps : List Part) → PartsAreShort ns ps → AllShort (map (part_function ns) ps)
parts_short ns [] a = tt
parts_short ns (p ∷ ps) a = (a.0.short, parts_short ns ps a.1)

calls_long : (ns : Text) (k : ℕ) (fs : List ℕ) → length (call_functions ns k fs) ≡ length fs
calls_long ns k [] = refl
calls_long ns k (f ∷ fs) = let e : length (call_functions ns (suc k) fs) ≡ length fs = calls_long ns (suc k) fs in let r : suc (length (call_functions ns (suc k) fs)) ≡ suc (length fs) = omega arith in r

pub sched_long : (ns : Text) (piece : ℕ) (exports : List ℕ) → length (sched_functions ns piece exports) ≡ 7 + length exports
sched_long ns piece exports = let e : length (call_functions ns 0 exports) ≡ length exports = calls_long ns 0 exports in omega arith

module _ (m : Module) (program : IsProgram m) (low : Low m) (pieces : PiecesAreLight) (takers : TakersAreLight) (placers : PlacersAreLight) (grower : GrowerIsLight) (dones : DonesAreLight) (ns : Text) (n : is_namespace ns ≡ true) where
  pub all_parts_are_short : PartsAreShort ns (all_parts m)
  all_parts_are_short =
      parts_append ns (init_parts m (suc (later_pieces m))) (module_parts m) (inits_are_short ns n m program (suc (later_pieces m)) (omega arith))
      (parts_are_short ns n m program low pieces takers placers grower dones)

  -- each function is short
  pub pack_is_short : AllShort (sched_functions ns (heaviest m) (exported_functions m) ++ (map (part_function ns) (all_parts m) ++ each_once (parts_helpers ns (all_parts m))))
  pack_is_short =
      short_append (sched_functions ns (heaviest m) (exported_functions m)) (map (part_function ns) (all_parts m) ++ each_once (parts_helpers ns (all_parts m))) (functions_short ns n (heaviest m) (let most : heaviest m ≤ PIECE = (heaviest_weighs m program low).1 in omega arith) (exported_functions m) (exports_are_low m program))
      (short_append (map (part_function ns) (all_parts m)) (each_once (parts_helpers ns (all_parts m))) (parts_short ns (all_parts m) all_parts_are_short)
      (once_helped (parts_helpers ns (all_parts m)) (parts_helped ns (all_parts m) all_parts_are_short)))

  -- and there are at most so many
  pub pack_is_few : length (sched_functions ns (heaviest m) (exported_functions m) ++ (map (part_function ns) (all_parts m) ++ each_once (parts_helpers ns (all_parts m)))) ≤ 1000000
  pack_is_few =
      let a : length (sched_functions ns (heaviest m) (exported_functions m)) ≡ 7 + length (exported_functions m) = sched_long ns (heaviest m) (exported_functions m) in
      let b : length (exported_functions m) ≤ 4096 = exports_are_few m program in
      let inits : List Part = init_parts m (suc (later_pieces m)) in
      let i : length (init_parts m (suc (later_pieces m))) ≡ suc (later_pieces m) = inits_long m (suc (later_pieces m)) in
      let j : later_pieces m ≤ 30 + PAGES = later_pieces_few m program in
      let k : length (all_parts m) ≡ length (init_parts m (suc (later_pieces m))) + length (module_parts m) = length-append inits (module_parts m) in
      let c : length (map (part_function ns) (all_parts m)) ≡ length (all_parts m) = length-map (all_parts m) (part_function ns) in
      let d : length (module_parts m) ≤ 900000 = parts_are_few m program low in
      let t : length m.types ≤ 4096 = types_are_few m program in
      let e : length (each_once (parts_helpers ns (all_parts m))) ≤ 40502 + (length m.types + later_pieces m) = helpers_few m ns (parts_helpers ns (all_parts m)) (pack_helpers m program low t ns) in
      let f : length (map (part_function ns) (all_parts m) ++ each_once (parts_helpers ns (all_parts m))) ≡ length (map (part_function ns) (all_parts m)) + length (each_once (parts_helpers ns (all_parts m))) = length-append (map (part_function ns) (all_parts m)) (each_once (parts_helpers ns (all_parts m))) in
      let g : length (sched_functions ns (heaviest m) (exported_functions m) ++ (map (part_function ns) (all_parts m) ++ each_once (parts_helpers ns (all_parts m)))) ≡ length (sched_functions ns (heaviest m) (exported_functions m)) + length (map (part_function ns) (all_parts m) ++ each_once (parts_helpers ns (all_parts m))) = length-append (sched_functions ns (heaviest m) (exported_functions m)) (map (part_function ns) (all_parts m) ++ each_once (parts_helpers ns (all_parts m))) in
      omega arith
