-- The functions of the pack of a module are taken one after the other, and each can be stored in a file.
use Rattle.std.proofs.Common.{◌≡◌, sym, subst, ℕ, ◌<◌, ◌≤◌, List, [], ◌∷◌, ◌++◌, length, map, true, arith}
use Rattle.std.specs.List.{AllByRecursion}
use Rattle.mc_cmd.specs.Form.{Text}
use Rattle.mc_cmd.specs.Word.{is_namespace}
use Rattle.mc_cmd.specs.Lines.{IsShort}
use Rattle.wm_ast.specs.declared.module.Module.{Module}
use Rattle.wm_ast.specs.Instance.{exported_functions}
use Rattle.wm_valid.specs.Height.{Low}
use Rattle.wm_flat.specs.Program.{IsProgram}
use Rattle.cc_line.specs.Helpers.{each_once}
use Rattle.cc_line.specs.Item.{Helper, no_more}
use Rattle.cc_line.specs.Key.{PieceId}
use Rattle.cc_sched.specs.Functions.{call_functions, sched_functions}
use Rattle.cc_sched.specs.Names.{piece_name}
use Rattle.cc_pieces.specs.Parts.{part}
use Rattle.cc_body.specs.Parts.{parts_helpers}
use Rattle.cc_pieces.proofs.LightPieces.{dones_light, grower_light, placers_light, takers_light}
use Rattle.cc_body.proofs.LightPieces.{pieces_light}
use Rattle.cc_body.proofs.NumbersLaws.{numbers_are_lines}
use Rattle.pk_link.specs.Functions.{entry, pack_functions, piece_function}
use Rattle.pk_agree.specs.Heaviest.{heaviest, pack_parts}
use Rattle.pk_link.specs.steps.Adding.{AreTaken}
use Rattle.pk_link.proofs.Counts.{exports_are_few, types_are_few}
use Rattle.cc_text.specs.Tables.{AreNamed}
use Rattle.cc_text.proofs.OnceLemmas.{Apart, apart_both, Distinct, distinct_both, none_both, NoneNamed, once_distinct}
use Rattle.pk_link.proofs.Distinct.{distinct_differ}
use Rattle.pk_link.proofs.KnownHelpers.{once_sorted, pack_helpers, pack_names}
use Rattle.cc_text.specs.Short.{AllShort}
use Rattle.pk_link.proofs.LengthsPack.{pack_is_few, pack_is_short}
use Rattle.pk_link.proofs.Lines.{pack_entries}
use Rattle.pk_link.proofs.PartNames.{pieces_distinct, pieces_sorted}
use Rattle.pk_link.proofs.SchedNames.{AllSorted, calls_distinct, calls_sorted, fixed_distinct, fixed_functions, fixed_sorted, other_sort, sched_is, sort, sorts_apart}

apart_front : (xs ys zs : List Helper) → Apart xs zs → Apart ys zs → Apart (xs ++ ys) zs
apart_front [] ys zs a b = b
apart_front (x ∷ xs) ys zs a b = (a.0, apart_front xs ys zs a.1 b)

all_storable : (hs : List Helper) → AllShort hs → AllByRecursion (λ e. IsShort e.1) (map entry hs)
all_storable [] a = tt
all_storable (h ∷ hs) a = (record { unbroken = a.0.unbroken; short = a.0.short }, all_storable hs a.1)

module _ (m : Module) (program : IsProgram m) (low : Low m) (ns : Text) where
  pub known_helpers : AreNamed (pack_names m) ns (parts_helpers ns (pack_parts m))
  known_helpers = pack_helpers m program low (types_are_few m program) ns

  abbrev fixed : List Helper
  fixed = fixed_functions ns (heaviest m)

  abbrev calls : List Helper
  calls = call_functions ns 0 (exported_functions m)

  abbrev named_pieces : List Helper
  named_pieces = map (piece_function ns) (pack_parts m)

  abbrev helpers : List Helper
  helpers = each_once (parts_helpers ns (pack_parts m))

  other : (j k : ℕ) → j < k → j ≡ k → ⊥
  other j k l e = omega arith

  calls_are : AllSorted 1 calls
  calls_are = calls_sorted ns 0 (exported_functions m)

  pieces_are : AllSorted 2 named_pieces
  pieces_are = pieces_sorted ns (pack_parts m)

  helpers_are : AllSorted 3 helpers
  helpers_are = once_sorted m ns (parts_helpers ns (pack_parts m)) known_helpers

  distinct_parted : Distinct ((fixed ++ calls) ++ (named_pieces ++ helpers))
  distinct_parted =
      distinct_both (fixed ++ calls) (named_pieces ++ helpers)
      (distinct_both fixed calls (fixed_distinct ns (heaviest m)) (calls_distinct ns 0 (exported_functions m) (let l : length (exported_functions m) ≤ 4096 = exports_are_few m program in omega arith)) (sorts_apart 0 1 (other 0 1 (omega arith)) fixed calls (fixed_sorted ns (heaviest m)) calls_are))
      (distinct_both named_pieces helpers (pieces_distinct m ns program low) (once_distinct (parts_helpers ns (pack_parts m))) (sorts_apart 2 3 (other 2 3 (omega arith)) named_pieces helpers pieces_are helpers_are))
      (apart_front fixed calls (named_pieces ++ helpers)
      (apart_both fixed named_pieces helpers (sorts_apart 0 2 (other 0 2 (omega arith)) fixed named_pieces (fixed_sorted ns (heaviest m)) pieces_are) (sorts_apart 0 3 (other 0 3 (omega arith)) fixed helpers (fixed_sorted ns (heaviest m)) helpers_are))
      (apart_both calls named_pieces helpers (sorts_apart 1 2 (other 1 2 (omega arith)) calls named_pieces calls_are pieces_are) (sorts_apart 1 3 (other 1 3 (omega arith)) calls helpers calls_are helpers_are)))

  pub pack_distinct : Distinct (pack_functions m ns)
  pack_distinct = subst (λ (l : List Helper). Distinct (l ++ (named_pieces ++ helpers))) (sym (sched_is ns (heaviest m) (exported_functions m))) distinct_parted

  -- no other function has the name of a piece
  apart_from_pieces : (id : PieceId) (k : ℕ) → (2 ≡ k → ⊥) → (hs : List Helper) → AllSorted k hs → NoneNamed (piece_name id) hs
  apart_from_pieces id k o hs s = (sorts_apart 2 k o (piece_function ns (part id no_more) ∷ []) hs (pieces_sorted ns (part id no_more ∷ [])) s).0

  pub sched_is_other : (id : PieceId) → NoneNamed (piece_name id) (sched_functions ns (heaviest m) (exported_functions m))
  sched_is_other id =
      subst (NoneNamed (piece_name id)) (sym (sched_is ns (heaviest m) (exported_functions m)))
      (none_both (piece_name id) fixed calls (apart_from_pieces id 0 (λ e. other 0 2 (omega arith) (sym e)) fixed (fixed_sorted ns (heaviest m))) (apart_from_pieces id 1 (λ e. other 1 2 (omega arith) (sym e)) calls calls_are))

  pub helpers_are_other : (id : PieceId) → NoneNamed (piece_name id) helpers
  helpers_are_other id = apart_from_pieces id 3 (other 2 3 (omega arith)) helpers helpers_are

  -- a name of the sort of helpers is no other function's
  pub no_scheduler : (f : Text) → sort f ≡ 3 → NoneNamed f (sched_functions ns (heaviest m) (exported_functions m))
  no_scheduler f e =
      subst (NoneNamed f) (sym (sched_is ns (heaviest m) (exported_functions m)))
      (none_both f fixed calls (other_sort 3 0 (λ q. other 0 3 (omega arith) (sym q)) f fixed e (fixed_sorted ns (heaviest m))) (other_sort 3 1 (λ q. other 1 3 (omega arith) (sym q)) f calls e calls_are))

  pub no_piece : (f : Text) → sort f ≡ 3 → NoneNamed f named_pieces
  no_piece f e = other_sort 3 2 (λ q. other 2 3 (omega arith) (sym q)) f named_pieces e pieces_are

  module _ (n : is_namespace ns ≡ true) where
    pub pack_taken : AreTaken (pack_functions m ns)
    pack_taken = record {
      entries = pack_entries ns n m program low;
      differ = distinct_differ (pack_functions m ns) pack_distinct;
      few = pack_is_few m program low (pieces_light numbers_are_lines) takers_light placers_light grower_light dones_light ns n;
    }

    pub pack_storable : AllByRecursion (λ e. IsShort e.1) (map entry (pack_functions m ns))
    pack_storable = all_storable (pack_functions m ns) (pack_is_short m program low (pieces_light numbers_are_lines) takers_light placers_light grower_light dones_light ns n)
