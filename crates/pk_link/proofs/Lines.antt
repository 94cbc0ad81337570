-- Each line of a pack is one of the grammar and names only what is the pack's, and each name of a function is such.
use Rattle.std.proofs.Common.{◌≡◌, refl, ℕ, ◌<◌, ◌≤◌, List, [], ◌∷◌, ◌++◌, length, map, true, Option, Some, None, arith}
use Rattle.std.specs.Prelude.{is_some, nat_lt, option_and_then}
use Rattle.std.specs.List.{AllByRecursion, list_all}
use Rattle.std.proofs.lemmas.Bool.{lt-ltb}
use Rattle.mc_cmd.specs.declared.TheConstants.{PIECE}
use Rattle.mc_cmd.specs.Chain.{Texts}
use Rattle.mc_cmd.specs.Command.{Line}
use Rattle.mc_cmd.specs.Form.{lacks, Text}
use Rattle.mc_cmd.specs.Grammar.{line_said}
use Rattle.mc_cmd.specs.Packing.{are_lines, is_entry}
use Rattle.mc_cmd.specs.Tidy.{is_tidy, is_tidy_by, says_tidy, text_by, Tidy}
use Rattle.mc_cmd.specs.Word.{is_function_name, is_namespace}
use Rattle.mc_cmd.proofs.FormLemmas.{and_both, and_first, and_second}
use Rattle.wm_ast.specs.declared.module.Module.{Module}
use Rattle.wm_ast.specs.Instance.{exported_functions}
use Rattle.wm_valid.specs.Height.{Low}
use Rattle.wm_flat.specs.Program.{IsProgram}
use Rattle.cc_line.specs.Helpers.{each_once}
use Rattle.cc_line.specs.Item.{AllTidy, Helper, items_helpers}
use Rattle.cc_line.proofs.ItemLemmas.{items_helpers_tidy, items_tidy}
use Rattle.cc_text.proofs.NamedItems.{both_functions, items_functions}
use Rattle.cc_text.proofs.OnceLemmas.{Every, every_both, every_once}
use Rattle.cc_sched.specs.Functions.{sched_functions}
use Rattle.cc_pieces.specs.Parts.{Part}
use Rattle.cc_body.specs.Parts.{parts_helpers}
use Rattle.cc_sched.proofs.Dispatch.{piece_fits}
use Rattle.cc_sched.proofs.TidyLemmas.{functions_named, functions_tidy}
use Rattle.cc_pieces.proofs.LightPieces.{dones_light, grower_light, placers_light, takers_light}
use Rattle.cc_body.proofs.LightPieces.{pieces_light}
use Rattle.cc_body.proofs.NumbersLaws.{numbers_are_lines}
use Rattle.cc_init.proofs.Light.{init_light}
use Rattle.pk_link.specs.Functions.{entry, pack_functions, piece_function}
use Rattle.pk_agree.specs.Heaviest.{heaviest, pack_parts}
use Rattle.pk_link.proofs.Counts.{exports_are_few}
use Rattle.pk_link.proofs.LengthsSched.{exports_are_low}
use Rattle.pk_link.proofs.PartFits.{pack_fits, PartsFit}
use Rattle.pk_link.proofs.PartNames.{AllFit, pack_fit}
use Rattle.pk_link.proofs.HeaviestLemmas.{heaviest_weighs}

-- a tidy line is one
tidy_said : (ns t : Text) → is_tidy ns t ≡ true → is_some (line_said t) ≡ true
tidy_said ns t h = go (line_said t) (and_first (is_tidy_by ns (48 ∷ []) t) _ (and_second (lacks 34 t) _ h))
  where
    go : (o : Option Line) → says_tidy ns (option_and_then (λ l. line_said (text_by (48 ∷ []) t l)) o) ≡ true → is_some o ≡ true
    go None h = absurd cc
    go (Some l) h = refl

pub tidy_lines : (ns : Text) (ts : Texts) → Tidy ns ts → are_lines ts ≡ true
tidy_lines ns [] h = refl
tidy_lines ns (t ∷ ts) h = and_both _ _ (tidy_said ns t (and_first (is_tidy ns t) _ h)) (tidy_lines ns ts (and_second (is_tidy ns t) _ h))

-- the name is one of a function, and its lines name only what is the pack's
abbrev IsGood : Text → Helper → Type 0
IsGood ns h = (is_function_name h.name ≡ true) × Tidy ns h.lines

good_tidy : (ns : Text) (hs : List Helper) → AllTidy ns hs → list_all (λ h. is_function_name h.name) hs ≡ true → Every (IsGood ns) hs
good_tidy ns [] t n = tt
good_tidy ns (h ∷ hs) t n = ((and_first (is_function_name h.name) _ n, t.0), good_tidy ns hs t.1 (and_second (is_function_name h.name) _ n))

-- what a pack asks of a function
good_entries : (ns : Text) (hs : List Helper) → Every (IsGood ns) hs → list_all is_entry (map entry hs) ≡ true
good_entries ns [] a = refl
good_entries ns (h ∷ hs) a = and_both (is_entry (entry h)) _ (and_both (is_function_name h.name) _ a.0.0 (tidy_lines ns h.lines a.0.1)) (good_entries ns hs a.1)

good_lines : (ns : Text) (hs : List Helper) → Every (IsGood ns) hs → AllByRecursion (λ e. Tidy ns e.1) (map entry hs)
good_lines ns [] a = tt
good_lines ns (h ∷ hs) a = (a.0.1, good_lines ns hs a.1)

lows : (fs : List ℕ) → AllByRecursion (λ f. f < 2147483648) fs → list_all (λ f. nat_lt f 2147483648) fs ≡ true
lows [] a = refl
lows (f ∷ fs) a = and_both _ _ (lt-ltb f 2147483648 a.0) (lows fs a.1)

tidy_both : (ns : Text) (xs ys : List Helper) → AllTidy ns xs → AllTidy ns ys → AllTidy ns (xs ++ ys)
tidy_both ns [] ys a b = b
tidy_both ns (x ∷ xs) ys a b = (a.0, tidy_both ns xs ys a.1 b)

module _ (ns : Text) (n : is_namespace ns ≡ true) where
  good_pieces : (ps : List Part) → AllFit ps → PartsFit ps → Every (IsGood ns) (map (piece_function ns) ps)
  good_pieces [] f g = tt
  good_pieces (p ∷ ps) f g = ((piece_fits p.id f.0, items_tidy ns n p.items g.0.fits), good_pieces ps f.1 g.1)

  parts_tidy : (ps : List Part) → PartsFit ps → AllTidy ns (parts_helpers ns ps)
  parts_tidy [] g = tt
  parts_tidy (p ∷ ps) g = tidy_both ns (items_helpers ns p.items) (parts_helpers ns ps) (items_helpers_tidy ns n p.items g.0.fits) (parts_tidy ps g.1)

  parts_functions : (ps : List Part) → PartsFit ps → list_all (λ h. is_function_name h.name) (parts_helpers ns ps) ≡ true
  parts_functions [] g = refl
  parts_functions (p ∷ ps) g = both_functions (items_helpers ns p.items) (parts_helpers ns ps) (items_functions ns p.items g.0.fits) (parts_functions ps g.1)

  module _ (m : Module) (program : IsProgram m) (low : Low m) where
    abbrev exports : List ℕ
    exports = exported_functions m

    abbrev sched : List Helper
    sched = sched_functions ns (heaviest m) exports

    abbrev named_pieces : List Helper
    named_pieces = map (piece_function ns) (pack_parts m)

    abbrev called : List Helper
    called = parts_helpers ns (pack_parts m)

    pub fits : PartsFit (pack_parts m)
    fits = pack_fits m program low (pieces_light numbers_are_lines) takers_light placers_light grower_light dones_light (init_light m program)

    few : length exports ≤ 4096
    few = exports_are_few m program

    good_sched : Every (IsGood ns) sched
    good_sched = good_tidy ns sched (functions_tidy ns n (heaviest m) (let most : heaviest m ≤ PIECE = (heaviest_weighs m program low).1 in omega arith) exports (lows exports (exports_are_low m program))) (functions_named ns (heaviest m) exports (let h = few in omega arith))

    good_called : Every (IsGood ns) (each_once called)
    good_called = every_once (IsGood ns) called (good_tidy ns called (parts_tidy (pack_parts m) fits) (parts_functions (pack_parts m) fits))

    pack_good : Every (IsGood ns) (pack_functions m ns)
    pack_good =
        every_both (IsGood ns) sched (named_pieces ++ each_once called) good_sched
        (every_both (IsGood ns) named_pieces (each_once called) (good_pieces (pack_parts m) (pack_fit m program low) fits) good_called)

    pub pack_entries : list_all is_entry (map entry (pack_functions m ns)) ≡ true
    pack_entries = good_entries ns (pack_functions m ns) pack_good

    pub pack_tidy : AllByRecursion (λ e. Tidy ns e.1) (map entry (pack_functions m ns))
    pack_tidy = good_lines ns (pack_functions m ns) pack_good
