-- Steps whose lines are renamed rightly: each word that isn't the namespace's is one word, and doesn't begin with an
-- `x`.
use Rattle.std.specs.Prelude.{◌≡◌, List, [], ◌∷◌, pos, true}
use Rattle.std.specs.Fmt.{signed_decimal}
use Rattle.mc_nbt.specs.Spelling.{tree_text}
use Rattle.mc_cmd.specs.Value.{path_text}
use Rattle.mc_cmd.specs.Word.{range_text}
use Rattle.cc_line.specs.Place.{place_name, Home, in_score, in_list, home, Spot, spot_name}
use Rattle.cc_line.specs.State.{ints, slot, Site, site_path}
use Rattle.cc_line.specs.Step.{Act, set_spot, increase, decrease, combine, set_place, copy_place, load_place}
use Rattle.cc_line.specs.Step.{keep_place}
use Rattle.cc_line.specs.Step.{load_site, keep_site, place_to_site, site_to_place, set_site, copy_site, append_value_to}
use Rattle.cc_line.specs.Step.{append_site, erase_site, open_place, make_list, save_list, restore_list, Check, in_range}
use Rattle.cc_line.specs.Step.{compare, stands, Cond, holds, fails, Step, run_act, when, stop_when}
use Rattle.cc_line.specs.Under.{is_plain}

-- the word that names a place doesn't begin with an `x`, and is one word; so are all others that a namespace is no
-- part of
abbrev pub HomePlain : Home → Type 0
HomePlain (in_score i) = is_plain (place_name i) ≡ true
HomePlain (in_list i) = is_plain (path_text (slot i)) ≡ true

abbrev pub SpotPlain : Spot → Type 0
SpotPlain h = is_plain (spot_name h) ≡ true

abbrev pub SitePlain : Site → Type 0
SitePlain p = is_plain (path_text (site_path p)) ≡ true

abbrev pub ActPlain : Act → Type 0
ActPlain (set_spot h z) = SpotPlain h × (is_plain (signed_decimal z) ≡ true)
ActPlain (increase h n) = SpotPlain h × (is_plain (signed_decimal (pos n)) ≡ true)
ActPlain (decrease h n) = SpotPlain h × (is_plain (signed_decimal (pos n)) ≡ true)
ActPlain (combine h op g) = SpotPlain h × SpotPlain g
ActPlain (set_place i z) = HomePlain (home i) × (is_plain (signed_decimal z) ≡ true)
ActPlain (copy_place i j) = HomePlain (home i) × HomePlain (home j)
ActPlain (load_place h i) = (is_plain h ≡ true) × HomePlain (home i)
ActPlain (keep_place i h) = HomePlain (home i) × (is_plain h ≡ true)
ActPlain (load_site h p) = (is_plain h ≡ true) × SitePlain p
ActPlain (keep_site p h) = SitePlain p × (is_plain h ≡ true)
ActPlain (place_to_site p i) = SitePlain p × HomePlain (home i)
ActPlain (site_to_place i p) = HomePlain (home i) × SitePlain p
ActPlain (set_site p t) = SitePlain p × (is_plain (tree_text t) ≡ true)
ActPlain (copy_site p q) = SitePlain p × SitePlain q
ActPlain (append_value_to p t) = SitePlain p × (is_plain (tree_text t) ≡ true)
ActPlain (append_site p q) = SitePlain p × SitePlain q
ActPlain (erase_site p) = SitePlain p
ActPlain (open_place i) = is_plain (place_name i) ≡ true
ActPlain (make_list zs) = is_plain (tree_text (ints zs)) ≡ true
ActPlain (save_list p) = SitePlain p
ActPlain (restore_list p) = SitePlain p

abbrev pub CheckPlain : Check → Type 0
CheckPlain (in_range h r) = SpotPlain h × (is_plain (range_text r) ≡ true)
CheckPlain (compare h c g) = SpotPlain h × SpotPlain g
CheckPlain (stands p) = SitePlain p

abbrev pub CondPlain : Cond → Type 0
CondPlain (holds c) = CheckPlain c
CondPlain (fails c) = CheckPlain c

abbrev pub CondsPlain : List Cond → Type 0
CondsPlain [] = Unit {0}
CondsPlain (c ∷ cs) = CondPlain c × CondsPlain cs

abbrev pub StepPlain : Step → Type 0
StepPlain (run_act a) = ActPlain a
StepPlain (when cs a) = CondsPlain cs × ActPlain a
StepPlain (stop_when cs) = CondsPlain cs

abbrev pub StepsPlain : List Step → Type 0
StepsPlain [] = Unit {0}
StepsPlain (y ∷ ys) = StepPlain y × StepsPlain ys
