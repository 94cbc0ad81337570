-- The helpers that a pack's pieces call have names of the lists of the crates of routines, joined: so they are few, and
-- their names are of the sort of helpers.
use Rattle.std.proofs.Common.{◌≡◌, ◌∙◌, ap, refl, sym, inl, inr, ℕ, zero, suc, ◌+◌, ◌<◌, ◌≤◌, List, [], ◌∷◌, length, Bool, true, false, Some, arith}
use Rattle.std.specs.Prelude.{codes, nat_eq, nat_lt, ◌&&◌, ◌||◌, if◌then◌else◌}
use Rattle.std.specs.List.{list_all}
use Rattle.std.proofs.lemmas.Bool.{eqb-true, ltb-true}
use Rattle.mc_cmd.specs.Form.{Text}
use Rattle.mc_cmd.specs.Chain.{Texts}
use Rattle.mc_cmd.proofs.FormLemmas.{and_first, and_second}
use Rattle.wm_ast.specs.declared.module.Module.{Module}
use Rattle.wm_valid.specs.Height.{Low}
use Rattle.wm_flat.specs.Program.{IsProgram}
use Rattle.cc_line.specs.Helpers.{each_once}
use Rattle.cc_line.specs.Item.{Helper, items_helpers}
use Rattle.cc_text.specs.Tables.{AreNamed, begins, lines_named, NamedHelper}
use Rattle.cc_text.proofs.NamedItems.{helpers_both, helpers_named}
use Rattle.cc_text.proofs.OnceLemmas.{Every, every_once, once_few}
use Rattle.cc_text.proofs.RoomLemmas.{begins_so, BeginsSo, joined, joined_few, most_joined, Room, room_within}
use Rattle.cc_i32.specs.Helpers as word_list
use Rattle.cc_i32.proofs.HelperLemmas as word_helpers
use Rattle.cc_bits.specs.Helpers as bit_list
use Rattle.cc_bits.proofs.HelperLemmas as bit_helpers
use Rattle.cc_bits64.specs.Helpers as long_list
use Rattle.cc_bits64.proofs.HelperLemmas as long_helpers
use Rattle.cc_div64.specs.Helpers as division_list
use Rattle.cc_div64.proofs.HelperLemmas as division_helpers
use Rattle.cc_mem.specs.Helpers as memory_list
use Rattle.cc_mem.proofs.HelperLemmas as memory_helpers
use Rattle.cc_table.specs.Helpers.{call_beginning, call_helpers, look_beginning, look_helpers}
use Rattle.cc_table.proofs.HelperLemmas as table_helpers
use Rattle.cc_pieces.specs.Parts.{Part}
use Rattle.cc_body.specs.Parts.{parts_helpers}
use Rattle.cc_init.specs.Init.{later_pieces}
use Rattle.pk_agree.specs.Heaviest.{pack_parts}
use Rattle.pk_link.proofs.Known.{HasRooms, pack_known, PartsNamed}
use Rattle.pk_link.proofs.Routines.{init_routines, inits_own, most_is, most_routines, shared_own, shared_routines}
use Rattle.pk_link.proofs.SchedNames.{AllSorted, byte_at, sort}

-- the lists of all crates whose items call helpers
abbrev word_room : Room
word_room = record { beginning = word_list.beginning; helpers = word_list.helpers; most = 100; own = word_helpers.helpers_own }

abbrev bit_room : Room
bit_room = record { beginning = bit_list.beginning; helpers = bit_list.helpers; most = 100; own = bit_helpers.helpers_own }

abbrev long_room : Room
long_room = record { beginning = long_list.beginning; helpers = long_list.helpers; most = 100; own = long_helpers.helpers_own }

abbrev division_room : Room
division_room = record { beginning = division_list.beginning; helpers = division_list.helpers; most = 100; own = division_helpers.helpers_own }

abbrev look_room : Room
look_room = record { beginning = look_beginning; helpers = look_helpers; most = 100; own = table_helpers.helpers_own }

abbrev memory_room : Room
memory_room = record { beginning = memory_list.beginning; helpers = memory_list.helpers; most = 10000; own = memory_helpers.helpers_own }

abbrev type_room : Module → Room
type_room m = record { beginning = call_beginning; helpers = call_helpers m; most = length m.types; own = table_helpers.types_own m }

abbrev init_room : Module → Room
init_room m = record { beginning = codes "i"; helpers = init_routines m; most = suc (later_pieces m); own = inits_own m }

abbrev shared_room : Module → Room
shared_room m = record { beginning = codes "s"; helpers = shared_routines m; most = most_routines; own = shared_own m }

abbrev rooms : Module → List Room
rooms m =
    word_room
    ∷ (bit_room ∷ (long_room ∷ (division_room ∷ (look_room ∷ (memory_room ∷ (type_room m ∷ (init_room m ∷ (shared_room m ∷ []))))))))

pub pack_names : Module → List NamedHelper
pack_names m = joined (rooms m)

has_rooms : (m : Module) → length m.types ≤ 4096 → HasRooms m (pack_names m)
unfolding pack_names
has_rooms m few = record {
  few = omega arith;
  words = room_within (rooms m) 0 word_room refl refl;
  bits = room_within (rooms m) 1 bit_room refl refl;
  long_bits = room_within (rooms m) 2 long_room refl refl;
  divisions = room_within (rooms m) 3 division_room refl refl;
  looks = room_within (rooms m) 4 look_room refl refl;
  memory = room_within (rooms m) 5 memory_room refl refl;
  types = room_within (rooms m) 6 (type_room m) refl refl;
  inits = room_within (rooms m) 7 (init_room m) refl refl;
  shared = room_within (rooms m) 8 (shared_room m) refl refl;
}

names_long : (m : Module) → length (pack_names m) ≤ most_joined (rooms m)
unfolding pack_names
names_long m = joined_few (rooms m)

names_begin : (m : Module) (ns f : Text) (ts : Texts) → lines_named (pack_names m) ns f ≡ Some ts → BeginsSo (rooms m) f
unfolding pack_names
names_begin m ns f ts e = begins_so (rooms m) ns f ts e

-- ---- the helpers of pieces

helpers_of_parts : (names : List NamedHelper) (ns : Text) (ps : List Part) → PartsNamed names ps → AreNamed names ns (parts_helpers ns ps)
helpers_of_parts names ns [] known = tt
helpers_of_parts names ns (p ∷ ps) known =
    helpers_both names ns (items_helpers ns p.items) (parts_helpers ns ps) (helpers_named names ns p.items known.0) (helpers_of_parts names ns ps known.1)

pub pack_helpers : (m : Module) → IsProgram m → Low m → length m.types ≤ 4096 → (ns : Text) → AreNamed (pack_names m) ns (parts_helpers ns (pack_parts m))
pack_helpers m program low few ns = helpers_of_parts (pack_names m) ns (pack_parts m) (pack_known m (pack_names m) (has_rooms m few) program low)

pub helpers_few : (m : Module) (ns : Text) (hs : List Helper) → AreNamed (pack_names m) ns hs → length (each_once hs) ≤ 40502 + (length m.types + later_pieces m)
helpers_few m ns hs a =
    let most : most_routines ≡ 30001 = most_is in
    let b : length (each_once hs) ≤ length (pack_names m) = once_few (pack_names m) ns hs a in
    let c : length (pack_names m) ≤ most_joined (rooms m) = names_long m in
    omega arith

-- ---- the sort of their names

byte_of_beginning : (n : ℕ) (p f : Text) → n < length p → begins p f ≡ true → byte_at n f ≡ byte_at n p
byte_of_beginning n [] f h b = absurd (omega arith)
byte_of_beginning n (x ∷ p) [] h b = absurd cc
byte_of_beginning zero (x ∷ p) (y ∷ f) h b = sym (eqb-true x y (and_first (nat_eq x y) _ b))
byte_of_beginning (suc n) (x ∷ p) (y ∷ f) h b = byte_of_beginning n p f (omega arith) (and_second (nat_eq x y) _ b)

-- by the first byte of a name and the third one
abbrev sort_by : ℕ → ℕ → ℕ
sort_by b c =
    if nat_eq b 99 then 1
    else if nat_eq b 102 then 2
    else if nat_eq b 105 || nat_eq b 115 then 3
    else if nat_eq b 104 && (nat_eq c 99 || nat_eq c 109) then 3
    else 0

sort_of_beginning : (p f : Text) → 2 < length p → begins p f ≡ true → sort f ≡ sort p
sort_of_beginning p f h b =
    ap (λ c. sort_by c (byte_at 2 f)) (byte_of_beginning 0 p f (omega arith) b) ∙ ap (sort_by (byte_at 0 p)) (byte_of_beginning 2 p f h b)

-- by what is asked of the first byte, and by the third one
abbrev sort_at : ℕ → Bool → Bool → Bool → Bool → ℕ
sort_at c w x y z = if w then 1 else if x then 2 else if y then 3 else if z && (nat_eq c 99 || nat_eq c 109) then 3 else 0

-- the first byte may tell the sort, whatever the third one is
sort_by_first : (b c : ℕ) → sort_by b 0 ≡ 3 → sort_by b c ≡ 3
sort_by_first b c e = by (nat_eq b 99) (nat_eq b 102) (nat_eq b 105 || nat_eq b 115) (nat_eq b 104) e
  where
    by : (w x y z : Bool) → sort_at 0 w x y z ≡ 3 → sort_at c w x y z ≡ 3
    by true x y z e = absurd (let q : 1 ≡ 3 = e in omega arith)
    by false true y z e = absurd (let q : 2 ≡ 3 = e in omega arith)
    by false false true z e = refl
    by false false false true e = absurd (let q : 0 ≡ 3 = e in omega arith)
    by false false false false e = absurd (let q : 0 ≡ 3 = e in omega arith)

abbrev is_by_third : Room → Bool
is_by_third r = nat_lt 2 (length r.beginning) && nat_eq (sort r.beginning) 3

abbrev is_by_first : Room → Bool
is_by_first r = nat_lt 0 (length r.beginning) && nat_eq (sort_by (byte_at 0 r.beginning) 0) 3

abbrev is_of_helpers : Room → Bool
is_of_helpers r = is_by_third r || is_by_first r

sort_of_own : (r : Room) (f : Text) → is_of_helpers r ≡ true → begins r.beginning f ≡ true → sort f ≡ 3
sort_of_own r f o b = by (is_by_third r) refl o
  where
    by : (d : Bool) → is_by_third r ≡ d → d || is_by_first r ≡ true → sort f ≡ 3
    by true e o =
        sort_of_beginning r.beginning f (ltb-true 2 (length r.beginning) (and_first (nat_lt 2 (length r.beginning)) _ e)) b
        ∙ eqb-true (sort r.beginning) 3 (and_second (nat_lt 2 (length r.beginning)) _ e)
    by false e o =
        let same : byte_at 0 f ≡ byte_at 0 r.beginning = byte_of_beginning 0 r.beginning f (ltb-true 0 (length r.beginning) (and_first (nat_lt 0 (length r.beginning)) _ o)) b in
        ap (λ c. sort_by c (byte_at 2 f)) same
        ∙ sort_by_first (byte_at 0 r.beginning) (byte_at 2 f) (eqb-true (sort_by (byte_at 0 r.beginning) 0) 3 (and_second (nat_lt 0 (length r.beginning)) _ o))

sort_of_room : (rs : List Room) (f : Text) → list_all is_of_helpers rs ≡ true → BeginsSo rs f → sort f ≡ 3
sort_of_room [] f h b = absurd b
sort_of_room (r ∷ rs) f h (inl b) = sort_of_own r f (and_first (is_of_helpers r) _ h) b
sort_of_room (r ∷ rs) f h (inr b) = sort_of_room rs f (and_second (is_of_helpers r) _ h) b

all_sorted : (m : Module) (ns : Text) (hs : List Helper) → AreNamed (pack_names m) ns hs → Every (λ h. sort h.name ≡ 3) hs
all_sorted m ns [] a = tt
all_sorted m ns (h ∷ hs) a = (sort_of_room (rooms m) h.name refl (names_begin m ns h.name h.lines a.0), all_sorted m ns hs a.1)

every_sorted : (hs : List Helper) → Every (λ h. sort h.name ≡ 3) hs → AllSorted 3 hs
every_sorted [] a = tt
every_sorted (h ∷ hs) a = (a.0, every_sorted hs a.1)

pub once_sorted : (m : Module) (ns : Text) (hs : List Helper) → AreNamed (pack_names m) ns hs → AllSorted 3 (each_once hs)
once_sorted m ns hs a = every_sorted (each_once hs) (every_once (λ h. sort h.name ≡ 3) hs (all_sorted m ns hs a))
