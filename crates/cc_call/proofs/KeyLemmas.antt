-- What calls write and read at paths, and the keys of calls.
use Rattle.std.proofs.Common.{◌≡◌, ◌≤◌, List, [], ◌∷◌, ◌++◌, Some, false, refl, ap, ◌∙◌, arith}
use Rattle.std.specs.Prelude.{◌&&◌, ◌||◌, negsuc, option_and_then}
use Rattle.std.specs.Str.{bytes_eq}
use Rattle.std.proofs.lemmas.Bool.{or_parts}
use Rattle.mc_nbt.specs.Tree.{Tree, key, place, select, child, depth}
use Rattle.mc_cmd.specs.Form.{Text}
use Rattle.cc_line.specs.Sight.{Store, in_io, in_memory, in_rest, same_store}
use Rattle.cc_line.specs.Key.{key_state, key_result, key_below, key_entry, key_next, PieceId, id_tree}
use Rattle.cc_line.specs.Running.{Kept, entry_tree}
use Rattle.cc_line.specs.Step.{set_site}
use Rattle.cc_line.specs.State.{State, at_key, selected}
use Rattle.cc_line.proofs.KeyLemmas.{Written, set_writes}
use Rattle.cc_call.specs.Frames.{last_at, next_site, next_acts}
use Rattle.cc_call.specs.Law.{IsBelow, is_call_key, is_told_key, ActsLead}
use Rattle.cc_call.proofs.ActLemmas.{lead_one}
use Rattle.cc_call.proofs.EntryLemmas.{depth_id, select_one, below_last}

-- ---- what paths select

-- all that stands under a key
pub selects_key : (s : State) (r : Store) (k : Text) (u : Tree) → s.keys r k ≡ Some u → selected s (at_key r k) ≡ Some u
selects_key s r k u e = ap (option_and_then (λ v. select v [])) e

-- what stands under a key of the last entry
pub selects_last : (s : State) (bs : List Kept) (b : Kept) (k : Text) (u : Tree) → IsBelow (bs ++ (b ∷ [])) s → child (entry_tree b) (key k) ≡ Some u → selected s (last_at k) ≡ Some u
selects_last s bs b k u e f =
    ap (option_and_then (λ v. select v (place (negsuc 0) ∷ (key k ∷ [])))) e
    ∙ ap (option_and_then (λ v. select v (key k ∷ []))) (below_last bs b)
    ∙ select_one (entry_tree b) k
    ∙ f

-- ---- the keys of calls

pub not_below : (r : Store) (k : Text) → is_call_key r k ≡ false → same_store in_rest r && bytes_eq key_below k ≡ false
not_below in_io k e = refl
not_below in_memory k e = refl
not_below in_rest k e = (or_parts (bytes_eq key_below k) (bytes_eq key_entry k || bytes_eq key_next k) e).0

pub not_entry : (r : Store) (k : Text) → is_call_key r k ≡ false → same_store in_rest r && bytes_eq key_entry k ≡ false
not_entry in_io k e = refl
not_entry in_memory k e = refl
not_entry in_rest k e = (or_parts (bytes_eq key_entry k) (bytes_eq key_next k) (or_parts (bytes_eq key_below k) (bytes_eq key_entry k || bytes_eq key_next k) e).1).0

pub not_next : (r : Store) (k : Text) → is_call_key r k ≡ false → same_store in_rest r && bytes_eq key_next k ≡ false
not_next in_io k e = refl
not_next in_memory k e = refl
not_next in_rest k e = (or_parts (bytes_eq key_entry k) (bytes_eq key_next k) (or_parts (bytes_eq key_below k) (bytes_eq key_entry k || bytes_eq key_next k) e).1).1

pub not_state : (r : Store) (k : Text) → is_told_key r k ≡ false → same_store in_io r && bytes_eq key_state k ≡ false
not_state in_io k e = (or_parts (bytes_eq key_state k) (bytes_eq key_result k) e).0
not_state in_memory k e = refl
not_state in_rest k e = refl

pub not_result : (r : Store) (k : Text) → is_told_key r k ≡ false → same_store in_io r && bytes_eq key_result k ≡ false
not_result in_io k e = (or_parts (bytes_eq key_state k) (bytes_eq key_result k) e).1
not_result in_memory k e = refl
not_result in_rest k e = refl

-- ---- the next piece

pub id_low : (p : PieceId) → depth (id_tree p) ≤ 63
id_low p = let e : depth (id_tree p) ≡ 2 = depth_id p in omega arith

pub named : (p : PieceId) (s : State) → ActsLead (next_acts p) s (Written in_rest key_next (id_tree p) s)
named p s = lead_one (Written in_rest key_next (id_tree p) s) (set_site next_site (id_tree p)) s tt (set_writes s next_site (id_tree p) (id_tree p) refl (id_low p))
