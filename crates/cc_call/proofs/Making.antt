-- The frame of a function whose arguments are still to be fetched.
use Rattle.std.proofs.Common.{◌≡◌, ◌+◌, ◌-◌, min, [], ◌∷◌, length, take, replicate, Some, false, refl, ap, ◌∙◌}
use Rattle.std.specs.Prelude.{pos, ◌&&◌}
use Rattle.std.specs.Str.{bytes_eq}
use Rattle.std.proofs.lemmas.Bool.{or_parts}
use Rattle.mc_cmd.specs.Form.{Text}
use Rattle.cc_line.specs.Sight.{Store, in_io, in_memory, in_rest, same_store}
use Rattle.cc_line.specs.Key.{key_next, key_follows, id_tree}
use Rattle.cc_line.specs.Place.{score_places}
use Rattle.cc_line.specs.State.{State, selected}
use Rattle.cc_line.specs.Step.{Act, set_site, copy_site, make_list, after_act}
use Rattle.cc_line.proofs.KeyLemmas.{Written, set_writes, copy_writes}
use Rattle.cc_call.specs.Fetch.{follows_site}
use Rattle.cc_call.specs.Frames.{next_site, zero_acts}
use Rattle.cc_call.specs.Law.{is_making_key, Made, FramesAreMade}
use Rattle.cc_call.proofs.ActLemmas.{lead_first, lead_one, lead_then}
use Rattle.cc_call.proofs.KeyLemmas.{selects_key, id_low}
use Rattle.cc_call.proofs.Opening.{listed, Cleared, clears}

-- ---- the keys that are written

not_next : (r : Store) (k : Text) → is_making_key r k ≡ false → same_store in_rest r && bytes_eq key_next k ≡ false
not_next in_io k e = refl
not_next in_memory k e = refl
not_next in_rest k e = (or_parts (bytes_eq key_next k) (bytes_eq key_follows k) e).0

not_follows : (r : Store) (k : Text) → is_making_key r k ≡ false → same_store in_rest r && bytes_eq key_follows k ≡ false
not_follows in_io k e = refl
not_follows in_memory k e = refl
not_follows in_rest k e = (or_parts (bytes_eq key_next k) (bytes_eq key_follows k) e).1

-- ---- its list and its zeros, and the pieces

pub frames_are_made : FramesAreMade
frames_are_made params zeros size next first s stands h k l =
    let Q : State → Type 0 = Made params zeros size next first s in
    let name : Act = copy_site next_site follows_site in
    let follow : Act = set_site follows_site (id_tree first) in
    lead_then (Cleared params zeros size s) Q (make_list (replicate (size - score_places) (pos 0)) ∷ zero_acts params (min (params + zeros) score_places - params)) (name ∷ (follow ∷ [])) s
    (clears params zeros size s h k l)
    (λ t c.
    let scores : t.scores ≡ s.scores = ap (λ (u : State). u.scores) c.rest in
    let keys : t.keys ≡ s.keys = ap (λ (u : State). u.keys) c.rest in
    let stays : t.keys in_rest key_follows ≡ Some (id_tree next) = ap (λ f. f in_rest key_follows) keys ∙ stands in
    let t1 : State = after_act (copy_site next_site follows_site) t in
    let t2 : State = after_act (set_site follows_site (id_tree first)) t1 in
    let w1 : Written in_rest key_next (id_tree next) t t1 =
    copy_writes t next_site (selected t follows_site) (id_tree next) (id_tree next) (selects_key t in_rest key_follows (id_tree next) stays) refl (id_low next) in
    let w2 : Written in_rest key_follows (id_tree first) t1 t2 = set_writes t1 follows_site (id_tree first) (id_tree first) refl (id_low first) in
    lead_first Q name (follow ∷ []) t tt
    (lead_one Q follow t1 tt
    (record {
      front = take params (listed size s.places);
      junk = c.junk;
      places = w2.places ∙ w1.places ∙ c.places;
      front_length = c.front_length;
      sized = ap length (w2.places ∙ w1.places) ∙ c.sized;
      scores = w2.scores ∙ w1.scores ∙ scores;
      named = w2.others in_rest key_next refl ∙ w1.there;
      follows = w2.there;
      keys = λ r j n. w2.others r j (not_follows r j n) ∙ w1.others r j (not_next r j n) ∙ ap (λ f. f r j) keys;
    })))
