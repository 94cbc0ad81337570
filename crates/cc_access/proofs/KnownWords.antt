-- The word of a known address.
use Rattle.std.proofs.Common.{◌≡◌, ℕ, ◌+◌, ◌*◌, ◌/◌, ◌%◌, ◌<◌, ◌≤◌, List, [], ◌∷◌, length, Some, sym, ap, ◌∙◌, arith}
use Rattle.std.specs.Prelude.{option_and_then, pos}
use Rattle.mc_nbt.specs.Tree.{int, place, select}
use Rattle.wm_ast.specs.Storage.{bytes_of, number_of}
use Rattle.wm_ast.specs.Store.{items_at}
use Rattle.cc_line.specs.Key.{key_memory}
use Rattle.cc_line.specs.Sight.{in_memory}
use Rattle.cc_line.specs.State.{State, selected}
use Rattle.cc_page.specs.Pages.{ArePages, pages_bytes, pages_tree, signed_word, word_at, byte_address, part_of}
use Rattle.cc_page.proofs.ReadLemmas.{words_stand, words_read}
use Rattle.cc_page.proofs.Stored.{words_are_selected}
use Rattle.cc_access.specs.Known.{byte_in, word_path}

-- the page of an address, and the place of its word
abbrev pub page_in : ℕ → ℕ
page_in at = at / 65536

abbrev pub place_in : ℕ → ℕ
place_in at = at / 4 % 16384

pub address_is : (at : ℕ) → byte_address (page_in at) (place_in at) (byte_in at) ≡ at
address_is at = omega arith

-- it stands where its first byte lies within the memory
pub record Here (ps : List (List ℕ)) (at : ℕ) : Type 0 where
  pub word : ℕ
  pub there : word_at ps (page_in at) (place_in at) ≡ Some word
  pub small : word < 4294967296

pub word_here : (ps : List (List ℕ)) (at : ℕ) → ArePages ps → at < 65536 * length ps → Here ps at
word_here ps at h l =
    let p : at / 65536 < length ps = omega arith in
    let i : at / 4 % 16384 < 16384 = omega arith in
    let w = words_stand ps h (page_in at) (place_in at) p i in
    record { word = w.0; there = w.1; small = w.2 }

module _ (ps : List (List ℕ)) (at : ℕ) (h : ArePages ps) (w : Here ps at) where
  pub word_selected : (s : State) → s.keys in_memory key_memory ≡ Some (pages_tree ps) → selected s (word_path at) ≡ Some (int (signed_word w.word))
  word_selected s e =
      ap (option_and_then (λ u. select u (place (pos (page_in at)) ∷ (place (pos (place_in at)) ∷ [])))) e
      ∙ (words_are_selected ps h (page_in at) (place_in at)).0 w.word w.there

  -- the number that bytes within it have
  pub number_within : (width : ℕ) (bytes : List ℕ) → items_at (pages_bytes ps) at width ≡ Some bytes → byte_in at + width ≤ 4 → part_of w.word (byte_in at) width ≡ number_of bytes
  number_within width bytes e l =
      let d = words_read ps h (page_in at) (place_in at) (byte_in at) width w.word w.there l in
      let q : Some (bytes_of width (part_of w.word (byte_in at) width)) ≡ Some bytes = sym d.0 ∙ ap (λ n. items_at (pages_bytes ps) n width) (address_is at) ∙ e in
      let p : bytes_of width (part_of w.word (byte_in at) width) ≡ bytes = cc in
      sym d.1 ∙ ap number_of p
