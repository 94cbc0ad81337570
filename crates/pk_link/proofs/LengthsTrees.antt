-- The tree of a page has no line feed.
use Rattle.std.proofs.Common.{◌≡◌, ℕ, List, [], ◌∷◌, map, true}
use Rattle.mc_nbt.specs.Shape.{is_tree, items_shaped}
use Rattle.mc_nbt.specs.Tree.{Tree, int, items}
use Rattle.mc_nbt.specs.Word.{is_int}
use Rattle.mc_cmd.proofs.FormLemmas.{and_first, and_second}
use Rattle.mc_cmd.proofs.PieceLemmas.{number_piece}
use Rattle.cc_line.proofs.TableLemmas.{Each}
use Rattle.cc_page.specs.Pages.{page_tree, signed_word}
use Rattle.cc_text.specs.Short.{tree_bare}
use Rattle.cc_text.proofs.ShortItems.{piece_bare}
use Rattle.cc_text.proofs.ShortTrees.{list_piece, TreePiece}

abbrev word_tree : ℕ → Tree
word_tree m = int (signed_word m)

each_word : (ms : List ℕ) → items_shaped (items (map word_tree ms)) ≡ true → Each (TreePiece 11) (map word_tree ms)
each_word [] h = tt
each_word (m ∷ ms) h = (number_piece (signed_word m) (and_first _ _ h), each_word ms (and_second (is_int (signed_word m)) _ h))

-- the words of one that may stand in a storage are ints
pub page_bare : (ms : List ℕ) → is_tree (page_tree ms) ≡ true → tree_bare (page_tree ms) ≡ true
page_bare ms h = piece_bare (page_tree ms) _ (list_piece 11 (map word_tree ms) (each_word ms (and_first _ _ (and_first _ _ h))))
