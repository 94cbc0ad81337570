-- Lines that are put together from pieces: what they say, that they are short enough, and that none has a line feed.
use Rattle.std.proofs.Common.{◌≡◌, ◌∙◌, ap, refl, ℕ, ◌+◌, ◌<◌, ◌≤◌, ◌^◌, [], ◌∷◌, ◌++◌, length, length-append, Bool, true, false, Some, arith}
use Rattle.std.specs.Prelude.{ℤ, codes, is_some, nat_le, unwrap_or, if◌then◌else◌}
use Rattle.std.specs.List.{list_all}
use Rattle.std.specs.Fmt.{signed_decimal}
use Rattle.std.proofs.lemmas.Bool.{le-leb, leb-true, ltb-true}
use Rattle.std.proofs.lemmas.Fmt.{length_signed_le}
use Rattle.std.proofs.lemmas.List.Folds.{list_all-append}
use lib.Signed.{mag}
use Rattle.mc_nbt.specs.Word.{is_int}
use Rattle.mc_cmd.specs.Form.{Text, lacks}
use Rattle.mc_cmd.specs.Word.{is_namespace}
use Rattle.mc_cmd.specs.Command.{Cmd, nothing, command}
use Rattle.mc_cmd.specs.Grammar.{cmd_text, cmd_fits, most, line_said}
use Rattle.mc_cmd.specs.Chain.{Texts, is_pattern, line_of, has_pattern}
use Rattle.mc_cmd.specs.Layout.{io_of, memory_of}
use Rattle.mc_cmd.specs.Packing.{are_lines}
use Rattle.mc_cmd.proofs.FormLemmas.{and_both}
use Rattle.mc_cmd.proofs.WordLemmas.{all_lack, lacks-append, int_bytes, is_number_byte}
use Rattle.mc_cmd.proofs.GrammarLemmas.{reads_said, text_says}
use Rattle.mc_cmd.proofs.NameLemmas.{namespace_short, namespace_lacks}

-- a text of at most so many bytes without line feed
pub record IsPiece (k : ℕ) (t : Text) : Type 0 where
  pub short : length t ≤ k
  pub bare : lacks 10 t ≡ true

pub literal : (t : Text) → lacks 10 t ≡ true → IsPiece (length t) t
literal t h = record { short = omega arith; bare = h }

pub joined : {j k : ℕ} {a b : Text} → IsPiece j a → IsPiece k b → IsPiece (j + k) (a ++ b)
joined {j = j} {k = k} {a = a} {b = b} p q = record { short = let n = length-append a b in let x = p.short in let y = q.short in omega arith; bare = lacks-append 10 a b p.bare q.bare }

pub space : IsPiece 1 (codes " ")
space = literal (codes " ") refl

pub namespace_piece : (ns : Text) → is_namespace ns ≡ true → IsPiece 16 ns
namespace_piece ns h = record { short = namespace_short ns h; bare = namespace_lacks ns 10 refl h }

pub io_piece : (ns : Text) → is_namespace ns ≡ true → IsPiece 19 (io_of ns)
io_piece ns h = joined (namespace_piece ns h) (literal (codes ":io") refl)

pub memory_piece : (ns : Text) → is_namespace ns ≡ true → IsPiece 18 (memory_of ns)
memory_piece ns h = joined (namespace_piece ns h) (literal (codes ":m") refl)

pub number_piece : (z : ℤ) → is_int z ≡ true → IsPiece 11 (signed_decimal z)
number_piece z h =
    let lt : mag z < 2 ^ 31 = ltb-true _ _ h in
    record { short = length_signed_le 10 z (omega arith) (omega arith); bare = all_lack is_number_byte 10 refl (signed_decimal z) (int_bytes z lt) }

-- the text says the command and has no line feed
pub record IsLine (t : Text) (c : Cmd) : Type 0 where
  pub said : line_said t ≡ Some (command c)
  pub bare : lacks 10 t ≡ true

-- the text of a command that fits, where its pieces are short enough
pub is_line : (c : Cmd) (k : ℕ) → cmd_fits c ≡ true → IsPiece k (cmd_text c) → nat_le k most ≡ true → IsLine (cmd_text c) c
is_line c k fits p few =
    let k-few : k ≤ most = leb-true k most few in
    let t-few = p.short in
    record { said = reads_said _ _ (text_says (command c) fits (le-leb (length (cmd_text c)) most (omega arith))); bare = p.bare }

-- each of the texts says a line, none is a pattern, and none has a line feed
pub record AreCommands (ts : Texts) : Type 0 where
  pub say : are_lines ts ≡ true
  pub bare : list_all (lacks 10) ts ≡ true
  pub unfilled : has_pattern ts ≡ false

pub no_lines : AreCommands []
no_lines = record { say = refl; bare = refl; unfilled = refl }

pub one_line : (t : Text) (c : Cmd) (ts : Texts) → IsLine t c → AreCommands ts → AreCommands (t ∷ ts)
one_line t c ts l ls = record {
  say = and_both (is_some (line_said t)) _ (ap is_some l.said) ls.say;
  bare = and_both (lacks 10 t) _ l.bare ls.bare;
  unfilled = ap (λ o. if is_pattern (unwrap_or o nothing) then true else has_pattern ts) l.said ∙ ls.unfilled;
}

both_unfilled : (ts us : Texts) → has_pattern ts ≡ false → has_pattern us ≡ false → has_pattern (ts ++ us) ≡ false
both_unfilled [] us a b = b
both_unfilled (t ∷ ts) us a b = go (is_pattern (line_of t)) a (both_unfilled ts us)
  where
    go : (p : Bool) → (if p then true else has_pattern ts) ≡ false → (has_pattern ts ≡ false → has_pattern us ≡ false → has_pattern (ts ++ us) ≡ false) → (if p then true else has_pattern (ts ++ us)) ≡ false
    go true a ih = absurd cc
    go false a ih = ih a b

pub both_lines : (ts us : Texts) → AreCommands ts → AreCommands us → AreCommands (ts ++ us)
both_lines ts us a b = record {
  say = list_all-append (λ t. is_some (line_said t)) ts us ∙ and_both _ _ a.say b.say;
  bare = list_all-append (lacks 10) ts us ∙ and_both _ _ a.bare b.bare;
  unfilled = both_unfilled ts us a.unfilled b.unfilled;
}
