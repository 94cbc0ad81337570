-- What the private functions of reading give.
use Rattle.std.specs.Prelude.{◌≡◌, [], ◌∷◌, true, Some, None}
use Rattle.mc_cmd.specs.Chain.{Texts}
use Rattle.mc_cmd.specs.Form.{Text}
use Rattle.mc_cmd.specs.Lines.{file_lines}
use Rattle.mc_cmd.specs.Packing.{Written, refusal, with_function}
use Rattle.mc_cmd.specs.Word.{is_function_name}
use Rattle.pk_files.specs.Held.{bad_from}
use Rattle.pk_files.specs.declared.lines.Lines.{Lines}
use Rattle.pk_files.specs.declared.lines.Lines.TheVariants as said

-- a value as it is
abbrev pub itself : {A : Type 0} → A → A
itself a = a

-- the lines of a file each say something, or this is the number of the first that says nothing
abbrev pub SaidBy : Lines → Text → Type 0
SaidBy (said.Read ts) bytes = (ts ≡ file_lines bytes) × (bad_from 1 ts ≡ None)
SaidBy (said.Bad n) bytes = bad_from 1 (file_lines bytes) ≡ Some n

-- functions of these names may be added to a pack, one after the other
abbrev pub HasRoomFor : Written → Texts → Type 0
HasRoomFor w [] = Unit {0}
HasRoomFor w (name ∷ names) =
    (is_function_name name ≡ true)
    × (refusal w name ≡ None)
    × ((lines : Texts) → HasRoomFor (with_function w name lines) names)
