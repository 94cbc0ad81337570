use Rattle.std.proofs.Common.{◌≡◌, ◌≤◌, ◌∙◌, sym, subst, ℕ, length, Ok, arith}
use Rattle.mc_cmd.specs.Chain.{Texts}
use Rattle.mc_cmd.specs.Packing.{most_functions}
use Rattle.pk_files.specs.Paths.{functions_of}
use Rattle.pk_files.proofs.ReadLemmas.{functions_few, functions_many, room_for}
use Rattle.pk_files.proofs.get.read_functions.Goals as goal

few : (there names : Texts) (n : ℕ) → there ≡ names → n ≡ length names → n ≤ most_functions → length there ≤ most_functions
few there names n same count le = subst (λ (ns : Texts). length ns ≤ most_functions) (sym same) (omega (arith, count, le))

pub returns-then-len-gt-MAX_FUNCTIONS-clause-read : goal.returns-then-len-gt-MAX_FUNCTIONS-clause-read
returns-then-len-gt-MAX_FUNCTIONS-clause-read g c =
    functions_many (g.F.Files.state c.args.files.now) (g.F.Files.state c.names_in.new.files) (functions_of c.args.dir.now c.args.index.ns) c.in_ok-folder.folder c.in_ok-listed.listed c.in_ok-names.names c.len-then-len-gt-MAX_FUNCTIONS.result
    c.in_ok-folder.ensures c.in_ok-listed.ensures c.in_ok-names.ensures c.len-then-len-gt-MAX_FUNCTIONS.ensures (omega (arith, c.len.ensures, c.if-len-gt-MAX_FUNCTIONS.true))

pub read_each-requires-clause-room : goal.read_each-requires-clause-room
read_each-requires-clause-room g c =
    room_for c.args.index c.in_ok-listed.listed c.as_slice.result.now c.in_ok-listed.ensures.0.1 (c.as_slice.ensures ∙ c.in_ok-names.ensures)
    (few c.as_slice.result.now c.in_ok-names.names c.len.result c.as_slice.ensures c.len.ensures c.if-len-gt-MAX_FUNCTIONS.false)

pub returns-clause-read : goal.returns-clause-read
returns-clause-read g c =
    functions_few (g.F.Files.state c.args.files.now) (g.F.Files.state c.names_in.new.files) (g.F.Files.state c.read_each.new.files) (functions_of c.args.dir.now c.args.index.ns) c.in_ok-folder.folder c.in_ok-listed.listed c.as_slice.result.now (Ok c.in_ok-pack.pack)
    c.in_ok-folder.ensures c.in_ok-listed.ensures (c.as_slice.ensures ∙ c.in_ok-names.ensures)
    (few c.as_slice.result.now c.in_ok-names.names c.len.result c.as_slice.ensures c.len.ensures c.if-len-gt-MAX_FUNCTIONS.false) c.in_ok-pack.ensures.read
