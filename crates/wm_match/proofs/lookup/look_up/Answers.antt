use Rattle.std.proofs.Common.{List, sym, subst, ◌∙◌, arith}
use Rattle.wm_match.specs.declared.library.Binding.{Binding}
use Rattle.wm_match.specs.steps.Directories.{IsDirectory}
use Rattle.wm_match.proofs.DirectoryLaws.{directory_read}
use Rattle.wm_match.proofs.LookupLaws.{no_library, late_library, library_read, part_read, lookup_is}
use Rattle.wm_match.proofs.ModuleLaws.{library_module}
use Rattle.wm_match.proofs.lookup.look_up.Goals as goal

pub returns-in_default : goal.returns-in_default
returns-in_default c = no_library c.args.libs.now c.args.main.now c.args.done.now c.args.k c.args.m.now c.args.import.now (sym c.in_default.ensures)

pub returns-then-j-k : goal.returns-then-j-k
returns-then-j-k c = late_library c.args.libs.now c.args.main.now c.args.done.now c.args.k c.args.m.now c.args.import.now c.in-Some.j (sym c.in-Some.ensures) c.if-j-k.true

pub returns : goal.returns
returns c =
    let l = library_read c.args.libs.now c.args.import.now.«module» c.in-Some.j c.index-libs-j.result c.in-Some.ensures c.index-libs-j.is in
    let part = part_read c.args.done.now c.in-Some.j c.index-done-j.result (omega arith) c.index-done-j.is in
    lookup_is c.args.libs.now c.args.main.now c.args.done.now c.args.k c.args.m.now c.args.import.now c.requires.can
    c.in-Some.j c.index-libs-j.result l.0 (omega arith) l.1 c.as_slice-part.result.now (part ∙ sym c.as_slice-part.ensures) c.look_in.result c.look_in.ensures

pub look_in-requires-clause-directory : goal.look_in-requires-clause-directory
look_in-requires-clause-directory c =
    let m = c.index-libs-j.result.«module» in
    let at = library_module c.args.libs.now c.args.main.now c.in-Some.j c.index-libs-j.result (omega arith) c.index-libs-j.is in
    subst (λ (bs : List Binding). IsDirectory m bs c.index-directories-j.result) (sym c.as_slice-part.ensures)
    (directory_read c.args.libs.now c.args.main.now c.args.done.now c.args.directories.now c.in-Some.j m c.index-done-j.result c.index-directories-j.result
    c.requires.directories (omega arith) at c.index-done-j.is c.index-directories-j.is)
