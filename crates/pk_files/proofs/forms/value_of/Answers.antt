use Rattle.std.proofs.Common.{sym, ◌∙◌, true≢false}
use Rattle.pk_files.proofs.JsonLemmas.{said_value, said_nothing}
use Rattle.pk_files.proofs.forms.value_of.Goals as goal

pub returns-in-Ok : goal.returns-in-Ok
returns-in-Ok c = let said = c.in-Ok.ensures.ok in sym (said_value c.args.bytes.now _ said.0 said.1)

pub returns-else-is_memory : goal.returns-else-is_memory
returns-else-is_memory c = sym (said_nothing c.args.bytes.now (c.in-Err.ensures.err (λ m. true≢false (sym (c.is_memory.ensures.1 m) ∙ c.if-is_memory.false))))
