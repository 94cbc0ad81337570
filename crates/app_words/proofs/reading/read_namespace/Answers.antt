use Rattle.std.proofs.Common.{◌∙◌, sym}
use Rattle.app_words.proofs.SharedLemmas.{namespace_utf8}
use Rattle.app_words.proofs.reading.read_namespace.Goals as goal

pub unreachable-requires : goal.unreachable-requires
unreachable-requires c = c.in-Err.ensures.cases.0 (namespace_utf8 c.args.w.now (sym c.is_namespace.ensures ∙ c.if-not-is_namespace.false))
