use Rattle.cc_names.proofs.Changes.{keeps_avoiding, keeps_even, keeps_fit, keeps_named, keeps_short}
use Rattle.cc_names.proofs.law.fewer_names_keep_their_form.Goals as goal

pub returns-clause-fit : goal.returns-clause-fit
returns-clause-fit c = keeps_fit

pub returns-clause-avoiding : goal.returns-clause-avoiding
returns-clause-avoiding c = keeps_avoiding

pub returns-clause-even : goal.returns-clause-even
returns-clause-even c = keeps_even

pub returns-clause-short : goal.returns-clause-short
returns-clause-short c = keeps_short

pub returns-clause-named : goal.returns-clause-named
returns-clause-named c = keeps_named
