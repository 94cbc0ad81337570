use Rattle.test_links.proofs.ListLaws.{all_short}
use Rattle.test_links.proofs.linking.linked_text.Goals as goal

-- src/linking.rt:45:11
pub resolve-requires-clause-short : goal.resolve-requires-clause-short
resolve-requires-clause-short c = all_short c.args.libs.now c.args.main.now c.requires.libraries c.requires.main

pub join-requires-clause-short : goal.join-requires-clause-short
join-requires-clause-short c = all_short c.args.libs.now c.args.main.now c.requires.libraries c.requires.main
