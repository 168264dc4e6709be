use Rattle.store_claims.proofs.GroupLemmas.{commits_whole}
use Rattle.store_claims.proofs.groups.groups_are_whole.Goals as goal

pub returns : goal.returns
returns c t p script count = commits_whole c.every_history_is_serial.ensures.law t p script count
