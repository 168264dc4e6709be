use Rattle.dump_views.proofs.ContentLemmas.{written_contents, standing_told}
use Rattle.dump_views.proofs.laws.a_dump_writes_each_file.Goals as goal

pub returns : goal.returns
returns c = record { written = written_contents; standing = standing_told }
