use Rattle.std.proofs.Common.{None, refl, sym, subst, []}
use Rattle.tree_pairs.specs.declared.first.Entry.{Entry}
use Rattle.tree_pairs.specs.Seen.{HasSeen}
use Rattle.tree_pairs.proofs.Readings.{seen_none}
use Rattle.tree_pairs.proofs.reader.TreeReader.new.Goals as goal

pub returns-clause-seen : goal.returns-clause-seen
returns-clause-seen c p version_is =
    subst (λ (last : Entry). HasSeen (record {
      version = c.args.version;
      last = last;
      read = 0;
      attribute = None;
      counts = record { dirs = 0; files = 0; bytes = 0 };
    }) [] p)
    (sym c.root.ensures) (seen_none [] c.args.version p refl version_is)
