use Rattle.std.proofs.Common.{ap}
use Rattle.page_store.proofs.CommitLemmas.{made_plain, limit_plain}
use Rattle.page_store.proofs.write_back.commit_anew.Goals as goal

pub returns-clause-observed : goal.returns-clause-observed
returns-clause-observed g c observable =
    let state = g.D.Disk.state in
    let disk = c.args.disk.now in
    let after = c.commit.new.disk in
    let count = (g.S.SlotChanges.changes c.args.changes.now).count in
    let commit = c.commit.ensures in
    record {
      commits = commit.commits observable;
      made = made_plain count (state disk) (state after) c.commit.result (λ e. ap state (commit.none e))
          (commit.makes observable);
      limit = limit_plain count (state disk) (state after) c.commit.result (λ e. ap state (commit.none e))
          (commit.makes observable);
      wrote = commit.wrote observable;
    }
