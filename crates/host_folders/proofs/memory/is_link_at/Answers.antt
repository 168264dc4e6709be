use Rattle.std.proofs.Common.{rules, ◌≡◌, true, false}
use Rattle.host_folders.specs.FoundEntries.{is_link}
use Rattle.host_folders.proofs.MemoryLemmas.{file_is_at, file_is_not_at}
use Rattle.host_folders.proofs.memory.is_link_at.Goals as goal

pub returns-then-eq : goal.returns-then-eq
returns-then-eq c =
    let found = c.args.entry.now.found in
    let is : c.eq.result ≡ true = search rules in
    file_is_at found.path c.args.path.now c.eq.result (is_link found.kind)
    c.is_link.result c.eq.ensures.value is c.is_link.ensures

pub returns-else-eq : goal.returns-else-eq
returns-else-eq c =
    let found = c.args.entry.now.found in
    let is : c.eq.result ≡ false = search rules in
    file_is_not_at found.path c.args.path.now c.eq.result (is_link found.kind) c.eq.ensures.value is
