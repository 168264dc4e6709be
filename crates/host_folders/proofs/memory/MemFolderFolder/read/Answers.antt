use Rattle.std.proofs.Common.{rules, ◌+◌, ◌++◌, Bool, take, drop, refl, ap, subst, arith, Some}
use Rattle.std.proofs.lemmas.List.{length-append, length-drop}
use Rattle.store_base.specs.Counts.{raised}
use Rattle.host_folders.specs.FolderState.{ReadsFile}
use Rattle.host_folders.specs.Memory.{folder_state}
use Rattle.host_folders.specs.declared.memory.MemFolder.{MemFolder}
use Rattle.host_folders.specs.declared.memory.Reading.{Reading}
use Rattle.host_folders.proofs.MemoryLemmas.{reads_file, reads_left}
use Rattle.host_folders.proofs.memory.MemFolderFolder.read.Goals as goal

pub returns-clause-contract : goal.returns-clause-contract
returns-clause-contract c =
    let count = c.min-count.result in
    let into = c.args.into.now in
    let piece = c.copy_from_slice.new.self in
    let file = c.in-Some.file in
    let read : Reading = record {
      path = file.path;
      entry = file.entry;
      at = file.at + count;
      is_ended = c.tells_end.result;
    } in
    record {
      observable = refl;
      faults = ap (λ (folder : MemFolder). folder.faults) c.in_ok-count_call.ensures.counted;
      within = omega (arith, length-append piece (drop count into), c.copy_from_slice.ensures.len);
      read = λ _. subst (λ (is_ended : Bool). ReadsFile (folder_state c.args.self.now)
          (folder_state (record c.count_call.new.self { file = Some read }))
          (take count (piece ++ drop count into)) is_ended) c.tells_end.ensures
          (reads_file c.args.self.now c.count_call.new.self (raised c.args.self.now.calls) file
          c.left-left.result.now piece (drop count into) count
          c.tells_end.result c.in_ok-count_call.ensures.counted c.in-Some.is c.left-left.ensures.value (search rules)
          (omega arith));
    }

pub returns-clause-left : goal.returns-clause-left
returns-clause-left c =
    let count = c.min-count.result in
    let into = c.args.into.now in
    let piece = c.copy_from_slice.new.self in
    let file = c.in-Some.file in
    reads_left c.args.self.now c.count_call.new.self (raised c.args.self.now.calls) file c.left-left.result.now piece
    (drop count into) count c.tells_end.result
    c.in_ok-count_call.ensures.counted c.in-Some.is c.left-left.ensures.value (search rules) (omega arith)
    (omega (
      arith,
      length-append piece (drop count into),
      length-drop count into,
      c.copy_from_slice.ensures.len,
      c.min-count.ensures,
      c.min.ensures,
      c.max.ensures,
    ))
