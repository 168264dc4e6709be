use Rattle.std.proofs.Common.{refl}
use Rattle.host_folders.proofs.PackLemmas.{packs, stops}
use Rattle.host_folders.proofs.packing.pack_folder.Goals as goal

pub returns-clause-packs : goal.returns-clause-packs
returns-clause-packs g c =
    packs g.F.Folder.state g.W.Sink.state c.new-stream.result c.write_dump-sink.new.stream c.args.folder
    c.args.found.items c.args.sink c.write_dump-sink.result.0 c.write_dump-sink.result.1 c.new-stream.ensures.first
    (cc c.new-stream.ensures.found)
    (c.write_dump-sink.ensures.keeps c.new-stream.result (record { first = refl; found = refl }))
    (c.write_dump-sink.ensures.written c.new-stream.ensures.came)

pub returns-clause-stops : goal.returns-clause-stops
returns-clause-stops g c =
    stops g.F.Folder.state g.W.Sink.state c.write_dump-sink.new.stream c.args.sink c.write_dump-sink.result.0
    c.write_dump-sink.result.1 (c.write_dump-sink.ensures.written c.new-stream.ensures.came)

pub returns-clause-first : goal.returns-clause-first
returns-clause-first g c =
    let same = c.write_dump-sink.ensures.keeps c.new-stream.result (record { first = refl; found = refl }) in
    cc (same.first, c.new-stream.ensures.first)

pub returns-clause-found : goal.returns-clause-found
returns-clause-found g c =
    let same = c.write_dump-sink.ensures.keeps c.new-stream.result (record { first = refl; found = refl }) in
    cc (same.found, c.new-stream.ensures.found)
