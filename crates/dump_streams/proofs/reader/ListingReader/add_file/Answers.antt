use Rattle.std.proofs.Common.{length, sym, ap, arith}
use Rattle.dump_streams.proofs.ReaderLemmas.{file_adds, long_refused}
use Rattle.dump_streams.proofs.reader.ListingReader.add_file.Goals as goal

pub returns-then-len-gt-DUMP_PIECE : goal.returns-then-len-gt-DUMP_PIECE
returns-then-len-gt-DUMP_PIECE c =
    let long = c.if-len-gt-DUMP_PIECE.true in
    long_refused c.args.self.now c.args.path.now c.args.bytes.now
    (omega (arith, ap length c.as_slice.ensures.value, long))

pub returns : goal.returns
returns c =
    file_adds c.args.self.now c.add_entry.new.self c.args.path.now c.args.bytes.now (length c.as_slice.result.now)
    c.add_entry.result c.requires.0 c.requires.2 (sym (ap length c.as_slice.ensures.value))
    c.if-len-gt-DUMP_PIECE.false c.add_entry.ensures
