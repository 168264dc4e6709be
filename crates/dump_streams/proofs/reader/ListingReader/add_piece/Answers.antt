use Rattle.std.proofs.Common.{length, refl, sym, ap}
use Rattle.std.proofs.lemmas.Bool.{false≢true}
use Rattle.dump_streams.proofs.ReaderLemmas.{piece_adds, piece_refused}
use Rattle.dump_streams.proofs.reader.ListingReader.add_piece.Goals as goal

pub returns-then-not-is_next_piece : goal.returns-then-not-is_next_piece
returns-then-not-is_next_piece c =
    piece_refused c.args.self.now c.args.path.now c.args.at c.args.bytes.now c.requires.further
    (λ piece. false≢true (c.if-not-is_next_piece.ensures.1 piece))

pub returns : goal.returns
returns c =
    piece_adds c.args.self.now c.args.path.now c.args.at c.args.bytes.now (length c.as_slice.result.now)
    c.requires.further c.requires.command.2 (sym (ap length c.as_slice.ensures.value))
    (c.if-not-is_next_piece.ensures.0 refl)
