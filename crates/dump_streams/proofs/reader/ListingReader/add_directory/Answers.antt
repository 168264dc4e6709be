use Rattle.dump_streams.proofs.ReaderLemmas.{directory_adds}
use Rattle.dump_streams.proofs.reader.ListingReader.add_directory.Goals as goal

pub returns : goal.returns
returns c = directory_adds c.args.self.now c.add_entry.new.self c.args.path.now c.add_entry.result
    c.requires c.add_entry.ensures
