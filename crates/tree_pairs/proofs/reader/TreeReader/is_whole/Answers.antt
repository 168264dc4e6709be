use Rattle.std.proofs.Common.{refl, ap, arith, leb-true, le-leb}
use Rattle.tree_pairs.specs.Seen.{size_of}
use Rattle.tree_pairs.proofs.Readings.{whole_from_seen, seen_from_whole}
use Rattle.tree_pairs.proofs.reader.TreeReader.is_whole.Goals as goal

pub returns-in-Directory : goal.returns-in-Directory
returns-in-Directory c s p seen =
    let size = ap size_of c.in-Directory.is in
    (λ whole. whole_from_seen c.args.self.now s p seen (omega (arith, size)), λ of. refl)

pub returns-in-File : goal.returns-in-File
returns-in-File c s p seen =
    let reader = c.args.self.now in
    let size = ap size_of c.in-File.is in (
      λ whole. whole_from_seen reader s p seen (omega (arith, size, leb-true c.in-File.len reader.read whole)),
      λ of. le-leb c.in-File.len reader.read (omega (arith, size, seen_from_whole reader s p seen of)),
    )
