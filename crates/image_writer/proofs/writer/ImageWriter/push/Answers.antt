use Rattle.std.proofs.Common.{refl}
use Rattle.store_model.specs.Draws.{draw_of}
use Rattle.image_writer.proofs.Written.{next_comes, kept_alone, stays_none}
use Rattle.image_writer.proofs.writer.ImageWriter.push.Goals as goal

pub join-requires-clause-comes : goal.join-requires-clause-comes
join-requires-clause-comes g c =
    let (p, start, s, next) = c.requires in (
      draw_of p,
      s,
      next_comes p s c.args.level c.args.pair (g.D.Disk.state start) (g.D.Disk.state c.args.disk.now) c.args.self.now
          next,
    )

-- the pair closes no page
pub returns-then-is_joined-clause-writes : goal.returns-then-is_joined-clause-writes
returns-then-is_joined-clause-writes g c = λ p start s next.
    let first = g.D.Disk.state start in
    let old = g.D.Disk.state c.args.disk.now in
    let pair = c.args.pair in
    kept_alone p s c.args.level pair first old c.args.self.now next _
    (c.join.ensures (draw_of p) s (next_comes p s c.args.level pair first old c.args.self.now next)) refl refl

pub returns-then-is_joined-clause-none : goal.returns-then-is_joined-clause-none
returns-then-is_joined-clause-none g c = λ p start s next observable differs.
    stays_none p.slots (g.D.Disk.state start) (g.D.Disk.state c.args.disk.now) differs (next.writing.keeps observable)
