use Rattle.std.proofs.Common.{◌≡◌, ap, ◌∙◌, inl, refl}
use Rattle.std.specs.Prelude.{is_ok}
use Rattle.table_memory.proofs.StartLemmas.{kept_is, starts_kept}
use Rattle.table_memory.proofs.finder.Finder.start.Goals as goal

pub returns-in-Some-clause-start : goal.returns-in-Some-clause-start
returns-in-Some-clause-start g c =
    kept_is (g.W.Draw.drawn c.args.self.now.draw)
    c.args.self.now.starts.items c.args.label.now c.in-Some.start c.args.self.now.started c.in-Some.ensures

pub invariant_of-self : goal.invariant_of-self
invariant_of-self g c =
    let mid = c.make_room.new.self in
    record {
      started = starts_kept (g.W.Draw.drawn mid.draw)
          mid.starts.items mid.starts.items c.push.new.self.items c.args.label.now c.start_from-start.result
          (is_ok c.push.result) mid.started (inl refl) c.start_from-start.ensures.value c.push.ensures.items;
    }

pub returns-clause-start : goal.returns-clause-start
returns-clause-start g c = rw (← c.make_room.ensures.draw) c.start_from-start.ensures.value
