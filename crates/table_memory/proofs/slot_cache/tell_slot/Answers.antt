use Rattle.table_memory.proofs.CacheLemmas.{cache_kept, slot_told}
use Rattle.table_memory.proofs.slot_cache.tell_slot.Goals as goal

pub load_and_tell-requires-clause-cached : goal.load_and_tell-requires-clause-cached
load_and_tell-requires-clause-cached g c =
    cache_kept c.args.slots c.args.at (g.D.Disk.state c.args.disk.now)
    c.args.cache.now (g.met.D.Disk.sound c.args.disk.now) c.requires.cached c.tell.new.self c.tell.ensures.kept

pub returns-in-Some : goal.returns-in-Some
returns-in-Some g c = record {
  call = slot_told c.args.slots c.args.at (g.D.Disk.state c.args.disk.now)
      c.args.cache.now (g.met.D.Disk.sound c.args.disk.now)
      c.requires.cached (λ slot told. g.T.Told.of slot c.args.wanted.now told)
      c.in-Some.told c.tell.new.self c.tell.ensures.kept c.in-Some.ensures.told;
}
