use Rattle.image_differences.proofs.StoreTimes.{times_so, times_blame}
use Rattle.image_differences.proofs.timing.store_times.Goals as goal

pub returns-clause-told : goal.returns-clause-told
returns-clause-told g c =
    times_so g.R.Disk.state c.args.store c.new-stream.result c.has_times-has.new.stream c.new-stream.ensures.store
    c.new-stream.ensures.fault (c.has_times-has.ensures.keeps c.new-stream.result c.new-stream.ensures.keeps)
    c.new-stream.ensures.fitting c.requires.runs c.into_store.result c.into_store.ensures c.fault.result c.fault.ensures
    c.has_times-has.result c.times_told-told.result c.times_told-told.ensures
    (c.has_times-has.ensures.tells c.new-stream.ensures.came)

pub returns-clause-failed : goal.returns-clause-failed
returns-clause-failed g c =
    times_blame g.R.Disk.state c.args.store c.new-stream.result c.has_times-has.new.stream c.new-stream.ensures.store
    c.new-stream.ensures.fault (c.has_times-has.ensures.keeps c.new-stream.result c.new-stream.ensures.keeps)
    c.new-stream.ensures.fitting c.requires.runs c.into_store.result c.into_store.ensures c.fault.result c.fault.ensures
    c.has_times-has.result c.times_told-told.result c.times_told-told.ensures
    (c.has_times-has.ensures.failed c.new-stream.ensures.came)
