use Rattle.std.proofs.Common.{ap, sym, subst}
use Rattle.store_model.specs.Parameters.{Parameters}
use Rattle.disk_model.specs.DiskState.{DiskState}
use Rattle.mirror_copy.specs.MirrorCalls.{ComparesSlots}
use Rattle.mirror_copy.proofs.CompareLemmas.{views_compared}
use Rattle.mirror_copy.proofs.compare.compare_slots.Goals as goal

pub returns : goal.returns
returns g c =
    let slots = c.args.params.now.slots in
    let first = c.new-first.result in
    let second = c.new-second.result in
    let from_new = c.find_differences-found.new.from in
    let to_new = c.find_differences-found.new.to in
    let result = c.find_differences-found.result in
    let compared = views_compared slots first.params from_new.params second.params to_new.params
    (g.A.Disk.state first.disk) (g.A.Disk.state from_new.disk) (g.B.Disk.state second.disk)
    (g.B.Disk.state to_new.disk) result
    (ap (λ (p : Parameters). p.slots) c.new-first.ensures.params)
    (ap (λ (p : Parameters). p.slots) c.new-second.ensures.params)
    c.find_differences-found.ensures.first c.find_differences-found.ensures.second c.find_differences-found.ensures.call
    in
    let from = g.A.Disk.state c.args.from in
    let from_left = g.A.Disk.state c.into_disk.result in
    let to = g.B.Disk.state c.args.to in
    let to_viewed = g.B.Disk.state second.disk in
    let from_is = ap g.A.Disk.state c.new-first.ensures.disk in
    let from_left_is = ap g.A.Disk.state (sym c.into_disk.ensures) in
    let to_is = ap g.B.Disk.state c.new-second.ensures.disk in
    let to_left_is = ap g.B.Disk.state (sym c.into_disk-2.ensures) in
    subst (λ (disk : DiskState). ComparesSlots slots from from_left to disk result) to_left_is
    (subst (λ (disk : DiskState). ComparesSlots slots from from_left disk (g.B.Disk.state to_new.disk) result) to_is
    (subst (λ (disk : DiskState). ComparesSlots slots from disk to_viewed (g.B.Disk.state to_new.disk) result)
    from_left_is
    (subst (λ (disk : DiskState). ComparesSlots slots disk (g.A.Disk.state from_new.disk) to_viewed
    (g.B.Disk.state to_new.disk) result) from_is compared)))
