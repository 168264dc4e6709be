use Rattle.std.proofs.Common.{rules, IsTrue}
use Rattle.host_builder.specs.HostAttributes.{is_target}
use Rattle.host_folders.proofs.TargetLemmas.{held_as_shown}
use Rattle.host_folders.proofs.target.LinkTarget.parse.Goals as goal

pub invariant_of-result : goal.invariant_of-result
invariant_of-result c =
    let valid : IsTrue (is_target c.args.text.now) = search rules in
    held_as_shown c.args.text.now c.copy_from_slice.new.self valid c.copy_from_slice.ensures.after
