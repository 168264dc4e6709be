use Rattle.std.proofs.Common.{map}
use Rattle.dump_diff.specs.Scripts.{commands_in, unset_commands, removal_command}
use Rattle.dump_diff.proofs.Removing.{pushed_none, pushed_item, pushed_all}
use Rattle.dump_diff.proofs.removal.push_unsets.Goals as goal

pub loop-attribute-init : goal.loop-attribute-init
loop-attribute-init c = pushed_none (map removal_command c.args.removals.now.items)

pub loop-attribute-preserved : goal.loop-attribute-preserved
loop-attribute-preserved c =
    pushed_item (map removal_command c.args.removals.now.items) (map removal_command c.loop-attribute.removals.items)
    (map removal_command c.push_if.new.removals.items)
    unset_commands c.args.attributes.now c.loop-attribute.attribute-index c.attribute-item.result
    (commands_in c.unset_of.result)
    c.unset_of.ensures c.loop-attribute-test.true c.attribute-item.is c.loop-attribute.invariant c.in_ok-push_if.ensures

pub returns : goal.returns
returns c =
    pushed_all (map removal_command c.args.removals.now.items) (map removal_command c.loop-attribute.removals.items)
    unset_commands c.args.attributes.now c.loop-attribute.attribute-index c.loop-attribute-test.false
    c.loop-attribute.invariant
