use Rattle.std.proofs.Common.{ap, ◌∙◌}
use Rattle.store_model.specs.Parameters.{Parameters}
use Rattle.listing_subcommands.proofs.LoadCalls.{too_large}
use Rattle.listing_subcommands.proofs.load.load_listed.Goals as goal

pub returns-in-None : goal.returns-in-None
returns-in-None g c t holds =
    let p = c.args.store.now.params in
    too_large g.D.Disk.state g.met.D.Disk.sound c.args.store.now t
    c.pages.result c.slots.result c.requires.ready (c.in-None.ensures t p holds.held) (c.pages.ensures t p holds.held)
    (c.slots.ensures.value ∙ ap (λ (q : Parameters). q.slots) c.params.ensures.value)
