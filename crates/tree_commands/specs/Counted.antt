-- The step of a command that changed a tree, with the pages counted.
use Rattle.std.specs.Prelude.{nat_lt, if◌then◌else◌}
use Rattle.store_model.specs.declared.refusal.Refusal.TheVariants as refusals
use Rattle.store_model.specs.Parameters.{Parameters}
use Rattle.store_model.specs.Trees.{Tree}
use Rattle.store_model.specs.Pages.{page_count}
use Rattle.store_model.specs.Commands.Reply.{Acknowledged, Refused}
use Rattle.store_model.specs.Steps.{Step}

-- from a tree to the next one, unless that has more pages than there are slots
abbrev pub counted_step : Tree → Tree → Parameters → Step
counted_step t next p =
    if nat_lt p.slots (page_count next p) then (record {
      reply = Refused (refusals.Full (page_count next p) p.slots);
      tree = t;
    }) else
    (record { reply = Acknowledged; tree = next })
