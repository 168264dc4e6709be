use Rattle.std.proofs.Common.{◌/◌, ◌∙◌, refl, ap, arith, get_or}
use Rattle.store_base.specs.Leads.{model_lead}
use Rattle.skip_groups.specs.Groups.{label_of}
use Rattle.pair_stream.proofs.LeaderCalls.{place_read}
use Rattle.pair_stream.proofs.StartLevels.{starts}
use Rattle.pair_stream.proofs.places.PairStream.starting_at.Goals as goal

pub returns-clause-call : goal.returns-clause-call
returns-clause-call g c =
    let here = get_or c.in_ok-places.places 0 c.index-places-0.result in
    starts c.in_ok-places.ensures.call
    (place_read c.in_ok-places.places 0 0 c.index-places-0.result (omega arith) refl (omega arith))
    (ap (λ n. label_of 0 (model_lead here.lead) (here.count / n)) (c.from.ensures ∙ c.room.ensures))
    c.in_ok-hold_page.ensures.call refl refl refl
