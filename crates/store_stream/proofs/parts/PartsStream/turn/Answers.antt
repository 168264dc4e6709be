use Rattle.std.proofs.Common.{◌||◌, ◌&&◌, Option, Ok, sym, ap, ap₂, subst, ◌∙◌}
use Rattle.std.proofs.lemmas.Bool.{or_left, or_right, and_from}
use Rattle.store_model.specs.Lists.{same_bytes}
use Rattle.store_model.specs.Pairs.{Pair, directory_value}
use Rattle.store_stream.specs.PartKeys.{IsPlaceAmong}
use Rattle.store_stream.specs.Reading.{Pulls}
use Rattle.store_stream.proofs.PartsLemmas.{one_pulled, none_pulled, pulled_none, paths_past, passed_over, none_left}
use Rattle.store_stream.proofs.PartsLemmas.{searched}
use Rattle.store_stream.proofs.parts.PartsStream.turn.Goals as goal

pub returns-in_default-clause-turned : goal.returns-in_default-clause-turned
returns-in_default-clause-turned g c t count came =
    c.end.ensures t count c.args.into.now
    (none_pulled g.D.Disk.state c.args.self.now c.pull.new.self t count came c.args.self.now.parts.valid
    (pulled_none g.D.Disk.state c.args.self.now.stream c.pull.new.self c.in_ok-pair.field-0 c.in_default.not-Some
    c.in_ok-pair.ensures.pulls))

pub returns-in-Inside-clause-turned : goal.returns-in-Inside-clause-turned
returns-in-Inside-clause-turned g c t count came =
    let pulled = one_pulled g.D.Disk.state c.args.self.now c.pull.new.self t count came c.in-Some.pair
    (subst (λ (answer : Option Pair). Pulls g.D.Disk.state c.args.self.now.stream c.pull.new.self (Ok answer))
    c.in-Some.is c.in_ok-pair.ensures.pulls) in
    c.take.ensures.turned t count
    (paths_past g.D.Disk.state _ c.place_of.new.self t count c.in-Some.pair c.place_of.ensures.paths
    c.place_of.ensures.past pulled)
    (λ o. or_left _ _ (subst (IsPlaceAmong c.place_of.new.self.paths.now c.in-Some.pair.0) c.in-Inside.is
    (c.place_of.ensures.place ((pulled.stands o).past))))

pub returns-then-eq-clause-turned : goal.returns-then-eq-clause-turned
returns-then-eq-clause-turned g c t count came =
    let pulled = one_pulled g.D.Disk.state c.args.self.now c.pull.new.self t count came c.in-Some.pair
    (subst (λ (answer : Option Pair). Pulls g.D.Disk.state c.args.self.now.stream c.pull.new.self (Ok answer))
    c.in-Some.is c.in_ok-pair.ensures.pulls) in
    c.take-then-eq.ensures.turned t count
    (paths_past g.D.Disk.state _ c.place_of.new.self t count c.in-Some.pair c.place_of.ensures.paths
    c.place_of.ensures.past pulled)
    (λ o.
    let place = subst (IsPlaceAmong c.place_of.new.self.paths.now c.in-Some.pair.0) c.in-Leads.is
    (c.place_of.ensures.place ((pulled.stands o).past)) in
    or_right _ _ (and_from _ _ place.1
    (ap (same_bytes c.in-Some.pair.1) (sym c.directory_value.ensures) ∙ sym c.eq.ensures.value ∙ c.if-eq.true)))

pub returns-else-eq-clause-turned : goal.returns-else-eq-clause-turned
returns-else-eq-clause-turned g c t count came =
    let pulled = one_pulled g.D.Disk.state c.args.self.now c.pull.new.self t count came c.in-Some.pair
    (subst (λ (answer : Option Pair). Pulls g.D.Disk.state c.args.self.now.stream c.pull.new.self (Ok answer))
    c.in-Some.is c.in_ok-pair.ensures.pulls) in
    passed_over g.D.Disk.state _ t count c.in-Some.pair
    (paths_past g.D.Disk.state _ c.place_of.new.self t count c.in-Some.pair c.place_of.ensures.paths
    c.place_of.ensures.past pulled) c.place_of.new.self.valid
    (λ o.
    let place = subst (IsPlaceAmong c.place_of.new.self.paths.now c.in-Some.pair.0) c.in-Leads.is
    (c.place_of.ensures.place ((pulled.stands o).past)) in
    ap₂ (λ a b. a || (b && same_bytes c.in-Some.pair.1 directory_value)) place.0 place.1
    ∙ ap (same_bytes c.in-Some.pair.1) (sym c.directory_value.ensures) ∙ sym c.eq.ensures.value ∙ c.if-eq.false)

pub returns-in_ok-start-in-Before-clause-turned : goal.returns-in_ok-start-in-Before-clause-turned
returns-in_ok-start-in-Before-clause-turned g c t count came =
    let pulled = one_pulled g.D.Disk.state c.args.self.now c.pull.new.self t count came c.in-Some.pair
    (subst (λ (answer : Option Pair). Pulls g.D.Disk.state c.args.self.now.stream c.pull.new.self (Ok answer))
    c.in-Some.is c.in_ok-pair.ensures.pulls) in
    searched g.D.Disk.state _ t count c.in-Some.pair
    (paths_past g.D.Disk.state _ c.place_of.new.self t count c.in-Some.pair c.place_of.ensures.paths
    c.place_of.ensures.past pulled) c.place_of.new.self.valid c.start.new.self c.in-Before.key
    (λ o. subst (IsPlaceAmong c.place_of.new.self.paths.now c.in-Some.pair.0) c.in-Before.is
    (c.place_of.ensures.place ((pulled.stands o).past)))
    c.in_ok-start-in-Before.ensures.starts

pub returns-in-Behind-clause-turned : goal.returns-in-Behind-clause-turned
returns-in-Behind-clause-turned g c t count came =
    let pulled = one_pulled g.D.Disk.state c.args.self.now c.pull.new.self t count came c.in-Some.pair
    (subst (λ (answer : Option Pair). Pulls g.D.Disk.state c.args.self.now.stream c.pull.new.self (Ok answer))
    c.in-Some.is c.in_ok-pair.ensures.pulls) in
    c.end-in-Behind.ensures t count c.args.into.now
    (none_left g.D.Disk.state _ t count c.in-Some.pair
    (paths_past g.D.Disk.state _ c.place_of.new.self t count c.in-Some.pair c.place_of.ensures.paths
    c.place_of.ensures.past pulled) c.place_of.new.self.valid
    (λ o. subst (IsPlaceAmong c.place_of.new.self.paths.now c.in-Some.pair.0) c.in-Behind.is
    (c.place_of.ensures.place ((pulled.stands o).past))))
