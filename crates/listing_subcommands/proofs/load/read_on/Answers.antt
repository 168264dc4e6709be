use Rattle.dump_streams.specs.declared.fault.StreamFault.TheVariants as faults
use Rattle.dump_streams.specs.declared.fault.StreamFault.{StreamFault}
use Rattle.dump_streams.specs.Draining.{TakesFront}
use Rattle.dump_streams.specs.Takers.{BreaksAnyhow}
use Rattle.dump_streams.specs.Listings.{CameOf, IsListed, EndsBy}
use Rattle.dump_streams.specs.Listed.{TookSteps}
use Rattle.std.proofs.Common.{subst}
use Rattle.dump_streams.proofs.ReadDumps.{ends_so}
use Rattle.listing_subcommands.proofs.ReadListings.{short, stopped, refused, lists_none, ended}
use Rattle.listing_subcommands.proofs.load.read_on.Goals as goal

pub returns-in-Taker : goal.returns-in-Taker
returns-in-Taker g c p first taker version stops =
    let old = c.args.stream.now in
    let came = (rw c.in-Taker.is at stops).came_is in
    short g.R.Source.state p old.first.value old.lines came.reading

pub returns-in-Ok : goal.returns-in-Ok
returns-in-Ok g c p first taker version stops =
    let state = g.R.Source.state in
    let old = c.args.stream.now in
    let front = subst (λ (f : StreamFault). TakesFront (CameOf state) (IsListed state) (EndsBy state) TookSteps
    BreaksAnyhow
    old first taker f) c.in-NoDump.is (rw c.in-Stream.is at stops) in
    let bad = ends_so state old front.tree faults.NoDump front.why in
    refused state p old.first.value c.read_to_end.new.self.lines (c.in-Ok.ensures.read bad.reading)
    (lists_none state p old version bad.none)

pub returns-in-Err : goal.returns-in-Err
returns-in-Err g c p first taker version stops =
    let state = g.R.Source.state in
    let old = c.args.stream.now in
    let front = subst (λ (f : StreamFault). TakesFront (CameOf state) (IsListed state) (EndsBy state) TookSteps
    BreaksAnyhow
    old first taker f) c.in-NoDump.is (rw c.in-Stream.is at stops) in
    let bad = ends_so state old front.tree faults.NoDump front.why in
    rw c.stream_status.ensures (stopped state p old.first.value c.in-Err.fault c.read_to_end.new.self.lines
    (c.in-Err.ensures.read bad.reading))

pub returns-in_default : goal.returns-in_default
returns-in_default g c p first taker version stops =
    let state = g.R.Source.state in
    let old = c.args.stream.now in
    let front = rw c.in-Stream.is at stops in
    rw c.stream_status-in_default.ensures (ended state p old version front.tree c.in-Stream.fault
    c.in_default.not-NoDump (ends_so state old front.tree c.in-Stream.fault front.why))
