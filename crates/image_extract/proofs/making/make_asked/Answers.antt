use Rattle.std.proofs.Common.{sym, ap, subst, ◌∙◌}
use Rattle.store_stream.specs.Parts.{parts_at}
use Rattle.image_extract.specs.declared.fault.ExtractFault.TheVariants as extracts
use Rattle.image_extract.specs.Extracts.{asked, AllStand, MakesStore}
use Rattle.image_extract.specs.Lookups.{IsFirstMissing}
use Rattle.image_extract.proofs.Building.{made_before, unmade_before, none_given, some_asked, at_ok, store_count}
use Rattle.image_extract.proofs.Building.{nothing_made}
use Rattle.image_extract.proofs.Lookups.{read_then}
use Rattle.image_extract.proofs.making.make_asked.Goals as goal

-- ---- no paths

pub returns-then-is_empty-clause-makes : goal.returns-then-is_empty-clause-makes
returns-then-is_empty-clause-makes g c =
    let state = g.B.Builder.state in
    let made = c.make_all.result in
    subst (λ ps. MakesStore (λ t. asked t ps) c.args.wanted (g.R.Disk.state c.args.store.disk) c.args.store.tree
    (state c.args.builder) (state made.builder) made.stays made.done)
    (sym (none_given c.args.paths.now (sym c.is_empty.ensures ∙ c.if-is_empty.true))) c.make_all.ensures.makes

pub returns-then-is_empty-clause-stand : goal.returns-then-is_empty-clause-stand
returns-then-is_empty-clause-stand g c =
    at_ok c.make_all.result.done (λ tree seen.
    subst (AllStand c.args.store.tree) (sym (none_given c.args.paths.now (sym c.is_empty.ensures ∙ c.if-is_empty.true)))
    tt)

-- ---- all were found

pub returns-in-Ok-None-clause-read : goal.returns-in-Ok-None-clause-read
returns-in-Ok-None-clause-read g c =
    let disk_of = g.R.Disk.state in
    read_then disk_of (disk_of c.args.store.disk) (disk_of c.first_missing.new.store.disk)
    (disk_of c.make_parts.result.store.disk) c.in-Ok-None.ensures.asks.read c.make_parts.ensures.read

pub returns-in-Ok-None-clause-makes : goal.returns-in-Ok-None-clause-makes
returns-in-Ok-None-clause-makes g c =
    let state = g.B.Builder.state in
    let made = c.make_parts.result in
    let paths = c.args.paths.now in
    let asks = c.in-Ok-None.ensures.asks in
    made_before g.R.Disk.state c.args.store c.first_missing.new.store asks.tree asks.read (λ t. parts_at t paths)
    (λ t. asked t paths) c.args.wanted (state c.args.builder) (state made.builder) made.stays made.done
    (some_asked paths (sym c.is_empty.ensures ∙ c.if-is_empty.false)) c.make_parts.ensures.makes

pub returns-in-Ok-None-clause-stand : goal.returns-in-Ok-None-clause-stand
returns-in-Ok-None-clause-stand g c =
    at_ok c.make_parts.result.done (λ tree seen.
    subst (IsFirstMissing c.args.store.tree c.args.paths.now) c.in-Ok-None.field-0-is
    (c.in-Ok-None.ensures.told tree seen))

pub returns-in-Ok-None-clause-unmade : goal.returns-in-Ok-None-clause-unmade
returns-in-Ok-None-clause-unmade g c =
    let disk_of = g.R.Disk.state in
    let made = c.make_parts.result in
    let paths = c.args.paths.now in
    let asks = c.in-Ok-None.ensures.asks in
    unmade_before disk_of c.args.store c.first_missing.new.store asks.tree asks.read (λ t. parts_at t paths)
    (λ t. asked t paths) c.args.wanted paths (disk_of made.store.disk) made.done asks.faults
    (some_asked paths (sym c.is_empty.ensures ∙ c.if-is_empty.false))
    (λ tree seen. subst (IsFirstMissing c.args.store.tree paths) c.in-Ok-None.field-0-is
    (c.in-Ok-None.ensures.told tree seen))
    c.make_parts.ensures.unmade

-- ---- a fault

pub returns-in-Err-clause-makes : goal.returns-in-Err-clause-makes
returns-in-Err-clause-makes g c =
    let disk_of = g.R.Disk.state in
    let state = g.B.Builder.state in
    let made = c.nothing-in-Err.result in
    let is = c.nothing-in-Err.ensures in
    let asks = c.in-Err.ensures.asks in
    nothing_made (λ t. asked t c.args.paths.now) c.args.wanted (disk_of c.args.store.disk) c.args.store.tree
    (state c.args.builder) (state made.builder) made.stays made.done (extracts.Read c.in-Err.fault)
    (ap state is.builder) is.stays is.done
    (store_count (disk_of c.args.store.disk) (disk_of c.first_missing.new.store.disk) c.in-Err.fault asks.fault
    asks.not_output (state c.args.builder).faults)
