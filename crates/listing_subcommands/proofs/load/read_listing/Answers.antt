use Rattle.std.proofs.Common.{Ok, Err, ap, refl, sym, subst, ◌∙◌}
use Rattle.image_subcommands.specs.declared.status.Status.TheVariants as statuses
use Rattle.listing_subcommands.specs.Listings.{ReadsListing}
use Rattle.listing_subcommands.proofs.ReadListings.{unread, held}
use Rattle.listing_subcommands.proofs.load.read_listing.Goals as goal

pub returns-in-Err : goal.returns-in-Err
returns-in-Err g c =
    subst (λ (s : g.row.R.Denot). ReadsListing g.R.Source.state c.args.params.now c.args.source s
    (Err statuses.NoMemory)) (sym c.in-Err.ensures.err) (unread g.R.Source.state c.args.params.now c.args.source)

pub returns-in-Ok-drain : goal.returns-in-Ok-drain
returns-in-Ok-drain g c =
    let state = g.R.Source.state in
    let p = c.args.params.now in
    let new = c.drain.new.stream in
    let same = c.drain.ensures.keeps c.in-Ok.stream (record { first = refl; version = refl }) in
    let version = same.version ∙ c.in-Ok.ensures.version ∙ c.version.ensures.value in
    let all = c.in-Ok-drain.ensures.drains c.in-Ok.ensures.came c.new-listed.ensures.took in
    subst (λ (s : g.row.R.Denot). ReadsListing state p s c.into_source.result (Ok c.drain.new.taker))
    (ap (λ s. s.value) same.first ∙ c.in-Ok.ensures.first)
    (rw c.into_source.ensures (held state p new version all.tree c.drain.new.taker all.whole_is
    (all.took_is p c.new-listed.ensures.listed all.tree (all.whole_is.under p (sym version)) refl)))

pub returns-in-Err-drain : goal.returns-in-Err-drain
returns-in-Err-drain g c =
    let state = g.R.Source.state in
    let p = c.args.params.now in
    let same = c.drain.ensures.keeps c.in-Ok.stream (record { first = refl; version = refl }) in
    subst (λ (s : g.row.R.Denot). ReadsListing state p s c.into_source-in-Err-drain.result
    (Err c.read_on-status.result))
    (ap (λ s. s.value) same.first ∙ c.in-Ok.ensures.first)
    (rw c.into_source-in-Err-drain.ensures (c.read_on-status.ensures p c.new-listed.result c.drain.new.taker
    (same.version ∙ c.in-Ok.ensures.version ∙ c.version.ensures.value)
    (c.in-Err-drain.ensures.drains c.in-Ok.ensures.came c.new-listed.ensures.took)))
