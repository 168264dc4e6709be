use Rattle.std.proofs.Common.{Result, Ok, Err, refl, subst}
use Rattle.store_model.specs.Parameters.{Parameters}
use Rattle.dump_streams.specs.declared.listed_pairs.ListedPairs.{ListedPairs}
use Rattle.image_subcommands.specs.declared.status.Status.{Status}
use Rattle.listing_subcommands.specs.Filling.{FillsStore as fills}
use Rattle.listing_subcommands.specs.Listings.{ReadsListing}
use Rattle.listing_subcommands.proofs.load.fill_store.Goals as goal

pub returns-in-Err : goal.returns-in-Err
returns-in-Err g c =
    let p = c.args.store.now.params in
    let new = c.read_listing-source.result.0 in
    let reads = subst (λ (q : Parameters). ReadsListing g.R.Source.state q c.args.source new
    c.read_listing-source.result.1) c.params.ensures.value c.read_listing-source.ensures in
    fills.Stops c.in-Err.status refl (record {
      empty = c.is_empty.ensures.empty c.if-not-is_empty.false;
      store_same = refl;
      reads = subst (λ (r : Result ListedPairs Status). ReadsListing g.R.Source.state p c.args.source new r) c.in-Err.is
          reads;
    })

pub returns-in-Ok-load_listed : goal.returns-in-Ok-load_listed
returns-in-Ok-load_listed g c =
    let p = c.args.store.now.params in
    let new = c.read_listing-source.result.0 in
    let reads = subst (λ (q : Parameters). ReadsListing g.R.Source.state q c.args.source new
    c.read_listing-source.result.1) c.params.ensures.value c.read_listing-source.ensures in
    fills.Fills (Ok c.in-Ok-load_listed.answer) refl (record {
      empty = c.is_empty.ensures.empty c.if-not-is_empty.false;
      listed = c.in-Ok.listed;
      reads = subst (λ (r : Result ListedPairs Status). ReadsListing g.R.Source.state p c.args.source new r) c.in-Ok.is
          reads;
      loads = c.in-Ok-load_listed.ensures;
    })

pub returns : goal.returns
returns g c =
    let p = c.args.store.now.params in
    let new = c.read_listing-source.result.0 in
    let reads = subst (λ (q : Parameters). ReadsListing g.R.Source.state q c.args.source new
    c.read_listing-source.result.1) c.params.ensures.value c.read_listing-source.ensures in
    rw c.into.ensures (fills.Fills (Err c.in-Err-load_listed.fault) refl (record {
      empty = c.is_empty.ensures.empty c.if-not-is_empty.false;
      listed = c.in-Ok.listed;
      reads = subst (λ (r : Result ListedPairs Status). ReadsListing g.R.Source.state p c.args.source new r) c.in-Ok.is
          reads;
      loads = c.in-Err-load_listed.ensures;
    }))
