-- What a taker took of a listing.
use Rattle.std.proofs.Common.{◌≡◌, ◌⊎◌, List, Result, Ok, Err, inl, inr, subst, ◌∙◌, arith}
use Rattle.store_model.specs.Trees.{Tree}
use Rattle.script_lines.specs.SourceState.{SourceState, IsObservable}
use Rattle.dump_streams.specs.Dumps.{DumpStep, IsListing}
use Rattle.dump_streams.proofs.StepLemmas.{one_dump}
use Rattle.dump_streams.specs.Draining.{Drains, IsTooLong}
use Rattle.dump_streams.specs.Listings.{CameOf, IsListed, IsOfSame, EndsBy}
use Rattle.dump_streams.specs.ReadListings.{HasListing, TakesListing}
use Rattle.dump_streams.specs.declared.listing.ListingStream.{ListingStream}
use Rattle.dump_streams.specs.declared.fault.StreamFault.{StreamFault}
use Rattle.dump_streams.specs.declared.fault.StreamFault.TheVariants as streams
use Rattle.dump_streams.specs.declared.taker.TakerFault.{TakerFault}
use Rattle.dump_streams.specs.declared.draining.DrainFault.{DrainFault}
use Rattle.dump_streams.specs.declared.draining.DrainFault.TheVariants as drains

module _ {R : Type 0} (source_of : R → SourceState) where
  -- no listing has as many steps as are led on at most
  pub few_steps : (stream : ListingStream R) (t : Tree) (fault : StreamFault)
      → IsTooLong (CameOf source_of) stream t fault → ⊥
  few_steps stream t fault long =
      let came = long.came_is in omega (arith, came.few, came.count_is, long.many)

  -- so a stream ends before its dump only by a fault of its own
  pub ends_so : (stream : ListingStream R) (t : Tree) (fault : StreamFault)
      → EndsBy source_of stream t fault ⊎ IsTooLong (CameOf source_of) stream t fault → EndsBy source_of stream t fault
  ends_so stream t fault (inl ends) = ends
  ends_so stream t fault (inr long) = absurd (few_steps stream t fault long)

  -- the source is the same one
  has_still : (old new : ListingStream R) (t : Tree) → IsOfSame old new → HasListing source_of old t
      → HasListing source_of new t
  has_still old new t same has =
      let first : old.first.value ≡ new.first.value = cc in
      record {
        observable = subst (λ (s : R). IsObservable (source_of s)) first has.observable;
        under = λ p here. has.under p (here ∙ same.version);
        listing = subst (λ (s : R). IsListing t (source_of s).left) first has.listing;
      }

  module _ {T : Type 0} (took : T → T → List DumpStep → Type 0)
      (broke : T → T → DumpStep → TakerFault → Type 0) where
    pub listing_taken : (old new : ListingStream R) (first taker : T) (result : Result (Unit {0}) DrainFault)
        → IsOfSame old new
        → Drains (CameOf source_of) (IsListed source_of) (EndsBy source_of) took broke old new first taker result
        → TakesListing source_of took old first taker result
    listing_taken old new first taker (Ok done) same drains t came none has =
        let all = drains came none in
        let here = has_still old new t same has in
        subst (λ (steps : List DumpStep). took first taker steps)
        (one_dump all.tree t (source_of new.first.value).left ((all.whole_is).listing here.observable) here.listing)
        all.took_is
    listing_taken old new first taker (Err (drains.Taker fault)) same drains t came none has = tt
    listing_taken old new first taker (Err (drains.Stream streams.Unreadable)) same drains t came none has = tt
    listing_taken old new first taker (Err (drains.Stream streams.TooLong)) same drains t came none has = tt
    listing_taken old new first taker (Err (drains.Stream streams.NoMemory)) same drains t came none has =
        let front = drains came none in ends_so new front.tree streams.NoMemory front.why
    listing_taken old new first taker (Err (drains.Stream streams.NoDump)) same drains t came none has =
        let front = drains came none in
        let here = has_still old new t same has in
        (ends_so new front.tree streams.NoDump front.why).none here.observable t here.under here.listing
