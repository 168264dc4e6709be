-- What the reading of a listing leaves of its source, and what is known of the pairs then.
use Rattle.std.proofs.Common.{◌≡◌, ◌+◌, ◌≤◌, [], take, Ok, Err, refl, sym, ap, ◌∙◌, arith, inl}
use Rattle.std.proofs.Common.{inr, length-take}
use Rattle.store_model.specs.Pairs.{has_attributes}
use Rattle.store_model.specs.Pages.{IsTreeUnder}
use Rattle.store_model.specs.Parameters.{Parameters}
use Rattle.store_model.specs.Scripts.{script_limit}
use Rattle.store_model.specs.Trees.{Tree}
use Rattle.dump_streams.specs.declared.listed_pairs.ListedPairs.{ListedPairs}
use Rattle.dump_streams.specs.Listed.{HoldsListed}
use Rattle.script_lines.specs.SourceState.{SourceState, IsObservable}
use Rattle.script_lines.specs.LineState.{LineState, Takes, left}
use Rattle.dump_streams.specs.declared.fault.StreamFault.{StreamFault}
use Rattle.dump_streams.specs.declared.fault.StreamFault.TheVariants as faults
use Rattle.dump_streams.specs.declared.listing.ListingStream.{ListingStream}
use Rattle.dump_streams.specs.SourceLines.{fresh_lines, IsReading, IsReadOut, StopsReading}
use Rattle.dump_streams.specs.Listings.{IsListed, IsNoListing, EndsBy}
use Rattle.dump_streams.proofs.ReadingSteps.{reading_none}
use Rattle.image_subcommands.specs.declared.status.Status.{Status}
use Rattle.image_subcommands.specs.declared.status.Status.TheVariants as statuses
use Rattle.image_subcommands.specs.Limits.{KeepsLimit}
use Rattle.image_subcommands.proofs.LineLimits.{taken_all, within_limit}
use Rattle.listing_subcommands.specs.Listings.{stream_status, ReadsListing}
use Rattle.listing_subcommands.specs.LoadCall.{ListsNone}

-- ---- trees of one version

-- what may stand under one version
same_version : (t : Tree) (p q : Parameters) → q.version ≡ p.version → IsTreeUnder t p → IsTreeUnder t q
same_version t p q same under = record {
  is_tree = under.is_tree;
  bare = λ lacks. under.bare (ap has_attributes (sym same) ∙ lacks);
}

-- ---- the source

module _ {R : Type 0} (source_of : R → SourceState) (p : Parameters) (first : R) where
  -- no more was taken than a script may have
  limit_by : (lines : LineState R) (status : Status) → lines.taken ≤ script_limit
      → Takes source_of (fresh_lines first) lines → (status ≡ statuses.TooLong → ⊥)
      → (status ≡ statuses.Done → left source_of lines ≡ [])
      → KeepsLimit status (source_of first) (source_of lines.source)
  limit_by lines status in_limit takes other whole =
      within_limit source_of (fresh_lines first) refl refl status lines takes in_limit other whole

  -- a fault of the source
  pub stopped : (fault : StreamFault) (lines : LineState R) → StopsReading source_of first lines fault
      → ReadsListing source_of p first lines.source (Err (stream_status fault))
  stopped faults.Unreadable lines stops = record {
    fault = inl refl;
    observable = stops.observable;
    faults = stops.faults;
    limit = λ o. limit_by lines statuses.SourceFault stops.in_limit (stops.takes o) (λ e. cc) (λ e. absurd (cc));
    listed = λ o. tt;
    bad = λ o e. absurd (cc);
    some = tt;
  }
  stopped faults.TooLong lines stops = record {
    fault = inr (inl refl);
    observable = stops.observable;
    faults = stops.faults;
    limit = λ o.
        let longer = stops.longer o in
        record {
          too_long = λ e. record {
            taken = take (script_limit + 1) (source_of first).left;
            taken_is = taken_all source_of (fresh_lines first) refl refl (stops.left_is o);
            count_is = omega (arith, length-take (script_limit + 1) (source_of first).left, longer);
          };
          within = λ other. absurd (other refl);
          whole = λ e. absurd (cc);
        };
    listed = λ o. tt;
    bad = λ o e. absurd (cc);
    some = tt;
  }
  stopped faults.NoDump lines stops = absurd stops
  stopped faults.NoMemory lines stops = absurd stops

  -- memory ran out, for the lines or for the pairs
  pub short : (lines : LineState R) → IsReading source_of first lines
      → ReadsListing source_of p first lines.source (Err statuses.NoMemory)
  short lines reading = record {
    fault = inr (inr (inl refl));
    observable = reading.observable;
    faults = reading.faults;
    limit = λ o. limit_by lines statuses.NoMemory reading.in_limit (reading.takes o) (λ e. cc) (λ e. absurd (cc));
    listed = λ o. tt;
    bad = λ o e. absurd (cc);
    some = tt;
  }

  pub unread : ReadsListing source_of p first first (Err statuses.NoMemory)
  unread = short (fresh_lines first) (reading_none source_of first)

  -- no listing
  pub refused : (lines : LineState R) → IsReadOut source_of first lines
      → (IsObservable (source_of first) → ListsNone p (source_of first).left)
      → ReadsListing source_of p first lines.source (Err statuses.BadListing)
  refused lines out none = record {
    fault = inr (inr (inr refl));
    observable = (out.reading).observable;
    faults = (out.reading).faults;
    limit = λ o. limit_by lines statuses.BadListing (out.reading).in_limit ((out.reading).takes o)
        (λ e. cc) (λ e. absurd (cc));
    listed = λ o. tt;
    bad = λ o e. (out.none_left o, none o);
    some = tt;
  }

-- ---- the stream

module _ {R : Type 0} (source_of : R → SourceState) (p : Parameters) (stream : ListingStream R)
    (version : stream.reader.version ≡ p.version) where
  pub lists_none : IsNoListing source_of stream → IsObservable (source_of stream.first.value)
      → ListsNone p (source_of stream.first.value).left
  lists_none none o some =
      none o some.tree (λ q same. same_version some.tree p q (same ∙ version) some.under) some.listing

  -- a listing, whose pairs are held
  pub held : (t : Tree) (listed : ListedPairs) → IsListed source_of stream t → HoldsListed listed t p
      → ReadsListing source_of p stream.first.value stream.lines.source (Ok listed)
  held t listed is holds =
      let out = is.read_out in
      let under : IsTreeUnder t p = is.under p (sym version) in
      record {
        fault = tt;
        observable = (out.reading).observable;
        faults = (out.reading).faults;
        limit = λ o. limit_by source_of p stream.first.value stream.lines statuses.Done (out.reading).in_limit
            ((out.reading).takes o) (λ e. cc) (λ e. out.none_left o);
        listed = λ o. record { tree = t; lists = record { under = under; listing = is.listing o }; held = holds };
        bad = λ o e. absurd (cc);
        some = (t, record { under = under; held = holds });
      }

  -- a fault of the source, after which no more is read
  pub ended : (t : Tree) (fault : StreamFault) → (fault ≡ faults.NoDump → ⊥) → EndsBy source_of stream t fault
      → ReadsListing source_of p stream.first.value stream.lines.source (Err (stream_status fault))
  ended t faults.Unreadable other ends = stopped source_of p stream.first.value faults.Unreadable stream.lines ends
  ended t faults.TooLong other ends = stopped source_of p stream.first.value faults.TooLong stream.lines ends
  ended t faults.NoDump other ends = absurd (other refl)
  ended t faults.NoMemory other ends = absurd ends
