-- What the text of a line asks for, offered to a reader of listings.
use Rattle.std.proofs.Common.{◌≡◌, ℕ, Bool, true, false, List, Ok, refl, subst}
use Rattle.store_model.specs.Scripts.{reading}
use Rattle.dump_streams.specs.declared.reader.ListingReader.{ListingReader}
use Rattle.dump_streams.specs.Dumps.{DumpStep, command_of_step}
use Rattle.dump_streams.specs.Steps.{ReadsStep}
use Rattle.dump_streams.specs.Reading.{AddsStep, BreaksOff}
use Rattle.dump_streams.proofs.StepLemmas.{same_step}
use Rattle.dump_streams.specs.Listings.{TakesText}

module _ (old new : ListingReader) (s : DumpStep) (text : List ℕ) where
  -- it asks for no step
  pub text_refused : ReadsStep text s false → TakesText old old text s false
  text_refused reads = record {
    step = tt;
    read = λ t p read. tt;
    goes_on = λ t p read. tt;
    refused = λ t p read other e. absurd (reads.none other e);
    version = refl;
  }

  -- it asks for one, which was offered to the reader
  pub text_offered : (taken : Bool) → ReadsStep text s true → AddsStep old new s taken → TakesText old new text s taken
  text_offered true reads adds = record {
    step = reads.read;
    read = adds.read;
    goes_on = adds.goes_on;
    refused = λ t p read. tt;
    version = adds.version;
  }
  text_offered false reads adds = record {
    step = tt;
    read = λ t p read. tt;
    goes_on = λ t p read. tt;
    refused = λ t p has other e.
        let read : reading text ≡ Ok (command_of_step s) = reads.read in
        subst (λ (x : DumpStep). BreaksOff t x p) (same_step s other (cc (read, e))) (adds.refused t p has);
    version = adds.version;
  }
