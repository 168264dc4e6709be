-- What one more pair makes of the steps that were given.
use Rattle.std.proofs.Common.{◌≡◌, true, false, List, [], ◌∷◌, ◌++◌, refl, sym, subst}
use Rattle.store_model.specs.Parameters.{Parameters}
use Rattle.store_model.specs.Trees.{Tree}
use Rattle.store_model.specs.Pairs.{Pair, pairs}
use Rattle.dump_streams.specs.Dumps.{DumpStep, dump}
use Rattle.dump_streams.specs.Reading.{HasRead, AddsStep}
use Rattle.dump_streams.specs.declared.reader.ListingReader.{ListingReader}
use Rattle.dump_streams.specs.declared.steps.PairSteps.{PairSteps}
use Rattle.dump_streams.specs.declared.taken.Taken.TheVariants as takens
use Rattle.dump_streams.specs.Making.{MakesOn}
use Rattle.dump_streams.specs.Taking.{HasGiven, HasTaken, TakesPair}
use Rattle.dump_streams.proofs.AfterLemmas.{breaks_none, after_goes_on, tree_told}

module _ (old new : PairSteps) (pair : Pair) (s : DumpStep) where
  pub taken_step : MakesOn old.maker new.maker pair s takens.Step → AddsStep old.reader new.reader s true
      → TakesPair old new pair s takens.Step
  unfolding HasGiven
  taken_step makes adds = record {
    given = λ t p read. adds.read t p read;
    goes_on = λ t p read is. adds.goes_on t p read;
    taken = λ u p passed rest t has all. record {
      under = has.under;
      given = adds.read t p has.given;
      after = after_goes_on new.maker u t p (passed ++ pair ∷ []) s
          (makes.after u p passed rest (dump t) has.after all) (adds.goes_on t p has.given);
    };
    refused = λ u p passed rest t has all is. cc;
  }

  pub refused_step : MakesOn old.maker new.maker pair s takens.Step → AddsStep old.reader new.reader s false
      → TakesPair old new pair s takens.Refused
  unfolding HasGiven
  refused_step makes adds = record {
    given = λ t p read. subst (λ (reader : ListingReader). HasRead reader t p) (sym adds.unchanged) read;
    goes_on = λ t p read is. absurd (cc);
    taken = λ u p passed rest t has all. absurd (none u p passed rest t has all);
    refused = λ u p passed rest t has all is. none u p passed rest t has all;
  }
    where
      none : (u : Tree) (p : Parameters) (passed rest : List Pair) (t : Tree) → HasTaken old u p passed t
          → pairs u p ≡ passed ++ pair ∷ rest → ⊥
      none u p passed rest t has all = breaks_none new.maker u t p (passed ++ pair ∷ []) s has.under
          (makes.after u p passed rest (dump t) has.after all) (adds.refused t p has.given)

  pub no_step : MakesOn old.maker new.maker pair s takens.More → new.reader ≡ old.reader
      → TakesPair old new pair s takens.More
  unfolding HasGiven
  no_step makes same = record {
    given = λ t p read. subst (λ (reader : ListingReader). HasRead reader t p) (sym same) read;
    goes_on = λ t p read is. absurd (cc);
    taken = λ u p passed rest t has all. record {
      under = has.under;
      given = subst (λ (reader : ListingReader). HasRead reader t p) (sym same) has.given;
      after = makes.after u p passed rest (dump t) has.after all;
    };
    refused = λ u p passed rest t has all is. cc;
  }

  pub no_pair : MakesOn old.maker new.maker pair s takens.Refused → new.reader ≡ old.reader
      → TakesPair old new pair s takens.Refused
  unfolding HasGiven
  no_pair makes same = record {
    given = λ t p read. subst (λ (reader : ListingReader). HasRead reader t p) (sym same) read;
    goes_on = λ t p read is. absurd (cc);
    taken = λ u p passed rest t has all. absurd (makes.refused u p passed rest (dump t) has.after all refl);
    refused = λ u p passed rest t has all is. makes.refused u p passed rest (dump t) has.after all refl;
  }

-- where all pairs of a tree came, its dump was given
pub all_given : (steps : PairSteps) (u : Tree) (p : Parameters) (t : Tree) → HasTaken steps u p (pairs u p) t → t ≡ u
unfolding HasGiven
all_given steps u p t has = tree_told steps.maker u t p has.under (has.given).under has.after
