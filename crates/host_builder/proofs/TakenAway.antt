-- What was made is taken away again, one after another.
use Rattle.std.proofs.Common.{◌≡◌, ℕ, zero, suc, ◌+◌, ◌-◌, ◌^◌, min, Bool, true, false, not, if◌then◌else◌, IsTrue}
use Rattle.std.proofs.Common.{List, []}
use Rattle.std.proofs.Common.{◌∷◌, ◌++◌, refl, sym, ap, subst, ◌∙◌, arith}
use Rattle.store_base.specs.Counts.{raised}
use Rattle.store_model.specs.Trees.{Tree}
use Rattle.host_builder.specs.declared.plan.Standing.{Standing}
use Rattle.host_builder.specs.Builders.{BuilderState, IsObservable, BringsNone, Removes, RemovesRoot, risen}
use Rattle.host_builder.specs.Takes.{TakesAway, is_accounted}
use Rattle.host_builder.proofs.Brings.{accounted_before, none_accounted, none_from_none}
use Rattle.host_builder.proofs.Counting.{risen_up_to}

-- Of all these, what is left is accounted for, where nothing stays that was taken away.
pub record TakesPart (old new : BuilderState) (all left : List Standing) (stays : ℕ) : Type 0 where
  pub observable : new.is_observable ≡ old.is_observable
  pub faults : new.faults ≡ risen old.faults stays
  pub links : new.has_links ≡ old.has_links
  pub holds : IsObservable old → IsTrue (is_accounted all old.holds) → stays ≡ 0
      → IsTrue (is_accounted left new.holds)

pub none_taken : (old : BuilderState) (all : List Standing) → TakesPart old old all all 0
none_taken old all = record {
  observable = refl;
  faults = refl;
  links = refl;
  holds = λ seen are none. are;
}

module _ (old now new : BuilderState) (all left : List Standing) (one : Standing) (before stays : ℕ)
    (part : TakesPart old now all (left ++ one ∷ []) before) where
  -- one more went
  pub went : Removes now new one.path true → TakesPart old new all left before
  went removes = record {
    observable = removes.observable ∙ part.observable;
    faults = removes.faults ∙ part.faults;
    links = removes.links ∙ part.links;
    holds = λ seen are none. subst (λ (t : Tree). IsTrue (is_accounted left t))
        (sym (removes.holds (part.observable ∙ seen) refl))
        (accounted_before left one now.holds (part.holds seen are none));
  }

  -- or stays
  pub stayed : stays ≡ min (before + 1) (2 ^ 64 - 1) → Removes now new one.path false
      → TakesPart old new all left stays
  stayed is removes = record {
    observable = removes.observable ∙ part.observable;
    faults = removes.faults ∙ ap raised part.faults ∙ risen_up_to old.faults before ∙ ap (risen old.faults) (sym is);
    links = removes.links ∙ part.links;
    holds = λ seen are none. absurd (omega (arith, is, none));
  }

-- and the folder itself
module _ (old now new : BuilderState) (all left : List Standing) (before stays : ℕ)
    (part : TakesPart old now all left before) (empty : left ≡ []) where
  last_holds : BringsNone now.holds new.holds → IsObservable old → IsTrue (is_accounted all old.holds) → before ≡ 0
      → new.holds ≡ []
  last_holds brings seen are none =
      let held : now.holds ≡ [] = none_accounted now.holds
      (subst (λ (stands : List Standing). IsTrue (is_accounted stands now.holds)) empty (part.holds seen are none)) in
      none_from_none new.holds (subst (λ (t : Tree). BringsNone t new.holds) held brings)

  pub root_went : RemovesRoot now new true → TakesAway old new all before
  root_went removes = record {
    observable = removes.observable ∙ part.observable;
    faults = removes.faults ∙ part.faults;
    links = removes.links ∙ part.links;
    holds = λ seen are none. last_holds (removes.brings (part.observable ∙ seen)) seen are none;
  }

  pub root_stayed : stays ≡ min (before + 1) (2 ^ 64 - 1) → RemovesRoot now new false → TakesAway old new all stays
  root_stayed is removes = record {
    observable = removes.observable ∙ part.observable;
    faults = removes.faults ∙ ap raised part.faults ∙ risen_up_to old.faults before ∙ ap (risen old.faults) (sym is);
    links = removes.links ∙ part.links;
    holds = λ seen are none. absurd (omega (arith, is, none));
  }
