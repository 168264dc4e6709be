-- What comparing the streams of two stores says of their trees, and of their images.
use Rattle.std.proofs.Common.{◌≡◌, ◌⊎◌, ℕ, ◌^◌, ◌<◌, List, length, Option, Result, Ok, Err, IfOk, IfErr}
use Rattle.std.proofs.Common.{sym, ap, subst, ◌∙◌, arith}
use Rattle.store_model.specs.Parameters.{Parameters}
use Rattle.store_model.specs.Trees.{Tree, IsTree}
use Rattle.store_model.specs.Images.{recovered, layout, Represents}
use Rattle.disk_model.specs.DiskState.{DiskState, IsObservable}
use Rattle.dump_streams.specs.Dumps.{dump}
use Rattle.dump_streams.specs.declared.fault.StreamFault.{StreamFault}
use Rattle.dump_diff.specs.declared.differences.Differences.{Differences}
use Rattle.dump_diff.specs.declared.fault.CompareFault.{CompareFault}
use Rattle.dump_diff.specs.declared.fault.CompareFault.TheVariants as compares
use Rattle.dump_diff.specs.Ahead.{AreFound}
use Rattle.dump_diff.specs.Causes.{IsCause}
use Rattle.image_check.specs.declared.fault.ApplyFault.{ApplyFault}
use Rattle.image_reads.specs.Faults.{store_fault}
use Rattle.image_differences.specs.declared.images.ImageDifferences.{ImageDifferences}
use Rattle.image_differences.specs.declared.images.ImagesFault.{ImagesFault}
use Rattle.image_differences.specs.Compared.{TellTrees, IsStoreBlamed}
use Rattle.image_differences.proofs.EqualViews.{tell_in_order}
use Rattle.image_differences.specs.Images.{TellImages, AreStoresUncompared, images_fault, images_found}

-- ---- two stores

-- what was found of two trees
pub tell_trees : (whole whole' : Tree → Type 0) (found : Differences) (one other : Tree) → IsTree one → IsTree other
    → ((t : Tree) → whole t → t ≡ one) → ((t : Tree) → whole' t → t ≡ other) → AreFound whole whole' found
    → TellTrees one other found
tell_trees whole whole' found one other tree tree' is is' are =
    tell_in_order found are.one are.other one other (is are.one are.first) (is' are.other are.second) tree.sorted
    tree'.sorted are.differences are.attributes

-- why they were not compared
pub uncompared : (came whole came' whole' : Tree → Type 0) (fails fails' : Tree → StreamFault → Type 0)
    (first first' second second' : DiskState) (one other : Option ApplyFault)
    → ((t : Tree) (cause : StreamFault) → fails t cause → IsStoreBlamed first first' (store_fault one))
    → ((t : Tree) (cause : StreamFault) → fails' t cause → IsStoreBlamed second second' (store_fault other))
    → ((t : Tree) → came t ⊎ whole t → IsObservable first → length (dump t) < 2 ^ 32)
    → ((t : Tree) → came' t ⊎ whole' t → IsObservable second → length (dump t) < 2 ^ 32)
    → (fault : CompareFault) → IsCause came whole fails came' whole' fails' fault
    → AreStoresUncompared first first' second second' (images_fault fault one other)
uncompared came whole came' whole' fails fails' first first' second second' one other is is' few few'
    (compares.First cause) why = is why.tree cause why.told
uncompared came whole came' whole' fails fails' first first' second second' one other is is' few few'
    (compares.Second cause) why = is' why.tree cause why.told
uncompared came whole came' whole' fails fails' first first' second second' one other is is' few few'
    compares.TooLong why = λ seen seen'.
    let a = few why.one why.first seen in
    let b = few' why.other why.second seen' in
    absurd (omega (arith, a, b, why.many))
uncompared came whole came' whole' fails fails' first first' second second' one other is is' few few'
    (compares.NoMemory cause) why = tt

-- ---- what is found

pub if_ok : {T E : Type 0} {A B : T → Type 0} (result : Result T E) → ((value : T) → A value → B value)
    → IfOk result A → IfOk result B
if_ok (Ok value) f a = f value a
if_ok (Err error) f a = tt

pub both_ok : {T E : Type 0} {A B C : T → Type 0} (result : Result T E) → ((value : T) → A value → B value → C value)
    → IfOk result A → IfOk result B → IfOk result C
both_ok (Ok value) f a b = f value a b
both_ok (Err error) f a b = tt

module _ (p q : Parameters) (compared : Result Differences CompareFault) (fault other : Option ApplyFault)
    (result : Result ImageDifferences ImagesFault) (is : result ≡ images_found p q compared fault other) where
  pub found_so : (A : Differences → Type 0) → IfOk compared A → IfOk result (λ found. A found.trees)
  found_so A told = subst (λ (r : Result ImageDifferences ImagesFault). IfOk r (λ found. A found.trees)) (sym is)
      (by_case compared told)
    where
      by_case : (c : Result Differences CompareFault) → IfOk c A
          → IfOk (images_found p q c fault other) (λ found. A found.trees)
      by_case (Ok trees) a = a
      by_case (Err cause) a = tt

  pub params_so : (one two : Parameters) → p ≡ one → q ≡ two
      → IfOk result (λ found. (found.first ≡ one) × (found.second ≡ two))
  params_so one two first second =
      subst (λ (r : Result ImageDifferences ImagesFault). IfOk r (λ found. (found.first ≡ one) × (found.second ≡ two)))
      (sym is) (by_case compared)
    where
      by_case : (c : Result Differences CompareFault)
          → IfOk (images_found p q c fault other) (λ found. (found.first ≡ one) × (found.second ≡ two))
      by_case (Ok trees) = (first, second)
      by_case (Err cause) = tt

  pub fault_so : (C : CompareFault → Type 0) (A : ImagesFault → Type 0)
      → ((cause : CompareFault) → C cause → A (images_fault cause fault other)) → IfErr compared C → IfErr result A
  fault_so C A so told = subst (λ (r : Result ImageDifferences ImagesFault). IfErr r A) (sym is) (by_case compared told)
    where
      by_case : (c : Result Differences CompareFault) → IfErr c C → IfErr (images_found p q c fault other) A
      by_case (Ok trees) a = tt
      by_case (Err cause) a = so cause a

-- ---- two images

-- equal trees under equal parameters have one layout
same_images : (first second : List ℕ) (found : ImageDifferences) (one other : Tree)
    → Represents first one found.first → Represents second other found.second → one ≡ other
    → found.first ≡ found.second → recovered found.first.slots first ≡ recovered found.second.slots second
same_images first second found one other is is' same params =
    is.layout_is ∙ ap (λ (t : Tree). layout t found.first) same ∙ ap (λ (p : Parameters). layout other p) params
    ∙ sym is'.layout_is

pub tell_images : (first second : List ℕ) (found : ImageDifferences) (one other : Tree) (p q : Parameters)
    → Represents first one p → Represents second other q → found.first ≡ p → found.second ≡ q
    → TellTrees one other found.trees → TellImages first second found
tell_images first second found one other p q is is' params params' tell =
    let here = subst (λ (p : Parameters). Represents first one p) (sym params) is in
    let there = subst (λ (p : Parameters). Represents second other p) (sym params') is' in
    record {
      one = one;
      other = other;
      first_is = here;
      second_is = there;
      trees = tell;
      same = λ none. same_images first second found one other here there ((tell.equal).0 none);
    }
