-- How the image of a tree that came whole ends.
use Rattle.std.proofs.Common.{◌≡◌, ◌⊎◌, ℕ, List, ◌<◌, ◌≤◌, Option, Result, Ok, Err, inl, inr}
use Rattle.std.proofs.Common.{refl, sym, subst, ◌∙◌}
use Rattle.std.specs.Prelude.{IfSome, IfErr}
use Rattle.std.proofs.lemmas.Bool.{cases_lt}
use Rattle.store_model.specs.Parameters.{Parameters}
use Rattle.store_model.specs.Paths.{Path}
use Rattle.store_model.specs.Trees.{Tree}
use Rattle.store_model.specs.Trees.Node.{File}
use Rattle.store_model.specs.Pages.{page_count}
use Rattle.store_model.specs.Images.{layout}
use Rattle.tree_pairs.specs.Seen.{bare_entry}
use Rattle.disk_model.specs.DiskState.{DiskState}
use Rattle.image_writer.specs.Sealing.{Becomes}
use Rattle.image_writer.specs.Writing.{StaysNone}
use Rattle.tree_writer.specs.Faults.{WasNone}
use Rattle.tree_writer.specs.Writing.{FailsLast}
use Rattle.tree_writer.specs.declared.fault.TreeFault.{TreeFault}
use Rattle.tree_writer.specs.declared.fault.TreeFault.TheVariants as trees
use Rattle.image_create.specs.Faults.{tree_fault}
use Rattle.image_create.specs.Leading.{IsLastPath, EndsBy, IsFinished, FollowFrom}
use Rattle.image_create.specs.declared.fault.CreateFault.TheVariants as creates
use Rattle.image_create.proofs.Paths.{last_of}

-- whichever fault it is that is told
becomes_told : {T E U F : Type 0} (p : Parameters) (whole : List ℕ) (start now : DiskState) (e : E) (f : F)
    → Becomes {T = T} p whole start now (Err e) → Becomes {T = U} p whole start now (Err f)
becomes_told p whole start now e f becomes = record {
  done = tt;
  durable = tt;
  made = tt;
  reads = becomes.reads;
  crash = becomes.crash;
}

pub becomes_ok : {T E F : Type 0} (p : Parameters) (whole : List ℕ) (start now : DiskState) (x : T)
    → Becomes {E = E} p whole start now (Ok x) → Becomes {T = Unit {0}} {E = F} p whole start now (Ok tt)
becomes_ok p whole start now x becomes = record {
  done = becomes.done;
  durable = becomes.durable;
  made = becomes.made;
  reads = becomes.reads;
  crash = becomes.crash;
}

-- a fault that only a tree tells that does not fit, or only one that fits
full_alone : {T : Type 0} (need slots : ℕ) (cause : TreeFault) (result : Result T TreeFault) → result ≡ Err cause
    → result ≡ Err (trees.Full need slots) → cause ≡ trees.Full need slots
full_alone need slots cause result is full = cc

full_no_disk : (need slots : ℕ) → trees.Full need slots ≡ trees.Disk → ⊥
full_no_disk need slots e = cc

changed_no_disk : trees.Changed ≡ trees.Disk → ⊥
changed_no_disk e = cc

module _ (p : Parameters) (t : Tree) (wanted : Option ℕ) (start now : DiskState) (last : Path) (told : ℕ)
    (cause : TreeFault) (is_last : IsLastPath t last)
    (becomes : WasNone start → Becomes {T = Unit {0}} p (layout t p) start now (Err cause))
    (none : WasNone start → (cause ≡ trees.Disk → ⊥) → StaysNone start now) where
  -- of a tree that does not fit
  pub over_ends : p.slots < page_count t p → cause ≡ trees.Full (page_count t p) p.slots
      → EndsBy p wanted t start now (tree_fault cause last)
  over_ends more is =
      subst (λ (f : TreeFault). EndsBy p wanted t start now (tree_fault f last)) (sym is) (
        record { need_is = refl; slots_is = refl; more = more },
        λ was. none was (λ disk. full_no_disk (page_count t p) p.slots (sym is ∙ disk)),
      )

  -- and of one that fits
  pub fits_ends : FailsLast t told cause → EndsBy p wanted t start now (tree_fault cause last)
  fits_ends (inl is) =
      subst (λ (f : TreeFault). EndsBy p wanted t start now (tree_fault f last)) (sym is)
      (λ was. becomes_told p (layout t p) start now cause creates.Disk (becomes was))
  fits_ends (inr (is, differs)) =
      subst (λ (f : TreeFault). EndsBy p wanted t start now (tree_fault f last)) (sym is) (
        last_of t last differs.path differs.front (bare_entry (File differs.bytes)) is_last differs.ends,
        λ was. none was (λ disk. changed_no_disk (sym is ∙ disk)),
      )

-- ---- whichever it is

ok_no_err : {T E : Type 0} (x : T) (e : E) → Ok x ≡ Err e → ⊥
ok_no_err x e is = cc

-- after Ok they do
pub ends_whole : (p : Parameters) (t : Tree) (wanted : Option ℕ) (start now : DiskState)
    (result : Result (Unit {0}) TreeFault) {done : Unit {0}} → result ≡ Ok done → IfSome wanted (FollowFrom p t)
    → (p.slots < page_count t p → result ≡ Err (trees.Full (page_count t p) p.slots))
    → (WasNone start → Becomes p (layout t p) start now result) → IsFinished p wanted t start now
ends_whole p t wanted start now result {done} is follow full becomes = by_fit (cases_lt p.slots (page_count t p))
  where
    by_fit : (p.slots < page_count t p) ⊎ (page_count t p ≤ p.slots) → IsFinished p wanted t start now
    by_fit (inr fits) = record {
      fits = fits;
      slots = follow;
      becomes = λ was. becomes_ok p (layout t p) start now done
          (subst (λ (r : Result (Unit {0}) TreeFault). Becomes p (layout t p) start now r) is (becomes was));
    }
    by_fit (inl more) =
        absurd (ok_no_err done (trees.Full (page_count t p) p.slots) (sym is ∙ full more))

-- and why a fault came
pub ends_failed : (p : Parameters) (t : Tree) (wanted : Option ℕ) (start now : DiskState) (last : Path) (told : ℕ)
    (cause : TreeFault) → IsLastPath t last → (result : Result (Unit {0}) TreeFault) → result ≡ Err cause
    → (p.slots < page_count t p → result ≡ Err (trees.Full (page_count t p) p.slots))
    → (page_count t p ≤ p.slots → IfErr result (FailsLast t told))
    → (WasNone start → Becomes p (layout t p) start now result)
    → (WasNone start → IfErr result (λ fault. (fault ≡ trees.Disk → ⊥) → StaysNone start now))
    → EndsBy p wanted t start now (tree_fault cause last)
ends_failed p t wanted start now last told cause is_last result is full fits becomes none =
    by_fit (cases_lt p.slots (page_count t p))
  where
    becomes_so : WasNone start → Becomes {T = Unit {0}} p (layout t p) start now (Err cause)
    becomes_so was = subst (λ (r : Result (Unit {0}) TreeFault). Becomes p (layout t p) start now r) is (becomes was)

    none_so : WasNone start → (cause ≡ trees.Disk → ⊥) → StaysNone start now
    none_so was = subst (λ (r : Result (Unit {0}) TreeFault).
        IfErr r (λ fault. (fault ≡ trees.Disk → ⊥) → StaysNone start now)) is (none was)

    by_fit : (p.slots < page_count t p) ⊎ (page_count t p ≤ p.slots)
        → EndsBy p wanted t start now (tree_fault cause last)
    by_fit (inr room) = fits_ends p t wanted start now last told cause is_last becomes_so none_so
        (subst (λ (r : Result (Unit {0}) TreeFault). IfErr r (FailsLast t told)) is (fits room))
    by_fit (inl more) = over_ends p t wanted start now last told cause is_last becomes_so none_so more
        (full_alone (page_count t p) p.slots cause result is (full more))
