-- What is said of the recovered image is said of the disk below.
use Rattle.std.proofs.Common.{◌≡◌, ℕ, ◌≤◌, List, length, Bool, true, false, nat_le, refl, sym, ap}
use Rattle.std.proofs.Common.{subst, ◌∙◌}
use Rattle.std.proofs.Common.{arith, leb-true}
use Rattle.std.proofs.lemmas.Bool.{leb-false}
use Rattle.store_base.specs.Counts.{raised, raised_by}
use Rattle.store_model.specs.Parameters.{Parameters}
use Rattle.store_model.specs.Trees.{Tree}
use Rattle.store_model.specs.Images.{Represents, recovered, viewed_header, header}
use Rattle.store_model.proofs.ImagesLemmas.{Represents-recovered, recovered-recovered, length-recovered}
use Rattle.store_model.proofs.ImagesLemmasScrubbed.{viewed_header-recovered}
use Rattle.store_model.proofs.TreesLemmasBytes.{viewed_headers_same}
use Rattle.disk_model.specs.DiskState.{DiskState, IsObservable}
use Rattle.gate_journal.specs.Phases.{HasEmptyJournal}
use Rattle.gate_journal.specs.Headers.{IsImageWith, HasParameters}
use Rattle.gate_journal.proofs.Recovering.{empty-recovered}
use Rattle.gate_journal.proofs.Openings.{opening_of_empty}
use Rattle.recovered_store.specs.RecoveredDisks.{IsRecoveredOf}
use Rattle.image_check.specs.declared.fault.AttachFault.{AttachFault}
use Rattle.image_check.specs.declared.fault.AttachFault.TheVariants as attach
use Rattle.image_check.specs.Faults.{attach_faults_by}
use Rattle.image_check.specs.Verdicts.{IsNoImage, IsDamaged}
use Rattle.store_core.specs.StoreState.{StoreState}
use Rattle.store_core.specs.StoreCalls as calls
use Rattle.recovered_store.specs.RecoveredStores.{IsOpened, IsRefused}

-- a number is no more than another where it can't be that it is not
no_less : (a b : ℕ) → ((a ≤ b → ⊥) → a ≤ b) → a ≤ b
no_less a b stable = by_test (nat_le a b) refl
  where
    by_test : (test : Bool) → nat_le a b ≡ test → a ≤ b
    by_test true is = leb-true a b is
    by_test false is = stable (λ within. omega (arith, within, leb-false a b is))

module _ (below disk : DiskState) (is : IsRecoveredOf below disk) where
  module _ (seen : IsObservable below) where
    named : IsImageWith below.bytes is.params
    named = is.has_parameters.named seen

    seen_too : IsObservable disk
    seen_too = is.observable ∙ seen

    header_is : viewed_header (is.params).slots disk.bytes ≡ header is.params
    header_is = ap (viewed_header (is.params).slots) (is.bytes seen)
        ∙ viewed_header-recovered (is.params).slots below.bytes named.length_is ∙ named.names.header_is

    -- the recovered image is one of the same parameters, and of no others
    is_image : IsImageWith disk.bytes is.params
    is_image = record {
      names = record { in_range = is.has_parameters.in_range; header_is = header_is };
      length_is = ap (λ (image : List ℕ). length image) (is.bytes seen)
          ∙ length-recovered (is.params).slots below.bytes named.length_is;
    }

    one_image : (q : Parameters) → IsImageWith disk.bytes q → is.params ≡ q
    one_image q other = viewed_headers_same disk.bytes is.params q is.has_parameters.in_range other.names.in_range
        header_is other.names.header_is

    -- it represents what the image below does
    represents_above : (t : Tree) (q : Parameters) → Represents below.bytes t q → Represents disk.bytes t q
    represents_above t q r =
        let same : q ≡ is.params = viewed_headers_same below.bytes q is.params r.names.in_range
        is.has_parameters.in_range r.names.header_is named.names.header_is in
        subst (λ (image : List ℕ). Represents image t q)
        (ap (λ (p : Parameters). recovered p.slots below.bytes) same ∙ sym (is.bytes seen))
        (Represents-recovered below.bytes t q r)

    represents_below : (t : Tree) (q : Parameters) → Represents disk.bytes t q → Represents below.bytes t q
    represents_below t q r =
        let same : is.params ≡ q = one_image q (record { names = r.names; length_is = r.length_is }) in
        let here : IsImageWith below.bytes q = subst (λ (p : Parameters). IsImageWith below.bytes p) same named in
        let twice : recovered q.slots disk.bytes ≡ recovered q.slots below.bytes =
        ap (recovered q.slots) (is.bytes seen ∙ ap (λ (p : Parameters). recovered p.slots below.bytes) same)
        ∙ recovered-recovered q.slots below.bytes here.length_is in
        record {
          names = here.names;
          length_is = here.length_is;
          tree = r.tree;
          fits = r.fits;
          layout_is = sym twice ∙ r.layout_is;
        }

    empty : (q : Parameters) → is.params ≡ q → HasEmptyJournal q.slots disk.bytes
    empty q same = subst (λ (p : Parameters). HasEmptyJournal p.slots disk.bytes) same
        (subst (HasEmptyJournal (is.params).slots) (sym (is.bytes seen))
        (empty-recovered (is.params).slots below.bytes named.length_is))

  has_parameters : (q : Parameters) → HasParameters disk q → HasParameters below q
  has_parameters q has = record {
    in_range = has.in_range;
    size_is = sym is.size ∙ has.size_is;
    named = λ seen. subst (λ (p : Parameters). IsImageWith below.bytes p)
        (one_image seen q (has.named (seen_too seen))) (named seen);
  }

  -- ---- a store

  module _ {R : Type 0} (state : R → DiskState) (store : StoreState R)
      (attached : calls.IsAttached state disk store) where
    pub opened : IsOpened state below store
    opened = record {
      has_parameters = has_parameters store.params attached.has_parameters;
      fitting = attached.fitting;
      runs = attached.runs;
      observable = attached.kept.observable ∙ is.observable;
      faults = attached.faults ∙ is.counts.faults;
      represents = λ seen. represents_below seen store.tree store.params
          (attached.observed (seen_too seen)).represents;
      stands = λ seen. (attached.observed (seen_too seen)).stands;
      unwritten = λ seen.
          ((attached.observed (seen_too seen)).unwritten
          (empty seen store.params (one_image seen store.params
          (attached.has_parameters.named (seen_too seen))))).writes
          ∙ is.counts.writes;
    }

  -- ---- no store

  module _ (fault : AttachFault) (new : DiskState) (refused : calls.IsRefused disk fault new) where
    not_image : fault ≡ attach.NotImage → IsNoImage below
    not_image e seen q image = refused.not_image e (seen_too seen) is.params (is_image seen)

    damaged : fault ≡ attach.Damaged → IsDamaged below
    damaged e = record {
      params = is.params;
      has_parameters = is.has_parameters;
      no_tree = λ seen t q r. (refused.damaged e).no_tree (seen_too seen) t q (represents_above seen t q r);
    }

    -- no write was tried
    module _ (seen : IsObservable below) where
      unwritten_tree : (t : Tree) (q : Parameters) → Represents disk.bytes t q → new.writes ≤ 0
      unwritten_tree t q r =
          let kept = refused.represented (seen_too seen) t q r in
          let none = (opening_of_empty q.slots disk.bytes (empty seen q
          (one_image seen q (record { names = r.names; length_is = r.length_is })))).0 in
          omega (arith, kept.limit.write_limit, none, is.counts.writes)

      unwritten : new.writes ≤ 0
      unwritten = no_less new.writes 0 (λ more.
          let left = refused.unrepresented (seen_too seen) (λ t q r. more (unwritten_tree t q r)) in
          omega (arith, left.synced.writes, is.counts.writes))

    pub not_opened : (faults : ℕ) (tried : ℕ) → new.faults ≡ raised_by faults tried → new.writes ≡ raised_by 0 tried
        → (after : DiskState) → after.faults ≡ faults → IsRefused below fault after
    not_opened faults tried faults_are writes_are after same = record {
      not_image = not_image;
      damaged = damaged;
      failed = λ seen e.
          let rose : new.faults ≡ raised disk.faults =
          subst (λ (f : AttachFault). new.faults ≡ attach_faults_by f disk.faults) e
          refused.faults in
          omega (arith, rose, faults_are, writes_are, unwritten seen, is.counts.faults, same);
    }
