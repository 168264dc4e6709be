-- Whether something stands at a path of a tree, and what asking a store leaves of it.
use Rattle.std.proofs.Common.{◌≡◌, ℕ, Bool, true, false, ◌||◌, cond, List, [], ◌∷◌}
use Rattle.std.proofs.Common.{Option, Some, None, Result, Ok, Err, IsTrue, is_some, refl, sym, ap}
use Rattle.std.proofs.Common.{◌∙◌, Ordering, Less, Equal, Greater}
use Rattle.std.specs.List.{AllByRecursion, find as first_that}
use Rattle.std.specs.List.Sorted.{IsStrictlySortedBy}
use Rattle.std.specs.Ordering.{is_eq, is_le, ordering_reverse}
use Rattle.std.specs.Cmp.Lexicographic.{nat_list_cmp_total, texts_ties}
use Rattle.std.specs.FinMap.{find}
use Rattle.std.proofs.lemmas.Bool.{false≢true}
use Rattle.store_model.specs.declared.version.Version.{Version}
use Rattle.store_model.specs.Lists.{same_bytes}
use Rattle.store_model.specs.Parameters.{Parameters}
use Rattle.store_model.specs.Paths.{Path, is_root, is_path, key, key_cmp}
use Rattle.store_model.specs.Pairs.{Pair, pairs}
use Rattle.store_model.specs.Trees.{Tree, Node, IsTree, node_at, exists}
use Rattle.store_model.specs.Trees.Node.{Directory, File}
use Rattle.store_model.proofs.ListsLemmas.{all_weaker, rising_head, rising_tail}
use Rattle.store_model.proofs.PairsLemmas.{pair_cmp, rising_pairs}
use Rattle.disk_model.specs.DiskState.{DiskState, IsObservable, IsSound}
use Rattle.gate_journal.specs.ReadingLaws.{ReadsOnly-refl, ReadsOnly-trans}
use Rattle.store_base.specs.Counts.{raised}
use Rattle.tree_pairs.specs.Kinds.{first_value}
use Rattle.tree_pairs.proofs.KindLemmas.{first_in_held}
use Rattle.image_check.specs.declared.fault.ApplyFault.{ApplyFault}
use Rattle.image_check.specs.declared.fault.ApplyFault.TheVariants as apply
use Rattle.image_check.specs.Faults.{apply_faults_after}
use Rattle.store_core.specs.StoreState.{StoreState}
use Rattle.store_core.specs.StoreCalls.{StepsStore}
use Rattle.image_reads.specs.declared.fault.ReadFault.{ReadFault}
use Rattle.image_reads.specs.declared.fault.ReadFault.TheVariants as reads
use Rattle.image_reads.specs.Faults.{store_fault}
use Rattle.image_extract.specs.Lookups.{AsksStore, has_key}
use Rattle.image_reads.specs.StoreReads.{IsStoreFault, IsOnlyRead}

-- ---- the pair of a path

-- the first pair whose key is not below the given one
abbrev pub next_from : List ℕ → List Pair → Option Pair
next_from k s = first_that (λ pair. is_le (key_cmp k pair.0)) s

-- keys behind one are none of it
none_behind : (k : List ℕ) (s : List Pair) → AllByRecursion (λ y. key_cmp k y.0 ≡ Less) s → find key_cmp k s ≡ None
none_behind k [] h = refl
none_behind k (y ∷ s) h = ap (λ o. cond (is_eq o) (Some y.1) (find key_cmp k s)) h.0 ∙ none_behind k s h.1

-- the next pair from a key on has it exactly where there is one that has
next_has : (k : List ℕ) (s : List Pair) → IsStrictlySortedBy pair_cmp s
    → has_key k (next_from k s) ≡ is_some (find key_cmp k s)
next_has k [] rise = refl
next_has k (y ∷ s) rise = by_order (next_has k s (rising_tail pair_cmp y s rise)) (key_cmp k y.0) refl
  where
    same_is : same_bytes y.0 k ≡ is_eq (key_cmp y.0 k)
    same_is = texts_ties y.0 k

    by_order : has_key k (next_from k s) ≡ is_some (find key_cmp k s) → (o : Ordering) → key_cmp k y.0 ≡ o
        → has_key k (cond (is_le (key_cmp k y.0)) (Some y) (next_from k s))
        ≡ is_some (cond (is_eq (key_cmp k y.0)) (Some y.1) (find key_cmp k s))
    by_order rest Less e =
        ap (λ p. has_key k (cond (is_le p) (Some y) (next_from k s))) e ∙ same_is
        ∙ ap is_eq (nat_list_cmp_total.antisymm y.0 k ∙ ap ordering_reverse e)
        ∙ sym (ap (λ p. is_some (cond (is_eq p) (Some y.1) (find key_cmp k s))) e
        ∙ ap (λ o. is_some o) (none_behind k s (all_weaker (λ z. pair_cmp y z ≡ Less) (λ z. key_cmp k z.0 ≡ Less)
        (λ z l. nat_list_cmp_total.trans k y.0 z.0 e l) s (rising_head pair_cmp y s rise))))
    by_order rest Equal e =
        ap (λ p. has_key k (cond (is_le p) (Some y) (next_from k s))) e ∙ same_is
        ∙ ap is_eq (nat_list_cmp_total.antisymm y.0 k ∙ ap ordering_reverse e)
        ∙ sym (ap (λ p. is_some (cond (is_eq p) (Some y.1) (find key_cmp k s))) e)
    by_order rest Greater e =
        ap (λ p. has_key k (cond (is_le p) (Some y) (next_from k s))) e ∙ rest
        ∙ sym (ap (λ p. is_some (cond (is_eq p) (Some y.1) (find key_cmp k s))) e)

first_of : (o : Option Node) (version : Version) → is_some (first_value o version) ≡ is_some o
first_of None version = refl
first_of (Some Directory) version = refl
first_of (Some (File bytes)) version = refl

-- something stands at a path exactly where the next pair from its first key on has that key, or it is the root
pub stands_so : (t : Tree) (p : Parameters) (x : Path) (found : Option Pair) → IsTree t → IsTrue (is_path x)
    → found ≡ next_from (key x 0) (pairs t p) → (is_root x || has_key (key x 0) found) ≡ exists t x
stands_so t p [] found tree path is = refl
stands_so t p (n ∷ x) found tree path is =
    ap (has_key (key (n ∷ x) 0)) is
    ∙ next_has (key (n ∷ x) 0) (pairs t p) (rising_pairs t p tree)
    ∙ ap (λ o. is_some o)
    (first_in_held (record { is_observable = Unit {0}; pairs = pairs t p; faults = 0 }) t p (n ∷ x)
    (record { tree = tree; pairs_are = refl }) path refl)
    ∙ first_of (node_at t (n ∷ x)) p.version

-- ---- the store

module _ {R A : Type 0} (state : R → DiskState) (old new : StoreState R) (IsAnswer : A → Type 0)
    (result : Result A ApplyFault) (steps : StepsStore state old.tree IsAnswer old new result)
    (runs : old.is_stopped ≡ false) where
  tree_by : (r : Result A ApplyFault) → StepsStore state old.tree IsAnswer old new r → new.tree ≡ old.tree
  tree_by (Ok value) is = by_told (state old.disk).is_observable refl
    where
      by_told : (b : Bool) → (state old.disk).is_observable ≡ b → new.tree ≡ old.tree
      by_told true o = is.tree o
      by_told false h = is.hidden (λ o. false≢true (sym h ∙ o))
  tree_by (Err fault) is = is.fault

  read_by : IsOnlyRead (state old.disk) (state new.disk)
  read_by = record {
    observable = steps.kept.observable;
    reads = λ o. (steps.observed o runs).still refl;
  }

  pub answered : {T : Type 0} (value : A) (told : T) → result ≡ Ok value → AsksStore {T = T} state old new (Ok told)
  answered value told is = record {
    tree = tree_by result steps;
    read = read_by;
    faults = steps.faults ∙ ap (apply_faults_after (state old.disk).faults) is;
    runs = steps.runs runs (λ e. let no : Ok value ≡ Err apply.Disk = sym is ∙ e in cc);
    fault = tt;
    not_output = tt;
  }

  pub failed : {T : Type 0} (fault : ApplyFault) → result ≡ Err fault
      → AsksStore {T = T} state old new (Err (store_fault (Some fault)))
  failed fault is = record {
    tree = tree_by result steps;
    read = read_by;
    faults = tt;
    runs = tt;
    fault = by_fault fault is;
    not_output = no_output fault;
  }
    where
      by_fault : (f : ApplyFault) → result ≡ Err f
          → IsStoreFault (state old.disk) (state new.disk) (store_fault (Some f))
      by_fault apply.Disk e = steps.faults ∙ ap (apply_faults_after (state old.disk).faults) e
      by_fault apply.NoMemory e = tt
      by_fault apply.Stopped e = absurd (false≢true (sym runs ∙ steps.stopped.0 e))

      no_output : (f : ApplyFault) → store_fault (Some f) ≡ reads.Output → ⊥
      no_output apply.Disk e = cc
      no_output apply.NoMemory e = cc
      no_output apply.Stopped e = cc

module _ {R : Type 0} (state : R → DiskState) where
  pub reads_none : (store : StoreState R) → (IsObservable (state store.disk) → IsSound (state store.disk))
      → IsOnlyRead (state store.disk) (state store.disk)
  reads_none store sound = record { observable = refl; reads = λ o. ReadsOnly-refl (state store.disk) (sound o) }

  -- a store of which nothing is asked
  pub asks_none : {T : Type 0} (store : StoreState R) (told : T)
      → (IsObservable (state store.disk) → IsSound (state store.disk)) → store.is_stopped ≡ false
      → AsksStore {T = T} state store store (Ok told)
  asks_none store told sound runs = record {
    tree = refl;
    read = reads_none store sound;
    faults = refl;
    runs = runs;
    fault = tt;
    not_output = tt;
  }

  pub read_then : (a b c : DiskState) → IsOnlyRead a b → IsOnlyRead b c → IsOnlyRead a c
  read_then a b c one two = record {
    observable = two.observable ∙ one.observable;
    reads = λ o. ReadsOnly-trans a b c (one.reads o) (two.reads (one.observable ∙ o));
  }

  pub fault_then : (a b c : DiskState) → IsOnlyRead a b → b.faults ≡ a.faults → (fault : ReadFault)
      → IsStoreFault b c fault → IsStoreFault a c fault
  fault_then a b c read same reads.NotImage is = is
  fault_then a b c read same reads.Damaged is = is
  fault_then a b c read same reads.Disk is = is ∙ ap raised same
  fault_then a b c read same reads.NoMemory is = tt
  fault_then a b c read same reads.Changed is = λ o. is (read.observable ∙ o)
  fault_then a b c read same reads.Output is = tt
