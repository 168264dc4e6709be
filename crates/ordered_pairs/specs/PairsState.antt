-- What a list of pairs means at one moment, and what a call on it does.
use Rattle.std.specs.Prelude.{◌≡◌, ℕ, List, Option, Result, IfOk, OnOk}
use Rattle.std.specs.FinMap.{find, put}
use Rattle.store_model.specs.Paths.{key_cmp}
use Rattle.store_model.specs.Pairs.{Pair}
use Rattle.store_base.specs.declared.store_fault.Fault.{Fault}
use Rattle.store_base.specs.Faults.{disk_faults_after}
use Rattle.node_pages.specs.EntryPlaces.{without_key, next_entry}

-- A list of pairs at one moment. Only where it is observable do its pairs mean anything.
pub record PairsState : Type 1 where
  -- what the list stands on tells its pairs
  pub is_observable : Type 0
  -- the pairs, by rising key
  pub pairs : List Pair
  -- how many calls on the disk failed, up to the last value of a u64, at which the count stays
  pub faults : ℕ

-- the list tells its pairs
abbrev pub IsObservable : PairsState → Type 0
IsObservable state = state.is_observable

-- how many pairs a list has at most
abbrev pub most_pairs : ℕ
most_pairs = 8388608

-- the list without the pair of a key
abbrev pub without : List ℕ → List Pair → List Pair
without key pairs = without_key key pairs

-- the first pair whose key is not below the given one
abbrev pub next_pair : List ℕ → List Pair → Option Pair
next_pair key pairs = next_entry key pairs

-- what a search for a key does to an observable list; after a fault the list is as it was
pub record GetsPair (old new : PairsState) (key : List ℕ) (result : Result (Option (List ℕ)) Fault) : Type 0 where
  pub observable : IsObservable new
  pub found : IfOk result (λ value. value ≡ find key_cmp key old.pairs)
  pub unchanged : new.pairs ≡ old.pairs

-- what a put of a value under a key does to an observable list; after a fault nothing is promised
pub record PutsPair {T : Type 0} (old new : PairsState) (key value : List ℕ) (result : Result T Fault) : Type 0 where
  pub observable : OnOk result (IsObservable new)
  pub changed : OnOk result (new.pairs ≡ put key_cmp key value old.pairs)

-- what taking the pair of a key out of an observable list does; after a fault nothing is promised
pub record TakesPair (old new : PairsState) (key : List ℕ) (result : Result (Option (List ℕ)) Fault) : Type 0 where
  pub observable : OnOk result (IsObservable new)
  pub found : IfOk result (λ value. value ≡ find key_cmp key old.pairs)
  pub changed : OnOk result (new.pairs ≡ without key old.pairs)

-- what a search for the next pair does to an observable list; after a fault the list is as it was
pub record FindsNextPair (old new : PairsState) (key : List ℕ) (result : Result (Option Pair) Fault) : Type 0 where
  pub observable : IsObservable new
  pub found : IfOk result (λ pair. pair ≡ next_pair key old.pairs)
  pub unchanged : new.pairs ≡ old.pairs

-- a search for the value of a key; a list that was not observable stays so, here and below
pub record IsPairGet (old new : PairsState) (key : List ℕ) (result : Result (Option (List ℕ)) Fault) : Type 0 where
  pub faults : new.faults ≡ disk_faults_after old.faults result
  pub hidden : IsObservable new → IsObservable old
  pub observed : IsObservable old → GetsPair old new key result

-- a put of a value under a key, in the place of the one that was there
pub record IsPairPut {T : Type 0} (old new : PairsState) (key value : List ℕ) (result : Result T Fault) : Type 0 where
  pub faults : new.faults ≡ disk_faults_after old.faults result
  pub hidden : IsObservable new → IsObservable old
  pub observed : IsObservable old → PutsPair old new key value result

-- the pair of a key taken out, with its value as the answer
pub record IsPairTake (old new : PairsState) (key : List ℕ) (result : Result (Option (List ℕ)) Fault) : Type 0 where
  pub faults : new.faults ≡ disk_faults_after old.faults result
  pub hidden : IsObservable new → IsObservable old
  pub observed : IsObservable old → TakesPair old new key result

-- a search for the first pair from a key on
pub record IsNextPair (old new : PairsState) (key : List ℕ) (result : Result (Option Pair) Fault) : Type 0 where
  pub faults : new.faults ≡ disk_faults_after old.faults result
  pub hidden : IsObservable new → IsObservable old
  pub observed : IsObservable old → FindsNextPair old new key result
