-- Lemmas on calls that put bytes one after another.
use Rattle.std.proofs.Common.{◌≡◌, ℕ, ◌+◌, ◌-◌, ◌<◌, ◌≤◌, List, [], ◌++◌, length, take, drop, Option, Some, Ok, Err}
use Rattle.std.proofs.Common.{refl, sym, ap, subst, ◌∙◌, arith, take-add}
use Rattle.std.specs.Prelude.{Result}
use Rattle.std.proofs.lemmas.List.{length-append, length-take, take_all}
use Rattle.store_model.specs.Paths.{Path}
use Rattle.store_model.specs.Pairs.{value_limit, inline_value}
use Rattle.store_base.specs.declared.store_fault.Fault.{Fault}
use Rattle.store_base.specs.Faults.{disk_faults_after}
use Rattle.ordered_pairs.specs.PairsState.{PairsState}
use Rattle.file_blocks.specs.FileCalls.{HasFile, PutsFileBytes, FillsBlocks}
use Rattle.file_blocks.proofs.RunLemmas.{length-overwrite, overwrite-nothing, overwrite-whole, overwrite-overwrite}
use Rattle.file_blocks.proofs.FileLemmas.{on_ok}
use Rattle.file_blocks.proofs.FormLemmas.{stands_in_first}

-- before the first byte nothing is put
pub puts_nothing : (x : Path) (size at : ℕ) (s : PairsState)
    → PutsFileBytes {T = Unit {0}} x size at [] s s (Ok (tt {0}))
puts_nothing x size at s = record {
  faults = refl;
  observable = λ seen. seen;
  written = λ seen first y others h short has. subst (λ (z : List ℕ). HasFile x first z others s.pairs)
      (sym (overwrite-nothing y at)) has;
  added = λ seen. omega arith;
}

-- one piece and then the next
puts_both : {T : Type 0} (x : Path) (size at : ℕ) (a b : List ℕ) (old between new : PairsState)
    (result : Result T Fault) → at + length a ≤ size
    → PutsFileBytes {T = Unit {0}} x size at a old between (Ok (tt {0}))
    → PutsFileBytes x size (at + length a) b between new result → PutsFileBytes x size at (a ++ b) old new result
puts_both x size at a b old between new result within h g = record {
  faults = g.faults ∙ ap (λ n. disk_faults_after n result) h.faults;
  observable = λ seen. g.observable (h.observable seen);
  written = λ seen first y others l short has.
      on_ok result (subst (λ (z : List ℕ). HasFile x first z others new.pairs) (overwrite-overwrite y at a b l))
      (g.written (h.observable seen) first _ others (let e = length-overwrite y at a l in omega arith)
      (let e = length-overwrite y at a l in omega arith) (h.written seen first y others l short has));
  added = λ seen. on_ok result (λ l. let m = h.added seen in let e = length-append a b in omega arith)
      (g.added (h.observable seen));
}

-- the bytes up to a place, and then those up to a later one
pub puts_more : {T : Type 0} (x : Path) (size at place done end : ℕ) (bytes piece : List ℕ)
    (old between new : PairsState) (result : Result T Fault)
    → place ≡ at + done → done ≤ end → done ≤ length bytes → at + length bytes ≤ size
    → piece ≡ take (end - done) (drop done bytes)
    → PutsFileBytes {T = Unit {0}} x size at (take done bytes) old between (Ok (tt {0}))
    → PutsFileBytes x size place piece between new result → PutsFileBytes x size at (take end bytes) old new result
puts_more x size at place done end bytes piece old between new result e l m within is h g =
    let long = length-take done bytes in
    let there : place ≡ at + length (take done bytes) = omega arith in
    let both : take done bytes ++ piece ≡ take end bytes =
    ap (λ z. take done bytes ++ z) is ∙ sym (take-add done (end - done) bytes)
    ∙ ap (λ n. take n bytes) (let f : done + (end - done) ≡ end = omega arith in f) in
    let front : at + length (take done bytes) ≤ size = omega arith in
    subst (λ (z : List ℕ). PutsFileBytes x size at z old new result) both
    (puts_both x size at (take done bytes) piece old between new result front h
    (subst (λ (n : ℕ). PutsFileBytes x size n piece between new result) there g))

-- the bytes up to the end are all
pub puts_all : (x : Path) (size at done : ℕ) (bytes : List ℕ) (old new : PairsState) → length bytes ≤ done
    → PutsFileBytes {T = Unit {0}} x size at (take done bytes) old new (Ok (tt {0}))
    → PutsFileBytes {T = Unit {0}} x size at bytes old new (Ok (tt {0}))
puts_all x size at done bytes old new l h =
    subst (λ (z : List ℕ). PutsFileBytes {T = Unit {0}} x size at z old new (Ok (tt {0}))) (take_all done bytes l) h

-- a fault on the way is the fault of the whole
pub puts_failed : {T S : Type 0} (x : Path) (size at place : ℕ) (a b bytes : List ℕ)
    (old between new : PairsState) (fault : Fault)
    → PutsFileBytes {T = Unit {0}} x size at a old between (Ok (tt {0}))
    → PutsFileBytes {T = T} x size place b between new (Err fault)
    → PutsFileBytes {T = S} x size at bytes old new (Err fault)
puts_failed x size at place a b bytes old between new fault h g = record {
  faults = g.faults ∙ ap (λ n. disk_faults_after {T = Unit {0}} n (Err fault)) h.faults;
  observable = λ seen. tt;
  written = λ seen first y others l short has. tt;
  added = λ seen. tt;
}

-- the bytes of a first pair are put into blocks
pub fills_blocks : {T : Type 0} (x : Path) (first : Option (List ℕ)) (found : List ℕ) (size : ℕ) (old new : PairsState)
    (result : Result T Fault) → length found < value_limit → first ≡ Some (inline_value found)
    → PutsFileBytes x size 0 found old new result → FillsBlocks x first old new result
fills_blocks x first found size old new result fits is h = record {
  faults = h.faults;
  observable = h.observable;
  filled = λ seen inline bytes others stands.
      let form = stands_in_first inline x bytes found first others old.pairs stands is in
      on_ok result (subst (λ (z : List ℕ). HasFile x first z others new.pairs)
      (overwrite-whole [] found (omega arith) ∙ sym form.0))
      (h.written seen first [] others (omega arith) (omega arith) form.1);
  added = λ seen. on_ok result (λ l. omega arith) (h.added seen);
}
