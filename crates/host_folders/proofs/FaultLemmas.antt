-- Why a stream of a folder ends before its dump does.
use Rattle.std.proofs.Common.{◌≡◌, ℕ, zero, suc, ◌+◌, false, List, [], ◌∷◌, ◌++◌, length, take}
use Rattle.std.proofs.Common.{Some, Result, Ok, Err, refl, sym, ap, ap₂, subst, ◌∙◌, arith}
use Rattle.std.specs.Prelude.{IfErr, IsErrAnd}
use Rattle.std.specs.List.{Contains, slice_get}
use Rattle.std.proofs.lemmas.Option.{slice_get_within, get_or_from_slice_get}
use Rattle.dump_streams.specs.Dumps.{DumpStep}
use Rattle.dump_streams.specs.Dumps.DumpStep.{Write, Set}
use Rattle.store_model.specs.Paths.{Name, Path}
use Rattle.store_model.specs.Trees.{Tree}
use Rattle.dump_streams.specs.Reading.{AddsStep}
use Rattle.dump_streams.specs.declared.reader.ListingReader.{ListingReader}
use Rattle.dump_streams.specs.declared.fault.StreamFault.{StreamFault}
use Rattle.dump_streams.specs.declared.fault.StreamFault.TheVariants as faults
use Rattle.store_model.specs.Trees.{Attributes}
use Rattle.host_folders.specs.FolderState.{FolderState}
use Rattle.host_folders.specs.Packed.{CameOf, IsSoFar, IsFile, WritesFor, AsksFor, AsksTooMuch, EndsBy}
use Rattle.host_folders.specs.Packed.{attributes_there, found_at}
use Rattle.host_folders.specs.declared.found.Found.{Found}
use Rattle.host_folders.specs.declared.found.FoundKind.{FoundKind}
use Rattle.host_folders.specs.declared.found.FoundKind.TheVariants as kinds
use Rattle.host_folders.specs.declared.stream.FolderStream.{FolderStream}
use Rattle.host_folders.specs.declared.stream.Place.{Place}
use Rattle.host_folders.specs.declared.stream.Place.TheVariants as places
use Rattle.host_folders.proofs.StepLemmas.{IsBegun}

-- an error says what its cause says
pub err_of : {T E : Type 0} (result : Result T E) (cause : E) (P : E → Type 0) → IsErrAnd result (λ e. e ≡ cause)
    → P cause → IfErr result P
err_of (Ok x) cause P told holds = tt
err_of (Err e) cause P told holds = subst P (sym told) holds

-- the entry behind those that were begun
here_is : {X : Type 0} (xs : List X) (n : ℕ) (x : X) → take (suc n) xs ≡ take n xs ++ x ∷ [] → slice_get xs n ≡ Some x
here_is [] zero x e = let counts : 0 ≡ 1 = ap length e in absurd (omega (arith, counts))
here_is [] (suc n) x e = let counts : 0 ≡ 1 = ap length e in absurd (omega (arith, counts))
here_is (y ∷ ys) zero x e = let head : y ≡ x = cc in ap Some head
here_is (y ∷ ys) (suc n) x e = let tail : take (suc n) ys ≡ take n ys ++ x ∷ [] = cc in here_is ys n x tail

-- what stands at an index stands in the list
pub stands_in : {X : Type 0} (xs : List X) (n : ℕ) (x : X) → slice_get xs n ≡ Some x → Contains xs x
stands_in xs n x here = (n, slice_get_within xs n x here, get_or_from_slice_get xs n x x here)

-- a step that sets an attribute
pub set_of : {path : Path} {name other : Name} {bytes held : List ℕ} {step : DumpStep} → other ≡ name → held ≡ bytes
    → step ≡ Set path other held → step ≡ Set path name bytes
set_of {path} names same set = set ∙ ap₂ (λ (n : Name) (b : List ℕ). Set path n b) names same

-- the one element of a list
pub only_one : (x : Name × List ℕ) → Contains (x ∷ []) x
only_one x = (0, omega arith, refl)

-- what writes a piece of a file its entry asks for
pub asks_piece : (found : Found) (attributes : Attributes) (c : DumpStep) (at : ℕ) (bytes : List ℕ)
    → c ≡ Write found.path at bytes → IsFile found.kind → AsksFor found attributes c
asks_piece found attributes c at bytes step kind = subst (λ (d : DumpStep). AsksFor found attributes d) (sym step)
    (refl, subst (λ (k : FoundKind). WritesFor k bytes) (sym kind.1) tt)

-- and so does what writes the empty file of a link
pub asks_link : (found : Found) (attributes : Attributes) (c : DumpStep) → c ≡ Write found.path 0 []
    → found.kind ≡ kinds.Link → AsksFor found attributes c
asks_link found attributes c step kind = subst (λ (d : DumpStep). AsksFor found attributes d) (sym step)
    (refl, subst (λ (k : FoundKind). WritesFor k []) (sym kind) refl)

module _ {F : Type 0} (state_of : F → FolderState) where
  -- the entry that is begun
  pub begun_here : (old : FolderStream F) (found : Found) → IsBegun state_of old found
      → found_at old.place old.at old.found.items ≡ Some found
  begun_here old found begins =
      let behind : old.at + 1 ≡ suc old.at = omega arith in
      ap (λ (p : Place). found_at p old.at old.found.items) begins.start
      ∙ here_is old.found.items old.at found
      (subst (λ n. take n old.found.items ≡ take old.at old.found.items ++ found ∷ []) behind begins.here)

  -- the kind of what is read
  pub read_kind : (old : FolderStream F) (found : Found) (at : ℕ) (t : Tree) → old.place ≡ places.Piece found at
      → CameOf state_of old t → IsFile found.kind
  read_kind old found at t place was =
      (subst (λ (p : Place). IsSoFar p (take old.at old.found.items) was.whole t) place was.so_far).2

  -- the reader refused the step
  pub ends_so : (old new : FolderStream F) (t : Tree) (found : Found) (c : DumpStep) (reader : ListingReader)
      (fault : StreamFault) → fault ≡ faults.NoDump → CameOf state_of old t → AddsStep old.reader reader c false
      → found_at new.place new.at new.found.items ≡ Some found → AsksFor found (attributes_there new.place) c
      → (state_of new.folder).faults ≡ (state_of new.first.value).faults → EndsBy state_of new t fault
  ends_so old new t found c reader fault told was adds here asks calm =
      let too_much : AsksTooMuch new t = record {
        found = found;
        here = here;
        step = c;
        asks = asks;
        breaks_off = λ p two. adds.refused t p (was.read p two);
      } in
      subst (λ (f : StreamFault). EndsBy state_of new t f) (sym told) (too_much, calm)

  -- the folder is as good as it was, also once the reader saw a step
  pub calm_behind : (mid new : FolderStream F) (reader : ListingReader) → new ≡ record mid { reader = reader }
      → (state_of mid.folder).faults ≡ (state_of mid.first.value).faults
      → (state_of new.folder).faults ≡ (state_of new.first.value).faults
  calm_behind mid new reader same calm =
      subst (λ (s : FolderStream F). (state_of s.folder).faults ≡ (state_of s.first.value).faults) (sym same) calm
