-- What is listed of the part of a tree at a path is what is listed of the tree.
use Rattle.std.proofs.Common.{◌≡◌, ℕ, List, [], ◌∷◌, ◌++◌, Bool, true, false, ◌||◌, ◌&&◌, cond, map}
use Rattle.std.proofs.Common.{Result, Ok, Err, Option, Some, refl, sym, ap, ap₂, subst, ◌∙◌}
use Rattle.std.specs.List.{filter, flat_map}
use Rattle.store_model.specs.Paths.{Path, is_at_or_inside}
use Rattle.store_model.specs.Trees.{Tree, Entry, IsTree, node_at, is_directory_node}
use Rattle.disk_model.specs.DiskState.{DiskState, IsObservable}
use Rattle.script_lines.specs.SinkState.{SinkState}
use Rattle.dump_streams.specs.declared.fault.StreamFault.{StreamFault}
use Rattle.dump_streams.specs.declared.taker.TakerFault.TheVariants as takers
use Rattle.dump_streams.specs.declared.draining.DrainFault.{DrainFault}
use Rattle.dump_streams.specs.declared.draining.DrainFault.TheVariants as drains
use Rattle.image_check.specs.declared.fault.ApplyFault.{ApplyFault}
use Rattle.store_stream.specs.Parts.{bare_directory, is_within, is_above, is_kept, entry_kept, parts_at}
use Rattle.store_stream.proofs.PartTrees.{node_in_part}
use Rattle.dump_views.specs.declared.content.Standing.{Standing}
use Rattle.dump_views.specs.Contents.{standing_of}
use Rattle.entry_lines.specs.declared.form.ListForm.{ListForm}
use Rattle.entry_lines.specs.Entries.{facts_of}
use Rattle.entry_lines.specs.Lines.{entry_text, list_text}
use Rattle.entry_lines.specs.Listings.{Lists, ListsFront}
use Rattle.entry_lines.proofs.ShownLines.{outside}
use Rattle.image_reads.specs.declared.fault.ReadFault.{ReadFault}
use Rattle.image_reads.specs.Faults.{ended_by}
use Rattle.image_reads.specs.Lists.{done_of, standing_in, ListsStore}
use Rattle.image_reads.proofs.Readings.{not_output}

-- ---- the entries

one_within : (b : Bool) → (b || false) ≡ false → b ≡ false
one_within true e = e
one_within false e = refl

module _ (form : ListForm) (q : Path) where
  abbrev text_of : Path × Entry → List ℕ
  text_of e = entry_text form q (facts_of e.0 e.1)

  abbrev kept : Tree → Tree
  kept t = filter (is_kept (q ∷ [])) t

  kept_listed : (t : Tree) → flat_map text_of (map (entry_kept (q ∷ [])) (kept t)) ≡ flat_map text_of t
  kept_listed [] = refl
  kept_listed (e ∷ t) =
      by_test (is_within (q ∷ []) e.0) (is_above (q ∷ []) e.0 && is_directory_node (Some e.1.node)) refl (kept_listed t)
    where
      far : is_within (q ∷ []) e.0 ≡ false → is_at_or_inside e.0 q ≡ false
      far is = one_within (is_at_or_inside e.0 q) is

      as_kept : (w : Bool) → is_within (q ∷ []) e.0 ≡ w
          → flat_map text_of (map (entry_kept (q ∷ [])) (kept t)) ≡ flat_map text_of t
          → flat_map text_of (map (entry_kept (q ∷ [])) (e ∷ kept t))
          ≡ text_of (e.0, cond w e.1 bare_directory) ++ flat_map text_of t
      as_kept w is rest =
          ap₂ (λ (b : Bool) (xs : List ℕ). text_of (e.0, cond b e.1 bare_directory) ++ xs) is rest

      by_test : (w a : Bool) → is_within (q ∷ []) e.0 ≡ w
          → flat_map text_of (map (entry_kept (q ∷ [])) (kept t)) ≡ flat_map text_of t
          → flat_map text_of (map (entry_kept (q ∷ [])) (cond (w || a) (e ∷ kept t) (kept t)))
          ≡ text_of e ++ flat_map text_of t
      by_test true a is rest = as_kept true is rest
      by_test false true is rest = as_kept false is rest
          ∙ ap (λ (xs : List ℕ). xs ++ flat_map text_of t)
          (outside form q e.0 bare_directory (far is) ∙ sym (outside form q e.0 e.1 (far is)))
      by_test false false is rest = rest
          ∙ ap (λ (xs : List ℕ). xs ++ flat_map text_of t) (sym (outside form q e.0 e.1 (far is)))

pub list_in_parts : (form : ListForm) (t : Tree) (q : Path)
    → list_text form q (parts_at t (q ∷ [])) ≡ list_text form q t
unfolding list_text parts_at
list_in_parts form t q = kept_listed form q t

-- ---- what reading the part to its end lists

pub lists : {S : Type 0} (came whole : S → Tree → Type 0) (fails : S → Tree → StreamFault → Type 0) (stream : S)
    (form : ListForm) (path : Path) (disk : DiskState) (t : Tree) (old new : SinkState)
    (listed : Result Standing DrainFault) (fault : Option ApplyFault) (result : Result Standing ReadFault)
    → Lists came whole fails stream form path old new listed
    → ((u : Tree) → whole stream u → IsTree t → IsObservable disk → (u ≡ parts_at t (path ∷ [])) × IsTree u)
    → result ≡ ended_by (done_of listed) fault (standing_in listed) → ListsStore form path disk t old new result
lists came whole fails stream form path disk t old new listed fault result lists_it is_part is =
    subst (λ (r : Result Standing ReadFault). ListsStore form path disk t old new r) (sym is) (by_end listed lists_it)
  where
    by_end : (l : Result Standing DrainFault) → Lists came whole fails stream form path old new l
        → ListsStore form path disk t old new (ended_by (done_of l) fault (standing_in l))
    by_end (Ok standing) it = record {
      faults = it.faults;
      observable = it.observable;
      listed = λ tree seen.
          let same = is_part it.tree it.whole_is tree seen in
          let of_part = it.listed same.1 in
          record {
            standing_is = of_part.standing_is ∙ ap (λ (u : Tree). standing_of (node_at u path)) same.0
                ∙ ap standing_of (node_in_part t path);
            written = λ told. of_part.written told
                ∙ ap (λ (u : Tree). old.written ++ list_text form path u) same.0
                ∙ ap (λ (xs : List ℕ). old.written ++ xs) (list_in_parts form t path);
          };
    }
    by_end (Err (drains.Taker takers.Failed)) it = record { faults = it; observable = tt; listed = λ tree seen. tt }
    by_end (Err (drains.Taker takers.NoMemory)) it = record { faults = it; observable = tt; listed = λ tree seen. tt }
    by_end (Err (drains.Stream cause)) it = record {
      faults = it.faults ∙ sym (not_output fault old.faults);
      observable = tt;
      listed = λ tree seen. tt;
    }

-- where the stream is to blame, what is listed ends before its dump does
pub stopped_by : {S : Type 0} (came whole : S → Tree → Type 0) (fails : S → Tree → StreamFault → Type 0) (stream : S)
    (form : ListForm) (path : Path) (old new : SinkState) (listed : Result Standing DrainFault) (cause : StreamFault)
    → done_of listed ≡ Err (drains.Stream cause) → Lists came whole fails stream form path old new listed
    → ListsFront came whole fails stream old new cause
stopped_by came whole fails stream form path old new (Ok standing) cause is it = absurd cc
stopped_by came whole fails stream form path old new (Err fault) cause is it =
    subst (λ (l : Result Standing DrainFault). Lists came whole fails stream form path old new l)
    (ap Err (let same : fault ≡ drains.Stream cause = cc in same)) it
