-- What was put out of a file whose read was cut off is a front of its bytes.
use Rattle.std.proofs.Common.{◌≡◌, ◌⊎◌, ℕ, List, [], ◌∷◌, ◌++◌, inl, inr, sym, ap, subst, ◌∙◌, append_assoc}
use Rattle.std.specs.List.{flat_map}
use Rattle.std.proofs.lemmas.Grind.{flat_map-append}
use Rattle.std.proofs.lemmas.List.{append-nil}
use Rattle.store_model.specs.Paths.{Path}
use Rattle.store_model.specs.Trees.{Tree, IsTree, contents}
use Rattle.disk_model.specs.DiskState.{DiskState, IsObservable}
use Rattle.script_lines.specs.SinkState.{AppendsPrefix}
use Rattle.dump_streams.specs.Draining.{IsTooLong}
use Rattle.dump_streams.specs.Dumps.{DumpStep, dump}
use Rattle.dump_streams.specs.declared.fault.StreamFault.{StreamFault}
use Rattle.dump_views.specs.Contents.{bytes_at, written_at}
use Rattle.dump_views.proofs.ContentLemmas.{written_contents}
use Rattle.store_core.specs.StoreState.{StoreState}
use Rattle.store_stream.specs.declared.parts.PartsStream.{PartsStream}
use Rattle.store_stream.specs.Parts.{parts_at}
use Rattle.store_stream.specs.PartsStreams.{PartsOf, PartsEndBy, ReadsParts, Tells, parts_of}

-- ---- the bytes of a front of a dump

pub front_written : (p : Path) (v : Tree) (steps rest : List DumpStep) (before after : List ℕ) → IsTree v
    → dump v ≡ steps ++ rest → after ≡ before ++ written_at p steps → AppendsPrefix before after (contents v p)
unfolding written_at
front_written p v steps rest before after tree front is = record {
  part = flat_map (bytes_at p) steps;
  rest = flat_map (bytes_at p) rest;
  is_prefix = sym (written_contents v p tree) ∙ ap (flat_map (bytes_at p)) front
      ∙ flat_map-append (bytes_at p) steps rest;
  appended = is;
}

-- and of a part of the step behind it
pub step_cut : (p : Path) (v : Tree) (steps : List DumpStep) (s : DumpStep) (rest : List DumpStep)
    (before mid after : List ℕ) → IsTree v → dump v ≡ (steps ++ s ∷ []) ++ rest
    → mid ≡ before ++ written_at p steps → AppendsPrefix mid after (bytes_at p s)
    → AppendsPrefix before after (contents v p)
unfolding written_at
step_cut p v steps s rest before mid after tree front mid_is cut = record {
  part = first ++ cut.part;
  rest = cut.rest ++ last;
  is_prefix = sym (written_contents v p tree) ∙ ap (flat_map (bytes_at p)) front
      ∙ flat_map-append (bytes_at p) (steps ++ s ∷ []) rest
      ∙ ap (λ (xs : List ℕ). xs ++ last) (flat_map-append (bytes_at p) steps (s ∷ []))
      ∙ ap (λ (xs : List ℕ). (first ++ xs) ++ last) (append-nil (bytes_at p s) ∙ cut.is_prefix)
      ∙ append_assoc first (cut.part ++ cut.rest) last
      ∙ ap (λ (xs : List ℕ). first ++ xs) (append_assoc cut.part cut.rest last)
      ∙ sym (append_assoc first cut.part (cut.rest ++ last));
  appended = cut.appended ∙ ap (λ (xs : List ℕ). xs ++ cut.part) mid_is ∙ append_assoc before first cut.part;
}
  where
    first : List ℕ
    first = flat_map (bytes_at p) steps

    last : List ℕ
    last = flat_map (bytes_at p) rest

-- ---- what came of a store's parts is a front of their dump

-- the dump of a tree begins with that of another
abbrev pub BeginsWith : Tree → Tree → Type 0
BeginsWith v u = (rest : List DumpStep) × (dump v ≡ dump u ++ rest)

module _ {D : Type 0} (disk_of : D → DiskState) (old new : PartsStream D) (reads : ReadsParts disk_of old new)
    (store : StoreState D) (paths : List Path) (store_is : old.stream.store ≡ store)
    (paths_are : old.parts.paths.now ≡ paths) where
  same_parts : parts_of new ≡ parts_at store.tree paths
  same_parts = ap (λ (t : Tree). parts_at t new.parts.paths.now)
      ((reads.store).tree ∙ ap (λ (s : StoreState D). s.tree) store_is)
      ∙ ap (λ (qs : List Path). parts_at store.tree qs) (reads.paths ∙ paths_are)

  seen_still : IsObservable (disk_of store.disk) → Tells disk_of new
  seen_still seen = (reads.store).kept.observable
      ∙ ap (λ (s : StoreState D). (disk_of s.disk).is_observable) store_is ∙ seen

  pub front_came : (u : Tree) → PartsOf disk_of new u → IsObservable (disk_of store.disk)
      → BeginsWith (parts_at store.tree paths) u
  front_came u came seen =
      let made = (came.stands (seen_still seen)).made in
      subst (λ (v : Tree). BeginsWith v u) same_parts (_, (made.after).dump_is)

  pub front_ended : (u : Tree) (cause : StreamFault)
      → PartsEndBy disk_of new u cause ⊎ IsTooLong (PartsOf disk_of) new u cause → IsObservable (disk_of store.disk)
      → BeginsWith (parts_at store.tree paths) u
  front_ended u cause (inl ends) seen =
      subst (λ (v : Tree). BeginsWith v u) same_parts (ends.front (seen_still seen))
  front_ended u cause (inr long) seen = front_came u long.came_is seen
