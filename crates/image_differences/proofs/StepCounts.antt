-- How many steps there are in the dumps of what is compared.
use Rattle.std.proofs.Common.{◌≡◌, ◌⊎◌, ℕ, suc, ◌+◌, ◌*◌, ◌<◌, ◌≤◌, ◌==◌, Bool, true, false, cond, if◌then◌else◌}
use Rattle.std.proofs.Common.{List, [], ◌∷◌, length, map, Option, inl, inr, refl}
use Rattle.std.proofs.Common.{ap, arith}
use Rattle.std.specs.List.{AllByRecursion, flat_map, enumerate_from}
use Rattle.std.proofs.lemmas.List.{length-append, length-map}
use Rattle.std.proofs.lemmas.List.FromFn.{length-enumerate_from}
use Rattle.store_model.specs.Lists.{runs}
use Rattle.store_model.specs.Paths.{Path, Name}
use Rattle.store_model.specs.Trees.{Tree, Node, Entry, Attributes, IsTree, IsEntry, IsNode}
use Rattle.store_model.specs.Trees.Node.{Directory, File}
use Rattle.store_model.proofs.ListsLemmas.{length-runs}
use Rattle.store_model.proofs.ListsLemmasCuts.{length-filter-le}
use Rattle.dump_streams.specs.Dumps.{DumpStep, dump, dump_piece, entry_steps, node_steps, file_steps, attribute_steps}
use Rattle.dump_streams.specs.Dumps.DumpStep.{Write, Set}
use Rattle.host_builder.specs.declared.attribute.HostAttribute.{HostAttribute}
use Rattle.host_builder.specs.declared.attribute.Wanted.{Wanted}
use Rattle.host_builder.specs.declared.viewed.HostViewStream.{HostViewStream}
use Rattle.host_builder.specs.declared.viewed.Spot.{Spot}
use Rattle.host_builder.specs.declared.viewed.Spot.TheVariants as spots
use Rattle.host_builder.specs.Viewed.{CameOfView, IsWholeView, IsGoing, held_step, settles, flushed, pass}
use Rattle.host_builder.specs.Viewed.{settled, given_of, given, spot_after, spot_by}
use Rattle.host_builder.specs.Views.{folder_has, file_has, link_has, kept, is_link, host_attributes, host_entry}
use Rattle.host_builder.specs.Views.{host_view, is_made, made_part}

-- ---- what the host can have

pub dump_front : (e : Path × Entry) (t : Tree) → length (dump (e ∷ t)) ≡ length (entry_steps e.0 e.1) + length (dump t)
unfolding dump
dump_front e t = length-append (entry_steps e.0 e.1) (flat_map (λ (e : Path × Entry). entry_steps e.0 e.1) t)

pub names_count : (x : Path) (names : Attributes) → length (attribute_steps x names) ≡ length names
unfolding attribute_steps
names_count x names = length-map names (λ (a : Name × List ℕ). Set x a.0 a.1)

kept_few : (has : Option HostAttribute → Bool) (names : Attributes) → length (kept has names) ≤ length names
kept_few has names = length-filter-le _ names

host_few : (wanted : Wanted) (node : Node) (names : Attributes)
    → length (host_attributes wanted node names) ≤ length names
host_few wanted Directory names = kept_few (folder_has wanted) names
host_few wanted (File bytes) names = by_test (is_link wanted (length bytes == 0) names)
  where
    by_test : (b : Bool)
        → length (if b then kept (link_has wanted) names else kept (file_has wanted) names) ≤ length names
    by_test true = kept_few (link_has wanted) names
    by_test false = kept_few (file_has wanted) names

entry_few : (wanted : Wanted) (x : Path) (e : Entry)
    → length (entry_steps x (host_entry wanted e)) ≤ length (entry_steps x e)
entry_few wanted x e =
    let names = host_attributes wanted e.node e.attributes in
    omega (
      arith,
      host_few wanted e.node e.attributes,
      length-append (node_steps x e.node) (attribute_steps x names),
      length-append (node_steps x e.node) (attribute_steps x e.attributes),
      names_count x names,
      names_count x e.attributes,
    )

-- what the host can have of each entry
abbrev each_seen : Wanted → Tree → Tree
each_seen wanted t = map (λ e. (e.0, host_entry wanted e.1)) t

view_few : (wanted : Wanted) (t : Tree) → length (dump (host_view wanted t)) ≤ length (dump t)
view_few wanted [] = omega arith
view_few wanted (e ∷ t) = by_test (is_made wanted e) (view_few wanted t)
  where
    by_test : (b : Bool) → length (dump (each_seen wanted (made_part wanted t))) ≤ length (dump t)
        → length (dump (each_seen wanted (cond b (e ∷ made_part wanted t) (made_part wanted t))))
        ≤ length (dump (e ∷ t))
    by_test true rest = omega (
      arith,
      rest,
      dump_front e t,
      dump_front (e.0, host_entry wanted e.1) (each_seen wanted (made_part wanted t)),
      entry_few wanted e.0 e.1,
    )
    by_test false rest = omega (arith, rest, dump_front e t)

-- ---- what is given of steps

held_few : (spot : Spot) → length (held_step spot) ≤ 1
held_few spots.Nothing = omega arith
held_few spots.Folder = omega arith
held_few (spots.File is_empty) = omega arith
held_few (spots.Held path) = omega arith

flushed_few : (wanted : Wanted) (spot : Spot) (s : DumpStep) → length (flushed wanted spot s) ≤ 1
flushed_few wanted spot s = by_test (settles wanted spot s)
  where
    by_test : (b : Bool) → length (if b then held_step spot else []) ≤ 1
    by_test true = held_few spot
    by_test false = omega arith

step_few : (b : Bool) (s : DumpStep) → length (if b then s ∷ [] else []) ≤ 1
step_few true s = omega arith
step_few false s = omega arith

given_one : (wanted : Wanted) (spot : Spot) (s : DumpStep) → length (given_of wanted spot s) ≤ 2
given_one wanted spot s =
    let b = (pass wanted (settled wanted spot s) s).1 in
    omega (
      arith,
      flushed_few wanted spot s,
      step_few b s,
      length-append (flushed wanted spot s) (if b then s ∷ [] else []),
    )

given_few : (wanted : Wanted) (spot : Spot) (cs : List DumpStep) → length (given wanted spot cs) ≤ 2 * length cs
given_few wanted spot [] = omega arith
given_few wanted spot (s ∷ cs) =
    let next = spot_after wanted spot s in
    omega (
      arith,
      given_few wanted next cs,
      given_one wanted spot s,
      length-append (given_of wanted spot s) (given wanted next cs),
    )

module _ {S : Type 0} (stream : HostViewStream S) (all front : List DumpStep) (t : Tree)
    (going : IsGoing stream all front t) where
  going_few : (b : Bool) → stream.is_at_hand ≡ b → length (dump t) ≤ 2 * length all + 1
  going_few true is =
      let hand = going.hand is in
      let spot = spot_by stream.wanted spots.Nothing front in
      omega (
        arith,
        ap (λ (cs : List DumpStep). length cs) hand.all_is,
        length-append front (stream.step ∷ []),
        ap (λ (cs : List DumpStep). length cs) hand.given_is,
        length-append (given stream.wanted spots.Nothing front) (flushed stream.wanted spot stream.step),
        given_few stream.wanted spots.Nothing front,
        flushed_few stream.wanted spot stream.step,
      )
  going_few false is =
      let behind = going.none is in
      omega (
        arith,
        ap (λ (cs : List DumpStep). length cs) behind.all_is,
        ap (λ (cs : List DumpStep). length cs) behind.given_is,
        given_few stream.wanted spots.Nothing front,
      )

-- so many at most, where the other stream gave fewer than that
module _ {S : Type 0} (came whole : S → Tree → Type 0) (stream : HostViewStream S) (most : ℕ)
    (few : (t : Tree) → IsTree t → came stream.stream t ⊎ whole stream.stream t → length (dump t) < most) where
  whole_few : (t : Tree) → IsWholeView whole stream t → length (dump t) < 2 * most
  whole_few t is =
      let inner = few is.tree is.is_tree (inr is.whole_is) in
      omega (
        arith,
        inner,
        view_few stream.wanted is.tree,
        ap (λ (u : Tree). length (dump u)) is.view_is,
      )

  pub seen_few : (t : Tree) → CameOfView came whole stream t ⊎ IsWholeView whole stream t → length (dump t) < 2 * most
  seen_few t (inr is) = whole_few t is
  seen_few t (inl is) = by_end stream.is_ended refl
    where
      by_end : (b : Bool) → stream.is_ended ≡ b → length (dump t) < 2 * most
      by_end true e = whole_few t (is.ended e).0
      by_end false e =
          let viewing = is.going e in
          let inner = few viewing.tree viewing.is_tree (inl viewing.came_is) in
          let all = going_few stream (dump viewing.tree) viewing.front t viewing.going stream.is_at_hand refl in
          omega (arith, inner, all)

-- ---- the entries of a folder

-- a folder or a file has two attributes, and a link one
abbrev pub AreFew : Tree → Type 0
AreFew t = AllByRecursion (λ e. length e.1.attributes ≤ 2) t

file_few : (x : Path) (bytes : List ℕ) → length (file_steps x bytes) ≤ suc (length bytes)
unfolding file_steps
file_few x [] = omega arith
file_few x (b ∷ bytes) =
    let pieces = enumerate_from 0 (runs dump_piece (b ∷ bytes)) in
    let mapped = length-map pieces (λ (piece : ℕ × List ℕ). Write x (dump_piece * piece.0) piece.1) in
    let counted = length-enumerate_from 0 (runs dump_piece (b ∷ bytes)) in
    let cut = length-runs dump_piece (b ∷ bytes) in
    omega (arith, mapped, counted, cut)

node_few : (x : Path) (node : Node) → IsNode node → length (node_steps x node) ≤ 16777217
node_few x Directory is = omega arith
node_few x (File bytes) is = let some = file_few x bytes in let few = is.0 in omega (arith, some, few)

pub tree_few : (t u : Tree) → AllByRecursion (IsEntry u) t → AreFew t → length (dump t) ≤ 16777219 * length t
unfolding dump
tree_few [] u are few = omega arith
tree_few (e ∷ t) u are few = omega (
  arith,
  tree_few t u are.1 few.1,
  dump_front e t,
  length-append (node_steps e.0 e.1.node) (attribute_steps e.0 e.1.attributes),
  names_count e.0 e.1.attributes,
  node_few e.0 e.1.node (are.0).node,
  few.0,
)
