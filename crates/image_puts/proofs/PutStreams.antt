-- The changes of a put, as the source's steps come.
use Rattle.std.proofs.Common.{◌≡◌, inl, inr, List, [], ◌∷◌, ◌++◌, Bool, true, false}
use Rattle.std.proofs.Common.{Some, IsTrue, refl, sym, ap, subst, ◌∙◌, append_assoc}
use Rattle.std.specs.List.{AllByRecursion}
use Rattle.std.proofs.lemmas.List.{append-nil}
use Rattle.store_model.specs.declared.draw_kind.DrawKind.TheVariants.{Ruler}
use Rattle.store_model.specs.declared.version.Version.TheVariants.{Two}
use Rattle.store_model.specs.Parameters.{Parameters, with_version}
use Rattle.std.specs.FinMap.{find}
use Rattle.store_model.specs.Paths.{Path, is_path, path_cmp}
use Rattle.store_model.specs.Trees.{Tree, Entry, IsTree, empty_tree, node_of}
use Rattle.store_model.specs.Trees.{is_directory_node}
use Rattle.store_model.specs.Trees.Node.{Directory, File}
use Rattle.store_model.specs.Pages.{IsTreeUnder}
use Rattle.store_model.proofs.ListsLemmas.{all_append}
use Rattle.store_model.proofs.TreesLemmas.{node_at-find}
use Rattle.tree_pairs.specs.Seen.{bare_entry}
use Rattle.tree_pairs.proofs.ReaderNextLemmas.{find_at_last}
use Rattle.dump_streams.specs.Dumps.{DumpStep, after_step, dump, step_path}
use Rattle.dump_streams.specs.Dumps.DumpStep.{Make, Write, Set}
use Rattle.dump_streams.specs.Streams.{Extends}
use Rattle.dump_streams.proofs.NextTrees.{IsNext, named_entry, tree_of_make, tree_of_first, later_leads, name_leads}
use Rattle.dump_streams.proofs.NextTrees.{last_stands}
use Rattle.dump_streams.proofs.Chains.{Chain, dump_chain}
use Rattle.dump_streams.proofs.DumpFronts.{next_of_goes_on}
use Rattle.tree_changes.specs.Folders.{making_parents_steps}
use Rattle.tree_changes.specs.Puts.{put_step, put_steps, put_changes, HasRoomBelow}
use Rattle.image_puts.specs.PutChanges.{EndsIn, kind_after, KnowsKind}

pub some_parameters : Parameters
some_parameters = record { slots = 1; height = 1; kind = Ruler; seed = []; version = Two }

-- the same parameters, under which paths have attributes
abbrev two : Parameters → Parameters
two p = with_version p Two

under_two : (p : Parameters) (u : Tree) → IsTree u → IsTreeUnder u (two p)
under_two p u is = record { is_tree = is; bare = λ lacks. cc }

next_in : (p : Parameters) (u : Tree) (s : DumpStep) → IsTree u → Extends u s → IsNext u (two p) s
next_in p u s is extends = next_of_goes_on u s (two p) (under_two p u is) (record {
  under = under_two p (after_step u s) extends.is_tree;
  dump_is = extends.dump_is;
})

-- ---- all changes, with those of one step more

module _ (replaces : Bool) (to : Path) (fresh : List Path) where
  steps_append : (p : Parameters) (first behind : List DumpStep) (v u : Tree) → Chain v first u p
      → put_steps replaces to fresh v (first ++ behind)
      ≡ put_steps replaces to fresh v first ++ put_steps replaces to fresh u behind
  unfolding put_steps
  steps_append p [] behind v u same = ap (λ (w : Tree). put_steps replaces to fresh w behind) same
  steps_append p (s ∷ first) behind v u chain =
      ap (λ gs. put_step replaces to fresh v s ++ gs) (steps_append p first behind (after_step v s) u chain.1)
      ∙ sym (append_assoc (put_step replaces to fresh v s) (put_steps replaces to fresh (after_step v s) first)
      (put_steps replaces to fresh u behind))

  one_step : (u : Tree) (s : DumpStep) → put_steps replaces to fresh u (s ∷ []) ≡ put_step replaces to fresh u s
  unfolding put_steps
  one_step u s = append-nil (put_step replaces to fresh u s)

  pub changes_more : (p : Parameters) (u : Tree) (s : DumpStep) → IsTree u → Extends u s
      → put_changes replaces to fresh (after_step u s)
      ≡ put_changes replaces to fresh u ++ put_step replaces to fresh u s
  changes_more p u s is extends =
      ap (λ steps. making_parents_steps (to ∷ []) ++ put_steps replaces to fresh empty_tree steps) extends.dump_is
      ∙ ap (λ gs. making_parents_steps (to ∷ []) ++ gs)
      (steps_append (two p) (dump u) (s ∷ []) empty_tree u (dump_chain u (two p) (under_two p u is))
      ∙ ap (λ gs. put_steps replaces to fresh empty_tree (dump u) ++ gs) (one_step u s))
      ∙ sym (append_assoc (making_parents_steps (to ∷ [])) (put_steps replaces to fresh empty_tree (dump u))
      (put_step replaces to fresh u s))

  pub no_steps : put_changes replaces to fresh empty_tree ≡ making_parents_steps (to ∷ [])
  unfolding dump put_steps
  no_steps = append-nil (making_parents_steps (to ∷ []))

-- each path has room, with one step more
pub room_more : (to : Path) (u : Tree) (s : DumpStep) → Extends u s → HasRoomBelow to u
    → IsTrue (is_path (to ++ step_path s)) → HasRoomBelow to (after_step u s)
room_more to u s extends room path = subst (λ steps. AllByRecursion (λ x. IsTrue (is_path (to ++ step_path x))) steps)
    (sym extends.dump_is) (all_append (λ x. IsTrue (is_path (to ++ step_path x))) (dump u) (s ∷ []) room (path, tt))

pub no_room_needed : (to : Path) → HasRoomBelow to empty_tree
unfolding dump
no_room_needed to = tt

-- ---- whether the last path is a directory

last_same : (one other : Tree) (x y : Path) (e f : Entry) → one ++ (x, e) ∷ [] ≡ other ++ (y, f) ∷ [] → e ≡ f
last_same [] [] x y e f is =
    let same : ◌≡◌ {A = Path × Entry} (x, e) (y, f) = cc in ap (λ (pair : Path × Entry). pair.1) same
last_same [] (d ∷ []) x y e f is = cc
last_same [] (d ∷ g ∷ other) x y e f is = cc
last_same (c ∷ []) [] x y e f is = cc
last_same (c ∷ g ∷ one) [] x y e f is = cc
last_same (c ∷ one) (d ∷ other) x y e f is =
    let rest : one ++ (x, e) ∷ [] ≡ other ++ (y, f) ∷ [] = cc in last_same one other x y e f rest

ends_so : (u before : Tree) (x : Path) (e : Entry) (is : Bool) → u ≡ before ++ (x, e) ∷ []
    → is ≡ is_directory_node (Some e.node) → EndsIn u is
ends_so u before x e is split kind other y f same =
    kind ∙ ap (λ (g : Entry). is_directory_node (Some g.node)) (last_same before other x y e f (sym split ∙ same))

pub nothing_ends : (is : Bool) → EndsIn empty_tree is
nothing_ends is [] x e same = cc
nothing_ends is (d ∷ before) x e same = cc

pub ends_after : (p : Parameters) (u : Tree) (s : DumpStep) (is : Bool) → IsTree u → Extends u s → EndsIn u is
    → EndsIn (after_step u s) (kind_after s is)
ends_after p u s is tree extends ends = by s (next_in p u s tree extends)
  where
    by : (x : DumpStep) → IsNext u (two p) x → EndsIn (after_step u x) (kind_after x is)
    by (Make y) next = ends_so _ u y (bare_entry Directory) true (tree_of_make u y next) refl
    by (Write y at bytes) (inl first) = ends_so _ u y (bare_entry (File bytes)) false
        (ap (λ i. after_step u (Write y i bytes)) first.at_is ∙ tree_of_first u y bytes first.next) refl
    by (Write y at bytes) (inr later) = ends_so _ later.before y (bare_entry (File (later.content ++ bytes))) false
        (later_leads u y at bytes later tree) refl
    by (Set y name bytes) later = ends_so _ later.before y
        (named_entry later.node (later.attributes ++ (name, bytes) ∷ [])) is (name_leads u
        (two p) y name bytes later tree)
        (ends later.before y (named_entry later.node later.attributes) later.entries_are)

pub knows_kind : (p : Parameters) (u : Tree) (s : DumpStep) (is : Bool) → IsTree u → Extends u s → EndsIn u is
    → KnowsKind u s is
knows_kind p u s is tree extends ends = by s (next_in p u s tree extends)
  where
    by : (x : DumpStep) → IsNext u (two p) x → KnowsKind u x is
    by (Make y) next = tt
    by (Write y at bytes) next = tt
    by (Set y name bytes) later =
        let old : Entry = named_entry later.node later.attributes in
        let next = last_stands u later.before y old tree later.entries_are in
        ap is_directory_node (node_at-find u y next.below_root
        ∙ ap node_of (ap (find path_cmp y) later.entries_are ∙ find_at_last y old later.before next.behind))
        ∙ sym (ends later.before y old later.entries_are)
