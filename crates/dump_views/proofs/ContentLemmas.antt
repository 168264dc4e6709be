-- What a dump says of one path.
use Rattle.std.proofs.Common.{◌≡◌, ℕ, ◌+◌, ◌*◌, List, [], ◌∷◌, ◌++◌, map, fold, Bool, true, false, cond, IsTrue, Option}
use Rattle.std.proofs.Common.{Some, None, Result, Ok, Err, OnOk, IfErr, refl, subst, sym, ◌∙◌, ap, arith, Less}
use Rattle.std.proofs.Common.{append_assoc}
use Rattle.std.specs.List.{flat_map, enumerate_from, AllByRecursion}
use Rattle.std.specs.List.Sorted.{IsStrictlySortedBy}
use Rattle.std.specs.FinMap.{find}
use Rattle.std.proofs.lemmas.Grind.{flat_map-append}
use Rattle.std.proofs.lemmas.List.{append-nil}
use Rattle.std.proofs.lemmas.List.Sums.{fold-append}
use Rattle.store_model.specs.Lists.{runs}
use Rattle.store_model.specs.Paths.{Path, is_root, path_cmp, same_path}
use Rattle.store_model.specs.Trees.{Tree, Node, Entry, Attributes, IsTree, node_of, node_at, contents_of, contents}
use Rattle.store_model.specs.Trees.{empty_tree}
use Rattle.store_model.specs.Trees.Node.{Directory, File}
use Rattle.dump_streams.specs.Dumps.{DumpStep}
use Rattle.dump_streams.specs.Dumps.DumpStep.{Write}
use Rattle.store_model.proofs.ListsLemmas.{rising_from_is_sorted, all_weaker}
use Rattle.store_model.proofs.ListsLemmasCuts.{flat_map-runs}
use Rattle.store_model.proofs.TreesLemmasPaths.{same_from_test}
use Rattle.store_model.proofs.TreesLemmasFewer.{find_below_all}
use Rattle.dump_streams.specs.Dumps.{dump, dump_piece, file_steps, node_steps, attribute_steps, entry_steps}
use Rattle.dump_views.specs.declared.content.Standing.{Standing}
use Rattle.dump_views.specs.declared.content.Standing.TheVariants as standings
use Rattle.script_lines.specs.SinkState.{SinkState}
use Rattle.dump_views.specs.declared.content.ContentTaker.{ContentTaker}
use Rattle.dump_views.specs.Contents.{bytes_at, written_at, standing_by, standing_after, standing_of, TakesOne}
use Rattle.dump_views.specs.Contents.{TookContents, BreaksOne}
use Rattle.dump_streams.specs.declared.taker.TakerFault.{TakerFault}
use Rattle.dump_streams.specs.declared.taker.TakerFault.TheVariants as faults

-- ---- the bytes that are written

joined : (b : Bool) (xs ys : List ℕ) → cond b xs [] ++ cond b ys [] ≡ cond b (xs ++ ys) []
joined true xs ys = refl
joined false xs ys = refl

nothing : (b : Bool) → [] ≡ cond b (let none : List ℕ = [] in none) []
nothing true = refl
nothing false = refl

written_pieces : (p q : Path) (n : ℕ) (rs : List (List ℕ))
    → flat_map (bytes_at p) (map (λ piece. Write q (dump_piece * piece.0) piece.1) (enumerate_from n rs))
    ≡ cond (same_path p q) (flat_map (λ r. r) rs) []
written_pieces p q n [] = nothing (same_path p q)
written_pieces p q n (r ∷ rs) =
    ap (λ (xs : List ℕ). cond (same_path p q) r [] ++ xs) (written_pieces p q (n + 1) rs)
    ∙ joined (same_path p q) r (flat_map (λ r. r) rs)

written_file : (p q : Path) (bytes : List ℕ)
    → flat_map (bytes_at p) (file_steps q bytes) ≡ cond (same_path p q) bytes []
unfolding file_steps
written_file p q [] = append-nil (cond (same_path p q) [] [])
written_file p q (b ∷ bytes) = written_pieces p q 0 (runs dump_piece (b ∷ bytes))
    ∙ ap (λ (xs : List ℕ). cond (same_path p q) xs []) (flat_map-runs dump_piece (b ∷ bytes) (omega arith))

written_node : (p q : Path) (node : Node) → flat_map (bytes_at p) (node_steps q node)
    ≡ cond (same_path p q) (contents_of (Some node)) []
written_node p q Directory = nothing (same_path p q)
written_node p q (File bytes) = written_file p q bytes

written_attributes : (p q : Path) (attributes : Attributes)
    → flat_map (bytes_at p) (attribute_steps q attributes) ≡ []
unfolding attribute_steps
written_attributes p q [] = refl
written_attributes p q (a ∷ attributes) = written_attributes p q attributes

written_entry : (p q : Path) (e : Entry) → flat_map (bytes_at p) (entry_steps q e)
    ≡ cond (same_path p q) (contents_of (Some e.node)) []
written_entry p q e =
    flat_map-append (bytes_at p) (node_steps q e.node) (attribute_steps q e.attributes)
    ∙ ap (λ (xs : List ℕ). flat_map (bytes_at p) (node_steps q e.node) ++ xs) (written_attributes p q e.attributes)
    ∙ append-nil (flat_map (bytes_at p) (node_steps q e.node)) ∙ written_node p q e.node

-- what stands behind an entry at the path is not at it
none_behind : (p : Path) (e : Path × Entry) (t : Tree) → same_path p e.0 ≡ true
    → AllByRecursion (λ f. path_cmp e.0 f.0 ≡ Less) t → find path_cmp p t ≡ None
none_behind p e t here behind = ap (λ (q : Path). find path_cmp q t) (same_from_test p e.0 here)
    ∙ find_below_all path_cmp e.0 t behind

written_tree : (p : Path) (t : Tree) → IsStrictlySortedBy (λ a b. path_cmp a.0 b.0) t
    → flat_map (bytes_at p) (dump t) ≡ contents_of (node_of (find path_cmp p t))
unfolding dump IsStrictlySortedBy
written_tree p [] rising = refl
written_tree p (e ∷ t) rising =
    flat_map-append (bytes_at p) (entry_steps e.0 e.1) (dump t)
    ∙ ap (λ (xs : List ℕ). xs ++ flat_map (bytes_at p) (dump t)) (written_entry p e.0 e.1)
    ∙ ap (λ (xs : List ℕ). cond (same_path p e.0) (contents_of (Some e.1.node)) [] ++ xs) (written_tree p t rising.1)
    ∙ by_test (same_path p e.0) refl
  where
    by_test : (b : Bool) → same_path p e.0 ≡ b
        → cond b (contents_of (Some e.1.node)) [] ++ contents_of (node_of (find path_cmp p t))
        ≡ contents_of (node_of (cond b (Some e.1) (find path_cmp p t)))
    by_test true here = ap (λ (o : Option Entry). contents_of (Some e.1.node) ++ contents_of (node_of o))
        (none_behind p e t here rising.0) ∙ append-nil (contents_of (Some e.1.node))
    by_test false here = refl

written_found : (p : Path) (t : Tree) → IsTree t → written_at p (dump t) ≡ contents_of (node_of (find path_cmp p t))
unfolding written_at
written_found p t tree = written_tree p t (rising_from_is_sorted path_cmp t tree.sorted)

-- the root is no entry
root_missing : (es : Tree) → AllByRecursion (λ e. is_root e.0 ≡ false) es → find path_cmp [] es ≡ None
root_missing [] h = refl
root_missing (([], e) ∷ es) h = let no : true ≡ false = h.0 in cc
root_missing ((n ∷ q, e) ∷ es) h = root_missing es h.1

no_root : (t : Tree) → IsTree t → find path_cmp [] t ≡ None
no_root t tree = root_missing t (all_weaker _ _ (λ e h. h.below_root) t tree.entries)

-- the bytes that a dump writes at a path are those of the file there
pub written_contents : (t : Tree) (p : Path) → IsTree t → written_at p (dump t) ≡ contents t p
written_contents t [] tree = written_found [] t tree
    ∙ ap (λ (o : Option Entry). contents_of (node_of o)) (no_root t tree)
written_contents t (n ∷ p) tree = written_found (n ∷ p) t tree

-- ---- what stands at the path

-- what stands there, where a tree has this entry at the path
abbrev stands : Standing → Option Entry → Standing
stands before None = before
stands before (Some e) = standing_of (Some e.node)

stays_file : (p q : Path) (n : ℕ) (rs : List (List ℕ)) (s : Standing)
    → fold (standing_by p) (cond (same_path p q) standings.File s)
    (map (λ piece. Write q (dump_piece * piece.0) piece.1) (enumerate_from n rs))
    ≡ cond (same_path p q) standings.File s
stays_file p q n [] s = refl
stays_file p q n (r ∷ rs) s =
    ap (λ (x : Standing). fold (standing_by p) x
    (map (λ piece. Write q (dump_piece * piece.0) piece.1) (enumerate_from (n + 1) rs))) (twice (same_path p q))
    ∙ stays_file p q (n + 1) rs s
  where
    twice : (b : Bool) → cond b standings.File (cond b standings.File s) ≡ cond b standings.File s
    twice true = refl
    twice false = refl

stands_pieces : (p q : Path) (b : ℕ) (bytes : List ℕ) (rs : List (List ℕ)) (s : Standing)
    → flat_map (λ r. r) rs ≡ b ∷ bytes
    → fold (standing_by p) s (map (λ piece. Write q (dump_piece * piece.0) piece.1) (enumerate_from 0 rs))
    ≡ cond (same_path p q) standings.File s
stands_pieces p q b bytes [] s some = cc
stands_pieces p q b bytes (r ∷ rs) s some = stays_file p q 1 rs s

stands_node : (p q : Path) (node : Node) (s : Standing)
    → fold (standing_by p) s (node_steps q node) ≡ cond (same_path p q) (standing_of (Some node)) s
unfolding file_steps
stands_node p q Directory s = refl
stands_node p q (File []) s = refl
stands_node p q (File (b ∷ bytes)) s =
    stands_pieces p q b bytes (runs dump_piece (b ∷ bytes)) s (flat_map-runs dump_piece (b ∷ bytes) (omega arith))

stands_attributes : (p q : Path) (attributes : Attributes) (s : Standing)
    → fold (standing_by p) s (attribute_steps q attributes) ≡ s
unfolding attribute_steps
stands_attributes p q [] s = refl
stands_attributes p q (a ∷ attributes) s = stands_attributes p q attributes s

stands_entry : (p q : Path) (e : Entry) (s : Standing)
    → fold (standing_by p) s (entry_steps q e) ≡ cond (same_path p q) (standing_of (Some e.node)) s
stands_entry p q e s =
    fold-append (standing_by p) s (node_steps q e.node) (attribute_steps q e.attributes)
    ∙ stands_attributes p q e.attributes (fold (standing_by p) s (node_steps q e.node)) ∙ stands_node p q e.node s

stands_tree : (p : Path) (t : Tree) (s : Standing) → IsStrictlySortedBy (λ a b. path_cmp a.0 b.0) t
    → fold (standing_by p) s (dump t) ≡ stands s (find path_cmp p t)
unfolding dump IsStrictlySortedBy
stands_tree p [] s rising = refl
stands_tree p (e ∷ t) s rising =
    fold-append (standing_by p) s (entry_steps e.0 e.1) (dump t)
    ∙ ap (λ (x : Standing). fold (standing_by p) x (dump t)) (stands_entry p e.0 e.1 s)
    ∙ stands_tree p t (cond (same_path p e.0) (standing_of (Some e.1.node)) s) rising.1
    ∙ by_test (same_path p e.0) refl
  where
    by_test : (b : Bool) → same_path p e.0 ≡ b → stands (cond b (standing_of (Some e.1.node)) s) (find path_cmp p t)
        ≡ stands s (cond b (Some e.1) (find path_cmp p t))
    by_test true here = ap (stands (standing_of (Some e.1.node))) (none_behind p e t here rising.0)
    by_test false here = refl

stands_found : (p : Path) (t : Tree) (s : Standing) → IsTree t
    → standing_after p s (dump t) ≡ stands s (find path_cmp p t)
unfolding standing_after
stands_found p t s tree = stands_tree p t s (rising_from_is_sorted path_cmp t tree.sorted)

-- a dump tells what stands at a path
pub standing_told : (t : Tree) (p : Path) → IsTree t
    → standing_after p (standing_of (node_at empty_tree p)) (dump t) ≡ standing_of (node_at t p)
standing_told t [] tree = stands_found [] t standings.Directory tree ∙ ap (stands standings.Directory) (no_root t tree)
standing_told t (n ∷ p) tree = stands_found (n ∷ p) t standings.Nothing tree ∙ by_found (find path_cmp (n ∷ p) t)
  where
    by_found : (o : Option Entry) → stands standings.Nothing o ≡ standing_of (node_of o)
    by_found None = refl
    by_found (Some e) = refl

-- ---- what a taker did

module _ {W : Type 0} (sink_of : W → SinkState) where
  -- no step was taken
  pub took_none : (taker : ContentTaker W) → TookContents sink_of taker taker []
  unfolding written_at standing_after
  took_none taker = record {
    path = refl;
    standing = refl;
    observable = refl;
    faults = refl;
    written = λ _. sym (append-nil (sink_of taker.sink).written);
  }

  -- one more step was taken
  took_more : {T E : Type 0} (first old new : ContentTaker W) (steps : List DumpStep) (c : DumpStep) (value : T)
      → TookContents sink_of first old steps → TakesOne {E = E} sink_of old new c (Ok value)
      → TookContents sink_of first new (steps ++ c ∷ [])
  unfolding written_at standing_after
  took_more first old new steps c value took one = record {
    path = one.path ∙ took.path;
    standing = one.standing ∙ ap (λ (p : Path). standing_by p old.standing c) took.path
        ∙ ap (λ (s : Standing). standing_by first.path s c) took.standing
        ∙ sym (fold-append (standing_by first.path) first.standing steps (c ∷ []));
    observable = one.observable ∙ took.observable;
    faults = one.faults ∙ took.faults;
    written = λ observable. (one.observed (subst IsTrue (sym took.observable) observable)).appended
        ∙ ap (λ (p : Path). (sink_of old.sink).written ++ bytes_at p c) took.path
        ∙ ap (λ (xs : List ℕ). xs ++ bytes_at first.path c) (took.written observable)
        ∙ append_assoc (sink_of first.sink).written (written_at first.path steps) (bytes_at first.path c)
        ∙ ap (λ (xs : List ℕ). (sink_of first.sink).written ++ xs)
        (ap (λ (xs : List ℕ). written_at first.path steps ++ xs) (sym (append-nil (bytes_at first.path c)))
        ∙ sym (flat_map-append (bytes_at first.path) steps (c ∷ [])));
  }

  -- one more step was taken, or the sink failed
  pub took_one : {T E : Type 0} (first old new : ContentTaker W) (steps : List DumpStep) (c : DumpStep)
      (result : Result T E) → TookContents sink_of first old steps → TakesOne sink_of old new c result
      → OnOk result (TookContents sink_of first new (steps ++ c ∷ []))
  took_one {E = E} first old new steps c (Ok value) took one =
      took_more {E = E} first old new steps c value took one
  took_one first old new steps c (Err fault) took one = tt

  -- a step that was not taken
  pub broke_one : (old new : ContentTaker W) (c : DumpStep) (result : Result (Unit {0}) TakerFault)
      → TakesOne sink_of old new c result → IfErr result (λ fault. fault ≡ faults.Failed)
      → IfErr result (BreaksOne sink_of old new c)
  broke_one old new c (Ok value) one is = tt
  broke_one old new c (Err fault) one is = record { fault_is = is; taken = one }
