-- What a dump says of a file that may be a link.
use Rattle.std.proofs.Common.{◌≡◌, ℕ, ◌+◌, ◌*◌, nat_lt, List, [], ◌∷◌, ◌++◌, length, map, fold, Bool, true, false}
use Rattle.std.proofs.Common.{cond, if◌then◌else◌, ◌&&◌, ◌||◌, ◌==◌, Option, Some, None, Result, Ok, Err}
use Rattle.std.proofs.Common.{OnOk, IfErr, refl, sym, ap, ap₂, subst, ◌∙◌, arith}
use Rattle.std.specs.List.{flat_map, enumerate_from, filter, list_any, AllByRecursion}
use Rattle.std.specs.List.Sorted.{IsStrictlySortedBy}
use Rattle.std.specs.FinMap.{find}
use Rattle.std.proofs.lemmas.Bool.{or_left, le-ltb}
use Rattle.std.proofs.lemmas.Grind.{flat_map-append}
use Rattle.std.proofs.lemmas.List.{append-nil}
use Rattle.std.proofs.lemmas.List.Sums.{fold-append}
use Rattle.store_model.specs.Lists.{runs}
use Rattle.store_model.specs.Paths.{Path, Name, path_cmp, same_path, is_inside, is_at_or_inside}
use Rattle.store_model.specs.Trees.{Tree, Node, Entry, Attributes, IsTree, IsEntry, IsAttribute, empty_tree}
use Rattle.store_model.specs.Trees.{attribute_limit, attributes_of, attributes_at, node_at, contents, contents_of}
use Rattle.store_model.specs.Trees.Node.{Directory, File}
use Rattle.store_model.proofs.ListsLemmas.{rising_from_is_sorted, all_weaker}
use Rattle.store_model.proofs.TreesLemmas.{find_from_all}
use Rattle.store_model.proofs.TreesLemmasPaths.{same_from_test, same_path-itself}
use Rattle.store_model.proofs.TreesLemmasFewer.{find_below_all}
use Rattle.script_lines.specs.SinkState.{SinkState}
use Rattle.dump_streams.specs.Dumps.{DumpStep, dump, dump_piece, file_steps, node_steps, attribute_steps, entry_steps}
use Rattle.dump_streams.specs.Dumps.DumpStep.{Make, Write, Set}
use Rattle.dump_streams.specs.declared.taker.TakerFault.{TakerFault}
use Rattle.dump_views.specs.Contents.{TookContents, BreaksOne, bytes_at, written_at, standing_after, standing_of}
use Rattle.dump_views.specs.declared.content.Standing.{Standing}
use Rattle.dump_views.specs.declared.content.ContentTaker.{ContentTaker}
use Rattle.dump_views.proofs.ContentLemmas.{took_none as took_no_content, written_contents, standing_told}
use Rattle.host_builder.specs.declared.attribute.HostAttribute.{HostAttribute}
use Rattle.host_builder.specs.declared.attribute.HostAttribute.TheVariants as attributes
use Rattle.host_builder.specs.HostAttributes.{attribute_of}
use Rattle.host_builder.specs.Views.{link_has, kept}
use Rattle.entry_lines.specs.Entries.{target_in}
use Rattle.image_reads.specs.declared.found.FileFound.TheVariants as founds
use Rattle.image_reads.specs.declared.found.FileTaker.{FileTaker}
use Rattle.image_reads.specs.Founds.{links_alone, leads_to, found_of, found_at}
use Rattle.image_reads.specs.FileTakers.{target_by, empty_by, leads_by, found_file, found_by}
use Rattle.image_reads.specs.FileTakers.{TookFile, BreaksFile}
use Rattle.store_stream.specs.Parts.{bare_directory, is_within, is_kept, entry_kept, parts_at}
use Rattle.store_stream.proofs.PartTrees.{found_kept, none_kept, node_in_part}

-- ---- the first attribute that says it is that of the host's link

-- a target that was found stays
stays_found : (target : List ℕ) (names : Attributes) → fold target_by (Some target) names ≡ Some target
stays_found target [] = refl
stays_found target (a ∷ names) = stays_found target names

link_in : (names : Attributes) → AllByRecursion (λ a. nat_lt attribute_limit (length a.1) ≡ false) names
    → found_file true (fold target_by None names)
    ≡ (if list_any (λ a. link_has links_alone (attribute_of a.0 a.1)) names
    then leads_to (kept (link_has links_alone) names) else founds.File)
link_in [] short = refl
link_in (a ∷ names) short =
    ap (λ (b : Bool). found_file true
    (fold target_by (if b then None else target_in (attribute_of a.0 a.1) a.1) names)) short.0
    ∙ by_said (attribute_of a.0 a.1) (link_in names short.1)
  where
    by_said : (said : Option HostAttribute)
        → found_file true (fold target_by None names)
        ≡ (if list_any (λ a. link_has links_alone (attribute_of a.0 a.1)) names
        then leads_to (kept (link_has links_alone) names) else founds.File)
        → found_file true (fold target_by (target_in said a.1) names)
        ≡ (if link_has links_alone said || list_any (λ a. link_has links_alone (attribute_of a.0 a.1)) names
        then leads_to (cond (link_has links_alone said) (a ∷ kept (link_has links_alone) names)
        (kept (link_has links_alone) names)) else founds.File)
    by_said None rest = rest
    by_said (Some attributes.Executes) rest = rest
    by_said (Some (attributes.Time seconds)) rest = rest
    by_said (Some attributes.Link) rest = ap (found_file true) (stays_found a.1 names)

-- so what is noted of a path's node and attributes is what is found there
found_noted : (node : Option Node) (names : Attributes)
    → AllByRecursion (λ a. nat_lt attribute_limit (length a.1) ≡ false) names
    → found_by (standing_of node) (length (contents_of node) == 0) (fold target_by None names) ≡ found_of node names
found_noted None names short = refl
found_noted (Some Directory) names short = refl
found_noted (Some (File bytes)) names short = by_empty (length bytes == 0)
  where
    by_empty : (b : Bool) → found_file b (fold target_by None names)
        ≡ (if b && list_any (λ a. link_has links_alone (attribute_of a.0 a.1)) names
        then leads_to (kept (link_has links_alone) names) else founds.File)
    by_empty true = link_in names short
    by_empty false = refl

-- ---- what steps say, one after another

-- whether no byte was written
empty_noted : (p : Path) (before : Bool) (steps : List DumpStep)
    → fold (empty_by p) before steps ≡ ((length (flat_map (bytes_at p) steps) == 0) && before)
empty_noted p before [] = refl
empty_noted p before (Make q ∷ steps) = empty_noted p before steps
empty_noted p before (Set q name bytes ∷ steps) = empty_noted p before steps
empty_noted p before (Write q at bytes ∷ steps) = by_test (same_path p q) (λ b. empty_noted p b steps)
  where
    written : List ℕ
    written = flat_map (bytes_at p) steps

    no_more : (b : Bool) → (b && false) ≡ false
    no_more true = refl
    no_more false = refl

    some_written : (byte : ℕ) (more : List ℕ) → (length (byte ∷ more) == 0) ≡ false
    some_written byte more = grind arith

    by_bytes : (bs : List ℕ) → ((length written == 0) && ((length bs == 0) && before))
        ≡ ((length (bs ++ written) == 0) && before)
    by_bytes [] = refl
    by_bytes (byte ∷ more) =
        ap (λ (b : Bool). (length written == 0) && (b && before)) (some_written byte more)
        ∙ no_more (length written == 0)
        ∙ sym (ap (λ (b : Bool). b && before) (some_written byte (more ++ written)))

    by_test : (b : Bool)
        → ((c : Bool) → fold (empty_by p) c steps ≡ ((length written == 0) && c))
        → fold (empty_by p) (if b then (length bytes == 0) && before else before) steps
        ≡ ((length ((if b then bytes else []) ++ written) == 0) && before)
    by_test true rest = rest ((length bytes == 0) && before) ∙ by_bytes bytes
    by_test false rest = rest before

-- the attributes that a step gives a path
abbrev set_by : Path → DumpStep → Attributes
set_by p (Make q) = []
set_by p (Write q at bytes) = []
set_by p (Set q name bytes) = if same_path p q then (name, bytes) ∷ [] else []

-- where a link leads
leads_noted : (p : Path) (before : Option (List ℕ)) (steps : List DumpStep)
    → fold (leads_by p) before steps ≡ fold target_by before (flat_map (set_by p) steps)
leads_noted p before [] = refl
leads_noted p before (Make q ∷ steps) = leads_noted p before steps
leads_noted p before (Write q at bytes ∷ steps) = leads_noted p before steps
leads_noted p before (Set q name bytes ∷ steps) = by_test (same_path p q) (λ o. leads_noted p o steps)
  where
    by_test : (b : Bool)
        → ((o : Option (List ℕ)) → fold (leads_by p) o steps ≡ fold target_by o (flat_map (set_by p) steps))
        → fold (leads_by p) (if b then target_by before (name, bytes) else before) steps
        ≡ fold target_by before ((if b then (name, bytes) ∷ [] else []) ++ flat_map (set_by p) steps)
    by_test true rest = rest (target_by before (name, bytes))
    by_test false rest = rest before

-- ---- the attributes that a dump gives a path

set_pieces : (p q : Path) (n : ℕ) (rs : List (List ℕ))
    → flat_map (set_by p) (map (λ piece. Write q (dump_piece * piece.0) piece.1) (enumerate_from n rs)) ≡ []
set_pieces p q n [] = refl
set_pieces p q n (r ∷ rs) = set_pieces p q (n + 1) rs

set_node : (p q : Path) (node : Node) → flat_map (set_by p) (node_steps q node) ≡ []
unfolding file_steps
set_node p q Directory = refl
set_node p q (File []) = refl
set_node p q (File (b ∷ bytes)) = set_pieces p q 0 (runs dump_piece (b ∷ bytes))

set_attributes : (p q : Path) (names : Attributes)
    → flat_map (set_by p) (attribute_steps q names) ≡ cond (same_path p q) names []
unfolding attribute_steps
set_attributes p q [] = nothing (same_path p q)
  where
    nothing : (b : Bool) → [] ≡ cond b (let none : Attributes = [] in none) []
    nothing true = refl
    nothing false = refl
set_attributes p q (a ∷ names) =
    ap (λ (xs : Attributes). cond (same_path p q) ((a.0, a.1) ∷ []) [] ++ xs) (set_attributes p q names)
    ∙ joined (same_path p q)
  where
    joined : (b : Bool) → cond b ((a.0, a.1) ∷ []) [] ++ cond b names [] ≡ cond b (a ∷ names) []
    joined true = refl
    joined false = refl

set_entry : (p q : Path) (e : Entry) → flat_map (set_by p) (entry_steps q e) ≡ cond (same_path p q) e.attributes []
set_entry p q e =
    flat_map-append (set_by p) (node_steps q e.node) (attribute_steps q e.attributes)
    ∙ ap (λ (xs : Attributes). xs ++ flat_map (set_by p) (attribute_steps q e.attributes)) (set_node p q e.node)
    ∙ set_attributes p q e.attributes

set_tree : (p : Path) (t : Tree) → IsStrictlySortedBy (λ a b. path_cmp a.0 b.0) t
    → flat_map (set_by p) (dump t) ≡ attributes_of (find path_cmp p t)
unfolding dump IsStrictlySortedBy
set_tree p [] rising = refl
set_tree p (e ∷ t) rising =
    flat_map-append (set_by p) (entry_steps e.0 e.1) (dump t)
    ∙ ap (λ (xs : Attributes). xs ++ flat_map (set_by p) (dump t)) (set_entry p e.0 e.1)
    ∙ ap (λ (xs : Attributes). cond (same_path p e.0) e.1.attributes [] ++ xs) (set_tree p t rising.1)
    ∙ by_test (same_path p e.0) refl
  where
    by_test : (b : Bool) → same_path p e.0 ≡ b
        → cond b e.1.attributes [] ++ attributes_of (find path_cmp p t)
        ≡ attributes_of (cond b (Some e.1) (find path_cmp p t))
    by_test true here = ap (λ (o : Option Entry). e.1.attributes ++ attributes_of o)
        (ap (λ (q : Path). find path_cmp q t) (same_from_test p e.0 here) ∙ find_below_all path_cmp e.0 t rising.0)
        ∙ append-nil e.1.attributes
    by_test false here = refl

-- ---- a dump of a tree

-- the attributes of a path are no longer than they may be
short_attributes : (t : Tree) (p : Path) → IsTree t
    → AllByRecursion (λ a. nat_lt attribute_limit (length a.1) ≡ false) (attributes_at t p)
short_attributes t p tree = by_found (find path_cmp p t) refl
  where
    short : (a : Name × List ℕ) → IsAttribute p a → nat_lt attribute_limit (length a.1) ≡ false
    short a is = le-ltb attribute_limit (length a.1) is.short

    by_found : (o : Option Entry) → find path_cmp p t ≡ o
        → AllByRecursion (λ a. nat_lt attribute_limit (length a.1) ≡ false) (attributes_of o)
    by_found None found = tt
    by_found (Some e) found =
        all_weaker _ _ short e.attributes ((find_from_all (IsEntry t) p e t tree.entries found).attributes).each

-- what was noted of a path is what stands there
pub took_found : {W : Type 0} (sink_of : W → SinkState) (first now : FileTaker W) (path : Path) (t : Tree)
    → IsTree t → first.contents.path ≡ path → first.contents.standing ≡ standing_of (node_at empty_tree path)
    → first.path ≡ path → first.is_empty ≡ true → first.target ≡ None → TookFile sink_of first now (dump t)
    → found_by now.contents.standing now.is_empty now.target ≡ found_at t path
unfolding written_at
took_found sink_of first now path t tree contents_path standing path_is empty target took =
    ap (λ (s : Standing). found_by s now.is_empty now.target)
    ((took.contents).standing
    ∙ ap₂ (λ (q : Path) (s : Standing). standing_after q s (dump t)) contents_path standing
    ∙ standing_told t path tree)
    ∙ ap (λ (b : Bool). found_by (standing_of (node_at t path)) b now.target) is_empty
    ∙ ap (λ (o : Option (List ℕ)). found_by (standing_of (node_at t path)) (length (contents t path) == 0) o) leads
    ∙ found_noted (node_at t path) (attributes_at t path) (short_attributes t path tree)
  where
    and_true : (b : Bool) → (b && true) ≡ b
    and_true true = refl
    and_true false = refl

    is_empty : now.is_empty ≡ (length (contents t path) == 0)
    is_empty = took.is_empty
        ∙ ap₂ (λ (q : Path) (b : Bool). fold (empty_by q) b (dump t)) path_is empty
        ∙ empty_noted path true (dump t) ∙ and_true (length (flat_map (bytes_at path) (dump t)) == 0)
        ∙ ap (λ (xs : List ℕ). length xs == 0) (written_contents t path tree)

    leads : now.target ≡ fold target_by None (attributes_at t path)
    leads = took.target
        ∙ ap₂ (λ (q : Path) (o : Option (List ℕ)). fold (leads_by q) o (dump t)) path_is target
        ∙ leads_noted path None (dump t)
        ∙ ap (fold target_by None) (set_tree path t (rising_from_is_sorted path_cmp t tree.sorted))

-- ---- the part of a tree at a path

-- the attributes of a path are those that it has in its part
attributes_in_part : (t : Tree) (q : Path) → attributes_at (parts_at t (q ∷ [])) q ≡ attributes_at t q
unfolding parts_at
attributes_in_part t q = by_found (find path_cmp q t) refl
  where
    within : is_within (q ∷ []) q ≡ true
    within = or_left (is_at_or_inside q q) false (or_left (same_path q q) (is_inside q q) (same_path-itself q))

    by_found : (o : Option Entry) → find path_cmp q t ≡ o
        → attributes_of (find path_cmp q (map (entry_kept (q ∷ [])) (filter (is_kept (q ∷ [])) t)))
        ≡ attributes_of (find path_cmp q t)
    by_found None found = ap attributes_of (none_kept (q ∷ []) t q found) ∙ ap attributes_of (sym found)
    by_found (Some entry) found =
        ap attributes_of (found_kept (q ∷ []) t q entry found (or_left _ _ within))
        ∙ ap (λ (b : Bool). attributes_of (Some (cond b entry bare_directory))) within
        ∙ ap attributes_of (sym found)

-- so is what stands there
pub found_in_part : (t : Tree) (q : Path) → found_at (parts_at t (q ∷ [])) q ≡ found_at t q
found_in_part t q = ap₂ found_of (node_in_part t q) (attributes_in_part t q)

-- ---- what a taker did

module _ {W : Type 0} (sink_of : W → SinkState) where
  -- no step was taken
  pub took_none : (taker : FileTaker W) → TookFile sink_of taker taker []
  took_none taker = record {
    contents = took_no_content sink_of taker.contents;
    path = refl;
    is_empty = refl;
    target = refl;
  }

  -- one more step was taken, or the sink failed
  pub took_one : {T E : Type 0} (first old noted : FileTaker W) (after : ContentTaker W) (steps : List DumpStep)
      (c : DumpStep) (result : Result T E)
      → noted ≡ record old {
        is_empty = empty_by old.path old.is_empty c;
        target = leads_by old.path old.target c;
      }
      → TookFile sink_of first old steps
      → (TookContents sink_of first.contents noted.contents steps
      → OnOk result (TookContents sink_of first.contents after (steps ++ c ∷ [])))
      → OnOk result (TookFile sink_of first (record noted { contents = after }) (steps ++ c ∷ []))
  took_one {T} {E} first old noted after steps c result is took takes =
      by_result result (takes (subst (λ (k : ContentTaker W). TookContents sink_of first.contents k steps)
      (sym (ap (λ (f : FileTaker W). f.contents) is)) took.contents))
    where
      by_result : (r : Result T E) → OnOk r (TookContents sink_of first.contents after (steps ++ c ∷ []))
          → OnOk r (TookFile sink_of first (record noted { contents = after }) (steps ++ c ∷ []))
      by_result (Ok value) more = record {
        contents = more;
        path = ap (λ (f : FileTaker W). f.path) is ∙ took.path;
        is_empty = ap (λ (f : FileTaker W). f.is_empty) is
            ∙ ap₂ (λ (q : Path) (b : Bool). empty_by q b c) took.path took.is_empty
            ∙ sym (fold-append (empty_by first.path) first.is_empty steps (c ∷ []));
        target = ap (λ (f : FileTaker W). f.target) is
            ∙ ap₂ (λ (q : Path) (o : Option (List ℕ)). leads_by q o c) took.path took.target
            ∙ sym (fold-append (leads_by first.path) first.target steps (c ∷ []));
      }
      by_result (Err fault) more = tt

  -- a step that was not taken
  pub broke_one : (old noted : FileTaker W) (after : ContentTaker W) (c : DumpStep)
      (result : Result (Unit {0}) TakerFault)
      → noted ≡ record old {
        is_empty = empty_by old.path old.is_empty c;
        target = leads_by old.path old.target c;
      }
      → IfErr result (BreaksOne sink_of noted.contents after c)
      → IfErr result (BreaksFile sink_of old (record noted { contents = after }) c)
  broke_one old noted after c result is broke =
      subst (λ (k : ContentTaker W). IfErr result (BreaksOne sink_of k after c))
      (ap (λ (f : FileTaker W). f.contents) is) broke
