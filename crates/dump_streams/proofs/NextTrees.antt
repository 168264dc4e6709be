-- Which step may stand next behind the dump of a tree, and the tree that it leads to.
use Rattle.std.proofs.Common.{◌≡◌, ℕ, suc, ◌+◌, ◌*◌, ◌<◌, ◌≤◌, List, [], ◌∷◌, ◌++◌, length, false, IsTrue, ◌⊎◌, inl}
use Rattle.std.proofs.Common.{inr, Option, refl, sym, ap, ap₂, subst, ◌∙◌, arith, Ordering, Less, Greater}
use Rattle.std.specs.Ordering.{ordering_reverse}
use Rattle.std.specs.Cmp.{IsTotalOrder, tied_itself}
use Rattle.std.specs.FinMap.{put}
use Rattle.std.specs.FinMap.Entries.{by_order}
use Rattle.std.specs.List.{flat_map, AllByRecursion}
use Rattle.std.proofs.lemmas.Bool.{false≢true}
use Rattle.std.proofs.lemmas.List.{append-nil, append_assoc, length-append, map-append, take_all, drop_all}
use Rattle.std.proofs.lemmas.List.Concat.{flat_map-append}
use Rattle.store_model.specs.Lists.{IsBytes, overwrite}
use Rattle.store_model.specs.Parameters.{Parameters}
use Rattle.store_model.specs.Paths.{Path, Name, name_cmp, path_cmp}
use Rattle.store_model.specs.Pairs.{has_attributes}
use Rattle.store_model.specs.Pages.{IsBare, IsTreeUnder}
use Rattle.store_model.specs.Steps.{next_tree}
use Rattle.store_model.specs.Trees.{Tree, Node, Entry, Attributes, file_limit, IsNode, AreAttributes, IsEntry, IsTree}
use Rattle.store_model.specs.Trees.{node_of, attributes_of, contents_of, is_directory, is_directory_node, with_node}
use Rattle.store_model.specs.Trees.{attributed}
use Rattle.store_model.specs.Trees.Node.{Directory, File}
use Rattle.store_model.proofs.ListsLemmas.{all_append, all_front, all_back, all_from_bytes, bytes_from_all}
use Rattle.store_model.proofs.ListsLemmas.{rising_from_is_sorted}
use Rattle.store_model.proofs.PathsLemmasPlaces.{name_cmp_total}
use Rattle.store_model.proofs.TreesLemmas.{node_at-find, IsTree-with_node}
use Rattle.store_model.proofs.TreesLemmasPaths.{path_cmp_total}
use Rattle.tree_pairs.specs.Seen.{MayStandNext, bare_entry}
use Rattle.tree_pairs.proofs.ReaderNextLemmas.{find_last, find_at_last, bare_tree_more, tree_again, all_below}
use Rattle.tree_pairs.proofs.ReaderNextLemmas.{stands_next}
use Rattle.dump_streams.specs.Dumps.{DumpStep, after_step, dump_piece, file_steps, node_steps, attribute_steps}
use Rattle.dump_streams.specs.Dumps.{entry_steps, dump}
use Rattle.dump_streams.specs.Dumps.DumpStep.{Make, Write, Set}
use Rattle.dump_streams.specs.Reading.{GoesOn}
use Rattle.dump_streams.proofs.PieceLemmas.{one_piece, pieces_more}

-- ---- which step may stand next

-- the first step that writes a file
pub record IsFirstWrite (t : Tree) (path : Path) (at : ℕ) (bytes : List ℕ) : Type 0 where
  pub next : MayStandNext t path
  pub at_is : at ≡ 0
  pub short : length bytes ≤ dump_piece
  pub valid : IsBytes bytes

-- a further one
pub record IsLaterWrite (t : Tree) (path : Path) (at : ℕ) (bytes : List ℕ) : Type 0 where
  pub before : Tree
  pub content : List ℕ
  pub entries_are : t ≡ before ++ (path, bare_entry (File content)) ∷ []
  pub pieces : ℕ
  pub full : length content ≡ dump_piece * suc pieces
  pub at_is : at ≡ length content
  pub some : 1 ≤ length bytes
  pub short : length bytes ≤ dump_piece
  pub fits : length content + length bytes ≤ file_limit
  pub valid : IsBytes bytes

-- what a tree's last path has, with these attributes
abbrev pub named_entry : Node → Attributes → Entry
named_entry node attributes = record { node = node; attributes = attributes }

-- an attribute more of the last entry
pub record IsLaterName (t : Tree) (p : Parameters) (path : Path) (name : Name) (bytes : List ℕ) : Type 0 where
  pub version : IsTrue (has_attributes p.version)
  pub before : Tree
  pub node : Node
  pub attributes : Attributes
  pub entries_are : t ≡ before ++ (path, named_entry node attributes) ∷ []
  pub are : AreAttributes path (attributes ++ (name, bytes) ∷ [])

-- The step may stand next behind the dump of the tree.
abbrev pub IsNext : Tree → Parameters → DumpStep → Type 0
IsNext t p (Make path) = MayStandNext t path
IsNext t p (Write path at bytes) = IsFirstWrite t path at bytes ⊎ IsLaterWrite t path at bytes
IsNext t p (Set path name bytes) = IsLaterName t p path name bytes

-- ---- what is put behind all others

-- the order of two keys, the other way round
turned : {K : Type 0} (cmp : K → K → Ordering) → IsTotalOrder cmp → (x y : K) → cmp y x ≡ Less → cmp x y ≡ Greater
turned cmp total x y less = total.antisymm x y ∙ ap ordering_reverse less

put_behind : {K X : Type 0} (cmp : K → K → Ordering) → IsTotalOrder cmp → (k : K) (v : X) (es : List (K × X))
    → AllByRecursion (λ e. cmp e.0 k ≡ Less) es → put cmp k v es ≡ es ++ (k, v) ∷ []
put_behind cmp total k v [] below = refl
put_behind cmp total k v (e ∷ es) below =
    ap (λ o. by_order o ((k, v) ∷ e ∷ es) ((e.0, v) ∷ es) (e ∷ put cmp k v es)) (turned cmp total k e.0 below.0)
    ∙ ap (λ rest. e ∷ rest) (put_behind cmp total k v es below.1)

put_for_last : {K X : Type 0} (cmp : K → K → Ordering) → IsTotalOrder cmp → (k : K) (old new : X) (es : List (K × X))
    → AllByRecursion (λ e. cmp e.0 k ≡ Less) es → put cmp k new (es ++ (k, old) ∷ []) ≡ es ++ (k, new) ∷ []
put_for_last cmp total k old new [] below =
    ap (λ o. by_order o ((k, new) ∷ (k, old) ∷ []) ((k, new) ∷ []) ((k, old) ∷ put cmp k new [])) (tied_itself total k)
put_for_last cmp total k old new (e ∷ es) below =
    ap (λ o. by_order o ((k, new) ∷ e ∷ (es ++ (k, old) ∷ [])) ((e.0, new) ∷ (es ++ (k, old) ∷ []))
    (e ∷ put cmp k new (es ++ (k, old) ∷ []))) (turned cmp total k e.0 below.0)
    ∙ ap (λ rest. e ∷ rest) (put_for_last cmp total k old new es below.1)

-- bytes put at the end
overwrite_end : (old bytes : List ℕ) → overwrite old (length old) bytes ≡ old ++ bytes
overwrite_end old bytes =
    ap₂ (λ (front rest : List ℕ). front ++ bytes ++ rest) (take_all (length old) old (omega arith))
    (drop_all (length old + length bytes) old (omega arith))
    ∙ append-nil (old ++ bytes)

-- ---- the tree that it leads to

-- a node where nothing stood
placed : (t : Tree) (x : Path) (node : Node) → MayStandNext t x → with_node t x node ≡ t ++ (x, bare_entry node) ∷ []
placed t x node next =
    ap (λ (found : Option Entry). put path_cmp x (named_entry node (attributes_of found)) t) (find_last x t next.behind)
    ∙ put_behind path_cmp path_cmp_total x (bare_entry node) t next.behind

-- a node for the last one
replaced : (before : Tree) (x : Path) (old new : Node) → MayStandNext before x
    → with_node (before ++ (x, bare_entry old) ∷ []) x new ≡ before ++ (x, bare_entry new) ∷ []
replaced before x old new next =
    ap (λ (found : Option Entry). put path_cmp x (named_entry new (attributes_of found))
    (before ++ (x, bare_entry old) ∷ [])) (find_at_last x (bare_entry old) before next.behind)
    ∙ put_for_last path_cmp path_cmp_total x (bare_entry old) (bare_entry new) before next.behind

pub tree_of_make : (t : Tree) (x : Path) → MayStandNext t x
    → after_step t (Make x) ≡ t ++ (x, bare_entry Directory) ∷ []
unfolding next_tree
tree_of_make t x next = placed t x Directory next

pub tree_of_first : (t : Tree) (x : Path) (bytes : List ℕ) → MayStandNext t x
    → after_step t (Write x 0 bytes) ≡ t ++ (x, bare_entry (File bytes)) ∷ []
unfolding next_tree
tree_of_first t x bytes next =
    ap (λ (found : Option Node). with_node t x (File (overwrite (contents_of found) 0 bytes)))
    (node_at-find t x next.below_root ∙ ap node_of (find_last x t next.behind))
    ∙ ap (λ (content : List ℕ). with_node t x (File content)) (overwrite_end [] bytes)
    ∙ placed t x (File bytes) next

pub tree_of_later : (before : Tree) (x : Path) (content run : List ℕ) → MayStandNext before x
    → after_step (before ++ (x, bare_entry (File content)) ∷ []) (Write x (length content) run)
    ≡ before ++ (x, bare_entry (File (content ++ run))) ∷ []
unfolding next_tree
tree_of_later before x content run next =
    let t : Tree = before ++ (x, bare_entry (File content)) ∷ [] in
    ap (λ (found : Option Node). with_node t x (File (overwrite (contents_of found) (length content) run)))
    (node_at-find t x next.below_root ∙ ap node_of (find_at_last x (bare_entry (File content)) before next.behind))
    ∙ ap (λ (bytes : List ℕ). with_node t x (File bytes)) (overwrite_end content run)
    ∙ replaced before x (File content) (File (content ++ run)) next

-- the names so far stand before the next one
names_below : (path : Path) (attributes : Attributes) (attribute : Name × List ℕ)
    → AreAttributes path (attributes ++ attribute ∷ [])
    → AllByRecursion (λ a. name_cmp a.0 attribute.0 ≡ Less) attributes
names_below path attributes attribute are =
    all_below (λ (a b : Name × List ℕ). name_cmp a.0 b.0) attributes attribute []
    (rising_from_is_sorted name_cmp (attributes ++ attribute ∷ []) are.sorted)

pub tree_of_name : (before : Tree) (x : Path) (node : Node) (attributes : Attributes) (name : Name) (bytes : List ℕ)
    → MayStandNext before x → AreAttributes x (attributes ++ (name, bytes) ∷ [])
    → after_step (before ++ (x, named_entry node attributes) ∷ []) (Set x name bytes)
    ≡ before ++ (x, named_entry node (attributes ++ (name, bytes) ∷ [])) ∷ []
unfolding next_tree
tree_of_name before x node attributes name bytes next are =
    let t : Tree = before ++ (x, named_entry node attributes) ∷ [] in
    ap (λ (found : Option Entry). attributed t x (put name_cmp name bytes (attributes_of found)) found)
    (find_at_last x (named_entry node attributes) before next.behind)
    ∙ ap (λ (more : Attributes). put path_cmp x (named_entry node more) t)
    (put_behind name_cmp name_cmp_total name bytes attributes (names_below x attributes (name, bytes) are))
    ∙ put_for_last path_cmp path_cmp_total x (named_entry node attributes)
    (named_entry node (attributes ++ (name, bytes) ∷ [])) before next.behind

-- ---- it is a tree again, and its dump has the step more

dump_more : (t : Tree) (x : Path) (entry : Entry) → dump (t ++ (x, entry) ∷ []) ≡ dump t ++ entry_steps x entry
unfolding dump
dump_more t x entry =
    flat_map-append (λ (e : Path × Entry). entry_steps e.0 e.1) t ((x, entry) ∷ [])
    ∙ ap (λ (own : List DumpStep). flat_map (λ (e : Path × Entry). entry_steps e.0 e.1) t ++ own)
    (append-nil (entry_steps x entry))

bare_dump : (t : Tree) (x : Path) (node : Node) → dump (t ++ (x, bare_entry node) ∷ []) ≡ dump t ++ node_steps x node
unfolding attribute_steps
bare_dump t x node = dump_more t x (bare_entry node)
    ∙ ap (λ (own : List DumpStep). dump t ++ own) (append-nil (node_steps x node))

-- a node more
node_more : (t : Tree) (x : Path) (node : Node) (c : DumpStep) (p : Parameters) → IsTreeUnder t p → MayStandNext t x
    → IsNode node → after_step t c ≡ t ++ (x, bare_entry node) ∷ [] → node_steps x node ≡ c ∷ [] → GoesOn t c p
node_more t x node c p under next is leads steps = record {
  under = subst (λ (u : Tree). IsTreeUnder u p) (sym leads) (record {
    is_tree = bare_tree_more t x node under.is_tree next is;
    bare = λ lacks. all_append (λ (e : Path × Entry). e.1.attributes ≡ []) t ((x, bare_entry node) ∷ [])
        (under.bare lacks) (refl, tt);
  });
  dump_is = ap dump leads ∙ bare_dump t x node ∙ ap (λ (own : List DumpStep). dump t ++ own) steps;
}

-- a file of other bytes in the place of the last one
file_again : (before : Tree) (x : Path) (old new : List ℕ) → IsTree (before ++ (x, bare_entry (File old)) ∷ [])
    → MayStandNext before x → IsNode (File new) → IsTree (before ++ (x, bare_entry (File new)) ∷ [])
file_again before x old new tree next is =
    let t : Tree = before ++ (x, bare_entry (File old)) ∷ [] in
    let entry : IsEntry t (x, bare_entry (File old)) =
    (all_back (IsEntry t) before ((x, bare_entry (File old)) ∷ []) tree.entries).0 in
    let no : is_directory t x ≡ false =
    ap is_directory_node (node_at-find t x entry.below_root
    ∙ ap node_of (find_at_last x (bare_entry (File old)) before next.behind)) in
    subst IsTree (replaced before x (File old) (File new) next)
    (IsTree-with_node t x (File new) tree entry.path entry.below_root entry.parent_directory is
    (λ there. absurd (false≢true (sym no ∙ there))))

-- bytes of two parts
joined_bytes : (xs ys : List ℕ) → IsBytes xs → IsBytes ys → IsBytes (xs ++ ys)
joined_bytes xs ys left right = bytes_from_all (xs ++ ys)
    (all_append (λ c. c < 256) xs ys (all_from_bytes xs left) (all_from_bytes ys right))

-- the last entry of a tree may stand behind the others
pub last_stands : (t before : Tree) (x : Path) (entry : Entry) → IsTree t → t ≡ before ++ (x, entry) ∷ []
    → MayStandNext before x
last_stands t before x entry tree split = stands_next before [] x entry (subst IsTree split tree)

-- the tree that a further write leads to
pub later_leads : (t : Tree) (x : Path) (at : ℕ) (bytes : List ℕ) (later : IsLaterWrite t x at bytes) → IsTree t
    → after_step t (Write x at bytes) ≡ later.before ++ (x, bare_entry (File (later.content ++ bytes))) ∷ []
later_leads t x at bytes later tree =
    ap₂ (λ (u : Tree) (i : ℕ). after_step u (Write x i bytes)) later.entries_are later.at_is
    ∙ tree_of_later later.before x later.content bytes
    (last_stands t later.before x (bare_entry (File later.content)) tree later.entries_are)

-- a piece more
piece_goes_on : (t : Tree) (x : Path) (at : ℕ) (bytes : List ℕ) (p : Parameters) → IsTreeUnder t p
    → IsLaterWrite t x at bytes → GoesOn t (Write x at bytes) p
piece_goes_on t x at bytes p under later =
    let old : Entry = bare_entry (File later.content) in
    let content : List ℕ = later.content ++ bytes in
    let new : Entry = bare_entry (File content) in
    let tree = subst IsTree later.entries_are under.is_tree in
    let next = last_stands t later.before x old under.is_tree later.entries_are in
    let entry = (all_back (IsEntry (later.before ++ (x, old) ∷ [])) later.before ((x, old) ∷ []) tree.entries).0 in
    let long = length-append later.content bytes in
    let leads = later_leads t x at bytes later under.is_tree in
    let steps : file_steps x content ≡ file_steps x later.content ++ Write x at bytes ∷ [] =
    pieces_more x later.pieces later.content bytes later.full later.some later.short
    ∙ ap (λ i. file_steps x later.content ++ Write x i bytes ∷ []) (sym later.at_is) in
    record {
      under = subst (λ (u : Tree). IsTreeUnder u p) (sym leads) (record {
        is_tree = file_again later.before x later.content content tree next
            (omega (arith, long, later.fits), joined_bytes later.content bytes (entry.node).1 later.valid);
        bare = λ lacks. all_append (λ (e : Path × Entry). e.1.attributes ≡ []) later.before ((x, new) ∷ [])
            (all_front (λ (e : Path × Entry). e.1.attributes ≡ []) later.before ((x, old) ∷ [])
            (subst IsBare later.entries_are (under.bare lacks))) (refl, tt);
      });
      dump_is = ap dump leads ∙ bare_dump later.before x (File content)
          ∙ ap (λ (own : List DumpStep). dump later.before ++ own) steps
          ∙ sym (append_assoc (dump later.before) (file_steps x later.content) (Write x at bytes ∷ []))
          ∙ ap (λ (front : List DumpStep). front ++ Write x at bytes ∷ [])
          (sym (bare_dump later.before x (File later.content)) ∙ ap dump (sym later.entries_are));
    }

-- the tree that an attribute leads to
pub name_leads : (t : Tree) (p : Parameters) (x : Path) (name : Name) (bytes : List ℕ)
    (later : IsLaterName t p x name bytes) → IsTree t
    → after_step t (Set x name bytes) ≡ later.before
    ++ (x, named_entry later.node (later.attributes ++ (name, bytes) ∷ [])) ∷ []
name_leads t p x name bytes later tree =
    ap (λ (u : Tree). after_step u (Set x name bytes)) later.entries_are
    ∙ tree_of_name later.before x later.node later.attributes name bytes
    (last_stands t later.before x (named_entry later.node later.attributes) tree later.entries_are) later.are

-- an attribute more
name_goes_on : (t : Tree) (x : Path) (name : Name) (bytes : List ℕ) (p : Parameters) → IsTreeUnder t p
    → IsLaterName t p x name bytes → GoesOn t (Set x name bytes) p
unfolding attribute_steps
name_goes_on t x name bytes p under later =
    let old : Entry = named_entry later.node later.attributes in
    let attributes : Attributes = later.attributes ++ (name, bytes) ∷ [] in
    let new : Entry = named_entry later.node attributes in
    let c : DumpStep = Set x name bytes in
    let own : List DumpStep = node_steps x later.node in
    let next = last_stands t later.before x old under.is_tree later.entries_are in
    let leads = name_leads t p x name bytes later under.is_tree in
    let steps : entry_steps x new ≡ entry_steps x old ++ c ∷ [] =
    ap (λ (names : List DumpStep). own ++ names)
    (map-append (λ (a : Name × List ℕ). Set x a.0 a.1) later.attributes ((name, bytes) ∷ []))
    ∙ sym (append_assoc own (attribute_steps x later.attributes) (c ∷ [])) in
    record {
      under = subst (λ (u : Tree). IsTreeUnder u p) (sym leads) (record {
        is_tree = tree_again later.before x later.node later.attributes attributes
            (subst IsTree later.entries_are under.is_tree) next.behind later.are;
        bare = λ lacks. absurd (false≢true (sym lacks ∙ later.version));
      });
      dump_is = ap dump leads ∙ dump_more later.before x new
          ∙ ap (λ (all : List DumpStep). dump later.before ++ all) steps
          ∙ sym (append_assoc (dump later.before) (entry_steps x old) (c ∷ []))
          ∙ ap (λ (front : List DumpStep). front ++ c ∷ [])
          (sym (dump_more later.before x old) ∙ ap dump (sym later.entries_are));
    }

first_goes_on : (t : Tree) (x : Path) (at : ℕ) (bytes : List ℕ) (p : Parameters) → IsTreeUnder t p
    → IsFirstWrite t x at bytes → GoesOn t (Write x at bytes) p
first_goes_on t x at bytes p under first =
    let short = first.short in
    subst (λ i. GoesOn t (Write x i bytes) p) (sym first.at_is)
    (node_more t x (File bytes) (Write x 0 bytes) p under first.next (omega (arith, short), first.valid)
    (tree_of_first t x bytes first.next) (one_piece x bytes short))

-- a step that may stand next goes on with the dump
pub goes_on : (t : Tree) (c : DumpStep) (p : Parameters) → IsTreeUnder t p → IsNext t p c → GoesOn t c p
goes_on t (Make x) p under next = node_more t x Directory (Make x) p under next tt (tree_of_make t x next) refl
goes_on t (Write x at bytes) p under (inl first) = first_goes_on t x at bytes p under first
goes_on t (Write x at bytes) p under (inr later) = piece_goes_on t x at bytes p under later
goes_on t (Set x name bytes) p under later = name_goes_on t x name bytes p under later
