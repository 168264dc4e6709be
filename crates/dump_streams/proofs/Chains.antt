-- The dump of a tree, step by step: each may stand next behind those before it, and they lead to the tree.
use Rattle.std.proofs.Common.{◌≡◌, ℕ, zero, suc, ◌*◌, ◌<◌, ◌≤◌, List, [], ◌∷◌, ◌++◌, length, take, drop, Bool, true}
use Rattle.std.proofs.Common.{false, IsTrue, inl, inr, refl, sym, ap, subst, ◌∙◌, arith, nat_le, leb-true}
use Rattle.std.proofs.lemmas.Bool.{false≢true, leb-false}
use Rattle.std.proofs.lemmas.List.{append-nil, append_assoc, length-drop, length-take-le, take-append-drop}
use Rattle.store_model.specs.Lists.{IsBytes}
use Rattle.store_model.specs.Parameters.{Parameters}
use Rattle.store_model.specs.Paths.{Path, Name, name_cmp}
use Rattle.store_model.specs.Pairs.{has_attributes}
use Rattle.store_model.specs.Pages.{IsTreeUnder}
use Rattle.store_model.specs.Trees.{Tree, Node, Entry, Attributes, file_limit, IsNode, IsAttribute, AreAttributes}
use Rattle.store_model.specs.Trees.{IsEntry}
use Rattle.store_model.specs.Trees.Node.{Directory, File}
use Rattle.store_model.proofs.ListsLemmas.{all_front, all_back, all_from_bytes, bytes_from_all, rising_from_is_sorted}
use Rattle.store_model.proofs.ListsLemmas.{is_sorted_from_rising, rising_front}
use Rattle.tree_pairs.specs.Seen.{MayStandNext, bare_entry}
use Rattle.tree_pairs.proofs.ReaderNextLemmas.{stands_next}
use Rattle.dump_streams.specs.Dumps.{DumpStep, after_step, dump_piece, file_steps, node_steps, attribute_steps}
use Rattle.dump_streams.specs.Dumps.{entry_steps, dump}
use Rattle.dump_streams.specs.Dumps.DumpStep.{Write}
use Rattle.dump_streams.proofs.PieceLemmas.{one_piece, pieces_more}
use Rattle.dump_streams.proofs.NextTrees.{IsNext, named_entry, tree_of_make, tree_of_first, tree_of_later, tree_of_name}
use Rattle.dump_streams.proofs.NextTrees.{goes_on}

-- Steps that lead from one tree to another: each may stand next behind those before it.
abbrev pub Chain : Tree → List DumpStep → Tree → Parameters → Type 0
Chain t [] u p = t ≡ u
Chain t (c ∷ cs) u p = IsNext t p c × Chain (after_step t c) cs u p

pub chain_join : (cs ds : List DumpStep) (t m u : Tree) (p : Parameters) → Chain t cs m p → Chain m ds u p
    → Chain t (cs ++ ds) u p
chain_join [] ds t m u p same behind = subst (λ (v : Tree). Chain v ds u p) (sym same) behind
chain_join (c ∷ cs) ds t m u p chain behind = (chain.0, chain_join cs ds (after_step t c) m u p chain.1 behind)

pub chain_split : (cs ds : List DumpStep) (t u : Tree) (p : Parameters) → Chain t (cs ++ ds) u p
    → (m : Tree) × Chain t cs m p × Chain m ds u p
chain_split [] ds t u p chain = (t, refl, chain)
chain_split (c ∷ cs) ds t u p chain = let rest = chain_split cs ds (after_step t c) u p chain.1
    in (rest.0, (chain.0, rest.1), rest.2)

-- they lead to one tree
pub chain_same : (cs : List DumpStep) (t u v : Tree) (p : Parameters) → Chain t cs u p → Chain t cs v p → u ≡ v
chain_same [] t u v p left right = sym left ∙ right
chain_same (c ∷ cs) t u v p left right = chain_same cs (after_step t c) u v p left.1 right.1

-- and its dump goes on with them
pub chain_goes : (cs : List DumpStep) (t u : Tree) (p : Parameters) → IsTreeUnder t p → Chain t cs u p
    → IsTreeUnder u p × (dump u ≡ dump t ++ cs)
chain_goes [] t u p under same =
    (subst (λ (v : Tree). IsTreeUnder v p) same under, ap dump (sym same) ∙ sym (append-nil (dump t)))
chain_goes (c ∷ cs) t u p under chain =
    let step = goes_on t c p under chain.0 in
    let rest = chain_goes cs (after_step t c) u p step.under chain.1 in
    (rest.0, rest.1 ∙ ap (λ (front : List DumpStep). front ++ cs) step.dump_is ∙ append_assoc (dump t) (c ∷ []) cs)

-- ---- the steps of an entry

-- those of a file
file_chain : (n : ℕ) (before : Tree) (x : Path) (content : List ℕ) (p : Parameters) → MayStandNext before x
    → length content ≤ file_limit → IsBytes content → length content ≤ dump_piece * suc n
    → Chain before (file_steps x content) (before ++ (x, bare_entry (File content)) ∷ []) p
file_chain zero before x content p next small valid short =
    let piece : length content ≤ dump_piece = omega (arith, short) in
    subst (λ (cs : List DumpStep). Chain before cs (before ++ (x, bare_entry (File content)) ∷ []) p)
    (sym (one_piece x content piece))
    (inl (record { next = next; at_is = refl; short = piece; valid = valid }), tree_of_first before x content next)
file_chain (suc n) before x content p next small valid short =
    by_test (file_chain n before x) (nat_le (length content) (dump_piece * suc n)) refl
  where
    by_test : ((content : List ℕ) (p : Parameters) → MayStandNext before x → length content ≤ file_limit
        → IsBytes content → length content ≤ dump_piece * suc n
        → Chain before (file_steps x content) (before ++ (x, bare_entry (File content)) ∷ []) p)
        → (b : Bool) → nat_le (length content) (dump_piece * suc n) ≡ b
        → Chain before (file_steps x content) (before ++ (x, bare_entry (File content)) ∷ []) p
    by_test fewer true few = fewer content p next small valid (leb-true (length content) (dump_piece * suc n) few)
    by_test fewer false many =
        let cut = dump_piece * suc n in
        let old : List ℕ = take cut content in
        let run : List ℕ = drop cut content in
        let more : cut < length content = leb-false (length content) cut many in
        let full : length old ≡ cut = length-take-le cut content (omega (arith, more)) in
        let rest = length-drop cut content in
        let whole : old ++ run ≡ content = take-append-drop cut content in
        let bytes = all_from_bytes (old ++ run) (subst IsBytes (sym whole) valid) in
        let left : IsBytes old = bytes_from_all old (all_front (λ c. c < 256) old run bytes) in
        let right : IsBytes run = bytes_from_all run (all_back (λ c. c < 256) old run bytes) in
        let some : 1 ≤ length run = omega (arith, more, rest) in
        let few : length run ≤ dump_piece = omega (arith, short, rest) in
        let front = fewer old p next (omega (arith, full, more, small)) left (omega (arith, full)) in
        let step : Chain (before ++ (x, bare_entry (File old)) ∷ []) (Write x (length old) run ∷ [])
        (before ++ (x, bare_entry (File (old ++ run))) ∷ []) p = (
          inr (record {
            before = before;
            content = old;
            entries_are = refl;
            pieces = n;
            full = full;
            at_is = refl;
            some = some;
            short = few;
            fits = omega (arith, full, rest, more, small);
            valid = right;
          }),
          tree_of_later before x old run next,
        ) in
        subst (λ (all : List ℕ). Chain before (file_steps x all) (before ++ (x, bare_entry (File all)) ∷ []) p) whole
        (subst (λ (cs : List DumpStep). Chain before cs (before ++ (x, bare_entry (File (old ++ run))) ∷ []) p)
        (sym (pieces_more x n old run full some few))
        (chain_join (file_steps x old) (Write x (length old) run ∷ []) before
        (before ++ (x, bare_entry (File old)) ∷ [])
        (before ++ (x, bare_entry (File (old ++ run))) ∷ []) p front step))

node_chain : (before : Tree) (x : Path) (node : Node) (p : Parameters) → MayStandNext before x → IsNode node
    → Chain before (node_steps x node) (before ++ (x, bare_entry node) ∷ []) p
node_chain before x Directory p next is = (next, tree_of_make before x next)
node_chain before x (File content) p next is =
    file_chain (length content) before x content p next is.0 is.1 (omega arith)

-- the first ones of a path's attributes
first_names : (x : Path) (some more : Attributes) → AreAttributes x (some ++ more) → AreAttributes x some
first_names x some more are = record {
  sorted = is_sorted_from_rising name_cmp some
      (rising_front (λ (a b : Name × List ℕ). name_cmp a.0 b.0) some more
      (rising_from_is_sorted name_cmp (some ++ more) are.sorted));
  each = all_front (IsAttribute x) some more are.each;
}

-- a version under which there are attributes has them
has_version : (p : Parameters) (a : Name × List ℕ) (more : Attributes)
    → (has_attributes p.version ≡ false → a ∷ more ≡ []) → IsTrue (has_attributes p.version)
has_version p a more bare = by_test (has_attributes p.version) refl
  where
    by_test : (b : Bool) → has_attributes p.version ≡ b → IsTrue b
    by_test true e = refl
    by_test false e = let none = bare e in cc

-- those of attributes
name_chain : (more : Attributes) (before : Tree) (x : Path) (node : Node) (some : Attributes) (p : Parameters)
    → MayStandNext before x → (has_attributes p.version ≡ false → more ≡ []) → AreAttributes x (some ++ more)
    → Chain (before ++ (x, named_entry node some) ∷ []) (attribute_steps x more)
    (before ++ (x, named_entry node (some ++ more)) ∷ []) p
unfolding attribute_steps
name_chain [] before x node some p next bare are =
    ap (λ (all : Attributes). before ++ (x, named_entry node all) ∷ []) (sym (append-nil some))
name_chain (a ∷ more) before x node some p next bare are =
    let version = has_version p a more bare in
    let so_far : Attributes = some ++ a ∷ [] in
    let split : so_far ++ more ≡ some ++ a ∷ more = append_assoc some (a ∷ []) more in
    let all : AreAttributes x (so_far ++ more) = subst (AreAttributes x) (sym split) are in
    let now : AreAttributes x so_far = first_names x so_far more all in
    let leads = tree_of_name before x node some a.0 a.1 next now in
    let rest = name_chain more before x node so_far p next (λ lacks. absurd (false≢true (sym lacks ∙ version))) all in (
      record { version = version; before = before; node = node; attributes = some; entries_are = refl; are = now },
      subst (λ (u : Tree). Chain u (attribute_steps x more)
          (before ++ (x, named_entry node (some ++ a ∷ more)) ∷ []) p) (sym leads)
          (subst (λ (names : Attributes). Chain (before ++ (x, named_entry node so_far) ∷ [])
          (attribute_steps x more) (before ++ (x, named_entry node names) ∷ []) p) split rest),
    )

entry_chain : (before later : Tree) (x : Path) (entry : Entry) (p : Parameters)
    → IsTreeUnder (before ++ (x, entry) ∷ later) p → Chain before (entry_steps x entry) (before ++ (x, entry) ∷ []) p
entry_chain before later x entry p under =
    let u : Tree = before ++ (x, entry) ∷ later in
    let is : IsEntry u (x, entry) = (all_back (IsEntry u) before ((x, entry) ∷ later) (under.is_tree).entries).0 in
    let next = stands_next before later x entry under.is_tree in
    chain_join (node_steps x entry.node) (attribute_steps x entry.attributes) before
    (before ++ (x, bare_entry entry.node) ∷ []) (before ++ (x, entry) ∷ []) p
    (node_chain before x entry.node p next is.node)
    (name_chain entry.attributes before x entry.node [] p next
    (λ lacks. (all_back (λ (e : Path × Entry). e.1.attributes ≡ []) before ((x, entry) ∷ later)
    (under.bare lacks)).0) is.attributes)

-- ---- the steps of a tree

tree_chain : (later before : Tree) (p : Parameters) → IsTreeUnder (before ++ later) p
    → Chain before (dump later) (before ++ later) p
unfolding dump
tree_chain [] before p under = sym (append-nil before)
tree_chain (e ∷ later) before p under =
    let split : (before ++ e ∷ []) ++ later ≡ before ++ e ∷ later = append_assoc before (e ∷ []) later in
    chain_join (entry_steps e.0 e.1) (dump later) before (before ++ e ∷ []) (before ++ e ∷ later) p
    (entry_chain before later e.0 e.1 p under)
    (subst (λ (u : Tree). Chain (before ++ e ∷ []) (dump later) u p) split
    (tree_chain later (before ++ e ∷ []) p (subst (λ (u : Tree). IsTreeUnder u p) (sym split) under)))

-- the dump of a tree leads to it
pub dump_chain : (u : Tree) (p : Parameters) → IsTreeUnder u p → Chain [] (dump u) u p
dump_chain u p under = tree_chain u [] p under

-- so whatever stands behind the dump of one tree in that of another may stand next
pub next_of_dump : (t u : Tree) (c : DumpStep) (rest : List DumpStep) (p : Parameters) → IsTreeUnder t p
    → IsTreeUnder u p → dump u ≡ dump t ++ c ∷ rest → IsNext t p c
next_of_dump t u c rest p under_t under_u e =
    let split = chain_split (dump t) (c ∷ rest) [] u p
    (subst (λ (cs : List DumpStep). Chain [] cs u p) e (dump_chain u p under_u)) in
    let same : split.0 ≡ t = chain_same (dump t) [] split.0 t p split.1 (dump_chain t p under_t) in
    subst (λ (m : Tree). IsNext m p c) same (split.2).0
