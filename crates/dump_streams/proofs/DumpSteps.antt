-- A step that may stand next in a dump: it is read back from its line, no condition refuses it, and it adds pairs.
use Rattle.std.proofs.Common.{◌≡◌, ℕ, suc, ◌+◌, ◌*◌, ◌<◌, ◌≤◌, ◌^◌, List, [], ◌∷◌, ◌++◌, length, Bool, true, false, not}
use Rattle.std.proofs.Common.{cond, codes, IsTrue, inl, inr, Option, Some, None, is_some, nat_lt, nat_le, refl, sym, ap}
use Rattle.std.proofs.Common.{subst, ◌∙◌, arith, append_assoc, length-append, leb-true}
use Rattle.std.specs.Fmt.{decimal}
use Rattle.std.proofs.lemmas.Bool.{le-ltb, lt-leb, false≢true}
use Rattle.std.proofs.lemmas.Fmt.{length-decimal-le}
use Rattle.std.proofs.lemmas.List.{length-map, map-append}
use Rattle.store_model.specs.declared.version.Version.{Version}
use Rattle.store_model.specs.declared.version.Version.TheVariants.{One, Two}
use Rattle.store_model.specs.Lists.{IsBytes}
use Rattle.store_model.specs.Parameters.{Parameters}
use Rattle.store_model.specs.Paths.{Path, Name, is_path, is_root, is_name, attribute_name_limit, path_text, key}
use Rattle.store_model.specs.Paths.{attribute_key}
use Rattle.store_model.specs.Trees.{Tree, Node, Attributes, file_limit, attribute_limit, node_of, node_at}
use Rattle.store_model.specs.Trees.{is_directory_node, contents, contents_of, IsTree, IsEntry, IsAttribute}
use Rattle.store_model.specs.Trees.{AreAttributes}
use Rattle.store_model.specs.Trees.Node.{Directory, File}
use Rattle.store_model.specs.Pairs.{Pair, is_inline, inline_limit, has_attributes, file_pairs, node_pairs}
use Rattle.store_model.specs.Pairs.{attribute_value, pairs}
use Rattle.store_model.specs.Pages.{IsTreeUnder}
use Rattle.store_model.specs.Commands.{IsCommand, command_text, content_text}
use Rattle.store_model.specs.Commands.Reply.{Acknowledged}
use Rattle.store_model.specs.Steps.{Condition, conditions, first_refusal, refusal_of, reply_of}
use Rattle.store_model.specs.Steps.{is_on_attributes, lacks_version}
use Rattle.store_model.specs.Scripts.{line_limit}
use Rattle.store_model.proofs.ListsLemmas.{second_true, all_back}
use Rattle.store_model.proofs.TreesLemmas.{node_at-find}
use Rattle.store_model.proofs.TreesLemmasFewer.{keys_of}
use Rattle.store_model.proofs.TreesLemmasSteps.{AllFail}
use Rattle.model_laws.proofs.CommandsLemmasTexts.{short_content}
use Rattle.script_lines.proofs.PathTexts.{names_text-fits, path_text-names}
use Rattle.tree_pairs.specs.Seen.{MayStandNext, bare_entry}
use Rattle.tree_pairs.specs.Fronts.{block_pairs}
use Rattle.tree_pairs.proofs.ReaderNextLemmas.{find_last, find_at_last, stands_next}
use Rattle.tree_pairs.proofs.BlockLemmas.{blocks-append, pairs_behind}
use Rattle.tree_pairs.proofs.FrontLemmas.{length-block_pairs, bare_pairs_more, attribute_pairs_more}
use Rattle.dump_streams.specs.Dumps.{DumpStep, command_of_step, after_step, dump_piece, step_text}
use Rattle.dump_streams.specs.Dumps.DumpStep.{Make, Write, Set}
use Rattle.dump_streams.proofs.NextTrees.{IsNext, named_entry, tree_of_make, tree_of_first, tree_of_later, tree_of_name}

-- ---- how long the lines are

-- the most bytes of a dump for each pair of its tree
abbrev pub pair_text : ℕ
pair_text = 1024

-- the text of a path other than the root
short_path : (p : Path) → IsTrue (is_path p) → is_root p ≡ false → length (path_text p) ≤ 120
short_path p valid other = omega (arith, ap length (path_text-names p other), names_text-fits p valid)

short_number : (n : ℕ) → n < 2 ^ 32 → length (decimal n) ≤ 10
short_number n small = length-decimal-le 10 n (omega arith) (omega arith) (omega arith)

-- a text and a field more
length_with_field : (front text : List ℕ) → length (front ++ codes " " ++ text) ≡ length front + 1 + length text
length_with_field front text = omega (arith, length-append (front ++ codes " ") text, length-append front (codes " "))

short_make : (x : Path) → IsTrue (is_path x) → is_root x ≡ false → length (step_text (Make x)) ≤ 125
unfolding command_text
short_make x valid other = omega (arith, length-append (codes "make ") (path_text x), short_path x valid other)

short_write : (x : Path) (at : ℕ) (bytes : List ℕ) → IsTrue (is_path x) → is_root x ≡ false → at < 2 ^ 32
    → length (step_text (Write x at bytes)) ≤ 139 + 2 * length bytes
unfolding command_text
short_write x at bytes valid other small =
    let front = codes "write " ++ path_text x in
    omega (
      arith,
      length_with_field (front ++ codes " " ++ decimal at) (content_text bytes),
      length_with_field front (decimal at),
      length-append (codes "write ") (path_text x),
      short_path x valid other,
      short_number at small,
      short_content bytes,
    )

short_set : (x : Path) (a : Name) (bytes : List ℕ) → IsTrue (is_path x) → is_root x ≡ false → length a ≤ 32
    → length (step_text (Set x a bytes)) ≤ 159 + 2 * length bytes
unfolding command_text
short_set x a bytes valid other small =
    let front = codes "set " ++ path_text x in
    omega (
      arith,
      length_with_field (front ++ codes " " ++ a)
          (content_text bytes),
      length_with_field front a,
      length-append (codes "set ")
          (path_text x),
      short_path x valid other,
      short_content bytes,
    )

-- ---- what a step of a dump is like, behind those before it

-- the new pairs have the keys of the old ones and more behind them, enough for a text with LF behind it
pub record AddsPairs (old new : List Pair) (text : List ℕ) : Type 0 where
  pub more : List (List ℕ)
  pub keys_are : keys_of new ≡ keys_of old ++ more
  pub enough : length text + 1 ≤ pair_text * length more

pub record IsDumpStep (t : Tree) (s : DumpStep) (p : Parameters) : Type 0 where
  pub command : IsCommand (command_of_step s)
  pub short : length (step_text s) ≤ line_limit
  pub adds : AddsPairs (pairs t p) (pairs (after_step t s) p) (step_text s)
  pub version : lacks_version (command_of_step s) p ≡ false
  pub allowed : refusal_of t (command_of_step s) ≡ None
  pub acknowledged : reply_of t (command_of_step s) p ≡ Acknowledged

-- where each condition fails, there is no refusal
no_refusal : (cs : List Condition) → AllFail cs → first_refusal cs ≡ None
unfolding first_refusal
no_refusal [] fail = refl
no_refusal (condition ∷ cs) fail = ap (λ b. cond b (Some condition.1) (first_refusal cs)) fail.0 ∙ no_refusal cs fail.1

-- pairs behind the old ones
adds_behind : (old new behind : List Pair) (text : List ℕ) → new ≡ old ++ behind
    → length text + 1 ≤ pair_text * length behind → AddsPairs old new text
adds_behind old new behind text split enough = record {
  more = keys_of behind;
  keys_are = ap keys_of split ∙ map-append (λ (pair : Pair). pair.0) old behind;
  enough = omega (arith, enough, length-map behind (λ (pair : Pair). pair.0));
}

-- ---- a directory

make_step : (t : Tree) (x : Path) (p : Parameters) → MayStandNext t x → IsDumpStep t (Make x) p
unfolding node_pairs is_on_attributes conditions reply_of
make_step t x p next =
    let absent : node_at t x ≡ None = node_at-find t x next.below_root ∙ ap node_of (find_last x t next.behind) in
    let short = short_make x next.valid next.below_root in
    record {
      command = next.valid;
      short = omega (arith, short);
      adds = adds_behind (pairs t p) (pairs (after_step t (Make x)) p) (node_pairs x Directory p) (step_text (Make x))
          (ap (λ (u : Tree). pairs u p) (tree_of_make t x next) ∙ bare_pairs_more t x Directory p)
          (omega (arith, short));
      version = refl;
      allowed = no_refusal (conditions t (command_of_step (Make x)))
          (next.below_root, (ap not next.parent_directory, (ap is_some absent, tt)));
      acknowledged = refl;
    }

-- ---- the first piece of a file

-- a file in its first pair is short
inline_short : (version : Version) (n : ℕ) → is_inline version n ≡ true → n ≤ inline_limit
inline_short One n e = absurd (false≢true e)
inline_short Two n e = leb-true n inline_limit e

-- how many pairs a file of one piece has
pairs_enough : (inline : Bool) (x : Path) (bytes : List ℕ) (size : ℕ) → (inline ≡ true → length bytes ≤ inline_limit)
    → size ≤ 139 + 2 * length bytes → size + 1 ≤ pair_text * length (file_pairs inline x bytes)
pairs_enough true x bytes size few small = omega (arith, few refl, small)
pairs_enough false x bytes size few small = let count = length-block_pairs x bytes in omega (arith, small, count)

first_step : (t : Tree) (x : Path) (bytes : List ℕ) (p : Parameters) → MayStandNext t x → length bytes ≤ dump_piece
    → IsBytes bytes → IsDumpStep t (Write x 0 bytes) p
unfolding node_pairs is_on_attributes conditions reply_of
first_step t x bytes p next short valid =
    let absent : node_at t x ≡ None = node_at-find t x next.below_root ∙ ap node_of (find_last x t next.behind) in
    let size = short_write x 0 bytes next.valid next.below_root (omega arith) in
    record {
      command = (next.valid, omega arith, valid);
      short = omega (arith, size, short);
      adds = adds_behind (pairs t p) (pairs (after_step t (Write x 0 bytes)) p) (node_pairs x (File bytes) p)
          (step_text (Write x 0 bytes))
          (ap (λ (u : Tree). pairs u p) (tree_of_first t x bytes next) ∙ bare_pairs_more t x (File bytes) p)
          (pairs_enough (is_inline p.version (length bytes)) x bytes (length (step_text (Write x 0 bytes)))
          (inline_short p.version (length bytes)) size);
      version = refl;
      allowed = no_refusal (conditions t (command_of_step (Write x 0 bytes))) (
        ap not next.parent_directory,
        (
          ap is_directory_node absent,
          (
            le-ltb (length (contents t x)) 0 (omega arith),
            (le-ltb file_limit (0 + length bytes) (omega (arith, short)), tt),
          ),
        ),
      );
      acknowledged = refl;
    }

-- ---- a further piece of it

in_blocks : (version : Version) (n : ℕ) → inline_limit < n → is_inline version n ≡ false
in_blocks One n large = refl
in_blocks Two n large = lt-leb n inline_limit large

-- the pairs of a file in blocks, with a piece more
file_adds : (first : List Pair) (x : Path) (content run text : List ℕ) (pieces : ℕ)
    → length content ≡ dump_piece * suc pieces → 1 ≤ length run → length run ≤ dump_piece
    → length text ≤ 139 + 2 * length run
    → AddsPairs (first ++ file_pairs false x content) (first ++ file_pairs false x (content ++ run)) text
file_adds first x content run text pieces full some short size =
    let blocks = 8 * suc pieces in
    let behind = pairs_behind x blocks content run in
    let split : block_pairs x (content ++ run) ≡ block_pairs x content ++ behind =
    blocks-append x blocks content run (omega (arith, full)) in
    let old : List (List ℕ) = keys_of (file_pairs false x content) in
    let more : List (List ℕ) = keys_of behind in
    let own : keys_of (file_pairs false x (content ++ run)) ≡ old ++ more =
    ap (λ (ks : List (List ℕ)). key x 0 ∷ ks)
    (ap keys_of split ∙ map-append (λ (pair : Pair). pair.0) (block_pairs x content) behind) in
    record {
      more = more;
      keys_are = map-append (λ (pair : Pair). pair.0) first (file_pairs false x (content ++ run))
          ∙ ap (λ (ks : List (List ℕ)). keys_of first ++ ks) own
          ∙ sym (append_assoc (keys_of first) old more)
          ∙ ap (λ (ks : List (List ℕ)). ks ++ more)
          (sym (map-append (λ (pair : Pair). pair.0) first (file_pairs false x content)));
      enough = omega (
        arith,
        size,
        full,
        some,
        short,
        length-append content run,
        length-block_pairs x content,
        length-block_pairs x (content ++ run),
        ap length split,
        length-append (block_pairs x content) behind,
        length-map behind (λ (pair : Pair). pair.0),
      );
    }

later_pairs : (before : Tree) (x : Path) (content run text : List ℕ) (pieces : ℕ) (p : Parameters)
    → length content ≡ dump_piece * suc pieces → 1 ≤ length run → length run ≤ dump_piece
    → length text ≤ 139 + 2 * length run
    → AddsPairs (pairs (before ++ (x, bare_entry (File content)) ∷ []) p)
    (pairs (before ++ (x, bare_entry (File (content ++ run))) ∷ []) p) text
unfolding node_pairs
later_pairs before x content run text pieces p full some short size =
    let own : node_pairs x (File content) p ≡ file_pairs false x content =
    ap (λ b. file_pairs b x content) (in_blocks p.version (length content) (omega (arith, full))) in
    let longer : node_pairs x (File (content ++ run)) p ≡ file_pairs false x (content ++ run) =
    ap (λ b. file_pairs b x (content ++ run))
    (in_blocks p.version (length (content ++ run)) (omega (arith, full, length-append content run))) in
    let old : pairs (before ++ (x, bare_entry (File content)) ∷ []) p ≡ pairs before p ++ file_pairs false x content =
    bare_pairs_more before x (File content) p ∙ ap (λ (own : List Pair). pairs before p ++ own) own in
    let new : pairs (before ++ (x, bare_entry (File (content ++ run))) ∷ []) p
    ≡ pairs before p ++ file_pairs false x (content ++ run) =
    bare_pairs_more before x (File (content ++ run)) p ∙ ap (λ (own : List Pair). pairs before p ++ own) longer in
    subst (λ (s : List Pair). AddsPairs s (pairs (before ++ (x, bare_entry (File (content ++ run))) ∷ []) p) text)
    (sym old)
    (subst (λ (s : List Pair). AddsPairs (pairs before p ++ file_pairs false x content) s text) (sym new)
    (file_adds (pairs before p) x content run text pieces full some short size))

later_step : (before : Tree) (x : Path) (content run : List ℕ) (pieces : ℕ) (p : Parameters)
    → IsTree (before ++ (x, bare_entry (File content)) ∷ []) → length content ≡ dump_piece * suc pieces → 1 ≤ length run
    → length run ≤ dump_piece
    → length content + length run ≤ file_limit → IsBytes run
    → IsDumpStep (before ++ (x, bare_entry (File content)) ∷ []) (Write x (length content) run) p
unfolding is_on_attributes conditions reply_of
later_step before x content run pieces p tree full some short fits valid =
    let t : Tree = before ++ (x, bare_entry (File content)) ∷ [] in
    let c = Write x (length content) run in
    let next = stands_next before [] x (bare_entry (File content)) tree in
    let entry : IsEntry t (x, bare_entry (File content)) =
    (all_back (IsEntry t) before ((x, bare_entry (File content)) ∷ []) tree.entries).0 in
    let there : node_at t x ≡ Some (File content) =
    node_at-find t x next.below_root ∙ ap node_of (find_at_last x (bare_entry (File content)) before next.behind) in
    let size = short_write x (length content) run next.valid next.below_root (omega (arith, fits)) in
    record {
      command = (next.valid, omega (arith, fits), valid);
      short = omega (arith, size, short);
      adds = subst (λ (u : Tree). AddsPairs (pairs t p) (pairs u p) (step_text c))
          (sym (tree_of_later before x content run next))
          (later_pairs before x content run (step_text c) pieces p full some short size);
      version = refl;
      allowed = no_refusal (conditions t (command_of_step c)) (
        ap not entry.parent_directory,
        (
          ap is_directory_node there,
          (
            ap (λ (found : Option Node). nat_lt (length (contents_of found)) (length content)) there
                ∙ le-ltb (length content) (length content) (omega arith),
            (le-ltb file_limit (length content + length run) fits, tt),
          ),
        ),
      );
      acknowledged = refl;
    }

-- ---- an attribute more

name_step : (before : Tree) (x : Path) (node : Node) (attributes : Attributes) (name : Name) (bytes : List ℕ)
    (p : Parameters) → IsTree (before ++ (x, named_entry node attributes) ∷ []) → IsTrue (has_attributes p.version)
    → AreAttributes x (attributes ++ (name, bytes) ∷ [])
    → IsDumpStep (before ++ (x, named_entry node attributes) ∷ []) (Set x name bytes) p
unfolding is_on_attributes conditions reply_of
name_step before x node attributes name bytes p tree version are =
    let t : Tree = before ++ (x, named_entry node attributes) ∷ [] in
    let c = Set x name bytes in
    let next = stands_next before [] x (named_entry node attributes) tree in
    let is : IsAttribute x (name, bytes) = (all_back (IsAttribute x) attributes ((name, bytes) ∷ []) are.each).0 in
    let there : node_at t x ≡ Some node = node_at-find t x next.below_root
    ∙ ap node_of (find_at_last x (named_entry node attributes) before next.behind) in
    let size = short_set x name bytes next.valid next.below_root
    (leb-true (length name) attribute_name_limit
    (second_true (is_name name) (nat_le (length name) attribute_name_limit) is.name)) in
    record {
      command = (next.valid, is.name, is.bytes);
      short = omega (arith, size, is.short);
      adds = adds_behind (pairs t p) (pairs (after_step t c) p)
          ((attribute_key x name, attribute_value bytes) ∷ []) (step_text c)
          (ap (λ (u : Tree). pairs u p) (tree_of_name before x node attributes name bytes next are)
          ∙ attribute_pairs_more before x node attributes name bytes p) (omega (arith, size, is.short));
      version = ap not version;
      allowed = no_refusal (conditions t (command_of_step c)) (
        next.below_root,
        (
          ap (λ (found : Option Node). not (is_some found)) there,
          (le-ltb attribute_limit (length bytes) is.short, (ap not is.fits, tt)),
        ),
      );
      acknowledged = refl;
    }

-- ---- each step of a dump

pub step_of_next : (t : Tree) (c : DumpStep) (p : Parameters) → IsTreeUnder t p → IsNext t p c → IsDumpStep t c p
step_of_next t (Make x) p under next = make_step t x p next
step_of_next t (Write x at bytes) p under (inl first) =
    subst (λ i. IsDumpStep t (Write x i bytes) p) (sym first.at_is)
    (first_step t x bytes p first.next first.short first.valid)
step_of_next t (Write x at bytes) p under (inr later) =
    subst (λ i. IsDumpStep t (Write x i bytes) p) (sym later.at_is)
    (subst (λ (u : Tree). IsDumpStep u (Write x (length later.content) bytes) p) (sym later.entries_are)
    (later_step later.before x later.content bytes later.pieces p
    (subst IsTree later.entries_are under.is_tree) later.full later.some later.short later.fits later.valid))
step_of_next t (Set x name bytes) p under later =
    subst (λ (u : Tree). IsDumpStep u (Set x name bytes) p) (sym later.entries_are)
    (name_step later.before x later.node later.attributes name bytes p
    (subst IsTree later.entries_are under.is_tree) later.version later.are)
