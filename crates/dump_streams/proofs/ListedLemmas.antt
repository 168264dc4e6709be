-- The pairs that a step of a dump adds are those that the next tree has more.
use Rattle.std.specs.Result.{OnOk}
use Rattle.std.proofs.Common.{Result, Ok, Err, ◌≡◌, ℕ, suc, ◌+◌, ◌*◌, ◌/◌, ◌<◌, ◌≤◌, List, [], ◌∷◌, ◌++◌, min, length}
use Rattle.std.proofs.Common.{take, drop, slice_set, Bool, false, refl, sym, ap, ap₂, subst, ◌∙◌, arith}
use Rattle.std.proofs.lemmas.Bool.{lt-leb}
use Rattle.std.proofs.lemmas.List.{append-nil, append_assoc, length-append, length-map, map-append, get_or_at}
use Rattle.std.proofs.lemmas.List.Concat.{flat_map-append}
use Rattle.std.proofs.Math.Seq.{set-append_seam}
use Rattle.dump_streams.specs.declared.listed_pairs.PairsFault.{PairsFault}
use Rattle.store_model.specs.declared.version.Version.{Version}
use Rattle.store_model.specs.declared.version.Version.TheVariants.{One, Two}
use Rattle.store_model.specs.Draws.{Draw, draw_of}
use Rattle.store_model.specs.Pages.{pages, page_count}
use Rattle.store_model.specs.Parameters.{Parameters}
use Rattle.store_model.specs.Paths.{Path, Name, key, attribute_key}
use Rattle.store_model.specs.Pairs.{Pair, file_block, file_value, is_inline, inline_limit, file_pairs, node_pairs}
use Rattle.store_model.specs.Pairs.{attribute_value, attribute_pairs, entry_pairs, pairs}
use Rattle.store_model.specs.Trees.{Tree, Node, Entry, Attributes}
use Rattle.store_model.specs.Trees.Node.{File}
use Rattle.store_model.proofs.TreesLemmasBytes.{fronts_same}
use Rattle.tree_pairs.specs.Seen.{bare_entry}
use Rattle.layout_scratch.specs.Counting.{HasCounted}
use Rattle.layout_scratch.specs.Sorting.{sorted_limit}
use Rattle.dump_streams.specs.declared.listed_pairs.ListedPairs.{ListedPairs}
use Rattle.dump_streams.specs.Listed.{HoldsListed, IsFirstOfLast, AddsPairs, AddsPiece, ArePairsOf, IsTooLarge, keys_of}
use Rattle.dump_streams.specs.Listed.{blocks_from, with_length}
use Rattle.dump_streams.proofs.NextTrees.{named_entry}
use Rattle.dump_streams.proofs.ListedBlocks.{block_first, block_none, blocks_behind}

-- ---- the pairs of a tree's last path

-- the path before the last one, and the last, are told by all
ends_same : (t front : Tree) (x last : Path × Entry) → t ++ x ∷ [] ≡ front ++ last ∷ [] → t ≡ front
ends_same t front x last e =
    let left = length-append t (x ∷ []) in
    let right = length-append front (last ∷ []) in
    let same : length (t ++ x ∷ []) ≡ length (front ++ last ∷ []) = ap length e in
    (fronts_same t front (x ∷ []) (last ∷ []) (omega (arith, left, right, same)) e).0

-- where a path stands behind a tree, its first pair is behind the tree's
first_of_next : (t : Tree) (x : Path × Entry) (p : Parameters) (first : ℕ) → first ≡ length (pairs t p)
    → IsFirstOfLast (t ++ x ∷ []) p first
first_of_next t x p first is front last e = is ∙ ap (λ (w : Tree). length (pairs w p)) (ends_same t front x last e)

-- so it is whatever the last path has
first_again : (before : Tree) (x y : Path × Entry) (p : Parameters) (first : ℕ)
    → IsFirstOfLast (before ++ x ∷ []) p first → IsFirstOfLast (before ++ y ∷ []) p first
first_again before x y p first is = first_of_next before y p first (is before x refl)

pairs_push : (t : Tree) (x : Path) (entry : Entry) (p : Parameters)
    → pairs (t ++ (x, entry) ∷ []) p ≡ pairs t p ++ entry_pairs x entry p
unfolding pairs
pairs_push t x entry p = flat_map-append (λ (e : Path × Entry). entry_pairs e.0 e.1 p) t ((x, entry) ∷ [])
    ∙ ap (λ (own : List Pair). pairs t p ++ own) (append-nil (entry_pairs x entry p))

-- those of a path without attributes
bare_pairs : (t : Tree) (x : Path) (node : Node) (p : Parameters)
    → pairs (t ++ (x, bare_entry node) ∷ []) p ≡ pairs t p ++ node_pairs x node p
unfolding attribute_pairs
bare_pairs t x node p = pairs_push t x (bare_entry node) p
    ∙ ap (λ (own : List Pair). pairs t p ++ own) (append-nil (node_pairs x node p))

-- those of a file in blocks
file_pairs_are : (t : Tree) (x : Path) (bytes : List ℕ) (p : Parameters) → is_inline p.version (length bytes) ≡ false
    → pairs (t ++ (x, bare_entry (File bytes)) ∷ []) p ≡ pairs t p ++ (key x 0, file_value (length bytes))
    ∷ blocks_from x 1 bytes
unfolding node_pairs
file_pairs_are t x bytes p form = bare_pairs t x (File bytes) p ∙ ap (λ b. pairs t p ++ file_pairs b x bytes) form

-- a long file stands in blocks
long_form : (version : Version) (n : ℕ) → inline_limit < n → is_inline version n ≡ false
long_form One n long = refl
long_form Two n long = lt-leb n inline_limit long

-- ---- what is added one behind the other

pub adds_none : (d : Draw) (s : ListedPairs) → AddsPairs d s.pairs [] s s
adds_none d s = record {
  pairs_are = sym (append-nil s.pairs);
  counted = λ keys counted. subst (λ (ks : List (List ℕ)). HasCounted d ks s.counter) (sym (append-nil keys)) counted;
  few = λ few. few;
  grows = omega arith;
}

pub adds_join : (d : Draw) (before xs ys : List Pair) (old mid new : ListedPairs) → AddsPairs d before xs old mid
    → AddsPairs d mid.pairs ys mid new → AddsPairs d before (xs ++ ys) old new
adds_join d before xs ys old mid new left right =
    let up = left.grows in
    let further = right.grows in
    record {
      pairs_are = right.pairs_are ∙ ap (λ (s : List Pair). s ++ ys) left.pairs_are ∙ append_assoc before xs ys;
      counted = λ keys counted. subst (λ (ks : List (List ℕ)). HasCounted d ks new.counter)
          (append_assoc keys (keys_of xs) (keys_of ys)
          ∙ ap (λ (ks : List (List ℕ)). keys ++ ks) (sym (map-append (λ (pair : Pair). pair.0) xs ys)))
          (right.counted (keys ++ keys_of xs) (left.counted keys counted));
      few = λ few. right.few (left.few few);
      grows = omega (arith, up, further);
    }

-- a block, and those of the rest
pub adds_block : (d : Draw) (path : Path) (number : ℕ) (rest k block behind : List ℕ) (old mid new : ListedPairs)
    → k ≡ key path number → block ≡ take file_block rest → behind ≡ drop file_block rest → 1 ≤ length rest
    → AddsPairs d old.pairs ((k, block) ∷ []) old mid
    → AddsPairs d mid.pairs (blocks_from path (number + 1) behind) mid new
    → AddsPairs d old.pairs (blocks_from path number rest) old new
adds_block d path number rest k block behind old mid new key_is block_is behind_is some left right =
    let all : (k, block) ∷ blocks_from path (number + 1) behind ≡ blocks_from path number rest =
    ap₂ (λ (x y : List ℕ). (x, y) ∷ blocks_from path (number + 1) behind) key_is block_is
    ∙ ap (λ (xs : List ℕ). (key path number, take file_block rest) ∷ blocks_from path (number + 1) xs) behind_is
    ∙ sym (block_first path number rest some) in
    subst (λ (added : List Pair). AddsPairs d old.pairs added old new) all
    (adds_join d old.pairs ((k, block) ∷ []) (blocks_from path (number + 1) behind) old mid new left right)

-- no bytes have no block
pub adds_no_block : (d : Draw) (path : Path) (number : ℕ) (rest : List ℕ) (s : ListedPairs) → rest ≡ []
    → AddsPairs d s.pairs (blocks_from path number rest) s s
adds_no_block d path number rest s none =
    subst (λ (added : List Pair). AddsPairs d s.pairs added s s)
    (sym (ap (blocks_from path number) none ∙ block_none path number)) (adds_none d s)

-- what was added may be told by other words
pub on_ok : {P Q : Type 0} (result : Result (Unit {0}) PairsFault) → (P → Q) → OnOk result P → OnOk result Q
on_ok (Ok u) f held = f held
on_ok (Err e) f held = tt

-- a file in blocks: its first pair, and the blocks
pub adds_file : (d : Draw) (path : Path) (version : Version) (inline : Bool) (shown bytes value : List ℕ)
    (old mid new : ListedPairs) (result : Result (Unit {0}) PairsFault)
    → shown ≡ bytes → inline ≡ is_inline version (length shown) → inline ≡ false → value ≡ file_value (length shown)
    → AddsPairs d old.pairs ((key path 0, value) ∷ []) old mid
    → OnOk result (AddsPairs d mid.pairs (blocks_from path 1 shown) mid new)
    → OnOk result (AddsPairs d old.pairs (file_pairs (is_inline version (length bytes)) path bytes) old new)
adds_file d path version inline shown bytes value old mid new result same form blocked length_is first added =
    let pairs_are : (key path 0, value) ∷ blocks_from path 1 shown
    ≡ file_pairs (is_inline version (length bytes)) path bytes =
    ap (λ (v : List ℕ). (key path 0, v) ∷ blocks_from path 1 shown) length_is
    ∙ ap (λ (b : Bool). file_pairs b path shown) (sym blocked ∙ form)
    ∙ ap (λ (xs : List ℕ). file_pairs (is_inline version (length xs)) path xs) same in
    on_ok result (λ blocks. subst (λ (s : List Pair). AddsPairs d old.pairs s old new) pairs_are
    (adds_join d old.pairs ((key path 0, value) ∷ []) (blocks_from path 1 shown) old mid new first blocks)) added

-- a piece: the file's length, and the blocks
pub adds_piece : (d : Draw) (path : Path) (at len : ℕ) (shown bytes : List ℕ) (old mid new : ListedPairs)
    (result : Result (Unit {0}) PairsFault)
    → shown ≡ bytes → len ≡ min (at + length shown) 4294967295 → mid.pairs ≡ with_length old.pairs old.first len
    → mid.counter ≡ old.counter
    → OnOk result (AddsPairs d mid.pairs (blocks_from path (at / file_block + 1) shown) mid new)
    → OnOk result (AddsPiece d path at bytes old new)
adds_piece d path at len shown bytes old mid new result same len_is patched counter added = on_ok result piece added
  where
    piece : AddsPairs d mid.pairs (blocks_from path (at / file_block + 1) shown) mid new
        → AddsPiece d path at bytes old new
    piece adds fits =
        let long : length shown ≡ length bytes = ap length same in
        let len_fits : len ≡ at + length bytes = omega (arith, long, len_is, fits) in
        let grows = adds.grows in
        let pages : mid.counter.pages ≡ old.counter.pages = ap (λ counter. counter.pages) counter in
        record {
          pairs_are = adds.pairs_are
              ∙ ap (λ (s : List Pair). s ++ blocks_from path (at / file_block + 1) shown)
              (patched ∙ ap (with_length old.pairs old.first) len_fits)
              ∙ ap (λ (xs : List ℕ). with_length old.pairs old.first (at + length bytes)
              ++ blocks_from path (at / file_block + 1) xs) same;
          counted = λ keys counted.
              subst (λ (xs : List ℕ). HasCounted d
              (keys ++ keys_of (blocks_from path (at / file_block + 1) xs)) new.counter) same
              (adds.counted keys (subst (HasCounted d keys) (sym counter) counted));
          few = λ few. adds.few (subst (λ counter. counter.keys ≤ sorted_limit) (sym counter) few);
          grows = omega (arith, grows, pages);
        }

-- ---- what is told

pub told_pages : (listed : ListedPairs) (t : Tree) (p : Parameters) → HoldsListed listed t p
    → listed.counter.pages ≡ page_count t p
unfolding pages
told_pages listed t p held = sym ((held.counted).pages_are (pairs t p) refl)

pub told_large : (listed : ListedPairs) (t : Tree) (p : Parameters) → HoldsListed listed t p
    → listed.params.slots < listed.counter.pages → IsTooLarge t p
told_large listed t p held large =
    let told = told_pages listed t p held in
    let slots : listed.params.slots ≡ p.slots = ap (λ (q : Parameters). q.slots) held.params_are in
    omega (arith, told, slots, large)

pub told_pairs : (listed : ListedPairs) (t : Tree) (p : Parameters) → HoldsListed listed t p
    → listed.counter.pages ≤ listed.params.slots → ArePairsOf t p listed.pairs
told_pairs listed t p held room =
    let told = told_pages listed t p held in
    let slots : listed.params.slots ≡ p.slots = ap (λ (q : Parameters). q.slots) held.params_are in
    let fits : listed.counter.pages ≤ p.slots = omega (arith, slots, room) in
    let kept = held.kept fits in
    let few = held.few in
    let count = (held.counted).keys_are in
    let keys : length (keys_of (pairs t p)) ≡ length (pairs t p) = length-map (pairs t p) (λ (pair : Pair). pair.0) in
    let long : length listed.pairs ≡ length (pairs t p) = ap length kept in
    record { pairs_are = kept; room = omega (arith, told, fits); few = omega (arith, few, count, keys, long) }

-- nothing is held of the empty tree
pub holds_nothing : (listed : ListedPairs) (p : Parameters) → listed.params ≡ p
    → HasCounted (draw_of p) [] listed.counter → listed.pairs ≡ [] → HoldsListed listed [] p
unfolding pairs
holds_nothing listed p params counted none =
    let count = counted.keys_are in
    record {
      params_are = params;
      counted = counted;
      few = omega (arith, count);
      kept = λ room. none;
      first = λ room front last e. absurd (no_end front last e);
    }
  where
    no_end : (front : Tree) (last : Path × Entry) → [] ≡ front ++ last ∷ [] → ⊥
    no_end front last e =
        let long = length-append front (last ∷ []) in
        let same : length (front ++ last ∷ []) ≡ 0 = sym (ap length e) in
        omega (arith, long, same)

-- ---- what is held next

holds_more : (old new : ListedPairs) (t u : Tree) (p : Parameters) (d : Draw) (before added : List Pair)
    → HoldsListed old t p → d ≡ draw_of old.params → new.params ≡ old.params → AddsPairs d before added old new
    → keys_of (pairs u p) ≡ keys_of (pairs t p) ++ keys_of added
    → (old.counter.pages ≤ p.slots → before ++ added ≡ pairs u p)
    → (old.counter.pages ≤ p.slots → IsFirstOfLast u p new.first)
    → HoldsListed new u p
holds_more old new t u p d before added held draw params adds keys kept first =
    let grows = adds.grows in
    let same : d ≡ draw_of p = draw ∙ ap draw_of held.params_are in
    let counted : HasCounted d (keys_of (pairs t p)) old.counter =
    subst (λ (e : Draw). HasCounted e (keys_of (pairs t p)) old.counter) (sym same) held.counted in
    let more : HasCounted (draw_of p) (keys_of (pairs t p) ++ keys_of added) new.counter =
    subst (λ (e : Draw). HasCounted e (keys_of (pairs t p) ++ keys_of added) new.counter) same
    (adds.counted (keys_of (pairs t p)) counted) in
    record {
      params_are = params ∙ held.params_are;
      counted = subst (λ (ks : List (List ℕ)). HasCounted (draw_of p) ks new.counter) (sym keys) more;
      few = adds.few held.few;
      kept = λ room. adds.pairs_are ∙ kept (omega (arith, grows, room));
      first = λ room. first (omega (arith, grows, room));
    }

-- pairs behind those of a tree
keys_behind : (s added : List Pair) → keys_of (s ++ added) ≡ keys_of s ++ keys_of added
keys_behind s added = map-append (λ (pair : Pair). pair.0) s added

-- a path more
pub holds_path : (old new : ListedPairs) (t : Tree) (x : Path) (node : Node) (p : Parameters) (d : Draw)
    → HoldsListed old t p → d ≡ draw_of old.params → new.params ≡ old.params
    → AddsPairs d old.pairs (node_pairs x node p) old new → new.first ≡ length old.pairs
    → HoldsListed new (t ++ (x, bare_entry node) ∷ []) p
holds_path old new t x node p d held draw params adds first =
    let more = bare_pairs t x node p in
    holds_more old new t (t ++ (x, bare_entry node) ∷ []) p d old.pairs (node_pairs x node p) held draw params adds
    (ap keys_of more ∙ keys_behind (pairs t p) (node_pairs x node p))
    (λ room. ap (λ (s : List Pair). s ++ node_pairs x node p) (held.kept room) ∙ sym more)
    (λ room. first_of_next t (x, bare_entry node) p new.first (first ∙ ap length (held.kept room)))

-- an attribute more
pub holds_name : (old new : ListedPairs) (before : Tree) (x : Path) (node : Node) (attributes : Attributes)
    (name : Name) (bytes : List ℕ) (p : Parameters) (d : Draw)
    → HoldsListed old (before ++ (x, named_entry node attributes) ∷ []) p → d ≡ draw_of old.params
    → new.params ≡ old.params
    → AddsPairs d old.pairs ((attribute_key x name, attribute_value bytes) ∷ []) old new → new.first ≡ old.first
    → HoldsListed new (before ++ (x, named_entry node (attributes ++ (name, bytes) ∷ [])) ∷ []) p
unfolding attribute_pairs
holds_name old new before x node attributes name bytes p d held draw params adds first =
    let t : Tree = before ++ (x, named_entry node attributes) ∷ [] in
    let all : Attributes = attributes ++ (name, bytes) ∷ [] in
    let u : Tree = before ++ (x, named_entry node all) ∷ [] in
    let added : List Pair = (attribute_key x name, attribute_value bytes) ∷ [] in
    let own : List Pair = node_pairs x node p in
    let names : attribute_pairs x all ≡ attribute_pairs x attributes ++ added =
    map-append (λ (a : Name × List ℕ). (attribute_key x a.0, attribute_value a.1)) attributes ((name, bytes) ∷ [])
    in
    let entry : entry_pairs x (named_entry node all) p ≡ (own ++ attribute_pairs x attributes) ++ added =
    ap (λ (s : List Pair). own ++ s) names ∙ sym (append_assoc own (attribute_pairs x attributes) added) in
    let more : pairs u p ≡ pairs t p ++ added =
    pairs_push before x (named_entry node all) p
    ∙ ap (λ (s : List Pair). pairs before p ++ s) entry
    ∙ sym (append_assoc (pairs before p) (own ++ attribute_pairs x attributes) added)
    ∙ ap (λ (s : List Pair). s ++ added) (sym (pairs_push before x (named_entry node attributes) p)) in
    holds_more old new t u p d old.pairs added held draw params adds
    (ap keys_of more ∙ keys_behind (pairs t p) added)
    (λ room. ap (λ (s : List Pair). s ++ added) (held.kept room) ∙ sym more)
    (λ room. subst (IsFirstOfLast u p) (sym first)
    (first_again before (x, named_entry node attributes) (x, named_entry node all) p old.first (held.first room)))

-- a file's first pair with another length has the same key
keys_again : (s : List Pair) (k v w : List ℕ) (blocks : List Pair)
    → keys_of (s ++ (k, v) ∷ blocks) ≡ keys_of (s ++ (k, w) ∷ blocks)
keys_again s k v w blocks = keys_behind s ((k, v) ∷ blocks) ∙ sym (keys_behind s ((k, w) ∷ blocks))

-- another length of the file whose first pair this is
length_patched : (s : List Pair) (k v : List ℕ) (blocks : List Pair) (len : ℕ)
    → with_length (s ++ (k, v) ∷ blocks) (length s) len ≡ s ++ (k, file_value len) ∷ blocks
length_patched s k v blocks len =
    ap (λ (pair : Pair). slice_set (s ++ (k, v) ∷ blocks) (length s) (pair.0, file_value len))
    (get_or_at s (k, v) blocks ([], []) (length s) refl)
    ∙ set-append_seam s (k, v) blocks (k, file_value len)

-- a piece more
pub holds_piece : (old new : ListedPairs) (before : Tree) (x : Path) (content bytes : List ℕ) (count : ℕ)
    (p : Parameters) (d : Draw)
    → HoldsListed old (before ++ (x, bare_entry (File content)) ∷ []) p → d ≡ draw_of old.params
    → new.params ≡ old.params → length content ≡ file_block * suc count
    → AddsPairs d (with_length old.pairs old.first (length content + length bytes))
    (blocks_from x (length content / file_block + 1) bytes) old new → new.first ≡ old.first
    → HoldsListed new (before ++ (x, bare_entry (File (content ++ bytes))) ∷ []) p
holds_piece old new before x content bytes count p d held draw params full adds first =
    let t : Tree = before ++ (x, bare_entry (File content)) ∷ [] in
    let u : Tree = before ++ (x, bare_entry (File (content ++ bytes))) ∷ [] in
    let len : ℕ = length content + length bytes in
    let both = length-append content bytes in
    let number : ℕ = length content / file_block + 1 in
    let added : List Pair = blocks_from x number bytes in
    let front : List Pair = pairs before p in
    let blocks : List Pair = blocks_from x 1 content in
    let was : pairs t p ≡ front ++ (key x 0, file_value (length content)) ∷ blocks =
    file_pairs_are before x content p (long_form p.version (length content) (omega (arith, full))) in
    let patched : List Pair = front ++ (key x 0, file_value len) ∷ blocks in
    let more : pairs u p ≡ patched ++ added =
    file_pairs_are before x (content ++ bytes) p
    (long_form p.version (length (content ++ bytes)) (omega (arith, full, both)))
    ∙ ap (λ n. front ++ (key x 0, file_value n) ∷ blocks_from x 1 (content ++ bytes)) both
    ∙ ap (λ (s : List Pair). front ++ (key x 0, file_value len) ∷ s)
    (blocks_behind x 1 (suc count) content bytes full
    ∙ ap (λ n. blocks ++ blocks_from x n bytes) (let e : 1 + suc count ≡ number = omega (arith, full) in e))
    ∙ sym (append_assoc front ((key x 0, file_value len) ∷ blocks) added) in
    holds_more old new t u p d (with_length old.pairs old.first len) added held draw params adds
    (ap keys_of more ∙ keys_behind patched added
    ∙ ap (λ (ks : List (List ℕ)). ks ++ keys_of added)
    (keys_again front (key x 0) (file_value len) (file_value (length content)) blocks ∙ ap keys_of (sym was)))
    (λ room.
    let place : old.first ≡ length front = held.first room before (x, bare_entry (File content)) refl in
    ap (λ (s : List Pair). s ++ added)
    (ap (λ n. with_length old.pairs n len) place
    ∙ ap (λ (s : List Pair). with_length s (length front) len) (held.kept room ∙ was)
    ∙ length_patched front (key x 0) (file_value (length content)) blocks len)
    ∙ sym more)
    (λ room. subst (IsFirstOfLast u p) (sym first)
    (first_again before (x, bare_entry (File content))
    (x, bare_entry (File (content ++ bytes))) p old.first (held.first room)))
