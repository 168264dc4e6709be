-- Lemmas that lead from the pairs of one file to a command on a tree.
use Rattle.std.proofs.Common.{◌≡◌, ℕ, zero, suc, ◌+◌, ◌-◌, ◌<◌, ◌≤◌, ◌^◌, min, max, List, [], ◌∷◌, length, take, drop}
use Rattle.std.proofs.Common.{refl, sym, ap, ap₂, ◌∙◌, arith, Bool, true, false, not, cond, nat_lt, ltb-false, IsTrue}
use Rattle.std.proofs.Common.{Option, Some, None, Ok, Err, is_some, subst}
use Rattle.std.specs.FinMap.{put}
use Rattle.std.proofs.lemmas.Bool.{not-false, both_ways}
use Rattle.std.proofs.lemmas.List.{length-take, length-drop, take_all, take_min}
use Rattle.store_model.specs.declared.refusal.Refusal.{Refusal}
use Rattle.store_model.specs.declared.refusal.Refusal.TheVariants as refusals
use Rattle.store_model.specs.Lists.{IsBytes, overwrite}
use Rattle.store_model.specs.Parameters.{Parameters}
use Rattle.store_model.specs.Paths.{Path, is_path, is_root, parent, same_path, key, key_cmp}
use Rattle.store_model.specs.Pairs.{Pair, file_value, inline_value, is_inline, pairs}
use Rattle.store_model.specs.Trees.{Tree, Node, IsTree, node_at, is_directory, is_directory_node, contents_of, contents}
use Rattle.store_model.specs.Trees.{file_limit, with_node}
use Rattle.store_model.specs.Trees.Node.{Directory, File}
use Rattle.store_model.specs.Commands.{Command, Reply}
use Rattle.store_model.specs.Commands.Command.{Write, Cut, Read}
use Rattle.store_model.specs.Steps.{Condition, first_refusal, conditions, refusal_of, next_tree, read_limit}
use Rattle.store_model.proofs.PathsLemmas.{place_of_path}
use Rattle.store_model.proofs.TreesLemmas.{node_at-find, entry_at}
use Rattle.store_model.proofs.TreesLemmasSteps.{IsTree-next_tree, all_fail}
use Rattle.tree_pairs.specs.declared.kind.Kind.{Kind}
use Rattle.tree_pairs.specs.declared.kind.Kind.TheVariants as kinds
use Rattle.ordered_pairs.specs.PairsState.{PairsState, IsObservable}
use Rattle.tree_pairs.specs.Kinds.{kind_of_node, file_first, first_value}
use Rattle.tree_pairs.specs.TreeCalls.{HoldsTree, HasParent, TellsKind, TellsFirst, CarriesOut}
use Rattle.tree_pairs.proofs.CallLemmas.{step_refused}
use Rattle.tree_pairs.proofs.TreeBlocks.{file_block_value, block_value, tree_blocks}
use Rattle.tree_pairs.proofs.PlaceLemmas.{path_blocks}
use Rattle.tree_pairs.proofs.BlocksLemmas.{blocks_alike}
use Rattle.tree_pairs.proofs.ChangesLemmas.{put_block, blocks_at, pairs-with_node}
use Rattle.file_blocks.specs.FileCalls.{file_blocks, HasFile, IsFirst, StandsAs, PutsFileBytes, FillsBlocks}
use Rattle.file_blocks.specs.Refusals.{size_of, is_dir, is_absent, write_conditions, cut_conditions, read_conditions}
use Rattle.file_blocks.proofs.RunLemmas.{length-overwrite}
use Rattle.file_blocks.proofs.FormLemmas.{inline_below, file_blocks_in, stands_found, first_of_long}

-- ---- the refusals of the definitions, by what stands at the path

-- so many bytes stand there
pub size_of-node : (o : Option Node) → size_of (kind_of_node o) ≡ length (contents_of o)
size_of-node None = refl
size_of-node (Some Directory) = refl
size_of-node (Some (File bytes)) = refl

is_dir-node : (o : Option Node) → is_dir (kind_of_node o) ≡ is_directory_node o
is_dir-node None = refl
is_dir-node (Some Directory) = refl
is_dir-node (Some (File bytes)) = refl

is_absent-node : (o : Option Node) → is_absent (kind_of_node o) ≡ not (is_some o)
is_absent-node None = refl
is_absent-node (Some Directory) = refl
is_absent-node (Some (File bytes)) = refl

pub refusal-write : (t : Tree) (x : Path) (at : ℕ) (bytes : List ℕ) → is_directory t (parent x) ≡ true
    → refusal_of t (Write x at bytes) ≡ first_refusal (write_conditions (kind_of_node (node_at t x)) at (length bytes))
unfolding conditions first_refusal
refusal-write t x at bytes h =
    ap (λ b. first_refusal ((not b, refusals.Parent) ∷ (is_directory t x, refusals.Kind)
    ∷ (nat_lt (length (contents t x)) at, refusals.Gap)
    ∷ (nat_lt file_limit (at + length bytes), refusals.Big) ∷ [])) h
    ∙ ap₂ (λ b n. first_refusal ((b, refusals.Kind) ∷ (nat_lt n at, refusals.Gap)
    ∷ (nat_lt file_limit (at + length bytes), refusals.Big) ∷ [])) (sym (is_dir-node (node_at t x)))
    (sym (size_of-node (node_at t x)))

pub refusal-cut : (t : Tree) (x : Path) (len : ℕ)
    → refusal_of t (Cut x len) ≡ first_refusal (cut_conditions (kind_of_node (node_at t x)) len)
unfolding conditions first_refusal
refusal-cut t x len =
    ap (λ b. first_refusal ((b, refusals.Missing) ∷ (is_directory t x, refusals.Kind)
    ∷ (nat_lt (length (contents t x)) len, refusals.Gap) ∷ [])) (sym (is_absent-node (node_at t x)))
    ∙ ap₂ (λ b n. first_refusal ((is_absent (kind_of_node (node_at t x)), refusals.Missing) ∷ (b, refusals.Kind)
    ∷ (nat_lt n len, refusals.Gap) ∷ [])) (sym (is_dir-node (node_at t x))) (sym (size_of-node (node_at t x)))

pub refusal-read : (t : Tree) (x : Path) (at len : ℕ)
    → refusal_of t (Read x at len) ≡ first_refusal (read_conditions (kind_of_node (node_at t x)) at len)
unfolding conditions first_refusal
refusal-read t x at len =
    ap (λ b. first_refusal ((b, refusals.Missing) ∷ (is_directory t x, refusals.Kind)
    ∷ (nat_lt (length (contents t x)) at, refusals.Gap) ∷ (nat_lt read_limit len, refusals.Big) ∷ []))
    (sym (is_absent-node (node_at t x)))
    ∙ ap₂ (λ b n. first_refusal ((is_absent (kind_of_node (node_at t x)), refusals.Missing) ∷ (b, refusals.Kind)
    ∷ (nat_lt n at, refusals.Gap) ∷ (nat_lt read_limit len, refusals.Big) ∷ [])) (sym (is_dir-node (node_at t x)))
    (sym (size_of-node (node_at t x)))

-- ---- a file's first pair is put

-- a path that is no directory lies below the root
not_root : (t : Tree) (x : Path) → is_directory t x ≡ false → is_root x ≡ false
not_root t [] d = cc
not_root t (n ∷ x) d = refl

-- behind its first pair bytes are a file, whichever first pair stood there
file_blocks_are : (inline : Bool) (first : Option (List ℕ)) (bytes : List ℕ) (j : ℕ) → (j ≡ 0 → ⊥)
    → file_block_value inline bytes j ≡ file_blocks first (cond inline [] bytes) j
file_blocks_are inline first bytes zero ne = absurd (ne refl)
file_blocks_are inline first bytes (suc i) ne = file_blocks_in inline bytes (suc i)

-- a list whose first pair is put last is that of the tree with the file
pairs_of_file : (t : Tree) (p : Parameters) (x : Path) (inline : Bool) (first : Option (List ℕ)) (bytes k v : List ℕ)
    (s new : List Pair) → IsTree (with_node t x (File bytes)) → IsTrue (is_path x)
    → is_inline p.version (length bytes) ≡ inline
    → HasFile x first (cond inline [] bytes) (tree_blocks t p) s → k ≡ key x 0 → v ≡ file_first inline bytes
    → new ≡ put key_cmp k v s → new ≡ pairs (with_node t x (File bytes)) p
pairs_of_file t p x inline first bytes k v s new h path form has key_is value_is changed =
    let form_is : (j : ℕ) → block_value (Some (File bytes)) p.version j ≡ file_block_value inline bytes j =
    λ j. ap (λ b. file_block_value b bytes j) form in
    changed ∙ ap₂ (λ q w. put key_cmp q w s) key_is value_is
    ∙ pairs-with_node t p x (File bytes) (put key_cmp (key x 0) (file_first inline bytes) s) h
    (put_block x (file_blocks first (cond inline [] bytes)) (λ i. block_value (Some (File bytes)) p.version i)
    (tree_blocks t p) 0 (file_first inline bytes) s (place_of_path x path) (omega arith)
    (form_is 0 ∙ file_blocks_in inline bytes 0) (λ j ne. form_is j ∙ file_blocks_are inline first bytes j ne) has)

-- ---- `write`

-- where it is not refused, what is written fits a file
pub write_fits : (kind : Option Kind) (at count : ℕ) → first_refusal (write_conditions kind at count) ≡ None
    → at + count ≤ file_limit
write_fits kind at count e = ltb-false file_limit (at + count) ((((all_fail (write_conditions kind at count) e).1).1).0)

-- where it is not refused, the path is no directory and the place lies in its file
pub write_allowed : (t : Tree) (x : Path) (at : ℕ) (bytes : List ℕ) → refusal_of t (Write x at bytes) ≡ None
    → (is_directory t x ≡ false) × (at ≤ length (contents t x))
unfolding conditions
write_allowed t x at bytes e =
    let fail = all_fail (conditions t (Write x at bytes)) e in
    ((fail.1).0, ltb-false (length (contents t x)) at ((fail.1).1).0)

-- the pairs after it are those of the next tree
pairs-write : (t : Tree) (p : Parameters) (x : Path) (at : ℕ) (inline : Bool) (first : Option (List ℕ))
    (bytes k v : List ℕ) (s new : List Pair) → IsTree t → IsTrue (is_path x) → at < 2 ^ 32 → IsBytes bytes
    → refusal_of t (Write x at bytes) ≡ None
    → is_inline p.version (length (overwrite (contents t x) at bytes)) ≡ inline
    → HasFile x first (cond inline [] (overwrite (contents t x) at bytes)) (tree_blocks t p) s → k ≡ key x 0
    → v ≡ file_first inline (overwrite (contents t x) at bytes) → new ≡ put key_cmp k v s
    → new ≡ pairs (next_tree t (Write x at bytes)) p
unfolding next_tree
pairs-write t p x at inline first bytes k v s new h path l are e form has key_is value_is changed =
    pairs_of_file t p x inline first (overwrite (contents t x) at bytes) k v s new
    (IsTree-next_tree t (Write x at bytes) h (path, l, are) e) path form has key_is value_is changed

-- where a long file keeps its length, it keeps its first pair
pairs-write_within : (t : Tree) (p : Parameters) (x : Path) (at len : ℕ) (first : Option (List ℕ)) (bytes : List ℕ)
    (s : List Pair) → IsTree t → at < 2 ^ 32 → IsBytes bytes → refusal_of t (Write x at bytes) ≡ None
    → length (overwrite (contents t x) at bytes) ≡ len → is_inline p.version len ≡ false
    → kind_of_node (node_at t x) ≡ Some (kinds.File len) → first ≡ first_value (node_at t x) p.version
    → HasFile x first (overwrite (contents t x) at bytes) (tree_blocks t p) s
    → s ≡ pairs (next_tree t (Write x at bytes)) p
unfolding next_tree
pairs-write_within t p x at len first bytes s h l are e long form is first_is has =
    let below = not_root t x (write_allowed t x at bytes e).0 in
    let path = ((entry_at t x h below (some_of_file (node_at t x) len is)).2).path in
    let new = overwrite (contents t x) at bytes in
    let first_of : first ≡ Some (file_value (length new)) =
    first_is ∙ first_of_long (node_at t x) p.version len is form ∙ ap (λ n. Some (file_value n)) (sym long) in
    let form_is : is_inline p.version (length new) ≡ false = ap (is_inline p.version) long ∙ form in
    pairs-with_node t p x (File new) s (IsTree-next_tree t (Write x at bytes) h (path, l, are) e)
    (blocks_alike _ _ s (λ y i. ap (λ v. cond (same_path y x) v (tree_blocks t p y i))
    (ap (λ f. file_blocks f new i) first_of ∙ sym (file_blocks_in false new i)
    ∙ ap (λ b. file_block_value b new i) (sym form_is))) has)
  where
    some_of_file : (o : Option Node) (n : ℕ) → kind_of_node o ≡ Some (kinds.File n) → is_some o ≡ true
    some_of_file None n e = cc
    some_of_file (Some node) n e = refl

-- what a write that isn't refused found: the file's bytes, and the length that it leaves
pub record IsWriting (t : Tree) (p : Parameters) (x : Path) (at len : ℕ) (bytes : List ℕ) (first : Option (List ℕ))
    (found : PairsState) : Type 0 where
  pub free : refusal_of t (Write x at bytes) ≡ None
  pub within : at ≤ length (contents t x)
  pub short : length (contents t x) ≤ len
  pub long : length (overwrite (contents t x) at bytes) ≡ len
  pub stands : StandsAs (is_inline p.version (length (contents t x))) x first (contents t x)
      (tree_blocks t p) found.pairs

pub writing : (x : Path) (at len : ℕ) (bytes : List ℕ) (first : Option (List ℕ)) (kind : Option Kind)
    (old found : PairsState) → IsTrue (is_path x) → HasParent old x → TellsFirst x old found (Ok first)
    → TellsKind x old found (Ok kind)
    → (first_refusal (write_conditions kind at (length bytes)) ≡ None) × (len ≡ max (size_of kind) (at + length bytes))
    → IsObservable old → (t : Tree) (p : Parameters) → HoldsTree old t p → IsWriting t p x at len bytes first found
writing x at len bytes first kind old found path parent first_told told fits seen t p holds =
    let kind_is = told.told seen t p holds in
    let free = refusal-write t x at bytes (parent seen t p holds)
    ∙ ap (λ k. first_refusal (write_conditions k at (length bytes))) (sym kind_is) ∙ fits.0 in
    let allowed = write_allowed t x at bytes free in
    let size_is : size_of kind ≡ length (contents t x) = ap size_of kind_is ∙ size_of-node (node_at t x) in
    record {
      free = free;
      within = allowed.1;
      short = omega (arith, fits.1, size_is);
      long = length-overwrite (contents t x) at bytes allowed.1
          ∙ ap (λ n. max n (at + length bytes)) (sym size_is) ∙ sym fits.1;
      stands = stands_found x first old found t p path first_told seen holds allowed.0;
    }

-- a write that leaves a file in one pair
pub pairs-write_inline : (t : Tree) (p : Parameters) (x : Path) (at len : ℕ) (bytes k v : List ℕ)
    (first : Option (List ℕ)) (found : PairsState) (new : List Pair) → IsWriting t p x at len bytes first found
    → IsTree t → IsTrue (is_path x) → at < 2 ^ 32 → IsBytes bytes
    → is_inline p.version len ≡ true → k ≡ key x 0
    → ((old : List ℕ) → IsFirst true old first → at ≤ length old → v ≡ inline_value (overwrite old at bytes))
    → new ≡ put key_cmp k v found.pairs → new ≡ pairs (next_tree t (Write x at bytes)) p
pairs-write_inline t p x at len bytes k v first found new w h path l are form key_is value_is changed =
    let before = subst (λ b. StandsAs b x first (contents t x) (tree_blocks t p) found.pairs)
    (inline_below p.version (length (contents t x)) len w.short form) w.stands in
    pairs-write t p x at true first bytes k v found.pairs new h path l are
    w.free (ap (is_inline p.version) w.long ∙ form) before.1 key_is
    (value_is (contents t x) before.0 w.within) changed

-- the blocks of one that leaves a file in blocks
pub blocks-write : (t : Tree) (p : Parameters) (x : Path) (at len : ℕ) (bytes : List ℕ) (first : Option (List ℕ))
    (found filled after : PairsState) → IsWriting t p x at len bytes first found → IsObservable found
    → FillsBlocks {T = Unit {0}} x first found filled (Ok (tt {0}))
    → PutsFileBytes {T = Unit {0}} x len at bytes filled after (Ok (tt {0}))
    → HasFile x first (overwrite (contents t x) at bytes) (tree_blocks t p) after.pairs
blocks-write t p x at len bytes first found filled after w seen fills puts =
    puts.written (fills.observable seen) first (contents t x)
    (tree_blocks t p) w.within w.short (fills.filled seen (is_inline p.version (length (contents t x)))
    (contents t x) (tree_blocks t p) w.stands)

-- and its pairs, with a first pair and without
pub pairs-write_blocks : (t : Tree) (p : Parameters) (x : Path) (at len : ℕ) (bytes k v : List ℕ)
    (first : Option (List ℕ)) (found : PairsState) (s new : List Pair) → IsWriting t p x at len bytes first found
    → IsTree t → IsTrue (is_path x) → at < 2 ^ 32 → IsBytes bytes
    → is_inline p.version len ≡ false → HasFile x first (overwrite (contents t x) at bytes) (tree_blocks t p) s
    → k ≡ key x 0 → v ≡ file_value len → new ≡ put key_cmp k v s → new ≡ pairs (next_tree t (Write x at bytes)) p
pairs-write_blocks t p x at len bytes k v first found s new w h path l are form has key_is value_is changed =
    pairs-write t p x at false first bytes k v s new h path l are w.free (ap (is_inline p.version) w.long ∙ form) has
    key_is (value_is ∙ ap file_value (sym w.long)) changed

pub pairs-write_same : (t : Tree) (p : Parameters) (x : Path) (at len : ℕ) (bytes : List ℕ) (first : Option (List ℕ))
    (old found : PairsState) (s : List Pair) → IsWriting t p x at len bytes first found
    → TellsFirst x old found (Ok first) → TellsKind x old found (Ok (Some (kinds.File len)))
    → IsObservable old → HoldsTree old t p → at < 2 ^ 32 → IsBytes bytes → is_inline p.version len ≡ false
    → HasFile x first (overwrite (contents t x) at bytes) (tree_blocks t p) s
    → s ≡ pairs (next_tree t (Write x at bytes)) p
pairs-write_same t p x at len bytes first old found s w first_told told seen holds l are form has =
    pairs-write_within t p x at len first bytes s holds.tree l are w.free w.long form (sym (told.told seen t p holds))
    (first_told.told seen t p holds) has

-- ---- a call that is refused by what stands at its path

pub refused_by_kind : {T : Type 0} (see : T → Reply) (command : Command) (x : Path) (kind : Option Kind)
    (refusal : Refusal) (named : Option Kind → List Condition) (old new : PairsState) → TellsKind x old new (Ok kind)
    → (IsObservable old → (t : Tree) (p : Parameters) → HoldsTree old t p
    → refusal_of t command ≡ first_refusal (named (kind_of_node (node_at t x))))
    → first_refusal (named kind) ≡ Some refusal
    → CarriesOut see command old new (Ok (Err refusal))
refused_by_kind see command x kind refusal named old new told is refused = record {
  faults = told.faults;
  observable = told.keeps.observable;
  carried = λ seen t p holds. step_refused see refusal t command p new
      (is seen t p holds ∙ ap (λ k. first_refusal (named k)) (sym (told.told seen t p holds)) ∙ refused)
      (told.keeps.unchanged seen ∙ holds.pairs_are);
}

-- ---- `read`

-- where it is not refused, so few bytes are asked for
pub read_fits : (kind : Option Kind) (at len : ℕ)
    → first_refusal (read_conditions kind at len) ≡ None → len ≤ read_limit
read_fits kind at len e = ltb-false read_limit len ((((all_fail (read_conditions kind at len) e).1).1).1).0

-- where it is not refused, the path is no directory and the place lies in its file
pub read_allowed : (t : Tree) (x : Path) (at len : ℕ) → refusal_of t (Read x at len) ≡ None
    → (is_directory t x ≡ false) × (at ≤ length (contents t x))
unfolding conditions
read_allowed t x at len e =
    let fail = all_fail (conditions t (Read x at len)) e in
    ((fail.1).0, ltb-false (length (contents t x)) at ((fail.1).1).0)

-- as many bytes as there are, or as many as asked for: the same
pub take_there : (y : List ℕ) (at len count : ℕ) → count ≡ min len (length y - at)
    → take count (drop at y) ≡ take len (drop at y)
take_there y at len count e = ap (λ n. take n (drop at y)) (e ∙ ap (min len) (sym (length-drop at y)))
    ∙ take_min len (drop at y)

-- a call that leaves the pairs leaves those of the next tree
pub pairs-read : (t : Tree) (p : Parameters) (x : Path) (at len : ℕ) (s : List Pair) → s ≡ pairs t p
    → s ≡ pairs (next_tree t (Read x at len)) p
unfolding next_tree
pairs-read t p x at len s e = e

-- ---- `cut`

-- where it is not refused, there are as many bytes
pub cut_fits : (kind : Option Kind) (len : ℕ) → first_refusal (cut_conditions kind len) ≡ None → len ≤ size_of kind
cut_fits kind len e = ltb-false (size_of kind) len ((((all_fail (cut_conditions kind len) e).1).1).0)

-- where it is not refused, the path is no directory and its file is long enough
pub cut_allowed : (t : Tree) (x : Path) (len : ℕ) → refusal_of t (Cut x len) ≡ None
    → (is_directory t x ≡ false) × (len ≤ length (contents t x))
unfolding conditions
cut_allowed t x len e =
    let fail = all_fail (conditions t (Cut x len)) e in
    ((fail.1).0, ltb-false (length (contents t x)) len ((fail.1).1).0)

-- what a cut that isn't refused found: the file's bytes
pub record IsCutting (t : Tree) (p : Parameters) (x : Path) (size len : ℕ) (first : Option (List ℕ))
    (found : PairsState) : Type 0 where
  pub free : refusal_of t (Cut x len) ≡ None
  pub within : len ≤ length (contents t x)
  pub size_is : size ≡ length (contents t x)
  pub long : length (take len (contents t x)) ≡ len
  pub stands : StandsAs (is_inline p.version (length (contents t x))) x first (contents t x)
      (tree_blocks t p) found.pairs

pub cutting : (x : Path) (size len : ℕ) (first : Option (List ℕ)) (kind : Option Kind) (old found : PairsState)
    → IsTrue (is_path x) → TellsFirst x old found (Ok first) → TellsKind x old found (Ok kind)
    → (first_refusal (cut_conditions kind len) ≡ None) × (size ≡ size_of kind) → IsObservable old
    → (t : Tree) (p : Parameters) → HoldsTree old t p → IsCutting t p x size len first found
cutting x size len first kind old found path first_told told fits seen t p holds =
    let kind_is = told.told seen t p holds in
    let free = refusal-cut t x len ∙ ap (λ k. first_refusal (cut_conditions k len)) (sym kind_is) ∙ fits.0 in
    let allowed = cut_allowed t x len free in
    record {
      free = free;
      within = allowed.1;
      size_is = fits.1 ∙ ap size_of kind_is ∙ size_of-node (node_at t x);
      long = let a = length-take len (contents t x) in let l = allowed.1 in omega arith;
      stands = stands_found x first old found t p path first_told seen holds allowed.0;
    }

-- the pairs after it are those of the next tree
pub pairs-cut : (t : Tree) (p : Parameters) (x : Path) (size len : ℕ) (inline : Bool) (k v : List ℕ)
    (first : Option (List ℕ)) (found : PairsState) (s new : List Pair) → IsCutting t p x size len first found → IsTree t
    → IsTrue (is_path x) → len < 2 ^ 32
    → is_inline p.version len ≡ inline → HasFile x first (cond inline [] (take len (contents t x))) (tree_blocks t p) s
    → k ≡ key x 0 → v ≡ file_first inline (take len (contents t x)) → new ≡ put key_cmp k v s
    → new ≡ pairs (next_tree t (Cut x len)) p
unfolding next_tree
pairs-cut t p x size len inline k v first found s new c h path l form has key_is value_is changed =
    pairs_of_file t p x inline first (take len (contents t x)) k v s new
    (IsTree-next_tree t (Cut x len) h (path, l) c.free) path
    (ap (is_inline p.version) c.long ∙ form) has key_is value_is changed

-- a file that stays in blocks stood in them
pub long_before : (t : Tree) (p : Parameters) (x : Path) (size len : ℕ) (first : Option (List ℕ)) (found : PairsState)
    → IsCutting t p x size len first found → is_inline p.version len ≡ false
    → HasFile x first (contents t x) (tree_blocks t p) found.pairs
long_before t p x size len first found c form = by_form (is_inline p.version (length (contents t x))) refl c.stands
  where
    by_form : (b : Bool) → is_inline p.version (length (contents t x)) ≡ b
        → StandsAs b x first (contents t x) (tree_blocks t p) found.pairs
        → HasFile x first (contents t x) (tree_blocks t p) found.pairs
    by_form true e stands = absurd (both_ways _ form (inline_below p.version len (length (contents t x)) c.within e))
    by_form false e stands = stands.1

-- what stands at a path is a file of its contents, where there is something and no directory
file_at : (o : Option Node) → is_some o ≡ true → is_directory_node o ≡ false → o ≡ Some (File (contents_of o))
file_at None is other = cc
file_at (Some Directory) is other = cc
file_at (Some (File bytes)) is other = refl

-- a tree with the file that it has
pairs_kept : (t : Tree) (p : Parameters) (x : Path) (bytes : List ℕ) → IsTrue (is_path x) → IsTree t
    → IsTree (with_node t x (File bytes)) → is_root x ≡ false → node_at t x ≡ Some (File bytes)
    → pairs t p ≡ pairs (with_node t x (File bytes)) p
pairs_kept t p x bytes path h g below is =
    pairs-with_node t p x (File bytes) (pairs t p) g
    (blocks_alike _ _ (pairs t p)
    (λ y i. ap (λ v. cond (same_path y x) v (tree_blocks t p y i))
    (path_blocks t p.version x i path ∙ ap (λ o. block_value o p.version i) (sym (node_at-find t x below) ∙ is)))
    (blocks_at t p x h))

-- a file that is cut to its length stays as it is
pub pairs-uncut : (t : Tree) (p : Parameters) (x : Path) (len : ℕ) (s : List Pair) → IsTree t → len < 2 ^ 32
    → refusal_of t (Cut x len) ≡ None → length (contents t x) ≡ len → s ≡ pairs t p
    → s ≡ pairs (next_tree t (Cut x len)) p
unfolding next_tree conditions
pairs-uncut t p x len s h l e long is =
    let fail = all_fail (conditions t (Cut x len)) e in
    let other : is_directory t x ≡ false = (fail.1).0 in
    let below = not_root t x other in
    let path = ((entry_at t x h below (not-false _ fail.0)).2).path in
    let same : contents t x ≡ take len (contents t x) = sym (take_all len (contents t x) (omega arith)) in
    let file : node_at t x ≡ Some (File (take len (contents t x))) =
    file_at (node_at t x) (not-false _ fail.0) other ∙ ap (λ bytes. Some (File bytes)) same in
    is ∙ pairs_kept t p x (take len (contents t x)) path h (IsTree-next_tree t (Cut x len) h (path, l) e) below file
