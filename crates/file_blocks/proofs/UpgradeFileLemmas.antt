-- Lemmas on one file, whose bytes go from its block into its first pair.
use Rattle.std.proofs.Common.{◌≡◌, ℕ, zero, suc, ◌+◌, ◌<◌, ◌≤◌, List, [], ◌∷◌, length, take, Bool, true, false, not}
use Rattle.std.proofs.Common.{cond, IsTrue, T, Option, Some, None, Ok, is_some, refl, sym, ap, subst, ◌∙◌, arith, inl}
use Rattle.std.proofs.Common.{inr}
use Rattle.std.specs.Ordering.{eq_by_cmp}
use Rattle.std.specs.Cmp.Lexicographic.{nat_list_cmp_total}
use Rattle.std.specs.FinMap.{find, slice_cmp-IsAntisymmetric, nat_cmp-IsAntisymmetric}
use Rattle.std.specs.FinMap.Entries.{find-where_key, length-put}
use Rattle.std.proofs.lemmas.Bool.{le-leb, leb-true, false_from_ne_true}
use Rattle.std.proofs.lemmas.List.{take_all}
use Rattle.store_model.specs.declared.version.Version.{Version}
use Rattle.store_model.specs.declared.version.Version.TheVariants.{Two}
use Rattle.store_model.specs.Lists.{run_at}
use Rattle.store_model.specs.Paths.{Path, is_path, key, key_cmp}
use Rattle.store_model.specs.Pairs.{Pair, IsPairs, file_block, file_value, inline_value, is_inline}
use Rattle.store_model.specs.Trees.{Node, IsNode, file_limit}
use Rattle.store_model.specs.Trees.Node.{Directory, File}
use Rattle.store_model.proofs.ListsLemmasCuts.{length-filter-le}
use Rattle.store_model.proofs.PairsLemmas.{inline_is_short}
use Rattle.store_model.proofs.PathsLemmas.{place_of_path}
use Rattle.store_model.proofs.TreesLemmasBytes.{tails_same, four_bytes_same}
use Rattle.store_model.proofs.TreesLemmasPaths.{same_path-itself}
use Rattle.ordered_pairs.specs.PairsState.{PairsState, IsObservable, IsPairTake, without, most_pairs}
use Rattle.ordered_pairs.proofs.ValidLemmas.{IsPairs-without}
use Rattle.tree_pairs.specs.Blocks.{BlockMap, run_value, with_blocks, HasBlocks}
use Rattle.tree_pairs.specs.TreeCalls.{HasRoom}
use Rattle.tree_pairs.proofs.TreeBlocks.{file_block_value, block_value}
use Rattle.tree_pairs.proofs.BlocksLemmas.{tie_of_blocks, run_value-none, length-run_at}
use Rattle.tree_pairs.proofs.ChangesLemmas.{put_block, take_block}
use Rattle.file_blocks.specs.declared.inlining.Entry.{Entry}
use Rattle.file_blocks.specs.UpgradeCalls.{IsShortInBlocks, IsInlined, block_bytes, inlined}

-- ---- which files change

-- a file whose first value tells a length stands in blocks, and has that length
in_blocks : (inline : Bool) (bytes first : List ℕ) (len : ℕ) → length bytes ≤ file_limit → len ≤ 200
    → file_block_value inline bytes 0 ≡ Some first → first ≡ file_value len → (inline ≡ false) × (length bytes ≡ len)
in_blocks true bytes first len fits few there is = cc
in_blocks false bytes first len fits few there is =
    let same : file_value (length bytes) ≡ file_value len = cc in
    (refl, four_bytes_same (length bytes) len (omega arith) (omega arith) (tails_same same))

-- another has one form under both versions
form_kept : (version : Version) (bytes first : List ℕ)
    → file_block_value (is_inline version (length bytes)) bytes 0 ≡ Some first → (IsShortInBlocks first → ⊥)
    → is_inline version (length bytes) ≡ is_inline Two (length bytes)
form_kept version bytes first there long = by_form (is_inline version (length bytes)) refl there
  where
    by_form : (b : Bool) → is_inline version (length bytes) ≡ b → file_block_value b bytes 0 ≡ Some first
        → is_inline version (length bytes) ≡ is_inline Two (length bytes)
    by_form true e there = e ∙ sym (le-leb (length bytes) 200 (inline_is_short version (length bytes) e))
    by_form false e there =
        let is : first ≡ file_value (length bytes) = cc in
        e ∙ sym (false_from_ne_true (is_inline Two (length bytes))
        (λ few. long (length bytes, leb-true (length bytes) 200 few, is)))

-- so what is no short file in blocks has its blocks under version 2 too
pub node_kept : (node : Node) (version : Version) (first : List ℕ) → block_value (Some node) version 0 ≡ Some first
    → (IsShortInBlocks first → ⊥) → (j : ℕ) → block_value (Some node) version j ≡ block_value (Some node) Two j
node_kept Directory version first there long zero = refl
node_kept Directory version first there long (suc j) = refl
node_kept (File bytes) version first there long j =
    ap (λ b. file_block_value b bytes j) (form_kept version bytes first there long)

-- ---- the block goes into the first pair

-- a first pair alone
abbrev first_alone : Option (List ℕ) → ℕ → Option (List ℕ)
first_alone first zero = first
first_alone first (suc j) = None

-- a short file has no block but the first two
no_more_blocks : (bytes : List ℕ) → length bytes ≤ 200 → (j : ℕ) → (j ≡ 1 → ⊥)
    → first_alone (Some (file_value (length bytes))) j ≡ file_block_value false bytes j
no_more_blocks bytes few zero apart = refl
no_more_blocks bytes few (suc zero) apart = absurd (apart refl)
no_more_blocks bytes few (suc (suc j)) apart =
    sym (run_value-none (run_at file_block bytes (suc j))
    (let long = length-run_at file_block bytes (suc j) in omega arith))

inline_alone : (bytes : List ℕ) (first : Option (List ℕ)) (j : ℕ) → (j ≡ 0 → ⊥)
    → file_block_value true bytes j ≡ first_alone first j
inline_alone bytes first zero apart = absurd (apart refl)
inline_alone bytes first (suc j) apart = refl

-- its bytes are those of its block
bytes_of_run : (run : List ℕ) → block_bytes (run_value run) ≡ run
bytes_of_run [] = refl
bytes_of_run (c ∷ run) = refl

bytes_of_block : (bytes : List ℕ) (found : Option (List ℕ)) → length bytes ≤ 200
    → found ≡ file_block_value false bytes 1 → take 200 (block_bytes found) ≡ bytes
bytes_of_block bytes found few is =
    ap (λ o. take 200 (block_bytes o)) is
    ∙ ap (take 200) (bytes_of_run (run_at file_block bytes 0) ∙ take_all 256 bytes (omega arith))
    ∙ take_all 200 bytes few

file_inlined : (y : Path) (bytes : List ℕ) (rest : BlockMap) (s : List Pair) → IsTrue (is_path y) → length bytes ≤ 200
    → HasBlocks (with_blocks y (λ j. file_block_value false bytes j) rest) s
    → HasBlocks (with_blocks y (λ j. file_block_value true bytes j) rest) (inlined y s)
file_inlined y bytes rest s path few h =
    let place = place_of_path y path in
    let found : find key_cmp (key y 1) s ≡ file_block_value false bytes 1 =
    h.each y 1 place (omega arith) ∙ ap (λ b. cond b (file_block_value false bytes 1) (rest y 1))
    (same_path-itself y) in
    let value = bytes_of_block bytes (find key_cmp (key y 1) s) few found in
    put_block y (first_alone (Some (file_value (length bytes)))) (λ j. file_block_value true bytes j) rest 0
    (inline_value (take 200 (block_bytes (find key_cmp (key y 1) s)))) (without (key y 1) s) place (omega arith)
    (ap (λ b. Some (inline_value b)) (sym value)) (inline_alone bytes (Some (file_value (length bytes))))
    (take_block y (λ j. file_block_value false bytes j) (first_alone (Some (file_value (length bytes)))) rest 1 s place
    (omega arith) refl (no_more_blocks bytes few) h)

-- so a short file in blocks has version 2's
pub node_inlined : (y : Path) (node : Node) (version : Version) (first : List ℕ) (rest : BlockMap) (s : List Pair)
    → IsTrue (is_path y) → IsNode node → block_value (Some node) version 0 ≡ Some first → IsShortInBlocks first
    → HasBlocks (with_blocks y (λ j. block_value (Some node) version j) rest) s
    → HasBlocks (with_blocks y (λ j. block_value (Some node) Two j) rest) (inlined y s)
node_inlined y Directory version first rest s path fits there short h = let is = short.2 in cc
node_inlined y (File bytes) version first rest s path fits there short h =
    let form = in_blocks (is_inline version (length bytes)) bytes first short.0 fits.0 short.1 there short.2 in
    let few : length bytes ≤ 200 = omega (arith, form.1, short.1) in
    subst (λ (b : Bool). HasBlocks (with_blocks y (λ j. file_block_value b bytes j) rest) (inlined y s))
    (sym (le-leb (length bytes) 200 few))
    (file_inlined y bytes rest s path few
    (subst (λ (b : Bool). HasBlocks (with_blocks y (λ j. file_block_value b bytes j) rest) s) form.0 h))

-- ---- the number of pairs

-- the first pair is there without the block
found_without : (y : Path) (s : List Pair) → IsTrue (is_path y)
    → find key_cmp (key y 0) (without (key y 1) s) ≡ find key_cmp (key y 0) s
found_without y s path =
    let keep : List ℕ → Bool = λ k. not (eq_by_cmp key_cmp (key y 1) k) in
    find-where_key key_cmp keep (key y 0)
    (λ k t. ap keep (sym (slice_cmp-IsAntisymmetric nat_cmp-IsAntisymmetric (key y 0) k t))) s
    ∙ ap (λ b. cond (not b) (find key_cmp (key y 0) s) None)
    (tie_of_blocks y 1 0 (place_of_path y path) (omega arith) (omega arith))

-- a file is made inline with no pair more
length-inlined : (y : Path) (first : List ℕ) (s : List Pair) → IsTrue (is_path y) → IsPairs s
    → find key_cmp (key y 0) s ≡ Some first → length (inlined y s) ≤ length s
length-inlined y first s path h there =
    let rest = without (key y 1) s in
    let fewer : length rest ≤ length s = length-filter-le (λ entry. not (eq_by_cmp key_cmp (key y 1) entry.0)) s in
    let found : is_some (find key_cmp (key y 0) rest) ≡ true = ap is_some (found_without y s path ∙ there) in
    let same = length-put key_cmp nat_list_cmp_total (key y 0)
    (inline_value (take 200 (block_bytes (find key_cmp (key y 1) s)))) rest
    (subst T (sym (IsPairs-without (key y 1) s h).sorted) tt)
    ∙ ap (λ b. cond b (length rest) (length rest + 1)) found in
    omega arith

pub fewer_after : (entry : Entry) (s after : List Pair) → IsTrue (is_path entry.path) → IsPairs s
    → find key_cmp (key entry.path 0) s ≡ Some entry.first → IsInlined entry s after → length after ≤ length s
fewer_after entry s after path h there (inl short) = let fewer = length-inlined entry.path entry.first s path h there
    in omega (arith, ap length short.1)
fewer_after entry s after path h there (inr other) = omega (arith, ap length other.1)

-- where a block was taken, there is room for the first pair
pub room_without : (old new : PairsState) (k : List ℕ) (found : Option (List ℕ)) → IsPairTake old new k (Ok found)
    → HasRoom old → IsObservable new → length new.pairs < most_pairs
room_without old new k found take room seen =
    let was = take.hidden seen in
    let few = room was in
    let fewer = length-filter-le (λ entry. not (eq_by_cmp key_cmp k entry.0)) old.pairs in
    omega (arith, ap length (take.observed was).changed)
