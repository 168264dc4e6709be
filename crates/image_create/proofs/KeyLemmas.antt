-- Keys that are counted one behind the other.
use Rattle.std.proofs.Common.{◌≡◌, ℕ, ◌+◌, ◌-◌, ◌<◌, ◌≤◌, List, [], ◌∷◌, ◌++◌, map, length, take, drop, Result}
use Rattle.std.proofs.Common.{Ok, Err, Some, None, slice_get, IsTrue, zero, suc, refl, sym, ap, ap₂, subst, ◌∙◌, arith}
use Rattle.std.proofs.lemmas.List.{append-nil, append_assoc, length-append, map-append}
use Rattle.layout_scratch.specs.Counting.{HasCounted}
use Rattle.layout_scratch.proofs.FirstFree.{numbers_from-append}
use Rattle.store_model.specs.Draws.{draw_of}
use Rattle.store_model.specs.Lists.{numbers_from}
use Rattle.store_model.specs.Parameters.{Parameters}
use Rattle.store_model.specs.Paths.{Name, Path, key, fits_attribute}
use Rattle.image_create.specs.Counts.{AddsKeys, CountsKeys, Exceeds}
use Rattle.image_create.specs.FoundKeys.{HaveFields, block_keys}
use Rattle.image_create.specs.declared.keys.KeyCounter.{KeyCounter}
use Rattle.image_create.specs.declared.keys.TooMany.{TooMany}

-- ---- one key

-- the height of a draw is that of its parameters
pub draw_height : (p : Parameters) → (draw_of p).height ≡ p.height
unfolding draw_of
draw_height p = refl

-- ---- several

pub adds_none : (s : KeyCounter) → AddsKeys s s []
adds_none s = record {
  levels = refl;
  counted = λ keys counted.
      subst (λ (ks : List (List ℕ)). HasCounted (draw_of s.levels) ks s.counter) (sym (append-nil keys)) counted;
}

counted_by : (p q : Parameters) (keys : List (List ℕ)) (s : KeyCounter) → p ≡ q
    → HasCounted (draw_of p) keys s.counter → HasCounted (draw_of q) keys s.counter
counted_by p q keys s same counted =
    subst (λ (r : Parameters). HasCounted (draw_of r) keys s.counter) same counted

pub adds_join : (old mid new : KeyCounter) (xs ys : List (List ℕ)) → AddsKeys old mid xs → AddsKeys mid new ys
    → AddsKeys old new (xs ++ ys)
adds_join old mid new xs ys one other = record {
  levels = other.levels ∙ one.levels;
  counted = λ keys counted.
      let middle = counted_by old.levels mid.levels (keys ++ xs) mid (sym one.levels) (one.counted keys counted) in
      let all = counted_by mid.levels old.levels ((keys ++ xs) ++ ys) new one.levels (other.counted (keys ++ xs) middle)
      in
      subst (λ (ks : List (List ℕ)). HasCounted (draw_of old.levels) ks new.counter) (append_assoc keys xs ys) all;
}

-- where some keys are too many, more are
pub exceeds_more : (old : KeyCounter) (xs ys : List (List ℕ)) → Exceeds old xs → Exceeds old (xs ++ ys)
exceeds_more old xs ys many keys counted =
    let more = many keys counted in
    omega (arith, more, length-append keys xs, length-append keys (xs ++ ys), length-append xs ys)

pub exceeds_later : (old mid : KeyCounter) (xs ys : List (List ℕ)) → AddsKeys old mid xs → Exceeds mid ys
    → Exceeds old (xs ++ ys)
exceeds_later old mid xs ys one many keys counted =
    let middle = counted_by old.levels mid.levels (keys ++ xs) mid (sym one.levels) (one.counted keys counted) in
    let more = many (keys ++ xs) middle in
    let same : length ((keys ++ xs) ++ ys) ≡ length (keys ++ (xs ++ ys)) = ap length (append_assoc keys xs ys) in
    omega (arith, more, same)

-- some were counted, the next are too many, and so are all of which these are the first
pub exceeds_within : (old mid : KeyCounter) (xs ys zs all : List (List ℕ)) → all ≡ xs ++ (ys ++ zs)
    → AddsKeys old mid xs → Exceeds mid ys → Exceeds old all
exceeds_within old mid xs ys zs all is one many =
    subst (Exceeds old) (sym is) (exceeds_later old mid xs (ys ++ zs) one (exceeds_more mid ys zs many))

pub counts_join : (old mid new : KeyCounter) (xs ys : List (List ℕ)) (result : Result (Unit {0}) TooMany)
    → AddsKeys old mid xs → CountsKeys mid new ys result → CountsKeys old new (xs ++ ys) result
counts_join old mid new xs ys (Ok u) one other = adds_join old mid new xs ys one other
counts_join old mid new xs ys (Err e) one many = exceeds_later old mid xs ys one many

-- ---- the keys of blocks

pub blocks_none : (path : Path) → block_keys path 0 ≡ []
unfolding numbers_from
blocks_none path = refl

pub blocks_split : (path : Path) (m n : ℕ)
    → block_keys path (m + n) ≡ block_keys path m ++ map (key path) (numbers_from (1 + m) n)
blocks_split path m n = ap (map (key path)) (numbers_from-append 1 m n)
    ∙ map-append (key path) (numbers_from 1 m) (numbers_from (1 + m) n)

-- the next block behind some
pub blocks_at : (path : Path) (number count : ℕ) → number < count → block_keys path count
    ≡ block_keys path number ++ ((key path (number + 1) ∷ [])
    ++ map (key path) (numbers_from (number + 2) (count - number - 1)))
unfolding numbers_from
blocks_at path number count within =
    let all : count ≡ number + suc (count - number - 1) = omega (arith, within) in
    let first : 1 + number ≡ number + 1 = omega arith in
    let second : suc (1 + number) ≡ number + 2 = omega arith in
    ap (block_keys path) all ∙ blocks_split path number (suc (count - number - 1))
    ∙ ap₂ (λ m n. block_keys path number ++ key path m ∷ map (key path) (numbers_from n (count - number - 1)))
    first second

pub blocks_more : (path : Path) (number : ℕ)
    → block_keys path (number + 1) ≡ block_keys path number ++ key path (number + 1) ∷ []
unfolding numbers_from
blocks_more path number =
    let first : 1 + number ≡ number + 1 = omega arith in
    blocks_split path number 1 ∙ ap (λ m. block_keys path number ++ key path m ∷ []) first

-- ---- the keys of names

pub one_field : (path : Path) (names : List Name) (at : ℕ) (name : Name) → HaveFields path names
    → slice_get names at ≡ Some name → HaveFields path (name ∷ [])
one_field path [] at name fields is = absurd (cc is)
one_field path (first ∷ names) zero name fields is =
    let same : first ≡ name = cc is in
    (subst (λ (n : Name). IsTrue (fits_attribute path n)) same fields.0, tt)
one_field path (first ∷ names) (suc at) name fields is = one_field path names at name fields.1 is

-- the names before one, that one, and those behind it
pub names_at : (names : List Name) (at : ℕ) (name : Name) → slice_get names at ≡ Some name
    → names ≡ take at names ++ name ∷ drop (at + 1) names
names_at [] at name is = absurd (cc is)
names_at (first ∷ names) zero name is = let same : first ≡ name = cc is in ap (λ n. n ∷ names) same
names_at (first ∷ names) (suc at) name is =
    let next : suc at + 1 ≡ suc (at + 1) = omega arith in
    ap (λ ns. first ∷ ns) (names_at names at name is)
    ∙ ap (λ n. first ∷ take at names ++ name ∷ drop n (first ∷ names)) (sym next)

pub names_more : (names : List Name) (at : ℕ) (name : Name) → slice_get names at ≡ Some name
    → take (at + 1) names ≡ take at names ++ name ∷ []
names_more [] at name is = absurd (cc is)
names_more (first ∷ names) zero name is = let same : first ≡ name = cc is in ap (λ n. n ∷ []) same
names_more (first ∷ names) (suc at) name is =
    let next : suc at + 1 ≡ suc (at + 1) = omega arith in
    ap (λ n. take n (first ∷ names)) next ∙ ap (λ ns. first ∷ ns) (names_more names at name is)

-- ---- what is answered

pub counts_err : (old new : KeyCounter) (xs : List (List ℕ)) (result : Result (Unit {0}) TooMany) (e : TooMany)
    → result ≡ Err e → Exceeds old xs → CountsKeys old new xs result
counts_err old new xs result e is many = subst (CountsKeys old new xs) (sym is) many

-- ---- the end of a list

pub past_end : {X : Type 0} (xs : List X) (i : ℕ) → None ≡ slice_get xs i → length xs ≤ i
past_end [] i none = omega arith
past_end (x ∷ xs) zero none = absurd (cc none)
past_end (x ∷ xs) (suc i) none = let rest = past_end xs i none in omega (arith, rest)
