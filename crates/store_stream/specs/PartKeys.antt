-- The keys of the parts of a tree at some paths.
use Rattle.std.specs.Prelude.{◌≡◌, ℕ, Bool, true, false, ◌&&◌, ◌||◌, List, [], ◌∷◌, length, take}
use Rattle.std.specs.declared.cmp.Ordering.TheVariants.{Less}
use Rattle.std.specs.List.{list_any, AllByRecursion}
use Rattle.std.specs.Ordering.{is_le, is_lt, eq_by_cmp}
use Rattle.store_model.specs.Lists.{numbers_below, same_bytes}
use Rattle.store_model.specs.Paths.{Path, is_root, key, key_cmp, path_cmp}
use Rattle.store_model.specs.Pairs.{Pair, directory_value}
use Rattle.dir_tree.specs.SubtreeCalls.{end_of, IsBeforeEnd}
use Rattle.store_stream.specs.declared.place.Place.{Place}
use Rattle.store_stream.specs.declared.place.Place.TheVariants as places

-- whether a key is one of what is at a path and below it
abbrev pub is_in : Path → List ℕ → Bool
is_in q k = is_root q || (is_le (key_cmp (key q 0) k) && is_lt (key_cmp k (end_of q)))

-- whether it is that of a directory that leads there, whatever stands at it
abbrev pub leads : Path → List ℕ → Bool
leads q k = list_any (λ n. eq_by_cmp key_cmp k (key (take n q) 0)) (numbers_below (length q))

abbrev pub is_in_some : List Path → List ℕ → Bool
is_in_some paths k = list_any (λ q. is_in q k) paths

abbrev pub leads_to_some : List Path → List ℕ → Bool
leads_to_some paths k = list_any (λ q. leads q k) paths

-- whether a pair is one of the parts: one of what is at the paths and below them, or that of a directory that leads
-- there
abbrev pub is_part : List Path → Pair → Bool
is_part paths pair =
    is_in_some paths pair.0 || (leads_to_some paths pair.0 && same_bytes pair.1 directory_value)

-- no pair of the parts has this key
abbrev pub Misses : List Path → List ℕ → Type 0
Misses paths k = (is_in_some paths k ≡ false) × (leads_to_some paths k ≡ false)

abbrev pub MissesOne : Path → List ℕ → Type 0
MissesOne q k = (is_in q k ≡ false) × (leads q k ≡ false)

-- what stands at a path and below it stands before a key
abbrev pub IsPast : List ℕ → Path → Type 0
IsPast k q = IsBeforeEnd q k → ⊥

-- where a key stands that is before the end of what is at a path and below it
abbrev pub IsPlace : Path → List ℕ → Place → Type 0
IsPlace q k places.Inside = is_in q k ≡ true
IsPlace q k places.Leads = (is_in q k ≡ false) × (leads q k ≡ true)
IsPlace q k (places.Before next) = (key_cmp k next ≡ Less)
    × ((x : List ℕ) → is_le (key_cmp k x) ≡ true → key_cmp x next ≡ Less → MissesOne q x)
IsPlace q k places.Behind = ⊥

-- where it stands among those of the parts
abbrev pub IsPlaceAmong : List Path → List ℕ → Place → Type 0
IsPlaceAmong paths k places.Inside = is_in_some paths k ≡ true
IsPlaceAmong paths k places.Leads = (is_in_some paths k ≡ false) × (leads_to_some paths k ≡ true)
IsPlaceAmong paths k (places.Before next) = (key_cmp k next ≡ Less)
    × ((x : List ℕ) → is_le (key_cmp k x) ≡ true → key_cmp x next ≡ Less → Misses paths x)
IsPlaceAmong paths k places.Behind = (x : List ℕ) → is_le (key_cmp k x) ≡ true → Misses paths x

-- no path stands before one that stands before it in the list
unfoldable pub IsRising : List Path → Type 0
IsRising [] = Unit {0}
IsRising (q ∷ paths) = AllByRecursion (λ r. is_le (path_cmp q r) ≡ true) paths × IsRising paths
