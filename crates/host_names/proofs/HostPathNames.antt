-- The names of the host that a path spells, name by name.
use Rattle.std.proofs.Common.{◌≡◌, ℕ, ◌≤◌, ◌<◌, List, [], ◌∷◌, ◌++◌, length, refl, sym, ap, ap₂, ◌∙◌, subst, arith}
use Rattle.std.proofs.Common.{false, IsTrue, Result, Ok, Err, OnOk, Some, IsNone, ◌↔◌, map, append_assoc, append-nil}
use Rattle.std.proofs.Common.{length-append, leb-true}
use Rattle.std.specs.List.{AllByRecursion, list_all}
use Rattle.std.proofs.lemmas.List.{map-append}
use Rattle.std.proofs.lemmas.List.Concat.{flat_map-append}
use Rattle.store_model.specs.Paths.{Path, is_name, is_path, is_root, fits_field, field_len, name_bytes, parent}
use Rattle.store_model.specs.Paths.{last_name}
use Rattle.store_model.proofs.ListsLemmas.{second_true, all_append}
use Rattle.path_keys.proofs.PathBytes.{last_split, bytes_split}
use Rattle.host_names.specs.HostNames.{escaped, is_host_name}
use Rattle.host_names.specs.HostPaths.{AreHostNames, host_text, AppendsHostNames, AppendsHostName, HasNoHostPath}
use Rattle.host_names.specs.HostPaths.{HasNoHostName}

-- the last name of a path fits its field
pub last_fits : (p : Path) → is_root p ≡ false → IsTrue (is_path p) → length (last_name p) ≤ 119
last_fits p other valid =
    omega (
      arith,
      leb-true (field_len p) 120 (second_true (list_all is_name p) (fits_field p) valid),
      ap length (bytes_split p other),
      length-append (name_bytes (parent p)) (last_name p ++ 0 ∷ []),
      length-append (last_name p) (0 ∷ []),
    )

-- the parent has a name less
pub parent_shorter : (p q : Path) → is_root p ≡ false → q ≡ parent p → length q < length p
parent_shorter p q other e =
    omega (arith, ap length e, ap length (last_split p other), length-append (parent p) (last_name p ∷ []))

-- a path that has a parent is not the root
pub has_names : (p q : Path) → (IsNone (Some q) ↔ IsTrue (is_root p)) → is_root p ≡ false
has_names [] q none = none.1 refl
has_names (n ∷ p) q none = refl

-- the root spells no names
pub no_names : (p : Path) (old : List ℕ) → IsTrue (is_root p) → AppendsHostNames p old old
no_names [] old root = record {
  names = [];
  are = record { each = tt; spelled = refl };
  appended = sym (append-nil old);
}
no_names (n ∷ p) old root = absurd cc

-- one name more
pub names_more : (p q : Path) (n old mid new : List ℕ) → p ≡ q ++ n ∷ [] → AppendsHostNames q old mid
    → AppendsHostName n mid new → AppendsHostNames p old new
names_more p q n old mid new e front last = record {
  names = front.names ++ last.name ∷ [];
  are = record {
    each = all_append (λ m. IsTrue (is_host_name m)) front.names (last.name ∷ []) front.are.each (last.is_one, tt);
    spelled = map-append escaped front.names (last.name ∷ [])
        ∙ ap₂ (λ a b. a ++ b ∷ []) front.are.spelled last.spelled ∙ sym e;
  };
  appended =
      last.appended ∙ ap (λ t. t ++ (0x2f ∷ last.name)) front.appended
      ∙ append_assoc old (host_text front.names) (0x2f ∷ last.name)
      ∙ ap (λ t. old ++ t) (ap (λ t. host_text front.names ++ t) (sym (append-nil (0x2f ∷ last.name)))
      ∙ sym (flat_map-append (λ m. 0x2f ∷ m) front.names (last.name ∷ [])));
}

-- the names that spell two paths, one behind the other
pub record Parts (q r : Path) (names : List (List ℕ)) : Type 0 where
  pub front : List (List ℕ)
  pub back : List (List ℕ)
  pub front_are : AreHostNames q front
  pub back_are : AreHostNames r back

parts_of : (q r : Path) (names : List (List ℕ)) → AllByRecursion (λ n. IsTrue (is_host_name n)) names
    → map escaped names ≡ q ++ r → Parts q r names
parts_of [] r names each e = record {
  front = [];
  back = names;
  front_are = record { each = tt; spelled = refl };
  back_are = record { each = each; spelled = e };
}
parts_of (n ∷ q) r [] each e = absurd cc
parts_of (n ∷ q) r (m ∷ names) each e =
    let head : escaped m ≡ n = cc in
    let tail : map escaped names ≡ q ++ r = cc in
    let rest : Parts q r names = parts_of q r names each.1 tail in
    record {
      front = m ∷ rest.front;
      back = rest.back;
      front_are = record {
        each = (each.0, rest.front_are.each);
        spelled = ap₂ (λ a b. a ∷ b) head rest.front_are.spelled;
      };
      back_are = rest.back_are;
    }

-- a path below one that spells no names spells none
pub none_below : (p q r : Path) → p ≡ q ++ r → HasNoHostPath q → HasNoHostPath p
none_below p q r e none names are =
    let parts : Parts q r names = parts_of q r names are.each (are.spelled ∙ e) in
    none parts.front parts.front_are

one_name : (n : List ℕ) (names : List (List ℕ)) → AreHostNames (n ∷ []) names → HasNoHostName n → ⊥
one_name n [] are none = let e : map escaped [] ≡ n ∷ [] = are.spelled in absurd cc
one_name n (m ∷ names) are none =
    let e : escaped m ∷ map escaped names ≡ n ∷ [] = are.spelled in
    let head : escaped m ≡ n = cc in
    none m are.each.0 head

-- and one whose last name spells none
pub none_at : (p q : Path) (n : List ℕ) → p ≡ q ++ n ∷ [] → HasNoHostName n → HasNoHostPath p
none_at p q n e none names are =
    let parts : Parts q (n ∷ []) names = parts_of q (n ∷ []) names are.each (are.spelled ∙ e) in
    one_name n parts.back parts.back_are none

-- what a path is made of, by its parent's value and its last name's
pub split_by : (p q : Path) (n : List ℕ) → is_root p ≡ false → q ≡ parent p → n ≡ last_name p → p ≡ q ++ n ∷ []
split_by p q n other eq en = last_split p other ∙ sym (ap₂ (λ a b. a ++ b ∷ []) eq en)

pub ok_more : {E : Type 0} (r : Result (Unit {0}) E) (p q : Path) (n old mid new : List ℕ) → p ≡ q ++ n ∷ []
    → AppendsHostNames q old mid
    → OnOk r (AppendsHostName n mid new) → OnOk r (AppendsHostNames p old new)
ok_more (Ok x) p q n old mid new e front last = names_more p q n old mid new e front last
ok_more (Err x) p q n old mid new e front last = tt

-- the text of a folder, and the names behind it
pub behind_folder : (p : Path) (folder old new : List ℕ) → old ≡ folder → AppendsHostNames p old new
    → AppendsHostNames p folder new
behind_folder p folder old new e names = subst (λ t. AppendsHostNames p t new) e names
