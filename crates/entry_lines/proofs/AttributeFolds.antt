-- What attributes say, one after another.
use Rattle.std.proofs.Common.{◌≡◌, ℕ, Bool, true, false, cond, if◌then◌else◌, List, [], ◌∷◌, fold, Option, Some, None}
use Rattle.std.proofs.Common.{IsTrue, refl, sym, ap, ◌∙◌}
use Rattle.std.specs.FinMap.{find, is_sorted}
use Rattle.std.specs.List.Sorted.{IsStrictlySortedBy}
use Rattle.std.specs.Cmp.Lexicographic.{bytes_decides}
use Rattle.store_model.specs.Lists.{same_bytes}
use Rattle.store_model.specs.Paths.{Path, Name, name_cmp}
use Rattle.store_model.specs.Trees.{Entry, Attributes}
use Rattle.store_model.proofs.ListsLemmas.{rising_from_is_sorted}
use Rattle.dump_views.proofs.EntryLemmas.{name_test, found_once}
use Rattle.host_builder.specs.declared.attribute.HostAttribute.{HostAttribute}
use Rattle.host_builder.specs.declared.attribute.HostAttribute.TheVariants as attributes
use Rattle.host_builder.specs.HostAttributes.{attribute_of, mode_of, time_of, link_of, seconds_of, is_target, mode_byte}
use Rattle.host_builder.specs.HostAttributes.{mode_name, mtime_name, link_name}
use Rattle.entry_lines.specs.declared.entry.EntryKind.{EntryKind}
use Rattle.entry_lines.specs.declared.entry.EntryFacts.{EntryFacts}
use Rattle.entry_lines.specs.Entries.{kind_of, said_by, says_executes, seconds_in, target_in, target_by, facts_of}
use Rattle.entry_lines.specs.Entries.{bare_facts, with_said, with_attribute}

-- ---- a part of what is told, after an attribute that says this

abbrev executes_by : Bool → Option HostAttribute → Bool
executes_by before None = before
executes_by before (Some attributes.Executes) = true
executes_by before (Some (attributes.Time seconds)) = before
executes_by before (Some attributes.Link) = before

abbrev seconds_by : Option ℕ → Option HostAttribute → Option ℕ
seconds_by before None = before
seconds_by before (Some attributes.Executes) = before
seconds_by before (Some (attributes.Time seconds)) = Some seconds
seconds_by before (Some attributes.Link) = before

abbrev leads_by : Option (List ℕ) → Option HostAttribute → List ℕ → Option (List ℕ)
leads_by before None bytes = before
leads_by before (Some attributes.Executes) bytes = before
leads_by before (Some (attributes.Time seconds)) bytes = before
leads_by before (Some attributes.Link) bytes = Some bytes

pub said_parts : (f : EntryFacts) (said : Option HostAttribute) (bytes : List ℕ) → with_said f said bytes ≡ record {
  path = f.path;
  kind = f.kind;
  is_executable = executes_by f.is_executable said;
  seconds = seconds_by f.seconds said;
  target = leads_by f.target said bytes;
}
said_parts f None bytes = refl
said_parts f (Some attributes.Executes) bytes = refl
said_parts f (Some (attributes.Time seconds)) bytes = refl
said_parts f (Some attributes.Link) bytes = refl

-- ---- each part is said by the attribute of one name

time_executes : (before : Bool) (seconds : Option ℕ) → executes_by before (time_of seconds) ≡ before
time_executes before None = refl
time_executes before (Some seconds) = refl

link_executes : (before : Bool) (bytes : List ℕ) → executes_by before (link_of bytes) ≡ before
link_executes before bytes = elim (is_target bytes)
    as (λ b. executes_by before (if b then Some attributes.Link else None) ≡ before) [ true ↦ refl | false ↦ refl ]

mode_seconds : (before : Option ℕ) (bytes : List ℕ) → seconds_by before (mode_of bytes) ≡ before
mode_seconds before bytes = elim (same_bytes bytes mode_byte)
    as (λ b. seconds_by before (if b then Some attributes.Executes else None) ≡ before) [ true ↦ refl | false ↦ refl ]

link_seconds : (before : Option ℕ) (bytes : List ℕ) → seconds_by before (link_of bytes) ≡ before
link_seconds before bytes = elim (is_target bytes)
    as (λ b. seconds_by before (if b then Some attributes.Link else None) ≡ before) [ true ↦ refl | false ↦ refl ]

mode_leads : (before : Option (List ℕ)) (bytes : List ℕ) → leads_by before (mode_of bytes) bytes ≡ before
mode_leads before bytes = elim (same_bytes bytes mode_byte)
    as (λ b. leads_by before (if b then Some attributes.Executes else None) bytes ≡ before)
    [ true ↦ refl | false ↦ refl ]

time_leads : (before : Option (List ℕ)) (seconds : Option ℕ) (bytes : List ℕ)
    → leads_by before (time_of seconds) bytes ≡ before
time_leads before None bytes = refl
time_leads before (Some seconds) bytes = refl

module _ (name : Name) (bytes : List ℕ) where
  -- what an attribute says whose name is the first, the second or the third of those that say something
  abbrev chosen : Bool → Bool → Bool → Option HostAttribute
  chosen a b c = if a then mode_of bytes else if b then time_of (seconds_of bytes) else if c then link_of bytes
      else None

  -- a name is no other name
  apart : (one other : Name) → same_bytes one other ≡ false → same_bytes name one ≡ true
      → same_bytes name other ≡ false
  apart one other differ is = ap (λ (n : Name). same_bytes n other) ((bytes_decides name one).0 is) ∙ differ

  executes_step : (before : Bool) → executes_by before (attribute_of name bytes)
      ≡ cond (same_bytes name mode_name) (executes_by before (attribute_of mode_name bytes)) before
  executes_step before =
      by_tests (same_bytes name mode_name) (same_bytes name mtime_name) (same_bytes name link_name)
    where
      by_tests : (a b c : Bool) → executes_by before (chosen a b c) ≡ cond a (executes_by before (mode_of bytes)) before
      by_tests true b c = refl
      by_tests false true c = time_executes before (seconds_of bytes)
      by_tests false false true = link_executes before bytes
      by_tests false false false = refl

  seconds_step : (before : Option ℕ) → seconds_by before (attribute_of name bytes)
      ≡ cond (same_bytes name mtime_name) (seconds_by before (attribute_of mtime_name bytes)) before
  seconds_step before =
      by_tests (same_bytes name mode_name) (same_bytes name mtime_name) (same_bytes name link_name)
      (apart mode_name mtime_name refl)
    where
      by_tests : (a b c : Bool) → (a ≡ true → b ≡ false) → seconds_by before (chosen a b c)
          ≡ cond b (seconds_by before (time_of (seconds_of bytes))) before
      by_tests true b c other = mode_seconds before bytes
          ∙ sym (ap (λ (d : Bool). cond d (seconds_by before (time_of (seconds_of bytes))) before) (other refl))
      by_tests false true c other = refl
      by_tests false false true other = link_seconds before bytes
      by_tests false false false other = refl

  leads_step : (before : Option (List ℕ)) → leads_by before (attribute_of name bytes) bytes
      ≡ cond (same_bytes name link_name) (leads_by before (attribute_of link_name bytes) bytes) before
  leads_step before =
      by_tests (same_bytes name mode_name) (same_bytes name mtime_name) (same_bytes name link_name)
      (apart mode_name link_name refl) (apart mtime_name link_name refl)
    where
      none : (c : Bool) → c ≡ false → cond c (leads_by before (link_of bytes) bytes) before ≡ before
      none c is = ap (λ (d : Bool). cond d (leads_by before (link_of bytes) bytes) before) is

      by_tests : (a b c : Bool) → (a ≡ true → c ≡ false) → (b ≡ true → c ≡ false)
          → leads_by before (chosen a b c) bytes ≡ cond c (leads_by before (link_of bytes) bytes) before
      by_tests true b c first second = mode_leads before bytes ∙ sym (none c (first refl))
      by_tests false true c first second = time_leads before (seconds_of bytes) bytes ∙ sym (none c (second refl))
      by_tests false false true first second = refl
      by_tests false false false first second = refl

-- ---- attributes one after another

-- what is read of an attribute, where it is there
abbrev found_by : {K : Type 0} → (K → List ℕ → K) → K → Option (List ℕ) → K
found_by read before None = before
found_by read before (Some bytes) = read before bytes

-- the attribute of one name changes what is told, which stands once among attributes whose names rise
fold_found : {K : Type 0} (name : Name) (read : K → List ℕ → K) (before : K) (names : Attributes)
    → IsStrictlySortedBy (λ a b. name_cmp a.0 b.0) names
    → fold (λ k a. cond (same_bytes a.0 name) (read k a.1) k) before names
    ≡ found_by read before (find name_cmp name names)
unfolding IsStrictlySortedBy
fold_found name read before [] rising = refl
fold_found {K} name read before (a ∷ names) rising =
    by_test (same_bytes a.0 name) refl (λ k. fold_found name read k names rising.1)
    ∙ ap (λ (b : Bool). found_by read before (cond b (Some a.1) (find name_cmp name names))) (name_test a.0 name)
  where
    by_test : (b : Bool) → same_bytes a.0 name ≡ b
        → ((k : K) → fold (λ k c. cond (same_bytes c.0 name) (read k c.1) k) k names
        ≡ found_by read k (find name_cmp name names))
        → fold (λ k c. cond (same_bytes c.0 name) (read k c.1) k) (cond b (read before a.1) before) names
        ≡ found_by read before (cond b (Some a.1) (find name_cmp name names))
    by_test true is behind = behind (read before a.1)
        ∙ ap (found_by read (read before a.1)) (found_once name a names rising.0 is)
    by_test false is behind = behind before

abbrev read_executes : Bool → List ℕ → Bool
read_executes before bytes = executes_by before (attribute_of mode_name bytes)

abbrev read_seconds : Option ℕ → List ℕ → Option ℕ
read_seconds before bytes = seconds_by before (attribute_of mtime_name bytes)

abbrev read_leads : Option (List ℕ) → List ℕ → Option (List ℕ)
read_leads before bytes = leads_by before (attribute_of link_name bytes) bytes

abbrev folded : Path → EntryKind → Bool → Option ℕ → Option (List ℕ) → Attributes → EntryFacts
folded path kind executes seconds leads names = record {
  path = path;
  kind = kind;
  is_executable = fold (λ k a. cond (same_bytes a.0 mode_name) (read_executes k a.1) k) executes names;
  seconds = fold (λ k a. cond (same_bytes a.0 mtime_name) (read_seconds k a.1) k) seconds names;
  target = fold (λ k a. cond (same_bytes a.0 link_name) (read_leads k a.1) k) leads names;
}

-- each part by itself
fold_parts : (f : EntryFacts) (names : Attributes) → fold (λ g a. with_attribute g a.0 a.1) f names
    ≡ folded f.path f.kind f.is_executable f.seconds f.target names
fold_parts f [] = refl
fold_parts f (a ∷ names) =
    let said = attribute_of a.0 a.1 in
    fold_parts (with_attribute f a.0 a.1) names
    ∙ ap (λ (g : EntryFacts). folded g.path g.kind g.is_executable g.seconds g.target names) (said_parts f said a.1)
    ∙ ap (λ (x : Bool). folded f.path f.kind x (seconds_by f.seconds said) (leads_by f.target said a.1) names)
    (executes_step a.0 a.1 f.is_executable)
    ∙ ap (λ (s : Option ℕ). folded f.path f.kind
    (cond (same_bytes a.0 mode_name) (read_executes f.is_executable a.1) f.is_executable) s
    (leads_by f.target said a.1) names) (seconds_step a.0 a.1 f.seconds)
    ∙ ap (λ (t : Option (List ℕ)). folded f.path f.kind
    (cond (same_bytes a.0 mode_name) (read_executes f.is_executable a.1) f.is_executable)
    (cond (same_bytes a.0 mtime_name) (read_seconds f.seconds a.1) f.seconds) t names) (leads_step a.0 a.1 f.target)

-- ---- what is found is what is told of the entry

executes_found : (bytes : Option (List ℕ))
    → found_by read_executes false bytes ≡ says_executes (said_by mode_name bytes)
executes_found None = refl
executes_found (Some bytes) = by_said (attribute_of mode_name bytes)
  where
    by_said : (said : Option HostAttribute) → executes_by false said ≡ says_executes said
    by_said None = refl
    by_said (Some attributes.Executes) = refl
    by_said (Some (attributes.Time seconds)) = refl
    by_said (Some attributes.Link) = refl

seconds_found : (bytes : Option (List ℕ)) → found_by read_seconds None bytes ≡ seconds_in (said_by mtime_name bytes)
seconds_found None = refl
seconds_found (Some bytes) = by_said (attribute_of mtime_name bytes)
  where
    by_said : (said : Option HostAttribute) → seconds_by None said ≡ seconds_in said
    by_said None = refl
    by_said (Some attributes.Executes) = refl
    by_said (Some (attributes.Time seconds)) = refl
    by_said (Some attributes.Link) = refl

leads_found : (bytes : Option (List ℕ)) → found_by read_leads None bytes ≡ target_by bytes
leads_found None = refl
leads_found (Some bytes) = by_said (attribute_of link_name bytes)
  where
    by_said : (said : Option HostAttribute) → leads_by None said bytes ≡ target_in said bytes
    by_said None = refl
    by_said (Some attributes.Executes) = refl
    by_said (Some (attributes.Time seconds)) = refl
    by_said (Some attributes.Link) = refl

pub facts_told : (p : Path) (e : Entry) → IsTrue (is_sorted name_cmp e.attributes)
    → fold (λ f a. with_attribute f a.0 a.1) (bare_facts p (kind_of e.node)) e.attributes ≡ facts_of p e
unfolding facts_of
facts_told p e sorted =
    let names = e.attributes in
    let rising = rising_from_is_sorted name_cmp names sorted in
    let kind = kind_of e.node in
    fold_parts (bare_facts p kind) names
    ∙ ap (λ (x : Bool). record {
      path = p;
      kind = kind;
      is_executable = x;
      seconds = fold (λ k a. cond (same_bytes a.0 mtime_name) (read_seconds k a.1) k) None names;
      target = fold (λ k a. cond (same_bytes a.0 link_name) (read_leads k a.1) k) None names;
    }) (fold_found mode_name read_executes false names rising ∙ executes_found (find name_cmp mode_name names))
    ∙ ap (λ (s : Option ℕ). record {
      path = p;
      kind = kind;
      is_executable = says_executes (said_by mode_name (find name_cmp mode_name names));
      seconds = s;
      target = fold (λ k a. cond (same_bytes a.0 link_name) (read_leads k a.1) k) None names;
    }) (fold_found mtime_name read_seconds None names rising ∙ seconds_found (find name_cmp mtime_name names))
    ∙ ap (λ (t : Option (List ℕ)). record {
      path = p;
      kind = kind;
      is_executable = says_executes (said_by mode_name (find name_cmp mode_name names));
      seconds = seconds_in (said_by mtime_name (find name_cmp mtime_name names));
      target = t;
    }) (fold_found link_name read_leads None names rising ∙ leads_found (find name_cmp link_name names))
