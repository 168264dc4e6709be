-- Which attributes of an entry are set at once, and which wait.
use Rattle.std.proofs.Common.{◌≡◌, ℕ, Bool, true, false, ◌&&◌, ◌||◌, ◌==◌, if◌then◌else◌, cond, List, [], ◌∷◌, ◌++◌}
use Rattle.std.proofs.Common.{map}
use Rattle.std.proofs.Common.{length, Option, Some, None, ◌⊎◌, inl, inr, refl, sym, ap, subst, ◌∙◌, Less}
use Rattle.std.proofs.lemmas.Bool.{false≢true}
use Rattle.std.specs.List.{AllByRecursion, list_any}
use Rattle.std.specs.Cmp.Lexicographic.{bytes_decides}
use Rattle.store_model.specs.Lists.{same_bytes}
use Rattle.store_model.specs.Paths.{Path, Name, name_cmp}
use Rattle.store_model.specs.Trees.{Attributes, Node}
use Rattle.store_model.specs.Trees.Node.{Directory, File}
use Rattle.store_model.proofs.TreesLemmasPaths.{same_path-itself}
use Rattle.dump_streams.specs.Dumps.{DumpStep, attribute_steps}
use Rattle.dump_streams.specs.Dumps.DumpStep.{Set}
use Rattle.host_builder.specs.declared.attribute.Wanted.{Wanted}
use Rattle.host_builder.specs.declared.attribute.HostAttribute.{HostAttribute}
use Rattle.host_builder.specs.declared.attribute.HostAttribute.TheVariants as attributes
use Rattle.host_builder.specs.declared.plan.Made.{Made}
use Rattle.host_builder.specs.declared.plan.Made.TheVariants as made
use Rattle.host_builder.specs.declared.plan.Turn.{Turn}
use Rattle.host_builder.specs.declared.plan.Turn.TheVariants as turns
use Rattle.host_builder.specs.HostAttributes.{attribute_of, mode_of, time_of, link_of, seconds_of, is_target, mode_byte}
use Rattle.host_builder.specs.HostAttributes.{mode_name, mtime_name, link_name}
use Rattle.host_builder.specs.Turns.{reads_links, turn_of, set_turn, made_behind, if_now, if_later, steps_now}
use Rattle.host_builder.specs.Turns.{steps_later}
use Rattle.host_builder.specs.Views.{folder_has, file_has, link_has, kept, is_link}

-- ---- the names of what the host can have

module _ (wanted : Wanted) where
  no_mode : (bytes : List ℕ) → link_has wanted (mode_of bytes) ≡ false
  no_mode bytes = elim (same_bytes bytes mode_byte)
      as (λ b. link_has wanted (if b then Some attributes.Executes else None) ≡ false) [ true ↦ refl | false ↦ refl ]

  no_time : (seconds : Option ℕ) → link_has wanted (time_of seconds) ≡ false
  no_time None = refl
  no_time (Some seconds) = refl

  no_link : (bytes : List ℕ) → file_has wanted (link_of bytes) ≡ false
  no_link bytes = elim (is_target bytes)
      as (λ b. file_has wanted (if b then Some attributes.Link else None) ≡ false) [ true ↦ refl | false ↦ refl ]

  no_folder_mode : (bytes : List ℕ) → folder_has wanted (mode_of bytes) ≡ false
  no_folder_mode bytes = elim (same_bytes bytes mode_byte)
      as (λ b. folder_has wanted (if b then Some attributes.Executes else None) ≡ false) [ true ↦ refl | false ↦ refl ]

  no_folder_link : (bytes : List ℕ) → folder_has wanted (link_of bytes) ≡ false
  no_folder_link bytes = elim (is_target bytes)
      as (λ b. folder_has wanted (if b then Some attributes.Link else None) ≡ false) [ true ↦ refl | false ↦ refl ]

  module _ (name : Name) (bytes : List ℕ) where
    abbrev chosen : Bool → Bool → Bool → Option HostAttribute
    chosen a b c = if a then mode_of bytes else if b then time_of (seconds_of bytes) else if c then link_of bytes
        else None

    pub link_named : link_has wanted (attribute_of name bytes) ≡ true → name ≡ link_name
    link_named is = (bytes_decides name link_name).0
        (by_tests (same_bytes name mode_name) (same_bytes name mtime_name) (same_bytes name link_name) is)
      where
        by_tests : (a b c : Bool) → link_has wanted (chosen a b c) ≡ true → c ≡ true
        by_tests true b c e = absurd (false≢true (sym (no_mode bytes) ∙ e))
        by_tests false true c e = absurd (false≢true (sym (no_time (seconds_of bytes)) ∙ e))
        by_tests false false true e = refl
        by_tests false false false e = e

    pub file_named : file_has wanted (attribute_of name bytes) ≡ true → (name ≡ mode_name) ⊎ (name ≡ mtime_name)
    file_named is =
        by_tests (same_bytes name mode_name) (same_bytes name mtime_name) (same_bytes name link_name) refl refl is
      where
        by_tests : (a b c : Bool) → same_bytes name mode_name ≡ a → same_bytes name mtime_name ≡ b
            → file_has wanted (chosen a b c) ≡ true → (name ≡ mode_name) ⊎ (name ≡ mtime_name)
        by_tests true b c first second e = inl ((bytes_decides name mode_name).0 first)
        by_tests false true c first second e = inr ((bytes_decides name mtime_name).0 second)
        by_tests false false true first second e = absurd (false≢true (sym (no_link bytes) ∙ e))
        by_tests false false false first second e = absurd (false≢true e)

    pub folder_named : folder_has wanted (attribute_of name bytes) ≡ true → name ≡ mtime_name
    folder_named is = (bytes_decides name mtime_name).0
        (by_tests (same_bytes name mode_name) (same_bytes name mtime_name) (same_bytes name link_name) is)
      where
        by_tests : (a b c : Bool) → folder_has wanted (chosen a b c) ≡ true → b ≡ true
        by_tests true b c e = absurd (false≢true (sym (no_folder_mode bytes) ∙ e))
        by_tests false true c e = refl
        by_tests false false true e = absurd (false≢true (sym (no_folder_link bytes) ∙ e))
        by_tests false false false e = e

  -- what a link has no file has
  pub link_no_file : (o : Option HostAttribute) → link_has wanted o ≡ true → file_has wanted o ≡ false
  link_no_file None is = refl
  link_no_file (Some attributes.Executes) is = absurd (false≢true is)
  link_no_file (Some (attributes.Time seconds)) is = absurd (false≢true is)
  link_no_file (Some attributes.Link) is = refl

-- ---- turns

-- the turn of an attribute that is set at once, or waits
abbrev told_turn : Bool → Bool → Turn
told_turn now later = if now then turns.Now else if later then turns.Later else turns.Never

module _ (wanted : Wanted) (x : Path) where
  folder_is : (o : Option HostAttribute) → set_turn wanted (made.Folder x) x o ≡ told_turn false (folder_has wanted o)
  folder_is None = refl
  folder_is (Some attributes.Executes) = ap (λ (b : Bool). if b then turns.Never else turns.Never) (same_path-itself x)
  folder_is (Some (attributes.Time seconds)) =
      ap (λ (b : Bool). if b then (if wanted.mtime then turns.Later else turns.Never) else turns.Never)
      (same_path-itself x)
  folder_is (Some attributes.Link) = ap (λ (b : Bool). if b then turns.Never else turns.Never) (same_path-itself x)

  file_is : (e : Bool) (o : Option HostAttribute)
      → set_turn wanted (made.File x e) x o ≡ told_turn (file_has wanted o) (link_has wanted o && e)
  file_is e None = refl
  file_is e (Some attributes.Executes) =
      ap (λ (b : Bool). if b then (if wanted.mode then turns.Now else turns.Never) else turns.Never)
      (same_path-itself x)
  file_is e (Some (attributes.Time seconds)) =
      ap (λ (b : Bool). if b then (if wanted.mtime then turns.Now else turns.Never) else turns.Never)
      (same_path-itself x)
  file_is e (Some attributes.Link) =
      ap (λ (b : Bool). if b then (if reads_links wanted.links && e then turns.Later else turns.Never) else turns.Never)
      (same_path-itself x)

  nothing_is : (o : Option HostAttribute) → set_turn wanted made.Nothing x o ≡ turns.Never
  nothing_is None = refl
  nothing_is (Some attribute) = refl

-- the attributes with one more, where this is its turn
abbrev with_now : Turn → Name × List ℕ → Attributes → Attributes
with_now turns.Now a names = a ∷ names
with_now turns.Later a names = names
with_now turns.Never a names = names

abbrev with_later : Turn → Name × List ℕ → Attributes → Attributes
with_later turns.Now a names = names
with_later turns.Later a names = a ∷ names
with_later turns.Never a names = names

-- Of the attributes of a path these are set at once, and these wait.
pub record Leads (wanted : Wanted) (last : Made) (x : Path) (names now later : Attributes) : Type 0 where
  pub now_is : steps_now wanted last (attribute_steps x names) ≡ attribute_steps x now
  pub later_is : steps_later wanted last (attribute_steps x names) ≡ attribute_steps x later

module _ (wanted : Wanted) (last : Made) (x : Path) (a : Name × List ℕ) (names : Attributes) where
  -- an attribute before others
  lead_one : (turn : Turn) (now later : Attributes) → turn_of wanted last (Set x a.0 a.1) ≡ turn
      → Leads wanted (made_behind last turn) x names now later
      → Leads wanted last x (a ∷ names) (with_now turn a now) (with_later turn a later)
  unfolding attribute_steps
  lead_one turn now later is rest = record {
    now_is = ap (λ (t : Turn). if_now t (Set x a.0 a.1) ++ steps_now wanted (made_behind last t)
        (map (λ b. Set x b.0 b.1) names)) is
        ∙ ap (λ (more : List DumpStep). if_now turn (Set x a.0 a.1) ++ more) rest.now_is ∙ first_now turn now;
    later_is = ap (λ (t : Turn). if_later t (Set x a.0 a.1) ++ steps_later wanted (made_behind last t)
        (map (λ b. Set x b.0 b.1) names)) is
        ∙ ap (λ (more : List DumpStep). if_later turn (Set x a.0 a.1) ++ more) rest.later_is ∙ first_later turn later;
  }
    where
      first_now : (t : Turn) (now : Attributes) → if_now t (Set x a.0 a.1) ++ map (λ b. Set x b.0 b.1) now
          ≡ map (λ b. Set x b.0 b.1) (with_now t a now)
      first_now turns.Now now = refl
      first_now turns.Later now = refl
      first_now turns.Never now = refl

      first_later : (t : Turn) (later : Attributes) → if_later t (Set x a.0 a.1) ++ map (λ b. Set x b.0 b.1) later
          ≡ map (λ b. Set x b.0 b.1) (with_later t a later)
      first_later turns.Now later = refl
      first_later turns.Later later = refl
      first_later turns.Never later = refl

no_names : (wanted : Wanted) (last : Made) (x : Path) → Leads wanted last x [] [] []
unfolding attribute_steps
no_names wanted last x = record { now_is = refl; later_is = refl }

-- where nothing was made none is set
nothing_names : (wanted : Wanted) (x : Path) (names : Attributes) → Leads wanted made.Nothing x names [] []
nothing_names wanted x [] = no_names wanted made.Nothing x
nothing_names wanted x (a ∷ names) = lead_one wanted made.Nothing x a names turns.Never [] []
    (nothing_is wanted x (attribute_of a.0 a.1)) (nothing_names wanted x names)

-- of a folder its time waits
folder_names : (wanted : Wanted) (x : Path) (names : Attributes)
    → Leads wanted (made.Folder x) x names [] (kept (folder_has wanted) names)
folder_names wanted x [] = no_names wanted (made.Folder x) x
folder_names wanted x (a ∷ names) =
    by_test (folder_has wanted (attribute_of a.0 a.1)) (folder_is wanted x (attribute_of a.0 a.1))
    (folder_names wanted x names)
  where
    by_test : (b : Bool) → turn_of wanted (made.Folder x) (Set x a.0 a.1) ≡ told_turn false b
        → Leads wanted (made.Folder x) x names [] (kept (folder_has wanted) names)
        → Leads wanted (made.Folder x) x (a ∷ names) []
        (cond b (a ∷ kept (folder_has wanted) names) (kept (folder_has wanted) names))
    by_test true is rest =
        lead_one wanted (made.Folder x) x a names turns.Later [] (kept (folder_has wanted) names) is rest
    by_test false is rest =
        lead_one wanted (made.Folder x) x a names turns.Never [] (kept (folder_has wanted) names) is rest

-- of a file that is no link the mode and the time are set at once
file_names : (wanted : Wanted) (x : Path) (e : Bool) (names : Attributes)
    → AllByRecursion (λ a. (link_has wanted (attribute_of a.0 a.1) && e) ≡ false) names
    → Leads wanted (made.File x e) x names (kept (file_has wanted) names) []
file_names wanted x e [] none = no_names wanted (made.File x e) x
file_names wanted x e (a ∷ names) none =
    by_test (file_has wanted (attribute_of a.0 a.1))
    (file_is wanted x e (attribute_of a.0 a.1) ∙ ap (told_turn (file_has wanted (attribute_of a.0 a.1))) none.0)
    (file_names wanted x e names none.1)
  where
    by_test : (b : Bool) → turn_of wanted (made.File x e) (Set x a.0 a.1) ≡ told_turn b false
        → Leads wanted (made.File x e) x names (kept (file_has wanted) names) []
        → Leads wanted (made.File x e) x (a ∷ names)
        (cond b (a ∷ kept (file_has wanted) names) (kept (file_has wanted) names)) []
    by_test true is rest =
        lead_one wanted (made.File x e) x a names turns.Now (kept (file_has wanted) names) [] is rest
    by_test false is rest =
        lead_one wanted (made.File x e) x a names turns.Never (kept (file_has wanted) names) [] is rest

-- ---- links

-- names that are above another one
abbrev pub AreAbove : Name → Attributes → Type 0
AreAbove name names = AllByRecursion (λ b. name_cmp name b.0 ≡ Less) names

-- above the name of a link there is none
pub none_above : (wanted : Wanted) (names : Attributes) → AreAbove link_name names → kept (link_has wanted) names ≡ []
none_above wanted [] above = refl
none_above wanted (a ∷ names) above =
    by_test (link_has wanted (attribute_of a.0 a.1)) refl ∙ none_above wanted names above.1
  where
    by_test : (b : Bool) → link_has wanted (attribute_of a.0 a.1) ≡ b
        → cond b (a ∷ kept (link_has wanted) names) (kept (link_has wanted) names) ≡ kept (link_has wanted) names
    by_test true is =
        let tied : name_cmp link_name link_name ≡ Less =
        subst (λ (name : Name). name_cmp link_name name ≡ Less) (link_named wanted a.0 a.1 is) above.0 in cc
    by_test false is = refl

-- where a name is below all of them, and one is a link's, it is below a link's
pub below_link : (wanted : Wanted) (name : Name) (names : Attributes) → AreAbove name names
    → list_any (λ a. link_has wanted (attribute_of a.0 a.1)) names ≡ true → name_cmp name link_name ≡ Less
below_link wanted name [] above some = absurd (false≢true some)
below_link wanted name (a ∷ names) above some =
    by_test (below_link wanted name names above.1) (link_has wanted (attribute_of a.0 a.1)) refl some
  where
    by_test : (list_any (λ a. link_has wanted (attribute_of a.0 a.1)) names ≡ true → name_cmp name link_name ≡ Less)
        → (b : Bool) → link_has wanted (attribute_of a.0 a.1) ≡ b
        → (b || list_any (λ a. link_has wanted (attribute_of a.0 a.1)) names) ≡ true → name_cmp name link_name ≡ Less
    by_test rest true is e = subst (λ (other : Name). name_cmp name other ≡ Less) (link_named wanted a.0 a.1 is) above.0
    by_test rest false is e = rest e

-- so it says nothing of a file
pub no_file_below : (wanted : Wanted) (name : Name) (bytes : List ℕ) → name_cmp name link_name ≡ Less
    → file_has wanted (attribute_of name bytes) ≡ false
no_file_below wanted name bytes below = by_test (file_has wanted (attribute_of name bytes)) refl
  where
    wrong : (name ≡ mode_name) ⊎ (name ≡ mtime_name) → ⊥
    wrong (inl is) = let no : name_cmp mode_name link_name ≡ Less =
        subst (λ (other : Name). name_cmp other link_name ≡ Less) is below in cc
    wrong (inr is) = let no : name_cmp mtime_name link_name ≡ Less =
        subst (λ (other : Name). name_cmp other link_name ≡ Less) is below in cc

    by_test : (b : Bool) → file_has wanted (attribute_of name bytes) ≡ b → b ≡ false
    by_test true is = absurd (wrong (file_named wanted name bytes is))
    by_test false is = refl

-- names that rise
abbrev pub DoRise : Attributes → Type 0
DoRise [] = Unit {0}
DoRise (a ∷ names) = AreAbove a.0 names × DoRise names

-- of an empty file that is a link that alone waits
link_names : (wanted : Wanted) (x : Path) (names : Attributes) → DoRise names
    → list_any (λ a. link_has wanted (attribute_of a.0 a.1)) names ≡ true
    → Leads wanted (made.File x true) x names [] (kept (link_has wanted) names)
link_names wanted x [] rise some = absurd (false≢true some)
link_names wanted x (a ∷ names) rise some =
    by_test (link_names wanted x names rise.1) (link_has wanted (attribute_of a.0 a.1)) refl some
  where
    by_test : (list_any (λ a. link_has wanted (attribute_of a.0 a.1)) names ≡ true
        → Leads wanted (made.File x true) x names [] (kept (link_has wanted) names))
        → (b : Bool) → link_has wanted (attribute_of a.0 a.1) ≡ b
        → (b || list_any (λ a. link_has wanted (attribute_of a.0 a.1)) names) ≡ true
        → Leads wanted (made.File x true) x (a ∷ names) []
        (cond b (a ∷ kept (link_has wanted) names) (kept (link_has wanted) names))
    by_test rest true is e =
        let turn : turn_of wanted (made.File x true) (Set x a.0 a.1) ≡ turns.Later =
        file_is wanted x true (attribute_of a.0 a.1)
        ∙ ap (λ (b : Bool). told_turn b (link_has wanted (attribute_of a.0 a.1) && true))
        (link_no_file wanted (attribute_of a.0 a.1) is) ∙ ap (λ (b : Bool). told_turn false (b && true)) is in
        let alone : kept (link_has wanted) names ≡ [] = none_above wanted names
        (subst (λ (name : Name). AreAbove name names) (link_named wanted a.0 a.1 is) rise.0) in
        subst (λ (later : Attributes). Leads wanted (made.File x true) x (a ∷ names) [] (a ∷ later)) (sym alone)
        (lead_one wanted (made.File x true) x a names turns.Later [] [] turn (nothing_names wanted x names))
    by_test rest false is e =
        let turn : turn_of wanted (made.File x true) (Set x a.0 a.1) ≡ turns.Never =
        file_is wanted x true (attribute_of a.0 a.1)
        ∙ ap (λ (b : Bool). told_turn b (link_has wanted (attribute_of a.0 a.1) && true))
        (no_file_below wanted a.0 a.1 (below_link wanted a.0 names rise.0 e))
        ∙ ap (λ (b : Bool). told_turn false (b && true)) is in
        lead_one wanted (made.File x true) x a names turns.Never [] (kept (link_has wanted) names) turn (rest e)

-- ---- what is set at once, and what waits

abbrev pub now_names : Wanted → Node → Attributes → Attributes
now_names wanted Directory names = []
now_names wanted (File bytes) names = if is_link wanted (length bytes == 0) names then []
    else kept (file_has wanted) names

abbrev pub later_names : Wanted → Node → Attributes → Attributes
later_names wanted Directory names = kept (folder_has wanted) names
later_names wanted (File bytes) names = if is_link wanted (length bytes == 0) names then kept (link_has wanted) names
    else []

-- what was made last, behind the steps of a node
abbrev pub made_of : Path → Node → Made
made_of x Directory = made.Folder x
made_of x (File bytes) = made.File x (length bytes == 0)

-- without a link none waits
pub each_none : (wanted : Wanted) (e : Bool) (names : Attributes) → is_link wanted e names ≡ false
    → AllByRecursion (λ a. (link_has wanted (attribute_of a.0 a.1) && e) ≡ false) names
each_none wanted true [] none = tt
each_none wanted false [] none = tt
each_none wanted true (a ∷ more) none =
    by_test (each_none wanted true more) (link_has wanted (attribute_of a.0 a.1)) refl none
  where
    by_test : (is_link wanted true more ≡ false
        → AllByRecursion (λ a. (link_has wanted (attribute_of a.0 a.1) && true) ≡ false) more)
        → (b : Bool) → link_has wanted (attribute_of a.0 a.1) ≡ b
        → (b || list_any (λ a. link_has wanted (attribute_of a.0 a.1)) more) ≡ false
        → AllByRecursion (λ a. (link_has wanted (attribute_of a.0 a.1) && true) ≡ false) (a ∷ more)
    by_test rest true is lacks = absurd (false≢true (sym lacks))
    by_test rest false is lacks = (ap (λ (b : Bool). b && true) is, rest lacks)
each_none wanted false (a ∷ more) none = (
  elim (link_has wanted (attribute_of a.0 a.1)) as (λ b. (b && false) ≡ false) [ true ↦ refl | false ↦ refl ],
  each_none wanted false more refl,
)

pub node_names : (wanted : Wanted) (x : Path) (node : Node) (names : Attributes) → DoRise names
    → Leads wanted (made_of x node) x names (now_names wanted node names) (later_names wanted node names)
node_names wanted x Directory names rise = folder_names wanted x names
node_names wanted x (File bytes) names rise =
    by_link (length bytes == 0) (is_link wanted (length bytes == 0) names) refl
  where
    by_link : (e b : Bool) → is_link wanted e names ≡ b
        → Leads wanted (made.File x e) x names (if b then [] else kept (file_has wanted) names)
        (if b then kept (link_has wanted) names else [])
    by_link e false none = file_names wanted x e names (each_none wanted e names none)
    by_link true true some = link_names wanted x names rise some
    by_link false true some = absurd (false≢true some)
