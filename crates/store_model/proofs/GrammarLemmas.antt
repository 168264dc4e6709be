-- Lemmas on the grammar: what a line spells is a command.
use Rattle.std.proofs.Common.{◌≡◌, ℕ, ◌<◌, ◌^◌, List, [], ◌∷◌, Bool, true, false, ◌&&◌, IsTrue, Option, Some, None}
use Rattle.std.proofs.Common.{IfSome, Result, Ok, Err, refl, subst, cond, option_map, nat_le, ◌==◌, leb-true, arith}
use Rattle.std.specs.List.{list_all, slice_split}
use Rattle.std.proofs.lemmas.Bool.{and_from, and_parts}
use Rattle.hex.specs.Hex.{decode_of}
use Rattle.hex.specs.declared.error.FromHexError.{FromHexError}
use Rattle.hex.proofs.HexLemmas.{decode_of-ok}
use Rattle.store_model.specs.declared.refusal.Refusal.TheVariants as refusals
use Rattle.store_model.specs.Lists.{IsBytes}
use Rattle.store_model.specs.Paths.{Path, Name, is_name, is_attribute_name, fits_field}
use Rattle.store_model.specs.Commands.{Command, IsCommand}
use Rattle.store_model.specs.Commands.Command.{Make, Write, Cut, Rename, Remove, Prune, ListChildren, Read, Space}
use Rattle.store_model.specs.Commands.Command.{Digest, SetAttribute, UnsetAttribute, GetAttribute, ListAttributes}
use Rattle.store_model.specs.Grammar.{number_limit, is_numeral, digits_value, number_of, names_of, path_of, ok_value}
use Rattle.store_model.specs.Grammar.{content_of, attribute_name_of, ◌>>=◌, command_of_fields, command_of}
use Rattle.store_model.specs.Grammar.{has_short_paths, checked_command, parse}

-- a path made of names, of any length
abbrev IsNamed : Path → Type 0
IsNamed p = IsTrue (list_all is_name p)

-- what a command's fields spell, with paths of any length
IsSpelled : Command → Type 0
IsSpelled (Make p) = IsNamed p
IsSpelled (Write p at bytes) = IsNamed p × (at < 2 ^ 32) × IsBytes bytes
IsSpelled (Cut p len) = IsNamed p × (len < 2 ^ 32)
IsSpelled (Rename p q) = IsNamed p × IsNamed q
IsSpelled (Remove p) = IsNamed p
IsSpelled (Prune p) = IsNamed p
IsSpelled (ListChildren p) = IsNamed p
IsSpelled (Read p at len) = IsNamed p × (at < 2 ^ 32) × (len < 2 ^ 32)
IsSpelled Space = Unit {0}
IsSpelled Digest = Unit {0}
IsSpelled (SetAttribute p a bytes) = IsNamed p × IsTrue (is_attribute_name a) × IsBytes bytes
IsSpelled (UnsetAttribute p a) = IsNamed p × IsTrue (is_attribute_name a)
IsSpelled (GetAttribute p a) = IsNamed p × IsTrue (is_attribute_name a)
IsSpelled (ListAttributes p) = IsNamed p

-- ---- the steps of the grammar keep what is known of what they give

-- a value that is given only where a test holds
if_tested : {A : Type 0} (P : A → Type 0) (b : Bool) (x : A) → (b ≡ true → P x) → IfSome (cond b (Some x) None) P
if_tested P true x f = f refl
if_tested P false x f = tt

-- one of two, by a test
if_picked : {A : Type 0} (P : A → Type 0) (b : Bool) (x y : Option A) → IfSome x P → IfSome y P → IfSome (cond b x y) P
if_picked P true x y f g = f
if_picked P false x y f g = g

-- a next part behind a part
if_next : {A B : Type 0} (P : A → Type 0) (Q : B → Type 0) (o : Option A) (f : A → Option B) → IfSome o P
    → ((x : A) → P x → IfSome (f x) Q) → IfSome (o >>= f) Q
if_next P Q None f h g = tt
if_next P Q (Some x) f h g = g x h

-- a map of a part
if_mapped : {A B : Type 0} (P : A → Type 0) (Q : B → Type 0) (f : A → B) (o : Option A) → IfSome o P
    → ((x : A) → P x → Q (f x)) → IfSome (option_map f o) Q
if_mapped P Q f None h g = tt
if_mapped P Q f (Some x) h g = g x h

-- ---- the parts of a command

-- the names of a path's parts
named_parts : (names : List (List ℕ)) → IfSome (names_of names) IsNamed
named_parts names = if_tested IsNamed (list_all is_name names) names (λ e. e)

-- a path is made of names
named_path : (text : List ℕ) → IfSome (path_of text) IsNamed
unfolding path_of
named_path [] = tt
named_path (c ∷ []) = if_tested IsNamed _ [] (λ e. refl)
named_path (c ∷ d ∷ text) = if_picked IsNamed _ (names_of (slice_split (λ b. b == 0x2f) (d ∷ text))) None
    (named_parts (slice_split (λ b. b == 0x2f) (d ∷ text))) tt

-- a number has 32 bits
small_number : (text : List ℕ) → IfSome (number_of text) (λ n. n < 2 ^ 32)
unfolding number_of
small_number text =
    if_tested (λ n. n < 2 ^ 32) (is_numeral text && nat_le (digits_value text) number_limit) (digits_value text)
    (λ e. let l = leb-true (digits_value text) number_limit (and_parts (is_numeral text) _ e).1 in omega arith)

-- decoded bytes are bytes
decoded_bytes : (text : List ℕ) (r : Result (List ℕ) FromHexError) → decode_of text ≡ r → IfSome (ok_value r) IsBytes
decoded_bytes text (Ok bytes) e = (decode_of-ok text bytes e).3
decoded_bytes text (Err x) e = tt

-- contents are bytes
content_bytes : (text : List ℕ) → IfSome (content_of text) IsBytes
unfolding content_of
content_bytes [] = tt
content_bytes (c ∷ text) = if_picked IsBytes _ (Some []) _ (λ i. omega arith)
    (decoded_bytes (c ∷ text) (decode_of (c ∷ text)) refl)

-- what is spelled is a command, if there is one
record Spells (spelled : Option Command) : Type 0 where
  command : IfSome spelled IsSpelled

-- no command
spells_none : Spells None
spells_none = record { command = tt }

-- a command
spells_some : (c : Command) → IsSpelled c → Spells (Some c)
spells_some c h = record { command = h }

-- the first of two commands where a test holds, and else the second
spells_picked : (b : Bool) (x y : Option Command) → Spells x → Spells y → Spells (cond b x y)
spells_picked b x y f g = record { command = if_picked IsSpelled b x y f.command g.command }

-- a command whose one part is a path
spells_path : (f : Path → Command) (text : List ℕ) → ((p : Path) → IsNamed p → IsSpelled (f p))
    → Spells (option_map f (path_of text))
spells_path f text g = record { command = if_mapped IsNamed IsSpelled f (path_of text) (named_path text) g }

-- a command whose next part is a path
path_then : (text : List ℕ) (f : Path → Option Command) → ((p : Path) → IsNamed p → Spells (f p))
    → Spells (path_of text >>= f)
path_then text f g = record {
  command = if_next IsNamed IsSpelled (path_of text) f (named_path text) (λ p h. (g p h).command);
}

-- a command whose next part is a number
number_then : (text : List ℕ) (f : ℕ → Option Command) → ((n : ℕ) → n < 2 ^ 32 → Spells (f n))
    → Spells (number_of text >>= f)
number_then text f g = record {
  command = if_next (λ n. n < 2 ^ 32) IsSpelled (number_of text) f (small_number text) (λ n h. (g n h).command);
}

-- a command whose next part is an attribute's name
attribute_then : (text : List ℕ) (f : Name → Option Command)
    → ((a : Name) → IsTrue (is_attribute_name a) → Spells (f a)) → Spells (attribute_name_of text >>= f)
attribute_then text f g = record {
  command = if_next (λ a. IsTrue (is_attribute_name a)) IsSpelled (attribute_name_of text) f
      (if_tested (λ a. IsTrue (is_attribute_name a)) (is_attribute_name text) text (λ e. e)) (λ a h. (g a h).command);
}

-- a command whose next part is contents
contents_then : (text : List ℕ) (f : List ℕ → Option Command) → ((bytes : List ℕ) → IsBytes bytes → Spells (f bytes))
    → Spells (content_of text >>= f)
contents_then text f g = record {
  command = if_next IsBytes IsSpelled (content_of text) f (content_bytes text) (λ bytes h. (g bytes h).command);
}

-- the fields of a line spell a command
spells_fields : (fields : List (List ℕ)) → Spells (command_of_fields fields)
unfolding command_of_fields IsSpelled
spells_fields [] = spells_none
spells_fields (w ∷ []) = spells_picked _ _ _ (spells_some Space tt)
    (spells_picked _ _ _ (spells_some Digest tt) spells_none)
spells_fields (w ∷ a ∷ []) =
    spells_picked _ _ _ (spells_path Make a (λ p h. h))
    (spells_picked _ _ _ (spells_path Remove a (λ p h. h))
    (spells_picked _ _ _ (spells_path Prune a (λ p h. h))
    (spells_picked _ _ _ (spells_path ListChildren a (λ p h. h))
    (spells_picked _ _ _ (spells_path ListAttributes a (λ p h. h)) spells_none))))
spells_fields (w ∷ a ∷ b ∷ []) =
    spells_picked _ _ _
    (path_then a _ (λ p h. number_then b _ (λ n k. spells_some (Cut p n) (h, k))))
    (spells_picked _ _ _
    (path_then a _ (λ p h. path_then b _ (λ q k. spells_some (Rename p q) (h, k))))
    (spells_picked _ _ _
    (path_then a _ (λ p h. attribute_then b _ (λ n k. spells_some (UnsetAttribute p n) (h, k))))
    (spells_picked _ _ _
    (path_then a _ (λ p h. attribute_then b _ (λ n k. spells_some (GetAttribute p n) (h, k))))
    spells_none)))
spells_fields (w ∷ a ∷ b ∷ c ∷ []) =
    spells_picked _ _ _
    (path_then a _ (λ p h. number_then b _
    (λ n k. contents_then c _ (λ bytes is. spells_some (Write p n bytes) (h, k, is)))))
    (spells_picked _ _ _
    (path_then a _ (λ p h. number_then b _ (λ n k. number_then c _ (λ m l. spells_some (Read p n m) (h, k, l)))))
    (spells_picked _ _ _
    (path_then a _ (λ p h. attribute_then b _
    (λ n k. contents_then c _ (λ bytes is. spells_some (SetAttribute p n bytes) (h, k, is)))))
    spells_none))
spells_fields (w ∷ a ∷ b ∷ c ∷ d ∷ fields) = spells_none

-- so does a line
spelled_line : (text : List ℕ) → IfSome (command_of text) IsSpelled
unfolding command_of
spelled_line text = (spells_fields (slice_split (λ c. c == 0x20) text)).command

-- what is spelled, with paths that keys can hold, is a command
short_command : (c : Command) → IsSpelled c → has_short_paths c ≡ true → IsCommand c
unfolding IsSpelled has_short_paths
short_command (Make p) h s = and_from _ _ h s
short_command (Write p at bytes) h s = (and_from _ _ h.0 s, h.1, h.2)
short_command (Cut p len) h s = (and_from _ _ h.0 s, h.1)
short_command (Rename p q) h s =
    (and_from _ _ h.0 (and_parts _ _ s).0, and_from _ _ h.1 (and_parts (fits_field p) _ s).1)
short_command (Remove p) h s = and_from _ _ h s
short_command (Prune p) h s = and_from _ _ h s
short_command (ListChildren p) h s = and_from _ _ h s
short_command (Read p at len) h s = (and_from _ _ h.0 s, h.1, h.2)
short_command Space h s = tt
short_command Digest h s = tt
short_command (SetAttribute p a bytes) h s = (and_from _ _ h.0 s, h.1, h.2)
short_command (UnsetAttribute p a) h s = (and_from _ _ h.0 s, h.1)
short_command (GetAttribute p a) h s = (and_from _ _ h.0 s, h.1)
short_command (ListAttributes p) h s = and_from _ _ h s

-- a command that is checked for the length of its paths
checked : (spelled : Option Command) (c : Command) → IfSome spelled IsSpelled
    → checked_command spelled ≡ Ok c → IsCommand c
checked None c h e = cc
checked (Some d) c h e = by_test (has_short_paths d) refl e
  where
    by_test : (b : Bool) → has_short_paths d ≡ b → cond b (Ok d) (Err refusals.Path) ≡ Ok c → IsCommand c
    by_test true s e = let same : d ≡ c = cc in subst IsCommand same (short_command d h s)
    by_test false s e = cc

-- the command of a line is one that a script can ask for
pub IsCommand-parse : (text : List ℕ) (c : Command) → parse text ≡ Ok c → IsCommand c
unfolding parse
IsCommand-parse text c e = checked (command_of text) c (spelled_line text) e
