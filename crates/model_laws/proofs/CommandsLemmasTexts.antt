-- Reading the text of a command gives the command back.
use Rattle.std.proofs.Common.{◌≡◌, ℕ, ◌+◌, ◌-◌, ◌*◌, ◌/◌, ◌%◌, ◌<◌, ◌≤◌, ◌^◌, zero, suc, List, [], ◌∷◌, ◌++◌, length}
use Rattle.std.proofs.Common.{get_or, slice_index, Bool, true, false, not, ◌&&◌, nat_le, ◌==◌, cond, IsTrue, codes}
use Rattle.std.proofs.Common.{fold, Option, Some, None, Ok, Err, refl, ap, ◌∙◌, arith, length-append, append_assoc}
use Rattle.std.specs.Fmt.{decimal}
use Rattle.std.specs.List.{All, AllByRecursion, list_all, slice_split}
use Rattle.std.specs.Option.{option_map}
use Rattle.std.proofs.lemmas.Bool.{and_from, leb-true, le-leb, le-ltb, ne_eqb}
use Rattle.std.proofs.lemmas.Fmt.{decimal_by_steps, decimal_digit, first_decimal}
use Rattle.std.proofs.lemmas.List.Elements.{All-from_recursion}
use Rattle.std.proofs.lemmas.List.Splits.{slice_split_none, slice_split_at}
use Rattle.hex.specs.Hex.{encode_lower, encode_with, lower_digits, decode_of}
use Rattle.hex.proofs.HexLemmas.{decode_of-encode_lower, length-encode_with}
use Rattle.store_model.specs.declared.refusal.Refusal.TheVariants as refusals
use Rattle.store_model.specs.Lists.{IsBytes, same_bytes}
use Rattle.store_model.specs.Paths.{Path, Name, is_name, is_name_byte, is_path, is_attribute_name, attribute_name_limit}
use Rattle.store_model.specs.Paths.{fits_field, path_text}
use Rattle.store_model.specs.Commands.{Command, IsCommand, command_text, content_text}
use Rattle.store_model.specs.Commands.Command.{Make, Write, Cut, Rename, Remove, Prune, ListChildren, Read, Space}
use Rattle.store_model.specs.Commands.Command.{Digest, SetAttribute, UnsetAttribute, GetAttribute, ListAttributes}
use Rattle.store_model.specs.Grammar.{is_digit, is_numeral, digits_value, number_limit, number_of, path_of, ok_value}
use Rattle.store_model.specs.Grammar.{content_of, attribute_name_of, ◌>>=◌, command_of_fields, command_of}
use Rattle.store_model.specs.Grammar.{has_short_paths, checked_command, parse}
use Rattle.store_model.specs.Scripts.{line_limit, reading}
use Rattle.store_model.proofs.ListsLemmas.{first_true, second_true, all_from_test, all_append, all_flat_map, all_weaker}
use Rattle.store_model.proofs.ListsLemmas.{all_from_bytes}
use Rattle.model_laws.proofs.PathsLemmasTexts.{path_of-path_text}

-- ---- what the fields of a command's text are made of

-- bytes that end no field and no line
abbrev pub IsPlain : List ℕ → Type 0
IsPlain text = AllByRecursion (λ b. 0x20 < b) text

-- the bytes of a name are plain
pub plain_name : (n : Name) → IsTrue (is_name n) → IsPlain n
plain_name n h =
    all_from_test is_name_byte (λ b. 0x20 < b)
    (λ b t. omega (arith, leb-true 0x21 b (first_true _ _ (first_true (nat_le 0x21 b && nat_le b 0x7e) _ t)))) n
    (second_true _ _ (first_true _ _ (first_true _ _ h)))

-- so are those of a path's text
pub plain_path : (p : Path) → IsTrue (list_all is_name p) → IsPlain (path_text p)
unfolding path_text
plain_path [] all = (omega arith, tt)
plain_path (n ∷ p) all =
    all_flat_map (λ m. IsTrue (is_name m)) (λ b. 0x20 < b) (λ m. 0x2f ∷ m)
    (λ m is. (omega arith, plain_name m is)) (n ∷ p)
    (all_from_test is_name (λ m. IsTrue (is_name m)) (λ m t. t) (n ∷ p) all)

-- ---- numbers

-- what digits are like
record SpellsNumber (n : ℕ) (digits : List ℕ) : Type 0 where
  plain : IsPlain digits
  are_digits : list_all is_digit digits ≡ true
  value : digits_value digits ≡ n
  some : 0 < length digits

-- a digit is one
digit_is : (d : ℕ) → d < 10 → is_digit (48 + d) ≡ true
digit_is d small = and_from (nat_le 0x30 (48 + d)) (nat_le (48 + d) 0x39) (le-leb _ _ (omega arith))
    (le-leb _ _ (omega arith))

-- digits and one more
all_digits-append : (xs : List ℕ) (x : ℕ) → list_all is_digit xs ≡ true → is_digit x ≡ true
    → list_all is_digit (xs ++ x ∷ []) ≡ true
all_digits-append [] x all is = and_from (is_digit x) true is refl
all_digits-append (y ∷ xs) x all is =
    and_from (is_digit y) _ (first_true _ _ all) (all_digits-append xs x (second_true _ _ all) is)

-- the value of digits and one more
value-append : (xs : List ℕ) (x m : ℕ) → fold (λ n c. 10 * n + (c - 0x30)) m (xs ++ x ∷ [])
    ≡ 10 * fold (λ n c. 10 * n + (c - 0x30)) m xs + (x - 0x30)
value-append [] x m = refl
value-append (y ∷ xs) x m = value-append xs x (10 * m + (y - 0x30))

-- the digits of a number
spells_decimal : (n : ℕ) → n < 2 ^ 64 → SpellsNumber n (decimal n)
unfolding digits_value
spells_decimal = decimal_by_steps SpellsNumber one more
  where
    one : (n : ℕ) → n < 10 → SpellsNumber n ((48 + n) ∷ [])
    one n small = record {
      plain = (omega arith, tt);
      are_digits = and_from (is_digit (48 + n)) true (digit_is n small) refl;
      value = omega arith;
      some = omega arith;
    }

    more : (n : ℕ) (ds : List ℕ) → 10 ≤ n → SpellsNumber (n / 10) ds → SpellsNumber n (ds ++ ((48 + n % 10) ∷ []))
    more n ds large front = record {
      plain = all_append (λ b. 0x20 < b) ds ((48 + n % 10) ∷ []) front.plain (omega arith, tt);
      are_digits = all_digits-append ds (48 + n % 10) front.are_digits (digit_is (n % 10) (omega arith));
      value = omega (arith, value-append ds (48 + n % 10) 0, front.value);
      some = omega (arith, length-append ds ((48 + n % 10) ∷ []));
    }

-- digits of which the first is no 0 are a numeral
numeral_from : (ds : List ℕ) → list_all is_digit ds ≡ true → 0 < length ds → 48 < get_or ds 0 0 → is_numeral ds ≡ true
numeral_from [] all some first = absurd (omega arith)
numeral_from (c ∷ []) all some first = first_true (is_digit c) true all
numeral_from (c ∷ d ∷ ds) all some first = and_from (not (c == 0x30)) _ (ap not (ne_eqb c 0x30 (λ e. omega arith))) all

decimal_is_numeral : (n : ℕ) → n < 2 ^ 64 → is_numeral (decimal n) ≡ true
decimal_is_numeral zero small = ap is_numeral (decimal_digit 0 (omega arith))
decimal_is_numeral (suc n) small =
    let said = spells_decimal (suc n) small in
    numeral_from (decimal (suc n)) said.are_digits said.some (first_decimal (suc n) (omega arith) small)

-- the digits of a number spell it
pub number_of-decimal : (n : ℕ) → n < 2 ^ 32 → number_of (decimal n) ≡ Some n
unfolding number_of
number_of-decimal n small =
    let said = spells_decimal n (omega arith) in
    let value : digits_value (decimal n) ≡ n = said.value in
    ap (λ b. cond b (Some (digits_value (decimal n))) None)
    (and_from (is_numeral (decimal n)) _ (decimal_is_numeral n (omega arith))
    (ap (λ m. nat_le m number_limit) value ∙ le-leb n number_limit (omega arith)))
    ∙ ap Some value

pub plain_decimal : (n : ℕ) → n < 2 ^ 32 → IsPlain (decimal n)
plain_decimal n small = let said = spells_decimal n (omega arith) in said.plain

-- ---- contents

-- a digit of contents is plain
plain_digit : (d : ℕ) → d < 16 → 0x20 < slice_index lower_digits d
plain_digit d small =
    All-from_recursion (λ b. 0x20 < b) lower_digits
    (all_from_test (nat_le 0x21) (λ b. 0x20 < b) (λ b t. omega (arith, leb-true 0x21 b t)) lower_digits refl) d 0
    small

plain_digits : (bytes : List ℕ) → AllByRecursion (λ b. b < 256) bytes → IsPlain (encode_lower bytes)
unfolding encode_with
plain_digits [] are = tt
plain_digits (b ∷ bytes) are =
    (plain_digit (b / 16) (omega (arith, are.0)), (plain_digit (b % 16) (omega arith), plain_digits bytes are.1))

pub plain_content : (bytes : List ℕ) → IsBytes bytes → IsPlain (content_text bytes)
unfolding content_text
plain_content [] are = (omega arith, tt)
plain_content (b ∷ bytes) are = plain_digits (b ∷ bytes) (all_from_bytes (b ∷ bytes) are)

-- two bytes and more are not `-`
not_dash : (a b : ℕ) (text : List ℕ) → same_bytes (a ∷ b ∷ text) (codes "-") ≡ false
not_dash a b text = by_first (a == 0x2d)
  where
    by_first : (t : Bool) → (t && false) ≡ false
    by_first true = refl
    by_first false = refl

-- the digits of bytes spell them
content_of-digits : (a b : ℕ) (text bytes : List ℕ) → a ∷ b ∷ text ≡ encode_lower bytes → IsBytes bytes
    → content_of (a ∷ b ∷ text) ≡ Some bytes
unfolding content_of
content_of-digits a b text bytes e are =
    ap (λ t. cond t (Some []) (ok_value (decode_of (a ∷ b ∷ text)))) (not_dash a b text)
    ∙ ap (λ (s : List ℕ). ok_value (decode_of s)) e ∙ ap ok_value (decode_of-encode_lower bytes are)

pub content_of-content_text : (bytes : List ℕ) → IsBytes bytes → content_of (content_text bytes) ≡ Some bytes
unfolding content_of content_text encode_with
content_of-content_text [] are = refl
content_of-content_text (b ∷ bytes) are = content_of-digits _ _ _ (b ∷ bytes) refl are

-- ---- the fields of a command's text

-- no byte of a plain text is the space
no_space : (text : List ℕ) → IsPlain text → All (λ b. (b == 0x20) ≡ false) text
no_space text plain = All-from_recursion (λ b. (b == 0x20) ≡ false) text
    (all_weaker (λ b. 0x20 < b) (λ b. (b == 0x20) ≡ false) (λ b above. ne_eqb b 0x20 (λ e. omega arith)) text plain)

-- the parts of a text between its spaces
abbrev parts : List ℕ → List (List ℕ)
parts text = slice_split (λ b. b == 0x20) text

-- the last field
last_part : (text : List ℕ) → IsPlain text → parts text ≡ text ∷ []
last_part text plain = slice_split_none (λ b. b == 0x20) text (no_space text plain)

-- a field and what stands behind it
part_then : (text rest : List ℕ) → IsPlain text → parts (text ++ 0x20 ∷ rest) ≡ text ∷ parts rest
part_then text rest plain = slice_split_at (λ b. b == 0x20) text 0x20 rest (no_space text plain) refl

-- a path of a command
named : (p : Path) → IsTrue (is_path p) → IsTrue (list_all is_name p)
named p h = first_true (list_all is_name p) (fits_field p) h

plain_of_path : (p : Path) → IsTrue (is_path p) → IsPlain (path_text p)
plain_of_path p h = plain_path p (named p h)

path_read : (p : Path) → IsTrue (is_path p) → path_of (path_text p) ≡ Some p
path_read p h = path_of-path_text p (named p h)

plain_attribute : (a : Name) → IsTrue (is_attribute_name a) → IsPlain a
plain_attribute a h = plain_name a (first_true (is_name a) (nat_le (length a) attribute_name_limit) h)

-- fields that are read one after another
two_read : {A B C : Type 0} (f : A → B → C) (x : Option A) (y : Option B) (a : A) (b : B) → x ≡ Some a → y ≡ Some b
    → (x >>= λ n. y >>= λ m. Some (f n m)) ≡ Some (f a b)
two_read f x y a b ex ey = ap (λ o. o >>= λ n. y >>= λ m. Some (f n m)) ex ∙ ap (λ o. o >>= λ m. Some (f a m)) ey

three_read : {A B C D : Type 0} (f : A → B → C → D) (x : Option A) (y : Option B) (z : Option C) (a : A) (b : B) (c : C)
    → x ≡ Some a → y ≡ Some b → z ≡ Some c
    → (x >>= λ n. y >>= λ m. z >>= λ k. Some (f n m k)) ≡ Some (f a b c)
three_read f x y z a b c ex ey ez = ap (λ o. o >>= λ n. y >>= λ m. z >>= λ k. Some (f n m k)) ex
    ∙ two_read (f a) y z b c ey ez

attribute_read : (a : Name) → IsTrue (is_attribute_name a) → attribute_name_of a ≡ Some a
attribute_read a h = ap (λ b. cond b (Some a) None) h

-- the fields of a text with a path, with a path and one field more, and with two more
one_field : (word : List ℕ) (p : Path) → IsTrue (is_path p) → word ∷ parts (path_text p) ≡ word ∷ path_text p ∷ []
one_field word p h = ap (λ (fs : List (List ℕ)). word ∷ fs) (last_part (path_text p) (plain_of_path p h))

two_fields : (word : List ℕ) (p : Path) (b : List ℕ) → IsTrue (is_path p) → IsPlain b
    → word ∷ parts (path_text p ++ codes " " ++ b) ≡ word ∷ path_text p ∷ b ∷ []
two_fields word p b h plain =
    ap (λ (fs : List (List ℕ)). word ∷ fs) (ap parts (append_assoc (path_text p) (codes " ") b)
    ∙ part_then (path_text p) b (plain_of_path p h)
    ∙ ap (λ (fs : List (List ℕ)). path_text p ∷ fs) (last_part b plain))

three_fields : (word : List ℕ) (p : Path) (b c : List ℕ) → IsTrue (is_path p) → IsPlain b → IsPlain c
    → word ∷ parts (path_text p ++ codes " " ++ b ++ codes " " ++ c) ≡ word ∷ path_text p ∷ b ∷ c ∷ []
three_fields word p b c h plain more =
    ap (λ (fs : List (List ℕ)). word ∷ fs)
    (ap parts (append_assoc (path_text p ++ codes " " ++ b) (codes " ") c
    ∙ append_assoc (path_text p ++ codes " ") b (0x20 ∷ c)
    ∙ append_assoc (path_text p) (codes " ") (b ++ (0x20 ∷ c)))
    ∙ part_then (path_text p) (b ++ (0x20 ∷ c)) (plain_of_path p h)
    ∙ ap (λ (fs : List (List ℕ)). path_text p ∷ fs)
    (part_then b c plain ∙ ap (λ (fs : List (List ℕ)). b ∷ fs) (last_part c more)))

-- the text of a command spells it
spelled : (c : Command) → IsCommand c → command_of (command_text c) ≡ Some c
unfolding command_of command_text command_of_fields
spelled (Make p) h = ap command_of_fields (one_field (codes "make") p h) ∙ ap (option_map Make) (path_read p h)
spelled (Write p at bytes) h =
    ap command_of_fields (three_fields (codes "write") p (decimal at) (content_text bytes) h.0 (plain_decimal at h.1)
    (plain_content bytes h.2))
    ∙ three_read Write _ _ _ p at bytes (path_read p h.0) (number_of-decimal at h.1) (content_of-content_text bytes h.2)
spelled (Cut p len) h = ap command_of_fields (two_fields (codes "cut") p (decimal len) h.0 (plain_decimal len h.1))
    ∙ two_read Cut _ _ p len (path_read p h.0) (number_of-decimal len h.1)
spelled (Rename p q) h = ap command_of_fields (two_fields (codes "rename") p (path_text q) h.0 (plain_of_path q h.1))
    ∙ two_read Rename _ _ p q (path_read p h.0) (path_read q h.1)
spelled (Remove p) h = ap command_of_fields (one_field (codes "remove") p h) ∙ ap (option_map Remove) (path_read p h)
spelled (Prune p) h = ap command_of_fields (one_field (codes "prune") p h) ∙ ap (option_map Prune) (path_read p h)
spelled (ListChildren p) h = ap command_of_fields (one_field (codes "list") p h)
    ∙ ap (option_map ListChildren) (path_read p h)
spelled (Read p at len) h =
    ap command_of_fields (three_fields (codes "read") p (decimal at) (decimal len) h.0 (plain_decimal at h.1)
    (plain_decimal len h.2))
    ∙ three_read Read _ _ _ p at len (path_read p h.0) (number_of-decimal at h.1) (number_of-decimal len h.2)
spelled Space h = refl
spelled Digest h = refl
spelled (SetAttribute p a bytes) h =
    ap command_of_fields (three_fields (codes "set") p a (content_text bytes) h.0 (plain_attribute a h.1)
    (plain_content bytes h.2))
    ∙ three_read SetAttribute _ _ _ p a bytes (path_read p h.0) (attribute_read a h.1)
    (content_of-content_text bytes h.2)
spelled (UnsetAttribute p a) h = ap command_of_fields (two_fields (codes "unset") p a h.0 (plain_attribute a h.1))
    ∙ two_read UnsetAttribute _ _ p a (path_read p h.0) (attribute_read a h.1)
spelled (GetAttribute p a) h = ap command_of_fields (two_fields (codes "get") p a h.0 (plain_attribute a h.1))
    ∙ two_read GetAttribute _ _ p a (path_read p h.0) (attribute_read a h.1)
spelled (ListAttributes p) h = ap command_of_fields (one_field (codes "attrs") p h)
    ∙ ap (option_map ListAttributes) (path_read p h)

-- its paths fit the field of a key
fits : (p : Path) → IsTrue (is_path p) → fits_field p ≡ true
fits p h = second_true (list_all is_name p) (fits_field p) h

short_paths : (c : Command) → IsCommand c → has_short_paths c ≡ true
unfolding has_short_paths
short_paths (Make p) h = fits p h
short_paths (Write p at bytes) h = fits p h.0
short_paths (Cut p len) h = fits p h.0
short_paths (Rename p q) h = and_from (fits_field p) (fits_field q) (fits p h.0) (fits q h.1)
short_paths (Remove p) h = fits p h
short_paths (Prune p) h = fits p h
short_paths (ListChildren p) h = fits p h
short_paths (Read p at len) h = fits p h.0
short_paths Space h = refl
short_paths Digest h = refl
short_paths (SetAttribute p a bytes) h = fits p h.0
short_paths (UnsetAttribute p a) h = fits p h.0
short_paths (GetAttribute p a) h = fits p h.0
short_paths (ListAttributes p) h = fits p h

-- reading the text of a command gives it back
pub parse-command_text : (c : Command) → IsCommand c → parse (command_text c) ≡ Ok c
unfolding parse
parse-command_text c h = ap checked_command (spelled c h)
    ∙ ap (λ b. cond b (Ok c) (Err refusals.Path)) (short_paths c h)

-- so does reading its line, where that is not too long
pub reading-command_text : (c : Command) → IsCommand c → length (command_text c) ≤ line_limit
    → reading (command_text c) ≡ Ok c
unfolding reading
reading-command_text c h fits = ap (λ b. cond b (Err refusals.Long) (parse (command_text c)))
    (le-ltb line_limit (length (command_text c)) fits) ∙ parse-command_text c h

-- ---- the text of a command is one line

-- bytes that end no line
abbrev IsWithinLine : List ℕ → Type 0
IsWithinLine text = AllByRecursion (λ b. 0x1f < b) text

plain_within : (text : List ℕ) → IsPlain text → IsWithinLine text
plain_within text plain = all_weaker (λ b. 0x20 < b) (λ b. 0x1f < b) (λ b above. omega arith) text plain

-- a text and one field more
field_within : (front text : List ℕ) → IsWithinLine front → IsPlain text → IsWithinLine (front ++ codes " " ++ text)
field_within front text within plain =
    all_append (λ b. 0x1f < b) (front ++ codes " ") text
    (all_append (λ b. 0x1f < b) front (codes " ") within (omega arith, tt)) (plain_within text plain)

-- a word and a path
path_within : (word : List ℕ) (p : Path) → IsTrue (list_all (nat_le 0x20) word) → IsTrue (is_path p)
    → IsWithinLine (word ++ path_text p)
path_within word p letters h =
    all_append (λ b. 0x1f < b) word (path_text p)
    (all_from_test (nat_le 0x20) (λ b. 0x1f < b) (λ b t. omega (arith, leb-true 0x20 b t)) word letters)
    (plain_within (path_text p) (plain_of_path p h))

text_within : (c : Command) → IsCommand c → IsWithinLine (command_text c)
unfolding command_text
text_within (Make p) h = path_within (codes "make ") p refl h
text_within (Write p at bytes) h =
    field_within (codes "write " ++ path_text p ++ codes " " ++ decimal at) (content_text bytes)
    (field_within (codes "write " ++ path_text p) (decimal at) (path_within (codes "write ") p refl h.0)
    (plain_decimal at h.1)) (plain_content bytes h.2)
text_within (Cut p len) h = field_within (codes "cut " ++ path_text p) (decimal len)
    (path_within (codes "cut ") p refl h.0) (plain_decimal len h.1)
text_within (Rename p q) h = field_within (codes "rename " ++ path_text p) (path_text q)
    (path_within (codes "rename ") p refl h.0) (plain_of_path q h.1)
text_within (Remove p) h = path_within (codes "remove ") p refl h
text_within (Prune p) h = path_within (codes "prune ") p refl h
text_within (ListChildren p) h = path_within (codes "list ") p refl h
text_within (Read p at len) h =
    field_within (codes "read " ++ path_text p ++ codes " " ++ decimal at) (decimal len)
    (field_within (codes "read " ++ path_text p) (decimal at) (path_within (codes "read ") p refl h.0)
    (plain_decimal at h.1)) (plain_decimal len h.2)
text_within Space h = all_from_test (nat_le 0x20) (λ b. 0x1f < b)
    (λ b t. omega (arith, leb-true 0x20 b t)) (codes "space") refl
text_within Digest h = all_from_test (nat_le 0x20) (λ b. 0x1f < b)
    (λ b t. omega (arith, leb-true 0x20 b t)) (codes "digest") refl
text_within (SetAttribute p a bytes) h =
    field_within (codes "set " ++ path_text p ++ codes " " ++ a) (content_text bytes)
    (field_within (codes "set " ++ path_text p) a (path_within (codes "set ") p refl h.0) (plain_attribute a h.1))
    (plain_content bytes h.2)
text_within (UnsetAttribute p a) h =
    field_within (codes "unset " ++ path_text p) a (path_within (codes "unset ") p refl h.0) (plain_attribute a h.1)
text_within (GetAttribute p a) h = field_within (codes "get " ++ path_text p) a (path_within (codes "get ") p refl h.0)
    (plain_attribute a h.1)
text_within (ListAttributes p) h = path_within (codes "attrs ") p refl h

-- no byte of it is LF
pub no_line_end : (c : Command) → IsCommand c → All (λ b. (b == 10) ≡ false) (command_text c)
no_line_end c h =
    All-from_recursion (λ b. (b == 10) ≡ false) (command_text c)
    (all_weaker (λ b. 0x1f < b) (λ b. (b == 10) ≡ false) (λ b above. ne_eqb b 10 (λ e. omega arith))
    (command_text c) (text_within c h))

-- and it is not empty
pub some_text : (c : Command) → 0 < length (command_text c)
unfolding command_text
some_text (Make p) = omega arith
some_text (Write p at bytes) = omega arith
some_text (Cut p len) = omega arith
some_text (Rename p q) = omega arith
some_text (Remove p) = omega arith
some_text (Prune p) = omega arith
some_text (ListChildren p) = omega arith
some_text (Read p at len) = omega arith
some_text Space = omega arith
some_text Digest = omega arith
some_text (SetAttribute p a bytes) = omega arith
some_text (UnsetAttribute p a) = omega arith
some_text (GetAttribute p a) = omega arith
some_text (ListAttributes p) = omega arith

-- contents have two digits a byte, or one byte where they are none
pub short_content : (bytes : List ℕ) → length (content_text bytes) ≤ 2 * length bytes + 1
unfolding content_text
short_content [] = omega arith
short_content (b ∷ bytes) = omega (arith, length-encode_with lower_digits (b ∷ bytes))
