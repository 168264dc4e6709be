-- What was read of a line.
use Rattle.std.proofs.Common.{◌≡◌, ◌∙◌, ℕ, zero, suc, ◌+◌, ◌<◌, ◌≤◌, true, false, List, [], ◌∷◌, map, length}
use Rattle.std.proofs.Common.{get_or, Option, Some, None, IfSome, add-one, refl, sym, ap, option_map, arith}
use Rattle.std.proofs.Common.{Box}
use Rattle.std.specs.Box.{box_value}
use Rattle.std.proofs.lemmas.List.{length-map, take_more_same}
use Rattle.std.proofs.lemmas.Bool.{cases_Bool, false≢true}
use Rattle.std.specs.Borrow.{Bor}
use Rattle.std.specs.Cmp.Lexicographic.{bytes_decides}
use Rattle.clap.specs.Matches.{subcommand_name_of}
use Rattle.clap.specs.Simple.{subcommand_rows_of, subcommand_rows}
use Rattle.clap.specs.Walk.{Row, Text, first_of}
use Rattle.command_line.specs.Line.{HoldsLine}
use Rattle.std.specs.Option.{option_eq}
use Rattle.command_line.specs.declared.line.Argument.{Argument}
use Rattle.std.proofs.Common.{String, string_bytes, length-drop, drop, map, not, take, take_all, length, ⊎_elim, arith}
use Rattle.clap.specs.declared.parser.matches.ArgMatches.{ArgMatches}
use Rattle.clap.specs.declared.parser.matches.ArgMatches.TheViews.{out-ArgMatches, out-SubCommand}
use Rattle.clap.specs.declared.parser.matches.SubCommand.{SubCommand}
use Rattle.command_line.specs.Line.{arguments_of}
use Rattle.store_model.specs.Lists.{same_bytes}

pub some_same : {A : Type 0} (x y : A) → Some x ≡ Some y → x ≡ y
some_same x y e = ap (λ o. elim o [ None ↦ x | Some z ↦ z ]) e

-- the name of the subcommand that the matches have, and with it the rows
name_by : {Z : Type 0} (sub : Option (Box SubCommand Z))
    → option_map (λ b. (out-SubCommand (box_value b)).name.now) sub ≡ option_map (λ p. p.0) (subcommand_rows sub)
name_by None = refl
name_by (Some b) = refl

pub name_held : (m : ArgMatches) (name : Text) (rows : List Row) → subcommand_rows_of m ≡ Some (name, rows)
    → subcommand_name_of m ≡ Some name
name_held m name rows e = name_by (out-ArgMatches m).subcommand ∙ ap (option_map (λ p. p.0)) e

pub both_held : (m : ArgMatches) (name : Text) (rows : List Row) → Some name ≡ subcommand_name_of m
    → Some rows ≡ option_map (λ p. p.1) (subcommand_rows_of m) → subcommand_rows_of m ≡ Some (name, rows)
both_held m name rows e f = both (subcommand_rows_of m) (e ∙ name_by (out-ArgMatches m).subcommand) f
  where
    both : (sub : Option (Text × List Row)) → Some name ≡ option_map (λ p. p.0) sub
        → Some rows ≡ option_map (λ p. p.1) sub → sub ≡ Some (name, rows)
    both None e f = absurd (cc)
    both (Some p) e f = ap Some (λ j. (some_same _ _ (sym e) j, some_same _ _ (sym f) j))

-- what is so of a value is so of what it is seen as
pub seen_so : {A B : Type 0} (f : A → B) (P : B → Type 0) (found : Option A) → IfSome found (λ x. P (f x))
    → IfSome (option_map f found) P
seen_so f P None h = h
seen_so f P (Some x) h = h

-- ---- the values that a line holds

pub mapped_at : {A B : Type 0} (f : A → B) (xs : List A) (i : ℕ) (d : A) (e : B) → i < length xs
    → f (get_or xs i d) ≡ get_or (map f xs) i e
mapped_at f [] i d e lt = absurd (omega arith)
mapped_at f (x ∷ xs) zero d e lt = refl
mapped_at f (x ∷ xs) (suc i) d e lt = mapped_at f xs i d e (omega arith)

abbrev named : Argument → Text
named argument = argument.name.now

abbrev told : Option (Bor Text) → Option Text
told read = option_map (λ (text : Bor Text). text.now) read

-- two texts that were compared
pub text_same : (x y : Text) → false ≡ not (same_bytes x y) → x ≡ y
text_same x y e = (bytes_decides x y).0 (⊎_elim (λ yes. yes) (λ no. absurd (false≢true (e ∙ ap not no)))
    (cases_Bool (same_bytes x y)))

-- the words behind the first, against the values of the arguments in these rows
module _ {Z : Type 0} (words : List (String Z)) (arguments : List Argument) (rows : List Row) where
  abbrev pub line : List Text
  line = map string_bytes words

  abbrev pub found : List (Option Text)
  found = map (λ id. first_of id rows) (map (λ argument. argument.name.now) arguments)

  abbrev pub values : List (Option Text)
  values = map Some (drop 1 line)

  -- all of them are the words behind the first
  all_held : (sub : Option (Text × List Row)) (name : Text) (held : HoldsLine line sub)
      → Some name ≡ Some held.subcommand → Some rows ≡ option_map (λ p. p.1) sub
      → map named arguments ≡ arguments_of name → found ≡ values
  all_held sub name held name_is rows_are names_are =
      let same_rows : rows ≡ held.rows = some_same _ _ (rows_are ∙ ap (option_map (λ p. p.1)) held.found_is) in
      let names : map named arguments ≡ arguments_of held.subcommand =
      names_are ∙ ap arguments_of (some_same _ _ name_is) in
      (λ j. map (λ id. first_of id (same_rows j)) (names j)) ∙ held.values_are
      ∙ ap (λ all. map Some (drop 1 all)) (sym held.line_is)

  module _ (i : ℕ) (d : Argument) (word : String Z) (read : Option (Bor Text)) (text : Bor Text)
      (low : i < length arguments) (long : length words ≡ length arguments + 1)
      (read_is : told read ≡ first_of (get_or arguments i d).name.now rows)
      (word_is : word ≡ get_or words (i + 1) word) (text_is : text.now ≡ string_bytes word) where
    found_at : told read ≡ get_or found i None
    found_at =
        read_is ∙ ap (λ id. first_of id rows) (mapped_at named arguments i d [] low)
        ∙ mapped_at (λ id. first_of id rows) (map named arguments) i [] None
        (omega (arith, low, length-map arguments named))

    value_at : Some text.now ≡ get_or values i None
    value_at =
        ap Some (text_is ∙ ap string_bytes word_is
        ∙ mapped_at string_bytes words (i + 1) word [] (omega (arith, low, long)) ∙ sym (behind_first line i))
        ∙ mapped_at Some (drop 1 line) i [] None
        (omega (arith, low, long, length-drop 1 line, length-map words string_bytes))
      where
        behind_first : (texts : List Text) (i : ℕ) → get_or (drop 1 texts) i [] ≡ get_or texts (i + 1) []
        behind_first [] i = refl
        behind_first (x ∷ texts) i = rw add-one refl

    -- a value that is the word in its place, and one that is not
    pub same_there : false ≡ not (option_eq (λ (one other : Bor Text). same_bytes one.now other.now) read (Some text))
        → take i found ≡ take i values → take (i + 1) found ≡ take (i + 1) values
    same_there same before =
        take_more_same found values i None
        (omega (arith, low, length-map arguments named, length-map (map named arguments) (λ id. first_of id rows)))
        (omega (arith, low, long, length-map (drop 1 line) Some, length-drop 1 line, length-map words string_bytes))
        before (sym found_at ∙ equal_by read same ∙ value_at)
      where
        equal_by : (read : Option (Bor Text))
            → false ≡ not (option_eq (λ (one other : Bor Text). same_bytes one.now other.now) read (Some text))
            → told read ≡ Some text.now
        equal_by None e = absurd (false≢true e)
        equal_by (Some other) e = ap Some (text_same other.now text.now e)

    pub other_there : true ≡ not (option_eq (λ (one other : Bor Text). same_bytes one.now other.now) read (Some text))
        → (sub : Option (Text × List Row)) (name : Text) (held : HoldsLine line sub) → Some name ≡ Some held.subcommand
        → Some rows ≡ option_map (λ p. p.1) sub → map named arguments ≡ arguments_of name → ⊥
    other_there differs sub name held name_is rows_are names_are =
        differ read (found_at ∙ ap (λ all. get_or all i None) (all_held sub name held name_is rows_are names_are)
        ∙ sym value_at) differs
      where
        differ : (read : Option (Bor Text)) → told read ≡ Some text.now
            → true ≡ not (option_eq (λ (one other : Bor Text). same_bytes one.now other.now) read (Some text)) → ⊥
        differ None e f = absurd (cc)
        differ (Some other) e f =
            false≢true (sym (f ∙ ap not ((bytes_decides other.now text.now).1 (some_same _ _ e))))

  -- the line has a name, and behind it the values of all arguments
  pub holds_line : (sub : Option (Text × List Row)) (name : Text) → map named arguments ≡ arguments_of name
      → length words ≡ length arguments + 1 → get_or line 0 [] ≡ name → sub ≡ Some (name, rows)
      → (i : ℕ) → length arguments ≤ i → take i found ≡ take i values → HoldsLine line sub
  holds_line sub name names_are long first sub_is i all same = record {
    subcommand = name;
    values = drop 1 line;
    rows = rows;
    line_is = begins line (omega (arith, long, length-map words string_bytes)) ∙ ap (λ word. word ∷ drop 1 line) first;
    found_is = sub_is;
    values_are = ap (map (λ id. first_of id rows)) (sym names_are)
        ∙ sym (take_all i found
        (omega (arith, all, length-map arguments named, length-map (map named arguments) (λ id. first_of id rows))))
        ∙ same
        ∙ take_all i values
        (omega (arith, all, long, length-map (drop 1 line) Some, length-drop 1 line, length-map words string_bytes));
  }
    where
      begins : (texts : List Text) → 0 < length texts → texts ≡ get_or texts 0 [] ∷ drop 1 texts
      begins [] some = absurd (omega (arith, some))
      begins (x ∷ texts) some = refl
