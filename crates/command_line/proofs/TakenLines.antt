-- `clap` takes each well-formed line, and its matches hold the line.
use Rattle.std.proofs.Common.{◌≡◌, ◌∙◌, ℕ, ◌+◌, true, false, ◌&&◌, List, [], ◌∷◌, map, Some}
use Rattle.std.proofs.Common.{is_some, refl, ap, codes, ⊎_elim}
use Rattle.std.specs.Prelude.{find}
use Rattle.std.specs.Str.{bytes_eq}
use Rattle.clap.specs.Simple.{Shape, built, built_leaf, entered, inherited, label_of, marked_built, names_of, rows_at}
use Rattle.clap.specs.Simple.{subcommand_of, with_leaf_noted}
use Rattle.std.specs.List.{fold}
use Rattle.clap.specs.Takes.{entered_passes, level_passes, step_passes, takes, walk_passes}
use Rattle.clap.specs.ValueTests.{accepts}
use Rattle.clap.specs.Walk.{Held, Rule, value}
use Rattle.clap.specs.Walk.{Text, Walk, answers_to, finished, first_of, idle, nothing_held, subcommand_met, walk}
use Rattle.clap.specs.Walk.{walked}
use Rattle.clap.specs.declared.builder.value_parser.ValueParser.{ValueParser}
use Rattle.clap.specs.declared.builder.value_parser.ValueParser.TheVariants as parsers
use Rattle.store_model.specs.declared.version.Version.{Version}
use Rattle.store_model.specs.declared.version.Version.TheVariants.{One, Two}
use Rattle.store_model.specs.Grammar.{number_limit}
use Rattle.store_model.specs.Parameters.{slots_limit, height_limit}
use Rattle.store_model.specs.Words.{Request, commands_limit}
use Rattle.command_line.specs.Line.{HoldsLine, arguments_of, big_subcommand, format_subcommand}
use Rattle.command_line.specs.Line.{format_word, line_of, singles, without_help}
use Rattle.command_line.proofs.SingleWords.{asked_among, by_word, first_same, nothing, rest_same}
use Rattle.command_line.proofs.WalkLemmas.{all_true, is_plain, walk_at, next_walk, plain_walked, passes_next}
use Rattle.command_line.proofs.WalkLemmas.{passes_end, ends_well, level_by, stopped_at, stops, stopping_passes}

-- a subcommand as building leaves it
abbrev built_subcommand : Shape → Shape
built_subcommand shape =
    built_leaf (inherited (with_leaf_noted (marked_built (line_of (λ version. parsers.String)).top)) shape)

-- the line is taken, and the matches hold it
pub record IsTaken (draws : Version → ValueParser) (line : List Text) : Type 0 where
  pub taken : takes (line_of draws) line ≡ true
  pub held : HoldsLine line (subcommand_of (line_of draws) line)

-- ---- the values of a subcommand

-- the word goes to the argument at this place
record GoesTo (s : Shape) (held : Held) (position : ℕ) (word : Text) : Type 0 where
  pub plain : is_plain word ≡ true
  pub passes : step_passes s position held value ≡ true
  pub next_is : next_walk s.rules held position word
      ≡ walk_at (next_walk s.rules held position word).held (position + 1)

-- so do these words, one after another
abbrev GoOn : Shape → Held → ℕ → List Text → Type 0
GoOn s held position [] = Unit {0}
GoOn s held position (word ∷ words) = GoesTo s held position word
    × GoOn s (next_walk s.rules held position word).held (position + 1) words

-- the walk behind them
abbrev behind : Shape → Held → ℕ → List Text → Walk
behind s held position [] = walk_at held position
behind s held position (word ∷ words) = behind s (next_walk s.rules held position word).held (position + 1) words

walks : (s : Shape) (held : Held) (position : ℕ) (words : List Text) → GoOn s held position words
    → fold (walked s.rules []) (walk_at held position) words ≡ behind s held position words
walks s held position [] go = refl
walks s held position (word ∷ words) go =
    ap (λ w. fold (walked s.rules []) w words) (plain_walked s.rules held position word go.0.plain ∙ go.0.next_is)
    ∙ walks s (next_walk s.rules held position word).held (position + 1) words go.1

all_pass : (s : Shape) (held : Held) (position : ℕ) (words : List Text) → GoOn s held position words
    → walk_passes s [] (walk_at held position) words ≡ true
all_pass s held position [] go = passes_end s (walk_at held position)
all_pass s held position (word ∷ words) go =
    passes_next s held position word words go.0.plain go.0.passes
    (ap (λ w. walk_passes s [] w words) go.0.next_is
    ∙ all_pass s (next_walk s.rules held position word).held (position + 1) words go.1)

-- ---- any subcommand

-- the name is that of this subcommand, and of no other
record IsFound (draws : Version → ValueParser) (name : Text) (shape : Shape) : Type 0 where
  pub met : subcommand_met (names_of (built (line_of draws))) idle name ≡ Some name
  pub no_help : bytes_eq name (codes "help") ≡ false
  pub found : find (λ s. answers_to name (label_of s)) (built (line_of draws)).subs ≡ Some (built_subcommand shape)
  pub name_is : (built_subcommand shape).name ≡ name
  pub named : arguments_of name ≡ map (λ (rule : Rule). rule.id) shape.rules

-- A subcommand with just its values is taken, and its matches are these.
module _ (draws : Version → ValueParser) (name : Text) (shape : Shape) (values : List Text)
    (is : IsFound draws name shape) (go : GoOn (built_subcommand shape) nothing_held 1 values)
    (ends : ends_well (built_subcommand shape) (behind (built_subcommand shape) nothing_held 1 values) false ≡ true)
    (held : map (λ id. first_of id (finished (built_subcommand shape).rules
    (behind (built_subcommand shape) nothing_held 1 values).held)) (map (λ (rule : Rule). rule.id) shape.rules)
    ≡ map Some values) where
  abbrev sub : Shape
  sub = built_subcommand shape

  abbrev last : Walk
  last = behind sub nothing_held 1 values

  passes : level_passes sub [] nothing_held values false ≡ true
  passes = level_by sub [] values false last (walks sub nothing_held 1 values go)
      (all_pass sub nothing_held 1 values go)
      ends

  stopped : walk (built (line_of draws)).top.rules (names_of (built (line_of draws))) nothing_held (name ∷ values)
      ≡ stopped_at name values
  stopped = stops (built (line_of draws)).top (names_of (built (line_of draws))) name values is.met

  taken_so : takes (line_of draws) (name ∷ values) ≡ true
  taken_so =
      let app = built (line_of draws) in
      let enters : entered_passes app (Some (name, values)) ≡ true = rw is.found passes in
      let entered_so : is_some (entered app (Some (name, values))) ≡ true = rw is.found refl in
      let whole : ends_well app.top (stopped_at name values) (is_some (entered app (Some (name, values))))
      ≡ true = rw entered_so refl in
      all_true _ _ refl
      (all_true _ _ (ap (λ (w : Walk). entered_passes app w.stopped) stopped ∙ enters)
      (level_by app.top (names_of app) (name ∷ values) _ (stopped_at name values) stopped
      (stopping_passes app.top (names_of app) name values is.met is.no_help)
      (ap (λ (w : Walk). ends_well app.top (stopped_at name values) (is_some (entered app w.stopped))) stopped
      ∙ whole)))

  is_taken : IsTaken draws (name ∷ values)
  is_taken = record {
    taken = taken_so;
    held = record {
      subcommand = name;
      values = values;
      rows = finished sub.rules last.held;
      line_is = refl;
      found_is =
          let app = built (line_of draws) in
          let there : entered app (Some (name, values)) ≡ Some (rows_at sub values) = rw is.found refl in
          ap (λ (w : Walk). entered app w.stopped) stopped ∙ there
          ∙ ap (λ (w : Walk). Some (sub.name, finished sub.rules w.held)) (walks sub nothing_held 1 values go)
          ∙ ap (λ label. Some (label, finished sub.rules last.held)) is.name_is;
      values_are = ap (map (λ id. first_of id (finished sub.rules last.held))) is.named ∙ held;
    };
  }

-- ---- a word by itself

-- Two functions that agree at each of these words agree at a word that asks for something by itself.
agree : {A : Type 0} (f g : Text → A) (words : List (Text × Request)) (word : Text) (request : Request)
    → map (λ single. f single.0) words ≡ map (λ single. g single.0) words
    → asked_among words word ≡ Some request → f word ≡ g word
agree f g [] word request same asks = nothing request asks
agree f g (single ∷ words) word request same asks =
    ⊎_elim (λ here. rw here.0 (first_same _ _ _ _ same))
    (λ behind. agree f g words word request (rest_same _ _ _ _ same) behind)
    (by_word word single.0 (Some single.1) (asked_among words word) request asks)

pub single_word_taken : (draws : Version → ValueParser) (word : Text) (request : Request)
    → asked_among singles word ≡ Some request → IsTaken draws (word ∷ [])
single_word_taken draws word request asks =
    let app = built (line_of draws) in
    is_taken draws word (without_help word []) [] (record {
      met = agree (λ name. subcommand_met (names_of app) idle name) Some singles word request refl asks;
      no_help = agree (λ name. bytes_eq name (codes "help")) (λ name. false) singles word request refl asks;
      found = agree (λ name. find (λ s. answers_to name (label_of s)) app.subs)
          (λ name. Some (built_subcommand (without_help name []))) singles word request refl asks;
      name_is = refl;
      named = agree arguments_of (λ name. []) singles word request refl asks;
    }) tt refl refl

-- ---- words with values

-- the value is no flag, and passes
pub record Fits (parser : ValueParser) (text : Text) : Type 0 where
  pub plain : is_plain text ≡ true
  pub passes : accepts false parser text ≡ true

-- so it passes where it is the one value of an argument
alone : {parser : ValueParser} {text : Text} → Fits parser text → (accepts false parser text && true) ≡ true
alone fits = ap (λ b. b && true) fits.passes

pub big_taken : (draws : Version → ValueParser) (number count : Text) → Fits (parsers.Unsigned 0 number_limit) number
    → Fits (parsers.Unsigned 1 commands_limit) count → IsTaken draws (codes "big" ∷ number ∷ count ∷ [])
big_taken draws number count number_fits count_fits =
    is_taken draws (codes "big") big_subcommand (number ∷ count ∷ [])
    (record { met = refl; no_help = refl; found = refl; name_is = refl; named = refl }) (
      record { plain = number_fits.plain; passes = refl; next_is = refl },
      (record { plain = count_fits.plain; passes = alone number_fits; next_is = refl }, tt),
    )
    (all_true _ _ (alone count_fits) refl) refl

format_found : (draws : Version → ValueParser) (version : Version)
    → IsFound draws (format_word version) (format_subcommand version (draws version))
format_found draws One = record { met = refl; no_help = refl; found = refl; name_is = refl; named = refl }
format_found draws Two = record { met = refl; no_help = refl; found = refl; name_is = refl; named = refl }

pub format_taken : (draws : Version → ValueParser) (version : Version) (slots height draw seed : Text)
    → Fits (parsers.Unsigned 1 slots_limit) slots → Fits (parsers.Unsigned 1 height_limit) height
    → Fits (draws version) draw → is_plain seed ≡ true
    → IsTaken draws (format_word version ∷ slots ∷ height ∷ draw ∷ seed ∷ [])
format_taken draws version slots height draw seed slots_fits height_fits draw_fits seed_plain =
    is_taken draws (format_word version) (format_subcommand version (draws version))
    (slots ∷ height ∷ draw ∷ seed ∷ []) (format_found draws version) (
      record { plain = slots_fits.plain; passes = refl; next_is = refl },
      (
        record { plain = height_fits.plain; passes = alone slots_fits; next_is = refl },
        (
          record { plain = draw_fits.plain; passes = alone height_fits; next_is = refl },
          (record { plain = seed_plain; passes = alone draw_fits; next_is = refl }, tt),
        ),
      ),
    )
    refl refl
