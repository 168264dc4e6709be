-- What the words of `create` say of the image that is made.
use Rattle.std.specs.Prelude.{◌≡◌, ℕ, List, Bool, true, false, Option, Some, None, if◌then◌else◌, codes, replicate}
use Rattle.std.specs.Borrow.{Bor}
use Rattle.std.specs.Option.{option_map}
use Rattle.clap.specs.Matches.{first_value, found_of}
use Rattle.clap.specs.declared.parser.matches.ArgMatches.{ArgMatches}
use Rattle.store_model.specs.declared.draw_kind.DrawKind.{DrawKind}
use Rattle.store_model.specs.declared.draw_kind.DrawKind.TheVariants.{Sha256}
use Rattle.store_model.specs.Lists.{same_bytes}
use Rattle.store_model.specs.Parameters.{slots_limit, height_limit, seed_len}
use Rattle.store_model.specs.Words.{kind_of_word, number_in, seed_of_word}
use Rattle.box_words.specs.declared.call.Call.{Call}
use Rattle.box_words.specs.declared.call.Call.TheVariants as calls
use Rattle.box_words.specs.declared.options.Taken.{Taken}
use Rattle.box_words.specs.declared.shape.Seed.{Seed}
use Rattle.box_words.specs.declared.shape.Seed.TheVariants.{Given, Random, Input}
use Rattle.box_words.specs.declared.shape.Shape.{Shape}
use Rattle.box_words.specs.Given.{IsGiven, IsTaken}

-- what the word behind an option says, and what is meant where the option is not given
abbrev pub said_or : {A : Type 0} → A → (List ℕ → Option A) → Option (List ℕ) → Option A
said_or plain read None = Some plain
said_or plain read (Some word) = read word

-- the slots: those that the tree takes, where none are said
abbrev pub slots_said : Option (List ℕ) → Option (Option ℕ)
slots_said = said_or None (λ word. option_map Some (number_in 1 slots_limit word))

abbrev pub height_said : Option (List ℕ) → Option ℕ
height_said = said_or 4 (number_in 1 height_limit)

abbrev pub draw_said : Option (List ℕ) → Option DrawKind
draw_said = said_or Sha256 kind_of_word

-- where a seed comes from
abbrev pub seed_named : List ℕ → Option Seed
seed_named word =
    if same_bytes word (codes "random") then Some Random
    else if same_bytes word (codes "-") then Some Input
    else option_map Given (seed_of_word word)

abbrev pub seed_said : Option (List ℕ) → Option Seed
seed_said = said_or (Given (replicate seed_len 0)) seed_named

-- the folder, which is there exactly where the image is not to be empty
abbrev pub folder_said : Option (List ℕ) → Bool → Option (Option (List ℕ))
folder_said None true = Some None
folder_said (Some folder) false = Some (Some folder)
folder_said folder is_empty = None

-- each is said by its option
pub record IsSaid (given : ArgMatches) (shape : Shape) : Type 0 where
  pub slots : slots_said (first_value (found_of given) (codes "slots")) ≡ Some shape.slots
  pub height : height_said (first_value (found_of given) (codes "height")) ≡ Some shape.height
  pub draw : draw_said (first_value (found_of given) (codes "draw")) ≡ Some shape.draw
  pub seed : seed_said (first_value (found_of given) (codes "seed")) ≡ Some shape.seed

-- the call is that of `create` with these words
pub record IsCreate (given : ArgMatches) (call : Call) : Type 0 where
  pub image : Bor (List ℕ)
  pub folder : Option (Bor (List ℕ))
  pub shape : Shape
  pub is_dry : Bool
  pub is_empty : Bool
  pub taken : Taken
  pub call_is : call ≡ calls.Create image folder shape is_dry taken
  pub image_is : first_value (found_of given) (codes "IMAGE") ≡ Some image.now
  pub empty_is : IsGiven given (codes "empty") is_empty
  pub folder_is : folder_said (first_value (found_of given) (codes "DIR")) is_empty
      ≡ Some (option_map (λ folder. folder.now) folder)
  pub shape_is : IsSaid given shape
  pub dry_is : IsGiven given (codes "dry-run") is_dry
  pub taken_is : IsTaken given taken
