-- What the words of the subcommands ask for that change an image, and of `get`.
use Rattle.std.specs.Prelude.{◌≡◌, ◌≤◌, ℕ, List, Bool, Option, Some, ◌||◌, nat_le, length, map}
use Rattle.std.specs.Prelude.{is_some, codes}
use Rattle.std.specs.Prelude.{option_map, Vec, IsTrue}
use Rattle.std.specs.Borrow.{Bor}
use Rattle.std.specs.declared.alloc.Global.{Global}
use Rattle.clap.specs.Matches.{first_value, found_of}
use Rattle.clap.specs.declared.parser.matches.ArgMatches.{ArgMatches}
use Rattle.box_words.specs.Attributes.{deed_said}
use Rattle.box_words.specs.Given.{IsGiven, words_said}
use Rattle.box_words.specs.Lists.{IsNamed}
use Rattle.box_words.specs.Sources.{origin_path, path_said}
use Rattle.box_words.specs.declared.attr.Deed.{Deed}
use Rattle.box_words.specs.declared.call.Call.{Call}
use Rattle.box_words.specs.declared.call.Call.TheVariants as calls
use Rattle.box_words.specs.declared.get.Named.{Named}
use Rattle.box_words.specs.declared.origin.Origin.{Origin}

-- the first word of a name
abbrev word_said : ArgMatches → List ℕ → Option (List ℕ)
word_said given name = first_value (found_of given) name

-- the call is that of `get` with these words
pub record IsGet (given : ArgMatches) (call : Call) : Type 0 where
  pub image : Bor (List ℕ)
  pub path : Named
  pub file : Option (Bor (List ℕ))
  pub call_is : call ≡ calls.Get image path file
  pub image_is : word_said given (codes "IMAGE") ≡ Some image.now
  pub named_is : IsNamed (word_said given (codes "paths0-from")) (word_said given (codes "PATH"))
      (word_said given (codes "FILE")) path file

-- further names are read from where the option says
abbrev IsList : ArgMatches → Option Origin → Type 0
IsList given list = option_map origin_path list ≡ option_map path_said (word_said given (codes "paths0-from"))

-- that of `rm`
pub record IsRm (given : ArgMatches) (call : Call) : Type 0 where
  pub image : Bor (List ℕ)
  pub paths : Vec (Bor (List ℕ)) Global
  pub list : Option Origin
  pub is_below : Bool
  pub is_forced : Bool
  pub call_is : call ≡ calls.Rm image paths list is_below is_forced
  pub image_is : word_said given (codes "IMAGE") ≡ Some image.now
  pub paths_are : map (λ path. path.now) paths.items ≡ words_said given (codes "PATH")
  pub list_is : IsList given list
  pub some : IsTrue (is_some list || nat_le 1 (length paths.items))
  pub below_is : IsGiven given (codes "below") is_below
  pub forced_is : IsGiven given (codes "forced") is_forced

-- that of `mv`
pub record IsMv (given : ArgMatches) (call : Call) : Type 0 where
  pub image : Bor (List ℕ)
  pub from : Bor (List ℕ)
  pub to : Bor (List ℕ)
  pub is_forced : Bool
  pub call_is : call ≡ calls.Mv image from to is_forced
  pub image_is : word_said given (codes "IMAGE") ≡ Some image.now
  pub from_is : word_said given (codes "FROM") ≡ Some from.now
  pub to_is : word_said given (codes "TO") ≡ Some to.now
  pub forced_is : IsGiven given (codes "forced") is_forced

-- that of `mkdir`
pub record IsMkdir (given : ArgMatches) (call : Call) : Type 0 where
  pub image : Bor (List ℕ)
  pub paths : Vec (Bor (List ℕ)) Global
  pub has_parents : Bool
  pub call_is : call ≡ calls.Mkdir image paths has_parents
  pub image_is : word_said given (codes "IMAGE") ≡ Some image.now
  pub paths_are : map (λ path. path.now) paths.items ≡ words_said given (codes "PATH")
  pub some : 1 ≤ length paths.items
  pub parents_is : IsGiven given (codes "parents") has_parents

-- that of `attr`
pub record IsAttr (given : ArgMatches) (call : Call) : Type 0 where
  pub image : Bor (List ℕ)
  pub path : Bor (List ℕ)
  pub deed : Deed
  pub is_hex : Bool
  pub call_is : call ≡ calls.Attr image path deed
  pub image_is : word_said given (codes "IMAGE") ≡ Some image.now
  pub path_is : word_said given (codes "PATH") ≡ Some path.now
  pub hex_is : IsGiven given (codes "hex") is_hex
  pub deed_is : deed_said (word_said given (codes "NAME")) (word_said given (codes "VALUE"))
      (word_said given (codes "remove")) is_hex ≡ Some deed
