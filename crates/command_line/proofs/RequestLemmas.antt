-- A line that asks for something is taken by `clap`.
use Rattle.std.proofs.Common.{◌≡◌, ◌∙◌, true, List, [], ◌∷◌, Option, Some, None, IfSome, refl, sym, ap, subst}
use Rattle.std.proofs.Common.{codes, arith, ⊎_elim}
use Rattle.std.proofs.lemmas.Bool.{le-leb}
use Rattle.clap.specs.Simple.{App, HasMatchesOf, is_simple, subcommand_of, subcommand_rows_of}
use Rattle.clap.specs.Takes.{takes}
use Rattle.clap.specs.Walk.{Text}
use Rattle.clap.specs.declared.builder.value_parser.ValueParser.{ValueParser}
use Rattle.clap.specs.declared.parser.matches.ArgMatches.{ArgMatches}
use Rattle.store_model.specs.declared.version.Version.{Version}
use Rattle.store_model.specs.Grammar.{◌>>=◌, number_limit, number_of}
use Rattle.store_model.specs.Parameters.{slots_limit, height_limit}
use Rattle.store_model.specs.Words.{Request, commands_limit, kind_of_word, number_in, request_of, seed_of_word}
use Rattle.store_model.specs.Words.{version_of_word}
use Rattle.store_model.specs.Words.Request.{Format, Big}
use Rattle.store_model.proofs.ListsLemmas.{first_true}
use Rattle.command_line.specs.Line.{HoldsLine, IsLine, TakesDraws, format_word}
use Rattle.command_line.proofs.LineLemmas.{some_same}
use Rattle.command_line.proofs.SingleWords.{by_word, nothing}
use Rattle.command_line.proofs.TakenLines.{IsTaken, single_word_taken, big_taken, format_taken}
use Rattle.command_line.proofs.ValueLemmas.{draw_fits, number_fits, number_limited, range_fits, seed_plain}

-- a value that comes of another, which is there then
record Comes {A B : Type 0} (from : Option A) (f : A → Option B) (y : B) : Type 0 where
  pub value : A
  pub there : from ≡ Some value
  pub then : f value ≡ Some y

comes : {A B : Type 0} (from : Option A) (f : A → Option B) (y : B) → (from >>= f) ≡ Some y → Comes from f y
comes None f y e = absurd (cc)
comes (Some x) f y e = record { value = x; there = refl; then = e }

-- a word that makes images of a version is the one for it
word_of_version : (word : Text) (version : Version) → version_of_word word ≡ Some version → word ≡ format_word version
unfolding version_of_word
word_of_version word version e =
    ⊎_elim (λ one. one.0 ∙ ap format_word (some_same _ _ one.1))
    (λ other. ⊎_elim (λ two. two.0 ∙ ap format_word (some_same _ _ two.1)) (λ none. nothing version none)
    (by_word word (codes "format2") _ _ version other))
    (by_word word (codes "format") _ _ version e)

module _ (draws : Version → ValueParser) (takes : (version : Version) → TakesDraws (draws version)) where
  big : (number count : Text) (request : Request)
      → (number_of number >>= λ n. number_in 1 commands_limit count >>= λ k. Some (Big n k)) ≡ Some request
      → IsTaken draws (codes "big" ∷ number ∷ count ∷ [])
  big number count request e =
      let first = comes (number_of number) _ request e in
      let second = comes (number_in 1 commands_limit count) _ request first.then in
      big_taken draws number count
      (number_fits number 0 number_limit first.value first.there (le-leb 0 first.value (omega arith))
      (number_limited number first.value first.there))
      (range_fits 1 commands_limit second.value count second.there)

  format : (version : Version) (slots height draw seed : Text) (request : Request)
      → (number_in 1 slots_limit slots >>= λ n. number_in 1 height_limit height >>= λ h. kind_of_word draw >>=
      λ k. seed_of_word seed >>=
      λ s. Some (Format (record { slots = n; height = h; kind = k; seed = s; version = version }))) ≡ Some request
      → IsTaken draws (format_word version ∷ slots ∷ height ∷ draw ∷ seed ∷ [])
  format version slots height draw seed request e =
      let first = comes (number_in 1 slots_limit slots) _ request e in
      let second = comes (number_in 1 height_limit height) _ request first.then in
      let third = comes (kind_of_word draw) _ request second.then in
      let fourth = comes (seed_of_word seed) _ request third.then in
      format_taken draws version slots height draw seed (range_fits 1 slots_limit first.value slots first.there)
      (range_fits 1 height_limit second.value height second.there)
      (draw_fits (draws version) draw third.value (takes version) third.there)
      (seed_plain seed fourth.value fourth.there)

  pub request_taken : (line : List Text) (request : Request) → request_of line ≡ Some request → IsTaken draws line
  unfolding request_of
  request_taken [] request e = nothing request e
  request_taken (w ∷ []) request e = single_word_taken draws w request e
  request_taken (w ∷ a ∷ []) request e = nothing request e
  request_taken (w ∷ a ∷ b ∷ []) request e =
      ⊎_elim (λ found. subst (λ (word : Text). IsTaken draws (word ∷ a ∷ b ∷ [])) (sym found.0)
      (big a b request found.1)) (λ none. nothing request none) (by_word w (codes "big") _ _ request e)
  request_taken (w ∷ a ∷ b ∷ c ∷ []) request e = nothing request e
  request_taken (w ∷ a ∷ b ∷ c ∷ d ∷ []) request e =
      let version = comes (version_of_word w) _ request e in
      subst (λ (word : Text). IsTaken draws (word ∷ a ∷ b ∷ c ∷ d ∷ []))
      (sym (word_of_version w version.value version.there)) (format version.value a b c d request version.then)
  request_taken (w ∷ a ∷ b ∷ c ∷ d ∷ x ∷ rest) request e = nothing request e

-- What `clap` answers to a line that asks for something.
module _ (app : App) (line : List Text) (is_line : IsLine app) (request : Request)
    (asks : request_of line ≡ Some request) where
  taken : IsTaken is_line.draws line
  taken = request_taken is_line.draws is_line.takes_draws line request asks

  -- it takes the line
  pub line_taken : takes app line ≡ true
  line_taken = ap (λ a. takes a line) is_line.line_is ∙ taken.taken

  -- and its matches hold it
  pub line_held : (m : ArgMatches) → HasMatchesOf app line m → HoldsLine line (subcommand_rows_of m)
  line_held m matches =
      let found = matches (first_true (is_simple app) _ line_taken) in
      subst (HoldsLine line) (sym (found.1 ∙ ap (λ a. subcommand_of a line) is_line.line_is)) taken.held

-- what was asked of matches, where clap took the line
pub asked_of : (app : App) (line : List Text) → IsLine app → (m : ArgMatches) → HasMatchesOf app line m
    → (asked : Option Request)
    → IfSome asked (λ request. request_of line ≡ Some request)
    → (HoldsLine line (subcommand_rows_of m) → asked ≡ request_of line) → asked ≡ request_of line
asked_of app line is_line m matches (Some request) right whole = sym right
asked_of app line is_line m matches None right whole = go (request_of line) refl
  where
    go : (o : Option Request) → request_of line ≡ o → None ≡ request_of line
    go None is = sym is
    go (Some request) is = whole (line_held app line is_line request is m matches)

-- where clap refused the line, and memory was there, it asks for nothing
pub refused : (app : App) (line : List Text) → IsLine app → (takes app line ≡ true → ⊥) → None ≡ request_of line
refused app line is_line never = go (request_of line) refl
  where
    go : (o : Option Request) → request_of line ≡ o → None ≡ request_of line
    go None is = sym is
    go (Some request) is = absurd (never (line_taken app line is_line request is))
