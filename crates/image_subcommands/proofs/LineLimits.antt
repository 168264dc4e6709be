-- What a reader of lines took of its source, against the limit of a script, and what a line asks for.
use Rattle.std.proofs.Common.{◌≡◌, ℕ, ◌+◌, ◌-◌, ◌<◌, ◌≤◌, List, [], ◌∷◌, ◌++◌, length, take, drop, Err, refl, sym, ap}
use Rattle.std.proofs.Common.{◌∙◌, arith, length-drop, length-take, if◌then◌else◌}
use Rattle.std.proofs.lemmas.Bool.{lt-ltb, le-ltb}
use Rattle.std.proofs.lemmas.List.{take-append-drop, drop-drop}
use Rattle.store_model.specs.declared.refusal.Refusal.TheVariants as refusals
use Rattle.store_model.specs.Grammar.{parse}
use Rattle.store_model.specs.Scripts.{lines, reading, line_limit, script_limit}
use Rattle.script_lines.specs.SourceState.{SourceState}
use Rattle.script_lines.specs.LineState.{LineState, left, to_come, Takes, Answers, PassesLimit}
use Rattle.image_subcommands.specs.declared.status.Status.{Status}
use Rattle.image_subcommands.specs.declared.status.Status.TheVariants as statuses
use Rattle.image_subcommands.specs.Limits.{HasTaken, KeepsLimit}

-- a line that is no longer than a line may be is parsed, and one that is longer is refused
pub reading_short : (text : List ℕ) → length text ≤ line_limit → reading text ≡ parse text
unfolding reading
reading_short text h = ap (λ b. if b then Err refusals.Long else parse text) (le-ltb line_limit (length text) h)

pub reading_long : (text : List ℕ) → line_limit < length text → reading text ≡ Err refusals.Long
unfolding reading
reading_long text h = ap (λ b. if b then Err refusals.Long else parse text) (lt-ltb line_limit (length text) h)

-- of a reader from which nothing was read before
module _ {R : Type 0} (state : R → SourceState) (first : LineState R) (held : first.held ≡ [])
    (none_taken : first.taken ≡ 0) where
  -- the lines of the script are those read and others
  pub lines_split : (now : LineState R) (read : List (List ℕ)) → Answers state first now read
      → lines (left state first) ≡ read ++ lines (to_come state now)
  lines_split now read answers = ap lines (sym (ap (λ xs. xs ++ left state first) held)) ∙ answers.lines

  -- the bytes taken so far, and those left
  pub taken_split : (now : LineState R) → Takes state first now
      → left state first ≡ take (now.taken - first.taken) (left state first) ++ left state now
  taken_split now takes = sym (take-append-drop (now.taken - first.taken) (left state first))
      ∙ ap (λ xs. take (now.taken - first.taken) (left state first) ++ xs) (sym takes.left)

  -- all bytes, as those taken up to one past the limit and those left
  pub taken_all : {ys : List ℕ} → ys ≡ drop (script_limit + 1) (left state first)
      → left state first ≡ take (script_limit + 1) (left state first) ++ ys
  taken_all e = sym (take-append-drop (script_limit + 1) (left state first))
      ∙ ap (λ xs. take (script_limit + 1) (left state first) ++ xs) (sym e)

  -- with the script at its end nothing is left
  pub end_of_left : (next : LineState R) → to_come state next ≡ [] → left state next ≡ []
  end_of_left next none = second_nil next.held (left state next) none
    where
      second_nil : (xs ys : List ℕ) → xs ++ ys ≡ [] → ys ≡ []
      second_nil [] ys e = e
      second_nil (x ∷ xs) ys e = absurd (cc)

  -- so many bytes were taken
  pub taken_by : (next : LineState R) → Takes state first next
      → HasTaken next.taken (state first.source) (state next.source)
  taken_by next takes = record {
    taken = take (next.taken - first.taken) (left state first);
    taken_is = taken_split next takes;
    count_is = omega (arith, length-take (next.taken - first.taken) (left state first), takes.fits, none_taken);
  }

  -- the call ended otherwise than by too long a script
  pub within_limit : (status : Status) (next : LineState R) → Takes state first next → next.taken ≤ script_limit
      → (status ≡ statuses.TooLong → ⊥) → (status ≡ statuses.Done → left state next ≡ [])
      → KeepsLimit status (state first.source) (state next.source)
  within_limit status next takes in_limit other whole = record {
    too_long = λ e. absurd (other e);
    within = λ h. (next.taken, in_limit, taken_by next takes);
    whole = whole;
  }

  -- it ended by that
  pub past_limit : (now next : LineState R) (read : List (List ℕ)) → first.limit ≡ script_limit
      → Answers state first now read → PassesLimit state now next
      → KeepsLimit statuses.TooLong (state first.source) (state next.source)
  past_limit now next read limit answers passes =
      let limit_now : now.limit ≡ script_limit = answers.takes.limit ∙ limit in
      let more : (now.taken - first.taken) + ((now.limit - now.taken) + 1) ≡ script_limit + 1 =
      omega (arith, none_taken, limit_now, passes.within, answers.takes.taken) in
      let left_is : left state next ≡ drop (script_limit + 1) (left state first) =
      passes.left ∙ ap (drop ((now.limit - now.taken) + 1)) answers.takes.left
      ∙ drop-drop ((now.limit - now.taken) + 1) (now.taken - first.taken) (left state first)
      ∙ ap (λ n. drop n (left state first)) more in
      let longer : script_limit < length (left state first) =
      omega (
        arith,
        passes.longer,
        answers.takes.limit,
        limit,
        none_taken,
        ap length answers.takes.left,
        length-drop (now.taken - first.taken) (left state first),
        answers.takes.fits,
      ) in
      record {
        too_long = λ e. record {
          taken = take (script_limit + 1) (left state first);
          taken_is = taken_all left_is;
          count_is = omega (arith, length-take (script_limit + 1) (left state first), longer);
        };
        within = λ h. absurd (h refl);
        whole = λ e. absurd (cc);
      }
