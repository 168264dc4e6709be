-- The bytes that a source over a stream has given, between two takes.
use Rattle.std.proofs.Common.{◌≡◌, ℕ, ◌<◌, min, Bool, true, false, List, [], ◌∷◌, ◌++◌, length, refl, sym, ap, ◌∙◌}
use Rattle.std.proofs.Common.{arith}
use Rattle.std.proofs.lemmas.Bool.{false≢true}
use Rattle.std.proofs.lemmas.List.{append-nil, nil_from_length}
use Rattle.store_model.specs.Trees.{Tree, empty_tree}
use Rattle.store_model.specs.Commands.{line}
use Rattle.dump_streams.specs.Dumps.{after_step, step_text, step_line, steps_text}
use Rattle.dump_streams.specs.declared.source.ListingSource.{ListingSource}
use Rattle.dump_streams.specs.Streams.{Extends}
use Rattle.dump_streams.specs.Sources.{Gave, IsReady}
use Rattle.dump_streams.proofs.ListingSteps.{dump_none}
use Rattle.dump_streams.proofs.TakenLines.{text_none, text_more}

module _ {S : Type 0} (came whole : S → Tree → Type 0) where
  -- before the first take
  pub gave_none : (source : ListingSource S) → came source.stream empty_tree → source.line.rest ≡ []
      → source.is_ended ≡ false → Gave came whole source []
  gave_none source none rest going = record {
    tree = empty_tree;
    text = ap steps_text dump_none ∙ text_none ∙ sym rest;
    going = λ e. none;
    ended = λ e. absurd (false≢true (sym going ∙ e));
  }

  -- a line is never empty
  some_line : (text : List ℕ) → line text ≡ [] → ⊥
  some_line [] e = cc
  some_line (b ∷ text) e = cc

  -- behind a line that was given comes that of another step
  pub ready_more : (old new : ListingSource S) (bytes : List ℕ) → old.is_ended ≡ false → old.line.rest ≡ []
      → new.is_ended ≡ false → (gave : Gave came whole old bytes)
      → came new.stream (after_step gave.tree new.step) → Extends gave.tree new.step
      → new.line.rest ≡ step_line new.step → IsReady came whole new bytes
  ready_more old new bytes going none goes gave more extends rest = record {
    gave = record {
      tree = after_step gave.tree new.step;
      text = ap steps_text extends.dump_is ∙ text_more _ new.step
          ∙ ap (λ xs. xs ++ step_line new.step)
          (gave.text ∙ ap (λ xs. bytes ++ xs) none ∙ append-nil bytes) ∙ ap (λ xs. bytes ++ xs) (sym rest);
      going = λ e. more;
      ended = λ e. absurd (false≢true (sym goes ∙ e));
    };
    some = λ e empty. some_line (step_text new.step) (sym rest ∙ empty);
  }

  -- no byte is given only at the end of the stream
  pub end_given : (source : ListingSource S) (bytes : List ℕ) (room count : ℕ) → IsReady came whole source bytes
      → 0 < room → count ≡ min room (length source.line.rest) → count ≡ 0 → source.is_ended ≡ true
  end_given source bytes room count ready some is none = by_end source.is_ended refl
    where
      by_end : (b : Bool) → source.is_ended ≡ b → source.is_ended ≡ true
      by_end true e = e
      by_end false e = absurd (ready.some e (nil_from_length source.line.rest (omega (arith, some, is, none))))
