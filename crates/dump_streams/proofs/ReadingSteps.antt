-- What each answer of a reader of lines leaves of its source.
use Rattle.std.proofs.Common.{◌≡◌, ◌+◌, ◌-◌, List, [], ◌∷◌, ◌++◌, length, drop, Ok, Err, refl, ap, ◌∙◌, arith}
use Rattle.std.proofs.Common.{length-drop}
use Rattle.std.proofs.lemmas.List.{drop-drop}
use Rattle.store_base.specs.Counts.{raised}
use Rattle.store_model.specs.Scripts.{script_limit}
use Rattle.script_lines.specs.SourceState.{SourceState, IsObservable}
use Rattle.script_lines.specs.LineState.{LineState, Takes, left, KeepsSource, EndsCall, NextLine}
use Rattle.script_lines.specs.declared.lines.Line.{Line}
use Rattle.script_lines.specs.declared.lines.Line.TheVariants as answers
use Rattle.script_lines.specs.declared.lines.LineFault.{LineFault}
use Rattle.script_lines.specs.declared.lines.LineFault.TheVariants as causes
use Rattle.script_lines.proofs.StateLemmas.{Takes-trans, Answers-refl}
use Rattle.dump_streams.specs.Faults.{line_fault}
use Rattle.dump_streams.specs.SourceLines.{fresh_lines, IsReading, IsReadOut, StopsReading}

second_nil : {A : Type 0} (xs ys : List A) → xs ++ ys ≡ [] → ys ≡ []
second_nil [] ys e = e
second_nil (x ∷ xs) ys e = absurd (cc)

module _ {R : Type 0} (source_of : R → SourceState) (first : R) where
  -- before the first line
  pub reading_none : IsReading source_of first (fresh_lines first)
  reading_none = record {
    live = refl;
    limit = refl;
    in_limit = omega arith;
    observable = refl;
    faults = refl;
    takes = λ o. (Answers-refl source_of (fresh_lines first)).takes;
  }

  module _ (old new : LineState R) (before : IsReading source_of first old) where
    told : IsObservable (source_of first) → IsObservable (source_of old.source)
    told o = before.observable ∙ o

    line_taken : (line : Line) → NextLine source_of old new (Ok line) → Takes source_of old new
    line_taken answers.Text next = next.takes
    line_taken answers.Long next = (next.2).takes
    line_taken answers.End next = (next.0).takes

    -- a line, or the end
    pub reads_on : (line : Line) → KeepsSource {T = Line} (source_of old.source) (source_of new.source) (Ok line)
        → EndsCall old new (Ok line) → (IsObservable (source_of old.source) → NextLine source_of old new (Ok line))
        → IsReading source_of first new
    reads_on line source ends next = record {
      live = ends.live.1 refl;
      limit = ends.limit ∙ before.limit;
      in_limit = omega (arith, ends.in_limit, ends.limit, before.limit);
      observable = source.observable ∙ before.observable;
      faults = source.faults ∙ before.faults;
      takes = λ o. Takes-trans source_of (fresh_lines first) old new (before.takes o) (line_taken line (next (told o)));
    }

    -- the end
    pub read_out : KeepsSource {T = Line} (source_of old.source) (source_of new.source) (Ok answers.End)
        → EndsCall old new (Ok answers.End)
        → (IsObservable (source_of old.source) → NextLine source_of old new (Ok answers.End))
        → IsReadOut source_of first new
    read_out source ends next = record {
      reading = reads_on answers.End source ends next;
      none_left = λ o. second_nil new.held (left source_of new) (next (told o)).1;
    }

    -- a fault
    pub stops : (fault : LineFault) → KeepsSource {T = Line} (source_of old.source) (source_of new.source) (Err fault)
        → EndsCall old new (Err fault)
        → (IsObservable (source_of old.source) → NextLine source_of old new (Err fault))
        → StopsReading source_of first new (line_fault fault)
    stops causes.Source source ends next = record {
      in_limit = omega (arith, ends.in_limit, ends.limit, before.limit);
      observable = source.observable ∙ before.observable;
      faults = source.faults ∙ ap raised before.faults;
      takes = λ o. Takes-trans source_of (fresh_lines first) old new (before.takes o) (next (told o)).takes;
    }
    stops causes.TooLong source ends next = record {
      observable = source.observable ∙ before.observable;
      faults = source.faults ∙ before.faults;
      longer = λ o.
          let taken = before.takes o in
          let passes = next (told o) in
          omega (
            arith,
            passes.longer,
            before.limit,
            taken.fits,
            ap length taken.left,
            length-drop (old.taken - 0) (source_of first).left,
          );
      left_is = λ o.
          let taken = before.takes o in
          let passes = next (told o) in
          let count : (old.taken - 0) + ((old.limit - old.taken) + 1) ≡ script_limit + 1 =
          omega (arith, before.limit, before.in_limit) in
          passes.left ∙ ap (drop ((old.limit - old.taken) + 1)) taken.left
          ∙ drop-drop ((old.limit - old.taken) + 1) (old.taken - 0) (source_of first).left
          ∙ ap (λ n. drop n (source_of first).left) count;
    }
