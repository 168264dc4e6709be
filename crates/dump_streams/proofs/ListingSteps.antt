-- What is known of a stream of a listing between two of its lines, and what each line leaves.
use Rattle.std.proofs.Common.{◌≡◌, ℕ, ◌+◌, ◌-◌, ◌^◌, ◌≤◌, true, false, List, [], ◌∷◌, ◌++◌, map, length, Ok}
use Rattle.std.proofs.Common.{refl, sym, ap, subst, ◌∙◌, arith}
use Rattle.std.proofs.Math.Nat.{min-eq_left}
use Rattle.std.proofs.lemmas.List.{append-nil, append_assoc, length-append}
use Rattle.store_base.specs.Counts.{raised}
use Rattle.store_model.specs.declared.version.Version.{Version}
use Rattle.store_model.specs.declared.draw_kind.DrawKind.TheVariants as draws
use Rattle.store_model.specs.Parameters.{Parameters}
use Rattle.store_model.specs.Trees.{Tree, empty_tree}
use Rattle.store_model.specs.Scripts.{lines, reading, script_limit}
use Rattle.script_lines.specs.SourceState.{SourceState, IsObservable}
use Rattle.script_lines.specs.LineState.{LineState, Answers, to_come, unread, KeepsSource, EndsCall, NextLine}
use Rattle.script_lines.specs.declared.lines.Line.{Line}
use Rattle.script_lines.specs.declared.lines.Line.TheVariants as answers
use Rattle.script_lines.specs.declared.lines.LineFault.{LineFault}
use Rattle.script_lines.specs.declared.lines.LineFault.TheVariants as causes
use Rattle.script_lines.proofs.LineLemmas.{lines-none}
use Rattle.script_lines.proofs.StateLemmas.{Answers-refl, Answers-trans}
use Rattle.dump_streams.specs.declared.reader.ListingReader.{ListingReader}
use Rattle.dump_streams.specs.Dumps.{DumpStep, command_of_step, after_step, dump, IsListing}
use Rattle.dump_streams.specs.Reading.{HasRead, GoesOn, BreaksOff}
use Rattle.dump_streams.proofs.StepLemmas.{reading_long, readings_more, none_by}
use Rattle.dump_streams.specs.declared.listing.ListingStream.{ListingStream}
use Rattle.dump_streams.specs.Faults.{line_fault}
use Rattle.dump_streams.specs.Streams.{Extends}
use Rattle.dump_streams.specs.SourceLines.{fresh_lines, IsReading, StopsReading}
use Rattle.dump_streams.specs.Listings.{IsTreeOf, CameOf, IsListed, IsRefused, TakesText, EndsBy}
use Rattle.dump_streams.proofs.ReadingSteps.{reading_none, reads_on, read_out}

-- some parameters under which each tree of a version may stand
abbrev any_of : Version → Parameters
any_of version = record { slots = 0; height = 0; kind = draws.Ruler; seed = []; version = version }

-- before the first line
pub dump_none : dump empty_tree ≡ []
unfolding dump
dump_none = refl

module _ {R : Type 0} (source_of : R → SourceState) where
  pub came_none : (stream : ListingStream R) → stream.lines ≡ fresh_lines stream.first.value → stream.count ≡ 0
      → ((p : Parameters) → p.version ≡ stream.reader.version → HasRead stream.reader empty_tree p)
      → CameOf source_of stream empty_tree
  unfolding dump
  came_none stream new none read =
      let fresh = fresh_lines stream.first.value in
      record {
        reading = subst (λ (l : LineState R). IsReading source_of stream.first.value l) (sym new)
            (reading_none source_of stream.first.value);
        read = read;
        count_is = none;
        few = omega (arith, none, ap unread new);
        steps = λ told. record {
          texts = [];
          answers = subst (λ (l : LineState R). Answers source_of fresh l []) (sym new) (Answers-refl source_of fresh);
          texts_are = refl;
        };
      }

  -- ---- between two lines

  module _ (old : ListingStream R) (t : Tree) (before : CameOf source_of old t) (next : LineState R) where
    abbrev first : R
    first = old.first.value

    told : IsObservable (source_of first) → IsObservable (source_of old.lines.source)
    told o = (before.reading).observable ∙ o

    read_by : HasRead old.reader t (any_of old.reader.version)
    read_by = before.read (any_of old.reader.version) refl

    -- a fault of the lines
    pub at_fault : (fault : LineFault) → StopsReading source_of first next (line_fault fault)
        → EndsBy source_of (record old { lines = next }) t (line_fault fault)
    at_fault causes.Source stops = stops
    at_fault causes.TooLong stops = stops

    -- the end of the source
    pub at_end : KeepsSource {T = Line} (source_of old.lines.source) (source_of next.source) (Ok answers.End)
        → EndsCall old.lines next (Ok answers.End)
        → (IsObservable (source_of old.lines.source) → NextLine source_of old.lines next (Ok answers.End))
        → IsListed source_of (record old { lines = next }) t
    at_end source ends line = record {
      read_out = read_out source_of first old.lines next before.reading source ends line;
      under = λ p same. (before.read p same).under;
      listing = λ o.
          let came = before.steps o in
          let last = line (told o) in
          ap (map reading) (came.answers.lines
          ∙ ap (λ xs. came.texts ++ xs) (last.0.lines ∙ ap lines last.1 ∙ lines-none)
          ∙ append-nil came.texts) ∙ came.texts_are;
      count_is = before.count_is;
    }

    module _ (reader : ListingReader) (same : reader.version ≡ old.reader.version) (count : ℕ)
        (raised_is : count ≡ raised old.count) where
      abbrev now : ListingStream R
      now = record old { lines = next; reader = reader; count = count }

      -- one more is counted
      count_more : (old.count + 1 ≤ script_limit) → count ≡ length (dump t) + 1
      count_more few = let limit : script_limit ≤ 2 ^ 64 - 1 = omega arith
          in raised_is ∙ min-eq_left (omega (arith, few, limit)) ∙ ap (λ n. n + 1) before.count_is

      -- a line that no dump goes on with
      none_at : (o : IsObservable (source_of first)) (text : List ℕ) → Answers source_of old.lines next (text ∷ [])
          → ((s : DumpStep) → reading text ≡ Ok (command_of_step s) → BreaksOff t s (any_of old.reader.version))
          → (u : Tree) → IsTreeOf reader.version u → IsListing u (source_of first).left → ⊥
      none_at o text answered bad u under e =
          let came = before.steps o in
          let split : lines (source_of first).left ≡ (came.texts ++ text ∷ []) ++ lines (to_come source_of next) =
          came.answers.lines ∙ ap (λ xs. came.texts ++ xs) answered.lines
          ∙ sym (append_assoc came.texts (text ∷ []) (lines (to_come source_of next))) in
          none_by t u (any_of old.reader.version) came.texts text (lines (to_come source_of next)) came.texts_are bad
          (under (any_of old.reader.version) (sym same)) (ap (map reading) (sym split) ∙ e)

      -- a line that is too long
      pub at_long : KeepsSource {T = Line} (source_of old.lines.source) (source_of next.source) (Ok answers.Long)
          → EndsCall old.lines next (Ok answers.Long)
          → (IsObservable (source_of old.lines.source) → NextLine source_of old.lines next (Ok answers.Long))
          → IsRefused source_of now t
      at_long source ends line = record {
        reading = reads_on source_of first old.lines next before.reading answers.Long source ends line;
        none = λ o. let long = line (told o)
            in none_at o long.0 long.2 (λ c is. absurd (let e = reading_long long.0 long.1 in cc));
        count_is = count_more (omega (arith, before.few, ends.falls));
      }

      -- a text
      module _ (source : KeepsSource {T = Line} (source_of old.lines.source) (source_of next.source) (Ok answers.Text))
          (ends : EndsCall old.lines next (Ok answers.Text))
          (line : IsObservable (source_of old.lines.source) → NextLine source_of old.lines next (Ok answers.Text))
          (s : DumpStep) where
        pub at_bad : TakesText old.reader reader next.text s false → IsRefused source_of now t
        at_bad takes = record {
          reading = reads_on source_of first old.lines next before.reading answers.Text source ends line;
          none = λ o. none_at o next.text (line (told o)) (takes.refused t (any_of old.reader.version) read_by);
          count_is = count_more (omega (arith, before.few, ends.falls));
        }

        module _ (takes : TakesText old.reader reader next.text s true) where
          goes : GoesOn t s (any_of old.reader.version)
          goes = takes.goes_on t (any_of old.reader.version) read_by

          pub at_text : CameOf source_of now (after_step t s)
          at_text =
              let counted = count_more (omega (arith, before.few, ends.falls)) in
              record {
                reading = reads_on source_of first old.lines next before.reading answers.Text source ends line;
                read = λ p here. takes.read t p (before.read p (here ∙ same));
                count_is = counted ∙ sym (ap length goes.dump_is ∙ length-append (dump t) (s ∷ []));
                few = omega (arith, counted, before.count_is, before.few, ends.falls);
                steps = λ o.
                    let came = before.steps o in
                    record {
                      texts = came.texts ++ next.text ∷ [];
                      answers = Answers-trans source_of (fresh_lines first) old.lines next
                          came.texts (next.text ∷ []) came.answers (line (told o));
                      texts_are = readings_more t (after_step t s) s came.texts next.text came.texts_are takes.step
                          goes.dump_is;
                    };
              }

          pub at_more : Extends t s
          at_more = record { is_tree = goes.under.is_tree; dump_is = goes.dump_is }
