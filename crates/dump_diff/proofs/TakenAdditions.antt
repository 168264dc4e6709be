-- What a taker of additions wrote, while steps come.
use Rattle.std.proofs.Common.{◌≡◌, ℕ, List, [], ◌∷◌, ◌++◌, Bool, true, false, cond, Ok, Err, refl, sym, ap, subst, ◌∙◌}
use Rattle.std.specs.List.{filter, flat_map}
use Rattle.std.proofs.lemmas.List.{append-nil, append_assoc}
use Rattle.std.proofs.lemmas.List.Concat.{flat_map-append}
use Rattle.std.proofs.lemmas.List.Elements.{filter-append}
use Rattle.dump_streams.specs.Dumps.{DumpStep, step_line, steps_text}
use Rattle.script_lines.specs.SinkState.{SinkState, IsPut}
use Rattle.dump_diff.specs.declared.differences.Differences.{Differences}
use Rattle.dump_diff.specs.declared.script.AdditionTaker.{AdditionTaker}
use Rattle.dump_diff.specs.Scripts.{AreRising, TookAdditions, is_addition}

-- the additions among steps and one more
additions_more : (found : Differences) (steps : List DumpStep) (s : DumpStep) (b : Bool) → is_addition found s ≡ b
    → steps_text (filter (is_addition found) (steps ++ s ∷ []))
    ≡ steps_text (filter (is_addition found) steps) ++ steps_text (cond b (s ∷ []) [])
unfolding steps_text
additions_more found steps s b is =
    ap (flat_map step_line) (filter-append (is_addition found) steps (s ∷ [])
    ∙ ap (λ (t : Bool). filter (is_addition found) steps ++ cond t (s ∷ []) []) is)
    ∙ flat_map-append step_line (filter (is_addition found) steps) (cond b (s ∷ []) [])

module _ {W : Type 0} (sink_of : W → SinkState) where
  pub took_none : (taker : AdditionTaker W) → TookAdditions sink_of taker taker []
  unfolding steps_text
  took_none taker = record {
    found_is = refl;
    observable = refl;
    faults = refl;
    written = λ told rising. sym (append-nil (sink_of taker.sink).written);
  }

  -- whether a step is an addition
  answered : (first now : AdditionTaker W) (s : DumpStep) (answer b : Bool) → answer ≡ b → now.found ≡ first.found
      → (AreRising now.found → answer ≡ is_addition now.found s) → AreRising first.found → is_addition first.found s ≡ b
  answered first now s answer b is same says rising =
      ap (λ (found : Differences). is_addition found s) (sym same)
      ∙ sym (says (subst AreRising (sym same) rising)) ∙ is

  -- one that is none
  pub took_other : (first now : AdditionTaker W) (steps : List DumpStep) (s : DumpStep) (answer : Bool)
      → answer ≡ false → (AreRising now.found → answer ≡ is_addition now.found s)
      → TookAdditions sink_of first now steps → TookAdditions sink_of first now (steps ++ s ∷ [])
  unfolding steps_text
  took_other first now steps s answer no_one says took = record {
    found_is = took.found_is;
    observable = took.observable;
    faults = took.faults;
    written = λ told rising.
        let is = answered first now s answer false no_one took.found_is says rising in
        took.written told rising
        ∙ ap (λ (all : List ℕ). (sink_of first.sink).written ++ all)
        (sym (additions_more first.found steps s false is ∙ append-nil (steps_text (filter (is_addition first.found)
        steps))));
  }

  -- one that is an addition
  pub took_one : {E : Type 0} (first now next : AdditionTaker W) (steps : List DumpStep) (s : DumpStep) (answer : Bool)
      → answer ≡ true → (AreRising now.found → answer ≡ is_addition now.found s)
      → next.found ≡ now.found → TookAdditions sink_of first now steps
      → IsPut {T = Unit {0}} {E = E} (sink_of now.sink) (sink_of next.sink) (step_line s) (Ok tt)
      → TookAdditions sink_of first next (steps ++ s ∷ [])
  unfolding steps_text
  took_one first now next steps s answer is_one says kept took put = record {
    found_is = kept ∙ took.found_is;
    observable = put.observable ∙ took.observable;
    faults = put.faults ∙ took.faults;
    written = λ told rising.
        let is = answered first now s answer true is_one took.found_is says rising in
        let old : List ℕ = steps_text (filter (is_addition first.found) steps) in
        (put.observed (took.observable ∙ told)).appended
        ∙ ap (λ (all : List ℕ). all ++ step_line s) (took.written told rising)
        ∙ append_assoc (sink_of first.sink).written old (step_line s)
        ∙ ap (λ (all : List ℕ). (sink_of first.sink).written ++ all)
        (sym (additions_more first.found steps s true is
        ∙ ap (λ (more : List ℕ). old ++ more) (append-nil (step_line s))));
  }

-- a put that is told by another answer
pub put_done : {E F : Type 0} (a b : SinkState) (text : List ℕ) → IsPut {T = Unit {0}} {E = E} a b text (Ok tt)
    → IsPut {T = Unit {0}} {E = F} a b text (Ok tt)
put_done a b text put =
    record {
      observable = put.observable;
      faults = put.faults;
      last_fault = put.last_fault;
      observed = λ told. record { appended = (put.observed told).appended; cut_off = tt };
    }

pub put_failed : {E F : Type 0} (a b : SinkState) (text : List ℕ) (fault : E) (told : F)
    → IsPut {T = Unit {0}} a b text (Err fault) → IsPut {T = Unit {0}} a b text (Err told)
put_failed a b text fault told put =
    record {
      observable = put.observable;
      faults = put.faults;
      last_fault = put.last_fault;
      observed = λ observable. record { appended = tt; cut_off = (put.observed observable).cut_off };
    }
