-- Lines are put, one after another.
use Rattle.std.proofs.Common.{◌≡◌, ℕ, ◌+◌, ◌<◌, List, [], ◌∷◌, ◌++◌, length, get_or, take, drop, Bool, IsTrue, Result}
use Rattle.std.proofs.Common.{Ok, Err, refl, sym, ap, subst, ◌∙◌, append_assoc}
use Rattle.std.proofs.lemmas.List.{append-nil, take_more, take-append-drop}
use Rattle.std.proofs.lemmas.List.Concat.{flat_map-append}
use Rattle.std.specs.Prelude.{IsErrAnd}
use Rattle.script_lines.specs.SinkState.{SinkState, IsPut, PutsBytes}
use Rattle.script_lines.specs.declared.fault.SinkFault.{SinkFault}
use Rattle.dump_streams.specs.declared.taker.TakerFault.{TakerFault}
use Rattle.dump_streams.specs.declared.taker.TakerFault.TheVariants as takers
use Rattle.dump_diff.specs.declared.difference.Difference.{Difference}
use Rattle.host_builder.specs.Builders.{faults_after}
use Rattle.box_calls.specs.declared.marks.MarkForm.{MarkForm}
use Rattle.box_calls.specs.Marks.{PutsLines, mark_text, marks_text}

-- none were
pub lines_none : (s : SinkState) → PutsLines s s [] (Ok tt)
lines_none s = record {
  observable = refl;
  faults = refl;
  observed = λ o. record { appended = sym (append-nil s.written); cut_off = tt };
}

-- there was no memory for them
pub lines_unmade : (s : SinkState) (text : List ℕ) → PutsLines s s text (Err takers.NoMemory)
lines_unmade s text = record {
  observable = refl;
  faults = refl;
  observed = λ o. record {
    appended = tt;
    cut_off = record { part = []; rest = text; is_prefix = refl; appended = sym (append-nil s.written) };
  };
}

-- one call did it
pub lines_put : (old new : SinkState) (text : List ℕ) → IsPut {T = Unit {0}} {E = SinkFault} old new text (Ok tt)
    → PutsLines old new text (Ok tt)
lines_put old new text put = record {
  observable = put.observable;
  faults = put.faults;
  observed = λ o. record { appended = (put.observed o).appended; cut_off = tt };
}

pub lines_failed : (old new : SinkState) (text : List ℕ) (fault : SinkFault)
    → IsPut {T = Unit {0}} {E = SinkFault} old new text (Err fault) → PutsLines old new text (Err takers.Failed)
lines_failed old new text fault put = record {
  observable = put.observable;
  faults = put.faults;
  observed = λ o. record { appended = tt; cut_off = (put.observed o).cut_off };
}

-- behind lines that were put come others
pub lines_more : (a b c : SinkState) (first more : List ℕ) (result : Result (Unit {0}) TakerFault)
    → PutsLines a b first (Ok tt) → PutsLines b c more result → PutsLines a c (first ++ more) result
lines_more a b c first more result before after = record {
  observable = after.observable ∙ before.observable;
  faults = after.faults ∙ ap (λ n. faults_after n result) before.faults;
  observed = λ o. by_result result (before.observed o).appended
      (after.observed (subst (λ (s : Bool). IsTrue s) (sym before.observable) o));
}
  where
    by_result : (r : Result (Unit {0}) TakerFault) → b.written ≡ a.written ++ first → PutsBytes b c more r
        → PutsBytes a c (first ++ more) r
    by_result (Ok done) one two = record {
      appended = two.appended ∙ ap (λ t. t ++ more) one ∙ append_assoc a.written first more;
      cut_off = tt;
    }
    by_result (Err fault) one two = record {
      appended = tt;
      cut_off = record {
        part = first ++ two.cut_off.part;
        rest = two.cut_off.rest;
        is_prefix = ap (λ t. first ++ t) two.cut_off.is_prefix
            ∙ sym (append_assoc first two.cut_off.part two.cut_off.rest);
        appended = two.cut_off.appended ∙ ap (λ t. t ++ two.cut_off.part) one
            ∙ append_assoc a.written first two.cut_off.part;
      };
    }

-- lines that were cut off are so as well where more were to come
pub lines_cut : (a b : SinkState) (first more : List ℕ) (fault : TakerFault) → PutsLines a b first (Err fault)
    → PutsLines a b (first ++ more) (Err fault)
lines_cut a b first more fault put = record {
  observable = put.observable;
  faults = put.faults;
  observed = λ o. record {
    appended = tt;
    cut_off = record {
      part = (put.observed o).cut_off.part;
      rest = (put.observed o).cut_off.rest ++ more;
      is_prefix = ap (λ t. t ++ more) (put.observed o).cut_off.is_prefix
          ∙ append_assoc (put.observed o).cut_off.part (put.observed o).cut_off.rest more;
      appended = (put.observed o).cut_off.appended;
    };
  };
}

-- ---- of differences

told : (result : Result (Unit {0}) TakerFault) (fault : TakerFault) → IsErrAnd result (λ e. e ≡ fault)
    → result ≡ Err fault
told (Ok done) fault is = absurd is
told (Err e) fault is = ap (λ (f : TakerFault). Err f) is

-- the lines of some first ones were put, and not that of the next one
pub lines_broken : (a b c : SinkState) (form : MarkForm) (found : List Difference) (i : ℕ) (one : Difference)
    (result : Result (Unit {0}) TakerFault) (fault : TakerFault) → i < length found → one ≡ get_or found i one
    → IsErrAnd result (λ e. e ≡ fault) → PutsLines a b (marks_text form (take i found)) (Ok tt)
    → PutsLines b c (mark_text form one) (Err fault) → PutsLines a c (marks_text form found) result
lines_broken a b c form found i one result fault within at is before after =
    let first = marks_text form (take i found) in
    let rest = marks_text form (drop (i + 1) found) in
    let next : marks_text form (take (i + 1) found) ≡ first ++ mark_text form one =
    ap (marks_text form) (take_more found i one within ∙ ap (λ (x : Difference). take i found ++ x ∷ []) (sym at))
    ∙ flat_map-append (mark_text form) (take i found) (one ∷ [])
    ∙ ap (λ (text : List ℕ). first ++ text) (append-nil (mark_text form one)) in
    let whole : marks_text form found ≡ (first ++ mark_text form one) ++ rest =
    ap (marks_text form) (sym (take-append-drop (i + 1) found))
    ∙ flat_map-append (mark_text form) (take (i + 1) found) (drop (i + 1) found)
    ∙ ap (λ (text : List ℕ). text ++ rest) next in
    subst (λ (r : Result (Unit {0}) TakerFault). PutsLines a c (marks_text form found) r) (sym (told result fault is))
    (subst (λ (text : List ℕ). PutsLines a c text (Err fault)) (sym whole)
    (lines_cut a c (first ++ mark_text form one) rest fault
    (lines_more a b c first (mark_text form one) (Err fault) before after)))
