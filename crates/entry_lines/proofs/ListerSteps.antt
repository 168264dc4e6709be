-- What a lister puts, step after step.
use Rattle.std.proofs.Common.{◌≡◌, ℕ, Bool, true, false, cond, List, [], ◌∷◌, ◌++◌, map, fold, Option, Some, None}
use Rattle.std.proofs.Common.{Result, Ok, Err, OnOk, IfErr, IsTrue, option_to_list, refl, sym, ap, ap₂, subst, ◌∙◌}
use Rattle.std.proofs.Common.{append_assoc}
use Rattle.std.proofs.lemmas.Grind.{flat_map-append}
use Rattle.std.proofs.lemmas.List.{append-nil}
use Rattle.std.proofs.lemmas.List.Sums.{fold-append}
use Rattle.store_model.specs.Paths.{Path, Name}
use Rattle.store_model.specs.Trees.{Tree, IsTree, empty_tree, node_at}
use Rattle.script_lines.specs.SinkState.{SinkState, IsObservable}
use Rattle.dump_streams.specs.Dumps.{DumpStep, dump}
use Rattle.dump_streams.specs.Dumps.DumpStep.{Set}
use Rattle.dump_streams.specs.declared.taker.TakerFault.{TakerFault}
use Rattle.dump_views.specs.declared.content.Standing.{Standing}
use Rattle.dump_views.specs.Contents.{standing_by, standing_after, standing_of}
use Rattle.dump_views.proofs.ContentLemmas.{standing_told}
use Rattle.entry_lines.specs.declared.form.ListForm.{ListForm}
use Rattle.entry_lines.specs.declared.entry.EntryFacts.{EntryFacts}
use Rattle.entry_lines.specs.declared.lister.EntryLister.{EntryLister}
use Rattle.entry_lines.specs.Entries.{facts_of, with_attribute, Told, told_from, entries_of, is_last, changed, tell}
use Rattle.entry_lines.specs.Lines.{entry_text, list_text}
use Rattle.entry_lines.specs.Listers.{entries_text, last_text, PutsText, TakesStep, TookSteps, BreaksStep}
use Rattle.entry_lines.specs.Listings.{IsListed}
use Rattle.entry_lines.proofs.ToldEntries.{told_behind, told_entries}

-- ---- the text of the last entry

last_is : (form : ListForm) (top : Path) (last : Option EntryFacts)
    → entries_text form top (option_to_list last) ≡ last_text form top last
last_is form top None = refl
last_is form top (Some f) = append-nil (entry_text form top f)

-- ---- no text

pub puts_none : {T : Type 0} (sink : SinkState) (value : T) → PutsText sink sink [] (Ok value)
puts_none sink value = record { observable = refl; faults = refl; written = λ seen. sym (append-nil sink.written) }

-- ---- the steps

module _ {W : Type 0} (sink_of : W → SinkState) where
  pub took_none : (lister : EntryLister W) → TookSteps sink_of lister lister []
  unfolding standing_after
  took_none lister = record {
    form = refl;
    top = refl;
    standing = refl;
    last = refl;
    observable = refl;
    faults = refl;
    written = λ seen. sym (append-nil (sink_of lister.sink).written);
  }

  took_more : (first old new : EntryLister W) (steps : List DumpStep) (s : DumpStep) (value : Unit {0})
      → TookSteps sink_of first old steps → TakesStep sink_of old new s (Ok value)
      → TookSteps sink_of first new (steps ++ s ∷ [])
  unfolding standing_after
  took_more first old new steps s value took one =
      let told = fold tell (told_from first.last) steps in
      let behind : fold tell (told_from first.last) (steps ++ s ∷ []) ≡ record {
        whole = told.whole ++ (tell (told_from told.last) s).whole;
        last = (tell (told_from told.last) s).last;
      } = fold-append tell (told_from first.last) steps (s ∷ []) ∙ told_behind told s in
      let text : List EntryFacts → List ℕ = entries_text first.form first.top in
      record {
        form = one.form ∙ took.form;
        top = one.top ∙ took.top;
        standing = one.standing ∙ ap (λ (p : Path). standing_by p old.standing s) took.top
            ∙ ap (λ (x : Standing). standing_by first.top x s) took.standing
            ∙ sym (fold-append (standing_by first.top) first.standing steps (s ∷ []));
        last = one.last ∙ ap (λ (l : Option EntryFacts). (tell (told_from l) s).last) took.last
            ∙ sym (ap (λ (t : Told). t.last) behind);
        observable = one.puts.observable ∙ took.observable;
        faults = one.puts.faults ∙ took.faults;
        written = λ seen.
            one.puts.written (subst IsTrue (sym took.observable) seen)
            ∙ ap₂ (λ (form : ListForm) (top : Path). (sink_of old.sink).written
            ++ entries_text form top (tell (told_from old.last) s).whole) took.form took.top
            ∙ ap (λ (l : Option EntryFacts). (sink_of old.sink).written ++ text (tell (told_from l) s).whole) took.last
            ∙ ap (λ (xs : List ℕ). xs ++ text (tell (told_from told.last) s).whole) (took.written seen)
            ∙ append_assoc (sink_of first.sink).written (text told.whole) (text (tell (told_from told.last) s).whole)
            ∙ ap (λ (xs : List ℕ). (sink_of first.sink).written ++ xs)
            (sym (flat_map-append (entry_text first.form first.top) told.whole (tell (told_from told.last) s).whole)
            ∙ sym (ap (λ (t : Told). text t.whole) behind));
      }

  -- one more step was taken, or it was not
  pub took_one : (first old new : EntryLister W) (steps : List DumpStep) (s : DumpStep)
      (result : Result (Unit {0}) TakerFault) → TookSteps sink_of first old steps → TakesStep sink_of old new s result
      → OnOk result (TookSteps sink_of first new (steps ++ s ∷ []))
  took_one first old new steps s (Ok value) took one = took_more first old new steps s value took one
  took_one first old new steps s (Err fault) took one = tt

  pub broke_one : (old new : EntryLister W) (s : DumpStep) (result : Result (Unit {0}) TakerFault)
      → TakesStep sink_of old new s result → IfErr result (BreaksStep sink_of old new s)
  broke_one old new s (Ok value) one = tt
  broke_one old new s (Err fault) one = record { faults = one.puts.faults }

  -- an attribute completes no entry
  none_complete : (told : Told) (b : Bool) (change : EntryFacts → EntryFacts)
      → (cond b (changed told change) told).whole ≡ told.whole
  none_complete told true change = refl
  none_complete told false change = refl

  pub set_taken : (old new : EntryLister W) (p : Path) (name : Name) (bytes : List ℕ)
      → new ≡ record old { last = (tell (told_from old.last) (Set p name bytes)).last }
      → TakesStep sink_of old new (Set p name bytes) (Ok tt)
  set_taken old new p name bytes is =
      subst (λ (l : EntryLister W). TakesStep sink_of old l (Set p name bytes) (Ok tt)) (sym is) (record {
        form = refl;
        top = refl;
        standing = refl;
        last = refl;
        puts = subst (λ (xs : List EntryFacts). PutsText {T = Unit {0}} (sink_of old.sink) (sink_of old.sink)
            (entries_text old.form old.top xs) (Ok tt))
            (sym (none_complete (told_from old.last) (is_last old.last p) (λ f. with_attribute f name bytes)))
            (puts_none (sink_of old.sink) tt);
      })

  -- ---- the end of a dump

  list_text_is : (form : ListForm) (top : Path) (t : Tree)
      → entries_text form top (map (λ e. facts_of e.0 e.1) t) ≡ list_text form top t
  unfolding list_text
  list_text_is form top [] = refl
  list_text_is form top (e ∷ t) =
      ap (λ (xs : List ℕ). entry_text form top (facts_of e.0 e.1) ++ xs) (list_text_is form top t)

  -- behind the dump of a tree, with the line of the last entry, what is listed of the tree is put
  pub listed : (first now : EntryLister W) (end : SinkState) (t : Tree) (value : Standing) (form : ListForm)
      (top : Path) (start : SinkState) (finished : Result Standing TakerFault) → finished ≡ Ok value
      → TookSteps sink_of first now (dump t)
      → PutsText (sink_of now.sink) end (last_text now.form now.top now.last) finished
      → value ≡ now.standing → first.form ≡ form → first.top ≡ top → first.last ≡ None
      → first.standing ≡ standing_of (node_at empty_tree top) → sink_of first.sink ≡ start
      → IsTree t → IsListed form top start end value t
  listed first now end t value form top start finished ok took put value_is form_is top_is none bare start_is
      tree = record {
        standing_is = value_is ∙ took.standing
            ∙ ap₂ (λ (q : Path) (s : Standing). standing_after q s (dump t)) top_is bare ∙ standing_told t top tree;
        written = λ seen.
            let told = fold tell (told_from first.last) (dump t) in
            let told_is : entries_of told ≡ map (λ e. facts_of e.0 e.1) t =
            ap (λ (l : Option EntryFacts). entries_of (fold tell (told_from l) (dump t))) none ∙ told_entries t tree in
            let text : List EntryFacts → List ℕ = entries_text first.form first.top in
            let old_seen : IsObservable (sink_of first.sink) =
            subst IsTrue (sym (ap (λ (s : SinkState). s.is_observable) start_is)) seen in
            let end_is : end.written ≡ (sink_of now.sink).written ++ last_text now.form now.top now.last =
            subst (λ (r : Result Standing TakerFault). OnOk r (end.written
            ≡ (sink_of now.sink).written ++ last_text now.form now.top now.last)) ok
            (put.written (subst IsTrue (sym took.observable) old_seen)) in
            end_is
            ∙ ap₂ (λ (f : ListForm) (q : Path). (sink_of now.sink).written ++ last_text f q now.last) took.form took.top
            ∙ ap₂ (λ (xs : List ℕ) (l : Option EntryFacts). xs ++ last_text first.form first.top l)
            (took.written old_seen) took.last
            ∙ ap (λ (xs : List ℕ). ((sink_of first.sink).written ++ text told.whole) ++ xs)
            (sym (last_is first.form first.top told.last))
            ∙ append_assoc (sink_of first.sink).written (text told.whole) (text (option_to_list told.last))
            ∙ ap (λ (xs : List ℕ). (sink_of first.sink).written ++ xs)
            (sym (flat_map-append (entry_text first.form first.top) told.whole (option_to_list told.last))
            ∙ ap text told_is ∙ list_text_is first.form first.top t)
            ∙ ap₂ (λ (f : ListForm) (q : Path). (sink_of first.sink).written ++ list_text f q t) form_is top_is
            ∙ ap (λ (s : SinkState). s.written ++ list_text form top t) start_is;
      }
