-- A text that is put out in parts.
use Rattle.std.proofs.Common.{◌≡◌, ℕ, ◌+◌, ◌<◌, IsTrue, List, [], ◌∷◌, ◌++◌, length, take, drop, refl, sym, ap, ◌∙◌}
use Rattle.std.proofs.Common.{subst, Result, Ok, Err, Some}
use Rattle.std.specs.List.{flat_map, slice_get}
use Rattle.std.proofs.lemmas.List.{append-nil, append_assoc, take-append-drop, take_more}
use Rattle.std.proofs.lemmas.List.Concat.{flat_map-append}
use Rattle.std.proofs.lemmas.Option.{get_or_from_slice_get}
use Rattle.store_base.specs.Counts.{raised}
use Rattle.script_lines.specs.SinkState.{SinkState, IsPut}
use Rattle.script_lines.specs.Replies.{PutsPart, FailsPart}

-- nothing is put out yet
pub PutsPart-refl : (a : SinkState) (text : List ℕ) → PutsPart a a text text
PutsPart-refl a text = record {
  part = [];
  text = refl;
  observable = refl;
  faults = refl;
  written = λ observable. sym (append-nil a.written);
}

-- a part, and then another
pub PutsPart-trans : (a b c : SinkState) (before mid after : List ℕ) → PutsPart a b before mid → PutsPart b c mid after
    → PutsPart a c before after
PutsPart-trans a b c before mid after ab bc = record {
  part = ab.part ++ bc.part;
  text = ab.text ∙ ap (λ (xs : List ℕ). ab.part ++ xs) bc.text ∙ sym (append_assoc ab.part bc.part after);
  observable = bc.observable ∙ ab.observable;
  faults = bc.faults ∙ ab.faults;
  written = λ observable.
      bc.written (subst IsTrue (sym ab.observable) observable)
      ∙ ap (λ (xs : List ℕ). xs ++ bc.part) (ab.written observable) ∙ append_assoc a.written ab.part bc.part;
}

-- more text behind
pub PutsPart-push : (a b : SinkState) (before after more whole text : List ℕ) → PutsPart a b before after
    → whole ≡ before ++ more → text ≡ after ++ more → PutsPart a b whole text
PutsPart-push a b before after more whole text ab whole_is text_is = record {
  part = ab.part;
  text = whole_is ∙ ap (λ (xs : List ℕ). xs ++ more) ab.text ∙ append_assoc ab.part after more
      ∙ ap (λ (xs : List ℕ). ab.part ++ xs) (sym text_is);
  observable = ab.observable;
  faults = ab.faults;
  written = ab.written;
}

-- a part, and then a fault
pub IsPut-fails : {T E : Type 0} (a b c : SinkState) (before mid whole more : List ℕ) (fault : E)
    → PutsPart a b before mid → FailsPart b c mid → whole ≡ before ++ more → IsPut {T = T} a c whole (Err fault)
IsPut-fails a b c before mid whole more fault ab bc whole_is = record {
  observable = bc.observable ∙ ab.observable;
  faults = bc.faults ∙ ap raised ab.faults;
  last_fault = bc.last_fault;
  observed = λ observable. record {
    appended = tt;
    cut_off =
        let cut = bc.written (subst IsTrue (sym ab.observable) observable) in
        record {
          part = ab.part ++ cut.part;
          rest = cut.rest ++ more;
          is_prefix = whole_is ∙ ap (λ (xs : List ℕ). xs ++ more)
              (ab.text ∙ ap (λ (xs : List ℕ). ab.part ++ xs) cut.is_prefix
              ∙ sym (append_assoc ab.part cut.part cut.rest)) ∙ append_assoc (ab.part ++ cut.part) cut.rest more;
          appended = cut.appended ∙ ap (λ (xs : List ℕ). xs ++ cut.part) (ab.written observable)
              ∙ append_assoc a.written ab.part cut.part;
        };
  };
}

-- a part, and then the rest
pub IsPut-last : {T E : Type 0} (a b c : SinkState) (whole text : List ℕ) (result : Result T E)
    → PutsPart a b whole text → IsPut b c text result → IsPut a c whole result
IsPut-last a b c whole text (Ok value) ab bc = record {
  observable = bc.observable ∙ ab.observable;
  faults = bc.faults ∙ ab.faults;
  last_fault = bc.last_fault;
  observed = λ observable. record {
    appended = (bc.observed (subst IsTrue (sym ab.observable) observable)).appended
        ∙ ap (λ (xs : List ℕ). xs ++ text) (ab.written observable)
        ∙ append_assoc a.written ab.part text ∙ ap (λ (xs : List ℕ). a.written ++ xs) (sym ab.text);
    cut_off = tt;
  };
}
IsPut-last a b c whole text (Err fault) ab bc =
    IsPut-fails a b c whole text whole [] fault ab (record {
      observable = bc.observable;
      faults = bc.faults;
      last_fault = bc.last_fault;
      written = λ observable. (bc.observed observable).cut_off;
    })
    (sym (append-nil whole))

-- a put of the front of a text
pub PutsPart-put : {T E : Type 0} (a b : SinkState) (text more : List ℕ) (value : T) → IsPut {E = E} a b text (Ok value)
    → PutsPart a b (text ++ more) more
PutsPart-put a b text more value put =
    record {
      part = text;
      text = refl;
      observable = put.observable;
      faults = put.faults;
      written = λ observable. (put.observed observable).appended;
    }

-- a put, and then another of more
pub IsPut-more : {T U E F : Type 0} (a b c : SinkState) (text more : List ℕ) (value : T) (result : Result U E)
    → IsPut {E = F} a b text (Ok value) → IsPut b c more result → IsPut a c (text ++ more) result
IsPut-more a b c text more value result ab bc =
    let put = PutsPart-put a b text more value ab in IsPut-last a b c (text ++ more) more result put bc

-- a put that fails, where more was to come
pub IsPut-cut : {T U E F : Type 0} (a b : SinkState) (text more : List ℕ) (fault : E) (told : F)
    → IsPut {T = T} a b text (Err fault) → IsPut {T = U} a b (text ++ more) (Err told)
IsPut-cut a b text more fault told ab =
    IsPut-fails a a b text text (text ++ more) more told (PutsPart-refl a text)
    (record {
      observable = ab.observable;
      faults = ab.faults;
      last_fault = ab.last_fault;
      written = λ observable. (ab.observed observable).cut_off;
    }) refl

module _ {X : Type 0} (text_of : X → List ℕ) where
  -- the text of one more
  pub flat_map-one_more : (xs : List X) (i : ℕ) (x : X) → i < length xs → slice_get xs i ≡ Some x
      → flat_map text_of (take (i + 1) xs) ≡ flat_map text_of (take i xs) ++ text_of x
  flat_map-one_more xs i x fits read =
      ap (flat_map text_of) (take_more xs i x fits
      ∙ ap (λ (y : X). take i xs ++ y ∷ []) (get_or_from_slice_get xs i x x read))
      ∙ flat_map-append text_of (take i xs) (x ∷ [])
      ∙ ap (λ (ys : List ℕ). flat_map text_of (take i xs) ++ ys) (append-nil (text_of x))

  -- the text of the first ones begins the text of all
  pub flat_map-front : (xs : List X) (i : ℕ) (more : List ℕ)
      → flat_map text_of xs ++ more ≡ flat_map text_of (take i xs) ++ (flat_map text_of (drop i xs) ++ more)
  flat_map-front xs i more =
      ap (λ (ys : List ℕ). ys ++ more) (ap (flat_map text_of) (sym (take-append-drop i xs))
      ∙ flat_map-append text_of (take i xs) (drop i xs))
      ∙ append_assoc (flat_map text_of (take i xs)) (flat_map text_of (drop i xs)) more
