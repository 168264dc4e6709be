-- Texts that are put out one behind the other.
use Rattle.std.proofs.Common.{◌≡◌, ℕ, IsTrue, List, [], ◌++◌, refl, sym, ap, ◌∙◌, subst, Result, Ok, Err}
use Rattle.std.proofs.lemmas.List.{append-nil, append_assoc}
use Rattle.store_base.specs.Counts.{faults_after}
use Rattle.script_lines.specs.SinkState.{SinkState, IsPut, Puts}

-- one put
pub Puts-one : {T E : Type 0} (old new : SinkState) (text : List ℕ) (result : Result T E) → IsPut old new text result
    → Puts old new text result
Puts-one old new text result put = record { observable = put.observable; faults = put.faults; observed = put.observed }

-- no put
pub Puts-none : {T E : Type 0} (a : SinkState) (value : T) → Puts {E = E} a a [] (Ok value)
Puts-none a value = record {
  observable = refl;
  faults = refl;
  observed = λ observable. record { appended = sym (append-nil a.written); cut_off = tt };
}

-- a text, and then another
pub Puts-then : {T U E F : Type 0} (a b c : SinkState) (text more : List ℕ) (value : U) (result : Result T E)
    → Puts {E = F} a b text (Ok value) → Puts b c more result → Puts a c (text ++ more) result
Puts-then a b c text more value (Ok end) ab bc = record {
  observable = bc.observable ∙ ab.observable;
  faults = bc.faults ∙ ab.faults;
  observed = λ observable. record {
    appended = (bc.observed (subst IsTrue (sym ab.observable) observable)).appended
        ∙ ap (λ (xs : List ℕ). xs ++ more) (ab.observed observable).appended ∙ append_assoc a.written text more;
    cut_off = tt;
  };
}
Puts-then a b c text more value (Err fault) ab bc = record {
  observable = bc.observable ∙ ab.observable;
  faults = bc.faults ∙ ap (λ (n : ℕ). faults_after {T = Unit {0}} n (Err fault)) ab.faults;
  observed = λ observable. record {
    appended = tt;
    cut_off =
        let cut = (bc.observed (subst IsTrue (sym ab.observable) observable)).cut_off in
        record {
          part = text ++ cut.part;
          rest = cut.rest;
          is_prefix = ap (λ (xs : List ℕ). text ++ xs) cut.is_prefix ∙ sym (append_assoc text cut.part cut.rest);
          appended = cut.appended ∙ ap (λ (xs : List ℕ). xs ++ cut.part) (ab.observed observable).appended
              ∙ append_assoc a.written text cut.part;
        };
  };
}

-- a fault, where more was to come
pub Puts-cut : {T U E F : Type 0} (a b : SinkState) (text more : List ℕ) (fault : E) (told : F)
    → Puts {T = T} a b text (Err fault) → Puts {T = U} a b (text ++ more) (Err told)
Puts-cut a b text more fault told ab = record {
  observable = ab.observable;
  faults = ab.faults;
  observed = λ observable. record {
    appended = tt;
    cut_off =
        let cut = (ab.observed observable).cut_off in
        record {
          part = cut.part;
          rest = cut.rest ++ more;
          is_prefix = ap (λ (xs : List ℕ). xs ++ more) cut.is_prefix ∙ append_assoc cut.part cut.rest more;
          appended = cut.appended;
        };
  };
}

-- the same text
pub Puts-as : {T E : Type 0} (a b : SinkState) (text other : List ℕ) (result : Result T E) → text ≡ other
    → Puts a b text result → Puts a b other result
Puts-as a b text other result same puts = subst (λ (xs : List ℕ). Puts a b xs result) same puts
