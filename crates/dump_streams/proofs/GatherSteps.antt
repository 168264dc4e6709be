-- A put that fails before it puts any of its bytes, and what a sink that gathers has put.
use Rattle.std.proofs.Common.{◌≡◌, ◌<◌, ℕ, Bool, true, false, List, [], ◌∷◌, ◌++◌, Result, Ok, Err, is_err, refl, sym}
use Rattle.std.proofs.Common.{ap, ◌∙◌, arith}
use Rattle.std.proofs.lemmas.Bool.{false≢true}
use Rattle.std.proofs.lemmas.List.{append-nil, append_assoc}
use Rattle.script_lines.specs.SinkState.{SinkState, IsObservable, IsPut}
use Rattle.dump_streams.specs.Gathered.{StandsAt, IsFrontOf, CameFrom, GrewFrom}

first_nil : (xs ys : List ℕ) → [] ≡ xs ++ ys → xs ≡ []
first_nil [] ys e = refl
first_nil (x ∷ xs) ys e = absurd (cc)

-- a put of no byte that fails is one of any bytes
pub put_none_fails : {T E : Type 0} (a b : SinkState) (bytes : List ℕ) (fault : E) → IsPut {T = T} a b [] (Err fault)
    → IsPut {T = T} a b bytes (Err fault)
put_none_fails a b bytes fault put = record {
  observable = put.observable;
  faults = put.faults;
  last_fault = put.last_fault;
  observed = λ told.
      let cut = (put.observed told).cut_off in
      record {
        appended = tt;
        cut_off = record {
          part = [];
          rest = bytes;
          is_prefix = refl;
          appended = cut.appended ∙ ap (λ xs. a.written ++ xs) (first_nil cut.part cut.rest cut.is_prefix);
        };
      };
}

-- what came to the sink is the front of what was to come there
pub front_put : {W : Type 0} (sink_of : W → SinkState) (sink before : W) (held : List ℕ) (is_broken : Bool)
    → StandsAt sink_of sink held is_broken before → IsObservable (sink_of sink)
    → IsFrontOf (sink_of sink).written ((sink_of before).written ++ held)
front_put sink_of sink before held is_broken stands told =
    let cut = stands.cut_off (sym stands.observable ∙ told) in
    record {
      rest = cut.rest;
      all_is = ap (λ xs. (sink_of before).written ++ xs) cut.is_prefix
          ∙ sym (append_assoc (sink_of before).written cut.part cut.rest)
          ∙ ap (λ xs. xs ++ cut.rest) (sym cut.appended);
    }

-- ---- since it was made

module _ {W : Type 0} (sink_of : W → SinkState) where
  longer : (first before new : W) (part : List ℕ) → IsFrontOf (sink_of first).written (sink_of before).written
      → (sink_of new).written ≡ (sink_of before).written ++ part
      → IsFrontOf (sink_of first).written (sink_of new).written
  longer first before new part front more = record {
    rest = front.rest ++ part;
    all_is = more ∙ ap (λ xs. xs ++ part) front.all_is ∙ append_assoc (sink_of first).written front.rest part;
  }

  -- all that was held is put
  pub came_flushed : {T E : Type 0} (first before sink new : W) (held bytes : List ℕ) (is_broken : Bool) (faults : ℕ)
      (put : Result T E) → StandsAt sink_of sink held is_broken before
      → CameFrom sink_of first before sink is_broken faults → is_broken ≡ false
      → IsPut (sink_of sink) (sink_of new) bytes put → is_err put ≡ false
      → CameFrom sink_of first new new is_broken faults
  came_flushed first before sink new held bytes is_broken faults (Ok value) stands came is put e = record {
    observable = put.observable ∙ stands.observable ∙ came.observable;
    grew = λ o. longer first before new bytes (came.grew o)
        ((put.observed (stands.observable ∙ came.observable ∙ o)).appended
        ∙ ap (λ (s : W). (sink_of s).written ++ bytes) (stands.whole is));
    going = λ going. ((came.going is).0, put.faults ∙ (came.going is).1);
    broken = λ broken. absurd (false≢true (sym is ∙ broken));
  }
  came_flushed first before sink new held bytes is_broken faults (Err error) stands came is put e = absurd (cc)

  pub stands_there : (sink : W) (held : List ℕ) (is_broken : Bool) → StandsAt sink_of sink held is_broken sink
  stands_there sink held is_broken = record {
    whole = λ e. refl;
    observable = refl;
    cut_off = λ o. record {
      part = [];
      rest = held;
      is_prefix = refl;
      appended = sym (append-nil (sink_of sink).written);
    };
  }

  pub grew_from : (first before sink : W) (held : List ℕ) (is_broken : Bool) (faults : ℕ)
      → StandsAt sink_of sink held is_broken before → CameFrom sink_of first before sink is_broken faults
      → GrewFrom sink_of first sink faults
  grew_from first before sink held false faults stands came = record {
    observable = stands.observable ∙ came.observable;
    grew = λ o. let cut = stands.cut_off (came.observable ∙ o)
        in longer first before sink cut.part (came.grew o) cut.appended;
    whole = λ e. (came.going refl).1;
    failed = λ some. absurd (omega (arith, some, (came.going refl).0));
  }
  grew_from first before sink held true faults stands came = record {
    observable = stands.observable ∙ came.observable;
    grew = λ o. let cut = stands.cut_off (came.observable ∙ o)
        in longer first before sink cut.part (came.grew o) cut.appended;
    whole = λ e. absurd (omega (arith, e, (came.broken refl).0));
    failed = λ some. (came.broken refl).1;
  }
