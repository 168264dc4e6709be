-- What an error of a stream or a taker makes of the answer.
use Rattle.std.proofs.Common.{◌≡◌, Bool, Result, Ok, Err, sym, subst}
use Rattle.std.specs.Prelude.{MatchResult, IsErrAnd}
use Rattle.store_model.specs.Trees.{Tree}
use Rattle.dump_streams.specs.Dumps.{DumpStep}
use Rattle.dump_streams.specs.Streams.{IsNext}
use Rattle.dump_streams.specs.declared.fault.StreamFault.{StreamFault}

pub err_told : {T E : Type 0} (result : Result T E) (fault : E) (done : T → Type 0) (stops : E → Type 0)
    → IsErrAnd result (λ e. e ≡ fault) → stops fault → MatchResult result done stops
err_told (Ok x) fault done stops told holds = absurd told
err_told (Err e) fault done stops told holds = subst stops (sym told) holds

-- a stream ends by its cause
pub next_failed : (old new done : Tree → Type 0) (failed_by : Tree → StreamFault → Type 0) (c : DumpStep)
    (result : Result Bool StreamFault) (cause : StreamFault) → IsErrAnd result (λ e. e ≡ cause)
    → ((t : Tree) → old t → failed_by t cause)
    → IsNext old new done failed_by c result
next_failed old new done failed_by c (Ok b) cause told fails = absurd told
next_failed old new done failed_by c (Err e) cause told fails = record {
  came = λ t was. tt;
  extends = λ t was. tt;
  whole = λ t was. tt;
  failed = λ t was. subst (failed_by t) (sym told) (fails t was);
}
