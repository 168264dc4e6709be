-- What a loop over the lines of a script ends by, and what a fault in it says of the source.
use Rattle.std.proofs.Common.{◌≡◌, ℕ, ◌<◌, arith, refl, Result, Ok, Err, OnErr}
use Rattle.store_base.specs.Counts.{Rose, faults_after}
use Rattle.script_lines.specs.LineState.{LineState, source_faults_after, unread, Falls}
use Rattle.script_lines.specs.declared.lines.Line.{Line}
use Rattle.script_lines.specs.declared.lines.Line.TheVariants as answers
use Rattle.script_lines.specs.declared.lines.LineFault.{LineFault}
use Rattle.script_lines.specs.declared.lines.LineFault.TheVariants as causes

-- each line that is answered leaves less to come
pub falls_at_line : {R : Type 0} (a b : LineState R) (line : Line) → Falls a b line
    → (line ≡ answers.End → ⊥) → unread b < unread a
falls_at_line a b answers.Text falls some = falls
falls_at_line a b answers.Long falls some = falls
falls_at_line a b answers.End falls some = absurd (some refl)

-- a fault that is counted has raised the count
pub fault_rose : {T E : Type 0} (old new : ℕ) (result : Result T E) → new ≡ faults_after old result
    → OnErr result (Rose old new)
fault_rose old new (Ok value) count = tt
fault_rose old new (Err fault) count = omega (arith, count)

pub source_fault_rose : {T : Type 0} (old new : ℕ) (result : Result T LineFault) → new ≡ source_faults_after old result
    → result ≡ Err causes.Source → Rose old new
source_fault_rose old new (Ok value) count fault = cc
source_fault_rose old new (Err causes.Source) count fault = omega (arith, count)
source_fault_rose old new (Err causes.TooLong) count fault = cc
