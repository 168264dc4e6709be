-- What a call answers that puts its value in a place which it was lent.
use Rattle.std.specs.Prelude.{Result, Ok, Err}

-- the value that stands there then, or the error
abbrev pub in_place : {A E : Type 0} → A → Result (Unit {0}) E → Result A E
in_place value (Ok done) = Ok value
in_place value (Err error) = Err error
