-- Opens the digits of a number, so that worked examples are proved by computing.
use Rattle.std.specs.Fmt as fmt

unfoldable pub everything : Unit {0}
unfolding fmt.digits
everything = tt
