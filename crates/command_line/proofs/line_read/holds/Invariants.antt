use Rattle.std.proofs.Common.{◌≡◌, Some, drop, map, take}
use Rattle.std.specs.String.{string_bytes}
use Rattle.clap.specs.Matches.{found_of}
use Rattle.clap.specs.Walk.{first_of, rows_of}
use Rattle.command_line.proofs.line_read.holds.Given as goal

-- so far each argument has the word in its place
abbrev pub invariant-loop-i : goal.invariant-loop-i
invariant-loop-i l =
    take l.i (map (λ id. first_of id (rows_of (found_of l.given))) (map (λ argument. argument.name.now) l.arguments))
    ≡ take l.i (map Some (drop 1 (map string_bytes l.words)))
