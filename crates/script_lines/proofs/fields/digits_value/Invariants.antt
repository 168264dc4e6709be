use Rattle.std.proofs.Common.{◌≡◌, ◌+◌, ◌-◌, ◌*◌, ◌<◌, drop}
use Rattle.std.specs.List.{fold}
use Rattle.script_lines.proofs.fields.digits_value.Given as goal

-- the number so far, and the digits that are left, spell the number
abbrev pub invariant-loop-digit : goal.invariant-loop-digit
invariant-loop-digit l = (fold (λ n c. 10 * n + (c - 0x30)) l.value (drop l.digit-index l.digits)
    ≡ fold (λ n c. 10 * n + (c - 0x30)) 0 l.digits) × (l.value < 18446744073709551616)
