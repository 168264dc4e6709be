use Rattle.std.proofs.Common.{◌≡◌, ◌++◌, take}
use Rattle.std.specs.List.{flat_map}
use Rattle.std.specs.String.{string_bytes}
use Rattle.box_words.specs.Shown.{hex_byte}
use Rattle.box_words.proofs.visible.push_bytes.Given as goal

abbrev pub invariant-loop-byte : goal.invariant-loop-byte
invariant-loop-byte l = string_bytes l.into ≡ string_bytes l.initial.into ++ flat_map hex_byte
    (take l.byte-index l.bytes)
