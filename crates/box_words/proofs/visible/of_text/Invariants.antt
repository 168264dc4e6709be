use Rattle.std.proofs.Common.{◌≡◌, ◌++◌, IsUtf8, string_bytes}
use Rattle.std.specs.Str.Iter.{chars_rest}
use Rattle.box_words.specs.Shown.{visible_text}
use Rattle.box_words.proofs.visible.of_text.Given as goal

abbrev pub invariant-loop-c : goal.invariant-loop-c
invariant-loop-c l = IsUtf8 (chars_rest l.c-iterator)
    × (string_bytes l.shown ++ visible_text (chars_rest l.c-iterator) ≡ visible_text l.fn.text)
