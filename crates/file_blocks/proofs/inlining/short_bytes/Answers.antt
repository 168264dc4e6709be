use Rattle.std.proofs.Common.{◌≡◌, take, length, min, ap, sym, ◌∙◌, arith}
use Rattle.std.proofs.lemmas.List.{take_min}
use Rattle.file_blocks.specs.UpgradeCalls.{block_bytes}
use Rattle.file_blocks.proofs.inlining.short_bytes.Goals as goal

pub returns-in-Some-clause-value : goal.returns-in-Some-clause-value
returns-in-Some-clause-value c =
    let bytes = c.as_slice-bytes.result.now in
    let count : c.min.result ≡ min 200 (length bytes) = omega (arith, c.min.ensures) in
    ap (λ n. take n bytes) count ∙ take_min 200 bytes
    ∙ ap (take 200) (c.as_slice-bytes.ensures.value ∙ sym (ap block_bytes c.in-Some.is))
