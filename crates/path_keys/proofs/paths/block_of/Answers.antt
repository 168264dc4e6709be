use Rattle.std.proofs.Common.{arith, ◌∙◌}
use Rattle.std.proofs.lemmas.Nat.{be_bytes_4}
use Rattle.path_keys.proofs.KeyBytes.{number_of_four}
use Rattle.path_keys.proofs.paths.block_of.Goals as goal

pub returns : goal.returns
returns c =
    be_bytes_4 c.args.bytes.now c.read_u32.result c.requires (λ i. omega (arith, c.type_inv.bytes i))
    (c.read_u32.ensures ∙ number_of_four c.args.bytes.now c.requires)
