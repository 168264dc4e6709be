use Rattle.std.proofs.Common.{◌≤◌, ◌∙◌, arith}
use Rattle.store_model.specs.Trees.{file_limit}
use Rattle.tree_pairs.specs.declared.kind.Kind.TheVariants as kinds
use Rattle.file_blocks.proofs.inlining.is_short_in_blocks.Goals as goal

-- a first value of a short file in blocks is no directory's
pub returns-in_default-2 : goal.returns-in_default-2
returns-in_default-2 c = (
  (λ no. cc),
  λ short.
      let fits : short.0 ≤ file_limit = let few = short.1 in omega arith in
      let is = c.kind_under.ensures.only (kinds.File short.0) fits (c.as_slice.ensures.value ∙ short.2) in
      let other = c.in_default.is in
      cc,
)
