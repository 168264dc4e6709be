use Rattle.std.proofs.Common.{◌≡◌, ◌*◌, drop}
use Rattle.store_model.specs.Paths.{key_cmp}
use Rattle.store_base.proofs.order.byte_order.Given as goal

-- what lies behind two fronts that are equal decides
abbrev pub invariant-loop-word : goal.invariant-loop-word
invariant-loop-word l = key_cmp l.bytes l.other ≡ key_cmp (drop (8 * l.word) l.bytes) (drop (8 * l.word) l.other)

abbrev pub invariant-loop-at : goal.invariant-loop-at
invariant-loop-at l = key_cmp l.bytes l.other ≡ key_cmp (drop l.at l.bytes) (drop l.at l.other)
