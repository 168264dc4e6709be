use Rattle.std.proofs.Common.{refl, arith}
use Rattle.std.proofs.lemmas.Bool.{false≢true}
use Rattle.store_model.specs.Paths.{attribute_key}
use Rattle.tree_pairs.proofs.Readings.{between, attribute_taken}
use Rattle.tree_pairs.proofs.ReaderCallLemmas.{taken, attribute_refused}
use Rattle.tree_pairs.proofs.reader.TreeReader.add_attribute.Goals as goal

pub returns-then-not-may_be_next : goal.returns-then-not-may_be_next
returns-then-not-may_be_next c =
    attribute_refused c.args.self.now c.args.path.now c.args.name c.args.value.now c.requires.whole c.requires.attribute
    (λ may bytes short value_is. false≢true (c.if-not-may_be_next.ensures.1 may))

pub returns-in_default : goal.returns-in_default
returns-in_default c =
    attribute_refused c.args.self.now c.args.path.now c.args.name c.args.value.now c.requires.whole c.requires.attribute
    (λ may bytes short value_is. c.in_default.ensures.bytes bytes short value_is)

pub returns : goal.returns
returns c =
    taken c.args.self.now _ (attribute_key c.args.path.now c.args.name, c.args.value.now) refl
    (λ s p has.
    attribute_taken c.args.self.now s p c.args.path.now c.args.name c.args.value.now c.in-Some._bytes.now
    (between c.args.self.now s p has c.requires.whole) c.requires.attribute (c.if-not-may_be_next.ensures.0 refl)
    c.in-Some.ensures.bytes c.in-Some.ensures.fits (λ i. omega (arith, c.type_inv.value i)))
