use Rattle.std.proofs.Common.{None, refl, sym, subst, arith, ◌++◌, ◌∷◌, []}
use Rattle.std.proofs.lemmas.Bool.{false≢true}
use Rattle.std.proofs.lemmas.Option.{none-some, same_Some}
use Rattle.tree_pairs.specs.declared.first.Entry.{Entry}
use Rattle.tree_pairs.specs.Seen.{MayFollow, HasSeen}
use Rattle.tree_pairs.proofs.Readings.{between, first_taken, counts_fit}
use Rattle.tree_pairs.proofs.ReaderCallLemmas.{taken, refused, first_refused}
use Rattle.tree_pairs.proofs.reader.TreeReader.add_first.Goals as goal

pub returns-in_default : goal.returns-in_default
returns-in_default c =
    first_refused c.args.self.now c.args.key.now c.args.value.now c.requires.whole c.requires.no_attribute
    (λ path kind first follows. none-some _
    (c.in_default.ensures.only path kind
    first))

pub returns-then-not-may_precede : goal.returns-then-not-may_precede
returns-then-not-may_precede c =
    let old = c.args.self.now in
    first_refused old c.args.key.now c.args.value.now c.requires.whole c.requires.no_attribute
    (λ path kind first follows.
    let same = same_Some c.in-Some.entry (record { path = path; kind = kind })
    (c.in-Some.ensures.only path kind
    first) in
    false≢true (c.if-not-may_precede.ensures.1
    (subst (λ (entry : Entry). MayFollow old.last.path old.last.kind entry.path) (sym same) follows)))

pub returns-in_default-counted : goal.returns-in_default-counted
returns-in_default-counted c =
    let old = c.args.self.now in
    refused old (c.args.key.now, c.args.value.now)
    (λ s p has few begins.
    let fit = counts_fit old s p (between old s p has c.requires.whole) few in
    false≢true (c.in_default-counted.ensures.fits fit.0 fit.1))

pub returns : goal.returns
returns c =
    let old = c.args.self.now in
    let entry = c.in-Some.entry in
    taken old _ (c.args.key.now, c.args.value.now) refl
    (λ s p has.
    subst (λ read. HasSeen (record old {
      last = entry;
      read = read;
      attribute = None;
      counts = c.in-Some-counted.counts;
    })
    (s ++ (c.args.key.now, c.args.value.now) ∷ []) p) (sym c.size_in_first.ensures)
    (first_taken old s p entry.path entry.kind c.args.key.now c.args.value.now c.in-Some-counted.counts
    (between old s p has c.requires.whole) c.in-Some.ensures.found (λ i. omega (arith, c.type_inv.value i))
    (c.if-not-may_precede.ensures.0 refl) c.in-Some-counted.ensures.more))
