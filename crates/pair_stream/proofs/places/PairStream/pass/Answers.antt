use Rattle.std.proofs.Common.{◌∙◌, refl, ap, replicate, length-take-le, arith}
use Rattle.store_base.specs.declared.label.Lead.TheVariants as leads
use Rattle.pair_stream.specs.declared.places.LevelPlace.{LevelPlace}
use Rattle.pair_stream.proofs.LevelReads.{passes}
use Rattle.pair_stream.proofs.places.PairStream.pass.Goals as goal

pub returns : goal.returns
returns c =
    let at = c.from-at.result in
    let old = c.args.self.now in
    let led : LevelPlace = record { lead = leads.Key c.args.key.now; count = 1 } in
    passes old _ c.args.level c.args.key.now at c.fill.new.self _ _ c.saturating_add.result c.from-at.ensures
    (omega (arith, c.requires, c.from-at.ensures)) (omega (arith, old.in_range))
    (c.fill.ensures.after (λ y same. same) ∙ ap (λ n. replicate n led) (length-take-le at old.places (omega arith)))
    c.saturating_add.ensures refl refl refl
