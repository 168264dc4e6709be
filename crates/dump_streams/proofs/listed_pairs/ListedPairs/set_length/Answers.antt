use Rattle.std.proofs.Common.{[], List, ℕ, slice_set, sym, ap, ap₂, ◌∙◌}
use Rattle.std.proofs.lemmas.Option.{get_or_from_slice_get}
use Rattle.store_model.specs.Draws.{draw_of}
use Rattle.store_model.specs.Pairs.{Pair}
use Rattle.layout_scratch.specs.Levels.{levels_of}
use Rattle.dump_streams.proofs.LevelLemmas.{levels_again}
use Rattle.dump_streams.proofs.listed_pairs.ListedPairs.set_length.Goals as goal

pub invariant_of-self : goal.invariant_of-self
invariant_of-self c =
    let old = c.args.self.now in
    record {
      drawn = old.drawn
          ∙ sym (ap (levels_of (draw_of old.params)) c.set.ensures
          ∙ levels_again (draw_of old.params) old.pairs old.first c.get.result.now c.file_value.result c.get.ensures);
    }

pub returns-then-self-len-clause-pairs : goal.returns-then-self-len-clause-pairs
returns-then-self-len-clause-pairs c =
    let old = c.args.self.now in
    c.set.ensures
    ∙ ap₂ (λ (k v : List ℕ). slice_set old.pairs old.first (k, v))
    (ap (λ (pair : Pair). pair.0) (sym (get_or_from_slice_get old.pairs old.first c.get.result.now ([], [])
    c.get.ensures)))
    c.file_value.ensures
