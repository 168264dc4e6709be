use Rattle.std.proofs.Common.{map, refl, sym, ◌∙◌, arith}
use Rattle.rising_pages.specs.Kept.{FitSlots}
use Rattle.rising_pages.proofs.OpenPages.{stands_behind}
use Rattle.rising_pages.proofs.Keeping.{few_keys, pages_before, pages_now, pair_comes, kept_more}
use Rattle.rising_pages.proofs.Keeping.{raised_absent}
use Rattle.rising_pages.proofs.kept.KeptPairs.join.Goals as goal

pub add_at-requires-clause-few : goal.add_at-requires-clause-few
add_at-requires-clause-few c =
    let (d, s, comes) = c.requires.comes in few_keys d s c.args.level c.args.pair c.args.self.now comes

pub add-requires-clause-behind : goal.add-requires-clause-behind
add-requires-clause-behind c =
    let (d, s, comes) = c.requires.comes in
    let y = c.args.pair in
    let kept = c.args.self.now in
    let before = pages_before d s c.args.level y kept comes in
    let fits : FitSlots d s = omega (arith, before, c.requires.joins.fits, comes.kept_is.slots_are) in
    stands_behind d 0 c.args.level s y kept.last c.with_value.result
    (pair_comes d s c.args.level y kept comes c.with_value.result fits c.with_value.ensures.value)

pub returns : goal.returns
returns c = λ d s comes.
    let y = c.args.pair in
    let kept = c.args.self.now in
    let level = c.args.level in
    let below = comes.law.level_in_range y.0 in
    let level_is = sym c.requires.joins.low ∙ comes.level_is in
    let counted = c.add_at.ensures.counted d (map (λ pair. pair.0) s) y.0 comes.low
    (omega (arith, below, level_is))
    level_is comes.kept_is.counted in
    let before = pages_before d s level y kept comes in
    let now = pages_now d s level y kept comes c.add_at.new.self counted in
    let fits : FitSlots d s = omega (arith, before, c.requires.joins.fits, comes.kept_is.slots_are) in
    let has = c.add.ensures d s y
    (pair_comes d s level y kept comes c.with_value.result fits c.with_value.ensures.value) in
    record {
      kept_is = kept_more d s level y kept comes c.add_at.new.self counted _ refl refl
          (λ _. record {
            last_is = has.last_is;
            raised_are = (comes.kept_is.ends fits).raised_are
                ∙ raised_absent d s y level comes.level_is (omega (arith, c.requires.joins.low));
          });
      grows = omega (arith, before, now, c.add_at.ensures.grows);
      closed_is = λ _. has.closed_is;
      none = λ _. refl;
    }
