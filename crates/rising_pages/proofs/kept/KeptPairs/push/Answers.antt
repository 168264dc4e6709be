use Rattle.std.proofs.Common.{◌<◌, map, refl, arith}
use Rattle.rising_pages.specs.Kept.{FitSlots}
use Rattle.rising_pages.proofs.OpenPages.{stands_behind}
use Rattle.rising_pages.proofs.Keeping.{few_keys, low_level, pages_before, pages_now, pair_comes, kept_more}
use Rattle.rising_pages.proofs.kept.KeptPairs.push.Goals as goal

pub add_at-requires-clause-height : goal.add_at-requires-clause-height
add_at-requires-clause-height c =
    let (d, s, comes) = c.requires in low_level d s c.args.level c.args.pair c.args.self.now comes

pub add_at-requires-clause-few : goal.add_at-requires-clause-few
add_at-requires-clause-few c =
    let (d, s, comes) = c.requires in few_keys d s c.args.level c.args.pair c.args.self.now comes

pub take-requires-clause-behind : goal.take-requires-clause-behind
take-requires-clause-behind c =
    let (d, s, comes) = c.requires in
    let y = c.args.pair in
    let kept = c.args.self.now in
    let before = pages_before d s c.args.level y kept comes in
    let fits : FitSlots d s =
    omega (arith, before, c.add_at.ensures.grows, c.pages.ensures.value, comes.kept_is.slots_are, c.if-pages-self.false)
    in
    stands_behind d 0 c.args.level s y kept.last c.with_value-cell.result
    (pair_comes d s c.args.level y kept comes c.with_value-cell.result fits c.with_value-cell.ensures.value)

pub returns-then-pages-self : goal.returns-then-pages-self
returns-then-pages-self c = λ d s comes.
    let y = c.args.pair in
    let kept = c.args.self.now in
    let level = c.args.level in
    let below = comes.law.level_in_range y.0 in
    let counted = c.add_at.ensures.counted d (map (λ pair. pair.0) s) y.0 comes.low
    (omega (arith, below, comes.level_is))
    comes.level_is comes.kept_is.counted in
    let before = pages_before d s level y kept comes in
    let now = pages_now d s level y kept comes c.add_at.new.self counted in
    let more : kept.slots < c.add_at.new.self.pages = omega (arith, c.pages.ensures.value, c.if-pages-self.true) in
    record {
      kept_is = kept_more d s level y kept comes c.add_at.new.self counted _ refl refl
          (λ fits. absurd (omega (arith, fits, now, more, comes.kept_is.slots_are)));
      grows = omega (arith, before, now, c.add_at.ensures.grows);
      closed_is = λ fits. absurd (omega (arith, fits, now, more, comes.kept_is.slots_are));
      none = λ _. refl;
    }

pub returns : goal.returns
returns c = λ d s comes.
    let y = c.args.pair in
    let kept = c.args.self.now in
    let level = c.args.level in
    let below = comes.law.level_in_range y.0 in
    let counted = c.add_at.ensures.counted d (map (λ pair. pair.0) s) y.0 comes.low
    (omega (arith, below, comes.level_is))
    comes.level_is comes.kept_is.counted in
    let before = pages_before d s level y kept comes in
    let now = pages_now d s level y kept comes c.add_at.new.self counted in
    let fits : FitSlots d s =
    omega (arith, before, c.add_at.ensures.grows, c.pages.ensures.value, comes.kept_is.slots_are, c.if-pages-self.false)
    in
    let has = c.take.ensures d s y
    (pair_comes d s level y kept comes c.with_value-cell.result fits c.with_value-cell.ensures.value) in
    record {
      kept_is = kept_more d s level y kept comes c.add_at.new.self counted _ refl refl
          (λ _. record {
            last_is = has.last_is;
            raised_are = c.in_ok-raise.ensures d s y refl comes.level_is (comes.kept_is.ends fits).raised_are;
          });
      grows = omega (arith, before, now, c.add_at.ensures.grows);
      closed_is = λ _. has.closed_is;
      none = λ more.
          absurd (omega (arith, more, now, c.pages.ensures.value, comes.kept_is.slots_are, c.if-pages-self.false));
    }
