use Rattle.std.proofs.Common.{◌≡◌, ◌+◌, ◌<◌, true, sym, ap, ◌∙◌, refl, arith}
use Rattle.std.specs.declared.cmp.Ordering.{Ordering}
use Rattle.std.specs.declared.cmp.Ordering.TheVariants.{Less, Equal, Greater}
use Rattle.std.specs.Ordering.{is_lt}
use Rattle.std.proofs.lemmas.Bool.{false≢true}
use Rattle.store_model.specs.Labels.{label_cmp}
use Rattle.table_walk.proofs.Barring.{ReadsLabel, barring_moves, barring_stays, bar_free, bar_greatest}
use Rattle.table_walk.proofs.bar.find_bar.Goals as goal
use Rattle.table_walk.proofs.bar.find_bar.Goals.{then-at-eq0, then-at-eq0-via-then-at-eq0}
use Rattle.table_walk.proofs.bar.find_bar.Goals.{then-at-eq0-via-else-at-eq0+then-lt, else-at-eq0+else-lt}

is_less : (o : Ordering) → is_lt o ≡ true → o ≡ Less
is_less Less e = refl
is_less Equal e = cc
is_less Greater e = cc

pub returns-in_default-clause-call : goal.returns-in_default-clause-call
returns-in_default-clause-call g c =
    let reads : ReadsLabel c.get.new.into c.label_in.result = record {
      free = c.label_in.ensures.free;
      page = c.label_in.ensures.page;
    } in
    bar_free _ _ _ c.loop-at.at _ _ _ _ _ c.get.new.into c.label_in.result c.loop-at.invariant.0
    (omega (arith, c.loop-at-test.true, c.requires.count)) c.in_ok-get.ensures.call reads
    c.in_default.is c.loop-at.invariant.2 c.tick.ensures

pub loop-at-preserved : goal.loop-at-preserved
loop-at-preserved g c =
    let reads : ReadsLabel c.get.new.into c.label_in.result = record {
      free = c.label_in.ensures.free;
      page = c.label_in.ensures.page;
    } in
    let below : c.loop-at.at < (g.S.ReadSlots.state c.args.slots.now).count =
    omega (arith, c.loop-at-test.true, c.requires.count) in
    let moves = λ (greater : 0 < c.loop-at.at → label_cmp c.loop-at.greatest c.in-Some.label ≡ Less).
    barring_moves _ _ _ c.loop-at.at _ _ c.get.new.into c.label_in.result c.in-Some.label c.loop-at.invariant.0
    below c.in_ok-get.ensures.call reads c.in-Some.is greater in
    let follows = g.met.S.ReadSlots.follows_trans c.args.slots.now c.loop-at.slots c.get.new.self c.loop-at.invariant.1
    c.in_ok-get.ensures.follows in
    let counted : c.tick.new.self ≡ c.args.steps.now + (c.loop-at.at + 1) =
    omega (arith, c.loop-at.invariant.2, c.tick.ensures) in
    elim c.if-at-eq0.branch [
      | then-at-eq0 w ↦ rw (w.bar-is, w.greatest-is) (
        elim w.then-at-eq0.branch [
          | then-at-eq0-via-then-at-eq0 w' ↦ moves (λ positive. absurd (omega (arith, positive, w'.if-at-eq0.true)))
          | then-at-eq0-via-else-at-eq0+then-lt w' ↦ moves (λ positive. is_less _ (sym w'.lt.ensures ∙ w'.if-lt.true))
        ],
        follows,
        counted,
      )
      | else-at-eq0+else-lt w ↦ rw (w.bar-is, w.greatest-is) (
        barring_stays _ _ _ c.loop-at.at _ _ c.get.new.into c.label_in.result c.in-Some.label c.loop-at.invariant.0
            below c.in_ok-get.ensures.call reads c.in-Some.is (omega (arith, w.if-at-eq0.false))
            (λ less. false≢true (sym w.if-lt.false ∙ w.lt.ensures ∙ ap is_lt less)),
        follows,
        counted,
      )
    ]

pub returns-clause-call : goal.returns-clause-call
returns-clause-call g c =
    bar_greatest _ _ c.loop-at.at _ _ _ _ c.loop-at.invariant.0 (omega (arith, c.requires.some, c.requires.count))
    (omega (arith, c.loop-at-test.false, c.loop-at.auto.at-end, c.requires.count)) c.loop-at.invariant.2
