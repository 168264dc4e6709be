use Rattle.std.proofs.Common.{◌≡◌, ℕ, length, take, List, Less, Greater, sym, ap, ◌∙◌, arith}
use Rattle.std.specs.Ordering.{is_le}
use Rattle.std.proofs.lemmas.List.{take_all, length-take}
use Rattle.store_model.specs.Paths.{Path, key, key_cmp}
use Rattle.dir_tree.proofs.OrderLemmas.{reversed, below_from_not_le, same_key}
use Rattle.store_stream.proofs.KeyPlaces.{in_root, in_from, leads_from, misses_between, fewer_before}
use Rattle.store_stream.proofs.KeyPlaces.{not_in_before_front, one_up, at_top, none_is}
use Rattle.store_stream.proofs.place.place_of.Goals as goal

pub returns-then-is_root : goal.returns-then-is_root
returns-then-is_root c = in_root c.args.path.now c.args.key.now (sym c.is_root.ensures.value ∙ c.if-is_root.true)

pub returns-then-le : goal.returns-then-le
returns-then-le c =
    in_from c.args.path.now c.args.key.now
    (ap (λ (x : List ℕ). is_le (key_cmp x c.args.key.now)) (sym c.key-next.ensures.value) ∙ sym c.le.ensures
    ∙ c.if-le.true) c.requires

pub loop-parent-init : goal.loop-parent-init
loop-parent-init c =
    let path = c.args.path.now in
    let all : take (length path) path ≡ path = take_all (length path) path (omega arith) in (
      length path,
      omega arith,
      sym all,
      c.key-next.ensures.value ∙ ap (λ (q : Path). key q 0) (sym all),
      below_from_not_le c.key-next.result c.args.key.now (sym c.le.ensures ∙ c.if-le.false),
    )

pub loop-parent-smaller : goal.loop-parent-smaller
loop-parent-smaller c =
    let inv = c.loop-parent.invariant in
    let up = one_up c.args.path.now c.loop-parent.at c.in-Some.parent inv.0 c.parent.result inv.2 inv.1 c.in-Some.is
    c.parent.ensures.none.1 c.in-Some.ensures.value in
    omega (
      arith,
      ap (λ (q : Path). length q) up.2,
      ap (λ (q : Path). length q) inv.2,
      length-take up.0 c.args.path.now,
      length-take inv.0 c.args.path.now,
      up.1,
      inv.1,
    )

pub loop-parent-preserved : goal.loop-parent-preserved
loop-parent-preserved c =
    let inv = c.loop-parent.invariant in
    let up = one_up c.args.path.now c.loop-parent.at c.in-Some.parent inv.0 c.parent.result inv.2 inv.1 c.in-Some.is
    c.parent.ensures.none.1 c.in-Some.ensures.value in (
      up.0,
      omega (arith, up.1, inv.1),
      up.2,
      c.key-above.ensures.value ∙ ap (λ (q : Path). key q 0) up.2,
      reversed c.key-above.result c.args.key.now Greater (sym c.cmp.ensures.value ∙ c.in-Greater.is),
    )

pub returns-in-Less : goal.returns-in-Less
returns-in-Less c =
    let inv = c.loop-parent.invariant in
    let path = c.args.path.now in
    let k = c.args.key.now in
    let below = sym c.is_root.ensures.value ∙ c.if-is_root.false in
    let up = one_up path c.loop-parent.at c.in-Some.parent inv.0 c.parent.result inv.2 inv.1 c.in-Some.is
    c.parent.ensures.none.1 c.in-Some.ensures.value in
    let above : key_cmp (key (take up.0 path) 0) k ≡ Less =
    ap (λ (q : Path). key_cmp (key q 0) k) (sym up.2)
    ∙ ap (λ (x : List ℕ). key_cmp x k) (sym c.key-above.ensures.value) ∙ sym c.cmp.ensures.value ∙ c.in-Less.is in (
      inv.4,
      λ x l low.
          misses_between path c.is_root.ensures.valid below k inv.0 (ap (key_cmp k) (sym inv.3) ∙ inv.4)
          (λ n fewer. fewer_before path c.is_root.ensures.valid below k up.0 above n (omega (arith, fewer, up.1))) x l
          (ap (key_cmp x) (sym inv.3) ∙ low),
    )

pub returns-in-Equal : goal.returns-in-Equal
returns-in-Equal c =
    let inv = c.loop-parent.invariant in
    let path = c.args.path.now in
    let k = c.args.key.now in
    let below = sym c.is_root.ensures.value ∙ c.if-is_root.false in
    let up = one_up path c.loop-parent.at c.in-Some.parent inv.0 c.parent.result inv.2 inv.1 c.in-Some.is
    c.parent.ensures.none.1 c.in-Some.ensures.value in (
      not_in_before_front path c.is_root.ensures.valid below k inv.0 (ap (key_cmp k) (sym inv.3) ∙ inv.4),
      leads_from path up.0 k (omega (arith, up.1, inv.1))
          (sym (same_key c.key-above.result k (sym c.cmp.ensures.value ∙ c.in-Equal.is))
          ∙ c.key-above.ensures.value ∙ ap (λ (q : Path). key q 0) up.2),
    )

pub returns : goal.returns
returns c =
    let inv = c.loop-parent.invariant in
    let path = c.args.path.now in
    let k = c.args.key.now in
    let below = sym c.is_root.ensures.value ∙ c.if-is_root.false in
    let top : inv.0 ≡ 0 =
    at_top path c.loop-parent.at inv.0 inv.2 inv.1 below
    (c.parent.ensures.none.0 (none_is c.parent.result c.in_default.not-Some)) in (
      inv.4,
      λ x l low.
          misses_between path c.is_root.ensures.valid below k inv.0 (ap (key_cmp k) (sym inv.3) ∙ inv.4)
          (λ n fewer. absurd (omega (arith, fewer, top))) x l (ap (key_cmp x) (sym inv.3) ∙ low),
    )
