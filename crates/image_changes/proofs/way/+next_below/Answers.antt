use Rattle.std.proofs.Common.{◌≡◌, length, false, refl, sym, ap, ◌∙◌, arith}
use Rattle.std.proofs.lemmas.Bool.{both_ways, not-true, not-false, false_from_ne_true}
use Rattle.store_model.specs.Paths.{is_root, same_path}
use Rattle.store_model.proofs.TreesLemmasPaths.{same_from_test, same_path-from_equal}
use Rattle.path_keys.specs.PathOrder.{paths_ties}
use Rattle.image_changes.proofs.WayLemmas.{further_up, right_below, below_not_root, parent_shorter}
use Rattle.image_changes.proofs.way.+next_below.Goals as goal
use Rattle.image_changes.proofs.way.+next_below.Goals.{in_default-via-in-Some+else-ne, in_default-via-in_default}

pub next_below-requires : goal.next_below-requires
next_below-requires t c =
    let below : is_root c.args.path.now ≡ false =
    false_from_ne_true _ (λ root. let none = c.in-Some.ensures.none.1 root in cc) in
    let shorter = parent_shorter c.args.path.now below in
    let is = ap length c.in-Some.ensures.value in
    (omega (arith, c.decreases, shorter, is), tt)

pub returns-in-Some : goal.returns-in-Some
returns-in-Some t c n rest e =
    let front = c.args.front.now in
    let up = c.in-Some.up in
    let other : up ≡ front → ⊥ = λ same. both_ways (same_path up front)
    (sym (paths_ties up front) ∙ not-true _ (sym c.ne.ensures ∙ c.if-ne.true)) (same_path-from_equal up front same) in
    let further = further_up front c.args.path.now up n rest other c.in-Some.ensures.value e in
    c.next_below.ensures n further.0 further.1

pub returns-in_default : goal.returns-in_default
returns-in_default t c n rest e =
    elim c.in_default.branch [
      | in_default-via-in-Some+else-ne w ↦
          right_below c.args.front.now c.args.path.now w.in-Some.up n rest
          (same_from_test w.in-Some.up c.args.front.now
          (sym (paths_ties w.in-Some.up c.args.front.now) ∙ not-false _ (sym w.ne.ensures ∙ w.if-ne.false)))
          w.in-Some.ensures.value e
      | in_default-via-in_default w ↦ absurd (both_ways (is_root c.args.path.now)
          (ap is_root e ∙ below_not_root c.args.front.now rest n) (w.in_default.ensures.none.0 refl))
    ]
