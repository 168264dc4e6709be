use Rattle.std.proofs.Common.{◌≡◌, ℕ, List, length, sym, ap, subst, refl, ◌∙◌, arith, Some}
use Rattle.std.proofs.lemmas.Bool.{both_ways}
use Rattle.std.specs.Prelude.{IsSome, IsNone}
use Rattle.std.specs.FinMap.{find, put as put_in}
use Rattle.store_model.specs.Paths.{key, replanted, key_cmp}
use Rattle.dir_tree.proofs.NextLemmas.{of_found}
use Rattle.dir_tree.proofs.TakingLemmas.{length-without}
use Rattle.dir_tree.proofs.RefusalLemmas.{none_found}
use Rattle.dir_tree.proofs.moving.move_pair.Goals as goal

pub put-requires : goal.put-requires
put-requires g c seen =
    let old = g.P.OrderedPairs.state c.args.pairs.now in
    let before = (c.in_ok-value.ensures.call).hidden seen in
    let call = (c.in_ok-value.ensures.call).observed before in
    let few = g.met.P.OrderedPairs.few c.args.pairs.now before in
    let found : find key_cmp c.args.key.now old.pairs ≡ Some c.in-Some-2.value = sym call.found ∙ c.in-Some-2.is in
    let less = length-without c.args.key.now old.pairs (subst IsSome (sym found) refl) in
    omega (arith, ap length call.changed)

-- nothing is moved to where a key has no room
pub returns-in_default-clause-call : goal.returns-in_default-clause-call
returns-in_default-clause-call g c = record {
  faults = refl;
  observable = λ seen. seen;
  moved = λ seen place block value valid inside l key_is found fits.
      absurd (both_ways _
      ((c.replant.ensures.none place block valid inside l key_is).0
      (subst IsNone (sym (none_found c.replant.result c.in_default.not-Some)) refl)) fits);
}

pub returns-in_default-clause-follows : goal.returns-in_default-clause-follows
returns-in_default-clause-follows g c = g.met.P.OrderedPairs.follows_refl _

pub returns-in_err-value-clause-follows : goal.returns-in_err-value-clause-follows
returns-in_err-value-clause-follows g c = c.take.ensures.follows

pub returns-in_err-put-clause-follows : goal.returns-in_err-put-clause-follows
returns-in_err-put-clause-follows g c =
    g.met.P.OrderedPairs.follows_trans _ _ _ c.take.ensures.follows c.put.ensures.follows

-- the value that was taken stands under the key of the new place
pub returns-in_ok-put-clause-call : goal.returns-in_ok-put-clause-call
returns-in_ok-put-clause-call g c =
    let old = g.P.OrderedPairs.state c.args.pairs.now in
    let mid = g.P.OrderedPairs.state c.take.new.self in
    let taken = c.in_ok-value.ensures.call in
    let stored = c.in_ok-put.ensures.call in
    record {
      faults = stored.faults ∙ taken.faults;
      observable = λ seen. (stored.observed ((taken.observed seen).observable)).observable;
      moved = λ seen place block value valid inside l key_is found fits.
          let call = taken.observed seen in
          let new_key = key (replanted c.args.from.now c.args.to.now place) block in
          let there : c.in-Some.moved ≡ new_key =
          of_found (λ k. k ≡ new_key) c.replant.result c.in-Some.moved c.in-Some.is
          (c.replant.ensures.value place block valid inside l key_is) in
          let some : Some c.in-Some-2.value ≡ Some value = sym c.in-Some-2.is ∙ call.found ∙ found in
          let same : c.in-Some-2.value ≡ value = cc some in
          (stored.observed call.observable).changed
          ∙ ap (λ (k : List ℕ). put_in key_cmp k c.in-Some-2.value mid.pairs) there
          ∙ ap (λ (v : List ℕ). put_in key_cmp new_key v mid.pairs) same
          ∙ ap (put_in key_cmp new_key value) call.changed;
    }
