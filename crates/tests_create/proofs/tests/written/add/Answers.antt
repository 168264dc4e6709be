use Rattle.std.proofs.Common.{◌≡◌, List, [], ◌∷◌, ◌++◌, true, IsTrue, Ordering, Less, Equal, Greater, refl, sym, subst}
use Rattle.std.proofs.Common.{◌∙◌, rules}
use Rattle.std.specs.List.{list_all}
use Rattle.std.specs.Ordering.{is_lt}
use Rattle.std.proofs.lemmas.Bool.{false≢true}
use Rattle.store_model.specs.Paths.{key_cmp}
use Rattle.store_model.specs.Pairs.{Pair, IsPair, IsPairs}
use Rattle.store_model.proofs.ListsLemmas.{all_append, all_weaker, all_from_test, rising_append, rising_one}
use Rattle.store_model.proofs.ListsLemmas.{rising_from_is_sorted, is_sorted_from_rising}
use Rattle.tests_create.proofs.tests.written.add.Goals as goal

less : (o : Ordering) → IsTrue (is_lt o) → o ≡ Less
less Less is = refl
less Equal is = absurd (false≢true is)
less Greater is = absurd (false≢true is)

-- one pair more, whose key stands behind the others
one_more : (pairs more : List Pair) (pair : Pair) → IsPairs pairs → IsPair pair
    → IsTrue (list_all (λ other. is_lt (key_cmp other.0 pair.0)) pairs) → more ≡ pairs ++ pair ∷ [] → IsPairs more
one_more pairs more pair before is behind more_is =
    let below = all_from_test (λ (other : Pair). is_lt (key_cmp other.0 pair.0))
    (λ (other : Pair). key_cmp other.0 pair.0 ≡ Less) (λ other lt. less (key_cmp other.0 pair.0) lt) pairs behind in
    subst IsPairs (sym more_is) (record {
      sorted = is_sorted_from_rising key_cmp (pairs ++ pair ∷ [])
          (rising_append (λ a b. key_cmp a.0 b.0) pairs (pair ∷ []) (rising_from_is_sorted key_cmp pairs before.sorted)
          (rising_one (λ a b. key_cmp a.0 b.0) pair)
          (all_weaker (λ (other : Pair). key_cmp other.0 pair.0 ≡ Less) _ (λ other lt. (lt, tt)) pairs below));
      pairs = all_append IsPair pairs (pair ∷ []) before.pairs (is, tt);
    })

pub returns : goal.returns
returns c =
    let behind : c.is_behind.result ≡ true = search rules in
    let is : IsPair (c.args.key, c.new-value.result) = record {
      key_length = c.reveal_pair.ensures.key.0;
      key_bytes = c.reveal_pair.ensures.key.1;
      value = c.reveal_pair.ensures.value;
    } in
    one_more c.args.pairs.now c.push.new.self (c.args.key, c.new-value.result) c.requires is
    (sym c.is_behind.ensures ∙ behind) c.in_ok-push.ensures.ok
