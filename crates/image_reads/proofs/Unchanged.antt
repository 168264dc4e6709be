-- Over a disk that tells its bytes a stream of a store ends before its dump does only where the store told a fault.
use Rattle.std.proofs.Common.{IsTrue, ◌≡◌, ◌⊎◌, ◌+◌, ◌-◌, ◌^◌, ◌<◌, ◌≤◌, List, [], ◌∷◌, ◌++◌, length}
use Rattle.std.proofs.Common.{Option, Some, None, inl, inr}
use Rattle.std.proofs.Common.{sym, ap, subst, ◌∙◌, arith, length-append}
use Rattle.std.proofs.lemmas.List.{length-map}
use Rattle.store_model.specs.Parameters.{Parameters}
use Rattle.store_model.specs.Trees.{Tree}
use Rattle.store_model.specs.Pairs.{Pair, pairs}
use Rattle.store_model.specs.Pages.{IsTreeUnder}
use Rattle.store_model.proofs.TreesLemmasFewer.{keys_of}
use Rattle.disk_model.specs.DiskState.{DiskState, IsObservable}
use Rattle.dump_streams.specs.Dumps.{DumpStep, after_step, dump}
use Rattle.dump_streams.specs.Draining.{IsTooLong}
use Rattle.dump_streams.specs.declared.fault.StreamFault.{StreamFault}
use Rattle.dump_streams.specs.declared.fault.StreamFault.TheVariants as streams
use Rattle.dump_streams.proofs.Chains.{Chain, dump_chain}
use Rattle.dump_streams.proofs.DumpFronts.{empty_under}
use Rattle.dump_streams.proofs.DumpSteps.{step_of_next}
use Rattle.dump_streams.proofs.NextTrees.{goes_on}
use Rattle.image_check.specs.declared.fault.ApplyFault.{ApplyFault}
use Rattle.store_stream.specs.declared.stream.StoreStream.{StoreStream}
use Rattle.store_stream.specs.declared.parts.PartsStream.{PartsStream}
use Rattle.store_stream.specs.StoreStreams.{CameOf, EndsBy, IsCause}
use Rattle.store_stream.specs.PartKeys.{is_part}
use Rattle.store_stream.specs.PartsStreams.{PartsOf, PartsEndBy, parts_of}
use Rattle.store_stream.proofs.PartPairs.{pairs-parts_at}
use Rattle.store_model.specs.Paths.{is_path}
use Rattle.store_model.proofs.ListsLemmas.{all_from_test}
use Rattle.store_model.proofs.ListsLemmasCuts.{length-filter-le}

-- ---- a dump has no more steps than its tree has pairs

pub chain_pairs : (cs : List DumpStep) (u t : Tree) (p : Parameters) → IsTreeUnder u p → Chain u cs t p
    → length cs + length (pairs u p) ≤ length (pairs t p)
chain_pairs [] u t p under chain = let same = ap (λ (v : Tree). length (pairs v p)) chain in omega (arith, same)
chain_pairs (c ∷ cs) u t p under chain =
    let rest = chain_pairs cs (after_step u c) t p (goes_on u c p under chain.0).under chain.1 in
    let adds = (step_of_next u c p under chain.0).adds in
    omega (
      arith,
      rest,
      adds.enough,
      ap length adds.keys_are,
      length-append (keys_of (pairs u p)) adds.more,
      length-map (pairs u p) (λ (pair : Pair). pair.0),
      length-map (pairs (after_step u c) p) (λ (pair : Pair). pair.0),
    )

-- so a front of the dump of a tree with few pairs is not too long
pub few_steps : (u t : Tree) (rest : List DumpStep) (p : Parameters) → IsTreeUnder u p → dump u ≡ dump t ++ rest
    → length (pairs u p) < 2 ^ 32 → 2 ^ 64 - 1 ≤ length (dump t) → ⊥
few_steps u t rest p under front few many =
    let all = chain_pairs (dump u) [] u p (empty_under p) (dump_chain u p under) in
    absurd (omega (arith, all, ap (λ (cs : List DumpStep). length cs) front, length-append (dump t) rest, few, many))

-- ---- the streams

IsSomeFault : Option ApplyFault → Type 0
IsSomeFault None = ⊥
IsSomeFault (Some fault) = Unit {0}

some_told : (f : Option ApplyFault) (fault : ApplyFault) → f ≡ None → f ≡ Some fault → ⊥
unfolding IsSomeFault
some_told f fault none some = subst IsSomeFault (sym some ∙ none) tt

module _ {D : Type 0} (disk_of : D → DiskState) where
  pub none_told : (stream : StoreStream D) (cause : StreamFault) → IsCause disk_of stream cause → stream.fault ≡ None
      → IsObservable (disk_of stream.store.disk) → ⊥
  none_told stream streams.NoMemory is none seen = some_told stream.fault _ none is
  none_told stream streams.Unreadable (inl is) none seen = some_told stream.fault _ none is
  none_told stream streams.Unreadable (inr is) none seen = some_told stream.fault _ none is
  none_told stream streams.NoDump is none seen = is.1 seen
  none_told stream streams.TooLong is none seen = is

  pub all_told : (stream : StoreStream D) (t : Tree) (cause : StreamFault)
      → EndsBy disk_of stream t cause ⊎ IsTooLong (CameOf disk_of) stream t cause → stream.fault ≡ None
      → IsObservable (disk_of stream.store.disk) → ⊥
  all_told stream t cause (inl ends) none seen = none_told stream cause ends.cause none seen
  all_told stream t cause (inr long) none seen =
      let taken = ((long.came_is).stands seen).taken in
      few_steps stream.store.tree t _ stream.store.params taken.under (taken.after).dump_is
      (omega (arith, (long.came_is).few)) long.many

  pub parts_told : (stream : PartsStream D) (t : Tree) (cause : StreamFault)
      → PartsEndBy disk_of stream t cause ⊎ IsTooLong (PartsOf disk_of) stream t cause → stream.stream.fault ≡ None
      → IsObservable (disk_of stream.stream.store.disk) → ⊥
  parts_told stream t cause (inl ends) none seen = none_told stream.stream cause ends.cause none seen
  parts_told stream t cause (inr long) none seen =
      let stands = (long.came_is).stands seen in
      let taken = stands.made in
      let paths = stream.parts.paths.now in
      let u = stream.stream.store.tree in
      let p = stream.stream.store.params in
      few_steps (parts_of stream) t _ p taken.under (taken.after).dump_is
      (omega (
        arith,
        (long.came_is).few,
        ap (λ (ps : List Pair). length ps)
            (pairs-parts_at paths
            (all_from_test is_path (λ q. IsTrue (is_path q)) (λ q is. is) paths stream.parts.valid)
            u p (stands.under).is_tree),
        length-filter-le (is_part paths) (pairs u p),
      ))
      long.many
