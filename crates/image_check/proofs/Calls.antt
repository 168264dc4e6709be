-- What a search for the contents of slots answers, by the calls that it makes.
use Rattle.std.proofs.Common.{◌≡◌, ℕ, ◌≤◌, List, [], map, length, Bool, true, false, Option, Some, None, MatchOption}
use Rattle.std.proofs.Common.{Ok, sym, subst, ◌∙◌, arith}
use Rattle.std.specs.Bool.{MatchBool}
use Rattle.store_model.specs.Parameters.{Parameters, IsParameters}
use Rattle.store_model.specs.Pairs.{Pair}
use Rattle.store_model.specs.Draws.{draw_of}
use Rattle.store_model.specs.Placement.{Table, pages_in}
use Rattle.store_base.specs.SlotsState.{SlotsState, IsObservable}
use Rattle.tree_pairs.specs.TreeCalls.{pairs_limit}
use Rattle.tree_pairs.specs.declared.counts.Counts.{Counts}
use Rattle.tree_pairs.specs.Fronts.{AreOfTree}
use Rattle.tree_pairs.specs.ReaderCalls.{AreCounted}
use Rattle.table_walk.specs.OrderCalls.{IsOrderedBelow, Checks}
use Rattle.table_walk.specs.IndexLookups.{ReadsOnly}
use Rattle.table_walk.specs.Walked.{MeetWalk}
use Rattle.table_walk.specs.Walks.{pair_of, WalksTable, HoldsList}
use Rattle.layout_conditions.specs.Conditions.{StandsIn, MeetConditions}
use Rattle.layout_conditions.proofs.LawLemmas.{conditions_tell}
use Rattle.image_check.specs.declared.contents.Contents.{Contents}
use Rattle.image_check.specs.Orders.{FindsOrder}
use Rattle.image_check.specs.SlotCalls.{FindsContents}
use Rattle.image_check.proofs.Found.{sound_of, order_of, met_walks, met_taken, meets as met, found_count, few_taken}
use Rattle.image_check.proofs.Searches.{reads_answered, reads_then}

module _ (p : Parameters) (valid : IsParameters p) (old mid : SlotsState) where
  -- a table by which the conditions are met has a number of pages
  not_none : (slots : List (List ℕ)) (found : Option ℕ) → Checks (draw_of p) (draw_of p).height slots found
      → found ≡ None → MeetConditions slots p → ⊥
  not_none slots found checks none meets =
      subst (λ o. MatchOption o ((table : Table) → IsOrderedBelow (draw_of p) (draw_of p).height slots table → ⊥)
      (λ used. (table : Table) × IsOrderedBelow (draw_of p) (draw_of p).height slots table
      × (used ≡ length (pages_in table)))) none checks
      meets.table (order_of p slots meets.table meets.slots_are meets.sound)

  -- the slots are no table in order
  pub nothing_in_order : (found : Option ℕ) → FindsOrder (draw_of p) (draw_of p).height old mid (Ok found)
      → found ≡ None → FindsContents p old mid (Ok None)
  nothing_in_order found finds none = record {
    reads = reads_answered old mid found None finds.reads;
    params = tt;
    found = λ observable meets. not_none old.slots found (finds.found observable) none meets;
  }

  module _ (new : SlotsState) (found : Option ℕ) (used : ℕ)
      (finds : FindsOrder (draw_of p) (draw_of p).height old mid (Ok found)) (some : found ≡ Some used) where
    -- the table that they are
    abbrev its_table : IsObservable old → (table : Table)
        × IsOrderedBelow (draw_of p) (draw_of p).height old.slots table × (used ≡ length (pages_in table))
    its_table observable =
        subst (λ o. MatchOption o ((table : Table) → IsOrderedBelow (draw_of p) (draw_of p).height old.slots table → ⊥)
        (λ n. (table : Table) × IsOrderedBelow (draw_of p) (draw_of p).height old.slots table
        × (n ≡ length (pages_in table)))) some (finds.found observable)

    module _ (Took TookNow : List Pair → Type 0) (whole : Bool)
        (walks : WalksTable (draw_of p) mid new used Took TookNow (Ok whole)) where
      reads_both : {T : Type 0} (value : T) → ReadsOnly old new (Ok value)
      reads_both value = reads_answered old new whole value
          (reads_then old mid new found (Ok whole) finds.reads walks.reads)

      abbrev walked : (observable : IsObservable old)
          → MatchBool whole (HoldsList (draw_of p) (its_table observable).0 Took TookNow)
          (MeetWalk (draw_of p) (StandsIn (its_table observable).0) → ⊥)
      walked observable =
          let table = its_table observable in
          walks.walked table.0 (finds.reads.calls.observable ∙ observable)
          (finds.reads.slots observable ∙ table.1.slots_are) (sound_of p old.slots table.0 table.1) (sym table.2)

      -- the groups of the table are not those of a layout
      pub nothing_walked : whole ≡ false → FindsContents p old new (Ok None)
      nothing_walked cut = record {
        reads = reads_both None;
        params = tt;
        found = λ observable meets.
            let table = its_table observable in
            subst (λ b. MatchBool b (HoldsList (draw_of p) table.0 Took TookNow)
            (MeetWalk (draw_of p) (StandsIn table.0) → ⊥)) cut (walked observable)
            (met_walks p valid old.slots table.0 table.1 meets);
      }

      module _ (is_whole : whole ≡ true) where
        abbrev holds : (observable : IsObservable old) → HoldsList (draw_of p) (its_table observable).0 Took TookNow
        holds observable =
            subst (λ b. MatchBool b (HoldsList (draw_of p) (its_table observable).0 Took TookNow)
            (MeetWalk (draw_of p) (StandsIn (its_table observable).0) → ⊥)) is_whole (walked observable)

        -- the pairs that were taken
        abbrev taken : IsObservable old → List Pair
        taken observable = map pair_of (holds observable).cells

        took : Took [] → (observable : IsObservable old) → TookNow (taken observable)
        took none observable = (holds observable).handed_on [] none

        few : (observable : IsObservable old) → length (taken observable) ≤ pairs_limit
        few observable =
            let table = its_table observable in
            let most = valid.slots_in_range in
            let low = few_taken p valid old.slots table.0 table.1 Took TookNow (holds observable) in
            omega arith

        -- they are no tree's
        pub nothing_counted : (found : Option Counts) → Took []
            → ((s : List Pair) → TookNow s → length s ≤ pairs_limit
            → MatchOption found (AreOfTree s p → ⊥) (AreCounted s p)) → found ≡ None → FindsContents p old new (Ok None)
        nothing_counted found none tells is = record {
          reads = reads_both None;
          params = tt;
          found = λ observable meets.
              let table = its_table observable in
              let s = taken observable in
              subst (λ o. MatchOption o (AreOfTree s p → ⊥) (AreCounted s p)) is
              (tells s (took none observable) (few observable))
              (record {
                tree = meets.tree;
                is_tree = meets.pairs_are.tree;
                bare = meets.pairs_are.bare;
                pairs_are = met_taken p valid old.slots table.0 table.1 Took TookNow (holds observable) meets;
              });
        }

        -- they are those of a tree
        pub found_all : (found : Option Counts) (contents : Contents) → Took []
            → ((s : List Pair) → TookNow s → length s ≤ pairs_limit
            → MatchOption found (AreOfTree s p → ⊥) (AreCounted s p)) → found ≡ Some contents.counts
            → contents.params ≡ p → contents.used ≡ used → FindsContents p old new (Ok (Some contents))
        found_all found contents none tells is named used_is = record {
          reads = reads_both (Some contents);
          params = named;
          found = λ observable.
              let table = its_table observable in
              let s = taken observable in
              let are = subst (λ o. MatchOption o (AreOfTree s p → ⊥) (AreCounted s p)) is
              (tells s (took none observable) (few observable)) in
              let one = met p valid old.slots table.0 table.1 Took TookNow
              (holds observable) are.tree are.is_tree are.bare are.pairs_are in
              record {
                meets = one;
                contents_are = record {
                  in_range = valid;
                  params_are = named;
                  tree = are.is_tree;
                  fits = (conditions_tell old.slots p valid one).fits;
                  used_is = used_is ∙ table.2 ∙ found_count p valid old.slots table.0 table.1 Took TookNow
                      (holds observable) are.tree are.is_tree are.bare are.pairs_are;
                  counts_are = are.counts_are;
                };
              };
        }
