-- What one more step of a stream makes of what the host can have of its tree.
use Rattle.std.proofs.Common.{◌≡◌, ◌⊎◌, ℕ, ◌+◌, ◌-◌, ◌^◌, ◌≤◌, Bool, true, false, if◌then◌else◌, List, [], ◌∷◌, ◌++◌}
use Rattle.std.proofs.Common.{length}
use Rattle.std.proofs.Common.{Result, Ok, Err, inl, inr, refl, sym, ap, ap₂, subst, ◌∙◌, arith, append_assoc}
use Rattle.std.proofs.lemmas.Bool.{false≢true}
use Rattle.std.proofs.lemmas.List.{append-nil, length-append}
use Rattle.store_model.specs.Trees.{Tree, IsTree, empty_tree}
use Rattle.store_model.proofs.TreesLemmasFits.{IsTree-empty}
use Rattle.dump_streams.specs.Dumps.{DumpStep, after_step, dump}
use Rattle.dump_streams.specs.Dumps.DumpStep.{Write}
use Rattle.dump_streams.specs.Draining.{IsTooLong}
use Rattle.dump_streams.specs.Streams.{Extends}
use Rattle.dump_streams.specs.declared.fault.StreamFault.{StreamFault}
use Rattle.dump_streams.specs.declared.fault.StreamFault.TheVariants as streams
use Rattle.host_builder.specs.declared.attribute.Wanted.{Wanted}
use Rattle.host_builder.specs.declared.viewed.Spot.{Spot}
use Rattle.host_builder.specs.declared.viewed.Spot.TheVariants as spots
use Rattle.host_builder.specs.declared.viewed.Turn.{Turn}
use Rattle.host_builder.specs.declared.viewed.Turn.TheVariants as turns
use Rattle.host_builder.specs.declared.viewed.HostViewStream.{HostViewStream}
use Rattle.host_builder.specs.Views.{host_view}
use Rattle.host_builder.specs.Viewed.{held_step, settles, flushed, settled, pass, given_of, spot_after, given, spot_by}
use Rattle.host_builder.specs.Viewed.{IsAtHand, IsBehind, IsGoing, IsViewing, IsWholeView, ViewBy, EndsView, ViewsOn}
use Rattle.host_builder.specs.Viewed.{TurnsView, GivesHeld, PassesOn}
use Rattle.host_builder.proofs.ViewTrees.{all_rise}
use Rattle.host_builder.proofs.ViewedSteps.{given_parts, spot_parts, total_dump}
use Rattle.host_builder.proofs.ViewedTrees.{view_is_tree, extends_to, same_tree}

-- ---- dumps

module _ (wanted : Wanted) where
  abbrev given_first : List DumpStep → List DumpStep
  given_first steps = given wanted spots.Nothing steps

  abbrev spot_first : List DumpStep → Spot
  spot_first steps = spot_by wanted spots.Nothing steps

  -- what is given of a dump, with what is held back, is that of what the host can have
  view_dump : (t : Tree) → IsTree t → given_first (dump t) ++ held_step (spot_first (dump t)) ≡ dump
      (host_view wanted t)
  view_dump t tree = total_dump wanted t (all_rise t tree) spots.Nothing

  given_one : (front : List DumpStep) (s : DumpStep)
      → given_first (front ++ s ∷ []) ≡ given_first front ++ given_of wanted (spot_first front) s
  given_one front s = given_parts wanted spots.Nothing front (s ∷ [])
      ∙ ap (λ (ss : List DumpStep). given_first front ++ ss) (append-nil (given_of wanted (spot_first front) s))

  spot_one : (front : List DumpStep) (s : DumpStep)
      → spot_first (front ++ s ∷ []) ≡ spot_after wanted (spot_first front) s
  spot_one front s = spot_parts wanted spots.Nothing front (s ∷ [])

  -- where the steps that were given are those of the whole dump
  ends_so : (t u : Tree) → IsTree t → IsTree u → dump t ≡ given_first (dump u) → held_step (spot_first (dump u)) ≡ []
      → t ≡ host_view wanted u
  ends_so t u tree tree' is none =
      same_tree t (host_view wanted u) tree (view_is_tree wanted u tree')
      (is ∙ sym (append-nil (given_first (dump u)))
      ∙ ap (λ (ss : List DumpStep). given_first (dump u) ++ ss) (sym none) ∙ view_dump u tree')

-- ---- the stream

module _ {S : Type 0} (came whole : S → Tree → Type 0) (fails : S → Tree → StreamFault → Type 0) where
  -- nothing came
  pub view_none : (stream : HostViewStream S) → stream.spot ≡ spots.Nothing → stream.is_at_hand ≡ false
      → stream.is_ended ≡ false → came stream.stream empty_tree → ViewBy came whole stream empty_tree 0
  unfolding dump
  view_none stream spot none going came_is = record {
    going = λ e. record {
      tree = empty_tree;
      is_tree = IsTree-empty;
      view_is_tree = IsTree-empty;
      came_is = came_is;
      front = [];
      many = omega arith;
      going = record {
        hand = λ at. absurd (false≢true (sym none ∙ at));
        none = λ e. record { all_is = refl; spot_is = spot; given_is = refl };
      };
    };
    ended = λ e. absurd (false≢true (sym going ∙ e));
  }

  -- the step at hand is judged: what it settles was given
  module _ (old new : HostViewStream S) (t : Tree) (count : ℕ) (u : Tree) (tree : IsTree u) (front : List DumpStep)
      (view : IsTree t) (came_is : came new.stream u) (many : count ≤ length front)
      (all_is : dump u ≡ front ++ old.step ∷ [])
      (spot_is : old.spot ≡ settled old.wanted (spot_by old.wanted spots.Nothing front) old.step)
      (given_is : dump t ≡ given old.wanted spots.Nothing front
      ++ flushed old.wanted (spot_by old.wanted spots.Nothing front) old.step)
      (wanted_is : new.wanted ≡ old.wanted) (none : new.is_at_hand ≡ false) (going : new.is_ended ≡ false)
      (behind : new.spot ≡ (pass old.wanted old.spot old.step).0) where
    abbrev w : Wanted
    w = old.wanted

    gives : Bool
    gives = (pass w (settled w (spot_first w front) old.step) old.step).1

    gives_is : (pass w old.spot old.step).1 ≡ gives
    unfolding gives
    gives_is = ap (λ (spot : Spot). (pass w spot old.step).1) spot_is

    spot_now : new.spot ≡ spot_first w (dump u)
    spot_now = behind ∙ ap (λ (spot : Spot). (pass w spot old.step).0) spot_is
        ∙ sym (ap (spot_first w) all_is ∙ spot_one w front old.step)

    given_now : (b : Bool) → gives ≡ b → given_first w (dump u) ≡ dump t ++ (if b then old.step ∷ [] else [])
    unfolding gives
    given_now b is =
        ap (given_first w) all_is ∙ given_one w front old.step
        ∙ ap (λ (b : Bool). given_first w front ++ (flushed w (spot_first w front) old.step
        ++ (if b then old.step ∷ [] else []))) is
        ∙ sym (append_assoc (given_first w front) (flushed w (spot_first w front) old.step)
        (if b then old.step ∷ [] else []))
        ∙ ap (λ (ss : List DumpStep). ss ++ (if b then old.step ∷ [] else [])) (sym given_is)

    viewing : (next : Tree) (n : ℕ) → n ≤ length (dump u) → IsTree next → dump next ≡ given_first w (dump u)
        → ViewBy came whole new next n
    viewing next n few is_tree is = record {
      going = λ e. record {
        tree = u;
        is_tree = tree;
        view_is_tree = is_tree;
        came_is = came_is;
        front = dump u;
        many = few;
        going = record {
          hand = λ at. absurd (false≢true (sym none ∙ at));
          none = λ e. record {
            all_is = refl;
            spot_is = spot_now ∙ ap (λ (w : Wanted). spot_by w spots.Nothing (dump u)) (sym wanted_is);
            given_is = is ∙ ap (λ (w : Wanted). given w spots.Nothing (dump u)) (sym wanted_is);
          };
        };
      };
      ended = λ e. absurd (false≢true (sym going ∙ e));
    }

    pub judged : (into : DumpStep) (result : Turn) → PassesOn old.step into (pass w old.spot old.step).1 result
        → TurnsView came whole fails new t count into (Ok result)
    judged into result passes =
        by_gives gives refl (subst (λ (b : Bool). PassesOn old.step into b result) gives_is passes)
      where
        longer : length (dump u) ≡ length front + 1
        longer = ap (λ (ss : List DumpStep). length ss) all_is ∙ length-append front (old.step ∷ [])

        by_gives : (b : Bool) → gives ≡ b → PassesOn old.step into b result
            → TurnsView came whole fails new t count into (Ok result)
        by_gives true is told =
            let extends = extends_to t (host_view w u) old.step (held_step (spot_first w (dump u))) view
            (view_is_tree w u tree) (sym (view_dump w u tree)
            ∙ ap (λ (ss : List DumpStep). ss ++ held_step (spot_first w (dump u))) (given_now true is)
            ∙ append_assoc (dump t) (old.step ∷ []) (held_step (spot_first w (dump u)))) in
            subst (λ (r : Turn). TurnsView came whole fails new t count into (Ok r)) (sym told.1)
            (subst (λ (s : DumpStep). ViewsOn came whole new t s) (sym told.0) (record {
              came_is = viewing (after_step t old.step) 0 (omega arith) extends.is_tree
                  (extends.dump_is ∙ sym (given_now true is));
              extends = extends;
            }))
        by_gives false is told =
            subst (λ (r : Turn). TurnsView came whole fails new t count into (Ok r)) (sym told)
            (viewing t (count + 1) (omega (arith, many, longer)) view
            (sym (given_now false is ∙ append-nil (dump t))))

  -- the other stream gives one more step, or ends, and none is at hand
  module _ (old new : HostViewStream S) (t : Tree) (count : ℕ) (is : IsViewing came old t count)
      (none : old.is_at_hand ≡ false) (wanted_is : new.wanted ≡ old.wanted) where
    abbrev v : Wanted
    v = old.wanted

    abbrev was : IsBehind old (dump is.tree) is.front t
    was = (is.going).none none

    given_was : dump t ≡ given_first v (dump is.tree)
    given_was = was.given_is ∙ ap (given_first v) (sym was.all_is)

    spot_was : old.spot ≡ spot_first v (dump is.tree)
    spot_was = was.spot_is ∙ ap (spot_first v) (sym was.all_is)

    -- it fails
    pub failed : (fault : StreamFault) → ((u : Tree) → came old.stream u → fails new.stream u fault)
        → EndsView came fails new t fault
    failed fault told = record {
      tree = is.tree;
      is_tree = is.is_tree;
      rest = held_step (spot_first v (dump is.tree));
      front = ap (λ (w : Wanted). dump (host_view w is.tree)) wanted_is ∙ sym (view_dump v is.tree is.is_tree)
          ∙ ap (λ (ss : List DumpStep). ss ++ held_step (spot_first v (dump is.tree))) (sym given_was);
      why = inl (told is.tree is.came_is);
    }

    -- it ends
    pub ended : (ends : (u : Tree) → came old.stream u → whole new.stream u) (over : new.is_ended ≡ true)
        (into : DumpStep) (result : Turn) → GivesHeld old.spot into turns.End result
        → TurnsView came whole fails new t count into (Ok result)
    ended ends over into result told =
        by_spot old.spot spot_was told
      where
        last : (next : Tree) → IsTree next → next ≡ host_view v is.tree → IsWholeView whole new next
        last next is_tree same = record {
          tree = is.tree;
          is_tree = is.is_tree;
          whole_is = ends is.tree is.came_is;
          view_is = same ∙ ap (λ (w : Wanted). host_view w is.tree) (sym wanted_is);
        }

        none_held : held_step (spot_first v (dump is.tree)) ≡ [] → IsWholeView whole new t
        none_held held = last t is.view_is_tree
            (ends_so v t is.tree is.view_is_tree is.is_tree given_was held)

        by_spot : (spot : Spot) → spot ≡ spot_first v (dump is.tree) → GivesHeld spot into turns.End result
            → TurnsView came whole fails new t count into (Ok result)
        by_spot spots.Nothing here told =
            subst (λ (r : Turn). TurnsView came whole fails new t count into (Ok r)) (sym told)
            (none_held (ap held_step (sym here)))
        by_spot spots.Folder here told =
            subst (λ (r : Turn). TurnsView came whole fails new t count into (Ok r)) (sym told)
            (none_held (ap held_step (sym here)))
        by_spot (spots.File e) here told =
            subst (λ (r : Turn). TurnsView came whole fails new t count into (Ok r)) (sym told)
            (none_held (ap held_step (sym here)))
        by_spot (spots.Held path) here told =
            let all : dump (host_view v is.tree) ≡ dump t ++ Write path 0 [] ∷ [] =
            sym (view_dump v is.tree is.is_tree)
            ∙ ap₂ (λ (a b : List DumpStep). a ++ b) (sym given_was) (ap held_step (sym here)) in
            let extends = extends_to t (host_view v is.tree) (Write path 0 []) [] is.view_is_tree
            (view_is_tree v is.tree is.is_tree) all in
            let same = same_tree (after_step t (Write path 0 [])) (host_view v is.tree) extends.is_tree
            (view_is_tree v is.tree is.is_tree) (extends.dump_is ∙ sym all) in
            subst (λ (r : Turn). TurnsView came whole fails new t count into (Ok r)) (sym told.1)
            (subst (λ (s : DumpStep). ViewsOn came whole new t s) (sym told.0) (record {
              came_is = record {
                going = λ e. absurd (false≢true (sym e ∙ over));
                ended = λ e. (last (after_step t (Write path 0 [])) extends.is_tree same, refl);
              };
              extends = extends;
            }))

    -- a step comes
    module _ (goes : (u : Tree) → came old.stream u → came new.stream (after_step u new.step))
        (extends : (u : Tree) → came old.stream u → Extends u new.step) (going : new.is_ended ≡ false) where
      abbrev next : Tree
      next = after_step is.tree new.step

      grown : dump next ≡ dump is.tree ++ new.step ∷ []
      grown = (extends is.tree is.came_is).dump_is

      longer : count ≤ length (dump is.tree)
      longer = let same = ap (λ (ss : List DumpStep). length ss) was.all_is in omega (arith, is.many, same)

      -- that tells that what is held back is no link
      pub settles_held : settles v old.spot new.step ≡ true → new.is_at_hand ≡ true → new.spot ≡ spots.File true
          → (into : DumpStep) (result : Turn) → GivesHeld old.spot into turns.More result
          → TurnsView came whole fails new t count into (Ok result)
      settles_held tells at spot into result told = by_spot old.spot spot_was tells told
        where
          by_spot : (s : Spot) → s ≡ spot_first v (dump is.tree) → settles v s new.step ≡ true
              → GivesHeld s into turns.More result → TurnsView came whole fails new t count into (Ok result)
          by_spot spots.Nothing here tells told = absurd (false≢true tells)
          by_spot spots.Folder here tells told = absurd (false≢true tells)
          by_spot (spots.File e) here tells told = absurd (false≢true tells)
          by_spot (spots.Held path) here tells told =
              let front = dump is.tree in
              let settled_is : settled v (spot_first v front) new.step ≡ spots.File true =
              ap (λ (s : Spot). settled v s new.step) (sym here)
              ∙ ap (λ (b : Bool). if b then spots.File true else spots.Held path) tells in
              let flushed_is : flushed v (spot_first v front) new.step ≡ Write path 0 [] ∷ [] =
              ap (λ (s : Spot). flushed v s new.step) (sym here)
              ∙ ap (λ (b : Bool). if b then Write path 0 [] ∷ [] else []) tells in
              let tail = (if (pass v (settled v (spot_first v front) new.step) new.step).1 then new.step ∷ [] else [])
              ++ held_step (spot_first v (dump next)) in
              let all : dump (host_view v next) ≡ dump t ++ Write path 0 [] ∷ tail =
              sym (view_dump v next (extends is.tree is.came_is).is_tree)
              ∙ ap (λ (ss : List DumpStep). ss ++ held_step (spot_first v (dump next)))
              (ap (given_first v) grown ∙ given_one v front new.step
              ∙ ap₂ (λ (a b : List DumpStep). a ++ (b ++ (if (pass v (settled v (spot_first v front) new.step)
              new.step).1 then new.step ∷ [] else []))) (sym given_was) flushed_is)
              ∙ append_assoc (dump t) _ (held_step (spot_first v (dump next))) in
              let on = extends_to t (host_view v next) (Write path 0 []) tail is.view_is_tree
              (view_is_tree v next (extends is.tree is.came_is).is_tree) all in
              subst (λ (r : Turn). TurnsView came whole fails new t count into (Ok r)) (sym told.1)
              (subst (λ (s : DumpStep). ViewsOn came whole new t s) (sym told.0) (record {
                came_is = record {
                  going = λ e. record {
                    tree = next;
                    is_tree = (extends is.tree is.came_is).is_tree;
                    view_is_tree = on.is_tree;
                    came_is = goes is.tree is.came_is;
                    front = front;
                    many = omega arith;
                    going = record {
                      hand = λ e. record {
                        all_is = grown;
                        spot_is = spot ∙ sym settled_is
                            ∙ ap (λ (w : Wanted). settled w (spot_by w spots.Nothing front) new.step) (sym wanted_is);
                        given_is = on.dump_is ∙ ap₂ (λ (a b : List DumpStep). a ++ b) given_was (sym flushed_is)
                            ∙ ap (λ (w : Wanted). given w spots.Nothing front
                            ++ flushed w (spot_by w spots.Nothing front) new.step) (sym wanted_is);
                      };
                      none = λ e. absurd (false≢true (sym e ∙ at));
                    };
                  };
                  ended = λ e. absurd (false≢true (sym going ∙ e));
                };
                extends = on;
              }))

      -- or nothing is
      pub comes : settles v old.spot new.step ≡ false → (after : HostViewStream S) → after.stream ≡ new.stream
          → after.wanted ≡ new.wanted → after.is_at_hand ≡ false → after.is_ended ≡ false
          → after.spot ≡ (pass v old.spot new.step).0 → (into : DumpStep) (result : Turn)
          → PassesOn new.step into (pass v old.spot new.step).1 result
          → TurnsView came whole fails after t count into (Ok result)
      comes tells after stream_is wanted_after none_after going_after behind into result passes =
          judged (record old { step = new.step }) after t count next (extends is.tree is.came_is).is_tree
          (dump is.tree) is.view_is_tree
          (subst (λ (s : S). came s next) (sym stream_is) (goes is.tree is.came_is)) longer grown
          (spot_was ∙ sym settled_is) (given_was ∙ sym (append-nil (given_first v (dump is.tree)))
          ∙ ap (λ (ss : List DumpStep). given_first v (dump is.tree) ++ ss) (sym flushed_is))
          (wanted_after ∙ wanted_is) none_after going_after behind into result passes
        where
          tells_here : settles v (spot_first v (dump is.tree)) new.step ≡ false
          tells_here = ap (λ (s : Spot). settles v s new.step) (sym spot_was) ∙ tells

          settled_is : settled v (spot_first v (dump is.tree)) new.step ≡ spot_first v (dump is.tree)
          settled_is =
              ap (λ (b : Bool). if b then spots.File true else spot_first v (dump is.tree)) tells_here

          flushed_is : flushed v (spot_first v (dump is.tree)) new.step ≡ []
          flushed_is = ap (λ (b : Bool). if b then held_step (spot_first v (dump is.tree)) else []) tells_here

  -- too many steps
  pub long_view : (now : HostViewStream S) (t : Tree) (count : ℕ) → ViewBy came whole now t count
      → 2 ^ 64 - 1 ≤ count → EndsView came fails now t streams.TooLong
  long_view now t count by many = by_end now.is_ended refl
    where
      by_end : (b : Bool) → now.is_ended ≡ b → EndsView came fails now t streams.TooLong
      by_end true over =
          let none = (by.ended over).1 in absurd (omega (arith, none, many))
      by_end false going =
          let view = by.going going in
          let by_hand : (h : Bool) → now.is_at_hand ≡ h → EndsView came fails now t streams.TooLong =
          λ h at. of_hand view h at in
          by_hand now.is_at_hand refl
        where
          of_hand : (view : IsViewing came now t count) (h : Bool) → now.is_at_hand ≡ h
              → EndsView came fails now t streams.TooLong
          of_hand view true at =
              let hand = (view.going).hand at in
              let here = flushed now.wanted (spot_first now.wanted view.front) now.step in
              let tail = if (pass now.wanted (settled now.wanted (spot_first now.wanted view.front) now.step)
              now.step).1
              then now.step ∷ [] else [] in
              let held = held_step (spot_first now.wanted (dump view.tree)) in
              record {
                tree = view.tree;
                is_tree = view.is_tree;
                rest = tail ++ held;
                front = sym (view_dump now.wanted view.tree view.is_tree)
                    ∙ ap (λ (ss : List DumpStep). ss ++ held) (ap (given_first now.wanted) hand.all_is
                    ∙ given_one now.wanted view.front now.step ∙ sym
                    (append_assoc (given_first now.wanted view.front) here tail)
                    ∙ ap (λ (ss : List DumpStep). ss ++ tail) (sym hand.given_is))
                    ∙ append_assoc (dump t) tail held;
                why = inr (record {
                  came_is = view.came_is;
                  fault_is = refl;
                  many = let longer = ap (λ (ss : List DumpStep). length ss) hand.all_is in
                      let one = length-append view.front (now.step ∷ []) in
                      omega (arith, longer, one, many, view.many);
                });
              }
          of_hand view false at =
              let none = (view.going).none at in
              let held = held_step (spot_first now.wanted (dump view.tree)) in
              record {
                tree = view.tree;
                is_tree = view.is_tree;
                rest = held;
                front = sym (view_dump now.wanted view.tree view.is_tree)
                    ∙ ap (λ (ss : List DumpStep). ss ++ held)
                    (ap (given_first now.wanted) none.all_is ∙ sym none.given_is);
                why = inr (record {
                  came_is = view.came_is;
                  fault_is = refl;
                  many = let longer = ap (λ (ss : List DumpStep). length ss) none.all_is in
                      omega (arith, longer, many, view.many);
                });
              }
