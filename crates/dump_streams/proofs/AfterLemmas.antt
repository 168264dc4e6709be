-- One pair more of a tree, and where its pairs end.
use Rattle.std.proofs.Common.{◌≡◌, ℕ, List, [], ◌∷◌, ◌++◌, Option, Some, None, refl, sym, ap, subst, ◌∙◌}
use Rattle.std.proofs.Common.{append_assoc}
use Rattle.std.specs.List.{AllByRecursion, flat_map}
use Rattle.std.proofs.lemmas.List.{append-nil, append_cancel_left}
use Rattle.store_model.specs.Parameters.{Parameters}
use Rattle.store_model.specs.Trees.{Tree, IsTree}
use Rattle.store_model.specs.Pairs.{Pair, pairs}
use Rattle.store_model.specs.Pages.{IsTreeUnder}
use Rattle.dump_streams.specs.Dumps.{DumpStep, after_step, dump}
use Rattle.dump_streams.specs.Reading.{GoesOn, BreaksOff}
use Rattle.dump_streams.proofs.DumpFronts.{dumps_tell_trees}
use Rattle.dump_streams.specs.declared.maker.OpenFile.{OpenFile}
use Rattle.dump_streams.specs.declared.maker.StepMaker.{StepMaker}
use Rattle.dump_streams.specs.declared.taken.Taken.{Taken}
use Rattle.dump_streams.specs.declared.taken.Taken.TheVariants as takens
use Rattle.dump_streams.specs.Making.{open_pairs, open_steps, IsLeft, Makes, IsAfter, given_after}
use Rattle.dump_streams.specs.Spots.{Spot, spots, IsSpot, spot_pairs, spot_steps, first_pair, later_pairs}
use Rattle.dump_streams.proofs.FileLemmas.{no_block}
use Rattle.dump_streams.proofs.SpotLemmas.{pairs_of_spots, dump_of_spots, dump_none, valid_spots}

-- before the first pair
pub after_none : (maker : StepMaker) (u : Tree) (p : Parameters) → IsTree u → IsLeft maker [] []
    → IsAfter maker u p [] (dump [])
after_none maker u p tree none = record {
  file_pairs = [];
  file_steps = [];
  file_left = none;
  left = spots u;
  valid = valid_spots u tree;
  pairs_are = pairs_of_spots u p;
  dump_is = dump_of_spots u ∙ ap (λ (steps : List DumpStep). steps ++ flat_map spot_steps (spots u)) (sym dump_none);
}

-- a pair is taken, or it is refused, which no pair of a tree is
pub record GoesAfter (new : StepMaker) (u : Tree) (p : Parameters) (passed : List Pair) (given : List DumpStep)
    (result : Taken) : Type 0 where
  pub after : IsAfter new u p passed given
  pub taken : result ≡ takens.Refused → ⊥

-- what one more pair made
made_after : (new : StepMaker) (u : Tree) (p : Parameters) (passed : List Pair) (given : List DumpStep)
    (some : List Pair) (steps : List DumpStep) (left : List Spot) (s : DumpStep) (result : Taken)
    → AllByRecursion IsSpot left → pairs u p ≡ passed ++ (some ++ flat_map (spot_pairs p) left)
    → dump u ≡ given ++ (steps ++ flat_map spot_steps left) → Makes some steps new s result
    → GoesAfter new u p passed (given_after result given s) result
made_after new u p passed given some steps left s takens.Step valid pairs_are dump_is made = record {
  after = record {
    file_pairs = some;
    file_steps = made.rest;
    file_left = made.left;
    left = left;
    valid = valid;
    pairs_are = pairs_are;
    dump_is = dump_is ∙ ap (λ (xs : List DumpStep). given ++ (xs ++ flat_map spot_steps left)) made.steps_are
        ∙ sym (append_assoc given (s ∷ []) (made.rest ++ flat_map spot_steps left));
  };
  taken = λ e. cc;
}
made_after new u p passed given some steps left s takens.More valid pairs_are dump_is made = record {
  after = record {
    file_pairs = some;
    file_steps = steps;
    file_left = made;
    left = left;
    valid = valid;
    pairs_are = pairs_are;
    dump_is = dump_is;
  };
  taken = λ e. cc;
}
made_after new u p passed given some steps left s takens.Refused valid pairs_are dump_is made = absurd made

-- the pairs behind those that passed
behind : (passed rest more : List Pair) (pair : Pair) (all : List Pair) → all ≡ passed ++ more
    → all ≡ passed ++ pair ∷ rest → more ≡ pair ∷ rest
behind passed rest more pair all is other = append_cancel_left passed more (pair ∷ rest) (sym is ∙ other)

module _ (old new : StepMaker) (u : Tree) (p : Parameters) (passed rest : List Pair) (given : List DumpStep)
    (pair : Pair) (s : DumpStep) (result : Taken) (was : IsAfter old u p passed given)
    (all : pairs u p ≡ passed ++ pair ∷ rest) where
  one_more : pairs u p ≡ (passed ++ pair ∷ []) ++ rest
  one_more = all ∙ sym (append_assoc passed (pair ∷ []) rest)

  -- in a file
  pub after_block : (file : OpenFile) → old.file ≡ Some file
      → ((k : List ℕ) (some : List Pair) (steps : List DumpStep) → IsLeft old ((k, pair.1) ∷ some) steps
      → Makes some steps new s result)
      → GoesAfter new u p (passed ++ pair ∷ []) (given_after result given s) result
  after_block file is made = by_pairs was.file_pairs was.file_left was.pairs_are
    where
      by_pairs : (xs : List Pair) → IsLeft old xs was.file_steps
          → pairs u p ≡ passed ++ (xs ++ flat_map (spot_pairs p) was.left)
          → GoesAfter new u p (passed ++ pair ∷ []) (given_after result given s) result
      by_pairs [] left pairs_are = absurd (no_block old file was.file_steps is left)
      by_pairs (x ∷ xs) left pairs_are =
          let same : x ∷ (xs ++ flat_map (spot_pairs p) was.left) ≡ pair ∷ rest =
          behind passed rest (x ∷ (xs ++ flat_map (spot_pairs p) was.left)) pair (pairs u p) pairs_are all in
          let pair_is : x ≡ pair = cc in
          let rest_is : xs ++ flat_map (spot_pairs p) was.left ≡ rest = cc in
          made_after new u p (passed ++ pair ∷ []) given xs was.file_steps was.left s result was.valid
          (one_more ∙ ap (λ (ys : List Pair). (passed ++ pair ∷ []) ++ ys) (sym rest_is)) was.dump_is
          (made pair.0 xs was.file_steps
          (subst (λ (y : Pair). IsLeft old (y ∷ xs) was.file_steps) pair_is left))

  -- between two places
  pub after_first : old.file ≡ None
      → ((spot : Spot) → IsSpot spot → pair ≡ first_pair p spot
      → Makes (later_pairs p spot) (spot_steps spot) new s result)
      → GoesAfter new u p (passed ++ pair ∷ []) (given_after result given s) result
  after_first none made = by_left was.left was.valid
      (was.pairs_are ∙ ap (λ (xs : List Pair). passed ++ (xs ++ flat_map (spot_pairs p) was.left)) no_pairs)
      (was.dump_is ∙ ap (λ (xs : List DumpStep). given ++ (xs ++ flat_map spot_steps was.left)) no_steps)
    where
      left : IsLeft old was.file_pairs was.file_steps
      left = was.file_left

      no_pairs : was.file_pairs ≡ []
      no_pairs = left.pairs_are ∙ ap (λ (o : Option OpenFile). open_pairs o old.piece.items left.content) none

      no_steps : was.file_steps ≡ []
      no_steps = left.steps_are ∙ ap (λ (o : Option OpenFile). open_steps o (old.piece.items ++ left.content)) none

      by_left : (left : List Spot) → AllByRecursion IsSpot left
          → pairs u p ≡ passed ++ flat_map (spot_pairs p) left → dump u ≡ given ++ flat_map spot_steps left
          → GoesAfter new u p (passed ++ pair ∷ []) (given_after result given s) result
      by_left [] valid pairs_are dump_is =
          let same : [] ≡ pair ∷ rest = behind passed rest [] pair (pairs u p) pairs_are all in absurd (cc)
      by_left (spot ∷ left) valid pairs_are dump_is =
          let same : first_pair p spot ∷ (later_pairs p spot ++ flat_map (spot_pairs p) left) ≡ pair ∷ rest =
          behind passed rest (flat_map (spot_pairs p) (spot ∷ left)) pair (pairs u p) pairs_are all in
          let pair_is : pair ≡ first_pair p spot = cc in
          let rest_is : later_pairs p spot ++ flat_map (spot_pairs p) left ≡ rest = cc in
          made_after new u p (passed ++ pair ∷ []) given (later_pairs p spot) (spot_steps spot) left s result
          valid.1 (one_more ∙ ap (λ (ys : List Pair). (passed ++ pair ∷ []) ++ ys) (sym rest_is)) dump_is
          (made spot valid.0 pair_is)

-- ---- the end

nothing_behind : {A : Type 0} (xs ys : List A) → xs ≡ xs ++ ys → ys ≡ []
nothing_behind xs ys e = append_cancel_left xs ys [] (sym e ∙ sym (append-nil xs))

-- where all pairs came, no file is open, and all steps were given
pub record IsEnded (maker : StepMaker) (u : Tree) (given : List DumpStep) : Type 0 where
  pub none : maker.file ≡ None
  pub all : dump u ≡ given

pub ended : (maker : StepMaker) (u : Tree) (p : Parameters) (given : List DumpStep)
    → IsAfter maker u p (pairs u p) given → IsEnded maker u given
ended maker u p given was = by_pairs was.file_pairs was.left was.file_left was.dump_is
    (nothing_behind (pairs u p) (was.file_pairs ++ flat_map (spot_pairs p) was.left) was.pairs_are)
  where
    by_file : (o : Option OpenFile) → maker.file ≡ o → (left : IsLeft maker [] was.file_steps)
        → dump u ≡ given ++ (was.file_steps ++ []) → IsEnded maker u given
    by_file None is left dump_is = record {
      none = is;
      all = dump_is ∙ ap (λ (xs : List DumpStep). given ++ (xs ++ []))
          (left.steps_are ∙ ap (λ (o : Option OpenFile). open_steps o (maker.piece.items ++ left.content)) is)
          ∙ append-nil given;
    }
    by_file (Some file) is left dump_is = absurd (no_block maker file was.file_steps is left)

    by_pairs : (xs : List Pair) (left : List Spot) → IsLeft maker xs was.file_steps
        → dump u ≡ given ++ (was.file_steps ++ flat_map spot_steps left)
        → xs ++ flat_map (spot_pairs p) left ≡ [] → IsEnded maker u given
    by_pairs [] [] file_left dump_is none = by_file maker.file refl file_left dump_is
    by_pairs [] (spot ∷ left) file_left dump_is none = absurd (cc)
    by_pairs (x ∷ xs) left file_left dump_is none = absurd (cc)

-- ---- the dump that is given

-- a step of a tree's dump breaks off no dump
pub breaks_none : (maker : StepMaker) (u t : Tree) (p : Parameters) (passed : List Pair) (s : DumpStep)
    → IsTreeUnder u p → IsAfter maker u p passed (dump t ++ s ∷ []) → BreaksOff t s p → ⊥
breaks_none maker u t p passed s under was breaks =
    let more = was.file_steps ++ flat_map spot_steps was.left in
    breaks u more under (was.dump_is ∙ append_assoc (dump t) (s ∷ []) more)

pub after_goes_on : (maker : StepMaker) (u t : Tree) (p : Parameters) (passed : List Pair) (s : DumpStep)
    → IsAfter maker u p passed (dump t ++ s ∷ []) → GoesOn t s p → IsAfter maker u p passed (dump (after_step t s))
after_goes_on maker u t p passed s was goes =
    subst (λ (steps : List DumpStep). IsAfter maker u p passed steps) (sym goes.dump_is) was

pub tree_told : (maker : StepMaker) (u t : Tree) (p : Parameters) → IsTreeUnder u p → IsTreeUnder t p
    → IsAfter maker u p (pairs u p) (dump t) → t ≡ u
tree_told maker u t p under_u under_t was =
    dumps_tell_trees t u p under_t under_u (sym (ended maker u p (dump t) was).all)
