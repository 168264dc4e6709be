-- What a step of a stream makes of what lies below a path in its tree.
use Rattle.std.proofs.Common.{◌≡◌, true, false, cond, [], ◌∷◌, ◌++◌, map, length, drop, IsTrue}
use Rattle.std.proofs.Common.{IsNone, IfSome, Option, Some, None, MatchOption, ◌↔◌, inl, inr, refl, sym, ap, subst, ◌∙◌}
use Rattle.std.proofs.lemmas.Bool.{both_ways, and_parts, false≢true}
use Rattle.std.proofs.lemmas.List.{append-nil}
use Rattle.std.specs.List.{list_all}
use Rattle.store_model.specs.declared.draw_kind.DrawKind.TheVariants as kinds
use Rattle.store_model.specs.declared.version.Version.TheVariants.{Two}
use Rattle.store_model.specs.Parameters.{Parameters}
use Rattle.store_model.specs.Paths.{Path, is_name, is_path, is_inside, fits_field, replanted}
use Rattle.store_model.specs.Trees.{Tree, IsTree}
use Rattle.store_model.specs.Pages.{IsTreeUnder}
use Rattle.dump_streams.specs.Dumps.{DumpStep, step_path, after_step, dump}
use Rattle.dump_streams.specs.Streams.{Extends}
use Rattle.dump_streams.proofs.DumpFronts.{goes_on_with, dumps_tell_trees}
use Rattle.dump_streams.specs.declared.fault.StreamFault.{StreamFault}
use Rattle.dump_streams.specs.declared.fault.StreamFault.TheVariants as streams
use Rattle.store_stream.specs.declared.rooted.RootedStream.{RootedStream}
use Rattle.store_stream.specs.Rooted.{tree_below, rooted_step, rooted_steps, IsBelow, EndsBelow}
use Rattle.store_stream.proofs.RootedTrees.{below_path, fits-back, IsTree-below, dump-below, rooted-append}

-- ---- a path

pub rooted_so : (path top front : Path) → front ≡ [] → IsTrue (is_path path) → is_inside path top ≡ true
    → (o : Option Path) → IfSome o (λ p. p ≡ replanted top front path)
    → (IsNone o ↔ (fits_field (replanted top front path) ≡ false))
    → MatchOption o (is_inside path top ≡ false)
    (λ below. (is_inside path top ≡ true) × (below ≡ drop (length top) path))
unfolding replanted
rooted_so path top front root valid inside (Some p) some none =
    (inside, some ∙ ap (λ f. f ++ drop (length top) path) root)
rooted_so path top front root valid inside None some none =
    let below = below_path path top inside in
    let room : fits_field path ≡ true = (and_parts (list_all is_name path) (fits_field path) valid).1 in
    let back : fits_field (drop (length top) path) ≡ true =
    ap fits_field (below.1).2 ∙ fits-back top _ (ap fits_field (sym (below.1).1) ∙ room) in
    absurd (both_ways _ (ap (λ f. fits_field (f ++ drop (length top) path)) (sym root) ∙ none.0 refl) back)

-- ---- the steps

-- under these parameters any tree may stand
any_parameters : Parameters
any_parameters = record { slots = 1; height = 1; kind = kinds.Ruler; seed = []; version = Two }

under_any : (t : Tree) → IsTree t → IsTreeUnder t any_parameters
unfolding any_parameters
under_any t h = record { is_tree = h; bare = λ lacks. absurd (false≢true (sym lacks)) }

module _ (q : Path) (t u : Tree) (s : DumpStep) (h : IsTree t) (is : u ≡ tree_below t q) (extends : Extends t s) where
  abbrev next : Tree
  next = after_step t s

  dump_next : dump (tree_below next q) ≡ dump (tree_below t q) ++ rooted_steps q (s ∷ [])
  dump_next =
      dump-below next q ∙ ap (rooted_steps q) extends.dump_is ∙ rooted-append q (dump t) (s ∷ [])
      ∙ ap (λ front. front ++ rooted_steps q (s ∷ [])) (sym (dump-below t q))

  under_old : IsTreeUnder (tree_below t q) any_parameters
  under_old = under_any (tree_below t q) (IsTree-below t q h)

  under_next : IsTreeUnder (tree_below next q) any_parameters
  under_next = under_any (tree_below next q) (IsTree-below next q extends.is_tree)

  -- one that does not lie below the path changes nothing there
  pub passed_over : is_inside (step_path s) q ≡ false → u ≡ tree_below next q
  passed_over outside =
      let none : rooted_steps q (s ∷ []) ≡ [] = ap (λ b. map (rooted_step q) (cond b (s ∷ []) [])) outside in
      is ∙ sym (dumps_tell_trees (tree_below next q) (tree_below t q) any_parameters under_next under_old
      (dump_next ∙ ap (λ xs. dump (tree_below t q) ++ xs) none ∙ append-nil (dump (tree_below t q))))

  -- one that does goes on with the dump of what lies there
  pub gone_on : (into : DumpStep) → is_inside (step_path s) q ≡ true → into ≡ rooted_step q s
      → (after_step u into ≡ tree_below next q) × Extends u into
  gone_on into inside into_is =
      let one : rooted_steps q (s ∷ []) ≡ rooted_step q s ∷ [] = ap (λ b. map (rooted_step q) (cond b
      (s ∷ []) [])) inside in
      let dump_is : dump (tree_below next q) ≡ dump (tree_below t q) ++ rooted_step q s ∷ [] =
      dump_next ∙ ap (λ xs. dump (tree_below t q) ++ xs) one in
      let goes = goes_on_with (tree_below t q) (tree_below next q) (rooted_step q s) [] any_parameters under_old
      under_next dump_is in
      let same : after_step (tree_below t q) (rooted_step q s) ≡ tree_below next q =
      dumps_tell_trees (after_step (tree_below t q) (rooted_step q s)) (tree_below next q) any_parameters goes.under
      under_next (goes.dump_is ∙ sym dump_is) in
      subst (λ (i : DumpStep). (after_step u i ≡ tree_below next q) × Extends u i) (sym into_is)
      (subst (λ (v : Tree). (after_step v (rooted_step q s) ≡ tree_below next q) × Extends v (rooted_step q s)) (sym is)
      (same, record { is_tree = goes.under.is_tree; dump_is = goes.dump_is }))

-- ---- a stream

module _ {S : Type 0} (came : S → Tree → Type 0) (old new : RootedStream S) (same : new.path ≡ old.path) (t : Tree)
    (at : IsBelow came old t) where
  there : t ≡ tree_below at.tree new.path
  there = at.below_is ∙ ap (tree_below at.tree) (sym same)

  module _ (goes : (u : Tree) → came old.stream u → came new.stream (after_step u new.step))
      (extends : (u : Tree) → came old.stream u → Extends u new.step) where
    -- a step of it is passed over
    pub skip_so : is_inside (step_path new.step) new.path ≡ false → IsBelow came new t
    skip_so outside = record {
      tree = after_step at.tree new.step;
      is_tree = (extends at.tree at.says_is).is_tree;
      says_is = goes at.tree at.says_is;
      below_is = passed_over new.path at.tree t new.step at.is_tree there (extends at.tree at.says_is) outside;
    }

    -- or given
    pub give_so : (into : DumpStep) → is_inside (step_path new.step) new.path ≡ true
        → into ≡ rooted_step new.path new.step → IsBelow came new (after_step t into) × Extends t into
    give_so into inside into_is =
        let on = gone_on new.path at.tree t new.step at.is_tree there
        (extends at.tree at.says_is) into inside into_is in (
          record {
            tree = after_step at.tree new.step;
            is_tree = (extends at.tree at.says_is).is_tree;
            says_is = goes at.tree at.says_is;
            below_is = on.0;
          },
          on.1,
        )

  -- its end
  pub end_so : (whole : S → Tree → Type 0) → ((u : Tree) → came old.stream u → whole new.stream u)
      → IsBelow whole new t
  end_so whole ends = record {
    tree = at.tree;
    is_tree = at.is_tree;
    says_is = ends at.tree at.says_is;
    below_is = there;
  }

  -- its fault
  pub fail_so : (fails : S → Tree → StreamFault → Type 0) (fault : StreamFault)
      → ((u : Tree) → came old.stream u → fails new.stream u fault) → EndsBelow came fails new t fault
  fail_so fails fault failed = record {
    tree = at.tree;
    below_is = there;
    why = inl (failed at.tree at.says_is);
  }

-- too many steps
pub long_so : {S : Type 0} (came : S → Tree → Type 0) (fails : S → Tree → StreamFault → Type 0) (now : RootedStream S)
    (t : Tree) → IsBelow came now t → EndsBelow came fails now t streams.TooLong
long_so came fails now t at = record {
  tree = at.tree;
  below_is = at.below_is;
  why = inr (at.says_is, refl);
}
