-- What is given of the steps of a dump is the dump of what the host can have.
use Rattle.std.proofs.Common.{◌≡◌, ℕ, zero, suc, ◌+◌, ◌*◌, ◌<◌, ◌≤◌, ◌==◌, nat_le, Bool, true, false, not, ◌&&◌, ◌||◌}
use Rattle.std.proofs.Common.{cond}
use Rattle.std.proofs.Common.{if◌then◌else◌, List, [], ◌∷◌, ◌++◌, map, length, take, drop, take-append-drop, Option}
use Rattle.std.proofs.Common.{refl, sym, ap, ap₂, subst, ◌∙◌, arith, append_assoc}
use Rattle.std.specs.List.{AllByRecursion, filter, flat_map, list_any}
use Rattle.std.proofs.lemmas.Bool.{false≢true, leb-true, leb-false}
use Rattle.std.proofs.lemmas.List.{append-nil, length-drop, length-take-le}
use Rattle.store_model.specs.Paths.{Path, Name}
use Rattle.store_model.specs.Trees.{Tree, Node, Entry, Attributes}
use Rattle.store_model.specs.Trees.Node.{Directory, File}
use Rattle.dump_streams.specs.Dumps.{DumpStep, dump_piece, file_steps, node_steps, attribute_steps, entry_steps, dump}
use Rattle.dump_streams.specs.Dumps.DumpStep.{Make, Write, Set}
use Rattle.dump_streams.proofs.PieceLemmas.{one_piece, pieces_more}
use Rattle.host_builder.specs.declared.attribute.Wanted.{Wanted}
use Rattle.host_builder.specs.declared.attribute.HostAttribute.{HostAttribute}
use Rattle.host_builder.specs.declared.viewed.Spot.{Spot}
use Rattle.host_builder.specs.declared.viewed.Spot.TheVariants as spots
use Rattle.host_builder.specs.HostAttributes.{attribute_of, link_name}
use Rattle.host_builder.specs.Passing.{is_passed}
use Rattle.host_builder.specs.Views.{folder_has, file_has, link_has, kept, is_link, host_attributes, host_entry}
use Rattle.host_builder.specs.Views.{leaves_links, is_left_link, is_made, host_view}
use Rattle.host_builder.specs.Viewed.{held_step, tells_file, settles, flushed, settled, write_at, set_at, pass}
use Rattle.host_builder.specs.Viewed.{given_of}
use Rattle.host_builder.specs.Viewed.{spot_after, given, spot_by}
use Rattle.host_builder.proofs.ViewNames.{AreAbove, DoRise, none_above, link_named, below_link, no_file_below}
use Rattle.host_builder.proofs.ViewNames.{link_no_file, each_none}

module _ (wanted : Wanted) where
  -- ---- steps behind others

  pub given_parts : (spot : Spot) (first more : List DumpStep)
      → given wanted spot (first ++ more) ≡ given wanted spot first ++ given wanted (spot_by wanted spot first) more
  given_parts spot [] more = refl
  given_parts spot (s ∷ first) more =
      ap (λ (ss : List DumpStep). given_of wanted spot s ++ ss) (given_parts (spot_after wanted spot s) first more)
      ∙ sym (append_assoc (given_of wanted spot s) (given wanted (spot_after wanted spot s) first) _)

  pub spot_parts : (spot : Spot) (first more : List DumpStep)
      → spot_by wanted spot (first ++ more) ≡ spot_by wanted (spot_by wanted spot first) more
  spot_parts spot [] more = refl
  spot_parts spot (s ∷ first) more = spot_parts (spot_after wanted spot s) first more

  -- Of these steps just these are given.
  record Gives (spot : Spot) (steps out : List DumpStep) (behind : Spot) : Type 0 where
    given_is : given wanted spot steps ≡ out
    spot_is : spot_by wanted spot steps ≡ behind

  gives_join : (spot mid behind : Spot) (first more out rest : List DumpStep) → Gives spot first out mid
      → Gives mid more rest behind → Gives spot (first ++ more) (out ++ rest) behind
  gives_join spot mid behind first more out rest a b = record {
    given_is = given_parts spot first more ∙ ap₂ (λ (x y : List DumpStep). x ++ y) a.given_is
        (ap (λ (m : Spot). given wanted m more) a.spot_is ∙ b.given_is);
    spot_is = spot_parts spot first more ∙ ap (λ (m : Spot). spot_by wanted m more) a.spot_is ∙ b.spot_is;
  }

  -- ---- attributes

  module _ (x : Path) where
    one_name : (spot mid behind : Spot) (a : Name × List ℕ) (names : Attributes) (first rest : List DumpStep)
        → given_of wanted spot (Set x a.0 a.1) ≡ first → spot_after wanted spot (Set x a.0 a.1) ≡ mid
        → Gives mid (attribute_steps x names) rest behind
        → Gives spot (attribute_steps x (a ∷ names)) (first ++ rest) behind
    unfolding attribute_steps
    one_name spot mid behind a names first rest gives goes more = record {
      given_is = ap₂ (λ (ss : List DumpStep) (m : Spot). ss ++ given wanted m (map (λ b. Set x b.0 b.1) names)) gives
          goes
          ∙ ap (λ (ss : List DumpStep). first ++ ss) more.given_is;
      spot_is = ap (λ (m : Spot). spot_by wanted m (map (λ b. Set x b.0 b.1) names)) goes ∙ more.spot_is;
    }

    no_name : (spot : Spot) → Gives spot (attribute_steps x []) [] spot
    unfolding attribute_steps
    no_name spot = record { given_is = refl; spot_is = refl }

    more_kept : (a : Name × List ℕ) (names : Attributes) (b : Bool)
        → (if b then Set x a.0 a.1 ∷ [] else []) ++ attribute_steps x names
        ≡ attribute_steps x (cond b (a ∷ names) names)
    unfolding attribute_steps
    more_kept a names true = refl
    more_kept a names false = refl

    nothing_gives : (names : Attributes) → Gives spots.Nothing (attribute_steps x names) [] spots.Nothing
    nothing_gives [] = no_name spots.Nothing
    nothing_gives (a ∷ names) =
        one_name spots.Nothing spots.Nothing spots.Nothing a names [] [] refl refl (nothing_gives names)

    folder_gives : (names : Attributes)
        → Gives spots.Folder (attribute_steps x names) (attribute_steps x (kept (folder_has wanted) names)) spots.Folder
    unfolding attribute_steps
    folder_gives [] = no_name spots.Folder
    folder_gives (a ∷ names) =
        subst (λ (out : List DumpStep). Gives spots.Folder (attribute_steps x (a ∷ names)) out spots.Folder)
        (more_kept a (kept (folder_has wanted) names) (folder_has wanted (attribute_of a.0 a.1)))
        (one_name spots.Folder spots.Folder spots.Folder a names _ _ refl refl (folder_gives names))

    file_gives : (e : Bool) (names : Attributes)
        → AllByRecursion (λ a. (link_has wanted (attribute_of a.0 a.1) && e) ≡ false) names
        → Gives (spots.File e) (attribute_steps x names) (attribute_steps x (kept (file_has wanted) names))
        (spots.File e)
    unfolding attribute_steps
    file_gives e [] none = no_name (spots.File e)
    file_gives e (a ∷ names) none =
        let told = attribute_of a.0 a.1 in
        let test : (e && link_has wanted told) ≡ false = swapped e (link_has wanted told) none.0 in
        let is : set_at wanted (spots.File e) told ≡ (spots.File e, file_has wanted told) =
        ap (λ (b : Bool). if b then (spots.Nothing, true) else (spots.File e, file_has wanted told)) test in
        subst (λ (out : List DumpStep). Gives (spots.File e) (attribute_steps x (a ∷ names)) out (spots.File e))
        (more_kept a (kept (file_has wanted) names) (file_has wanted told))
        (one_name (spots.File e) (spots.File e) (spots.File e) a names _ _
        (ap (λ (r : Spot × Bool). if r.1 then Set x a.0 a.1 ∷ [] else []) is) (ap (λ (r : Spot × Bool). r.0) is)
        (file_gives e names none.1))
      where
        swapped : (a b : Bool) → (b && a) ≡ false → (a && b) ≡ false
        swapped true true is = is
        swapped true false is = refl
        swapped false b is = refl

    -- of a link the first name that has something is where it leads
    link_gives : (names : Attributes) → DoRise names
        → list_any (λ a. link_has wanted (attribute_of a.0 a.1)) names ≡ true
        → Gives (spots.File true) (attribute_steps x names) (attribute_steps x (kept (link_has wanted) names))
        spots.Nothing
    unfolding attribute_steps
    link_gives [] rise some = absurd (false≢true some)
    link_gives (a ∷ names) rise some =
        by_test (link_gives names rise.1) (link_has wanted (attribute_of a.0 a.1)) refl some
      where
        told : Option HostAttribute
        told = attribute_of a.0 a.1

        by_test : (list_any (λ a. link_has wanted (attribute_of a.0 a.1)) names ≡ true
            → Gives (spots.File true) (attribute_steps x names) (attribute_steps x (kept (link_has wanted) names))
            spots.Nothing) → (b : Bool) → link_has wanted (attribute_of a.0 a.1) ≡ b
            → (b || list_any (λ a. link_has wanted (attribute_of a.0 a.1)) names) ≡ true
            → Gives (spots.File true) (attribute_steps x (a ∷ names))
            (attribute_steps x (cond b (a ∷ kept (link_has wanted) names) (kept (link_has wanted) names))) spots.Nothing
        by_test rest true is e =
            let alone : kept (link_has wanted) names ≡ [] = none_above wanted names
            (subst (λ (name : Name). AreAbove name names) (link_named wanted a.0 a.1 is) rise.0) in
            let goes : set_at wanted (spots.File true) (attribute_of a.0 a.1) ≡ (spots.Nothing, true) =
            ap (λ (b : Bool). if b then (spots.Nothing, true)
            else (spots.File true, file_has wanted (attribute_of a.0 a.1))) is in
            subst (λ (more : Attributes). Gives (spots.File true) (attribute_steps x (a ∷ names))
            (attribute_steps x (a ∷ more)) spots.Nothing) (sym alone)
            (subst (λ (out : List DumpStep). Gives (spots.File true) (attribute_steps x (a ∷ names)) out spots.Nothing)
            (more_kept a [] true)
            (one_name (spots.File true) spots.Nothing spots.Nothing a names (Set x a.0 a.1 ∷ []) []
            (ap (λ (r : Spot × Bool). if r.1 then Set x a.0 a.1 ∷ [] else []) goes) (ap (λ (r : Spot × Bool). r.0) goes)
            (nothing_gives names)))
        by_test rest false is e =
            let no_file = no_file_below wanted a.0 a.1 (below_link wanted a.0 names rise.0 e) in
            let goes : set_at wanted (spots.File true) (attribute_of a.0 a.1) ≡ (spots.File true, false) =
            ap (λ (b : Bool). if b then (spots.Nothing, true)
            else (spots.File true, file_has wanted (attribute_of a.0 a.1))) is
            ∙ ap (λ (b : Bool). (spots.File true, b)) no_file in
            one_name (spots.File true) (spots.File true) spots.Nothing a names [] _
            (ap (λ (r : Spot × Bool). if r.1 then Set x a.0 a.1 ∷ [] else []) goes) (ap (λ (r : Spot × Bool). r.0) goes)
            (rest e)

    -- a name that no file has settles nothing
    passes_held : (a : Name × List ℕ) → file_has wanted (attribute_of a.0 a.1) ≡ false
        → (given_of wanted (spots.Held x) (Set x a.0 a.1)
        ≡ (if (set_at wanted (spots.Held x) (attribute_of a.0 a.1)).1 then Set x a.0 a.1 ∷ [] else []))
        × (spot_after wanted (spots.Held x) (Set x a.0 a.1)
        ≡ (set_at wanted (spots.Held x) (attribute_of a.0 a.1)).0)
    passes_held a is = (
      ap (λ (b : Bool). (if b then Write x 0 [] ∷ [] else [])
          ++ (if (set_at wanted (if b then spots.File true else spots.Held x) (attribute_of a.0 a.1)).1
          then Set x a.0 a.1 ∷ [] else [])) is,
      ap (λ (b : Bool). (set_at wanted (if b then spots.File true else spots.Held x) (attribute_of a.0 a.1)).0) is,
    )

    -- behind a name of what is held back, whether it is a link's
    abbrev held_at : Bool → Spot × Bool
    held_at b = if b then (spots.Nothing, false) else (spots.Held x, false)

    -- one that is held back goes
    left_gives : (names : Attributes) → DoRise names
        → list_any (λ a. link_has wanted (attribute_of a.0 a.1)) names ≡ true
        → Gives (spots.Held x) (attribute_steps x names) [] spots.Nothing
    left_gives [] rise some = absurd (false≢true some)
    left_gives (a ∷ names) rise some =
        by_test (left_gives names rise.1) (link_has wanted (attribute_of a.0 a.1)) refl some
      where
        by_test : (list_any (λ a. link_has wanted (attribute_of a.0 a.1)) names ≡ true
            → Gives (spots.Held x) (attribute_steps x names) [] spots.Nothing) → (b : Bool)
            → link_has wanted (attribute_of a.0 a.1) ≡ b
            → (b || list_any (λ a. link_has wanted (attribute_of a.0 a.1)) names) ≡ true
            → Gives (spots.Held x) (attribute_steps x (a ∷ names)) [] spots.Nothing
        by_test rest true is e =
            let stays = passes_held a (link_no_file wanted (attribute_of a.0 a.1) is) in
            one_name (spots.Held x) spots.Nothing spots.Nothing a names [] []
            (stays.0 ∙ ap (λ (b : Bool). if (held_at b).1
            then Set x a.0 a.1 ∷ [] else []) is)
            (stays.1 ∙ ap (λ (b : Bool). (held_at b).0) is)
            (nothing_gives names)
        by_test rest false is e =
            let stays = passes_held a (no_file_below wanted a.0 a.1 (below_link wanted a.0 names rise.0 e)) in
            one_name (spots.Held x) (spots.Held x) spots.Nothing a names [] []
            (stays.0 ∙ ap (λ (b : Bool). if (held_at b).1
            then Set x a.0 a.1 ∷ [] else []) is)
            (stays.1 ∙ ap (λ (b : Bool). (held_at b).0) is)
            (rest e)

    -- one that is none is given
    held_gives : (names : Attributes)
        → AllByRecursion (λ a. (link_has wanted (attribute_of a.0 a.1) && true) ≡ false) names
        → given wanted (spots.Held x) (attribute_steps x names)
        ++ held_step (spot_by wanted (spots.Held x) (attribute_steps x names))
        ≡ Write x 0 [] ∷ attribute_steps x (kept (file_has wanted) names)
    unfolding attribute_steps
    held_gives [] none = refl
    held_gives (a ∷ names) none =
        by_test (file_has wanted (attribute_of a.0 a.1)) refl (held_gives names none.1)
      where
        plain : (b : Bool) → (b && true) ≡ b
        plain true = refl
        plain false = refl

        no_link : link_has wanted (attribute_of a.0 a.1) ≡ false
        no_link = sym (plain (link_has wanted (attribute_of a.0 a.1))) ∙ none.0

        rest : List DumpStep
        rest = map (λ b. Set x b.0 b.1) names

        by_test : (b : Bool) → file_has wanted (attribute_of a.0 a.1) ≡ b
            → given wanted (spots.Held x) rest ++ held_step (spot_by wanted (spots.Held x) rest)
            ≡ Write x 0 [] ∷ map (λ b. Set x b.0 b.1) (kept (file_has wanted) names)
            → given wanted (spots.Held x) (Set x a.0 a.1 ∷ rest)
            ++ held_step (spot_by wanted (spots.Held x) (Set x a.0 a.1 ∷ rest))
            ≡ Write x 0 [] ∷ map (λ b. Set x b.0 b.1) (cond b (a ∷ kept (file_has wanted) names)
            (kept (file_has wanted) names))
        by_test true is more =
            let goes : set_at wanted (spots.File true) (attribute_of a.0 a.1) ≡ (spots.File true, true) =
            ap (λ (b : Bool). if b then (spots.Nothing, true)
            else (spots.File true, file_has wanted (attribute_of a.0 a.1))) no_link
            ∙ ap (λ (b : Bool). (spots.File true, b)) is in
            let behind = file_gives true names none.1 in
            ap (λ (b : Bool). ((if b then Write x 0 [] ∷ [] else [])
            ++ (if (set_at wanted (if b then spots.File true else spots.Held x) (attribute_of a.0 a.1)).1
            then Set x a.0 a.1 ∷ [] else [])
            ++ given wanted (set_at wanted (if b then spots.File true else spots.Held x) (attribute_of a.0 a.1)).0 rest)
            ++ held_step (spot_by wanted
            (set_at wanted (if b then spots.File true else spots.Held x) (attribute_of a.0 a.1)).0 rest)) is
            ∙ ap (λ (r : Spot × Bool). (Write x 0 [] ∷ (if r.1 then Set x a.0 a.1 ∷ [] else [])
            ++ given wanted r.0 rest) ++ held_step (spot_by wanted r.0 rest)) goes
            ∙ ap₂ (λ (ss : List DumpStep) (m : Spot). (Write x 0 [] ∷ Set x a.0 a.1 ∷ ss) ++ held_step m)
            behind.given_is behind.spot_is
            ∙ append-nil (Write x 0 [] ∷ Set x a.0 a.1 ∷ map (λ b. Set x b.0 b.1) (kept (file_has wanted) names))
        by_test false is more =
            let stays = passes_held a is in
            ap₂ (λ (ss : List DumpStep) (m : Spot). (ss ++ given wanted m rest) ++ held_step (spot_by wanted m rest))
            (stays.0 ∙ ap (λ (b : Bool). if (held_at b).1
            then Set x a.0 a.1 ∷ [] else []) no_link)
            (stays.1 ∙ ap (λ (b : Bool). (held_at b).0) no_link)
            ∙ more

    -- ---- what stands at a path

    flush : (spot : Spot) (s : DumpStep) → tells_file wanted s ≡ true → flushed wanted spot s ≡ held_step spot
    flush spots.Nothing s is = refl
    flush spots.Folder s is = refl
    flush (spots.File e) s is = refl
    flush (spots.Held path) s is = ap (λ (b : Bool). if b then Write path 0 [] ∷ [] else []) is

    -- a step that is not of the entry before
    one_step : (spot : Spot) (s : DumpStep) (r : Spot × Bool) → tells_file wanted s ≡ true
        → ((any : Spot) → pass wanted any s ≡ r)
        → Gives spot (s ∷ []) (held_step spot ++ (if r.1 then s ∷ [] else [])) r.0
    one_step spot s r tells is = record {
      given_is = append-nil (given_of wanted spot s) ∙ ap₂ (λ (ss more : List DumpStep). ss ++ more)
          (flush spot s tells) (ap (λ (r : Spot × Bool). if r.1 then s ∷ [] else []) (is (settled wanted spot s)));
      spot_is = ap (λ (r : Spot × Bool). r.0) (is (settled wanted spot s));
    }

    -- where the stream is behind what is passed, and behind what is not
    abbrev at_spot : Bool → Spot → Spot
    at_spot b spot = if b then spot else spots.Nothing

    abbrev some_of : Bool → List DumpStep → List DumpStep
    some_of b steps = if b then steps else []

    make_gives : (spot : Spot) (b : Bool) → is_passed wanted x ≡ b
        → Gives spot (Make x ∷ []) (held_step spot ++ some_of b (Make x ∷ [])) (at_spot b spots.Folder)
    make_gives spot true is = one_step spot (Make x) (spots.Folder, true) refl
        (λ any. ap (λ (b : Bool). if b then (spots.Folder, true) else (spots.Nothing, false)) is)
    make_gives spot false is = one_step spot (Make x) (spots.Nothing, false) refl
        (λ any. ap (λ (b : Bool). if b then (spots.Folder, true) else (spots.Nothing, false)) is)

    write_gives : (spot : Spot) (b : Bool) → is_passed wanted x ≡ b → (at : ℕ) (bytes : List ℕ)
        → (at == 0 && length bytes == 0) ≡ false
        → Gives spot (Write x at bytes ∷ []) (held_step spot ++ some_of b (Write x at bytes ∷ []))
        (at_spot b (spots.File false))
    write_gives spot true is at bytes some = one_step spot (Write x at bytes) (spots.File false, true) refl
        (λ any. ap₂ (λ (b e : Bool). if b then write_at wanted x e else (spots.Nothing, false)) is some)
    write_gives spot false is at bytes some = one_step spot (Write x at bytes) (spots.Nothing, false) refl
        (λ any. ap (λ (b : Bool). if b then write_at wanted x (at == 0 && length bytes == 0)
        else (spots.Nothing, false)) is)

    -- where nothing is held back one piece comes behind others
    piece_gives : (b : Bool) → is_passed wanted x ≡ b → (at : ℕ) (bytes : List ℕ)
        → (at == 0 && length bytes == 0) ≡ false
        → Gives (at_spot b (spots.File false)) (Write x at bytes ∷ []) (some_of b (Write x at bytes ∷ []))
        (at_spot b (spots.File false))
    piece_gives true is at bytes some = write_gives (spots.File false) true is at bytes some
    piece_gives false is at bytes some = write_gives spots.Nothing false is at bytes some

    join_some : (b : Bool) (spot : Spot) (first more : List DumpStep)
        → (held_step spot ++ some_of b first) ++ some_of b more ≡ held_step spot ++ some_of b (first ++ more)
    join_some true spot first more = append_assoc (held_step spot) first more
    join_some false spot first more = append-nil (held_step spot ++ [])

    -- the steps of a file that is not empty
    file_passes : (n : ℕ) (spot : Spot) (b : Bool) → is_passed wanted x ≡ b → (content : List ℕ)
        → length content ≤ dump_piece * suc n → (length content == 0) ≡ false
        → Gives spot (file_steps x content) (held_step spot ++ some_of b (file_steps x content))
        (at_spot b (spots.File false))
    file_passes zero spot b is content short some =
        subst (λ (steps : List DumpStep). Gives spot steps (held_step spot ++ some_of b steps)
        (at_spot b (spots.File false)))
        (sym (one_piece x content (omega (arith, short)))) (write_gives spot b is 0 content some)
    file_passes (suc n) spot b is content short some =
        by_test (file_passes n spot b is) (nat_le (length content) (dump_piece * suc n)) refl
      where
        by_test : ((content : List ℕ) → length content ≤ dump_piece * suc n → (length content == 0) ≡ false
            → Gives spot (file_steps x content) (held_step spot ++ some_of b (file_steps x content))
            (at_spot b (spots.File false)))
            → (c : Bool) → nat_le (length content) (dump_piece * suc n) ≡ c
            → Gives spot (file_steps x content) (held_step spot ++ some_of b (file_steps x content))
            (at_spot b (spots.File false))
        by_test fewer true few = fewer content (leb-true (length content) (dump_piece * suc n) few) some
        by_test fewer false many =
            let cut = dump_piece * suc n in
            let old : List ℕ = take cut content in
            let run : List ℕ = drop cut content in
            let more : cut < length content = leb-false (length content) cut many in
            let full : length old ≡ cut = length-take-le cut content (omega (arith, more)) in
            let rest = length-drop cut content in
            let whole : old ++ run ≡ content = take-append-drop cut content in
            let one : 1 ≤ length run = omega (arith, more, rest) in
            let few : length run ≤ dump_piece = omega (arith, short, rest) in
            let not_old : (length old == 0) ≡ false = grind (arith, full) in
            let later : (length old == 0 && length run == 0) ≡ false =
            ap (λ (b : Bool). b && length run == 0) not_old in
            let front = fewer old (omega (arith, full)) not_old in
            subst (λ (all : List ℕ). Gives spot (file_steps x all) (held_step spot ++ some_of b (file_steps x all))
            (at_spot b (spots.File false))) whole
            (subst (λ (steps : List DumpStep). Gives spot steps (held_step spot ++ some_of b steps)
            (at_spot b (spots.File false))) (sym (pieces_more x n old run full one few))
            (subst (λ (out : List DumpStep). Gives spot (file_steps x old ++ Write x (length old) run ∷ []) out
            (at_spot b (spots.File false)))
            (join_some b spot (file_steps x old) (Write x (length old) run ∷ []))
            (gives_join spot (at_spot b (spots.File false)) (at_spot b (spots.File false)) (file_steps x old)
            (Write x (length old) run ∷ []) _ _ front (piece_gives b is (length old) run later))))

  -- ---- entries

  -- behind what is not passed nothing is given of the attributes
  named : (x : Path) (b : Bool) (spot behind : Spot) (names : Attributes) (out : List DumpStep)
      → held_step behind ≡ [] → Gives spot (attribute_steps x names) out behind
      → (given wanted (at_spot x b spot) (attribute_steps x names)
      ++ held_step (spot_by wanted (at_spot x b spot) (attribute_steps x names))) ≡ some_of x b out
  named x true spot behind names out none gives =
      ap₂ (λ (ss : List DumpStep) (m : Spot). ss ++ held_step m) gives.given_is gives.spot_is
      ∙ ap (λ (ss : List DumpStep). out ++ ss) none ∙ append-nil out
  named x false spot behind names out none gives =
      let nothing = nothing_gives x names in
      ap₂ (λ (ss : List DumpStep) (m : Spot). ss ++ held_step m) nothing.given_is nothing.spot_is

  -- what is given of an entry, with what is held back in the end
  abbrev total : Spot → List DumpStep → List DumpStep
  total spot steps = given wanted spot steps ++ held_step (spot_by wanted spot steps)

  -- steps behind a node's
  total_behind : (spot mid : Spot) (first more out rest : List DumpStep) → Gives spot first out mid
      → total mid more ≡ rest → total spot (first ++ more) ≡ out ++ rest
  total_behind spot mid first more out rest a is =
      ap₂ (λ (ss : List DumpStep) (m : Spot). ss ++ held_step m) (given_parts spot first more)
      (spot_parts spot first more)
      ∙ ap₂ (λ (ss : List DumpStep) (m : Spot). (ss ++ given wanted m more) ++ held_step (spot_by wanted m more))
      a.given_is a.spot_is
      ∙ append_assoc out (given wanted mid more) (held_step (spot_by wanted mid more))
      ∙ ap (λ (ss : List DumpStep). out ++ ss) is

  some_parts : (x : Path) (b : Bool) (spot : Spot) (first more : List DumpStep)
      → (held_step spot ++ some_of x b first) ++ some_of x b more ≡ held_step spot ++ some_of x b (first ++ more)
  some_parts x b spot first more = join_some x b spot first more

  -- what the host has of an entry
  abbrev shown : Path × Entry → List DumpStep
  shown e = if is_made wanted e then entry_steps e.0 (host_entry wanted e.1) else []

  module _ (x : Path) (names : Attributes) (rise : DoRise names) (spot : Spot) (b : Bool) (is : is_passed wanted x ≡ b)
    where
      folder_total : total spot (Make x ∷ attribute_steps x names)
          ≡ held_step spot ++ some_of x b (Make x ∷ attribute_steps x (kept (folder_has wanted) names))
      folder_total =
          total_behind spot (at_spot x b spots.Folder) (Make x ∷ []) (attribute_steps x names)
          (held_step spot ++ some_of x b (Make x ∷ [])) _ (make_gives x spot b is)
          (named x b spots.Folder spots.Folder names _ refl (folder_gives x names))
          ∙ some_parts x b spot (Make x ∷ []) (attribute_steps x (kept (folder_has wanted) names))

      file_total : (content : List ℕ) → (length content == 0) ≡ false
          → total spot (file_steps x content ++ attribute_steps x names)
          ≡ held_step spot ++ some_of x b (file_steps x content ++ attribute_steps x (kept (file_has wanted) names))
      file_total content some =
          total_behind spot (at_spot x b (spots.File false)) (file_steps x content) (attribute_steps x names)
          (held_step spot ++ some_of x b (file_steps x content)) _
          (file_passes x (length content) spot b is content (omega arith) some)
          (named x b (spots.File false) (spots.File false) names _ refl (file_gives x false names
          (each_none wanted false names refl)))
          ∙ some_parts x b spot (file_steps x content) (attribute_steps x (kept (file_has wanted) names))

      -- of an empty file, whether links are left out, and whether it is one
      module _ (l c : Bool) (leaves : leaves_links wanted.links ≡ l)
          (link : list_any (λ a. link_has wanted (attribute_of a.0 a.1)) names ≡ c) where
        abbrev own : Attributes
        own = if c then kept (link_has wanted) names else kept (file_has wanted) names

        empty_total : total spot (Write x 0 [] ∷ attribute_steps x names)
            ≡ held_step spot ++ some_of x (b && not (l && c)) (Write x 0 [] ∷ attribute_steps x own)
        empty_total = by_tests b l c is leaves link
          where
            step : (r : Spot × Bool) → ((any : Spot) → pass wanted any (Write x 0 []) ≡ r)
                → Gives spot (Write x 0 [] ∷ []) (held_step spot ++ (if r.1 then Write x 0 [] ∷ [] else [])) r.0
            step r passes = one_step x spot (Write x 0 []) r refl passes

            passed_so : (b l : Bool) → is_passed wanted x ≡ b → leaves_links wanted.links ≡ l
                → is_passed wanted x ≡ b → (any : Spot) → pass wanted any (Write x 0 [])
                ≡ (if b then (if l then (spots.Held x, false) else (spots.File true, true)) else (spots.Nothing, false))
            passed_so b l p q r any =
                ap₂ (λ (b l : Bool). if b then (if l then (spots.Held x, false) else (spots.File true, true))
                else (spots.Nothing, false)) p q

            by_tests : (b l c : Bool) → is_passed wanted x ≡ b → leaves_links wanted.links ≡ l
                → list_any (λ a. link_has wanted (attribute_of a.0 a.1)) names ≡ c
                → total spot (Write x 0 [] ∷ attribute_steps x names)
                ≡ held_step spot ++ some_of x (b && not (l && c))
                (Write x 0 [] ∷ attribute_steps x (if c then kept (link_has wanted) names else kept (file_has wanted)
                names))
            by_tests false l c p q r =
                total_behind spot spots.Nothing (Write x 0 [] ∷ []) (attribute_steps x names) (held_step spot ++ []) []
                (step (spots.Nothing, false) (passed_so false l p q p))
                (named x true spots.Nothing spots.Nothing names [] refl (nothing_gives x names))
                ∙ append-nil (held_step spot ++ [])
            by_tests true false true p q r =
                total_behind spot (spots.File true) (Write x 0 [] ∷ []) (attribute_steps x names)
                (held_step spot ++ Write x 0 [] ∷ []) _ (step (spots.File true, true) (passed_so true false p q p))
                (named x true (spots.File true) spots.Nothing names _ refl (link_gives x names rise r))
                ∙ append_assoc (held_step spot) (Write x 0 [] ∷ []) (attribute_steps x (kept (link_has wanted) names))
            by_tests true false false p q r =
                total_behind spot (spots.File true) (Write x 0 [] ∷ []) (attribute_steps x names)
                (held_step spot ++ Write x 0 [] ∷ []) _ (step (spots.File true, true) (passed_so true false p q p))
                (named x true (spots.File true) (spots.File true) names _ refl
                (file_gives x true names (each_none wanted true names r)))
                ∙ append_assoc (held_step spot) (Write x 0 [] ∷ []) (attribute_steps x (kept (file_has wanted) names))
            by_tests true true true p q r =
                total_behind spot (spots.Held x) (Write x 0 [] ∷ []) (attribute_steps x names) (held_step spot ++ []) []
                (step (spots.Held x, false) (passed_so true true p q p))
                (let gone = left_gives x names rise r in
                ap₂ (λ (ss : List DumpStep) (m : Spot). ss ++ held_step m) gone.given_is gone.spot_is)
                ∙ append-nil (held_step spot ++ [])
            by_tests true true false p q r =
                total_behind spot (spots.Held x) (Write x 0 [] ∷ []) (attribute_steps x names) (held_step spot ++ []) _
                (step (spots.Held x, false) (passed_so true true p q p))
                (held_gives x names (each_none wanted true names r))
                ∙ ap (λ (ss : List DumpStep). ss ++ Write x 0 [] ∷ attribute_steps x (kept (file_has wanted) names))
                (append-nil (held_step spot))

  -- what is no link is not left out as one
  never : (b l : Bool) → b ≡ (b && not (l && false))
  never true true = refl
  never true false = refl
  never false l = refl

  entry_total : (spot : Spot) (x : Path) (node : Node) (names : Attributes) → DoRise names
      → total spot (node_steps x node ++ attribute_steps x names)
      ≡ held_step spot ++ shown (x, record { node = node; attributes = names })
  unfolding file_steps
  entry_total spot x Directory names rise =
      folder_total x names rise spot (is_passed wanted x) refl
      ∙ ap (λ (c : Bool). held_step spot
      ++ some_of x c (Make x ∷ attribute_steps x (kept (folder_has wanted) names)))
      (never (is_passed wanted x) (leaves_links wanted.links))
  entry_total spot x (File []) names rise =
      empty_total x names rise spot (is_passed wanted x) refl (leaves_links wanted.links)
      (list_any (λ a. link_has wanted (attribute_of a.0 a.1)) names) refl refl
  entry_total spot x (File (b ∷ bytes)) names rise =
      let some : (length (b ∷ bytes) == 0) ≡ false = grind arith in
      let any = list_any (λ (a : Name × List ℕ). link_has wanted (attribute_of a.0 a.1)) names in
      file_total x names rise spot (is_passed wanted x) refl (b ∷ bytes) some
      ∙ ap (λ (c : Bool). held_step spot
      ++ some_of x c (file_steps x (b ∷ bytes) ++ attribute_steps x (kept (file_has wanted) names)))
      (never (is_passed wanted x) (leaves_links wanted.links))
      ∙ ap (λ (c : Bool). held_step spot
      ++ (if is_passed wanted x && not (leaves_links wanted.links && (c && any))
      then file_steps x (b ∷ bytes) ++ attribute_steps x (if c && any then kept (link_has wanted) names
      else kept (file_has wanted) names) else [])) (sym some)

  -- ---- trees

  pub total_dump : (t : Tree) → AllByRecursion (λ e. DoRise e.1.attributes) t → (spot : Spot)
      → total spot (dump t) ≡ held_step spot ++ dump (host_view wanted t)
  unfolding dump
  total_dump [] rise spot = sym (append-nil (held_step spot))
  total_dump (e ∷ t) rise spot =
      let first = entry_steps e.0 e.1 in
      let mid = spot_by wanted spot first in
      let more = flat_map (λ (e : Path × Entry). entry_steps e.0 e.1) t in
      ap₂ (λ (ss : List DumpStep) (m : Spot). ss ++ held_step m) (given_parts spot first more)
      (spot_parts spot first more)
      ∙ append_assoc (given wanted spot first) (given wanted mid more) (held_step (spot_by wanted mid more))
      ∙ ap (λ (ss : List DumpStep). given wanted spot first ++ ss) (total_dump t rise.1 mid)
      ∙ sym (append_assoc (given wanted spot first) (held_step mid) (dump (host_view wanted t)))
      ∙ ap (λ (ss : List DumpStep). ss ++ dump (host_view wanted t))
      (entry_total spot e.0 e.1.node e.1.attributes rise.0)
      ∙ append_assoc (held_step spot) (shown e) (dump (host_view wanted t))
      ∙ ap (λ (ss : List DumpStep). held_step spot ++ ss) (by_test (is_made wanted e))
    where
      by_test : (b : Bool) → (if b then entry_steps e.0 (host_entry wanted e.1) else [])
          ++ dump (host_view wanted t)
          ≡ dump (map (λ e. (e.0, host_entry wanted e.1)) (cond b (e ∷ filter (is_made wanted) t)
          (filter (is_made wanted) t)))
      by_test true = refl
      by_test false = refl
