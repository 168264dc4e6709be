-- What a dump is as a script: how long it is, that it is a listing, and what `run` makes of a listing.
use Rattle.std.proofs.Common.{◌≡◌, ℕ, ◌+◌, ◌*◌, ◌≤◌, List, [], ◌∷◌, ◌++◌, map, length, take, Bool, true, false, ◌&&◌}
use Rattle.std.proofs.Common.{cond, Result, Ok, Err, nat_lt, ◌==◌, refl, sym, ap, subst, ◌∙◌, arith, append_assoc}
use Rattle.std.proofs.Common.{length-append}
use Rattle.std.specs.List.{AllByRecursion, filter}
use Rattle.std.proofs.lemmas.Bool.{le-ltb, lt-ltb}
use Rattle.std.proofs.lemmas.List.{append-nil, length-map}
use Rattle.std.proofs.lemmas.List.Splits.{slice_split_at}
use Rattle.store_model.specs.declared.refusal.Refusal.{Refusal}
use Rattle.store_model.specs.declared.refusal.Refusal.TheVariants as refusals
use Rattle.store_model.specs.Parameters.{Parameters, IsParameters}
use Rattle.store_model.specs.Trees.{Tree, empty_tree}
use Rattle.store_model.specs.Pairs.{Pair, pairs}
use Rattle.store_model.specs.Draws.{draw_of}
use Rattle.store_model.specs.Pages.{page_count, pages, IsTreeUnder, Fits}
use Rattle.store_model.specs.Commands.{Command, IsCommand, Reply}
use Rattle.store_model.specs.Commands.Reply.{Acknowledged, Refused}
use Rattle.store_model.specs.Steps.{Step, reply_of, may_fill, step, step_by}
use Rattle.store_model.specs.Grammar.{parse}
use Rattle.store_model.specs.Scripts.{line_limit, script_limit, lines, reading, answer, answer_by, answers_by, state_by}
use Rattle.store_model.specs.Scripts.{replies_by, tree_by, replies, tree_after}
use Rattle.store_model.proofs.PagesLemmasSizes.{pairs_per_page}
use Rattle.store_model.proofs.TreesLemmasFewer.{IsThinned, thinned_self, thinned_nil, thinned_append, keys_of}
use Rattle.store_model.proofs.TreesLemmasFewer.{pages_of_thinned}
use Rattle.store_model.proofs.TreesLemmasSteps.{step_by_refusal}
use Rattle.store_model.proofs.TreesLemmasFits.{IsTree-empty, Fits-empty, Fits-tree_after}
use Rattle.model_laws.proofs.CommandsLemmasTexts.{reading-command_text, no_line_end, some_text}
use Rattle.dump_streams.specs.Dumps.{DumpStep, command_of_step, after_step, dump, dump_text, step_text, step_line}
use Rattle.dump_streams.specs.Dumps.{steps_text, readings, IsListing}
use Rattle.dump_streams.specs.Laws.{RunsListing}
use Rattle.dump_streams.proofs.Chains.{Chain, dump_chain}
use Rattle.dump_streams.proofs.DumpFronts.{empty_under}
use Rattle.dump_streams.proofs.DumpSteps.{pair_text, AddsPairs, IsDumpStep, step_of_next}
use Rattle.dump_streams.proofs.NextTrees.{goes_on}

-- ---- how long the text of a dump is

-- what pairs more allow the text
added : (old new : List Pair) (text : List ℕ) → AddsPairs old new text
    → length text + 1 + pair_text * length old ≤ pair_text * length new
added old new text adds =
    omega (
      arith,
      adds.enough,
      ap length adds.keys_are,
      length-append (keys_of old) adds.more,
      length-map old
          (λ (pair : Pair). pair.0),
      length-map new (λ (pair : Pair). pair.0),
    )

chain_text : (cs : List DumpStep) (u t : Tree) (p : Parameters) → IsTreeUnder u p → Chain u cs t p
    → length (steps_text cs) + pair_text * length (pairs u p) ≤ pair_text * length (pairs t p)
unfolding steps_text
chain_text [] u t p under chain = let same = ap (λ (v : Tree). length (pairs v p)) chain in omega (arith, same)
chain_text (c ∷ cs) u t p under chain =
    let text = step_text c in
    let rest = chain_text cs (after_step u c) t p (goes_on u c p under chain.0).under chain.1 in
    let step = step_of_next u c p under chain.0 in
    omega (
      arith,
      rest,
      added (pairs u p) (pairs (after_step u c) p) text step.adds,
      length-append (step_line c)
          (steps_text cs),
      length-append text (10 ∷ []),
    )

-- the dump of a tree that fits keeps the limit of a script
pub dump_is_short : (t : Tree) (p : Parameters) → IsParameters p → IsTreeUnder t p → Fits t p
    → length (dump_text t) ≤ script_limit
unfolding pages draw_of
dump_is_short t p are under fits =
    let text = chain_text (dump t) [] t p (empty_under p) (dump_chain t p under) in
    let few = pairs_per_page (draw_of p) (pairs t p) are.some_level in
    omega (arith, text, few, fits.room, are.slots_in_range)

-- ---- a dump is a listing

-- a step that is read back from its line
abbrev IsReadBack : DumpStep → Type 0
IsReadBack c = IsCommand (command_of_step c) × (length (step_text c) ≤ line_limit)

chain_read : (cs : List DumpStep) (u t : Tree) (p : Parameters) → IsTreeUnder u p → Chain u cs t p
    → AllByRecursion IsReadBack cs
chain_read [] u t p under chain = tt
chain_read (c ∷ cs) u t p under chain =
    let step = step_of_next u c p under chain.0 in
    ((step.command, step.short), chain_read cs (after_step u c) t p (goes_on u c p under chain.0).under chain.1)

-- the lines of their text are their texts
lines_of : (cs : List DumpStep) → AllByRecursion IsReadBack cs → lines (steps_text cs) ≡ map step_text cs
unfolding lines steps_text
lines_of [] are = refl
lines_of (c ∷ cs) are =
    let text = step_text c in
    ap lines (append_assoc text (10 ∷ []) (steps_text cs))
    ∙ ap (filter (λ text. nat_lt 0 (length text)))
    (slice_split_at (λ b. b == 10) text 10 (steps_text cs) (no_line_end (command_of_step c) are.0.0) refl)
    ∙ ap (λ b. cond b (text ∷ lines (steps_text cs)) (lines (steps_text cs)))
    (lt-ltb 0 (length text) (some_text (command_of_step c)))
    ∙ ap (λ (texts : List (List ℕ)). text ∷ texts) (lines_of cs are.1)

read_back : (cs : List DumpStep) → AllByRecursion IsReadBack cs → map reading (map step_text cs) ≡ readings cs
read_back [] are = refl
read_back (c ∷ cs) are =
    ap (λ (first : Result Command Refusal). first ∷ map reading (map step_text cs))
    (reading-command_text (command_of_step c) are.0.0 are.0.1)
    ∙ ap (λ (rest : List (Result Command Refusal)). Ok (command_of_step c) ∷ rest) (read_back cs are.1)

pub dump_is_listing : (t : Tree) (p : Parameters) → IsTreeUnder t p → IsListing t (dump_text t)
dump_is_listing t p under =
    let are = chain_read (dump t) [] t p (empty_under p) (dump_chain t p under) in
    ap (map reading) (lines_of (dump t) are) ∙ read_back (dump t) are

-- ---- trees on the way need no more pages than the last one

thinned_front : (xs more : List (List ℕ)) → IsThinned xs (xs ++ more)
thinned_front xs more = subst (λ (ys : List (List ℕ)). IsThinned ys (xs ++ more)) (append-nil xs)
    (thinned_append xs [] xs more (thinned_self xs) (thinned_nil more))

pages_added : (u : Tree) (c : DumpStep) (p : Parameters) → IsDumpStep u c p
    → page_count u p ≤ page_count (after_step u c) p
unfolding pages
pages_added u c p step =
    let adds = step.adds in
    pages_of_thinned (draw_of p) (pairs u p) (pairs (after_step u c) p)
    (subst (IsThinned (keys_of (pairs u p))) (sym adds.keys_are) (thinned_front (keys_of (pairs u p)) adds.more))

chain_pages : (cs : List DumpStep) (u t : Tree) (p : Parameters) → IsTreeUnder u p → Chain u cs t p
    → page_count u p ≤ page_count t p
chain_pages [] u t p under chain = let same = ap (λ (v : Tree). page_count v p) chain in omega (arith, same)
chain_pages (c ∷ cs) u t p under chain =
    let rest = chain_pages cs (after_step u c) t p (goes_on u c p under chain.0).under chain.1 in
    omega (arith, rest, pages_added u c p (step_of_next u c p under chain.0))

-- ---- what `run` answers

both_false : (a : Bool) → (a && false) ≡ false
both_false true = refl
both_false false = refl

-- what a step of a dump is answered, where the next tree has room
step_is : (u : Tree) (s : DumpStep) (p : Parameters) → IsDumpStep u s p → page_count (after_step u s) p ≤ p.slots
    → step u (command_of_step s) p ≡ record { reply = Acknowledged; tree = after_step u s }
step_is u s p is room =
    let c = command_of_step s in
    let next = after_step u s in
    let full : Step = record { reply = Refused (refusals.Full (page_count next p) p.slots); tree = u } in
    step_by_refusal u c p is.version ∙ ap (step_by u c p) is.allowed
    ∙ ap (λ b. cond (may_fill c && b) full (record { reply = reply_of u c p; tree = next }))
    (le-ltb p.slots (page_count next p) room)
    ∙ ap (λ b. cond b full (record { reply = reply_of u c p; tree = next })) (both_false (may_fill c))
    ∙ ap (λ (reply : Reply). record { reply = reply; tree = next }) is.acknowledged

-- a line that reads as a command is answered by its step
answer_of_reading : (u : Tree) (text : List ℕ) (c : Command) (p : Parameters) → reading text ≡ Ok c
    → answer u text p ≡ step u c p
unfolding reading answer
answer_of_reading u text c p e = by_test (nat_lt line_limit (length text)) (parse text) e
  where
    by_test : (b : Bool) (r : Result Command Refusal) → cond b (Err refusals.Long) r ≡ Ok c
        → cond b (record { reply = Refused refusals.Long; tree = u }) (answer_by u r p) ≡ step u c p
    by_test true r e = cc
    by_test false r e = ap (λ (r : Result Command Refusal). answer_by u r p) e

run_chain : (cs : List DumpStep) (texts : List (List ℕ)) (u t : Tree) (p : Parameters) → map reading texts ≡ readings cs
    → IsTreeUnder u p → Chain u cs t p → page_count t p ≤ p.slots
    → AllByRecursion (λ reply. reply ≡ Acknowledged) (replies u texts p) × (tree_after u texts p ≡ t)
unfolding replies replies_by answers_by tree_after tree_by state_by
run_chain [] [] u t p e under chain room = (tt, chain)
run_chain [] (text ∷ texts) u t p e under chain room = cc
run_chain (c ∷ cs) [] u t p e under chain room = cc
run_chain (c ∷ cs) (text ∷ texts) u t p e under chain room =
    let first : reading text ≡ Ok (command_of_step c) = cc in
    let others : map reading texts ≡ readings cs = cc in
    let next = after_step u c in
    let is = step_of_next u c p under chain.0 in
    let later = (goes_on u c p under chain.0).under in
    let fits : page_count next p ≤ p.slots = omega (arith, chain_pages cs next t p later chain.1, room) in
    let rest = run_chain cs texts next t p others later chain.1 room in
    subst (λ (s : Step). AllByRecursion (λ reply. reply ≡ Acknowledged) (s.reply ∷ replies s.tree texts p)
    × (tree_after s.tree texts p ≡ t))
    (sym (answer_of_reading u text (command_of_step c) p first ∙ step_is u c p is fits)) ((refl, rest.0), rest.1)

-- each line of a listing is carried out
pub listing_runs : (t : Tree) (p : Parameters) (script : List ℕ) → IsTreeUnder t p → Fits t p → IsListing t script
    → RunsListing t p script
listing_runs t p script under fits listing =
    let done = run_chain (dump t) (lines script) [] t p listing (empty_under p) (dump_chain t p under) fits.room in
    record {
      acknowledged = done.0;
      fits = λ count. Fits-tree_after empty_tree (take count (lines script)) p IsTree-empty (Fits-empty p);
      tree = done.1;
    }
