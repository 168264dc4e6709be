-- The list of a tree over its staged pages: what it holds, and what it knows, as these change.
use Rattle.std.proofs.Common.{◌≡◌, ◌<◌, ◌≤◌, Bool, true, false, List, length, Option, Result, Ok, Err, refl, sym, ap}
use Rattle.std.proofs.Common.{subst, ◌∙◌}
use Rattle.store_model.specs.declared.refusal.Refusal.{Refusal}
use Rattle.store_model.specs.declared.version.Version.{Version}
use Rattle.store_base.specs.declared.store_fault.Fault.{Fault}
use Rattle.store_model.specs.Parameters.{Parameters}
use Rattle.store_model.specs.Trees.{Tree}
use Rattle.store_model.specs.Draws.{Draw, draw_of}
use Rattle.store_model.specs.Pairs.{Pair, pairs}
use Rattle.store_model.specs.Pages.{pages, page_count}
use Rattle.store_model.specs.PageMaps.{PageMap, IsPageMap, map_of_pages}
use Rattle.store_model.specs.Commands.{Command}
use Rattle.store_model.specs.Commands.Reply.{Acknowledged}
use Rattle.disk_model.specs.DiskState.{DiskState, IsObservable}
use Rattle.seeded_draw.specs.declared.any.AnyDraw.{AnyDraw}
use Rattle.seeded_draw.specs.AnyDrawn.{any_draw}
use Rattle.script_lines.specs.declared.reply.Reply.{Reply}
use Rattle.script_lines.specs.Replies.{reply_of}
use Rattle.skip_levels.specs.declared.walk.PathEnd.{PathEnd}
use Rattle.skip_levels.specs.Descent.{HoldsPairs, IsKnownGroup}
use Rattle.skip_levels.specs.PagePairs.{pairs_of_map, list_over, IsHeld, KeepsList}
use Rattle.ordered_pairs.specs.PairsState.{PairsState}
use Rattle.skip_levels.proofs.PagePairsLemmas.{holds_own, holds_its_pairs}
use Rattle.tree_pairs.specs.TreeCalls.{pairs_limit, uncounted_step, CarriesOutUnder}
use Rattle.page_store.specs.StagedState.{StagedState, IsTold, Follows, pages_state, without_changes}
use Rattle.page_store.specs.declared.fault.SettleFault.{SettleFault}
use Rattle.page_store.specs.declared.commit_kind.CommitKind.{CommitKind}
use Rattle.page_store.specs.Settling.{SettlesBy}
use Rattle.tree_commands.specs.Answers.{AnswersBy, change_reply}
use Rattle.tree_commands.proofs.ReplyLemmas.{AnswersUnder, answers_under, carried_reply}
use Rattle.tree_commands.proofs.StepLemmas.{uncounted_still}
use Rattle.staged_tree.proofs.StagedAnswers.{AnswersAt}
use Rattle.image_check.specs.Standing.{IsFitting}
use Rattle.staged_tree.specs.StagedTree.{TreeList, IsListAt, IsListOver, IsListFor, IsListWithin, most_staged}
use Rattle.staged_tree.specs.StagedTree.{FollowsList, HoldsTable}
use Rattle.staged_tree.proofs.AnswerSteps.{reply_at, staged_at}
use Rattle.staged_tree.proofs.TreePages.{few_within, fits_within, tree_holds, held_valid, held_map}

-- ---- pages that stay

-- where these pages mean something, those did, and were the same
abbrev pub Stay : {D : Type 0} → (D → DiskState) → StagedState D AnyDraw → StagedState D AnyDraw → Type 0
Stay state old new = IsTold state new → IsTold state old × (new.map ≡ old.map)

-- what a list keeps stays
pub keeps_stays : {D : Type 0} (state : D → DiskState) (d : Draw) (is_whole : Bool) (known : Option PathEnd)
    (old new : StagedState D AnyDraw) → Stay state old new → KeepsList d is_whole (pages_state state old) known
    → KeepsList d is_whole (pages_state state new) known
keeps_stays state d is_whole known old new stay keeps = record {
  whole = λ w told. let back = stay told
      in subst (λ (m : PageMap). HoldsPairs d (pairs_of_map m) m) (sym back.1) (keeps.whole w back.0);
  place = λ w told. let back = stay told
      in subst (λ (m : PageMap). IsKnownGroup d (pairs_of_map m) known) (sym back.1) (keeps.place w back.0);
}

-- they do where they are read alone
pub follows_stay : {D : Type 0} (state : D → DiskState) (old new : StagedState D AnyDraw) → Follows state old new
    → (IsObservable (state old.disk) → new.map ≡ old.map) → Stay state old new
follows_stay state old new follows same told =
    let before = sym follows.disk.observable ∙ told.disk in (
      record {
        disk = before;
        runs = sym follows.runs ∙ told.runs;
        valid = subst IsPageMap (same before) told.valid;
      },
      same before,
    )

-- and where what is taken back changed nothing
pub back_stays : {D : Type 0} (state : D → DiskState) (old : StagedState D AnyDraw)
    → (IsObservable (state old.disk) → old.map ≡ old.table) → Stay state old (without_changes old)
back_stays state old same told =
    let is = same told.disk in
    (record { disk = told.disk; runs = told.runs; valid = subst IsPageMap (sym is) told.valid }, sym is)

-- ---- a command

-- a list, as a list of pairs
abbrev pub pairs_state : {D : Type 0} → (D → DiskState) → TreeList D → PairsState
pairs_state state list = list_over (any_draw list.draw) list.is_whole (pages_state state list.pages)

-- a command was carried out on a list of one version
pub record AnswersList {D : Type 0} (state : D → DiskState) (version : Version) (c : Command) (old new : TreeList D)
    (result : Result Reply Fault) : Type 0 where
  pub follows : FollowsList state old new
  pub call : AnswersUnder version c (pairs_state state old) (pairs_state state new) result

-- a command that the list answered under each version
pub looked_list : {D : Type 0} (state : D → DiskState) (version : Version) (c : Command) (old new : TreeList D)
    (result : Result Reply Fault) → FollowsList state old new
    → AnswersBy c (pairs_state state old) (pairs_state state new) result → AnswersList state version c old new result
looked_list state version c old new result follows call = record {
  follows = follows;
  call = answers_under version c (pairs_state state old) (pairs_state state new) result call;
}

-- a change that the list carried out is answered so
pub changed_list : {D : Type 0} (state : D → DiskState) (p : Parameters) (version : Version) (c : Command)
    (old new : TreeList D) (r : Result (Result (Unit {0}) Refusal) Fault) (reply : Result Reply Fault)
    → version ≡ p.version → change_reply r ≡ reply → FollowsList state old new
    → CarriesOutUnder version (λ _. Acknowledged) c (pairs_state state old) (pairs_state state new) r
    → AnswersList state p.version c old new reply
changed_list state p version c old new r reply under is follows call =
    let seen = pairs_state state old in
    let left = pairs_state state new in
    record {
      follows = follows;
      call = subst (λ (v : Version). AnswersUnder v c seen left reply) under
          (subst (AnswersUnder version c seen left) is (carried_reply version c seen left r call));
    }

-- the list of a tree is one over its own table
pub over_table : {D : Type 0} {state : D → DiskState} {t : Tree} {p : Parameters} {list : TreeList D}
    → IsListAt state t p list → list.pages.is_spent ≡ false → IsListOver state t t p list
over_table {D} {state} {t} {p} {list} at runs = record {
  under = record { is_tree = at.fitting.tree; bare = at.fitting.fits.bare };
  staged = staged_at state t p list.pages at.fitting at.pages runs;
  draw = at.draw;
  whole = at.whole;
}

-- of a tree that fits, and so has few pages
pub fits_table : {D : Type 0} {state : D → DiskState} {t : Tree} {p : Parameters} {list : TreeList D}
    → IsListAt state t p list → list.pages.is_spent ≡ false → IsListFor state t t p list
fits_table at runs = record { fitting = at.fitting; over = over_table at runs }

pub as_within : {D : Type 0} {state : D → DiskState} {t now : Tree} {p : Parameters} {list : TreeList D}
    → IsListFor state t now p list → IsListWithin state t now p list
as_within {D} {state} {t} {now} {p} list = record {
  over = list.over;
  few = λ observable. fits_within now p list.fitting;
}

-- a list of one tree, over the table of another
module _ {D : Type 0} (state : D → DiskState) (t now : Tree) (p : Parameters) (old : TreeList D)
    (list : IsListOver state t now p old) (runs : old.pages.is_spent ≡ false) where
  pub own_pairs : IsObservable (state old.pages.disk) → pairs_of_map old.pages.map ≡ pairs now p
  own_pairs observable = holds_own (draw_of p) (pairs now p) old.pages.map (list.staged.holds observable)

  -- the list has room for what a command adds
  pub room_at : (IsObservable (state old.pages.disk) → page_count now p ≤ most_staged)
      → IsHeld (any_draw old.draw) old.is_whole (pages_state state old.pages)
      → length (pairs_of_map old.pages.map) < pairs_limit
  room_at few seen = subst (λ (s : List Pair). length s < pairs_limit) (sym (own_pairs seen.1.0.disk))
      (few_within now p list.staged.fitting.in_range (few seen.1.0.disk))

  pub seen_at : IsObservable (state old.pages.disk)
      → IsHeld (any_draw old.draw) old.is_whole (pages_state state old.pages)
  seen_at observable =
      let holds = list.staged.holds observable in
      let told : IsTold state old.pages = record {
        disk = observable;
        runs = runs;
        valid = held_valid now p old.pages.map holds;
      } in (
        list.whole observable,
        (
          told,
          subst (λ (d : Draw). HoldsPairs d (pairs_of_map old.pages.map) old.pages.map)
              (sym list.draw) (holds_its_pairs (draw_of p) (pairs now p) old.pages.map holds),
        ),
      )

  -- behind calls that stage changes the pages in the table are still those that they were
  pub table_behind : (mid : TreeList D) → FollowsList state old mid → HoldsTable state mid
  table_behind mid follows told =
      let seen = sym follows.0.disk.observable ∙ told.disk in (
        pairs t p,
        subst (λ (d : Draw). HoldsPairs d (pairs t p) mid.pages.table)
            (sym (ap any_draw follows.1 ∙ list.draw))
            (tree_holds t p mid.pages.table list.staged.fitting (follows.0.table seen ∙ list.staged.table_is seen)),
      )

  module _ (c : Command) (mid : TreeList D) where
    -- a command that the list answered is one that its pages did
    pub answers_at : (result : Result Reply Fault) → AnswersList state p.version c old mid result
        → AnswersAt state c now p old.pages mid.pages result
    answers_at result is = record {
      follows = is.follows.0;
      faults = is.call.faults;
      answered = λ observable.
          let seen = seen_at observable in
          reply_at (uncounted_step now c p) p (any_draw mid.draw) (pairs_state state mid) mid.pages result
          (ap any_draw is.follows.1 ∙ list.draw) (λ held. held.1.1) (is.call.observable seen)
          (is.call.answered seen now p refl (record { tree = list.under.is_tree; pairs_are = own_pairs observable }));
    }

    -- behind it the list is whole
    pub whole_behind : (reply : Reply) → AnswersList state p.version c old mid (Ok reply)
        → IsObservable (state mid.pages.disk) → mid.is_whole ≡ true
    whole_behind reply is observable = (is.call.observable (seen_at (sym is.follows.0.disk.observable ∙ observable))).0

-- where a command changed nothing in the list of a tree, nothing is to be taken back
pub same_behind : {D : Type 0} (state : D → DiskState) (t : Tree) (p : Parameters) (old : TreeList D)
    → IsListAt state t p old → old.pages.is_spent ≡ false → (c : Command) (mid : TreeList D) (reply : Reply)
    → (reply_of reply ≡ (uncounted_step t c p).reply → reply_of reply ≡ Acknowledged → ⊥)
    → AnswersList state p.version c old mid (Ok reply)
    → IsObservable (state mid.pages.disk) → mid.pages.map ≡ mid.pages.table
same_behind state t p old list runs c mid reply other is observable =
    let seen = sym is.follows.0.disk.observable ∙ observable in
    let answered = (answers_at state t t p old (over_table list runs) runs c mid (Ok reply) is).answered seen in
    let still = uncounted_still t c p (λ e. other answered.reply_is (answered.reply_is ∙ e)) in
    held_map (uncounted_step t c p).tree p mid.pages.map answered.holds
    ∙ ap (λ (u : Tree). map_of_pages (pages u p)) still ∙ sym (list.pages.held seen runs).table_is
    ∙ sym (is.follows.0.table seen)

-- ---- a settle

module _ {D : Type 0} (state : D → DiskState) (old new : StagedState D AnyDraw) (runs : old.is_spent ≡ false) where
  -- the pages stay, however it ends
  pub settle_stays : {kind : CommitKind} {r : Result (Unit {0}) SettleFault}
      → SettlesBy kind state any_draw old new r → Stay state old new
  settle_stays settles told =
      let seen = sym settles.kept.observable ∙ told.disk in
      let same = settles.map seen told.runs in
      (record { disk = seen; runs = runs; valid = subst IsPageMap same told.valid }, same)

  -- also once what is staged is taken back, where it ends well
  pub settled_stays : {kind : CommitKind} {value : Unit {0}} → SettlesBy kind state any_draw old new (Ok value)
      → Stay state old (without_changes new)
  settled_stays settles told =
      let seen = sym settles.kept.observable ∙ told.disk in
      let same = settles.table seen in
      (record { disk = seen; runs = runs; valid = subst IsPageMap same told.valid }, same)

  -- where it fails the pages in the table are those that they were
  pub table_behind_settle : (t : Tree) (p : Parameters) (draw : AnyDraw) {kind : CommitKind} {fault : SettleFault}
      → IsFitting t p → (IsObservable (state old.disk) → old.table ≡ map_of_pages (pages t p))
      → any_draw draw ≡ draw_of p → SettlesBy {T = Unit {0}} kind state any_draw old new (Err fault)
      → IsTold state (without_changes new)
      → (s : List Pair) × HoldsPairs (any_draw draw) s new.table
  table_behind_settle t p draw fitting table_is drawn settles told =
      let seen = sym settles.kept.observable ∙ told.disk in (
        pairs t p,
        subst (λ (d : Draw). HoldsPairs d (pairs t p) new.table) (sym drawn)
            (tree_holds t p new.table fitting (settles.table_stays seen told.runs ∙ table_is seen)),
      )
