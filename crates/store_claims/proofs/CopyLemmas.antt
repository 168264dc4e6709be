-- A dump is loaded again, and a load is a run of its lines: from what each of the two calls did.
use Rattle.std.proofs.Common.{◌≡◌, ◌++◌, ◌≤◌, List, ℕ, [], ◌∷◌, inl, refl, sym, ap, ◌∙◌, subst, length, codes, arith}
use Rattle.std.specs.List.{flat_map, AllByRecursion}
use Rattle.store_model.specs.Parameters.{Parameters, IsParameters}
use Rattle.store_model.specs.Trees.{Tree, empty_tree}
use Rattle.store_model.specs.Pages.{Fits, IsTreeUnder}
use Rattle.store_model.specs.Images.{Represents}
use Rattle.store_model.specs.Commands.{Reply, line, reply_text}
use Rattle.store_model.specs.Commands.Reply.{Acknowledged}
use Rattle.store_model.specs.Scripts.{answer, lines, replies, replies_by, replies_text, tree_after, script_limit}
use Rattle.script_lines.specs.Memory.{SourceMemory, SinkMemory, source_state, sink_state}
use Rattle.dump_streams.specs.Dumps.{dump_text, IsListing}
use Rattle.dump_streams.specs.Laws.{RunsListing}
use Rattle.image_subcommands.specs.declared.status.Status.TheVariants as statuses
use Rattle.image_subcommands.specs.Outside.{outside_of}
use Rattle.image_subcommands.specs.Statuses.{IsDone}
use Rattle.listing_subcommands.specs.DumpCall.{DumpsTree}
use Rattle.listing_subcommands.specs.LoadCall.{Lists, LoadsFrom}
use Rattle.store_claims.specs.Answered.{AnswersScript}
use Rattle.store_claims.specs.Machines.{Disk, HasImage, bytes_of, meaning}
use Rattle.store_claims.proofs.RunWays.{image_of}
use Rattle.store_claims.specs.declared.again.Copied.{Copied}
use Rattle.store_claims.specs.declared.same.LoadAndRun.{LoadAndRun}
use Rattle.store_claims.specs.Again.{CopiesImage}
use Rattle.store_claims.specs.Same.{LoadsAsRun}

-- an image of the tree holds it
under : (t : Tree) (p : Parameters) (image : List ℕ) → Represents image t p → IsTreeUnder t p
under t p image is = record { is_tree = is.tree; bare = is.fits.bare }

-- ---- a dump that is loaded again

pub copies_image : (t : Tree) (p : Parameters) (disk : Disk) (lines : SinkMemory) (empty : Disk) (source : SourceMemory)
    (sink : SinkMemory) (copied : Copied)
    → ((t : Tree) (p : Parameters) → IsParameters p → IsTreeUnder t p → Fits t p → length (dump_text t) ≤ script_limit)
    → ((t : Tree) (p : Parameters) → IsTreeUnder t p → IsListing t (dump_text t))
    → Represents (bytes_of disk) t p → lines.written ≡ [] → source.left ≡ copied.dump.sink.written
    → DumpsTree t p copied.dump.status (meaning disk) (meaning copied.dump.disk) (sink_state lines)
    (sink_state copied.dump.sink)
    → LoadsFrom meaning source_state sink_state empty_tree p source.left (outside_of empty source sink) copied.load
    → CopiesImage t p empty copied
copies_image t p disk lines empty source sink copied short listing represents none left dump load = record {
  image = image;
  same = λ dumped loaded. (image dumped loaded).bytes ∙ sym (dump.stands (inl dumped)).layout_is;
  complete = λ dumped spared.
      let source_spared = spared.source_spared in
      load.tells.complete t (record { empty = refl; lists = lists dumped; room = represents.fits.room })
      (subst (λ (text : List ℕ). length text ≤ script_limit) (sym (text dumped))
      (short t p represents.names.in_range (under t p (bytes_of disk) represents) represents.fits))
      spared.disk_spared (λ rose. absurd (omega (arith, source_spared, rose)));
}
  where
    -- what is loaded is the dump of the tree
    text : copied.dump.status ≡ statuses.Done → source.left ≡ dump_text t
    text dumped = left ∙ (dump.put refl).whole dumped ∙ ap (λ (written : List ℕ). written ++ dump_text t) none

    lists : copied.dump.status ≡ statuses.Done → Lists t p source.left
    lists dumped =
        let is = under t p (bytes_of disk) represents in
        record { under = is; listing = subst (IsListing t) (sym (text dumped)) (listing t p is) }

    image : copied.dump.status ≡ statuses.Done → IsDone copied.load.status → HasImage copied.load.disk t p
    image dumped loaded = image_of copied.load.disk t p ((load.loads refl t (lists dumped)).loaded loaded)

-- ---- a load that is a run

-- where each line is answered so, the replies are as many of these texts as there are lines
acknowledged_text : (t : Tree) (texts : List (List ℕ)) (p : Parameters)
    → AllByRecursion (λ reply. reply ≡ Acknowledged) (replies t texts p)
    → replies_text (replies t texts p) ≡ flat_map (λ (text : List ℕ). line (codes "ok")) texts
unfolding replies replies_by replies_text reply_text
acknowledged_text t [] p all = refl
acknowledged_text t (text ∷ texts) p all =
    ap (λ (reply : Reply). reply_text reply ++ replies_text (replies (answer t text p).tree texts p)) all.0
    ∙ ap (λ (rest : List ℕ). line (codes "ok") ++ rest) (acknowledged_text (answer t text p).tree texts p all.1)

pub loads_as_run : (p : Parameters) (loaded run : Disk) (source other : SourceMemory)
    (sink run_sink : SinkMemory) (both : LoadAndRun)
    → ((t : Tree) (p : Parameters) (script : List ℕ) → IsTreeUnder t p → Fits t p → IsListing t script
    → RunsListing t p script)
    → other.left ≡ source.left
    → LoadsFrom meaning source_state sink_state empty_tree p source.left (outside_of loaded source sink) both.load
    → AnswersScript empty_tree p run other run_sink both.run
    → LoadsAsRun source.left p run_sink both
loads_as_run p loaded run source other sink run_sink both law same load answers = record {
  same = λ done ended.
      let some = load.tells.done done in
      ((load.loads refl some.0 some.1.lists).loaded done).layout_is
      ∙ sym (subst (λ (t : Tree). HasImage both.run.disk t p) (runs done).tree (image ended)).bytes;
  answered = λ done ended.
      answers.replied ended
      ∙ ap (λ (script : List ℕ). run_sink.written ++ replies_text (replies empty_tree (lines script) p)) same
      ∙ ap (λ (text : List ℕ). run_sink.written ++ text)
      (acknowledged_text empty_tree (lines source.left) p (runs done).acknowledged);
}
  where
    -- what a run of the lines does
    runs : (done : IsDone both.load.status) → RunsListing (load.tells.done done).0 p source.left
    runs done =
        let some = load.tells.done done in
        let lists = some.1.lists in
        law some.0 p source.left lists.under (record { room = some.1.room; bare = lists.under.bare }) lists.listing

    image : both.run.status ≡ statuses.Done → HasImage both.run.disk (tree_after empty_tree (lines source.left) p) p
    image ended = subst (λ (script : List ℕ). HasImage both.run.disk (tree_after empty_tree (lines script) p) p)
        same (answers.image ended)
