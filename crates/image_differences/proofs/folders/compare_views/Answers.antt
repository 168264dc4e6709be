use Rattle.std.proofs.Common.{◌≤◌, vec_len, sym, ap, subst, ◌∙◌}
use Rattle.disk_model.specs.DiskState.{IsObservable}
use Rattle.dump_diff.specs.Causes.{IsCause}
use Rattle.host_builder.specs.Viewed.{CameOfView, IsWholeView, EndsView}
use Rattle.host_folders.specs.Packed as packed
use Rattle.host_folders.specs.Steps.{path_at}
use Rattle.store_stream.specs.StoreStreams.{CameOf, IsWhole, EndsBy}
use Rattle.image_differences.specs.Folders.{TellsFolder, IsStoreUncompared}
use Rattle.image_differences.specs.declared.timing.Times.TheVariants as times
use Rattle.image_differences.proofs.Comparing.{if_ok}
use Rattle.image_differences.proofs.StoreSides.{reads_so, whole_is, few_came, blamed}
use Rattle.image_differences.proofs.ViewedSides.{same_image, same_folder, tells_views, unviewed, viewed_so, unviewed_so}
use Rattle.image_differences.proofs.folders.compare_views.Goals as goal

pub returns-clause-read : goal.returns-clause-read
returns-clause-read g c =
    let state = g.R.Disk.state in
    let start = c.new-one.result in
    let kept = c.compare-compared.ensures.keeps_first start
    (same_image state start c.new.result c.new-one.ensures.stream c.new.ensures.keeps) in
    reads_so state c.args.store start.stream c.compare-compared.new.first.stream
    (ap (λ s. s.store) c.new-one.ensures.stream ∙ c.new.ensures.store)
    (ap (λ s. s.fault) c.new-one.ensures.stream ∙ c.new.ensures.fault) kept.stream c.new.ensures.fitting c.requires.runs
    c.into_store.result (c.into_store.ensures ∙ ap (λ s. s.store) c.into_stream-one.ensures)

pub returns-clause-tells : goal.returns-clause-tells
returns-clause-tells g c =
    let state = g.R.Disk.state in
    let folder_state = g.F.Folder.state in
    let start = c.new-one.result in
    let start' = c.new-other.result in
    let one = c.compare-compared.new.first in
    let other = c.compare-compared.new.second in
    let kept = c.compare-compared.ensures.keeps_first start
    (same_image state start c.new.result c.new-one.ensures.stream c.new.ensures.keeps) in
    let kept' = c.compare-compared.ensures.keeps_second start' (same_folder start') in
    viewed_so c.compare-compared.result c.fault.result c.path.result c.views_found-found.result
    c.views_found-found.ensures
    (λ differences. IsObservable (state c.args.store.disk) → TellsFolder c.args.wanted times.AsWanted c.args.found.items
    (folder_state c.args.folder) (folder_state c.into_folder.result) differences c.args.store.tree)
    (if_ok c.compare-compared.result (λ differences are seen.
    tells_views state folder_state c.args.wanted one other (kept.wanted ∙ c.new-one.ensures.wanted)
    (kept'.wanted ∙ c.new-other.ensures.wanted) c.args.folder c.into_folder.result
    (ap (λ s. s.value) (kept'.stream).first ∙ ap (λ s. s.first.value) c.new-other.ensures.stream
    ∙ c.new-2.ensures.first)
    (c.into_folder.ensures ∙ ap (λ s. s.folder) c.into_stream-other.ensures)
    c.args.found.items
    (ap (λ f. f.items) ((kept'.stream).found ∙ ap (λ s. s.found) c.new-other.ensures.stream ∙ c.new-2.ensures.found))
    c.args.store.tree (c.new.ensures.fitting).tree
    (λ t whole. whole_is state c.args.store start.stream one.stream
    (ap (λ s. s.store) c.new-one.ensures.stream ∙ c.new.ensures.store)
    (ap (λ s. s.fault) c.new-one.ensures.stream ∙ c.new.ensures.fault) kept.stream c.new.ensures.fitting
    c.requires.runs t whole seen)
    differences are)
    (c.compare-compared.ensures.found (c.new-one.ensures.came c.new.ensures.came)
    (c.new-other.ensures.came c.new-2.ensures.came)))

pub returns-clause-failed : goal.returns-clause-failed
returns-clause-failed g c =
    let state = g.R.Disk.state in
    let folder_state = g.F.Folder.state in
    let start = c.new-one.result in
    let start' = c.new-other.result in
    let one = c.compare-compared.new.first in
    let other = c.compare-compared.new.second in
    let old_is = ap (λ s. s.store) c.new-one.ensures.stream ∙ c.new.ensures.store in
    let going = ap (λ s. s.fault) c.new-one.ensures.stream ∙ c.new.ensures.fault in
    let kept = c.compare-compared.ensures.keeps_first start
    (same_image state start c.new.result c.new-one.ensures.stream c.new.ensures.keeps) in
    let kept' = c.compare-compared.ensures.keeps_second start' (same_folder start') in
    let found_is = (kept'.stream).found ∙ ap (λ s. s.found) c.new-other.ensures.stream ∙ c.new-2.ensures.found in
    unviewed_so c.compare-compared.result c.fault.result c.path.result c.views_found-found.result
    c.views_found-found.ensures
    (IsCause (CameOfView (CameOf state) (IsWhole state) one) (IsWholeView (IsWhole state) one)
    (EndsView (CameOf state) (EndsBy state) one)
    (CameOfView (packed.CameOf folder_state) (packed.IsPacked folder_state) other)
    (IsWholeView (packed.IsPacked folder_state) other)
    (EndsView (packed.CameOf folder_state) (packed.EndsBy folder_state) other))
    (IsStoreUncompared (state c.args.store.disk) (state c.into_store.result.disk) (folder_state c.args.folder)
    (folder_state c.into_folder.result))
    (unviewed state folder_state c.args.wanted one other (kept.wanted ∙ c.new-one.ensures.wanted)
    (kept'.wanted ∙ c.new-other.ensures.wanted) c.args.folder c.into_folder.result
    (ap (λ s. s.value) (kept'.stream).first ∙ ap (λ s. s.first.value) c.new-other.ensures.stream
    ∙ c.new-2.ensures.first)
    (c.into_folder.ensures ∙ ap (λ s. s.folder) c.into_stream-other.ensures)
    c.args.store c.into_store.result c.fault.result
    (λ t cause ends. blamed state c.args.store start.stream one.stream old_is going kept.stream c.new.ensures.fitting
    c.requires.runs t cause ends c.fault.result (c.fault.ensures ∙ ap (λ s. s.fault) c.into_stream-one.ensures)
    c.into_store.result (c.into_store.ensures ∙ ap (λ s. s.store) c.into_stream-one.ensures))
    (few_came state c.args.store start.stream one.stream old_is going kept.stream c.new.ensures.fitting
    c.requires.runs)
    (subst (λ f. vec_len f ≤ 16777216) (sym found_is) c.requires.few)
    c.path.result (c.path.ensures ∙ ap (λ s. path_at s.place s.at s.found.items) c.into_stream-other.ensures))
    (c.compare-compared.ensures.failed (c.new-one.ensures.came c.new.ensures.came)
    (c.new-other.ensures.came c.new-2.ensures.came))
