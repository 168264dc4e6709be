-- What `compare` promises.
use Rattle.std.specs.Prelude.{◌&&◌, ◌==◌, not, false, if◌then◌else◌, ℕ, Bool, List, Result, Ok, Err, IfOk, IfErr}
use Rattle.store_model.specs.Lists.{same_bytes}
use Rattle.store_model.specs.Parameters.{Parameters}
use Rattle.store_model.specs.Images.{version_byte, kind_byte}
use Rattle.disk_model.specs.DiskState.{DiskState, IsObservable}
use Rattle.script_lines.specs.SinkState.{SinkState}
use Rattle.dump_diff.specs.declared.difference.Difference.{Difference}
use Rattle.dump_diff.specs.declared.differences.Differences.{Differences}
use Rattle.host_folders.specs.FolderState.{FolderState}
use Rattle.host_folders.specs.declared.found.Found.{Found}
use Rattle.recovered_store.specs.BelowDisks.{IsUntouched}
use Rattle.image_reads.specs.Reads.{HasTreeWith}
use Rattle.image_differences.specs.declared.images.ImageDifferences.{ImageDifferences}
use Rattle.image_differences.specs.declared.images.ImagesFault.{ImagesFault}
use Rattle.image_differences.specs.declared.images.ImagesFault.TheVariants as images
use Rattle.image_differences.specs.declared.folders.FolderCompareFault.{FolderCompareFault}
use Rattle.image_differences.specs.declared.folders.FolderCompareFault.TheVariants as folders
use Rattle.image_differences.specs.declared.folders.FolderReadFault.TheVariants as untold
use Rattle.image_differences.specs.declared.timing.Times as timing
use Rattle.image_differences.specs.declared.timing.Times.TheVariants as in_times
use Rattle.image_differences.specs.Folders.{TellsFolder, IsUncompared}
use Rattle.image_differences.specs.Images.{TellImages, AreUncompared}
use Rattle.box_words.specs.declared.options.Taken.{Taken}
use Rattle.box_words.specs.declared.options.Times.{Times}
use Rattle.box_words.specs.declared.options.Times.TheVariants as times
use Rattle.box_words.specs.declared.status.Status.{Status}
use Rattle.box_calls.specs.declared.folders.PackFault.{PackFault}
use Rattle.box_calls.specs.declared.folders.PackFault.TheVariants as packs
use Rattle.box_calls.specs.declared.marks.MarkForm.{MarkForm}
use Rattle.box_calls.specs.declared.trouble.Trouble.{Trouble}
use Rattle.box_calls.specs.declared.trouble.Trouble.TheVariants as troubles
use Rattle.box_calls.specs.Endings.{SaysIf}
use Rattle.box_calls.specs.Makings.{wanted_of}
use Rattle.box_calls.specs.Marks.{PrintsFound}
use Rattle.box_calls.specs.Readings.{read_trouble}

-- whether two images have the same parameters
abbrev pub same_parameters : Parameters → Parameters → Bool
same_parameters p q = version_byte p.version == version_byte q.version && p.slots == q.slots && p.height == q.height
    && kind_byte p.kind == kind_byte q.kind && same_bytes p.seed q.seed

-- the trouble where two images were not compared
abbrev pub images_trouble : ImagesFault → Trouble
images_trouble (images.First fault) = read_trouble fault
images_trouble (images.Second fault) = read_trouble fault
images_trouble images.Changed = troubles.Changed
images_trouble images.NoMemory = troubles.NoMemory

-- what a comparison of two images came to: the differences of their trees, or a trouble
abbrev pub images_found : Result ImageDifferences ImagesFault → Result (List Difference) Trouble
images_found (Ok found) = Ok found.trees.paths.items
images_found (Err fault) = Err (images_trouble fault)

-- whether it is said which parameters differ
abbrev pub tells_parameters : Result ImageDifferences ImagesFault → Bool
tells_parameters (Ok found) = not (same_parameters found.first found.second)
tells_parameters (Err fault) = false

-- The lines of the differences of two disks' images go to the first sink; the second gets what is said: first which
-- parameters differ, if some do. The disks are only read.
pub record ComparesImages (form : MarkForm) (first first_new second second_new : DiskState)
    (old new say say_new : SinkState) (status : Status) : Type 0 where
  pub found : Result ImageDifferences ImagesFault
  pub tells : IfOk found (λ f. IsObservable first → IsObservable second → TellImages first.bytes second.bytes f)
  pub uncompared : IfErr found (AreUncompared first first_new second second_new)
  pub first_untouched : IsObservable first → IsUntouched first first_new
  pub second_untouched : IsObservable second → IsUntouched second second_new
  -- the second sink once it was said which parameters differ
  pub between : SinkState
  pub parameters : SaysIf (tells_parameters found) say between
  pub prints : PrintsFound form false (images_found found) old new between say_new status

-- ---- with a folder

-- the trouble where an image was not compared with a folder
abbrev pub folder_trouble : FolderCompareFault → Trouble
folder_trouble (folders.Image fault) = read_trouble fault
folder_trouble (folders.Folder untold.Unreadable) = troubles.Host
folder_trouble (folders.Folder untold.NoMemory) = troubles.NoMemory
folder_trouble (folders.Folder (untold.NoImage path)) = troubles.Moving
folder_trouble folders.NoMemory = troubles.NoMemory

-- the trouble where it was not found what stands in a folder, or where that met obstacles
abbrev pub pack_trouble : PackFault → Trouble
pack_trouble packs.NoMemory = troubles.NoMemory
pack_trouble packs.Unreadable = troubles.Host
pack_trouble packs.TooMany = troubles.TooMany
pack_trouble (packs.Obstacles count) = troubles.Obstacles

-- how times are compared
abbrev pub times_of : Times → timing.Times
times_of times.AsImage = in_times.AsInImage
times_of times.Kept = in_times.AsWanted
times_of times.LeftOut = in_times.AsWanted

-- whether so many obstacles in a folder keep it from being compared
abbrev pub is_refused : Bool → ℕ → Bool
is_refused skips obstacles = not skips && not (obstacles == 0)

-- what a comparison with a folder came to that met so many obstacles: the differences, or a trouble
abbrev pub folder_found : Bool → ℕ → Result Differences FolderCompareFault → Result (List Difference) Trouble
folder_found skips obstacles (Ok found) = if is_refused skips obstacles then Err troubles.Obstacles
    else Ok found.paths.items
folder_found skips obstacles (Err fault) = Err (folder_trouble fault)

-- The lines of the differences of a disk's image and a folder go to the first sink, as far as the options of the words
-- say; the second gets what is said. This was found in the folder, and met so many obstacles. The disk is only read.
pub record ComparesFolder (form : MarkForm) (taken : Taken) (entries : List Found) (obstacles : ℕ)
    (disk disk_new : DiskState) (folder folder_new : FolderState) (old new say say_new : SinkState)
    (status : Status) : Type 0 where
  pub found : Result Differences FolderCompareFault
  pub tells : IfOk found (λ f. IsObservable disk → HasTreeWith disk
      (TellsFolder (wanted_of taken) (times_of taken.times) entries folder folder_new f))
  pub uncompared : IfErr found (IsUncompared disk disk_new folder folder_new)
  pub untouched : IsObservable disk → IsUntouched disk disk_new
  pub prints : PrintsFound form (not (obstacles == 0)) (folder_found taken.skip obstacles found) old new say say_new
      status
