-- What is written of a folder where its stream is whole.
use Rattle.std.proofs.Common.{◌≡◌, List, Result, Ok, Err, ap, subst, ◌∙◌}
use Rattle.std.specs.Prelude.{OnOk, IfErr}
use Rattle.script_lines.specs.SinkState.{SinkState}
use Rattle.dump_streams.specs.Draining.{WritesDump, WritesUntil}
use Rattle.dump_streams.specs.declared.draining.DrainFault.{DrainFault}
use Rattle.host_folders.specs.FolderState.{FolderState, IsObservable, whole_files}
use Rattle.host_folders.specs.Packed.{CameOf, IsPacked, IsOfSame, EndsBy, HasFiles, ReadsFiles}
use Rattle.host_folders.specs.Packing.{PacksFolder}
use Rattle.host_folders.specs.declared.found.Found.{Found}
use Rattle.host_folders.specs.declared.stream.FolderStream.{FolderStream}

module _ {F W : Type 0} (state_of : F → FolderState) (sink_of : W → SinkState) where
  pub packs : (start stream : FolderStream F) (folder : F) (found : List Found) (old new : W)
      (result : Result (Unit {0}) DrainFault) → start.first.value ≡ folder → start.found.items ≡ found
      → IsOfSame start stream
      → WritesDump (CameOf state_of) (IsPacked state_of) (EndsBy state_of) sink_of stream old new result
      → OnOk result (PacksFolder state_of sink_of folder stream.folder found old new)
  packs start stream folder found old new (Err fault) first items same written = tt
  packs start stream folder found old new (Ok done) first items same written =
      let whole = written.whole_is in
      let before : stream.first.value ≡ folder = cc (same.first, first) in
      let all : stream.found.items ≡ found = cc (same.found, items) in
      record {
        tree = written.tree;
        is_tree = whole.is_tree;
        files = whole.files;
        links = whole.links;
        entries = subst (λ (fs : List Found). HasFiles fs whole.files whole.links written.tree) all whole.entries;
        faults = whole.faults ∙ ap (λ (f : F). (state_of f).faults) before;
        told = subst (λ (f : F). IsObservable (state_of f)
            → ReadsFiles (state_of f) (state_of stream.folder) (whole_files whole.files) whole.links) before whole.told;
        written = written.written;
      }

  pub stops : (stream : FolderStream F) (old new : W) (result : Result (Unit {0}) DrainFault)
      → WritesDump (CameOf state_of) (IsPacked state_of) (EndsBy state_of) sink_of stream old new result
      → IfErr result (WritesUntil (CameOf state_of) (IsPacked state_of) (EndsBy state_of) sink_of stream old new)
  stops stream old new (Ok done) written = tt
  stops stream old new (Err fault) written = written
