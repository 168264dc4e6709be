-- What a step adds to what came.
use Rattle.std.proofs.Common.{◌≡◌, ℕ, zero, suc, ◌+◌, ◌-◌, ◌^◌, ◌<◌, ◌≤◌, min, Bool, true, false, nat_lt, IsTrue}
use Rattle.std.proofs.Common.{if◌then◌else◌, List, [], ◌∷◌, ◌++◌, length, map, take, vec_len, Some, None, Result, Ok}
use Rattle.std.proofs.Common.{◌⊎◌, inl, inr, refl, sym, ap, ap₂, subst, ◌∙◌, arith}
use Rattle.std.specs.List.{slice_get}
use Rattle.std.proofs.lemmas.List.{append-nil, append_assoc, length-append, length-take-le, map-append, same_from_push}
use Rattle.std.proofs.lemmas.List.{take_all, take_more}
use Rattle.std.proofs.lemmas.Option.{slice_get_within, get_or_from_slice_get}
use Rattle.store_model.specs.declared.version.Version.TheVariants.{Two}
use Rattle.store_model.specs.declared.draw_kind.DrawKind.TheVariants as draws
use Rattle.dump_streams.specs.Dumps.{DumpStep}
use Rattle.dump_streams.specs.Dumps.DumpStep.{Make, Write, Set}
use Rattle.store_model.specs.Parameters.{Parameters}
use Rattle.store_model.specs.Paths.{Path, Name}
use Rattle.dump_streams.specs.Dumps.{after_step}
use Rattle.store_model.specs.Trees.{Tree, Node, Entry, Attributes, IsTree, empty_tree}
use Rattle.store_model.specs.Trees.Node.{Directory, File}
use Rattle.host_builder.specs.HostAttributes.{link_name}
use Rattle.dump_streams.specs.Dumps.{dump_piece}
use Rattle.dump_streams.specs.Reading.{HasRead, AddsStep, GoesOn}
use Rattle.dump_streams.specs.declared.reader.ListingReader.{ListingReader}
use Rattle.dump_streams.proofs.DumpFronts.{next_of_goes_on}
use Rattle.dump_streams.proofs.NextTrees.{IsNext, IsFirstWrite, IsLaterWrite, IsLaterName, named_entry, tree_of_make}
use Rattle.dump_streams.proofs.NextTrees.{tree_of_first, later_leads, name_leads}
use Rattle.dump_streams.specs.Streams.{Extends, IsNext as IsNextOf}
use Rattle.dump_streams.specs.declared.fault.StreamFault.{StreamFault}
use Rattle.host_folders.specs.FoundEntries.{own_attributes, link_attributes, entries_of, paths_of}
use Rattle.host_folders.specs.FolderState.{FolderState, IsObservable, ReadsFile, IsOpened, OpensFile, IsAsked}
use Rattle.host_folders.specs.FolderState.{whole_files}
use Rattle.host_folders.specs.Packed.{HasFiles, ReadsFiles, IsPacked, IsCut, IsSoFar, AreAnswers, CameOf}
use Rattle.host_folders.specs.Steps.{Gives, IsPiece, place_behind}
use Rattle.host_folders.specs.declared.found.Found.{Found}
use Rattle.host_folders.specs.declared.found.FoundKind.TheVariants as kinds
use Rattle.host_folders.specs.declared.stream.FolderStream.{FolderStream}
use Rattle.host_folders.specs.declared.stream.Place.{Place}
use Rattle.host_folders.specs.declared.stream.Place.TheVariants as places
use Rattle.host_folders.proofs.EntryLemmas.{folder_more, file_more, link_more, EndsWithFile, ends_with_file}
use Rattle.host_folders.proofs.EntryLemmas.{entries_length}

-- some parameters of version 2
some_parameters : Parameters
some_parameters = record { slots = 1; height = 1; kind = draws.Sha256; seed = []; version = Two }

-- a step that the reader of a stream took
pub record IsTakenBy (reader : ListingReader) (t : Tree) (c : DumpStep) : Type 0 where
  pub read : (p : Parameters) → p.version ≡ Two → HasRead reader (after_step t c) p
  pub version : reader.version ≡ Two
  pub extends : Extends t c
  pub is_tree : IsTree t
  pub parameters : Parameters
  pub next : IsNext t parameters c

-- as many entries came as were begun
cut_count : (begun : List Found) (last : Found) (attributes : Attributes) (count : ℕ) (whole t : Tree)
    → IsCut begun last attributes count whole t → length t ≡ length whole
cut_count begun last attributes count whole t cut =
    let part : Path × Entry = (last.path, named_entry cut.node (take count attributes)) in
    let all : Path × Entry = (last.path, named_entry cut.node attributes) in
    ap length cut.so_far
    ∙ omega (arith, length-append cut.front (part ∷ []), length-append cut.front (all ∷ []), ap length cut.whole_is)

so_far_count : (place : Place) (begun : List Found) (whole t : Tree) → IsSoFar place begun whole t
    → length t ≡ length whole
so_far_count places.Start begun whole t came = ap length came
so_far_count (places.Piece found at) begun whole t came = cut_count begun found (own_attributes found) 0 whole t came.0
so_far_count (places.Attribute found index) begun whole t came =
    cut_count begun found (own_attributes found) index whole t came
so_far_count (places.Target found target) begun whole t came =
    cut_count begun found (link_attributes target) 0 whole t came

-- the first of a list, one more and all
one_more : {X : Type 0} (xs : List X) (n : ℕ) (x : X) → slice_get xs n ≡ Some x → take (n + 1) xs ≡ take n xs ++ x ∷ []
one_more xs n x here = take_more xs n x (slice_get_within xs n x here)
    ∙ ap (λ y. take n xs ++ y ∷ []) (get_or_from_slice_get xs n x x here)

no_more : {X : Type 0} (xs : List X) (n : ℕ) → slice_get xs n ≡ None → take n xs ≡ xs
no_more [] zero none = refl
no_more [] (suc n) none = refl
no_more (x ∷ xs) zero none = cc
no_more (x ∷ xs) (suc n) none = ap (λ ys. x ∷ ys) (no_more xs n none)

-- whole files, one more
whole_more : (files : List (Path × List ℕ)) (path : Path) (bytes : List ℕ)
    → whole_files (files ++ (path, bytes) ∷ []) ≡ whole_files files ++ (path, bytes, true) ∷ []
whole_more files path bytes = map-append (λ (file : Path × List ℕ). (file.0, file.1, true)) files ((path, bytes) ∷ [])

-- behind a piece of a file
place_of : Bool → Found → ℕ → Place
place_of whole found end = if whole then places.Attribute found 0 else places.Piece found end

cut_behind : (is_whole : Bool) (begun : List Found) (found : Found) (end : ℕ) (whole t : Tree)
    → IsCut begun found (own_attributes found) 0 whole t → 0 < end → (len : ℕ) × (found.kind ≡ kinds.File len)
    → IsSoFar (place_of is_whole found end) begun whole t
unfolding place_of
cut_behind true begun found end whole t cut some kind = cut
cut_behind false begun found end whole t cut some kind = (cut, some, kind)

answers_behind : (whole : Bool) (found : Found) (end : ℕ) (before : List (Path × List ℕ)) (path : Path) (bytes : List ℕ)
    → AreAnswers (place_of whole found end) (before ++ (path, bytes) ∷ [])
    (whole_files before ++ (path, bytes, whole) ∷ [])
unfolding place_of
answers_behind true found end before path bytes = sym (whole_more before path bytes)
answers_behind false found end before path bytes = (before, path, bytes, false, refl, refl)

no_bytes : (bytes : List ℕ) → length bytes ≡ 0 → bytes ≡ []
no_bytes [] none = refl
no_bytes (b ∷ bytes) none = absurd (omega (arith, none))

-- what the folder told of a file of which more bytes came
read_more : (first old now : FolderState) (before : List (Path × List ℕ × Bool)) (links : List (Path × List ℕ))
    (path : Path) (bytes more : List ℕ) (was_ended is_ended : Bool)
    → ReadsFiles first old (before ++ (path, bytes, was_ended) ∷ []) links → ReadsFile old now more is_ended
    → ReadsFiles first now (before ++ (path, bytes ++ more, is_ended) ∷ []) links
read_more first old now before links path bytes more was_ended is_ended reads piece = record {
  listed = piece.listed ∙ reads.listed;
  targets = piece.targets ∙ reads.targets;
  read = piece.read (first.read ++ before) path bytes was_ended
      (reads.read ∙ sym (append_assoc first.read before ((path, bytes, was_ended) ∷ [])))
      ∙ append_assoc first.read before ((path, bytes ++ more, is_ended) ∷ []);
}

-- ---- the trees that steps lead to

-- the first bytes of a file
first_tree : (t : Tree) (path : Path) (bytes : List ℕ) → IsFirstWrite t path 0 bytes ⊎ IsLaterWrite t path 0 bytes
    → after_step t (Write path 0 bytes) ≡ t ++ (path, named_entry (File bytes) []) ∷ []
first_tree t path bytes (inl first) = tree_of_first t path bytes first.next
first_tree t path bytes (inr later) =
    let at = later.at_is in
    let full = later.full in
    absurd (omega (arith, at, full))

-- further ones
later_tree : (t front : Tree) (path last : Path) (at : ℕ) (first bytes : List ℕ) → IsTree t → 0 < at
    → IsFirstWrite t path at bytes ⊎ IsLaterWrite t path at bytes
    → t ≡ front ++ (last, named_entry (File first) []) ∷ []
    → after_step t (Write path at bytes) ≡ front ++ (last, named_entry (File (first ++ bytes)) []) ∷ []
later_tree t front path last at first bytes tree further (inl write) split =
    let start = write.at_is in
    absurd (omega (arith, start, further))
later_tree t front path last at first bytes tree further (inr later) split =
    let same = same_from_push later.before front (path, named_entry (File later.content) [])
    (last, named_entry (File first) []) (sym later.entries_are ∙ split) in
    let before : later.before ≡ front = same.0 in
    let nodes : File later.content ≡ File first = ap (λ (e : Path × Entry). e.1.node) same.1 in
    let content : later.content ≡ first = cc in
    let place : path ≡ last = ap (λ (e : Path × Entry). e.0) same.1 in
    later_leads t path at bytes later tree
    ∙ ap₂ (λ (b : Tree) (x : Path). b ++ (x, named_entry (File (later.content ++ bytes)) []) ∷ []) before place
    ∙ ap (λ (old : List ℕ). front ++ (last, named_entry (File (old ++ bytes)) []) ∷ []) content

-- an attribute
name_tree : (t front : Tree) (p : Parameters) (path last : Path) (name : Name) (bytes : List ℕ) (node : Node)
    (attributes : Attributes) → IsTree t → IsLaterName t p path name bytes
    → t ≡ front ++ (last, named_entry node attributes) ∷ []
    → after_step t (Set path name bytes) ≡ front
    ++ (last, named_entry node (attributes ++ (name, bytes) ∷ [])) ∷ []
name_tree t front p path last name bytes node attributes tree later split =
    let same = same_from_push later.before front (path, named_entry later.node later.attributes)
    (last, named_entry node attributes) (sym later.entries_are ∙ split) in
    let before : later.before ≡ front = same.0 in
    let place : path ≡ last = ap (λ (e : Path × Entry). e.0) same.1 in
    let nodes : later.node ≡ node = ap (λ (e : Path × Entry). e.1.node) same.1 in
    let names : later.attributes ≡ attributes = ap (λ (e : Path × Entry). e.1.attributes) same.1 in
    name_leads t p path name bytes later tree
    ∙ ap₂ (λ (b : Tree) (x : Path). b ++ (x, named_entry later.node (later.attributes ++ (name, bytes) ∷ [])) ∷ [])
    before place
    ∙ ap₂ (λ (n : Node) (a : Attributes). front ++ (last, named_entry n (a ++ (name, bytes) ∷ [])) ∷ []) nodes names

-- ---- answers of a stream

pub next_given : (old new done : Tree → Type 0) (failed_by : Tree → StreamFault → Type 0) (c : DumpStep)
    → Gives {E = StreamFault} old new c (Ok tt) → IsNextOf old new done failed_by c (Ok true)
next_given old new done failed_by c gives = record {
  came = gives.came;
  extends = gives.extends;
  whole = λ t was. tt;
  failed = λ t was. tt;
}

pub next_whole : (old new done : Tree → Type 0) (failed_by : Tree → StreamFault → Type 0) (c : DumpStep)
    → ((t : Tree) → old t → done t) → IsNextOf old new done failed_by c (Ok false)
next_whole old new done failed_by c whole = record {
  came = λ t was. tt;
  extends = λ t was. tt;
  whole = whole;
  failed = λ t was. tt;
}

pub next_behind : (old mid new done : Tree → Type 0) (failed_by : Tree → StreamFault → Type 0) (c : DumpStep)
    (result : Result Bool StreamFault) → ((t : Tree) → old t → mid t) → IsNextOf mid new done failed_by c result
    → IsNextOf old new done failed_by c result
next_behind old mid new done failed_by c result passes next = record {
  came = λ t was. next.came t (passes t was);
  extends = λ t was. next.extends t (passes t was);
  whole = λ t was. next.whole t (passes t was);
  failed = λ t was. next.failed t (passes t was);
}

module _ {F : Type 0} (state_of : F → FolderState) where
  pub taken_by : (old : FolderStream F) (reader : ListingReader) (t : Tree) (c : DumpStep) → CameOf state_of old t
      → AddsStep old.reader reader c true → IsTakenBy reader t c
  unfolding some_parameters
  taken_by old reader t c was adds =
      let has = was.read some_parameters refl in
      let goes : GoesOn t c some_parameters = adds.goes_on t some_parameters has in
      record {
        read = λ p two. adds.read t p (was.read p two);
        version = adds.version ∙ was.version;
        extends = record { is_tree = (goes.under).is_tree; dump_is = goes.dump_is };
        is_tree = (has.under).is_tree;
        parameters = some_parameters;
        next = next_of_goes_on t c some_parameters has.under goes;
      }

  -- nothing came of a new stream
  pub came_of_none : (stream : FolderStream F) → stream.folder ≡ stream.first.value → stream.at ≡ 0
      → stream.place ≡ places.Start → stream.reader.version ≡ Two
      → ((p : Parameters) → p.version ≡ Two → HasRead stream.reader empty_tree p)
      → CameOf state_of stream empty_tree
  unfolding entries_of paths_of
  came_of_none stream same at place version read = record {
    read = read;
    version = version;
    observable = ap (λ (folder : F). (state_of folder).is_observable) same;
    faults = ap (λ (folder : F). (state_of folder).faults) same;
    within = omega (arith, at);
    files = [];
    links = [];
    whole = [];
    entries = subst (λ n. HasFiles (take n stream.found.items) [] [] []) (sym at) (record {
      paths = refl;
      asked = refl;
      valid = λ k d within. absurd (omega (arith, within));
      tree = refl;
    });
    so_far = subst (λ (p : Place). IsSoFar p (take stream.at stream.found.items) [] []) (sym place) refl;
    told = λ observable. record {
      answers = [];
      reads = record {
        listed = ap (λ (folder : F). (state_of folder).listed) same;
        read = ap (λ (folder : F). (state_of folder).read) same ∙ sym (append-nil (state_of stream.first.value).read);
        targets = ap (λ (folder : F). (state_of folder).targets) same
            ∙ sym (append-nil (state_of stream.first.value).targets);
      };
      are = subst (λ (p : Place). AreAnswers p [] []) (sym place) refl;
    };
  }

  -- the entries that came where none is under way
  at_start : (stream : FolderStream F) (t : Tree) → stream.place ≡ places.Start → (was : CameOf state_of stream t)
      → HasFiles (take stream.at stream.found.items) was.files was.links t
  at_start stream t place was =
      let begun = take stream.at stream.found.items in
      let all : t ≡ was.whole = subst (λ (p : Place). IsSoFar p begun was.whole t) place was.so_far in
      subst (λ (u : Tree). HasFiles begun was.files was.links u) (sym all) was.entries

  -- all came
  pub came_whole : (stream : FolderStream F) (t : Tree) → stream.place ≡ places.Start → vec_len stream.found ≤ stream.at
      → CameOf state_of stream t → IsPacked state_of stream t
  unfolding some_parameters
  came_whole stream t place all was =
      let found : take stream.at stream.found.items ≡ stream.found.items =
      take_all stream.at stream.found.items (omega (arith, stream.found.ok.0)) in
      record {
        is_tree = ((was.read some_parameters refl).under).is_tree;
        files = was.files;
        links = was.links;
        entries = subst (λ (fs : List Found). HasFiles fs was.files was.links t) found (at_start stream t place was);
        faults = was.faults;
        told = λ observable.
            let tells = was.told observable in
            let are : AreAnswers places.Start was.files tells.answers =
            subst (λ (p : Place). AreAnswers p was.files tells.answers) place tells.are in
            record {
              listed = (tells.reads).listed;
              read = (tells.reads).read
                  ∙ ap (λ (answers : List (Path × List ℕ × Bool)). (state_of stream.first.value).read ++ answers) are;
              targets = (tells.reads).targets;
            };
      }

  -- as many entries came as were begun
  pub came_length : (stream : FolderStream F) (t : Tree) → CameOf state_of stream t → stream.at ≡ length t
  came_length stream t was =
      let begun = take stream.at stream.found.items in
      let came = so_far_count stream.place begun was.whole t was.so_far in
      let all = ap length (was.entries).tree
      ∙ entries_length begun (map (λ (file : Path × List ℕ). file.1) was.files)
      (map (λ (link : Path × List ℕ). link.1) was.links) in
      let within = was.within in
      let ok = stream.found.ok.0 in
      let taken = length-take-le stream.at stream.found.items (omega (arith, within, ok)) in
      omega (arith, came, all, taken)

  -- what is taken where an entry is begun
  pub record IsBegun (old : FolderStream F) (found : Found) : Type 0 where
    pub start : old.place ≡ places.Start
    pub more : old.at < vec_len old.found
    pub here : take (old.at + 1) old.found.items ≡ take old.at old.found.items ++ found ∷ []

  -- a folder is made
  pub gives_folder : {E : Type 0} (old : FolderStream F) (found : Found) (reader : ListingReader) → IsBegun old found
      → found.kind ≡ kinds.Folder → AddsStep old.reader reader (Make found.path) true
      → Gives {E = E} (CameOf state_of old)
      (CameOf state_of (record old { at = old.at + 1; place = places.Attribute found 0; reader = reader }))
      (Make found.path) (Ok tt)
  gives_folder old found reader begins kind adds = record {
    came = λ t was.
        let taken = taken_by old reader t (Make found.path) was adds in
        let begun = take old.at old.found.items in
        let leads : after_step t (Make found.path) ≡ t ++ (found.path, named_entry Directory []) ∷ [] =
        tree_of_make t found.path taken.next in
        let all = t ++ (found.path, named_entry Directory (own_attributes found)) ∷ [] in
        record {
          read = taken.read;
          version = taken.version;
          observable = was.observable;
          faults = was.faults;
          within = let more = begins.more in omega (arith, more);
          files = was.files;
          links = was.links;
          whole = all;
          entries = subst (λ (fs : List Found). HasFiles fs was.files was.links all) (sym begins.here)
              (folder_more begun was.files was.links t found (at_start old t begins.start was) kind);
          so_far = record {
            before = begun;
            begun_is = begins.here;
            front = t;
            node = Directory;
            whole_is = refl;
            so_far = leads;
          };
          told = λ observable.
              let tells = was.told observable in
              record {
                answers = tells.answers;
                reads = tells.reads;
                are = subst (λ (p : Place). AreAnswers p was.files tells.answers) begins.start tells.are;
              };
        };
    extends = λ t was. (taken_by old reader t (Make found.path) was adds).extends;
  }

  -- what the folder told of a file that was opened and of which the first piece was read
  opened_reads : (first before opened now : FolderState) (answers : List (Path × List ℕ × Bool))
      (links : List (Path × List ℕ)) (path : Path) (bytes : List ℕ) (is_ended : Bool)
      → ReadsFiles first before answers links → OpensFile before opened path → ReadsFile opened now bytes is_ended
      → ReadsFiles first now (answers ++ (path, bytes, is_ended) ∷ []) links
  opened_reads first before opened now answers links path bytes is_ended reads opens piece = record {
    listed = piece.listed ∙ opens.listed ∙ reads.listed;
    targets = piece.targets ∙ opens.targets ∙ reads.targets;
    read = piece.read before.read path [] false opens.read
        ∙ ap (λ (all : List (Path × List ℕ × Bool)). all ++ (path, bytes, is_ended) ∷ []) reads.read
        ∙ append_assoc first.read answers ((path, bytes, is_ended) ∷ []);
  }

  -- a file is opened, and its first piece is written
  pub gives_file : {E : Type 0} (old : FolderStream F) (found : Found) (len told : ℕ) (opened now : F) (c : DumpStep)
      (count : ℕ) (reader : ListingReader) → IsBegun old found → found.kind ≡ kinds.File len
      → IsOpened (state_of old.folder) (state_of opened) found.path (Ok told)
      → (state_of now).is_observable ≡ (state_of opened).is_observable
      → (state_of now).faults ≡ (state_of opened).faults
      → IsPiece (state_of opened) (state_of now) found.path 0 c count → AddsStep old.reader reader c true
      → Gives {E = E} (CameOf state_of old)
      (CameOf state_of (record old {
        folder = now;
        at = old.at + 1;
        place = place_behind found 0 count;
        told = told;
        reader = reader;
      })) c (Ok tt)
  unfolding place_of
  gives_file old found len told opened now c count reader begins kind opens same calm piece adds = record {
    came = λ t was.
        let taken = taken_by old reader t c was adds in
        let bytes = piece.bytes in
        let next : IsFirstWrite t found.path 0 bytes ⊎ IsLaterWrite t found.path 0 bytes =
        subst (λ (d : DumpStep). IsNext t taken.parameters d) piece.step_is taken.next in
        let leads : after_step t c ≡ t ++ (found.path, named_entry (File bytes) []) ∷ [] =
        ap (after_step t) piece.step_is ∙ first_tree t found.path bytes next in
        let begun = take old.at old.found.items in
        let all = t ++ (found.path, named_entry (File bytes) (own_attributes found)) ∷ [] in
        let whole = nat_lt count dump_piece in
        record {
          read = taken.read;
          version = taken.version;
          observable = same ∙ opens.observable ∙ was.observable;
          faults = calm ∙ opens.faults ∙ was.faults;
          within = let more = begins.more in omega (arith, more);
          files = was.files ++ (found.path, bytes) ∷ [];
          links = was.links;
          whole = all;
          entries = subst (λ (fs : List Found). HasFiles fs (was.files ++ (found.path, bytes) ∷ []) was.links all)
              (sym begins.here)
              (file_more begun was.files was.links t found len bytes (at_start old t begins.start was) kind);
          so_far = cut_behind whole (take (old.at + 1) old.found.items) found (min (0 + dump_piece) (2 ^ 32 - 1)) all
              (after_step t c) (record {
                before = begun;
                begun_is = begins.here;
                front = t;
                node = File bytes;
                whole_is = refl;
                so_far = leads;
              }) (omega arith) (len, kind);
          told = λ observable.
              let tells = was.told observable in
              let here : IsObservable (state_of old.folder) = subst IsTrue (sym was.observable) observable in
              let there : IsObservable (state_of opened) = subst IsTrue (sym opens.observable) here in
              let are : tells.answers ≡ whole_files was.files =
              subst (λ (p : Place). AreAnswers p was.files tells.answers) begins.start tells.are in
              record {
                answers = whole_files was.files ++ (found.path, bytes, whole) ∷ [];
                reads = subst (λ (answers : List (Path × List ℕ × Bool)).
                    ReadsFiles (state_of old.first.value) (state_of now) (answers ++ (found.path, bytes, whole) ∷ [])
                    was.links)
                    are
                    (opened_reads (state_of old.first.value) (state_of old.folder) (state_of opened)
                    (state_of now) tells.answers was.links found.path bytes whole
                    tells.reads (opens.opened here) (piece.told there));
                are = answers_behind whole found (min (0 + dump_piece) (2 ^ 32 - 1)) was.files found.path bytes;
              };
        };
    extends = λ t was. (taken_by old reader t c was adds).extends;
  }

  -- ---- behind the beginning of an entry

  -- what came of a file that still is read
  pub record IsInFile (stream : FolderStream F) (t : Tree) (found : Found) (files links : List (Path × List ℕ))
      (whole : Tree) : Type 0 where
    pub cut : IsCut (take stream.at stream.found.items) found (own_attributes found) 0 whole t
    pub len : ℕ
    pub kind_is : found.kind ≡ kinds.File len
    pub ends : EndsWithFile cut.before files links whole found
    pub so_far : t ≡ ends.front ++ (found.path, named_entry (File ends.bytes) []) ∷ []
    pub told : IsObservable (state_of stream.first.value)
        → (answers : List (Path × List ℕ × Bool)) × (is_ended : Bool)
        × (answers ≡ whole_files ends.before ++ (found.path, ends.bytes, is_ended) ∷ [])
        × ReadsFiles (state_of stream.first.value) (state_of stream.folder) answers links

  in_file : (stream : FolderStream F) (t : Tree) (found : Found) (at : ℕ) → stream.place ≡ places.Piece found at
      → (was : CameOf state_of stream t)
      → IsInFile stream t found was.files was.links was.whole
  in_file stream t found at place was =
      let begun = take stream.at stream.found.items in
      let came : IsSoFar (places.Piece found at) begun was.whole t =
      subst (λ (p : Place). IsSoFar p begun was.whole t) place was.so_far in
      let cut = came.0 in
      let kind = came.2 in
      let ends = ends_with_file cut.before was.files was.links was.whole found kind.0
      (subst (λ (fs : List Found). HasFiles fs was.files was.links was.whole) cut.begun_is was.entries) kind.1 in
      let last = same_from_push cut.front ends.front
      (found.path, named_entry cut.node (own_attributes found))
      (found.path, named_entry (File ends.bytes) (own_attributes found)) (sym cut.whole_is ∙ ends.tree) in
      record {
        cut = cut;
        len = kind.0;
        kind_is = kind.1;
        ends = ends;
        so_far = cut.so_far
            ∙ ap₂ (λ (front : Tree) (e : Path × Entry). front ++ (found.path, named_entry (e.1.node) []) ∷ [])
            last.0 last.1;
        told = λ observable.
            let tells = was.told observable in
            let are : AreAnswers (places.Piece found at) was.files tells.answers =
            subst (λ (p : Place). AreAnswers p was.files tells.answers) place tells.are in
            let same = same_from_push are.0 ends.before (are.1, are.2) (found.path, ends.bytes)
            (sym are.4 ∙ ends.files_are) in (
              tells.answers,
              are.3,
              are.5
                  ∙ ap₂ (λ (before : List (Path × List ℕ)) (last : Path × List ℕ). whole_files before
                  ++ (last.0, last.1, are.3) ∷ []) same.0 same.1,
              tells.reads,
            );
      }

  -- the file was at its end
  pub passes_file : (old : FolderStream F) (t : Tree) (found : Found) (at : ℕ) (now : F) (c : DumpStep) (count : ℕ)
      → old.place ≡ places.Piece found at → (state_of now).is_observable ≡ (state_of old.folder).is_observable
      → (state_of now).faults ≡ (state_of old.folder).faults
      → IsPiece (state_of old.folder) (state_of now) found.path at c count → count ≡ 0 → CameOf state_of old t
      → CameOf state_of (record old { folder = now; place = places.Attribute found 0 }) t
  passes_file old t found at now c count place same calm piece none was =
      let inside = in_file old t found at place was in
      let ends = inside.ends in
      let nothing : piece.bytes ≡ [] = no_bytes piece.bytes (sym piece.count_is ∙ none) in
      let last : nat_lt count dump_piece ≡ true = ap (λ n. nat_lt n dump_piece) none in
      record {
        read = was.read;
        version = was.version;
        observable = same ∙ was.observable;
        faults = calm ∙ was.faults;
        within = was.within;
        files = was.files;
        links = was.links;
        whole = was.whole;
        entries = was.entries;
        so_far = inside.cut;
        told = λ observable.
            let told = inside.told observable in
            let here : IsObservable (state_of old.folder) = subst IsTrue (sym was.observable) observable in
            let reads = read_more (state_of old.first.value) (state_of old.folder) (state_of now)
            (whole_files ends.before) was.links found.path ends.bytes piece.bytes told.1 (nat_lt count dump_piece)
            (subst (λ (a : List (Path × List ℕ × Bool)).
            ReadsFiles (state_of old.first.value) (state_of old.folder) a was.links) told.2 told.3) (piece.told here) in
            record {
              answers = whole_files was.files;
              reads = subst (λ (a : List (Path × List ℕ × Bool)).
                  ReadsFiles (state_of old.first.value) (state_of now) a was.links)
                  (ap₂ (λ (bytes : List ℕ) (b : Bool). whole_files ends.before
                  ++ (found.path, ends.bytes ++ bytes, b) ∷ []) nothing last
                  ∙ ap (λ (bytes : List ℕ). whole_files ends.before ++ (found.path, bytes, true) ∷ [])
                  (append-nil ends.bytes)
                  ∙ sym (ap whole_files ends.files_are ∙ whole_more ends.before found.path ends.bytes)) reads;
              are = refl;
            };
      }

  -- a piece more of a file is written
  pub gives_piece : {E : Type 0} (old : FolderStream F) (found : Found) (at : ℕ) (now : F) (c : DumpStep) (count : ℕ)
      (reader : ListingReader) → old.place ≡ places.Piece found at
      → (state_of now).is_observable ≡ (state_of old.folder).is_observable
      → (state_of now).faults ≡ (state_of old.folder).faults
      → IsPiece (state_of old.folder) (state_of now) found.path at c count → AddsStep old.reader reader c true
      → Gives {E = E} (CameOf state_of old)
      (CameOf state_of (record old { folder = now; place = place_behind found at count; reader = reader })) c
      (Ok tt)
  unfolding place_of
  gives_piece old found at now c count reader place same calm piece adds = record {
    came = λ t was.
        let taken = taken_by old reader t c was adds in
        let inside = in_file old t found at place was in
        let ends = inside.ends in
        let bytes = piece.bytes in
        let whole = nat_lt count dump_piece in
        let further : 0 < at =
        (subst (λ (p : Place). IsSoFar p (take old.at old.found.items) was.whole t) place was.so_far).1 in
        let next : IsFirstWrite t found.path at bytes ⊎ IsLaterWrite t found.path at bytes =
        subst (λ (d : DumpStep). IsNext t taken.parameters d) piece.step_is taken.next in
        let leads : after_step t c ≡ ends.front ++ (found.path, named_entry (File (ends.bytes ++ bytes)) []) ∷ [] =
        ap (after_step t) piece.step_is ∙ later_tree t ends.front found.path found.path at ends.bytes bytes
        taken.is_tree further next inside.so_far in
        let all = ends.front ++ (found.path, named_entry (File (ends.bytes ++ bytes)) (own_attributes found)) ∷ [] in
        record {
          read = taken.read;
          version = taken.version;
          observable = same ∙ was.observable;
          faults = calm ∙ was.faults;
          within = was.within;
          files = ends.before ++ (found.path, ends.bytes ++ bytes) ∷ [];
          links = was.links;
          whole = all;
          entries = subst (λ (fs : List Found).
              HasFiles fs (ends.before ++ (found.path, ends.bytes ++ bytes) ∷ []) was.links all)
              (sym (inside.cut).begun_is)
              (file_more (inside.cut).before ends.before was.links ends.front found inside.len (ends.bytes ++ bytes)
              ends.has inside.kind_is);
          so_far = cut_behind whole (take old.at old.found.items) found (min (at + dump_piece) (2 ^ 32 - 1)) all
              (after_step t c) (record {
                before = (inside.cut).before;
                begun_is = (inside.cut).begun_is;
                front = ends.front;
                node = File (ends.bytes ++ bytes);
                whole_is = refl;
                so_far = leads;
              }) (omega arith) (inside.len, inside.kind_is);
          told = λ observable.
              let told = inside.told observable in
              let here : IsObservable (state_of old.folder) = subst IsTrue (sym was.observable) observable in
              record {
                answers = whole_files ends.before ++ (found.path, ends.bytes ++ bytes, whole) ∷ [];
                reads = read_more (state_of old.first.value) (state_of old.folder) (state_of now)
                    (whole_files ends.before) was.links found.path ends.bytes bytes told.1 whole
                    (subst (λ (a : List (Path × List ℕ × Bool)).
                    ReadsFiles (state_of old.first.value) (state_of old.folder) a was.links) told.2 told.3)
                    (piece.told here);
                are = answers_behind whole found (min (at + dump_piece) (2 ^ 32 - 1))
                    ends.before found.path (ends.bytes ++ bytes);
              };
        };
    extends = λ t was. (taken_by old reader t c was adds).extends;
  }

  -- ---- attributes

  -- the attribute at an index is given
  pub gives_attribute : {E : Type 0} (old : FolderStream F) (found : Found) (index : ℕ) (name : Name) (bytes : List ℕ)
      (reader : ListingReader) → old.place ≡ places.Attribute found index
      → slice_get (own_attributes found) index ≡ Some (name, bytes)
      → AddsStep old.reader reader (Set found.path name bytes) true
      → Gives {E = E} (CameOf state_of old)
      (CameOf state_of (record old { place = places.Attribute found (index + 1); reader = reader }))
      (Set found.path name bytes) (Ok tt)
  gives_attribute old found index name bytes reader place here adds = record {
    came = λ t was.
        let taken = taken_by old reader t (Set found.path name bytes) was adds in
        let attributes : Attributes = own_attributes found in
        let cut : IsCut (take old.at old.found.items) found attributes index was.whole t =
        subst (λ (p : Place). IsSoFar p (take old.at old.found.items) was.whole t) place was.so_far in
        record {
          read = taken.read;
          version = taken.version;
          observable = was.observable;
          faults = was.faults;
          within = was.within;
          files = was.files;
          links = was.links;
          whole = was.whole;
          entries = was.entries;
          so_far = record {
            before = cut.before;
            begun_is = cut.begun_is;
            front = cut.front;
            node = cut.node;
            whole_is = cut.whole_is;
            so_far = name_tree t cut.front taken.parameters found.path found.path name bytes cut.node
                (take index attributes) taken.is_tree taken.next cut.so_far
                ∙ ap (λ (a : Attributes). cut.front ++ (found.path, named_entry cut.node a) ∷ [])
                (sym (one_more attributes index (name, bytes) here));
          };
          told = λ observable.
              let tells = was.told observable in
              record {
                answers = tells.answers;
                reads = tells.reads;
                are = subst (λ (p : Place). AreAnswers p was.files tells.answers) place tells.are;
              };
        };
    extends = λ t was. (taken_by old reader t (Set found.path name bytes) was adds).extends;
  }

  -- an entry with all of its attributes is whole
  pub passes_entry : (old : FolderStream F) (t : Tree) (found : Found) (index : ℕ)
      → old.place ≡ places.Attribute found index → slice_get (own_attributes found) index ≡ None
      → CameOf state_of old t → CameOf state_of (record old { place = places.Start }) t
  passes_entry old t found index place none was =
      let cut : IsCut (take old.at old.found.items) found (own_attributes found) index was.whole t =
      subst (λ (p : Place). IsSoFar p (take old.at old.found.items) was.whole t) place was.so_far in
      record {
        read = was.read;
        version = was.version;
        observable = was.observable;
        faults = was.faults;
        within = was.within;
        files = was.files;
        links = was.links;
        whole = was.whole;
        entries = was.entries;
        so_far = cut.so_far
            ∙ ap (λ (a : Attributes). cut.front ++ (found.path, named_entry cut.node a) ∷ [])
            (no_more (own_attributes found) index none)
            ∙ sym cut.whole_is;
        told = λ observable.
            let tells = was.told observable in
            record {
              answers = tells.answers;
              reads = tells.reads;
              are = subst (λ (p : Place). AreAnswers p was.files tells.answers) place tells.are;
            };
      }

  -- ---- links

  -- a link is asked, and the empty file is written that stands for it
  pub gives_link : {E : Type 0} (old : FolderStream F) (found : Found) (now : F) (target : List ℕ)
      (reader : ListingReader) → IsBegun old found → found.kind ≡ kinds.Link
      → IsAsked (state_of old.folder) (state_of now) found.path (Ok target)
      → AddsStep old.reader reader (Write found.path 0 []) true
      → Gives {E = E} (CameOf state_of old)
      (CameOf state_of (record old {
        folder = now;
        at = old.at + 1;
        place = places.Target found target;
        told = 0;
        reader = reader;
      })) (Write found.path 0 []) (Ok tt)
  gives_link old found now target reader begins kind asks adds = record {
    came = λ t was.
        let taken = taken_by old reader t (Write found.path 0 []) was adds in
        let begun = take old.at old.found.items in
        let leads : after_step t (Write found.path 0 []) ≡ t ++ (found.path, named_entry (File []) []) ∷ [] =
        first_tree t found.path [] taken.next in
        let all = t ++ (found.path, named_entry (File []) (link_attributes target)) ∷ [] in
        record {
          read = taken.read;
          version = taken.version;
          observable = asks.observable ∙ was.observable;
          faults = asks.faults ∙ was.faults;
          within = let more = begins.more in omega (arith, more);
          files = was.files;
          links = was.links ++ (found.path, target) ∷ [];
          whole = all;
          entries = subst (λ (fs : List Found). HasFiles fs was.files (was.links ++ (found.path, target) ∷ []) all)
              (sym begins.here)
              (link_more begun was.files was.links t found target (at_start old t begins.start was) kind asks.valid);
          so_far = record {
            before = begun;
            begun_is = begins.here;
            front = t;
            node = File [];
            whole_is = refl;
            so_far = leads;
          };
          told = λ observable.
              let tells = was.told observable in
              let here : IsObservable (state_of old.folder) = subst IsTrue (sym was.observable) observable in
              let told = asks.told here in
              record {
                answers = tells.answers;
                reads = record {
                  listed = told.listed ∙ (tells.reads).listed;
                  read = told.read ∙ (tells.reads).read;
                  targets = told.targets
                      ∙ ap (λ (links : List (Path × List ℕ)). links ++ (found.path, target) ∷ []) (tells.reads).targets
                      ∙ append_assoc (state_of old.first.value).targets was.links ((found.path, target) ∷ []);
                };
                are = subst (λ (p : Place). AreAnswers p was.files tells.answers) begins.start tells.are;
              };
        };
    extends = λ t was. (taken_by old reader t (Write found.path 0 []) was adds).extends;
  }

  -- the link gets its attribute
  pub gives_target : {E : Type 0} (old : FolderStream F) (found : Found) (target : List ℕ) (reader : ListingReader)
      → old.place ≡ places.Target found target → AddsStep old.reader reader (Set found.path link_name target) true
      → Gives {E = E} (CameOf state_of old) (CameOf state_of (record old { place = places.Start; reader = reader }))
      (Set found.path link_name target) (Ok tt)
  gives_target old found target reader place adds = record {
    came = λ t was.
        let taken = taken_by old reader t (Set found.path link_name target) was adds in
        let cut : IsCut (take old.at old.found.items) found (link_attributes target) 0 was.whole t =
        subst (λ (p : Place). IsSoFar p (take old.at old.found.items) was.whole t) place was.so_far in
        record {
          read = taken.read;
          version = taken.version;
          observable = was.observable;
          faults = was.faults;
          within = was.within;
          files = was.files;
          links = was.links;
          whole = was.whole;
          entries = was.entries;
          so_far = name_tree t cut.front taken.parameters found.path found.path link_name target cut.node []
              taken.is_tree taken.next cut.so_far ∙ sym cut.whole_is;
          told = λ observable.
              let tells = was.told observable in
              record {
                answers = tells.answers;
                reads = tells.reads;
                are = subst (λ (p : Place). AreAnswers p was.files tells.answers) place tells.are;
              };
        };
    extends = λ t was. (taken_by old reader t (Set found.path link_name target) was adds).extends;
  }
