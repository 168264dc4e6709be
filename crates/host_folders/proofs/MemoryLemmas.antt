-- What a folder in memory tells.
use Rattle.std.proofs.Common.{◌≡◌, ℕ, ◌+◌, ◌<◌, ◌≤◌, min, max, cond, get_or, option_map, List, [], ◌∷◌, ◌++◌, map}
use Rattle.std.proofs.Common.{length, take, drop, nat_eq, Bool, true, false, not, ◌&&◌, refl, sym, ◌∙◌, ap, subst}
use Rattle.std.proofs.Common.{arith, Some, option_to_list, Option}
use Rattle.std.specs.Bool.{IsTrue}
use Rattle.std.specs.List.{find}
use Rattle.std.specs.Cmp.Lexicographic.{pointwise}
use Rattle.std.proofs.lemmas.List.{map-append, same_from_push, take_at, length-take, drop_more, drop-drop, get_or-map}
use Rattle.std.proofs.Math.Seq.{take-add}
use Rattle.store_model.specs.Paths.{Path, is_root, parent, same_path}
use Rattle.path_keys.specs.PathOrder.{paths_ties}
use Rattle.host_folders.specs.FolderState.{ReadsFile}
use Rattle.host_folders.specs.Memory.{is_child, bytes_at, came_of, folder_state, bytes_of, left_of}
use Rattle.host_folders.specs.Memory.{ReadsLeft}
use Rattle.host_folders.specs.declared.memory.MemEntry.{MemEntry}
use Rattle.host_folders.specs.declared.memory.MemFolder.{MemFolder}
use Rattle.host_folders.specs.declared.memory.Reading.{Reading}

not_root : (p : Path) → (IsTrue (is_root p) → true ≡ false) → is_root p ≡ false
not_root [] h = h refl
not_root (n ∷ p) h = refl

-- what is compared to find a child
pub child_is : (p q m : Path) (b : Bool) → (IsTrue (is_root p) → true ≡ false) → m ≡ parent p
    → b ≡ pointwise (pointwise nat_eq) m q → b ≡ is_child p q
child_is p q m b below m_is b_is =
    b_is ∙ paths_ties m q ∙ ap (λ (x : Path). same_path x q) m_is
    ∙ sym (ap (λ (r : Bool). not r && same_path (parent p) q) (not_root p below))

-- what came of the file that is open, once more of it came
pub read_on : (entries : List MemEntry) (closed : List Reading) (file : Reading) (left piece rest : List ℕ)
    (count : ℕ) (is_ended : Bool)
    → left ≡ drop file.at (bytes_at entries file.entry) → piece ≡ take count left → count ≤ length left
    → (before : List (Path × List ℕ × Bool)) (path : Path) (bytes : List ℕ) (was_ended : Bool)
    → map (came_of entries) (closed ++ file ∷ []) ≡ before ++ (path, bytes, was_ended) ∷ []
    → map (came_of entries) (closed ++ record {
      path = file.path;
      entry = file.entry;
      at = file.at + count;
      is_ended = is_ended;
    } ∷ [])
    ≡ before ++ (path, bytes ++ take count (piece ++ rest), is_ended) ∷ []
read_on entries closed file left piece rest count is_ended left_is piece_is fits before path bytes was_ended h =
    let f : Reading → Path × List ℕ × Bool = came_of entries in
    let all = bytes_at entries file.entry in
    let later : Reading = record { path = file.path; entry = file.entry; at = file.at + count; is_ended = is_ended } in
    let same = same_from_push (map f closed) before (f file) (path, bytes, was_ended)
    (sym (map-append f closed (file ∷ [])) ∙ h) in
    let piece_came : take count (piece ++ rest) ≡ take count (drop file.at all) =
    take_at piece rest count (ap length piece_is ∙ length-take count left ∙ omega arith) ∙ piece_is
    ∙ ap (λ (xs : List ℕ). take count xs) left_is in
    let more : f later ≡ (path, bytes ++ take count (piece ++ rest), is_ended) =
    ap (λ (came : List ℕ). let entry : Path × List ℕ × Bool = (file.path, came, is_ended) in entry)
    (take-add file.at count all)
    ∙ ap (λ (entry : Path × List ℕ × Bool). let longer : Path × List ℕ × Bool =
    (entry.0, entry.1 ++ take count (drop file.at all), is_ended) in longer) same.1
    ∙ ap (λ (came : List ℕ). let entry : Path × List ℕ × Bool = (path, bytes ++ came, is_ended)
    in entry) (sym piece_came) in
    map-append f closed (later ∷ []) ∙ ap (λ (xs : List (Path × List ℕ × Bool)). xs ++ f later ∷ []) same.0
    ∙ ap (λ (x : Path × List ℕ × Bool). before ++ x ∷ []) more

-- a read of a folder whose call was counted
pub reads_file : (old counted : MemFolder) (calls : ℕ) (file : Reading) (left piece rest : List ℕ)
    (count : ℕ) (is_ended : Bool)
    → counted ≡ record old { calls = calls } → counted.file ≡ Some file
    → left ≡ drop file.at (bytes_at counted.entries.items file.entry)
    → piece ≡ take count left → count ≤ length left
    → ReadsFile (folder_state old)
    (folder_state (record counted {
      file =
          Some (record { path = file.path; entry = file.entry; at = file.at + count; is_ended = is_ended });
    }))
    (take count (piece ++ rest)) is_ended
reads_file old counted calls file left piece rest count is_ended same file_is left_is piece_is fits =
    let P : MemFolder → Type 0 = λ m. m.file ≡ Some file → left ≡ drop file.at (bytes_at m.entries.items file.entry)
    → ReadsFile (folder_state old)
    (folder_state (record m {
      file =
          Some (record { path = file.path; entry = file.entry; at = file.at + count; is_ended = is_ended });
    }))
    (take count (piece ++ rest)) is_ended in
    subst P (sym same) (λ is_open here. record {
      listed = refl;
      targets = refl;
      read = λ before path bytes was_ended h. read_on old.entries.items old.closed.items file left piece rest count
          is_ended here piece_is fits before path bytes was_ended
          (sym (ap (λ (o : Option Reading). map (came_of old.entries.items) (old.closed.items ++ option_to_list o))
          is_open) ∙ h);
    }) file_is left_is

-- ---- the file that is opened

-- what is compared to find a file
pub file_is_at : (p q : Path) (test is_file answer : Bool) → test ≡ pointwise (pointwise nat_eq) p q → test ≡ true
    → answer ≡ is_file → answer ≡ (same_path p q && is_file)
file_is_at p q test is_file answer test_is is answer_is =
    answer_is ∙ ap (λ (b : Bool). b && is_file) (sym is ∙ test_is ∙ paths_ties p q)

pub file_is_not_at : (p q : Path) (test is_file : Bool) → test ≡ pointwise (pointwise nat_eq) p q → test ≡ false
    → test ≡ (same_path p q && is_file)
file_is_not_at p q test is_file test_is is = is ∙ ap (λ (b : Bool). b && is_file) (sym is ∙ test_is ∙ paths_ties p q)

-- an entry that is not sought is passed over
pub passed_over : (is : MemEntry → Bool) (entries : List MemEntry) (place : ℕ) (x : MemEntry)
    → place < length entries → x ≡ get_or entries place x → is x ≡ false
    → find is (drop place entries) ≡ find is (drop (place + 1) entries)
passed_over is entries place x in_range x_is other =
    ap (find is) (drop_more entries place x in_range
    ∙ ap (λ (e : MemEntry). e ∷ drop (place + 1) entries) (sym x_is))
    ∙ ap (λ (b : Bool). cond b (Some x) (find is (drop (place + 1) entries))) other

-- and one that is sought is found
pub found_here : (is : MemEntry → Bool) (entries : List MemEntry) (place : ℕ) (x : MemEntry)
    → place < length entries → x ≡ get_or entries place x → is x ≡ true
    → find is (drop place entries) ≡ find is entries → Some (bytes_at entries place) ≡ bytes_of is entries
found_here is entries place x in_range x_is here before =
    let bytes = λ (e : MemEntry). e.bytes.items in
    ap Some (get_or-map bytes entries place x [] in_range ∙ ap bytes (sym x_is))
    ∙ ap (λ (b : Bool). option_map bytes (cond b (Some x) (find is (drop (place + 1) entries))))
    (sym here)
    ∙ ap (λ (es : List MemEntry). option_map bytes (find is es))
    (sym (drop_more entries place x in_range ∙ ap (λ (e : MemEntry). e ∷ drop (place + 1) entries) (sym x_is)))
    ∙ ap (option_map bytes) before

-- ---- what is left of a file

-- the file that is open, of a folder whose call was counted
left_before : (old counted : MemFolder) (calls : ℕ) (file : Reading) (left : List ℕ)
    → counted ≡ record old { calls = calls } → counted.file ≡ Some file
    → left ≡ drop file.at (bytes_at counted.entries.items file.entry) → left_of old ≡ Some (file.path, left)
left_before old counted calls file left same is left_is =
    ap (option_map (λ (r : Reading). let pair : Path × List ℕ = (r.path, drop r.at (bytes_at old.entries.items r.entry))
    in pair)) (sym (ap (λ (m : MemFolder). m.file) same) ∙ is)
    ∙ ap (λ (xs : List ℕ). let pair : Path × List ℕ = (file.path, xs) in Some pair)
    (ap (λ (m : MemFolder). drop file.at (bytes_at m.entries.items file.entry)) (sym same) ∙ sym left_is)

pub reads_left : (old counted : MemFolder) (calls : ℕ) (file : Reading) (left piece rest : List ℕ)
    (count : ℕ) (is_ended : Bool)
    → counted ≡ record old { calls = calls } → counted.file ≡ Some file
    → left ≡ drop file.at (bytes_at counted.entries.items file.entry)
    → piece ≡ take count left → count ≤ length left
    → count ≡ min (min (length (piece ++ rest)) (max counted.piece 1)) (length left)
    → ReadsLeft old
    (record counted {
      file = Some (record {
        path = file.path;
        entry = file.entry;
        at = file.at + count;
        is_ended = is_ended;
      });
    }) (piece ++ rest) count
reads_left old counted calls file left piece rest count is_ended same is left_is piece_is fits count_is = record {
  path = file.path;
  left = left;
  before = left_before old counted calls file left same is left_is;
  count_is = count_is ∙ ap (λ (m : MemFolder). min (min (length (piece ++ rest)) (max m.piece 1)) (length left)) same;
  bytes = take_at piece rest count (ap length piece_is ∙ length-take count left ∙ omega arith) ∙ piece_is;
  after = ap (λ (xs : List ℕ). let pair : Path × List ℕ = (file.path, xs) in Some pair)
      (sym (drop-drop count file.at (bytes_at counted.entries.items file.entry)) ∙ ap (drop count) (sym left_is));
}
